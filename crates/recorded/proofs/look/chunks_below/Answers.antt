use Rattle.std.proofs.Common.{rules}
use Rattle.recorded.proofs.SumsCode.{count_walked}
use Rattle.recorded.proofs.look.chunks_below.Goals as goal

pub returns : goal.returns
returns c = count_walked _ _ (c.walk-n.ensures _ (λ m d x t. search rules))
