use Rattle.std.proofs.Common.{rules}
use Rattle.recorded.proofs.SumsCode.{owned_walked}
use Rattle.recorded.proofs.look.owned_sum.Goals as goal

pub returns : goal.returns
returns c = owned_walked _ _ (c.walk-s.ensures _ (λ m d x t. search rules))
