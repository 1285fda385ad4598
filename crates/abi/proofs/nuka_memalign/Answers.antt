use Rattle.std.proofs.Common.{rules}
use Rattle.abi.proofs.nuka_memalign.Goals as goal

pub returns : goal.returns
returns c = c.on_record.ensures _ (λ r w r' w' a p. search rules)
