use Rattle.std.proofs.Common.{refl}
use Rattle.arena.specs.Refusals.{row6}
use Rattle.arena.proofs.RefusalLaws.{block_is}
use Rattle.arena.proofs.refusals.granted.Goals as goal

pub returns-in-Some : goal.returns-in-Some
unfolding row6
returns-in-Some c = rw c.in-Some.is (block_is c.to_mem.ensures)

pub returns-in-None : goal.returns-in-None
unfolding row6
returns-in-None c = rw c.in-None.is refl
