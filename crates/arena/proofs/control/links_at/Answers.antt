use Rattle.std.proofs.Common.{arith, length-set}
use Rattle.arena.proofs.RecordCode.{linked_next, linked_all}
use Rattle.arena.proofs.control.links_at.Goals as goal

pub loop-i-preserved : goal.loop-i-preserved
loop-i-preserved c = (
  omega arith,
  simp length-set c.loop-i.invariant.1,
  linked_next c.loop-i.links c.args.r.now c.args.from c.loop-i.i (omega (arith, c.loop-i.invariant.1)) c.loop-i.invariant.2,
)

pub returns : goal.returns
returns c = linked_all c.loop-i.links c.args.r.now c.args.from c.loop-i.i c.loop-i.invariant.0 (omega arith) c.loop-i.invariant.1 c.loop-i.invariant.2
