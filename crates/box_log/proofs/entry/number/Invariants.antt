use Rattle.box_log.proofs.EntryCode.{Reading}
use Rattle.box_log.proofs.entry.number.Given as goal

abbrev pub invariant-loop-b : goal.invariant-loop-b
invariant-loop-b l = Reading l.s l.n l.rest l.b-index
