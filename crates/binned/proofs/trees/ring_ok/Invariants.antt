use Rattle.binned.proofs.RingsCode.{Rings}
use Rattle.binned.proofs.trees.ring_ok.Given as goal

abbrev pub invariant-loop : goal.invariant-loop
invariant-loop l = Rings l.w l.i l.n l.t.0 l.fn.m l.c.0 l.last l.m l.counter
