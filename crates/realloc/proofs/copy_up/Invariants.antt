use Rattle.realloc.proofs.Laws.{Copying}
use Rattle.realloc.proofs.copy_up.Given as goal

abbrev pub invariant-loop-i : goal.invariant-loop-i
invariant-loop-i l = Copying l.initial.w l.a l.b l.n l.w l.i
