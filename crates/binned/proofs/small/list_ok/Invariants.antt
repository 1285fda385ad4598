use Rattle.binned.proofs.SmallCode.{Lists}
use Rattle.binned.proofs.small.list_ok.Given as goal

abbrev pub invariant-loop : goal.invariant-loop
invariant-loop l = Lists l.w l.n l.fn.m l.initial.c.0 l.c.0 l.newer l.m l.counter
