use Rattle.live.proofs.LiveCode.{Filling}
use Rattle.live.proofs.fill.Given as goal

abbrev pub invariant-loop : goal.invariant-loop
invariant-loop l = Filling l.w l.top l.fn.m l.p l.counter l.m
