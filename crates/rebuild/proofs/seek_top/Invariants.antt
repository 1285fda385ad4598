use Rattle.rebuild.proofs.RebuildCode.{Seeking}
use Rattle.words.specs.Edition.{wide}
use Rattle.rebuild.proofs.seek_top.Given as goal

abbrev pub invariant-loop : goal.invariant-loop
invariant-loop l = Seeking wide l.w l.end l.p l.pu l.counter
