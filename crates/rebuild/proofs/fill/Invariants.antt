use Rattle.rebuild.proofs.RebuildCode.{FillsOn}
use Rattle.chunk.specs.Running.{SameLoans}
use Rattle.words.specs.Edition.{wide}
use Rattle.rebuild.proofs.fill.Given as goal

abbrev pub invariant-loop : goal.invariant-loop
invariant-loop l = FillsOn wide l.top l.fn.h.image.now l.fn.h.words.now l.p l.h.image.now l.h.words.now l.counter × SameLoans l.fn.h l.h
