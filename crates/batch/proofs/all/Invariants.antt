use Rattle.chunk.specs.Running.{SameLoans}
use Rattle.batch.specs.Working.{state}
use Rattle.batch.proofs.BatchCode.{Left}
use Rattle.batch.proofs.all.Given as goal

abbrev pub invariant-loop-i : goal.invariant-loop-i
invariant-loop-i l =
    SameLoans l.initial.heap l.heap × Left (state l.initial.heap l.initial.live) l.calls l.initial.answers l.n (state l.heap l.live) l.answers l.i
