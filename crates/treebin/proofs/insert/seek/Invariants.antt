use Rattle.treebin.proofs.InsertLaws.{Seek}
use Rattle.treebin.proofs.insert.seek.Given as goal

-- the way down from here is the way down from the root
abbrev pub invariant-loop : goal.invariant-loop
invariant-loop l = Seek l.h.words.now l.n l.initial.t.0 l.key l.t.0 l.k l.counter
