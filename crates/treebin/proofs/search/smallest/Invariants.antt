use Rattle.treebin.specs.SearchBytes.{best}
use Rattle.treebin.proofs.SearchLaws.{Down}
use Rattle.treebin.proofs.search.smallest.Given as goal

-- the search from here, with what is found so far, is the whole search
abbrev pub invariant-loop : goal.invariant-loop
invariant-loop l = Down l.w l.n l.initial.t.0 (best l.initial.b.at.0 l.initial.b.rsize) l.t.0 (best l.b.at.0 l.b.rsize) l.counter
