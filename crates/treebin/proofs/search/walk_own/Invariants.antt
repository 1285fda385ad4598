use Rattle.treebin.specs.SearchBytes.{best}
use Rattle.treebin.proofs.SearchLaws.{Walk}
use Rattle.treebin.proofs.search.walk_own.Given as goal

-- the walk from here, with what is found and passed by so far, is the whole walk; the levels left fall
abbrev pub invariant-loop-left : goal.invariant-loop-left
invariant-loop-left l = Walk l.w l.n l.initial.t.0 l.key l.t.0 l.k l.rest.0 (best l.b.at.0 l.b.rsize) l.left

abbrev pub decreases-loop-left : goal.decreases-loop-left
decreases-loop-left l = l.left
