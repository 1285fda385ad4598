use Rattle.binned.proofs.TreesCode.{Trees}
use Rattle.binned.proofs.trees.tree_bins_ok.Given as goal

abbrev pub invariant-loop-i : goal.invariant-loop-i
invariant-loop-i l = Trees l.r l.w l.fn.m l.i l.m l.sizes
