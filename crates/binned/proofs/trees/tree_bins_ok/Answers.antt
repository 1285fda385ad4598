use Rattle.binned.proofs.TreesCode.{trees_end, trees_bad, trees_turn}
use Rattle.binned.proofs.trees.tree_bins_ok.Goals as goal

pub returns-then-not-tree_bin_ok : goal.returns-then-not-tree_bin_ok
returns-then-not-tree_bin_ok c = trees_bad _ _ _ _ _ _ c.loop-i.invariant c.loop-i-test.true c.tree_bin_ok.ensures.marks c.if-not-tree_bin_ok.true

pub loop-i-preserved : goal.loop-i-preserved
loop-i-preserved c =
    trees_turn _ _ _ _ _ _ c.loop-i.invariant c.loop-i-test.true c.tree_bin_ok.ensures.marks c.if-not-tree_bin_ok.false c.tree_bin_ok.ensures.sizes

pub returns : goal.returns
returns c = trees_end _ _ _ _ _ _ c.loop-i.invariant c.loop-i-test.false
