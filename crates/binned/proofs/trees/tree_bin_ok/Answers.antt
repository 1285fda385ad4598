use Rattle.binned.proofs.TreesCode.{tree_root}
use Rattle.binned.proofs.trees.tree_bin_ok.Goals as goal

pub returns-else-t-clause-marks : goal.returns-else-t-clause-marks
returns-else-t-clause-marks c =
    tree_root _ _ _ _ _ c.bin_at-t.ensures c.bit_ok.ensures c.if-bit_ok.true c.requires c.min_size_for_tree_index.ensures c.tree_ok.ensures.marks
