-- `index::tree_bin::leftshift_for_tree_index` meets its contract. Each branch is the definition's.
-- Assumes nothing.
use Rattle.std.proofs.Common.{sym, ap, ◌∙◌}
use Rattle.index.specs.TreeBin.{left_shift}
use Rattle.index.specs.TreeBinLaws.{shift_last, shift_other}
use Rattle.index.proofs.tree_bin.leftshift_for_tree_index.Goals as goal

pub returns-then-bin-eq31 : goal.returns-then-bin-eq31
returns-then-bin-eq31 c = sym (ap (left_shift 64) c.if-bin-eq31.true ∙ shift_last 64)

pub returns-else-bin-eq31 : goal.returns-else-bin-eq31
returns-else-bin-eq31 c = sym (shift_other 64 _ c.if-bin-eq31.false)
