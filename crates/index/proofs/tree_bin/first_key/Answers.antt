-- `index::tree_bin::first_key` meets its contract. The definition at depth 0.
-- Assumes nothing.
use Rattle.std.proofs.Common.{◌%◌, add-zero, arith}
use Rattle.index.specs.TreeBin.{key_at}
use Rattle.index.specs.TreeBinLaws.{shift_lt}
use Rattle.index.proofs.tree_bin.first_key.Goals as goal

pub overflow_shl-result : goal.overflow_shl-result
overflow_shl-result c = omega (arith, c.leftshift_for_tree_index.ensures, shift_lt 64 (c.args.i % 32) (omega arith))

pub returns : goal.returns
unfolding key_at
returns c = rw (add-zero, c.leftshift_for_tree_index.ensures)
