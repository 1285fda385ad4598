-- `index::tree_bin::min_size_for_tree_index` meets its contract. By `min-word` at 64 bits; `bin & 1` is 0 or 1.
-- Assumes nothing.
use Rattle.std.proofs.Common.{◌%◌, arith}
use Rattle.index.specs.Words.{and_one}
use Rattle.index.specs.TreeBinLaws.{min-word}
use Rattle.index.proofs.tree_bin.min_size_for_tree_index.Goals as goal

pub overflow_cast-odd : goal.overflow_cast-odd
overflow_cast-odd c = record { fits = rw and_one (omega arith) }

pub returns : goal.returns
returns c = min-word 64 (c.args.i % 32) (omega arith)
