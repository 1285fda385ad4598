-- `index::bin_map::mark_bin` meets its contract. `1 << i % 32` is 2 ^ (i % 32), and `|` with that marks.
-- Assumes nothing.
use Rattle.std.proofs.Common.{lit<}
use Rattle.index.specs.Words.{one_shl_mod}
use Rattle.index.specs.BinMapLaws.{or_marks}
use Rattle.index.proofs.bin_map.mark_bin.Goals as goal

pub returns : goal.returns
returns c = rw (one_shl_mod 32 c.args.i (lit< tt)) (or_marks _ _)
