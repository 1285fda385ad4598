-- `index::bin_map::clear_bin` meets its contract. `1 << i % 32` is 2 ^ (i % 32), and `&` with its complement clears.
-- Assumes nothing.
use Rattle.std.proofs.Common.{arith, lit<}
use Rattle.index.specs.Words.{one_shl_mod}
use Rattle.index.specs.BinMapLaws.{and_clears}
use Rattle.index.proofs.bin_map.clear_bin.Goals as goal

pub returns : goal.returns
returns c =
    rw (one_shl_mod 32 c.args.i (lit< tt))
    (and_clears 32 _ _ (omega arith) c.ranges.map.fits)
