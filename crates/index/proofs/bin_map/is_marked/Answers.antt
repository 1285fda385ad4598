-- `index::bin_map::is_marked` meets its contract. `map & 2 ^ (i % 32)` is 2 ^ (i % 32) or 0 by the bit.
-- Assumes nothing.
use Rattle.std.proofs.Common.{◌%◌, lit<}
use Rattle.index.specs.Words.{one_shl_mod}
use Rattle.index.specs.BinMapLaws.{and_tests}
use Rattle.index.proofs.bin_map.is_marked.Goals as goal

pub returns : goal.returns
returns c = rw (one_shl_mod 32 c.args.i (lit< tt)) (and_tests (c.args.i % 32) c.args.map)
