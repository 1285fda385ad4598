-- `index::bin_map::left_bits` meets its contract. `y | -y` with y = `x << 1`, by `left_word` at 32 bits.
-- The needs are answered by their places. A wrapping sum asks nothing; a plain one would ask in the same place that it fits, which is false at 0.
-- Assumes nothing.
use Rattle.std.proofs.Common.{lit<}
use Rattle.index.specs.BinMapLaws.{left_word}
use Rattle.index.proofs.bin_map.left_bits.Goals as goal

pub returns : goal.returns
returns c = rw c.wrapping_add_u32.ensures.value (left_word 32 c.args.x (lit< tt))
