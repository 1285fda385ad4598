-- `index::bin_map::least_bit` meets its contract. `x & -x`, by `least_word` at 32 bits.
-- Assumes nothing.
use Rattle.index.specs.BinMapLaws.{least_word}
use Rattle.index.proofs.bin_map.least_bit.Goals as goal

pub returns : goal.returns
returns c = rw c.wrapping_add_u32.ensures.value (least_word 32 _ c.ranges.x.fits)
