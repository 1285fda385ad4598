-- `index::bin_map::with_bit` meets its contract. `1 << p` is 2 ^ p where p is a bit of a word, and `|` with that marks.
-- Assumes nothing.
use Rattle.std.proofs.Common.{◌<◌}
use Rattle.index.specs.Words.{one_shl}
use Rattle.index.specs.BinMapLaws.{or_marks}
use Rattle.index.proofs.bin_map.with_bit.Goals as goal

pub returns : goal.returns
returns r c =
    let below : c.bit_place.result < 64 = c.bit_place.ensures.in_the_word in
    rw (one_shl 64 c.bit_place.result below, c.bit_place.ensures.place) (or_marks _ _)
