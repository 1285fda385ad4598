-- `index::bin_map::without_bit` meets its contract. `1 << p` is 2 ^ p where p is a bit of a word, and `&` with its complement clears.
-- Assumes nothing.
use Rattle.std.proofs.Common.{◌<◌, subst}
use Rattle.index.specs.Words.{one_shl}
use Rattle.index.specs.BinMapLaws.{and_clears}
use Rattle.index.proofs.bin_map.without_bit.Goals as goal

pub returns : goal.returns
returns r c =
    let below : c.bit_place.result < 64 = c.bit_place.ensures.in_the_word in
    rw (one_shl 64 c.bit_place.result below, c.bit_place.ensures.place) (and_clears 64 _ _ (subst (λ x. x < 64) c.bit_place.ensures.place below) c.ranges.word.fits)
