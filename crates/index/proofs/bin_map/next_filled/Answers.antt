-- `index::bin_map::next_filled` meets its contract. The mask has the bits above i % 32, so the lowest bit behind it is the next
-- filled bin.
-- Assumes nothing.
use Rattle.std.proofs.Common.{ap, ◌∙◌, arith, lit<}
use Rattle.index.specs.Words.{one_shl_mod}
use Rattle.index.specs.BinMap.{in_map}
use Rattle.index.specs.BinMapLaws.{next_word}
use Rattle.index.proofs.bin_map.next_filled.Goals as goal

pub returns : goal.returns
returns c =
    c.in_map.ensures
    ∙ ap (in_map 32)
    (rw (c.left_bits.ensures, one_shl_mod 32 c.args.i (lit< tt))
    (next_word 32 _ _ (omega arith) c.ranges.map.fits))
