-- `index::bin_map::filled_from` meets its contract. The mask has the bits from i % 32 on, so the lowest bit behind it is the first
-- filled bin from there.
-- Assumes nothing.
use Rattle.std.proofs.Common.{ap, ◌∙◌, arith, lit<}
use Rattle.index.specs.Words.{one_shl_mod}
use Rattle.index.specs.BinMap.{in_map}
use Rattle.index.specs.BinMapLaws.{from_word}
use Rattle.index.proofs.bin_map.filled_from.Goals as goal

pub returns : goal.returns
returns c =
    c.in_map.ensures
    ∙ ap (in_map 32)
    (rw (c.left_bits.ensures, one_shl_mod 32 c.args.i (lit< tt))
    (from_word 32 _ _ (omega arith) c.ranges.map.fits))
