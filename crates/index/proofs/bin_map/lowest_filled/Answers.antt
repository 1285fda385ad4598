-- `index::bin_map::lowest_filled` meets its contract. The trailing zeros of the whole map.
-- Assumes nothing.
use Rattle.std.proofs.Common.{sym, ap, ◌∙◌}
use Rattle.index.specs.BinMap.{in_map}
use Rattle.index.specs.BinMapLaws.{first_all}
use Rattle.index.proofs.bin_map.lowest_filled.Goals as goal

pub returns : goal.returns
returns c = c.in_map.ensures ∙ ap (in_map 32) (sym (first_all 32 c.args.map))
