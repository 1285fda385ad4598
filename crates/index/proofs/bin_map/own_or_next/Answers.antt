-- `index::bin_map::own_or_next` meets its contract. The two low bits of `map >> i % 32` are bits i % 32 and i % 32 + 1 of the map, and
-- `!bits & 1` is the complement of the lower one.
-- Assumes nothing.
use Rattle.std.proofs.Common.{◌%◌, sym, ap, ◌∙◌, arith, lit<}
use Rattle.index.specs.Words.{and_one}
use Rattle.index.specs.BinMap.{in_map}
use Rattle.index.specs.BinMapLaws.{two_bits, not_low_bit, own_or_next_lem, own_or_none}
use Rattle.index.proofs.bin_map.own_or_next.Goals as goal

pub overflow_add-i : goal.overflow_add-i
overflow_add-i c = record { fits = rw and_one (omega arith) }

pub returns-then-bits-ne0 : goal.returns-then-bits-ne0
returns-then-bits-ne0 c =
    let i = c.args.i % 32 in
    let m = c.args.map in
    c.in_map.ensures
    ∙ ap (in_map 32)
    (rw (not_low_bit 32 i m (lit< tt) c.ranges.map.fits)
    (own_or_next_lem 32 m i (λ e. c.if-bits-ne0.true (two_bits i m ∙ e))))

pub returns-else-bits-ne0 : goal.returns-else-bits-ne0
returns-else-bits-ne0 c =
    let i = c.args.i % 32 in
    let m = c.args.map in
    sym (ap (in_map 32) (own_or_none 32 m i (sym (two_bits i m) ∙ c.if-bits-ne0.false)))
