-- `index::sizes::align_up` meets its contract. `x & !(2 ^ k - 1)` keeps the multiples of 2 ^ k, by `round_code` at 64 bits.
-- Assumes nothing.
use Rattle.std.proofs.Common.{arith, pow_pos}
use Rattle.index.specs.SizesLaws.{round_code}
use Rattle.index.proofs.sizes.align_up.Goals as goal

pub overflow_sub-alignment : goal.overflow_sub-alignment
overflow_sub-alignment c = omega (arith, pow_pos c.requires.0)

pub overflow_sub-result : goal.overflow_sub-result
overflow_sub-result c = omega (arith, pow_pos c.requires.0)

pub returns : goal.returns
returns c =
    rw c.wrapping_add_u64.ensures.value (round_code 64 _ _ c.requires.0 c.requires.1 c.requires.2)
