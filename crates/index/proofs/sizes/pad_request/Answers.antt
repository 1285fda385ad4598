-- `index::sizes::pad_request` meets its contract. 16 is 2 ^ 4, and rounding up a sum that wrapped is `round_wrap`.
-- Assumes nothing.
use Rattle.std.proofs.Common.{refl, lit<, lit≤}
use Rattle.index.specs.SizesLaws.{round_wrap}
use Rattle.index.proofs.sizes.pad_request.Goals as goal

pub align_up-requires : goal.align_up-requires
align_up-requires c = (4, lit< tt, refl)

pub returns : goal.returns
returns c = rw (c.align_up.ensures, c.wrapping_add_u64.ensures.value) (round_wrap 64 4 _ (lit≤ tt))
