-- The bins of large chunks, and the way down a bin's tree, as plain arithmetic. The bin of a size is the last of the 32 whose smallest size it
-- reaches, so that leading zeros are the code's alone; `InBin` says the same of an index, as a range of sizes. B is the bits of a word (64,
-- and 32 in the other edition); the index does not depend on it. Definitions only; their laws are in `TreeBinLaws`. Assumes nothing.
use Rattle.std.specs.Prelude.{ℕ, zero, suc, ◌+◌, ◌-◌, ◌*◌, ◌/◌, ◌%◌, ◌^◌, ◌<◌, ◌≤◌, ◌==◌, nat_le}
use Rattle.words.specs.Logic.{pick}

-- the smallest size of bin i: 256, 384, 512, 768, 1024, 1536, ..
unfoldable pub min_size : ℕ → ℕ
min_size i = (2 + i % 2) * 2 ^ (i / 2 + 7)

-- the largest i up to n with f i ≤ x; 0 where there is none
unfoldable pub reach : (ℕ → ℕ) → ℕ → ℕ → ℕ
reach f zero x = zero
reach f (suc n) x = pick (nat_le (f (suc n)) x) (suc n) (reach f n x)

-- the bin of a size: the last of the 32 whose smallest size it reaches
unfoldable pub tree_index : ℕ → ℕ
unfolding reach
tree_index size = reach min_size 31 size

-- the same, said of an index: bin i is for the sizes from min_size i up to min_size (i + 1); bin 0 takes what is below it too, bin 31 has no end
pub record InBin (size i : ℕ) : Type 0 where
  pub last : i ≤ 31
  pub low : 0 < i → min_size i ≤ size
  pub high : i < 31 → size < min_size (suc i)

-- how far a size is shifted left to have its first branching bit on top
unfoldable pub left_shift : ℕ → ℕ → ℕ
left_shift B i = pick (i == 31) 0 (B - 1 - (i / 2 + 6))

-- the shifted size after d levels, and the child that a shifted size chooses: its highest bit
unfoldable pub key_at : ℕ → ℕ → ℕ → ℕ → ℕ
key_at B i size d = (size * 2 ^ (left_shift B i + d)) % 2 ^ B

abbrev pub side : ℕ → ℕ → ℕ
side B key = key / 2 ^ (B - 1)
