-- The maps of filled bins: a number of w bits whose bit i is 1 exactly when bin i holds something. What it is to set and to clear a bit, the bits
-- left of one, the lowest one, the first filled bin from an index on, and the bin of a small need. Each is plain arithmetic on numbers, for
-- every width w (the maps have 32). Definitions only; their laws are in `BinMapLaws`. Assumes nothing.
use Rattle.std.specs.Prelude.{◌≡◌, ℕ, ◌+◌, ◌-◌, ◌*◌, ◌/◌, ◌%◌, ◌^◌, ◌<◌, ◌≤◌, Bool, true, false, ◌&&◌, ltb, leb, ◌==◌, Option, Some, None}
use Rattle.std.specs.Int.Count.{count_trailing_zeros}
use Rattle.words.specs.Logic.{pick}
use Rattle.index.specs.Bit.{bit, tell}

-- the map m says of each index below w what P says: THE tie between a map and the bins
abbrev pub Tells : ℕ → (ℕ → Bool) → ℕ → Type 0
Tells w P m = (i : ℕ) → i < w → bit i m ≡ tell (P i)

-- m with bit i set, and with bit i clear
unfoldable pub mark : ℕ → ℕ → ℕ
mark i m = m + (1 - bit i m) * 2 ^ i

unfoldable pub clear : ℕ → ℕ → ℕ
clear i m = m - bit i m * 2 ^ i

-- where bit i stands in a word of which w bits are used: i modulo w, a width from 1 to 64; for another width bit 0
abbrev pub bit_place : ℕ → ℕ → ℕ
bit_place w i = pick (ltb 0 w && leb w 64) (i % w) 0

-- `count_trailing_zeros w x` is the place of x's lowest set bit, and w for 0 (`lib.Count`; laws in `Digits`).
-- All bits left of x's lowest set bit: for x = 2 ^ i the bits i + 1 to w - 1; none for 0
unfoldable pub left_bits : ℕ → ℕ → ℕ
left_bits w x = 2 ^ w - 2 ^ (count_trailing_zeros w x + 1)

-- x's lowest set bit alone, 0 for 0
unfoldable pub least_bit : ℕ → ℕ → ℕ
least_bit w x = 2 ^ count_trailing_zeros w x % 2 ^ w

-- r is the least index from i on whose bit of m is set, or w where there is none
pub record First (w m i r : ℕ) : Type 0 where
  pub from : i ≤ r
  pub within : r ≤ w
  pub gap : (j : ℕ) → i ≤ j → j < r → bit j m ≡ 0
  pub hit : r < w → bit r m ≡ 1

-- the same, of bins: r is the least index from i on that is filled, or w where there is none
pub record FirstBin (w : ℕ) (P : ℕ → Bool) (i r : ℕ) : Type 0 where
  pub from : i ≤ r
  pub within : r ≤ w
  pub empty : (j : ℕ) → i ≤ j → j < r → P j ≡ false
  pub filled : r < w → P r ≡ true

-- that r, computed
unfoldable pub first_from : ℕ → ℕ → ℕ → ℕ
first_from w m i = i + count_trailing_zeros (w - i) (m / 2 ^ i)

-- the bin for a need of bin i, its own or the next one up: i, or i + 1 where only that is filled, or w where neither is
unfoldable pub own_or_next : ℕ → ℕ → ℕ → ℕ
own_or_next w m i = pick (bit i m == 1) i (pick (bit (i + 1) m == 1) (i + 1) w)

-- a place of a map of w bits; w, the answer where no bit is set, is none
abbrev pub in_map : ℕ → ℕ → Option ℕ
in_map w i = pick (ltb i w) (Some i) None
