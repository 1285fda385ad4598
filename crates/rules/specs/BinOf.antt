-- Which bin a size belongs to, in words, for both editions: small bin (size in bytes) / 8 below 256 bytes, else the tree of its index,
-- whose sizes are an interval [trie_low, trie_low + 2 ^ trie_bits). Assumes nothing.
use Rattle.std.specs.Prelude.{◌≡◌, refl, Bool, ℕ, zero, suc, ◌+◌, ◌*◌, ◌/◌, ◌%◌, ◌^◌, ◌≤◌, ◌<◌, ltb}
use Rattle.std.proofs.Common.{◌∙◌, ap, ⊎_elim, zero-le, arith, mul_left_comm, mul-add, suc-mul, pow-add}
use Rattle.words.specs.Edition.{Edition, W, wide, narrow}
use Rattle.words.specs.Logic.{same?}
use Rattle.index.specs.TreeBin.{min_size, tree_index, InBin}
use Rattle.index.specs.TreeBinLaws.{tree_in, tree_is, min_next, min_mono}
use Rattle.tries.specs.Bits.{wid, wid_pow, Aligned}
use Rattle.tries.specs.Shape.{Between}

abbrev pub is_small : Edition → ℕ → Bool
is_small e s = ltb (W e * s) 256

abbrev pub small_bin : Edition → ℕ → ℕ
small_bin e s = W e * s / 8

-- the one size of small bin i
abbrev pub bin_size : Edition → ℕ → ℕ
bin_size wide i = i
bin_size narrow i = 2 * i

abbrev pub trie_bin : Edition → ℕ → ℕ
trie_bin e s = tree_index (W e * s)

abbrev pub trie_bits : Edition → ℕ → ℕ
trie_bits wide i = i / 2 + 4
trie_bits narrow i = i / 2 + 5

unfoldable pub trie_low : Edition → ℕ → ℕ
trie_low e i = (2 + i % 2) * wid (trie_bits e i)

abbrev pub InTrie : Edition → ℕ → ℕ → Type 0
InTrie e i s = Between (trie_low e i) (trie_low e i + wid (trie_bits e i)) s

pub small_in : (e : Edition) (s : ℕ) → s % 2 ≡ 0 → W e * s < 256 → (small_bin e s < 32) × (bin_size e (small_bin e s) ≡ s)
small_in wide s v l = omega arith
small_in narrow s v l = omega arith

pub small_is : (e : Edition) (i : ℕ) → (W e * bin_size e i ≡ 8 * i) × (small_bin e (bin_size e i) ≡ i)
small_is wide i = omega arith
small_is narrow i = omega arith

-- the interval's width in bytes
wide_bytes : (e : Edition) (i : ℕ) → W e * wid (trie_bits e i) ≡ 2 ^ (i / 2 + 7)
wide_bytes wide i = let q : i / 2 + 7 ≡ (i / 2 + 4) + 3 = omega arith in rw q (omega (arith, wid_pow (i / 2 + 4), pow-add 2 (i / 2 + 4) 3))
wide_bytes narrow i = let q : i / 2 + 7 ≡ (i / 2 + 5) + 2 = omega arith in rw q (omega (arith, wid_pow (i / 2 + 5), pow-add 2 (i / 2 + 5) 2))

pub low_bytes : (e : Edition) (i : ℕ) → W e * trie_low e i ≡ min_size i
unfolding trie_low min_size
low_bytes e i = mul_left_comm (W e) (2 + i % 2) (wid (trie_bits e i)) ∙ ap (λ z. (2 + i % 2) * z) (wide_bytes e i)

high_bytes : (e : Edition) (i : ℕ) → W e * (trie_low e i + wid (trie_bits e i)) ≡ min_size (suc i)
unfolding min_size
high_bytes e i = mul-add (W e) (trie_low e i) (wid (trie_bits e i)) ∙ omega (arith, low_bytes e i, wide_bytes e i, next)
  where
    step : (3 + i % 2) * 2 ^ (i / 2 + 7) ≡ (2 + i % 2) * 2 ^ (i / 2 + 7) + 2 ^ (i / 2 + 7)
    step = let q : 3 + i % 2 ≡ suc (2 + i % 2) = omega arith in ap (λ z. z * 2 ^ (i / 2 + 7)) q ∙ suc-mul (2 + i % 2) (2 ^ (i / 2 + 7))

    next : min_size (suc i) ≡ min_size i + 2 ^ (i / 2 + 7)
    next = min_next i ∙ step

-- an order in bytes is the order in words
less : (e : Edition) (a b : ℕ) → W e * a < W e * b → a < b
less wide a b h = omega arith
less narrow a b h = omega arith

most : (e : Edition) (a b : ℕ) → W e * a ≤ W e * b → a ≤ b
most wide a b h = omega arith
most narrow a b h = omega arith

more : (e : Edition) (a b : ℕ) → a ≤ b → W e * a ≤ W e * b
more wide a b h = omega arith
more narrow a b h = omega arith

far : (e : Edition) (a b : ℕ) → a < b → W e * a < W e * b
far wide a b h = omega arith
far narrow a b h = omega arith

-- where the sizes of bin 31, which have no upper end, begin
unfoldable pub huge : ℕ
huge = 12582912

first_size : min_size 0 ≡ 256
unfolding min_size
first_size = refl

last_size : min_size 31 ≡ huge
unfolding min_size huge
last_size = refl

-- a large size is in the interval of its tree
pub trie_in : (e : Edition) (s : ℕ) → 256 ≤ W e * s → W e * s < huge → (trie_bin e s < 32) × InTrie e (trie_bin e s) s
trie_in e s lo hi =
    let i = trie_bin e s in
    let b = tree_in (W e * s) in
    let n : i < 31 = not_last (tree_in (W e * s)) in
    (omega arith, (most e (trie_low e i) s (omega (arith, low_bytes e i, low i b)), less e s (trie_low e i + wid (trie_bits e i)) (omega (arith, high_bytes e i, b.high n))))
  where
    not_last : InBin (W e * s) (trie_bin e s) → trie_bin e s < 31
    not_last b = ⊎_elim (λ z. absurd (omega (arith, b.low (omega arith), ap min_size z, last_size))) (λ z. omega (arith, b.last)) (same? (trie_bin e s) 31)

    low : (i : ℕ) → InBin (W e * s) i → min_size i ≤ W e * s
    low zero b = omega (arith, first_size)
    low (suc i) b = b.low (omega arith)

-- and in no other's
pub trie_is : (e : Edition) (i s : ℕ) → i < 32 → InTrie e i s → trie_bin e s ≡ i
trie_is e i s l b =
    tree_is (record {
      last = omega arith;
      low = λ _. omega (arith, low_bytes e i, more e (trie_low e i) s b.0);
      high = λ _. omega (arith, high_bytes e i, far e s (trie_low e i + wid (trie_bits e i)) b.1);
    })

-- which are all large, with room for eight words
pub trie_least : (e : Edition) (i s : ℕ) → InTrie e i s → (256 ≤ W e * s) × (8 ≤ s)
trie_least e i s b = let l : 256 ≤ W e * s = omega (arith, low_bytes e i, more e (trie_low e i) s b.0, min_mono {i = 0} {j = i} zero-le, first_size) in (l, room e s l)
  where
    room : (e : Edition) (s : ℕ) → 256 ≤ W e * s → 8 ≤ s
    room wide s h = omega arith
    room narrow s h = omega arith

pub trie_aligned : (e : Edition) (i : ℕ) → Aligned (trie_bits e i) (trie_low e i)
unfolding trie_low
trie_aligned e i = (2 + i % 2, refl)
