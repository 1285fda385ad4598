-- The way down a tree settles a size: of two sizes of one bin whose ways agree for d levels, all digits agree but the lowest ones, and where the
-- ways part the size that goes to child 1 is the larger. In terms of the sides that `TreeBin` reads off the shifted size, for every number B
-- of bits of a word from 32 on. A tree's order, its depth and the best fit rest on it. Assumes nothing.
use Rattle.std.specs.Prelude.{◌≡◌, ℕ, zero, suc, ◌+◌, ◌-◌, ◌*◌, ◌/◌, ◌%◌, ◌^◌, ◌<◌, ◌≤◌}
use Rattle.std.proofs.Math.Path.{sym, ap, ap₂}
use Rattle.std.proofs.Common.{◌∙◌, subst, div-add-mod', lt_of_not-le, le_of_lt, add-one, shr-shr}
use Rattle.std.proofs.Math.Nat.{div-eq_of_lt, div-eq_of_lt-le, div-one}
use Rattle.std.proofs.Math.Decide.{dec_le, ℕ_discrete}
use native.Mathlib.Omega.{arith}
use Rattle.std.proofs.Math.Pow.{shr_mono}
use Rattle.index.specs.Bit.{bit}
use Rattle.index.specs.TreeBin.{min_size, InBin, left_shift, key_at, side}
use Rattle.index.specs.TreeBinLaws.{min_next, shift_last, shift_other, shift_lt, side-bit}

-- the child that a size of bin i goes to at depth d
abbrev pub side_at : ℕ → ℕ → ℕ → ℕ → ℕ
side_at B i s d = side B (key_at B i s d)

-- a number without its p low digits, by one digit more
pub digit_more : (n p : ℕ) → n / 2 ^ p ≡ n / 2 ^ suc p * 2 + bit p n
digit_more n p =
    sym (div-add-mod' (n / 2 ^ p) 2)
    ∙ ap (λ (x : ℕ). x * 2 + bit p n) (shr-shr n p 1 ∙ ap (λ (e : ℕ). n / 2 ^ e) (add-one p))

-- what every size of bin i shares: the digits from i / 2 + 7 on
pub bin_top : (s i : ℕ) → i < 31 → min_size i ≤ s → s < min_size (suc i) → s / 2 ^ (i / 2 + 7) ≡ 2 + i % 2
unfolding min_size
bin_top s i l lo hi =
    div-eq_of_lt-le (2 ^ (i / 2 + 7)) lo
    (subst (λ (x : ℕ). s < x) (min_next i ∙ ap (λ (c : ℕ). c * 2 ^ (i / 2 + 7)) (omega arith)) hi)

-- s is the size of a large chunk of bin i
pub record BinSize (B i s : ℕ) : Type 0 where
  pub bin : InBin s i
  pub large : 256 ≤ s
  pub fits : s < 2 ^ B

bin_low : (i : ℕ) {B s : ℕ} → BinSize B i s → min_size i ≤ s
unfolding min_size
bin_low zero b = b.large
bin_low (suc i) b = b.bin.low (omega arith)

-- how many digits are left to tell two sizes of bin i apart after d levels
unfoldable pub left : ℕ → ℕ → ℕ → ℕ
left B i d = B - (left_shift B i + d)

pub left_start : (B i : ℕ) → 32 ≤ B → i < 31 → left B i 0 ≡ i / 2 + 7
unfolding left
left_start B i w l = ap (λ (x : ℕ). B - (x + 0)) (shift_other B i (omega arith)) ∙ omega arith

module _ (B i s t : ℕ) (wide : 32 ≤ B) (bs : BinSize B i s) (bt : BinSize B i t) where
  start : s / 2 ^ left B i 0 ≡ t / 2 ^ left B i 0
  unfolding left
  start = go (ℕ_discrete i 31)
    where
      go : Dec (i ≡ 31) → s / 2 ^ left B i 0 ≡ t / 2 ^ left B i 0
      go (yes e) =
          let all : left B i 0 ≡ B = ap (λ (x : ℕ). B - (left_shift B x + 0)) e ∙ ap (λ (x : ℕ). B - (x + 0)) (shift_last B) ∙ omega arith in
          ap (λ (x : ℕ). s / 2 ^ x) all ∙ div-eq_of_lt bs.fits ∙ sym (ap (λ (x : ℕ). t / 2 ^ x) all ∙ div-eq_of_lt bt.fits)
      go (no f) =
          let l : i < 31 = omega (arith, bs.bin.last) in
          let e : left B i 0 ≡ i / 2 + 7 = left_start B i wide l in
          ap (λ (x : ℕ). s / 2 ^ x) e ∙ bin_top s i l (bin_low i bs) (bs.bin.high l)
          ∙ sym (ap (λ (x : ℕ). t / 2 ^ x) e ∙ bin_top t i l (bin_low i bt) (bt.bin.high l))

  left_next : (d : ℕ) → left_shift B i + d < B → left B i d ≡ suc (left B i (suc d))
  unfolding left
  left_next d h = omega arith

  -- a size, one level further down
  down : (n d : ℕ) → left_shift B i + d < B → n / 2 ^ left B i (suc d) ≡ n / 2 ^ left B i d * 2 + side_at B i n d
  unfolding left
  down n d h =
      digit_more n (left B i (suc d))
      ∙ ap₂ (λ (x y : ℕ). n / 2 ^ x * 2 + y) (sym (left_next d h)) (ap (λ (x : ℕ). bit x n) place ∙ sym (side-bit B i n d h))
    where
      place : left B i (suc d) ≡ B - 1 - (left_shift B i + d)
      place = omega arith

  -- the ways agree for d levels: so do all digits but those left
  pub path_prefix : (d : ℕ) → left_shift B i + d ≤ B → ((e : ℕ) → e < d → side_at B i s e ≡ side_at B i t e) → s / 2 ^ left B i d ≡ t / 2 ^ left B i d
  path_prefix zero h same = start
  path_prefix (suc d) h same =
      let l : left_shift B i + d < B = omega arith in
      down s d l ∙ ap₂ (λ (x y : ℕ). x * 2 + y) (path_prefix d (le_of_lt l) (λ e k. same e (omega arith))) (same d (omega arith)) ∙ sym (down t d l)

  -- the ways agree all the way down: the sizes are equal
  pub path_one : ((e : ℕ) → left_shift B i + e < B → side_at B i s e ≡ side_at B i t e) → s ≡ t
  unfolding left
  path_one same =
      let d : ℕ = B - left_shift B i in
      let h : left_shift B i + d ≤ B = omega (arith, shift_lt B i (omega arith)) in
      let none : left B i d ≡ 0 = omega arith in
      sym (ap (λ (x : ℕ). s / 2 ^ x) none ∙ div-one s)
      ∙ path_prefix d h (λ e k. same e (omega arith))
      ∙ ap (λ (x : ℕ). t / 2 ^ x) none ∙ div-one t

  -- the ways part at depth d: child 0 holds the smaller
  pub path_less : (d : ℕ) → left_shift B i + d < B → ((e : ℕ) → e < d → side_at B i s e ≡ side_at B i t e)
      → side_at B i s d ≡ 0 → side_at B i t d ≡ 1 → s < t
  path_less d h same zs ot = go (dec_le t s)
    where
      go : Dec (t ≤ s) → s < t
      go (no f) = lt_of_not-le f
      go (yes g) =
          absurd (omega (arith, shr_mono (left B i (suc d)) g, down s d h, down t d h, path_prefix d (le_of_lt h) same))
