-- The bits of a size, and halves of an interval.
use Rattle.std.specs.Prelude.{◌≡◌, refl, Bool, true, false, ℕ, zero, suc, ◌+◌, ◌≤◌, ◌<◌, ◌*◌, ◌/◌, ◌%◌, ◌^◌, eqb}
use Rattle.std.proofs.Common.{sym, ◌∙◌, ⊎_elim, div-lt_iff_lt-mul, le-div_iff_mul-le, mul-add, add-mul}
use native.Mathlib.Omega.{arith}
use Rattle.std.proofs.Math.Nat.{pow-succ', suc-mul}
use borrow.Author.Tests.{eq-eqb, ne_eqb}
use Rattle.words.specs.Logic.{lt_or_le, false-true}

-- the width of an interval whose k low bits vary
abbrev pub wid : ℕ → ℕ
wid zero = 1
wid (suc k) = wid k + wid k

-- bit k of s is set
unfoldable pub bit : ℕ → ℕ → Bool
bit k s = eqb ((s / wid k) % 2) 1

pub wid_pow : (k : ℕ) → wid k ≡ 2 ^ k
wid_pow zero = refl
wid_pow (suc k) = omega (arith, wid_pow k, pow-succ' 2 k)

pub wid_pos : (k : ℕ) → 1 ≤ wid k
wid_pos zero = omega arith
wid_pos (suc k) = omega (arith, wid_pos k)

-- lo is a multiple of the width
abbrev pub Aligned : ℕ → ℕ → Type 0
Aligned k lo = (c : ℕ) × (lo ≡ c * wid k)

pub aligned_left : (k lo : ℕ) → Aligned (suc k) lo → Aligned k lo
aligned_left k lo a = (a.0 + a.0, omega (arith, a.1, mul-add a.0 (wid k) (wid k), add-mul a.0 a.0 (wid k)))

pub aligned_right : (k lo : ℕ) → Aligned (suc k) lo → Aligned k (lo + wid k)
aligned_right k lo a =
    (suc (a.0 + a.0), omega (arith, a.1, mul-add a.0 (wid k) (wid k), add-mul a.0 a.0 (wid k), suc-mul (a.0 + a.0) (wid k)))

module _ (k lo s : ℕ) (a : Aligned (suc k) lo) (low : lo ≤ s) (high : s < lo + (wid k + wid k)) where
  two : a.0 * (wid k + wid k) ≡ (a.0 + a.0) * wid k
  two = omega (arith, mul-add a.0 (wid k) (wid k), add-mul a.0 a.0 (wid k))

  quot : (n : ℕ) → n * wid k ≤ s → s < suc n * wid k → s / wid k ≡ n
  quot n h₁ h₂ = omega (arith, (le-div_iff_mul-le {x = n} (wid_pos k)).1 h₁, (div-lt_iff_lt-mul {x = s} {y = suc n} (wid_pos k)).1 h₂)

  -- below the middle the bit is clear, from there on it is set
  pub bit-clear : s < lo + wid k → bit k s ≡ false
  unfolding bit
  bit-clear h = ne_eqb (s / wid k % 2) 1 (omega (arith, quot (a.0 + a.0) (omega (arith, two, a.1)) (omega (arith, two, a.1, suc-mul (a.0 + a.0) (wid k)))))

  pub bit_set : lo + wid k ≤ s → bit k s ≡ true
  unfolding bit
  bit_set h =
      eq-eqb (s / wid k % 2) 1
      (omega (
        arith,
        quot (suc (a.0 + a.0)) (omega (arith, two, a.1, suc-mul (a.0 + a.0) (wid k)))
            (omega (arith, two, a.1, suc-mul (a.0 + a.0) (wid k), suc-mul (suc (a.0 + a.0)) (wid k))),
      ))

  pub below : bit k s ≡ false → s < lo + wid k
  below e = ⊎_elim (λ h. h) (λ h. absurd (false-true (sym e ∙ bit_set h))) (lt_or_le s (lo + wid k))

  pub above : bit k s ≡ true → lo + wid k ≤ s
  above e = ⊎_elim (λ h. absurd (false-true (sym (bit-clear h) ∙ e))) (λ h. h) (lt_or_le s (lo + wid k))
