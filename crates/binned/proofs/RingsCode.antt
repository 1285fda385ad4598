-- Rings: one law for each way out of the walk, and one for a turn. Assumes nothing.
use mathlib.Core.Bool.{Bool, true, false}
use mathlib.Core.List.{List}
use mathlib.Core.Path.{◌≡◌, refl, sym, ap, ◌∙◌}
use Prim.Native.Nat.{ℕ, zero, suc, ◌+◌, ◌-◌, ◌*◌, ◌%◌, ◌^◌, ◌≤◌, ◌<◌}
use native.Mathlib.Nat.{mod-eq_of_lt}
use native.Mathlib.Omega.{arith}
use lib.Dec.{eqb}
use lib.Pow.{pow_mono}
use borrow.Author.Tests.{eq-eqb, ne_eqb}
use Rattle.words.specs.Edition.{wide}
use Rattle.tries.specs.Bits.{wid, wid_pow}
use Rattle.chunk.specs.Bytes.{word}
use Rattle.marks.specs.Marks.{checked, take_mark, turns, answer}
use Rattle.binned.specs.BinsBytes.{member_ok, ring_ok}

-- ---- a ring: after i turns the ring from here is the ring from its tree member's next

pub record Rings (w : List ℕ) (i n t : ℕ) (m₀ : List ℕ) (c last : ℕ) (m : List ℕ) (k : ℕ) : Type 0 where
  pub same : ring_ok wide w i n t (turns - k) c last m ≡ ring_ok wide w i n t turns (word wide w t 3) t m₀

module _ (w : List ℕ) (i n t : ℕ) where
  ring_zero : (left c last : ℕ) (m : List ℕ) → left ≤ 0 → ring_ok wide w i n t left c last m ≡ checked false m
  unfolding ring_ok
  ring_zero zero c last m l = refl
  ring_zero (suc k) c last m l = absurd (omega arith)

  ring_closes : (left c last : ℕ) (m : List ℕ) → 0 < left → c ≡ t → ring_ok wide w i n t left c last m ≡ checked (eqb (word wide w t 2) last) m
  unfolding ring_ok
  ring_closes zero c last m l q = absurd (omega arith)
  ring_closes (suc k) c last m l q = rw (eq-eqb c t q) refl

  module _ (c last : ℕ) (m m₁ : List ℕ) (f : c ≡ t → ⊥) where
    ring_unmarked : (left : ℕ) → 0 < left → take_mark wide m c ≡ checked false m₁ → ring_ok wide w i n t left c last m ≡ checked false m₁
    unfolding ring_ok
    ring_unmarked zero l e = absurd (omega arith)
    ring_unmarked (suc k) l e = rw (ne_eqb c t f, e) refl

    ring_wrong : (left : ℕ) → 0 < left → take_mark wide m c ≡ checked true m₁ → member_ok wide w i n last c ≡ false → ring_ok wide w i n t left c last m ≡ checked false m₁
    unfolding ring_ok
    ring_wrong zero l e q = absurd (omega arith)
    ring_wrong (suc k) l e q = rw (ne_eqb c t f, e, q) refl

    ring_next : (k j : ℕ) → k ≡ suc j → take_mark wide m c ≡ checked true m₁ → member_ok wide w i n last c ≡ true
        → ring_ok wide w i n t k c last m ≡ ring_ok wide w i n t j (word wide w c 3) c m₁
    unfolding ring_ok
    ring_next k j l e q = ap (λ x. ring_ok wide w i n t x c last m) l ∙ rw (ne_eqb c t f, e, q) refl

pub ring_start : (w : List ℕ) (i n t : ℕ) (m : List ℕ) {c : ℕ} → c ≡ word wide w t 3 → Rings w i n t m c t m 0
ring_start w i n t m e = record { same = ap (λ x. ring_ok wide w i n t turns x t m) e }

module _ (w : List ℕ) (i n t : ℕ) (m₀ : List ℕ) (c last : ℕ) (m : List ℕ) (k : ℕ) (v : Rings w i n t m₀ c last m k) where
  pub ring_out : turns ≤ k → checked false m ≡ ring_ok wide w i n t turns (word wide w t 3) t m₀
  ring_out l = sym (ring_zero w i n t (turns - k) c last m (omega arith)) ∙ v.same

  module _ (l : k < turns) where
    pub ring_end : {y : ℕ} → c ≡ t → y ≡ word wide w t 2 → checked (eqb y last) m ≡ ring_ok wide w i n t turns (word wide w t 3) t m₀
    ring_end q z = ap (λ x. checked (eqb x last) m) z ∙ sym (ring_closes w i n t (turns - k) c last m (omega arith) q) ∙ v.same

    module _ (f : c ≡ t → ⊥) {x : Bool} {m₁ : List ℕ} (e : checked x m₁ ≡ take_mark wide m c) where
      pub ring_other : x ≡ false → checked false m₁ ≡ ring_ok wide w i n t turns (word wide w t 3) t m₀
      ring_other q = sym (ring_unmarked w i n t c last m m₁ f (turns - k) (omega arith) (answer e q)) ∙ v.same

      module _ (q : x ≡ true) {y : Bool} (e₁ : y ≡ member_ok wide w i n last c) where
        pub ring_bad : y ≡ false → checked false m₁ ≡ ring_ok wide w i n t turns (word wide w t 3) t m₀
        ring_bad z = sym (ring_wrong w i n t c last m m₁ f (turns - k) (omega arith) (answer e q) (sym e₁ ∙ z)) ∙ v.same

        pub ring_turn : {c₁ : ℕ} → y ≡ true → c₁ ≡ word wide w c 3 → Rings w i n t m₀ c₁ c m₁ (k + 1)
        ring_turn z u =
            record {
              same = ap (λ x. ring_ok wide w i n t (turns - (k + 1)) x c m₁) u
                  ∙ sym (ring_next w i n t c last m m₁ f (turns - k) (turns - (k + 1)) (omega arith) (answer e q) (sym e₁ ∙ z)) ∙ v.same;
            }

-- ---- the bytes of 2^k words

pub width_is : (k : ℕ) → k ≤ 24 → (8 * 2 ^ k) % 2 ^ 64 ≡ 8 * wid k
width_is k l = let b : 2 ^ k ≤ 2 ^ 24 = pow_mono l in mod-eq_of_lt (omega arith) ∙ ap (λ x. 8 * x) (sym (wid_pow k))

pub ruleset laws = (ring_start, ring_out, ring_end, ring_other, ring_bad, ring_turn)
