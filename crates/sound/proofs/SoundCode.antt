-- Where a live block starts: one law for each way out of the walk, and one for a turn. Assumes nothing.
use mathlib.Core.Bool.{Bool, false}
use mathlib.Core.List.{List}
use mathlib.Core.Path.{◌≡◌, refl, sym, ap, ◌∙◌}
use Prim.Native.Nat.{ℕ, zero, suc, ◌+◌, ◌-◌, ◌≤◌, ◌<◌}
use native.Mathlib.Omega.{arith}
use borrow.Author.Tests.{eq-eqb, ne_eqb, le-leb, lt-leb}
use Rattle.words.specs.Edition.{wide}
use Rattle.chunk.specs.Bytes.{size_b, cinuse_b}
use Rattle.marks.specs.Marks.{turns}
use Rattle.sound.specs.SoundBytes.{starts_at}

-- after i turns the walk from here is the walk
pub record Starting (w : List ℕ) (c p i : ℕ) : Type 0 where
  pub near : p ≤ c
  pub same : starts_at wide w (turns - i) p c ≡ starts_at wide w turns 0 c

module _ (w : List ℕ) (c : ℕ) where
  start_zero : (left p : ℕ) → left ≤ 0 → starts_at wide w left p c ≡ false
  unfolding starts_at
  start_zero zero p l = refl
  start_zero (suc k) p l = absurd (omega arith)

  start_here : (left p : ℕ) → 0 < left → p ≡ c → starts_at wide w left p c ≡ cinuse_b wide w p
  unfolding starts_at
  start_here zero p l q = absurd (omega arith)
  start_here (suc k) p l q = rw (eq-eqb p c q) refl

  start_over : (left p : ℕ) → 0 < left → (p ≡ c → ⊥) → c < p + size_b wide w p → starts_at wide w left p c ≡ false
  unfolding starts_at
  start_over zero p l q a = absurd (omega arith)
  start_over (suc k) p l q a = rw (ne_eqb p c q, lt-leb (p + size_b wide w p) c a) refl

  start_next : (k j p : ℕ) → k ≡ suc j → (p ≡ c → ⊥) → p + size_b wide w p ≤ c → starts_at wide w k p c ≡ starts_at wide w j (p + size_b wide w p) c
  unfolding starts_at
  start_next k j p l q a = ap (λ x. starts_at wide w x p c) l ∙ rw (ne_eqb p c q, le-leb (p + size_b wide w p) c a) refl

  pub starting : Starting w c 0 0
  starting = record { near = omega arith; same = refl }

  module _ (p i : ℕ) (v : Starting w c p i) where
    pub starts_out : turns ≤ i → false ≡ starts_at wide w turns 0 c
    starts_out l = sym (start_zero (turns - i) p (omega arith)) ∙ v.same

    module _ (l : i < turns) where
      pub starts_here : {x : Bool} → p ≡ c → x ≡ cinuse_b wide w p → x ≡ starts_at wide w turns 0 c
      starts_here q z = z ∙ sym (start_here (turns - i) p (omega arith) q) ∙ v.same

      module _ (q : p ≡ c → ⊥) {n : ℕ} (e : n ≡ size_b wide w p) where
        pub starts_over : c - p < n → false ≡ starts_at wide w turns 0 c
        starts_over a = sym (start_over (turns - i) p (omega arith) q (omega (arith, v.near))) ∙ v.same

        pub starts_turn : n ≤ c - p → Starting w c (p + n) (i + 1)
        starts_turn a =
            record {
              near = omega (arith, v.near);
              same = ap (λ x. starts_at wide w (turns - (i + 1)) (p + x) c) e
                  ∙ sym (start_next (turns - i) (turns - (i + 1)) p (omega arith) q (omega (arith, v.near))) ∙ v.same;
            }

pub ruleset laws = (starting, starts_out, starts_here, starts_over, starts_turn)
