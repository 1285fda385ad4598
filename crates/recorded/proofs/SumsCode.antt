-- A look at the heap: the laws of its walk, a turn and the end. Assumes nothing.
use mathlib.Core.Bool.{Bool}
use mathlib.Core.List.{List}
use mathlib.Core.Path.{◌≡◌, refl, sym, ap, ◌∙◌}
use Prim.Native.Nat.{ℕ, zero, suc, ◌+◌, ◌-◌, ◌≤◌, ◌<◌}
use native.Mathlib.Omega.{arith}
use lib.Dec.{eqb}
use lib.ListN.{get_or}
use borrow.Author.Tests.{eq-eqb, ne_eqb}
use Rattle.words.specs.Edition.{wide}
use Rattle.chunk.specs.Bytes.{wrap, size_b}
use Rattle.words.specs.Logic.{pick, by}
use Rattle.recorded.specs.Sums.{walk_turns, top_at, after, Walked, walked, walk_from, walk}
use Rattle.recorded.specs.Sums.{add_chunk, add_top, add_owned, chunks_from, chunks_below, heap_from, heap_sum, owned_from, owned_sum}

-- ---- a walk: what is left of it from here is the walk

pub record Walks (h : ℕ → ℕ → ℕ) (r w : List ℕ) (c n left : ℕ) : Type 0 where
  pub same : walk_from h r w left c n ≡ walk h r w

module _ (h : ℕ → ℕ → ℕ) (r w : List ℕ) where
  pub walk_start : Walks h r w 0 0 walk_turns
  unfolding walk
  walk_start = record { same = refl }

  at_top : (k c n : ℕ) → c ≡ get_or r 4 0 → walk_from h r w k c n ≡ walked c n
  unfolding walk_from
  at_top zero c n q = refl
  at_top (suc k) c n q = rw (eq-eqb c (get_or r 4 0) q) refl

  at_end : (k c n : ℕ) → k ≤ 0 → walk_from h r w k c n ≡ walked c n
  unfolding walk_from
  at_end zero c n l = refl
  at_end (suc k) c n l = absurd (omega arith)

  further : (k c n : ℕ) → 0 < k → (c ≡ get_or r 4 0 → ⊥) → walk_from h r w k c n ≡ walk_from h r w (k - 1) (after w c) (h n c)
  unfolding walk_from
  further zero c n l q = absurd (omega arith)
  further (suc k) c n l q = rw (ne_eqb c (get_or r 4 0) q) (ap (λ x. walk_from h r w x (after w c) (h n c)) (let z : k ≡ suc k - 1 = omega arith in z))

  module _ {c n left : ℕ} (v : Walks h r w c n left) where
    pub walk_top : c ≡ get_or r 4 0 → walked c n ≡ walk h r w
    walk_top q = sym (at_top left c n q) ∙ v.same

    pub walk_end : left ≤ 0 → walked c n ≡ walk h r w
    walk_end l = sym (at_end left c n l) ∙ v.same

    pub walk_turn : {m p x : ℕ} → 0 < left → (c ≡ get_or r 4 0 → ⊥) → x ≡ h n c → m ≡ size_b wide w c → p ≡ wrap wide (c + m) → Walks h r w p x (left - 1)
    walk_turn {x = x} l q z e o =
        record {
          same = ap (λ y. walk_from h r w (left - 1) y x) (o ∙ ap (λ y. wrap wide (c + y)) e) ∙ ap (walk_from h r w (left - 1) (after w c)) z
              ∙ sym (further left c n l q) ∙ v.same;
        }

-- ---- the three numbers by such a walk: what each makes of a number and a chunk, and that its own recursion makes the same

module _ (r w : List ℕ) where
  abbrev one_more : ℕ → ℕ → ℕ
  one_more n c = wrap wide (n + 1)

  abbrev with_chunk : ℕ → ℕ → ℕ
  with_chunk s c = add_chunk r w c (size_b wide w c) s

  abbrev with_owned : ℕ → ℕ → ℕ
  with_owned s c = add_owned w c (size_b wide w c) s

  -- the number of a walk that ends here, or after the chunk here
  abbrev chosen : Bool → ℕ → ℕ → Walked → Walked
  chosen b c n on = pick b (walked c n) on

  count_by : (k c n : ℕ) → (walk_from one_more r w k c n).number ≡ chunks_from r w k c n
  unfolding walk_from chunks_from
  count_by zero c n = refl
  count_by (suc k) c n =
      by (λ b. (chosen b c n (walk_from one_more r w k (after w c) (one_more n c))).number ≡ pick b n (chunks_from r w k (after w c) (one_more n c)))
      (eqb c (top_at r)) (λ p. refl) (λ p. count_by k (after w c) (one_more n c))

  pub count_walked : {end n : ℕ} → walked end n ≡ walk one_more r w → n ≡ chunks_below r w
  unfolding walk chunks_below
  count_walked q = ap (λ z. z.number) q ∙ count_by walk_turns 0 0

  abbrev topped : Walked → ℕ
  topped z = add_top r w z.end z.number

  heap_by : (k c s : ℕ) → topped (walk_from with_chunk r w k c s) ≡ heap_from r w k c s
  unfolding walk_from heap_from
  heap_by zero c s = refl
  heap_by (suc k) c s =
      by (λ b. topped (chosen b c s (walk_from with_chunk r w k (after w c) (with_chunk s c)))
      ≡ pick b (add_top r w c s) (heap_from r w k (after w c) (with_chunk s c)))
      (eqb c (top_at r)) (λ p. refl) (λ p. heap_by k (after w c) (with_chunk s c))

  pub heap_walked : {end n x : ℕ} → walked end n ≡ walk with_chunk r w → x ≡ add_top r w end n → x ≡ heap_sum r w
  unfolding walk heap_sum
  heap_walked q e = e ∙ ap topped q ∙ heap_by walk_turns 0 0

  owned_by : (k c s : ℕ) → (walk_from with_owned r w k c s).number ≡ owned_from r w k c s
  unfolding walk_from owned_from
  owned_by zero c s = refl
  owned_by (suc k) c s =
      by (λ b. (chosen b c s (walk_from with_owned r w k (after w c) (with_owned s c))).number ≡ pick b s (owned_from r w k (after w c) (with_owned s c)))
      (eqb c (top_at r)) (λ p. refl) (λ p. owned_by k (after w c) (with_owned s c))

  pub owned_walked : {end n : ℕ} → walked end n ≡ walk with_owned r w → n ≡ owned_sum r w
  unfolding walk owned_sum
  owned_walked q = ap (λ z. z.number) q ∙ owned_by walk_turns 0 0

pub ruleset laws = (walk_start, walk_top, walk_end, walk_turn, count_walked, heap_walked, owned_walked)
