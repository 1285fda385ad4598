-- Insertion: each contract clause, branch by branch. A law's premises are what the code knows where it returns (its callees' equations and the
-- tests on the way), its conclusion is the clause; `search` then finds it. Straight lines are congruence, a branch is the definition's `pick`
-- at the test's outcome. The loop keeps one equation: the way down from the root is the way down from here.
use Prim.Native.Nat.{ℕ, suc, ◌+◌, ◌-◌, ◌*◌, ◌%◌, ◌^◌, ◌<◌, ◌≤◌}
use mathlib.Core.Path.{◌≡◌, refl, sym, ap, ◌∙◌}
use mathlib.Core.List.{List}
use native.Mathlib.Omega.{arith}
use lib.Dec.{eqb}
use borrow.Author.Tests.{eq-eqb, ne_eqb}
use Rattle.words.specs.Logic.{pick}
use Rattle.words.specs.Edition.{wide, no_link}
use Rattle.index.specs.TreeBin.{tree_index, key_at}
use Rattle.chunk.specs.Bytes.{word, put, size_b, tree, link_of, enter_r}
use Rattle.treebin.specs.TreeBytes.{Seat, seat, child_word, next_key, seek_b, tie_w, slot_w, ring_w, seat_w, insert_large}

-- ---- the way down: the loop of `seek`

pub record Seek (w : List ℕ) (n root key t k j : ℕ) : Type 0 where
  pub low : j ≤ 64
  pub same : seek_b wide w n 64 root key ≡ seek_b wide w n (64 - j) t k

-- one level of the definition
seek_step : (w : List ℕ) (n j t k : ℕ) → j < 64
    → seek_b wide w n (64 - j) t k
    ≡ pick (eqb (size_b wide w t) n) (seat t 0)
    (pick (eqb (word wide w t (child_word wide k)) (no_link wide)) (seat t (child_word wide k)) (seek_b wide w n (64 - (j + 1)) (word wide w t (child_word wide k)) (next_key wide k)))
unfolding seek_b
seek_step w n j t k l = ap (λ x. seek_b wide w n x t k) (let z : 64 - j ≡ suc (64 - (j + 1)) = omega arith in z)

module _ (w : List ℕ) (n root key t k j : ℕ) (v : Seek w n root key t k j) where
  pub seek_out : 64 ≤ j → seat t 0 ≡ seek_b wide w n 64 root key
  unfolding seek_b
  seek_out l = sym (v.same ∙ ap (λ x. seek_b wide w n x t k) (let z : 64 - j ≡ 0 = omega arith in z))

  module _ {s : ℕ} (l : j < 64) (e : s ≡ size_b wide w t) where
    pub seek_here : s ≡ n → seat t 0 ≡ seek_b wide w n 64 root key
    seek_here q = rw (v.same, seek_step w n j t k l, eq-eqb (size_b wide w t) n (sym e ∙ q)) refl

    module _ {side c : ℕ} (m : s ≡ n → ⊥) (e₁ : side ≡ child_word wide k) (e₂ : c ≡ word wide w t side) where
      child : c ≡ word wide w t (child_word wide k)
      child = e₂ ∙ ap (word wide w t) e₁

      pub seek_free : c ≡ 2 ^ 64 - 1 → seat t side ≡ seek_b wide w n 64 root key
      seek_free q = rw (v.same, seek_step w n j t k l, ne_eqb (size_b wide w t) n (λ z. m (e ∙ z)), eq-eqb (word wide w t (child_word wide k)) (2 ^ 64 - 1) (sym child ∙ q)) (ap (seat t) e₁)

      seek_down : {k₁ : ℕ} → (c ≡ 2 ^ 64 - 1 → ⊥) → k₁ ≡ k * 2 % 2 ^ 64 → seek_b wide w n 64 root key ≡ seek_b wide w n (64 - (j + 1)) c k₁
      seek_down q e₃ = rw (v.same, seek_step w n j t k l, ne_eqb (size_b wide w t) n (λ z. m (e ∙ z)), ne_eqb (word wide w t (child_word wide k)) (2 ^ 64 - 1) (λ z. q (child ∙ z))) (cc)

      pub seek_turn : {k₁ : ℕ} → (c ≡ 2 ^ 64 - 1 → ⊥) → k₁ ≡ k * 2 % 2 ^ 64 → Seek w n root key c k₁ (j + 1)
      seek_turn q e₃ = record { low = omega (arith, v.low); same = seek_down q e₃ }

-- ---- writes

-- what the two smallest steps of the code leave
abbrev leaf_w : List ℕ → ℕ → ℕ → List ℕ
leaf_w w c i = put wide (put wide (put wide w c 4 (no_link wide)) c 5 (no_link wide)) c 7 i

abbrev between_w : List ℕ → ℕ → ℕ → ℕ → List ℕ
between_w w c t f = put wide (put wide (put wide (put wide w f 3 c) t 2 c) c 2 f) c 3 t

module _ (w : List ℕ) (c i : ℕ) where
  pub leaf_w_lem : {w₁ w₂ w₃ : List ℕ} → w₁ ≡ put wide w c 4 (no_link wide) → w₂ ≡ put wide w₁ c 5 (no_link wide) → w₃ ≡ put wide w₂ c 7 i → w₃ ≡ leaf_w w c i
  leaf_w_lem e₁ e₂ e₃ = cc

  pub tie_w_lem : (up : ℕ) {w₁ w₂ w₃ w₄ : List ℕ} → w₁ ≡ put wide w c 6 up → w₂ ≡ put wide w₁ c 2 c → w₃ ≡ put wide w₂ c 3 c → w₄ ≡ leaf_w w₃ c i → w₄ ≡ tie_w wide w c up i
  tie_w_lem up e₁ e₂ e₃ e₄ = cc

  pub slot_w_lem : (t k : ℕ) {w₁ w₂ : List ℕ} → w₁ ≡ put wide w t k c → w₂ ≡ tie_w wide w₁ c t i → w₂ ≡ slot_w wide w c i t k
  slot_w_lem t k e₁ e₂ = cc

  pub ring_w_lem : (t f : ℕ) {w₁ w₂ w₃ : List ℕ} → w₁ ≡ between_w w c t f → w₂ ≡ put wide w₁ c 6 (no_link wide) → w₃ ≡ leaf_w w₂ c i → w₃ ≡ ring_w wide w c i t f
  ring_w_lem t f e₁ e₂ e₃ = cc

  pub seat_ring : (t side : ℕ) {f : ℕ} {w₁ : List ℕ} → side ≡ 0 → f ≡ word wide w t 2 → w₁ ≡ ring_w wide w c i t f → w₁ ≡ seat_w wide w c i (seat t side)
  unfolding seat_w
  seat_ring t side q e₁ e₂ = rw (eq-eqb side 0 q) (cc)

  pub seat_slot : (t side : ℕ) {w₁ : List ℕ} → (side ≡ 0 → ⊥) → w₁ ≡ slot_w wide w c i t side → w₁ ≡ seat_w wide w c i (seat t side)
  unfolding seat_w
  seat_slot t side q e = rw (ne_eqb side 0 q) e

pub between_w_lem : (w : List ℕ) (c t f : ℕ) {w₁ w₂ w₃ w₄ : List ℕ} → w₁ ≡ put wide w f 3 c → w₂ ≡ put wide w₁ t 2 c → w₃ ≡ put wide w₂ c 2 f → w₄ ≡ put wide w₃ c 3 t → w₄ ≡ between_w w c t f
between_w_lem w c t f e₁ e₂ e₃ e₄ = cc

-- ---- `insert_large_chunk`: the first of its bin, or one more

module _ (r w : List ℕ) (c n : ℕ) {i root : ℕ} (e : i ≡ tree_index n) (e₁ : root ≡ link_of tree r i) where
  module _ (q : root ≡ 2 ^ 64 - 1) where
    pub first_image : {r₁ : List ℕ} → r₁ ≡ enter_r tree r i c → r₁ ≡ (insert_large wide r w c n).image
    unfolding insert_large
    first_image e₂ = rw (eq-eqb (link_of tree r (tree_index n)) (2 ^ 64 - 1) (cc)) (cc)

    pub first_words : {w₁ : List ℕ} → w₁ ≡ tie_w wide w c (2 ^ 64 - 2) i → w₁ ≡ (insert_large wide r w c n).words
    unfolding insert_large
    first_words e₂ = rw (eq-eqb (link_of tree r (tree_index n)) (2 ^ 64 - 1) (cc)) (cc)

  module _ (q : root ≡ 2 ^ 64 - 1 → ⊥) where
    root_there : link_of tree r (tree_index n) ≡ 2 ^ 64 - 1 → ⊥
    root_there z = q (e₁ ∙ ap (link_of tree r) e ∙ z)

    pub more_image : {r₁ : List ℕ} → r₁ ≡ r → r₁ ≡ (insert_large wide r w c n).image
    unfolding insert_large
    more_image e₂ = rw (ne_eqb (link_of tree r (tree_index n)) (2 ^ 64 - 1) root_there) e₂

    pub more_words : {key : ℕ} {s : Seat} {w₁ : List ℕ} → key ≡ key_at 64 (i % 32) n 0 → s ≡ seek_b wide w n 64 root key → w₁ ≡ seat_w wide w c i s → w₁ ≡ (insert_large wide r w c n).words
    unfolding insert_large
    more_words e₂ e₃ e₄ = rw (ne_eqb (link_of tree r (tree_index n)) (2 ^ 64 - 1) root_there) (cc)

pub ruleset laws = (seek_out, seek_here, seek_free, seek_turn, leaf_w_lem, tie_w_lem, slot_w_lem, ring_w_lem, seat_slot, between_w_lem, first_image, first_words, more_image, more_words)
