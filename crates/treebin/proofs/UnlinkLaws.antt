-- Unlinking: each contract clause, branch by branch. A law's premises are what the code knows where it returns, its conclusion is the clause.
-- Straight lines are congruence, a branch is the definition's `pick` at the test's outcome. The loop keeps one equation: the deepest descendant
-- below the start is the deepest below here.
use Prim.Native.Nat.{ℕ, suc, ◌+◌, ◌-◌, ◌%◌, ◌^◌, ◌<◌, ◌≤◌}
use mathlib.Core.Path.{◌≡◌, refl, sym, ap, ◌∙◌}
use mathlib.Core.List.{List}
use native.Mathlib.Omega.{arith}
use lib.Dec.{eqb}
use borrow.Author.Tests.{eq-eqb, ne_eqb}
use Rattle.words.specs.Logic.{pick}
use Rattle.words.specs.Edition.{wide, no_link}
use Rattle.chunk.specs.Bytes.{word, put, tree, relink_r}
use Rattle.smallbin.specs.SmallBytes.{join_w}
use Rattle.treebin.specs.TreeBytes.{seat, last_side, deep_b, pop_w, pop_heir, lead_r, lead_w, adopt_w, replace_tree, unlink_large}

module _ (w : List ℕ) (t : ℕ) {h : ℕ} (e : h ≡ word wide w t 5) where
  pub last_left : h ≡ 2 ^ 64 - 1 → 4 ≡ last_side wide w t
  last_left q = rw (eq-eqb (word wide w t 5) (2 ^ 64 - 1) (sym e ∙ q)) refl

  pub last_right : (h ≡ 2 ^ 64 - 1 → ⊥) → 5 ≡ last_side wide w t
  last_right q = rw (ne_eqb (word wide w t 5) (2 ^ 64 - 1) (λ z. q (e ∙ z))) refl

-- ---- the heir: the loop of `deepest`, and what is taken from its end

pub record Deep (w : List ℕ) (c side t k j : ℕ) : Type 0 where
  pub low : j ≤ 64
  pub same : deep_b wide w 64 c side ≡ deep_b wide w (64 - j) t k

-- one level of the definition, h being the child
deep_step : (w : List ℕ) (j t k h : ℕ) → h ≡ word wide w t k → j < 64
    → deep_b wide w (64 - j) t k ≡ pick (eqb (word wide w h (last_side wide w h)) (no_link wide)) (seat t k) (deep_b wide w (64 - (j + 1)) h (last_side wide w h))
unfolding deep_b
deep_step w j t k h e l = rw e (ap (λ x. deep_b wide w x t k) (let z : 64 - j ≡ suc (64 - (j + 1)) = omega arith in z))

module _ (w : List ℕ) (c side t k j : ℕ) (v : Deep w c side t k j) where
  pub deep_out : 64 ≤ j → seat t k ≡ deep_b wide w 64 c side
  unfolding deep_b
  deep_out l = sym (v.same ∙ ap (λ x. deep_b wide w x t k) (let z : 64 - j ≡ 0 = omega arith in z))

  module _ {h below x : ℕ} (l : j < 64) (e : h ≡ word wide w t k) (e₁ : below ≡ last_side wide w h) (e₂ : x ≡ word wide w h below) where
    under : x ≡ word wide w h (last_side wide w h)
    under = e₂ ∙ ap (word wide w h) e₁

    pub deep_found : x ≡ 2 ^ 64 - 1 → seat t k ≡ deep_b wide w 64 c side
    deep_found q = rw (v.same, deep_step w j t k h e l, eq-eqb (word wide w h (last_side wide w h)) (2 ^ 64 - 1) (sym under ∙ q)) refl

    deep_down : (x ≡ 2 ^ 64 - 1 → ⊥) → deep_b wide w 64 c side ≡ deep_b wide w (64 - (j + 1)) h below
    deep_down q = rw (v.same, deep_step w j t k h e l, ne_eqb (word wide w h (last_side wide w h)) (2 ^ 64 - 1) (λ z. q (under ∙ z))) (cc)

    pub deep_turn : (x ≡ 2 ^ 64 - 1 → ⊥) → Deep w c side h below (j + 1)
    deep_turn q = record { low = omega (arith, v.low); same = deep_down q }

module _ (w : List ℕ) (c : ℕ) {side x : ℕ} (e : side ≡ last_side wide w c) (e₁ : x ≡ word wide w c side) where
  child_of : x ≡ word wide w c (last_side wide w c)
  child_of = e₁ ∙ ap (word wide w c) e

  module _ (q : x ≡ 2 ^ 64 - 1) where
    pub no_heir : 2 ^ 64 - 1 ≡ pop_heir wide w c
    unfolding pop_heir
    no_heir = rw (eq-eqb (word wide w c (last_side wide w c)) (2 ^ 64 - 1) (sym child_of ∙ q)) refl

    pub no_heir_words : w ≡ pop_w wide w c
    unfolding pop_w
    no_heir_words = rw (eq-eqb (word wide w c (last_side wide w c)) (2 ^ 64 - 1) (sym child_of ∙ q)) refl

  module _ {t k : ℕ} (q : x ≡ 2 ^ 64 - 1 → ⊥) (e₂ : seat t k ≡ deep_b wide w 64 c side) where
    deepest_is : seat t k ≡ deep_b wide w 64 c (last_side wide w c)
    deepest_is = e₂ ∙ ap (deep_b wide w 64 c) e

    pub heir : {h : ℕ} → h ≡ word wide w t k → h ≡ pop_heir wide w c
    unfolding pop_heir
    heir e₃ = rw (ne_eqb (word wide w c (last_side wide w c)) (2 ^ 64 - 1) (λ z. q (child_of ∙ z))) (e₃ ∙ ap (λ s. word wide w s.at s.side) deepest_is)

    pub heir_words : {w₁ : List ℕ} → w₁ ≡ put wide w t k (no_link wide) → w₁ ≡ pop_w wide w c
    unfolding pop_w
    heir_words e₃ = rw (ne_eqb (word wide w c (last_side wide w c)) (2 ^ 64 - 1) (λ z. q (child_of ∙ z))) (e₃ ∙ ap (λ s. put wide w s.at s.side (no_link wide)) deepest_is)

-- ---- what led to a node leads to another: a bin's root, or a parent's child word

module _ (w : List ℕ) (c up : ℕ) {h : ℕ} (e : h ≡ word wide w up 4) where
  pub slot_left : h ≡ c → ◌≡◌ {A = ℕ} 4 (pick (eqb (word wide w up 4) c) 4 5)
  slot_left q = rw (eq-eqb (word wide w up 4) c (sym e ∙ q)) refl

  pub slot_right : (h ≡ c → ⊥) → ◌≡◌ {A = ℕ} 5 (pick (eqb (word wide w up 4) c) 4 5)
  slot_right q = rw (ne_eqb (word wide w up 4) c (λ z. q (e ∙ z))) refl

module _ (r w : List ℕ) (c up v : ℕ) where
  pub bin-image : {x : ℕ} {r₁ : List ℕ} → up ≡ 2 ^ 64 - 2 → x ≡ word wide w c 7 → r₁ ≡ relink_r wide tree r (x % 32) v → r₁ ≡ lead_r wide r w c up v
  unfolding lead_r
  bin-image q e e₁ = rw (eq-eqb up (2 ^ 64 - 2) q) (e₁ ∙ ap (λ x. relink_r wide tree r (x % 32) v) e)

  pub parent_image : {r₁ : List ℕ} → (up ≡ 2 ^ 64 - 2 → ⊥) → r₁ ≡ r → r₁ ≡ lead_r wide r w c up v
  unfolding lead_r
  parent_image q e = rw (ne_eqb up (2 ^ 64 - 2) q) e

module _ (w : List ℕ) (c up v : ℕ) where
  pub bin_words : {w₁ : List ℕ} → up ≡ 2 ^ 64 - 2 → w₁ ≡ w → w₁ ≡ lead_w wide w c up v
  unfolding lead_w
  bin_words q e = rw (eq-eqb up (2 ^ 64 - 2) q) e

  pub parent_words : {side : ℕ} {w₁ : List ℕ} → (up ≡ 2 ^ 64 - 2 → ⊥) → side ≡ pick (eqb (word wide w up 4) c) 4 5 → w₁ ≡ put wide w up side v → w₁ ≡ lead_w wide w c up v
  unfolding lead_w
  parent_words q e e₁ = rw (ne_eqb up (2 ^ 64 - 2) q) (e₁ ∙ ap (λ k. put wide w up k v) e)

-- ---- `replace_tree`: a node's place, if it has one, goes to v, if that is something

module _ (w : List ℕ) (v x y : ℕ) where
  pub parents_w : {w₁ w₂ : List ℕ} → w₁ ≡ put wide w x 6 v → w₂ ≡ put wide w₁ y 6 v → w₂ ≡ put wide (put wide w x 6 v) y 6 v
  parents_w e₁ e₂ = cc

  pub adopt_w_lem : (up : ℕ) {w₁ w₂ w₃ w₄ : List ℕ} → w₁ ≡ put wide w v 6 up → w₂ ≡ put wide w₁ v 4 x → w₃ ≡ put wide w₂ v 5 y → w₄ ≡ put wide (put wide w₃ x 6 v) y 6 v → w₄ ≡ adopt_w wide w v up x y
  adopt_w_lem up e₁ e₂ e₃ e₄ = cc

module _ (r w : List ℕ) (c v : ℕ) {up : ℕ} (e : up ≡ word wide w c 6) where
  module _ (q : up ≡ 2 ^ 64 - 1) where
    pub no_place_image : r ≡ (replace_tree wide r w c v).image
    unfolding replace_tree
    no_place_image = rw (eq-eqb (word wide w c 6) (2 ^ 64 - 1) (sym e ∙ q)) refl

    pub no_place_words : w ≡ (replace_tree wide r w c v).words
    unfolding replace_tree
    no_place_words = rw (eq-eqb (word wide w c 6) (2 ^ 64 - 1) (sym e ∙ q)) refl

  module _ (q : up ≡ 2 ^ 64 - 1 → ⊥) where
    has_place : word wide w c 6 ≡ 2 ^ 64 - 1 → ⊥
    has_place z = q (e ∙ z)

    pub place-image : {r₁ : List ℕ} → r₁ ≡ lead_r wide r w c up v → r₁ ≡ (replace_tree wide r w c v).image
    unfolding replace_tree
    place-image e₁ = rw (ne_eqb (word wide w c 6) (2 ^ 64 - 1) has_place) (cc)

    pub place_none : {w₁ : List ℕ} → w₁ ≡ lead_w wide w c up v → v ≡ 2 ^ 64 - 1 → w₁ ≡ (replace_tree wide r w c v).words
    unfolding replace_tree
    place_none e₁ m = rw (ne_eqb (word wide w c 6) (2 ^ 64 - 1) has_place, eq-eqb v (2 ^ 64 - 1) m) (cc)

    pub place_some : {w₁ w₂ : List ℕ} {x y : ℕ} → x ≡ word wide w c 4 → y ≡ word wide w c 5 → w₁ ≡ lead_w wide w c up v → (v ≡ 2 ^ 64 - 1 → ⊥) → w₂ ≡ adopt_w wide w₁ v up x y → w₂ ≡ (replace_tree wide r w c v).words
    unfolding replace_tree
    place_some e₁ e₂ e₃ m e₄ = rw (ne_eqb (word wide w c 6) (2 ^ 64 - 1) has_place, ne_eqb v (2 ^ 64 - 1) m) (cc)

-- ---- `unlink_large_chunk`: alone in its ring, or not

module _ (r w : List ℕ) (c : ℕ) {b : ℕ} {w₁ : List ℕ} (e : b ≡ word wide w c 3) where
  module _ {v : ℕ} (q : b ≡ c) (e₁ : v ≡ pop_heir wide w c) (e₂ : w₁ ≡ pop_w wide w c) where
    pub alone-image : {r₁ : List ℕ} → r₁ ≡ (replace_tree wide r w₁ c v).image → r₁ ≡ (unlink_large wide r w c).image
    unfolding unlink_large
    alone-image e₃ = rw (eq-eqb (word wide w c 3) c (sym e ∙ q)) (cc)

    pub alone_words : {w₂ : List ℕ} → w₂ ≡ (replace_tree wide r w₁ c v).words → w₂ ≡ (unlink_large wide r w c).words
    unfolding unlink_large
    alone_words e₃ = rw (eq-eqb (word wide w c 3) c (sym e ∙ q)) (cc)

  module _ {f : ℕ} (q : b ≡ c → ⊥) (e₁ : f ≡ word wide w c 2) (e₂ : w₁ ≡ join_w wide w f b) where
    pub member_image : {r₁ : List ℕ} → r₁ ≡ (replace_tree wide r w₁ c b).image → r₁ ≡ (unlink_large wide r w c).image
    unfolding unlink_large
    member_image e₃ = rw (ne_eqb (word wide w c 3) c (λ z. q (e ∙ z))) (cc)

    pub member_words : {w₂ : List ℕ} → w₂ ≡ (replace_tree wide r w₁ c b).words → w₂ ≡ (unlink_large wide r w c).words
    unfolding unlink_large
    member_words e₃ = rw (ne_eqb (word wide w c 3) c (λ z. q (e ∙ z))) (cc)

pub ruleset laws = (last_left, last_right, deep_out, no_heir, no_heir_words, heir, heir_words, slot_left, slot_right, bin-image, parent_image, bin_words, parent_words, parents_w, adopt_w_lem, no_place_image, no_place_words, place-image, place_none, place_some, alone-image, alone_words, member_image, member_words)
