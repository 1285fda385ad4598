-- One law for each contract clause and branch: what the callees have told, put together as the definition says it.
use Prim.Native.Nat.{ℕ, ◌+◌}
use mathlib.Core.Path.{◌≡◌, refl, sym, ap, ap₂, ◌∙◌}
use mathlib.Core.Bool.{Bool, true, false}
use mathlib.Core.List.{List}
use lib.Dec.{eqb}
use borrow.Author.Tests.{eq-eqb, ne_eqb}
use lib.ListN.{get_or}
use Rattle.words.specs.Logic.{pick}
use Rattle.words.specs.Edition.{wide, no_link}
use Rattle.chunk.specs.Bytes.{Store, wrap, less, word, size_b, cinuse_b, pinuse_b, set_dv, set_top, top_w, free_w, give_w}
use Rattle.treebin.specs.Binning.{insert_chunk, unlink_chunk}
use Rattle.free.specs.FreeBytes.{away_b, join_top, join_dv, join_binned, forward_b, back_b, dispose_b, free_b}

-- ---- put away

module _ (r w : List ℕ) (p n : ℕ) (mine : Bool) where
  pub away_mine_image : {r₁ : List ℕ} → mine ≡ true → r₁ ≡ set_dv r p n → r₁ ≡ (away_b wide mine r w p n).image
  unfolding away_b
  away_mine_image q e₁ = rw q e₁

  pub away_mine_words : {w₁ : List ℕ} → mine ≡ true → w₁ ≡ w → w₁ ≡ (away_b wide mine r w p n).words
  unfolding away_b
  away_mine_words q e₁ = rw q e₁

  pub away_bin_image : {r₁ : List ℕ} → mine ≡ false → r₁ ≡ (insert_chunk wide r w p n).image → r₁ ≡ (away_b wide mine r w p n).image
  unfolding away_b
  away_bin_image q e₁ = rw q e₁

  pub away_bin_words : {w₁ : List ℕ} → mine ≡ false → w₁ ≡ (insert_chunk wide r w p n).words → w₁ ≡ (away_b wide mine r w p n).words
  unfolding away_b
  away_bin_words q e₁ = rw q e₁

-- ---- joins

module _ (r w : List ℕ) (p n : ℕ) {s : ℕ} where
  pub top_image : {r₁ : List ℕ} → s ≡ wrap wide (get_or r 5 0 + n) → r₁ ≡ set_top r p s → r₁ ≡ (join_top wide r w p n).image
  unfolding join_top
  top_image e₁ e₂ = e₂ ∙ ap (set_top r p) e₁

  pub top_words_lem : {w₁ : List ℕ} → s ≡ wrap wide (get_or r 5 0 + n) → w₁ ≡ top_w wide w p s → w₁ ≡ (join_top wide r w p n).words
  unfolding join_top
  top_words_lem e₁ e₂ = e₂ ∙ ap (top_w wide w p) e₁

  pub dv_image : {r₁ : List ℕ} → s ≡ wrap wide (get_or r 3 0 + n) → r₁ ≡ set_dv r p s → r₁ ≡ (join_dv wide r w p n).image
  unfolding join_dv
  dv_image e₁ e₂ = e₂ ∙ ap (set_dv r p) e₁

  pub dv_words_lem : {w₁ : List ℕ} → s ≡ wrap wide (get_or r 3 0 + n) → w₁ ≡ free_w wide w p s → w₁ ≡ (join_dv wide r w p n).words
  unfolding join_dv
  dv_words_lem e₁ e₂ = e₂ ∙ ap (free_w wide w p) e₁

module _ (r w : List ℕ) (p n next : ℕ) (mine : Bool) (b all : ℕ) (r₁ w₁ w₂ : List ℕ) (e₁ : b ≡ size_b wide w next) (e₂ : all ≡ wrap wide (n + b)) (e₃ : r₁ ≡ (unlink_chunk wide r w next b).image)
    (e₄ : w₁ ≡ (unlink_chunk wide r w next b).words) (e₅ : w₂ ≡ free_w wide w₁ p all) where
  away_is : away_b wide mine r₁ w₂ p all ≡ join_binned wide mine r w p n next
  unfolding join_binned
  away_is = rw (e₅, e₃, e₄, e₂, e₁) refl

  pub binned_image : {r₂ : List ℕ} → r₂ ≡ (away_b wide mine r₁ w₂ p all).image → r₂ ≡ (join_binned wide mine r w p n next).image
  binned_image q = q ∙ ap (λ (t : Store). t.image) away_is

  pub binned_words : {w₃ : List ℕ} → w₃ ≡ (away_b wide mine r₁ w₂ p all).words → w₃ ≡ (join_binned wide mine r w p n next).words
  binned_words q = q ∙ ap (λ (t : Store). t.words) away_is

-- ---- forward: used, the top, the spare chunk, a binned chunk

module _ (r w : List ℕ) (p n next : ℕ) (mine u : Bool) (e₁ : u ≡ cinuse_b wide w next) where
  used_is : u ≡ true → forward_b wide mine r w p n next ≡ away_b wide mine r (give_w wide w p n next) p n
  unfolding forward_b
  used_is q = rw (sym e₁ ∙ q) refl

  pub used_image : {r₁ w₁ : List ℕ} → u ≡ true → w₁ ≡ give_w wide w p n next → r₁ ≡ (away_b wide mine r w₁ p n).image → r₁ ≡ (forward_b wide mine r w p n next).image
  used_image q e₂ e₃ = e₃ ∙ ap (λ x. (away_b wide mine r x p n).image) e₂ ∙ sym (ap (λ (t : Store). t.image) (used_is q))

  pub used_words : {w₁ w₂ : List ℕ} → u ≡ true → w₁ ≡ give_w wide w p n next → w₂ ≡ (away_b wide mine r w₁ p n).words → w₂ ≡ (forward_b wide mine r w p n next).words
  used_words q e₂ e₃ = e₃ ∙ ap (λ x. (away_b wide mine r x p n).words) e₂ ∙ sym (ap (λ (t : Store). t.words) (used_is q))

  to_top : u ≡ false → next ≡ get_or r 4 0 → forward_b wide mine r w p n next ≡ join_top wide r w p n
  unfolding forward_b
  to_top q z = rw (sym e₁ ∙ q, eq-eqb next (get_or r 4 0) z) refl

  pub to_top_image : {r₁ : List ℕ} → u ≡ false → next ≡ get_or r 4 0 → r₁ ≡ (join_top wide r w p n).image → r₁ ≡ (forward_b wide mine r w p n next).image
  to_top_image q z e₂ = e₂ ∙ sym (ap (λ (t : Store). t.image) (to_top q z))

  pub to_top_words : {w₁ : List ℕ} → u ≡ false → next ≡ get_or r 4 0 → w₁ ≡ (join_top wide r w p n).words → w₁ ≡ (forward_b wide mine r w p n next).words
  to_top_words q z e₂ = e₂ ∙ sym (ap (λ (t : Store). t.words) (to_top q z))

  to_dv : u ≡ false → (next ≡ get_or r 4 0 → ⊥) → next ≡ get_or r 2 0 → forward_b wide mine r w p n next ≡ join_dv wide r w p n
  unfolding forward_b
  to_dv q k z = rw (sym e₁ ∙ q, ne_eqb next (get_or r 4 0) k, eq-eqb next (get_or r 2 0) z) refl

  pub to_dv_image : {r₁ : List ℕ} → u ≡ false → (next ≡ get_or r 4 0 → ⊥) → next ≡ get_or r 2 0 → r₁ ≡ (join_dv wide r w p n).image → r₁ ≡ (forward_b wide mine r w p n next).image
  to_dv_image q k z e₂ = e₂ ∙ sym (ap (λ (t : Store). t.image) (to_dv q k z))

  pub to_dv_words : {w₁ : List ℕ} → u ≡ false → (next ≡ get_or r 4 0 → ⊥) → next ≡ get_or r 2 0 → w₁ ≡ (join_dv wide r w p n).words → w₁ ≡ (forward_b wide mine r w p n next).words
  to_dv_words q k z e₂ = e₂ ∙ sym (ap (λ (t : Store). t.words) (to_dv q k z))

  to_bin : u ≡ false → (next ≡ get_or r 4 0 → ⊥) → (next ≡ get_or r 2 0 → ⊥) → forward_b wide mine r w p n next ≡ join_binned wide mine r w p n next
  unfolding forward_b
  to_bin q k z = rw (sym e₁ ∙ q, ne_eqb next (get_or r 4 0) k, ne_eqb next (get_or r 2 0) z) refl

  pub to_bin_image : {r₁ : List ℕ} → u ≡ false → (next ≡ get_or r 4 0 → ⊥) → (next ≡ get_or r 2 0 → ⊥) → r₁ ≡ (join_binned wide mine r w p n next).image → r₁ ≡ (forward_b wide mine r w p n next).image
  to_bin_image q k z e₂ = e₂ ∙ sym (ap (λ (t : Store). t.image) (to_bin q k z))

  pub to_bin_words : {w₁ : List ℕ} → u ≡ false → (next ≡ get_or r 4 0 → ⊥) → (next ≡ get_or r 2 0 → ⊥) → w₁ ≡ (join_binned wide mine r w p n next).words → w₁ ≡ (forward_b wide mine r w p n next).words
  to_bin_words q k z e₂ = e₂ ∙ sym (ap (λ (t : Store). t.words) (to_bin q k z))

-- ---- back

-- the definition, with its readings named
back_with : List ℕ → List ℕ → ℕ → ℕ → ℕ → ℕ → Store
back_with r w next b prev all =
    let t = unlink_chunk wide r w prev b in
    pick (eqb prev (get_or r 2 0)) (forward_b wide true (set_dv r (no_link wide) 0) w prev all next) (forward_b wide false t.image t.words prev all next)

module _ (r w : List ℕ) (p n next b prev all : ℕ) (e₁ : b ≡ word wide w p 0) (e₂ : prev ≡ less wide p b) (e₃ : all ≡ wrap wide (n + b)) where
  named : back_with r w next b prev all ≡ back_b wide r w p n next
  unfolding back_b back_with
  named = rw (e₃, e₂, e₁) refl

  onto_dv : prev ≡ get_or r 2 0 → forward_b wide true (set_dv r (no_link wide) 0) w prev all next ≡ back_b wide r w p n next
  unfolding back_with
  onto_dv q = sym (rw (eq-eqb prev (get_or r 2 0) q) refl) ∙ named

  pub onto_dv_image : {r₁ r₂ : List ℕ} → prev ≡ get_or r 2 0 → r₁ ≡ set_dv r (no_link wide) 0 → r₂ ≡ (forward_b wide true r₁ w prev all next).image → r₂ ≡ (back_b wide r w p n next).image
  onto_dv_image q e₄ e₅ = e₅ ∙ ap (λ x. (forward_b wide true x w prev all next).image) e₄ ∙ ap (λ (t : Store). t.image) (onto_dv q)

  pub onto_dv_words : {r₁ w₁ : List ℕ} → prev ≡ get_or r 2 0 → r₁ ≡ set_dv r (no_link wide) 0 → w₁ ≡ (forward_b wide true r₁ w prev all next).words → w₁ ≡ (back_b wide r w p n next).words
  onto_dv_words q e₄ e₅ = e₅ ∙ ap (λ x. (forward_b wide true x w prev all next).words) e₄ ∙ ap (λ (t : Store). t.words) (onto_dv q)

  onto-bin : (prev ≡ get_or r 2 0 → ⊥) → forward_b wide false (unlink_chunk wide r w prev b).image (unlink_chunk wide r w prev b).words prev all next ≡ back_b wide r w p n next
  unfolding back_with
  onto-bin q = sym (rw (ne_eqb prev (get_or r 2 0) q) refl) ∙ named

  pub onto_bin_image : {r₁ r₂ w₁ : List ℕ} → (prev ≡ get_or r 2 0 → ⊥) → r₁ ≡ (unlink_chunk wide r w prev b).image → w₁ ≡ (unlink_chunk wide r w prev b).words → r₂ ≡ (forward_b wide false r₁ w₁ prev all next).image → r₂ ≡ (back_b wide r w p n next).image
  onto_bin_image q e₄ e₅ e₆ = e₆ ∙ ap₂ (λ x y. (forward_b wide false x y prev all next).image) e₄ e₅ ∙ ap (λ (t : Store). t.image) (onto-bin q)

  pub onto_bin_words : {r₁ w₁ w₂ : List ℕ} → (prev ≡ get_or r 2 0 → ⊥) → r₁ ≡ (unlink_chunk wide r w prev b).image → w₁ ≡ (unlink_chunk wide r w prev b).words → w₂ ≡ (forward_b wide false r₁ w₁ prev all next).words → w₂ ≡ (back_b wide r w p n next).words
  onto_bin_words q e₄ e₅ e₆ = e₆ ∙ ap₂ (λ x y. (forward_b wide false x y prev all next).words) e₄ e₅ ∙ ap (λ (t : Store). t.words) (onto-bin q)

-- ---- the whole call

module _ (r w : List ℕ) (p n next : ℕ) (u : Bool) (e₁ : next ≡ wrap wide (p + n)) (e₂ : u ≡ pinuse_b wide w p) where
  pub plain_image : {r₁ : List ℕ} → u ≡ true → r₁ ≡ (forward_b wide false r w p n next).image → r₁ ≡ (dispose_b wide r w p n).image
  unfolding dispose_b
  plain_image q e₃ = rw (sym e₂ ∙ q) (e₃ ∙ ap (λ x. (forward_b wide false r w p n x).image) e₁)

  pub plain_words : {w₁ : List ℕ} → u ≡ true → w₁ ≡ (forward_b wide false r w p n next).words → w₁ ≡ (dispose_b wide r w p n).words
  unfolding dispose_b
  plain_words q e₃ = rw (sym e₂ ∙ q) (e₃ ∙ ap (λ x. (forward_b wide false r w p n x).words) e₁)

  pub back_image : {r₁ : List ℕ} → u ≡ false → r₁ ≡ (back_b wide r w p n next).image → r₁ ≡ (dispose_b wide r w p n).image
  unfolding dispose_b
  back_image q e₃ = rw (sym e₂ ∙ q) (e₃ ∙ ap (λ x. (back_b wide r w p n x).image) e₁)

  pub back_words : {w₁ : List ℕ} → u ≡ false → w₁ ≡ (back_b wide r w p n next).words → w₁ ≡ (dispose_b wide r w p n).words
  unfolding dispose_b
  back_words q e₃ = rw (sym e₂ ∙ q) (e₃ ∙ ap (λ x. (back_b wide r w p n x).words) e₁)

module _ (r w : List ℕ) (p : ℕ) {n : ℕ} where
  pub free-image : {r₁ : List ℕ} → n ≡ size_b wide w p → r₁ ≡ (dispose_b wide r w p n).image → r₁ ≡ (free_b wide r w p).image
  unfolding free_b
  free-image e₁ e₂ = e₂ ∙ ap (λ x. (dispose_b wide r w p x).image) e₁

  pub free_words_lem : {w₁ : List ℕ} → n ≡ size_b wide w p → w₁ ≡ (dispose_b wide r w p n).words → w₁ ≡ (free_b wide r w p).words
  unfolding free_b
  free_words_lem e₁ e₂ = e₂ ∙ ap (λ x. (dispose_b wide r w p x).words) e₁

pub ruleset away-laws = (away_mine_image, away_mine_words, away_bin_image, away_bin_words)

pub ruleset join-laws = (top_image, top_words_lem, dv_image, dv_words_lem, binned_image, binned_words)

pub ruleset forward-laws = (used_image, used_words, to_top_image, to_top_words, to_dv_image, to_dv_words, to_bin_image, to_bin_words)

pub ruleset back-laws = (onto_dv_image, onto_dv_words, onto_bin_image, onto_bin_words)

pub ruleset laws = (away-laws, join-laws, forward-laws, back-laws, plain_image, plain_words, back_image, back_words, free-image, free_words_lem)
