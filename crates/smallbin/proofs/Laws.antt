-- One law for each contract clause: what the callees have told, put together as the definition says it.
use Prim.Native.Nat.{ℕ, ◌-◌, ◌/◌, ◌%◌, ◌^◌}
use mathlib.Core.Path.{◌≡◌, refl, sym, ap, ◌∙◌}
use mathlib.Core.List.{List}
use borrow.Author.Tests.{eq-eqb, ne_eqb}
use Rattle.words.specs.Edition.{wide, no_link}
use Rattle.chunk.specs.Bytes.{word, put, small, link_of, enter_r, relink_r}
use Rattle.smallbin.specs.SmallBytes.{link_new_w, join_w, insert_small, unlink_small, unlink_first}

module _ (w : List ℕ) where
  pub link_new_w_lem : (c f : ℕ) {w₁ w₂ w₃ : List ℕ} → w₁ ≡ put wide w f 3 c → w₂ ≡ put wide w₁ c 2 f → w₃ ≡ put wide w₂ c 3 (no_link wide) → w₃ ≡ link_new_w wide w c f
  link_new_w_lem c f e₁ e₂ e₃ = cc

  pub join_w_lem : (f b : ℕ) {w₁ w₂ : List ℕ} → w₁ ≡ put wide w f 3 b → w₂ ≡ put wide w₁ b 2 f → w₂ ≡ join_w wide w f b
  join_w_lem f b e₁ e₂ = cc

module _ (r w : List ℕ) (c n : ℕ) where
  pub insert-image : {i : ℕ} {r₁ : List ℕ} → i ≡ n / 8 % 32 → r₁ ≡ enter_r small r i c → r₁ ≡ (insert_small wide r w c n).image
  unfolding insert_small
  insert-image e₁ e₂ = e₂ ∙ ap (λ i. enter_r small r i c) e₁

  pub insert_words : {i f : ℕ} {w₁ : List ℕ} → i ≡ n / 8 % 32 → f ≡ link_of small r i → w₁ ≡ link_new_w wide w c f → w₁ ≡ (insert_small wide r w c n).words
  unfolding insert_small
  insert_words e₁ e₂ e₃ = e₃ ∙ ap (link_new_w wide w c) (e₂ ∙ ap (link_of small r) e₁)

  pub unlink_words : {f b : ℕ} {w₁ : List ℕ} → f ≡ word wide w c 2 → b ≡ word wide w c 3 → w₁ ≡ join_w wide w f b → w₁ ≡ (unlink_small wide r w c n).words
  unfolding unlink_small
  unlink_words e₁ e₂ e₃ = cc

  -- c was the newest, was not
  pub unlink-newest : {f b i : ℕ} {r₁ : List ℕ} → f ≡ word wide w c 2 → b ≡ word wide w c 3 → b ≡ 2 ^ 64 - 1 → i ≡ n / 8 % 32 → r₁ ≡ relink_r wide small r i f → r₁ ≡ (unlink_small wide r w c n).image
  unfolding unlink_small
  unlink-newest {f} e₁ e₂ q e₃ e₄ = e₄ ∙ ap (λ i. relink_r wide small r i f) e₃ ∙ ap (relink_r wide small r (n / 8 % 32)) e₁ ∙ sym (rw (eq-eqb (word wide w c 3) (2 ^ 64 - 1) (sym e₂ ∙ q)) refl)

  pub unlink_older : {b : ℕ} → b ≡ word wide w c 3 → (b ≡ 2 ^ 64 - 1 → ⊥) → r ≡ (unlink_small wide r w c n).image
  unfolding unlink_small
  unlink_older e₂ q = sym (rw (ne_eqb (word wide w c 3) (2 ^ 64 - 1) (λ z. q (e₂ ∙ z))) refl)

module _ (r w : List ℕ) (c i : ℕ) {f : ℕ} where
  pub first_image : {r₁ : List ℕ} → f ≡ word wide w c 2 → r₁ ≡ relink_r wide small r i f → r₁ ≡ (unlink_first wide r w c i).image
  unfolding unlink_first
  first_image e₁ e₂ = e₂ ∙ ap (relink_r wide small r i) e₁

  pub first_words : {w₁ : List ℕ} → f ≡ word wide w c 2 → w₁ ≡ put wide w f 3 (no_link wide) → w₁ ≡ (unlink_first wide r w c i).words
  unfolding unlink_first
  first_words e₁ e₂ = e₂ ∙ ap (λ x. put wide w x 3 (no_link wide)) e₁

pub ruleset laws = (link_new_w_lem, join_w_lem, insert-image, insert_words, unlink_words, unlink-newest, unlink_older, first_image, first_words)
