-- Both kinds of bin, and the spare chunk: each contract clause, branch by branch; a branch is the definition's `pick` at the test's outcome.
use Prim.Native.Nat.{ℕ, ◌<◌, ◌≤◌}
use mathlib.Core.Path.{◌≡◌, refl, ap, ◌∙◌}
use mathlib.Core.List.{List}
use borrow.Author.Tests.{eq-eqb, ne_eqb, lt-ltb, le-ltb}
use lib.ListN.{get_or}
use Rattle.words.specs.Edition.{wide}
use Rattle.chunk.specs.Bytes.{set_dv}
use Rattle.smallbin.specs.SmallBytes.{insert_small, unlink_small}
use Rattle.treebin.specs.TreeBytes.{insert_large, unlink_large}
use Rattle.treebin.specs.Binning.{insert_chunk, unlink_chunk, replace_dv}

module _ (r w : List ℕ) (c n : ℕ) {z : List ℕ} where
  pub insert_small_image : n < 256 → z ≡ (insert_small wide r w c n).image → z ≡ (insert_chunk wide r w c n).image
  unfolding insert_chunk
  insert_small_image l e = rw (lt-ltb n 256 l) e

  pub insert_small_words : n < 256 → z ≡ (insert_small wide r w c n).words → z ≡ (insert_chunk wide r w c n).words
  unfolding insert_chunk
  insert_small_words l e = rw (lt-ltb n 256 l) e

  pub insert_large_image : 256 ≤ n → z ≡ (insert_large wide r w c n).image → z ≡ (insert_chunk wide r w c n).image
  unfolding insert_chunk
  insert_large_image l e = rw (le-ltb n 256 l) e

  pub insert_large_words : 256 ≤ n → z ≡ (insert_large wide r w c n).words → z ≡ (insert_chunk wide r w c n).words
  unfolding insert_chunk
  insert_large_words l e = rw (le-ltb n 256 l) e

  pub unlink_small_image : n < 256 → z ≡ (unlink_small wide r w c n).image → z ≡ (unlink_chunk wide r w c n).image
  unfolding unlink_chunk
  unlink_small_image l e = rw (lt-ltb n 256 l) e

  pub unlink_small_words : n < 256 → z ≡ (unlink_small wide r w c n).words → z ≡ (unlink_chunk wide r w c n).words
  unfolding unlink_chunk
  unlink_small_words l e = rw (lt-ltb n 256 l) e

  pub unlink_large_image : 256 ≤ n → z ≡ (unlink_large wide r w c).image → z ≡ (unlink_chunk wide r w c n).image
  unfolding unlink_chunk
  unlink_large_image l e = rw (le-ltb n 256 l) e

  pub unlink_large_words : 256 ≤ n → z ≡ (unlink_large wide r w c).words → z ≡ (unlink_chunk wide r w c n).words
  unfolding unlink_chunk
  unlink_large_words l e = rw (le-ltb n 256 l) e

module _ (r w : List ℕ) (c n : ℕ) where
  module _ (q : get_or r 3 0 ≡ 0) where
    pub no_dv_image : {r₁ : List ℕ} → r₁ ≡ set_dv r c n → r₁ ≡ (replace_dv wide r w c n).image
    unfolding replace_dv
    no_dv_image e = rw (eq-eqb (get_or r 3 0) 0 q) e

    pub no_dv_words : w ≡ (replace_dv wide r w c n).words
    unfolding replace_dv
    no_dv_words = rw (eq-eqb (get_or r 3 0) 0 q) refl

  module _ (q : get_or r 3 0 ≡ 0 → ⊥) where
    pub old_dv_image : {r₁ r₂ : List ℕ} → r₁ ≡ (insert_chunk wide r w (get_or r 2 0) (get_or r 3 0)).image → r₂ ≡ set_dv r₁ c n → r₂ ≡ (replace_dv wide r w c n).image
    unfolding replace_dv
    old_dv_image e₁ e₂ = rw (ne_eqb (get_or r 3 0) 0 q) (e₂ ∙ ap (λ x. set_dv x c n) e₁)

    pub old_dv_words : {w₁ : List ℕ} → w₁ ≡ (insert_chunk wide r w (get_or r 2 0) (get_or r 3 0)).words → w₁ ≡ (replace_dv wide r w c n).words
    unfolding replace_dv
    old_dv_words e = rw (ne_eqb (get_or r 3 0) 0 q) e

pub ruleset laws = (insert_small_image, insert_small_words, insert_large_image, insert_large_words, unlink_small_image, unlink_small_words, unlink_large_image, unlink_large_words, no_dv_image, no_dv_words, old_dv_image, old_dv_words)
