-- One law for each contract clause and branch: what the callees have told, put together as the definition says it.
use Prim.Native.Nat.{ℕ, suc, ◌+◌, ◌-◌, ◌/◌, ◌^◌, ◌≤◌, ◌<◌}
use mathlib.Core.Path.{◌≡◌, refl, sym, ap, ◌∙◌}
use mathlib.Core.Bool.{Bool, true, false}
use mathlib.Core.List.{List}
use native.Mathlib.Omega.{arith}
use lib.Dec.{leb, ltb, eqb}
use borrow.Author.Tests.{le-leb, lt-leb, lt-ltb, le-ltb, eq-eqb, ne_eqb}
use lib.ListN.{length, get_or, set, length-set}
use Rattle.words.specs.Logic.{pick}
use Rattle.words.specs.Edition.{wide, no_link}
use Rattle.chunk.specs.Bytes.{Store, wrap, less, size_b, cinuse_b, set_dv, set_top, top_w, free_w, unpin_w, inuse_w}
use Rattle.treebin.specs.Binning.{unlink_chunk}
use Rattle.malloc.specs.MallocBytes.{reply, malloc_b}
use Rattle.free.specs.FreeBytes.{dispose_b}
use Rattle.realloc.specs.ReallocBytes.{Tried, tried, held, cut_back, shrink_b, grow_top, grow_dv, grow_binned, try_realloc, copy_up, copy_words, move_block, moved_b, realloc_b}

-- ---- in place

module _ (r w : List ℕ) (p nb n rest : ℕ) (w₁ w₂ : List ℕ) (e₁ : rest ≡ wrap wide (p + nb)) (e₂ : w₁ ≡ inuse_w wide w p nb) (e₃ : w₂ ≡ inuse_w wide w₁ rest n) where
  disposed : dispose_b wide r w₂ rest n ≡ cut_back wide r w p nb n
  unfolding cut_back
  disposed = rw (e₃, e₂, e₁) refl

  pub cut-image : {r₁ : List ℕ} → r₁ ≡ (dispose_b wide r w₂ rest n).image → r₁ ≡ (cut_back wide r w p nb n).image
  cut-image q = q ∙ ap (λ (t : Store). t.image) disposed

  pub cut_words : {w₃ : List ℕ} → w₃ ≡ (dispose_b wide r w₂ rest n).words → w₃ ≡ (cut_back wide r w p nb n).words
  cut_words q = q ∙ ap (λ (t : Store). t.words) disposed

module _ (r w : List ℕ) (p nb n : ℕ) where
  pub shrink-image : {r₁ : List ℕ} → 32 ≤ n → r₁ ≡ (cut_back wide r w p nb n).image → r₁ ≡ (shrink_b wide r w p nb n).image
  unfolding shrink_b
  shrink-image l e₁ = rw (le-ltb n 32 l) e₁

  pub shrink_words : {w₁ : List ℕ} → 32 ≤ n → w₁ ≡ (cut_back wide r w p nb n).words → w₁ ≡ (shrink_b wide r w p nb n).words
  unfolding shrink_b
  shrink_words l e₁ = rw (le-ltb n 32 l) e₁

  pub stay_image : {r₁ : List ℕ} → n < 32 → r₁ ≡ r → r₁ ≡ (shrink_b wide r w p nb n).image
  unfolding shrink_b
  stay_image l e₁ = rw (lt-ltb n 32 l) e₁

  pub stay_words : {w₁ : List ℕ} → n < 32 → w₁ ≡ w → w₁ ≡ (shrink_b wide r w p nb n).words
  unfolding shrink_b
  stay_words l e₁ = rw (lt-ltb n 32 l) e₁

module _ (r w : List ℕ) (p all nb : ℕ) where
  pub top_no : all ≤ nb → tried false r w ≡ grow_top wide r w p all nb
  unfolding grow_top
  top_no l = rw (le-leb all nb l) refl

  pub top_yes : {rest : ℕ} {r₁ w₁ w₂ : List ℕ} → nb < all → rest ≡ wrap wide (p + nb) → r₁ ≡ set_top r rest (all - nb) → w₁ ≡ inuse_w wide w p nb → w₂ ≡ top_w wide w₁ rest (all - nb) → tried true r₁ w₂ ≡ grow_top wide r w p all nb
  unfolding grow_top
  top_yes l e₁ e₂ e₃ e₄ = rw (lt-leb all nb l, e₄, e₃, e₂, e₁) refl

  pub dv_no : all < nb → tried false r w ≡ grow_dv wide r w p all nb
  unfolding grow_dv
  dv_no l = rw (lt-ltb all nb l) refl

  pub dv_whole : {r₁ w₁ : List ℕ} → nb ≤ all → all - nb < 32 → r₁ ≡ set_dv r (no_link wide) 0 → w₁ ≡ inuse_w wide w p all → tried true r₁ w₁ ≡ grow_dv wide r w p all nb
  unfolding grow_dv
  dv_whole l k e₁ e₂ = rw (le-ltb all nb l, lt-ltb (all - nb) 32 k, e₁, e₂) refl

  pub dv_cut : {rest last : ℕ} {r₁ w₁ w₂ w₃ : List ℕ} → nb ≤ all → 32 ≤ all - nb → rest ≡ wrap wide (p + nb) → r₁ ≡ set_dv r rest (all - nb) → w₁ ≡ inuse_w wide w p nb → w₂ ≡ free_w wide w₁ rest (all - nb) → last ≡ wrap wide (p + all)
      → w₃ ≡ unpin_w wide w₂ last → tried true r₁ w₃ ≡ grow_dv wide r w p all nb
  unfolding grow_dv
  dv_cut l k e₁ e₂ e₃ e₄ e₅ e₆ = rw (le-ltb all nb l, le-ltb (all - nb) 32 k, e₆, e₄, e₃, e₂, e₁, e₅) refl

module _ (r w : List ℕ) (p old next nb b all : ℕ) (e₁ : b ≡ size_b wide w next) (e₂ : all ≡ wrap wide (old + b)) where
  grown_with : Tried
  grown_with = pick (ltb all nb) (tried false r w) (held (shrink_b wide (unlink_chunk wide r w next b).image (inuse_w wide (unlink_chunk wide r w next b).words p all) p nb (all - nb)))

  named : grown_with ≡ grow_binned wide r w p old next nb
  unfolding grow_binned grown_with
  named = rw (e₂, e₁) refl

  pub binned_no : all < nb → tried false r w ≡ grow_binned wide r w p old next nb
  unfolding grown_with
  binned_no l = sym (rw (lt-ltb all nb l) refl) ∙ named

  pub binned_yes : {r₁ r₂ w₁ w₂ w₃ : List ℕ} → nb ≤ all → r₁ ≡ (unlink_chunk wide r w next b).image → w₁ ≡ (unlink_chunk wide r w next b).words → w₂ ≡ inuse_w wide w₁ p all → r₂ ≡ (shrink_b wide r₁ w₂ p nb (all - nb)).image
      → w₃ ≡ (shrink_b wide r₁ w₂ p nb (all - nb)).words → tried true r₂ w₃ ≡ grow_binned wide r w p old next nb
  unfolding grown_with
  binned_yes l e₃ e₄ e₅ e₆ e₇ = rw (e₆, e₇, e₅, e₃, e₄) (sym (rw (le-ltb all nb l) refl) ∙ named)

-- ---- trying

-- the definition, with its readings named
try_with : List ℕ → List ℕ → ℕ → ℕ → ℕ → ℕ → Tried
try_with r w p nb old next =
    pick (leb nb old) (held (shrink_b wide r w p nb (old - nb)))
    (pick (eqb next (get_or r 4 0)) (grow_top wide r w p (wrap wide (old + get_or r 5 0)) nb)
    (pick (eqb next (get_or r 2 0)) (grow_dv wide r w p (wrap wide (old + get_or r 3 0)) nb)
    (pick (cinuse_b wide w next) (tried false r w) (grow_binned wide r w p old next nb))))

module _ (r w : List ℕ) (p nb old next : ℕ) (e₁ : old ≡ size_b wide w p) (e₂ : next ≡ wrap wide (p + old)) where
  try_named : try_with r w p nb old next ≡ try_realloc wide r w p nb
  unfolding try_realloc try_with
  try_named = rw (e₂, e₁) refl

  pub try_shrink : {r₁ w₁ : List ℕ} → nb ≤ old → r₁ ≡ (shrink_b wide r w p nb (old - nb)).image → w₁ ≡ (shrink_b wide r w p nb (old - nb)).words → tried true r₁ w₁ ≡ try_realloc wide r w p nb
  unfolding try_with
  try_shrink l e₃ e₄ = rw (e₃, e₄) (sym (rw (le-leb nb old l) refl) ∙ try_named)

  pub try_top : {all : ℕ} {t : Tried} → old < nb → next ≡ get_or r 4 0 → all ≡ wrap wide (old + get_or r 5 0) → t ≡ grow_top wide r w p all nb → t ≡ try_realloc wide r w p nb
  unfolding try_with
  try_top l q e₃ e₄ = e₄ ∙ ap (λ x. grow_top wide r w p x nb) e₃ ∙ sym (rw (lt-leb nb old l, eq-eqb next (get_or r 4 0) q) refl) ∙ try_named

  pub try_dv : {all : ℕ} {t : Tried} → old < nb → (next ≡ get_or r 4 0 → ⊥) → next ≡ get_or r 2 0 → all ≡ wrap wide (old + get_or r 3 0) → t ≡ grow_dv wide r w p all nb → t ≡ try_realloc wide r w p nb
  unfolding try_with
  try_dv l k q e₃ e₄ = e₄ ∙ ap (λ x. grow_dv wide r w p x nb) e₃ ∙ sym (rw (lt-leb nb old l, ne_eqb next (get_or r 4 0) k, eq-eqb next (get_or r 2 0) q) refl) ∙ try_named

  pub try_used : {u : Bool} → old < nb → (next ≡ get_or r 4 0 → ⊥) → (next ≡ get_or r 2 0 → ⊥) → u ≡ cinuse_b wide w next → u ≡ true → tried false r w ≡ try_realloc wide r w p nb
  unfolding try_with
  try_used l k q e₃ z = sym (rw (lt-leb nb old l, ne_eqb next (get_or r 4 0) k, ne_eqb next (get_or r 2 0) q, sym e₃ ∙ z) refl) ∙ try_named

  pub try_binned : {u : Bool} {t : Tried} → old < nb → (next ≡ get_or r 4 0 → ⊥) → (next ≡ get_or r 2 0 → ⊥) → u ≡ cinuse_b wide w next → u ≡ false → t ≡ grow_binned wide r w p old next nb → t ≡ try_realloc wide r w p nb
  unfolding try_with
  try_binned l k q e₃ z e₄ = e₄ ∙ sym (rw (lt-leb nb old l, ne_eqb next (get_or r 4 0) k, ne_eqb next (get_or r 2 0) q, sym e₃ ∙ z) refl) ∙ try_named

-- ---- copying

module _ (w : List ℕ) (a b : ℕ) where
  copy_none : w ≡ copy_up w a b 0
  unfolding copy_up
  copy_none = refl

  copy_more : (i : ℕ) {v : List ℕ} → v ≡ copy_up w a b i → set v (b + i) (get_or v (a + i) 0) ≡ copy_up w a b (i + 1)
  unfolding copy_up
  copy_more i e₁ = ap (λ x. set x (b + i) (get_or x (a + i) 0)) e₁ ∙ sym (ap (copy_up w a b) (let q : i + 1 ≡ suc i = omega arith in q))

  -- the loop's invariant: i words are copied
  pub record Copying (n : ℕ) (v : List ℕ) (i : ℕ) : Type 0 where
    pub from_in : a + n ≤ length v
    pub to_in : b + n ≤ length v
    pub far : i ≤ n
    pub long : length v ≡ length w
    pub same : v ≡ copy_up w a b i

  pub copy_starts : (n : ℕ) → a + n ≤ length w → b + n ≤ length w → Copying n w 0
  copy_starts n l k = record { from_in = l; to_in = k; far = omega arith; long = refl; same = copy_none }

  pub copy_turns : (n i : ℕ) (v : List ℕ) → Copying n v i → i < n → Copying n (set v (b + i) (get_or v (a + i) 0)) (i + 1)
  copy_turns n i v c l = record { from_in = simp length-set c.from_in; to_in = simp length-set c.to_in; far = omega arith; long = simp length-set c.long; same = copy_more i c.same }

  pub copy_ends : (n i : ℕ) (v : List ℕ) → Copying n v i → n ≤ i → v ≡ copy_up w a b n
  copy_ends n i v c l = c.same ∙ ap (copy_up w a b) (let q : i ≡ n = omega (arith, c.far) in q)

  module _ (n : ℕ) where
    pub copy_short : length w < n → w ≡ copy_words w a b n
    unfolding copy_words
    copy_short l = rw (lt-ltb (length w) n l) refl

    pub copy_from_out : n ≤ length w → length w - n < a → w ≡ copy_words w a b n
    unfolding copy_words
    copy_from_out l k = rw (le-ltb (length w) n l, lt-ltb (length w - n) a k) refl

    pub copy_to_out : n ≤ length w → a ≤ length w - n → length w - n < b → w ≡ copy_words w a b n
    unfolding copy_words
    copy_to_out l k j = rw (le-ltb (length w) n l, le-ltb (length w - n) a k, lt-ltb (length w - n) b j) refl

    pub copy_all : {v : List ℕ} → n ≤ length w → a ≤ length w - n → b ≤ length w - n → v ≡ copy_up w a b n → v ≡ copy_words w a b n
    unfolding copy_words
    copy_all l k j e₁ = rw (le-ltb (length w) n l, le-ltb (length w - n) a k, le-ltb (length w - n) b j) e₁

-- ---- moved

module _ (r w : List ℕ) (p q old m : ℕ) (w₁ : List ℕ) (e₁ : old ≡ size_b wide w p) (e₂ : m ≡ less wide old 8) (e₃ : w₁ ≡ copy_words w (p / 8 + 2) (q / 8 + 2) (m / 8)) where
  moved_is : dispose_b wide r w₁ p old ≡ move_block wide r w p q
  unfolding move_block
  moved_is = rw (e₃, e₂, e₁) refl

  pub move_image : {r₁ : List ℕ} → r₁ ≡ (dispose_b wide r w₁ p old).image → r₁ ≡ (move_block wide r w p q).image
  move_image e₄ = e₄ ∙ ap (λ (t : Store). t.image) moved_is

  pub move_words : {w₂ : List ℕ} → w₂ ≡ (dispose_b wide r w₁ p old).words → w₂ ≡ (move_block wide r w p q).words
  move_words e₄ = e₄ ∙ ap (λ (t : Store). t.words) moved_is

module _ (r w : List ℕ) (p nb : ℕ) where
  realloc_by : (t : Tried) → t ≡ try_realloc wide r w p nb → pick t.here (reply p t.image t.words) (moved_b wide p (malloc_b wide t.image t.words nb)) ≡ realloc_b wide r w p nb
  unfolding realloc_b
  realloc_by t q = ap (λ (x : Tried). pick x.here (reply p x.image x.words) (moved_b wide p (malloc_b wide x.image x.words nb))) q

  pub here_first : {u : Bool} {r₁ w₁ : List ℕ} → tried u r₁ w₁ ≡ try_realloc wide r w p nb → u ≡ true → reply p r₁ w₁ ≡ realloc_b wide r w p nb
  here_first {u} {r₁} {w₁} e₁ q = sym (rw q refl) ∙ realloc_by (tried u r₁ w₁) e₁

  pub not_moved : {u : Bool} {a : ℕ} {r₁ r₂ w₁ w₂ : List ℕ} → tried u r₁ w₁ ≡ try_realloc wide r w p nb → u ≡ false → reply a r₂ w₂ ≡ malloc_b wide r₁ w₁ nb → a ≡ 2 ^ 64 - 1 → reply a r₂ w₂ ≡ realloc_b wide r w p nb
  unfolding moved_b
  not_moved {u} {a} {r₁} {r₂} {w₁} {w₂} e₁ q e₂ z =
      sym (rw (q, sym e₂, eq-eqb a (2 ^ 64 - 1) z) refl) ∙ realloc_by (tried u r₁ w₁) e₁

  pub moved_away : {u : Bool} {a : ℕ} {r₁ r₂ r₃ w₁ w₂ w₃ : List ℕ} → tried u r₁ w₁ ≡ try_realloc wide r w p nb → u ≡ false → reply a r₂ w₂ ≡ malloc_b wide r₁ w₁ nb → (a ≡ 2 ^ 64 - 1 → ⊥) → r₃ ≡ (move_block wide r₂ w₂ p a).image
      → w₃ ≡ (move_block wide r₂ w₂ p a).words → reply a r₃ w₃ ≡ realloc_b wide r w p nb
  unfolding moved_b
  moved_away {u} {a} {r₁} {r₂} {r₃} {w₁} {w₂} {w₃} e₁ q e₂ z e₃ e₄ =
      rw (e₃, e₄) (sym (rw (q, sym e₂, ne_eqb a (2 ^ 64 - 1) z) refl) ∙ realloc_by (tried u r₁ w₁) e₁)

pub ruleset grow-laws = (cut-image, cut_words, shrink-image, shrink_words, stay_image, stay_words, top_no, top_yes, dv_no, dv_whole, dv_cut, binned_no, binned_yes)

pub ruleset try-laws = (try_shrink, try_top, try_dv, try_used, try_binned)

pub ruleset laws = (grow-laws, try-laws, copy_starts, copy_turns, copy_ends, copy_short, copy_from_out, copy_to_out, copy_all, move_image, move_words, here_first, not_moved, moved_away)
