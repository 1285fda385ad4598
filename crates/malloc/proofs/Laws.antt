-- One law for each contract and branch: what the callees have told, put together as the definition says it.
use Prim.Native.Nat.{ℕ, ◌+◌, ◌-◌, ◌*◌, ◌/◌, ◌%◌, ◌^◌, ◌≤◌, ◌<◌}
use mathlib.Core.Path.{◌≡◌, refl, sym, ap, ap₂, ◌∙◌}
use mathlib.Core.List.{List}
use borrow.Author.Tests.{le-leb, lt-leb, lt-ltb, le-ltb, eq-eqb, ne_eqb}
use lib.ListN.{get_or}
use Rattle.words.specs.Edition.{wide, no_link}
use Rattle.index.specs.BinMap.{first_from, own_or_next, in_map}
use Rattle.index.specs.BinMapLaws.{place, no_place}
use Rattle.std.specs.Prelude.{Option, Some, None}
use Rattle.rules.specs.Malloc.{Rest, to_dv, to_bin}
use Rattle.chunk.specs.Bytes.{wrap, less, small, map_of, link_of, set_dv, set_top, used_w, top_w, free_w, take_w, split_w}
use Rattle.smallbin.specs.SmallBytes.{small_bin_of, unlink_first}
use Rattle.treebin.specs.TreeBytes.{unlink_large}
use Rattle.treebin.specs.SearchBytes.{Best, best_above, best_tree}
use Rattle.treebin.specs.Binning.{insert_chunk, replace_dv}
use Rattle.chunk.specs.Links.{LeadsTo}
use Rattle.chunk.specs.declared.access.ChunkOff.{ChunkOff}
use Rattle.malloc.specs.Granting.{Hands}
use Rattle.malloc.specs.MallocBytes.{Reply, reply, settle_b, serve_b, malloc_top, cut_dv, malloc_dv, take_small, take_fuller, take_tree, small_tree, malloc_fuller, malloc_small, malloc_find, malloc_b}

-- ---- a remainder: left with the block, or cut off

module _ (k : Rest) (r w : List ℕ) (c nb n : ℕ) where
  pub whole_image : {r₁ : List ℕ} → n < 32 → r₁ ≡ r → r₁ ≡ (serve_b wide k r w c nb n).image
  unfolding serve_b
  whole_image l e = rw (lt-ltb n 32 l) e

  pub whole_words : {s : ℕ} {w₁ : List ℕ} → n < 32 → s ≡ wrap wide (nb + n) → w₁ ≡ take_w wide w c s → w₁ ≡ (serve_b wide k r w c nb n).words
  unfolding serve_b
  whole_words l e₁ e₂ = e₂ ∙ ap (take_w wide w c) e₁ ∙ sym (rw (lt-ltb n 32 l) refl)

  module _ (rest : ℕ) (w₁ w₂ : List ℕ) (l : 32 ≤ n) (e₁ : rest ≡ wrap wide (c + nb)) (e₂ : w₁ ≡ used_w wide w c nb) (e₃ : w₂ ≡ free_w wide w₁ rest n) where
    split_is : w₂ ≡ split_w wide w c nb n
    split_is = e₃ ∙ ap₂ (λ x y. free_w wide x y n) e₂ e₁

    pub cut_image : {r₁ r₂ : List ℕ} → r₁ ≡ r → r₂ ≡ (settle_b wide k r₁ w₂ rest n).image → r₂ ≡ (serve_b wide k r w c nb n).image
    unfolding serve_b
    cut_image e q = q ∙ ap (λ z. (settle_b wide k z w₂ rest n).image) e ∙ ap₂ (λ x y. (settle_b wide k r x y n).image) split_is e₁ ∙ sym (rw (le-ltb n 32 l) refl)

    pub cut_words : {r₁ w₃ : List ℕ} → r₁ ≡ r → w₃ ≡ (settle_b wide k r₁ w₂ rest n).words → w₃ ≡ (serve_b wide k r w c nb n).words
    unfolding serve_b
    cut_words e q = q ∙ ap (λ z. (settle_b wide k z w₂ rest n).words) e ∙ ap₂ (λ x y. (settle_b wide k r x y n).words) split_is e₁ ∙ sym (rw (le-ltb n 32 l) refl)

-- the rest of a cut is the spare chunk
module _ (r w : List ℕ) (c nb n : ℕ) where
  module _ (rest : ℕ) (w₁ w₂ : List ℕ) (l : 32 ≤ n) (e₁ : rest ≡ wrap wide (c + nb)) (e₂ : w₁ ≡ used_w wide w c nb) (e₃ : w₂ ≡ free_w wide w₁ rest n) where
    pub cut_dv_image : {r₁ : List ℕ} → r₁ ≡ (replace_dv wide r w₂ rest n).image → r₁ ≡ (serve_b wide to_dv r w c nb n).image
    unfolding settle_b
    cut_dv_image q = cut_image to_dv r w c nb n rest w₁ w₂ l e₁ e₂ e₃ refl q

-- ---- the top and the spare chunk

module _ (r w : List ℕ) (c n : ℕ) where
  pub to_dv_is : settle_b wide to_dv r w c n ≡ replace_dv wide r w c n
  unfolding settle_b
  to_dv_is = refl

  pub to_bin_is : settle_b wide to_bin r w c n ≡ insert_chunk wide r w c n
  unfolding settle_b
  to_bin_is = refl

module _ (r w : List ℕ) (nb : ℕ) {ts : ℕ} (e : ts ≡ get_or r 5 0) where
  pub top_no : ts ≤ nb → reply (no_link wide) r w ≡ malloc_top wide r w nb
  unfolding malloc_top
  top_no l = rw (sym e, le-leb _ _ l) refl

  pub top_yes : {r₁ w₁ w₂ : List ℕ} {p d : ℕ} → nb < ts → p ≡ get_or r 4 0 → d ≡ wrap wide (p + nb) → r₁ ≡ set_top r d (ts - nb) → w₁ ≡ top_w wide w d (ts - nb) → w₂ ≡ used_w wide w₁ p nb
      → reply p r₁ w₂ ≡ malloc_top wide r w nb
  unfolding malloc_top
  top_yes l e₀ e₁ e₂ e₃ e₄ = rw (sym e, sym e₀, lt-leb _ _ l, sym e₁) (cc)

module _ (r w : List ℕ) (nb : ℕ) {s : ℕ} {a : Reply} (e : s ≡ get_or r 3 0) where
  pub dv_no : s < nb → a ≡ malloc_top wide r w nb → a ≡ malloc_dv wide r w nb
  unfolding malloc_dv
  dv_no l e₁ = rw (sym e, lt-ltb _ _ l) e₁

  pub dv_yes : {d : ℕ} → nb ≤ s → d ≡ get_or r 2 0 → a ≡ cut_dv wide r w d s nb (s - nb) → a ≡ malloc_dv wide r w nb
  unfolding malloc_dv
  dv_yes l e₀ e₁ = rw (sym e, sym e₀, le-ltb _ _ l) e₁

module _ (r w : List ℕ) (d s nb n : ℕ) where
  pub dv_whole : {r₁ w₁ : List ℕ} → n < 32 → r₁ ≡ set_dv r (no_link wide) 0 → w₁ ≡ take_w wide w d s → reply d r₁ w₁ ≡ cut_dv wide r w d s nb n
  unfolding cut_dv
  dv_whole l e₁ e₂ = rw (lt-ltb _ _ l, e₁, e₂)

  pub dv_cut : {r₁ w₁ w₂ : List ℕ} {c : ℕ} → 32 ≤ n → c ≡ wrap wide (d + nb) → r₁ ≡ set_dv r c n → w₁ ≡ used_w wide w d nb → w₂ ≡ free_w wide w₁ c n → reply d r₁ w₂ ≡ cut_dv wide r w d s nb n
  unfolding cut_dv
  dv_cut l e₁ e₂ e₃ e₄ = rw (le-ltb _ _ l, e₄, e₃, e₂, e₁)

-- ---- from the bins

module _ (r w : List ℕ) (j : ℕ) where
  pub small_taken : {p s : ℕ} {r₁ w₁ w₂ : List ℕ} → p ≡ link_of small r j → r₁ ≡ (unlink_first wide r w p j).image → w₁ ≡ (unlink_first wide r w p j).words → s ≡ 8 * j → w₂ ≡ take_w wide w₁ p s
      → reply p r₁ w₂ ≡ take_small wide r w j
  unfolding take_small
  small_taken e₁ e₂ e₃ e₄ e₅ = rw (e₅, e₂, e₃, e₄, e₁)

  pub fuller_taken : (nb : ℕ) {p s n : ℕ} {r₁ r₂ w₁ w₂ : List ℕ} → p ≡ link_of small r j → r₁ ≡ (unlink_first wide r w p j).image → w₁ ≡ (unlink_first wide r w p j).words → s ≡ 8 * j → n ≡ less wide s nb
      → r₂ ≡ (serve_b wide to_dv r₁ w₁ p nb n).image → w₂ ≡ (serve_b wide to_dv r₁ w₁ p nb n).words → reply p r₂ w₂ ≡ take_fuller wide r w j nb
  unfolding take_fuller
  fuller_taken nb e₁ e₂ e₃ e₄ e₅ e₆ e₇ = rw (e₆, e₇, e₂, e₃, e₅, e₄, e₁)

module _ (k : Rest) (r w : List ℕ) (nb : ℕ) (b : Best) where
  pub tree_taken : {r₁ r₂ w₁ w₂ : List ℕ} → r₁ ≡ (unlink_large wide r w b.at).image → w₁ ≡ (unlink_large wide r w b.at).words → r₂ ≡ (serve_b wide k r₁ w₁ b.at nb b.rsize).image → w₂ ≡ (serve_b wide k r₁ w₁ b.at nb b.rsize).words
      → reply b.at r₂ w₂ ≡ take_tree wide k r w nb b
  unfolding take_tree
  tree_taken e₁ e₂ e₃ e₄ = rw (e₃, e₄, e₁, e₂)

module _ (r w : List ℕ) (nb : ℕ) (b : Best) {a : Reply} where
  pub small_none : b.at ≡ 2 ^ 64 - 1 → a ≡ malloc_top wide r w nb → a ≡ small_tree wide r w nb b
  unfolding small_tree
  small_none q e₁ = rw (eq-eqb b.at (2 ^ 64 - 1) q) e₁

  pub find_none : b.at ≡ 2 ^ 64 - 1 → a ≡ malloc_dv wide r w nb → a ≡ malloc_find wide r w nb b
  unfolding malloc_find
  find_none q e₁ = rw (eq-eqb b.at (2 ^ 64 - 1) q) e₁

  module _ (q : b.at ≡ 2 ^ 64 - 1 → ⊥) where
    pub small_found : {b₁ : Best} → b₁ ≡ b → a ≡ take_tree wide to_dv r w nb b₁ → a ≡ small_tree wide r w nb b
    unfolding small_tree
    small_found e e₁ = rw (ne_eqb b.at (2 ^ 64 - 1) q) (e₁ ∙ ap (take_tree wide to_dv r w nb) e)

    module _ {s : ℕ} (e : s ≡ get_or r 3 0) where
      pub find_only : s < nb → a ≡ take_tree wide to_bin r w nb b → a ≡ malloc_find wide r w nb b
      unfolding malloc_find
      find_only l e₁ = rw (ne_eqb b.at (2 ^ 64 - 1) q, sym e, lt-ltb s nb l) e₁

      pub find-better : nb ≤ s → b.rsize < s - nb → a ≡ take_tree wide to_bin r w nb b → a ≡ malloc_find wide r w nb b
      unfolding malloc_find
      find-better l k e₁ = rw (ne_eqb b.at (2 ^ 64 - 1) q, sym e, le-ltb s nb l, lt-ltb b.rsize (s - nb) k) e₁

      pub find_dv : nb ≤ s → s - nb ≤ b.rsize → a ≡ malloc_dv wide r w nb → a ≡ malloc_find wide r w nb b
      unfolding malloc_find
      find_dv l k e₁ = rw (ne_eqb b.at (2 ^ 64 - 1) q, sym e, le-ltb s nb l, le-ltb b.rsize (s - nb) k) e₁

-- ---- the choices

module _ (r w : List ℕ) (nb : ℕ) {m i : ℕ} (e₁ : m ≡ map_of small r) (e₂ : i ≡ nb / 8 % 32) where
  fuller_at : first_from 32 m (i % 32) ≡ first_from 32 (map_of small r) (small_bin_of nb % 32)
  fuller_at = ap₂ (λ x y. first_from 32 x (y % 32)) e₁ e₂

  pub fuller_yes : {j : ℕ} {a : Reply} → Some j ≡ in_map 32 (first_from 32 m (i % 32)) → a ≡ take_fuller wide r w j nb → a ≡ malloc_fuller wide r w nb
  unfolding malloc_fuller
  fuller_yes {j} e₃ e₄ =
      let p = place 32 (first_from 32 m (i % 32)) j e₃ in
      rw (sym fuller_at, lt-ltb _ 32 p.1, p.0) e₄

  pub fuller_no : {a : Reply} → None ≡ in_map 32 (first_from 32 m (i % 32)) → a ≡ small_tree wide r w nb (best_above wide r w 0 nb) → a ≡ malloc_fuller wide r w nb
  unfolding malloc_fuller
  fuller_no e₃ e₄ = rw (sym fuller_at, le-ltb _ 32 (no_place 32 (first_from 32 m (i % 32)) e₃)) e₄

  own_at : own_or_next 32 m (i % 32) ≡ own_or_next 32 (map_of small r) (small_bin_of nb % 32)
  own_at = ap₂ (λ x y. own_or_next 32 x (y % 32)) e₁ e₂

  pub own_yes : {j : ℕ} {a : Reply} → Some j ≡ in_map 32 (own_or_next 32 m (i % 32)) → a ≡ take_small wide r w j → a ≡ malloc_small wide r w nb
  unfolding malloc_small
  own_yes {j} e₃ e₄ =
      let p = place 32 (own_or_next 32 m (i % 32)) j e₃ in
      rw (sym own_at, lt-ltb _ 32 p.1, p.0) e₄

  module _ (e₃ : None ≡ in_map 32 (own_or_next 32 m (i % 32))) where
    pub own_dv : {s : ℕ} {a : Reply} → s ≡ get_or r 3 0 → nb ≤ s → a ≡ malloc_dv wide r w nb → a ≡ malloc_small wide r w nb
    unfolding malloc_small
    own_dv e k e₄ = rw (sym own_at, le-ltb _ 32 (no_place 32 (own_or_next 32 m (i % 32)) e₃), sym e, le-leb nb _ k) e₄

    pub own_no : {s : ℕ} {a : Reply} → s ≡ get_or r 3 0 → s < nb → a ≡ malloc_fuller wide r w nb → a ≡ malloc_small wide r w nb
    unfolding malloc_small
    own_no e k e₄ = rw (sym own_at, le-ltb _ 32 (no_place 32 (own_or_next 32 m (i % 32)) e₃), sym e, lt-leb nb _ k) e₄

module _ (r w : List ℕ) (nb : ℕ) {a : Reply} where
  pub need_small : nb < 256 → a ≡ malloc_small wide r w nb → a ≡ malloc_b wide r w nb
  unfolding malloc_b
  need_small l e₁ = rw (lt-ltb nb 256 l) e₁

  pub need_large : 256 ≤ nb → a ≡ malloc_find wide r w nb (best_tree wide r w nb) → a ≡ malloc_b wide r w nb
  unfolding malloc_b
  need_large l e₁ = rw (le-ltb nb 256 l) e₁

-- what is handed out: the chunk told, unless that is none
pub hands : (r w : List ℕ) (told : Reply) (p : ℕ) (o : Option ChunkOff) → LeadsTo p o → reply p r w ≡ told → Hands o r w told
hands r w told p None e f = ap (λ x. reply x r w) (sym e) ∙ f
hands r w told p (Some c) (e, m) f = ((λ z. m (sym e ∙ z)), ap (λ x. reply x r w) e ∙ f)

pub ruleset laws = (hands, whole_image, whole_words, cut_image, cut_words, top_no, top_yes, dv_no, dv_yes, dv_whole, dv_cut, small_taken, fuller_taken, tree_taken, small_none, small_found, find_none, find_only, find-better, find_dv, fuller_yes, fuller_no, own_yes, own_dv, own_no, need_small, need_large)
