-- The rebuild's two walks: one law for each way out of a loop, and one for a turn; and what a top that was found says. Over the edition.
-- Assumes nothing.
use mathlib.Core.Bool.{Bool, true, false, ◌&&◌}
use mathlib.Core.List.{List}
use mathlib.Core.Path.{◌≡◌, refl, sym, ap, ◌∙◌, subst}
use Prim.Native.Nat.{ℕ, zero, suc, ◌+◌, ◌-◌, ◌*◌, ◌≤◌, ◌<◌}
use native.Mathlib.Omega.{arith}
use lib.Dec.{eqb, ltb}
use lib.ListN.{length}
use borrow.Author.Tests.{eq-eqb, ne_eqb, lt-ltb, le-ltb, ltb-true}
use Rattle.words.specs.Logic.{pick, pick_case, by, false-true}
use Rattle.words.specs.Edition.{Edition, W, no_link}
use Rattle.chunk.specs.Bytes.{Store, store, wrap, word, size_b}
use Rattle.marks.specs.Marks.{turns}
use Rattle.tiles.specs.TilesBytes.{head_is, Step, step, tile_of, chunk_at}
use Rattle.tiles.proofs.TilesCode.{chunk_size, tile_there, no_tile}
use Rattle.sound.specs.SoundBytes.{count_ok}
use Rattle.decides.specs.MarksLaws.{and_left, and_right}
use Rattle.decides.specs.SoundLaws.{count_yes}
use Rattle.tiles.specs.declared.Tile.{Tile}
use Rattle.std.specs.Prelude.{Some, None}
use Rattle.rebuild.specs.RebuildBytes.{place_of, top_here, seek_top, top_of, enter_b, fill_from, empty_image, allowed_start, rebuilt, rebuild_b}

-- ---- the top

module _ (E : Edition) (w : List ℕ) (end p : ℕ) (pu : Bool) where
  -- the top follows no free chunk
  pub here_after : pu ≡ false → false ≡ top_here E w end p pu
  unfolding top_here
  here_after q = sym (rw q refl)

-- a top that is there lies before its end
here_before : (E : Edition) (w : List ℕ) (end p : ℕ) (pu : Bool) → top_here E w end p pu ≡ true → p < end
unfolding top_here
here_before E w end p pu q = ltb-true p end (and_right _ (ltb p end) (and_left _ (head_is E w p (end - p)) q))

-- after i turns the walk from here is the walk
pub record Seeking (E : Edition) (w : List ℕ) (end p : ℕ) (pu : Bool) (i : ℕ) : Type 0 where
  pub same : seek_top E w end (turns - i) p pu ≡ seek_top E w end turns 0 true

module _ (E : Edition) (w : List ℕ) (end : ℕ) where
  seek_zero : (left p : ℕ) (pu : Bool) → left ≤ 0 → seek_top E w end left p pu ≡ no_link E
  unfolding seek_top
  seek_zero zero p pu l = refl
  seek_zero (suc k) p pu l = absurd (omega arith)

  seek_at : (left p : ℕ) (pu : Bool) → 0 < left → top_here E w end p pu ≡ true → seek_top E w end left p pu ≡ p
  unfolding seek_top
  seek_at zero p pu l q = absurd (omega arith)
  seek_at (suc k) p pu l q = rw q refl

  seek_none : (left p : ℕ) (pu : Bool) → 0 < left → top_here E w end p pu ≡ false → eqb (chunk_at E w p pu end).size 0 ≡ true
      → seek_top E w end left p pu ≡ no_link E
  unfolding seek_top
  seek_none zero p pu l q z = absurd (omega arith)
  seek_none (suc k) p pu l q z = rw (q, z) refl

  seek_next : (k j p : ℕ) (pu : Bool) (n : ℕ) (u : Bool) → k ≡ suc j → top_here E w end p pu ≡ false → eqb (chunk_at E w p pu end).size 0 ≡ false
      → chunk_at E w p pu end ≡ step n u → seek_top E w end k p pu ≡ seek_top E w end j (p + n) u
  unfolding seek_top
  seek_next k j p pu n u l q z e =
      ap (λ x. seek_top E w end x p pu) l ∙ rw (q, z) (ap (λ (s : Step). seek_top E w end j (p + s.size) s.used) e)

  pub seek_start : Seeking E w end 0 true 0
  seek_start = record { same = refl }

  module _ (p : ℕ) (pu : Bool) (i : ℕ) (v : Seeking E w end p pu i) where
    pub seek_out : turns ≤ i → None ≡ place_of E (seek_top E w end turns 0 true)
    seek_out l = sym (ap (place_of E) (sym v.same ∙ seek_zero (turns - i) p pu (omega arith)) ∙ rw (eq-eqb (no_link E) (no_link E) refl) refl)

    module _ (a : i < turns) {x : Bool} (e : x ≡ top_here E w end p pu) where
      pub seek_here : x ≡ true → end ≤ no_link E → Some p ≡ place_of E (seek_top E w end turns 0 true)
      seek_here q l =
          let b : p < end = here_before E w end p pu (sym e ∙ q) in
          sym (ap (place_of E) (sym v.same ∙ seek_at (turns - i) p pu (omega arith) (sym e ∙ q))
          ∙ rw (ne_eqb p (no_link E) (λ z. omega arith)) refl)

      module _ (no : x ≡ false) where
        pub seek_bad : tile_of (chunk_at E w p pu end) ≡ None → None ≡ place_of E (seek_top E w end turns 0 true)
        seek_bad q =
            sym (ap (place_of E) (sym v.same ∙ seek_none (turns - i) p pu (omega arith) (sym e ∙ no) (no_tile (chunk_at E w p pu end) q))
            ∙ rw (eq-eqb (no_link E) (no_link E) refl) refl)

        module _ (t : Tile) (f : tile_of (chunk_at E w p pu end) ≡ Some t) where
          pub seek_fits : {b : ℕ} → end < b → p + t.size < b
          seek_fits b =
              let z = tile_there (chunk_at E w p pu end) t f in
              let n : (chunk_at E w p pu end).size ≡ t.size = ap (λ (s : Step). s.size) z.1 in
              omega (arith, n, chunk_size E w p pu end (λ q. false-true (sym z.0 ∙ ap (λ x. eqb x 0) q)))

          pub seek_turn : Seeking E w end (p + t.size) t.used (i + 1)
          seek_turn =
              let z = tile_there (chunk_at E w p pu end) t f in
              record { same = sym (seek_next (turns - i) (turns - (i + 1)) p pu t.size t.used (omega arith) (sym e ∙ no) z.0 z.1) ∙ v.same }

-- ---- the free chunks

-- after i turns filling on from here is all of it
pub record FillsOn (E : Edition) (top : ℕ) (r₀ w₀ : List ℕ) (p : ℕ) (r w : List ℕ) (i : ℕ) : Type 0 where
  pub same : fill_from E top (turns - i) p r w ≡ fill_from E top turns 0 r₀ w₀

module _ (E : Edition) (top : ℕ) where
  fill-zero : (left p : ℕ) (r w : List ℕ) → left ≤ 0 → fill_from E top left p r w ≡ store r w
  unfolding fill_from
  fill-zero zero p r w l = refl
  fill-zero (suc k) p r w l = absurd (omega arith)

  fill_top : (left p : ℕ) (r w : List ℕ) → 0 < left → top ≤ p → fill_from E top left p r w ≡ store r w
  unfolding fill_from
  fill_top zero p r w a l = absurd (omega arith)
  fill_top (suc k) p r w a l = rw (le-ltb p top l) refl

  fill_next : (k j p : ℕ) (r w : List ℕ) → k ≡ suc j → p < top
      → let t = enter_b E r w p (size_b E w p) in
      fill_from E top k p r w ≡ fill_from E top j (wrap E (p + size_b E w p)) t.image t.words
  unfolding fill_from
  fill_next k j p r w a l = ap (λ x. fill_from E top x p r w) a ∙ rw (lt-ltb p top l) refl

  pub fill_start : (r w : List ℕ) → FillsOn E top r w 0 r w 0
  fill_start r w = record { same = refl }

  module _ (r₀ w₀ : List ℕ) (p : ℕ) (r w : List ℕ) (i : ℕ) (v : FillsOn E top r₀ w₀ p r w i) where
    pub out_image : turns ≤ i → r ≡ (fill_from E top turns 0 r₀ w₀).image
    out_image l = ap (λ (s : Store). s.image) (sym (fill-zero (turns - i) p r w (omega arith)) ∙ v.same)

    pub out_words : turns ≤ i → w ≡ (fill_from E top turns 0 r₀ w₀).words
    out_words l = ap (λ (s : Store). s.words) (sym (fill-zero (turns - i) p r w (omega arith)) ∙ v.same)

    module _ (a : i < turns) where
      pub done_image : top ≤ p → r ≡ (fill_from E top turns 0 r₀ w₀).image
      done_image l = ap (λ (s : Store). s.image) (sym (fill_top (turns - i) p r w (omega arith) l) ∙ v.same)

      pub done_words : top ≤ p → w ≡ (fill_from E top turns 0 r₀ w₀).words
      done_words l = ap (λ (s : Store). s.words) (sym (fill_top (turns - i) p r w (omega arith) l) ∙ v.same)

      pub fill_turn : {n q : ℕ} {r₁ w₁ : List ℕ} → p < top → n ≡ size_b E w p → r₁ ≡ (enter_b E r w p n).image → w₁ ≡ (enter_b E r w p n).words
          → q ≡ wrap E (p + n) → FillsOn E top r₀ w₀ q r₁ w₁ (i + 1)
      fill_turn {n} {q} {r₁} {w₁} l s f g h = record {
        same = next n s q h r₁ f w₁ g ∙ v.same;
      }
        where
          next : (n : ℕ) → n ≡ size_b E w p → (q : ℕ) → q ≡ wrap E (p + n) → (r₁ : List ℕ) → r₁ ≡ (enter_b E r w p n).image → (w₁ : List ℕ)
              → w₁ ≡ (enter_b E r w p n).words
              → fill_from E top (turns - (i + 1)) q r₁ w₁ ≡ fill_from E top (turns - i) p r w
          next n s q h r₁ f w₁ g =
              rw (h, f, g, s) (sym (fill_next (turns - i) (turns - (i + 1)) p r w (omega arith) l))

-- ---- all of it

-- the top lies before its end
seek_before : (E : Edition) (w : List ℕ) (end k p : ℕ) (pu : Bool) → (seek_top E w end k p pu ≡ no_link E → ⊥) → seek_top E w end k p pu ≤ end
unfolding seek_top
seek_before E w end zero p pu = λ n. absurd (n refl)
seek_before E w end (suc k) p pu =
    let st = chunk_at E w p pu end in
    pick_case (λ x. (x ≡ no_link E → ⊥) → x ≤ end) (top_here E w end p pu)
    (λ q _. let l : p < end = here_before E w end p pu q in omega (arith, l))
    (λ _. pick_case (λ x. (x ≡ no_link E → ⊥) → x ≤ end) (eqb st.size 0) (λ _ n. absurd (n refl))
    (λ _. seek_before E w end k (p + st.size) st.used))

top_before : (E : Edition) (w : List ℕ) (end : ℕ) → (top_of E w end ≡ no_link E → ⊥) → top_of E w end ≤ end
unfolding top_of
top_before E w end = pick_case (λ x. (x ≡ no_link E → ⊥) → x ≤ end) (eqb (word E w end 1) (10 * W E))
    (λ _. seek_before E w end turns 0 true) (λ _ n. absurd (n refl))

-- what a top that was found says
pub top_rest : (E : Edition) (w : List ℕ) (end : ℕ) {t : ℕ} → place_of E (top_of E w end) ≡ Some t
    → (top_of E w end ≡ t) × (eqb (top_of E w end) (no_link E) ≡ false) × (t ≤ end)
top_rest E w end {t} = by (λ b. eqb (top_of E w end) (no_link E) ≡ b → pick b None (Some (top_of E w end)) ≡ Some t
    → (top_of E w end ≡ t) × (eqb (top_of E w end) (no_link E) ≡ false) × (t ≤ end))
    (eqb (top_of E w end) (no_link E)) (λ _ z q. cc)
    (λ _ z q. let s : top_of E w end ≡ t = cc in (s, z, subst (λ y. y ≤ end) s (top_before E w end (λ y. false-true (sym z ∙ eq-eqb (top_of E w end) (no_link E) y)))))
    refl

pub no_top : (E : Edition) (w : List ℕ) (end : ℕ) → place_of E (top_of E w end) ≡ None → eqb (top_of E w end) (no_link E) ≡ true
no_top E w end = by (λ b. eqb (top_of E w end) (no_link E) ≡ b → pick b None (Some (top_of E w end)) ≡ None → eqb (top_of E w end) (no_link E) ≡ true)
    (eqb (top_of E w end) (no_link E)) (λ _ z q. z) (λ _ z q. cc) refl

pub count_room : (w : List ℕ) {x : Bool} → x ≡ count_ok (length w) → x ≡ true → 80 ≤ 8 * length w
count_room w e q = omega (arith, count_yes (length w) (sym e ∙ q))

module _ (E : Edition) (w : List ℕ) (start : ℕ) where
  -- a refusal by row 1, as the definition says it
  pub refused_1 : {n : ℕ} {i : List ℕ} → (count_ok (length w) && allowed_start start) ≡ false → n ≡ 1 → i ≡ empty_image E (no_link E) 0 0
      → rebuilt n i w ≡ rebuild_b E w start
  unfolding rebuild_b
  refused_1 q a f = rw (q, a, f) refl

pub ruleset laws = (seek_start, seek_out, seek_here, seek_bad, seek_fits, seek_turn, fill_start, out_image, out_words, done_image, done_words, fill_turn, top_rest, no_top, count_room)
