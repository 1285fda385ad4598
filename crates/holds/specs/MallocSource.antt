-- Malloc's answer on a held heap comes from one of the four sources of `rules`, `Source`: the one walk over the rule's cases. Assumes nothing.
use Rattle.std.specs.Prelude.{◌≡◌, refl, Bool, true, false, List, [], ◌∷◌, ℕ, ◌*◌, ◌%◌, ◌≤◌, ◌<◌, leb, ltb, length, get_or}
use Rattle.std.proofs.Common.{sym, ◌∙◌, ap, subst, inl, inr, ⊎_elim, zero-le, arith, leb-true, leb-false, ltb-true, ltb-false}
use Rattle.std.proofs.Math.Option.{Option, none, some}
use Rattle.std.proofs.Math.ListN.{get_or-eq_default}
use Rattle.words.specs.Logic.{pick_case, same?, le_or_lt, false-true}
use Rattle.words.specs.Edition.{Edition, wide, narrow, W, root_mark, enc_inj}
use Rattle.words.specs.Fields.{ind_yes, ind_self, fld, count_l}
use Rattle.index.specs.BinMap.{FirstBin}
use Rattle.index.specs.MapOfBins as M
use Rattle.tiling.specs.Tiling.{free, Starts}
use Rattle.tries.specs.Tree.{leaf, All}
use Rattle.tries.specs.Search.{Cand}
use Rattle.tries.specs.Members.{member_at}
use Rattle.rules.specs.BinOf.{is_small, small_bin, bin_size, trie_bin, small_in, huge}
use Rattle.rules.specs.Heap.{Heap, holds_some, heap_dv}
use Rattle.rules.specs.Binning.{size_at, unbin, spare_words, dv_words}
use Rattle.rules.specs.Malloc.{Rest, to_dv, to_bin, serve, from_top, from_spare_or_top, from_dv_or_top, first_filled, best_from, best_large, from_fuller, fuller, own_or_next, from_own, malloc_small, malloc_find, malloc_large, malloc}
use Rattle.rules.specs.Source.{Small, Source, RestOf, nowhere, from_top_lem, from_chunk, was_dv, was_binned}
use Rattle.holds.specs.Holds.{SpareAt, in_dv}
use Rattle.holds.specs.Unique.{one_size}
use Rattle.holds.specs.Where.{free_head, in_small_lem, in_trie, trie_index}
use Rattle.holds.specs.Ops.{State}
use Rattle.holds.specs.Bin.{Says}
use Rattle.holds.specs.Spot.{looked_up}
use Rattle.holds.specs.FirstBin.{first_is}
use Rattle.holds.specs.Newest.{first_starts, first_not_dv}
use Rattle.holds.specs.BestFit.{Fits, Misses, best_large_lem, small_find}

-- ---- the walk

larger : (e : Edition) {a c : ℕ} → a ≤ c → bin_size e a ≤ bin_size e c
larger wide u = u
larger narrow u = omega arith

module _ (e : Edition) (t : State) (h : Heap) (n : Says e t h []) (nb : ℕ) where
  top_source : Small h nb → Source e h nb (from_top h nb)
  top_source s = pick_case (Source e h nb) (ltb nb h.top) (λ z. from_top_lem s (ltb-true nb h.top z)) (λ z. nowhere s (ltb-false nb h.top z))

  dv_source : 4 ≤ nb → (dv_words h < nb → Small h nb) → Source e h nb (from_dv_or_top e h nb)
  dv_source l f = go h.dv refl f n.spare
    where
      go : (d : Option ℕ) → h.dv ≡ d → (spare_words h.chunks d < nb → Small h nb) → SpareAt e t.ctl.dv t.ctl.dv_size h.chunks d → Source e h nb (from_spare_or_top e h d nb)
      go none q g sp = top_source (g (omega arith))
      go (some d) q g sp =
          pick_case (Source e h nb) (leb nb (size_at 0 h.chunks d))
          (λ z. from_chunk to_dv (heap_dv h none) d (size_at 0 h.chunks d)
          (subst (λ s. Starts 0 h.chunks d (free s)) (sym (looked_up e t h [] d sp.0 n sp.1)) sp.1) (leb-true nb (size_at 0 h.chunks d) z) (was_dv q) (inr q))
          (λ z. top_source (g (leb-false nb (size_at 0 h.chunks d) z)))

  -- where the spare chunk, the small bins and the tries have nothing that fits, nothing fits
  all_small : dv_words h < nb → ((s : ℕ) → s % 2 ≡ 0 → W e * s < 256 → 1 ≤ length (get_or h.small (small_bin e s) []) → s < nb)
      → ((j : ℕ) → j < 32 → All (λ s. s < nb) (get_or h.tries j leaf)) → Small h nb
  all_small dv small tries x s st =
      ⊎_elim (λ z. by_size z (is_small e s) refl) (λ z. spare h.dv z n.spare dv) (same? (in_dv h.dv x) 0)
    where
      filled : (ps : List ℕ) → 1 ≤ count_l x ps → 1 ≤ length ps
      filled [] u = u
      filled (p ∷ ps) u = omega arith

      by_size : in_dv h.dv x ≡ 0 → (b : Bool) → is_small e s ≡ b → s < nb
      by_size z true q =
          small s (free_head e t.ctl t.words h [] n x s st).2 (ltb-true (W e * s) 256 q)
          (filled (get_or h.small (small_bin e s) []) (in_small_lem e t.ctl t.words h [] n x s st (omega arith) q))
      by_size z false q =
          let i = trie_index e t.ctl t.words h [] n x s st q in
          let m = member_at e (fld t.words) (trie_bin e s) (root_mark e) (λ y. y < nb) x (get_or h.tries (trie_bin e s) leaf)
          (in_trie e t.ctl t.words h [] n x s st (omega arith) q) (tries (trie_bin e s) i.0) (n.tries.at (trie_bin e s) i.0).tree in
          subst (λ y. y < nb) (enc_inj e m.0 s (omega (arith, m.1, (free_head e t.ctl t.words h [] n x s st).0))) m.2

      spare : (d : Option ℕ) → (in_dv d x ≡ 0 → ⊥) → SpareAt e t.ctl.dv t.ctl.dv_size h.chunks d → spare_words h.chunks d < nb → s < nb
      spare none z sp u = absurd (z refl)
      spare (some d) z sp u =
          let q : x ≡ d = ind_yes x d (omega arith) in
          let y : s ≡ sp.0 = one_size e t.words h.chunks h.top d s sp.0 n.heads (subst (λ k. Starts 0 h.chunks k (free s)) q st) sp.1 in
          omega (arith, y, u, looked_up e t h [] d sp.0 n sp.1)

  not_dv : {x : ℕ} → in_dv h.dv x ≡ 0 → h.dv ≡ some x → ⊥
  not_dv {x} z q = omega (arith, ap (λ d. in_dv d x) q, ind_self x)

  -- a find in a trie, and the newest of a small bin
  find_source : (k : Rest) (c : Cand) → Fits e h 0 nb c → ((h.dv ≡ some c.at → ⊥) → RestOf e h c.at nb k)
      → Source e h nb (some (serve e k (unbin e h c.at c.size) c.at c.size nb))
  find_source k c f rest =
      from_chunk k (unbin e h c.at c.size) c.at c.size f.starts f.large (was_binned (not_dv f.not_dv)) (rest (not_dv f.not_dv))

  bin_source : W e * nb < 256 → (j x : ℕ) (xs : List ℕ) → get_or h.small j [] ≡ x ∷ xs → nb ≤ bin_size e j
      → Source e h nb (some (serve e to_dv (unbin e h x (bin_size e j)) x (bin_size e j) nb))
  bin_source low j x xs q fit =
      from_chunk to_dv (unbin e h x (bin_size e j)) x (bin_size e j) (first_starts e t h n j within x xs q) fit
      (was_binned (not_dv (first_not_dv e t h n j within x xs q))) (inl low)
    where
      within : j < 32
      within = ⊎_elim (λ z. false-true (ap holds_some (sym (get_or-eq_default h.small [] {n = j} (omega (arith, z, n.small.marks.count))) ∙ q))) (λ z. z) (le_or_lt 32 j)

  -- ---- a small need

  module _ (v : nb % 2 ≡ 0) (l : 4 ≤ nb) (s : W e * nb < 256) where
    abbrev i : ℕ
    i = small_bin e nb

    own : (i < 32) × (bin_size e i ≡ nb)
    own = small_in e nb v s

    above : (j : ℕ) → i ≤ j → nb ≤ bin_size e j
    above j u = subst (λ z. z ≤ bin_size e j) own.1 (larger e u)

    fuller_source : dv_words h < nb → Source e h nb (fuller e h nb)
    fuller_source dv = go (get_or h.small j []) refl
      where
        j : ℕ
        j = first_filled holds_some i 0 h.small

        fb : FirstBin 32 (M.filled_at holds_some [] h.small) i j
        fb = first_is holds_some [] i h.small n.small.marks.count (omega (arith, own.0))

        less : (e : Edition) {y : ℕ} → y % 2 ≡ 0 → nb ≤ y → small_bin e nb ≤ small_bin e y
        less wide p u = omega arith
        less narrow p u = omega arith

        none_there : (ps : List ℕ) → holds_some ps ≡ false → 1 ≤ length ps → ⊥
        none_there [] z u = omega arith
        none_there (p ∷ ps) z u = false-true (sym z)

        go : (ps : List ℕ) → get_or h.small j [] ≡ ps → Source e h nb (from_fuller e h j ps nb)
        go (x ∷ xs) q = bin_source s j x xs q (above j fb.from)
        go [] q =
            ⊎_elim (λ f. pick_case (Source e h nb) (ltb (best_from h 0 nb).size huge) (λ _. find_source to_dv (best_from h 0 nb) f (λ _. inl s)) (λ z. false-true (sym z ∙ f.found)))
            (λ m. pick_case (Source e h nb) (ltb (best_from h 0 nb).size huge) (λ z. false-true (sym m.missed ∙ z))
            (λ _. top_source (all_small dv bins (λ k u. m.small k zero-le u))))
            (small_find e t h n nb s)
          where
            last : 32 ≤ j
            last = ⊎_elim (λ u. u) (λ u. false-true (sym (ap holds_some q) ∙ fb.filled u)) (le_or_lt 32 j)

            bins : (y : ℕ) → y % 2 ≡ 0 → W e * y < 256 → 1 ≤ length (get_or h.small (small_bin e y) []) → y < nb
            bins y p r f =
                ⊎_elim (λ u. absurd (none_there (get_or h.small (small_bin e y) []) (fb.empty (small_bin e y) (less e p u) (omega (arith, (small_in e y p r).0, last))) f)) (λ u. u) (le_or_lt nb y)

    small_source : Source e h nb (malloc_small e h nb)
    small_source = go (get_or h.small j []) refl
      where
        j : ℕ
        j = own_or_next h.small i

        upward : i ≤ j
        upward = pick_case (λ k. i ≤ k) (holds_some (get_or h.small i [])) (λ _. omega arith) (λ _. omega arith)

        go : (ps : List ℕ) → get_or h.small j [] ≡ ps → Source e h nb (from_own e h j ps nb)
        go (x ∷ xs) q = bin_source s j x xs q (above j upward)
        go [] q =
            pick_case (Source e h nb) (leb nb (dv_words h)) (λ z. dv_source l (λ u. absurd (let b : ⊥ = omega (arith, leb-true nb (dv_words h) z) in b)))
            (λ z. fuller_source (leb-false nb (dv_words h) z))

  -- ---- a large need

  large_source : 4 ≤ nb → 256 ≤ W e * nb → W e * nb < huge → Source e h nb (malloc_large e h nb)
  large_source l lo hi = ⊎_elim found missed (best_large_lem e t h n nb lo hi)
    where
      c : Cand
      c = best_large e h nb

      order : (e : Edition) {y : ℕ} → W e * y < 256 → 256 ≤ W e * nb → y < nb
      order wide a b = omega arith
      order narrow a b = omega arith

      found : Fits e h 0 nb c → Source e h nb (malloc_find e h c nb)
      found f =
          pick_case (Source e h nb) (ltb c.size huge)
          (λ _. pick_case (Source e h nb) (leb nb (dv_words h))
          (λ z. pick_case (Source e h nb) (ltb c.size (dv_words h)) (λ _. find_source to_bin c f (λ q. (lo, q))) (λ _. dv_source l (λ u. absurd (let b : ⊥ = omega (arith, leb-true nb (dv_words h) z) in b))))
          (λ _. find_source to_bin c f (λ q. (lo, q))))
          (λ z. false-true (sym z ∙ f.found))

      missed : Misses e h 0 nb c → Source e h nb (malloc_find e h c nb)
      missed m =
          pick_case (Source e h nb) (ltb c.size huge) (λ z. false-true (sym m.missed ∙ z))
          (λ _. dv_source l (λ dv. all_small dv (λ y _ r _. order e r lo) (λ j u. m.small j zero-le u)))

  pub malloc_source : nb % 2 ≡ 0 → 4 ≤ nb → W e * nb < huge → Source e h nb (malloc e h nb)
  malloc_source v l hi =
      pick_case (Source e h nb) (is_small e nb) (λ z. small_source v l (ltb-true (W e * nb) 256 z)) (λ z. large_source l (ltb-false (W e * nb) 256 z) hi)
