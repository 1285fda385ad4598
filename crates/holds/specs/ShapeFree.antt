-- WHICH CHUNK MALLOC GRANTS IS A MATTER OF SIZES, AGES AND THE SPARE CHUNK ALONE: on heaps that differ in nothing but the shapes of their tries
-- (`Alike`) malloc grants the same place or refuses both, and leaves alike heaps. Best fit finds the smallest size that fits, and a find is the
-- first of its size's ring. Assumes nothing.
use Rattle.std.specs.Prelude.{◌≡◌, refl, Bool, false, List, [], ◌∷◌, ◌++◌, ◌⊎◌, ℕ, ◌+◌, ◌-◌, ◌*◌, ◌≤◌, ◌<◌, leb, ltb, get_or}
use Rattle.std.proofs.Common.{sym, ◌∙◌, ap, subst, inl, inr, ⊎_elim, zero-le, arith, leb-true, ltb-true, ltb-false}
use Rattle.std.proofs.Math.Option.{Option, none, some}
use Rattle.std.proofs.Math.ListN.{get_or-eq_default}
use Rattle.words.specs.Edition.{Edition, W}
use Rattle.words.specs.Logic.{pick, by, le_or_lt, false-true}
use Rattle.tiling.specs.Tiling.{Chunk, used, free, end_of, end_total, Starts}
use Rattle.tries.specs.Tree.{Tree, leaf, Has}
use Rattle.tries.specs.Members.{has_all}
use Rattle.tries.specs.Shape.{range}
use Rattle.tries.specs.Search.{Cand}
use Rattle.rules.specs.BinOf.{is_small, small_bin, bin_size, trie_bits, trie_low, trie_bin, InTrie, trie_is, huge}
use Rattle.rules.specs.Heap.{Heap, holds_some, heap_dv, heap_tries, heap_tiles, heap_chunks}
use Rattle.rules.specs.Binning.{size_at, retile, unbin, dv_words}
use Rattle.rules.specs.Malloc.{Grant, grant, Rest, to_dv, to_bin, settle, serve, from_bin, from_dv, from_top, from_spare_or_top, from_dv_or_top, first_filled, best_from, best_large, from_trie, from_fuller, fuller, own_or_next, from_own, malloc_small, malloc_find, malloc_large, malloc}
use Rattle.holds.specs.Holds.{Control, Holds}
use Rattle.holds.specs.Unique.{trie_once}
use Rattle.holds.specs.Ops.{State, state}
use Rattle.holds.specs.Bin.{Says}
use Rattle.holds.specs.Spot.{looked_up}
use Rattle.holds.specs.Newest.{first_starts}
use Rattle.holds.specs.BestFit.{Fits, Misses, small_find}
use Rattle.holds.specs.TooLarge.{best_any}
use Rattle.holds.specs.Rings.{first_of, ring_has, ring_first}
use Rattle.holds.specs.Alike.{Alike, Sorted, Once, Pair, near_pair, pair_sym, as_tries, pair_dv, pair_tiles, pair_chunks, pair_bin, pair_unbin, pair_replace, unbin_chunks, size_in, total_append, total-retile}

-- where a grant lies
abbrev pub granted_at : Option Grant → Option ℕ
granted_at none = none
granted_at (some g) = some g.place

-- two grants of the same place that leave a pair of heaps; two answers: both refuse, or both grant so
pub record Twin (e : Edition) (g g' : Grant) : Type 0 where
  pub place : g.place ≡ g'.place
  pub heaps : Pair e g.heap g'.heap

abbrev pub Twins : Edition → Option Grant → Option Grant → Type 0
Twins e none none = Unit
Twins e none (some g) = ⊥
Twins e (some g) none = ⊥
Twins e (some g) (some g') = Twin e g g'

pub twin : (e : Edition) (p : ℕ) (h h' : Heap) → Pair e h h' → Twin e (record { place = p; heap = h }) (record { place = p; heap = h' })
twin e p h h' q = record { place = refl; heaps = q }

-- ---- from a free chunk

pair_settle : (e : Edition) (k : Rest) (h h' : Heap) (p s : ℕ) → s ≤ 8192 → Pair e h h' → Pair e (settle e k h p s) (settle e k h' p s)
pair_settle e to_dv h h' p s l q = pair_replace e h h' p q
pair_settle e to_bin h h' p s l q = pair_bin e h h' p s l q

serve_twin : (e : Edition) (k : Rest) (h h' : Heap) (p s nb : ℕ) → size_at 0 h.chunks p ≡ s → Pair e h h' → Twin e (serve e k h p s nb) (serve e k h' p s nb)
serve_twin e k h h' p s nb q pr = as_tries e (λ v. Twin e (serve e k h p s nb) (serve e k v p s nb)) h h' pr go
  where
    go : (ts : List Tree) → Pair e h (heap_tries h ts) → Twin e (serve e k h p s nb) (serve e k (heap_tries h ts) p s nb)
    go ts g =
        by (λ b. Twin e
        (pick b (record { place = p; heap = settle e k (heap_chunks h parts) (p + nb) (s - nb) }) (record { place = p; heap = heap_chunks h whole }))
        (pick b (record { place = p; heap = settle e k (heap_chunks v parts) (p + nb) (s - nb) }) (record { place = p; heap = heap_chunks v whole })))
        (leb 4 (s - nb))
        (λ z. let m = leb-true 4 (s - nb) z in
        twin e p (settle e k (heap_chunks h parts) (p + nb) (s - nb)) (settle e k (heap_chunks v parts) (p + nb) (s - nb))
        (pair_settle e k (heap_chunks h parts) (heap_chunks v parts) (p + nb) (s - nb) (omega (arith, size_in 0 h.chunks p, g.room))
        (pair_chunks e h v parts (omega (arith, total-retile 0 h.chunks p (used nb ∷ free (s - nb) ∷ []) (omega arith), g.room)) g)))
        (λ z. twin e p (heap_chunks h whole) (heap_chunks v whole) (pair_chunks e h v whole (omega (arith, total-retile 0 h.chunks p (used s ∷ []) (omega arith), g.room)) g))
      where
        v : Heap
        v = heap_tries h ts

        parts : List Chunk
        parts = retile 0 h.chunks p (used nb ∷ free (s - nb) ∷ [])

        whole : List Chunk
        whole = retile 0 h.chunks p (used s ∷ [])

bin_twin : (e : Edition) (k : Rest) (h h' : Heap) (p s nb : ℕ) → size_at 0 h.chunks p ≡ s → Once h → Once h' → Pair e h h' → Twin e (from_bin e k h p s nb) (from_bin e k h' p s nb)
bin_twin e k h h' p s nb q o o' pr =
    serve_twin e k (unbin e h p s) (unbin e h' p s) p s nb (ap (λ cs. size_at 0 cs p) (unbin_chunks e h p s) ∙ q) (pair_unbin e h h' p s o o' pr)

-- ---- the find of best fit

-- a find of the one heap is one of the other
moves : (e : Edition) (h h' : Heap) (j x s : ℕ) → j < 32 → Pair e h h' → Has x s (get_or h.tries j leaf) → Has x s (get_or h'.tries j leaf)
moves e h h' j x s l p u =
    let q = ring_has (trie_bits e j) (trie_low e j) x s (get_or h.tries j leaf) (p.left.shape j l) u in
    ring_first s x q.0 (get_or h'.tries j leaf) (sym (p.alike.rings j s l) ∙ q.1)

-- a size has one find, in the trie of its index
one_find : (e : Edition) (ts : List Tree) (i j x y s : ℕ) → i < 32 → j < 32 → Sorted e ts → Has x s (get_or ts i leaf) → Has y s (get_or ts j leaf) → x ≡ y
one_find e ts i j x y s l k a u v =
    let q : j ≡ i = sym (index j y k v) ∙ index i x l u in
    let f = ring_has (trie_bits e i) (trie_low e i) x s (get_or ts i leaf) (a.shape i l) u in
    let g = ring_has (trie_bits e i) (trie_low e i) y s (get_or ts i leaf) (a.shape i l) (subst (λ z. Has y s (get_or ts z leaf)) q v) in
    ap first_of (sym f.1 ∙ g.1)
  where
    index : (m z : ℕ) → m < 32 → Has z s (get_or ts m leaf) → trie_bin e s ≡ m
    index m z b w = trie_is e m s b (has_all (InTrie e m) z s (get_or ts m leaf) (range (trie_bits e m) (trie_low e m) (get_or ts m leaf) (a.shape m b)) w)

-- no size of the one heap that fits is smaller than the other's find
least_of : (e : Edition) (h h' : Heap) (nb : ℕ) (c c' : Cand) → Pair e h h' → Fits e h 0 nb c → Fits e h' 0 nb c' → c'.size ≤ c.size
least_of e h h' nb c c' p f f' =
    let u = f.there in
    has_all (λ s. nb ≤ s → c'.size ≤ s) c.at c.size (get_or h'.tries u.0 leaf) (f'.least u.0 zero-le u.1) (moves e h h' u.0 c.at c.size u.1 p u.2) f.large

same_find : (e : Edition) (h h' : Heap) (nb : ℕ) (c c' : Cand) → Pair e h h' → Fits e h 0 nb c → Fits e h' 0 nb c' → c ≡ c'
same_find e h h' nb c c' p f f' =
    let q : c'.size ≡ c.size = omega (arith, least_of e h h' nb c c' p f f', least_of e h' h nb c' c (pair_sym e h h' p) f' f) in
    let u = f.there in
    let v = f'.there in
    cand_eq c.at c'.at c.size c'.size
    (one_find e h'.tries u.0 v.0 c.at c'.at c.size u.1 v.1 p.right (moves e h h' u.0 c.at c.size u.1 p u.2) (subst (λ s. Has c'.at s (get_or h'.tries v.0 leaf)) q v.2))
    (sym q)
  where
    cand_eq : (a b s t : ℕ) → a ≡ b → s ≡ t → ◌≡◌ {A = Cand} (record { at = a; size = s }) (record { at = b; size = t })
    cand_eq a b s t q r = cc (q, r)

-- where the one heap has nothing that fits, the other has not
no_find : (e : Edition) (h h' : Heap) (nb : ℕ) (c c' : Cand) → Pair e h h' → Fits e h 0 nb c → Misses e h' 0 nb c' → ⊥
no_find e h h' nb c c' p f m =
    let u = f.there in
    let l = has_all (λ s. s < nb) c.at c.size (get_or h'.tries u.0 leaf) (m.small u.0 zero-le u.1) (moves e h h' u.0 c.at c.size u.1 p u.2) in
    omega (arith, f.large)

-- two searches: both find the same, or both find nothing
data Same (e : Edition) (h : Heap) (nb : ℕ) (c c' : Cand) : Type 0 where
  both : Fits e h 0 nb c → c ≡ c' → Same e h nb c c'
  neither : ltb c.size huge ≡ false → ltb c'.size huge ≡ false → Same e h nb c c'

same : (e : Edition) (h h' : Heap) (nb : ℕ) (c c' : Cand) → Pair e h h' → Fits e h 0 nb c ⊎ Misses e h 0 nb c → Fits e h' 0 nb c' ⊎ Misses e h' 0 nb c' → Same e h nb c c'
same e h h' nb c c' p (inl f) (inl f') = both f (same_find e h h' nb c c' p f f')
same e h h' nb c c' p (inl f) (inr m) = absurd (no_find e h h' nb c c' p f m)
same e h h' nb c c' p (inr m) (inl f) = absurd (no_find e h' h nb c' c (pair_sym e h h' p) f m)
same e h h' nb c c' p (inr m) (inr m') = neither m.missed m'.missed

-- ---- the walk over malloc's cases; the second heap is the first with other tries

module _ (e : Edition) (t t' : State) (h : Heap) (ts : List Tree) (n : Says e t h []) (n' : Says e t' (heap_tries h ts) []) (p : Pair e h (heap_tries h ts)) (nb : ℕ) where
  abbrev v : Heap
  v = heap_tries h ts

  top_twins : Twins e (from_top h nb) (from_top v nb)
  top_twins =
      by (λ b. Twins e (pick b (some (cut h)) none) (pick b (some (cut v)) none)) (ltb nb h.top)
      (λ z. twin e (end_of 0 h.chunks) (cut h).heap (cut v).heap (pair_tiles e h v (h.chunks ++ (used nb ∷ [])) (h.top - nb) (h.top - nb) refl
      (omega (arith, total_append h.chunks (used nb ∷ []), ltb-true nb h.top z, end_total 0 h.chunks, n.heads.top.ends, n.most)) p))
      (λ z. tt)
    where
      cut : Heap → Grant
      cut k = grant (end_of 0 k.chunks) (heap_tiles k (k.chunks ++ (used nb ∷ [])) (k.top - nb))

  dv_twins : Twins e (from_dv_or_top e h nb) (from_dv_or_top e v nb)
  dv_twins = go h.dv
    where
      go : (d : Option ℕ) → Twins e (from_spare_or_top e h d nb) (from_spare_or_top e v d nb)
      go none = top_twins
      go (some d) =
          by (λ b. Twins e (pick b (some (from_dv e h d nb)) (from_top h nb)) (pick b (some (from_dv e v d nb)) (from_top v nb))) (leb nb (size_at 0 h.chunks d))
          (λ z. serve_twin e to_dv (heap_dv h none) (heap_dv v none) d (size_at 0 h.chunks d) nb refl (pair_dv e h v none p))
          (λ z. top_twins)

  chunk_twins : (k : Rest) (x s : ℕ) → Starts 0 h.chunks x (free s) → Twin e (from_bin e k h x s nb) (from_bin e k v x s nb)
  chunk_twins k x s st =
      bin_twin e k h v x s nb (looked_up e t h [] x s n st) (trie_once e t.ctl t.words h [] n) (trie_once e t'.ctl t'.words v [] n') p

  -- the newest of a small bin
  newest_twins : (j x : ℕ) (xs : List ℕ) → get_or h.small j [] ≡ x ∷ xs → Twin e (from_bin e to_dv h x (bin_size e j) nb) (from_bin e to_dv v x (bin_size e j) nb)
  newest_twins j x xs q = chunk_twins to_dv x (bin_size e j) (first_starts e t h n j within x xs q)
    where
      within : j < 32
      within = ⊎_elim (λ z. false-true (ap holds_some (sym (get_or-eq_default h.small [] {n = j} (omega (arith, z, n.small.marks.count))) ∙ q))) (λ z. z) (le_or_lt 32 j)

  -- ---- a small need

  trie_twins : (c c' : Cand) → Same e h nb c c' → Twins e (from_trie e h c nb) (from_trie e v c' nb)
  trie_twins c c' (both f q) =
      subst (λ d. Twins e (from_trie e h c nb) (from_trie e v d nb)) q
      (by (λ b. Twins e (pick b (some (from_bin e to_dv h c.at c.size nb)) (from_top h nb)) (pick b (some (from_bin e to_dv v c.at c.size nb)) (from_top v nb))) (ltb c.size huge)
      (λ z. chunk_twins to_dv c.at c.size f.starts) (λ z. top_twins))
  trie_twins c c' (neither a b) =
      subst (λ (x : Bool). Twins e (pick x (some (from_bin e to_dv h c.at c.size nb)) (from_top h nb)) (from_trie e v c' nb)) (sym a)
      (subst (λ (x : Bool). Twins e (from_top h nb) (pick x (some (from_bin e to_dv v c'.at c'.size nb)) (from_top v nb))) (sym b) top_twins)

  small_twins : W e * nb < 256 → Twins e (malloc_small e h nb) (malloc_small e v nb)
  small_twins s = own (get_or h.small i []) refl
    where
      i : ℕ
      i = own_or_next h.small (small_bin e nb)

      j : ℕ
      j = first_filled holds_some (small_bin e nb) 0 h.small

      next : (ps : List ℕ) → get_or h.small j [] ≡ ps → Twins e (from_fuller e h j ps nb) (from_fuller e v j ps nb)
      next (x ∷ xs) q = newest_twins j x xs q
      next [] q = trie_twins (best_from h 0 nb) (best_from v 0 nb) (same e h v nb (best_from h 0 nb) (best_from v 0 nb) p (small_find e t h n nb s) (small_find e t' v n' nb s))

      own : (ps : List ℕ) → get_or h.small i [] ≡ ps → Twins e (from_own e h i ps nb) (from_own e v i ps nb)
      own (x ∷ xs) q = newest_twins i x xs q
      own [] q =
          by (λ b. Twins e (pick b (from_dv_or_top e h nb) (fuller e h nb)) (pick b (from_dv_or_top e v nb) (fuller e v nb))) (leb nb (dv_words h))
          (λ _. dv_twins) (λ _. next (get_or h.small j []) refl)

  -- ---- a large need

  find_twins : (c c' : Cand) → Same e h nb c c' → Twins e (malloc_find e h c nb) (malloc_find e v c' nb)
  find_twins c c' (both f q) =
      subst (λ d. Twins e (malloc_find e h c nb) (malloc_find e v d nb)) q
      (by (λ b. Twins e (pick b (pick (leb nb (dv_words h)) (pick (ltb c.size (dv_words h)) g o) g) o) (pick b (pick (leb nb (dv_words h)) (pick (ltb c.size (dv_words h)) g' o') g') o')) (ltb c.size huge)
      (λ _. by (λ b. Twins e (pick b (pick (ltb c.size (dv_words h)) g o) g) (pick b (pick (ltb c.size (dv_words h)) g' o') g')) (leb nb (dv_words h))
      (λ _. by (λ b. Twins e (pick b g o) (pick b g' o')) (ltb c.size (dv_words h)) (λ _. found) (λ _. dv_twins))
      (λ _. found))
      (λ _. dv_twins))
    where
      g : Option Grant
      g = some (from_bin e to_bin h c.at c.size nb)

      g' : Option Grant
      g' = some (from_bin e to_bin v c.at c.size nb)

      o : Option Grant
      o = from_dv_or_top e h nb

      o' : Option Grant
      o' = from_dv_or_top e v nb

      found : Twins e g g'
      found = chunk_twins to_bin c.at c.size f.starts
  find_twins c c' (neither a b) =
      subst (λ (x : Bool). Twins e (pick x (pick (leb nb (dv_words h)) (pick (ltb c.size (dv_words h)) g (from_dv_or_top e h nb)) g) (from_dv_or_top e h nb)) (malloc_find e v c' nb)) (sym a)
      (subst (λ (x : Bool). Twins e (from_dv_or_top e h nb) (pick x (pick (leb nb (dv_words h)) (pick (ltb c'.size (dv_words h)) g' (from_dv_or_top e v nb)) g') (from_dv_or_top e v nb))) (sym b) dv_twins)
    where
      g : Option Grant
      g = some (from_bin e to_bin h c.at c.size nb)

      g' : Option Grant
      g' = some (from_bin e to_bin v c'.at c'.size nb)

  malloc_twins : Twins e (malloc e h nb) (malloc e v nb)
  malloc_twins =
      by (λ b. Twins e (pick b (malloc_small e h nb) (malloc_large e h nb)) (pick b (malloc_small e v nb) (malloc_large e v nb))) (is_small e nb)
      (λ z. small_twins (ltb-true (W e * nb) 256 z))
      (λ z. let lo = ltb-false (W e * nb) 256 z in
      find_twins (best_large e h nb) (best_large e v nb) (same e h v nb (best_large e h nb) (best_large e v nb) p (best_any e t h n nb lo) (best_any e t' v n' nb lo)))

-- ---- the theorem

-- on alike heaps malloc refuses both, or grants the same place and leaves alike heaps
pub malloc_pair : (e : Edition) (r r' : Control) (w w' : List ℕ) (h h' : Heap) → Holds e r w h → Holds e r' w' h' → Pair e h h' → (nb : ℕ) → Twins e (malloc e h nb) (malloc e h' nb)
malloc_pair e r r' w w' h h' n n' p nb =
    as_tries e (λ k. Holds e r' w' k → Twins e (malloc e h nb) (malloc e k nb)) h h' p (λ ts q m. malloc_twins e (state r w) (state r' w') h ts n m q nb) n'

same_place : (e : Edition) (g g' : Option Grant) → Twins e g g' → granted_at g ≡ granted_at g'
same_place e none none u = refl
same_place e none (some g) u = absurd u
same_place e (some g) none u = absurd u
same_place e (some g) (some g') u = ap some u.place

pub shape_free : (e : Edition) (r r' : Control) (w w' : List ℕ) (h h' : Heap) → Holds e r w h → Holds e r' w' h' → Alike h h' → (nb : ℕ) → granted_at (malloc e h nb) ≡ granted_at (malloc e h' nb)
shape_free e r r' w w' h h' n n' a nb = same_place e (malloc e h nb) (malloc e h' nb) (malloc_pair e r r' w w' h h' n n' (near_pair e r r' w w' h h' [] [] n n' a) nb)

-- and the heaps after it are alike again
pub malloc_alike : (e : Edition) (r r' : Control) (w w' : List ℕ) (h h' : Heap) → Holds e r w h → Holds e r' w' h' → Alike h h' → (nb : ℕ) (g g' : Grant) → malloc e h nb ≡ some g → malloc e h' nb ≡ some g'
    → Alike g.heap g'.heap
malloc_alike e r r' w w' h h' n n' a nb g g' q q' =
    let u : Twins e (malloc e h nb) (malloc e h' nb) = malloc_pair e r r' w w' h h' n n' (near_pair e r r' w w' h h' [] [] n n' a) nb in
    let v : Twins e (some g) (some g') = subst (λ o. Twins e (some g) o) q' (subst (λ o. Twins e o (malloc e h' nb)) q u) in
    v.heaps.alike
