-- REALLOC AND MEMALIGN DO NOT SEE THE SHAPES OF THE TRIES EITHER: on alike heaps a block is resized in its own place, moved, or trimmed at both ends
-- alike. They are malloc and free with cuts between; that no place stands twice in a trie of the heaps between is asked for here, and is known
-- where these are held. Assumes nothing.
use Rattle.std.specs.Prelude.{◌≡◌, refl, true, false, List, [], ◌∷◌, ◌++◌, ℕ, ◌+◌, ◌-◌, ◌≤◌, eqb, leb, ltb}
use Rattle.std.proofs.Common.{sym, ◌∙◌, ap, subst, arith, leb-true, ltb-true}
use Rattle.std.proofs.Math.Option.{Option, none, some}
use Rattle.words.specs.Edition.{Edition}
use Rattle.words.specs.Logic.{pick, by}
use Rattle.tiling.specs.Tiling.{Chunk, used, free, end_of, total, Starts}
use Rattle.tries.specs.Tree.{Tree}
use Rattle.rules.specs.Heap.{Heap, heap_dv, heap_tries, heap_tiles, heap_chunks}
use Rattle.rules.specs.Binning.{size_at, retile, is_dv, unbin}
use Rattle.rules.specs.Malloc.{Grant, malloc}
use Rattle.rules.specs.Free.{give_back}
use Rattle.rules.specs.Realloc.{shrink, grow_free, grow_in, resize_here, front, moved, here_or_moved, realloc_found, realloc}
use Rattle.rules.specs.Memalign.{give_lead, give_tail}
use Rattle.rules.specs.Tidy.{Tidy, tidy_append, tidy_left, tidy_right, tidy_true}
use Rattle.rules.specs.Lookup.{Block, block, size_at_lem}
use Rattle.holds.specs.Alike.{Once, Pair, as_tries, pair_dv, pair_tiles, pair_chunks, pair_unbin, unbin_once, total_append, total-retile}
use Rattle.holds.specs.ShapeFree.{Twins, twin}
use Rattle.holds.specs.AlikeFree.{pair_give}

-- ---- cuts

-- keep nb of the s words at p
pub pair_shrink : (e : Edition) (h h' : Heap) (p s nb : ℕ) → size_at 0 h.chunks p ≡ s → Once h → Once h' → Pair e h h' → Pair e (shrink e h p s nb) (shrink e h' p s nb)
pair_shrink e h h' p s nb q o o' pr = as_tries e (λ k. Once k → Pair e (shrink e h p s nb) (shrink e k p s nb)) h h' pr go o'
  where
    parts : List Chunk
    parts = retile 0 h.chunks p (used nb ∷ used (s - nb) ∷ [])

    go : (ts : List Tree) → Pair e h (heap_tries h ts) → Once (heap_tries h ts) → Pair e (shrink e h p s nb) (shrink e (heap_tries h ts) p s nb)
    go ts g u =
        by (λ b. Pair e (pick b (give_back e (heap_chunks h parts) (p + nb)) h) (pick b (give_back e (heap_chunks (heap_tries h ts) parts) (p + nb)) (heap_tries h ts))) (leb 4 (s - nb))
        (λ z. pair_give e (heap_chunks h parts) (heap_chunks (heap_tries h ts) parts) (p + nb) o u
        (pair_chunks e h (heap_tries h ts) parts (omega (arith, total-retile 0 h.chunks p (used nb ∷ used (s - nb) ∷ []) (omega (arith, leb-true 4 (s - nb) z, q)), g.room)) g))
        (λ _. g)

-- the lead of k words is given back
pub pair_lead : (e : Edition) (h h' : Heap) (p s k : ℕ) → size_at 0 h.chunks p ≡ s → k ≤ s → Once h → Once h' → Pair e h h' → Pair e (give_lead e h p s k) (give_lead e h' p s k)
pair_lead e h h' p s k q l o o' pr = as_tries e (λ v. Once v → Pair e (give_lead e h p s k) (give_lead e v p s k)) h h' pr go o'
  where
    parts : List Chunk
    parts = retile 0 h.chunks p (used k ∷ used (s - k) ∷ [])

    go : (ts : List Tree) → Pair e h (heap_tries h ts) → Once (heap_tries h ts) → Pair e (give_lead e h p s k) (give_lead e (heap_tries h ts) p s k)
    go ts g u =
        by (λ b. Pair e (pick b h (give_back e (heap_chunks h parts) p)) (pick b (heap_tries h ts) (give_back e (heap_chunks (heap_tries h ts) parts) p))) (eqb k 0) (λ _. g)
        (λ _. pair_give e (heap_chunks h parts) (heap_chunks (heap_tries h ts) parts) p o u
        (pair_chunks e h (heap_tries h ts) parts (omega (arith, total-retile 0 h.chunks p (used k ∷ used (s - k) ∷ []) (omega (arith, q)), g.room)) g))

pub pair_tail : (e : Edition) (h h' : Heap) (p s nb : ℕ) → size_at 0 h.chunks p ≡ s → Once h → Once h' → Pair e h h' → Pair e (give_tail e h p s nb) (give_tail e h' p s nb)
pair_tail e h h' p s nb q o o' pr =
    by (λ b. Pair e (pick b (shrink e h p s nb) h) (pick b (shrink e h' p s nb) h')) (ltb (nb + 4) s) (λ _. pair_shrink e h h' p s nb q o o' pr) (λ _. pr)

-- ---- in its own place: xs before, the chunk of s words at p, ys after; the second heap is the first with other tries

abbrev Both : Edition → Option Heap → Option Heap → Type 0
Both e none none = Unit {0}
Both e none (some h) = ⊥
Both e (some h) none = ⊥
Both e (some h) (some h') = Pair e h h'

module _ (e : Edition) (h : Heap) (ts : List Tree) (g : Pair e h (heap_tries h ts)) (o : Once h) (u : Once (heap_tries h ts)) (room : total h.chunks + h.top ≤ 8192) (tidy : Tidy true h.chunks) where
  abbrev v : Heap
  v = heap_tries h ts

  module _ (xs : List Chunk) (p s nb : ℕ) (place : p ≡ end_of 0 xs) where
    grow_free_lem : (b : ℕ) (ys : List Chunk) → h.chunks ≡ xs ++ (used s ∷ free b ∷ ys) → Pair e (grow_free e h xs p s nb b ys) (grow_free e v xs p s nb b ys)
    grow_free_lem b ys whole =
        by (λ z. Pair e (pick z (spare h) (shrink e (heap_chunks (unbin e h (p + s) b) cs) p (s + b) nb)) (pick z (spare v) (shrink e (heap_chunks (unbin e v (p + s) b) cs) p (s + b) nb))) (is_dv h (p + s))
        (λ _. by (λ z. Pair e (pick z (heap_dv (heap_chunks h parts) (some (p + nb))) (heap_dv (heap_chunks h cs) none)) (pick z (heap_dv (heap_chunks v parts) (some (p + nb))) (heap_dv (heap_chunks v cs) none))) (leb 4 (s + b - nb))
        (λ z. pair_dv e (heap_chunks h parts) (heap_chunks v parts) (some (p + nb)) (pair_chunks e h v parts (omega (arith, all, leb-true 4 (s + b - nb) z, total_append xs (used nb ∷ free (s + b - nb) ∷ ys))) g))
        (λ _. pair_dv e (heap_chunks h cs) (heap_chunks v cs) none (pair_chunks e h v cs fits g)))
        (λ _. pair_shrink e (heap_chunks (unbin e h (p + s) b) cs) (heap_chunks (unbin e v (p + s) b) cs) p (s + b) nb (ap (size_at 0 cs) place ∙ size_at_lem 0 true xs (used (s + b)) ys tidy_cs)
        (unbin_once e h (p + s) b o) (unbin_once e v (p + s) b u) (pair_chunks e (unbin e h (p + s) b) (unbin e v (p + s) b) cs fits (pair_unbin e h v (p + s) b o u g)))
      where
        cs : List Chunk
        cs = xs ++ (used (s + b) ∷ ys)

        parts : List Chunk
        parts = xs ++ (used nb ∷ free (s + b - nb) ∷ ys)

        spare : Heap → Heap
        spare k = pick (leb 4 (s + b - nb)) (heap_dv (heap_chunks k parts) (some (p + nb))) (heap_dv (heap_chunks k cs) none)

        all : total xs + (s + (b + total ys)) ≤ 8192
        all = omega (arith, ap total whole, total_append xs (used s ∷ free b ∷ ys), g.room)

        fits : total cs ≤ 8192
        fits = omega (arith, all, total_append xs (used (s + b) ∷ ys))

        tidy_cs : Tidy true cs
        tidy_cs =
            let t : Tidy true (xs ++ (used s ∷ free b ∷ ys)) = subst (Tidy true) whole tidy in
            let r = tidy_right true xs (used s ∷ free b ∷ ys) t in
            tidy_append true xs (used (s + b) ∷ ys) (tidy_left true xs (used s ∷ free b ∷ ys) t) (omega (arith, r.0, r.2.1), omega (arith, r.1), tidy_true false ys r.2.3)

    grow_in_lem : (ys : List Chunk) → h.chunks ≡ xs ++ (used s ∷ ys) → Both e (grow_in e h xs p s nb ys) (grow_in e v xs p s nb ys)
    grow_in_lem [] whole =
        by (λ z. Both e (pick z (some (heap_tiles h cs (s + h.top - nb))) none) (pick z (some (heap_tiles v cs (s + h.top - nb))) none)) (ltb nb (s + h.top))
        (λ z. pair_tiles e h v cs (s + h.top - nb) (s + h.top - nb) refl
        (omega (arith, ltb-true nb (s + h.top) z, ap total whole, total_append xs (used s ∷ []), total_append xs (used nb ∷ []), room)) g)
        (λ _. tt)
      where
        cs : List Chunk
        cs = xs ++ (used nb ∷ [])
    grow_in_lem (used n ∷ ys) whole = tt
    grow_in_lem (free b ∷ ys) whole =
        by (λ z. Both e (pick z (some (grow_free e h xs p s nb b ys)) none) (pick z (some (grow_free e v xs p s nb b ys)) none)) (leb nb (s + b)) (λ _. grow_free_lem b ys whole) (λ _. tt)

    resize : (ys : List Chunk) → h.chunks ≡ xs ++ (used s ∷ ys) → Both e (resize_here e h xs p s nb ys) (resize_here e v xs p s nb ys)
    resize ys whole =
        by (λ z. Both e (pick z (some (shrink e h p s nb)) (grow_in e h xs p s nb ys)) (pick z (some (shrink e v p s nb)) (grow_in e v xs p s nb ys))) (leb nb s)
        (λ _. pair_shrink e h v p s nb (ap (λ c. size_at 0 c p) whole ∙ ap (size_at 0 (xs ++ (used s ∷ ys))) place ∙ size_at_lem 0 true xs (used s) ys (subst (Tidy true) whole tidy)) o u g)
        (λ _. grow_in_lem ys whole)

-- ---- in its own place or moved

-- no place stands twice in a trie of what is left
abbrev pub OnceAfter : Option Grant → Type 0
OnceAfter none = Unit {0}
OnceAfter (some g) = Once g.heap

moved_twins : (e : Edition) (p : ℕ) (m m' : Option Grant) → OnceAfter m → OnceAfter m' → Twins e m m' → Twins e (moved e m p) (moved e m' p)
moved_twins e p none none o o' t = tt
moved_twins e p none (some g) o o' t = absurd t
moved_twins e p (some g) none o o' t = absurd t
moved_twins e p (some g) (some g') o o' t = record { place = t.place; heaps = pair_give e g.heap g'.heap p o o' t.heaps }

here_or_moved_lem : (e : Edition) (h h' : Heap) (p nb : ℕ) (m m' : Option Heap) → Twins e (moved e (malloc e h nb) p) (moved e (malloc e h' nb) p) → Both e m m' → Twins e (here_or_moved e h m p nb) (here_or_moved e h' m' p nb)
here_or_moved_lem e h h' p nb none none t b = t
here_or_moved_lem e h h' p nb none (some k) t b = absurd b
here_or_moved_lem e h h' p nb (some k) none t b = absurd b
here_or_moved_lem e h h' p nb (some k) (some k') t b = twin e p k k' b

pub realloc_twins : (e : Edition) (h h' : Heap) (p s nb : ℕ) → Once h → Once h' → total h.chunks + h.top ≤ 8192 → Tidy true h.chunks → Starts 0 h.chunks p (used s)
    → OnceAfter (malloc e h nb) → OnceAfter (malloc e h' nb) → Twins e (malloc e h nb) (malloc e h' nb) → Pair e h h' → Twins e (realloc e h p nb) (realloc e h' p nb)
realloc_twins e h h' p s nb o o' room tidy st m m' t pr =
    as_tries e (λ k. Once k → OnceAfter (malloc e k nb) → Twins e (malloc e h nb) (malloc e k nb) → Twins e (realloc e h p nb) (realloc e k p nb)) h h' pr
    (λ ts g u k w. go ts g u (moved_twins e p (malloc e h nb) (malloc e (heap_tries h ts) nb) m k w) (block h.chunks p s tidy st)) o' m' t
  where
    go : (ts : List Tree) → Pair e h (heap_tries h ts) → Once (heap_tries h ts) → Twins e (moved e (malloc e h nb) p) (moved e (malloc e (heap_tries h ts) nb) p) → Block h.chunks p s
        → Twins e (realloc e h p nb) (realloc e (heap_tries h ts) p nb)
    go ts g u w b =
        let f = b.f in
        subst (λ x. Twins e (realloc_found e h x p nb) (realloc_found e (heap_tries h ts) x p nb)) (sym b.finds)
        (here_or_moved_lem e h (heap_tries h ts) p nb (resize_here e h (front f) p f.words nb f.after) (resize_here e (heap_tries h ts) (front f) p f.words nb f.after) w
        (resize e h ts g o u room tidy (front f) p f.words nb b.place f.after (subst (λ (z : ℕ). h.chunks ≡ front f ++ (used z ∷ f.after)) (sym b.words) b.whole)))
