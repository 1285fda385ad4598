-- FREE, LIKE MALLOC, DOES NOT SEE THE SHAPES OF THE TRIES: on heaps that differ in nothing else (`Alike`) it leaves alike heaps. Each of its steps
-- keeps them alike, and the chunks it merges fit into the arena. Assumes nothing.
use Rattle.std.proofs.Common.{ap, subst, arith}
use Rattle.std.specs.Prelude.{Bool, true, false, List, [], ◌∷◌, ◌++◌, ℕ, ◌+◌, ◌-◌, ◌≤◌, eqb}
use Rattle.std.proofs.Math.Option.{Option, none, some}
use Rattle.words.specs.Edition.{Edition}
use Rattle.words.specs.Logic.{pick, pick_case, by}
use Rattle.tiling.specs.Tiling.{Chunk, used, free, size, total}
use Rattle.rules.specs.Heap.{Heap, heap_dv, heap_chunks}
use Rattle.rules.specs.Binning.{is_place, unbin}
use Rattle.rules.specs.Free.{Found, found, behind, behind_free, find, away, forward, give_maybe, give_back}
use Rattle.holds.specs.Holds.{Control, Holds}
use Rattle.holds.specs.Unique.{trie_once}
use Rattle.holds.specs.Alike.{Alike, Once, Pair, near_pair, pair_dv, pair_tiles, pair_chunks, pair_bin, pair_unbin, unbin_once, total_append}

-- ---- the chunks around the block that is looked up are no more than all

abbrev Sum : Option Found → ℕ → Type 0
Sum none n = Unit {0}
Sum (some f) n = total f.before + f.back + f.words + total f.after ≤ n

find_sum : (a : ℕ) (cs : List Chunk) (p : ℕ) → Sum (find a cs p) (total cs)
find_sum a [] p = tt
find_sum a (used s ∷ cs) p =
    pick_case (λ o. Sum o (total (used s ∷ cs))) (eqb p a) (λ _. omega arith) (λ _. further (used s) (find (a + s) cs p) (total cs) (find_sum (a + s) cs p))
  where
    further : (c : Chunk) (o : Option Found) (n : ℕ) → Sum o n → Sum (behind c o) (size c + n)
    further c none n u = tt
    further c (some f) n u = omega arith
find_sum a (free s ∷ cs) p = further s (find (a + s) cs p) (total cs) (find_sum (a + s) cs p)
  where
    further : (b : ℕ) (o : Option Found) (n : ℕ) → Sum o n → Sum (behind_free b o) (b + n)
    further b none n u = tt
    further b (some f) n u = go f.before u
      where
        go : (xs : List Chunk) → total xs + f.back + f.words + total f.after ≤ n
            → Sum (elim xs [ [] ↦ some (found [] b f.words f.after) | c ∷ cs ↦ some (found (free b ∷ c ∷ cs) f.back f.words f.after) ]) (b + n)
        go [] v = omega arith
        go (x ∷ xs) v = omega arith

-- ---- merging

pair_away : (e : Edition) (mine : Bool) (h h' : Heap) (a t : ℕ) → t ≤ 8192 → Pair e h h' → Pair e (away e mine h a t) (away e mine h' a t)
pair_away e true h h' a t l p = pair_dv e h h' (some a) p
pair_away e false h h' a t l p = pair_bin e h h' a t l p

pair_forward : (e : Edition) (mine : Bool) (h h' : Heap) (xs : List Chunk) (a t : ℕ) (ys : List Chunk) → total xs + t + total ys ≤ 8192 → Once h → Once h' → Pair e h h'
    → Pair e (forward e mine h xs a t ys) (forward e mine h' xs a t ys)
pair_forward e mine h h' xs a t [] l o o' p = pair_tiles e h h' xs (t + h.top) (t + h'.top) (ap (λ z. t + z) p.alike.top) (omega arith) p
pair_forward e mine h h' xs a t (used n ∷ ys) l o o' p =
    let cs = xs ++ (free t ∷ used n ∷ ys) in
    pair_away e mine (heap_chunks h cs) (heap_chunks h' cs) a t (omega arith) (pair_chunks e h h' cs (omega (arith, total_append xs (free t ∷ used n ∷ ys))) p)
pair_forward e mine h h' xs a t (free b ∷ ys) l o o' p =
    subst (λ d. Pair e (forward e mine h xs a t (free b ∷ ys)) (pick (is_place d (a + t)) (spare h') (binned h'))) p.alike.dv
    (by (λ z. Pair e (pick z (spare h) (binned h)) (pick z (spare h') (binned h'))) (is_place h.dv (a + t))
    (λ _. pair_dv e (heap_chunks h cs) (heap_chunks h' cs) (some a) (pair_chunks e h h' cs fits p))
    (λ _. pair_away e mine (heap_chunks (unbin e h (a + t) b) cs) (heap_chunks (unbin e h' (a + t) b) cs) a (t + b) (omega arith)
    (pair_chunks e (unbin e h (a + t) b) (unbin e h' (a + t) b) cs fits (pair_unbin e h h' (a + t) b o o' p))))
  where
    cs : List Chunk
    cs = xs ++ (free (t + b) ∷ ys)

    fits : total cs ≤ 8192
    fits = omega (arith, total_append xs (free (t + b) ∷ ys))

    spare : Heap → Heap
    spare k = heap_dv (heap_chunks k cs) (some a)

    binned : Heap → Heap
    binned k = away e mine (heap_chunks (unbin e k (a + t) b) cs) a (t + b)

pub pair_give : (e : Edition) (h h' : Heap) (p : ℕ) → Once h → Once h' → Pair e h h' → Pair e (give_back e h p) (give_back e h' p)
pair_give e h h' p o o' q =
    subst (λ cs. Pair e (give_back e h p) (give_maybe e h' (find 0 cs p) p)) q.alike.chunks (go (find 0 h.chunks p) (find_sum 0 h.chunks p))
  where
    go : (m : Option Found) → Sum m (total h.chunks) → Pair e (give_maybe e h m p) (give_maybe e h' m p)
    go none u = q
    go (some f) u =
        by (λ b. Pair e (pick b (plain h) (pick (is_place h.dv at) (spare h) (binned h))) (pick b (plain h') (pick (is_place h'.dv at) (spare h') (binned h')))) (eqb f.back 0)
        (λ _. pair_forward e false h h' f.before p f.words f.after (omega (arith, u, q.room)) o o' q)
        (λ _. subst (λ d. Pair e (pick (is_place h.dv at) (spare h) (binned h)) (pick (is_place d at) (spare h') (binned h'))) q.alike.dv
        (by (λ b. Pair e (pick b (spare h) (binned h)) (pick b (spare h') (binned h'))) (is_place h.dv at)
        (λ _. pair_forward e true (heap_dv h none) (heap_dv h' none) f.before at (f.back + f.words) f.after fits o o' (pair_dv e h h' none q))
        (λ _. pair_forward e false (unbin e h at f.back) (unbin e h' at f.back) f.before at (f.back + f.words) f.after fits
        (unbin_once e h at f.back o) (unbin_once e h' at f.back o') (pair_unbin e h h' at f.back o o' q))))
      where
        at : ℕ
        at = p - f.back

        fits : total f.before + (f.back + f.words) + total f.after ≤ 8192
        fits = omega (arith, u, q.room)

        plain : Heap → Heap
        plain k = forward e false k f.before p f.words f.after

        spare : Heap → Heap
        spare k = forward e true (heap_dv k none) f.before at (f.back + f.words) f.after

        binned : Heap → Heap
        binned k = forward e false (unbin e k at f.back) f.before at (f.back + f.words) f.after

-- ---- the theorem

pub free_alike : (e : Edition) (r r' : Control) (w w' : List ℕ) (h h' : Heap) → Holds e r w h → Holds e r' w' h' → Alike h h' → (p : ℕ) → Alike (give_back e h p) (give_back e h' p)
free_alike e r r' w w' h h' n n' a p =
    (pair_give e h h' p (trie_once e r w h [] n) (trie_once e r' w' h' [] n') (near_pair e r r' w w' h h' [] [] n n' a)).alike
