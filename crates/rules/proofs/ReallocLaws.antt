-- REALLOC: its own place first, by shrinking, or by growing into the top or into the free chunk after it; else it moves, malloc then free. What
-- it grants has nb words, or less than 4 more, the old block is gone, every other one stays, the heap stays tidy and the total stays. Refusal 6
-- exactly when its own place does not hold the need and malloc refuses. Each way to grow is one retiling step. Assumes nothing.
use Rattle.std.specs.Prelude.{◌≡◌, refl, List, [], ◌∷◌, ◌++◌, ◌↔◌, ℕ, ◌+◌, ◌-◌, ◌≤◌, ◌<◌, ◌%◌, leb, ltb}
use Rattle.std.proofs.Common.{sym, ◌∙◌, ap, subst, inl, ⊎_elim, arith, leb-true, leb-false, ltb-true}
use Rattle.std.proofs.Math.Option.{Option, none, some}
use Rattle.words.specs.Logic.{pick_case}
use Rattle.words.specs.Edition.{Edition}
use Rattle.tiling.specs.Tiling.{Chunk, used, free, end_of, Starts}
use Rattle.rules.specs.Heap.{Heap, heap_dv, heap_chunks, heap_tiles}
use Rattle.rules.specs.Binning.{is_dv, unbin}
use Rattle.rules.specs.Malloc.{Grant, grant, malloc}
use Rattle.rules.specs.Realloc.{shrink, grow_free, grow_in, front, resize_here, here_or_moved, realloc_found, moved, realloc}
use Rattle.rules.specs.Source.{Source}
use Rattle.rules.specs.Tidy.{TidyHeap, AllFree, all_free, starts_right}
use Rattle.rules.specs.Lookup.{Block, block}
use Rattle.rules.specs.Blocks.{Granted, Grants, granted_then}
use Rattle.rules.specs.Splice.{around, splice_grants, serve-part, serve-whole}
use Rattle.rules.specs.Leaves.{unbin_leaves}
use Rattle.rules.specs.MallocLaws.{malloc-grants}
use Rattle.rules.proofs.Cutting.{give_one, as_granted, keep_first}
use Rattle.rules.specs.ReallocLaws.{GrantsHere}

-- ---- shrink

-- "a rest of 32 or more is split off, less stays with the block"
pub shrink-grants : (e : Edition) (h : Heap) (p s nb : ℕ) → TidyHeap h → Starts 0 h.chunks p (used s) → nb % 2 ≡ 0 → 4 ≤ nb → nb ≤ s → Granted h (shrink e h p s nb) p nb (nb + 4) (λ x. x ≡ p)
shrink-grants e h p s nb t st v l fit =
    pick_case (λ k. Granted h k p nb (nb + 4) (λ x. x ≡ p)) (leb 4 (s - nb))
    (λ z. keep_first h t p s st e nb (s - nb) (omega arith) v l (leb-true 4 (s - nb) z) nb (nb + 4) (omega arith) (omega arith))
    (λ z. as_granted h t p s st nb (nb + 4) fit (omega (arith, leb-false 4 (s - nb) z)))

-- ---- grow

module _ (e : Edition) (h : Heap) (t : TidyHeap h) (xs : List Chunk) (p s nb : ℕ) (place : p ≡ end_of 0 xs) (v : nb % 2 ≡ 0) (l : 4 ≤ nb) where
  -- the block and a free stretch after it: the block is the one in use
  was_there : (more : List Chunk) (x : ℕ) → x ≡ p → (n : ℕ) × Starts (end_of 0 xs) (used s ∷ more) x (used n)
  was_there more x q = (s, inl (q ∙ place, refl))

  leaves : (more : List Chunk) → AllFree more → (x n : ℕ) → Starts (end_of 0 xs) (used s ∷ more) x (used n) → x ≡ p
  leaves more f x n st = ⊎_elim (λ u. u.0 ∙ sym place) (λ u. absurd (all_free (end_of 0 xs + s) more x n f u)) st

  -- "From the top the rest stays top"
  into_top : h.chunks ≡ xs ++ (used s ∷ []) → nb < s + h.top → Granted h (heap_tiles h (xs ++ (used nb ∷ [])) (s + h.top - nb)) p nb (nb + 4) (λ x. x ≡ p)
  into_top q room =
      splice_grants h (heap_tiles h (xs ++ (used nb ∷ [])) (s + h.top - nb)) xs (used s ∷ []) nb [] [] t
      (record { was = q; now = refl; sum = omega arith; fixed = inl refl; tidy = (v, l, tt); rest = tt; last = refl; least = omega (arith, t.top_even, (around h xs (used s ∷ []) [] t q).tidy.0) })
      p place tt (λ x. x ≡ p) (was_there []) (leaves [] tt) nb (nb + 4) (omega arith) (omega arith)

  module _ (b : ℕ) (ys : List Chunk) (q : h.chunks ≡ xs ++ (used s ∷ free b ∷ ys)) (fit : nb ≤ s + b) where
    -- the block with the whole of the free chunk
    whole : (h' : Heap) (hi : ℕ) → s + b < hi → h'.chunks ≡ xs ++ (used (s + b) ∷ ys) → h'.top ≡ h.top → Granted h h' p nb hi (λ x. x ≡ p)
    whole h' hi tight now top =
        serve-whole h t xs (used s ∷ free b ∷ []) ys q p (s + b) place (omega arith) refl (λ x. x ≡ p) (was_there (free b ∷ [])) (leaves (free b ∷ []) tt) h' nb hi (omega arith) fit tight now top

    -- into `dv`, or into a binned neighbour: all of that first, and then a shrink
    into_free : Granted h (grow_free e h xs p s nb b ys) p nb (nb + 4) (λ x. x ≡ p)
    into_free =
        pick_case (λ k. Granted h k p nb (nb + 4) (λ x. x ≡ p)) (is_dv h (p + s))
        (λ _. pick_case (λ k. Granted h k p nb (nb + 4) (λ x. x ≡ p)) (leb 4 (s + b - nb))
        (λ z. serve-part h t xs (used s ∷ free b ∷ []) ys q p (s + b) place (omega arith) refl (λ x. x ≡ p) (was_there (free b ∷ [])) (leaves (free b ∷ []) tt)
        (heap_dv (heap_chunks h (xs ++ (used nb ∷ free (s + b - nb) ∷ ys))) (some (p + nb))) nb v l (leb-true 4 (s + b - nb) z) refl refl)
        (λ z. whole (heap_dv (heap_chunks h cs) none) (nb + 4) (omega (arith, leb-false 4 (s + b - nb) z)) refl refl))
        (λ _. let all = whole u (s + b + 1) (omega arith) refl (unbin_leaves e h (p + s) b).2 in
        granted_then h u (shrink e u p (s + b) nb) p p nb (s + b + 1) nb (nb + 4) (λ x. x ≡ p) all
        (shrink-grants e u p (s + b) nb all.changes.tidy (starts_right 0 xs (used (s + b) ∷ ys) p (used (s + b)) (inl (place, refl))) v l fit))
      where
        cs : List Chunk
        cs = xs ++ (used (s + b) ∷ ys)

        u : Heap
        u = heap_chunks (unbin e h (p + s) b) cs

  grow_grants : (ys : List Chunk) → h.chunks ≡ xs ++ (used s ∷ ys) → GrantsHere h p nb (grow_in e h xs p s nb ys)
  grow_grants [] q = pick_case (GrantsHere h p nb) (ltb nb (s + h.top)) (λ z. into_top q (ltb-true nb (s + h.top) z)) (λ _. tt)
  grow_grants (used n ∷ ys) q = tt
  grow_grants (free b ∷ ys) q = pick_case (GrantsHere h p nb) (leb nb (s + b)) (λ z. into_free b ys q (leb-true nb (s + b) z)) (λ _. tt)

  pub resize_grants : (ys : List Chunk) → h.chunks ≡ xs ++ (used s ∷ ys) → Starts 0 h.chunks p (used s) → GrantsHere h p nb (resize_here e h xs p s nb ys)
  resize_grants ys q st = pick_case (GrantsHere h p nb) (leb nb s) (λ z. shrink-grants e h p s nb t st v l (leb-true nb s z)) (λ _. grow_grants ys q)

-- ---- move

-- what malloc granted is kept, and the old block is given back
moved-grants : (e : Edition) (h : Heap) (p s nb : ℕ) → Starts 0 h.chunks p (used s) → (o : Option Grant) → Grants h nb (nb + 4) (λ x. ⊥) o → Grants h nb (nb + 4) (λ x. x ≡ p) (moved e o p)
moved-grants e h p s nb st none m = tt
moved-grants e h p s nb st (some g) m =
    give_one e h g.heap (λ x. x ≡ p) (λ x. ⊥) (λ x n. (x ≡ g.place) × (n ≡ m.words)) p s g.place m.words nb (nb + 4) m.changes (m.changes.kept p s st (λ z. z)) m.block
    (λ q. m.apart p s st (λ z. z) (sym q)) m.large m.tight (λ x n z _. z) (λ x n sx ne. ((λ z. z), ne, m.apart x n sx (λ z. z))) (λ x _ ne. ne)

-- ---- realloc

pub some_none : {A B : Type 0} {a : A} → some a ≡ none → B
some_none q = let z : ◌≡◌ {A = ℕ} 0 1 = cc in absurd (let y : ⊥ = omega arith in y)

-- what it answers, once the block is found: in place, or by a move
module _ (e : Edition) (h : Heap) (p s nb : ℕ) (b : Block h.chunks p s) where
  abbrev here : Option Heap
  here = resize_here e h (front b.f) p s nb b.f.after

  -- what `find` gives is put in
  answer : realloc e h p nb ≡ here_or_moved e h here p nb
  answer = ap (λ z. realloc_found e h z p nb) b.finds ∙ ap (λ n. here_or_moved e h (resize_here e h (front b.f) p n nb b.f.after) p nb) b.words

  -- its own place first
  pub here_first : (k : Heap) → resize_here e h (front b.f) p s nb b.f.after ≡ some k → realloc e h p nb ≡ some (grant p k)
  here_first k q = answer ∙ ap (λ o. here_or_moved e h o p nb) q

  -- "Refusal 6 exactly when no in-place way holds and malloc would say 6"
  pub refused_exactly : realloc e h p nb ≡ none ↔ (resize_here e h (front b.f) p s nb b.f.after ≡ none) × (malloc e h nb ≡ none)
  refused_exactly = ((λ q. (go here).0 (sym answer ∙ q)), (λ q. answer ∙ (go here).1 q))
    where
      malloc_none : (o : Option Grant) → moved e o p ≡ none → o ≡ none
      malloc_none none q = refl
      malloc_none (some g) q = some_none q

      go : (o : Option Heap) → here_or_moved e h o p nb ≡ none ↔ (o ≡ none) × (malloc e h nb ≡ none)
      go none = ((λ q. (refl, malloc_none (malloc e h nb) q)), (λ q. ap (λ m. moved e m p) q.1))
      go (some k) = ((λ q. some_none q), (λ q. some_none q.0))

  -- what does not fit in place is larger
  pub larger : resize_here e h (front b.f) p s nb b.f.after ≡ none → s < nb
  larger = pick_case (λ (o : Option Heap). o ≡ none → s < nb) (leb nb s) (λ z q. some_none q) (λ z q. leb-false nb s z)

-- a move goes elsewhere: so the words that a call copied (`Calls`) are counted just where the block moved
pub moves_away : (e : Edition) (h : Heap) (p s nb : ℕ) → TidyHeap h → Starts 0 h.chunks p (used s) → nb % 2 ≡ 0 → 4 ≤ nb → Source e h nb (malloc e h nb) → (b : Block h.chunks p s)
    → resize_here e h (front b.f) p s nb b.f.after ≡ none → (g : Grant) → realloc e h p nb ≡ some g → g.place ≡ p → ⊥
moves_away e h p s nb t st v l src b q g r z = go (malloc e h nb) (malloc-grants e h nb t v l (malloc e h nb) src) (sym (answer e h p s nb b ∙ ap (λ o. here_or_moved e h o p nb) q) ∙ r)
  where
    go : (o : Option Grant) → Grants h nb (nb + 4) (λ x. ⊥) o → moved e o p ≡ some g → ⊥
    go none m y = some_none (sym y)
    go (some a) m y = m.apart p s st (λ u. u) (sym z ∙ sym (ap place_of_lem y))
      where
        place_of_lem : Option Grant → ℕ
        place_of_lem none = 0
        place_of_lem (some d) = d.place

pub realloc-grants : (e : Edition) (h : Heap) (p s nb : ℕ) → TidyHeap h → Starts 0 h.chunks p (used s) → nb % 2 ≡ 0 → 4 ≤ nb → Source e h nb (malloc e h nb) → Grants h nb (nb + 4) (λ x. x ≡ p) (realloc e h p nb)
realloc-grants e h p s nb t st v l src =
    subst (Grants h nb (nb + 4) (λ x. x ≡ p)) (sym (answer e h p s nb b)) (go (here e h p s nb b) (resize_grants e h t (front b.f) p s nb b.place v l b.f.after b.whole st))
  where
    b : Block h.chunks p s
    b = block h.chunks p s t.chunks st

    go : (o : Option Heap) → GrantsHere h p nb o → Grants h nb (nb + 4) (λ x. x ≡ p) (here_or_moved e h o p nb)
    go (some k) g = g
    go none g = moved-grants e h p s nb st (malloc e h nb) (malloc-grants e h nb t v l (malloc e h nb) src)
