-- THE REBUILT HEAP IS THE ONE THAT DOCUMENT 02 BRINGS THE CRATE TO: "on a fresh region: every chunk but the top taken in address order,
-- then the free ones given back from the lowest up". By the rules: with every bin empty and no spare chunk a request is served from the
-- top; and a block given back between two blocks in use goes straight to its bin. Both editions. Assumes nothing.
use Rattle.std.specs.Prelude.{◌≡◌, refl, Bool, true, false, List, [], ◌∷◌, ◌++◌, ℕ, zero, suc, ◌+◌, ◌-◌, ◌*◌, ◌%◌, ◌≤◌, ◌<◌, leb, ltb, get_or, replicate}
use Rattle.std.proofs.Common.{sym, ◌∙◌, ap, ap₂, subst, append-nil, append_assoc, arith, lt-ltb, le-ltb}
use Rattle.std.proofs.Math.Option.{Option, none, some}
use Rattle.std.proofs.lemmas.Bool.{lt-leb}
use Rattle.words.specs.Logic.{pick, pick_case, false-true}
use Rattle.words.specs.Edition.{Edition, wide, narrow, W}
use Rattle.index.specs.Sizes.{need_words, need, round_up}
use Rattle.tiling.specs.Tiling.{Chunk, used, free, size, in_use, end_of, last_use, total, end_append, last_append, split_starts}
use Rattle.tries.specs.Tree.{Tree, leaf}
use Rattle.tries.specs.Search.{Cand, walk, down, start}
use Rattle.rules.specs.BinOf.{is_small, small_bin, trie_bin, trie_bits, huge}
use Rattle.rules.specs.Heap.{Heap, holds_some, grows_some, fresh_heap, heap_chunks}
use Rattle.rules.specs.Binning.{spare_words, dv_words, bin}
use Rattle.rules.specs.Malloc.{to_dv, to_bin, from_bin, from_top, from_spare_or_top, from_dv_or_top, first_filled, best_from, best_large, from_trie}
use Rattle.rules.specs.Malloc.{from_fuller, fuller, own_or_next, from_own, malloc_small, malloc_find, malloc_large, malloc}
use Rattle.rules.specs.Free.{Found, find, forward, give_maybe, give_back}
use Rattle.rules.specs.Calls.{Malloc, Free, refuse, too_many, block_of, place_of, live_size, grant_or6, free_call, answer_to}
use Rattle.rules.specs.Tidy.{Tidy, tidy_head, tidy_append, tidy_left, tidy_right}
use Rattle.rules.specs.Lookup.{find_plain}
use Rattle.decides.specs.LiveLaws.{starts_live}
use Rattle.rebuild.specs.Rebuilding.{bare_heap, enter_all, rebuilt_heap, bin_stays}
use Rattle.rebuild.specs.CrateWay.{gives, made_by, takes, bin_chunks, enter_chunks}

-- ---- the calls

-- ---- taken from the top

no_member : {A : Type 0} (d : A) (n j : ℕ) → get_or (replicate n d) j d ≡ d
no_member d zero j = refl
no_member d (suc n) zero = refl
no_member d (suc n) (suc j) = no_member d n j

no_huge : ltb huge huge ≡ false
no_huge = le-ltb huge huge (omega arith)

-- no bin holds anything, and there is no spare chunk
module _ (e : Edition) (h : Heap) (no-small : (j : ℕ) → get_or h.small j [] ≡ []) (no-trie : (j : ℕ) → get_or h.tries j leaf ≡ leaf)
    (no_dv_lem : h.dv ≡ none) (nb : ℕ) (l : 4 ≤ nb) where
  best_none : (i : ℕ) → best_from h i nb ≡ start 0 huge
  best_none i = ap (λ (x : Tree). down nb x (start 0 huge)) (no-trie (first_filled grows_some i 0 h.tries))

  no_words : leb nb (dv_words h) ≡ false
  no_words = ap (λ (d : Option ℕ). leb nb (spare_words h.chunks d)) no_dv_lem ∙ lt-leb nb 0 (omega arith)

  small_top : malloc_small e h nb ≡ from_top h nb
  small_top =
      let j = own_or_next h.small (small_bin e nb) in
      let i = first_filled holds_some (small_bin e nb) 0 h.small in
      ap (λ (ps : List ℕ). from_own e h j ps nb) (no-small j) ∙ ap (λ b. pick b (from_dv_or_top e h nb) (fuller e h nb)) no_words
      ∙ ap (λ (ps : List ℕ). from_fuller e h i ps nb) (no-small i) ∙ ap (λ (c : Cand). from_trie e h c nb) (best_none 0)
      ∙ ap (λ b. pick b (some (from_bin e to_dv h 0 huge nb)) (from_top h nb)) no_huge

  best_large_lem : best_large e h nb ≡ start 0 huge
  best_large_lem =
      ap (λ (x : Tree). let c = walk (trie_bits e (trie_bin e nb)) nb x leaf (start 0 huge) in pick (ltb c.size huge) c
      (best_from h (suc (trie_bin e nb)) nb)) (no-trie (trie_bin e nb))
      ∙ ap (λ b. pick b (start 0 huge) (best_from h (suc (trie_bin e nb)) nb)) no_huge ∙ best_none (suc (trie_bin e nb))

  large_top : malloc_large e h nb ≡ from_top h nb
  large_top =
      let g = some (from_bin e to_bin h 0 huge nb) in
      ap (λ (c : Cand). malloc_find e h c nb) best_large_lem
      ∙ ap (λ b. pick b (pick (leb nb (dv_words h)) (pick (ltb huge (dv_words h)) g (from_dv_or_top e h nb)) g) (from_dv_or_top e h nb)) no_huge
      ∙ ap (λ (d : Option ℕ). from_spare_or_top e h d nb) no_dv_lem

  malloc_top_lem : malloc e h nb ≡ from_top h nb
  malloc_top_lem = pick_case (λ g. g ≡ from_top h nb) (is_small e nb) (λ _. small_top) (λ _. large_top)

-- the usable bytes of a chunk of s words need just that chunk
need_of : (e : Edition) (s : ℕ) → s % 2 ≡ 0 → 4 ≤ s → need_words (W e) (W e * (s - 1)) ≡ s
unfolding need_words need round_up
need_of wide s v l = rw (le-ltb (8 * (s - 1)) 23 (omega arith)) (omega arith)
need_of narrow s v l = rw (le-ltb (4 * (s - 1)) 11 (omega arith)) (omega arith)

few : (e : Edition) (n s : ℕ) → s ≤ n → W e * (s - 1) ≤ W e * n
few wide n s l = omega arith
few narrow n s l = omega arith

module _ (e : Edition) (n : ℕ) where
  take_one : (xs : List Chunk) (t s : ℕ) → s % 2 ≡ 0 → 4 ≤ s → s < t → s ≤ n
      → (answer_to e n (bare_heap xs t) (Malloc (W e * (s - 1)))).heap ≡ bare_heap (xs ++ (used s ∷ [])) (t - s)
  take_one xs t s v l lt fit =
      let h = bare_heap xs t in
      ap (λ b. (pick b (refuse h too_many) (grant_or6 e h (malloc e h (need_words (W e) (W e * (s - 1)))))).heap)
      (le-ltb (W e * n) (W e * (s - 1)) (few e n s fit))
      ∙ ap (λ nb. (grant_or6 e h (malloc e h nb)).heap) (need_of e s v l)
      ∙ ap (λ g. (grant_or6 e h g).heap) (malloc_top_lem e h (λ j. no_member [] 32 j) (λ j. no_member leaf 32 j) refl s l)
      ∙ rw (lt-ltb s t lt) refl

  -- every chunk in use
  abbrev all_used : List Chunk → List Chunk
  all_used [] = []
  all_used (c ∷ cs) = used (size c) ∷ all_used cs

  take_all : (xs ys : List Chunk) (t : ℕ) (pu : Bool) → Tidy pu ys → total ys < t → total ys ≤ n
      → made_by e n (bare_heap xs t) (takes e ys) ≡ bare_heap (xs ++ all_used ys) (t - total ys)
  take_all xs [] t pu d lt fit = ap₂ bare_heap (sym (append-nil xs)) (let z : t ≡ t - 0 = omega arith in z)
  take_all xs (c ∷ ys) t pu d lt fit =
      let k = tidy_head pu c ys d in
      ap (λ h. made_by e n h (takes e ys)) (take_one xs t (size c) k.0 k.1 (omega arith) (omega arith))
      ∙ take_all (xs ++ (used (size c) ∷ [])) ys (t - size c) (in_use c) k.2 (omega arith) (omega arith)
      ∙ ap₂ bare_heap (append_assoc xs (used (size c) ∷ []) (all_used ys))
      (let z : t - size c - total ys ≡ t - (size c + total ys) = omega arith in z)

  -- ---- given back between blocks in use

  tidy_used : (pu pv : Bool) (ys : List Chunk) → Tidy pu ys → Tidy pv (all_used ys)
  tidy_used pu pv [] d = tt
  tidy_used pu pv (c ∷ ys) d = let k = tidy_head pu c ys d in (k.0, k.1, tidy_used (in_use c) true ys k.2)

  place_plain : (e : Edition) (p : ℕ) → place_of e (block_of e p) ≡ p
  place_plain wide p = omega arith
  place_plain narrow p = omega arith

  -- what stands behind is in use, and there is something
  forward_used : (h : Heap) (xs : List Chunk) (p s : ℕ) (ys : List Chunk) → last_use false ys ≡ true
      → forward e false h xs p s (all_used ys) ≡ bin e (heap_chunks h (xs ++ (free s ∷ all_used ys))) p s
  forward_used h xs p s [] q = false-true q
  forward_used h xs p s (c ∷ ys) q = refl

  give_one : (h : Heap) (xs ys : List Chunk) (s : ℕ) → h.chunks ≡ xs ++ (used s ∷ all_used ys) → Tidy true (xs ++ (free s ∷ ys))
      → last_use true (xs ++ (free s ∷ ys)) ≡ true
      → (answer_to e n h (Free (block_of e (end_of 0 xs)))).heap ≡ bin e (heap_chunks h (xs ++ (free s ∷ all_used ys))) (end_of 0 xs) s
  give_one h xs ys s q d u =
      ap (λ (o : Option ℕ). (free_call e h o (block_of e p)).heap) live ∙ ap (give_back e h) (place_plain e p)
      ∙ ap (λ (o : Option Found). give_maybe e h o p) (ap (λ cs. find 0 cs p) q ∙ find_plain 0 true xs s (all_used ys) tidy right.0)
      ∙ forward_used h xs p s ys (sym (last_append true xs (free s ∷ ys)) ∙ u)
    where
      p : ℕ
      p = end_of 0 xs

      right : Tidy (last_use true xs) (free s ∷ ys)
      right = tidy_right true xs (free s ∷ ys) d

      tidy : Tidy true (xs ++ (used s ∷ all_used ys))
      tidy = tidy_append true xs (used s ∷ all_used ys) (tidy_left true xs (free s ∷ ys) d)
          (right.1, right.2, tidy_used false true ys right.3)

      live : live_size e 0 h.chunks (block_of e p) ≡ some s
      live = ap (λ cs. live_size e 0 cs (block_of e p)) q
          ∙ starts_live e true 0 (xs ++ (used s ∷ all_used ys)) p s tidy (split_starts 0 xs (used s) (all_used ys))

  give_all : (ys xs : List Chunk) (p : ℕ) (h : Heap) → p ≡ end_of 0 xs → h.chunks ≡ xs ++ all_used ys → Tidy true (xs ++ ys)
      → last_use true (xs ++ ys) ≡ true
      → made_by e n h (gives e p ys) ≡ heap_chunks (enter_all e h p ys) (xs ++ ys)
  give_all [] xs p h a q d u = ap (heap_chunks h) q
  give_all (used s ∷ ys) xs p h a q d u =
      let one = append_assoc xs (used s ∷ []) ys in
      give_all ys (xs ++ (used s ∷ [])) (p + s) h (omega (arith, a, end_append 0 xs (used s ∷ [])))
      (q ∙ sym (append_assoc xs (used s ∷ []) (all_used ys))) (subst (Tidy true) (sym one) d) (ap (last_use true) one ∙ u)
      ∙ ap (heap_chunks (enter_all e h (p + s) ys)) one
  give_all (free s ∷ ys) xs p h a q d u =
      let one = append_assoc xs (free s ∷ []) ys in
      let x = xs ++ (free s ∷ all_used ys) in
      let k = bin e (heap_chunks h x) p s in
      ap (λ g. made_by e n g (gives e (p + s) ys))
      (ap (λ o. (answer_to e n h (Free (block_of e o))).heap) a ∙ give_one h xs ys s q d u ∙ ap (λ o. bin e (heap_chunks h x) o s) (sym a))
      ∙ give_all ys (xs ++ (free s ∷ [])) (p + s) k (omega (arith, a, end_append 0 xs (free s ∷ [])))
      ((bin_stays e (heap_chunks h x) p s).chunks ∙ sym (append_assoc xs (free s ∷ []) (all_used ys))) (subst (Tidy true) (sym one) d)
      (ap (last_use true) one ∙ u)
      ∙ ap (heap_chunks (enter_all e k (p + s) ys)) one
      ∙ ap (λ g. heap_chunks g (xs ++ (free s ∷ ys)))
      (ap (λ g. enter_all e g (p + s) ys) (bin_chunks e n h x p s) ∙ enter_chunks e n (bin e h p s) x (p + s) ys)

  -- all of it
  pub as_the_crate : (cs : List Chunk) (ts : ℕ) → Tidy true cs → last_use true cs ≡ true → 0 < ts → total cs + ts + 10 ≡ n
      → made_by e n (made_by e n (fresh_heap n) (takes e cs)) (gives e 0 cs) ≡ rebuilt_heap e cs ts
  as_the_crate cs ts d u l q =
      ap (λ h. made_by e n h (gives e 0 cs))
      (take_all [] cs (n - 10) true d (omega arith) (omega arith)
      ∙ ap (bare_heap (all_used cs)) (let z : n - 10 - total cs ≡ ts = omega arith in z))
      ∙ give_all cs [] 0 (bare_heap (all_used cs) ts) refl refl d u ∙ sym (enter_chunks e n (bare_heap (all_used cs) ts) cs 0 cs)
