-- THE RULE OF FREE (document 01, port order 6), with `dispose_chunk`: "Merge back, merge forward, then top, `dv` or a bin". Assumes nothing.
use Rattle.std.specs.Prelude.{Bool, true, false, List, [], ◌∷◌, ◌++◌, ℕ, ◌+◌, ◌-◌, eqb}
use Rattle.std.proofs.Math.Option.{Option, none, some}
use Rattle.words.specs.Logic.{pick}
use Rattle.words.specs.Edition.{Edition}
use Rattle.tiling.specs.Tiling.{Chunk, used, free}
use Rattle.rules.specs.Heap.{Heap, heap_dv, heap_chunks, heap_tiles}
use Rattle.rules.specs.Binning.{is_dv, bin, unbin}

-- ---- the block, by its place

-- a used chunk, with the chunks before it, the size of a free one just before it (0: none), and the chunks after it
pub record Found : Type 0 where
  pub before : List Chunk
  pub back : ℕ
  pub words : ℕ
  pub after : List Chunk

abbrev pub found : List Chunk → ℕ → ℕ → List Chunk → Found
found xs b s ys = record { before = xs; back = b; words = s; after = ys }

abbrev pub behind : Chunk → Option Found → Option Found
behind c none = none
behind c (some f) = some (found (c ∷ f.before) f.back f.words f.after)

abbrev pub behind_free : ℕ → Option Found → Option Found
behind_free b none = none
behind_free b (some f) = elim f.before [ [] ↦ some (found [] b f.words f.after) | c ∷ cs ↦ some (found (free b ∷ c ∷ cs) f.back f.words f.after) ]

-- the used chunk at p; the list starts at a
abbrev pub find : ℕ → List Chunk → ℕ → Option Found
find a [] p = none
find a (used s ∷ cs) p = pick (eqb p a) (some (found [] 0 s cs)) (behind (used s) (find (a + s) cs p))
find a (free s ∷ cs) p = behind_free s (find (a + s) cs p)

-- ---- merging

-- the t free words at a are in no bin: after a merge with the spare chunk they are that (`mine`), else they go to their bin
abbrev pub away : Edition → Bool → Heap → ℕ → ℕ → Heap
away e mine h a t = pick mine (heap_dv h (some a)) (bin e h a t)

-- "merge forward, then top, `dv` or a bin": the t words at a end where the last list begins
abbrev pub forward : Edition → Bool → Heap → List Chunk → ℕ → ℕ → List Chunk → Heap
forward e mine h xs a t [] = heap_tiles h xs (t + h.top)
forward e mine h xs a t (used n ∷ ys) = away e mine (heap_chunks h (xs ++ (free t ∷ used n ∷ ys))) a t
forward e mine h xs a t (free b ∷ ys) =
    pick (is_dv h (a + t)) (heap_dv (heap_chunks h (xs ++ (free (t + b) ∷ ys))) (some a))
    (away e mine (heap_chunks (unbin e h (a + t) b) (xs ++ (free (t + b) ∷ ys))) a (t + b))

-- "Merge back": a free chunk before is let go; if it was the spare one, what it merges into will be
abbrev pub give_found : Edition → Heap → Found → ℕ → Heap
give_found e h f p =
    pick (eqb f.back 0) (forward e false h f.before p f.words f.after)
    (pick (is_dv h (p - f.back)) (forward e true (heap_dv h none) f.before (p - f.back) (f.back + f.words) f.after)
    (forward e false (unbin e h (p - f.back) f.back) f.before (p - f.back) (f.back + f.words) f.after))

abbrev pub give_maybe : Edition → Heap → Option Found → ℕ → Heap
give_maybe e h none p = h
give_maybe e h (some f) p = give_found e h f p

-- give the used chunk at p back
abbrev pub give_back : Edition → Heap → ℕ → Heap
give_back e h p = give_maybe e h (find 0 h.chunks p) p
