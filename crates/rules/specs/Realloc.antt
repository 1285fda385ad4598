-- THE RULE OF REALLOC (document 01, port order 7): in place if its own place holds the need, else malloc, copy, free. Assumes nothing.
use Rattle.std.specs.Prelude.{List, [], ◌∷◌, ◌++◌, ℕ, ◌+◌, ◌-◌, leb, ltb, eqb}
use Rattle.std.proofs.Math.Option.{Option, none, some}
use Rattle.words.specs.Logic.{pick}
use Rattle.words.specs.Edition.{Edition}
use Rattle.tiling.specs.Tiling.{Chunk, used, free}
use Rattle.rules.specs.Heap.{Heap, heap_dv, heap_chunks, heap_tiles}
use Rattle.rules.specs.Binning.{retile, is_dv, unbin}
use Rattle.rules.specs.Malloc.{Grant, grant, malloc}
use Rattle.rules.specs.Free.{Found, find, give_back}

-- "In place: shrink": keep nb of the s words at p; "a rest of 32 or more is split off, less stays with the block"
abbrev pub shrink : Edition → Heap → ℕ → ℕ → ℕ → Heap
shrink e h p s nb = pick (leb 4 (s - nb)) (give_back e (heap_chunks h (retile 0 h.chunks p (used nb ∷ used (s - nb) ∷ []))) (p + nb)) h

-- into the free chunk of b words after it: the spare one, or a binned one
abbrev pub grow_free : Edition → Heap → List Chunk → ℕ → ℕ → ℕ → ℕ → List Chunk → Heap
grow_free e h xs p s nb b ys =
    pick (is_dv h (p + s))
    (pick (leb 4 (s + b - nb)) (heap_dv (heap_chunks h (xs ++ (used nb ∷ free (s + b - nb) ∷ ys))) (some (p + nb))) (heap_dv (heap_chunks h (xs ++ (used (s + b) ∷ ys))) none))
    (shrink e (heap_chunks (unbin e h (p + s) b) (xs ++ (used (s + b) ∷ ys))) p (s + b) nb)

-- "into the top if oldsize + topsize > nb; into `dv` or a binned neighbour if the sum is at least nb. From the top the rest stays top"
abbrev pub grow_in : Edition → Heap → List Chunk → ℕ → ℕ → ℕ → List Chunk → Option Heap
grow_in e h xs p s nb [] = pick (ltb nb (s + h.top)) (some (heap_tiles h (xs ++ (used nb ∷ [])) (s + h.top - nb))) none
grow_in e h xs p s nb (used n ∷ ys) = none
grow_in e h xs p s nb (free b ∷ ys) = pick (leb nb (s + b)) (some (grow_free e h xs p s nb b ys)) none

-- in its own place, if that holds it: xs before, the chunk of s words at p, ys after
abbrev pub resize_here : Edition → Heap → List Chunk → ℕ → ℕ → ℕ → List Chunk → Option Heap
resize_here e h xs p s nb ys = pick (leb nb s) (some (shrink e h p s nb)) (grow_in e h xs p s nb ys)

-- the chunks before, with a free one just before
abbrev pub front : Found → List Chunk
front f = pick (eqb f.back 0) f.before (f.before ++ (free f.back ∷ []))

-- "Else malloc, copy, free the old"
abbrev pub moved : Edition → Option Grant → ℕ → Option Grant
moved e none p = none
moved e (some g) p = some (grant g.place (give_back e g.heap p))

abbrev pub here_or_moved : Edition → Heap → Option Heap → ℕ → ℕ → Option Grant
here_or_moved e h (some k) p nb = some (grant p k)
here_or_moved e h none p nb = moved e (malloc e h nb) p

abbrev pub realloc_found : Edition → Heap → Option Found → ℕ → ℕ → Option Grant
realloc_found e h none p nb = none
realloc_found e h (some f) p nb = here_or_moved e h (resize_here e h (front f) p f.words nb f.after) p nb

-- the block in use at p shall have nb words
abbrev pub realloc : Edition → Heap → ℕ → ℕ → Option Grant
realloc e h p nb = realloc_found e h (find 0 h.chunks p) p nb
