-- THE RULE OF MALLOC (document 01, port order 5), on the abstract heap: nb words are needed. Readable without the words below it.
-- The tries' `walk` and `down` are best fit (`tries`, `Search`). Assumes nothing.
use Rattle.std.specs.Prelude.{Bool, List, [], ◌∷◌, ◌++◌, ℕ, suc, ◌+◌, ◌-◌, leb, ltb, get_or}
use Rattle.std.proofs.Math.Option.{Option, none, some}
use Rattle.words.specs.Logic.{pick}
use Rattle.words.specs.Edition.{Edition}
use Rattle.tiling.specs.Tiling.{used, free, end_of}
use Rattle.tries.specs.Tree.{leaf}
use Rattle.tries.specs.Search.{Cand, walk, down, start}
use Rattle.rules.specs.BinOf.{is_small, small_bin, bin_size, trie_bin, trie_bits, huge}
use Rattle.rules.specs.Heap.{Heap, holds_some, grows_some, heap_dv, heap_chunks, heap_tiles}
use Rattle.rules.specs.Binning.{size_at, retile, bin, unbin, dv_words, replace_dv}

-- a grant: the chunk's place and the heap after it; a refusal, 6, is none
pub record Grant : Type 0 where
  pub place : ℕ
  pub heap : Heap

abbrev pub grant : ℕ → Heap → Grant
grant p h = record { place = p; heap = h }

-- ---- from a free chunk

-- "A remainder of 32 or more becomes `dv` .."; of a large need "its remainder is binned"
pub data Rest : Type 0 where
  to_dv to_bin : Rest

abbrev pub settle : Edition → Rest → Heap → ℕ → ℕ → Heap
settle e to_dv h p s = replace_dv e h p
settle e to_bin h p s = bin e h p s

-- from the chunk of s words at p, which is in no bin: ".. less stays with the block"
abbrev pub serve : Edition → Rest → Heap → ℕ → ℕ → ℕ → Grant
serve e k h p s nb =
    pick (leb 4 (s - nb))
    (grant p (settle e k (heap_chunks h (retile 0 h.chunks p (used nb ∷ free (s - nb) ∷ []))) (p + nb) (s - nb)))
    (grant p (heap_chunks h (retile 0 h.chunks p (used s ∷ []))))

-- a binned chunk leaves its bin first, the spare chunk its place
abbrev pub from_bin : Edition → Rest → Heap → ℕ → ℕ → ℕ → Grant
from_bin e k h p s nb = serve e k (unbin e h p s) p s nb

abbrev pub from_dv : Edition → Heap → ℕ → ℕ → Grant
from_dv e h d nb = serve e to_dv (heap_dv h none) d (size_at 0 h.chunks d) nb

-- ---- "Then `dv` if nb <= dvsize. Then the top if nb < topsize. Else 6."

abbrev pub from_top : Heap → ℕ → Option Grant
from_top h nb = pick (ltb nb h.top) (some (grant (end_of 0 h.chunks) (heap_tiles h (h.chunks ++ (used nb ∷ [])) (h.top - nb)))) none

abbrev pub from_spare_or_top : Edition → Heap → Option ℕ → ℕ → Option Grant
from_spare_or_top e h none nb = from_top h nb
from_spare_or_top e h (some d) nb = pick (leb nb (size_at 0 h.chunks d)) (some (from_dv e h d nb)) (from_top h nb)

abbrev pub from_dv_or_top : Edition → Heap → ℕ → Option Grant
from_dv_or_top e h nb = from_spare_or_top e h h.dv nb

-- ---- "smallest fitting tree chunk"

-- the first bin from i on that holds something; j counts the bins passed
abbrev pub first_filled : {A : Type 0} → (A → Bool) → ℕ → ℕ → List A → ℕ
first_filled fills i j [] = j
first_filled fills i j (b ∷ bs) = pick (leb i j) (pick (fills b) j (first_filled fills i (suc j) bs)) (first_filled fills i (suc j) bs)

-- the smallest of the first filled trie from bin i on; a find of size `huge` is none
abbrev pub best_from : Heap → ℕ → ℕ → Cand
best_from h i nb = down nb (get_or h.tries (first_filled grows_some i 0 h.tries) leaf) (start 0 huge)

-- `tmalloc_large`: in the bin of the need, else in the next fuller bin
abbrev pub best_large : Edition → Heap → ℕ → Cand
best_large e h nb =
    let c = walk (trie_bits e (trie_bin e nb)) nb (get_or h.tries (trie_bin e nb) leaf) leaf (start 0 huge) in
    pick (ltb c.size huge) c (best_from h (suc (trie_bin e nb)) nb)

-- ---- "Small need: its own bin; else if nb <= dvsize, `dv`; else the next fuller small bin; else `tmalloc_small`"

abbrev pub from_trie : Edition → Heap → Cand → ℕ → Option Grant
from_trie e h c nb = pick (ltb c.size huge) (some (from_bin e to_dv h c.at c.size nb)) (from_top h nb)

-- j is the next fuller small bin, and the list what it holds
abbrev pub from_fuller : Edition → Heap → ℕ → List ℕ → ℕ → Option Grant
from_fuller e h j (x ∷ xs) nb = some (from_bin e to_dv h x (bin_size e j) nb)
from_fuller e h j [] nb = from_trie e h (best_from h 0 nb) nb

abbrev pub fuller : Edition → Heap → ℕ → Option Grant
fuller e h nb = let j = first_filled holds_some (small_bin e nb) 0 h.small in from_fuller e h j (get_or h.small j []) nb

-- the need's own small bin, or the next one up, whose chunks are not large enough to be cut (with words of 8 bytes it is always empty)
abbrev pub own_or_next : List (List ℕ) → ℕ → ℕ
own_or_next bins i = pick (holds_some (get_or bins i [])) i (suc i)

-- j is that bin, and the list what it holds
abbrev pub from_own : Edition → Heap → ℕ → List ℕ → ℕ → Option Grant
from_own e h j (x ∷ xs) nb = some (from_bin e to_dv h x (bin_size e j) nb)
from_own e h j [] nb = pick (leb nb (dv_words h)) (from_dv_or_top e h nb) (fuller e h nb)

abbrev pub malloc_small : Edition → Heap → ℕ → Option Grant
malloc_small e h nb = let j = own_or_next h.small (small_bin e nb) in from_own e h j (get_or h.small j []) nb

-- ---- "Large need: `tmalloc_large`, smallest fitting tree chunk, unless `dv` fits as well or better; its remainder is binned"

abbrev pub malloc_find : Edition → Heap → Cand → ℕ → Option Grant
malloc_find e h c nb =
    let g = some (from_bin e to_bin h c.at c.size nb) in
    pick (ltb c.size huge) (pick (leb nb (dv_words h)) (pick (ltb c.size (dv_words h)) g (from_dv_or_top e h nb)) g) (from_dv_or_top e h nb)

abbrev pub malloc_large : Edition → Heap → ℕ → Option Grant
malloc_large e h nb = malloc_find e h (best_large e h nb) nb

abbrev pub malloc : Edition → Heap → ℕ → Option Grant
malloc e h nb = pick (is_small e nb) (malloc_small e h nb) (malloc_large e h nb)
