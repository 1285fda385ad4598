-- Free chunks and where they are kept: looking a chunk up by its place, the bins (document 01, port order 3 and 4), and the spare chunk.
-- Small bins are last in, first out; the rings of the tries are first in, first out (`insert`, `unlink` in `tries`). Assumes nothing.
use Rattle.std.specs.Prelude.{Bool, false, List, [], ◌∷◌, ◌++◌, ℕ, ◌+◌, eqb, get_or, set}
use Rattle.std.proofs.Math.Option.{Option, none, some}
use Rattle.words.specs.Logic.{pick}
use Rattle.words.specs.Edition.{Edition}
use Rattle.words.specs.Places.{remove}
use Rattle.tiling.specs.Tiling.{Chunk, size}
use Rattle.tries.specs.Tree.{leaf, insert, unlink}
use Rattle.rules.specs.BinOf.{is_small, small_bin, trie_bin, trie_bits}
use Rattle.rules.specs.Heap.{Heap, heap_small, heap_tries, heap_dv}

-- ---- chunks by their place; the list starts at a

abbrev pub size_at : ℕ → List Chunk → ℕ → ℕ
size_at a [] p = 0
size_at a (c ∷ cs) p = pick (eqb p a) (size c) (size_at (a + size c) cs p)

-- the chunk at p gives way to others of the same total
abbrev pub retile : ℕ → List Chunk → ℕ → List Chunk → List Chunk
retile a [] p new = []
retile a (c ∷ cs) p new = pick (eqb p a) (new ++ cs) (c ∷ retile (a + size c) cs p new)

-- ---- the bins: "the small bin size/8, or the tree of its index"

-- `insert_chunk`: the free chunk q of s words goes into its bin
abbrev pub bin : Edition → Heap → ℕ → ℕ → Heap
bin e h q s =
    pick (is_small e s)
    (heap_small h (set h.small (small_bin e s) (q ∷ get_or h.small (small_bin e s) [])))
    (heap_tries h (set h.tries (trie_bin e s) (insert q s (trie_bits e (trie_bin e s)) (get_or h.tries (trie_bin e s) leaf))))

-- `unlink_chunk`: the free chunk c of s words leaves its bin
abbrev pub unbin : Edition → Heap → ℕ → ℕ → Heap
unbin e h c s =
    pick (is_small e s)
    (heap_small h (set h.small (small_bin e s) (remove c (get_or h.small (small_bin e s) []))))
    (heap_tries h (set h.tries (trie_bin e s) (unlink c (get_or h.tries (trie_bin e s) leaf))))

-- ---- the spare chunk

abbrev pub spare_words : List Chunk → Option ℕ → ℕ
spare_words cs none = 0
spare_words cs (some p) = size_at 0 cs p

abbrev pub dv_words : Heap → ℕ
dv_words h = spare_words h.chunks h.dv

abbrev pub is_place : Option ℕ → ℕ → Bool
is_place none p = false
is_place (some d) p = eqb d p

abbrev pub is_dv : Heap → ℕ → Bool
is_dv h p = is_place h.dv p

-- "`replace_dv` puts the old one in its small bin": p takes its place
abbrev pub replace_old : Edition → Heap → Option ℕ → ℕ → Heap
replace_old e h none p = heap_dv h (some p)
replace_old e h (some d) p = heap_dv (bin e (heap_dv h none) d (size_at 0 h.chunks d)) (some p)

abbrev pub replace_dv : Edition → Heap → ℕ → Heap
replace_dv e h p = replace_old e h h.dv p
