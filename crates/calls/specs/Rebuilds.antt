-- THE REBUILD BY VALUE: refused it hands back set-up's empty record and the words as given; on words of an arena that is sound under some
-- record it is granted, the new record holds the rules' heap, blocks stay where they are and keep their owners' words. By `RebuildLaws`
-- (`rebuild`). Both editions. Assumes nothing.
use Rattle.std.specs.Prelude.{◌≡◌, List, ℕ, length}
use Rattle.words.specs.Edition.{Edition}
use Rattle.tiling.specs.Tiling.{Chunk, used, Starts}
use Rattle.tiling.specs.Spares.{Spares}
use Rattle.rules.specs.Heap.{Heap}
use Rattle.rules.specs.Calls.{done}
use Rattle.holds.specs.Holds.{Holds}
use Rattle.chunk.specs.ChunkReach.{Same}
use Rattle.rebuild.specs.Rebuilding.{rebuilt_heap}
use Rattle.rebuild.specs.RebuildLaws.{BinWord}
use Rattle.calls.specs.ByValue.{Ends}

-- the heap with the same chunks, its bins made anew
abbrev pub remade : Edition → Heap → Heap
remade e h = rebuilt_heap e h.chunks h.top

-- on words that tell the chunks cs and a top of ts words
pub record Remakes (e : Edition) (w : List ℕ) (cs : List Chunk) (ts : ℕ) (t : Ends) : Type 0 where
  pub answer : t.answer ≡ done
  pub held : Holds e t.control t.words (rebuilt_heap e cs ts)
  pub chunks : (rebuilt_heap e cs ts).chunks ≡ cs
  pub count : length t.words ≡ length w
  pub reach : (i : ℕ) → (BinWord e cs i → ⊥) → Same i w t.words
  pub keeps : (q s : ℕ) → Starts 0 cs q (used s) → Spares q s w t.words
