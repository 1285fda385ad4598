-- A HEAP AT WORK AND ITS LIVE BLOCKS, as the state that the calls of a list go through. Assumes nothing.
use Rattle.std.specs.Prelude.{List, ℕ}
use Rattle.chunk.specs.declared.heap.Heap.{Heap}
use Rattle.batch.specs.BatchBytes.{Kept, kept}

abbrev pub state : Heap → List ℕ → Kept
state h live = kept h.image.now h.words.now live
