-- WHAT A TRY LEAVES on a heap at work: whether the place served, the image and the words. Assumes nothing.
use Rattle.std.specs.Prelude.{◌≡◌, Bool}
use Rattle.chunk.specs.Running.{SameLoans}
use Rattle.chunk.specs.declared.heap.Heap.{Heap}
use Rattle.realloc.specs.ReallocBytes.{Tried, tried}

abbrev pub Tries : Heap → Heap → Bool → Tried → Type 0
Tries before after here told = (tried here after.image.now after.words.now ≡ told) × SameLoans before after
