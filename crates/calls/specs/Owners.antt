-- OWNERS KEEP WHAT IS THEIRS: a call leaves every block in use where it is, with its size and every one of its owner's words, but for the block that it
-- is asked to free or to resize; and so does any history that names the block in no free, no resize and no write. A block that is resized has
-- its old words as far as both sizes reach (`resize_keeps`). By the frame law of each function of the core. Assumes nothing.
use Rattle.std.specs.Prelude.{◌≡◌, List, ℕ}
use Rattle.words.specs.Edition.{Edition}
use Rattle.tiling.specs.Tiling.{used, Starts}
use Rattle.tiling.specs.Spares.{Spares}
use Rattle.rules.specs.Calls.{Call, Malloc, Free, Realloc, Memalign, Usable, Outcome, block_of}
use Rattle.calls.specs.CallBytes.{Told}

-- the call is asked to free or to resize the block of the chunk at x
abbrev pub Names : Edition → Call → ℕ → Type 0
Names e (Malloc n) x = ⊥
Names e (Free off) x = off ≡ block_of e x
Names e (Realloc off n) x = off ≡ block_of e x
Names e (Memalign al n) x = ⊥
Names e (Usable off) x = ⊥

-- the block of s words at x is there after it, with its owner's words
pub record Left (x s : ℕ) (w : List ℕ) (t : Told) (o : Outcome) : Type 0 where
  pub stays : Starts 0 o.heap.chunks x (used s)
  pub words : Spares x s w t.words
