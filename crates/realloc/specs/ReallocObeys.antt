-- A RESIZE IN PLACE OBEYS ITS RULE: where image and words hold a heap and a block in use stands at p, trying its own place does what
-- `resize_here` says, and where that says no, nothing has changed. Assumes nothing.
use Rattle.std.specs.Prelude.{◌≡◌, false, ℕ}
use Rattle.std.proofs.Math.Bool.{true}
use mathlib.Core.List.{List, []}
use Rattle.std.proofs.Math.Option.{Option, none, some}
use Rattle.words.specs.Edition.{Edition}
use Rattle.rules.specs.Heap.{Heap}
use Rattle.chunk.specs.Held.{Held}
use Rattle.realloc.specs.ReallocBytes.{Tried, tried}

abbrev pub Agrees : Edition → List ℕ → List ℕ → Tried → Option Heap → Type 0
Agrees e r w t none = t ≡ tried false r w
Agrees e r w t (some h) = (t.here ≡ true) × Held e t.image t.words h []
