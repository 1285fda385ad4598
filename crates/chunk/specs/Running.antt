-- A HEAP AT WORK: what a step leaves in the record's image and in the arena's words that were lent to it. Assumes nothing.
use Rattle.std.specs.Prelude.{◌≡◌, List, ℕ}
use Rattle.chunk.specs.Bytes.{Store}
use Rattle.chunk.specs.declared.heap.Heap.{Heap}

-- the same two are lent
abbrev pub SameLoans : Heap → Heap → Type 0
SameLoans before after = (after.image.ghost_name ≡ before.image.ghost_name) × (after.words.ghost_name ≡ before.words.ghost_name)

-- the image and the words are what the step says
abbrev pub Becomes : Heap → Heap → Store → Type 0
Becomes before after step = (after.image.now ≡ step.image) × (after.words.now ≡ step.words) × SameLoans before after

-- the words are these, the image is what it was
abbrev pub Writes : Heap → Heap → List ℕ → Type 0
Writes before after w = (after.image.now ≡ before.image.now) × (after.words.now ≡ w) × SameLoans before after

-- the image is this, the words are what they were
abbrev pub Notes : Heap → Heap → List ℕ → Type 0
Notes before after r = (after.image.now ≡ r) × (after.words.now ≡ before.words.now) × SameLoans before after
