-- WHAT REALLOC REACHES: every word that is governed in none of the heaps that the call passes through, and that a move does not copy into, is as
-- it was. In place these are the heap before and the heap after; a move passes through malloc's heap, copies the old chunk's words into the
-- new block, and gives the old one back. Assumes nothing.
use Rattle.std.specs.Prelude.{◌≡◌, List, [], ◌∷◌, ℕ, ◌+◌, ◌≤◌}
use Rattle.std.proofs.Math.Option.{Option, none, some}
use Rattle.words.specs.Edition.{Edition}
use Rattle.rules.specs.Heap.{Heap}
use Rattle.rules.specs.Malloc.{Grant, malloc}
use Rattle.rules.specs.Free.{Found, find, give_back}
use Rattle.rules.specs.Realloc.{resize_here, front}

abbrev pub moved_via : Edition → Option Grant → ℕ → List Heap
moved_via e none p = []
moved_via e (some g) p = g.heap ∷ give_back e g.heap p ∷ []

abbrev pub here_via : Edition → Heap → Option Heap → ℕ → ℕ → List Heap
here_via e h (some k) p nb = k ∷ []
here_via e h none p nb = moved_via e (malloc e h nb) p

abbrev pub found_via : Edition → Heap → Option Found → ℕ → ℕ → List Heap
found_via e h none p nb = []
found_via e h (some f) p nb = here_via e h (resize_here e h (front f) p f.words nb f.after) p nb

abbrev pub realloc_via : Edition → Heap → ℕ → ℕ → List Heap
realloc_via e h p nb = h ∷ found_via e h (find 0 h.chunks p) p nb

-- "A move copies exactly the old chunk's size - 8 bytes": where the answer is another place, t - 1 words from its block on
abbrev pub CopiedTo : Option Grant → ℕ → ℕ → ℕ → Type 0
CopiedTo none p t i = ⊥
CopiedTo (some g) p t i = (g.place ≡ p → ⊥) × (g.place + 2 ≤ i) × (i ≤ g.place + t)
