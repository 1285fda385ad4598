-- WHAT MEMALIGN REACHES: every word that is governed in none of the heaps that the call passes through is as it was. These are the heap before,
-- malloc's heap for the sum, the heap without the lead, and the heap without the tail. A part that is cut off has a head of its own, and that
-- is governed in the next of them. Assumes nothing.
use Rattle.std.specs.Prelude.{ℕ, ◌+◌}
use mathlib.Core.List.{List, [], ◌∷◌}
use Rattle.std.proofs.Math.Option.{Option, none, some}
use Rattle.words.specs.Edition.{Edition}
use Rattle.rules.specs.Heap.{Heap}
use Rattle.rules.specs.Binning.{size_at}
use Rattle.rules.specs.Malloc.{Grant, malloc}
use Rattle.rules.specs.Memalign.{lead_to, give_lead, trimmed}

abbrev pub aligned_via : Edition → Option Grant → ℕ → ℕ → List Heap
aligned_via e none al nb = []
aligned_via e (some g) al nb =
    let p = g.place in
    let s = size_at 0 g.heap.chunks p in
    g.heap ∷ give_lead e g.heap p s (lead_to p al) ∷ (trimmed e g.heap p s (lead_to p al) nb).heap ∷ []

abbrev pub memalign_via : Edition → Heap → ℕ → ℕ → List Heap
memalign_via e h al nb = h ∷ aligned_via e (malloc e h (nb + al + 4)) al nb
