-- THE RULE OF MEMALIGN (document 01, port order 8): al is the alignment in words, of the block's offset. Assumes nothing.
use Rattle.std.specs.Prelude.{[], ◌∷◌, ℕ, ◌+◌, ◌-◌, ◌*◌, ◌/◌, ltb, eqb}
use Rattle.std.proofs.Math.Option.{Option, none, some}
use Rattle.words.specs.Logic.{pick}
use Rattle.words.specs.Edition.{Edition}
use Rattle.tiling.specs.Tiling.{used}
use Rattle.rules.specs.Heap.{Heap, heap_chunks}
use Rattle.rules.specs.Binning.{size_at, retile}
use Rattle.rules.specs.Malloc.{Grant, grant, malloc}
use Rattle.rules.specs.Free.{give_back}
use Rattle.rules.specs.Realloc.{shrink}

-- from the chunk at p to the next place whose block, two words behind it, is aligned
abbrev pub gap : ℕ → ℕ → ℕ
gap p al = (p + 2 + al - 1) / al * al - (p + 2)

-- "A lead of 32 or less moves on to the next aligned place"
abbrev pub lead_to : ℕ → ℕ → ℕ
lead_to p al = pick (eqb (gap p al) 0) 0 (pick (ltb 4 (gap p al)) (gap p al) (gap p al + al))

abbrev pub give_lead : Edition → Heap → ℕ → ℕ → ℕ → Heap
give_lead e h p s lead = pick (eqb lead 0) h (give_back e (heap_chunks h (retile 0 h.chunks p (used lead ∷ used (s - lead) ∷ []))) p)

-- "The tail goes back only if size > nb + 32"
abbrev pub give_tail : Edition → Heap → ℕ → ℕ → ℕ → Heap
give_tail e h p s nb = pick (ltb (nb + 4) s) (shrink e h p s nb) h

abbrev pub trimmed : Edition → Heap → ℕ → ℕ → ℕ → ℕ → Grant
trimmed e h p s lead nb = grant (p + lead) (give_tail e (give_lead e h p s lead) (p + lead) (s - lead) nb)

abbrev pub aligned : Edition → Option Grant → ℕ → ℕ → Option Grant
aligned e none al nb = none
aligned e (some g) al nb = some (trimmed e g.heap g.place (size_at 0 g.heap.chunks g.place) (lead_to g.place al) nb)

-- "Makes malloc's request for nb + alignment + 24 bytes": with the head and rounded, nb + al + 4 words
abbrev pub memalign : Edition → Heap → ℕ → ℕ → Option Grant
memalign e h al nb = aligned e (malloc e h (nb + al + 4)) al nb
