-- WHAT A CALL REACHES: every word that is governed in none of the heaps that the call passes through, and that no move copies into, is as it was.
-- Malloc and free pass from the heap before to the heap after; realloc and memalign are made of these. By what each function of the core
-- reaches; a refused call writes nothing. Assumes nothing.
use Rattle.std.specs.Prelude.{List, [], ◌∷◌, ℕ, ◌/◌}
use Rattle.std.proofs.Math.Option.{Option, none, some}
use Rattle.words.specs.Edition.{Edition, W}
use Rattle.index.specs.Sizes.{need_words}
use Rattle.rules.specs.Heap.{Heap}
use Rattle.rules.specs.Malloc.{Grant, malloc}
use Rattle.rules.specs.Free.{give_back}
use Rattle.rules.specs.Realloc.{realloc}
use Rattle.rules.specs.Calls.{Call, Malloc, Free, Realloc, Memalign, Usable, place_of, live_size}
use Rattle.malloc.specs.MallocReach.{left_by}
use Rattle.realloc.specs.ReallocReach.{realloc_via, CopiedTo}
use Rattle.memalign.specs.MemalignReach.{memalign_via}

-- the heaps that a call passes through
abbrev pub call_via : Edition → Heap → Call → List Heap
call_via e h (Malloc n) = h ∷ left_by h (malloc e h (need_words (W e) n)) ∷ []
call_via e h (Free off) = h ∷ give_back e h (place_of e off) ∷ []
call_via e h (Realloc off n) = realloc_via e h (place_of e off) (need_words (W e) n)
call_via e h (Memalign al n) = memalign_via e h (al / W e) (need_words (W e) n)
call_via e h (Usable off) = h ∷ []

-- the words that a move copies into, by the size of the block that moves
abbrev pub MovedInto : Option ℕ → Option Grant → ℕ → ℕ → Type 0
MovedInto none o p i = ⊥
MovedInto (some t) o p i = CopiedTo o p t i

abbrev pub Copies : Edition → Heap → Call → ℕ → Type 0
Copies e h (Malloc n) i = ⊥
Copies e h (Free off) i = ⊥
Copies e h (Realloc off n) i = MovedInto (live_size e 0 h.chunks off) (realloc e h (place_of e off) (need_words (W e) n)) (place_of e off) i
Copies e h (Memalign al n) i = ⊥
Copies e h (Usable off) i = ⊥
