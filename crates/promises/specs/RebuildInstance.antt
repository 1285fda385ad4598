-- REQUEST (xiii) IN NUMBERS, on 128 words: document 01's state D loses its record, is rebuilt, serves, is rebuilt again, and all is given
-- back; in which order free chunks of one size then stand in their bin; and what is refused. Computed. Assumes nothing.
use Rattle.std.specs.Prelude.{◌≡◌, refl, List, [], ◌∷◌, ◌++◌, get_or}
use Rattle.words.specs.Edition.{wide}
use Rattle.index.specs.Sizes.{need_words, need, round_up}
use Rattle.index.specs.TreeBin.{tree_index, min_size}
use Rattle.rules.specs.BinOf.{huge}
use Rattle.rules.specs.Heap.{Heap, fresh_heap}
use Rattle.rules.specs.Calls.{Malloc, Free}
use Rattle.calls.specs.Histories.{Event, asks, rebuilds, heap_after}

abbrev pub heap : List Event → Heap
heap es = heap_after wide 128 (fresh_heap 128) es

abbrev pub small_ones : List Event
small_ones =
    asks (Malloc 24) ∷ asks (Malloc 24) ∷ asks (Malloc 24) ∷ asks (Malloc 24) ∷ asks (Malloc 24) ∷ asks (Malloc 24)
    ∷ asks (Free 144) ∷ asks (Free 80) ∷ asks (Free 16) ∷ []

abbrev pub small_again : List Event
small_again = small_ones ++ (rebuilds ∷ [])

pub newest_is_highest : (get_or (heap small_ones).small 4 [] ≡ 0 ∷ 8 ∷ 16 ∷ [])
    × (get_or (heap small_again).small 4 [] ≡ 16 ∷ 8 ∷ 0 ∷ [])
unfolding need_words need round_up tree_index min_size huge
newest_is_highest = (refl, refl)
