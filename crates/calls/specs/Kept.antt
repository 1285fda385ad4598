-- A BLOCK THAT IS NOT GIVEN BACK OR MOVED, over whole histories: it stays where it is, with its size, and each of its words that its owner
-- does not write
-- stays too. By `call_leaves` at each call that does not name it; one that names it and is refused changes nothing; an owner's write in
-- another
-- block lies outside this one, since chunks of one list lie apart. Assumes nothing.
use Rattle.std.specs.Prelude.{◌≡◌, List, [], ◌∷◌, ℕ, ◌+◌, ◌≤◌, length, get_or}
use Rattle.words.specs.Edition.{Edition}
use Rattle.tiling.specs.Tiling.{used, Starts}
use Rattle.tiling.specs.Spares.{Spares}
use Rattle.rules.specs.Heap.{Heap}
use Rattle.rules.specs.Calls.{Outcome, block_of}
use Rattle.calls.specs.Histories.{Box, box, Event, asks, writes, rebuilds, write_b, asked, remade_box, after, heap_after}
use Rattle.calls.specs.CallBytes.{refusal}
use Rattle.calls.specs.ByValue.{call_a}
use Rattle.calls.specs.Owners.{Names}

-- no call that names the block of the chunk at x is granted or done
abbrev pub Unmoved : Edition → Box → List Event → ℕ → Type 0
Unmoved e s [] x = Unit {0}
Unmoved e s (asks c ∷ es) x = (Names e c x → refusal (call_a e s.control s.words c).answer ≡ 0 → ⊥) × Unmoved e (asked e s c) es x
Unmoved e s (writes off k v ∷ es) x = Unmoved e (box s.control (write_b e s off k v)) es x
Unmoved e s (rebuilds ∷ es) x = Unmoved e (remade_box e s) es x

-- no write of its owner is to word i of that block
abbrev pub Unwritten : Edition → List Event → ℕ → ℕ → Type 0
Unwritten e [] x i = Unit {0}
Unwritten e (asks c ∷ es) x i = Unwritten e es x i
Unwritten e (writes off k v ∷ es) x i = (off ≡ block_of e x → k ≡ i → ⊥) × Unwritten e es x i
Unwritten e (rebuilds ∷ es) x i = Unwritten e es x i

-- what a call leaves of the block
pub record LeftIn (x z : ℕ) (w v : List ℕ) (o : Outcome) : Type 0 where
  pub stays : Starts 0 o.heap.chunks x (used z)
  pub words : Spares x z w v

pub record Kept (e : Edition) (s : Box) (h : Heap) (x z : ℕ) (es : List Event) : Type 0 where
  pub stays : Starts 0 (heap_after e (length s.words) h es).chunks x (used z)
  pub word : (i : ℕ) → x + 2 + i ≤ x + z → Unwritten e es x i → get_or (after e s es).words (x + 2 + i) 0 ≡ get_or s.words (x + 2 + i) 0
