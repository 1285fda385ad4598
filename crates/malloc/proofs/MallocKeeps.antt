-- MALLOC LEAVES THE OWNER'S WORDS of every block in use: the block stands in use before the call and after it, so its owner's words are governed in
-- neither heap, and malloc reaches no others. Assumes nothing.
use Rattle.std.specs.Prelude.{◌≡◌, List, [], ℕ, ◌+◌, ◌*◌, ◌%◌, ◌≤◌, ◌<◌}
use Rattle.std.proofs.Math.Option.{Option, none, some}
use Rattle.words.specs.Edition.{Edition, W, enc}
use Rattle.tiling.specs.Tiling.{used, Starts}
use Rattle.tiling.specs.Spares.{Spares}
use Rattle.rules.specs.BinOf.{huge}
use Rattle.rules.specs.Heap.{Heap}
use Rattle.rules.specs.Malloc.{Grant, malloc}
use Rattle.rules.specs.Blocks.{Grants}
use Rattle.rules.specs.MallocLaws.{malloc-grants}
use Rattle.holds.specs.Ops.{state}
use Rattle.holds.specs.Lookup.{heads_tidy}
use Rattle.holds.specs.MallocSource.{malloc_source}
use Rattle.holds.specs.Governed.{Governed, owner_apart}
use Rattle.chunk.specs.Image.{decode}
use Rattle.chunk.specs.Held.{Held}
use Rattle.malloc.specs.MallocBytes.{Reply, malloc_b}
use Rattle.malloc.specs.MallocObeys.{Obeys}
use Rattle.malloc.proofs.MallocFollows.{malloc_obeys}
use Rattle.malloc.specs.MallocReach.{left_by}
use Rattle.malloc.proofs.MallocReach.{malloc_reaches}

pub malloc_spares : (e : Edition) (r w : List ℕ) (h : Heap) → Held e r w h [] → (nb : ℕ) → nb % 2 ≡ 0 → 4 ≤ nb → W e * nb < huge → (x s : ℕ) → Starts 0 h.chunks x (used s) → Spares x s w (malloc_b e r w (enc e nb)).words
malloc_spares e r w h n nb v l hi x s sx i lo up =
    malloc_reaches e r w h n nb v l hi i before
    (after (malloc_b e r w (enc e nb)) (malloc e h nb) (malloc_obeys e r w h n nb v l hi) (malloc-grants e h nb (heads_tidy e w h n.near.heads) v l (malloc e h nb) (malloc_source e (state (decode r) w) h n.near nb v l hi)))
  where
    before : Governed h i → ⊥
    before = owner_apart e (decode r) w h [] n.near x s sx i lo up

    after : (a : Reply) (o : Option Grant) → Obeys e r w a o → Grants h nb (nb + 4) (λ y. ⊥) o → Governed (left_by h o) i → ⊥
    after a none f g = before
    after a (some k) f g = owner_apart e (decode a.image) a.words k.heap [] f.1.near x s (g.changes.kept x s sx (λ z. z)) i lo up
