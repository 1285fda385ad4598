-- The abstract heap: what the record and the arena's words mean. Places and sizes are counted in words. Everything that a call may look at is
-- here, and nothing else: so answers are a function of the heap. Assumes nothing.
use Rattle.std.specs.Prelude.{Bool, true, false, List, [], ◌∷◌, ℕ, ◌-◌, replicate}
use Rattle.std.proofs.Math.Option.{Option, none}
use Rattle.tiling.specs.Tiling.{Chunk}
use Rattle.tries.specs.Tree.{Tree, leaf, node}

pub record Heap : Type 0 where
  pub chunks : List Chunk  -- from place 0 to the top, in address order
  pub top : ℕ  -- the top's size
  pub dv : Option ℕ  -- the spare chunk's place
  pub small : List (List ℕ)  -- 32 lists of places, the newest first
  pub tries : List Tree  -- 32 tries

-- set-up: "Set-up writes the top's head (length - 80 + 1 ..)": the foot reserve is 10 words, all else is the top
abbrev pub fresh_heap : ℕ → Heap
fresh_heap n = record { chunks = []; top = n - 10; dv = none; small = replicate 32 []; tries = replicate 32 leaf }

-- whether a bin holds something
abbrev pub holds_some : List ℕ → Bool
holds_some [] = false
holds_some (p ∷ ps) = true

abbrev pub grows_some : Tree → Bool
grows_some leaf = false
grows_some (node p ps s l r) = true

-- ---- a heap with some of it changed

abbrev pub heap_small : Heap → List (List ℕ) → Heap
heap_small h b = record { chunks = h.chunks; top = h.top; dv = h.dv; small = b; tries = h.tries }

abbrev pub heap_tries : Heap → List Tree → Heap
heap_tries h t = record { chunks = h.chunks; top = h.top; dv = h.dv; small = h.small; tries = t }

abbrev pub heap_dv : Heap → Option ℕ → Heap
heap_dv h d = record { chunks = h.chunks; top = h.top; dv = d; small = h.small; tries = h.tries }

abbrev pub heap_tiles : Heap → List Chunk → ℕ → Heap
heap_tiles h cs ts = record { chunks = cs; top = ts; dv = h.dv; small = h.small; tries = h.tries }

abbrev pub heap_chunks : Heap → List Chunk → Heap
heap_chunks h cs = heap_tiles h cs h.top
