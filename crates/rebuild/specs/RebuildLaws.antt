-- THE REBUILD IS RIGHT: it is granted exactly when the heads, flags, free feet and the foot word tell a tiling, the first two points of
-- document 01's "Sound"; what it leaves is then held, with those chunks and no spare chunk, and passes the check; it wrote links of free
-- chunks only, so every owner's words are as they were. Refused, it hands back the empty record and the words as given. Both editions,
-- every arena. Assumes nothing.
use Rattle.std.specs.Prelude.{◌≡◌, true, ℕ, ◌+◌, ◌≤◌, length, replicate}
use mathlib.Core.List.{List, []}
use Rattle.words.specs.Logic.{pick}
use Rattle.words.specs.Edition.{Edition, no_link}
use Rattle.tiling.specs.Tiling.{Chunk, used, free, Heads, Starts}
use Rattle.rules.specs.BinOf.{is_small}
use Rattle.holds.specs.Holds.{Control}
use Rattle.holds.specs.Governed.{LinkOf}
use Rattle.chunk.specs.Held.{Held}
use Rattle.chunk.specs.ChunkReach.{Same}
use Rattle.sound.specs.SoundBytes.{sound_b}
use Rattle.rebuild.specs.RebuildBytes.{Rebuilt}
use Rattle.rebuild.specs.Rebuilding.{bare_heap, rebuilt_heap, Stays}

-- ---- the bare record

-- its numbers
unfoldable pub bare_control : Edition → ℕ → ℕ → ℕ → Control
bare_control e top ts len =
    record {
      small_map = 0;
      tree_map = 0;
      heads = replicate 32 (no_link e);
      roots = replicate 32 (no_link e);
      dv = no_link e;
      dv_size = 0;
      top = top;
      top_size = ts;
      length = len;
    }

-- "the first two points of Sound": the words tell chunks and a top
abbrev pub Tiling : Edition → List ℕ → Type 0
Tiling e w = (cs : List Chunk) × (ts : ℕ) × Heads e w cs ts

-- "words 2 and 3 of chunks in small bins, and words 2 to 7 of chunks in trees": every free chunk is in one of them
abbrev pub BinWord : Edition → List Chunk → ℕ → Type 0
BinWord e cs i = (x : ℕ) × (s : ℕ) × Starts 0 cs x (free s) × LinkOf (pick (is_small e s) 4 8) x i

-- what a granted rebuild leaves
pub record Rebuilds (e : Edition) (w : List ℕ) (cs : List Chunk) (ts : ℕ) (x : Rebuilt) : Type 0 where
  pub granted : x.refusal ≡ 0
  -- the record and the words hold the rule's heap, and pass the check
  pub held : Held e x.image x.words (rebuilt_heap e cs ts) []
  pub passes : sound_b e x.image x.words ≡ true
  pub stays : Stays (bare_heap cs ts) (rebuilt_heap e cs ts)
  -- no word but words 2 and 3 of a small free chunk, and 2 to 7 of a large one, was written
  pub count : length x.words ≡ length w
  pub reach : (i : ℕ) → (BinWord e cs i → ⊥) → Same i w x.words
  -- "live blocks keep place and words"
  pub owners : (q s : ℕ) → Starts 0 cs q (used s) → (i : ℕ) → q + 2 ≤ i → i ≤ q + s → Same i w x.words
