-- ONE RECORD DOES WHAT THE DEFINITION SAYS: where the words stand for the work, a record's line is the definition's, and the words then
-- stand for its work. By `call_obeys`, the check that is exact, and what a set-up holds. Assumes nothing.
use Rattle.std.specs.Prelude.{◌≡◌, ℕ, ◌≤◌, List, [], length, take}
use Rattle.words.specs.Edition.{wide}
use Rattle.rules.specs.Heap.{Heap}
use Rattle.chunk.specs.Held.{Held}
use Rattle.player.specs.Replayed.{Work, idle, busy, Line}
use Rattle.player.specs.PlayBytes.{Scene}

-- the arena at work is the buffer's first n words, and with its record they hold the heap
pub record AtWork (n : ℕ) (h : Heap) (words : ℕ) (r v : List ℕ) : Type 0 where
  pub count : words ≡ n
  pub room : n ≤ length v
  pub held : Held wide r (take n v) h []

abbrev pub Stands : Work → ℕ → List ℕ → List ℕ → Type 0
Stands idle words r v = words ≡ 0
Stands (busy n h) words r v = AtWork n h words r v

-- a record's play is the definition's line; the buffer keeps its length
pub record Plays (l : Line) (v : List ℕ) (t : Scene) : Type 0 where
  pub refusal : t.played.refusal ≡ l.refusal
  pub offset : t.played.offset ≡ l.offset
  pub stands : Stands l.work t.played.words t.image t.buffer
  pub long : length t.buffer ≡ length v
