-- FREE OBEYS ITS RULE: where image and words hold a heap and a block in use stands at p, what `dispose_chunk` leaves holds the rule's heap.
-- The chunks to be merged stand between those before and those after; their free ones are loose; then one look forward decides. Assumes nothing.
use Rattle.std.specs.Prelude.{◌≡◌, Bool}
use Rattle.std.proofs.Math.Bool.{true}
use mathlib.Core.List.{List, ◌++◌}
use Rattle.std.proofs.Math.Option.{none}
use Prim.Native.Nat.{ℕ, ◌%◌, ◌≤◌}
use Rattle.words.specs.Edition.{Edition}
use Rattle.words.specs.Fields.{count_l}
use Rattle.tiling.specs.Tiling.{Chunk, end_of, last_use, total}
use Rattle.tiling.specs.Free.{free_at}
use Rattle.rules.specs.Heap.{Heap}
use Rattle.chunk.specs.Held.{Held}

-- the chunks ms, of k words, stand between xs and ys; their free ones are loose; what stands before is in use, and so is their last
pub record Ahead (e : Edition) (mine : Bool) (r w : List ℕ) (h : Heap) (l : List ℕ) (xs ms ys : List Chunk) (k : ℕ) : Type 0 where
  pub held : Held e r w h l
  pub whole : h.chunks ≡ xs ++ (ms ++ ys)
  pub before : last_use true xs ≡ true
  pub last : last_use true ms ≡ true
  pub sum : k ≡ total ms
  pub even : k % 2 ≡ 0
  pub least : 4 ≤ k
  pub covered : (x : ℕ) → count_l x l ≡ free_at (end_of 0 xs) ms x
  pub spare : mine ≡ true → h.dv ≡ none
