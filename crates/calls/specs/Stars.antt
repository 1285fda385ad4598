-- DOCUMENT 01'S ★ CASES, OF THE CODE: the table of `rules`, `Morning`, asked of the words level. The code's contracts are equations with it, for all inputs.
-- One statement, with no case by case: image and words that hold a heap get every line of every case right that the rules get right on that heap.
-- What stands between the calls (top, dv, free chunks) is looked up in the heap that they hold. Assumes nothing.
use Rattle.std.specs.Prelude.{Bool, true, ◌&&◌, List, [], ◌∷◌, ℕ, ◌-◌, ◌*◌, eqb, length, replicate}
use Rattle.words.specs.Edition.{Edition, wide, W, no_link}
use Rattle.rules.specs.Heap.{Heap, fresh_heap}
use Rattle.rules.specs.Calls.{Call, answer_to}
use Rattle.rules.specs.Morning.{Line, call, copying, refusing, top_is, dv_is, no_dv_lem, free_is, block_is, fresh_is, kind, value, same, line}
use Rattle.tiling.specs.Steps.{fresh_words}
use Rattle.calls.specs.CallBytes.{core_call}

-- the record's image, the arena's words, and the heap that they hold
pub record Box : Type 0 where
  pub image : List ℕ
  pub words : List ℕ
  pub heap : Heap

abbrev pub asked : Box → Call → Box
asked b c =
    let t = core_call wide b.image b.words c in
    record { image = t.image; words = t.words; heap = (answer_to wide (length b.words) b.heap c).heap }

abbrev pub answered : Box → Call → ℕ → ℕ → Bool
answered b c k v = same (core_call wide b.image b.words c).answer k v

-- every line is right
abbrev pub runs_b : Box → List Line → Bool
runs_b b [] = true
runs_b b (call c a ∷ ls) = answered b c (kind a) (value a) && runs_b (asked b c) ls
runs_b b (copying c a k ∷ ls) = (answered b c (kind a) (value a) && eqb (answer_to wide (length b.words) b.heap c).copied k) && runs_b (asked b c) ls
runs_b b (refusing c k ∷ ls) = answered b c 3 k && runs_b (asked b c) ls
runs_b b (top_is p s ∷ ls) = (line (length b.words) b.heap (top_is p s)).right && runs_b b ls
runs_b b (dv_is p s ∷ ls) = (line (length b.words) b.heap (dv_is p s)).right && runs_b b ls
runs_b b (no_dv_lem ∷ ls) = (line (length b.words) b.heap no_dv_lem).right && runs_b b ls
runs_b b (free_is p s ∷ ls) = (line (length b.words) b.heap (free_is p s)).right && runs_b b ls
runs_b b (block_is off s ∷ ls) = (line (length b.words) b.heap (block_is off s)).right && runs_b b ls
runs_b b (fresh_is ∷ ls) = (line (length b.words) b.heap fresh_is).right && runs_b b ls

abbrev pub all_run_b : Box → List (List Line) → Bool
all_run_b b [] = true
all_run_b b (c ∷ cs) = runs_b b c && all_run_b b cs

-- the fresh record as 72 words
abbrev pub fresh_image : Edition → ℕ → List ℕ
fresh_image e n = 0 ∷ 0 ∷ no_link e ∷ 0 ∷ 0 ∷ W e * (n - 10) ∷ W e * n ∷ 0 ∷ replicate 64 (no_link e)

abbrev pub fresh_box : List ℕ → Box
fresh_box w = record { image = fresh_image wide (length w); words = fresh_words wide w; heap = fresh_heap (length w) }
