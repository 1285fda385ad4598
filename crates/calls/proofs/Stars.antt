-- DOCUMENT 01'S ★ CASES, OF THE CODE: the table of `rules`, `Morning`, asked of the words level. The code's contracts are equations with it, for all inputs.
-- One statement, with no case by case: image and words that hold a heap get every line of every case right that the rules get right on that heap.
-- What stands between the calls (top, dv, free chunks) is looked up in the heap that they hold. Assumes nothing.
use Rattle.std.specs.Prelude.{◌≡◌, refl, true, List, [], ◌∷◌, ℕ, ◌%◌, ◌≤◌, length}
use Rattle.std.proofs.Common.{sym, ◌∙◌, ap, subst, arith, length-set}
use Rattle.words.specs.Edition.{Edition, wide}
use Rattle.rules.specs.Heap.{fresh_heap}
use Rattle.rules.specs.Calls.{Call, answer_to}
use Rattle.rules.specs.Morning.{Line, call, copying, refusing, top_is, dv_is, no_dv_lem, free_is, block_is, fresh_is, kind, value, same, runs, all_run, stars, morning}
use Rattle.tiling.specs.Steps.{fresh_words}
use Rattle.holds.specs.Holds.{fresh_control, Near}
use Rattle.holds.specs.Unique.{fresh_holds}
use Rattle.chunk.specs.Image.{decode}
use Rattle.chunk.specs.Held.{Held}
use Rattle.calls.specs.CallBytes.{core_call}
use Rattle.calls.specs.CallObeys.{Follows}
use Rattle.calls.proofs.CallObeys.{call_obeys}
use Rattle.calls.specs.Stars.{Box, all_run_b, answered, asked, fresh_box, fresh_image, runs_b}

-- ---- right of the words as of the rules

abbrev HeldBox : Box → Type 0
HeldBox b = Held wide b.image b.words b.heap []

module _ (b : Box) (n : HeldBox b) (c : Call) where
  f : Follows wide b.image b.words (core_call wide b.image b.words c) (answer_to wide (length b.words) b.heap c)
  f = call_obeys wide b.image b.words b.heap n c

  same_answer : (k v : ℕ) → answered b c k v ≡ same (answer_to wide (length b.words) b.heap c).answer k v
  same_answer k v = ap (λ a. same a k v) f.answer

pub runs-held : (b : Box) → HeldBox b → (ls : List Line) → runs_b b ls ≡ runs (length b.words) b.heap ls
runs-held b n [] = refl
runs-held b n (call c a ∷ ls) = rw (same_answer b n c (kind a) (value a), runs-held (asked b c) (f b n c).held ls, (f b n c).count) refl
runs-held b n (copying c a k ∷ ls) = rw (same_answer b n c (kind a) (value a), runs-held (asked b c) (f b n c).held ls, (f b n c).count) refl
runs-held b n (refusing c k ∷ ls) = rw (same_answer b n c 3 k, runs-held (asked b c) (f b n c).held ls, (f b n c).count) refl
runs-held b n (top_is p s ∷ ls) = rw (runs-held b n ls) refl
runs-held b n (dv_is p s ∷ ls) = rw (runs-held b n ls) refl
runs-held b n (no_dv_lem ∷ ls) = rw (runs-held b n ls) refl
runs-held b n (free_is p s ∷ ls) = rw (runs-held b n ls) refl
runs-held b n (block_is off s ∷ ls) = rw (runs-held b n ls) refl
runs-held b n (fresh_is ∷ ls) = rw (runs-held b n ls) refl

all_held : (b : Box) → HeldBox b → b.heap ≡ fresh_heap (length b.words) → (cs : List (List Line)) → all_run_b b cs ≡ all_run (length b.words) cs
all_held b n q [] = refl
all_held b n q (c ∷ cs) = rw (runs-held b n c, all_held b n q cs, q) refl

-- ---- set-up

pub fresh-image : (e : Edition) (n : ℕ) → decode (fresh_image e n) ≡ fresh_control e n
unfolding decode
fresh-image e n = refl

pub fresh-held : (e : Edition) (w : List ℕ) → length w % 2 ≡ 0 → 16 ≤ length w → length w ≤ 8192 → Held e (fresh_image e (length w)) (fresh_words e w) (fresh_heap (length w)) []
fresh-held e w v l k = record { image = refl; near = subst (λ z. Near e z (fresh_words e w) (fresh_heap (length w)) []) (sym (fresh-image e (length w))) (fresh_holds e w v l k) }

runs-fresh : (b : Box) → HeldBox b → length b.words ≡ 128 → b.heap ≡ fresh_heap 128 → (cs : List (List Line)) → all_run 128 cs ≡ true → all_run_b b cs ≡ true
runs-fresh b n l q cs m = all_held b n (q ∙ ap fresh_heap (sym l)) cs ∙ ap (λ k. all_run k cs) l ∙ m

-- on any 128 words, whatever they held before set-up
pub stars_of_the_words : (w : List ℕ) → length w ≡ 128 → all_run_b (fresh_box w) stars ≡ true
stars_of_the_words w q = runs-fresh (fresh_box w) (fresh-held wide w (omega arith) (omega arith) (omega arith)) (simp length-set q) (ap fresh_heap q) stars morning
