-- A CALL PASSED ON: what a closure over the record's words and the arena has to do to be one of the calls. Assumes nothing.
use Rattle.std.specs.Prelude.{◌≡◌, List, ℕ, Result}
use Rattle.std.specs.Borrow.{MutBor}
use Rattle.std.specs.Fn.{Once}
use Rattle.words.specs.Edition.{wide}
use Rattle.rules.specs.Calls.{Call, Answer}
use Rattle.holds.specs.Holds.{Control}
use Rattle.calls.specs.CallBytes.{told, call_b}
use Rattle.calls.specs.Record.{numbers_of}
use Rattle.calls.specs.ByValue.{handed_back}
use Rattle.arena.specs.declared.answers.Reason.{Reason}
use Rattle.arena.specs.Answers.{answer_in}

-- whatever the record and the arena are, the closure f tells and leaves what `call_b` says of k
abbrev pub Makes : {T F : Type 0} → (T → Answer)
    → Once F (MutBor (List ℕ) × (MutBor (List ℕ) × Unit {0})) (Result T Reason × (MutBor (List ℕ) × (MutBor (List ℕ) × Unit {0}))) → F → Call → Type 0
Makes {T} says g f k =
    (r w r' w' : MutBor (List ℕ)) (a : Result T Reason) → g.post f (r, (w, tt)) (a, (r', (w', tt)))
    → told (answer_in says a) r'.now w'.now ≡ call_b wide r.now w.now k

-- after such a grant the caller has the record that the core left
abbrev pub HandsOver : {T : Type 0} → (T → Answer) → Type 0
HandsOver {T} says = (x : T) (c : Control) (r : List ℕ) → handed_back (says x) c r ≡ numbers_of r
