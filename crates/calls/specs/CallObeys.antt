-- EVERY CALL DOES WHAT THE RULES SAY: where image and words hold a heap, a call answers what the rule answers on that heap, and image and words then
-- hold the rule's heap; the number of words stays. By the theorem of each function of the core, and exact liveness. Assumes nothing.
use Rattle.std.specs.Prelude.{◌≡◌, List, [], ◌∷◌, ℕ, ◌*◌, ◌≤◌, length}
use Rattle.words.specs.Edition.{Edition, enc}
use Rattle.rules.specs.Calls.{Outcome}
use Rattle.chunk.specs.Held.{Held}
use Rattle.calls.specs.CallBytes.{Told, Still}

-- what was told of r and w is the rule's outcome; a refusal or a look leaves both as they were
pub record Follows (e : Edition) (r w : List ℕ) (t : Told) (o : Outcome) : Type 0 where
  pub answer : t.answer ≡ o.answer
  pub held : Held e t.image t.words o.heap []
  pub count : length t.words ≡ length w
  pub left : Still t.answer → (t.image ≡ r) × (t.words ≡ w)

-- an alignment of the list, in words: even, from 4 to 1,024
abbrev pub Good : Edition → ℕ → Type 0
Good e x = (m : ℕ) × (x ≡ enc e (2 * m)) × (2 ≤ m) × (m ≤ 512)

abbrev pub All : (ℕ → Type 0) → List ℕ → Type 0
All P [] = Unit {0}
All P (y ∷ ys) = P y × All P ys
