-- A table of worked examples, held to the function that it is about: `right f table` computes, so that `right f table ≡ true` is proved by
-- `refl`, and a wrong entry is refused. In terms of pairs of numbers, an input and the value there, and of any function f on numbers.
-- Assumes nothing.
use Rattle.std.specs.Prelude.{ℕ, Bool, true, false, List, [], ◌∷◌, ◌==◌}
use Rattle.words.specs.Logic.{pick}

-- each entry (x, y) has f x = y
unfoldable pub right : (ℕ → ℕ) → List (ℕ × ℕ) → Bool
right f [] = true
right f (e ∷ es) = pick (f e.0 == e.1) (right f es) false
