-- REALLOC: its own place first, by shrinking, or by growing into the top or into the free chunk after it; else it moves, malloc then free. What
-- it grants has nb words, or less than 4 more, the old block is gone, every other one stays, the heap stays tidy and the total stays. Refusal 6
-- exactly when its own place does not hold the need and malloc refuses. Each way to grow is one retiling step. Assumes nothing.
use Rattle.std.specs.Prelude.{◌≡◌, ℕ, ◌+◌}
use Rattle.std.proofs.Math.Option.{Option, none, some}
use Rattle.rules.specs.Heap.{Heap}
use Rattle.rules.specs.Blocks.{Granted}

-- in place: no room, or a grant there
abbrev pub GrantsHere : Heap → ℕ → ℕ → Option Heap → Type 0
GrantsHere h p nb none = Unit {0}
GrantsHere h p nb (some k) = Granted h k p nb (nb + 4) (λ x. x ≡ p)
