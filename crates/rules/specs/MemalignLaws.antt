-- MEMALIGN'S GRANT: malloc's block for nb + al + 4 words, its lead given back, then its tail: three grants, each in the place of the one before.
-- The lead is even, none or more than 4 words, and at most al + 4, so what is left holds the need; the place behind it is aligned. What is
-- granted has nb words, or up to 4 more. Assumes nothing.
use Rattle.std.specs.Prelude.{◌≡◌, ℕ, ◌+◌, ◌*◌, ◌≤◌, ◌<◌, ◌%◌}
use Rattle.std.proofs.Math.Option.{Option, none, some}
use Rattle.rules.specs.Heap.{Heap}
use Rattle.rules.specs.Malloc.{Grant}
use Rattle.rules.specs.Blocks.{Granted}

-- of p, for the alignment al: how long it is, and where it leads
pub record Lead (p al k : ℕ) : Type 0 where
  pub even : k % 2 ≡ 0
  pub most : k ≤ al + 4
  pub more : (k ≡ 0 → ⊥) → 4 < k
  pub times : ℕ
  pub aligned : p + k + 2 ≡ times * al

-- an answer: a refusal, or a grant whose block, two words behind the chunk, starts at a multiple of al
abbrev pub GrantsAligned : Heap → ℕ → ℕ → Option Grant → Type 0
GrantsAligned h al nb none = Unit {0}
GrantsAligned h al nb (some g) = Granted h g.heap g.place nb (nb + 5) (λ x. ⊥) × ((k : ℕ) × (g.place + 2 ≡ k * al))
