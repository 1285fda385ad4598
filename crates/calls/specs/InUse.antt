-- WHICH BLOCKS ARE IN USE, over whole histories: exactly those that were granted and not since given back or moved, as the answers alone tell. By what
-- each rule does to the blocks (`Blocks` of `rules`). Assumes nothing.
use Rattle.std.specs.Prelude.{◌≡◌, List, [], ◌∷◌, ◌⊎◌, ℕ}
use Rattle.rules.specs.Calls.{Call, Malloc, Free, Realloc, Memalign, Usable, Answer, granted, done, bytes, refused}
use Rattle.calls.specs.Histories.{Event, asks, writes, rebuilds}

-- the block that a call, where it is not refused, gives back or moves
abbrev pub Gone : Call → ℕ → Type 0
Gone (Malloc n) off = ⊥
Gone (Free b) off = off ≡ b
Gone (Realloc b n) off = off ≡ b
Gone (Memalign al n) off = ⊥
Gone (Usable b) off = ⊥

-- the blocks after a call that got this answer, where P were the blocks before
abbrev pub Next : (ℕ → Type 0) → Call → Answer → ℕ → Type 0
Next P c (granted b) off = (P off × (Gone c off → ⊥)) ⊎ (off ≡ b)
Next P c done off = P off × (Gone c off → ⊥)
Next P c (bytes n) off = P off
Next P c (refused why) off = P off

-- after all events, by their answers
abbrev pub Ledger : (ℕ → Type 0) → List Event → List Answer → ℕ → Type 0
Ledger P [] told off = P off
Ledger P (asks c ∷ es) [] off = P off
Ledger P (asks c ∷ es) (a ∷ told) off = Ledger (Next P c a) es told off
Ledger P (writes b k v ∷ es) told off = Ledger P es told off
Ledger P (rebuilds ∷ es) [] off = P off
Ledger P (rebuilds ∷ es) (a ∷ told) off = Ledger P es told off
