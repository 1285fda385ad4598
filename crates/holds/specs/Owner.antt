-- An owner's words: whatever stands in words 2 up to and including word 0 of the next chunk of a block in use, the record and the words say
-- the same heap. (So a copy into a block, and what an owner writes, change no answer.) Assumes nothing.
use Rattle.std.specs.Prelude.{◌≡◌, List, ◌⊎◌, ℕ, ◌+◌, ◌≤◌, ◌<◌, length, get_or}
use Rattle.std.proofs.Common.{inl, inr, ⊎_elim}
use Rattle.words.specs.Edition.{Edition}
use Rattle.words.specs.Logic.{le_or_lt}
use Rattle.tiling.specs.Tiling.{used, Starts}
use Rattle.rules.specs.Heap.{Heap}
use Rattle.holds.specs.Holds.{Control, Near}
use Rattle.holds.specs.Governed.{governed_frame, owner_apart}

-- v differs from w at most in the words of the block in use at q, of s words
abbrev pub OnlyOwned : List ℕ → List ℕ → ℕ → ℕ → Type 0
OnlyOwned w v q s = (length v ≡ length w) × ((i : ℕ) → (i < q + 2) ⊎ (q + s < i) → get_or v i 0 ≡ get_or w i 0)

pub owner_writes : (e : Edition) (r : Control) (w v : List ℕ) (h : Heap) (loose : List ℕ) (q s : ℕ) → Near e r w h loose → Starts 0 h.chunks q (used s) → OnlyOwned w v q s → Near e r v h loose
owner_writes e r w v h loose q s n st o = governed_frame e r w h loose n v o.0 (λ i g. o.1 i (outside i (λ lo hi. owner_apart e r w h loose n q s st i lo hi g)))
  where
    outside : (i : ℕ) → (q + 2 ≤ i → i ≤ q + s → ⊥) → (i < q + 2) ⊎ (q + s < i)
    outside i f = ⊎_elim (λ a. ⊎_elim (λ b. absurd (f a b)) (λ b. inr b) (le_or_lt i (q + s))) (λ a. inl a) (le_or_lt (q + 2) i)
