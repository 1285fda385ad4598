-- REFUSAL 6, EXACTLY: malloc finds no room exactly when every binned or spare chunk is smaller than the need and the top is not larger than it.
-- By where malloc's answer comes from (`Source`). Assumes nothing.
use Rattle.std.specs.Prelude.{◌≡◌, refl, [], ℕ, ◌*◌, ◌%◌, ◌≤◌, ◌<◌}
use Rattle.std.proofs.Math.Option.{Option, none, some}
use Rattle.std.proofs.Common.{arith}
use Rattle.words.specs.Edition.{Edition, W}
use Rattle.rules.specs.BinOf.{huge}
use Rattle.rules.specs.Heap.{Heap}
use Rattle.rules.specs.Malloc.{Grant, malloc}
use Rattle.rules.specs.Source.{Small, Source, nowhere, from_top_lem, from_chunk}
use Rattle.holds.specs.Ops.{State}
use Rattle.holds.specs.Bin.{Says}
use Rattle.holds.specs.MallocSource.{malloc_source}

abbrev pub Tight : Heap → ℕ → Type 0
Tight h nb = Small h nb × (h.top ≤ nb)

given : {A : Type 0} (g : Grant) → some g ≡ none → A
given g q = let k : ◌≡◌ {A = ℕ} 0 1 = cc in absurd (let b : ⊥ = omega arith in b)

exactly : (e : Edition) (h : Heap) (nb : ℕ) (o : Option Grant) → Source e h nb o → (o ≡ none → Tight h nb) × (Tight h nb → o ≡ none)
exactly e h nb none (nowhere s l) = ((λ _. (s, l)), (λ _. refl))
exactly e h nb (some g) (from_top_lem s l) = ((λ q. given g q), (λ a. absurd (let b : ⊥ = omega (arith, a.1) in b)))
exactly e h nb (some g) (from_chunk k h₀ x s st fit out rest) = ((λ q. given g q), (λ a. absurd (let b : ⊥ = omega (arith, a.0 x s st) in b)))

pub no_room_exactly : (e : Edition) (t : State) (h : Heap) → Says e t h [] → (nb : ℕ) → nb % 2 ≡ 0 → 4 ≤ nb → W e * nb < huge
    → (malloc e h nb ≡ none → Tight h nb) × (Tight h nb → malloc e h nb ≡ none)
no_room_exactly e t h n nb v l hi = exactly e h nb (malloc e h nb) (malloc_source e t h n nb v l hi)
