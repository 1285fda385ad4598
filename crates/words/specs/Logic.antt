-- Choices by a test, decided cases on numbers, and decisions: the small logic that every layer uses. Assumes nothing.
use Rattle.std.specs.Prelude.{◌≡◌, refl, Bool, true, false, ◌⊎◌, ℕ, ◌≤◌, ◌<◌}
use Rattle.std.proofs.Common.{subst, inl, inr, arith}
use Rattle.std.proofs.Math.Decide.{dec_le, ℕ_discrete}

-- ---- a choice by a test

abbrev pub pick {ℓ} : {A : Type ℓ} → Bool → A → A → A
pick true a b = a
pick false a b = b

-- by cases on a test that a term picks by
pub pick_case {ℓ κ} : {A : Type ℓ} (P : A → Type κ) (b : Bool) {x y : A} → (b ≡ true → P x) → (b ≡ false → P y) → P (pick b x y)
pick_case P true f g = f refl
pick_case P false f g = g refl

-- by cases on a test that stands in several terms
abbrev pub by {ℓ} : (P : Bool → Type ℓ) (b : Bool) → (b ≡ true → P true) → (b ≡ false → P false) → P b
by P true f g = f refl
by P false f g = g refl

-- ---- decided cases, for what `omega` does not read

pub same? : (x y : ℕ) → (x ≡ y) ⊎ (x ≡ y → ⊥)
same? x y = elim (ℕ_discrete x y) [ yes p ↦ inl p | no n ↦ inr n ]

pub le_or_lt : (a b : ℕ) → (a ≤ b) ⊎ (b < a)
le_or_lt a b = elim (dec_le a b) [ yes p ↦ inl p | no n ↦ inr (omega arith) ]

pub lt_or_le : (x y : ℕ) → (x < y) ⊎ (y ≤ x)
lt_or_le x y = elim (dec_le y x) [ yes p ↦ inr p | no n ↦ inl (omega arith) ]

pub false-true : {A : Type 0} → false ≡ true → A
false-true q = let z : ◌≡◌ {A = ℕ} 0 1 = cc in absurd (let b : ⊥ = omega arith in b)

-- ---- decisions

-- A Bool that says whether P holds, in both directions. It computes at `true` and at `false`, so that the need at a `return true` is P, and
-- at a `return false` that P is absurd.
abbrev pub Decides : Bool → Type 0 → Type 0
Decides true P = P
Decides false P = P → ⊥

-- what it says: `true` exactly when P
pub decides_iff : (r : Bool) (P : Type 0) → Decides r P → (r ≡ true → P) × (P → r ≡ true)
decides_iff true P h = ((λ q. h), (λ p. refl))
decides_iff false P h = ((λ q. false-true q), (λ p. absurd (h p)))

-- by an equation on the flag, as a branch on it gives
pub decided_yes : (r : Bool) (P : Type 0) → Decides r P → r ≡ true → P
decided_yes r P h q = (decides_iff r P h).0 q

pub decided_no : (r : Bool) (P : Type 0) → Decides r P → r ≡ false → P → ⊥
decided_no r P h q = subst (λ (b : Bool). Decides b P) q h

-- the same decision of what holds exactly when P does
pub decides_map : (r : Bool) (P Q : Type 0) → (P → Q) → (Q → P) → Decides r P → Decides r Q
decides_map true P Q f g h = f h
decides_map false P Q f g h = λ q. h (g q)
