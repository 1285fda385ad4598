-- Best fit: the walk of `tmalloc_large` and the descent of `tmalloc_small` find the smallest size that fits.
use Rattle.std.specs.Prelude.{◌≡◌, ◌⊎◌, ℕ, zero, suc, ◌≤◌, eqb, leb, ltb}
use Rattle.words.specs.Logic.{pick}
use Rattle.tries.specs.Bits.{bit}
use Rattle.tries.specs.Tree.{Tree, leaf, node, is_leaf, All, Has}

-- the best so far: a place and its size; no find yet has a size above all sizes
pub record Cand : Type 0 where
  pub at : ℕ
  pub size : ℕ

abbrev pub better : ℕ → ℕ → ℕ → Cand → Cand
better need p s c = pick (leb need s) (pick (ltb s c.size) (record { at = p; size = s }) c) c

-- down the leftmost children
abbrev pub down : ℕ → Tree → Cand → Cand
down need leaf c = c
down need (node p ps s leaf r) c = down need r (better need p s c)
down need (node p ps s (node p₁ ps₁ s₁ l₁ r₁) r) c = down need (node p₁ ps₁ s₁ l₁ r₁) (better need p s c)

-- along the bits of the need; rst is the deepest right subtree that was not taken
abbrev pub walk : ℕ → ℕ → Tree → Tree → Cand → Cand
walk k need leaf rst c = down need rst c
walk zero need (node p ps s l r) rst c = better need p s c
walk (suc k) need (node p ps s l r) rst c =
    pick (eqb s need) (better need p s c)
    (pick (bit k need) (walk k need r rst (better need p s c))
    (walk k need l (pick (is_leaf r) rst r) (better need p s c)))

-- c' is c or a fitting node of t, and as good as c and as s if s fits
pub record Better (need p s : ℕ) (c c' : Cand) : Type 0 where
  pub less : c'.size ≤ c.size
  pub best : need ≤ s → c'.size ≤ s
  pub from : (c' ≡ c) ⊎ ((need ≤ s) × (c'.at ≡ p) × (c'.size ≡ s))

pub record Down (need : ℕ) (t : Tree) (c c' : Cand) : Type 0 where
  pub less : c'.size ≤ c.size
  pub best : All (λ s. c'.size ≤ s) t
  pub from : (c' ≡ c) ⊎ ((need ≤ c'.size) × Has c'.at c'.size t)

pub record Walk (need : ℕ) (t rst : Tree) (c c' : Cand) : Type 0 where
  pub less : c'.size ≤ c.size
  pub best : All (λ s. need ≤ s → c'.size ≤ s) t
  pub best_rst : All (λ s. c'.size ≤ s) rst
  pub from : (c' ≡ c) ⊎ ((need ≤ c'.size) × (Has c'.at c'.size t ⊎ Has c'.at c'.size rst))

-- Best fit in the bin of the need: either nothing fits, and the find is the one handed in, or the find is a node, fits, and no fitting node is smaller.
pub record Best (need : ℕ) (t : Tree) (c : Cand) : Type 0 where
  pub fits : need ≤ c.size
  pub there : Has c.at c.size t
  pub least : All (λ s. need ≤ s → c.size ≤ s) t

abbrev pub start : ℕ → ℕ → Cand
start none top = record { at = none; size = top }
