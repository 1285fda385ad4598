-- The shape of a tree bin: a subtree at k holds sizes of [lo, lo + 2^k); the bit below k, that is the half, chooses the child; a size stands once.
use Rattle.std.specs.Prelude.{◌≡◌, List, [], ◌∷◌, ℕ, zero, suc, ◌+◌, ◌≤◌, ◌<◌, T, eqb}
use Rattle.std.proofs.Common.{sym, arith}
use Rattle.std.proofs.lemmas.Bool.{eqb-false}
use Rattle.words.specs.Logic.{pick_case}
use Rattle.tries.specs.Bits.{bit, wid, Aligned, aligned_left, aligned_right, below, above}
use Rattle.tries.specs.Tree.{Tree, leaf, node, is_leaf, All, all_map, all_insert, insert, deep_s, rest, cut, lose, unlink, memb, all_rest, all_deep, all_unlink}

abbrev pub Fresh : ℕ → Tree → Type 0
Fresh s t = All (λ x. x ≡ s → ⊥) t

abbrev pub Shaped : ℕ → ℕ → Tree → Type 0
Shaped k lo leaf = Unit
Shaped zero lo (node p ps s l r) = (s ≡ lo) × T (is_leaf l) × T (is_leaf r)
Shaped (suc k) lo (node p ps s l r) =
    (lo ≤ s) × (s < lo + (wid k + wid k)) × Fresh s l × Fresh s r × Shaped k lo l × Shaped k (lo + wid k) r

abbrev pub Between : ℕ → ℕ → ℕ → Type 0
Between lo hi s = (lo ≤ s) × (s < hi)

pub range : (k lo : ℕ) (t : Tree) → Shaped k lo t → All (Between lo (lo + wid k)) t
range k lo leaf h = tt
range zero lo (node p ps s leaf leaf) h = ((omega arith, omega arith), tt, tt)
range zero lo (node p ps s leaf (node p₂ ps₂ s₂ l₂ r₂)) h = absurd h.2
range zero lo (node p ps s (node p₁ ps₁ s₁ l₁ r₁) r) h = absurd h.1
range (suc k) lo (node p ps s l r) h =
    ((h.0, h.1), all_map (λ x b. (omega arith, omega arith)) l (range k lo l h.4), all_map (λ x b. (omega arith, omega arith)) r (range k (lo + wid k) r h.5))

-- a newcomer of a size in the interval keeps the shape
pub shape_insert : (q s k lo : ℕ) (t : Tree) → Aligned k lo → Between lo (lo + wid k) s → Shaped k lo t → Shaped k lo (insert q s k t)
shape_insert q s zero lo leaf al b h = (omega arith, tt, tt)
shape_insert q s (suc k) lo leaf al b h = (b.0, b.1, tt, tt, tt, tt)
shape_insert q s zero lo (node p ps s₀ l r) al b h = h
shape_insert q s (suc k) lo (node p ps s₀ l r) al b h =
    pick_case (Shaped (suc k) lo) (eqb s s₀) (λ e. h)
    (λ e.
    pick_case (Shaped (suc k) lo) (bit k s)
    (λ f. (
      h.0,
      h.1,
      h.2,
      all_insert (λ x. x ≡ s₀ → ⊥) q s k r (eqb-false s s₀ e) h.3,
      h.4,
      shape_insert q s k (lo + wid k) r (aligned_right k lo al) (above k lo s al b.0 b.1 f, omega arith) h.5,
    ))
    (λ f. (
      h.0,
      h.1,
      all_insert (λ x. x ≡ s₀ → ⊥) q s k l (eqb-false s s₀ e) h.2,
      h.3,
      shape_insert q s k lo l (aligned_left k lo al) (b.0, below k lo s al b.0 b.1 f) h.4,
      h.5,
    )))

-- the deepest descendant's size stands nowhere else
pub shape_rest : (k lo : ℕ) (t : Tree) → Shaped k lo t → Shaped k lo (rest t) × Fresh (deep_s t) (rest t)
shape_rest zero lo leaf h = (tt, tt)
shape_rest zero lo (node p ps s leaf leaf) h = (tt, tt)
shape_rest (suc k) lo leaf h = (tt, tt)
shape_rest (suc k) lo (node p ps s leaf leaf) h = (tt, tt)
shape_rest zero lo (node p ps s (node p₁ ps₁ s₁ l₁ r₁) leaf) h = absurd h.1
shape_rest (suc k) lo (node p ps s (node p₁ ps₁ s₁ l₁ r₁) leaf) h =
    let t = node p₁ ps₁ s₁ l₁ r₁ in (
      (h.0, h.1, all_rest (λ x. x ≡ s → ⊥) t h.2, tt, (shape_rest k lo t h.4).0, tt),
      ((λ e. all_deep (λ x. x ≡ s → ⊥) t tt h.2 (sym e)), (shape_rest k lo t h.4).1, tt),
    )
shape_rest zero lo (node p ps s l (node p₂ ps₂ s₂ l₂ r₂)) h = absurd h.2
shape_rest (suc k) lo (node p ps s l (node p₂ ps₂ s₂ l₂ r₂)) h =
    let t = node p₂ ps₂ s₂ l₂ r₂ in
    let d = all_deep (Between (lo + wid k) (lo + wid k + wid k)) t tt (range k (lo + wid k) t h.5) in (
      (h.0, h.1, h.2, all_rest (λ x. x ≡ s → ⊥) t h.3, h.4, (shape_rest k (lo + wid k) t h.5).0),
      (
        (λ e. all_deep (λ x. x ≡ s → ⊥) t tt h.3 (sym e)),
        all_map (λ x b. omega arith) l (range k lo l h.4),
        (shape_rest k (lo + wid k) t h.5).1,
      ),
    )

-- Any descendant may stand in a node's place: its size only has to agree with the bits above.
pub shape_cut : (p : ℕ) (ps : List ℕ) (s k lo : ℕ) (l r : Tree) → Shaped k lo (node p ps s l r) → Shaped k lo (cut l r)
shape_cut p ps s k lo leaf leaf h = tt
shape_cut p ps s zero lo (node p₁ ps₁ s₁ l₁ r₁) leaf h = absurd h.1
shape_cut p ps s (suc k) lo (node p₁ ps₁ s₁ l₁ r₁) leaf h =
    let t = node p₁ ps₁ s₁ l₁ r₁ in
    let d = all_deep (Between lo (lo + wid k)) t tt (range k lo t h.4) in
    (d.0, omega arith, (shape_rest k lo t h.4).1, tt, (shape_rest k lo t h.4).0, tt)
shape_cut p ps s zero lo l (node p₂ ps₂ s₂ l₂ r₂) h = absurd h.2
shape_cut p ps s (suc k) lo l (node p₂ ps₂ s₂ l₂ r₂) h =
    let t = node p₂ ps₂ s₂ l₂ r₂ in
    let d = all_deep (Between (lo + wid k) (lo + wid k + wid k)) t tt (range k (lo + wid k) t h.5) in
    (omega arith, omega arith, all_map (λ x b. omega arith) l (range k lo l h.4), (shape_rest k (lo + wid k) t h.5).1, h.4, (shape_rest k (lo + wid k) t h.5).0)

shape_lose : (p : ℕ) (ps : List ℕ) (s k lo : ℕ) (l r : Tree) (xs : List ℕ) → Shaped k lo (node p ps s l r) → Shaped k lo (lose xs s l r)
shape_lose p ps s k lo l r [] h = shape_cut p ps s k lo l r h
shape_lose p ps s zero lo l r (y ∷ ys) h = h
shape_lose p ps s (suc k) lo l r (y ∷ ys) h = h

pub shape_unlink : (c k lo : ℕ) (t : Tree) → Shaped k lo t → Shaped k lo (unlink c t)
shape_unlink c k lo leaf h = tt
shape_unlink c zero lo (node p ps s leaf leaf) h =
    pick_case (Shaped zero lo) (eqb c p) (λ e. shape_lose p ps s zero lo leaf leaf ps h) (λ e. pick_case (Shaped zero lo) (memb c ps) (λ f. h) (λ f. h))
shape_unlink c zero lo (node p ps s leaf (node p₂ ps₂ s₂ l₂ r₂)) h = absurd h.2
shape_unlink c zero lo (node p ps s (node p₁ ps₁ s₁ l₁ r₁) r) h = absurd h.1
shape_unlink c (suc k) lo (node p ps s l r) h =
    pick_case (Shaped (suc k) lo) (eqb c p) (λ e. shape_lose p ps s (suc k) lo l r ps h)
    (λ e.
    pick_case (Shaped (suc k) lo) (memb c ps) (λ f. h)
    (λ f.
    (h.0, h.1, all_unlink (λ x. x ≡ s → ⊥) c l h.2, all_unlink (λ x. x ≡ s → ⊥) c r h.3, shape_unlink c k lo l h.4, shape_unlink c k (lo + wid k) r h.5)))
