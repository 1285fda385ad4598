-- Best fit on the fields: L1 of the searches, and that it is the search on the tree.
use Rattle.std.specs.Prelude.{◌≡◌, refl, ◌⊎◌, ℕ, zero, suc, ◌+◌, ◌≤◌, ◌<◌, ◌/◌, eqb}
use Rattle.std.proofs.Common.{sym, ◌∙◌, ap, subst, arith, eq-eqb, ne_eqb}
use Rattle.std.proofs.Math.Nat.{mul-div_cancel_left, mul-add-div, div-eq_of_lt}
use Rattle.words.specs.Fields.{Mem}
use Rattle.words.specs.Logic.{pick}
use Rattle.words.specs.Edition.{Edition, W, no_link, root_mark, W_pos, W_two, none_free, enc, head}
use Rattle.tries.specs.Bits.{bit, wid, Aligned}
use Rattle.tries.specs.Tree.{Tree, leaf, node, is_leaf, All}
use Rattle.tries.specs.Shape.{Shaped, Between}
use Rattle.tries.specs.TreeAt.{link, TreeAt}
use Rattle.tries.specs.UnlinkWords.{depth}
use Rattle.tries.specs.Search.{Cand, better, down, walk, Best, start}
use Rattle.tries.proofs.Search.{best-fit}
use Rattle.tries.specs.SearchMem.{down_m, walk_m}

size_of : (e : Edition) (v s : ℕ) → v ≡ head e s → v / W e ≡ s
size_of e v s u = ap (λ z. z / W e) u ∙ mul-add-div (W_pos e) s 1 ∙ omega (arith, div-eq_of_lt (W_two e))

pub down_tree : (e : Edition) (m : Mem) (i up n need v : ℕ) (t : Tree) (c : Cand) → depth t ≤ n → v ≡ link e t → TreeAt e m i up t → down_m e m n need v c ≡ down need t c
down_tree e m i up zero need v leaf c k u h = refl
down_tree e m i up (suc n) need v leaf c k u h = rw (eq-eqb v (no_link e) u)
down_tree e m i up zero need v (node p ps s l r) c k u h = absurd (omega arith)
down_tree e m i up (suc n) need v (node p ps s leaf r) c k u h =
    rw (ne_eqb v (no_link e) (λ z. none_free e p (sym u ∙ z)), ap (λ z. z / W e) u ∙ mul-div_cancel_left p (W_pos e), eq-eqb (m p 4) (no_link e) h.1.child0, size_of e (m p 1) s h.0.member.headed)
    (down_tree e m i (enc e p) n need (m p 5) r (better need p s c) (omega arith) h.1.child1 h.3)
down_tree e m i up (suc n) need v (node p ps s (node p₁ ps₁ s₁ l₁ r₁) r) c k u h =
    rw (ne_eqb v (no_link e) (λ z. none_free e p (sym u ∙ z)), ap (λ z. z / W e) u ∙ mul-div_cancel_left p (W_pos e), ne_eqb (m p 4) (no_link e) (λ z. none_free e p₁ (sym h.1.child0 ∙ z)), size_of e (m p 1) s h.0.member.headed)
    (down_tree e m i (enc e p) n need (m p 4) (node p₁ ps₁ s₁ l₁ r₁) (better need p s c) (omega arith) h.1.child0 h.2)

-- the deepest right subtree, after a step to the left
rst_next : (e : Edition) (m : Mem) (i n up₂ a v rst : ℕ) (r rt : Tree) → v ≡ link e r → TreeAt e m i a r → depth r ≤ n → rst ≡ link e rt → TreeAt e m i up₂ rt → depth rt ≤ n
    → (up₃ : ℕ) × (pick (eqb v (no_link e)) rst v ≡ link e (pick (is_leaf r) rt r)) × TreeAt e m i up₃ (pick (is_leaf r) rt r) × (depth (pick (is_leaf r) rt r) ≤ n)
rst_next e m i n up₂ a v rst leaf rt u h k u₂ h₂ k₂ = (up₂, rw (eq-eqb v (no_link e) u) u₂, h₂, k₂)
rst_next e m i n up₂ a v rst (node p ps s l r) rt u h k u₂ h₂ k₂ = (a, rw (ne_eqb v (no_link e) (λ z. none_free e p (sym u ∙ z))) u, h, k)

pub walk_tree : (e : Edition) (m : Mem) (i up n k need v : ℕ) (t : Tree) (up₂ rst : ℕ) (rt : Tree) (c : Cand) → depth t ≤ n → v ≡ link e t → TreeAt e m i up t → depth rt ≤ n → rst ≡ link e rt → TreeAt e m i up₂ rt → walk_m e m n k need v rst c ≡ walk k need t rt c
walk_tree e m i up n zero need v leaf up₂ rst rt c k u h k₂ u₂ h₂ = rw (eq-eqb v (no_link e) u) (down_tree e m i up₂ n need rst rt c k₂ u₂ h₂)
walk_tree e m i up n (suc b) need v leaf up₂ rst rt c k u h k₂ u₂ h₂ = rw (eq-eqb v (no_link e) u) (down_tree e m i up₂ n need rst rt c k₂ u₂ h₂)
walk_tree e m i up n zero need v (node p ps s l r) up₂ rst rt c k u h k₂ u₂ h₂ =
    rw (ne_eqb v (no_link e) (λ z. none_free e p (sym u ∙ z)), ap (λ z. z / W e) u ∙ mul-div_cancel_left p (W_pos e), size_of e (m p 1) s h.0.member.headed)
walk_tree e m i up n (suc b) need v (node p ps s l r) up₂ rst rt c k u h k₂ u₂ h₂ =
    let c₁ = better need p s c in
    let o = rst_next e m i n up₂ (enc e p) (m p 5) rst r rt h.1.child1 h.3 (omega arith) u₂ h₂ k₂ in
    rw (ne_eqb v (no_link e) (λ z. none_free e p (sym u ∙ z)), ap (λ z. z / W e) u ∙ mul-div_cancel_left p (W_pos e), size_of e (m p 1) s h.0.member.headed)
    (ap (λ z. pick (eqb s need) c₁ (pick (bit b need) z (walk_m e m n b need (m p 4) (pick (eqb (m p 5) (no_link e)) rst (m p 5)) c₁)))
    (walk_tree e m i (enc e p) n b need (m p 5) r up₂ rst rt c₁ (omega arith) h.1.child1 h.3 k₂ u₂ h₂)
    ∙ ap (λ z. pick (eqb s need) c₁ (pick (bit b need) (walk b need r rt c₁) z))
    (walk_tree e m i (enc e p) n b need (m p 4) l o.0 (pick (eqb (m p 5) (no_link e)) rst (m p 5)) (pick (is_leaf r) rt r) c₁ (omega arith) h.1.child0 h.2 o.3 o.1 o.2))

-- The walk of `tmalloc_large` in the bin of the need, on the fields: best fit.
pub best_fit_mem : (e : Edition) (m : Mem) (i n k lo need h top : ℕ) (t : Tree) → depth t ≤ n → h ≡ link e t → TreeAt e m i (root_mark e) t → Aligned k lo → Between lo (lo + wid k) need → Shaped k lo t → All (λ s. s < top) t
    → ((walk_m e m n k need h (no_link e) (start (no_link e) top) ≡ start (no_link e) top) × All (λ s. s < need) t) ⊎ Best need t (walk_m e m n k need h (no_link e) (start (no_link e) top))
best_fit_mem e m i n k lo need h top t d u a al b sh small =
    subst (λ z. ((z ≡ start (no_link e) top) × All (λ s. s < need) t) ⊎ Best need t z)
    (sym (walk_tree e m i (root_mark e) n k need h t 0 (no_link e) leaf (start (no_link e) top) d u a (omega arith) refl tt))
    (best-fit need k lo (no_link e) top t al b sh small)

-- the fuel that is enough in a bin: one level for each bit, and the root
pub shape_depth : (k lo : ℕ) (t : Tree) → Shaped k lo t → depth t ≤ suc k
shape_depth zero lo leaf h = omega arith
shape_depth (suc k) lo leaf h = omega arith
shape_depth zero lo (node p ps s leaf leaf) h = omega arith
shape_depth zero lo (node p ps s leaf (node p₂ ps₂ s₂ l₂ r₂)) h = absurd h.2
shape_depth zero lo (node p ps s (node p₁ ps₁ s₁ l₁ r₁) r) h = absurd h.1
shape_depth (suc k) lo (node p ps s l r) h = omega (arith, shape_depth k lo l h.4, shape_depth k (lo + wid k) r h.5)
