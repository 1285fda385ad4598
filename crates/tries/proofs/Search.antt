-- Best fit: the walk of `tmalloc_large` and the descent of `tmalloc_small` find the smallest size that fits.
use Rattle.std.specs.Prelude.{◌≡◌, refl, List, ◌⊎◌, ℕ, zero, suc, ◌+◌, ◌≤◌, ◌<◌, T, eqb, leb, ltb}
use Rattle.std.proofs.Common.{◌∙◌, ap, inl, inr, ⊎_elim, arith, eqb-true, leb-true, leb-false, ltb-true, ltb-false}
use Rattle.words.specs.Logic.{pick, pick_case, lt_or_le}
use Rattle.tries.specs.Bits.{bit, wid, Aligned, aligned_left, aligned_right, below, above}
use Rattle.tries.specs.Tree.{Tree, leaf, node, is_leaf, All, all_map}
use Rattle.tries.specs.Shape.{Shaped, Between, range}
use Rattle.tries.specs.Search.{Best, Better, Cand, Down, Walk, better, down, start, walk}

better_ok : (need p s : ℕ) (c : Cand) → Better need p s c (better need p s c)
better_ok need p s c =
    pick_case (Better need p s c) (leb need s)
    (λ e.
    let h = leb-true need s e in
    pick_case (Better need p s c) (ltb s c.size)
    (λ f. let g = ltb-true s c.size f in record { less = omega arith; best = λ _. omega arith; from = inr (h, refl, refl) })
    (λ f. let g = ltb-false s c.size f in record { less = omega arith; best = λ _. g; from = inl refl }))
    (λ e. let h = leb-false need s e in record { less = omega arith; best = λ n. omega arith; from = inl refl })

-- where a find comes from, one node further up
origin : {X Y : Type 0} (need p s : ℕ) (c c₁ c' : Cand) → Better need p s c c₁ → (X → Y) → (c' ≡ c₁) ⊎ ((need ≤ c'.size) × X) → (c' ≡ c) ⊎ ((need ≤ c'.size) × (((c'.at ≡ p) × (c'.size ≡ s)) ⊎ Y))
origin need p s c c₁ c' b f (inl e) =
    ⊎_elim (λ g. inl (e ∙ g))
    (λ g. let z = ap (λ x. x.size) e in inr (omega arith, inl (ap (λ x. x.at) e ∙ g.1, z ∙ g.2)))
    b.from
origin need p s c c₁ c' b f (inr x) = inr (x.0, inr (f x.1))

-- the smallest of a tree of which all sizes fit is on its leftmost path
pub down_ok : (need k lo : ℕ) (t : Tree) (c : Cand) → Shaped k lo t → All (λ s. need ≤ s) t → Down need t c (down need t c)
down_ok need zero lo leaf c h a = record { less = omega arith; best = tt; from = inl refl }
down_ok need (suc k) lo leaf c h a = record { less = omega arith; best = tt; from = inl refl }
down_ok need zero lo (node p ps s leaf leaf) c h a =
    let b = better_ok need p s c in
    record { less = b.less; best = (b.best a.0, tt, tt); from = origin {X = ⊥} need p s c (better need p s c) (better need p s c) b absurd (inl refl) }
down_ok need zero lo (node p ps s leaf (node p₂ ps₂ s₂ l₂ r₂)) c h a = absurd h.2
down_ok need zero lo (node p ps s (node p₁ ps₁ s₁ l₁ r₁) r) c h a = absurd h.1
down_ok need (suc k) lo (node p ps s leaf r) c h a =
    let c₁ = better need p s c in
    let b = better_ok need p s c in
    let d = down_ok need k (lo + wid k) r c₁ h.5 a.2 in
    record {
      less = omega (arith, b.less, d.less);
      best = (omega (arith, b.best a.0, d.less), tt, d.best);
      from = origin need p s c c₁ (down need r c₁) b (λ x. inr x) d.from;
    }
down_ok need (suc k) lo (node p ps s (node p₁ ps₁ s₁ l₁ r₁) r) c h a =
    let l = node p₁ ps₁ s₁ l₁ r₁ in
    let c₁ = better need p s c in
    let b = better_ok need p s c in
    let d = down_ok need k lo l c₁ h.4 a.1 in
    let u = (range k lo l h.4).0.1 in
    record {
      less = omega (arith, b.less, d.less);
      best = (omega (arith, b.best a.0, d.less), d.best, all_map (λ x g. omega (arith, d.best.0)) r (range k (lo + wid k) r h.5));
      from = origin need p s c c₁ (down need l c₁) b (λ x. inl x) d.from;
    }

all_leaf : (P : ℕ → Type 0) (t : Tree) → T (is_leaf t) → All P t
all_leaf P leaf h = tt
all_leaf P (node p ps s l r) h = absurd h

all_any : {P : ℕ → Type 0} → ((s : ℕ) → P s) → (t : Tree) → All P t
all_any f leaf = tt
all_any f (node p ps s l r) = (f s, all_any f l, all_any f r)

all_both : {P Q R : ℕ → Type 0} → ((s : ℕ) → P s → Q s → R s) → (t : Tree) → All P t → All Q t → All R t
all_both f leaf a b = tt
all_both f (node p ps s l r) a b = (f s a.0 b.0, all_both f l a.1 b.1, all_both f r a.2 b.2)

walk_leaf : (need k₂ lo₂ : ℕ) (rst : Tree) (c : Cand) → Shaped k₂ lo₂ rst → All (λ s. need ≤ s) rst → Walk need leaf rst c (down need rst c)
walk_leaf need k₂ lo₂ rst c g a =
    let d = down_ok need k₂ lo₂ rst c g a in
    record { less = d.less; best = tt; best_rst = d.best; from = ⊎_elim (λ e. inl e) (λ f. inr (f.0, inr f.1)) d.from }

-- The need goes left: r, if it is there, is the new deepest right subtree, and what it holds is below all of the old one.
walk_left : (need k lo p : ℕ) (ps : List ℕ) (s : ℕ) (l r : Tree) (k₂ lo₂ : ℕ) (rst : Tree) (c : Cand)
    → need < lo + wid k → Shaped k (lo + wid k) r → Shaped k₂ lo₂ rst → All (λ s. lo + (wid k + wid k) ≤ s) rst
    → ((k₃ lo₃ : ℕ) (rst₃ : Tree) → Shaped k₃ lo₃ rst₃ → All (λ s. lo + wid k ≤ s) rst₃ → Walk need l rst₃ (better need p s c) (walk k need l rst₃ (better need p s c)))
    → Walk need (node p ps s l r) rst c (walk k need l (pick (is_leaf r) rst r) (better need p s c))
walk_left need k lo p ps s l leaf k₂ lo₂ rst c n h g a ih =
    let b = better_ok need p s c in
    let d = ih k₂ lo₂ rst g (all_map (λ x u. omega arith) rst a) in
    record {
      less = omega (arith, b.less, d.less);
      best = ((λ u. omega (arith, b.best u, d.less)), d.best, tt);
      best_rst = d.best_rst;
      from = ⊎_elim (λ e. inl e) (λ f. inr (f.0, ⊎_elim (λ x. inl (inl x)) (λ y. ⊎_elim (λ x. inl (inr (inl x))) (λ x. inr x) y) f.1))
          (origin need p s c (better need p s c) (walk k need l rst (better need p s c)) b (λ x. x) d.from);
    }
walk_left need k lo p ps s l (node p₂ ps₂ s₂ l₂ r₂) k₂ lo₂ rst c n h g a ih =
    let r = node p₂ ps₂ s₂ l₂ r₂ in
    let b = better_ok need p s c in
    let u = range k (lo + wid k) r h in
    let d = ih k (lo + wid k) r h (all_map (λ x v. v.0) r u) in
    record {
      less = omega (arith, b.less, d.less);
      best = ((λ v. omega (arith, b.best v, d.less)), d.best, all_map (λ x v y. v) r d.best_rst);
      best_rst = all_map (λ x v. omega (arith, d.best_rst.0, u.0.1)) rst a;
      from = ⊎_elim (λ e. inl e) (λ f. inr (f.0, inl f.1))
          (origin need p s c (better need p s c) (walk k need l r (better need p s c)) b (λ x. x) d.from);
    }

-- rst has a shape of its own, and lies above the interval
pub walk_ok : (need k lo : ℕ) (t : Tree) (k₂ lo₂ : ℕ) (rst : Tree) (c : Cand) → Aligned k lo → Between lo (lo + wid k) need → Shaped k lo t → Shaped k₂ lo₂ rst → All (λ s. lo + wid k ≤ s) rst → Walk need t rst c (walk k need t rst c)
walk_ok need zero lo leaf k₂ lo₂ rst c al n h g a = walk_leaf need k₂ lo₂ rst c g (all_map (λ x u. omega arith) rst a)
walk_ok need (suc k) lo leaf k₂ lo₂ rst c al n h g a = walk_leaf need k₂ lo₂ rst c g (all_map (λ x u. omega arith) rst a)
walk_ok need zero lo (node p ps s l r) k₂ lo₂ rst c al n h g a =
    let b = better_ok need p s c in
    let P : ℕ → Type 0 = λ x. need ≤ x → (better need p s c).size ≤ x in
    record {
      less = b.less;
      best = (b.best, all_leaf P l h.1, all_leaf P r h.2);
      best_rst = all_map (λ x u. omega (arith, b.best (omega arith))) rst a;
      from = ⊎_elim (λ e. inl e) (λ f. inr (f.0, inl f.1)) (origin {X = ⊥} need p s c (better need p s c) (better need p s c) b absurd (inl refl));
    }
walk_ok need (suc k) lo (node p ps s l r) k₂ lo₂ rst c al n h g a =
    let b = better_ok need p s c in
    pick_case (Walk need (node p ps s l r) rst c) (eqb s need)
    (λ e.
    let z = eqb-true s need e in
    let y = b.best (omega arith) in
    record {
      less = b.less;
      best = (b.best, all_any (λ x u. omega arith) l, all_any (λ x u. omega arith) r);
      best_rst = all_map (λ x u. omega arith) rst a;
      from = ⊎_elim (λ v. inl v) (λ f. inr (f.0, inl f.1)) (origin {X = ⊥} need p s c (better need p s c) (better need p s c) b absurd (inl refl));
    })
    (λ e.
    pick_case (Walk need (node p ps s l r) rst c) (bit k need)
    (λ f.
    let m = above k lo need al n.0 n.1 f in
    let d = walk_ok need k (lo + wid k) r k₂ lo₂ rst (better need p s c) (aligned_right k lo al) (m, omega arith) h.5 g (all_map (λ x u. omega arith) rst a) in
    record {
      less = omega (arith, b.less, d.less);
      best = ((λ u. omega (arith, b.best u, d.less)), all_map (λ x u v. omega arith) l (range k lo l h.4), d.best);
      best_rst = d.best_rst;
      from = ⊎_elim (λ v. inl v) (λ v. inr (v.0, ⊎_elim (λ x. inl (inl x)) (λ y. ⊎_elim (λ x. inl (inr (inr x))) (λ x. inr x) y) v.1))
          (origin need p s c (better need p s c) (walk k need r rst (better need p s c)) b (λ x. x) d.from);
    })
    (λ f.
    let m = below k lo need al n.0 n.1 f in
    walk_left need k lo p ps s l r k₂ lo₂ rst c m h.5 g a
    (λ k₃ lo₃ rst₃ g₃ a₃. walk_ok need k lo l k₃ lo₃ rst₃ (better need p s c) (aligned_left k lo al) (n.0, m) h.4 g₃ a₃)))

pub best-fit : (need k lo none top : ℕ) (t : Tree) → Aligned k lo → Between lo (lo + wid k) need → Shaped k lo t → All (λ s. s < top) t → ((walk k need t leaf (start none top) ≡ start none top) × All (λ s. s < need) t) ⊎ Best need t (walk k need t leaf (start none top))
best-fit need k lo none top t al n h a =
    ⊎_elim
    (λ e.
    let z = ap (λ x. x.size) e in
    inl (e, all_both (λ x u v. ⊎_elim (λ y. y) (λ y. absurd (omega (arith, u y))) (lt_or_le x need)) t d.best a))
    (λ f. inr (record { fits = f.0; there = ⊎_elim (λ x. x) absurd f.1; least = d.best }))
    d.from
  where
    d : Walk need t leaf (start none top) (walk k need t leaf (start none top))
    d = walk_ok need k lo t 0 0 leaf (start none top) al n h tt tt

-- Best fit in a fuller bin, all of whose sizes fit.
pub best-down : (need k lo none top : ℕ) (p : ℕ) (ps : List ℕ) (s : ℕ) (l r : Tree) → let t = node p ps s l r in Shaped k lo t → need ≤ lo → s < top → Best need t (down need t (start none top))
best-down need k lo none top p ps s l r h n u =
    ⊎_elim (λ e. let z = ap (λ x. x.size) e in absurd (omega (arith, d.best.0)))
    (λ f. record { fits = f.0; there = f.1; least = all_map (λ x v y. v) (node p ps s l r) d.best })
    d.from
  where
    d : Down need (node p ps s l r) (start none top) (down need (node p ps s l r) (start none top))
    d = down_ok need k lo (node p ps s l r) (start none top) h (all_map (λ x v. omega arith) (node p ps s l r) (range k lo (node p ps s l r) h))
