-- The rings of a trie by their sizes, whatever its shape: a find is the first of its size's ring, a newcomer goes last in the ring of its
-- size, and a member that leaves goes from its ring; no other ring changes. By the shape's intervals. Assumes nothing.
use Rattle.std.specs.Prelude.{◌≡◌, refl, Bool, true, false, List, [], ◌∷◌, ◌++◌, ◌⊎◌, ℕ, zero, suc, ◌+◌, ◌≤◌, ◌<◌, T, eqb}
use Rattle.std.proofs.Common.{sym, ◌∙◌, ap, ap₂, subst, append-nil, append_assoc, inl, inr, ⊎_elim, arith, eqb-true, eq-eqb, ne_eqb}
use Rattle.std.proofs.lemmas.Bool.{eqb-false}
use Rattle.words.specs.Logic.{pick, pick_case, same?, false-true}
use Rattle.words.specs.Fields.{ind, ind_eq, ind_ne, count_l, count_l_append}
use Rattle.words.specs.Places.{remove}
use Rattle.tries.specs.Bits.{bit, wid, Aligned, aligned_left, aligned_right, below, above}
use Rattle.tries.specs.Tree.{Tree, leaf, node, is_leaf, count, Distinct, all_map, Has, insert, deep_p, deep_r, deep_s, rest, cut, lose, memb, unlink, Full, all_deep, count-lose}
use Rattle.tries.specs.Shape.{Fresh, Shaped, Between, range, shape_insert}
use Rattle.tries.specs.Members.{has_all}
use Rattle.rules.specs.Heap.{holds_some}

-- the members of size s, from the tree member on in the order of the ring; no members, no ring
abbrev pub ring_of : ℕ → Tree → List ℕ
ring_of s leaf = []
ring_of s (node p ps s₀ l r) = pick (eqb s s₀) (p ∷ ps) (ring_of s l ++ ring_of s r)

ring_here : (s p : ℕ) (ps : List ℕ) (s₀ : ℕ) (l r : Tree) → s ≡ s₀ → ring_of s (node p ps s₀ l r) ≡ p ∷ ps
ring_here s p ps s₀ l r q = rw (eq-eqb s s₀ q)

ring_else : (s p : ℕ) (ps : List ℕ) (s₀ : ℕ) (l r : Tree) → (s ≡ s₀ → ⊥) → ring_of s (node p ps s₀ l r) ≡ ring_of s l ++ ring_of s r
ring_else s p ps s₀ l r n = rw (ne_eqb s s₀ n)

ring_none : (s : ℕ) (t : Tree) → Fresh s t → ring_of s t ≡ []
ring_none s leaf a = refl
ring_none s (node p ps s₀ l r) a = ring_else s p ps s₀ l r (λ q. a.0 (sym q)) ∙ ap₂ (λ x y. x ++ y) (ring_none s l a.1) (ring_none s r a.2)

-- sizes outside the interval have no ring
outside : (k lo s : ℕ) (t : Tree) → Shaped k lo t → (Between lo (lo + wid k) s → ⊥) → ring_of s t ≡ []
outside k lo s t h n = ring_none s t (all_map (λ x b q. n (subst (Between lo (lo + wid k)) q b)) t (range k lo t h))

no_has : (x s : ℕ) (t : Tree) → T (is_leaf t) → Has x s t → ⊥
no_has x s leaf h u = u
no_has x s (node p ps s₀ l r) h u = h

-- ---- a find is the first of its ring, and the first of a ring can be found

pub ring_has : (k lo x s : ℕ) (t : Tree) → Shaped k lo t → Has x s t → (ps : List ℕ) × (ring_of s t ≡ x ∷ ps)
ring_has k lo x s leaf h u = absurd u
ring_has zero lo x s (node p ps s₀ l r) h (inl u) = (ps, ring_here s p ps s₀ l r u.1 ∙ ap (λ z. z ∷ ps) (sym u.0))
ring_has zero lo x s (node p ps s₀ l r) h (inr (inl u)) = absurd (no_has x s l h.1 u)
ring_has zero lo x s (node p ps s₀ l r) h (inr (inr u)) = absurd (no_has x s r h.2 u)
ring_has (suc k) lo x s (node p ps s₀ l r) h (inl u) = (ps, ring_here s p ps s₀ l r u.1 ∙ ap (λ z. z ∷ ps) (sym u.0))
ring_has (suc k) lo x s (node p ps s₀ l r) h (inr (inl u)) =
    let q = ring_has k lo x s l h.4 u in
    (q.0 ++ ring_of s r, ring_else s p ps s₀ l r (has_all (λ y. y ≡ s₀ → ⊥) x s l h.2 u) ∙ ap (λ z. z ++ ring_of s r) q.1)
ring_has (suc k) lo x s (node p ps s₀ l r) h (inr (inr u)) =
    let q = ring_has k (lo + wid k) x s r h.5 u in
    let b = has_all (Between (lo + wid k) (lo + wid k + wid k)) x s r (range k (lo + wid k) r h.5) u in
    (q.0, ring_else s p ps s₀ l r (has_all (λ y. y ≡ s₀ → ⊥) x s r h.3 u) ∙ ap₂ (λ y z. y ++ z) (outside k lo s l h.4 (λ a. omega arith)) q.1)

abbrev pub first_of : List ℕ → ℕ
first_of [] = 0
first_of (x ∷ xs) = x

pub ring_first : (s x : ℕ) (xs : List ℕ) (t : Tree) → ring_of s t ≡ x ∷ xs → Has x s t
ring_first s x xs leaf h = false-true (ap holds_some h)
ring_first s x xs (node p ps s₀ l r) h =
    ⊎_elim (λ q. inl (sym (ap first_of (sym (ring_here s p ps s₀ l r q) ∙ h)), q))
    (λ n. inr (go (ring_of s l) refl (sym (ring_else s p ps s₀ l r n) ∙ h) (λ ys g. ring_first s x ys l g) (λ g. ring_first s x xs r g)))
    (same? s s₀)
  where
    go : (ys : List ℕ) → ring_of s l ≡ ys → ys ++ ring_of s r ≡ x ∷ xs → ((zs : List ℕ) → ring_of s l ≡ x ∷ zs → Has x s l) → (ring_of s r ≡ x ∷ xs → Has x s r) → Has x s l ⊎ Has x s r
    go [] q g f k = inr (k g)
    go (y ∷ ys) q g f k = inl (f ys (q ∙ ap (λ z. z ∷ ys) (ap first_of g)))

-- ---- a newcomer

-- what a newcomer q of size s adds to the ring of z
abbrev pub newly : ℕ → ℕ → ℕ → List ℕ
newly z q s = pick (eqb z s) (q ∷ []) []

newly_here : (z q s : ℕ) → z ≡ s → newly z q s ≡ q ∷ []
newly_here z q s u = rw (eq-eqb z s u)

newly_else : (z q s : ℕ) → (z ≡ s → ⊥) → newly z q s ≡ []
newly_else z q s n = rw (ne_eqb z s n)

-- where nothing is added
kept : (z q s : ℕ) (xs ys : List ℕ) → (z ≡ s → ⊥) → xs ≡ ys → xs ≡ ys ++ newly z q s
kept z q s xs ys n u = u ∙ sym (ap (λ v. ys ++ v) (newly_else z q s n) ∙ append-nil ys)

-- the newcomer joins the ring of a node
joins : (z q s p : ℕ) (ps : List ℕ) (s₀ : ℕ) (l r : Tree) → s ≡ s₀ → ring_of z (node p (ps ++ q ∷ []) s₀ l r) ≡ ring_of z (node p ps s₀ l r) ++ newly z q s
joins z q s p ps s₀ l r e =
    ⊎_elim (λ u. ring_here z p (ps ++ q ∷ []) s₀ l r u ∙ sym (ap₂ (λ a b. a ++ b) (ring_here z p ps s₀ l r u) (newly_here z q s (u ∙ sym e))))
    (λ n. kept z q s (ring_of z (node p (ps ++ q ∷ []) s₀ l r)) (ring_of z (node p ps s₀ l r)) (λ u. n (u ∙ e)) (ring_else z p (ps ++ q ∷ []) s₀ l r n ∙ sym (ring_else z p ps s₀ l r n)))
    (same? z s₀)

turned : (xs ys zs : List ℕ) → (ys ≡ []) ⊎ (zs ≡ []) → (xs ++ zs) ++ ys ≡ (xs ++ ys) ++ zs
turned xs ys zs (inl u) = ap (λ v. (xs ++ zs) ++ v) u ∙ append-nil (xs ++ zs) ∙ sym (ap (λ v. (xs ++ v) ++ zs) u ∙ ap (λ v. v ++ zs) (append-nil xs))
turned xs ys zs (inr u) = ap (λ v. (xs ++ v) ++ ys) u ∙ ap (λ v. v ++ ys) (append-nil xs) ∙ sym (ap (λ v. (xs ++ ys) ++ v) u ∙ append-nil (xs ++ ys))

pub ring_insert : (z q s k lo : ℕ) (t : Tree) → Aligned k lo → Between lo (lo + wid k) s → Shaped k lo t → ring_of z (insert q s k t) ≡ ring_of z t ++ newly z q s
ring_insert z q s zero lo leaf al b h = refl
ring_insert z q s (suc k) lo leaf al b h = refl
ring_insert z q s zero lo (node p ps s₀ l r) al b h = joins z q s p ps s₀ l r (omega arith)
ring_insert z q s (suc k) lo (node p ps s₀ l r) al b h =
    pick_case P (eqb s s₀) (λ e. joins z q s p ps s₀ l r (eqb-true s s₀ e))
    (λ e. pick_case P (bit k s)
    (λ f. right (eqb-false s s₀ e) (ring_insert z q s k (lo + wid k) r (aligned_right k lo al) (above k lo s al b.0 b.1 f, omega arith) h.5))
    (λ f. let m = below k lo s al b.0 b.1 f in left (eqb-false s s₀ e) m (ring_insert z q s k lo l (aligned_left k lo al) (b.0, m) h.4)))
  where
    P : Tree → Type 0
    P t = ring_of z t ≡ ring_of z (node p ps s₀ l r) ++ newly z q s

    here : (l' r' : Tree) → (s ≡ s₀ → ⊥) → z ≡ s₀ → P (node p ps s₀ l' r')
    here l' r' n u = kept z q s (ring_of z (node p ps s₀ l' r')) (ring_of z (node p ps s₀ l r)) (λ v. n (sym v ∙ u)) (ring_here z p ps s₀ l' r' u ∙ sym (ring_here z p ps s₀ l r u))

    right : (s ≡ s₀ → ⊥) → ring_of z (insert q s k r) ≡ ring_of z r ++ newly z q s → P (node p ps s₀ l (insert q s k r))
    right n g =
        ⊎_elim (here l (insert q s k r) n)
        (λ v. ring_else z p ps s₀ l (insert q s k r) v ∙ ap (λ y. ring_of z l ++ y) g ∙ sym (append_assoc (ring_of z l) (ring_of z r) (newly z q s)) ∙ sym (ap (λ y. y ++ newly z q s) (ring_else z p ps s₀ l r v)))
        (same? z s₀)

    left : (s ≡ s₀ → ⊥) → s < lo + wid k → ring_of z (insert q s k l) ≡ ring_of z l ++ newly z q s → P (node p ps s₀ (insert q s k l) r)
    left n m g =
        ⊎_elim (here (insert q s k l) r n)
        (λ v. ring_else z p ps s₀ (insert q s k l) r v ∙ ap (λ y. y ++ ring_of z r) g ∙ turned (ring_of z l) (ring_of z r) (newly z q s) one ∙ sym (ap (λ y. y ++ newly z q s) (ring_else z p ps s₀ l r v)))
        (same? z s₀)
      where
        one : (ring_of z r ≡ []) ⊎ (newly z q s ≡ [])
        one = ⊎_elim (λ u. inl (outside k (lo + wid k) z r h.5 (λ a. omega arith))) (λ u. inr (newly_else z q s u)) (same? z s)

-- The order in which chunks of two sizes come shows in the shape, but in no ring: so trees of one bin have many shapes with the same rings.
pub either_order : (z q s q' s' k lo : ℕ) (t : Tree) → (s ≡ s' → ⊥) → Aligned k lo → Between lo (lo + wid k) s → Between lo (lo + wid k) s' → Shaped k lo t
    → ring_of z (insert q s k (insert q' s' k t)) ≡ ring_of z (insert q' s' k (insert q s k t))
either_order z q s q' s' k lo t n al b b' h =
    twice q s q' s' b b' ∙ turned (ring_of z t) (newly z q s) (newly z q' s') (⊎_elim (λ u. inr (newly_else z q' s' (λ v. n (sym u ∙ v)))) (λ u. inl (newly_else z q s u)) (same? z s))
    ∙ sym (twice q' s' q s b' b)
  where
    twice : (q s q' s' : ℕ) → Between lo (lo + wid k) s → Between lo (lo + wid k) s' → ring_of z (insert q s k (insert q' s' k t)) ≡ (ring_of z t ++ newly z q' s') ++ newly z q s
    twice q s q' s' b b' = ring_insert z q s k lo (insert q' s' k t) al b (shape_insert q' s' k lo t al b' h) ∙ ap (λ y. y ++ newly z q s) (ring_insert z q' s' k lo t al b' h)

-- one such pair: chunks of 34 and 40 words, the one or the other first
pub two_shapes : (z : ℕ) → ring_of z (node 0 [] 34 leaf (node 100 [] 40 leaf leaf)) ≡ ring_of z (node 100 [] 40 (node 0 [] 34 leaf leaf) leaf)
unfolding bit
two_shapes z = either_order z 100 40 0 34 4 32 leaf (λ q. omega arith) (2, refl) (omega arith, omega arith) (omega arith, omega arith) tt

-- ---- lists of places: what a removal does

remove_none : (c : ℕ) (ps : List ℕ) → count_l c ps ≡ 0 → remove c ps ≡ ps
remove_none c [] z = refl
remove_none c (y ∷ ys) z =
    let n : c ≡ y → ⊥ = λ q. omega (arith, ind_eq c y q) in
    rw (ne_eqb c y n) (ap (λ v. y ∷ v) (remove_none c ys (omega arith)))

remove_append : (c : ℕ) (xs ys : List ℕ) → count_l c xs + count_l c ys ≤ 1 → remove c (xs ++ ys) ≡ remove c xs ++ remove c ys
remove_append c [] ys u = refl
remove_append c (x ∷ xs) ys u =
    ⊎_elim (λ q. rw (eq-eqb c x q) (ap (λ v. xs ++ v) (sym (remove_none c ys (omega (arith, ind_eq c x q))))))
    (λ n. rw (ne_eqb c x n) (ap (λ v. x ∷ v) (remove_append c xs ys (omega (arith, ind_ne c x n)))))
    (same? c x)

remove-less : (x c : ℕ) (ps : List ℕ) → count_l x (remove c ps) ≤ count_l x ps
remove-less x c [] = omega arith
remove-less x c (y ∷ ys) = pick_case (λ v. count_l x v ≤ count_l x (y ∷ ys)) (eqb c y) (λ _. omega arith) (λ _. omega (arith, remove-less x c ys))

memb-count : (c : ℕ) (ps : List ℕ) (b : Bool) → memb c ps ≡ b → pick b (1 ≤ count_l c ps) (count_l c ps ≡ 0)
memb-count c [] true u = false-true u
memb-count c [] false u = refl
memb-count c (y ∷ ys) b u =
    ⊎_elim (λ q. go b (omega (arith, ind_eq c y q)) (sym u ∙ rw (eq-eqb c y q)))
    (λ n. more b (ind_ne c y n) (memb-count c ys b (rw (ne_eqb c y n) at u)))
    (same? c y)
  where
    go : (b : Bool) → 1 ≤ count_l c (y ∷ ys) → b ≡ true → pick b (1 ≤ count_l c (y ∷ ys)) (count_l c (y ∷ ys) ≡ 0)
    go true k q = k
    go false k q = false-true q

    more : (b : Bool) → ind c y ≡ 0 → pick b (1 ≤ count_l c ys) (count_l c ys ≡ 0) → pick b (1 ≤ count_l c (y ∷ ys)) (count_l c (y ∷ ys) ≡ 0)
    more true z k = omega arith
    more false z k = omega arith

ring_count : (x s : ℕ) (t : Tree) → count_l x (ring_of s t) ≤ count x t
ring_count x s leaf = omega arith
ring_count x s (node p ps s₀ l r) =
    pick_case (λ v. count_l x v ≤ count x (node p ps s₀ l r)) (eqb s s₀) (λ _. omega arith)
    (λ _. omega (arith, count_l_append x (ring_of s l) (ring_of s r), ring_count x s l, ring_count x s r))

-- ---- a member leaves

-- the deepest descendant's ring, and the others'
deep_here : (s k lo : ℕ) (t : Tree) → Shaped k lo t → Full t → s ≡ deep_s t → ring_of s t ≡ deep_p t ∷ deep_r t
deep_here s zero lo leaf h n q = absurd n
deep_here s (suc k) lo leaf h n q = absurd n
deep_here s zero lo (node p ps s₀ leaf leaf) h n q = ring_here s p ps s₀ leaf leaf q
deep_here s (suc k) lo (node p ps s₀ leaf leaf) h n q = ring_here s p ps s₀ leaf leaf q
deep_here s zero lo (node p ps s₀ (node p₁ ps₁ s₁ l₁ r₁) leaf) h n q = absurd h.1
deep_here s (suc k) lo (node p ps s₀ (node p₁ ps₁ s₁ l₁ r₁) leaf) h n q =
    let t = node p₁ ps₁ s₁ l₁ r₁ in
    ring_else s p ps s₀ t leaf (λ u. all_deep (λ x. x ≡ s₀ → ⊥) t tt h.2 (sym q ∙ u)) ∙ append-nil (ring_of s t) ∙ deep_here s k lo t h.4 tt q
deep_here s zero lo (node p ps s₀ l (node p₂ ps₂ s₂ l₂ r₂)) h n q = absurd h.2
deep_here s (suc k) lo (node p ps s₀ l (node p₂ ps₂ s₂ l₂ r₂)) h n q =
    let t = node p₂ ps₂ s₂ l₂ r₂ in
    let b = all_deep (Between (lo + wid k) (lo + wid k + wid k)) t tt (range k (lo + wid k) t h.5) in
    ring_else s p ps s₀ l t (λ u. all_deep (λ x. x ≡ s₀ → ⊥) t tt h.3 (sym q ∙ u))
    ∙ ap₂ (λ x y. x ++ y) (outside k lo s l h.4 (λ a. omega arith)) (deep_here s k (lo + wid k) t h.5 tt q)

deep_else : (s : ℕ) (t : Tree) → (s ≡ deep_s t → ⊥) → ring_of s t ≡ ring_of s (rest t)
deep_else s leaf n = refl
deep_else s (node p ps s₀ leaf leaf) n = ring_else s p ps s₀ leaf leaf n
deep_else s (node p ps s₀ (node p₁ ps₁ s₁ l₁ r₁) leaf) n = ap (λ z. pick (eqb s s₀) (p ∷ ps) (z ++ [])) (deep_else s (node p₁ ps₁ s₁ l₁ r₁) n)
deep_else s (node p ps s₀ l (node p₂ ps₂ s₂ l₂ r₂)) n = ap (λ z. pick (eqb s s₀) (p ∷ ps) (ring_of s l ++ z)) (deep_else s (node p₂ ps₂ s₂ l₂ r₂) n)

ring_cut : (s p : ℕ) (ps : List ℕ) (s₀ k lo : ℕ) (l r : Tree) → Shaped k lo (node p ps s₀ l r) → ring_of s (cut l r) ≡ ring_of s l ++ ring_of s r
ring_cut s p ps s₀ k lo leaf leaf h = refl
ring_cut s p ps s₀ zero lo (node p₁ ps₁ s₁ l₁ r₁) leaf h = absurd h.1
ring_cut s p ps s₀ (suc k) lo (node p₁ ps₁ s₁ l₁ r₁) leaf h =
    let t = node p₁ ps₁ s₁ l₁ r₁ in
    ⊎_elim (λ q. ring_here s (deep_p t) (deep_r t) (deep_s t) (rest t) leaf q ∙ sym (append-nil (ring_of s t) ∙ deep_here s k lo t h.4 tt q))
    (λ n. ring_else s (deep_p t) (deep_r t) (deep_s t) (rest t) leaf n ∙ ap (λ z. z ++ []) (sym (deep_else s t n)))
    (same? s (deep_s t))
ring_cut s p ps s₀ zero lo l (node p₂ ps₂ s₂ l₂ r₂) h = absurd h.2
ring_cut s p ps s₀ (suc k) lo l (node p₂ ps₂ s₂ l₂ r₂) h =
    let t = node p₂ ps₂ s₂ l₂ r₂ in
    let b = all_deep (Between (lo + wid k) (lo + wid k + wid k)) t tt (range k (lo + wid k) t h.5) in
    ⊎_elim
    (λ q. ring_here s (deep_p t) (deep_r t) (deep_s t) l (rest t) q ∙ sym (ap₂ (λ x y. x ++ y) (outside k lo s l h.4 (λ a. omega arith)) (deep_here s k (lo + wid k) t h.5 tt q)))
    (λ n. ring_else s (deep_p t) (deep_r t) (deep_s t) l (rest t) n ∙ ap (λ z. ring_of s l ++ z) (sym (deep_else s t n)))
    (same? s (deep_s t))

-- a node's own size is not below it
alone : (s p : ℕ) (ps : List ℕ) (s₀ k lo : ℕ) (l r : Tree) → Shaped k lo (node p ps s₀ l r) → s ≡ s₀ → ring_of s l ++ ring_of s r ≡ []
alone s p ps s₀ zero lo leaf leaf h q = refl
alone s p ps s₀ zero lo leaf (node p₂ ps₂ s₂ l₂ r₂) h q = absurd h.2
alone s p ps s₀ zero lo (node p₁ ps₁ s₁ l₁ r₁) r h q = absurd h.1
alone s p ps s₀ (suc k) lo l r h q =
    ap₂ (λ x y. x ++ y) (ring_none s l (all_map (λ x n u. n (u ∙ q)) l h.2)) (ring_none s r (all_map (λ x n u. n (u ∙ q)) r h.3))

module _ (c s k lo p : ℕ) (ps : List ℕ) (s₀ : ℕ) (l r : Tree) (h : Shaped k lo (node p ps s₀ l r)) (d : Distinct (node p ps s₀ l r)) where
  abbrev After : Tree → Type 0
  After t = ring_of s t ≡ remove c (ring_of s (node p ps s₀ l r))

  -- the rings below, if c is not in them
  untouched : count c l + count c r ≡ 0 → ring_of s l ++ ring_of s r ≡ remove c (ring_of s l ++ ring_of s r)
  untouched z = sym (remove_none c (ring_of s l ++ ring_of s r) (omega (arith, count_l_append c (ring_of s l) (ring_of s r), ring_count c s l, ring_count c s r)))

  -- by whether s is the node's own size
  by_size : (t : Tree) → (s ≡ s₀ → ring_of s t ≡ remove c (p ∷ ps)) → ((s ≡ s₀ → ⊥) → ring_of s t ≡ remove c (ring_of s l ++ ring_of s r)) → After t
  by_size t f g =
      ⊎_elim (λ q. f q ∙ ap (remove c) (sym (ring_here s p ps s₀ l r q))) (λ n. g n ∙ ap (remove c) (sym (ring_else s p ps s₀ l r n))) (same? s s₀)

  -- the tree member leaves
  loses : c ≡ p → (xs : List ℕ) → ps ≡ xs → After (lose xs s₀ l r)
  loses u xs v = by_size (lose xs s₀ l r) (λ q. own xs q ∙ sym (rw (eq-eqb c p u) v)) (λ n. other xs n ∙ untouched (omega (arith, d c, ind_eq c p u)))
    where
      own : (xs : List ℕ) → s ≡ s₀ → ring_of s (lose xs s₀ l r) ≡ xs
      own [] q = ring_cut s p ps s₀ k lo l r h ∙ alone s p ps s₀ k lo l r h q
      own (y ∷ ys) q = ring_here s y ys s₀ l r q

      other : (xs : List ℕ) → (s ≡ s₀ → ⊥) → ring_of s (lose xs s₀ l r) ≡ ring_of s l ++ ring_of s r
      other [] n = ring_cut s p ps s₀ k lo l r h
      other (y ∷ ys) n = ring_else s y ys s₀ l r n

  unlink_node : ring_of s (unlink c l) ≡ remove c (ring_of s l) → ring_of s (unlink c r) ≡ remove c (ring_of s r) → After (unlink c (node p ps s₀ l r))
  unlink_node f g =
      pick_case After (eqb c p) (λ z. loses (eqb-true c p z) ps refl)
      (λ z. let n = eqb-false c p z in
      pick_case After (memb c ps)
      (λ b. by_size (node p (remove c ps) s₀ l r) (λ q. ring_here s p (remove c ps) s₀ l r q ∙ sym (rw (ne_eqb c p n)))
      (λ m. ring_else s p (remove c ps) s₀ l r m ∙ untouched (omega (arith, d c, memb-count c ps true b))))
      (λ b. by_size (node p ps s₀ (unlink c l) (unlink c r)) (λ q. ring_here s p ps s₀ (unlink c l) (unlink c r) q ∙ sym (rw (ne_eqb c p n) (ap (λ v. p ∷ v) (remove_none c ps (memb-count c ps false b)))))
      (λ m. ring_else s p ps s₀ (unlink c l) (unlink c r) m ∙ ap₂ (λ x y. x ++ y) f g ∙ sym (remove_append c (ring_of s l) (ring_of s r) (omega (arith, d c, ring_count c s l, ring_count c s r))))))

pub ring_unlink : (c s k lo : ℕ) (t : Tree) → Shaped k lo t → Distinct t → ring_of s (unlink c t) ≡ remove c (ring_of s t)
ring_unlink c s k lo leaf h d = refl
ring_unlink c s zero lo (node p ps s₀ leaf leaf) h d = unlink_node c s zero lo p ps s₀ leaf leaf h d refl refl
ring_unlink c s zero lo (node p ps s₀ leaf (node p₂ ps₂ s₂ l₂ r₂)) h d = absurd h.2
ring_unlink c s zero lo (node p ps s₀ (node p₁ ps₁ s₁ l₁ r₁) r) h d = absurd h.1
ring_unlink c s (suc k) lo (node p ps s₀ l r) h d =
    unlink_node c s (suc k) lo p ps s₀ l r h d (ring_unlink c s k lo l h.4 (λ x. omega (arith, d x))) (ring_unlink c s k (lo + wid k) r h.5 (λ x. omega (arith, d x)))

-- and no place stands more often than before
pub unlink-less : (x c : ℕ) (t : Tree) → count x (unlink c t) ≤ count x t
unlink-less x c leaf = omega arith
unlink-less x c (node p ps s l r) =
    pick_case P (eqb c p) (λ _. omega (arith, count-lose x ps s l r))
    (λ _. pick_case P (memb c ps) (λ _. omega (arith, remove-less x c ps)) (λ _. omega (arith, unlink-less x c l, unlink-less x c r)))
  where
    P : Tree → Type 0
    P t = count x t ≤ count x (node p ps s l r)
