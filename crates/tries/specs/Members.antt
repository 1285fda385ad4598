-- What the memory says of a tree bin's members; and that it settles the tree: one root link, one tree.
-- Assumes nothing.
use Rattle.std.specs.Prelude.{◌≡◌, refl, List, [], ◌∷◌, ℕ, ◌≤◌}
use Rattle.std.proofs.Common.{sym, ◌∙◌, ap, subst, inl, inr, ⊎_elim, arith}
use Rattle.words.specs.Edition.{Edition, none_free, enc, head, enc_inj}
use Rattle.words.specs.Fields.{Mem, ind_eq, ind_ne, ind_self, count_l}
use Rattle.words.specs.Logic.{same?}
use Rattle.tries.specs.Tree.{Tree, leaf, node, count, All, Has, Distinct}
use Rattle.tries.specs.TreeAt.{link, Chain, Others, TreeAt}

others_at : (e : Edition) (m : Mem) (i s x : ℕ) (ps : List ℕ) → 1 ≤ count_l x ps → Others e m i s ps → m x 1 ≡ head e s
others_at e m i s x [] u h = absurd (omega arith)
others_at e m i s x (p ∷ ps) u h =
    ⊎_elim (λ q. ap (λ z. m z 1) q ∙ h.0.headed) (λ n. others_at e m i s x ps (omega (arith, ind_ne x p n)) h.2) (same? x p)

-- a member's head says a size of the tree
pub member_at : (e : Edition) (m : Mem) (i par : ℕ) (P : ℕ → Type 0) (x : ℕ) (t : Tree) → 1 ≤ count x t → All P t → TreeAt e m i par t → (s : ℕ) × (m x 1 ≡ head e s) × P s
member_at e m i par P x leaf u a h = absurd (omega arith)
member_at e m i par P x (node p ps s l r) u a h =
    ⊎_elim (λ q. (s, ap (λ z. m z 1) q ∙ h.0.member.headed, a.0))
    (λ np. ⊎_elim
    (λ z. ⊎_elim
    (λ y. member_at e m i (enc e p) P x r (omega (arith, ind_ne x p np)) a.2 h.3)
    (λ y. member_at e m i (enc e p) P x l (omega arith) a.1 h.2)
    (same? (count x l) 0))
    (λ z. (s, others_at e m i s x ps (omega arith) h.0.others, a.0))
    (same? (count_l x ps) 0))
    (same? x p)

head_inj : (e : Edition) (s t : ℕ) → head e s ≡ head e t → s ≡ t
head_inj e s t h = enc_inj e s t (omega arith)

-- two ways round a ring back to z, which stands in neither, are the same
chain_unique : (e : Edition) (m : Mem) (a z : ℕ) (ps qs : List ℕ) → count_l z ps ≡ 0 → count_l z qs ≡ 0 → Chain e m a ps z → Chain e m a qs z → ps ≡ qs
chain_unique e m a z [] [] n k h g = refl
chain_unique e m a z [] (y ∷ ys) n k h g = absurd (let b : ⊥ = omega (arith, ind_eq z y (enc_inj e z y (sym h.0 ∙ g.0))) in b)
chain_unique e m a z (x ∷ xs) [] n k h g = absurd (let b : ⊥ = omega (arith, ind_eq z x (enc_inj e z x (sym g.0 ∙ h.0))) in b)
chain_unique e m a z (x ∷ xs) (y ∷ ys) n k h g =
    let q : x ≡ y = enc_inj e x y (sym h.0 ∙ g.0) in
    let r : xs ≡ ys = chain_unique e m x z xs ys (omega arith) (omega arith) h.2 (subst (λ v. Chain e m v ys z) (sym q) g.2) in
    cc (q, r)

node_eq : (p q : ℕ) (ps qs : List ℕ) (s s' : ℕ) (l l' r r' : Tree) → p ≡ q → ps ≡ qs → s ≡ s' → l ≡ l' → r ≡ r' → node p ps s l r ≡ node q qs s' l' r'
node_eq p q ps qs s s' l l' r r' a b c d f = cc (a, b, c, d, f)

pub tree_unique : (e : Edition) (m : Mem) (i par par' : ℕ) (t t' : Tree) → Distinct t → Distinct t' → link e t ≡ link e t' → TreeAt e m i par t → TreeAt e m i par' t' → t ≡ t'
tree_unique e m i par par' leaf leaf d d' u h g = refl
tree_unique e m i par par' leaf (node p ps s l r) d d' u h g = absurd (none_free e p (sym u))
tree_unique e m i par par' (node p ps s l r) leaf d d' u h g = absurd (none_free e p u)
tree_unique e m i par par' (node p ps s l r) (node q qs s' l' r') d d' u h g =
    let z : p ≡ q = enc_inj e p q u in
    node_eq p q ps qs s s' l l' r r' z
    (chain_unique e m p p ps qs (omega (arith, d p, ind_self p)) (omega (arith, d' p, ind_eq p q z)) h.0.ring (subst (λ v. Chain e m v qs v) (sym z) g.0.ring))
    (head_inj e s s' (sym h.0.member.headed ∙ ap (λ v. m v 1) z ∙ g.0.member.headed))
    (tree_unique e m i (enc e p) (enc e q) l l' (λ x. omega (arith, d x)) (λ x. omega (arith, d' x)) (sym h.1.child0 ∙ ap (λ v. m v 4) z ∙ g.1.child0) h.2 g.2)
    (tree_unique e m i (enc e p) (enc e q) r r' (λ x. omega (arith, d x)) (λ x. omega (arith, d' x)) (sym h.1.child1 ∙ ap (λ v. m v 5) z ∙ g.1.child1) h.3 g.3)

-- a find of the search is a member, and its head says the size
pub has_at : (e : Edition) (m : Mem) (i par x s : ℕ) (t : Tree) → Has x s t → TreeAt e m i par t → (1 ≤ count x t) × (m x 1 ≡ head e s)
has_at e m i par x s leaf u h = absurd u
has_at e m i par x s (node p ps s₀ l r) (inl u) h = (omega (arith, ind_eq x p u.0), ap (λ z. m z 1) u.0 ∙ h.0.member.headed ∙ ap (head e) (sym u.1))
has_at e m i par x s (node p ps s₀ l r) (inr (inl u)) h = let q = has_at e m i (enc e p) x s l u h.2 in (omega (arith, q.0), q.1)
has_at e m i par x s (node p ps s₀ l r) (inr (inr u)) h = let q = has_at e m i (enc e p) x s r u h.3 in (omega (arith, q.0), q.1)

pub has_all : (P : ℕ → Type 0) (x s : ℕ) (t : Tree) → All P t → Has x s t → P s
has_all P x s leaf a u = absurd u
has_all P x s (node p ps s₀ l r) a (inl u) = subst P (sym u.1) a.0
has_all P x s (node p ps s₀ l r) a (inr (inl u)) = has_all P x s l a.1 u
has_all P x s (node p ps s₀ l r) a (inr (inr u)) = has_all P x s r a.2 u
