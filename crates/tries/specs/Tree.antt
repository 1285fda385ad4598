-- Tree bins, without words: a node has the place p of its tree member, the other places ps of its ring in the order of `next`, its size s, and two children.
use Rattle.std.specs.Prelude.{◌≡◌, refl, Bool, true, false, List, [], ◌∷◌, ◌++◌, ◌⊎◌, ℕ, zero, suc, ◌+◌, ◌≤◌, eqb}
use Rattle.std.proofs.Common.{arith}
use Rattle.words.specs.Logic.{pick, pick_case}
use Rattle.words.specs.Fields.{ind, count_l, count_l_append}
use Rattle.words.specs.Places.{remove}
use Rattle.tries.specs.Bits.{bit}

pub data Tree : Type 0 where
  leaf : Tree
  node : (p : ℕ) (ps : List ℕ) (s : ℕ) (l r : Tree) → Tree

abbrev pub is_leaf : Tree → Bool
is_leaf leaf = true
is_leaf (node p ps s l r) = false

-- How often a place stands in a list, in a tree. That places differ is said by counts, so that `omega` shows it.
abbrev pub count : ℕ → Tree → ℕ
count x leaf = 0
count x (node p ps s l r) = ind x p + count_l x ps + (count x l + count x r)

abbrev pub Distinct : Tree → Type 0
Distinct t = (x : ℕ) → count x t ≤ 1

-- every node's size
abbrev pub All : (ℕ → Type 0) → Tree → Type 0
All P leaf = Unit
All P (node p ps s l r) = P s × All P l × All P r

-- x is the tree member of a node of size s
abbrev pub Has : ℕ → ℕ → Tree → Type 0
Has x s leaf = ⊥
Has x s (node p ps s₀ l r) = ((x ≡ p) × (s ≡ s₀)) ⊎ (Has x s l ⊎ Has x s r)

pub all_map : {P Q : ℕ → Type 0} → ((s : ℕ) → P s → Q s) → (t : Tree) → All P t → All Q t
all_map f leaf a = tt
all_map f (node p ps s l r) a = (f s a.0, all_map f l a.1, all_map f r a.2)

-- A newcomer q of size s. The bit below k chooses the child. A ring's newcomer goes before the tree member, so last in the order of `next`.
abbrev pub insert : ℕ → ℕ → ℕ → Tree → Tree
insert q s k leaf = node q [] s leaf leaf
insert q s zero (node p ps s₀ l r) = node p (ps ++ q ∷ []) s₀ l r
insert q s (suc k) (node p ps s₀ l r) =
    pick (eqb s s₀) (node p (ps ++ q ∷ []) s₀ l r)
    (pick (bit k s) (node p ps s₀ l (insert q s k r)) (node p ps s₀ (insert q s k l) r))

pub count-insert : (x q s k : ℕ) (t : Tree) → count x (insert q s k t) ≡ count x t + ind x q
count-insert x q s k leaf = omega arith
count-insert x q s zero (node p ps s₀ l r) = omega (arith, count_l_append x ps (q ∷ []))
count-insert x q s (suc k) (node p ps s₀ l r) =
    pick_case P (eqb s s₀) (λ e. omega (arith, count_l_append x ps (q ∷ [])))
    (λ e. pick_case P (bit k s) (λ f. omega (arith, count-insert x q s k r)) (λ f. omega (arith, count-insert x q s k l)))
  where
    P : Tree → Type 0
    P t = count x t ≡ count x (node p ps s₀ l r) + ind x q

pub all_insert : (P : ℕ → Type 0) (q s k : ℕ) (t : Tree) → P s → All P t → All P (insert q s k t)
all_insert P q s k leaf h a = (h, tt, tt)
all_insert P q s zero (node p ps s₀ l r) h a = a
all_insert P q s (suc k) (node p ps s₀ l r) h a =
    pick_case (All P) (eqb s s₀) (λ e. a)
    (λ e.
    pick_case (All P) (bit k s) (λ f. (a.0, a.1, all_insert P q s k r h a.2))
    (λ f. (a.0, all_insert P q s k l h a.1, a.2)))

-- The deepest descendant, reached by child 1 before child 0: its place, its ring, its size, and the tree without it.
abbrev pub deep_p : Tree → ℕ
deep_p leaf = 0
deep_p (node p ps s leaf leaf) = p
deep_p (node p ps s (node p₁ ps₁ s₁ l₁ r₁) leaf) = deep_p (node p₁ ps₁ s₁ l₁ r₁)
deep_p (node p ps s l (node p₂ ps₂ s₂ l₂ r₂)) = deep_p (node p₂ ps₂ s₂ l₂ r₂)

abbrev pub deep_r : Tree → List ℕ
deep_r leaf = []
deep_r (node p ps s leaf leaf) = ps
deep_r (node p ps s (node p₁ ps₁ s₁ l₁ r₁) leaf) = deep_r (node p₁ ps₁ s₁ l₁ r₁)
deep_r (node p ps s l (node p₂ ps₂ s₂ l₂ r₂)) = deep_r (node p₂ ps₂ s₂ l₂ r₂)

abbrev pub deep_s : Tree → ℕ
deep_s leaf = 0
deep_s (node p ps s leaf leaf) = s
deep_s (node p ps s (node p₁ ps₁ s₁ l₁ r₁) leaf) = deep_s (node p₁ ps₁ s₁ l₁ r₁)
deep_s (node p ps s l (node p₂ ps₂ s₂ l₂ r₂)) = deep_s (node p₂ ps₂ s₂ l₂ r₂)

abbrev pub rest : Tree → Tree
rest leaf = leaf
rest (node p ps s leaf leaf) = leaf
rest (node p ps s (node p₁ ps₁ s₁ l₁ r₁) leaf) = node p ps s (rest (node p₁ ps₁ s₁ l₁ r₁)) leaf
rest (node p ps s l (node p₂ ps₂ s₂ l₂ r₂)) = node p ps s l (rest (node p₂ ps₂ s₂ l₂ r₂))

-- a lone node goes: the deepest descendant takes its place
abbrev pub cut : Tree → Tree → Tree
cut leaf leaf = leaf
cut (node p₁ ps₁ s₁ l₁ r₁) leaf =
    let t = node p₁ ps₁ s₁ l₁ r₁ in node (deep_p t) (deep_r t) (deep_s t) (rest t) leaf
cut l (node p₂ ps₂ s₂ l₂ r₂) =
    let t = node p₂ ps₂ s₂ l₂ r₂ in node (deep_p t) (deep_r t) (deep_s t) l (rest t)

-- the tree member of a node goes: its `next` takes its place, if it has one
abbrev pub lose : List ℕ → ℕ → Tree → Tree → Tree
lose [] s l r = cut l r
lose (x ∷ xs) s l r = node x xs s l r

abbrev pub memb : ℕ → List ℕ → Bool
memb c [] = false
memb c (y ∷ ys) = pick (eqb c y) true (memb c ys)

abbrev pub unlink : ℕ → Tree → Tree
unlink c leaf = leaf
unlink c (node p ps s l r) =
    pick (eqb c p) (lose ps s l r)
    (pick (memb c ps) (node p (remove c ps) s l r)
    (node p ps s (unlink c l) (unlink c r)))

abbrev pub Full : Tree → Type 0
Full leaf = ⊥
Full (node p ps s l r) = Unit

pub count_rest : (x : ℕ) (t : Tree) → Full t → ind x (deep_p t) + count_l x (deep_r t) + count x (rest t) ≡ count x t
count_rest x leaf n = absurd n
count_rest x (node p ps s leaf leaf) n = omega arith
count_rest x (node p ps s (node p₁ ps₁ s₁ l₁ r₁) leaf) n = omega (arith, count_rest x (node p₁ ps₁ s₁ l₁ r₁) tt)
count_rest x (node p ps s l (node p₂ ps₂ s₂ l₂ r₂)) n = omega (arith, count_rest x (node p₂ ps₂ s₂ l₂ r₂) tt)

pub count_cut : (x : ℕ) (l r : Tree) → count x (cut l r) ≡ count x l + count x r
count_cut x leaf leaf = refl
count_cut x (node p₁ ps₁ s₁ l₁ r₁) leaf = omega (arith, count_rest x (node p₁ ps₁ s₁ l₁ r₁) tt)
count_cut x l (node p₂ ps₂ s₂ l₂ r₂) = omega (arith, count_rest x (node p₂ ps₂ s₂ l₂ r₂) tt)

pub count-lose : (x : ℕ) (ps : List ℕ) (s : ℕ) (l r : Tree) → count x (lose ps s l r) ≡ count_l x ps + (count x l + count x r)
count-lose x [] s l r = omega (arith, count_cut x l r)
count-lose x (y ∷ ys) s l r = refl

pub all_rest : (P : ℕ → Type 0) (t : Tree) → All P t → All P (rest t)
all_rest P leaf a = tt
all_rest P (node p ps s leaf leaf) a = tt
all_rest P (node p ps s (node p₁ ps₁ s₁ l₁ r₁) leaf) a = (a.0, all_rest P (node p₁ ps₁ s₁ l₁ r₁) a.1, tt)
all_rest P (node p ps s l (node p₂ ps₂ s₂ l₂ r₂)) a = (a.0, a.1, all_rest P (node p₂ ps₂ s₂ l₂ r₂) a.2)

pub all_deep : (P : ℕ → Type 0) (t : Tree) → Full t → All P t → P (deep_s t)
all_deep P leaf n a = absurd n
all_deep P (node p ps s leaf leaf) n a = a.0
all_deep P (node p ps s (node p₁ ps₁ s₁ l₁ r₁) leaf) n a = all_deep P (node p₁ ps₁ s₁ l₁ r₁) tt a.1
all_deep P (node p ps s l (node p₂ ps₂ s₂ l₂ r₂)) n a = all_deep P (node p₂ ps₂ s₂ l₂ r₂) tt a.2

pub all_cut : (P : ℕ → Type 0) (l r : Tree) → All P l → All P r → All P (cut l r)
all_cut P leaf leaf a b = tt
all_cut P (node p₁ ps₁ s₁ l₁ r₁) leaf a b = (all_deep P (node p₁ ps₁ s₁ l₁ r₁) tt a, all_rest P (node p₁ ps₁ s₁ l₁ r₁) a, tt)
all_cut P l (node p₂ ps₂ s₂ l₂ r₂) a b = (all_deep P (node p₂ ps₂ s₂ l₂ r₂) tt b, a, all_rest P (node p₂ ps₂ s₂ l₂ r₂) b)

pub all_unlink : (P : ℕ → Type 0) (c : ℕ) (t : Tree) → All P t → All P (unlink c t)
all_unlink P c leaf a = tt
all_unlink P c (node p ps s l r) a =
    pick_case (All P) (eqb c p) (λ e. gone ps a)
    (λ e.
    pick_case (All P) (memb c ps) (λ f. a)
    (λ f. (a.0, all_unlink P c l a.1, all_unlink P c r a.2)))
  where
    gone : (xs : List ℕ) → All P (node p ps s l r) → All P (lose xs s l r)
    gone [] h = all_cut P l r h.1 h.2
    gone (y ∷ ys) h = h
