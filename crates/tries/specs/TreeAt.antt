-- A tree bin in memory: rings, children, parents. All of it is over fields of places, not over words.
use Rattle.std.specs.Prelude.{◌≡◌, Bool, false, List, [], ◌∷◌, ◌++◌, ℕ, ◌+◌, ◌≤◌, ◌<◌, T, eqb, ltb}
use Rattle.std.proofs.Common.{sym, ◌∙◌, ap, ⊎_elim, arith, ltb→lt, ne_eqb}
use Rattle.std.proofs.lemmas.Bool.{eqb-false}
use Rattle.words.specs.Fields.{Mem, ind, ind_ne, ind_self, count_l}
use Rattle.words.specs.Logic.{pick, pick_case, same?}
use Rattle.words.specs.Edition.{Edition, no_link, enc, head}
use Rattle.tries.specs.Tree.{Tree, leaf, node, count}

abbrev pub link : Edition → Tree → ℕ
link e leaf = no_link e
link e (node p ps s l r) = enc e p

-- fields: 1 head, 2 prev, 3 next, 4 and 5 children, 6 parent, 7 bin index
-- from a along `next` through ps to z, and back along `prev`
abbrev pub Chain : Edition → Mem → ℕ → List ℕ → ℕ → Type 0
Chain e m a [] z = (m a 3 ≡ enc e z) × (m z 2 ≡ enc e a)
Chain e m a (b ∷ bs) z = (m a 3 ≡ enc e b) × (m b 2 ≡ enc e a) × Chain e m b bs z

pub record Member (e : Edition) (m : Mem) (i s x : ℕ) : Type 0 where
  pub headed : m x 1 ≡ head e s
  pub index : m x 7 ≡ i

-- the fields that tie a place into the tree
pub record Knot (m : Mem) (x up left right : ℕ) : Type 0 where
  pub parent : m x 6 ≡ up
  pub child0 : m x 4 ≡ left
  pub child1 : m x 5 ≡ right

-- the others of a ring: no parent, no children
abbrev pub Others : Edition → Mem → ℕ → ℕ → List ℕ → Type 0
Others e m i s [] = Unit
Others e m i s (x ∷ xs) = Member e m i s x × Knot m x (no_link e) (no_link e) (no_link e) × Others e m i s xs

pub record RingAt (e : Edition) (m : Mem) (i p : ℕ) (ps : List ℕ) (s : ℕ) : Type 0 where
  pub member : Member e m i s p
  pub others : Others e m i s ps
  pub ring : Chain e m p ps p

abbrev pub TreeAt : Edition → Mem → ℕ → ℕ → Tree → Type 0
TreeAt e m i par leaf = Unit
TreeAt e m i par (node p ps s l r) =
    RingAt e m i p ps s × Knot m p par (link e l) (link e r) × TreeAt e m i (enc e p) l × TreeAt e m i (enc e p) r

-- Frame: what holds of m holds of a memory that agrees on the members, but for some fields. At a numeral the test computes, so `a 6 tt` is field 6.

abbrev pub but : List ℕ → ℕ → Bool
but [] j = pick (eqb j 0) false (ltb j 8)
but (k ∷ ks) j = pick (eqb j k) false (but ks j)

pub but_lt : (j : ℕ) → T (but [] j) → j < 8
but_lt j = pick_case (λ b. T b → j < 8) (eqb j 0) (λ e h. absurd h) (λ e h. ltb→lt j 8 h)

pub but_pos : (j : ℕ) → T (but [] j) → 1 ≤ j
but_pos j = pick_case (λ b. T b → 1 ≤ j) (eqb j 0) (λ e h. absurd h) (λ e h. let n = eqb-false j 0 e in omega arith)

abbrev pub AgreeBut : List ℕ → Mem → Mem → ℕ → Type 0
AgreeBut ks m m' x = (j : ℕ) → T (but ks j) → m' x j ≡ m x j

abbrev pub Agree : Mem → Mem → ℕ → Type 0
Agree = AgreeBut []

pub but_tail : (k : ℕ) (ks : List ℕ) (j : ℕ) → T (but (k ∷ ks) j) → T (but ks j)
but_tail k ks j = pick_case (λ b. T b → T (but ks j)) (eqb j k) (λ e. absurd) (λ e h. h)

pub but_head : (k : ℕ) (ks : List ℕ) (j : ℕ) → T (but (k ∷ ks) j) → j ≡ k → ⊥
but_head k ks j = pick_case (λ b. T b → j ≡ k → ⊥) (eqb j k) (λ e h u. h) (λ e h. eqb-false j k e)

pub weaker : (k : ℕ) (ks : List ℕ) (m m' : Mem) (x : ℕ) → AgreeBut ks m m' x → AgreeBut (k ∷ ks) m m' x
weaker k ks m m' x a j h = a j (but_tail k ks j h)

but_intro : (k : ℕ) (ks : List ℕ) (j : ℕ) → (j ≡ k → ⊥) → T (but ks j) → T (but (k ∷ ks) j)
but_intro k ks j n h = rw (ne_eqb j k n) h

only4 : (j : ℕ) → T (but (4 ∷ 5 ∷ 6 ∷ []) j) → T (but (4 ∷ []) j)
only4 j v = but_intro 4 [] j (but_head 4 (5 ∷ 6 ∷ []) j v) (but_tail 6 [] j (but_tail 5 (6 ∷ []) j (but_tail 4 (5 ∷ 6 ∷ []) j v)))

only5 : (j : ℕ) → T (but (4 ∷ 5 ∷ 6 ∷ []) j) → T (but (5 ∷ []) j)
only5 j v =
    let u = but_tail 4 (5 ∷ 6 ∷ []) j v in
    but_intro 5 [] j (but_head 5 (6 ∷ []) j u) (but_tail 6 [] j (but_tail 5 (6 ∷ []) j u))

module _ (e : Edition) (m m' : Mem) where
  pub keep_member : {i s x : ℕ} → m' x 1 ≡ m x 1 → m' x 7 ≡ m x 7 → Member e m i s x → Member e m' i s x
  keep_member a b h = record { headed = a ∙ h.headed; index = b ∙ h.index }

  pub keep_knot : {x up left right : ℕ} → m' x 6 ≡ m x 6 → m' x 4 ≡ m x 4 → m' x 5 ≡ m x 5 → Knot m x up left right → Knot m' x up left right
  keep_knot a b c h = record { parent = a ∙ h.parent; child0 = b ∙ h.child0; child1 = c ∙ h.child1 }

  -- the links of a ring may change
  pub keep_others : (i s : ℕ) (ps : List ℕ) → ((x : ℕ) → 1 ≤ count_l x ps → AgreeBut (2 ∷ 3 ∷ []) m m' x) → Others e m i s ps → Others e m' i s ps
  keep_others i s [] k h = tt
  keep_others i s (x ∷ xs) k h =
      let a = k x (omega (arith, ind_self x)) in
      (keep_member (a 1 tt) (a 7 tt) h.0, keep_knot (a 6 tt) (a 4 tt) (a 5 tt) h.1, keep_others i s xs (λ y u. k y (omega arith)) h.2)

  pub keep_chain : (a : ℕ) (ps : List ℕ) (z : ℕ) → ((x : ℕ) → 1 ≤ ind x a + count_l x ps → m' x 3 ≡ m x 3) → ((x : ℕ) → 1 ≤ count_l x ps → m' x 2 ≡ m x 2) → m' z 2 ≡ m z 2 → Chain e m a ps z → Chain e m' a ps z
  keep_chain a [] z kn kp kz h = (kn a (omega (arith, ind_self a)) ∙ h.0, kz ∙ h.1)
  keep_chain a (b ∷ bs) z kn kp kz h =
      (kn a (omega (arith, ind_self a)) ∙ h.0, kp b (omega (arith, ind_self b)) ∙ h.1, keep_chain b bs z (λ x u. kn x (omega arith)) (λ x u. kp x (omega arith)) kz h.2)

  -- the parent and the children of the tree member may change
  pub keep_ring : (i p : ℕ) (ps : List ℕ) (s : ℕ) → AgreeBut (4 ∷ 5 ∷ 6 ∷ []) m m' p → ((x : ℕ) → 1 ≤ count_l x ps → Agree m m' x) → RingAt e m i p ps s → RingAt e m' i p ps s
  keep_ring i p ps s kp k h =
      record {
        member = keep_member (kp 1 tt) (kp 7 tt) h.member;
        others = keep_others i s ps (λ x u. weaker 2 (3 ∷ []) m m' x (weaker 3 [] m m' x (k x u))) h.others;
        ring = keep_chain p ps p (λ x u. ⊎_elim (λ q. ap (λ y. m' y 3) q ∙ kp 3 tt ∙ ap (λ y. m y 3) (sym q)) (λ n. k x (omega (arith, ind_ne x p n)) 3 tt) (same? x p)) (λ x u. k x u 2 tt) (kp 2 tt) h.ring;
      }

  -- the frame lemma
  pub keep : (i par : ℕ) (t : Tree) → ((x : ℕ) → 1 ≤ count x t → Agree m m' x) → TreeAt e m i par t → TreeAt e m' i par t
  keep i par leaf k h = tt
  keep i par (node p ps s l r) k h =
      let kp = k p (omega (arith, ind_self p)) in (
        keep_ring i p ps s (weaker 4 (5 ∷ 6 ∷ []) m m' p (weaker 5 (6 ∷ []) m m' p (weaker 6 [] m m' p kp))) (λ x u. k x (omega arith)) h.0,
        keep_knot (kp 6 tt) (kp 4 tt) (kp 5 tt) h.1,
        keep i (enc e p) l (λ x u. k x (omega arith)) h.2,
        keep i (enc e p) r (λ x u. k x (omega arith)) h.3,
      )

  -- another tree below a node, on the right and on the left
  pub graft_right : (i par p : ℕ) (ps : List ℕ) (s : ℕ) (l r r' : Tree) → AgreeBut (5 ∷ []) m m' p → ((x : ℕ) → 1 ≤ count_l x ps + count x l → Agree m m' x) → m' p 5 ≡ link e r' → TreeAt e m' i (enc e p) r' → TreeAt e m i par (node p ps s l r) → TreeAt e m' i par (node p ps s l r')
  graft_right i par p ps s l r r' kp k c g h = (
    keep_ring i p ps s (λ j v. kp j (only5 j v)) (λ x u. k x (omega arith)) h.0,
    record { parent = kp 6 tt ∙ h.1.parent; child0 = kp 4 tt ∙ h.1.child0; child1 = c },
    keep i (enc e p) l (λ x u. k x (omega arith)) h.2,
    g,
  )

  pub graft_left : (i par p : ℕ) (ps : List ℕ) (s : ℕ) (l r l' : Tree) → AgreeBut (4 ∷ []) m m' p → ((x : ℕ) → 1 ≤ count_l x ps + count x r → Agree m m' x) → m' p 4 ≡ link e l' → TreeAt e m' i (enc e p) l' → TreeAt e m i par (node p ps s l r) → TreeAt e m' i par (node p ps s l' r)
  graft_left i par p ps s l r l' kp k c g h = (
    keep_ring i p ps s (λ j v. kp j (only4 j v)) (λ x u. k x (omega arith)) h.0,
    record { parent = kp 6 tt ∙ h.1.parent; child0 = c; child1 = kp 5 tt ∙ h.1.child1 },
    g,
    keep i (enc e p) r (λ x u. k x (omega arith)) h.3,
  )

-- Rings

abbrev pub last : ℕ → List ℕ → ℕ
last a [] = a
last a (b ∷ bs) = last b bs

pub last_in : (a : ℕ) (ps : List ℕ) → 1 ≤ ind (last a ps) a + count_l (last a ps) ps
last_in a [] = omega (arith, ind_self a)
last_in a (b ∷ bs) = omega (arith, last_in b bs)

pub chain_last : (e : Edition) (m : Mem) (a : ℕ) (ps : List ℕ) (z : ℕ) → Chain e m a ps z → m z 2 ≡ enc e (last a ps)
chain_last e m a [] z h = h.1
chain_last e m a (b ∷ bs) z h = chain_last e m b bs z h.2

pub chain_append : (e : Edition) (m : Mem) (a : ℕ) (xs : List ℕ) (b : ℕ) (ys : List ℕ) (z : ℕ) → Chain e m a xs b → Chain e m b ys z → Chain e m a (xs ++ b ∷ ys) z
chain_append e m a [] b ys z h g = (h.0, h.1, g)
chain_append e m a (x ∷ xs) b ys z h g = (h.0, h.1, chain_append e m x xs b ys z h.2 g)

pub chain_split : (e : Edition) (m : Mem) (a : ℕ) (xs : List ℕ) (b : ℕ) (ys : List ℕ) (z : ℕ) → Chain e m a (xs ++ b ∷ ys) z → Chain e m a xs b × Chain e m b ys z
chain_split e m a [] b ys z h = ((h.0, h.1), h.2)
chain_split e m a (x ∷ xs) b ys z h = let g = chain_split e m x xs b ys z h.2 in ((h.0, h.1, g.0), g.1)

-- the chain's end is led to another place
pub chain_turn : (e : Edition) (m m' : Mem) (a : ℕ) (ps : List ℕ) (z z' : ℕ)
    → ((x : ℕ) → ind x a + count_l x ps ≤ 1)
    → ((x : ℕ) → 1 ≤ ind x a + count_l x ps → (x ≡ last a ps → ⊥) → m' x 3 ≡ m x 3)
    → ((x : ℕ) → 1 ≤ count_l x ps → m' x 2 ≡ m x 2)
    → m' (last a ps) 3 ≡ enc e z' → m' z' 2 ≡ enc e (last a ps) → Chain e m a ps z → Chain e m' a ps z'
chain_turn e m m' a [] z z' d kn kp n p h = (n, p)
chain_turn e m m' a (b ∷ bs) z z' d kn kp n p h = (
  kn a (omega (arith, ind_self a)) (λ q. omega (arith, ind_self a, d a, last_in b bs, ap (λ x. ind x b + count_l x bs) q)) ∙ h.0,
  kp b (omega (arith, ind_self b)) ∙ h.1,
  chain_turn e m m' b bs z z' (λ x. omega (arith, d x)) (λ x u. kn x (omega arith)) (λ x u. kp x (omega arith)) n p h.2,
)
