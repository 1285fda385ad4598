-- `insert_large_chunk`: the fields that it writes, and that they make the tree with the newcomer.
use Rattle.std.specs.Prelude.{◌≡◌, refl, Bool, true, false, List, [], ◌∷◌, ◌++◌, ◌⊎◌, ℕ, zero, suc, ◌+◌, ◌≤◌, ◌/◌, eqb}
use Rattle.std.proofs.Common.{sym, ◌∙◌, ap, subst, inl, inr, arith, eqb-true}
use Rattle.words.specs.Fields.{Mem, ind, ind_eq, ind_self, Write, put, count_l}
use Rattle.words.specs.Logic.{pick, pick_case, by}
use Rattle.words.specs.Edition.{Edition, W, no_link, root_mark, enc, head, enc_inj}
use Rattle.tries.specs.Bits.{bit, wid, Aligned, aligned_left, aligned_right, below, above}
use Rattle.tries.specs.Tree.{Tree, leaf, node, is_leaf, count, insert, Full, Distinct}
use Rattle.tries.specs.Shape.{Shaped, Between}
use Rattle.tries.specs.TreeAt.{graft_left, graft_right, but_head, but_tail, weaker, link, Member, Knot, Others, RingAt, TreeAt, Agree, keep, keep_knot, keep_member, keep_others, last, last_in, chain_last, chain_append, chain_turn}

-- where a newcomer goes: into an empty bin, under a node on a side (true: child 1), or into the ring of a node
pub data Spot : Type 0 where
  first : Spot
  slot : Bool → ℕ → Spot
  ring : ℕ → Spot

-- L1: the place search on the fields
abbrev pub locate : Edition → Mem → ℕ → ℕ → ℕ → Spot
locate e m zero s p = ring p
locate e m (suc k) s p =
    let c = m p (pick (bit k s) 5 4) in
    pick (eqb (m p 1) (head e s)) (ring p)
    (pick (eqb c (no_link e)) (slot (bit k s) p) (locate e m k s (c / W e)))

-- with the bin's root link h
abbrev pub locate_bin : Edition → Mem → ℕ → ℕ → ℕ → Spot
locate_bin e m k s h = pick (eqb h (no_link e)) first (locate e m k s (h / W e))

-- L2: the same on the tree
abbrev pub locate_t : ℕ → ℕ → Tree → Spot
locate_t k s leaf = first
locate_t zero s (node p ps s₀ l r) = ring p
locate_t (suc k) s (node p ps s₀ l r) =
    pick (eqb s s₀) (ring p)
    (pick (bit k s) (pick (is_leaf r) (slot true p) (locate_t k s r))
    (pick (is_leaf l) (slot false p) (locate_t k s l)))

-- L1: what is written
abbrev pub tie_writes : Edition → ℕ → ℕ → ℕ → List Write
tie_writes e up i q =
    put q 6 up ∷ put q 2 (enc e q) ∷ put q 3 (enc e q) ∷ put q 4 (no_link e) ∷ put q 5 (no_link e) ∷ put q 7 i ∷ []

abbrev pub insert_writes : Edition → Mem → ℕ → ℕ → Spot → List Write
insert_writes e m i q first = tie_writes e (root_mark e) i q
insert_writes e m i q (slot b p) = put p (pick b 5 4) (enc e q) ∷ tie_writes e (enc e p) i q
insert_writes e m i q (ring p) =
    put (m p 2 / W e) 3 (enc e q) ∷ put p 2 (enc e q) ∷ put q 2 (m p 2) ∷ put q 3 (enc e p)
    ∷ put q 6 (no_link e) ∷ put q 4 (no_link e) ∷ put q 5 (no_link e) ∷ put q 7 i ∷ []

-- the same as a relation of two memories, which is all that the simulation looks at
pub record SlotWrote (e : Edition) (m m' : Mem) (i q s : ℕ) (b : Bool) (p : ℕ) : Type 0 where
  pub newcomer : TreeAt e m' i (enc e p) (node q [] s leaf leaf)
  pub hit : m' p (pick b 5 4) ≡ enc e q
  pub kept : (x j : ℕ) → (x ≡ q → ⊥) → (x ≡ p → j ≡ pick b 5 4 → ⊥) → m' x j ≡ m x j

pub record RingWrote (e : Edition) (m m' : Mem) (i q s p : ℕ) : Type 0 where
  pub member : Member e m' i s q
  pub knot : Knot m' q (no_link e) (no_link e) (no_link e)
  pub prev : m' q 2 ≡ m p 2
  pub next : m' q 3 ≡ enc e p
  pub before : (f : ℕ) → m p 2 ≡ enc e f → m' f 3 ≡ enc e q
  pub after : m' p 2 ≡ enc e q
  pub kept : (x j : ℕ) → (x ≡ q → ⊥) → (m p 2 ≡ enc e x → j ≡ 3 → ⊥) → (x ≡ p → j ≡ 2 → ⊥) → m' x j ≡ m x j

abbrev pub Wrote : Edition → Mem → Mem → ℕ → ℕ → ℕ → Spot → Type 0
Wrote e m m' i q s first = TreeAt e m' i (root_mark e) (node q [] s leaf leaf) × ((x j : ℕ) → (x ≡ q → ⊥) → m' x j ≡ m x j)
Wrote e m m' i q s (slot b p) = SlotWrote e m m' i q s b p
Wrote e m m' i q s (ring p) = RingWrote e m m' i q s p

-- the members that change
abbrev pub Touch : Edition → Mem → Spot → ℕ → Type 0
Touch e m first x = ⊥
Touch e m (slot b p) x = x ≡ p
Touch e m (ring p) x = (x ≡ p) ⊎ (m p 2 ≡ enc e x)

untouched : (e : Edition) (m m' : Mem) (i q s : ℕ) (sp : Spot) → Wrote e m m' i q s sp → (x : ℕ) → (x ≡ q → ⊥) → (Touch e m sp x → ⊥) → Agree m m' x
untouched e m m' i q s first w x n t j h = w.1 x j n
untouched e m m' i q s (slot b p) w x n t j h = w.kept x j n (λ u v. t u)
untouched e m m' i q s (ring p) w x n t j h = w.kept x j n (λ u v. t (inr u)) (λ u v. t (inl u))

-- what changes is in the tree
pub touch_ring : (e : Edition) (m : Mem) (i p : ℕ) (ps : List ℕ) (s : ℕ) → RingAt e m i p ps s → (x : ℕ) → Touch e m (ring p) x → 1 ≤ ind x p + count_l x ps
touch_ring e m i p ps s h x (inl u) = omega (arith, ind_eq x p u)
touch_ring e m i p ps s h x (inr u) =
    let v = enc_inj e (last p ps) x (sym (chain_last e m p ps p h.ring) ∙ u) in
    omega (arith, last_in p ps, ap (λ z. ind z p + count_l z ps) v)

pub touch_in : (e : Edition) (m : Mem) (i par k s : ℕ) (t : Tree) → Full t → TreeAt e m i par t → (x : ℕ) → Touch e m (locate_t k s t) x → 1 ≤ count x t
touch_in e m i par k s leaf f h x = absurd f
touch_in e m i par zero s (node p ps s₀ l r) f h x = λ u. omega (arith, touch_ring e m i p ps s₀ h.0 x u)
touch_in e m i par (suc k) s (node p ps s₀ l r) f h x =
    pick_case P (eqb s s₀) (λ _ u. omega (arith, touch_ring e m i p ps s₀ h.0 x u))
    (λ _.
    pick_case P (bit k s)
    (λ _. side true r (λ g u. omega (arith, touch_in e m i (enc e p) k s r g h.3 x u)))
    (λ _. side false l (λ g u. omega (arith, touch_in e m i (enc e p) k s l g h.2 x u))))
  where
    P : Spot → Type 0
    P sp = Touch e m sp x → 1 ≤ count x (node p ps s₀ l r)

    side : (b : Bool) (c : Tree) → (Full c → P (locate_t k s c)) → P (pick (is_leaf c) (slot b p) (locate_t k s c))
    side b leaf g = λ u. omega (arith, ind_eq x p u)
    side b (node p₁ ps₁ s₁ l₁ r₁) g = g tt

others_snoc : (e : Edition) (m : Mem) (i s : ℕ) (ps : List ℕ) (q : ℕ) → Others e m i s ps → Member e m i s q → Knot m q (no_link e) (no_link e) (no_link e) → Others e m i s (ps ++ q ∷ [])
others_snoc e m i s [] q h a b = (a, b, tt)
others_snoc e m i s (x ∷ xs) q h a b = (h.0, h.1, others_snoc e m i s xs q h.2 a b)

-- by cases on a test that stands in several places
module _ (e : Edition) (m m' : Mem) (i q s : ℕ) where
  -- the ring with the newcomer before the tree member
  ring_sim : (p : ℕ) (ps : List ℕ) (s₀ : ℕ) → RingAt e m i p ps s₀ → s ≡ s₀ → RingWrote e m m' i q s p → ((x : ℕ) → ind x p + count_l x ps ≤ 1) → ind q p + count_l q ps ≡ 0 → RingAt e m' i p (ps ++ q ∷ []) s₀
  ring_sim p ps s₀ h es w d a =
      record {
        member = keep_member e m m' (w.kept p 1 (new p (omega (arith, ind_self p))) (λ u v. omega arith) (λ u v. omega arith)) (w.kept p 7 (new p (omega (arith, ind_self p))) (λ u v. omega arith) (λ u v. omega arith)) h.member;
        others = others_snoc e m' i s₀ ps q
            (keep_others e m m' i s₀ ps (λ x u j v. w.kept x j (new x (omega arith)) (λ y z. but_head 3 [] j (but_tail 2 (3 ∷ []) j v) z) (λ y z. but_head 2 (3 ∷ []) j v z)) h.others)
            (subst (λ z. Member e m' i z q) es w.member) w.knot;
        ring = chain_append e m' p ps q [] p
            (chain_turn e m m' p ps p q d
            (λ x u n. w.kept x 3 (new x u) (λ y _. n (sym (enc_inj e (last p ps) x (sym b ∙ y)))) (λ y z. omega arith))
            (λ x u. w.kept x 2 (new x (omega arith)) (λ y z. omega arith) (λ y _. omega (arith, d p, ind_self p, ap (λ z. count_l z ps) y)))
            (w.before (last p ps) b) (w.prev ∙ b) h.ring)
            (w.next, w.after);
      }
    where
      new : (x : ℕ) → 1 ≤ ind x p + count_l x ps → x ≡ q → ⊥
      new x u y = omega (arith, ap (λ z. ind z p + count_l z ps) y)

      b : m p 2 ≡ enc e (last p ps)
      b = chain_last e m p ps p h.ring

  -- a place of t is no newcomer
  new_in : (t : Tree) → count q t ≡ 0 → (x : ℕ) → 1 ≤ count x t → x ≡ q → ⊥
  new_in t a x u y = omega (arith, ap (λ z. count z t) y)

  at_ring : (par p : ℕ) (ps : List ℕ) (s₀ : ℕ) (l r : Tree) → s ≡ s₀ → Distinct (node p ps s₀ l r) → count q (node p ps s₀ l r) ≡ 0 → TreeAt e m i par (node p ps s₀ l r) → RingWrote e m m' i q s p → TreeAt e m' i par (node p (ps ++ q ∷ []) s₀ l r)
  at_ring par p ps s₀ l r es d a h w = (
    ring_sim p ps s₀ h.0 es w (λ x. omega (arith, d x)) (omega arith),
    keep_knot e m m' (own 6 (λ v. omega arith) (λ v. omega arith)) (own 4 (λ v. omega arith) (λ v. omega arith)) (own 5 (λ v. omega arith) (λ v. omega arith)) h.1,
    keep e m m' i (enc e p) l (λ x u. below_it x (omega arith) (omega arith)) h.2,
    keep e m m' i (enc e p) r (λ x u. below_it x (omega arith) (omega arith)) h.3,
  )
    where
      t : Tree
      t = node p ps s₀ l r

      own : (j : ℕ) → (j ≡ 2 → ⊥) → (j ≡ 3 → ⊥) → m' p j ≡ m p j
      own j n₂ n₃ = w.kept p j (new_in (node p ps s₀ l r) a p (omega (arith, ind_self p))) (λ u v. n₃ v) (λ u v. n₂ v)

      below_it : (x : ℕ) → 1 ≤ count x (node p ps s₀ l r) → 1 ≤ count x l + count x r → Agree m m' x
      below_it x u v = untouched e m m' i q s (ring p) w x (new_in (node p ps s₀ l r) a x u) (λ z. omega (arith, d x, touch_ring e m i p ps s₀ h.0 x z))

  pub link-insert : (k : ℕ) (t : Tree) → Full t → link e (insert q s k t) ≡ link e t
  link-insert k leaf f = absurd f
  link-insert zero (node p ps s₀ l r) f = refl
  link-insert (suc k) (node p ps s₀ l r) f =
      pick_case (λ t. link e t ≡ enc e p) (eqb s s₀) (λ _. refl) (λ _. pick_case (λ t. link e t ≡ enc e p) (bit k s) (λ _. refl) (λ _. refl))

  go_right : (k par p : ℕ) (ps : List ℕ) (s₀ : ℕ) (l r : Tree) → Distinct (node p ps s₀ l r) → count q (node p ps s₀ l r) ≡ 0 → TreeAt e m i par (node p ps s₀ l r) → (Full r → Wrote e m m' i q s (locate_t k s r) → TreeAt e m' i (enc e p) (insert q s k r)) → Wrote e m m' i q s (pick (is_leaf r) (slot true p) (locate_t k s r)) → TreeAt e m' i par (node p ps s₀ l (insert q s k r))
  go_right k par p ps s₀ l leaf d a h ih w =
      graft_right e m m' i par p ps s₀ l leaf (node q [] s leaf leaf)
      (λ j v. w.kept p j (new_in (node p ps s₀ l leaf) a p (omega (arith, ind_self p))) (λ _. but_head 5 [] j v))
      (λ x u j v. w.kept x j (new_in (node p ps s₀ l leaf) a x (omega arith)) (λ y _. omega (arith, d x, ind_eq x p y)))
      w.hit w.newcomer h
  go_right k par p ps s₀ l (node p₁ ps₁ s₁ l₁ r₁) d a h ih w =
      graft_right e m m' i par p ps s₀ l (node p₁ ps₁ s₁ l₁ r₁) (insert q s k (node p₁ ps₁ s₁ l₁ r₁))
      (weaker 5 [] m m' p kp) (λ x u. other x (omega arith)) (kp 5 tt ∙ h.1.child1 ∙ sym (link-insert k (node p₁ ps₁ s₁ l₁ r₁) tt)) (ih tt w) h
    where
      other : (x : ℕ) → 1 ≤ ind x p + count_l x ps + count x l → Agree m m' x
      other x u =
          untouched e m m' i q s (locate_t k s (node p₁ ps₁ s₁ l₁ r₁)) w x (new_in (node p ps s₀ l (node p₁ ps₁ s₁ l₁ r₁)) a x (omega arith))
          (λ z. omega (arith, d x, touch_in e m i (enc e p) k s (node p₁ ps₁ s₁ l₁ r₁) tt h.3 x z))

      kp : Agree m m' p
      kp = other p (omega (arith, ind_self p))

  go_left : (k par p : ℕ) (ps : List ℕ) (s₀ : ℕ) (l r : Tree) → Distinct (node p ps s₀ l r) → count q (node p ps s₀ l r) ≡ 0 → TreeAt e m i par (node p ps s₀ l r) → (Full l → Wrote e m m' i q s (locate_t k s l) → TreeAt e m' i (enc e p) (insert q s k l)) → Wrote e m m' i q s (pick (is_leaf l) (slot false p) (locate_t k s l)) → TreeAt e m' i par (node p ps s₀ (insert q s k l) r)
  go_left k par p ps s₀ leaf r d a h ih w =
      graft_left e m m' i par p ps s₀ leaf r (node q [] s leaf leaf)
      (λ j v. w.kept p j (new_in (node p ps s₀ leaf r) a p (omega (arith, ind_self p))) (λ _. but_head 4 [] j v))
      (λ x u j v. w.kept x j (new_in (node p ps s₀ leaf r) a x (omega arith)) (λ y _. omega (arith, d x, ind_eq x p y)))
      w.hit w.newcomer h
  go_left k par p ps s₀ (node p₁ ps₁ s₁ l₁ r₁) r d a h ih w =
      graft_left e m m' i par p ps s₀ (node p₁ ps₁ s₁ l₁ r₁) r (insert q s k (node p₁ ps₁ s₁ l₁ r₁))
      (weaker 4 [] m m' p kp) (λ x u. other x (omega arith)) (kp 4 tt ∙ h.1.child0 ∙ sym (link-insert k (node p₁ ps₁ s₁ l₁ r₁) tt)) (ih tt w) h
    where
      other : (x : ℕ) → 1 ≤ ind x p + count_l x ps + count x r → Agree m m' x
      other x u =
          untouched e m m' i q s (locate_t k s (node p₁ ps₁ s₁ l₁ r₁)) w x (new_in (node p ps s₀ (node p₁ ps₁ s₁ l₁ r₁) r) a x (omega arith))
          (λ z. omega (arith, d x, touch_in e m i (enc e p) k s (node p₁ ps₁ s₁ l₁ r₁) tt h.2 x z))

      kp : Agree m m' p
      kp = other p (omega (arith, ind_self p))

  -- The simulation: from the tree in m, what was written makes the tree with the newcomer in m'.
  pub sim : (k lo par : ℕ) (t : Tree) → Full t → Aligned k lo → Between lo (lo + wid k) s → Shaped k lo t → Distinct t → count q t ≡ 0 → TreeAt e m i par t → Wrote e m m' i q s (locate_t k s t) → TreeAt e m' i par (insert q s k t)
  sim zero lo par leaf f al b sh d a h = absurd f
  sim (suc k) lo par leaf f al b sh d a h = absurd f
  sim zero lo par (node p ps s₀ l r) f al b sh d a h = at_ring par p ps s₀ l r (omega arith) d a h
  sim (suc k) lo par (node p ps s₀ l r) f al b sh d a h =
      by
      (λ v.
      Wrote e m m' i q s (pick v (ring p) (pick (bit k s) (pick (is_leaf r) (slot true p) (locate_t k s r)) (pick (is_leaf l) (slot false p) (locate_t k s l)))) →
      TreeAt e m' i par (pick v (node p (ps ++ q ∷ []) s₀ l r) (pick (bit k s) (node p ps s₀ l (insert q s k r)) (node p ps s₀ (insert q s k l) r))))
      (eqb s s₀) (λ z. at_ring par p ps s₀ l r (eqb-true s s₀ z) d a h)
      (λ z.
      by
      (λ v.
      Wrote e m m' i q s (pick v (pick (is_leaf r) (slot true p) (locate_t k s r)) (pick (is_leaf l) (slot false p) (locate_t k s l))) →
      TreeAt e m' i par (pick v (node p ps s₀ l (insert q s k r)) (node p ps s₀ (insert q s k l) r)))
      (bit k s)
      (λ y.
      go_right k par p ps s₀ l r d a h
      (λ g. sim k (lo + wid k) (enc e p) r g (aligned_right k lo al) (above k lo s al b.0 b.1 y, omega arith) sh.5 (λ x. omega (arith, d x)) (omega arith) h.3))
      (λ y.
      go_left k par p ps s₀ l r d a h
      (λ g. sim k lo (enc e p) l g (aligned_left k lo al) (b.0, below k lo s al b.0 b.1 y) sh.4 (λ x. omega (arith, d x)) (omega arith) h.2)))
