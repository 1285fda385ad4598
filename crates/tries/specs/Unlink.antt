-- `unlink_large_chunk`, over fields: the deepest descendant comes off its parent; a place takes over the knot of the one that goes; a ring closes.
use Rattle.std.specs.Prelude.{◌≡◌, refl, Bool, true, false, List, [], ◌∷◌, ℕ, ◌+◌, ◌≤◌, T}
use Rattle.std.proofs.Common.{sym, ◌∙◌, ap, subst, arith}
use Rattle.words.specs.Fields.{Mem, ind, ind_eq, ind_self, count_l}
use Rattle.words.specs.Logic.{pick}
use Rattle.words.specs.Edition.{Edition, no_link, root_mark, none_free, mark-free, enc, enc_inj}
use Rattle.tries.specs.Tree.{Tree, leaf, node, count, Full, Distinct, deep_p, deep_r, deep_s, rest}
use Rattle.tries.specs.TreeAt.{link, Knot, RingAt, TreeAt, but, but_head, but_tail, Agree, AgreeBut, keep, keep_ring, graft_left, graft_right}
use Rattle.tries.specs.Context.{Frame, frame, count_fs, hole_par, Hole, KeptFs}

-- a child field: of a place, on a side (true: child 1)
pub record Child : Type 0 where
  pub up : ℕ
  pub side : Bool

abbrev pub field_of : Bool → ℕ
field_of b = pick b 5 4

-- the child field that holds the deepest descendant of t, where t hangs on side b of a
abbrev pub slot_t : ℕ → Bool → Tree → Child
slot_t a b leaf = record { up = a; side = b }
slot_t a b (node p ps s leaf leaf) = record { up = a; side = b }
slot_t a b (node p ps s (node p₁ ps₁ s₁ l₁ r₁) leaf) = slot_t p false (node p₁ ps₁ s₁ l₁ r₁)
slot_t a b (node p ps s l (node p₂ ps₂ s₂ l₂ r₂)) = slot_t p true (node p₂ ps₂ s₂ l₂ r₂)

pub slot_in : (a : ℕ) (b : Bool) (t : Tree) → 1 ≤ ind (slot_t a b t).up a + count (slot_t a b t).up t
slot_in a b leaf = omega (arith, ind_self a)
slot_in a b (node p ps s leaf leaf) = omega (arith, ind_self a)
slot_in a b (node p ps s (node p₁ ps₁ s₁ l₁ r₁) leaf) = omega (arith, slot_in p false (node p₁ ps₁ s₁ l₁ r₁))
slot_in a b (node p ps s l (node p₂ ps₂ s₂ l₂ r₂)) = omega (arith, slot_in p true (node p₂ ps₂ s₂ l₂ r₂))

pub slot_side : (a : ℕ) (b : Bool) (t : Tree) → count a t ≡ 0 → a ≡ (slot_t a b t).up → (slot_t a b t).side ≡ b
slot_side a b leaf n u = refl
slot_side a b (node p ps s leaf leaf) n u = refl
slot_side a b (node p ps s (node p₁ ps₁ s₁ l₁ r₁) leaf) n u =
    let t = node p₁ ps₁ s₁ l₁ r₁ in
    absurd (omega (arith, slot_in p false t, ap (λ x. ind x p + count x t) u))
slot_side a b (node p ps s l (node p₂ ps₂ s₂ l₂ r₂)) n u =
    let t = node p₂ ps₂ s₂ l₂ r₂ in
    absurd (omega (arith, slot_in p true t, ap (λ x. ind x p + count x t) u))

pub record Popped (e : Edition) (m' : Mem) (i up a : ℕ) (b : Bool) (t : Tree) : Type 0 where
  pub linked : m' a (field_of b) ≡ link e (rest t)
  pub remains : TreeAt e m' i up (rest t)
  pub popped : RingAt e m' i (deep_p t) (deep_r t) (deep_s t)
  pub bare0 : m' (deep_p t) 4 ≡ no_link e
  pub bare1 : m' (deep_p t) 5 ≡ no_link e

module _ (e : Edition) (m m' : Mem) (i : ℕ) where
  abbrev pub Cleared : Child → Type 0
  Cleared c = (m' c.up (field_of c.side) ≡ no_link e) × ((x j : ℕ) → (x ≡ c.up → j ≡ field_of c.side → ⊥) → m' x j ≡ m x j)

  pub pop_sim : (up a : ℕ) (b : Bool) (t : Tree) → Full t → count a t ≡ 0 → Distinct t → m a (field_of b) ≡ link e t → TreeAt e m i up t → Cleared (slot_t a b t) → Popped e m' i up a b t
  pop_sim up a b leaf f n d q h w = absurd f
  pop_sim up a b (node p ps s leaf leaf) f n d q h w =
      record {
        linked = w.0;
        remains = tt;
        popped = keep_ring e m m' i p ps s (λ j v. own j) (λ x u j v. w.1 x j (λ y _. omega (arith, ap (λ z. count_l z ps) y))) h.0;
        bare0 = own 4 ∙ h.1.child0;
        bare1 = own 5 ∙ h.1.child1;
      }
    where
      own : (j : ℕ) → m' p j ≡ m p j
      own j = w.1 p j (λ y _. omega (arith, ind_eq a p (sym y)))
  pop_sim up a b (node p ps s (node p₁ ps₁ s₁ l₁ r₁) leaf) f n d q h w =
      let t = node p₁ ps₁ s₁ l₁ r₁ in
      let g = pop_sim (enc e p) p false (node p₁ ps₁ s₁ l₁ r₁) tt (omega (arith, d p, ind_self p)) (λ x. omega (arith, d x)) h.1.child0 h.2 w in
      record {
        linked = w.1 a (field_of b) (λ y _. omega (arith, slot_in p false t, ap (λ x. ind x p + count x t) y)) ∙ q;
        remains = graft_left e m m' i up p ps s t leaf (rest t)
            (λ j v. w.1 p j (λ y z. but_head 4 [] j v (z ∙ ap field_of (slot_side p false t (omega (arith, d p, ind_self p)) y))))
            (λ x u j v. w.1 x j (λ y _. omega (arith, d x, slot_in p false t, ap (λ z. ind z p + count z t) y)))
            g.linked g.remains h;
        popped = g.popped;
        bare0 = g.bare0;
        bare1 = g.bare1;
      }
  pop_sim up a b (node p ps s l (node p₂ ps₂ s₂ l₂ r₂)) f n d q h w =
      let t = node p₂ ps₂ s₂ l₂ r₂ in
      let g = pop_sim (enc e p) p true (node p₂ ps₂ s₂ l₂ r₂) tt (omega (arith, d p, ind_self p)) (λ x. omega (arith, d x)) h.1.child1 h.3 w in
      record {
        linked = w.1 a (field_of b) (λ y _. omega (arith, slot_in p true t, ap (λ x. ind x p + count x t) y)) ∙ q;
        remains = graft_right e m m' i up p ps s l t (rest t)
            (λ j v. w.1 p j (λ y z. but_head 5 [] j v (z ∙ ap field_of (slot_side p true t (omega (arith, d p, ind_self p)) y))))
            (λ x u j v. w.1 x j (λ y _. omega (arith, d x, slot_in p true t, ap (λ z. ind z p + count z t) y)))
            g.linked g.remains h;
        popped = g.popped;
        bare0 = g.bare0;
        bare1 = g.bare1;
      }

abbrev pub root : Tree → ℕ
root leaf = 0
root (node p ps s l r) = p

-- the same tree below another place
pub reparent : (e : Edition) (m m' : Mem) (i up up' : ℕ) (t : Tree) → Distinct t → (Full t → m' (root t) 6 ≡ up') → (Full t → AgreeBut (6 ∷ []) m m' (root t)) → ((x : ℕ) → 1 ≤ count x t → (x ≡ root t → ⊥) → Agree m m' x) → TreeAt e m i up t → TreeAt e m' i up' t
reparent e m m' i up up' leaf d u a k h = tt
reparent e m m' i up up' (node p ps s l r) d u a k h = (
  keep_ring e m m' i p ps s (λ j v. a tt j (but_tail 5 (6 ∷ []) j (but_tail 4 (5 ∷ 6 ∷ []) j v))) (λ x v. k x (omega arith) (differs x (omega arith))) h.0,
  record { parent = u tt; child0 = a tt 4 tt ∙ h.1.child0; child1 = a tt 5 tt ∙ h.1.child1 },
  keep e m m' i (enc e p) l (λ x v. k x (omega arith) (differs x (omega arith))) h.2,
  keep e m m' i (enc e p) r (λ x v. k x (omega arith) (differs x (omega arith))) h.3,
)
  where
    differs : (x : ℕ) → 1 ≤ count_l x ps + count x l + count x r → x ≡ p → ⊥
    differs x v y = omega (arith, d x, ind_eq x p y)

-- d takes the place of c: what changes from m to m'. The field sf of c's parent is the one that led to c.
pub record TookOver (e : Edition) (m m' : Mem) (c d sf : ℕ) : Type 0 where
  pub parent : m' d 6 ≡ m c 6
  pub child0 : m' d 4 ≡ m c 4
  pub child1 : m' d 5 ≡ m c 5
  pub left : (x : ℕ) → m c 4 ≡ enc e x → m' x 6 ≡ enc e d
  pub right : (x : ℕ) → m c 5 ≡ enc e x → m' x 6 ≡ enc e d
  pub slot : (x : ℕ) → m c 6 ≡ enc e x → m' x sf ≡ enc e d
  pub own : AgreeBut (4 ∷ 5 ∷ 6 ∷ []) m m' d
  pub kept : (x j : ℕ) → (x ≡ d → ⊥) → (m c 4 ≡ enc e x → j ≡ 6 → ⊥) → (m c 5 ≡ enc e x → j ≡ 6 → ⊥) → (m c 6 ≡ enc e x → j ≡ sf → ⊥) → m' x j ≡ m x j

pub link_in : (e : Edition) (t : Tree) (x : ℕ) → link e t ≡ enc e x → x ≡ root t × Full t
link_in e leaf x u = absurd (none_free e x (sym u))
link_in e (node p ps s l r) x u = (enc_inj e x p (sym u), tt)

pub hole_in : (e : Edition) (fs : List Frame) (x : ℕ) → hole_par e (root_mark e) fs ≡ enc e x → 1 ≤ count_fs x fs
hole_in e [] x u = absurd (mark-free e x (sym u))
hole_in e (frame b p ps s o ∷ fs) x u = omega (arith, ind_eq x p (enc_inj e x p (sym u)))

pub root_in : (t : Tree) → Full t → 1 ≤ count (root t) t
root_in leaf f = absurd f
root_in (node p ps s l r) f = omega (arith, ind_self p)

pub full_link : (e : Edition) (t : Tree) → Full t → link e t ≡ enc e (root t)
full_link e leaf f = absurd f
full_link e (node p ps s l r) f = refl

-- sf is the child field that the innermost frame's hole is in
abbrev pub SideOk : List Frame → ℕ → Type 0
SideOk [] sf = Unit
SideOk (frame b p ps s o ∷ fs) sf = sf ≡ field_of b

module _ (e : Edition) (m m' : Mem) (i : ℕ) (fs : List Frame) (c d : ℕ) (xs : List ℕ) (s sf : ℕ) (l r : Tree)
    (one : (x : ℕ) → count_fs x fs + ind x c + (ind x d + count_l x xs) + (count x l + count x r) ≤ 1)
    (kn : Knot m c (hole_par e (root_mark e) fs) (link e l) (link e r))
    (w : TookOver e m m' c d sf) where
  in_left : (x : ℕ) → m c 4 ≡ enc e x → 1 ≤ count x l
  in_left x u =
      let q = link_in e l x (sym kn.child0 ∙ u) in
      omega (arith, root_in l q.1, ap (λ z. count z l) q.0)

  in_right : (x : ℕ) → m c 5 ≡ enc e x → 1 ≤ count x r
  in_right x u =
      let q = link_in e r x (sym kn.child1 ∙ u) in
      omega (arith, root_in r q.1, ap (λ z. count z r) q.0)

  in_frame : (x : ℕ) → m c 6 ≡ enc e x → 1 ≤ count_fs x fs
  in_frame x u = hole_in e fs x (sym kn.parent ∙ u)

  in_ring : (x : ℕ) → 1 ≤ count_l x xs → Agree m m' x
  in_ring x v j _ =
      w.kept x j (λ y. omega (arith, one x, ind_eq x d y)) (λ u _. omega (arith, one x, in_left x u)) (λ u _. omega (arith, one x, in_right x u)) (λ u _. omega (arith, one x, in_frame x u))

  pub take_over : RingAt e m i d xs s → TreeAt e m i (enc e c) l → TreeAt e m i (enc e c) r → TreeAt e m' i (hole_par e (root_mark e) fs) (node d xs s l r)
  take_over ra hl hr = (
    keep_ring e m m' i d xs s w.own in_ring ra,
    record { parent = w.parent ∙ kn.parent; child0 = w.child0 ∙ kn.child0; child1 = w.child1 ∙ kn.child1 },
    reparent e m m' i (enc e c) (enc e d) l (λ x. omega (arith, one x)) (λ f. w.left (root l) (kn.child0 ∙ full_link e l f))
        (λ f j v. atl (root l) (root_in l f) j (λ _ z. but_head 6 [] j v z))
        (λ x v n j _. atl x v j (λ u _. n (link_in e l x (sym kn.child0 ∙ u)).0)) hl,
    reparent e m m' i (enc e c) (enc e d) r (λ x. omega (arith, one x)) (λ f. w.right (root r) (kn.child1 ∙ full_link e r f))
        (λ f j v. atr (root r) (root_in r f) j (λ _ z. but_head 6 [] j v z))
        (λ x v n j _. atr x v j (λ u _. n (link_in e r x (sym kn.child1 ∙ u)).0)) hr,
  )
    where
      atl : (x : ℕ) → 1 ≤ count x l → (j : ℕ) → (m c 4 ≡ enc e x → j ≡ 6 → ⊥) → m' x j ≡ m x j
      atl x v j n =
          w.kept x j (λ y. omega (arith, one x, ind_eq x d y)) n (λ u _. omega (arith, one x, in_right x u)) (λ u _. omega (arith, one x, in_frame x u))

      atr : (x : ℕ) → 1 ≤ count x r → (j : ℕ) → (m c 5 ≡ enc e x → j ≡ 6 → ⊥) → m' x j ≡ m x j
      atr x v j n =
          w.kept x j (λ y. omega (arith, one x, ind_eq x d y)) (λ u _. omega (arith, one x, in_left x u)) n (λ u _. omega (arith, one x, in_frame x u))

  -- the frames around: m₀ is a memory before m, in which the frames were as in m
  pub frames_hole : SideOk fs sf → Hole e i (root_mark e) m' fs (enc e d)
  frames_hole = hole_of fs refl
    where
      hole_of : (gs : List Frame) → gs ≡ fs → SideOk gs sf → Hole e i (root_mark e) m' gs (enc e d)
      hole_of [] q o = tt
      hole_of (frame b p ps s₁ t ∷ gs) q o = subst (λ z. m' p z ≡ enc e d) o (w.slot p (kn.parent ∙ ap (hole_par e (root_mark e)) (sym q)))

  pub frames_kept : (m₀ : Mem) → SideOk fs sf → ((x : ℕ) → 1 ≤ count_fs x fs → Agree m₀ m x) → KeptFs e i (root_mark e) m₀ m' fs
  frames_kept m₀ = kept_of fs refl
    where
      step : (x : ℕ) → 1 ≤ count_fs x fs → (j : ℕ) → T (but [] j) → Agree m₀ m x → (m c 6 ≡ enc e x → j ≡ sf → ⊥) → m' x j ≡ m₀ x j
      step x u j v a n =
          w.kept x j (λ y. omega (arith, one x, ind_eq x d y)) (λ z _. omega (arith, one x, in_left x z)) (λ z _. omega (arith, one x, in_right x z)) n ∙ a j v

      kept_of : (gs : List Frame) → gs ≡ fs → SideOk gs sf → ((x : ℕ) → 1 ≤ count_fs x gs → Agree m₀ m x) → KeptFs e i (root_mark e) m₀ m' gs
      kept_of [] q o a = tt
      kept_of (frame b p ps s₁ t ∷ gs) q o a = (
        (λ j v. step p (here p (omega (arith, ind_self p))) j (but_tail (field_of b) [] j v) (a p (omega (arith, ind_self p))) (λ _ z. but_head (field_of b) [] j v (z ∙ o))),
        (λ x u j v. step x (here x (omega arith)) j v (a x (omega arith)) (λ z _. omega (arith, one x, ap (count_fs x) q, ind_eq x p (enc_inj e x p (sym z ∙ kn.parent ∙ ap (hole_par e (root_mark e)) (sym q)))))),
      )
        where
          here : (x : ℕ) → 1 ≤ count_fs x (frame b p ps s₁ t ∷ gs) → 1 ≤ count_fs x fs
          here x u = subst (λ z. 1 ≤ count_fs x z) q u
