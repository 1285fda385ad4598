-- `unlink_large_chunk`, over fields: each of its cases, from the tree with c to the tree without.
use Rattle.std.specs.Prelude.{◌≡◌, refl, Bool, true, false, List, [], ◌∷◌, ◌++◌, ℕ, ◌+◌, ◌≤◌}
use Rattle.std.proofs.Common.{sym, ◌∙◌, ap, subst, arith}
use Rattle.words.specs.Fields.{Mem, ind, ind_eq, ind_self, count_l, count_l_append}
use Rattle.words.specs.Edition.{Edition, no_link, root_mark, enc, enc_inj}
use Rattle.words.specs.Places.{remove, Parted, part}
use Rattle.tries.specs.Tree.{Tree, leaf, node, count, Full, deep_p, deep_r, deep_s, rest, count_rest}
use Rattle.tries.specs.TreeAt.{link, Chain, Knot, RingAt, TreeAt, but_head, Agree, keep, keep_knot, last, last_in, chain_last, chain_split}
use Rattle.tries.specs.Context.{Frame, frame, plug, count_fs, hole_par, hole_tree, plug_keep, plug_sim}
use Rattle.tries.specs.RingCut.{Cut, cut_head, cut_in}
use Rattle.tries.specs.Unlink.{field_of, slot_t, slot_in, slot_side, Popped, Cleared, pop_sim, TookOver, SideOk, take_over, frames_hole, frames_kept}

not_six : (b : Bool) → 6 ≡ field_of b → ⊥
not_six true u = omega arith
not_six false u = omega arith

module _ (e : Edition) (m m₁ m' : Mem) (i : ℕ) (fs : List Frame) (c : ℕ) (s sf : ℕ) (l r : Tree) where
  module _
      (one : (x : ℕ) → count_fs x fs + (ind x c + (count x l + count x r)) ≤ 1)
      (h : TreeAt e m i (root_mark e) (plug fs (node c [] s l r))) where
    here : TreeAt e m i (hole_par e (root_mark e) fs) (node c [] s l r)
    here = hole_tree e i (root_mark e) m fs (node c [] s l r) h

    -- A lone node with a right child: in m₁ the deepest descendant of r is off.
    module _ (f : Full r) (w : Cleared e m m₁ i (slot_t c true r)) where
      pop_right : Popped e m₁ i (enc e c) c true r
      pop_right = pop_sim e m m₁ i (enc e c) c true r f (omega (arith, one c, ind_self c)) (λ x. omega (arith, one x)) here.1.child1 here.3 w

      -- places that are neither c nor below r
      pub far_right : (x : ℕ) → ind x c + count x r ≡ 0 → Agree m m₁ x
      far_right x u j _ = w.1 x j (λ y _. omega (arith, slot_in c true r, ap (λ z. ind z c + count z r) y))

      at_right : (j : ℕ) → (j ≡ 5 → ⊥) → m₁ c j ≡ m c j
      at_right j n = w.1 c j (λ y z. n (z ∙ ap field_of (slot_side c true r (omega (arith, one c, ind_self c)) y)))

      pub knot_right : Knot m₁ c (hole_par e (root_mark e) fs) (link e l) (link e (rest r))
      knot_right = record { parent = at_right 6 (λ z. omega arith) ∙ here.1.parent; child0 = at_right 4 (λ z. omega arith) ∙ here.1.child0; child1 = pop_right.linked }

      pub one_right : (x : ℕ) → count_fs x fs + ind x c + (ind x (deep_p r) + count_l x (deep_r r)) + (count x l + count x (rest r)) ≤ 1
      one_right x = omega (arith, one x, count_rest x r f)

      pub unlink_right : SideOk fs sf → TookOver e m₁ m' c (deep_p r) sf → TreeAt e m' i (root_mark e) (plug fs (node (deep_p r) (deep_r r) (deep_s r) l (rest r)))
      unlink_right side v =
          plug_sim e i (root_mark e) m m' fs (node c [] s l r) (node (deep_p r) (deep_r r) (deep_s r) l (rest r))
          (frames_hole e m₁ m' i fs c (deep_p r) (deep_r r) (deep_s r) sf l (rest r) one_right knot_right v side)
          (frames_kept e m₁ m' i fs c (deep_p r) (deep_r r) (deep_s r) sf l (rest r) one_right knot_right v m side (λ x u. far_right x (omega (arith, one x))))
          (take_over e m₁ m' i fs c (deep_p r) (deep_r r) (deep_s r) sf l (rest r) one_right knot_right v pop_right.popped (keep e m m₁ i (enc e c) l (λ x u. far_right x (omega (arith, one x))) here.2) pop_right.remains)
          h

    -- with a left child only
    module _ (f : Full l) (w : Cleared e m m₁ i (slot_t c false l)) where
      pop_left : Popped e m₁ i (enc e c) c false l
      pop_left = pop_sim e m m₁ i (enc e c) c false l f (omega (arith, one c, ind_self c)) (λ x. omega (arith, one x)) here.1.child0 here.2 w

      pub far_left : (x : ℕ) → ind x c + count x l ≡ 0 → Agree m m₁ x
      far_left x u j _ = w.1 x j (λ y _. omega (arith, slot_in c false l, ap (λ z. ind z c + count z l) y))

      at_left : (j : ℕ) → (j ≡ 4 → ⊥) → m₁ c j ≡ m c j
      at_left j n = w.1 c j (λ y z. n (z ∙ ap field_of (slot_side c false l (omega (arith, one c, ind_self c)) y)))

      pub knot_left : Knot m₁ c (hole_par e (root_mark e) fs) (link e (rest l)) (link e r)
      knot_left = record { parent = at_left 6 (λ z. omega arith) ∙ here.1.parent; child0 = pop_left.linked; child1 = at_left 5 (λ z. omega arith) ∙ here.1.child1 }

      pub one_left : (x : ℕ) → count_fs x fs + ind x c + (ind x (deep_p l) + count_l x (deep_r l)) + (count x (rest l) + count x r) ≤ 1
      one_left x = omega (arith, one x, count_rest x l f)

      pub unlink_left : SideOk fs sf → TookOver e m₁ m' c (deep_p l) sf → TreeAt e m' i (root_mark e) (plug fs (node (deep_p l) (deep_r l) (deep_s l) (rest l) r))
      unlink_left side v =
          plug_sim e i (root_mark e) m m' fs (node c [] s l r) (node (deep_p l) (deep_r l) (deep_s l) (rest l) r)
          (frames_hole e m₁ m' i fs c (deep_p l) (deep_r l) (deep_s l) sf (rest l) r one_left knot_left v side)
          (frames_kept e m₁ m' i fs c (deep_p l) (deep_r l) (deep_s l) sf (rest l) r one_left knot_left v m side (λ x u. far_left x (omega (arith, one x))))
          (take_over e m₁ m' i fs c (deep_p l) (deep_r l) (deep_s l) sf (rest l) r one_left knot_left v pop_left.popped pop_left.remains (keep e m m₁ i (enc e c) r (λ x u. far_left x (omega (arith, one x))) here.3))
          h

  -- The tree member of a ring of more than one: in m₁ it has left the ring; its `next` takes over.
  module _ (y : ℕ) (ys : List ℕ)
      (one : (x : ℕ) → count_fs x fs + (ind x c + (ind x y + count_l x ys) + (count x l + count x r)) ≤ 1)
      (h : TreeAt e m i (root_mark e) (plug fs (node c (y ∷ ys) s l r))) (w : Cut e m m₁ c) where
    t_head : TreeAt e m i (hole_par e (root_mark e) fs) (node c (y ∷ ys) s l r)
    t_head = hole_tree e i (root_mark e) m fs (node c (y ∷ ys) s l r) h

    -- all but the others of the ring
    pub far_head : (x : ℕ) → ind x y + count_l x ys ≡ 0 → Agree m m₁ x
    far_head x u j _ =
        w.kept x j
        (λ q _. omega (arith, last_in y ys, ap (λ z. ind z y + count_l z ys) (enc_inj e x (last y ys) (sym q ∙ chain_last e m c (y ∷ ys) c t_head.0.ring))))
        (λ q _. omega (arith, ind_eq x y (enc_inj e x y (sym q ∙ t_head.0.ring.0))))

    pub knot_head : Knot m₁ c (hole_par e (root_mark e) fs) (link e l) (link e r)
    knot_head = let a = far_head c (omega (arith, one c, ind_self c)) in keep_knot e m m₁ (a 6 tt) (a 4 tt) (a 5 tt) t_head.1

    pub one_head : (x : ℕ) → count_fs x fs + ind x c + (ind x y + count_l x ys) + (count x l + count x r) ≤ 1
    one_head x = omega (arith, one x)

    pub unlink_head : SideOk fs sf → TookOver e m₁ m' c y sf → TreeAt e m' i (root_mark e) (plug fs (node y ys s l r))
    unlink_head side v =
        plug_sim e i (root_mark e) m m' fs (node c (y ∷ ys) s l r) (node y ys s l r)
        (frames_hole e m₁ m' i fs c y ys s sf l r one_head knot_head v side)
        (frames_kept e m₁ m' i fs c y ys s sf l r one_head knot_head v m side (λ x u. far_head x (omega (arith, one x))))
        (take_over e m₁ m' i fs c y ys s sf l r one_head knot_head v
        (cut_head e m m₁ i c y ys s (λ x. omega (arith, one x)) w t_head.0).0
        (keep e m m₁ i (enc e c) l (λ x u. far_head x (omega (arith, one x))) t_head.2)
        (keep e m m₁ i (enc e c) r (λ x u. far_head x (omega (arith, one x))) t_head.3))
        h

-- a lone node without children goes
pub record Dropped (e : Edition) (m m' : Mem) (c sf : ℕ) : Type 0 where
  pub slot : (x : ℕ) → m c 6 ≡ enc e x → m' x sf ≡ no_link e
  pub kept : (x j : ℕ) → (m c 6 ≡ enc e x → j ≡ sf → ⊥) → m' x j ≡ m x j

pub unlink_lone : (e : Edition) (m m' : Mem) (i : ℕ) (fs : List Frame) (c s sf : ℕ) → SideOk fs sf → ((x : ℕ) → count_fs x fs ≤ 1) → TreeAt e m i (root_mark e) (plug fs (node c [] s leaf leaf)) → Dropped e m m' c sf → TreeAt e m' i (root_mark e) (plug fs leaf)
unlink_lone e m m' i [] c s sf o one h w = tt
unlink_lone e m m' i (frame b p ps s₁ t ∷ fs) c s sf o one h w =
    plug_sim e i (root_mark e) m m' (frame b p ps s₁ t ∷ fs) (node c [] s leaf leaf) leaf (subst (λ z. m' p z ≡ no_link e) o (w.slot p up))
    ((λ j v. w.kept p j (λ _ z. but_head (field_of b) [] j v (z ∙ o))), (λ x u j v. w.kept x j (λ z _. omega (arith, one x, ind_eq x p (enc_inj e x p (sym z ∙ up))))))
    tt h
  where
    up : m c 6 ≡ enc e p
    up = (hole_tree e i (root_mark e) m (frame b p ps s₁ t ∷ fs) (node c [] s leaf leaf) h).1.parent

-- A member of a ring that is not in the tree: its neighbours are of the ring.
pub next_in : (e : Edition) (m : Mem) (a : ℕ) (ps : List ℕ) (z : ℕ) → Chain e m a ps z → (n : ℕ) × (m a 3 ≡ enc e n) × (1 ≤ ind n z + count_l n ps)
next_in e m a [] z h = (z, h.0, omega (arith, ind_self z))
next_in e m a (b ∷ bs) z h = (b, h.0, omega (arith, ind_self b))

pub unlink_other : (e : Edition) (m m' : Mem) (i : ℕ) (fs : List Frame) (c p : ℕ) (ps : List ℕ) (s : ℕ) (l r : Tree) → 1 ≤ count_l c ps → ((x : ℕ) → count_fs x fs + (ind x p + count_l x ps + (count x l + count x r)) ≤ 1) → TreeAt e m i (root_mark e) (plug fs (node p ps s l r)) → Cut e m m' c → TreeAt e m' i (root_mark e) (plug fs (node p (remove c ps) s l r))
unlink_other e m m' i fs c p ps s l r hc one h w =
    plug_keep e i (root_mark e) m m' fs (node p ps s l r) (node p (remove c ps) s l r) refl (λ x u. far x (omega (arith, one x))) (
      rw q.after (cut_in e m m' i p c q.before q.behind s one₁ w ra),
      keep_knot e m m' (own 6 (λ z. omega arith) (λ z. omega arith)) (own 4 (λ z. omega arith) (λ z. omega arith)) (own 5 (λ z. omega arith) (λ z. omega arith)) t.1,
      keep e m m' i (enc e p) l (λ x u. far x (omega (arith, one x))) t.2,
      keep e m m' i (enc e p) r (λ x u. far x (omega (arith, one x))) t.3,
    )
    h
  where
    t : TreeAt e m i (hole_par e (root_mark e) fs) (node p ps s l r)
    t = hole_tree e i (root_mark e) m fs (node p ps s l r) h

    q : Parted c ps
    q = part c ps hc

    counts : (x : ℕ) → count_l x ps ≡ count_l x q.before + (ind x c + count_l x q.behind)
    counts x = ap (count_l x) q.whole ∙ count_l_append x q.before (c ∷ q.behind)

    one₁ : (y : ℕ) → ind y p + (count_l y q.before + (ind y c + count_l y q.behind)) ≤ 1
    one₁ y = omega (arith, one y, counts y)

    ra : RingAt e m i p (q.before ++ c ∷ q.behind) s
    ra = subst (λ z. RingAt e m i p z s) q.whole t.0

    ch : Chain e m p q.before c × Chain e m c q.behind p
    ch = chain_split e m p q.before c q.behind p ra.ring

    own : (j : ℕ) → (j ≡ 2 → ⊥) → (j ≡ 3 → ⊥) → m' p j ≡ m p j
    own j n₂ n₃ = w.kept p j (λ _ z. n₃ z) (λ _ z. n₂ z)

    far : (x : ℕ) → ind x p + count_l x ps ≡ 0 → Agree m m' x
    far x u j _ =
        let n = next_in e m c q.behind p ch.1 in
        w.kept x j
        (λ z _. omega (arith, counts x, last_in p q.before, ap (λ y. ind y p + count_l y q.before) (enc_inj e x (last p q.before) (sym z ∙ chain_last e m p q.before c ch.0))))
        (λ z _. omega (arith, counts x, n.2, ap (λ y. ind y p + count_l y q.behind) (enc_inj e x n.0 (sym z ∙ n.1))))
