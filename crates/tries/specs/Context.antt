-- A tree with a hole: frames, the innermost first.
use Rattle.std.specs.Prelude.{◌≡◌, refl, Bool, true, false, List, [], ◌∷◌, ◌⊎◌, ℕ, ◌+◌, ◌≤◌, eqb}
use Rattle.std.proofs.Common.{sym, ◌∙◌, ap, subst, inl, inr, ⊎_elim, arith, eqb-true, eq-eqb, ne_eqb}
use Rattle.std.proofs.lemmas.Bool.{eqb-false}
use Rattle.words.specs.Fields.{Mem, ind, ind_eq, ind_ne, ind_self, count_l}
use Rattle.words.specs.Logic.{pick, pick_case, same?, false-true, lt_or_le}
use Rattle.words.specs.Edition.{Edition, enc}
use Rattle.words.specs.Places.{remove}
use Rattle.tries.specs.Tree.{Tree, leaf, node, count, lose, memb, unlink, Distinct}
use Rattle.tries.specs.TreeAt.{link, TreeAt, Agree, AgreeBut, weaker, graft_left, graft_right}

-- a node with a hole on one side (true: child 1) and a tree on the other
pub data Frame : Type 0 where
  frame : Bool → ℕ → List ℕ → ℕ → Tree → Frame

abbrev pub fill : Frame → Tree → Tree
fill (frame true p ps s o) t = node p ps s o t
fill (frame false p ps s o) t = node p ps s t o

abbrev pub plug : List Frame → Tree → Tree
plug [] t = t
plug (f ∷ fs) t = plug fs (fill f t)

abbrev pub place_f : Frame → ℕ
place_f (frame b p ps s o) = p

abbrev pub count_f : ℕ → Frame → ℕ
count_f x (frame b p ps s o) = ind x p + count_l x ps + count x o

abbrev pub count_fs : ℕ → List Frame → ℕ
count_fs x [] = 0
count_fs x (f ∷ fs) = count_f x f + count_fs x fs

pub count-fill : (x : ℕ) (f : Frame) (t : Tree) → count x (fill f t) ≡ count_f x f + count x t
count-fill x (frame true p ps s o) t = omega arith
count-fill x (frame false p ps s o) t = omega arith

pub count-plug : (x : ℕ) (fs : List Frame) (t : Tree) → count x (plug fs t) ≡ count_fs x fs + count x t
count-plug x [] t = omega arith
count-plug x (f ∷ fs) t = omega (arith, count-plug x fs (fill f t), count-fill x f t)

-- what the parent word at the hole is
abbrev pub hole_par : Edition → ℕ → List Frame → ℕ
hole_par e par [] = par
hole_par e par (f ∷ fs) = enc e (place_f f)

module _ (e : Edition) (i par : ℕ) where
  pub hole_tree : (m : Mem) (fs : List Frame) (t : Tree) → TreeAt e m i par (plug fs t) → TreeAt e m i (hole_par e par fs) t
  hole_tree m [] t h = h
  hole_tree m (frame true p ps s o ∷ fs) t h = (hole_tree m fs (node p ps s o t) h).3
  hole_tree m (frame false p ps s o ∷ fs) t h = (hole_tree m fs (node p ps s t o) h).2

  -- another tree in the hole, under the same link: all frames stay
  pub plug_keep : (m m' : Mem) (fs : List Frame) (t t' : Tree) → link e t' ≡ link e t → ((x : ℕ) → 1 ≤ count_fs x fs → Agree m m' x) → TreeAt e m' i (hole_par e par fs) t' → TreeAt e m i par (plug fs t) → TreeAt e m' i par (plug fs t')
  plug_keep m m' [] t t' q k g h = g
  plug_keep m m' (frame true p ps s o ∷ fs) t t' q k g h =
      let u = hole_tree m fs (node p ps s o t) h in
      let kp = k p (omega (arith, ind_self p)) in
      plug_keep m m' fs (node p ps s o t) (node p ps s o t') refl (λ x v. k x (omega arith))
      (graft_right e m m' i (hole_par e par fs) p ps s o t t' (weaker 5 [] m m' p kp) (λ x v. k x (omega arith)) (kp 5 tt ∙ u.1.child1 ∙ sym q) g u) h
  plug_keep m m' (frame false p ps s o ∷ fs) t t' q k g h =
      let u = hole_tree m fs (node p ps s t o) h in
      let kp = k p (omega (arith, ind_self p)) in
      plug_keep m m' fs (node p ps s t o) (node p ps s t' o) refl (λ x v. k x (omega arith))
      (graft_left e m m' i (hole_par e par fs) p ps s t o t' (weaker 4 [] m m' p kp) (λ x v. k x (omega arith)) (kp 4 tt ∙ u.1.child0 ∙ sym q) g u) h

  -- under another link: the innermost frame's child field has it
  abbrev pub Hole : Mem → List Frame → ℕ → Type 0
  Hole m [] v = Unit
  Hole m (frame b p ps s o ∷ fs) v = m p (pick b 5 4) ≡ v

  abbrev pub KeptFs : Mem → Mem → List Frame → Type 0
  KeptFs m m' [] = Unit
  KeptFs m m' (frame b p ps s o ∷ fs) = AgreeBut (pick b 5 4 ∷ []) m m' p × ((x : ℕ) → 1 ≤ count_l x ps + count x o + count_fs x fs → Agree m m' x)

  pub plug_sim : (m m' : Mem) (fs : List Frame) (t t' : Tree) → Hole m' fs (link e t') → KeptFs m m' fs → TreeAt e m' i (hole_par e par fs) t' → TreeAt e m i par (plug fs t) → TreeAt e m' i par (plug fs t')
  plug_sim m m' [] t t' q k g h = g
  plug_sim m m' (frame true p ps s o ∷ fs) t t' q k g h =
      plug_keep m m' fs (node p ps s o t) (node p ps s o t') refl (λ x v. k.1 x (omega arith))
      (graft_right e m m' i (hole_par e par fs) p ps s o t t' k.0 (λ x v. k.1 x (omega arith)) q g (hole_tree m fs (node p ps s o t) h)) h
  plug_sim m m' (frame false p ps s o ∷ fs) t t' q k g h =
      plug_keep m m' fs (node p ps s t o) (node p ps s t' o) refl (λ x v. k.1 x (omega arith))
      (graft_left e m m' i (hole_par e par fs) p ps s t o t' k.0 (λ x v. k.1 x (omega arith)) q g (hole_tree m fs (node p ps s t o) h)) h

-- Where a place stands: the node whose ring has it, and the frames around it.
abbrev pub unlink_here : ℕ → ℕ → List ℕ → ℕ → Tree → Tree → Tree
unlink_here c p ps s l r = pick (eqb c p) (lose ps s l r) (node p (remove c ps) s l r)

pub record Found (c : ℕ) (t u : Tree) : Type 0 where
  pub fs : List Frame
  pub p : ℕ
  pub ps : List ℕ
  pub s : ℕ
  pub l : Tree
  pub r : Tree
  pub here : 1 ≤ ind c p + count_l c ps
  pub whole : t ≡ plug fs (node p ps s l r)
  pub after : u ≡ plug fs (unlink_here c p ps s l r)

memb_yes : (c : ℕ) (ps : List ℕ) → memb c ps ≡ true → 1 ≤ count_l c ps
memb_yes c [] = λ u. absurd (false-true u)
memb_yes c (y ∷ ys) =
    pick_case (λ b. b ≡ true → 1 ≤ ind c y + count_l c ys) (eqb c y)
    (λ u _. omega (arith, ind_eq c y (eqb-true c y u)))
    (λ u v. omega (arith, memb_yes c ys v))

memb_none : (c : ℕ) (ps : List ℕ) → memb c ps ≡ false → count_l c ps ≡ 0
memb_none c [] = λ u. refl
memb_none c (y ∷ ys) =
    pick_case (λ b. b ≡ false → ind c y + count_l c ys ≡ 0) (eqb c y)
    (λ u v. absurd (false-true (sym v)))
    (λ u v. omega (arith, memb_none c ys v, ind_ne c y (eqb-false c y u)))

module _ (c p : ℕ) (ps : List ℕ) (s : ℕ) (l r : Tree) where
  unlink_head : c ≡ p → unlink c (node p ps s l r) ≡ lose ps s l r
  unlink_head u = rw (eq-eqb c p u)

  unlink_ring : (c ≡ p → ⊥) → memb c ps ≡ true → unlink c (node p ps s l r) ≡ node p (remove c ps) s l r
  unlink_ring n u = rw (ne_eqb c p n, u)

  unlink_below : (c ≡ p → ⊥) → memb c ps ≡ false → unlink c (node p ps s l r) ≡ node p ps s (unlink c l) (unlink c r)
  unlink_below n u = rw (ne_eqb c p n, u)

bool? : (b : Bool) → (b ≡ true) ⊎ (b ≡ false)
bool? true = inl refl
bool? false = inr refl

pub unlink_absent : (c : ℕ) (t : Tree) → count c t ≡ 0 → unlink c t ≡ t
unlink_absent c leaf h = refl
unlink_absent c (node p ps s l r) h =
    unlink_below c p ps s l r (λ u. omega (arith, ind_eq c p u))
    (⊎_elim (λ u. absurd (omega (arith, memb_yes c ps u))) (λ u. u) (bool? (memb c ps)))
    ∙ ap (λ x. node p ps s x (unlink c r)) (unlink_absent c l (omega arith))
    ∙ ap (λ x. node p ps s l x) (unlink_absent c r (omega arith))

-- c stands in t, which stands in the frames acc
find : (c : ℕ) (t : Tree) (acc : List Frame) → Distinct t → 1 ≤ count c t → Found c (plug acc t) (plug acc (unlink c t))
find c leaf acc d h = absurd (omega arith)
find c (node p ps s l r) acc d h =
    ⊎_elim
    (λ u. record { fs = acc; p = p; ps = ps; s = s; l = l; r = r; here = omega (arith, ind_eq c p u); whole = refl; after = ap (plug acc) (unlink_head c p ps s l r u ∙ sym (rw (eq-eqb c p u))) })
    (λ n.
    ⊎_elim
    (λ u. record { fs = acc; p = p; ps = ps; s = s; l = l; r = r; here = omega (arith, memb_yes c ps u); whole = refl; after = ap (plug acc) (unlink_ring c p ps s l r n u ∙ sym (rw (ne_eqb c p n))) })
    (λ u.
    ⊎_elim
    (λ v.
    subst (λ x. Found c (plug acc (node p ps s l r)) (plug acc x))
    (sym (unlink_below c p ps s l r n u ∙ ap (λ x. node p ps s (unlink c l) x) (unlink_absent c r (omega (arith, d c)))))
    (find c l (frame false p ps s r ∷ acc) (λ x. omega (arith, d x)) v))
    (λ v.
    subst (λ x. Found c (plug acc (node p ps s l r)) (plug acc x))
    (sym (unlink_below c p ps s l r n u ∙ ap (λ x. node p ps s x (unlink c r)) (unlink_absent c l (omega arith))))
    (find c r (frame true p ps s l ∷ acc) (λ x. omega (arith, d x)) (omega (arith, memb_none c ps u, ind_ne c p n))))
    (lt_or_le 0 (count c l)))
    (bool? (memb c ps)))
    (same? c p)

pub found : (c : ℕ) (t : Tree) → Distinct t → 1 ≤ count c t → Found c t (unlink c t)
found c t d h = find c t [] d h
