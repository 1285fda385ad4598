-- `unlink_large_chunk`: the L1 writes make the tree without c, in every case.
use Rattle.std.specs.Prelude.{◌≡◌, refl, Bool, true, false, List, [], ◌∷◌, ◌++◌, ℕ, ◌+◌, ◌≤◌, ◌/◌, T, eqb, length}
use Rattle.std.proofs.Common.{sym, ◌∙◌, ap, subst, ⊎_elim, arith, eq-eqb, ne_eqb}
use Rattle.words.specs.Fields.{inner, Mem, ind, ind_eq, ind_ne, ind_self, Write, put, skip, write_m, write_w, fld, Views, Spaced, view_writes, length-write_w, Inside, Within, opt_inside, count_l, count_l_append}
use Rattle.words.specs.Logic.{pick, same?, by}
use Rattle.words.specs.Edition.{Edition, W, no_link, root_mark, none_free, mark-free, none_mark, enc, enc_inj}
use Rattle.words.specs.Places.{remove, Parted, part, count-remove}
use Rattle.tries.specs.Tree.{Tree, leaf, node, count, Full, Distinct, deep_p, deep_r, deep_s, rest, lose, unlink, count-lose, count_rest}
use Rattle.tries.specs.TreeAt.{link, Chain, Knot, Others, RingAt, TreeAt, Agree, keep, last, last_in, chain_last, chain_split, but_lt}
use Rattle.tries.specs.Context.{Frame, frame, plug, count_fs, count-plug, hole_par, hole_tree, Found, found, unlink_here}
use Rattle.tries.specs.RingCut.{Cut}
use Rattle.tries.specs.Unlink.{field_of, slot_t, slot_in, Cleared, full_link, link_in, root_in, hole_in}
use Rattle.tries.specs.UnlinkSim.{unlink_right, far_right, knot_right, one_right, unlink_left, far_left, knot_left, one_left, unlink_head, far_head, knot_head, one_head, unlink_lone, unlink_other, next_in}
use Rattle.tries.specs.UnlinkWords.{deep_m, clear, round1, heir, slot_field, slot_write, heir_writes, round2, new_root, depth, deep_tree, slot_holds, cleared, cut_wrote, dropped, take_writes, side_ok, hole_real, hole_linked, Linked, round2-heir, round2_none, round2_other, unlink_m, unlink_m_eq, opt_place, link_linked, back}

side_lt : (b : Bool) → T (inner 8 (pick b 4 5))
side_lt true = tt
side_lt false = tt

slot_inside : (e : Edition) (m : Mem) (fs : List Frame) (c v : ℕ) (C : ℕ → Type 0) → ((x : ℕ) → 1 ≤ count_fs x fs → C x) → m c 6 ≡ hole_par e (root_mark e) fs → Inside 8 C (slot_write e m c v)
slot_inside e m fs c v C g q =
    opt_inside 8 C (eqb (m c 6) (root_mark e)) (m c 6 / W e) (slot_field e m c) v
    (λ t. g _ (hole_in e fs (m c 6 / W e) (sym q ∙ opt_place e (m c 6) (root_mark e) (m c 6 / W e) (subst (λ z. Linked e z (root_mark e)) (sym q) (hole_linked e fs)) t refl)))
    (side_lt (eqb (m (m c 6 / W e) 4) (enc e c)))

field_lt : (b : Bool) → T (inner 8 (field_of b))
field_lt true = tt
field_lt false = tt

deep_in : (t : Tree) → Full t → 1 ≤ count (deep_p t) t
deep_in t f = omega (arith, ind_self (deep_p t), count_rest (deep_p t) t f)

plug-link : (e : Edition) (fs : List Frame) (t t' : Tree) → link e t ≡ link e t' → link e (plug fs t) ≡ link e (plug fs t')
plug-link e [] t t' u = u
plug-link e (frame true p ps s o ∷ fs) t t' u = plug-link e fs (node p ps s o t) (node p ps s o t') refl
plug-link e (frame false p ps s o ∷ fs) t t' u = plug-link e fs (node p ps s t o) (node p ps s t' o) refl

-- the bin's root link: the heir's where c was the root
root_new : (e : Edition) (m : Mem) (c v h : ℕ) (fs : List Frame) (t t' : Tree) → m c 6 ≡ hole_par e (root_mark e) fs → v ≡ link e t' → h ≡ link e (plug fs t) → new_root e m c v h ≡ link e (plug fs t')
root_new e m c v h [] t t' q u w = rw (eq-eqb (m c 6) (root_mark e) q) u
root_new e m c v h (frame true p ps s o ∷ fs) t t' q u w = rw (ne_eqb (m c 6) (root_mark e) (λ z. mark-free e p (sym q ∙ z))) (w ∙ plug-link e fs (node p ps s o t) (node p ps s o t') refl)
root_new e m c v h (frame false p ps s o ∷ fs) t t' q u w = rw (ne_eqb (m c 6) (root_mark e) (λ z. mark-free e p (sym q ∙ z))) (w ∙ plug-link e fs (node p ps s t o) (node p ps s t' o) refl)

-- The tree t after t₀, that all that is written lies at the places C, and the bin's root link.
pub record Step (e : Edition) (m : Mem) (i n c : ℕ) (C : ℕ → Type 0) (t₀ t : Tree) : Type 0 where
  pub rooted : (h : ℕ) → h ≡ link e t₀ → new_root e (write_m m (round1 e m n c)) c (heir e m n c) h ≡ link e t
  pub tree : TreeAt e (unlink_m e m n c) i (root_mark e) t
  pub in1 : Within 8 C (round1 e m n c)
  pub in2 : Within 8 C (round2 e (write_m m (round1 e m n c)) c (heir e m n c))

step_of : (e : Edition) (m : Mem) (i n c : ℕ) (C : ℕ → Type 0) (t₀ t : Tree) (v : ℕ) (us us₂ : List Write) → round1 e m n c ≡ us → heir e m n c ≡ v → round2 e (write_m m us) c v ≡ us₂ → Within 8 C us → Within 8 C us₂ → ((h : ℕ) → h ≡ link e t₀ → new_root e (write_m m us) c v h ≡ link e t) → TreeAt e (write_m (write_m m us) us₂) i (root_mark e) t → Step e m i n c C t₀ t
step_of e m i n c C t₀ t v us us₂ p q r a b g h =
    record {
      rooted = λ k u. ap (λ z. new_root e (write_m m z) c (heir e m n c) k) p ∙ ap (λ z. new_root e (write_m m us) c z k) q ∙ g k u;
      tree = subst (λ z. TreeAt e z i (root_mark e) t) (unlink_m_eq e m n c v us us₂ p q r) h;
      in1 = subst (Within 8 C) (sym p) a;
      in2 = subst (Within 8 C) (sym r ∙ ap (λ z. round2 e (write_m m us) c z) (sym q) ∙ ap (λ z. round2 e (write_m m z) c (heir e m n c)) (sym p)) b;
    }

-- where the heir's writes go
heir_in : (e : Edition) (m : Mem) (fs : List Frame) (c d : ℕ) (l r : Tree) (C : ℕ → Type 0) → ((x : ℕ) → 1 ≤ count_fs x fs + (count x l + count x r) → C x) → C d → Knot m c (hole_par e (root_mark e) fs) (link e l) (link e r) → Within 8 C (heir_writes e m c d (enc e d))
heir_in e m fs c d l r C g cd kn = (
  slot_inside e m fs c (enc e d) C (λ x u. g x (omega arith)) kn.parent,
  (
    (cd, tt),
    (
      (cd, tt),
      (
        (cd, tt),
        (
          opt_inside 8 C (eqb (m c 4) (no_link e)) (m c 4 / W e) 6 (enc e d)
              (λ t. g _ (let u = opt_place e (m c 4) (no_link e) (m c 4 / W e) (subst (λ z. Linked e z (no_link e)) (sym kn.child0) (link_linked e l)) t refl in let q = link_in e l (m c 4 / W e) (sym kn.child0 ∙ u) in omega (arith, root_in l q.1, ap (λ z. count z l) q.0))) (tt),
          (
            opt_inside 8 C (eqb (m c 5) (no_link e)) (m c 5 / W e) 6 (enc e d)
                (λ t. g _ (let u = opt_place e (m c 5) (no_link e) (m c 5 / W e) (subst (λ z. Linked e z (no_link e)) (sym kn.child1) (link_linked e r)) t refl in let q = link_in e r (m c 5 / W e) (sym kn.child1 ∙ u) in omega (arith, root_in r q.1, ap (λ z. count z r) q.0))) (tt),
            tt,
          ),
        ),
      ),
    ),
  ),
)

module _ (e : Edition) (m : Mem) (i n : ℕ) (fs : List Frame) (c s : ℕ) (C : ℕ → Type 0) where
  module _ (l r : Tree)
      (one : (x : ℕ) → count_fs x fs + (ind x c + (count x l + count x r)) ≤ 1)
      (h : TreeAt e m i (root_mark e) (plug fs (node c [] s l r))) where
    here : TreeAt e m i (hole_par e (root_mark e) fs) (node c [] s l r)
    here = hole_tree e i (root_mark e) m fs (node c [] s l r) h

    case_right : ((x : ℕ) → 1 ≤ count_fs x fs + (ind x c + (count x l + count x r)) → C x) → Full r → depth r ≤ n → Step e m i n c C (plug fs (node c [] s l r)) (plug fs (node (deep_p r) (deep_r r) (deep_s r) l (rest r)))
    case_right g f k =
        step_of e m i n c C (plug fs (node c [] s l r)) (plug fs (node d (deep_r r) (deep_s r) l (rest r)))
        (enc e d) us (heir_writes e m₁ c d (enc e d)) e₁ e₂ (round2-heir e m₁ c d (λ z. hole_real e fs (sym kn.parent ∙ z)))
        ((g _ (omega (arith, slot_in c true r)), field_lt (slot_t c true r).side), tt)
        (heir_in e m₁ fs c d l (rest r) C (λ x u. g x (omega (arith, count_rest x r f))) (g d (omega (arith, deep_in r f))) kn)
        (λ k' u. root_new e m₁ c (enc e d) k' fs (node c [] s l r) (node d (deep_r r) (deep_s r) l (rest r)) kn.parent refl u)
        (unlink_right e m m₁ (write_m m₁ (heir_writes e m₁ c d (enc e d))) i fs c s (slot_field e m₁ c) l r one h f w
        (side_ok e m m₁ i c fs (node c [] s l r) h refl (omega (arith, one c, ind_self c)) (λ x u. far_right e m m₁ m₁ i fs c s 0 l r one h f w x (omega (arith, one x))) kn.parent)
        (take_writes e m₁ fs c d (deep_r r) l (rest r) (one_right e m m₁ m₁ i fs c s 0 l r one h f w) kn))
      where
        d : ℕ
        d = deep_p r

        us : List Write
        us = clear e (slot_t c true r)

        m₁ : Mem
        m₁ = write_m m us

        w : Cleared e m m₁ i (slot_t c true r)
        w = cleared e m i (slot_t c true r)

        kn : Knot m₁ c (hole_par e (root_mark e) fs) (link e l) (link e (rest r))
        kn = knot_right e m m₁ m₁ i fs c s 0 l r one h f w

        t₁ : eqb (m c 3) (enc e c) ≡ true
        t₁ = eq-eqb (m c 3) (enc e c) here.0.ring.0

        t₂ : eqb (m c 5) (no_link e) ≡ false
        t₂ = ne_eqb (m c 5) (no_link e) (λ z. none_free e _ (sym (full_link e r f) ∙ sym here.1.child1 ∙ z))

        dt : deep_m e m n c true ≡ slot_t c true r
        dt = deep_tree e m i (enc e c) n c true r f k here.1.child1 here.3

        e₁ : round1 e m n c ≡ us
        e₁ = rw (t₁, t₂) (ap (clear e) dt)

        e₂ : heir e m n c ≡ enc e d
        e₂ = rw (t₁, t₂) (ap (λ z. m z.up (field_of z.side)) dt ∙ slot_holds e m i (enc e c) c true r f here.1.child1 here.3)

  case_left : (l : Tree) → ((x : ℕ) → 1 ≤ count_fs x fs + (ind x c + (count x l + 0)) → C x) → ((x : ℕ) → count_fs x fs + (ind x c + (count x l + 0)) ≤ 1) → TreeAt e m i (root_mark e) (plug fs (node c [] s l leaf)) → Full l → depth l ≤ n → Step e m i n c C (plug fs (node c [] s l leaf)) (plug fs (node (deep_p l) (deep_r l) (deep_s l) (rest l) leaf))
  case_left l g one h f k =
      step_of e m i n c C (plug fs (node c [] s l leaf)) (plug fs (node d (deep_r l) (deep_s l) (rest l) leaf))
      (enc e d) us (heir_writes e m₁ c d (enc e d)) e₁ e₂ (round2-heir e m₁ c d (λ z. hole_real e fs (sym kn.parent ∙ z)))
      ((g _ (omega (arith, slot_in c false l)), field_lt (slot_t c false l).side), tt)
      (heir_in e m₁ fs c d (rest l) leaf C (λ x u. g x (omega (arith, count_rest x l f))) (g d (omega (arith, deep_in l f))) kn)
      (λ k' u. root_new e m₁ c (enc e d) k' fs (node c [] s l leaf) (node d (deep_r l) (deep_s l) (rest l) leaf) kn.parent refl u)
      (unlink_left e m m₁ (write_m m₁ (heir_writes e m₁ c d (enc e d))) i fs c s (slot_field e m₁ c) l leaf one h f w
      (side_ok e m m₁ i c fs (node c [] s l leaf) h refl (omega (arith, one c, ind_self c)) (λ x u. far_left e m m₁ m₁ i fs c s 0 l leaf one h f w x (omega (arith, one x))) kn.parent)
      (take_writes e m₁ fs c d (deep_r l) (rest l) leaf (one_left e m m₁ m₁ i fs c s 0 l leaf one h f w) kn))
    where
      t : TreeAt e m i (hole_par e (root_mark e) fs) (node c [] s l leaf)
      t = hole_tree e i (root_mark e) m fs (node c [] s l leaf) h

      d : ℕ
      d = deep_p l

      us : List Write
      us = clear e (slot_t c false l)

      m₁ : Mem
      m₁ = write_m m us

      w : Cleared e m m₁ i (slot_t c false l)
      w = cleared e m i (slot_t c false l)

      kn : Knot m₁ c (hole_par e (root_mark e) fs) (link e (rest l)) (no_link e)
      kn = knot_left e m m₁ m₁ i fs c s 0 l leaf one h f w

      t₁ : eqb (m c 3) (enc e c) ≡ true
      t₁ = eq-eqb (m c 3) (enc e c) t.0.ring.0

      t₂ : eqb (m c 5) (no_link e) ≡ true
      t₂ = eq-eqb (m c 5) (no_link e) t.1.child1

      t₃ : eqb (m c 4) (no_link e) ≡ false
      t₃ = ne_eqb (m c 4) (no_link e) (λ z. none_free e _ (sym (full_link e l f) ∙ sym t.1.child0 ∙ z))

      dt : deep_m e m n c false ≡ slot_t c false l
      dt = deep_tree e m i (enc e c) n c false l f k t.1.child0 t.2

      e₁ : round1 e m n c ≡ us
      e₁ = rw (t₁, t₂, t₃) (ap (clear e) dt)

      e₂ : heir e m n c ≡ enc e d
      e₂ = rw (t₁, t₂, t₃) (ap (λ z. m z.up (field_of z.side)) dt ∙ slot_holds e m i (enc e c) c false l f t.1.child0 t.2)

  case_lone : ((x : ℕ) → 1 ≤ count_fs x fs → C x) → ((x : ℕ) → count_fs x fs + (ind x c + 0) ≤ 1) → TreeAt e m i (root_mark e) (plug fs (node c [] s leaf leaf)) → Step e m i n c C (plug fs (node c [] s leaf leaf)) (plug fs leaf)
  case_lone g one h =
      step_of e m i n c C (plug fs (node c [] s leaf leaf)) (plug fs leaf)
      (no_link e) [] (slot_write e m c (no_link e) ∷ []) (rw (t₁, t₂, t₃)) (rw (t₁, t₂, t₃)) (round2_none e m c (λ z. hole_real e fs (sym t.1.parent ∙ z)))
      tt (slot_inside e m fs c (no_link e) C g t.1.parent, tt)
      (λ k' u. root_new e m c (no_link e) k' fs (node c [] s leaf leaf) leaf t.1.parent refl u)
      (unlink_lone e m (write_m m (slot_write e m c (no_link e) ∷ [])) i fs c s (slot_field e m c)
      (side_ok e m m i c fs (node c [] s leaf leaf) h refl (omega (arith, one c, ind_self c)) (λ x u j v. refl) t.1.parent)
      (λ x. omega (arith, one x)) h
      (dropped e m c (subst (λ z. Linked e z (root_mark e)) (sym t.1.parent) (hole_linked e fs))))
    where
      t : TreeAt e m i (hole_par e (root_mark e) fs) (node c [] s leaf leaf)
      t = hole_tree e i (root_mark e) m fs (node c [] s leaf leaf) h

      t₁ : eqb (m c 3) (enc e c) ≡ true
      t₁ = eq-eqb (m c 3) (enc e c) t.0.ring.0

      t₂ : eqb (m c 5) (no_link e) ≡ true
      t₂ = eq-eqb (m c 5) (no_link e) t.1.child1

      t₃ : eqb (m c 4) (no_link e) ≡ true
      t₃ = eq-eqb (m c 4) (no_link e) t.1.child0

  case_head : (y : ℕ) (ys : List ℕ) (l r : Tree) → ((x : ℕ) → 1 ≤ count_fs x fs + (ind x c + (ind x y + count_l x ys) + (count x l + count x r)) → C x) → ((x : ℕ) → count_fs x fs + (ind x c + (ind x y + count_l x ys) + (count x l + count x r)) ≤ 1) → TreeAt e m i (root_mark e) (plug fs (node c (y ∷ ys) s l r)) → Step e m i n c C (plug fs (node c (y ∷ ys) s l r)) (plug fs (node y ys s l r))
  case_head y ys l r g one h =
      step_of e m i n c C (plug fs (node c (y ∷ ys) s l r)) (plug fs (node y ys s l r))
      (enc e y) us (heir_writes e m₁ c y (enc e y)) (rw t₁) (rw t₁ t.0.ring.0) (round2-heir e m₁ c y (λ z. hole_real e fs (sym kn.parent ∙ z))) (
        (subst C (sym (back e (m c 2) (last y ys) (chain_last e m c (y ∷ ys) c t.0.ring))) (g _ (omega (arith, last_in y ys))), tt),
        ((subst C (sym (back e (m c 3) y t.0.ring.0)) (g y (omega (arith, ind_self y))), tt), tt),
      )
      (heir_in e m₁ fs c y l r C (λ x u. g x (omega arith)) (g y (omega (arith, ind_self y))) kn)
      (λ k' u. root_new e m₁ c (enc e y) k' fs (node c (y ∷ ys) s l r) (node y ys s l r) kn.parent refl u)
      (unlink_head e m m₁ (write_m m₁ (heir_writes e m₁ c y (enc e y))) i fs c s (slot_field e m₁ c) l r y ys one h w
      (side_ok e m m₁ i c fs (node c (y ∷ ys) s l r) h refl (omega (arith, one c, ind_self c)) (λ x u. far_head e m m₁ m₁ i fs c s 0 l r y ys one h w x (omega (arith, one x))) kn.parent)
      (take_writes e m₁ fs c y ys l r (one_head e m m₁ m₁ i fs c s 0 l r y ys one h w) kn))
    where
      t : TreeAt e m i (hole_par e (root_mark e) fs) (node c (y ∷ ys) s l r)
      t = hole_tree e i (root_mark e) m fs (node c (y ∷ ys) s l r) h

      us : List Write
      us = put (m c 2 / W e) 3 (m c 3) ∷ put (m c 3 / W e) 2 (m c 2) ∷ []

      m₁ : Mem
      m₁ = write_m m us

      w : Cut e m m₁ c
      w = cut_wrote e m c (last y ys) y (chain_last e m c (y ∷ ys) c t.0.ring) t.0.ring.0

      kn : Knot m₁ c (hole_par e (root_mark e) fs) (link e l) (link e r)
      kn = knot_head e m m₁ m₁ i fs c s 0 l r y ys one h w

      t₁ : eqb (m c 3) (enc e c) ≡ false
      t₁ = ne_eqb (m c 3) (enc e c) (λ z. omega (arith, one c, ind_self c, ind_eq c y (enc_inj e c y (sym z ∙ t.0.ring.0))))

others_at : (e : Edition) (m : Mem) (i s : ℕ) (xs : List ℕ) (c : ℕ) (ys : List ℕ) → Others e m i s (xs ++ c ∷ ys) → m c 6 ≡ no_link e
others_at e m i s [] c ys h = h.1.parent
others_at e m i s (x ∷ xs) c ys h = others_at e m i s xs c ys h.2

case_other : (e : Edition) (m : Mem) (i n : ℕ) (fs : List Frame) (c p : ℕ) (ps : List ℕ) (s : ℕ) (l r : Tree) (C : ℕ → Type 0) → ((x : ℕ) → 1 ≤ ind x p + count_l x ps → C x) → 1 ≤ count_l c ps → ((x : ℕ) → count_fs x fs + (ind x p + count_l x ps + (count x l + count x r)) ≤ 1) → TreeAt e m i (root_mark e) (plug fs (node p ps s l r)) → Step e m i n c C (plug fs (node p ps s l r)) (plug fs (node p (remove c ps) s l r))
case_other e m i n fs c p ps s l r C g hc one h =
    step_of e m i n c C (plug fs (node p ps s l r)) (plug fs (node p (remove c ps) s l r))
    (m c 3) us [] (rw t₁) (rw t₁) (round2_other e (write_m m us) c (m c 3) loose) (
      (subst C (sym (back e (m c 2) (last p q.before) (chain_last e m p q.before c ch.0))) (g _ (omega (arith, counts (last p q.before), last_in p q.before))), tt),
      ((subst C (sym (back e (m c 3) nx.0 nx.1)) (g _ (omega (arith, counts nx.0, nx.2))), tt), tt),
    )
    tt
    (λ k' u. rw (ne_eqb (write_m m us c 6) (root_mark e) (λ z. none_mark e (sym loose ∙ z))) (u ∙ plug-link e fs (node p ps s l r) (node p (remove c ps) s l r) refl))
    (unlink_other e m (write_m m us) i fs c p ps s l r hc one h w)
  where
    t : TreeAt e m i (hole_par e (root_mark e) fs) (node p ps s l r)
    t = hole_tree e i (root_mark e) m fs (node p ps s l r) h

    q : Parted c ps
    q = part c ps hc

    ra : RingAt e m i p (q.before ++ c ∷ q.behind) s
    ra = subst (λ z. RingAt e m i p z s) q.whole t.0

    ch : Chain e m p q.before c × Chain e m c q.behind p
    ch = chain_split e m p q.before c q.behind p ra.ring

    us : List Write
    us = put (m c 2 / W e) 3 (m c 3) ∷ put (m c 3 / W e) 2 (m c 2) ∷ []

    nx : (k : ℕ) × (m c 3 ≡ enc e k) × (1 ≤ ind k p + count_l k q.behind)
    nx = next_in e m c q.behind p ch.1

    w : Cut e m (write_m m us) c
    w = cut_wrote e m c (last p q.before) nx.0 (chain_last e m p q.before c ch.0) nx.1

    loose : write_m m us c 6 ≡ no_link e
    loose = w.kept c 6 (λ _ z. omega arith) (λ _ z. omega arith) ∙ others_at e m i s q.before c q.behind ra.others

    counts : (x : ℕ) → count_l x ps ≡ count_l x q.before + (ind x c + count_l x q.behind)
    counts x = ap (count_l x) q.whole ∙ count_l_append x q.before (c ∷ q.behind)

    t₁ : eqb (m c 3) (enc e c) ≡ false
    t₁ = ne_eqb (m c 3) (enc e c) (λ z. omega (arith, one c, counts c, ind_self c, nx.2, ap (λ x. ind x p + count_l x q.behind) (enc_inj e c nx.0 (sym z ∙ nx.1))))

depth-plug : (fs : List Frame) (t : Tree) → depth t ≤ depth (plug fs t)
depth-plug [] t = omega arith
depth-plug (frame true p ps s o ∷ fs) t = omega (arith, depth-plug fs (node p ps s o t))
depth-plug (frame false p ps s o ∷ fs) t = omega (arith, depth-plug fs (node p ps s t o))

case_here : (e : Edition) (m : Mem) (i n : ℕ) (fs : List Frame) (c : ℕ) (ps : List ℕ) (s : ℕ) (l r : Tree) (C : ℕ → Type 0) → ((x : ℕ) → 1 ≤ count_fs x fs + (ind x c + count_l x ps + (count x l + count x r)) → C x) → depth (node c ps s l r) ≤ n → ((x : ℕ) → count_fs x fs + (ind x c + count_l x ps + (count x l + count x r)) ≤ 1) → TreeAt e m i (root_mark e) (plug fs (node c ps s l r)) → Step e m i n c C (plug fs (node c ps s l r)) (plug fs (lose ps s l r))
case_here e m i n fs c (y ∷ ys) s l r C g k one h = case_head e m i n fs c s C y ys l r g one h
case_here e m i n fs c [] s leaf leaf C g k one h = case_lone e m i n fs c s C (λ x u. g x (omega arith)) (λ x. omega (arith, one x)) h
case_here e m i n fs c [] s (node p₁ ps₁ s₁ l₁ r₁) leaf C g k one h = case_left e m i n fs c s C (node p₁ ps₁ s₁ l₁ r₁) (λ x u. g x (omega arith)) (λ x. omega (arith, one x)) h tt (omega arith)
case_here e m i n fs c [] s l (node p₂ ps₂ s₂ l₂ r₂) C g k one h = case_right e m i n fs c s C l (node p₂ ps₂ s₂ l₂ r₂) (λ x. omega (arith, one x)) h (λ x u. g x (omega arith)) tt (omega arith)

-- The simulation of unlink
pub unlink_mem : (e : Edition) (m : Mem) (i n c : ℕ) (t : Tree) (C : ℕ → Type 0) → ((x : ℕ) → 1 ≤ count x t → C x) → depth t ≤ n → Distinct t → 1 ≤ count c t → TreeAt e m i (root_mark e) t → Step e m i n c C t (unlink c t)
unlink_mem e m i n c t C ct k d hc h =
    subst (Step e m i n c C t) (sym g.after) (subst (λ z. Step e m i n c C z (plug g.fs (unlink_here c g.p g.ps g.s g.l g.r))) (sym g.whole) (⊎_elim at_head at_other (same? c g.p)))
  where
    g : Found c t (unlink c t)
    g = found c t d hc

    h₁ : TreeAt e m i (root_mark e) (plug g.fs (node g.p g.ps g.s g.l g.r))
    h₁ = subst (TreeAt e m i (root_mark e)) g.whole h

    k₁ : depth (node g.p g.ps g.s g.l g.r) ≤ n
    k₁ = omega (arith, depth-plug g.fs (node g.p g.ps g.s g.l g.r), ap depth g.whole, k)

    same : (x : ℕ) → count x t ≡ count_fs x g.fs + (ind x g.p + count_l x g.ps + (count x g.l + count x g.r))
    same x = ap (count x) g.whole ∙ count-plug x g.fs (node g.p g.ps g.s g.l g.r)

    one : (x : ℕ) → count_fs x g.fs + (ind x g.p + count_l x g.ps + (count x g.l + count x g.r)) ≤ 1
    one x = omega (arith, d x, same x)

    at_head : c ≡ g.p → Step e m i n c C (plug g.fs (node g.p g.ps g.s g.l g.r)) (plug g.fs (unlink_here c g.p g.ps g.s g.l g.r))
    at_head q =
        rw (eq-eqb c g.p q)
        (subst (λ z. Step e m i n z C (plug g.fs (node g.p g.ps g.s g.l g.r)) (plug g.fs (lose g.ps g.s g.l g.r))) (sym q) (case_here e m i n g.fs g.p g.ps g.s g.l g.r C (λ x u. ct x (omega (arith, same x))) k₁ one h₁))

    at_other : (c ≡ g.p → ⊥) → Step e m i n c C (plug g.fs (node g.p g.ps g.s g.l g.r)) (plug g.fs (unlink_here c g.p g.ps g.s g.l g.r))
    at_other q =
        rw (ne_eqb c g.p q)
        (case_other e m i n g.fs c g.p g.ps g.s g.l g.r C (λ x u. ct x (omega (arith, same x))) (omega (arith, g.here, ind_ne c g.p q)) one h₁)

-- exactly c is gone
pub count-unlink : (x c : ℕ) (t : Tree) → Distinct t → 1 ≤ count c t → count x (unlink c t) + ind x c ≡ count x t
count-unlink x c t d hc =
    omega (
      arith,
      ap (count x) g.whole,
      ap (count x) g.after,
      count-plug x g.fs (node g.p g.ps g.s g.l g.r),
      count-plug x g.fs (unlink_here c g.p g.ps g.s g.l g.r),
      here,
    )
  where
    g : Found c t (unlink c t)
    g = found c t d hc

    here : count x (unlink_here c g.p g.ps g.s g.l g.r) + ind x c ≡ ind x g.p + count_l x g.ps + (count x g.l + count x g.r)
    here =
        ⊎_elim
        (λ q. rw (eq-eqb c g.p q) (omega (arith, count-lose x g.ps g.s g.l g.r, ap (ind x) q)))
        (λ q. rw (ne_eqb c g.p q) (omega (arith, count-remove x c g.ps (omega (arith, g.here, ind_ne c g.p q)))))
        (same? c g.p)

-- On words. L1: the second round reads the words that the first has written.
unfoldable pub unlink_w : Edition → List ℕ → ℕ → ℕ → List ℕ
unlink_w e w n c =
    let w₁ = write_w w (round1 e (fld w) n c) in
    write_w w₁ (round2 e (fld w₁) c (heir e (fld w) n c))

slot_same : (e : Edition) (m m' : Mem) (c v : ℕ) (C : ℕ → Type 0) → m' c 6 ≡ m c 6 → Agree m m' c → ((x : ℕ) → C x → Agree m m' x) → Inside 8 C (slot_write e m c v) → slot_write e m' c v ≡ slot_write e m c v
slot_same e m m' c v C q₆ a g ok =
    rw q₆
    (by (λ b. Inside 8 C (pick b skip (put (m c 6 / W e) (slot_field e m c) v)) → pick b skip (put (m c 6 / W e) (pick (eqb (m' (m c 6 / W e) 4) (enc e c)) 4 5) v) ≡ pick b skip (put (m c 6 / W e) (slot_field e m c) v))
    (eqb (m c 6) (root_mark e)) (λ _ _. refl) (λ _ o. rw (g (m c 6 / W e) o.0 4 tt)) ok)

pub round2_same : (e : Edition) (m m' : Mem) (c v : ℕ) (C : ℕ → Type 0) → Agree m m' c → ((x : ℕ) → C x → Agree m m' x) → Within 8 C (round2 e m c v) → round2 e m' c v ≡ round2 e m c v
round2_same e m m' c v C a g =
    subst (λ z. Within 8 C (round2 e m c v) → pick (eqb z (no_link e)) [] (pick (eqb v (no_link e)) (slot_write e m' c v ∷ []) (heir_writes e m' c (v / W e) v)) ≡ round2 e m c v) (sym (a 6 tt))
    (by (λ b. Within 8 C (pick b [] (pick (eqb v (no_link e)) (slot_write e m c v ∷ []) (heir_writes e m c (v / W e) v))) → pick b [] (pick (eqb v (no_link e)) (slot_write e m' c v ∷ []) (heir_writes e m' c (v / W e) v)) ≡ pick b [] (pick (eqb v (no_link e)) (slot_write e m c v ∷ []) (heir_writes e m c (v / W e) v)))
    (eqb (m c 6) (no_link e)) (λ _ _. refl)
    (λ _.
    by (λ b. Within 8 C (pick b (slot_write e m c v ∷ []) (heir_writes e m c (v / W e) v)) → pick b (slot_write e m' c v ∷ []) (heir_writes e m' c (v / W e) v) ≡ pick b (slot_write e m c v ∷ []) (heir_writes e m c (v / W e) v))
    (eqb v (no_link e))
    (λ _ o. ap (λ z. z ∷ []) (slot_same e m m' c v C (a 6 tt) a g o.0))
    (λ _ o. heirs (slot_same e m m' c v C (a 6 tt) a g o.0))))
  where
    heirs : slot_write e m' c v ≡ slot_write e m c v → heir_writes e m' c (v / W e) v ≡ heir_writes e m c (v / W e) v
    heirs q =
        ap (λ z. z ∷ put (v / W e) 6 (m' c 6) ∷ put (v / W e) 4 (m' c 4) ∷ put (v / W e) 5 (m' c 5) ∷ pick (eqb (m' c 4) (no_link e)) skip (put (m' c 4 / W e) 6 v) ∷ pick (eqb (m' c 5) (no_link e)) skip (put (m' c 5 / W e) 6 v) ∷ []) q
        ∙ rw (a 4 tt, a 5 tt, a 6 tt)

pub unlink_words : (e : Edition) (w : List ℕ) (C : ℕ → Type 0) (i n c : ℕ) (t : Tree) → Spaced 8 C (length w) → ((x : ℕ) → 1 ≤ count x t → C x) → depth t ≤ n → Distinct t → 1 ≤ count c t → TreeAt e (fld w) i (root_mark e) t → TreeAt e (fld (unlink_w e w n c)) i (root_mark e) (unlink c t)
unfolding unlink_w unlink_m
unlink_words e w C i n c t sp ct k d hc h =
    keep e (write_m m₁ us₂) (fld (unlink_w e w n c)) i (root_mark e) (unlink c t) (λ x u j v. last_view x (ct x (omega (arith, count-unlink x c t d hc))) j (but_lt j v)) st.tree
  where
    st : Step e (fld w) i n c C t (unlink c t)
    st = unlink_mem e (fld w) i n c t C ct k d hc h

    us : List Write
    us = round1 e (fld w) n c

    w₁ : List ℕ
    w₁ = write_w w us

    m₁ : Mem
    m₁ = write_m (fld w) us

    us₂ : List Write
    us₂ = round2 e m₁ c (heir e (fld w) n c)

    view₁ : Views 8 C w₁ m₁
    view₁ = view_writes w (fld w) us sp (λ x a j b. refl) st.in1

    agree : (x : ℕ) → C x → Agree m₁ (fld w₁) x
    agree x a j v = view₁ x a j (but_lt j v)

    last_view : Views 8 C (unlink_w e w n c) (write_m m₁ us₂)
    last_view =
        subst (λ z. Views 8 C (write_w w₁ z) (write_m m₁ us₂)) (sym (round2_same e m₁ (fld w₁) c (heir e (fld w) n c) C (agree c (ct c hc)) agree st.in2))
        (view_writes w₁ m₁ us₂ (rw (length-write_w w us) sp) view₁ st.in2)
