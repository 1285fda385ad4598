-- `unlink_large_chunk`: L1, the fields that it writes, in two rounds; and that these make the tree without c.
use Rattle.std.specs.Prelude.{◌≡◌, refl, Bool, true, false, List, [], ◌∷◌, ◌⊎◌, ℕ, zero, suc, ◌+◌, ◌≤◌, ◌/◌, max, eqb}
use Rattle.std.proofs.Common.{sym, ◌∙◌, ap, subst, inl, inr, arith, eq-eqb, ne_eqb}
use Rattle.std.proofs.Math.Nat.{mul-div_cancel_left}
use Rattle.std.proofs.lemmas.Bool.{eqb-false}
use Rattle.words.specs.Fields.{Mem, ind, ind_self, Write, put, skip, do_m, upd, write_m, self, Miss, do_miss, upd_miss, opt_miss, opt_hit, count_l}
use Rattle.words.specs.Logic.{pick}
use Rattle.words.specs.Edition.{Edition, W, no_link, root_mark, W_pos, none_free, mark-free, none_mark, enc}
use Rattle.tries.specs.Tree.{Tree, leaf, node, count, Full, deep_p}
use Rattle.tries.specs.TreeAt.{link, Knot, TreeAt, but_head, but_tail, Agree}
use Rattle.tries.specs.Context.{Frame, frame, plug, count_fs, hole_par, hole_tree}
use Rattle.tries.specs.RingCut.{Cut}
use Rattle.tries.specs.Unlink.{Child, field_of, slot_t, Cleared, TookOver, SideOk, link_in, root_in, hole_in}
use Rattle.tries.specs.UnlinkSim.{Dropped}

-- L1

-- the child field that holds the deepest descendant
abbrev pub deep_m : Edition → Mem → ℕ → ℕ → Bool → Child
deep_m e m zero a b = record { up = a; side = b }
deep_m e m (suc n) a b =
    let y = m a (field_of b) / W e in
    pick (eqb (m y 5) (no_link e)) (pick (eqb (m y 4) (no_link e)) (record { up = a; side = b }) (deep_m e m n y false)) (deep_m e m n y true)

abbrev pub clear : Edition → Child → List Write
clear e c = put c.up (field_of c.side) (no_link e) ∷ []

-- the first round: c leaves its ring, or its deepest descendant its parent
abbrev pub round1 : Edition → Mem → ℕ → ℕ → List Write
round1 e m n c =
    pick (eqb (m c 3) (enc e c))
    (pick (eqb (m c 5) (no_link e)) (pick (eqb (m c 4) (no_link e)) [] (clear e (deep_m e m n c false))) (clear e (deep_m e m n c true)))
    (put (m c 2 / W e) 3 (m c 3) ∷ put (m c 3 / W e) 2 (m c 2) ∷ [])

-- the link to what takes c's place
abbrev pub heir : Edition → Mem → ℕ → ℕ → ℕ
heir e m n c =
    pick (eqb (m c 3) (enc e c))
    (pick (eqb (m c 5) (no_link e))
    (pick (eqb (m c 4) (no_link e)) (no_link e) (m (deep_m e m n c false).up (field_of (deep_m e m n c false).side)))
    (m (deep_m e m n c true).up (field_of (deep_m e m n c true).side)))
    (m c 3)

abbrev pub slot_field : Edition → Mem → ℕ → ℕ
slot_field e m c = pick (eqb (m (m c 6 / W e) 4) (enc e c)) 4 5

-- the second round, with the link v to the heir: the parent's child field, the heir's knot, the children's parent
abbrev pub slot_write : Edition → Mem → ℕ → ℕ → Write
slot_write e m c v = pick (eqb (m c 6) (root_mark e)) skip (put (m c 6 / W e) (slot_field e m c) v)

abbrev pub heir_writes : Edition → Mem → ℕ → ℕ → ℕ → List Write
heir_writes e m c d v =
    slot_write e m c v ∷ put d 6 (m c 6) ∷ put d 4 (m c 4) ∷ put d 5 (m c 5)
    ∷ pick (eqb (m c 4) (no_link e)) skip (put (m c 4 / W e) 6 v)
    ∷ pick (eqb (m c 5) (no_link e)) skip (put (m c 5 / W e) 6 v) ∷ []

abbrev pub round2 : Edition → Mem → ℕ → ℕ → List Write
round2 e m c v = pick (eqb (m c 6) (no_link e)) [] (pick (eqb v (no_link e)) (slot_write e m c v ∷ []) (heir_writes e m c (v / W e) v))

-- the bin's root link
abbrev pub new_root : Edition → Mem → ℕ → ℕ → ℕ → ℕ
new_root e m c v h = pick (eqb (m c 6) (root_mark e)) v h

-- the descent finds the slot
abbrev pub depth : Tree → ℕ
depth leaf = 0
depth (node p ps s l r) = suc (max (depth l) (depth r))

pub deep_tree : (e : Edition) (m : Mem) (i up n a : ℕ) (b : Bool) (t : Tree) → Full t → depth t ≤ n → m a (field_of b) ≡ link e t → TreeAt e m i up t → deep_m e m n a b ≡ slot_t a b t
deep_tree e m i up zero a b leaf f k q h = absurd f
deep_tree e m i up (suc n) a b leaf f k q h = absurd f
deep_tree e m i up zero a b (node p ps s l r) f k q h = absurd (omega arith)
deep_tree e m i up (suc n) a b (node p ps s leaf leaf) f k q h =
    rw (ap (λ z. z / W e) q ∙ mul-div_cancel_left p (W_pos e), eq-eqb (m p 5) (no_link e) h.1.child1, eq-eqb (m p 4) (no_link e) h.1.child0)
deep_tree e m i up (suc n) a b (node p ps s (node p₁ ps₁ s₁ l₁ r₁) leaf) f k q h =
    rw (ap (λ z. z / W e) q ∙ mul-div_cancel_left p (W_pos e), eq-eqb (m p 5) (no_link e) h.1.child1, ne_eqb (m p 4) (no_link e) (λ z. none_free e p₁ (sym h.1.child0 ∙ z)))
    (deep_tree e m i (enc e p) n p false (node p₁ ps₁ s₁ l₁ r₁) tt (omega arith) h.1.child0 h.2)
deep_tree e m i up (suc n) a b (node p ps s l (node p₂ ps₂ s₂ l₂ r₂)) f k q h =
    rw (ap (λ z. z / W e) q ∙ mul-div_cancel_left p (W_pos e), ne_eqb (m p 5) (no_link e) (λ z. none_free e p₂ (sym h.1.child1 ∙ z)))
    (deep_tree e m i (enc e p) n p true (node p₂ ps₂ s₂ l₂ r₂) tt (omega arith) h.1.child1 h.3)

-- what the slot holds is the deepest
pub slot_holds : (e : Edition) (m : Mem) (i up a : ℕ) (b : Bool) (t : Tree) → Full t → m a (field_of b) ≡ link e t → TreeAt e m i up t → m (slot_t a b t).up (field_of (slot_t a b t).side) ≡ enc e (deep_p t)
slot_holds e m i up a b leaf f q h = absurd f
slot_holds e m i up a b (node p ps s leaf leaf) f q h = q
slot_holds e m i up a b (node p ps s (node p₁ ps₁ s₁ l₁ r₁) leaf) f q h = slot_holds e m i (enc e p) p false (node p₁ ps₁ s₁ l₁ r₁) tt h.1.child0 h.2
slot_holds e m i up a b (node p ps s l (node p₂ ps₂ s₂ l₂ r₂)) f q h = slot_holds e m i (enc e p) p true (node p₂ ps₂ s₂ l₂ r₂) tt h.1.child1 h.3

-- the relations of the simulation, from the writes
pub cleared : (e : Edition) (m : Mem) (i : ℕ) (c : Child) → Cleared e m (write_m m (clear e c)) i c
cleared e m i c =
    (rw (eq-eqb (field_of c.side) (field_of c.side) refl, self c.up), λ x j n. upd_miss m c.up (field_of c.side) (no_link e) x j n)

pub back : (e : Edition) (v p : ℕ) → v ≡ enc e p → v / W e ≡ p
back e v p u = ap (λ z. z / W e) u ∙ mul-div_cancel_left p (W_pos e)

pub cut_wrote : (e : Edition) (m : Mem) (c f r : ℕ) → m c 2 ≡ enc e f → m c 3 ≡ enc e r → Cut e m (write_m m (put (m c 2 / W e) 3 (m c 3) ∷ put (m c 3 / W e) 2 (m c 2) ∷ [])) c
cut_wrote e m c f r hf hr =
    record {
      next = λ x u. rw (eq-eqb x (m c 2 / W e) (sym (back e (m c 2) x u)));
      prev = λ x u. rw (eq-eqb x (m c 3 / W e) (sym (back e (m c 3) x u)));
      kept = λ x j n₁ n₂.
          upd_miss (upd m (m c 2 / W e) 3 (m c 3)) (m c 3 / W e) 2 (m c 2) x j (λ u. n₂ (hr ∙ ap (enc e) (sym (u ∙ back e (m c 3) r hr)))) ∙
          upd_miss m (m c 2 / W e) 3 (m c 3) x j (λ u. n₁ (hf ∙ ap (enc e) (sym (u ∙ back e (m c 2) f hf))));
    }

-- a word that is a place's link, or the given other word
abbrev pub Linked : Edition → ℕ → ℕ → Type 0
Linked e v other = (v ≡ other) ⊎ ((x : ℕ) × (v ≡ enc e x))

-- the place that an optional write goes to
pub opt_place : (e : Edition) (v other x : ℕ) → Linked e v other → eqb v other ≡ false → x ≡ v / W e → v ≡ enc e x
opt_place e v other x (inl u) n q = absurd (eqb-false v other n u)
opt_place e v other x (inr u) n q = u.1 ∙ ap (enc e) (sym (q ∙ back e v u.0 u.1))

side-field : (b : Bool) (k : ℕ) → (4 ≡ k → ⊥) → (5 ≡ k → ⊥) → pick b 4 5 ≡ k → ⊥
side-field true k n₄ n₅ u = n₄ u
side-field false k n₄ n₅ u = n₅ u

module _ (e : Edition) (m : Mem) (c d : ℕ)
    (l₄ : Linked e (m c 4) (no_link e)) (l₅ : Linked e (m c 5) (no_link e)) (l₆ : Linked e (m c 6) (root_mark e))
    (n₄ : m c 4 ≡ enc e d → ⊥) (n₅ : m c 5 ≡ enc e d → ⊥) (n₆ : m c 6 ≡ enc e d → ⊥)
    (n₄₅ : (x : ℕ) → m c 4 ≡ enc e x → m c 5 ≡ enc e x → ⊥) where
  abbrev u₁ : Write
  u₁ = slot_write e m c (enc e d)

  abbrev u₅ : Write
  u₅ = pick (eqb (m c 4) (no_link e)) skip (put (m c 4 / W e) 6 (enc e d))

  abbrev u₆ : Write
  u₆ = pick (eqb (m c 5) (no_link e)) skip (put (m c 5 / W e) 6 (enc e d))

  abbrev M₄ : Mem
  M₄ = upd (upd (upd (do_m m u₁) d 6 (m c 6)) d 4 (m c 4)) d 5 (m c 5)

  miss₁ : (x j : ℕ) → (m c 6 ≡ enc e x → j ≡ slot_field e m c → ⊥) → Miss x j u₁
  miss₁ x j n = opt_miss (eqb (m c 6) (root_mark e)) (m c 6 / W e) (slot_field e m c) (enc e d) x j (λ t q. n (opt_place e (m c 6) (root_mark e) x l₆ t q))

  miss₅ : (x j : ℕ) → (m c 4 ≡ enc e x → j ≡ 6 → ⊥) → Miss x j u₅
  miss₅ x j n = opt_miss (eqb (m c 4) (no_link e)) (m c 4 / W e) 6 (enc e d) x j (λ t q. n (opt_place e (m c 4) (no_link e) x l₄ t q))

  miss₆ : (x j : ℕ) → (m c 5 ≡ enc e x → j ≡ 6 → ⊥) → Miss x j u₆
  miss₆ x j n = opt_miss (eqb (m c 5) (no_link e)) (m c 5 / W e) 6 (enc e d) x j (λ t q. n (opt_place e (m c 5) (no_link e) x l₅ t q))

  -- the children's parent words aside
  top : (x j : ℕ) → (m c 4 ≡ enc e x → j ≡ 6 → ⊥) → (m c 5 ≡ enc e x → j ≡ 6 → ⊥) → do_m (do_m M₄ u₅) u₆ x j ≡ M₄ x j
  top x j a b = do_miss (do_m M₄ u₅) u₆ x j (miss₆ x j b) ∙ do_miss M₄ u₅ x j (miss₅ x j a)

  -- the heir's knot aside
  mid : (x j : ℕ) → (x ≡ d → j ≡ 6 → ⊥) → (x ≡ d → j ≡ 4 → ⊥) → (x ≡ d → j ≡ 5 → ⊥) → M₄ x j ≡ do_m m u₁ x j
  mid x j a b k =
      upd_miss (upd (upd (do_m m u₁) d 6 (m c 6)) d 4 (m c 4)) d 5 (m c 5) x j k
      ∙ upd_miss (upd (do_m m u₁) d 6 (m c 6)) d 4 (m c 4) x j b
      ∙ upd_miss (do_m m u₁) d 6 (m c 6) x j a

  pub took_over : TookOver e m (write_m m (heir_writes e m c d (enc e d))) c d (slot_field e m c)
  took_over =
      record {
        parent = top d 6 (λ q _. n₄ q) (λ q _. n₅ q) ∙ rw (self d);
        child0 = top d 4 (λ q _. n₄ q) (λ q _. n₅ q) ∙ rw (self d);
        child1 = top d 5 (λ q _. n₄ q) (λ q _. n₅ q) ∙ rw (self d);
        left = λ x u.
            do_miss (do_m M₄ u₅) u₆ x 6 (miss₆ x 6 (λ q _. n₄₅ x u q)) ∙
            opt_hit M₄ (eqb (m c 4) (no_link e)) (m c 4 / W e) 6 (enc e d) x 6 (ne_eqb (m c 4) (no_link e) (λ z. none_free e x (sym u ∙ z))) (sym (back e (m c 4) x u)) refl;
        right = λ x u. opt_hit (do_m M₄ u₅) (eqb (m c 5) (no_link e)) (m c 5 / W e) 6 (enc e d) x 6 (ne_eqb (m c 5) (no_link e) (λ z. none_free e x (sym u ∙ z))) (sym (back e (m c 5) x u)) refl;
        slot = λ x u.
            top x (slot_field e m c) (λ _ z. not_six z) (λ _ z. not_six z) ∙
            mid x (slot_field e m c) (λ q _. n₆ (u ∙ ap (enc e) q)) (λ q _. n₆ (u ∙ ap (enc e) q)) (λ q _. n₆ (u ∙ ap (enc e) q)) ∙
            opt_hit m (eqb (m c 6) (root_mark e)) (m c 6 / W e) (slot_field e m c) (enc e d) x (slot_field e m c) (ne_eqb (m c 6) (root_mark e) (λ z. mark-free e x (sym u ∙ z))) (sym (back e (m c 6) x u)) refl;
        own = λ j v.
            top d j (λ q _. n₄ q) (λ q _. n₅ q) ∙
            mid d j (λ _ z. but_head 6 [] j (but_tail 5 (6 ∷ []) j (but_tail 4 (5 ∷ 6 ∷ []) j v)) z) (λ _ z. but_head 4 (5 ∷ 6 ∷ []) j v z) (λ _ z. but_head 5 (6 ∷ []) j (but_tail 4 (5 ∷ 6 ∷ []) j v) z) ∙
            do_miss m u₁ d j (miss₁ d j (λ q _. n₆ q));
        kept = λ x j a n₁ n₂ n₃. top x j n₁ n₂ ∙ mid x j (λ q _. a q) (λ q _. a q) (λ q _. a q) ∙ do_miss m u₁ x j (miss₁ x j n₃);
      }
    where
      not_six : slot_field e m c ≡ 6 → ⊥
      not_six = side-field (eqb (m (m c 6 / W e) 4) (enc e c)) 6 (λ z. omega arith) (λ z. omega arith)

pub dropped : (e : Edition) (m : Mem) (c : ℕ) → Linked e (m c 6) (root_mark e) → Dropped e m (write_m m (slot_write e m c (no_link e) ∷ [])) c (slot_field e m c)
dropped e m c l₆ =
    record {
      slot = λ x u. opt_hit m (eqb (m c 6) (root_mark e)) (m c 6 / W e) (slot_field e m c) (no_link e) x (slot_field e m c) (ne_eqb (m c 6) (root_mark e) (λ z. mark-free e x (sym u ∙ z))) (sym (back e (m c 6) x u)) refl;
      kept = λ x j n. do_miss m (slot_write e m c (no_link e)) x j (opt_miss (eqb (m c 6) (root_mark e)) (m c 6 / W e) (slot_field e m c) (no_link e) x j (λ t q. n (opt_place e (m c 6) (root_mark e) x l₆ t q)));
    }

pub link_linked : (e : Edition) (t : Tree) → Linked e (link e t) (no_link e)
link_linked e leaf = inl refl
link_linked e (node p ps s l r) = inr (p, refl)

pub hole_linked : (e : Edition) (fs : List Frame) → Linked e (hole_par e (root_mark e) fs) (root_mark e)
hole_linked e [] = inl refl
hole_linked e (frame b p ps s o ∷ fs) = inr (p, refl)

-- the heir's writes, from what is known of c
pub take_writes : (e : Edition) (m : Mem) (fs : List Frame) (c d : ℕ) (xs : List ℕ) (l r : Tree)
    → ((x : ℕ) → count_fs x fs + ind x c + (ind x d + count_l x xs) + (count x l + count x r) ≤ 1)
    → Knot m c (hole_par e (root_mark e) fs) (link e l) (link e r)
    → TookOver e m (write_m m (heir_writes e m c d (enc e d))) c d (slot_field e m c)
take_writes e m fs c d xs l r one kn =
    took_over e m c d
    (subst (λ z. Linked e z (no_link e)) (sym kn.child0) (link_linked e l))
    (subst (λ z. Linked e z (no_link e)) (sym kn.child1) (link_linked e r))
    (subst (λ z. Linked e z (root_mark e)) (sym kn.parent) (hole_linked e fs))
    (λ u. omega (arith, one d, ind_self d, left d u)) (λ u. omega (arith, one d, ind_self d, right d u)) (λ u. omega (arith, one d, ind_self d, hole_in e fs d (sym kn.parent ∙ u)))
    (λ x u v. omega (arith, one x, left x u, right x v))
  where
    left : (x : ℕ) → m c 4 ≡ enc e x → 1 ≤ count x l
    left x u = let q = link_in e l x (sym kn.child0 ∙ u) in omega (arith, root_in l q.1, ap (λ z. count z l) q.0)

    right : (x : ℕ) → m c 5 ≡ enc e x → 1 ≤ count x r
    right x u = let q = link_in e r x (sym kn.child1 ∙ u) in omega (arith, root_in r q.1, ap (λ z. count z r) q.0)

-- the parent's child field that led to c
pub side_ok : (e : Edition) (m m₁ : Mem) (i c : ℕ) (fs : List Frame) (t : Tree) → TreeAt e m i (root_mark e) (plug fs t) → link e t ≡ enc e c → count_fs c fs ≡ 0 → ((x : ℕ) → 1 ≤ count_fs x fs → Agree m m₁ x) → m₁ c 6 ≡ hole_par e (root_mark e) fs → SideOk fs (slot_field e m₁ c)
side_ok e m m₁ i c [] t h q n a u = tt
side_ok e m m₁ i c (frame true p ps s o ∷ fs) t h q n a u =
    rw (back e (m₁ c 6) p u)
    (rw (ne_eqb (m₁ p 4) (enc e c)
    (λ z. let v = link_in e o c (sym (hole_tree e i (root_mark e) m fs (node p ps s o t) h).1.child0 ∙ sym (a p (omega (arith, ind_self p)) 4 tt) ∙ z) in omega (arith, root_in o v.1, ap (λ y. count y o) v.0))))
side_ok e m m₁ i c (frame false p ps s o ∷ fs) t h q n a u =
    rw (back e (m₁ c 6) p u)
    (rw (eq-eqb (m₁ p 4) (enc e c) (a p (omega (arith, ind_self p)) 4 tt ∙ (hole_tree e i (root_mark e) m fs (node p ps s t o) h).1.child0 ∙ q)))

pub hole_real : (e : Edition) (fs : List Frame) → hole_par e (root_mark e) fs ≡ no_link e → ⊥
hole_real e [] u = none_mark e (sym u)
hole_real e (frame b p ps s o ∷ fs) u = none_free e p u

pub round2-heir : (e : Edition) (m : Mem) (c d : ℕ) → (m c 6 ≡ no_link e → ⊥) → round2 e m c (enc e d) ≡ heir_writes e m c d (enc e d)
round2-heir e m c d n = rw (ne_eqb (m c 6) (no_link e) n, ne_eqb (enc e d) (no_link e) (none_free e d)) (ap (λ z. heir_writes e m c z (enc e d)) (mul-div_cancel_left d (W_pos e)))

pub round2_none : (e : Edition) (m : Mem) (c : ℕ) → (m c 6 ≡ no_link e → ⊥) → round2 e m c (no_link e) ≡ slot_write e m c (no_link e) ∷ []
round2_none e m c n = rw (ne_eqb (m c 6) (no_link e) n, self (no_link e))

pub round2_other : (e : Edition) (m : Mem) (c v : ℕ) → m c 6 ≡ no_link e → round2 e m c v ≡ []
round2_other e m c v u = rw (eq-eqb (m c 6) (no_link e) u)

unfoldable pub unlink_m : Edition → Mem → ℕ → ℕ → Mem
unlink_m e m n c = write_m (write_m m (round1 e m n c)) (round2 e (write_m m (round1 e m n c)) c (heir e m n c))

pub unlink_m_eq : (e : Edition) (m : Mem) (n c v : ℕ) (us us₂ : List Write) → round1 e m n c ≡ us → heir e m n c ≡ v → round2 e (write_m m us) c v ≡ us₂ → write_m (write_m m us) us₂ ≡ unlink_m e m n c
unfolding unlink_m
unlink_m_eq e m n c v us us₂ p q r =
    ap (write_m (write_m m us)) (sym r) ∙ ap (λ z. write_m (write_m m us) (round2 e (write_m m us) c z)) (sym q)
    ∙ ap (λ z. write_m (write_m m z) (round2 e (write_m m z) c (heir e m n c))) (sym p)
