-- Unlinking a chunk from its tree, in bytes, is the writing over places of `tries`, in its two rounds: for all words, at any fuel, with no tree in
-- sight. Bytes are places divided by the word size; a write through a link to nothing falls past the arena. And in a tree the fuel does not
-- matter, if it reaches the bottom. Assumes nothing.
use Rattle.std.proofs.Math.Path.{◌≡◌, refl, ap, ap₂, subst}
use Rattle.std.proofs.Common.{sym, ◌∙◌, ⊎_elim, length-set}
use Rattle.std.specs.Prelude.{Bool, true, false, eqb, length}
use mathlib.Core.List.{List, [], ◌∷◌}
use Prim.Native.Nat.{ℕ, zero, suc, ◌+◌, ◌/◌, ◌%◌, ◌≤◌, ◌<◌}
use native.Mathlib.Omega.{arith}
use Rattle.std.proofs.Math.ListN.{get_or, set}
use borrow.Author.Tests.{eqb-true, eqb-false, ne_eqb}
use Rattle.words.specs.Logic.{pick, pick_case, by, same?}
use Rattle.words.specs.Edition.{Edition, W, no_link, root_mark, none_mark, enc, dec_enc}
use Rattle.words.specs.Fields.{Mem, ind_ne, fld, count_l, Write, skip, do_w, write_w, write_m, length-do_w, upd_miss, writes_miss}
use Rattle.words.specs.Fields as Fields
use Rattle.tries.specs.Tree.{Tree, leaf, node, count}
use Rattle.tries.specs.TreeAt.{link, Member, Knot, Others, TreeAt}
use Rattle.tries.specs.Unlink.{Child, field_of}
use Rattle.tries.specs.UnlinkWords.{deep_m, clear, round1, heir, slot_field, slot_write, heir_writes, round2, depth, deep_tree}
use Rattle.chunk.specs.Bytes.{Store, store, word, put, tree, relink_r}
use Rattle.chunk.specs.Plain.{word_plain}
use Rattle.chunk.specs.PlainLinks.{link_plain}
use Rattle.smallbin.specs.SmallBytes.{join_w}
use Rattle.treebin.specs.TreeBytes.{Seat, seat, last_side, deep_b, pop_w, pop_heir, lead_r, lead_w, adopt_w, replace_tree, unlink_large}

-- ---- the deepest descendant

module _ (e : Edition) (w : List ℕ) where
  -- the word in bytes is the field on places
  abbrev Deeper : Seat → Child → Type 0
  Deeper a d = (a.at / W e ≡ d.up) × (a.side ≡ field_of d.side)

  -- what is made of the deepest descendant below t, or x where there is none; the same on places
  abbrev last_b : {A : Type 0} → ℕ → A → (Seat → A) → ℕ → A
  last_b f x F t = pick (eqb (word e w t (last_side e w t)) (no_link e)) x (F (deep_b e w f t (last_side e w t)))

  abbrev last_m : {B : Type 0} → ℕ → B → (Child → B) → ℕ → B
  last_m f y G a = pick (eqb (fld w a 5) (no_link e)) (pick (eqb (fld w a 4) (no_link e)) y (G (deep_m e (fld w) f a false))) (G (deep_m e (fld w) f a true))

  by_last : {A B : Type 0} (R : A → B → Type 0) (f t : ℕ) (x : A) (y : B) (F : Seat → A) (G : Child → B)
      → ((b : Bool) → Deeper (deep_b e w f t (field_of b)) (deep_m e (fld w) f (t / W e) b)) → R x y → ((a : Seat) (d : Child) → Deeper a d → R (F a) (G d))
      → R (last_b f x F t) (last_m f y G (t / W e))
  unfolding fld
  by_last R f t x y F G ih xy fg =
      by (λ z. R (pick (eqb (word e w t (pick z 4 5)) (no_link e)) x (F (deep_b e w f t (pick z 4 5))))
      (pick z (pick (eqb (word e w t 4) (no_link e)) y (G (deep_m e (fld w) f (t / W e) false))) (G (deep_m e (fld w) f (t / W e) true))))
      (eqb (word e w t 5) (no_link e))
      (λ _. by (λ z. R (pick z x (F (deep_b e w f t 4))) (pick z y (G (deep_m e (fld w) f (t / W e) false)))) (eqb (word e w t 4) (no_link e))
      (λ _. xy) (λ _. fg (deep_b e w f t 4) (deep_m e (fld w) f (t / W e) false) (ih false)))
      (λ q. rw q (fg (deep_b e w f t 5) (deep_m e (fld w) f (t / W e) true) (ih true)))

  deep_is : (f t : ℕ) (b : Bool) → Deeper (deep_b e w f t (field_of b)) (deep_m e (fld w) f (t / W e) b)
  unfolding deep_b fld
  deep_is zero t b = (refl, refl)
  deep_is (suc f) t b =
      by_last Deeper f (word e w t (field_of b)) (seat t (field_of b)) (record { up = t / W e; side = b }) (λ a. a) (λ d. d) (deep_is f (word e w t (field_of b))) (refl, refl) (λ a d z. z)

  -- at a place
  last_is : {A B : Type 0} (R : A → B → Type 0) (f c : ℕ) (x : A) (y : B) (F : Seat → A) (G : Child → B) → R x y → ((a : Seat) (d : Child) → Deeper a d → R (F a) (G d))
      → R (last_b f x F (enc e c)) (last_m f y G c)
  last_is R f c x y F G xy fg = subst (λ a. R (last_b f x F (enc e c)) (last_m f y G a)) (dec_enc e c) (by_last R f (enc e c) x y F G (deep_is f (enc e c)) xy fg)

  -- ---- the first round, with 64 levels (f, a variable: the walk over places is not to be unrolled)

  module _ (f : ℕ) (levels : f ≡ 64) (c : ℕ) where
    -- a lone node gives way to its deepest descendant
    pop_words : pop_w e w (enc e c) ≡ write_w w (last_m f [] (clear e) c)
    unfolding pop_w
    pop_words =
        subst (λ n. last_b n w (λ a. put e w a.at a.side (no_link e)) (enc e c) ≡ write_w w (last_m f [] (clear e) c)) levels
        (last_is (λ u us. u ≡ write_w w us) f c w [] (λ a. put e w a.at a.side (no_link e)) (clear e) refl (λ a d z. ap₂ (λ x k. set w (x + k) (no_link e)) z.0 z.1))

    pop_heir_lem : pop_heir e w (enc e c) ≡ last_m f (no_link e) (λ d. fld w d.up (field_of d.side)) c
    unfolding pop_heir fld
    pop_heir_lem =
        subst (λ n. last_b n (no_link e) (λ a. word e w a.at a.side) (enc e c) ≡ last_m f (no_link e) (λ d. fld w d.up (field_of d.side)) c) levels
        (last_is ◌≡◌ f c (no_link e) (no_link e) (λ a. word e w a.at a.side) (λ d. fld w d.up (field_of d.side)) refl (λ a d z. ap₂ (λ x k. get_or w (x + k) 0) z.0 z.1))

    pub first_round : (r : List ℕ) → unlink_large e r w (enc e c) ≡ replace_tree e r (write_w w (round1 e (fld w) f c)) (enc e c) (heir e (fld w) f c)
    unfolding unlink_large fld
    first_round r =
        ap₂ (λ x y. pick (eqb y (enc e c)) (replace_tree e r (pop_w e w (enc e c)) (enc e c) (pop_heir e w (enc e c))) (replace_tree e r (join_w e w x y) (enc e c) y)) (word_plain e w c 2) (word_plain e w c 3)
        ∙ by (λ z. pick z (replace_tree e r (pop_w e w (enc e c)) (enc e c) (pop_heir e w (enc e c))) (replace_tree e r (join_w e w (fld w c 2) (fld w c 3)) (enc e c) (fld w c 3))
        ≡ replace_tree e r (write_w w (pick z (last_m f [] (clear e) c) (Fields.put (fld w c 2 / W e) 3 (fld w c 3) ∷ Fields.put (fld w c 3 / W e) 2 (fld w c 2) ∷ []))) (enc e c)
        (pick z (last_m f (no_link e) (λ d. fld w d.up (field_of d.side)) c) (fld w c 3)))
        (eqb (fld w c 3) (enc e c)) (λ _. ap₂ (λ u v. replace_tree e r u (enc e c) v) pop_words pop_heir_lem) (λ _. refl)

  -- ---- the second round

  -- what led to c leads to v
  lead_is : (c v : ℕ) → lead_w e w (enc e c) (fld w c 6) v ≡ do_w w (slot_write e (fld w) c v)
  unfolding lead_w fld
  lead_is c v =
      by (λ z. pick z w (put e w (fld w c 6) (slot_field e (fld w) c) v) ≡ do_w w (pick z skip (Fields.put (fld w c 6 / W e) (slot_field e (fld w) c) v))) (eqb (fld w c 6) (root_mark e)) (λ _. refl) (λ _. refl)

-- v adopts what c has
adopt_is : (e : Edition) (w : List ℕ) (v up x y : ℕ) → length w ≤ 8192
    → adopt_w e w v up x y ≡ write_w w (Fields.put (v / W e) 6 up ∷ Fields.put (v / W e) 4 x ∷ Fields.put (v / W e) 5 y
    ∷ pick (eqb x (no_link e)) skip (Fields.put (x / W e) 6 v) ∷ pick (eqb y (no_link e)) skip (Fields.put (y / W e) 6 v) ∷ [])
adopt_is e w v up x y l = ap (λ z. put e z y 6 v) (link_plain e own x 6 v fits) ∙ link_plain e (do_w own u) y 6 v (rw (length-do_w own u) fits)
  where
    own : List ℕ
    own = set (set (set w (v / W e + 6) up) (v / W e + 4) x) (v / W e + 5) y

    fits : length own ≤ 8192
    fits = simp length-set l

    u : Write
    u = pick (eqb x (no_link e)) skip (Fields.put (x / W e) 6 v)

module _ (e : Edition) (r w : List ℕ) (c v : ℕ) where
  replace_is : replace_tree e r w (enc e c) v
      ≡ pick (eqb (fld w c 6) (no_link e)) (store r w)
      (store (lead_r e r w (enc e c) (fld w c 6) v) (pick (eqb v (no_link e)) (lead_w e w (enc e c) (fld w c 6) v) (adopt_w e (lead_w e w (enc e c) (fld w c 6) v) v (fld w c 6) (fld w c 4) (fld w c 5))))
  unfolding replace_tree fld
  replace_is = rw (dec_enc e c)

  pub second_round : length w ≤ 8192 → (replace_tree e r w (enc e c) v).words ≡ write_w w (round2 e (fld w) c v)
  second_round l =
      ap (λ t. t.words) replace_is
      ∙ by (λ z. (pick z (store r w) (store image (pick (eqb v (no_link e)) led (adopt_w e led v up x y)))).words ≡ write_w w (pick z [] (pick (eqb v (no_link e)) (slot_write e (fld w) c v ∷ []) (heir_writes e (fld w) c (v / W e) v))))
      (eqb up (no_link e)) (λ _. refl)
      (λ _. by (λ z. pick z led (adopt_w e led v up x y) ≡ write_w w (pick z (slot_write e (fld w) c v ∷ []) (heir_writes e (fld w) c (v / W e) v)))
      (eqb v (no_link e)) (λ _. lead_is e w c v)
      (λ _. ap (λ z. adopt_w e z v up x y) (lead_is e w c v) ∙ adopt_is e (do_w w (slot_write e (fld w) c v)) v up x y (rw (length-do_w w (slot_write e (fld w) c v)) l)))
    where
      up : ℕ
      up = fld w c 6

      x : ℕ
      x = fld w c 4

      y : ℕ
      y = fld w c 5

      led : List ℕ
      led = lead_w e w (enc e c) up v

      image : List ℕ
      image = lead_r e r w (enc e c) up v

  -- the record's link to the root, where c was the root of bin i
  pub second_image : (i : ℕ) → fld w c 7 ≡ i → i < 32 → (replace_tree e r w (enc e c) v).image ≡ pick (eqb (fld w c 6) (root_mark e)) (relink_r e tree r i v) r
  unfolding lead_r fld
  second_image i q l =
      ap (λ t. t.image) replace_is
      ∙ by (λ z. (pick (eqb up (no_link e)) (store r w) (store (pick z (relink_r e tree r (word e w (enc e c) 7 % 32) v) r) words)).image ≡ pick z (relink_r e tree r i v) r) (eqb up (root_mark e))
      (λ z. rw (ne_eqb up (no_link e) (λ y. none_mark e (sym y ∙ eqb-true up (root_mark e) z))) (ap (λ j. relink_r e tree r j v) (ap (λ x. x % 32) (word_plain e w c 7 ∙ q) ∙ (let y : i % 32 ≡ i = omega arith in y))))
      (λ z. pick_case (λ (t : Store). t.image ≡ r) (eqb up (no_link e)) (λ _. refl) (λ _. refl))
    where
      up : ℕ
      up = fld w c 6

      words : List ℕ
      words = pick (eqb v (no_link e)) (lead_w e w (enc e c) up v) (adopt_w e (lead_w e w (enc e c) up v) v up (fld w c 4) (fld w c 5))

-- ---- the levels: in a tree any number that reaches the bottom

others_in : (e : Edition) (m : Mem) (i s x : ℕ) (ps : List ℕ) → 1 ≤ count_l x ps → Others e m i s ps → Member e m i s x × Knot m x (no_link e) (no_link e) (no_link e)
others_in e m i s x [] u h = absurd (omega arith)
others_in e m i s x (p ∷ ps) u h =
    ⊎_elim (λ q. (subst (Member e m i s) (sym q) h.0, subst (λ y. Knot m y (no_link e) (no_link e) (no_link e)) (sym q) h.1))
    (λ n. others_in e m i s x ps (omega (arith, ind_ne x p n)) h.2) (same? x p)

module _ (e : Edition) (m : Mem) (i c : ℕ) where
  -- a member is a node's tree member, or another of its ring
  by_member : (P : Type 0) (n up : ℕ) (t : Tree) → 1 ≤ count c t → depth t ≤ n → TreeAt e m i up t
      → ((p : ℕ) (ps : List ℕ) (s : ℕ) (l r : Tree) (up : ℕ) → c ≡ p → depth l ≤ n → depth r ≤ n → TreeAt e m i up (node p ps s l r) → P)
      → ((s : ℕ) → Member e m i s c → Knot m c (no_link e) (no_link e) (no_link e) → P) → P
  by_member P n up leaf u d h f g = absurd (let z : ⊥ = omega arith in z)
  by_member P n up (node p ps s l r) u d h f g =
      ⊎_elim (λ q. f p ps s l r up q (omega arith) (omega arith) h)
      (λ np. ⊎_elim
      (λ z. ⊎_elim
      (λ y. by_member P n (enc e p) r (omega (arith, ind_ne c p np)) (omega arith) h.3 f g)
      (λ y. by_member P n (enc e p) l (omega arith) (omega arith) h.2 f g)
      (same? (count c l) 0))
      (λ z. let o = others_in e m i s c ps (omega arith) h.0.others in g s o.0 o.1)
      (same? (count_l c ps) 0))
      (same? c p)

  pub index_at : (up : ℕ) (t : Tree) → 1 ≤ count c t → TreeAt e m i up t → m c 7 ≡ i
  index_at up t u h = by_member (m c 7 ≡ i) (depth t) up t u (omega arith) h (λ p ps s l r up q dl dr a. ap (λ x. m x 7) q ∙ a.0.member.index) (λ s a k. a.index)

  module _ (n f : ℕ) (nf : n ≤ f) where
    child_fuel : (p up : ℕ) (b : Bool) (t : Tree) → m p (field_of b) ≡ link e t → depth t ≤ n → TreeAt e m i up t → (m p (field_of b) ≡ no_link e → ⊥) → deep_m e m f p b ≡ deep_m e m n p b
    child_fuel p up b leaf q d h some = absurd (some q)
    child_fuel p up b (node p₁ ps₁ s₁ l₁ r₁) q d h some =
        deep_tree e m i up f p b (node p₁ ps₁ s₁ l₁ r₁) tt (omega arith) q h ∙ sym (deep_tree e m i up n p b (node p₁ ps₁ s₁ l₁ r₁) tt d q h)

    module _ (up : ℕ) (t : Tree) (u : 1 ≤ count c t) (d : depth t ≤ n) (h : TreeAt e m i up t) where
      deep_fuel : (b : Bool) → (m c (field_of b) ≡ no_link e → ⊥) → deep_m e m f c b ≡ deep_m e m n c b
      deep_fuel true some =
          by_member (deep_m e m f c true ≡ deep_m e m n c true) n up t u d h
          (λ p ps s l r up q dl dr a. subst (λ x. deep_m e m f x true ≡ deep_m e m n x true) (sym q) (child_fuel p (enc e p) true r a.1.child1 dr a.3 (λ z. some (ap (λ x. m x 5) q ∙ z))))
          (λ s a k. absurd (some k.child1))
      deep_fuel false some =
          by_member (deep_m e m f c false ≡ deep_m e m n c false) n up t u d h
          (λ p ps s l r up q dl dr a. subst (λ x. deep_m e m f x false ≡ deep_m e m n x false) (sym q) (child_fuel p (enc e p) false l a.1.child0 dl a.2 (λ z. some (ap (λ x. m x 4) q ∙ z))))
          (λ s a k. absurd (some k.child0))

      last_fuel : {A : Type 0} (x : A) (G : Child → A)
          → pick (eqb (m c 5) (no_link e)) (pick (eqb (m c 4) (no_link e)) x (G (deep_m e m f c false))) (G (deep_m e m f c true))
          ≡ pick (eqb (m c 5) (no_link e)) (pick (eqb (m c 4) (no_link e)) x (G (deep_m e m n c false))) (G (deep_m e m n c true))
      last_fuel x G =
          by (λ z. pick z (pick (eqb (m c 4) (no_link e)) x (G (deep_m e m f c false))) (G (deep_m e m f c true)) ≡ pick z (pick (eqb (m c 4) (no_link e)) x (G (deep_m e m n c false))) (G (deep_m e m n c true))) (eqb (m c 5) (no_link e))
          (λ _. by (λ z. pick z x (G (deep_m e m f c false)) ≡ pick z x (G (deep_m e m n c false))) (eqb (m c 4) (no_link e)) (λ _. refl) (λ z. ap G (deep_fuel false (eqb-false (m c 4) (no_link e) z))))
          (λ z. ap G (deep_fuel true (eqb-false (m c 5) (no_link e) z)))

      pub round_fuel : round1 e m f c ≡ round1 e m n c
      round_fuel = ap (λ us. pick (eqb (m c 3) (enc e c)) us (Fields.put (m c 2 / W e) 3 (m c 3) ∷ Fields.put (m c 3 / W e) 2 (m c 2) ∷ [])) (last_fuel [] (clear e))

      pub heir_fuel : heir e m f c ≡ heir e m n c
      heir_fuel = ap (λ v. pick (eqb (m c 3) (enc e c)) v (m c 3)) (last_fuel (no_link e) (λ d. m d.up (field_of d.side)))

  -- the first round leaves parent words and indices
  pub first_kept : (f x j : ℕ) → 6 ≤ j → write_m m (round1 e m f c) x j ≡ m x j
  first_kept f x j l =
      pick_case (λ us. write_m m us x j ≡ m x j) (eqb (m c 3) (enc e c))
      (λ _. pick_case (λ us. write_m m us x j ≡ m x j) (eqb (m c 5) (no_link e))
      (λ _. pick_case (λ us. write_m m us x j ≡ m x j) (eqb (m c 4) (no_link e)) (λ _. refl) (λ _. cleared (deep_m e m f c false)))
      (λ _. cleared (deep_m e m f c true)))
      (λ _. writes_miss m (Fields.put (m c 2 / W e) 3 (m c 3) ∷ Fields.put (m c 3 / W e) 2 (m c 2) ∷ []) x j ((λ _ z. omega arith), ((λ _ z. omega arith), tt)))
    where
      cleared : (d : Child) → write_m m (clear e d) x j ≡ m x j
      cleared d = upd_miss m d.up (field_of d.side) (no_link e) x j (λ _ z. side d.side z)
        where
          side : (b : Bool) → j ≡ field_of b → ⊥
          side true z = omega arith
          side false z = omega arith
