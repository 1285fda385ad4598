-- `insert_large_chunk` on words: the place search of L1 is that of the tree, the writes of L1 are what the simulation asks for.
use Rattle.std.specs.Prelude.{◌≡◌, refl, Bool, true, false, List, [], ◌∷◌, ℕ, zero, suc, ◌+◌, ◌≤◌, ◌/◌, eqb, length}
use Rattle.std.proofs.Common.{sym, ◌∙◌, ap, subst, inl, inr, ⊎_elim, arith, eq-eqb, ne_eqb}
use Rattle.std.proofs.Math.Nat.{mul-div_cancel_left}
use Rattle.words.specs.Fields.{Mem, ind_ne, Write, put, write_m, write_w, fld, Views, Spaced, Within, view_writes, self, writes_miss, Misses}
use Rattle.words.specs.Logic.{pick, pick_case, same?, by}
use Rattle.words.specs.Edition.{Edition, W, no_link, root_mark, W_pos, none_free, enc, head, enc_inj}
use Rattle.tries.specs.Bits.{bit, wid, Aligned}
use Rattle.tries.specs.Tree.{Tree, leaf, node, is_leaf, count, insert, count-insert, Full, Distinct}
use Rattle.tries.specs.Shape.{Shaped, Between}
use Rattle.tries.specs.TreeAt.{link, TreeAt, keep, last, chain_last, but_lt}
use Rattle.tries.specs.Insert.{Spot, first, locate_bin, slot, ring, locate, locate_t, insert_writes, SlotWrote, RingWrote, Wrote, Touch, touch_in, sim, link-insert}

abbrev pub root : Tree → ℕ
root leaf = 0
root (node p ps s l r) = p

same_head : (e : Edition) (h s s₀ : ℕ) → h ≡ head e s₀ → eqb h (head e s) ≡ eqb s s₀
same_head e h s s₀ u =
    ⊎_elim (λ v. eq-eqb h (head e s) (u ∙ ap (head e) (sym v)) ∙ sym (eq-eqb s s₀ v))
    (λ n. ne_eqb h (head e s) (λ v. n (sym (enc_inj e s₀ s (omega (arith, u, v))))) ∙ sym (ne_eqb s s₀ n))
    (same? s s₀)

step : (e : Edition) (m : Mem) (k s p v : ℕ) (b : Bool) (c : Tree) → v ≡ link e c → (Full c → locate e m k s (root c) ≡ locate_t k s c) → pick (eqb v (no_link e)) (slot b p) (locate e m k s (v / W e)) ≡ pick (is_leaf c) (slot b p) (locate_t k s c)
step e m k s p v b leaf u ih = rw (eq-eqb v (no_link e) u)
step e m k s p v b (node p₁ ps₁ s₁ l₁ r₁) u ih =
    rw (ne_eqb v (no_link e) (λ z. none_free e p₁ (sym u ∙ z))) (ap (λ z. locate e m k s z) (ap (λ z. z / W e) u ∙ mul-div_cancel_left p₁ (W_pos e)) ∙ ih tt)

pub locate_tree : (e : Edition) (m : Mem) (i par k s : ℕ) (t : Tree) → Full t → TreeAt e m i par t → locate e m k s (root t) ≡ locate_t k s t
locate_tree e m i par zero s leaf f h = absurd f
locate_tree e m i par (suc k) s leaf f h = absurd f
locate_tree e m i par zero s (node p ps s₀ l r) f h = refl
locate_tree e m i par (suc k) s (node p ps s₀ l r) f h =
    rw (same_head e (m p 1) s s₀ h.0.member.headed)
    (by
    (λ v. pick v (ring p) (pick (eqb (m p (pick (bit k s) 5 4)) (no_link e)) (slot (bit k s) p) (locate e m k s (m p (pick (bit k s) 5 4) / W e))) ≡
    pick v (ring p) (pick (bit k s) (pick (is_leaf r) (slot true p) (locate_t k s r)) (pick (is_leaf l) (slot false p) (locate_t k s l))))
    (eqb s s₀) (λ _. refl)
    (λ _.
    by
    (λ v. pick (eqb (m p (pick v 5 4)) (no_link e)) (slot v p) (locate e m k s (m p (pick v 5 4) / W e)) ≡
    pick v (pick (is_leaf r) (slot true p) (locate_t k s r)) (pick (is_leaf l) (slot false p) (locate_t k s l)))
    (bit k s)
    (λ _. step e m k s p (m p 5) true r h.1.child1 (λ c. locate_tree e m i (enc e p) k s r c h.3))
    (λ _. step e m k s p (m p 4) false l h.1.child0 (λ c. locate_tree e m i (enc e p) k s l c h.2))))

-- the writes do what the simulation asks for
module _ (e : Edition) (m : Mem) (i q s : ℕ) (hq : m q 1 ≡ head e s) where
  wrote_slot : (b : Bool) (p : ℕ) → (p ≡ q → ⊥) → SlotWrote e m (write_m m (insert_writes e m i q (slot b p))) i q s b p
  wrote_slot true p n =
      record {
        newcomer = (
          record { member = record { headed = hq; index = rw (self q) }; others = tt; ring = (rw (self q), rw (self q)) },
          record { parent = rw (self q); child0 = rw (self q); child1 = rw (self q) },
          tt,
          tt,
        );
        hit = rw (ne_eqb p q n, self p);
        kept = λ x j a b. writes_miss m (insert_writes e m i q (slot true p)) x j (b, at_q x j a);
      }
    where
      at_q : (x j : ℕ) → (x ≡ q → ⊥) → Misses x j (put q 6 (enc e p) ∷ put q 2 (enc e q) ∷ put q 3 (enc e q) ∷ put q 4 (no_link e) ∷ put q 5 (no_link e) ∷ put q 7 i ∷ [])
      at_q x j a = ((λ u v. a u), ((λ u v. a u), ((λ u v. a u), ((λ u v. a u), ((λ u v. a u), ((λ u v. a u), tt))))))
  wrote_slot false p n =
      record {
        newcomer = (
          record { member = record { headed = hq; index = rw (self q) }; others = tt; ring = (rw (self q), rw (self q)) },
          record { parent = rw (self q); child0 = rw (self q); child1 = rw (self q) },
          tt,
          tt,
        );
        hit = rw (ne_eqb p q n, self p);
        kept = λ x j a b. writes_miss m (insert_writes e m i q (slot false p)) x j (b, ((λ u v. a u), ((λ u v. a u), ((λ u v. a u), ((λ u v. a u), ((λ u v. a u), ((λ u v. a u), tt)))))));
      }

  wrote_ring : (p f : ℕ) → m p 2 ≡ enc e f → (p ≡ q → ⊥) → (f ≡ q → ⊥) → RingWrote e m (write_m m (insert_writes e m i q (ring p))) i q s p
  wrote_ring p f hf np nf =
      record {
        member = record { headed = hq; index = rw (self q) };
        knot = record { parent = rw (self q); child0 = rw (self q); child1 = rw (self q) };
        prev = rw (self q);
        next = rw (self q);
        before = λ x u. let v = enc_inj e x f (sym u ∙ hf) in rw (ne_eqb x q (λ w. nf (sym v ∙ w)), eq-eqb x (m p 2 / W e) (v ∙ sym back));
        after = rw (ne_eqb p q np, self p);
        kept = λ x j a b c. writes_miss m (insert_writes e m i q (ring p)) x j
            ((λ u. b (hf ∙ ap (enc e) (sym (u ∙ back)))), (c, ((λ u v. a u), ((λ u v. a u), ((λ u v. a u), ((λ u v. a u), ((λ u v. a u), ((λ u v. a u), tt))))))));
      }
    where
      back : m p 2 / W e ≡ f
      back = ap (λ z. z / W e) hf ∙ mul-div_cancel_left f (W_pos e)

  wrote_first : TreeAt e (write_m m (insert_writes e m i q first)) i (root_mark e) (node q [] s leaf leaf)
  wrote_first = (
    record { member = record { headed = hq; index = rw (self q) }; others = tt; ring = (rw (self q), rw (self q)) },
    record { parent = rw (self q); child0 = rw (self q); child1 = rw (self q) },
    tt,
    tt,
  )

-- the place before the tree member in its ring
abbrev pub Tail : Edition → Mem → Spot → Type 0
Tail e m first = Unit
Tail e m (slot b p) = Unit
Tail e m (ring p) = (f : ℕ) × (m p 2 ≡ enc e f)

pub tail_in : (e : Edition) (m : Mem) (i par k s : ℕ) (t : Tree) → TreeAt e m i par t → Tail e m (locate_t k s t)
tail_in e m i par k s leaf h = tt
tail_in e m i par zero s (node p ps s₀ l r) h = (last p ps, chain_last e m p ps p h.0.ring)
tail_in e m i par (suc k) s (node p ps s₀ l r) h =
    pick_case (Tail e m) (eqb s s₀) (λ _. (last p ps, chain_last e m p ps p h.0.ring))
    (λ _.
    pick_case (Tail e m) (bit k s)
    (λ _. pick_case (Tail e m) (is_leaf r) (λ _. tt) (λ _. tail_in e m i (enc e p) k s r h.3))
    (λ _. pick_case (Tail e m) (is_leaf l) (λ _. tt) (λ _. tail_in e m i (enc e p) k s l h.2)))

wrote : (e : Edition) (m : Mem) (i q s : ℕ) → m q 1 ≡ head e s → (sp : Spot) → ((x : ℕ) → Touch e m sp x → x ≡ q → ⊥) → Tail e m sp → Wrote e m (write_m m (insert_writes e m i q sp)) i q s sp
wrote e m i q s hq first n u = (wrote_first e m i q s hq, λ x j a. writes_miss m (insert_writes e m i q first) x j ((λ u v. a u), ((λ u v. a u), ((λ u v. a u), ((λ u v. a u), ((λ u v. a u), ((λ u v. a u), tt)))))))
wrote e m i q s hq (slot b p) n u = wrote_slot e m i q s hq b p (n p refl)
wrote e m i q s hq (ring p) n u = wrote_ring e m i q s hq p u.0 u.1 (n p (inl refl)) (n u.0 (inr u.1))

bin-locate : (e : Edition) (m : Mem) (i k s h : ℕ) (t : Tree) → h ≡ link e t → TreeAt e m i (root_mark e) t → locate_bin e m k s h ≡ locate_t k s t
bin-locate e m i k s h leaf u a = rw (eq-eqb h (no_link e) u)
bin-locate e m i k s h (node p ps s₀ l r) u a =
    rw (ne_eqb h (no_link e) (λ z. none_free e p (sym u ∙ z)))
    (ap (λ z. locate e m k s z) (ap (λ z. z / W e) u ∙ mul-div_cancel_left p (W_pos e)) ∙ locate_tree e m i (root_mark e) k s (node p ps s₀ l r) tt a)

-- What holds before: a bin's tree in memory, of a sound shape, and a free chunk that is in no bin.
pub record Ready (e : Edition) (m : Mem) (i k lo h q s : ℕ) (t : Tree) : Type 0 where
  pub aligned : Aligned k lo
  pub sized : Between lo (lo + wid k) s
  pub shaped : Shaped k lo t
  pub distinct : Distinct t
  pub new : count q t ≡ 0
  pub headed : m q 1 ≡ head e s
  pub rooted : h ≡ link e t
  pub tree : TreeAt e m i (root_mark e) t

pub insert_mem : (e : Edition) (m : Mem) (i k lo h q s : ℕ) (t : Tree) → Ready e m i k lo h q s t → TreeAt e (write_m m (insert_writes e m i q (locate_bin e m k s h))) i (root_mark e) (insert q s k t)
insert_mem e m i k lo h q s leaf a = rw (bin-locate e m i k s h leaf a.rooted a.tree) (wrote_first e m i q s a.headed)
insert_mem e m i k lo h q s (node p ps s₀ l r) a =
    rw (bin-locate e m i k s h (node p ps s₀ l r) a.rooted a.tree)
    (sim e m (write_m m (insert_writes e m i q (locate_t k s (node p ps s₀ l r)))) i q s k lo (root_mark e) (node p ps s₀ l r) tt a.aligned a.sized a.shaped a.distinct a.new a.tree
    (wrote e m i q s a.headed (locate_t k s (node p ps s₀ l r))
    (λ x u y. omega (arith, touch_in e m i (root_mark e) k s (node p ps s₀ l r) tt a.tree x u, a.new, ap (λ z. count z (node p ps s₀ l r)) y))
    (tail_in e m i (root_mark e) k s (node p ps s₀ l r) a.tree)))

within : (e : Edition) (m : Mem) (C : ℕ → Type 0) (i q : ℕ) (sp : Spot) → C q → ((x : ℕ) → Touch e m sp x → C x) → Tail e m sp → Within 8 C (insert_writes e m i q sp)
within e m C i q first cq t u = ((cq, tt), ((cq, tt), ((cq, tt), ((cq, tt), ((cq, tt), ((cq, tt), tt))))))
within e m C i q (slot true p) cq t u = ((t p refl, tt), ((cq, tt), ((cq, tt), ((cq, tt), ((cq, tt), ((cq, tt), ((cq, tt), tt)))))))
within e m C i q (slot false p) cq t u = ((t p refl, tt), ((cq, tt), ((cq, tt), ((cq, tt), ((cq, tt), ((cq, tt), ((cq, tt), tt)))))))
within e m C i q (ring p) cq t u = (
  (subst C (sym (ap (λ z. z / W e) u.1 ∙ mul-div_cancel_left u.0 (W_pos e))) (t u.0 (inr u.1)), tt),
  ((t p (inl refl), tt), ((cq, tt), ((cq, tt), ((cq, tt), ((cq, tt), ((cq, tt), ((cq, tt), tt))))))),
)

in_places : (e : Edition) (m : Mem) (C : ℕ → Type 0) (i k s : ℕ) (t : Tree) → TreeAt e m i (root_mark e) t → ((x : ℕ) → 1 ≤ count x t → C x) → (x : ℕ) → Touch e m (locate_t k s t) x → C x
in_places e m C i k s leaf h c x u = absurd u
in_places e m C i k s (node p ps s₀ l r) h c x u = c x (touch_in e m i (root_mark e) k s (node p ps s₀ l r) tt h x u)

abbrev pub insert_w : Edition → List ℕ → ℕ → ℕ → ℕ → ℕ → ℕ → List ℕ
insert_w e w i k h q s = write_w w (insert_writes e (fld w) i q (locate_bin e (fld w) k s h))

-- On words: C are the places of the arena's chunks.
pub insert_words : (e : Edition) (w : List ℕ) (C : ℕ → Type 0) (i k lo h q s : ℕ) (t : Tree) → Spaced 8 C (length w) → ((x : ℕ) → 1 ≤ count x t → C x) → C q → Ready e (fld w) i k lo h q s t → TreeAt e (fld (insert_w e w i k h q s)) i (root_mark e) (insert q s k t)
insert_words e w C i k lo h q s t sp ct cq a =
    keep e (write_m (fld w) us) (fld (write_w w us)) i (root_mark e) (insert q s k t)
    (λ x u j v. view x (chunk x u) j (but_lt j v))
    (insert_mem e (fld w) i k lo h q s t a)
  where
    us : List Write
    us = insert_writes e (fld w) i q (locate_bin e (fld w) k s h)

    chunk : (x : ℕ) → 1 ≤ count x (insert q s k t) → C x
    chunk x u = ⊎_elim (λ y. subst C (sym y) cq) (λ n. ct x (omega (arith, count-insert x q s k t, ind_ne x q n))) (same? x q)

    view : Views 8 C (write_w w us) (write_m (fld w) us)
    view =
        view_writes w (fld w) us sp (λ x c j v. refl)
        (rw (bin-locate e (fld w) i k s h t a.rooted a.tree)
        (within e (fld w) C i q (locate_t k s t) cq (in_places e (fld w) C i k s t a.tree ct) (tail_in e (fld w) i (root_mark e) k s t a.tree)))

-- the bin's root link after the insertion
pub insert-root : (e : Edition) (h q s k : ℕ) (t : Tree) → h ≡ link e t → pick (eqb h (no_link e)) (enc e q) h ≡ link e (insert q s k t)
insert-root e h q s k leaf u = rw (eq-eqb h (no_link e) u)
insert-root e h q s k (node p ps s₀ l r) u = rw (ne_eqb h (no_link e) (λ z. none_free e p (sym u ∙ z))) (u ∙ sym (link-insert e (λ x j. 0) (λ x j. 0) 0 q s k (node p ps s₀ l r) tt))

-- where the writes go: the newcomer and the bin's members
pub insert_within : (e : Edition) (m : Mem) (C : ℕ → Type 0) (i k lo h q s : ℕ) (t : Tree) → ((x : ℕ) → 1 ≤ count x t → C x) → C q → Ready e m i k lo h q s t
    → Within 8 C (insert_writes e m i q (locate_bin e m k s h))
insert_within e m C i k lo h q s t ct cq a =
    rw (bin-locate e m i k s h t a.rooted a.tree)
    (within e m C i q (locate_t k s t) cq (in_places e m C i k s t a.tree ct) (tail_in e m i (root_mark e) k s t a.tree))
