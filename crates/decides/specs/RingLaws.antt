-- A ring of a tree bin: `ring_ok` says yes exactly when the links from the tree member on lead through places of the set, each a member of the
-- same size without parent and children, back to the tree member; and it leaves the set without them. By induction on the walk's bound one
-- way, on the ring the other. The tree member itself is not in the set any more, so the walk ends at it first. Both editions.
-- Assumes nothing.
use Rattle.std.specs.Prelude.{◌≡◌, true, ◌&&◌, List, [], ◌∷◌, ℕ, zero, suc, ◌+◌, ◌≤◌, ◌<◌, eqb, length}
use Rattle.std.proofs.Common.{sym, ◌∙◌, arith, eqb-true, eq-eqb, ne_eqb}
use Rattle.words.specs.Logic.{pick, pick_case, false-true}
use Rattle.words.specs.Edition.{Edition, no_link, enc, enc_inj}
use Rattle.words.specs.Fields.{fld, ind, ind_eq, ind_self, count_l}
use Rattle.tries.specs.TreeAt.{Chain, Member, Knot, Others}
use Rattle.chunk.specs.Bytes.{word}
use Rattle.marks.specs.Marks.{Checked, checked, no, and_then, take_mark}
use Rattle.tiles.specs.TilesBytes.{head_is}
use Rattle.binned.specs.BinsBytes.{childless, member_ok, ring_ok}
use Rattle.decides.specs.MarksLaws.{in_set, Sized, and_left, and_right, and_both}
use Rattle.decides.specs.Took.{Took, then_yes, took_then, if_yes, took_if, took_else, took_yes, took_there, word_at}

-- ---- one member

-- "the others with no parent and no children"; its link back
pub record Joined (e : Edition) (w : List ℕ) (i s last x : ℕ) : Type 0 where
  pub member : Member e (fld w) i s x
  pub knot : Knot (fld w) x (no_link e) (no_link e) (no_link e)
  pub back : fld w x 2 ≡ last

member_yes : (e : Edition) (w : List ℕ) (i s last c x : ℕ) → c ≡ enc e x → member_ok e w i (enc e s) last c ≡ true → Joined e w i s last x
unfolding member_ok
member_yes e w i s last c x q h =
    let a = head_is e w c (enc e s) in
    let b = eqb (word e w c 7) i in
    let d = eqb (word e w c 2) last in
    let f = eqb (word e w c 6) (no_link e) in
    let g = childless e w c in
    let h₄ : (a && b && d && f) ≡ true = and_left (a && b && d && f) g h in
    let h₃ : (a && b && d) ≡ true = and_left (a && b && d) f h₄ in
    let h₂ : (a && b) ≡ true = and_left (a && b) d h₃ in
    let k : g ≡ true = and_right (a && b && d && f) g h in
    record {
      member = record {
        headed = sym (word_at e w c x 1 q) ∙ eqb-true (word e w c 1) (enc e s + 1) (and_left a b h₂);
        index = sym (word_at e w c x 7 q) ∙ eqb-true (word e w c 7) i (and_right a b h₂);
      };
      knot = record {
        parent = sym (word_at e w c x 6 q) ∙ eqb-true (word e w c 6) (no_link e) (and_right (a && b && d) f h₄);
        child0 = sym (word_at e w c x 4 q) ∙ eqb-true (word e w c 4) (no_link e) (and_left (eqb (word e w c 4) (no_link e)) _ k);
        child1 = sym (word_at e w c x 5 q) ∙ eqb-true (word e w c 5) (no_link e) (and_right (eqb (word e w c 4) (no_link e)) _ k);
      };
      back = sym (word_at e w c x 2 q) ∙ eqb-true (word e w c 2) last (and_right (a && b) d h₃);
    }

member_there : (e : Edition) (w : List ℕ) (i s last c x : ℕ) → c ≡ enc e x → Joined e w i s last x → member_ok e w i (enc e s) last c ≡ true
unfolding member_ok
member_there e w i s last c x q j =
    let a = eq-eqb (word e w c 1) (enc e s + 1) (word_at e w c x 1 q ∙ j.member.headed) in
    let b = eq-eqb (word e w c 7) i (word_at e w c x 7 q ∙ j.member.index) in
    let d = eq-eqb (word e w c 2) last (word_at e w c x 2 q ∙ j.back) in
    let f = eq-eqb (word e w c 6) (no_link e) (word_at e w c x 6 q ∙ j.knot.parent) in
    let g = and_both _ _ (eq-eqb (word e w c 4) (no_link e) (word_at e w c x 4 q ∙ j.knot.child0)) (eq-eqb (word e w c 5) (no_link e) (word_at e w c x 5 q ∙ j.knot.child1)) in
    and_both _ _ (and_both _ _ (and_both _ _ (and_both _ _ a b) d) f) g

-- ---- the ring

-- what a ring that is accepted is: its places from the member a on, which leads on to c, back to p
abbrev pub RingSays : Edition → List ℕ → ℕ → ℕ → ℕ → ℕ → List ℕ → Checked → Type 0
RingSays e w i s p a m r = (ps : List ℕ) × Chain e (fld w) a ps p × Others e (fld w) i s ps × Took e m r (λ y. count_l y ps)

abbrev behind : Edition → List ℕ → ℕ → ℕ → ℕ → ℕ → ℕ → ℕ → List ℕ → Checked
behind e w i n t k c last m = pick (member_ok e w i n last c) (ring_ok e w i n t k (word e w c 3) c m) (no m)

one_more : (e : Edition) (w : List ℕ) (i s t p k c last a : ℕ) (m : List ℕ) (x : ℕ) → fld w a 3 ≡ c → last ≡ enc e a → c ≡ enc e x → member_ok e w i (enc e s) last c ≡ true
    → Took e m (take_mark e m c) (λ y. ind y x)
    → RingSays e w i s p x (take_mark e m c).marks (ring_ok e w i (enc e s) t k (word e w c 3) c (take_mark e m c).marks)
    → RingSays e w i s p a m (and_then (take_mark e m c) (behind e w i (enc e s) t k c last))
one_more e w i s t p k c last a m x u v q l tk g =
    let j = member_yes e w i s last c x q l in
    let ps = g.0 in
    let m₁ = (take_mark e m c).marks in (
      x ∷ ps,
      (u ∙ q, j.back ∙ v, g.1),
      (j.member, j.knot, g.2),
      took_then e m (take_mark e m c) (behind e w i (enc e s) t k c last) (λ y. ind y x) (λ y. count_l y ps) tk
          (took_if e m₁ (member_ok e w i (enc e s) last c) (ring_ok e w i (enc e s) t k (word e w c 3) c m₁) (no m₁) (λ y. count_l y ps) l g.3),
    )

pub ring_yes : (e : Edition) (w : List ℕ) (i s t p k c last a : ℕ) (m : List ℕ) → Sized m → t ≡ enc e p → fld w a 3 ≡ c → last ≡ enc e a → (ring_ok e w i (enc e s) t k c last m).ok ≡ true
    → RingSays e w i s p a m (ring_ok e w i (enc e s) t k c last m)
unfolding ring_ok
ring_yes e w i s t p zero c last a m sz qt u v h = false-true h
ring_yes e w i s t p (suc k) c last a m sz qt u v h =
    pick_case (λ (r : Checked). r.ok ≡ true → RingSays e w i s p a m r) (eqb c t)
    (λ q b. ([], (u ∙ eqb-true c t q ∙ qt, sym (word_at e w t p 2 qt) ∙ eqb-true (word e w t 2) last b ∙ v), tt, (b, sz, (λ y. omega arith))))
    (λ _ h.
    let g = then_yes (take_mark e m c) (behind e w i (enc e s) t k c last) h in
    let x = took_yes e m c sz g.0 in
    let m₁ = (take_mark e m c).marks in
    let o = if_yes (member_ok e w i (enc e s) last c) (ring_ok e w i (enc e s) t k (word e w c 3) c m₁) m₁ g.1 in
    one_more e w i s t p k c last a m x.0 u v x.1 o.0 x.2
    (ring_yes e w i s t p k (word e w c 3) c x.0 m₁ x.2.1 qt (sym (word_at e w c x.0 3 x.1)) x.1 o.1))
    h

pub ring_there : (e : Edition) (w : List ℕ) (i s t p k c last a : ℕ) (m : List ℕ) (ps : List ℕ) → Sized m → t ≡ enc e p → fld w a 3 ≡ c → last ≡ enc e a
    → Chain e (fld w) a ps p → Others e (fld w) i s ps → length ps < k → count_l p ps ≡ 0 → ((y : ℕ) → count_l y ps ≤ in_set e m y)
    → Took e m (ring_ok e w i (enc e s) t k c last m) (λ y. count_l y ps)
unfolding ring_ok
ring_there e w i s t p zero c last a m [] sz qt u v ch ot b n f = absurd (let z : ⊥ = omega arith in z)
ring_there e w i s t p zero c last a m (x ∷ ps) sz qt u v ch ot b n f = absurd (let z : ⊥ = omega arith in z)
ring_there e w i s t p (suc k) c last a m [] sz qt u v ch ot b n f =
    took_if e m (eqb c t) (checked (eqb (word e w t 2) last) m) (and_then (take_mark e m c) (behind e w i (enc e s) t k c last)) (λ y. 0) (eq-eqb c t (sym u ∙ ch.0 ∙ sym qt))
    (eq-eqb (word e w t 2) last (word_at e w t p 2 qt ∙ ch.1 ∙ sym v), sz, (λ y. omega arith))
ring_there e w i s t p (suc k) c last a m (x ∷ ps) sz qt u v ch ot b n f =
    let q : c ≡ enc e x = sym u ∙ ch.0 in
    let tk = took_there e m c x sz q (omega (arith, f x, ind_self x)) in
    let m₁ = (take_mark e m c).marks in
    let ok = member_there e w i s last c x q (record { member = ot.0; knot = ot.1; back = ch.1 ∙ sym v }) in
    took_else e m (eqb c t) (checked (eqb (word e w t 2) last) m) (and_then (take_mark e m c) (behind e w i (enc e s) t k c last)) (λ y. count_l y (x ∷ ps))
    (ne_eqb c t (λ z. omega (arith, n, ind_eq p x (enc_inj e p x (sym qt ∙ sym z ∙ q)))))
    (took_then e m (take_mark e m c) (behind e w i (enc e s) t k c last) (λ y. ind y x) (λ y. count_l y ps) tk
    (took_if e m₁ (member_ok e w i (enc e s) last c) (ring_ok e w i (enc e s) t k (word e w c 3) c m₁) (no m₁) (λ y. count_l y ps) ok
    (ring_there e w i s t p k (word e w c 3) c x m₁ ps tk.1 qt (sym (word_at e w c x 3 q)) q ch.2 ot.2 (omega arith) (omega arith) (λ y. omega (arith, f y, tk.2 y)))))
