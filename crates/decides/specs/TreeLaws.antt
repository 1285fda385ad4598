-- A tree bin's tree: `tree_ok` says yes exactly when there is a tree of that root, shape and bin whose places are all in the set, and whose sizes
-- are even, within the arena and none of the sizes above; and it leaves the set without them. By induction on the bits that are left one way,
-- on the tree the other. That no size stands twice comes from the sizes set: below a node it has that node's size. Both editions.
-- Assumes nothing.
use Rattle.std.specs.Prelude.{◌≡◌, refl, true, ◌&&◌, List, ℕ, zero, suc, ◌+◌, ◌-◌, ◌*◌, ◌%◌, ◌≤◌, ◌<◌, eqb, leb, ltb}
use Rattle.std.proofs.Common.{sym, ◌∙◌, ap, subst, arith, mul-add, eqb-true, ltb-true, leb-true, eq-eqb, ne_eqb, lt-ltb, le-leb}
use Rattle.words.specs.Logic.{pick, pick_case}
use Rattle.words.specs.Edition.{Edition, wide, narrow, W, no_link, none_free, enc, head, enc_inj}
use Rattle.words.specs.Fields.{fld, ind, ind_eq, ind_ne, ind_self, count_l}
use Rattle.tries.specs.Bits.{wid}
use Rattle.tries.specs.Tree.{Tree, leaf, node, count, All, all_map}
use Rattle.tries.specs.TreeAt.{link, RingAt, TreeAt}
use Rattle.tries.specs.Shape.{Shaped, Between, Fresh}
use Rattle.chunk.specs.Bytes.{word}
use Rattle.marks.specs.Marks.{lacks_mark, set_mark, Checked, checked, no, yes, and_then, take_mark, turns}
use Rattle.binned.specs.BinsBytes.{childless, ring_ok, node_size, size_fits, node_fits, node_ok, tree_ok}
use Rattle.decides.specs.MarksLaws.{in_set, Sized, in_most, and_left, and_right, and_both, lacks_yes, lacks_there, sized_set, set_there, fewer}
use Rattle.decides.specs.Took.{Took, then_yes, took_then, if_yes, took_if, took_else, took_yes, took_there, word_at}
use Rattle.decides.specs.RingLaws.{ring_yes, ring_there}

-- ---- sizes

-- a size that may stand below the sizes s
abbrev pub Allowed : Edition → List ℕ → ℕ → Type 0
Allowed e s z = (z % 2 ≡ 0) × (z < 8192) × (in_set e s z ≡ 0)

-- the order of heads is the order of sizes
above : (e : Edition) (lo z : ℕ) → W e * lo < head e z → lo ≤ z
above wide lo z h = omega arith
above narrow lo z h = omega arith

below : (e : Edition) (lo n z : ℕ) → head e z ≤ W e * lo + W e * n → z < lo + n
below wide lo n z h = omega arith
below narrow lo n z h = omega arith

head_above : (e : Edition) (lo z : ℕ) → lo ≤ z → W e * lo < head e z
head_above wide lo z h = omega arith
head_above narrow lo z h = omega arith

head_below : (e : Edition) (lo n z : ℕ) → z < lo + n → head e z ≤ W e * lo + W e * n
head_below wide lo n z h = omega arith
head_below narrow lo n z h = omega arith

size_yes : (e : Edition) (h k lo b : ℕ) (s : List ℕ) → b ≡ enc e lo → size_fits e h k b s ≡ true → (z : ℕ) × (h ≡ head e z) × Between lo (lo + wid k) z × Allowed e s z
size_yes e h k lo b s q t =
    let u = and_left (ltb b h && leb h (b + W e * wid k)) (lacks_mark e s (h - 1)) t in
    let l : b < h = ltb-true b h (and_left (ltb b h) _ u) in
    let r : h ≤ b + W e * wid k = leb-true h (b + W e * wid k) (and_right (ltb b h) _ u) in
    let a = lacks_yes e s (h - 1) (and_right (ltb b h && leb h (b + W e * wid k)) _ t) in
    let g : h ≡ head e a.0 = omega (arith, a.1) in
    (a.0, g, (above e lo a.0 (omega arith), below e lo (wid k) a.0 (omega arith)), (a.2, a.3, a.4))

size_there : (e : Edition) (h k lo b : ℕ) (s : List ℕ) (z : ℕ) → b ≡ enc e lo → h ≡ head e z → Between lo (lo + wid k) z → Allowed e s z → size_fits e h k b s ≡ true
size_there e h k lo b s z q g r a =
    let o : h - 1 ≡ enc e z = omega arith in
    and_both _ _ (and_both _ _ (lt-ltb b h (omega (arith, head_above e lo z r.0))) (le-leb h (b + W e * wid k) (omega (arith, head_below e lo (wid k) z r.1))))
    (ap (lacks_mark e s) o ∙ lacks_there e s z a.0 a.1 a.2)

-- ---- a tree member with its ring

-- p is the tree member at t below `up`, with the ring ps, of size z
pub record Node (e : Edition) (w : List ℕ) (i k lo t up : ℕ) (s : List ℕ) (p : ℕ) (ps : List ℕ) (z : ℕ) : Type 0 where
  pub at : t ≡ enc e p
  pub ring : RingAt e (fld w) i p ps z
  pub parent : fld w p 6 ≡ up
  pub within : Between lo (lo + wid k) z
  pub allowed : Allowed e s z

size_is : (e : Edition) (w : List ℕ) (t p z : ℕ) → t ≡ enc e p → fld w p 1 ≡ head e z → node_size e w t ≡ enc e z
size_is e w t p z q h = omega (arith, word_at e w t p 1 q, h)

abbrev ring_test : Edition → List ℕ → ℕ → ℕ → ℕ → ℕ → ℕ → List ℕ → List ℕ → Checked
ring_test e w i k b t up s m = pick (node_fits e w i k b t up s) (ring_ok e w i (node_size e w t) t turns (word e w t 3) t m) (no m)

node_yes : (e : Edition) (w : List ℕ) (i k lo b t up : ℕ) (s m : List ℕ) → Sized m → b ≡ enc e lo → (node_ok e w i k b t up s m).ok ≡ true
    → (p : ℕ) × (ps : List ℕ) × (z : ℕ) × Node e w i k lo t up s p ps z × Took e m (node_ok e w i k b t up s m) (λ y. ind y p + count_l y ps)
unfolding node_ok node_fits
node_yes e w i k lo b t up s m sz q h =
    let g = then_yes (take_mark e m t) (ring_test e w i k b t up s) h in
    let x = took_yes e m t sz g.0 in
    let p = x.0 in
    let m₁ = (take_mark e m t).marks in
    let o = if_yes (node_fits e w i k b t up s) (ring_ok e w i (node_size e w t) t turns (word e w t 3) t m₁) m₁ g.1 in
    let f = size_fits e (word e w t 1) k b s in
    let f₆ = eqb (word e w t 6) up in
    let f₇ = eqb (word e w t 7) i in
    let d = size_yes e (word e w t 1) k lo b s q (and_left f f₆ (and_left (f && f₆) f₇ o.0)) in
    let z = d.0 in
    let hd : fld w p 1 ≡ head e z = sym (word_at e w t p 1 x.1) ∙ d.1 in
    let n : node_size e w t ≡ enc e z = size_is e w t p z x.1 hd in
    let c = ring_yes e w i z t p turns (word e w t 3) t p m₁ x.2.1 x.1 (sym (word_at e w t p 3 x.1)) x.1 (ap (λ v. (ring_ok e w i v t turns (word e w t 3) t m₁).ok) (sym n) ∙ o.1) in (
      p,
      c.0,
      z,
      record {
        at = x.1;
        ring = record {
          member = record { headed = hd; index = sym (word_at e w t p 7 x.1) ∙ eqb-true (word e w t 7) i (and_right (f && f₆) f₇ o.0) };
          others = c.2;
          ring = c.1;
        };
        parent = sym (word_at e w t p 6 x.1) ∙ eqb-true (word e w t 6) up (and_right f f₆ (and_left (f && f₆) f₇ o.0));
        within = d.2;
        allowed = d.3;
      },
      took_then e m (take_mark e m t) (ring_test e w i k b t up s) (λ y. ind y p) (λ y. count_l y c.0) x.2
          (took_if e m₁ (node_fits e w i k b t up s) (ring_ok e w i (node_size e w t) t turns (word e w t 3) t m₁) (no m₁) (λ y. count_l y c.0) o.0
          (subst (λ v. Took e m₁ (ring_ok e w i v t turns (word e w t 3) t m₁) (λ y. count_l y c.0)) (sym n) c.3)),
    )

node_there : (e : Edition) (w : List ℕ) (i k lo b t up : ℕ) (s m : List ℕ) (p : ℕ) (ps : List ℕ) (z : ℕ) → Sized m → b ≡ enc e lo → Node e w i k lo t up s p ps z
    → ((y : ℕ) → ind y p + count_l y ps ≤ in_set e m y) → Took e m (node_ok e w i k b t up s m) (λ y. ind y p + count_l y ps)
unfolding node_ok node_fits
node_there e w i k lo b t up s m p ps z sz q d f =
    let qt = d.at in
    let tk = took_there e m t p sz qt (omega (arith, f p, ind_self p)) in
    let m₁ = (take_mark e m t).marks in
    let n = size_is e w t p z qt d.ring.member.headed in
    let in₁ : (y : ℕ) → count_l y ps ≤ in_set e m₁ y = λ y. omega (arith, f y, tk.2 y) in
    let fits : node_fits e w i k b t up s ≡ true =
    and_both _ _ (and_both _ _ (size_there e (word e w t 1) k lo b s z q (word_at e w t p 1 qt ∙ d.ring.member.headed) d.within d.allowed) (eq-eqb (word e w t 6) up (word_at e w t p 6 qt ∙ d.parent)))
    (eq-eqb (word e w t 7) i (word_at e w t p 7 qt ∙ d.ring.member.index)) in
    let c = ring_there e w i z t p turns (word e w t 3) t p m₁ ps tk.1 qt (sym (word_at e w t p 3 qt)) qt d.ring.ring d.ring.others (omega (arith, fewer e m₁ ps in₁))
    (omega (arith, f p, ind_self p, in_most e m p)) in₁ in
    took_then e m (take_mark e m t) (ring_test e w i k b t up s) (λ y. ind y p) (λ y. count_l y ps) tk
    (took_if e m₁ (node_fits e w i k b t up s) (ring_ok e w i (node_size e w t) t turns (word e w t 3) t m₁) (no m₁) (λ y. count_l y ps) fits
    (subst (λ v. Took e m₁ (ring_ok e w i v t turns (word e w t 3) t m₁) (λ y. count_l y ps)) (sym n) c))

-- ---- the sizes below a node: its own size has joined the set

module _ (e : Edition) (w : List ℕ) (i k lo t up : ℕ) (s : List ℕ) (p : ℕ) (ps : List ℕ) (z : ℕ) (sz : Sized s) (d : Node e w i k lo t up s p ps z) where
  joined : (y : ℕ) → in_set e (set_mark e s (node_size e w t)) y ≡ in_set e s y + ind y z
  joined y = ap (λ o. in_set e (set_mark e s o) y) (size_is e w t p z d.at d.ring.member.headed) ∙ set_there e s z sz d.allowed.0 d.allowed.1 y d.allowed.2

  allowed_out : (u : Tree) → All (Allowed e (set_mark e s (node_size e w t))) u → All (Allowed e s) u × Fresh z u
  allowed_out u a = (
    all_map (λ y b. (b.0, b.1, omega (arith, joined y, b.2))) u a,
    all_map (λ y b q. omega (arith, joined y, b.2, ind_eq y z q)) u a,
  )

  allowed_in : (u : Tree) → All (Allowed e s) u → Fresh z u → All (Allowed e (set_mark e s (node_size e w t))) u
  allowed_in leaf a f = tt
  allowed_in (node p₁ ps₁ s₁ l r) a f =
      ((a.0.0, a.0.1, omega (arith, joined s₁, a.0.2, ind_ne s₁ z f.0)), allowed_in l a.1 f.1, allowed_in r a.2 f.2)

-- ---- the tree

-- what a tree that is accepted is
abbrev pub TreeSays : Edition → List ℕ → ℕ → ℕ → ℕ → ℕ → ℕ → List ℕ → List ℕ → Checked → Type 0
TreeSays e w i k lo t up s m r =
    (u : Tree) × (t ≡ link e u) × TreeAt e (fld w) i up u × Shaped k lo u × All (Allowed e s) u × Took e m r (λ y. count y u)

-- the tests of both children
abbrev children : Edition → List ℕ → ℕ → ℕ → ℕ → ℕ → List ℕ → List ℕ → Checked
children e w i k b t s m = and_then (tree_ok e w i k b (word e w t 4) t s m) (tree_ok e w i k (b + W e * wid k) (word e w t 5) t s)

-- a node with both its trees
planted : (e : Edition) (w : List ℕ) (i k lo t up : ℕ) (s : List ℕ) (p : ℕ) (ps : List ℕ) (z : ℕ) (l r : Tree) → Sized s → Node e w i (suc k) lo t up s p ps z
    → word e w t 4 ≡ link e l → word e w t 5 ≡ link e r → TreeAt e (fld w) i t l → TreeAt e (fld w) i t r → Shaped k lo l → Shaped k (lo + wid k) r
    → All (Allowed e (set_mark e s (node_size e w t))) l → All (Allowed e (set_mark e s (node_size e w t))) r
    → TreeAt e (fld w) i up (node p ps z l r) × Shaped (suc k) lo (node p ps z l r) × All (Allowed e s) (node p ps z l r)
planted e w i k lo t up s p ps z l r ss d q₄ q₅ tl tr sl sr al ar =
    let a = allowed_out e w i (suc k) lo t up s p ps z ss d l al in
    let b = allowed_out e w i (suc k) lo t up s p ps z ss d r ar in (
      (
        d.ring,
        record { parent = d.parent; child0 = sym (word_at e w t p 4 d.at) ∙ q₄; child1 = sym (word_at e w t p 5 d.at) ∙ q₅ },
        subst (λ v. TreeAt e (fld w) i v l) d.at tl,
        subst (λ v. TreeAt e (fld w) i v r) d.at tr,
      ),
      (d.within.0, d.within.1, a.1, b.1, sl, sr),
      (d.allowed, a.0, b.0),
    )

pub tree_yes : (e : Edition) (w : List ℕ) (i k lo b t up : ℕ) (s m : List ℕ) → Sized s → Sized m → b ≡ enc e lo → (tree_ok e w i k b t up s m).ok ≡ true
    → TreeSays e w i k lo t up s m (tree_ok e w i k b t up s m)
unfolding tree_ok
tree_yes e w i zero lo b t up s m ss sz q h =
    pick_case (λ (r : Checked). r.ok ≡ true → TreeSays e w i zero lo t up s m r) (eqb t (no_link e))
    (λ z _. (leaf, eqb-true t (no_link e) z, tt, tt, tt, (refl, sz, (λ y. omega arith))))
    (λ _ h.
    let g = then_yes (node_ok e w i zero b t up s m) (checked (childless e w t)) h in
    let n = node_yes e w i zero lo b t up s m sz q g.0 in
    let p = n.0 in
    let d = n.3 in
    let f₄ = eqb (word e w t 4) (no_link e) in (
      node p n.1 n.2 leaf leaf,
      d.at,
      (
        d.ring,
        record {
          parent = d.parent;
          child0 = sym (word_at e w t p 4 d.at) ∙ eqb-true (word e w t 4) (no_link e) (and_left f₄ _ g.1);
          child1 = sym (word_at e w t p 5 d.at) ∙ eqb-true (word e w t 5) (no_link e) (and_right f₄ _ g.1);
        },
        tt,
        tt,
      ),
      (omega (arith, d.within.0, d.within.1), tt, tt),
      (d.allowed, tt, tt),
      took_then e m (node_ok e w i zero b t up s m) (checked (childless e w t)) (λ y. ind y p + count_l y n.1) (λ y. count y leaf + count y leaf) n.4 (g.1, n.4.1, (λ y. omega arith)),
    ))
    h
tree_yes e w i (suc k) lo b t up s m ss sz q h =
    pick_case (λ (r : Checked). r.ok ≡ true → TreeSays e w i (suc k) lo t up s m r) (eqb t (no_link e))
    (λ z _. (leaf, eqb-true t (no_link e) z, tt, tt, tt, (refl, sz, (λ y. omega arith))))
    (λ _ h.
    let s₁ = set_mark e s (node_size e w t) in
    let ss₁ = sized_set e s (node_size e w t) ss in
    let c = node_ok e w i (suc k) b t up s m in
    let g = then_yes c (children e w i k b t s₁) h in
    let n = node_yes e w i (suc k) lo b t up s m sz q g.0 in
    let c₄ = tree_ok e w i k b (word e w t 4) t s₁ c.marks in
    let f₅ : List ℕ → Checked = tree_ok e w i k (b + W e * wid k) (word e w t 5) t s₁ in
    let g₁ = then_yes c₄ f₅ g.1 in
    let l = tree_yes e w i k lo b (word e w t 4) t s₁ c.marks ss₁ n.4.1 q g₁.0 in
    let r = tree_yes e w i k (lo + wid k) (b + W e * wid k) (word e w t 5) t s₁ c₄.marks ss₁ l.5.1 (omega (arith, q, mul-add (W e) lo (wid k))) g₁.1 in
    let u = planted e w i k lo t up s n.0 n.1 n.2 l.0 r.0 ss n.3 l.1 r.1 l.2 r.2 l.3 r.3 l.4 r.4 in (
      node n.0 n.1 n.2 l.0 r.0,
      n.3.at,
      u.0,
      u.1,
      u.2,
      took_then e m c (children e w i k b t s₁) (λ y. ind y n.0 + count_l y n.1) (λ y. count y l.0 + count y r.0) n.4
          (took_then e c.marks c₄ f₅ (λ y. count y l.0) (λ y. count y r.0) l.5 r.5),
    ))
    h

-- a node of the tree, with its ring, as `node_there` asks for it
node_of : (e : Edition) (w : List ℕ) (i k lo t up : ℕ) (s : List ℕ) (p : ℕ) (ps : List ℕ) (z : ℕ) (l r : Tree) → t ≡ enc e p → TreeAt e (fld w) i up (node p ps z l r) → Between lo (lo + wid k) z → Allowed e s z
    → Node e w i k lo t up s p ps z
node_of e w i k lo t up s p ps z l r q h b a = record { at = q; ring = h.0; parent = h.1.parent; within = b; allowed = a }

pub tree_there : (e : Edition) (w : List ℕ) (i k lo b t up : ℕ) (s m : List ℕ) (u : Tree) → Sized s → Sized m → b ≡ enc e lo → t ≡ link e u → TreeAt e (fld w) i up u → Shaped k lo u → All (Allowed e s) u
    → ((y : ℕ) → count y u ≤ in_set e m y) → Took e m (tree_ok e w i k b t up s m) (λ y. count y u)
unfolding tree_ok
tree_there e w i zero lo b t up s m leaf ss sz q qt h sh a f =
    took_if e m (eqb t (no_link e)) (yes m) (and_then (node_ok e w i zero b t up s m) (checked (childless e w t))) (λ y. 0) (eq-eqb t (no_link e) qt) (refl, sz, (λ y. omega arith))
tree_there e w i (suc k) lo b t up s m leaf ss sz q qt h sh a f =
    took_if e m (eqb t (no_link e)) (yes m) (and_then (node_ok e w i (suc k) b t up s m) (children e w i k b t (set_mark e s (node_size e w t)))) (λ y. 0) (eq-eqb t (no_link e) qt)
    (refl, sz, (λ y. omega arith))
tree_there e w i zero lo b t up s m (node p ps z leaf (node p₂ ps₂ z₂ l₂ r₂)) ss sz q qt h sh a f = absurd sh.2
tree_there e w i zero lo b t up s m (node p ps z (node p₁ ps₁ z₁ l₁ r₁) r) ss sz q qt h sh a f = absurd sh.1
tree_there e w i zero lo b t up s m (node p ps z leaf leaf) ss sz q qt h sh a f =
    let c = node_ok e w i zero b t up s m in
    let d = node_of e w i zero lo t up s p ps z leaf leaf qt h (omega (arith, sh.0), omega (arith, sh.0)) a.0 in
    let n = node_there e w i zero lo b t up s m p ps z sz q d (λ y. omega (arith, f y)) in
    took_else e m (eqb t (no_link e)) (yes m) (and_then c (checked (childless e w t))) (λ y. count y (node p ps z leaf leaf)) (ne_eqb t (no_link e) (λ v. none_free e p (sym qt ∙ v)))
    (took_then e m c (checked (childless e w t)) (λ y. ind y p + count_l y ps) (λ y. count y leaf + count y leaf) n
    (and_both _ _ (eq-eqb (word e w t 4) (no_link e) (word_at e w t p 4 qt ∙ h.1.child0)) (eq-eqb (word e w t 5) (no_link e) (word_at e w t p 5 qt ∙ h.1.child1)), n.1, (λ y. omega arith)))
tree_there e w i (suc k) lo b t up s m (node p ps z l r) ss sz q qt h sh a f =
    let s₁ = set_mark e s (node_size e w t) in
    let ss₁ = sized_set e s (node_size e w t) ss in
    let c = node_ok e w i (suc k) b t up s m in
    let d = node_of e w i (suc k) lo t up s p ps z l r qt h (sh.0, sh.1) a.0 in
    let n = node_there e w i (suc k) lo b t up s m p ps z sz q d (λ y. omega (arith, f y)) in
    let c₄ = tree_ok e w i k b (word e w t 4) t s₁ c.marks in
    let f₅ : List ℕ → Checked = tree_ok e w i k (b + W e * wid k) (word e w t 5) t s₁ in
    let tl = tree_there e w i k lo b (word e w t 4) t s₁ c.marks l ss₁ n.1 q (word_at e w t p 4 qt ∙ h.1.child0) (subst (λ v. TreeAt e (fld w) i v l) (sym qt) h.2) sh.4
    (allowed_in e w i (suc k) lo t up s p ps z ss d l a.1 sh.2) (λ y. omega (arith, f y, n.2 y)) in
    let tr = tree_there e w i k (lo + wid k) (b + W e * wid k) (word e w t 5) t s₁ c₄.marks r ss₁ tl.1 (omega (arith, q, mul-add (W e) lo (wid k))) (word_at e w t p 5 qt ∙ h.1.child1)
    (subst (λ v. TreeAt e (fld w) i v r) (sym qt) h.3) sh.5 (allowed_in e w i (suc k) lo t up s p ps z ss d r a.2 sh.3) (λ y. omega (arith, f y, n.2 y, tl.2 y)) in
    took_else e m (eqb t (no_link e)) (yes m) (and_then c (children e w i k b t s₁)) (λ y. count y (node p ps z l r)) (ne_eqb t (no_link e) (λ v. none_free e p (sym qt ∙ v)))
    (took_then e m c (children e w i k b t s₁) (λ y. ind y p + count_l y ps) (λ y. count y l + count y r) n (took_then e c.marks c₄ f₅ (λ y. count y l) (λ y. count y r) tl tr))

-- ---- the sizes, by the heads of the members

-- every member's head says an even size within the arena: so do the nodes
pub sizes_allowed : (e : Edition) (w : List ℕ) (i up : ℕ) (s : List ℕ) (u : Tree) → TreeAt e (fld w) i up u → ((z : ℕ) → in_set e s z ≡ 0)
    → ((x : ℕ) → 1 ≤ count x u → (z : ℕ) × (fld w x 1 ≡ head e z) × (z % 2 ≡ 0) × (z < 8192)) → All (Allowed e s) u
sizes_allowed e w i up s leaf h n f = tt
sizes_allowed e w i up s (node p ps z l r) h n f =
    let g = f p (omega (arith, ind_self p)) in
    let q : z ≡ g.0 = enc_inj e z g.0 (omega (arith, h.0.member.headed, g.1)) in (
      (omega (arith, q, g.2), omega (arith, q, g.3), n z),
      sizes_allowed e w i (enc e p) s l h.2 n (λ x u. f x (omega arith)),
      sizes_allowed e w i (enc e p) s r h.3 n (λ x u. f x (omega arith)),
    )
