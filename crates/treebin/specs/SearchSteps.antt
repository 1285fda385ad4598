-- The two searches in bytes find what the rules' searches find in the heap that is held: the same place, with the size by what it leaves over.
-- The walks are followed over the tree, node by node; the bits of the need choose the way, and a find that leaves nothing over is an exact size,
-- where both stop. Sizes lie far below the remainder that stands for no find. Assumes nothing.
use Rattle.std.specs.Prelude.{◌≡◌, Bool, List, [], ◌⊎◌, eqb, leb, ltb, get_or}
use Rattle.std.proofs.Math.Path.{refl, ap, ap₂}
use Rattle.std.proofs.Common.{sym, ◌∙◌, subst, inr, add-one}
use Rattle.std.proofs.Math.Bool.{true, false}
use Rattle.std.proofs.Math.Logic.{inl, ⊎_elim}
use Prim.Native.Nat.{ℕ, zero, suc, ◌+◌, ◌-◌, ◌*◌, ◌%◌, ◌^◌, ◌≤◌, ◌<◌}
use native.Mathlib.Omega.{arith}
use Rattle.std.proofs.Math.ListN.{get_or-eq_default}
use borrow.Author.Tests.{eqb-false, eq-eqb, ne_eqb, ltb-true, ltb-false, lt-ltb, le-ltb, leb-true, le-leb, lt-leb}
use Rattle.words.specs.Logic.{pick, pick_case, by, le_or_lt, same?}
use Rattle.words.specs.Edition.{Edition, wide, narrow, W, no_link, root_mark, none_free, enc, head, enc_inj}
use Rattle.words.specs.Fields.{fld, self}
use Rattle.index.specs.BinMap.{first_from}
use Rattle.index.specs.TreeBin.{side}
use Rattle.tries.specs.Bits.{bit, wid, Aligned, aligned_left, aligned_right, below, above}
use Rattle.tries.specs.Tree.{Tree, leaf, node, is_leaf, All, Full}
use Rattle.tries.specs.TreeAt.{link, TreeAt}
use Rattle.tries.specs.Shape.{Shaped, Between}
use Rattle.tries.specs.Search.{Cand, better, down, walk, start}
use Rattle.tries.specs.UnlinkWords.{depth}
use Rattle.tries.proofs.SearchMem.{shape_depth}
use Rattle.rules.specs.BinOf.{trie_bin, trie_bits, trie_low, InTrie, huge, trie_in, trie_aligned}
use Rattle.rules.specs.Heap.{Heap, grows_some}
use Rattle.rules.specs.Malloc.{first_filled, best_from, best_large}
use Rattle.holds.specs.FirstBin.{first_is, first_agrees}
use Rattle.chunk.specs.Bytes.{word, tree, link_of, map_of}
use Rattle.chunk.specs.Image.{decode, get_map}
use Rattle.chunk.specs.Plain.{word_plain, small_rest}
use Rattle.chunk.specs.Held.{Held, ltb_bytes}
use Rattle.treebin.specs.TreeBytes.{word_bits, first_key, child_word, next_key}
use Rattle.treebin.specs.SearchBytes.{Best, best, no_best, better_b, leftmost, down_b, passed_by, Walked, walked, walk_b, best_above, best_own, best_tree}
use Rattle.treebin.specs.WayDown.{Way, way_first, way_next, way_side, trie_early, few_bits}
use Rattle.treebin.specs.TreeHeld.{node_size_lem, Sized, root_is, nodes_sized}

-- ---- the same find

pub record Finds (e : Edition) (nb : ℕ) (b : Best) (c : Cand) : Type 0 where
  pub found : c.size < huge
  pub place : b.at ≡ enc e c.at
  pub left : b.rsize ≡ enc e (c.size - nb)
  pub fits : nb ≤ c.size

-- b in bytes, by what is left over of nb words, is c in words; or neither has found anything
abbrev pub Same : Edition → ℕ → Best → Cand → Type 0
Same e nb b c = Finds e nb b c ⊎ ((b ≡ no_best e) × (c ≡ start 0 huge))

module _ (e : Edition) (nb : ℕ) where
  -- what a size leaves over is less than what stands for no find
  left_less : (s : ℕ) → W e * s < huge → ltb (enc e s - enc e nb) (no_link e) ≡ true
  unfolding huge
  left_less s l = lt-ltb (enc e s - enc e nb) (no_link e) (go e l)
    where
      go : (e : Edition) → W e * s < 12582912 → enc e s - enc e nb < no_link e
      go wide l = omega arith
      go narrow l = omega arith

  words_less : (s : ℕ) → W e * s < huge → s < huge
  words_less s l = go e l
    where
      go : (e : Edition) → W e * s < huge → s < huge
      go wide l = omega arith
      go narrow l = omega arith

  -- a smaller size leaves less over
  left_test : (s : ℕ) (b : Best) (c : Cand) → nb ≤ s → W e * s < huge → Same e nb b c → ltb (enc e s - enc e nb) b.rsize ≡ ltb s c.size
  left_test s b c fit l (inl f) = ap₂ ltb (small_rest e s nb) f.left ∙ ltb_bytes e (s - nb) (c.size - nb) ∙ over c.size f.fits
    where
      over : (t : ℕ) → nb ≤ t → ltb (s - nb) (t - nb) ≡ ltb s t
      over t le = by (λ z. ltb (s - nb) (t - nb) ≡ z) (ltb s t) (λ z. lt-ltb (s - nb) (t - nb) (omega (arith, ltb-true s t z))) (λ z. le-ltb (s - nb) (t - nb) (omega (arith, ltb-false s t z)))
  left_test s b c fit l (inr f) =
      ap (λ x. ltb (enc e s - enc e nb) x.rsize) f.0 ∙ left_less s l ∙ sym (ap (λ x. ltb s x.size) f.1 ∙ lt-ltb s huge (words_less s l))

  -- one more node looked at
  better_same : (p s : ℕ) (b : Best) (c : Cand) → W e * s < huge → Same e nb b c → Same e nb (better_b (enc e nb) (enc e p) (enc e s) b) (better nb p s c)
  unfolding better_b
  better_same p s b c l f =
      ⊎_elim
      (λ fit. rw (ltb_bytes e s nb ∙ le-ltb s nb fit, le-leb nb s fit, left_test s b c fit l f)
      (by (λ z. Same e nb (pick z (best (enc e p) (enc e s - enc e nb)) b) (pick z (start p s) c)) (ltb s c.size)
      (λ z. inl (record { found = words_less s l; place = refl; left = small_rest e s nb; fits = fit })) (λ _. f)))
      (λ no. rw (ltb_bytes e s nb ∙ lt-ltb s nb no, lt-leb nb s no) f) (le_or_lt nb s)

  -- ---- an exact size leaves nothing over, and nothing else does

  -- a size that is not exact makes no find exact
  still_more : (p s : ℕ) (c : Cand) → nb < c.size → (s ≡ nb → ⊥) → nb < (better nb p s c).size
  still_more p s c more ne =
      pick_case (λ (x : Cand). nb < x.size) (leb nb s) (λ z. pick_case (λ (x : Cand). nb < x.size) (ltb s c.size) (λ _. omega (arith, leb-true nb s z, ne)) (λ _. more)) (λ _. more)

  some_left : (b : Best) (c : Cand) → nb < c.size → Same e nb b c → b.rsize ≡ 0 → ⊥
  some_left b c more (inl f) q = omega (arith, enc_inj e (c.size - nb) 0 (sym f.left ∙ q ∙ (let z : 0 ≡ W e * 0 = omega arith in z)))
  some_left b c more (inr f) q = no_zero e (sym (ap (λ x. x.rsize) f.0) ∙ q)
    where
      no_zero : (e : Edition) → no_link e ≡ 0 → ⊥
      no_zero wide z = omega arith
      no_zero narrow z = omega arith

  none_left : (p s : ℕ) (b : Best) (c : Cand) → W e * s < huge → nb < c.size → Same e nb b c → s ≡ nb → (better_b (enc e nb) (enc e p) (enc e s) b).rsize ≡ 0
  unfolding better_b
  none_left p s b c l more f q =
      rw (ltb_bytes e s nb ∙ le-ltb s nb (omega arith), left_test s b c (omega arith) l f ∙ lt-ltb s c.size (omega arith)) (let z : W e * s ≡ W e * nb = ap (enc e) q in omega (arith, z))

  exact_test : (p s : ℕ) (b : Best) (c : Cand) → W e * s < huge → nb < c.size → Same e nb b c → eqb (better_b (enc e nb) (enc e p) (enc e s) b).rsize 0 ≡ eqb s nb
  exact_test p s b c l more f =
      ⊎_elim (λ q. eq-eqb b₁.rsize 0 (none_left p s b c l more f q) ∙ sym (eq-eqb s nb q))
      (λ q. ne_eqb b₁.rsize 0 (some_left b₁ (better nb p s c) (still_more p s c more q) (better_same p s b c l f)) ∙ sym (ne_eqb s nb q)) (same? s nb)
    where
      b₁ : Best
      b₁ = better_b (enc e nb) (enc e p) (enc e s) b

-- ---- down the leftmost children

module _ (e : Edition) (w : List ℕ) (j nb : ℕ) where
  down_node : (p s : ℕ) → fld w p 1 ≡ head e s → s % 2 ≡ 0 → (f v : ℕ) (b : Best) → leftmost e w (enc e p) ≡ v
      → down_b e w (enc e nb) (suc f) (enc e p) b ≡ down_b e w (enc e nb) f v (better_b (enc e nb) (enc e p) (enc e s) b)
  unfolding down_b
  down_node p s hd ev f v b q = rw (ne_eqb (enc e p) (no_link e) (none_free e p), q, node_size_lem e w p s hd ev)

  down_none : (f : ℕ) (b : Best) → down_b e w (enc e nb) f (no_link e) b ≡ b
  unfolding down_b
  down_none zero b = refl
  down_none (suc f) b = rw (self (no_link e))

  -- the leftmost child
  left_child : (p q : ℕ) → fld w p 4 ≡ enc e q → leftmost e w (enc e p) ≡ enc e q
  unfolding fld
  left_child p q u = rw (ne_eqb (word e w (enc e p) 4) (no_link e) (λ z. none_free e q (sym (word_plain e w p 4 ∙ u) ∙ z))) (word_plain e w p 4 ∙ u)

  right_child : (p : ℕ) → fld w p 4 ≡ no_link e → leftmost e w (enc e p) ≡ fld w p 5
  unfolding fld
  right_child p u = rw (eq-eqb (word e w (enc e p) 4) (no_link e) (word_plain e w p 4 ∙ u)) (word_plain e w p 5)

  down_same : (f par : ℕ) (t : Tree) (b : Best) (c : Cand) → depth t ≤ f → All (Sized e) t → TreeAt e (fld w) j par t → Same e nb b c → Same e nb (down_b e w (enc e nb) f (link e t) b) (down nb t c)
  down_same f par leaf b c d sz h same = rw (down_none f b) same
  down_same zero par (node p ps s l r) b c d sz h same = absurd (let z : ⊥ = omega arith in z)
  down_same (suc f) par (node p ps s leaf r) b c d sz h same =
      rw (down_node p s h.0.member.headed sz.0.0 f (link e r) b (right_child p h.1.child0 ∙ h.1.child1))
      (down_same f (enc e p) r (better_b (enc e nb) (enc e p) (enc e s) b) (better nb p s c) (omega arith) sz.2 h.3 (better_same e nb p s b c sz.0.1 same))
  down_same (suc f) par (node p ps s (node p₁ ps₁ s₁ l₁ r₁) r) b c d sz h same =
      rw (down_node p s h.0.member.headed sz.0.0 f (enc e p₁) b (left_child p p₁ h.1.child0))
      (down_same f (enc e p) (node p₁ ps₁ s₁ l₁ r₁) (better_b (enc e nb) (enc e p) (enc e s) b) (better nb p s c) (omega arith) sz.1 h.2 (better_same e nb p s b c sz.0.1 same))

  -- ---- along the bits of the need

  -- the right subtree that was passed by, in bytes and on the tree
  record Passed (rst : ℕ) (rt : Tree) : Type 0 where
    linked : rst ≡ link e rt
    deep : depth rt ≤ 64
    sized : All (Sized e) rt
    up : ℕ
    there : TreeAt e (fld w) j up rt

  -- what is found in the end
  abbrev found_from : Walked → Best
  found_from x = best_own e w (enc e nb) x

  pass_down : (rst : ℕ) (rt : Tree) (b : Best) (c : Cand) → Passed rst rt → Same e nb b c → Same e nb (found_from (walked b rst)) (down nb rt c)
  unfolding best_own
  pass_down rst rt b c g same = rw g.linked (down_same 64 g.up rt b c g.deep g.sized g.there same)

  stop_here : (b : Best) (c : Cand) → Same e nb b c → Same e nb (found_from (walked b (no_link e))) c
  unfolding best_own
  stop_here b c same = rw (down_none 64 b) same

  -- to the left, with the right subtree passed by
  pass_right : (v rst a : ℕ) (r rt : Tree) → v ≡ link e r → depth r ≤ 64 → All (Sized e) r → TreeAt e (fld w) j a r → Passed rst rt → Passed (pick (eqb v (no_link e)) rst v) (pick (is_leaf r) rt r)
  pass_right v rst a leaf rt u d sz h g = rw (eq-eqb v (no_link e) u) g
  pass_right v rst a (node p ps s l r) rt u d sz h g = rw (ne_eqb v (no_link e) (λ z. none_free e p (sym u ∙ z))) (record { linked = u; deep = d; sized = sz; up = a; there = h })

  walk_child : (k f v key rst : ℕ) (b : Best) (t rt : Tree) (c : Cand) → v ≡ link e t → Passed rst rt → Same e nb b c
      → (Full t → Same e nb (found_from (walk_b e w (enc e nb) f (link e t) key rst b)) (walk k nb t rt c))
      → Same e nb (found_from (pick (eqb v (no_link e)) (walked b rst) (walk_b e w (enc e nb) f v key rst b))) (walk k nb t rt c)
  walk_child k f v key rst b leaf rt c u g same ih = rw (eq-eqb v (no_link e) u) (pass_down rst rt b c g same)
  walk_child k f v key rst b (node p ps s l r) rt c u g same ih = rw (ne_eqb v (no_link e) (λ z. none_free e p (sym u ∙ z)), u) (ih tt)

  module _ (i : ℕ) where
    passed_is : (p k key rst : ℕ) → Way e i nb (suc k) key → passed_by e w (enc e p) key rst ≡ pick (bit k nb) rst (pick (eqb (fld w p 5) (no_link e)) rst (fld w p 5))
    unfolding fld
    passed_is p k key rst y =
        go (bit k nb) (way_side e i nb k key y) (pick (eqb (word e w (enc e p) 5) (no_link e)) rst (word e w (enc e p) 5)) ∙ ap (λ v. pick (bit k nb) rst (pick (eqb v (no_link e)) rst v)) (word_plain e w p 5)
      where
        go : (z : Bool) → child_word e key ≡ pick z 5 4 → (x : ℕ) → pick (eqb (side (word_bits e) key) 0) x rst ≡ pick z rst x
        go true q x = rw (ne_eqb (side (word_bits e) key) 0 (λ u. omega (arith, q, u)))
        go false q x = rw (eq-eqb (side (word_bits e) key) 0 (omega (arith, q)))

    -- one node: what the tests and the choice of the child come to
    walk_node : (p s k f key rst : ℕ) (b : Best) (c : Cand) → fld w p 1 ≡ head e s → Sized e s → nb < c.size → Same e nb b c → Way e i nb (suc k) key
        → let b₁ = better_b (enc e nb) (enc e p) (enc e s) b in
        let rst₁ = pick (bit k nb) rst (pick (eqb (fld w p 5) (no_link e)) rst (fld w p 5)) in
        let v = fld w p (pick (bit k nb) 5 4) in
        walk_b e w (enc e nb) (suc f) (enc e p) key rst b
        ≡ pick (eqb s nb) (walked b₁ (no_link e)) (pick (eqb v (no_link e)) (walked b₁ rst₁) (walk_b e w (enc e nb) f v (next_key e key) rst₁ b₁))
    unfolding walk_b fld
    walk_node p s k f key rst b c hd sz more same y =
        ap (λ x. step (better_b (enc e nb) (enc e p) x b) (passed_by e w (enc e p) key rst) (word e w (enc e p) (child_word e key))) (node_size_lem e w p s hd sz.0)
        ∙ ap₂ (step b₁) (passed_is p k key rst y) (ap (word e w (enc e p)) (way_side e i nb k key y) ∙ word_plain e w p (pick (bit k nb) 5 4))
        ∙ ap (λ z. pick z (walked b₁ (no_link e)) (pick (eqb v (no_link e)) (walked b₁ rst₁) (walk_b e w (enc e nb) f v (next_key e key) rst₁ b₁))) (exact_test e nb p s b c sz.1 more same)
      where
        step : Best → ℕ → ℕ → Walked
        step x q v = pick (eqb x.rsize 0) (walked x (no_link e)) (pick (eqb v (no_link e)) (walked x q) (walk_b e w (enc e nb) f v (next_key e key) q x))

        b₁ : Best
        b₁ = better_b (enc e nb) (enc e p) (enc e s) b

        rst₁ : ℕ
        rst₁ = pick (bit k nb) rst (pick (eqb (fld w p 5) (no_link e)) rst (fld w p 5))

        v : ℕ
        v = fld w p (pick (bit k nb) 5 4)

    walk_exact : (p s f key rst : ℕ) (b : Best) (c : Cand) → fld w p 1 ≡ head e s → Sized e s → nb < c.size → Same e nb b c → s ≡ nb
        → walk_b e w (enc e nb) (suc f) (enc e p) key rst b ≡ walked (better_b (enc e nb) (enc e p) (enc e s) b) (no_link e)
    unfolding walk_b
    walk_exact p s f key rst b c hd sz more same q = rw (node_size_lem e w p s hd sz.0, none_left e nb p s b c sz.1 more same q)

    walk_same : (f k lo par key rst : ℕ) (t rt : Tree) (b : Best) (c : Cand) → k < f → Full t → Aligned k lo → Between lo (lo + wid k) nb → Way e i nb k key → Shaped k lo t → depth t ≤ 64 → All (Sized e) t
        → TreeAt e (fld w) j par t → Passed rst rt → nb < c.size → Same e nb b c → Same e nb (found_from (walk_b e w (enc e nb) f (link e t) key rst b)) (walk k nb t rt c)
    walk_same f k lo par key rst leaf rt b c fu full al bt y sh d sz h g more same = absurd full
    walk_same zero k lo par key rst (node p ps s l r) rt b c fu full al bt y sh d sz h g more same = absurd (let z : ⊥ = omega arith in z)
    walk_same (suc f) zero lo par key rst (node p ps s l r) rt b c fu full al bt y sh d sz h g more same =
        rw (walk_exact p s f key rst b c h.0.member.headed sz.0 more same (omega arith))
        (stop_here (better_b (enc e nb) (enc e p) (enc e s) b) (better nb p s c) (better_same e nb p s b c sz.0.1 same))
    walk_same (suc f) (suc k) lo par key rst (node p ps s l r) rt b c fu full al bt y sh d sz h g more same =
        rw (walk_node p s k f key rst b c h.0.member.headed sz.0 more same y)
        (by (λ z. Same e nb (found_from (pick z (walked b₁ (no_link e)) (pick (eqb (fld w p (pick (bit k nb) 5 4)) (no_link e)) (walked b₁ (pick (bit k nb) rst past)) (walk_b e w (enc e nb) f (fld w p (pick (bit k nb) 5 4)) (next_key e key) (pick (bit k nb) rst past) b₁))))
        (pick z c₁ (pick (bit k nb) (walk k nb r rt c₁) (walk k nb l (pick (is_leaf r) rt r) c₁))))
        (eqb s nb) (λ _. stop_here b₁ c₁ same₁)
        (λ x. by (λ z. Same e nb (found_from (pick (eqb (fld w p (pick z 5 4)) (no_link e)) (walked b₁ (pick z rst past)) (walk_b e w (enc e nb) f (fld w p (pick z 5 4)) (next_key e key) (pick z rst past) b₁)))
        (pick z (walk k nb r rt c₁) (walk k nb l (pick (is_leaf r) rt r) c₁)))
        (bit k nb)
        (λ z. walk_child k f (fld w p 5) (next_key e key) rst b₁ r rt c₁ h.1.child1 g same₁
        (λ q. walk_same f k (lo + wid k) (enc e p) (next_key e key) rst r rt b₁ c₁ (omega arith) q (aligned_right k lo al) (above k lo nb al bt.0 bt.1 z, omega arith) (way_next e i nb k key y) sh.5 (omega arith) sz.2 h.3 g
        (still_more e nb p s c more (eqb-false s nb x)) same₁))
        (λ z. walk_child k f (fld w p 4) (next_key e key) past b₁ l (pick (is_leaf r) rt r) c₁ h.1.child0 further same₁
        (λ q. walk_same f k lo (enc e p) (next_key e key) past l (pick (is_leaf r) rt r) b₁ c₁ (omega arith) q (aligned_left k lo al) (bt.0, below k lo nb al bt.0 bt.1 z) (way_next e i nb k key y) sh.4 (omega arith) sz.1 h.2 further
        (still_more e nb p s c more (eqb-false s nb x)) same₁))))
      where
        b₁ : Best
        b₁ = better_b (enc e nb) (enc e p) (enc e s) b

        c₁ : Cand
        c₁ = better nb p s c

        same₁ : Same e nb b₁ c₁
        same₁ = better_same e nb p s b c sz.0.1 same

        past : ℕ
        past = pick (eqb (fld w p 5) (no_link e)) rst (fld w p 5)

        further : Passed past (pick (is_leaf r) rt r)
        further = pass_right (fld w p 5) rst (enc e p) r rt h.1.child1 (omega arith) sz.2 h.3 g

-- ---- in the heap that is held

module _ (e : Edition) (r w : List ℕ) (h : Heap) (n : Held e r w h []) where
  -- no tree is deeper than the searches go
  levels : (i : ℕ) → i < 32 → depth (get_or h.tries i leaf) ≤ 64
  levels i l = omega (arith, shape_depth (trie_bits e i) (trie_low e i) (get_or h.tries i leaf) (n.near.tries.at i l).shape, few_bits e i l)

  -- the smallest of the first filled tree from bin i on
  pub best_above_is : (i nb : ℕ) → i ≤ 32 → Same e nb (best_above e r w i (enc e nb)) (best_from h i nb)
  unfolding best_above
  best_above_is i nb l = ⊎_elim past within (le_or_lt 32 i)
    where
      j : ℕ
      j = first_filled grows_some i 0 h.tries

      none_from : 32 ≤ j → best_from h i nb ≡ start 0 huge
      none_from z = ap (λ t. down nb t (start 0 huge)) (get_or-eq_default h.tries leaf {n = j} (omega (arith, z, n.near.tries.marks.count)))

      past : 32 ≤ i → Same e nb (best_above e r w i (enc e nb)) (best_from h i nb)
      past z = rw (lt-ltb 31 i (omega arith)) (inr (refl, none_from (omega (arith, z, (first_is grows_some leaf i h.tries n.near.tries.marks.count l).from))))

      map_is : map_of tree r ≡ (decode r).tree_map
      map_is = ap (λ m. m % 2 ^ 32) (get_map tree r) ∙ (let b : (decode r).tree_map < 2 ^ 32 = n.near.tries.marks.bound in omega (arith, b))

      agrees : i < 32 → first_from 32 (map_of tree r) (i % 32) ≡ j
      agrees z = ap₂ (first_from 32) map_is (let q : i % 32 ≡ i = omega arith in q) ∙ first_agrees grows_some leaf (decode r).tree_map i h.tries n.near.tries.marks l

      within : i < 32 → Same e nb (best_above e r w i (enc e nb)) (best_from h i nb)
      within z =
          rw (le-ltb 31 i (omega arith), agrees z)
          (⊎_elim (λ y. rw (le-ltb j 32 y) (inr (refl, none_from y)))
          (λ y. rw (lt-ltb j 32 y, root_is e r w h [] n j y)
          (down_same e w j nb 64 (root_mark e) (get_or h.tries j leaf) (no_best e) (start 0 huge) (levels j y) (nodes_sized e r w h [] n j y) (n.near.tries.at j y).tree (inr (refl, refl)))) (le_or_lt 32 j))

  -- in the need's own tree, else in the next fuller one
  pub best_tree_is : (nb : ℕ) → 256 ≤ W e * nb → W e * nb < huge → Same e nb (best_tree e r w (enc e nb)) (best_large e h nb)
  unfolding best_tree
  best_tree_is nb lo hi = go (get_or h.tries i leaf) refl
    where
      i : ℕ
      i = trie_bin e nb

      k : ℕ
      k = trie_bits e i

      b : (i < 32) × InTrie e i nb
      b = trie_in e nb lo hi

      next : Same e nb (best_above e r w (i + 1) (enc e nb)) (best_from h (suc i) nb)
      next = rw (add-one i) (best_above_is (suc i) nb (omega (arith, b.0)))

      -- the own tree's find, or the next
      choose : (x : Best) (c : Cand) → Same e nb x c → Same e nb (pick (eqb x.at (no_link e)) (best_above e r w (i + 1) (enc e nb)) x) (pick (ltb c.size huge) c (best_from h (suc i) nb))
      choose x c (inl f) = rw (ne_eqb x.at (no_link e) (λ z. none_free e c.at (sym f.place ∙ z)), lt-ltb c.size huge f.found) (inl f)
      choose x c (inr f) = rw (eq-eqb x.at (no_link e) (ap (λ y. y.at) f.0), le-ltb c.size huge (omega (arith, ap (λ y. y.size) f.1))) next

      own : (t : Tree) → get_or h.tries i leaf ≡ t → Full t
          → Same e nb (best_own e w (enc e nb) (walk_b e w (enc e nb) 64 (link_of tree r i) (first_key e (enc e nb) i) (no_link e) (no_best e))) (walk k nb t leaf (start 0 huge))
      own t q full =
          rw (root_is e r w h [] n i b.0 ∙ ap (link e) q)
          (walk_same e w i nb i 64 k (trie_low e i) (root_mark e) (first_key e (enc e nb) i) (no_link e) t leaf (no_best e) (start 0 huge) (omega (arith, few_bits e i b.0)) full (trie_aligned e i) b.1
          (way_first e i nb (trie_early e nb hi)) (subst (Shaped k (trie_low e i)) q (n.near.tries.at i b.0).shape) (subst (λ u. depth u ≤ 64) q (levels i b.0))
          (subst (All (Sized e)) q (nodes_sized e r w h [] n i b.0)) (subst (TreeAt e (fld w) i (root_mark e)) q (n.near.tries.at i b.0).tree)
          (record { linked = refl; deep = omega arith; sized = tt; up = 0; there = tt }) (words_less e nb nb hi) (inr (refl, refl)))

      go : (t : Tree) → get_or h.tries i leaf ≡ t → Same e nb (best_tree e r w (enc e nb)) (let c = walk k nb t leaf (start 0 huge) in pick (ltb c.size huge) c (best_from h (suc i) nb))
      go leaf q = rw (eq-eqb (link_of tree r i) (no_link e) (root_is e r w h [] n i b.0 ∙ ap (link e) q), le-ltb huge huge (omega arith)) next
      go (node p ps s x y) q =
          rw (ne_eqb (link_of tree r i) (no_link e) (λ z. none_free e p (sym (root_is e r w h [] n i b.0 ∙ ap (link e) q) ∙ z)))
          (choose (best_own e w (enc e nb) (walk_b e w (enc e nb) 64 (link_of tree r i) (first_key e (enc e nb) i) (no_link e) (no_best e))) (walk k nb (node p ps s x y) leaf (start 0 huge)) (own (node p ps s x y) q tt))
