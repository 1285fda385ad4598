-- A loose chunk goes into the tree bin of its size, in bytes, and what is held follows the rule. The way down finds the place that the tree's own
-- search finds (`tries`, `Insert`), the words written there are that insertion's, and the image is the one of the step on places (`holds`,
-- `push_large`): an empty bin is entered, a filled one keeps its link and its bit. Assumes nothing.
use Rattle.std.specs.Prelude.{◌≡◌, Bool, false, List, ◌∷◌, ℕ, zero, suc, ◌+◌, ◌/◌, ◌%◌, ◌<◌, get_or, set}
use Rattle.std.proofs.Math.Path.{refl, ap, ap₂}
use Rattle.std.proofs.Common.{sym, ◌∙◌, subst, arith}
use Rattle.std.proofs.Math.Bool.{true}
use Rattle.std.proofs.Math.Dec.{eqb}
use Rattle.std.proofs.lemmas.List.{set-get_or}
use borrow.Author.Tests.{eqb-true, eqb-false, eq-eqb, ne_eqb}
use Rattle.words.specs.Logic.{pick, by}
use Rattle.words.specs.Edition.{Edition, W, no_link, root_mark, none_free, enc, head, dec_enc, enc_inj}
use Rattle.words.specs.Fields.{fld, write_w}
use Rattle.index.specs.Bit.{tell}
use Rattle.index.specs.BinMap.{mark}
use Rattle.index.specs.BinMapLaws.{mark_idem}
use Rattle.tiling.specs.Tiling.{free, Starts}
use Rattle.tries.specs.Bits.{bit, wid, Aligned, aligned_left, aligned_right, below, above}
use Rattle.tries.specs.Tree.{Tree, leaf, node, is_leaf, All, Full, insert}
use Rattle.tries.specs.TreeAt.{link, TreeAt}
use Rattle.tries.specs.Shape.{Shaped, Between}
use Rattle.tries.specs.Insert.{Spot, first, slot, ring, locate, locate_bin, locate_t, insert_writes}
use Rattle.tries.specs.InsertWords.{locate_tree}
use Rattle.tries.specs.UnlinkWords.{back}
use Rattle.rules.specs.BinOf.{is_small, trie_bin, trie_bits, trie_low, InTrie, trie_aligned}
use Rattle.rules.specs.Heap.{Heap, grows_some, heap_tries}
use Rattle.holds.specs.Holds.{Near}
use Rattle.holds.specs.Ops.{state, with_trees, push_large}
use Rattle.holds.specs.BinLarge.{push_large_lem}
use Rattle.holds.specs.Where.{trie_index, size_bound}
use Rattle.chunk.specs.Bytes.{store, word, size_b, tree, link_of, enter_r}
use Rattle.chunk.specs.Image.{decode, decode_same, decode_enter, length_enter}
use Rattle.chunk.specs.Plain.{word_plain}
use Rattle.chunk.specs.Held.{Held}
use Rattle.treebin.specs.TreeBytes.{first_key, next_key, Seat, seat, seek_b, tie_w, seat_w, insert_large}
use Rattle.treebin.specs.WayDown.{Way, way_first, way_next, way_side, trie_early, few_bits}
use Rattle.treebin.specs.TreeHeld.{by_places, node_size_lem, Sized, root_is, nodes_sized}

-- ---- the place that the way down finds

-- the seat in bytes is the spot on places; a full tree has no first spot
abbrev pub Seats : Edition → Spot → Seat → Type 0
Seats e first t = ⊥
Seats e (slot b p) t = t ≡ seat (enc e p) (pick b 5 4)
Seats e (ring p) t = t ≡ seat (enc e p) 0

-- two sizes are one in bytes where they are in words
size_test : (e : Edition) (a b : ℕ) → eqb (enc e a) (enc e b) ≡ eqb b a
size_test e a b =
    by (λ z. eqb (enc e a) (enc e b) ≡ z) (eqb b a) (λ z. eq-eqb (enc e a) (enc e b) (ap (enc e) (sym (eqb-true b a z))))
    (λ z. ne_eqb (enc e a) (enc e b) (λ q. eqb-false b a z (sym (enc_inj e a b q))))

module _ (e : Edition) (w : List ℕ) (i j s : ℕ) where
  -- through a child's link
  seek_child : (k f p v key : ℕ) (b : Bool) (c : Tree) → v ≡ link e c → (Full c → Seats e (locate_t k s c) (seek_b e w (enc e s) f (link e c) key))
      → Seats e (pick (is_leaf c) (slot b p) (locate_t k s c)) (pick (eqb v (no_link e)) (seat (enc e p) (pick b 5 4)) (seek_b e w (enc e s) f v key))
  seek_child k f p v key b leaf u ih = rw (eq-eqb v (no_link e) u)
  seek_child k f p v key b (node q qs s₁ l₁ r₁) u ih = rw (ne_eqb v (no_link e) (λ z. none_free e q (sym u ∙ z)), u) (ih tt)

  module _ (p s₀ : ℕ) (hd : fld w p 1 ≡ head e s₀) (v : s₀ % 2 ≡ 0) where
    -- a node of the size stands for its ring
    seek_found : (f key : ℕ) → s ≡ s₀ → seek_b e w (enc e s) (suc f) (enc e p) key ≡ seat (enc e p) 0
    unfolding seek_b
    seek_found f key q = rw (eq-eqb (size_b e w (enc e p)) (enc e s) (node_size_lem e w p s₀ hd v ∙ ap (enc e) (sym q)))

    -- at another the bit chooses the child
    seek_node : (f k key : ℕ) → Way e i s (suc k) key
        → let c = fld w p (pick (bit k s) 5 4) in
        seek_b e w (enc e s) (suc f) (enc e p) key
        ≡ pick (eqb s s₀) (seat (enc e p) 0) (pick (eqb c (no_link e)) (seat (enc e p) (pick (bit k s) 5 4)) (seek_b e w (enc e s) f c (next_key e key)))
    unfolding seek_b fld
    seek_node f k key y =
        ap₂ (λ z x. pick z (seat (enc e p) 0) (pick (eqb (word e w (enc e p) x) (no_link e)) (seat (enc e p) x) (seek_b e w (enc e s) f (word e w (enc e p) x) (next_key e key))))
        (ap (λ n. eqb n (enc e s)) (node_size_lem e w p s₀ hd v) ∙ size_test e s₀ s) (way_side e i s k key y)
        ∙ ap (λ c. pick (eqb s s₀) (seat (enc e p) 0) (pick (eqb c (no_link e)) (seat (enc e p) (pick (bit k s) 5 4)) (seek_b e w (enc e s) f c (next_key e key)))) (word_plain e w p (pick (bit k s) 5 4))

  -- with k bits left and fuel for them
  pub seek_is : (f k lo par key : ℕ) (t : Tree) → k < f → Full t → Aligned k lo → Between lo (lo + wid k) s → Way e i s k key → Shaped k lo t → All (Sized e) t → TreeAt e (fld w) j par t
      → Seats e (locate_t k s t) (seek_b e w (enc e s) f (link e t) key)
  seek_is f k lo par key leaf fu full al b y sh sz h = absurd full
  seek_is zero k lo par key (node p ps s₀ l r) fu full al b y sh sz h = absurd (let z : ⊥ = omega arith in z)
  seek_is (suc f) zero lo par key (node p ps s₀ l r) fu full al b y sh sz h = seek_found p s₀ h.0.member.headed sz.0.0 f key (omega arith)
  seek_is (suc f) (suc k) lo par key (node p ps s₀ l r) fu full al b y sh sz h =
      rw (seek_node p s₀ h.0.member.headed sz.0.0 f k key y)
      (by (λ v. Seats e (pick v (ring p) (pick (bit k s) (pick (is_leaf r) (slot true p) (locate_t k s r)) (pick (is_leaf l) (slot false p) (locate_t k s l))))
      (pick v (seat (enc e p) 0) (pick (eqb (fld w p (pick (bit k s) 5 4)) (no_link e)) (seat (enc e p) (pick (bit k s) 5 4)) (seek_b e w (enc e s) f (fld w p (pick (bit k s) 5 4)) (next_key e key)))))
      (eqb s s₀) (λ _. refl)
      (λ _. by (λ v. Seats e (pick v (pick (is_leaf r) (slot true p) (locate_t k s r)) (pick (is_leaf l) (slot false p) (locate_t k s l)))
      (pick (eqb (fld w p (pick v 5 4)) (no_link e)) (seat (enc e p) (pick v 5 4)) (seek_b e w (enc e s) f (fld w p (pick v 5 4)) (next_key e key))))
      (bit k s)
      (λ z. seek_child k f p (fld w p 5) (next_key e key) true r h.1.child1
      (λ c. seek_is f k (lo + wid k) (enc e p) (next_key e key) r (omega arith) c (aligned_right k lo al) (above k lo s al b.0 b.1 z, omega arith) (way_next e i s k key y) sh.5 sz.2 h.3))
      (λ z. seek_child k f p (fld w p 4) (next_key e key) false l h.1.child0
      (λ c. seek_is f k lo (enc e p) (next_key e key) l (omega arith) c (aligned_left k lo al) (b.0, below k lo s al b.0 b.1 z) (way_next e i s k key y) sh.4 sz.1 h.2))))

-- ---- the words written there

pub tie_plain : (e : Edition) (w : List ℕ) (i q : ℕ) → tie_w e w (enc e q) (root_mark e) i ≡ write_w w (insert_writes e (fld w) i q first)
tie_plain e w i q = rw (dec_enc e q)

pub seat_plain : (e : Edition) (w : List ℕ) (i q : ℕ) (sp : Spot) (t : Seat) → Seats e sp t → seat_w e w (enc e q) i t ≡ write_w w (insert_writes e (fld w) i q sp)
unfolding seat_w fld
seat_plain e w i q first t h = absurd h
seat_plain e w i q (slot true p) t h = rw (h, dec_enc e p, dec_enc e q)
seat_plain e w i q (slot false p) t h = rw (h, dec_enc e p, dec_enc e q)
seat_plain e w i q (ring p) t h = rw (h, dec_enc e p, dec_enc e q)

-- ---- by the size

module _ (e : Edition) (r w : List ℕ) (h : Heap) (loose : List ℕ) (c s : ℕ) (z : is_small e s ≡ false) (n : Held e r w h (c ∷ loose)) (st : Starts 0 h.chunks c (free s)) where
  abbrev i : ℕ
  i = trie_bin e s

  abbrev k : ℕ
  k = trie_bits e i

  abbrev bin : Tree
  bin = get_or h.tries i leaf

  abbrev grown : Heap
  grown = heap_tries h (set h.tries i (insert c s k bin))

  -- the bin's root in the record and in the image
  abbrev v : ℕ
  v = get_or (decode r).roots i 0

  abbrev root : ℕ
  root = link_of tree r i

  index : (i < 32) × InTrie e i s
  index = trie_index e (decode r) w h (c ∷ loose) n.near c s st z

  -- the step on places
  step : Near e (push_large e (state (decode r) w) c i s).ctl (push_large e (state (decode r) w) c i s).words grown loose
  step = push_large_lem e (decode r) w h c loose i s index.0 n.near st index.1

  -- into an empty bin
  first_in : bin ≡ leaf → Held e (enter_r tree r i (enc e c)) (tie_w e w (enc e c) (root_mark e) i) grown loose
  unfolding push_large
  first_in q =
      by_places e (store (enter_r tree r i (enc e c)) (tie_w e w (enc e c) (root_mark e) i)) (push_large e (state (decode r) w) c i s) grown loose
      (length_enter tree r i (enc e c) index.0 n.image)
      (decode_enter tree r i (enc e c) index.0 n.image ∙ ap (λ y. with_trees (decode r) (mark i (decode r).tree_map) (set (decode r).roots i (pick y (enc e c) v))) (sym none))
      (tie_plain e w i c ∙ ap (λ y. write_w w (insert_writes e (fld w) i c (pick y first (locate e (fld w) k s (v / W e))))) (sym none)) step
    where
      none : eqb v (no_link e) ≡ true
      none = eq-eqb v (no_link e) (n.near.tries.linked i index.0 ∙ ap (link e) q)

  -- into a filled one: the image stays
  more_in : (p : ℕ) (ps : List ℕ) (s₀ : ℕ) (a b : Tree) → bin ≡ node p ps s₀ a b → Held e r (seat_w e w (enc e c) i (seek_b e w (enc e s) 64 root (first_key e (enc e s) i))) grown loose
  unfolding push_large
  more_in p ps s₀ a b q =
      by_places e (store r (seat_w e w (enc e c) i (seek_b e w (enc e s) 64 root (first_key e (enc e s) i)))) (push_large e (state (decode r) w) c i s) grown loose
      n.image (sym same) (seat_plain e w i c (locate_bin e (fld w) k s v) (seek_b e w (enc e s) 64 root (first_key e (enc e s) i)) seats) step
    where
      at : v ≡ enc e p
      at = n.near.tries.linked i index.0 ∙ ap (link e) q

      some : eqb v (no_link e) ≡ false
      some = ne_eqb v (no_link e) (λ y. none_free e p (sym at ∙ y))

      same : with_trees (decode r) (mark i (decode r).tree_map) (set (decode r).roots i (pick (eqb v (no_link e)) (enc e c) v)) ≡ decode r
      same =
          ap₂ (λ x y. with_trees (decode r) x y) (mark_idem i (decode r).tree_map (n.near.tries.marks.tells i index.0 ∙ ap (λ t. tell (grows_some t)) q))
          (ap (λ y. set (decode r).roots i (pick y (enc e c) v)) some ∙ set-get_or (decode r).roots i 0) ∙ decode_same tree r

      there : TreeAt e (fld w) i (root_mark e) (node p ps s₀ a b)
      there = subst (TreeAt e (fld w) i (root_mark e)) q (n.near.tries.at i index.0).tree

      located : locate_bin e (fld w) k s v ≡ locate_t k s (node p ps s₀ a b)
      located = rw some (ap (locate e (fld w) k s) (back e v p at) ∙ locate_tree e (fld w) i (root_mark e) k s (node p ps s₀ a b) tt there)

      early : i < 31
      early = trie_early e s (size_bound e (decode r) w h (c ∷ loose) n.near c s st)

      seats : Seats e (locate_bin e (fld w) k s v) (seek_b e w (enc e s) 64 root (first_key e (enc e s) i))
      seats =
          rw (located, root_is e r w h (c ∷ loose) n i index.0 ∙ ap (link e) q)
          (seek_is e w i i s 64 k (trie_low e i) (root_mark e) (first_key e (enc e s) i) (node p ps s₀ a b) (omega (arith, few_bits e i index.0)) tt (trie_aligned e i) index.1 (way_first e i s early)
          (subst (Shaped k (trie_low e i)) q (n.near.tries.at i index.0).shape) (subst (All (Sized e)) q (nodes_sized e r w h (c ∷ loose) n i index.0)) there)

  pub insert_large_step : Held e (insert_large e r w (enc e c) (enc e s)).image (insert_large e r w (enc e c) (enc e s)).words
      (heap_tries h (set h.tries (trie_bin e s) (insert c s (trie_bits e (trie_bin e s)) (get_or h.tries (trie_bin e s) leaf)))) loose
  unfolding insert_large
  insert_large_step = go bin refl
    where
      go : (t : Tree) → bin ≡ t → Held e (insert_large e r w (enc e c) (enc e s)).image (insert_large e r w (enc e c) (enc e s)).words grown loose
      go leaf q = rw (eq-eqb root (no_link e) (root_is e r w h (c ∷ loose) n i index.0 ∙ ap (link e) q)) (first_in q)
      go (node p ps s₀ a b) q = rw (ne_eqb root (no_link e) (λ y. none_free e p (sym (root_is e r w h (c ∷ loose) n i index.0 ∙ ap (link e) q) ∙ y))) (more_in p ps s₀ a b q)
