-- WHAT MALLOC REACHES: every word that is governed neither before the call nor after it is as it was. A chunk leaves its bin, which reaches
-- links of the heap before; it is taken or cut, which reaches heads and a foot of the one or of the other; the rest is put away, which reaches
-- links of the heap after. Which way it goes is the rule's (`MallocWays`). Assumes nothing.
use Rattle.std.specs.Prelude.{◌≡◌, true, false, leb, ltb, set}
use Rattle.std.proofs.Math.Path.{refl, ap, subst}
use Rattle.std.proofs.Common.{sym, ◌∙◌, inl, inr, arith}
use mathlib.Core.List.{List, [], ◌∷◌}
use Rattle.std.proofs.Math.Option.{Option, none, some}
use Prim.Native.Nat.{ℕ, ◌+◌, ◌-◌, ◌*◌, ◌%◌, ◌≤◌, ◌<◌}
use borrow.Author.Tests.{ltb-true, ltb-false, leb-false, le-leb, lt-leb, lt-ltb, le-ltb}
use Rattle.std.proofs.Math.ListN.{get_or}
use Rattle.words.specs.Logic.{pick, pick_case}
use Rattle.words.specs.Edition.{Edition, W, no_link, enc}
use Rattle.words.specs.Fields.{count_l, ind_self}
use Rattle.words.specs.Places.{remove}
use Rattle.tiling.specs.Tiling.{Chunk, used, free, end_of, HeadsReads, Starts, starts_in, end_append}
use Rattle.tiling.specs.Reading.{reads_head, reads_next, reads_foot}
use Rattle.tries.specs.Tree.{leaf, count, unlink}
use Rattle.tries.specs.Search.{Cand}
use Rattle.rules.specs.BinOf.{huge, is_small, bin_size, trie_bin, small_is}
use Rattle.rules.specs.Heap.{Heap, heap_dv, heap_chunks, heap_small, heap_tries}
use Rattle.rules.specs.Binning.{size_at, retile, unbin, spare_words, dv_words}
use Rattle.rules.specs.Malloc as rule
use Rattle.rules.specs.Malloc.{Grant, Rest, to_dv, to_bin, settle, serve, from_bin, from_top, from_spare_or_top, from_dv_or_top}
use Rattle.rules.specs.Leaves.{settle_leaves}
use Rattle.holds.specs.Holds.{SpareAt, head_link}
use Rattle.holds.specs.Ops.{state}
use Rattle.holds.specs.Where.{in_trie, trie_index}
use Rattle.holds.specs.Spot.{spot, looked_up}
use Rattle.holds.specs.Newest.{first_starts}
use Rattle.holds.specs.BestFit.{Fits}
use Rattle.holds.specs.Governed.{Tiled, Linked, Governed}
use Rattle.chunk.specs.Bytes.{Store, wrap, less, small, link_of, set_dv, top_w, take_w, split_w}
use Rattle.chunk.specs.Image.{decode, get_link}
use Rattle.chunk.specs.Plain.{small_sum, small_rest, small_less}
use Rattle.chunk.specs.Held.{Held, leb_bytes, ltb_bytes, top_at_lem, top_size_lem, dv_size_lem, dv_at_lem, drop_step, split_step}
use Rattle.chunk.specs.ChunkReach.{Same, put_sum_same, used_same, take_same, split_same, among_same}
use Rattle.smallbin.specs.SmallBytes.{unlink_first}
use Rattle.smallbin.specs.SmallSteps.{unlink_first_step}
use Rattle.smallbin.specs.SmallReach.{first_among}
use Rattle.treebin.specs.TreeBytes.{unlink_large}
use Rattle.treebin.specs.TreeUnlinkSteps.{unlink_large_step}
use Rattle.treebin.specs.TreeReach.{unlink_large_among}
use Rattle.treebin.specs.SearchBytes.{Best}
use Rattle.treebin.specs.SearchSteps.{Finds}
use Rattle.treebin.specs.BinningReach.{insert_reaches, replace_reaches}
use Rattle.malloc.specs.MallocBytes.{Reply, settle_b, serve_b, malloc_top, cut_dv, malloc_dv, take_small, take_fuller, take_tree, malloc_b}
use Rattle.malloc.specs.MallocWays.{malloc_goes}
use Rattle.malloc.specs.MallocReach.{left_by}

-- ---- from a loose free chunk

settle_reaches : (e : Edition) (k : Rest) (r w : List ℕ) (h : Heap) (loose : List ℕ) (p s : ℕ) → Held e r w h (p ∷ loose) → Starts 0 h.chunks p (free s) → (i : ℕ) → (Linked (settle e k h p s) i → ⊥)
    → Same i w (settle_b e k r w (enc e p) (enc e s)).words
unfolding settle_b
settle_reaches e to_dv r w h loose p s n st i f = replace_reaches e r w h (p ∷ loose) n i p (enc e p) (enc e s) f
settle_reaches e to_bin r w h loose p s n st i f = insert_reaches e r w h (p ∷ loose) n i p s st (omega (arith, ind_self p)) f

-- a free chunk of s words at p: cut, two heads and a foot; whole, two heads
module _ (e : Edition) (w : List ℕ) (h : Heap) (p s : ℕ) (st : Starts 0 h.chunks p (free s)) (near : p + s ≤ 8192) (i : ℕ) (before : Tiled h i → ⊥) where
  taken_same : (v : List ℕ) → Same i w v → Same i w (take_w e v (enc e p) (enc e s))
  taken_same v f =
      take_same e i w v p s near (λ z. before (subst (Tiled h) (sym z) (reads_head 0 h.chunks h.top p (free s) st)))
      (λ z. before (subst (Tiled h) (sym z) (reads_next 0 h.chunks h.top p (free s) st))) f

  cut_same : (v : List ℕ) (nb : ℕ) → nb ≤ s → (cs : List Chunk) (ts : ℕ) → Starts 0 cs (p + nb) (free (s - nb)) → (HeadsReads 0 cs ts i → ⊥) → Same i w v → Same i w (split_w e v (enc e p) (enc e nb) (enc e (s - nb)))
  cut_same v nb fit cs ts rest after f =
      split_same e i w v p nb (s - nb) (omega (arith, near)) (λ z. before (subst (Tiled h) (sym z) (reads_head 0 h.chunks h.top p (free s) st)))
      (λ z. after (subst (HeadsReads 0 cs ts) (sym z) (reads_head 0 cs ts (p + nb) (free (s - nb)) rest)))
      (λ z. after (subst (HeadsReads 0 cs ts) (sym z) (reads_foot 0 cs ts (p + nb) (s - nb) rest))) f

-- taken whole, or cut, and then the rest is put away
serve_reaches : (e : Edition) (k : Rest) (r w : List ℕ) (h : Heap) (loose : List ℕ) (p s nb : ℕ) → nb % 2 ≡ 0 → 4 ≤ nb → nb ≤ s → Held e r w h (p ∷ loose) → Starts 0 h.chunks p (free s)
    → (i : ℕ) → (Tiled h i → ⊥) → (Governed (serve e k h p s nb).heap i → ⊥) → Same i w (serve_b e k r w (enc e p) (enc e nb) (enc e (s - nb))).words
unfolding serve_b
serve_reaches e k r w h loose p s nb v l fit n st i before after =
    pick_case (λ (u : Store). Same i w u.words) (ltb (enc e (s - nb)) (W e * 4))
    (λ z. subst (λ c. Same i w (take_w e w (enc e p) c)) (sym whole) (taken_same e w h p s st near i before w refl))
    (λ z. let u = ltb-false (s - nb) 4 (sym (ltb_bytes e (s - nb) 4) ∙ z) in
    let g = split_step e r w h p s loose st n nb v l (omega arith) in
    let gov : Governed (settle e k halves (p + nb) (s - nb)) i → ⊥ = rw (le-leb 4 (s - nb) u) at after in
    let lv = settle_leaves e k halves (p + nb) (s - nb) in
    subst (λ c. Same i w (settle_b e k r cut c (enc e (s - nb))).words) (sym (small_sum e p nb (omega (arith, near))))
    (settle_reaches e k r cut halves loose (p + nb) (s - nb) g.0 g.1 i (λ y. gov (inr y))
    ∙ cut_same e w h p s st near i before w nb fit halves.chunks h.top g.1 (λ y. gov (inl (subst (λ c. HeadsReads 0 c (settle e k halves (p + nb) (s - nb)).top i) (sym lv.0) (subst (λ c. HeadsReads 0 halves.chunks c i) (sym lv.1) y)))) refl))
  where
    cut : List ℕ
    cut = split_w e w (enc e p) (enc e nb) (enc e (s - nb))

    halves : Heap
    halves = heap_chunks h (retile 0 h.chunks p (used nb ∷ free (s - nb) ∷ []))

    near : p + s ≤ 8192
    near = let k = spot e (state (decode r) w) h (p ∷ loose) p s n.near st in omega (arith, k.place, k.next.fits, n.near.most)

    whole : wrap e (enc e nb + enc e (s - nb)) ≡ enc e s
    whole = small_sum e nb (s - nb) (omega (arith, near)) ∙ ap (enc e) (let q : nb + (s - nb) ≡ s = omega arith in q)

-- ---- the calls

module _ (e : Edition) (r w : List ℕ) (h : Heap) (n : Held e r w h []) (nb : ℕ) (v : nb % 2 ≡ 0) (l : 4 ≤ nb) (i : ℕ) (before : Governed h i → ⊥) where
  abbrev Reaches : Reply → Option Grant → Type 0
  Reaches a o = (Governed (left_by h o) i → ⊥) → Same i w a.words

  near : (p s : ℕ) → Starts 0 h.chunks p (free s) → p + s ≤ 8192
  near p s st = omega (arith, starts_in e w 0 true h.chunks p (free s) n.near.heads.run st, n.near.heads.top.ends, n.near.most)

  -- ---- the top, the spare chunk

  top_reaches : Reaches (malloc_top e r w (enc e nb)) (from_top h nb)
  unfolding malloc_top
  top_reaches =
      rw (top_at_lem e r w h [] n, top_size_lem e r w h [] n, leb_bytes e h.top nb)
      (pick_case (λ a. Reaches a (from_top h nb)) (leb h.top nb) (λ _ _. refl)
      (λ z. let u = leb-false h.top nb z in
      rw (lt-ltb nb h.top u)
      (λ after. used_same e i w (top_w e w (wrap e (enc e p + enc e nb)) (enc e h.top - enc e nb)) p (enc e nb)
      (λ y. before (inl (subst (Tiled h) (sym y) (inr (inl refl)))))
      (put_sum_same e i w w p nb 1 (wrap e (enc e h.top - enc e nb + 1)) (omega (arith, u, n.near.heads.top.ends, n.near.most))
      (λ y. after (inl (inr (inl (y ∙ ap (λ c. c + 1) (sym (end_append 0 h.chunks (used nb ∷ [])))))))) refl))))
    where
      p : ℕ
      p = end_of 0 h.chunks

  dv_reaches : Reaches (malloc_dv e r w (enc e nb)) (from_dv_or_top e h nb)
  unfolding malloc_dv cut_dv
  dv_reaches = go h.dv refl n.near.spare
    where
      size : get_or r 3 0 ≡ enc e (dv_words h)
      size = dv_size_lem e r w h [] n

      go : (d : Option ℕ) → h.dv ≡ d → SpareAt e (decode r).dv (decode r).dv_size h.chunks d
          → Reaches (pick (ltb (get_or r 3 0) (enc e nb)) (malloc_top e r w (enc e nb)) (cut_dv e r w (get_or r 2 0) (get_or r 3 0) (enc e nb) (get_or r 3 0 - enc e nb))) (from_spare_or_top e h d nb)
      go none q sp =
          let z : ltb (get_or r 3 0) (enc e nb) ≡ true = ap (λ y. ltb y (enc e nb)) size ∙ ltb_bytes e (dv_words h) nb ∙ ap (λ d. ltb (spare_words h.chunks d) nb) q ∙ lt-ltb 0 nb (omega arith) in
          rw z top_reaches
      go (some d) q sp =
          let s = sp.0 in
          let here : size_at 0 h.chunks d ≡ s = looked_up e (state (decode r) w) h [] d s n.near sp.1 in
          let long : get_or r 3 0 ≡ enc e s = size ∙ ap (λ o. enc e (spare_words h.chunks o)) q ∙ ap (enc e) here in
          rw (dv_at_lem e r w h [] n d q, long, here, ltb_bytes e s nb, small_rest e s nb, ltb_bytes e (s - nb) 4)
          (pick_case (λ a. Reaches a (pick (leb nb s) (some (serve e to_dv (heap_dv h none) d s nb)) (from_top h nb))) (ltb s nb)
          (λ z. rw (lt-leb nb s (ltb-true s nb z)) top_reaches)
          (λ z. let fit = ltb-false s nb z in
          rw (le-leb nb s fit)
          (pick_case (λ a. Reaches a (some (serve e to_dv (heap_dv h none) d s nb))) (ltb (s - nb) 4)
          (λ y _. taken_same e w h d s sp.1 (near d s sp.1) i (λ u. before (inl u)) w refl)
          (λ y. let u = ltb-false (s - nb) 4 y in
          rw (le-leb 4 (s - nb) u)
          (λ after. cut_same e w h d s sp.1 (near d s sp.1) i (λ u. before (inl u)) w nb fit (retile 0 h.chunks d (used nb ∷ free (s - nb) ∷ [])) h.top
          (split_step e (set_dv r (no_link e) 0) w (heap_dv h none) d s [] sp.1 (drop_step e r w h d [] q n) nb v l (omega arith)).1 (λ u. after (inl u)) refl)))))

  -- ---- the newest of small bin j

  module _ (j y : ℕ) (ys : List ℕ) (lj : j < 32) (q : get_or h.small j [] ≡ y ∷ ys) (fit : nb ≤ bin_size e j) where
    link_is : link_of small r j ≡ enc e y
    link_is = let u : j % 32 ≡ j = omega arith in ap (λ k. get_or r (8 + k) 0) u ∙ get_link small r j lj ∙ n.near.small.linked j lj ∙ ap (head_link e) q

    starts : Starts 0 h.chunks y (free (bin_size e j))
    starts = first_starts e (state (decode r) w) h n.near j lj y ys q

    abbrev after : List ℕ
    after = (unlink_first e r w (enc e y) j).words

    -- the unlinking reaches links of the bin
    out : Same i w after
    out =
        among_same 4 (λ x. 1 ≤ count_l x (get_or h.small j [])) w after i
        (first_among e r w h [] n j lj y (subst (λ ps. 1 ≤ count_l y ps) (sym q) (let z : 1 ≤ count_l y (y ∷ ys) = omega (arith, ind_self y) in z))) (λ x m k. before (inr (inl (j, x, lj, m, k))))

    abbrev left : Heap
    left = heap_small h (set h.small j (remove y (get_or h.small j [])))

    left_is : unbin e h y (bin_size e j) ≡ left
    left_is =
        rw (lt-ltb (W e * bin_size e j) 256 (omega (arith, (small_is e j).0)))
        (ap (λ k. heap_small h (set h.small k (remove y (get_or h.small k [])))) (small_is e j).1)

    small_reaches : Same i w (take_small e r w j).words
    unfolding take_small
    small_reaches =
        subst (λ p. Same i w (take_w e (unlink_first e r w p j).words p (8 * j))) (sym link_is)
        (subst (λ k. Same i w (take_w e after (enc e y) k)) (small_is e j).0 (taken_same e w h y (bin_size e j) starts (near y (bin_size e j) starts) i (λ u. before (inl u)) after out))

    fuller_reaches : Reaches (take_fuller e r w j (enc e nb)) (some (from_bin e to_dv h y (bin_size e j) nb))
    unfolding take_fuller
    fuller_reaches f =
        subst (λ p. Same i w (serve_b e to_dv (unlink_first e r w p j).image (unlink_first e r w p j).words p (enc e nb) (less e (8 * j) (enc e nb))).words) (sym link_is)
        (subst (λ k. Same i w (serve_b e to_dv (unlink_first e r w (enc e y) j).image after (enc e y) (enc e nb) k).words) (sym rest)
        (serve_reaches e to_dv (unlink_first e r w (enc e y) j).image after left [] y (bin_size e j) nb v l fit (unlink_first_step e r w h [] j y ys lj q n) starts i (λ u. before (inl u))
        (subst (λ (g : Heap). Governed (serve e to_dv g y (bin_size e j) nb).heap i → ⊥) left_is f) ∙ out))
      where
        rest : less e (8 * j) (enc e nb) ≡ enc e (bin_size e j - nb)
        rest = ap (λ k. less e k (enc e nb)) (sym (small_is e j).0) ∙ small_less e (bin_size e j) nb fit (omega (arith, near y (bin_size e j) starts))

  -- ---- a find among the trees

  tree_reaches : (k : Rest) (b : Best) (c : Cand) → Finds e nb b c → Fits e h 0 nb c → Reaches (take_tree e k r w (enc e nb) b) (some (from_bin e k h c.at c.size nb))
  unfolding take_tree
  tree_reaches k b c g f after =
      rw (g.place, g.left)
      (serve_reaches e k u.image u.words left [] c.at c.size nb v l f.large (unlink_large_step e r w h [] c.at c.size large n f.starts inside) f.starts i (λ y. before (inl y))
      (subst (λ (o : Heap). Governed (serve e k o c.at c.size nb).heap i → ⊥) gone after)
      ∙ among_same 8 (λ x. 1 ≤ count x (get_or h.tries (trie_bin e c.size) leaf)) w u.words i (unlink_large_among e r w h [] n c.at c.size large f.starts inside)
      (λ x m y. before (inr (inr (trie_bin e c.size, x, (trie_index e (decode r) w h [] n.near c.at c.size f.starts large).0, m, y)))))
    where
      u : Store
      u = unlink_large e r w (enc e c.at)

      large : is_small e c.size ≡ false
      large = le-ltb (W e * c.size) 256 f.tall

      left : Heap
      left = heap_tries h (set h.tries (trie_bin e c.size) (unlink c.at (get_or h.tries (trie_bin e c.size) leaf)))

      gone : unbin e h c.at c.size ≡ left
      gone = rw large refl

      inside : 1 ≤ count c.at (get_or h.tries (trie_bin e c.size) leaf)
      inside = in_trie e (decode r) w h [] n.near c.at c.size f.starts (omega (arith, f.not_dv)) large

  whole_reaches : W e * nb < huge → Reaches (malloc_b e r w (enc e nb)) (rule.malloc e h nb)
  whole_reaches = malloc_goes e r w h n nb v Reaches (record {
    top = top_reaches;
    dv = dv_reaches;
    whole = λ j x xs lj q fit u _. small_reaches j x xs lj q fit;
    cut = λ j x xs lj q fit. fuller_reaches j x xs lj q fit;
    tree = tree_reaches;
  })

-- ---- malloc, whole

-- the word i is governed neither before nor after
pub malloc_reaches : (e : Edition) (r w : List ℕ) (h : Heap) → Held e r w h [] → (nb : ℕ) → nb % 2 ≡ 0 → 4 ≤ nb → W e * nb < huge
    → (i : ℕ) → (Governed h i → ⊥) → (Governed (left_by h (rule.malloc e h nb)) i → ⊥) → get_or (malloc_b e r w (enc e nb)).words i 0 ≡ get_or w i 0
malloc_reaches e r w h n nb v l hi i before after = whole_reaches e r w h n nb v l i before hi after
