-- WHAT THE STEPS OF TREE BINS REACH: insertion and unlinking are lists of writes to the links of the tree's members, and of the newcomer
-- (`tries`: `insert_within`, `Unlinked`). Here the words in bytes are brought to those lists. Assumes nothing.
use Rattle.std.specs.Prelude.{◌≡◌, false, ℕ, ◌+◌, ◌/◌, ◌≤◌, ◌<◌, get_or}
use Rattle.std.proofs.Math.Path.{refl, ap}
use Rattle.std.proofs.Common.{sym, ◌∙◌, subst, arith, eq-eqb, ne_eqb}
use mathlib.Core.List.{List}
use Rattle.words.specs.Logic.{pick}
use Rattle.words.specs.Edition.{Edition, W, no_link, root_mark, none_free, enc}
use Rattle.words.specs.Fields.{Write, fld, count_l, ind_self, write_w, length-write_w, Within}
use Rattle.tiling.specs.Tiling.{free, Starts}
use Rattle.tiling.specs.Free.{Roomy, roomy_spaced}
use Rattle.tries.specs.Tree.{Tree, leaf, node, count, All, insert, count-insert}
use Rattle.tries.specs.TreeAt.{link, TreeAt}
use Rattle.tries.specs.Shape.{Shaped}
use Rattle.tries.specs.Insert.{first, locate, locate_bin, locate_t, insert_writes}
use Rattle.tries.specs.InsertWords.{locate_tree, insert_within}
use Rattle.tries.specs.UnlinkWords.{back, round1, heir}
use Rattle.tries.specs.UnlinkMem.{unlink_w}
use Rattle.tries.specs.Unlinked.{unlink_writes, Unlinked, unlinked}
use Rattle.tries.proofs.SearchMem.{shape_depth}
use Rattle.rules.specs.BinOf.{is_small, trie_bin, trie_bits, trie_low, InTrie, trie_aligned}
use Rattle.rules.specs.Heap.{Heap}
use Rattle.holds.specs.Holds.{in_dv}
use Rattle.holds.specs.Bins.{sum_at}
use Rattle.holds.specs.Unique.{once, trie_once}
use Rattle.holds.specs.Where.{free_head, trie_index, trie_roomy, size_bound}
use Rattle.chunk.specs.Bytes.{tree, link_of}
use Rattle.chunk.specs.Image.{decode}
use Rattle.chunk.specs.Held.{Held}
use Rattle.chunk.specs.ChunkReach.{Among}
use Rattle.treebin.specs.TreeBytes.{first_key, seek_b, tie_w, seat_w, insert_large, unlink_large}
use Rattle.treebin.specs.WayDown.{way_first, trie_early, few_bits}
use Rattle.treebin.specs.TreeHeld.{Sized, root_is, nodes_sized}
use Rattle.treebin.specs.TreeInsertSteps.{Seats, seek_is, tie_plain, seat_plain}
use Rattle.treebin.specs.TreeUnlinkWords.{first_round, second_round}

module _ (e : Edition) (r w : List ℕ) (h : Heap) (loose : List ℕ) (n : Held e r w h loose) (c s : ℕ) (z : is_small e s ≡ false) (st : Starts 0 h.chunks c (free s)) where
  abbrev i : ℕ
  i = trie_bin e s

  abbrev bin : Tree
  bin = get_or h.tries i leaf

  index : (i < 32) × InTrie e i s
  index = trie_index e (decode r) w h loose n.near c s st z

  there : TreeAt e (fld w) i (root_mark e) bin
  there = (n.near.tries.at i index.0).tree

  -- ---- into the bin: c is loose, or the spare chunk that is let go

  module _ (out : 1 ≤ in_dv h.dv c + count_l c loose) where
    abbrev k : ℕ
    k = trie_bits e i

    -- the bin's root in the record and in the image
    abbrev v : ℕ
    v = get_or (decode r).roots i 0

    abbrev root : ℕ
    root = link_of tree r i

    -- a member of the bin, after it
    abbrev Placed : ℕ → Type 0
    Placed y = 1 ≤ count y (insert c s k bin)

    abbrev placed : List Write
    placed = insert_writes e (fld w) i c (locate_bin e (fld w) k s v)

    within : Within 8 Placed placed
    within = insert_within e (fld w) Placed i k (trie_low e i) v c s bin (λ y u. omega (arith, count-insert y c s k bin)) (omega (arith, count-insert c c s k bin, ind_self c)) (record {
      aligned = trie_aligned e i;
      sized = index.1;
      shaped = (n.near.tries.at i index.0).shape;
      distinct = trie_once e (decode r) w h loose n.near i index.0;
      new = omega (arith, once e (decode r) w h loose n.near c, sum_at (count c) leaf h.tries i (omega (arith, index.0, n.near.tries.marks.count)));
      headed = (free_head e (decode r) w h loose n.near c s st).0;
      rooted = n.near.tries.linked i index.0;
      tree = there;
    })

    -- into an empty bin
    first_words : bin ≡ leaf → tie_w e w (enc e c) (root_mark e) i ≡ write_w w placed
    first_words q = tie_plain e w i c ∙ ap (λ y. write_w w (insert_writes e (fld w) i c (pick y first (locate e (fld w) k s (v / W e))))) (sym (eq-eqb v (no_link e) (n.near.tries.linked i index.0 ∙ ap (link e) q)))

    -- into a filled one
    more_words : (p : ℕ) (ps : List ℕ) (s₀ : ℕ) (a b : Tree) → bin ≡ node p ps s₀ a b → seat_w e w (enc e c) i (seek_b e w (enc e s) 64 root (first_key e (enc e s) i)) ≡ write_w w placed
    more_words p ps s₀ a b q = seat_plain e w i c (locate_bin e (fld w) k s v) (seek_b e w (enc e s) 64 root (first_key e (enc e s) i)) seats
      where
        at : v ≡ enc e p
        at = n.near.tries.linked i index.0 ∙ ap (link e) q

        here : TreeAt e (fld w) i (root_mark e) (node p ps s₀ a b)
        here = subst (TreeAt e (fld w) i (root_mark e)) q there

        located : locate_bin e (fld w) k s v ≡ locate_t k s (node p ps s₀ a b)
        located = rw (ne_eqb v (no_link e) (λ y. none_free e p (sym at ∙ y))) (ap (locate e (fld w) k s) (back e v p at) ∙ locate_tree e (fld w) i (root_mark e) k s (node p ps s₀ a b) tt here)

        early : i < 31
        early = trie_early e s (size_bound e (decode r) w h loose n.near c s st)

        seats : Seats e (locate_bin e (fld w) k s v) (seek_b e w (enc e s) 64 root (first_key e (enc e s) i))
        seats =
            rw (located, root_is e r w h loose n i index.0 ∙ ap (link e) q)
            (seek_is e w i i s 64 k (trie_low e i) (root_mark e) (first_key e (enc e s) i) (node p ps s₀ a b) (omega (arith, few_bits e i index.0)) tt (trie_aligned e i) index.1 (way_first e i s early)
            (subst (Shaped k (trie_low e i)) q (n.near.tries.at i index.0).shape) (subst (All (Sized e)) q (nodes_sized e r w h loose n i index.0)) here)

    pub insert_large_among : Among 8 (λ y. 1 ≤ count y (insert c s (trie_bits e (trie_bin e s)) (get_or h.tries (trie_bin e s) leaf))) w (insert_large e r w (enc e c) (enc e s)).words
    unfolding insert_large
    insert_large_among = (placed, words bin refl, within)
      where
        words : (u : Tree) → bin ≡ u → (insert_large e r w (enc e c) (enc e s)).words ≡ write_w w placed
        words leaf q = rw (eq-eqb root (no_link e) (root_is e r w h loose n i index.0 ∙ ap (link e) q)) (first_words q)
        words (node p ps s₀ a b) q = rw (ne_eqb root (no_link e) (λ y. none_free e p (sym (root_is e r w h loose n i index.0 ∙ ap (link e) q) ∙ y))) (more_words p ps s₀ a b q)

  -- ---- out of the bin, with 64 levels

  module _ (u : 1 ≤ count c bin) where
    by_levels : (f : ℕ) → f ≡ 64 → Among 8 (λ y. 1 ≤ count y bin) w (unlink_large e r w (enc e c)).words
    unfolding unlink_w
    by_levels f levels = (unlink_writes e (fld w) f c, words ∙ g.words, g.within)
      where
        us : List Write
        us = round1 e (fld w) f c

        words : (unlink_large e r w (enc e c)).words ≡ unlink_w e w f c
        words = ap (λ y. y.words) (first_round e w f levels c r) ∙ second_round e r (write_w w us) c (heir e (fld w) f c) (rw (length-write_w w us) n.near.most)

        g : Unlinked e w (λ y. 1 ≤ count y bin) i f c bin
        g =
            unlinked e w (Roomy 8 h.chunks) (λ y. 1 ≤ count y bin) i f c bin (roomy_spaced e w h.chunks h.top n.near.heads 8)
            (λ y a. trie_roomy e (decode r) w h loose n.near i index.0 y a) (λ y a. a)
            (omega (arith, few_bits e i index.0, shape_depth (trie_bits e i) (trie_low e i) bin (n.near.tries.at i index.0).shape))
            (trie_once e (decode r) w h loose n.near i index.0) u there

    pub unlink_large_among : Among 8 (λ y. 1 ≤ count y (get_or h.tries (trie_bin e s) leaf)) w (unlink_large e r w (enc e c)).words
    unlink_large_among = by_levels 64 refl
