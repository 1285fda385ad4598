-- A member of a tree bin leaves it, in bytes, and what is held follows the rule. The words are those of the step on places (`TreeUnlinkWords`;
-- `holds`, `cut_large`), with 64 levels where that one has as many as the bin has bits: a tree is not deeper. The image gets the heir's link if the
-- chunk was the root, and stays otherwise. Assumes nothing.
use Rattle.std.specs.Prelude.{◌≡◌, refl, false, ℕ, suc, ◌≤◌, ◌<◌, eqb, get_or, set}
use Rattle.std.proofs.Common.{sym, ◌∙◌, arith, ne_eqb}
use Rattle.std.proofs.Math.Path.{ap, ap₂}
use mathlib.Core.List.{List, ◌∷◌}
use Rattle.std.proofs.Math.ListN.{length}
use Rattle.std.proofs.lemmas.List.{set-get_or}
use Rattle.words.specs.Logic.{pick, pick_case, by}
use Rattle.words.specs.Edition.{Edition, no_link, root_mark, none_free, enc}
use Rattle.words.specs.Fields.{Write, fld, write_w, length-write_w, Within, view_writes}
use Rattle.tiling.specs.Tiling.{free, Starts}
use Rattle.tiling.specs.Free.{Roomy, roomy_spaced}
use Rattle.tries.specs.Tree.{Tree, leaf, node, count, unlink}
use Rattle.tries.specs.TreeAt.{link, TreeAt}
use Rattle.tries.specs.UnlinkWords.{round1, heir, round2, depth}
use Rattle.tries.specs.UnlinkMem.{unlink_mem, unlink_w}
use Rattle.tries.proofs.SearchMem.{shape_depth}
use Rattle.rules.specs.BinOf.{is_small, trie_bin, trie_bits, trie_low}
use Rattle.rules.specs.Heap.{Heap, heap_tries}
use Rattle.holds.specs.Ops.{state, with_trees, unmark, cut_large}
use Rattle.holds.specs.BinLarge.{cut_large_lem}
use Rattle.holds.specs.Unique.{trie_once}
use Rattle.holds.specs.Where.{trie_index, trie_roomy}
use Rattle.chunk.specs.Bytes.{tree, relink_r}
use Rattle.chunk.specs.Image.{decode, decode_same, decode_relink, length_relink}
use Rattle.chunk.specs.Held.{Held}
use Rattle.treebin.specs.TreeBytes.{unlink_large}
use Rattle.treebin.specs.WayDown.{few_bits}
use Rattle.treebin.specs.TreeHeld.{by_places}
use Rattle.treebin.specs.TreeUnlinkWords.{first_round, second_round, second_image, index_at, round_fuel, heir_fuel, first_kept}

module _ (e : Edition) (r w : List ℕ) (h : Heap) (loose : List ℕ) (c s : ℕ) (z : is_small e s ≡ false) (n : Held e r w h loose) (st : Starts 0 h.chunks c (free s)) (u : 1 ≤ count c (get_or h.tries (trie_bin e s) leaf)) where
  abbrev i : ℕ
  i = trie_bin e s

  -- the levels of the step on places
  abbrev d : ℕ
  d = suc (trie_bits e i)

  abbrev bin : Tree
  bin = get_or h.tries i leaf

  abbrev root : ℕ
  root = get_or (decode r).roots i 0

  last : i < 32
  last = (trie_index e (decode r) w h loose n.near c s st z).0

  there : TreeAt e (fld w) i (root_mark e) bin
  there = (n.near.tries.at i last).tree

  deep : depth bin ≤ d
  deep = shape_depth (trie_bits e i) (trie_low e i) bin (n.near.tries.at i last).shape

  -- a bin with a member has a root
  filled : root ≡ no_link e → ⊥
  filled q = some bin u (sym (n.near.tries.linked i last) ∙ q)
    where
      some : (t : Tree) → 1 ≤ count c t → link e t ≡ no_link e → ⊥
      some leaf y q = omega arith
      some (node p ps s₀ a b) y q = none_free e p q

  -- with 64 levels
  module _ (f : ℕ) (levels : f ≡ 64) where
    abbrev us : List Write
    us = round1 e (fld w) f c

    abbrev v : ℕ
    v = heir e (fld w) f c

    enough : d ≤ f
    enough = omega (arith, few_bits e i last)

    -- c's parent word and its index, after the first round
    kept : (j : ℕ) → 6 ≤ j → j < 8 → fld (write_w w us) c j ≡ fld w c j
    kept j lo hi =
        view_writes w (fld w) us (roomy_spaced e w h.chunks h.top n.near.heads 8) (λ x a k b. refl) within c (roomy c u) j hi ∙ first_kept e (fld w) i c f c j lo
      where
        roomy : (x : ℕ) → 1 ≤ count x bin → Roomy 8 h.chunks x
        roomy x y = trie_roomy e (decode r) w h loose n.near i last x y

        within : Within 8 (Roomy 8 h.chunks) us
        within = (unlink_mem e (fld w) i f c bin (Roomy 8 h.chunks) roomy (omega (arith, deep, enough)) (trie_once e (decode r) w h loose n.near i last) u there).in1

    words_are : (unlink_large e r w (enc e c)).words ≡ unlink_w e w d c
    unfolding unlink_w
    words_are =
        ap (λ t. t.words) (first_round e w f levels c r) ∙ second_round e r (write_w w us) c v (rw (length-write_w w us) n.near.most)
        ∙ ap₂ (λ ws x. write_w (write_w w ws) (round2 e (fld (write_w w ws)) c x)) (round_fuel e (fld w) i c d f enough (root_mark e) bin u deep there) (heir_fuel e (fld w) i c d f enough (root_mark e) bin u deep there)

    image_is : (unlink_large e r w (enc e c)).image ≡ pick (eqb (fld w c 6) (root_mark e)) (relink_r e tree r i v) r
    image_is =
        ap (λ t. t.image) (first_round e w f levels c r) ∙ second_image e r (write_w w us) c v i (kept 7 (omega arith) (omega arith) ∙ index_at e (fld w) i c (root_mark e) bin u there) last
        ∙ ap (λ x. pick (eqb x (root_mark e)) (relink_r e tree r i v) r) (kept 6 (omega arith) (omega arith))

    by_levels : Held e (unlink_large e r w (enc e c)).image (unlink_large e r w (enc e c)).words (heap_tries h (set h.tries i (unlink c bin))) (c ∷ loose)
    unfolding cut_large
    by_levels =
        by_places e (unlink_large e r w (enc e c)) (cut_large e (state (decode r) w) c i) (heap_tries h (set h.tries i (unlink c bin))) (c ∷ loose)
        long (ap decode image_is ∙ decoded) words_are (cut_large_lem e (decode r) w h c loose i last n.near u)
      where
        long : length (unlink_large e r w (enc e c)).image ≡ 72
        long = rw image_is (pick_case (λ (x : List ℕ). length x ≡ 72) (eqb (fld w c 6) (root_mark e)) (λ _. length_relink tree r i v last n.image e) (λ _. n.image))

        same : decode r ≡ with_trees (decode r) (unmark e i root (decode r).tree_map) (set (decode r).roots i root)
        same = sym (ap₂ (λ x y. with_trees (decode r) x y) (rw (ne_eqb root (no_link e) filled)) (set-get_or (decode r).roots i 0) ∙ decode_same tree r)

        decoded : decode (pick (eqb (fld w c 6) (root_mark e)) (relink_r e tree r i v) r) ≡ (cut_large e (state (decode r) w) c i).ctl
        decoded =
            by (λ y. decode (pick y (relink_r e tree r i v) r) ≡ with_trees (decode r) (unmark e i (pick y v root) (decode r).tree_map) (set (decode r).roots i (pick y v root)))
            (eqb (fld w c 6) (root_mark e)) (λ _. decode_relink tree r i v last n.image e) (λ _. same)
            ∙ ap (λ x. let y = pick (eqb (fld w c 6) (root_mark e)) x root in with_trees (decode r) (unmark e i y (decode r).tree_map) (set (decode r).roots i y)) (heir_fuel e (fld w) i c d f enough (root_mark e) bin u deep there)

  pub unlink_large_step : Held e (unlink_large e r w (enc e c)).image (unlink_large e r w (enc e c)).words (heap_tries h (set h.tries (trie_bin e s) (unlink c (get_or h.tries (trie_bin e s) leaf)))) (c ∷ loose)
  unlink_large_step = by_levels 64 refl
