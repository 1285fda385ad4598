-- WHAT BOTH KINDS OF BIN AND THE SPARE CHUNK REACH, by the size: unlinking reaches links of the heap before it, insertion links of the heap
-- after it, and `replace_dv`, which inserts the old spare chunk, as well. And a chunk that leaves its bin leaves no links behind that were
-- not there. Assumes nothing.
use Rattle.std.specs.Prelude.{◌≡◌, true, false, ℕ, ◌+◌, ◌≤◌, ◌<◌, length, set}
use Rattle.std.proofs.Math.Path.{refl, ap, subst}
use Rattle.std.proofs.Common.{sym, ◌∙◌, inl, inr, ⊎_elim, arith, get_or-set_same, get_or-set_other, eq-eqb, ne_eqb}
use mathlib.Core.List.{List, [], ◌∷◌}
use Rattle.std.proofs.Math.Option.{Option, none, some}
use Rattle.std.proofs.Math.ListN.{get_or}
use Rattle.words.specs.Logic.{pick, by, same?}
use Rattle.words.specs.Edition.{Edition, enc, enc_inj}
use Rattle.words.specs.Fields.{count_l, ind_self}
use Rattle.words.specs.Places.{remove, count-remove}
use Rattle.tiling.specs.Tiling.{free, Starts}
use Rattle.tries.specs.Tree.{Tree, leaf, count, insert, unlink}
use Rattle.tries.specs.UnlinkMem.{count-unlink}
use Rattle.rules.specs.BinOf.{is_small, small_bin, trie_bin, trie_bits}
use Rattle.rules.specs.Heap.{Heap, heap_small, heap_tries, heap_dv}
use Rattle.rules.specs.Binning as Rules
use Rattle.rules.specs.Binning.{bin, unbin}
use Rattle.holds.specs.Holds.{SpareAt, in_dv}
use Rattle.holds.specs.Ops.{state}
use Rattle.holds.specs.Unique.{trie_once}
use Rattle.holds.specs.Where.{in_small_lem, in_trie, free_head, small_index, trie_index}
use Rattle.holds.specs.Spot.{looked_up}
use Rattle.holds.specs.Governed.{Linked}
use Rattle.chunk.specs.Image.{decode, decode_is}
use Rattle.chunk.specs.Held.{Held}
use Rattle.chunk.specs.ChunkReach.{Same, among_same}
use Rattle.smallbin.specs.SmallBytes.{insert_small, unlink_small}
use Rattle.smallbin.specs.SmallReach.{insert_small_among, unlink_small_among}
use Rattle.treebin.specs.TreeBytes.{insert_large, unlink_large}
use Rattle.treebin.specs.Binning.{insert_chunk, unlink_chunk, replace_dv}
use Rattle.treebin.specs.TreeReach.{insert_large_among, unlink_large_among}

-- what is counted in one bin of a list, after a change of one: in that one, or in the bin it was
set_count : {A : Type 0} (f : A → ℕ) (d : A) (bs : List A) (j k : ℕ) (a : A) → j < length bs → (f a ≤ f (get_or bs j d)) → 1 ≤ f (get_or (set bs j a) k d) → 1 ≤ f (get_or bs k d)
set_count f d bs j k a l le u =
    ⊎_elim (λ z. subst (λ y. 1 ≤ f (get_or bs y d)) (sym z) (omega (arith, le, subst (λ y. 1 ≤ f y) (get_or-set_same bs j a d l) (subst (λ y. 1 ≤ f (get_or (set bs j a) y d)) z u))))
    (λ z. subst (λ y. 1 ≤ f y) (get_or-set_other bs j k a d z) u) (same? k j)

module _ (e : Edition) (r w : List ℕ) (h : Heap) (loose : List ℕ) (n : Held e r w h loose) (i : ℕ) where
  -- ---- into its bin: c is loose, or the spare chunk, whose place goes to d

  insert_with : (d : Option ℕ) (c s : ℕ) → Starts 0 h.chunks c (free s) → 1 ≤ in_dv h.dv c + count_l c loose → (Linked (bin e (heap_dv h d) c s) i → ⊥) → Same i w (insert_chunk e r w (enc e c) (enc e s)).words
  unfolding insert_chunk
  insert_with d c s st out =
      by (λ b. (Linked (pick b (heap_small (heap_dv h d) (set h.small (small_bin e s) (c ∷ get_or h.small (small_bin e s) [])))
      (heap_tries (heap_dv h d) (set h.tries (trie_bin e s) (insert c s (trie_bits e (trie_bin e s)) (get_or h.tries (trie_bin e s) leaf))))) i → ⊥)
      → Same i w (pick b (insert_small e r w (enc e c) (enc e s)) (insert_large e r w (enc e c) (enc e s))).words) (is_small e s)
      (λ z f. let l = (small_index e (decode r) w h loose n.near c s st z).0 in
      among_same 4 (λ y. 1 ≤ count_l y (c ∷ get_or h.small (small_bin e s) [])) w (insert_small e r w (enc e c) (enc e s)).words i (insert_small_among e r w h loose n c s z st)
      (λ x m q. f (inl (small_bin e s, x, l, subst (λ ps. 1 ≤ count_l x ps) (sym (get_or-set_same h.small (small_bin e s) (c ∷ get_or h.small (small_bin e s) []) [] (omega (arith, l, n.near.small.marks.count)))) m, q))))
      (λ z f. let l = (trie_index e (decode r) w h loose n.near c s st z).0 in
      among_same 8 (λ y. 1 ≤ count y grown) w (insert_large e r w (enc e c) (enc e s)).words i (insert_large_among e r w h loose n c s z st out)
      (λ x m q. f (inr (trie_bin e s, x, l, subst (λ t. 1 ≤ count x t) (sym (get_or-set_same h.tries (trie_bin e s) grown leaf (omega (arith, l, n.near.tries.marks.count)))) m, q))))
    where
      grown : Tree
      grown = insert c s (trie_bits e (trie_bin e s)) (get_or h.tries (trie_bin e s) leaf)

  pub insert_reaches : (c s : ℕ) → Starts 0 h.chunks c (free s) → 1 ≤ in_dv h.dv c + count_l c loose → (Linked (bin e h c s) i → ⊥) → Same i w (insert_chunk e r w (enc e c) (enc e s)).words
  insert_reaches c s st out f = insert_with h.dv c s st out f

  -- the old spare chunk goes to its bin; the new one is not written
  pub replace_reaches : (p c k : ℕ) → (Linked (Rules.replace_dv e h p) i → ⊥) → Same i w (replace_dv e r w c k).words
  unfolding replace_dv
  replace_reaches p c k = go h.dv refl n.near.spare
    where
      go : (o : Option ℕ) → h.dv ≡ o → SpareAt e (decode r).dv (decode r).dv_size h.chunks o → (Linked (Rules.replace_old e h o p) i → ⊥) → Same i w (replace_dv e r w c k).words
      go none q sp f = rw (eq-eqb (get_or r 3 0) 0 ((decode_is r).1 ∙ sp.1)) refl
      go (some d) q sp f =
          let size : get_or r 3 0 ≡ enc e sp.0 = (decode_is r).1 ∙ sp.3 in
          rw (ne_eqb (get_or r 3 0) 0 (λ z. omega (arith, (free_head e (decode r) w h loose n.near d sp.0 sp.1).1, enc_inj e sp.0 0 (omega (arith, size, z)))), (decode_is r).0 ∙ sp.2, size)
          (insert_with none d sp.0 sp.1 (omega (arith, ap (λ y. in_dv y d) q, ind_self d))
          (subst (λ s. Linked (bin e (heap_dv h none) d s) i → ⊥) (looked_up e (state (decode r) w) h loose d sp.0 n.near sp.1) f))

  -- ---- out of its bin

  module _ (c s : ℕ) (st : Starts 0 h.chunks c (free s)) (out : count_l c loose + in_dv h.dv c ≡ 0) where
    pub unlink_reaches : (Linked h i → ⊥) → Same i w (unlink_chunk e r w (enc e c) (enc e s)).words
    unfolding unlink_chunk
    unlink_reaches f =
        by (λ b. Same i w (pick b (unlink_small e r w (enc e c) (enc e s)) (unlink_large e r w (enc e c))).words) (is_small e s)
        (λ z. among_same 4 (λ y. 1 ≤ count_l y (get_or h.small (small_bin e s) [])) w (unlink_small e r w (enc e c) (enc e s)).words i
        (unlink_small_among e r w h loose n c s z st (in_small_lem e (decode r) w h loose n.near c s st out z))
        (λ x m q. f (inl (small_bin e s, x, (small_index e (decode r) w h loose n.near c s st z).0, m, q))))
        (λ z. among_same 8 (λ y. 1 ≤ count y (get_or h.tries (trie_bin e s) leaf)) w (unlink_large e r w (enc e c)).words i
        (unlink_large_among e r w h loose n c s z st (in_trie e (decode r) w h loose n.near c s st out z))
        (λ x m q. f (inr (trie_bin e s, x, (trie_index e (decode r) w h loose n.near c s st z).0, m, q))))

    pub unbin-links : Linked (unbin e h c s) i → Linked h i
    unbin-links =
        by (λ b. Linked (pick b (heap_small h (set h.small (small_bin e s) (remove c (get_or h.small (small_bin e s) []))))
        (heap_tries h (set h.tries (trie_bin e s) (unlink c (get_or h.tries (trie_bin e s) leaf))))) i → Linked h i) (is_small e s) small large
      where
        small : is_small e s ≡ true → Linked (heap_small h (set h.small (small_bin e s) (remove c (get_or h.small (small_bin e s) [])))) i → Linked h i
        small z (inl (b, x, l, m, q)) =
            inl (
              b,
              x,
              l,
              set_count (count_l x) [] h.small (small_bin e s) b (remove c (get_or h.small (small_bin e s) []))
                  (omega (arith, (small_index e (decode r) w h loose n.near c s st z).0, n.near.small.marks.count))
                  (omega (arith, count-remove x c (get_or h.small (small_bin e s) []) (in_small_lem e (decode r) w h loose n.near c s st out z))) m,
              q,
            )
        small z (inr u) = inr u

        large : is_small e s ≡ false → Linked (heap_tries h (set h.tries (trie_bin e s) (unlink c (get_or h.tries (trie_bin e s) leaf)))) i → Linked h i
        large z (inl u) = inl u
        large z (inr (b, x, l, m, q)) =
            let j = (trie_index e (decode r) w h loose n.near c s st z).0 in
            inr (
              b,
              x,
              l,
              set_count (count x) leaf h.tries (trie_bin e s) b (unlink c (get_or h.tries (trie_bin e s) leaf)) (omega (arith, j, n.near.tries.marks.count))
                  (omega (arith, count-unlink x c (get_or h.tries (trie_bin e s) leaf) (trie_once e (decode r) w h loose n.near (trie_bin e s) j) (in_trie e (decode r) w h loose n.near c s st out z))) m,
              q,
            )
