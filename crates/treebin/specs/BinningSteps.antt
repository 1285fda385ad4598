-- Both kinds of bin by the size, and the spare chunk: insertion, unlinking and `replace_dv` keep what is held, and it follows the rules. The rule
-- lets the old spare chunk go, bins it, and sets the new one; the code bins it first and sets once: the bins' words of the image are not the
-- spare chunk's, so the two are one. Assumes nothing.
use Rattle.std.specs.Prelude.{◌≡◌, List, [], ◌∷◌, eqb, ltb, length, set}
use Rattle.std.proofs.Math.Path.{refl, ap₂}
use Rattle.std.proofs.Common.{sym, ◌∙◌, ap, subst, arith, length-set, get_or-set_other, eq-eqb, ne_eqb}
use Rattle.std.proofs.Math.Option.{Option, none, some}
use Prim.Native.Nat.{ℕ, ◌+◌, ◌%◌, ◌<◌}
use Rattle.std.proofs.Math.ListN.{get_or}
use Rattle.std.proofs.lemmas.List.{set_comm}
use Rattle.words.specs.Logic.{pick, pick_case, by}
use Rattle.words.specs.Edition.{Edition, no_link, root_mark, enc, enc_inj}
use Rattle.words.specs.Fields.{count_l}
use Rattle.words.specs.Places.{remove}
use Rattle.index.specs.BinMap.{mark}
use Rattle.index.specs.TreeBin.{tree_index}
use Rattle.tiling.specs.Tiling.{free, Starts}
use Rattle.tries.specs.Tree.{leaf, insert, unlink}
use Rattle.rules.specs.BinOf.{is_small, small_bin, trie_bin, trie_bits}
use Rattle.rules.specs.Heap.{Heap, heap_small, heap_tries, heap_dv}
use Rattle.rules.specs.Binning as Rules
use Rattle.rules.specs.Binning.{bin, unbin}
use Rattle.holds.specs.Holds.{SpareAt, in_dv}
use Rattle.holds.specs.Ops.{state}
use Rattle.holds.specs.Where.{in_small_lem, in_trie, free_head}
use Rattle.holds.specs.Spot.{looked_up}
use Rattle.chunk.specs.Bytes.{Store, store, set_dv, Kind, small, tree, map_at, link_at, link_of, enter_r}
use Rattle.chunk.specs.Image.{by_front, decode, decode_is}
use Rattle.chunk.specs.Held.{Held, drop_step, dv_step, dv_twice}
use Rattle.smallbin.specs.SmallBytes.{small_bin_of, link_new_w, insert_small, unlink_small}
use Rattle.smallbin.specs.SmallSteps.{insert_small_step, unlink_small_step}
use Rattle.treebin.specs.TreeBytes.{first_key, seek_b, tie_w, seat_w, insert_large, unlink_large}
use Rattle.treebin.specs.Binning.{insert_chunk, unlink_chunk, replace_dv}
use Rattle.treebin.specs.TreeInsertSteps.{insert_large_step}
use Rattle.treebin.specs.TreeUnlinkSteps.{unlink_large_step}

-- ---- into a bin, out of it

module _ (e : Edition) (r w : List ℕ) (h : Heap) (loose : List ℕ) (c s : ℕ) where
  pub insert_step : Held e r w h (c ∷ loose) → Starts 0 h.chunks c (free s) → Held e (insert_chunk e r w (enc e c) (enc e s)).image (insert_chunk e r w (enc e c) (enc e s)).words (bin e h c s) loose
  unfolding insert_chunk
  insert_step n st =
      by (λ b. let t = pick b (insert_small e r w (enc e c) (enc e s)) (insert_large e r w (enc e c) (enc e s)) in
      Held e t.image t.words (pick b (heap_small h (set h.small (small_bin e s) (c ∷ get_or h.small (small_bin e s) [])))
      (heap_tries h (set h.tries (trie_bin e s) (insert c s (trie_bits e (trie_bin e s)) (get_or h.tries (trie_bin e s) leaf))))) loose)
      (is_small e s) (λ z. insert_small_step e r w h loose c s z n st) (λ z. insert_large_step e r w h loose c s z n st)

  pub unlink_step : Held e r w h loose → Starts 0 h.chunks c (free s) → count_l c loose + in_dv h.dv c ≡ 0
      → Held e (unlink_chunk e r w (enc e c) (enc e s)).image (unlink_chunk e r w (enc e c) (enc e s)).words (unbin e h c s) (c ∷ loose)
  unfolding unlink_chunk
  unlink_step n st out =
      by (λ b. let t = pick b (unlink_small e r w (enc e c) (enc e s)) (unlink_large e r w (enc e c)) in
      Held e t.image t.words (pick b (heap_small h (set h.small (small_bin e s) (remove c (get_or h.small (small_bin e s) []))))
      (heap_tries h (set h.tries (trie_bin e s) (unlink c (get_or h.tries (trie_bin e s) leaf))))) (c ∷ loose))
      (is_small e s) (λ z. unlink_small_step e r w h loose c s z n st (in_small_lem e (decode r) w h loose n.near c s st out z))
      (λ z. unlink_large_step e r w h loose c s z n st (in_trie e (decode r) w h loose n.near c s st out z))

-- ---- the bins and the spare chunk are different words of the image

link_far : (k : Kind) (i j : ℕ) → j < 8 → link_at k i ≡ j → ⊥
link_far small i j l z = omega arith
link_far tree i j l z = omega arith

module _ (r : List ℕ) (x y : ℕ) where
  link_apart : (k : Kind) (i : ℕ) → link_of k (set_dv r x y) i ≡ link_of k r i
  link_apart k i =
      get_or-set_other (set r 2 x) 3 (link_at k (i % 32)) y 0 (link_far k (i % 32) 3 (omega arith)) ∙ get_or-set_other r 2 (link_at k (i % 32)) x 0 (link_far k (i % 32) 2 (omega arith))

  module _ (q : length r ≡ 72) where
    map_apart : (k : Kind) (i : ℕ) → set (set_dv r x y) (map_at k) (mark i (get_or (set_dv r x y) (map_at k) 0)) ≡ set_dv (set r (map_at k) (mark i (get_or r (map_at k) 0))) x y
    map_apart small i = by_front (λ z. set (set_dv z x y) 0 (mark i (get_or (set_dv z x y) 0 0)) ≡ set_dv (set z 0 (mark i (get_or z 0 0))) x y) (λ _ _ _ _ _ _ _ _ _. refl) r (omega arith)
    map_apart tree i = by_front (λ z. set (set_dv z x y) 1 (mark i (get_or (set_dv z x y) 1 0)) ≡ set_dv (set z 1 (mark i (get_or z 1 0))) x y) (λ _ _ _ _ _ _ _ _ _. refl) r (omega arith)

    enter_apart : (k : Kind) (i v : ℕ) → enter_r k (set_dv r x y) i v ≡ set_dv (enter_r k r i v) x y
    enter_apart k i v =
        ap (λ z. set z at v) (map_apart k (i % 32)) ∙ set_comm (set marked 2 x) 3 at y v (λ z. link_far k (i % 32) 3 (omega arith) (sym z))
        ∙ ap (λ z. set z 3 y) (set_comm marked 2 at x v (λ z. link_far k (i % 32) 2 (omega arith) (sym z)))
      where
        at : ℕ
        at = link_at k (i % 32)

        marked : List ℕ
        marked = set r (map_at k) (mark (i % 32) (get_or r (map_at k) 0))

    large_apart : (e : Edition) (w : List ℕ) (c n : ℕ) → insert_large e (set_dv r x y) w c n ≡ store (set_dv (insert_large e r w c n).image x y) (insert_large e r w c n).words
    unfolding insert_large
    large_apart e w c n =
        ap₂ (λ v a. pick (eqb v (no_link e)) (store a (tie_w e w c (root_mark e) i)) (store (set_dv r x y) (seat_w e w c i (seek_b e w n 64 v (first_key e n i))))) (link_apart tree i) (enter_apart tree i c)
        ∙ by (λ b. pick b (store (set_dv (enter_r tree r i c) x y) tied) (store (set_dv r x y) seated) ≡ (let t = pick b (store (enter_r tree r i c) tied) (store r seated) in store (set_dv t.image x y) t.words))
        (eqb (link_of tree r i) (no_link e)) (λ _. refl) (λ _. refl)
      where
        i : ℕ
        i = tree_index n

        tied : List ℕ
        tied = tie_w e w c (root_mark e) i

        seated : List ℕ
        seated = seat_w e w c i (seek_b e w n 64 (link_of tree r i) (first_key e n i))

    insert_apart : (e : Edition) (w : List ℕ) (c n : ℕ) → insert_chunk e (set_dv r x y) w c n ≡ store (set_dv (insert_chunk e r w c n).image x y) (insert_chunk e r w c n).words
    unfolding insert_chunk insert_small
    insert_apart e w c n =
        by (λ b. pick b (insert_small e (set_dv r x y) w c n) (insert_large e (set_dv r x y) w c n) ≡ (let t = pick b (insert_small e r w c n) (insert_large e r w c n) in store (set_dv t.image x y) t.words))
        (ltb n 256) (λ _. ap₂ (λ a v. store a (link_new_w e w c v)) (enter_apart small (small_bin_of n) c) (link_apart small (small_bin_of n))) (λ _. large_apart e w c n)

-- ---- the spare chunk is another

module _ (e : Edition) (r w : List ℕ) (h : Heap) (loose : List ℕ) (p s : ℕ) (n : Held e r w h (p ∷ loose)) (st : Starts 0 h.chunks p (free s)) where
  -- the old one, d of k words, is let go, binned, and p is set
  rebin : (d k : ℕ) → h.dv ≡ some d → Starts 0 h.chunks d (free k)
      → let t = insert_chunk e r w (enc e d) (enc e k) in Held e (set_dv t.image (enc e p) (enc e s)) t.words (heap_dv (bin e (heap_dv h none) d k) (some p)) loose
  rebin d k q sp =
      subst (λ x. Held e x t.words (heap_dv binned (some p)) loose) (dv_twice t.image (no_link e) 0 (enc e p) (enc e s) long)
      (subst (λ (u : Store). Held e (set_dv u.image (enc e p) (enc e s)) u.words (heap_dv binned (some p)) loose) apart
      (dv_step e bare.image bare.words binned p s loose (pick_case (λ (x : Heap). x.dv ≡ none) (is_small e k) (λ _. refl) (λ _. refl)) inside
      (pick_case (λ (x : Heap). Starts 0 x.chunks p (free s)) (is_small e k) (λ _. st) (λ _. st))))
    where
      t : Store
      t = insert_chunk e r w (enc e d) (enc e k)

      bare : Store
      bare = insert_chunk e (set_dv r (no_link e) 0) w (enc e d) (enc e k)

      binned : Heap
      binned = bin e (heap_dv h none) d k

      inside : Held e bare.image bare.words binned (p ∷ loose)
      inside = insert_step e (set_dv r (no_link e) 0) w (heap_dv h none) (p ∷ loose) d k (drop_step e r w h d (p ∷ loose) q n) sp

      apart : bare ≡ store (set_dv t.image (no_link e) 0) t.words
      apart = insert_apart r (no_link e) 0 n.image e w (enc e d) (enc e k)

      long : length t.image ≡ 72
      long = simp length-set at (sym (ap (λ u. length u.image) apart) ∙ inside.image)

  pub replace_step : Held e (replace_dv e r w (enc e p) (enc e s)).image (replace_dv e r w (enc e p) (enc e s)).words (Rules.replace_dv e h p) loose
  unfolding replace_dv
  replace_step = go h.dv refl n.near.spare
    where
      go : (o : Option ℕ) → h.dv ≡ o → SpareAt e (decode r).dv (decode r).dv_size h.chunks o
          → Held e (replace_dv e r w (enc e p) (enc e s)).image (replace_dv e r w (enc e p) (enc e s)).words (Rules.replace_old e h o p) loose
      go none q sp = rw (eq-eqb (get_or r 3 0) 0 ((decode_is r).1 ∙ sp.1)) (dv_step e r w h p s loose q n st)
      go (some d) q sp =
          let size : get_or r 3 0 ≡ enc e sp.0 = (decode_is r).1 ∙ sp.3 in
          rw (ne_eqb (get_or r 3 0) 0 (λ z. omega (arith, (free_head e (decode r) w h (p ∷ loose) n.near d sp.0 sp.1).1, enc_inj e sp.0 0 (omega (arith, size, z)))), (decode_is r).0 ∙ sp.2, size, looked_up e (state (decode r) w) h (p ∷ loose) d sp.0 n.near sp.1) (rebin d sp.0 q sp.1)
