-- A chunk goes into, or leaves, its tree bin: the L1 steps follow the heap. Assumes nothing.
use Rattle.std.specs.Prelude.{◌≡◌, refl, true, List, [], ◌∷◌, ◌⊎◌, ℕ, zero, suc, ◌+◌, ◌≤◌, ◌<◌, get_or, set, eqb}
use Rattle.std.proofs.Common.{sym, ◌∙◌, ap, subst, inl, inr, ⊎_elim, arith, eq-eqb, ne_eqb}
use Rattle.words.specs.Edition.{Edition, no_link, none_free, enc}
use Rattle.words.specs.Fields.{fld, ind_ne, ind_self, count_l, Write, write_w, write_m, length-write_w, Within, within_map, view_writes, Views}
use Rattle.words.specs.Logic.{same?, pick, pick_case}
use Rattle.index.specs.BinMap.{mark, clear}
use Rattle.index.specs.MapOfBins as M
use Rattle.tiling.specs.Tiling.{free, Starts}
use Rattle.tiling.specs.Free.{Roomy, roomy_spaced}
use Rattle.tries.specs.Tree.{Tree, leaf, node, count, insert, unlink, count-insert, Distinct}
use Rattle.tries.specs.TreeAt.{link}
use Rattle.tries.specs.Shape.{shape_insert, shape_unlink}
use Rattle.tries.specs.Insert.{insert_writes, locate_bin}
use Rattle.tries.specs.InsertWords.{Ready, insert_mem, insert_within, insert-root}
use Rattle.tries.specs.UnlinkWords.{new_root, heir}
use Rattle.tries.specs.UnlinkMem.{count-unlink}
use Rattle.tries.specs.Unlinked.{unlink_writes, Unlinked, unlinked}
use Rattle.tries.proofs.SearchMem.{shape_depth}
use Rattle.tries.specs.Bits.{bit}
use Rattle.rules.specs.BinOf.{trie_bits, trie_low, InTrie, trie_aligned, trie_least}
use Rattle.rules.specs.Heap.{Heap, holds_some, grows_some, heap_tries}
use Rattle.holds.specs.Bins.{bins_set, bins_keep, sum_set, sum_at, sum_two}
use Rattle.holds.specs.Holds.{Control, Near, SmallAt, TrieAt, head_link, in_tries}
use Rattle.holds.specs.Unique.{once, trie_once}
use Rattle.holds.specs.Where.{free_head, trie_roomy}
use Rattle.holds.specs.Frame.{frame_heads, frame_small, frame_trie, keep_trie}
use Rattle.holds.specs.Ops.{state, with_trees, push_large, cut_large, unmark}

-- the 32 tree bins after a change of bin i by the writes us to its members and to q
module _ (e : Edition) (r : Control) (w : List ℕ) (h : Heap) (loose : List ℕ) (n : Near e r w h loose) (i : ℕ) (l : i < 32) where
  abbrev old : Tree
  old = get_or h.tries i leaf

  -- the members of bin i, and q
  abbrev pub Touched : ℕ → ℕ → Type 0
  Touched q x = (x ≡ q) ⊎ (1 ≤ count x old)

  count_here : (x : ℕ) → count x old ≤ in_tries h.tries x
  count_here x = sum_at (count x) leaf h.tries i (omega (arith, n.tries.marks.count))

  apart_trie : (q : ℕ) → 1 ≤ count_l q loose + count q old → (j : ℕ) → j < 32 → (j ≡ i → ⊥) → (x : ℕ) → 1 ≤ count x (get_or h.tries j leaf) → Touched q x → ⊥
  apart_trie q c j k ne x u (inl z) =
      omega (arith, once e r w h loose n q, sum_two (count q) leaf h.tries i j (omega (arith, n.tries.marks.count)) (omega (arith, n.tries.marks.count)) ne, ap (λ y. count y (get_or h.tries j leaf)) z)
  apart_trie q c j k ne x u (inr z) =
      omega (arith, once e r w h loose n x, sum_two (count x) leaf h.tries i j (omega (arith, n.tries.marks.count)) (omega (arith, n.tries.marks.count)) ne)

  apart_small : (q : ℕ) → 1 ≤ count_l q loose + count q old → (j : ℕ) → j < 32 → (x : ℕ) → 1 ≤ count_l x (get_or h.small j []) → Touched q x → ⊥
  apart_small q c j k x u (inl z) =
      omega (arith, once e r w h loose n q, count_here q, sum_at (count_l q) [] h.small j (omega (arith, n.small.marks.count)), ap (λ y. count_l y (get_or h.small j [])) z)
  apart_small q c j k x u (inr z) =
      omega (arith, once e r w h loose n x, count_here x, sum_at (count_l x) [] h.small j (omega (arith, n.small.marks.count)))

  -- a change of the bin, once for both operations
  pub trie_changed : (q : ℕ) → 1 ≤ count_l q loose + count q old → Roomy 8 h.chunks q → (us : List Write) → Within 8 (Touched q) us
      → (new : Tree) (map v : ℕ) (loose' : List ℕ) → M.MapOf grows_some leaf 32 (set h.tries i new) map → v ≡ link e new
      → TrieAt e (write_m (fld w) us) i new
      → ((x : ℕ) → 1 ≤ count x new → Touched q x)
      → ((x : ℕ) → count x new + count_l x loose' ≡ count x old + count_l x loose)
      → Near e (with_trees r map (set r.roots i v)) (write_w w us) (heap_tries h (set h.tries i new)) loose'
  trie_changed q c rq us ok new map v loose' ms hv la inn bal =
      record {
        even = rw (length-write_w w us) n.even;
        least = rw (length-write_w w us) n.least;
        most = rw (length-write_w w us) n.most;
        long = rw (length-write_w w us) n.long;
        heads = frame_heads e r w h loose n 8 (Touched q) us roomy ok;
        top_place = n.top_place;
        top_size_lem = n.top_size_lem;
        spare = n.spare;
        small = bins_keep [] holds_some (head_link e) (SmallAt e) (fld w) (fld (write_w w us)) r.small_map r.heads h.small
            (λ j k. frame_small e r w h loose n 8 (Touched q) us roomy ok j k (apart_small q c j k)) n.small;
        tries = bins_set leaf grows_some (link e) (TrieAt e) (fld w) (fld (write_w w us)) r.tree_map map r.roots h.tries i v new l ms hv
            (keep_trie e (write_m (fld w) us) (fld (write_w w us)) i new (λ x u j lo hi. view x (roomy x (inn x u)) j hi) la)
            (λ j k ne. frame_trie e r w h loose n 8 (Touched q) us roomy ok j k (apart_trie q c j k ne)) n.tries;
        tie = λ x. omega (arith, n.tie x, bal x, sum_set (count x) leaf h.tries i new (omega (arith, n.tries.marks.count)));
      }
    where
      roomy : (x : ℕ) → Touched q x → Roomy 8 h.chunks x
      roomy x (inl z) = subst (Roomy 8 h.chunks) (sym z) rq
      roomy x (inr z) = trie_roomy e r w h loose n i l x z

      view : Views 8 (Roomy 8 h.chunks) (write_w w us) (write_m (fld w) us)
      view = view_writes w (fld w) us (roomy_spaced e w h.chunks h.top n.heads 8) (λ x a j b. refl) (within_map 8 (Touched q) (Roomy 8 h.chunks) us roomy ok)

grown : (q s k : ℕ) (t : Tree) → grows_some (insert q s k t) ≡ true
grown q s k leaf = refl
grown q s zero (node p ps s₀ l r) = refl
grown q s (suc k) (node p ps s₀ l r) =
    pick_case (λ t. grows_some t ≡ true) (eqb s s₀) (λ _. refl) (λ _. pick_case (λ t. grows_some t ≡ true) (bit k s) (λ _. refl) (λ _. refl))

-- q, loose, of s words, goes in
pub push_large_lem : (e : Edition) (r : Control) (w : List ℕ) (h : Heap) (q : ℕ) (loose : List ℕ) (i s : ℕ) → i < 32 → Near e r w h (q ∷ loose) → Starts 0 h.chunks q (free s) → InTrie e i s
    → let t = push_large e (state r w) q i s in Near e t.ctl t.words (heap_tries h (set h.tries i (insert q s (trie_bits e i) (get_or h.tries i leaf)))) loose
unfolding push_large
push_large_lem e r w h q loose i s l n st b =
    trie_changed e r w h (q ∷ loose) n i l q (omega (arith, ind_self q)) (s, st, (trie_least e i s b).1) (insert_writes e (fld w) i q (locate_bin e (fld w) k s v))
    (insert_within e (fld w) (Touched e r w h (q ∷ loose) n i l q) i k (trie_low e i) v q s t (λ x u. inr u) (inl refl) ready)
    (insert q s k t) (mark i r.tree_map) (pick (eqb v (no_link e)) (enc e q) v) loose
    (subst (λ z. M.MapOf grows_some leaf 32 (set h.tries i (insert q s k t)) (pick z (mark i r.tree_map) (clear i r.tree_map))) (grown q s k t)
    (M.map_set grows_some leaf 32 i r.tree_map h.tries (insert q s k t) l n.tries.marks))
    (insert-root e v q s k t (n.tries.linked i l))
    (record { tree = insert_mem e (fld w) i k (trie_low e i) v q s t ready; shape = shape_insert q s k (trie_low e i) t (trie_aligned e i) b (n.tries.at i l).shape })
    (λ x u. ⊎_elim (λ z. inl z) (λ z. inr (omega (arith, ind_ne x q z, count-insert x q s k t))) (same? x q))
    (λ x. omega (arith, count-insert x q s k t))
  where
    k : ℕ
    k = trie_bits e i

    t : Tree
    t = get_or h.tries i leaf

    v : ℕ
    v = get_or r.roots i 0

    ready : Ready e (fld w) i k (trie_low e i) v q s t
    ready =
        record {
          aligned = trie_aligned e i;
          sized = b;
          shaped = (n.tries.at i l).shape;
          distinct = trie_once e r w h (q ∷ loose) n i l;
          new = omega (arith, once e r w h (q ∷ loose) n q, ind_self q, sum_at (count q) leaf h.tries i (omega (arith, n.tries.marks.count)));
          headed = (free_head e r w h (q ∷ loose) n q s st).0;
          rooted = n.tries.linked i l;
          tree = (n.tries.at i l).tree;
        }

-- c, in the bin, goes out
pub cut_large_lem : (e : Edition) (r : Control) (w : List ℕ) (h : Heap) (c : ℕ) (loose : List ℕ) (i : ℕ) → i < 32 → Near e r w h loose → 1 ≤ count c (get_or h.tries i leaf)
    → let t = cut_large e (state r w) c i in Near e t.ctl t.words (heap_tries h (set h.tries i (unlink c (get_or h.tries i leaf)))) (c ∷ loose)
unfolding cut_large
cut_large_lem e r w h c loose i l n u =
    subst (λ x. Near e (with_trees r (unmark e i v r.tree_map) (set r.roots i v)) x (heap_tries h (set h.tries i (unlink c t))) (c ∷ loose)) (sym k.words)
    (trie_changed e r w h loose n i l c (omega arith) (trie_roomy e r w h loose n i l c u) (unlink_writes e (fld w) d c)
    k.within
    (unlink c t) (unmark e i v r.tree_map) v (c ∷ loose)
    (map-after (unlink c t) root) root
    (record { tree = k.tree; shape = shape_unlink c (trie_bits e i) (trie_low e i) t (n.tries.at i l).shape })
    (λ x z. inr (omega (arith, count-unlink x c t once_t u)))
    (λ x. omega (arith, count-unlink x c t once_t u)))
  where
    t : Tree
    t = get_or h.tries i leaf

    d : ℕ
    d = suc (trie_bits e i)

    once_t : Distinct t
    once_t = trie_once e r w h loose n i l

    k : Unlinked e w (Touched e r w h loose n i l c) i d c t
    k =
        unlinked e w (Roomy 8 h.chunks) (Touched e r w h loose n i l c) i d c t (roomy_spaced e w h.chunks h.top n.heads 8)
        (λ x z. ⊎_elim (λ y. trie_roomy e r w h loose n i l x (subst (λ b. 1 ≤ count b t) (sym y) u)) (λ y. trie_roomy e r w h loose n i l x y) z)
        (λ x z. inr z) (shape_depth (trie_bits e i) (trie_low e i) t (n.tries.at i l).shape) once_t u (n.tries.at i l).tree

    v : ℕ
    v = new_root e (fld w) c (heir e (fld w) d c) (get_or r.roots i 0)

    root : v ≡ link e (unlink c t)
    root = k.rooted (get_or r.roots i 0) (n.tries.linked i l)

    was : grows_some t ≡ true
    was = full t u
      where
        full : (q : Tree) → 1 ≤ count c q → grows_some q ≡ true
        full leaf z = absurd (omega arith)
        full (node p ps s a b) z = refl

    map-after : (new : Tree) → v ≡ link e new → M.MapOf grows_some leaf 32 (set h.tries i new) (unmark e i v r.tree_map)
    map-after leaf z = rw (eq-eqb v (no_link e) z) (M.map_set grows_some leaf 32 i r.tree_map h.tries leaf l n.tries.marks)
    map-after (node p ps s a b) z = rw (ne_eqb v (no_link e) (λ y. none_free e p (sym z ∙ y))) (M.map_keep grows_some leaf 32 i r.tree_map h.tries (node p ps s a b) l (sym was) n.tries.marks)
