-- A chunk goes into, or leaves, its small bin: the L1 steps follow the heap. Assumes nothing.
use Rattle.std.specs.Prelude.{◌≡◌, refl, true, List, [], ◌∷◌, ◌⊎◌, ℕ, ◌+◌, ◌≤◌, ◌<◌, get_or, set, eqb}
use Rattle.std.proofs.Common.{sym, ◌∙◌, ap, subst, inl, inr, ⊎_elim, arith, eq-eqb, ne_eqb}
use Rattle.words.specs.Edition.{Edition, no_link, none_free, enc}
use Rattle.words.specs.Fields.{fld, ind_ne, ind_self, count_l, Write, write_w, write_m, length-write_w, Within, within_map, view_writes, Views}
use Rattle.words.specs.Logic.{same?, pick, pick_case}
use Rattle.words.specs.Places.{remove, count-remove}
use Rattle.index.specs.BinMap.{mark}
use Rattle.index.specs.MapOfBins as M
use Rattle.tiling.specs.Tiling.{free, Starts}
use Rattle.tiling.specs.Free.{Roomy, roomy_spaced}
use Rattle.lists.specs.Links.{ListAt, keep_list, push_writes, push_mem, push_within, cut_writes, Cut, cut_mem}
use Rattle.tries.specs.Tree.{leaf, count}
use Rattle.tries.specs.TreeAt as TA
use Rattle.rules.specs.BinOf.{bin_size}
use Rattle.rules.specs.Heap.{Heap, holds_some, grows_some, heap_small}
use Rattle.holds.specs.Bins.{bins_set, bins_keep, sum_set, sum_at, sum_two}
use Rattle.holds.specs.Holds.{Control, Near, SmallAt, TrieAt, head_link, in_small}
use Rattle.holds.specs.Unique.{once, bin_once}
use Rattle.holds.specs.Where.{free_head, small_roomy, free_roomy}
use Rattle.holds.specs.Frame.{frame_heads, frame_small, frame_trie}
use Rattle.holds.specs.Ops.{state, with_small, push_small, cut_small, unmark}

-- the 32 small bins after a change of bin i by the writes us to its members and to q
module _ (e : Edition) (r : Control) (w : List ℕ) (h : Heap) (loose : List ℕ) (n : Near e r w h loose) (i : ℕ) (l : i < 32) where
  abbrev old : List ℕ
  old = get_or h.small i []

  -- the members of bin i, and q
  abbrev pub Touched : ℕ → ℕ → Type 0
  Touched q x = (x ≡ q) ⊎ (1 ≤ count_l x old)

  count_here : (x : ℕ) → count_l x old ≤ in_small h.small x
  count_here x = sum_at (count_l x) [] h.small i (omega (arith, n.small.marks.count))

  -- q is loose or in bin i: then no other bin has what is touched
  pub apart_small : (q : ℕ) → 1 ≤ count_l q loose + count_l q old → (j : ℕ) → j < 32 → (j ≡ i → ⊥) → (x : ℕ) → 1 ≤ count_l x (get_or h.small j []) → Touched q x → ⊥
  apart_small q c j k ne x u (inl z) =
      omega (arith, once e r w h loose n q, sum_two (count_l q) [] h.small i j (omega (arith, n.small.marks.count)) (omega (arith, n.small.marks.count)) ne, ap (λ y. count_l y (get_or h.small j [])) z)
  apart_small q c j k ne x u (inr z) =
      omega (arith, once e r w h loose n x, sum_two (count_l x) [] h.small i j (omega (arith, n.small.marks.count)) (omega (arith, n.small.marks.count)) ne)

  pub apart_trie : (q : ℕ) → 1 ≤ count_l q loose + count_l q old → (j : ℕ) → j < 32 → (x : ℕ) → 1 ≤ count x (get_or h.tries j leaf) → Touched q x → ⊥
  apart_trie q c j k x u (inl z) =
      omega (arith, once e r w h loose n q, count_here q, sum_at (count q) leaf h.tries j (omega (arith, n.tries.marks.count)), ap (λ y. count y (get_or h.tries j leaf)) z)
  apart_trie q c j k x u (inr z) =
      omega (arith, once e r w h loose n x, count_here x, sum_at (count x) leaf h.tries j (omega (arith, n.tries.marks.count)))

  -- a change of the bin, once for both operations
  pub small_changed : (q : ℕ) → 1 ≤ count_l q loose + count_l q old → Roomy 4 h.chunks q → (us : List Write) → Within 4 (Touched q) us
      → (new : List ℕ) (map v : ℕ) (loose' : List ℕ) → M.MapOf holds_some [] 32 (set h.small i new) map → v ≡ head_link e new
      → ListAt e (write_m (fld w) us) (bin_size e i) new
      → ((x : ℕ) → 1 ≤ count_l x new → Touched q x)
      → ((x : ℕ) → count_l x new + count_l x loose' ≡ count_l x old + count_l x loose)
      → Near e (with_small r map (set r.heads i v)) (write_w w us) (heap_small h (set h.small i new)) loose'
  small_changed q c rq us ok new map v loose' ms hv la inn bal =
      record {
        even = rw (length-write_w w us) n.even;
        least = rw (length-write_w w us) n.least;
        most = rw (length-write_w w us) n.most;
        long = rw (length-write_w w us) n.long;
        heads = frame_heads e r w h loose n 4 (Touched q) us roomy ok;
        top_place = n.top_place;
        top_size_lem = n.top_size_lem;
        spare = n.spare;
        small = bins_set [] holds_some (head_link e) (SmallAt e) (fld w) (fld (write_w w us)) r.small_map map r.heads h.small i v new l ms hv
            (keep_list e (write_m (fld w) us) (fld (write_w w us)) (bin_size e i) new (λ x u j lo hi. view x (roomy x (inn x u)) j hi) la)
            (λ j k ne. frame_small e r w h loose n 4 (Touched q) us roomy ok j k (apart_small q c j k ne)) n.small;
        tries = bins_keep leaf grows_some (TA.link e) (TrieAt e) (fld w) (fld (write_w w us)) r.tree_map r.roots h.tries
            (λ j k. frame_trie e r w h loose n 4 (Touched q) us roomy ok j k (apart_trie q c j k)) n.tries;
        tie = λ x. omega (arith, n.tie x, bal x, sum_set (count_l x) [] h.small i new (omega (arith, n.small.marks.count)));
      }
    where
      roomy : (x : ℕ) → Touched q x → Roomy 4 h.chunks x
      roomy x (inl z) = subst (Roomy 4 h.chunks) (sym z) rq
      roomy x (inr z) = small_roomy e r w h loose n i l x z

      view : Views 4 (Roomy 4 h.chunks) (write_w w us) (write_m (fld w) us)
      view = view_writes w (fld w) us (roomy_spaced e w h.chunks h.top n.heads 4) (λ x a j b. refl) (within_map 4 (Touched q) (Roomy 4 h.chunks) us roomy ok)

-- q, loose, goes in front
pub push_small_lem : (e : Edition) (r : Control) (w : List ℕ) (h : Heap) (q : ℕ) (loose : List ℕ) (i : ℕ) → i < 32 → Near e r w h (q ∷ loose) → Starts 0 h.chunks q (free (bin_size e i))
    → let t = push_small e (state r w) q i in Near e t.ctl t.words (heap_small h (set h.small i (q ∷ get_or h.small i []))) loose
unfolding push_small
push_small_lem e r w h q loose i l n st =
    small_changed e r w h (q ∷ loose) n i l q (omega (arith, ind_self q)) (free_roomy e r w h (q ∷ loose) n q (bin_size e i) st) (push_writes e q (get_or r.heads i 0))
    (push_within e (Touched e r w h (q ∷ loose) n i l q) q (get_or r.heads i 0) ps (inl refl) (λ x u. inr u) (n.small.linked i l))
    (q ∷ ps) (mark i r.small_map) (enc e q) loose
    (M.map_set holds_some [] 32 i r.small_map h.small (q ∷ ps) l n.small.marks) refl
    (push_mem e (fld w) (bin_size e i) q (get_or r.heads i 0) ps (bin_once e r w h (q ∷ loose) n i l)
    (omega (arith, once e r w h (q ∷ loose) n q, ind_self q, sum_at (count_l q) [] h.small i (omega (arith, n.small.marks.count))))
    (free_head e r w h (q ∷ loose) n q (bin_size e i) st).0 (n.small.linked i l) (n.small.at i l))
    (λ x u. ⊎_elim (λ z. inl z) (λ z. inr (omega (arith, ind_ne x q z))) (same? x q))
    (λ x. omega arith)
  where
    ps : List ℕ
    ps = get_or h.small i []

-- c, in the bin, goes out
pub cut_small_lem : (e : Edition) (r : Control) (w : List ℕ) (h : Heap) (c : ℕ) (loose : List ℕ) (i : ℕ) → i < 32 → Near e r w h loose → 1 ≤ count_l c (get_or h.small i [])
    → let t = cut_small e (state r w) c i in Near e t.ctl t.words (heap_small h (set h.small i (remove c (get_or h.small i [])))) (c ∷ loose)
unfolding cut_small
cut_small_lem e r w h c loose i l n u =
    small_changed e r w h loose n i l c (omega arith) (small_roomy e r w h loose n i l c u) (cut_writes e (fld w) c)
    k.within
    (remove c ps) (unmark e i v r.small_map) v (c ∷ loose)
    (map-after (remove c ps) link) link k.list
    (λ x z. inr (omega (arith, count-remove x c ps u)))
    (λ x. omega (arith, count-remove x c ps u))
  where
    ps : List ℕ
    ps = get_or h.small i []

    k : Cut e (fld w) (bin_size e i) c ps (Touched e r w h loose n i l c)
    k = cut_mem e (fld w) (bin_size e i) c ps (Touched e r w h loose n i l c) (λ x z. inr z) (bin_once e r w h loose n i l) u (n.small.at i l)

    v : ℕ
    v = pick (eqb (fld w c 3) (no_link e)) (fld w c 2) (get_or r.heads i 0)

    link : v ≡ head_link e (remove c ps)
    link = pick_case (λ z. z ≡ head_link e (remove c ps)) (eqb (fld w c 3) (no_link e)) (λ z. sym (k.first z)) (λ z. n.small.linked i l ∙ sym (k.later z))

    was : holds_some ps ≡ true
    was = full ps u
      where
        full : (qs : List ℕ) → 1 ≤ count_l c qs → holds_some qs ≡ true
        full [] z = absurd (omega arith)
        full (q ∷ qs) z = refl

    map-after : (new : List ℕ) → v ≡ head_link e new → M.MapOf holds_some [] 32 (set h.small i new) (unmark e i v r.small_map)
    map-after [] z = rw (eq-eqb v (no_link e) z) (M.map_set holds_some [] 32 i r.small_map h.small [] l n.small.marks)
    map-after (q ∷ qs) z = rw (ne_eqb v (no_link e) (λ y. none_free e q (sym z ∙ y))) (M.map_keep holds_some [] 32 i r.small_map h.small (q ∷ qs) l (sym was) n.small.marks)
