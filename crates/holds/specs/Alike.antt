-- TWO HEAPS THAT DIFFER IN NOTHING BUT THE SHAPES OF THEIR TRIES: they have the same chunks, top, spare chunk and small bins, and each trie has
-- the same ring for each size, the oldest member first. What the rules are made of keeps them alike: binning, unbinning, cutting a chunk, letting
-- the spare chunk go or replacing it. By the laws of rings (`Rings`). Assumes nothing.
use Rattle.std.specs.Prelude.{◌≡◌, refl, List, [], ◌∷◌, ◌++◌, ℕ, zero, suc, ◌+◌, ◌*◌, ◌≤◌, ◌<◌, eqb, length, get_or, set}
use Rattle.std.proofs.Common.{sym, ◌∙◌, ap, subst, ⊎_elim, arith, ltb-false, length-set, get_or-set_same, get_or-set_other}
use Rattle.std.proofs.Math.Option.{Option, none, some}
use Rattle.words.specs.Edition.{Edition, wide, narrow, W}
use Rattle.words.specs.Logic.{pick, pick_case, by, same?, lt_or_le}
use Rattle.words.specs.Places.{remove}
use Rattle.index.specs.TreeBinLaws.{tree_in}
use Rattle.tiling.specs.Tiling.{Chunk, size, total, end_total}
use Rattle.tries.specs.Tree.{Tree, leaf, count, Distinct, insert, unlink}
use Rattle.tries.specs.Shape.{Shaped, shape_insert, shape_unlink}
use Rattle.rules.specs.BinOf.{is_small, small_bin, trie_bin, trie_bits, trie_low, trie_in, trie_aligned, huge}
use Rattle.rules.specs.Heap.{Heap, heap_dv, heap_small, heap_tries, heap_tiles, heap_chunks}
use Rattle.rules.specs.Binning.{size_at, retile, bin, unbin, replace_old, replace_dv}
use Rattle.holds.specs.Holds.{Control, Near}
use Rattle.holds.specs.Rings.{ring_of, newly, ring_insert, ring_unlink, unlink-less}

-- each trie has the same ring for each size
abbrev pub SameRings : List Tree → List Tree → Type 0
SameRings ts us = (i s : ℕ) → i < 32 → ring_of s (get_or ts i leaf) ≡ ring_of s (get_or us i leaf)

pub record Alike (h h' : Heap) : Type 0 where
  pub chunks : h.chunks ≡ h'.chunks
  pub top : h.top ≡ h'.top
  pub dv : h.dv ≡ h'.dv
  pub small : h.small ≡ h'.small
  pub rings : SameRings h.tries h'.tries

-- ---- what a held heap's tries are, without the words

pub record Sorted (e : Edition) (ts : List Tree) : Type 0 where
  pub count : length ts ≡ 32
  pub shape : (i : ℕ) → i < 32 → Shaped (trie_bits e i) (trie_low e i) (get_or ts i leaf)

-- one trie becomes u
sorted_set : (e : Edition) (ts : List Tree) (i : ℕ) (u : Tree) → i < 32 → Shaped (trie_bits e i) (trie_low e i) u → Sorted e ts → Sorted e (set ts i u)
sorted_set e ts i u l h s =
    record {
      count = length-set ts i u ∙ s.count;
      shape = λ j k. ⊎_elim
          (λ q. subst (λ x. Shaped (trie_bits e x) (trie_low e x) (get_or (set ts i u) x leaf)) (sym q) (subst (Shaped (trie_bits e i) (trie_low e i)) (sym (get_or-set_same ts i u leaf (omega (arith, s.count)))) h))
          (λ n. subst (Shaped (trie_bits e j) (trie_low e j)) (sym (get_or-set_other ts i j u leaf n)) (s.shape j k))
          (same? j i);
    }

-- no place stands twice in a trie
abbrev pub Once : Heap → Type 0
Once h = (i : ℕ) → i < 32 → Distinct (get_or h.tries i leaf)

-- two alike heaps whose tries have their shape, and whose chunks fit into an arena
pub record Pair (e : Edition) (h h' : Heap) : Type 0 where
  pub alike : Alike h h'
  pub left : Sorted e h.tries
  pub right : Sorted e h'.tries
  pub room : total h.chunks ≤ 8192

pub near_pair : (e : Edition) (r r' : Control) (w w' : List ℕ) (h h' : Heap) (l l' : List ℕ) → Near e r w h l → Near e r' w' h' l' → Alike h h' → Pair e h h'
near_pair e r r' w w' h h' l l' n n' a =
    record {
      alike = a;
      left = record { count = n.tries.marks.count; shape = λ i k. (n.tries.at i k).shape };
      right = record { count = n'.tries.marks.count; shape = λ i k. (n'.tries.at i k).shape };
      room = omega (arith, end_total 0 h.chunks, n.heads.top.ends, n.most);
    }

pub pair_sym : (e : Edition) (h h' : Heap) → Pair e h h' → Pair e h' h
pair_sym e h h' p =
    let a = p.alike in
    record {
      alike = record { chunks = sym a.chunks; top = sym a.top; dv = sym a.dv; small = sym a.small; rings = λ i s l. sym (a.rings i s l) };
      left = p.right;
      right = p.left;
      room = subst (λ cs. total cs ≤ 8192) a.chunks p.room;
    }

-- the second heap of a pair is the first with other tries
pub as_tries : (e : Edition) (P : Heap → Type 0) (h h' : Heap) → Pair e h h' → ((ts : List Tree) → Pair e h (heap_tries h ts) → P (heap_tries h ts)) → P h'
as_tries e P h h' p f =
    let q : heap_tries h h'.tries ≡ h' = heap_eq h.chunks h'.chunks h.top h'.top h.dv h'.dv h.small h'.small h'.tries p.alike.chunks p.alike.top p.alike.dv p.alike.small in
    subst P q (f h'.tries (subst (Pair e h) (sym q) p))
  where
    heap_eq : (c c' : List Chunk) (t t' : ℕ) (d d' : Option ℕ) (s s' : List (List ℕ)) (f : List Tree) → c ≡ c' → t ≡ t' → d ≡ d' → s ≡ s'
        → ◌≡◌ {A = Heap} (record { chunks = c; top = t; dv = d; small = s; tries = f }) (record { chunks = c'; top = t'; dv = d'; small = s'; tries = f })
    heap_eq c c' t t' d d' s s' f p q u v = cc (p, q, u, v)

-- ---- the spare chunk and the tiling

pub pair_dv : (e : Edition) (h h' : Heap) (d : Option ℕ) → Pair e h h' → Pair e (heap_dv h d) (heap_dv h' d)
pair_dv e h h' d p =
    record {
      alike = record { chunks = p.alike.chunks; top = p.alike.top; dv = refl; small = p.alike.small; rings = p.alike.rings };
      left = p.left;
      right = p.right;
      room = p.room;
    }

pub pair_tiles : (e : Edition) (h h' : Heap) (cs : List Chunk) (ts ts' : ℕ) → ts ≡ ts' → total cs ≤ 8192 → Pair e h h' → Pair e (heap_tiles h cs ts) (heap_tiles h' cs ts')
pair_tiles e h h' cs ts ts' q l p =
    record {
      alike = record { chunks = refl; top = q; dv = p.alike.dv; small = p.alike.small; rings = p.alike.rings };
      left = p.left;
      right = p.right;
      room = l;
    }

pub pair_chunks : (e : Edition) (h h' : Heap) (cs : List Chunk) → total cs ≤ 8192 → Pair e h h' → Pair e (heap_chunks h cs) (heap_chunks h' cs)
pair_chunks e h h' cs l p = pair_tiles e h h' cs h.top h'.top p.alike.top l p

-- ---- the bins

pair_small : (e : Edition) (h h' : Heap) (f : List (List ℕ) → List (List ℕ)) → Pair e h h' → Pair e (heap_small h (f h.small)) (heap_small h' (f h'.small))
pair_small e h h' f p =
    record {
      alike = record { chunks = p.alike.chunks; top = p.alike.top; dv = p.alike.dv; small = ap f p.alike.small; rings = p.alike.rings };
      left = p.left;
      right = p.right;
      room = p.room;
    }

-- trie i becomes a in the one heap and b in the other, and these have the same rings
pair_trie : (e : Edition) (h h' : Heap) (i : ℕ) (a b : Tree) → i < 32 → Shaped (trie_bits e i) (trie_low e i) a → Shaped (trie_bits e i) (trie_low e i) b → ((s : ℕ) → ring_of s a ≡ ring_of s b)
    → Pair e h h' → Pair e (heap_tries h (set h.tries i a)) (heap_tries h' (set h'.tries i b))
pair_trie e h h' i a b l ha hb f p =
    record {
      alike = record {
        chunks = p.alike.chunks;
        top = p.alike.top;
        dv = p.alike.dv;
        small = p.alike.small;
        rings = λ j s k. ⊎_elim
            (λ q. subst (λ x. ring_of s (get_or (set h.tries i a) x leaf) ≡ ring_of s (get_or (set h'.tries i b) x leaf)) (sym q) (here s))
            (λ n. ap (ring_of s) (get_or-set_other h.tries i j a leaf n) ∙ p.alike.rings j s k ∙ sym (ap (ring_of s) (get_or-set_other h'.tries i j b leaf n)))
            (same? j i);
      };
      left = sorted_set e h.tries i a l ha p.left;
      right = sorted_set e h'.tries i b l hb p.right;
      room = p.room;
    }
  where
    here : (s : ℕ) → ring_of s (get_or (set h.tries i a) i leaf) ≡ ring_of s (get_or (set h'.tries i b) i leaf)
    here s =
        ap (ring_of s) (get_or-set_same h.tries i a leaf (omega (arith, p.left.count))) ∙ f s
        ∙ sym (ap (ring_of s) (get_or-set_same h'.tries i b leaf (omega (arith, p.right.count))))

within : (e : Edition) (s : ℕ) → s ≤ 8192 → W e * s < huge
unfolding huge
within wide s l = omega arith
within narrow s l = omega arith

pub pair_bin : (e : Edition) (h h' : Heap) (q s : ℕ) → s ≤ 8192 → Pair e h h' → Pair e (bin e h q s) (bin e h' q s)
pair_bin e h h' q s l p =
    by (λ b. Pair e (pick b (heap_small h (push h.small)) (heap_tries h (set h.tries i (insert q s k t)))) (pick b (heap_small h' (push h'.small)) (heap_tries h' (set h'.tries i (insert q s k t')))))
    (is_small e s) (λ z. pair_small e h h' push p)
    (λ z. let b = trie_in e s (ltb-false (W e * s) 256 z) (within e s l) in
    let a = p.left.shape i b.0 in
    let a' = p.right.shape i b.0 in
    pair_trie e h h' i (insert q s k t) (insert q s k t') b.0 (shape_insert q s k (trie_low e i) t (trie_aligned e i) b.1 a) (shape_insert q s k (trie_low e i) t' (trie_aligned e i) b.1 a')
    (λ z. ring_insert z q s k (trie_low e i) t (trie_aligned e i) b.1 a ∙ ap (λ v. v ++ newly z q s) (p.alike.rings i z b.0) ∙ sym (ring_insert z q s k (trie_low e i) t' (trie_aligned e i) b.1 a')) p)
  where
    i : ℕ
    i = trie_bin e s

    k : ℕ
    k = trie_bits e i

    t : Tree
    t = get_or h.tries i leaf

    t' : Tree
    t' = get_or h'.tries i leaf

    push : List (List ℕ) → List (List ℕ)
    push b = set b (small_bin e s) (q ∷ get_or b (small_bin e s) [])

trie_index : (e : Edition) (s : ℕ) → trie_bin e s < 32
trie_index e s = omega (arith, (tree_in (W e * s)).last)

pub pair_unbin : (e : Edition) (h h' : Heap) (c s : ℕ) → Once h → Once h' → Pair e h h' → Pair e (unbin e h c s) (unbin e h' c s)
pair_unbin e h h' c s o o' p =
    by (λ b. Pair e (pick b (heap_small h (take h.small)) (heap_tries h (set h.tries i (unlink c t)))) (pick b (heap_small h' (take h'.small)) (heap_tries h' (set h'.tries i (unlink c t')))))
    (is_small e s) (λ z. pair_small e h h' take p)
    (λ z. let a = p.left.shape i l in
    let a' = p.right.shape i l in
    pair_trie e h h' i (unlink c t) (unlink c t') l (shape_unlink c (trie_bits e i) (trie_low e i) t a) (shape_unlink c (trie_bits e i) (trie_low e i) t' a')
    (λ z. ring_unlink c z (trie_bits e i) (trie_low e i) t a (o i l) ∙ ap (remove c) (p.alike.rings i z l) ∙ sym (ring_unlink c z (trie_bits e i) (trie_low e i) t' a' (o' i l))) p)
  where
    i : ℕ
    i = trie_bin e s

    l : i < 32
    l = trie_index e s

    t : Tree
    t = get_or h.tries i leaf

    t' : Tree
    t' = get_or h'.tries i leaf

    take : List (List ℕ) → List (List ℕ)
    take b = set b (small_bin e s) (remove c (get_or b (small_bin e s) []))

-- unbinning leaves the chunks, and no place stands more often
pub unbin_chunks : (e : Edition) (h : Heap) (c s : ℕ) → (unbin e h c s).chunks ≡ h.chunks
unbin_chunks e h c s = pick_case (λ (k : Heap). k.chunks ≡ h.chunks) (is_small e s) (λ _. refl) (λ _. refl)

pub unbin_once : (e : Edition) (h : Heap) (c s : ℕ) → Once h → Once (unbin e h c s)
unbin_once e h c s o =
    pick_case Once (is_small e s) (λ _. o)
    (λ _ j k x. ⊎_elim (λ l. ⊎_elim
    (λ q. subst (λ y. count x (get_or (set h.tries i (unlink c t)) y leaf) ≤ 1) (sym q) (omega (arith, ap (count x) (get_or-set_same h.tries i (unlink c t) leaf l), unlink-less x c t, o i (trie_index e s) x)))
    (λ n. omega (arith, ap (count x) (get_or-set_other h.tries i j (unlink c t) leaf n), o j k x)) (same? j i))
    (λ l. omega (arith, ap (λ ts. count x (get_or ts j leaf)) (set_past h.tries i (unlink c t) l), o j k x)) (lt_or_le i (length h.tries)))
  where
    i : ℕ
    i = trie_bin e s

    t : Tree
    t = get_or h.tries i leaf

    set_past : (ts : List Tree) (i : ℕ) (u : Tree) → length ts ≤ i → set ts i u ≡ ts
    set_past [] i u l = refl
    set_past (a ∷ ts) zero u l = absurd (omega arith)
    set_past (a ∷ ts) (suc i) u l = ap (λ v. a ∷ v) (set_past ts i u (omega arith))

-- ---- sizes

pub total_append : (xs ys : List Chunk) → total (xs ++ ys) ≡ total xs + total ys
total_append [] ys = omega arith
total_append (x ∷ xs) ys = omega (arith, total_append xs ys)

-- no chunk is larger than all together
pub size_in : (a : ℕ) (cs : List Chunk) (p : ℕ) → size_at a cs p ≤ total cs
size_in a [] p = omega arith
size_in a (c ∷ cs) p = pick_case (λ v. v ≤ total (c ∷ cs)) (eqb p a) (λ _. omega arith) (λ _. omega (arith, size_in (a + size c) cs p))

pub total-retile : (a : ℕ) (cs : List Chunk) (p : ℕ) (new : List Chunk) → total new ≡ size_at a cs p → total (retile a cs p new) ≤ total cs
total-retile a [] p new q = omega arith
total-retile a (c ∷ cs) p new q =
    by (λ b. total new ≡ pick b (size c) (size_at (a + size c) cs p) → total (pick b (new ++ cs) (c ∷ retile (a + size c) cs p new)) ≤ total (c ∷ cs)) (eqb p a)
    (λ _ u. omega (arith, total_append new cs)) (λ _ u. omega (arith, total-retile (a + size c) cs p new u)) q

-- ---- another spare chunk

pub pair_replace : (e : Edition) (h h' : Heap) (p : ℕ) → Pair e h h' → Pair e (replace_dv e h p) (replace_dv e h' p)
pair_replace e h h' p pr = as_tries e (λ k. Pair e (replace_dv e h p) (replace_dv e k p)) h h' pr (λ ts g. go ts g h.dv)
  where
    go : (ts : List Tree) → Pair e h (heap_tries h ts) → (d : Option ℕ) → Pair e (replace_old e h d p) (replace_old e (heap_tries h ts) d p)
    go ts g none = pair_dv e h (heap_tries h ts) (some p) g
    go ts g (some d) =
        let n = size_at 0 h.chunks d in
        let k = heap_dv h none in
        let k' = heap_dv (heap_tries h ts) none in
        pair_dv e (bin e k d n) (bin e k' d n) (some p) (pair_bin e k k' d n (omega (arith, size_in 0 h.chunks d, g.room)) (pair_dv e h (heap_tries h ts) none g))
