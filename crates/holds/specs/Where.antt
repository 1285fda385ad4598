-- Where a free chunk stands: a member of a bin is a free chunk of the bin's size, and a free chunk that is neither loose nor spare is in the
-- bin of its size. Assumes nothing.
use Rattle.std.specs.Prelude.{◌≡◌, false, List, [], ℕ, ◌+◌, ◌*◌, ◌%◌, ◌≤◌, ◌<◌, get_or}
use Rattle.std.proofs.Common.{sym, ◌∙◌, ap, subst, ⊎_elim, ltb-true, ltb-false}
use Rattle.std.proofs.Math.Bool.{true}
use native.Mathlib.Omega.{arith}
use Rattle.words.specs.Edition.{Edition, wide, narrow, W, root_mark, enc_inj, head}
use Rattle.words.specs.Logic.{same?}
use Rattle.words.specs.Fields.{fld, count_l}
use Rattle.tiling.specs.Tiling.{free, Starts, starts_at_lem, starts_in}
use Rattle.tiling.specs.Free.{free_starts, starts_free, Roomy}
use Rattle.lists.specs.Links.{headed_at}
use Rattle.tries.specs.Tree.{leaf, count}
use Rattle.tries.specs.Members.{member_at}
use Rattle.tries.specs.Shape.{Between, range}
use Rattle.tries.specs.Bits.{wid}
use Rattle.rules.specs.BinOf.{is_small, small_bin, bin_size, trie_bin, trie_bits, trie_low, InTrie, small_in, small_is, trie_is, trie_in, trie_least, huge}
use Rattle.rules.specs.Heap.{Heap}
use Rattle.holds.specs.Bins.{sum_at, sum_find}
use Rattle.holds.specs.Holds.{Control, Near, in_dv, in_small, in_tries}

module _ (e : Edition) (r : Control) (w : List ℕ) (h : Heap) (loose : List ℕ) (n : Near e r w h loose) where
  -- a free chunk's head
  pub free_head : (x s : ℕ) → Starts 0 h.chunks x (free s) → (fld w x 1 ≡ head e s) × (4 ≤ s) × (s % 2 ≡ 0)
  unfolding fld
  free_head x s st = let a = starts_at_lem e w 0 true h.chunks x (free s) n.heads.run st in (a.1.head, a.1.least, a.1.even)

  -- whatever is counted is a free chunk
  pub counted : (x : ℕ) → 1 ≤ in_small h.small x + in_tries h.tries x + in_dv h.dv x + count_l x loose → (s : ℕ) × Starts 0 h.chunks x (free s)
  counted x u = free_starts 0 h.chunks x (omega (arith, n.tie x))

  size_by_head : (x s t : ℕ) → Starts 0 h.chunks x (free s) → fld w x 1 ≡ head e t → s ≡ t
  size_by_head x s t st q = enc_inj e s t (omega (arith, (free_head x s st).0, q))

  pub small_member : (i : ℕ) → i < 32 → (x : ℕ) → 1 ≤ count_l x (get_or h.small i []) → Starts 0 h.chunks x (free (bin_size e i))
  small_member i l x u =
      let f = counted x (omega (arith, sum_at (count_l x) [] h.small i (omega (arith, n.small.marks.count)))) in
      subst (λ s. Starts 0 h.chunks x (free s))
      (size_by_head x f.0 (bin_size e i) f.1 (headed_at e (fld w) (bin_size e i) x (get_or h.small i []) u (n.small.at i l).headed)) f.1

  pub trie_member : (i : ℕ) → i < 32 → (x : ℕ) → 1 ≤ count x (get_or h.tries i leaf) → (s : ℕ) × Starts 0 h.chunks x (free s) × InTrie e i s
  trie_member i l x u =
      let f = counted x (omega (arith, sum_at (count x) leaf h.tries i (omega (arith, n.tries.marks.count)))) in
      let t = get_or h.tries i leaf in
      let g = member_at e (fld w) i (root_mark e) (Between (trie_low e i) (trie_low e i + wid (trie_bits e i))) x t u (range (trie_bits e i) (trie_low e i) t (n.tries.at i l).shape) (n.tries.at i l).tree in
      (f.0, f.1, subst (InTrie e i) (sym (size_by_head x f.0 g.0 f.1 g.1)) g.2)

  -- with room for the fields that the bins rest on
  pub small_roomy : (i : ℕ) → i < 32 → (x : ℕ) → 1 ≤ count_l x (get_or h.small i []) → Roomy 4 h.chunks x
  small_roomy i l x u = let st = small_member i l x u in (bin_size e i, st, (free_head x (bin_size e i) st).1)

  pub trie_roomy : (i : ℕ) → i < 32 → (x : ℕ) → 1 ≤ count x (get_or h.tries i leaf) → Roomy 8 h.chunks x
  trie_roomy i l x u = let q = trie_member i l x u in (q.0, q.1, (trie_least e i q.0 q.2).1)

  pub free_roomy : (x s : ℕ) → Starts 0 h.chunks x (free s) → Roomy 4 h.chunks x
  free_roomy x s st = (s, st, (free_head x s st).1)

  -- a chunk's size fits into the arena
  pub size_bound : (x s : ℕ) → Starts 0 h.chunks x (free s) → W e * s < huge
  unfolding huge
  size_bound x s st =
      bytes e (omega (arith, starts_in e w 0 true h.chunks x (free s) n.heads.run st, n.heads.top.ends, n.most))
    where
      bytes : (e : Edition) → s ≤ 8192 → W e * s < 12582912
      bytes wide l = omega arith
      bytes narrow l = omega arith

  -- a free chunk that is neither loose nor spare is in the bin of its size
  pub in_small_lem : (x s : ℕ) → Starts 0 h.chunks x (free s) → count_l x loose + in_dv h.dv x ≡ 0 → is_small e s ≡ true → 1 ≤ count_l x (get_or h.small (small_bin e s) [])
  in_small_lem x s st z t =
      ⊎_elim
      (λ u. let f = sum_find (count x) leaf h.tries (omega (arith, n.tie x, starts_free 0 h.chunks x s st)) in
      let l : f.0 < 32 = omega (arith, f.1, n.tries.marks.count) in
      let q = trie_member f.0 l x f.2 in
      absurd (omega (arith, ltb-true (W e * s) 256 t, (trie_least e f.0 q.0 q.2).0, ap (λ y. W e * y) (same_size x s q.0 st q.1))))
      (λ u. let f = sum_find (count_l x) [] h.small (omega arith) in
      let l : f.0 < 32 = omega (arith, f.1, n.small.marks.count) in
      let q = same_size x s (bin_size e f.0) st (small_member f.0 l x f.2) in
      subst (λ i. 1 ≤ count_l x (get_or h.small i [])) (sym (ap (small_bin e) q ∙ (small_is e f.0).1)) f.2)
      (same? (in_small h.small x) 0)
    where
      same_size : (x s t : ℕ) → Starts 0 h.chunks x (free s) → Starts 0 h.chunks x (free t) → s ≡ t
      same_size x s t a b = size_by_head x s t a (free_head x t b).0

  pub in_trie : (x s : ℕ) → Starts 0 h.chunks x (free s) → count_l x loose + in_dv h.dv x ≡ 0 → is_small e s ≡ false → 1 ≤ count x (get_or h.tries (trie_bin e s) leaf)
  in_trie x s st z t =
      ⊎_elim
      (λ u. let f = sum_find (count x) leaf h.tries (omega (arith, n.tie x, starts_free 0 h.chunks x s st)) in
      let l : f.0 < 32 = omega (arith, f.1, n.tries.marks.count) in
      let q = trie_member f.0 l x f.2 in
      subst (λ i. 1 ≤ count x (get_or h.tries i leaf)) (sym (ap (trie_bin e) (same_size x s q.0 st q.1) ∙ trie_is e f.0 q.0 l q.2)) f.2)
      (λ u. let f = sum_find (count_l x) [] h.small (omega arith) in
      let l : f.0 < 32 = omega (arith, f.1, n.small.marks.count) in
      let q = same_size x s (bin_size e f.0) st (small_member f.0 l x f.2) in
      absurd (omega (arith, ltb-false (W e * s) 256 t, (small_is e f.0).0, ap (λ y. W e * y) q)))
      (same? (in_small h.small x) 0)
    where
      same_size : (x s t : ℕ) → Starts 0 h.chunks x (free s) → Starts 0 h.chunks x (free t) → s ≡ t
      same_size x s t a b = size_by_head x s t a (free_head x t b).0

  -- the small and the large index are indices
  pub small_index : (x s : ℕ) → Starts 0 h.chunks x (free s) → is_small e s ≡ true → (small_bin e s < 32) × (bin_size e (small_bin e s) ≡ s)
  small_index x s st t = small_in e s (free_head x s st).2 (ltb-true (W e * s) 256 t)

  pub trie_index : (x s : ℕ) → Starts 0 h.chunks x (free s) → is_small e s ≡ false → (trie_bin e s < 32) × InTrie e (trie_bin e s) s
  trie_index x s st t = trie_in e s (ltb-false (W e * s) 256 t) (size_bound x s st)
