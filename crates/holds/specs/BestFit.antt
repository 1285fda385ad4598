-- Best fit among the tries of a held heap: what the rules' searches find, or what it means that they find nothing. Assumes nothing.
use Rattle.std.specs.Prelude.{◌≡◌, refl, Bool, true, false, [], ◌⊎◌, ℕ, suc, ◌*◌, ◌≤◌, ◌<◌, ltb, get_or}
use Rattle.std.proofs.Common.{sym, ◌∙◌, ap, subst, inl, inr, ⊎_elim, zero-le, arith, lt-ltb, le-ltb}
use Rattle.std.proofs.Math.ListN.{get_or-eq_default}
use Rattle.words.specs.Edition.{Edition, wide, narrow, W, root_mark, enc_inj, head}
use Rattle.words.specs.Fields.{fld}
use Rattle.words.specs.Logic.{pick, same?, false-true, le_or_lt}
use Rattle.index.specs.BinMap.{FirstBin}
use Rattle.index.specs.TreeBinLaws.{bin_order}
use Rattle.index.specs.MapOfBins as M
use Rattle.index.specs.MapOfBins as M
use Rattle.tiling.specs.Tiling.{free, Starts}
use Rattle.tries.specs.Tree.{Tree, leaf, node, count, All, all_map, Has}
use Rattle.tries.specs.Bits.{wid_pos}
use Rattle.tries.specs.Shape.{Shaped, range}
use Rattle.tries.specs.Members.{has_at, has_all}
use Rattle.tries.specs.Search.{Cand, walk, down, start}
use Rattle.tries.proofs.Search.{best-fit, best-down}
use Rattle.rules.specs.BinOf.{trie_bin, trie_bits, trie_low, InTrie, trie_in, trie_is, trie_aligned, huge, trie_least}
use Rattle.rules.specs.Heap.{Heap, grows_some}
use Rattle.rules.specs.Malloc.{first_filled, best_from, best_large}
use Rattle.holds.specs.Bins.{sum_at}
use Rattle.holds.specs.Holds.{in_dv}
use Rattle.holds.specs.Unique.{once}
use Rattle.holds.specs.Where.{free_head, trie_member, size_bound}
use Rattle.holds.specs.Ops.{State}
use Rattle.holds.specs.Bin.{Says}
use Rattle.holds.specs.FirstBin.{first_is}

-- ---- what a find is

-- a free chunk of the heap in a trie, that fits; and no fitting chunk in the bins from i on is smaller
pub record Fits (e : Edition) (h : Heap) (i nb : ℕ) (c : Cand) : Type 0 where
  pub found : ltb c.size huge ≡ true
  pub large : nb ≤ c.size
  pub tall : 256 ≤ W e * c.size
  pub there : (j : ℕ) × (j < 32) × Has c.at c.size (get_or h.tries j leaf)
  pub starts : Starts 0 h.chunks c.at (free c.size)
  pub not_dv : in_dv h.dv c.at ≡ 0
  pub least : (j : ℕ) → i ≤ j → j < 32 → All (λ s. nb ≤ s → c.size ≤ s) (get_or h.tries j leaf)

-- nothing that fits, in the bins from i on
pub record Misses (e : Edition) (h : Heap) (i nb : ℕ) (c : Cand) : Type 0 where
  pub missed : ltb c.size huge ≡ false
  pub small : (j : ℕ) → i ≤ j → j < 32 → All (λ s. s < nb) (get_or h.tries j leaf)

module _ (e : Edition) (t : State) (h : Heap) (n : Says e t h []) where
  -- sizes lie below `huge`
  below : (s : ℕ) → W e * s < huge → s < huge
  below s l = go e l
    where
      go : (e : Edition) → W e * s < huge → s < huge
      go wide l = omega arith
      go narrow l = omega arith

  -- the sizes of a later bin are larger
  later : (i j x s : ℕ) → i < j → i < 32 → j < 32 → Has x s (get_or h.tries i leaf) → All (λ z. s ≤ z) (get_or h.tries j leaf)
  later i j x s u l k has =
      let b : InTrie e i s = has_all (InTrie e i) x s (get_or h.tries i leaf) (range (trie_bits e i) (trie_low e i) (get_or h.tries i leaf) (n.tries.at i l).shape) has in
      all_map (λ z a. words e (bin_order (W e * s) (W e * z) (subst (λ y. trie_bin e s < y) (sym (trie_is e j z k a)) (subst (λ y. y < j) (sym (trie_is e i s l b)) u))))
      (get_or h.tries j leaf) (range (trie_bits e j) (trie_low e j) (get_or h.tries j leaf) (n.tries.at j k).shape)
    where
      words : (e : Edition) {x y : ℕ} → W e * x < W e * y → x ≤ y
      words wide l = omega arith
      words narrow l = omega arith

  has_fits : (i : ℕ) → i < 32 → (from nb : ℕ) (c : Cand) → nb ≤ c.size → Has c.at c.size (get_or h.tries i leaf)
      → ((j : ℕ) → from ≤ j → j < 32 → All (λ s. nb ≤ s → c.size ≤ s) (get_or h.tries j leaf)) → Fits e h from nb c
  has_fits i l from nb c fit u ls =
      let a = has_at e (fld t.words) i (root_mark e) c.at c.size (get_or h.tries i leaf) u (n.tries.at i l).tree in
      let m = trie_member e t.ctl t.words h [] n i l c.at a.0 in
      let q : m.0 ≡ c.size = enc_inj e m.0 c.size (omega (arith, (free_head e t.ctl t.words h [] n c.at m.0 m.1).0, a.1)) in
      let st = subst (λ s. Starts 0 h.chunks c.at (free s)) q m.1 in
      record {
        found = lt-ltb c.size huge (below c.size (size_bound e t.ctl t.words h [] n c.at c.size st));
        large = fit;
        tall = omega (arith, ap (λ s. W e * s) q, (trie_least e i m.0 m.2).0);
        there = (i, l, u);
        starts = st;
        not_dv = omega (arith, once e t.ctl t.words h [] n c.at, a.0, sum_at (count c.at) leaf h.tries i (omega (arith, n.tries.marks.count)));
        least = ls;
      }

  -- the nodes of a trie are below `huge`, in bytes and so in words
  pub trie_bytes : (i : ℕ) → i < 32 → All (λ s. W e * s < huge) (get_or h.tries i leaf)
  trie_bytes i l = go (get_or h.tries i leaf) (λ x s u. let a = has_at e (fld t.words) i (root_mark e) x s (get_or h.tries i leaf) u (n.tries.at i l).tree in bounded x s a)
    where
      bounded : (x s : ℕ) → (1 ≤ count x (get_or h.tries i leaf)) × (fld t.words x 1 ≡ head e s) → W e * s < huge
      bounded x s a =
          let m = trie_member e t.ctl t.words h [] n i l x a.0 in
          let q : m.0 ≡ s = enc_inj e m.0 s (omega (arith, (free_head e t.ctl t.words h [] n x m.0 m.1).0, a.1)) in
          subst (λ z. W e * z < huge) q (size_bound e t.ctl t.words h [] n x m.0 m.1)

      go : (u : Tree) → ((x s : ℕ) → Has x s u → W e * s < huge) → All (λ s. W e * s < huge) u
      go leaf f = tt
      go (node p ps s a b) f = (f p s (inl (refl, refl)), go a (λ x z u. f x z (inr (inl u))), go b (λ x z u. f x z (inr (inr u))))

  trie_below : (i : ℕ) → i < 32 → All (λ s. s < huge) (get_or h.tries i leaf)
  trie_below i l = all_map (λ s u. below s u) (get_or h.tries i leaf) (trie_bytes i l)

  -- the first filled trie from i on: all fit, if the need is below its sizes
  pub best_from_lem : (i nb : ℕ) → i ≤ 32 → ((j : ℕ) → i ≤ j → j < 32 → nb ≤ trie_low e j) → Fits e h i nb (best_from h i nb) ⊎ Misses e h i nb (best_from h i nb)
  best_from_lem i nb l lows = go (get_or h.tries j leaf) refl
    where
      j : ℕ
      j = first_filled grows_some i 0 h.tries

      fb : FirstBin 32 (M.filled_at grows_some leaf h.tries) i j
      fb = first_is grows_some leaf i h.tries n.tries.marks.count l

      bare : (u : Tree) → grows_some u ≡ false → All (λ s. s < nb) u
      bare leaf z = tt
      bare (node p ps s a b) z = false-true (sym z)

      go : (u : Tree) → get_or h.tries j leaf ≡ u → Fits e h i nb (down nb u (start 0 huge)) ⊎ Misses e h i nb (down nb u (start 0 huge))
      go leaf q = inr (record {
        missed = le-ltb huge huge (omega arith);
        small = λ k a b. bare (get_or h.tries k leaf) (fb.empty k a (⊎_elim (λ z. omega arith) (λ z. false-true (sym (ap grows_some q) ∙ fb.filled z)) (le_or_lt 32 j)));
      })
      go (node p ps s a b) q =
          let k : j < 32 = ⊎_elim (λ z. absurd (clash (sym (get_or-eq_default h.tries leaf {n = j} (omega (arith, z, n.tries.marks.count))) ∙ q))) (λ z. z) (le_or_lt 32 j) in
          let bd = best-down nb (trie_bits e j) (trie_low e j) 0 huge p ps s a b (subst (Shaped (trie_bits e j) (trie_low e j)) q (n.tries.at j k).shape) (lows j fb.from k) (subst (All (λ z. z < huge)) q (trie_below j k)).0 in
          let c = down nb (node p ps s a b) (start 0 huge) in
          let has : Has c.at c.size (get_or h.tries j leaf) = subst (Has c.at c.size) (sym q) bd.there in
          inl (has_fits j k i nb c bd.fits has (λ m lo hi. ⊎_elim
          (λ z. ⊎_elim (λ y. subst (λ x. All (λ z'. nb ≤ z' → c.size ≤ z') (get_or h.tries x leaf)) (sym y) (subst (All (λ z'. nb ≤ z' → c.size ≤ z')) (sym q) bd.least))
          (λ y. all_map (λ x r _. r) (get_or h.tries m leaf) (later j m c.at c.size (omega arith) k hi has)) (same? m j))
          (λ z. all_map (λ x r v. absurd (omega arith)) (get_or h.tries m leaf) (bare (get_or h.tries m leaf) (fb.empty m lo z)))
          (le_or_lt j m)))
        where
          clash : leaf ≡ node p ps s a b → ⊥
          clash z = false-true (ap grows_some z)

  -- ---- a large need

  -- bins above the need's have larger sizes, bins below have smaller ones
  above : (nb j : ℕ) → j < 32 → trie_bin e nb < j → nb ≤ trie_low e j
  above nb j k u =
      let b : trie_bin e (trie_low e j) ≡ j = trie_is e j (trie_low e j) k (omega arith, omega (arith, wid_pos (trie_bits e j))) in
      words e (bin_order (W e * nb) (W e * trie_low e j) (subst (λ z. trie_bin e nb < z) (sym b) u))
    where
      words : (e : Edition) {x : ℕ} → W e * nb < W e * x → nb ≤ x
      words wide l = omega arith
      words narrow l = omega arith

  beneath : (nb j : ℕ) → j < 32 → j < trie_bin e nb → All (λ s. s < nb) (get_or h.tries j leaf)
  beneath nb j k u =
      all_map (λ s b. words e (bin_order (W e * s) (W e * nb) (subst (λ z. z < trie_bin e nb) (sym (trie_is e j s k b)) u)))
      (get_or h.tries j leaf) (range (trie_bits e j) (trie_low e j) (get_or h.tries j leaf) (n.tries.at j k).shape)
    where
      words : (e : Edition) {x : ℕ} → W e * x < W e * nb → x < nb
      words wide l = omega arith
      words narrow l = omega arith

  pub best_large_lem : (nb : ℕ) → 256 ≤ W e * nb → W e * nb < huge → Fits e h 0 nb (best_large e h nb) ⊎ Misses e h 0 nb (best_large e h nb)
  best_large_lem nb lo hi =
      ⊎_elim
      (λ a. subst (λ (b : Bool). Fits e h 0 nb (pick b c next) ⊎ Misses e h 0 nb (pick b c next)) (sym (le-ltb c.size huge (omega (arith, ap (λ x. x.size) a.0))))
      (further a.1 (best_from_lem (suc i) nb (omega (arith, b.0)) (λ j u k. above nb j k (omega arith)))))
      (λ a. let f = has_fits i b.0 0 nb c a.fits a.there (own a.there a.least) in subst (λ (z : Bool). Fits e h 0 nb (pick z c next) ⊎ Misses e h 0 nb (pick z c next)) (sym f.found) (inl f))
      (best-fit nb (trie_bits e i) (trie_low e i) 0 huge (get_or h.tries i leaf) (trie_aligned e i) b.1 (n.tries.at i b.0).shape (trie_below i b.0))
    where
      i : ℕ
      i = trie_bin e nb

      b : (i < 32) × InTrie e i nb
      b = trie_in e nb lo hi

      c : Cand
      c = walk (trie_bits e i) nb (get_or h.tries i leaf) leaf (start 0 huge)

      next : Cand
      next = best_from h (suc i) nb

      -- bins below the need's have nothing that fits
      under : (d : Cand) (j : ℕ) → j < 32 → j < i → All (λ s. nb ≤ s → d.size ≤ s) (get_or h.tries j leaf)
      under d j k u = all_map (λ x r v. absurd (omega arith)) (get_or h.tries j leaf) (beneath nb j k u)

      widen : Fits e h (suc i) nb next → All (λ s. s < nb) (get_or h.tries i leaf) → Fits e h 0 nb next
      widen f a =
          record {
            found = f.found;
            large = f.large;
            tall = f.tall;
            there = f.there;
            starts = f.starts;
            not_dv = f.not_dv;
            least = λ j _ k. ⊎_elim (λ u. f.least j u k)
                (λ u. ⊎_elim (λ z. subst (λ y. All (λ s. nb ≤ s → next.size ≤ s) (get_or h.tries y leaf)) (sym z) (all_map (λ x r v. absurd (omega arith)) (get_or h.tries i leaf) a)) (λ z. under next j k (omega arith)) (same? j i))
                (le_or_lt (suc i) j);
          }

      further : All (λ s. s < nb) (get_or h.tries i leaf) → Fits e h (suc i) nb next ⊎ Misses e h (suc i) nb next → Fits e h 0 nb next ⊎ Misses e h 0 nb next
      further a (inl f) = inl (widen f a)
      further a (inr m) = inr (record {
        missed = m.missed;
        small = λ j _ k. ⊎_elim (λ u. m.small j u k)
            (λ u. ⊎_elim (λ z. subst (λ y. All (λ s. s < nb) (get_or h.tries y leaf)) (sym z) a) (λ z. beneath nb j k (omega arith)) (same? j i))
            (le_or_lt (suc i) j);
      })

      own : Has c.at c.size (get_or h.tries i leaf) → All (λ s. nb ≤ s → c.size ≤ s) (get_or h.tries i leaf) → (j : ℕ) → 0 ≤ j → j < 32 → All (λ s. nb ≤ s → c.size ≤ s) (get_or h.tries j leaf)
      own has a j _ k =
          ⊎_elim (λ u. all_map (λ x r _. r) (get_or h.tries j leaf) (later i j c.at c.size (omega arith) b.0 k has))
          (λ u. ⊎_elim (λ z. subst (λ y. All (λ s. nb ≤ s → c.size ≤ s) (get_or h.tries y leaf)) (sym z) a) (λ z. under c j k (omega arith)) (same? j i)) (le_or_lt (suc i) j)

  -- ---- a small need: every trie's sizes are above it

  pub small_low : (nb : ℕ) → W e * nb < 256 → (j : ℕ) → nb ≤ trie_low e j
  small_low nb s j = words e (trie_least e j (trie_low e j) (omega arith, omega (arith, wid_pos (trie_bits e j)))).0 s
    where
      words : (e : Edition) {x : ℕ} → 256 ≤ W e * x → W e * nb < 256 → nb ≤ x
      words wide a b = omega arith
      words narrow a b = omega arith

  pub small_find : (nb : ℕ) → W e * nb < 256 → Fits e h 0 nb (best_from h 0 nb) ⊎ Misses e h 0 nb (best_from h 0 nb)
  small_find nb s = best_from_lem 0 nb zero-le (λ j _ _. small_low nb s j)
