-- THE WAYS MALLOC GOES: each test in bytes is the rule's test, so it goes the rule's way. Said for whatever shall hold of what it leaves and of
-- the rule's answer: it holds of malloc if it holds of its few ends: the top, the spare chunk, the newest of a small bin, whole or cut, and
-- a find among the trees. Assumes nothing.
use Rattle.std.specs.Prelude.{◌≡◌, Bool, true, false, leb, ltb, eqb, get_or}
use Rattle.std.proofs.Math.Path.{refl, ap}
use Rattle.std.proofs.Common.{sym, ◌∙◌, ap₂, subst, mod-eq_of_lt, ltb-true, ltb-false, le-leb, lt-ltb, le-ltb, eq-eqb, ne_eqb}
use mathlib.Core.List.{List, [], ◌∷◌}
use Rattle.std.proofs.Math.Option.{Option, some}
use Rattle.std.proofs.Math.Logic.{⊎_elim}
use Prim.Native.Nat.{ℕ, suc, ◌+◌, ◌-◌, ◌*◌, ◌%◌, ◌^◌, ◌≤◌, ◌<◌}
use native.Mathlib.Omega.{arith}
use Rattle.std.proofs.lemmas.Bool.{lt-leb}
use Rattle.std.proofs.Math.ListN.{get_or-eq_default}
use Rattle.words.specs.Logic.{pick, pick_case, le_or_lt, false-true}
use Rattle.words.specs.Edition.{Edition, wide, narrow, W, no_link, none_free, enc}
use Rattle.index.specs.Bit.{bit}
use Rattle.index.specs.BinMap as M
use Rattle.index.specs.BinMap.{FirstBin}
use Rattle.index.specs.Digits.{bit_small}
use Rattle.index.specs.MapOfBins.{filled_at}
use Rattle.tries.specs.Search.{Cand, start}
use Rattle.rules.specs.BinOf.{huge, is_small, small_bin, bin_size, small_in}
use Rattle.rules.specs.Heap.{Heap, holds_some}
use Rattle.rules.specs.Binning.{dv_words}
use Rattle.rules.specs.Malloc as rule
use Rattle.rules.specs.Malloc.{Grant, Rest, to_dv, to_bin, from_bin, from_top, from_dv_or_top, first_filled, best_from, best_large, from_trie, from_fuller, fuller, own_or_next, from_own}
use Rattle.holds.specs.Ops.{state}
use Rattle.holds.specs.FirstBin.{first_is, first_agrees}
use Rattle.holds.specs.Newest as newest
use Rattle.holds.specs.BestFit.{Fits, best_large_lem, small_find}
use Rattle.chunk.specs.Bytes.{small, map_of}
use Rattle.chunk.specs.Image.{decode, get_map}
use Rattle.chunk.specs.Plain.{small_rest}
use Rattle.chunk.specs.Held.{Held, leb_bytes, ltb_bytes, dv_size_lem}
use Rattle.smallbin.specs.SmallBytes.{small_bin_of}
use Rattle.treebin.specs.SearchBytes.{Best, no_best, best_above, best_tree}
use Rattle.malloc.specs.MallocBytes.{Reply, malloc_top, malloc_dv, take_small, take_fuller, take_tree, small_tree, malloc_fuller, malloc_small, malloc_find, malloc_b}
use Rattle.treebin.specs.SearchSteps.{Finds, best_above_is, best_tree_is}

-- two choices by the same test
follow-pick : (P : Reply → Option Grant → Type 0) (b c : Bool) (x y : Reply) (x' y' : Option Grant) → b ≡ c → (c ≡ true → P x x') → (c ≡ false → P y y') → P (pick b x y) (pick c x' y')
follow-pick P b true x y x' y' q f g = subst (λ (z : Bool). P (pick z x y) x') (sym q) (f refl)
follow-pick P b false x y x' y' q f g = subst (λ (z : Bool). P (pick z x y) y') (sym q) (g refl)

-- the ends
pub record Ways (e : Edition) (r w : List ℕ) (h : Heap) (nb : ℕ) (P : Reply → Option Grant → Type 0) : Type 0 where
  pub top : P (malloc_top e r w (enc e nb)) (from_top h nb)
  pub dv : P (malloc_dv e r w (enc e nb)) (from_dv_or_top e h nb)
  pub whole : (j x : ℕ) (xs : List ℕ) → j < 32 → get_or h.small j [] ≡ x ∷ xs → nb ≤ bin_size e j → bin_size e j < nb + 4 → P (take_small e r w j) (some (from_bin e to_dv h x (bin_size e j) nb))
  pub cut : (j x : ℕ) (xs : List ℕ) → j < 32 → get_or h.small j [] ≡ x ∷ xs → nb ≤ bin_size e j → P (take_fuller e r w j (enc e nb)) (some (from_bin e to_dv h x (bin_size e j) nb))
  pub tree : (k : Rest) (b : Best) (c : Cand) → Finds e nb b c → Fits e h 0 nb c → P (take_tree e k r w (enc e nb) b) (some (from_bin e k h c.at c.size nb))

module _ (e : Edition) (r w : List ℕ) (h : Heap) (n : Held e r w h []) (nb : ℕ) (v : nb % 2 ≡ 0) (P : Reply → Option Grant → Type 0) (ways : Ways e r w h nb P) where
  -- ---- a small need

  module _ (s : W e * nb < 256) where
    abbrev i : ℕ
    i = small_bin e nb

    own : (i < 32) × (bin_size e i ≡ nb)
    own = small_in e nb v s

    -- the code's bin number and map
    bin_is : small_bin_of (enc e nb) % 32 ≡ i
    bin_is = omega (arith, own.0)

    map_is : map_of small r ≡ (decode r).small_map
    map_is = ap (λ m. m % 2 ^ 32) (get_map small r) ∙ mod-eq_of_lt n.near.small.marks.bound

    above : (j : ℕ) → i ≤ j → nb ≤ bin_size e j
    above j u = subst (λ z. z ≤ bin_size e j) own.1 (larger e u)
      where
        larger : (e : Edition) {a c : ℕ} → a ≤ c → bin_size e a ≤ bin_size e c
        larger wide u = u
        larger narrow u = omega arith

    within : (j x : ℕ) (xs : List ℕ) → get_or h.small j [] ≡ x ∷ xs → j < 32
    within j x xs q = ⊎_elim (λ z. false-true (ap holds_some (sym (get_or-eq_default h.small [] {n = j} (omega (arith, z, n.near.small.marks.count))) ∙ q))) (λ z. z) (le_or_lt 32 j)

    trie_way : P (small_tree e r w (enc e nb) (best_above e r w 0 (enc e nb))) (from_trie e h (best_from h 0 nb) nb)
    unfolding small_tree
    trie_way = ⊎_elim found missed (best_above_is e r w h n 0 nb (omega arith))
      where
        b : Best
        b = best_above e r w 0 (enc e nb)

        c : Cand
        c = best_from h 0 nb

        found : Finds e nb b c → P (pick (eqb b.at (no_link e)) (malloc_top e r w (enc e nb)) (take_tree e to_dv r w (enc e nb) b)) (from_trie e h c nb)
        found g =
            rw ((ne_eqb b.at (no_link e) (λ z. none_free e c.at (sym g.place ∙ z))), (lt-ltb c.size huge g.found))
            (⊎_elim (λ f. ways.tree to_dv b c g f) (λ m. false-true (sym m.missed ∙ lt-ltb c.size huge g.found)) (small_find e (state (decode r) w) h n.near nb s))

        missed : (b ≡ no_best e) × (c ≡ start 0 huge) → P (pick (eqb b.at (no_link e)) (malloc_top e r w (enc e nb)) (take_tree e to_dv r w (enc e nb) b)) (from_trie e h c nb)
        missed m =
            rw ((eq-eqb b.at (no_link e) (ap (λ (x : Best). x.at) m.0)), (le-ltb c.size huge (omega (arith, ap (λ (x : Cand). x.size) m.1))))
            ways.top

    next_way : P (malloc_fuller e r w (enc e nb)) (fuller e h nb)
    unfolding malloc_fuller
    next_way =
        rw (bin_is, map_is, first_agrees holds_some [] (decode r).small_map i h.small n.near.small.marks (omega (arith, own.0))) (go (get_or h.small j []) refl)
      where
        j : ℕ
        j = first_filled holds_some i 0 h.small

        fb : FirstBin 32 (filled_at holds_some [] h.small) i j
        fb = first_is holds_some [] i h.small n.near.small.marks.count (omega (arith, own.0))

        go : (ps : List ℕ) → get_or h.small j [] ≡ ps
            → P (pick (ltb j 32) (take_fuller e r w j (enc e nb)) (small_tree e r w (enc e nb) (best_above e r w 0 (enc e nb)))) (from_fuller e h j ps nb)
        go [] q =
            let z : ltb j 32 ≡ false = ⊎_elim (λ u. le-ltb j 32 u) (λ u. false-true (sym (ap holds_some q) ∙ fb.filled u)) (le_or_lt 32 j) in
            subst (λ (b : Bool). P (pick b (take_fuller e r w j (enc e nb)) (small_tree e r w (enc e nb) (best_above e r w 0 (enc e nb)))) (from_trie e h (best_from h 0 nb) nb)) (sym z) trie_way
        go (x ∷ xs) q =
            let k = within j x xs q in
            subst (λ (b : Bool). P (pick b (take_fuller e r w j (enc e nb)) (small_tree e r w (enc e nb) (best_above e r w 0 (enc e nb)))) (some (from_bin e to_dv h x (bin_size e j) nb))) (sym (lt-ltb j 32 k))
            (ways.cut j x xs k q (above j fb.from))

    -- the code's bin: the need's own, the next one up, or 32
    own_is : M.own_or_next 32 (decode r).small_map i ≡ pick (holds_some (get_or h.small i [])) i (pick (holds_some (get_or h.small (suc i) [])) (suc i) 32)
    unfolding M.own_or_next
    own_is =
        ap (λ b. pick b i (pick (eqb (bit (i + 1) m) 1) (i + 1) 32)) (newest.bit_small e (state (decode r) w) h n.near i own.0)
        ∙ ap (λ k. pick (holds_some (get_or h.small i [])) i (pick (eqb (bit k m) 1) k 32)) (let q : i + 1 ≡ suc i = omega arith in q)
        ∙ ap (λ b. pick (holds_some (get_or h.small i [])) i (pick b (suc i) 32)) up
      where
        m : ℕ
        m = (decode r).small_map

        up : eqb (bit (suc i) m) 1 ≡ holds_some (get_or h.small (suc i) [])
        up =
            ⊎_elim (λ z. ne_eqb (bit (suc i) m) 1 (λ y. omega (arith, past z)) ∙ sym (ap holds_some (get_or-eq_default h.small [] {n = suc i} (omega (arith, z, n.near.small.marks.count)))))
            (λ z. newest.bit_small e (state (decode r) w) h n.near (suc i) z) (le_or_lt 32 (suc i))
          where
            past : 32 ≤ suc i → bit (suc i) m ≡ 0
            past z = let q : suc i ≡ 32 = omega (arith, own.0) in ap (λ k. bit k m) q ∙ bit_small 32 n.near.small.marks.bound

    small_need : P (malloc_small e r w (enc e nb)) (rule.malloc_small e h nb)
    unfolding malloc_small
    small_need = rw (bin_is, map_is, own_is) (by_own (holds_some (get_or h.small i [])) refl)
      where
        later : Reply
        later = pick (leb (enc e nb) (get_or r 3 0)) (malloc_dv e r w (enc e nb)) (malloc_fuller e r w (enc e nb))

        later_way : P later (pick (leb nb (dv_words h)) (from_dv_or_top e h nb) (fuller e h nb))
        later_way =
            follow-pick P (leb (enc e nb) (get_or r 3 0)) (leb nb (dv_words h)) (malloc_dv e r w (enc e nb)) (malloc_fuller e r w (enc e nb)) (from_dv_or_top e h nb) (fuller e h nb)
            (ap (leb (enc e nb)) (dv_size_lem e r w h [] n) ∙ leb_bytes e nb (dv_words h)) (λ _. ways.dv) (λ _. next_way)

        close : (e : Edition) → bin_size e (small_bin e nb) ≡ nb → bin_size e (suc (small_bin e nb)) < nb + 4
        close wide q = omega arith
        close narrow q = omega arith

        -- bin j, if it holds something
        from : (j : ℕ) → i ≤ j → bin_size e j < nb + 4 → (ps : List ℕ) → get_or h.small j [] ≡ ps
            → P (pick (ltb (pick (holds_some ps) j 32) 32) (take_small e r w (pick (holds_some ps) j 32)) later) (from_own e h j ps nb)
        from j u c [] q = later_way
        from j u c (x ∷ xs) q =
            let k = within j x xs q in
            subst (λ (b : Bool). P (pick b (take_small e r w j) later) (some (from_bin e to_dv h x (bin_size e j) nb))) (sym (lt-ltb j 32 k)) (ways.whole j x xs k q (above j u) c)

        by_own : (b : Bool) → holds_some (get_or h.small i []) ≡ b
            → let k = pick b i (pick (holds_some (get_or h.small (suc i) [])) (suc i) 32) in
            let j = pick b i (suc i) in
            P (pick (ltb k 32) (take_small e r w k) later) (from_own e h j (get_or h.small j []) nb)
        by_own true z =
            subst (λ (b : Bool). P (pick (ltb (pick b i 32) 32) (take_small e r w (pick b i 32)) later) (from_own e h i (get_or h.small i []) nb)) z
            (from i (omega arith) (omega (arith, own.1)) (get_or h.small i []) refl)
        by_own false z = from (suc i) (omega arith) (close e own.1) (get_or h.small (suc i) []) refl

  -- ---- a large need

  large_need : 256 ≤ W e * nb → W e * nb < huge → P (malloc_find e r w (enc e nb) (best_tree e r w (enc e nb))) (rule.malloc_large e h nb)
  unfolding malloc_find
  large_need lo hi = ⊎_elim found missed (best_tree_is e r w h n nb lo hi)
    where
      b : Best
      b = best_tree e r w (enc e nb)

      c : Cand
      c = best_large e h nb

      tree : Reply
      tree = take_tree e to_bin r w (enc e nb) b

      dv : Reply
      dv = malloc_dv e r w (enc e nb)

      size : get_or r 3 0 ≡ enc e (dv_words h)
      size = dv_size_lem e r w h [] n

      missed : (b ≡ no_best e) × (c ≡ start 0 huge)
          → P (pick (eqb b.at (no_link e)) dv (pick (ltb (get_or r 3 0) (enc e nb)) tree (pick (ltb b.rsize (get_or r 3 0 - enc e nb)) tree dv))) (rule.malloc_find e h c nb)
      missed m =
          rw ((eq-eqb b.at (no_link e) (ap (λ (x : Best). x.at) m.0)), (le-ltb c.size huge (omega (arith, ap (λ (x : Cand). x.size) m.1))))
          ways.dv

      found : Finds e nb b c
          → P (pick (eqb b.at (no_link e)) dv (pick (ltb (get_or r 3 0) (enc e nb)) tree (pick (ltb b.rsize (get_or r 3 0 - enc e nb)) tree dv))) (rule.malloc_find e h c nb)
      found g =
          rw ((ne_eqb b.at (no_link e) (λ z. none_free e c.at (sym g.place ∙ z))), (lt-ltb c.size huge g.found))
          (rw (less, closer)
          (pick_case (λ a. P a (pick (leb nb (dv_words h)) (pick (ltb c.size (dv_words h)) (some g') (from_dv_or_top e h nb)) (some g'))) (ltb (dv_words h) nb)
          (λ z. rw (lt-leb nb (dv_words h) (ltb-true (dv_words h) nb z)) from_tree)
          (λ z. let u = ltb-false (dv_words h) nb z in
          rw (le-leb nb (dv_words h) u)
          (follow-pick P (ltb (c.size - nb) (dv_words h - nb)) (ltb c.size (dv_words h)) tree dv (some g') (from_dv_or_top e h nb) (same c.size (dv_words h) g.fits u) (λ _. from_tree) (λ _. ways.dv)))))
        where
          less : ltb (get_or r 3 0) (enc e nb) ≡ ltb (dv_words h) nb
          less = ap (λ k. ltb k (enc e nb)) size ∙ ltb_bytes e (dv_words h) nb

          closer : ltb b.rsize (get_or r 3 0 - enc e nb) ≡ ltb (c.size - nb) (dv_words h - nb)
          closer = ap₂ ltb g.left (ap (λ k. k - enc e nb) size ∙ small_rest e (dv_words h) nb) ∙ ltb_bytes e (c.size - nb) (dv_words h - nb)

          g' : Grant
          g' = from_bin e to_bin h c.at c.size nb

          from_tree : P tree (some g')
          from_tree = ⊎_elim (λ f. ways.tree to_bin b c g f) (λ m. false-true (sym m.missed ∙ lt-ltb c.size huge g.found)) (best_large_lem e (state (decode r) w) h n.near nb lo hi)

          same : (x y : ℕ) → nb ≤ x → nb ≤ y → ltb (x - nb) (y - nb) ≡ ltb x y
          same x y p q = ⊎_elim (λ u. le-ltb (x - nb) (y - nb) (omega arith) ∙ sym (le-ltb x y u)) (λ u. lt-ltb (x - nb) (y - nb) (omega arith) ∙ sym (lt-ltb x y u)) (le_or_lt y x)

  -- ---- malloc, whole

  pub malloc_goes : W e * nb < huge → P (malloc_b e r w (enc e nb)) (rule.malloc e h nb)
  unfolding malloc_b
  malloc_goes hi =
      follow-pick P (ltb (enc e nb) 256) (is_small e nb) (malloc_small e r w (enc e nb)) (malloc_find e r w (enc e nb) (best_tree e r w (enc e nb))) (rule.malloc_small e h nb) (rule.malloc_large e h nb) refl
      (λ z. small_need (ltb-true (W e * nb) 256 z)) (λ z. large_need (ltb-false (W e * nb) 256 z) hi)
