-- DOCUMENT 02, (vii), IS KEPT. Fit: a large need's answer is the find of the tries, the spare chunk, or the top (`Ways`), and what the
-- find is `BestFit` of `holds` tells of the tries; every tree chunk is in one of them. Order: by `GivenBack`, and two arenas that hold the
-- same chunks agree in heads and feet. Assumes nothing.
use Rattle.std.specs.Prelude.{◌≡◌, refl, Bool, true, false, List, [], ◌∷◌, ℕ, ◌+◌, ◌*◌, ◌≤◌, ◌<◌, leb, ltb, length, get_or}
use Rattle.std.proofs.Common.{sym, ◌∙◌, ap, subst, ⊎_elim, zero-le, arith, leb-true, leb-false, ltb-true, ltb-false, le-ltb}
use Rattle.std.proofs.Math.Option.{Option, none, some}
use Rattle.std.proofs.Math.ListN.{get_or-eq_default}
use Rattle.words.specs.Logic.{pick, pick_case, false-true, le_or_lt, lt_or_le}
use Rattle.words.specs.Edition.{wide, root_mark, enc_inj}
use Rattle.words.specs.Fields.{ind_ne, ind_self, fld}
use Rattle.index.specs.Sizes.{need_words}
use Rattle.index.specs.TreeBin.{tree_index}
use Rattle.tiling.specs.Tiling.{free, size, end_of, Starts}
use Rattle.tries.specs.Tree.{leaf, All, all_map}
use Rattle.tries.specs.Members.{member_at, has_all}
use Rattle.tries.specs.Shape.{range}
use Rattle.tries.specs.Search.{Cand}
use Rattle.rules.specs.BinOf.{is_small, trie_bin, trie_bits, trie_low, InTrie, trie_is, huge}
use Rattle.rules.specs.Heap.{Heap, heap_dv}
use Rattle.rules.specs.Binning.{size_at, unbin, spare_words, dv_words}
use Rattle.rules.specs.Malloc.{Grant, to_dv, to_bin, best_large, from_bin, from_dv}
use Rattle.rules.specs.Malloc.{from_top, from_spare_or_top, from_dv_or_top, malloc_small, malloc_large, malloc}
use Rattle.rules.proofs.ReallocLaws.{some_none}
use Rattle.rules.specs.Tidy.{starts_in', starts_size}
use Rattle.rules.specs.Calls.{Malloc, granted, block_of, grant_or6, refuse, too_many}
use Rattle.holds.specs.Holds.{Control, Holds, SpareAt, in_dv}
use Rattle.holds.specs.Ops.{state}
use Rattle.holds.specs.Spot.{looked_up}
use Rattle.holds.specs.Where.{free_head, in_trie, trie_index}
use Rattle.holds.specs.Newest.{first_starts}
use Rattle.holds.specs.Rings.{ring_of, ring_has}
use Rattle.holds.specs.BestFit.{Fits, Misses, best_large_lem}
use Rattle.malloc.proofs.MallocObeys.{serve-place}
use Rattle.calls.specs.Record.{image}
use Rattle.calls.proofs.CallObeys.{even, least, low}
use Rattle.promises.specs.Promises.{says}
use Rattle.promises.specs.Requests.{TreeChunk, Empty, Fit}
use Rattle.promises.proofs.SmallFit.{At, SmallWays, at_own, at_dv, at_fuller, at_tree, at_top, nothing, small_ways}
use Rattle.promises.proofs.OrderKept.{either_order, any_order}
use Rattle.promises.proofs.RoomLaws.{one_chunk}
use Rattle.promises.proofs.GrantedBy.{By, answer, held, tidy, by_malloc}
use Rattle.promises.proofs.TheRulesKept.{place_of_lem}
use Rattle.promises.proofs.GrantsKept.{dv_of, of_dv}

-- ---- fit

-- where a large need of nb words is served: the place, if it is granted
data Ways (h : Heap) (nb : ℕ) (o : Option Grant) : Type 0 where
  by_tree : (k : Cand) → Fits wide h 0 nb k → (nb ≤ dv_words h → k.size < dv_words h) → (g : Grant) → o ≡ some g → g.place ≡ k.at
      → Ways h nb o
  by_dv : (d : ℕ) → h.dv ≡ some d → nb ≤ dv_words h → ((j : ℕ) → j < 32 → All (λ s. nb ≤ s → dv_words h ≤ s) (get_or h.tries j leaf))
      → (g : Grant) → o ≡ some g → g.place ≡ d → Ways h nb o
  by_top : dv_words h < nb → (((g : Grant) → o ≡ some g → g.place ≡ end_of 0 h.chunks)) → Ways h nb o

module _ (c : Control) (w : List ℕ) (h : Heap) (n : Holds wide c w h) where
  -- a tree chunk is in a trie: what is so of all sizes there is so of its size
  tree_size : (P : ℕ → Type 0) → ((j : ℕ) → j < 32 → All P (get_or h.tries j leaf)) → (y t : ℕ) → TreeChunk c h y t → P t
  tree_size P a y t (st, l, nd) =
      let q : is_small wide t ≡ false = le-ltb (8 * t) 256 l in
      let i = trie_index wide c w h [] n y t st q in
      let m = member_at wide (fld w) (trie_bin wide t) (root_mark wide) P y (get_or h.tries (trie_bin wide t) leaf)
      (in_trie wide c w h [] n y t st (omega (arith, other h.dv refl)) q) (a (trie_bin wide t) i.0)
      (n.tries.at (trie_bin wide t) i.0).tree in
      subst P (enc_inj wide m.0 t (omega (arith, m.1, (free_head wide c w h [] n y t st).0))) m.2
    where
      other : (d : Option ℕ) → h.dv ≡ d → in_dv d y ≡ 0
      other none q = refl
      other (some p) q = ind_ne y p (λ z. nd (of_dv c w h n y (q ∙ ap some (sym z))))

  dv_bytes : c.dv_size ≡ 8 * dv_words h
  dv_bytes = go h.dv n.spare
    where
      go : (d : Option ℕ) → SpareAt wide c.dv c.dv_size h.chunks d → c.dv_size ≡ 8 * spare_words h.chunks d
      go none s = s.1
      go (some p) s = s.3 ∙ ap (λ z. 8 * z) (sym (looked_up wide (state c w) h [] p s.0 n s.1))

  not_dv : (x : ℕ) → in_dv h.dv x ≡ 0 → h.dv ≡ some x → ⊥
  not_dv x z q = omega (arith, z, ap (λ d. in_dv d x) q, ind_self x)

  module _ (nb : ℕ) (lo : 256 ≤ 8 * nb) where
    abbrev find : Cand
    find = best_large wide h nb

    top_place : (g : Grant) → from_top h nb ≡ some g → g.place ≡ end_of 0 h.chunks
    top_place g =
        pick_case (λ (o : Option Grant). o ≡ some g → g.place ≡ end_of 0 h.chunks) (ltb nb h.top) (λ _ q. sym (ap place_of_lem q))
        (λ _ q. some_none (sym q))

    dv_or_top : (nb ≤ dv_words h → (j : ℕ) → j < 32 → All (λ s. nb ≤ s → dv_words h ≤ s) (get_or h.tries j leaf))
        → Ways h nb (from_dv_or_top wide h nb)
    dv_or_top f = go h.dv refl
      where
        go : (d : Option ℕ) → h.dv ≡ d → Ways h nb (from_spare_or_top wide h d nb)
        go none q = by_top (let z : dv_words h ≡ 0 = ap (spare_words h.chunks) q in omega (arith, z, lo)) top_place
        go (some d) q =
            let z : dv_words h ≡ size_at 0 h.chunks d = ap (spare_words h.chunks) q in
            pick_case (Ways h nb) (leb nb (size_at 0 h.chunks d))
            (λ u. let k : nb ≤ dv_words h = omega (arith, z, leb-true nb (size_at 0 h.chunks d) u) in
            by_dv d q k (f k) (from_dv wide h d nb) refl (serve-place wide to_dv (heap_dv h none) d (size_at 0 h.chunks d) nb))
            (λ u. by_top (omega (arith, z, leb-false nb (size_at 0 h.chunks d) u)) top_place)

    from_tree : Fits wide h 0 nb find → (nb ≤ dv_words h → find.size < dv_words h)
        → Ways h nb (some (from_bin wide to_bin h find.at find.size nb))
    from_tree f l =
        by_tree find f l (from_bin wide to_bin h find.at find.size nb) refl
        (serve-place wide to_bin (unbin wide h find.at find.size) find.at find.size nb)

    found : Fits wide h 0 nb find → Ways h nb (malloc_large wide h nb)
    found f =
        pick_case (Ways h nb) (ltb find.size huge)
        (λ _. pick_case (Ways h nb) (leb nb (dv_words h))
        (λ _. pick_case (Ways h nb) (ltb find.size (dv_words h)) (λ y. from_tree f (λ _. ltb-true find.size (dv_words h) y))
        (λ y. dv_or_top (λ _ j l. all_map (λ s u v. let a : dv_words h ≤ s = omega
        (arith, u v, ltb-false find.size (dv_words h) y) in a) (get_or h.tries j leaf) (f.least j zero-le l))))
        (λ z. from_tree f (λ u. absurd (let b : ⊥ = omega (arith, u, leb-false nb (dv_words h) z) in b))))
        (λ z. false-true (sym z ∙ f.found))

    missed : Misses wide h 0 nb find → Ways h nb (malloc_large wide h nb)
    missed m =
        pick_case (Ways h nb) (ltb find.size huge) (λ z. false-true (sym m.missed ∙ z))
        (λ _. dv_or_top (λ _ j l. all_map (λ s u v. absurd (let b : ⊥ = omega (arith, u, v) in b)) (get_or h.tries j leaf)
        (m.small j zero-le l)))

    ways : 8 * nb < huge → Ways h nb (malloc wide h nb)
    ways hi =
        subst (λ (b : Bool). Ways h nb (pick b (malloc_small wide h nb) (malloc_large wide h nb))) (sym (le-ltb (8 * nb) 256 lo))
        (⊎_elim found missed (best_large_lem wide (state c w) h n nb lo hi))

  ways_of : (x : ℕ) → 256 ≤ 8 * need_words 8 x → x ≤ 8 * length w → Ways h (need_words 8 x) (malloc wide h (need_words 8 x))
  ways_of x lo l = ways (need_words 8 x) lo (low wide (image c) w h (held c w h n) x l)

  -- a free chunk starts before the top
  before_top : (x s : ℕ) → Starts 0 h.chunks x (free s) → x ≡ end_of 0 h.chunks → ⊥
  before_top x s st z =
      omega (arith, z, starts_in' 0 h.chunks x (free s) st, starts_size true 0 h.chunks x (free s) (tidy c w h n).chunks st)

  best-fit : (x y s : ℕ) → 256 ≤ 8 * need_words 8 x → Starts 0 h.chunks y (free s) → says c w (Malloc x) ≡ granted (block_of wide y)
      → (c.dv ≡ 8 * y → ⊥)
      → (z t : ℕ) → TreeChunk c h z t → need_words 8 x ≤ t → s ≤ t
  best-fit x y s lo st u nd z t tc fit = go (ways_of x lo b.0)
    where
      b : (x ≤ 8 * length w) × By c w h n (Malloc x) (block_of wide y) (malloc wide h (need_words 8 x))
      b = by_malloc c w h n x (block_of wide y) u

      at : (g : Grant) → malloc wide h (need_words 8 x) ≡ some g → g.place ≡ y
      at g q = omega (arith, b.1.place, ap place_of_lem (sym q ∙ b.1.is))

      go : Ways h (need_words 8 x) (malloc wide h (need_words 8 x)) → s ≤ t
      go (by_tree k f l g q p) =
          let e : k.at ≡ y = sym p ∙ at g q in
          let r : s ≡ k.size = ap size (one_chunk h (tidy c w h n) y (free s) (free k.size) st
          (subst (λ (a : ℕ). Starts 0 h.chunks a (free k.size)) e f.starts)) in
          omega (arith, r, tree_size (λ a. need_words 8 x ≤ a → k.size ≤ a) (λ j m. f.least j zero-le m) z t tc fit)
      go (by_dv d q l a g r p) = absurd (nd (of_dv c w h n y (q ∙ ap some (sym p ∙ at g r))))
      go (by_top l f) = absurd (before_top y s st (sym (at b.1.grant b.1.is) ∙ f b.1.grant b.1.is))

  -- ---- exactly `dv`

  abbrev DvServes : ℕ → Type 0
  DvServes x =
      (x ≤ 8 * length w) × (8 * need_words 8 x ≤ c.dv_size) × ((y t : ℕ) → TreeChunk c h y t → need_words 8 x ≤ t → 8 * t < c.dv_size → ⊥)

  spare_starts : (d : ℕ) → h.dv ≡ some d → (s : ℕ) × Starts 0 h.chunks d (free s)
  spare_starts d q = let z = subst (λ e. SpareAt wide c.dv c.dv_size h.chunks e) q n.spare in (z.0, z.1)

  dv_forth : (x : ℕ) → 256 ≤ 8 * need_words 8 x → says c w (Malloc x) ≡ granted (c.dv + 16) → DvServes x
  dv_forth x lo u = go (ways_of x lo b.0)
    where
      b : (x ≤ 8 * length w) × By c w h n (Malloc x) (c.dv + 16) (malloc wide h (need_words 8 x))
      b = by_malloc c w h n x (c.dv + 16) u

      spare : h.dv ≡ some b.1.grant.place
      spare = dv_of c w h n b.1.grant.place (let z : c.dv ≡ 8 * b.1.grant.place = omega (arith, b.1.place) in z)

      at : (g : Grant) → malloc wide h (need_words 8 x) ≡ some g → g.place ≡ b.1.grant.place
      at g q = ap place_of_lem (sym q ∙ b.1.is)

      go : Ways h (need_words 8 x) (malloc wide h (need_words 8 x)) → DvServes x
      go (by_tree k f l g q p) = absurd (not_dv k.at f.not_dv (spare ∙ ap some (sym (at g q) ∙ p)))
      go (by_dv d q l a g r p) = (
        b.0,
        let z : 8 * need_words 8 x ≤ c.dv_size = omega (arith, l, dv_bytes) in z,
        λ y t tc fit less. omega (arith, less, dv_bytes, tree_size (λ s. need_words 8 x ≤ s → dv_words h ≤ s) a y t tc fit),
      )
      go (by_top l f) =
          let s = spare_starts b.1.grant.place spare in
          absurd (before_top b.1.grant.place s.0 s.1 (f b.1.grant b.1.is))

  told : (x : ℕ) → x ≤ 8 * length w → (g : Grant) → malloc wide h (need_words 8 x) ≡ some g
      → says c w (Malloc x) ≡ granted (block_of wide g.place)
  told x l g q =
      answer c w h n (Malloc x)
      ∙ ap (λ b. (pick b (refuse h too_many) (grant_or6 wide h (malloc wide h (need_words 8 x)))).answer) (le-ltb (8 * length w) x l)
      ∙ ap (λ o. (grant_or6 wide h o).answer) q

  dv_back : (x : ℕ) → 256 ≤ 8 * need_words 8 x → DvServes x → says c w (Malloc x) ≡ granted (c.dv + 16)
  dv_back x lo (l, fit, none_better) = go (ways_of x lo l)
    where
      go : Ways h (need_words 8 x) (malloc wide h (need_words 8 x)) → says c w (Malloc x) ≡ granted (c.dv + 16)
      go (by_tree k f less g q p) =
          let s : k.size < dv_words h = less (omega (arith, fit, dv_bytes)) in
          absurd (none_better k.at k.size (f.starts, f.tall, λ z. not_dv k.at f.not_dv (dv_of c w h n k.at z)) f.large
          (let z : 8 * k.size < c.dv_size = omega (arith, s, dv_bytes) in z))
      go (by_dv d q a e g r p) =
          told x l g r ∙ ap granted (let z : 8 * (g.place + 2) ≡ c.dv + 16 = omega (arith, p, of_dv c w h n d q) in z)
      go (by_top a f) = absurd (let z : ⊥ = omega (arith, a, fit, dv_bytes) in z)

  -- ---- a small need

  -- the newest of a list
  abbrev newest : List ℕ → ℕ
  newest [] = 0
  newest (p ∷ ps) = p

  -- a find is a tree chunk
  find_tree : (nb : ℕ) (k : Cand) → Fits wide h 0 nb k → TreeChunk c h k.at k.size
  find_tree nb k f = (f.starts, f.tall, λ z. not_dv k.at f.not_dv (dv_of c w h n k.at z))

  module _ (x : ℕ) (s : 8 * need_words 8 x < 256) (l : x ≤ 8 * length w) where
    abbrev nb : ℕ
    nb = need_words 8 x

    small : SmallWays h nb (malloc wide h nb)
    small = small_ways c w h n nb (even wide (image c) w h (held c w h n) x l) (least wide (image c) w h (held c w h n) x l) s

    grants : (y : ℕ) → At (malloc wide h nb) y → says c w (Malloc x) ≡ granted (block_of wide y)
    grants y (g, q, p) = told x l g q ∙ ap (λ z. granted (block_of wide z)) p

    first_is : (j j' y z : ℕ) (ys zs : List ℕ) → j ≡ j' → get_or h.small j [] ≡ y ∷ ys → get_or h.small j' [] ≡ z ∷ zs → y ≡ z
    first_is j j' y z ys zs e q r = ap newest (sym q ∙ ap (λ k. get_or h.small k []) e ∙ r)

    -- its own bin is the first of an empty stretch
    bare : (j : ℕ) → nb < j → Empty h nb j → get_or h.small nb [] ≡ []
    bare j u e = e nb (let z : nb ≤ nb = omega arith in z) u

    too_small : {A : Type 0} → dv_words h < nb → 8 * nb ≤ c.dv_size → A
    too_small a b = absurd (let z : ⊥ = omega (arith, a, b, dv_bytes) in z)

    small_own : (y : ℕ) (ys : List ℕ) → get_or h.small nb [] ≡ y ∷ ys → says c w (Malloc x) ≡ granted (block_of wide y)
    small_own y ys q = go small
      where
        go : SmallWays h nb (malloc wide h nb) → says c w (Malloc x) ≡ granted (block_of wide y)
        go (at_own z zs r a) = grants z a ∙ ap (λ k. granted (block_of wide k)) (first_is nb nb z y zs ys refl r q)
        go (at_dv d r f e a) = nothing (get_or h.small nb []) r q
        go (at_fuller j z zs r f u v e p a) = nothing (get_or h.small nb []) r q
        go (at_tree k f e t a) = nothing (get_or h.small nb []) (bare 32 (omega (arith, s)) e) q
        go (at_top k f e m a) = nothing (get_or h.small nb []) (bare 32 (omega (arith, s)) e) q

    small_dv : get_or h.small nb [] ≡ [] → 8 * nb ≤ c.dv_size → says c w (Malloc x) ≡ granted (c.dv + 16)
    small_dv q fit = go small
      where
        go : SmallWays h nb (malloc wide h nb) → says c w (Malloc x) ≡ granted (c.dv + 16)
        go (at_own z zs r a) = nothing (get_or h.small nb []) q r
        go (at_dv d r f e a) = grants d a ∙ ap granted (let z : 8 * (d + 2) ≡ c.dv + 16 = omega (arith, of_dv c w h n d e) in z)
        go (at_fuller j z zs r f u v e p a) = too_small f fit
        go (at_tree k f e t a) = too_small f fit
        go (at_top k f e m a) = too_small f fit

    small_fuller : (j y : ℕ) (ys : List ℕ) → c.dv_size < 8 * nb → nb < j → j < 32 → Empty h nb j → get_or h.small j [] ≡ y ∷ ys
        → says c w (Malloc x) ≡ granted (block_of wide y)
    small_fuller j y ys less lo hi e q = go small
      where
        go : SmallWays h nb (malloc wide h nb) → says c w (Malloc x) ≡ granted (block_of wide y)
        go (at_own z zs r a) = nothing (get_or h.small nb []) (bare j lo e) r
        go (at_dv d r f g a) = absurd (let z : ⊥ = omega (arith, f, less, dv_bytes) in z)
        go (at_fuller i z zs r f u v g p a) =
            ⊎_elim (λ m. nothing (get_or h.small i []) (e i u m) p)
            (λ m. ⊎_elim (λ k. nothing (get_or h.small j []) (g j (omega (arith, lo)) k) q)
            (λ k. grants z a ∙ ap (λ b. granted (block_of wide b))
            (first_is i j z y zs ys (let b : i ≡ j = omega (arith, m, k) in b) p q)) (lt_or_le j i)) (lt_or_le i j)
        go (at_tree k f g t a) = nothing (get_or h.small j []) (g j (omega (arith, lo)) hi) q
        go (at_top k f g m a) = nothing (get_or h.small j []) (g j (omega (arith, lo)) hi) q

    abbrev Smallest : Type 0
    Smallest =
        (y : ℕ) × (t : ℕ) × TreeChunk c h y t × (says c w (Malloc x) ≡ granted (block_of wide y)) × ((z u : ℕ) → TreeChunk c h z u → t ≤ u)

    small_tree : (y t : ℕ) → c.dv_size < 8 * nb → Empty h nb 32 → TreeChunk c h y t → Smallest
    small_tree y t less e tc = go small
      where
        go : SmallWays h nb (malloc wide h nb) → Smallest
        go (at_own z zs r a) = nothing (get_or h.small nb []) (bare 32 (omega (arith, s)) e) r
        go (at_dv d r f g a) = absurd (let z : ⊥ = omega (arith, f, less, dv_bytes) in z)
        go (at_fuller i z zs r f u v g p a) = nothing (get_or h.small i []) (e i u v) p
        go (at_tree k f g b a) = (
          k.at,
          k.size,
          find_tree nb k b,
          grants k.at a,
          λ z u v. tree_size (λ m. nb ≤ m → k.size ≤ m) (λ j i. b.least j zero-le i) z u v (omega (arith, s, v.1)),
        )
        go (at_top k f g m a) =
            absurd (let z : ⊥ = omega (arith, s, tc.1, tree_size (λ i. i < nb) (λ j i. m.small j zero-le i) y t tc) in z)

  -- ---- the oldest of its size

  abbrev Oldest : ℕ → ℕ → Type 0
  Oldest y s = (ps : List ℕ) × (ring_of s (get_or h.tries (tree_index (8 * s)) leaf) ≡ y ∷ ps)

  find-oldest : (m : ℕ) (k : Cand) → Fits wide h 0 m k → Oldest k.at k.size
  find-oldest m k f =
      let j = f.there.0 in
      let i = f.there.1 in
      let sh = (n.tries.at j i).shape in
      let b : InTrie wide j k.size = has_all (InTrie wide j) k.at k.size (get_or h.tries j leaf)
      (range (trie_bits wide j) (trie_low wide j) (get_or h.tries j leaf) sh) f.there.2 in
      subst (λ z. (ps : List ℕ) × (ring_of k.size (get_or h.tries z leaf) ≡ k.at ∷ ps)) (sym (trie_is wide j k.size i b))
      (ring_has (trie_bits wide j) (trie_low wide j) k.at k.size (get_or h.tries j leaf) sh f.there.2)

  oldest : (x y s : ℕ) → says c w (Malloc x) ≡ granted (block_of wide y) → TreeChunk c h y s → Oldest y s
  oldest x y s u tc = ⊎_elim (λ v. in_small_lem (small x v b.0)) (λ v. in_large (ways_of x v b.0)) (lt_or_le (8 * need_words 8 x) 256)
    where
      b : (x ≤ 8 * length w) × By c w h n (Malloc x) (block_of wide y) (malloc wide h (need_words 8 x))
      b = by_malloc c w h n x (block_of wide y) u

      at : (g : Grant) → malloc wide h (need_words 8 x) ≡ some g → g.place ≡ y
      at g q = omega (arith, b.1.place, ap place_of_lem (sym q ∙ b.1.is))

      here : (z : ℕ) → At (malloc wide h (need_words 8 x)) z → z ≡ y
      here z (g, q, p) = sym p ∙ at g q

      of_find : (k : Cand) → Fits wide h 0 (need_words 8 x) k → k.at ≡ y → Oldest y s
      of_find k f e =
          let r : k.size ≡ s = ap size (one_chunk h (tidy c w h n) y (free k.size) (free s)
          (subst (λ (a : ℕ). Starts 0 h.chunks a (free k.size)) e f.starts) tc.0) in
          subst (λ a. Oldest y a) r (subst (λ a. Oldest a k.size) e (find-oldest (need_words 8 x) k f))

      -- the newest of a small bin has less than 256 bytes
      binned : (j z : ℕ) (zs : List ℕ) → j < 32 → get_or h.small j [] ≡ z ∷ zs → z ≡ y → Oldest y s
      binned j z zs l q e =
          absurd (let a : ⊥ = omega (
            arith,
            l,
            tc.1,
            ap size (one_chunk h (tidy c w h n) y (free j) (free s)
                (subst (λ (a : ℕ). Starts 0 h.chunks a (free j)) e (first_starts wide (state c w) h n j l z zs q)) tc.0),
          ) in a)

      by_spare : (d : ℕ) → h.dv ≡ some d → d ≡ y → Oldest y s
      by_spare d q e = absurd (tc.2 (of_dv c w h n y (q ∙ ap some e)))

      by_end : ((g : Grant) → malloc wide h (need_words 8 x) ≡ some g → g.place ≡ end_of 0 h.chunks) → Oldest y s
      by_end f = absurd (before_top y s tc.0 (sym (at b.1.grant b.1.is) ∙ f b.1.grant b.1.is))

      in_large : Ways h (need_words 8 x) (malloc wide h (need_words 8 x)) → Oldest y s
      in_large (by_tree k f l g q p) = of_find k f (sym p ∙ at g q)
      in_large (by_dv d q l a g r p) = by_spare d q (sym p ∙ at g r)
      in_large (by_top l f) = by_end f

      in_small_lem : SmallWays h (need_words 8 x) (malloc wide h (need_words 8 x)) → Oldest y s
      in_small_lem (at_own z zs r a) = binned (need_words 8 x) z zs (own_low z zs r) r (here z a)
        where
          own_low : (z : ℕ) (zs : List ℕ) → get_or h.small (need_words 8 x) [] ≡ z ∷ zs → need_words 8 x < 32
          own_low z zs r =
              ⊎_elim (λ k. nothing (get_or h.small (need_words 8 x) [])
              (get_or-eq_default h.small [] {n = need_words 8 x} (omega (arith, k, n.small.marks.count))) r) (λ k. k)
              (le_or_lt 32 (need_words 8 x))
      in_small_lem (at_dv d r f e a) = by_spare d e (here d a)
      in_small_lem (at_fuller j z zs r f u v e p a) = binned j z zs v p (here z a)
      in_small_lem (at_tree k f e t a) = of_find k t (here k.at a)
      in_small_lem (at_top k f e m a) = by_end a

-- ---- all of it

pub fit : Fit
fit =
    record {
      best-fit = λ c w h x y s lo v nd z t tc l. best-fit c w h v.0 x y s lo v.1 v.2 nd z t tc l;
      dv_exactly = λ c w h x n lo. (dv_forth c w h n x lo, dv_back c w h n x lo);
      oldest = λ c w h x y s v tc. oldest c w h v.0 x y s v.2 tc;
      small_own = λ c w h x y ys n s l q. small_own c w h n x s l y ys q;
      small_dv = λ c w h x n s l q d. small_dv c w h n x s l q d;
      small_fuller = λ c w h x j y ys n s l d lo hi e q. small_fuller c w h n x s l j y ys d lo hi e q;
      small_tree = λ c w h x y t n s l d e tc. small_tree c w h n x s l y t d e tc;
      either_order = either_order;
      any_order = λ c w h offs offs' n q. any_order c w h n offs offs' q;
    }
