-- WHERE A SMALL NEED IS SERVED, with the condition of each way: its own bin's newest, the spare chunk, the newest of the next fuller bin,
-- the find of the tries, or the top. One walk over the rule's cases (`malloc_small`) on a held heap. Assumes nothing.
use Rattle.std.specs.Prelude.{◌≡◌, refl, Bool, false, List, [], ◌∷◌, ℕ, suc, ◌*◌, ◌%◌, ◌≤◌, ◌<◌, leb, ltb, get_or}
use Rattle.std.proofs.Common.{sym, ◌∙◌, ap, subst, ⊎_elim, arith, leb-true, leb-false, lt-ltb}
use Rattle.std.proofs.Math.Option.{Option, none, some}
use Rattle.std.proofs.Math.ListN.{get_or-eq_default}
use Rattle.words.specs.Logic.{pick, pick_case, false-true, le_or_lt}
use Rattle.words.specs.Edition.{wide}
use Rattle.index.specs.BinMap.{FirstBin}
use Rattle.index.specs.MapOfBins as M
use Rattle.tiling.specs.Tiling.{free, end_of, Starts}
use Rattle.tries.specs.Search.{Cand}
use Rattle.rules.specs.BinOf.{small_bin, huge}
use Rattle.rules.specs.Heap.{Heap, holds_some, heap_dv}
use Rattle.rules.specs.Binning.{size_at, unbin, spare_words, dv_words}
use Rattle.rules.specs.Malloc.{Grant, to_dv, from_bin, from_dv, from_top, from_spare_or_top, from_dv_or_top, first_filled}
use Rattle.rules.specs.Malloc.{best_from, from_fuller, fuller, own_or_next, from_own, malloc_small, malloc_large, malloc}
use Rattle.rules.proofs.ReallocLaws.{some_none}
use Rattle.holds.specs.Holds.{Control, Holds}
use Rattle.holds.specs.Ops.{state}
use Rattle.holds.specs.Where.{free_head}
use Rattle.holds.specs.FirstBin.{first_is}
use Rattle.holds.specs.Newest.{first_starts}
use Rattle.holds.specs.BestFit.{Fits, Misses, small_find}
use Rattle.malloc.proofs.MallocObeys.{serve-place}
use Rattle.promises.specs.Requests.{Empty}
use Rattle.promises.proofs.TheRulesKept.{place_of_lem}

-- the place p is granted
abbrev pub At : Option Grant → ℕ → Type 0
At o p = (g : Grant) × (o ≡ some g) × (g.place ≡ p)

pub data SmallWays (h : Heap) (nb : ℕ) (o : Option Grant) : Type 0 where
  at_own : (x : ℕ) (xs : List ℕ) → get_or h.small nb [] ≡ x ∷ xs → At o x → SmallWays h nb o
  at_dv : (d : ℕ) → get_or h.small nb [] ≡ [] → nb ≤ dv_words h → h.dv ≡ some d → At o d → SmallWays h nb o
  at_fuller : (j x : ℕ) (xs : List ℕ) → get_or h.small nb [] ≡ [] → dv_words h < nb → nb ≤ j → j < 32 → Empty h nb j
      → get_or h.small j [] ≡ x ∷ xs → At o x → SmallWays h nb o
  at_tree : (k : Cand) → dv_words h < nb → Empty h nb 32 → Fits wide h 0 nb k → At o k.at → SmallWays h nb o
  at_top : (k : Cand) → dv_words h < nb → Empty h nb 32 → Misses wide h 0 nb k
      → ((g : Grant) → o ≡ some g → g.place ≡ end_of 0 h.chunks) → SmallWays h nb o

-- a list that holds nothing
pub nothing : {A : Type 0} {x : ℕ} {xs : List ℕ} (ps : List ℕ) → ps ≡ [] → ps ≡ x ∷ xs → A
nothing ps q r = false-true (sym (ap holds_some q) ∙ ap holds_some r)

module _ (c : Control) (w : List ℕ) (h : Heap) (n : Holds wide c w h) (nb : ℕ) (v : nb % 2 ≡ 0) (l : 4 ≤ nb) (s : 8 * nb < 256) where
  abbrev own : ℕ
  own = small_bin wide nb

  own_is : own ≡ nb
  own_is = omega arith

  bin_at : (j x : ℕ) → At (some (from_bin wide to_dv h x j nb)) x
  bin_at j x = (from_bin wide to_dv h x j nb, refl, serve-place wide to_dv (unbin wide h x j) x j nb)

  top_place : (g : Grant) → from_top h nb ≡ some g → g.place ≡ end_of 0 h.chunks
  top_place g =
      pick_case (λ (o : Option Grant). o ≡ some g → g.place ≡ end_of 0 h.chunks) (ltb nb h.top) (λ _ q. sym (ap place_of_lem q))
      (λ _ q. some_none (sym q))

  -- no chunk has an odd number of words
  next_empty : (ps : List ℕ) → get_or h.small (suc nb) [] ≡ ps → ps ≡ []
  next_empty [] q = refl
  next_empty (x ∷ xs) q =
      let st : Starts 0 h.chunks x (free (suc nb)) = first_starts wide (state c w) h n (suc nb) (omega arith) x xs q in
      absurd (let b : ⊥ = omega (arith, v, (free_head wide c w h [] n x (suc nb) st).2) in b)

  from_dv_lem : get_or h.small nb [] ≡ [] → nb ≤ dv_words h → SmallWays h nb (from_dv_or_top wide h nb)
  from_dv_lem bare fit = go h.dv refl
    where
      go : (d : Option ℕ) → h.dv ≡ d → SmallWays h nb (from_spare_or_top wide h d nb)
      go none q = absurd (let z : dv_words h ≡ 0 = ap (spare_words h.chunks) q in let b : ⊥ = omega (arith, z, fit, l) in b)
      go (some d) q =
          let z : dv_words h ≡ size_at 0 h.chunks d = ap (spare_words h.chunks) q in
          pick_case (SmallWays h nb) (leb nb (size_at 0 h.chunks d))
          (λ _. at_dv d bare fit q (from_dv wide h d nb, refl, serve-place wide to_dv (heap_dv h none) d (size_at 0 h.chunks d) nb))
          (λ u. absurd (let b : ⊥ = omega (arith, z, fit, leb-false nb (size_at 0 h.chunks d) u) in b))

  from_fuller_lem : get_or h.small nb [] ≡ [] → dv_words h < nb → SmallWays h nb (fuller wide h nb)
  from_fuller_lem bare less =
      subst (λ i. SmallWays h nb (from_fuller wide h (first_filled holds_some i 0 h.small)
      (get_or h.small (first_filled holds_some i 0 h.small) []) nb)) (sym own_is)
      (go (get_or h.small j []) refl)
    where
      j : ℕ
      j = first_filled holds_some nb 0 h.small

      fb : FirstBin 32 (M.filled_at holds_some [] h.small) nb j
      fb = first_is holds_some [] nb h.small n.small.marks.count (omega arith)

      hollow : (ps : List ℕ) → holds_some ps ≡ false → ps ≡ []
      hollow [] z = refl
      hollow (x ∷ xs) z = false-true (sym z)

      empty : Empty h nb j
      empty k a b = hollow (get_or h.small k []) (fb.empty k a b)

      go : (ps : List ℕ) → get_or h.small j [] ≡ ps → SmallWays h nb (from_fuller wide h j ps nb)
      go (x ∷ xs) q = at_fuller j x xs bare less fb.from within empty q (bin_at j x)
        where
          within : j < 32
          within =
              ⊎_elim (λ z. nothing (get_or h.small j [])
              (get_or-eq_default h.small [] {n = j} (omega (arith, z, n.small.marks.count))) q) (λ z. z) (le_or_lt 32 j)
      go [] q =
          ⊎_elim (λ f. pick_case (SmallWays h nb) (ltb k.size huge)
          (λ _. at_tree k less all f (
            from_bin wide to_dv h k.at k.size nb,
            refl,
            serve-place wide to_dv
                (unbin wide h k.at k.size) k.at k.size nb,
          ))
          (λ z. false-true (sym z ∙ f.found)))
          (λ m. pick_case (SmallWays h nb) (ltb k.size huge) (λ z. false-true (sym m.missed ∙ z))
          (λ _. at_top k less all m top_place))
          (small_find wide (state c w) h n nb s)
        where
          k : Cand
          k = best_from h 0 nb

          last : 32 ≤ j
          last = ⊎_elim (λ u. u) (λ u. false-true (sym (ap holds_some q) ∙ fb.filled u)) (le_or_lt 32 j)

          all : Empty h nb 32
          all i a b = empty i a (omega (arith, b, last))

  from_own_lem : (ps : List ℕ) → get_or h.small nb [] ≡ ps
      → let j = own_or_next h.small nb in SmallWays h nb (from_own wide h j (get_or h.small j []) nb)
  from_own_lem (x ∷ xs) q =
      let e : own_or_next h.small nb ≡ nb = ap (λ (b : Bool). pick b nb (suc nb)) (ap holds_some q) in
      subst (λ j. SmallWays h nb (from_own wide h j (get_or h.small j []) nb)) (sym e)
      (subst (λ ps. SmallWays h nb (from_own wide h nb ps nb)) (sym q) (at_own x xs q (bin_at nb x)))
  from_own_lem [] q =
      let e : own_or_next h.small nb ≡ suc nb = ap (λ (b : Bool). pick b nb (suc nb)) (ap holds_some q) in
      subst (λ j. SmallWays h nb (from_own wide h j (get_or h.small j []) nb)) (sym e)
      (subst (λ ps. SmallWays h nb (from_own wide h (suc nb) ps nb)) (sym (next_empty (get_or h.small (suc nb) []) refl))
      (pick_case (SmallWays h nb) (leb nb (dv_words h)) (λ z. from_dv_lem q (leb-true nb (dv_words h) z))
      (λ z. from_fuller_lem q (leb-false nb (dv_words h) z))))

  pub small_ways : SmallWays h nb (malloc wide h nb)
  small_ways =
      subst (λ (b : Bool). SmallWays h nb (pick b (malloc_small wide h nb) (malloc_large wide h nb))) (sym (lt-ltb (8 * nb) 256 s))
      (subst (λ i. SmallWays h nb (from_own wide h (own_or_next h.small i) (get_or h.small (own_or_next h.small i) []) nb)) (sym own_is)
      (from_own_lem (get_or h.small nb []) refl))
