-- WHAT A RESIZE THAT STAYS HAS: of what the block has to itself (its own words, or these and the free chunk behind it) the need where 4
-- words or more
-- are left over, else all of it; into the top just the need. By the three ways of the rule's in-place step. Assumes nothing.
use Rattle.std.specs.Prelude.{◌≡◌, refl, Bool, true, List, [], ◌∷◌, ◌++◌, ℕ, ◌+◌, ◌-◌, ◌*◌, ◌%◌, ◌≤◌, ◌<◌, leb, length}
use Rattle.std.proofs.Common.{sym, ◌∙◌, ap, subst, inl, inr, ⊎_elim, arith, leb-true, le-leb, lt-ltb}
use Rattle.std.proofs.Math.Option.{Option, none, some}
use Rattle.std.proofs.lemmas.Bool.{lt-leb}
use Rattle.words.specs.Logic.{pick, by}
use Rattle.words.specs.Edition.{wide, enc}
use Rattle.index.specs.Sizes.{need_words}
use Rattle.tiling.specs.Tiling.{Chunk, used, free, size, end_of, end_append, Starts}
use Rattle.rules.specs.Heap.{Heap, heap_dv, heap_chunks, heap_tiles}
use Rattle.rules.specs.Binning.{is_dv, unbin, retile}
use Rattle.rules.specs.Malloc.{Grant}
use Rattle.rules.specs.Free.{give_back}
use Rattle.rules.specs.Realloc.{shrink, grow_free, grow_in, resize_here, front}
use Rattle.rules.proofs.ReallocLaws.{here_first}
use Rattle.rules.proofs.Cutting.{keep_first}
use Rattle.rules.specs.Splice.{serve-whole}
use Rattle.rules.specs.Leaves.{unbin_leaves}
use Rattle.rules.specs.Blocks.{Granted}
use Rattle.rules.specs.Lookup.{Block}
use Rattle.rules.specs.Tidy.{TidyHeap, differ, all_free, starts_right, starts_in', starts_size}
use Rattle.rules.specs.Calls.{Realloc, block_of, answer_to}
use Rattle.holds.specs.Holds.{Control, Holds}
use Rattle.calls.specs.Record.{image}
use Rattle.calls.proofs.CallObeys.{even, least}
use Rattle.calls.specs.Histories.{box}
use Rattle.calls.proofs.Histories.{calls-held}
use Rattle.promises.specs.Promises.{LiveAt, RoomAt, left, Resizes, OwnWords}
use Rattle.promises.proofs.RoomLaws.{one_chunk, next, last, room-found}
use Rattle.promises.proofs.RowLaws.{found}
use Rattle.promises.proofs.GrantedBy.{held, tidy}
use Rattle.promises.proofs.TheRulesKept.{here, no_move}
use Rattle.promises.proofs.HistoriesKept.{live_at}
use Rattle.promises.proofs.ResizeKept.{Moved, moved}

-- "a rest of 32 or more is split off, less stays with the block": of t words
abbrev share : ℕ → ℕ → ℕ
share t nb = pick (leb 4 (t - nb)) nb t

module _ (p nb : ℕ) (v : nb % 2 ≡ 0) (l : 4 ≤ nb) where
  shrunk : (g : Heap) → TidyHeap g → (m : ℕ) → Starts 0 g.chunks p (used m) → nb ≤ m
      → Starts 0 (shrink wide g p m nb).chunks p (used (share m nb))
  shrunk g t m st fit = by
      (λ b. Starts 0 (pick b (give_back wide (heap_chunks g (retile 0 g.chunks p (used nb ∷ used (m - nb) ∷ []))) (p + nb)) g).chunks p
      (used (pick b nb m)))
      (leb 4 (m - nb))
      (λ z. let k : Granted g (give_back wide (heap_chunks g (retile 0 g.chunks p (used nb ∷ used (m - nb) ∷ []))) (p + nb)) p nb (nb + 1)
      (λ x. x ≡ p) =
      keep_first g t p m st wide nb (m - nb) (omega arith) v l (leb-true 4 (m - nb) z) nb (nb + 1) (omega arith) (omega arith) in
      subst (λ n. Starts 0 (give_back wide (heap_chunks g (retile 0 g.chunks p (used nb ∷ used (m - nb) ∷ []))) (p + nb)).chunks p
      (used n))
      (let y : k.words ≡ nb = omega (arith, k.large, k.tight) in y) k.block)
      (λ z. st)

  module _ (h : Heap) (t : TidyHeap h) (s : ℕ) (xs : List Chunk) (place : p ≡ end_of 0 xs) where
    here_starts : (n : ℕ) (ys : List Chunk) → Starts 0 (xs ++ (used n ∷ ys)) p (used n)
    here_starts n ys = starts_right 0 xs (used n ∷ ys) p (used n) (inl (place, refl))

    -- into the free chunk behind it
    grown : (b : ℕ) (ys : List Chunk) → h.chunks ≡ xs ++ (used s ∷ free b ∷ ys) → nb ≤ s + b
        → Starts 0 (grow_free wide h xs p s nb b ys).chunks p (used (share (s + b) nb))
    grown b ys q fit = by
        (λ d. Starts 0 (pick d (pick (leb 4 (s + b - nb)) cut whole) (shrink wide u p (s + b) nb)).chunks p (used (share (s + b) nb)))
        (is_dv h (p + s))
        (λ _. by (λ d. Starts 0 (pick d cut whole).chunks p (used (pick d nb (s + b)))) (leb 4 (s + b - nb))
        (λ _. here_starts nb (free (s + b - nb) ∷ ys)) (λ _. here_starts (s + b) ys))
        (λ _. shrunk u all.changes.tidy (s + b) (here_starts (s + b) ys) fit)
      where
        cut : Heap
        cut = heap_dv (heap_chunks h (xs ++ (used nb ∷ free (s + b - nb) ∷ ys))) (some (p + nb))

        whole : Heap
        whole = heap_dv (heap_chunks h (xs ++ (used (s + b) ∷ ys))) none

        u : Heap
        u = heap_chunks (unbin wide h (p + s) b) (xs ++ (used (s + b) ∷ ys))

        all : Granted h u p nb (s + b + 1) (λ x. x ≡ p)
        all =
            serve-whole h t xs (used s ∷ free b ∷ []) ys q p (s + b) place (omega arith) refl (λ x. x ≡ p)
            (λ x z. (s, inl (z ∙ place, refl)))
            (λ x n st. ⊎_elim (λ z. z.0 ∙ sym place) (λ z. absurd (all_free (end_of 0 xs + s) (free b ∷ []) x n tt z)) st)
            u nb (s + b + 1) (omega (arith, l)) fit (omega arith) refl (unbin_leaves wide h (p + s) b).2

    -- the three ways, as the rule's step takes them
    stays_here : (ys : List Chunk) → nb ≤ s → resize_here wide h xs p s nb ys ≡ some (shrink wide h p s nb)
    stays_here ys fit = ap (λ b. pick b (some (shrink wide h p s nb)) (grow_in wide h xs p s nb ys)) (le-leb nb s fit)

    grows_free : (b : ℕ) (ys : List Chunk) → s < nb → nb ≤ s + b
        → resize_here wide h xs p s nb (free b ∷ ys) ≡ some (grow_free wide h xs p s nb b ys)
    grows_free b ys m fit =
        ap (λ z. pick z (some (shrink wide h p s nb)) (grow_in wide h xs p s nb (free b ∷ ys))) (lt-leb nb s m)
        ∙ ap (λ z. pick z (some (grow_free wide h xs p s nb b ys)) none) (le-leb nb (s + b) fit)

    grows_top : s < nb → nb < s + h.top → resize_here wide h xs p s nb [] ≡ some (heap_tiles h (xs ++ (used nb ∷ [])) (s + h.top - nb))
    grows_top m room =
        ap (λ z. pick z (some (shrink wide h p s nb)) (grow_in wide h xs p s nb [])) (lt-leb nb s m)
        ∙ ap (λ z. pick z (some (heap_tiles h (xs ++ (used nb ∷ [])) (s + h.top - nb))) none) (lt-ltb nb (s + h.top) room)

    -- what stands behind the block, by what starts there
    behind-free : (b : ℕ) (ys : List Chunk) → h.chunks ≡ xs ++ (used s ∷ ys) → Starts 0 h.chunks (p + s) (free b)
        → (zs : List Chunk) × (ys ≡ free b ∷ zs)
    behind-free b [] q st =
        absurd (let z : ⊥ = omega (
          arith,
          last h t p s nb xs place q,
          starts_in' 0 h.chunks (p + s) (free b) st,
          starts_size true 0 h.chunks (p + s)
              (free b) t.chunks st,
        ) in z)
    behind-free b (used n ∷ ys) q st = differ n b (one_chunk h t (p + s) (used n) (free b) (next h t p s nb xs place (used n) ys q) st)
    behind-free b (free n ∷ ys) q st =
        (ys, ap (λ z. z ∷ ys) (one_chunk h t (p + s) (free n) (free b) (next h t p s nb xs place (free n) ys q) st))

    behind_none : (ys : List Chunk) → h.chunks ≡ xs ++ (used s ∷ ys) → p + s ≡ end_of 0 h.chunks → ys ≡ []
    behind_none [] q z = refl
    behind_none (k ∷ ys) q z =
        let n = next h t p s nb xs place k ys q in
        absurd (let y : ⊥ = omega
        (arith, z, starts_in' 0 h.chunks (p + s) k n, starts_size true 0 h.chunks (p + s) k t.chunks n) in y)

abbrev heap_of : Option Grant → Heap → Heap
heap_of none h = h
heap_of (some g) h = g.heap

module _ (c : Control) (w : List ℕ) (h : Heap) (m x s : ℕ) (r : Resizes c w h m x s x) where
  abbrev need : ℕ
  need = need_words 8 m

  abbrev o : Heap
  o = (answer_to wide (length w) h (Realloc (block_of wide x) m)).heap

  v : Moved (box c w) h x s m x
  v = moved (box c w) h r.0 x s m x r.1 r.2

  abbrev f : Block h.chunks x s
  f = found c w h r.0 (block_of wide x) m s x refl r.1

  ev : need % 2 ≡ 0
  ev = even wide (image c) w h (held c w h r.0) m v.fits

  le : 4 ≤ need
  le = least wide (image c) w h (held c w h r.0) m v.fits

  td : TidyHeap h
  td = tidy c w h r.0

  -- the heap that the rule's step leaves is the call's
  left_is : (k : Heap) → resize_here wide h (front f.f) x s need f.f.after ≡ some k → o ≡ k
  left_is k q = v.heap ∙ ap (λ z. heap_of z h) (sym v.is ∙ here_first wide h x s need f k q)

  -- where it has room
  room : RoomAt h x s need
  room =
      room-found h td x s need (front f.f) f.place f.f.after f.whole
      (no_move c w h r.0 (block_of wide x) m x s refl r.1 v.fits v.grant v.is v.place
      (here c w h r.0 (block_of wide x) m x s refl r.1) refl)

  after-held : Holds wide (left c w (Realloc (block_of wide x) m)).control (left c w (Realloc (block_of wide x) m)).words o
  after-held = (calls-held wide (box c w) h r.0 (Realloc (block_of wide x) m)).held

  block_live : (n : ℕ) → Starts 0 o.chunks x (used n) → LiveAt (left c w (Realloc (block_of wide x) m)) (block_of wide x) (8 * n - 8)
  block_live n z =
      subst (LiveAt (left c w (Realloc (block_of wide x) m)) (block_of wide x)) (let q : 8 * (n - 1) ≡ 8 * n - 8 = omega arith in q)
      (live_at (left c w (Realloc (block_of wide x) m)) o after-held x n z)

  shared : (t : ℕ) → OwnWords h x s need t → Starts 0 o.chunks x (used (share t need))
  shared t (inl u) =
      subst (λ n. Starts 0 o.chunks x (used (share n need))) (sym u.1)
      (subst (λ (k : Heap). Starts 0 k.chunks x (used (share s need)))
      (sym (left_is (shrink wide h x s need) (stays_here x need ev le h td s (front f.f) f.place f.f.after u.0)))
      (shrunk x need ev le h td s r.1 u.0))
  shared t (inr u) =
      let b = u.1.0 in
      let z = behind-free x need ev le h td s (front f.f) f.place b f.f.after f.whole u.1.1 in
      let whole = f.whole ∙ ap (λ ys. front f.f ++ (used s ∷ ys)) z.1 in
      let fit = fits_in b u.0 u.1.1 room in
      subst (λ n. Starts 0 o.chunks x (used (share n need))) (sym u.1.2)
      (subst (λ (k : Heap). Starts 0 k.chunks x (used (share (s + b) need)))
      (sym (left_is (grow_free wide h (front f.f) x s need b z.0)
      (ap (resize_here wide h (front f.f) x s need) z.1
      ∙ grows_free x need ev le h td s (front f.f) f.place b z.0 u.0 fit)))
      (grown x need ev le h td s (front f.f) f.place b z.0 whole fit))
    where
      fits_in : (b : ℕ) → s < need → Starts 0 h.chunks (x + s) (free b) → RoomAt h x s need → need ≤ s + b
      fits_in b l st (inl a) = absurd (let y : ⊥ = omega (arith, a, l) in y)
      fits_in b l st (inr (inl a)) =
          absurd (let y : ⊥ = omega
          (arith, a.0, starts_in' 0 h.chunks (x + s) (free b) st, starts_size true 0 h.chunks (x + s) (free b) td.chunks st)
          in y)
      fits_in b l st (inr (inr a)) = omega (arith, a.2, ap size (one_chunk h td (x + s) (free a.0) (free b) a.1 st))

  pub resize_split : (t : ℕ) → OwnWords h x s need t → need + 4 ≤ t
      → LiveAt (left c w (Realloc (block_of wide x) m)) (block_of wide x) (8 * need - 8)
  resize_split t u l =
      block_live need (subst (λ (b : Bool). Starts 0 o.chunks x (used (pick b need t))) (le-leb 4 (t - need) (omega (arith, l)))
      (shared t u))

  pub resize_stays : (t : ℕ) → OwnWords h x s need t → t < need + 4
      → LiveAt (left c w (Realloc (block_of wide x) m)) (block_of wide x) (8 * t - 8)
  resize_stays t u l =
      block_live t (subst (λ (b : Bool). Starts 0 o.chunks x (used (pick b need t))) (lt-leb 4 (t - need) (omega (arith, l)))
      (shared t u))

  pub resize_top : s < need → 8 * (x + s) ≡ c.top → LiveAt (left c w (Realloc (block_of wide x) m)) (block_of wide x) (8 * need - 8)
      × ((left c w (Realloc (block_of wide x) m)).control.top ≡ 8 * (x + need))
      × ((left c w (Realloc (block_of wide x) m)).control.top_size ≡ c.top_size + 8 * s - 8 * need)
  resize_top l q =
      let at_end : x + s ≡ end_of 0 h.chunks = omega (arith, q, r.0.top_place) in
      let none-behind = behind_none x need ev le h td s (front f.f) f.place f.f.after f.whole at_end in
      let fit = under at_end room in
      let is =
      left_is (heap_tiles h (front f.f ++ (used need ∷ [])) (s + h.top - need))
      (ap (resize_here wide h (front f.f) x s need) none-behind ∙ grows_top x need ev le h td s (front f.f) f.place l fit) in (
        block_live need (subst (λ (k : Heap). Starts 0 k.chunks x (used need)) (sym is)
            (here_starts x need ev le h td s (front f.f) f.place need [])),
        after-held.top_place ∙ ap (λ (k : Heap). enc wide (end_of 0 k.chunks)) is
            ∙ omega (arith, end_append 0 (front f.f) (used need ∷ []), f.place),
        after-held.top_size_lem ∙ ap (λ (k : Heap). 8 * k.top) is ∙ omega (arith, r.0.top_size_lem, fit),
      )
    where
      under : x + s ≡ end_of 0 h.chunks → RoomAt h x s need → need < s + h.top
      under z (inl a) = absurd (let y : ⊥ = omega (arith, a, l) in y)
      under z (inr (inl a)) = a.1
      under z (inr (inr a)) =
          absurd (let y : ⊥ = omega (
            arith,
            z,
            starts_in' 0 h.chunks (x + s) (free a.0) a.1,
            starts_size true 0 h.chunks (x + s) (free a.0)
                td.chunks a.1,
          ) in y)
