-- WHAT A RESIZE IN PLACE REACHES: every word that is governed neither before it nor after it is as it was. Cutting a block writes two heads, its
-- own and that of the part that is given back, and there, what is given back begins; growing writes the block's head, and heads and a foot of
-- the free chunk, or of the top, behind it. Where the rule says no, nothing has changed. Assumes nothing.
use Rattle.std.specs.Prelude.{◌≡◌, Bool, false, ◌⊎◌, ℕ, ◌+◌, ◌-◌, ◌*◌, ◌%◌, ◌≤◌, ◌<◌, leb, ltb, eqb, length, set}
use Rattle.std.proofs.Math.Path.{refl, ap, subst}
use Rattle.std.proofs.Common.{sym, ◌∙◌, inl, inr, ⊎_elim, arith, get_or-set_other}
use Rattle.std.proofs.Math.Bool.{true}
use mathlib.Core.List.{List, [], ◌∷◌, ◌++◌}
use Rattle.std.proofs.Math.Option.{Option, none, some}
use borrow.Author.Tests.{leb-false, ltb-false, le-leb, lt-leb, lt-ltb, eq-eqb, ne_eqb}
use Rattle.std.proofs.Math.ListN.{get_or}
use Rattle.words.specs.Logic.{pick, pick_case, by, le_or_lt}
use Rattle.words.specs.Edition.{Edition, wide, narrow, W, enc, enc_inj}
use Rattle.words.specs.Fields.{count_l}
use Rattle.tiling.specs.Tiling.{Chunk, used, free, bit, end_of, last_use, FreeAt, Heads, HeadsFrom, HeadsReads, Starts, end_append, end_ge, last_append}
use Rattle.tiling.specs.Regrow.{kept_head, split_used_words, take_next_words, split_used, take_next}
use Rattle.tiling.specs.Reading.{reads_tail, reads_right, reads_under, reads_here, reads_head, reads_next, reads_foot}
use Rattle.rules.specs.Heap.{Heap, heap_dv, heap_chunks}
use Rattle.rules.specs.Binning.{is_dv, unbin}
use Rattle.rules.specs.Free.{find, forward, give_maybe, give_back}
use Rattle.rules.specs.Realloc.{shrink, grow_in, resize_here}
use Rattle.rules.specs.Tidy.{Tidy, starts_right}
use Rattle.rules.specs.Lookup.{find_plain}
use Rattle.rules.specs.Leaves.{unbin_leaves}
use Rattle.holds.specs.Holds.{SpareAt, in_dv}
use Rattle.holds.specs.Unique.{one_size}
use Rattle.holds.specs.Lookup.{run_tidy, heads_right, next_used, NextUsed}
use Rattle.holds.specs.Governed.{Tiled, Governed}
use Rattle.chunk.specs.Bytes.{Store, wrap, cinuse_b, free_w, unpin_w, inuse_w}
use Rattle.chunk.specs.Image.{decode, decode_is}
use Rattle.chunk.specs.Plain.{small_sum, small_rest, size_plain, cinuse_plain}
use Rattle.chunk.specs.PlainInuse.{split_used_plain, take_next_plain}
use Rattle.chunk.specs.Held.{Held, leb_bytes, ltb_bytes, top_at_lem, top_size_lem, swap_step}
use Rattle.chunk.specs.ChunkReach.{Same, put_sum_same, inuse_same, unpin_same, freed_same}
use Rattle.treebin.specs.Binning.{unlink_chunk}
use Rattle.treebin.specs.BinningSteps.{unlink_step}
use Rattle.treebin.specs.BinningReach.{unlink_reaches, unbin-links}
use Rattle.free.specs.FreeBytes.{dispose_b}
use Rattle.free.proofs.FreeObeys.{append_one, dv_test, place_some, place_none, flags_below}
use Rattle.free.proofs.FreeReach.{away_tiles, dispose_reaches}
use Rattle.realloc.specs.ReallocBytes.{Tried, tried, cut_back, shrink_b, grow_top, grow_dv, grow_binned, try_realloc}
use Rattle.realloc.specs.ReallocObeys.{Agrees}
use Rattle.realloc.proofs.ReallocObeys.{next_odd, retiled, resize_agrees}
use Rattle.realloc.specs.ResizeReach.{heap_or}

-- ---- what is given back, behind a chunk in use, begins where it did: a free chunk, or the top

forward_tiled : (e : Edition) (mine : Bool) (h : Heap) (xs : List Chunk) (k : ℕ) (ys : List Chunk) → Tiled (forward e mine h xs (end_of 0 xs) k ys) (end_of 0 xs + 1)
forward_tiled e mine h xs k [] = inr (inl refl)
forward_tiled e mine h xs k (used n ∷ ys) =
    away_tiles e mine (heap_chunks h (xs ++ (free k ∷ used n ∷ ys))) (end_of 0 xs) k (end_of 0 xs + 1)
    (reads_right 0 xs (free k ∷ used n ∷ ys) h.top (end_of 0 xs + 1) (reads_here (end_of 0 xs) (free k ∷ used n ∷ ys) h.top))
forward_tiled e mine h xs k (free b ∷ ys) =
    pick_case (λ (g : Heap). Tiled g (end_of 0 xs + 1)) (is_dv h (end_of 0 xs + k)) (λ _. here h.top)
    (λ _. away_tiles e mine (heap_chunks (unbin e h (end_of 0 xs + k) b) (xs ++ (free (k + b) ∷ ys))) (end_of 0 xs) (k + b) (end_of 0 xs + 1) (here (unbin e h (end_of 0 xs + k) b).top))
  where
    here : (ts : ℕ) → HeadsReads 0 (xs ++ (free (k + b) ∷ ys)) ts (end_of 0 xs + 1)
    here ts = reads_right 0 xs (free (k + b) ∷ ys) ts (end_of 0 xs + 1) (reads_here (end_of 0 xs) (free (k + b) ∷ ys) ts)

give_tiled : (e : Edition) (h : Heap) (xs : List Chunk) (t : ℕ) (ys : List Chunk) → h.chunks ≡ xs ++ (used t ∷ ys) → Tidy true (xs ++ (used t ∷ ys)) → last_use true xs ≡ true → Tiled (give_back e h (end_of 0 xs)) (end_of 0 xs + 1)
give_tiled e h xs t ys q ti u =
    subst (λ z. Tiled (give_maybe e h z (end_of 0 xs)) (end_of 0 xs + 1)) (sym (ap (λ c. find 0 c (end_of 0 xs)) q ∙ find_plain 0 true xs t ys ti u)) (forward_tiled e false h xs t ys)

-- ---- a block in use of s words after xs is cut

module _ (e : Edition) (r w : List ℕ) (h : Heap) (n : Held e r w h []) (xs : List Chunk) (s : ℕ) (ys : List Chunk) (q : h.chunks ≡ xs ++ (used s ∷ ys)) (nb : ℕ) (v : nb % 2 ≡ 0) (l : 4 ≤ nb) (fit : nb ≤ s) where
  abbrev a : ℕ
  a = end_of 0 xs

  tail : HeadsFrom e w a (last_use true xs) (used s ∷ ys) h.top
  tail = heads_right e w 0 true xs (used s ∷ ys) h.top (subst (λ c. Heads e w c h.top) q n.near.heads)

  fits : a + s + 1 < length w
  fits = omega (arith, tail.top.ends, tail.top.least, end_ge (a + s) ys)

  -- the chunks and the words with both parts in use
  abbrev pub parts : List Chunk
  parts = xs ++ (used nb ∷ used (s - nb) ∷ ys)

  abbrev pub halved : List ℕ
  halved = split_used_words e w a nb (s - nb)

  pub halved-held : 4 ≤ s - nb → Held e r halved (heap_chunks h parts) []
  halved-held u =
      swap_step e r w halved h [] [] xs (used s ∷ []) (used nb ∷ used (s - nb) ∷ []) ys q n
      (split_used e w a (last_use true xs) s tail.run.0 nb (s - nb) (omega arith) v l u (omega (arith, fits))) (λ x. omega arith) (λ x. refl)

  module _ (i : ℕ) (before : Governed h i → ⊥) where
    head_out : i ≡ a + 1 → ⊥
    head_out z = before (inl (subst (λ c. HeadsReads 0 c h.top i) (sym q) (reads_right 0 xs (used s ∷ ys) h.top i (inl (inl z)))))

    -- two heads are written
    pub halved_same : (i ≡ a + nb + 1 → ⊥) → Same i w halved
    halved_same out = get_or-set_other (set w (a + 1) (kept_head e w a nb)) (a + nb + 1) i (W e * (s - nb) + 3) 0 out ∙ get_or-set_other w (a + 1) i (kept_head e w a nb) 0 head_out

    -- the second part's head is governed then, no more
    pub halved_out : (i ≡ a + nb + 1 → ⊥) → Governed (heap_chunks h parts) i → ⊥
    halved_out out (inr u) = before (inr u)
    halved_out out (inl u) = ⊎_elim (λ y. before (inl (subst (λ c. HeadsReads 0 c h.top i) (sym q) y))) out (reads_under 0 xs (used nb ∷ used (s - nb) ∷ ys) (used s ∷ ys) h.top h.top i two u)
      where
        rest : HeadsReads (a + nb + (s - nb)) ys h.top i → HeadsReads a (used s ∷ ys) h.top i
        rest u = reads_tail a (used s) ys h.top i (subst (λ z. HeadsReads z ys h.top i) (let z : a + nb + (s - nb) ≡ a + s = omega arith in z) u)

        two : HeadsReads a (used nb ∷ used (s - nb) ∷ ys) h.top i → HeadsReads a (used s ∷ ys) h.top i ⊎ (i ≡ a + nb + 1)
        two (inl (inl z)) = inl (inl (inl z))
        two (inl (inr (inl z))) = inr z
        two (inl (inr (inr u))) = inl (rest (inl u))
        two (inr u) = inl (rest (inr u))

    cut_reaches : 4 ≤ s - nb → (Governed (give_back e (heap_chunks h parts) (a + nb)) i → ⊥) → Same i w (cut_back e r w (enc e a) (enc e nb) (enc e (s - nb))).words
    unfolding cut_back
    cut_reaches u after =
        subst (λ y. Same i w (dispose_b e r y (wrap e (enc e a + enc e nb)) (enc e (s - nb))).words) (sym words)
        (subst (λ c. Same i w (dispose_b e r halved c (enc e (s - nb))).words) (sym place)
        (dispose_reaches e r halved (heap_chunks h parts) (halved-held u) (a + nb) (s - nb) (starts_right 0 xs (used nb ∷ used (s - nb) ∷ ys) (a + nb) (used (s - nb)) (inr (inl (refl, refl)))) i (halved_out rest) after
        ∙ halved_same rest))
      where
        near : a + s ≤ 8192
        near = omega (arith, fits, n.near.most)

        place : wrap e (enc e a + enc e nb) ≡ enc e (a + nb)
        place = small_sum e a nb (omega (arith, near))

        words : inuse_w e (inuse_w e w (enc e a) (enc e nb)) (wrap e (enc e a + enc e nb)) (enc e (s - nb)) ≡ halved
        words =
            ap (λ c. inuse_w e (inuse_w e w (enc e a) (enc e nb)) c (enc e (s - nb))) place
            ∙ split_used_plain e w a nb (s - nb) l (omega arith) (omega (arith, near)) (omega (arith, fits))
            (ap (λ i. get_or w i 0 % 2) (let z : a + nb + (s - nb) + 1 ≡ a + s + 1 = omega arith in z) ∙ next_odd e w (a + s) ys h.top (record { run = tail.run.1; top = tail.top }))

        one : parts ≡ (xs ++ (used nb ∷ [])) ++ (used (s - nb) ∷ ys)
        one = sym (append_one xs (used nb) (used (s - nb) ∷ ys))

        ends : end_of 0 (xs ++ (used nb ∷ [])) ≡ a + nb
        ends = end_append 0 xs (used nb ∷ [])

        begins : Tiled (give_back e (heap_chunks h parts) (a + nb)) (a + nb + 1)
        begins =
            subst (λ z. Tiled (give_back e (heap_chunks h parts) z) (z + 1)) ends
            (give_tiled e (heap_chunks h parts) (xs ++ (used nb ∷ [])) (s - nb) ys one (subst (Tidy true) one (run_tidy e halved 0 true parts (halved-held u).near.heads.run)) (last_append true xs (used nb ∷ [])))

        rest : i ≡ a + nb + 1 → ⊥
        rest z = after (inl (subst (Tiled (give_back e (heap_chunks h parts) (a + nb))) (sym z) begins))

    -- by the rule's name of the heap after it
    pub rest_reaches : 4 ≤ s - nb → (Governed (shrink e h a s nb) i → ⊥) → Same i w (cut_back e r w (enc e a) (enc e nb) (enc e (s - nb))).words
    rest_reaches u after = cut_reaches u (subst (λ c. Governed (give_back e (heap_chunks h c) (a + nb)) i → ⊥) (retiled e r w h n xs s ys q (used nb ∷ used (s - nb) ∷ [])) (rw (le-leb 4 (s - nb) u) at after))

    shrink_reaches : (Governed (shrink e h a s nb) i → ⊥) → Same i w (shrink_b e r w (enc e a) (enc e nb) (enc e (s - nb))).words
    unfolding shrink_b
    shrink_reaches after =
        pick_case (λ (y : Store). Same i w y.words) (ltb (enc e (s - nb)) (W e * 4)) (λ _. refl)
        (λ z. rest_reaches (ltb-false (s - nb) 4 (sym (ltb_bytes e (s - nb) 4) ∙ z)) after)

-- ---- a block in use of s words after xs grows

module _ (e : Edition) (r w : List ℕ) (h : Heap) (n : Held e r w h []) (xs : List Chunk) (s nb : ℕ) (v : nb % 2 ≡ 0) (l : 4 ≤ nb) (more : s < nb) (i : ℕ) (before : Governed h i → ⊥) where
  abbrev p : ℕ
  p = end_of 0 xs

  abbrev Grown : Option Heap → Type 0
  Grown o =
      (Governed (heap_or h o) i → ⊥)
      → Same i w (pick (eqb (enc e (p + s)) (get_or r 4 0)) (grow_top e r w (enc e p) (wrap e (enc e s + get_or r 5 0)) (enc e nb))
      (pick (eqb (enc e (p + s)) (get_or r 2 0)) (grow_dv e r w (enc e p) (wrap e (enc e s + get_or r 3 0)) (enc e nb))
      (pick (cinuse_b e w (enc e (p + s))) (tried false r w) (grow_binned e r w (enc e p) (enc e s) (enc e (p + s)) (enc e nb))))).words

  top_is : (ys : List Chunk) → h.chunks ≡ xs ++ (used s ∷ ys) → get_or r 4 0 ≡ enc e (end_of (p + s) ys)
  top_is ys q = top_at_lem e r w h [] n ∙ ap (enc e) (ap (end_of 0) q ∙ end_append 0 xs (used s ∷ ys))

  rest_of : (ys : List Chunk) → h.chunks ≡ xs ++ (used s ∷ ys) → HeadsFrom e w p (last_use true xs) (used s ∷ ys) h.top
  rest_of ys q = heads_right e w 0 true xs (used s ∷ ys) h.top (subst (λ c. Heads e w c h.top) q n.near.heads)

  own_head : (ys : List Chunk) → h.chunks ≡ xs ++ (used s ∷ ys) → i ≡ p + 1 → ⊥
  own_head ys q z = before (inl (subst (λ c. HeadsReads 0 c h.top i) (sym q) (reads_right 0 xs (used s ∷ ys) h.top i (inl (inl z)))))

  into_top : h.chunks ≡ xs ++ (used s ∷ []) → Grown (grow_in e h xs p s nb [])
  unfolding grow_top
  into_top q =
      rw (eq-eqb (enc e (p + s)) (get_or r 4 0) (sym (top_is [] q)), all, leb_bytes e (s + h.top) nb)
      (pick_case (λ (u : Tried). (Governed (heap_or h (grow_in e h xs p s nb [])) i → ⊥) → Same i w u.words) (leb (s + h.top) nb) (λ _ _. refl)
      (λ y. let big = leb-false (s + h.top) nb y in
      rw (lt-ltb nb (s + h.top) big)
      (λ after. let rest : i ≡ p + nb + 1 → ⊥ = λ z. after (inl (inr (inl (z ∙ ap (λ c. c + 1) (sym (end_append 0 xs (used nb ∷ []))))))) in
      put_sum_same e i w (inuse_w e w (enc e p) (enc e nb)) p nb 1 (wrap e (enc e (s + h.top) - enc e nb + 1)) (omega (arith, big, near)) rest
      (inuse_same e i w w p nb (omega (arith, big, near)) (own_head [] q) rest refl))))
    where
      near : p + s + h.top ≤ 8192
      near = let tl = rest_of [] q in omega (arith, tl.top.ends, n.near.most)

      all : wrap e (enc e s + get_or r 5 0) ≡ enc e (s + h.top)
      all = ap (λ y. wrap e (enc e s + y)) (top_size_lem e r w h [] n) ∙ small_sum e s h.top (omega (arith, near))

  into_free : (k : ℕ) (ys : List Chunk) → h.chunks ≡ xs ++ (used s ∷ free k ∷ ys) → Grown (grow_in e h xs p s nb (free k ∷ ys))
  unfolding grow_binned grow_dv
  into_free k ys q =
      rw (ne_eqb (enc e (p + s)) (get_or r 4 0) not_top, dv_test e r w h [] (p + s) n, cinuse_plain e w (p + s) k 1 fa.head fa.even (omega arith))
      (by (λ z. (Governed (heap_or h (pick (leb nb (s + k)) (some (pick z spared (shrink e g p (s + k) nb))) none)) i → ⊥)
      → Same i w (pick z (grow_dv e r w (enc e p) (wrap e (enc e s + get_or r 3 0)) (enc e nb)) (grow_binned e r w (enc e p) (enc e s) (enc e (p + s)) (enc e nb))).words) (is_dv h (p + s))
      (λ z. into_dv (place_some h.dv (p + s) z)) into_bin)
    where
      spared : Heap
      spared = pick (leb 4 (s + k - nb)) (heap_dv (heap_chunks h (xs ++ (used nb ∷ free (s + k - nb) ∷ ys))) (some (p + nb))) (heap_dv (heap_chunks h (xs ++ (used (s + k) ∷ ys))) none)

      g : Heap
      g = heap_chunks (unbin e h (p + s) k) (xs ++ (used (s + k) ∷ ys))

      tl : HeadsFrom e w p (last_use true xs) (used s ∷ free k ∷ ys) h.top
      tl = rest_of (free k ∷ ys) q

      fa : FreeAt e w (p + s) true k
      fa = tl.run.1.0

      not_top : enc e (p + s) ≡ get_or r 4 0 → ⊥
      not_top z = omega (arith, enc_inj e (end_of (p + s + k) ys) (p + s) (sym (top_is (free k ∷ ys) q) ∙ sym z), end_ge (p + s + k) ys, fa.least)

      near : p + s + k + 1 < 8192
      near = omega (arith, tl.top.ends, tl.top.least, end_ge (p + s + k) ys, n.near.most)

      next : Starts 0 h.chunks (p + s) (free k)
      next = subst (λ c. Starts 0 c (p + s) (free k)) (sym q) (starts_right 0 xs (used s ∷ free k ∷ ys) (p + s) (free k) (inr (inl (refl, refl))))

      -- the head behind both
      last_head : i ≡ p + (s + k) + 1 → ⊥
      last_head z = before (inl (subst (Tiled h) (let y : p + s + k + 1 ≡ i = omega arith in y) (reads_next 0 h.chunks h.top (p + s) (free k) next)))

      -- the whole neighbour is taken in
      take : (u : List ℕ) → Same i w u → Same i w (inuse_w e u (enc e p) (enc e (s + k)))
      take u f = inuse_same e i w u p (s + k) (omega (arith, near)) (own_head (free k ∷ ys) q) last_head f

      into_dv : h.dv ≡ some (p + s) → (Governed (heap_or h (pick (leb nb (s + k)) (some spared) none)) i → ⊥) → Same i w (grow_dv e r w (enc e p) (wrap e (enc e s + get_or r 3 0)) (enc e nb)).words
      into_dv d =
          rw (all, ltb_bytes e (s + k) nb, small_rest e (s + k) nb, ltb_bytes e (s + k - nb) 4)
          (pick_case Reaches (ltb (s + k) nb) (λ _ _. refl)
          (λ y. let fit = ltb-false (s + k) nb y in
          pick_case Reaches (ltb (s + k - nb) 4) (λ _ _. take w refl)
          (λ z. let big = ltb-false (s + k - nb) 4 z in
          rw (le-leb nb (s + k) fit, le-leb 4 (s + k - nb) big)
          (λ after. let head : i ≡ p + nb + 1 → ⊥ = λ y. after (inl (subst (HeadsReads 0 cs h.top) (sym y) (reads_head 0 cs h.top (p + nb) (free (s + k - nb)) rest))) in
          let foot : i ≡ p + nb + (s + k - nb) → ⊥ = λ y. after (inl (subst (HeadsReads 0 cs h.top) (sym y) (reads_foot 0 cs h.top (p + nb) (s + k - nb) rest))) in
          subst (λ c. Same i w (unpin_w e (free_w e first (wrap e (enc e p + enc e nb)) (enc e (s + k - nb))) c)) (sym (small_sum e p (s + k) (omega (arith, near))))
          (unpin_same e i w (free_w e first (wrap e (enc e p + enc e nb)) (enc e (s + k - nb))) (p + (s + k)) last_head
          (subst (λ c. Same i w (free_w e first c (enc e (s + k - nb)))) (sym (small_sum e p nb (omega (arith, near))))
          (freed_same e i w first (p + nb) (s + k - nb) (omega (arith, near)) head foot (inuse_same e i w w p nb (omega (arith, near)) (own_head (free k ∷ ys) q) head refl))))))))
        where
          Reaches : Tried → Type 0
          Reaches u = (Governed (heap_or h (pick (leb nb (s + k)) (some spared) none)) i → ⊥) → Same i w u.words

          cs : List Chunk
          cs = xs ++ (used nb ∷ free (s + k - nb) ∷ ys)

          rest : Starts 0 cs (p + nb) (free (s + k - nb))
          rest = starts_right 0 xs (used nb ∷ free (s + k - nb) ∷ ys) (p + nb) (free (s + k - nb)) (inr (inl (refl, refl)))

          first : List ℕ
          first = inuse_w e w (enc e p) (enc e nb)

          width : (o : Option ℕ) → o ≡ some (p + s) → SpareAt e (decode r).dv (decode r).dv_size h.chunks o → (decode r).dv_size ≡ enc e k
          width o z sp =
              let y = subst (SpareAt e (decode r).dv (decode r).dv_size h.chunks) z sp in
              y.3 ∙ ap (enc e) (one_size e w h.chunks h.top (p + s) y.0 k n.near.heads y.1 next)

          all : wrap e (enc e s + get_or r 3 0) ≡ enc e (s + k)
          all = ap (λ z. wrap e (enc e s + z)) ((decode_is r).1 ∙ width h.dv d n.near.spare) ∙ small_sum e s k (omega (arith, near))

      into_bin : is_dv h (p + s) ≡ false → (Governed (heap_or h (pick (leb nb (s + k)) (some (shrink e g p (s + k) nb)) none)) i → ⊥) → Same i w (grow_binned e r w (enc e p) (enc e s) (enc e (p + s)) (enc e nb)).words
      into_bin z =
          rw (size_plain e w (p + s) k 1 fa.head fa.even (omega arith), small_sum e s k (omega (arith, near)), ltb_bytes e (s + k) nb, small_rest e (s + k) nb)
          (pick_case (λ (u : Tried). (Governed (heap_or h (pick (leb nb (s + k)) (some (shrink e g p (s + k) nb)) none)) i → ⊥) → Same i w u.words) (ltb (s + k) nb) (λ _ _. refl)
          (λ y. let fit = ltb-false (s + k) nb y in
          rw (le-leb nb (s + k) fit)
          (λ after. shrink_reaches e r₁ w₂ g whole xs (s + k) ys refl nb v l fit i between after ∙ take w₁ (unlink_reaches e r w h [] n i (p + s) k next loose (λ u. before (inr u))))))
        where
          loose : count_l (p + s) [] + in_dv h.dv (p + s) ≡ 0
          loose = omega (arith, place_none h.dv (p + s) z)

          lv : ((unbin e h (p + s) k).chunks ≡ h.chunks) × ((unbin e h (p + s) k).dv ≡ h.dv) × ((unbin e h (p + s) k).top ≡ h.top)
          lv = unbin_leaves e h (p + s) k

          r₁ : List ℕ
          r₁ = (unlink_chunk e r w (enc e (p + s)) (enc e k)).image

          w₁ : List ℕ
          w₁ = (unlink_chunk e r w (enc e (p + s)) (enc e k)).words

          w₂ : List ℕ
          w₂ = inuse_w e w₁ (enc e p) (enc e (s + k))

          unbound : Held e r₁ w₁ (unbin e h (p + s) k) ((p + s) ∷ [])
          unbound = unlink_step e r w h [] (p + s) k n next loose

          t₁ : HeadsFrom e w₁ p (last_use true xs) (used s ∷ free k ∷ ys) (unbin e h (p + s) k).top
          t₁ = heads_right e w₁ 0 true xs (used s ∷ free k ∷ ys) (unbin e h (p + s) k).top (subst (λ c. Heads e w₁ c (unbin e h (p + s) k).top) (lv.0 ∙ q) unbound.near.heads)

          nx : NextUsed e w₁ (p + s) k ys (length w₁)
          nx = next_used e w₁ (p + s) true k ys (unbin e h (p + s) k).top (record { run = t₁.run.1; top = t₁.top })

          -- a head without PINUSE is even
          even : (e : Edition) (y m : ℕ) → y ≡ W e * m + 2 + 0 → y % 2 ≡ 0
          even wide y m z = omega arith
          even narrow y m z = omega arith

          whole : Held e r₁ w₂ g []
          whole =
              subst (λ y. Held e r₁ y g [])
              (sym (take_next_plain e w₁ p (s + k) (omega (arith, fa.least)) (omega (arith, near)) (ap (λ i. get_or w₁ i 0 % 2) (let y : p + (s + k) + 1 ≡ p + s + k + 1 = omega arith in y) ∙ even e (get_or w₁ (p + s + k + 1) 0) nx.words nx.here.head)))
              (subst (λ c. Held e r₁ (take_next_words e w₁ p (s + k)) (heap_chunks (unbin e h (p + s) k) (xs ++ (used (s + k) ∷ c))) []) (sym nx.whole)
              (swap_step e r₁ w₁ (take_next_words e w₁ p (s + k)) (unbin e h (p + s) k) ((p + s) ∷ []) [] xs (used s ∷ free k ∷ used nx.words ∷ []) (used (s + k) ∷ used nx.words ∷ []) nx.after
              (lv.0 ∙ q ∙ ap (λ c. xs ++ (used s ∷ free k ∷ c)) nx.whole) unbound
              (take_next e w₁ p (last_use true xs) s t₁.run.0 k nx.words t₁.run.1.0.even nx.here nx.fits)
              (λ y. omega arith) (λ y. omega arith)))

          -- one chunk for two: nothing more is governed
          between : Governed g i → ⊥
          between (inr u) = before (inr (unbin-links e r w h [] n i (p + s) k next loose u))
          between (inl u) =
              before (inl (subst (λ c. HeadsReads 0 c h.top i) (sym q)
              (⊎_elim (λ y. y) (λ y. absurd y) (reads_under 0 xs (used (s + k) ∷ ys) (used s ∷ free k ∷ ys) (unbin e h (p + s) k).top h.top i one u))))
            where
              rest : HeadsReads (p + (s + k)) ys (unbin e h (p + s) k).top i → HeadsReads p (used s ∷ free k ∷ ys) h.top i
              rest u =
                  reads_tail p (used s) (free k ∷ ys) h.top i (reads_tail (p + s) (free k) ys h.top i
                  (subst (λ z. HeadsReads z ys h.top i) (let z : p + (s + k) ≡ p + s + k = omega arith in z) (subst (λ z. HeadsReads (p + (s + k)) ys z i) lv.2 u)))

              one : HeadsReads p (used (s + k) ∷ ys) (unbin e h (p + s) k).top i → HeadsReads p (used s ∷ free k ∷ ys) h.top i ⊎ ⊥
              one (inl (inl z)) = inl (inl (inl z))
              one (inl (inr u)) = inl (rest (inl u))
              one (inr u) = inl (rest (inr u))

  grow_reaches : (ys : List Chunk) → h.chunks ≡ xs ++ (used s ∷ ys) → (Governed (heap_or h (grow_in e h xs p s nb ys)) i → ⊥) → Same i w (try_realloc e r w (enc e p) (enc e nb)).words
  unfolding try_realloc
  grow_reaches ys q after = go ys q after
    where
      -- the tests before growing
      tests : (ys : List Chunk) → h.chunks ≡ xs ++ (used s ∷ ys) → Grown (grow_in e h xs p s nb ys) → (Governed (heap_or h (grow_in e h xs p s nb ys)) i → ⊥) → Same i w (try_realloc e r w (enc e p) (enc e nb)).words
      tests ys q g after =
          let tl = rest_of ys q in
          rw (size_plain e w p s (2 + bit (last_use true xs)) (tl.run.0.head ∙ omega arith) tl.run.0.even (flags_below (last_use true xs)), small_sum e p s (omega (arith, tl.top.ends, end_ge (p + s) ys, n.near.most)), leb_bytes e nb s, lt-leb nb s more) (g after)

      go : (ys : List Chunk) → h.chunks ≡ xs ++ (used s ∷ ys) → (Governed (heap_or h (grow_in e h xs p s nb ys)) i → ⊥) → Same i w (try_realloc e r w (enc e p) (enc e nb)).words
      go [] q after = tests [] q (into_top q) after
      go (free k ∷ ys) q after = tests (free k ∷ ys) q (into_free k ys q) after
      go (used m ∷ ys) q after =
          subst (λ (u : Tried). Same i w u.words)
          (sym (subst (λ b. Agrees e r w (try_realloc e r w (enc e p) (enc e nb)) (pick b (some (shrink e h p s nb)) none)) (lt-leb nb s more) (resize_agrees e r w h n xs s nb v l (used m ∷ ys) q))) refl

-- ---- in place, whole

module _ (e : Edition) (r w : List ℕ) (h : Heap) (n : Held e r w h []) (xs : List Chunk) (s nb : ℕ) (v : nb % 2 ≡ 0) (l : 4 ≤ nb) (ys : List Chunk) (q : h.chunks ≡ xs ++ (used s ∷ ys)) where
  abbrev at : ℕ
  at = end_of 0 xs

  -- a block that is large enough is cut
  cut_is : nb ≤ s → (try_realloc e r w (enc e at) (enc e nb)).words ≡ (shrink_b e r w (enc e at) (enc e nb) (enc e (s - nb))).words
  unfolding try_realloc
  cut_is fit =
      rw (size_plain e w at s (2 + bit (last_use true xs)) (tl.run.0.head ∙ omega arith) tl.run.0.even (flags_below (last_use true xs)), leb_bytes e nb s, le-leb nb s fit, small_rest e s nb) refl
    where
      tl : HeadsFrom e w at (last_use true xs) (used s ∷ ys) h.top
      tl = heads_right e w 0 true xs (used s ∷ ys) h.top (subst (λ c. Heads e w c h.top) q n.near.heads)

  pub resize_reaches : (i : ℕ) → (Governed h i → ⊥) → (Governed (heap_or h (resize_here e h xs at s nb ys)) i → ⊥) → get_or (try_realloc e r w (enc e at) (enc e nb)).words i 0 ≡ get_or w i 0
  resize_reaches i before after =
      ⊎_elim (λ fit. subst (Same i w) (sym (cut_is fit)) (shrink_reaches e r w h n xs s ys q nb v l fit i before (rw (le-leb nb s fit) at after)))
      (λ more. grow_reaches e r w h n xs s nb v l more i before ys q (rw (lt-leb nb s more) at after)) (le_or_lt nb s)
