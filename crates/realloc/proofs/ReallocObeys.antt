-- A RESIZE IN PLACE OBEYS ITS RULE: where image and words hold a heap and a block in use stands at p, trying its own place does what
-- `resize_here` says, and where that says no, nothing has changed. Assumes nothing.
use Rattle.std.specs.Prelude.{◌≡◌, Bool, false, ℕ, ◌+◌, ◌-◌, ◌*◌, ◌%◌, ◌≤◌, ◌<◌, leb, ltb, eqb, length, set}
use Rattle.std.proofs.Math.Path.{refl, subst}
use Rattle.std.proofs.Common.{sym, ◌∙◌, ap, ap₂, inl, inr, ⊎_elim, arith, length-set}
use Rattle.std.proofs.Math.Bool.{true}
use mathlib.Core.List.{List, [], ◌∷◌, ◌++◌}
use Rattle.std.proofs.Math.Option.{Option, none, some}
use borrow.Author.Tests.{leb-true, leb-false, ltb-true, ltb-false, le-leb, lt-leb, lt-ltb, le-ltb, eq-eqb, ne_eqb}
use Rattle.std.proofs.Math.ListN.{get_or}
use Rattle.std.proofs.Math.Seq.{get_or-set_other}
use Rattle.words.specs.Logic.{pick, pick_case, by}
use Rattle.words.specs.Edition.{Edition, wide, narrow, W, no_link, enc, enc_inj}
use Rattle.tiling.specs.Tiling.{Chunk, used, free, size, bit, end_of, last_use, UsedAt, FreeAt, Run, Heads, HeadsFrom, Starts, starts_at_lem, starts_apart, end_append, end_ge}
use Rattle.tiling.specs.Regrow.{kept_head, split_used_words, take_next_words, grow_rest_words, grow_top_words, split_used, take_next, grow_rest, grow_top_lem}
use Rattle.rules.specs.Heap.{Heap, heap_dv, heap_chunks, heap_tiles}
use Rattle.rules.specs.Binning.{retile, is_dv, is_place, unbin}
use Rattle.rules.specs.Free.{give_back}
use Rattle.rules.specs.Realloc.{shrink, grow_in, resize_here}
use Rattle.rules.specs.Tidy.{starts_right}
use Rattle.rules.specs.Lookup.{retile_at}
use Rattle.rules.specs.Leaves.{unbin_leaves}
use Rattle.holds.specs.Holds.{SpareAt}
use Rattle.holds.specs.Unique.{one_size}
use Rattle.holds.specs.Lookup.{run_tidy, heads_right, next_used, NextUsed}
use Rattle.chunk.specs.Bytes.{Store, wrap, cinuse_b, set_dv, set_top, top_w, free_w, unpin_w, inuse_w}
use Rattle.chunk.specs.Image.{decode, decode_is}
use Rattle.chunk.specs.Plain.{small_sum, small_rest, size_plain, cinuse_plain}
use Rattle.chunk.specs.PlainInuse.{split_used_plain, take_next_plain, grow_rest_plain, grow_top_plain}
use Rattle.chunk.specs.Held.{Held, leb_bytes, ltb_bytes, top_at_lem, top_size_lem, dv_twice, drop_step, dv_step, swap_step, swap_top_step}
use Rattle.treebin.specs.Binning.{unlink_chunk}
use Rattle.treebin.specs.BinningSteps.{unlink_step}
use Rattle.free.specs.FreeBytes.{dispose_b}
use Rattle.free.proofs.FreeObeys.{dv_test, place_some, place_none, flags_below, dispose_obeys}
use Rattle.realloc.specs.ReallocBytes.{Tried, tried, cut_back, shrink_b, grow_top, grow_dv, grow_binned, try_realloc}
use Rattle.realloc.specs.ReallocObeys.{Agrees}

-- the chunk behind one in use says PINUSE, the top too
pub next_odd : (e : Edition) (w : List ℕ) (p : ℕ) (ys : List Chunk) (ts : ℕ) → HeadsFrom e w p true ys ts → get_or w (p + 1) 0 % 2 ≡ 1
next_odd e w p [] ts h = odd e ts h.top.head
  where
    odd : (e : Edition) (n : ℕ) → get_or w (p + 1) 0 ≡ W e * n + 1 → get_or w (p + 1) 0 % 2 ≡ 1
    odd wide n q = omega arith
    odd narrow n q = omega arith
next_odd e w p (used n ∷ ys) ts h = odd e h.run.0.head
  where
    odd : (e : Edition) → get_or w (p + 1) 0 ≡ W e * n + 2 + 1 → get_or w (p + 1) 0 % 2 ≡ 1
    odd wide q = omega arith
    odd narrow q = omega arith
next_odd e w p (free n ∷ ys) ts h = odd e h.run.0.head
  where
    odd : (e : Edition) → get_or w (p + 1) 0 ≡ W e * n + 1 → get_or w (p + 1) 0 % 2 ≡ 1
    odd wide q = omega arith
    odd narrow q = omega arith

agree_pick : (e : Edition) (r w : List ℕ) (b c : Bool) (x y : Tried) (x' y' : Option Heap) → b ≡ c → (c ≡ true → Agrees e r w x x') → (c ≡ false → Agrees e r w y y') → Agrees e r w (pick b x y) (pick c x' y')
agree_pick e r w b true x y x' y' q f g = subst (λ (z : Bool). Agrees e r w (pick z x y) x') (sym q) (f refl)
agree_pick e r w b false x y x' y' q f g = subst (λ (z : Bool). Agrees e r w (pick z x y) y') (sym q) (g refl)

-- ---- a block in use of s words after xs

module _ (e : Edition) (r w : List ℕ) (h : Heap) (n : Held e r w h []) (xs : List Chunk) (s : ℕ) (ys : List Chunk) (q : h.chunks ≡ xs ++ (used s ∷ ys)) where
  abbrev a : ℕ
  a = end_of 0 xs

  tail : HeadsFrom e w a (last_use true xs) (used s ∷ ys) h.top
  tail = heads_right e w 0 true xs (used s ∷ ys) h.top (subst (λ c. Heads e w c h.top) q n.near.heads)

  room : end_of (a + s) ys + h.top + 10 ≤ 8192
  room = omega (arith, tail.top.ends, n.near.most)

  pub retiled : (new : List Chunk) → retile 0 h.chunks a new ≡ xs ++ (new ++ ys)
  retiled new = ap (λ c. retile 0 c a new) q ∙ retile_at 0 true xs (used s) ys new (run_tidy e w 0 true (xs ++ (used s ∷ ys)) (subst (λ c. Run e w 0 true c) q n.near.heads.run))

  -- ---- shrink

  pub shrink_obeys : (nb : ℕ) → nb % 2 ≡ 0 → 4 ≤ nb → nb ≤ s
      → Held e (shrink_b e r w (enc e a) (enc e nb) (enc e (s - nb))).image (shrink_b e r w (enc e a) (enc e nb) (enc e (s - nb))).words (shrink e h a s nb) []
  unfolding shrink_b cut_back
  shrink_obeys nb v l fit =
      pick_case Shrunk (ltb (enc e (s - nb)) (W e * 4))
      (λ z. rw (lt-leb 4 (s - nb) (ltb-true (s - nb) 4 (sym test ∙ z))) n)
      (λ z. let u = ltb-false (s - nb) 4 (sym test ∙ z) in
      subst (λ x. Shrunk (dispose_b e r x (wrap e (enc e a + enc e nb)) (enc e (s - nb)))) (sym (words u))
      (subst (λ c. Shrunk (dispose_b e r ws c (enc e (s - nb)))) (sym place)
      (rw (le-leb 4 (s - nb) u)
      (subst (λ c. Held e (dispose_b e r ws (enc e (a + nb)) (enc e (s - nb))).image (dispose_b e r ws (enc e (a + nb)) (enc e (s - nb))).words (give_back e (heap_chunks h c) (a + nb)) []) (sym (retiled (used nb ∷ used (s - nb) ∷ [])))
      (dispose_obeys e r ws (heap_chunks h (xs ++ (used nb ∷ used (s - nb) ∷ ys))) (cut u) (s - nb) (a + nb) (starts_right 0 xs (used nb ∷ used (s - nb) ∷ ys) (a + nb) (used (s - nb)) (inr (inl (refl, refl)))))))))
    where
      place : wrap e (enc e a + enc e nb) ≡ enc e (a + nb)
      place = small_sum e a nb (omega (arith, room, end_ge (a + s) ys))

      Shrunk : Store → Type 0
      Shrunk t = Held e t.image t.words (shrink e h a s nb) []

      test : ltb (enc e (s - nb)) (W e * 4) ≡ ltb (s - nb) 4
      test = ltb_bytes e (s - nb) 4

      ws : List ℕ
      ws = split_used_words e w a nb (s - nb)

      fits : a + s + 1 < length w
      fits = omega (arith, tail.top.ends, tail.top.least, end_ge (a + s) ys)

      words : 4 ≤ s - nb → inuse_w e (inuse_w e w (enc e a) (enc e nb)) (wrap e (enc e a + enc e nb)) (enc e (s - nb)) ≡ ws
      words u =
          ap (λ c. inuse_w e (inuse_w e w (enc e a) (enc e nb)) c (enc e (s - nb))) place
          ∙ split_used_plain e w a nb (s - nb) l (omega arith) (omega (arith, room, end_ge (a + s) ys)) (omega (arith, fits))
          (ap (λ i. get_or w i 0 % 2) (let z : a + nb + (s - nb) + 1 ≡ a + s + 1 = omega arith in z) ∙ next_odd e w (a + s) ys h.top (record { run = tail.run.1; top = tail.top }))

      cut : 4 ≤ s - nb → Held e r ws (heap_chunks h (xs ++ (used nb ∷ used (s - nb) ∷ ys))) []
      cut u =
          swap_step e r w ws h [] [] xs (used s ∷ []) (used nb ∷ used (s - nb) ∷ []) ys q n
          (split_used e w a (last_use true xs) s tail.run.0 nb (s - nb) (omega arith) v l u (omega (arith, fits))) (λ x. omega arith) (λ x. refl)

-- ---- grow

module _ (e : Edition) (r w : List ℕ) (h : Heap) (n : Held e r w h []) (xs : List Chunk) (s nb : ℕ) (v : nb % 2 ≡ 0) (l : 4 ≤ nb) where
  abbrev p : ℕ
  p = end_of 0 xs

  abbrev Grown : Option Heap → Type 0
  Grown o =
      Agrees e r w
      (pick (eqb (enc e (p + s)) (get_or r 4 0)) (grow_top e r w (enc e p) (wrap e (enc e s + get_or r 5 0)) (enc e nb))
      (pick (eqb (enc e (p + s)) (get_or r 2 0)) (grow_dv e r w (enc e p) (wrap e (enc e s + get_or r 3 0)) (enc e nb))
      (pick (cinuse_b e w (enc e (p + s))) (tried false r w) (grow_binned e r w (enc e p) (enc e s) (enc e (p + s)) (enc e nb))))) o

  top_is : (ys : List Chunk) → h.chunks ≡ xs ++ (used s ∷ ys) → get_or r 4 0 ≡ enc e (end_of (p + s) ys)
  top_is ys q = top_at_lem e r w h [] n ∙ ap (enc e) (ap (end_of 0) q ∙ end_append 0 xs (used s ∷ ys))

  not_top : (c : Chunk) (ys : List Chunk) → h.chunks ≡ xs ++ (used s ∷ c ∷ ys) → 4 ≤ size c → eqb (enc e (p + s)) (get_or r 4 0) ≡ false
  not_top c ys q u = ne_eqb (enc e (p + s)) (get_or r 4 0) (λ z. omega (arith, enc_inj e (end_of (p + s + size c) ys) (p + s) (sym (top_is (c ∷ ys) q) ∙ sym z), end_ge (p + s + size c) ys))

  into_top : h.chunks ≡ xs ++ (used s ∷ []) → Grown (grow_in e h xs p s nb [])
  unfolding grow_top
  into_top q =
      rw (eq-eqb (enc e (p + s)) (get_or r 4 0) (sym (top_is [] q)), all, leb_bytes e (s + h.top) nb)
      (pick_case (λ t. Agrees e r w t (grow_in e h xs p s nb [])) (leb (s + h.top) nb)
      (λ z. rw (le-ltb nb (s + h.top) (leb-true (s + h.top) nb z)) refl)
      (λ z. let u = leb-false (s + h.top) nb z in
      subst (λ t. Agrees e r w t (grow_in e h xs p s nb [])) (sym (grown u))
      (rw (lt-ltb nb (s + h.top) u) (
        refl,
        subst (λ k. Held e (set_top r (enc e k) (enc e (s + h.top - nb))) ws (heap_tiles h (xs ++ (used nb ∷ [])) (s + h.top - nb)) []) (end_append 0 xs (used nb ∷ []))
            (swap_top_step e r w ws h [] [] xs (used s ∷ []) (used nb ∷ []) (s + h.top - nb) q n (simp length-set)
            (grow_top_lem e w 0 true xs s h.top nb (s + h.top - nb) (omega arith) v l (omega arith) (subst (λ c. Heads e w c h.top) q n.near.heads))
            (λ i k. get_or-set_other (set w (p + 1) (kept_head e w p nb)) (p + nb + 1) i (W e * (s + h.top - nb) + 1) 0 (λ y. omega arith) ∙ get_or-set_other w (p + 1) i (kept_head e w p nb) 0 (λ y. omega arith))
            (λ x. omega arith) (λ x. refl)),
      ))))
    where
      tl : HeadsFrom e w p (last_use true xs) (used s ∷ []) h.top
      tl = tail e r w h n xs s [] q

      near : p + s + h.top ≤ 8192
      near = omega (arith, tl.top.ends, n.near.most)

      all : wrap e (enc e s + get_or r 5 0) ≡ enc e (s + h.top)
      all = ap (λ z. wrap e (enc e s + z)) (top_size_lem e r w h [] n) ∙ small_sum e s h.top (omega (arith, near))

      ws : List ℕ
      ws = grow_top_words e w p nb (s + h.top - nb)

      grown : nb < s + h.top → tried true (set_top r (wrap e (enc e p + enc e nb)) (enc e (s + h.top) - enc e nb)) (top_w e (inuse_w e w (enc e p) (enc e nb)) (wrap e (enc e p + enc e nb)) (enc e (s + h.top) - enc e nb))
          ≡ tried true (set_top r (enc e (p + nb)) (enc e (s + h.top - nb))) ws
      grown u =
          ap (λ k. tried true (set_top r (wrap e (enc e p + enc e nb)) k) (top_w e (inuse_w e w (enc e p) (enc e nb)) (wrap e (enc e p + enc e nb)) k)) (small_rest e (s + h.top) nb)
          ∙ ap (λ c. tried true (set_top r c (enc e (s + h.top - nb))) (top_w e (inuse_w e w (enc e p) (enc e nb)) c (enc e (s + h.top - nb)))) (small_sum e p nb (omega (arith, near)))
          ∙ ap (tried true (set_top r (enc e (p + nb)) (enc e (s + h.top - nb)))) (grow_top_plain e w p nb (s + h.top - nb) l (omega arith) (omega (arith, near)) (omega (arith, tl.top.ends)))

  before_used : (m : ℕ) (ys : List Chunk) → h.chunks ≡ xs ++ (used s ∷ used m ∷ ys) → Grown none
  before_used m ys q =
      rw (not_top (used m) ys q ua.least, dv_test e r w h [] (p + s) n, not_dv h.dv n.near.spare, cinuse_plain e w (p + s) m 3 (ua.head ∙ omega arith) ua.even (omega arith)) refl
    where
      tl : HeadsFrom e w p (last_use true xs) (used s ∷ used m ∷ ys) h.top
      tl = tail e r w h n xs s (used m ∷ ys) q

      ua : UsedAt e w (p + s) true m
      ua = tl.run.1.0

      here : Starts 0 h.chunks (p + s) (used m)
      here = subst (λ c. Starts 0 c (p + s) (used m)) (sym q) (starts_right 0 xs (used s ∷ used m ∷ ys) (p + s) (used m) (inr (inl (refl, refl))))

      differ : {B : Type 0} (x y : ℕ) → free x ≡ used y → B
      differ x y z = let k : ◌≡◌ {A = ℕ} 0 1 = cc in absurd (let b : ⊥ = omega arith in b)

      not_dv : (d : Option ℕ) → SpareAt e (decode r).dv (decode r).dv_size h.chunks d → is_place d (p + s) ≡ false
      not_dv none sp = refl
      not_dv (some d) sp =
          ne_eqb d (p + s) (λ z. ⊎_elim (λ y. differ sp.0 m y.1)
          (λ y. ⊎_elim (λ k. omega (arith, (starts_at_lem e w 0 true h.chunks d (free sp.0) n.near.heads.run sp.1).1.least)) (λ k. omega (arith, ua.least)) y)
          (starts_apart e w 0 true h.chunks d (free sp.0) (p + s) (used m) n.near.heads.run sp.1 here))

  before-free : (b : ℕ) (ys : List Chunk) → h.chunks ≡ xs ++ (used s ∷ free b ∷ ys) → Grown (grow_in e h xs p s nb (free b ∷ ys))
  unfolding grow_binned grow_dv
  before-free b ys q =
      rw (not_top (free b) ys q fa.least, dv_test e r w h [] (p + s) n, cinuse_plain e w (p + s) b 1 fa.head fa.even (omega arith))
      (by (λ z. Agrees e r w (pick z (grow_dv e r w (enc e p) (wrap e (enc e s + get_or r 3 0)) (enc e nb)) (grow_binned e r w (enc e p) (enc e s) (enc e (p + s)) (enc e nb)))
      (pick (leb nb (s + b)) (some (pick z spared (shrink e (heap_chunks (unbin e h (p + s) b) (xs ++ (used (s + b) ∷ ys))) p (s + b) nb))) none)) (is_dv h (p + s))
      (λ z. into_dv (place_some h.dv (p + s) z)) into_bin)
    where
      tl : HeadsFrom e w p (last_use true xs) (used s ∷ free b ∷ ys) h.top
      tl = tail e r w h n xs s (free b ∷ ys) q

      fa : FreeAt e w (p + s) true b
      fa = tl.run.1.0

      -- what follows the neighbour, on any words that hold these chunks
      after : (w' : List ℕ) (h' : Heap) → HeadsFrom e w' p (last_use true xs) (used s ∷ free b ∷ ys) h'.top → NextUsed e w' (p + s) b ys (length w')
      after w' h' t = next_used e w' (p + s) true b ys h'.top (record { run = t.run.1; top = t.top })

      nx : NextUsed e w (p + s) b ys (length w)
      nx = after w h tl

      near : p + s + b ≤ 8192
      near = omega (arith, nx.fits, n.near.most)

      next : Starts 0 h.chunks (p + s) (free b)
      next = subst (λ c. Starts 0 c (p + s) (free b)) (sym q) (starts_right 0 xs (used s ∷ free b ∷ ys) (p + s) (free b) (inr (inl (refl, refl))))

      spared : Heap
      spared = pick (leb 4 (s + b - nb)) (heap_dv (heap_chunks h (xs ++ (used nb ∷ free (s + b - nb) ∷ ys))) (some (p + nb))) (heap_dv (heap_chunks h (xs ++ (used (s + b) ∷ ys))) none)

      -- a head without PINUSE is even
      even : (e : Edition) (x m : ℕ) → x ≡ W e * m + 2 + 0 → x % 2 ≡ 0
      even wide x m z = omega arith
      even narrow x m z = omega arith

      -- the whole neighbour is taken in
      whole : (r' w' : List ℕ) (h' : Heap) → Held e r' w' h' ((p + s) ∷ []) → h'.chunks ≡ h.chunks → h'.top ≡ h.top → length w' ≡ length w
          → Held e r' (inuse_w e w' (enc e p) (enc e (s + b))) (heap_chunks h' (xs ++ (used (s + b) ∷ ys))) []
      whole r' w' h' m z u k =
          subst (λ x. Held e r' x (heap_chunks h' (xs ++ (used (s + b) ∷ ys))) [])
          (sym (take_next_plain e w' p (s + b) (omega (arith, fa.least)) (omega (arith, near)) (ap (λ i. get_or w' i 0 % 2) (let y : p + (s + b) + 1 ≡ p + s + b + 1 = omega arith in y) ∙ even e (get_or w' (p + s + b + 1) 0) nx'.words nx'.here.head)))
          (subst (λ c. Held e r' (take_next_words e w' p (s + b)) (heap_chunks h' (xs ++ (used (s + b) ∷ c))) []) (sym nx'.whole)
          (swap_step e r' w' (take_next_words e w' p (s + b)) h' ((p + s) ∷ []) [] xs (used s ∷ free b ∷ used nx'.words ∷ []) (used (s + b) ∷ used nx'.words ∷ []) nx'.after
          (z ∙ q ∙ ap (λ c. xs ++ (used s ∷ free b ∷ c)) nx'.whole) m
          (take_next e w' p (last_use true xs) s t.run.0 b nx'.words t.run.1.0.even nx'.here nx'.fits)
          (λ x. omega arith) (λ x. omega arith)))
        where
          t : HeadsFrom e w' p (last_use true xs) (used s ∷ free b ∷ ys) h'.top
          t = heads_right e w' 0 true xs (used s ∷ free b ∷ ys) h'.top (subst (λ c. Heads e w' c h'.top) (z ∙ q) m.near.heads)

          nx' : NextUsed e w' (p + s) b ys (length w')
          nx' = after w' h' t

      into_bin : is_dv h (p + s) ≡ false → Agrees e r w (grow_binned e r w (enc e p) (enc e s) (enc e (p + s)) (enc e nb))
          (pick (leb nb (s + b)) (some (shrink e (heap_chunks (unbin e h (p + s) b) (xs ++ (used (s + b) ∷ ys))) p (s + b) nb)) none)
      into_bin z =
          rw (size_plain e w (p + s) b 1 fa.head fa.even (omega arith), small_sum e s b (omega (arith, near)), ltb_bytes e (s + b) nb, small_rest e (s + b) nb)
          (pick_case (λ t. Agrees e r w t (pick (leb nb (s + b)) (some (shrink e g p (s + b) nb)) none)) (ltb (s + b) nb)
          (λ y. rw (lt-leb nb (s + b) (ltb-true (s + b) nb y)) refl)
          (λ y. let fit = ltb-false (s + b) nb y in rw (le-leb nb (s + b) fit)
          (refl, shrink_obeys e r₁ (inuse_w e w₁ (enc e p) (enc e (s + b))) g (whole r₁ w₁ (unbin e h (p + s) b) out lv.0 lv.2 same_length) xs (s + b) ys refl nb v l fit)))
        where
          lv : ((unbin e h (p + s) b).chunks ≡ h.chunks) × ((unbin e h (p + s) b).dv ≡ h.dv) × ((unbin e h (p + s) b).top ≡ h.top)
          lv = unbin_leaves e h (p + s) b

          g : Heap
          g = heap_chunks (unbin e h (p + s) b) (xs ++ (used (s + b) ∷ ys))

          r₁ : List ℕ
          r₁ = (unlink_chunk e r w (enc e (p + s)) (enc e b)).image

          w₁ : List ℕ
          w₁ = (unlink_chunk e r w (enc e (p + s)) (enc e b)).words

          out : Held e r₁ w₁ (unbin e h (p + s) b) ((p + s) ∷ [])
          out = unlink_step e r w h [] (p + s) b n next (omega (arith, place_none h.dv (p + s) z))

          same_length : length w₁ ≡ length w
          same_length = omega (arith, out.near.heads.top.ends, n.near.heads.top.ends, ap (end_of 0) lv.0, lv.2)

      into_dv : h.dv ≡ some (p + s) → Agrees e r w (grow_dv e r w (enc e p) (wrap e (enc e s + get_or r 3 0)) (enc e nb)) (pick (leb nb (s + b)) (some spared) none)
      into_dv d =
          rw (all, ltb_bytes e (s + b) nb, small_rest e (s + b) nb, ltb_bytes e (s + b - nb) 4)
          (pick_case (λ t. Agrees e r w t (pick (leb nb (s + b)) (some spared) none)) (ltb (s + b) nb)
          (λ y. rw (lt-leb nb (s + b) (ltb-true (s + b) nb y)) refl)
          (λ y. rw (le-leb nb (s + b) (ltb-false (s + b) nb y)) (cut (ltb-false (s + b) nb y))))
        where
          r₀ : List ℕ
          r₀ = set_dv r (no_link e) 0

          loose : Held e r₀ w (heap_dv h none) ((p + s) ∷ [])
          loose = drop_step e r w h (p + s) [] d n

          width : (o : Option ℕ) → o ≡ some (p + s) → SpareAt e (decode r).dv (decode r).dv_size h.chunks o → (decode r).dv_size ≡ enc e b
          width o z sp =
              let k = subst (SpareAt e (decode r).dv (decode r).dv_size h.chunks) z sp in
              k.3 ∙ ap (enc e) (one_size e w h.chunks h.top (p + s) k.0 b n.near.heads k.1 next)

          all : wrap e (enc e s + get_or r 3 0) ≡ enc e (s + b)
          all = ap (λ z. wrap e (enc e s + z)) ((decode_is r).1 ∙ width h.dv d n.near.spare) ∙ small_sum e s b (omega (arith, near))

          ws : List ℕ
          ws = grow_rest_words e w p nb (s + b - nb)

          rest_words : nb ≤ s + b → 4 ≤ s + b - nb
              → unpin_w e (free_w e (inuse_w e w (enc e p) (enc e nb)) (wrap e (enc e p + enc e nb)) (enc e (s + b - nb))) (wrap e (enc e p + enc e (s + b))) ≡ ws
          rest_words fit u =
              ap₂ (λ x y. unpin_w e (free_w e (inuse_w e w (enc e p) (enc e nb)) x (enc e (s + b - nb))) y) (small_sum e p nb (omega (arith, near)))
              (small_sum e p (s + b) (omega (arith, near)) ∙ ap (enc e) (let z : p + (s + b) ≡ p + nb + (s + b - nb) = omega arith in z))
              ∙ grow_rest_plain e w p nb (s + b - nb) l (omega arith) (omega (arith, near)) (omega (arith, nx.fits))
              (ap (λ i. get_or w i 0 % 2) (let z : p + nb + (s + b - nb) + 1 ≡ p + s + b + 1 = omega arith in z) ∙ even e (get_or w (p + s + b + 1) 0) nx.words nx.here.head)

          cut : nb ≤ s + b → Agrees e r w (pick (ltb (s + b - nb) 4) (tried true r₀ (inuse_w e w (enc e p) (enc e (s + b))))
              (tried true (set_dv r (wrap e (enc e p + enc e nb)) (enc e (s + b - nb))) (unpin_w e (free_w e (inuse_w e w (enc e p) (enc e nb)) (wrap e (enc e p + enc e nb)) (enc e (s + b - nb))) (wrap e (enc e p + enc e (s + b)))))) (some spared)
          cut fit =
              pick_case (λ t. Agrees e r w t (some spared)) (ltb (s + b - nb) 4)
              (λ z. rw (lt-leb 4 (s + b - nb) (ltb-true (s + b - nb) 4 z)) (refl, whole r₀ w (heap_dv h none) loose refl refl refl))
              (λ z. let u = ltb-false (s + b - nb) 4 z in
              rw (le-leb 4 (s + b - nb) u) (
                refl,
                subst (λ x. Held e (set_dv r (wrap e (enc e p + enc e nb)) (enc e (s + b - nb))) x (heap_dv (heap_chunks h (xs ++ (used nb ∷ free (s + b - nb) ∷ ys))) (some (p + nb))) []) (sym (rest_words fit u))
                    (subst (λ c. Held e (set_dv r c (enc e (s + b - nb))) ws (heap_dv (heap_chunks h (xs ++ (used nb ∷ free (s + b - nb) ∷ ys))) (some (p + nb))) []) (sym (small_sum e p nb (omega (arith, near))))
                    (subst (λ x. Held e x ws (heap_dv (heap_chunks h (xs ++ (used nb ∷ free (s + b - nb) ∷ ys))) (some (p + nb))) []) (dv_twice r (no_link e) 0 (enc e (p + nb)) (enc e (s + b - nb)) n.image)
                    (dv_step e r₀ ws (heap_chunks (heap_dv h none) (xs ++ (used nb ∷ free (s + b - nb) ∷ ys))) (p + nb) (s + b - nb) [] refl
                    (swap_step e r₀ w ws (heap_dv h none) ((p + s) ∷ []) ((p + nb) ∷ []) xs (used s ∷ free b ∷ []) (used nb ∷ free (s + b - nb) ∷ []) ys q loose
                    (grow_rest e w p (last_use true xs) s tl.run.0 b nb (s + b - nb) (omega arith) fa.even v l u (omega (arith, nx.fits))) (λ x. omega arith) (λ x. omega arith))
                    (starts_right 0 xs (used nb ∷ free (s + b - nb) ∷ ys) (p + nb) (free (s + b - nb)) (inr (inl (refl, refl))))))),
              ))

grow_agrees : (e : Edition) (r w : List ℕ) (h : Heap) (n : Held e r w h []) (xs : List Chunk) (s nb : ℕ) (v : nb % 2 ≡ 0) (l : 4 ≤ nb) (ys : List Chunk) → h.chunks ≡ xs ++ (used s ∷ ys) → Grown e r w h n xs s nb v l (grow_in e h xs (end_of 0 xs) s nb ys)
grow_agrees e r w h n xs s nb v l [] q = into_top e r w h n xs s nb v l q
grow_agrees e r w h n xs s nb v l (used m ∷ ys) q = before_used e r w h n xs s nb v l m ys q
grow_agrees e r w h n xs s nb v l (free b ∷ ys) q = before-free e r w h n xs s nb v l b ys q

pub resize_agrees : (e : Edition) (r w : List ℕ) (h : Heap) → Held e r w h [] → (xs : List Chunk) (s nb : ℕ) → nb % 2 ≡ 0 → 4 ≤ nb → (ys : List Chunk) → h.chunks ≡ xs ++ (used s ∷ ys)
    → Agrees e r w (try_realloc e r w (enc e (end_of 0 xs)) (enc e nb)) (resize_here e h xs (end_of 0 xs) s nb ys)
unfolding try_realloc
resize_agrees e r w h n xs s nb v l ys q =
    rw (size_plain e w (end_of 0 xs) s (2 + bit (last_use true xs)) (tl.run.0.head ∙ omega arith) tl.run.0.even (flags_below (last_use true xs)), small_sum e (end_of 0 xs) s (omega (arith, tl.top.ends, end_ge (end_of 0 xs + s) ys, n.near.most)), leb_bytes e nb s, small_rest e s nb)
    (agree_pick e r w (leb nb s) (leb nb s) _ _ (some (shrink e h (end_of 0 xs) s nb)) (grow_in e h xs (end_of 0 xs) s nb ys) refl
    (λ z. (refl, shrink_obeys e r w h n xs s ys q nb v l (leb-true nb s z))) (λ z. grow_agrees e r w h n xs s nb v l ys q))
  where
    tl : HeadsFrom e w (end_of 0 xs) (last_use true xs) (used s ∷ ys) h.top
    tl = tail e r w h n xs s ys q
