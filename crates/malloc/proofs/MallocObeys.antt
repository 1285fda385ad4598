-- MALLOC OBEYS ITS RULE: where image and words hold a heap, the answer is the rule's and what is left holds the rule's heap; where the rule
-- refuses, nothing changes. By the step laws of the bins and of the tiling: each branch is a few steps, each test in bytes is the rule's test.
-- Assumes nothing.
use Rattle.std.specs.Prelude.{◌≡◌, refl, true, List, [], ◌∷◌, ℕ, ◌+◌, ◌-◌, ◌*◌, ◌%◌, ◌≤◌, leb, ltb, get_or}
use Rattle.std.proofs.Common.{sym, ◌∙◌, ap, subst, arith, leb-true, leb-false, ltb-true, ltb-false, le-leb, lt-ltb, le-ltb}
use Rattle.std.proofs.Math.Option.{Option, none, some}
use Rattle.std.proofs.lemmas.Bool.{lt-leb}
use Rattle.words.specs.Logic.{pick, pick_case}
use Rattle.words.specs.Edition.{Edition, W, no_link, enc}
use Rattle.tiling.specs.Tiling.{used, free, Starts}
use Rattle.rules.specs.Heap.{Heap, heap_dv, heap_chunks}
use Rattle.rules.specs.Binning.{size_at, retile, spare_words, dv_words}
use Rattle.rules.specs.Malloc.{Grant, Rest, to_dv, to_bin, settle, serve, from_top, from_spare_or_top, from_dv_or_top}
use Rattle.holds.specs.Holds.{SpareAt}
use Rattle.holds.specs.Ops.{state}
use Rattle.holds.specs.Spot.{spot, looked_up}
use Rattle.chunk.specs.Bytes.{Store, wrap, set_dv, take_w, split_w}
use Rattle.chunk.specs.Image.{decode}
use Rattle.chunk.specs.Plain.{small_sum, small_rest}
use Rattle.chunk.specs.Held.{Held, leb_bytes, ltb_bytes, top_at_lem, top_size_lem, dv_size_lem, dv_at_lem, dv_twice, drop_step, dv_step, top_step, split_step, take_step}
use Rattle.malloc.specs.MallocBytes.{settle_b, serve_b, malloc_top, cut_dv, malloc_dv}
use Rattle.treebin.specs.BinningSteps.{insert_step, replace_step}
use Rattle.malloc.specs.MallocObeys.{Obeys}

pub serve-place : (e : Edition) (k : Rest) (h : Heap) (p s nb : ℕ) → (serve e k h p s nb).place ≡ p
serve-place e k h p s nb = pick_case (λ (g : Grant). g.place ≡ p) (leb 4 (s - nb)) (λ _. refl) (λ _. refl)

-- ---- from a loose free chunk

pub settle_step : (e : Edition) (k : Rest) (r w : List ℕ) (h : Heap) (loose : List ℕ) (p s : ℕ) → Held e r w h (p ∷ loose) → Starts 0 h.chunks p (free s)
    → Held e (settle_b e k r w (enc e p) (enc e s)).image (settle_b e k r w (enc e p) (enc e s)).words (settle e k h p s) loose
unfolding settle_b
settle_step e to_dv r w h loose p s n st = replace_step e r w h loose p s n st
settle_step e to_bin r w h loose p s n st = insert_step e r w h loose p s n st

-- the remainder, cut off or left with the block
pub serve_step : (e : Edition) (k : Rest) (r w : List ℕ) (h : Heap) (loose : List ℕ) (p s nb : ℕ) → nb % 2 ≡ 0 → 4 ≤ nb → nb ≤ s → Held e r w h (p ∷ loose) → Starts 0 h.chunks p (free s)
    → Held e (serve_b e k r w (enc e p) (enc e nb) (enc e (s - nb))).image (serve_b e k r w (enc e p) (enc e nb) (enc e (s - nb))).words (serve e k h p s nb).heap loose
unfolding serve_b
serve_step e k r w h loose p s nb v l fit n st =
    pick_case Served (ltb (enc e (s - nb)) (W e * 4))
    (λ z. subst (λ c. Held e r (take_w e w (enc e p) c) (serve e k h p s nb).heap loose) (sym whole)
    (rw (lt-leb 4 (s - nb) (ltb-true (s - nb) 4 (sym test ∙ z))) (take_step e r w h p s loose st n)))
    (λ z. let u = ltb-false (s - nb) 4 (sym test ∙ z) in
    let g = split_step e r w h p s loose st n nb v l (omega arith) in
    subst (λ c. Served (settle_b e k r (split_w e w (enc e p) (enc e nb) (enc e (s - nb))) c (enc e (s - nb)))) (sym (small_sum e p nb (omega (arith, near))))
    (rw (le-leb 4 (s - nb) u) (settle_step e k r (split_w e w (enc e p) (enc e nb) (enc e (s - nb))) (heap_chunks h (retile 0 h.chunks p (used nb ∷ free (s - nb) ∷ []))) loose (p + nb) (s - nb) g.0 g.1)))
  where
    Served : Store → Type 0
    Served t = Held e t.image t.words (serve e k h p s nb).heap loose

    near : p + s ≤ 8192
    near = let k = spot e (state (decode r) w) h (p ∷ loose) p s n.near st in omega (arith, k.place, k.next.fits, n.near.most)

    whole : wrap e (enc e nb + enc e (s - nb)) ≡ enc e s
    whole = small_sum e nb (s - nb) (omega (arith, near)) ∙ ap (enc e) (let q : nb + (s - nb) ≡ s = omega arith in q)

    test : ltb (enc e (s - nb)) (W e * 4) ≡ ltb (s - nb) 4
    test = ltb_bytes e (s - nb) 4

-- ---- the top, the spare chunk

pub top_obeys : (e : Edition) (r w : List ℕ) (h : Heap) (nb : ℕ) → nb % 2 ≡ 0 → 4 ≤ nb → Held e r w h [] → Obeys e r w (malloc_top e r w (enc e nb)) (from_top h nb)
unfolding malloc_top
top_obeys e r w h nb v l n =
    rw (top_at_lem e r w h [] n, top_size_lem e r w h [] n, leb_bytes e h.top nb)
    (pick_case (λ a. Obeys e r w a (from_top h nb)) (leb h.top nb)
    (λ z. rw (le-ltb nb h.top (leb-true h.top nb z)) refl)
    (λ z. rw (lt-ltb nb h.top (leb-false h.top nb z)) (refl, top_step e r w h nb v l (leb-false h.top nb z) n)))

-- the spare chunk at d, of s words, serves
dv_cut : (e : Edition) (r w : List ℕ) (h : Heap) (d s nb : ℕ) → nb % 2 ≡ 0 → 4 ≤ nb → nb ≤ s → h.dv ≡ some d → Starts 0 h.chunks d (free s) → Held e r w h []
    → Obeys e r w (cut_dv e r w (enc e d) (enc e s) (enc e nb) (enc e (s - nb))) (some (serve e to_dv (heap_dv h none) d s nb))
unfolding cut_dv
dv_cut e r w h d s nb v l fit q st n =
    rw (ltb_bytes e (s - nb) 4) (pick_case (λ a. Obeys e r w a (some (serve e to_dv (heap_dv h none) d s nb))) (ltb (s - nb) 4)
    (λ z. rw (lt-leb 4 (s - nb) (ltb-true (s - nb) 4 z)) (refl, take_step e r₀ w (heap_dv h none) d s [] st loose))
    (λ z. rw (le-leb 4 (s - nb) (ltb-false (s - nb) 4 z)) (refl, cut (ltb-false (s - nb) 4 z))))
  where
    r₀ : List ℕ
    r₀ = set_dv r (no_link e) 0

    loose : Held e r₀ w (heap_dv h none) (d ∷ [])
    loose = drop_step e r w h d [] q n

    near : d + s ≤ 8192
    near = let k = spot e (state (decode r) w) h [] d s n.near st in omega (arith, k.place, k.next.fits, n.near.most)

    cut : 4 ≤ s - nb → Held e (set_dv r (wrap e (enc e d + enc e nb)) (enc e (s - nb))) (split_w e w (enc e d) (enc e nb) (enc e (s - nb)))
        (heap_dv (heap_chunks (heap_dv h none) (retile 0 h.chunks d (used nb ∷ free (s - nb) ∷ []))) (some (d + nb))) []
    cut u =
        let g = split_step e r₀ w (heap_dv h none) d s [] st loose nb v l (omega arith) in
        subst (λ x. Held e (set_dv r x (enc e (s - nb))) (split_w e w (enc e d) (enc e nb) (enc e (s - nb)))
        (heap_dv (heap_chunks (heap_dv h none) (retile 0 h.chunks d (used nb ∷ free (s - nb) ∷ []))) (some (d + nb))) []) (sym (small_sum e d nb (omega (arith, near))))
        (subst (λ x. Held e x (split_w e w (enc e d) (enc e nb) (enc e (s - nb))) (heap_dv (heap_chunks (heap_dv h none) (retile 0 h.chunks d (used nb ∷ free (s - nb) ∷ []))) (some (d + nb))) [])
        (dv_twice r (no_link e) 0 (enc e (d + nb)) (enc e (s - nb)) n.image)
        (dv_step e r₀ (split_w e w (enc e d) (enc e nb) (enc e (s - nb))) (heap_chunks (heap_dv h none) (retile 0 h.chunks d (used nb ∷ free (s - nb) ∷ []))) (d + nb) (s - nb) [] refl g.0 g.1))

pub dv_obeys : (e : Edition) (r w : List ℕ) (h : Heap) (nb : ℕ) → nb % 2 ≡ 0 → 4 ≤ nb → Held e r w h [] → Obeys e r w (malloc_dv e r w (enc e nb)) (from_dv_or_top e h nb)
unfolding malloc_dv
dv_obeys e r w h nb v l n = go h.dv refl n.near.spare
  where
    size : get_or r 3 0 ≡ enc e (dv_words h)
    size = dv_size_lem e r w h [] n

    go : (d : Option ℕ) → h.dv ≡ d → SpareAt e (decode r).dv (decode r).dv_size h.chunks d
        → Obeys e r w (pick (ltb (get_or r 3 0) (enc e nb)) (malloc_top e r w (enc e nb)) (cut_dv e r w (get_or r 2 0) (get_or r 3 0) (enc e nb) (get_or r 3 0 - enc e nb))) (from_spare_or_top e h d nb)
    go none q sp =
        let z : ltb (get_or r 3 0) (enc e nb) ≡ true = ap (λ x. ltb x (enc e nb)) size ∙ ltb_bytes e (dv_words h) nb ∙ ap (λ d. ltb (spare_words h.chunks d) nb) q ∙ lt-ltb 0 nb (omega arith) in
        rw z (top_obeys e r w h nb v l n)
    go (some d) q sp =
        let s = sp.0 in
        let at : get_or r 2 0 ≡ enc e d = dv_at_lem e r w h [] n d q in
        let here : size_at 0 h.chunks d ≡ s = looked_up e (state (decode r) w) h [] d s n.near sp.1 in
        let long : get_or r 3 0 ≡ enc e s = size ∙ ap (λ o. enc e (spare_words h.chunks o)) q ∙ ap (enc e) here in
        rw (at, long, here, ltb_bytes e s nb, small_rest e s nb)
        (pick_case (λ a. Obeys e r w a (pick (leb nb s) (some (serve e to_dv (heap_dv h none) d s nb)) (from_top h nb))) (ltb s nb)
        (λ z. rw (lt-leb nb s (ltb-true s nb z)) (top_obeys e r w h nb v l n))
        (λ z. rw (le-leb nb s (ltb-false s nb z)) (dv_cut e r w h d s nb v l (ltb-false s nb z) q sp.1 n)))
