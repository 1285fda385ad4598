-- MEMALIGN OBEYS ITS RULE on every held heap: malloc's request for the sum, then the lead is given back, then the tail. The lead in bytes is
-- the rule's lead in words. Assumes nothing.
use Rattle.std.specs.Prelude.{◌≡◌, true, false, leb, eqb, length}
use Rattle.std.proofs.Math.Path.{refl, ap₂}
use Rattle.std.proofs.Common.{sym, ◌∙◌, ap, subst, inl, ⊎_elim, arith, div-add-mod', mod-lt, mul_comm, suc-mul, eqb-true, ltb-true, eq-eqb, ne_eqb, lt-ltb, le-ltb, le-leb}
use mathlib.Core.List.{List, [], ◌∷◌, ◌++◌}
use Rattle.std.proofs.Math.Option.{Option, none, some}
use Prim.Native.Nat.{ℕ, zero, suc, ◌+◌, ◌-◌, ◌*◌, ◌/◌, ◌%◌, ◌^◌, ◌≤◌, ◌<◌}
use Rattle.std.proofs.Math.Nat.{div-eq_of_lt, mul-add-div_right}
use Rattle.std.proofs.Math.Arith.{mod-mul}
use Rattle.std.proofs.Math.Dec.{ltb}
use Rattle.std.proofs.lemmas.Bool.{eqb-false, lt-leb}
use Rattle.std.proofs.Math.ListN.{get_or}
use Rattle.words.specs.Logic.{pick, by, same?, le_or_lt}
use Rattle.words.specs.Edition.{Edition, wide, narrow, W, W_pos, no_link, none_free, enc, dec_enc}
use Rattle.index.specs.Sizes.{need, round_up}
use Rattle.tiling.specs.Tiling.{Chunk, used, end_of, last_use, Heads, HeadsFrom, Starts, Split, starts_split, starts_even, starts_in, starts_at_lem}
use Rattle.tiling.specs.Regrow.{split_used_words}
use Rattle.rules.specs.BinOf.{huge}
use Rattle.rules.specs.Heap.{Heap, heap_chunks}
use Rattle.rules.specs.Binning.{size_at, retile}
use Rattle.rules.specs.Malloc.{Grant, malloc}
use Rattle.rules.specs.Free.{give_back}
use Rattle.rules.specs.Realloc.{shrink}
use Rattle.rules.specs.Memalign.{gap, lead_to, give_lead, give_tail, trimmed, aligned, memalign}
use Rattle.rules.specs.Tidy.{starts_right}
use Rattle.rules.specs.Lookup.{split_size}
use Rattle.rules.specs.Blocks.{Grants}
use Rattle.rules.specs.MallocLaws.{malloc-grants}
use Rattle.rules.specs.MemalignLaws.{Lead}
use Rattle.rules.proofs.MemalignLaws.{lead_is, lead_grants}
use Rattle.holds.specs.Ops.{state}
use Rattle.holds.specs.Lookup.{heads_tidy, heads_right}
use Rattle.holds.specs.MallocSource.{malloc_source}
use Rattle.chunk.specs.Bytes.{Store, store, wrap, less, inuse_w}
use Rattle.chunk.specs.Image.{decode}
use Rattle.chunk.specs.Plain.{small_sum, small_less}
use Rattle.chunk.specs.PlainInuse.{lead_plain}
use Rattle.chunk.specs.Held.{Held, leb_bytes, ltb_bytes}
use Rattle.malloc.specs.MallocBytes.{Reply, malloc_b}
use Rattle.malloc.specs.MallocObeys.{Obeys}
use Rattle.malloc.proofs.MallocFollows.{malloc_obeys}
use Rattle.free.specs.FreeBytes.{dispose_b}
use Rattle.free.proofs.FreeObeys.{dispose_obeys}
use Rattle.realloc.specs.ReallocBytes.{cut_back, shrink_b}
use Rattle.realloc.proofs.ReallocObeys.{next_odd, retiled, shrink_obeys}
use Rattle.realloc.proofs.ReallocFollows.{block_size}
use Rattle.realloc.proofs.ResizeReach.{halved-held}
use Rattle.memalign.specs.MemalignBytes.{lead_of, give_lead_b, give_tail_b, trim_b, aligned_b, memalign_b}

-- ---- numbers

-- the request for the sum, rounded: its need
pub request_plain : (e : Edition) (nb al : ℕ) → nb % 2 ≡ 0 → al % 2 ≡ 0 → W e * (nb + al + 4) < huge → wrap e (need (W e) (wrap e (enc e nb + wrap e (enc e al + W e * 3)))) ≡ enc e (nb + al + 4)
unfolding need round_up huge
request_plain wide nb al v a hi =
    let q : wrap wide (8 * nb + wrap wide (8 * al + 8 * 3)) ≡ 8 * (nb + al + 3) = omega arith in
    rw (q, le-ltb (8 * (nb + al + 3)) 23 (omega arith)) (ap (λ k. k % 2 ^ 64) (let z : (8 * (nb + al + 3) + 8 + 15) / 16 * 16 ≡ 8 * (nb + al + 4) = rounded in z) ∙ (let z : 8 * (nb + al + 4) % 2 ^ 64 ≡ 8 * (nb + al + 4) = omega arith in z))
  where
    half : nb + al + 4 ≡ 2 * ((nb + al + 4) / 2)
    half = omega arith

    rounded : (8 * (nb + al + 3) + 8 + 15) / 16 * 16 ≡ 8 * (nb + al + 4)
    rounded = ap (λ k. k / 16 * 16) (let z : 8 * (nb + al + 3) + 8 + 15 ≡ 16 * ((nb + al + 4) / 2) + 15 = omega (arith, half) in z) ∙ omega (arith, half)
request_plain narrow nb al v a hi =
    let q : wrap narrow (4 * nb + wrap narrow (4 * al + 4 * 3)) ≡ 4 * (nb + al + 3) = omega arith in
    rw (q, le-ltb (4 * (nb + al + 3)) 11 (omega arith)) (ap (λ k. k % 2 ^ 32) (let z : (4 * (nb + al + 3) + 4 + 7) / 8 * 8 ≡ 4 * (nb + al + 4) = rounded in z) ∙ (let z : 4 * (nb + al + 4) % 2 ^ 32 ≡ 4 * (nb + al + 4) = omega arith in z))
  where
    half : nb + al + 4 ≡ 2 * ((nb + al + 4) / 2)
    half = omega arith

    rounded : (4 * (nb + al + 3) + 4 + 7) / 8 * 8 ≡ 4 * (nb + al + 4)
    rounded = ap (λ k. k / 8 * 8) (let z : 4 * (nb + al + 3) + 4 + 7 ≡ 8 * ((nb + al + 4) / 2) + 7 = omega (arith, half) in z) ∙ omega (arith, half)

mod_bytes : (e : Edition) (x al : ℕ) → 0 < al → enc e x % enc e al ≡ enc e (x % al)
mod_bytes e x al pos =
    ap (λ z. enc e x % z) (mul_comm (W e) al) ∙ mod-mul (enc e x) {m = al} {c = W e} pos (W_pos e)
    ∙ ap₂ (λ q o. q % al * W e + o) (dec_enc e x) (none_left e) ∙ flip e (x % al)
  where
    none_left : (e : Edition) → enc e x % W e ≡ 0
    none_left wide = omega arith
    none_left narrow = omega arith

    flip : (e : Edition) (y : ℕ) → y * W e + 0 ≡ W e * y
    flip wide y = omega arith
    flip narrow y = omega arith

-- from a place to the next aligned one, by the remainder
gap_is : (p al : ℕ) → 0 < al → gap p al ≡ pick (eqb ((p + 2) % al) 0) 0 (al - (p + 2) % al)
gap_is p al pos =
    by (λ b. eqb o 0 ≡ b → (x + al - 1) / al * al - x ≡ pick b 0 (al - o)) (eqb o 0)
    (λ z _. let y = eqb-true o 0 z in ap (λ k. k * al - x) (split ∙ ap (λ k. x / al + k) (div-eq_of_lt (let u : o + al - 1 < al = omega (arith, y) in u))) ∙ ap (λ k. k * al - x) (let u : x / al + 0 ≡ x / al = omega arith in u) ∙ omega (arith, whole, y))
    (λ z _. let y = some_of o (eqb-false o 0 z) in
    ap (λ k. k * al - x) (split ∙ ap (λ k. x / al + k) (ap (λ k. k / al) (let u : o + al - 1 ≡ 1 * al + (o - 1) = omega (arith, y) in u) ∙ mul-add-div_right pos 1 (o - 1) ∙ ap (λ k. 1 + k) (div-eq_of_lt (let u : o - 1 < al = omega (arith, below) in u))))
    ∙ ap (λ k. k * al - x) (let u : x / al + (1 + 0) ≡ suc (x / al) = omega arith in u) ∙ omega (arith, whole, below, suc-mul (x / al) al)) refl
  where
    x : ℕ
    x = p + 2

    o : ℕ
    o = (p + 2) % al

    whole : x / al * al + o ≡ x
    whole = div-add-mod' x al

    below : o < al
    below = mod-lt x pos

    split : (x + al - 1) / al ≡ x / al + (o + al - 1) / al
    split = ap (λ k. k / al) (let u : x + al - 1 ≡ x / al * al + (o + al - 1) = omega (arith, whole, pos) in u) ∙ mul-add-div_right pos (x / al) (o + al - 1)

    some_of : (y : ℕ) → (y ≡ 0 → ⊥) → 1 ≤ y
    some_of zero f = absurd (f refl)
    some_of (suc y) f = omega arith

pub lead_plain_of : (e : Edition) (p al : ℕ) → 4 ≤ al → al ≤ 1024 → p ≤ 8180 → lead_of e (enc e p) (enc e al) ≡ enc e (lead_to p al)
unfolding lead_of
lead_plain_of e p al l hi near =
    rw (ne_eqb (enc e al) 0 (some_al e), over)
    (by (λ b. eqb ((p + 2) % al) 0 ≡ b → pick (eqb (enc e ((p + 2) % al)) 0) 0 (pick (leb (less e (enc e al) (enc e ((p + 2) % al))) (W e * 4)) (wrap e (less e (enc e al) (enc e ((p + 2) % al)) + enc e al)) (less e (enc e al) (enc e ((p + 2) % al))))
    ≡ enc e (lead_to p al)) (eqb ((p + 2) % al) 0)
    (λ z _. let q = eqb-true ((p + 2) % al) 0 z in rw (eq-eqb (enc e ((p + 2) % al)) 0 (ap (enc e) q ∙ zeros e)) (sym (ap (enc e) (none_needed z) ∙ zeros e)))
    (λ z _. let q = eqb-false ((p + 2) % al) 0 z in
    rw (ne_eqb (enc e ((p + 2) % al)) 0 (λ y. q (none_of e ((p + 2) % al) y)), small_less e al ((p + 2) % al) (omega (arith, below)) (omega arith), leb_bytes e (al - (p + 2) % al) 4, small_sum e (al - (p + 2) % al) al (omega arith))
    (some_lead z)) refl)
  where
    below : (p + 2) % al < al
    below = mod-lt (p + 2) (omega arith)

    some_al : (e : Edition) → enc e al ≡ 0 → ⊥
    some_al wide z = omega arith
    some_al narrow z = omega arith

    zeros : (e : Edition) → enc e 0 ≡ 0
    zeros wide = refl
    zeros narrow = refl

    none_of : (e : Edition) (y : ℕ) → enc e y ≡ 0 → y ≡ 0
    none_of wide y z = omega arith
    none_of narrow y z = omega arith

    two : (e : Edition) → 2 * W e ≡ enc e 2
    two wide = refl
    two narrow = refl

    over : wrap e (enc e p + 2 * W e) % enc e al ≡ enc e ((p + 2) % al)
    over = ap (λ k. wrap e (enc e p + k) % enc e al) (two e) ∙ ap (λ k. k % enc e al) (small_sum e p 2 (omega arith)) ∙ mod_bytes e (p + 2) al (omega arith)

    none_needed : eqb ((p + 2) % al) 0 ≡ true → lead_to p al ≡ 0
    none_needed z =
        let g : gap p al ≡ 0 = gap_is p al (omega arith) ∙ ap (λ b. pick b 0 (al - (p + 2) % al)) z in
        rw (eq-eqb (gap p al) 0 g) refl

    some_lead : eqb ((p + 2) % al) 0 ≡ false → pick (leb (al - (p + 2) % al) 4) (enc e (al - (p + 2) % al + al)) (enc e (al - (p + 2) % al)) ≡ enc e (lead_to p al)
    some_lead z =
        let g : gap p al ≡ al - (p + 2) % al = gap_is p al (omega arith) ∙ ap (λ b. pick b 0 (al - (p + 2) % al)) z in
        sym (ap (λ k. enc e (pick (eqb k 0) 0 (pick (ltb 4 k) k (k + al)))) g
        ∙ rw (ne_eqb (al - (p + 2) % al) 0 (λ y. omega (arith, below)))
        (⊎_elim (λ u. rw (le-ltb 4 (al - (p + 2) % al) u, le-leb (al - (p + 2) % al) 4 u) refl) (λ u. rw (lt-ltb 4 (al - (p + 2) % al) u, lt-leb (al - (p + 2) % al) 4 u) refl) (le_or_lt (al - (p + 2) % al) 4)))

module _ (e : Edition) (r w : List ℕ) (h : Heap) (n : Held e r w h []) (p s : ℕ) (st : Starts 0 h.chunks p (used s)) where
  fits : p + s + 12 ≤ length w
  fits = omega (arith, starts_in e w 0 true h.chunks p (used s) n.near.heads.run st, n.near.heads.top.ends, n.near.heads.top.least)

  pub near : p + s + 12 ≤ 8192
  near = omega (arith, fits, n.near.most)

  -- ---- the lead is split off and given back

  pub lead_words : (k : ℕ) → 4 < k → k + 4 ≤ s → give_lead_b e r w (enc e p) (enc e k) ≡ dispose_b e r (split_used_words e w p k (s - k)) (enc e p) (enc e k)
  unfolding give_lead_b
  lead_words k big fit = rw (block_size e r w h [] p s n st, words (starts_split 0 h.chunks p (used s) st)) refl
    where
      words : Split 0 h.chunks p (used s) → inuse_w e (inuse_w e w (wrap e (enc e p + enc e k)) (less e (enc e s) (enc e k))) (enc e p) (enc e k) ≡ split_used_words e w p k (s - k)
      words d =
          ap₂ (λ x y. inuse_w e (inuse_w e w x y) (enc e p) (enc e k)) (small_sum e p k (omega (arith, near))) (small_less e s k (omega arith) (omega (arith, near)))
          ∙ lead_plain e w p k (s - k) (omega arith) (omega arith) (omega (arith, near)) (omega (arith, fits))
          (ap (λ i. get_or w i 0 % 2) (let z : p + k + (s - k) + 1 ≡ a + s + 1 = omega (arith, d.place) in z) ∙ next_odd e w (a + s) d.after h.top (record { run = t.run.1; top = t.top }))
        where
          a : ℕ
          a = end_of 0 d.before

          t : HeadsFrom e w a (last_use true d.before) (used s ∷ d.after) h.top
          t = heads_right e w 0 true d.before (used s ∷ d.after) h.top (subst (λ c. Heads e w c h.top) d.whole n.near.heads)

  pub lead_step : (k : ℕ) → k % 2 ≡ 0 → 4 < k → k + 4 ≤ s → Held e (give_lead_b e r w (enc e p) (enc e k)).image (give_lead_b e r w (enc e p) (enc e k)).words (give_lead e h p s k) []
  lead_step k v big fit =
      subst (λ (y : Store). Held e y.image y.words (give_lead e h p s k) []) (sym (lead_words k big fit))
      (rw (ne_eqb k 0 (λ z. omega arith)) (go (starts_split 0 h.chunks p (used s) st)))
    where
      Given : ℕ → List Chunk → Type 0
      Given z cs = Held e (dispose_b e r (split_used_words e w z k (s - k)) (enc e z) (enc e k)).image (dispose_b e r (split_used_words e w z k (s - k)) (enc e z) (enc e k)).words (give_back e (heap_chunks h cs) z) []

      go : Split 0 h.chunks p (used s) → Given p (retile 0 h.chunks p (used k ∷ used (s - k) ∷ []))
      go d =
          subst (λ z. Given z (retile 0 h.chunks z (used k ∷ used (s - k) ∷ []))) (sym d.place)
          (subst (Given a) (sym (retiled e r w h n d.before s d.after d.whole (used k ∷ used (s - k) ∷ [])))
          (dispose_obeys e r (split_used_words e w a k (s - k)) (heap_chunks h (d.before ++ (used k ∷ used (s - k) ∷ d.after)))
          (halved-held e r w h n d.before s d.after d.whole k v (omega arith) (omega arith) (omega arith)) k a (starts_right 0 d.before (used k ∷ used (s - k) ∷ d.after) a (used k) (inl (refl, refl)))))
        where
          a : ℕ
          a = end_of 0 d.before

  -- the rest of the block then
  pub lead_rest : (k : ℕ) → k % 2 ≡ 0 → 4 < k → k + 4 ≤ s → Starts 0 (give_lead e h p s k).chunks (p + k) (used (s - k))
  lead_rest k v big fit =
      let g = lead_grants e h (heads_tidy e w h n.near.heads) p s st k v (λ _. big) fit in
      subst (λ m. Starts 0 (give_lead e h p s k).chunks (p + k) (used m)) (let y : g.words ≡ s - k = omega (arith, g.large, g.tight) in y) g.block

  -- ---- the tail

  tail_step : (nb : ℕ) → nb % 2 ≡ 0 → 4 ≤ nb → nb ≤ s → Held e (give_tail_b e r w (enc e p) (enc e nb)).image (give_tail_b e r w (enc e p) (enc e nb)).words (give_tail e h p s nb) []
  unfolding give_tail_b shrink_b
  tail_step nb v l fit =
      rw (block_size e r w h [] p s n st, bound, ltb_bytes e (nb + 4) s)
      (by (λ z. ltb (nb + 4) s ≡ z → Held e (pick z (cut_back e r w (enc e p) (enc e nb) (less e (enc e s) (enc e nb))) (store r w)).image
      (pick z (cut_back e r w (enc e p) (enc e nb) (less e (enc e s) (enc e nb))) (store r w)).words (pick z (shrink e h p s nb) h) []) (ltb (nb + 4) s)
      (λ z _. cut (ltb-true (nb + 4) s z) (starts_split 0 h.chunks p (used s) st)) (λ z _. n) refl)
    where
      bound : wrap e (enc e nb + W e * 4) ≡ enc e (nb + 4)
      bound = small_sum e nb 4 (omega (arith, near))

      cut : nb + 4 < s → Split 0 h.chunks p (used s) → Held e (cut_back e r w (enc e p) (enc e nb) (less e (enc e s) (enc e nb))).image (cut_back e r w (enc e p) (enc e nb) (less e (enc e s) (enc e nb))).words (shrink e h p s nb) []
      cut u d =
          subst (λ k. Held e (cut_back e r w (enc e p) (enc e nb) k).image (cut_back e r w (enc e p) (enc e nb) k).words (shrink e h p s nb) []) (sym (small_less e s nb fit (omega (arith, near))))
          (subst (λ x. Held e x.image x.words (shrink e h p s nb) []) (ap (λ b. pick b (store r w) (cut_back e r w (enc e p) (enc e nb) (enc e (s - nb)))) (ltb_bytes e (s - nb) 4 ∙ le-ltb (s - nb) 4 (omega arith)))
          (subst (λ x. Held e (shrink_b e r w (enc e x) (enc e nb) (enc e (s - nb))).image (shrink_b e r w (enc e x) (enc e nb) (enc e (s - nb))).words (shrink e h x s nb) []) (sym d.place)
          (shrink_obeys e r w h n d.before s d.after d.whole nb v l fit)))

-- ---- lead and tail

trim_obeys : (e : Edition) (r w : List ℕ) (h : Heap) → Held e r w h [] → (r₀ w₀ : List ℕ) (p s k nb : ℕ) → Starts 0 h.chunks p (used s) → k % 2 ≡ 0 → ((k ≡ 0 → ⊥) → 4 < k) → k + nb ≤ s → nb % 2 ≡ 0 → 4 ≤ nb
    → Obeys e r₀ w₀ (trim_b e r w (enc e p) (enc e k) (enc e nb)) (some (trimmed e h p s k nb))
unfolding trim_b
trim_obeys e r w h n r₀ w₀ p s k nb st v more fit vn l = ⊎_elim none_lead some_lead (same? k 0)
  where
    zeros : (e : Edition) → enc e 0 ≡ 0
    zeros wide = refl
    zeros narrow = refl

    none_of : (e : Edition) → enc e k ≡ 0 → k ≡ 0
    none_of wide z = omega arith
    none_of narrow z = omega arith

    none_lead : k ≡ 0 → Obeys e r₀ w₀ (trim_b e r w (enc e p) (enc e k) (enc e nb)) (some (trimmed e h p s k nb))
    none_lead z =
        rw (eq-eqb (enc e k) 0 (ap (enc e) z ∙ zeros e), eq-eqb k 0 z, let y : p + k ≡ p = omega arith in y, let y : s - k ≡ s = omega arith in y)
        (refl, tail_step e r w h n p s st nb vn l (omega arith))

    some_lead : (k ≡ 0 → ⊥) → Obeys e r₀ w₀ (trim_b e r w (enc e p) (enc e k) (enc e nb)) (some (trimmed e h p s k nb))
    some_lead z =
        rw (ne_eqb (enc e k) 0 (λ y. z (none_of e y)), small_sum e p k (omega (arith, near e r w h n p s st)))
        (refl, tail_step e r₁ w₁ (give_lead e h p s k) (lead_step e r w h n p s st k v (more z) (omega arith)) (p + k) (s - k) (lead_rest e r w h n p s st k v (more z) (omega arith)) nb vn l (omega arith))
      where
        r₁ : List ℕ
        r₁ = (give_lead_b e r w (enc e p) (enc e k)).image

        w₁ : List ℕ
        w₁ = (give_lead_b e r w (enc e p) (enc e k)).words

pub memalign_obeys : (e : Edition) (r w : List ℕ) (h : Heap) (al m nb : ℕ) → Held e r w h [] → al ≡ 2 * m → 4 ≤ al → al ≤ 1024 → nb % 2 ≡ 0 → 4 ≤ nb → W e * (nb + al + 4) < huge
    → Obeys e r w (memalign_b e r w (enc e al) (enc e nb)) (memalign e h al nb)
unfolding memalign_b aligned_b
memalign_obeys e r w h al m nb n q la ha v l hi =
    rw (request_plain e nb al v (omega arith) hi)
    (go (malloc_b e r w (enc e (nb + al + 4))) (malloc e h (nb + al + 4)) (malloc_obeys e r w h n (nb + al + 4) (omega arith) (omega arith) hi)
    (malloc-grants e h (nb + al + 4) (heads_tidy e w h n.near.heads) (omega arith) (omega arith) (malloc e h (nb + al + 4)) (malloc_source e (state (decode r) w) h n.near (nb + al + 4) (omega arith) (omega arith) hi)))
  where
    go : (a : Reply) (o : Option Grant) → Obeys e r w a o → Grants h (nb + al + 4) (nb + al + 4 + 4) (λ x. ⊥) o
        → Obeys e r w (pick (eqb a.answer (no_link e)) a (trim_b e a.image a.words a.answer (lead_of e a.answer (enc e al)) (enc e nb))) (aligned e o al nb)
    go a none f g = rw (f, eq-eqb (no_link e) (no_link e) refl) refl
    go a (some k) f g =
        let even : k.place % 2 ≡ 0 = starts_even e a.words 0 true k.heap.chunks k.place (used g.words) f.1.near.heads.run (omega arith) g.block in
        let ld : Lead k.place al (lead_to k.place al) = lead_is k.place al m even q la in
        let sz : size_at 0 k.heap.chunks k.place ≡ g.words = split_size k.heap.chunks k.place (used g.words) (heads_tidy e a.words k.heap f.1.near.heads).chunks (starts_split 0 k.heap.chunks k.place (used g.words) g.block) in
        rw (f.0, ne_eqb (enc e k.place) (no_link e) (none_free e k.place), lead_plain_of e k.place al la ha (near k.heap f.1 k.place g.words g.block), sz)
        (trim_obeys e a.image a.words k.heap f.1 r w k.place g.words (lead_to k.place al) nb g.block ld.even ld.more (omega (arith, ld.most, g.large)) v l)
      where
        near : (h' : Heap) → Held e a.image a.words h' [] → (p s : ℕ) → Starts 0 h'.chunks p (used s) → p ≤ 8180
        near h' c p s st = omega (arith, starts_in e a.words 0 true h'.chunks p (used s) c.near.heads.run st, (starts_at_lem e a.words 0 true h'.chunks p (used s) c.near.heads.run st).1.least, c.near.heads.top.ends, c.near.most)
