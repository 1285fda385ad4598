-- WHAT MEMALIGN REACHES: every word that is governed in none of the heaps that the call passes through is as it was. These are the heap before,
-- malloc's heap for the sum, the heap without the lead, and the heap without the tail. A part that is cut off has a head of its own, and that
-- is governed in the next of them. Assumes nothing.
use Rattle.std.specs.Prelude.{◌≡◌, refl, true, ℕ, ◌+◌, ◌-◌, ◌*◌, ◌%◌, ◌≤◌, ◌<◌, ltb, eqb, get_or}
use Rattle.std.proofs.Common.{sym, ◌∙◌, ap, inl, inr, ⊎_elim, arith, ltb-true, eq-eqb, ne_eqb}
use Rattle.std.proofs.Math.Path.{subst}
use mathlib.Core.List.{List, [], ◌∷◌, ◌++◌}
use Rattle.std.proofs.Math.Option.{Option, none, some}
use Rattle.words.specs.Logic.{pick, by, same?}
use Rattle.words.specs.Edition.{Edition, wide, narrow, W, no_link, none_free, enc, enc_inj}
use Rattle.tiling.specs.Tiling.{Chunk, used, end_of, Starts, Split, starts_split, starts_even}
use Rattle.tiling.specs.Regrow.{split_used_words}
use Rattle.tiling.specs.Reading.{reads_head}
use Rattle.rules.specs.BinOf.{huge}
use Rattle.rules.specs.Heap.{Heap, heap_chunks}
use Rattle.rules.specs.Binning.{size_at, retile}
use Rattle.rules.specs.Malloc.{Grant, malloc}
use Rattle.rules.specs.Free.{give_back}
use Rattle.rules.specs.Realloc.{shrink}
use Rattle.rules.specs.Memalign.{lead_to, give_lead, give_tail, trimmed}
use Rattle.rules.specs.Tidy.{starts_right}
use Rattle.rules.specs.Lookup.{split_size}
use Rattle.rules.specs.Blocks.{Grants}
use Rattle.rules.specs.MallocLaws.{malloc-grants}
use Rattle.rules.specs.MemalignLaws.{Lead}
use Rattle.rules.proofs.MemalignLaws.{lead_is}
use Rattle.holds.specs.Ops.{state}
use Rattle.holds.specs.Lookup.{heads_tidy}
use Rattle.holds.specs.MallocSource.{malloc_source}
use Rattle.holds.specs.Governed.{Tiled, Governed, GovernedIn}
use Rattle.chunk.specs.Bytes.{store}
use Rattle.chunk.specs.Image.{decode}
use Rattle.chunk.specs.Plain.{small_sum, small_less}
use Rattle.chunk.specs.Held.{Held, ltb_bytes}
use Rattle.chunk.specs.ChunkReach.{Same}
use Rattle.malloc.specs.MallocBytes.{Reply, malloc_b}
use Rattle.malloc.specs.MallocObeys.{Obeys}
use Rattle.malloc.proofs.MallocFollows.{malloc_obeys}
use Rattle.malloc.specs.MallocReach.{left_by}
use Rattle.malloc.proofs.MallocReach.{malloc_reaches}
use Rattle.free.specs.FreeBytes.{dispose_b}
use Rattle.free.proofs.FreeReach.{dispose_reaches}
use Rattle.realloc.specs.ReallocBytes.{cut_back}
use Rattle.realloc.proofs.ReallocObeys.{retiled}
use Rattle.realloc.proofs.ReallocFollows.{block_size}
use Rattle.realloc.proofs.ResizeReach.{halved-held, halved_same, halved_out, rest_reaches}
use Rattle.memalign.specs.MemalignBytes.{lead_of, give_lead_b, give_tail_b, trim_b, aligned_b, memalign_b}
use Rattle.memalign.proofs.MemalignObeys.{request_plain, lead_plain_of, near, lead_words, lead_step, lead_rest}
use Rattle.memalign.specs.MemalignReach.{aligned_via, memalign_via}

-- ---- the heaps that memalign passes through

-- ---- the block of s words at p is cut

module _ (e : Edition) (r w : List ℕ) (h : Heap) (n : Held e r w h []) (p s : ℕ) (st : Starts 0 h.chunks p (used s)) (i : ℕ) (before : Governed h i → ⊥) where
  -- the lead of k words is given back; the head of the rest stays
  lead_reaches : (k : ℕ) → k % 2 ≡ 0 → 4 < k → k + 4 ≤ s → (Governed (give_lead e h p s k) i → ⊥) → Same i w (give_lead_b e r w (enc e p) (enc e k)).words
  lead_reaches k v big fit after = ap (λ y. get_or y.words i 0) (lead_words e r w h n p s st k big fit) ∙ go (starts_split 0 h.chunks p (used s) st) out (rw (ne_eqb k 0 (λ z. omega arith)) at after)
    where
      out : i ≡ p + k + 1 → ⊥
      out z = after (inl (subst (Tiled (give_lead e h p s k)) (sym z) (reads_head 0 (give_lead e h p s k).chunks (give_lead e h p s k).top (p + k) (used (s - k)) (lead_rest e r w h n p s st k v big fit))))

      Given : ℕ → Type 0
      Given z =
          (i ≡ z + k + 1 → ⊥) → (Governed (give_back e (heap_chunks h (retile 0 h.chunks z (used k ∷ used (s - k) ∷ []))) z) i → ⊥)
          → Same i w (dispose_b e r (split_used_words e w z k (s - k)) (enc e z) (enc e k)).words

      go : Split 0 h.chunks p (used s) → Given p
      go d =
          subst Given (sym d.place)
          (λ o f. dispose_reaches e r (split_used_words e w (end_of 0 xs) k (s - k)) (heap_chunks h (xs ++ (used k ∷ used (s - k) ∷ ys))) (halved-held e r w h n xs s ys d.whole k v (omega arith) (omega arith) (omega arith)) (end_of 0 xs) k
          (starts_right 0 xs (used k ∷ used (s - k) ∷ ys) (end_of 0 xs) (used k) (inl (refl, refl))) i (halved_out e r w h n xs s ys d.whole k v (omega arith) (omega arith) i before o)
          (subst (λ c. Governed (give_back e (heap_chunks h c) (end_of 0 xs)) i → ⊥) (retiled e r w h n xs s ys d.whole (used k ∷ used (s - k) ∷ [])) f)
          ∙ halved_same e r w h n xs s ys d.whole k v (omega arith) (omega arith) i before o)
        where
          xs : List Chunk
          xs = d.before

          ys : List Chunk
          ys = d.after

  tail_reaches : (nb : ℕ) → nb % 2 ≡ 0 → 4 ≤ nb → nb ≤ s → (Governed (give_tail e h p s nb) i → ⊥) → Same i w (give_tail_b e r w (enc e p) (enc e nb)).words
  unfolding give_tail_b
  tail_reaches nb v l fit =
      rw (block_size e r w h [] p s n st, small_sum e nb 4 (omega (arith, near e r w h n p s st)), ltb_bytes e (nb + 4) s, small_less e s nb fit (omega (arith, near e r w h n p s st)))
      (by (λ z. (Governed (pick z (shrink e h p s nb) h) i → ⊥) → Same i w (pick z (cut_back e r w (enc e p) (enc e nb) (enc e (s - nb))) (store r w)).words) (ltb (nb + 4) s)
      (λ z. go (ltb-true (nb + 4) s z) (starts_split 0 h.chunks p (used s) st)) (λ _ _. refl))
    where
      go : nb + 4 < s → Split 0 h.chunks p (used s) → (Governed (shrink e h p s nb) i → ⊥) → Same i w (cut_back e r w (enc e p) (enc e nb) (enc e (s - nb))).words
      go u d =
          subst (λ z. (Governed (shrink e h z s nb) i → ⊥) → Same i w (cut_back e r w (enc e z) (enc e nb) (enc e (s - nb))).words) (sym d.place)
          (rest_reaches e r w h n d.before s d.after d.whole nb v l fit i before (omega arith))

trim_reaches : (e : Edition) (r w : List ℕ) (h : Heap) → Held e r w h [] → (p s k nb : ℕ) → Starts 0 h.chunks p (used s) → k % 2 ≡ 0 → ((k ≡ 0 → ⊥) → 4 < k) → k + nb ≤ s → nb % 2 ≡ 0 → 4 ≤ nb
    → (i : ℕ) → (Governed h i → ⊥) → (Governed (give_lead e h p s k) i → ⊥) → (Governed (trimmed e h p s k nb).heap i → ⊥) → Same i w (trim_b e r w (enc e p) (enc e k) (enc e nb)).words
unfolding trim_b
trim_reaches e r w h n p s k nb st v more fit vn l i before led after = ⊎_elim none_lead some_lead (same? k 0)
  where
    zeros : (e : Edition) → enc e 0 ≡ 0
    zeros wide = refl
    zeros narrow = refl

    none_lead : k ≡ 0 → Same i w (trim_b e r w (enc e p) (enc e k) (enc e nb)).words
    none_lead z =
        rw (eq-eqb (enc e k) 0 (ap (enc e) z ∙ zeros e))
        (tail_reaches e r w h n p s st i before nb vn l (omega arith) (rw (eq-eqb k 0 z, let y : p + k ≡ p = omega arith in y, let y : s - k ≡ s = omega arith in y) at after))

    some_lead : (k ≡ 0 → ⊥) → Same i w (trim_b e r w (enc e p) (enc e k) (enc e nb)).words
    some_lead z =
        rw (ne_eqb (enc e k) 0 (λ y. z (enc_inj e k 0 (y ∙ sym (zeros e)))), small_sum e p k (omega (arith, near e r w h n p s st)))
        (tail_reaches e (give_lead_b e r w (enc e p) (enc e k)).image (give_lead_b e r w (enc e p) (enc e k)).words (give_lead e h p s k) (lead_step e r w h n p s st k v (more z) (omega arith)) (p + k) (s - k)
        (lead_rest e r w h n p s st k v (more z) (omega arith)) i led nb vn l (omega arith) after
        ∙ lead_reaches e r w h n p s st i before k v (more z) (omega arith) led)

-- ---- memalign, whole

-- the word i is governed in none of these heaps
pub memalign_reaches : (e : Edition) (r w : List ℕ) (h : Heap) → Held e r w h [] → (al m nb : ℕ) → al ≡ 2 * m → 4 ≤ al → al ≤ 1024 → nb % 2 ≡ 0 → 4 ≤ nb → W e * (nb + al + 4) < huge
    → (i : ℕ) → (GovernedIn (memalign_via e h al nb) i → ⊥) → get_or (memalign_b e r w (enc e al) (enc e nb)).words i 0 ≡ get_or w i 0
unfolding memalign_b aligned_b
memalign_reaches e r w h n al m nb q la ha v l hi i via =
    rw (request_plain e nb al v (omega arith) hi)
    (go (malloc_b e r w (enc e all)) (malloc e h all) (malloc_obeys e r w h n all (omega arith) (omega arith) hi)
    (malloc-grants e h all (heads_tidy e w h n.near.heads) (omega arith) (omega arith) (malloc e h all) (malloc_source e (state (decode r) w) h n.near all (omega arith) (omega arith) hi))
    (malloc_reaches e r w h n all (omega arith) (omega arith) hi i (λ u. via (inl u))) (λ u. via (inr u)))
  where
    all : ℕ
    all = nb + al + 4

    go : (a : Reply) (o : Option Grant) → Obeys e r w a o → Grants h all (all + 4) (λ y. ⊥) o → ((Governed (left_by h o) i → ⊥) → Same i w a.words) → (GovernedIn (aligned_via e o al nb) i → ⊥)
        → Same i w (pick (eqb a.answer (no_link e)) a (trim_b e a.image a.words a.answer (lead_of e a.answer (enc e al)) (enc e nb))).words
    go a none f g same via = rw (f, eq-eqb (no_link e) (no_link e) refl) refl
    go a (some k) f g same via =
        let even : k.place % 2 ≡ 0 = starts_even e a.words 0 true k.heap.chunks k.place (used g.words) f.1.near.heads.run (omega arith) g.block in
        let ld : Lead k.place al (lead_to k.place al) = lead_is k.place al m even q la in
        let sz : size_at 0 k.heap.chunks k.place ≡ g.words = split_size k.heap.chunks k.place (used g.words) (heads_tidy e a.words k.heap f.1.near.heads).chunks (starts_split 0 k.heap.chunks k.place (used g.words) g.block) in
        rw (f.0, ne_eqb (enc e k.place) (no_link e) (none_free e k.place), lead_plain_of e k.place al la ha (omega (arith, near e a.image a.words k.heap f.1 k.place g.words g.block)))
        (trim_reaches e a.image a.words k.heap f.1 k.place g.words (lead_to k.place al) nb g.block ld.even ld.more (omega (arith, ld.most, g.large)) v l i
        (λ u. via (inl u))
        (subst (λ s. Governed (give_lead e k.heap k.place s (lead_to k.place al)) i → ⊥) sz (λ u. via (inr (inl u))))
        (subst (λ s. Governed (trimmed e k.heap k.place s (lead_to k.place al) nb).heap i → ⊥) sz (λ u. via (inr (inr (inl u)))))
        ∙ same (λ u. via (inl u)))
