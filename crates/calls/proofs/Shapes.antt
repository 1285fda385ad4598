-- WHAT MAY SWAY AN ANSWER: not even the shapes of the tries. Where two records and arenas of one length hold heaps that differ in nothing but
-- these (`Alike`), every call is answered alike and leaves alike heaps, and so is every list of calls and owners' writes. By the laws of alike
-- heaps, rule by rule, and by what each call leaves being held. Assumes nothing.
use Rattle.std.specs.Prelude.{◌≡◌, refl, true, List, [], ◌∷◌, ℕ, ◌+◌, ◌-◌, ◌*◌, ◌/◌, ◌%◌, ◌≤◌, ◌<◌, ltb, eqb, length}
use Rattle.std.proofs.Common.{sym, ◌∙◌, ap, ap₂, subst, ⊎_elim, arith, eq-eqb, ltb-false}
use Rattle.std.proofs.Math.Option.{Option, none, some}
use Rattle.words.specs.Logic.{pick, by, same?}
use Rattle.words.specs.Edition.{Edition, W, enc, dec_enc}
use Rattle.index.specs.Sizes.{need_words}
use Rattle.tiling.specs.Tiling.{Chunk, used, end_total, Starts, starts_split}
use Rattle.rules.specs.BinOf.{huge}
use Rattle.rules.specs.Heap.{Heap}
use Rattle.rules.specs.Binning.{size_at}
use Rattle.rules.specs.Malloc.{Grant, malloc}
use Rattle.rules.specs.Realloc.{realloc}
use Rattle.rules.specs.Memalign.{lead_to, give_lead, trimmed, aligned, memalign}
use Rattle.rules.specs.Calls.{Call, Malloc, Free, Realloc, Memalign, Usable, granted, Reason, no_room, too_many, not_live, bad_alignment, Outcome, refuse, is_in, alignments, block_of, place_of, live_size, grant_or6, moved_or6, free_call, realloc_call, usable_call, unless_too_many, answer_to}
use Rattle.rules.specs.Tidy.{TidyHeap, starts_even'}
use Rattle.rules.specs.Lookup.{split_size}
use Rattle.rules.specs.Blocks.{Granted, Grants}
use Rattle.rules.specs.MallocLaws.{malloc-grants}
use Rattle.rules.specs.MemalignLaws.{Lead}
use Rattle.rules.proofs.MemalignLaws.{lead_is, lead_grants}
use Rattle.holds.specs.Unique.{trie_once}
use Rattle.holds.specs.Ops.{state}
use Rattle.holds.specs.Lookup.{heads_tidy}
use Rattle.holds.specs.MallocSource.{malloc_source}
use Rattle.holds.specs.Alike.{Alike, Once, Pair, near_pair}
use Rattle.holds.specs.ShapeFree.{Twin, Twins, malloc_pair}
use Rattle.holds.specs.AlikeFree.{pair_give}
use Rattle.holds.specs.AlikeRealloc.{pair_lead, pair_tail, OnceAfter, realloc_twins}
use Rattle.chunk.specs.Image.{decode}
use Rattle.chunk.specs.Held.{Held}
use Rattle.malloc.specs.MallocBytes.{Reply, malloc_b}
use Rattle.malloc.specs.MallocObeys.{Obeys}
use Rattle.malloc.proofs.MallocFollows.{malloc_obeys}
use Rattle.memalign.specs.MemalignBytes.{give_lead_b}
use Rattle.memalign.proofs.MemalignObeys.{lead_step}
use Rattle.decides.specs.LiveLaws.{live_starts}
use Rattle.calls.specs.Record.{image}
use Rattle.calls.specs.RecordLaws.{held-image}
use Rattle.calls.specs.ByValue.{call_a}
use Rattle.calls.specs.CallObeys.{Good}
use Rattle.calls.proofs.CallObeys.{one_of, goods, place_plain, even, least, low, big}
use Rattle.calls.specs.Histories.{Box, box, Event, asks, writes, rebuilds, write_b, asked, remade_box}
use Rattle.calls.specs.Histories.{answers, HeldIn, Does}
use Rattle.calls.proofs.Histories.{calls-held, write_held, remade-held, sways}
use Rattle.rebuild.specs.Rebuilding.{rebuilt_heap}
use Rattle.calls.specs.Rebuilds.{remade}
use Rattle.calls.specs.Shapes.{SameOutcome}

-- no place stands twice in a trie of what is left
once_after : (e : Edition) (r w : List ℕ) (a : Reply) (m : Option Grant) → Obeys e r w a m → OnceAfter m
once_after e r w a none f = tt
once_after e r w a (some g) f = trie_once e (decode a.image) a.words g.heap [] f.1.near

held_pair : (e : Edition) (r r' w w' : List ℕ) (h h' : Heap) → Held e r w h [] → Held e r' w' h' [] → Alike h h' → Pair e h h'
held_pair e r r' w w' h h' n n' a = near_pair e (decode r) (decode r') w w' h h' [] [] n.near n'.near a

used_size : (h : Heap) (p s : ℕ) → TidyHeap h → Starts 0 h.chunks p (used s) → size_at 0 h.chunks p ≡ s
used_size h p s t st = split_size h.chunks p (used s) t.chunks (starts_split 0 h.chunks p (used s) st)

-- ---- a block's lead and tail are given back

once_lead : (e : Edition) (r w : List ℕ) (h : Heap) (p s k : ℕ) → Held e r w h [] → Starts 0 h.chunks p (used s) → k % 2 ≡ 0 → ((k ≡ 0 → ⊥) → 4 < k) → k + 4 ≤ s → Once (give_lead e h p s k)
once_lead e r w h p s k n st v more fit =
    ⊎_elim (λ q. rw (eq-eqb k 0 q) (trie_once e (decode r) w h [] n.near))
    (λ z. trie_once e (decode (give_lead_b e r w (enc e p) (enc e k)).image) (give_lead_b e r w (enc e p) (enc e k)).words (give_lead e h p s k) [] (lead_step e r w h n p s st k v (more z) fit).near)
    (same? k 0)

trim_twin : (e : Edition) (r r' w w' : List ℕ) (h h' : Heap) (p s k nb : ℕ) → Held e r w h [] → Held e r' w' h' [] → Pair e h h' → Starts 0 h.chunks p (used s) → k % 2 ≡ 0 → ((k ≡ 0 → ⊥) → 4 < k) → k + 4 ≤ s
    → Twin e (trimmed e h p s k nb) (trimmed e h' p s k nb)
trim_twin e r r' w w' h h' p s k nb n n' pr st v more fit =
    record {
      place = refl;
      heaps = pair_tail e (give_lead e h p s k) (give_lead e h' p s k) (p + k) (s - k) nb (used_size (give_lead e h p s k) (p + k) (s - k) g.changes.tidy rest)
          (once_lead e r w h p s k n st v more fit) (once_lead e r' w' h' p s k n' (subst (λ cs. Starts 0 cs p (used s)) pr.alike.chunks st) v more fit)
          (pair_lead e h h' p s k (used_size h p s tidy st) (omega arith) (trie_once e (decode r) w h [] n.near) (trie_once e (decode r') w' h' [] n'.near) pr);
    }
  where
    tidy : TidyHeap h
    tidy = heads_tidy e w h n.near.heads

    g : Granted h (give_lead e h p s k) (p + k) (s - k) (s - k + 1) (λ x. x ≡ p)
    g = lead_grants e h tidy p s st k v more fit

    rest : Starts 0 (give_lead e h p s k).chunks (p + k) (used (s - k))
    rest = subst (λ z. Starts 0 (give_lead e h p s k).chunks (p + k) (used z)) (let y : g.words ≡ s - k = omega (arith, g.large, g.tight) in y) g.block

-- ---- the rules on two held heaps

module _ (e : Edition) (r r' w w' : List ℕ) (h h' : Heap) (n : Held e r w h []) (n' : Held e r' w' h' []) (pr : Pair e h h') (nb : ℕ) (v : nb % 2 ≡ 0) (l : 4 ≤ nb) where
  malloc_two : Twins e (malloc e h nb) (malloc e h' nb)
  malloc_two = malloc_pair e (decode r) (decode r') w w' h h' n.near n'.near pr nb

  realloc_two : (p s : ℕ) → W e * nb < huge → Starts 0 h.chunks p (used s) → Twins e (realloc e h p nb) (realloc e h' p nb)
  realloc_two p s hi st =
      realloc_twins e h h' p s nb (trie_once e (decode r) w h [] n.near) (trie_once e (decode r') w' h' [] n'.near) (omega (arith, end_total 0 h.chunks, n.near.heads.top.ends, n.near.most))
      (heads_tidy e w h n.near.heads).chunks st
      (once_after e r w (malloc_b e r w (enc e nb)) (malloc e h nb) (malloc_obeys e r w h n nb v l hi)) (once_after e r' w' (malloc_b e r' w' (enc e nb)) (malloc e h' nb) (malloc_obeys e r' w' h' n' nb v l hi))
      malloc_two pr

-- m and m' are what malloc answers to the sum
aligned_two : (e : Edition) (r r' w w' : List ℕ) (h : Heap) (al m nb : ℕ) → al ≡ 2 * m → 4 ≤ al → (a a' : Reply) (o o' : Option Grant) → Obeys e r w a o → Obeys e r' w' a' o'
    → Grants h (nb + al + 4) (nb + al + 4 + 4) (λ x. ⊥) o → nb % 2 ≡ 0 → 4 ≤ nb → Twins e o o' → Twins e (aligned e o al nb) (aligned e o' al nb)
aligned_two e r r' w w' h al m nb q la a a' none none f f' g v l t = tt
aligned_two e r r' w w' h al m nb q la a a' none (some k) f f' g v l t = absurd t
aligned_two e r r' w w' h al m nb q la a a' (some k) none f f' g v l t = absurd t
aligned_two e r r' w w' h al m nb q la a a' (some k) (some k') f f' g v l t =
    subst (λ (x : ℕ). Twin e (trimmed e k.heap p (size_at 0 k.heap.chunks p) (lead_to p al) nb) (trimmed e k'.heap x (size_at 0 k'.heap.chunks x) (lead_to x al) nb)) t.place
    (subst (λ (cs : List Chunk). Twin e (trimmed e k.heap p (size_at 0 k.heap.chunks p) (lead_to p al) nb) (trimmed e k'.heap p (size_at 0 cs p) (lead_to p al) nb)) t.heaps.alike.chunks
    (subst (λ (s : ℕ). Twin e (trimmed e k.heap p s (lead_to p al) nb) (trimmed e k'.heap p s (lead_to p al) nb)) (sym (used_size k.heap p g.words g.changes.tidy g.block))
    (trim_twin e a.image a'.image a.words a'.words k.heap k'.heap p g.words (lead_to p al) nb f.1 f'.1 t.heaps g.block ld.even ld.more (omega (arith, ld.most, g.large)))))
  where
    p : ℕ
    p = k.place

    ld : Lead p al (lead_to p al)
    ld = lead_is p al m (starts_even' true 0 k.heap.chunks p (used g.words) g.changes.tidy.chunks refl g.block) q la

memalign_two : (e : Edition) (r r' w w' : List ℕ) (h h' : Heap) (al m nb : ℕ) → Held e r w h [] → Held e r' w' h' [] → Pair e h h' → al ≡ 2 * m → 4 ≤ al → nb % 2 ≡ 0 → 4 ≤ nb → W e * (nb + al + 4) < huge
    → Twins e (memalign e h al nb) (memalign e h' al nb)
memalign_two e r r' w w' h h' al m nb n n' pr q la v l hi =
    let kv : (nb + al + 4) % 2 ≡ 0 = omega arith in
    aligned_two e r r' w w' h al m nb q la (malloc_b e r w (enc e (nb + al + 4))) (malloc_b e r' w' (enc e (nb + al + 4))) (malloc e h (nb + al + 4)) (malloc e h' (nb + al + 4))
    (malloc_obeys e r w h n (nb + al + 4) kv (omega arith) hi) (malloc_obeys e r' w' h' n' (nb + al + 4) kv (omega arith) hi)
    (malloc-grants e h (nb + al + 4) (heads_tidy e w h n.near.heads) kv (omega arith) (malloc e h (nb + al + 4)) (malloc_source e (state (decode r) w) h n.near (nb + al + 4) kv (omega arith) hi)) v l
    (malloc_pair e (decode r) (decode r') w w' h h' n.near n'.near pr (nb + al + 4))

-- ---- the calls

module _ (e : Edition) (r r' w w' : List ℕ) (h h' : Heap) (n : Held e r w h []) (n' : Held e r' w' h' []) (a : Alike h h') where
  abbrev pr : Pair e h h'
  pr = held_pair e r r' w w' h h' n n' a

  refused_two : (why : Reason) → SameOutcome (refuse h why) (refuse h' why)
  refused_two why = record { answer = refl; heaps = a; copied = refl }

  grants_two : (m m' : Option Grant) → Twins e m m' → SameOutcome (grant_or6 e h m) (grant_or6 e h' m')
  grants_two none none t = refused_two no_room
  grants_two none (some g) t = absurd t
  grants_two (some g) none t = absurd t
  grants_two (some g) (some g') t = record { answer = ap (λ x. granted (block_of e x)) t.place; heaps = t.heaps.alike; copied = refl }

  moves_two : (p s : ℕ) (m m' : Option Grant) → Twins e m m' → SameOutcome (moved_or6 e h p s m) (moved_or6 e h' p s m')
  moves_two p s none none t = refused_two no_room
  moves_two p s none (some g) t = absurd t
  moves_two p s (some g) none t = absurd t
  moves_two p s (some g) (some g') t =
      record { answer = ap (λ x. granted (block_of e x)) t.place; heaps = t.heaps.alike; copied = ap (λ x. pick (eqb x p) 0 (s - 1)) t.place }

  few_two : (k : ℕ) (o o' : Outcome) → (k ≤ W e * length w → SameOutcome o o') → SameOutcome (unless_too_many e (length w) h k o) (unless_too_many e (length w) h' k o')
  few_two k o o' f =
      by (λ b. SameOutcome (pick b (refuse h too_many) o) (pick b (refuse h' too_many) o')) (ltb (W e * length w) k) (λ _. refused_two too_many) (λ z. f (ltb-false (W e * length w) k z))

  -- by the block's size, if it is live
  live_two : (off : ℕ) (f : Heap → Option ℕ → Outcome) → SameOutcome (f h none) (f h' none) → ((s : ℕ) → live_size e 0 h.chunks off ≡ some s → SameOutcome (f h (some s)) (f h' (some s)))
      → SameOutcome (f h (live_size e 0 h.chunks off)) (f h' (live_size e 0 h'.chunks off))
  live_two off f dead alive = subst (λ cs. SameOutcome (f h (live_size e 0 h.chunks off)) (f h' (live_size e 0 cs off))) a.chunks (go (live_size e 0 h.chunks off) refl)
    where
      go : (z : Option ℕ) → live_size e 0 h.chunks off ≡ z → SameOutcome (f h z) (f h' z)
      go none q = dead
      go (some s) q = alive s q

  realloc_live : (off k s : ℕ) → k ≤ W e * length w → live_size e 0 h.chunks off ≡ some s → Twins e (realloc e h (place_of e off) (need_words (W e) k)) (realloc e h' (place_of e off) (need_words (W e) k))
  realloc_live off k s fit q =
      let b = live_starts e 0 h.chunks off s q in
      let p : place_of e off ≡ b.0 = ap (place_of e) b.2 ∙ place_plain e b.0 in
      realloc_two e r r' w w' h h' n n' pr (need_words (W e) k) (even e r w h n k fit) (least e r w h n k fit) (place_of e off) s (low e r w h n k fit)
      (subst (λ x. Starts 0 h.chunks x (used s)) (sym p) b.1)

  memalign_good : (al k : ℕ) → Good e al → k ≤ W e * length w → Twins e (memalign e h (al / W e) (need_words (W e) k)) (memalign e h' (al / W e) (need_words (W e) k))
  memalign_good al k g fit =
      let q : al / W e ≡ 2 * g.0 = ap (λ x. x / W e) g.1 ∙ dec_enc e (2 * g.0) in
      subst (λ x. Twins e (memalign e h x (need_words (W e) k)) (memalign e h' x (need_words (W e) k))) (sym q)
      (memalign_two e r r' w w' h h' (2 * g.0) g.0 (need_words (W e) k) n n' pr refl (omega (arith, g.2)) (even e r w h n k fit) (least e r w h n k fit) (big e r w h n k fit g.0 g.3))

  pub call_two : (c : Call) → SameOutcome (answer_to e (length w) h c) (answer_to e (length w) h' c)
  call_two (Malloc k) =
      few_two k (grant_or6 e h (malloc e h (need_words (W e) k))) (grant_or6 e h' (malloc e h' (need_words (W e) k)))
      (λ fit. grants_two (malloc e h (need_words (W e) k)) (malloc e h' (need_words (W e) k)) (malloc_two e r r' w w' h h' n n' pr (need_words (W e) k) (even e r w h n k fit) (least e r w h n k fit)))
  call_two (Free off) =
      live_two off (λ x z. free_call e x z off) (refused_two (not_live off))
      (λ s q. record {
        answer = refl;
        heaps = (pair_give e h h' (place_of e off) (trie_once e (decode r) w h [] n.near) (trie_once e (decode r') w' h' [] n'.near) pr).alike;
        copied = refl;
      })
  call_two (Realloc off k) =
      few_two k (realloc_call e h (live_size e 0 h.chunks off) off k) (realloc_call e h' (live_size e 0 h'.chunks off) off k)
      (λ fit. live_two off (λ x z. realloc_call e x z off k) (refused_two (not_live off))
      (λ s q. moves_two (place_of e off) s (realloc e h (place_of e off) (need_words (W e) k)) (realloc e h' (place_of e off) (need_words (W e) k)) (realloc_live off k s fit q)))
  call_two (Memalign al k) =
      by (λ b. SameOutcome (pick b (unless_too_many e (length w) h k (grant_or6 e h m)) (refuse h bad_alignment)) (pick b (unless_too_many e (length w) h' k (grant_or6 e h' m')) (refuse h' bad_alignment))) (is_in al (alignments e))
      (λ z. few_two k (grant_or6 e h m) (grant_or6 e h' m') (λ fit. grants_two m m' (memalign_good al k (one_of (Good e) al (alignments e) z (goods e)) fit)))
      (λ _. refused_two bad_alignment)
    where
      m : Option Grant
      m = memalign e h (al / W e) (need_words (W e) k)

      m' : Option Grant
      m' = memalign e h' (al / W e) (need_words (W e) k)
  call_two (Usable off) = live_two off (λ x z. usable_call e x z off) (refused_two (not_live off)) (λ s q. record { answer = refl; heaps = a; copied = refl })

-- ---- histories

pub shapes : (e : Edition) (s t : Box) (h h' : Heap) → HeldIn e s h → HeldIn e t h' → length s.words ≡ length t.words → Alike h h' → (es : List Event) → answers e s es ≡ answers e t es
shapes e s t h h' n n' q a [] = refl
shapes e s t h h' n n' q a (asks c ∷ es) =
    let f = calls-held e s h n c in
    let f' : Does e t (call_a e t.control t.words c) (answer_to e (length s.words) h' c) = subst (λ (k : ℕ). Does e t (call_a e t.control t.words c) (answer_to e k h' c)) (sym q) (calls-held e t h' n' c) in
    let u = call_two e (image s.control) (image t.control) s.words t.words h h' (held-image e s.control s.words h [] n) (held-image e t.control t.words h' [] n') a c in
    ap₂ (λ x y. x ∷ y) (f.answer ∙ u.answer ∙ sym f'.answer)
    (shapes e (asked e s c) (asked e t c) (answer_to e (length s.words) h c).heap (answer_to e (length s.words) h' c).heap f.held f'.held (f.count ∙ q ∙ sym f'.count) u.heaps es)
shapes e s t h h' n n' q a (writes off k v ∷ es) =
    let f = write_held e s h n off k v in
    let f' = write_held e t h' n' off k v in
    shapes e (box s.control (write_b e s off k v)) (box t.control (write_b e t off k v)) h h' f.held f'.held (f.count ∙ q ∙ sym f'.count) a es
shapes e s t h h' n n' q a (rebuilds ∷ es) =
    let f = remade-held e s h n in
    let f' = remade-held e t h' n' in
    let one : remade e h' ≡ remade e h = sym (ap₂ (rebuilt_heap e) a.chunks a.top) in
    ap₂ (λ x y. x ∷ y) (f.answer ∙ sym f'.answer)
    (sways e (remade_box e s) (remade_box e t) (remade e h) f.held (subst (HeldIn e (remade_box e t)) one f'.held)
    (f.count ∙ q ∙ sym f'.count) es)
