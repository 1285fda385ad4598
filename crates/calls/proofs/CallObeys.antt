-- EVERY CALL DOES WHAT THE RULES SAY: where image and words hold a heap, a call answers what the rule answers on that heap, and image and words then
-- hold the rule's heap; the number of words stays. By the theorem of each function of the core, and exact liveness. Assumes nothing.
use Rattle.std.specs.Prelude.{◌≡◌, refl, Bool, true, false, List, [], ◌∷◌, ℕ, ◌+◌, ◌*◌, ◌/◌, ◌%◌, ◌≤◌, ◌<◌, ltb, eqb, length}
use Rattle.std.proofs.Common.{sym, ap, subst, arith, eqb-true, eq-eqb, ne_eqb, ltb-false}
use Rattle.std.proofs.Math.Option.{Option, none, some}
use Rattle.words.specs.Logic.{pick, pick_case}
use Rattle.words.specs.Edition.{Edition, wide, narrow, W, no_link, enc, W_pos, dec_enc, none_free}
use Rattle.index.specs.Sizes.{need, need_words}
use Rattle.index.specs.SizesLaws.{need_le, need_words_lem, need_words_even, need_words_least}
use Rattle.tiling.specs.Tiling.{used, end_of, Starts}
use Rattle.rules.specs.BinOf.{huge}
use Rattle.rules.specs.Heap.{Heap}
use Rattle.rules.specs.Malloc.{Grant, malloc}
use Rattle.rules.specs.Free.{give_back}
use Rattle.rules.specs.Realloc.{realloc}
use Rattle.rules.specs.Memalign.{memalign}
use Rattle.rules.specs.Calls.{Call, Malloc, Free, Realloc, Memalign, Usable, refused, granted, done, bytes, Outcome, outcome, Reason, no_room, bad_alignment, too_many, not_live, is_in, alignments, block_of, place_of, live_size, grant_or6, moved_or6, free_call, realloc_call, usable_call, unless_too_many, answer_to}
use Rattle.rules.specs.Tidy.{TidyHeap, starts_in'}
use Rattle.rules.specs.Source.{Source}
use Rattle.rules.specs.Blocks.{Grants}
use Rattle.rules.specs.MallocLaws.{malloc-grants}
use Rattle.rules.proofs.FreeLaws.{give_changes}
use Rattle.rules.proofs.ReallocLaws.{realloc-grants}
use Rattle.rules.specs.MemalignLaws.{GrantsAligned}
use Rattle.rules.proofs.MemalignLaws.{memalign-grants}
use Rattle.holds.specs.Ops.{state}
use Rattle.holds.specs.Lookup.{heads_tidy}
use Rattle.holds.specs.MallocSource.{malloc_source}
use Rattle.chunk.specs.Image.{decode}
use Rattle.chunk.specs.Held.{Held}
use Rattle.malloc.specs.MallocBytes.{Reply, malloc_b}
use Rattle.malloc.specs.MallocObeys.{Obeys}
use Rattle.malloc.proofs.MallocFollows.{malloc_obeys}
use Rattle.free.specs.FreeBytes.{free_b}
use Rattle.free.proofs.FreeObeys.{free_obeys}
use Rattle.realloc.specs.ReallocBytes.{realloc_b}
use Rattle.realloc.proofs.ReallocFollows.{realloc_obeys}
use Rattle.memalign.specs.MemalignBytes.{memalign_b}
use Rattle.memalign.proofs.MemalignObeys.{memalign_obeys}
use Rattle.sound.specs.SoundBytes.{usable_b}
use Rattle.decides.specs.LiveLaws.{is_some, live_starts, live_is, usable_is}
use Rattle.calls.specs.CallBytes.{Told, told, refusing, block_at, chunk_at, grant_or_no, if_live, if_few, freed, core_call}
use Rattle.calls.specs.CallObeys.{All, Follows, Good}

-- ---- numbers

block_plain : (e : Edition) (p : ℕ) → p ≤ 8192 → block_at e (enc e p) ≡ block_of e p
block_plain wide p l = omega arith
block_plain narrow p l = omega arith

pub chunk_plain : (e : Edition) (p : ℕ) → p ≤ 8192 → chunk_at e (block_of e p) ≡ enc e p
chunk_plain wide p l = omega arith
chunk_plain narrow p l = omega arith

pub place_plain : (e : Edition) (p : ℕ) → place_of e (block_of e p) ≡ p
place_plain wide p = omega arith
place_plain narrow p = omega arith

-- what bytes below the arena's length need is far below the last tree's largest size
need_low : (e : Edition) (n k : ℕ) → n ≤ W e * k → k ≤ 8192 → W e * (need_words (W e) n + 1028) < huge
unfolding huge
need_low wide n k l m = let a : need_words 8 n * 8 ≤ n + 32 = omega (arith, need_le 8 n (omega arith), need_words_lem 8 n) in omega (arith, a)
need_low narrow n k l m = let a : need_words 4 n * 4 ≤ n + 16 = omega (arith, need_le 4 n (omega arith), need_words_lem 4 n) in omega (arith, a)

sum_room : (e : Edition) (a b k : ℕ) → b ≤ k → W e * (a + k) < huge → W e * (a + b) < huge
sum_room wide a b k l m = omega arith
sum_room narrow a b k l m = omega arith

pub one_of : (P : ℕ → Type 0) (x : ℕ) (ys : List ℕ) → is_in x ys ≡ true → All P ys → P x
one_of P x [] q a = absurd (let k : ◌≡◌ {A = ℕ} 0 1 = cc in let b : ⊥ = omega arith in b)
one_of P x (y ∷ ys) q a = pick_case (λ z. z ≡ true → P x) (eqb x y) (λ z u. subst P (sym (eqb-true x y z)) a.0) (λ z u. one_of P x ys u a.1) q

pub goods : (e : Edition) → All (Good e) (alignments e)
goods wide = ((2, refl, omega arith, omega arith), ((4, refl, omega arith, omega arith), ((8, refl, omega arith, omega arith), ((16, refl, omega arith, omega arith), ((32, refl, omega arith, omega arith), ((64, refl, omega arith, omega arith), ((128, refl, omega arith, omega arith), ((256, refl, omega arith, omega arith), tt))))))))
goods narrow = ((2, refl, omega arith, omega arith), ((4, refl, omega arith, omega arith), ((8, refl, omega arith, omega arith), ((16, refl, omega arith, omega arith), ((32, refl, omega arith, omega arith), ((64, refl, omega arith, omega arith), ((128, refl, omega arith, omega arith), ((256, refl, omega arith, omega arith), ((512, refl, omega arith, omega arith), tt)))))))))

-- two choices by the same test
by_test : (e : Edition) (r w : List ℕ) (b : Bool) {t u : Told} {o v : Outcome} → (b ≡ true → Follows e r w t o) → (b ≡ false → Follows e r w u v) → Follows e r w (pick b t u) (pick b o v)
by_test e r w true f g = f refl
by_test e r w false f g = g refl

module _ (e : Edition) (r w : List ℕ) (h : Heap) (n : Held e r w h []) where
  tidy : TidyHeap h
  tidy = heads_tidy e w h n.near.heads

  same_count : (r' w' : List ℕ) (h' : Heap) → Held e r' w' h' [] → end_of 0 h'.chunks + h'.top ≡ end_of 0 h.chunks + h.top → length w' ≡ length w
  same_count r' w' h' n' q = omega (arith, n.near.heads.top.ends, n'.near.heads.top.ends, q)

  -- a refusal
  stays : (why : Reason) → Follows e r w (refusing why r w) (outcome (refused why) h 0)
  stays why = record { answer = refl; held = n; count = refl; left = λ f. (refl, refl) }

  -- ---- a grant, or 6

  grants : (a : Reply) (o : Option Grant) (lo hi : ℕ) (gone : ℕ → Type 0) → Obeys e r w a o → Grants h lo hi gone o → Follows e r w (grant_or_no e a) (grant_or6 e h o)
  grants a none lo hi gone f g = subst (λ (x : Reply). Follows e r w (grant_or_no e x) (grant_or6 e h none)) (sym f) (rw (eq-eqb (no_link e) (no_link e) refl) (stays no_room))
  grants a (some k) lo hi gone f g =
      let b = same_count a.image a.words k.heap f.1 g.changes.total in
      let c = starts_in' 0 k.heap.chunks k.place (used g.words) g.block in
      rw (f.0, ne_eqb (enc e k.place) (no_link e) (none_free e k.place))
      (record { answer = ap granted (block_plain e k.place (omega (arith, c, f.1.near.heads.top.ends, f.1.near.most))); held = f.1; count = b; left = λ z. absurd z })

  moves : (t : Told) (p s : ℕ) (o : Option Grant) → Follows e r w t (grant_or6 e h o) → Follows e r w t (moved_or6 e h p s o)
  moves t p s none f = f
  moves t p s (some g) f = record { answer = f.answer; held = f.held; count = f.count; left = f.left }

  -- ---- rows 4 and 5

  few : (k : ℕ) (t : Told) (o : Outcome) → (k ≤ W e * length w → Follows e r w t o) → Follows e r w (if_few e r w k t) (unless_too_many e (length w) h k o)
  few k t o f = by_test e r w (ltb (W e * length w) k) (λ z. stays too_many) (λ z. f (ltb-false (W e * length w) k z))

  -- the rule's outcome of a live block of s words at p, of one that is not
  live : (off : ℕ) (t : Told) (o : Option ℕ → Outcome) → o none ≡ outcome (refused (not_live off)) h 0
      → ((p s : ℕ) → live_size e 0 h.chunks off ≡ some s → Starts 0 h.chunks p (used s) → off ≡ block_of e p → Follows e r w t (o (some s)))
      → Follows e r w (if_live e r w off t) (o (live_size e 0 h.chunks off))
  live off t o q f = rw (live_is e r w h n off) (go (live_size e 0 h.chunks off) refl)
    where
      go : (z : Option ℕ) → live_size e 0 h.chunks off ≡ z → Follows e r w (pick (is_some z) t (refusing (not_live off) r w)) (o z)
      go none u = subst (λ y. Follows e r w (refusing (not_live off) r w) y) (sym q) (stays (not_live off))
      go (some s) u = let a = live_starts e 0 h.chunks off s u in f a.0 s u a.1 a.2

  pub place_low : (p s : ℕ) → Starts 0 h.chunks p (used s) → p ≤ 8192
  place_low p s st = omega (arith, starts_in' 0 h.chunks p (used s) st, n.near.heads.top.ends, n.near.most)

  source : (nb : ℕ) → nb % 2 ≡ 0 → 4 ≤ nb → W e * nb < huge → Source e h nb (malloc e h nb)
  source nb v l hi = malloc_source e (state (decode r) w) h n.near nb v l hi

  -- ---- the calls

  module _ (k : ℕ) (fit : k ≤ W e * length w) where
    abbrev nb : ℕ
    nb = need_words (W e) k

    pub even : nb % 2 ≡ 0
    even = need_words_even (W e) k

    pub least : 4 ≤ nb
    least = need_words_least (W e) k (W_pos e)

    room : W e * (nb + 1028) < huge
    room = need_low e k (length w) fit n.near.most

    pub low : W e * nb < huge
    low = subst (λ (x : ℕ). W e * x < huge) (omega arith) (sum_room e nb 0 1028 (omega arith) room)

    pub big : (m : ℕ) → m ≤ 512 → W e * (nb + 2 * m + 4) < huge
    big m l = subst (λ (x : ℕ). W e * x < huge) (omega arith) (sum_room e nb (2 * m + 4) 1028 (omega arith) room)

    -- what each rule does to the blocks
    pub malloc_blocks : Grants h nb (nb + 4) (λ x. ⊥) (malloc e h nb)
    malloc_blocks = malloc-grants e h nb tidy even least (malloc e h nb) (source nb even least low)

    pub realloc_blocks : (p s : ℕ) → Starts 0 h.chunks p (used s) → Grants h nb (nb + 4) (λ x. x ≡ p) (realloc e h p nb)
    realloc_blocks p s st = realloc-grants e h p s nb tidy st even least (source nb even least low)

    pub memalign_blocks : (m : ℕ) → 2 ≤ m → m ≤ 512 → Grants h nb (nb + 5) (λ x. ⊥) (memalign e h (2 * m) nb)
    memalign_blocks m l t =
        plain (memalign e h (2 * m) nb) (memalign-grants e h (2 * m) m nb tidy refl (omega arith) even least (source (nb + 2 * m + 4) (omega (arith, even)) (omega arith) (big m t)))
      where
        plain : (o : Option Grant) → GrantsAligned h (2 * m) nb o → Grants h nb (nb + 5) (λ x. ⊥) o
        plain none a = tt
        plain (some b) a = a.0

    malloc_call : Follows e r w (grant_or_no e (malloc_b e r w (need (W e) k))) (grant_or6 e h (malloc e h nb))
    malloc_call = rw (need_words_lem (W e) k) (grants (malloc_b e r w (enc e nb)) (malloc e h nb) nb (nb + 4) (λ x. ⊥) (malloc_obeys e r w h n nb even least low) malloc_blocks)

    memalign_call : (al : ℕ) → Good e al → Follows e r w (grant_or_no e (memalign_b e r w al (need (W e) k))) (grant_or6 e h (memalign e h (al / W e) nb))
    memalign_call al g =
        rw (need_words_lem (W e) k, g.1, dec_enc e (2 * g.0))
        (grants (memalign_b e r w (enc e (2 * g.0)) (enc e nb)) (memalign e h (2 * g.0) nb) nb (nb + 5) (λ x. ⊥)
        (memalign_obeys e r w h (2 * g.0) g.0 nb n refl (omega (arith, g.2)) (omega (arith, g.3)) even least (big g.0 g.3)) (memalign_blocks g.0 g.2 g.3))

    realloc_call_lem : (p s : ℕ) → Starts 0 h.chunks p (used s) → Follows e r w (grant_or_no e (realloc_b e r w (enc e p) (need (W e) k))) (grant_or6 e h (realloc e h p nb))
    realloc_call_lem p s st =
        rw (need_words_lem (W e) k)
        (grants (realloc_b e r w (enc e p) (enc e nb)) (realloc e h p nb) nb (nb + 4) (λ x. x ≡ p) (realloc_obeys e r w h n p s nb st even least low) (realloc_blocks p s st))

  free_call_lem : (p s : ℕ) → Starts 0 h.chunks p (used s) → Follows e r w (freed (free_b e r w (enc e p))) (outcome done (give_back e h p) 0)
  free_call_lem p s st =
      let f = free_obeys e r w h n s p st in
      record { answer = refl; held = f; count = same_count (free_b e r w (enc e p)).image (free_b e r w (enc e p)).words (give_back e h p) f (give_changes e h p s tidy st).total; left = λ z. absurd z }

  pub call_obeys : (c : Call) → Follows e r w (core_call e r w c) (answer_to e (length w) h c)
  call_obeys (Malloc k) = few k (grant_or_no e (malloc_b e r w (need (W e) k))) (grant_or6 e h (malloc e h (need_words (W e) k))) (λ l. malloc_call k l)
  call_obeys (Free off) =
      live off (freed (free_b e r w (chunk_at e off))) (λ z. free_call e h z off) refl
      (λ p s u st q. rw (q, chunk_plain e p (place_low p s st), place_plain e p) (free_call_lem p s st))
  call_obeys (Realloc off k) =
      few k (if_live e r w off (grant_or_no e (realloc_b e r w (chunk_at e off) (need (W e) k)))) (realloc_call e h (live_size e 0 h.chunks off) off k)
      (λ l. live off (grant_or_no e (realloc_b e r w (chunk_at e off) (need (W e) k))) (λ z. realloc_call e h z off k) refl
      (λ p s u st q. rw (q, chunk_plain e p (place_low p s st), place_plain e p)
      (moves (grant_or_no e (realloc_b e r w (enc e p) (need (W e) k))) p s (realloc e h p (need_words (W e) k)) (realloc_call_lem k l p s st))))
  call_obeys (Memalign al k) =
      by_test e r w (is_in al (alignments e))
      (λ z. few k (grant_or_no e (memalign_b e r w al (need (W e) k))) (grant_or6 e h (memalign e h (al / W e) (need_words (W e) k))) (λ l. memalign_call k l al (one_of (Good e) al (alignments e) z (goods e))))
      (λ z. stays bad_alignment)
  call_obeys (Usable off) =
      live off (told (bytes (usable_b e w off)) r w) (λ z. usable_call e h z off) refl
      (λ p s u st q. record { answer = ap bytes (usable_is e r w h n off s u); held = n; count = refl; left = λ f. (refl, refl) })
