-- WHAT A CALL REACHES: every word that is governed in none of the heaps that the call passes through, and that no move copies into, is as it was.
-- Malloc and free pass from the heap before to the heap after; realloc and memalign are made of these. By what each function of the core
-- reaches; a refused call writes nothing. Assumes nothing.
use Rattle.std.specs.Prelude.{◌≡◌, refl, List, [], ◌∷◌, ℕ, ◌*◌, ◌/◌, ◌≤◌, ltb, length, get_or}
use Rattle.std.proofs.Common.{sym, ◌∙◌, ap, subst, inl, inr, arith, ltb-false}
use Rattle.std.proofs.Math.Option.{Option, none, some}
use Rattle.words.specs.Logic.{pick, pick_case}
use Rattle.words.specs.Edition.{Edition, W, dec_enc}
use Rattle.index.specs.Sizes.{need, need_words}
use Rattle.index.specs.SizesLaws.{need_words_lem}
use Rattle.tiling.specs.Tiling.{used, Starts}
use Rattle.rules.specs.Heap.{Heap}
use Rattle.rules.specs.Free.{give_back}
use Rattle.rules.specs.Realloc.{realloc}
use Rattle.rules.specs.Calls.{Call, Malloc, Free, Realloc, Memalign, Usable, not_live, is_in, alignments, block_of, place_of, live_size}
use Rattle.holds.specs.Governed.{GovernedIn}
use Rattle.chunk.specs.Held.{Held}
use Rattle.chunk.specs.ChunkReach.{Same}
use Rattle.malloc.specs.MallocBytes.{malloc_b}
use Rattle.malloc.proofs.MallocReach.{malloc_reaches}
use Rattle.free.specs.FreeBytes.{free_b}
use Rattle.free.proofs.FreeReach.{free_reaches}
use Rattle.realloc.specs.ReallocBytes.{realloc_b}
use Rattle.realloc.specs.ReallocReach.{realloc_via, CopiedTo}
use Rattle.realloc.proofs.ReallocReach.{realloc_reaches}
use Rattle.memalign.specs.MemalignBytes.{memalign_b}
use Rattle.memalign.specs.MemalignReach.{memalign_via}
use Rattle.memalign.proofs.MemalignReach.{memalign_reaches}
use Rattle.decides.specs.LiveLaws.{is_some, live_starts, live_is}
use Rattle.calls.specs.CallBytes.{Told, refusing, chunk_at, grant_or_no, if_live, if_few, freed, core_call}
use Rattle.calls.specs.CallObeys.{Good}
use Rattle.calls.proofs.CallObeys.{chunk_plain, place_plain, one_of, goods, place_low, even, least, low, big}
use Rattle.calls.specs.CallReach.{Copies, MovedInto, call_via}

module _ (e : Edition) (r w : List ℕ) (h : Heap) (n : Held e r w h []) (i : ℕ) where
  few : (k : ℕ) (t : Told) → (k ≤ W e * length w → Same i w t.words) → Same i w (if_few e r w k t).words
  few k t f = pick_case (λ (u : Told). Same i w u.words) (ltb (W e * length w) k) (λ _. refl) (λ z. f (ltb-false (W e * length w) k z))

  live : (off : ℕ) (t : Told) → ((p u : ℕ) → Starts 0 h.chunks p (used u) → off ≡ block_of e p → live_size e 0 h.chunks off ≡ some u → Same i w t.words) → Same i w (if_live e r w off t).words
  live off t f = rw (live_is e r w h n off) (go (live_size e 0 h.chunks off) refl)
    where
      go : (z : Option ℕ) → live_size e 0 h.chunks off ≡ z → Same i w (pick (is_some z) t (refusing (not_live off) r w)).words
      go none u = refl
      go (some m) u = let a = live_starts e 0 h.chunks off m u in f a.0 m a.1 a.2 u

  pub call_reaches : (c : Call) → (GovernedIn (call_via e h c) i → ⊥) → (Copies e h c i → ⊥) → get_or (core_call e r w c).words i 0 ≡ get_or w i 0
  call_reaches (Malloc k) via out =
      few k (grant_or_no e (malloc_b e r w (need (W e) k)))
      (λ l. rw (need_words_lem (W e) k) (malloc_reaches e r w h n (need_words (W e) k) (even e r w h n k l) (least e r w h n k l) (low e r w h n k l) i (λ u. via (inl u)) (λ u. via (inr (inl u)))))
  call_reaches (Free off) via out =
      live off (freed (free_b e r w (chunk_at e off)))
      (λ p u sp q _. let at : place_of e off ≡ p = ap (place_of e) q ∙ place_plain e p in
      rw (q, chunk_plain e p (place_low e r w h n p u sp)) (free_reaches e r w h n p u sp i (λ z. via (inl z)) (λ z. via (inr (subst (λ y. GovernedIn (give_back e h y ∷ []) i) (sym at) (inl z))))))
  call_reaches (Realloc off k) via out =
      few k (if_live e r w off (grant_or_no e (realloc_b e r w (chunk_at e off) (need (W e) k))))
      (λ l. live off (grant_or_no e (realloc_b e r w (chunk_at e off) (need (W e) k)))
      (λ p u sp q s. let at : place_of e off ≡ p = ap (place_of e) q ∙ place_plain e p in
      rw (q, chunk_plain e p (place_low e r w h n p u sp), need_words_lem (W e) k)
      (realloc_reaches e r w h n p u (need_words (W e) k) sp (even e r w h n k l) (least e r w h n k l) (low e r w h n k l) i (subst (λ y. GovernedIn (realloc_via e h y (need_words (W e) k)) i → ⊥) at via)
      (subst (λ y. CopiedTo (realloc e h y (need_words (W e) k)) y u i → ⊥) at (subst (λ z. MovedInto z (realloc e h (place_of e off) (need_words (W e) k)) (place_of e off) i → ⊥) s out)))))
  call_reaches (Memalign al k) via out =
      pick_case (λ (t : Told). Same i w t.words) (is_in al (alignments e))
      (λ z. few k (grant_or_no e (memalign_b e r w al (need (W e) k))) (λ l. aligned l (one_of (Good e) al (alignments e) z (goods e)) via)) (λ _. refl)
    where
      aligned : k ≤ W e * length w → Good e al → (GovernedIn (memalign_via e h (al / W e) (need_words (W e) k)) i → ⊥) → Same i w (memalign_b e r w al (need (W e) k)).words
      aligned l g =
          rw (need_words_lem (W e) k, g.1, dec_enc e (2 * g.0))
          (memalign_reaches e r w h n (2 * g.0) g.0 (need_words (W e) k) refl (omega (arith, g.2)) (omega (arith, g.3)) (even e r w h n k l) (least e r w h n k l) (big e r w h n k l g.0 g.3) i)
  call_reaches (Usable off) via out = live off _ (λ p u sp q s. refl)
