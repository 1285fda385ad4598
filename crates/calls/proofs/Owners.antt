-- OWNERS KEEP WHAT IS THEIRS: a call leaves every block in use where it is, with its size and every one of its owner's words, but for the block that it
-- is asked to free or to resize; and so does any history that names the block in no free, no resize and no write. A block that is resized has
-- its old words as far as both sizes reach (`resize_keeps`). By the frame law of each function of the core. Assumes nothing.
use Rattle.std.specs.Prelude.{◌≡◌, refl, Bool, true, false, List, [], ℕ, ◌+◌, ◌*◌, ◌/◌, ◌≤◌, ltb, length}
use Rattle.std.proofs.Common.{sym, ◌∙◌, ap, subst, arith, ltb-false}
use Rattle.std.proofs.Math.Option.{Option, none, some}
use Rattle.words.specs.Logic.{pick}
use Rattle.words.specs.Edition.{Edition, W, enc, dec_enc}
use Rattle.index.specs.Sizes.{need, need_words}
use Rattle.index.specs.SizesLaws.{need_words_lem}
use Rattle.tiling.specs.Tiling.{used, Starts}
use Rattle.tiling.specs.Spares.{Spares, spares_refl}
use Rattle.rules.specs.Heap.{Heap}
use Rattle.rules.specs.Malloc.{Grant, malloc}
use Rattle.rules.specs.Realloc.{realloc}
use Rattle.rules.specs.Memalign.{memalign}
use Rattle.rules.specs.Calls.{Call, Malloc, Free, Realloc, Memalign, Usable, Outcome, not_live, is_in, alignments, block_of, live_size, grant_or6, moved_or6, free_call, realloc_call, usable_call, unless_too_many, answer_to}
use Rattle.rules.specs.Blocks.{Grants}
use Rattle.rules.proofs.FreeLaws.{give_changes}
use Rattle.holds.specs.Lookup.{heads_tidy}
use Rattle.chunk.specs.Held.{Held}
use Rattle.malloc.specs.MallocBytes.{Reply, malloc_b}
use Rattle.malloc.proofs.MallocKeeps.{malloc_spares}
use Rattle.free.specs.FreeBytes.{free_b}
use Rattle.free.proofs.FreeKeeps.{free_spares}
use Rattle.realloc.specs.ReallocBytes.{realloc_b}
use Rattle.realloc.proofs.ReallocKeeps.{realloc_spares}
use Rattle.memalign.specs.MemalignBytes.{memalign_b}
use Rattle.memalign.proofs.MemalignKeeps.{memalign_spares}
use Rattle.decides.specs.LiveLaws.{is_some, live_starts, live_is}
use Rattle.calls.specs.CallBytes.{Told, refusing, chunk_at, grant_or_no, if_live, if_few, freed, core_call}
use Rattle.calls.specs.CallObeys.{Good}
use Rattle.calls.proofs.CallObeys.{chunk_plain, place_plain, one_of, goods, place_low, even, least, low, big, malloc_blocks, realloc_blocks, memalign_blocks}
use Rattle.calls.specs.Owners.{Left, Names}

by_test : (x s : ℕ) (w : List ℕ) (b : Bool) {t u : Told} {o v : Outcome} → (b ≡ true → Left x s w t o) → (b ≡ false → Left x s w u v) → Left x s w (pick b t u) (pick b o v)
by_test x s w true f g = f refl
by_test x s w false f g = g refl

module _ (e : Edition) (r w : List ℕ) (h : Heap) (n : Held e r w h []) (x s : ℕ) (st : Starts 0 h.chunks x (used s)) where
  -- nothing changed
  same : (t : Told) (o : Outcome) → t.words ≡ w → o.heap ≡ h → Left x s w t o
  same t o p q = record { stays = subst (λ (z : Heap). Starts 0 z.chunks x (used s)) (sym q) st; words = subst (Spares x s w) (sym p) (spares_refl x s w) }

  -- what a grant's words spare, and what the rule keeps
  grants : (a : Reply) (o : Option Grant) (lo hi : ℕ) (gone : ℕ → Type 0) → Spares x s w a.words → Grants h lo hi gone o → (gone x → ⊥) → Left x s w (grant_or_no e a) (grant_or6 e h o)
  grants a o lo hi gone f g ng = record { stays = stays o g; words = f }
    where
      stays : (o : Option Grant) → Grants h lo hi gone o → Starts 0 (grant_or6 e h o).heap.chunks x (used s)
      stays none g = st
      stays (some k) g = g.changes.kept x s st ng

  moves : (t : Told) (p z : ℕ) (o : Option Grant) → Left x s w t (grant_or6 e h o) → Left x s w t (moved_or6 e h p z o)
  moves t p z none f = f
  moves t p z (some g) f = record { stays = f.stays; words = f.words }

  few : (k : ℕ) (t : Told) (o : Outcome) → (k ≤ W e * length w → Left x s w t o) → Left x s w (if_few e r w k t) (unless_too_many e (length w) h k o)
  few k t o f = by_test x s w (ltb (W e * length w) k) (λ z. same _ _ refl refl) (λ z. f (ltb-false (W e * length w) k z))

  live : (off : ℕ) (t : Told) (o : Option ℕ → Outcome) → (o none).heap ≡ h
      → ((p u : ℕ) → Starts 0 h.chunks p (used u) → off ≡ block_of e p → Left x s w t (o (some u)))
      → Left x s w (if_live e r w off t) (o (live_size e 0 h.chunks off))
  live off t o q f = rw (live_is e r w h n off) (go (live_size e 0 h.chunks off) refl)
    where
      go : (z : Option ℕ) → live_size e 0 h.chunks off ≡ z → Left x s w (pick (is_some z) t (refusing (not_live off) r w)) (o z)
      go none u = same (refusing (not_live off) r w) (o none) refl q
      go (some m) u = let a = live_starts e 0 h.chunks off m u in f a.0 m a.1 a.2

  module _ (k : ℕ) (fit : k ≤ W e * length w) where
    abbrev nb : ℕ
    nb = need_words (W e) k

    malloc_left : Left x s w (grant_or_no e (malloc_b e r w (need (W e) k))) (grant_or6 e h (malloc e h nb))
    malloc_left =
        rw (need_words_lem (W e) k)
        (grants (malloc_b e r w (enc e nb)) (malloc e h nb) nb (nb + 4) (λ z. ⊥) (malloc_spares e r w h n nb (even e r w h n k fit) (least e r w h n k fit) (low e r w h n k fit) x s st) (malloc_blocks e r w h n k fit) (λ z. z))

    realloc_left : (p u : ℕ) → Starts 0 h.chunks p (used u) → (x ≡ p → ⊥) → Left x s w (grant_or_no e (realloc_b e r w (enc e p) (need (W e) k))) (grant_or6 e h (realloc e h p nb))
    realloc_left p u sp ne =
        rw (need_words_lem (W e) k)
        (grants (realloc_b e r w (enc e p) (enc e nb)) (realloc e h p nb) nb (nb + 4) (λ z. z ≡ p)
        (realloc_spares e r w h n p u nb sp (even e r w h n k fit) (least e r w h n k fit) (low e r w h n k fit) x s st ne) (realloc_blocks e r w h n k fit p u sp) ne)

    memalign_left : (al : ℕ) → Good e al → Left x s w (grant_or_no e (memalign_b e r w al (need (W e) k))) (grant_or6 e h (memalign e h (al / W e) nb))
    memalign_left al g =
        rw (need_words_lem (W e) k, g.1, dec_enc e (2 * g.0))
        (grants (memalign_b e r w (enc e (2 * g.0)) (enc e nb)) (memalign e h (2 * g.0) nb) nb (nb + 5) (λ z. ⊥)
        (memalign_spares e r w h n (2 * g.0) g.0 nb refl (omega (arith, g.2)) (omega (arith, g.3)) (even e r w h n k fit) (least e r w h n k fit) (big e r w h n k fit g.0 g.3) x s st)
        (memalign_blocks e r w h n k fit g.0 g.2 g.3) (λ z. z))

  apart : (off p : ℕ) → (off ≡ block_of e x → ⊥) → off ≡ block_of e p → x ≡ p → ⊥
  apart off p ne q z = ne (q ∙ ap (block_of e) (sym z))

  pub call_leaves : (c : Call) → (Names e c x → ⊥) → Left x s w (core_call e r w c) (answer_to e (length w) h c)
  call_leaves (Malloc k) ne = few k (grant_or_no e (malloc_b e r w (need (W e) k))) (grant_or6 e h (malloc e h (need_words (W e) k))) (λ l. malloc_left k l)
  call_leaves (Free off) ne =
      live off (freed (free_b e r w (chunk_at e off))) (λ z. free_call e h z off) refl
      (λ p u sp q. rw (q, chunk_plain e p (place_low e r w h n p u sp), place_plain e p)
      (record { stays = (give_changes e h p u (heads_tidy e w h n.near.heads) sp).kept x s st (apart off p ne q); words = free_spares e r w h n p u sp x s st (apart off p ne q) }))
  call_leaves (Realloc off k) ne =
      few k (if_live e r w off (grant_or_no e (realloc_b e r w (chunk_at e off) (need (W e) k)))) (realloc_call e h (live_size e 0 h.chunks off) off k)
      (λ l. live off (grant_or_no e (realloc_b e r w (chunk_at e off) (need (W e) k))) (λ z. realloc_call e h z off k) refl
      (λ p u sp q. rw (q, chunk_plain e p (place_low e r w h n p u sp), place_plain e p)
      (moves (grant_or_no e (realloc_b e r w (enc e p) (need (W e) k))) p u (realloc e h p (need_words (W e) k)) (realloc_left k l p u sp (apart off p ne q)))))
  call_leaves (Memalign al k) ne =
      by_test x s w (is_in al (alignments e))
      (λ z. few k (grant_or_no e (memalign_b e r w al (need (W e) k))) (grant_or6 e h (memalign e h (al / W e) (need_words (W e) k))) (λ l. memalign_left k l al (one_of (Good e) al (alignments e) z (goods e))))
      (λ z. same _ _ refl refl)
  call_leaves (Usable off) ne = live off _ (λ z. usable_call e h z off) refl (λ p u sp q. same _ _ refl refl)
