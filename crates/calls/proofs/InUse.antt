-- WHICH BLOCKS ARE IN USE, over whole histories: exactly those that were granted and not since given back or moved, as the answers alone tell. By what
-- each rule does to the blocks (`Blocks` of `rules`). Assumes nothing.
use Rattle.std.specs.Prelude.{◌≡◌, refl, List, [], ◌∷◌, ◌↔◌, ℕ, ◌+◌, ◌*◌, ◌/◌, ◌%◌, ◌≤◌, ltb, length}
use Rattle.std.proofs.Common.{sym, ◌∙◌, ap, subst, inl, inr, ⊎_elim, arith, ltb-false}
use Rattle.std.proofs.Math.Option.{Option, none, some}
use Rattle.words.specs.Logic.{pick_case}
use Rattle.words.specs.Edition.{Edition, wide, narrow, W, enc, dec_enc}
use Rattle.index.specs.Sizes.{need_words}
use Rattle.tiling.specs.Tiling.{Chunk, used, Starts}
use Rattle.rules.specs.Heap.{Heap, fresh_heap}
use Rattle.rules.specs.Malloc.{Grant, malloc}
use Rattle.rules.specs.Free.{give_back}
use Rattle.rules.specs.Realloc.{realloc}
use Rattle.rules.specs.Memalign.{memalign}
use Rattle.rules.specs.Calls.{Call, Malloc, Free, Realloc, Memalign, Usable, Answer, granted, done, bytes, refused, Outcome, outcome, refuse, Reason, too_many, not_live, bad_alignment, is_in, alignments, block_of, live_size, grant_or6, moved_or6, free_call, realloc_call, usable_call, unless_too_many, answer_to}
use Rattle.rules.specs.Blocks.{Grants}
use Rattle.rules.proofs.FreeLaws.{give_changes}
use Rattle.holds.specs.Unique.{fresh_holds}
use Rattle.holds.specs.Lookup.{heads_tidy}
use Rattle.chunk.specs.Held.{Held}
use Rattle.decides.specs.LiveLaws.{Live, live_starts}
use Rattle.calls.specs.CallObeys.{Good}
use Rattle.calls.proofs.CallObeys.{place_plain, one_of, goods, malloc_blocks, realloc_blocks, memalign_blocks}
use Rattle.calls.specs.Histories.{Box, box, Event, asks, writes, rebuilds, write_b, asked, remade_box}
use Rattle.calls.specs.Histories.{answers, heap_after, HeldIn, set_up_on}
use Rattle.calls.proofs.Histories.{calls-held, write_held, remade-held}
use Rattle.calls.specs.Rebuilds.{remade}
use Rattle.calls.specs.Record.{image}
use Rattle.calls.specs.RecordLaws.{held-image}
use Rattle.calls.specs.InUse.{Gone, Ledger, Next}

next_same : (P Q : ℕ → Type 0) → ((off : ℕ) → P off ↔ Q off) → (c : Call) (a : Answer) (off : ℕ) → Next P c a off ↔ Next Q c a off
next_same P Q f c (granted b) off = (⊎_elim (λ u. inl ((f off).0 u.0, u.1)) (λ u. inr u), ⊎_elim (λ u. inl ((f off).1 u.0, u.1)) (λ u. inr u))
next_same P Q f c done off = ((λ u. ((f off).0 u.0, u.1)), (λ u. ((f off).1 u.0, u.1)))
next_same P Q f c (bytes n) off = f off
next_same P Q f c (refused why) off = f off

ledger_same : (P Q : ℕ → Type 0) → ((off : ℕ) → P off ↔ Q off) → (es : List Event) (told : List Answer) (off : ℕ) → Ledger P es told off ↔ Ledger Q es told off
ledger_same P Q f [] told off = f off
ledger_same P Q f (asks c ∷ es) [] off = f off
ledger_same P Q f (asks c ∷ es) (a ∷ told) off = ledger_same (Next P c a) (Next Q c a) (next_same P Q f c a) es told off
ledger_same P Q f (writes b k v ∷ es) told off = ledger_same P Q f es told off
ledger_same P Q f (rebuilds ∷ es) [] off = f off
ledger_same P Q f (rebuilds ∷ es) (a ∷ told) off = ledger_same P Q f es told off

-- blocks of two chunks are two
block_one : (e : Edition) (x p : ℕ) → block_of e x ≡ block_of e p → x ≡ p
block_one wide x p q = omega arith
block_one narrow x p q = omega arith

-- ---- one call

module _ (e : Edition) (r w : List ℕ) (h : Heap) (n : Held e r w h []) where
  abbrev Before : ℕ → Type 0
  Before off = Live e h.chunks off

  abbrev Told : Call → Outcome → Type 0
  Told c o = (off : ℕ) → Live e o.heap.chunks off ↔ Next Before c o.answer off

  -- what leaves by place leaves by offset
  record Same (c : Call) (gone : ℕ → Type 0) : Type 0 where
    to : (x : ℕ) → gone x → Gone c (block_of e x)
    from : (x : ℕ) → Gone c (block_of e x) → gone x

  grants : (c : Call) (o : Option Grant) (lo hi : ℕ) (gone : ℕ → Type 0) → Same c gone → Grants h lo hi gone o → Told c (grant_or6 e h o)
  grants c none lo hi gone m g off = ((λ u. u), (λ u. u))
  grants c (some k) lo hi gone m g off = (
    λ u. ⊎_elim (λ v. inr (u.3 ∙ ap (block_of e) v.0))
        (λ v. inl ((u.0, u.1, v.0, u.3), λ y. v.1 (m.from u.0 (subst (Gone c) u.3 y))))
        (g.changes.only u.0 u.1 u.2),
    ⊎_elim (λ u. (u.0.0, u.0.1, g.changes.kept u.0.0 u.0.1 u.0.2 (λ y. u.1 (subst (Gone c) (sym u.0.3) (m.to u.0.0 y))), u.0.3))
        (λ u. (k.place, g.words, g.block, u)),
  )

  refuses : (c : Call) (why : Reason) → Told c (refuse h why)
  refuses c why off = ((λ u. u), (λ u. u))

  few : (c : Call) (k : ℕ) (o : Outcome) → (k ≤ W e * length w → Told c o) → Told c (unless_too_many e (length w) h k o)
  few c k o f = pick_case (Told c) (ltb (W e * length w) k) (λ z. refuses c too_many) (λ z. f (ltb-false (W e * length w) k z))

  live : (c : Call) (off : ℕ) (o : Option ℕ → Outcome) → Told c (o none) → ((p s : ℕ) → Starts 0 h.chunks p (used s) → off ≡ block_of e p → Told c (o (some s))) → Told c (o (live_size e 0 h.chunks off))
  live c off o f g = go (live_size e 0 h.chunks off) refl
    where
      go : (z : Option ℕ) → live_size e 0 h.chunks off ≡ z → Told c (o z)
      go none u = f
      go (some s) u = let a = live_starts e 0 h.chunks off s u in g a.0 s a.1 a.2

  moves : (c : Call) (p s : ℕ) (o : Option Grant) → Told c (grant_or6 e h o) → Told c (moved_or6 e h p s o)
  moves c p s none f = f
  moves c p s (some g) f = f

  -- the block at b is the one at the place p
  one_gone : (b p k : ℕ) → b ≡ block_of e p → Same (Realloc b k) (λ x. x ≡ p)
  one_gone b p k q = record { to = λ x u. ap (block_of e) u ∙ sym q; from = λ x u. block_one e x p (u ∙ q) }

  frees : (b p s : ℕ) → Starts 0 h.chunks p (used s) → b ≡ block_of e p → Told (Free b) (outcome done (give_back e h p) 0)
  frees b p s st q off =
      let c = give_changes e h p s (heads_tidy e w h n.near.heads) st in (
        λ u. ⊎_elim (λ v. absurd v) (λ v. ((u.0, u.1, v.0, u.3), λ y. v.1 (block_one e u.0 p (sym u.3 ∙ y ∙ q)))) (c.only u.0 u.1 u.2),
        λ u. (u.0.0, u.0.1, c.kept u.0.0 u.0.1 u.0.2 (λ y. u.1 (u.0.3 ∙ ap (block_of e) y ∙ sym q)), u.0.3),
      )

  pub call_tells : (c : Call) → Told c (answer_to e (length w) h c)
  call_tells (Malloc k) =
      few (Malloc k) k (grant_or6 e h (malloc e h (need_words (W e) k))) (λ l. grants (Malloc k) (malloc e h (need_words (W e) k)) (need_words (W e) k) (need_words (W e) k + 4) (λ x. ⊥)
      (record { to = λ x u. u; from = λ x u. u }) (malloc_blocks e r w h n k l))
  call_tells (Free b) = live (Free b) b (λ z. free_call e h z b) (refuses (Free b) (not_live b)) (λ p s st q. rw (q, place_plain e p) (frees (block_of e p) p s st refl))
  call_tells (Realloc b k) =
      few (Realloc b k) k (realloc_call e h (live_size e 0 h.chunks b) b k) (λ l. live (Realloc b k) b (λ z. realloc_call e h z b k) (refuses (Realloc b k) (not_live b))
      (λ p s st q. rw (q, place_plain e p) (moves (Realloc (block_of e p) k) p s (realloc e h p (need_words (W e) k))
      (grants (Realloc (block_of e p) k) (realloc e h p (need_words (W e) k)) (need_words (W e) k) (need_words (W e) k + 4) (λ x. x ≡ p) (one_gone (block_of e p) p k refl) (realloc_blocks e r w h n k l p s st)))))
  call_tells (Memalign al k) =
      pick_case (Told (Memalign al k)) (is_in al (alignments e))
      (λ z. few (Memalign al k) k (grant_or6 e h (memalign e h (al / W e) (need_words (W e) k))) (λ l. aligned k l al (one_of (Good e) al (alignments e) z (goods e))))
      (λ z. refuses (Memalign al k) bad_alignment)
    where
      aligned : (k : ℕ) → k ≤ W e * length w → (al : ℕ) → Good e al → Told (Memalign al k) (grant_or6 e h (memalign e h (al / W e) (need_words (W e) k)))
      aligned k l al g =
          rw (g.1, dec_enc e (2 * g.0))
          (grants (Memalign (enc e (2 * g.0)) k) (memalign e h (2 * g.0) (need_words (W e) k)) (need_words (W e) k) (need_words (W e) k + 5) (λ x. ⊥) (record { to = λ x u. u; from = λ x u. u }) (memalign_blocks e r w h n k l g.0 g.2 g.3))
  call_tells (Usable b) = live (Usable b) b (λ z. usable_call e h z b) (refuses (Usable b) (not_live b)) (λ p s st q off. ((λ u. u), (λ u. u)))

-- ---- histories

pub tells : (e : Edition) (s : Box) (h : Heap) → HeldIn e s h → (es : List Event) (off : ℕ) → Live e (heap_after e (length s.words) h es).chunks off ↔ Ledger (Live e h.chunks) es (answers e s es) off
tells e s h n [] off = ((λ u. u), (λ u. u))
tells e s h n (asks c ∷ es) off =
    let f = calls-held e s h n c in
    let k = answer_to e (length s.words) h c in
    let a = subst (λ (m : ℕ). Live e (heap_after e m k.heap es).chunks off ↔ Ledger (Live e k.heap.chunks) es (answers e (asked e s c) es) off) f.count (tells e (asked e s c) k.heap f.held es off) in
    let b = ledger_same (Live e k.heap.chunks) (Next (Live e h.chunks) c k.answer) (call_tells e (image s.control) s.words h (held-image e s.control s.words h [] n) c) es (answers e (asked e s c) es) off in
    rw f.answer ((λ u. b.0 (a.0 u)), (λ u. a.1 (b.1 u)))
tells e s h n (writes b k v ∷ es) off =
    let f = write_held e s h n b k v in
    subst (λ (m : ℕ). Live e (heap_after e m h es).chunks off ↔ Ledger (Live e h.chunks) es (answers e (box s.control (write_b e s b k v)) es) off) f.count (tells e (box s.control (write_b e s b k v)) h f.held es off)
tells e s h n (rebuilds ∷ es) off =
    let f = remade-held e s h n in
    let b = remade_box e s in
    let k = remade e h in
    let a = subst (λ (m : ℕ). Live e (heap_after e m k es).chunks off ↔ Ledger (Live e k.chunks) es (answers e b es) off)
    f.count (tells e b k f.held es off) in
    subst (λ (cs : List Chunk). Live e (heap_after e (length s.words) k es).chunks off ↔ Ledger (Live e cs) es (answers e b es) off)
    f.chunks a

-- from set-up: the blocks in use are those granted and not since given back or moved
pub in_use : (e : Edition) (w : List ℕ) → length w % 2 ≡ 0 → 16 ≤ length w → length w ≤ 8192 → (es : List Event) (off : ℕ)
    → Live e (heap_after e (length (set_up_on e w).words) (fresh_heap (length w)) es).chunks off ↔ Ledger (λ o. ⊥) es (answers e (set_up_on e w) es) off
in_use e w v l m es off =
    let a = tells e (set_up_on e w) (fresh_heap (length w)) (fresh_holds e w v l m) es off in
    let b = ledger_same (Live e []) (λ o. ⊥) (λ o. ((λ u. u.2), (λ u. absurd u))) es (answers e (set_up_on e w) es) off in ((λ u. b.0 (a.0 u)), (λ u. a.1 (b.1 u)))
