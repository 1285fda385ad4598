-- REALLOC, WHOLE: it obeys its rule on every held heap. A move: malloc, then the old block's words are copied into the new one (an owner's
-- words sway nothing, so the same heap is held), then the old one is given back. Assumes nothing.
use Rattle.std.specs.Prelude.{◌≡◌, true, List, [], ℕ, zero, suc, ◌+◌, ◌-◌, ◌*◌, ◌/◌, ◌%◌, ◌≤◌, ◌<◌, length, get_or}
use Rattle.std.proofs.Math.Path.{refl, subst}
use Rattle.std.proofs.Common.{sym, ◌∙◌, ap, ⊎_elim, arith, length-set, get_or-set_other}
use Rattle.std.proofs.Math.Option.{Option, none, some}
use borrow.Author.Tests.{le-ltb, eq-eqb, ne_eqb}
use Rattle.words.specs.Logic.{pick}
use Rattle.words.specs.Edition.{Edition, wide, narrow, W, no_link, none_free, enc, dec_enc}
use Rattle.tiling.specs.Tiling.{used, bit, end_of, Starts, starts_at_lem, starts_in}
use Rattle.rules.specs.BinOf.{huge}
use Rattle.rules.specs.Heap.{Heap}
use Rattle.rules.specs.Malloc.{Grant, malloc}
use Rattle.rules.specs.Free.{give_back}
use Rattle.rules.specs.Realloc.{resize_here, front, moved, here_or_moved, realloc_found, realloc}
use Rattle.rules.specs.Lookup.{Block, block}
use Rattle.rules.specs.Blocks.{Grants}
use Rattle.rules.specs.MallocLaws.{malloc-grants}
use Rattle.rules.proofs.ReallocLaws.{larger}
use Rattle.holds.specs.Ops.{state}
use Rattle.holds.specs.Lookup.{heads_tidy}
use Rattle.holds.specs.Owner.{OnlyOwned, owner_writes}
use Rattle.holds.specs.MallocSource.{malloc_source}
use Rattle.chunk.specs.Bytes.{less, size_b}
use Rattle.chunk.specs.Image.{decode}
use Rattle.chunk.specs.Plain.{small_less, size_plain}
use Rattle.chunk.specs.Held.{Held}
use Rattle.malloc.specs.MallocBytes.{Reply, reply, malloc_b}
use Rattle.malloc.specs.MallocObeys.{Obeys}
use Rattle.malloc.proofs.MallocFollows.{malloc_obeys}
use Rattle.free.proofs.FreeObeys.{flags_below, dispose_obeys}
use Rattle.realloc.specs.ReallocBytes.{Tried, try_realloc, copy_up, copy_words, move_block, moved_b, realloc_b}
use Rattle.realloc.specs.ReallocObeys.{Agrees}
use Rattle.realloc.proofs.ReallocObeys.{resize_agrees}

-- ---- copying

-- the words that a copy into the block at q changes are the owner's
pub copy_owned : (w : List ℕ) (a q n s : ℕ) → n + 1 ≤ s → OnlyOwned w (copy_up w a (q + 2) n) q s
unfolding copy_up
copy_owned w a q zero s l = (refl, λ i u. refl)
copy_owned w a q (suc n) s l =
    let ih = copy_owned w a q n s (omega arith) in (
      length-set (copy_up w a (q + 2) n) (q + 2 + n) (get_or (copy_up w a (q + 2) n) (a + n) 0) ∙ ih.0,
      λ i u. get_or-set_other (copy_up w a (q + 2) n) (q + 2 + n) i (get_or (copy_up w a (q + 2) n) (a + n) 0) 0 (λ z. ⊎_elim (λ y. omega arith) (λ y. omega arith) u) ∙ ih.1 i u,
    )

copy_whole : (w : List ℕ) (a b n : ℕ) → a + n ≤ length w → b + n ≤ length w → copy_words w a b n ≡ copy_up w a b n
unfolding copy_words
copy_whole w a b n p q = rw (le-ltb (length w) n (omega arith), le-ltb (length w - n) a (omega arith), le-ltb (length w - n) b (omega arith)) refl

-- the size in the head of a block in use
pub block_size : (e : Edition) (r w : List ℕ) (h : Heap) (l : List ℕ) (p s : ℕ) → Held e r w h l → Starts 0 h.chunks p (used s) → size_b e w (enc e p) ≡ enc e s
block_size e r w h l p s n st =
    let a = starts_at_lem e w 0 true h.chunks p (used s) n.near.heads.run st in
    size_plain e w p s (2 + bit a.0) (a.1.head ∙ omega arith) a.1.even (flags_below a.0)

-- ---- the move: both blocks are in use, the new one is at least as large as the old

move_step : (e : Edition) (r w : List ℕ) (h : Heap) (p s q t : ℕ) → Held e r w h [] → Starts 0 h.chunks p (used s) → Starts 0 h.chunks q (used t) → s ≤ t
    → Held e (move_block e r w (enc e p) (enc e q)).image (move_block e r w (enc e p) (enc e q)).words (give_back e h p) []
unfolding move_block
move_step e r w h p s q t n st sq fit =
    rw (block_size e r w h [] p s n st, dec_enc e p, dec_enc e q, count, copy_whole w (p + 2) (q + 2) (s - 1) (omega (arith, old, long)) (omega (arith, new, long)))
    (dispose_obeys e r (copy_up w (p + 2) (q + 2) (s - 1)) h
    (record { image = n.image; near = owner_writes e (decode r) w (copy_up w (p + 2) (q + 2) (s - 1)) h [] q t n.near sq (copy_owned w (p + 2) q (s - 1) t (omega (arith, fit, some_size))) }) s p st)
  where
    some_size : 4 ≤ s
    some_size = (starts_at_lem e w 0 true h.chunks p (used s) n.near.heads.run st).1.least

    old : p + s ≤ end_of 0 h.chunks
    old = (starts_in e w 0 true h.chunks p (used s) n.near.heads.run st).1

    new : q + t ≤ end_of 0 h.chunks
    new = (starts_in e w 0 true h.chunks q (used t) n.near.heads.run sq).1

    long : end_of 0 h.chunks + 12 ≤ length w
    long = omega (arith, n.near.heads.top.ends, n.near.heads.top.least)

    one : (e : Edition) → W e ≡ enc e 1
    one wide = refl
    one narrow = refl

    count : less e (enc e s) (W e) / W e ≡ s - 1
    count = ap (λ k. less e (enc e s) k / W e) (one e) ∙ ap (λ k. k / W e) (small_less e s 1 (omega (arith, some_size)) (omega (arith, old, long, n.near.most))) ∙ dec_enc e (s - 1)

module _ (e : Edition) (r w : List ℕ) (h : Heap) (n : Held e r w h []) (p s nb : ℕ) (st : Starts 0 h.chunks p (used s)) (v : nb % 2 ≡ 0) (l : 4 ≤ nb) (hi : W e * nb < huge) where
  moved_obeys : s < nb → (m : Reply) (o : Option Grant) → Obeys e r w m o → Grants h nb (nb + 4) (λ x. ⊥) o → Obeys e r w (moved_b e (enc e p) m) (moved e o p)
  unfolding moved_b
  moved_obeys u m none f g = rw (f, eq-eqb (no_link e) (no_link e) refl) refl
  moved_obeys u m (some k) f g =
      rw (f.0, ne_eqb (enc e k.place) (no_link e) (none_free e k.place))
      (refl, move_step e m.image m.words k.heap p s k.place g.words f.1 (g.changes.kept p s st (λ z. z)) g.block (omega (arith, g.large)))

  pub realloc_obeys : Obeys e r w (realloc_b e r w (enc e p) (enc e nb)) (realloc e h p nb)
  unfolding realloc_b
  realloc_obeys =
      subst (λ z. Obeys e r w (realloc_b e r w (enc e p) (enc e nb)) (realloc_found e h z p nb)) (sym b.finds)
      (go (try_realloc e r w (enc e p) (enc e nb)) (resize_here e h (front b.f) p b.f.words nb b.f.after) same refl)
    where
      b : Block h.chunks p s
      b = block h.chunks p s (heads_tidy e w h n.near.heads).chunks st

      same : Agrees e r w (try_realloc e r w (enc e p) (enc e nb)) (resize_here e h (front b.f) p b.f.words nb b.f.after)
      same =
          subst (λ k. Agrees e r w (try_realloc e r w (enc e p) (enc e nb)) (resize_here e h (front b.f) p k nb b.f.after)) (sym b.words)
          (subst (λ a. Agrees e r w (try_realloc e r w (enc e a) (enc e nb)) (resize_here e h (front b.f) a s nb b.f.after)) (sym b.place)
          (resize_agrees e r w h n (front b.f) s nb v l b.f.after b.whole))

      go : (t : Tried) (y : Option Heap) → Agrees e r w t y → resize_here e h (front b.f) p b.f.words nb b.f.after ≡ y
          → Obeys e r w (pick t.here (reply (enc e p) t.image t.words) (moved_b e (enc e p) (malloc_b e t.image t.words (enc e nb)))) (here_or_moved e h y p nb)
      go t (some k) a q = rw a.0 (refl, a.1)
      go t none a q =
          rw a (moved_obeys (larger e h p s nb b (subst (λ k. resize_here e h (front b.f) p k nb b.f.after ≡ none) b.words q)) (malloc_b e r w (enc e nb)) (malloc e h nb) (malloc_obeys e r w h n nb v l hi)
          (malloc-grants e h nb (heads_tidy e w h n.near.heads) v l (malloc e h nb) (malloc_source e (state (decode r) w) h n.near nb v l hi)))
