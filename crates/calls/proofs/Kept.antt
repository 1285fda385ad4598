-- A BLOCK THAT IS NOT GIVEN BACK OR MOVED, over whole histories: it stays where it is, with its size, and each of its words that its owner
-- does not write
-- stays too. By `call_leaves` at each call that does not name it; one that names it and is refused changes nothing; an owner's write in
-- another
-- block lies outside this one, since chunks of one list lie apart. Assumes nothing.
use Rattle.std.specs.Prelude.{◌≡◌, refl, List, [], ◌∷◌, ◌⊎◌, ℕ, ◌+◌, ◌*◌, ◌/◌, ◌≤◌, ◌<◌, ltb, length, get_or, set}
use Rattle.std.proofs.Common.{sym, ◌∙◌, ap, subst, inr, ⊎_elim, arith, ltb-true, get_or-set_other}
use Rattle.std.proofs.Math.Option.{Option, none, some}
use Rattle.words.specs.Logic.{pick, pick_case, same?}
use Rattle.words.specs.Edition.{Edition, W}
use Rattle.tiling.specs.Tiling.{used, Starts}
use Rattle.tiling.specs.Spares.{Spares, spares_refl}
use Rattle.rules.specs.Heap.{Heap}
use Rattle.rules.specs.Calls.{Call, Malloc, Free, Realloc, Memalign, Usable, answer_to, block_of, live_size}
use Rattle.rules.specs.Tidy.{starts_apart'}
use Rattle.holds.specs.Holds.{Holds}
use Rattle.holds.specs.Unique.{holds_unique}
use Rattle.sound.specs.SoundBytes.{live_b, usable_b}
use Rattle.decides.specs.LiveLaws.{is_some, live_starts}
use Rattle.calls.specs.Histories.{Box, box, Event, asks, writes, rebuilds, write_b, asked, remade_box, heap_after}
use Rattle.calls.specs.Histories.{HeldIn}
use Rattle.calls.proofs.Histories.{let_through, calls-held, live_in, usable_in, word_of, below, write_held, remade-held}
use Rattle.calls.specs.Rebuilds.{remade}
use Rattle.calls.specs.CallBytes.{Told, refusal}
use Rattle.calls.proofs.Rows.{refused_still}
use Rattle.calls.specs.Record.{image}
use Rattle.calls.specs.RecordLaws.{held-image}
use Rattle.calls.specs.ByValue.{call_a}
use Rattle.calls.specs.Owners.{Names}
use Rattle.calls.proofs.Owners.{call_leaves}
use Rattle.calls.specs.Kept.{Kept, LeftIn, Unmoved}

-- two blocks in use share no word
pub blocks_apart : (h : Heap) (x z p t : ℕ) → Starts 0 h.chunks x (used z) → Starts 0 h.chunks p (used t) → (x ≡ p → ⊥)
    → (x + z ≤ p) ⊎ (p + t ≤ x)
blocks_apart h x z p t a b ne = ⊎_elim (λ u. absurd (ne u.0)) (λ u. u) (starts_apart' 0 h.chunks x (used z) p (used t) a b)

module _ (e : Edition) (s : Box) (h : Heap) (n : HeldIn e s h) (x z : ℕ) (st : Starts 0 h.chunks x (used z)) where
  write_spares : (off k v : ℕ) → (off ≡ block_of e x → ⊥) → Spares x z s.words (write_b e s off k v)
  write_spares off k v ne = rw (live_in e s h n off) (go (live_size e 0 h.chunks off) refl)
    where
      go : (o : Option ℕ) → live_size e 0 h.chunks off ≡ o
          → Spares x z s.words
          (pick (is_some o) (pick (ltb (W e * k) (usable_b e s.words off)) (set s.words (off / W e + k) v) s.words) s.words)
      go none u = spares_refl x z s.words
      go (some t) u =
          let a = live_starts e 0 h.chunks off t u in
          let d = blocks_apart h x z a.0 t st a.1 (λ q. ne (a.2 ∙ ap (block_of e) (sym q))) in
          pick_case (Spares x z s.words) (ltb (W e * k) (usable_b e s.words off))
          (λ q. let l = below e k t
          (subst (λ (y : ℕ). W e * k < y) (usable_in e s h n off t u) (ltb-true (W e * k) (usable_b e s.words off) q)) in
          subst (λ (i : ℕ). Spares x z s.words (set s.words (i + k) v)) (sym (ap (λ (y : ℕ). y / W e) a.2 ∙ word_of e a.0))
          (λ i lo hi. get_or-set_other s.words (a.0 + 2 + k) i v 0 (λ y. ⊎_elim (λ m. omega (arith, m)) (λ m. omega (arith, m, l)) d)))
          (λ q. spares_refl x z s.words)

  -- a write to another word of the block itself
  write_other : (i k v : ℕ) → (k ≡ i → ⊥) → get_or (write_b e s (block_of e x) k v) (x + 2 + i) 0 ≡ get_or s.words (x + 2 + i) 0
  write_other i k v ne =
      pick_case (λ u. get_or u (x + 2 + i) 0 ≡ get_or s.words (x + 2 + i) 0) (live_b e s.words s.control.top (block_of e x))
      (λ _. pick_case (λ u. get_or u (x + 2 + i) 0 ≡ get_or s.words (x + 2 + i) 0) (ltb (W e * k) (usable_b e s.words (block_of e x)))
      (λ _. get_or-set_other s.words (block_of e x / W e + k) (x + 2 + i) v 0 (λ y. ne (omega (arith, word_of e x, y)))) (λ _. refl))
      (λ _. refl)

  -- a write of the block's owner or of another
  write_keeps : (i off k v : ℕ) → x + 2 + i ≤ x + z → (off ≡ block_of e x → k ≡ i → ⊥)
      → get_or (write_b e s off k v) (x + 2 + i) 0 ≡ get_or s.words (x + 2 + i) 0
  write_keeps i off k v l ne =
      ⊎_elim (λ q. rw q (write_other i k v (ne q))) (λ q. write_spares off k v q (x + 2 + i) (omega arith) l) (same? off (block_of e x))

-- a call that does not name it
call_left : (e : Edition) (s : Box) (h : Heap) → HeldIn e s h → (x z : ℕ) → Starts 0 h.chunks x (used z) → (c : Call) → (Names e c x → ⊥)
    → LeftIn x z s.words (call_a e s.control s.words c).words (answer_to e (length s.words) h c)
unfolding call_a
call_left e s h n x z st c ne =
    let m = held-image e s.control s.words h [] n in
    let a = call_leaves e (image s.control) s.words h m x z st c ne in
    record {
      stays = a.stays;
      words =
          subst (λ (t : Told). Spares x z s.words t.words) (sym (let_through e (image s.control) s.words h m c)) a.words;
    }

named? : (e : Edition) (c : Call) (x : ℕ) → Names e c x ⊎ (Names e c x → ⊥)
named? e (Malloc n) x = inr (λ z. z)
named? e (Free off) x = same? off (block_of e x)
named? e (Realloc off n) x = same? off (block_of e x)
named? e (Memalign al n) x = inr (λ z. z)
named? e (Usable off) x = inr (λ z. z)

-- one that names it and is refused changes nothing
call_refused : (e : Edition) (s : Box) (h : Heap) → HeldIn e s h → (x z : ℕ) → Starts 0 h.chunks x (used z) → (c : Call)
    → (refusal (call_a e s.control s.words c).answer ≡ 0 → ⊥)
    → LeftIn x z s.words (call_a e s.control s.words c).words (answer_to e (length s.words) h c)
call_refused e s h n x z st c not0 =
    let f = calls-held e s h n c in
    let o = answer_to e (length s.words) h c in
    let t = call_a e s.control s.words c in
    let q = f.left (refused_still t.answer not0) in
    let m : HeldIn e s o.heap =
    subst (λ d. Holds e d s.words o.heap) q.0 (subst (λ v. Holds e t.control v o.heap) q.1 f.held) in
    record {
      stays = subst (λ (g : Heap). Starts 0 g.chunks x (used z)) (holds_unique e s.control s.words h o.heap n m) st;
      words = subst (Spares x z s.words) (sym q.1) (spares_refl x z s.words);
    }

call_keeps : (e : Edition) (s : Box) (h : Heap) → HeldIn e s h → (x z : ℕ) → Starts 0 h.chunks x (used z) → (c : Call)
    → (Names e c x → refusal (call_a e s.control s.words c).answer ≡ 0 → ⊥)
    → LeftIn x z s.words (call_a e s.control s.words c).words (answer_to e (length s.words) h c)
call_keeps e s h n x z st c not0 = ⊎_elim (λ u. call_refused e s h n x z st c (not0 u)) (λ u. call_left e s h n x z st c u) (named? e c x)

pub kept : (e : Edition) (s : Box) (h : Heap) → HeldIn e s h → (x z : ℕ) → Starts 0 h.chunks x (used z) → (es : List Event)
    → Unmoved e s es x
    → Kept e s h x z es
kept e s h n x z st [] u = record { stays = st; word = λ i l v. refl }
kept e s h n x z st (asks c ∷ es) u =
    let f = calls-held e s h n c in
    let a = call_keeps e s h n x z st c u.0 in
    let g = kept e (asked e s c) (answer_to e (length s.words) h c).heap f.held x z a.stays es u.1 in
    record {
      stays = subst (λ (k : ℕ). Starts 0 (heap_after e k (answer_to e (length s.words) h c).heap es).chunks x (used z)) f.count
          g.stays;
      word = λ i l v. g.word i l v ∙ a.words (x + 2 + i) (omega arith) l;
    }
kept e s h n x z st (writes off k v ∷ es) u =
    let f = write_held e s h n off k v in
    let g = kept e (box s.control (write_b e s off k v)) h f.held x z st es u in
    record {
      stays = subst (λ (k' : ℕ). Starts 0 (heap_after e k' h es).chunks x (used z)) f.count g.stays;
      word = λ i l y. g.word i l y.1 ∙ write_keeps e s h n x z st i off k v l y.0;
    }
kept e s h n x z st (rebuilds ∷ es) u =
    let f = remade-held e s h n in
    let g = kept e (remade_box e s) (remade e h) f.held x z (subst (λ cs. Starts 0 cs x (used z)) (sym f.chunks) st) es u in
    record {
      stays = subst (λ (k : ℕ). Starts 0 (heap_after e k (remade e h) es).chunks x (used z)) f.count g.stays;
      word = λ i l y. g.word i l y ∙ f.keeps x z st (x + 2 + i) (omega arith) l;
    }
