-- HISTORIES: from a record and an arena that hold a heap, any list of calls, granted or refused, with any numbers, and of owners' writes in their own live
-- blocks. Every answer is the rules' answer, so none is refused as unsound; record and arena hold the rules' heap throughout. Answers are
-- swayed by that heap and the number of words alone. Once no block is in use the record is the fresh one, and every later list of calls is
-- answered as a fresh arena of that length answers it. By `call_obeys`, the check that is exact, and `owner_writes`. Assumes nothing.
use Rattle.std.specs.Prelude.{◌≡◌, refl, List, [], ◌∷◌, ℕ, ◌+◌, ◌-◌, ◌*◌, ◌/◌, ◌%◌, ◌≤◌, ◌<◌, ltb, length, get_or, set}
use Rattle.std.proofs.Common.{sym, ◌∙◌, ap, subst, ⊎_elim, arith, eq-eqb, le-leb, ltb-true, length-set, get_or-set_other}
use Rattle.std.proofs.Math.Option.{Option, none, some}
use Rattle.words.specs.Logic.{pick, pick_case}
use Rattle.words.specs.Edition.{Edition, wide, narrow, W}
use Rattle.rules.specs.Heap.{Heap, fresh_heap}
use Rattle.rules.specs.Calls.{Call, Answer, granted, done, bytes, refused, Outcome, answer_to, block_of, live_size}
use Rattle.holds.specs.Holds.{Control, Near, Holds, fresh_control}
use Rattle.holds.specs.Governed.{Governed, governed_frame}
use Rattle.holds.specs.Owner.{OnlyOwned, owner_writes}
use Rattle.holds.specs.Unique.{NoneInUse, none_in_use, fresh_again, fresh_holds}
use Rattle.chunk.specs.Image.{decode}
use Rattle.chunk.specs.Held.{Held}
use Rattle.sound.specs.SoundBytes.{live_b, usable_b}
use Rattle.decides.specs.SoundLaws.{sound_there}
use Rattle.decides.specs.LiveLaws.{is_some, live_starts, live_is, usable_is}
use Rattle.calls.specs.CallBytes.{Told, Still, core_call, call_b}
use Rattle.calls.specs.Record.{image, numbers_of}
use Rattle.calls.specs.RecordLaws.{image_top, decode-image, held_fits, held-image, held_read}
use Rattle.calls.specs.ByValue.{handed_back, heard, call_a, rebuild_a}
use Rattle.calls.specs.Rebuilds.{remade, Remakes}
use Rattle.calls.proofs.Rebuilds.{rebuild_held}
use Rattle.calls.specs.CallObeys.{Follows}
use Rattle.calls.proofs.CallObeys.{call_obeys}
use Rattle.calls.specs.Histories.{Box, Does, Event, Goes, HeldIn, Written, after, answers, asked, asks, box, heap_after, rebuilds, remade_box, ruled, set_up_on, write_b, writes}

-- ---- one event

-- the check lets a sound pair through
pub let_through : (e : Edition) (r w : List ℕ) (h : Heap) → Held e r w h [] → (c : Call) → call_b e r w c ≡ core_call e r w c
unfolding call_b
let_through e r w h n c =
    rw (eq-eqb (length w % 2) 0 n.near.even, le-leb 16 (length w) n.near.least, le-leb (length w) 8192 n.near.most, sound_there e r w n.image (h, n.near)) refl

hears : (e : Edition) (s : Box) (h : Heap) → HeldIn e s h → (t : Told) (o : Outcome) → Follows e (image s.control) s.words t o → Does e s (heard s.control t) o
hears e s h n t o f =
    record { answer = f.answer; held = go t.answer refl; count = f.count; left = λ z. (back t.answer z, (f.left z).1) }
  where
    read : Near e (numbers_of t.image) t.words o.heap []
    read = subst (λ d. Near e d t.words o.heap []) (sym (held_read e t.image t.words o.heap [] f.held)) f.held.near

    same : Still t.answer → Near e s.control t.words o.heap []
    same z = subst (λ d. Near e d t.words o.heap []) (ap decode (f.left z).0 ∙ decode-image s.control (held_fits e s.control s.words h [] n)) f.held.near

    go : (a : Answer) → t.answer ≡ a → Near e (handed_back a s.control t.image) t.words o.heap []
    go (granted b) q = read
    go done q = read
    go (bytes k) q = same (subst Still (sym q) tt)
    go (refused why) q = same (subst Still (sym q) tt)

    back : (a : Answer) → Still a → handed_back a s.control t.image ≡ s.control
    back (granted b) z = absurd z
    back done z = absurd z
    back (bytes k) z = refl
    back (refused why) z = refl

pub calls-held : (e : Edition) (s : Box) (h : Heap) → HeldIn e s h → (c : Call) → Does e s (call_a e s.control s.words c) (answer_to e (length s.words) h c)
unfolding call_a
calls-held e s h n c =
    let m = held-image e s.control s.words h [] n in
    hears e s h n (call_b e (image s.control) s.words c) (answer_to e (length s.words) h c)
    (rw (let_through e (image s.control) s.words h m c) (call_obeys e (image s.control) s.words h m c))

-- liveness and usable size, of the record's numbers
pub live_in : (e : Edition) (s : Box) (h : Heap) → HeldIn e s h → (off : ℕ) → live_b e s.words s.control.top off ≡ is_some (live_size e 0 h.chunks off)
live_in e s h n off =
    ap (λ z. live_b e s.words z off) (sym (image_top s.control (held_fits e s.control s.words h [] n)))
    ∙ live_is e (image s.control) s.words h (held-image e s.control s.words h [] n) off

pub usable_in : (e : Edition) (s : Box) (h : Heap) → HeldIn e s h → (off t : ℕ) → live_size e 0 h.chunks off ≡ some t → usable_b e s.words off ≡ W e * (t - 1)
usable_in e s h n off t u = usable_is e (image s.control) s.words h (held-image e s.control s.words h [] n) off t u

-- word k of a block of s words at p is one of the owner's
owned : (w : List ℕ) (p s k v : ℕ) → k + 1 < s → OnlyOwned w (set w (p + 2 + k) v) p s
owned w p s k v l = (length-set w (p + 2 + k) v, λ i u. get_or-set_other w (p + 2 + k) i v 0 (λ z. ⊎_elim (λ y. omega arith) (λ y. omega arith) u))

pub word_of : (e : Edition) (p : ℕ) → block_of e p / W e ≡ p + 2
word_of wide p = omega arith
word_of narrow p = omega arith

pub below : (e : Edition) (k s : ℕ) → W e * k < W e * (s - 1) → k + 1 < s
below wide k s l = omega arith
below narrow k s l = omega arith

pub write_held : (e : Edition) (s : Box) (h : Heap) → HeldIn e s h → (off k v : ℕ) → Written e s h (write_b e s off k v)
write_held e s h n off k v = rw (live_in e s h n off) (go (live_size e 0 h.chunks off) refl)
  where
    stays : Written e s h s.words
    stays = record { held = n; count = refl }

    go : (z : Option ℕ) → live_size e 0 h.chunks off ≡ z → Written e s h (pick (is_some z) (pick (ltb (W e * k) (usable_b e s.words off)) (set s.words (off / W e + k) v) s.words) s.words)
    go none u = stays
    go (some t) u =
        let a = live_starts e 0 h.chunks off t u in
        pick_case (Written e s h) (ltb (W e * k) (usable_b e s.words off))
        (λ z. let o = owned s.words a.0 t k v (below e k t (subst (λ (y : ℕ). W e * k < y) (usable_in e s h n off t u) (ltb-true (W e * k) (usable_b e s.words off) z))) in
        subst (λ (i : ℕ). Written e s h (set s.words (i + k) v)) (sym (ap (λ (y : ℕ). y / W e) a.2 ∙ word_of e a.0))
        (record { held = owner_writes e s.control s.words (set s.words (a.0 + 2 + k) v) h [] a.0 t n a.1 o; count = o.0 }))
        (λ z. stays)

-- the rebuild, in an arena that is sound
pub remade-held : (e : Edition) (s : Box) (h : Heap) → HeldIn e s h → Remakes e s.words h.chunks h.top (rebuild_a e s.words 0)
remade-held e s h n = rebuild_held e s.control s.words h n

-- ---- histories

pub goes : (e : Edition) (s : Box) (h : Heap) → HeldIn e s h → (es : List Event) → Goes e s h es
goes e s h n [] = record { answered = refl; held = n; count = refl }
goes e s h n (asks c ∷ es) =
    let f = calls-held e s h n c in
    let g = goes e (asked e s c) (answer_to e (length s.words) h c).heap f.held es in
    let m = subst (λ (k : ℕ). (answers e (asked e s c) es ≡ ruled e k (answer_to e (length s.words) h c).heap es) × HeldIn e (after e (asked e s c) es) (heap_after e k (answer_to e (length s.words) h c).heap es)) f.count (g.answered, g.held) in
    record { answered = rw (f.answer, m.0) refl; held = m.1; count = g.count ∙ f.count }
goes e s h n (writes off k v ∷ es) =
    let f = write_held e s h n off k v in
    let g = goes e (box s.control (write_b e s off k v)) h f.held es in
    let m = subst (λ (k' : ℕ). (answers e (box s.control (write_b e s off k v)) es ≡ ruled e k' h es) × HeldIn e (after e (box s.control (write_b e s off k v)) es) (heap_after e k' h es)) f.count (g.answered, g.held) in
    record { answered = m.0; held = m.1; count = g.count ∙ f.count }
goes e s h n (rebuilds ∷ es) =
    let f = remade-held e s h n in
    let g = goes e (remade_box e s) (remade e h) f.held es in
    let b = remade_box e s in
    let m = subst (λ (k : ℕ). (answers e b es ≡ ruled e k (remade e h) es) × HeldIn e (after e b es) (heap_after e k (remade e h) es))
    f.count (g.answered, g.held) in
    record { answered = rw (f.answer, m.0) refl; held = m.1; count = g.count ∙ f.count }

-- "What may sway an answer": the heap that is held, and the number of words
pub sways : (e : Edition) (s t : Box) (h : Heap) → HeldIn e s h → HeldIn e t h → length s.words ≡ length t.words → (es : List Event) → answers e s es ≡ answers e t es
sways e s t h n m q es = (goes e s h n es).answered ∙ ap (λ k. ruled e k h es) q ∙ sym (goes e t h m es).answered

-- and so: words that agree in document 01's list, under one record, get the same answers
pub agree_answers : (e : Edition) (c : Control) (w v : List ℕ) (h : Heap) → Holds e c w h → length v ≡ length w → ((i : ℕ) → Governed h i → get_or v i 0 ≡ get_or w i 0) → (es : List Event)
    → answers e (box c w) es ≡ answers e (box c v) es
agree_answers e c w v h n l f es = sways e (box c w) (box c v) h n (governed_frame e c w h [] n v l f) (sym l) es

-- ---- from one granted set-up

module _ (e : Edition) (w : List ℕ) (even : length w % 2 ≡ 0) (least : 16 ≤ length w) (most : length w ≤ 8192) where
  words_of : length (set_up_on e w).words ≡ length w
  words_of = simp length-set refl

  start : HeldIn e (set_up_on e w) (fresh_heap (length w))
  start = fresh_holds e w even least most

  pub from_set_up : (es : List Event) → Goes e (set_up_on e w) (fresh_heap (length w)) es
  from_set_up es = goes e (set_up_on e w) (fresh_heap (length w)) start es

  -- after the last block is given back, in whatever order
  module _ (es : List Event) (none_left : NoneInUse (heap_after e (length (set_up_on e w).words) (fresh_heap (length w)) es).chunks) where
    g : Goes e (set_up_on e w) (fresh_heap (length w)) es
    g = from_set_up es

    pub fresh_record : (after e (set_up_on e w) es).control ≡ fresh_control e (length w)
    fresh_record =
        fresh_again e (after e (set_up_on e w) es).control (after e (set_up_on e w) es).words (heap_after e (length (set_up_on e w).words) (fresh_heap (length w)) es) g.held none_left
        ∙ ap (fresh_control e) (g.count ∙ words_of)

    -- as a fresh arena of that length, whatever that one held before its set-up
    pub fresh-answers : (v : List ℕ) → length v ≡ length w → (fs : List Event) → answers e (after e (set_up_on e w) es) fs ≡ answers e (set_up_on e v) fs
    fresh-answers v q fs =
        sways e (after e (set_up_on e w) es) (set_up_on e v) (fresh_heap (length w)) here there (g.count ∙ words_of ∙ sym q ∙ sym same) fs
      where
        here : HeldIn e (after e (set_up_on e w) es) (fresh_heap (length w))
        here =
            subst (HeldIn e (after e (set_up_on e w) es))
            (none_in_use e (after e (set_up_on e w) es).control (after e (set_up_on e w) es).words (heap_after e (length (set_up_on e w).words) (fresh_heap (length w)) es) g.held none_left
            ∙ ap fresh_heap (g.count ∙ words_of))
            g.held

        there : HeldIn e (set_up_on e v) (fresh_heap (length w))
        there = subst (λ (k : ℕ). HeldIn e (set_up_on e v) (fresh_heap k)) q (fresh_holds e v (omega (arith, even, q)) (omega (arith, least, q)) (omega (arith, most, q)))

        same : length (set_up_on e v).words ≡ length v
        same = simp length-set refl
