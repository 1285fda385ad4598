-- The part that is lent lies in the arena, and where the pair holds a heap it is exactly the owner's words: those behind the head of the chunk,
-- to word 0 of the next one. It is lent exactly where a live block starts. Both editions. Assumes nothing.
use Rattle.std.specs.Prelude.{◌≡◌, refl, Bool, true, false, ◌&&◌, List, [], ◌++◌, ℕ, ◌+◌, ◌-◌, ◌*◌, ◌/◌, ◌%◌, ◌≤◌, ◌<◌, leb, eqb, length, get_or, take, drop}
use Rattle.std.proofs.Common.{sym, ◌∙◌, ap, subst, arith, length-append, length-drop, length-take-le, get_or-take, get_or-drop, get_or-append-add}
use Rattle.std.proofs.Math.Option.{some}
use Rattle.std.proofs.Math.ListN.{get_or-append}
use borrow.Author.Tests.{leb-true, le-leb, eq-eqb}
use Rattle.words.specs.Logic.{pick, pick_case, by, Decides, decided_yes, false-true}
use Rattle.words.specs.Edition.{Edition, W, dec_enc}
use Rattle.tiling.specs.Tiling.{used, Starts, starts_in, starts_at_lem, least_of}
use Rattle.rules.specs.Heap.{Heap}
use Rattle.rules.specs.Calls.{block_of, live_size}
use Rattle.holds.specs.Lookup.{run_tidy}
use Rattle.chunk.specs.Held.{Held}
use Rattle.sound.specs.SoundBytes.{count_ok, sound_b, live_b, usable_b}
use Rattle.decides.specs.SoundLaws.{sound_yes, sound_there}
use Rattle.decides.specs.LiveLaws.{is_some, Live, starts_live, live_is, live_decides, usable_is}
use Rattle.lend.specs.LendBytes.{lends_b, fits_b, lent_from, lent_words, lent, back}

-- for all inputs the part lies in the arena
pub lent_in : (e : Edition) (r w : List ℕ) (off : ℕ) → lent_from e r w off + lent_words e r w off ≤ length w
unfolding lent_from lent_words fits_b
lent_in e r w off = go (lends_b e r w off)
  where
    a : ℕ
    a = off / W e

    k : ℕ
    k = usable_b e w off / W e

    fit : (b : Bool) → (b ≡ true → a + k ≤ length w) → pick b a 0 + pick b k 0 ≤ length w
    fit true f = f refl
    fit false f = omega arith

    go : (b : Bool) → pick b (pick (leb (a + k) (length w)) a 0) 0 + pick b (pick (leb (a + k) (length w)) k 0) 0 ≤ length w
    go true = fit (leb (a + k) (length w)) (leb-true (a + k) (length w))
    go false = omega arith

lends_count : (e : Edition) (r w : List ℕ) (off : ℕ) → lends_b e r w off ≡ true → length w ≤ 8192
unfolding lends_b count_ok
lends_count e r w off = go (leb 16 (length w)) (leb (length w) 8192) (eqb (length w % 2) 0) (sound_b e r w) (live_b e w (get_or r 4 0) off) (leb-true (length w) 8192)
  where
    go : (a b c d f : Bool) → (b ≡ true → length w ≤ 8192) → (a && b && c) && d && f ≡ true → length w ≤ 8192
    go true true c d f g q = g refl
    go true false c d f g q = false-true q
    go false b c d f g q = false-true q

-- and its numbers are small
pub lent_small : (e : Edition) (r w : List ℕ) (off : ℕ) → lent_from e r w off + lent_words e r w off ≤ 8192
unfolding lent_from lent_words
lent_small e r w off = go (lends_b e r w off) (lends_count e r w off) (lent_in e r w off)
  where
    go : (b : Bool) → (b ≡ true → length w ≤ 8192) → pick b (pick (fits_b e w off) (off / W e) 0) 0 + pick b (pick (fits_b e w off) (usable_b e w off / W e) 0) 0 ≤ length w
        → pick b (pick (fits_b e w off) (off / W e) 0) 0 + pick b (pick (fits_b e w off) (usable_b e w off / W e) 0) 0 ≤ 8192
    go true f l = omega (arith, f refl, l)
    go false f l = omega arith

lent_refused : (e : Edition) (r w : List ℕ) (off : ℕ) → lends_b e r w off ≡ false → lent_words e r w off ≡ 0
unfolding lent_words
lent_refused e r w off q = rw q refl

-- ---- where a heap is held

module _ (e : Edition) (r w : List ℕ) (h : Heap) (n : Held e r w h []) where
  -- it lends where the rule finds a live block
  lends_is : (off : ℕ) → lends_b e r w off ≡ is_some (live_size e 0 h.chunks off)
  unfolding lends_b count_ok
  lends_is off =
      rw (le-leb 16 (length w) n.near.least, le-leb (length w) 8192 n.near.most, eq-eqb (length w % 2) 0 n.near.even, sound_there e r w n.image (h, n.near))
      (live_is e r w h n off)

  -- "empty exactly when the first would refuse"
  pub lends_decides : (off : ℕ) → Decides (lends_b e r w off) (Live e h.chunks off)
  lends_decides off = subst (λ (b : Bool). Decides b (Live e h.chunks off)) (live_is e r w h n off ∙ sym (lends_is off)) (live_decides e r w h n off)

  pub lent_none : (off : ℕ) → (Live e h.chunks off → ⊥) → lent_words e r w off ≡ 0
  unfolding lent_words
  lent_none off f = pick_case (λ k. k ≡ 0) (lends_b e r w off) (λ z. absurd (f (decided_yes (lends_b e r w off) (Live e h.chunks off) (lends_decides off) z))) (λ z. refl)

  -- a block of s words at p
  module _ (p s : ℕ) (st : Starts 0 h.chunks p (used s)) where
    abbrev off : ℕ
    off = block_of e p

    found : live_size e 0 h.chunks off ≡ some s
    found = starts_live e true 0 h.chunks p s (run_tidy e w 0 true h.chunks n.near.heads.run) st

    first : off / W e ≡ p + 2
    first = dec_enc e (p + 2)

    many : usable_b e w off / W e ≡ s - 1
    many = ap (λ x. x / W e) (usable_is e r w h n off s found) ∙ dec_enc e (s - 1)

    least : 4 ≤ s
    least = let c = starts_at_lem e w 0 true h.chunks p (used s) n.near.heads.run st in least_of e w p c.0 (used s) c.1

    inside : p + s < length w
    inside = omega (arith, starts_in e w 0 true h.chunks p (used s) n.near.heads.run st, n.near.heads.top.ends)

    lends : lends_b e r w off ≡ true
    lends = lends_is off ∙ ap is_some found

    -- the test of the room is never what refuses
    pub fits : fits_b e w off ≡ true
    unfolding fits_b
    fits = rw (first, many) (le-leb (p + 2 + (s - 1)) (length w) (omega (arith, inside, least)))

    pub lent_from_lem : lent_from e r w off ≡ p + 2
    unfolding lent_from
    lent_from_lem = rw (lends, fits) first

    pub lent_words_lem : lent_words e r w off ≡ s - 1
    unfolding lent_words
    lent_words_lem = rw (lends, fits) many

    -- in bytes: the usable size
    lent_usable : usable_b e w off ≡ W e * lent_words e r w off
    lent_usable = usable_is e r w h n off s found ∙ ap (λ k. W e * k) (sym lent_words_lem)

    pub lent_some : 0 < lent_words e r w off
    lent_some = omega (arith, lent_words_lem, least)

    -- the owner's words, from p + 2 to p + s
    pub lent_length : length (lent e r w off) ≡ s - 1
    lent_length = rw (lent_from_lem, lent_words_lem) (length-take-le (s - 1) (drop (p + 2) w) (omega (arith, length-drop (p + 2) w, inside, least)))

    pub lent_is : (i : ℕ) → i < s - 1 → get_or (lent e r w off) i 0 ≡ get_or w (p + 2 + i) 0
    lent_is i l = rw (lent_from_lem, lent_words_lem) (get_or-take (s - 1) (drop (p + 2) w) i 0 l ∙ get_or-drop (p + 2) w i 0)

lends_sound : (e : Edition) (r w : List ℕ) (off : ℕ) → lends_b e r w off ≡ true → sound_b e r w ≡ true
unfolding lends_b
lends_sound e r w off = go (count_ok (length w)) (sound_b e r w) (live_b e w (get_or r 4 0) off)
  where
    go : (a b c : Bool) → a && b && c ≡ true → b ≡ true
    go true true c q = refl
    go true false c q = q
    go false b c q = false-true q

-- where it lends, a sound pair holds a heap in which a live block starts there
lends_where : (e : Edition) (r w : List ℕ) (off : ℕ) → length r ≡ 72 → lends_b e r w off ≡ true → (h : Heap) × Held e r w h [] × Live e h.chunks off
lends_where e r w off q l =
    let s = sound_yes e r w q (lends_sound e r w off l) in
    let n : Held e r w s.0 [] = record { image = q; near = s.1 } in
    (s.0, n, decided_yes (lends_b e r w off) (Live e s.0.chunks off) (lends_decides e r w s.0 n off) l)

module _ (e : Edition) (r w : List ℕ) (off : ℕ) (q : length r ≡ 72) where
  -- so for all words the test of the room is never what refuses
  pub lends_fits : lends_b e r w off ≡ true → fits_b e w off ≡ true
  lends_fits l =
      let a = lends_where e r w off q l in
      let b = a.2 in
      subst (λ o. fits_b e w o ≡ true) (sym b.3) (fits e r w a.0 a.1 b.0 b.1 b.2)

  -- and its bytes are the usable size
  pub lends_usable : lends_b e r w off ≡ true → usable_b e w off ≡ W e * lent_words e r w off
  lends_usable l =
      let a = lends_where e r w off q l in
      let b = a.2 in
      subst (λ o. usable_b e w o ≡ W e * lent_words e r w o) (sym b.3) (lent_usable e r w a.0 a.1 b.0 b.1 b.2)

  -- "empty exactly when the first would refuse", for all words
  pub lent_decides : Decides (lends_b e r w off) (0 < lent_words e r w off)
  lent_decides = by (λ z. Decides z (0 < lent_words e r w off)) (lends_b e r w off)
      (λ z. let a = lends_where e r w off q z in let b = a.2 in subst (λ o. 0 < lent_words e r w o) (sym b.3) (lent_some e r w a.0 a.1 b.0 b.1 b.2))
      (λ z l. omega (arith, l, lent_refused e r w off z))

-- ---- when the part is back, changed: ys are its words, as many as were lent

module _ (e : Edition) (r w ys : List ℕ) (off : ℕ) (q : length ys ≡ lent_words e r w off) where
  abbrev a : ℕ
  a = lent_from e r w off

  abbrev k : ℕ
  k = lent_words e r w off

  start : length (take a w) ≡ a
  start = length-take-le a w (omega (arith, lent_in e r w off))

  pub back_length : length (back e r w off ys) ≡ length w
  back_length =
      length-append (take a w) (ys ++ drop k (drop a w))
      ∙ omega (arith, start, length-append ys (drop k (drop a w)), q, length-drop k (drop a w), length-drop a w, lent_in e r w off)

  -- the part has what the borrower left
  pub back_in : (i : ℕ) → i < k → get_or (back e r w off ys) (a + i) 0 ≡ get_or ys i 0
  back_in i l =
      ap (λ x. get_or (back e r w off ys) (x + i) 0) (sym start) ∙ get_or-append-add (take a w) (ys ++ drop k (drop a w)) i 0
      ∙ get_or-append ys (drop k (drop a w)) 0 i (omega (arith, q, l))

  -- every other word is as it was
  pub back_before : (i : ℕ) → i < a → get_or (back e r w off ys) i 0 ≡ get_or w i 0
  back_before i l = get_or-append (take a w) (ys ++ drop k (drop a w)) 0 i (omega (arith, start, l)) ∙ get_or-take a w i 0 l

  pub back_behind : (i : ℕ) → get_or (back e r w off ys) (a + (k + i)) 0 ≡ get_or w (a + (k + i)) 0
  back_behind i =
      ap (λ x. get_or (back e r w off ys) (x + (k + i)) 0) (sym start) ∙ get_or-append-add (take a w) (ys ++ drop k (drop a w)) (k + i) 0
      ∙ ap (λ x. get_or (ys ++ drop k (drop a w)) (x + i) 0) (sym q) ∙ get_or-append-add ys (drop k (drop a w)) i 0
      ∙ get_or-drop k (drop a w) i 0 ∙ get_or-drop a w (k + i) 0
