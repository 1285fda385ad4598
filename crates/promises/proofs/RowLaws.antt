-- WHICH ROW: on a heap that is held, the number that a call says is that of the first row of document 01's table that applies, and 0 where
-- none
-- does. By the rules' own tests, and the laws of "no room". Assumes nothing.
use Rattle.std.specs.Prelude.{◌≡◌, refl, false, List, [], ◌↔◌, ℕ, ◌+◌, ◌*◌, ◌/◌, ◌%◌, ◌≤◌, ◌<◌, ltb, length}
use Rattle.std.proofs.Common.{sym, ◌∙◌, ap, arith, ltb-true, ltb-false}
use Rattle.std.proofs.Math.Option.{Option, none, some}
use Rattle.words.specs.Logic.{pick_case, false-true}
use Rattle.words.specs.Edition.{wide, dec_enc}
use Rattle.index.specs.Sizes.{need_words}
use Rattle.tiling.specs.Tiling.{used, Starts}
use Rattle.rules.specs.Heap.{Heap}
use Rattle.rules.specs.Malloc.{Grant, malloc}
use Rattle.rules.specs.Realloc.{resize_here, front, realloc}
use Rattle.rules.specs.Memalign.{memalign}
use Rattle.rules.proofs.MemalignLaws.{memalign_none}
use Rattle.rules.proofs.ReallocLaws.{some_none, refused_exactly}
use Rattle.rules.specs.BinOf.{huge}
use Rattle.rules.specs.Lookup.{Block, block}
use Rattle.rules.specs.Calls.{Call, Malloc, Free, Realloc, Memalign, Usable, Outcome, is_in, alignments, block_of, place_of, live_size}
use Rattle.rules.specs.Calls.{grant_or6, moved_or6, free_call, realloc_call, usable_call, answer_to}
use Rattle.holds.specs.Holds.{Control, Holds}
use Rattle.holds.specs.Ops.{state}
use Rattle.holds.specs.Lookup.{heads_tidy}
use Rattle.holds.specs.NoRoom.{Tight, no_room_exactly}
use Rattle.chunk.specs.Held.{Held}
use Rattle.decides.specs.LiveLaws.{live_starts}
use Rattle.calls.specs.CallBytes.{refusal}
use Rattle.calls.specs.Record.{image}
use Rattle.calls.specs.RecordLaws.{held-image}
use Rattle.calls.specs.CallObeys.{Good}
use Rattle.calls.proofs.CallObeys.{one_of, goods, place_plain, even, least, low, big}
use Rattle.promises.specs.Promises.{Misaligned, TooLong, Dead, OwnPlace, Full}
use Rattle.promises.proofs.RoomLaws.{own_place}

-- the number n is that of the first row that applies to k, in an arena of m words
pub data Row (m : ℕ) (h : Heap) (k : Call) : ℕ → Type 0 where
  third : Misaligned k → Row m h k 3
  fourth : (Misaligned k → ⊥) → TooLong m k → Row m h k 4
  fifth : (Misaligned k → ⊥) → (TooLong m k → ⊥) → Dead h k → Row m h k 5
  sixth : (Misaligned k → ⊥) → (TooLong m k → ⊥) → (Dead h k → ⊥) → Full h k → Row m h k 6
  served : (Misaligned k → ⊥) → (TooLong m k → ⊥) → (Dead h k → ⊥) → (Full h k → ⊥) → Row m h k 0

module _ (m : ℕ) (h : Heap) (k : Call) where
  pub is_3 : (n : ℕ) → Row m h k n → n ≡ 3 ↔ Misaligned k
  is_3 n (third a) = ((λ q. a), (λ a. refl))
  is_3 n (fourth a b) = ((λ q. absurd (let z : ⊥ = omega (arith, q) in z)), (λ z. absurd (a z)))
  is_3 n (fifth a b c) = ((λ q. absurd (let z : ⊥ = omega (arith, q) in z)), (λ z. absurd (a z)))
  is_3 n (sixth a b c d) = ((λ q. absurd (let z : ⊥ = omega (arith, q) in z)), (λ z. absurd (a z)))
  is_3 n (served a b c d) = ((λ q. absurd (let z : ⊥ = omega (arith, q) in z)), (λ z. absurd (a z)))

  pub is_4 : (n : ℕ) → Row m h k n → n ≡ 4 ↔ (Misaligned k → ⊥) × TooLong m k
  is_4 n (third a) = ((λ q. absurd (let z : ⊥ = omega (arith, q) in z)), (λ z. absurd (z.0 a)))
  is_4 n (fourth a b) = ((λ q. (a, b)), (λ z. refl))
  is_4 n (fifth a b c) = ((λ q. absurd (let z : ⊥ = omega (arith, q) in z)), (λ z. absurd (b z.1)))
  is_4 n (sixth a b c d) = ((λ q. absurd (let z : ⊥ = omega (arith, q) in z)), (λ z. absurd (b z.1)))
  is_4 n (served a b c d) = ((λ q. absurd (let z : ⊥ = omega (arith, q) in z)), (λ z. absurd (b z.1)))

  pub is_5 : (n : ℕ) → Row m h k n → n ≡ 5 ↔ (Misaligned k → ⊥) × (TooLong m k → ⊥) × Dead h k
  is_5 n (third a) = ((λ q. absurd (let z : ⊥ = omega (arith, q) in z)), (λ z. absurd (z.0 a)))
  is_5 n (fourth a b) = ((λ q. absurd (let z : ⊥ = omega (arith, q) in z)), (λ z. absurd (z.1 b)))
  is_5 n (fifth a b c) = ((λ q. (a, b, c)), (λ z. refl))
  is_5 n (sixth a b c d) = ((λ q. absurd (let z : ⊥ = omega (arith, q) in z)), (λ z. absurd (c z.2)))
  is_5 n (served a b c d) = ((λ q. absurd (let z : ⊥ = omega (arith, q) in z)), (λ z. absurd (c z.2)))

  pub is_6 : (n : ℕ) → Row m h k n → n ≡ 6 ↔ (Misaligned k → ⊥) × (TooLong m k → ⊥) × (Dead h k → ⊥) × Full h k
  is_6 n (third a) = ((λ q. absurd (let z : ⊥ = omega (arith, q) in z)), (λ z. absurd (z.0 a)))
  is_6 n (fourth a b) = ((λ q. absurd (let z : ⊥ = omega (arith, q) in z)), (λ z. absurd (z.1 b)))
  is_6 n (fifth a b c) = ((λ q. absurd (let z : ⊥ = omega (arith, q) in z)), (λ z. absurd (z.2 c)))
  is_6 n (sixth a b c d) = ((λ q. (a, b, c, d)), (λ z. refl))
  is_6 n (served a b c d) = ((λ q. absurd (let z : ⊥ = omega (arith, q) in z)), (λ z. absurd (d z.3)))

module _ (c : Control) (w : List ℕ) (h : Heap) (n : Holds wide c w h) where
  held : Held wide (image c) w h []
  held = held-image wide c w h [] n

  -- a grant, or 6
  grant_row : (k : Call) (o : Option Grant) → (Misaligned k → ⊥) → (TooLong (length w) k → ⊥) → (Dead h k → ⊥) → (o ≡ none ↔ Full h k)
      → Row (length w) h k (refusal (grant_or6 wide h o).answer)
  grant_row k none a b d f = sixth a b d (f.0 refl)
  grant_row k (some g) a b d f = served a b d (λ z. some_none (f.1 z))

  moved_row : (k : Call) (p s : ℕ) (o : Option Grant) → Row (length w) h k (refusal (grant_or6 wide h o).answer)
      → Row (length w) h k (refusal (moved_or6 wide h p s o).answer)
  moved_row k p s none f = f
  moved_row k p s (some g) f = f

  few : (x : ℕ) → ltb (8 * length w) x ≡ false → 8 * length w < x → ⊥
  few x z l = omega (arith, ltb-false (8 * length w) x z)

  tight : (nb : ℕ) → nb % 2 ≡ 0 → 4 ≤ nb → 8 * nb < huge → malloc wide h nb ≡ none ↔ Tight h nb
  tight nb v l hi = let x = no_room_exactly wide (state c w) h n nb v l hi in (x.0, x.1)

  malloc_row : (x : ℕ) → Row (length w) h (Malloc x) (refusal (answer_to wide (length w) h (Malloc x)).answer)
  malloc_row x =
      pick_case (λ (o : Outcome). Row (length w) h (Malloc x) (refusal o.answer)) (ltb (8 * length w) x)
      (λ z. fourth (λ y. y) (ltb-true (8 * length w) x z))
      (λ z. let fit = ltb-false (8 * length w) x z in
      grant_row (Malloc x) (malloc wide h (need_words 8 x)) (λ y. y) (few x z) (λ y. y)
      (tight (need_words 8 x) (even wide (image c) w h held x fit) (least wide (image c) w h held x fit)
      (low wide (image c) w h held x fit)))

  free_row : (off : ℕ) → Row (length w) h (Free off) (refusal (answer_to wide (length w) h (Free off)).answer)
  free_row off = go (live_size wide 0 h.chunks off) refl
    where
      go : (z : Option ℕ) → live_size wide 0 h.chunks off ≡ z → Row (length w) h (Free off) (refusal (free_call wide h z off).answer)
      go none q = fifth (λ y. y) (λ y. omega (arith, y)) q
      go (some s) q = served (λ y. y) (λ y. omega (arith, y)) (λ y. some_none (sym q ∙ y)) (λ y. y)

  usable_row : (off : ℕ) → Row (length w) h (Usable off) (refusal (answer_to wide (length w) h (Usable off)).answer)
  usable_row off = go (live_size wide 0 h.chunks off) refl
    where
      go : (z : Option ℕ) → live_size wide 0 h.chunks off ≡ z → Row (length w) h (Usable off) (refusal (usable_call wide h z off).answer)
      go none q = fifth (λ y. y) (λ y. omega (arith, y)) q
      go (some s) q = served (λ y. y) (λ y. omega (arith, y)) (λ y. some_none (sym q ∙ y)) (λ y. y)

  -- the block at p of s words
  module _ (off x s p : ℕ) (q : off ≡ block_of wide p) (st : Starts 0 h.chunks p (used s)) where
    pub place_is : place_of wide off ≡ p
    place_is = ap (place_of wide) q ∙ place_plain wide p

    pub found : Block h.chunks p s
    found = block h.chunks p s (heads_tidy wide w h n.heads).chunks st

    -- its own place does not hold it, and malloc finds none
    full_moved : x ≤ 8 * length w → realloc wide h (place_of wide off) (need_words 8 x) ≡ none ↔ Full h (Realloc off x)
    full_moved fit =
        let t = tight (need_words 8 x) (even wide (image c) w h held x fit) (least wide (image c) w h held x fit)
        (low wide (image c) w h held x fit) in
        let f = refused_exactly wide h p s (need_words 8 x) found in
        let g = ap (λ y. realloc wide h y (need_words 8 x)) place_is in
        let own = own_place h (heads_tidy wide w h n.heads) off x p s found q st in (
          (λ z. let y = f.0 (sym g ∙ z) in ((λ u. some_none (sym (own.1 u).1 ∙ y.0)), t.0 y.1)),
          (λ z. g ∙ f.1 (shut own z.0, t.1 z.1)),
        )
      where
        here : Option Heap
        here = resize_here wide h (front found.f) p s (need_words 8 x) found.f.after

        shut : ((k : Heap) × (here ≡ some k)) ↔ OwnPlace h off x → (OwnPlace h off x → ⊥) → here ≡ none
        shut own f = go here refl
          where
            go : (o : Option Heap) → here ≡ o → o ≡ none
            go none y = refl
            go (some k) y = absurd (f (own.0 (k, y)))

  realloc_row : (off x : ℕ) → Row (length w) h (Realloc off x) (refusal (answer_to wide (length w) h (Realloc off x)).answer)
  realloc_row off x =
      pick_case (λ (o : Outcome). Row (length w) h (Realloc off x) (refusal o.answer)) (ltb (8 * length w) x)
      (λ z. fourth (λ y. y) (ltb-true (8 * length w) x z)) (λ z. go z (live_size wide 0 h.chunks off) refl)
    where
      go : ltb (8 * length w) x ≡ false → (z : Option ℕ) → live_size wide 0 h.chunks off ≡ z
          → Row (length w) h (Realloc off x) (refusal (realloc_call wide h z off x).answer)
      go z none q = fifth (λ y. y) (few x z) q
      go z (some s) q =
          let a = live_starts wide 0 h.chunks off s q in
          moved_row (Realloc off x) (place_of wide off) s (realloc wide h (place_of wide off) (need_words 8 x))
          (grant_row (Realloc off x) (realloc wide h (place_of wide off) (need_words 8 x)) (λ y. y) (few x z) (λ y. some_none (sym q ∙ y))
          (full_moved off x s a.0 a.2 a.1 (ltb-false (8 * length w) x z)))

  memalign_row : (al x : ℕ) → Row (length w) h (Memalign al x) (refusal (answer_to wide (length w) h (Memalign al x)).answer)
  memalign_row al x =
      pick_case (λ (o : Outcome). Row (length w) h (Memalign al x) (refusal o.answer)) (is_in al (alignments wide))
      (λ y. pick_case (λ (o : Outcome). Row (length w) h (Memalign al x) (refusal o.answer)) (ltb (8 * length w) x)
      (λ z. fourth (λ u. false-true (sym u ∙ y)) (ltb-true (8 * length w) x z))
      (λ z. grant_row (Memalign al x) (memalign wide h (al / 8) (need_words 8 x)) (λ u. false-true (sym u ∙ y)) (few x z) (λ u. u)
      (full (ltb-false (8 * length w) x z) (one_of (Good wide) al (alignments wide) y (goods wide)))))
      (λ y. third y)
    where
      full : x ≤ 8 * length w → Good wide al → memalign wide h (al / 8) (need_words 8 x) ≡ none ↔ Full h (Memalign al x)
      full fit g =
          let nb = need_words 8 x in
          rw (g.1, dec_enc wide (2 * g.0))
          (let t = tight (nb + 2 * g.0 + 4) (omega (arith, even wide (image c) w h held x fit)) (omega arith)
          (big wide (image c) w h held x fit g.0 g.3) in
          let y = memalign_none wide h (2 * g.0) nb in ((λ z. t.0 (y.0 z)), (λ z. y.1 (t.1 z))))

  pub row_of : (k : Call) → Row (length w) h k (refusal (answer_to wide (length w) h k).answer)
  row_of (Malloc x) = malloc_row x
  row_of (Free off) = free_row off
  row_of (Realloc off x) = realloc_row off x
  row_of (Memalign al x) = memalign_row al x
  row_of (Usable off) = usable_row off
