-- HOW OWNERS REALLY WRITE: word k of the part that is lent, written, and the part given back, leaves the arena that the event `writes` of a
-- history
-- leaves. So what is shown of histories is shown of owners who write through `lend` or `store`. Both editions. Assumes nothing.
use Rattle.std.specs.Prelude.{◌≡◌, refl, true, List, [], ℕ, ◌+◌, ◌-◌, ◌*◌, ◌/◌, ◌≤◌, ◌<◌, ltb, length, get_or, set, drop}
use Rattle.std.proofs.Common.{sym, ◌∙◌, ap, subst, ⊎_elim, arith, lt-ltb, le-ltb, length-set, length-drop, length-take-le, get_or-take, get_or-drop, get_or-set_same, get_or-set_other}
use Rattle.std.proofs.Math.Option.{Option, none, some}
use Rattle.words.specs.Logic.{pick, lt_or_le, same?}
use Rattle.words.specs.Edition.{Edition, wide, narrow, W}
use Rattle.tiling.specs.Tiling.{used, Starts}
use Rattle.rules.specs.Heap.{Heap}
use Rattle.rules.specs.Calls.{block_of, live_size}
use Rattle.rules.proofs.ReallocLaws.{some_none}
use Rattle.holds.specs.Bins.{list_ext}
use Rattle.holds.specs.Lookup.{heads_tidy}
use Rattle.chunk.specs.Held.{Held}
use Rattle.sound.specs.SoundBytes.{usable_b}
use Rattle.lend.specs.LendBytes.{lent, lent_from, lent_words, back}
use Rattle.lend.proofs.LendLaws.{lent_none, lent_from_lem, lent_words_lem, lent_in, back_length, back_in, back_before, back_behind}
use Rattle.decides.specs.LiveLaws.{is_some, Live, live_starts, starts_live}
use Rattle.calls.specs.Record.{image}
use Rattle.calls.specs.RecordLaws.{held-image}
use Rattle.calls.specs.Histories.{Box, HeldIn, write_b}
use Rattle.calls.proofs.Histories.{live_in, usable_in, word_of}

-- ---- for any words: the arena when the part is back

module _ (e : Edition) (r w : List ℕ) (off : ℕ) where
  abbrev a : ℕ
  a = lent_from e r w off

  abbrev m : ℕ
  m = lent_words e r w off

  pub lent_long : length (lent e r w off) ≡ m
  lent_long = length-take-le m (drop a w) (omega (arith, length-drop a w, lent_in e r w off))

  lent-word : (i : ℕ) → i < m → get_or (lent e r w off) i 0 ≡ get_or w (a + i) 0
  lent-word i l = get_or-take m (drop a w) i 0 l ∙ get_or-drop a w i 0

  -- it is t, where t has the part's words and else those of w
  back_is : (ys t : List ℕ) → length ys ≡ m → length t ≡ length w → ((i : ℕ) → i < m → get_or t (a + i) 0 ≡ get_or ys i 0)
      → ((i : ℕ) → i < a → get_or t i 0 ≡ get_or w i 0) → ((i : ℕ) → get_or t (a + (m + i)) 0 ≡ get_or w (a + (m + i)) 0) → back e r w off ys ≡ t
  back_is ys t q lt part before behind =
      list_ext 0 (back e r w off ys) t (back_length e r w ys off q ∙ sym lt)
      (λ i _. ⊎_elim (λ u. back_before e r w ys off q i u ∙ sym (before i u))
      (λ u. ⊎_elim (λ z. within i u z) (λ z. past i u z) (lt_or_le (i - a) m)) (lt_or_le i a))
    where
      within : (i : ℕ) → a ≤ i → i - a < m → get_or (back e r w off ys) i 0 ≡ get_or t i 0
      within i u z =
          subst (λ j. get_or (back e r w off ys) j 0 ≡ get_or t j 0) (let y : a + (i - a) ≡ i = omega arith in y)
          (back_in e r w ys off q (i - a) z ∙ sym (part (i - a) z))

      past : (i : ℕ) → a ≤ i → m ≤ i - a → get_or (back e r w off ys) i 0 ≡ get_or t i 0
      past i u z =
          subst (λ j. get_or (back e r w off ys) j 0 ≡ get_or t j 0) (let y : a + (m + (i - a - m)) ≡ i = omega arith in y)
          (back_behind e r w ys off q (i - a - m) ∙ sym (behind (i - a - m)))

  -- a word of the part is written
  store_in : (k v : ℕ) → k < m → back e r w off (set (lent e r w off) k v) ≡ set w (a + k) v
  store_in k v l =
      back_is (set (lent e r w off) k v) (set w (a + k) v) (length-set (lent e r w off) k v ∙ lent_long) (length-set w (a + k) v)
      (λ i u. ⊎_elim (λ q. here i q) (λ q. other i u q) (same? i k)) (λ i u. get_or-set_other w (a + k) i v 0 (λ z. omega (arith, z, u)))
      (λ i. get_or-set_other w (a + k) (a + (m + i)) v 0 (λ z. omega (arith, z, l)))
    where
      here : (i : ℕ) → i ≡ k → get_or (set w (a + k) v) (a + i) 0 ≡ get_or (set (lent e r w off) k v) i 0
      here i q =
          rw q (get_or-set_same w (a + k) v 0 (omega (arith, lent_in e r w off, l))
          ∙ sym (get_or-set_same (lent e r w off) k v 0 (omega (arith, lent_long, l))))

      other : (i : ℕ) → i < m → (i ≡ k → ⊥) → get_or (set w (a + k) v) (a + i) 0 ≡ get_or (set (lent e r w off) k v) i 0
      other i u q = get_or-set_other w (a + k) (a + i) v 0 (λ z. q (omega (arith, z)))
          ∙ sym (get_or-set_other (lent e r w off) k i v 0 q ∙ lent-word i u)

  -- a word past it is not
  store_past : (k v : ℕ) → m ≤ k → back e r w off (set (lent e r w off) k v) ≡ w
  store_past k v l =
      back_is (set (lent e r w off) k v) w (length-set (lent e r w off) k v ∙ lent_long) refl
      (λ i u. sym (get_or-set_other (lent e r w off) k i v 0 (λ z. omega (arith, z, u, l)) ∙ lent-word i u)) (λ i u. refl) (λ i. refl)

-- ---- on a sound pair

scaled : (e : Edition) (k n : ℕ) → k < n → W e * k < W e * n
scaled wide k n l = omega arith
scaled narrow k n l = omega arith

scaled_le : (e : Edition) (k n : ℕ) → n ≤ k → W e * n ≤ W e * k
scaled_le wide k n l = omega arith
scaled_le narrow k n l = omega arith

pub store_writes : (e : Edition) (s : Box) (h : Heap) → HeldIn e s h → (off k v : ℕ)
    → back e (image s.control) s.words off (set (lent e (image s.control) s.words off) k v) ≡ write_b e s off k v
store_writes e s h n off k v = rw (live_in e s h n off) (go (live_size e 0 h.chunks off) refl)
  where
    r : List ℕ
    r = image s.control

    w : List ℕ
    w = s.words

    held : Held e r w h []
    held = held-image e s.control w h [] n

    go : (o : Option ℕ) → live_size e 0 h.chunks off ≡ o
        → back e r w off (set (lent e r w off) k v) ≡ pick (is_some o) (pick (ltb (W e * k) (usable_b e w off)) (set w (off / W e + k) v) w) w
    go none q = store_past e r w off k v (omega (arith, lent_none e r w h held off dead))
      where
        dead : Live e h.chunks off → ⊥
        dead u =
            some_none (sym (ap (live_size e 0 h.chunks) u.3
            ∙ starts_live e true 0 h.chunks u.0 u.1 (heads_tidy e w h n.heads).chunks u.2) ∙ q)
    go (some t) q = rw (usable_in e s h n off t q) (⊎_elim inside past (lt_or_le k (t - 1)))
      where
        b : (p : ℕ) × Starts 0 h.chunks p (used t) × (off ≡ block_of e p)
        b = live_starts e 0 h.chunks off t q

        from : lent_from e r w off ≡ b.0 + 2
        from = ap (lent_from e r w) b.2 ∙ lent_from_lem e r w h held b.0 t b.1

        many : lent_words e r w off ≡ t - 1
        many = ap (lent_words e r w) b.2 ∙ lent_words_lem e r w h held b.0 t b.1

        inside : k < t - 1 → back e r w off (set (lent e r w off) k v) ≡ pick (ltb (W e * k) (W e * (t - 1))) (set w (off / W e + k) v) w
        inside l =
            rw (lt-ltb (W e * k) (W e * (t - 1)) (scaled e k (t - 1) l))
            (store_in e r w off k v (omega (arith, many, l))
            ∙ ap (λ i. set w (i + k) v) (from ∙ sym (ap (λ y. y / W e) b.2 ∙ word_of e b.0)))

        past : t - 1 ≤ k → back e r w off (set (lent e r w off) k v) ≡ pick (ltb (W e * k) (W e * (t - 1))) (set w (off / W e + k) v) w
        past l = rw (le-ltb (W e * k) (W e * (t - 1)) (scaled_le e k (t - 1) l)) (store_past e r w off k v (omega (arith, many, l)))
