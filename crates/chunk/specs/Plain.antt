-- Bytes are places: at c = W * p, with bounds that `Near` gives, no sum wraps and a byte-level writing is the one that the laws of `tiling` speak of.
-- All arithmetic of the word size is here, and the end of wrapping. Assumes nothing.
use Rattle.std.specs.Prelude.{◌≡◌, ℕ, ◌+◌, ◌-◌, ◌*◌, ◌/◌, ◌%◌, ◌<◌, ◌≤◌, List, set, ◌==◌, nat_eq, slice_index, slice_index_or, slice_set}
use Rattle.std.proofs.Common.{sym, ◌∙◌, ap, arith, get_or-set_other}
use Rattle.words.specs.Edition.{Edition, wide, narrow, W, enc, dec_enc}
use Rattle.tiling.specs.Steps.{free_words, split_words, take_words, top_words, give_words}
use Rattle.chunk.specs.Bytes.{wrap, less, word, put, size_b, cinuse_b, pinuse_b, used_w, top_w, free_w, give_w, pinuse_w, unpin_w, take_w, split_w}

-- ---- numbers; an arena has at most 8192 words

pub small_sum : (e : Edition) (p n : ℕ) → p + n ≤ 8192 → wrap e (enc e p + enc e n) ≡ enc e (p + n)
small_sum wide p n l = omega arith
small_sum narrow p n l = omega arith

pub small_flags : (e : Edition) (n f : ℕ) → n ≤ 8192 → f < 4 → wrap e (enc e n + f) ≡ enc e n + f
small_flags wide n f l k = omega arith
small_flags narrow n f l k = omega arith

pub small_rest : (e : Edition) (s n : ℕ) → enc e s - enc e n ≡ enc e (s - n)
small_rest wide s n = omega arith
small_rest narrow s n = omega arith

pub small_less : (e : Edition) (a b : ℕ) → b ≤ a → a ≤ 8192 → less e (enc e a) (enc e b) ≡ enc e (a - b)
small_less wide a b l k = omega arith
small_less narrow a b l k = omega arith

-- a head without PINUSE, with it
pub set_low : (e : Edition) (h n : ℕ) → h ≡ W e * n + 2 + 0 → h / 2 * 2 + 1 ≡ h + 1
set_low wide h n q = omega arith
set_low narrow h n q = omega arith

-- ---- words

pub word_plain : (e : Edition) (w : List ℕ) (p k : ℕ) → word e w (enc e p) k ≡ slice_index w (p + k)
word_plain e w p k = rw (dec_enc e p)

pub put_plain : (e : Edition) (w : List ℕ) (p k v : ℕ) → put e w (enc e p) k v ≡ slice_set w (p + k) v
put_plain e w p k v = rw (dec_enc e p)

pub used_plain : (e : Edition) (w : List ℕ) (p n : ℕ) → n ≤ 8192 → used_w e w (enc e p) (enc e n) ≡ slice_set w (p + 1) (W e * n + 3)
used_plain e w p n l = rw (dec_enc e p, small_flags e n 3 l (omega arith))

pub top_plain : (e : Edition) (w : List ℕ) (p n : ℕ) → n ≤ 8192 → top_w e w (enc e p) (enc e n) ≡ slice_set w (p + 1) (W e * n + 1)
top_plain e w p n l = rw (dec_enc e p, small_flags e n 1 l (omega arith))

pub free_plain : (e : Edition) (w : List ℕ) (p n : ℕ) → p + n ≤ 8192 → free_w e w (enc e p) (enc e n) ≡ free_words e w p n
free_plain e w p n l = rw (small_sum e p n l, dec_enc e p, dec_enc e (p + n), small_flags e n 1 (omega arith) (omega arith))
    (ap (λ i. set (slice_set w (p + 1) (W e * n + 1)) i (W e * n)) (let q : p + n + 0 ≡ p + n = omega arith in q))

pub split_plain : (e : Edition) (w : List ℕ) (p nb n : ℕ) → p + nb + n ≤ 8192 → split_w e w (enc e p) (enc e nb) (enc e n) ≡ split_words e w p nb n
split_plain e w p nb n l =
    ap (λ v. free_w e v (wrap e (enc e p + enc e nb)) (enc e n)) (used_plain e w p nb (omega arith))
    ∙ ap (λ c. free_w e (slice_set w (p + 1) (W e * nb + 3)) c (enc e n)) (small_sum e p nb (omega arith)) ∙ free_plain e (slice_set w (p + 1) (W e * nb + 3)) (p + nb) n l

pub cut_top_plain : (e : Edition) (w : List ℕ) (p nb n : ℕ) → p + nb + n ≤ 8192 → used_w e (top_w e w (wrap e (enc e p + enc e nb)) (enc e n)) (enc e p) (enc e nb) ≡ top_words e w p nb n
cut_top_plain e w p nb n l =
    used_plain e (top_w e w (wrap e (enc e p + enc e nb)) (enc e n)) p nb (omega arith)
    ∙ ap (λ c. set (top_w e w c (enc e n)) (p + 1) (W e * nb + 3)) (small_sum e p nb (omega arith)) ∙ ap (λ v. set v (p + 1) (W e * nb + 3)) (top_plain e w (p + nb) n (omega arith))

-- where the chunk after has no PINUSE yet
pub take_plain : (e : Edition) (w : List ℕ) (p s n : ℕ) → p + s ≤ 8192 → 4 ≤ s → slice_index w (p + s + 1) ≡ W e * n + 2 + 0 → take_w e w (enc e p) (enc e s) ≡ take_words e w p s
take_plain e w p s n l k q =
    ap (λ v. pinuse_w e v (wrap e (enc e p + enc e s))) (used_plain e w p s (omega arith)) ∙ ap (pinuse_w e x) (small_sum e p s l)
    ∙ put_plain e x (p + s) 1 (word e x (enc e (p + s)) 1 / 2 * 2 + 1) ∙ ap (λ y. set x (p + s + 1) (y / 2 * 2 + 1)) (word_plain e x (p + s) 1 ∙ get_or-set_other w (p + 1) (p + s + 1) (W e * s + 3) 0 (λ z. omega arith))
    ∙ ap (set x (p + s + 1)) (set_low e (slice_index w (p + s + 1)) n q)
  where
    x : List ℕ
    x = slice_set w (p + 1) (W e * s + 3)

-- where the chunk after has PINUSE
pub give_plain : (e : Edition) (w : List ℕ) (p s : ℕ) → p + s ≤ 8192 → 4 ≤ s → slice_index w (p + s + 1) % 2 ≡ 1 → give_w e w (enc e p) (enc e s) (enc e (p + s)) ≡ give_words e w p s
give_plain e w p s l k q =
    ap (λ v. unpin_w e v (enc e (p + s))) foot ∙ put_plain e x (p + s) 1 (word e x (enc e (p + s)) 1 / 2 * 2)
    ∙ ap (λ y. set x (p + s + 1) (y / 2 * 2)) (word_plain e x (p + s) 1 ∙ kept) ∙ ap (set x (p + s + 1)) (low (slice_index w (p + s + 1)) q)
  where
    x : List ℕ
    x = free_words e w p s

    foot : put e (put e w (enc e p) 1 (wrap e (enc e s + 1))) (enc e (p + s)) 0 (enc e s) ≡ x
    foot = ap (λ c. put e (put e w (enc e p) 1 (wrap e (enc e s + 1))) c 0 (enc e s)) (sym (small_sum e p s l)) ∙ free_plain e w p s l

    kept : slice_index_or x (p + s + 1) 0 ≡ slice_index w (p + s + 1)
    kept = get_or-set_other (slice_set w (p + 1) (W e * s + 1)) (p + s) (p + s + 1) (W e * s) 0 (λ z. omega arith) ∙ get_or-set_other w (p + 1) (p + s + 1) (W e * s + 1) 0 (λ z. omega arith)

    low : (h : ℕ) → h % 2 ≡ 1 → h / 2 * 2 ≡ h - 1
    low h u = omega arith

-- ---- readings of a head of s words with the flags f

module _ (e : Edition) (w : List ℕ) (p s f : ℕ) (q : slice_index_or w (p + 1) 0 ≡ W e * s + f) (v : s % 2 ≡ 0) (l : f < 4) where
  pub size_plain : size_b e w (enc e p) ≡ enc e s
  size_plain = ap (λ h. h / 8 * 8) (word_plain e w p 1 ∙ q) ∙ bytes e
    where
      bytes : (e : Edition) → (W e * s + f) / 8 * 8 ≡ W e * s
      bytes wide = omega arith
      bytes narrow = omega arith

  pub cinuse_plain : cinuse_b e w (enc e p) ≡ (f / 2 == 1)
  cinuse_plain = ap (λ h. nat_eq (h / 2 % 2) 1) (word_plain e w p 1 ∙ q) ∙ ap (λ x. nat_eq x 1) (bytes e)
    where
      bytes : (e : Edition) → (W e * s + f) / 2 % 2 ≡ f / 2
      bytes wide = omega arith
      bytes narrow = omega arith

  pub pinuse_plain : pinuse_b e w (enc e p) ≡ (f % 2 == 1)
  pinuse_plain = ap (λ h. nat_eq (h % 2) 1) (word_plain e w p 1 ∙ q) ∙ ap (λ x. nat_eq x 1) (bytes e)
    where
      bytes : (e : Edition) → (W e * s + f) % 2 ≡ f % 2
      bytes wide = omega arith
      bytes narrow = omega arith
