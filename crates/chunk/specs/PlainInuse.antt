-- `set_inuse` is a write at two places: the chunk's head, with its own PINUSE kept, and the next head, which gets PINUSE. What its uses come to
-- (cutting a block, taking in the neighbour, growing into the spare chunk or the top): the writings of `tiling`, `Regrow`. Assumes nothing.
use Rattle.std.specs.Prelude.{◌≡◌, ℕ, ◌+◌, ◌*◌, ◌/◌, ◌%◌, ◌<◌, ◌≤◌, List, length, set, ◌≢◌, slice_index, slice_index_or, slice_set}
use Rattle.std.proofs.Math.Path.{sym, ap}
use Rattle.std.proofs.Common.{◌∙◌, ap₂, arith}
use Rattle.std.proofs.Math.ListN.{length-set}
use Rattle.std.proofs.Math.Seq.{get_or-set_same, get_or-set_other, set-set}
use Rattle.std.proofs.lemmas.List.{set-get_or, set_comm}
use Rattle.words.specs.Edition.{Edition, wide, narrow, W, enc}
use Rattle.tiling.specs.Regrow.{kept_head, split_used_words, take_next_words, grow_rest_words, grow_top_words}
use Rattle.chunk.specs.Bytes.{wrap, word, put, top_w, free_w, unpin_w, pinuse_w, inuse_w}
use Rattle.chunk.specs.Plain.{small_sum, word_plain, put_plain, top_plain, free_plain}

-- a value that is there already
same_value : (w : List ℕ) (i v : ℕ) → v ≡ slice_index w i → slice_set w i v ≡ w
same_value w i v q = ap (set w i) q ∙ set-get_or w i 0

pub kept_plain : (e : Edition) (w : List ℕ) (p n : ℕ) → n ≤ 8192 → put e w (enc e p) 1 (wrap e (enc e n + (word e w (enc e p) 1 % 2 + 2))) ≡ slice_set w (p + 1) (kept_head e w p n)
kept_plain e w p n l = put_plain e w p 1 _ ∙ ap (set w (p + 1)) (ap (λ h. wrap e (enc e n + (h % 2 + 2))) (word_plain e w p 1) ∙ low e (slice_index w (p + 1)))
  where
    low : (e : Edition) (h : ℕ) → wrap e (enc e n + (h % 2 + 2)) ≡ W e * n + 2 + h % 2
    low wide h = omega arith
    low narrow h = omega arith

pub inuse_plain : (e : Edition) (w : List ℕ) (p n : ℕ) → 1 ≤ n → p + n ≤ 8192
    → inuse_w e w (enc e p) (enc e n) ≡ slice_set (slice_set w (p + 1) (kept_head e w p n)) (p + n + 1) (slice_index w (p + n + 1) / 2 * 2 + 1)
inuse_plain e w p n k l =
    ap (λ v. pinuse_w e v (wrap e (enc e p + enc e n))) (kept_plain e w p n (omega arith)) ∙ ap (pinuse_w e x) (small_sum e p n l)
    ∙ put_plain e x (p + n) 1 (word e x (enc e (p + n)) 1 / 2 * 2 + 1)
    ∙ ap (λ y. set x (p + n + 1) (y / 2 * 2 + 1)) (word_plain e x (p + n) 1 ∙ get_or-set_other w (p + 1) (p + n + 1) (kept_head e w p n) 0 (λ z. omega arith))
  where
    x : List ℕ
    x = slice_set w (p + 1) (kept_head e w p n)

-- the neighbour is taken in whole: the chunk behind it has no PINUSE yet
pub take_next_plain : (e : Edition) (w : List ℕ) (p n : ℕ) → 1 ≤ n → p + n ≤ 8192 → slice_index w (p + n + 1) % 2 ≡ 0 → inuse_w e w (enc e p) (enc e n) ≡ take_next_words e w p n
take_next_plain e w p n k l q = inuse_plain e w p n k l ∙ ap (set (slice_set w (p + 1) (kept_head e w p n)) (p + n + 1)) (low (slice_index w (p + n + 1)) q)
  where
    low : (h : ℕ) → h % 2 ≡ 0 → h / 2 * 2 + 1 ≡ h + 1
    low h u = omega arith

module _ (e : Edition) (w : List ℕ) (a nb r : ℕ) (ln : 4 ≤ nb) (lr : 1 ≤ r) (l : a + nb + r ≤ 8192) (fits : a + nb + 1 < length w) where
  -- the words after the first `set_inuse`, and what stands in the next head
  first : List ℕ
  first = slice_set (slice_set w (a + 1) (kept_head e w a nb)) (a + nb + 1) (slice_index w (a + nb + 1) / 2 * 2 + 1)

  first_is : inuse_w e w (enc e a) (enc e nb) ≡ first
  unfolding first
  first_is = inuse_plain e w a nb (omega arith) (omega arith)

  here : slice_index_or first (a + nb + 1) 0 ≡ slice_index w (a + nb + 1) / 2 * 2 + 1
  unfolding first
  here = get_or-set_same (slice_set w (a + 1) (kept_head e w a nb)) (a + nb + 1) (slice_index w (a + nb + 1) / 2 * 2 + 1) 0 (simp length-set fits)

  there : (i : ℕ) → (i ≢ a + 1) → (i ≢ a + nb + 1) → slice_index first i ≡ slice_index w i
  unfolding first
  there i n₁ n₂ = get_or-set_other (slice_set w (a + 1) (kept_head e w a nb)) (a + nb + 1) i (slice_index w (a + nb + 1) / 2 * 2 + 1) 0 n₂ ∙ get_or-set_other w (a + 1) i (kept_head e w a nb) 0 n₁

  -- a block is cut, and both parts are in use; the chunk behind them has PINUSE
  pub split_used_plain : slice_index_or w (a + nb + r + 1) 0 % 2 ≡ 1 → inuse_w e (inuse_w e w (enc e a) (enc e nb)) (enc e (a + nb)) (enc e r) ≡ split_used_words e w a nb r
  unfolding first
  split_used_plain q =
      ap (λ v. inuse_w e v (enc e (a + nb)) (enc e r)) first_is ∙ inuse_plain e first (a + nb) r lr l
      ∙ same_value (slice_set first (a + nb + 1) (kept_head e first (a + nb) r)) (a + nb + r + 1) (slice_index first (a + nb + r + 1) / 2 * 2 + 1)
      (odd (slice_index first (a + nb + r + 1)) (ap (λ h. h % 2) far ∙ q) ∙ sym (get_or-set_other first (a + nb + 1) (a + nb + r + 1) (kept_head e first (a + nb) r) 0 (λ z. omega arith)))
      ∙ set-set (slice_set w (a + 1) (kept_head e w a nb)) (a + nb + 1) (slice_index w (a + nb + 1) / 2 * 2 + 1) (kept_head e first (a + nb) r)
      ∙ ap (set (slice_set w (a + 1) (kept_head e w a nb)) (a + nb + 1)) (ap (λ h. W e * r + 2 + h % 2) here ∙ flags (slice_index w (a + nb + 1)))
    where
      far : slice_index_or first (a + nb + r + 1) 0 ≡ slice_index w (a + nb + r + 1)
      far = there (a + nb + r + 1) (λ z. omega arith) (λ z. omega arith)

      odd : (h : ℕ) → h % 2 ≡ 1 → h / 2 * 2 + 1 ≡ h
      odd h u = omega arith

      flags : (h : ℕ) → W e * r + 2 + (h / 2 * 2 + 1) % 2 ≡ W e * r + 3
      flags h = let z : (h / 2 * 2 + 1) % 2 ≡ 1 = omega arith in omega (arith, z)

  -- the rest of a block that grew into the top is the top
  pub grow_top_plain : top_w e (inuse_w e w (enc e a) (enc e nb)) (enc e (a + nb)) (enc e r) ≡ grow_top_words e w a nb r
  unfolding first
  grow_top_plain =
      ap (λ v. top_w e v (enc e (a + nb)) (enc e r)) first_is ∙ top_plain e first (a + nb) r (omega arith)
      ∙ set-set (slice_set w (a + 1) (kept_head e w a nb)) (a + nb + 1) (slice_index w (a + nb + 1) / 2 * 2 + 1) (W e * r + 1)

  -- the rest of a block that grew into the spare chunk is free; the chunk behind it has no PINUSE already
  pub grow_rest_plain : slice_index_or w (a + nb + r + 1) 0 % 2 ≡ 0 → unpin_w e (free_w e (inuse_w e w (enc e a) (enc e nb)) (enc e (a + nb)) (enc e r)) (enc e (a + nb + r)) ≡ grow_rest_words e w a nb r
  unfolding first
  grow_rest_plain q =
      ap (λ v. unpin_w e v (enc e (a + nb + r))) words ∙ put_plain e x (a + nb + r) 1 (word e x (enc e (a + nb + r)) 1 / 2 * 2)
      ∙ same_value x (a + nb + r + 1) (word e x (enc e (a + nb + r)) 1 / 2 * 2) (ap (λ h. h / 2 * 2) (word_plain e x (a + nb + r) 1) ∙ even (slice_index x (a + nb + r + 1)) (ap (λ h. h % 2) far ∙ q))
    where
      x : List ℕ
      x = grow_rest_words e w a nb r

      words : free_w e (inuse_w e w (enc e a) (enc e nb)) (enc e (a + nb)) (enc e r) ≡ x
      words =
          ap (λ v. free_w e v (enc e (a + nb)) (enc e r)) first_is ∙ free_plain e first (a + nb) r l
          ∙ ap (λ v. set v (a + nb + r) (W e * r)) (set-set (slice_set w (a + 1) (kept_head e w a nb)) (a + nb + 1) (slice_index w (a + nb + 1) / 2 * 2 + 1) (W e * r + 1))

      y : List ℕ
      y = slice_set w (a + 1) (kept_head e w a nb)

      far : slice_index_or x (a + nb + r + 1) 0 ≡ slice_index w (a + nb + r + 1)
      far =
          get_or-set_other (slice_set y (a + nb + 1) (W e * r + 1)) (a + nb + r) (a + nb + r + 1) (W e * r) 0 (λ z. omega arith)
          ∙ get_or-set_other y (a + nb + 1) (a + nb + r + 1) (W e * r + 1) 0 (λ z. omega arith) ∙ get_or-set_other w (a + 1) (a + nb + r + 1) (kept_head e w a nb) 0 (λ z. omega arith)

      even : (h : ℕ) → h % 2 ≡ 0 → h / 2 * 2 ≡ h
      even h u = omega arith

-- a lead is cut off: the block behind it is written first
pub lead_plain : (e : Edition) (w : List ℕ) (a k r : ℕ) → 4 ≤ k → 1 ≤ r → a + k + r ≤ 8192 → a + k + 1 < length w → slice_index w (a + k + r + 1) % 2 ≡ 1
    → inuse_w e (inuse_w e w (enc e (a + k)) (enc e r)) (enc e a) (enc e k) ≡ split_used_words e w a k r
lead_plain e w a k r lk lr l fits q =
    ap (λ v. inuse_w e v (enc e a) (enc e k)) one ∙ inuse_plain e x a k (omega arith) (omega arith)
    ∙ ap₂ (λ u v. set (slice_set x (a + 1) (W e * k + 2 + u % 2)) (a + k + 1) (v / 2 * 2 + 1))
    (get_or-set_other w (a + k + 1) (a + 1) (kept_head e w (a + k) r) 0 (λ z. omega arith)) (get_or-set_same w (a + k + 1) (kept_head e w (a + k) r) 0 fits)
    ∙ ap (λ v. set v (a + k + 1) (kept_head e w (a + k) r / 2 * 2 + 1)) (set_comm w (a + k + 1) (a + 1) (kept_head e w (a + k) r) (kept_head e w a k) (λ z. omega arith))
    ∙ set-set (slice_set w (a + 1) (kept_head e w a k)) (a + k + 1) (kept_head e w (a + k) r) (kept_head e w (a + k) r / 2 * 2 + 1)
    ∙ ap (set (slice_set w (a + 1) (kept_head e w a k)) (a + k + 1)) (flags e (slice_index w (a + k + 1)))
  where
    x : List ℕ
    x = slice_set w (a + k + 1) (kept_head e w (a + k) r)

    odd : (h : ℕ) → h % 2 ≡ 1 → h / 2 * 2 + 1 ≡ h
    odd h u = omega arith

    one : inuse_w e w (enc e (a + k)) (enc e r) ≡ x
    one =
        inuse_plain e w (a + k) r lr l
        ∙ same_value x (a + k + r + 1) (slice_index w (a + k + r + 1) / 2 * 2 + 1) (odd (slice_index w (a + k + r + 1)) q ∙ sym (get_or-set_other w (a + k + 1) (a + k + r + 1) (kept_head e w (a + k) r) 0 (λ z. omega arith)))

    flags : (e : Edition) (h : ℕ) → (W e * r + 2 + h % 2) / 2 * 2 + 1 ≡ W e * r + 3
    flags wide h = omega arith
    flags narrow h = omega arith
