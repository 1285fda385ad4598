-- WHAT A WRITING OF HEADS, FEET AND LINKS REACHES: every word but those that it names is as it was. Said of one word i, so that writings go
-- together by one premise after another: i is none of the words written. A list of writes to the links of some places leaves i where i is no
-- link of these. Assumes nothing.
use Rattle.std.specs.Prelude.{◌≡◌, ℕ, ◌+◌, ◌*◌, ◌/◌, ◌%◌, ◌≤◌, List, ◌≢◌, slice_index, slice_set}
use Rattle.std.proofs.Common.{sym, ◌∙◌, ap, subst, arith, get_or-set_other}
use Rattle.words.specs.Edition.{Edition, enc, dec_enc}
use Rattle.words.specs.Fields.{Write, write_w, Within, writes_spare, within_spares}
use Rattle.holds.specs.Governed.{LinkOf}
use Rattle.chunk.specs.Bytes.{wrap, word, put, used_w, top_w, free_w, give_w, pinuse_w, unpin_w, take_w, inuse_w, split_w}
use Rattle.chunk.specs.Plain.{small_sum}

-- the word i is the same in both
abbrev pub Same : ℕ → List ℕ → List ℕ → Type 0
Same i w v = slice_index v i ≡ slice_index w i

-- ---- at a place

module _ (e : Edition) (i : ℕ) (w : List ℕ) where
  put_same : (v : List ℕ) (p k c : ℕ) → (i ≢ p + k) → Same i w v → Same i w (put e v (enc e p) k c)
  put_same v p k c out f = subst (λ q. Same i w (slice_set v (q + k) c)) (sym (dec_enc e p)) (get_or-set_other v (p + k) i c 0 out ∙ f)

  -- at the sum of a place and a size
  pub put_sum_same : (v : List ℕ) (p n k c : ℕ) → p + n ≤ 8192 → (i ≢ p + n + k) → Same i w v → Same i w (put e v (wrap e (enc e p + enc e n)) k c)
  put_sum_same v p n k c l out f = subst (λ q. Same i w (put e v q k c)) (sym (small_sum e p n l)) (put_same v (p + n) k c out f)

  -- a head alone
  pub top_same : (v : List ℕ) (p n : ℕ) → (i ≢ p + 1) → Same i w v → Same i w (top_w e v (enc e p) n)
  top_same v p n out f = put_same v p 1 (wrap e (n + 1)) out f

  pub used_same : (v : List ℕ) (p n : ℕ) → (i ≢ p + 1) → Same i w v → Same i w (used_w e v (enc e p) n)
  used_same v p n out f = put_same v p 1 (wrap e (n + 3)) out f

  pub unpin_same : (v : List ℕ) (p : ℕ) → (i ≢ p + 1) → Same i w v → Same i w (unpin_w e v (enc e p))
  unpin_same v p out f = put_same v p 1 (word e v (enc e p) 1 / 2 * 2) out f

  -- the head behind
  pin_same : (v : List ℕ) (p n : ℕ) → p + n ≤ 8192 → (i ≢ p + n + 1) → Same i w v → Same i w (pinuse_w e v (wrap e (enc e p + enc e n)))
  pin_same v p n l out f = put_sum_same v p n 1 (word e v (wrap e (enc e p + enc e n)) 1 / 2 * 2 + 1) l out f

  -- a head and the head behind
  pub take_same : (v : List ℕ) (p n : ℕ) → p + n ≤ 8192 → (i ≢ p + 1) → (i ≢ p + n + 1) → Same i w v → Same i w (take_w e v (enc e p) (enc e n))
  take_same v p n l head next f = pin_same (used_w e v (enc e p) (enc e n)) p n l next (used_same v p (enc e n) head f)

  pub inuse_same : (v : List ℕ) (p n : ℕ) → p + n ≤ 8192 → (i ≢ p + 1) → (i ≢ p + n + 1) → Same i w v → Same i w (inuse_w e v (enc e p) (enc e n))
  inuse_same v p n l head next f = pin_same (put e v (enc e p) 1 h) p n l next (put_same v p 1 h head f)
    where
      h : ℕ
      h = wrap e (enc e n + (word e v (enc e p) 1 % 2 + 2))

  -- a head and a foot; and the head behind
  pub freed_same : (v : List ℕ) (p n : ℕ) → p + n ≤ 8192 → (i ≢ p + 1) → (i ≢ p + n) → Same i w v → Same i w (free_w e v (enc e p) (enc e n))
  freed_same v p n l head foot f = put_sum_same (top_w e v (enc e p) (enc e n)) p n 0 (enc e n) l (λ z. foot (omega arith)) (top_same v p (enc e n) head f)

  pub give_same : (v : List ℕ) (p n : ℕ) → (i ≢ p + 1) → (i ≢ p + n) → (i ≢ p + n + 1) → Same i w v → Same i w (give_w e v (enc e p) (enc e n) (enc e (p + n)))
  give_same v p n head foot next f =
      unpin_same (put e (top_w e v (enc e p) (enc e n)) (enc e (p + n)) 0 (enc e n)) (p + n) next
      (put_same (top_w e v (enc e p) (enc e n)) (p + n) 0 (enc e n) (λ z. foot (omega arith)) (top_same v p (enc e n) head f))

  -- cut in two: two heads and a foot
  pub split_same : (v : List ℕ) (p nb n : ℕ) → p + nb + n ≤ 8192 → (i ≢ p + 1) → (i ≢ p + nb + 1) → (i ≢ p + nb + n) → Same i w v → Same i w (split_w e v (enc e p) (enc e nb) (enc e n))
  split_same v p nb n l head rest foot f =
      subst (λ c. Same i w (free_w e (used_w e v (enc e p) (enc e nb)) c (enc e n))) (sym (small_sum e p nb (omega arith)))
      (freed_same (used_w e v (enc e p) (enc e nb)) (p + nb) n l rest foot (used_same v p (enc e nb) head f))

-- ---- through links

-- v is w after a list of writes to words 2 up to d of places in C
abbrev pub Among : ℕ → (ℕ → Type 0) → List ℕ → List ℕ → Type 0
Among d C w v = (us : List Write) × (v ≡ write_w w us) × Within d C us

pub among_same : (d : ℕ) (C : ℕ → Type 0) (w v : List ℕ) (i : ℕ) → Among d C w v → ((x : ℕ) → C x → LinkOf d x i → ⊥) → Same i w v
among_same d C w v i a out = ap (λ y. slice_index y i) a.1 ∙ writes_spare w a.0 i (within_spares d C a.0 i a.2 (λ x k c lo hi z. out x c (k, lo, hi, z)))
