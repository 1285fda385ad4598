-- The laws of `bit`: how `&`, `|` and `!` of a machine word act on one digit, that a number below 2 ^ w is its w digits, and which digit
-- `count_trailing_zeros` finds. In terms of division and remainder by powers of two, for every width w. What the laws of the maps and of the way
-- down a tree rest on. Assumes nothing.
use Rattle.std.specs.Prelude.{◌≡◌, ℕ, zero, suc, ◌+◌, ◌-◌, ◌*◌, ◌/◌, ◌%◌, ◌^◌, ◌<◌, ◌≤◌, min, max, ◌≢◌, refl}
use Rattle.std.proofs.Common.{sym, ap, ap₂, ◌∙◌, zero-le, suc-le-suc, div-one, pow-suc, not-suc-le-zero, le_of_suc-le-suc, zero-lt-suc, suc-add, zero-add, mul-one, one-add, add-one, arith, pow_pos, shr-shr}
use Rattle.std.proofs.Math.Nat.{div_self, div-eq_of_lt, zero-div}
use Rattle.std.proofs.Math.Arith.{digits_mod, lt-one}
use Rattle.std.proofs.Math.Pow.{pow-lt, field, mod-mod-pow}
use Rattle.std.specs.Int.Bits.{bit_and, bit_or, and_step, or_step, shifted_half, shifted_even}
use Rattle.std.proofs.lemmas.Nat.{and_shr, or_shr}
use Rattle.std.specs.Int.Count.{count_trailing_zeros, under}
use Rattle.index.specs.Bit.{bit}

-- ---- one digit at a time

pub bit-zero : (n : ℕ) → bit 0 n ≡ n % 2
bit-zero n = ap (λ (x : ℕ). x % 2) (div-one n)

pub bit_shr : (i k n : ℕ) → bit i (n / 2 ^ k) ≡ bit (k + i) n
bit_shr i k n = ap (λ (x : ℕ). x % 2) (shr-shr n k i)

pub bit-suc : (i n : ℕ) → bit (suc i) n ≡ bit i (n / 2)
bit-suc i n = ap (λ (e : ℕ). bit e n) (sym (one-add i)) ∙ sym (bit_shr i 1 n)

pub bit_small : {n : ℕ} (i : ℕ) → n < 2 ^ i → bit i n ≡ 0
bit_small i h = ap (λ (x : ℕ). x % 2) (div-eq_of_lt h)

pub bit_of_zero : (i : ℕ) → bit i 0 ≡ 0
bit_of_zero i = ap (λ (x : ℕ). x % 2) (zero-div (2 ^ i))

pub half_lt : {n : ℕ} (k : ℕ) → n < 2 ^ suc k → n / 2 < 2 ^ k
half_lt k h = omega (arith, pow-suc 2 k)

-- ---- `&` and `|` act bit by bit

and_low : (a b : ℕ) → bit_and a b % 2 ≡ min (a % 2) (b % 2)
and_low a b = ap (λ (x : ℕ). x % 2) (and_step a b) ∙ digits_mod (bit_and (a / 2) (b / 2)) (omega arith)

or_low : (a b : ℕ) → bit_or a b % 2 ≡ max (a % 2) (b % 2)
or_low a b = ap (λ (x : ℕ). x % 2) (or_step a b) ∙ digits_mod (bit_or (a / 2) (b / 2)) (omega arith)

pub bit_and_lem : (i a b : ℕ) → bit i (bit_and a b) ≡ min (bit i a) (bit i b)
bit_and_lem i a b = ap (λ (x : ℕ). x % 2) (and_shr a b i) ∙ and_low (a / 2 ^ i) (b / 2 ^ i)

pub bit_or_lem : (i a b : ℕ) → bit i (bit_or a b) ≡ max (bit i a) (bit i b)
bit_or_lem i a b = ap (λ (x : ℕ). x % 2) (or_shr a b i) ∙ or_low (a / 2 ^ i) (b / 2 ^ i)

-- ---- `!` of a word of w digits turns each digit

pub not_half : (w a : ℕ) → a < 2 ^ suc w → (2 ^ suc w - 1 - a) / 2 ≡ 2 ^ w - 1 - a / 2
not_half w a h = omega (arith, pow-suc 2 w)

pub not_low : (w a : ℕ) → a < 2 ^ suc w → (2 ^ suc w - 1 - a) % 2 ≡ 1 - a % 2
not_low w a h = omega (arith, pow-suc 2 w)

pub bit_not : (w i a : ℕ) → i < w → a < 2 ^ w → bit i (2 ^ w - 1 - a) ≡ 1 - bit i a
bit_not zero i a l h = absurd (not-suc-le-zero l)
bit_not (suc w) zero a l h = bit-zero (2 ^ suc w - 1 - a) ∙ not_low w a h ∙ ap (λ (x : ℕ). 1 - x) (sym (bit-zero a))
bit_not (suc w) (suc i) a l h =
    bit-suc i (2 ^ suc w - 1 - a) ∙ ap (bit i) (not_half w a h) ∙ bit_not w i (a / 2) (le_of_suc-le-suc l) (half_lt w h)
    ∙ ap (λ (x : ℕ). 1 - x) (sym (bit-suc i a))

-- ---- a power of two has one bit

pub bit_pow : (i : ℕ) → bit i (2 ^ i) ≡ 1
bit_pow i = ap (λ (x : ℕ). x % 2) (div_self (pow_pos i))

pow_half : (i : ℕ) → 2 ^ suc i / 2 ≡ 2 ^ i
pow_half i = omega (arith, pow-suc 2 i)

pow_even : (i : ℕ) → 2 ^ suc i % 2 ≡ 0
pow_even i = omega (arith, pow-suc 2 i)

pub bit_pow_other : (i j : ℕ) → i ≢ j → bit j (2 ^ i) ≡ 0
bit_pow_other zero zero f = absurd (f refl)
bit_pow_other zero (suc j) f = bit_small (suc j) (pow-lt (zero-lt-suc j))
bit_pow_other (suc i) zero f = bit-zero (2 ^ suc i) ∙ pow_even i
bit_pow_other (suc i) (suc j) f = bit-suc j (2 ^ suc i) ∙ ap (bit j) (pow_half i) ∙ bit_pow_other i j (λ e. f (ap suc e))

-- ---- a number is its bits

pub bits_ext : (w a b : ℕ) → a < 2 ^ w → b < 2 ^ w → ((i : ℕ) → i < w → bit i a ≡ bit i b) → a ≡ b
bits_ext zero a b ha hb same = lt-one ha ∙ sym (lt-one hb)
bits_ext (suc w) a b ha hb same =
    let low : a % 2 ≡ b % 2 = sym (bit-zero a) ∙ same 0 (zero-lt-suc w) ∙ bit-zero b in
    let rest : a / 2 ≡ b / 2 =
    bits_ext w (a / 2) (b / 2) (half_lt w ha) (half_lt w hb)
    (λ i l. sym (bit-suc i a) ∙ same (suc i) (omega arith) ∙ bit-suc i b) in
    omega arith

-- ---- `count_trailing_zeros w n` is the place of the lowest set bit among n's w low ones, and w where none is set

-- an even number
pub trailing_even : (w n : ℕ) → n % 2 ≡ 0 → count_trailing_zeros (suc w) n ≡ suc (count_trailing_zeros w (n / 2))
unfolding count_trailing_zeros
trailing_even w n e = ap (λ (d : ℕ). under d (count_trailing_zeros w (n / 2))) e

-- an odd one
pub trailing_odd : (w n : ℕ) → n % 2 ≡ 1 → count_trailing_zeros (suc w) n ≡ 0
unfolding count_trailing_zeros
trailing_odd w n e = ap (λ (d : ℕ). under d (count_trailing_zeros w (n / 2))) e

pub trailing_clear : (w n j : ℕ) → j < count_trailing_zeros w n → bit j n ≡ 0
unfolding count_trailing_zeros
trailing_clear zero n j h = absurd (not-suc-le-zero h)
trailing_clear (suc w) n j h = go (trailing_clear w (n / 2)) (n % 2) refl j h
  where
    go : ((j : ℕ) → j < count_trailing_zeros w (n / 2) → bit j (n / 2) ≡ 0)
        → (d : ℕ) → n % 2 ≡ d → (j : ℕ) → j < under d (count_trailing_zeros w (n / 2)) → bit j n ≡ 0
    go rest zero e zero h = bit-zero n ∙ e
    go rest zero e (suc j) h = bit-suc j n ∙ rest j (le_of_suc-le-suc h)
    go rest (suc d) e j h = absurd (not-suc-le-zero h)

pub trailing_set : (w n : ℕ) → count_trailing_zeros w n < w → bit (count_trailing_zeros w n) n ≡ 1
unfolding count_trailing_zeros
trailing_set zero n h = absurd (not-suc-le-zero h)
trailing_set (suc w) n h = go (trailing_set w (n / 2)) (n % 2) refl h
  where
    go : (count_trailing_zeros w (n / 2) < w → bit (count_trailing_zeros w (n / 2)) (n / 2) ≡ 1)
        → (d : ℕ) → n % 2 ≡ d → under d (count_trailing_zeros w (n / 2)) < suc w → bit (under d (count_trailing_zeros w (n / 2))) n ≡ 1
    go rest zero e h = bit-suc (count_trailing_zeros w (n / 2)) n ∙ rest (le_of_suc-le-suc h)
    go rest (suc d) e h = bit-zero n ∙ omega arith

-- looking at one digit more finds the same, unless none was found
pub trailing_more : (w n : ℕ) → count_trailing_zeros w n < w → count_trailing_zeros (suc w) n ≡ count_trailing_zeros w n
unfolding count_trailing_zeros
trailing_more zero n h = absurd (not-suc-le-zero h)
trailing_more (suc w) n h = go (trailing_more w (n / 2)) (n % 2) h
  where
    go : (count_trailing_zeros w (n / 2) < w → count_trailing_zeros (suc w) (n / 2) ≡ count_trailing_zeros w (n / 2))
        → (d : ℕ) → under d (count_trailing_zeros w (n / 2)) < suc w → under d (count_trailing_zeros (suc w) (n / 2)) ≡ under d (count_trailing_zeros w (n / 2))
    go rest zero h = ap suc (rest (le_of_suc-le-suc h))
    go rest (suc d) h = refl

pub trailing_mono : (w n : ℕ) → count_trailing_zeros w n ≤ count_trailing_zeros (suc w) n
unfolding count_trailing_zeros
trailing_mono zero n = zero-le
trailing_mono (suc w) n = go (n % 2) (trailing_mono w (n / 2))
  where
    go : (d : ℕ) → count_trailing_zeros w (n / 2) ≤ count_trailing_zeros (suc w) (n / 2)
        → under d (count_trailing_zeros w (n / 2)) ≤ under d (count_trailing_zeros (suc w) (n / 2))
    go zero h = suc-le-suc h
    go (suc d) h = zero-le

-- shifted left by k, a number has its lowest set bit k places higher
pub trailing_shifted : (k w q : ℕ) → count_trailing_zeros (k + w) (q * 2 ^ k) ≡ k + count_trailing_zeros w q
trailing_shifted zero w q =
    ap₂ count_trailing_zeros (zero-add w) (mul-one q) ∙ sym (zero-add (count_trailing_zeros w q))
trailing_shifted (suc k) w q =
    ap (λ (x : ℕ). count_trailing_zeros x (q * 2 ^ suc k)) (suc-add k w)
    ∙ trailing_even (k + w) (q * 2 ^ suc k) (shifted_even q k)
    ∙ ap (λ (x : ℕ). suc (count_trailing_zeros (k + w) x)) (shifted_half q k)
    ∙ ap suc (trailing_shifted k w q)
    ∙ sym (suc-add k (count_trailing_zeros w q))

-- no more than the w low digits are looked at
pub trailing_low : (w n : ℕ) → count_trailing_zeros w (n % 2 ^ w) ≡ count_trailing_zeros w n
unfolding count_trailing_zeros
trailing_low zero n = refl
trailing_low (suc w) n =
    let e : n % 2 ^ suc w ≡ n % 2 ^ (w + 1) = ap (λ (x : ℕ). n % 2 ^ x) (sym (add-one w)) in
    ap₂ (λ (d x : ℕ). under d (count_trailing_zeros w x)) (ap (λ (x : ℕ). x % 2) e ∙ mod-mod-pow n w 1) (ap (λ (x : ℕ). x / 2) e ∙ field n w 1)
    ∙ ap (under (n % 2)) (trailing_low w (n / 2))
