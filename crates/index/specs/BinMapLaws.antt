-- The laws of `BinMap`, for every width w: what a mark, a clear and a search do to each bit, stated once over the index; that a map which tells of
-- some bins goes on doing so when one bin changes; and, for each definition, the operators of the code that give it. In terms of the digits
-- of a number (`Bit`), and of a yes or no for each bin. Assumes nothing.
use Rattle.std.specs.Prelude.{◌≡◌, ℕ, zero, suc, ◌+◌, ◌-◌, ◌*◌, ◌/◌, ◌%◌, ◌^◌, ◌<◌, ◌≤◌, min, max, Bool, true, false, not, ◌≢◌, ◌==◌, nat_eq, nat_lt, refl, Option, Some, None}
use Rattle.std.proofs.Common.{sym, ap, ap₂, ◌∙◌, subst, ⊎_elim, mod-eq_of_lt, one-mul, lt_of_le_of_lt, lt_of_lt_of_le, le_antisymm, sub-le, mod-lt, zero-mul, le_of_lt, sub-add_cancel, add_comm, div-one, zero-add, add-one, arith, lt-ltb, le-ltb, le-leb, ne_eqb, pow_pos, pow_mono, pow-add}
use Rattle.std.proofs.Math.Nat.{mod_self, sub-zero}
use Rattle.std.proofs.Math.Decide.{ℕ_discrete, dec_lt}
use Rattle.std.proofs.Math.Pow.{pow-lt, shr_mod, ones_lt, high_ones}
use Rattle.std.proofs.lemmas.Nat.{shr_le, or_lt, and_comm, or_shifted, and_mask, trailing_le}
use Rattle.std.specs.Int.Bits.{bit_and, bit_or, or_add_and}
use Rattle.std.proofs.lemmas.Nat.Bits.{and_high}
use Rattle.std.specs.Int.Count.{count_trailing_zeros, trailing_of_zero}
use Rattle.words.specs.Logic.{pick, le_or_lt}
use Rattle.index.specs.Bit.{bit, tell}
use Rattle.index.specs.Digits.{bit-zero, bit_shr, bit_small, bit_of_zero, bit_or_lem, bit_and_lem, bit_not, bit_pow, bit_pow_other, bits_ext, trailing_clear, trailing_set, trailing_even, trailing_odd, trailing_low, trailing_more, trailing_mono, trailing_shifted}
use Rattle.index.specs.Words.{and_pow, and_not, and_neg, or_neg, neg_word}
use Rattle.index.specs.BinMap.{Tells, mark, clear, bit_place, left_bits, least_bit, First, FirstBin, first_from, own_or_next, in_map}

-- ---- the machine operations

-- for a digit b: b or not b
digit_split : (b p : ℕ) → b < 2 → b * p + (1 - b) * p ≡ p
digit_split zero p h = omega arith
digit_split (suc zero) p h = omega arith
digit_split (suc (suc b)) p h = absurd (omega arith)

-- `m | (1 << i)`
pub or_marks : (i m : ℕ) → bit_or m (2 ^ i) ≡ mark i m
unfolding mark
or_marks i m =
    let s = digit_split (bit i m) (2 ^ i) (omega arith) in
    omega (arith, or_add_and m (2 ^ i), and_pow i m)

-- `m & !(1 << i)`
pub and_clears : (w i m : ℕ) → i < w → m < 2 ^ w → bit_and m (2 ^ w - 1 - 2 ^ i) ≡ clear i m
unfolding clear
and_clears w i m l h = and_not w m (2 ^ i) h (pow-lt l) ∙ ap (λ (x : ℕ). m - x) (and_pow i m)

-- `m & (1 << i) != 0`
pub and_tests : (i m : ℕ) → not (bit_and m (2 ^ i) == 0) ≡ (bit i m == 1)
and_tests i m = ap (λ (x : ℕ). not (x == 0)) (and_pow i m) ∙ go (bit i m) (omega arith)
  where
    go : (b : ℕ) → b < 2 → not (b * 2 ^ i == 0) ≡ (b == 1)
    go zero h = ap (λ (x : ℕ). not (x == 0)) (zero-mul (2 ^ i))
    go (suc zero) h = ap (λ (x : ℕ). not (x == 0)) (one-mul (2 ^ i)) ∙ ap not (ne_eqb (2 ^ i) 0 (λ e. omega (arith, pow_pos i)))
    go (suc (suc b)) h = absurd (omega arith)

-- where a bit stands, for each width that a word has
pub bit_place_is : (w i : ℕ) → 0 < w → w ≤ 64 → bit_place w i ≡ i % w
bit_place_is w i l m = rw (lt-ltb 0 w l, le-leb w 64 m) refl

-- ---- what a mark and a clear do to each bit

pub mark_same : (i m : ℕ) → bit i (mark i m) ≡ 1
mark_same i m = ap (bit i) (sym (or_marks i m)) ∙ bit_or_lem i m (2 ^ i) ∙ ap (max (bit i m)) (bit_pow i) ∙ omega arith

pub mark_other : (i j m : ℕ) → i ≢ j → bit j (mark i m) ≡ bit j m
mark_other i j m f = ap (bit j) (sym (or_marks i m)) ∙ bit_or_lem j m (2 ^ i) ∙ ap (max (bit j m)) (bit_pow_other i j f) ∙ omega arith

pub mark_lt : (w i m : ℕ) → i < w → m < 2 ^ w → mark i m < 2 ^ w
mark_lt w i m l h = subst (λ (x : ℕ). x < 2 ^ w) (or_marks i m) (or_lt w m (2 ^ i) h (pow-lt l))

pub clear_lt : (w i m : ℕ) → m < 2 ^ w → clear i m < 2 ^ w
unfolding clear
clear_lt w i m h = lt_of_le_of_lt (sub-le m (bit i m * 2 ^ i)) h

clear-bit : (w i j m : ℕ) → i < w → j < w → m < 2 ^ w → bit j (clear i m) ≡ min (bit j m) (1 - bit j (2 ^ i))
clear-bit w i j m l k h =
    ap (bit j) (sym (and_clears w i m l h)) ∙ bit_and_lem j m (2 ^ w - 1 - 2 ^ i) ∙ ap (min (bit j m)) (bit_not w j (2 ^ i) k (pow-lt l))

pub clear_same : (w i m : ℕ) → i < w → m < 2 ^ w → bit i (clear i m) ≡ 0
clear_same w i m l h = clear-bit w i i m l l h ∙ ap (λ (x : ℕ). min (bit i m) (1 - x)) (bit_pow i) ∙ omega arith

pub clear_other : (w i j m : ℕ) → i < w → j < w → m < 2 ^ w → i ≢ j → bit j (clear i m) ≡ bit j m
clear_other w i j m l k h f = clear-bit w i j m l k h ∙ ap (λ (x : ℕ). min (bit j m) (1 - x)) (bit_pow_other i j f) ∙ omega arith

-- ---- the tie with the bins is kept: P before, Q after, which differ at i only

pub mark_tells : (w i m : ℕ) (P Q : ℕ → Bool) → Tells w P m → Q i ≡ true → ((j : ℕ) → i ≢ j → Q j ≡ P j) → Tells w Q (mark i m)
mark_tells w i m P Q t here there j l = go (ℕ_discrete i j)
  where
    go : Dec (i ≡ j) → bit j (mark i m) ≡ tell (Q j)
    go (yes e) = subst (λ (x : ℕ). bit x (mark i m) ≡ tell (Q x)) e (mark_same i m ∙ sym (ap tell here))
    go (no f) = mark_other i j m f ∙ t j l ∙ sym (ap tell (there j f))

pub clear_tells : (w i m : ℕ) (P Q : ℕ → Bool) → i < w → m < 2 ^ w
    → Tells w P m → Q i ≡ false → ((j : ℕ) → i ≢ j → Q j ≡ P j) → Tells w Q (clear i m)
clear_tells w i m P Q li h t here there j l = go (ℕ_discrete i j)
  where
    go : Dec (i ≡ j) → bit j (clear i m) ≡ tell (Q j)
    go (yes e) = subst (λ (x : ℕ). bit x (clear i m) ≡ tell (Q x)) e (clear_same w i m li h ∙ sym (ap tell here))
    go (no f) = clear_other w i j m li l h f ∙ t j l ∙ sym (ap tell (there j f))

-- the bins settle the map
pub tells_one : (w m n : ℕ) (P : ℕ → Bool) → m < 2 ^ w → n < 2 ^ w → Tells w P m → Tells w P n → m ≡ n
tells_one w m n P hm hn tm tn = bits_ext w m n hm hn (λ i l. tm i l ∙ sym (tn i l))

-- an empty map: no bin is filled
pub empty_tells : (w : ℕ) (P : ℕ → Bool) → ((i : ℕ) → i < w → P i ≡ false) → Tells w P 0
empty_tells w P none i l = bit_of_zero i ∙ sym (ap tell (none i l))

-- ---- the bits left of an index

ones_bit : (k j : ℕ) → bit j (2 ^ k - 1) ≡ tell (nat_lt j k)
ones_bit k j = go (dec_lt j k)
  where
    go : Dec (j < k) → bit j (2 ^ k - 1) ≡ tell (nat_lt j k)
    go (yes l) =
        ap (bit j) (omega arith) ∙ bit_not k j 0 l (pow_pos k) ∙ ap (λ (x : ℕ). 1 - x) (bit_of_zero j) ∙ sym (ap tell (lt-ltb j k l))
    go (no f) = bit_small j (lt_of_lt_of_le (ones_lt k) (pow_mono (omega arith))) ∙ sym (ap tell (le-ltb j k (omega arith)))

pub trailing_pow : (w i : ℕ) → i < w → count_trailing_zeros w (2 ^ i) ≡ i
trailing_pow w i l =
    ap₂ count_trailing_zeros split (sym (one-mul (2 ^ i))) ∙ trailing_shifted i (suc (w - suc i)) 1
    ∙ ap (λ (x : ℕ). i + x) one ∙ omega arith
  where
    split : w ≡ i + suc (w - suc i)
    split = omega arith

    one : count_trailing_zeros (suc (w - suc i)) 1 ≡ 0
    one = trailing_odd (w - suc i) 1 refl

pub left_of : (w i : ℕ) → i < w → left_bits w (2 ^ i) ≡ 2 ^ w - 2 ^ (i + 1)
unfolding left_bits
left_of w i l = ap (λ (x : ℕ). 2 ^ w - 2 ^ (x + 1)) (trailing_pow w i l)

-- `left_bits(1 << i)` has exactly the bits above i
pub left_of_bit : (w i j : ℕ) → i < w → j < w → bit j (left_bits w (2 ^ i)) ≡ tell (nat_lt i j)
left_of_bit w i j l k =
    ap (bit j) (left_of w i l ∙ omega (arith, pow_pos (i + 1))) ∙ bit_not w j (2 ^ (i + 1) - 1) k below
    ∙ ap (λ (x : ℕ). 1 - x) (ones_bit (i + 1) j) ∙ turn (dec_lt i j)
  where
    below : 2 ^ (i + 1) - 1 < 2 ^ w
    below = lt_of_lt_of_le (ones_lt (i + 1)) (pow_mono (omega arith))

    turn : Dec (i < j) → 1 - tell (nat_lt j (i + 1)) ≡ tell (nat_lt i j)
    turn (yes h) = ap (λ (b : Bool). 1 - tell b) (le-ltb j (i + 1) (omega arith)) ∙ sym (ap tell (lt-ltb i j h))
    turn (no f) = ap (λ (b : Bool). 1 - tell b) (lt-ltb j (i + 1) (omega arith)) ∙ sym (ap tell (le-ltb i j (omega arith)))

-- `y | -y` at y = `x << 1`
left_places : (v x : ℕ) → 2 ^ suc v - 2 ^ suc (count_trailing_zeros v x) ≡ 2 ^ suc v - 2 ^ (count_trailing_zeros (suc v) x + 1)
left_places v x = go (dec_lt (count_trailing_zeros v x) v)
  where
    go : Dec (count_trailing_zeros v x < v) → 2 ^ suc v - 2 ^ suc (count_trailing_zeros v x) ≡ 2 ^ suc v - 2 ^ (count_trailing_zeros (suc v) x + 1)
    go (yes l) = ap (λ (t : ℕ). 2 ^ suc v - 2 ^ t) (sym (add-one (count_trailing_zeros v x)) ∙ ap (λ (t : ℕ). t + 1) (sym (trailing_more v x l)))
    go (no f) =
        let a : 2 ^ suc v ≤ 2 ^ suc (count_trailing_zeros v x) = pow_mono (omega arith) in
        let b : 2 ^ suc v ≤ 2 ^ (count_trailing_zeros (suc v) x + 1) = pow_mono (omega (arith, trailing_mono v x)) in
        omega arith

pub left_word : (w x : ℕ) → 0 < w → bit_or ((x * 2 ^ 1) % 2 ^ w) ((2 ^ w - 1 - (x * 2 ^ 1) % 2 ^ w + 1) % 2 ^ w) ≡ left_bits w x
unfolding left_bits
left_word zero x p = absurd (omega arith)
left_word (suc v) x p =
    let y : ℕ = (x * 2) % 2 ^ suc v in
    let h : y < 2 ^ suc v = mod-lt (x * 2) (pow_pos (suc v)) in
    let place : count_trailing_zeros (suc v) y ≡ suc (count_trailing_zeros v x) =
    trailing_low (suc v) (x * 2) ∙ trailing_even v (x * 2) (omega arith) ∙ ap (λ (n : ℕ). suc (count_trailing_zeros v n)) (omega arith) in
    ap (bit_or y) (neg_word (suc v) y h) ∙ or_neg (suc v) y h ∙ ap (λ (t : ℕ). 2 ^ suc v - 2 ^ t) place ∙ left_places v x

-- `x & -x`
pub least_word : (w x : ℕ) → x < 2 ^ w → bit_and x ((2 ^ w - 1 - x + 1) % 2 ^ w) ≡ least_bit w x
unfolding least_bit
least_word w x h = ap (bit_and x) (neg_word w x h) ∙ and_neg w x h

-- ---- the next filled bin

pub first_one : {w m i r s : ℕ} → First w m i r → First w m i s → r ≡ s
first_one {w} {m} {i} a b = le_antisymm (half a b) (half b a)
  where
    half : {r s : ℕ} → First w m i r → First w m i s → r ≤ s
    half {r} {s} a b = ⊎_elim (λ l. l) no_less (le_or_lt r s)
      where
        no_less : s < r → r ≤ s
        no_less l =
            let z : bit s m ≡ 0 = a.gap s b.from l in
            let o : bit s m ≡ 1 = b.hit (omega (arith, a.within)) in
            absurd (omega arith)

pub first_is : (w m i : ℕ) → i ≤ w → First w m i (first_from w m i)
unfolding first_from
first_is w m i l =
    let t : ℕ = count_trailing_zeros (w - i) (m / 2 ^ i) in record {
      from = omega arith;
      within = omega (arith, trailing_le (w - i) (m / 2 ^ i));
      gap = λ j a b.
          ap (λ (x : ℕ). bit x m) (omega arith) ∙ sym (bit_shr (j - i) i m)
          ∙ trailing_clear (w - i) (m / 2 ^ i) (j - i) (omega arith);
      hit = λ b. sym (bit_shr t i m) ∙ trailing_set (w - i) (m / 2 ^ i) (omega arith);
    }

-- trailing zeros of the map behind the mask of the bits from k on
pub first_word : (w m k : ℕ) → k ≤ w → m < 2 ^ w → count_trailing_zeros w (bit_and m (2 ^ w - 2 ^ k)) ≡ first_from w m k
unfolding first_from
first_word w m k l h =
    let e : w - k + k ≡ w = sub-add_cancel l in
    ap (λ (x : ℕ). count_trailing_zeros w (bit_and m (2 ^ x - 2 ^ k))) (sym e)
    ∙ ap (count_trailing_zeros w) (and_high m (w - k) k ∙ ap (λ (x : ℕ). x * 2 ^ k) (shr_mod (w - k) k (subst (λ (x : ℕ). m < 2 ^ x) (sym e) h)))
    ∙ ap (λ (x : ℕ). count_trailing_zeros x (m / 2 ^ k * 2 ^ k)) (sym e ∙ add_comm (w - k) k)
    ∙ trailing_shifted k (w - k) (m / 2 ^ k)

-- `trailing_zeros(left_bits(1 << i) & m)`
pub next_word : (w m i : ℕ) → i < w → m < 2 ^ w → count_trailing_zeros w (bit_and (left_bits w (2 ^ i)) m) ≡ first_from w m (i + 1)
next_word w m i l h =
    ap (λ (x : ℕ). count_trailing_zeros w (bit_and x m)) (left_of w i l) ∙ ap (count_trailing_zeros w) (and_comm (2 ^ w - 2 ^ (i + 1)) m)
    ∙ first_word w m (i + 1) (omega arith) h

-- `trailing_zeros((left_bits(1 << i) | (1 << i)) & m)`
pub from_word : (w m i : ℕ) → i < w → m < 2 ^ w → count_trailing_zeros w (bit_and (bit_or (left_bits w (2 ^ i)) (2 ^ i)) m) ≡ first_from w m i
from_word w m i l h =
    ap (λ (x : ℕ). count_trailing_zeros w (bit_and (bit_or x (2 ^ i)) m)) (left_of w i l ∙ high)
    ∙ ap (λ (x : ℕ). count_trailing_zeros w (bit_and x m)) (or_shifted (2 ^ (w - (i + 1)) - 1) (i + 1) (2 ^ i) (pow-lt (omega arith)) ∙ both)
    ∙ ap (count_trailing_zeros w) (and_comm (2 ^ w - 2 ^ i) m)
    ∙ first_word w m i (le_of_lt l) h
  where
    high : 2 ^ w - 2 ^ (i + 1) ≡ (2 ^ (w - (i + 1)) - 1) * 2 ^ (i + 1)
    high = ap (λ (x : ℕ). 2 ^ x - 2 ^ (i + 1)) (omega arith) ∙ high_ones (w - (i + 1)) (i + 1)

    both : (2 ^ (w - (i + 1)) - 1) * 2 ^ (i + 1) + 2 ^ i ≡ 2 ^ w - 2 ^ i
    both =
        let p : 2 ^ (i + 1) ≤ 2 ^ w = pow_mono (omega arith) in
        let t : 2 ^ (i + 1) ≡ 2 ^ i * 2 = pow-add 2 i 1 in
        ap (λ (x : ℕ). x + 2 ^ i) (sym high) ∙ omega arith

-- the first of all is the map's trailing zeros
pub first_all : (w m : ℕ) → first_from w m 0 ≡ count_trailing_zeros w m
unfolding first_from
first_all w m = ap₂ (λ (a b : ℕ). 0 + count_trailing_zeros a b) (sub-zero w) (div-one m) ∙ zero-add (count_trailing_zeros w m)

-- ---- the same, of a map that tells of bins

-- the test of one bit
pub marked_is : (w i m : ℕ) (P : ℕ → Bool) → Tells w P m → i < w → (bit i m == 1) ≡ P i
marked_is w i m P t l = ap (λ (x : ℕ). nat_eq x 1) (t i l) ∙ go (P i)
  where
    go : (b : Bool) → (tell b == 1) ≡ b
    go true = refl
    go false = refl

tell_inj : (a b : Bool) → tell a ≡ tell b → a ≡ b
tell_inj true true e = refl
tell_inj true false e = absurd (omega arith)
tell_inj false true e = absurd (omega arith)
tell_inj false false e = refl

-- its own bin or the next one up
pub own_bin : (w i m : ℕ) (P : ℕ → Bool) → Tells w P m → i + 1 < w → own_or_next w m i ≡ pick (P i) i (pick (P (i + 1)) (i + 1) w)
unfolding own_or_next
own_bin w i m P t l =
    ap₂ (λ (a b : Bool). pick a i (pick b (i + 1) w)) (marked_is w i m P t (omega arith)) (marked_is w (i + 1) m P t l)

-- the next filled bin is filled, and those passed over are empty
pub first_bin : (w m i : ℕ) (P : ℕ → Bool) → Tells w P m → i ≤ w → FirstBin w P i (first_from w m i)
first_bin w m i P t l =
    let f = first_is w m i l in
    let r : ℕ = first_from w m i in record {
      from = f.from;
      within = f.within;
      empty = λ j a b. tell_inj (P j) false (sym (t j (lt_of_lt_of_le b f.within)) ∙ f.gap j a b);
      filled = λ b. tell_inj (P r) true (sym (t r b) ∙ f.hit b);
    }

-- a mark that is there, a clear of what is clear
pub mark_idem : (i m : ℕ) → bit i m ≡ 1 → mark i m ≡ m
unfolding mark
mark_idem i m e = ap (λ (b : ℕ). m + (1 - b) * 2 ^ i) e ∙ omega arith

pub clear_idem : (i m : ℕ) → bit i m ≡ 0 → clear i m ≡ m
unfolding clear
clear_idem i m e = ap (λ (b : ℕ). m - b * 2 ^ i) e ∙ omega arith

-- the lowest set bit alone has it where the number has it
pub trailing_least : (w x : ℕ) → count_trailing_zeros w (least_bit w x) ≡ count_trailing_zeros w x
unfolding least_bit
trailing_least w x = go (dec_lt (count_trailing_zeros w x) w)
  where
    go : Dec (count_trailing_zeros w x < w) → count_trailing_zeros w (2 ^ count_trailing_zeros w x % 2 ^ w) ≡ count_trailing_zeros w x
    go (yes l) = ap (count_trailing_zeros w) (mod-eq_of_lt (pow-lt l)) ∙ trailing_pow w (count_trailing_zeros w x) l
    go (no f) =
        let e : count_trailing_zeros w x ≡ w = omega (arith, trailing_le w x) in
        ap (λ (t : ℕ). count_trailing_zeros w (2 ^ t % 2 ^ w)) e ∙ ap (count_trailing_zeros w) (mod_self (2 ^ w)) ∙ trailing_of_zero w ∙ sym e

-- ---- its own bin or the next one up: `b = m >> i`; where `b & 3` is not 0, `i + (!b & 1)`

pub two_bits : (i m : ℕ) → bit_and (m / 2 ^ i) 3 ≡ bit (i + 1) m * 2 + bit i m
two_bits i m = and_mask (m / 2 ^ i) 2 ∙ digits (m / 2 ^ i) ∙ ap (λ (x : ℕ). x * 2 + bit i m) (bit_shr 1 i m)
  where
    digits : (b : ℕ) → b % 4 ≡ b / 2 % 2 * 2 + b % 2
    digits b = omega arith

pub not_low_bit : (w i m : ℕ) → 0 < w → m < 2 ^ w → bit_and (2 ^ w - 1 - m / 2 ^ i) 1 ≡ 1 - bit i m
not_low_bit w i m p h =
    and_mask (2 ^ w - 1 - m / 2 ^ i) 1 ∙ sym (bit-zero (2 ^ w - 1 - m / 2 ^ i))
    ∙ bit_not w 0 (m / 2 ^ i) p (lt_of_le_of_lt (shr_le m i) h) ∙ ap (λ (x : ℕ). 1 - x) (bit-zero (m / 2 ^ i))

pub own_or_next_lem : (w m i : ℕ) → bit (i + 1) m * 2 + bit i m ≢ 0 → i + (1 - bit i m) ≡ own_or_next w m i
unfolding own_or_next
own_or_next_lem w m i = go (bit i m) (bit (i + 1) m) (omega arith) (omega arith)
  where
    go : (a b : ℕ) → a < 2 → b < 2 → b * 2 + a ≢ 0 → i + (1 - a) ≡ pick (a == 1) i (pick (b == 1) (i + 1) w)
    go zero zero ha hb f = absurd (f refl)
    go zero (suc zero) ha hb f = refl
    go zero (suc (suc b)) ha hb f = absurd (omega arith)
    go (suc zero) b ha hb f = omega arith
    go (suc (suc a)) b ha hb f = absurd (omega arith)

pub own_or_none : (w m i : ℕ) → bit (i + 1) m * 2 + bit i m ≡ 0 → own_or_next w m i ≡ w
unfolding own_or_next
own_or_none w m i e =
    let a : bit i m ≡ 0 = omega arith in
    let b : bit (i + 1) m ≡ 0 = omega arith in
    ap (λ (x : ℕ). pick (x == 1) i (pick (bit (i + 1) m == 1) (i + 1) w)) a ∙ ap (λ (x : ℕ). pick (x == 1) (i + 1) w) b

-- what it says that a place of a map was found, and that none was
pub place : (w x j : ℕ) → Some j ≡ in_map w x → (x ≡ j) × (x < w)
place w x j q =
    ⊎_elim
    (λ l. let e : Some j ≡ None = q ∙ rw (le-ltb x w l) refl in absurd (cc))
    (λ l. let e : Some j ≡ Some x = q ∙ rw (lt-ltb x w l) refl in ((cc), l))
    (le_or_lt w x)

pub no_place : (w x : ℕ) → None ≡ in_map w x → w ≤ x
no_place w x q = ⊎_elim (λ l. l) (λ l. let e : None ≡ Some x = q ∙ rw (lt-ltb x w l) refl in absurd (cc)) (le_or_lt w x)
