-- What the operators of a machine word of w bits give, as plain arithmetic: `1 << i` is a power of two, `m & !a` takes from m what it shares with
-- a, `y & -y` is the lowest set bit of y, and `y | -y` that bit and all above it. Stated once, over the width w, so that the code at any
-- width cites the same law. Assumes nothing.
use Rattle.std.specs.Prelude.{◌≡◌, ℕ, zero, suc, ◌+◌, ◌-◌, ◌*◌, ◌/◌, ◌%◌, ◌^◌, ◌<◌, ◌≤◌, min, bit_and, bit_or, refl}
use Rattle.std.proofs.Common.{sym, ap, ap₂, ◌∙◌, subst, mod-eq_of_lt, mod-lt, pow-suc, one-mul, lt_of_le_of_lt, div-add-mod', lt_of_not-le, not-le_of_lt, one-add, arith, pow_mono, shl_exact, lit<}
use Rattle.std.proofs.Math.Nat.{mod_self, sub-zero, min-le_left}
use Rattle.std.proofs.Math.Arith.{lt-one}
use Rattle.std.proofs.Math.Pow.{pow-sub-lt}
use Rattle.std.specs.Int.Bits.{and_step, or_add_and, and_self}
use Rattle.std.proofs.lemmas.Nat.{and_le_l, and_mask}
use Rattle.std.proofs.lemmas.Nat.Bits.{and_high}
use Rattle.std.specs.Int.Count.{count_trailing_zeros, trailing_of_zero}
use Rattle.index.specs.Bit.{bit}
use Rattle.index.specs.Digits.{half_lt, not_half, not_low, trailing_even, trailing_odd}

-- of two powers, the smaller has the smaller exponent
pub pow_lt_cancel : {a b : ℕ} → 2 ^ a < 2 ^ b → a < b
pow_lt_cancel h = lt_of_not-le (λ g. not-le_of_lt h (pow_mono g))

-- ---- `1 << i`

pub one_shl : (w i : ℕ) → i < w → (1 * 2 ^ i) % 2 ^ w ≡ 2 ^ i
one_shl w i h = shl_exact {a = 1} 1 i w (lit< tt) (omega arith) ∙ one-mul (2 ^ i)

-- the number of bits modulo the width
pub one_shl_mod : (w i : ℕ) → 0 < w → (1 * 2 ^ (i % w)) % 2 ^ w ≡ 2 ^ (i % w)
one_shl_mod w i p = one_shl w (i % w) (mod-lt i p)

-- ---- `m & !a` takes from m what it shares with a

and_not_digit : (m a : ℕ) → min (m % 2) (1 - a % 2) ≡ m % 2 - min (m % 2) (a % 2)
and_not_digit m a = omega arith

less : (q r x c : ℕ) → x ≤ q → c ≤ r → (q - x) * 2 + (r - c) ≡ (q * 2 + r) - (x * 2 + c)
less q r x c hx hc = omega arith

pub and_not : (w m a : ℕ) → m < 2 ^ w → a < 2 ^ w → bit_and m (2 ^ w - 1 - a) ≡ m - bit_and m a
and_not zero m a hm ha = ap (λ (x : ℕ). bit_and x (2 ^ 0 - 1 - a)) (lt-one hm) ∙ sym (ap (λ (x : ℕ). x - bit_and x a) (lt-one hm))
and_not (suc w) m a hm ha =
    let n : ℕ = 2 ^ suc w - 1 - a in
    let rest : bit_and (m / 2) (n / 2) ≡ m / 2 - bit_and (m / 2) (a / 2) =
    ap (bit_and (m / 2)) (not_half w a ha) ∙ and_not w (m / 2) (a / 2) (half_lt w hm) (half_lt w ha) in
    let digit : min (m % 2) (n % 2) ≡ m % 2 - min (m % 2) (a % 2) = ap (min (m % 2)) (not_low w a ha) ∙ and_not_digit m a in
    and_step m n ∙ ap₂ (λ (x c : ℕ). x * 2 + c) rest digit
    ∙ less (m / 2) (m % 2) (bit_and (m / 2) (a / 2)) (min (m % 2) (a % 2)) (and_le_l (m / 2) (a / 2)) (min-le_left (m % 2) (a % 2))
    ∙ ap₂ ◌-◌ (div-add-mod' m 2) (sym (and_step m a))

-- ---- `y & -y` is y's lowest set bit, and `y | -y` is that bit and all above it. `-y` is `!y` and one, wrapped

-- the machine's way to -y
pub neg_word : (w y : ℕ) → y < 2 ^ w → (2 ^ w - 1 - y + 1) % 2 ^ w ≡ (2 ^ w - y) % 2 ^ w
neg_word w y h = ap (λ (x : ℕ). x % 2 ^ w) (omega arith)

and_neg_pos : (w y : ℕ) → 0 < y → y < 2 ^ w → bit_and y (2 ^ w - y) ≡ 2 ^ count_trailing_zeros w y
and_neg_pos zero y p h = absurd (omega arith)
and_neg_pos (suc w) y p h = go (and_neg_pos w (y / 2)) (y % 2) refl
  where
    go : (0 < y / 2 → y / 2 < 2 ^ w → bit_and (y / 2) (2 ^ w - y / 2) ≡ 2 ^ count_trailing_zeros w (y / 2))
        → (d : ℕ) → y % 2 ≡ d → bit_and y (2 ^ suc w - y) ≡ 2 ^ count_trailing_zeros (suc w) y
    go rest zero e =
        let z : ℕ = 2 ^ suc w - y in
        let half : z / 2 ≡ 2 ^ w - y / 2 = omega (arith, pow-suc 2 w) in
        let low : min (y % 2) (z % 2) ≡ 0 = omega arith in
        let ih : bit_and (y / 2) (z / 2) ≡ 2 ^ count_trailing_zeros w (y / 2) =
        ap (bit_and (y / 2)) half ∙ rest (omega arith) (half_lt w h) in
        and_step y z ∙ ap₂ (λ (x c : ℕ). x * 2 + c) ih low ∙ omega (arith, pow-suc 2 (count_trailing_zeros w (y / 2)))
        ∙ sym (ap (λ (x : ℕ). 2 ^ x) (trailing_even w y e))
    go rest (suc d) e =
        let odd : y % 2 ≡ 1 = omega arith in
        let z : ℕ = 2 ^ suc w - y in
        let half : z / 2 ≡ 2 ^ w - 1 - y / 2 = omega (arith, pow-suc 2 w) in
        let low : min (y % 2) (z % 2) ≡ 1 = omega (arith, pow-suc 2 w) in
        let none : bit_and (y / 2) (z / 2) ≡ 0 =
        ap (bit_and (y / 2)) half ∙ and_not w (y / 2) (y / 2) (half_lt w h) (half_lt w h) ∙ omega (arith, and_self (y / 2)) in
        and_step y z ∙ ap₂ (λ (x c : ℕ). x * 2 + c) none low ∙ sym (ap (λ (x : ℕ). 2 ^ x) (trailing_odd w y odd))

pub and_neg : (w y : ℕ) → y < 2 ^ w → bit_and y ((2 ^ w - y) % 2 ^ w) ≡ 2 ^ count_trailing_zeros w y % 2 ^ w
and_neg w zero h = sym (ap (λ (x : ℕ). 2 ^ x % 2 ^ w) (trailing_of_zero w) ∙ mod_self (2 ^ w))
and_neg w (suc y) h =
    let p : 0 < suc y = omega arith in
    let e = and_neg_pos w (suc y) p h in
    ap (bit_and (suc y)) (mod-eq_of_lt (pow-sub-lt w p)) ∙ e
    ∙ sym (mod-eq_of_lt (subst (λ (x : ℕ). x < 2 ^ w) e (lt_of_le_of_lt (and_le_l (suc y) (2 ^ w - suc y)) h)))

pub or_neg : (w y : ℕ) → y < 2 ^ w → bit_or y ((2 ^ w - y) % 2 ^ w) ≡ 2 ^ w - 2 ^ count_trailing_zeros w y
or_neg w zero h = mod_eq ∙ sym (ap (λ (x : ℕ). 2 ^ w - 2 ^ x) (trailing_of_zero w) ∙ omega arith)
  where
    mod_eq : (2 ^ w - 0) % 2 ^ w ≡ 0
    mod_eq = ap (λ (x : ℕ). x % 2 ^ w) (sub-zero (2 ^ w)) ∙ mod_self (2 ^ w)
or_neg w (suc y) h =
    let p : 0 < suc y = omega arith in
    ap (bit_or (suc y)) (mod-eq_of_lt (pow-sub-lt w p))
    ∙ omega (arith, or_add_and (suc y) (2 ^ w - suc y), and_neg_pos w (suc y) p h)

-- ---- one bit

pub and_one : (x : ℕ) → bit_and x 1 ≡ x % 2
and_one x = and_mask x 1

pub and_pow : (i m : ℕ) → bit_and m (2 ^ i) ≡ bit i m * 2 ^ i
and_pow i m = ap (bit_and m) (omega (arith, pow-suc 2 i) ∙ ap (λ (x : ℕ). 2 ^ x - 2 ^ i) (sym (one-add i))) ∙ and_high m 1 i
