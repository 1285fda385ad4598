-- The laws of `Sizes`. Rounding up gives the least multiple that is large enough; so the need of a request is the least multiple of two words
-- that is four words or more and holds the request and one word. In terms of plain arithmetic, for every word size W that is not 0 (here 8,
-- and 4 in the other edition), and for the code over the w bits of a machine word, with sums that wrap. Assumes nothing.
use Rattle.std.specs.Prelude.{◌≡◌, ℕ, suc, ◌+◌, ◌-◌, ◌*◌, ◌/◌, ◌%◌, ◌^◌, ◌<◌, ◌≤◌, true, List, [], ◌∷◌, bit_and, nat_lt, refl}
use Rattle.std.proofs.Common.{sym, ap, ◌∙◌, div-mul-le_self, div-lt_iff_lt-mul, suc-mul, mul-le-mul_right, le_of_suc-le-suc, le_trans, div-add-mod', le_antisymm, add-zero, mul_comm, mul_left_comm, le-div_iff_mul-le, mod-eq_of_lt, lt_of_mul-lt-mul_right, arith, ltb-true, ltb-false, pow_pos}
use Rattle.std.proofs.Math.Nat.{lt-div-mul-add, mul-mod_left, mod-eq-sub-mod, mod-mod, mod-add-mod}
use Rattle.std.proofs.Math.Pow.{field}
use Rattle.std.proofs.lemmas.Nat.{mod-pow-add, shl-shr}
use Rattle.std.proofs.lemmas.Nat.Bits.{and_high}
use Rattle.words.specs.Logic.{pick_case}
use Rattle.index.specs.Sizes.{round_up, need, need_words}
use Rattle.index.specs.Table.{right}

-- ---- rounding up to a multiple of a

pub round_ge : (a n : ℕ) → 0 < a → n ≤ round_up a n
unfolding round_up
round_ge a n p = omega (arith, lt-div-mul-add {a = n + (a - 1)} p)

pub round_lt : (a n : ℕ) → 0 < a → round_up a n < n + a
unfolding round_up
round_lt a n p = omega (arith, div-mul-le_self (n + (a - 1)) a)

pub round_mult : (a n : ℕ) → round_up a n % a ≡ 0
unfolding round_up
round_mult a n = mul-mod_left ((n + (a - 1)) / a) a

-- no smaller multiple will do
pub round_least : (a n m : ℕ) → 0 < a → m % a ≡ 0 → n ≤ m → round_up a n ≤ m
unfolding round_up
round_least a n m p d h =
    let e : m / a * a ≡ m = omega (arith, div-add-mod' m a) in
    let q : (n + (a - 1)) / a < suc (m / a) = (div-lt_iff_lt-mul p).1 (omega (arith, suc-mul (m / a) a)) in
    le_trans (mul-le-mul_right a (le_of_suc-le-suc q)) (omega arith)

-- two multiples of a, less than a apart
pub mult_step : (a m n : ℕ) → m % a ≡ 0 → n % a ≡ 0 → n < m + a → n ≤ m
mult_step a m n dm dn h =
    let em : m / a * a ≡ m = omega (arith, div-add-mod' m a) in
    let en : n / a * a ≡ n = omega (arith, div-add-mod' n a) in
    let q : n / a < suc (m / a) = lt_of_mul-lt-mul_right a (omega (arith, suc-mul (m / a) a)) in
    le_trans (omega arith) (le_trans (mul-le-mul_right a (le_of_suc-le-suc q)) (omega arith))

pub round_exact : (a n : ℕ) → 0 < a → n % a ≡ 0 → round_up a n ≡ n
round_exact a n p d = le_antisymm (round_least a n n p d (omega arith)) (round_ge a n p)

-- ---- the code's way to round up, in words of w bits: `x & !(a - 1)` for a = 2 ^ k, where x is n + (a - 1), wrapped

-- the mask takes the k low digits away, and the multiple that is left wraps as x did
mask_word : (j k x : ℕ) → bit_and (x % 2 ^ (j + k)) (2 ^ (j + k) - 2 ^ k) ≡ x / 2 ^ k * 2 ^ k % 2 ^ (j + k)
mask_word j k x =
    let q : ℕ = x / 2 ^ k in
    let kept : bit_and (x % 2 ^ (j + k)) (2 ^ (j + k) - 2 ^ k) ≡ q % 2 ^ j * 2 ^ k =
    and_high (x % 2 ^ (j + k)) j k ∙ ap (λ (y : ℕ). y % 2 ^ j * 2 ^ k) (field x j k) ∙ ap (λ (y : ℕ). y * 2 ^ k) (mod-mod q (2 ^ j)) in
    let wrapped : q * 2 ^ k % 2 ^ (j + k) ≡ q % 2 ^ j * 2 ^ k =
    mod-pow-add (q * 2 ^ k) j k ∙ ap (λ (y : ℕ). y % 2 ^ j * 2 ^ k + q * 2 ^ k % 2 ^ k) (shl-shr q k) ∙ omega (arith, mul-mod_left q (2 ^ k)) in
    kept ∙ sym wrapped

pub round_word : (w k n : ℕ) → k ≤ w → bit_and ((n + (2 ^ k - 1)) % 2 ^ w) (2 ^ w - 1 - (2 ^ k - 1)) ≡ round_up (2 ^ k) n % 2 ^ w
unfolding round_up
round_word w k n l =
    let e : w - k + k ≡ w = omega arith in
    let mask : 2 ^ w - 1 - (2 ^ k - 1) ≡ 2 ^ w - 2 ^ k = omega (arith, pow_pos k) in
    ap (bit_and ((n + (2 ^ k - 1)) % 2 ^ w)) mask ∙ (rw e at (mask_word (w - k) k (n + (2 ^ k - 1))))

-- the same where the alignment is some power of two, as a contract has it
pub round_code : (w al a k : ℕ) → k < w → al ≡ 2 ^ k → bit_and ((a + (al - 1)) % 2 ^ w) (2 ^ w - 1 - (al - 1)) ≡ round_up al a % 2 ^ w
round_code w al a k l e = rw e (round_word w k a (omega arith))

-- a number that wrapped rounds up to what the number itself does, wrapped
pub round_wrap : (w k n : ℕ) → k ≤ w → round_up (2 ^ k) (n % 2 ^ w) % 2 ^ w ≡ round_up (2 ^ k) n % 2 ^ w
round_wrap w k n l =
    sym (round_word w k (n % 2 ^ w) l)
    ∙ ap (λ (x : ℕ). bit_and x (2 ^ w - 1 - (2 ^ k - 1))) (mod-add-mod n (2 ^ w) (2 ^ k - 1))
    ∙ round_word w k n l

-- ---- the need of a request

-- by cases on the request
need_cases : (W req : ℕ) (P : ℕ → Type 0) → (req < 3 * W - 1 → P (4 * W)) → (3 * W - 1 ≤ req → P (round_up (2 * W) (req + W))) → P (need W req)
unfolding need
need_cases W req P small large =
    pick_case P (nat_lt req (3 * W - 1)) (λ q. small (ltb-true req (3 * W - 1) q)) (λ q. large (ltb-false req (3 * W - 1) q))

four_mult : (W : ℕ) → 4 * W % (2 * W) ≡ 0
four_mult W = ap (λ (x : ℕ). x % (2 * W)) (omega arith) ∙ mul-mod_left 2 (2 * W)

-- it holds the request and a word
pub need_holds : (W req : ℕ) → 0 < W → req + W ≤ need W req
need_holds W req p = need_cases W req (λ n. req + W ≤ n) (λ l. omega arith) (λ l. round_ge (2 * W) (req + W) (omega arith))

-- it is four words or more
pub need_least_chunk : (W req : ℕ) → 0 < W → 4 * W ≤ need W req
need_least_chunk W req p = need_cases W req (λ n. 4 * W ≤ n) (λ l. omega arith) large
  where
    large : 3 * W - 1 ≤ req → 4 * W ≤ round_up (2 * W) (req + W)
    large l =
        let g : req + W ≤ round_up (2 * W) (req + W) = round_ge (2 * W) (req + W) (omega arith) in
        mult_step (2 * W) (round_up (2 * W) (req + W)) (4 * W) (round_mult (2 * W) (req + W)) (four_mult W) (omega arith)

-- it is a multiple of two words
pub need_mult : (W req : ℕ) → need W req % (2 * W) ≡ 0
need_mult W req = need_cases W req (λ n. n % (2 * W) ≡ 0) (λ l. four_mult W) (λ l. round_mult (2 * W) (req + W))

-- and no smaller number is all three
pub need_least : (W req m : ℕ) → 0 < W → m % (2 * W) ≡ 0 → 4 * W ≤ m → req + W ≤ m → need W req ≤ m
need_least W req m p d a b = need_cases W req (λ n. n ≤ m) (λ l. a) (λ l. round_least (2 * W) (req + W) m (omega arith) d b)

-- above one word, less than three words are added; a request from 3 * W - 1 on is one
pub need_lt : (W req : ℕ) → 0 < W → W < req → need W req < req + 3 * W
need_lt W req p h =
    need_cases W req (λ n. n < req + 3 * W) (λ l. omega arith) (λ l. omega (arith, round_lt (2 * W) (req + W) (omega arith)))

-- of any request, at most four
pub need_le : (W req : ℕ) → 0 < W → need W req ≤ req + 4 * W
need_le W req p =
    need_cases W req (λ n. n ≤ req + 4 * W) (λ l. omega arith) (λ l. omega (arith, round_lt (2 * W) (req + W) (omega arith)))

-- so the need of a request that is four words below the end of the words of w bits does not wrap
pub need-word : (W w req : ℕ) → 0 < W → req + 4 * W < 2 ^ w → need W req % 2 ^ w ≡ need W req
need-word W w req p h = mod-eq_of_lt (omega (arith, need_le W req p))

-- a larger request needs no less
pub need_mono : (W q r : ℕ) → 0 < W → q ≤ r → need W q ≤ need W r
need_mono W q r p h =
    need_least W q (need W r) p (need_mult W r) (need_least_chunk W r p) (omega (arith, need_holds W r p))

-- a chunk of the need is small exactly for a request of at most 256 bytes less 3 words
pub need_small : (W req : ℕ) → 0 < W → 6 * W ≤ 256 → 256 % (2 * W) ≡ 0 → req ≤ 256 - 3 * W → need W req < 256
need_small W req p q d h =
    let m : need W req ≤ 256 - 2 * W =
    need_least W req (256 - 2 * W) p (sym (mod-eq-sub-mod (omega arith)) ∙ d) (omega arith) (omega arith) in
    omega arith

pub need_large : (W req : ℕ) → 0 < W → 256 % (2 * W) ≡ 0 → 256 - 3 * W < req → 256 ≤ need W req
need_large W req p d h = mult_step (2 * W) (need W req) 256 (need_mult W req) d (omega (arith, need_holds W req p))

-- ---- in words: an even number, 4 or more

pub need_words_lem : (W req : ℕ) → need W req ≡ W * need_words W req
unfolding need_words
need_words_lem W req =
    sym (div-add-mod' (need W req) (2 * W)) ∙ ap (λ (x : ℕ). need W req / (2 * W) * (2 * W) + x) (need_mult W req)
    ∙ swap (need W req / (2 * W)) W
  where
    swap : (q w : ℕ) → q * (2 * w) + 0 ≡ w * (2 * q)
    swap q w = simp (add-zero, mul_comm, mul_left_comm)

pub need_words_even : (W req : ℕ) → need_words W req % 2 ≡ 0
unfolding need_words
need_words_even W req = omega arith

pub need_words_least : (W req : ℕ) → 0 < W → 4 ≤ need_words W req
unfolding need_words
need_words_least W req p =
    let two : 0 < 2 * W = omega arith in
    let q : 2 ≤ need W req / (2 * W) = (le-div_iff_mul-le two).1 (omega (arith, need_least_chunk W req p)) in
    omega arith

-- ---- the document's requests: (request, size), for words of 8 bytes; and the same places of the rule for words of 4

unfoldable pub needs8 : List (ℕ × ℕ)
needs8 = (0, 32) ∷ (22, 32) ∷ (23, 32) ∷ (24, 32) ∷ (25, 48) ∷ (232, 240) ∷ (233, 256) ∷ (920, 928) ∷ (921, 944) ∷ []

unfoldable pub needs4 : List (ℕ × ℕ)
needs4 = (0, 16) ∷ (10, 16) ∷ (11, 16) ∷ (12, 16) ∷ (13, 24) ∷ (244, 248) ∷ (245, 256) ∷ []

pub needs8_right : right (need 8) needs8 ≡ true
unfolding need round_up needs8 right
needs8_right = refl

pub needs4_right : right (need 4) needs4 ≡ true
unfolding need round_up needs4 right
needs4_right = refl
