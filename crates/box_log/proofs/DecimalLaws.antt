-- READING AND WRITING A DECIMAL undo each other: a text is read as n, n at most 65,535, exactly when it is the decimal of n. By the fold:
-- the number so far stands for the digits so far, and one digit more is the last digit. Assumes nothing.
use Rattle.std.specs.Prelude.{true, ◌&&◌, List, [], ◌∷◌, ◌++◌, ◌⊎◌, ◌≡◌, refl, ℕ, zero, suc, ◌+◌, ◌-◌, ◌*◌, ◌/◌, ◌%◌, ◌^◌, ◌≤◌, ◌<◌, leb, ltb, length}
use Rattle.std.proofs.Common.{append-nil, append_assoc, inl, inr, ⊎_elim, sym, ap, ◌∙◌, pow-suc, arith, length-append, lt-ltb, le-ltb, le-leb, ne_eqb, ltb-true, ltb-false, leb-true}
use Rattle.words.specs.Logic.{pick, by, lt_or_le, same?, false-true}
use Rattle.box_log.specs.Decimals.{decimal_in, decimal, none, fresh, is_digit, grown, digit_read, number_from, number_of}

-- ---- the text

fuel : (j k n : ℕ) → n < j → n < k → decimal_in j n ≡ decimal_in k n
unfolding decimal_in
fuel zero k n p q = absurd (let z : ⊥ = omega arith in z)
fuel (suc j) zero n p q = absurd (let z : ⊥ = omega arith in z)
fuel (suc j) (suc k) n p q =
    by (λ b. pick b ((48 + n) ∷ []) (decimal_in j (n / 10) ++ ((48 + n % 10) ∷ [])) ≡ pick b ((48 + n) ∷ [])
    (decimal_in k (n / 10) ++ ((48 + n % 10) ∷ []))) (ltb n 10)
    (λ z. refl)
    (λ z. let h : 10 ≤ n = ltb-false n 10 z in ap (λ l. l ++ ((48 + n % 10) ∷ [])) (fuel j k (n / 10) (omega arith) (omega arith)))

pub decimal_digit : (n : ℕ) → n < 10 → decimal n ≡ (48 + n) ∷ []
unfolding decimal decimal_in
decimal_digit n p = rw (lt-ltb n 10 p) refl

pub decimal_more : (n : ℕ) → 10 ≤ n → decimal n ≡ decimal (n / 10) ++ ((48 + n % 10) ∷ [])
unfolding decimal decimal_in
decimal_more n p = rw (le-ltb n 10 p) (ap (λ l. l ++ ((48 + n % 10) ∷ [])) (fuel n (suc (n / 10)) (n / 10) (omega arith) (omega arith)))

-- a digit behind a number that is not 0
pub decimal-behind : (v d : ℕ) → 0 < v → d < 10 → decimal (v * 10 + d) ≡ decimal v ++ ((48 + d) ∷ [])
decimal-behind v d p q =
    let h : (v * 10 + d) / 10 ≡ v = omega arith in
    let m : (v * 10 + d) % 10 ≡ d = omega arith in
    decimal_more (v * 10 + d) (omega arith) ∙ rw (h, m) refl

-- by the digits: the shape of every proof on decimals
pub by_digits : (P : ℕ → List ℕ → Type 0) → ((n : ℕ) → n < 10 → P n ((48 + n) ∷ []))
    → ((n : ℕ) → 10 ≤ n → P (n / 10) (decimal (n / 10)) → P n (decimal (n / 10) ++ ((48 + n % 10) ∷ []))) → (n : ℕ) → P n (decimal n)
by_digits P f g n = go (suc n) n (omega arith)
  where
    go : (k n : ℕ) → n < k → P n (decimal n)
    go zero n p = absurd (let z : ⊥ = omega arith in z)
    go (suc k) n p = ⊎_elim
        (λ q. rw (decimal_digit n q) (f n q))
        (λ q. rw (decimal_more n q) (g n q (go k (n / 10) (omega arith))))
        (lt_or_le n 10)

-- ---- one byte

read_none : (b : ℕ) → digit_read none b ≡ none
unfolding digit_read grown
read_none b = by (λ t. pick t (pick (ltb (none * 10 + (b - 48)) none) (none * 10 + (b - 48)) none) none ≡ none) (is_digit b)
    (λ z. rw (le-ltb (none * 10 + (b - 48)) none (omega arith)) refl) (λ z. refl)

digit_yes : (b : ℕ) → 48 ≤ b → b ≤ 57 → is_digit b ≡ true
digit_yes b p q = rw (le-leb 48 b p, le-leb b 57 q) refl

pub digit_is : (b : ℕ) → is_digit b ≡ true → (48 ≤ b) × (b ≤ 57)
digit_is b q = by (λ t. t && leb b 57 ≡ true → (48 ≤ b) × (b ≤ 57)) (leb 48 b)
    (λ z r. (leb-true 48 b z, leb-true b 57 r)) (λ z r. false-true r) q

-- ---- the text is read as its number

pub number_append : (s : ℕ) (xs ys : List ℕ) → number_from s (xs ++ ys) ≡ number_from (number_from s xs) ys
unfolding number_from
number_append s [] ys = refl
number_append s (x ∷ xs) ys = number_append (digit_read s x) xs ys

read_first : (d : ℕ) → d < 10 → digit_read fresh (48 + d) ≡ d
unfolding digit_read grown
read_first d p =
    let h : 48 + d - 48 ≡ d = omega arith in
    rw (digit_yes (48 + d) (omega arith) (omega arith), h) refl

read_behind : (v d : ℕ) → 0 < v → d < 10 → v * 10 + d < none → digit_read v (48 + d) ≡ v * 10 + d
unfolding digit_read grown
read_behind v d p q r =
    let h : 48 + d - 48 ≡ d = omega arith in
    rw (
      digit_yes (48 + d) (omega arith) (omega arith),
      h,
      ne_eqb v fresh (λ z. omega arith),
      ne_eqb v 0 (λ z. omega arith),
      lt-ltb (v * 10 + d) none r,
    ) refl

pub number_of_decimal : (n : ℕ) → n ≤ 65535 → number_of (decimal n) ≡ n
unfolding number_of number_from
number_of_decimal n = by_digits (λ n l. n ≤ 65535 → number_from fresh l ≡ n)
    (λ n p q. read_first n p)
    (λ n p h q.
    let e : n / 10 * 10 + n % 10 ≡ n = omega arith in
    number_append fresh (decimal (n / 10)) ((48 + n % 10) ∷ [])
    ∙ ap (λ v. digit_read v (48 + n % 10)) (h (omega arith))
    ∙ read_behind (n / 10) (n % 10) (omega arith) (omega arith) (omega arith) ∙ e)
    n

-- ---- and no other text is

-- a byte behind a number that is not 0 makes none of it, or is a digit
read_next : (v b : ℕ) → 0 < v → v < none → (digit_read v b ≡ none) ⊎
    ((48 ≤ b) × (b ≤ 57) × (digit_read v b ≡ v * 10 + (b - 48)) × (v * 10 + (b - 48) < none))
unfolding digit_read grown
read_next v b p q =
    by (λ t. is_digit b ≡ t → (pick t (grown v (b - 48)) none ≡ none) ⊎
    ((48 ≤ b) × (b ≤ 57) × (pick t (grown v (b - 48)) none ≡ v * 10 + (b - 48)) × (v * 10 + (b - 48) < none)))
    (is_digit b)
    (λ z w. rw (ne_eqb v fresh (λ y. omega arith), ne_eqb v 0 (λ y. omega arith))
    (by (λ t. (pick t (v * 10 + (b - 48)) none ≡ none) ⊎
    ((48 ≤ b) × (b ≤ 57) × (pick t (v * 10 + (b - 48)) none ≡ v * 10 + (b - 48)) × (v * 10 + (b - 48) < none)))
    (ltb (v * 10 + (b - 48)) none)
    (λ y. inr ((digit_is b z).0, (digit_is b z).1, refl, ltb-true (v * 10 + (b - 48)) none y))
    (λ y. inl refl)))
    (λ z w. inl refl) refl

-- nothing, or a digit
read_start : (b : ℕ) → (digit_read fresh b ≡ none) ⊎ ((48 ≤ b) × (b ≤ 57) × (digit_read fresh b ≡ b - 48))
unfolding digit_read grown
read_start b =
    by (λ t. (pick t (b - 48) none ≡ none) ⊎ ((48 ≤ b) × (b ≤ 57) × (pick t (b - 48) none ≡ b - 48))) (is_digit b)
    (λ z. inr ((digit_is b z).0, (digit_is b z).1, refl)) (λ z. inl refl)

read_zero : (b : ℕ) → digit_read 0 b ≡ none
unfolding digit_read grown
read_zero b = by (λ t. pick t none none ≡ none) (is_digit b) (λ z. refl) (λ z. refl)

pub from_none : (bs : List ℕ) → number_from none bs ≡ none
unfolding number_from
from_none [] = refl
from_none (b ∷ bs) = rw (read_none b) (from_none bs)

never_none : {A : Type 0} (bs : List ℕ) {s : ℕ} (n : ℕ) → s ≡ none → number_from s bs ≡ n → n ≤ 65535 → A
never_none bs n q e p =
    let z : none ≡ n = sym (from_none bs) ∙ ap (λ k. number_from k bs) (sym q) ∙ e in
    absurd (let w : ⊥ = omega arith in w)

behind : (ds : List ℕ) (v n : ℕ) → 0 < v → v < none → number_from v ds ≡ n → n ≤ 65535 → decimal v ++ ds ≡ decimal n
unfolding number_from
behind [] v n p q e r = append-nil (decimal v) ∙ ap decimal e
behind (b ∷ bs) v n p q e r = ⊎_elim
    (λ z. never_none bs n z e r)
    (λ z.
    let d : b - 48 < 10 = omega (arith, z.1) in
    let y : 48 + (b - 48) ≡ b = omega (arith, z.0) in
    let e' : number_from (v * 10 + (b - 48)) bs ≡ n = ap (λ k. number_from k bs) (sym z.2) ∙ e in
    let h : decimal (v * 10 + (b - 48)) ≡ decimal v ++ (b ∷ []) = decimal-behind v (b - 48) p d ∙ ap (λ k. decimal v ++ (k ∷ [])) y in
    sym (append_assoc (decimal v) (b ∷ []) bs) ∙ ap (λ l. l ++ bs) (sym h) ∙ behind bs (v * 10 + (b - 48)) n (omega arith) z.3 e' r)
    (read_next v b p q)

after-zero : (bs : List ℕ) (n : ℕ) → number_from 0 bs ≡ n → n ≤ 65535 → bs ≡ [] × (n ≡ 0)
unfolding number_from
after-zero [] n e r = (refl, sym e)
after-zero (b ∷ bs) n e r = never_none bs n (read_zero b) e r

pub decimal_of_number : (ds : List ℕ) (n : ℕ) → number_of ds ≡ n → n ≤ 65535 → ds ≡ decimal n
unfolding number_of number_from
decimal_of_number [] n e r = absurd (let z : ⊥ = omega (arith, e) in z)
decimal_of_number (b ∷ bs) n e r = ⊎_elim
    (λ z. never_none bs n z e r)
    (λ z.
    let e' : number_from (b - 48) bs ≡ n = ap (λ k. number_from k bs) (sym z.2) ∙ e in
    let y : 48 + (b - 48) ≡ b = omega (arith, z.0) in
    let h : decimal (b - 48) ≡ b ∷ [] = decimal_digit (b - 48) (omega (arith, z.1)) ∙ ap (λ k. k ∷ []) y in
    ⊎_elim
    (λ o.
    let w : number_from 0 bs ≡ n = ap (λ k. number_from k bs) (sym o) ∙ e' in
    ap (λ l. b ∷ l) (after-zero bs n w r).0 ∙ sym h ∙ ap decimal (o ∙ sym (after-zero bs n w r).1))
    (λ o. ap (λ l. l ++ bs) (sym h) ∙ behind bs (b - 48) n (pos (b - 48) o) (omega (arith, z.1)) e' r)
    (same? (b - 48) 0))
    (read_start b)
  where
    pos : (k : ℕ) → (k ≡ 0 → ⊥) → 0 < k
    pos zero f = absurd (f refl)
    pos (suc k) f = omega arith

-- ---- how long the text is

longer : (n b k : ℕ) → n < 10 * b → ((m : ℕ) → m < b → length (decimal m) ≤ k) → 1 ≤ k → length (decimal n) ≤ suc k
longer n b k p h o = ⊎_elim
    (λ q. rw (decimal_digit n q) (omega arith))
    (λ q. rw (decimal_more n q, length-append (decimal (n / 10)) ((48 + n % 10) ∷ [])) (let z : length (decimal (n / 10)) ≤ k =
    h (n / 10) (omega arith) in omega (arith, z)))
    (lt_or_le n 10)

one : (n : ℕ) → n < 10 → length (decimal n) ≤ 1
one n p = rw (decimal_digit n p) (omega arith)

pub decimal_five : (n : ℕ) → n ≤ 65535 → length (decimal n) ≤ 5
decimal_five n p =
    longer n 10000 4 (omega arith) (λ m q. longer m 1000 3 q
    (λ m q. longer m 100 2 q (λ m q. longer m 10 1 q one (omega arith)) (omega arith)) (omega arith)) (omega arith)

-- a number of 64 bits: one digit more each time
digits : (k : ℕ) → (n : ℕ) → n < 10 ^ suc k → length (decimal n) ≤ suc k
digits zero n p = one n (omega arith)
digits (suc k) n p = longer n (10 ^ suc k) (suc k) (let e : 10 ^ suc (suc k) ≡ 10 ^ suc k * 10 = pow-suc 10 (suc k) in omega (arith, e))
    (digits k) (omega arith)

pub decimal_twenty : (n : ℕ) → n < 2 ^ 64 → length (decimal n) ≤ 20
decimal_twenty n p = digits 19 n (omega arith)
