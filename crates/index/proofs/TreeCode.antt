-- `compute_tree_index`: that holding a size at 16,777,215 leaves its bin as it is, and that the leading zeros of `size | 256` and two bits
-- of the size tell the bin. For words of B bits. Assumes nothing.
use Rattle.std.proofs.Common.{◌≡◌, ℕ, zero, suc, ◌+◌, ◌-◌, ◌*◌, ◌/◌, ◌%◌, ◌^◌, ◌<◌, ◌≤◌, sym, refl, ap, ◌∙◌, subst, ap₂, ⊎_elim, le_trans, le_refl, lt_of_le_of_lt, mod-eq_of_lt, zero-lt-suc, div-lt_iff_lt-mul, pow-suc, le-div_iff_mul-le, zero-add, div-le_self, arith, pow_pos, pow_mono, pow-add, shr-shr}
use native.Mathlib.Nat.{mul-div-mul_right}
use lib.Pow.{pow-lt}
use lib.Bits.{bit_and, bit_or, or_lt, or_add_and, and_le_l, and_le_r, and_shr, and_comm}
use lib.Count.{count_leading_zeros, leading_top}
use Rattle.words.specs.Logic.{le_or_lt}
use Rattle.index.specs.Words.{pow_lt_cancel}
use Rattle.index.specs.TreeBin.{min_size, tree_index}
use Rattle.index.specs.TreeBinLaws.{tree_is, tree_rule, tree_small, tree_huge}

-- a size above 16,777,215 is in the bin of 16,777,215
pub tree_held : (s : ℕ) → 16777215 < s → tree_index s ≡ tree_index 16777215
unfolding min_size
tree_held s h =
    tree_huge s (omega arith)
    ∙ sym (tree_is (record { last = le_refl 31; low = λ z. omega arith; high = λ z. absurd (omega arith) }))

-- ---- two bits of a size, from k + 7 on

-- both of two bits are set in 3 alone
both_low : (q : ℕ) → q < 2 → bit_and q (q / 2) ≡ 0
both_low zero h = refl
both_low (suc zero) h = refl
both_low (suc (suc q)) h = absurd (omega arith)

both_high : (q : ℕ) → 2 ≤ q → q < 4 → bit_and q (q / 2) ≡ q % 2
both_high zero l h = absurd (omega arith)
both_high (suc zero) l h = absurd (omega arith)
both_high (suc (suc zero)) l h = refl
both_high (suc (suc (suc zero))) l h = refl
both_high (suc (suc (suc (suc q)))) l h = absurd (omega arith)

two_lt : (k s : ℕ) → s < 2 ^ (k + 9) → s / 2 ^ (k + 7) < 4
two_lt k s h = (div-lt_iff_lt-mul (pow_pos (k + 7))).1 (omega (arith, pow-add 2 k 9, pow-add 2 k 7))

-- a size from 256 on has its highest set bit at k + 8; below 256 k is 0
tree_two : (k s : ℕ) → k ≤ 15 → s < 2 ^ (k + 9) → (0 < k → 2 ^ (k + 8) ≤ s)
    → 2 * k + bit_and (s / 2 ^ (k + 7)) (s / 2 ^ (k + 7) / 2) ≡ tree_index s
tree_two k s l hi lo = ⊎_elim large small (le_or_lt 256 s)
  where
    low : (k : ℕ) → (0 < k → 2 ^ (k + 8) ≤ s) → 256 ≤ s → 2 ^ (k + 8) ≤ s
    low zero f g = g
    low (suc k) f g = f (zero-lt-suc k)

    none : (k : ℕ) → (0 < k → 2 ^ (k + 8) ≤ s) → s < 256 → k ≡ 0
    none zero f g = refl
    none (suc k) f g = absurd (omega (arith, f (zero-lt-suc k), pow-add 2 (suc k) 8, pow_pos (suc k)))

    large : 256 ≤ s → 2 * k + bit_and (s / 2 ^ (k + 7)) (s / 2 ^ (k + 7) / 2) ≡ tree_index s
    large g =
        let from : 2 ^ (k + 8) ≤ s = low k lo g in
        let q2 : 2 ≤ s / 2 ^ (k + 7) = (le-div_iff_mul-le (pow_pos (k + 7))).1 (omega (arith, pow-add 2 k 8, pow-add 2 k 7)) in
        ap (λ (x : ℕ). 2 * k + x) (both_high (s / 2 ^ (k + 7)) q2 (two_lt k s hi))
        ∙ sym (tree_rule k s l (omega (arith, pow-add 2 k 8)) (omega (arith, pow-add 2 k 9, pow-suc 2 k)))

    small : s < 256 → 2 * k + bit_and (s / 2 ^ (k + 7)) (s / 2 ^ (k + 7) / 2) ≡ tree_index s
    small g =
        let is : k ≡ 0 = none k lo g in
        ap (λ (x : ℕ). 2 * x + bit_and (s / 2 ^ (x + 7)) (s / 2 ^ (x + 7) / 2)) is
        ∙ zero-add (bit_and (s / 128) (s / 128 / 2)) ∙ both_low (s / 128) (omega arith) ∙ sym (tree_small s (omega arith))

-- `(s & (s << 1)) >> (k + 8)` is whether both are set
pairs_two : (k s : ℕ) → bit_and s (s * 2) / 2 ^ (k + 8) ≡ bit_and (s / 2 ^ (k + 7)) (s / 2 ^ (k + 7) / 2)
pairs_two k s =
    let next : k + 8 ≡ suc (k + 7) = omega arith in
    let up : 2 ^ (k + 8) ≡ 2 ^ (k + 7) * 2 = ap (λ (x : ℕ). 2 ^ x) next ∙ pow-suc 2 (k + 7) in
    let one : k + 8 ≡ k + 7 + 1 = omega arith in
    let low : s / 2 ^ (k + 8) ≡ s / 2 ^ (k + 7) / 2 = ap (λ (x : ℕ). s / 2 ^ x) one ∙ sym (shr-shr s (k + 7) 1) in
    let high : s * 2 / 2 ^ (k + 8) ≡ s / 2 ^ (k + 7) = ap (λ (x : ℕ). s * 2 / x) up ∙ mul-div-mul_right s (2 ^ (k + 7)) (zero-lt-suc 1) in
    and_shr s (s * 2) (k + 8) ∙ ap₂ bit_and low high ∙ and_comm (s / 2 ^ (k + 7) / 2) (s / 2 ^ (k + 7))

-- ---- what the code computes of a size up to 16,777,215, in words of B bits

-- whatever the two numbers are that such a size is masked with and shifted by, the steps stay below 2 ^ 32
pub and_fits : (s x n : ℕ) → s ≤ 16777215 → bit_and s x / n < 2 ^ 32
and_fits s x n h = lt_of_le_of_lt (le_trans (div-le_self (bit_and s x) n) (le_trans (and_le_l s x) h)) (omega arith)

pub sum_fits : (k s x n : ℕ) → s ≤ 16777215 → 2 * (55 - k) + bit_and s x / n < 2 ^ 32
sum_fits k s x n h =
    let few : bit_and s x / n ≤ 16777215 = le_trans (div-le_self (bit_and s x) n) (le_trans (and_le_l s x) h) in
    omega arith

abbrev place : ℕ → ℕ → ℕ
place B s = B - 9 - count_leading_zeros B (bit_or s 256)

abbrev half : ℕ → ℕ → ℕ
half B s = bit_and s (s * 2 % 2 ^ B) / 2 ^ (place B s + 8)

pub record TreeCode (B s : ℕ) : Type 0 where
  pub some : count_leading_zeros B (bit_or s 256) ≤ B - 9
  pub index : 2 * place B s + half B s ≡ tree_index s

pub tree_code : (B s : ℕ) → 25 ≤ B → s ≤ 16777215 → TreeCode B s
tree_code B s b h =
    let c : ℕ = bit_or s 256 in
    let p : 2 ^ 25 ≤ 2 ^ B = pow_mono b in
    let up : c < 2 ^ 24 = or_lt 24 s 256 (omega arith) (omega arith) in
    let from : 256 ≤ c = omega (arith, or_add_and s 256, and_le_l s 256) in
    let over : s ≤ c = omega (arith, or_add_and s 256, and_le_r s 256) in
    let t = leading_top B c (omega arith) (omega arith) in
    let j : ℕ = t.0 in
    let k : ℕ = place B s in
    let j8 : 8 < suc j = pow_lt_cancel {a = 8} {b = suc j} (lt_of_le_of_lt from t.3) in
    let j24 : j < 24 = pow_lt_cancel {a = j} {b = 24} (lt_of_le_of_lt t.2 up) in
    let is : k + 8 ≡ j = omega (arith, t.1) in
    let next : k + 9 ≡ suc j = omega arith in
    let hi : s < 2 ^ (k + 9) = subst (λ (x : ℕ). s < 2 ^ x) (sym next) (lt_of_le_of_lt over t.3) in
    let lo : 0 < k → 2 ^ (k + 8) ≤ s = λ z. subst (λ (x : ℕ). 2 ^ x ≤ s) (sym is) (top_kept j s (omega arith) t.2) in
    let exact : s * 2 % 2 ^ B ≡ s * 2 = mod-eq_of_lt (omega arith) in
    let two : half B s ≡ bit_and (s / 2 ^ (k + 7)) (s / 2 ^ (k + 7) / 2) =
    ap (λ (x : ℕ). bit_and s x / 2 ^ (k + 8)) exact ∙ pairs_two k s in
    record { some = omega (arith, t.1); index = ap (λ (x : ℕ). 2 * k + x) two ∙ tree_two k s (omega arith) hi lo }
  where
    -- above bit 8, the highest set bit of `s | 256` is that of s
    top_kept : (j s : ℕ) → 8 < j → 2 ^ j ≤ bit_or s 256 → 2 ^ j ≤ s
    top_kept j s g t =
        ⊎_elim (λ l. l) (λ l. absurd (omega (arith, or_lt j s 256 l (pow-lt g)))) (le_or_lt (2 ^ j) s)
