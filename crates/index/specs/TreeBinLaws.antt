-- The laws of `TreeBin`: an index is its range of sizes, and a larger size has no smaller index; it is told by the highest set bit of
-- size / 256 and the bit below it; the way down a tree reads the digits of a size one after the other. In plain arithmetic, for every number B
-- of bits of a word. The six sizes of the document stand in one table that is computed. Assumes nothing.
use Rattle.std.specs.Prelude.{◌≡◌, ℕ, zero, suc, ◌+◌, ◌-◌, ◌*◌, ◌/◌, ◌%◌, ◌^◌, ◌<◌, ◌≤◌, Bool, true, ◌≢◌, ◌↔◌, List, [], ◌∷◌, ◌==◌, bit_and, bit_or, nat_le, refl}
use Rattle.std.proofs.Common.{sym, ap, ap₂, ◌∙◌, subst, ⊎_elim, zero-le, one-mul, add-mul, le_of_eq, suc-mul, add-suc, le_trans, le_refl, not-suc-le-zero, le_antisymm, pow-suc, div-mul-le_self, div-lt_iff_lt-mul, le-div_iff_mul-le, mul_assoc, mul-lt-mul_of_pos_right, arith, leb-true, leb-false, ne_eqb, pow_pos, pow-add, shl_lt, shl_exact}
use Rattle.std.proofs.Math.Nat.{lt-div-mul-add, add-mod, mul-mod_left, mul-div-mul_right}
use Rattle.std.proofs.Math.Decide.{le_ind, ℕ_discrete}
use Rattle.std.proofs.Math.Pow.{field}
use Rattle.std.proofs.lemmas.Nat.{or_shifted}
use Rattle.words.specs.Logic.{pick, pick_case, le_or_lt}
use Rattle.index.specs.Bit.{bit}
use Rattle.index.specs.Words.{one_shl, and_one}
use Rattle.index.specs.Table.{right}
use Rattle.index.specs.TreeBin.{min_size, reach, tree_index, InBin, left_shift, key_at, side}

-- ---- the largest index that a size reaches

-- by cases on the last threshold
reach_step : (f : ℕ → ℕ) (n x : ℕ) (P : ℕ → Type 0) → (f (suc n) ≤ x → P (suc n)) → (x < f (suc n) → P (reach f n x)) → P (reach f (suc n) x)
unfolding reach
reach_step f n x P at below =
    pick_case P (nat_le (f (suc n)) x) (λ q. at (leb-true (f (suc n)) x q)) (λ q. below (leb-false (f (suc n)) x q))

reach_le : (f : ℕ → ℕ) (n x : ℕ) → reach f n x ≤ n
unfolding reach
reach_le f zero x = zero-le
reach_le f (suc n) x =
    let ih : reach f n x ≤ n = reach_le f n x in
    reach_step f n x (λ r. r ≤ suc n) (λ l. le_refl (suc n)) (λ l. omega arith)

-- it reaches that index, unless it reaches none
reach_low : (f : ℕ → ℕ) (n x : ℕ) → 0 < reach f n x → f (reach f n x) ≤ x
unfolding reach
reach_low f zero x p = absurd (not-suc-le-zero p)
reach_low f (suc n) x p = reach_step f n x (λ r. 0 < r → f r ≤ x) (λ l q. l) (λ l q. reach_low f n x q) p

-- and none of the later ones
reach_high : (f : ℕ → ℕ) (n x j : ℕ) → reach f n x < j → j ≤ n → x < f j
unfolding reach
reach_high f zero x j a b = absurd (omega arith)
reach_high f (suc n) x j a b =
    reach_step f n x (λ r. r < j → x < f j) (λ l c. absurd (omega arith))
    (λ l c. go (ℕ_discrete j (suc n)) l c b (reach_high f n x j)) a
  where
    go : Dec (j ≡ suc n) → x < f (suc n) → reach f n x < j → j ≤ suc n → (reach f n x < j → j ≤ n → x < f j) → x < f j
    go (yes e) l a b ih = subst (λ (k : ℕ). x < f k) (sym e) l
    go (no g) l a b ih = ih a (omega arith)

-- ---- the thresholds rise

-- a bin's end: the next bin begins half of 2 ^ (i / 2 + 8) further on
pub min_next : (i : ℕ) → min_size (suc i) ≡ (3 + i % 2) * 2 ^ (i / 2 + 7)
unfolding min_size
min_next i = go (i % 2) refl
  where
    go : (b : ℕ) → i % 2 ≡ b → (2 + suc i % 2) * 2 ^ (suc i / 2 + 7) ≡ (3 + i % 2) * 2 ^ (i / 2 + 7)
    go zero e = ap₂ (λ (c h : ℕ). (2 + c) * 2 ^ (h + 7)) odd half ∙ sym (ap (λ (c : ℕ). (3 + c) * 2 ^ (i / 2 + 7)) e)
      where
        odd : suc i % 2 ≡ 1
        odd = omega arith

        half : suc i / 2 ≡ i / 2
        half = omega arith
    go (suc b) e =
        ap₂ (λ (c h : ℕ). (2 + c) * 2 ^ h) even half ∙ omega (arith, pow-suc 2 (i / 2 + 7)) ∙ sym (ap (λ (c : ℕ). (3 + c) * 2 ^ (i / 2 + 7)) odd)
      where
        even : suc i % 2 ≡ 0
        even = omega arith

        half : suc i / 2 + 7 ≡ suc (i / 2 + 7)
        half = omega arith

        odd : i % 2 ≡ 1
        odd = omega arith

pub min_step : (i : ℕ) → min_size i < min_size (suc i)
unfolding min_size
min_step i = subst (λ (x : ℕ). min_size i < x) (sym (min_next i)) less
  where
    less : min_size i < (3 + i % 2) * 2 ^ (i / 2 + 7)
    less = mul-lt-mul_of_pos_right (omega arith) (pow_pos (i / 2 + 7))

pub min_mono : {i j : ℕ} → i ≤ j → min_size i ≤ min_size j
min_mono {i} {j} h = le_ind (λ (k : ℕ). min_size i ≤ min_size k) (le_refl (min_size i)) (λ k l ih. omega (arith, min_step k)) j h

-- ---- an index is its range

pub tree_in : (size : ℕ) → InBin size (tree_index size)
unfolding tree_index
tree_in size = record {
  last = reach_le min_size 31 size;
  low = reach_low min_size 31 size;
  high = λ l. reach_high min_size 31 size (suc (tree_index size)) (le_refl (suc (tree_index size))) l;
}

-- a larger size is in no earlier bin
in_mono : {s t i j : ℕ} → s ≤ t → InBin s i → InBin t j → i ≤ j
in_mono {s} {t} {i} {j} h a b = ⊎_elim (λ l. l) no_less (le_or_lt i j)
  where
    no_less : j < i → i ≤ j
    no_less l =
        let up : min_size (suc j) ≤ min_size i = min_mono l in
        let lo : min_size i ≤ s = a.low (omega arith) in
        let hi : t < min_size (suc j) = b.high (omega (arith, a.last)) in
        absurd (omega arith)

pub in_one : {size i j : ℕ} → InBin size i → InBin size j → i ≡ j
in_one {size} a b = le_antisymm (in_mono (le_refl size) a b) (in_mono (le_refl size) b a)

pub tree_is : {size i : ℕ} → InBin size i → tree_index size ≡ i
tree_is {size} a = in_one (tree_in size) a

-- two sizes have one index exactly when they are in one range
pub same_index : (s t : ℕ) → (tree_index s ≡ tree_index t) ↔ InBin t (tree_index s)
same_index s t = ((λ e. subst (λ (i : ℕ). InBin t i) (sym e) (tree_in t)), (λ b. sym (tree_is b)))

pub tree_mono : {s t : ℕ} → s ≤ t → tree_index s ≤ tree_index t
tree_mono {s} {t} h = in_mono h (tree_in s) (tree_in t)

-- a size of a later bin is larger
pub bin_order : (s t : ℕ) → tree_index s < tree_index t → s < t
bin_order s t h = ⊎_elim (λ l. absurd (omega (arith, tree_mono l))) (λ l. l) (le_or_lt t s)

-- there are 32 bins
pub tree_lt : (s : ℕ) → tree_index s < 32
tree_lt s = omega (arith, (tree_in s).last)

-- ---- by the highest set bit k of size / 256, and the bit below it

pub tree_rule : (k s : ℕ) → k ≤ 15 → 2 ^ k ≤ s / 256 → s / 256 < 2 ^ suc k → tree_index s ≡ 2 * k + s / 2 ^ (k + 7) % 2
unfolding min_size
tree_rule k s l lo hi =
    let P : ℕ = 2 ^ (k + 7) in
    let p : P ≡ 2 ^ k * 128 = pow-add 2 k 7 in
    let q : ℕ = s / P in
    let q2 : 2 ≤ q = (le-div_iff_mul-le (pow_pos (k + 7))).1 (omega arith) in
    let q4 : q < 4 = (div-lt_iff_lt-mul (pow_pos (k + 7))).1 (omega (arith, pow-suc 2 k)) in
    let r : ℕ = 2 * k + q % 2 in
    let half : r / 2 ≡ k = omega arith in
    let low : 2 + r % 2 ≡ q = omega arith in
    let next : 3 + r % 2 ≡ suc q = omega arith in
    tree_is (record {
      last = omega arith;
      low = λ z. le_trans (le_of_eq (ap₂ (λ (c h : ℕ). c * 2 ^ (h + 7)) low half)) (div-mul-le_self s P);
      high = λ z.
          subst (λ (x : ℕ). s < x) (sym (min_next r ∙ ap₂ (λ (c h : ℕ). c * 2 ^ (h + 7)) next half ∙ suc-mul q P))
          (lt-div-mul-add (pow_pos (k + 7)));
    })

pub tree_small : (s : ℕ) → s / 256 ≡ 0 → tree_index s ≡ 0
unfolding min_size
tree_small s h = tree_is (record { last = zero-le; low = λ z. absurd (omega arith); high = λ z. omega arith })

pub tree_huge : (s : ℕ) → 65535 < s / 256 → tree_index s ≡ 31
unfolding min_size
tree_huge s h = tree_is (record { last = le_refl 31; low = λ z. omega arith; high = λ z. absurd (omega arith) })

-- `(1 << (i / 2 + 8)) | ((i & 1) << (i / 2 + 7))`
pub min-word : (w i : ℕ) → i / 2 + 8 < w → bit_or ((1 * 2 ^ (i / 2 + 8)) % 2 ^ w) ((bit_and i 1 * 2 ^ (i / 2 + 7)) % 2 ^ w) ≡ min_size i
unfolding min_size
min-word w i l =
    let h : ℕ = i / 2 + 7 in
    let odd : bit_and i 1 ≡ i % 2 = and_one i in
    let b : i % 2 < 2 = omega arith in
    let up : 1 + h ≡ i / 2 + 8 = omega arith in
    let low : i % 2 * 2 ^ h < 2 ^ (i / 2 + 8) = subst (λ (x : ℕ). i % 2 * 2 ^ h < 2 ^ x) up (shl_lt {a = i % 2} 1 h b) in
    ap₂ bit_or (one_shl w (i / 2 + 8) l ∙ sym (one-mul (2 ^ (i / 2 + 8))))
    (ap (λ (x : ℕ). (x * 2 ^ h) % 2 ^ w) odd ∙ shl_exact {a = i % 2} 1 h w b (omega arith))
    ∙ or_shifted 1 (i / 2 + 8) (i % 2 * 2 ^ h) low
    ∙ ap (λ (x : ℕ). 1 * 2 ^ x + i % 2 * 2 ^ h) (sym up)
    ∙ omega (arith, pow-add 2 1 h, add-mul 2 (i % 2) (2 ^ h))

-- ---- the document's sizes: (size, index)

unfoldable pub table : List (ℕ × ℕ)
table = (256, 0) ∷ (384, 1) ∷ (512, 2) ∷ (768, 3) ∷ (65536, 16) ∷ (16777215, 31) ∷ []

pub table_right : right tree_index table ≡ true
unfolding tree_index min_size table right
table_right = refl

-- ---- the way down a tree

pub shift_last : (B : ℕ) → left_shift B 31 ≡ 0
unfolding left_shift
shift_last B = refl

pub shift_other : (B i : ℕ) → i ≢ 31 → left_shift B i ≡ B - 1 - (i / 2 + 6)
unfolding left_shift
shift_other B i f = ap (λ (b : Bool). pick b 0 (B - 1 - (i / 2 + 6))) (ne_eqb i 31 f)

pub shift_lt : (B i : ℕ) → 0 < B → left_shift B i < B
unfolding left_shift
shift_lt B i p = pick_case (λ n. n < B) (i == 31) (λ q. p) (λ q. omega arith)

double_mod : (x m : ℕ) → (x % m * 2) % m ≡ (x * 2) % m
double_mod x m = ap (λ (y : ℕ). y % m) (omega arith) ∙ sym (add-mod x x m) ∙ ap (λ (y : ℕ). y % m) (omega arith)

-- one level: `key << 1`
pub key_step : (B i s d : ℕ) → (key_at B i s d * 2) % 2 ^ B ≡ key_at B i s (suc d)
unfolding key_at
key_step B i s d =
    let e : ℕ = left_shift B i + d in
    let twice : 2 ^ e * 2 ≡ 2 ^ (left_shift B i + suc d) = sym (pow-suc 2 e) ∙ ap (λ (x : ℕ). 2 ^ x) (sym (add-suc (left_shift B i) d)) in
    double_mod (s * 2 ^ e) (2 ^ B) ∙ ap (λ (x : ℕ). x % 2 ^ B) (mul_assoc s (2 ^ e) 2 ∙ ap (λ (x : ℕ). s * x) twice)

-- the child at depth d is a bit of the size: the first below those that the bin settles, then the next lower one
pub side-bit : (B i s d : ℕ) → left_shift B i + d < B → side B (key_at B i s d) ≡ bit (B - 1 - (left_shift B i + d)) s
unfolding key_at
side-bit B i s d h =
    let e : ℕ = left_shift B i + d in
    let k : ℕ = B - 1 in
    let shifted : s * 2 ^ e / 2 ^ k ≡ s / 2 ^ (k - e) =
    ap (λ (x : ℕ). s * 2 ^ e / 2 ^ x) down ∙ ap (λ (x : ℕ). s * 2 ^ e / x) (pow-add 2 (k - e) e)
    ∙ mul-div-mul_right s (2 ^ (k - e)) (pow_pos e) in
    ap (λ (x : ℕ). s * 2 ^ e % 2 ^ x / 2 ^ k) width ∙ field (s * 2 ^ e) 1 k ∙ ap (λ (x : ℕ). x % 2) shifted
  where
    width : B ≡ 1 + (B - 1)
    width = omega arith

    down : B - 1 ≡ B - 1 - (left_shift B i + d) + (left_shift B i + d)
    down = omega arith

-- below the last bit nothing is left
pub key_done : (B i s d : ℕ) → B ≤ left_shift B i + d → key_at B i s d ≡ 0
unfolding key_at
key_done B i s d h =
    ap (λ (x : ℕ). s * 2 ^ x % 2 ^ B) split ∙ ap (λ (x : ℕ). s * x % 2 ^ B) (pow-add 2 (left_shift B i + d - B) B)
    ∙ ap (λ (x : ℕ). x % 2 ^ B) (sym (mul_assoc s (2 ^ (left_shift B i + d - B)) (2 ^ B))) ∙ mul-mod_left (s * 2 ^ (left_shift B i + d - B)) (2 ^ B)
  where
    split : left_shift B i + d ≡ left_shift B i + d - B + B
    split = omega arith
