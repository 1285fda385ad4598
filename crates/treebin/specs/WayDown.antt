-- The way down a tree in bytes reads the bits of the size in words: after d levels, with k bits left, the shifted size chooses the child by bit
-- k - 1 (`tries`, `Bits`). Insertion and the search of a need's own tree go by it. The bytes of a word are 2 ^ `zeros`, so a size in bytes has
-- that many zeros at its end. Assumes nothing.
use Rattle.std.specs.Prelude.{◌≡◌, refl, ℕ, zero, suc, ◌+◌, ◌-◌, ◌*◌, ◌/◌, ◌%◌, ◌^◌, ◌≤◌, ◌<◌, eqb}
use Rattle.std.proofs.Common.{sym, ◌∙◌, ap, ap₂, arith, shr-shr}
use Rattle.words.specs.Logic.{pick}
use Rattle.words.specs.Edition.{Edition, wide, narrow, W, enc, dec_enc}
use Rattle.index.specs.TreeBin.{min_size, tree_index, left_shift, key_at, side}
use Rattle.index.specs.TreeBinLaws.{tree_mono, shift_other, key_step, side-bit}
use Rattle.tries.specs.Bits.{wid, wid_pow, bit}
use Rattle.rules.specs.BinOf.{trie_bin, trie_bits, huge}
use Rattle.chunk.specs.Bytes.{limit}
use Rattle.treebin.specs.TreeBytes.{word_bits, first_key, child_word, next_key}

abbrev pub zeros : Edition → ℕ
zeros wide = 3
zeros narrow = 2

-- the key of a size of s words on the way down bin i, where k bits are left
pub record Way (e : Edition) (i s k key : ℕ) : Type 0 where
  pub level : ℕ
  pub here : key ≡ key_at (word_bits e) i (enc e s) level
  pub left : left_shift (word_bits e) i + level + (k + zeros e) ≡ word_bits e

pub way_first : (e : Edition) (i s : ℕ) → i < 31 → Way e i s (trie_bits e i) (first_key e (enc e s) i)
way_first e i s l = record { level = 0; here = ap (λ j. key_at (word_bits e) j (enc e s) 0) (let q : i % 32 ≡ i = omega arith in q); left = start e }
  where
    start : (e : Edition) → left_shift (word_bits e) i + 0 + (trie_bits e i + zeros e) ≡ word_bits e
    start wide = omega (arith, shift_other 64 i (λ z. omega arith))
    start narrow = omega (arith, shift_other 32 i (λ z. omega arith))

limit_bits : (e : Edition) → limit e ≡ 2 ^ word_bits e
limit_bits wide = refl
limit_bits narrow = refl

pub way_next : (e : Edition) (i s k key : ℕ) → Way e i s (suc k) key → Way e i s k (next_key e key)
way_next e i s k key y = record {
  level = suc y.level;
  here = ap₂ (λ x m. x * 2 % m) y.here (limit_bits e) ∙ key_step (word_bits e) i (enc e s) y.level;
  left = omega (arith, y.left);
}

-- a bit of the bytes is a bit of the words
bytes_bit : (e : Edition) (s k : ℕ) → enc e s / 2 ^ (k + zeros e) % 2 ≡ s / wid k % 2
bytes_bit e s k =
    ap (λ j. enc e s / 2 ^ j % 2) (let q : k + zeros e ≡ zeros e + k = omega arith in q) ∙ ap (λ x. x % 2) (sym (shr-shr (enc e s) (zeros e) k))
    ∙ ap (λ x. x / 2 ^ k % 2) (ap (λ m. enc e s / m) (one_word e) ∙ dec_enc e s) ∙ ap (λ m. s / m % 2) (sym (wid_pow k))
  where
    one_word : (e : Edition) → 2 ^ zeros e ≡ W e
    one_word wide = refl
    one_word narrow = refl

-- the child word that the key chooses
pub way_side : (e : Edition) (i s k key : ℕ) → Way e i s (suc k) key → child_word e key ≡ pick (bit k s) 5 4
unfolding bit
way_side e i s k key y =
    ap (λ x. 4 + x) (ap (side (word_bits e)) y.here ∙ side-bit (word_bits e) i (enc e s) y.level (omega (arith, y.left)) ∙ ap (λ j. enc e s / 2 ^ j % 2) place ∙ bytes_bit e s k)
    ∙ word_of (s / wid k % 2) (omega arith)
  where
    place : word_bits e - 1 - (left_shift (word_bits e) i + y.level) ≡ k + zeros e
    place = omega (arith, y.left)

    word_of : (x : ℕ) → x < 2 → 4 + x ≡ pick (eqb x 1) 5 4
    word_of zero l = refl
    word_of (suc zero) l = refl
    word_of (suc (suc x)) l = absurd (omega arith)

-- a size below `huge` is not of the last bin, which has no end; and no bin has many bits
pub trie_early : (e : Edition) (s : ℕ) → W e * s < huge → trie_bin e s < 31
unfolding huge tree_index min_size
trie_early e s l = let q : tree_index (W e * s) ≤ 30 = tree_mono {s = W e * s} {t = 12582911} (omega arith) in omega arith

pub few_bits : (e : Edition) (i : ℕ) → i < 32 → trie_bits e i < 21
few_bits wide i l = omega arith
few_bits narrow i l = omega arith
