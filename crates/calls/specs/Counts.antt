-- THE NUMBER OF WORDS: the calls' first row and the check ask the same. Assumes nothing.
use Rattle.std.specs.Prelude.{Bool, true, false, ◌&&◌, ◌≡◌, refl, ℕ, ◌*◌, ◌%◌, ◌^◌, ◌≤◌, leb, ltb, eqb}
use Rattle.std.proofs.Common.{arith, mod-eq_of_lt, leb-true, ltb-false, eqb-true}
use Rattle.words.specs.Logic.{false-true}
use Rattle.index.specs.Sizes.{need}
use Rattle.index.specs.SizesLaws.{need_le}
use Rattle.rules.specs.Calls.{allowed_count}
use Rattle.sound.specs.SoundBytes.{count_ok}

and_swap : (a b c : Bool) → (a && b) && c ≡ c && (a && b)
and_swap true true true = refl
and_swap true true false = refl
and_swap true false true = refl
and_swap true false false = refl
and_swap false b true = refl
and_swap false b false = refl

-- row 1 of the calls is the check's test
pub count_allowed : (n : ℕ) → count_ok n ≡ allowed_count n
unfolding count_ok
count_allowed n = and_swap (leb 16 n) (leb n 8192) (eqb (n % 2) 0)

three : (a b c : Bool) → (a && b) && c ≡ true → (a ≡ true) × (b ≡ true) × (c ≡ true)
three true true true q = (refl, refl, refl)
three true true false q = absurd (false-true q)
three true false true q = absurd (false-true q)
three true false false q = absurd (false-true q)
three false b true q = absurd (false-true q)
three false b false q = absurd (false-true q)

-- an even number from 16 to 8,192
pub count_range : (n : ℕ) → count_ok n ≡ true → (16 ≤ n) × (n ≤ 8192) × (n % 2 ≡ 0)
unfolding count_ok
count_range n q = let z = three (leb 16 n) (leb n 8192) (eqb (n % 2) 0) q in (leb-true 16 n z.0, leb-true n 8192 z.1, eqb-true (n % 2) 0 z.2)

-- a request that an arena of k words can hold needs a size that does not wrap
pub plain_need : (n k : ℕ) → count_ok k ≡ true → ltb (8 * k) n ≡ false → need 8 n % 2 ^ 64 ≡ need 8 n
plain_need n k t q = mod-eq_of_lt (omega (arith, need_le 8 n (omega arith), ltb-false (8 * k) n q, (count_range k t).1))
