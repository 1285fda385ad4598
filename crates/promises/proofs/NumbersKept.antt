-- DOCUMENT 01'S NUMBERS ARE KEPT: the need of a request, and a block's offset. By the laws of `index`. Assumes nothing.
use Rattle.std.specs.Prelude.{◌≡◌, refl, ℕ, ◌+◌, ◌*◌, ◌%◌, ◌≤◌, ◌<◌}
use Rattle.std.proofs.Common.{sym, ◌∙◌, subst, arith, lt-ltb}
use Rattle.index.specs.Sizes.{need, need_words}
use Rattle.index.specs.SizesLaws.{need_words_lem, need_holds, need_lt, need_mult}
use Rattle.promises.specs.Promises.{Numbers}

need_least : (n : ℕ) → n < 23 → 8 * need_words 8 n ≡ 32
unfolding need
need_least n l = sym (need_words_lem 8 n) ∙ rw (lt-ltb n 23 l) refl

need_is : (n : ℕ) → 23 ≤ n → (n + 8 ≤ 8 * need_words 8 n) × (8 * need_words 8 n < n + 24) × (8 * need_words 8 n % 16 ≡ 0)
need_is n l =
    subst (λ m. (n + 8 ≤ m) × (m < n + 24) × (m % 16 ≡ 0)) (need_words_lem 8 n)
    (need_holds 8 n (omega arith), need_lt 8 n (omega arith) (omega (arith, l)), need_mult 8 n)

pub numbers : Numbers
numbers = record { need_least = need_least; need = need_is; block = λ p. omega arith }
