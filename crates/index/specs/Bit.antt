-- The binary digits of a number: `bit i n` is digit i of n, 0 or 1, and `tell` turns a yes or no into such a digit. Both are plain arithmetic,
-- by division; every contract that speaks of a map of bins says it by them and by no operator on words. Their laws are in `Digits`.
-- Assumes nothing.
use Rattle.std.specs.Prelude.{ℕ, ◌/◌, ◌%◌, ◌^◌, Bool, true, false}

-- bit i of n: 0 or 1
abbrev pub bit : ℕ → ℕ → ℕ
bit i n = n / 2 ^ i % 2

-- 1 for yes, 0 for no
abbrev pub tell : Bool → ℕ
tell true = 1
tell false = 0
