-- WHAT THE READING FINDS, where there may be none: a number, a place, two numbers, a call. Assumes nothing.
use Rattle.std.specs.Prelude.{List, ℕ, ◌-◌, ltb, Option, None, Some}
use Rattle.words.specs.Logic.{pick}
use Rattle.box_log.specs.Decimals.{is_digit, number_of, none}
use Rattle.box_log.specs.Grammar.{comma_at, cut_at}
use Rattle.box_log.specs.declared.entry.Entry.{Entry}
use Rattle.box_log.specs.declared.entry.Entry.TheVariants.{Odd}

-- n, where it is below the limit
abbrev pub below : ℕ → ℕ → Option ℕ
below limit n = pick (ltb n limit) (Some n) None

-- the digit that a byte stands for
abbrev pub digit_of : ℕ → Option ℕ
digit_of b = pick (is_digit b) (Some (b - 48)) None

-- the parts before and after the first comma
unfoldable pub parts_of : List ℕ → Option (List ℕ × List ℕ)
parts_of bs = cut_at (comma_at bs) bs (λ ds es. Some (ds, es)) None

-- both, where there are both
abbrev pub both : Option ℕ → Option ℕ → Option (ℕ × ℕ)
both None m = None
both (Some n) None = None
both (Some n) (Some m) = Some (n, m)

-- the numbers before and after the first comma
abbrev pub numbers_in : Option (List ℕ × List ℕ) → Option (ℕ × ℕ)
numbers_in None = None
numbers_in (Some (ds, es)) = both (below none (number_of ds)) (below none (number_of es))

abbrev pub two_numbers_of : List ℕ → Option (ℕ × ℕ)
two_numbers_of bs = numbers_in (parts_of bs)

-- a record without a call has another form
abbrev pub or_odd : Option Entry → Entry
or_odd None = Odd
or_odd (Some e) = e
