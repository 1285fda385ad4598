-- A line of the record: eight numbers, which of them is being read, and what the line is so far. Assumes nothing.
use Rattle.std.specs.Prelude.{Bool, true, false, not, ◌&&◌, ◌||◌, List, get_or, set, replicate, Option, Some, None}
use Rattle.std.specs.Prelude.{ℕ, ◌+◌, ◌-◌, ◌*◌, ◌%◌, eqb, ltb}
use Rattle.words.specs.Logic.{pick}
use Rattle.words.specs.Edition.{wide}
use Rattle.chunk.specs.Bytes.{wrap}
use Rattle.recorded.specs.declared.tally.Tally.{Tally}
use Rattle.recorded.specs.declared.text.Kind.{Kind}
use Rattle.recorded.specs.declared.text.Kind.TheVariants.{Empty, Comment, Numbers, Odd}
use Rattle.recorded.specs.declared.text.Line.{Line}
use Rattle.recorded.specs.declared.entry.Spare.{Spare}
use Rattle.recorded.specs.Tallies.{counted}

-- a line says 0 0 where there is no spare chunk
abbrev pub spare_said : ℕ → ℕ → Option Spare
spare_said a n = pick (eqb a 0 && eqb n 0) None (Some record { at = a; bytes = n })

-- nothing is read
abbrev pub fresh_line : Line
fresh_line = record { numbers = replicate 8 0; at = 0; kind = Empty }

-- the line has numbers, and nothing else so far; it has a byte that is none of a line of numbers
abbrev pub has_numbers : Kind → Bool
has_numbers Empty = false
has_numbers Comment = false
has_numbers Numbers = true
has_numbers Odd = false

abbrev pub has_odd_byte : Kind → Bool
has_odd_byte Empty = false
has_odd_byte Comment = false
has_odd_byte Numbers = false
has_odd_byte Odd = true

-- the byte ends a line of eight numbers
abbrev pub line_read : Line → ℕ → Bool
line_read l b = eqb b 10 && has_numbers l.kind && eqb l.at 7

-- the line's numbers, where the byte ends a line of eight
abbrev pub numbers_read : Line → ℕ → Option (List ℕ)
numbers_read l b = pick (line_read l b) (Some l.numbers) None

-- the line is neither eight numbers nor a comment nor empty
abbrev pub line_odd : Line → Bool
line_odd l = has_odd_byte l.kind || has_numbers l.kind && not (eqb l.at 7)

-- number k is being read, and is 0 so far
abbrev pub begun : Line → ℕ → Line
begun l k = record { numbers = pick (ltb k 8) (set l.numbers k 0) l.numbers; at = k; kind = l.kind }

-- the line has said nothing so far
abbrev pub emptied : Line → Line
emptied l = record { numbers = l.numbers; at = l.at; kind = Empty }

-- ---- what a byte inside a line leaves

-- a line of numbers, where the line was empty
abbrev pub numbers_of : Kind → Kind
numbers_of Empty = Numbers
numbers_of Comment = Comment
numbers_of Numbers = Numbers
numbers_of Odd = Odd

abbrev pub with_number_byte : Line → Line
with_number_byte l = record { numbers = l.numbers; at = l.at; kind = numbers_of l.kind }

-- an odd line, where the line is no comment
abbrev pub odd_of : Kind → Kind
odd_of Empty = Odd
odd_of Comment = Comment
odd_of Numbers = Odd
odd_of Odd = Odd

abbrev pub with_odd_byte : Line → Line
with_odd_byte l = record { numbers = l.numbers; at = l.at; kind = odd_of l.kind }

-- one digit more in the number that is being read; a number keeps its last twelve
abbrev pub with_digit : Line → ℕ → Line
with_digit l d =
    record {
      numbers = pick (ltb l.at 8) (set l.numbers l.at (get_or l.numbers l.at 0 % 100000000000 * 10 + d)) l.numbers;
      at = l.at;
      kind = l.kind;
    }

abbrev pub commented : Line → Line
commented l = record { numbers = l.numbers; at = l.at; kind = Comment }

-- a #, a space, a digit, or none of these
abbrev pub with_byte : Line → ℕ → Line
with_byte l b =
    pick (eqb b 35) (commented l)
    (pick (eqb b 32) (begun (with_number_byte l) (wrap wide (l.at + 1)))
    (pick (ltb b 48 || ltb 57 b) (with_odd_byte l) (with_digit (with_number_byte l) (b - 48))))

-- a line that ends is as it was
abbrev pub after_byte : Line → ℕ → Line
after_byte l b = pick (eqb b 10) l (with_byte l b)

-- ---- what a byte that may end the line leaves: the line and the tally

pub record Ended : Type 0 where
  pub line : Line
  pub tally : Tally

abbrev pub ended : Line → Tally → Ended
ended l t = record { line = l; tally = t }

abbrev pub end_line : Line → ℕ → Tally → Ended
end_line l b t = pick (eqb b 10) (ended (begun (emptied l) 0) (counted (line_odd l) t)) (ended l t)
