-- DOCUMENT 02'S EXAMPLE: the output of the definition, computed. Assumes nothing.
use Rattle.std.specs.Prelude.{◌≡◌, ℕ, List, ◌∷◌, ◌++◌, refl}
use Rattle.index.specs.Sizes.{round_up, need, need_words}
use Rattle.rules.specs.BinOf.{huge}
use Rattle.box_log.specs.Decimals.{decimal, decimal_in, grown, digit_read, number_from, number_of}
use Rattle.box_log.specs.Grammar.{kind_of, one_number, called, read_record}
use Rattle.box_log.specs.Cutting.{records, entries}
use Rattle.box_log.specs.Answers.{header, crlf, answer_line}
use Rattle.player.specs.Replayed.{lines_from, replayed}

-- `setup,128`, `malloc,24`, `free,16`, `free,16`
abbrev log : List ℕ
log =
    115 ∷ 101 ∷ 116 ∷ 117 ∷ 112 ∷ 44 ∷ 49 ∷ 50 ∷ 56 ∷ crlf
    ++ (109 ∷ 97 ∷ 108 ∷ 108 ∷ 111 ∷ 99 ∷ 44 ∷ 50 ∷ 52 ∷ crlf
    ++ (102 ∷ 114 ∷ 101 ∷ 101 ∷ 44 ∷ 49 ∷ 54 ∷ crlf
    ++ (102 ∷ 114 ∷ 101 ∷ 101 ∷ 44 ∷ 49 ∷ 54 ∷ crlf)))

-- `1,0,0`, `2,0,16`, `3,0,0`, `4,5,0`
abbrev answer : List ℕ
answer =
    49 ∷ 44 ∷ 48 ∷ 44 ∷ 48 ∷ crlf
    ++ (50 ∷ 44 ∷ 48 ∷ 44 ∷ 49 ∷ 54 ∷ crlf
    ++ (51 ∷ 44 ∷ 48 ∷ 44 ∷ 48 ∷ crlf
    ++ (52 ∷ 44 ∷ 53 ∷ 44 ∷ 48 ∷ crlf)))

pub example : replayed log ≡ header ++ answer
unfolding replayed lines_from answer_line decimal decimal_in entries records read_record called kind_of one_number number_of
    number_from digit_read grown need_words need round_up huge
example = refl
