-- THE LINES THAT ANSWER: `line,refusal,offset`, "each ended by CRLF". Assumes nothing.
use Rattle.std.specs.Prelude.{Bool, List, [], ◌∷◌, ◌++◌, ℕ, ◌+◌, leb, length}
use Rattle.std.proofs.lemmas.List.Edits.{sets}
use Rattle.words.specs.Logic.{pick}
use Rattle.box_log.specs.Decimals.{decimal}
use Rattle.box_log.specs.Grammar.{comma}

abbrev pub crlf : List ℕ
crlf = 13 ∷ 10 ∷ []

-- the first line: `line,refusal,offset`
abbrev pub header : List ℕ
header =
    108 ∷ 105 ∷ 110 ∷ 101 ∷ comma ∷ 114 ∷ 101 ∷ 102 ∷ 117 ∷ 115 ∷ 97 ∷ 108 ∷ comma ∷ 111 ∷ 102 ∷ 102 ∷ 115 ∷ 101 ∷ 116 ∷ crlf

-- a number and the byte behind it
unfoldable pub field : ℕ → ℕ → List ℕ
field n end = decimal n ++ (end ∷ [])

unfoldable pub answer_line : ℕ → ℕ → ℕ → List ℕ
answer_line line refusal offset = decimal line ++ comma ∷ (decimal refusal ++ comma ∷ (decimal offset ++ crlf))

-- three numbers of 20 digits, two commas and CRLF take 64 bytes: without room for these nothing is written
abbrev pub has_room : List ℕ → ℕ → Bool
has_room out at = leb (at + 64) (length out)

unfoldable pub line_put : List ℕ → ℕ → ℕ → ℕ → ℕ → List ℕ
line_put out at line refusal offset = pick (has_room out at) (sets out at (answer_line line refusal offset)) out

unfoldable pub line_end : List ℕ → ℕ → ℕ → ℕ → ℕ → ℕ
line_end out at line refusal offset = pick (has_room out at) (at + length (answer_line line refusal offset)) at

unfoldable pub header_put : List ℕ → List ℕ
header_put out = pick (has_room out 0) (sets out 0 header) out

unfoldable pub header_end : List ℕ → ℕ
header_end out = pick (has_room out 0) 21 0
