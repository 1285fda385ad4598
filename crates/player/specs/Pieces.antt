-- THE OUTPUT IS `replayed` OF THE LOG, WHATEVER THE PIECES (`whole`). What a program writes that begins, feeds the pieces one after the
-- other, writes after each what stands in the buffer, and at last the end's line, is said with the contracts' own definitions (`output`).
-- Assumes nothing.
use Rattle.std.specs.Prelude.{◌≡◌, ℕ, ◌+◌, ◌*◌, ◌≤◌, List, [], ◌∷◌, ◌++◌, length, take}
use Rattle.box_log.specs.Answers.{header_put, header_end}
use Rattle.box_log.specs.Cutting.{ending, out_of, line_of, place_of}
use Rattle.box_log.specs.declared.entry.Entry.{Entry}
use Rattle.box_log.specs.declared.cut.Place.{Place}
use Rattle.player.specs.Replayed as r
use Rattle.player.specs.Replayed.{Work}
use Rattle.player.specs.PlayObeys.{Stands}
use Rattle.player.specs.FeedBytes.{fresh, emptied, Desk, desk, handed_out, play_all}

-- the lines that stand in the buffer
abbrev pub shown : Desk → List ℕ
shown d = take d.run.at d.out

abbrev pub cleared : Desk → Desk
cleared d = desk (emptied d.run) d.image d.buffer d.out

-- the pieces in turn (`feed`), then the end (`end`)
unfoldable pub written : List ℕ → Place → Desk → List (List ℕ) → List ℕ
written line p d [] = shown (handed_out (cleared d) (ending line p))
written line p d (x ∷ xs) =
    shown (play_all (cleared d) (out_of line p x)) ++ written (line_of line p x) (place_of line p x) (play_all (cleared d) (out_of line p x)) xs

-- from `start` on, with a line for the record at hand, words for the arena's record, a buffer of words and one of lines
unfoldable pub output : List ℕ → List ℕ → List ℕ → List ℕ → List (List ℕ) → List ℕ
output line im v out xs =
    take (header_end out) (header_put out) ++ written line (fresh (header_end out)).place
    (desk (fresh (header_end out)).run im v (header_put out)) xs

-- none is longer than m
abbrev pub Short : ℕ → List (List ℕ) → Type 0
Short m [] = Unit {0}
Short m (x ∷ xs) = (length x ≤ m) × Short m xs

-- k records were answered, and the words stand for the work
pub record On (d : Desk) (k : ℕ) (s : Work) : Type 0 where
  pub lines : d.run.lines ≡ k
  pub room : 8192 ≤ length d.buffer
  pub stands : Stands s d.run.words d.image d.buffer

-- m lines more stand behind the others
pub record Wrote (d d' : Desk) (m k : ℕ) (s : Work) (text : List ℕ) : Type 0 where
  pub shows : shown d' ≡ shown d ++ text
  pub on : On d' k s
  pub far : d'.run.at ≤ d.run.at + 64 * m
  pub long : length d'.out ≡ length d.out

-- the work after records
abbrev pub work_after : Work → List Entry → Work
work_after s [] = s
work_after s (e ∷ es) = work_after (r.line_of s e).work es
