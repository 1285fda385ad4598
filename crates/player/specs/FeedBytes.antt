-- THE RUN over records: the words of the arena at work, its record and buffer, the records answered, and the lines in the buffer for them,
-- for all inputs. Which records a piece of the log hands out is said by `log`, `Cutting`. Assumes nothing.
use Rattle.std.specs.Prelude.{Option, None, Some, ℕ, ◌+◌, ◌%◌, ◌^◌, false, List, [], ◌∷◌}
use Rattle.box_log.specs.Answers.{line_put, line_end}
use Rattle.box_log.specs.Cutting.{at}
use Rattle.box_log.specs.declared.entry.Entry.{Entry}
use Rattle.player.specs.PlayBytes.{Scene, play_b}
use Rattle.player.specs.declared.feed.Run.{Run}
use Rattle.player.specs.declared.feed.Fed.{Fed}

abbrev pub run : ℕ → ℕ → ℕ → Run
run words lines at = record { words = words; lines = lines; at = at }

-- before the first byte, with the header's bytes in the buffer
abbrev pub fresh : ℕ → Fed
fresh n = record { place = at 0 false; run = run 0 0 n }

abbrev pub emptied : Run → Run
emptied x = run x.words x.lines 0

-- the run, the arena record's words, the buffer of words, the buffer of lines
pub record Desk : Type 0 where
  pub run : Run
  pub image : List ℕ
  pub buffer : List ℕ
  pub out : List ℕ

abbrev pub desk : Run → List ℕ → List ℕ → List ℕ → Desk
desk x r v out = record { run = x; image = r; buffer = v; out = out }

-- the next record's number; the code's sum wraps
abbrev pub next : ℕ → ℕ
next k = (k + 1) % 2 ^ 64

-- what a record's play leaves, with its line behind the others
abbrev pub lined : Run → List ℕ → Scene → Desk
lined x out s =
    desk
    (run s.played.words (next x.lines) (line_end out x.at (next x.lines) s.played.refusal s.played.offset))
    s.image
    s.buffer
    (line_put out x.at (next x.lines) s.played.refusal s.played.offset)

unfoldable pub tell_b : Desk → Entry → Desk
tell_b d e = lined d.run d.out (play_b e d.run.words d.image d.buffer)

abbrev pub handed_out : Desk → Option Entry → Desk
handed_out d None = d
handed_out d (Some e) = tell_b d e

unfoldable pub play_all : Desk → List Entry → Desk
play_all d [] = d
play_all d (e ∷ es) = play_all (tell_b d e) es
