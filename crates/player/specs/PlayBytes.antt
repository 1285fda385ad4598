-- ONE RECORD ON THE WORDS: what its line says, and what is left in the arena record's 72 words and in the lent buffer, whose first words
-- are the arena's, for all inputs. Assumes nothing.
use Rattle.std.specs.Prelude.{ℕ, Bool, not, ◌&&◌, List, ◌++◌, length, take, drop, ◌==◌, nat_le, nat_lt}
use Rattle.words.specs.Logic.{pick}
use Rattle.words.specs.Edition.{wide}
use Rattle.rules.specs.Calls as rules
use Rattle.rules.specs.Calls.{Call, Answer, granted, done, bytes, refused}
use Rattle.calls.specs.CallBytes.{Told, refusal, call_b}
use Rattle.calls.specs.Record.{image}
use Rattle.calls.specs.ByValue.{Ends, set_up_a}
use Rattle.box_log.specs.declared.entry.Entry.{Entry}
use Rattle.box_log.specs.declared.entry.Entry.TheVariants.{Setup, Malloc, Free, Realloc, Memalign, Odd}
use Rattle.player.specs.Replayed.{offset_of}
use Rattle.player.specs.declared.play.Played.{Played}

-- what the line says, the arena record's words, the buffer's
pub record Scene : Type 0 where
  pub played : Played
  pub image : List ℕ
  pub buffer : List ℕ

abbrev pub scene : Played → List ℕ → List ℕ → Scene
scene p r v = record { played = p; image = r; buffer = v }

abbrev pub said : ℕ → ℕ → ℕ → Played
said words n off = record { words = words; refusal = n; offset = off }

abbrev pub shown : ℕ → Answer → Played
shown words a = said words (refusal a) (offset_of a)

unfoldable pub is_ready : ℕ → ℕ → Bool
is_ready words room = not (words == 0) && nat_le words room

-- the part that was lent to a call is back in the buffer
abbrev pub heard : ℕ → List ℕ → Told → Scene
heard words v t = scene (shown words t.answer) t.image (t.words ++ drop words v)

-- a call on the first words of the buffer; 2 before any granted set-up
unfoldable pub call_on : ℕ → List ℕ → List ℕ → Call → Scene
call_on words r v c = pick (is_ready words (length v)) (heard words v (call_b wide r (take words v) c)) (scene (said words 2 0) r v)

-- a granted set-up starts anew; a refused one leaves the arena at work
abbrev pub begun : ℕ → List ℕ → List ℕ → ℕ → Ends → Answer → Scene
begun words r v n t (granted off) = scene (shown words (granted off)) r (t.words ++ drop n v)
begun words r v n t done = scene (shown n done) (image t.control) (t.words ++ drop n v)
begun words r v n t (bytes k) = scene (shown words (bytes k)) r (t.words ++ drop n v)
begun words r v n t (refused why) = scene (shown words (refused why)) r (t.words ++ drop n v)

unfoldable pub set_up_of : ℕ → List ℕ → List ℕ → ℕ → Scene
set_up_of words r v n =
    pick (nat_lt (length v) n) (scene (said words 1 0) r v)
    (begun words r v n (set_up_a wide (take n v)) (set_up_a wide (take n v)).answer)

abbrev pub play_b : Entry → ℕ → List ℕ → List ℕ → Scene
play_b Odd words r v = scene (said words 9 0) r v
play_b (Setup n) words r v = set_up_of words r v n
play_b (Malloc n) words r v = call_on words r v (rules.Malloc n)
play_b (Free off) words r v = call_on words r v (rules.Free off)
play_b (Realloc off n) words r v = call_on words r v (rules.Realloc off n)
play_b (Memalign a n) words r v = call_on words r v (rules.Memalign a n)
