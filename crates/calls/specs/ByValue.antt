-- WHAT EACH CALL HANDS BACK, for any record, arena and numbers: the answer, the record's numbers and every word of the arena. Set-up, and the calls
-- of `call_b` on the record's 72 words. A refused call hands back the given record. Assumes nothing.
use Rattle.std.specs.Prelude.{List, ℕ, zero, suc, length}
use Rattle.words.specs.Logic.{pick}
use Rattle.words.specs.Edition.{Edition, no_link}
use Rattle.tiling.specs.Steps.{fresh_words}
use Rattle.rules.specs.Calls.{Call, Answer, granted, done, bytes, refused, bad_count, unsound, allowed_count}
use Rattle.holds.specs.Holds.{Control, fresh_control}
use Rattle.rebuild.specs.RebuildBytes.{rebuild_b}
use Rattle.calls.specs.CallBytes.{Told, call_b}
use Rattle.calls.specs.Record.{image, numbers_of, empty_control}

pub record Ends : Type 0 where
  pub answer : Answer
  pub control : Control
  pub words : List ℕ

abbrev pub ends : Answer → Control → List ℕ → Ends
ends a c w = record { answer = a; control = c; words = w }

-- "A refused call hands back the given record", as does one that only looks; the others that of the words that the core leaves
abbrev pub handed_back : Answer → Control → List ℕ → Control
handed_back (granted b) c r = numbers_of r
handed_back done c r = numbers_of r
handed_back (bytes n) c r = c
handed_back (refused why) c r = c

abbrev pub heard : Control → Told → Ends
heard c t = ends t.answer (handed_back t.answer c t.image) t.words

unfoldable pub call_a : Edition → Control → List ℕ → Call → Ends
call_a e c w k = heard c (call_b e (image c) w k)

-- "Set-up writes the top's head and [the foot word]. No other word changes"; refused, it "returns the empty record with length 0"
unfoldable pub set_up_a : Edition → List ℕ → Ends
set_up_a e w = pick (allowed_count (length w)) (ends done (fresh_control e (length w)) (fresh_words e w)) (ends (refused bad_count) (empty_control e (no_link e) 0 0) w)

-- the rebuild: "granted .. otherwise 2 (or 1 ..), with set-up's empty record and no word changed"
abbrev pub rebuild_says : ℕ → Answer
rebuild_says zero = done
rebuild_says (suc zero) = refused bad_count
rebuild_says (suc (suc n)) = refused unsound

-- w is the arena, start its address modulo 4,096
unfoldable pub rebuild_a : Edition → List ℕ → ℕ → Ends
rebuild_a e w start = let x = rebuild_b e w start in ends (rebuild_says x.refusal) (numbers_of x.image) x.words
