-- THE CALLS OVER WORDS: the number that each C function returns, and what it leaves in the record's words, in the arena and in the answer's words, for
-- all inputs. A record of another length than 72 or an answer shorter than 2 is refused with 2 and nothing is written. Assumes nothing.
use Rattle.std.specs.Prelude.{◌≡◌, Bool, true, ◌&&◌, List, ℕ, ◌/◌, eqb, leb, length, get_or, set}
use Rattle.words.specs.Logic.{pick}
use Rattle.words.specs.Edition.{wide}
use Rattle.rules.specs.Calls.{Call, Reason, bad_count, unsound, bad_alignment, too_many, not_live, no_room, Answer, granted, done, bytes, refused, allowed_count}
use Rattle.sound.specs.SoundBytes.{sound_b}
use Rattle.calls.specs.CallBytes.{Told, refusal, call_b}
use Rattle.calls.specs.Record.{reads, image}
use Rattle.calls.specs.ByValue.{Ends, set_up_a, rebuild_a}
use Rattle.batch.specs.BatchBytes.{Batched, batch_b}

-- the number returned, the record's words, the arena's, the answer's
pub record Said : Type 0 where
  pub number : ℕ
  pub image : List ℕ
  pub words : List ℕ
  pub out : List ℕ

abbrev pub said : ℕ → List ℕ → List ℕ → List ℕ → Said
said n r w o = record { number = n; image = r; words = w; out = o }

-- ---- the answer as two words

abbrev pub refused_value : Reason → ℕ
refused_value bad_count = 0
refused_value unsound = 0
refused_value bad_alignment = 0
refused_value too_many = 0
refused_value (not_live off) = off
refused_value no_room = 0

abbrev pub value_of : Answer → ℕ
value_of (granted off) = off
value_of done = 0
value_of (bytes n) = n
value_of (refused why) = refused_value why

unfoldable pub out_of : List ℕ → Answer → List ℕ
out_of out a = set (set out 0 (refusal a)) 1 (value_of a)

-- ---- the calls

unfoldable pub lent_ok : ℕ → ℕ → Bool
lent_ok m n = eqb m 72 && leb 2 n

-- enough words were lent, the record's eighth word is 0, and the answer's words are as they were
abbrev pub Taken : List ℕ → List ℕ → List ℕ → Type 0
Taken r out out' = (lent_ok (length r) (length out) ≡ true) × (get_or r 7 0 ≡ 0) × (out' ≡ out)

-- the record's words, the eighth of them 0
unfoldable pub copied : List ℕ → List ℕ
copied r = reads (set r 7 0) 0 72

-- "an eighth word other than 0 is not sound"; row 1 comes first
unfoldable pub odd_record : ℕ → Answer
odd_record words = refused (pick (allowed_count words) unsound bad_count)

abbrev pub tell_c : List ℕ → Told → Said
tell_c out t = said (refusal t.answer) (copied t.image) t.words (out_of out t.answer)

abbrev pub refusing : List ℕ → List ℕ → List ℕ → Answer → Said
refusing r w out a = said (refusal a) r w (out_of out a)

unfoldable pub call_c : List ℕ → List ℕ → List ℕ → Call → Said
call_c r w out k = pick (lent_ok (length r) (length out)) (pick (eqb (get_or r 7 0) 0) (tell_c out (call_b wide r w k)) (refusing r w out (odd_record (length w)))) (said 2 r w out)

abbrev pub set_c : List ℕ → Ends → Said
set_c out t = said (refusal t.answer) (copied (image t.control)) t.words (out_of out t.answer)

unfoldable pub set_up_c : List ℕ → List ℕ → List ℕ → Said
set_up_c r w out = pick (lent_ok (length r) (length out)) (set_c out (set_up_a wide w)) (said 2 r w out)

-- the rebuild: the record that was lent is not read
unfoldable pub rebuild_c : List ℕ → List ℕ → List ℕ → ℕ → Said
rebuild_c r w out start = pick (lent_ok (length r) (length out)) (set_c out (rebuild_a wide w start)) (said 2 r w out)

-- 0 for a sound pair, else the number of the refusal that every call would give
unfoldable pub sound_c : List ℕ → List ℕ → ℕ
sound_c r w = pick (eqb (length r) 72) (pick (allowed_count (length w)) (pick (eqb (get_or r 7 0) 0 && sound_b wide r w) 0 2) 1) 2

-- ---- the batch: the list of calls is read, that for the answers written; the value is the number of answers

pub record Ran : Type 0 where
  pub number : ℕ
  pub image : List ℕ
  pub words : List ℕ
  pub out : List ℕ
  pub answers : List ℕ

abbrev pub ran : ℕ → List ℕ → List ℕ → List ℕ → List ℕ → Ran
ran n r w o xs = record { number = n; image = r; words = w; out = o; answers = xs }

-- none where the whole is refused
unfoldable pub answered : ℕ → ℕ → ℕ
answered n calls = pick (eqb n 0) (calls / 3) 0

unfoldable pub count_out : List ℕ → ℕ → ℕ → List ℕ
count_out out n calls = set (set out 0 n) 1 (answered n calls)

abbrev pub tell_batch : List ℕ → ℕ → Batched → Ran
tell_batch out calls b = ran b.refusal (copied b.image) b.words (count_out out b.refusal calls) b.answers

abbrev pub odd_batch : List ℕ → List ℕ → List ℕ → List ℕ → Answer → Ran
odd_batch r w out xs a = ran (refusal a) r w (out_of out a) xs

unfoldable pub batch_c : List ℕ → List ℕ → List ℕ → List ℕ → List ℕ → Ran
batch_c r w out cs xs =
    pick (lent_ok (length r) (length out))
    (pick (eqb (get_or r 7 0) 0) (tell_batch out (length cs) (batch_b wide r w cs xs)) (odd_batch r w out xs (odd_record (length w)))) (ran 2 r w out xs)
