-- HISTORIES: from a record and an arena that hold a heap, any list of calls, granted or refused, with any numbers, and of owners' writes in their own live
-- blocks. Every answer is the rules' answer, so none is refused as unsound; record and arena hold the rules' heap throughout. Answers are
-- swayed by that heap and the number of words alone. Once no block is in use the record is the fresh one, and every later list of calls is
-- answered as a fresh arena of that length answers it. By `call_obeys`, the check that is exact, and `owner_writes`. Assumes nothing.
use Rattle.std.specs.Prelude.{◌≡◌, List, [], ◌∷◌, ℕ, ◌+◌, ◌*◌, ◌/◌, ltb, length, set}
use Rattle.words.specs.Logic.{pick}
use Rattle.words.specs.Edition.{Edition, W}
use Rattle.tiling.specs.Steps.{fresh_words}
use Rattle.rules.specs.Heap.{Heap}
use Rattle.rules.specs.Calls.{Call, Answer, done, Outcome, answer_to}
use Rattle.holds.specs.Holds.{Control, Holds, fresh_control}
use Rattle.sound.specs.SoundBytes.{live_b, usable_b}
use Rattle.calls.specs.CallBytes.{Still}
use Rattle.calls.specs.ByValue.{Ends, call_a, rebuild_a}
use Rattle.calls.specs.Rebuilds.{remade}

-- the record and the arena between two calls
pub record Box : Type 0 where
  pub control : Control
  pub words : List ℕ

abbrev pub box : Control → List ℕ → Box
box c w = record { control = c; words = w }

pub data Event : Type 0 where
  asks : Call → Event
  writes : ℕ → ℕ → ℕ → Event  -- the owner of the block at this offset puts, into its word k, the value v
  rebuilds : Event  -- the record is lost, and made anew from the words

-- word k of the live block at the offset; elsewhere it is no owner's write, and nothing happens
abbrev pub write_b : Edition → Box → ℕ → ℕ → ℕ → List ℕ
write_b e s off k v = pick (live_b e s.words s.control.top off) (pick (ltb (W e * k) (usable_b e s.words off)) (set s.words (off / W e + k) v) s.words) s.words

abbrev pub asked : Edition → Box → Call → Box
asked e s c = let t = call_a e s.control s.words c in box t.control t.words

-- the record is made anew, with the set-up's start
abbrev pub remade_box : Edition → Box → Box
remade_box e s = let t = rebuild_a e s.words 0 in box t.control t.words

-- what is left after all
abbrev pub after : Edition → Box → List Event → Box
after e s [] = s
after e s (asks c ∷ es) = after e (asked e s c) es
after e s (writes off k v ∷ es) = after e (box s.control (write_b e s off k v)) es
after e s (rebuilds ∷ es) = after e (remade_box e s) es

abbrev pub answers : Edition → Box → List Event → List Answer
answers e s [] = []
answers e s (asks c ∷ es) = (call_a e s.control s.words c).answer ∷ answers e (asked e s c) es
answers e s (writes off k v ∷ es) = answers e (box s.control (write_b e s off k v)) es
answers e s (rebuilds ∷ es) = (rebuild_a e s.words 0).answer ∷ answers e (remade_box e s) es

-- the same of the rules, on a heap in n words: an owner's writes are none of theirs
abbrev pub heap_after : Edition → ℕ → Heap → List Event → Heap
heap_after e n h [] = h
heap_after e n h (asks c ∷ es) = heap_after e n (answer_to e n h c).heap es
heap_after e n h (writes off k v ∷ es) = heap_after e n h es
heap_after e n h (rebuilds ∷ es) = heap_after e n (remade e h) es

abbrev pub ruled : Edition → ℕ → Heap → List Event → List Answer
ruled e n h [] = []
ruled e n h (asks c ∷ es) = (answer_to e n h c).answer ∷ ruled e n (answer_to e n h c).heap es
ruled e n h (writes off k v ∷ es) = ruled e n h es
ruled e n h (rebuilds ∷ es) = done ∷ ruled e n (remade e h) es

abbrev pub HeldIn : Edition → Box → Heap → Type 0
HeldIn e s h = Holds e s.control s.words h

-- what a call hands back is the rule's outcome; a refusal or a look hands back what was given
pub record Does (e : Edition) (s : Box) (t : Ends) (o : Outcome) : Type 0 where
  pub answer : t.answer ≡ o.answer
  pub held : Holds e t.control t.words o.heap
  pub count : length t.words ≡ length s.words
  pub left : Still t.answer → (t.control ≡ s.control) × (t.words ≡ s.words)

pub record Written (e : Edition) (s : Box) (h : Heap) (v : List ℕ) : Type 0 where
  pub held : HeldIn e (box s.control v) h
  pub count : length v ≡ length s.words

pub record Goes (e : Edition) (s : Box) (h : Heap) (es : List Event) : Type 0 where
  pub answered : answers e s es ≡ ruled e (length s.words) h es
  pub held : HeldIn e (after e s es) (heap_after e (length s.words) h es)
  pub count : length (after e s es).words ≡ length s.words

abbrev pub set_up_on : Edition → List ℕ → Box
set_up_on e w = box (fresh_control e (length w)) (fresh_words e w)
