-- THE OUTPUT AS A FUNCTION OF THE LOG, document 02 (viii), by the rules alone: no word of an arena, no byte step, no piece. Assumes
-- nothing.
use Rattle.std.specs.Prelude.{ℕ, ◌+◌, List, [], ◌∷◌, ◌++◌}
use Rattle.words.specs.Logic.{pick}
use Rattle.words.specs.Edition.{wide}
use Rattle.rules.specs.Heap.{Heap, fresh_heap}
use Rattle.rules.specs.Calls as rules
use Rattle.rules.specs.Calls.{Call, Answer, granted, done, bytes, refused, Outcome, allowed_count, answer_to}
use Rattle.calls.specs.CallBytes.{refusal}
use Rattle.box_log.specs.Answers.{header, answer_line}
use Rattle.box_log.specs.Cutting.{entries}
use Rattle.box_log.specs.declared.entry.Entry.{Entry}
use Rattle.box_log.specs.declared.entry.Entry.TheVariants.{Setup, Malloc, Free, Realloc, Memalign, Odd}

-- no set-up was granted yet; or the arena at work, its number of words and its heap
pub data Work : Type 0 where
  idle : Work
  busy : ℕ → Heap → Work

-- what a record's line says, and the work from then on
pub record Line : Type 0 where
  pub refusal : ℕ
  pub offset : ℕ
  pub work : Work

abbrev pub line : ℕ → ℕ → Work → Line
line n off s = record { refusal = n; offset = off; work = s }

-- "The offset is 0 but for a granted block"
abbrev pub offset_of : Answer → ℕ
offset_of (granted off) = off
offset_of done = 0
offset_of (bytes n) = 0
offset_of (refused why) = 0

-- a call's outcome on an arena of n words
abbrev pub after : ℕ → Outcome → Line
after n o = line (refusal o.answer) (offset_of o.answer) (busy n o.heap)

-- "A call before any granted set-up answers 2"
abbrev pub called : Work → Call → Line
called idle c = line 2 0 idle
called (busy n h) c = after n (answer_to wide n h c)

-- "a set-up of more words answers 1", as does any count that is not allowed. "A refused set-up leaves the arena at work as it is; a granted
-- one starts [the] history anew"
abbrev pub set_up : Work → ℕ → Line
set_up s n = pick (allowed_count n) (line 0 0 (busy n (fresh_heap n))) (line 1 0 s)

-- "A record of another form .. answers 9 and is skipped", before any set-up too
abbrev pub line_of : Work → Entry → Line
line_of s Odd = line 9 0 s
line_of s (Setup n) = set_up s n
line_of s (Malloc n) = called s (rules.Malloc n)
line_of s (Free off) = called s (rules.Free off)
line_of s (Realloc off n) = called s (rules.Realloc off n)
line_of s (Memalign a n) = called s (rules.Memalign a n)

-- the lines of records that are numbered from k on
unfoldable pub lines_from : ℕ → Work → List Entry → List ℕ
lines_from k s [] = []
lines_from k s (e ∷ es) = answer_line k (line_of s e).refusal (line_of s e).offset ++ lines_from (k + 1) (line_of s e).work es

-- the whole output: the header, and a line for each record, counted from 1
unfoldable pub replayed : List ℕ → List ℕ
replayed log = header ++ lines_from 1 idle (entries log)
