-- NO SECOND OUTCOME: an answer and a record of the code can be read back from what they say, so two that say the same are one. Assumes
-- nothing.
use Rattle.std.specs.Prelude.{◌≡◌, refl, List, [], ◌∷◌, ℕ, Result, Ok, Err, ⊤}
use Rattle.std.proofs.Common.{sym, ◌∙◌, ap}
use Rattle.words.specs.Edition.{wide}
use Rattle.rules.specs.Calls as rules
use Rattle.holds.specs.Holds as holds
use Rattle.chunk.specs.declared.access.BlockOff.{BlockOff}
use Rattle.chunk.specs.declared.access.ChunkOff.{ChunkOff}
use Rattle.calls.specs.ByValue.{Ends, ends, call_a, set_up_a}
use Rattle.arena.specs.Answers.{reason_of, answer_of}
use Rattle.arena.specs.Record.{offsets, numbers}
use Rattle.arena.specs.declared.control.Control.{Control}
use Rattle.arena.specs.Answers.{Answer, Granted, Done, Bytes, Refused, block_answer, done_answer, bytes_answer}
use Rattle.arena.specs.declared.answers.Reason.{Reason}
use Rattle.arena.specs.declared.answers.Reason.TheVariants.{BadCount, Unsound, BadAlignment, TooMany, NotLive, NoRoom}
use Rattle.promises.specs.Promises.{Settled}

-- ---- answers

abbrev reason : rules.Reason → Reason
reason rules.bad_count = BadCount
reason rules.unsound = Unsound
reason rules.bad_alignment = BadAlignment
reason rules.too_many = TooMany
reason (rules.not_live off) = NotLive record { 0 = off }
reason rules.no_room = NoRoom

abbrev answer : rules.Answer → Answer
answer (rules.granted off) = Granted record { 0 = off }
answer rules.done = Done
answer (rules.bytes n) = Bytes n
answer (rules.refused why) = Refused (reason why)

reason_back : (why : Reason) → reason (reason_of why) ≡ why
reason_back BadCount = refl
reason_back Unsound = refl
reason_back BadAlignment = refl
reason_back TooMany = refl
reason_back (NotLive b) = refl
reason_back NoRoom = refl

answer_back : (a : Answer) → answer (answer_of a) ≡ a
answer_back (Granted b) = refl
answer_back Done = refl
answer_back (Bytes n) = refl
answer_back (Refused why) = ap Refused (reason_back why)

-- ---- the calls' results: two of one call that say the same are one

abbrev block : rules.Answer → Result BlockOff Reason
block (rules.granted off) = Ok record { 0 = off }
block rules.done = Err NoRoom
block (rules.bytes n) = Err NoRoom
block (rules.refused why) = Err (reason why)

block_back : (x : Result BlockOff Reason) → block (block_answer x) ≡ x
block_back (Ok b) = refl
block_back (Err why) = ap Err (reason_back why)

abbrev finish : rules.Answer → Result ⊤ Reason
finish (rules.granted off) = Err NoRoom
finish rules.done = Ok tt
finish (rules.bytes n) = Err NoRoom
finish (rules.refused why) = Err (reason why)

finish_back : (x : Result ⊤ Reason) → finish (done_answer x) ≡ x
finish_back (Ok x) = refl
finish_back (Err why) = ap Err (reason_back why)

abbrev count : rules.Answer → Result ℕ Reason
count (rules.granted off) = Err NoRoom
count rules.done = Err NoRoom
count (rules.bytes n) = Ok n
count (rules.refused why) = Err (reason why)

count_back : (x : Result ℕ Reason) → count (bytes_answer x) ≡ x
count_back (Ok n) = refl
count_back (Err why) = ap Err (reason_back why)

one_block : (x x' : Result BlockOff Reason) → block_answer x ≡ block_answer x' → x ≡ x'
one_block x x' q = sym (block_back x) ∙ ap block q ∙ block_back x'

pub one_done : (x x' : Result ⊤ Reason) → done_answer x ≡ done_answer x' → x ≡ x'
one_done x x' q = sym (finish_back x) ∙ ap finish q ∙ finish_back x'

one_bytes : (x x' : Result ℕ Reason) → bytes_answer x ≡ bytes_answer x' → x ≡ x'
one_bytes x x' q = sym (count_back x) ∙ ap count q ∙ count_back x'

-- ---- records

abbrev links : List ℕ → List ChunkOff
links [] = []
links (x ∷ xs) = record { 0 = x } ∷ links xs

links_back : (xs : List ChunkOff) → links (offsets xs) ≡ xs
links_back [] = refl
links_back (x ∷ xs) = ap (λ z. x ∷ z) (links_back xs)

abbrev pub control : holds.Control → Control
control c =
    record {
      smallmap = c.small_map;
      treemap = c.tree_map;
      smallbins = links c.heads;
      treebins = links c.roots;
      dv = record { 0 = c.dv };
      dvsize = c.dv_size;
      top = record { 0 = c.top };
      topsize = c.top_size;
      length = c.length;
    }

with_links : Control → List ChunkOff → List ChunkOff → Control
with_links c hs ts =
    record {
      smallmap = c.smallmap;
      treemap = c.treemap;
      smallbins = hs;
      treebins = ts;
      dv = c.dv;
      dvsize = c.dvsize;
      top = c.top;
      topsize = c.topsize;
      length = c.length;
    }

pub control_back : (c : Control) → control (numbers c) ≡ c
unfolding with_links
control_back c = ap (λ z. with_links c z (links (offsets c.treebins))) (links_back c.smallbins)
    ∙ ap (with_links c c.smallbins) (links_back c.treebins)

-- ---- outcomes

-- In any type A whose values are told by what they say, two outcomes that are both t are one.
pub one_in : {A : Type 0} (say : A → rules.Answer) → ((a a' : A) → say a ≡ say a' → a ≡ a')
    → (t : Ends) (d d' : Control) (v v' : List ℕ) (a a' : A) → ends (say a) (numbers d) v ≡ t → ends (say a') (numbers d') v' ≡ t
    → (a ≡ a') × (d ≡ d') × (v ≡ v')
one_in say told t d d' v v' a a' p q =
    let z = p ∙ sym q in (
      told a a' (ap (λ (x : Ends). x.answer) z),
      sym (control_back d)
          ∙ ap (λ (x : Ends). control x.control) z ∙ control_back d',
      ap (λ (x : Ends). x.words) z,
    )

pub one : (t : Ends) (d d' : Control) (v v' : List ℕ) (a a' : Answer) → ends (answer_of a) (numbers d) v ≡ t
    → ends (answer_of a') (numbers d') v' ≡ t → (a ≡ a') × (d ≡ d') × (v ≡ v')
one = one_in answer_of (λ a a' q. sym (answer_back a) ∙ ap answer q ∙ answer_back a')

pub settled : Settled
settled =
    record {
      block = λ c d d' w v v' k x x' p q. one_in block_answer one_block (call_a wide (numbers c) w k) d d' v v' x x' p q;
      done = λ c d d' w v v' k x x' p q. one_in done_answer one_done (call_a wide (numbers c) w k) d d' v v' x x' p q;
      bytes = λ c d d' w v v' k x x' p q. one_in bytes_answer one_bytes (call_a wide (numbers c) w k) d d' v v' x x' p q;
      fresh = λ d d' w v v' x x' p q. one_in done_answer one_done (set_up_a wide w) d d' v v' x x' p q;
      call = λ c d d' w v v' k a a' p q. one (call_a wide (numbers c) w k) d d' v v' a a' p q;
      set_up = λ d d' w v v' a a' p q. one (set_up_a wide w) d d' v v' a a' p q;
      one_block = one_block;
      one_done = one_done;
      one_bytes = one_bytes;
    }
