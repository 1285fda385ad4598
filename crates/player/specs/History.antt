-- THE ANSWERS ARE THOSE OF A HISTORY: from a granted set-up on, up to the next granted one, the calls' lines say what the calls of `arena`
-- answer one after the other on an arena of that many words, whatever it held before (`as_a_history`); none says 2 (`never_unsound`). By
-- `from_set_up`. Assumes nothing.
use Rattle.std.specs.Prelude.{◌≡◌, ℕ, ◌*◌, ◌/◌, ◌%◌, ◌≤◌, false, List, [], ◌∷◌, map, length, ◌≢◌, nat_lt, refl}
use Rattle.std.proofs.Math.Option.{Option, none, some}
use Rattle.std.proofs.Common.{sym, ap, ◌∙◌, arith, length-set}
use Rattle.words.specs.Logic.{pick_case}
use Rattle.words.specs.Edition.{wide, W}
use Rattle.index.specs.Sizes.{need_words}
use Rattle.rules.specs.Heap.{Heap, fresh_heap}
use Rattle.rules.specs.Calls as rules
use Rattle.rules.specs.Calls.{Call, Answer, Outcome, allowed_count, is_in, alignments, place_of, live_size, grant_or6, moved_or6, free_call}
use Rattle.rules.specs.Calls.{realloc_call, usable_call, unless_too_many, answer_to}
use Rattle.rules.specs.Malloc.{Grant, malloc}
use Rattle.rules.specs.Realloc.{realloc}
use Rattle.rules.specs.Memalign.{memalign}
use Rattle.calls.specs.CallBytes.{refusal}
use Rattle.calls.specs.Histories.{Event, asks, answers, ruled, set_up_on}
use Rattle.calls.proofs.Histories.{from_set_up}
use Rattle.box_log.specs.declared.entry.Entry.{Entry}
use Rattle.box_log.specs.declared.entry.Entry.TheVariants.{Setup, Malloc, Free, Realloc, Memalign, Odd}
use Rattle.player.specs.Replayed.{Work, busy, Line, offset_of, set_up, line_of}

-- what a line says
pub record Says : Type 0 where
  pub refusal : ℕ
  pub offset : ℕ

abbrev pub says : Answer → Says
says a = record { refusal = refusal a; offset = offset_of a }

abbrev pub told : Line → Says
told l = record { refusal = l.refusal; offset = l.offset }

-- what the calls' lines say, those of other forms and of set-ups left out
abbrev pub call_lines : Work → List Entry → List Says
call_lines s [] = []
call_lines s (Odd ∷ es) = call_lines s es
call_lines s (Setup n ∷ es) = call_lines (set_up s n).work es
call_lines s (Malloc n ∷ es) = told (line_of s (Malloc n)) ∷ call_lines (line_of s (Malloc n)).work es
call_lines s (Free off ∷ es) = told (line_of s (Free off)) ∷ call_lines (line_of s (Free off)).work es
call_lines s (Realloc off n ∷ es) = told (line_of s (Realloc off n)) ∷ call_lines (line_of s (Realloc off n)).work es
call_lines s (Memalign a n ∷ es) = told (line_of s (Memalign a n)) ∷ call_lines (line_of s (Memalign a n)).work es

-- the calls, as events of a history
abbrev pub events : List Entry → List Event
events [] = []
events (Odd ∷ es) = events es
events (Setup n ∷ es) = events es
events (Malloc n ∷ es) = asks (rules.Malloc n) ∷ events es
events (Free off ∷ es) = asks (rules.Free off) ∷ events es
events (Realloc off n ∷ es) = asks (rules.Realloc off n) ∷ events es
events (Memalign a n ∷ es) = asks (rules.Memalign a n) ∷ events es

-- no set-up among them is granted
abbrev pub NoneGranted : List Entry → Type 0
NoneGranted [] = Unit {0}
NoneGranted (Setup n ∷ es) = (allowed_count n ≡ false) × NoneGranted es
NoneGranted (Malloc n ∷ es) = NoneGranted es
NoneGranted (Free off ∷ es) = NoneGranted es
NoneGranted (Realloc off n ∷ es) = NoneGranted es
NoneGranted (Memalign a n ∷ es) = NoneGranted es
NoneGranted (Odd ∷ es) = NoneGranted es

stays : (s : Work) (n : ℕ) → allowed_count n ≡ false → (set_up s n).work ≡ s
stays s n q = rw q refl

lines_ruled : (n : ℕ) (h : Heap) (es : List Entry) → NoneGranted es → call_lines (busy n h) es ≡ map says (ruled wide n h (events es))
lines_ruled n h [] g = refl
lines_ruled n h (Odd ∷ es) g = lines_ruled n h es g
lines_ruled n h (Setup k ∷ es) g = ap (λ s. call_lines s es) (stays (busy n h) k g.0) ∙ lines_ruled n h es g.1
lines_ruled n h (Malloc k ∷ es) g = ap (λ z. told (line_of (busy n h) (Malloc k)) ∷ z)
    (lines_ruled n (answer_to wide n h (rules.Malloc k)).heap es g)
lines_ruled n h (Free off ∷ es) g = ap (λ z. told (line_of (busy n h) (Free off)) ∷ z)
    (lines_ruled n (answer_to wide n h (rules.Free off)).heap es g)
lines_ruled n h (Realloc off k ∷ es) g = ap (λ z. told (line_of (busy n h) (Realloc off k)) ∷ z)
    (lines_ruled n (answer_to wide n h (rules.Realloc off k)).heap es g)
lines_ruled n h (Memalign a k ∷ es) g = ap (λ z. told (line_of (busy n h) (Memalign a k)) ∷ z)
    (lines_ruled n (answer_to wide n h (rules.Memalign a k)).heap es g)

-- "a granted one starts demand 3's history anew"
pub as_a_history : (w : List ℕ) → length w % 2 ≡ 0 → 16 ≤ length w → length w ≤ 8192 → (es : List Entry) → NoneGranted es
    → call_lines (busy (length w) (fresh_heap (length w))) es ≡ map says (answers wide (set_up_on wide w) (events es))
as_a_history w a b c es g =
    let same : length (set_up_on wide w).words ≡ length w = simp length-set refl in
    lines_ruled (length w) (fresh_heap (length w)) es g
    ∙ ap (map says) (ap (λ k. ruled wide k (fresh_heap (length w)) (events es)) (sym same)
    ∙ sym (from_set_up wide w a b c (events es)).answered)

-- ---- none says 2 from the first granted set-up on

abbrev Sure : Answer → Type 0
Sure a = refusal a ≡ 2 → ⊥

module _ (n : ℕ) (h : Heap) where
  grant_sure : (o : Option Grant) → Sure (grant_or6 wide h o).answer
  grant_sure none = λ q. omega (arith, q)
  grant_sure (some g) = λ q. omega (arith, q)

  move_sure : (p t : ℕ) (o : Option Grant) → Sure (moved_or6 wide h p t o).answer
  move_sure p t none = λ q. omega (arith, q)
  move_sure p t (some g) = λ q. omega (arith, q)

  few_sure : (k : ℕ) (o : Outcome) → Sure o.answer → Sure (unless_too_many wide n h k o).answer
  few_sure k o f = pick_case (λ (x : Outcome). Sure x.answer) (nat_lt (W wide * n) k) (λ z q. omega (arith, q)) (λ z. f)

  free_sure : (o : Option ℕ) (off : ℕ) → Sure (free_call wide h o off).answer
  free_sure none off = λ q. omega (arith, q)
  free_sure (some t) off = λ q. omega (arith, q)

  usable_sure : (o : Option ℕ) (off : ℕ) → Sure (usable_call wide h o off).answer
  usable_sure none off = λ q. omega (arith, q)
  usable_sure (some t) off = λ q. omega (arith, q)

  realloc_sure : (o : Option ℕ) (off k : ℕ) → Sure (realloc_call wide h o off k).answer
  realloc_sure none off k = λ q. omega (arith, q)
  realloc_sure (some t) off k = move_sure (place_of wide off) t (realloc wide h (place_of wide off) (need_words (W wide) k))

  pub sure : (c : Call) → Sure (answer_to wide n h c).answer
  sure (rules.Malloc k) = few_sure k (grant_or6 wide h (malloc wide h (need_words (W wide) k)))
      (grant_sure (malloc wide h (need_words (W wide) k)))
  sure (rules.Free off) = free_sure (live_size wide 0 h.chunks off) off
  sure (rules.Realloc off k) = few_sure k (realloc_call wide h (live_size wide 0 h.chunks off) off k)
      (realloc_sure (live_size wide 0 h.chunks off) off k)
  sure (rules.Memalign al k) =
      pick_case (λ (x : Outcome). Sure x.answer) (is_in al (alignments wide))
      (λ z. few_sure k (grant_or6 wide h (memalign wide h (al / W wide) (need_words (W wide) k)))
      (grant_sure (memalign wide h (al / W wide) (need_words (W wide) k))))
      (λ z q. omega (arith, q))
  sure (rules.Usable off) = usable_sure (live_size wide 0 h.chunks off) off

abbrev pub NoneTwo : List Says → Type 0
NoneTwo [] = Unit {0}
NoneTwo (x ∷ xs) = (x.refusal ≢ 2) × NoneTwo xs

pub never_unsound : (n : ℕ) (h : Heap) (es : List Entry) → NoneTwo (call_lines (busy n h) es)
never_unsound n h [] = tt
never_unsound n h (Odd ∷ es) = never_unsound n h es
never_unsound n h (Setup k ∷ es) =
    pick_case (λ (x : Line). NoneTwo (call_lines x.work es)) (allowed_count k) (λ z. never_unsound k (fresh_heap k) es)
    (λ z. never_unsound n h es)
never_unsound n h (Malloc k ∷ es) = (sure n h (rules.Malloc k), never_unsound n (answer_to wide n h (rules.Malloc k)).heap es)
never_unsound n h (Free off ∷ es) = (sure n h (rules.Free off), never_unsound n (answer_to wide n h (rules.Free off)).heap es)
never_unsound n h (Realloc off k ∷ es) = (
  sure n h (rules.Realloc off k),
  never_unsound n (answer_to wide n h (rules.Realloc off k)).heap es,
)
never_unsound n h (Memalign a k ∷ es) = (sure n h (rules.Memalign a k), never_unsound n (answer_to wide n h (rules.Memalign a k)).heap es)
