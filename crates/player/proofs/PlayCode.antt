-- One record on the words: one law for each return, what the tests and the callees have told put together as the definition says it.
-- Assumes nothing.
use Rattle.std.proofs.Common.{Result, Ok, Err, ◌≡◌, ◌≢◌, ⊎_elim, ℕ, ◌<◌, ◌≤◌, Bool, true, false, not, eqb, leb, List, ◌++◌, length, take, drop, sym, refl, ap, ◌∙◌, le-ltb, lt-ltb, ne_eqb, leb-true}
use borrow.Author.Tests.{not-true, not-false}
use Rattle.std.specs.Bool.{⊤}
use Rattle.words.specs.Logic.{same?}
use Rattle.words.specs.Edition.{wide}
use Rattle.rules.specs.Calls as rules
use Rattle.rules.specs.Calls.{Call, Answer, refused, unsound, bad_count}
use Rattle.holds.specs.Holds.{Control}
use Rattle.decides.specs.MarksLaws.{and_right}
use Rattle.calls.specs.CallBytes.{told, refusal, call_b}
use Rattle.calls.specs.Record.{image}
use Rattle.calls.specs.ByValue.{ends, set_up_a}
use Rattle.arena.specs.Answers.{answer_in, done_answer, number_in}
use Rattle.arena.specs.declared.answers.Reason.{Reason}
use Rattle.box_log.specs.declared.entry.Entry.{Entry}
use Rattle.box_log.specs.declared.entry.Entry.TheVariants.{Setup, Malloc, Free, Realloc, Memalign, Odd}
use Rattle.player.specs.Replayed.{offset_of}
use Rattle.player.specs.PlayBytes.{Scene, scene, said, shown, is_ready, heard, call_on, begun, set_up_of, play_b}
use Rattle.player.specs.declared.play.Played.{Played}

pub shown_is : (words : ℕ) (a : Answer) {n k : ℕ} → n ≡ refusal a → k ≡ offset_of a → said words n k ≡ shown words a
shown_is words a {n} {k} p q = ap (λ z. said words z k) p ∙ ap (said words (refusal a)) q

-- a result's number is that of its answer
pub number_says : {T : Type 0} (says : T → Answer) → ((x : T) → refusal (says x) ≡ 0) → (a : Result T Reason)
    → number_in a ≡ refusal (answer_in says a)
number_says says grants (Ok x) = sym (grants x)
number_says says grants (Err why) = refl

-- ---- whether there is an arena at work

module _ (words room : ℕ) where
  pub ready_none : (words ≢ 0 → ⊥) → not (eqb words 0) ≡ is_ready words room
  unfolding is_ready
  ready_none n = ⊎_elim (λ z. rw z refl) (λ z. absurd (n z)) (same? words 0)

  pub ready_is : words ≢ 0 → leb words room ≡ is_ready words room
  unfolding is_ready
  ready_is n = sym (rw (ne_eqb words 0 n) refl)

  pub ready_room : {x : Bool} → x ≡ is_ready words room → x ≡ true → words ≤ room
  unfolding is_ready
  ready_room e t = leb-true words room (and_right (not (eqb words 0)) (leb words room) (sym e ∙ t))

-- ---- a call

module _ (words : ℕ) (r v : List ℕ) (c : Call) {x : Bool} (e : x ≡ is_ready words (length v)) where
  pub call_lost : {p : Played} → x ≡ false → p ≡ shown words (refused unsound) → scene p r v ≡ call_on words r v c
  unfolding call_on
  call_lost q s = ap (λ z. scene z r v) s ∙ sym (rw (sym e ∙ q) refl)

  pub call_heard : (a : Answer) (r' w' : List ℕ) {p : Played} → x ≡ true → told a r' w' ≡ call_b wide r (take words v) c
      → p ≡ shown words a
      → scene p r' (w' ++ drop words v) ≡ call_on words r v c
  unfolding call_on
  call_heard a r' w' t q s =
      ap (λ z. scene z r' (w' ++ drop words v)) s ∙ ap (heard words v) q ∙ sym (rw (sym e ∙ t) refl)

-- ---- set-up

module _ (words : ℕ) (r v : List ℕ) (n : ℕ) where
  pub set_up_far : {p : Played} → length v < n → p ≡ shown words (refused bad_count) → scene p r v ≡ set_up_of words r v n
  unfolding set_up_of
  set_up_far l s = ap (λ z. scene z r v) s ∙ sym (rw (lt-ltb (length v) n l) refl)

  -- what the answer makes of it
  set_up_heard : (a : Answer) (d : Control) (w' : List ℕ) → n ≤ length v → ends a d w' ≡ set_up_a wide (take n v)
      → begun words r v n (ends a d w') a ≡ set_up_of words r v n
  unfolding set_up_of
  set_up_heard a d w' l q =
      ap (λ z. begun words r v n z z.answer) q ∙ sym (rw (le-ltb (length v) n l) refl)

module _ (words : ℕ) (r v : List ℕ) (n : ℕ) (a : Result ⊤ Reason) (d : Control) (w' : List ℕ) (l : n ≤ length v)
    (q : ends (done_answer a) d w' ≡ set_up_a wide (take n v)) where
  is_begun : (b : Result ⊤ Reason) → a ≡ b → begun words r v n (ends (done_answer b) d w') (done_answer b) ≡ set_up_of words r v n
  is_begun b g = set_up_heard words r v n (done_answer b) d w' l (ap (λ z. ends (done_answer z) d w') (sym g) ∙ q)

  pub set_up_done : {x : ⊤} {m : List ℕ} {p : Played} → a ≡ Ok x → m ≡ image d → p ≡ shown n (done_answer a)
      → scene p m (w' ++ drop n v) ≡ set_up_of words r v n
  set_up_done {x} {p = p} g i s =
      ap (λ z. scene p z (w' ++ drop n v)) i
      ∙ ap (λ z. scene z (image d) (w' ++ drop n v)) (s ∙ ap (λ z. shown n (done_answer z)) g)
      ∙ is_begun (Ok x) g

  pub set_up_refused : {why : Reason} {p : Played} → a ≡ Err why → p ≡ shown words (done_answer a)
      → scene p r (w' ++ drop n v) ≡ set_up_of words r v n
  set_up_refused {why} g s =
      ap (λ z. scene z r (w' ++ drop n v)) (s ∙ ap (λ z. shown words (done_answer z)) g) ∙ is_begun (Err why) g

-- ---- a record

module _ {e : Entry} (words : ℕ) (r v : List ℕ) {s : Scene} where
  is : (f : Entry) → e ≡ f → s ≡ play_b f words r v → s ≡ play_b e words r v
  is f g q = q ∙ ap (λ z. play_b z words r v) (sym g)

  pub play_setup : {n : ℕ} → e ≡ Setup n → s ≡ set_up_of words r v n → s ≡ play_b e words r v
  play_setup {n} g q = is (Setup n) g q

  pub play_malloc : {n : ℕ} → e ≡ Malloc n → s ≡ call_on words r v (rules.Malloc n) → s ≡ play_b e words r v
  play_malloc {n} g q = is (Malloc n) g q

  pub play_free : {off : ℕ} → e ≡ Free off → s ≡ call_on words r v (rules.Free off) → s ≡ play_b e words r v
  play_free {off} g q = is (Free off) g q

  pub play_realloc : {off n : ℕ} → e ≡ Realloc off n → s ≡ call_on words r v (rules.Realloc off n) → s ≡ play_b e words r v
  play_realloc {off} {n} g q = is (Realloc off n) g q

  pub play_memalign : {a n : ℕ} → e ≡ Memalign a n → s ≡ call_on words r v (rules.Memalign a n) → s ≡ play_b e words r v
  play_memalign {a} {n} g q = is (Memalign a n) g q

pub play_odd : {e : Entry} (words : ℕ) (r v : List ℕ) → e ≡ Odd → scene (said words 9 0) r v ≡ play_b e words r v
play_odd words r v g = ap (λ z. play_b z words r v) (sym g)

-- a call before any granted set-up
pub play_lost : {e : Entry} (words : ℕ) (r v : List ℕ) {p : Played} {x : Bool} → ((n : ℕ) → e ≡ Setup n → ⊥) → (e ≡ Odd → ⊥)
    → x ≡ is_ready words (length v) → x ≡ false → p ≡ shown words (refused unsound) → scene p r v ≡ play_b e words r v
play_lost {e = Setup n} words r v f g t q s = absurd (f n refl)
play_lost {e = Malloc n} words r v f g t q s = call_lost words r v (rules.Malloc n) t q s
play_lost {e = Free off} words r v f g t q s = call_lost words r v (rules.Free off) t q s
play_lost {e = Realloc off n} words r v f g t q s = call_lost words r v (rules.Realloc off n) t q s
play_lost {e = Memalign a n} words r v f g t q s = call_lost words r v (rules.Memalign a n) t q s
play_lost {e = Odd} words r v f g t q s = absurd (g refl)

pub ruleset laws = (
  shown_is,
  ready_none,
  ready_is,
  ready_room,
  call_heard,
  set_up_far,
  set_up_done,
  set_up_refused,
  play_setup,
  play_malloc,
  play_free,
  play_realloc,
  play_memalign,
  play_odd,
  play_lost,
  not-true,
  not-false,
)
