-- ONE RECORD DOES WHAT THE DEFINITION SAYS: where the words stand for the work, a record's line is the definition's, and the words then
-- stand for its work. By `call_obeys`, the check that is exact, and what a set-up holds. Assumes nothing.
use Rattle.std.specs.Prelude.{◌≡◌, ℕ, ◌%◌, ◌<◌, ◌≤◌, Bool, true, false, List, [], ◌++◌, length, take, drop}
use Rattle.std.proofs.Common.{⊎_elim, sym, ap, ◌∙◌, subst, arith, take-append-drop, length-set, length-take-le, take_at}
use Rattle.std.proofs.Math.Path.{refl}
use Rattle.std.proofs.Math.Seq.{length_front}
use borrow.Author.Tests.{le-leb, ne_eqb, lt-ltb, le-ltb}
use Rattle.words.specs.Logic.{le_or_lt}
use Rattle.words.specs.Edition.{wide, no_link}
use Rattle.tiling.specs.Steps.{fresh_words}
use Rattle.rules.specs.Heap.{Heap, fresh_heap}
use Rattle.rules.specs.Calls as rules
use Rattle.rules.specs.Calls.{Call, done, refused, bad_count, allowed_count, answer_to}
use Rattle.holds.specs.Holds.{Control, fresh_control}
use Rattle.holds.specs.Unique.{fresh_holds}
use Rattle.chunk.specs.Held.{Held}
use Rattle.calls.specs.CallBytes.{Told, refusal, core_call}
use Rattle.calls.specs.Counts.{count_allowed, count_range}
use Rattle.calls.specs.CallObeys.{Follows}
use Rattle.calls.proofs.CallObeys.{call_obeys}
use Rattle.calls.proofs.Histories.{let_through}
use Rattle.calls.specs.Record.{image, empty_control}
use Rattle.calls.specs.RecordLaws.{held-image}
use Rattle.calls.specs.ByValue.{Ends, ends, set_up_a}
use Rattle.box_log.specs.declared.entry.Entry.{Entry}
use Rattle.box_log.specs.declared.entry.Entry.TheVariants.{Setup, Malloc, Free, Realloc, Memalign, Odd}
use Rattle.player.specs.Replayed.{Work, idle, busy, Line, line, offset_of, after, called, set_up, line_of}
use Rattle.player.specs.PlayBytes.{scene, said, is_ready, heard, call_on, begun, set_up_of, play_b}
use Rattle.player.specs.PlayObeys.{Plays, Stands}

-- ---- the words stand for the work

-- ---- a call

module _ (n : ℕ) (h : Heap) (r v : List ℕ) (room : n ≤ length v) where
  part : length (take n v) ≡ n
  part = length-take-le n v room

  hears : (t : Told) (o : rules.Outcome) → Follows wide r (take n v) t o → Plays (after n o) v (heard n v t)
  hears t o f =
      record {
        refusal = ap refusal f.answer;
        offset = ap offset_of f.answer;
        stands = record {
          count = refl;
          room = omega (arith, long, room);
          held = subst (λ (w : List ℕ). Held wide t.image w o.heap []) (sym (take_at t.words (drop n v) n (f.count ∙ part)))
              f.held;
        };
        long = long;
      }
    where
      long : length (t.words ++ drop n v) ≡ length v
      long = length_front v t.words n f.count

  ready : Held wide r (take n v) h [] → is_ready n (length v) ≡ true
  unfolding is_ready
  ready d =
      let z : 16 ≤ n = omega (arith, d.near.least, part) in
      rw (ne_eqb n 0 (λ q. omega (arith, q, z)), le-leb n (length v) room) refl

  pub call_plays : Held wide r (take n v) h [] → (c : Call) → Plays (after n (answer_to wide n h c)) v (call_on n r v c)
  unfolding call_on
  call_plays d c =
      rw (ready d, let_through wide r (take n v) h d c)
      (subst (λ (k : ℕ). Plays (after n (answer_to wide k h c)) v (heard n v (core_call wide r (take n v) c))) part
      (hears (core_call wide r (take n v) c) (answer_to wide (length (take n v)) h c) (call_obeys wide r (take n v) h d c)))

pub calls_play : (s : Work) (words : ℕ) (r v : List ℕ) → Stands s words r v → (c : Call) → Plays (called s c) v (call_on words r v c)
unfolding call_on is_ready
calls_play idle words r v q c = rw q (record { refusal = refl; offset = refl; stands = refl; long = refl })
calls_play (busy n h) words r v d c = subst (λ (k : ℕ). Plays (called (busy n h) c) v (call_on k r v c)) (sym d.count)
    (call_plays n h r v d.room d.held c)

-- ---- set-up

-- what an allowed count is
allowed : (n : ℕ) → allowed_count n ≡ true → (16 ≤ n) × (n ≤ 8192) × (n % 2 ≡ 0)
allowed n q = count_range n (count_allowed n ∙ q)

module _ (s : Work) (words : ℕ) (r v : List ℕ) (n : ℕ) where
  -- the count is not allowed: a refused set-up leaves the work
  refused_line : allowed_count n ≡ false → set_up s n ≡ line 1 0 s
  refused_line q = rw q refl

  far : length v < n → set_up_of words r v n ≡ scene (said words 1 0) r v
  unfolding set_up_of
  far l = rw (lt-ltb (length v) n l) refl

  module _ (l : n ≤ length v) where
    near : (t : Ends) → set_up_a wide (take n v) ≡ t → set_up_of words r v n ≡ begun words r v n t t.answer
    unfolding set_up_of
    near t q = rw (le-ltb (length v) n l) (ap (λ z. begun words r v n z z.answer) q)

    not_set : allowed_count n ≡ false → set_up_a wide (take n v) ≡ ends (refused bad_count) (empty_control wide (no_link wide) 0 0) (take n v)
    unfolding set_up_a
    not_set q = rw (ap allowed_count (length-take-le n v l) ∙ q) refl

    is_set : allowed_count n ≡ true → set_up_a wide (take n v) ≡ ends done (fresh_control wide (length (take n v))) (fresh_words wide (take n v))
    unfolding set_up_a
    is_set q = rw (ap allowed_count (length-take-le n v l) ∙ q) refl

    left : allowed_count n ≡ false → set_up_of words r v n ≡ scene (said words 1 0) r v
    left q = near (ends (refused bad_count) (empty_control wide (no_link wide) 0 0) (take n v)) (not_set q)
        ∙ ap (scene (said words 1 0) r) (take-append-drop n v)

  module _ (d : Stands s words r v) where
    still : Plays (line 1 0 s) v (scene (said words 1 0) r v)
    still = record { refusal = refl; offset = refl; stands = d; long = refl }

    no : allowed_count n ≡ false → Plays (set_up s n) v (set_up_of words r v n)
    no q =
        let a = refused_line q in
        let b : set_up_of words r v n ≡ scene (said words 1 0) r v = ⊎_elim (λ l. left l q) far (le_or_lt n (length v)) in
        subst (λ (x : Line). Plays x v (set_up_of words r v n)) (sym a) (subst (Plays (line 1 0 s) v) (sym b) still)

  -- it is: the fresh record and words hold the fresh heap
  granted_line : allowed_count n ≡ true → set_up s n ≡ line 0 0 (busy n (fresh_heap n))
  granted_line q = rw q refl

  module _ (l : n ≤ length v) (q : allowed_count n ≡ true) where
    abbrev fresh : List ℕ
    fresh = fresh_words wide (take n v)

    abbrev control : Control
    control = fresh_control wide (length (take n v))

    here : length fresh ≡ n
    here = simp length-set (length-take-le n v l)

    long : length (fresh ++ drop n v) ≡ length v
    long = length_front v fresh n (here ∙ sym (length-take-le n v l))

    holds : Held wide (image control) fresh (fresh_heap n) []
    holds =
        let a = allowed n q in
        subst (λ (k : ℕ). Held wide (image control) fresh (fresh_heap k) []) (length-take-le n v l)
        (held-image wide control fresh (fresh_heap (length (take n v))) []
        (fresh_holds wide (take n v) (omega (arith, length-take-le n v l, a.2)) (omega (arith, length-take-le n v l, a.0))
        (omega (arith, length-take-le n v l, a.1))))

    begins : Plays (line 0 0 (busy n (fresh_heap n))) v (scene (said n 0 0) (image control) (fresh ++ drop n v))
    begins =
        record {
          refusal = refl;
          offset = refl;
          stands = record {
            count = refl;
            room = omega (arith, long, l);
            held = subst (λ (w : List ℕ). Held wide (image control) w (fresh_heap n) []) (sym (take_at fresh (drop n v) n here)) holds;
          };
          long = long;
        }

    yes : Plays (set_up s n) v (set_up_of words r v n)
    yes =
        let a = granted_line q in
        let b = near l (ends done control fresh) (is_set l q) in
        subst (λ (x : Line). Plays x v (set_up_of words r v n)) (sym a) (subst (Plays (line 0 0 (busy n (fresh_heap n))) v) (sym b) begins)

  -- a buffer of 8,192 words has room for every count that is allowed
  pub set_up_plays : Stands s words r v → 8192 ≤ length v → Plays (set_up s n) v (set_up_of words r v n)
  set_up_plays d l = go (allowed_count n) refl
    where
      go : (b : Bool) → allowed_count n ≡ b → Plays (set_up s n) v (set_up_of words r v n)
      go true q = yes (let a = allowed n q in omega (arith, a.1, l)) q
      go false q = no d q

-- ---- a record

pub plays : (s : Work) (e : Entry) (words : ℕ) (r v : List ℕ) → 8192 ≤ length v → Stands s words r v
    → Plays (line_of s e) v (play_b e words r v)
plays s (Setup n) words r v l d = set_up_plays s words r v n d l
plays s (Malloc n) words r v l d = calls_play s words r v d (rules.Malloc n)
plays s (Free off) words r v l d = calls_play s words r v d (rules.Free off)
plays s (Realloc off n) words r v l d = calls_play s words r v d (rules.Realloc off n)
plays s (Memalign a n) words r v l d = calls_play s words r v d (rules.Memalign a n)
plays s Odd words r v l d = record { refusal = refl; offset = refl; stands = d; long = refl }
