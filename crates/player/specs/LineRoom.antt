-- A LINE TAKES AT MOST 64 BYTES: its three numbers fit a word, whatever was played; so with room for 64 it stands whole behind the others.
-- Assumes nothing.
use Rattle.std.specs.Prelude.{◌≡◌, ℕ, ◌+◌, ◌*◌, ◌^◌, ◌<◌, ◌≤◌, List, ◌∷◌, ◌++◌, length, take, drop, ◌==◌, nat_lt}
use Rattle.std.proofs.Math.Path.{refl}
use Rattle.std.proofs.Common.{ap, ◌∙◌, arith, take_at, length-take-le, le-leb}
use Rattle.std.proofs.Math.ListN.{length-append}
use Rattle.std.proofs.lemmas.List.Edits.{sets, sets-eq}
use Rattle.std.proofs.Math.Seq.{length-sets}
use Rattle.words.specs.Logic.{pick_case}
use Rattle.words.specs.Edition.{wide, W, no_link}
use Rattle.index.specs.Sizes.{need}
use Rattle.rules.specs.Calls as rules
use Rattle.rules.specs.Calls.{Call, Malloc, Free, Realloc, Memalign, Usable, Reason, bad_count, unsound, bad_alignment, too_many, not_live}
use Rattle.rules.specs.Calls.{no_room, Answer, granted, done, bytes, refused, allowed_count, is_in, alignments}
use Rattle.malloc.specs.MallocBytes.{Reply, malloc_b}
use Rattle.realloc.specs.ReallocBytes.{realloc_b}
use Rattle.memalign.specs.MemalignBytes.{memalign_b}
use Rattle.sound.specs.SoundBytes.{sound_b, live_b}
use Rattle.calls.specs.CallBytes.{Told, refusal, chunk_at, grant_of, grant_or_no, if_live, if_few, core_call, call_b}
use Rattle.calls.specs.ByValue.{Ends, set_up_a}
use Rattle.box_log.specs.Decimals.{decimal}
use Rattle.box_log.proofs.DecimalLaws.{decimal_twenty}
use Rattle.box_log.specs.Grammar.{comma}
use Rattle.box_log.specs.Answers.{answer_line, crlf, line_put, line_end}
use Rattle.box_log.specs.declared.entry.Entry as log
use Rattle.box_log.specs.declared.entry.Entry.TheVariants as entry
use Rattle.player.specs.Replayed.{offset_of}
use Rattle.player.specs.PlayBytes.{Scene, is_ready, call_on, begun, set_up_of, play_b}

-- ---- the numbers

number_small : (why : Reason) → rules.number why < 2 ^ 64
number_small bad_count = omega arith
number_small unsound = omega arith
number_small bad_alignment = omega arith
number_small too_many = omega arith
number_small (not_live off) = omega arith
number_small no_room = omega arith

refusal_small : (a : Answer) → refusal a < 2 ^ 64
refusal_small (granted b) = omega arith
refusal_small done = omega arith
refusal_small (bytes n) = omega arith
refusal_small (refused why) = number_small why

-- an answer whose offset fits a word
abbrev Small : Answer → Type 0
Small a = offset_of a < 2 ^ 64

no : (why : Reason) → Small (refused why)
no why = omega arith

grant_small : (c : ℕ) → Small (grant_of wide c)
grant_small c = pick_case Small (c == no_link wide) (λ z. no no_room) (λ z. omega arith)

module _ (r w : List ℕ) where
  few : (n : ℕ) (t : Told) → Small t.answer → Small (if_few wide r w n t).answer
  few n t f = pick_case (λ (x : Told). Small x.answer) (nat_lt (W wide * length w) n) (λ z. no too_many) (λ z. f)

  live : (off : ℕ) (t : Told) → Small t.answer → Small (if_live wide r w off t).answer
  live off t f = pick_case (λ (x : Told). Small x.answer) (live_b wide w _ off) (λ z. f) (λ z. no (not_live off))

  granting : (a : Reply) → Small (grant_or_no wide a).answer
  granting a = grant_small a.answer

  core_small : (c : Call) → Small (core_call wide r w c).answer
  core_small (Malloc n) = few n _ (granting (malloc_b wide r w (need (W wide) n)))
  core_small (Free off) = live off _ (omega arith)
  core_small (Realloc off n) = few n _ (live off _ (granting (realloc_b wide r w (chunk_at wide off) (need (W wide) n))))
  core_small (Memalign al n) = pick_case (λ (x : Told). Small x.answer) (is_in al (alignments wide))
      (λ z. few n _ (granting (memalign_b wide r w al (need (W wide) n)))) (λ z. no bad_alignment)
  core_small (Usable off) = live off _ (omega arith)

  call_small : (c : Call) → Small (call_b wide r w c).answer
  unfolding call_b
  call_small c = pick_case (λ (x : Told). Small x.answer) (allowed_count (length w))
      (λ z. pick_case (λ (x : Told). Small x.answer) (sound_b wide r w) (λ y. core_small c) (λ y. no unsound))
      (λ z. no bad_count)

set_up_small : (w : List ℕ) → Small (set_up_a wide w).answer
unfolding set_up_a
set_up_small w = pick_case (λ (x : Ends). Small x.answer) (allowed_count (length w)) (λ z. omega arith) (λ z. no bad_count)

-- both numbers of a record's line
pub record Words (t : Scene) : Type 0 where
  pub refusal : t.played.refusal < 2 ^ 64
  pub offset : t.played.offset < 2 ^ 64

call_words : (words : ℕ) (r v : List ℕ) (c : Call) → Words (call_on words r v c)
unfolding call_on
call_words words r v c = pick_case Words (is_ready words (length v))
    (λ z. record { refusal = refusal_small (call_b wide r (take words v) c).answer; offset = call_small r (take words v) c })
    (λ z. record { refusal = omega arith; offset = omega arith })

begun_words : (words : ℕ) (r v : List ℕ) (n : ℕ) (t : Ends) (a : Answer) → Small a → Words (begun words r v n t a)
begun_words words r v n t (granted b) f = record { refusal = refusal_small (granted b); offset = f }
begun_words words r v n t done f = record { refusal = refusal_small done; offset = f }
begun_words words r v n t (bytes k) f = record { refusal = refusal_small (bytes k); offset = f }
begun_words words r v n t (refused why) f = record { refusal = refusal_small (refused why); offset = f }

set_up_words : (words : ℕ) (r v : List ℕ) (n : ℕ) → Words (set_up_of words r v n)
unfolding set_up_of
set_up_words words r v n = pick_case Words (nat_lt (length v) n)
    (λ z. record { refusal = omega arith; offset = omega arith })
    (λ z. begun_words words r v n (set_up_a wide (take n v)) (set_up_a wide (take n v)).answer (set_up_small (take n v)))

pub play_words : (e : log.Entry) (words : ℕ) (r v : List ℕ) → Words (play_b e words r v)
play_words (entry.Setup n) words r v = set_up_words words r v n
play_words (entry.Malloc n) words r v = call_words words r v (Malloc n)
play_words (entry.Free off) words r v = call_words words r v (Free off)
play_words (entry.Realloc off n) words r v = call_words words r v (Realloc off n)
play_words (entry.Memalign a n) words r v = call_words words r v (Memalign a n)
play_words entry.Odd words r v = record { refusal = omega arith; offset = omega arith }

-- ---- the line

module _ (k n off : ℕ) where
  line-length : length (answer_line k n off) ≡ length (decimal k) + (1 + (length (decimal n) + (1 + (length (decimal off) + 2))))
  unfolding answer_line
  line-length =
      let a : length (decimal off ++ crlf) ≡ length (decimal off) + 2 = length-append (decimal off) crlf in
      let b : length (decimal n ++ comma ∷ (decimal off ++ crlf)) ≡ length (decimal n) + (1 + (length (decimal off) + 2)) =
      length-append (decimal n) (comma ∷ (decimal off ++ crlf))
      ∙ (let z : length (decimal n) + length (comma ∷ (decimal off ++ crlf)) ≡ length (decimal n) + (1 + (length (decimal off) + 2)) =
      omega (arith, a) in z) in
      let c = length-append (decimal k) (comma ∷ (decimal n ++ comma ∷ (decimal off ++ crlf))) in
      omega (arith, b, c)

  pub line_short : k < 2 ^ 64 → n < 2 ^ 64 → off < 2 ^ 64 → length (answer_line k n off) ≤ 64
  line_short p q s = omega (arith, line-length, decimal_twenty k p, decimal_twenty n q, decimal_twenty off s)

  module _ (out : List ℕ) (at : ℕ) (room : at + 64 ≤ length out) (short : length (answer_line k n off) ≤ 64) where
    put : line_put out at k n off ≡ sets out at (answer_line k n off)
    unfolding line_put
    put = rw (le-leb (at + 64) (length out) room) refl

    end : line_end out at k n off ≡ at + length (answer_line k n off)
    unfolding line_end
    end = rw (le-leb (at + 64) (length out) room) refl

    pub put_long : length (line_put out at k n off) ≡ length out
    put_long = ap length put ∙ length-sets out at (answer_line k n off)

    pub put_far : line_end out at k n off ≤ at + 64
    put_far = omega (arith, end, short)

    pub put_text : take (line_end out at k n off) (line_put out at k n off) ≡ take at out ++ answer_line k n off
    put_text =
        ap (λ z. take z (line_put out at k n off)) end
        ∙ ap (take (at + length (answer_line k n off))) (put ∙ sets-eq (answer_line k n off) out at (omega (arith, room, short)))
        ∙ take_at (take at out ++ answer_line k n off) (drop (at + length (answer_line k n off)) out) (at + length (answer_line k n off))
        (length-append (take at out) (answer_line k n off)
        ∙ ap (λ z. z + length (answer_line k n off)) (length-take-le at out (omega (arith, room))))
