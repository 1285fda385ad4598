-- The C functions: what was lent, the record's words in and out, and one law for each return of a call. Assumes nothing.
use Rattle.std.proofs.Common.{◌≡◌, ℕ, ◌+◌, ◌/◌, ◌≤◌, Bool, true, false, ◌&&◌, leb, eqb, List, Some, length, get_or, set, refl, sym, ap, subst, ◌∙◌, arith, eq-eqb, ne_eqb}
use Rattle.std.proofs.lemmas.Option.{same_Some}
use borrow.Author.Tests.{leb-true, eqb-true}
use lib.ListN.{length-set}
use lib.Seq.{set-get_or}
use Rattle.words.specs.Logic.{false-true}
use Rattle.words.specs.Edition.{wide}
use Rattle.rules.specs.Calls.{Call, Usable, Answer, number, refused}
use Rattle.sound.specs.SoundBytes.{count_ok, sound_b}
use Rattle.calls.specs.Counts.{count_allowed}
use Rattle.calls.specs.CallBytes.{told, refusal, call_b}
use Rattle.holds.specs.Holds.{Control}
use Rattle.calls.specs.Record.{image}
use Rattle.calls.specs.ByValue.{ends, set_up_a, rebuild_a}
use Rattle.calls.specs.RecordLaws.{reads_all}
use Rattle.arena.specs.declared.answers.Reason as R
use Rattle.arena.specs.declared.answers.Reason.TheVariants.{BadCount, Unsound}
use Rattle.arena.specs.Answers.{reason_of}
use Rattle.batch.specs.BatchBytes.{batched, batch_m}
use Rattle.batch.proofs.BatchLaws.{set_batch}
use Rattle.abi.specs.Words.{said, Taken, value_of, refused_value, out_of, lent_ok, copied, odd_record, tell_c, call_c, set_c, set_up_c, rebuild_c, sound_c}
use Rattle.abi.specs.Words.{ran, answered, count_out, tell_batch, batch_c}

-- ---- what was lent

pub lent_no : (m n : ℕ) → (m ≡ 72 → ⊥) → false ≡ lent_ok m n
unfolding lent_ok
lent_no m n f = sym (rw (ne_eqb m 72 f) refl)

pub lent_yes : (m n : ℕ) {x : Bool} → m ≡ 72 → x ≡ leb 2 n → x ≡ lent_ok m n
unfolding lent_ok
lent_yes m n q t = t ∙ sym (rw (eq-eqb m 72 q) refl)

both : (a b : Bool) → a && b ≡ true → (a ≡ true) × (b ≡ true)
both true true q = (refl, refl)
both true false q = (refl, q)
both false b q = (q, absurd (false-true q))

module _ (m n : ℕ) {x : Bool} (e : x ≡ lent_ok m n) (t : x ≡ true) where
  pub lent_72 : m ≡ 72
  unfolding lent_ok
  lent_72 = eqb-true m 72 (both (eqb m 72) (leb 2 n) (sym e ∙ t)).0

  pub lent_2 : 2 ≤ n
  unfolding lent_ok
  lent_2 = leb-true 2 n (both (eqb m 72) (leb 2 n) (sym e ∙ t)).1

-- ---- the record's words, out

pub copied_is : (r : List ℕ) → length r ≡ 72 → set r 7 0 ≡ copied r
unfolding copied
copied_is r l = reads_all (set r 7 0) (set r 7 0) 0 72 (simp length-set l)
    (λ k u. ap (λ z. get_or (set r 7 0) z 0) (let y : k ≡ 0 + k = omega arith in y))

-- ---- the answer's words

module _ (n : ℕ) {x : Bool} (e : x ≡ count_ok n) where
  pub odd_unsound : x ≡ true → refused (reason_of Unsound) ≡ odd_record n
  unfolding odd_record
  odd_unsound q = sym (rw (sym (count_allowed n) ∙ sym e ∙ q) refl)

  pub odd_count : x ≡ false → refused (reason_of BadCount) ≡ odd_record n
  unfolding odd_record
  odd_count q = sym (rw (sym (count_allowed n) ∙ sym e ∙ q) refl)

-- ---- a call's returns

said_same : (w : List ℕ) {n m : ℕ} {r s o u : List ℕ} → n ≡ m → r ≡ s → o ≡ u → said n r w o ≡ said m s w u
said_same w {m = m} {r = r} {s = s} {o = o} p q t = ap (λ y. said y r w o) p ∙ ap (λ y. said m y w o) q ∙ ap (said m s w) t

module _ (r w out : List ℕ) {x : Bool} (e : x ≡ lent_ok (length r) (length out)) where
  -- too short
  pub call_lost : x ≡ false → {m n : ℕ} → m ≡ 2 → Some m ≡ Some n → (k : Call) → said n r w out ≡ call_c r w out k
  unfolding call_c
  call_lost q {m = m} {n = n} i p k = ap (λ y. said y r w out) (sym (same_Some m n p) ∙ i) ∙ sym (rw (sym e ∙ q) refl)

  pub batch_lost : x ≡ false → {m n : ℕ} → m ≡ 2 → Some m ≡ Some n → (cs xs : List ℕ) → ran n r w out xs ≡ batch_c r w out cs xs
  unfolding batch_c
  batch_lost q {m = m} {n = n} i p cs xs = ap (λ y. ran y r w out xs) (sym (same_Some m n p) ∙ i) ∙ sym (rw (sym e ∙ q) refl)

  -- the eighth word is not 0
  module _ (t : x ≡ true) (f : get_or r 7 0 ≡ 0 → ⊥) (a : Answer) {m n : ℕ} {o : List ℕ}
      (i : a ≡ odd_record (length w)) (v : m ≡ refusal a) (q : o ≡ out_of out a) (p : Some m ≡ Some n) where
    pub call_odd : (k : Call) → said n r w o ≡ call_c r w out k
    unfolding call_c
    call_odd k = said_same w (sym (same_Some m n p) ∙ v ∙ ap refusal i) refl (q ∙ ap (out_of out) i) ∙ sym (rw (sym e ∙ t, ne_eqb (get_or r 7 0) 0 f) refl)

    pub batch_odd : (cs xs : List ℕ) → ran n r w o xs ≡ batch_c r w out cs xs
    unfolding batch_c
    batch_odd cs xs =
        ap (λ y. ran y r w o xs) (sym (same_Some m n p) ∙ v ∙ ap refusal i) ∙ ap (λ y. ran (refusal (odd_record (length w))) r w y xs) (q ∙ ap (out_of out) i)
        ∙ sym (rw (sym e ∙ t, ne_eqb (get_or r 7 0) 0 f) refl)

-- a record that is taken: 72 words, and still two words and more for the answer
module _ (r out : List ℕ) {o : List ℕ} (t : Taken r out o) where
  pub taken_72 : length r ≡ 72
  taken_72 = lent_72 (length r) (length out) refl t.0

  pub taken_2 : 2 ≤ length o
  taken_2 = subst (λ z. 2 ≤ length z) (sym t.2) (lent_2 (length r) (length out) refl t.0)

module _ (r w out : List ℕ) {o s : List ℕ} (t : Taken r out o) (same : s ≡ r) where
  pub call_said : (k : Call) (a : Answer) (r' w' : List ℕ) {n : ℕ} {u v : List ℕ} → told a r' w' ≡ call_b wide s w k → n ≡ refusal a → v ≡ copied r' → u ≡ out_of o a
      → said n v w' u ≡ call_c r w out k
  unfolding call_c
  call_said k a r' w' c p v q =
      said_same w' p v (q ∙ ap (λ y. out_of y a) t.2) ∙ ap (tell_c out) (c ∙ ap (λ y. call_b wide y w k) same) ∙ sym (rw (t.0, eq-eqb (get_or r 7 0) 0 t.1) refl)

  pub batch_ran : (cs xs : List ℕ) (n : ℕ) (r' w' xs' : List ℕ) {m : ℕ} {u v : List ℕ} → batched n r' w' xs' ≡ batch_m wide s w cs xs
      → v ≡ copied r' → m ≡ n → u ≡ count_out o n (length cs) → ran m v w' u xs' ≡ batch_c r w out cs xs
  unfolding batch_c
  batch_ran cs xs n r' w' xs' {u = u} {v = v} b i p q =
      ap (λ y. ran y v w' u xs') p ∙ ap (λ y. ran n y w' u xs') i ∙ ap (λ y. ran n (copied r') w' y xs') (q ∙ ap (λ y. count_out y n (length cs)) t.2)
      ∙ ap (tell_batch out (length cs)) (b ∙ ap (λ y. batch_m wide y w cs xs) same ∙ set_batch wide r w cs xs (taken_72 r out t))
      ∙ sym (rw (t.0, eq-eqb (get_or r 7 0) 0 t.1) refl)

-- a value's two words
pub granted_out : (out : List ℕ) (a : Answer) {v : ℕ} → v ≡ value_of a → refusal a ≡ 0 → set (set out 0 0) 1 v ≡ out_of out a
unfolding out_of
granted_out out a p q = rw (p, q) refl

pub refused_out : (out : List ℕ) (why : R.Reason) {n v : ℕ} → n ≡ number (reason_of why) → v ≡ refused_value (reason_of why)
    → set (set out 0 n) 1 v ≡ out_of out (refused (reason_of why))
unfolding out_of
refused_out out why p q = rw (p, q) refl

-- 72 words whose eighth is 0 come out as they came in
copied_same : (r : List ℕ) → length r ≡ 72 → get_or r 7 0 ≡ 0 → r ≡ copied r
copied_same r l z = sym (ap (set r 7) (sym z) ∙ set-get_or r 7 0) ∙ copied_is r l

pub usable_said : (r w out : List ℕ) (off : ℕ) {o s : List ℕ} → Taken r out o → s ≡ r → (a : Answer) {n : ℕ} {u : List ℕ}
    → told a s w ≡ call_b wide s w (Usable off) → n ≡ refusal a → u ≡ out_of o a → said n r w u ≡ call_c r w out (Usable off)
usable_said r w out off {s = s} t same a c p q =
    call_said r w out t same (Usable off) a s w c p (copied_same r (taken_72 r out t) t.1 ∙ ap copied (sym same)) q

-- ---- set-up

module _ (r w out : List ℕ) {x : Bool} (e : x ≡ lent_ok (length r) (length out)) where
  pub setup-lost : x ≡ false → {m : ℕ} → m ≡ 2 → said m r w out ≡ set_up_c r w out
  unfolding set_up_c
  setup-lost q p = ap (λ y. said y r w out) p ∙ sym (rw (sym e ∙ q) refl)

  pub setup-said : x ≡ true → (a : Answer) (d : Control) (w' : List ℕ) {n : ℕ} {m o v : List ℕ} → ends a d w' ≡ set_up_a wide w → m ≡ image d → n ≡ refusal a → v ≡ copied m → o ≡ out_of out a → said n v w' o ≡ set_up_c r w out
  unfolding set_up_c
  setup-said t a d w' c i p v q =
      said_same w' p (v ∙ ap copied i) q ∙ ap (set_c out) c ∙ sym (rw (sym e ∙ t) refl)

  module _ (start : ℕ) where
    pub rebuild_lost : x ≡ false → {m : ℕ} → m ≡ 2 → said m r w out ≡ rebuild_c r w out start
    unfolding rebuild_c
    rebuild_lost q p = ap (λ y. said y r w out) p ∙ sym (rw (sym e ∙ q) refl)

    pub rebuild_said : x ≡ true → (a : Answer) (d : Control) (w' : List ℕ) {n : ℕ} {m o v : List ℕ} → ends a d w' ≡ rebuild_a wide w start
        → m ≡ image d → n ≡ refusal a → v ≡ copied m → o ≡ out_of out a → said n v w' o ≡ rebuild_c r w out start
    unfolding rebuild_c
    rebuild_said t a d w' c i p v q = said_same w' p (v ∙ ap copied i) q ∙ ap (set_c out) c ∙ sym (rw (sym e ∙ t) refl)

-- ---- the batch

module _ (n calls : ℕ) where
  pub answered_none : (n ≡ 0 → ⊥) → 0 ≡ answered n calls
  unfolding answered
  answered_none f = sym (rw (ne_eqb n 0 f) refl)

  pub answered_all : n ≡ 0 → calls / 3 ≡ answered n calls
  unfolding answered
  answered_all q = sym (rw (eq-eqb n 0 q) refl)

  pub count_out_lem : (out : List ℕ) {v : ℕ} → v ≡ answered n calls → set (set out 0 n) 1 v ≡ count_out out n calls
  unfolding count_out
  count_out_lem out q = ap (set (set out 0 n) 1) q

-- ---- the check

module _ (r w : List ℕ) where
  pub sound_short : (length r ≡ 72 → ⊥) → 2 ≡ sound_c r w
  unfolding sound_c
  sound_short f = sym (rw (ne_eqb (length r) 72 f) refl)

  module _ {x : Bool} (l : length r ≡ 72) (e : x ≡ count_ok (length w)) where
    pub sound_count : x ≡ false → 1 ≡ sound_c r w
    unfolding sound_c
    sound_count q = sym (rw (eq-eqb (length r) 72 l, sym (count_allowed (length w)) ∙ sym e ∙ q) refl)

    module _ (t : x ≡ true) {s : List ℕ} (same : s ≡ r) where
      pub sound_odd : (get_or s 7 0 ≡ 0 → ⊥) → 2 ≡ sound_c r w
      unfolding sound_c
      sound_odd f = sym (rw (eq-eqb (length r) 72 l, sym (count_allowed (length w)) ∙ sym e ∙ t, ne_eqb (get_or r 7 0) 0 (λ z. f (ap (λ y. get_or y 7 0) same ∙ z))) refl)

      module _ {y : Bool} (z : get_or s 7 0 ≡ 0) (c : y ≡ sound_b wide s w) where
        pub sound_is : y ≡ true → 0 ≡ sound_c r w
        unfolding sound_c
        sound_is q =
            sym (rw (eq-eqb (length r) 72 l, sym (count_allowed (length w)) ∙ sym e ∙ t, eq-eqb (get_or r 7 0) 0 (sym (ap (λ y. get_or y 7 0) same) ∙ z), sym (ap (λ y. sound_b wide y w) same) ∙ sym c ∙ q) refl)

        pub sound_not : y ≡ false → 2 ≡ sound_c r w
        unfolding sound_c
        sound_not q =
            sym (rw (eq-eqb (length r) 72 l, sym (count_allowed (length w)) ∙ sym e ∙ t, eq-eqb (get_or r 7 0) 0 (sym (ap (λ y. get_or y 7 0) same) ∙ z), sym (ap (λ y. sound_b wide y w) same) ∙ sym c ∙ q) refl)
