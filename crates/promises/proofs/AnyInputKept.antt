-- DEMAND 1 IS KEPT. Rows 1 and 2 by the order of the tests and the check that is exact, on the record's words; rows 3 to 6 by the rules,
-- which the
-- calls obey; what a refusal leaves by what each call does on a sound pair. Assumes nothing.
use Rattle.std.specs.Prelude.{◌≡◌, Bool, true, false, List, ◌↔◌, ℕ, ◌+◌, ◌-◌, ◌*◌, ◌%◌, length, get_or, set}
use Rattle.std.proofs.Math.Path.{refl}
use Rattle.std.proofs.Common.{sym, ◌∙◌, ap, subst, arith, le-leb, eq-eqb, length-set, get_or-set_same, get_or-set_other}
use Rattle.words.specs.Logic.{pick_case, false-true}
use Rattle.words.specs.Edition.{wide, no_link}
use Rattle.tiling.specs.Steps.{fresh_words}
use Rattle.rules.specs.Heap.{Heap, fresh_heap}
use Rattle.rules.specs.Calls.{Call, Answer, granted, done, bytes, refused, bad_count, allowed_count}
use Rattle.holds.specs.Holds.{Control, Holds, Sound, fresh_control}
use Rattle.holds.specs.Unique.{fresh_holds}
use Rattle.sound.specs.SoundBytes.{sound_b}
use Rattle.decides.specs.SoundLaws.{sound_yes}
use Rattle.calls.specs.CallBytes.{Told, refusal, Still, call_b}
use Rattle.calls.proofs.Rows.{refused_still}
use Rattle.calls.specs.Counts.{count_allowed, count_range}
use Rattle.calls.specs.Record.{image, empty_control}
use Rattle.calls.specs.RecordLaws.{image-length, sound_image}
use Rattle.calls.specs.ByValue.{Ends, ends, handed_back, call_a, set_up_a}
use Rattle.calls.proofs.CallObeys.{call_obeys}
use Rattle.calls.proofs.Rows as rows
use Rattle.calls.specs.Histories.{box}
use Rattle.calls.proofs.Histories.{calls-held}
use Rattle.promises.specs.Promises.{refused_by, Allowed, left, AnyInput}
use Rattle.promises.proofs.RowLaws.{Row, row_of, is_3, is_4, is_5, is_6}

-- ---- the count

pub allowed : (m : ℕ) → allowed_count m ≡ true ↔ Allowed m
allowed m = (
  λ q. let r = count_range m (count_allowed m ∙ q) in (r.2, r.0, r.1),
  λ r. rw (eq-eqb (m % 2) 0 r.0, le-leb 16 m r.1, le-leb m 8192 r.2) refl,
)

pub not_allowed : (m : ℕ) → allowed_count m ≡ false ↔ (Allowed m → ⊥)
not_allowed m = ((λ q r. false-true (sym q ∙ (allowed m).1 r)), (λ f. go f (allowed_count m) refl))
  where
    go : (Allowed m → ⊥) → (b : Bool) → allowed_count m ≡ b → b ≡ false
    go f true q = absurd (f ((allowed m).0 q))
    go f false q = refl

-- ---- rows

row_1 : (c : Control) (w : List ℕ) (k : Call) → refused_by c w k ≡ 1 ↔ (Allowed (length w) → ⊥)
unfolding call_a
row_1 c w k =
    let r = rows.row_1 wide (image c) w k in
    let a = not_allowed (length w) in ((λ q. a.0 (r.0 q)), (λ f. r.1 (a.1 f)))

row_2 : (c : Control) (w : List ℕ) (k : Call) → refused_by c w k ≡ 2 ↔ Allowed (length w) × (Sound wide c w → ⊥)
unfolding call_a
row_2 c w k =
    let r = rows.row_2 wide (image c) w (image-length c) k in
    let a = allowed (length w) in
    let s = sound_image wide c w in
    ((λ q. let y = r.0 q in (a.0 y.0, λ z. y.1 (s.1 z))), (λ q. r.1 (a.1 q.0, λ z. q.1 (s.0 z))))

row : (c : Control) (w : List ℕ) (h : Heap) (k : Call) → Holds wide c w h → Row (length w) h k (refusal (call_a wide c w k).answer)
row c w h k n = subst (λ a. Row (length w) h k (refusal a)) (sym (calls-held wide (box c w) h n k).answer) (row_of c w h n k)

-- ---- what a refusal leaves

back : (a : Answer) (c : Control) (r : List ℕ) → Still a → handed_back a c r ≡ c
back (granted b) c r z = absurd z
back done c r z = absurd z
back (bytes n) c r z = refl
back (refused why) c r z = refl

unchanged : (c : Control) (w : List ℕ) (k : Call) → (refused_by c w k ≡ 0 → ⊥) → left c w k ≡ box c w
unfolding call_a
unchanged c w k f =
    let t = call_b wide (image c) w k in
    let z = refused_still t.answer f in
    ap (λ d. box d t.words) (back t.answer c t.image z)
    ∙ ap (box c) (rows.refusal_changes_nothing wide (image c) w (image-length c) k z).1

within : (c : Control) (w : List ℕ) (k : Call) → length (call_a wide c w k).words ≡ length w
unfolding call_a call_b
within c w k =
    pick_case (λ (t : Told). length t.words ≡ length w) (allowed_count (length w))
    (λ _. pick_case (λ (t : Told). length t.words ≡ length w) (sound_b wide (image c) w)
    (λ y. let s = sound_yes wide (image c) w (image-length c) y in (call_obeys wide (image c) w s.0
    (record { image = image-length c; near = s.1 }) k).count) (λ _. refl))
    (λ _. refl)

-- ---- set-up

module _ (w : List ℕ) where
  set_up_refused : (Allowed (length w) → ⊥) → set_up_a wide w ≡ ends (refused bad_count) (empty_control wide (no_link wide) 0 0) w
  unfolding set_up_a
  set_up_refused f = rw ((not_allowed (length w)).1 f) refl

  set_up_done : Allowed (length w) → set_up_a wide w ≡ ends done (fresh_control wide (length w)) (fresh_words wide w)
  unfolding set_up_a
  set_up_done q = rw ((allowed (length w)).1 q) refl

  pub fresh_start : Allowed (length w) → Holds wide (fresh_control wide (length w)) (fresh_words wide w) (fresh_heap (length w))
  fresh_start q = fresh_holds wide w q.0 q.1 q.2

  set_up_words : Allowed (length w) → (set_up_a wide w).words ≡ fresh_words wide w
  set_up_words q = ap (λ (t : Ends). t.words) (set_up_done q)

  set_up_head : Allowed (length w) → get_or (set_up_a wide w).words 1 0 ≡ 8 * length w - 80 + 1
  set_up_head q =
      ap (λ z. get_or z 1 0) (set_up_words q)
      ∙ get_or-set_other (set w 1 (8 * (length w - 10) + 1)) (length w - 9) 1 80 0 (λ z. omega (arith, z, q.1))
      ∙ get_or-set_same w 1 (8 * (length w - 10) + 1) 0 (omega (arith, q.1))
      ∙ (let z : 8 * (length w - 10) + 1 ≡ 8 * length w - 80 + 1 = omega (arith, q.1) in z)

  set_up_foot : Allowed (length w) → get_or (set_up_a wide w).words (length w - 9) 0 ≡ 80
  set_up_foot q =
      ap (λ z. get_or z (length w - 9) 0) (set_up_words q)
      ∙ get_or-set_same (set w 1 (8 * (length w - 10) + 1)) (length w - 9) 80 0 (simp length-set (omega (arith, q.1)))

  set_up_else : (i : ℕ) → Allowed (length w) → (i ≡ 1 → ⊥) → (i ≡ length w - 9 → ⊥) → get_or (set_up_a wide w).words i 0 ≡ get_or w i 0
  set_up_else i q a b =
      ap (λ z. get_or z i 0) (set_up_words q) ∙ get_or-set_other (set w 1 (8 * (length w - 10) + 1)) (length w - 9) i 80 0 b
      ∙ get_or-set_other w 1 i (8 * (length w - 10) + 1) 0 a

pub any_input : AnyInput
any_input =
    record {
      row_1 = row_1;
      row_2 = row_2;
      row_3 = λ c w h k n. is_3 (length w) h k (refused_by c w k) (row c w h k n);
      row_4 = λ c w h k n. is_4 (length w) h k (refused_by c w k) (row c w h k n);
      row_5 = λ c w h k n. is_5 (length w) h k (refused_by c w k) (row c w h k n);
      row_6 = λ c w h k n. is_6 (length w) h k (refused_by c w k) (row c w h k n);
      unchanged = unchanged;
      within = within;
      set_up_refused = set_up_refused;
      set_up_done = set_up_done;
      set_up_holds = fresh_start;
      set_up_head = set_up_head;
      set_up_foot = set_up_foot;
      set_up_else = set_up_else;
    }
