-- FOR ANY RECORD, ARENA AND NUMBERS: 1 is said exactly when the word count is not allowed; 2 exactly when it is and the pair is not sound; and whatever is
-- refused, record and arena are as they were. (Rows 3 to 6 are said of sound pairs: there every answer is the rules', by `call_obeys`.)
-- By the order of the tests, the check that is exact, and what each call does on a sound pair. Assumes nothing.
use Rattle.std.specs.Prelude.{◌≡◌, refl, Bool, true, false, List, ◌↔◌, ◌⊎◌, ℕ, ◌*◌, ◌≤◌, ◌<◌, ltb, eqb, length, get_or}
use Rattle.std.proofs.Common.{sym, ◌∙◌, inl, inr, ⊎_elim, arith}
use Rattle.words.specs.Logic.{pick_case, false-true}
use Rattle.words.specs.Edition.{Edition, W, no_link}
use Rattle.rules.specs.Calls.{Call, Malloc, Free, Realloc, Memalign, Usable, Reason, bad_count, unsound, Answer, granted, done, bytes, refused, allowed_count, is_in, alignments}
use Rattle.holds.specs.Holds.{Sound}
use Rattle.chunk.specs.Image.{decode}
use Rattle.sound.specs.SoundBytes.{sound_b, live_b}
use Rattle.decides.specs.SoundLaws.{sound_yes, sound_there}
use Rattle.calls.specs.CallBytes.{Told, refusing, refusal, Still, grant_of, core_call, call_b}
use Rattle.calls.proofs.CallObeys.{call_obeys}

-- ---- a refusal changes nothing

pub refused_still : (a : Answer) → (refusal a ≡ 0 → ⊥) → Still a
refused_still (granted b) f = f refl
refused_still done f = f refl
refused_still (bytes n) f = tt
refused_still (refused why) f = tt

module _ (e : Edition) (r w : List ℕ) where
  abbrev Quiet : Told → Type 0
  Quiet t = Still t.answer → (t.image ≡ r) × (t.words ≡ w)

  quiet : (why : Reason) → Quiet (refusing why r w)
  quiet why f = (refl, refl)

  pub refusal_changes_nothing : length r ≡ 72 → (c : Call) → Quiet (call_b e r w c)
  unfolding call_b
  refusal_changes_nothing l c =
      pick_case Quiet (allowed_count (length w))
      (λ z. pick_case Quiet (sound_b e r w) (λ y. let s = sound_yes e r w l y in (call_obeys e r w s.0 (record { image = l; near = s.1 }) c).left) (λ y. quiet unsound))
      (λ z. quiet bad_count)

  -- ---- rows 1 and 2 are said by nothing else

  abbrev Later : Told → Type 0
  Later t = (refusal t.answer ≡ 0) ⊎ (3 ≤ refusal t.answer)

  grant_later : (b : ℕ) → (refusal (grant_of e b) ≡ 0) ⊎ (3 ≤ refusal (grant_of e b))
  grant_later b = pick_case (λ (x : Answer). (refusal x ≡ 0) ⊎ (3 ≤ refusal x)) (eqb b (no_link e)) (λ z. inr (omega arith)) (λ z. inl refl)

  core_later : (c : Call) → Later (core_call e r w c)
  core_later (Malloc n) = pick_case Later (ltb (W e * length w) n) (λ z. inr (omega arith)) (λ z. grant_later _)
  core_later (Free off) = pick_case Later (live_b e w (get_or r 4 0) off) (λ z. inl refl) (λ z. inr (omega arith))
  core_later (Realloc off n) = pick_case Later (ltb (W e * length w) n) (λ z. inr (omega arith)) (λ z. pick_case Later (live_b e w (get_or r 4 0) off) (λ y. grant_later _) (λ y. inr (omega arith)))
  core_later (Memalign al n) = pick_case Later (is_in al (alignments e)) (λ z. pick_case Later (ltb (W e * length w) n) (λ y. inr (omega arith)) (λ y. grant_later _)) (λ z. inr (omega arith))
  core_later (Usable off) = pick_case Later (live_b e w (get_or r 4 0) off) (λ z. inl refl) (λ z. inr (omega arith))

  later_than : (k : ℕ) → 1 ≤ k → k < 3 → (t : Told) → Later t → refusal t.answer ≡ k → ⊥
  later_than k l m t f q = ⊎_elim (λ u. omega (arith, u, q)) (λ u. omega (arith, u, q)) f

  clash : {A : Type 0} (b : Bool) → b ≡ true → b ≡ false → A
  clash b p q = false-true (sym q ∙ p)

  abbrev Count : Told → Type 0
  Count t = refusal t.answer ≡ 1 ↔ allowed_count (length w) ≡ false

  pub row_1 : (c : Call) → refusal (call_b e r w c).answer ≡ 1 ↔ allowed_count (length w) ≡ false
  unfolding call_b
  row_1 c =
      pick_case Count (allowed_count (length w))
      (λ z. pick_case Count (sound_b e r w) (λ y. ((λ q. absurd (later_than 1 (omega arith) (omega arith) (core_call e r w c) (core_later c) q)), (λ q. clash (allowed_count (length w)) z q)))
      (λ y. ((λ q. absurd (let b : ⊥ = omega (arith, q) in b)), (λ q. clash (allowed_count (length w)) z q))))
      (λ z. ((λ q. z), (λ q. refl)))

  abbrev Whole : Told → Type 0
  Whole t = refusal t.answer ≡ 2 ↔ (allowed_count (length w) ≡ true) × (Sound e (decode r) w → ⊥)

  pub row_2 : length r ≡ 72 → (c : Call) → refusal (call_b e r w c).answer ≡ 2 ↔ (allowed_count (length w) ≡ true) × (Sound e (decode r) w → ⊥)
  unfolding call_b
  row_2 l c =
      pick_case Whole (allowed_count (length w))
      (λ z. pick_case Whole (sound_b e r w)
      (λ y. ((λ q. absurd (later_than 2 (omega arith) (omega arith) (core_call e r w c) (core_later c) q)), (λ q. absurd (q.1 (sound_yes e r w l y)))))
      (λ y. ((λ q. (z, λ s. clash (sound_b e r w) (sound_there e r w l s) y)), (λ q. refl))))
      (λ z. ((λ q. absurd (let b : ⊥ = omega (arith, q) in b)), (λ q. clash (allowed_count (length w)) q.0 z)))
