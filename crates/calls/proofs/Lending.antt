-- LENDING SAYS WHAT THE CALL FOR THE USABLE SIZE SAYS. For any record, words and offset: the words of a block are lent exactly when that call is not refused,
-- and the part has exactly the bytes that it answers; where it is refused, the part is empty. By the three tests, which are the same and stand in
-- the same order, and the laws of lending. Both editions. Assumes nothing.
use Rattle.std.specs.Prelude.{◌≡◌, refl, Bool, false, ◌&&◌, List, ◌↔◌, ℕ, zero, suc, ◌*◌, ◌<◌, length, get_or}
use Rattle.std.proofs.Common.{sym, ap, ◌∙◌, arith}
use Rattle.std.proofs.Math.Path.{subst}
use Rattle.std.proofs.Math.Bool.{true}
use Rattle.words.specs.Logic.{pick, false-true, Decides}
use Rattle.words.specs.Edition.{Edition, W}
use Rattle.rules.specs.Calls.{Usable, bad_count, unsound, not_live, bytes, allowed_count}
use Rattle.sound.specs.SoundBytes.{sound_b, live_b, usable_b}
use Rattle.lend.specs.LendBytes.{lends_b, lent_words}
use Rattle.lend.proofs.LendLaws.{lends_usable, lent_decides}
use Rattle.calls.specs.CallBytes.{Told, told, refusing, refusal, call_b}
use Rattle.calls.specs.Counts.{count_allowed}

module _ (e : Edition) (r w : List ℕ) (off : ℕ) where
  -- what the call says after its tests of the count, the pair and the block
  abbrev tests : Bool → Bool → Bool → Told
  tests a b c = pick a (pick b (pick c (told (bytes (usable_b e w off)) r w) (refusing (not_live off) r w)) (refusing unsound r w)) (refusing bad_count r w)

  passes : (a b c : Bool) → a && b && c ≡ true ↔ refusal (tests a b c).answer ≡ 0
  passes true true true = ((λ q. refl), (λ q. refl))
  passes true true false = ((λ q. false-true q), (λ q. absurd (omega (arith, q))))
  passes true false c = ((λ q. false-true q), (λ q. absurd (omega (arith, q))))
  passes false b c = ((λ q. false-true q), (λ q. absurd (omega (arith, q))))

  says : (a b c : Bool) → a && b && c ≡ true → (tests a b c).answer ≡ bytes (usable_b e w off)
  says true true true q = refl
  says true true false q = false-true q
  says true false c q = false-true q
  says false b c q = false-true q

  pub lend_as_usable : lends_b e r w off ≡ true ↔ refusal (call_b e r w (Usable off)).answer ≡ 0
  unfolding lends_b call_b
  lend_as_usable =
      subst (λ (a : Bool). a && sound_b e r w && live_b e w (get_or r 4 0) off ≡ true ↔ refusal (call_b e r w (Usable off)).answer ≡ 0) (sym (count_allowed (length w)))
      (passes (allowed_count (length w)) (sound_b e r w) (live_b e w (get_or r 4 0) off))

  usable_said : lends_b e r w off ≡ true → (call_b e r w (Usable off)).answer ≡ bytes (usable_b e w off)
  unfolding lends_b call_b
  usable_said =
      subst (λ (a : Bool). a && sound_b e r w && live_b e w (get_or r 4 0) off ≡ true → (call_b e r w (Usable off)).answer ≡ bytes (usable_b e w off)) (sym (count_allowed (length w)))
      (says (allowed_count (length w)) (sound_b e r w) (live_b e w (get_or r 4 0) off))

  module _ (q : length r ≡ 72) where
    -- the part's bytes are the answer
    pub lent_bytes : lends_b e r w off ≡ true → (call_b e r w (Usable off)).answer ≡ bytes (W e * lent_words e r w off)
    lent_bytes l = usable_said l ∙ ap bytes (lends_usable e r w off q l)

    -- "empty exactly when the first would refuse"
    pub empty_as_refused : lent_words e r w off ≡ 0 ↔ (refusal (call_b e r w (Usable off)).answer ≡ 0 → ⊥)
    empty_as_refused = go (lends_b e r w off) (lent_words e r w off) (refusal (call_b e r w (Usable off)).answer) (lent_decides e r w off q) lend_as_usable
      where
        nothing : (k : ℕ) → (0 < k → ⊥) → k ≡ 0
        nothing zero f = refl
        nothing (suc k) f = absurd (f (omega arith))

        go : (b : Bool) (k z : ℕ) → Decides b (0 < k) → (b ≡ true ↔ z ≡ 0) → k ≡ 0 ↔ (z ≡ 0 → ⊥)
        go true k z d t = ((λ q. absurd (let x : ⊥ = omega (arith, q, d) in x)), (λ f. absurd (f (t.0 refl))))
        go false k z d t = ((λ q u. false-true (t.1 u)), (λ f. nothing k d))
