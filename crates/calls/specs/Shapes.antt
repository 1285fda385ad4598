-- WHAT MAY SWAY AN ANSWER: not even the shapes of the tries. Where two records and arenas of one length hold heaps that differ in nothing but
-- these (`Alike`), every call is answered alike and leaves alike heaps, and so is every list of calls and owners' writes. By the laws of alike
-- heaps, rule by rule, and by what each call leaves being held. Assumes nothing.
use Rattle.std.specs.Prelude.{◌≡◌}
use Rattle.rules.specs.Calls.{Outcome}
use Rattle.holds.specs.Alike.{Alike}

-- two outcomes: one answer, alike heaps, as many words copied
pub record SameOutcome (o o' : Outcome) : Type 0 where
  pub answer : o.answer ≡ o'.answer
  pub heaps : Alike o.heap o'.heap
  pub copied : o.copied ≡ o'.copied
