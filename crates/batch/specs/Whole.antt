-- THE WHOLE LIST, refused or not, as its number. Assumes nothing.
use Rattle.std.specs.Prelude.{ℕ, Result, Ok, Err}
use Rattle.batch.specs.declared.whole.WholeRefusal.{WholeRefusal}
use Rattle.batch.specs.declared.whole.WholeRefusal.TheVariants.{BadCount, Unsound, ListsDoNotFit}

-- rows 1 and 2, or 8: the lists do not fit
abbrev pub refusal_number : WholeRefusal → ℕ
refusal_number BadCount = 1
refusal_number Unsound = 2
refusal_number ListsDoNotFit = 8

-- 0 where the calls were made
abbrev pub whole_number : {T : Type 0} → Result T WholeRefusal → ℕ
whole_number (Ok x) = 0
whole_number (Err why) = refusal_number why
