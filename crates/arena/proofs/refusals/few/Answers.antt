use Rattle.std.specs.Prelude.{Bool, Result, Ok, Err, ⊤}
use Rattle.std.proofs.Common.{ap, sym, ◌∙◌}
use Rattle.words.specs.Logic.{pick}
use Rattle.arena.specs.declared.answers.Reason.{Reason}
use Rattle.arena.specs.declared.answers.Reason.TheVariants.{TooMany}
use Rattle.arena.specs.Refusals.{row4}
use Rattle.arena.proofs.refusals.few.Goals as goal

-- the row at the test's outcome
told : Bool → Result ⊤ Reason
told many = pick many (Err TooMany) (Ok tt)

pub returns-then-too_many : goal.returns-then-too_many
unfolding row4 told
returns-then-too_many c = ap told (sym c.if-too_many.true ∙ c.too_many.ensures)

pub returns-else-too_many : goal.returns-else-too_many
unfolding row4 told
returns-else-too_many c = ap told (sym c.if-too_many.false ∙ c.too_many.ensures)
