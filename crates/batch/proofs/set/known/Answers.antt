use Rattle.std.proofs.Common.{refl, sym, ◌∙◌}
use Rattle.batch.specs.Lines.{known_row}
use Rattle.batch.proofs.set.known.Goals as goal

pub returns-then-has : goal.returns-then-has
unfolding known_row
returns-then-has c = rw (sym c.has.ensures ∙ c.if-has.true) refl

pub returns-else-has : goal.returns-else-has
unfolding known_row
returns-else-has c = rw (sym c.has.ensures ∙ c.if-has.false) refl
