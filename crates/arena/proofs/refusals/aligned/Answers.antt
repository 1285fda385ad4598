use Rattle.std.proofs.Common.{refl, sym, ◌∙◌}
use Rattle.arena.specs.Refusals.{row3}
use Rattle.arena.proofs.refusals.aligned.Goals as goal

pub returns-then-alignment_ok : goal.returns-then-alignment_ok
unfolding row3
returns-then-alignment_ok c = rw (sym c.alignment_ok.ensures ∙ c.if-alignment_ok.true) refl

pub returns-else-alignment_ok : goal.returns-else-alignment_ok
unfolding row3
returns-else-alignment_ok c = rw (sym c.alignment_ok.ensures ∙ c.if-alignment_ok.false) refl
