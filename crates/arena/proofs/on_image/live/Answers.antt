use Rattle.std.proofs.Common.{refl, sym, ◌∙◌}
use Rattle.arena.specs.Refusals.{row5}
use Rattle.arena.proofs.on_image.live.Goals as goal

pub returns-then-live_block : goal.returns-then-live_block
unfolding row5
returns-then-live_block c = rw (sym c.live_block.ensures ∙ c.if-live_block.true) refl

pub returns-else-live_block : goal.returns-else-live_block
unfolding row5
returns-else-live_block c = rw (sym c.live_block.ensures ∙ c.if-live_block.false) refl
