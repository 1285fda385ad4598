use Rattle.std.proofs.Common.{◌+◌, get_or, set, refl, ap, ◌∙◌, arith, length-set}
use Rattle.arena.specs.Record.{copied_up}
use Rattle.arena.proofs.RecordCode.{copied_next}
use Rattle.arena.proofs.control.copy_links.Goals as goal

pub loop-i-init : goal.loop-i-init
unfolding copied_up
loop-i-init c = (omega arith, c.told-r, refl)

pub loop-i-preserved : goal.loop-i-preserved
loop-i-preserved c = (
  omega arith,
  simp length-set c.loop-i.invariant.1,
  ap (λ z. set z (c.args.from + c.loop-i.i) (get_or c.args.links.now c.loop-i.i record { 0 = 0 }).0) c.loop-i.invariant.2
      ∙ copied_next c.args.r.now c.args.from c.args.links.now c.loop-i.i,
)
