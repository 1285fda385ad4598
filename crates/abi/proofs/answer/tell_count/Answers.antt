use Rattle.std.proofs.Common.{refl}
use Rattle.batch.proofs.BatchCode.{not_zero}
use Rattle.abi.proofs.AbiCode.{answered_none, answered_all, count_out_lem}
use Rattle.abi.proofs.answer.tell_count.Goals as goal
use Rattle.abi.proofs.answer.tell_count.Goals.{in-Ok, in-Err}

pub returns-clause-out : goal.returns-clause-out
returns-clause-out c = elim c.match-whole.branch [
  | in-Ok w ↦ rw (w.n-is, w.in-Ok.is) (count_out_lem _ _ c.args.out.now (answered_all _ _ refl))
  | in-Err w ↦ rw (w.n-is, w.in-Err.is, w.from.ensures) (count_out_lem _ _ c.args.out.now (answered_none _ _ (not_zero w.in-Err.why)))
]
