use Rattle.abi.proofs.AbiCode.{granted_out, refused_out}
use Rattle.abi.proofs.answer.tell.Goals as goal
use Rattle.abi.proofs.answer.tell.Goals.{in-Ok, in-Err}

pub returns-clause-out : goal.returns-clause-out
returns-clause-out g c = elim c.match-answer.branch [
  | in-Ok w ↦ rw (w.n-is, w.in-Ok.is) (granted_out c.args.out.now _ w.value.ensures.value w.value.ensures.granted)
  | in-Err w ↦ rw (w.n-is, w.in-Err.is) (refused_out c.args.out.now _ w.from.ensures w.refused_value.ensures)
]
