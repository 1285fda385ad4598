use mathlib.Core.Path.{refl}
use Rattle.memalign.proofs.Laws.{refused}
use Rattle.memalign.proofs.memalign_chunk.Goals as goal

pub returns-in_err-p : goal.returns-in_err-p
returns-in_err-p c =
    let m = c.in_err-p.ensures in
    rw c.from_residual.ensures (refused _ _ _ _ c.sum.ensures c.sum-2.ensures c.request2size.ensures m.0 refl, m.1)
