use Rattle.std.proofs.Common.{sym, ◌∙◌}
use Rattle.std.proofs.lemmas.Result.{err_from_is_err_and}
use Rattle.batch.proofs.BatchCode.{free_rows, free_kept, stop, go}
use Rattle.batch.proofs.serve.free.Goals as goal

pub returns-in_err-known-clause-call : goal.returns-in_err-known-clause-call
returns-in_err-known-clause-call c =
    let p = err_from_is_err_and c.from_residual.result c.from_residual.ensures.1 in rw (p.1, p.2)
    (stop _ _ _ _ _ (free_rows c.args.heap.now.image.now c.args.heap.now.words.now c.args.live.now c.args.b) c.in_err-known.ensures)

pub returns-clause-call : goal.returns-clause-call
returns-clause-call c =
    free_kept c.args.heap.now.image.now c.args.heap.now.words.now c.args.live.now c.args.b c.remove.ensures c.from_mem.ensures c.free_chunk.ensures.0 c.free_chunk.ensures.1
    ∙ sym (go _ _ _ _ _ (free_rows c.args.heap.now.image.now c.args.heap.now.words.now c.args.live.now c.args.b) c.in_ok-known.ensures)
