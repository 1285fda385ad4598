use Rattle.std.proofs.Common.{rules, sym, ◌∙◌}
use Rattle.std.proofs.lemmas.Result.{err_from_is_err_and}
use Rattle.batch.proofs.BatchCode.{malloc_rows, malloc_kept, stop, go}
use Rattle.batch.proofs.serve.malloc.Goals as goal

pub returns-in_err-few-clause-call : goal.returns-in_err-few-clause-call
returns-in_err-few-clause-call c =
    let p = err_from_is_err_and c.from_residual.result c.from_residual.ensures.1 in rw (p.1, p.2)
    (stop _ _ _ _ _ (malloc_rows c.args.heap.now.image.now c.args.heap.now.words.now c.args.live.now c.args.bytes) c.in_err-few.ensures)

pub returns-clause-call : goal.returns-clause-call
returns-clause-call c =
    malloc_kept c.args.heap.now.image.now c.args.heap.now.words.now c.args.live.now c.args.bytes (search rules) c.in_ok-few.ensures c.malloc_chunk-p.result c.request2size.ensures c.malloc_chunk-p.ensures.0 c.entered.ensures
    ∙ sym (go _ _ _ _ _ (malloc_rows c.args.heap.now.image.now c.args.heap.now.words.now c.args.live.now c.args.bytes) c.in_ok-few.ensures)
