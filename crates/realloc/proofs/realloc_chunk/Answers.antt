use mathlib.Core.Path.{refl, ◌∙◌}
use Rattle.malloc.proofs.Laws.{hands}
use Rattle.realloc.proofs.Laws.{here_first, not_moved, moved_away}
use Rattle.realloc.proofs.realloc_chunk.Goals as goal

pub returns-then-try_realloc_chunk : goal.returns-then-try_realloc_chunk
returns-then-try_realloc_chunk c =
    let t = c.try_realloc_chunk.ensures in
    (hands _ _ _ c.args.p.0 c.known.result c.known.ensures (here_first _ _ _ _ t.0 c.if-try_realloc_chunk.true), t.1)

pub returns-in_err-q : goal.returns-in_err-q
returns-in_err-q c =
    let t = c.try_realloc_chunk.ensures in
    let m = c.in_err-q.ensures in
    rw c.from_residual.ensures
    (not_moved _ _ _ _ t.0 c.if-try_realloc_chunk.false m.0 refl, (m.1.0 ∙ t.1.0, m.1.1 ∙ t.1.1))

pub returns : goal.returns
returns c =
    let t = c.try_realloc_chunk.ensures in
    let m = c.in_ok-q.ensures in
    let v = c.move_block.ensures in
    ((m.0.0, moved_away _ _ _ _ t.0 c.if-try_realloc_chunk.false m.0.1 m.0.0 v.0 v.1), (v.2.0 ∙ m.1.0 ∙ t.1.0, v.2.1 ∙ m.1.1 ∙ t.1.1))
