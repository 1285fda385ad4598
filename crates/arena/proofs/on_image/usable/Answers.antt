use Rattle.std.proofs.Common.{sym, ap, ◌∙◌}
use Rattle.std.proofs.lemmas.Result.{err_from_is_err_and}
use Rattle.rules.specs.Calls.{bytes}
use Rattle.calls.specs.CallBytes.{told}
use Rattle.arena.proofs.RefusalLaws.{stop, go}
use Rattle.arena.proofs.OnImageCode.{usable_rows}
use Rattle.arena.proofs.on_image.usable.Goals as goal

pub returns-in_err-checked : goal.returns-in_err-checked
returns-in_err-checked c =
    let p = err_from_is_err_and c.from_residual.result c.from_residual.ensures.1 in rw (p.1, p.2)
    (stop _ _ _ (usable_rows c.args.r.now c.args.w.now c.args.b) c.in_err-checked.ensures)

pub returns-in_err-live : goal.returns-in_err-live
returns-in_err-live c =
    let p = err_from_is_err_and c.from_residual-in_err-live.result c.from_residual-in_err-live.ensures.1 in rw (p.1, p.2)
    (stop _ _ _ (go _ _ _ (usable_rows c.args.r.now c.args.w.now c.args.b) c.in_ok-checked.ensures) c.in_err-live.ensures)

pub returns : goal.returns
returns c =
    ap (λ n. told (bytes n) c.args.r.now c.args.w.now) c.usable_size.ensures
    ∙ sym (go _ _ _ (go _ _ _ (usable_rows c.args.r.now c.args.w.now c.args.b) c.in_ok-checked.ensures) c.in_ok-live.ensures)
