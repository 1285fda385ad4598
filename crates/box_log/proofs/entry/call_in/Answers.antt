use Rattle.box_log.proofs.EntryCode.{call_long, call_no_comma, call_found}
use Rattle.box_log.proofs.entry.call_in.Goals as goal

pub returns-then-s-gt64 : goal.returns-then-s-gt64
returns-then-s-gt64 c = call_long _ c.if-s-gt64.true

pub returns-in_err-name : goal.returns-in_err-name
returns-in_err-name c = call_no_comma _ c.if-s-gt64.false c.in_err-name.ensures c.from_residual.ensures

pub returns : goal.returns
returns c = call_found _ c.if-s-gt64.false c.in_ok-name.ensures c.call.ensures
