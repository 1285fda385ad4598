use Rattle.std.proofs.Common.{rules}
use Rattle.box_log.proofs.EntryCode.{laws, first_odd}
use Rattle.box_log.proofs.entry.number.Goals as goal

pub returns-in_err-n : goal.returns-in_err-n
returns-in_err-n c = first_odd _ c.in_ok-first.ensures.cases.0 c.in_err-n.ensures c.from_residual-in_err-n.ensures
