use Rattle.arena.proofs.CallsCode.{rebuild_done, rebuild_refused}
use Rattle.arena.proofs.rebuild.Goals as goal

pub returns-in-Ok : goal.returns-in-Ok
returns-in-Ok c = rebuild_done _ _ _ c.rebuild.ensures c.in-Ok.is c.control_of.ensures

pub returns-in-Err : goal.returns-in-Err
returns-in-Err c = rebuild_refused _ _ _ c.rebuild.ensures c.in-Err.is c.from.ensures c.control_with.ensures
