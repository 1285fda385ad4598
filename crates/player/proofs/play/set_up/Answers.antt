use Rattle.std.proofs.Common.{rules}
use Rattle.player.proofs.PlayCode.{laws}
use Rattle.player.proofs.play.set_up.Goals as goal

pub returns-in-Ok : goal.returns-in-Ok
returns-in-Ok c = search (laws, rules)

pub returns-in-Err : goal.returns-in-Err
returns-in-Err c = search (laws, rules)
