use Rattle.tiles.proofs.TilesCode.{Walks}
use Rattle.tiles.proofs.walk.Given as goal

abbrev pub invariant-loop : goal.invariant-loop
invariant-loop l = Walks l.w l.top l.fn.m l.p l.pu l.m l.counter
