use mathlib.Core.Path.{refl}
use Rattle.treebin.proofs.InsertLaws.{seat_ring}
use Rattle.treebin.proofs.insert.link_at.Goals as goal

pub returns-in-InRing : goal.returns-in-InRing
returns-in-InRing c = rw c.in-InRing.is (seat_ring _ _ _ _ _ refl c.link-f.ensures c.link_ring.ensures)
