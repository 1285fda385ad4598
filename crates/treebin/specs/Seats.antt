-- What the code calls a seat, as the number pair of `TreeBytes`: a child word of a node, or the node's ring, told by the side 0. Assumes nothing.
use Rattle.std.specs.Prelude.{◌<◌, ⊤}
use Rattle.treebin.specs.TreeBytes as words
use Rattle.treebin.specs.declared.insert.Seat.{Seat}
use Rattle.treebin.specs.declared.insert.Seat.TheVariants.{Below, InRing}

abbrev pub seat_of : Seat → words.Seat
seat_of (Below up) = words.seat up.at.0 up.side
seat_of (InRing t) = words.seat t.0 0

-- a child word is not told by 0
abbrev pub HasWord : Seat → Type 0
HasWord (Below up) = 0 < up.side
HasWord (InRing t) = ⊤
