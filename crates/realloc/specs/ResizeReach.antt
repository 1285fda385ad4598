-- WHAT A RESIZE IN PLACE REACHES: every word that is governed neither before it nor after it is as it was. Cutting a block writes two heads, its
-- own and that of the part that is given back, and there, what is given back begins; growing writes the block's head, and heads and a foot of
-- the free chunk, or of the top, behind it. Where the rule says no, nothing has changed. Assumes nothing.
use Rattle.std.proofs.Math.Option.{Option, none, some}
use Rattle.rules.specs.Heap.{Heap}

-- the heap that trying in place leaves: where the place is too small, as it was
abbrev pub heap_or : Heap → Option Heap → Heap
heap_or h none = h
heap_or h (some g) = g
