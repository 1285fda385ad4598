-- WHAT MALLOC REACHES: every word that is governed neither before the call nor after it is as it was. A chunk leaves its bin, which reaches
-- links of the heap before; it is taken or cut, which reaches heads and a foot of the one or of the other; the rest is put away, which reaches
-- links of the heap after. Which way it goes is the rule's (`MallocWays`). Assumes nothing.
use Rattle.std.proofs.Math.Option.{Option, none, some}
use Rattle.rules.specs.Heap.{Heap}
use Rattle.rules.specs.Malloc.{Grant}

-- the heap that an answer leaves: a refusal leaves it as it was
abbrev pub left_by : Heap → Option Grant → Heap
left_by h none = h
left_by h (some g) = g.heap
