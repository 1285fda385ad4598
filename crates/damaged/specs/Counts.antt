-- The counts of a bench, which wrap. Assumes nothing.
use Rattle.std.specs.Prelude.{Bool, ◌&&◌, ◌+◌, ◌%◌, ◌^◌}
use Rattle.words.specs.Logic.{pick}
use Rattle.damaged.specs.declared.bench.Bench.{Bench}

-- an answer that is not right is counted
abbrev pub told : Bool → Bench → Bench
told right b = record { heap = b.heap; tried = b.tried; wrong = pick right b.wrong ((b.wrong + 1) % 2 ^ 64) }

-- a damage has to be refused, and the heap accepted again
abbrev pub judged : Bool → Bool → Bench → Bench
judged refused accepted b = told (refused && accepted) record { heap = b.heap; tried = (b.tried + 1) % 2 ^ 64; wrong = b.wrong }
