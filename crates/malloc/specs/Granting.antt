-- WHAT A CALL HANDS OUT on a heap at work: a chunk, or nothing where the words level says the link that leads nowhere. Assumes nothing.
use Rattle.std.specs.Prelude.{◌≡◌, ◌≢◌, ℕ, List, Option, Some, None}
use Rattle.words.specs.Edition.{wide, no_link}
use Rattle.rules.specs.Malloc as rules
use Rattle.chunk.specs.Running.{SameLoans}
use Rattle.chunk.specs.declared.access.ChunkOff.{ChunkOff}
use Rattle.chunk.specs.declared.heap.Heap.{Heap}
use Rattle.malloc.specs.MallocBytes.{Reply, reply}
use Rattle.malloc.specs.declared.Rest.{Rest}
use Rattle.malloc.specs.declared.Rest.TheVariants.{Dv, Bin}

-- where a rest goes
abbrev pub rest_of : Rest → rules.Rest
rest_of Dv = rules.to_dv
rest_of Bin = rules.to_bin

-- the number told, the image and the words are the reply's
abbrev pub Replies : Heap → Heap → ℕ → Reply → Type 0
Replies before after answer told = (reply answer after.image.now after.words.now ≡ told) × SameLoans before after

-- the chunk handed out is the reply's, or nothing where the reply is the link that leads nowhere
abbrev pub Hands : Option ChunkOff → List ℕ → List ℕ → Reply → Type 0
Hands None r w told = reply (no_link wide) r w ≡ told
Hands (Some c) r w told = (c.0 ≢ no_link wide) × (reply c.0 r w ≡ told)

abbrev pub Grants : Heap → Heap → Option ChunkOff → Reply → Type 0
Grants before after o told = Hands o after.image.now after.words.now told × SameLoans before after
