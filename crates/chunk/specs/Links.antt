-- A LINK as an Option: the chunk that it leads to, or nothing. Assumes nothing.
use Rattle.std.specs.Prelude.{◌≡◌, ◌≢◌, ℕ, Option, Some, None}
use Rattle.words.specs.Edition.{wide, no_link}
use Rattle.chunk.specs.declared.access.ChunkOff.{ChunkOff}

abbrev pub LeadsTo : ℕ → Option ChunkOff → Type 0
LeadsTo n None = n ≡ no_link wide
LeadsTo n (Some c) = (c.0 ≡ n) × (n ≢ no_link wide)
