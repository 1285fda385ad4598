-- What a search hands out: the best node, or nothing where the best is none. Assumes nothing.
use Rattle.std.specs.Prelude.{◌≡◌, ◌≢◌, Option, Some, None}
use Rattle.words.specs.Edition.{wide, no_link}
use Rattle.treebin.specs.SearchBytes.{Best, best}
use Rattle.treebin.specs.declared.search.Found.{Found}

abbrev pub IsFind : Option Found → Best → Type 0
IsFind None b = b.at ≡ no_link wide
IsFind (Some f) b = (best f.at.0 f.rsize ≡ b) × (b.at ≢ no_link wide)
