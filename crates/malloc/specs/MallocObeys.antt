-- MALLOC OBEYS ITS RULE: where image and words hold a heap, the answer is the rule's and what is left holds the rule's heap; where the rule
-- refuses, nothing changes. By the step laws of the bins and of the tiling: each branch is a few steps, each test in bytes is the rule's test.
-- Assumes nothing.
use Rattle.std.specs.Prelude.{◌≡◌, List, [], ℕ}
use Rattle.std.proofs.Math.Option.{Option, none, some}
use Rattle.words.specs.Edition.{Edition, no_link, enc}
use Rattle.rules.specs.Malloc.{Grant}
use Rattle.chunk.specs.Held.{Held}
use Rattle.malloc.specs.MallocBytes.{Reply, reply}

abbrev pub Obeys : Edition → List ℕ → List ℕ → Reply → Option Grant → Type 0
Obeys e r w a none = a ≡ reply (no_link e) r w
Obeys e r w a (some g) = (a.answer ≡ enc e g.place) × Held e a.image a.words g.heap []
