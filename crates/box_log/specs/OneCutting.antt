-- ONE CUTTING: `records` cuts a stream as document 02 says (`records-cut`), and no second list of records does (`one_cutting`). Assumes
-- nothing.
use Rattle.std.specs.Prelude.{true, ◌⊎◌, ◌≡◌, ℕ}
use mathlib.Core.List.{List, [], ◌∷◌, ◌++◌}
use Rattle.box_log.specs.CuttingLaws.{no_crlf}

-- "Records end in CRLF, the last may lack it": no CRLF stands in a record; one stands behind it, or it is the last, and then it is not
-- empty
abbrev pub Cuts : List ℕ → List (List ℕ) → Type 0
Cuts bs [] = bs ≡ []
Cuts bs (r ∷ rs) = (no_crlf r ≡ true) × (((t : List ℕ) × (bs ≡ r ++ 13 ∷ 10 ∷ t) × Cuts t rs) ⊎ ((bs ≡ r) × (rs ≡ []) × (r ≡ [] → ⊥)))
