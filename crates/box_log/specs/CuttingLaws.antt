-- THE STEPS CUT THE STREAM as its definition says: from an empty line of 64 bytes the entries handed out over the whole stream are what the
-- stream's records say (`cut-whole`), however it comes in pieces (`in_pieces`). And what the definition says: `records-crlf`,
-- `records_last`. Assumes nothing.
use Rattle.std.specs.Prelude.{Bool, true, not, ◌&&◌, List, [], ◌∷◌, ◌≡◌, ℕ, ◌≤◌, ◌<◌, length, take}
use Rattle.box_log.specs.Cutting.{is_crlf, onto}

-- bytes in front of the first record
abbrev pub before : List ℕ → List (List ℕ) → List (List ℕ)
before [] rs = rs
before (b ∷ bs) rs = onto b (before bs rs)

-- no CRLF stands in it
abbrev pub no_crlf : List ℕ → Bool
no_crlf [] = true
no_crlf (b ∷ []) = true
no_crlf (b ∷ c ∷ bs) = not (is_crlf b c) && no_crlf (c ∷ bs)

-- the line and its count hold the bytes of the record that have come, or say that they are more than 64
pub record Kept (line : List ℕ) (held : ℕ) (cur : List ℕ) : Type 0 where
  pub full : length line ≡ 64
  pub count : length cur ≤ 64 → held ≡ length cur
  pub over : 64 < length cur → held ≡ 65
  pub bytes : length cur ≤ 64 → take held line ≡ cur
