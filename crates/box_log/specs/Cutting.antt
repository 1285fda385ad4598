-- THE STREAM CUT INTO RECORDS: first what the records of a stream are, then the steps, a byte at a time, with a line of 64 bytes. Assumes
-- nothing.
use Rattle.std.specs.Prelude.{Bool, Option, None, Some, true, false, ◌&&◌, List, [], ◌∷◌, map, ℕ, ◌+◌, eqb, ltb, length, take, set}
use Rattle.words.specs.Logic.{pick}
use Rattle.box_log.specs.Grammar.{read_record}
use Rattle.box_log.specs.declared.entry.Entry.{Entry}
use Rattle.box_log.specs.declared.entry.Entry.TheVariants.{Odd}
use Rattle.box_log.specs.declared.cut.Place.{Place}
use Rattle.box_log.specs.declared.cut.Step.{Step}

-- ---- the records of a stream

abbrev pub is_crlf : ℕ → ℕ → Bool
is_crlf b c = eqb b 13 && eqb c 10

-- a byte in front of the first record
abbrev pub onto : ℕ → List (List ℕ) → List (List ℕ)
onto b [] = (b ∷ []) ∷ []
onto b (r ∷ rs) = (b ∷ r) ∷ rs

-- "Records end in CRLF, the last may lack it": nothing holds no record; a CRLF ends one; any other byte belongs to the record that it
-- stands in
unfoldable pub records : List ℕ → List (List ℕ)
records [] = []
records (b ∷ []) = (b ∷ []) ∷ []
records (b ∷ c ∷ bs) = pick (is_crlf b c) ([] ∷ records bs) (onto b (records (c ∷ bs)))

-- what they say
unfoldable pub entries : List ℕ → List Entry
entries bs = map read_record (records bs)

-- ---- the steps

abbrev pub more : ℕ → ℕ
more held = pick (ltb held 65) (held + 1) 65

unfoldable pub read_line : List ℕ → ℕ → Entry
read_line line held = pick (ltb (length line) held) Odd (read_record (take held line))

abbrev pub at : ℕ → Bool → Place
at held cr = record { held = held; cr = cr }

abbrev pub step : ℕ → Bool → Option Entry → Step
step held cr got = record { place = at held cr; got = got }

-- a byte where no CR came before it: a CR waits for the next byte
unfoldable pub plain_line : List ℕ → ℕ → ℕ → List ℕ
plain_line line held b = pick (eqb b 13) line (set line held b)

unfoldable pub plain_step : ℕ → ℕ → Step
plain_step held b = pick (eqb b 13) (step held true None) (step (more held) false None)

-- a byte where a CR may have come before it: an LF ends the record, any other byte makes the CR one of the record's bytes
unfoldable pub line_after : List ℕ → Place → ℕ → List ℕ
line_after line p b =
    pick p.cr (pick (eqb b 10) line (plain_line (set line p.held 13) (more p.held) b)) (plain_line line p.held b)

unfoldable pub step_at : List ℕ → Place → ℕ → Step
step_at line p b =
    pick p.cr (pick (eqb b 10) (step 0 false (Some (read_line line p.held))) (plain_step (more p.held) b)) (plain_step p.held b)

-- the end of the stream
unfoldable pub line_at_end : List ℕ → Place → List ℕ
line_at_end line p = pick p.cr (set line p.held 13) line

unfoldable pub ending : List ℕ → Place → Option Entry
ending line p =
    pick p.cr (Some (read_line (set line p.held 13) (more p.held)))
    (pick (eqb p.held 0) None (Some (read_line line p.held)))

-- ---- a run of the steps

abbrev pub hand_out : Option Entry → List Entry → List Entry
hand_out None es = es
hand_out (Some e) es = e ∷ es

-- over the bytes, and then the end
unfoldable pub handed : List ℕ → Place → List ℕ → List Entry
handed line p [] = hand_out (ending line p) []
handed line p (b ∷ bs) = hand_out (step_at line p b).got (handed (line_after line p b) (step_at line p b).place bs)

-- over a piece of the stream: what is handed out, the line and the place that the next piece begins with
unfoldable pub out_of : List ℕ → Place → List ℕ → List Entry
out_of line p [] = []
out_of line p (b ∷ bs) = hand_out (step_at line p b).got (out_of (line_after line p b) (step_at line p b).place bs)

unfoldable pub line_of : List ℕ → Place → List ℕ → List ℕ
line_of line p [] = line
line_of line p (b ∷ bs) = line_of (line_after line p b) (step_at line p b).place bs

unfoldable pub place_of : List ℕ → Place → List ℕ → Place
place_of line p [] = p
place_of line p (b ∷ bs) = place_of (line_after line p b) (step_at line p b).place bs
