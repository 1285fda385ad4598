-- THE STEPS CUT THE STREAM as its definition says: from an empty line of 64 bytes the entries handed out over the whole stream are what the
-- stream's records say (`cut-whole`), however it comes in pieces (`in_pieces`). And what the definition says: `records-crlf`,
-- `records_last`. Assumes nothing.
use Rattle.std.specs.Prelude.{Bool, Option, None, Some, true, false, not, ◌&&◌, List, [], ◌∷◌, ◌++◌, map, ◌≡◌, refl, ℕ, suc, ◌+◌, ◌≤◌, ◌<◌, eqb, length, take, set}
use Rattle.std.proofs.Common.{append-nil, ⊎_elim, sym, ap, ◌∙◌, arith, add-one, length-append, length-set, take-suc-set, lt-ltb, le-ltb, eq-eqb, ne_eqb}
use Rattle.words.specs.Logic.{pick, by, false-true, same?, le_or_lt}
use Rattle.box_log.specs.Grammar.{read_record}
use Rattle.box_log.specs.Cutting.{is_crlf, onto, records, entries, more, read_line, at, plain_line, plain_step, line_after, step_at, ending}
use Rattle.box_log.specs.Cutting.{hand_out, handed, out_of, line_of, place_of}
use Rattle.box_log.specs.declared.entry.Entry.{Entry}
use Rattle.box_log.specs.declared.cut.Place.{Place}
use Rattle.box_log.specs.CuttingLaws.{Kept, before, no_crlf}

-- ---- the records of a stream

pub before-behind : (xs : List ℕ) (b : ℕ) (rs : List (List ℕ)) → before xs (onto b rs) ≡ before (xs ++ (b ∷ [])) rs
before-behind [] b rs = refl
before-behind (x ∷ xs) b rs = ap (onto x) (before-behind xs b rs)

pub before_first : (xs r : List ℕ) (rs : List (List ℕ)) → before xs (r ∷ rs) ≡ (xs ++ r) ∷ rs
before_first [] r rs = refl
before_first (x ∷ xs) r rs = ap (onto x) (before_first xs r rs)

-- a byte that no CR is, and a CR before another byte than an LF
pub records_byte : (b : ℕ) (bs : List ℕ) → (b ≡ 13 → ⊥) → records (b ∷ bs) ≡ onto b (records bs)
unfolding records
records_byte b [] n = refl
records_byte b (c ∷ bs) n = rw (ne_eqb b 13 n) refl

pub records_cr : (c : ℕ) (bs : List ℕ) → (c ≡ 10 → ⊥) → records (13 ∷ c ∷ bs) ≡ onto 13 (records (c ∷ bs))
unfolding records
records_cr c bs n = rw (ne_eqb c 10 n) refl

pub records_end : (bs : List ℕ) → records (13 ∷ 10 ∷ bs) ≡ [] ∷ records bs
unfolding records
records_end bs = refl

pub before_none : (x : ℕ) (xs : List ℕ) → before (x ∷ xs) [] ≡ (x ∷ xs) ∷ []
before_none x [] = refl
before_none x (y ∷ ys) = ap (onto x) (before_none y ys)

cr_cr : (b : ℕ) → is_crlf b 13 ≡ false
cr_cr b = by (λ t. t && false ≡ false) (eqb b 13) (λ z. refl) (λ z. refl)

free_first : (b c : ℕ) (bs : List ℕ) → no_crlf (b ∷ c ∷ bs) ≡ true → (is_crlf b c ≡ false) × (no_crlf (c ∷ bs) ≡ true)
free_first b c bs q =
    by (λ t. not t && no_crlf (c ∷ bs) ≡ true → (t ≡ false) × (no_crlf (c ∷ bs) ≡ true)) (is_crlf b c)
    (λ z r. false-true r) (λ z r. (refl, r)) q

-- "Records end in CRLF": bytes without a CRLF, and then one, are the first record; lone CRs and LFs among them change nothing
pub records-crlf : (r bs : List ℕ) → no_crlf r ≡ true → records (r ++ 13 ∷ 10 ∷ bs) ≡ r ∷ records bs
unfolding records
records-crlf [] bs q = refl
records-crlf (b ∷ []) bs q = rw (cr_cr b) refl
records-crlf (b ∷ c ∷ r) bs q = rw (free_first b c r q).0 (ap (onto b) (records-crlf (c ∷ r) bs (free_first b c r q).1))

-- "the last may lack it"
pub records_last : (b : ℕ) (r : List ℕ) → no_crlf (b ∷ r) ≡ true → records (b ∷ r) ≡ (b ∷ r) ∷ []
unfolding records
records_last b [] q = refl
records_last b (c ∷ r) q = rw (free_first b c r q).0 (ap (onto b) (records_last c r (free_first b c r q).1))

-- ---- the line

pub kept_none : (line : List ℕ) → length line ≡ 64 → Kept line 0 []
kept_none line q = record { full = q; count = λ p. refl; over = λ p. absurd (let z : ⊥ = omega (arith, p) in z); bytes = λ p. refl }

behind-length : (cur : List ℕ) (b : ℕ) → length (cur ++ (b ∷ [])) ≡ length cur + 1
behind-length cur b = length-append cur (b ∷ [])

more_in : (held : ℕ) → held < 65 → more held ≡ held + 1
more_in held p = rw (lt-ltb held 65 p) refl

more_out : (held : ℕ) → held ≡ 65 → more held ≡ 65
more_out held p = rw p refl

pub kept_more : {line : List ℕ} {held : ℕ} {cur : List ℕ} (b : ℕ) → Kept line held cur
    → Kept (set line held b) (more held) (cur ++ (b ∷ []))
kept_more {line} {held} {cur} b k =
    record {
      full = length-set line held b ∙ k.full;
      count = λ p. let z : length cur + 1 ≤ 64 = rw (behind-length cur b) at p in
          let h : held ≡ length cur = k.count (omega arith) in
          more_in held (omega arith) ∙ (let w : held + 1 ≡ length cur + 1 = omega arith in w) ∙ sym (behind-length cur b);
      over = λ p. let z : 64 < length cur + 1 = rw (behind-length cur b) at p in ⊎_elim
          (λ q. let h : held ≡ length cur = k.count q in more_in held (omega arith) ∙ (let w : held + 1 ≡ 65 = omega arith in w))
          (λ q. more_out held (k.over q))
          (le_or_lt (length cur) 64);
      bytes = λ p. let z : length cur + 1 ≤ 64 = rw (behind-length cur b) at p in
          let h : held ≡ length cur = k.count (omega arith) in
          let l : held < length line = (let f : length line ≡ 64 = k.full in omega arith) in
          ap (λ n. take n (set line held b)) (more_in held (omega arith) ∙ add-one held) ∙ take-suc-set line held b l
          ∙ ap (λ x. x ++ (b ∷ [])) (k.bytes (omega arith));
    }

pub kept_reads : {line : List ℕ} {held : ℕ} {cur : List ℕ} → Kept line held cur → read_line line held ≡ read_record cur
unfolding read_line read_record
kept_reads {line} {held} {cur} k =
    let f : length line ≡ 64 = k.full in
    ⊎_elim
    (λ q. let h : held ≡ length cur = k.count q in
    rw (le-ltb (length line) held (omega arith)) (ap read_record (k.bytes q)))
    (λ q. let h : held ≡ 65 = k.over q in
    rw (lt-ltb (length line) held (omega arith), lt-ltb 64 (length cur) q) refl)
    (le_or_lt (length cur) 64)

-- ---- the run

abbrev Runs : List ℕ → Type 0
Runs bs = (line : List ℕ) (held : ℕ) (cur : List ℕ) (cr : Bool) → Kept line held cur
    → handed line (at held cr) bs ≡ map read_record (before cur (pick cr (records (13 ∷ bs)) (records bs)))

-- a byte where no CR came before it
plain : (b : ℕ) (bs : List ℕ) → Runs bs → (line : List ℕ) (held : ℕ) (cur : List ℕ) → Kept line held cur
    → hand_out (plain_step held b).got (handed (plain_line line held b) (plain_step held b).place bs) ≡ map read_record
    (before cur (records (b ∷ bs)))
unfolding plain_step plain_line
plain b bs ih line held cur k = ⊎_elim
    (λ q. rw (eq-eqb b 13 q) (ih line held cur true k ∙ ap (λ c. map read_record (before cur (records (c ∷ bs)))) (sym q)))
    (λ n. rw (ne_eqb b 13 n) (ih (set line held b) (more held) (cur ++ (b ∷ [])) false (kept_more b k)
    ∙ ap (map read_record) (sym (before-behind cur b (records bs)) ∙ ap (before cur) (sym (records_byte b bs n)))))
    (same? b 13)

last_plain : (line : List ℕ) (held : ℕ) (cur : List ℕ) → Kept line held cur
    → hand_out (ending line (at held false)) [] ≡ map read_record (before cur [])
unfolding ending
last_plain line held [] k = rw (eq-eqb held 0 (k.count (omega arith))) refl
last_plain line held (x ∷ xs) k =
    rw (
      ne_eqb held 0 (λ q. ⊎_elim
          (λ p. let h : held ≡ suc (length xs) = k.count p in omega arith)
          (λ p. let h : held ≡ 65 = k.over p in omega arith)
          (le_or_lt (suc (length xs)) 64)),
      before_none x xs,
    )
    (ap (λ e. e ∷ []) (kept_reads k))

runs : (bs : List ℕ) → Runs bs
unfolding handed step_at line_after ending records
runs [] line held cur false k = last_plain line held cur k
runs [] line held cur true k = ap (λ e. e ∷ []) (kept_reads (kept_more 13 k)) ∙ ap (map read_record) (sym (before_first cur (13 ∷ []) []))
runs (b ∷ bs) line held cur false k = plain b bs (runs bs) line held cur k
runs (b ∷ bs) line held cur true k = ⊎_elim
    (λ q. rw q (ap (λ e. e ∷ handed line (at 0 false) bs) (kept_reads k)
    ∙ ap (λ es. read_record cur ∷ es) (runs bs line 0 [] false (kept_none line k.full))
    ∙ ap (λ r. map read_record (r ∷ records bs)) (sym (append-nil cur))
    ∙ ap (map read_record) (sym (before_first cur [] (records bs)))))
    (λ n. rw (ne_eqb b 10 n) (plain b bs (runs bs) (set line held 13) (more held) (cur ++ (13 ∷ [])) (kept_more 13 k)
    ∙ ap (map read_record) (sym (before-behind cur 13 (records (b ∷ bs))))))
    (same? b 10)

-- the whole stream: what its records say
pub cut-whole : (line bs : List ℕ) → length line ≡ 64 → handed line (at 0 false) bs ≡ entries bs
unfolding entries
cut-whole line bs q = runs bs line 0 [] false (kept_none line q)

-- ---- in pieces

hand_append : (g : Option Entry) (es fs : List Entry) → hand_out g (es ++ fs) ≡ hand_out g es ++ fs
hand_append None es fs = refl
hand_append (Some e) es fs = refl

-- a piece, and then the rest: the line and the place carry what the next piece needs
pub in_pieces : (line : List ℕ) (p : Place) (xs ys : List ℕ)
    → handed line p (xs ++ ys) ≡ out_of line p xs ++ handed (line_of line p xs) (place_of line p xs) ys
unfolding handed out_of line_of place_of
in_pieces line p [] ys = refl
in_pieces line p (x ∷ xs) ys =
    ap (hand_out (step_at line p x).got) (in_pieces (line_after line p x) (step_at line p x).place xs ys)
    ∙ hand_append (step_at line p x).got (out_of (line_after line p x) (step_at line p x).place xs)
    (handed (line_of (line_after line p x) (step_at line p x).place xs) (place_of (line_after line p x) (step_at line p x).place xs) ys)
