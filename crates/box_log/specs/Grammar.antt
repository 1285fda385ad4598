-- THE RECORD GRAMMAR of document 02 (viii): `setup,words`, `malloc,n`, `free,off`, `realloc,off,n`, `memalign,a,n`, "plain decimals up to
-- 65,535 without leading zeros, no quotes". First the text of each call, which is the grammar; then how a record is read. Assumes nothing.
use Rattle.std.specs.Prelude.{Bool, true, false, ◌&&◌, List, [], ◌∷◌, ◌++◌, ◌≡◌, ℕ, suc, ◌+◌, ◌≤◌, eqb, leb, ltb, length, take, drop}
use Rattle.words.specs.Logic.{pick}
use Rattle.box_log.specs.Decimals.{decimal, number_of, none}
use Rattle.box_log.specs.declared.entry.Entry.{Entry}
use Rattle.box_log.specs.declared.entry.Entry.TheVariants.{Setup, Malloc, Free, Realloc, Memalign, Odd}

-- ---- the grammar

-- the five names, and the comma
abbrev pub setup : List ℕ
setup = 115 ∷ 101 ∷ 116 ∷ 117 ∷ 112 ∷ []

abbrev pub malloc : List ℕ
malloc = 109 ∷ 97 ∷ 108 ∷ 108 ∷ 111 ∷ 99 ∷ []

abbrev pub free : List ℕ
free = 102 ∷ 114 ∷ 101 ∷ 101 ∷ []

abbrev pub realloc : List ℕ
realloc = 114 ∷ 101 ∷ 97 ∷ 108 ∷ 108 ∷ 111 ∷ 99 ∷ []

abbrev pub memalign : List ℕ
memalign = 109 ∷ 101 ∷ 109 ∷ 97 ∷ 108 ∷ 105 ∷ 103 ∷ 110 ∷ []

abbrev pub comma : ℕ
comma = 44

-- the text of a call
abbrev pub spelling : Entry → List ℕ
spelling (Setup n) = setup ++ comma ∷ decimal n
spelling (Malloc n) = malloc ++ comma ∷ decimal n
spelling (Free n) = free ++ comma ∷ decimal n
spelling (Realloc n m) = realloc ++ comma ∷ (decimal n ++ comma ∷ decimal m)
spelling (Memalign n m) = memalign ++ comma ∷ (decimal n ++ comma ∷ decimal m)
spelling Odd = []

-- "up to 65,535"
abbrev pub Within : Entry → Type 0
Within (Setup n) = n ≤ 65535
Within (Malloc n) = n ≤ 65535
Within (Free n) = n ≤ 65535
Within (Realloc n m) = (n ≤ 65535) × (m ≤ 65535)
Within (Memalign n m) = (n ≤ 65535) × (m ≤ 65535)
Within Odd = ⊥

-- the bytes have the form, and say this call
pub record HasForm (bs : List ℕ) (e : Entry) : Type 0 where
  pub within : Within e
  pub spelt : bs ≡ spelling e

-- ---- the reading

abbrev pub same_bytes : List ℕ → List ℕ → Bool
same_bytes [] [] = true
same_bytes [] (y ∷ ys) = false
same_bytes (x ∷ xs) [] = false
same_bytes (x ∷ xs) (y ∷ ys) = eqb x y && same_bytes xs ys

-- where the first comma stands; the length where there is none
abbrev pub comma_at : List ℕ → ℕ
comma_at [] = 0
comma_at (b ∷ bs) = pick (eqb b comma) 0 (suc (comma_at bs))

unfoldable pub kind_of : List ℕ → ℕ
kind_of name =
    pick (same_bytes name setup) 1
    (pick (same_bytes name malloc) 2
    (pick (same_bytes name free) 3
    (pick (same_bytes name realloc) 4
    (pick (same_bytes name memalign) 5
    0))))

unfoldable pub one_number : ℕ → ℕ → Entry
one_number kind n = pick (leb none n) Odd (pick (eqb kind 1) (Setup n) (pick (eqb kind 2) (Malloc n) (Free n)))

unfoldable pub two_numbers : ℕ → ℕ → ℕ → Entry
two_numbers kind n m = pick (leb none n) Odd (pick (leb none m) Odd (pick (eqb kind 4) (Realloc n m) (Memalign n m)))

-- the parts before and after the comma at k
abbrev pub cut_at : {A : Type 0} → ℕ → List ℕ → (List ℕ → List ℕ → A) → A → A
cut_at k bs f none = pick (leb (length bs) k) none (f (take k bs) (drop (k + 1) bs))

unfoldable pub called : ℕ → List ℕ → Entry
called kind rest =
    pick (eqb kind 0) Odd
    (pick (ltb kind 4) (one_number kind (number_of rest))
    (cut_at (comma_at rest) rest (λ ds es. two_numbers kind (number_of ds) (number_of es)) Odd))

-- "A record of another form, or longer than 64 bytes before its CRLF, answers 9"
unfoldable pub read_record : List ℕ → Entry
read_record bs =
    pick (ltb 64 (length bs)) Odd
    (cut_at (comma_at bs) bs (λ name rest. called (kind_of name) rest) Odd)
