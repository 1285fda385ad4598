-- THE READING IS THE GRAMMAR, both ways: what is taken has the form and says that call (`taken_has_form`); what has the form is taken, and
-- so is at most 64 bytes long (`form_is_taken`). So what is not taken has no form (`odd_has_none`), and no record says two calls. Assumes
-- nothing.
use Rattle.std.specs.Prelude.{true, false, ◌&&◌, List, [], ◌∷◌, ◌++◌, ◌⊎◌, ◌≡◌, eqb, leb, ltb, length, take, drop}
use Rattle.std.proofs.Math.Logic.{inl, inr}
use Rattle.std.proofs.Math.Path.{refl}
use Rattle.std.proofs.Common.{sym, ap, ◌∙◌, subst, arith, add-one, length-append, le-ltb, ne_eqb, leb-false, eqb-true}
use Prim.Native.Nat.{ℕ, suc, ◌+◌, ◌/◌, ◌%◌, ◌≤◌, ◌<◌}
use Rattle.std.proofs.Math.Seq.{take-append_seam, drop-append-add}
use Rattle.std.proofs.lemmas.Bool.{lt-leb}
use Rattle.words.specs.Logic.{pick, pick_case, by, false-true}
use Rattle.box_log.specs.Decimals.{decimal, number_of, none}
use Rattle.box_log.proofs.DecimalLaws.{number_of_decimal, decimal_of_number, decimal_five, by_digits}
use Rattle.box_log.specs.Grammar.{setup, malloc, free, realloc, memalign, comma, spelling, Within, HasForm, same_bytes, comma_at, kind_of}
use Rattle.box_log.specs.Grammar.{one_number, two_numbers, cut_at, called, read_record}
use Rattle.box_log.specs.declared.entry.Entry.{Entry}
use Rattle.box_log.specs.declared.entry.Entry.TheVariants.{Setup, Malloc, Free, Realloc, Memalign, Odd}

-- ---- the comma

-- a text without a comma, and then one
pub comma_between : (ds es : List ℕ) → comma_at ds ≡ length ds → comma_at (ds ++ comma ∷ es) ≡ length ds
comma_between [] es q = refl
comma_between (d ∷ ds) es q =
    by (λ t. pick t 0 (suc (comma_at ds)) ≡ suc (length ds) → pick t 0 (suc (comma_at (ds ++ comma ∷ es))) ≡ suc (length ds)) (eqb d comma)
    (λ z r. absurd (let w : ⊥ = omega (arith, r) in w))
    (λ z r. ap suc (comma_between ds es (let w : comma_at ds ≡ length ds = omega (arith, r) in w))) q

no_comma_behind : (ds : List ℕ) (b : ℕ) → (b ≡ comma → ⊥) → comma_at ds ≡ length ds → comma_at (ds ++ (b ∷ [])) ≡ length (ds ++ (b ∷ []))
no_comma_behind [] b n q = rw (ne_eqb b comma n) refl
no_comma_behind (d ∷ ds) b n q =
    by (λ t. pick t 0 (suc (comma_at ds)) ≡ suc (length ds)
    → pick t 0 (suc (comma_at (ds ++ (b ∷ [])))) ≡ suc (length (ds ++ (b ∷ [])))) (eqb d comma)
    (λ z r. absurd (let w : ⊥ = omega (arith, r) in w))
    (λ z r. ap suc (no_comma_behind ds b n (let w : comma_at ds ≡ length ds = omega (arith, r) in w))) q

-- a decimal has none
decimal_no_comma : (n : ℕ) → comma_at (decimal n) ≡ length (decimal n)
decimal_no_comma n = by_digits (λ n l. comma_at l ≡ length l)
    (λ n p. no_comma_behind [] (48 + n) (λ z. omega arith) refl)
    (λ n p h. no_comma_behind (decimal (n / 10)) (48 + n % 10) (λ z. omega arith) h) n

-- where a comma is found, the two parts and it are the whole
splits : (bs : List ℕ) → comma_at bs < length bs → bs ≡ take (comma_at bs) bs ++ comma ∷ drop (suc (comma_at bs)) bs
splits [] p = absurd (let w : ⊥ = omega (arith, p) in w)
splits (b ∷ bs) p =
    by (λ t. eqb b comma ≡ t → pick t 0 (suc (comma_at bs)) < suc (length bs)
    → b ∷ bs ≡ take (pick t 0 (suc (comma_at bs))) (b ∷ bs) ++ comma ∷ drop (suc (pick t 0 (suc (comma_at bs)))) (b ∷ bs)) (eqb b comma)
    (λ z y r. ap (λ k. k ∷ bs) (eqb-true b comma z))
    (λ z y r. ap (λ l. b ∷ l) (splits bs (omega (arith, r)))) refl p

pub comma_splits : (bs : List ℕ) → leb (length bs) (comma_at bs) ≡ false → bs ≡ take (comma_at bs) bs ++ comma ∷ drop (comma_at bs + 1) bs
comma_splits bs q = splits bs (leb-false (length bs) (comma_at bs) q)
    ∙ ap (λ k. take (comma_at bs) bs ++ comma ∷ drop k bs) (sym (add-one (comma_at bs)))

-- and the cut finds them again
cut-found : {A : Type 0} (ds es : List ℕ) (f : List ℕ → List ℕ → A) (z : A) → comma_at ds ≡ length ds
    → cut_at (comma_at (ds ++ comma ∷ es)) (ds ++ comma ∷ es) f z ≡ f ds es
cut-found ds es f z q =
    let n : length ds < length (ds ++ comma ∷ es) = rw (length-append ds (comma ∷ es)) (omega arith) in
    rw (
      comma_between ds es q,
      lt-leb (length (ds ++ comma ∷ es)) (length ds) n,
      take-append_seam ds (comma ∷ es),
      drop-append-add ds (comma ∷ es) 1,
    ) refl

-- ---- what has the form is taken

one_taken : (k n : ℕ) → n ≤ 65535 → one_number k (number_of (decimal n)) ≡ pick (eqb k 1) (Setup n) (pick (eqb k 2) (Malloc n) (Free n))
unfolding one_number
one_taken k n p = rw (number_of_decimal n p, lt-leb none n (omega arith)) refl

two_taken : (k n m : ℕ) → n ≤ 65535 → m ≤ 65535 → two_numbers k (number_of (decimal n)) (number_of (decimal m)) ≡ pick (eqb k 4) (Realloc n m)
    (Memalign n m)
unfolding two_numbers
two_taken k n m p q = rw (number_of_decimal n p, number_of_decimal m q, lt-leb none n (omega arith), lt-leb none m (omega arith)) refl

pair_taken : (k n m : ℕ) → n ≤ 65535 → m ≤ 65535 → cut_at (comma_at (decimal n ++ comma ∷ decimal m)) (decimal n ++ comma ∷ decimal m)
    (λ ds es. two_numbers k (number_of ds) (number_of es)) Odd ≡ pick (eqb k 4) (Realloc n m) (Memalign n m)
pair_taken k n m p q = cut-found (decimal n) (decimal m) (λ ds es. two_numbers k (number_of ds) (number_of es)) Odd (decimal_no_comma n)
    ∙ two_taken k n m p q

named : (name rest : List ℕ) → comma_at name ≡ length name → length name + length rest ≤ 63
    → read_record (name ++ comma ∷ rest) ≡ called (kind_of name) rest
unfolding read_record
named name rest q p =
    let n : length (name ++ comma ∷ rest) ≤ 64 = rw (length-append name (comma ∷ rest)) (omega arith) in
    rw (le-ltb 64 (length (name ++ comma ∷ rest)) n) (cut-found name rest (λ name rest. called (kind_of name) rest) Odd q)

one_long : (n : ℕ) → n ≤ 65535 → length (decimal n) ≤ 11
one_long n p = omega (arith, decimal_five n p)

two_long : (n m : ℕ) → n ≤ 65535 → m ≤ 65535 → length (decimal n ++ comma ∷ decimal m) ≤ 11
two_long n m p q = rw (length-append (decimal n) (comma ∷ decimal m)) (omega (arith, decimal_five n p, decimal_five m q))

taken : (e : Entry) → Within e → read_record (spelling e) ≡ e
unfolding kind_of called
taken (Setup n) w = named setup (decimal n) refl (omega (arith, one_long n w)) ∙ one_taken 1 n w
taken (Malloc n) w = named malloc (decimal n) refl (omega (arith, one_long n w)) ∙ one_taken 2 n w
taken (Free n) w = named free (decimal n) refl (omega (arith, one_long n w)) ∙ one_taken 3 n w
taken (Realloc n m) w = named realloc (decimal n ++ comma ∷ decimal m) refl (omega (arith, two_long n m w.0 w.1))
    ∙ pair_taken 4 n m w.0 w.1
taken (Memalign n m) w = named memalign (decimal n ++ comma ∷ decimal m) refl (omega (arith, two_long n m w.0 w.1))
    ∙ pair_taken 5 n m w.0 w.1
taken Odd w = absurd w

pub form_is_taken : (bs : List ℕ) (e : Entry) → HasForm bs e → read_record bs ≡ e
form_is_taken bs e h = ap read_record h.spelt ∙ taken e h.within

-- ---- what is taken has the form

pub same_bytes_lem : (xs ys : List ℕ) → same_bytes xs ys ≡ true → xs ≡ ys
same_bytes_lem [] [] q = refl
same_bytes_lem [] (y ∷ ys) q = false-true q
same_bytes_lem (x ∷ xs) [] q = false-true q
same_bytes_lem (x ∷ xs) (y ∷ ys) q =
    by (λ t. eqb x y ≡ t → t && same_bytes xs ys ≡ true → x ∷ xs ≡ y ∷ ys) (eqb x y)
    (λ z w r. ap (λ k. k ∷ xs) (eqb-true x y z) ∙ ap (λ l. y ∷ l) (same_bytes_lem xs ys r))
    (λ z w r. false-true r) refl q

abbrev Told : List ℕ → Entry → Type 0
Told bs e = (e ≡ Odd) ⊎ HasForm bs e

module _ (bs name rest : List ℕ) (whole : bs ≡ name ++ comma ∷ rest) where
  number_within : (ds : List ℕ) → leb none (number_of ds) ≡ false → number_of ds ≤ 65535
  number_within ds q = let z : number_of ds < none = leb-false none (number_of ds) q in omega (arith, z)

  spelt_one : (text : List ℕ) → name ≡ text → leb none (number_of rest) ≡ false → bs ≡ text ++ comma ∷ decimal (number_of rest)
  spelt_one text q z = whole ∙ ap (λ l. l ++ comma ∷ rest) q
      ∙ ap (λ l. text ++ comma ∷ l) (decimal_of_number rest (number_of rest) refl (number_within rest z))

  told-setup : name ≡ setup → Told bs (called 1 rest)
  unfolding called one_number
  told-setup q = pick_case (Told bs) (leb none (number_of rest)) (λ z. inl refl)
      (λ z. inr (record { within = number_within rest z; spelt = spelt_one setup q z }))

  told-malloc : name ≡ malloc → Told bs (called 2 rest)
  unfolding called one_number
  told-malloc q = pick_case (Told bs) (leb none (number_of rest)) (λ z. inl refl)
      (λ z. inr (record { within = number_within rest z; spelt = spelt_one malloc q z }))

  told_free : name ≡ free → Told bs (called 3 rest)
  unfolding called one_number
  told_free q = pick_case (Told bs) (leb none (number_of rest)) (λ z. inl refl)
      (λ z. inr (record { within = number_within rest z; spelt = spelt_one free q z }))

  spelt_two : (text ds es : List ℕ) → name ≡ text → rest ≡ ds ++ comma ∷ es → leb none (number_of ds) ≡ false
      → leb none (number_of es) ≡ false → bs ≡ text ++ comma ∷ (decimal (number_of ds) ++ comma ∷ decimal (number_of es))
  spelt_two text ds es q s y z =
      whole ∙ ap (λ l. l ++ comma ∷ rest) q ∙ ap (λ l. text ++ comma ∷ l)
      (s ∙ ap (λ l. l ++ comma ∷ es) (decimal_of_number ds (number_of ds) refl (number_within ds y))
      ∙ ap (λ l. decimal (number_of ds) ++ comma ∷ l) (decimal_of_number es (number_of es) refl (number_within es z)))

  told_two : (k : ℕ) (text : List ℕ) (say : ℕ → ℕ → Entry)
      → ((n m : ℕ) → two_numbers k n m ≡ pick (leb none n) Odd (pick (leb none m) Odd (say n m)))
      → ((n m : ℕ) → n ≤ 65535 → m ≤ 65535 → bs ≡ text ++ comma ∷ (decimal n ++ comma ∷ decimal m) → HasForm bs (say n m))
      → name ≡ text → Told bs (cut_at (comma_at rest) rest (λ ds es. two_numbers k (number_of ds) (number_of es)) Odd)
  told_two k text say told form q =
      pick_case (Told bs) (leb (length rest) (comma_at rest)) (λ z. inl refl)
      (λ z. go (take (comma_at rest) rest) (drop (comma_at rest + 1) rest) (comma_splits rest z))
    where
      go : (ds es : List ℕ) → rest ≡ ds ++ comma ∷ es → Told bs (two_numbers k (number_of ds) (number_of es))
      go ds es s = rw (told (number_of ds) (number_of es))
          (pick_case (Told bs) (leb none (number_of ds)) (λ y. inl refl)
          (λ y. pick_case (Told bs) (leb none (number_of es)) (λ z. inl refl)
          (λ z. inr (form (number_of ds) (number_of es) (number_within ds y) (number_within es z) (spelt_two text ds es q s y z)))))

  told-realloc : name ≡ realloc → Told bs (called 4 rest)
  unfolding called two_numbers
  told-realloc q = told_two 4 realloc Realloc (λ n m. refl) (λ n m a b s. record { within = (a, b); spelt = s }) q

  told-memalign : name ≡ memalign → Told bs (called 5 rest)
  unfolding called two_numbers
  told-memalign q = told_two 5 memalign Memalign (λ n m. refl) (λ n m a b s. record { within = (a, b); spelt = s }) q

  told_none : Told bs (called 0 rest)
  unfolding called
  told_none = inl refl

  told_named : Told bs (called (kind_of name) rest)
  unfolding kind_of
  told_named =
      let P : ℕ → Type 0 = λ k. Told bs (called k rest) in
      pick_case P (same_bytes name setup) (λ z. told-setup (same_bytes_lem name setup z))
      (λ z. pick_case P (same_bytes name malloc) (λ z. told-malloc (same_bytes_lem name malloc z))
      (λ z. pick_case P (same_bytes name free) (λ z. told_free (same_bytes_lem name free z))
      (λ z. pick_case P (same_bytes name realloc) (λ z. told-realloc (same_bytes_lem name realloc z))
      (λ z. pick_case P (same_bytes name memalign) (λ z. told-memalign (same_bytes_lem name memalign z))
      (λ z. told_none)))))

-- what a record says is no call, or the record has the form and says that call
pub taken_has_form : (bs : List ℕ) → (read_record bs ≡ Odd) ⊎ HasForm bs (read_record bs)
unfolding read_record
taken_has_form bs =
    pick_case (Told bs) (ltb 64 (length bs)) (λ z. inl refl)
    (λ z. pick_case (Told bs) (leb (length bs) (comma_at bs)) (λ z. inl refl)
    (λ z. told_named bs (take (comma_at bs) bs) (drop (comma_at bs + 1) bs) (comma_splits bs z)))

-- ---- so

-- what is not taken has no form
pub odd_has_none : (bs : List ℕ) (e : Entry) → read_record bs ≡ Odd → HasForm bs e → ⊥
odd_has_none bs e q h = subst Within (sym (form_is_taken bs e h) ∙ q) h.within

-- what has the form is at most 20 bytes long: the limit of 64 changes no answer
pub form_short : (bs : List ℕ) (e : Entry) → HasForm bs e → length bs ≤ 20
form_short bs e h = rw h.spelt (short e h.within)
  where
    two : (n m : ℕ) → n ≤ 65535 → m ≤ 65535 → length (decimal n ++ comma ∷ decimal m) ≤ 11
    two n m p q = two_long n m p q

    short : (e : Entry) → Within e → length (spelling e) ≤ 20
    short (Setup n) w = omega (arith, one_long n w)
    short (Malloc n) w = omega (arith, one_long n w)
    short (Free n) w = omega (arith, one_long n w)
    short (Realloc n m) w = omega (arith, two n m w.0 w.1)
    short (Memalign n m) w = omega (arith, two n m w.0 w.1)
    short Odd w = absurd w
