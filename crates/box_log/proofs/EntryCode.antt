-- Reading a record: one law for each return and each turn of a loop, what the tests and the callees have told put together as the
-- definition says it. Assumes nothing.
use Rattle.std.proofs.Common.{◌≡◌, ℕ, suc, ◌+◌, ◌-◌, ◌*◌, ◌≤◌, ◌<◌, Bool, true, false, ⊎_elim, cond, eqb, leb, ltb, List, [], ◌∷◌, length, take, drop, Option, Some, None, Result, Ok, Err, subst, refl, sym, ap, ◌∙◌, arith, lt-ltb, le-ltb, ne_eqb, add-one, get_or, drop-cons, drop_of_length-le, length-drop, le-leb, ltb-true, ltb-false}
use Rattle.std.proofs.Math.Seq.{take_all}
use Rattle.std.proofs.lemmas.Bool.{lt-leb}
use Rattle.std.proofs.lemmas.Option.{none-some, same_Some}
use Rattle.std.specs.Option.{option_map}
use Rattle.std.specs.Result.{MatchResult, result_ok}
use Rattle.std.specs.Str.{IsUtf8}
use denote.Ref.{Bor}
use lib.Utf8.{encode}
use Rattle.std.specs.List.{position_or_len}
use Rattle.std.proofs.lemmas.List.Recursion.{is_position_or_len}
use Rattle.words.specs.Logic.{pick, by, lt_or_le}
use Rattle.box_log.specs.Decimals.{none, fresh, is_digit, grown, digit_read, number_from, number_of}
use Rattle.box_log.proofs.DecimalLaws.{from_none, digit_is}
use Rattle.box_log.proofs.GrammarLaws.{same_bytes_lem}
use Rattle.box_log.specs.Grammar.{setup, malloc, free, realloc, memalign, comma, same_bytes, comma_at, cut_at, kind_of, one_number, two_numbers}
use Rattle.box_log.specs.Grammar.{called, read_record}
use Rattle.box_log.specs.Found.{below, digit_of, both, parts_of, numbers_in, two_numbers_of, or_odd}
use Rattle.box_log.specs.declared.entry.Entry.{Entry}
use Rattle.box_log.specs.declared.entry.Entry.TheVariants.{Setup, Malloc, Free, Realloc, Memalign, Odd}

-- ---- what is found, and what is not

module _ (limit n : ℕ) where
  pub below_yes : n < limit → Some n ≡ below limit n
  below_yes p = sym (rw (lt-ltb n limit p) refl)

  pub below_no : limit ≤ n → None ≡ below limit n
  below_no p = sym (rw (le-ltb n limit p) refl)

  below_some : (k : ℕ) → Some k ≡ below limit n → (n < limit) × (n ≡ k)
  below_some k = by (λ t. ltb n limit ≡ t → Some k ≡ pick t (Some n) None → (n < limit) × (n ≡ k)) (ltb n limit)
      (λ z w q. (ltb-true n limit w, sym (same_Some k n q))) (λ z w q. absurd (none-some k (sym q))) refl

  below_none : None ≡ below limit n → limit ≤ n
  below_none = by (λ t. ltb n limit ≡ t → None ≡ pick t (Some n) None → limit ≤ n) (ltb n limit)
      (λ z w q. absurd (none-some n q)) (λ z w q. ltb-false n limit w) refl

-- ---- comma_at

picks : {A : Type 0} (b : Bool) (x y : A) → cond b x y ≡ pick b x y
picks true x y = refl
picks false x y = refl

pub comma_place : (s : List ℕ)
    → cond (ltb (position_or_len (λ b. eqb b comma) s) (length s)) (Some (position_or_len (λ b. eqb b comma) s)) None
    ≡ below (length s) (comma_at s)
comma_place s =
    picks (ltb (position_or_len (λ b. eqb b comma) s) (length s)) _ _
    ∙ ap (below (length s)) (sym (is_position_or_len comma_at (λ b. eqb b comma) refl step s))
  where
    step : (x : ℕ) (xs : List ℕ) → comma_at (x ∷ xs) ≡ cond (eqb x comma) 0 (1 + comma_at xs)
    step x xs =
        let e : suc (comma_at xs) ≡ 1 + comma_at xs = omega arith in
        ap (pick (eqb x comma) 0) e ∙ sym (picks (eqb x comma) 0 (1 + comma_at xs))

-- ---- number: the bytes that are left, read on, give the number of all

pub record Reading (s : List ℕ) (n : ℕ) (rest : List ℕ) (i : ℕ) : Type 0 where
  pub small : n < none
  pub same : number_from n (drop i rest) ≡ number_of s

module _ (b : ℕ) where
  is_one : (d : ℕ) → Some d ≡ digit_of b → (is_digit b ≡ true) × (b - 48 ≡ d)
  is_one d = by (λ t. Some d ≡ pick t (Some (b - 48)) None → (t ≡ true) × (b - 48 ≡ d)) (is_digit b)
      (λ z q. (refl, sym (same_Some d (b - 48) q))) (λ z q. absurd (none-some d (sym q)))

  is_none : None ≡ digit_of b → is_digit b ≡ false
  is_none = by (λ t. None ≡ pick t (Some (b - 48)) None → t ≡ false) (is_digit b) (λ z q. absurd (none-some (b - 48) q)) (λ z q. refl)

module _ (s : List ℕ) where
  -- no number comes of these bytes
  lost : (rest : List ℕ) (n : ℕ) → n ≡ none → number_from n rest ≡ number_of s → None ≡ below none (number_of s)
  lost rest n q e = ap (below none) (sym (from_none rest) ∙ ap (λ k. number_from k rest) (sym q) ∙ e)

  pub number_empty : {r : Option ℕ} → length s ≡ 0 → r ≡ None → r ≡ below none (number_of s)
  unfolding number_of number_from
  number_empty l q = q ∙ ap (λ z. below none (number_of z)) (sym (nil s l))
    where
      nil : (s : List ℕ) → length s ≡ 0 → s ≡ []
      nil [] l = refl
      nil (x ∷ xs) l = absurd (let z : ⊥ = omega (arith, l) in z)

  module _ {b : ℕ} {rest : List ℕ} (whole : s ≡ b ∷ rest) where
    first_on : number_from (digit_read fresh b) rest ≡ number_of s
    unfolding number_of number_from
    first_on = ap number_of (sym whole)

    pub first_odd : {r : Option ℕ} → None ≡ digit_of b → r ≡ None → r ≡ below none (number_of s)
    unfolding digit_read
    first_odd d q = q ∙ lost rest (digit_read fresh b) (rw (is_none b d) refl) first_on

    pub first_digit : {d : ℕ} → Some d ≡ digit_of b → Reading s d rest 0
    unfolding digit_read grown
    first_digit {d} q =
        let o = is_one b d q in
        let w = digit_is b o.0 in
        record {
          small = omega (arith, o.1, w.0, w.1);
          same = ap (λ k. number_from k rest) (sym (rw o.0 o.1)) ∙ first_on;
        }

  module _ {n : ℕ} {rest : List ℕ} {i : ℕ} (r : Reading s n rest i) where
    pub number_end : length rest ≤ i → Some n ≡ below none (number_of s)
    unfolding number_from
    number_end l = below_yes none n r.small ∙ ap (below none) (ap (number_from n) (sym (drop_of_length-le rest l)) ∙ r.same)

    module _ (l : i < length rest) where
      next_on : number_from (digit_read n (get_or rest i 0)) (drop (i + 1) rest) ≡ number_of s
      unfolding number_from
      next_on = ap (λ k. number_from (digit_read n (get_or rest i 0)) (drop k rest)) (add-one i)
          ∙ ap (number_from n) (sym (drop-cons rest i 0 l)) ∙ r.same

      next_lost : digit_read n (get_or rest i 0) ≡ none → None ≡ below none (number_of s)
      next_lost q = lost (drop (i + 1) rest) (digit_read n (get_or rest i 0)) q next_on

      pub next_odd : {o : Option ℕ} → None ≡ digit_of (get_or rest i 0) → o ≡ None → o ≡ below none (number_of s)
      unfolding digit_read
      next_odd d q = q ∙ next_lost (rw (is_none (get_or rest i 0) d) refl)

      module _ {d : ℕ} (q : Some d ≡ digit_of (get_or rest i 0)) where
        read_is : digit_read n (get_or rest i 0) ≡ grown n d
        unfolding digit_read
        read_is = rw (is_one (get_or rest i 0) d q).0 (ap (grown n) (is_one (get_or rest i 0) d q).1)

        pub next_zero : n ≡ 0 → None ≡ below none (number_of s)
        unfolding grown
        next_zero z = next_lost (read_is ∙ rw z refl)

        module _ (z : n ≡ 0 → ⊥) where
          grown_is : grown n d ≡ pick (ltb (n * 10 + d) none) (n * 10 + d) none
          unfolding grown
          grown_is = rw (ne_eqb n fresh (λ f. let m = r.small in omega arith), ne_eqb n 0 z) refl

          pub next_over : none ≤ n * 10 + d → None ≡ below none (number_of s)
          next_over p = next_lost (read_is ∙ grown_is ∙ rw (le-ltb (n * 10 + d) none p) refl)

          pub next_digit : n * 10 + d < none → Reading s (n * 10 + d) rest (i + 1)
          next_digit p = record {
            small = p;
            same = ap (λ k. number_from k (drop (i + 1) rest)) (sym (read_is ∙ grown_is ∙ rw (lt-ltb (n * 10 + d) none p) refl)) ∙ next_on;
          }

-- ---- the parts before and after the first comma

abbrev tail_of : List ℕ → ℕ → List ℕ
tail_of l n = take (length l - n) (drop n l)

tail_whole : (l : List ℕ) (n : ℕ) → tail_of l n ≡ drop n l
tail_whole l n = take_all (length l - n) (drop n l) (rw (length-drop n l) (omega arith))

abbrev texts : Option (Bor (List ℕ) × Bor (List ℕ)) → Option (List ℕ × List ℕ)
texts r = option_map (λ p. (p.0.now, p.1.now)) r

module _ (s : List ℕ) where
  pub no_parts : {r : Option (Bor (List ℕ) × Bor (List ℕ))} → None ≡ below (length s) (comma_at s) → r ≡ None → texts r ≡ parts_of s
  unfolding parts_of
  no_parts q e = ap texts e ∙ sym (rw (le-leb (length s) (comma_at s) (below_none (length s) (comma_at s) q)) refl)

  pub two_parts : {k : ℕ} → Some k ≡ below (length s) (comma_at s) → Some (take k s, tail_of s (k + 1)) ≡ parts_of s
  unfolding parts_of
  two_parts {k} q =
      let b = below_some (length s) (comma_at s) k q in
      ap (λ z. Some (take k s, z)) (tail_whole s (k + 1)) ∙ sym (rw (lt-leb (length s) (comma_at s) b.0, b.1) refl)

-- whatever is made of the parts
abbrev made : {A : Type 0} → (List ℕ → List ℕ → A) → A → Option (List ℕ × List ℕ) → A
made f z None = z
made f z (Some (ds, es)) = f ds es

made_is : {A : Type 0} (bs : List ℕ) (f : List ℕ → List ℕ → A) (z : A) → made f z (parts_of bs) ≡ cut_at (comma_at bs) bs f z
unfolding parts_of
made_is bs f z = by (λ t. made f z (pick t None (Some (take (comma_at bs) bs, drop (comma_at bs + 1) bs)))
    ≡ pick t z (f (take (comma_at bs) bs) (drop (comma_at bs + 1) bs))) (leb (length bs) (comma_at bs)) (λ y. refl) (λ y. refl)

-- ---- call_in

module _ (s : List ℕ) where
  pub call_long : 64 < length s → Odd ≡ read_record s
  unfolding read_record
  call_long p = sym (rw (lt-ltb 64 (length s) p) refl)

  module _ (o : length s ≤ 64) where
    record_is : made (λ name rest. called (kind_of name) rest) Odd (parts_of s) ≡ read_record s
    unfolding read_record
    record_is = made_is s (λ name rest. called (kind_of name) rest) Odd ∙ sym (rw (le-ltb 64 (length s) o) refl)

    pub call_no_comma : {r : Option Entry} → None ≡ parts_of s → r ≡ None → or_odd r ≡ read_record s
    call_no_comma q e = ap or_odd e ∙ ap (made (λ name rest. called (kind_of name) rest) Odd) q ∙ record_is

    pub call_found : {e : Entry} {name rest : List ℕ} → Some (name, rest) ≡ parts_of s → e ≡ called (kind_of name) rest
        → e ≡ read_record s
    call_found q e = e ∙ ap (made (λ name rest. called (kind_of name) rest) Odd) q ∙ record_is

-- ---- call: the name, then what stands behind it

-- the name's bytes as text
pub text_is : {E : Type 0} (Q : Type 0) {name : List ℕ} (P : E → Type 0) (r : Result (Bor (List ℕ)) E) (t : Bor (List ℕ))
    → MatchResult r (λ s. (s.now ≡ name) × Q) P → Some t ≡ result_ok r → t.now ≡ name
text_is Q P (Ok s) t m q = ap (λ x. x.now) (same_Some t s q) ∙ m.0
text_is Q P (Err e) t m q = absurd (none-some t (sym q))

no_text : {E U : Type 0} (F : Bor (List ℕ) → Type 0) (V : E → Type 0) (r : Result (Bor (List ℕ)) E)
    → MatchResult r F (λ e. (U → ⊥) × V e) → None ≡ result_ok r → U → ⊥
no_text F V (Ok s) m q = absurd (none-some s q)
no_text F V (Err e) m q = m.0

module _ (name : List ℕ) where
  another : (text : List ℕ) → (name ≡ text → ⊥) → same_bytes name text ≡ false
  another text n = by (λ t. same_bytes name text ≡ t → t ≡ false) (same_bytes name text)
      (λ z w. absurd (n (same_bytes_lem name text w))) (λ z w. refl) refl

  none_named : (name ≡ setup → ⊥) → (name ≡ malloc → ⊥) → (name ≡ free → ⊥) → (name ≡ realloc → ⊥) → (name ≡ memalign → ⊥) → kind_of name ≡ 0
  unfolding kind_of
  none_named a b c d e = rw (another setup a, another malloc b, another free c, another realloc d, another memalign e) refl

  -- the five names are text
  kind_none : (IsUtf8 name → ⊥) → kind_of name ≡ 0
  unfolding encode
  kind_none n =
      none_named (λ q. n (subst IsUtf8 (sym q) (setup, (refl, refl)))) (λ q. n (subst IsUtf8 (sym q) (malloc, (refl, refl))))
      (λ q. n (subst IsUtf8 (sym q) (free, (refl, refl)))) (λ q. n (subst IsUtf8 (sym q) (realloc, (refl, refl))))
      (λ q. n (subst IsUtf8 (sym q) (memalign, (refl, refl))))

  module _ {t : List ℕ} (e : t ≡ name) where
    pub kind_setup : t ≡ setup → kind_of name ≡ 1
    unfolding kind_of
    kind_setup q = ap kind_of (sym e ∙ q)

    pub kind_malloc : t ≡ malloc → kind_of name ≡ 2
    unfolding kind_of
    kind_malloc q = ap kind_of (sym e ∙ q)

    pub kind_free : t ≡ free → kind_of name ≡ 3
    unfolding kind_of
    kind_free q = ap kind_of (sym e ∙ q)

    pub kind_realloc : t ≡ realloc → kind_of name ≡ 4
    unfolding kind_of
    kind_realloc q = ap kind_of (sym e ∙ q)

    pub kind_memalign : t ≡ memalign → kind_of name ≡ 5
    unfolding kind_of
    kind_memalign q = ap kind_of (sym e ∙ q)

    pub kind_other : (t ≡ setup → ⊥) → (t ≡ malloc → ⊥) → (t ≡ free → ⊥) → (t ≡ realloc → ⊥) → (t ≡ memalign → ⊥) → kind_of name ≡ 0
    kind_other a b c d f = none_named (λ q. a (e ∙ q)) (λ q. b (e ∙ q)) (λ q. c (e ∙ q)) (λ q. d (e ∙ q)) (λ q. f (e ∙ q))

-- the call of two numbers
abbrev told : ℕ → Option (ℕ × ℕ) → Entry
told kind None = Odd
told kind (Some (n, m)) = pick (eqb kind 4) (Realloc n m) (Memalign n m)

two_is : (kind n m : ℕ) → two_numbers kind n m ≡ told kind (both (below none n) (below none m))
unfolding two_numbers
two_is kind n m = ⊎_elim
    (λ p. ⊎_elim
    (λ q. rw (lt-leb none n p, lt-ltb n none p, lt-leb none m q, lt-ltb m none q) refl)
    (λ q. rw (lt-leb none n p, lt-ltb n none p, le-leb none m q, le-ltb m none q) refl)
    (lt_or_le m none))
    (λ p. rw (le-leb none n p, le-ltb n none p) refl)
    (lt_or_le n none)

-- what is no number makes no call
module _ (k n : ℕ) where
  pub one_none : none ≤ n → Odd ≡ one_number k n
  unfolding one_number
  one_none p = sym (rw (le-leb none n p) refl)

module _ (rest : List ℕ) where
  pub call_other : {kind : ℕ} → kind ≡ 0 → Odd ≡ called kind rest
  unfolding called
  call_other k = sym (rw k refl)

  pub call_no_text : {E : Type 0} (F : Bor (List ℕ) → Type 0) (V : E → Type 0) (name : List ℕ) (r : Result (Bor (List ℕ)) E) {o : Option Entry}
      → MatchResult r F (λ e. (IsUtf8 name → ⊥) × V e) → None ≡ result_ok r → o ≡ None → or_odd o ≡ called (kind_of name) rest
  call_no_text F V name r m q e = ap or_odd e ∙ call_other (kind_none name (no_text F V r m q))

  -- one number
  pub call_no_number : (kind : ℕ) {r : Option Entry} → kind < 4 → 0 < kind → None ≡ below none (number_of rest) → r ≡ None
      → or_odd r ≡ called kind rest
  unfolding called
  call_no_number kind l p q e =
      ap or_odd e ∙ one_none kind (number_of rest) (below_none none (number_of rest) q)
      ∙ sym (rw (ne_eqb kind 0 (λ z. omega arith), lt-ltb kind 4 l) refl)

  module _ {n : ℕ} (q : Some n ≡ below none (number_of rest)) where
    small : number_of rest < none
    small = (below_some none (number_of rest) n q).0

    same : number_of rest ≡ n
    same = (below_some none (number_of rest) n q).1

    pub one_setup : {kind : ℕ} → kind ≡ 1 → Setup n ≡ called kind rest
    unfolding called one_number
    one_setup k = sym (rw (k, lt-leb none (number_of rest) small, same) refl)

    pub one_malloc : {kind : ℕ} → kind ≡ 2 → Malloc n ≡ called kind rest
    unfolding called one_number
    one_malloc k = sym (rw (k, lt-leb none (number_of rest) small, same) refl)

    pub one_free : {kind : ℕ} → kind ≡ 3 → Free n ≡ called kind rest
    unfolding called one_number
    one_free k = sym (rw (k, lt-leb none (number_of rest) small, same) refl)

  -- two numbers
  told_is : (kind : ℕ) → 4 ≤ kind → told kind (two_numbers_of rest) ≡ called kind rest
  unfolding called
  told_is kind l =
      told_made (parts_of rest) ∙ made_is rest (λ ds es. two_numbers kind (number_of ds) (number_of es)) Odd
      ∙ sym (rw (ne_eqb kind 0 (λ z. omega arith), le-ltb kind 4 l) refl)
    where
      told_made : (o : Option (List ℕ × List ℕ))
          → told kind (numbers_in o) ≡ made (λ ds es. two_numbers kind (number_of ds) (number_of es)) Odd o
      told_made None = refl
      told_made (Some (ds, es)) = sym (two_is kind (number_of ds) (number_of es))

  pub two_none : (kind : ℕ) {r : Option Entry} → 4 ≤ kind → None ≡ two_numbers_of rest → r ≡ None → or_odd r ≡ called kind rest
  two_none kind l q e = ap or_odd e ∙ ap (told kind) q ∙ told_is kind l

  module _ {n m : ℕ} (q : Some (n, m) ≡ two_numbers_of rest) where
    pub two_realloc : {kind : ℕ} → kind ≡ 4 → Realloc n m ≡ called kind rest
    two_realloc {kind} k = sym (ap (λ z. told z (Some (n, m))) k) ∙ ap (told kind) q ∙ told_is kind (omega (arith, k))

    pub two_memalign : {kind : ℕ} → kind ≡ 5 → Memalign n m ≡ called kind rest
    two_memalign {kind} k = sym (ap (λ z. told z (Some (n, m))) k) ∙ ap (told kind) q ∙ told_is kind (omega (arith, k))

pub ruleset laws = (
  below_yes,
  below_no,
  number_empty,
  first_odd,
  first_digit,
  number_end,
  next_odd,
  next_zero,
  next_over,
  next_digit,
  kind_setup,
  kind_malloc,
  kind_free,
  kind_realloc,
  kind_memalign,
  kind_other,
  call_other,
  call_no_number,
  one_setup,
  one_malloc,
  one_free,
  two_none,
  two_realloc,
  two_memalign,
)
