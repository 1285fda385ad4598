-- The lines: what one store after the other leaves is the text stored at once. Assumes nothing.
use mathlib.Core.Bool.{true}
use mathlib.Core.List.{List, [], ◌∷◌, ◌++◌, append_assoc}
use mathlib.Core.Path.{◌≡◌, refl, sym, ap, ◌∙◌}
use Prim.Native.Nat.{ℕ, suc, ◌+◌, ◌-◌, ◌%◌, ◌^◌, ◌≤◌, ◌<◌}
use Rattle.std.specs.Fmt.{decimal as std_decimal}
use Rattle.std.proofs.lemmas.Fmt.{decimal_by_steps}
use Rattle.std.proofs.lemmas.List.Edits.{sets-eq}
use borrow.Rule.Slice.PartMut.{put_mid}
use native.Mathlib.Nat.{add-zero, add-suc, suc-add}
use native.Mathlib.Omega.{arith}
use lib.ListN.{length, set, take, drop, length-append}
use lib.Seq.{sets, length-sets, drop-drop}
use borrow.Author.Tests.{le-leb, lt-leb}
use Rattle.box_log.specs.Decimals.{decimal}
use Rattle.box_log.proofs.DecimalLaws.{decimal_digit, decimal_more}
use Rattle.box_log.specs.Grammar.{comma}
use Rattle.box_log.specs.Answers.{header, field, answer_line, has_room, line_put, line_end, header_put, header_end}

-- one text behind another
sets_append : (l : List ℕ) (i : ℕ) (xs ys : List ℕ) → sets l i (xs ++ ys) ≡ sets (sets l i xs) (i + length xs) ys
sets_append l i [] ys = ap (λ k. sets l k ys) (sym (add-zero i))
sets_append l i (x ∷ xs) ys = sets_append (set l i x) (suc i) xs ys
    ∙ ap (λ k. sets (sets (set l i x) (suc i) xs) k ys) (suc-add i (length xs) ∙ sym (add-suc i (length xs)))

-- stored one after the other
then : (l l₁ l₂ : List ℕ) (i j : ℕ) (xs ys : List ℕ) → l₁ ≡ sets l i xs → j ≡ i + length xs → l₂ ≡ sets l₁ j ys → l₂ ≡ sets l i (xs ++ ys)
then l l₁ l₂ i j xs ys p q r = r ∙ ap (λ z. sets z j ys) p ∙ ap (λ k. sets (sets l i xs) k ys) q ∙ sym (sets_append l i xs ys)

-- ---- put_text

-- a part that was lent is filled with the text
pub text_put : (l p : List ℕ) (i j : ℕ) (xs : List ℕ) → j ≡ i + length xs → i + length xs ≤ length l → p ≡ xs
    → put_mid i (j - i) l p ≡ sets l i xs
text_put l p i j xs e r q =
    let k : i + (j - i) ≡ i + length xs = omega (arith, e) in
    ap (λ z. take i l ++ (z ++ drop (j - i) (drop i l))) q
    ∙ ap (λ z. take i l ++ (xs ++ z)) (drop-drop (j - i) i l ∙ ap (λ z. drop z l) k)
    ∙ sym (append_assoc (take i l) xs (drop (i + length xs) l)) ∙ sym (sets-eq xs l i r)

-- ---- put_field, put_line

-- std writes the same text
pub same_decimal : (n : ℕ) → n < 2 ^ 64 → decimal n ≡ std_decimal n
same_decimal = decimal_by_steps (λ n ds. decimal n ≡ ds) decimal_digit
    (λ n ds p e. decimal_more n p ∙ ap (λ l. l ++ ((48 + n % 10) ∷ [])) e)

module _ (n end : ℕ) (p : n < 2 ^ 64) {ds : List ℕ} (d : ds ≡ std_decimal n) where
  digits_are : ds ≡ decimal n
  digits_are = d ∙ sym (same_decimal n p)

  pub field_put : (l l₁ l₂ : List ℕ) (a k : ℕ) → l₁ ≡ sets l a ds → k ≡ a + length ds → l₂ ≡ sets l₁ k (end ∷ [])
      → l₂ ≡ sets l a (field n end)
  unfolding field
  field_put l l₁ l₂ a k q r s = then l l₁ l₂ a k ds (end ∷ []) q r s ∙ ap (λ z. sets l a (z ++ (end ∷ []))) digits_are

  pub field_end : (a k x : ℕ) → k ≡ a + length ds → x ≡ k + 1 → x ≡ a + length (field n end)
  unfolding field
  field_end a k x r s =
      let e : length ds ≡ length (decimal n) = ap length digits_are in
      let f : length (decimal n ++ (end ∷ [])) ≡ length (decimal n) + 1 = length-append (decimal n) (end ∷ []) in
      omega (arith, e, f, r, s)

whole : (line refusal offset : ℕ) → field line 44 ++ (field refusal 44 ++ (field offset 13 ++ (10 ∷ []))) ≡ answer_line line refusal offset
unfolding field answer_line
whole line refusal offset =
    append_assoc (decimal line) (44 ∷ []) ((decimal refusal ++ (44 ∷ [])) ++ ((decimal offset ++ (13 ∷ [])) ++ (10 ∷ [])))
    ∙ ap (λ t. decimal line ++ comma ∷ t) (append_assoc (decimal refusal) (44 ∷ []) ((decimal offset ++ (13 ∷ [])) ++ (10 ∷ []))
    ∙ ap (λ t. decimal refusal ++ comma ∷ t) (append_assoc (decimal offset) (13 ∷ []) (10 ∷ [])))

module _ (l : List ℕ) (at line refusal offset : ℕ) where
  no_room : at + 64 ≤ length l → has_room l at ≡ true
  no_room p = le-leb (at + 64) (length l) p

  pub past_put : length l < at → l ≡ line_put l at line refusal offset
  unfolding line_put
  past_put p = sym (rw (lt-leb (at + 64) (length l) (omega arith)) refl)

  pub past_end : length l < at → at ≡ line_end l at line refusal offset
  unfolding line_end
  past_end p = sym (rw (lt-leb (at + 64) (length l) (omega arith)) refl)

  module _ (q : at ≤ length l) where
    pub tight_put : length l - at < 64 → l ≡ line_put l at line refusal offset
    unfolding line_put
    tight_put p = sym (rw (lt-leb (at + 64) (length l) (omega arith)) refl)

    pub tight_end : length l - at < 64 → at ≡ line_end l at line refusal offset
    unfolding line_end
    tight_end p = sym (rw (lt-leb (at + 64) (length l) (omega arith)) refl)

    module _ (p : 64 ≤ length l - at) (l₁ l₂ l₃ : List ℕ) (a b c : ℕ) (e₁ : l₁ ≡ sets l at (field line 44))
        (f₁ : a ≡ at + length (field line 44)) (e₂ : l₂ ≡ sets l₁ a (field refusal 44)) (f₂ : b ≡ a + length (field refusal 44))
        (e₃ : l₃ ≡ sets l₂ b (field offset 13)) (f₃ : c ≡ b + length (field offset 13)) where
      pub line-put : (l₄ : List ℕ) → l₄ ≡ sets l₃ c (10 ∷ []) → l₄ ≡ line_put l at line refusal offset
      unfolding line_put
      line-put l₄ e₄ =
          let t₃ : l₄ ≡ sets l₂ b (field offset 13 ++ (10 ∷ [])) = then l₂ l₃ l₄ b c (field offset 13) (10 ∷ []) e₃ f₃ e₄ in
          let t₂ : l₄ ≡ sets l₁ a (field refusal 44 ++ (field offset 13 ++ (10 ∷ []))) =
          then l₁ l₂ l₄ a b (field refusal 44) (field offset 13 ++ (10 ∷ [])) e₂ f₂ t₃ in
          let t₁ : l₄ ≡ sets l at (field line 44 ++ (field refusal 44 ++ (field offset 13 ++ (10 ∷ [])))) =
          then l l₁ l₄ at a (field line 44) (field refusal 44 ++ (field offset 13 ++ (10 ∷ []))) e₁ f₁ t₂ in
          t₁ ∙ ap (sets l at) (whole line refusal offset) ∙ sym (rw (no_room (omega arith)) refl)

      pub line_end_lem : (x : ℕ) → x ≡ c + 1 → x ≡ line_end l at line refusal offset
      unfolding line_end
      line_end_lem x g =
          let k : length (field line 44 ++ (field refusal 44 ++ (field offset 13 ++ (10 ∷ [])))) ≡ length (field line 44) +
          (length (field refusal 44) + (length (field offset 13) + 1)) =
          length-append (field line 44) (field refusal 44 ++ (field offset 13 ++ (10 ∷ [])))
          ∙ ap (λ z. length (field line 44) + z) (length-append (field refusal 44) (field offset 13 ++ (10 ∷ []))
          ∙ ap (λ z. length (field refusal 44) + z) (length-append (field offset 13) (10 ∷ []))) in
          let m : length (answer_line line refusal offset) ≡ length (field line 44) +
          (length (field refusal 44) + (length (field offset 13) + 1)) = ap length (sym (whole line refusal offset)) ∙ k in
          (let z : x ≡ at + length (answer_line line refusal offset) = omega arith in z) ∙ sym (rw (no_room (omega arith)) refl)

-- ---- put_header

module _ (out : List ℕ) where
  pub header_none : length out < 64 → out ≡ header_put out
  unfolding header_put
  header_none l = sym (rw (lt-leb 64 (length out) l) refl)

  pub header_none_end : length out < 64 → 0 ≡ header_end out
  unfolding header_end
  header_none_end l = sym (rw (lt-leb 64 (length out) l) refl)

  pub header-room : (t : List ℕ) → 64 ≤ length out → t ≡ header → 0 + length t ≤ length out
  header-room t l q = let z : length t ≡ 21 = ap length q in omega arith

  pub header-put : {o : List ℕ} → 64 ≤ length out → o ≡ sets out 0 header → o ≡ header_put out
  unfolding header_put
  header-put l q = q ∙ sym (rw (le-leb 64 (length out) l) refl)

  pub header_end_lem : {n : ℕ} → 64 ≤ length out → n ≡ 0 + length header → n ≡ header_end out
  unfolding header_end
  header_end_lem l q = q ∙ sym (rw (le-leb 64 (length out) l) refl)

pub ruleset laws = (
  text_put,
  header_none,
  header_none_end,
  header-put,
  header_end_lem,
  field_put,
  field_end,
  past_put,
  past_end,
  tight_put,
  tight_end,
  line-put,
  line_end_lem,
  length-sets,
)
