-- ONE CUTTING: `records` cuts a stream as document 02 says (`records-cut`), and no second list of records does (`one_cutting`). Assumes
-- nothing.
use Rattle.std.specs.Prelude.{Bool, true, false, ◌&&◌, ◌≡◌, refl, ℕ, eqb}
use mathlib.Core.List.{List, [], ◌∷◌, ◌++◌, append-nil, cons-ne-nil, head-eq_of_cons-eq}
use Rattle.std.proofs.Common.{inl, inr, sym, ap, ◌∙◌, eqb-true}
use Rattle.words.specs.Logic.{pick, by, false-true}
use Rattle.box_log.specs.Cutting.{is_crlf, onto, records}
use Rattle.box_log.specs.CuttingLaws.{no_crlf}
use Rattle.box_log.proofs.CuttingLaws.{records-crlf, records_last}
use Rattle.box_log.specs.OneCutting.{Cuts}

pub one_cutting : (bs : List ℕ) (rs : List (List ℕ)) → Cuts bs rs → rs ≡ records bs
unfolding records
one_cutting bs [] q = ap records (sym q)
one_cutting bs (r ∷ rs) (n, inl (t, q, c)) = ap (λ z. r ∷ z) (one_cutting t rs c) ∙ sym (records-crlf r t n) ∙ ap records (sym q)
one_cutting bs ([] ∷ rs) (n, inr (q, e, f)) = absurd (f refl)
one_cutting bs ((b ∷ r) ∷ rs) (n, inr (q, e, f)) = ap (λ z. (b ∷ r) ∷ z) e ∙ sym (records_last b r n) ∙ ap records (sym q)

-- a byte in front, where it makes no CRLF
front : (b c : ℕ) (bs r ys : List ℕ) → is_crlf b c ≡ false → no_crlf r ≡ true → c ∷ bs ≡ r ++ ys → no_crlf (b ∷ r) ≡ true
front b c bs [] ys f n q = refl
front b c bs (x ∷ r) ys f n q = rw (ap (is_crlf b) (sym (head-eq_of_cons-eq q)) ∙ f) n

onto_cuts : (b c : ℕ) (bs : List ℕ) (rs : List (List ℕ)) → is_crlf b c ≡ false → Cuts (c ∷ bs) rs → Cuts (b ∷ c ∷ bs) (onto b rs)
onto_cuts b c bs [] f q = absurd (cons-ne-nil c bs q)
onto_cuts b c bs (r ∷ rs) f (n, inl (t, q, k)) = (front b c bs r (13 ∷ 10 ∷ t) f n q, inl (t, ap (λ z. b ∷ z) q, k))
onto_cuts b c bs (r ∷ rs) f (n, inr (q, e, g)) = (
  front b c bs r [] f n (q ∙ sym (append-nil r)),
  inr (ap (λ z. b ∷ z) q, e, λ z. cons-ne-nil b r z),
)

both : (b c : ℕ) → is_crlf b c ≡ true → (b ≡ 13) × (c ≡ 10)
both b c q = go (eqb b 13) (eqb c 10) refl refl q
  where
    go : (x y : Bool) → eqb b 13 ≡ x → eqb c 10 ≡ y → x && y ≡ true → (b ≡ 13) × (c ≡ 10)
    go true true p s z = (eqb-true b 13 p, eqb-true c 10 s)
    go true false p s z = false-true z
    go false y p s z = false-true z

pub records-cut : (bs : List ℕ) → Cuts bs (records bs)
unfolding records
records-cut [] = refl
records-cut (b ∷ []) = (refl, inr (refl, refl, λ z. cons-ne-nil b [] z))
records-cut (b ∷ c ∷ bs) =
    by (λ t. Cuts (b ∷ c ∷ bs) (pick t ([] ∷ records bs) (onto b (records (c ∷ bs))))) (is_crlf b c)
    (λ z. (refl, inl (bs, ap (λ x. x ∷ c ∷ bs) (both b c z).0 ∙ ap (λ x. 13 ∷ x ∷ bs) (both b c z).1, records-cut bs)))
    (λ z. onto_cuts b c bs (records (c ∷ bs)) z (records-cut (c ∷ bs)))
