-- A test that says yes and takes: `Took e m r f` says that the answer r is yes, that its marks are a set, and that of every place as many were
-- taken from m as f counts. The laws of the ways in which tests are put together (`and_then`, `pick`), so that each walk shows only its own step:
-- what the parts take adds up. `word_at` reads a word of the arena as a field of its place. Assumes nothing.
use Rattle.std.specs.Prelude.{◌≡◌, refl, Bool, true, false, List, ℕ, ◌+◌, ◌≤◌}
use Rattle.std.proofs.Common.{sym, ◌∙◌, ap, subst, arith}
use Rattle.words.specs.Logic.{pick, false-true}
use Rattle.words.specs.Edition.{Edition, enc, enc_inj}
use Rattle.words.specs.Fields.{ind, fld}
use Rattle.chunk.specs.Bytes.{word}
use Rattle.chunk.specs.Plain.{word_plain}
use Rattle.marks.specs.Marks.{Checked, no, and_then, take_mark}
use Rattle.decides.specs.MarksLaws.{in_set, Sized, in_most, sized_take, take_yes, take_there}

abbrev pub Took : Edition → List ℕ → Checked → (ℕ → ℕ) → Type 0
Took e m r f = (r.ok ≡ true) × Sized r.marks × ((y : ℕ) → in_set e r.marks y + f y ≡ in_set e m y)

-- ---- one test after another

then_is : (c : Checked) (f : List ℕ → Checked) → c.ok ≡ true → and_then c f ≡ f c.marks
then_is c f = go c.ok
  where
    go : (b : Bool) → b ≡ true → pick b (f c.marks) c ≡ f c.marks
    go true h = refl
    go false h = false-true h

pub then_yes : (c : Checked) (f : List ℕ → Checked) → (and_then c f).ok ≡ true → (c.ok ≡ true) × ((f c.marks).ok ≡ true)
then_yes c f = go c.ok refl
  where
    go : (b : Bool) → c.ok ≡ b → (pick b (f c.marks) c).ok ≡ true → (c.ok ≡ true) × ((f c.marks).ok ≡ true)
    go true q h = (q, h)
    go false q h = false-true (sym q ∙ h)

pub took_then : (e : Edition) (m : List ℕ) (c : Checked) (t : List ℕ → Checked) (f g : ℕ → ℕ) → Took e m c f → Took e c.marks (t c.marks) g → Took e m (and_then c t) (λ y. f y + g y)
took_then e m c t f g a b =
    let q = then_is c t a.0 in
    subst (λ r. Took e m r (λ y. f y + g y)) (sym q) (b.0, b.1, (λ y. omega (arith, a.2 y, b.2 y)))

-- ---- by a test without marks

pub if_yes : (b : Bool) (r : Checked) (m : List ℕ) → (pick b r (no m)).ok ≡ true → (b ≡ true) × (r.ok ≡ true)
if_yes true r m h = (refl, h)
if_yes false r m h = false-true h

pub took_if : (e : Edition) (m : List ℕ) (b : Bool) (r s : Checked) (f : ℕ → ℕ) → b ≡ true → Took e m r f → Took e m (pick b r s) f
took_if e m true r s f h t = t
took_if e m false r s f h t = false-true h

pub took_else : (e : Edition) (m : List ℕ) (b : Bool) (r s : Checked) (f : ℕ → ℕ) → b ≡ false → Took e m s f → Took e m (pick b r s) f
took_else e m true r s f h t = false-true (sym h)
took_else e m false r s f h t = t

-- ---- one place

pub took_yes : (e : Edition) (m : List ℕ) (off : ℕ) → Sized m → (take_mark e m off).ok ≡ true → (x : ℕ) × (off ≡ enc e x) × Took e m (take_mark e m off) (λ y. ind y x)
took_yes e m off s h = let t = take_yes e m off s h in (t.0, t.1, (h, sized_take e m off s, t.3))

pub took_there : (e : Edition) (m : List ℕ) (off x : ℕ) → Sized m → off ≡ enc e x → 1 ≤ in_set e m x → Took e m (take_mark e m off) (λ y. ind y x)
took_there e m off x s q l =
    let h : (take_mark e m off).ok ≡ true = ap (λ o. (take_mark e m o).ok) q ∙ take_there e m x (omega (arith, in_most e m x)) in
    let t = took_yes e m off s h in
    subst (λ v. Took e m (take_mark e m off) (λ y. ind y v)) (enc_inj e t.0 x (sym t.1 ∙ q)) t.2

-- ---- a word of the arena

pub word_at : (e : Edition) (w : List ℕ) (c p k : ℕ) → c ≡ enc e p → word e w c k ≡ fld w p k
unfolding fld
word_at e w c p k q = ap (λ z. word e w z k) q ∙ word_plain e w p k
