-- A small bin's list: `list_ok` says yes exactly when the links from c on spell a list of places, each with the head of the bin's size, all of
-- them in the set; and it leaves the set without them. By induction on the walk's bound one way, on the list the other. That the bound is
-- enough is `fewer`: the places are in a set. Both editions. Assumes nothing.
use Rattle.std.specs.Prelude.{◌≡◌, refl, true, List, [], ◌∷◌, ℕ, zero, suc, ◌+◌, ◌≤◌, ◌<◌, eqb, length}
use Rattle.std.proofs.Common.{sym, ◌∙◌, subst, arith, eqb-true, eq-eqb, ne_eqb}
use Rattle.words.specs.Logic.{pick, pick_case, false-true}
use Rattle.words.specs.Edition.{Edition, no_link, none_free, enc}
use Rattle.words.specs.Fields.{fld, ind, ind_self, count_l}
use Rattle.lists.specs.Links.{newest, Links, Headed}
use Rattle.chunk.specs.Bytes.{word}
use Rattle.marks.specs.Marks.{Checked, no, yes, and_then, take_mark}
use Rattle.tiles.specs.TilesBytes.{head_is}
use Rattle.binned.specs.BinsBytes.{linked_ok, list_ok}
use Rattle.decides.specs.MarksLaws.{in_set, Sized, and_left, and_right, and_both}
use Rattle.decides.specs.Took.{Took, then_yes, took_then, if_yes, took_if, took_else, took_yes, took_there, word_at}

-- what a list that is accepted is: its places, from the link c on
abbrev pub ListSays : Edition → List ℕ → ℕ → ℕ → ℕ → List ℕ → Checked → Type 0
ListSays e w s c newer m r =
    (ps : List ℕ) × (c ≡ newest e ps (no_link e)) × Links e (fld w) newer ps (no_link e) × Headed e (fld w) s ps × Took e m r (λ y. count_l y ps)

-- a member c's test and the walk behind it
abbrev behind : Edition → List ℕ → ℕ → ℕ → ℕ → ℕ → List ℕ → Checked
behind e w n k c newer m = pick (linked_ok e w c n newer) (list_ok e w n k (word e w c 2) c m) (no m)

one_more : (e : Edition) (w : List ℕ) (s k c newer : ℕ) (m : List ℕ) (x : ℕ) → c ≡ enc e x → linked_ok e w c (enc e s) newer ≡ true → Took e m (take_mark e m c) (λ y. ind y x)
    → ListSays e w s (word e w c 2) c (take_mark e m c).marks (list_ok e w (enc e s) k (word e w c 2) c (take_mark e m c).marks)
    → ListSays e w s c newer m (and_then (take_mark e m c) (behind e w (enc e s) k c newer))
one_more e w s k c newer m x q l t g =
    let ps = g.0 in
    let m₁ = (take_mark e m c).marks in (
      x ∷ ps,
      q,
      (
        sym (word_at e w c x 3 q) ∙ eqb-true (word e w c 3) newer (and_right (head_is e w c (enc e s)) _ l),
        sym (word_at e w c x 2 q) ∙ g.1,
        subst (λ z. Links e (fld w) z ps (no_link e)) q g.2,
      ),
      (sym (word_at e w c x 1 q) ∙ eqb-true (word e w c 1) (enc e s + 1) (and_left _ _ l), g.3),
      took_then e m (take_mark e m c) (behind e w (enc e s) k c newer) (λ y. ind y x) (λ y. count_l y ps) t
          (took_if e m₁ (linked_ok e w c (enc e s) newer) (list_ok e w (enc e s) k (word e w c 2) c m₁) (no m₁) (λ y. count_l y ps) l g.4),
    )

-- yes: there is such a list
pub list_yes : (e : Edition) (w : List ℕ) (s k c newer : ℕ) (m : List ℕ) → Sized m → (list_ok e w (enc e s) k c newer m).ok ≡ true → ListSays e w s c newer m (list_ok e w (enc e s) k c newer m)
unfolding list_ok
list_yes e w s zero c newer m sz h = false-true h
list_yes e w s (suc k) c newer m sz h =
    pick_case (λ (r : Checked). r.ok ≡ true → ListSays e w s c newer m r) (eqb c (no_link e))
    (λ q _. ([], eqb-true c (no_link e) q, tt, tt, (refl, sz, (λ y. omega arith))))
    (λ _ h.
    let t = then_yes (take_mark e m c) (behind e w (enc e s) k c newer) h in
    let x = took_yes e m c sz t.0 in
    let m₁ = (take_mark e m c).marks in
    let i = if_yes (linked_ok e w c (enc e s) newer) (list_ok e w (enc e s) k (word e w c 2) c m₁) m₁ t.1 in
    one_more e w s k c newer m x.0 x.1 i.0 x.2 (list_yes e w s k (word e w c 2) c m₁ x.2.1 i.1))
    h

-- such a list, with its places in the set, and a bound above its length: yes
pub list_there : (e : Edition) (w : List ℕ) (s k c newer : ℕ) (m : List ℕ) (ps : List ℕ) → Sized m → c ≡ newest e ps (no_link e) → Links e (fld w) newer ps (no_link e) → Headed e (fld w) s ps
    → length ps < k → ((y : ℕ) → count_l y ps ≤ in_set e m y) → Took e m (list_ok e w (enc e s) k c newer m) (λ y. count_l y ps)
unfolding list_ok
list_there e w s zero c newer m [] sz q l h b f = absurd (let z : ⊥ = omega arith in z)
list_there e w s zero c newer m (p ∷ ps) sz q l h b f = absurd (let z : ⊥ = omega arith in z)
list_there e w s (suc k) c newer m [] sz q l h b f =
    took_if e m (eqb c (no_link e)) (yes m) (and_then (take_mark e m c) (behind e w (enc e s) k c newer)) (λ y. 0) (eq-eqb c (no_link e) q) (refl, sz, (λ y. omega arith))
list_there e w s (suc k) c newer m (p ∷ ps) sz q l h b f =
    let t = took_there e m c p sz q (omega (arith, f p, ind_self p)) in
    let m₁ = (take_mark e m c).marks in
    let ok : linked_ok e w c (enc e s) newer ≡ true =
    and_both _ _ (eq-eqb (word e w c 1) (enc e s + 1) (word_at e w c p 1 q ∙ h.0)) (eq-eqb (word e w c 3) newer (word_at e w c p 3 q ∙ l.0)) in
    took_else e m (eqb c (no_link e)) (yes m) (and_then (take_mark e m c) (behind e w (enc e s) k c newer)) (λ y. count_l y (p ∷ ps)) (ne_eqb c (no_link e) (λ z. none_free e p (sym q ∙ z)))
    (took_then e m (take_mark e m c) (behind e w (enc e s) k c newer) (λ y. ind y p) (λ y. count_l y ps) t
    (took_if e m₁ (linked_ok e w c (enc e s) newer) (list_ok e w (enc e s) k (word e w c 2) c m₁) (no m₁) (λ y. count_l y ps) ok
    (list_there e w s k (word e w c 2) c m₁ ps t.1 (word_at e w c p 2 q ∙ l.1) (subst (λ z. Links e (fld w) z ps (no_link e)) (sym q) l.2) h.1 (omega arith)
    (λ y. omega (arith, f y, t.2 y)))))
