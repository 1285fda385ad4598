-- Cutting the stream: one law for each return. Assumes nothing.
use Rattle.std.specs.Prelude.{None, Some}
use mathlib.Core.Bool.{true, false}
use mathlib.Core.List.{List, [], ◌∷◌}
use mathlib.Core.Path.{◌≡◌, refl, sym, ap, ◌∙◌}
use Prim.Native.Nat.{ℕ, zero, suc, ◌≤◌, ◌<◌}
use native.Mathlib.Omega.{arith}
use lib.ListN.{length, take, set}
use lib.Seq.{length-take-le}
use borrow.Author.Tests.{eq-eqb, ne_eqb, lt-ltb, le-ltb, not-true, not-false}
use Rattle.box_log.specs.Grammar.{read_record}
use Rattle.box_log.specs.Cutting.{at, more, read_line, step, plain_line, plain_step, line_after, step_at, line_at_end, ending}
use Rattle.box_log.specs.declared.entry.Entry.{Entry}
use Rattle.box_log.specs.declared.entry.Entry.TheVariants.{Odd}
use Rattle.box_log.specs.declared.cut.Place.{Place}
use Rattle.box_log.specs.declared.cut.Step.{Step}

-- past its end a line takes no byte
pub keep_past : (l : List ℕ) (i b : ℕ) → length l ≤ i → l ≡ set l i b
keep_past [] i b p = refl
keep_past (x ∷ xs) zero b p = absurd (let z : ⊥ = omega arith in z)
keep_past (x ∷ xs) (suc i) b p = ap (λ r. x ∷ r) (keep_past xs i b (omega arith))

module _ (line : List ℕ) (held : ℕ) where
  pub line_long : length line < held → Odd ≡ read_line line held
  unfolding read_line
  line_long p = sym (rw (lt-ltb (length line) held p) refl)

  pub line_reads : {e : Entry} → held ≤ length line → e ≡ read_record (take held line) → e ≡ read_line line held
  unfolding read_line
  line_reads p q = q ∙ sym (rw (le-ltb (length line) held p) refl)

  module _ (b : ℕ) where
    pub plain_line_cr : b ≡ 13 → line ≡ plain_line line held b
    unfolding plain_line
    plain_line_cr q = sym (rw (eq-eqb b 13 q) refl)

    pub plain_line_lem : {l : List ℕ} → (b ≡ 13 → ⊥) → l ≡ set line held b → l ≡ plain_line line held b
    unfolding plain_line
    plain_line_lem n q = q ∙ sym (rw (ne_eqb b 13 n) refl)

module _ (held b : ℕ) where
  pub plain_step_cr : b ≡ 13 → step held true None ≡ plain_step held b
  unfolding plain_step
  plain_step_cr q = sym (rw (eq-eqb b 13 q) refl)

  pub plain_step_lem : {p : Place} → (b ≡ 13 → ⊥) → p ≡ at (more held) false → record { place = p; got = None } ≡ plain_step held b
  unfolding plain_step
  plain_step_lem n q = ap (λ z. record { place = z; got = None }) q ∙ sym (rw (ne_eqb b 13 n) refl)

module _ (line : List ℕ) (p : Place) (b : ℕ) where
  pub after_plain : {l : List ℕ} → p.cr ≡ false → l ≡ plain_line line p.held b → l ≡ line_after line p b
  unfolding line_after
  after_plain c q = q ∙ sym (rw c refl)

  pub step_plain : {x : Step} → p.cr ≡ false → x ≡ plain_step p.held b → x ≡ step_at line p b
  unfolding step_at
  step_plain c q = q ∙ sym (rw c refl)

  module _ (c : p.cr ≡ true) where
    pub after_end : b ≡ 10 → line ≡ line_after line p b
    unfolding line_after
    after_end q = sym (rw (c, eq-eqb b 10 q) refl)

    pub step_end : {e : Entry} → b ≡ 10 → e ≡ read_line line p.held → step 0 false (Some e) ≡ step_at line p b
    unfolding step_at
    step_end q r = ap (λ e. step 0 false (Some e)) r ∙ sym (rw (c, eq-eqb b 10 q) refl)

    pub after_cr : {l k : List ℕ} {q : Place} → (b ≡ 10 → ⊥) → k ≡ set line p.held 13 → q ≡ at (more p.held) false
        → l ≡ plain_line k q.held b → l ≡ line_after line p b
    unfolding line_after
    after_cr {q = q} m e f s = s ∙ ap (λ k. plain_line k q.held b) e ∙ ap (λ z. plain_line (set line p.held 13) z.held b) f
        ∙ sym (rw (c, ne_eqb b 10 m) refl)

    pub step_cr : {x : Step} {q : Place} → (b ≡ 10 → ⊥) → q ≡ at (more p.held) false → x ≡ plain_step q.held b → x ≡ step_at line p b
    unfolding step_at
    step_cr m f s = s ∙ ap (λ z. plain_step z.held b) f ∙ sym (rw (c, ne_eqb b 10 m) refl)

module _ (line : List ℕ) (p : Place) where
  pub end_line : p.cr ≡ false → line ≡ line_at_end line p
  unfolding line_at_end
  end_line c = sym (rw c refl)

  pub end_line_cr : {l : List ℕ} → p.cr ≡ true → l ≡ set line p.held 13 → l ≡ line_at_end line p
  unfolding line_at_end
  end_line_cr c q = q ∙ sym (rw c refl)

  pub end_cr : {e : Entry} {k : List ℕ} {q : Place} → p.cr ≡ true → k ≡ set line p.held 13 → q ≡ at (more p.held) false
      → e ≡ read_line k q.held → Some e ≡ ending line p
  unfolding ending
  end_cr {q = q} c f g s = ap Some (s ∙ ap (λ k. read_line k q.held) f ∙ ap (λ z. read_line (set line p.held 13) z.held) g) ∙ sym (rw c refl)

  pub end_none : p.cr ≡ false → p.held ≡ 0 → None ≡ ending line p
  unfolding ending
  end_none c q = sym (rw (c, eq-eqb p.held 0 q) refl)

  pub end_some : {e : Entry} → p.cr ≡ false → (p.held ≡ 0 → ⊥) → e ≡ read_line line p.held → Some e ≡ ending line p
  unfolding ending
  end_some c n s = ap Some s ∙ sym (rw (c, ne_eqb p.held 0 n) refl)

pub ruleset laws = (
  length-take-le,
  not-true,
  not-false,
  keep_past,
  line_long,
  line_reads,
  plain_line_cr,
  plain_line_lem,
  plain_step_cr,
  plain_step_lem,
  after_plain,
  step_plain,
  after_end,
  step_end,
  after_cr,
  step_cr,
  end_line,
  end_line_cr,
  end_cr,
  end_none,
  end_some,
)
