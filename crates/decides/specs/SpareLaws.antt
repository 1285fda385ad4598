-- The spare chunk: `dv_ok` says yes exactly when the record's two numbers give none, or a free chunk of the tiling that is still in the set, with
-- its true size; it leaves the set without that chunk. The size is read from the chunk's head, which the tiling makes the chunk's own. Both
-- editions. Assumes nothing.
use Rattle.std.specs.Prelude.{◌≡◌, List, ℕ, ◌+◌, ◌*◌, ◌≤◌, eqb}
use Rattle.std.proofs.Common.{sym, ◌∙◌, ap, arith}
use Rattle.std.proofs.Math.Bool.{true}
use Rattle.std.proofs.Math.Option.{Option, none, some}
use Rattle.std.proofs.Math.ListN.{get_or}
use borrow.Author.Tests.{eqb-true, eq-eqb, ne_eqb}
use Rattle.words.specs.Logic.{pick_case}
use Rattle.words.specs.Edition.{Edition, W, no_link, none_free, enc}
use Rattle.words.specs.Fields.{ind, ind_self}
use Rattle.tiling.specs.Tiling.{Chunk, free, Run, Starts, starts_at_lem}
use Rattle.tiling.specs.Free.{free_at, free_starts}
use Rattle.holds.specs.Holds.{SpareAt, in_dv}
use Rattle.chunk.specs.Bytes.{word}
use Rattle.chunk.specs.Plain.{word_plain}
use Rattle.marks.specs.Marks.{Checked, checked, take_mark, and_then}
use Rattle.tiles.specs.TilesBytes.{head_is}
use Rattle.binned.specs.BinsBytes.{dv_ok}
use Rattle.decides.specs.MarksLaws.{in_set, Sized}
use Rattle.decides.specs.Took.{Took, then_yes, took_then, took_if, took_else, took_yes, took_there}

module _ (e : Edition) (r w m : List ℕ) (cs : List Chunk) (run : Run e w 0 true cs) (sz : Sized m) where
  -- a free chunk's head, at its offset
  head_of : (x s c : ℕ) → Starts 0 cs x (free s) → c ≡ enc e x → word e w c 1 ≡ W e * s + 1
  head_of x s c st q = ap (λ o. word e w o 1) q ∙ word_plain e w x 1 ∙ (starts_at_lem e w 0 true cs x (free s) run st).1.head

  -- for a set that has free chunks of the tiling only
  pub dv_yes : ((y : ℕ) → in_set e m y ≤ free_at 0 cs y) → (dv_ok e r w m).ok ≡ true → (d : Option ℕ) × SpareAt e (get_or r 2 0) (get_or r 3 0) cs d × Took e m (dv_ok e r w m) (in_dv d)
  unfolding dv_ok
  dv_yes f h =
      let dv = get_or r 2 0 in
      let n = get_or r 3 0 in
      let c = take_mark e m dv in
      let test = checked (head_is e w dv n) in
      pick_case (λ (a : Checked). a.ok ≡ true → (d : Option ℕ) × SpareAt e dv n cs d × Took e m a (in_dv d)) (eqb dv (no_link e))
      (λ q z. (none, (eqb-true dv (no_link e) q, eqb-true n 0 z), (z, sz, (λ y. omega arith))))
      (λ _ z.
      let g = then_yes c test z in
      let x = took_yes e m dv sz g.0 in
      let p = x.0 in
      let s = free_starts 0 cs p (omega (arith, f p, x.2.2 p, ind_self p)) in
      let k = took_then e m c test (λ y. ind y p) (λ y. 0) x.2 (g.1, x.2.1, (λ y. omega arith)) in (
        some p,
        (s.0, s.1, x.1, (let v : n ≡ W e * s.0 = omega (arith, eqb-true (word e w dv 1) (n + 1) g.1, head_of p s.0 dv s.1 x.1) in v)),
        (k.0, k.1, (λ y. omega (arith, k.2 y))),
      ))
      h

  pub dv_there : (d : Option ℕ) → SpareAt e (get_or r 2 0) (get_or r 3 0) cs d → ((y : ℕ) → in_dv d y ≤ in_set e m y) → Took e m (dv_ok e r w m) (in_dv d)
  unfolding dv_ok
  dv_there none h f =
      let dv = get_or r 2 0 in
      let n = get_or r 3 0 in
      took_if e m (eqb dv (no_link e)) (checked (eqb n 0) m) (and_then (take_mark e m dv) (checked (head_is e w dv n))) (in_dv none) (eq-eqb dv (no_link e) h.0)
      (eq-eqb n 0 h.1, sz, (λ y. omega arith))
  dv_there (some p) h f =
      let dv = get_or r 2 0 in
      let n = get_or r 3 0 in
      let c = take_mark e m dv in
      let test = checked (head_is e w dv n) in
      let t = took_there e m dv p sz h.2 (omega (arith, f p, ind_self p)) in
      let k = took_then e m c test (λ y. ind y p) (λ y. 0) t (eq-eqb (word e w dv 1) (n + 1) (head_of p h.0 dv h.1 h.2 ∙ omega (arith, h.3)), t.1, (λ y. omega arith)) in
      took_else e m (eqb dv (no_link e)) (checked (eqb n 0) m) (and_then c test) (in_dv (some p)) (ne_eqb dv (no_link e) (λ z. none_free e p (sym h.2 ∙ z))) (k.0, k.1, (λ y. omega (arith, k.2 y)))
