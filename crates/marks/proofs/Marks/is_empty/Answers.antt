use lib.Dec.{eqb}
use mathlib.Core.Path.{ap, ◌∙◌}
use borrow.Author.Rules.{rules}
use borrow.Author.Tests.{tests}
use Rattle.std.proofs.lemmas.Iterator.{YieldsList-from_slice}
use Rattle.std.proofs.lemmas.Iterator.Search.{all_from_yields_List}
use Rattle.marks.specs.Marks.{is_empty}
use Rattle.marks.proofs.MarksCode.{all_zero}
use Rattle.marks.proofs.Marks.is_empty.Goals as goal

pub returns : goal.returns
returns c =
    all_from_yields_List (λ x. eqb x 0) _ _ _ c.all.ensures.ran (YieldsList-from_slice c.self.inside.words cc) (λ x b q k. search (rules, tests))
    ∙ all_zero c.self.inside.words (search rules) ∙ ap is_empty c.self.view_is
