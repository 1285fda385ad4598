use Rattle.std.proofs.Common.{eqb, sym, ◌∙◌, rules, tests}
use Rattle.std.proofs.lemmas.Iterator.{YieldsList-from_slice}
use Rattle.std.proofs.lemmas.Iterator.Search.{position_from_yields_List}
use Rattle.box_log.specs.Grammar.{comma}
use Rattle.box_log.proofs.EntryCode.{comma_place, no_parts, two_parts}
use Rattle.box_log.proofs.entry.parts.Goals as goal

pub returns-in_err-k : goal.returns-in_err-k
returns-in_err-k c =
    let place = position_from_yields_List (λ b. eqb b comma) _ _ c.position.result c.position.ensures.ran
    (YieldsList-from_slice c.args.s.now cc) (λ x b q k. search (rules, tests)) in
    no_parts _ (sym c.in_err-k.was ∙ place ∙ comma_place c.args.s.now) c.from_residual.ensures

pub returns : goal.returns
returns c =
    let place = position_from_yields_List (λ b. eqb b comma) _ _ c.position.result c.position.ensures.ran
    (YieldsList-from_slice c.args.s.now cc) (λ x b q k. search (rules, tests)) in
    two_parts _ (sym c.in_ok-k.was ∙ place ∙ comma_place c.args.s.now)
