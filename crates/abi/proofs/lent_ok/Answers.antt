use Rattle.std.proofs.Common.{◌∙◌, refl, ne_eqb}
use Rattle.abi.proofs.AbiCode.{lent_no, lent_yes}
use Rattle.abi.proofs.lent_ok.Goals as goal

pub returns-then-rec-eq72 : goal.returns-then-rec-eq72
returns-then-rec-eq72 c = lent_yes c.args.rec c.args.out c.if-rec-eq72.true refl

pub returns-else-rec-eq72 : goal.returns-else-rec-eq72
returns-else-rec-eq72 c = ne_eqb _ _ c.if-rec-eq72.false ∙ lent_no c.args.rec c.args.out c.if-rec-eq72.false
