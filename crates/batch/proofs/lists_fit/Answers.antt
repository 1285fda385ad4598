use Rattle.std.proofs.Common.{◌∙◌, ne_eqb}
use Rattle.batch.proofs.BatchCode.{lists_long, lists_odd}
use Rattle.batch.proofs.lists_fit.Goals as goal

pub returns-then-calls-eq0 : goal.returns-then-calls-eq0
returns-then-calls-eq0 c = lists_long c.args.calls c.args.answers c.if-calls-eq0.true

pub returns-else-calls-eq0 : goal.returns-else-calls-eq0
returns-else-calls-eq0 c = ne_eqb _ _ c.if-calls-eq0.false ∙ lists_odd c.args.calls c.args.answers c.if-calls-eq0.false
