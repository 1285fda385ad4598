use borrow.Author.Rules.{rules}
use Rattle.realloc.proofs.Laws.{laws}
use Rattle.realloc.proofs.copy_up.Goals as goal

pub loop-i-init : goal.loop-i-init
loop-i-init c = search (laws, rules)

pub loop-i-preserved : goal.loop-i-preserved
loop-i-preserved c = search (laws, rules)

pub shape_of-w : goal.shape_of-w
shape_of-w c = c.loop-i.invariant.long
