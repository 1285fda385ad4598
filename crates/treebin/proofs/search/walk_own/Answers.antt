use borrow.Author.Rules.{rules}
use Rattle.treebin.proofs.SearchLaws.{laws}
use Rattle.treebin.proofs.search.walk_own.Goals as goal

pub returns-then-b-eq0 : goal.returns-then-b-eq0
returns-then-b-eq0 c = search (laws, rules)

pub returns-then-t : goal.returns-then-t
returns-then-t c = search (laws, rules)
