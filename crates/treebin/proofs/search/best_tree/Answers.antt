use native.Mathlib.Omega.{arith}
use borrow.Author.Rules.{rules}
use Rattle.index.specs.TreeBinLaws.{tree_lt}
use Rattle.treebin.proofs.SearchLaws.{laws}
use Rattle.treebin.proofs.search.best_tree.Goals as goal

pub overflow_add-i : goal.overflow_add-i
overflow_add-i c = omega (arith, tree_lt c.args.n)

pub overflow_add-i-then-b : goal.overflow_add-i-then-b
overflow_add-i-then-b c = omega (arith, tree_lt c.args.n)

pub returns-then-b : goal.returns-then-b
returns-then-b c = search (laws, rules)

pub returns : goal.returns
returns c = search (laws, rules)
