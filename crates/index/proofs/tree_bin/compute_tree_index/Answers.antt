-- `index::tree_bin::compute_tree_index` meets its contract. What is held is in the bin of the size (`tree_held`), and `tree_code`
-- says the rest at once: the bounds that the steps ask for, and the index.
-- Assumes nothing.
use Rattle.std.proofs.Common.{◌≡◌, ◌≤◌, sym, ap, ◌∙◌, arith}
use Rattle.index.specs.TreeBin.{tree_index}
use Rattle.index.proofs.TreeCode.{TreeCode, tree_code, tree_held, and_fits, sum_fits}
use Rattle.index.proofs.tree_bin.compute_tree_index.Goals as goal
use Rattle.index.proofs.tree_bin.compute_tree_index.Goals.{then-size-gt16777215, else-size-gt16777215}

-- where the arms have met: the size that is held
bound : (c : goal.After-row_known-1) → c.if-size-gt16777215.held ≤ 16777215
bound c = elim c.if-size-gt16777215.branch [ then-size-gt16777215 w ↦ omega arith | else-size-gt16777215 w ↦ omega arith ]

code : (c : goal.After-row_known-1) → TreeCode 64 c.if-size-gt16777215.held
code c = tree_code 64 c.if-size-gt16777215.held (omega arith) (bound c)

same : (c : goal.After-row_known-1) → tree_index c.if-size-gt16777215.held ≡ tree_index c.args.size
same c = elim c.if-size-gt16777215.branch [
  | then-size-gt16777215 w ↦ ap tree_index w.held-is ∙ sym (tree_held c.args.size (omega arith))
  | else-size-gt16777215 w ↦ ap tree_index w.held-is
]

pub overflow_sub-k : goal.overflow_sub-k
overflow_sub-k c = (code c).some

pub overflow_cast-result-2 : goal.overflow_cast-result-2
overflow_cast-result-2 c = record { fits = and_fits _ _ _ (bound c) }

pub overflow_add-result-2 : goal.overflow_add-result-2
overflow_add-result-2 c = record { fits = sum_fits _ _ _ _ (bound c) }

pub returns : goal.returns
returns c = (code c).index ∙ same c
