-- `binned::trees::tree_ok` meets its contract, by the laws of TreesCode: one for each way out. The search finds the rest.
use Rattle.binned.proofs.TreesCode.{tree_none, tree_node, tree_last, tree_lower, tree_upper, tree_kept}
use Rattle.binned.proofs.trees.+tree_ok.Goals as goal

pub returns-then-t-eq-NONE-clause-marks : goal.returns-then-t-eq-NONE-clause-marks
returns-then-t-eq-NONE-clause-marks t c = tree_none _ _ _ _ _ _ _ _ c.if-t-eq-NONE.true

pub returns-then-not-node_ok-clause-marks : goal.returns-then-not-node_ok-clause-marks
returns-then-not-node_ok-clause-marks t c = tree_node _ _ _ _ _ _ _ _ c.if-t-eq-NONE.false c.node_ok.ensures c.if-not-node_ok.true

pub returns-then-at-eq0-clause-marks : goal.returns-then-at-eq0-clause-marks
returns-then-at-eq0-clause-marks t c =
    tree_last _ _ _ _ _ _ _ _ c.if-t-eq-NONE.false c.node_ok.ensures c.if-not-node_ok.false c.if-at-eq0.true c.childless.ensures

pub returns-then-not-tree_ok-clause-marks : goal.returns-then-not-tree_ok-clause-marks
returns-then-not-tree_ok-clause-marks t c =
    tree_lower _ _ _ _ _ _ _ _ c.if-t-eq-NONE.false c.node_ok.ensures c.if-not-node_ok.false c.if-at-eq0.false c.node_size-n.ensures
    c.insert.ensures c.link.ensures c.tree_ok.ensures.marks c.if-not-tree_ok.true

pub returns-then-not-tree_ok-2-clause-marks : goal.returns-then-not-tree_ok-2-clause-marks
returns-then-not-tree_ok-2-clause-marks t c =
    tree_upper _ _ _ _ _ _ _ _ c.if-t-eq-NONE.false c.node_ok.ensures c.if-not-node_ok.false c.if-at-eq0.false c.node_size-n.ensures
    c.insert.ensures c.link.ensures c.tree_ok.ensures.marks c.if-not-tree_ok.false (c.tree_ok.ensures.sizes c.if-not-tree_ok.false)
    c.link-2.ensures c.width.ensures c.tree_ok-2.ensures.marks c.if-not-tree_ok-2.true

pub returns-clause-marks : goal.returns-clause-marks
returns-clause-marks t c =
    tree_upper _ _ _ _ _ _ _ _ c.if-t-eq-NONE.false c.node_ok.ensures c.if-not-node_ok.false c.if-at-eq0.false c.node_size-n.ensures
    c.insert.ensures c.link.ensures c.tree_ok.ensures.marks c.if-not-tree_ok.false (c.tree_ok.ensures.sizes c.if-not-tree_ok.false)
    c.link-2.ensures c.width.ensures c.tree_ok-2.ensures.marks c.if-not-tree_ok-2.false

pub returns-clause-sizes : goal.returns-clause-sizes
returns-clause-sizes t c q =
    tree_kept _ _ _ _ _ _ _ _ c.if-t-eq-NONE.false c.node_ok.ensures c.if-not-node_ok.false c.if-at-eq0.false c.node_size-n.ensures
    c.insert.ensures c.link.ensures c.tree_ok.ensures.marks c.if-not-tree_ok.false (c.tree_ok.ensures.sizes c.if-not-tree_ok.false)
    c.link-2.ensures c.width.ensures (c.tree_ok-2.ensures.sizes c.if-not-tree_ok-2.false) c.remove.ensures
