use Rattle.binned.proofs.trees.+tree_ok.Given as goal

-- each level down has one branching bit less
abbrev pub decreases-tree_ok : goal.decreases-tree_ok
decreases-tree_ok l = l.at.bits
