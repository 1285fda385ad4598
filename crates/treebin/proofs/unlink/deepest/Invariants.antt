use Rattle.treebin.proofs.UnlinkLaws.{Deep}
use Rattle.treebin.proofs.unlink.deepest.Given as goal

-- the deepest descendant below here is the one that is looked for
abbrev pub invariant-loop : goal.invariant-loop
invariant-loop l = Deep l.h.words.now l.initial.t.0 l.side l.t.0 l.k l.counter
