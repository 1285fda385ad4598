use mathlib.Core.Path.{refl}
use Rattle.treebin.proofs.UnlinkLaws.{heir_words}
use Rattle.treebin.proofs.unlink.pop_heir.Goals as goal

pub returns-clause-words : goal.returns-clause-words
returns-clause-words c =
    (refl, heir_words _ _ c.last_side-side.ensures c.get.ensures c.if-get.false c.deepest-s.ensures c.put.ensures, (refl, refl))
