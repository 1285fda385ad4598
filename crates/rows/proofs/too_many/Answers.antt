use Rattle.std.proofs.Common.{ltb, ap, ◌∙◌}
use Rattle.rows.proofs.RowsCode.{in_words}
use Rattle.rows.proofs.too_many.Goals as goal

pub returns : goal.returns
returns c = ap (ltb c.args.words) c.div_ceil.ensures ∙ in_words c.args.words c.args.bytes
