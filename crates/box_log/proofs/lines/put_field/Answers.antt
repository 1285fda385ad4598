use Rattle.std.proofs.Common.{◌∙◌, rules}
use Rattle.box_log.proofs.LinesCode.{laws, field_end}
use Rattle.box_log.proofs.lines.put_field.Goals as goal

pub returns-clause-value : goal.returns-clause-value
returns-clause-value c =
    field_end c.args.n c.args.end c.ranges.n.fits (c.as_bytes.ensures.value ∙ c.format.ensures.text) _ _ _ c.put_text-k.ensures.value
    c.put_text.ensures.value
