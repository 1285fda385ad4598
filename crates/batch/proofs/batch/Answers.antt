use Rattle.batch.proofs.BatchCode.{value_made, value_kept}
use Rattle.batch.proofs.batch.Goals as goal

pub returns-then-is_ok : goal.returns-then-is_ok
returns-then-is_ok c = value_made _ _ _ _ _ c.image_of-r.ensures c.batch_on_image-answer.ensures c.is_ok.ensures.value c.if-is_ok.true c.control_of-control.ensures

pub returns-else-is_ok : goal.returns-else-is_ok
returns-else-is_ok c = value_kept _ _ _ _ _ c.image_of-r.ensures c.batch_on_image-answer.ensures c.is_ok.ensures.value c.if-is_ok.false
