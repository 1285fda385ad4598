use Rattle.batch.proofs.BatchCode.{step_told}
use Rattle.batch.proofs.step.Goals as goal

pub returns-clause-step : goal.returns-clause-step
returns-clause-step c =
    step_told _ c.args.calls.now c.args.answers.now c.args.i c.line-line.ensures.call c.words_of-number.ensures.number
    c.words_of-number.ensures.offset
