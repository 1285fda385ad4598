use Rattle.std.proofs.Common.{◌∙◌}
use Rattle.arena.specs.Answers.{answer_in}
use Rattle.player.proofs.PlayCode.{shown_is, number_says}
use Rattle.player.proofs.play.answered.Goals as goal

pub returns : goal.returns
returns g c =
    shown_is _ (answer_in g.T.Shown.says c.args.a)
    (c.refusal_of.ensures ∙ number_says g.T.Shown.says g.met.T.Shown.grants c.args.a) c.offset_of.ensures
