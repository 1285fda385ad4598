use Rattle.std.proofs.Common.{length, refl, sym, ◌∙◌}
use Rattle.calls.specs.Counts.{count_allowed}
use Rattle.arena.specs.Refusals.{rows12}
use Rattle.arena.proofs.on_image.checked.Goals as goal

pub returns-then-not-words_ok : goal.returns-then-not-words_ok
unfolding rows12
returns-then-not-words_ok c =
    rw (sym (count_allowed (length c.args.w.now)) ∙ sym c.words_ok.ensures ∙ c.if-not-words_ok.true) refl

pub returns-then-not-sound : goal.returns-then-not-sound
unfolding rows12
returns-then-not-sound c =
    rw (sym (count_allowed (length c.args.w.now)) ∙ sym c.words_ok.ensures ∙ c.if-not-words_ok.false, sym c.sound.ensures ∙ c.if-not-sound.true) refl

pub returns : goal.returns
unfolding rows12
returns c =
    rw (sym (count_allowed (length c.args.w.now)) ∙ sym c.words_ok.ensures ∙ c.if-not-words_ok.false, sym c.sound.ensures ∙ c.if-not-sound.false) refl
