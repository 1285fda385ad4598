use Rattle.std.proofs.Common.{◌∙◌}
use Rattle.abi.proofs.AbiCode.{sound_short, sound_count, sound_odd, sound_is, sound_not}
use Rattle.abi.proofs.nuka_sound.Goals as goal
use Rattle.abi.proofs.nuka_sound.Goals.{else-r-eq0-via-then-r-eq0+else-sound, else-r-eq0-via-else-r-eq0}

pub returns-then-rec-ne72 : goal.returns-then-rec-ne72
returns-then-rec-ne72 c = c.from.ensures ∙ sound_short _ _ c.if-rec-ne72.true

pub returns-then-not-words_ok : goal.returns-then-not-words_ok
returns-then-not-words_ok c = c.from-then-not-words_ok.ensures ∙ sound_count _ _ c.if-rec-ne72.false c.words_ok.ensures c.if-not-words_ok.true

pub returns-then-sound : goal.returns-then-sound
returns-then-sound c =
    sound_is _ _ c.if-rec-ne72.false c.words_ok.ensures c.if-not-words_ok.false c.image_in-r.ensures c.if-r-eq0.true c.sound.ensures
    c.if-sound.true

pub returns-else-r-eq0 : goal.returns-else-r-eq0
returns-else-r-eq0 c = c.from-else-r-eq0.ensures ∙ elim c.else-r-eq0.branch [
  | else-r-eq0-via-then-r-eq0+else-sound w ↦
      sound_not _ _ c.if-rec-ne72.false c.words_ok.ensures c.if-not-words_ok.false c.image_in-r.ensures w.if-r-eq0.true w.sound.ensures w.if-sound.false
  | else-r-eq0-via-else-r-eq0 w ↦
      sound_odd _ _ c.if-rec-ne72.false c.words_ok.ensures c.if-not-words_ok.false c.image_in-r.ensures w.if-r-eq0.false
]
