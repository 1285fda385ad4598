use Rattle.sound.proofs.SoundCode.{Starting}
use Rattle.sound.proofs.starts_at.Given as goal

abbrev pub invariant-loop : goal.invariant-loop
invariant-loop l = Starting l.w l.c l.p l.counter
