use Rattle.player.specs.FeedBytes.{desk}
use Rattle.player.proofs.FeedCode.{Feeding}
use Rattle.player.proofs.feed.feed.Given as goal

abbrev pub invariant-loop-b : goal.invariant-loop-b
invariant-loop-b l =
    Feeding l.piece l.initial.line l.initial.fed.place (desk l.initial.fed.run l.initial.r l.initial.w l.initial.out) l.line l.fed.place (desk l.fed.run l.r l.w l.out) l.b-index
