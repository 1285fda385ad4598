use Rattle.player.proofs.FeedCode.{feeding_turn, feeding_line, feeding_place, feeding_from}
use Rattle.player.proofs.feed.feed.Goals as goal

pub loop-b-preserved : goal.loop-b-preserved
loop-b-preserved c =
    feeding_turn c.loop-b.invariant c.loop-b-test.true c.take-fed.ensures.line c.take-fed.ensures.place c.take-fed.ensures.out
    c.take-fed.auto.line c.take-fed.auto.w c.take-fed.auto.out

pub returns : goal.returns
returns c = record {
  line = feeding_line c.loop-b.invariant c.loop-b-test.false;
  place = feeding_place c.loop-b.invariant c.loop-b-test.false;
  out = feeding_from _ c.loop-b.invariant c.loop-b-test.false c.emptied.ensures;
}
