use Rattle.player.proofs.FeedCode.{tell_is}
use Rattle.std.proofs.Common.{rules}
use Rattle.player.proofs.feed.tell.Goals as goal

pub returns : goal.returns
returns c = search (tell_is, rules)
