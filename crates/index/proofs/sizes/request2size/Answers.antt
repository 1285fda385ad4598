-- `index::sizes::request2size` meets its contract. Each branch is the definition's.
-- Assumes nothing.
use Rattle.std.proofs.Common.{le-ltb, lt-ltb}
use Rattle.index.specs.Sizes.{need}
use Rattle.index.proofs.sizes.request2size.Goals as goal

pub returns-then-req-lt23 : goal.returns-then-req-lt23
unfolding need
returns-then-req-lt23 c = rw (lt-ltb c.args.req 23 c.if-req-lt23.true)

pub returns-else-req-lt23 : goal.returns-else-req-lt23
unfolding need
returns-else-req-lt23 c = rw (le-ltb c.args.req 23 c.if-req-lt23.false) c.pad_request.ensures
