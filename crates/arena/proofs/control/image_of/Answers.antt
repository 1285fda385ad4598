use Rattle.arena.proofs.RecordCode.{image-links}
use Rattle.std.proofs.Common.{arith}
use Rattle.arena.proofs.control.image_of.Goals as goal

pub returns : goal.returns
returns c =
    let r = c.args.c in
    let links = c.well_formed.0.1.1.1.1 in
    image-links r
    links.0.1.0.1
    links.1.0.1.0.1
    (omega arith) (omega arith) c.copy_links.ensures c.copy_links-2.ensures
