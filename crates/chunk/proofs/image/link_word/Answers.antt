-- `chunk::image::link_word` meets its contract. Its sum is the kind's link, which stands in the image.
-- Assumes nothing.
use Rattle.std.proofs.Common.{◌≡◌, ◌+◌, ◌%◌, ◌<◌, ap, ◌∙◌, sym, subst, arith}
use Rattle.chunk.specs.Bytes.{link_at}
use Rattle.chunk.proofs.Laws.{link_below}
use Rattle.chunk.proofs.image.link_word.Given.{Over}
use Rattle.chunk.proofs.image.link_word.Goals as goal

stands : (g : Over) (c : goal.After-LINKS g) → c.LINKS.result + c.args.i % 32 < 72
stands g c =
    let i = c.args.i % 32 in
    let e : c.LINKS.result + i ≡ link_at g.B.Bins.kind i = ap (λ x. x + i) c.LINKS.ensures ∙ g.B.Bins.links_stand i in
    subst (λ x. x < 72) (sym e) (link_below g.B.Bins.kind i (omega arith))

pub overflow_add-result : goal.overflow_add-result
overflow_add-result g c = record { fits = omega (arith, stands g c) }

pub returns-clause-in_the_image : goal.returns-clause-in_the_image
returns-clause-in_the_image g c = stands g c
