-- `book_judge::top_near` meets its contract: the words sought in R are those of the order's top. Assumes nothing.
use mathlib.Core.Path.{ap, ◌∙◌}
use Rattle.section.specs.Near.{near_in}
use Rattle.order.proofs.Causes.{has-tree}
use Rattle.order.proofs.LineCuts.{line-short}
use Rattle.book.specs.declared.Section.TheVariants.{Tops}
use Rattle.book_judging.proofs.Tops.{first-line, top_key, top-found}
use Rattle.book_judge.proofs.top_near.Goals as goal

pub put_cut-count-requires-clause-line_in_bounds : goal.put_cut-count-requires-clause-line_in_bounds
put_cut-count-requires-clause-line_in_bounds c = let t = has-tree _ c.args.lines.now.order.gone_over.sound in first-line _ t.tree t.passes

pub put_cut-count-requires-clause-d_in_bounds : goal.put_cut-count-requires-clause-d_in_bounds
put_cut-count-requires-clause-d_in_bounds c =
    let sound = c.args.lines.now.order.gone_over.sound in
    let t = has-tree _ sound in
    line-short _ 0 c.of_tops.result sound (first-line _ t.tree t.passes)

pub find-requires : goal.find-requires
find-requires c = rw c.from-many.ensures (c.requires.section Tops).within

pub returns : goal.returns
returns c =
    let t = has-tree _ c.args.lines.now.order.gone_over.sound in
    let w = c.put_cut-count.ensures in
    let key = top_key _ t.tree t.passes _ _ _ _ _ c.of_tops.ensures w.came w.wrote in
    c.around.ensures ∙ ap near_in c.find.ensures ∙ top-found _ _ _ t.tree c.requires t.passes _ _ key c.from-many.ensures
