-- The first tree ends where the lines end, or the words are not one tree.
use Rattle.std.proofs.Common.{◌≡◌, ℕ, ◌*◌, ◌/◌, ◌≤◌, ◌<◌, Bool, true, false, eqb, List, length, take, get_or, refl, sym, ◌∙◌, arith, length-take}
use Rattle.std.proofs.lemmas.Bool.{eqb-true, eqb-false}
use lib.Seq.{get_or-take}
use Rattle.std.specs.Bool.{then_some}
use Rattle.order.specs.Reading.{tree_of}
use Rattle.order.specs.Spans.{row_of, measured_of, SpansAre}
use Rattle.order.proofs.Spanning.{whole-none, whole-more, whole-one}
use Rattle.order_spans.proofs.whole.Goals as goal

pub returns-in_default : goal.returns-in_default
unfolding measured_of
returns-in_default c =
    let p = c.requires in
    let short : length c.args.order.now < 2 = omega (arith, c.in_default.len_below, length-take (length c.args.order.now) c.args.spans.now, p.measurable.2) in
    rw (whole-none _ _ p.measurable.1 p.measurable.2 p.spans_are short) refl

-- Where the first tree ends where the lines do, it is the only one.
by_end : (os ss : List ℕ) (even : 2 * (length os / 2) ≡ length os) (room : length os ≤ length ss) (are : SpansAre 0 (take (length os) ss) (row_of os)) (some : 2 ≤ length os)
    (b : Bool) → eqb (get_or ss 0 0) (length os / 2) ≡ b → then_some b (get_or ss 1 0) ≡ measured_of (tree_of os)
unfolding measured_of
by_end os ss even room are some true e = sym (whole-one os ss even room are some (eqb-true _ _ e))
by_end os ss even room are some false e = rw (whole-more os ss even room are some (eqb-false _ _ e)) refl

pub returns : goal.returns
returns c =
    let p = c.requires in
    let some : 2 ≤ length c.args.order.now = omega (arith, c.in-len2-up.len_at_least, length-take (length c.args.order.now) c.args.spans.now, p.measurable.2) in
    c.then_some.ensures
    ∙ rw (c.from.ensures ∙ get_or-take (length c.args.order.now) c.args.spans.now 0 0 (omega arith), c.from-2.ensures ∙ get_or-take (length c.args.order.now) c.args.spans.now 1 0 (omega arith))
    (by_end _ _ p.measurable.1 p.measurable.2 p.spans_are some _ refl)
