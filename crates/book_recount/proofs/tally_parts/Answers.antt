-- `book_recount::tally_parts` meets its contract: a line of the kind tallies its part, and past the last line all parts are tallied. Assumes nothing.
use mathlib.Core.Path.{sym, ◌∙◌}
use native.Mathlib.Omega.{arith}
use Rattle.section_tally.proofs.Starts.{length-listed}
use Rattle.order.proofs.LineSpans.{spans-room}
use Rattle.book_listing.proofs.Parts.{span-tells}
use Rattle.book_recount.proofs.Turns.{turning_named, turn_start, turn_end, turn_passed, refused-taken, turn_unknown, turn_few, turn_tallied}
use Rattle.book_recount.proofs.tally_parts.Goals as goal
use Rattle.book_recount.proofs.tally_parts.Goals.{else-is_low-low-via-then-is_low-low+else-not-tally_cut, else-is_low-low-via-else-is_low-low}

pub loop-line-init : goal.loop-line-init
loop-line-init c = turn_start _ _ _ _ _ _ _ _ c.args.lines.now.order.gone_over.sound

pub is_low-requires : goal.is_low-requires
is_low-requires c = omega (arith, c.loop-line-test.true, spans-room _ _ c.args.lines.now.order.gone_over)

pub tally_cut-requires-clause-counts_len : goal.tally_cut-requires-clause-counts_len
tally_cut-requires-clause-counts_len c =
    let ready = c.requires.turn_ready in
    let each = length-listed c.args.entries.now.starts.now c.args.entries.now.book.now in
    (c.loop-line.auto.counts ∙ ready.counts ∙ each, c.loop-line.auto.marks ∙ ready.marks ∙ each)

pub tally_cut-requires-clause-few : goal.tally_cut-requires-clause-few
tally_cut-requires-clause-few c =
    let tells = span-tells _ _ _ _ _ c.args.lines.now.order.gone_over c.loop-line-test.true c.is_low.ensures in
    turn_few _ _ _ _ _ _ _ _ _ _ _ c.loop-line.invariant c.loop-line-test.true _ c.requires.least_k_le_k tells c.if-is_low-low.true _ c.of_middles-d.ensures
    c.args.entries.now.indexed.sorted c.requires.turn_ready

pub returns-then-not-tally_cut : goal.returns-then-not-tally_cut
returns-then-not-tally_cut c =
    let tells = span-tells _ _ _ _ _ c.args.lines.now.order.gone_over c.loop-line-test.true c.is_low.ensures in
    refused-taken _ _ _ _ _ _ _ _
    (turn_unknown _ _ _ _ _ _ _ _ _ _ _ c.loop-line.invariant c.loop-line-test.true _ c.requires.least_k_le_k tells c.if-is_low-low.true _ c.of_middles-d.ensures
    (sym c.if-not-tally_cut.true ∙ c.tally_cut.ensures.known))

pub loop-line-preserved : goal.loop-line-preserved
loop-line-preserved c =
    let st = c.loop-line.invariant in
    let more = c.loop-line-test.true in
    let least = c.requires.least_k_le_k in
    let tells = span-tells _ _ _ _ _ c.args.lines.now.order.gone_over more c.is_low.ensures in
    elim c.else-is_low-low.branch [
      | else-is_low-low-via-then-is_low-low+else-not-tally_cut w ↦
          turn_tallied _ _ _ _ _ _ _ _ _ _ _ st more _ least tells w.if-is_low-low.true _ c.of_middles-d.ensures c.args.entries.now.indexed.sorted c.requires.turn_ready
          _ _ (sym w.if-not-tally_cut.false ∙ w.tally_cut.ensures.known) (w.counts-is ∙ w.tally_cut.ensures.counted) (w.marks-is ∙ w.tally_cut.ensures.noted)
      | else-is_low-low-via-else-is_low-low w ↦
          turning_named _ _ _ _ _ _ _ _ _ _ _ _ _ w.counts-is w.marks-is (turn_passed _ _ _ _ _ _ _ _ _ _ _ st more _ least tells w.if-is_low-low.false)
    ]

pub returns : goal.returns
returns c = turn_end _ _ _ _ _ _ _ _ _ _ _ c.loop-line.invariant c.loop-line-test.false
