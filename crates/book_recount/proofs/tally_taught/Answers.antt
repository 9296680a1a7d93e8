-- `book_recount::tally_taught` meets its contract: at each entry of T what all orders count is what those left count. Assumes nothing.
use mathlib.Core.Path.{refl}
use native.Mathlib.Omega.{arith}
use lib.ListN.{drop}
use Rattle.section.proofs.Words.{span-step, span-at}
use Rattle.book.specs.Decoding.{book_in}
use Rattle.book.proofs.Agreeing.{taught-cause}
use Rattle.book_recount.proofs.OrdersLeft.{left-first, last-known, last-counted, last-noted, first-taught, first-ready, first-unknown, left-next}
use Rattle.book_recount.proofs.tally_taught.Goals as goal

pub loop-left-init : goal.loop-left-init
loop-left-init c =
    left-first c.args.book.now c.args.starts.now _ c.args.section c.args.counts.now _ c.requires.holds c.requires.counts_len.0 c.requires.marks_value

pub tally_order-requires-clause-book_in_bounds : goal.tally_order-requires-clause-book_in_bounds
tally_order-requires-clause-book_in_bounds c =
    let book = c.args.book.now in
    let l = c.loop-left in (
      omega (arith, l.invariant.within, span-step (drop l.at book) l.left c.loop-left-test.true),
      taught-cause (book_in book) c.requires.holds.form _ (first-taught _ _ _ _ c.requires.holds.depth _ _ _ _ _ _ _ c.loop-left-test.true refl l.invariant),
    )

pub tally_order-requires-clause-turn_ready : goal.tally_order-requires-clause-turn_ready
tally_order-requires-clause-turn_ready c =
    first-ready _ _ _ _ c.requires.holds.depth _ _ _ _ _ _ _ c.loop-left-test.true refl c.loop-left.invariant c.requires.counts_len.1

pub returns-then-not-tally_order-clause-known : goal.returns-then-not-tally_order-clause-known
returns-then-not-tally_order-clause-known c =
    first-unknown _ _ _ _ c.requires.holds.depth _ _ _ _ _ _ _ c.loop-left-test.true refl c.loop-left.invariant
    _ _ _ c.tally_order.ensures c.if-not-tally_order.true

pub past-at-requires : goal.past-at-requires
past-at-requires c =
    let l = c.loop-left in
    omega (arith, l.invariant.within, span-at c.args.book.now l.at l.left _ c.loop-left-test.true refl)

pub loop-left-preserved : goal.loop-left-preserved
loop-left-preserved c =
    left-next _ _ _ _ c.requires.holds.depth _ _ _ _ _ _ _ c.loop-left-test.true c.past-at.ensures c.loop-left.invariant
    _ _ _ c.tally_order.ensures c.if-not-tally_order.false c.tally_order.auto.counts c.tally_order.auto.marks

pub returns : goal.returns
returns c =
    let i = c.loop-left.invariant in
    let none = c.loop-left-test.false in
    record {
      known = last-known _ _ _ _ _ _ _ _ _ i none;
      counted = λ e. last-counted _ _ _ _ _ _ _ _ _ i none;
      noted = λ e. last-noted _ _ _ _ _ _ _ _ _ i none;
    }
