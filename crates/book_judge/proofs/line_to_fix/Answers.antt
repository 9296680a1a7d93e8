-- `book_judge::line_to_fix` meets its contract: at each turn the lines left are those of a row of trees, and decide. Assumes nothing.
use Prim.Native.Nat.{ℕ, ◌/◌}
use mathlib.Core.Path.{refl, sym, subst}
use native.Mathlib.Omega.{arith}
use lib.ListN.{length}
use Rattle.order.proofs.LineSpans.{spans-room}
use Rattle.book.specs.Decoding.{book_in}
use Rattle.book_judging.specs.Seeking.{JudgedAt}
use Rattle.book_judging.proofs.Descents.{Down, down_first, down_last, down_next}
use Rattle.book_judging.proofs.Rounds.{none-judged, own_line}
use Rattle.book_judge.proofs.line_to_fix.Goals as goal

pub loop-places-init : goal.loop-places-init
loop-places-init c =
    let book = book_in c.args.book.now in
    let order = c.args.lines.now.order in
    let judged = none-judged book order.words.now 0 _ refl c.plainly-found.ensures in
    record {
      down = subst (λ (n : ℕ). Down book order.words.now n 0 (length order.words.now / 2)) (sym judged.at) (down_first _ _ order.gone_over.sound);
      judged = own_line _ _ _ _ judged;
    }

pub first_unknown-judged-requires-clause-from_le_to : goal.first_unknown-judged-requires-clause-from_le_to
first_unknown-judged-requires-clause-from_le_to c = let down = c.loop-places.invariant.down in (omega (arith, down.long), down.within)

pub returns-then-line-eq0 : goal.returns-then-line-eq0
returns-then-line-eq0 c =
    let i = c.loop-places.invariant in
    subst (λ (n : ℕ). JudgedAt (book_in c.args.book.now) c.args.lines.now.order.words.now n c.loop-places.found) (down_last _ _ _ _ _ _ i.down c.first_unknown-judged.ensures.at c.if-line-eq0.true) i.judged

pub line_end-to-requires : goal.line_end-to-requires
line_end-to-requires c =
    let down = c.loop-places.invariant.down in
    let next = down_next _ _ _ _ _ _ down c.first_unknown-judged.ensures.at c.if-line-eq0.false in
    omega (arith, next.after, next.has, down.within, spans-room _ _ c.args.lines.now.order.gone_over)

pub loop-places-smaller : goal.loop-places-smaller
loop-places-smaller c =
    let next = down_next _ _ _ _ _ _ c.loop-places.invariant.down c.first_unknown-judged.ensures.at c.if-line-eq0.false in
    omega (arith, next.after, next.has, (next.down _ _ c.args.lines.now.order.gone_over c.line_end-to.ensures).1)

pub loop-places-preserved : goal.loop-places-preserved
loop-places-preserved c =
    let next = down_next _ _ _ _ _ _ c.loop-places.invariant.down c.first_unknown-judged.ensures.at c.if-line-eq0.false in
    record {
      down = (next.down _ _ c.args.lines.now.order.gone_over c.line_end-to.ensures).0;
      judged = own_line _ _ _ _ c.first_unknown-judged.ensures;
    }
