-- `order_check::cause_into` meets its contract: each test that led to a return is the first cause that holds, and the spans listed are the order's. Assumes nothing.
use mathlib.Core.Path.{◌≡◌, ap, sym, ◌∙◌}
use Rattle.figures.specs.Refusals.{refusal_number, number_told}
use Rattle.figures.specs.declared.refusals.Refusal.TheVariants.{NoOrder, TooLarge}
use Rattle.order.proofs.Orders.{Sized, cause_empty, cause_odd, cause_long, cause_missing, cause_deep, cause_none}
use Rattle.order.proofs.Spanning.{broken-missing, measured_found, gone-over}
use Rattle.order_check.proofs.Told.{err-is, unlisted}
use Rattle.order_check.proofs.cause_into.Goals as goal
use Rattle.order_check.proofs.cause_into.Goals.{then-n-eq0-via-then-n-eq0, then-n-eq0-via-else-n-eq0+then-n-eq1}

pub returns-then-n-eq0-clause-came : goal.returns-then-n-eq0-clause-came
returns-then-n-eq0-clause-came c = elim c.then-n-eq0.branch [
  | then-n-eq0-via-then-n-eq0 w ↦ sym (cause_empty _ w.if-n-eq0.true)
  | then-n-eq0-via-else-n-eq0+then-n-eq1 w ↦ sym (cause_odd _ w.if-n-eq0.false w.if-n-eq1.true)
]

pub returns-then-n-eq0-clause-listed : goal.returns-then-n-eq0-clause-listed
returns-then-n-eq0-clause-listed c = unlisted _ NoOrder (returns-then-n-eq0-clause-came c)

pub returns-then-n-gt-MOST_WORDS-clause-came : goal.returns-then-n-gt-MOST_WORDS-clause-came
returns-then-n-gt-MOST_WORDS-clause-came c = sym (cause_long _ c.if-n-eq0.false c.if-n-eq1.false c.if-n-gt-MOST_WORDS.true)

pub returns-then-n-gt-MOST_WORDS-clause-listed : goal.returns-then-n-gt-MOST_WORDS-clause-listed
returns-then-n-gt-MOST_WORDS-clause-listed c = unlisted _ TooLarge (returns-then-n-gt-MOST_WORDS-clause-came c)

pub returns-in_err-depth-clause-came : goal.returns-in_err-depth-clause-came
returns-in_err-depth-clause-came c =
    let z : Sized c.args.order.now = record { some = c.if-n-eq0.false; even = c.if-n-eq1.false; short = c.if-n-gt-MOST_WORDS.false } in
    let none = c.in_err-depth.ensures.ok_part in
    let e : c.in_err-depth.field-0.0 ≡ NoOrder = let w = rw none at c.in_err-depth.ensures.value in cc in
    ap number_told (err-is _ _ c.from_residual.ensures.1) ∙ ap refusal_number e ∙ sym (cause_missing _ z (broken-missing _ (sym c.measure.ensures.came ∙ none)))

pub returns-in_err-depth-clause-listed : goal.returns-in_err-depth-clause-listed
returns-in_err-depth-clause-listed c =
    let z : Sized c.args.order.now = record { some = c.if-n-eq0.false; even = c.if-n-eq1.false; short = c.if-n-gt-MOST_WORDS.false } in
    unlisted _ NoOrder (sym (cause_missing _ z (broken-missing _ (sym c.measure.ensures.came ∙ c.in_err-depth.ensures.ok_part))))

pub returns-then-depth-gt-GREATEST_DEPTH-clause-came : goal.returns-then-depth-gt-GREATEST_DEPTH-clause-came
returns-then-depth-gt-GREATEST_DEPTH-clause-came c =
    let z : Sized c.args.order.now = record { some = c.if-n-eq0.false; even = c.if-n-eq1.false; short = c.if-n-gt-MOST_WORDS.false } in
    let f = measured_found _ _ (sym c.measure.ensures.came ∙ c.in_ok-depth.ensures.ok_part) in
    sym (cause_deep _ z _ f c.if-depth-gt-GREATEST_DEPTH.true)

pub returns-then-depth-gt-GREATEST_DEPTH-clause-listed : goal.returns-then-depth-gt-GREATEST_DEPTH-clause-listed
returns-then-depth-gt-GREATEST_DEPTH-clause-listed c = unlisted _ TooLarge (returns-then-depth-gt-GREATEST_DEPTH-clause-came c)

pub returns-clause-came : goal.returns-clause-came
returns-clause-came c =
    let z : Sized c.args.order.now = record { some = c.if-n-eq0.false; even = c.if-n-eq1.false; short = c.if-n-gt-MOST_WORDS.false } in
    let f = measured_found _ _ (sym c.measure.ensures.came ∙ c.in_ok-depth.ensures.ok_part) in
    sym (cause_none _ z _ f c.if-depth-gt-GREATEST_DEPTH.false)

pub returns-clause-listed : goal.returns-clause-listed
returns-clause-listed c =
    let z : Sized c.args.order.now = record { some = c.if-n-eq0.false; even = c.if-n-eq1.false; short = c.if-n-gt-MOST_WORDS.false } in
    let f = measured_found _ _ (sym c.measure.ensures.came ∙ c.in_ok-depth.ensures.ok_part) in
    λ e. gone-over _ _ c.measure.ensures.listed (cause_none _ z _ f c.if-depth-gt-GREATEST_DEPTH.false)
