-- `desk_input::opening`: each return is a law of `Found`. Assumes nothing.
use Rattle.std.proofs.Common.{sym, ap, ◌∙◌, ◌≡◌, arith, Err, Ok, Some, None}
use Rattle.std.specs.Option.{is_some}
use Rattle.std.proofs.lemmas.Result.{err_from_is_err_and}
use Rattle.desk_input.specs.Places.{depth_on}
use Rattle.desk_input.proofs.Found.{there, not-there, begins, front-large, front-outside, front-alone, front-letter, front-other}
use Rattle.desk_input.proofs.opening.Goals as goal
use Rattle.desk_input.proofs.opening.Goals.{else-input-ne-FIRST_LINE-via-then-input-ne-FIRST_LINE+else-is_none, else-input-ne-FIRST_LINE-via-else-input-ne-FIRST_LINE}

pub returns-then-input-gt-MOST_INPUT : goal.returns-then-input-gt-MOST_INPUT
returns-then-input-gt-MOST_INPUT c = ap Err c.answered.ensures ∙ sym (front-large _ c.if-input-gt-MOST_INPUT.true)

pub returns-in_err-depth : goal.returns-in_err-depth
returns-in_err-depth c =
    let p = err_from_is_err_and c.from_residual.result c.from_residual.ensures.1 in
    let e = c.in_err-depth.ensures.value in
    let n : c.depth_on.result ≡ None = grind arith in
    let a : c.in_err-depth.field-0.0 ≡ c.answered-2.result = grind arith in
    rw (p.1, p.2) (ap Err (a ∙ c.answered-2.ensures) ∙ sym (front-outside _ c.if-input-gt-MOST_INPUT.false (sym c.depth_on.ensures ∙ n)))

pub letter_at-requires : goal.letter_at-requires
letter_at-requires c =
    let e = c.in_ok-depth.ensures.value in
    let d : depth_on c.args.input.now ≡ Some c.in_ok-depth.depth = grind arith in
    (begins _ _ d).enough

pub returns-then-is_none : goal.returns-then-is_none
returns-then-is_none c =
    let e = c.in_ok-depth.ensures.value in
    let d : depth_on c.args.input.now ≡ Some c.in_ok-depth.depth = grind arith in
    let n = not-there _ (ap is_some (sym c.letter_at.ensures) ∙ c.if-is_none.ensures) in
    sym (front-other _ c.if-input-gt-MOST_INPUT.false _ d c.if-input-ne-FIRST_LINE.true n)

pub returns : goal.returns
returns c =
    let e = c.in_ok-depth.ensures.value in
    let d : depth_on c.args.input.now ≡ Some c.in_ok-depth.depth = grind arith in
    ap Ok c.value.ensures
    ∙ elim c.else-input-ne-FIRST_LINE.branch [
      | else-input-ne-FIRST_LINE-via-then-input-ne-FIRST_LINE+else-is_none w ↦
          let x = there _ (ap is_some (sym w.letter_at.ensures) ∙ w.if-is_none.ensures) in
          sym (front-letter _ c.if-input-gt-MOST_INPUT.false _ _ d x.1)
      | else-input-ne-FIRST_LINE-via-else-input-ne-FIRST_LINE w ↦ sym (front-alone _ c.if-input-gt-MOST_INPUT.false _ d w.if-input-ne-FIRST_LINE.false)
    ]
