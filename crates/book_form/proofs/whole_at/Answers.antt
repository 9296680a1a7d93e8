-- `book_form::whole_at`: each return decides whether all the entry's words are there. Assumes nothing.
use Rattle.std.proofs.Common.{ℕ, ◌≡◌, ◌+◌, List, take, ◌-◌, length, drop, get_or, sym, ap, ◌∙◌, arith}
use Rattle.std.proofs.lemmas.List.{take_rest, length-drop, get_or-drop}
use native.Mathlib.Nat.{add-zero}
use Rattle.book.proofs.Runs.{not_whole, whole}
use Rattle.book_form.proofs.whole_at.Goals as goal

module _ (ws behind : List ℕ) (at : ℕ) (is : behind ≡ take (length ws - at) (drop at ws)) where
  -- The first word behind a place is the one there.
  nodes : get_or behind 0 0 ≡ get_or ws at 0
  nodes = rw (is, take_rest, get_or-drop, add-zero)

  -- The second is the next.
  counts : get_or behind 1 0 ≡ get_or ws (at + 1) 0
  counts = rw (is, take_rest, get_or-drop)

pub returns-in_err-get : goal.returns-in_err-get
returns-in_err-get c =
    let l = c.in_err-get.ensures.lookup in
    c.from_residual.ensures ∙ sym (not_whole c.args.book.now c.args.at (omega arith))

pub returns-in_default : goal.returns-in_default
returns-in_default c =
    let l = c.in_ok-get.ensures.lookup in
    sym (not_whole c.args.book.now c.args.at (omega arith))

pub returns-then-behind-key : goal.returns-then-behind-key
returns-then-behind-key c =
    let f = c.in_ok-get.field-0.now in
    let l = c.in_ok-get.ensures.lookup in
    let n = nodes c.args.book.now f c.args.at l.0.2 in
    sym (not_whole c.args.book.now c.args.at (omega (arith, ap length (take_rest f 2), length-drop 2 f)))

pub returns : goal.returns
returns c =
    let f = c.in_ok-get.field-0.now in
    let l = c.in_ok-get.ensures.lookup in
    let n = nodes c.args.book.now f c.args.at l.0.2 in
    let e = whole c.args.book.now c.args.at (omega (arith, ap length (take_rest f 2), length-drop 2 f)) in
    rw (c.from-key.ensures, c.from.ensures, n, counts c.args.book.now f c.args.at l.0.2) (sym e)
