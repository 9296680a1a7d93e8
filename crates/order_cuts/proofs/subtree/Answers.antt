-- `order_cuts::subtree` meets its contract, by where the line stands. Assumes nothing.
use Prim.Native.Nat.{ℕ, ◌+◌, ◌*◌, ◌/◌, ◌≤◌}
use mathlib.Core.Path.{◌≡◌, refl, ap, sym, ◌∙◌}
use mathlib.Core.List.{List}
use native.Mathlib.Omega.{arith}
use lib.ListN.{length, get_or}
use Rattle.figures.specs.Numbers.{done}
use Rattle.order.specs.Trees.{words}
use Rattle.order.specs.Reading.{cause_of}
use Rattle.order.specs.Spans.{GoneOver}
use Rattle.figures.specs.Refusals.{refusal_number}
use Rattle.order.specs.Standing.{Refused, Lacking, At, place_told, place_of}
use Rattle.order.specs.Answers.{piece_at}
use Rattle.order.proofs.Lines.{HasLine, has-no-cause, placed, StandsAt}
use Rattle.order.proofs.LineSpans.{found-line, spans-room}
use Rattle.order.proofs.Answers.{subtree-refused, subtree_lacks, subtree-within, subtree-has}
use Rattle.order_cuts.proofs.subtree.Goals as goal

-- What is known of the subtree of a line that was found: where it ends, within the order.
record Within (os : List ℕ) (line at end : ℕ) : Type 0 where
  has : HasLine os line at
  stands : StandsAt os line at
  ends : end * 2 ≡ at + length (words has.spot.tree)
  from : at ≤ end * 2
  to : end * 2 ≤ length os

-- It is known once the line was found and the spans of the order's lines are listed.
within : (os ss : List ℕ) (line at end : ℕ) → (cause_of os ≡ done → GoneOver os ss) → At at ≡ place_of os line → end ≡ get_or ss (at / 2 * 2) 0 → Within os line at end
within os ss line at end over e is =
    let l = found-line os ss line at (over (has-no-cause _ _ _ (placed os line _ _ e refl))) e in
    let ends : end * 2 ≡ at + length (words l.has.spot.tree) = ap (λ (n : ℕ). n * 2) is ∙ l.ends in
    let inside = subtree-within os line at l.has (end * 2) (omega (arith, l.stands.word, l.stands.has, l.stands.some)) ends in
    record { has = l.has; stands = l.stands; ends = ends; from = inside.0; to = inside.1 }

pub returns-in_default : goal.returns-in_default
returns-in_default c =
    let z = c.in_default in
    ap (piece_at c.args.order.ref_ptr) (sym (subtree-refused _ _ _ (placed _ _ _ (Refused (refusal_number z.field-0)) z.ensures.came refl)))

pub returns-in_default-found : goal.returns-in_default-found
returns-in_default-found c =
    ap (piece_at c.args.order.ref_ptr) (sym (subtree_lacks _ _ (placed _ _ _ Lacking (ap place_told (sym c.in_default-found.is) ∙ c.in-Ok.ensures.came) refl)))

pub line_end-end-requires : goal.line_end-end-requires
line_end-end-requires c =
    let e = ap place_told (sym c.in-Some.is) ∙ c.in-Ok.ensures.came in
    let over = c.in-Ok.ensures.listed (has-no-cause _ _ _ (placed _ _ (At c.in-Some.at) (At c.in-Some.at) e refl)) in
    omega (arith, (found-line _ _ _ _ over e).within, spans-room _ _ over)

pub overflow_mul-end : goal.overflow_mul-end
overflow_mul-end c =
    let w = within c.args.order.now _ _ _ _ c.in-Ok.ensures.listed (ap place_told (sym c.in-Some.is) ∙ c.in-Ok.ensures.came) c.line_end-end.ensures in
    omega (arith, w.to, w.has.short)

pub offset_bounds-order-at : goal.offset_bounds-order-at
offset_bounds-order-at c =
    let w = within c.args.order.now _ _ _ _ c.in-Ok.ensures.listed (ap place_told (sym c.in-Some.is) ∙ c.in-Ok.ensures.came) c.line_end-end.ensures in
    omega (arith, w.from, w.to, w.has.short)

pub slice_bounds-result-count-2 : goal.slice_bounds-result-count-2
slice_bounds-result-count-2 c =
    let w = within c.args.order.now _ _ _ _ c.in-Ok.ensures.listed (ap place_told (sym c.in-Some.is) ∙ c.in-Ok.ensures.came) c.line_end-end.ensures in
    w.from

pub slice_bounds-result-start-2 : goal.slice_bounds-result-start-2
slice_bounds-result-start-2 c =
    let w = within c.args.order.now _ _ _ _ c.in-Ok.ensures.listed (ap place_told (sym c.in-Some.is) ∙ c.in-Ok.ensures.came) c.line_end-end.ensures in
    omega (arith, w.from, w.to)

pub slice_bounds-result-end-2 : goal.slice_bounds-result-end-2
slice_bounds-result-end-2 c =
    let w = within c.args.order.now _ _ _ _ c.in-Ok.ensures.listed (ap place_told (sym c.in-Some.is) ∙ c.in-Ok.ensures.came) c.line_end-end.ensures in
    omega (arith, w.to)

pub returns : goal.returns
returns c =
    let w = within c.args.order.now _ _ _ _ c.in-Ok.ensures.listed (ap place_told (sym c.in-Some.is) ∙ c.in-Ok.ensures.came) c.line_end-end.ensures in
    ap (piece_at c.args.order.ref_ptr) (sym (subtree-has _ _ _ w.has w.stands.word _ w.ends))
