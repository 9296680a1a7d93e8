-- The cause refuses, or the bytes of the lines have room, or not.
use Rattle.std.proofs.Common.{Bor, List, ℕ, arith, ap, refl, sym, ◌∙◌}
use Rattle.order.proofs.Spots.{passed-short}
use Rattle.order.proofs.Writing.{no_output_room, has_room}
use Rattle.figures.proofs.SameRefusal.{not_done}
use Rattle.order_check.proofs.Told.{err-is}
use Rattle.form.specs.Writing.{write_of}
use Rattle.form_write.proofs.Written.{write-refused, write-lines}
use Rattle.form_write.proofs.try_write.Goals as goal

pub returns-in_err-order : goal.returns-in_err-order
returns-in_err-order c = rw (err-is _ _ c.from_residual.ensures.1) (write-refused _ _ _ _ c.in_err-order.ensures.came (not_done _) refl)

pub level_lines-lines-requires : goal.level_lines-lines-requires
level_lines-lines-requires c = omega (arith, passed-short _ c.in_ok-order.order.gone_over.sound)

pub returns-then-out-count : goal.returns-then-out-count
returns-then-out-count c =
    let o = c.in_ok-order.order in
    let size = rw c.level_lines-lines.ensures.same at c.text_size-count.ensures in
    no_output_room _ _ _ refl (omega (arith, size, c.if-out-count.true))
    ∙ sym (write-lines o.words.now _ o.gone_over.sound)
    ∙ ap (λ (words : Bor (List ℕ)). write_of words.now c.args.out.now) c.in_ok-order.ensures.same

pub returns : goal.returns
returns c =
    let o = c.in_ok-order.order in
    let size = rw c.level_lines-lines.ensures.same at c.text_size-count.ensures in
    let text = rw c.level_lines-lines.ensures.same at c.put_text.ensures in
    has_room _ _ _ _ _ refl (sym size) c.if-out-count.false text
    ∙ sym (write-lines o.words.now _ o.gone_over.sound)
    ∙ ap (λ (words : Bor (List ℕ)). write_of words.now c.args.out.now) c.in_ok-order.ensures.same
