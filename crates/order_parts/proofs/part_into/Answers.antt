-- `order_parts::part_into` meets its contract, by where the line stands. Assumes nothing.
use Prim.Native.Nat.{ℕ, ◌-◌}
use mathlib.Core.Bool.{Bool}
use mathlib.Core.List.{List}
use mathlib.Core.Path.{◌≡◌, refl, ap, ap₂, sym, ◌∙◌}
use lib.Dec.{leb}
use native.Mathlib.Omega.{arith}
use Rattle.std.proofs.Common.{Bor}
use Rattle.words.specs.Base.{when◌then◌else◌}
use Rattle.figures.specs.declared.Written.{Written}
use Rattle.order.specs.Parts.{is_low}
use Rattle.order.specs.Standing.{cut_of}
use Rattle.order.specs.Answers.{writing, write, of_kind, part_into_of}
use Rattle.order.specs.declared.Kind.TheVariants.{Low, Middle}
use Rattle.order.proofs.Lines.{placed}
use Rattle.order.proofs.LineSpans.{spans-room, found-line}
use Rattle.order.proofs.Answers.{part-refused, part_lacks, part-has}
use Rattle.order_check.proofs.Told.{stopped_by}
use Rattle.order_parts.proofs.part_into.Goals as goal

pub returns-in-Err : goal.returns-in-Err
returns-in-Err c =
    let a = c.args in
    let stop = stopped_by a.order.now _ c.in-Err.ensures.came in
    rw (c.no_part.ensures, c.number.ensures) (sym (part-refused _ _ _ stop _ _))

pub returns-in_default : goal.returns-in_default
returns-in_default c =
    let a = c.args in
    rw c.no_part-in_default.ensures
    (sym (part_lacks _ _ (placed _ _ _ _ c.in_default.ensures refl) _ _)
    ∙ ap (λ (words : Bor (List ℕ)). part_into_of words.now a.line a.k.k a.out.now) c.in-Ok.ensures.same)

pub is_low-requires : goal.is_low-requires
is_low-requires c =
    let f = found-line _ _ _ _ c.in-Ok.passed.gone_over c.in-Some.ensures in
    omega (arith, f.within, spans-room _ _ c.in-Ok.passed.gone_over)

pub cut_line-requires : goal.cut_line-requires
cut_line-requires c = (found-line _ _ _ _ c.in-Ok.passed.gone_over c.in-Some.ensures).within

pub returns : goal.returns
unfolding is_low
returns c =
    let a = c.args in
    let words = c.in-Ok.passed.words.now in
    let l = found-line _ _ _ _ c.in-Ok.passed.gone_over c.in-Some.ensures in
    let low : c.is_low.result ≡ is_low a.k.k l.has.spot.tree = c.is_low.ensures ∙ ap (λ (n : ℕ). leb n (a.k.k - 2)) l.deep in
    let kind = c.kind_of-kind.ensures ∙ ap (λ (b : Bool). when b then Low else Middle) low in
    let written =
    ap (λ (w : Written). writing w c.cut_line.new.out) c.from-written.ensures
    ∙ c.cut_line.ensures
    ∙ ap₂ (λ (at d : ℕ). write (cut_of words at d) a.out.now) l.even c.of_middles.ensures in
    ap₂ of_kind kind written
    ∙ sym (part-has _ _ _ l.has _ _)
    ∙ ap (λ (ws : Bor (List ℕ)). part_into_of ws.now a.line a.k.k a.out.now) c.in-Ok.ensures.same
