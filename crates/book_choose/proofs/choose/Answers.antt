-- `book_choose::choose`: judge's refusals and verdicts are handed on, and where the order passes the rules decide. Assumes nothing.
use Rattle.std.proofs.Common.{ℕ, ◌≡◌, ◌≤◌, Option, refl, ap, sym, ◌∙◌, arith}
use Rattle.std.specs.Option.{IsSome}
use borrow.Author.Tests.{le-leb}
use Rattle.words.specs.Base.{when◌then◌else◌}
use Rattle.words.proofs.Tests.{and_both}
use Rattle.figures.specs.Limits.{least_k, greatest_k}
use Rattle.figures.specs.Answers.{depth_of}
use Rattle.figures.specs.declared.depths.Depth.{Depth}
use Rattle.figures.specs.declared.Answer.{Answer}
use Rattle.book.proofs.Depths.{allowed}
use Rattle.book_judging.specs.declared.Judgement.{Judgement}
use Rattle.book_choosing.specs.Choosing.{refused_by}
use Rattle.book_choosing.specs.Walking.{chosen_for}
use Rattle.book_choosing.proofs.Choices.{choose_judges, passed}
use Rattle.book_choose.proofs.choose.Goals as goal

-- A k of 2 to 6 is allowed.
some-depth : (k : ℕ) (w : Option Depth) → w ≡ depth_of k → least_k ≤ k → k ≤ greatest_k → IsSome w
unfolding depth_of when◌then◌else◌
some-depth k w e l g = rw (e, and_both (le-leb _ _ l) (le-leb _ _ g)) refl

pub returns-then-answer-ne-DONE : goal.returns-then-answer-ne-DONE
returns-then-answer-ne-DONE c =
    let judged = ap (λ (j : Judgement). j.answer) c.judge.ensures in
    let number = ap (λ (a : Answer). a.number) judged in
    ap refused_by judged ∙ sym (choose_judges _ _ _ (λ e. c.if-answer-ne-DONE.true (number ∙ e)))

pub bounds-book-0 : goal.bounds-book-0
bounds-book-0 c =
    let number = ap (λ (j : Judgement). j.answer.number) c.judge.ensures in
    omega (arith, (passed _ _ c.args.rules.now (sym number ∙ c.if-answer-ne-DONE.false)).long)

pub unwrap-k-requires : goal.unwrap-k-requires
unwrap-k-requires c =
    let number = ap (λ (j : Judgement). j.answer.number) c.judge.ensures in
    let p = passed _ _ c.args.rules.now (sym number ∙ c.if-answer-ne-DONE.false) in
    some-depth _ _ c.new.ensures p.least p.greatest

pub image_for-requires : goal.image_for-requires
image_for-requires c =
    let number = ap (λ (j : Judgement). j.answer.number) c.judge.ensures in
    let p = passed _ _ c.args.rules.now (sym number ∙ c.if-answer-ne-DONE.false) in
    let k = (allowed _ _ c.new.ensures _ c.unwrap-k.ensures).0 in
    record { order_value = p.sound; least_k_le_k = (omega (arith, p.least, k), omega (arith, p.greatest, k)) }

pub returns : goal.returns
unfolding chosen_for
returns c =
    let a = c.args in
    let number = ap (λ (j : Judgement). j.answer.number) c.judge.ensures in
    let p = passed _ _ a.rules.now (sym number ∙ c.if-answer-ne-DONE.false) in
    c.answered.ensures
    ∙ c.image_for.ensures
    ∙ ap (λ (k : ℕ). chosen_for k a.order.now a.rules.now) (allowed _ _ c.new.ensures _ c.unwrap-k.ensures).0
    ∙ sym p.is
