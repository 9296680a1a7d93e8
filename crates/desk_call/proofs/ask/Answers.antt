-- `desk_call::ask`: by what each letter asks for. Assumes nothing.
use Rattle.std.proofs.Common.{ap, sym, ◌∙◌}
use Rattle.book_judging.specs.declared.Judgement.{Judgement}
use Rattle.book.specs.Opening.{outcome}
use Rattle.desk_call.proofs.Forms.{asks-teaching, asks-withdrawing, asks-judging}
use Rattle.desk_call.proofs.ask.Goals as goal

pub returns-in-Teach : goal.returns-in-Teach
returns-in-Teach c = cc (asks-teaching c.args.letter c.args.book.now c.args.order.now c.in-Teach.is)

pub returns-in-Withdraw : goal.returns-in-Withdraw
returns-in-Withdraw c = cc (asks-withdrawing c.args.letter c.args.book.now c.args.order.now c.in-Withdraw.is)

pub returns-in-Judge : goal.returns-in-Judge
returns-in-Judge c = ap (λ (r : Judgement). outcome r.answer c.args.book.now) c.judge.ensures ∙ sym (asks-judging _ _ _ c.in-Judge.is)
