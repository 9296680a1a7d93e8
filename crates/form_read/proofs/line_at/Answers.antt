-- `form_read::line_at`: a refusal is handed on, and a node is counted under its parent. Assumes nothing.
use Rattle.std.proofs.Common.{sym, ◌∙◌}
use Rattle.form.proofs.Steps.{under-refused, its_parent, under-full, under_one}
use Rattle.form_read.proofs.line_at.Goals as goal

pub returns-in_default : goal.returns-in_default
returns-in_default c =
    let a = c.args in
    let u = under-refused a.words.now a.latest.now c.next_line-read.ensures c.in_default.is in
    record { answered = u.0; counted = u.1 }

pub adopt-requires : goal.adopt-requires
adopt-requires c = let a = c.args in its_parent a.words.now a.latest.now c.next_line-read.ensures c.in-Ok.is c.requires.1

pub returns-then-not-adopt : goal.returns-then-not-adopt
returns-then-not-adopt c =
    let a = c.args in
    let u = under-full a.words.now a.latest.now c.next_line-read.ensures c.in-Ok.is _ (sym c.adopt.ensures.may ∙ c.if-not-adopt.true) c.adopt.ensures.raised in
    record { answered = u.0; counted = u.1 }

pub returns : goal.returns
returns c =
    let a = c.args in
    let u = under_one a.words.now a.latest.now c.next_line-read.ensures c.in-Ok.is _ (sym c.adopt.ensures.may ∙ c.if-not-adopt.false) c.adopt.ensures.raised in
    record { answered = u.0; counted = u.1 }
