-- `form_read::next_line`: each return has the first fault that its tests found. Assumes nothing.
use Rattle.std.proofs.Common.{drop, sym, ◌∙◌}
use Rattle.form.proofs.Steps.{next_past, next-misspelt, next-zero, next_level, next-deep, next-node}
use Rattle.form_read.proofs.next_line.Goals as goal

pub returns-then-n-ge-MOST_NODES : goal.returns-then-n-ge-MOST_NODES
returns-then-n-ge-MOST_NODES c = let a = c.args in next_past a.n a.greatest (drop a.at a.text.now) c.if-n-ge-MOST_NODES.true

pub returns-in_default : goal.returns-in_default
returns-in_default c = let a = c.args in next-misspelt a.n a.greatest (drop a.at a.text.now) c.if-n-ge-MOST_NODES.false c.spelt_at-read.ensures c.in_default.is

pub returns-then-node-eq0 : goal.returns-then-node-eq0
returns-then-node-eq0 c = let a = c.args in next-zero a.n a.greatest (drop a.at a.text.now) c.if-n-ge-MOST_NODES.false c.spelt_at-read.ensures c.in-Ok.is c.if-node-eq0.true

pub returns-then-not-may_follow : goal.returns-then-not-may_follow
returns-then-not-may_follow c = let a = c.args in next_level a.n a.greatest (drop a.at a.text.now) c.if-n-ge-MOST_NODES.false c.spelt_at-read.ensures c.in-Ok.is c.if-node-eq0.false (sym c.may_follow.ensures ∙ c.if-not-may_follow.true)

pub returns-then-node-gt-GREATEST_DEPTH : goal.returns-then-node-gt-GREATEST_DEPTH
returns-then-node-gt-GREATEST_DEPTH c = let a = c.args in next-deep a.n a.greatest (drop a.at a.text.now) c.if-n-ge-MOST_NODES.false c.spelt_at-read.ensures c.in-Ok.is c.if-node-eq0.false (sym c.may_follow.ensures ∙ c.if-not-may_follow.false) c.if-node-gt-GREATEST_DEPTH.true

pub returns : goal.returns
returns c = let a = c.args in next-node a.n a.greatest (drop a.at a.text.now) c.if-n-ge-MOST_NODES.false c.spelt_at-read.ensures c.in-Ok.is c.if-node-eq0.false (sym c.may_follow.ensures ∙ c.if-not-may_follow.false) c.if-node-gt-GREATEST_DEPTH.false
