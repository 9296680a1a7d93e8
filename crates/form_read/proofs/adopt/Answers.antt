-- `form_read::adopt` meets its contract, for line 1, a parent that has all its children, and any other. Assumes nothing.
use Rattle.form.proofs.Steps.{adopt_first, adopt_full, adopt_one}
use Rattle.form_read.proofs.adopt.Goals as goal

pub returns-then-level-eq0-clause-may : goal.returns-then-level-eq0-clause-may
returns-then-level-eq0-clause-may c = (adopt_first _ _ _ c.if-level-eq0.true).0

pub returns-then-level-eq0-clause-raised : goal.returns-then-level-eq0-clause-raised
returns-then-level-eq0-clause-raised c = (adopt_first _ _ _ c.if-level-eq0.true).1

pub returns-then-children-ge-MOST_CHILDREN-clause-may :
    goal.returns-then-children-ge-MOST_CHILDREN-clause-may
returns-then-children-ge-MOST_CHILDREN-clause-may c = (adopt_full _ _ _ c.if-level-eq0.false c.if-children-ge-MOST_CHILDREN.true).0

pub returns-then-children-ge-MOST_CHILDREN-clause-raised :
    goal.returns-then-children-ge-MOST_CHILDREN-clause-raised
returns-then-children-ge-MOST_CHILDREN-clause-raised c = (adopt_full _ _ _ c.if-level-eq0.false c.if-children-ge-MOST_CHILDREN.true).1

pub returns-clause-may : goal.returns-clause-may
returns-clause-may c = (adopt_one _ _ _ c.if-level-eq0.false c.if-children-ge-MOST_CHILDREN.false).0

pub returns-clause-raised : goal.returns-clause-raised
returns-clause-raised c = (adopt_one _ _ _ c.if-level-eq0.false c.if-children-ge-MOST_CHILDREN.false).1
