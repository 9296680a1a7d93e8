-- `book_join::join_books`, by the tests that it makes in turn. Assumes nothing.
use Rattle.std.proofs.Common.{ap, not}
use Rattle.book_joining.proofs.Outcomes.{second-few, k_differs, one-disagrees, both_agree, too_many-live, may_add, join-no_room, join-done}
use Rattle.book_join.proofs.join_books.Goals as goal

pub returns-then-book-other : goal.returns-then-book-other
returns-then-book-other c = k_differs _ _ _ _ c.requires.holds c.requires.holds_2 c.if-book-other.true

pub returns-then-not-both_agree : goal.returns-then-not-both_agree
returns-then-not-both_agree c = one-disagrees _ _ _ _ c.requires.holds c.requires.holds_2 c.if-book-other.false _ c.both_agree.ensures (ap not c.if-not-both_agree.true)

pub overflow_sub-more : goal.overflow_sub-more
overflow_sub-more c = second-few _ _ _ _ c.requires.holds c.requires.holds_2

pub returns-then-more-live : goal.returns-then-more-live
returns-then-more-live c =
    let both = both_agree _ _ _ _ c.requires.holds c.requires.holds_2 c.if-book-other.false _ c.both_agree.ensures (ap not c.if-not-both_agree.false) in
    too_many-live _ _ both c.if-more-live.true

pub add_book-requires-clause-other_value : goal.add_book-requires-clause-other_value
add_book-requires-clause-other_value c =
    let both = both_agree _ _ _ _ c.requires.holds c.requires.holds_2 c.if-book-other.false _ c.both_agree.ensures (ap not c.if-not-both_agree.false) in
    may_add _ _ both c.if-more-live.false

pub returns-then-not-add_book : goal.returns-then-not-add_book
returns-then-not-add_book c =
    let both = both_agree _ _ _ _ c.requires.holds c.requires.holds_2 c.if-book-other.false _ c.both_agree.ensures (ap not c.if-not-both_agree.false) in
    join-no_room _ _ both c.if-more-live.false _ _ c.add_book.ensures.came c.add_book.ensures.wrote (ap not c.if-not-add_book.true)

pub returns : goal.returns
returns c =
    let both = both_agree _ _ _ _ c.requires.holds c.requires.holds_2 c.if-book-other.false _ c.both_agree.ensures (ap not c.if-not-both_agree.false) in
    join-done _ _ both c.if-more-live.false _ _ c.add_book.ensures.came c.add_book.ensures.wrote (ap not c.if-not-add_book.false)
