-- `book_teach::teach_order`, by the tests that it makes in turn. Assumes nothing.
use Rattle.std.proofs.Common.{sym}
use Rattle.figures.proofs.SameRefusal.{not_done}
use Rattle.order_check.proofs.Told.{err-is}
use Rattle.book.proofs.Holding.{used-room}
use Rattle.book_teaching.proofs.Outcomes.{own_holds, teach-refused, teach-full, teach-overfull, teach-crowded, teach-ready, teach-done}
use Rattle.book_teach.proofs.teach_order.Goals as goal

pub returns-in_err-passed : goal.returns-in_err-passed
returns-in_err-passed c =
    rw (err-is _ _ c.from_residual.ensures.1) (teach-refused _ _ _ c.requires _ c.in_err-passed.ensures.came (not_done _))

pub returns-then-book : goal.returns-then-book
returns-then-book c =
    teach-full _ _ _ c.requires (sym c.in_ok-passed.ensures.came) c.if-book.true

pub weigh_book-weighed-requires-clause-holds_2 : goal.weigh_book-weighed-requires-clause-holds_2
weigh_book-weighed-requires-clause-holds_2 c =
    let e = sym c.in_ok-passed.ensures.came in
    let came = rw c.in_ok-passed.ensures.same at c.list_taught-owns.ensures.came in
    let wrote = rw c.in_ok-passed.ensures.same at c.list_taught-owns.ensures.wrote in
    own_holds _ _ _ c.requires e _ _ came wrote

pub returns-then-weighed : goal.returns-then-weighed
returns-then-weighed c =
    let e = sym c.in_ok-passed.ensures.came in
    let came = rw c.in_ok-passed.ensures.same at c.list_taught-owns.ensures.came in
    let wrote = rw c.in_ok-passed.ensures.same at c.list_taught-owns.ensures.wrote in
    teach-overfull _ _ _ c.requires e _ _ came wrote _ c.weigh_book-weighed.ensures c.if-weighed.true

pub overflow_sub-book : goal.overflow_sub-book
overflow_sub-book c =
    used-room _ _ c.requires

pub returns-then-book-places : goal.returns-then-book-places
returns-then-book-places c =
    let e = sym c.in_ok-passed.ensures.came in
    let came = rw c.in_ok-passed.ensures.same at c.list_taught-owns.ensures.came in
    let wrote = rw c.in_ok-passed.ensures.same at c.list_taught-owns.ensures.wrote in
    teach-crowded _ _ _ c.requires e _ _ came wrote _ c.weigh_book-weighed.ensures c.if-book.false c.if-weighed.false c.if-book-places.true

pub change_book-requires-clause-holds_2 : goal.change_book-requires-clause-holds_2
change_book-requires-clause-holds_2 c =
    let e = sym c.in_ok-passed.ensures.came in
    let came = rw c.in_ok-passed.ensures.same at c.list_taught-owns.ensures.came in
    let wrote = rw c.in_ok-passed.ensures.same at c.list_taught-owns.ensures.wrote in
    own_holds _ _ _ c.requires e _ _ came wrote

pub change_book-requires-clause-ready_all : goal.change_book-requires-clause-ready_all
change_book-requires-clause-ready_all c =
    let e = sym c.in_ok-passed.ensures.came in
    let came = rw c.in_ok-passed.ensures.same at c.list_taught-owns.ensures.came in
    let wrote = rw c.in_ok-passed.ensures.same at c.list_taught-owns.ensures.wrote in
    teach-ready _ _ _ c.requires e _ _ came wrote _ c.weigh_book-weighed.ensures c.if-book.false c.if-weighed.false c.if-book-places.false

pub returns : goal.returns
returns c =
    let e = sym c.in_ok-passed.ensures.came in
    let came = rw c.in_ok-passed.ensures.same at c.list_taught-owns.ensures.came in
    let wrote = rw c.in_ok-passed.ensures.same at c.list_taught-owns.ensures.wrote in
    teach-done _ _ _ c.requires e _ _ came wrote _ c.weigh_book-weighed.ensures c.if-book.false c.if-weighed.false c.if-book-places.false _ c.change_book.ensures
