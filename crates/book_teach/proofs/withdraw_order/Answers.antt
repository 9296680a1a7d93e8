-- `book_teach::withdraw_order`, by the tests that it makes in turn. Assumes nothing.
use Rattle.std.proofs.Common.{sym}
use Rattle.figures.proofs.SameRefusal.{not_done}
use Rattle.order_check.proofs.Told.{err-is}
use Rattle.book_teaching.proofs.Outcomes.{own_holds, withdraw-refused, withdraw-untaught, withdraw-ready, withdraw-disagrees, withdraw-done}
use Rattle.book_teach.proofs.withdraw_order.Goals as goal

pub returns-in_err-passed : goal.returns-in_err-passed
returns-in_err-passed c =
    rw (err-is _ _ c.from_residual.ensures.1) (withdraw-refused _ _ _ c.requires _ c.in_err-passed.ensures.came (not_done _))

pub weigh_section-taught-requires-clause-holds_2 : goal.weigh_section-taught-requires-clause-holds_2
weigh_section-taught-requires-clause-holds_2 c =
    let e = sym c.in_ok-passed.ensures.came in
    let came = rw c.in_ok-passed.ensures.same at c.list_taught-owns.ensures.came in
    let wrote = rw c.in_ok-passed.ensures.same at c.list_taught-owns.ensures.wrote in
    own_holds _ _ _ c.requires e _ _ came wrote

pub returns-then-taught-gt0 : goal.returns-then-taught-gt0
returns-then-taught-gt0 c =
    let e = sym c.in_ok-passed.ensures.came in
    let came = rw c.in_ok-passed.ensures.same at c.list_taught-owns.ensures.came in
    let wrote = rw c.in_ok-passed.ensures.same at c.list_taught-owns.ensures.wrote in
    withdraw-untaught _ _ _ c.requires e _ _ came wrote _ c.weigh_section-taught.ensures c.if-taught-gt0.true

pub lacking_parts-requires-clause-holds_2 : goal.lacking_parts-requires-clause-holds_2
lacking_parts-requires-clause-holds_2 c =
    let e = sym c.in_ok-passed.ensures.came in
    let came = rw c.in_ok-passed.ensures.same at c.list_taught-owns.ensures.came in
    let wrote = rw c.in_ok-passed.ensures.same at c.list_taught-owns.ensures.wrote in
    own_holds _ _ _ c.requires e _ _ came wrote

pub returns-then-lacking_parts-gt0 : goal.returns-then-lacking_parts-gt0
returns-then-lacking_parts-gt0 c =
    let e = sym c.in_ok-passed.ensures.came in
    let came = rw c.in_ok-passed.ensures.same at c.list_taught-owns.ensures.came in
    let wrote = rw c.in_ok-passed.ensures.same at c.list_taught-owns.ensures.wrote in
    withdraw-disagrees _ _ _ c.requires e _ _ came wrote _ c.weigh_section-taught.ensures c.if-taught-gt0.false _ c.lacking_parts.ensures c.if-lacking_parts-gt0.true

pub change_book-requires-clause-holds_2 : goal.change_book-requires-clause-holds_2
change_book-requires-clause-holds_2 c =
    let e = sym c.in_ok-passed.ensures.came in
    let came = rw c.in_ok-passed.ensures.same at c.list_taught-owns.ensures.came in
    let wrote = rw c.in_ok-passed.ensures.same at c.list_taught-owns.ensures.wrote in
    own_holds _ _ _ c.requires e _ _ came wrote

pub change_book-requires-clause-ready_all : goal.change_book-requires-clause-ready_all
change_book-requires-clause-ready_all c =
    let e = sym c.in_ok-passed.ensures.came in
    let came = rw c.in_ok-passed.ensures.same at c.list_taught-owns.ensures.came in
    let wrote = rw c.in_ok-passed.ensures.same at c.list_taught-owns.ensures.wrote in
    withdraw-ready _ _ _ c.requires e _ _ came wrote _ c.weigh_section-taught.ensures c.if-taught-gt0.false

pub returns : goal.returns
returns c =
    let e = sym c.in_ok-passed.ensures.came in
    let came = rw c.in_ok-passed.ensures.same at c.list_taught-owns.ensures.came in
    let wrote = rw c.in_ok-passed.ensures.same at c.list_taught-owns.ensures.wrote in
    withdraw-done _ _ _ c.requires e _ _ came wrote _ c.weigh_section-taught.ensures c.if-taught-gt0.false _ c.lacking_parts.ensures c.if-lacking_parts-gt0.false _ c.change_book.ensures
