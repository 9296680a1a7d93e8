-- `book_change::add_book` meets its contract, by whether there is room. Assumes nothing.
use mathlib.Core.Path.{refl}
use Rattle.words.proofs.Tests.{if_true, if_false}
use Rattle.book_change.proofs.Room.{no_room-for, room_for, can_add}
use Rattle.book.proofs.Holding.{used-room}
use Rattle.book_change.proofs.add_book.Goals as goal

pub overflow_sub-book : goal.overflow_sub-book
overflow_sub-book c = used-room _ _ c.requires.holds

pub returns-then-book-places-clause-came : goal.returns-then-book-places-clause-came
returns-then-book-places-clause-came c = no_room-for _ _ _ _ c.requires.holds c.requires.holds_2 _ c.weigh_book-weighed.ensures c.if-book-places.true

pub returns-then-book-places-clause-wrote : goal.returns-then-book-places-clause-wrote
returns-then-book-places-clause-wrote c = if_false _ _ _ refl

pub change_book-requires-clause-ready_all : goal.change_book-requires-clause-ready_all
change_book-requires-clause-ready_all c =
    can_add _ _ _ _ c.requires.holds c.requires.holds_2 _ c.weigh_book-weighed.ensures c.if-book-places.false c.requires.other_value.0 c.requires.other_value.1

pub returns-clause-came : goal.returns-clause-came
returns-clause-came c = room_for _ _ _ _ c.requires.holds c.requires.holds_2 _ c.weigh_book-weighed.ensures c.if-book-places.false

pub returns-clause-wrote : goal.returns-clause-wrote
returns-clause-wrote c = if_true _ _ _ c.change_book.ensures
