-- `desk_loop::run`: its loop is a run of the desk, whose last line is the one to be printed.
use Rattle.std.proofs.Common.{◌≡◌, ◌-◌, length}
use Rattle.figures.specs.Limits.{desk_book_words}
use Rattle.desk_line.specs.Replies.{reply_room}
use Rattle.desk_loop.proofs.Serving.{Reached}
use Rattle.desk_loop.proofs.run.Given as goal

abbrev pub invariant-loop-book : goal.invariant-loop-book
invariant-loop-book g l = (length l.book ≡ desk_book_words) × (length l.line ≡ reply_room) × Reached l.input l.at l.book l.line l.count

-- The bytes of the input that are left.
abbrev pub decreases-loop-book : goal.decreases-loop-book
decreases-loop-book g l = length l.input - l.at
