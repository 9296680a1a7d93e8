-- What the program `desk` prints for which input (01, "Forms on the desk"). Assumes nothing: these are definitions.
use Rattle.std.specs.Prelude.{ℕ, List, [], ◌∷◌, ◌++◌, get_or, replicate}
use Rattle.figures.specs.Limits.{used_word, desk_book_words}
use Rattle.book.specs.Opening.{Outcome, open_of}
use Rattle.desk_line.specs.Replies.{reply}
use Rattle.desk_input.specs.Sheets.{letter_K, letter_byte, FormCall, Handed, faulty, handed, handed_in}
use Rattle.desk_call.specs.Asking.{call_of}

-- ---- the line of a call

-- "letter, answer, line, words used", of the book after the call.
unfoldable pub line_for : ℕ → Outcome → List ℕ
line_for letter o = reply letter o.answer (get_or o.words used_word 0)

-- "one for each form": the lines of calls on a book, one after the other.
unfoldable pub lines_for : List FormCall → List ℕ → List ℕ
lines_for [] book = []
lines_for (c ∷ cs) book = line_for (letter_byte c.letter) (call_of c book) ++ lines_for cs (call_of c book).words

-- ---- all that is printed

-- "one line for the opening, with letter K, and one for each form", on a book in that slice. By a fault: "That line is then the whole output."
unfoldable pub printed_for : Handed → List ℕ → List ℕ
printed_for (faulty a) slice = reply letter_K a 0
printed_for (handed k calls) slice = line_for letter_K (open_of slice k) ++ lines_for calls (open_of slice k).words

-- What the desk prints for an input: "with a book of 8,192 words".
unfoldable pub desk_of : List ℕ → List ℕ
desk_of input = printed_for (handed_in input) (replicate desk_book_words 0)
