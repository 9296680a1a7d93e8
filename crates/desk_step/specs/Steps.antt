-- What one step of the desk does, for all inputs, and the steps of a run, one after the other. That their lines are what the desk prints is shown in
-- proofs/Runs.antt. Assumes nothing: these are definitions.
use Rattle.std.specs.Prelude.{ℕ, ◌+◌, ◌≤◌, ◌<◌, ◌≡◌, List, [], ◌∷◌, ◌++◌, ltb, length, take, drop}
use Rattle.words.specs.Base.{when◌then◌else◌, over}
use Rattle.figures.specs.Limits.{desk_book_words}
use Rattle.book.specs.Opening.{open_of}
use Rattle.desk_line.specs.Replies.{reply, reply_room}
use Rattle.desk_input.specs.Sheets.{first_line_size, letter_line_size, letter_K, letter_byte, FormCall, sheet_of, Handed, faulty, handed, handed_in}
use Rattle.desk_call.specs.Asking.{call_of}
use Rattle.desk_step.specs.Desk.{line_for}
use Rattle.desk_step.specs.declared.Printed.{Printed}

-- ---- a step

-- What a step answers, and the words of the book and the bytes of the output then.
pub record Stepping : Type 0 where
  pub step : Printed
  pub book : List ℕ
  pub out : List ℕ

-- A step's answer, the book and the output, put together.
abbrev pub stepping : Printed → List ℕ → List ℕ → Stepping
stepping s book out = record { step = s; book = book; out = out }

-- Nothing is done, since the output is too short or no letter line stands in front: nothing is taken of the input, and no line is given.
abbrev pub idle : List ℕ → List ℕ → Stepping
idle book out = stepping (record { taken = 0; count = 0 }) book out

-- A step that took so many bytes and gives a line at the front of the output.
abbrev pub gives : ℕ → List ℕ → List ℕ → List ℕ → Stepping
gives taken line book out = stepping (record { taken = taken; count = length line }) book (over line out)

-- The opening: line 1 is taken, or by a fault all of the input.
unfoldable pub begun_by : ℕ → Handed → List ℕ → List ℕ → Stepping
begun_by size (faulty a) book out = gives size (reply letter_K a 0) book out
begun_by size (handed k calls) book out = gives first_line_size (line_for letter_K (open_of book k)) (open_of book k).words out

-- The first step, on any slice for a book; a slice for the line that is shorter than any line may be is left alone.
unfoldable pub begin_of : List ℕ → List ℕ → List ℕ → Stepping
begin_of input book out = when ltb (length out) reply_room then idle book out else begun_by (length input) (handed_in input) book out

-- The first of the calls is made, where no bytes stand before it.
unfoldable pub stepped_by : List ℕ → List FormCall → List ℕ → List ℕ → Stepping
stepped_by [] (c ∷ cs) book out =
    gives (letter_line_size + length c.text) (line_for (letter_byte c.letter) (call_of c book)) (call_of c book).words out
stepped_by [] [] book out = idle book out
stepped_by (b ∷ bs) cs book out = idle book out

-- A later step, on what is left of the input.
unfoldable pub step_of : List ℕ → List ℕ → List ℕ → Stepping
step_of left book out =
    when ltb (length out) reply_room then idle book out else stepped_by (sheet_of left).before (sheet_of left).calls book out

-- ---- the steps of a run

-- The line that a step gives.
abbrev pub line_in : Stepping → List ℕ
line_in s = take s.step.count s.out

-- A run on an input has come to a place in it, with a book, an output and the lines of its steps so far, one after the other: the first step is the
-- opening, on a book of the desk's size, and while bytes are left there is another.
pub data Run (input : List ℕ) : ℕ → List ℕ → List ℕ → List ℕ → Type 0 where
  begun : (book out : List ℕ) → length book ≡ desk_book_words → reply_room ≤ length out
      → Run input (begin_of input book out).step.taken (begin_of input book out).book (begin_of input book out).out (line_in (begin_of input book out))
  stepped : (n : ℕ) (book out printed : List ℕ) → Run input n book out printed → n < length input
      → Run input (n + (step_of (drop n input) book out).step.taken) (step_of (drop n input) book out).book (step_of (drop n input) book out).out
      (printed ++ line_in (step_of (drop n input) book out))
