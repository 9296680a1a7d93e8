-- What one call at the desk answers, and the book then (01, "Forms on the desk"). Assumes nothing: these are definitions.
use Rattle.std.specs.Prelude.{ℕ, List}
use Rattle.form.specs.Reading.{by_form, form_of, words_of_lines}
use Rattle.book.specs.Opening.{Outcome, outcome}
use Rattle.book_judging.specs.Judging.{judge_of}
use Rattle.book_teaching.specs.Calls.{teach_of, withdraw_of}
use Rattle.desk_input.specs.Sheets.{FormCall}
use Rattle.desk_input.specs.declared.Letter.{Letter}
use Rattle.desk_input.specs.declared.Letter.TheVariants.{Teach, Withdraw, Judge}

-- "teach, withdraw, judge": what a letter does with the book and an order. Judging leaves the book as it came.
unfoldable pub ask_of : Letter → List ℕ → List ℕ → Outcome
ask_of Teach book os = teach_of book os
ask_of Withdraw book os = withdraw_of book os
ask_of Judge book os = outcome (judge_of book os) book

-- "A form's text is read first and its refusal printed": a text that is refused does not reach the book.
unfoldable pub call_of : FormCall → List ℕ → Outcome
call_of c book =
    by_form (form_of c.text) (λ n line. outcome (record { number = n; line = line }) book) (λ xs. ask_of c.letter book (words_of_lines xs))
