-- What the forms handed in at the desk do to its book, in the terms of demand 3, why each is answered as it is, and what is printed for it. Assumes
-- nothing: these are definitions.
use Rattle.std.specs.Prelude.{ℕ, ◌≡◌, true, List, [], ◌∷◌, ◌++◌, get_or}
use Rattle.figures.specs.Limits.{used_word}
use Rattle.figures.specs.Numbers.{done, too_large, no_room, not_taught, no_form, top_unknown, low_unknown, middle_unknown}
use Rattle.order.specs.Trees.{Tree, words}
use Rattle.order.specs.Fits.{IsOrder}
use Rattle.form.specs.Text.{space, line_feed, text_of}
use Rattle.form.specs.Reading.{by_form, form_of, words_of_lines}
use Rattle.form.specs.Faults.{FirstFault}
use Rattle.book.specs.Opening.{Outcome, outcome}
use Rattle.book_judging.specs.Verdicts.{Judged}
use Rattle.book_teaching.specs.Whys.{WhyTaught, WhyWithdrawn}
use Rattle.desk_line.specs.Meaning.{all_digits, no_leading_zero, value_of}
use Rattle.desk_input.specs.Sheets.{letter_byte, FormCall}
use Rattle.desk_input.specs.declared.Letter.{Letter}
use Rattle.desk_input.specs.declared.Letter.TheVariants.{Teach, Withdraw, Judge}
use Rattle.desk_call.specs.Asking.{call_of}
use Rattle.desk_step.specs.Lines.{feeds}
use Rattle.promises.specs.Remaining.{Call, teach, withdraw}

-- ---- the calls that forms make

-- The call on the book that a letter makes with an order; judging makes none that could change it.
abbrev pub call_for : Letter → List ℕ → List Call
call_for Teach os = teach os ∷ []
call_for Withdraw os = withdraw os ∷ []
call_for Judge os = []

-- The call that a form makes: none where its text is refused.
unfoldable pub made_of : FormCall → List Call
made_of c = by_form (form_of c.text) (λ n line. []) (λ xs. call_for c.letter (words_of_lines xs))

-- The calls that forms make, one after the other.
unfoldable pub made_by : List FormCall → List Call
made_by [] = []
made_by (c ∷ cs) = made_of c ++ made_by cs

-- The book after forms.
unfoldable pub book_after : List FormCall → List ℕ → List ℕ
book_after [] book = book
book_after (c ∷ cs) book = book_after cs (call_of c book).words

-- ---- the answer of a form

-- Why a form below a letter is answered on a book by o: by its text, and then by the row of the call that its letter names, of demand 1.
pub data WhyAnswered (x : Letter) (text book : List ℕ) (o : Outcome) : Type 0 where
  -- "A form's text is read first and its refusal printed": "No bytes is line 1."
  no_text : text ≡ [] → o ≡ outcome (record { number = no_form; line = 1 }) book → WhyAnswered x text book o
  -- the number and the line of "the first line at fault"
  text_at_fault : (n line : ℕ) → FirstFault text n line → o ≡ outcome (record { number = n; line = line }) book → WhyAnswered x text book o
  -- T: the order is taught, or refused by its row
  teaches : (t : Tree) → x ≡ Teach → text ≡ text_of t → IsOrder (words t) t → WhyTaught book (words t) o → WhyAnswered x text book o
  -- W: it is withdrawn, or refused by its row
  withdraws : (t : Tree) → x ≡ Withdraw → text ≡ text_of t → IsOrder (words t) t → WhyWithdrawn book (words t) o → WhyAnswered x text book o
  -- J: it is judged by its row, and the book stays
  judges : (t : Tree) → x ≡ Judge → text ≡ text_of t → IsOrder (words t) t → Judged book (words t) o.answer → o.words ≡ book
      → WhyAnswered x text book o

-- ---- the line of a form

-- "in decimal without leading zeros": digits that stand for the number, the first of which is 0 only where it is alone.
pub record InDecimal (n : ℕ) (bytes : List ℕ) : Type 0 where
  pub digits : all_digits bytes ≡ true
  pub bare : no_leading_zero bytes ≡ true
  pub stands_for : value_of bytes ≡ n

-- "letter, answer, line, words used, in decimal without leading zeros, one space between, LF at the end"
pub record Says (letter number line used : ℕ) (bytes : List ℕ) : Type 0 where
  pub number_digits : List ℕ
  pub line_digits : List ℕ
  pub used_digits : List ℕ
  pub bytes_are : bytes ≡ letter ∷ space ∷ (number_digits ++ (space ∷ (line_digits ++ (space ∷ (used_digits ++ (line_feed ∷ []))))))
  pub number_is : InDecimal number number_digits
  pub line_is : InDecimal line line_digits
  pub used_is : InDecimal used used_digits

-- Of all that is printed, the line of a form that so many lines stand before: it says the letter, the number, the line and the words used of an
-- answer that the form's rows allow on the book, and that answer's words are the book from then on.
pub record PrintedFor (printed : List ℕ) (place : ℕ) (x : Letter) (text book later : List ℕ) : Type 0 where
  pub before : List ℕ
  pub line : List ℕ
  pub behind : List ℕ
  pub all : printed ≡ before ++ (line ++ behind)
  pub lines_before : feeds before ≡ place
  pub one_line : feeds line ≡ 1
  pub result : Outcome
  pub why : WhyAnswered x text book result
  pub says : Says (letter_byte x) result.answer.number result.answer.line (get_or result.words used_word 0) line
  pub leaves : later ≡ result.words

-- The numbers that the desk prints for a form below a letter.
pub data DeskNumber (x : Letter) (n : ℕ) : Type 0 where
  -- done, or passes
  is_done : n ≡ done → DeskNumber x n
  -- "text past line 64, or its level over 12"
  is_too_large : n ≡ too_large → DeskNumber x n
  -- "a line misspelt, code 0000, a level not allowed, a ninth child, or no bytes at all"
  is_no_form : n ≡ no_form → DeskNumber x n
  -- T: "the result needs more words than the book slice has"
  is_no_room : x ≡ Teach → n ≡ no_room → DeskNumber x n
  -- W: "order has no entry in T"
  is_not_taught : x ≡ Withdraw → n ≡ not_taught → DeskNumber x n
  -- J: "top not in R"
  is_top : x ≡ Judge → n ≡ top_unknown → DeskNumber x n
  -- J: "low part unknown"
  is-low : x ≡ Judge → n ≡ low_unknown → DeskNumber x n
  -- J: "middle part unknown"
  is-middle : x ≡ Judge → n ≡ middle_unknown → DeskNumber x n
