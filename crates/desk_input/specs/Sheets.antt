-- What is handed in at the desk (01, "Forms on the desk"): the lines of the input, the calls that they ask for, and the three faults. Assumes
-- nothing: these are definitions.
use Rattle.std.specs.Prelude.{ℕ, Bool, true, false, List, [], ◌∷◌, ◌++◌, ltb, eqb, length, None, Option, Some, Err, Ok, Result}
use Rattle.words.specs.Base.{◌and◌, when◌then◌else◌, within}
use Rattle.figures.specs.Limits.{least_k, greatest_k, most_input}
use Rattle.figures.specs.Numbers.{done, too_large, k_outside, no_form}
use Rattle.figures.specs.Answers.{answered}
use Rattle.figures.specs.declared.Answer.{Answer}
use Rattle.form.specs.Text.{space, line_feed}
use Rattle.form.specs.Reading.{is_digit, figure}
use Rattle.desk_input.specs.declared.Letter.{Letter}
use Rattle.desk_input.specs.declared.Letter.TheVariants.{Teach, Withdraw, Judge}

-- ---- sizes

-- How many bytes line 1 takes: "K, space, one digit, LF".
abbrev pub first_line_size : ℕ
first_line_size = 4

-- How many bytes a letter line takes.
abbrev pub letter_line_size : ℕ
letter_line_size = 2

-- ---- letters

-- K, the letter of the opening.
abbrev pub letter_K : ℕ
letter_K = 75

-- "T, W or J and LF (teach, withdraw, judge)": the byte of each.
abbrev pub letter_byte : Letter → ℕ
letter_byte Teach = 84
letter_byte Withdraw = 87
letter_byte Judge = 74

-- What a byte asks for, if it is one of the three.
unfoldable pub letter_of : ℕ → Option Letter
letter_of b =
    when eqb b (letter_byte Teach) then Some Teach else
    when eqb b (letter_byte Withdraw) then Some Withdraw else
    when eqb b (letter_byte Judge) then Some Judge else None

-- ---- lines

-- A byte in front of lines: LF is a line's last byte, and any other stands in the line that follows it.
unfoldable pub with_byte : Bool → ℕ → List (List ℕ) → List (List ℕ)
with_byte true b ls = (b ∷ []) ∷ ls
with_byte false b [] = (b ∷ []) ∷ []
with_byte false b (l ∷ ls) = (b ∷ l) ∷ ls

-- The lines of a text, each with its LF, which the last may lack.
unfoldable pub input_lines : List ℕ → List (List ℕ)
input_lines [] = []
input_lines (b ∷ bs) = with_byte (eqb b line_feed) b (input_lines bs)

-- "a line of the one letter T, W or J and LF"
unfoldable pub kind_of : List ℕ → Option Letter
kind_of (b ∷ e ∷ []) = when eqb e line_feed then letter_of b else None
kind_of [] = None
kind_of (b ∷ []) = None
kind_of (b ∷ e ∷ c ∷ l) = None

-- ---- calls

-- A call: what its letter asks for, and the bytes of its form.
pub record FormCall : Type 0 where
  pub letter : Letter
  pub text : List ℕ

-- What lines ask for: the bytes before the first letter line, and the calls from there on.
pub record Sheet : Type 0 where
  pub before : List ℕ
  pub calls : List FormCall

-- A line in front of others: "the form runs to the next such line or the end".
unfoldable pub with_line : Option Letter → List ℕ → Sheet → Sheet
with_line (Some x) l s = record { before = []; calls = record { letter = x; text = s.before } ∷ s.calls }
with_line None l s = record { before = l ++ s.before; calls = s.calls }

-- The calls that lines ask for.
unfoldable pub calls_of : List (List ℕ) → Sheet
calls_of [] = record { before = []; calls = [] }
calls_of (l ∷ ls) = with_line (kind_of l) l (calls_of ls)

-- What the bytes behind line 1 ask for.
unfoldable pub sheet_of : List ℕ → Sheet
sheet_of bytes = calls_of (input_lines bytes)

-- ---- the first line, and the faults

-- Line 1 has a k, and bytes stand behind it; or it is otherwise.
pub data FirstLine : Type 0 where
  otherwise : FirstLine
  asks : ℕ → List ℕ → FirstLine

-- "Line 1 is K, space, one digit, LF", and k is 2 to 6.
unfoldable pub first_line : List ℕ → FirstLine
first_line (a ∷ b ∷ c ∷ d ∷ rest) =
    when eqb a letter_K and eqb b space and is_digit c and eqb d line_feed and within least_k greatest_k (figure c) then asks (figure c) rest
    else otherwise
first_line [] = otherwise
first_line (a ∷ []) = otherwise
first_line (a ∷ b ∷ []) = otherwise
first_line (a ∷ b ∷ c ∷ []) = otherwise

-- What is handed in: k and the calls, or the first fault.
pub data Handed : Type 0 where
  faulty : Answer → Handed
  handed : ℕ → List FormCall → Handed

-- The bytes before the first letter line, and the calls: "bytes between line 1 and the first letter, or bytes and no letter" are a fault.
unfoldable pub handed_by : ℕ → List ℕ → List FormCall → Handed
handed_by k [] calls = handed k calls
handed_by k (b ∷ bs) calls = faulty (record { number = no_form; line = 2 })

-- "a first line otherwise spelt, no input, or k out of range"
unfoldable pub by_first : FirstLine → Handed
by_first otherwise = faulty (answered k_outside)
by_first (asks k rest) = handed_by k (sheet_of rest).before (sheet_of rest).calls

-- "Three faults are looked for before anything is printed, in this order: longer input", the first line, and bytes before the first letter.
unfoldable pub handed_in : List ℕ → Handed
handed_in input = when ltb most_input (length input) then faulty (answered too_large) else by_first (first_line input)

-- What the front of the input is: the first fault, or the k of a book to open.
abbrev pub opening_by : Handed → Result ℕ Answer
opening_by (faulty a) = Err a
opening_by (handed k calls) = Ok k

-- What the front of an input is.
unfoldable pub opening_of : List ℕ → Result ℕ Answer
opening_of input = opening_by (handed_in input)

-- 01's number and line for each case: 0 for a book to open.
abbrev pub front_answer : Result ℕ Answer → Answer
front_answer (Err a) = a
front_answer (Ok k) = answered done
