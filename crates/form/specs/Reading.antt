-- Order form text, read (01, "Order form text", and "Text" under "Order of checks"). Assumes nothing: these are definitions.
use Rattle.std.specs.Prelude.{ℕ, zero, suc, ◌+◌, ◌*◌, ◌-◌, Bool, not, List, [], ◌∷◌, reverse, leb, ltb, eqb, length, drop, Err, Ok, Result}
use Rattle.form.specs.declared.reading.Node.{Node}
use Rattle.words.specs.Base.{◌and◌, when◌then◌else◌, within}
use Rattle.figures.specs.Limits.{most_nodes, most_children, greatest_depth}
use Rattle.figures.specs.Numbers.{done, too_large, no_form}
use Rattle.figures.specs.Answers.{refused_at}
use Rattle.order.specs.Answers.{Writing, writing, write}
use Rattle.form.specs.Text.{digit_0, digit_9, space, line_feed, code_size, Line}
use Rattle.form.specs.declared.reading.Fault.{Fault}
use Rattle.form.specs.declared.reading.Fault.TheVariants.{PastLast, Misspelt, NoOption, LevelNotAllowed, TooDeep, NinthChild}

-- ---- numbers

-- 01's number for each fault: 2 is "text past line 64, or its level over 12", 10 is "a line misspelt, code 0000, a level not allowed, a
-- ninth child".
abbrev pub fault_number : Fault → ℕ
fault_number PastLast = too_large
fault_number Misspelt = no_form
fault_number NoOption = no_form
fault_number LevelNotAllowed = no_form
fault_number TooDeep = too_large
fault_number NinthChild = no_form

-- ---- spelling

-- The byte is a decimal digit.
unfoldable pub is_digit : ℕ → Bool
is_digit b = within digit_0 digit_9 b

-- The number that a digit stands for.
abbrev pub figure : ℕ → ℕ
figure b = b - digit_0

-- The number that four decimal digits stand for.
unfoldable pub value : ℕ → ℕ → ℕ → ℕ → ℕ
value a b c d = figure a * 1000 + figure b * 100 + figure c * 10 + figure d

-- "one space, exactly four decimal digits, LF"
unfoldable pub is_code : ℕ → ℕ → ℕ → ℕ → ℕ → ℕ → Bool
is_code s a b c d e = eqb s space and is_digit a and is_digit b and is_digit c and is_digit d and eqb e line_feed

-- The line of a level of w bytes, by the bytes behind it: the node, and how many bytes the whole line takes.
unfoldable pub code_behind : ℕ → ℕ → List ℕ → Result Node Fault
code_behind level w (s ∷ a ∷ b ∷ c ∷ d ∷ e ∷ rest) =
    when is_code s a b c d e then Ok (record { level = level; code = value a b c d; size = w + code_size }) else Err Misspelt
code_behind level w [] = Err Misspelt
code_behind level w (s ∷ []) = Err Misspelt
code_behind level w (s ∷ a ∷ []) = Err Misspelt
code_behind level w (s ∷ a ∷ b ∷ []) = Err Misspelt
code_behind level w (s ∷ a ∷ b ∷ c ∷ []) = Err Misspelt
code_behind level w (s ∷ a ∷ b ∷ c ∷ d ∷ []) = Err Misspelt

-- "Level is one digit, or two of which the first is not 0": the line at the front of the bytes, as it is spelt.
unfoldable pub spelt_of : List ℕ → Result Node Fault
spelt_of [] = Err Misspelt
spelt_of (x ∷ []) = Err Misspelt
spelt_of (x ∷ y ∷ rest) =
    when not (is_digit x) then Err Misspelt else
    when not (is_digit y) then code_behind (figure x) 1 (y ∷ rest) else
    when eqb x digit_0 then Err Misspelt else
    code_behind (figure x * 10 + figure y) 2 rest

-- What follows a node, and what follows a refusal.
unfoldable pub by_line : {A : Type 0} → Result Node Fault → (ℕ → ℕ → ℕ → A) → (Fault → A) → A
by_line (Ok node) f g = f node.level node.code node.size
by_line (Err e) f g = g e

-- ---- a line behind those before it, which are listed the last first

-- "Line 1 has level 0; a later level is 1 to the previous plus 1."
unfoldable pub allowed : ℕ → List Line → Bool
allowed l [] = eqb l 0
allowed l (x ∷ xs) = within 1 (suc x.level) l

-- How many lines before have the same parent as a line of that level.
unfoldable pub siblings : ℕ → List Line → ℕ
siblings l [] = 0
siblings l (x ∷ xs) =
    when ltb x.level l then 0 else
    when eqb x.level l then suc (siblings l xs) else
    siblings l xs

-- "spelling, 0000, level not allowed, level over 12, ninth child": the line at the front of the bytes, or its first fault.
unfoldable pub line_of : List Line → List ℕ → Result Node Fault
line_of before bytes =
    by_line (spelt_of bytes) (λ level code size.
    when eqb code 0 then Err NoOption else
    when not (allowed level before) then Err LevelNotAllowed else
    when ltb greatest_depth level then Err TooDeep else
    when leb most_children (siblings level before) then Err NinthChild else
    Ok (record { level = level; code = code; size = size })) Err

-- ---- all lines

-- A text is a form of some lines, or refused by a number at a line.
pub data Form : Type 0 where
  fault : ℕ → ℕ → Form
  form : List Line → Form

-- What follows a refusal, and what follows a form.
unfoldable pub by_form : {A : Type 0} → Form → (ℕ → ℕ → A) → (List Line → A) → A
by_form (fault n line) f g = f n line
by_form (form xs) f g = g xs

-- "the first line at fault": the bytes behind the lines before, which are listed the last first, with room for so many lines more. A line
-- without room is "past line 64", whatever stands in it.
unfoldable pub read_lines : ℕ → List Line → List ℕ → Form
read_lines zero before [] = form (reverse before)
read_lines zero before (b ∷ bs) = fault (fault_number PastLast) (suc (length before))
read_lines (suc room) before [] = form (reverse before)
read_lines (suc room) before (b ∷ bs) =
    by_line (line_of before (b ∷ bs))
    (λ level code size. read_lines room (record { level = level; code = code } ∷ before) (drop size (b ∷ bs)))
    (λ f. fault (fault_number f) (suc (length before)))

-- "No bytes is line 1."
unfoldable pub form_of : List ℕ → Form
form_of [] = fault no_form 1
form_of (b ∷ bs) = read_lines most_nodes [] (b ∷ bs)

-- ---- the words of lines

-- Of the lines behind one of level l: how many are its children.
unfoldable pub children : ℕ → List Line → ℕ
children l [] = 0
children l (x ∷ xs) =
    when leb x.level l then 0 else
    when eqb x.level (suc l) then suc (children l xs) else
    children l xs

-- Two words for each line: its code, and its number of children.
unfoldable pub words_of_lines : List Line → List ℕ
words_of_lines [] = []
words_of_lines (x ∷ xs) = x.code ∷ children x.level xs ∷ words_of_lines xs

-- ---- the call

-- "Text: the first line at fault; … 11 last."
unfoldable pub read_of : List ℕ → List ℕ → Writing
read_of bytes out = by_form (form_of bytes) (λ n line. writing (refused_at n line) out) (λ xs. write (words_of_lines xs) out)
