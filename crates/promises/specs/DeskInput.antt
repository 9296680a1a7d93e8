-- What is handed in at the desk (01, "Forms on the desk"), by the bytes of the input and not by how they are split. Assumes nothing: these are
-- definitions.
use Rattle.std.specs.Prelude.{ℕ, ◌+◌, ◌≤◌, ◌≡◌, List, [], ◌∷◌, ◌++◌, length}
use Rattle.figures.specs.Limits.{least_k, greatest_k, most_input}
use Rattle.form.specs.Text.{digit_0, space, line_feed}
use Rattle.desk_input.specs.Sheets.{letter_K, FormCall}
use Rattle.desk_input.specs.Joined.{joined_calls, LetterLine, Parts}
use Rattle.desk_input.specs.declared.Letter.{Letter}

-- The input is line 1 with that k, and these forms, each below its letter.
pub record InputIs (input : List ℕ) (k : ℕ) (cs : List FormCall) : Type 0 where
  -- "at most 32,768 bytes"
  pub size : length input ≤ most_input
  -- "k is 2 to 6"
  pub least : least_k ≤ k
  pub greatest : k ≤ greatest_k
  -- "Line 1 is K, space, one digit, LF. Then a line of the one letter T, W or J and LF (teach, withdraw, judge) before each form"
  pub spelt : input ≡ letter_K ∷ space ∷ (digit_0 + k) ∷ line_feed ∷ joined_calls cs
  -- "the form runs to the next such line or the end": no such line is inside a form, and each that is before one starts a line
  pub parts : Parts [] cs

-- ---- where forms begin

-- Among the bytes the line of the letter x stands behind the front.
pub record LetterBehind (bytes front : List ℕ) (x : Letter) : Type 0 where
  pub line : LetterLine bytes
  pub behind : line.front ≡ front
  pub of : line.letter ≡ x

-- Of the forms one below the letter x begins behind the front: that is the forms before it, one after the other.
pub record BeginsForm (cs : List FormCall) (front : List ℕ) (x : Letter) : Type 0 where
  pub before : List FormCall
  pub text : List ℕ
  pub later : List FormCall
  pub forms : cs ≡ before ++ (record { letter = x; text = text } ∷ later)
  pub behind : joined_calls before ≡ front
