-- The front of the input in words (01, "Forms on the desk"): its first line, its first letter line, and why it is answered. Assumes nothing:
-- these are definitions.
use Rattle.std.specs.Prelude.{ℕ, ◌+◌, ◌≤◌, ◌<◌, ◌≡◌, List, [], ◌∷◌, length, Err, Ok, Result}
use Rattle.figures.specs.declared.Answer.{Answer}
use Rattle.figures.specs.Limits.{least_k, greatest_k, most_input}
use Rattle.figures.specs.Numbers.{too_large, k_outside, no_form}
use Rattle.figures.specs.Answers.{answered}
use Rattle.form.specs.Text.{digit_0, space, line_feed}
use Rattle.desk_input.specs.Sheets.{letter_K, letter_byte}
use Rattle.desk_input.specs.declared.Letter.{Letter}

-- "Line 1 is K, space, one digit, LF", k is 2 to 6, and the rest stands behind the line.
pub record OpensWith (input : List ℕ) (k : ℕ) (rest : List ℕ) : Type 0 where
  pub least : least_k ≤ k
  pub greatest : k ≤ greatest_k
  pub spelt : input ≡ letter_K ∷ space ∷ (digit_0 + k) ∷ line_feed ∷ rest

-- The bytes begin with "a line of the one letter T, W or J and LF".
pub record LetterFirst (bs : List ℕ) : Type 0 where
  pub letter : Letter
  pub behind : List ℕ
  pub spelt : bs ≡ letter_byte letter ∷ line_feed ∷ behind

-- Why the front of an input is f: "Three faults are looked for before anything is printed, in this order".
pub data WhyFront (input : List ℕ) (f : Result ℕ Answer) : Type 0 where
  -- 2: "longer input"
  larger : f ≡ Err (answered too_large) → most_input < length input → WhyFront input f
  -- 3: "a first line otherwise spelt, no input, or k out of range"
  no_opening : f ≡ Err (answered k_outside) → length input ≤ most_input → ((k : ℕ) (rest : List ℕ) → OpensWith input k rest → ⊥) → WhyFront input f
  -- 10 at line 2: "bytes between line 1 and the first letter, or bytes and no letter"
  no_letter : (k : ℕ) (rest : List ℕ) → f ≡ Err (record { number = no_form; line = 2 }) → length input ≤ most_input → OpensWith input k rest
      → 0 < length rest → (LetterFirst rest → ⊥) → WhyFront input f
  -- none of these: a book of that k is opened, with no calls
  alone : (k : ℕ) → f ≡ Ok k → length input ≤ most_input → OpensWith input k [] → WhyFront input f
  -- or with calls
  with_calls : (k : ℕ) (rest : List ℕ) → f ≡ Ok k → length input ≤ most_input → OpensWith input k rest → LetterFirst rest → WhyFront input f
