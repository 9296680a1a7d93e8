-- What the desk prints for a call (01, "Forms on the desk"): numbers in decimal, and the line of an answer. Assumes nothing: these are definitions.
use Rattle.std.specs.Prelude.{ℕ, zero, suc, ◌+◌, ◌*◌, ◌/◌, List, [], ◌∷◌, ◌++◌, eqb}
use Rattle.words.specs.Base.{when◌then◌else◌}
use Rattle.figures.specs.declared.Answer.{Answer}
use Rattle.form.specs.Text.{digit_0, digit, space, line_feed}

-- ---- numbers

-- The last decimal digits of a number, so many of them.
unfoldable pub last_digits : ℕ → ℕ → List ℕ
last_digits zero n = []
last_digits (suc many) n = last_digits many (n / 10) ++ (digit n ∷ [])

-- "without leading zeros": the last digit stays, be it 0 or not.
unfoldable pub without_zeros : List ℕ → List ℕ
without_zeros [] = []
without_zeros (d ∷ []) = d ∷ []
without_zeros (d ∷ e ∷ ds) = when eqb d digit_0 then without_zeros (e ∷ ds) else d ∷ e ∷ ds

-- No number of 64 bits has more decimal digits.
abbrev pub most_digits : ℕ
most_digits = 20

-- "in decimal without leading zeros"
unfoldable pub decimal : ℕ → List ℕ
decimal n = without_zeros (last_digits most_digits n)

-- ---- lines

-- A number on its line: "one space between".
unfoldable pub field : ℕ → List ℕ
field n = space ∷ decimal n

-- "letter, answer, line, words used, in decimal without leading zeros, one space between, LF at the end"
unfoldable pub reply : ℕ → Answer → ℕ → List ℕ
reply letter a used = letter ∷ (field a.number ++ (field a.line ++ (field used ++ (line_feed ∷ []))))

-- Room for any line: its letter, three numbers with a space before each, and LF.
abbrev pub reply_room : ℕ
reply_room = 3 * most_digits + 5
