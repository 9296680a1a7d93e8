-- How many lines a text has, and how many the desk prints for what is handed in (01, "Forms on the desk": "one line for the opening … and one for
-- each form"). Assumes nothing: these are definitions.
use Rattle.std.specs.Prelude.{ℕ, suc, ◌≡◌, List, [], ◌∷◌, ◌++◌, eqb, length}
use Rattle.words.specs.Base.{when◌then◌else◌}
use Rattle.form.specs.Text.{line_feed}
use Rattle.desk_input.specs.Sheets.{Handed, faulty, handed}

-- How many of the bytes are LF.
unfoldable pub feeds : List ℕ → ℕ
feeds [] = 0
feeds (b ∷ bs) = when eqb b line_feed then suc (feeds bs) else feeds bs

-- "LF at the end": the last byte is LF.
pub record EndsLine (text : List ℕ) : Type 0 where
  pub front : List ℕ
  pub is : text ≡ front ++ (line_feed ∷ [])

-- One line for a fault, or one for the opening and one for each call.
abbrev pub lines_due : Handed → ℕ
lines_due (faulty a) = 1
lines_due (handed k calls) = suc (length calls)
