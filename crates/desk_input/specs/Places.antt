-- Inner: no promise rests on these definitions but on `letter_at`, with which a letter line in front is said.
-- What the inner functions find in the input, in the terms that the code has at hand. Assumes nothing: these are definitions.
use Rattle.std.specs.Prelude.{ℕ, suc, Bool, true, false, List, [], ◌∷◌, eqb, None, Option, Some}
use Rattle.desk_input.specs.declared.Letter.{Letter}
use Rattle.figures.specs.declared.depths.Depth.{Depth}
use Rattle.words.specs.Base.{◌and◌, when◌then◌else◌}
use Rattle.form.specs.Text.{line_feed}
use Rattle.desk_input.specs.Sheets.{FirstLine, otherwise, asks, first_line, letter_of}

-- What the line at the front of the bytes asks for, if it is a letter line.
unfoldable pub letter_at : List ℕ → Option Letter
letter_at (b ∷ e ∷ rest) = when eqb e line_feed then letter_of b else None
letter_at [] = None
letter_at (b ∷ []) = None

-- Whether it is one.
abbrev pub is_asking : Option Letter → Bool
is_asking (Some x) = true
is_asking None = false

-- How many bytes stand before the next letter line, or to the end; whether a line starts at the first of them is told.
unfoldable pub size_to : Bool → List ℕ → ℕ
size_to starts [] = 0
size_to starts (b ∷ bs) = when starts and is_asking (letter_at (b ∷ bs)) then 0 else suc (size_to (eqb b line_feed) bs)

-- The k of a first line.
abbrev pub depth_by : FirstLine → Option Depth
depth_by otherwise = None
depth_by (asks k rest) = Some (record { k = k })

-- The k that line 1 asks for.
unfoldable pub depth_on : List ℕ → Option Depth
depth_on input = depth_by (first_line input)
