-- What is meant by a number in decimal without leading zeros, said of any bytes. Assumes nothing: these are definitions.
use Rattle.std.specs.Prelude.{ℕ, ◌+◌, ◌*◌, Bool, true, false, not, List, [], ◌∷◌, eqb}
use Rattle.words.specs.Base.{◌and◌}
use Rattle.form.specs.Text.{digit_0}
use Rattle.form.specs.Reading.{is_digit, figure}

-- Every byte is a decimal digit.
unfoldable pub all_digits : List ℕ → Bool
all_digits [] = true
all_digits (d ∷ ds) = is_digit d and all_digits ds

-- The number that decimal digits stand for behind others, which stand for `before`: each digit makes ten times as much of those before it.
unfoldable pub number_behind : ℕ → List ℕ → ℕ
number_behind before [] = before
number_behind before (d ∷ ds) = number_behind (10 * before + figure d) ds

-- The number that decimal digits stand for, read from the first on.
abbrev pub value_of : List ℕ → ℕ
value_of ds = number_behind 0 ds

-- "without leading zeros": there is a byte, and the first of several is not that of 0.
unfoldable pub no_leading_zero : List ℕ → Bool
no_leading_zero [] = false
no_leading_zero (d ∷ []) = true
no_leading_zero (d ∷ e ∷ ds) = not (eqb d digit_0)
