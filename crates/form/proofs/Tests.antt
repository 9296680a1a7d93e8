-- Lines without fault by the tests with which a text is read. Inner: no promise rests on it; proofs/Rows.antt shows that these lines are those of
-- specs/Faults.antt. Assumes nothing: these are definitions.
use Prim.Native.Nat.{ℕ, ◌≤◌, ◌<◌}
use mathlib.Core.Path.{◌≡◌}
use mathlib.Core.Bool.{true}
use mathlib.Core.List.{List, [], ◌∷◌}
use Rattle.figures.specs.Limits.{least_code, greatest_code, most_children, greatest_depth}
use Rattle.form.specs.Text.{Line}
use Rattle.form.specs.Reading.{allowed, siblings}

-- A line of that level and code passes each test behind those before it, which are listed the last first.
pub record Passes (before : List Line) (level code : ℕ) : Type 0 where
  pub option : least_code ≤ code
  pub follows : allowed level before ≡ true
  pub shallow : level ≤ greatest_depth
  pub child : siblings level before < most_children

-- Each line has a code of four digits, and passes behind those before it.
abbrev pub AllPass : List Line → List Line → Type 0
AllPass before [] = Unit {0}
AllPass before (x ∷ xs) = (x.code ≤ greatest_code) × Passes before x.level x.code × AllPass (x ∷ before) xs

-- Each line passes behind those before it; they are listed the last first.
abbrev pub Passed : List Line → Type 0
Passed [] = Unit {0}
Passed (x ∷ before) = Passes before x.level x.code × Passed before
