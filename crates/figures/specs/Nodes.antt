-- What can be a node (01, "Orders"). Assumes nothing: this is a definition.
use Rattle.std.specs.Prelude.{ℕ, Bool, leb}
use Rattle.words.specs.Base.{◌and◌, within}
use Rattle.figures.specs.Limits.{least_code, greatest_code, most_children}

-- "an option code 1 to 9999, then its number of children 0 to 8"
unfoldable pub sound_node : ℕ → ℕ → Bool
sound_node c n = within least_code greatest_code c and leb n most_children
