-- The text of a form (01, "Order form text"): its bytes, its lines, and the lines of a tree. Assumes nothing: these are definitions.
use Rattle.std.specs.Prelude.{ℕ, suc, ◌+◌, ◌/◌, ◌%◌, List, [], ◌∷◌, ◌++◌, ltb}
use Rattle.words.specs.Base.{when◌then◌else◌}
use Rattle.order.specs.Trees.{Tree, node, Forest, bare, cons}

-- ---- bytes

-- The byte of the digit 0.
abbrev pub digit_0 : ℕ
digit_0 = 48

-- The byte of the digit 9.
abbrev pub digit_9 : ℕ
digit_9 = 57

-- The byte of a space.
abbrev pub space : ℕ
space = 32

-- The byte LF, which ends a line.
abbrev pub line_feed : ℕ
line_feed = 10

-- The byte of a number's last decimal digit.
abbrev pub digit : ℕ → ℕ
digit n = digit_0 + n % 10

-- ---- lines

-- A line of a form says a node's level and its code.
pub record Line : Type 0 where
  pub level : ℕ
  pub code : ℕ

-- "One line per node in preorder": the lines of a tree whose top has that level.
unfoldable mutual
  pub lines_of : Tree → ℕ → List Line
  lines_of (node c f) l = record { level = l; code = c } ∷ lines_f f (suc l)

  pub lines_f : Forest → ℕ → List Line
  lines_f bare l = []
  lines_f (cons t f) l = lines_of t l ++ lines_f f l

-- ---- the bytes of lines

-- "Level is one digit, or two of which the first is not 0."
unfoldable pub level_text : ℕ → List ℕ
level_text l = when ltb l 10 then digit l ∷ [] else digit (l / 10) ∷ digit l ∷ []

-- "one space, exactly four decimal digits, LF"
unfoldable pub code_text : ℕ → List ℕ
code_text c = space ∷ digit (c / 1000) ∷ digit (c / 100) ∷ digit (c / 10) ∷ digit c ∷ line_feed ∷ []

-- How many bytes follow a level on its line.
abbrev pub code_size : ℕ
code_size = 6

-- The bytes of one line.
unfoldable pub line_text : Line → List ℕ
line_text x = level_text x.level ++ code_text x.code

-- The bytes of lines, one after the other.
unfoldable pub spell : List Line → List ℕ
spell [] = []
spell (x ∷ xs) = line_text x ++ spell xs

-- "the only text of an order": its lines, with the top at level 0.
unfoldable pub text_of : Tree → List ℕ
text_of t = spell (lines_of t 0)
