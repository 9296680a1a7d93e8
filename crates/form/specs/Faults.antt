-- The rows for 2 and 10 of 01's table for a text that has bytes, by lines and their text alone, apart from the tests by which a text is
-- read; no bytes at all, the last cause of 10, is the first clause of `form_of`. That a refusal is given exactly by these rows is shown in
-- proofs/FirstFault.antt, and that a text without fault is read exactly by them in proofs/Rows.antt. Assumes nothing: these are definitions.
use Rattle.std.specs.Prelude.{ℕ, suc, ◌+◌, ◌≤◌, ◌<◌, ◌≡◌, List, [], ◌∷◌, ◌++◌, reverse, length}
use Rattle.figures.specs.Limits.{least_code, greatest_code, most_nodes, most_children, greatest_depth}
use Rattle.figures.specs.Numbers.{too_large, no_form}
use Rattle.form.specs.Text.{Line, line_text, spell}

-- ---- which level may follow, and which lines are children of which; lines before a line are listed the last first

-- "Line 1 has level 0; a later level is 1 to the previous plus 1."
pub data MayFollow (level : ℕ) : List Line → Type 0 where
  first : level ≡ 0 → MayFollow level []
  later : {x : Line} {xs : List Line} → 1 ≤ level → level ≤ x.level + 1 → MayFollow level (x ∷ xs)

-- Lines that all lie below a line of level l, so many of which are its children: those that are one level deeper than it.
pub data ChildrenOf (l : ℕ) : List Line → ℕ → Type 0 where
  no_lines : ChildrenOf l [] 0
  child : {x : Line} {xs : List Line} {n : ℕ} → x.level ≡ l + 1 → ChildrenOf l xs n → ChildrenOf l (x ∷ xs) (suc n)
  deeper : {x : Line} {xs : List Line} {n : ℕ} → l + 1 < x.level → ChildrenOf l xs n → ChildrenOf l (x ∷ xs) n

-- The lines that follow are none, or begin at that level or above.
pub data NoDeeper (l : ℕ) : List Line → Type 0 where
  no_more : NoDeeper l []
  back_up : {x : Line} {xs : List Line} → x.level ≤ l → NoDeeper l (x ∷ xs)

-- Of the lines behind a line of level l, those below it come first, and so many of them are its children.
pub record ChildrenBehind (l : ℕ) (behind : List Line) (n : ℕ) : Type 0 where
  pub below : List Line
  pub rest : List Line
  pub split : behind ≡ below ++ rest
  pub children : ChildrenOf l below n
  pub ends : NoDeeper l rest

-- So many lines before have the same parent as a line of that level. "One line per node in preorder": the parent is the last line before
-- whose level is one less, and all lines between the two lie below the parent; line 1 has none.
pub data Siblings (level : ℕ) (before : List Line) (n : ℕ) : Type 0 where
  no_parent : before ≡ [] → n ≡ 0 → Siblings level before n
  under : (parent : Line) (between front : List Line) → before ≡ between ++ (parent ∷ front) → level ≡ parent.level + 1
      → ChildrenOf parent.level between n → Siblings level before n

-- ---- lines without fault

-- A line of that level and code may stand behind those before it: it is none of "code 0000, a level not allowed", "its level over 12", "a
-- ninth child".
pub record Fine (before : List Line) (level code : ℕ) : Type 0 where
  pub option : least_code ≤ code
  pub follows : MayFollow level before
  pub shallow : level ≤ greatest_depth
  pub many : ℕ
  pub siblings : Siblings level before many
  pub few : many < most_children

-- Each line has a code of four digits, and may stand behind those before it.
abbrev pub Legal : List Line → List Line → Type 0
Legal before [] = Unit {0}
Legal before (x ∷ xs) = (x.code ≤ greatest_code) × Fine before x.level x.code × Legal (x ∷ before) xs

-- ---- a line at fault

-- "one digit, or two": the greatest level that a line can spell.
abbrev pub greatest_level : ℕ
greatest_level = 99

-- The bytes begin with the text of a line that can be spelt.
pub record Spelt (s : List ℕ) (x : Line) : Type 0 where
  pub behind : List ℕ
  pub is : s ≡ line_text x ++ behind
  pub short : x.level ≤ greatest_level
  pub small : x.code ≤ greatest_code

-- Why the line at the front of rest is refused by n, behind the lines before, which are listed the last first.
pub data Why (before : List Line) (rest : List ℕ) (n : ℕ) : Type 0 where
  -- 2: "text past line 64", whatever stands there
  past : n ≡ too_large → length before ≡ most_nodes → Why before rest n
  -- 10: "a line misspelt": the bytes begin with the text of no line
  misspelt : n ≡ no_form → length before < most_nodes → ((x : Line) → Spelt rest x → ⊥) → Why before rest n
  -- 10: "code 0000"
  no_option : n ≡ no_form → length before < most_nodes → (x : Line) → Spelt rest x → x.code ≡ 0 → Why before rest n
  -- 10: "a level not allowed"
  not_allowed : n ≡ no_form → length before < most_nodes → (x : Line) → Spelt rest x → least_code ≤ x.code → (MayFollow x.level before → ⊥)
      → Why before rest n
  -- 2: "its level over 12"
  too_deep : n ≡ too_large → length before < most_nodes → (x : Line) → Spelt rest x → least_code ≤ x.code → MayFollow x.level before
      → greatest_depth < x.level → Why before rest n
  -- 10: "a ninth child": its parent has eight already
  ninth_child : n ≡ no_form → length before < most_nodes → (x : Line) → Spelt rest x → least_code ≤ x.code → MayFollow x.level before
      → x.level ≤ greatest_depth → Siblings x.level before most_children → Why before rest n

-- "the first line at fault": the text is that of lines without fault, and of a rest whose first line is refused by n.
pub record FirstFault (s : List ℕ) (n line : ℕ) : Type 0 where
  pub before : List Line
  pub rest : List ℕ
  pub text : s ≡ spell before ++ rest
  pub legal : Legal [] before
  pub some : 0 < length rest
  pub place : line ≡ suc (length before)
  pub why : Why (reverse before) rest n
