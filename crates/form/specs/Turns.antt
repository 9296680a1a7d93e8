-- Inner: no promise rests on these definitions.
-- What the inner functions of reading and writing give, in the terms that the code has at hand. Assumes nothing: these are definitions.
use Rattle.std.specs.Prelude.{ℕ, suc, ◌+◌, ◌*◌, ◌-◌, ◌≤◌, ◌<◌, ◌≡◌, Bool, true, not, List, [], ◌∷◌, leb, ltb, eqb, length, take, get_or, set, Err, Ok, Result}
use Rattle.form.specs.declared.reading.Fault.{Fault}
use Rattle.form.specs.declared.reading.Node.{Node}
use Rattle.words.specs.Base.{when◌then◌else◌, within}
use Rattle.figures.specs.Limits.{most_nodes, most_words, most_children, greatest_depth}
use Rattle.figures.specs.Numbers.{done}
use Rattle.figures.specs.Answers.{refused_at, wrote}
use Rattle.order.specs.Reading.{by_order, order_of}
use Rattle.figures.specs.declared.Written.{Written}
use Rattle.form.specs.Text.{Line, lines_of}
use Rattle.form.specs.Reading.{spelt_of, by_line, Form, fault, form, words_of_lines}
use Rattle.form.specs.declared.reading.Fault.TheVariants.{PastLast, NoOption, LevelNotAllowed, TooDeep, NinthChild}

-- ---- reading

-- A line of that level may follow, where `greatest` is the greatest level allowed: 0 for line 1, otherwise the previous plus 1.
unfoldable pub follows : ℕ → ℕ → Bool
follows greatest level = when eqb greatest 0 then eqb level 0 else within 1 greatest level

-- A line's faults that can be told without its siblings, behind n lines.
unfoldable pub next_of : ℕ → ℕ → List ℕ → Result Node Fault
next_of n greatest bytes =
    when leb most_nodes n then Err PastLast else
    by_line (spelt_of bytes) (λ level code size.
    when eqb code 0 then Err NoOption else
    when not (follows greatest level) then Err LevelNotAllowed else
    when ltb greatest_depth level then Err TooDeep else
    Ok (record { level = level; code = code; size = size })) Err

-- Where the parent of a line of that level has its number of children.
abbrev pub count_place : List ℕ → ℕ → ℕ
count_place latest level = 2 * get_or latest (level - 1) 0 + 1

-- What counting a child asks for: words for a whole order, a place for each level, a level within the depth, and, but for line 1, a
-- parent that has a place among the words.
abbrev pub Parent : List ℕ → List ℕ → ℕ → Type 0
Parent words latest level = (length words ≡ most_words) × (length latest ≡ suc greatest_depth) × (level ≤ greatest_depth)
    × (0 < level → get_or latest (level - 1) 0 < most_nodes)

-- The parent, if there is one, may have a child more.
unfoldable pub may_adopt : List ℕ → List ℕ → ℕ → Bool
may_adopt words latest level =
    when eqb level 0 then true else
    ltb (get_or words (count_place latest level) 0) most_children

-- The words, with a child more under the parent if it may have one.
unfoldable pub adopted : List ℕ → List ℕ → ℕ → List ℕ
adopted words latest level =
    when eqb level 0 then words else
    when ltb (get_or words (count_place latest level) 0) most_children
    then set words (count_place latest level) (get_or words (count_place latest level) 0 + 1)
    else words

-- What counting a line asks for, if it is a node.
abbrev pub Parents : Result Node Fault → List ℕ → List ℕ → Type 0
Parents (Ok node) words latest = Parent words latest node.level
Parents (Err f) words latest = Unit {0}

-- A node whose parent may have no child more is a ninth child.
unfoldable pub under_parent : List ℕ → List ℕ → Result Node Fault → Result Node Fault
under_parent words latest (Ok node) = when may_adopt words latest node.level then Ok node else Err NinthChild
under_parent words latest (Err f) = Err f

-- The words, with a node counted under its parent.
unfoldable pub counted_in : List ℕ → List ℕ → Result Node Fault → List ℕ
counted_in words latest (Ok node) = adopted words latest node.level
counted_in words latest (Err f) = words

-- What reading the lines answers, with their words at the front of w.
abbrev pub Got : Form → Written → List ℕ → Type 0
Got (fault n line) r w = (r ≡ refused_at n line) × (n ≡ done → ⊥)
Got (form xs) r w = (r ≡ wrote done (length (words_of_lines xs))) × (take (length (words_of_lines xs)) w ≡ words_of_lines xs)

-- ---- writing

-- The lines of an order; none where the words are no order.
unfoldable pub lines_in : List ℕ → List Line
lines_in ws = by_order (order_of ws) (λ n. []) (λ t. lines_of t 0)

-- The levels of lines, in their order.
unfoldable pub levels_of : List Line → List ℕ
levels_of [] = []
levels_of (x ∷ xs) = x.level ∷ levels_of xs

-- Each of the lines has a level of one digit.
abbrev pub ShortLines : List Line → Type 0
ShortLines xs = (i : ℕ) → i < length xs → get_or (levels_of xs) i 0 < 10
