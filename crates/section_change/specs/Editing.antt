-- Inner: no promise rests on these definitions but on `fitting`, with which 7 is said.
-- A section changed by another one, whose keys ascend as well: what the other adds to it, what it takes from it, and what it would enter;
-- and the words of a lent part whose first entries are changed. Assumes nothing: these are definitions.
use Rattle.std.specs.declared.cmp.Ordering.{Ordering}
use Rattle.std.specs.declared.cmp.Ordering.TheVariants.{Greater}
use Rattle.std.specs.Prelude.{ℕ, ◌+◌, ◌*◌, ◌-◌, ◌≤◌, Bool, true, false, List, [], ◌∷◌, ◌++◌, ◌≡◌, leb, length, get_or, set, take, drop, replicate}
use Rattle.words.specs.Base.{◌and◌, when◌then◌else◌}
use Rattle.words.specs.Compare.{compare_of}
use Rattle.figures.specs.Limits.{greatest_count}
use Rattle.section.specs.Entries.{Entry, section_words, span, has, count_of, add, lower}
use Rattle.section_change.specs.declared.Size.{Size}
use Rattle.section_change.specs.declared.Weighed.{Weighed}
use Rattle.section_change.specs.declared.Lessened.{Lessened}

-- ---- entries

-- Each of the other's entries more: a count that both have is raised by the other's, and an entry that is lacking is entered.
unfoldable pub add_all : List Entry → List Entry → List Entry
add_all [] es = es
add_all (o ∷ os) es = add o.count o.key (add_all os es)

-- One less of each of the other's keys.
unfoldable pub lower_all : List Entry → List Entry → List Entry
lower_all [] es = es
lower_all (o ∷ os) es = lower o.key (lower_all os es)

-- "count (1 to 65,535)": every count is at most 65,535.
unfoldable pub fitting : List Entry → Bool
fitting [] = true
fitting (e ∷ es) = leb e.count greatest_count and fitting es

-- How many words the entries take that the section lacks.
unfoldable pub lacking_words : List Entry → List Entry → ℕ
lacking_words [] es = 0
lacking_words (o ∷ os) es = (when has o.key es then 0 else 2 + length o.key) + lacking_words os es

-- "a touched count would pass 65,535"
unfoldable pub overfull : List Entry → List Entry → Bool
overfull [] es = false
overfull (o ∷ os) es = when leb (count_of o.key es + o.count) greatest_count then overfull os es else true

-- What the other's entries would do to the section.
abbrev pub weighed : List Entry → List Entry → Weighed
weighed os es = record { lacking = lacking_words os es; overfull = overfull os es }

-- How the first entry stands to a key; as higher where there is none.
abbrev pub first_against : List ℕ → List Entry → Ordering
first_against key [] = Greater
first_against key (e ∷ es) = compare_of e.key key

-- ---- words

-- The first n entries stand within the first `used` words, and past those all words are zero.
pub record Laid (ws : List ℕ) (n used : ℕ) : Type 0 where
  pub within : span n ws ≤ used
  pub room : used ≤ length ws
  pub zeros : drop used ws ≡ replicate (length ws - used) 0

-- Words, and then zeros up to so many.
unfoldable pub padded : ℕ → List ℕ → List ℕ
padded n ws = ws ++ replicate (n - length ws) 0

-- The words with other entries for the first n: what stands behind these, up to `used`, moves along, and then come zeros.
unfoldable pub relaid : ℕ → ℕ → List Entry → List ℕ → List ℕ
relaid n used es ws = padded (length ws) (section_words es ++ take (used - span n ws) (drop (span n ws) ws))

-- The words now are those with other entries for the first n, and the size says how many words are used then and how many entries there are.
pub record Edited (ws : List ℕ) (n used : ℕ) (es : List Entry) (now : List ℕ) (size : Size) : Type 0 where
  pub words : now ≡ relaid n used es ws
  pub uses : size.used ≡ length (section_words es) + (used - span n ws)
  pub counts : size.many ≡ length es

-- How many words and entries a list has.
abbrev pub extent_of : List Entry → Size
extent_of es = record { used = length (section_words es); many = length es }

-- ---- a gap in the words

-- The words once those from `kept` up to `at` have moved down to `to`.
abbrev pub brought : ℕ → ℕ → ℕ → List ℕ → List ℕ
brought to kept at ws = take to ws ++ (take (at - kept) (drop kept ws) ++ drop (to + (at - kept)) ws)

-- The words once an entry's words are written behind these.
abbrev pub entered : ℕ → ℕ → ℕ → List ℕ → List ℕ → List ℕ
entered to kept at entry ws = take to ws ++ (take (at - kept) (drop kept ws) ++ (entry ++ drop (to + (at - kept) + length entry) ws))

-- The words once the entry at `at` has one less: if it comes to 0 those from `kept` up to it have moved down to `to`.
unfoldable pub lessened_words : ℕ → ℕ → ℕ → List ℕ → List ℕ
lessened_words to kept at ws = when leb (get_or ws (at + 1) 0) 1 then brought to kept at ws else set ws (at + 1) (get_or ws (at + 1) 0 - 1)

-- The gap then, which holds the entry if it comes to 0, the word past the entry, and how many entries were taken out.
unfoldable pub lessened_by : ℕ → ℕ → ℕ → List ℕ → Lessened
lessened_by to kept at ws =
    when leb (get_or ws (at + 1) 0) 1 then record { to = to + (at - kept); kept = at + 2 + 2 * get_or ws at 0; next = at + 2 + 2 * get_or ws at 0; out = 1 }
    else record { to = to; kept = kept; next = at + 2 + 2 * get_or ws at 0; out = 0 }
