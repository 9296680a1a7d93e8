-- Inner: no promise rests on these definitions.
-- What one pass over the words of a section finds, by the definitions of a book in form. Assumes nothing: these are definitions.
use Rattle.std.specs.Prelude.{ℕ, zero, suc, ◌+◌, Bool, true, List, [], ◌∷◌, leb, eqb, length, get_or, drop, None, Option, Some}
use Rattle.book.specs.declared.Stretch.{Stretch}
use Rattle.book.specs.declared.Whole.{Whole}
use Rattle.words.specs.Base.{◌and◌, when◌then◌else◌}
use Rattle.words.specs.Compare.{before}
use Rattle.figures.specs.Limits.{used_word, live_word}
use Rattle.section.specs.Entries.{first_entry, entries, width, span, total}
use Rattle.book.specs.Book.{entry_in_form}

-- The entry at a word, if all its words are there.
unfoldable pub whole_at : List ℕ → ℕ → Option Whole
whole_at ws at =
    when leb (at + width (drop at ws)) (length ws)
    then Some (record { end = at + width (drop at ws); count = get_or ws (at + 1) 0 })
    else None

-- n whole entries in form at the front of the words, ascending from the words `last` on.
unfoldable pub run : ℕ → ℕ → List ℕ → ℕ → List ℕ → Bool
run least greatest last zero ws = true
run least greatest last (suc n) ws =
    leb (width ws) (length ws) and entry_in_form least greatest (first_entry ws) and before last (first_entry ws).key
    and run least greatest (first_entry ws).key n (drop (width ws) ws)

-- What is found of n entries at the front of the words, which stand at word `at`, past entries with this sum of counts.
unfoldable pub stretch : ℕ → ℕ → List ℕ → ℕ → ℕ → ℕ → List ℕ → Option Stretch
stretch least greatest last at sum n ws =
    when run least greatest last n ws then Some (record { end = at + span n ws; sum = sum + total (entries n ws) }) else None

-- What is found of the section of n entries that stands at word `from`.
unfoldable pub stretch_of : List ℕ → ℕ → ℕ → ℕ → ℕ → Option Stretch
stretch_of ws from n least greatest = stretch least greatest [] from 0 n (drop from ws)

-- Every word is zero.
unfoldable pub zeros : List ℕ → Bool
zeros [] = true
zeros (x ∷ xs) = eqb x 0 and zeros xs

-- The head says how many teachings are live and how many words are used, and the words past these are zero.
unfoldable pub head_of : List ℕ → ℕ → ℕ → Bool
head_of ws live used = eqb live (get_or ws live_word 0) and eqb used (get_or ws used_word 0) and zeros (drop used ws)
