-- A section of the book (01, "The book"): counted entries, their words, the entries that words hold, where one stands, and the edits of
-- teaching and withdrawing. A key is a tree's words; that it is a tree is not known here. Assumes nothing: these are definitions.
use Rattle.std.specs.declared.cmp.Ordering.{Ordering}
use Rattle.std.specs.declared.cmp.Ordering.TheVariants.{Less, Equal, Greater}
use Rattle.std.specs.Prelude.{ℕ, zero, suc, ◌+◌, ◌*◌, ◌-◌, ◌/◌, ◌≤◌, Bool, true, false, List, [], ◌∷◌, ◌++◌, ◌≡◌, leb, length, get_or, take, drop}
use Rattle.words.specs.Base.{when◌then◌else◌, same_words}
use Rattle.words.specs.Compare.{compare_of, ◌≺◌, signed_of, size_of}
use Rattle.section.specs.declared.Found.{Found}
use Rattle.section.specs.declared.Found.TheVariants.{At, Absent}

-- A key and how often it counts.
pub record Entry : Type 0 where
  pub key : List ℕ
  pub count : ℕ

-- An entry of a key and a count.
abbrev pub counted : List ℕ → ℕ → Entry
counted key n = record { key = key; count = n }

-- ---- to words

-- "An entry is: number of nodes, count (1 to 65,535), the tree's words." A node has two words.
abbrev pub entry_words : Entry → List ℕ
entry_words e = (length e.key / 2) ∷ e.count ∷ e.key

-- The words of a section: its entries one after the other.
unfoldable pub section_words : List Entry → List ℕ
section_words [] = []
section_words (e ∷ es) = entry_words e ++ section_words es

-- Each key has two words a node, so that the entries can be read back from their words.
unfoldable pub Even : List Entry → Type 0
Even [] = Unit {0}
Even (e ∷ es) = (2 * (length e.key / 2) ≡ length e.key) × Even es

-- ---- from words, whatever they are

-- How many words the first entry takes, by its number of nodes.
abbrev pub width : List ℕ → ℕ
width ws = 2 + 2 * get_or ws 0 0

-- The first entry.
abbrev pub first_entry : List ℕ → Entry
first_entry ws = counted (take (2 * get_or ws 0 0) (drop 2 ws)) (get_or ws 1 0)

-- The first n entries.
unfoldable pub entries : ℕ → List ℕ → List Entry
entries zero ws = []
entries (suc n) ws = first_entry ws ∷ entries n (drop (width ws) ws)

-- How many words the first n entries take.
unfoldable pub span : ℕ → List ℕ → ℕ
span zero ws = 0
span (suc n) ws = width ws + span n (drop (width ws) ws)

-- ---- what a section says of a key

-- Some entry has the key.
unfoldable pub has : List ℕ → List Entry → Bool
has key [] = false
has key (e ∷ es) = when same_words e.key key then true else has key es

-- What an entry counts for a key.
unfoldable pub counts_for : List ℕ → Entry → ℕ
counts_for key e = when same_words e.key key then e.count else 0

-- How often a key counts: 0 where no entry has it.
unfoldable pub count_of : List ℕ → List Entry → ℕ
count_of key [] = 0
count_of key (e ∷ es) = counts_for key e + count_of key es

-- "the sum of the counts"
unfoldable pub total : List Entry → ℕ
total [] = 0
total (e ∷ es) = e.count + total es

-- ---- ascending keys

-- The key stands below the first entry's, if there is one.
unfoldable pub Below : List ℕ → List Entry → Type 0
Below key [] = Unit {0}
Below key (e ∷ es) = key ≺ e.key

-- "In a section the trees ascend strictly, compared word by word from the first"; and every count is at least 1.
unfoldable pub Sorted : List Entry → Type 0
Sorted [] = Unit {0}
Sorted (e ∷ es) = (1 ≤ e.count) × Below e.key es × Sorted es

-- ---- edits

-- One of three, by how one key stands to another.
abbrev pub by_compared : {A : Type 0} → Ordering → A → A → A → A
by_compared Less a b c = a
by_compared Equal a b c = b
by_compared Greater a b c = c

-- "the place of the first differing word" of an entry's tree and a key, counted from 1 over the tree's words; 0 where they are the same.
abbrev pub place_in : List ℕ → Entry → ℕ
place_in key e = size_of (signed_of e.key key)

-- What a search finds that ends at the first entry not below the key: where the key's entry stands or would stand, if the first entry stands at
-- word `at`, how many stand below it, if n stand before the first, and the places of its neighbours, if p is the place of the one before the
-- first.
unfoldable pub look : List ℕ → ℕ → ℕ → ℕ → List Entry → Found
look key at n p [] = Absent at n p 0
look key at n p (e ∷ es) =
    by_compared (compare_of e.key key) (look key (at + (2 + length e.key)) (suc n) (place_in key e) es) (At at n) (Absent at n p (place_in key e))

-- n more of a key: "raises each count" or "enters the part".
unfoldable pub add : ℕ → List ℕ → List Entry → List Entry
add n key [] = counted key n ∷ []
add n key (e ∷ es) =
    by_compared (compare_of e.key key) (e ∷ add n key es) (counted e.key (e.count + n) ∷ es) (counted key n ∷ e ∷ es)

-- An entry more, unless its key has one: "once per teaching however often it occurs in it".
unfoldable pub add_once : Entry → List Entry → List Entry
add_once e es = when has e.key es then es else add e.count e.key es

-- One less of an entry: "takes out an entry that comes to 0".
abbrev pub lessened : Entry → List Entry → List Entry
lessened e es = when leb e.count 1 then es else counted e.key (e.count - 1) ∷ es

-- One less of a key; nothing changes where it has no entry.
unfoldable pub lower : List ℕ → List Entry → List Entry
lower key [] = []
lower key (e ∷ es) = by_compared (compare_of e.key key) (e ∷ lower key es) (lessened e es) (e ∷ es)
