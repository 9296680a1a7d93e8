-- Inner: no promise rests on these definitions.
-- What is tallied for a section of a book by the orders in its T. Assumes nothing: these are definitions, and that what a struct says
-- of the places of entries has one proof.
use Rattle.std.specs.Coded.{Unit-prop}
use Rattle.std.specs.Ordering.{Ordering-set}
use Rattle.std.proofs.Props.{props}
use Rattle.std.specs.Prelude.{ℕ, Bool, true, List, [], ◌∷◌, length}
use Rattle.words.specs.Base.{◌and◌}
use Rattle.section.specs.Entries.{Entry, Below, Sorted}
use Rattle.section_tally.specs.Tallying.{Indexed, has_all, tallied, marked}
use Rattle.book.specs.Book.{section_of}
use Rattle.book.specs.declared.Section.{Section}
use Rattle.book_listing.specs.Own.{own_of}

-- What one teaching of the order with these words counts in a section.
abbrev pub parts_in : Section → ℕ → List ℕ → List Entry
parts_in s k os = section_of s (own_of k 1 os)

-- All that the orders of a T count in a section has an entry there.
unfoldable pub all_known : Section → ℕ → List Entry → List Entry → Bool
all_known s k [] es = true
all_known s k (t ∷ ts) es = has_all (parts_in s k t.key) es and all_known s k ts es

-- The counts of a section's entries with those by the orders of a T, each as often as it counts.
unfoldable pub tallied_all : Section → ℕ → List Entry → List Entry → List ℕ → List ℕ
tallied_all s k [] es cs = cs
tallied_all s k (t ∷ ts) es cs = tallied_all s k ts es (tallied t.count (parts_in s k t.key) es cs)

-- The marks of a section's entries by the orders of a T, each of which takes its turn: its number is that of the orders left, it among them.
unfoldable pub marked_all : Section → ℕ → List Entry → List Entry → List ℕ → List ℕ
marked_all s k [] es ms = ms
marked_all s k (t ∷ ts) es ms = marked_all s k ts es (marked (length (t ∷ ts)) (parts_in s k t.key) es ms)

-- That a key stands below the first entry has one proof at most.
Below-prop : (key : List ℕ) (es : List Entry) → IsProp (Below key es)
unfolding Below
Below-prop key [] = Unit-prop
Below-prop key (e ∷ es) = Ordering-set _ _

-- That entries are sorted has one proof at most.
Sorted-prop : (es : List Entry) → IsProp (Sorted es)
unfolding Sorted
Sorted-prop [] = Unit-prop
Sorted-prop (e ∷ es) = Prim.hlevel (Below-prop e.key es, Sorted-prop es, props)

-- That places are those of entries has one proof at most.
pub Indexed-prop : (starts ws : List ℕ) → IsProp (Indexed starts ws)
Indexed-prop starts ws = Prim.hlevel (Sorted-prop, props)
