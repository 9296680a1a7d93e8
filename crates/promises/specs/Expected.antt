-- What a book says of a part's neighbours, and what judging hands on of them (02, "Say what the book expected"), by relations apart from the
-- tests of `near_of` and `expected_of`. That these give exactly what is said here is shown in proofs/Expected.antt. Assumes nothing: these are
-- definitions.
use Rattle.std.specs.Prelude.{ℕ, ◌-◌, ◌≡◌, true, false, List}
use Rattle.words.specs.Base.{◌∈◌}
use Rattle.words.specs.Differences.{FirstDiffers, IsLower}
use Rattle.figures.specs.Numbers.{top_unknown, low_unknown, middle_unknown}
use Rattle.figures.specs.declared.Answer.{Answer}
use Rattle.section.specs.Entries.{Entry}
use Rattle.section.specs.Near.{nowhere}
use Rattle.section.specs.declared.Neighbours.{Neighbours}
use Rattle.order.specs.Trees.{Tree, words}
use Rattle.order.specs.Paper.{IsR}
use Rattle.book_judging.specs.Verdicts.{TopUnknown, LowUnknown, MiddleUnknown}
use Rattle.promises.specs.Remaining.{HowMany}

-- Some entry of the section has the key.
pub record HasKey (key : List ℕ) (es : List Entry) : Type 0 where
  pub entry : Entry
  pub there : entry ∈ es
  pub same : entry.key ≡ key

-- "for the last entry below .. the place of the first differing word, 0 where there is no such entry": the last is the greatest of those that are
-- lower.
pub data PlaceBelow (key : List ℕ) (es : List Entry) (place : ℕ) : Type 0 where
  none_below : place ≡ 0 → ((e : Entry) → e ∈ es → IsLower e.key key → ⊥) → PlaceBelow key es place
  last_below : (e : Entry) → e ∈ es → IsLower e.key key → ((f : Entry) → f ∈ es → IsLower f.key key → IsLower e.key f.key → ⊥)
      → FirstDiffers e.key key place → PlaceBelow key es place

-- ".. and the first above": the least of those that are higher.
pub data PlaceAbove (key : List ℕ) (es : List Entry) (place : ℕ) : Type 0 where
  none_above : place ≡ 0 → ((e : Entry) → e ∈ es → IsLower key e.key → ⊥) → PlaceAbove key es place
  first_above : (e : Entry) → e ∈ es → IsLower key e.key → ((f : Entry) → f ∈ es → IsLower key f.key → IsLower f.key e.key → ⊥)
      → FirstDiffers e.key key place → PlaceAbove key es place

-- "whether it is there", "and 0 for both when the part is there"
pub data PartStands (key : List ℕ) (es : List Entry) (r : Neighbours) : Type 0 where
  it_is_there : HasKey key es → r.there ≡ true → r.low ≡ 0 → r.high ≡ 0 → PartStands key es r
  it_is_not : (HasKey key es → ⊥) → r.there ≡ false → PlaceBelow key es r.low → PlaceAbove key es r.high → PartStands key es r

-- What a section says of a key: "how many entries stand below it", and the rest.
pub record IsNear (key : List ℕ) (es : List Entry) (r : Neighbours) : Type 0 where
  pub below : HowMany (λ e. IsLower e.key key) es r.below
  pub stands : PartStands key es r

-- What judging hands on with an answer: "for the reported line, and for the top with answer 20; with any other answer it is all 0 and not there".
pub data Expected (ws os : List ℕ) (a : Answer) (r : Neighbours) : Type 0 where
  -- 20: the order's r of index k-1, in R
  of_top : a.number ≡ top_unknown → (u : TopUnknown ws os a.line)
      → ((c : Tree) → IsR (u.lent.book.k - 1) u.lent.tree c → IsNear (words c) u.lent.book.R r) → Expected ws os a r
  -- 21: the reported line's subtree, in L
  of_low : a.number ≡ low_unknown → (u : LowUnknown ws os a.line) → IsNear (words u.subtree) u.lent.book.L r → Expected ws os a r
  -- 22: the r of index k of the reported line's subtree, in P
  of_middle : a.number ≡ middle_unknown → (u : MiddleUnknown ws os a.line)
      → ((c : Tree) → IsR u.lent.book.k u.subtree c → IsNear (words c) u.lent.book.P r) → Expected ws os a r
  -- any other
  of_none : (a.number ≡ top_unknown → ⊥) → (a.number ≡ low_unknown → ⊥) → (a.number ≡ middle_unknown → ⊥) → r ≡ nowhere → Expected ws os a r
