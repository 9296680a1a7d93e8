-- What a book's words and counts are, and what one teaching more makes of them, said without the functions that find and change them (01, "The
-- book"). Assumes nothing: these are definitions.
use Rattle.std.specs.Prelude.{ℕ, suc, ◌-◌, ◌<◌, ◌≡◌, List, [], ◌∷◌, length, take, drop}
use Rattle.section.specs.Entries.{Entry, section_words, count_of}
use Rattle.order.specs.Trees.{Tree, words}
use Rattle.order.specs.Paper.{IsR, IsL, IsP}
use Rattle.book.specs.Book.{Book, live}

-- "compared word by word from the first": the first word in which two differ is less in the lower one, or the lower one ends there.
pub data LowerThan : List ℕ → List ℕ → Type 0 where
  ends_first : {y : ℕ} {ys : List ℕ} → LowerThan [] (y ∷ ys)
  less : {x y : ℕ} {xs ys : List ℕ} → x < y → LowerThan (x ∷ xs) (y ∷ ys)
  same_word : {x y : ℕ} {xs ys : List ℕ} → x ≡ y → LowerThan xs ys → LowerThan (x ∷ xs) (y ∷ ys)

-- The words of a section's entries stand in a slice from a place on.
abbrev pub StandsAt : List ℕ → ℕ → List Entry → Type 0
StandsAt ws at es = take (length (section_words es)) (drop at ws) ≡ section_words es

-- One section counts one more than another for each tree of a kind, and as many for every other tree.
abbrev pub OneMore : (Tree → Type 0) → List Entry → List Entry → Type 0
OneMore Kind old new =
    (u : Tree) → (Kind u → count_of (words u) new ≡ suc (count_of (words u) old)) × ((Kind u → ⊥) → count_of (words u) new ≡ count_of (words u) old)

-- "Teaching raises each count by one or enters the part with count 1. Withdrawing lowers each by one and takes out an entry that comes to 0. Both
-- raise or lower word 2": one book has one teaching of an order more than another, in T, and in R, L and P for its r, each of its l and each of
-- its p, "once per teaching however often it occurs in it".
pub record OneTeachingMore (t : Tree) (old new : Book) : Type 0 where
  pub depth : new.k ≡ old.k
  pub lives : live new ≡ suc (live old)
  pub taught : OneMore (λ u. u ≡ t) old.T new.T
  pub tops : OneMore (IsR (old.k - 1) t) old.R new.R
  pub lows : OneMore (IsL (old.k - 1) t) old.L new.L
  pub middles : OneMore (IsP old.k t) old.P new.P
