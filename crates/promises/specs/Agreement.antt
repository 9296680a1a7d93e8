-- What it is that a book agrees with itself, by document 000's parts, apart from the test `agreeing` (01, "The book"). Assumes nothing: these are
-- definitions.
use Rattle.std.specs.Prelude.{ℕ, ◌+◌, ◌-◌, List, [], ◌∷◌}
use Rattle.section.specs.Entries.{Entry, count_of}
use Rattle.order.specs.Trees.{Tree, words}
use Rattle.order.specs.Paper.{IsR, IsL, IsP}
use Rattle.book.specs.Book.{Book}
use Rattle.promises.specs.Remaining.{HasPart}

-- The counts of the entries whose words have a property come to so many.
pub data CountsOf (Q : List ℕ → Type 0) : List Entry → ℕ → Type 0 where
  no_entry : CountsOf Q [] 0
  counts : {e : Entry} {es : List Entry} {n : ℕ} → Q e.key → CountsOf Q es n → CountsOf Q (e ∷ es) (e.count + n)
  counts_not : {e : Entry} {es : List Entry} {n : ℕ} → (Q e.key → ⊥) → CountsOf Q es n → CountsOf Q (e ∷ es) n

-- "A count in R, L or P is the number of live teachings whose order has that part": of each tree, and 0 where none has it, so that R, L and P
-- "are those of its T".
pub record Agrees (b : Book) : Type 0 where
  pub tops : (u : Tree) → CountsOf (HasPart (IsR (b.k - 1)) u) b.T (count_of (words u) b.R)
  pub lows : (u : Tree) → CountsOf (HasPart (IsL (b.k - 1)) u) b.T (count_of (words u) b.L)
  pub middles : (u : Tree) → CountsOf (HasPart (IsP b.k) u) b.T (count_of (words u) b.P)
