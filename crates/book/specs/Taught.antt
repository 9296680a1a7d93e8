-- The book of the orders taught, and a book that agrees with itself (01, "The book"). Assumes nothing: these are definitions.
use Rattle.std.specs.Prelude.{ℕ, ◌+◌, Bool, true, false, List, [], ◌∷◌, eqb}
use Rattle.words.specs.Base.{◌and◌, when◌then◌else◌, same_words}
use Rattle.section.specs.Entries.{Entry, add}
use Rattle.order.specs.Trees.{Tree, words}
use Rattle.order.specs.Reading.{by_found, tree_of}
use Rattle.order.specs.Parts.{top, same_tree, low_parts, middle_parts}
use Rattle.book.specs.Book.{Book}
use Rattle.book.specs.declared.Section.{Section}
use Rattle.book.specs.declared.Section.TheVariants.{Taught, Tops, Lows, Middles}

-- An order and how many of its teachings are live, at least 1.
pub record Teaching : Type 0 where
  pub order : Tree
  pub times : ℕ

-- The book of no orders.
abbrev pub empty_book : ℕ → Book
empty_book k = record { k = k; T = []; R = []; L = []; P = [] }

-- n more of each tree.
unfoldable pub add_each : ℕ → List Tree → List Entry → List Entry
add_each n [] es = es
add_each n (t ∷ ts) es = add n (words t) (add_each n ts es)

-- n teachings of an order: n more of it, and of each of its parts "once per teaching however often it occurs in it".
unfoldable pub taught : ℕ → Tree → Book → Book
taught n t b = record {
  k = b.k;
  T = add n (words t) b.T;
  R = add n (words (top b.k t)) b.R;
  L = add_each n (low_parts b.k t) b.L;
  P = add_each n (middle_parts b.k t) b.P;
}

-- "A book's R, L and P are the tops, low parts and middle parts of the orders taught."
unfoldable pub book_of : ℕ → List Teaching → Book
book_of k [] = empty_book k
book_of k (o ∷ os) = taught o.times o.order (book_of k os)

-- "the number of live teachings whose order has that part": those of the orders that pass the test
unfoldable pub teachings : (Tree → Bool) → List Teaching → ℕ
teachings test [] = 0
teachings test (o ∷ os) = (when test o.order then o.times else 0) + teachings test os

-- Some tree of the list is the same as u.
unfoldable pub any_tree : Tree → List Tree → Bool
any_tree u [] = false
any_tree u (t ∷ ts) = when same_tree t u then true else any_tree u ts

-- The trees that a teaching of an order counts in a section: the order, its top, its low parts, its middle parts.
abbrev pub trees_in : Section → ℕ → Tree → List Tree
trees_in Taught k t = t ∷ []
trees_in Tops k t = top k t ∷ []
trees_in Lows k t = low_parts k t
trees_in Middles k t = middle_parts k t

-- How often n teachings of an order count a tree in a section, each once.
unfoldable pub times_in : Section → ℕ → ℕ → Tree → Tree → ℕ
times_in s k n t u = when any_tree u (trees_in s k t) then n else 0

-- The teachings that a section T counts.
unfoldable pub teachings_in : List Entry → List Teaching
teachings_in [] = []
teachings_in (e ∷ es) =
    by_found (tree_of e.key) (teachings_in es) (λ t. record { order = t; times = e.count } ∷ teachings_in es)

-- Two sections have the same entries, trees and counts.
unfoldable pub same_section : List Entry → List Entry → Bool
same_section [] [] = true
same_section [] (f ∷ fs) = false
same_section (e ∷ es) [] = false
same_section (e ∷ es) (f ∷ fs) = same_words e.key f.key and eqb e.count f.count and same_section es fs

-- Of a book in form: it is one "whose R, L, P are those of its T", trees and counts, so that it "agrees with itself".
unfoldable pub agreeing : Book → Bool
agreeing b =
    let c : Book = book_of b.k (teachings_in b.T) in
    same_section b.R c.R and same_section b.L c.L and same_section b.P c.P
