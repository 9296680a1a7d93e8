-- A book that agrees with itself still does once an order that its T counts is withdrawn, and lacks no part of it (01, "The book"). Assumes
-- nothing.
use mathlib.Core.Path.{◌≡◌, sym, ap, ◌∙◌}
use mathlib.Core.Bool.{true}
use mathlib.Core.List.{List}
use native.Mathlib.Omega.{arith}
use Rattle.figures.specs.Limits.{greatest_depth}
use Rattle.section.specs.Entries.{Entry, has, Sorted, lower}
use Rattle.section.proofs.Sorting.{add-lower}
use Rattle.order.specs.Trees.{Tree, words}
use Rattle.order.specs.Fits.{Fits}
use Rattle.book.specs.Book.{Book, section_of, in_form}
use Rattle.book.specs.Taught.{taught, book_of, teachings_in, agreeing}
use Rattle.book.specs.declared.Section.{Section}
use Rattle.book.specs.declared.Section.TheVariants.{Taught}
use Rattle.book_teaching.specs.Calls.{withdrawn, has_parts}
use Rattle.book.proofs.Sections.{form-sorted}
use Rattle.book.proofs.Agreeing.{TaughtOrders, form-orders, teachings-sorted, agreeing-is, is-agreeing, more_taught}
use Rattle.book_teaching.proofs.Formed.{withdrawn-keeps_form}
use Rattle.book_teaching.proofs.Undoing.{undo}
use Rattle.book_teaching.proofs.Counted.{taught-parts}

module _ (t : Tree) (b : Book) (f : in_form b ≡ true) (l : Fits 0 greatest_depth (words t)) (h : has (words t) b.T ≡ true) (a : agreeing b ≡ true) where
  -- The book of the teachings left once one of the order is withdrawn.
  abbrev left : Book
  left = book_of b.k (teachings_in (lower (words t) b.T))

  -- The T that counts them is in form.
  left_orders : TaughtOrders (lower (words t) b.T)
  unfolding withdrawn
  left_orders = form-orders (withdrawn t b) (withdrawn-keeps_form t b f)

  -- Its sections are sorted.
  left_sorted : (s : Section) → Sorted (section_of s left)
  left_sorted = teachings-sorted b.k (lower (words t) b.T) left_orders

  -- The book is this one with the order taught.
  left_taught : b ≡ taught 1 t left
  unfolding section_of
  left_taught =
      agreeing-is b f a
      ∙ ap (λ (es : List Entry). book_of b.k (teachings_in es)) (sym (add-lower (words t) b.T (form-sorted b f Taught) h))
      ∙ more_taught b.k 1 t (lower (words t) b.T) (omega arith) l left_orders

  -- A book that agrees with itself agrees once an order that has an entry in T is withdrawn.
  pub withdrawn-agrees : agreeing (withdrawn t b) ≡ true
  unfolding withdrawn
  withdrawn-agrees = is-agreeing (withdrawn t b) (ap (withdrawn t) left_taught ∙ undo left left_sorted t)

  -- No part of such an order is missing from a book that agrees with itself.
  pub taught-has_parts : has_parts t b ≡ true
  taught-has_parts = ap (has_parts t) left_taught ∙ taught-parts t left left_sorted
