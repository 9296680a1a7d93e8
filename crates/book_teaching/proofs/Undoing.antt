-- Withdrawing undoes a teaching, and how often each tree counts in each section once an order is withdrawn. Assumes nothing.
use Prim.Native.Nat.{◌-◌}
use mathlib.Core.Path.{◌≡◌, refl, ap, ◌∙◌}
use mathlib.Core.List.{List, []}
use native.Mathlib.Omega.{arith}
use Rattle.order.specs.Trees.{Tree, words}
use Rattle.section.specs.Entries.{Entry, count_of, Sorted}
use Rattle.section.proofs.Sorting.{same-counts}
use Rattle.book.specs.Book.{Book, section_of}
use Rattle.book.specs.Taught.{add_each, taught, trees_in, times_in}
use Rattle.book.specs.declared.Section.{Section}
use Rattle.book.proofs.Taught.{count-each, sorted-each}
use Rattle.book_teaching.specs.Calls.{lower_each, withdrawn}
use Rattle.book.proofs.Sections.{same_books}
use Rattle.book.proofs.Teachings.{taught-section, trees-once, count-each_apart}
use Rattle.book_teaching.proofs.Adds.{withdrawn-section, sorted-lower_each, count-lower_each}

-- One less of each tree undoes one more of each.
lower-add_each : (ts : List Tree) (es : List Entry) → Sorted es → lower_each ts (add_each 1 ts es) ≡ es
lower-add_each ts es s =
    let more : Sorted (add_each 1 ts es) = sorted-each 1 ts es (omega arith) s in
    same-counts _ _ (sorted-lower_each ts _ more) s (λ z. omega (arith, count-lower_each z ts (add_each 1 ts es) more, count-each_apart 1 z ts es))

module _ (b : Book) (sorted : (s : Section) → Sorted (section_of s b)) where
  -- Withdrawing an order undoes a teaching of it.
  pub undo : (t : Tree) → withdrawn t (taught 1 t b) ≡ b
  unfolding taught withdrawn
  undo t = same_books _ b refl (λ s.
      withdrawn-section t (taught 1 t b) s ∙ ap (lower_each (trees_in s b.k t)) (taught-section 1 t b s) ∙ lower-add_each (trees_in s b.k t) (section_of s b) (sorted s))

-- Withdrawing an order counts one less for each tree that a teaching of it counts, down to 0, and the same for others.
pub count-after_withdrawn : (t u : Tree) (b : Book) (s : Section) → Sorted (section_of s b)
    → count_of (words u) (section_of s (withdrawn t b)) ≡ count_of (words u) (section_of s b) - times_in s b.k 1 t u
unfolding times_in count_of
count-after_withdrawn t u b s sorted =
    let ts : List Tree = trees_in s b.k t in
    ap (count_of (words u)) (withdrawn-section t b s)
    ∙ omega (arith, count-lower_each (words u) ts (section_of s b) sorted, count-each 1 u ts [] (trees-once b.k t s))
