-- What a book has once an order is taught: an entry of each tree that the teaching counts, and no fewer words. Assumes nothing.
use Prim.Native.Nat.{◌≤◌}
use mathlib.Core.Path.{◌≡◌, refl}
use mathlib.Core.Bool.{true}
use mathlib.Core.List.Memᴰ.{head as here}
use native.Mathlib.Omega.{arith}
use Rattle.words.specs.Base.{◌∈◌}
use Rattle.words.proofs.Tests.{and_both}
use Rattle.section.specs.Entries.{has, count_of, Sorted}
use Rattle.section.proofs.Counts.{counts-has}
use Rattle.order.specs.Trees.{Tree, words}
use Rattle.order.specs.Parts.{top, low_parts, middle_parts}
use Rattle.book.specs.Book.{Book, section_of, used}
use Rattle.book.specs.Taught.{taught, trees_in}
use Rattle.book.specs.declared.Section.{Section}
use Rattle.book.specs.declared.Section.TheVariants.{Taught, Tops, Lows, Middles}
use Rattle.book.proofs.Teachings.{times-counted, count-after_taught, taught-in_order}
use Rattle.book_teaching.specs.Calls.{has_parts}
use Rattle.book_teaching.proofs.Adds.{each-has, used-taught}

module _ (t : Tree) (b : Book) (sorted : (s : Section) → Sorted (section_of s b)) where
  -- Each tree that the teaching counts in a section has an entry there.
  taught-entry : (s : Section) (u : Tree) → u ∈ trees_in s b.k t → has (words u) (section_of s (taught 1 t b)) ≡ true
  taught-entry s u m =
      let some : 1 ≤ count_of (words u) (section_of s (taught 1 t b)) = omega (arith, count-after_taught 1 t u b s, times-counted s b.k 1 t u m) in
      counts-has (words u) (section_of s (taught 1 t b)) (taught-in_order 1 t b (omega arith) sorted s) some

  -- The order has an entry in T.
  pub taught-has : has (words t) (taught 1 t b).T ≡ true
  unfolding section_of
  taught-has = taught-entry Taught t (here refl)

  -- No part of it is missing.
  pub taught-parts : has_parts t (taught 1 t b) ≡ true
  unfolding section_of has_parts taught
  taught-parts =
      and_both (taught-entry Tops (top b.k t) (here refl))
      (and_both (each-has (low_parts b.k t) _ (taught-entry Lows)) (each-has (middle_parts b.k t) _ (taught-entry Middles)))

  -- It uses no fewer words.
  pub taught-uses : used b ≤ used (taught 1 t b)
  taught-uses = omega (arith, used-taught t b sorted)
