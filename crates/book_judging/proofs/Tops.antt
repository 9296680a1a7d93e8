-- The order's top, written to a scratch and looked up in R. Assumes nothing.
use Prim.Native.Nat.{ℕ, ◌-◌, ◌/◌, ◌<◌}
use mathlib.Core.Path.{◌≡◌, ◌∙◌}
use mathlib.Core.List.{List}
use native.Mathlib.Nat.{sub-zero}
use native.Mathlib.Omega.{arith}
use lib.ListN.{length, get_or, take, drop}
use Rattle.words.specs.Base.{over}
use Rattle.section.specs.Entries.{entries, look}
use Rattle.section.specs.Near.{near_in}
use Rattle.section.proofs.Near.{near-is}
use Rattle.order.specs.Trees.{Tree, words}
use Rattle.order.specs.Reading.{by_order, found}
use Rattle.order.specs.Parts.{top}
use Rattle.order.specs.Standing.{cut_of}
use Rattle.order.proofs.Causes.{Passed}
use Rattle.order.proofs.Orders.{some-lines}
use Rattle.order.proofs.Lines.{cut-spot}
use Rattle.order.proofs.LineCuts.{line-lent}
use Rattle.book.specs.Book.{section_of}
use Rattle.book.specs.Decoding.{book_in}
use Rattle.book.specs.Holding.{Holds}
use Rattle.book.specs.declared.Places.{Places}
use Rattle.book.specs.declared.Section.TheVariants.{Tops}
use Rattle.book_judging.specs.Seeking.{top_near}
use Rattle.book_judging.specs.Expecting.{near_top}
use Rattle.order.proofs.Spots.{two_words-a_line, top-spot}

-- The order's tree.
module _ (os : List ℕ) (t : Tree) (p : Passed os t) where
  -- The order has a first line.
  pub first-line : 0 < length os / 2
  first-line = omega (arith, two_words-a_line os t p, some-lines t)

  -- Cut at k-2, the words that were written are those of the top.
  pub top_key : (d k n : ℕ) (old cut : List ℕ) → d ≡ k - 2 → n ≡ length (cut_of os 0 d) → cut ≡ over (cut_of os 0 d) old → take n cut ≡ words (top k t)
  unfolding top
  top_key d k n old cut e f g = rw sub-zero at (line-lent (cut_of os 0 d) old cut n f g) ∙ cut-spot os 0 (found t) (top-spot os t p) d ∙ rw e

-- What a search for the top among the entries of R says of its neighbours.
pub top-found : (ws os : List ℕ) (p : Places) (t : Tree) → Holds ws p → Passed os t → (key : List ℕ) (n : ℕ) → key ≡ words (top p.k.k t) → n ≡ get_or ws 4 0
    → near_in (look key p.tops 0 0 (entries n (drop p.tops ws))) ≡ top_near (book_in ws) os
unfolding top_near near_top by_order section_of
top-found ws os p t H q key n is many =
    let S = H.section Tops in
    rw (q.is, is, many, S.are, H.depth) (near-is (words (top (book_in ws).k t)) p.tops (book_in ws).R S.sorted)
