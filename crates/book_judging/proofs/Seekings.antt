-- What the code seeks for a line is the part of its subtree, in the words of its section. Assumes nothing.
use Prim.Native.Nat.{ℕ, ◌+◌, ◌-◌, ◌*◌, ◌/◌, ◌≤◌, ◌<◌}
use mathlib.Core.Path.{◌≡◌, ap, sym, ◌∙◌}
use mathlib.Core.Bool.{Bool, true, false}
use mathlib.Core.List.{List}
use native.Mathlib.Omega.{arith}
use lib.Dec.{leb}
use lib.ListN.{length, get_or, length-append}
use Rattle.words.specs.Base.{when◌then◌else◌, over}
use Rattle.order.specs.Trees.{Tree, words}
use Rattle.order.specs.Reading.{found}
use Rattle.order.specs.Parts.{is_low, middle, part_of}
use Rattle.order.specs.Standing.{tree_from, cut_of}
use Rattle.order.specs.Spans.{GoneOver}
use Rattle.order.proofs.Lines.{from_spot, cut-spot}
use Rattle.order.proofs.LineCuts.{line-lent}
use Rattle.order.proofs.LineSpans.{span-end, span-low}
use Rattle.book.specs.Book.{section_of}
use Rattle.book.specs.Decoding.{book_in}
use Rattle.book.specs.declared.Places.{Places}
use Rattle.book.specs.declared.Section.TheVariants.{Lows, Middles}
use Rattle.book.specs.Holding.{Holds}
use Rattle.book_judging.specs.Seeking.{Seeks}
use Rattle.order.proofs.Spots.{LineAt, spot_within, spot_words}

-- The part of a low subtree is the subtree.
low-tree : (k : ℕ) (s : Tree) → is_low k s ≡ true → (part_of k s).tree ≡ s
unfolding part_of when◌then◌else◌
low-tree k s e = rw e

-- The part of any other subtree is its cut.
middle-tree : (k : ℕ) (s : Tree) → is_low k s ≡ false → (part_of k s).tree ≡ middle k s
unfolding part_of when◌then◌else◌
middle-tree k s e = rw e

-- A line of an order that was gone over, and a book in form.
module _ (ws os ss : List ℕ) (p : Places) (line : ℕ) (H : Holds ws p) (G : GoneOver os ss) (c : LineAt os line) where
  -- The order has the line.
  has-line : line < length os / 2
  has-line = omega (arith, c.lies)

  -- The tree of the line.
  here-is : tree_from os (line * 2) ≡ found c.spot.tree
  here-is = from_spot os (line * 2) _ c.spot

  -- Its words end where the line past its subtree begins.
  ends : get_or ss (line * 2) 0 * 2 ≡ line * 2 + length (words c.spot.tree)
  ends = span-end os ss G line c.spot.tree has-line here-is

  -- That is within the order.
  pub end-within : get_or ss (line * 2) 0 * 2 ≤ length os
  end-within = omega (arith, ends, c.lies, spot_within os (line * 2) _ c.spot (omega (arith, c.lies)))

  -- What is read of its depth tells whether it stands for a low part.
  low-is : (x : Bool) → leb (get_or ss (line * 2 + 1) 0) (p.k.k - 2) ≡ x → is_low (book_in ws).k c.spot.tree ≡ x
  low-is x e = rw (← H.depth) (sym (span-low os ss G p.k.k line c.spot.tree has-line here-is) ∙ e)

  -- A low part is sought in L, where it lies in the order.
  pub seeks_low : (e n : ℕ) (cut : List ℕ) → leb (get_or ss (line * 2 + 1) 0) (p.k.k - 2) ≡ true → e ≡ get_or ss (line * 2) 0 * 2 → n ≡ get_or ws 5 0
      → Seeks (book_in ws) ws os (line * 2) cut (record { low = true; from = line * 2; to = e; at = p.lows; many = n })
  unfolding section_of
  seeks_low e n cut f g m =
      let s = c.spot.tree in
      let low = low-is true f in
      let S = H.section Lows in
      record {
        tree = s;
        here = here-is;
        kind = sym low;
        key = spot_words os (line * 2) _ c.spot e (g ∙ ends) ∙ ap words (sym (low-tree (book_in ws).k s low));
        forward = omega (arith, g, ends);
        lies = omega (arith, g, end-within);
        among = rw m S.are;
        sorted = rw m (rw S.are S.sorted);
        within = rw m S.within;
      }

  -- A middle part is sought in P, from the words of its cut.
  pub seeks_middle : (a n d : ℕ) (old cut : List ℕ) → leb (get_or ss (line * 2 + 1) 0) (p.k.k - 2) ≡ false → n ≡ get_or ws 6 0 → d ≡ p.k.k - 1 → a ≡ length (cut_of os (line * 2) d)
      → cut ≡ over (cut_of os (line * 2) d) old → Seeks (book_in ws) ws os (line * 2) cut (record { low = false; from = 0; to = a; at = p.middles; many = n })
  unfolding section_of middle
  seeks_middle a n d old cut f m g long o =
      let s = c.spot.tree in
      let low = low-is false f in
      let S = H.section Middles in
      let new : cut_of os (line * 2) d ≡ words (middle p.k.k s) = cut-spot os (line * 2) _ c.spot d ∙ rw g in
      record {
        tree = s;
        here = here-is;
        kind = sym low;
        key = line-lent (cut_of os (line * 2) d) old cut a long o ∙ new ∙ rw H.depth (ap words (sym (middle-tree (book_in ws).k s low)));
        forward = omega arith;
        lies = rw (o, long) (simp length-append (omega arith));
        among = rw m S.are;
        sorted = rw m (rw S.are S.sorted);
        within = rw m S.within;
      }
