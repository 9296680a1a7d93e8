-- `section::search` meets its contract: at each turn the entries left decide what the whole search finds. Assumes nothing.
use Rattle.std.proofs.Common.{◌≡◌, ℕ, ◌+◌, ◌*◌, ◌-◌, ◌<◌, List, get_or, take, drop, true, false, refl, sym, ◌∙◌, arith}
use native.Mathlib.Nat.{sub-zero}
use Rattle.std.specs.declared.cmp.Ordering.{Ordering}
use Rattle.std.specs.declared.cmp.Ordering.TheVariants.{Less, Equal, Greater}
use Rattle.std.specs.Ordering.{is_ge, is_eq}
use Rattle.words.specs.Compare.{compare_of}
use Rattle.section.specs.Near.{SearchedTo}
use Rattle.section.proofs.Searches.{Searched, searched_none, searched_room, searched_past, searched_here, searched_above, searched_end, stops_here, stops_between}
use Rattle.section.proofs.search.Goals as goal

-- How the entry at a turn's place stands.
module _ (book key : List ℕ) (from many last at left end : ℕ) (s : Searched book key from many last at left) (more : 0 < left) (ends : end ≡ at + 2 + 2 * get_or book at 0) where
  -- One that is not lower ends the search.
  stops : (o : Ordering) → o ≡ compare_of (take (end - (at + 2)) (drop (at + 2) book)) key → is_ge o ≡ true → SearchedTo book key from many (record { there = is_eq o; last = last; at = at; left = left })
  stops Less e h = cc
  stops Equal e h = stops_here _ _ _ _ _ _ _ s (searched_here _ _ _ _ _ _ _ s end more ends (sym e))
  stops Greater e h = stops_between _ _ _ _ _ _ _ s (searched_above _ _ _ _ _ _ _ s end more ends (sym e))

  -- Past a lower one it goes on.
  goes_on : (o : Ordering) (next : ℕ) → o ≡ compare_of (take (end - (at + 2)) (drop (at + 2) book)) key → is_ge o ≡ false → next ≡ left - 1 → Searched book key from many at end next
  goes_on Less next e h n = rw n (searched_past _ _ _ _ _ _ _ s end more ends (sym e))
  goes_on Equal next e h n = cc
  goes_on Greater next e h n = cc

pub loop-passed-init : goal.loop-passed-init
loop-passed-init c = rw sub-zero (searched_none _ _ _ _ c.requires)

pub past-end-requires : goal.past-end-requires
past-end-requires c = omega (arith, searched_room _ _ _ _ _ _ _ c.loop-passed.invariant _ (omega arith) refl)

pub slice_bounds-standing-end : goal.slice_bounds-standing-end
slice_bounds-standing-end c = omega (arith, searched_room _ _ _ _ _ _ _ c.loop-passed.invariant _ (omega arith) c.past-end.ensures)

pub returns-then-is_ge : goal.returns-then-is_ge
returns-then-is_ge c =
    rw c.is_eq.ensures (stops _ _ _ _ _ _ _ c.past-end.result c.loop-passed.invariant (omega arith) c.past-end.ensures _ c.standing-stands.ensures (sym c.is_ge.ensures ∙ c.if-is_ge.true))

pub loop-passed-preserved : goal.loop-passed-preserved
loop-passed-preserved c =
    goes_on _ _ _ _ _ _ _ c.past-end.result c.loop-passed.invariant (omega arith) c.past-end.ensures _ _ c.standing-stands.ensures (sym c.is_ge.ensures ∙ c.if-is_ge.false) (omega arith)

-- With none left it stops behind the last.
ended : (book key : List ℕ) (from many last at left : ℕ) → Searched book key from many last at left → left ≡ 0 → SearchedTo book key from many (record { there = false; last = last; at = at; left = 0 })
ended book key from many last at left s e = let none : Searched book key from many last at 0 = rw e at s in stops_between _ _ _ _ _ _ _ none (searched_end _ _ _ _ _ _ _ none (omega arith))

pub returns : goal.returns
returns c = ended _ _ _ _ _ _ _ c.loop-passed.invariant (omega arith)
