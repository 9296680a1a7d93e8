-- `section_tally::find_entry` meets its contract: the entry in the middle tells on which side of it the key can stand. Assumes nothing.
use Rattle.std.proofs.Common.{rules, ◌≡◌, ℕ, ◌+◌, ◌-◌, ◌/◌, ◌<◌, [], List, length, get_or, drop, sym, ap, ◌∙◌, arith}
use Rattle.std.specs.declared.cmp.Ordering.{Ordering}
use Rattle.words.specs.Compare.{compare_of}
use Rattle.section.specs.Entries.{Entry, counted, first_entry}
use Rattle.section_tally.specs.Tallying.{listed}
use Rattle.section_tally.proofs.Starts.{length-listed, listed_at, place-filled}
use Rattle.section_tally.proofs.Tallies.{key_at, Between, between_all, between_none, between_lower, between_higher, between_found}
use Rattle.section_tally.proofs.find_entry.Goals as goal

-- The entry in the middle is one of those listed.
middle-listed : (key starts book : List ℕ) (low high : ℕ) → Between key (listed starts book) low high → low < high → low + (high - low) / 2 < length starts
middle-listed key starts book low high b h = omega (arith, b.within, length-listed starts book)

pub loop-low-init : goal.loop-low-init
loop-low-init c =
    let x = c.args in
    rw (← length-listed x.starts.now x.book.now) (between_all x.key.now (listed x.starts.now x.book.now))

pub offset_bounds-starts-mid : goal.offset_bounds-starts-mid
offset_bounds-starts-mid c = let l = middle-listed _ _ _ _ _ c.loop-low.invariant c.loop-low-test.true in search rules

pub bounds-starts-mid : goal.bounds-starts-mid
bounds-starts-mid c = middle-listed _ _ _ _ _ c.loop-low.invariant c.loop-low-test.true

pub against-requires-clause-book_in_bounds : goal.against-requires-clause-book_in_bounds
against-requires-clause-book_in_bounds c = c.requires.within _ (middle-listed _ _ _ _ _ c.loop-low.invariant c.loop-low-test.true)

pub against-requires-clause-in_bounds : goal.against-requires-clause-in_bounds
against-requires-clause-in_bounds c = (place-filled _ _ c.requires _ (middle-listed _ _ _ _ _ c.loop-low.invariant c.loop-low-test.true), c.first-first.ensures)

-- How the key of a listed entry stands is how that of the words at its place does.
stands : (key starts book : List ℕ) (i : ℕ) (o : Ordering) → i < length starts → o ≡ compare_of (first_entry (drop (get_or starts i 0) book)).key key → compare_of (key_at (listed starts book) i) key ≡ o
stands key starts book i o h e = ap (λ (e : Entry). compare_of e.key key) (listed_at starts book i (counted [] 0) h) ∙ sym e

pub loop-low-preserved-in-Less : goal.loop-low-preserved-in-Less
loop-low-preserved-in-Less c =
    let l = middle-listed _ _ _ _ _ c.loop-low.invariant c.loop-low-test.true in
    between_lower _ _ c.requires.sorted _ _ _ c.loop-low.invariant (omega arith) (omega arith) (stands _ _ _ _ _ l c.in-Less.ensures)

pub returns-in-Equal : goal.returns-in-Equal
returns-in-Equal c =
    let l = middle-listed _ _ _ _ _ c.loop-low.invariant c.loop-low-test.true in
    sym (between_found _ _ c.requires.sorted _ _ _ c.loop-low.invariant (omega arith) (omega arith) (stands _ _ _ _ _ l c.in-Equal.ensures))

pub loop-low-preserved : goal.loop-low-preserved
loop-low-preserved c =
    let l = middle-listed _ _ _ _ _ c.loop-low.invariant c.loop-low-test.true in
    between_higher _ _ c.requires.sorted _ _ _ c.loop-low.invariant (omega arith) (omega arith) (stands _ _ _ _ _ l c.in-Greater.ensures)

pub returns : goal.returns
returns c = sym (between_none _ _ _ _ c.loop-low.invariant c.loop-low-test.false)
