-- `book_seek::first_unknown` meets its contract: at each line the lines left decide, and at each entry the entries left. Assumes nothing.
use Prim.Native.Nat.{ℕ, ◌+◌, ◌-◌, ◌*◌, ◌/◌, ◌<◌}
use mathlib.Core.List.{List}
use mathlib.Core.Path.{◌≡◌, refl, sym, subst, ◌∙◌}
use native.Mathlib.Omega.{arith}
use lib.ListN.{length, drop}
use Rattle.figures.specs.Numbers.{done}
use Rattle.section.specs.Entries.{entries, look}
use Rattle.section.specs.Near.{place_at}
use Rattle.section.specs.declared.Found.TheVariants.{At, Absent}
use Rattle.section.proofs.Near.{there-told}
use Rattle.section.proofs.Searches.{Searched, searched_none, searched_room, searched_past, searched_here, searched_above, searched_end, searched_stopped}
use Rattle.order.specs.Reading.{cause_of}
use Rattle.book.specs.Book.{Book}
use Rattle.book_judging.specs.Seeking.{unknown_within, key_of, Seeks, JudgedAt, unknown_of}
use Rattle.book_judging.specs.declared.Judgement.{Judgement}
use Rattle.book_judging.specs.declared.Sought.{Sought}
use Rattle.book_judging.proofs.Rounds.{none-judged, unknown-judged, within-last, within-known, within-unknown}
use Rattle.book_seek.proofs.first_unknown.Goals as goal

-- What was sought for a line of the range, and what the search for its words tells.
module _ (b : Book) (ws os : List ℕ) (line to : ℕ) (cut : List ℕ) (r : Sought) (sound : cause_of os ≡ done) (has : line < length os / 2) (more : line < to) (S : Seeks b ws os (line * 2) cut r) (key : List ℕ) (spelt : key ≡ key_of r os cut) where
  -- A part that is there is known.
  goes_on : (at below : ℕ) → look key r.at 0 0 (entries r.many (drop r.at ws)) ≡ At at below → unknown_within b os line to ≡ unknown_within b os (line + 1) to
  goes_on at below told =
      let so = subst (λ (k : List ℕ). look k r.at 0 0 (entries r.many (drop r.at ws)) ≡ At at below) spelt told in
      within-known _ _ _ _ _ _ sound has S to more (there-told _ _ _ S.sorted _ so)

  -- One that is not there is the first unknown one, and is judged so.
  ends : (last at left : ℕ) → look key r.at 0 0 (entries r.many (drop r.at ws)) ≡ Absent at (r.many - left) (place_at key ws last (r.many - left)) (place_at key ws at left)
      → (n : ℕ) → n ≡ unknown_within b os line to → (w : Judgement) → w ≡ unknown_of r key ws (line + 1) last at left → JudgedAt b os n w
  ends last at left told n is w judged =
      let so = subst (λ (k : List ℕ). look k r.at 0 0 (entries r.many (drop r.at ws)) ≡ Absent at (r.many - left) (place_at k ws last (r.many - left)) (place_at k ws at left)) spelt told in
      let judged_so = subst (λ (k : List ℕ). w ≡ unknown_of r k ws (line + 1) last at left) spelt judged in
      let first = is ∙ within-unknown _ _ _ _ _ _ sound has S to more (there-told _ _ _ S.sorted _ so) in
      subst (λ (m : ℕ). JudgedAt b os m w) (sym first) (unknown-judged _ _ _ _ _ _ _ _ _ w S so judged_so)

pub loop-left-init : goal.loop-left-init
loop-left-init c = searched_none _ _ _ _ c.seek-part.ensures.within

pub past-end-requires : goal.past-end-requires
past-end-requires c = omega (arith, searched_room _ _ _ _ _ _ _ c.loop-left.invariant _ c.loop-left-test.true refl)

pub slice_bounds-standing-end : goal.slice_bounds-standing-end
slice_bounds-standing-end c =
    omega (arith, searched_room _ _ _ _ _ _ _ c.loop-left.invariant _ c.loop-left-test.true c.past-end.ensures)

pub loop-left-preserved : goal.loop-left-preserved
loop-left-preserved c =
    searched_past _ _ _ _ _ _ _ c.loop-left.invariant _ c.loop-left-test.true c.past-end.ensures (sym c.standing.ensures ∙ c.in-Less.is)

pub lines-preserved : goal.lines-preserved
lines-preserved c =
    let told = searched_here _ _ _ _ _ _ _ c.loop-left.invariant _ c.loop-left-test.true c.past-end.ensures (sym c.standing.ensures ∙ c.in-Equal.is) in
    c.lines.invariant
    ∙ goes_on _ _ _ _ _ _ _ c.args.lines.now.order.gone_over.sound (omega (arith, c.requires.from_le_to.1)) c.lines-test.true c.seek-part.ensures _ c.key-key.ensures _ _ told

pub unknown-requires : goal.unknown-requires
unknown-requires c = searched_stopped _ _ _ _ _ _ _ c.loop-left.invariant

pub returns-in-Greater : goal.returns-in-Greater
returns-in-Greater c =
    let told = searched_above _ _ _ _ _ _ _ c.loop-left.invariant _ c.loop-left-test.true c.past-end.ensures (sym c.standing.ensures ∙ c.in-Greater.is) in
    ends _ _ _ _ _ _ _ c.args.lines.now.order.gone_over.sound (omega (arith, c.requires.from_le_to.1)) c.lines-test.true c.seek-part.ensures _ c.key-key.ensures _ _ _ told _ c.lines.invariant _ c.unknown.ensures

-- A search that has fewer than one left has none.
all_passed : (book key : List ℕ) (from many last at left : ℕ) → Searched book key from many last at left → left < 1 → Searched book key from many last at 0
all_passed book key from many last at left s h =
    let none : left ≡ 0 = omega arith in
    rw none at s

pub returns-after-loop-left : goal.returns-after-loop-left
returns-after-loop-left c =
    let none = all_passed _ _ _ _ _ _ _ c.loop-left.invariant c.loop-left-test.false in
    let told = searched_end _ _ _ _ _ _ _ none (omega arith) in
    ends _ _ _ _ _ _ _ c.args.lines.now.order.gone_over.sound (omega (arith, c.requires.from_le_to.1)) c.lines-test.true c.seek-part.ensures _ c.key-key.ensures _ _ _ told _ c.lines.invariant _ c.unknown-in-lines.ensures

pub returns-after-lines : goal.returns-after-lines
returns-after-lines c =
    none-judged _ _ _ _ (c.lines.invariant ∙ within-last _ _ _ _ c.args.lines.now.order.gone_over.sound c.lines-test.false) c.plainly.ensures
