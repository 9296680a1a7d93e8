-- `section_change::enter_once` meets its contract: what the search finds says whether the entry is entered, and where. Assumes nothing.
use Prim.Native.Nat.{ℕ, ◌*◌, ◌-◌, ◌≤◌}
use mathlib.Core.Path.{◌≡◌, ap, subst, ◌∙◌}
use mathlib.Core.List.{List, ◌++◌}
use native.Mathlib.Omega.{arith}
use lib.ListN.{length, get_or, take, drop, length-drop}
use Rattle.words.proofs.Shifts.{tail_all, tail_back}
use Rattle.section.specs.Entries.{first_entry, entries, look}
use Rattle.section.specs.Near.{place_at, SearchedTo}
use Rattle.section.specs.declared.Found.TheVariants.{Absent}
use Rattle.section.proofs.Searches.{told_here, told-between}
use Rattle.section.specs.Entries.{width}
use Rattle.section.specs.declared.Stop.{Stop}
use Rattle.section_change.specs.Editing.{Laid}
use mathlib.Core.Bool.{false}
use borrow.Author.Rules.{rules}
use Rattle.section_change.proofs.Once.{laid-few, gap_within, spelt-entry, once_found, once_entered}
use Rattle.section_change.proofs.enter_once.Goals as goal

-- The search was for the entry's key.
searched : (part entry : List ℕ) (many : ℕ) (s : Stop) → width entry ≡ length entry → SearchedTo part (take (length entry - 2) (drop 2 entry)) 0 many s → SearchedTo part (first_entry entry).key 0 many s
searched part entry many s w h =
    let key : length entry - 2 ≡ 2 * get_or entry 0 0 = omega arith in subst (λ (m : ℕ). SearchedTo part (take m (drop 2 entry)) 0 many s) key h

-- Where it has not found that, the key has its place there.
gap : (part entry : List ℕ) (many : ℕ) (s : Stop) → width entry ≡ length entry → SearchedTo part (take (length entry - 2) (drop 2 entry)) 0 many s → s.there ≡ false
    → let key = (first_entry entry).key in look key 0 0 0 (entries many part) ≡ Absent s.at (many - s.left) (place_at key part s.last (many - s.left)) (place_at key part s.at s.left)
gap part entry many s w h e = told-between _ _ _ _ _ (searched part entry many s w h) e

-- And the place lies within the words that are used.
within : (part entry : List ℕ) (many used : ℕ) (s : Stop) → Laid part many used → width entry ≡ length entry → SearchedTo part (take (length entry - 2) (drop 2 entry)) 0 many s → s.there ≡ false → s.at ≤ used
within part entry many used s l w h e = gap_within part many used l _ _ _ _ _ (gap part entry many s w h e)

pub returns-then-stop : goal.returns-then-stop
returns-then-stop c =
    let x = c.args in
    once_found x.part.now x.many x.used c.requires.laid.0 (first_entry x.entry.now) c.requires.laid.1 _ _ (told_here _ _ _ _ _ (searched _ _ _ _ c.requires.value.0 c.search-stop.ensures) c.if-stop.true)

pub offset_bounds-part-at : goal.offset_bounds-part-at
offset_bounds-part-at c = omega (arith, within _ _ _ _ _ c.requires.laid.0 c.requires.value.0 c.search-stop.ensures c.if-stop.false, c.requires.laid.0.room)

pub slice_bounds-enter-count : goal.slice_bounds-enter-count
slice_bounds-enter-count c = omega (arith, within _ _ _ _ _ c.requires.laid.0 c.requires.value.0 c.search-stop.ensures c.if-stop.false, c.requires.laid.0.room)

pub slice_bounds-enter-start : goal.slice_bounds-enter-start
slice_bounds-enter-start c = omega (arith, within _ _ _ _ _ c.requires.laid.0 c.requires.value.0 c.search-stop.ensures c.if-stop.false, c.requires.laid.0.room)

pub overflow_sub-used : goal.overflow_sub-used
overflow_sub-used c = within _ _ _ _ _ c.requires.laid.0 c.requires.value.0 c.search-stop.ensures c.if-stop.false

pub enter-requires : goal.enter-requires
enter-requires c =
    let low = within _ _ _ _ _ c.requires.laid.0 c.requires.value.0 c.search-stop.ensures c.if-stop.false in
    rw (tail_all c.search-stop.result.at c.args.part.now (omega (arith, c.requires.laid.0.room)), length-drop) (omega (arith, c.requires.value.1))

pub overflow_add-result-2 : goal.overflow_add-result-2
overflow_add-result-2 c = omega (arith, laid-few c.args.part.now c.args.many c.args.used c.requires.laid.0)

pub returns : goal.returns
returns c =
    let part = c.args.part.now in
    let at = c.search-stop.result.at in
    let low = within _ _ _ _ _ c.requires.laid.0 c.requires.value.0 c.search-stop.ensures c.if-stop.false in
    let inside : at ≤ length part = omega (arith, c.requires.laid.0.room) in
    let entered = rw (tail_all at part inside) at c.enter.ensures in
    once_entered part c.args.many c.args.used c.requires.laid.0 (first_entry c.args.entry.now) c.requires.laid.1 at _ _ _ c.args.entry.now _ (gap _ _ _ _ c.requires.value.0 c.search-stop.ensures c.if-stop.false) (spelt-entry c.args.entry.now c.requires.value.0) c.requires.value.1
    (tail_back at part inside c.enter.new.part ∙ ap (λ (l : List ℕ). take at part ++ l) entered)
    (search rules)
