-- `book_change::lacking_parts` meets its contract: what each section lacks is little, and the sum of the three is what is asked. Assumes nothing.
use native.Mathlib.Omega.{arith}
use Rattle.book.specs.declared.Section.TheVariants.{Tops, Lows, Middles}
use Rattle.book_change.proofs.Weights.{weighed-few, parts-weighed}
use Rattle.book_change.proofs.lacking_parts.Goals as goal

pub overflow_add-result : goal.overflow_add-result
overflow_add-result c =
    let h = c.requires.holds_2 in
    omega (arith, weighed-few _ _ h Tops _ _ c.weigh_section-tops.ensures, weighed-few _ _ h Lows _ _ c.weigh_section-lows.ensures)

pub overflow_add-result-2 : goal.overflow_add-result-2
overflow_add-result-2 c =
    let h = c.requires.holds_2 in
    omega (arith, weighed-few _ _ h Tops _ _ c.weigh_section-tops.ensures, weighed-few _ _ h Lows _ _ c.weigh_section-lows.ensures, weighed-few _ _ h Middles _ _ c.weigh_section-middles.ensures)

pub returns : goal.returns
returns c =
    parts-weighed _ _ _ _ _ c.weigh_section-tops.ensures c.weigh_section-lows.ensures c.weigh_section-middles.ensures
