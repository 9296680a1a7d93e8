-- `book_change::weigh_book`: what each section lacks is little, and the four sections together are what is asked. Assumes nothing.
use Rattle.std.proofs.Common.{arith}
use Rattle.book.specs.declared.Section.TheVariants.{Taught, Tops, Lows, Middles}
use Rattle.book_change.proofs.Weights.{weighed-few, book-weighed}
use Rattle.book_change.proofs.weigh_book.Goals as goal

pub overflow_add-lacking : goal.overflow_add-lacking
overflow_add-lacking c = let h = c.requires.holds_2 in omega (arith, weighed-few _ _ h Tops _ _ c.weigh_section-tops.ensures, weighed-few _ _ h Lows _ _ c.weigh_section-lows.ensures)

pub overflow_add-lacking-2 : goal.overflow_add-lacking-2
overflow_add-lacking-2 c =
    let h = c.requires.holds_2 in
    omega (arith, weighed-few _ _ h Tops _ _ c.weigh_section-tops.ensures, weighed-few _ _ h Lows _ _ c.weigh_section-lows.ensures, weighed-few _ _ h Middles _ _ c.weigh_section-middles.ensures)

pub overflow_add-lacking-3 : goal.overflow_add-lacking-3
overflow_add-lacking-3 c =
    let h = c.requires.holds_2 in
    omega (arith, weighed-few _ _ h Taught _ _ c.weigh_section-taught.ensures, weighed-few _ _ h Tops _ _ c.weigh_section-tops.ensures, weighed-few _ _ h Lows _ _ c.weigh_section-lows.ensures, weighed-few _ _ h Middles _ _ c.weigh_section-middles.ensures)

pub returns : goal.returns
returns c = book-weighed _ _ _ _ _ _ c.weigh_section-taught.ensures c.weigh_section-tops.ensures c.weigh_section-lows.ensures c.weigh_section-middles.ensures
