-- `book_check::sections_agree` meets its contract: a book agrees with itself if its three sections do. Assumes nothing.
use mathlib.Core.Path.{◌≡◌, refl, sym, ◌∙◌}
use Rattle.words.specs.Base.{◌and◌}
use Rattle.words.proofs.Tests.{fails_left, fails_right}
use Rattle.book.specs.Book.{Book, section_of}
use Rattle.book.specs.Taught.{agreeing}
use Rattle.book.specs.declared.Section.TheVariants.{Tops, Lows, Middles}
use Rattle.book_check.specs.Agreeing.{agreeing_in}
use Rattle.book_check.proofs.sections_agree.Goals as goal

-- A book agrees with itself if R, L and P do.
each-agrees : (b : Book) → agreeing b ≡ (agreeing_in Tops b and (agreeing_in Lows b and agreeing_in Middles b))
unfolding agreeing section_of
each-agrees b = refl

pub returns-then-not-section_agrees : goal.returns-then-not-section_agrees
returns-then-not-section_agrees c =
    sym (each-agrees _ ∙ fails_left _ _ (sym c.section_agrees.ensures ∙ c.if-not-section_agrees.true))

pub returns-then-not-section_agrees-2 : goal.returns-then-not-section_agrees-2
returns-then-not-section_agrees-2 c =
    sym (each-agrees _ ∙ fails_right _ _ (fails_left _ _ (sym c.section_agrees-2.ensures ∙ c.if-not-section_agrees-2.true)))

pub returns : goal.returns
unfolding ◌and◌
returns c =
    let tops = sym c.section_agrees.ensures ∙ c.if-not-section_agrees.false in
    let lows = sym c.section_agrees-2.ensures ∙ c.if-not-section_agrees-2.false in
    c.section_agrees-3.ensures ∙ sym (each-agrees _ ∙ rw (tops, lows))
