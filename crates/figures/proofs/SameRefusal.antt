-- Refusals are told apart by their numbers, and from 0. Assumes nothing.
use Rattle.std.proofs.Common.{ℕ, ◌≡◌, eqb, cond, refl, sym, ap, ◌∙◌}
use Rattle.figures.specs.Numbers.{done, no_order, too_large, k_outside, book_size, not_in_form, no_room, too_many, not_taught, not_agreeing, no_form, short_output, no_mark, other_version, no_stored_book, other_k, no_image, two_images}
use Rattle.figures.specs.Refusals.{refusal_number}
use Rattle.figures.specs.declared.refusals.Refusal.{Refusal}
use Rattle.figures.specs.declared.refusals.Refusal.TheVariants.{NoOrder, TooLarge, KOutside, BookSize, NotInForm, NoRoom, TooMany, NotTaught, NotAgreeing, NoForm, ShortOutput, NoMark, OtherVersion, NoStoredBook, OtherK, NoImage, TwoImages, NoRules}

-- The refusal of a number.
abbrev refusal_of : ℕ → Refusal
refusal_of n =
    cond (eqb n no_order) NoOrder
    (cond (eqb n too_large) TooLarge
    (cond (eqb n k_outside) KOutside
    (cond (eqb n book_size) BookSize
    (cond (eqb n not_in_form) NotInForm
    (cond (eqb n no_room) NoRoom
    (cond (eqb n too_many) TooMany
    (cond (eqb n not_taught) NotTaught
    (cond (eqb n not_agreeing) NotAgreeing
    (cond (eqb n no_form) NoForm
    (cond (eqb n short_output) ShortOutput
    (cond (eqb n no_mark) NoMark
    (cond (eqb n other_version) OtherVersion
    (cond (eqb n no_stored_book) NoStoredBook
    (cond (eqb n other_k) OtherK
    (cond (eqb n no_image) NoImage
    (cond (eqb n two_images) TwoImages NoRules))))))))))))))))

-- It is the refusal that has the number.
of_its_number : (r : Refusal) → refusal_of (refusal_number r) ≡ r
of_its_number NoOrder = refl
of_its_number TooLarge = refl
of_its_number KOutside = refl
of_its_number BookSize = refl
of_its_number NotInForm = refl
of_its_number NoRoom = refl
of_its_number TooMany = refl
of_its_number NotTaught = refl
of_its_number NotAgreeing = refl
of_its_number NoForm = refl
of_its_number ShortOutput = refl
of_its_number NoMark = refl
of_its_number OtherVersion = refl
of_its_number NoStoredBook = refl
of_its_number OtherK = refl
of_its_number NoImage = refl
of_its_number TwoImages = refl
of_its_number NoRules = refl

-- Refusals with one number are one.
pub same_refusal : (r s : Refusal) → refusal_number r ≡ refusal_number s → r ≡ s
same_refusal r s e = sym (of_its_number r) ∙ ap refusal_of e ∙ of_its_number s

-- No refusal has the number 0.
pub not_done : (r : Refusal) → refusal_number r ≡ done → ⊥
not_done NoOrder e = cc
not_done TooLarge e = cc
not_done KOutside e = cc
not_done BookSize e = cc
not_done NotInForm e = cc
not_done NoRoom e = cc
not_done TooMany e = cc
not_done NotTaught e = cc
not_done NotAgreeing e = cc
not_done NoForm e = cc
not_done ShortOutput e = cc
not_done NoMark e = cc
not_done OtherVersion e = cc
not_done NoStoredBook e = cc
not_done OtherK e = cc
not_done NoImage e = cc
not_done TwoImages e = cc
not_done NoRules e = cc
