-- Refusals by their numbers, and what is answered for a call that was done or refused. Assumes nothing: these are definitions.
use Rattle.std.specs.Prelude.{ℕ, Result, Ok, Err}
use Rattle.figures.specs.Numbers.{done, no_order, too_large, k_outside, book_size, not_in_form, no_room, too_many, not_taught, not_agreeing, no_form, short_output, no_mark, other_version, no_stored_book, other_k, no_image, two_images, no_rules}
use Rattle.figures.specs.declared.refusals.Refusal.{Refusal}
use Rattle.figures.specs.declared.refusals.Refusal.TheVariants.{NoOrder, TooLarge, KOutside, BookSize, NotInForm, NoRoom, TooMany, NotTaught, NotAgreeing, NoForm, ShortOutput, NoMark, OtherVersion, NoStoredBook, OtherK, NoImage, TwoImages, NoRules}

-- 01's number for a refusal.
abbrev pub refusal_number : Refusal → ℕ
refusal_number NoOrder = no_order
refusal_number TooLarge = too_large
refusal_number KOutside = k_outside
refusal_number BookSize = book_size
refusal_number NotInForm = not_in_form
refusal_number NoRoom = no_room
refusal_number TooMany = too_many
refusal_number NotTaught = not_taught
refusal_number NotAgreeing = not_agreeing
refusal_number NoForm = no_form
refusal_number ShortOutput = short_output
refusal_number NoMark = no_mark
refusal_number OtherVersion = other_version
refusal_number NoStoredBook = no_stored_book
refusal_number OtherK = other_k
refusal_number NoImage = no_image
refusal_number TwoImages = two_images
refusal_number NoRules = no_rules

module _ {A : Type 0} where
  -- The number that is answered: 0 for a call that was done.
  abbrev pub number_told : Result A Refusal → ℕ
  number_told (Ok a) = done
  number_told (Err r) = refusal_number r

-- How many words or bytes are told as written: none by a refusal.
abbrev pub count_told : Result ℕ Refusal → ℕ
count_told (Ok n) = n
count_told (Err r) = 0
