-- The numbers of 01, "Numbers the desk hears", and of 02 that an order, a part, a form, a book, a file, two books or a rule list can be answered
-- with. Assumes nothing: these are definitions.
use Rattle.std.specs.Prelude.{ℕ}

-- done
abbrev pub done : ℕ
done = 0

-- the words are no order
abbrev pub no_order : ℕ
no_order = 1

-- the order or the text is too long or too deep
abbrev pub too_large : ℕ
too_large = 2

-- k is outside 2 to 6
abbrev pub k_outside : ℕ
k_outside = 3

-- the book's slice is too short or too long
abbrev pub book_size : ℕ
book_size = 4

-- the book is not in form
abbrev pub not_in_form : ℕ
not_in_form = 5

-- the result needs more words than the book's slice has
abbrev pub no_room : ℕ
no_room = 6

-- live teachings or a touched count would pass 65,535
abbrev pub too_many : ℕ
too_many = 7

-- the order has no entry in T
abbrev pub not_taught : ℕ
not_taught = 8

-- withdrawing: a part of the order is missing from R, L or P; checking, writing or reading a book: it does not agree with itself
abbrev pub not_agreeing : ℕ
not_agreeing = 9

-- the text is no form
abbrev pub no_form : ℕ
no_form = 10

-- the lent output is too short
abbrev pub short_output : ℕ
short_output = 11

-- stored: under 5 bytes, or another mark
abbrev pub no_mark : ℕ
no_mark = 12

-- stored: the version is not 1
abbrev pub other_version : ℕ
other_version = 13

-- stored: the rest is not the used words of a book in form
abbrev pub no_stored_book : ℕ
no_stored_book = 14

-- joined: the two books look differently deep
abbrev pub other_k : ℕ
other_k = 15

-- judged: the order's top is not in the book, though the part of every line is
abbrev pub top_unknown : ℕ
top_unknown = 20

-- judged: the low part of the line to fix is not in the book
abbrev pub low_unknown : ℕ
low_unknown = 21

-- judged: the middle part of the line to fix is not in the book
abbrev pub middle_unknown : ℕ
middle_unknown = 22

-- chosen: no rule fits the order
abbrev pub no_image : ℕ
no_image = 30

-- chosen: two rules that fit the order name different images
abbrev pub two_images : ℕ
two_images = 31

-- chosen: the words are no rule list, or a rule's tree is deeper than k-1
abbrev pub no_rules : ℕ
no_rules = 32
