-- The figures of 01 for orders, parts, books and the desk ("Orders", "Parts", "The book", "Forms on the desk"), and of 02 for rule lists ("Choose the
-- firmware image"). They unfold everywhere, so that a test against one computes. Assumes nothing: these are definitions.
use Rattle.std.specs.Prelude.{ℕ, ◌*◌}

-- "an option code 1 to 9999"
abbrev pub least_code : ℕ
least_code = 1

-- "to 9999"
abbrev pub greatest_code : ℕ
greatest_code = 9999

-- "its number of children 0 to 8"
abbrev pub most_children : ℕ
most_children = 8

-- "1 to 64 nodes", of two words each
abbrev pub most_nodes : ℕ
most_nodes = 64

-- "over 128 words": two words a node
abbrev pub most_words : ℕ
most_words = 2 * most_nodes

-- "an order's depth is at most 12"
abbrev pub greatest_depth : ℕ
greatest_depth = 12

-- "k is 2 to 6"
abbrev pub least_k : ℕ
least_k = 2

-- "to 6"
abbrev pub greatest_k : ℕ
greatest_k = 6

-- The book's head: words 0 to 6
abbrev pub head_words : ℕ
head_words = 7

-- "Word 0: k."
abbrev pub k_word : ℕ
k_word = 0

-- "Word 1: words used."
abbrev pub used_word : ℕ
used_word = 1

-- "Word 2: live teachings"
abbrev pub live_word : ℕ
live_word = 2

-- "Words 3 to 6: numbers of entries in T, R, L, P."
abbrev pub taught_word : ℕ
taught_word = 3

-- The number of entries in R.
abbrev pub tops_word : ℕ
tops_word = 4

-- The number of entries in L.
abbrev pub lows_word : ℕ
lows_word = 5

-- The number of entries in P.
abbrev pub middles_word : ℕ
middles_word = 6

-- "A lent slice of 7 to 16,384 words"
abbrev pub most_book_words : ℕ
most_book_words = 16384

-- "count (1 to 65,535)"
abbrev pub least_count : ℕ
least_count = 1

-- "to 65,535", and "live teachings, at most 65,535"
abbrev pub greatest_count : ℕ
greatest_count = 65535

-- "standard input, at most 32,768 bytes"
abbrev pub most_input : ℕ
most_input = 32768

-- "with a book of 8,192 words"
abbrev pub desk_book_words : ℕ
desk_book_words = 8192

-- "the number of rules, 0 to 64"
abbrev pub most_rules : ℕ
most_rules = 64

-- "an image number 1 to 65,535"
abbrev pub least_image : ℕ
least_image = 1

-- "to 65,535"
abbrev pub greatest_image : ℕ
greatest_image = 65535
