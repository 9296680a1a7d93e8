-- Inner: no promise rests on these definitions.
-- An order's own book: what some teachings of it count, and how it is listed. Assumes nothing: these are definitions.
use Rattle.std.specs.Prelude.{ℕ, ◌+◌, ◌*◌, ◌-◌, Bool, true, false, List, [], ◌∷◌, length}
use Rattle.figures.specs.Limits.{most_nodes, most_words, head_words, greatest_k}
use Rattle.section.specs.Entries.{Entry}
use Rattle.order.specs.Trees.{Tree, words}
use Rattle.order.specs.Reading.{by_order, order_of}
use Rattle.order.specs.Standing.{cut_of}
use Rattle.order.specs.Parts.{lows, middles, low_parts, middle_parts}
use Rattle.book.specs.Book.{Book}
use Rattle.book.specs.declared.Section.{Section}
use Rattle.book.specs.declared.Section.TheVariants.{Taught, Tops, Lows, Middles}
use Rattle.book.specs.Taught.{empty_book, add_each, book_of}

-- The most words that an entry takes.
abbrev pub entry-words : ℕ
entry-words = 2 + most_words

-- The top of an order and all its low and middle parts take no more words. An entry has a head of two words, one for the top and one for each
-- line, which stands for one part: the cut at k-1 of its subtree. So a node has its two words in the part of its own line and in those of at most
-- k-1 lines above it, and where it is in the top, which is cut at k-2, at most k-2 lines stand above it.
abbrev pub list_words : ℕ
list_words = 2 + most_nodes * (2 + 2 * greatest_k)

-- No order's own book takes more words: its head, the order, and its top with all its low and middle parts.
abbrev pub own_words : ℕ
own_words = head_words + entry-words + list_words

-- The book of n teachings of an order.
abbrev pub own_book : ℕ → ℕ → Tree → Book
own_book k n t = book_of k (record { order = t; times = n } ∷ [])

-- The same by the order's words; the empty book where they are no order.
unfoldable pub own_of : ℕ → ℕ → List ℕ → Book
own_of k n os = by_order (order_of os) (λ number. empty_book k) (own_book k n)

-- The low parts or the middle parts of an order, as often as they occur.
abbrev pub occurring : Bool → ℕ → Tree → List Tree
occurring true k t = lows k t
occurring false k t = middles k t

-- The low parts or the middle parts of an order, each once.
abbrev pub parts_once : Bool → ℕ → Tree → List Tree
parts_once true k t = low_parts k t
parts_once false k t = middle_parts k t

-- The words of an entry for each of these trees, as often as they occur.
unfoldable pub each_words : List Tree → ℕ
each_words [] = 0
each_words (t ∷ ts) = 2 + length (words t) + each_words ts

-- The words of an entry for each part of the kind, as often as it occurs in the order; 0 where the words are no order.
unfoldable pub part_words : Bool → ℕ → List ℕ → ℕ
part_words low k os = by_order (order_of os) (λ n. 0) (λ t. each_words (occurring low k t))

-- The entries of n teachings for the order's parts of a kind.
unfoldable pub list_of : Bool → ℕ → ℕ → List ℕ → List Entry
list_of low k n os = by_order (order_of os) (λ number. []) (λ t. add_each n (parts_once low k t) [])

-- No more words are needed to list a section of an order's own book.
abbrev pub room_for : Section → ℕ → List ℕ → ℕ
room_for Taught k os = entry-words
room_for Tops k os = 2 + length (cut_of os 0 (k - 2))
room_for Lows k os = part_words true k os
room_for Middles k os = part_words false k os
