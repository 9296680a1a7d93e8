-- When teaching and withdrawing are refused by 7 and by 9, in the words of 01 ("Numbers the desk hears"), apart from the tests of `teach_of`
-- and `withdraw_of`; proofs/Conditions.antt shows that they say the same. Assumes nothing: these are definitions.
use Rattle.std.specs.Prelude.{ℕ, ◌≡◌, true, false, List, Some}
use Rattle.words.specs.Base.{◌∈◌}
use Rattle.figures.specs.Limits.{greatest_count}
use Rattle.section.specs.Entries.{has, count_of}
use Rattle.order.specs.Trees.{Tree, words}
use Rattle.order.specs.Reading.{order_of, order}
use Rattle.order.specs.Parts.{top, low_parts, middle_parts}
use Rattle.book.specs.Book.{Book, section_of, live}
use Rattle.book.specs.Decoding.{sized, decode}
use Rattle.book.specs.declared.Section.{Section}
use Rattle.book.specs.Taught.{trees_in}

-- None of "4, 5, 1, 2": the words have the size of a book and are the book b in form, and the other words are the order t.
pub record BookAndOrder (ws os : List ℕ) (b : Book) (t : Tree) : Type 0 where
  pub size : sized ws ≡ true
  pub is_book : decode ws ≡ Some b
  pub is_order : order_of os ≡ order t

-- 7: "live teachings or a touched count would pass 65,535". One more would.
pub data WouldPass (t : Tree) (b : Book) : Type 0 where
  -- "live teachings"
  lives : live b ≡ greatest_count → WouldPass t b
  -- "or a touched count": of the order in T, its top in R, a low part in L, a middle part in P
  touched : (s : Section) (u : Tree) → u ∈ trees_in s b.k t → count_of (words u) (section_of s b) ≡ greatest_count → WouldPass t b

-- 9: "a part of the order is missing from R, L or P".
pub data PartMissing (t : Tree) (b : Book) : Type 0 where
  -- "from R": its top
  from_tops : has (words (top b.k t)) b.R ≡ false → PartMissing t b
  -- "L": a low part
  from_lows : (u : Tree) → u ∈ low_parts b.k t → has (words u) b.L ≡ false → PartMissing t b
  -- "or P": a middle part
  from_middles : (u : Tree) → u ∈ middle_parts b.k t → has (words u) b.P ≡ false → PartMissing t b
