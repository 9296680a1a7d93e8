-- What it is to be a book in form, by 01's sentences and by trees, apart from the tests of `in_form` and `decode`; proofs/Sound.antt shows
-- that they say the same. Assumes nothing: these are definitions.
use Rattle.std.specs.Prelude.{ℕ, ◌-◌, ◌≤◌, ◌<◌, ◌≡◌, List, ◌∷◌, ◌++◌, length}
use Rattle.words.specs.Base.{◌∈◌}
use Rattle.words.specs.Compare.{◌≺◌}
use Rattle.figures.specs.Limits.{greatest_depth, head_words, most_book_words, least_k, greatest_k, least_count, greatest_count}
use Rattle.figures.specs.Numbers.{book_size, not_in_form}
use Rattle.section.specs.Entries.{Entry}
use Rattle.order.specs.Fits.{Fits}
use Rattle.book.specs.Book.{Book, live, lay}
use Rattle.book.specs.Decoding.{places_of, BookForm, Refused, InForm}

-- "count (1 to 65,535), the tree's words", "every tree well formed and within limits", of a depth between the two.
pub record SoundEntry (least greatest : ℕ) (e : Entry) : Type 0 where
  pub some : least_count ≤ e.count
  pub few : e.count ≤ greatest_count
  pub tree : Fits least greatest e.key

-- Every entry is sound, and "the trees ascend strictly, compared word by word from the first": each is lower than the next.
pub record SoundSection (least greatest : ℕ) (es : List Entry) : Type 0 where
  pub entry : (e : Entry) → e ∈ es → SoundEntry least greatest e
  pub ascends : (xs ys : List Entry) (e f : Entry) → es ≡ xs ++ (e ∷ f ∷ ys) → e.key ≺ f.key

-- "k is 2 to 6", "live teachings, at most 65,535", "R and L of depth at most k-2, P of depth exactly k-1".
pub record SoundBook (b : Book) : Type 0 where
  pub least : least_k ≤ b.k
  pub greatest : b.k ≤ greatest_k
  pub few : live b ≤ greatest_count
  pub taught : SoundSection 0 greatest_depth b.T
  pub tops : SoundSection 0 (b.k - 2) b.R
  pub lows : SoundSection 0 (b.k - 2) b.L
  pub middles : SoundSection (b.k - 1) (b.k - 1) b.P

-- The words are those of a sound book in a slice of their length: its head, its sections, and zeros.
pub record IsBook (ws : List ℕ) (b : Book) : Type 0 where
  pub long : head_words ≤ length ws
  pub short : length ws ≤ most_book_words
  pub sound : SoundBook b
  pub laid : lay (length ws) b ≡ ws

-- Why a look at words gives f: the rows for 4 and 5 of 01's table, and where the sections of a book start.
pub data WhyForm (ws : List ℕ) (f : BookForm) : Type 0 where
  -- 4: "book slice shorter than 7"
  shorter : f ≡ Refused book_size → length ws < head_words → WhyForm ws f
  -- 4: "or longer than 16,384 words"
  longer : f ≡ Refused book_size → most_book_words < length ws → WhyForm ws f
  -- 5: "book not in form": the words of no sound book
  formless : f ≡ Refused not_in_form → head_words ≤ length ws → length ws ≤ most_book_words → ((b : Book) → IsBook ws b → ⊥) → WhyForm ws f
  -- none of these: a book
  book : (b : Book) → f ≡ InForm (places_of b) → IsBook ws b → WhyForm ws f
