-- Inner: no promise rests on these definitions.
-- A book changed by another, section by section: teaching adds an order's own book, in which every count is 1, withdrawing takes it away, and
-- joining adds a book of any counts. Assumes nothing: these are definitions.
use Rattle.std.specs.Prelude.{ℕ, ◌+◌, ◌-◌, ◌≤◌, ◌≡◌, Bool, true, List, length}
use Rattle.words.specs.Base.{when◌then◌else◌}
use Rattle.figures.specs.Limits.{head_words, most_book_words, greatest_count}
use Rattle.section.specs.Entries.{Entry}
use Rattle.section_change.specs.Editing.{add_all, lower_all, lacking_words, overfull, weighed}
use Rattle.section_change.specs.declared.Weighed.{Weighed}
use Rattle.book.specs.Book.{Book, section_of, used, live, lay, in_form, with_section}
use Rattle.book.specs.Decoding.{book_in, places_of, start_of}
use Rattle.book.specs.declared.Section.{Section}
use Rattle.book.specs.declared.Section.TheVariants.{Taught, Tops, Lows, Middles}
use Rattle.book_change.specs.declared.Change.{Change}
use Rattle.book_change.specs.declared.Change.TheVariants.{Teach, Withdraw}
use Rattle.book_change.specs.declared.Lacking.{Lacking}
use Rattle.book_change.specs.declared.BookWeighed.{BookWeighed}

-- A section's entries, changed by those of another: teaching adds the other's counts, and withdrawing takes one for each of its keys.
abbrev pub changed : Change → List Entry → List Entry → List Entry
changed Teach os es = add_all os es
changed Withdraw os es = lower_all os es

-- One section of the book, changed by the same section of another.
unfoldable pub changed_in : Change → Section → Book → Book → Book
changed_in c s other b = with_section s (changed c (section_of s other) (section_of s b)) b

-- All four sections, the last first.
unfoldable pub changed_book : Change → Book → Book → Book
changed_book c other b = changed_in c Taught other (changed_in c Tops other (changed_in c Lows other (changed_in c Middles other b)))

-- The live teachings, changed by those of another book, each of whose orders counts 1 if they are taken; only section T has them.
abbrev pub lives_then : Change → Section → ℕ → ℕ → ℕ
lives_then Teach Taught live more = live + more
lives_then Withdraw Taught live more = live - more
lives_then c Tops live more = live
lives_then c Lows live more = live
lives_then c Middles live more = live

-- The live teachings can be changed so: they stay within 65,535, and no more are taken than there are.
abbrev pub LivesReady : Change → Section → ℕ → ℕ → Type 0
LivesReady Teach Taught live more = live + more ≤ greatest_count
LivesReady Withdraw Taught live more = more ≤ live
LivesReady c Tops live more = Unit {0}
LivesReady c Lows live more = Unit {0}
LivesReady c Middles live more = Unit {0}

-- A section that another's entries are added to lacks so many words of them; for taking them away any number will do.
abbrev pub Lacks : Change → ℕ → List Entry → List Entry → Type 0
Lacks Teach n os es = n ≡ lacking_words os es
Lacks Withdraw n os es = Unit {0}

-- How many words of each of another book's sections the book lacks.
unfoldable pub lacking_each : Book → Book → Lacking
lacking_each other b = record {
  taught = lacking_words other.T b.T;
  tops = lacking_words other.R b.R;
  lows = lacking_words other.L b.L;
  middles = lacking_words other.P b.P;
}

-- A book that another is added to lacks so many words of each section; for taking it away any numbers will do.
abbrev pub LacksEach : Change → Lacking → Book → Book → Type 0
LacksEach Teach l other b = l ≡ lacking_each other b
LacksEach Withdraw l other b = Unit {0}

-- The words are a book in form, one section of which starts at a word, and so many words are used.
pub record SectionStands (ws : List ℕ) (s : Section) (at uses : ℕ) : Type 0 where
  pub long : head_words ≤ length ws
  pub short : length ws ≤ most_book_words
  pub form : in_form (book_in ws) ≡ true
  pub laid : lay (length ws) (book_in ws) ≡ ws
  pub start : at ≡ start_of s (places_of (book_in ws))
  pub end : uses ≡ used (book_in ws)

-- The changed book is in form and has room, and its live teachings are those that `lives_then` says.
pub record Ready (n : ℕ) (c : Change) (s : Section) (other b : Book) : Type 0 where
  pub form : in_form (changed_in c s other b) ≡ true
  pub room : used (changed_in c s other b) ≤ n
  pub lives : live (changed_in c s other b) ≡ lives_then c s (live b) (live other)
  pub counts : LivesReady c s (live b) (live other)

-- Each section can be changed once those behind it are.
pub record ReadyAll (n : ℕ) (c : Change) (other b : Book) : Type 0 where
  pub middles : Ready n c Middles other b
  pub lows : Ready n c Lows other (changed_in c Middles other b)
  pub tops : Ready n c Tops other (changed_in c Lows other (changed_in c Middles other b))
  pub taught : Ready n c Taught other (changed_in c Tops other (changed_in c Lows other (changed_in c Middles other b)))

-- What another book would do to a section of a book.
abbrev pub weighed_in : Section → Book → Book → Weighed
weighed_in s other b = weighed (section_of s other) (section_of s b)

-- How many words of another book's sections R, L and P the book lacks.
unfoldable pub lacking_parts : Book → Book → ℕ
lacking_parts other b = lacking_words other.R b.R + lacking_words other.L b.L + lacking_words other.P b.P

-- How many words of another book's sections the book lacks.
unfoldable pub lacking_all : Book → Book → ℕ
lacking_all other b = lacking_words other.T b.T + lacking_parts other b

-- "a touched count would pass 65,535", in one of the sections
unfoldable pub overfull_any : Book → Book → Bool
overfull_any other b =
    when overfull other.T b.T then true else
    (when overfull other.R b.R then true else
    (when overfull other.L b.L then true else overfull other.P b.P))

-- What another book would do to the book.
abbrev pub weighed_book : Book → Book → BookWeighed
weighed_book other b = record { each = lacking_each other b; lacking = lacking_all other b; overfull = overfull_any other b }
