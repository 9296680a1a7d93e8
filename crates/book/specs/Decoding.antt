-- The book that words hold, whatever they are; which words are a book in form, and where its sections start. Assumes nothing: these are
-- definitions.
use Rattle.std.specs.Prelude.{ℕ, ◌+◌, Bool, not, List, length, get_or, drop, Option, None, Some, Result, Ok, Err}
use Rattle.words.specs.Base.{◌and◌, when◌then◌else◌, within, same_words}
use Rattle.figures.specs.Limits.{head_words, k_word, taught_word, tops_word, lows_word, middles_word, most_book_words}
use Rattle.figures.specs.Numbers.{done, book_size, not_in_form}
use Rattle.figures.specs.Answers.{answered}
use Rattle.figures.specs.Refusals.{refusal_number}
use Rattle.figures.specs.declared.refusals.Refusal.{Refusal}
use Rattle.figures.specs.declared.Answer.{Answer}
use Rattle.section.specs.Entries.{section_words, entries, span}
use Rattle.book.specs.Book.{Book, lay, in_form, used}
use Rattle.book.specs.declared.Section.{Section}
use Rattle.book.specs.declared.Section.TheVariants.{Taught, Tops, Lows, Middles}
use Rattle.book.specs.declared.Places.{Places}

-- The word past the entries that start at `from`, as many as word `slot` of the head says.
abbrev pub past_entries : ℕ → ℕ → List ℕ → ℕ
past_entries from slot ws = from + span (get_or ws slot 0) (drop from ws)

-- Where section R starts.
unfoldable pub tops_at : List ℕ → ℕ
tops_at ws = past_entries head_words taught_word ws

-- Where section L starts.
unfoldable pub lows_at : List ℕ → ℕ
lows_at ws = past_entries (tops_at ws) tops_word ws

-- Where section P starts.
unfoldable pub middles_at : List ℕ → ℕ
middles_at ws = past_entries (lows_at ws) lows_word ws

-- Where the four sections end.
unfoldable pub end_at : List ℕ → ℕ
end_at ws = past_entries (middles_at ws) middles_word ws

-- The book that the head and the words behind it hold.
unfoldable pub book_in : List ℕ → Book
book_in ws =
    record {
      k = get_or ws k_word 0;
      T = entries (get_or ws taught_word 0) (drop head_words ws);
      R = entries (get_or ws tops_word 0) (drop (tops_at ws) ws);
      L = entries (get_or ws lows_word 0) (drop (lows_at ws) ws);
      P = entries (get_or ws middles_word 0) (drop (middles_at ws) ws);
    }

-- The words hold a book in form, and are its words and then zeros.
unfoldable pub formed : List ℕ → Bool
formed ws = in_form (book_in ws) and same_words (lay (length ws) (book_in ws)) ws

-- The book in form that the words are, if they are one.
unfoldable pub decode : List ℕ → Option Book
decode ws = when formed ws then Some (book_in ws) else None

-- What follows a book, and what stands where there is none.
unfoldable pub by_book {ℓ} : {A : Type ℓ} → Option Book → A → (Book → A) → A
by_book None a f = a
by_book (Some b) a f = f b

-- "A lent slice of 7 to 16,384 words."
unfoldable pub sized : List ℕ → Bool
sized ws = within head_words most_book_words (length ws)

-- 4 and 5, and then what a call does with the book.
unfoldable pub on_book {ℓ} : {A : Type ℓ} → (ℕ → A) → List ℕ → (Book → A) → A
on_book refuse ws f =
    when not (sized ws) then refuse book_size else
    by_book (decode ws) (refuse not_in_form) f

-- k, where the sections R, L and P of a book start, and where its used words end.
unfoldable pub places_of : Book → Places
places_of b =
    let r : ℕ = head_words + length (section_words b.T) in
    let l : ℕ = r + length (section_words b.R) in
    let p : ℕ = l + length (section_words b.L) in
    record { k = record { k = b.k }; tops = r; lows = l; middles = p; used = used b }

-- Where a section starts.
abbrev pub start_of : Section → Places → ℕ
start_of Taught p = head_words
start_of Tops p = p.tops
start_of Lows p = p.lows
start_of Middles p = p.middles

-- The head's word with a section's number of entries.
abbrev pub slot_of : Section → ℕ
slot_of Taught = taught_word
slot_of Tops = tops_word
slot_of Lows = lows_word
slot_of Middles = middles_word

-- What a look at a book's form gives: the number of its refusal, or where its sections start.
pub data BookForm : Type 0 where
  Refused : ℕ → BookForm
  InForm : Places → BookForm

-- What a look gives, as it is told: a refusal by its number.
abbrev pub looked : Result Places Refusal → BookForm
looked (Err r) = Refused (refusal_number r)
looked (Ok p) = InForm p

-- What a look at a slice that has the size of a book gives, as it is told: there are places, or it is not in form.
abbrev pub looked_at : Option Places → BookForm
looked_at None = Refused not_in_form
looked_at (Some p) = InForm p

-- What the words are as a book.
unfoldable pub book_form_of : List ℕ → BookForm
book_form_of ws = on_book Refused ws (λ b. InForm (places_of b))

-- 01's number and line for each case of it, and the places of a book in form.
abbrev pub form_told : BookForm → Answer × Option Places
form_told (Refused n) = (answered n, None)
form_told (InForm p) = (answered done, Some p)
