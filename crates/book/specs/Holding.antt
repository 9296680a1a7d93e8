-- Inner: no promise rests on these definitions.
-- What a call has where the words are a book in form: its sections, and where they stand. Assumes nothing: these are definitions.
use Rattle.std.specs.Prelude.{ℕ, ◌+◌, ◌≤◌, ◌≡◌, true, List, length, get_or, drop, Some}
use Rattle.figures.specs.Limits.{head_words, most_book_words, least_k, greatest_k}
use Rattle.section.specs.Entries.{Entry, entries, span, Sorted}
use Rattle.book.specs.Book.{section_of, lay, in_form}
use Rattle.book.specs.Decoding.{book_in, decode, places_of, start_of, slot_of}
use Rattle.book.specs.declared.Section.{Section}
use Rattle.book.specs.declared.Places.{Places}

-- Sorted entries stand at a word, as many as a word of the head says, all within the slice.
pub record Holding (ws : List ℕ) (from slot : ℕ) (es : List Entry) : Type 0 where
  pub are : entries (get_or ws slot 0) (drop from ws) ≡ es
  pub within : from + span (get_or ws slot 0) (drop from ws) ≤ length ws
  pub sorted : Sorted es

-- The words are a book in form, whose sections start at these places.
pub record Holds (ws : List ℕ) (p : Places) : Type 0 where
  pub long : head_words ≤ length ws
  pub short : length ws ≤ most_book_words
  pub form : in_form (book_in ws) ≡ true
  pub laid : lay (length ws) (book_in ws) ≡ ws
  pub decoded : decode ws ≡ Some (book_in ws)
  pub places : p ≡ places_of (book_in ws)
  pub depth : p.k.k ≡ (book_in ws).k
  pub least : least_k ≤ (book_in ws).k
  pub greatest : (book_in ws).k ≤ greatest_k
  pub section : (s : Section) → Holding ws (start_of s p) (slot_of s) (section_of s (book_in ws))
