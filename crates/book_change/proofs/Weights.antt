-- What a call that weighs one book against another has of a section of each, and how much the words that are lacking can come to. Assumes
-- nothing.
use Prim.Native.Nat.{ℕ, ◌+◌, ◌-◌, ◌≤◌}
use mathlib.Core.Path.{◌≡◌, refl}
use mathlib.Core.Bool.{Bool, true, false, ◌||◌}
use mathlib.Core.List.{List, [], ◌∷◌}
use native.Mathlib.Omega.{arith}
use lib.ListN.{length, get_or, take, drop, length-append, length-drop}
use Rattle.words.specs.Base.{when◌then◌else◌}
use Rattle.words.proofs.Shifts.{tail_all}
use Rattle.figures.specs.Limits.{most_book_words}
use Rattle.section.specs.Entries.{Entry, section_words, entries, span, has, Sorted}
use Rattle.section.proofs.Words.{entries-span}
use Rattle.section_change.specs.Editing.{fitting, lacking_words}
use Rattle.section_change.specs.declared.Weighed.{Weighed}
use Rattle.book.specs.Book.{Book, section_of}
use Rattle.book.specs.Decoding.{book_in, start_of, slot_of}
use Rattle.book.specs.Holding.{Holds}
use Rattle.book.specs.declared.Section.{Section}
use Rattle.book.specs.declared.Section.TheVariants.{Taught, Tops, Lows, Middles}
use Rattle.book.specs.declared.Places.{Places}
use Rattle.book.proofs.Holding.{start-within, ends-within}
use Rattle.book_change.specs.Changing.{weighed_in, lacking_parts, lacking_all, lacking_each, overfull_any, weighed_book}
use Rattle.book_change.specs.declared.Lacking.{Lacking}
use Rattle.book_change.specs.declared.BookWeighed.{BookWeighed}
use Rattle.book_change.proofs.Sections.{form-fitting}

-- The words are lent from `from` on.
abbrev pub lent : List ℕ → ℕ → List ℕ
lent ws from = take (length ws - from) (drop from ws)

-- The words are a book in form, one section of which starts at `at`, and whose number of entries is word `word` of the head.
module _ (ws : List ℕ) (p : Places) (h : Holds ws p) (s : Section) (at word : ℕ) (starts : at ≡ start_of s p) (slot : word ≡ slot_of s) where
  -- The part from the section's start on has room for its entries.
  pub lent-within : span (get_or ws word 0) (lent ws at) ≤ length (lent ws at)
  lent-within = rw (tail_all at ws (start-within ws p h s at word starts slot)) (simp length-drop (omega (arith, ends-within ws p h s at word starts slot)))

  -- The part from the section's start on has its entries in front.
  pub lent-are : entries (get_or ws word 0) (lent ws at) ≡ section_of s (book_in ws)
  lent-are = rw (tail_all at ws (start-within ws p h s at word starts slot), starts, slot) (h.section s).are

  -- These are sorted.
  pub lent-sorted : Sorted (entries (get_or ws word 0) (lent ws at))
  lent-sorted = rw lent-are (h.section s).sorted

  -- Their counts are at most 65,535.
  pub lent-fitting : fitting (entries (get_or ws word 0) (lent ws at)) ≡ true
  lent-fitting = rw lent-are (form-fitting (book_in ws) h.form s)

-- What is lacking of a section is at most its words.
lacking_most : (os es : List Entry) → lacking_words os es ≤ length (section_words os)
unfolding lacking_words section_words when◌then◌else◌
lacking_most [] es = omega arith
lacking_most (o ∷ os) es = go (has o.key es) refl (lacking_most os es)
  where
    go : (b : Bool) → has o.key es ≡ b → lacking_words os es ≤ length (section_words os) → lacking_words (o ∷ os) es ≤ length (section_words (o ∷ os))
    go true e ih = rw (e, length-append) (omega (arith, ih))
    go false e ih = rw (e, length-append) (omega (arith, ih))

-- What a book lacks of a section of a book in form is at most 16,384 words.
lacking_few : (ws : List ℕ) (p : Places) (h : Holds ws p) (s : Section) (es : List Entry) → lacking_words (section_of s (book_in ws)) es ≤ most_book_words
lacking_few ws p h s es =
    let size = entries-span (get_or ws (slot_of s) 0) (drop (start_of s p) ws) (simp length-drop (omega (arith, (h.section s).within))) in
    omega (arith, lacking_most (section_of s (book_in ws)) es, rw (h.section s).are at size, (h.section s).within, h.short)

-- The words that a section was weighed to lack are at most 16,384.
pub weighed-few : (ws : List ℕ) (p : Places) (h : Holds ws p) (s : Section) (b : Book) (w : Weighed) → w ≡ weighed_in s (book_in ws) b → w.lacking ≤ most_book_words
weighed-few ws p h s b w e = rw e (lacking_few ws p h s (section_of s b))

-- What three sections lack is what the parts of the other book would enter.
pub parts-weighed : (other b : Book) (r l p : Weighed) → r ≡ weighed_in Tops other b → l ≡ weighed_in Lows other b → p ≡ weighed_in Middles other b
    → r.lacking + l.lacking + p.lacking ≡ lacking_parts other b
unfolding lacking_parts section_of
parts-weighed other b r l p d e f = rw (d, e, f)

-- Whether one of four holds, by one choice after the other.
one-of_four : (t r l p : Bool) → ((t || r) || l) || p ≡ (when t then true else (when r then true else (when l then true else p)))
unfolding when◌then◌else◌
one-of_four true r l p = refl
one-of_four false true l p = refl
one-of_four false false true p = refl
one-of_four false false false p = refl

-- What four sections lack, and whether a count of one of them would pass 65,535, is what the other book would do.
pub book-weighed : (other b : Book) (t r l p : Weighed) → t ≡ weighed_in Taught other b → r ≡ weighed_in Tops other b → l ≡ weighed_in Lows other b → p ≡ weighed_in Middles other b
    → let each : Lacking = record { taught = t.lacking; tops = r.lacking; lows = l.lacking; middles = p.lacking } in
    ◌≡◌ {A = BookWeighed} (record { each = each; lacking = t.lacking + (r.lacking + l.lacking + p.lacking); overfull = ((t.overfull || r.overfull) || l.overfull) || p.overfull }) (weighed_book other b)
unfolding lacking_each lacking_all lacking_parts overfull_any section_of
book-weighed other b t r l p c d e f = rw (one-of_four t.overfull r.overfull l.overfull p.overfull, c, d, e, f)
