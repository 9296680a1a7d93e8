-- What a call that edits a section of a book has, and the book once the section has other entries. Assumes nothing.
use Prim.Native.Nat.{ℕ, ◌+◌, ◌-◌, ◌≤◌}
use mathlib.Core.Path.{◌≡◌, refl, sym, ap, ◌∙◌}
use mathlib.Core.Bool.{true}
use mathlib.Core.List.{List, ◌++◌, append_assoc}
use native.Mathlib.Omega.{arith}
use lib.ListN.{length, set, take, drop, replicate, length-append, length-drop}
use lib.Seq.{take_at, drop_at}
use Rattle.section.specs.Entries.{Entry, section_words, entries, span, Even}
use Rattle.section.proofs.Words.{words-entries, words-span}
use Rattle.section_change.specs.Editing.{fitting, padded, relaid, Laid, Edited}
use Rattle.section_change.proofs.Adding.{entry-fitting}
use Rattle.section_change.specs.declared.Size.{Size}
use Rattle.book.specs.Book.{Book, section_of, body, used, live, lay, in_form, with_section}
use Rattle.book.specs.Decoding.{places_of, start_of, slot_of}
use Rattle.book.specs.declared.Section.{Section}
use Rattle.book.proofs.Sound.{form-sound, sound-section}
use Rattle.book.proofs.Around.{before, behind, headed, body-with, body-split, lay-headed, set-head, used-split, start_is, used-with}

-- The counts of a book in form are at most 65,535.
pub form-fitting : (b : Book) → in_form b ≡ true → (s : Section) → fitting (section_of s b) ≡ true
form-fitting b form s = entry-fitting (section_of s b) (λ e m. ((sound-section b (form-sound b form) s).entry e m).few)

-- ---- a section of a book in a slice

-- The book b stands in the words, a section of it from `at` on.
module _ (ws : List ℕ) (s : Section) (b : Book) (laid : lay (length ws) b ≡ ws) (even : Even (section_of s b)) (fits : used b ≤ length ws) (at : ℕ) (starts : at ≡ start_of s (places_of b)) where
  -- The words of the section.
  other : List ℕ
  other = section_words (section_of s b)

  -- The zeros at the end.
  rest : List ℕ
  rest = replicate (length ws - used b) 0

  -- The words are the head and what stands before the section, the section, and what stands behind it.
  words-split : ws ≡ headed b (before s b) ++ (other ++ (behind s b ++ rest))
  unfolding other rest
  words-split = sym laid ∙ lay-headed (length ws) b ∙ rw (body-split s b) (simp append_assoc)

  -- The section starts behind its front.
  front_long : length (headed b (before s b)) ≡ at
  front_long = omega (arith, start_is s b)

  -- The section starts within the used words.
  pub start-used : at ≤ used b
  start-used = omega (arith, start_is s b, used-split s b)

  -- The words from the section's start on.
  part-is : drop at ws ≡ other ++ (behind s b ++ rest)
  part-is = ap (drop at) words-split ∙ drop_at (headed b (before s b)) (other ++ (behind s b ++ rest)) at front_long

  -- The words up to the section's start.
  front-is : take at ws ≡ headed b (before s b)
  front-is = ap (take at) words-split ∙ take_at (headed b (before s b)) (other ++ (behind s b ++ rest)) at front_long

  -- Its entries are read there.
  pub part-entries : (many : ℕ) → many ≡ length (section_of s b) → entries many (drop at ws) ≡ section_of s b
  unfolding other
  part-entries many e = rw (e, part-is) (words-entries (section_of s b) (behind s b ++ rest) even)

  -- They take its words.
  pub part-span : (many : ℕ) → many ≡ length (section_of s b) → span many (drop at ws) ≡ length (section_words (section_of s b))
  unfolding other
  part-span many e = rw (e, part-is) (words-span (section_of s b) (behind s b ++ rest) even)

  -- What is used from its start on.
  uses-long : (uses : ℕ) → uses ≡ used b → uses - at ≡ length (other ++ behind s b)
  unfolding other
  uses-long uses e = simp length-append (omega (arith, start_is s b, used-split s b))

  -- The entries stand so that they can be edited.
  pub part-laid : (many uses : ℕ) → many ≡ length (section_of s b) → uses ≡ used b → Laid (drop at ws) many (uses - at)
  unfolding other rest
  part-laid many uses e f = record {
    within = rw (part-span many e) (omega (arith, start_is s b, used-split s b));
    room = simp length-drop (omega (arith, start-used));
    zeros =
        let long : length (drop at ws) - (uses - at) ≡ length ws - used b = simp length-drop (omega (arith, start-used)) in
        ap (drop (uses - at)) (part-is ∙ sym (append_assoc other (behind s b) rest)) ∙ drop_at (other ++ behind s b) rest (uses - at) (sym (uses-long uses f)) ∙ ap (λ (n : ℕ). replicate n 0) (sym long);
  }

  -- What is kept behind the entries.
  kept : (many uses : ℕ) → many ≡ length (section_of s b) → uses ≡ used b → take (uses - at - span many (drop at ws)) (drop (span many (drop at ws)) (drop at ws)) ≡ behind s b
  unfolding other
  kept many uses e f =
      rw (part-span many e, part-is, drop_at (section_words (section_of s b)) (behind s b ++ rest) (length (section_words (section_of s b))) refl)
      (take_at (behind s b) rest (uses - at - length (section_words (section_of s b))) (omega (arith, start_is s b, used-split s b)))

  -- ---- once the section has other entries
  module _ (many uses : ℕ) (some : many ≡ length (section_of s b)) (ends : uses ≡ used b) (es : List Entry) (part : List ℕ) (size : Size) (edit : Edited (drop at ws) many (uses - at) es part size) (room : used (with_section s es b) ≤ length ws) where
    -- The words used then.
    pub used-then : at + size.used ≡ used (with_section s es b)
    used-then = omega (arith, edit.uses, part-span many some, start_is s b, used-split s b, used-with s es b)

    -- The words then, under the head as it was.
    then_words : take at ws ++ part ≡ headed b (body (with_section s es b) ++ replicate (length ws - used (with_section s es b)) 0)
    unfolding relaid padded
    then_words =
        let zeros : length (drop at ws) - length (section_words es ++ behind s b) ≡ length ws - used (with_section s es b) =
        simp (length-append, length-drop) (omega (arith, start_is s b, used-with s es b)) in
        let p : part ≡ (section_words es ++ behind s b) ++ replicate (length ws - used (with_section s es b)) 0 = edit.words ∙ rw (kept many uses some ends, zeros) in
        rw (front-is, p, body-with s es b) (simp append_assoc)

    -- With the head's words written it is the book with these entries.
    pub then_laid : (live' word : ℕ) → live' ≡ live (with_section s es b) → word ≡ slot_of s
        → set (set (set (take at ws ++ part) 1 (at + size.used)) 2 live') word size.many ≡ lay (length ws) (with_section s es b)
    then_laid live' word e f =
        rw (then_words, f)
        (set-head s es b (body (with_section s es b) ++ replicate (length ws - used (with_section s es b)) 0) (at + size.used) live' size.many used-then e edit.counts
        ∙ sym (lay-headed (length ws) (with_section s es b)))
