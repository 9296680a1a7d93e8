-- The mark, and what reading a stored book answers, case by case, as the code meets the cases. Assumes nothing.
use Prim.Native.Nat.{ℕ, ◌<◌, ◌≤◌}
use mathlib.Core.Path.{◌≡◌, refl, ap, ◌∙◌}
use mathlib.Core.Bool.{Bool, true, false}
use mathlib.Core.List.{List, [], ◌∷◌}
use native.Mathlib.Omega.{arith}
use borrow.Author.Tests.{le-leb, lt-leb, leb-true}
use lib.Dec.{eqb}
use lib.ListN.{length, get_or, drop}
use Rattle.words.specs.Base.{◌and◌, when◌then◌else◌, same_words}
use Rattle.words.proofs.Tests.{and_left, fails_left}
use Rattle.figures.specs.Numbers.{book_size, no_mark, other_version}
use Rattle.figures.specs.Answers.{answered}
use Rattle.figures.specs.declared.Answer.{Answer}
use Rattle.book.specs.Decoding.{sized}
use Rattle.book.specs.Opening.{outcome}
use Rattle.octets.specs.Octets.{word_at_byte}
use Rattle.book_filing.specs.Files.{mark_bytes, version, front_bytes, is_marked, read_rest_of, read_file_of}

-- ---- the mark

-- Fewer than five bytes have no mark.
pub mark-short : (file : List ℕ) → length file < front_bytes → is_marked file ≡ false
unfolding is_marked
mark-short file h = fails_left _ _ (lt-leb front_bytes (length file) h)

-- A file with the mark has at least five bytes.
pub marked-long : (file : List ℕ) → is_marked file ≡ true → front_bytes ≤ length file
unfolding is_marked
marked-long file e = leb-true _ _ (and_left _ _ e)

-- Of five bytes or more the first three decide.
pub mark-by : (file : List ℕ) → front_bytes ≤ length file
    → is_marked file ≡ (eqb (get_or file 0 0) 79 and eqb (get_or file 1 0) 70 and eqb (get_or file 2 0) 66)
unfolding is_marked same_words ◌and◌
mark-by [] h = absurd (omega arith)
mark-by (a ∷ []) h = absurd (omega arith)
mark-by (a ∷ b ∷ []) h = absurd (omega arith)
mark-by (a ∷ b ∷ c ∷ file) h = rw (le-leb front_bytes (length (a ∷ b ∷ c ∷ file)) h) (ap (λ (t : Bool). eqb a 79 and eqb b 70 and t) (alone (eqb c 66)))
  where
    -- A test that stands last decides alone.
    alone : (t : Bool) → (t and true) ≡ t
    alone true = refl
    alone false = refl

-- Where the first two are right the third decides.
pub mark-last : (file : List ℕ) → front_bytes ≤ length file → eqb (get_or file 0 0) 79 ≡ true → eqb (get_or file 1 0) 70 ≡ true → is_marked file ≡ eqb (get_or file 2 0) 66
unfolding ◌and◌
mark-last file h p q = mark-by file h ∙ rw (p, q)

-- ---- the cases of reading

module _ (file ws : List ℕ) where
  -- A slice of no size for a book is refused by 4.
  pub read-unsized : (a : Answer) → a ≡ answered book_size → sized ws ≡ false → read_file_of file ws ≡ outcome a ws
  unfolding read_file_of when◌then◌else◌
  read-unsized a e z = rw (z, e)

  -- A file without the mark is refused by 12.
  pub read-unmarked : (a : Answer) → a ≡ answered no_mark → sized ws ≡ true → is_marked file ≡ false → read_file_of file ws ≡ outcome a ws
  unfolding read_file_of when◌then◌else◌
  read-unmarked a e z m = rw (z, m, e)

  -- Another version is refused by 13.
  pub read-other : (a : Answer) → a ≡ answered other_version → sized ws ≡ true → is_marked file ≡ true → eqb (word_at_byte file mark_bytes) version ≡ false
      → read_file_of file ws ≡ outcome a ws
  unfolding read_file_of when◌then◌else◌
  read-other a e z m v = rw (z, m, v, e)

  -- In any other file the bytes past the version decide.
  pub read-rest : sized ws ≡ true → is_marked file ≡ true → eqb (word_at_byte file mark_bytes) version ≡ true
      → read_file_of file ws ≡ read_rest_of (drop front_bytes file) ws
  unfolding read_file_of when◌then◌else◌
  read-rest z m v = rw (z, m, v)
