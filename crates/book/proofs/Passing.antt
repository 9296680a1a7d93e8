-- The tests that one pass over the words makes, and what it finds of each section. `Meaning` shows that they are `formed`.
-- Assumes nothing: these are definitions, and laws of tests of all four sections.
use Prim.Native.Nat.{ℕ}
use mathlib.Core.Path.{◌≡◌, refl}
use mathlib.Core.Bool.{Bool, true, false}
use mathlib.Core.List.{List, []}
use lib.Dec.{leb}
use lib.ListN.{length, get_or, drop}
use Rattle.words.specs.Base.{◌and◌, within}
use Rattle.words.proofs.Tests.{and_left, and_right, and_both, fails_left, fails_right}
use Rattle.figures.specs.Limits.{head_words, least_k, greatest_k, greatest_count}
use Rattle.section.specs.Entries.{entries, total}
use Rattle.book.specs.Book.{shallowest, deepest, section_of}
use Rattle.book.specs.Decoding.{tops_at, lows_at, middles_at, end_at, book_in, start_of, slot_of}
use Rattle.book.specs.Passes.{run, head_of}
use Rattle.book.specs.declared.Section.{Section}
use Rattle.book.specs.declared.Section.TheVariants.{Taught, Tops, Lows, Middles}
use Rattle.book.specs.declared.Places.{Places}

-- ---- tests of all four sections

-- Every section passes the test.
abbrev pub all : (Section → Bool) → Bool
all f = f Taught and f Tops and f Lows and f Middles

module _ (f : Section → Bool) where
  -- If all pass, each does.
  pub all-each : all f ≡ true → (s : Section) → f s ≡ true
  all-each e Taught = and_left _ _ e
  all-each e Tops = and_left _ _ (and_right (f Taught) _ e)
  all-each e Lows = and_left _ _ (and_right (f Tops) _ (and_right (f Taught) _ e))
  all-each e Middles = and_right (f Lows) _ (and_right (f Tops) _ (and_right (f Taught) _ e))

  -- If each passes, all do.
  pub each_all : ((s : Section) → f s ≡ true) → all f ≡ true
  each_all e = and_both (e Taught) (and_both (e Tops) (and_both (e Lows) (e Middles)))

  -- If one fails, not all pass.
  pub one-fails : (s : Section) → f s ≡ false → all f ≡ false
  one-fails Taught e = fails_left _ _ e
  one-fails Tops e = fails_right (f Taught) _ (fails_left _ _ e)
  one-fails Lows e = fails_right (f Taught) _ (fails_right (f Tops) _ (fails_left _ _ e))
  one-fails Middles e = fails_right (f Taught) _ (fails_right (f Tops) _ (fails_right (f Lows) _ e))

-- ---- the tests of a pass

-- k and where the sections start, as the words say.
abbrev pub places_in : List ℕ → Places
places_in ws = record { k = record { k = get_or ws 0 0 }; tops = tops_at ws; lows = lows_at ws; middles = middles_at ws; used = end_at ws }

-- A pass over the section finds all its entries in order.
abbrev pub run_of : List ℕ → Section → Bool
run_of ws s = run (shallowest s (get_or ws 0 0)) (deepest s (get_or ws 0 0)) [] (get_or ws (slot_of s) 0) (drop (start_of s (places_in ws)) ws)

-- The tests in the order of the code.
unfoldable pub passes : List ℕ → Bool
passes ws =
    leb head_words (length ws) and within least_k greatest_k (get_or ws 0 0) and leb (get_or ws 2 0) greatest_count and all (run_of ws)
    and head_of ws (total (book_in ws).T) (end_at ws)

-- A section of the book that words hold is the entries that are read where it starts.
pub section-in : (s : Section) (ws : List ℕ) → section_of s (book_in ws) ≡ entries (get_or ws (slot_of s) 0) (drop (start_of s (places_in ws)) ws)
unfolding section_of book_in
section-in Taught ws = refl
section-in Tops ws = refl
section-in Lows ws = refl
section-in Middles ws = refl
