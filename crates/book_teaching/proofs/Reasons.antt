-- The tests of `teach_of` for 7 and of `withdraw_of` for 9 decide what specs/Conditions.antt says. Assumes nothing.
use Prim.Native.Nat.{ℕ, ◌+◌, ◌≤◌, ◌<◌}
use mathlib.Core.Path.{◌≡◌, refl, sym, ap, ◌∙◌}
use mathlib.Core.Bool.{Bool, true, false}
use mathlib.Core.List.Memᴰ
use mathlib.Core.List.Memᴰ.{head as here}
use mathlib.Core.List.Memᴰ.{tail as there}
use mathlib.Core.List.{List, [], ◌∷◌}
use native.Mathlib.Decide.{dec_lt}
use native.Mathlib.Omega.{arith}
use borrow.Author.Tests.{le-leb}
use Rattle.words.specs.Base.{when◌then◌else◌, ◌∈◌}
use Rattle.words.proofs.Tests.{no_test, and_left, and_right, and_both}
use Rattle.figures.specs.Limits.{greatest_count}
use Rattle.section.specs.Entries.{Entry, has, count_of, Sorted}
use Rattle.section.proofs.Counts.{has-entry, entry-count, lacks_counts}
use Rattle.section_change.specs.Editing.{fitting}
use Rattle.section_change.proofs.Adding.{fitting-entry}
use Rattle.section_change.proofs.Weighing.{fitting-add}
use Rattle.order.specs.Trees.{Tree, words}
use Rattle.order.specs.Parts.{top, low_parts, middle_parts}
use Rattle.order.proofs.Once.{NoRepeats}
use Rattle.book.specs.Book.{Book, section_of, live, in_form}
use Rattle.book.specs.Taught.{add_each, taught, trees_in}
use Rattle.book.specs.declared.Section.{Section}
use Rattle.book.specs.declared.Section.TheVariants.{Taught, Tops, Lows, Middles}
use Rattle.book.proofs.Sound.{form-sound}
use Rattle.book.proofs.Taught.{lacks_any, count-each, sorted-each}
use Rattle.book.proofs.Teachings.{taught-section, trees-once, live-taught, times-counted, count-after_taught, taught-in_order}
use Rattle.book.proofs.Sections.{form-sorted}
use Rattle.book_change.specs.Counts.{within_counts}
use Rattle.book_teaching.specs.Calls.{has_each, has_parts}
use Rattle.book_teaching.proofs.Adds.{has-each}
use Rattle.book_change.proofs.Sections.{form-fitting}
use Rattle.book_change.proofs.Changed.{within-fits}
use Rattle.book_teaching.specs.Conditions.{WouldPass, lives, touched, PartMissing, from_tops, from_lows, from_middles}

-- ---- counts that would pass

-- In a sorted section whose counts are at most 65,535 no key counts more.
pub count-few : (z : List ℕ) (es : List Entry) → Sorted es → fitting es ≡ true → count_of z es ≤ greatest_count
count-few z es s f = go (has z es) refl
  where
    go : (x : Bool) → has z es ≡ x → count_of z es ≤ greatest_count
    go true h = let i = has-entry z es h in omega (arith, entry-count z s i.1 i.2, fitting-entry es f i.0 i.1)
    go false h = omega (arith, lacks_counts z es s h)

-- A tree of the list counts 65,535, or each counts less.
data Room (ts : List Tree) (es : List Entry) : Type 0 where
  full : (u : Tree) → u ∈ ts → count_of (words u) es ≡ greatest_count → Room ts es
  free : ((u : Tree) → u ∈ ts → count_of (words u) es < greatest_count) → Room ts es

-- One of the two holds of a section whose counts are at most 65,535.
room : (ts : List Tree) (es : List Entry) → Sorted es → fitting es ≡ true → Room ts es
room [] es s f = free (λ u m. absurd (Memᴰ.not-nil m))
room (t ∷ ts) es s f = go (dec_lt (count_of (words t) es) greatest_count) (room ts es s f)
  where
    go : Dec (count_of (words t) es < greatest_count) → Room ts es → Room (t ∷ ts) es
    go (no h) r = full t (here refl) (omega (arith, count-few (words t) es s f))
    go (yes h) (full u m e) = full u (there m) e
    go (yes h) (free each) = free each_first
      where
        each_first : (u : Tree) → u ∈ t ∷ ts → count_of (words u) es < greatest_count
        each_first u (here q) = rw q h
        each_first u (there m) = each u m

-- With one more of each tree, each of which counts less, a section's counts are still at most 65,535.
each_fits : (ts : List Tree) (es : List Entry) → NoRepeats ts → Sorted es → fitting es ≡ true → ((u : Tree) → u ∈ ts → count_of (words u) es < greatest_count) → fitting (add_each 1 ts es) ≡ true
unfolding add_each NoRepeats when◌then◌else◌
each_fits [] es r s f h = f
each_fits (t ∷ ts) es r s f h =
    let same : count_of (words t) (add_each 1 ts es) ≡ count_of (words t) es = count-each 1 t ts es r.1 ∙ rw (lacks_any t ts r.0) (omega arith) in
    fitting-add 1 (words t) (add_each 1 ts es) (sorted-each 1 ts es (omega arith) s)
    ∙ and_both (le-leb (count_of (words t) (add_each 1 ts es) + 1) greatest_count (omega (arith, h t (here refl)))) (each_fits ts es r.1 s f (λ u m. h u (there m)))

-- Something would pass 65,535, or the counts fit once the order is taught.
data PassOrFit (t : Tree) (b : Book) : Type 0 where
  passes : WouldPass t b → PassOrFit t b
  fits : within_counts (taught 1 t b) ≡ true → PassOrFit t b

module _ (t : Tree) (b : Book) (form : in_form b ≡ true) where
  -- Where a section has room its counts fit once the order is taught.
  section-fits : (s : Section) → ((u : Tree) → u ∈ trees_in s b.k t → count_of (words u) (section_of s b) < greatest_count) → fitting (section_of s (taught 1 t b)) ≡ true
  section-fits s h =
      ap fitting (taught-section 1 t b s) ∙ each_fits (trees_in s b.k t) (section_of s b) (trees-once b.k t s) (form-sorted b form s) (form-fitting b form s) h

  -- One of the two holds of a book in form.
  pass_or_fit : PassOrFit t b
  unfolding within_counts section_of
  pass_or_fit = go (dec_lt (live b) greatest_count) (rooms Taught) (rooms Tops) (rooms Lows) (rooms Middles)
    where
      rooms : (s : Section) → Room (trees_in s b.k t) (section_of s b)
      rooms s = room (trees_in s b.k t) (section_of s b) (form-sorted b form s) (form-fitting b form s)

      go : Dec (live b < greatest_count) → Room (trees_in Taught b.k t) (section_of Taught b) → Room (trees_in Tops b.k t) (section_of Tops b)
          → Room (trees_in Lows b.k t) (section_of Lows b) → Room (trees_in Middles b.k t) (section_of Middles b) → PassOrFit t b
      go (no h) x y z w = passes (lives (omega (arith, (form-sound b form).few)))
      go (yes h) (full u m e) y z w = passes (touched Taught u m e)
      go (yes h) (free i) (full u m e) z w = passes (touched Tops u m e)
      go (yes h) (free i) (free j) (full u m e) w = passes (touched Lows u m e)
      go (yes h) (free i) (free j) (free k) (full u m e) = passes (touched Middles u m e)
      go (yes h) (free i) (free j) (free k) (free l) =
          fits (and_both (le-leb (live (taught 1 t b)) greatest_count (omega (arith, live-taught 1 t b)))
          (and_both (section-fits Taught i) (and_both (section-fits Tops j) (and_both (section-fits Lows k) (section-fits Middles l)))))

  -- Where the counts fit once the order is taught nothing would pass.
  pub within_none : within_counts (taught 1 t b) ≡ true → WouldPass t b → ⊥
  within_none w (lives e) = omega (arith, (within-fits _ w).0, live-taught 1 t b)
  within_none w (touched s u m e) =
      omega (arith, count-few (words u) (section_of s (taught 1 t b)) (taught-in_order 1 t b (omega arith) (form-sorted b form) s) ((within-fits _ w).1 s), count-after_taught 1 t u b s, times-counted s b.k 1 t u m)

  -- Where the counts do not fit then, something would pass.
  pub not_within : within_counts (taught 1 t b) ≡ false → WouldPass t b
  not_within w = go pass_or_fit
    where
      go : PassOrFit t b → WouldPass t b
      go (passes p) = p
      go (fits f) = no_test (sym w ∙ f)

  -- Where nothing would pass, the counts fit.
  pub none_passes : (WouldPass t b → ⊥) → within_counts (taught 1 t b) ≡ true
  none_passes n = go pass_or_fit
    where
      go : PassOrFit t b → within_counts (taught 1 t b) ≡ true
      go (passes p) = absurd (n p)
      go (fits f) = f

-- ---- parts that are missing

-- Some tree of the list has no entry, or each has one.
data Entered (ts : List Tree) (es : List Entry) : Type 0 where
  missing : (u : Tree) → u ∈ ts → has (words u) es ≡ false → Entered ts es
  each : has_each ts es ≡ true → Entered ts es

-- One of the two holds.
entered : (ts : List Tree) (es : List Entry) → Entered ts es
unfolding has_each
entered [] es = each refl
entered (t ∷ ts) es = go (has (words t) es) refl (entered ts es)
  where
    go : (x : Bool) → has (words t) es ≡ x → Entered ts es → Entered (t ∷ ts) es
    go false h e = missing t (here refl) h
    go true h (missing u m l) = missing u (there m) l
    go true h (each a) = each (and_both h a)

module _ (t : Tree) (b : Book) where
  -- Where the test of the parts fails one is missing.
  pub fails_missing : has_parts t b ≡ false → PartMissing t b
  unfolding has_parts
  fails_missing f = go (has (words (top b.k t)) b.R) refl (entered (low_parts b.k t) b.L) (entered (middle_parts b.k t) b.P)
    where
      go : (x : Bool) → has (words (top b.k t)) b.R ≡ x → Entered (low_parts b.k t) b.L → Entered (middle_parts b.k t) b.P → PartMissing t b
      go false h l p = from_tops h
      go true h (missing u m e) p = from_lows u m e
      go true h (each l) (missing u m e) = from_middles u m e
      go true h (each l) (each p) = no_test (sym f ∙ and_both h (and_both l p))

  -- Where it passes none is.
  pub passes_none : has_parts t b ≡ true → PartMissing t b → ⊥
  unfolding has_parts
  passes_none p (from_tops h) = no_test (sym h ∙ and_left _ _ p)
  passes_none p (from_lows u m h) = no_test (sym h ∙ has-each (low_parts b.k t) b.L (and_left _ _ (and_right _ _ p)) u m)
  passes_none p (from_middles u m h) = no_test (sym h ∙ has-each (middle_parts b.k t) b.P (and_right _ _ (and_right _ _ p)) u m)
