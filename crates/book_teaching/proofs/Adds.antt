-- Teaching an order and withdrawing it are changes by its own book; what that says of the words used, of the counts, and of what is lacking.
-- Assumes nothing.
use Prim.Native.Nat.{ℕ, ◌+◌, ◌-◌, ◌≤◌, ◌<◌}
use mathlib.Core.Path.{◌≡◌, refl, sym, ap, ◌∙◌}
use mathlib.Core.Bool.{Bool, true, false, not}
use mathlib.Core.List.Memᴰ
use mathlib.Core.List.Memᴰ.{head as here}
use mathlib.Core.List.Memᴰ.{tail as there}
use mathlib.Core.List.{List, [], ◌∷◌}
use native.Mathlib.Omega.{arith}
use lib.Dec.{leb}
use borrow.Author.Tests.{le-leb, lt-leb}
use Rattle.words.specs.Base.{◌and◌, when◌then◌else◌, same_words, ◌∈◌}
use Rattle.words.proofs.Tests.{and_left, and_right, and_both, fails_left, fails_right, same-words, not_any, fails_some}
use Rattle.figures.specs.Limits.{greatest_count}
use Rattle.order.specs.Trees.{Tree, words}
use Rattle.order.specs.Parts.{top, low_parts, middle_parts}
use Rattle.order.proofs.Once.{NoRepeats}
use Rattle.section.specs.Entries.{Entry, has, count_of, Sorted}
use Rattle.section_change.specs.Editing.{add_all, lower_all, fitting, lacking_words, overfull}
use Rattle.section.proofs.Counts.{count_add, count-lower, total-lower, has-add, has-entry}
use Rattle.section.proofs.Sorting.{sorted-lower, same-counts}
use Rattle.section_change.proofs.Adding.{sorted-add_all, count-add_all}
use Rattle.section_change.proofs.Lowering.{sorted-lower_all, count-lower_all}
use Rattle.section_change.proofs.Weighing.{lacking_none, none-lacking, overfull-fitting}
use Rattle.book.specs.Book.{Book, section_of, used, live, in_form, with_section}
use Rattle.book.specs.Taught.{add_each, taught, book_of, trees_in}
use Rattle.book.specs.declared.Section.{Section}
use Rattle.book.specs.declared.Section.TheVariants.{Taught, Tops, Lows, Middles}
use Rattle.book.proofs.Sections.{each-section, same_books, form-sorted, InOrder}
use Rattle.book.proofs.Taught.{sorted-each, each-keys}
use Rattle.book.proofs.Teachings.{each-count, each-sorted, own_section, taught-section, trees-once, live-taught, count-each_apart}
use Rattle.book_teaching.specs.Calls.{lower_each, withdrawn, has_each, has_parts}
use Rattle.book_listing.specs.Own.{own_book}
use Rattle.book_change.specs.Counts.{within_counts}
use Rattle.book_change.specs.Changing.{changed_in, changed_book, lacking_parts, lacking_all, overfull_any}
use Rattle.book_change.specs.declared.Change.TheVariants.{Teach, Withdraw}
use Rattle.book_change.proofs.Sections.{form-fitting}
use Rattle.book_change.proofs.Changed.{changed-section, used-changed}
use Rattle.book_change.proofs.Sums.{added, added_k, added_sorted, added_groups}

-- A section once an order is withdrawn.
pub withdrawn-section : (t : Tree) (b : Book) (s : Section) → section_of s (withdrawn t b) ≡ lower_each (trees_in s b.k t) (section_of s b)
unfolding section_of withdrawn lower_each
withdrawn-section t b = each-section _ refl refl refl refl

-- ---- each tree of a list

-- n more of each tree are the sum with the section of these alone.
pub each_all : (n : ℕ) (ts : List Tree) (es : List Entry) → 1 ≤ n → Sorted es → add_each n ts es ≡ add_all (add_each n ts []) es
each_all n ts es p s =
    same-counts _ _ (sorted-each n ts es p s) (sorted-add_all _ es (each-sorted n ts p) s) (λ z. count-each_apart n z ts es ∙ sym (count-add_all z (add_each n ts []) es))

-- With one less of each tree a section is still sorted.
pub sorted-lower_each : (ts : List Tree) (es : List Entry) → Sorted es → Sorted (lower_each ts es)
unfolding lower_each
sorted-lower_each [] es s = s
sorted-lower_each (t ∷ ts) es s = sorted-lower (words t) (lower_each ts es) (sorted-lower_each ts es s)

-- One less of each tree counts for a key less what one of each counts, down to 0.
pub count-lower_each : (z : List ℕ) (ts : List Tree) (es : List Entry) → Sorted es → count_of z (lower_each ts es) ≡ count_of z es - count_of z (add_each 1 ts [])
unfolding add_each lower_each count_of
count-lower_each z [] es s = omega arith
count-lower_each z (t ∷ ts) es s =
    omega (arith, count-lower (words t) z (lower_each ts es) (sorted-lower_each ts es s), count_add 1 (words t) z (add_each 1 ts []), count-lower_each z ts es s)

-- One less of each tree of a list without repeats is one less of each key of their section.
lower-each_all : (ts : List Tree) (es : List Entry) → NoRepeats ts → Sorted es → lower_each ts es ≡ lower_all (add_each 1 ts []) es
lower-each_all ts es r s =
    let own : Sorted (add_each 1 ts []) = each-sorted 1 ts (omega arith) in
    same-counts _ _ (sorted-lower_each ts es s) (sorted-lower_all _ es s) (λ z.
    count-lower_each z ts es s ∙ ap (λ (n : ℕ). count_of z es - n) (each-count 1 z ts r) ∙ sym (count-lower_all z _ es own s))

-- ---- changes by the order's own book

-- The book of one teaching has sorted sections.
own_sorted : (k : ℕ) (t : Tree) (s : Section) → Sorted (section_of s (own_book k 1 t))
own_sorted k t s = rw (own_section 1 k t s) (each-sorted 1 (trees_in s k t) (omega arith))

module _ (t : Tree) (b : Book) (sorted : (s : Section) → Sorted (section_of s b)) where
  -- n teachings of an order add the book of these teachings.
  pub taught-changed : (n : ℕ) → 1 ≤ n → taught n t b ≡ changed_book Teach (book_of b.k (record { order = t; times = n } ∷ [])) b
  unfolding taught changed_book changed_in with_section
  taught-changed n p = same_books _ _ refl (λ s.
      taught-section n t b s ∙ each_all n (trees_in s b.k t) (section_of s b) p (sorted s)
      ∙ sym (changed-section Teach _ b s ∙ ap (λ (os : List Entry). add_all os (section_of s b)) (own_section n b.k t s)))

  -- Withdrawing an order takes its own book away.
  pub withdrawn-changed : withdrawn t b ≡ changed_book Withdraw (own_book b.k 1 t) b
  unfolding withdrawn changed_book changed_in with_section
  withdrawn-changed = same_books _ _ refl (λ s.
      withdrawn-section t b s ∙ lower-each_all (trees_in s b.k t) (section_of s b) (trees-once b.k t s) (sorted s)
      ∙ sym (changed-section Withdraw _ b s ∙ ap (λ (os : List Entry). lower_all os (section_of s b)) (own_section 1 b.k t s)))

-- A teaching may come before another book is added, or after it.
pub taught-added : (n : ℕ) (t : Tree) (x b : Book) → 1 ≤ n → InOrder x → InOrder b → x.k ≡ b.k → taught n t (added x b) ≡ added (taught n t x) b
taught-added n t x b p sx sb same =
    taught-changed t (added x b) (added_sorted x b sx sb) n p
    ∙ ap (λ (k : ℕ). added (own k) (added x b)) (added_k x b ∙ sym same)
    ∙ added_groups (own x.k) x b (λ s. rw (own_section n x.k t s) (each-sorted n (trees_in s x.k t) p)) sx sb
    ∙ ap (λ (y : Book). added y b) (sym (taught-changed t x sx n p))
  where
    -- The book of these teachings alone.
    own : ℕ → Book
    own k = book_of k (record { order = t; times = n } ∷ [])

-- ---- the words used

-- Once an order is taught the book uses the words more that its own book has and the book lacked.
pub used-taught : (t : Tree) (b : Book) → ((s : Section) → Sorted (section_of s b)) → used (taught 1 t b) ≡ used b + lacking_all (own_book b.k 1 t) b
used-taught t b sorted = ap used (taught-changed t b sorted 1 (omega arith)) ∙ used-changed (own_book b.k 1 t) b (own_sorted b.k t) sorted

-- ---- the counts

-- Withdrawing an order that has an entry is one live teaching less.
pub live-withdrawn : (t : Tree) (b : Book) → Sorted (section_of Taught b) → has (words t) b.T ≡ true → live (withdrawn t b) + 1 ≡ live b
unfolding live withdrawn section_of
live-withdrawn t b sorted entry = total-lower (words t) b.T sorted entry

module _ (t : Tree) (b : Book) (form : in_form b ≡ true) where
  -- Once an order is taught a section's counts fit just if its own book would make none of them pass 65,535.
  fitting-taught : (s : Section) → fitting (section_of s (taught 1 t b)) ≡ not (overfull (section_of s (own_book b.k 1 t)) (section_of s b))
  fitting-taught s =
      let sorted = form-sorted b form in
      ap (λ (c : Book). fitting (section_of s c)) (taught-changed t b sorted 1 (omega arith))
      ∙ ap fitting (changed-section Teach (own_book b.k 1 t) b s)
      ∙ overfull-fitting _ _ (own_sorted b.k t s) (sorted s) (form-fitting b form s)

  -- Once an order is taught the counts are within 65,535 just if one live teaching more is, and its own book would make none of them pass.
  within-is : within_counts (taught 1 t b) ≡ (leb (live b + 1) greatest_count and not (overfull_any (own_book b.k 1 t) b))
  unfolding within_counts overfull_any section_of
  within-is =
      rw (live-taught 1 t b, fitting-taught Taught, fitting-taught Tops, fitting-taught Lows, fitting-taught Middles) (ap (λ (r : Bool). leb (live b + 1) greatest_count and r) (sym (not_any _ _ _ _)))

  -- Where one live teaching more has room and no count would pass, the counts are within 65,535 once the order is taught.
  pub within-taught : live b < greatest_count → overfull_any (own_book b.k 1 t) b ≡ false → within_counts (taught 1 t b) ≡ true
  within-taught h o = within-is ∙ and_both (le-leb (live b + 1) greatest_count (omega arith)) (ap not o)

  -- Where one live teaching more has no room, they are not.
  pub lives_pass : greatest_count ≤ live b → within_counts (taught 1 t b) ≡ false
  lives_pass h = within-is ∙ fails_left _ _ (lt-leb (live b + 1) greatest_count (omega arith))

  -- Where a count would pass, they are not.
  pub count-passes : overfull_any (own_book b.k 1 t) b ≡ true → within_counts (taught 1 t b) ≡ false
  count-passes o = within-is ∙ fails_right _ _ (ap not o)

-- ---- what is lacking

-- Where each tree of a list has an entry, the test passes.
pub each-has : (ts : List Tree) (es : List Entry) → ((t : Tree) → t ∈ ts → has (words t) es ≡ true) → has_each ts es ≡ true
unfolding has_each
each-has [] es h = refl
each-has (t ∷ ts) es h = and_both (h t (here refl)) (each-has ts es (λ u m. h u (there m)))

-- Where the test passes, each tree of the list has an entry.
pub has-each : (ts : List Tree) (es : List Entry) → has_each ts es ≡ true → (t : Tree) → t ∈ ts → has (words t) es ≡ true
unfolding has_each
has-each [] es h u m = absurd (Memᴰ.not-nil m)
has-each (t ∷ ts) es h u (here q) = rw q (and_left _ _ h)
has-each (t ∷ ts) es h u (there m) = has-each ts es (and_right _ _ h) u m

-- One of each tree has an entry for each.
each_in : (ts : List Tree) (t : Tree) → t ∈ ts → has (words t) (add_each 1 ts []) ≡ true
unfolding add_each when◌then◌else◌
each_in [] u m = absurd (Memᴰ.not-nil m)
each_in (t ∷ ts) u (here q) = rw (q, has-add 1 (words t) (words t) (add_each 1 ts []), same-words (words t))
each_in (t ∷ ts) u (there m) = rw (has-add 1 (words t) (words u) (add_each 1 ts []), each_in ts u m) (go (same_words (words t) (words u)))
  where
    go : (b : Bool) → (when b then true else true) ≡ true
    go true = refl
    go false = refl

-- A section that lacks no words of one of each tree has an entry for each.
lacking_no_tree : (ts : List Tree) (es : List Entry) → lacking_words (add_each 1 ts []) es ≡ 0 → has_each ts es ≡ true
lacking_no_tree ts es h = each-has ts es (λ t m.
    let i = has-entry (words t) (add_each 1 ts []) (each_in ts t m) in
    ap (λ (z : List ℕ). has z es) (sym i.2) ∙ lacking_none _ es h i.0 i.1)

-- A section that has an entry for each tree lacks no words of one of each.
no_tree-lacking : (ts : List Tree) (es : List Entry) → has_each ts es ≡ true → lacking_words (add_each 1 ts []) es ≡ 0
no_tree-lacking ts es h = none-lacking _ es (each-keys (λ z. has z es ≡ true) 1 ts [] (has-each ts es h) (λ e m. absurd (Memᴰ.not-nil m)))

module _ (t : Tree) (b : Book) where
  -- The order has an entry in T where its own T lacks no words there.
  pub has-own : lacking_words (own_book b.k 1 t).T b.T ≡ 0 → has (words t) b.T ≡ true
  unfolding book_of taught add_each has_each
  has-own h = and_left _ _ (lacking_no_tree (t ∷ []) b.T h)

  -- It has none where words are lacking.
  pub has-no_own : 0 < lacking_words (own_book b.k 1 t).T b.T → has (words t) b.T ≡ false
  unfolding book_of taught add_each has_each
  has-no_own h = fails_some _ _ (λ e. no_tree-lacking (t ∷ []) b.T (and_both e refl)) h

  -- Every part has an entry where the own R, L and P lack no words.
  pub has-own_parts : lacking_parts (own_book b.k 1 t) b ≡ 0 → has_parts t b ≡ true
  unfolding book_of taught add_each has_each has_parts lacking_parts
  has-own_parts h =
      and_both (and_left _ _ (lacking_no_tree (top b.k t ∷ []) b.R (omega arith)))
      (and_both (lacking_no_tree (low_parts b.k t) b.L (omega arith)) (lacking_no_tree (middle_parts b.k t) b.P (omega arith)))

  -- A part is missing where words are lacking.
  pub has-no_own_parts : 0 < lacking_parts (own_book b.k 1 t) b → has_parts t b ≡ false
  unfolding book_of taught add_each has_each has_parts lacking_parts
  has-no_own_parts h = fails_some _ _ (λ e.
      let f = and_right _ _ e in
      let r = no_tree-lacking (top b.k t ∷ []) b.R (and_both (and_left _ _ e) refl) in
      let l = no_tree-lacking (low_parts b.k t) b.L (and_left _ _ f) in
      let p = no_tree-lacking (middle_parts b.k t) b.P (and_right _ _ f) in
      omega arith) h
