-- What the orders of a T in form count in a section, what is tallied for them there, and what the tests of the tallies say. Assumes nothing.
use Prim.Native.Nat.{ℕ, zero, suc, ◌+◌, ◌≤◌}
use mathlib.Core.Path.{◌≡◌, refl, sym, ap, ap₂, ◌∙◌}
use mathlib.Core.Bool.{Bool, true, false}
use mathlib.Core.List.Memᴰ
use mathlib.Core.List.Memᴰ.{head as here}
use mathlib.Core.List.Memᴰ.{tail as there}
use mathlib.Core.List.{List, [], ◌∷◌}
use native.Mathlib.Omega.{arith}
use lib.ListN.{length, get_or, replicate}
use borrow.Author.Tests.{eq-eqb, eqb-true}
use Rattle.words.specs.Base.{when◌then◌else◌, ◌∈◌}
use Rattle.words.proofs.Tests.{and_left, and_right, and_both}
use Rattle.figures.specs.Limits.{greatest_depth}
use Rattle.section.specs.Entries.{Entry, has, count_of, total, Sorted}
use Rattle.section.proofs.Counts.{has-entry, entry_has}
use Rattle.section_tally.specs.Tallying.{on_each, tallied, same_counts}
use Rattle.section_tally.proofs.Tallies.{each-known, known-each}
use Rattle.order.specs.Trees.{Tree, words}
use Rattle.order.specs.Reading.{by_order}
use Rattle.order.specs.Fits.{Fits}
use Rattle.order.proofs.Fitting.{order-read, fits-order_of}
use Rattle.book.specs.Book.{Book, section_of}
use Rattle.book.specs.Taught.{Teaching, taught, book_of, teachings_in, trees_in}
use Rattle.book.specs.declared.Section.{Section}
use Rattle.book.proofs.Taught.{taught-k, none_in}
use Rattle.book.proofs.Teachings.{taught-section, own_section, trees-once, count-each_apart, each-count}
use Rattle.book.proofs.Agreeing.{TaughtOrders, later-taught, first}
use Rattle.book_listing.specs.Own.{own_book, own_of}
use Rattle.book_recount.specs.Tallies.{parts_in, all_known, tallied_all}

-- ---- what the orders of a T count

-- n teachings of an order count n more in a section for each key that one teaching counts there, and nothing for others.
count-own : (n : ℕ) (t : Tree) (b : Book) (s : Section) (z : List ℕ)
    → count_of z (section_of s (taught n t b)) ≡ (when has z (section_of s (own_book b.k 1 t)) then n else 0) + count_of z (section_of s b)
count-own n t b s z =
    let ts : List Tree = trees_in s b.k t in
    rw (taught-section n t b s, own_section 1 b.k t s) (omega (arith, count-each_apart n z ts (section_of s b), each-count n z ts (trees-once b.k t s)))

-- What the orders of a T count in a section.
abbrev pub counted_in : Section → ℕ → List Entry → List Entry
counted_in s k ts = section_of s (book_of k (teachings_in ts))

-- What the order with these words counts is the section of its own book.
own_parts : (s : Section) (k : ℕ) (os : List ℕ) (t : Tree) → os ≡ words t → Fits 0 greatest_depth os → parts_in s k os ≡ section_of s (own_book k 1 t)
unfolding own_of by_order
own_parts s k os t e f = rw (order-read os t (fits-order_of os t e f))

-- Each order of a T in form counts, for the keys that one teaching of it counts, as often as its entry counts.
count-more : (s : Section) (k : ℕ) (e : Entry) (ts : List Entry) → TaughtOrders (e ∷ ts) → (z : List ℕ)
    → count_of z (counted_in s k (e ∷ ts)) ≡ (when has z (parts_in s k e.key) then e.count else 0) + count_of z (counted_in s k ts)
unfolding book_of
count-more s k e ts o z =
    let f = first e ts o in
    let B : Book = book_of k (teachings_in ts) in
    let same = own_parts s k e.key f.tree f.spelt (o.limits e (here refl)) in
    let own : section_of s (own_book B.k 1 f.tree) ≡ parts_in s k e.key = ap (λ (n : ℕ). section_of s (own_book n 1 f.tree)) (taught-k k (teachings_in ts)) ∙ sym same in
    ap (λ (os : List Teaching). count_of z (section_of s (book_of k os))) f.reads ∙ count-own e.count f.tree B s z
    ∙ ap (λ (es : List Entry). (when has z es then e.count else 0) + count_of z (section_of s B)) own

-- The orders of a T count for no key more than they count together.
pub count_most : (s : Section) (k : ℕ) (ts : List Entry) → TaughtOrders ts → (z : List ℕ) → count_of z (counted_in s k ts) ≤ total ts
unfolding teachings_in count_of total when◌then◌else◌
count_most s k [] o z = rw (none_in s k) (omega arith)
count_most s k (e ∷ ts) o z = go (has z (parts_in s k e.key)) (count-more s k e ts o z) (count_most s k ts (later-taught e ts o) z)
  where
    go : (b : Bool) → count_of z (counted_in s k (e ∷ ts)) ≡ (when b then e.count else 0) + count_of z (counted_in s k ts) → count_of z (counted_in s k ts) ≤ total ts
        → count_of z (counted_in s k (e ∷ ts)) ≤ e.count + total ts
    go true q ih = omega arith
    go false q ih = omega arith

-- ---- counts by keys

-- A count for each entry, by its key.
unfoldable pub counts_by : (List ℕ → ℕ) → List Entry → List ℕ
counts_by f [] = []
counts_by f (e ∷ es) = f e.key ∷ counts_by f es

-- Counts that are the same for each key are the same.
counts_same : (f g : List ℕ → ℕ) (es : List Entry) → ((z : List ℕ) → f z ≡ g z) → counts_by f es ≡ counts_by g es
unfolding counts_by
counts_same f g [] h = refl
counts_same f g (e ∷ es) h = rw (h e.key, counts_same f g es h)

-- Zeros count nothing for each entry.
counts-none : (es : List Entry) → replicate (length es) 0 ≡ counts_by (λ z. 0) es
unfolding counts_by
counts-none [] = refl
counts-none (e ∷ es) = ap (λ (cs : List ℕ). 0 ∷ cs) (counts-none es)

-- Where no key counts more than n, no count passes n.
pub counts-few : (f : List ℕ → ℕ) (n : ℕ) (es : List Entry) → ((z : List ℕ) → f z ≤ n) → (i : ℕ) → get_or (counts_by f es) i 0 ≤ n
unfolding counts_by
counts-few f n [] h i = omega arith
counts-few f n (e ∷ es) h zero = h e.key
counts-few f n (e ∷ es) h (suc i) = counts-few f n es h i

-- What is tallied for an order is n more for each key that it counts.
tallied-counts : (n : ℕ) (os es : List Entry) (f : List ℕ → ℕ) → tallied n os es (counts_by f es) ≡ counts_by (λ z. f z + (when has z os then n else 0)) es
unfolding on_each counts_by when◌then◌else◌
tallied-counts n os [] f = refl
tallied-counts n os (e ∷ es) f = ap₂ (λ (c : ℕ) (cs : List ℕ). c ∷ cs) (go (has e.key os)) (tallied-counts n os es f)
  where
    go : (b : Bool) → (when b then f e.key + n else f e.key) ≡ f e.key + (when b then n else 0)
    go true = refl
    go false = omega arith

-- What is tallied for the orders of a T in form is, for each key, what they count.
all-counts : (s : Section) (k : ℕ) (ts es : List Entry) → TaughtOrders ts → (f : List ℕ → ℕ) → tallied_all s k ts es (counts_by f es) ≡ counts_by (λ z. f z + count_of z (counted_in s k ts)) es
unfolding tallied_all teachings_in count_of
all-counts s k [] es o f = counts_same _ _ es (λ z. rw (none_in s k) (omega arith))
all-counts s k (t ∷ ts) es o f =
    ap (tallied_all s k ts es) (tallied-counts t.count (parts_in s k t.key) es f)
    ∙ all-counts s k ts es (later-taught t ts o) (λ z. f z + (when has z (parts_in s k t.key) then t.count else 0))
    ∙ counts_same _ _ es (λ z. omega (arith, count-more s k t ts o z))

-- Tallied from zeros on, it is what they count.
pub tallied-is : (s : Section) (k : ℕ) (ts es : List Entry) → TaughtOrders ts → tallied_all s k ts es (replicate (length es) 0) ≡ counts_by (λ z. count_of z (counted_in s k ts)) es
tallied-is s k ts es o = ap (tallied_all s k ts es) (counts-none es) ∙ all-counts s k ts es o (λ z. 0) ∙ counts_same _ _ es (λ z. omega arith)

-- ---- the tests

-- The test of counts by keys passes where each entry counts what its key does.
pub same_by : (f : List ℕ → ℕ) (es : List Entry) → ((e : Entry) → e ∈ es → e.count ≡ f e.key) → same_counts es (counts_by f es) ≡ true
unfolding same_counts counts_by
same_by f [] h = refl
same_by f (e ∷ es) h = and_both (eq-eqb e.count (f e.key) (h e (here refl))) (same_by f es (λ i m. h i (there m)))

-- It passes only where each entry counts what its key does.
pub by_same : (f : List ℕ → ℕ) (es : List Entry) → same_counts es (counts_by f es) ≡ true → (e : Entry) → e ∈ es → e.count ≡ f e.key
unfolding same_counts counts_by
by_same f [] h i m = absurd (Memᴰ.not-nil m)
by_same f (e ∷ es) h i (here q) = rw q (eqb-true e.count (f e.key) (and_left _ _ h))
by_same f (e ∷ es) h i (there m) = by_same f es (and_right _ _ h) i m

module _ (s : Section) (k : ℕ) where
  -- All is known where each key that the orders count has an entry.
  pub counted-known : (ts es : List Entry) → TaughtOrders ts → ((z : List ℕ) → 1 ≤ count_of z (counted_in s k ts) → has z es ≡ true) → all_known s k ts es ≡ true
  unfolding all_known when◌then◌else◌ Sorted
  counted-known [] es o h = refl
  counted-known (t ∷ ts) es o h =
      and_both (each-known (parts_in s k t.key) es (λ i m. h i.key (part i m)))
      (counted-known ts es (later-taught t ts o) (λ z p. h z (omega (arith, count-more s k t ts o z))))
    where
      part : (i : Entry) → i ∈ parts_in s k t.key → 1 ≤ count_of i.key (counted_in s k (t ∷ ts))
      part i m = omega (arith, o.sorted.0, rw (entry_has i.key m refl) at (count-more s k t ts o i.key))

  -- Where all is known each key that the orders count has an entry.
  pub known-counted : (ts es : List Entry) → TaughtOrders ts → all_known s k ts es ≡ true → (z : List ℕ) → 1 ≤ count_of z (counted_in s k ts) → has z es ≡ true
  unfolding all_known teachings_in count_of when◌then◌else◌
  known-counted [] es o h z p = absurd (omega (arith, ap (count_of z) (none_in s k)))
  known-counted (t ∷ ts) es o h z p = go (has z (parts_in s k t.key)) refl (count-more s k t ts o z) (known-counted ts es (later-taught t ts o) (and_right _ _ h) z)
    where
      go : (b : Bool) → has z (parts_in s k t.key) ≡ b → count_of z (counted_in s k (t ∷ ts)) ≡ (when b then t.count else 0) + count_of z (counted_in s k ts)
          → (1 ≤ count_of z (counted_in s k ts) → has z es ≡ true) → has z es ≡ true
      go true q c ih =
          let i = has-entry z (parts_in s k t.key) q in
          ap (λ (y : List ℕ). has y es) (sym i.2) ∙ known-each (parts_in s k t.key) es (and_left _ _ h) i.0 i.1
      go false q c ih = ih (omega arith)
