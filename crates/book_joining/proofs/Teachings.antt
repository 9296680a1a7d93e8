-- Teachings that a book can hold: the book of two lists of them is the sum of their books, and the book of those that a book's T counts is the book
-- again. Assumes nothing.
use Prim.Native.Nat.{ℕ, ◌+◌, ◌≤◌}
use mathlib.Core.Path.{◌≡◌, refl, sym, ap, ◌∙◌}
use mathlib.Core.Bool.{true}
use mathlib.Core.List.Memᴰ
use mathlib.Core.List.Memᴰ.{head as here}
use mathlib.Core.List.Memᴰ.{tail as there}
use mathlib.Core.List.{List, [], ◌∷◌, ◌++◌}
use native.Mathlib.Omega.{arith}
use Rattle.words.specs.Base.{◌∈◌}
use Rattle.figures.specs.Limits.{greatest_depth}
use Rattle.section.specs.Entries.{Entry, count_of}
use Rattle.order.specs.Trees.{Tree, words}
use Rattle.order.specs.Fits.{Fits}
use Rattle.book.specs.Book.{Book, section_of, in_form}
use Rattle.book.specs.Taught.{Teaching, add_each, taught, book_of, teachings_in, agreeing, trees_in}
use Rattle.book.specs.declared.Section.{Section}
use Rattle.book.specs.declared.Section.TheVariants.{Taught}
use Rattle.book.proofs.Taught.{taught-k, taught-sorted, taught-fits, none_in}
use Rattle.book.proofs.Teachings.{taught-section, count-each_apart}
use Rattle.book.proofs.Agreeing.{TaughtOrders, form-orders, later-taught, first, teachings-live, more_taught, is-agreeing}
use Rattle.book.proofs.Sections.{by_counts}
use Rattle.book_change.proofs.Sums.{added, added_k, added_counts, added_sorted}

-- ---- teachings that a book can hold

-- Live teachings of orders within limits.
pub record Taken (os : List Teaching) : Type 0 where
  pub live : (o : Teaching) → o ∈ os → 1 ≤ o.times
  pub fits : (o : Teaching) → o ∈ os → Fits 0 greatest_depth (words o.order)

-- What holds of the members of two lists holds of those of both together.
append-in : {A : Type 0} (Q : A → Type 0) (xs ys : List A) → ((a : A) → a ∈ xs → Q a) → ((a : A) → a ∈ ys → Q a) → (a : A) → a ∈ xs ++ ys → Q a
append-in Q [] ys p q a m = q a m
append-in Q (x ∷ xs) ys p q a (here e) = rw e (p x (here refl))
append-in Q (x ∷ xs) ys p q a (there m) = append-in Q xs ys (λ b i. p b (there i)) q a m

-- Two lists of such teachings together are such.
pub both_taken : (xs ys : List Teaching) → Taken xs → Taken ys → Taken (xs ++ ys)
both_taken xs ys p q = record {
  live = append-in (λ o. 1 ≤ o.times) xs ys p.live q.live;
  fits = append-in (λ o. Fits 0 greatest_depth (words o.order)) xs ys p.fits q.fits;
}

-- No teachings are such.
pub none-taken : Taken []
none-taken = record { live = λ o m. absurd (Memᴰ.not-nil m); fits = λ o m. absurd (Memᴰ.not-nil m) }

-- The orders of the teachings that a T of orders counts are within limits.
entries_fit : (es : List Entry) → TaughtOrders es → (o : Teaching) → o ∈ teachings_in es → Fits 0 greatest_depth (words o.order)
unfolding teachings_in
entries_fit [] s o m = absurd (Memᴰ.not-nil m)
entries_fit (e ∷ es) s o m = let f = first e es s in go f.tree f.spelt (rw f.reads at m) (entries_fit es (later-taught e es s) o)
  where
    -- By whether it is the first.
    go : (t : Tree) → e.key ≡ words t → o ∈ record { order = t; times = e.count } ∷ teachings_in es → (o ∈ teachings_in es → Fits 0 greatest_depth (words o.order))
        → Fits 0 greatest_depth (words o.order)
    go t q (here i) next = rw i (rw q at (s.limits e (here refl)))
    go t q (there i) next = next i

-- The teachings that the T of a book in form counts are such.
pub form-taken : (b : Book) → in_form b ≡ true → Taken (teachings_in b.T)
form-taken b f = let o = form-orders b f in record { live = teachings-live b.T o; fits = entries_fit b.T o }

-- ---- the sum

-- Teachings of an order more count, in each section, what they count alone, and what was counted.
count-more : (k : ℕ) (s : Section) (z : List ℕ) (o : Teaching) (os : List Teaching)
    → count_of z (section_of s (book_of k (o ∷ os))) ≡ count_of z (add_each o.times (trees_in s k o.order) []) + count_of z (section_of s (book_of k os))
unfolding book_of
count-more k s z o os =
    ap (count_of z) (taught-section o.times o.order (book_of k os) s)
    ∙ count-each_apart o.times z (trees_in s (book_of k os).k o.order) (section_of s (book_of k os))
    ∙ ap (λ (j : ℕ). count_of z (add_each o.times (trees_in s j o.order) []) + count_of z (section_of s (book_of k os))) (taught-k k os)

-- No teachings count nothing.
count_none : (k : ℕ) (s : Section) (z : List ℕ) → count_of z (section_of s (book_of k [])) ≡ 0
unfolding count_of
count_none k s z = ap (count_of z) (none_in s k)

-- The book of two lists of teachings counts, in each section, what the two books count.
count-append : (k : ℕ) (s : Section) (z : List ℕ) (xs ys : List Teaching)
    → count_of z (section_of s (book_of k (xs ++ ys))) ≡ count_of z (section_of s (book_of k xs)) + count_of z (section_of s (book_of k ys))
count-append k s z [] ys = omega (arith, count_none k s z)
count-append k s z (o ∷ xs) ys = omega (arith, count-more k s z o (xs ++ ys), count-more k s z o xs, count-append k s z xs ys)

-- It is the one with the other added, section by section.
pub append-adds : (k : ℕ) (xs ys : List Teaching) → Taken xs → Taken ys → book_of k (xs ++ ys) ≡ added (book_of k ys) (book_of k xs)
append-adds k xs ys p q =
    let b : Book = book_of k xs in
    let c : Book = book_of k ys in
    by_counts (book_of k (xs ++ ys)) (added c b) (taught-sorted k (xs ++ ys) (both_taken xs ys p q).live)
    (added_sorted c b (taught-sorted k ys q.live) (taught-sorted k xs p.live))
    (taught-k k (xs ++ ys) ∙ sym (taught-k k xs) ∙ sym (added_k c b)) (λ s z. omega (arith, count-append k s z xs ys, added_counts c b s z))

-- ---- a book by its T

-- The T of such teachings is one of orders.
taken_orders : (k : ℕ) (xs : List Teaching) → Taken xs → TaughtOrders (book_of k xs).T
unfolding section_of
taken_orders k xs p = record { sorted = taught-sorted k xs p.live Taught; limits = taught-fits k xs p.fits Taught }

-- What is left of such teachings is such.
later-taken : (o : Teaching) (os : List Teaching) → Taken (o ∷ os) → Taken os
later-taken o os p = record { live = λ x m. p.live x (there m); fits = λ x m. p.fits x (there m) }

-- The book of the teachings that the T of such teachings counts is theirs again.
taught-again : (k : ℕ) (xs : List Teaching) → Taken xs → book_of k (teachings_in (book_of k xs).T) ≡ book_of k xs
unfolding book_of taught
taught-again k [] p = unfold teachings_in in refl
taught-again k (o ∷ os) p =
    more_taught k o.times o.order (book_of k os).T (p.live o (here refl)) (p.fits o (here refl)) (taken_orders k os (later-taken o os p))
    ∙ ap (taught o.times o.order) (taught-again k os (later-taken o os p))

-- So their book agrees with itself.
pub taken_agrees : (k : ℕ) (xs : List Teaching) → Taken xs → agreeing (book_of k xs) ≡ true
taken_agrees k xs p = is-agreeing (book_of k xs) (sym (ap (λ (j : ℕ). book_of j (teachings_in (book_of k xs).T)) (taught-k k xs) ∙ taught-again k xs p))
