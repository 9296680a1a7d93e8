-- A book that agrees with itself is the book of the teachings that its T counts, and still is once an order is taught (01, "The book").
-- Assumes nothing.
use Rattle.std.specs.declared.cmp.Ordering.{Ordering}
use Rattle.std.specs.declared.cmp.Ordering.TheVariants.{Less, Equal, Greater}
use Prim.Native.Nat.{ℕ, ◌+◌, ◌≤◌}
use mathlib.Core.Path.{◌≡◌, refl, sym, ap, ap₂, ◌∙◌}
use mathlib.Core.Bool.{true}
use mathlib.Core.List.Memᴰ
use mathlib.Core.List.Memᴰ.{head as here}
use mathlib.Core.List.Memᴰ.{tail as there}
use mathlib.Core.List.{List, [], ◌∷◌}
use Rattle.words.specs.Base.{◌∈◌}
use Rattle.words.specs.Compare.{compare_of}
use Rattle.words.proofs.Ordered.{compare_equal}
use Rattle.words.proofs.Tests.{and_left, and_right, and_both}
use Rattle.figures.specs.Limits.{greatest_depth}
use Rattle.figures.specs.Numbers.{done}
use Rattle.section.specs.Entries.{Entry, counted, Sorted, by_compared, add}
use Rattle.section.proofs.Sorting.{add-below}
use Rattle.order.specs.Trees.{Tree, words}
use Rattle.order.specs.Reading.{by_found, found, tree_of, by_order, cause_of}
use Rattle.order.specs.Fits.{Fits}
use Rattle.order.proofs.Orders.{words-read}
use Rattle.order.proofs.Fitting.{fits-order_of, order-read}
use Rattle.book.specs.Book.{Book, section_of, in_form}
use Rattle.book.specs.Taught.{Teaching, taught, book_of, teachings_in, agreeing}
use Rattle.book.specs.declared.Section.{Section}
use Rattle.book.specs.declared.Section.TheVariants.{Taught}
use Rattle.book.proofs.Sound.{form-sound}
use Rattle.book.proofs.Sections.{each-section, same_books, form-sorted}
use Rattle.book.proofs.Taught.{taught-k, taught-sorted, same-section, section-same}
use Rattle.book.proofs.Teachings.{commute, taught-twice}

-- ---- the teachings that a T counts

-- A section T in form: sorted, and each key the words of an order within limits.
pub record TaughtOrders (es : List Entry) : Type 0 where
  pub sorted : Sorted es
  pub limits : (e : Entry) → e ∈ es → Fits 0 greatest_depth e.key

-- That of a book in form is.
pub form-orders : (b : Book) → in_form b ≡ true → TaughtOrders b.T
unfolding section_of
form-orders b f = record { sorted = form-sorted b f Taught; limits = λ e m. ((form-sound b f).taught.entry e m).tree }

-- So are the entries past the first.
pub later-taught : (e : Entry) (es : List Entry) → TaughtOrders (e ∷ es) → TaughtOrders es
unfolding Sorted
later-taught e es o = record { sorted = o.sorted.2; limits = λ f m. o.limits f (there m) }

-- The key of an entry of a T in form is an order.
pub taught-cause : (b : Book) → in_form b ≡ true → (e : Entry) → e ∈ b.T → cause_of e.key ≡ done
unfolding cause_of by_order
taught-cause b form e m = let f = (form-orders b form).limits e m in rw (order-read e.key f.tree f.is_order)

-- An entry whose key is an order's words is so many teachings of the order.
read-entry : (e : Entry) (es : List Entry) (t : Tree) → e.key ≡ words t → Fits 0 greatest_depth e.key → teachings_in (e ∷ es) ≡ record { order = t; times = e.count } ∷ teachings_in es
unfolding teachings_in by_found
read-entry e es t q f =
    let r : tree_of e.key ≡ found t = ap tree_of q ∙ words-read t (fits-order_of e.key t q f).good in
    rw r

-- The first entry of a T in form is the teachings of an order.
pub record First (e : Entry) (es : List Entry) : Type 0 where
  pub tree : Tree
  pub spelt : e.key ≡ words tree
  pub reads : teachings_in (e ∷ es) ≡ record { order = tree; times = e.count } ∷ teachings_in es

-- It has one.
pub first : (e : Entry) (es : List Entry) → TaughtOrders (e ∷ es) → First e es
first e es o =
    let f = o.limits e (here refl) in
    record { tree = f.tree; spelt = f.is_order.spelt; reads = read-entry e es f.tree f.is_order.spelt f }

-- Each of the teachings is live.
pub teachings-live : (es : List Entry) → TaughtOrders es → (o : Teaching) → o ∈ teachings_in es → 1 ≤ o.times
unfolding teachings_in Sorted
teachings-live [] s o m = absurd (Memᴰ.not-nil m)
teachings-live (e ∷ es) s o m = let f = first e es s in go f.tree (rw f.reads at m) (teachings-live es (later-taught e es s) o)
  where
    go : (t : Tree) → o ∈ record { order = t; times = e.count } ∷ teachings_in es → (o ∈ teachings_in es → 1 ≤ o.times) → 1 ≤ o.times
    go t (here q) ih = rw q s.sorted.0
    go t (there i) ih = ih i

-- The sections of their book are sorted.
pub teachings-sorted : (k : ℕ) (es : List Entry) → TaughtOrders es → (s : Section) → Sorted (section_of s (book_of k (teachings_in es)))
teachings-sorted k es o s = taught-sorted k (teachings_in es) (teachings-live es o) s

-- Section T of their book is the T that counts them.
teachings-taught : (k : ℕ) (es : List Entry) → TaughtOrders es → (book_of k (teachings_in es)).T ≡ es
unfolding teachings_in book_of taught Sorted
teachings-taught k [] o = refl
teachings-taught k (e ∷ es) o =
    let f = first e es o in
    ap (λ (os : List Teaching). (book_of k os).T) f.reads ∙ ap₂ (add e.count) (sym f.spelt) (teachings-taught k es (later-taught e es o)) ∙ add-below e.count e.key es o.sorted.1

-- ---- agreeing

-- A book in form that "agrees with itself" is the book of the teachings that its T counts.
pub agreeing-is : (b : Book) → in_form b ≡ true → agreeing b ≡ true → b ≡ book_of b.k (teachings_in b.T)
unfolding agreeing section_of
agreeing-is b f a =
    let r = and_right _ _ a in
    same_books b _ (sym (taught-k b.k (teachings_in b.T))) (each-section _
    (sym (teachings-taught b.k b.T (form-orders b f)))
    (same-section _ _ (and_left _ _ a))
    (same-section _ _ (and_left _ _ r))
    (same-section _ _ (and_right _ _ r)))

-- And back: a book that is the one of the teachings that its T counts "agrees with itself".
pub is-agreeing : (b : Book) → b ≡ book_of b.k (teachings_in b.T) → agreeing b ≡ true
unfolding agreeing
is-agreeing b e =
    and_both (section-same b.R _ (ap (λ (c : Book). c.R) e))
    (and_both (section-same b.L _ (ap (λ (c : Book). c.L) e)) (section-same b.P _ (ap (λ (c : Book). c.P) e)))

-- ---- a teaching more

-- The book of the teachings that a T counts with n more of an order is the one of those that it counts, with n teachings more.
pub more_taught : (k n : ℕ) (t : Tree) (es : List Entry) → 1 ≤ n → Fits 0 greatest_depth (words t) → TaughtOrders es
    → book_of k (teachings_in (add n (words t) es)) ≡ taught n t (book_of k (teachings_in es))
unfolding add book_of
more_taught k n t [] p l o = ap (book_of k) (read-entry (counted (words t) n) [] t refl l) ∙ unfold teachings_in in refl
more_taught k n t (e ∷ es) p l o = go (compare_of e.key (words t)) refl (more_taught k n t es p l (later-taught e es o))
  where
    f : First e es
    f = first e es o

    B : Book
    B = book_of k (teachings_in es)

    sorted : (s : Section) → Sorted (section_of s B)
    sorted = teachings-sorted k es (later-taught e es o)

    some : 1 ≤ e.count
    some = unfold Sorted in o.sorted.0

    go : (x : Ordering) → compare_of e.key (words t) ≡ x → book_of k (teachings_in (add n (words t) es)) ≡ taught n t B
        → book_of k (teachings_in (by_compared x (e ∷ add n (words t) es) (counted e.key (e.count + n) ∷ es) (counted (words t) n ∷ e ∷ es))) ≡ taught n t (book_of k (teachings_in (e ∷ es)))
    go Less c ih =
        ap (book_of k) (read-entry e (add n (words t) es) f.tree f.spelt (o.limits e (here refl)))
        ∙ ap (taught e.count f.tree) ih ∙ commute B sorted e.count n f.tree t some p
        ∙ sym (ap (λ (os : List Teaching). taught n t (book_of k os)) f.reads)
    go Equal c ih =
        let q : e.key ≡ words t = compare_equal e.key (words t) c in
        ap (book_of k) (read-entry (counted e.key (e.count + n)) es t q (o.limits e (here refl)))
        ∙ taught-twice e.count n t B some p sorted
        ∙ sym (ap (λ (os : List Teaching). taught n t (book_of k os)) (read-entry e es t q (o.limits e (here refl))))
    go Greater c ih = ap (book_of k) (read-entry (counted (words t) n) (e ∷ es) t refl l)

-- A book that agrees with itself agrees once an order is taught n times.
pub taught-agrees : (n : ℕ) (t : Tree) (b : Book) → 1 ≤ n → in_form b ≡ true → Fits 0 greatest_depth (words t) → agreeing b ≡ true → agreeing (taught n t b) ≡ true
unfolding taught
taught-agrees n t b p f l a = is-agreeing (taught n t b) (ap (taught n t) (agreeing-is b f a) ∙ sym (more_taught b.k n t b.T p l (form-orders b f)))
