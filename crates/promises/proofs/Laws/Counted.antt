-- The orders that a section T counts, each as often as it counts, with others: how many they are, that they are orders within limits, and their book.
-- Assumes nothing.
use Prim.Native.Nat.{ℕ, zero, suc, ◌+◌, ◌≤◌}
use mathlib.Core.Path.{◌≡◌, refl, sym, ap, ◌∙◌}
use mathlib.Core.List.Memᴰ
use mathlib.Core.List.Memᴰ.{head as here}
use mathlib.Core.List.{List, [], ◌∷◌, ◌++◌, append_assoc, append-nil}
use native.Mathlib.Omega.{arith}
use lib.ListN.{length, replicate, length-append, length-replicate}
use Rattle.figures.specs.Limits.{greatest_depth}
use Rattle.section.specs.Entries.{Entry, total}
use Rattle.section.proofs.Sorting.{sorted-some}
use Rattle.order.specs.Trees.{Tree}
use Rattle.order.specs.Fits.{Fits, IsOrder}
use Rattle.order.proofs.Fitting.{fits-order_of}
use Rattle.book.specs.Book.{Book}
use Rattle.book.specs.Taught.{taught, book_of, teachings_in}
use Rattle.book.proofs.Taught.{taught-k, none_in}
use Rattle.book.proofs.Agreeing.{TaughtOrders, later-taught, first, teachings-sorted}
use Rattle.book.proofs.Teachings.{taught-twice}
use Rattle.book.proofs.Sections.{InOrder}
use Rattle.book_change.proofs.Sums.{added, added_turns, none-added}
use Rattle.book_teaching.proofs.Adds.{taught-added}
use Rattle.promises.specs.Remaining.{orders_in, booked}
use Rattle.promises.proofs.Laws.Orders.{Orders, one-order_more, booked-first, booked-k, booked-sorted}

-- ---- how many

-- They are as many as the section counts in all.
pub counted-length : (es : List Entry) → length (orders_in es) ≡ total es
unfolding orders_in total
counted-length [] = refl
counted-length (e ∷ es) =
    length-append (replicate e.count e.key) (orders_in es) ∙ omega (arith, length-replicate e.count e.key, counted-length es)

-- ---- within limits

-- An order as often as it counts, and others, are orders within limits.
more_orders : (os : List ℕ) (n : ℕ) (rest : List (List ℕ)) → Fits 0 greatest_depth os → Orders rest → Orders (replicate n os ++ rest)
more_orders os zero rest f all = all
more_orders os (suc n) rest f all = one-order_more os (replicate n os ++ rest) f (more_orders os n rest f all)

-- All that a T of orders counts, and others, are orders within limits.
pub onto_orders : (es : List Entry) → TaughtOrders es → (rest : List (List ℕ)) → Orders rest → Orders (orders_in es ++ rest)
unfolding orders_in
onto_orders [] all rest o = o
onto_orders (e ∷ es) all rest o =
    rw (append_assoc (replicate e.count e.key) (orders_in es) rest)
    (more_orders e.key e.count (orders_in es ++ rest) (all.limits e (here refl)) (onto_orders es (later-taught e es all) rest o))

-- No orders are orders within limits.
no_orders : Orders []
no_orders os m = absurd (Memᴰ.not-nil m)

-- All that a T of orders counts are orders within limits.
pub counted-orders : (es : List Entry) → TaughtOrders es → Orders (orders_in es)
counted-orders es all = rw (append-nil (orders_in es)) at (onto_orders es all [] no_orders)

-- ---- their book

-- The book of an order as often as it counts, at least once, and of others is theirs with so many teachings of it.
booked-more : (k : ℕ) (os : List ℕ) (t : Tree) → IsOrder os t → (n : ℕ) (rest : List (List ℕ)) → Orders rest
    → booked k (replicate (suc n) os ++ rest) ≡ taught (suc n) t (booked k rest)
booked-more k os t o zero rest all = booked-first k os rest t o
booked-more k os t o (suc n) rest all =
    let m : suc n + 1 ≡ suc (suc n) = omega arith in
    booked-first k os (replicate (suc n) os ++ rest) t o
    ∙ ap (taught 1 t) (booked-more k os t o n rest all)
    ∙ sym (taught-twice (suc n) 1 t (booked k rest) (omega arith) (omega arith) (booked-sorted k rest all))
    ∙ ap (λ (j : ℕ). taught j t (booked k rest)) m

-- So it is for any count of at least 1.
booked-some : (k : ℕ) (os : List ℕ) (t : Tree) → IsOrder os t → (n : ℕ) (rest : List (List ℕ)) → 1 ≤ n → Orders rest
    → booked k (replicate n os ++ rest) ≡ taught n t (booked k rest)
booked-some k os t o zero rest p all = absurd (omega arith)
booked-some k os t o (suc n) rest p all = booked-more k os t o n rest all

-- The book of the orders that a T counts and of others is that of the others with the book of the teachings that the T counts added.
pub booked-onto : (k : ℕ) (es : List Entry) → TaughtOrders es → (rest : List (List ℕ)) → Orders rest → booked k (orders_in es ++ rest) ≡ added (book_of k (teachings_in es)) (booked k rest)
unfolding orders_in book_of
booked-onto k [] all rest o = sym (unfold teachings_in in none-added (book_of k []) (booked k rest) (λ s. none_in s k))
booked-onto k (e ∷ es) all rest o =
    let f = first e es all in
    let i : IsOrder e.key f.tree = fits-order_of e.key f.tree f.spelt (all.limits e (here refl)) in
    let next : TaughtOrders es = later-taught e es all in
    let some : 1 ≤ e.count = sorted-some (e ∷ es) all.sorted e (here refl) in
    let x : Book = book_of k (teachings_in es) in
    ap (booked k) (append_assoc (replicate e.count e.key) (orders_in es) rest)
    ∙ booked-some k e.key f.tree i e.count (orders_in es ++ rest) some (onto_orders es next rest o)
    ∙ ap (taught e.count f.tree) (booked-onto k es next rest o)
    ∙ taught-added e.count f.tree x (booked k rest) some (teachings-sorted k es next) (booked-sorted k rest o) (taught-k k (teachings_in es) ∙ sym (booked-k k rest o))
    ∙ ap (λ (b : Book). added b (booked k rest)) (sym (ap (book_of k) f.reads))

-- The book of the orders that a T counts is the book of the teachings that it counts.
pub booked-counted : (k : ℕ) (es : List Entry) → TaughtOrders es → booked k (orders_in es) ≡ book_of k (teachings_in es)
unfolding booked
booked-counted k es all =
    let x : Book = book_of k (teachings_in es) in
    let none : Book = book_of k [] in
    let sx : InOrder x = teachings-sorted k es all in
    let sn : InOrder none = booked-sorted k [] no_orders in
    ap (booked k) (sym (append-nil (orders_in es)))
    ∙ booked-onto k es all [] no_orders
    ∙ added_turns x none sx sn (taught-k k (teachings_in es) ∙ sym (taught-k k []))
    ∙ none-added none x (λ s. none_in s k)
