-- "Two outcomes allowed by one promise are shown equal": what demand 3 says of the parts and counts of a book, by the orders that remain, leaves
-- no word of the slice open; the book is then that of these orders, and each is an order within limits. Assumes nothing.
use Prim.Native.Nat.{ℕ, ◌+◌, ◌≤◌}
use mathlib.Core.Path.{◌≡◌, refl, sym, ap, ap₂, subst, ◌∙◌}
use mathlib.Core.Bool.{Bool, true, false}
use mathlib.Core.List.Memᴰ.{head as here}
use mathlib.Core.List.Memᴰ.{tail as there}
use mathlib.Core.List.{List, [], ◌∷◌}
use native.Mathlib.Omega.{arith}
use borrow.Author.Tests.{ltb-true, lt-ltb}
use lib.ListN.{length}
use Rattle.words.specs.Base.{when◌then◌else◌, same_words, ◌∈◌}
use Rattle.words.proofs.Tests.{same-words, words_same, by_test}
use Rattle.figures.specs.Limits.{greatest_depth, least_k}
use Rattle.section.specs.Entries.{Entry, has, counts_for, count_of, total, Sorted, lower}
use Rattle.section.proofs.Counts.{count-lower, total-lower, has-count, has-entry, entry_has, lacks_counts}
use Rattle.section.proofs.Sorting.{sorted-lower}
use Rattle.order.specs.Trees.{Tree, words}
use Rattle.order.specs.Fits.{Fits}
use Rattle.book.specs.Book.{Book, section_of, live, lay}
use Rattle.book.specs.Sound.{SoundBook}
use Rattle.book.specs.declared.Section.{Section}
use Rattle.book.specs.declared.Section.TheVariants.{Taught, Tops, Lows, Middles}
use Rattle.book.proofs.Sound.{form-sound, sound-form}
use Rattle.book.proofs.Sections.{each-section, same_books, form-sorted}
use Rattle.promises.specs.Remaining.{times_of, booked, HowMany, none_left, one_more, not_this, ExactlyThese}
use Rattle.promises.proofs.Laws.Orders.{Orders, booked-k, booked-form, counts-taught, counts-tops, counts-lows, counts-middles}
use Rattle.promises.proofs.Laws.Agreement.{same-trees, sound-trees}

-- As many members of a list as have a property is one number only.
pub how_many-once : {A : Type 0} (Q : A → Type 0) (l : List A) (m n : ℕ) → HowMany Q l m → HowMany Q l n → m ≡ n
how_many-once Q l m n none_left none_left = refl
how_many-once Q l m n (one_more q c) (one_more p d) = omega (arith, how_many-once Q _ _ _ c d)
how_many-once Q l m n (one_more q c) (not_this x d) = absurd (x q)
how_many-once Q l m n (not_this x c) (one_more q d) = absurd (x q)
how_many-once Q l m n (not_this x c) (not_this y d) = how_many-once Q _ _ _ c d

-- Two sound books.
module _ (b c : Book) (x : SoundBook b) (y : SoundBook c) where
  -- A section that counts every tree the same in both is the same.
  one-section : (s : Section) → ((u : Tree) → count_of (words u) (section_of s b) ≡ count_of (words u) (section_of s c)) → section_of s b ≡ section_of s c
  one-section s =
      same-trees (section_of s b) (section_of s c) (form-sorted b (sound-form b x) s) (form-sorted c (sound-form c y) s) (sound-trees b x s) (sound-trees c y s)

  -- Books of one k that count every tree the same in each section are one.
  one-by_counts : b.k ≡ c.k
      → ((u : Tree) → count_of (words u) b.T ≡ count_of (words u) c.T)
      → ((u : Tree) → count_of (words u) b.R ≡ count_of (words u) c.R)
      → ((u : Tree) → count_of (words u) b.L ≡ count_of (words u) c.L)
      → ((u : Tree) → count_of (words u) b.P ≡ count_of (words u) c.P)
      → b ≡ c
  unfolding section_of
  one-by_counts k t r l p = same_books b c k (each-section _ (one-section Taught t) (one-section Tops r) (one-section Lows l) (one-section Middles p))

-- Two slices that hold exactly the same orders.
module _ (k : ℕ) (orders : List (List ℕ)) (ws vs : List ℕ) (x : ExactlyThese k orders ws) (y : ExactlyThese k orders vs) where
  -- Their books are one: each count is how many of the orders have the tree.
  one-book : x.book ≡ y.book
  one-book =
      one-by_counts x.book y.book x.is_book.sound y.is_book.sound (x.depth ∙ sym y.depth)
      (λ u. how_many-once _ orders _ _ (x.taught u) (y.taught u))
      (λ u. how_many-once _ orders _ _ (x.tops u) (y.tops u))
      (λ u. how_many-once _ orders _ _ (x.lows u) (y.lows u))
      (λ u. how_many-once _ orders _ _ (x.middles u) (y.middles u))

  -- And in slices of one length all words are the same: the head, the sections, and the zeros past them.
  pub exactly_one : length ws ≡ length vs → ws ≡ vs
  exactly_one e = sym x.is_book.laid ∙ ap₂ lay e one-book ∙ y.is_book.laid

-- ---- the orders themselves

-- As many orders as are the words w is how often w stands among them.
how_many-times : (w : List ℕ) {orders : List (List ℕ)} {n : ℕ} → HowMany (λ (os : List ℕ). os ≡ w) orders n → n ≡ times_of w orders
unfolding times_of when◌then◌else◌
how_many-times w none_left = refl
how_many-times w (one_more {a} e c) = let q : same_words a w ≡ true = rw e (same-words w) in rw q (omega (arith, how_many-times w c))
how_many-times w (not_this {a} {l} x c) = go (same_words a w) refl (how_many-times w c)
  where
    -- What is not w does not count.
    go : {n : ℕ} → (b : Bool) → same_words a w ≡ b → n ≡ times_of w l → n ≡ (when b then 1 else 0) + times_of w l
    go true e next = absurd (x (words_same a w e))
    go false e next = omega (arith, next)

-- The section counts no words more often than they stand among the orders.
abbrev NoMore : List Entry → List (List ℕ) → Type 0
NoMore es orders = (z : List ℕ) → count_of z es ≤ times_of z orders

-- Such a section, with the first order once less, counts no words more often than they stand among the others;
no_more_lowered : (p : List ℕ) (rest : List (List ℕ)) (es : List Entry) → Sorted es → NoMore es (p ∷ rest) → NoMore (lower p es) rest
unfolding times_of counts_for
no_more_lowered p rest es s most z = omega (arith, count-lower p z es s, most z)

-- and so does the section as it is, where it does not count the first order.
no_more_later : (p : List ℕ) (rest : List (List ℕ)) (es : List Entry) → count_of p es ≡ 0 → NoMore es (p ∷ rest) → NoMore es rest
unfolding times_of when◌then◌else◌
no_more_later p rest es none most z = go (same_words p z) refl (most z)
  where
    -- By whether z is that order.
    go : (b : Bool) → same_words p z ≡ b → count_of z es ≤ (when b then 1 else 0) + times_of z rest → count_of z es ≤ times_of z rest
    go true e m = let c : count_of z es ≡ 0 = ap (λ (y : List ℕ). count_of y es) (sym (words_same p z e)) ∙ none in omega arith
    go false e m = omega arith

-- Words with an entry count.
entry-counts : (z : List ℕ) (es : List Entry) → Sorted es → has z es ≡ true → 1 ≤ count_of z es
entry-counts z es s h = ltb-true 0 (count_of z es) (sym (has-count z es s) ∙ h)

-- The counts of such a section together are no more than there are orders.
total-most : (orders : List (List ℕ)) (es : List Entry) → Sorted es → NoMore es orders → total es ≤ length orders
total-most [] es s most = empty es s most
  where
    -- Where there are no orders it has no entries.
    empty : (es : List Entry) → Sorted es → NoMore es [] → total es ≤ 0
    empty [] s most = unfold total in omega arith
    empty (e ∷ es) s most =
        let none : count_of e.key (e ∷ es) ≤ 0 = unfold times_of in most e.key in
        absurd (omega (arith, entry-counts e.key (e ∷ es) s (entry_has e.key (here refl) refl)))
total-most (p ∷ rest) es s most = go (has p es) refl (total-most rest)
  where
    -- By whether the first order has an entry.
    go : (b : Bool) → has p es ≡ b → ((fs : List Entry) → Sorted fs → NoMore fs rest → total fs ≤ length rest) → total es ≤ length (p ∷ rest)
    go true h next = omega (arith, next (lower p es) (sorted-lower p es s) (no_more_lowered p rest es s most), total-lower p es s h)
    go false h next = omega (arith, next es s (no_more_later p rest es (lacks_counts p es s h) most))

-- If they are as many as the orders, each order counts in it.
each_counts : (os : List ℕ) {orders : List (List ℕ)} (es : List Entry) → Sorted es → NoMore es orders → total es ≡ length orders → os ∈ orders → 1 ≤ count_of os es
each_counts os es s most e (here {x = p} {xs = rest} q) =
    by_test (has p es)
    (λ h. rw q (entry-counts p es s h))
    (λ h. absurd (omega (arith, total-most rest es s (no_more_later p rest es (lacks_counts p es s h) most))))
each_counts os es s most e (there {x = p} {xs = rest} m) = go (has p es) refl (λ fs t n f. each_counts os fs t n f m)
  where
    -- With one it counts the others once the first is taken away.
    go : (b : Bool) → has p es ≡ b → ((fs : List Entry) → Sorted fs → NoMore fs rest → total fs ≡ length rest → 1 ≤ count_of os fs) → 1 ≤ count_of os es
    go true h next =
        let i : 1 ≤ count_of os (lower p es) = next (lower p es) (sorted-lower p es s) (no_more_lowered p rest es s most) (omega (arith, total-lower p es s h)) in
        omega (arith, count-lower p os es s)
    go false h next = absurd (omega (arith, total-most rest es s (no_more_later p rest es (lacks_counts p es s h) most)))

-- Orders that a slice holds exactly are orders within limits: each has an entry in T, since the live teachings are as many as the orders.
pub orders_within : (k : ℕ) (orders : List (List ℕ)) (ws : List ℕ) → ExactlyThese k orders ws → Orders orders
unfolding section_of live
orders_within k orders ws x os m =
    let sound = x.is_book.sound in
    let s : Sorted x.book.T = form-sorted x.book (sound-form x.book sound) Taught in
    let e = has-entry os x.book.T (has-count os x.book.T s ∙ lt-ltb 0 (count_of os x.book.T) (each_counts os x.book.T s most x.lives m)) in
    subst (Fits 0 greatest_depth) e.2 (sound.taught.entry e.0 e.1).tree
  where
    -- T counts the words of a tree as often as they stand among the orders, and other words not at all.
    most : NoMore x.book.T orders
    most z = go (has z x.book.T) refl
      where
        -- By whether the words have an entry.
        go : (b : Bool) → has z x.book.T ≡ b → count_of z x.book.T ≤ times_of z orders
        go true h =
            let e = has-entry z x.book.T h in
            let u = sound-trees x.book x.is_book.sound Taught e.0 e.1 in
            let w : words u.0 ≡ z = sym u.1 ∙ e.2 in
            subst (λ (y : List ℕ). count_of y x.book.T ≤ times_of y orders) w (omega (arith, how_many-times (words u.0) (x.taught u.0)))
        go false h = omega (arith, lacks_counts z x.book.T (form-sorted x.book (sound-form x.book x.is_book.sound) Taught) h)

-- The book in a slice that holds exactly some orders is the book of these orders: its counts leave no other.
pub booked-is : (k : ℕ) (orders : List (List ℕ)) (ws : List ℕ) → (x : ExactlyThese k orders ws) → x.book ≡ booked k orders
booked-is k orders ws x =
    let all : Orders orders = orders_within k orders ws x in
    let sound = x.is_book.sound in
    let least : least_k ≤ k = omega (arith, sound.least, x.depth) in
    let form = booked-form k least (omega (arith, sound.greatest, x.depth)) orders all (omega (arith, x.lives, sound.few)) in
    one-by_counts x.book (booked k orders) sound (form-sound (booked k orders) form) (x.depth ∙ sym (booked-k k orders all))
    (λ u. how_many-once _ orders _ _ (x.taught u) (counts-taught k orders all u))
    (λ u. how_many-once _ orders _ _ (x.tops u) (counts-tops k orders all u least))
    (λ u. how_many-once _ orders _ _ (x.lows u) (counts-lows k orders all u least))
    (λ u. how_many-once _ orders _ _ (x.middles u) (counts-middles k orders all u least))
