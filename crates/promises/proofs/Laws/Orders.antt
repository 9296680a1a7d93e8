-- The book of orders, each taught once: what it counts, that it is in form, that it is the same in whichever order they are taught, and what
-- it is with one such less. Assumes nothing.
use Prim.Native.Nat.{ℕ, suc, ◌+◌, ◌-◌, ◌≤◌}
use mathlib.Core.Path.{◌≡◌, refl, sym, ap, ◌∙◌}
use mathlib.Core.Bool.{Bool, true, false}
use mathlib.Core.List.Memᴰ
use mathlib.Core.List.Memᴰ.{head as here}
use mathlib.Core.List.Memᴰ.{tail as there}
use mathlib.Core.List.{List, [], ◌∷◌}
use native.Mathlib.Omega.{arith}
use lib.ListN.{length}
use Rattle.words.specs.Base.{when◌then◌else◌, same_words, ◌∈◌}
use Rattle.words.proofs.Tests.{no_test, same-words, words_same, by_test}
use Rattle.figures.specs.Limits.{greatest_depth, least_k, greatest_k, greatest_count}
use Rattle.section.specs.Entries.{counts_for, count_of, total, Sorted}
use Rattle.section.proofs.Counts.{count_add}
use Rattle.order.specs.Trees.{Tree, words}
use Rattle.order.specs.Reading.{by_found, found, tree_of}
use Rattle.order.specs.Parts.{top, low_parts, middle_parts}
use Rattle.order.specs.Fits.{IsOrder, Fits}
use Rattle.order.specs.Paper.{IsR, IsL, IsP}
use Rattle.order.proofs.Orders.{words-read}
use Rattle.order.proofs.Unique.{words-unique}
use Rattle.order.proofs.Paper.{top-is_r, r_only, low-is_l, l_is-low, middle-is_p, p_is-middle}
use Rattle.book.specs.Book.{Book, section_of, used, live, in_form}
use Rattle.book.specs.Taught.{taught, book_of, any_tree, trees_in, times_in}
use Rattle.book.specs.declared.Section.{Section}
use Rattle.book.specs.declared.Section.TheVariants.{Taught, Tops, Lows, Middles}
use Rattle.book.proofs.Openings.{opened-formed}
use Rattle.book.proofs.Taught.{any_in, in_any, taught-sorted, none_in}
use Rattle.book.proofs.Teachings.{live-taught, commute, times-counted, times-other, count-after_taught, taught-in_order}
use Rattle.book_change.specs.Counts.{within_counts}
use Rattle.book_teaching.proofs.Formed.{taught-keeps_form}
use Rattle.book_teaching.specs.Conditions.{WouldPass, lives, touched}
use Rattle.book_teaching.proofs.Reasons.{none_passes}
use Rattle.book_teaching.proofs.Counted.{taught-uses}
use Rattle.promises.specs.Remaining.{without, times_of, SameOrders, booked, HowMany, none_left, one_more, not_this, HasPart}

-- ---- orders within limits

-- Each of the words is an order within limits.
abbrev pub Orders : List (List ℕ) → Type 0
Orders orders = (os : List ℕ) → os ∈ orders → Fits 0 greatest_depth os

-- So are those past the first.
pub later : (os : List ℕ) (rest : List (List ℕ)) → Orders (os ∷ rest) → Orders rest
later os rest all ps m = all ps (there m)

-- With one order more they are still orders.
pub one-order_more : (os : List ℕ) (rest : List (List ℕ)) → Fits 0 greatest_depth os → Orders rest → Orders (os ∷ rest)
one-order_more os rest f all ps (here e) = rw e f
one-order_more os rest f all ps (there m) = all ps m

-- ---- how often an order stands among orders

-- An order stands at least once among orders with it.
in_times : (os : List ℕ) {orders : List (List ℕ)} → os ∈ orders → 1 ≤ times_of os orders
unfolding times_of when◌then◌else◌
in_times os (here {x} {xs} e) = let q : same_words x os ≡ true = rw e (same-words x) in rw q (omega arith)
in_times os (there {x} {xs} m) = omega (arith, in_times os m)

-- One that stands at least once is among them.
times-in : (os : List ℕ) (orders : List (List ℕ)) → 1 ≤ times_of os orders → os ∈ orders
unfolding times_of when◌then◌else◌
times-in os [] h = absurd (omega arith)
times-in os (p ∷ ps) h = go (same_words p os) refl (times-in os ps)
  where
    -- By whether the first is the order.
    go : (b : Bool) → same_words p os ≡ b → (1 ≤ times_of os ps → os ∈ ps) → os ∈ p ∷ ps
    go true e next = here (sym (words_same p os e))
    go false e next = let i : 1 ≤ 0 + times_of os ps = rw e at h in there (next (omega arith))

-- Orders with one such less are among the orders.
pub without_in : (os ps : List ℕ) (orders : List (List ℕ)) → ps ∈ without os orders → ps ∈ orders
unfolding without when◌then◌else◌
without_in os ps [] m = m
without_in os ps (q ∷ qs) m = go (same_words q os) m (without_in os ps qs)
  where
    -- By whether the first is the one that is left out.
    go : (b : Bool) → ps ∈ (when b then qs else q ∷ without os qs) → (ps ∈ without os qs → ps ∈ qs) → ps ∈ q ∷ qs
    go true i next = there i
    go false (here e) next = here e
    go false (there i) next = there (next i)

-- One such less is one less of it, and as many of any other.
pub times-without : (os ps : List ℕ) (orders : List (List ℕ)) → 1 ≤ times_of os orders
    → (when same_words os ps then 1 else 0) + times_of ps (without os orders) ≡ times_of ps orders
unfolding without times_of when◌then◌else◌
times-without os ps [] h = absurd (omega arith)
times-without os ps (q ∷ qs) h = go (same_words q os) refl (times-without os ps qs)
  where
    -- By whether the first is the one that is left out.
    go : (b : Bool) → same_words q os ≡ b → (1 ≤ times_of os qs → (when same_words os ps then 1 else 0) + times_of ps (without os qs) ≡ times_of ps qs)
        → (when same_words os ps then 1 else 0) + times_of ps (when b then qs else q ∷ without os qs) ≡ (when same_words q ps then 1 else 0) + times_of ps qs
    go true e next = rw (words_same q os e)
    go false e next = let i : 1 ≤ 0 + times_of os qs = rw e at h in omega (arith, next (omega arith))

-- The same orders are orders within limits.
pub same-fit : (qs orders : List (List ℕ)) → SameOrders qs orders → Orders orders → Orders qs
same-fit qs orders same all os m = all os (times-in os orders (omega (arith, same os, in_times os m)))

-- ---- the book of orders

-- With one order more it is the book with one teaching more.
pub booked-first : (k : ℕ) (os : List ℕ) (rest : List (List ℕ)) (t : Tree) → IsOrder os t → booked k (os ∷ rest) ≡ taught 1 t (booked k rest)
unfolding booked by_found
booked-first k os rest t o = let r : tree_of os ≡ found t = ap tree_of o.spelt ∙ words-read t o.good in rw r

-- It has this k.
pub booked-k : (k : ℕ) (orders : List (List ℕ)) → Orders orders → (booked k orders).k ≡ k
unfolding booked book_of taught
booked-k k [] all = refl
booked-k k (os ∷ rest) all =
    let f = all os (here refl) in
    ap (λ (b : Book). b.k) (booked-first k os rest f.tree f.is_order) ∙ booked-k k rest (later os rest all)

-- Its sections are sorted.
pub booked-sorted : (k : ℕ) (orders : List (List ℕ)) → Orders orders → (s : Section) → Sorted (section_of s (booked k orders))
unfolding booked
booked-sorted k [] all s = taught-sorted k [] (λ o m. absurd (Memᴰ.not-nil m)) s
booked-sorted k (os ∷ rest) all s =
    let f = all os (here refl) in
    rw (booked-first k os rest f.tree f.is_order) (taught-in_order 1 f.tree (booked k rest) (omega arith) (booked-sorted k rest (later os rest all)) s)

-- As many teachings are live as there are orders.
pub booked-live : (k : ℕ) (orders : List (List ℕ)) → Orders orders → live (booked k orders) ≡ length orders
booked-live k [] all = unfold booked book_of live total in refl
booked-live k (os ∷ rest) all =
    let f = all os (here refl) in
    ap live (booked-first k os rest f.tree f.is_order) ∙ live-taught 1 f.tree (booked k rest) ∙ omega (arith, booked-live k rest (later os rest all))

-- It uses no more words than with one order more.
pub booked-uses : (k : ℕ) (os : List ℕ) (rest : List (List ℕ)) → Orders (os ∷ rest) → used (booked k rest) ≤ used (booked k (os ∷ rest))
booked-uses k os rest all =
    let f = all os (here refl) in
    rw (booked-first k os rest f.tree f.is_order) (taught-uses f.tree (booked k rest) (booked-sorted k rest (later os rest all)))

-- ---- what it counts

module _ (k : ℕ) (s : Section) (u : Tree) where
  -- Of a tree it counts, in each section, one for an order more whose teaching counts the tree there, and none for another.
  booked-count : (os : List ℕ) (rest : List (List ℕ)) (t : Tree) → IsOrder os t → Orders rest
      → count_of (words u) (section_of s (booked k (os ∷ rest))) ≡ times_in s k 1 t u + count_of (words u) (section_of s (booked k rest))
  booked-count os rest t o all =
      ap (λ (b : Book). count_of (words u) (section_of s b)) (booked-first k os rest t o)
      ∙ count-after_taught 1 t u (booked k rest) s
      ∙ ap (λ (j : ℕ). times_in s j 1 t u + count_of (words u) (section_of s (booked k rest))) (booked-k k rest all)

  -- A book of no orders counts nothing.
  empty-count : count_of (words u) (section_of s (booked k [])) ≡ 0
  unfolding booked count_of
  empty-count = ap (count_of (words u)) (none_in s k)

  -- It counts a tree in a section by how many orders have a property, if an order has it exactly where its teaching counts the tree there.
  how_many : (Q : List ℕ → Type 0) → ((os : List ℕ) (t : Tree) → IsOrder os t → u ∈ trees_in s k t → Q os) → ((os : List ℕ) (t : Tree) → IsOrder os t → Q os → u ∈ trees_in s k t)
      → (orders : List (List ℕ)) → Orders orders → HowMany Q orders (count_of (words u) (section_of s (booked k orders)))
  how_many Q from to [] all = rw empty-count none_left
  how_many Q from to (os ∷ rest) all = let f = all os (here refl) in go f.tree f.is_order (any_tree u (trees_in s k f.tree)) refl (how_many Q from to rest (later os rest all))
    where
      -- By whether the first order counts the tree.
      go : (t : Tree) → IsOrder os t → (b : Bool) → any_tree u (trees_in s k t) ≡ b → HowMany Q rest (count_of (words u) (section_of s (booked k rest)))
          → HowMany Q (os ∷ rest) (count_of (words u) (section_of s (booked k (os ∷ rest))))
      go t o true e next =
          let m : u ∈ trees_in s k t = any_in u (trees_in s k t) e in
          let n : count_of (words u) (section_of s (booked k (os ∷ rest))) ≡ suc (count_of (words u) (section_of s (booked k rest))) =
          omega (arith, booked-count os rest t o (later os rest all), times-counted s k 1 t u m) in
          rw n (one_more (from os t o m) next)
      go t o false e next =
          let lacks : u ∈ trees_in s k t → ⊥ = λ m. no_test (sym e ∙ in_any u m) in
          let n : count_of (words u) (section_of s (booked k (os ∷ rest))) ≡ count_of (words u) (section_of s (booked k rest)) =
          omega (arith, booked-count os rest t o (later os rest all), times-other s k 1 t u lacks) in
          rw n (not_this (λ q. lacks (to os t o q)) next)

  -- It counts no tree more often than there are orders.
  count_most : (orders : List (List ℕ)) → Orders orders → count_of (words u) (section_of s (booked k orders)) ≤ length orders
  count_most [] all = omega (arith, empty-count)
  count_most (os ∷ rest) all =
      let f = all os (here refl) in
      omega (arith, booked-count os rest f.tree f.is_order (later os rest all), once_most f.tree, count_most rest (later os rest all))
    where
      -- One teaching counts a tree once at most.
      once_most : (t : Tree) → times_in s k 1 t u ≤ 1
      once_most t =
          by_test (any_tree u (trees_in s k t))
          (λ e. omega (arith, times-counted s k 1 t u (any_in u (trees_in s k t) e)))
          (λ e. omega (arith, times-other s k 1 t u (λ m. no_test (sym e ∙ in_any u m))))

-- An order's words are of one tree.
pub one-tree : {os : List ℕ} {t u : Tree} → IsOrder os t → IsOrder os u → t ≡ u
one-tree {os} {t} {u} o p = words-unique t u (sym o.spelt ∙ p.spelt)

-- What a teaching of an order counts in R, L and P is what the order has by document 000.
module _ (k : ℕ) (u : Tree) (two : 2 ≤ k) (os : List ℕ) (t : Tree) (o : IsOrder os t) where
  -- What it counts in R is the order's r,
  pub top_part : u ∈ top k t ∷ [] → HasPart (IsR (k - 1)) u os
  top_part (here e) = record { tree = t; is_order = o; part = rw e (top-is_r k t two) }
  top_part (there m) = absurd (Memᴰ.not-nil m)

  -- and the order's r is counted there.
  pub part-top : HasPart (IsR (k - 1)) u os → u ∈ top k t ∷ []
  part-top h = here (r_only (k - 1) (omega arith) (rw (one-tree h.is_order o) at h.part) (top-is_r k t two))

  -- What it counts in L is in the order's l,
  pub low_part : u ∈ low_parts k t → HasPart (IsL (k - 1)) u os
  low_part m = record { tree = t; is_order = o; part = low-is_l k two m }

  -- and what is in the order's l is counted there.
  pub part_low : HasPart (IsL (k - 1)) u os → u ∈ low_parts k t
  part_low h = l_is-low k two (rw (one-tree h.is_order o) at h.part)

  -- What it counts in P is in the order's p,
  pub middle-part : u ∈ middle_parts k t → HasPart (IsP k) u os
  middle-part m = record { tree = t; is_order = o; part = middle-is_p k two m }

  -- and what is in the order's p is counted there.
  pub part-middle : HasPart (IsP k) u os → u ∈ middle_parts k t
  part-middle h = p_is-middle k two (rw (one-tree h.is_order o) at h.part)

module _ (k : ℕ) (orders : List (List ℕ)) (all : Orders orders) (u : Tree) where
  -- T counts each order as often as it stands among the orders.
  pub counts-taught : HowMany (λ os. os ≡ words u) orders (count_of (words u) (booked k orders).T)
  unfolding section_of
  counts-taught = how_many k Taught u (λ os. os ≡ words u) from to orders all
    where
      -- An order that is this tree has its words,
      from : (os : List ℕ) (t : Tree) → IsOrder os t → u ∈ t ∷ [] → os ≡ words u
      from os t o (here e) = o.spelt ∙ ap words (sym e)
      from os t o (there m) = absurd (Memᴰ.not-nil m)

      -- and one with its words is this tree.
      to : (os : List ℕ) (t : Tree) → IsOrder os t → os ≡ words u → u ∈ t ∷ []
      to os t o e = here (words-unique u t (sym e ∙ o.spelt))

  module _ (two : 2 ≤ k) where
    -- R counts each tree by how many of the orders have it as r.
    pub counts-tops : HowMany (HasPart (IsR (k - 1)) u) orders (count_of (words u) (booked k orders).R)
    unfolding section_of
    counts-tops = how_many k Tops u (HasPart (IsR (k - 1)) u) (top_part k u two) (part-top k u two) orders all

    -- L counts each tree by how many of the orders have it in l.
    pub counts-lows : HowMany (HasPart (IsL (k - 1)) u) orders (count_of (words u) (booked k orders).L)
    unfolding section_of
    counts-lows = how_many k Lows u (HasPart (IsL (k - 1)) u) (low_part k u two) (part_low k u two) orders all

    -- P counts each tree by how many of the orders have it in p.
    pub counts-middles : HowMany (HasPart (IsP k) u) orders (count_of (words u) (booked k orders).P)
    unfolding section_of
    counts-middles = how_many k Middles u (HasPart (IsP k) u) (middle-part k u two) (part-middle k u two) orders all

-- T counts any words as often as they stand among the orders.
pub count-times : (k : ℕ) (ps : List ℕ) (orders : List (List ℕ)) → Orders orders → count_of ps (booked k orders).T ≡ times_of ps orders
unfolding times_of
count-times k ps [] all = unfold booked book_of count_of in refl
count-times k ps (os ∷ rest) all =
    let f = all os (here refl) in
    ap (λ (b : Book). count_of ps b.T) (booked-first k os rest f.tree f.is_order) ∙ go f.tree f.is_order.spelt (count-times k ps rest (later os rest all))
  where
    -- By the tree of the first order.
    go : (t : Tree) → os ≡ words t → count_of ps (booked k rest).T ≡ times_of ps rest → count_of ps (taught 1 t (booked k rest)).T ≡ (when same_words os ps then 1 else 0) + times_of ps rest
    go t e next = unfold taught counts_for in rw (count_add 1 (words t) ps (booked k rest).T, next, e) refl

-- ---- in form

-- Where there are at most 65,535 orders with one more, no count passes that once it is taught.
pub more_within : (k : ℕ) (t : Tree) (orders : List (List ℕ)) → Orders orders → suc (length orders) ≤ greatest_count → in_form (booked k orders) ≡ true
    → within_counts (taught 1 t (booked k orders)) ≡ true
more_within k t orders all few form = none_passes t (booked k orders) form none
  where
    -- None would pass: fewer than 65,535 are live.
    none : WouldPass t (booked k orders) → ⊥
    none (lives e) = omega (arith, booked-live k orders all)
    none (touched s u m e) = omega (arith, count_most k s u orders all)

module _ (k : ℕ) (least : least_k ≤ k) (greatest : k ≤ greatest_k) where
  -- The book of at most 65,535 orders within limits is in form.
  pub booked-form : (orders : List (List ℕ)) → Orders orders → length orders ≤ greatest_count → in_form (booked k orders) ≡ true
  booked-form [] all few = unfold booked in opened-formed k least greatest
  booked-form (os ∷ rest) all few =
      let f = all os (here refl) in
      let form : in_form (booked k rest) ≡ true = booked-form rest (later os rest all) (omega arith) in
      rw (booked-first k os rest f.tree f.is_order)
      (taught-keeps_form f.tree (booked k rest) form (rw f.is_order.spelt at f) (more_within k f.tree rest (later os rest all) few form))

-- ---- in whichever order

module _ (k : ℕ) where
  -- The book of orders is that with one such less, with a teaching more.
  pub booked-without : (os : List ℕ) (t : Tree) → IsOrder os t → (orders : List (List ℕ)) → Orders orders → 1 ≤ times_of os orders
      → booked k orders ≡ taught 1 t (booked k (without os orders))
  unfolding times_of without when◌then◌else◌
  booked-without os t o [] all h = absurd (omega arith)
  booked-without os t o (p ∷ ps) all h = go (same_words p os) refl (booked-without os t o ps (later p ps all))
    where
      -- Those that are left are within limits.
      fewer : Orders (without os ps)
      fewer qs m = all qs (there (without_in os qs ps m))

      -- By whether the first is such an order.
      go : (b : Bool) → same_words p os ≡ b → (1 ≤ times_of os ps → booked k ps ≡ taught 1 t (booked k (without os ps)))
          → booked k (p ∷ ps) ≡ taught 1 t (booked k (when b then ps else p ∷ without os ps))
      go true e next = booked-first k p ps t (rw (sym (words_same p os e)) at o)
      go false e next =
          let i : 1 ≤ 0 + times_of os ps = rw e at h in
          let f = all p (here refl) in
          booked-first k p ps f.tree f.is_order
          ∙ ap (taught 1 f.tree) (next (omega arith))
          ∙ commute (booked k (without os ps)) (booked-sorted k (without os ps) fewer) 1 1 f.tree t (omega arith) (omega arith)
          ∙ ap (taught 1 t) (sym (booked-first k p (without os ps) f.tree f.is_order))

  -- The same orders have the same book.
  pub same-book : (qs orders : List (List ℕ)) → SameOrders qs orders → Orders orders → booked k qs ≡ booked k orders
  same-book [] orders same all = empty orders same
    where
      -- Orders that are the same as none are none.
      empty : (orders : List (List ℕ)) → SameOrders [] orders → booked k [] ≡ booked k orders
      empty [] same = refl
      empty (p ∷ ps) same = absurd (unfold times_of in omega (arith, same p, in_times p {orders = p ∷ ps} (here refl)))
  same-book (q ∷ qs) orders same all =
      let f = same-fit (q ∷ qs) orders same all q (here refl) in
      let some : 1 ≤ times_of q orders = omega (arith, same q, in_times q {orders = q ∷ qs} (here refl)) in
      booked-first k q qs f.tree f.is_order
      ∙ ap (taught 1 f.tree) (same-book qs (without q orders) (rest some) (λ os m. all os (without_in q os orders m)))
      ∙ sym (booked-without q f.tree f.is_order orders all some)
    where
      -- Without the first of the one list the two are the same orders still.
      rest : 1 ≤ times_of q orders → SameOrders qs (without q orders)
      rest some os = let e : (when same_words q os then 1 else 0) + times_of os qs ≡ times_of os orders = unfold times_of in same os in omega (arith, times-without q os orders some)
