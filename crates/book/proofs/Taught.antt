-- What is counted in the book of the orders taught. Assumes nothing.
use Prim.Native.Nat.{ℕ, ◌+◌, ◌-◌, ◌≤◌}
use mathlib.Core.Path.{◌≡◌, refl, sym, ap₂}
use mathlib.Core.Bool.{Bool, true, false}
use mathlib.Core.List.Memᴰ
use mathlib.Core.List.Memᴰ.{head as here}
use mathlib.Core.List.Memᴰ.{tail as there}
use mathlib.Core.List.{List, [], ◌∷◌}
use native.Mathlib.Omega.{arith}
use borrow.Author.Tests.{eq-eqb, eqb-true}
use Rattle.words.specs.Base.{when◌then◌else◌, ◌∈◌}
use Rattle.words.proofs.Tests.{no_test, and_left, and_right, and_both, same-words, words_same, by_test}
use Rattle.figures.specs.Limits.{greatest_depth, least_k, greatest_k, greatest_count}
use Rattle.order.specs.Trees.{Tree, words}
use Rattle.order.specs.Parts.{top, same_tree, low_parts, middle_parts}
use Rattle.order.specs.Fits.{Fits}
use Rattle.order.proofs.Unique.{same-tree, tree-same}
use Rattle.order.proofs.Once.{NoRepeats, lows-once, middles-once}
use Rattle.order.proofs.Fitting.{top-fits, low_fits, middle-fits}
use Rattle.section.specs.Entries.{Entry, counted, counts_for, count_of, total, Sorted, add}
use Rattle.section.proofs.Counts.{count_add, total-add, entry-count}
use Rattle.section.proofs.Sorting.{sorted-add, sorted-some, add-keys}
use Rattle.book.specs.Book.{section_of, shallowest, deepest, live, in_form}
use Rattle.book.specs.Sound.{SoundSection}
use Rattle.book.specs.Taught.{Teaching, add_each, taught, book_of, teachings, any_tree, same_section}
use Rattle.book.specs.declared.Section.{Section}
use Rattle.book.specs.declared.Section.TheVariants.{Taught, Tops, Lows, Middles}
use Rattle.book.proofs.Sound.{sorted-next}
use Rattle.book.proofs.Sections.{sections_form}

-- ---- some tree of a list

-- A tree that the test finds in a list stands there.
pub any_in : (u : Tree) (ts : List Tree) → any_tree u ts ≡ true → u ∈ ts
unfolding any_tree when◌then◌else◌
any_in u [] e = no_test e
any_in u (t ∷ ts) e = go (same_tree t u) refl (any_in u ts)
  where
    go : (b : Bool) → same_tree t u ≡ b → (any_tree u ts ≡ true → u ∈ ts) → u ∈ t ∷ ts
    go true q later = here (sym (tree-same t u q))
    go false q later = there (later (rw q at e))

-- A tree that stands in a list is found by the test.
pub in_any : (u : Tree) {ts : List Tree} → u ∈ ts → any_tree u ts ≡ true
unfolding any_tree when◌then◌else◌
in_any u (here {x} e) = let q : same_tree x u ≡ true = rw e (same-tree x) in rw q
in_any u (there {x} {xs} m) = go (same_tree x u) (in_any u m)
  where
    go : (b : Bool) → any_tree u xs ≡ true → (when b then true else any_tree u xs) ≡ true
    go true n = refl
    go false n = n

-- A tree that does not stand in a list is not found.
pub lacks_any : (u : Tree) (ts : List Tree) → (u ∈ ts → ⊥) → any_tree u ts ≡ false
lacks_any u ts lacks = by_test (any_tree u ts) (λ e. absurd (lacks (any_in u ts e))) (λ e. e)

-- ---- counts

-- An entry of a tree counts for the same tree.
counts-tree : (n : ℕ) (t u : Tree) → counts_for (words u) (counted (words t) n) ≡ (when same_tree t u then n else 0)
unfolding counts_for same_tree
counts-tree n t u = refl

-- n more of each tree of a list without repeats count n more for each tree of it, once.
pub count-each : (n : ℕ) (u : Tree) (ts : List Tree) (es : List Entry) → NoRepeats ts
    → count_of (words u) (add_each n ts es) ≡ (when any_tree u ts then n else 0) + count_of (words u) es
unfolding add_each any_tree when◌then◌else◌ NoRepeats
count-each n u [] es r = omega arith
count-each n u (t ∷ ts) es r = rw (count_add n (words t) (words u) (add_each n ts es), counts-tree n t u, count-each n u ts es r.1) (go (same_tree t u) refl)
  where
    go : (b : Bool) → same_tree t u ≡ b → (when b then n else 0) + ((when any_tree u ts then n else 0) + count_of (words u) es) ≡ (when (when b then true else any_tree u ts) then n else 0) + count_of (words u) es
    go true e = rw (lacks_any u ts (λ m. r.0 (rw (tree-same t u e) m))) (omega arith)
    go false e = omega arith

-- The book of orders taught at k has this k.
pub taught-k : (k : ℕ) (os : List Teaching) → (book_of k os).k ≡ k
unfolding book_of taught
taught-k k [] = refl
taught-k k (o ∷ os) = taught-k k os

module _ (k : ℕ) where
  -- Section T counts, of an order, the live teachings of it.
  count-taught : (os : List Teaching) (u : Tree) → count_of (words u) (book_of k os).T ≡ teachings (λ t. same_tree t u) os
  unfolding book_of taught teachings count_of
  count-taught [] u = refl
  count-taught (o ∷ os) u = rw (count_add o.times (words o.order) (words u) (book_of k os).T, counts-tree o.times o.order u, count-taught os u)

  -- Section R counts, of a tree, the live teachings whose order has it as top.
  count-tops : (os : List Teaching) (u : Tree) → count_of (words u) (book_of k os).R ≡ teachings (λ t. same_tree (top k t) u) os
  unfolding book_of taught teachings count_of
  count-tops [] u = refl
  count-tops (o ∷ os) u =
      rw (taught-k k os, count_add o.times (words (top k o.order)) (words u) (book_of k os).R, counts-tree o.times (top k o.order) u, count-tops os u)

  -- Section L counts, of a tree, the live teachings whose order has it as a low part, once however often it occurs.
  count-lows : (os : List Teaching) (u : Tree) → count_of (words u) (book_of k os).L ≡ teachings (λ t. any_tree u (low_parts k t)) os
  unfolding book_of taught teachings count_of
  count-lows [] u = refl
  count-lows (o ∷ os) u =
      rw (taught-k k os) (omega (arith, count-each o.times u (low_parts k o.order) (book_of k os).L (lows-once k o.order), count-lows os u))

  -- Section P counts, of a tree, the live teachings whose order has it as a middle part, once however often it occurs.
  count-middles : (os : List Teaching) (u : Tree) → count_of (words u) (book_of k os).P ≡ teachings (λ t. any_tree u (middle_parts k t)) os
  unfolding book_of taught teachings count_of
  count-middles [] u = refl
  count-middles (o ∷ os) u =
      rw (taught-k k os) (omega (arith, count-each o.times u (middle_parts k o.order) (book_of k os).P (middles-once k o.order), count-middles os u))

-- ---- ascending

-- With n more of each tree a section is still sorted.
pub sorted-each : (n : ℕ) (ts : List Tree) (es : List Entry) → 1 ≤ n → Sorted es → Sorted (add_each n ts es)
unfolding add_each
sorted-each n [] es p s = s
sorted-each n (t ∷ ts) es p s = sorted-add n (words t) (add_each n ts es) p (sorted-each n ts es p s)

-- The sections of the book of live teachings are sorted.
pub taught-sorted : (k : ℕ) (os : List Teaching) → ((o : Teaching) → o ∈ os → 1 ≤ o.times) → (s : Section) → Sorted (section_of s (book_of k os))
unfolding book_of taught section_of Sorted
taught-sorted k [] live Taught = tt
taught-sorted k [] live Tops = tt
taught-sorted k [] live Lows = tt
taught-sorted k [] live Middles = tt
taught-sorted k (o ∷ os) live Taught = sorted-add _ _ _ (live o (here refl)) (taught-sorted k os (λ p m. live p (there m)) Taught)
taught-sorted k (o ∷ os) live Tops = sorted-add _ _ _ (live o (here refl)) (taught-sorted k os (λ p m. live p (there m)) Tops)
taught-sorted k (o ∷ os) live Lows = sorted-each _ _ _ (live o (here refl)) (taught-sorted k os (λ p m. live p (there m)) Lows)
taught-sorted k (o ∷ os) live Middles = sorted-each _ _ _ (live o (here refl)) (taught-sorted k os (λ p m. live p (there m)) Middles)

-- ---- in form

-- Adds of each tree keep it if it holds of their words.
pub each-keys : (P : List ℕ → Type 0) (n : ℕ) (ts : List Tree) (es : List Entry) → ((t : Tree) → t ∈ ts → P (words t)) → ((e : Entry) → e ∈ es → P e.key)
    → (e : Entry) → e ∈ add_each n ts es → P e.key
unfolding add_each
each-keys P n [] es p h = h
each-keys P n (t ∷ ts) es p h = add-keys P n (words t) (add_each n ts es) (p t (here refl)) (each-keys P n ts es (λ s m. p s (there m)) h)

-- Of orders within the limits, the keys of each section fit.
pub taught-fits : (k : ℕ) (os : List Teaching) → ((o : Teaching) → o ∈ os → Fits 0 greatest_depth (words o.order)) → (s : Section) (e : Entry)
    → e ∈ section_of s (book_of k os) → Fits (shallowest s k) (deepest s k) e.key
unfolding book_of taught section_of
taught-fits k [] f Taught e m = absurd (Memᴰ.not-nil m)
taught-fits k [] f Tops e m = absurd (Memᴰ.not-nil m)
taught-fits k [] f Lows e m = absurd (Memᴰ.not-nil m)
taught-fits k [] f Middles e m = absurd (Memᴰ.not-nil m)
taught-fits k (o ∷ os) f Taught e m =
    add-keys (Fits 0 greatest_depth) _ _ _ (f o (here refl)) (taught-fits k os (λ p i. f p (there i)) Taught) e m
taught-fits k (o ∷ os) f Tops e m =
    let p : Fits 0 (k - 2) (words (top (book_of k os).k o.order)) = rw (taught-k k os) (top-fits k o.order 0 greatest_depth (f o (here refl))) in
    add-keys (Fits 0 (k - 2)) _ _ _ p (taught-fits k os (λ p i. f p (there i)) Tops) e m
taught-fits k (o ∷ os) f Lows e m =
    let p : (t : Tree) → t ∈ low_parts (book_of k os).k o.order → Fits 0 (k - 2) (words t) = rw (taught-k k os) (λ t i. low_fits k o.order t 0 greatest_depth (f o (here refl)) i) in
    each-keys (Fits 0 (k - 2)) _ _ _ p (taught-fits k os (λ p i. f p (there i)) Lows) e m
taught-fits k (o ∷ os) f Middles e m =
    let p : (t : Tree) → t ∈ middle_parts (book_of k os).k o.order → Fits (k - 1) (k - 1) (words t) = rw (taught-k k os) (λ t i. middle-fits k o.order t 0 greatest_depth (f o (here refl)) i) in
    each-keys (Fits (k - 1) (k - 1)) _ _ _ p (taught-fits k os (λ p i. f p (there i)) Middles) e m

-- No test passes for more teachings than are live.
teachings-most : (test : Tree → Bool) (k : ℕ) (os : List Teaching) → teachings test os ≤ live (book_of k os)
unfolding teachings book_of taught live total when◌then◌else◌
teachings-most test k [] = omega arith
teachings-most test k (o ∷ os) = go (test o.order) (teachings-most test k os)
  where
    go : (b : Bool) → teachings test os ≤ total (book_of k os).T → (when b then o.times else 0) + teachings test os ≤ total (add o.times (words o.order) (book_of k os).T)
    go true h = omega (arith, total-add o.times (words o.order) (book_of k os).T)
    go false h = omega (arith, total-add o.times (words o.order) (book_of k os).T)

module _ (k : ℕ) (os : List Teaching) where
  -- A tree counts in no section more than there are live teachings.
  count-live : (s : Section) (u : Tree) → count_of (words u) (section_of s (book_of k os)) ≤ live (book_of k os)
  unfolding section_of
  count-live Taught u = rw (count-taught k os u) (teachings-most _ k os)
  count-live Tops u = rw (count-tops k os u) (teachings-most _ k os)
  count-live Lows u = rw (count-lows k os u) (teachings-most _ k os)
  count-live Middles u = rw (count-middles k os u) (teachings-most _ k os)

  module _ (times : (o : Teaching) → o ∈ os → 1 ≤ o.times) (fits : (o : Teaching) → o ∈ os → Fits 0 greatest_depth (words o.order)) (few : live (book_of k os) ≤ greatest_count) where
    -- Each section of the book of orders within the limits is sound.
    sound : (s : Section) → SoundSection (shallowest s k) (deepest s k) (section_of s (book_of k os))
    sound s =
        let sorted = taught-sorted k os times s in
        record {
          entry = λ e m.
              let f = taught-fits k os fits s e m in
              record {
                some = sorted-some _ sorted e m;
                few = omega (arith, entry-count (words f.tree) sorted m f.is_order.spelt, count-live s f.tree);
                tree = f;
              };
          ascends = λ xs ys e g q. sorted-next xs ys e g (rw q at sorted);
        }

    -- The book of orders within the limits, few enough of them live, is in form.
    pub taught-formed : least_k ≤ k → k ≤ greatest_k → in_form (book_of k os) ≡ true
    taught-formed least greatest = sections_form k (book_of k os) (taught-k k os) least greatest few sound

-- ---- the empty book

-- The empty book has no entries.
pub none_in : (s : Section) (k : ℕ) → section_of s (book_of k []) ≡ []
unfolding section_of book_of
none_in Taught k = refl
none_in Tops k = refl
none_in Lows k = refl
none_in Middles k = refl

-- ---- the test of two sections

-- The test passes only for the same section.
pub same-section : (a b : List Entry) → same_section a b ≡ true → a ≡ b
unfolding same_section
same-section [] [] e = refl
same-section [] (y ∷ b) e = no_test e
same-section (x ∷ a) [] e = no_test e
same-section (x ∷ a) (y ∷ b) e =
    let f = and_right _ _ e in
    let first : x ≡ y = ap₂ counted (words_same x.key y.key (and_left _ _ e)) (eqb-true x.count y.count (and_left _ _ f)) in
    ap₂ ◌∷◌ first (same-section a b (and_right _ _ f))

-- It passes for the same section.
pub section-same : (a b : List Entry) → a ≡ b → same_section a b ≡ true
unfolding same_section
section-same a b e = rw (← e) (itself a)
  where
    itself : (c : List Entry) → same_section c c ≡ true
    itself [] = refl
    itself (x ∷ c) = and_both (same-words x.key) (and_both (eq-eqb x.count x.count refl) (itself c))
