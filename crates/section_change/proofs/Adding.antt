-- A section added to another: that the sum is sorted, what it counts and takes, and what the first entries of both come to. Assumes nothing.
use Rattle.std.specs.declared.cmp.Ordering.{Ordering}
use Rattle.std.specs.declared.cmp.Ordering.TheVariants.{Equal, Greater}
use Prim.Native.Nat.{ℕ, zero, suc, ◌+◌, ◌<◌, ◌≤◌}
use mathlib.Core.Path.{◌≡◌, refl, ◌∙◌}
use mathlib.Core.Bool.{true}
use mathlib.Core.List.Memᴰ.{head as here}
use mathlib.Core.List.Memᴰ.{tail as there}
use mathlib.Core.List.{List, [], ◌∷◌}
use native.Mathlib.Omega.{arith}
use lib.Dec.{leb}
use lib.ListN.{length}
use borrow.Author.Tests.{leb-true, le-leb}
use Rattle.words.specs.Base.{◌∈◌}
use Rattle.words.specs.Compare.{compare_of}
use Rattle.words.proofs.Ordered.{compare_equal, compare_flip}
use Rattle.words.proofs.Tests.{and_left, and_right, and_both}
use Rattle.figures.specs.Limits.{greatest_count}
use Rattle.section.specs.Entries.{Entry, counted, section_words, entries, count_of, total, Below, Sorted, add}
use Rattle.section_change.specs.Editing.{add_all, fitting, first_against}
use Rattle.section.proofs.Counts.{below-trans, count_add, total-add}
use Rattle.section.proofs.Sorting.{below-add, sorted-add, add-below}
use Rattle.section.proofs.Sizes.{size-grows}

-- ---- how a first entry stands to a key

-- Where the first entry is higher than a key, or there is none, the key stands below all.
pub against_below : (key : List ℕ) (es : List Entry) → first_against key es ≡ Greater → Below key es
unfolding Below
against_below key [] h = tt
against_below key (e ∷ es) h = compare_flip e.key key ∙ rw h

-- An entry is left unless the answer is higher.
pub against_some : (key ws : List ℕ) (left : ℕ) (o : Ordering) → first_against key (entries left ws) ≡ o → (Greater ≡ o → ⊥) → 0 < left
unfolding entries
against_some key ws zero o e other = absurd (other e)
against_some key ws (suc left) o e other = omega arith

-- ---- the sum

-- The sum of two sorted sections is sorted.
pub sorted-add_all : (os es : List Entry) → Sorted os → Sorted es → Sorted (add_all os es)
unfolding Sorted add_all
sorted-add_all [] es s t = t
sorted-add_all (o ∷ os) es s t = sorted-add o.count o.key (add_all os es) s.0 (sorted-add_all os es s.2 t)

-- A key counts in the sum what it counts in both.
pub count-add_all : (z : List ℕ) (os es : List Entry) → count_of z (add_all os es) ≡ count_of z os + count_of z es
unfolding add_all count_of
count-add_all z [] es = omega arith
count-add_all z (o ∷ os) es = omega (arith, count_add o.count o.key z (add_all os es), count-add_all z os es)

-- It counts in all what both count.
pub total-add_all : (os es : List Entry) → total (add_all os es) ≡ total es + total os
unfolding add_all total
total-add_all [] es = omega arith
total-add_all (o ∷ os) es = omega (arith, total-add o.count o.key (add_all os es), total-add_all os es)

-- The sum takes no fewer words.
pub size-add_all : (os es : List Entry) → length (section_words es) ≤ length (section_words (add_all os es))
unfolding add_all
size-add_all [] es = omega arith
size-add_all (o ∷ os) es = omega (arith, size-grows o.count o.key (add_all os es), size-add_all os es)

-- What stands below two sorted sections stands below their sum.
below-add_all : (y : List ℕ) (os es : List Entry) → Sorted os → Below y os → Below y es → Below y (add_all os es)
unfolding Sorted add_all Below
below-add_all y [] es s h k = k
below-add_all y (o ∷ os) es s h k = below-add y o.count o.key (add_all os es) h (below-add_all y os es s.2 (below-trans y o.key os h s.1) k)

-- ---- one turn

-- An entry below all that is added stays as it is.
pub add-all_past : (os : List Entry) (e : Entry) (es : List Entry) → Sorted os → Below e.key os → add_all os (e ∷ es) ≡ e ∷ add_all os es
unfolding Sorted Below add_all add
add-all_past [] e es s h = refl
add-all_past (o ∷ os) e es s h = rw (add-all_past os e es s.2 (below-trans e.key o.key os h s.1), h)

-- An entry of the key that is added has both counts.
pub add-all_same : (o : Entry) (os : List Entry) (e : Entry) (es : List Entry) → Sorted (o ∷ os) → compare_of e.key o.key ≡ Equal
    → add_all (o ∷ os) (e ∷ es) ≡ counted e.key (e.count + o.count) ∷ add_all os es
unfolding Sorted add_all add
add-all_same o os e es s c = rw (add-all_past os e es s.2 (rw (compare_equal e.key o.key c) s.1), c)

-- A key below all entries is entered in front of them.
pub add-all_enter : (o : Entry) (os es : List Entry) → Sorted (o ∷ os) → Below o.key es → add_all (o ∷ os) es ≡ o ∷ add_all os es
unfolding Sorted add_all
add-all_enter o os es s h = add-below o.count o.key (add_all os es) (below-add_all o.key os es s.2 s.1 h)

-- ---- counts that fit

-- Of entries that fit, each counts at most 65,535.
pub fitting-entry : (es : List Entry) → fitting es ≡ true → (e : Entry) → e ∈ es → e.count ≤ greatest_count
unfolding fitting
fitting-entry [] h e x'' = elim x'' [ ]
fitting-entry (i ∷ es) h e (here q) = rw q (leb-true i.count greatest_count (and_left (leb i.count greatest_count) (fitting es) h))
fitting-entry (i ∷ es) h e (there m) = fitting-entry es (and_right (leb i.count greatest_count) (fitting es) h) e m

-- Entries of which each counts at most 65,535 fit.
pub entry-fitting : (es : List Entry) → ((e : Entry) → e ∈ es → e.count ≤ greatest_count) → fitting es ≡ true
unfolding fitting
entry-fitting [] h = refl
entry-fitting (e ∷ es) h = and_both (le-leb e.count greatest_count (h e (here refl))) (entry-fitting es (λ i m. h i (there m)))
