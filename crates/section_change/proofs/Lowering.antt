-- A section lowered by each key of another: what the first entries come to, and what stays so of order, counts and sizes; and the words
-- once an entry has one less. Assumes nothing.
use Rattle.std.specs.declared.cmp.Ordering.{Ordering}
use Rattle.std.specs.declared.cmp.Ordering.TheVariants.{Less, Equal, Greater}
use Prim.Native.Nat.{ℕ, ◌+◌, ◌*◌, ◌-◌, ◌≤◌, ◌<◌}
use mathlib.Core.Path.{◌≡◌, refl, ◌∙◌}
use mathlib.Core.Bool.{Bool, true, false}
use mathlib.Core.List.{List, [], ◌∷◌, ◌++◌}
use native.Mathlib.Omega.{arith}
use lib.Dec.{leb}
use lib.ListN.{length, get_or, set}
use borrow.Author.Tests.{leb-true, leb-false, le-leb, lt-leb}
use Rattle.words.specs.Base.{when◌then◌else◌, same_words}
use Rattle.words.specs.Compare.{compare_of}
use Rattle.words.proofs.Ordered.{compare_self, compare_flip}
use Rattle.words.proofs.Tests.{and_left, and_right, and_both, words_same, by_test}
use Rattle.figures.specs.Limits.{greatest_count}
use Rattle.section.specs.Entries.{Entry, counted, section_words, has, counts_for, count_of, Below, Sorted, lessened, lower}
use Rattle.section_change.specs.Editing.{lower_all, fitting, brought, lessened_words, lessened_by}
use Rattle.section_change.specs.declared.Lessened.{Lessened}
use Rattle.section.proofs.Counts.{below-trans, below-lacks, counts-own, counts-other, lessened-out, lessened-left, count-lower}
use Rattle.section.proofs.Sorting.{below-lower, sorted-lower}
use Rattle.section.proofs.Sizes.{size-first}

-- ---- one key

-- Lowering a key that stands below the first entry changes nothing.
lower-below : (x : List ℕ) (es : List Entry) → Below x es → lower x es ≡ es
unfolding Below lower
lower-below x [] h = refl
lower-below x (e ∷ es) h = let c : compare_of e.key x ≡ Greater = compare_flip x e.key ∙ rw h in rw c

-- Lowering a key keeps every count at most 65,535.
fitting-lower : (x : List ℕ) (es : List Entry) → fitting es ≡ true → fitting (lower x es) ≡ true
unfolding lower fitting
fitting-lower x [] h = refl
fitting-lower x (e ∷ es) h = go (compare_of e.key x) refl (leb e.count 1) refl (fitting-lower x es (and_right _ _ h))
  where
    go : (o : Ordering) → compare_of e.key x ≡ o → (b : Bool) → leb e.count 1 ≡ b → fitting (lower x es) ≡ true → fitting (lower x (e ∷ es)) ≡ true
    go Less c b t ih = rw c (and_both (and_left _ _ h) ih)
    go Equal c true t ih = rw (c, lessened-out e es t) (and_right _ _ h)
    go Equal c false t ih =
        rw (c, lessened-left e es t) (and_both (le-leb (e.count - 1) greatest_count (omega (arith, leb-true e.count greatest_count (and_left _ _ h)))) (and_right _ _ h))
    go Greater c b t ih = rw c h

-- Lowering a key never takes more words.
size-lower : (x : List ℕ) (es : List Entry) → length (section_words (lower x es)) ≤ length (section_words es)
unfolding lower
size-lower x [] = omega arith
size-lower x (e ∷ es) = go (compare_of e.key x) refl (leb e.count 1) refl (size-lower x es)
  where
    go : (o : Ordering) → compare_of e.key x ≡ o → (b : Bool) → leb e.count 1 ≡ b → length (section_words (lower x es)) ≤ length (section_words es)
        → length (section_words (lower x (e ∷ es))) ≤ length (section_words (e ∷ es))
    go Less c b t ih = rw c (omega (arith, size-first e es, size-first e (lower x es)))
    go Equal c true t ih = rw (c, lessened-out e es t) (omega (arith, size-first e es))
    go Equal c false t ih = rw (c, lessened-left e es t) (omega (arith, size-first e es, size-first (counted e.key (e.count - 1)) es))
    go Greater c b t ih = rw c (omega arith)

-- ---- what stays so

-- Lowered by another section, a section is still sorted.
pub sorted-lower_all : (os es : List Entry) → Sorted es → Sorted (lower_all os es)
unfolding lower_all
sorted-lower_all [] es s = s
sorted-lower_all (o ∷ os) es s = sorted-lower o.key (lower_all os es) (sorted-lower_all os es s)

-- What stands below the first entry still does.
below-lower_all : (y : List ℕ) (os es : List Entry) → Sorted es → Below y es → Below y (lower_all os es)
unfolding lower_all
below-lower_all y [] es s h = h
below-lower_all y (o ∷ os) es s h = below-lower y o.key (lower_all os es) (sorted-lower_all os es s) (below-lower_all y os es s h)

-- Every count stays at most 65,535.
pub fitting-lower_all : (os es : List Entry) → fitting es ≡ true → fitting (lower_all os es) ≡ true
unfolding lower_all
fitting-lower_all [] es h = h
fitting-lower_all (o ∷ os) es h = fitting-lower o.key (lower_all os es) (fitting-lower_all os es h)

-- It never takes more words.
pub size-lower_all : (os es : List Entry) → length (section_words (lower_all os es)) ≤ length (section_words es)
unfolding lower_all
size-lower_all [] es = omega arith
size-lower_all (o ∷ os) es = omega (arith, size-lower o.key (lower_all os es), size-lower_all os es)

-- Each key of the other counts one less, down to 0, and the others the same.
pub count-lower_all : (z : List ℕ) (os es : List Entry) → Sorted os → Sorted es → count_of z (lower_all os es) ≡ count_of z es - (when has z os then 1 else 0)
unfolding Sorted lower_all has when◌then◌else◌
count-lower_all z [] es p s = omega arith
count-lower_all z (o ∷ os) es p s = go (same_words o.key z) refl (count-lower_all z os es p.2 s)
  where
    one : count_of z (lower_all (o ∷ os) es) ≡ count_of z (lower_all os es) - counts_for z (counted o.key 1)
    one = count-lower o.key z (lower_all os es) (sorted-lower_all os es s)

    go : (b : Bool) → same_words o.key z ≡ b → count_of z (lower_all os es) ≡ count_of z es - (when has z os then 1 else 0)
        → count_of z (lower_all (o ∷ os) es) ≡ count_of z es - (when (when b then true else has z os) then 1 else 0)
    go true t ih = omega (arith, one, counts-own o.key z 1 t, rw (below-lacks z os (rw (words_same o.key z t) at p.1) p.2) at ih)
    go false t ih = omega (arith, one, counts-other o.key z 1 t)

-- ---- the first entries of both

-- An entry that stands below all the other's keys stays.
pub lower-all_above : (os : List Entry) (e : Entry) (es : List Entry) → Sorted os → Below e.key os → lower_all os (e ∷ es) ≡ e ∷ lower_all os es
unfolding Sorted Below lower_all lower
lower-all_above [] e es p h = refl
lower-all_above (o ∷ os) e es p h = rw (lower-all_above os e es p.2 (below-trans e.key o.key os h p.1), h)

-- An entry of the other's first key has one less.
pub lower-all_equal : (o : Entry) (os : List Entry) (e : Entry) (es : List Entry) → Sorted (o ∷ os) → o.key ≡ e.key
    → lower_all (o ∷ os) (e ∷ es) ≡ lessened e (lower_all os es)
unfolding Sorted lower_all lower
lower-all_equal o os e es p k = rw (lower-all_above os e es p.2 (rw k at p.1), k, compare_self e.key)

-- The other's first key changes nothing where it stands below the first entry.
pub lower-all_below : (o : Entry) (os es : List Entry) → Sorted es → Below o.key es → lower_all (o ∷ os) es ≡ lower_all os es
unfolding lower_all
lower-all_below o os es s h = lower-below o.key (lower_all os es) (below-lower_all o.key os es s h)

-- What one less of an entry leaves of it stands before the others.
pub lessened-apart : (e : Entry) (es : List Entry) → lessened e es ≡ lessened e [] ++ es
lessened-apart e es =
    by_test (leb e.count 1)
    (λ t. rw (lessened-out e es t, lessened-out e [] t))
    (λ t. rw (lessened-left e es t, lessened-left e [] t))

-- ---- the words once an entry has one less

-- The gap, the place of the entry, and the words.
module _ (to kept at : ℕ) (ws : List ℕ) where
  -- An entry that counts at most 1 is taken out.
  pub lessened-words_out : get_or ws (at + 1) 0 ≤ 1 → lessened_words to kept at ws ≡ brought to kept at ws
  unfolding lessened_words when◌then◌else◌
  lessened-words_out h = rw (le-leb (get_or ws (at + 1) 0) 1 h)

  -- The gap then reaches past it.
  pub lessened-by_out : get_or ws (at + 1) 0 ≤ 1
      → lessened_by to kept at ws ≡ record { to = to + (at - kept); kept = at + 2 + 2 * get_or ws at 0; next = at + 2 + 2 * get_or ws at 0; out = 1 }
  unfolding lessened_by when◌then◌else◌
  lessened-by_out h = rw (le-leb (get_or ws (at + 1) 0) 1 h)

  -- An entry that counts more has one less.
  pub lessened-words_left : 1 < get_or ws (at + 1) 0 → lessened_words to kept at ws ≡ set ws (at + 1) (get_or ws (at + 1) 0 - 1)
  unfolding lessened_words when◌then◌else◌
  lessened-words_left h = rw (lt-leb (get_or ws (at + 1) 0) 1 h)

  -- The gap is then as it was.
  pub lessened-by_left : 1 < get_or ws (at + 1) 0 → lessened_by to kept at ws ≡ record { to = to; kept = kept; next = at + 2 + 2 * get_or ws at 0; out = 0 }
  unfolding lessened_by when◌then◌else◌
  lessened-by_left h = rw (lt-leb (get_or ws (at + 1) 0) 1 h)

  -- No more than the one entry is taken out.
  pub lessened-most : (r : Lessened) → r ≡ lessened_by to kept at ws → r.out ≤ 1
  lessened-most r is = go (leb (get_or ws (at + 1) 0) 1) refl
    where
      go : (b : Bool) → leb (get_or ws (at + 1) 0) 1 ≡ b → r.out ≤ 1
      go true t = rw (is ∙ lessened-by_out (leb-true (get_or ws (at + 1) 0) 1 t)) (omega arith)
      go false t = rw (is ∙ lessened-by_left (leb-false (get_or ws (at + 1) 0) 1 t)) (omega arith)
