-- What teachings of an order count in each section of a book: n more of each of its trees there, whatever comes first. Assumes nothing.
use Prim.Native.Nat.{ℕ, ◌+◌, ◌≤◌}
use mathlib.Core.Path.{◌≡◌, refl, ap, ◌∙◌}
use mathlib.Core.Bool.{Bool, true, false}
use mathlib.Core.List.Memᴰ
use mathlib.Core.List.{List, [], ◌∷◌}
use native.Mathlib.Omega.{arith}
use Rattle.words.specs.Base.{when◌then◌else◌, same_words, ◌∈◌}
use Rattle.words.proofs.Tests.{words_same}
use Rattle.order.specs.Trees.{Tree, words}
use Rattle.order.proofs.Once.{NoRepeats, lows-once, middles-once}
use Rattle.section.specs.Entries.{Entry, has, count_of, Sorted}
use Rattle.section.proofs.Counts.{counts-own, counts-other, counts-sum, count_add, total-add, has-add}
use Rattle.book.specs.Book.{Book, section_of, live}
use Rattle.book.specs.Taught.{add_each, taught, book_of, trees_in, times_in}
use Rattle.book.specs.declared.Section.{Section}
use Rattle.book.specs.declared.Section.TheVariants.{Taught, Tops, Lows, Middles}
use Rattle.book.proofs.Sections.{each-section, InOrder, by_counts}
use Rattle.book.proofs.Taught.{in_any, lacks_any, count-each, sorted-each}

-- ---- each tree of a list

-- n more of each tree of a list, and of nothing else, are sorted.
pub each-sorted : (n : ℕ) (ts : List Tree) → 1 ≤ n → Sorted (add_each n ts [])
unfolding Sorted
each-sorted n ts p = sorted-each n ts [] p tt

-- n more of each tree count for a key what they count alone, and what it counted.
pub count-each_apart : (n : ℕ) (z : List ℕ) (ts : List Tree) (es : List Entry) → count_of z (add_each n ts es) ≡ count_of z (add_each n ts []) + count_of z es
unfolding add_each count_of
count-each_apart n z [] es = omega arith
count-each_apart n z (t ∷ ts) es =
    omega (arith, count_add n (words t) z (add_each n ts es), count_add n (words t) z (add_each n ts []), count-each_apart n z ts es)

-- n of each tree of a list without repeats count n for a key that one of each has, and nothing for others.
pub each-count : (n : ℕ) (z : List ℕ) (ts : List Tree) → NoRepeats ts → count_of z (add_each n ts []) ≡ (when has z (add_each 1 ts []) then n else 0)
unfolding NoRepeats add_each count_of has when◌then◌else◌
each-count n z [] r = refl
each-count n z (t ∷ ts) r = go (same_words (words t) z) refl (each-count n z ts r.1)
  where
    none : count_of (words t) (add_each n ts []) ≡ 0
    none = count-each n t ts [] r.1 ∙ rw (lacks_any t ts r.0) (omega arith)

    go : (b : Bool) → same_words (words t) z ≡ b → count_of z (add_each n ts []) ≡ (when has z (add_each 1 ts []) then n else 0)
        → count_of z (add_each n (t ∷ ts) []) ≡ (when has z (add_each 1 (t ∷ ts) []) then n else 0)
    go true e ih = rw (has-add 1 (words t) z (add_each 1 ts []), e) (omega (arith, count_add n (words t) z (add_each n ts []), counts-own (words t) z n e, rw (words_same (words t) z e) at none))
    go false e ih = rw (has-add 1 (words t) z (add_each 1 ts []), e) (omega (arith, count_add n (words t) z (add_each n ts []), counts-other (words t) z n e, ih))

-- So many teachings count for a key what two smaller numbers of them count.
count-each_sum : (m n : ℕ) (z : List ℕ) (ts : List Tree) → count_of z (add_each (m + n) ts []) ≡ count_of z (add_each m ts []) + count_of z (add_each n ts [])
unfolding add_each count_of
count-each_sum m n z [] = refl
count-each_sum m n z (t ∷ ts) =
    omega (arith, count_add (m + n) (words t) z (add_each (m + n) ts []), count_add m (words t) z (add_each m ts []), count_add n (words t) z (add_each n ts []), counts-sum (words t) z m n, count-each_sum m n z ts)

-- ---- the sections, one by one

-- A section after n teachings of an order.
pub taught-section : (n : ℕ) (t : Tree) (b : Book) (s : Section) → section_of s (taught n t b) ≡ add_each n (trees_in s b.k t) (section_of s b)
unfolding section_of taught add_each
taught-section n t b = each-section _ refl refl refl refl

-- A section of the book of n teachings of one order.
pub own_section : (n k : ℕ) (t : Tree) (s : Section) → section_of s (book_of k (record { order = t; times = n } ∷ [])) ≡ add_each n (trees_in s k t) []
unfolding section_of book_of taught add_each
own_section n k t = each-section _ refl refl refl refl

-- A teaching counts each tree of a section once.
pub trees-once : (k : ℕ) (t : Tree) (s : Section) → NoRepeats (trees_in s k t)
unfolding NoRepeats
trees-once k t Taught = (Memᴰ.not-nil, tt)
trees-once k t Tops = (Memᴰ.not-nil, tt)
trees-once k t Lows = lows-once k t
trees-once k t Middles = middles-once k t

-- n teachings of an order are n live teachings more.
pub live-taught : (n : ℕ) (t : Tree) (b : Book) → live (taught n t b) ≡ live b + n
unfolding live taught
live-taught n t b = omega (arith, total-add n (words t) b.T)

module _ (s : Section) (k n : ℕ) (t u : Tree) where
  -- n teachings count n for a tree that they count in the section.
  pub times-counted : u ∈ trees_in s k t → times_in s k n t u ≡ n
  unfolding times_in when◌then◌else◌
  times-counted m = rw (in_any u m)

  -- They count nothing for another.
  pub times-other : (u ∈ trees_in s k t → ⊥) → times_in s k n t u ≡ 0
  unfolding times_in when◌then◌else◌
  times-other lacks = rw (lacks_any u (trees_in s k t) lacks)

-- n teachings of an order count n more, in each section, for each tree that they count there, and nothing for others.
pub count-after_taught : (n : ℕ) (t u : Tree) (b : Book) (s : Section) → count_of (words u) (section_of s (taught n t b)) ≡ times_in s b.k n t u + count_of (words u) (section_of s b)
unfolding times_in
count-after_taught n t u b s = ap (count_of (words u)) (taught-section n t b s) ∙ count-each n u (trees_in s b.k t) (section_of s b) (trees-once b.k t s)

-- ---- one teaching after another

-- n teachings of an order count for a key what they count alone, and what it counted.
taught-count : (n : ℕ) (t : Tree) (b : Book) (s : Section) (z : List ℕ)
    → count_of z (section_of s (taught n t b)) ≡ count_of z (add_each n (trees_in s b.k t) []) + count_of z (section_of s b)
taught-count n t b s z = ap (count_of z) (taught-section n t b s) ∙ count-each_apart n z (trees_in s b.k t) (section_of s b)

-- Once an order is taught the sections are sorted.
pub taught-in_order : (n : ℕ) (t : Tree) (b : Book) → 1 ≤ n → InOrder b → InOrder (taught n t b)
taught-in_order n t b p o s = rw (taught-section n t b s) (sorted-each n (trees_in s b.k t) (section_of s b) p (o s))

-- Teachings of two orders may come in any order.
pub commute : (b : Book) → InOrder b → (m n : ℕ) (t u : Tree) → 1 ≤ m → 1 ≤ n → taught m t (taught n u b) ≡ taught n u (taught m t b)
unfolding taught
commute b o m n t u p q =
    by_counts _ _ (taught-in_order m t _ p (taught-in_order n u b q o)) (taught-in_order n u _ q (taught-in_order m t b p o)) refl (λ s z.
    omega (arith, taught-count m t (taught n u b) s z, taught-count n u b s z, taught-count n u (taught m t b) s z, taught-count m t b s z))

-- More teachings of an order and then more of it are all of them at once.
pub taught-twice : (m n : ℕ) (t : Tree) (b : Book) → 1 ≤ m → 1 ≤ n → InOrder b → taught (m + n) t b ≡ taught n t (taught m t b)
unfolding taught
taught-twice m n t b p q o =
    by_counts _ _ (taught-in_order (m + n) t b (omega arith) o) (taught-in_order n t _ q (taught-in_order m t b p o)) refl (λ s z.
    omega (arith, taught-count (m + n) t b s z, taught-count n t (taught m t b) s z, taught-count m t b s z, count-each_sum m n z (trees_in s b.k t)))
