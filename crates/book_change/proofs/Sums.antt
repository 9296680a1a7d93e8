-- Books added to one another, whose sections are sorted: what the sum counts, that it does not matter which is added to which nor how three are
-- grouped, and that a sum takes no fewer words. Assumes nothing.
use Prim.Native.Nat.{ℕ, ◌+◌, ◌≤◌}
use mathlib.Core.Path.{◌≡◌, refl, sym, ap, ◌∙◌}
use mathlib.Core.List.{List, []}
use native.Mathlib.Omega.{arith}
use Rattle.section.specs.Entries.{Entry, count_of}
use Rattle.section_change.specs.Editing.{add_all}
use Rattle.section_change.proofs.Adding.{sorted-add_all, count-add_all}
use Rattle.book.specs.Book.{Book, section_of, used, with_section}
use Rattle.book.specs.declared.Section.{Section}
use Rattle.book.proofs.Sections.{same_books, InOrder, by_counts}
use Rattle.book_change.specs.Changing.{changed_in, changed_book}
use Rattle.book_change.specs.declared.Change.TheVariants.{Teach}
use Rattle.book_change.proofs.Changed.{changed-section, used-changed}

-- A book with another added to it.
abbrev pub added : Book → Book → Book
added o b = changed_book Teach o b

-- It has the book's k.
pub added_k : (o b : Book) → (added o b).k ≡ b.k
unfolding changed_book changed_in with_section
added_k o b = refl

-- It counts what both count.
pub added_counts : (o b : Book) (s : Section) (z : List ℕ) → count_of z (section_of s (added o b)) ≡ count_of z (section_of s o) + count_of z (section_of s b)
added_counts o b s z = ap (count_of z) (changed-section Teach o b s) ∙ count-add_all z (section_of s o) (section_of s b)

-- Its sections are sorted.
pub added_sorted : (o b : Book) → InOrder o → InOrder b → InOrder (added o b)
added_sorted o b p q s = rw (changed-section Teach o b s) (sorted-add_all (section_of s o) (section_of s b) (p s) (q s))

-- It does not matter which of two books of one k is added to which.
pub added_turns : (o b : Book) → InOrder o → InOrder b → o.k ≡ b.k → added o b ≡ added b o
added_turns o b p q k = by_counts (added o b) (added b o) (added_sorted o b p q) (added_sorted b o q p) (added_k o b ∙ sym k ∙ sym (added_k b o)) (λ s z.
    omega (arith, added_counts o b s z, added_counts b o s z))

-- Nor does it matter how three are grouped.
pub added_groups : (a b c : Book) → InOrder a → InOrder b → InOrder c → added a (added b c) ≡ added (added a b) c
added_groups a b c p q r =
    by_counts (added a (added b c)) (added (added a b) c) (added_sorted a (added b c) p (added_sorted b c q r)) (added_sorted (added a b) c (added_sorted a b p q) r)
    (added_k a (added b c) ∙ added_k b c ∙ sym (added_k (added a b) c)) (λ s z.
    omega (arith, added_counts a (added b c) s z, added_counts b c s z, added_counts (added a b) c s z, added_counts a b s z))

-- The sum takes no fewer words than the book.
pub added_uses : (o b : Book) → InOrder o → InOrder b → used b ≤ used (added o b)
added_uses o b p q = omega (arith, used-changed o b p q)

-- A book of no entries adds nothing.
pub none-added : (o b : Book) → ((s : Section) → section_of s o ≡ []) → added o b ≡ b
none-added o b none =
    same_books (added o b) b (added_k o b) (λ s. changed-section Teach o b s ∙ ap (λ (es : List Entry). add_all es (section_of s b)) (none s) ∙ unfold add_all in refl)
