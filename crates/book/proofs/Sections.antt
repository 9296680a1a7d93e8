-- The four sections of a book, one by one: what holds of each holds of any, and a book is known by k and its sections. Assumes nothing.
use Prim.Native.Nat.{ℕ, ◌≤◌}
use mathlib.Core.Path.{◌≡◌, ap}
use mathlib.Core.Bool.{true}
use mathlib.Core.List.{List}
use native.Mathlib.Omega.{arith}
use lib.ListN.{length}
use Rattle.words.specs.Base.{◌∈◌}
use Rattle.figures.specs.Limits.{least_k, greatest_k, greatest_count}
use Rattle.section.specs.Entries.{Entry, count_of, Sorted}
use Rattle.section.proofs.Sorting.{same-counts}
use Rattle.order.specs.Fits.{Fits}
use Rattle.order.proofs.Orders.{size, some-lines}
use Rattle.book.specs.Book.{Book, section_of, shallowest, deepest, live, in_form}
use Rattle.book.specs.Sound.{SoundSection}
use Rattle.book.specs.declared.Section.{Section}
use Rattle.book.specs.declared.Section.TheVariants.{Taught, Tops, Lows, Middles}
use Rattle.book.proofs.Meaning.{form-proper}
use Rattle.book.proofs.Holding.{section-sorted}
use Rattle.book.proofs.Sound.{sound-section, form-sound, sound-form}

-- What holds of each of the four sections holds of any.
pub each-section : (Q : Section → Type 0) → Q Taught → Q Tops → Q Lows → Q Middles → (s : Section) → Q s
each-section Q t r l p Taught = t
each-section Q t r l p Tops = r
each-section Q t r l p Lows = l
each-section Q t r l p Middles = p

-- Two books with the same k and the same sections are the same.
pub same_books : (a b : Book) → a.k ≡ b.k → ((s : Section) → section_of s a ≡ section_of s b) → a ≡ b
unfolding section_of
same_books a b k e = same k (e Taught) (e Tops) (e Lows) (e Middles)
  where
    same : {k k' : ℕ} {t t' r r' l l' p p' : List Entry} → k ≡ k' → t ≡ t' → r ≡ r' → l ≡ l' → p ≡ p'
        → ◌≡◌ {A = Book} (record { k = k; T = t; R = r; L = l; P = p }) (record { k = k'; T = t'; R = r'; L = l'; P = p' })
    same e f g h i = cc

-- Every section of a book is sorted.
abbrev pub InOrder : Book → Type 0
InOrder b = (s : Section) → Sorted (section_of s b)

-- Two books of one k with sorted sections that count the same are the same.
pub by_counts : (a b : Book) → InOrder a → InOrder b → a.k ≡ b.k → ((s : Section) (z : List ℕ) → count_of z (section_of s a) ≡ count_of z (section_of s b)) → a ≡ b
by_counts a b p q k h = same_books a b k (λ s. same-counts (section_of s a) (section_of s b) (p s) (q s) (h s))

-- The keys of a book in form fit.
pub form-keys : (b : Book) → in_form b ≡ true → (s : Section) (e : Entry) → e ∈ section_of s b → Fits (shallowest s b.k) (deepest s b.k) e.key
form-keys b f s e m = ((sound-section b (form-sound b f) s).entry e m).tree

-- The sections of a book in form are sorted.
pub form-sorted : (b : Book) → in_form b ≡ true → InOrder b
form-sorted b form s = section-sorted s b ((form-proper b form).section s)

-- A book with a k and live teachings within limits is in form if its sections are sound.
pub sections_form : (k : ℕ) (b : Book) → b.k ≡ k → least_k ≤ k → k ≤ greatest_k → live b ≤ greatest_count
    → ((s : Section) → SoundSection (shallowest s k) (deepest s k) (section_of s b)) → in_form b ≡ true
unfolding section_of
sections_form k b is l g f sound = sound-form b (record {
  least = rw is l;
  greatest = rw is g;
  few = f;
  taught = sound Taught;
  tops = rw is (sound Tops);
  lows = rw is (sound Lows);
  middles = rw is (sound Middles);
})

-- No key of a section is empty.
pub keys_filled : (b : Book) → in_form b ≡ true → (s : Section) (e : Entry) → e ∈ section_of s b → 1 ≤ length e.key
keys_filled b f s e m = let k = form-keys b f s e m in omega (arith, ap length k.is_order.spelt, size k.tree, some-lines k.tree)
