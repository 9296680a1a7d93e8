-- The words of an opened book, and that it is in form; and what `open_of` is, case by case, as the code meets the cases; and what is
-- known of any outcome. Assumes nothing.
use Prim.Native.Nat.{ℕ, suc, ◌-◌, ◌≤◌}
use mathlib.Core.Path.{◌≡◌, refl, ap, sym, ◌∙◌, ap₂}
use mathlib.Core.Bool.{true, false, not}
use mathlib.Core.List.{List, [], ◌∷◌}
use native.Mathlib.Omega.{arith}
use borrow.Author.Tests.{le-leb}
use lib.ListN.{length, replicate, set}
use Rattle.words.specs.Base.{when◌then◌else◌, within}
use Rattle.words.proofs.Tests.{and_both, either_way}
use Rattle.figures.specs.Limits.{head_words, most_book_words, least_k, greatest_k}
use Rattle.figures.specs.Numbers.{done, k_outside, book_size}
use Rattle.figures.specs.Answers.{answered}
use Rattle.figures.specs.declared.Answer.{Answer}
use Rattle.section.specs.Entries.{section_words, total}
use Rattle.book.specs.Book.{section_of, body, used, live, encode, lay, ascending_from, section_in_form, in_form}
use Rattle.book.specs.Decoding.{sized}
use Rattle.book.specs.Taught.{book_of}
use Rattle.book.specs.Opening.{outcome, open_of, Outcome}
use Rattle.book.specs.declared.Section.{Section}
use Rattle.book.specs.declared.Section.TheVariants.{Taught, Tops, Lows, Middles}
use Rattle.book.specs.Sound.{IsBook}
use Rattle.book.proofs.Meaning.{proper_form, lay-long}
use Rattle.book.proofs.Heads.{is-sized}
use Rattle.book.proofs.Sound.{form-sound}

-- ---- the opened book

-- Its words are k, the words of the head, and zeros.
empty-laid : (n k : ℕ) → head_words ≤ n → lay n (book_of k []) ≡ set (set (replicate n 0) 0 k) 1 head_words
unfolding lay encode book_of body used live total section_words
empty-laid n k h = go (n - head_words) n (omega arith)
  where
    go : (m n : ℕ) → n ≡ suc (suc (suc (suc (suc (suc (suc m)))))) → lay n (book_of k []) ≡ set (set (replicate n 0) 0 k) 1 head_words
    go m n e =
        let q : suc (suc (suc (suc (suc (suc (suc m)))))) - head_words ≡ m = omega arith in
        rw e (ap (λ (j : ℕ). k ∷ head_words ∷ 0 ∷ 0 ∷ 0 ∷ 0 ∷ 0 ∷ replicate {A = ℕ} j 0) q)

-- Each of its sections is in form.
empty-section : (k : ℕ) (s : Section) → section_in_form s (book_of k []) ≡ true
unfolding section_in_form section_of ascending_from book_of
empty-section k Taught = refl
empty-section k Tops = refl
empty-section k Lows = refl
empty-section k Middles = refl

-- It is in form.
pub opened-formed : (k : ℕ) → least_k ≤ k → k ≤ greatest_k → in_form (book_of k []) ≡ true
unfolding book_of live total
opened-formed k l g =
    proper_form (book_of k []) (record {
      depth = and_both (le-leb least_k k l) (le-leb k greatest_k g);
      few = omega arith;
      section = empty-section k;
    })

-- ---- the cases

module _ (ws : List ℕ) (k : ℕ) (a : Answer) where
  -- A slice of no size for a book is refused by 4.
  pub open_unsized : a ≡ answered book_size → sized ws ≡ false → open_of ws k ≡ outcome a ws
  unfolding open_of when◌then◌else◌
  open_unsized e z = rw (z, e)

  -- In any other a k outside is refused by 3.
  pub no_depth : a ≡ answered k_outside → sized ws ≡ true → within least_k greatest_k k ≡ false → open_of ws k ≡ outcome a ws
  unfolding open_of when◌then◌else◌
  no_depth e z w = rw (z, w, e)

  -- Else k and the words of the head, written over zeros, are the opened book.
  pub opens : a ≡ answered done → sized ws ≡ true → within least_k greatest_k k ≡ true → head_words ≤ length ws
      → (l : List ℕ) (v : ℕ) → l ≡ replicate (length ws) 0 → v ≡ k → open_of ws k ≡ outcome a (set (set l 0 v) 1 head_words)
  unfolding open_of when◌then◌else◌
  opens e z w h l v f g = rw (z, w, e, f, g, empty-laid (length ws) k h)

-- ---- what opening does

-- An opened book uses the words of its head.
pub opened-used : (k : ℕ) → used (book_of k []) ≡ head_words
unfolding used body book_of section_words
opened-used k = refl

-- A slice of a size for a book and an allowed k: opening is done, and the slice is then the book of no orders.
module _ (ws : List ℕ) (k : ℕ) (l : head_words ≤ length ws) (s : length ws ≤ most_book_words) (a : least_k ≤ k) (z : k ≤ greatest_k) where
  -- It is answered by 0, and the whole slice is written.
  pub opened : open_of ws k ≡ outcome (answered done) (lay (length ws) (book_of k []))
  unfolding open_of when◌then◌else◌
  opened = rw (is-sized ws l s, and_both (le-leb least_k k a) (le-leb k greatest_k z))

  -- The words are then those of the empty book.
  pub opened-book : IsBook (open_of ws k).words (book_of k [])
  opened-book =
      let n : length (lay (length ws) (book_of k [])) ≡ length ws = lay-long (length ws) (book_of k []) (omega (arith, opened-used k)) in
      rw opened (record {
        long = omega arith;
        short = omega arith;
        sound = form-sound (book_of k []) (opened-formed k a z);
        laid = ap (λ (m : ℕ). lay m (book_of k [])) n;
      })

-- ---- outcomes

-- An outcome that is known has its number.
pub number_is : {o p : Outcome} → o ≡ p → o.answer.number ≡ p.answer.number
number_is e = ap (λ (o : Outcome). o.answer.number) e

-- Two numbers of one outcome are the same.
pub one_number : {o p : Outcome} {n : ℕ} → o ≡ p → o.answer.number ≡ n → p.answer.number ≡ n
one_number e f = sym (number_is e) ∙ f

-- An outcome that is known has its words.
pub words_are : {o p : Outcome} → o ≡ p → o.words ≡ p.words
words_are e = ap (λ (o : Outcome). o.words) e

-- An answer of a number and line 0, with the words then.
pub told : (ws : List ℕ) (a : Answer) (n : ℕ) → a ≡ answered n → outcome a ws ≡ outcome (answered n) ws
told ws a n e = ap (λ (x : Answer). outcome x ws) e

-- An outcome of line 0 is its number and its words.
pub outcome-is : (o : Outcome) (n : ℕ) (vs : List ℕ) → o.answer.number ≡ n → o.answer.line ≡ 0 → o.words ≡ vs → o ≡ outcome (answered n) vs
outcome-is o n vs e l w = ap₂ outcome (ap₂ (λ (m i : ℕ). record { number = m; line = i }) e l) w

-- The line of an outcome is 0.
abbrev pub no_line : Outcome → Type 0
no_line o = o.answer.line ≡ 0

-- Opening: line 0.
pub open_line : (ws : List ℕ) (k : ℕ) → (open_of ws k).answer.line ≡ 0
unfolding open_of
open_line ws k = either_way no_line (not (sized ws)) _ _ refl (either_way no_line (not (within least_k greatest_k k)) _ _ refl refl)
