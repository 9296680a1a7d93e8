-- Checking answers exactly by the rows of 01's table, as specs/Whys.antt states them, for any words; and it answers 0 after any
-- calls of a run, however it started. Assumes nothing.
use Prim.Native.Nat.{ℕ}
use mathlib.Core.Path.{◌≡◌, refl, sym, ap, ◌∙◌}
use mathlib.Core.Bool.{Bool, true, false}
use mathlib.Core.List.{List}
use Rattle.words.specs.Base.{when◌then◌else◌, ◌exactly_when◌}
use Rattle.words.proofs.Tests.{no_test}
use Rattle.figures.specs.Numbers.{done, book_size, not_in_form, not_agreeing}
use Rattle.figures.specs.Answers.{answered}
use Rattle.figures.specs.declared.Answer.{Answer}
use Rattle.book.specs.Book.{Book}
use Rattle.book.specs.Decoding.{book_form_of, Refused}
use Rattle.book.specs.Sound.{IsBook, WhyForm, shorter, longer, formless, book}
use Rattle.book.specs.Taught.{agreeing}
use Rattle.book.proofs.Sound.{why-is, why-only}
use Rattle.book.specs.Checking.{agree_of}
use Rattle.book.proofs.Checking.{check_unheld, check_held}
use Rattle.promises.specs.Remaining.{Call, after, remaining, booked}
use Rattle.promises.specs.Agreement.{Agrees}
use Rattle.promises.specs.Whys.{WhyChecked, check_no_book, disagrees, agrees}
use Rattle.promises.proofs.Laws.Agreement.{sound-agreeing}
use Rattle.promises.proofs.Laws.Remaining.{Begun, after-book, after-agrees}

module _ (ws : List ℕ) where
  -- What is answered by a book that passes the test of agreeing or does not.
  abbrev by_test : Bool → Answer
  by_test x = answered (when x then done else not_agreeing)

  -- Checking refuses by 4 or 5 where the words have such a reason.
  unbooked : (n : ℕ) → WhyForm ws (Refused n) → agree_of ws ≡ answered n
  unbooked n w = check_unheld ws n (why-only ws (Refused n) w)

  module _ (b : Book) (i : IsBook ws b) where
    -- The book passes the test exactly if it agrees with itself.
    test_exact : (agreeing b ≡ true) exactly_when Agrees b
    test_exact = sound-agreeing b i.sound

    -- One that passes is answered by 0,
    passed-0 : agreeing b ≡ true → agree_of ws ≡ answered done
    unfolding when◌then◌else◌
    passed-0 e = check_held ws b i ∙ ap by_test e

    -- and one that does not by 9.
    failed_9 : agreeing b ≡ false → agree_of ws ≡ answered not_agreeing
    unfolding when◌then◌else◌
    failed_9 e = check_held ws b i ∙ ap by_test e

  -- What checking answers has a row of 01's table.
  pub checked_why : WhyChecked ws (agree_of ws)
  checked_why = go (why-is ws)
    where
      -- By whether the book passes the test.
      by_book_lem : (b : Book) → IsBook ws b → (x : Bool) → agreeing b ≡ x → WhyChecked ws (agree_of ws)
      by_book_lem b i true e = agrees b (passed-0 b i e) i ((test_exact b i).0 e)
      by_book_lem b i false e = disagrees b (failed_9 b i e) i (λ g. no_test (sym e ∙ (test_exact b i).1 g))

      -- A reason of the words' form.
      no_book : (n : ℕ) → WhyForm ws (Refused n) → WhyChecked ws (agree_of ws)
      no_book n w = check_no_book n (unbooked n w) w

      -- By what the words are.
      go : WhyForm ws (book_form_of ws) → WhyChecked ws (agree_of ws)
      go (shorter r l) = no_book book_size (shorter refl l)
      go (longer r l) = no_book book_size (longer refl l)
      go (formless r l m n) = no_book not_in_form (formless refl l m n)
      go (book b r i) = by_book_lem b i (agreeing b) refl

  -- What has a row is what checking answers.
  pub checked_only : (a : Answer) → WhyChecked ws a → agree_of ws ≡ a
  checked_only a (check_no_book n e w) = unbooked n w ∙ sym e
  checked_only a (disagrees b e i x) = fails (agreeing b) refl ∙ sym e
    where
      -- A book that does not agree with itself fails the test.
      fails : (y : Bool) → agreeing b ≡ y → agree_of ws ≡ answered not_agreeing
      fails true p = absurd (x ((test_exact b i).0 p))
      fails false p = failed_9 b i p
  checked_only a (agrees b e i g) = passed-0 b i ((test_exact b i).1 g) ∙ sym e

-- After any calls the book is checked with 0.
pub grown_agrees : (slice : List ℕ) (k : ℕ) (first : List (List ℕ)) (ws : List ℕ) → Begun slice k first ws → (cs : List Call) → agree_of (after cs ws) ≡ answered done
grown_agrees slice k first ws begun cs =
    passed-0 (after cs ws) (booked k (remaining cs ws first)) (after-book slice k first ws begun cs) (after-agrees slice k first ws begun cs)
