-- What a call of teach or withdraw meets: a refusal by 4, 5, 1 or 2, or a book in form and an order, and then a case of each. Assumes nothing.
use Prim.Native.Nat.{ℕ, ◌≤◌, ◌<◌}
use mathlib.Core.Path.{◌≡◌, refl, ◌∙◌}
use mathlib.Core.Bool.{Bool, true, false}
use mathlib.Core.List.{List}
use native.Mathlib.Omega.{arith}
use lib.Dec.{leb}
use lib.ListN.{length}
use borrow.Author.Tests.{le-leb, leb-true, leb-false}
use Rattle.words.specs.Base.{when◌then◌else◌}
use Rattle.figures.specs.Limits.{greatest_depth}
use Rattle.figures.specs.Numbers.{done, book_size, not_in_form, no_room, too_many, not_taught, not_agreeing}
use Rattle.section.specs.Entries.{Sorted, has}
use Rattle.order.specs.Trees.{Tree, words}
use Rattle.order.specs.Fits.{Fits}
use Rattle.order.specs.Reading.{order, by_order, order_of, cause_of}
use Rattle.order.proofs.Causes.{cause_is, Seen, seen, stopped, passed, order-passed}
use Rattle.order.proofs.Fitting.{passed-fits}
use Rattle.book.specs.Book.{Book, section_of, used, lay, in_form}
use Rattle.book.specs.Decoding.{book_in, formed, by_book, sized, on_book, places_of}
use Rattle.book.specs.Holding.{Holds}
use Rattle.book.specs.Taught.{taught}
use Rattle.book.specs.Opening.{Outcome, leave, write_book}
use Rattle.book.specs.declared.Section.{Section}
use Rattle.book.proofs.Meaning.{decoded, read_back, lay-long}
use Rattle.book.proofs.Heads.{on-unsized, on-unformed, form-formed}
use Rattle.book.proofs.Holding.{holds}
use Rattle.book.proofs.Sound.{held_book}
use Rattle.book.proofs.Sections.{form-sorted}
use Rattle.book_change.specs.Counts.{within_counts}
use Rattle.book_teaching.specs.Calls.{on_order, teach_tree, teach_of, withdrawn, has_parts, withdraw_tree, withdraw_of}
use Rattle.book_teaching.proofs.Outcomes.{by_cause}
use Rattle.book_teaching.specs.Conditions.{BookAndOrder}

-- ---- the book and the order

-- What a call meets: its refusal by 4, 5, 1 or 2, or a book in form and an order.
pub data Met (ws os : List ℕ) : Type 0 where
  refuses : (n : ℕ) → (n ≡ done → ⊥) → ((f : Book → Tree → Outcome) → on_order ws os f ≡ leave ws n) → Met ws os
  goes : (b : Book) (t : Tree) → BookAndOrder ws os b t → Met ws os

-- A call with a book in form and an order goes by both.
on_both : (ws os : List ℕ) (b : Book) (t : Tree) (f : Book → Tree → Outcome) → BookAndOrder ws os b t → on_order ws os f ≡ f b t
unfolding on_order on_book by_book by_order when◌then◌else◌
on_both ws os b t f g = rw (g.size, g.is_book, g.is_order)

-- Every call meets one of them.
pub met : (ws os : List ℕ) → Met ws os
unfolding on_order
met ws os = go (sized ws) refl (formed ws) refl (seen os)
  where
    go : (a : Bool) → sized ws ≡ a → (c : Bool) → formed ws ≡ c → Seen os → Met ws os
    go false z c g s = refuses book_size (λ e. omega arith) (λ f. on-unsized (leave ws) ws _ z)
    go true z false g s = refuses not_in_form (λ e. omega arith) (λ f. on-unformed (leave ws) ws _ z g)
    go true z true g s = with-book (holds ws (places_of (book_in ws)) (form-formed ws z g)) s
      where
        with-book : Holds ws (places_of (book_in ws)) → Seen os → Met ws os
        with-book w (stopped h r) = refuses (cause_of os) h (by_cause ws os (book_in ws) (held_book ws _ w) (cause_of os) (cause_is os) h)
        with-book w (passed t k p) = goes (book_in ws) t (record { size = z; is_book = w.decoded; is_order = p.is })

-- ---- what it has of a book in form and an order

module _ (ws os : List ℕ) (b : Book) (t : Tree) (g : BookAndOrder ws os b t) where
  -- The words are the book's.
  pub its_words : lay (length ws) b ≡ ws
  its_words = (decoded ws b g.is_book).0

  -- The book is in form.
  pub its_form : in_form b ≡ true
  its_form = (decoded ws b g.is_book).1

  -- Its sections are sorted.
  pub its_sorted : (s : Section) → Sorted (section_of s b)
  its_sorted = form-sorted b its_form

  -- The order is within limits.
  pub its_limits : Fits 0 greatest_depth (words t)
  its_limits = passed-fits os t (order-passed os t g.is_order)

-- The words of a book in form that was written over others, with an order, are met as that book and that order.
pub written_met : (ws ps : List ℕ) (c : Book) (u : Tree) → sized ws ≡ true → in_form c ≡ true → used c ≤ length ws → order_of ps ≡ order u → BookAndOrder (lay (length ws) c) ps c u
unfolding sized
written_met ws ps c u z f room o = record {
  size = rw (lay-long (length ws) c room) z;
  is_book = read_back (length ws) c f;
  is_order = o;
}

-- ---- the cases

-- What teaching does with a book in form and an order.
pub data TeachCase (ws os : List ℕ) (c : Book) : Type 0 where
  passing : within_counts c ≡ false → teach_of ws os ≡ leave ws too_many → TeachCase ws os c
  crowded : within_counts c ≡ true → length ws < used c → teach_of ws os ≡ leave ws no_room → TeachCase ws os c
  teaches : within_counts c ≡ true → used c ≤ length ws → teach_of ws os ≡ write_book ws c → TeachCase ws os c

-- What withdrawing does with them.
pub data WithdrawCase (ws os : List ℕ) (b : Book) (t : Tree) : Type 0 where
  untaught : has (words t) b.T ≡ false → withdraw_of ws os ≡ leave ws not_taught → WithdrawCase ws os b t
  lacks : has (words t) b.T ≡ true → has_parts t b ≡ false → withdraw_of ws os ≡ leave ws not_agreeing → WithdrawCase ws os b t
  withdraws : has (words t) b.T ≡ true → has_parts t b ≡ true → withdraw_of ws os ≡ write_book ws (withdrawn t b) → WithdrawCase ws os b t

module _ (ws os : List ℕ) (b : Book) (t : Tree) (g : BookAndOrder ws os b t) where
  -- Teaching is by the book and the order.
  teach-both : teach_of ws os ≡ teach_tree ws b t
  unfolding teach_of
  teach-both = on_both ws os b t (teach_tree ws) g

  -- Withdrawing is by the book and the order.
  withdraw-both : withdraw_of ws os ≡ withdraw_tree ws b t
  unfolding withdraw_of
  withdraw-both = on_both ws os b t (withdraw_tree ws) g

  -- Where the counts fit then and there is room, teaching writes the book.
  pub teach-does : within_counts (taught 1 t b) ≡ true → used (taught 1 t b) ≤ length ws → teach_of ws os ≡ write_book ws (taught 1 t b)
  unfolding teach_tree when◌then◌else◌
  teach-does w r = teach-both ∙ rw (w, le-leb (used (taught 1 t b)) (length ws) r)

  -- Where the order and its parts have entries, withdrawing writes the book.
  pub withdraw-does : has (words t) b.T ≡ true → has_parts t b ≡ true → withdraw_of ws os ≡ write_book ws (withdrawn t b)
  unfolding withdraw_tree when◌then◌else◌
  withdraw-does h p = withdraw-both ∙ rw (h, p)

  -- Teaching is one of its cases.
  pub teach-case : TeachCase ws os (taught 1 t b)
  unfolding teach_tree when◌then◌else◌
  teach-case = go (within_counts c) refl (leb (used c) (length ws)) refl
    where
      c : Book
      c = taught 1 t b

      go : (x : Bool) → within_counts c ≡ x → (y : Bool) → leb (used c) (length ws) ≡ y → TeachCase ws os c
      go false w y l = passing w (teach-both ∙ rw w)
      go true w false l = crowded w (omega (arith, leb-false (used c) (length ws) l)) (teach-both ∙ rw (w, l))
      go true w true l = let r = leb-true (used c) (length ws) l in teaches w r (teach-does w r)

  -- Withdrawing is one of its cases.
  pub withdraw-case : WithdrawCase ws os b t
  unfolding withdraw_tree when◌then◌else◌
  withdraw-case = go (has (words t) b.T) refl (has_parts t b) refl
    where
      go : (x : Bool) → has (words t) b.T ≡ x → (y : Bool) → has_parts t b ≡ y → WithdrawCase ws os b t
      go false h y p = untaught h (withdraw-both ∙ rw h)
      go true h false p = lacks h p (withdraw-both ∙ rw (h, p))
      go true h true p = withdraws h p (withdraw-does h p)
