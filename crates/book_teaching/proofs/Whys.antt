-- Teaching and withdrawing answer exactly by the rows of 01's table, as specs/Whys.antt states them, for any words: every answer has its row,
-- and what has a row is the answer. Assumes nothing.
use Prim.Native.Nat.{ℕ}
use mathlib.Core.Path.{◌≡◌, refl, sym, ◌∙◌}
use mathlib.Core.List.{List}
use native.Mathlib.Omega.{arith}
use Rattle.figures.specs.Numbers.{done, book_size, not_in_form}
use Rattle.order.specs.Trees.{Tree}
use Rattle.order.specs.Reading.{cause_of}
use Rattle.order.specs.Causes.{Cause}
use Rattle.order.specs.Fits.{IsOrder}
use Rattle.order.proofs.Causes.{cause_is, Seen, stopped, passed, seen}
use Rattle.order.proofs.Fitting.{passed-order, order-read}
use Rattle.book.specs.Book.{Book}
use Rattle.book.specs.Decoding.{book_form_of, Refused}
use Rattle.book.specs.Sound.{IsBook, WhyForm, shorter, longer, formless, book}
use Rattle.book.specs.Taught.{taught}
use Rattle.book.specs.Opening.{Outcome, leave}
use Rattle.book.proofs.Heads.{is-sized}
use Rattle.book.proofs.Sound.{sound-form, book-decode, why-is, why-only}
use Rattle.book.proofs.Openings.{outcome-is}
use Rattle.book_teaching.specs.Calls.{on_order, teach_tree, teach_of, withdraw_tree, withdraw_of}
use Rattle.book_teaching.proofs.Outcomes.{unheld, by_cause}
use Rattle.book_teaching.specs.Conditions.{BookAndOrder}
use Rattle.book_teaching.specs.Whys.{WhyTaught, teach_no_book, teach_no_order, would_pass, needs_more, book_taught, WhyWithdrawn, withdraw_no_book, withdraw_no_order, no_entry, part_missing, book_withdrawn}
use Rattle.book_teaching.proofs.Calling.{TeachCase, passing, crowded, teaches, teach-case, WithdrawCase, untaught, lacks, withdraws, withdraw-case}
use Rattle.book_teaching.proofs.Conditions.{teach-7, teach-6, teach-0, teach-writes, teach-refusal_leaves, teach-line, withdraw-8, withdraw-9, withdraw-0, withdraw-writes, withdraw-refusal_leaves, withdraw-line}
use Rattle.book_teaching.proofs.Reasons.{within_none, not_within, fails_missing, passes_none}

module _ (ws os : List ℕ) where
  -- ---- the book and the order

  -- The rows that both calls begin with, and what they go by otherwise.
  data Row : Type 0 where
    unbooked : (n : ℕ) → WhyForm ws (Refused n) → Row
    unordered : (b : Book) (n : ℕ) → IsBook ws b → Cause os n → (n ≡ done → ⊥) → Row
    both : (b : Book) (t : Tree) → IsBook ws b → IsOrder os t → Row

  -- Any words have one of them.
  row : Row
  row = go (why-is ws)
    where
      ordered : (b : Book) → IsBook ws b → Seen os → Row
      ordered b i (stopped h r) = unordered b (cause_of os) i (cause_is os) h
      ordered b i (passed t h p) = both b t i (passed-order os t p)

      go : WhyForm ws (book_form_of ws) → Row
      go (shorter r l) = unbooked book_size (shorter refl l)
      go (longer r l) = unbooked book_size (longer refl l)
      go (formless r l m n) = unbooked not_in_form (formless refl l m n)
      go (book b r i) = ordered b i (seen os)

  -- A call refuses by 4 or 5 where the book has a reason.
  by_form_lem : (f : Book → Tree → Outcome) (n : ℕ) → WhyForm ws (Refused n) → on_order ws os f ≡ leave ws n
  by_form_lem f n w = sym (unheld ws os f n (why-only ws (Refused n) w))

  -- Words that are a book and an order are met as both.
  is-met : (b : Book) (t : Tree) → IsBook ws b → IsOrder os t → BookAndOrder ws os b t
  is-met b t i q = record { size = is-sized ws i.long i.short; is_book = book-decode ws b i; is_order = order-read os t q }

  -- ---- teaching

  -- Teaching answers by a row of 01's table.
  pub teach-why : WhyTaught ws os (teach_of ws os)
  unfolding teach_of
  teach-why = go row
    where
      case : (b : Book) (t : Tree) → IsBook ws b → IsOrder os t → TeachCase ws os (taught 1 t b) → WhyTaught ws os (teach_of ws os)
      case b t i q (passing w r) = would_pass b t r i q (not_within t b (sound-form b i.sound) w)
      case b t i q (crowded w h r) = needs_more b t r i q (within_none t b (sound-form b i.sound) w) h
      case b t i q (teaches w h r) = book_taught b t r i q (within_none t b (sound-form b i.sound) w) h

      go : Row → WhyTaught ws os (teach_of ws os)
      go (unbooked n w) = teach_no_book n (by_form_lem (teach_tree ws) n w) w
      go (unordered b n i c x) = teach_no_order b n (by_cause ws os b i n c x (teach_tree ws)) i c x
      go (both b t i q) = case b t i q (teach-case ws os b t (is-met b t i q))

  -- A refusal that teaching has the number of is what it does.
  teach-leaves : (n : ℕ) → (n ≡ done → ⊥) → (teach_of ws os).answer.number ≡ n → teach_of ws os ≡ leave ws n
  teach-leaves n x e = outcome-is (teach_of ws os) n ws e (teach-line ws os) (teach-refusal_leaves ws os (λ z. x (sym e ∙ z)))

  -- Teaching answers by no other row: what has one is what it does.
  pub teach-only : (o : Outcome) → WhyTaught ws os o → teach_of ws os ≡ o
  unfolding teach_of
  teach-only o (teach_no_book n e w) = by_form_lem (teach_tree ws) n w ∙ sym e
  teach-only o (teach_no_order b n e i c x) = by_cause ws os b i n c x (teach_tree ws) ∙ sym e
  teach-only o (would_pass b t e i q p) = teach-leaves _ (λ z. omega arith) ((teach-7 ws os b t (is-met b t i q)).1 p) ∙ sym e
  teach-only o (needs_more b t e i q p h) = teach-leaves _ (λ z. omega arith) ((teach-6 ws os b t (is-met b t i q)).1 (p, h)) ∙ sym e
  teach-only o (book_taught b t e i q p h) =
      let g : BookAndOrder ws os b t = is-met b t i q in
      let d : (teach_of ws os).answer.number ≡ done = (teach-0 ws os b t g).1 (p, h) in
      outcome-is (teach_of ws os) done _ d (teach-line ws os) (teach-writes ws os b t g d).0 ∙ sym e

  -- ---- withdrawing

  -- Withdrawing answers by a row of 01's table.
  pub withdraw-why : WhyWithdrawn ws os (withdraw_of ws os)
  unfolding withdraw_of
  withdraw-why = go row
    where
      case : (b : Book) (t : Tree) → IsBook ws b → IsOrder os t → WithdrawCase ws os b t → WhyWithdrawn ws os (withdraw_of ws os)
      case b t i q (untaught h r) = no_entry b t r i q h
      case b t i q (lacks h p r) = part_missing b t r i q h (fails_missing t b p)
      case b t i q (withdraws h p r) = book_withdrawn b t r i q h (passes_none t b p)

      go : Row → WhyWithdrawn ws os (withdraw_of ws os)
      go (unbooked n w) = withdraw_no_book n (by_form_lem (withdraw_tree ws) n w) w
      go (unordered b n i c x) = withdraw_no_order b n (by_cause ws os b i n c x (withdraw_tree ws)) i c x
      go (both b t i q) = case b t i q (withdraw-case ws os b t (is-met b t i q))

  -- A refusal that withdrawing has the number of is what it does.
  withdraw-leaves : (n : ℕ) → (n ≡ done → ⊥) → (withdraw_of ws os).answer.number ≡ n → withdraw_of ws os ≡ leave ws n
  withdraw-leaves n x e = outcome-is (withdraw_of ws os) n ws e (withdraw-line ws os) (withdraw-refusal_leaves ws os (λ z. x (sym e ∙ z)))

  -- Withdrawing answers by no other row: what has one is what it does.
  pub withdraw-only : (o : Outcome) → WhyWithdrawn ws os o → withdraw_of ws os ≡ o
  unfolding withdraw_of
  withdraw-only o (withdraw_no_book n e w) = by_form_lem (withdraw_tree ws) n w ∙ sym e
  withdraw-only o (withdraw_no_order b n e i c x) = by_cause ws os b i n c x (withdraw_tree ws) ∙ sym e
  withdraw-only o (no_entry b t e i q h) = withdraw-leaves _ (λ z. omega arith) ((withdraw-8 ws os b t (is-met b t i q)).1 h) ∙ sym e
  withdraw-only o (part_missing b t e i q h p) = withdraw-leaves _ (λ z. omega arith) ((withdraw-9 ws os b t (is-met b t i q)).1 (h, p)) ∙ sym e
  withdraw-only o (book_withdrawn b t e i q h p) =
      let g : BookAndOrder ws os b t = is-met b t i q in
      let d : (withdraw_of ws os).answer.number ≡ done = (withdraw-0 ws os b t g).1 (h, p) in
      outcome-is (withdraw_of ws os) done _ d (withdraw-line ws os) (withdraw-writes ws os b t g d).0 ∙ sym e
