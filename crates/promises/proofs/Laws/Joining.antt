-- Joining answers exactly by its rows, as specs/Whys.antt states them, for any words; and what it leaves counts what both books count, and is the book in
-- which the orders of both were taught. Assumes nothing.
use Prim.Native.Nat.{ℕ, ◌+◌, ◌≤◌}
use mathlib.Core.Path.{◌≡◌, refl, sym, ap, ◌∙◌}
use mathlib.Core.Bool.{Bool, true, false}
use mathlib.Core.List.{List, [], ◌∷◌, ◌++◌}
use native.Mathlib.Omega.{arith}
use borrow.Author.Tests.{lt-leb}
use lib.ListN.{length}
use Rattle.book.specs.Decoding.{Refused}
use Rattle.words.specs.Base.{when◌then◌else◌}
use Rattle.words.proofs.Tests.{no_test}
use Rattle.figures.specs.Limits.{greatest_count}
use Rattle.figures.specs.Numbers.{done}
use Rattle.book.specs.Book.{Book, used, live}
use Rattle.book.specs.Sound.{IsBook}
use Rattle.book.specs.Taught.{agreeing}
use Rattle.book.specs.Opening.{Outcome, write_book, open_of}
use Rattle.book.proofs.Meaning.{used-fits}
use Rattle.book.proofs.Sound.{sound-form, why-only, book-only}
use Rattle.book_joining.specs.Joining.{CountsAdded, joined, join_of}
use Rattle.book_joining.proofs.Joined.{grown, joined-sum, only_sum}
use Rattle.book_joining.proofs.Joins.{Both, JoinCase, first-refused, second-refused, differing, first-against, second-against, passing, crowded, joins as joining}
use Rattle.book_joining.proofs.Joins.{first-unjoined, second-unjoined, k-unjoined, first-unagreed, second-unagreed, join-passes, join-crowded, join-does, join-case, Done, was_joined, joined-book}
use Rattle.promises.specs.Remaining.{join, after_by, orders_in, remain_by, remaining_by, remaining, times_of, SameOrders, taught_all, NoneRefused}
use Rattle.promises.specs.Agreement.{Agrees}
use Rattle.promises.specs.Whys.{TwoBooks, WhyJoined, join_no_first, join_no_second, k_differs, first_disagrees, second_disagrees, lives_pass, sum_no_room, joins}
use Rattle.promises.proofs.Laws.Agreement.{sound-agreeing}
use Rattle.promises.proofs.Laws.Remaining.{read-book, Begun, taught-alone}
use Rattle.promises.proofs.Laws.Starting.{book-begun}

-- ---- exactly by its rows

-- Words of a book that agrees with itself pass the test,
agrees-tested : (ws : List ℕ) (b : Book) → IsBook ws b → Agrees b → agreeing b ≡ true
agrees-tested ws b i g = (sound-agreeing b i.sound).1 g

-- and those that pass it are of one that does.
tested_agrees : (ws : List ℕ) (b : Book) → IsBook ws b → agreeing b ≡ true → Agrees b
tested_agrees ws b i a = (sound-agreeing b i.sound).0 a

-- Those that fail it are of none.
failed_disagrees : (ws : List ℕ) (b : Book) → IsBook ws b → agreeing b ≡ false → Agrees b → ⊥
failed_disagrees ws b i a g = no_test (sym a ∙ agrees-tested ws b i g)

-- The words of a book that does not agree with itself fail it.
disagrees-tested : (ws : List ℕ) (b : Book) → IsBook ws b → (Agrees b → ⊥) → agreeing b ≡ false
disagrees-tested ws b i x = go (agreeing b) refl
  where
    -- By the test.
    go : (y : Bool) → agreeing b ≡ y → agreeing b ≡ false
    go true a = absurd (x (tested_agrees ws b i a))
    go false a = a

module _ (ws vs : List ℕ) where
  -- Two books by the tests are two books,
  two_books : (b c : Book) → Both ws vs b c → TwoBooks ws vs b c
  two_books b c both = record {
    is_first = both.is_first;
    is_second = both.is_second;
    same = both.same;
    first_agrees = tested_agrees ws b both.is_first both.grown_first.agrees;
    second_agrees = tested_agrees vs c both.is_second both.grown_second.agrees;
  }

  -- and two books are two by the tests.
  by_tests : (b c : Book) → TwoBooks ws vs b c → Both ws vs b c
  by_tests b c two = record {
    is_first = two.is_first;
    is_second = two.is_second;
    same = two.same;
    grown_first = grown b (sound-form b two.is_first.sound) (agrees-tested ws b two.is_first two.first_agrees);
    grown_second = grown c (sound-form c two.is_second.sound) (agrees-tested vs c two.is_second two.second_agrees);
  }

  module _ (b c : Book) (both : Both ws vs b c) (few : live b + live c ≤ greatest_count) where
    -- The joined book has the counts of both added,
    sum_is : CountsAdded b c (joined b c)
    sum_is = joined-sum b c both.grown_first both.grown_second both.same few

    -- and no other has.
    sum_only : (sum : Book) → CountsAdded b c sum → sum ≡ joined b c
    sum_only = only_sum b c both.grown_first both.grown_second both.same few

  -- Joining answers by a row.
  pub joined-why : WhyJoined ws vs (join_of ws vs)
  joined-why = go (join-case ws vs)
    where
      -- By what it meets.
      go : JoinCase ws vs → WhyJoined ws vs (join_of ws vs)
      go (first-refused n h w r) = join_no_first n r w
      go (second-refused b n h i w r) = join_no_second b n r i w
      go (differing b c i j x r) = k_differs b c r i j x
      go (first-against b c i j s a r) = first_disagrees b c r i j s (failed_disagrees ws b i a)
      go (second-against b c i j s a d r) = second_disagrees b c r i j s (tested_agrees ws b i a) (failed_disagrees vs c j d)
      go (passing b c both h r) = lives_pass b c r (two_books b c both) h
      go (crowded b c both few h r) = sum_no_room b c (joined b c) r (two_books b c both) few (sum_is b c both few) h
      go (joining b c both few room r) = joins b c (joined b c) r (two_books b c both) few (sum_is b c both few) room

  -- What has a row is what joining answers and leaves.
  pub joined-only : (o : Outcome) → WhyJoined ws vs o → join_of ws vs ≡ o
  joined-only o (join_no_first n e w) = first-unjoined ws vs n (why-only ws (Refused n) w) ∙ sym e
  joined-only o (join_no_second b n e i w) = second-unjoined ws vs b i n (why-only vs (Refused n) w) ∙ sym e
  joined-only o (k_differs b c e i j x) = k-unjoined ws vs b c i j x ∙ sym e
  joined-only o (first_disagrees b c e i j s x) = first-unagreed ws vs b c i j s (disagrees-tested ws b i x) ∙ sym e
  joined-only o (second_disagrees b c e i j s g x) = second-unagreed ws vs b c i j s (agrees-tested ws b i g) (disagrees-tested vs c j x) ∙ sym e
  joined-only o (lives_pass b c e two h) = join-passes ws vs b c (by_tests b c two) h ∙ sym e
  joined-only o (sum_no_room b c sum e two few added-up h) =
      let both : Both ws vs b c = by_tests b c two in
      join-crowded ws vs b c both few (lt-leb (used (joined b c)) (length ws) (omega (arith, ap used (sum_only b c both few sum added-up)))) ∙ sym e
  joined-only o (joins b c sum e two few added-up room) =
      let both : Both ws vs b c = by_tests b c two in
      let is : sum ≡ joined b c = sum_only b c both few sum added-up in
      join-does ws vs b c both few (omega (arith, ap used is)) ∙ ap (write_book ws) (sym is) ∙ sym e

  -- Two books that are joined with 0 leave one that counts what both count.
  pub leaves-sum : (join_of ws vs).answer.number ≡ done → (b c : Book) → IsBook ws b → IsBook vs c → (sum : Book) × IsBook (join_of ws vs).words sum × CountsAdded b c sum
  leaves-sum e b c i j =
      let d : Done ws vs = was_joined ws vs e in
      let first : d.first ≡ b = book-only ws d.first b d.both.is_first i in
      let second : d.second ≡ c = book-only vs d.second c d.both.is_second j in
      let counts : CountsAdded d.first d.second (joined d.first d.second) = sum_is d.first d.second d.both d.few in
      (joined b c, rw (first, second) at (joined-book ws vs d), rw (first, second) at counts)

-- ---- as taught

-- A book that agrees with itself, joined with another with 0, is in every word the one in which the orders of both were taught, in whichever order, and none of
-- these teachings is refused.
pub joins-as_taught : (ws vs : List ℕ) → (join_of ws vs).answer.number ≡ done → (b c : Book) → IsBook ws b → IsBook vs c → (slice : List ℕ) → length slice ≡ length ws
    → (qs : List (List ℕ)) → SameOrders qs (orders_in c.T ++ orders_in b.T)
    → NoneRefused qs (open_of slice b.k).words × (taught_all qs (open_of slice b.k).words ≡ (join_of ws vs).words)
unfolding after_by remaining_by when◌then◌else◌
joins-as_taught ws vs e b c i j slice long qs same =
    let d : Done ws vs = was_joined ws vs e in
    let first : d.first ≡ b = book-only ws d.first b d.both.is_first i in
    let agrees : Agrees b = rw first at (tested_agrees ws d.first d.both.is_first d.both.grown_first.agrees) in
    let begun : Begun ws b.k (orders_in b.T) ws = rw i.laid at (book-begun ws b (i.long, i.short) i.sound agrees (used-fits ws b i.laid)) in
    let remain : remaining (join vs ∷ []) ws (orders_in b.T) ≡ orders_in c.T ++ orders_in b.T =
    ap (λ (n : ℕ). remain_by (join vs) n (orders_in b.T)) e ∙ ap (λ (x : Book). orders_in x.T ++ orders_in b.T) (read-book vs c j) in
    taught-alone ws b.k (orders_in b.T) ws begun (join vs ∷ []) slice long qs (λ os. same os ∙ ap (times_of os) (sym remain))
