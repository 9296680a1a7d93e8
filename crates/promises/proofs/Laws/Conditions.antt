-- When teaching, withdrawing and joining are refused in a book after any calls, by the orders that remain: 7 where there are 65,535 of them, or more with
-- those of a book that is joined, 6 where their book with one order more, or with that book's, has no room, and 8 where the order does not stand among them;
-- and when they are done. Assumes nothing.
use Prim.Native.Nat.{ℕ, ◌+◌, ◌≤◌, ◌<◌}
use mathlib.Core.Path.{◌≡◌, sym, ap, ◌∙◌}
use mathlib.Core.Bool.{true}
use mathlib.Core.List.{List, ◌∷◌, ◌++◌}
use native.Mathlib.Decide.{dec_lt}
use native.Mathlib.Omega.{arith}
use borrow.Author.Tests.{lt-leb, lt-ltb, le-ltb, ltb-true, ltb-false}
use lib.Dec.{ltb}
use lib.ListN.{length}
use Rattle.words.specs.Base.{◌exactly_when◌}
use Rattle.figures.specs.Limits.{least_k, greatest_k, greatest_count, head_words, most_book_words}
use Rattle.figures.specs.Numbers.{done, no_room, too_many, not_taught}
use Rattle.section.specs.Entries.{has}
use Rattle.section.proofs.Counts.{has-count}
use Rattle.order.specs.Trees.{Tree, words}
use Rattle.order.specs.Fits.{IsOrder}
use Rattle.order.proofs.Fitting.{order-read}
use Rattle.book.specs.Book.{Book, section_of, used, live}
use Rattle.book.specs.Sound.{IsBook}
use Rattle.book.specs.Taught.{taught, agreeing}
use Rattle.book.specs.declared.Section.TheVariants.{Taught}
use Rattle.book.proofs.Sound.{sound-form}
use Rattle.book.proofs.Openings.{number_is}
use Rattle.book_teaching.specs.Calls.{teach_of, withdraw_of}
use Rattle.book_teaching.specs.Conditions.{BookAndOrder, WouldPass, lives}
use Rattle.book_teaching.proofs.Conditions.{teach-7, teach-6, teach-0, withdraw-0, withdraw-8}
use Rattle.book_teaching.proofs.Reasons.{within_none}
use Rattle.book_teaching.proofs.Sequences.{agreeing-withdraws}
use Rattle.book_joining.specs.Joining.{joined, join_of}
use Rattle.book_joining.proofs.Joined.{grown as joined-from}
use Rattle.book_joining.proofs.Joins.{Both, join-passes, join-crowded, join-does}
use Rattle.promises.specs.Remaining.{Call, after, orders_in, remaining, times_of, booked}
use Rattle.promises.specs.Agreement.{Agrees}
use Rattle.promises.proofs.Laws.Agreement.{sound-agreeing}
use Rattle.promises.proofs.Laws.Orders.{booked-first, booked-k, booked-sorted, booked-live, count-times, more_within}
use Rattle.promises.proofs.Laws.Remaining.{Kept, kept_form, kept_long, kept_met, kept_book, both_booked, both_live, Begun, after_kept, after-agrees}

-- ---- in the book of orders

module _ (slice : List ℕ) (k : ℕ) (long : head_words ≤ length slice) (short : length slice ≤ most_book_words) (least : least_k ≤ k) (greatest : k ≤ greatest_k)
    (orders : List (List ℕ)) (ws : List ℕ) (kept : Kept (length slice) k orders ws) (os : List ℕ) (t : Tree) (o : IsOrder os t) where
  -- The words and the order are met as the book of the orders and the order's tree.
  both_met : BookAndOrder ws os (booked k orders) t
  both_met = kept_met slice k long short least greatest orders ws kept os t (order-read os t o)

  -- With fewer than 65,535 orders no count would pass that.
  none-would : length orders < greatest_count → WouldPass t (booked k orders) → ⊥
  none-would h =
      let form = kept_form slice k long short least greatest orders ws kept in
      within_none t (booked k orders) form (more_within k t orders kept.limits (omega arith) form)

  -- With 65,535 orders one more live teaching would pass.
  full_would : length orders ≡ greatest_count → WouldPass t (booked k orders)
  full_would e = lives (booked-live k orders kept.limits ∙ e)

  -- Where a count would pass there are 65,535 orders.
  would_full : WouldPass t (booked k orders) → length orders ≡ greatest_count
  would_full p = go (dec_lt (length orders) greatest_count)
    where
      -- By whether there are fewer.
      go : Dec (length orders < greatest_count) → length orders ≡ greatest_count
      go (yes h) = absurd (none-would h p)
      go (no h) = omega (arith, kept.few)

  -- Where none would there are fewer.
  none-fewer : (WouldPass t (booked k orders) → ⊥) → length orders < greatest_count
  none-fewer x = go (dec_lt (length orders) greatest_count)
    where
      -- By whether there are fewer.
      go : Dec (length orders < greatest_count) → length orders < greatest_count
      go (yes h) = h
      go (no h) = absurd (x (full_would (omega (arith, kept.few))))

  -- The book with this order taught uses as many words as the book of one order more.
  same-used : used (booked k (os ∷ orders)) ≡ used (taught 1 t (booked k orders))
  same-used = ap used (booked-first k os orders t o)

  -- The words are as many as in the slice.
  same-long : length ws ≡ length slice
  same-long = kept_long slice k long short least greatest orders ws kept

  -- Teaching the order answers 7 exactly with 65,535 orders.
  kept_7 : ((teach_of ws os).answer.number ≡ too_many) exactly_when (length orders ≡ greatest_count)
  kept_7 = let x = teach-7 ws os (booked k orders) t both_met in (λ e. would_full (x.0 e), λ e. x.1 (full_would e))

  -- It answers 6 exactly with fewer, where the book of one order more needs more words than the slice has.
  kept_6 : ((teach_of ws os).answer.number ≡ no_room) exactly_when ((length orders < greatest_count) × (length slice < used (booked k (os ∷ orders))))
  kept_6 = (from, to)
    where
      -- What is refused by 6 has no room,
      from : (teach_of ws os).answer.number ≡ no_room → (length orders < greatest_count) × (length slice < used (booked k (os ∷ orders)))
      from e = let x = (teach-6 ws os (booked k orders) t both_met).0 e in (none-fewer x.0, omega (arith, x.1, same-used, same-long))

      -- and what has none is refused by it.
      to : (length orders < greatest_count) × (length slice < used (booked k (os ∷ orders))) → (teach_of ws os).answer.number ≡ no_room
      to p = (teach-6 ws os (booked k orders) t both_met).1 (none-would p.0, omega (arith, p.1, same-used, same-long))

  -- It is done exactly with fewer, where the slice has room for that book.
  kept_0 : ((teach_of ws os).answer.number ≡ done) exactly_when ((length orders < greatest_count) × (used (booked k (os ∷ orders)) ≤ length slice))
  kept_0 = (from, to)
    where
      -- What is done has room,
      from : (teach_of ws os).answer.number ≡ done → (length orders < greatest_count) × (used (booked k (os ∷ orders)) ≤ length slice)
      from e = let x = (teach-0 ws os (booked k orders) t both_met).0 e in (none-fewer x.0, omega (arith, x.1, same-used, same-long))

      -- and what has room is done.
      to : (length orders < greatest_count) × (used (booked k (os ∷ orders)) ≤ length slice) → (teach_of ws os).answer.number ≡ done
      to p = (teach-0 ws os (booked k orders) t both_met).1 (none-would p.0, omega (arith, p.1, same-used, same-long))

  -- T has an entry of the order's words if they count there, and counts them as often as the order stands among the orders.
  entry-test : has (words t) (booked k orders).T ≡ ltb 0 (times_of os orders)
  unfolding section_of
  entry-test =
      ap (λ (x : List ℕ). has x (booked k orders).T) (sym o.spelt)
      ∙ has-count os (booked k orders).T (booked-sorted k orders kept.limits Taught)
      ∙ ap (ltb 0) (count-times k os orders kept.limits)

  -- Withdrawing the order answers 8 exactly if it does not stand among the orders.
  kept_8 : ((withdraw_of ws os).answer.number ≡ not_taught) exactly_when (times_of os orders ≡ 0)
  kept_8 = (from, to)
    where
      -- What is refused by 8 has no entry in T,
      from : (withdraw_of ws os).answer.number ≡ not_taught → times_of os orders ≡ 0
      from e = omega (arith, ltb-false 0 (times_of os orders) (sym entry-test ∙ (withdraw-8 ws os (booked k orders) t both_met).0 e))

      -- and what stands nowhere among the orders has none.
      to : times_of os orders ≡ 0 → (withdraw_of ws os).answer.number ≡ not_taught
      to e = (withdraw-8 ws os (booked k orders) t both_met).1 (entry-test ∙ le-ltb 0 (times_of os orders) (omega arith))

  -- From a book that agrees with itself the order is withdrawn exactly if it stands among the orders.
  kept_withdrawn : agreeing (booked k orders) ≡ true → ((withdraw_of ws os).answer.number ≡ done) exactly_when (1 ≤ times_of os orders)
  kept_withdrawn a = (from, to)
    where
      -- What is withdrawn has an entry in T,
      from : (withdraw_of ws os).answer.number ≡ done → 1 ≤ times_of os orders
      from e = ltb-true 0 (times_of os orders) (sym entry-test ∙ ((withdraw-0 ws os (booked k orders) t both_met).0 e).0)

      -- and what stands among the orders has one.
      to : 1 ≤ times_of os orders → (withdraw_of ws os).answer.number ≡ done
      to h = agreeing-withdraws ws os (booked k orders) t both_met a (entry-test ∙ lt-ltb 0 (times_of os orders) h)

module _ (slice : List ℕ) (k : ℕ) (long : head_words ≤ length slice) (short : length slice ≤ most_book_words) (least : least_k ≤ k) (greatest : k ≤ greatest_k)
    (orders : List (List ℕ)) (ws : List ℕ) (kept : Kept (length slice) k orders ws) (agrees : agreeing (booked k orders) ≡ true)
    (vs : List ℕ) (c : Book) (j : IsBook vs c) (g : Agrees c) (same : c.k ≡ k) where
  -- The orders of both books.
  abbrev all : List (List ℕ)
  all = orders_in c.T ++ orders

  -- What joining answers for them.
  abbrev number : ℕ
  number = (join_of ws vs).answer.number

  -- The two are books of one k that agree with themselves.
  both : Both ws vs (booked k orders) c
  both = record {
    is_first = kept_book slice k long short least greatest orders ws kept;
    is_second = j;
    same = booked-k k orders kept.limits ∙ sym same;
    grown_first = joined-from (booked k orders) (kept_form slice k long short least greatest orders ws kept) agrees;
    grown_second = joined-from c (sound-form c j.sound) ((sound-agreeing c j.sound).1 g);
  }

  -- Their joined book is that of all these orders,
  whole : joined (booked k orders) c ≡ booked k all
  whole = both_booked slice k long short least greatest orders ws kept (booked k orders) c vs both

  -- and as many teachings are live in both as there are orders.
  lives_all : live (booked k orders) + live c ≡ length all
  lives_all = both_live slice k long short least greatest orders ws kept (booked k orders) c vs both

  -- What joining answers goes by how many orders there are in all, and by the words of their book.
  data JoinedBy : Type 0 where
    by_7 : greatest_count < length all → number ≡ too_many → JoinedBy
    by_6 : length all ≤ greatest_count → length slice < used (booked k all) → number ≡ no_room → JoinedBy
    by_0 : length all ≤ greatest_count → used (booked k all) ≤ length slice → number ≡ done → JoinedBy

  -- It is one of these.
  joined_by : JoinedBy
  joined_by = go (dec_lt greatest_count (length all)) (dec_lt (length slice) (used (booked k all)))
    where
      -- The words are as many as in the slice.
      same-long : length ws ≡ length slice
      same-long = kept_long slice k long short least greatest orders ws kept

      -- By whether there are too many, and too many words.
      go : Dec (greatest_count < length all) → Dec (length slice < used (booked k all)) → JoinedBy
      go (yes h) d = by_7 h (number_is (join-passes ws vs (booked k orders) c both (omega (arith, lives_all))))
      go (no h) (yes l) =
          let few : live (booked k orders) + live c ≤ greatest_count = omega (arith, lives_all) in
          by_6 (omega arith) l (number_is (join-crowded ws vs (booked k orders) c both few (lt-leb (used (joined (booked k orders) c)) (length ws) (omega (arith, ap used whole, same-long)))))
      go (no h) (no l) =
          let few : live (booked k orders) + live c ≤ greatest_count = omega (arith, lives_all) in
          by_0 (omega arith) (omega arith) (number_is (join-does ws vs (booked k orders) c both few (omega (arith, ap used whole, same-long))))

  -- Joining answers 7 exactly with more than 65,535 orders in all.
  joined-7 : (number ≡ too_many) exactly_when (greatest_count < length all)
  joined-7 = (from joined_by, to joined_by)
    where
      -- What is refused by 7 has more,
      from : JoinedBy → number ≡ too_many → greatest_count < length all
      from (by_7 h n) e = h
      from (by_6 h l n) e = absurd (omega (arith, n))
      from (by_0 h l n) e = absurd (omega (arith, n))

      -- and what has more is refused by it.
      to : JoinedBy → greatest_count < length all → number ≡ too_many
      to (by_7 h n) m = n
      to (by_6 h l n) m = absurd (omega arith)
      to (by_0 h l n) m = absurd (omega arith)

  -- It answers 6 exactly with no more, where their book needs more words than the slice has.
  joined-6 : (number ≡ no_room) exactly_when ((length all ≤ greatest_count) × (length slice < used (booked k all)))
  joined-6 = (from joined_by, to joined_by)
    where
      -- What is refused by 6 has no room,
      from : JoinedBy → number ≡ no_room → (length all ≤ greatest_count) × (length slice < used (booked k all))
      from (by_7 h n) e = absurd (omega (arith, n))
      from (by_6 h l n) e = (h, l)
      from (by_0 h l n) e = absurd (omega (arith, n))

      -- and what has none is refused by it.
      to : JoinedBy → (length all ≤ greatest_count) × (length slice < used (booked k all)) → number ≡ no_room
      to (by_7 h n) m = absurd (omega (arith, m.0))
      to (by_6 h l n) m = n
      to (by_0 h l n) m = absurd (omega (arith, m.1))

  -- It is done exactly with no more, where the slice has room for their book.
  joined-0 : (number ≡ done) exactly_when ((length all ≤ greatest_count) × (used (booked k all) ≤ length slice))
  joined-0 = (from joined_by, to joined_by)
    where
      -- What is done has room,
      from : JoinedBy → number ≡ done → (length all ≤ greatest_count) × (used (booked k all) ≤ length slice)
      from (by_7 h n) e = absurd (omega (arith, n))
      from (by_6 h l n) e = absurd (omega (arith, n))
      from (by_0 h l n) e = (h, l)

      -- and what has room is done.
      to : JoinedBy → (length all ≤ greatest_count) × (used (booked k all) ≤ length slice) → number ≡ done
      to (by_7 h n) m = absurd (omega (arith, m.0))
      to (by_6 h l n) m = absurd (omega (arith, m.1))
      to (by_0 h l n) m = n

-- ---- in a book after calls

module _ (slice : List ℕ) (k : ℕ) (first : List (List ℕ)) (ws : List ℕ) (begun : Begun slice k first ws) (cs : List Call) where
  -- The orders that remain.
  abbrev orders : List (List ℕ)
  orders = remaining cs ws first

  -- After the calls the book is that of the orders that remain.
  grown : Kept (length slice) k orders (after cs ws)
  grown = after_kept slice k first ws begun cs

  -- 7, "live teachings or a touched count would pass 65,535", is answered exactly where 65,535 orders remain.
  pub teaching_7 : (os : List ℕ) (t : Tree) → IsOrder os t → ((teach_of (after cs ws) os).answer.number ≡ too_many) exactly_when (length orders ≡ greatest_count)
  teaching_7 os t o = kept_7 slice k begun.long begun.short begun.least begun.greatest _ _ grown os t o

  -- 6, "the result needs more words than the book slice has", exactly where fewer remain and the book of these and the order uses more.
  pub teaching_6 : (os : List ℕ) (t : Tree) → IsOrder os t
      → ((teach_of (after cs ws) os).answer.number ≡ no_room) exactly_when ((length orders < greatest_count) × (length slice < used (booked k (os ∷ orders))))
  teaching_6 os t o = kept_6 slice k begun.long begun.short begun.least begun.greatest _ _ grown os t o

  -- 0, "done", exactly where fewer remain and that book uses no more.
  pub teaching_0 : (os : List ℕ) (t : Tree) → IsOrder os t
      → ((teach_of (after cs ws) os).answer.number ≡ done) exactly_when ((length orders < greatest_count) × (used (booked k (os ∷ orders)) ≤ length slice))
  teaching_0 os t o = kept_0 slice k begun.long begun.short begun.least begun.greatest _ _ grown os t o

  -- 8, "order has no entry in T", exactly where the order is none of those that remain.
  pub withdrawing_8 : (os : List ℕ) (t : Tree) → IsOrder os t → ((withdraw_of (after cs ws) os).answer.number ≡ not_taught) exactly_when (times_of os orders ≡ 0)
  withdrawing_8 os t o = kept_8 slice k begun.long begun.short begun.least begun.greatest _ _ grown os t o

  -- 0, "done", exactly where the order is one of those that remain.
  pub withdrawing_0 : (os : List ℕ) (t : Tree) → IsOrder os t → ((withdraw_of (after cs ws) os).answer.number ≡ done) exactly_when (1 ≤ times_of os orders)
  withdrawing_0 os t o = kept_withdrawn slice k begun.long begun.short begun.least begun.greatest _ _ grown os t o (after-agrees slice k first ws begun cs)

  -- Of joining a book of the run's k that agrees with itself: 7 exactly where more than 65,535 orders remain with those of the book,
  pub joining_7 : (vs : List ℕ) (c : Book) → IsBook vs c → Agrees c → c.k ≡ k
      → ((join_of (after cs ws) vs).answer.number ≡ too_many) exactly_when (greatest_count < length (orders_in c.T ++ orders))
  joining_7 vs c j g same = joined-7 slice k begun.long begun.short begun.least begun.greatest _ _ grown (after-agrees slice k first ws begun cs) vs c j g same

  -- 6 exactly where no more remain and the book of all these needs more words than the slice has,
  pub joining_6 : (vs : List ℕ) (c : Book) → IsBook vs c → Agrees c → c.k ≡ k
      → ((join_of (after cs ws) vs).answer.number ≡ no_room) exactly_when
      ((length (orders_in c.T ++ orders) ≤ greatest_count) × (length slice < used (booked k (orders_in c.T ++ orders))))
  joining_6 vs c j g same = joined-6 slice k begun.long begun.short begun.least begun.greatest _ _ grown (after-agrees slice k first ws begun cs) vs c j g same

  -- and 0 exactly where no more remain and that book uses no more.
  pub joining_0 : (vs : List ℕ) (c : Book) → IsBook vs c → Agrees c → c.k ≡ k
      → ((join_of (after cs ws) vs).answer.number ≡ done) exactly_when
      ((length (orders_in c.T ++ orders) ≤ greatest_count) × (used (booked k (orders_in c.T ++ orders)) ≤ length slice))
  joining_0 vs c j g same = joined-0 slice k begun.long begun.short begun.least begun.greatest _ _ grown (after-agrees slice k first ws begun cs) vs c j g same
