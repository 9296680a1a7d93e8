-- A book after any calls is exactly the book of the orders that remain (demand 3): it holds their parts and counts and nothing else, it has
-- the same words as a book in which just these were taught, in whichever order, and it agrees with itself. Assumes nothing.
use Rattle.std.specs.Prelude.{Some}
use Prim.Native.Nat.{ℕ, ◌+◌, ◌≤◌}
use mathlib.Core.Path.{◌≡◌, refl, sym, ap, ap₂, ◌∙◌}
use mathlib.Core.Bool.{Bool, true, false}
use mathlib.Core.List.Memᴰ
use mathlib.Core.List.Memᴰ.{head as here}
use mathlib.Core.List.{List, [], ◌∷◌, ◌++◌}
use native.Mathlib.Omega.{arith}
use borrow.Author.Tests.{eqb-true, eq-eqb}
use lib.Dec.{eqb}
use lib.ListN.{length}
use Rattle.words.specs.Base.{◌and◌, when◌then◌else◌}
use Rattle.words.proofs.Tests.{no_test}
use Rattle.figures.specs.Limits.{least_k, greatest_k, greatest_count, head_words, most_book_words}
use Rattle.figures.specs.Numbers.{done}
use Rattle.figures.specs.Answers.{answered}
use Rattle.figures.specs.declared.Answer.{Answer}
use Rattle.section.specs.Entries.{has}
use Rattle.section.proofs.Counts.{has-counts}
use Rattle.order.specs.Trees.{Tree}
use Rattle.order.specs.Reading.{order_of, order}
use Rattle.order.specs.Fits.{IsOrder}
use Rattle.order.proofs.Fitting.{order-read, read-order, order-fits}
use Rattle.book.specs.Book.{Book, section_of, used, live, lay, in_form}
use Rattle.book.specs.Decoding.{book_in, decode}
use Rattle.book.specs.Sound.{IsBook}
use Rattle.book.specs.Taught.{taught, book_of, agreeing, teachings_in, same_section}
use Rattle.book.specs.Opening.{Outcome, open_of}
use Rattle.book.specs.declared.Section.TheVariants.{Taught}
use Rattle.book.proofs.Openings.{opened as opening, opened-book as opening-book, opened-used, one_number, words_are}
use Rattle.book.proofs.Meaning.{decoded, laid-read, lay-long}
use Rattle.book.proofs.Sound.{form-sound, sound-form, book-decode, book-only}
use Rattle.book.proofs.Heads.{is-sized}
use Rattle.book.proofs.Teachings.{live-taught}
use Rattle.book.proofs.Agreeing.{form-orders}
use Rattle.book_teaching.specs.Calls.{teach_of, withdrawn, withdraw_of}
use Rattle.book_teaching.specs.Conditions.{BookAndOrder}
use Rattle.book_teaching.proofs.Calling.{Met, met, refuses, goes, written_met, teach-does}
use Rattle.book_teaching.proofs.Conditions.{teach-0, teach-writes, teach-refusal_leaves, withdraw-0, withdraw-writes, withdraw-refusal_leaves}
use Rattle.book_teaching.proofs.Counted.{taught-uses}
use Rattle.book_teaching.proofs.Undoing.{undo}
use Rattle.book_teaching.proofs.Sequences.{teach-agrees, withdraw-agrees}
use Rattle.book_change.proofs.Sums.{added}
use Rattle.book_joining.specs.Joining.{joined, join_of}
use Rattle.book_joining.proofs.Joined.{joined-adds, joined-live}
use Rattle.book_joining.proofs.Joins.{Both, Done, was_joined, done-joins, join-leaves, join-agrees}
use Rattle.promises.specs.Remaining.{Call, teach, withdraw, join, after_by, after, orders_in, without, remain_by, remaining_by, remaining, times_of, SameOrders, taught_all, NoneRefused, ExactlyThese, booked}
use Rattle.promises.proofs.Laws.Orders.{Orders, later, one-order_more, without_in, more_within, same-fit, same-book, count-times}
use Rattle.promises.proofs.Laws.Orders.{booked-first, booked-k, booked-sorted, booked-live, booked-uses, counts-taught, counts-tops, counts-lows, counts-middles, booked-form, booked-without}
use Rattle.promises.proofs.Laws.Counted.{onto_orders, booked-onto}

-- The words of a book are read as that book.
pub read-book : (ws : List ℕ) (b : Book) → IsBook ws b → book_in ws ≡ b
read-book ws b i = ap book_in (sym i.laid) ∙ laid-read (length ws) b (sound-form b i.sound)

-- ---- what calls keep

-- The words are, in a slice of n words, the book at k of orders within limits, of which there are at most 65,535.
pub record Kept (n k : ℕ) (orders : List (List ℕ)) (ws : List ℕ) : Type 0 where
  pub limits : Orders orders
  pub few : length orders ≤ greatest_count
  pub room : used (booked k orders) ≤ n
  pub laid : ws ≡ lay n (booked k orders)

module _ (slice : List ℕ) (k : ℕ) (long : head_words ≤ length slice) (short : length slice ≤ most_book_words) (least : least_k ≤ k) (greatest : k ≤ greatest_k) where
  -- The opened book is the book of no orders.
  opened-kept : Kept (length slice) k [] (open_of slice k).words
  unfolding booked
  opened-kept = record {
    limits = λ os m. absurd (Memᴰ.not-nil m);
    few = omega arith;
    room = omega (arith, opened-used k);
    laid = words_are (opening slice k long short least greatest);
  }

  module _ (orders : List (List ℕ)) (ws : List ℕ) (kept : Kept (length slice) k orders ws) where
    -- The book is in form.
    pub kept_form : in_form (booked k orders) ≡ true
    kept_form = booked-form k least greatest orders kept.limits kept.few

    -- The words are as many as in the slice.
    pub kept_long : length ws ≡ length slice
    kept_long = ap length kept.laid ∙ lay-long (length slice) (booked k orders) kept.room

    -- With an order they are met as that book and that order.
    pub kept_met : (os : List ℕ) (t : Tree) → order_of os ≡ order t → BookAndOrder ws os (booked k orders) t
    kept_met os t o = rw kept.laid (written_met slice os (booked k orders) t (is-sized slice long short) kept_form kept.room o)

    -- They are words of that book.
    pub kept_book : IsBook ws (booked k orders)
    kept_book = record {
      long = omega (arith, kept_long);
      short = omega (arith, kept_long);
      sound = form-sound (booked k orders) kept_form;
      laid = ap (λ (m : ℕ). lay m (booked k orders)) kept_long ∙ sym kept.laid;
    }

    module _ (os : List ℕ) (t : Tree) (o : order_of os ≡ order t) where
      -- The words of the order are those of its tree.
      its_tree : IsOrder os t
      its_tree = read-order os t o

      -- The orders with this one are within limits.
      with-limits : Orders (os ∷ orders)
      with-limits = one-order_more os orders (order-fits its_tree) kept.limits

      -- A teaching of it that is done gives the book of one order more.
      taught-kept : (teach_of ws os).answer.number ≡ done → Kept (length slice) k (os ∷ orders) (teach_of ws os).words
      taught-kept e =
          let g : BookAndOrder ws os (booked k orders) t = kept_met os t o in
          let first : booked k (os ∷ orders) ≡ taught 1 t (booked k orders) = booked-first k os orders t its_tree in
          let wrote = teach-writes ws os (booked k orders) t g e in
          let form : in_form (taught 1 t (booked k orders)) ≡ true = (decoded (teach_of ws os).words (taught 1 t (booked k orders)) wrote.1).1 in
          record {
            limits = with-limits;
            few = omega (arith, (form-sound (taught 1 t (booked k orders)) form).few, ap live first, booked-live k (os ∷ orders) with-limits);
            room = omega (arith, ((teach-0 ws os (booked k orders) t g).0 e).1, kept_long, ap used first);
            laid = wrote.0 ∙ ap₂ lay kept_long (sym first);
          }

      -- It is done where there are at most 65,535 orders with it and their book has room.
      teaching_done : length (os ∷ orders) ≤ greatest_count → used (booked k (os ∷ orders)) ≤ length slice → (teach_of ws os).answer ≡ answered done
      teaching_done few room =
          let first : booked k (os ∷ orders) ≡ taught 1 t (booked k orders) = booked-first k os orders t its_tree in
          ap (λ (o : Outcome). o.answer) (teach-does ws os (booked k orders) t (kept_met os t o)
          (more_within k t orders kept.limits few kept_form) (omega (arith, kept_long, ap used first)))

      -- The orders with one such less are within limits.
      fewer-limits : Orders (without os orders)
      fewer-limits ps m = kept.limits ps (without_in os ps orders m)

      -- A withdrawal of it that is done gives the book of one such less.
      withdrawn-kept : (withdraw_of ws os).answer.number ≡ done → Kept (length slice) k (without os orders) (withdraw_of ws os).words
      unfolding section_of
      withdrawn-kept e =
          let g : BookAndOrder ws os (booked k orders) t = kept_met os t o in
          let left : Book = booked k (without os orders) in
          let entry : has os (booked k orders).T ≡ true = rw (sym its_tree.spelt) at ((withdraw-0 ws os (booked k orders) t g).0 e).0 in
          let Some : 1 ≤ times_of os orders =
          omega (arith, has-counts os (booked k orders).T (booked-sorted k orders kept.limits Taught) entry, count-times k os orders kept.limits) in
          let whole : booked k orders ≡ taught 1 t left = booked-without k os t its_tree orders kept.limits Some in
          let sorted = booked-sorted k (without os orders) fewer-limits in
          record {
            limits = fewer-limits;
            few = omega (arith, kept.few, booked-live k orders kept.limits, ap live whole, live-taught 1 t left, booked-live k (without os orders) fewer-limits);
            room = omega (arith, kept.room, ap used whole, taught-uses t left sorted);
            laid = (withdraw-writes ws os (booked k orders) t g e).0 ∙ ap₂ lay kept_long (ap (withdrawn t) whole ∙ undo left sorted t);
          }

    -- Teaching any words keeps the book that of the orders that then remain.
    teach-keeps : (os : List ℕ) → Kept (length slice) k (remain_by (teach os) (teach_of ws os).answer.number orders) (teach_of ws os).words
    teach-keeps os = by_number (eqb (teach_of ws os).answer.number done) refl
      where
        -- A teaching that is done leaves the book of one order more.
        done-keeps : (teach_of ws os).answer.number ≡ done → Met ws os → Kept (length slice) k (os ∷ orders) (teach_of ws os).words
        done-keeps e (refuses n h r) = absurd (unfold teach_of in h (one_number (r _) e))
        done-keeps e (goes b t g) = taught-kept os t g.is_order e

        -- By whether the answer is 0.
        by_number : (b : Bool) → eqb (teach_of ws os).answer.number done ≡ b → Kept (length slice) k (when b then os ∷ orders else orders) (teach_of ws os).words
        by_number true e = unfold when◌then◌else◌ in done-keeps (eqb-true (teach_of ws os).answer.number done e) (met ws os)
        by_number false e = unfold when◌then◌else◌ in
            rw (teach-refusal_leaves ws os (λ d. no_test (sym e ∙ eq-eqb (teach_of ws os).answer.number done d))) kept

    -- So does withdrawing any words.
    withdraw-keeps : (os : List ℕ) → Kept (length slice) k (remain_by (withdraw os) (withdraw_of ws os).answer.number orders) (withdraw_of ws os).words
    withdraw-keeps os = by_number (eqb (withdraw_of ws os).answer.number done) refl
      where
        -- A withdrawal that is done leaves the book of one such order less.
        done-keeps : (withdraw_of ws os).answer.number ≡ done → Met ws os → Kept (length slice) k (without os orders) (withdraw_of ws os).words
        done-keeps e (refuses n h r) = absurd (unfold withdraw_of in h (one_number (r _) e))
        done-keeps e (goes b t g) = withdrawn-kept os t g.is_order e

        -- By whether the answer is 0.
        by_number : (b : Bool) → eqb (withdraw_of ws os).answer.number done ≡ b → Kept (length slice) k (when b then without os orders else orders) (withdraw_of ws os).words
        by_number true e = unfold when◌then◌else◌ in done-keeps (eqb-true (withdraw_of ws os).answer.number done e) (met ws os)
        by_number false e = unfold when◌then◌else◌ in
            rw (withdraw-refusal_leaves ws os (λ d. no_test (sym e ∙ eq-eqb (withdraw_of ws os).answer.number done d))) kept

    -- The orders of a book in form, with these, are within limits.
    both_limits : (c : Book) → in_form c ≡ true → Orders (orders_in c.T ++ orders)
    both_limits c form = onto_orders c.T (form-orders c form) orders kept.limits

    -- A book that agrees with itself, joined to the book, gives the book of its orders and these.
    pub both_booked : (b c : Book) (vs : List ℕ) → Both ws vs b c → joined b c ≡ booked k (orders_in c.T ++ orders)
    both_booked b c vs both =
        let is : b ≡ booked k orders = book-only ws b (booked k orders) both.is_first kept_book in
        let depth : c.k ≡ k = sym both.same ∙ ap (λ (x : Book). x.k) is ∙ booked-k k orders kept.limits in
        let own : c ≡ book_of k (teachings_in c.T) = both.grown_second.is ∙ ap (λ (j : ℕ). book_of j (teachings_in c.T)) depth in
        joined-adds b c both.grown_first both.grown_second both.same ∙ ap₂ added own is
        ∙ sym (booked-onto k c.T (form-orders c both.grown_second.form) orders kept.limits)

    -- The live teachings of both are as many as these orders.
    pub both_live : (b c : Book) (vs : List ℕ) → Both ws vs b c → live b + live c ≡ length (orders_in c.T ++ orders)
    both_live b c vs both =
        sym (joined-live b c both.grown_first both.grown_second both.same) ∙ ap live (both_booked b c vs both)
        ∙ booked-live k (orders_in c.T ++ orders) (both_limits c both.grown_second.form)

    -- A joining that is done keeps the book that of the orders of both.
    joined-kept : (vs : List ℕ) → Done ws vs → Kept (length slice) k (orders_in (book_in vs).T ++ orders) (join_of ws vs).words
    joined-kept vs d =
        let c : Book = d.second in
        let whole : joined d.first c ≡ booked k (orders_in c.T ++ orders) = both_booked d.first c vs d.both in
        let kept_then : Kept (length slice) k (orders_in c.T ++ orders) (join_of ws vs).words = record {
          limits = both_limits c d.both.grown_second.form;
          few = omega (arith, both_live d.first c vs d.both, d.few);
          room = omega (arith, d.room, ap used whole, kept_long);
          laid = words_are (done-joins ws vs d) ∙ ap₂ lay kept_long whole;
        } in
        let read : book_in vs ≡ c = read-book vs c d.both.is_second in
        rw (ap (λ (b : Book). orders_in b.T) read) kept_then

    -- Joining any words keeps it that of the orders that then remain.
    join-keeps : (vs : List ℕ) → Kept (length slice) k (remain_by (join vs) (join_of ws vs).answer.number orders) (join_of ws vs).words
    join-keeps vs = by_number (eqb (join_of ws vs).answer.number done) refl
      where
        -- By whether the answer is 0.
        by_number : (b : Bool) → eqb (join_of ws vs).answer.number done ≡ b → Kept (length slice) k (when b then orders_in (book_in vs).T ++ orders else orders) (join_of ws vs).words
        by_number true e = unfold when◌then◌else◌ in joined-kept vs (was_joined ws vs (eqb-true (join_of ws vs).answer.number done e))
        by_number false e = unfold when◌then◌else◌ in rw (join-leaves ws vs (λ d. no_test (sym e ∙ eq-eqb (join_of ws vs).answer.number done d))) kept

  -- Any calls keep the book that of the orders that then remain.
  calls-keep : (cs : List Call) (orders : List (List ℕ)) (ws : List ℕ) → Kept (length slice) k orders ws → Kept (length slice) k (remaining cs ws orders) (after cs ws)
  unfolding remaining_by after_by
  calls-keep [] orders ws kept = kept
  calls-keep (teach os ∷ cs) orders ws kept = calls-keep cs _ _ (teach-keeps orders ws kept os)
  calls-keep (withdraw os ∷ cs) orders ws kept = calls-keep cs _ _ (withdraw-keeps orders ws kept os)
  calls-keep (join vs ∷ cs) orders ws kept = calls-keep cs _ _ (join-keeps orders ws kept vs)

-- ---- orders taught one after the other

-- Orders taught after others, the last of them first.
unfoldable onto : List (List ℕ) → List (List ℕ) → List (List ℕ)
onto [] before = before
onto (q ∷ qs) before = onto qs (q ∷ before)

-- Each stands among them as often as among both.
times-onto : (os : List ℕ) (qs before : List (List ℕ)) → times_of os (onto qs before) ≡ times_of os qs + times_of os before
unfolding onto times_of
times-onto os [] before = omega arith
times-onto os (q ∷ qs) before = omega (arith, times-onto os qs (q ∷ before))

-- There are no fewer of them than before.
onto_long : (qs before : List (List ℕ)) → length before ≤ length (onto qs before)
unfolding onto
onto_long [] before = omega arith
onto_long (q ∷ qs) before = omega (arith, onto_long qs (q ∷ before))

-- Their book uses no fewer words than before.
onto_uses : (k : ℕ) (qs before : List (List ℕ)) → Orders qs → Orders before → used (booked k before) ≤ used (booked k (onto qs before))
unfolding onto
onto_uses k [] before all old = omega arith
onto_uses k (q ∷ qs) before all old =
    let more : Orders (q ∷ before) = one-order_more q before (all q (here refl)) old in
    omega (arith, booked-uses k q before more, onto_uses k qs (q ∷ before) (later q qs all) more)

module _ (slice : List ℕ) (k : ℕ) (long : head_words ≤ length slice) (short : length slice ≤ most_book_words) (least : least_k ≤ k) (greatest : k ≤ greatest_k) where
  -- Orders of which there are at most 65,535 with those before, and whose book with those has room, are taught with no refusal.
  teaches-all : (qs before : List (List ℕ)) (ws : List ℕ) → Kept (length slice) k before ws → Orders qs
      → length (onto qs before) ≤ greatest_count → used (booked k (onto qs before)) ≤ length slice → NoneRefused qs ws × (taught_all qs ws ≡ lay (length slice) (booked k (onto qs before)))
  unfolding onto NoneRefused taught_all
  teaches-all [] before ws kept all few room = (tt, kept.laid)
  teaches-all (q ∷ qs) before ws kept all few room =
      let f = all q (here refl) in
      let more : Orders (q ∷ before) = one-order_more q before f kept.limits in
      let o : order_of q ≡ order f.tree = order-read q f.tree f.is_order in
      let a : (teach_of ws q).answer ≡ answered done = teaching_done slice k long short least greatest before ws kept q f.tree o
      (omega (arith, onto_long qs (q ∷ before))) (omega (arith, onto_uses k qs (q ∷ before) (later q qs all) more)) in
      let Kept-more = taught-kept slice k long short least greatest before ws kept q f.tree o (ap (λ (x : Answer). x.number) a) in
      let next = teaches-all qs (q ∷ before) (teach_of ws q).words Kept-more (later q qs all) few room in
      ((a, next.0), next.1)

-- ---- agreeing with itself

-- The empty book agrees with itself.
empty-agrees : (k : ℕ) → agreeing (book_of k []) ≡ true
unfolding agreeing book_of teachings_in same_section ◌and◌
empty-agrees k = refl

-- A book that agrees with itself does so after any calls.
calls-agree : (cs : List Call) (ws : List ℕ) (b : Book) → decode ws ≡ Some b → agreeing b ≡ true → (c : Book) × (decode (after cs ws) ≡ Some c) × (agreeing c ≡ true)
unfolding after_by
calls-agree [] ws b is a = (b, is, a)
calls-agree (teach os ∷ cs) ws b is a = let c = teach-agrees ws os b is a in calls-agree cs _ c.0 c.1 c.2
calls-agree (withdraw os ∷ cs) ws b is a = let c = withdraw-agrees ws os b is a in calls-agree cs _ c.0 c.1 c.2
calls-agree (join vs ∷ cs) ws b is a = let c = join-agrees ws vs b is a in calls-agree cs _ c.0 c.1 c.2

-- ---- the book after calls

-- What a run starts with: a slice of a size for a book, an allowed k, and words that are the book of the orders that count as taught first, which
-- agrees with itself.
pub record Begun (slice : List ℕ) (k : ℕ) (first : List (List ℕ)) (ws : List ℕ) : Type 0 where
  pub long : head_words ≤ length slice
  pub short : length slice ≤ most_book_words
  pub least : least_k ≤ k
  pub greatest : k ≤ greatest_k
  pub kept : Kept (length slice) k first ws
  pub agrees : (b : Book) × (decode ws ≡ Some b) × (agreeing b ≡ true)

-- A run may start with an opened book, of no orders.
pub opened-begun : (slice : List ℕ) (k : ℕ) → head_words ≤ length slice → length slice ≤ most_book_words → least_k ≤ k → k ≤ greatest_k → Begun slice k [] (open_of slice k).words
opened-begun slice k long short least greatest = record {
  long = long;
  short = short;
  least = least;
  greatest = greatest;
  kept = opened-kept slice k long short least greatest;
  agrees = (book_of k [], book-decode (open_of slice k).words (book_of k []) (opening-book slice k long short least greatest), empty-agrees k);
}

module _ (slice : List ℕ) (k : ℕ) (first : List (List ℕ)) (ws : List ℕ) (begun : Begun slice k first ws) (cs : List Call) where
  -- After the calls the book is that of the orders that remain.
  pub after_kept : Kept (length slice) k (remaining cs ws first) (after cs ws)
  after_kept = calls-keep slice k begun.long begun.short begun.least begun.greatest cs first ws begun.kept

  -- The slice keeps its length.
  pub after-long : length (after cs ws) ≡ length slice
  after-long = kept_long slice k begun.long begun.short begun.least begun.greatest (remaining cs ws first) (after cs ws) after_kept

  -- The words are those of that book.
  pub after-book : IsBook (after cs ws) (booked k (remaining cs ws first))
  after-book = kept_book slice k begun.long begun.short begun.least begun.greatest (remaining cs ws first) (after cs ws) after_kept

  -- "Its parts and counts are exactly those of the orders that remain."
  pub holds_exactly : ExactlyThese k (remaining cs ws first) (after cs ws)
  holds_exactly =
      let orders : List (List ℕ) = remaining cs ws first in
      let all : Orders orders = after_kept.limits in
      record {
        book = booked k orders;
        is_book = after-book;
        depth = booked-k k orders all;
        lives = booked-live k orders all;
        taught = counts-taught k orders all;
        tops = λ u. counts-tops k orders all u begun.least;
        lows = λ u. counts-lows k orders all u begun.least;
        middles = λ u. counts-middles k orders all u begun.least;
      }

  -- Just the orders that remain, taught in whichever order in a book opened elsewhere at the same k in as many words, are taught with no
  -- refusal, and every word is then the same.
  pub taught-alone : (other : List ℕ) → length other ≡ length slice → (qs : List (List ℕ)) → SameOrders qs (remaining cs ws first)
      → NoneRefused qs (open_of other k).words × (taught_all qs (open_of other k).words ≡ after cs ws)
  unfolding times_of
  taught-alone other same_length qs same =
      let orders : List (List ℕ) = remaining cs ws first in
      let kept = after_kept in
      let turned : SameOrders (onto qs []) orders = λ os. omega (arith, times-onto os qs [], same os) in
      let book : booked k (onto qs []) ≡ booked k orders = same-book k (onto qs []) orders turned kept.limits in
      let all : Orders (onto qs []) = same-fit (onto qs []) orders turned kept.limits in
      let many : length (onto qs []) ≡ length orders = sym (booked-live k (onto qs []) all) ∙ ap live book ∙ booked-live k orders kept.limits in
      let l : head_words ≤ length other = omega (arith, begun.long) in
      let s : length other ≤ most_book_words = omega (arith, begun.short) in
      let t = teaches-all other k l s begun.least begun.greatest qs [] (open_of other k).words (opened-kept other k l s begun.least begun.greatest) (same-fit qs orders same kept.limits)
      (omega (arith, kept.few)) (omega (arith, kept.room, ap used book)) in
      (t.0, t.1 ∙ ap₂ lay same_length book ∙ sym kept.laid)

  -- The book "agrees with itself".
  pub after-agrees : agreeing (booked k (remaining cs ws first)) ≡ true
  after-agrees =
      let a = calls-agree cs ws begun.agrees.0 begun.agrees.1 begun.agrees.2 in
      let d = book-decode (after cs ws) (booked k (remaining cs ws first)) after-book in
      let same : a.0 ≡ booked k (remaining cs ws first) = cc (a.1, d) in
      ap agreeing (sym same) ∙ a.2
