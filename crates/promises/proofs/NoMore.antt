-- "Show that the book lets in no more than it must" (02): "take any three finite sets, at the book's k, of tops, low parts and middle parts whose forms include
-- all taught orders; they include everything that passes. Also: teaching more never makes a passing order fail; whatever passes at k+1 passes at k for the same
-- taught orders; and when k-2 is at least the depth of every taught order, only taught orders pass. All for books that agree with themselves. In addition,
-- withdraw from a book grown from empty never answers 9."
--
-- It is document 000's Theorem IV.1, a) to e) (order_learning/proofs/Least.antt), of the book that judging goes by. Three sets, their forms and the taught orders are those of
-- specs/NoMore.antt; a book that agrees with itself is one that `book_check::check` answers by 0 (`check_rows`, Demand1.antt). Assumes nothing.
use Prim.Native.Nat.{ℕ, suc, ◌-◌, ◌≤◌}
use mathlib.Core.Path.{◌≡◌, sym, subst}
use mathlib.Core.List.{List, [], ◌∷◌}
use native.Mathlib.Omega.{arith}
use Rattle.words.specs.Base.{◌∈◌, ◌exactly_when◌}
use Rattle.figures.specs.Numbers.{done, not_agreeing}
use Rattle.figures.specs.Answers.{answered}
use Rattle.order.specs.Trees.{Tree, words, depth}
use Rattle.order.specs.Fits.{IsOrder}
use Rattle.order.proofs.Causes.{cause_small}
use Rattle.order_learning.specs.Learning.{Learnt}
use Rattle.order_learning.proofs.Least.{includes, least, only-these, fewer-deeper}
use Rattle.book.specs.Book.{Book}
use Rattle.book.specs.Sound.{IsBook}
use Rattle.book.proofs.Sound.{refused-4_5}
use Rattle.book.proofs.Openings.{one_number}
use Rattle.book_judging.specs.Judging.{judge_of}
use Rattle.book_teaching.specs.Calls.{teach_of, withdraw_of}
use Rattle.book_teaching.specs.Whys.{WhyWithdrawn, withdraw_no_book, withdraw_no_order, no_entry, part_missing, book_withdrawn}
use Rattle.book_teaching.proofs.Sequences.{agreeing-no_9}
use Rattle.book_teaching.proofs.Whys.{withdraw-why}
use Rattle.book_joining.specs.Joining.{join_of}
use Rattle.promises.specs.Remaining.{Call, after, remaining, taught_all, booked, ExactlyThese}
use Rattle.promises.specs.Starts.{Start, started_by, taught_first, start_k}
use Rattle.promises.specs.Agreement.{Agrees}
use Rattle.promises.specs.NoMore.{ThreeSets, FormOf, TaughtIn, IncludeTaught, sets_of, Remains}
use Rattle.promises.proofs.Laws.Passing.{judged-exactly, passes-made}
use Rattle.promises.proofs.Laws.Learning.{passes-learnt, passes-own_form, made_learnt}
use Rattle.promises.proofs.Laws.Agreement.{sound-agreeing}
use Rattle.promises.proofs.Books.{its_met}
use Rattle.promises.proofs.Laws.Growing.{taught-still_passes, joined-still_passes}
use Rattle.promises.proofs.Laws.Remaining.{after-book, after-agrees}
use Rattle.promises.proofs.Laws.Starting.{begins}
use Rattle.promises.proofs.Demand2.{passing-line}

-- ---- any three sets

-- Of words that are a book that agrees with itself:
module _ (ws : List ℕ) (b : Book) (is : IsBook ws b) (agrees : Agrees b) where
  -- What passes is what is learnt from the taught orders at the book's k, document 000's T_k(S).
  pub learns_exactly : (os : List ℕ) (t : Tree) → IsOrder os t → ((judge_of ws os).number ≡ done) exactly_when Learnt b.k (TaughtIn b) t
  learns_exactly os t o =
      let j = judged-exactly ws os b t is o in
      let l = passes-learnt b is.sound agrees t in
      (λ e. l.0 (j.0 e), λ x. j.1 (l.1 x))

  -- "take any three finite sets, at the book's k, of tops, low parts and middle parts whose forms include all taught orders; they include everything that passes"
  pub no_more : (s : ThreeSets) → IncludeTaught b s → (os : List ℕ) (t : Tree) → IsOrder os t → (judge_of ws os).number ≡ done → FormOf b.k s t
  no_more s all os t o e = least b.k (TaughtIn b) _ _ _ all t ((learns_exactly os t o).0 e)

  -- So it is with sets at any lower k. At a greater k it is not (`sets_too_deep`, Tables/Rows.antt).
  pub no_more_shallower : (k : ℕ) → 2 ≤ k → k ≤ b.k → (s : ThreeSets) → ((u : Tree) → TaughtIn b u → FormOf k s u)
      → (os : List ℕ) (t : Tree) → IsOrder os t → (judge_of ws os).number ≡ done → FormOf k s t
  no_more_shallower k two low s all os t o e =
      least k (TaughtIn b) _ _ _ all t (fewer-deeper b.k k (TaughtIn b) (TaughtIn b) two low (λ u x. x) t ((learns_exactly os t o).0 e))

  -- Every taught order passes, with line 0.
  pub taught-pass : (os : List ℕ) (t : Tree) → IsOrder os t → TaughtIn b t → judge_of ws os ≡ answered done
  taught-pass os t o x = passing-line ws os ((learns_exactly os t o).1 (includes b.k (TaughtIn b) t x))

  -- The book's own three sets, the trees of R, L and P, are such sets, and their forms are just what passes: no other such sets have fewer.
  pub own_sets : IncludeTaught b (sets_of b) × ((os : List ℕ) (t : Tree) → IsOrder os t → ((judge_of ws os).number ≡ done) exactly_when FormOf b.k (sets_of b) t)
  own_sets = (
    λ u x. (passes-own_form b is.sound u).0 ((passes-learnt b is.sound agrees u).1 (includes b.k (TaughtIn b) u x)),
    λ os t o. let j = judged-exactly ws os b t is o in let f = passes-own_form b is.sound t in (λ e. f.0 (j.0 e), λ x. j.1 (f.1 x)),
  )

  -- So the book passes exactly what it must: an order passes exactly if all such sets let it in.
  pub passes-what_it_must : (os : List ℕ) (t : Tree) → IsOrder os t → ((judge_of ws os).number ≡ done) exactly_when ((s : ThreeSets) → IncludeTaught b s → FormOf b.k s t)
  passes-what_it_must os t o = (λ e s all. no_more s all os t o e, λ h. (own_sets.1 os t o).1 (h (sets_of b) own_sets.0))

  -- "when k-2 is at least the depth of every taught order, only taught orders pass", and these do.
  pub only-taught : ((u : Tree) → TaughtIn b u → depth u ≤ b.k - 2) → (os : List ℕ) (t : Tree) → IsOrder os t → ((judge_of ws os).number ≡ done) exactly_when TaughtIn b t
  only-taught shallow os t o =
      let l = learns_exactly os t o in
      (λ e. only-these b.k (TaughtIn b) is.sound.least t shallow (l.0 e), λ x. l.1 (includes b.k (TaughtIn b) t x))

-- ---- "teaching more never makes a passing order fail"

-- For all words, whatever the teaching answers, and whether or not the book agrees with itself, of which alone it is asked: what passed passes.
pub teaching_more : (ws os ps : List ℕ) → (judge_of ws ps).number ≡ done → (judge_of (teach_of ws os).words ps).number ≡ done
teaching_more = taught-still_passes

-- However many more are taught.
pub teaching_many : (qs : List (List ℕ)) (ws ps : List ℕ) → (judge_of ws ps).number ≡ done → (judge_of (taught_all qs ws) ps).number ≡ done
unfolding taught_all
teaching_many [] ws ps e = e
teaching_many (os ∷ qs) ws ps e = teaching_many qs (teach_of ws os).words ps (teaching_more ws os ps e)

-- Nor does joining, which counts the other book's orders as taught, whatever it answers.
pub joining_more : (ws vs ps : List ℕ) → (judge_of ws ps).number ≡ done → (judge_of (join_of ws vs).words ps).number ≡ done
joining_more = joined-still_passes

-- ---- two books

-- Of two books that agree with themselves, where every order taught to the second is taught to the first:
module _ (ws vs : List ℕ) (b c : Book) (first : IsBook ws b) (first-agrees : Agrees b) (second : IsBook vs c) (second-agrees : Agrees c) (all : (u : Tree) → TaughtIn c u → TaughtIn b u) where
  -- If the second looks as deep as the first, or deeper, whatever passes by the second passes by the first. How often each order was taught plays no part.
  pub fewer-or_deeper : b.k ≤ c.k → (os : List ℕ) (t : Tree) → IsOrder os t → (judge_of vs os).number ≡ done → (judge_of ws os).number ≡ done
  fewer-or_deeper deep os t o e =
      (learns_exactly ws b first first-agrees os t o).1
      (fewer-deeper c.k b.k (TaughtIn c) (TaughtIn b) first.sound.least deep all t ((learns_exactly vs c second second-agrees os t o).0 e))

  -- "teaching more never makes a passing order fail": what passes by the second passes by the first, which was taught more, if both are of one k.
  pub more_taught-more_passes : c.k ≡ b.k → (os : List ℕ) (t : Tree) → IsOrder os t → (judge_of vs os).number ≡ done → (judge_of ws os).number ≡ done
  more_taught-more_passes same = fewer-or_deeper (omega arith)

  -- "whatever passes at k+1 passes at k for the same taught orders"
  pub deeper-is_stricter : c.k ≡ suc b.k → (os : List ℕ) (t : Tree) → IsOrder os t → (judge_of vs os).number ≡ done → (judge_of ws os).number ≡ done
  deeper-is_stricter next = fewer-or_deeper (omega arith)

-- ---- the same, by the orders that remain

-- The k of a book that holds exactly some orders is at least 2.
allowed-k : (k : ℕ) (orders : List (List ℕ)) (ws : List ℕ) → ExactlyThese k orders ws → 2 ≤ k
allowed-k k orders ws x = omega (arith, x.depth, x.is_book.sound.least)

-- Of words that hold exactly some orders, as any start and calls of demand 3 leave them (`parts-and_counts`, Demand3.antt), and of an order:
module _ (k : ℕ) (orders : List (List ℕ)) (ws : List ℕ) (x : ExactlyThese k orders ws) (os : List ℕ) (t : Tree) (o : IsOrder os t) where
  -- What passes is what is learnt from the orders that remain.
  remaining-learns : ((judge_of ws os).number ≡ done) exactly_when Learnt k (Remains orders) t
  remaining-learns =
      let p = passes-made k orders ws os t x o in
      let m = made_learnt orders k t in
      (λ e. m.0 (p.0 e), λ l. p.1 (m.1 l))

  -- Any three finite sets whose forms include all orders that remain include everything that passes.
  pub remaining-no_more : (s : ThreeSets) → ((u : Tree) → Remains orders u → FormOf k s u) → (judge_of ws os).number ≡ done → FormOf k s t
  remaining-no_more s all e = least k (Remains orders) _ _ _ all t (remaining-learns.0 e)

  -- When k-2 is at least the depth of every order that remains, just these pass.
  pub only-remaining : ((u : Tree) → Remains orders u → depth u ≤ k - 2) → ((judge_of ws os).number ≡ done) exactly_when (os ∈ orders)
  only-remaining shallow = (
    λ e. subst (λ (ps : List ℕ). ps ∈ orders) (sym o.spelt) (only-these k (Remains orders) (allowed-k k orders ws x) t shallow (remaining-learns.0 e)).among,
    λ m. remaining-learns.1 (includes k (Remains orders) t (record {
      among = subst (λ (ps : List ℕ). ps ∈ orders) o.spelt m;
      is_order = subst (λ (ps : List ℕ). IsOrder ps t) o.spelt o;
    })),
  )

-- Of two such books, the second as deep as the first or deeper, where every order that remains in the second remains in the first: whatever passes by the second
-- passes by the first. So it is with the same orders at k+1 and at k, and with more orders at one k.
pub remaining-fewer_or_deeper : (k j : ℕ) (orders others : List (List ℕ)) (ws vs : List ℕ) → ExactlyThese k orders ws → ExactlyThese j others vs → k ≤ j → ((os : List ℕ) → os ∈ others → os ∈ orders)
    → (os : List ℕ) (t : Tree) → IsOrder os t → (judge_of vs os).number ≡ done → (judge_of ws os).number ≡ done
remaining-fewer_or_deeper k j orders others ws vs x y deep all os t o e =
    (remaining-learns k orders ws x os t o).1
    (fewer-deeper j k (Remains others) (Remains orders) (allowed-k k orders ws x) deep (λ u r. record { among = all (words u) r.among; is_order = r.is_order }) t
    ((remaining-learns j others vs y os t o).0 e))

-- ---- withdrawing

-- No withdrawal from a book that agrees with itself answers 9, whatever the words of the order.
pub agreeing-never_9 : (ws os : List ℕ) (b : Book) → IsBook ws b → Agrees b → (withdraw_of ws os).answer.number ≡ not_agreeing → ⊥
agreeing-never_9 ws os b is agrees q = go (withdraw-why ws os)
  where
    -- By the row of the withdrawal.
    go : WhyWithdrawn ws os (withdraw_of ws os) → ⊥
    go (withdraw_no_book n e w) = omega (arith, one_number e q, (refused-4_5 ws n w).1)
    go (withdraw_no_order c n e j w x) = omega (arith, one_number e q, cause_small os n w)
    go (no_entry c t e j o h) = omega (arith, one_number e q)
    go (part_missing c t e j o h p) = agreeing-no_9 ws os b t (its_met ws os b t is o) ((sound-agreeing b is.sound).1 agrees) q
    go (book_withdrawn c t e j o h p) = omega (arith, one_number e q)

-- "withdraw from a book grown from empty never answers 9": after any start that was done, with an empty book or a file, and any calls, joinings among them, with
-- any words as the order.
pub never_9 : (start : Start) (slice : List ℕ) → (started_by start slice).answer.number ≡ done → (cs : List Call) (os : List ℕ)
    → (withdraw_of (after cs (started_by start slice).words) os).answer.number ≡ not_agreeing → ⊥
never_9 start slice started cs os =
    let ws : List ℕ = (started_by start slice).words in
    let g = begins start slice started in
    let b : Book = booked (start_k start) (remaining cs ws (taught_first start)) in
    let is : IsBook (after cs ws) b = after-book slice (start_k start) (taught_first start) ws g cs in
    agreeing-never_9 (after cs ws) os b is ((sound-agreeing b is.sound).0 (after-agrees slice (start_k start) (taught_first start) ws g cs))
