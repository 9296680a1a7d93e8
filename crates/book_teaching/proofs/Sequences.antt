-- Calls that follow one another, in every word: withdrawing undoes a teaching, and two teachings may come in any order; and a book stays in
-- form, and agreeing if it was. Assumes nothing.
use Rattle.std.specs.Prelude.{Some}
use Prim.Native.Nat.{ℕ, ◌≤◌}
use mathlib.Core.Path.{◌≡◌, sym, ap, ap₂, ◌∙◌}
use mathlib.Core.Bool.{true}
use mathlib.Core.List.{List}
use native.Mathlib.Omega.{arith}
use lib.ListN.{length}
use Rattle.figures.specs.Limits.{greatest_depth, greatest_count}
use Rattle.figures.specs.Numbers.{done, not_agreeing}
use Rattle.figures.specs.Answers.{answered}
use Rattle.section.specs.Entries.{has, count_of}
use Rattle.order.specs.Trees.{Tree, words}
use Rattle.order.specs.Fits.{Fits}
use Rattle.order.specs.Reading.{order_of, order}
use Rattle.book.specs.Book.{Book, section_of, used, lay, in_form}
use Rattle.book.specs.Decoding.{decode}
use Rattle.book.specs.Taught.{taught, agreeing}
use Rattle.book.specs.Opening.{outcome, leave, write_book}
use Rattle.book.proofs.Meaning.{decoded, lay-long}
use Rattle.book.proofs.Sound.{form-sound}
use Rattle.book.proofs.Teachings.{live-taught, commute, count-after_taught, taught-in_order}
use Rattle.book.proofs.Sections.{form-sorted}
use Rattle.book.proofs.Agreeing.{taught-agrees}
use Rattle.book.proofs.Openings.{number_is, one_number, words_are}
use Rattle.book_change.specs.Counts.{within_counts}
use Rattle.book_teaching.specs.Calls.{teach_of, withdrawn, withdraw_of}
use Rattle.book_change.proofs.Sections.{form-fitting}
use Rattle.book_teaching.proofs.Formed.{taught-keeps_form}
use Rattle.book_teaching.proofs.Undoing.{undo}
use Rattle.book_teaching.specs.Conditions.{BookAndOrder, WouldPass, lives, touched}
use Rattle.book_teaching.proofs.Calling.{Met, met, refuses, goes, its_words, its_form, its_limits, its_sorted, written_met, TeachCase, passing, crowded, teaches, teach-does, withdraw-does, teach-case, WithdrawCase, untaught, lacks, withdraws, withdraw-case}
use Rattle.book_teaching.proofs.Conditions.{teach-0, teach-writes, withdraw-0, withdraw-9, withdraw-writes}
use Rattle.book_teaching.proofs.Reasons.{count-few, none_passes, passes_none}
use Rattle.book_teaching.proofs.Agreeing.{withdrawn-agrees, taught-has_parts}
use Rattle.book_teaching.proofs.Counted.{taught-has, taught-parts, taught-uses}

-- ---- an order that was just taught

-- What is known of words of which an order was taught with answer 0: the book, the order, and the book that was written.
record Done (ws os : List ℕ) : Type 0 where
  book : Book
  tree : Tree
  both : BookAndOrder ws os book tree
  fits : within_counts (taught 1 tree book) ≡ true
  room : used (taught 1 tree book) ≤ length ws
  wrote : teach_of ws os ≡ write_book ws (taught 1 tree book)

-- It is known where the answer is 0.
was_taught : (ws os : List ℕ) → (teach_of ws os).answer.number ≡ done → Done ws os
unfolding teach_of
was_taught ws os e = go (met ws os)
  where
    by_case : (b : Book) (t : Tree) → BookAndOrder ws os b t → TeachCase ws os (taught 1 t b) → Done ws os
    by_case b t g (passing w r) = absurd (omega (arith, one_number r e))
    by_case b t g (crowded w h r) = absurd (omega (arith, one_number r e))
    by_case b t g (teaches w h r) = record { book = b; tree = t; both = g; fits = w; room = h; wrote = r }

    go : Met ws os → Done ws os
    go (refuses n h r) = absurd (h (one_number (r _) e))
    go (goes b t g) = by_case b t g (teach-case ws os b t g)

-- A book in form with one teaching more, its counts fitting and with room in the words, written over them.
module _ (ws os : List ℕ) (b : Book) (t : Tree) (g : BookAndOrder ws os b t) (w : within_counts (taught 1 t b) ≡ true) (r : used (taught 1 t b) ≤ length ws) where
  -- It is in form.
  then_form : in_form (taught 1 t b) ≡ true
  then_form = taught-keeps_form t b (its_form ws os b t g) (its_limits ws os b t g) w

  -- With any order it is met as that book and that order.
  then_met : (ps : List ℕ) (u : Tree) → order_of ps ≡ order u → BookAndOrder (lay (length ws) (taught 1 t b)) ps (taught 1 t b) u
  then_met ps u o = written_met ws ps (taught 1 t b) u g.size then_form r o

  -- The words are as many.
  then_long : length (lay (length ws) (taught 1 t b)) ≡ length ws
  then_long = lay-long (length ws) (taught 1 t b) r

  -- Withdrawing the order gives the words as they came.
  withdraws-it : withdraw_of (lay (length ws) (taught 1 t b)) os ≡ outcome (answered done) ws
  withdraws-it =
      let sorted = its_sorted ws os b t g in
      withdraw-does _ os (taught 1 t b) t (then_met os t g.is_order) (taught-has t b sorted) (taught-parts t b sorted)
      ∙ ap (outcome (answered done)) (ap₂ lay then_long (undo b sorted t) ∙ its_words ws os b t g)

-- "Withdrawing lowers each by one and takes out an entry that comes to 0": withdrawing what was just taught is done, and every word is as it
-- was before the teaching.
pub teach-then_withdraw : (ws os : List ℕ) → (teach_of ws os).answer.number ≡ done → withdraw_of (teach_of ws os).words os ≡ outcome (answered done) ws
teach-then_withdraw ws os e =
    let d = was_taught ws os e in
    ap (λ (l : List ℕ). withdraw_of l os) (words_are d.wrote) ∙ withdraws-it ws os d.book d.tree d.both d.fits d.room

-- ---- two orders

-- What would pass 65,535 before a teaching would pass after it.
still_passes : (t u : Tree) (b : Book) → in_form (taught 1 t b) ≡ true → WouldPass u b → WouldPass u (taught 1 t b)
unfolding taught
still_passes t u b h (lives e) = absurd (omega (arith, live-taught 1 t b, (form-sound (taught 1 t b) h).few))
still_passes t u b h (touched s v m e) =
    let few : count_of (words v) (section_of s (taught 1 t b)) ≤ greatest_count = count-few (words v) _ (form-sorted _ h s) (form-fitting _ h s) in
    touched s v m (omega (arith, count-after_taught 1 t v b s))

-- An order taught, its counts fitting and with room, and then another, with answer 0.
module _ (ws os ps : List ℕ) (b : Book) (t u : Tree) (g : BookAndOrder ws os b t) (w : within_counts (taught 1 t b) ≡ true) (r : used (taught 1 t b) ≤ length ws) (o : order_of ps ≡ order u)
    (e : (teach_of (lay (length ws) (taught 1 t b)) ps).answer.number ≡ done) where
  -- The book and the second order.
  other : BookAndOrder ws ps b u
  other = record { size = g.size; is_book = g.is_book; is_order = o }

  -- What the second answer says.
  second : (WouldPass u (taught 1 t b) → ⊥) × (used (taught 1 u (taught 1 t b)) ≤ length ws)
  second =
      let p = (teach-0 _ ps (taught 1 t b) u (then_met ws os b t g w r ps u o)).0 e in
      (p.0, omega (arith, p.1, then_long ws os b t g w r))

  -- The counts fit once both are taught.
  both_fit : within_counts (taught 1 u (taught 1 t b)) ≡ true
  both_fit = none_passes u (taught 1 t b) (then_form ws os b t g w r) second.0

  -- The two may be taught in any order.
  swapped : taught 1 t (taught 1 u b) ≡ taught 1 u (taught 1 t b)
  swapped = commute b (its_sorted ws os b t g) 1 1 t u (omega arith) (omega arith)

  -- The counts fit once the second alone is taught.
  alone-fits : within_counts (taught 1 u b) ≡ true
  alone-fits = none_passes u b (its_form ws os b t g) (λ p. second.0 (still_passes t u b (then_form ws os b t g w r) p))

  -- There is room for it.
  alone-room : used (taught 1 u b) ≤ length ws
  alone-room = omega (arith, taught-uses t (taught 1 u b) (taught-in_order 1 u b (omega arith) (its_sorted ws os b t g)), ap used swapped, second.1)

  -- The first is taught after it, and the words are the same in the end.
  same_end : teach_of (lay (length ws) (taught 1 u b)) os ≡ teach_of (lay (length ws) (taught 1 t b)) ps
  same_end =
      let long = then_long ws ps b u other alone-fits alone-room in
      let room : used (taught 1 t (taught 1 u b)) ≤ length (lay (length ws) (taught 1 u b)) = omega (arith, ap used swapped, second.1, long) in
      let room' : used (taught 1 u (taught 1 t b)) ≤ length (lay (length ws) (taught 1 t b)) = omega (arith, second.1, then_long ws os b t g w r) in
      teach-does _ os (taught 1 u b) t (then_met ws ps b u other alone-fits alone-room os t g.is_order) (ap within_counts swapped ∙ both_fit) room
      ∙ ap (outcome (answered done)) (ap₂ lay (long ∙ sym (then_long ws os b t g w r)) swapped)
      ∙ sym (teach-does _ ps (taught 1 t b) u (then_met ws os b t g w r ps u o) both_fit room')

-- Two orders that are taught one after the other, both with answer 0, may be taught the other way round: both are done, and the words are the
-- same in the end.
pub two_teachings : (ws os ps : List ℕ) → (teach_of ws os).answer.number ≡ done → (teach_of (teach_of ws os).words ps).answer.number ≡ done
    → ((teach_of ws ps).answer.number ≡ done) × (teach_of (teach_of ws ps).words os ≡ teach_of (teach_of ws os).words ps)
two_teachings ws os ps e f =
    let d = was_taught ws os e in
    let c = was_taught (teach_of ws os).words ps f in
    turned ws os ps d.book d.tree c.tree d.both d.fits d.room c.both.is_order d.wrote f
  where
    turned : (ws os ps : List ℕ) (b : Book) (t u : Tree) → BookAndOrder ws os b t → within_counts (taught 1 t b) ≡ true → used (taught 1 t b) ≤ length ws → order_of ps ≡ order u
        → teach_of ws os ≡ write_book ws (taught 1 t b) → (teach_of (teach_of ws os).words ps).answer.number ≡ done
        → ((teach_of ws ps).answer.number ≡ done) × (teach_of (teach_of ws ps).words os ≡ teach_of (teach_of ws os).words ps)
    turned ws os ps b t u g w r o x f =
        let first : (teach_of ws os).words ≡ lay (length ws) (taught 1 t b) = words_are x in
        let e : (teach_of (lay (length ws) (taught 1 t b)) ps).answer.number ≡ done = rw first at f in
        let y : teach_of ws ps ≡ write_book ws (taught 1 u b) = teach-does ws ps b u (other ws os ps b t u g w r o e) (alone-fits ws os ps b t u g w r o e) (alone-room ws os ps b t u g w r o e) in
        (number_is y, ap (λ (l : List ℕ). teach_of l os) (words_are y) ∙ same_end ws os ps b t u g w r o e ∙ sym (ap (λ (l : List ℕ). teach_of l ps) first))

-- ---- in form and agreeing

-- What is kept, whatever the answer: of a book in form with a property that each change keeps the words are, after the call, a book in form
-- with the property.
module _ (Q : Book → Type 0) (ws os : List ℕ) (b : Book) (is : decode ws ≡ Some b) (q : Q b) where
  -- By teaching.
  teach-keeps : ((t : Tree) → Fits 0 greatest_depth (words t) → Q (taught 1 t b)) → (c : Book) × (decode (teach_of ws os).words ≡ Some c) × Q c
  unfolding teach_of
  teach-keeps h = go (met ws os)
    where
      left : (n : ℕ) → teach_of ws os ≡ leave ws n → (c : Book) × (decode (teach_of ws os).words ≡ Some c) × Q c
      left n r = (b, ap decode (words_are r) ∙ is, q)

      by_case : (t : Tree) → BookAndOrder ws os b t → TeachCase ws os (taught 1 t b) → (c : Book) × (decode (teach_of ws os).words ≡ Some c) × Q c
      by_case t g (passing w r) = left _ r
      by_case t g (crowded w m r) = left _ r
      by_case t g (teaches w m r) = (taught 1 t b, (teach-writes ws os b t g (number_is r)).1, h t (its_limits ws os b t g))

      go : Met ws os → (c : Book) × (decode (teach_of ws os).words ≡ Some c) × Q c
      go (refuses n k r) = left n (r _)
      go (goes d t g) = let i : BookAndOrder ws os b t = record { size = g.size; is_book = is; is_order = g.is_order } in by_case t i (teach-case ws os b t i)

  -- By withdrawing.
  withdraw-keeps : ((t : Tree) → Fits 0 greatest_depth (words t) → has (words t) b.T ≡ true → Q (withdrawn t b)) → (c : Book) × (decode (withdraw_of ws os).words ≡ Some c) × Q c
  unfolding withdraw_of
  withdraw-keeps h = go (met ws os)
    where
      left : (n : ℕ) → withdraw_of ws os ≡ leave ws n → (c : Book) × (decode (withdraw_of ws os).words ≡ Some c) × Q c
      left n r = (b, ap decode (words_are r) ∙ is, q)

      by_case : (t : Tree) → BookAndOrder ws os b t → WithdrawCase ws os b t → (c : Book) × (decode (withdraw_of ws os).words ≡ Some c) × Q c
      by_case t g (untaught m r) = left _ r
      by_case t g (lacks m p r) = left _ r
      by_case t g (withdraws m p r) = (withdrawn t b, (withdraw-writes ws os b t g (number_is r)).1, h t (its_limits ws os b t g) m)

      go : Met ws os → (c : Book) × (decode (withdraw_of ws os).words ≡ Some c) × Q c
      go (refuses n k r) = left n (r _)
      go (goes d t g) = let i : BookAndOrder ws os b t = record { size = g.size; is_book = is; is_order = g.is_order } in by_case t i (withdraw-case ws os b t i)

module _ (ws os : List ℕ) (b : Book) (is : decode ws ≡ Some b) where
  -- A book in form stays in form by teaching, whatever the answer.
  pub teach-in_form : (c : Book) × (decode (teach_of ws os).words ≡ Some c)
  teach-in_form = let k = teach-keeps (λ c. Unit {0}) ws os b is tt (λ t l. tt) in (k.0, k.1)

  -- A book in form stays in form by withdrawing, whatever the answer.
  pub withdraw-in_form : (c : Book) × (decode (withdraw_of ws os).words ≡ Some c)
  withdraw-in_form = let k = withdraw-keeps (λ c. Unit {0}) ws os b is tt (λ t l h. tt) in (k.0, k.1)

  -- A book in form that "agrees with itself" agrees with itself after a teaching, whatever the answer.
  pub teach-agrees : agreeing b ≡ true → (c : Book) × (decode (teach_of ws os).words ≡ Some c) × (agreeing c ≡ true)
  teach-agrees a = teach-keeps (λ c. agreeing c ≡ true) ws os b is a (λ t l. taught-agrees 1 t b (omega arith) (decoded ws b is).1 l a)

  -- So it does after a withdrawal.
  pub withdraw-agrees : agreeing b ≡ true → (c : Book) × (decode (withdraw_of ws os).words ≡ Some c) × (agreeing c ≡ true)
  withdraw-agrees a = withdraw-keeps (λ c. agreeing c ≡ true) ws os b is a (λ t l h. withdrawn-agrees t b (decoded ws b is).1 l h a)

-- From a book that "agrees with itself" an order that has an entry in T is withdrawn: the answer is 0.
pub agreeing-withdraws : (ws os : List ℕ) (b : Book) (t : Tree) → BookAndOrder ws os b t → agreeing b ≡ true → has (words t) b.T ≡ true → (withdraw_of ws os).answer.number ≡ done
agreeing-withdraws ws os b t g a h =
    (withdraw-0 ws os b t g).1 (h, passes_none t b (taught-has_parts t b (its_form ws os b t g) (its_limits ws os b t g) h a))

-- No withdrawal from a book that "agrees with itself" is refused by 9.
pub agreeing-no_9 : (ws os : List ℕ) (b : Book) (t : Tree) → BookAndOrder ws os b t → agreeing b ≡ true → (withdraw_of ws os).answer.number ≡ not_agreeing → ⊥
agreeing-no_9 ws os b t g a e =
    let p = (withdraw-9 ws os b t g).0 e in
    passes_none t b (taught-has_parts t b (its_form ws os b t g) (its_limits ws os b t g) p.0 a) p.1
