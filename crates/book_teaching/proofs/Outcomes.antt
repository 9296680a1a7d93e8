-- What teaching and withdrawing answer, and the words then, by the tests that the code makes in turn; and the order's own book as it stands in
-- its slice. Assumes nothing.
use Prim.Native.Nat.{ℕ, ◌+◌, ◌-◌, ◌≤◌, ◌<◌}
use mathlib.Core.Path.{◌≡◌, sym, ap, subst, ◌∙◌}
use mathlib.Core.Bool.{true, false}
use mathlib.Core.List.{List}
use native.Mathlib.Decide.{dec_lt}
use native.Mathlib.Omega.{arith}
use borrow.Author.Tests.{le-leb, lt-leb}
use lib.ListN.{length, get_or}
use Rattle.words.specs.Base.{when◌then◌else◌}
use Rattle.figures.specs.Limits.{greatest_count, greatest_depth}
use Rattle.figures.specs.Numbers.{done, no_room, too_many, not_taught, not_agreeing}
use Rattle.figures.specs.Answers.{answered}
use Rattle.section.specs.Entries.{has}
use Rattle.section_change.specs.Editing.{lacking_words}
use Rattle.section_change.specs.declared.Weighed.{Weighed}
use Rattle.order.specs.Trees.{Tree, words}
use Rattle.order.specs.Reading.{by_order, order_of, cause_of}
use Rattle.order.specs.Causes.{Cause}
use Rattle.order.specs.Fits.{Fits}
use Rattle.order.proofs.Causes.{cause_is, cause_refuses, has-tree}
use Rattle.order.proofs.Fitting.{passed-fits}
use Rattle.book.specs.Book.{Book, section_of, used, live, lay, in_form}
use Rattle.book.specs.Decoding.{book_in, places_of, book_form_of, Refused}
use Rattle.book.specs.Sound.{IsBook}
use Rattle.book.specs.Holding.{Holds}
use Rattle.book.specs.Taught.{taught}
use Rattle.book.specs.Opening.{Outcome, outcome, leave}
use Rattle.book.specs.declared.Places.{Places}
use Rattle.book.specs.declared.Section.TheVariants.{Taught}
use Rattle.book.proofs.Meaning.{laid-read, used-fits}
use Rattle.book.proofs.Holding.{refused-book, used-room, uses, allowed}
use Rattle.book.proofs.Sound.{form-sound, held_book, on-any, laid-holds}
use Rattle.book.proofs.Sections.{form-sorted}
use Rattle.book.proofs.Around.{live_laid}
use Rattle.book_change.specs.Counts.{within_counts}
use Rattle.book_teaching.specs.Calls.{on_order, teach_tree, teach_of, withdrawn, has_parts, withdraw_tree, withdraw_of}
use Rattle.book_listing.specs.Own.{own_words, own_book, own_of}
use Rattle.book_change.specs.Changing.{changed_book, ReadyAll, weighed_in, weighed_book, lacking_parts, lacking_all, overfull_any}
use Rattle.book_change.specs.declared.Change.TheVariants.{Teach, Withdraw}
use Rattle.book_change.specs.declared.BookWeighed.{BookWeighed}
use Rattle.book_listing.proofs.Owning.{own_short}
use Rattle.book_teaching.proofs.Adds.{taught-changed, withdrawn-changed, used-taught, within-taught, lives_pass, count-passes, has-own, has-no_own, has-own_parts, has-no_own_parts}
use Rattle.book_teaching.proofs.Formed.{beside_form, ready_teach, ready_withdraw}

-- ---- any words and any order

-- A slice that is no book in form is answered by 4 or 5.
pub unheld : (ws os : List ℕ) (f : Book → Tree → Outcome) (n : ℕ) → book_form_of ws ≡ Refused n → leave ws n ≡ on_order ws os f
unfolding on_order
unheld ws os f n e = sym (refused-book ws n e (leave ws) (λ b. by_order (order_of os) (leave ws) (f b)))

-- So teaching answers.
pub teach-unheld : (ws os : List ℕ) (n : ℕ) → book_form_of ws ≡ Refused n → leave ws n ≡ teach_of ws os
unfolding teach_of
teach-unheld ws os = unheld ws os (teach_tree ws)

-- So withdrawing answers.
pub withdraw-unheld : (ws os : List ℕ) (n : ℕ) → book_form_of ws ≡ Refused n → leave ws n ≡ withdraw_of ws os
unfolding withdraw_of
withdraw-unheld ws os = unheld ws os (withdraw_tree ws)

-- With a book in form a call goes by the order.
by_order_lem : (ws os : List ℕ) (b : Book) → IsBook ws b → (f : Book → Tree → Outcome) → on_order ws os f ≡ by_order (order_of os) (leave ws) (f b)
unfolding on_order
by_order_lem ws os b i f = on-any ws b i (leave ws) (λ c. by_order (order_of os) (leave ws) (f c))

-- Words with a cause of 1 or 2 are then answered by it.
pub by_cause : (ws os : List ℕ) (b : Book) → IsBook ws b → (n : ℕ) → Cause os n → (n ≡ done → ⊥) → (f : Book → Tree → Outcome) → on_order ws os f ≡ leave ws n
by_cause ws os b i n c x f = by_order_lem ws os b i f ∙ cause_refuses os n c x (leave ws) (f b)

-- ---- a book in form

module _ (ws : List ℕ) (p : Places) (H : Holds ws p) where
  -- Word 2 is the number of live teachings.
  lives : get_or ws 2 0 ≡ live (book_in ws)
  lives = live_laid ws (book_in ws) H.laid

  -- Where word 2 is not 65,535, one live teaching more has room.
  one_more : (get_or ws 2 0 ≡ greatest_count → ⊥) → live (book_in ws) < greatest_count
  one_more n = elim (dec_lt (live (book_in ws)) greatest_count) [
    | yes l ↦ l
    | no l ↦ absurd (n (omega (arith, lives, (form-sound (book_in ws) H.form).few)))
  ]

module _ (ws os : List ℕ) (p : Places) (H : Holds ws p) where
  -- An order with a cause of 1 or 2 is answered by it.
  refused-order : (f : Book → Tree → Outcome) (n : ℕ) → n ≡ cause_of os → (n ≡ done → ⊥) → leave ws n ≡ on_order ws os f
  refused-order f n e h = sym (by_cause ws os (book_in ws) (held_book ws p H) n (subst (Cause os) (sym e) (cause_is os)) h f)

  -- So teaching answers.
  pub teach-refused : (n : ℕ) → n ≡ cause_of os → (n ≡ done → ⊥) → leave ws n ≡ teach_of ws os
  unfolding teach_of
  teach-refused = refused-order (teach_tree ws)

  -- So withdrawing answers.
  pub withdraw-refused : (n : ℕ) → n ≡ cause_of os → (n ≡ done → ⊥) → leave ws n ≡ withdraw_of ws os
  unfolding withdraw_of
  withdraw-refused = refused-order (withdraw_tree ws)

-- ---- a book in form and an order within the limits

module _ (ws os : List ℕ) (p : Places) (H : Holds ws p) (e : cause_of os ≡ done) where
  -- The order's tree.
  abbrev tree : Tree
  tree = (has-tree os e).tree

  -- Its own book, at the book's k.
  abbrev own_book_lem : Book
  own_book_lem = own_book (book_in ws).k 1 tree

  -- The order's words are within the limits.
  limits : Fits 0 greatest_depth (words tree)
  limits = passed-fits os tree (has-tree os e).passes

  -- A call goes by the book and the tree.
  by_tree : (f : Book → Tree → Outcome) → on_order ws os f ≡ f (book_in ws) tree
  unfolding by_order
  by_tree f = by_order_lem ws os (book_in ws) (held_book ws p H) f ∙ rw (has-tree os e).passes.is

  -- What the order's words list is its own book.
  own_listed : own_of p.k.k 1 os ≡ own_book_lem
  unfolding own_of by_order
  own_listed = rw ((has-tree os e).passes.is, H.depth)

  -- It is in form.
  own_formed : in_form (own_of p.k.k 1 os) ≡ true
  own_formed = ap in_form own_listed ∙ beside_form tree (book_in ws) H.form limits

  -- Where one more live teaching has no room teaching answers 7.
  pub teach-full : get_or ws 2 0 ≡ greatest_count → leave ws too_many ≡ teach_of ws os
  unfolding teach_of teach_tree when◌then◌else◌
  teach-full h =
      let w : within_counts (taught 1 tree (book_in ws)) ≡ false = lives_pass tree (book_in ws) H.form (omega (arith, lives ws p H)) in
      sym (by_tree (teach_tree ws) ∙ rw w)

  -- The order's own book stands in a slice.
  module _ (own : List ℕ) (owns : Places) (came : owns ≡ places_of (own_of p.k.k 1 os)) (wrote : own ≡ lay own_words (own_of p.k.k 1 os)) where
    -- The slice holds it.
    pub own_holds : Holds own owns
    own_holds = rw (came, wrote) (laid-holds own_words (own_of p.k.k 1 os) own_formed (own_short os e p.k.k 1 (omega arith) (allowed ws p H).0 (allowed ws p H).1) (omega arith))

    -- It is read there.
    own_read : book_in own ≡ own_book_lem
    own_read = ap book_in wrote ∙ laid-read own_words (own_of p.k.k 1 os) own_formed ∙ own_listed

    -- ---- teaching
    module _ (w : BookWeighed) (weighs : w ≡ weighed_book (book_in own) (book_in ws)) where
      -- It was weighed against the book.
      weighed : w ≡ weighed_book own_book_lem (book_in ws)
      weighed = weighs ∙ ap (λ (o : Book). weighed_book o (book_in ws)) own_read

      -- Whether a count would pass.
      passing : w.overfull ≡ overfull_any own_book_lem (book_in ws)
      passing = ap (λ (x : BookWeighed). x.overfull) weighed

      -- How many words are lacking.
      lacks : w.lacking ≡ lacking_all own_book_lem (book_in ws)
      lacks = ap (λ (x : BookWeighed). x.lacking) weighed

      -- The words used once the order is taught.
      used-then : used (taught 1 tree (book_in ws)) ≡ p.used + w.lacking
      used-then = omega (arith, uses ws p H, lacks, used-taught tree (book_in ws) (form-sorted (book_in ws) H.form))

      -- Where a count would pass teaching answers 7.
      pub teach-overfull : w.overfull ≡ true → leave ws too_many ≡ teach_of ws os
      unfolding teach_of teach_tree when◌then◌else◌
      teach-overfull h =
          let c : within_counts (taught 1 tree (book_in ws)) ≡ false = count-passes tree (book_in ws) H.form (sym passing ∙ h) in
          sym (by_tree (teach_tree ws) ∙ rw c)

      module _ (free : get_or ws 2 0 ≡ greatest_count → ⊥) (fits : w.overfull ≡ false) where
        -- The counts stay within 65,535.
        within : within_counts (taught 1 tree (book_in ws)) ≡ true
        within = within-taught tree (book_in ws) H.form (one_more ws p H free) (sym passing ∙ fits)

        -- Where more words are lacking than there is room for teaching answers 6.
        pub teach-crowded : length ws - p.used < w.lacking → leave ws no_room ≡ teach_of ws os
        unfolding teach_of teach_tree when◌then◌else◌
        teach-crowded h =
            let r = lt-leb (used (taught 1 tree (book_in ws))) (length ws) (omega (arith, used-then, used-room ws p H)) in
            sym (by_tree (teach_tree ws) ∙ rw (within, r))

        module _ (room : w.lacking ≤ length ws - p.used) where
          -- The result has room.
          taught-room : used (taught 1 tree (book_in ws)) ≤ length ws
          taught-room = omega (arith, used-then, used-room ws p H)

          -- The own book can be added.
          pub teach-ready : ReadyAll (length ws) Teach (book_in own) (book_in ws)
          teach-ready = rw own_read (ready_teach (length ws) tree (book_in ws) H.form limits within taught-room)

          -- Once it is added teaching answers 0.
          pub teach-done : (now : List ℕ) → now ≡ lay (length ws) (changed_book Teach (book_in own) (book_in ws)) → outcome (answered done) now ≡ teach_of ws os
          unfolding teach_of teach_tree when◌then◌else◌
          teach-done now h =
              let r = le-leb (used (taught 1 tree (book_in ws))) (length ws) taught-room in
              let is : changed_book Teach (book_in own) (book_in ws) ≡ taught 1 tree (book_in ws) =
              ap (λ (o : Book). changed_book Teach o (book_in ws)) own_read ∙ sym (taught-changed tree (book_in ws) (form-sorted (book_in ws) H.form) 1 (omega arith)) in
              ap (outcome (answered done)) (h ∙ ap (lay (length ws)) is) ∙ sym (by_tree (teach_tree ws) ∙ rw (within, r))

    -- ---- withdrawing
    module _ (w : Weighed) (weighs : w ≡ weighed_in Taught (book_in own) (book_in ws)) where
      -- How many words of its section T are lacking.
      lacks_taught : w.lacking ≡ lacking_words own_book_lem.T (book_in ws).T
      unfolding section_of
      lacks_taught = ap (λ (x : Weighed). x.lacking) (weighs ∙ ap (λ (o : Book). weighed_in Taught o (book_in ws)) own_read)

      -- Where some are withdrawing answers 8.
      pub withdraw-untaught : 0 < w.lacking → leave ws not_taught ≡ withdraw_of ws os
      unfolding withdraw_of withdraw_tree when◌then◌else◌
      withdraw-untaught h =
          let a : has (words tree) (book_in ws).T ≡ false = has-no_own tree (book_in ws) (omega (arith, lacks_taught)) in
          sym (by_tree (withdraw_tree ws) ∙ rw a)

      module _ (whole : w.lacking ≤ 0) where
        -- The order has an entry.
        entered : has (words tree) (book_in ws).T ≡ true
        entered = has-own tree (book_in ws) (omega (arith, lacks_taught))

        -- The own book can be taken away.
        pub withdraw-ready : ReadyAll (length ws) Withdraw (book_in own) (book_in ws)
        withdraw-ready = rw own_read (ready_withdraw (length ws) tree (book_in ws) H.form limits entered (used-fits ws (book_in ws) H.laid))

        module _ (parts : ℕ) (lacking : parts ≡ lacking_parts (book_in own) (book_in ws)) where
          -- How many words of its other sections are lacking.
          lacks_parts : parts ≡ lacking_parts own_book_lem (book_in ws)
          lacks_parts = lacking ∙ ap (λ (o : Book). lacking_parts o (book_in ws)) own_read

          -- Where some are withdrawing answers 9.
          pub withdraw-disagrees : 0 < parts → leave ws not_agreeing ≡ withdraw_of ws os
          unfolding withdraw_of withdraw_tree when◌then◌else◌
          withdraw-disagrees h =
              let m : has_parts tree (book_in ws) ≡ false = has-no_own_parts tree (book_in ws) (omega (arith, lacks_parts)) in
              sym (by_tree (withdraw_tree ws) ∙ rw (entered, m))

          -- Where none are, withdrawing answers 0 once the own book is taken away.
          pub withdraw-done : parts ≤ 0 → (now : List ℕ) → now ≡ lay (length ws) (changed_book Withdraw (book_in own) (book_in ws)) → outcome (answered done) now ≡ withdraw_of ws os
          unfolding withdraw_of withdraw_tree when◌then◌else◌
          withdraw-done z now h =
              let m : has_parts tree (book_in ws) ≡ true = has-own_parts tree (book_in ws) (omega (arith, lacks_parts)) in
              let is : changed_book Withdraw (book_in own) (book_in ws) ≡ withdrawn tree (book_in ws) =
              ap (λ (o : Book). changed_book Withdraw o (book_in ws)) own_read ∙ sym (withdrawn-changed tree (book_in ws) (form-sorted (book_in ws) H.form)) in
              ap (outcome (answered done)) (h ∙ ap (lay (length ws)) is) ∙ sym (by_tree (withdraw_tree ws) ∙ rw (entered, m))
