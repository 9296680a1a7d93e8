-- What is answered for a book in form, by the tests that the code makes in turn. Assumes nothing.
use Prim.Native.Nat.{ℕ, suc, ◌*◌}
use mathlib.Core.Path.{◌≡◌, ap, ap₂, sym, ◌∙◌}
use mathlib.Core.Bool.{Bool, true, false}
use mathlib.Core.List.{List}
use native.Mathlib.Omega.{arith}
use Rattle.words.specs.Base.{when◌then◌else◌}
use Rattle.figures.specs.Numbers.{done, top_unknown}
use Rattle.figures.specs.Answers.{answered}
use Rattle.figures.specs.declared.Answer.{Answer}
use Rattle.section.specs.Entries.{has}
use Rattle.section.specs.Near.{nowhere}
use Rattle.section.specs.declared.Neighbours.{Neighbours}
use Rattle.section.proofs.Near.{near-there}
use Rattle.order.specs.Trees.{Tree, words, subtrees}
use Rattle.order.specs.Reading.{found, order, by_found, by_order, order_of, cause_of}
use Rattle.order.specs.Causes.{Cause}
use Rattle.order.specs.Parts.{top}
use Rattle.order.specs.Standing.{tree_from}
use Rattle.order.proofs.Causes.{Passed, has-tree, cause_is, cause_refuses}
use Rattle.order.proofs.Lines.{place-within, line-spot, from_spot}
use Rattle.book.specs.Book.{Book}
use Rattle.book.specs.Decoding.{book_in, book_form_of, Refused}
use Rattle.book.specs.Holding.{Holds}
use Rattle.book.specs.Sound.{IsBook}
use Rattle.book.specs.declared.Places.{Places}
use Rattle.book.proofs.Sound.{held_book, on-any}
use Rattle.book.proofs.Holding.{refused-book}
use Rattle.book_judging.specs.Judging.{no_doubt, doubt, least_to_fix, verdict_on, verdict, judge_of}
use Rattle.book_judging.specs.Expecting.{near_top, expected_on, expected, expected_of, judgement_of}
use Rattle.book_judging.specs.Seeking.{top_near, doubt_line, line_to_fix, plainly_of, judged_on, judged_line}
use Rattle.book_judging.specs.declared.Judgement.{Judgement}
use Rattle.book_judging.proofs.Fixes.{LeastIs, none-least, is-least, least-is}

-- ---- the line to fix and its judgement

-- A judgement of an answer and neighbours.
abbrev judgement : Answer → Neighbours → Judgement
judgement a r = record { answer = a; near = r }

-- An order's tree, and a book.
module _ (b : Book) (os : List ℕ) (t : Tree) (p : Passed os t) where
  -- The line to fix is that of the tree's subtrees.
  line_is : line_to_fix b os ≡ doubt_line (least_to_fix b 1 (subtrees t))
  unfolding line_to_fix by_order
  line_is = rw p.is

  -- The judgement at a line, by the tree that stands there.
  judged-at : (j : ℕ) (s : Tree) → tree_from os (j * 2) ≡ found s → judged_on b t (doubt (suc j) s) ≡ judged_line b os (suc j)
  unfolding verdict_on expected_on judged_line by_found
  judged-at j s e = rw e

  -- The judgement where a line is to be fixed.
  on_line : (line_to_fix b os ≡ 0 → ⊥) → judged_on b t (least_to_fix b 1 (subtrees t)) ≡ judged_line b os (line_to_fix b os)
  unfolding doubt_line
  on_line h = go (least-is b 0 (subtrees t))
    where
      -- By the least line to fix.
      go : LeastIs b 0 (subtrees t) (least_to_fix b 1 (subtrees t)) → judged_on b t (least_to_fix b 1 (subtrees t)) ≡ judged_line b os (line_to_fix b os)
      go (none-least e f) = absurd (h (line_is ∙ ap doubt_line e))
      go (is-least j s e at n f) =
          let d : least_to_fix b 1 (subtrees t) ≡ doubt (suc j) s = e ∙ ap (λ (m : ℕ). doubt m s) (omega arith) in
          let q = line-spot os t j p (place-within (subtrees t) j s at) in
          ap (judged_on b t) d ∙ judged-at j s (from_spot os (j * 2) _ q ∙ sym q.is ∙ at) ∙ ap (judged_line b os) (sym (line_is ∙ ap doubt_line d))

  -- The neighbours of the top are those of the tree's.
  top-is : top_near b os ≡ near_top b t
  unfolding top_near by_order
  top-is = rw p.is

  -- The judgement where no line is to be fixed, by whether the top is there.
  on-top : line_to_fix b os ≡ 0 → (x : Bool) → (top_near b os).there ≡ x
      → judged_on b t (least_to_fix b 1 (subtrees t)) ≡ (when x then plainly_of done else record { answer = record { number = top_unknown; line = 1 }; near = top_near b os })
  unfolding verdict_on expected_on doubt_line near_top when◌then◌else◌
  on-top h x there = go (least-is b 0 (subtrees t))
    where
      -- Whether R has it.
      known : has (words (top b.k t)) b.R ≡ x
      known = sym (near-there (words (top b.k t)) b.R) ∙ ap (λ (r : Neighbours). r.there) (sym top-is) ∙ there

      -- By that.
      by_top : (y : Bool) → has (words (top b.k t)) b.R ≡ y → judged_on b t no_doubt ≡ (when y then plainly_of done else record { answer = record { number = top_unknown; line = 1 }; near = near_top b t })
      by_top true e = rw e
      by_top false e = rw e

      -- By the least line to fix.
      go : LeastIs b 0 (subtrees t) (least_to_fix b 1 (subtrees t))
          → judged_on b t (least_to_fix b 1 (subtrees t)) ≡ (when x then plainly_of done else record { answer = record { number = top_unknown; line = 1 }; near = top_near b os })
      go (none-least e f) = rw top-is (ap (judged_on b t) e ∙ by_top x known)
      go (is-least j s e at n f) = absurd (omega (arith, h, line_is ∙ ap doubt_line e))

-- ---- a book in form

module _ (ws os : List ℕ) (b : Book) (i : IsBook ws b) where
  -- The book judges.
  by_book_lem : judge_of ws os ≡ by_order (order_of os) answered (verdict b)
  unfolding judge_of
  by_book_lem = on-any ws b i answered (λ c. by_order (order_of os) answered (verdict c))

  -- It hands on what it expects.
  by_expected : expected_of ws os ≡ by_order (order_of os) (λ n. nowhere) (expected b)
  unfolding expected_of
  by_expected = on-any ws b i (λ n. nowhere) (λ c. by_order (order_of os) (λ n. nowhere) (expected c))

  -- An order with a cause of 1 or 2 is answered by it.
  pub by_cause : (n : ℕ) → Cause os n → (n ≡ done → ⊥) → judge_of ws os ≡ answered n
  by_cause n c x = by_book_lem ∙ cause_refuses os n c x answered (verdict b)

  -- Any other is answered by the verdict.
  pub by_verdict : (t : Tree) → order_of os ≡ order t → judge_of ws os ≡ verdict b t
  unfolding by_order
  by_verdict t e = by_book_lem ∙ rw e

  -- Nothing is expected of the one,
  pub none-by_cause : (n : ℕ) → Cause os n → (n ≡ done → ⊥) → expected_of ws os ≡ nowhere
  none-by_cause n c x = by_expected ∙ cause_refuses os n c x (λ m. nowhere) (expected b)

  -- and of the other what the book expects.
  pub expects : (t : Tree) → order_of os ≡ order t → expected_of ws os ≡ expected b t
  unfolding by_order
  expects t e = by_expected ∙ rw e

  -- The whole judgement on an order.
  pub judges : (t : Tree) → order_of os ≡ order t → judgement_of ws os ≡ judged_on b t (least_to_fix b 1 (subtrees t))
  unfolding verdict expected
  judges t e = ap₂ judgement (by_verdict t e) (expects t e)

module _ (ws os : List ℕ) (p : Places) (H : Holds ws p) where
  -- An order with a cause of 1 or 2 is answered by it alone.
  pub judge_refused : (cause_of os ≡ done → ⊥) → judgement_of ws os ≡ plainly_of (cause_of os)
  judge_refused n =
      let i = held_book ws p H in
      ap₂ judgement (by_cause ws os (book_in ws) i (cause_of os) (cause_is os) n) (none-by_cause ws os (book_in ws) i (cause_of os) (cause_is os) n)

  module _ (e : cause_of os ≡ done) where
    -- The judgement by the line that is doubted.
    judge_tree : let t = (has-tree os e).tree in judgement_of ws os ≡ judged_on (book_in ws) t (least_to_fix (book_in ws) 1 (subtrees t))
    judge_tree = let x = has-tree os e in judges ws os (book_in ws) (held_book ws p H) x.tree x.passes.is

    -- The line to fix, where there is one, is answered with its judgement.
    pub judge_line : (line_to_fix (book_in ws) os ≡ 0 → ⊥) → judgement_of ws os ≡ judged_line (book_in ws) os (line_to_fix (book_in ws) os)
    judge_line h = let x = has-tree os e in judge_tree ∙ on_line (book_in ws) os x.tree x.passes h

    -- 20 with line 1 and the top's neighbours where no line is unknown and the top is.
    pub judge_top : line_to_fix (book_in ws) os ≡ 0 → (top_near (book_in ws) os).there ≡ false
        → judgement_of ws os ≡ record { answer = record { number = top_unknown; line = 1 }; near = top_near (book_in ws) os }
    unfolding when◌then◌else◌
    judge_top h f = let x = has-tree os e in judge_tree ∙ on-top (book_in ws) os x.tree x.passes h false f

    -- 0 alone where the top is known too.
    pub judge_passes : line_to_fix (book_in ws) os ≡ 0 → (top_near (book_in ws) os).there ≡ true → judgement_of ws os ≡ plainly_of done
    unfolding when◌then◌else◌
    judge_passes h f = let x = has-tree os e in judge_tree ∙ on-top (book_in ws) os x.tree x.passes h true f

-- ---- any words

module _ (ws os : List ℕ) (n : ℕ) (e : book_form_of ws ≡ Refused n) where
  -- A slice that is no book in form is answered by 4 or 5.
  pub judge_unheld : judge_of ws os ≡ answered n
  unfolding judge_of
  judge_unheld = refused-book ws n e answered (λ b. by_order (order_of os) answered (verdict b))

  -- Nothing is expected then.
  pub none-unheld : expected_of ws os ≡ nowhere
  unfolding expected_of
  none-unheld = refused-book ws n e (λ m. nowhere) (λ b. by_order (order_of os) (λ m. nowhere) (expected b))

  -- So it is answered by that alone.
  pub judgement_unheld : judgement_of ws os ≡ plainly_of n
  judgement_unheld = ap₂ judgement judge_unheld none-unheld
