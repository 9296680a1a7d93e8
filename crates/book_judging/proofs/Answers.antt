-- Judging answers exactly by the rows of 01's table, for any words, and passes an order exactly when its r is in R, its l in L and its p in P, by
-- document 000. Assumes nothing.
use Prim.Native.Nat.{ℕ, ◌≤◌}
use mathlib.Core.Path.{◌≡◌, refl, ap, sym, subst, ◌∙◌}
use mathlib.Core.List.{List}
use native.Mathlib.Omega.{arith}
use Rattle.figures.specs.Numbers.{done, book_size, not_in_form, top_unknown, low_unknown, middle_unknown}
use Rattle.figures.specs.Answers.{answered}
use Rattle.figures.specs.declared.Answer.{Answer}
use Rattle.order.specs.Trees.{Tree}
use Rattle.order.specs.Reading.{cause_of}
use Rattle.order.proofs.Fitting.{passed-order, order-read}
use Rattle.order.proofs.Causes.{cause_small, cause_is, Seen, stopped, passed, seen}
use Rattle.book.specs.Book.{Book}
use Rattle.book.specs.Decoding.{book_form_of, Refused}
use Rattle.book.specs.Sound.{IsBook, WhyForm, shorter, longer, formless, book}
use Rattle.book.proofs.Sound.{refused-4_5, why-is, why-only}
use Rattle.book_judging.specs.Judging.{verdict, judge_of}
use Rattle.book_judging.specs.Verdicts.{Passes, Doubted, Lent, PassesBy, TopUnknown, LowUnknown, MiddleUnknown, Verdict, passing, no_top, no_low, no_middle, Judged, no_book, no_order, judged}
use Rattle.book_judging.proofs.Judgements.{by_cause, by_verdict, judge_unheld}
use Rattle.book_judging.proofs.Verdicts.{verdict-is, verdict-one}

-- The number that an answer has.
pub numbered : {a c : Answer} → a ≡ c → a.number ≡ c.number
numbered e = ap (λ (x : Answer). x.number) e

module _ (ws os : List ℕ) where
  -- Judging answers by a row of 01's table.
  pub judged-is : Judged ws os (judge_of ws os)
  judged-is = go (why-is ws)
    where
      ordered : (b : Book) → IsBook ws b → Seen os → Judged ws os (judge_of ws os)
      ordered b i (stopped h r) = no_order b (cause_of os) (by_cause ws os b i (cause_of os) (cause_is os) h) i (cause_is os) h
      ordered b i (passed t h p) =
          judged b t i (passed-order os t p) (subst (Verdict b t) (sym (by_verdict ws os b i t p.is)) (verdict-is b i.sound.least t))

      go : WhyForm ws (book_form_of ws) → Judged ws os (judge_of ws os)
      go (shorter r l) = no_book book_size (judge_unheld ws os book_size r) (shorter refl l)
      go (longer r l) = no_book book_size (judge_unheld ws os book_size r) (longer refl l)
      go (formless r l m n) = no_book not_in_form (judge_unheld ws os not_in_form r) (formless refl l m n)
      go (book b r i) = ordered b i (seen os)

  -- And by no other.
  pub judged-only : (a : Answer) → Judged ws os a → judge_of ws os ≡ a
  judged-only a (no_book n e w) = judge_unheld ws os n (why-only ws (Refused n) w) ∙ sym e
  judged-only a (no_order b n e i c x) = by_cause ws os b i n c x ∙ sym e
  judged-only a (judged b t i o v) =
      by_verdict ws os b i t (order-read os t o) ∙ verdict-one b i.sound.least t (verdict b t) a (verdict-is b i.sound.least t) v

  -- ---- passing

  -- Of the verdicts only passing is 0.
  verdict-0 : (b : Book) (t : Tree) (a : Answer) → Verdict b t a → a.number ≡ done → Passes b t
  verdict-0 b t a (passing e p) f = p
  verdict-0 b t a (no_top e g n) f = absurd (omega (arith, ap (λ (x : Answer). x.number) e))
  verdict-0 b t a (no_low l s e r d n) f = absurd (omega (arith, ap (λ (x : Answer). x.number) e))
  verdict-0 b t a (no_middle l s e r d n) f = absurd (omega (arith, ap (λ (x : Answer). x.number) e))

  -- The row of a verdict.
  row : {a : Answer} (l : Lent ws os) → Verdict l.book l.tree a → Judged ws os a
  row l v = judged l.book l.tree l.is_book l.is_order v

  -- What is answered by 0 passes,
  pub answered-passes : (judge_of ws os).number ≡ done → PassesBy ws os
  answered-passes e = go (judged-is)
    where
      go : Judged ws os (judge_of ws os) → PassesBy ws os
      go (no_book n f w) = absurd (omega (arith, ap (λ (x : Answer). x.number) f, (refused-4_5 ws n w).0))
      go (no_order b n f i c x) = absurd (x (sym (ap (λ (x : Answer). x.number) f) ∙ e))
      go (judged b t i o v) = record { lent = record { book = b; tree = t; is_book = i; is_order = o }; passes = verdict-0 b t _ v e }

  -- and what passes is answered by 0 with line 0.
  pub passes-answered : PassesBy ws os → judge_of ws os ≡ answered done
  passes-answered p = judged-only (answered done) (row p.lent (passing refl p.passes))

  -- ---- the verdicts 20, 21 and 22

  -- An answer of 20 or more is a verdict.
  verdict-row : top_unknown ≤ (judge_of ws os).number → (l : Lent ws os) × Verdict l.book l.tree (judge_of ws os)
  verdict-row h = go judged-is
    where
      go : Judged ws os (judge_of ws os) → (l : Lent ws os) × Verdict l.book l.tree (judge_of ws os)
      go (no_book n f w) = absurd (omega (arith, numbered f, (refused-4_5 ws n w).1))
      go (no_order b n f i c x) = absurd (omega (arith, numbered f, cause_small os n c))
      go (judged b t i o v) = (record { book = b; tree = t; is_book = i; is_order = o }, v)

  -- What is answered by 20 has an unknown top and no unknown line,
  pub answered-top : (judge_of ws os).number ≡ top_unknown → TopUnknown ws os (judge_of ws os).line
  answered-top e = let x = verdict-row (omega arith) in go x.0 x.1
    where
      go : (x : Lent ws os) → Verdict x.book x.tree (judge_of ws os) → TopUnknown ws os (judge_of ws os).line
      go x (passing f p) = absurd (omega (arith, numbered f))
      go x (no_top f g n) = record { lent = x; first = ap (λ (c : Answer). c.line) f; known = g; unknown = n }
      go x (no_low l s f r d n) = absurd (omega (arith, numbered f))
      go x (no_middle l s f r d n) = absurd (omega (arith, numbered f))

  -- and such an order is answered by 20 with line 1.
  pub top-answered : (line : ℕ) → TopUnknown ws os line → judge_of ws os ≡ record { number = top_unknown; line = line }
  top-answered line x = judged-only _ (row x.lent (no_top (ap (λ (l : ℕ). record { number = top_unknown; line = l }) x.first) x.known x.unknown))

  -- What is answered by 21 has the line to fix there, a low one,
  pub answered-low : (judge_of ws os).number ≡ low_unknown → LowUnknown ws os (judge_of ws os).line
  answered-low e = let x = verdict-row (omega arith) in go x.0 x.1
    where
      go : (x : Lent ws os) → Verdict x.book x.tree (judge_of ws os) → LowUnknown ws os (judge_of ws os).line
      go x (passing f p) = absurd (omega (arith, numbered f))
      go x (no_top f g n) = absurd (omega (arith, numbered f))
      go x (no_low l s f r d n) =
          let z : l ≡ (judge_of ws os).line = sym (ap (λ (c : Answer). c.line) f) in
          record { lent = x; subtree = s; doubted = subst (λ (m : ℕ). Doubted x.book x.tree m s) z r; low = d; unknown = n }
      go x (no_middle l s f r d n) = absurd (omega (arith, numbered f))

  -- and such an order is answered by 21 with that line.
  pub low-answered : (line : ℕ) → LowUnknown ws os line → judge_of ws os ≡ record { number = low_unknown; line = line }
  low-answered line x = judged-only _ (row x.lent (no_low line x.subtree refl x.doubted x.low x.unknown))

  -- What is answered by 22 has the line to fix there, a middle one,
  pub answered-middle : (judge_of ws os).number ≡ middle_unknown → MiddleUnknown ws os (judge_of ws os).line
  answered-middle e = let x = verdict-row (omega arith) in go x.0 x.1
    where
      go : (x : Lent ws os) → Verdict x.book x.tree (judge_of ws os) → MiddleUnknown ws os (judge_of ws os).line
      go x (passing f p) = absurd (omega (arith, numbered f))
      go x (no_top f g n) = absurd (omega (arith, numbered f))
      go x (no_low l s f r d n) = absurd (omega (arith, numbered f))
      go x (no_middle l s f r d n) =
          let z : l ≡ (judge_of ws os).line = sym (ap (λ (c : Answer). c.line) f) in
          record { lent = x; subtree = s; doubted = subst (λ (m : ℕ). Doubted x.book x.tree m s) z r; deep = d; unknown = n }

  -- and such an order is answered by 22 with that line.
  pub middle-answered : (line : ℕ) → MiddleUnknown ws os line → judge_of ws os ≡ record { number = middle_unknown; line = line }
  middle-answered line x = judged-only _ (row x.lent (no_middle line x.subtree refl x.doubted x.deep x.unknown))
