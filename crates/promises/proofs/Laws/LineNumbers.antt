-- The line of an answer, for all inputs: it is 0 for an order and its parts, for a judgement unless its verdict names a line, which is then one of the
-- order's form and, with 21 or 22, the one wanted, and for a text unless a line of it is at fault. That of the other calls, always 0, stands with
-- the laws of each (`open_line`, `check_line`, `print_line`, `filed-line`, `restored_line`). Assumes nothing.
use Prim.Native.Nat.{ℕ, zero, suc, ◌-◌, ◌≤◌, ◌<◌}
use mathlib.Core.Path.{◌≡◌, refl, sym, ap, subst, ◌∙◌}
use mathlib.Core.List.{List}
use native.Mathlib.Decide.{dec_lt}
use native.Mathlib.Omega.{arith}
use lib.ListN.{length}
use Rattle.words.specs.Base.{◌exactly_when◌}
use Rattle.words.proofs.Tests.{never}
use Rattle.figures.specs.Numbers.{done, too_large, no_form, top_unknown, low_unknown, middle_unknown}
use Rattle.figures.specs.declared.Answer.{Answer}
use Rattle.order.specs.Trees.{Tree, node, depth, subtrees}
use Rattle.order.specs.Reading.{found}
use Rattle.order.specs.Fits.{IsOrder}
use Rattle.order.specs.Answers.{check_of, tree_at, tree_of_line, Writing, cut_into_of, PartWriting, part_into_of}
use Rattle.order.specs.Paper.{IsR}
use Rattle.order.proofs.Fitting.{order-read}
use Rattle.order.proofs.Paper.{r_only}
use Rattle.order.proofs.Lines.{place-within}
use Rattle.form.specs.Text.{Line, text_of}
use Rattle.form.specs.Reading.{read_of}
use Rattle.form.specs.Faults.{Why, past, misspelt, no_option, not_allowed, too_deep, ninth_child}
use Rattle.book.specs.Book.{Book}
use Rattle.book.specs.Sound.{IsBook}
use Rattle.book_judging.specs.Judging.{judge_of}
use Rattle.book_judging.specs.Verdicts.{In, Known, ToFix, Doubted, Lent, Verdict, passing, no_top, no_low, no_middle, Judged, no_book, no_order, judged}
use Rattle.book_judging.proofs.Answers.{judged-is, top-answered, low-answered, middle-answered}
use Rattle.book_judging.proofs.Judgements.{by_verdict}
use Rattle.book_judging.proofs.Verdicts.{lines-known, verdict-is}
use Rattle.promises.specs.Forms.{LineOfText, ComesBack, PartKnown, NoLineUnknown, CanBeFixed, LineWanted, Told}
use Rattle.promises.specs.Whys.{WhyNumbered, numbered, WhyCut, cut_no_order, cut_lacks, cut_short, cut_written}
use Rattle.promises.specs.Whys.{WhyPart, part_no_order, part_lacks, low_short, low_written, middle_short, middle_written}
use Rattle.promises.specs.Whys.{WhyRead, no_bytes, at_fault, read_short, read}
use Rattle.promises.proofs.Laws.FormLines.{line-of_subtree}
use Rattle.promises.proofs.Laws.Whys.{read-why}
use Rattle.promises.proofs.Laws.Refusals.{writing-number}
use Rattle.promises.proofs.Laws.PartWhys.{numbered-why, cut-why, part-why}

-- ---- lines of equal answers

-- The line of an answer that is known.
line_of : {a b : Answer} → a ≡ b → a.line ≡ b.line
line_of e = ap (λ (a : Answer). a.line) e

-- The line of a writing that is known.
writing-line : {v w : Writing} → v ≡ w → v.answer.line ≡ w.answer.line
writing-line e = ap (λ (w : Writing). w.answer.line) e

-- The line of a part's writing that is known.
part-line_of : {v w : PartWriting} → v ≡ w → v.answer.written.line ≡ w.answer.written.line
part-line_of e = ap (λ (w : PartWriting). w.answer.written.line) e

-- ---- orders and their parts

-- Numbering an order: line 0.
pub check_line : (os : List ℕ) → (check_of os).line ≡ 0
check_line os = go (numbered-why os)
  where
    -- By the cause that it has.
    go : WhyNumbered os (check_of os) → (check_of os).line ≡ 0
    go (numbered n e c) = line_of e

-- Writing a cut: line 0.
pub cut_line : (os out : List ℕ) (line d : ℕ) → (cut_into_of os line d out).answer.line ≡ 0
cut_line os out line d = go (cut-why os out line d)
  where
    -- By the row of cutting.
    go : WhyCut os out line d (cut_into_of os line d out) → (cut_into_of os line d out).answer.line ≡ 0
    go (cut_no_order n e c x) = writing-line e
    go (cut_lacks t e q l) = writing-line e
    go (cut_short t s e q f l) = writing-line e
    go (cut_written t s e q f l) = writing-line e

-- Writing a part: line 0.
pub part-line : (os out : List ℕ) (line k : ℕ) → (part_into_of os line k out).answer.written.line ≡ 0
part-line os out line k = go (part-why os out line k)
  where
    -- By the row of the part.
    go : WhyPart os out line k (part_into_of os line k out) → (part_into_of os line k out).answer.written.line ≡ 0
    go (part_no_order n e c x) = part-line_of e
    go (part_lacks t e q l) = part-line_of e
    go (low_short t s e q f h l) = part-line_of e
    go (low_written t s e q f h l) = part-line_of e
    go (middle_short t s e q f h l) = part-line_of e
    go (middle_written t s e q f h l) = part-line_of e

-- ---- verdicts

-- Judging: line 0, where the number is below 20.
pub judge_line : (ws os : List ℕ) → (judge_of ws os).number < top_unknown → (judge_of ws os).line ≡ 0
judge_line ws os low = go (judged-is ws os)
  where
    -- A number of 20 or more is no such answer.
    none : {n line : ℕ} → judge_of ws os ≡ record { number = n; line = line } → top_unknown ≤ n → (judge_of ws os).line ≡ 0
    none e h = absurd (omega (arith, low, h, ap (λ (a : Answer). a.number) e))

    -- By the row of judging.
    go : Judged ws os (judge_of ws os) → (judge_of ws os).line ≡ 0
    go (no_book n e w) = line_of e
    go (no_order b n e i c x) = line_of e
    go (judged b t i q (passing e p)) = line_of e
    go (judged b t i q (no_top e g u)) = none e (omega arith)
    go (judged b t i q (no_low line s e r l u)) = none e (omega arith)
    go (judged b t i q (no_middle line s e r l u)) = none e (omega arith)

-- The subtree of line 1 is the whole tree.
first-subtree : (t : Tree) → tree_of_line 1 (subtrees t) ≡ found t
unfolding tree_of_line tree_at subtrees
first-subtree (node c f) = refl

-- A line that has a subtree is one of the order's.
line-within : (t : Tree) (line : ℕ) (s : Tree) → tree_of_line line (subtrees t) ≡ found s → (1 ≤ line) × (line ≤ length (subtrees t))
unfolding tree_of_line
line-within t zero s q = never cc
line-within t (suc i) s q = (omega arith, place-within (subtrees t) i s q)

-- ---- which line is told

-- What is known by the rows of judging is known,
part-known : {b : Book} {s : Tree} → Known b s → PartKnown b s
part-known p = record { low = p.low; middle = p.middle }

-- and the other way round.
known-part : {b : Book} {s : Tree} → PartKnown b s → Known b s
known-part p = record { low = p.low; middle = p.middle }

-- A book in form and an order within limits.
module _ (ws os : List ℕ) (b : Book) (t : Tree) (is : IsBook ws b) (o : IsOrder os t) where
  -- Both are lent.
  abbrev lent : Lent ws os
  lent = record { book = b; tree = t; is_book = is; is_order = o }

  -- The row by which they are judged.
  verdict-row : Verdict b t (judge_of ws os)
  verdict-row = subst (Verdict b t) (sym (by_verdict ws os b is t (order-read os t o))) (verdict-is b is.sound.least t)

  -- A line that can be fixed is one to fix by the rows of judging.
  to_fix_lem : {line : ℕ} (c : CanBeFixed b t line) → ToFix b c.subtree
  to_fix_lem c = record { unknown = λ p. c.unknown (part-known p); under = λ u m. known-part (c.below_known u m) }

  -- The least of them is the one that is doubted,
  doubted : {line : ℕ} (c : CanBeFixed b t line) → ((j : ℕ) → j < line → CanBeFixed b t j → ⊥) → Doubted b t line c.subtree
  doubted c least = record { on = c.on; fix = to_fix_lem c; earlier = λ j u h q f. least j h (record { subtree = u; on = q; unknown = λ p. f.unknown (known-part p); below_known = λ v m. part-known (f.under v m) }) }

  -- and the one that is doubted can be fixed,
  abbrev can_fix : (line : ℕ) (s : Tree) → Doubted b t line s → CanBeFixed b t line
  can_fix line s D = record { subtree = s; on = D.on; unknown = λ p. D.fix.unknown (known-part p); below_known = λ u m. part-known (D.fix.under u m) }

  -- and is the least of them.
  least-fix : (line : ℕ) (s : Tree) → Doubted b t line s → (j : ℕ) → j < line → CanBeFixed b t j → ⊥
  least-fix line s D j h c = D.earlier j c.subtree h c.on (to_fix_lem c)

  -- What is told of the order.
  pub told : Told b t (judge_of ws os)
  told = go (judge_of ws os) verdict-row
    where
      -- By the verdict.
      go : (a : Answer) → Verdict b t a → Told b t a
      go a (passing e p) = rw e (record { wanted = λ h. absurd (omega arith); only_20 = λ h. absurd (omega arith); never_0 = λ n h. n p })
      go a (no_top e g x) = rw e (record { wanted = λ h. absurd (omega arith); only_20 = λ h. (refl, λ line s q. part-known (g line s q)); never_0 = λ n h. omega arith })
      go a (no_low line s e D l x) = rw e (record {
        wanted = λ h. record {
          this = can_fix line s D;
          least = least-fix line s D;
          low_is_21 = λ d. refl;
          deeper_is_22 = λ d. absurd (omega (arith, is.sound.least));
        };
        only_20 = λ h. absurd (omega arith);
        never_0 = λ n h. omega arith;
      })
      go a (no_middle line s e D l x) = rw e (record {
        wanted = λ h. record {
          this = can_fix line s D;
          least = least-fix line s D;
          low_is_21 = λ d. absurd (omega (arith, is.sound.least));
          deeper_is_22 = λ d. refl;
        };
        only_20 = λ h. absurd (omega arith);
        never_0 = λ n h. omega arith;
      })

  -- The line wanted is told, with its number.
  pub wanted-told : (a : Answer) → LineWanted b t a → judge_of ws os ≡ a
  wanted-told a w = elim (dec_lt (depth s) (b.k - 1)) [ yes h ↦ low (omega arith) | no h ↦ middle (omega arith) ]
    where
      -- The subtree of the line.
      s : Tree
      s = w.this.subtree

      -- It is doubted.
      D : Doubted b t a.line s
      D = doubted w.this w.least

      -- A low one is told with 21,
      low : depth s ≤ b.k - 2 → judge_of ws os ≡ a
      low d =
          low-answered ws os a.line (record {
            lent = lent;
            subtree = s;
            doubted = D;
            low = d;
            unknown = λ i. w.this.unknown (record { low = λ e. i; middle = λ e. absurd (omega (arith, is.sound.least)) });
          })
          ∙ ap (λ (n : ℕ). record { number = n; line = a.line }) (sym (w.low_is_21 d))

      -- and a deeper one with 22.
      middle : b.k - 1 ≤ depth s → judge_of ws os ≡ a
      middle d =
          middle-answered ws os a.line (record {
            lent = lent;
            subtree = s;
            doubted = D;
            deep = d;
            unknown = λ u r i. w.this.unknown (record {
              low = λ e. absurd (omega (arith, is.sound.least));
              middle = λ e v q. subst (In b.P) (r_only b.k (omega (arith, is.sound.least)) r q) i;
            });
          })
          ∙ ap (λ (n : ℕ). record { number = n; line = a.line }) (sym (w.deeper_is_22 d))

  -- An unknown line is told by 21 or 22, be it this line or another.
  pub unknown-told : (line : ℕ) (s : Tree) → tree_of_line line (subtrees t) ≡ found s → (PartKnown b s → ⊥) → low_unknown ≤ (judge_of ws os).number
  unknown-told line s q n = go (judge_of ws os) verdict-row
    where
      -- By the verdict.
      go : (a : Answer) → Verdict b t a → low_unknown ≤ a.number
      go a (passing e p) = absurd (n (part-known (lines-known b is.sound.least t p line s q)))
      go a (no_top e g x) = absurd (n (part-known (g line s q)))
      go a (no_low l u e D d x) = omega (arith, ap (λ (c : Answer). c.number) e)
      go a (no_middle l u e D d x) = omega (arith, ap (λ (c : Answer). c.number) e)

  -- 20 at line 1 is given exactly if no line is unknown and the top is.
  pub unknown-top : (judge_of ws os ≡ record { number = top_unknown; line = 1 }) exactly_when (NoLineUnknown b t × ((u : Tree) → IsR (b.k - 1) t u → In b.R u → ⊥))
  unknown-top = (
    λ e. go (judge_of ws os) verdict-row (ap (λ (a : Answer). a.number) e),
    λ n. top-answered ws os 1 (record { lent = lent; first = refl; known = λ line s q. known-part (n.0 line s q); unknown = n.1 }),
  )
    where
      -- By the verdict.
      go : (a : Answer) → Verdict b t a → a.number ≡ top_unknown → NoLineUnknown b t × ((u : Tree) → IsR (b.k - 1) t u → In b.R u → ⊥)
      go a (passing e p) h = absurd (omega (arith, ap (λ (c : Answer). c.number) e))
      go a (no_top e g x) h = (λ line s q. part-known (g line s q), x)
      go a (no_low l u e D d x) h = absurd (omega (arith, ap (λ (c : Answer). c.number) e))
      go a (no_middle l u e D d x) h = absurd (omega (arith, ap (λ (c : Answer). c.number) e))

-- An order within limits that does not pass by a book in form comes back with 20, 21 or 22 and a line of its form.
pub unpassed : (ws os : List ℕ) (b : Book) (t : Tree) → IsBook ws b → IsOrder os t → ((judge_of ws os).number ≡ done → ⊥) → ComesBack t (judge_of ws os)
unpassed ws os b t is o not = go (verdict-row ws os b t is o)
  where
    -- An answer with a number from 20 to 22 at a line whose subtree is known to be s comes back so.
    at-line : (s : Tree) {n line : ℕ} → judge_of ws os ≡ record { number = n; line = line } → top_unknown ≤ n → n ≤ middle_unknown
        → tree_of_line line (subtrees t) ≡ found s → ComesBack t (judge_of ws os)
    at-line s {n} {line} e low high q =
        let r = line-of_subtree t line s q in
        let l : (judge_of ws os).line ≡ line = line_of e in
        let m : (judge_of ws os).number ≡ n = ap (λ (a : Answer). a.number) e in
        let bounds = line-within t line s q in
        record {
          least = omega (arith, m, low);
          greatest = omega (arith, m, high);
          first = omega (arith, l, bounds.0);
          last = omega (arith, l, bounds.1);
          subtree = s;
          on = ap (λ (i : ℕ). tree_of_line i (subtrees t)) l ∙ q;
          read_aloud = r.0;
          stands = subst (λ (i : ℕ). LineOfText (text_of t) i r.0) (sym l) r.1;
          its_code = r.2;
        }

    -- By the verdict.
    go : Verdict b t (judge_of ws os) → ComesBack t (judge_of ws os)
    go (passing e p) = absurd (not (ap (λ (a : Answer). a.number) e))
    go (no_top e g x) = at-line t e (omega arith) (omega arith) (first-subtree t)
    go (no_low line s e r l x) = at-line s e (omega arith) (omega arith) r.on
    go (no_middle line s e r l x) = at-line s e (omega arith) (omega arith) r.on

-- ---- forms

-- A line at fault is refused by 2 or 10.
fault-number : {A : Type 0} (before : List Line) (rest : List ℕ) (n : ℕ) → Why before rest n → (n ≡ too_large → A) → (n ≡ no_form → A) → A
fault-number before rest n (past e l) two ten = two e
fault-number before rest n (misspelt e l s) two ten = ten e
fault-number before rest n (no_option e l x s z) two ten = ten e
fault-number before rest n (not_allowed e l x s o a) two ten = ten e
fault-number before rest n (too_deep e l x s o a d) two ten = two e
fault-number before rest n (ninth_child e l x s o a d c) two ten = ten e

-- Reading a form: line 0, where the number is neither 2 nor 10.
pub read-line : (text out : List ℕ) → ((read_of text out).answer.number ≡ too_large → ⊥) → ((read_of text out).answer.number ≡ no_form → ⊥)
    → (read_of text out).answer.line ≡ 0
read-line text out not-2 not-10 = go (read-why text out)
  where
    -- By the row of reading.
    go : WhyRead text out (read_of text out) → (read_of text out).answer.line ≡ 0
    go (no_bytes e z) = absurd (not-10 (writing-number e))
    go (at_fault n line e o f) = absurd (fault-number _ _ n f.why (λ i. not-2 (writing-number e ∙ i)) (λ i. not-10 (writing-number e ∙ i)))
    go (read_short t e x q h) = writing-line e
    go (read t e x q l) = writing-line e
