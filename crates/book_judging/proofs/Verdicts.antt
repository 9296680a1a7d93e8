-- What a book in form says of an order, by document 000: it passes exactly if its r is in R, its l in L and its p in P, and otherwise the
-- first of the rows of 01's table that holds is answered, with its line. Assumes nothing.
use Prim.Native.Nat.{ℕ, zero, suc, ◌-◌, ◌≤◌, ◌<◌}
use mathlib.Core.Path.{◌≡◌, refl, ap, sym, subst, ◌∙◌}
use mathlib.Core.Bool.{Bool, true, false}
use mathlib.Core.List.Memᴰ
use mathlib.Core.List.Memᴰ.{head as here}
use mathlib.Core.List.Memᴰ.{tail as there}
use mathlib.Core.List.{List, [], ◌∷◌}
use native.Mathlib.Decide.{dec_lt}
use native.Mathlib.Omega.{arith}
use borrow.Author.Tests.{leb-true, leb-false}
use lib.Dec.{leb}
use Rattle.words.specs.Base.{when◌then◌else◌, ◌and◌, ◌∈◌}
use Rattle.words.proofs.Tests.{no_test}
use Rattle.figures.specs.Limits.{least_k}
use Rattle.figures.specs.Numbers.{done, top_unknown, low_unknown, middle_unknown}
use Rattle.figures.specs.Answers.{answered}
use Rattle.figures.specs.declared.Answer.{Answer}
use Rattle.section.specs.Entries.{Entry, has}
use Rattle.section.proofs.Counts.{has-entry, entry_has}
use Rattle.order.specs.Trees.{Tree, words, depth, subtrees, below}
use Rattle.order.specs.Reading.{found}
use Rattle.order.specs.Parts.{top, is_low, middle}
use Rattle.order.specs.Answers.{tree_at, tree_of_line}
use Rattle.order.specs.Paper.{IsR, IsL, IsP}
use Rattle.order.proofs.Reading.{not_found}
use Rattle.order.proofs.Paper.{subtree-from, subtree-to, below-from, below-to, subtree-depth, cut-is_r, r_only, top-is_r}
use Rattle.order.proofs.LineParts.{line-in, in_line}
use Rattle.book.specs.Book.{Book}
use Rattle.book_judging.specs.Judging.{knows, knows_each, to_fix, no_doubt, doubt, least_to_fix, verdict_on, verdict}
use Rattle.book_judging.proofs.Fixes.{no_some, known-not, unknown-fix, some-tree, LeastIs, none-least, is-least, least-is}
use Rattle.book_judging.specs.Verdicts.{In, Passes, Known, AllKnown, ToFix, Doubted, Verdict, passing, no_top, no_low, no_middle}

-- ---- trees in a section

-- A section that has a tree's words has the tree.
has_in : (es : List Entry) (t : Tree) → has (words t) es ≡ true → In es t
has_in es t e = let x = has-entry (words t) es e in record { entry = x.0; there = x.1; spelt = x.2 }

-- And the other way round.
in_has : (es : List Entry) (t : Tree) → In es t → has (words t) es ≡ true
in_has es t i = entry_has (words t) i.there i.spelt

-- A section that lacks a tree's words lacks the tree.
has-not_in : (es : List Entry) (t : Tree) → has (words t) es ≡ false → In es t → ⊥
has-not_in es t e i = no_test (sym e ∙ in_has es t i)

-- Answers of one number at the same line.
same_line : (n l m : ℕ) → l ≡ m → ◌≡◌ {A = Answer} (record { number = n; line = l }) (record { number = n; line = m })
same_line n l m e = ap (λ (x : ℕ). record { number = n; line = x }) e

-- ---- the parts of a tree, for a k of at least 2
module _ (b : Book) (two : least_k ≤ b.k) where
  -- The top's words are in R exactly if the r of the tree is.
  top_in : (t : Tree) → has (words (top b.k t)) b.R ≡ true → (u : Tree) → IsR (b.k - 1) t u → In b.R u
  top_in t e u r = subst (In b.R) (r_only (b.k - 1) (omega arith) (top-is_r b.k t two) r) (has_in b.R (top b.k t) e)

  -- And if they are not, no r of the tree is.
  top-out : (t : Tree) → has (words (top b.k t)) b.R ≡ false → (u : Tree) → IsR (b.k - 1) t u → In b.R u → ⊥
  top-out t e u r i = has-not_in b.R (top b.k t) e (subst (In b.R) (r_only (b.k - 1) (omega arith) r (top-is_r b.k t two)) i)

  -- The cut of a subtree is its r of index k.
  middle-r : (s : Tree) → IsR b.k s (middle b.k s)
  unfolding middle
  middle-r s = cut-is_r s b.k (omega arith)

  -- What is known of a subtree's part, by its depth.
  data Told (s : Tree) (known : Bool) : Type 0 where
    -- A low one, by L.
    told-low : depth s ≤ b.k - 2 → has (words s) b.L ≡ known → is_low b.k s ≡ true → Told s known
    -- A deeper one, by P.
    told-middle : b.k - 1 ≤ depth s → has (words (middle b.k s)) b.P ≡ known → is_low b.k s ≡ false → Told s known

  -- `knows` goes by the depth of the uncut subtree.
  told : (s : Tree) → Told s (knows b s)
  unfolding knows is_low when◌then◌else◌
  told s = go (leb (depth s) (b.k - 2)) refl
    where
      go : (low : Bool) → leb (depth s) (b.k - 2) ≡ low → Told s (knows b s)
      go true e = told-low (leb-true _ _ e) (rw e) e
      go false e = told-middle (omega (arith, leb-false (depth s) (b.k - 2) e)) (rw e) e

  -- A part that the book knows is known.
  known : (s : Tree) → knows b s ≡ true → Known b s
  known s e = go (told s)
    where
      go : Told s (knows b s) → Known b s
      go (told-low d h l) = record { low = λ x. has_in b.L s (h ∙ e); middle = λ m u r. absurd (omega arith) }
      go (told-middle d h l) = record {
        low = λ x. absurd (omega arith);
        middle = λ m u r. subst (In b.P) (r_only b.k (omega arith) (middle-r s) r) (has_in b.P (middle b.k s) (h ∙ e));
      }

  -- And what is known is a part that the book knows.
  knows-known : (s : Tree) → Known b s → knows b s ≡ true
  knows-known s K = go (knows b s) refl (told s)
    where
      -- By whether the book knows it, and by the depth.
      go : (x : Bool) → knows b s ≡ x → Told s (knows b s) → knows b s ≡ true
      go true e t = e
      go false e (told-low d h l) = absurd (has-not_in b.L s (h ∙ e) (K.low d))
      go false e (told-middle d h l) = absurd (has-not_in b.P (middle b.k s) (h ∙ e) (K.middle d (middle b.k s) (middle-r s)))

  -- A part that the book does not know is not known.
  not_known : (s : Tree) → knows b s ≡ false → Known b s → ⊥
  not_known s e K = no_test (sym e ∙ knows-known s K)

  -- What is not known is a part that the book does not know.
  unknown-is : (s : Tree) → (Known b s → ⊥) → knows b s ≡ false
  unknown-is s n = go (knows b s) refl
    where
      -- By whether the book knows it.
      go : (x : Bool) → knows b s ≡ x → knows b s ≡ false
      go true e = absurd (n (known s e))
      go false e = e

  -- Where each part of some subtrees is known, that of every member is.
  each-known : (ss : List Tree) → knows_each b ss ≡ true → (u : Tree) → u ∈ ss → knows b u ≡ true
  unfolding knows_each ◌and◌
  each-known [] e u m = absurd (Memᴰ.not-nil m)
  each-known (s ∷ ss) e u m = go (knows b s) refl e m (λ h n. each-known ss h u n)
    where
      -- By whether the first is known, and by where the member is.
      go : (x : Bool) → knows b s ≡ x → (x and knows_each b ss) ≡ true → u ∈ s ∷ ss → (knows_each b ss ≡ true → u ∈ ss → knows b u ≡ true) → knows b u ≡ true
      go true k h (here q) later = ap (knows b) q ∙ k
      go true k h (there n) later = later h n
      go false k h n later = no_test h

  -- Where that of every member is, each is.
  known-each : (ss : List Tree) → ((u : Tree) → u ∈ ss → knows b u ≡ true) → knows_each b ss ≡ true
  unfolding knows_each ◌and◌
  known-each [] f = refl
  known-each (s ∷ ss) f = rw (f s (here refl)) (known-each ss (λ u m. f u (there m)))

  -- `to_fix` tells a line to fix.
  fix_is : (s : Tree) → to_fix b s ≡ true → ToFix b s
  fix_is s e = go (knows b s) refl
    where
      -- By whether the book knows it.
      go : (x : Bool) → knows b s ≡ x → ToFix b s
      go true k = no_test (sym (known-not b s k) ∙ e)
      go false k = record { unknown = not_known s k; under = λ u m. known u (each-known (below s) (sym (unknown-fix b s k) ∙ e) u (below-to m)) }

  -- And one that is none.
  fix-not : (s : Tree) → to_fix b s ≡ false → ToFix b s → ⊥
  fix-not s e F =
      let k : knows b s ≡ false = unknown-is s F.unknown in
      no_test (sym e ∙ unknown-fix b s k ∙ known-each (below s) (λ u m. knows-known u (F.under u (below-from s m))))

  -- ---- the verdict

  module _ (t : Tree) where
    -- If every line's part is known, the order's l are in L.
    lows-in : ((line : ℕ) (s : Tree) → tree_of_line line (subtrees t) ≡ found s → Known b s) → (u : Tree) → IsL (b.k - 1) t u → In b.L u
    lows-in f u l = let x = in_line (subtree-to l.subtree) in (f x.0 u x.1.is).low (omega (arith, l.shallow))

    -- And its p are in P.
    middles-in : ((line : ℕ) (s : Tree) → tree_of_line line (subtrees t) ≡ found s → Known b s) → (u : Tree) → IsP b.k t u → In b.P u
    middles-in f u p = let x = in_line (subtree-to p.subtree) in (f x.0 p.uncut x.1.is).middle p.deep u p.is

    -- A passing order has a known part on every line.
    pub lines-known : Passes b t → (line : ℕ) (s : Tree) → tree_of_line line (subtrees t) ≡ found s → Known b s
    lines-known p line s e =
        let m = subtree-from t (line-in t s line (record { is = e })) in
        record {
          low = λ d. p.lows s (record { subtree = m; shallow = omega arith });
          middle = λ d u r. p.middles u (record { some_middle = omega (arith, subtree-depth m); uncut = s; subtree = m; deep = d; is = r });
        }

    -- Where no line is to be fixed, each part is known.
    none-all : least_to_fix b 1 (subtrees t) ≡ no_doubt → AllKnown b t
    none-all e line s on = known s (each-known (subtrees t) (go (knows_each b (subtrees t)) refl) s (line-in t s line (record { is = on })))
      where
        -- By whether all are known.
        go : (x : Bool) → knows_each b (subtrees t) ≡ x → knows_each b (subtrees t) ≡ true
        go true h = h
        go false h = absurd (no_some (some-tree b t 1 h) e)

    -- The least line to fix is the doubted one.
    doubted-at : (j : ℕ) (s : Tree) → tree_at (subtrees t) j ≡ found s → to_fix b s ≡ true → ((m : ℕ) (u : Tree) → m < j → tree_at (subtrees t) m ≡ found u → to_fix b u ≡ false) → Doubted b t (suc j) s
    unfolding tree_of_line
    doubted-at j s at e f = record { on = at; fix = fix_is s e; earlier = before }
      where
        -- No line before it is one to fix.
        before : (l : ℕ) (u : Tree) → l < suc j → tree_of_line l (subtrees t) ≡ found u → ToFix b u → ⊥
        before zero u h q = not_found q
        before (suc m) u h q = fix-not u (f m u (omega arith) q)

    -- The verdict is given by a row.
    pub verdict-is : Verdict b t (verdict b t)
    unfolding verdict verdict_on when◌then◌else◌
    verdict-is = go (least-is b 0 (subtrees t))
      where
        -- Where every line is known, by the top.
        tops : AllKnown b t → (x : Bool) → has (words (top b.k t)) b.R ≡ x → Verdict b t (when x then answered done else record { number = top_unknown; line = 1 })
        tops all true e = passing refl (record { top = top_in t e; lows = lows-in all; middles = middles-in all })
        tops all false e = no_top refl all (top-out t e)

        -- At the doubted line, by its depth.
        at : (line : ℕ) (s : Tree) → Doubted b t line s → Told s false → Verdict b t (record { number = when is_low b.k s then low_unknown else middle_unknown; line = line })
        at line s D (told-low d h l) = no_low line s (rw l) D d (has-not_in b.L s h)
        at line s D (told-middle d h l) = no_middle line s (rw l) D d (λ u q i. has-not_in b.P (middle b.k s) h (subst (In b.P) (r_only b.k (omega arith) q (middle-r s)) i))

        -- By the least line to fix.
        go : LeastIs b 0 (subtrees t) (least_to_fix b 1 (subtrees t)) → Verdict b t (verdict_on b t (least_to_fix b 1 (subtrees t)))
        go (none-least e f) = rw e (tops (none-all e) (has (words (top b.k t)) b.R) refl)
        go (is-least j s e q n f) =
            let d : least_to_fix b 1 (subtrees t) ≡ doubt (suc j) s = e ∙ ap (λ (m : ℕ). doubt m s) (omega arith) in
            let D = doubted-at j s q n f in
            rw d (at (suc j) s D (subst (Told s) (unknown-is s D.fix.unknown) (told s)))

    -- ---- one verdict

    -- An order with a line to fix does not pass, nor is every line of it known.
    doubted-out : (line : ℕ) (s : Tree) → AllKnown b t → Doubted b t line s → ⊥
    doubted-out line s f D = D.fix.unknown (f line s D.on)

    -- A top that is known is not unknown.
    top-known : ((u : Tree) → IsR (b.k - 1) t u → In b.R u) → ((u : Tree) → IsR (b.k - 1) t u → In b.R u → ⊥) → ⊥
    top-known f n = let r = top-is_r b.k t two in n (top b.k t) r (f (top b.k t) r)

    -- Two doubted lines are one line.
    one_line : (l m : ℕ) (s u : Tree) → Doubted b t l s → Doubted b t m u → (l ≡ m) × (s ≡ u)
    one_line l m s u p q =
        elim (dec_lt l m) [
          | yes h ↦ absurd (q.earlier l s h p.on p.fix)
          | no h ↦ elim (dec_lt m l) [ yes g ↦ absurd (p.earlier m u g q.on q.fix) | no g ↦ same (omega arith) ]
        ]
      where
        same : l ≡ m → (l ≡ m) × (s ≡ u)
        same e = let f : found s ≡ found u = sym p.on ∙ ap (λ (i : ℕ). tree_of_line i (subtrees t)) e ∙ q.on in (e, cc)

    -- Only one answer is given by a row.
    pub verdict-one : (a c : Answer) → Verdict b t a → Verdict b t c → a ≡ c
    verdict-one a c (passing e p) (passing f q) = e ∙ sym f
    verdict-one a c (passing e p) (no_top f g q) = absurd (top-known p.top q)
    verdict-one a c (passing e p) (no_low l s f r d n) = absurd (doubted-out l s (lines-known p) r)
    verdict-one a c (passing e p) (no_middle l s f r d n) = absurd (doubted-out l s (lines-known p) r)
    verdict-one a c (no_top e g p) (passing f q) = absurd (top-known q.top p)
    verdict-one a c (no_top e g p) (no_top f h q) = e ∙ sym f
    verdict-one a c (no_top e g p) (no_low l s f r d n) = absurd (doubted-out l s g r)
    verdict-one a c (no_top e g p) (no_middle l s f r d n) = absurd (doubted-out l s g r)
    verdict-one a c (no_low l s e r d n) (passing f q) = absurd (doubted-out l s (lines-known q) r)
    verdict-one a c (no_low l s e r d n) (no_top f g q) = absurd (doubted-out l s g r)
    verdict-one a c (no_low l s e r d n) (no_low m u f q g o) = e ∙ same_line _ l m (one_line l m s u r q).0 ∙ sym f
    verdict-one a c (no_low l s e r d n) (no_middle m u f q g o) =
        let z : s ≡ u = (one_line l m s u r q).1 in
        absurd (omega (arith, ap depth z))
    verdict-one a c (no_middle l s e r d n) (passing f q) = absurd (doubted-out l s (lines-known q) r)
    verdict-one a c (no_middle l s e r d n) (no_top f g q) = absurd (doubted-out l s g r)
    verdict-one a c (no_middle l s e r d n) (no_low m u f q g o) =
        let z : s ≡ u = (one_line l m s u r q).1 in
        absurd (omega (arith, ap depth z))
    verdict-one a c (no_middle l s e r d n) (no_middle m u f q g o) = e ∙ same_line _ l m (one_line l m s u r q).0 ∙ sym f
