-- 02, "Say what the book expected": comparing two parts, asking a section for a part, and what judging hands on, each said by the relations of
-- words/specs/Differences.antt and specs/Expected.antt, which name no test, and each exactly so. Assumes nothing.
use Prim.Native.Nat.{ℕ, ◌-◌, ◌≤◌}
use mathlib.Core.Path.{◌≡◌, refl, ap, sym, subst, ◌∙◌}
use mathlib.Core.Bool.{Bool, true, false}
use mathlib.Core.List.{List}
use native.Mathlib.Omega.{arith}
use lib.IntN.{ℤ, neg_ℤ}
use Rattle.book.specs.Decoding.{Refused}
use Rattle.words.specs.Base.{◌exactly_when◌}
use Rattle.words.specs.Compare.{compare_of, signed_of, side_of, size_of}
use Rattle.words.specs.Differences.{FirstDiffers, SignedPlace}
use Rattle.words.proofs.Differences.{signed_is, signed_only, signed_flip as flips, size-place as sizes}
use Rattle.words.proofs.Signs.{side_is}
use Rattle.figures.specs.Numbers.{top_unknown, low_unknown, middle_unknown}
use Rattle.section.specs.Entries.{Entry, has, look, Sorted}
use Rattle.section.specs.Near.{nowhere, near_of, near_in}
use Rattle.section.specs.declared.Neighbours.{Neighbours}
use Rattle.section.proofs.Counts.{has-entry}
use Rattle.section.proofs.Near.{near-is, near-there}
use Rattle.order.specs.Trees.{Tree, words}
use Rattle.order.specs.Parts.{top, middle}
use Rattle.order.proofs.Paper.{r_only, top-is_r}
use Rattle.book.proofs.Sound.{why-only}
use Rattle.book_judging.specs.Judging.{judge_of}
use Rattle.book_judging.specs.Expecting.{expected_of, judgement_of}
use Rattle.book_judging.specs.declared.Judgement.{Judgement}
use Rattle.book_judging.specs.Verdicts.{In, Judged, no_book, no_order, judged}
use Rattle.book_judging.proofs.Judgements.{none-by_cause, none-unheld}
use Rattle.book_judging.proofs.Answers.{judged-is, answered-top, answered-low, answered-middle}
use Rattle.promises.specs.Expected.{IsNear, Expected, of_top, of_low, of_middle, of_none}
use Rattle.promises.proofs.Laws.Nearness.{near_of_lem, near-once, tops-ascend, lows-ascend, middles-ascend, middle-is_r}
use Rattle.promises.proofs.Laws.Nearness.{none-handed, top-handed, low-handed, middle-handed, Reported, for_top, for_low, for_middle, for_none, reported}

-- ---- comparing two parts

-- "Comparing two parts gives a signed place: negative if the first part is lower, 0 if equal, positive if higher, its size the place counted from 1." By the
-- first place at which the words differ, and which has the lower word there.
pub signed_exactly : (x y : List ℕ) (z : ℤ) → SignedPlace x y z exactly_when (z ≡ signed_of x y)
signed_exactly x y z = (signed_only x y z, λ e. subst (SignedPlace x y) (sym e) (signed_is x y))

-- Exchanging the parts changes the sign alone.
pub signed_flip : (x y : List ℕ) → signed_of y x ≡ neg_ℤ (signed_of x y)
signed_flip = flips

-- "its size the place counted from 1": where it is not 0 the parts first differ there, and where it is 0 they are the same.
pub size-place : (x y : List ℕ) → (1 ≤ size_of (signed_of x y) → FirstDiffers x y (size_of (signed_of x y))) × (size_of (signed_of x y) ≡ 0 → x ≡ y)
size-place = sizes

-- "negative if the first part is lower, 0 if equal, positive if higher": the sign tells what comparing the two told before, "word by word from the first".
pub signed_sides : (x y : List ℕ) → side_of (signed_of x y) ≡ compare_of x y
signed_sides = side_is

-- ---- asking a section for a part

-- "how many entries stand below it, whether it is there, and for the last entry below and the first above the place of the first differing word, 0 where there
-- is no such entry, and 0 for both when the part is there": `near_of` says this of every ascending section, and nothing else is this.
pub near-exactly : (key : List ℕ) (es : List Entry) → Sorted es → (r : Neighbours) → IsNear key es r exactly_when (r ≡ near_of key es)
near-exactly key es s r = (λ i. near-once key es r (near_of key es) i (near_of_lem key es s), λ e. subst (IsNear key es) (sym e) (near_of_lem key es s))

-- 'The question "is this part in the section" must now say' this: a search says it by each of its answers.
pub found-exactly : (key : List ℕ) (at : ℕ) (es : List Entry) → Sorted es → (r : Neighbours) → IsNear key es r exactly_when (r ≡ near_in (look key at 0 0 es))
found-exactly key at es s r =
    let n = near-exactly key es s r in
    let e = near-is key at es s in
    (λ i. n.0 i ∙ sym e, λ f. n.1 (f ∙ e))

-- ---- what judging hands on

module _ (ws os : List ℕ) where
  -- "Two outcomes allowed by one promise are shown equal": `book_judge::judge`, with number, line and neighbours.
  pub one-judged : {r s : Judgement} → r ≡ judgement_of ws os → s ≡ judgement_of ws os → r ≡ s
  one-judged e f = e ∙ sym f

  -- "with any other answer it is all 0 and not there", for all words.
  pub expected-none : ((judge_of ws os).number ≡ top_unknown → ⊥) → ((judge_of ws os).number ≡ low_unknown → ⊥) → ((judge_of ws os).number ≡ middle_unknown → ⊥)
      → expected_of ws os ≡ nowhere
  expected-none x y z = go (judged-is ws os)
    where
      -- By the row that is answered.
      go : Judged ws os (judge_of ws os) → expected_of ws os ≡ nowhere
      go (no_book n e w) = none-unheld ws os n (why-only ws (Refused n) w)
      go (no_order b n e i c h) = none-by_cause ws os b i n c h
      go (judged b t i o v) = none-handed ws os (record { book = b; tree = t; is_book = i; is_order = o }) x y z

  -- "Judge hands this on for the reported line, and for the top with answer 20; with any other answer it is all 0 and not there": for all words, and by
  -- whichever book and order they are.
  pub expected-exactly : (r : Neighbours) → Expected ws os (judge_of ws os) r exactly_when (r ≡ expected_of ws os)
  expected-exactly r = (says, λ e. subst (Expected ws os (judge_of ws os)) (sym e) (handed (reported (judge_of ws os).number)))
    where
      -- What is so expected is handed on.
      says : Expected ws os (judge_of ws os) r → r ≡ expected_of ws os
      says (of_top e u f) =
          let l = u.lent in
          let x = l.is_book.sound in
          (near-exactly _ _ (tops-ascend l.book x) r).0 (f _ (top-is_r l.book.k l.tree x.least)) ∙ sym (top-handed ws os l e)
      says (of_low e u i) =
          let l = u.lent in
          (near-exactly _ _ (lows-ascend l.book l.is_book.sound) r).0 i ∙ sym (low-handed ws os l u.subtree e u.doubted.on)
      says (of_middle e u f) =
          let l = u.lent in
          let x = l.is_book.sound in
          let i = f _ (middle-is_r l.book x u.subtree) in
          (near-exactly _ _ (middles-ascend l.book x) r).0 i ∙ sym (middle-handed ws os l u.subtree e u.doubted.on)
      says (of_none x y z e) = e ∙ sym (expected-none x y z)

      -- What is handed on is so expected, by the number.
      handed : Reported (judge_of ws os).number → Expected ws os (judge_of ws os) (expected_of ws os)
      handed (for_top e) =
          let u = answered-top ws os e in
          let l = u.lent in
          let b = l.book in
          let x = l.is_book.sound in
          let i = (near-exactly _ _ (tops-ascend b x) (expected_of ws os)).1 (top-handed ws os l e) in
          let r = top-is_r b.k l.tree x.least in
          of_top e u (λ c q. subst (λ (a : Tree). IsNear (words a) b.R (expected_of ws os)) (r_only (b.k - 1) (omega (arith, x.least)) r q) i)
      handed (for_low e) =
          let u = answered-low ws os e in
          let l = u.lent in
          of_low e u ((near-exactly _ _ (lows-ascend l.book l.is_book.sound) (expected_of ws os)).1 (low-handed ws os l u.subtree e u.doubted.on))
      handed (for_middle e) =
          let u = answered-middle ws os e in
          let l = u.lent in
          let b = l.book in
          let x = l.is_book.sound in
          let i = (near-exactly _ _ (middles-ascend b x) (expected_of ws os)).1 (middle-handed ws os l u.subtree e u.doubted.on) in
          let r = middle-is_r b x u.subtree in
          of_middle e u (λ c q. subst (λ (a : Tree). IsNear (words a) b.P (expected_of ws os)) (r_only b.k (omega (arith, x.least)) r q) i)
      handed (for_none x y z) = of_none x y z (expected-none x y z)

  -- "When a line is unknown I want to see its neighbours in the book": what is handed on is always of a part that is not there.
  pub expected-absent : (expected_of ws os).there ≡ false
  expected-absent = go (reported (judge_of ws os).number)
    where
      -- What a section says of a tree that it lacks.
      lacks : (t : Tree) (es : List Entry) → (In es t → ⊥) → expected_of ws os ≡ near_of (words t) es → (expected_of ws os).there ≡ false
      lacks t es x e = ap (λ (r : Neighbours). r.there) e ∙ near-there (words t) es ∙ by (has (words t) es) refl
        where
          -- By whether an entry has its words.
          by : (y : Bool) → has (words t) es ≡ y → y ≡ false
          by true f = let i = has-entry (words t) es f in absurd (x (record { entry = i.0; there = i.1; spelt = i.2 }))
          by false f = refl

      -- By the number.
      go : Reported (judge_of ws os).number → (expected_of ws os).there ≡ false
      go (for_top e) =
          let u = answered-top ws os e in
          let l = u.lent in
          lacks (top l.book.k l.tree) l.book.R (u.unknown _ (top-is_r l.book.k l.tree l.is_book.sound.least)) (top-handed ws os l e)
      go (for_low e) =
          let u = answered-low ws os e in
          lacks u.subtree u.lent.book.L u.unknown (low-handed ws os u.lent u.subtree e u.doubted.on)
      go (for_middle e) =
          let u = answered-middle ws os e in
          let l = u.lent in
          let s = u.subtree in
          lacks (middle l.book.k s) l.book.P (u.unknown _ (middle-is_r l.book l.is_book.sound s)) (middle-handed ws os l s e u.doubted.on)
      go (for_none x y z) = ap (λ (r : Neighbours). r.there) (expected-none x y z)
