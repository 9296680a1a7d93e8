-- What passes by a book passes by one in which no tree counts less; so it does after a teaching and after a joining, whatever these answer. Assumes nothing.
use Prim.Native.Nat.{ℕ, ◌≤◌}
use mathlib.Core.Path.{◌≡◌, sym, ap, subst, ◌∙◌}
use mathlib.Core.List.{List}
use native.Mathlib.Decide.{dec_lt}
use native.Mathlib.Omega.{arith}
use Rattle.figures.specs.Numbers.{done}
use Rattle.section.specs.Entries.{Entry, count_of}
use Rattle.order.specs.Trees.{Tree, words}
use Rattle.order_learning.specs.Learning.{LetIn}
use Rattle.order_learning.proofs.Least.{widened}
use Rattle.book.specs.Book.{Book, section_of}
use Rattle.book.specs.Sound.{IsBook, SoundBook}
use Rattle.book.specs.Opening.{Outcome, leave}
use Rattle.book.specs.declared.Section.{Section}
use Rattle.book.specs.declared.Section.TheVariants.{Taught, Tops, Lows, Middles}
use Rattle.book.proofs.Sound.{sound-form}
use Rattle.book.proofs.Sections.{form-sorted}
use Rattle.book.proofs.Openings.{words_are, number_is}
use Rattle.book_judging.specs.Judging.{judge_of}
use Rattle.book_judging.specs.Verdicts.{In, Passes}
use Rattle.book_judging.proofs.Answers.{answered-passes}
use Rattle.book_teaching.specs.Calls.{teach_of}
use Rattle.book_teaching.specs.Whys.{WhyTaught, teach_no_book, teach_no_order, would_pass, needs_more, book_taught}
use Rattle.book_teaching.proofs.Whys.{teach-why}
use Rattle.book_joining.specs.Joining.{join_of}
use Rattle.promises.specs.Books.{OneMore, OneTeachingMore}
use Rattle.promises.specs.Whys.{WhyJoined, join_no_first, join_no_second, k_differs, first_disagrees, second_disagrees, lives_pass, sum_no_room, joins}
use Rattle.promises.proofs.Laws.Passing.{judged-exactly, in_counts, counted-in}
use Rattle.promises.proofs.Laws.Learning.{passes-let_in}
use Rattle.promises.proofs.Books.{teaching_raises}
use Rattle.promises.proofs.Laws.Joining.{joined-why, leaves-sum}

-- ---- counts that do not fall

-- A section in which each tree of a kind counts one more, and every other as many, counts no tree less.
one-more_least : (Kind : Tree → Type 0) (old new : List Entry) → OneMore Kind old new → (u : Tree) → count_of (words u) old ≤ count_of (words u) new
one-more_least Kind old new m u =
    elim (dec_lt (count_of (words u) new) (count_of (words u) old)) [
      | yes h ↦ absurd (omega (arith, (m u).1 (λ x. omega (arith, (m u).0 x))))
      | no h ↦ omega arith
    ]

-- No tree counts less in any section with one teaching more.
raised : (t : Tree) (b c : Book) → OneTeachingMore t b c → (s : Section) (u : Tree) → count_of (words u) (section_of s b) ≤ count_of (words u) (section_of s c)
unfolding section_of
raised t b c m Taught u = one-more_least _ b.T c.T m.taught u
raised t b c m Tops u = one-more_least _ b.R c.R m.tops u
raised t b c m Lows u = one-more_least _ b.L c.L m.lows u
raised t b c m Middles u = one-more_least _ b.P c.P m.middles u

-- A sound book of the same k in which no tree counts less in any section
module _ (b c : Book) (old : SoundBook b) (new : SoundBook c) (same : c.k ≡ b.k) (counts : (s : Section) (u : Tree) → count_of (words u) (section_of s b) ≤ count_of (words u) (section_of s c)) where
  -- has what the other has,
  still_in : (s : Section) (u : Tree) → In (section_of s b) u → In (section_of s c) u
  still_in s u i =
      counted-in (section_of s c) u (form-sorted c (sound-form c new) s)
      (omega (arith, in_counts (section_of s b) u (form-sorted b (sound-form b old) s) i, counts s u))

  -- and passes what the other passes.
  still_passes : (t : Tree) → Passes b t → Passes c t
  unfolding section_of
  still_passes t p =
      (passes-let_in c t).1 (subst (λ (k : ℕ). LetIn k (In c.R) (In c.L) (In c.P) t) (sym same)
      (widened b.k (still_in Tops) (still_in Lows) (still_in Middles) t ((passes-let_in b t).0 p)))

module _ (ws ps : List ℕ) (e : (judge_of ws ps).number ≡ done) where
  -- An order that passes does so after a refusal, which leaves the words,
  left : {o : Outcome} {n : ℕ} → o ≡ leave ws n → (judge_of o.words ps).number ≡ done
  left r = ap (λ (v : List ℕ). (judge_of v ps).number) (words_are r) ∙ e

  -- and where the words are then a book in which no tree counts less.
  grows : (vs : List ℕ) (b c : Book) → IsBook ws b → IsBook vs c → c.k ≡ b.k → ((s : Section) (u : Tree) → count_of (words u) (section_of s b) ≤ count_of (words u) (section_of s c))
      → (judge_of vs ps).number ≡ done
  grows vs b c i j same counts =
      let l = (answered-passes ws ps e).lent in
      (judged-exactly vs ps c l.tree j l.is_order).1
      (still_passes b c i.sound j.sound same counts l.tree ((judged-exactly ws ps b l.tree i l.is_order).0 e))

-- ---- calls

-- An order that passes does so after a teaching.
pub taught-still_passes : (ws os ps : List ℕ) → (judge_of ws ps).number ≡ done → (judge_of (teach_of ws os).words ps).number ≡ done
taught-still_passes ws os ps e = go (teach-why ws os)
  where
    -- By the row of the teaching.
    go : WhyTaught ws os (teach_of ws os) → (judge_of (teach_of ws os).words ps).number ≡ done
    go (teach_no_book n r w) = left ws ps e r
    go (teach_no_order b n r i c x) = left ws ps e r
    go (would_pass b t r i o x) = left ws ps e r
    go (needs_more b t r i o x h) = left ws ps e r
    go (book_taught b t r i o x h) =
        let c = teaching_raises ws os b t i o (number_is r) in
        grows ws ps e (teach_of ws os).words b c.0 i c.1 c.2.depth (raised t b c.0 c.2)

-- It does so after a joining.
pub joined-still_passes : (ws vs ps : List ℕ) → (judge_of ws ps).number ≡ done → (judge_of (join_of ws vs).words ps).number ≡ done
joined-still_passes ws vs ps e = go (joined-why ws vs)
  where
    -- By the row of the joining.
    go : WhyJoined ws vs (join_of ws vs) → (judge_of (join_of ws vs).words ps).number ≡ done
    go (join_no_first n r w) = left ws ps e r
    go (join_no_second b n r i w) = left ws ps e r
    go (k_differs b c r i j x) = left ws ps e r
    go (first_disagrees b c r i j s x) = left ws ps e r
    go (second_disagrees b c r i j s a x) = left ws ps e r
    go (lives_pass b c r two h) = left ws ps e r
    go (sum_no_room b c sum r two few a h) = left ws ps e r
    go (joins b c sum r two few a room) =
        let x = leaves-sum ws vs (number_is r) b c two.is_first two.is_second in
        grows ws ps e (join_of ws vs).words b x.0 two.is_first x.1 x.2.depth (λ s u. omega (arith, x.2.counts s (words u)))
