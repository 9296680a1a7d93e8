-- The figures of a verdict are small: its line is 64 at most, and the neighbours of a part are at most as many as a book has words. Assumes
-- nothing.
use Prim.Native.Nat.{ℕ, ◌+◌, ◌^◌, ◌≤◌}
use mathlib.Core.List.{List}
use native.Mathlib.Omega.{arith}
use lib.ListN.{length}
use Rattle.words.proofs.Tests.{either_way}
use Rattle.figures.specs.Limits.{most_nodes, most_book_words}
use Rattle.figures.specs.Answers.{answered}
use Rattle.figures.specs.declared.Answer.{Answer}
use Rattle.section.specs.Entries.{has}
use Rattle.section.specs.Near.{nowhere, Small}
use Rattle.section.proofs.Near.{nowhere-small}
use Rattle.order.specs.Trees.{Tree, words, subtrees}
use Rattle.order.specs.Parts.{top, is_low}
use Rattle.order.proofs.Causes.{by_order_lem}
use Rattle.book.specs.Book.{Book, section_of, used}
use Rattle.book.specs.declared.Section.TheVariants.{Tops, Lows, Middles}
use Rattle.book.proofs.Meaning.{used-fits}
use Rattle.book.proofs.Sound.{by_book_lem}
use Rattle.book.proofs.Around.{section-small}
use Rattle.book_judging.specs.Judging.{Doubt, no_doubt, doubt, least_to_fix, verdict_on, verdict, judge_of}
use Rattle.book_judging.specs.Expecting.{near_part, near_top, expected_on, expected, expected_of}
use Rattle.book_judging.specs.Seeking.{doubt_line}
use Rattle.book_judging.proofs.Fixes.{doubt-within}

-- ---- verdicts

-- The line of a verdict on an order of at most 64 lines is 64 at most.
verdict-line : (b : Book) (t : Tree) → length (subtrees t) ≤ most_nodes → (verdict b t).line ≤ most_nodes
unfolding verdict verdict_on doubt_line
verdict-line b t few = go (least_to_fix b 1 (subtrees t)) (doubt-within b 0 (subtrees t))
  where
    -- By the line that is doubted.
    go : (d : Doubt) → doubt_line d ≤ 0 + length (subtrees t) → (verdict_on b t d).line ≤ most_nodes
    go no_doubt h = either_way (λ (a : Answer). a.line ≤ most_nodes) (has (words (top b.k t)) b.R) _ _ (omega arith) (omega arith)
    go (doubt line s) h = omega arith

-- Judging: line 64 at most.
pub judge_line-most : (ws os : List ℕ) → (judge_of ws os).line ≤ most_nodes
unfolding judge_of
judge_line-most ws os =
    by_book_lem most ws answered _ (λ n. omega arith) (λ b i. by_order_lem most os answered (verdict b) (λ n. omega arith) (λ t p. verdict-line b t p.nodes))
  where
    -- The line of an answer is 64 at most.
    most : Answer → Type 0
    most a = a.line ≤ most_nodes

-- ---- what the book expected

-- What a book that fits expects has figures of 16 bits.
expected-small : (b : Book) (t : Tree) → used b ≤ most_book_words → Small (2 ^ 16) (expected b t)
unfolding expected expected_on near_top near_part section_of
expected-small b t few = go (least_to_fix b 1 (subtrees t))
  where
    -- By the line that is doubted.
    go : (d : Doubt) → Small (2 ^ 16) (expected_on b t d)
    go no_doubt =
        either_way (Small (2 ^ 16)) (has (words (top b.k t)) b.R) _ _ (nowhere-small (2 ^ 16) (omega arith)) (section-small Tops b few _)
    go (doubt line s) =
        either_way (Small (2 ^ 16)) (is_low b.k s) _ _ (section-small Lows b few _) (section-small Middles b few _)

-- Judging: whatever is handed on has figures of 16 bits.
pub expected-fits : (ws os : List ℕ) → Small (2 ^ 16) (expected_of ws os)
unfolding expected_of
expected-fits ws os =
    let none = nowhere-small (2 ^ 16) (omega arith) in
    by_book_lem (Small (2 ^ 16)) ws (λ n. nowhere) _ (λ n. none)
    (λ b i. by_order_lem (Small (2 ^ 16)) os (λ n. nowhere) (expected b) (λ n. none) (λ t p. expected-small b t (omega (arith, used-fits ws b i.laid, i.short))))
