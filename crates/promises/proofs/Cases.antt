-- The twelve numbered cases of 01 ("Forms on the desk"), case 11 as 02 changes it, computed as one table over the definitions that the contracts cite; and
-- case 11 for any order. Assumes nothing.
use Prim.Native.Nat.{ℕ, ◌≤◌}
use mathlib.Core.Path.{◌≡◌, refl, ◌∙◌}
use mathlib.Core.List.{List, [], ◌∷◌, ◌++◌}
use lib.ListN.{length}
use Rattle.figures.specs.Limits.{head_words, most_book_words, least_k, greatest_k}
use Rattle.figures.specs.Numbers.{low_unknown}
use Rattle.order.specs.Trees.{Tree}
use Rattle.order.specs.Fits.{IsOrder}
use Rattle.order.proofs.Fitting.{order-read}
use Rattle.form.specs.Reading.{read_of}
use Rattle.book.specs.Taught.{book_of}
use Rattle.book.specs.Opening.{open_of}
use Rattle.book.proofs.Openings.{opened-book}
use Rattle.book_judging.specs.Judging.{judge_of}
use Rattle.book_judging.proofs.Judgements.{by_verdict}
use Rattle.promises.specs.Heard.{A, B, C, single, pair, three, first_leaf, opens, teaches, withdraws, judges, slice, heard, read_as}
use Rattle.promises.proofs.Tables.Computed.{computes}
use Rattle.promises.proofs.Laws.FirstLeaf.{leaf_verdict}

-- What the definitions say: of each call "answer, line, words used", and of a text that is read answer, line, words written and the output.
-- Each slice has no word more than it needs.
unfoldable pub outcomes : List (List ℕ)
outcomes =
    heard (opens 3 ∷ teaches A ∷ teaches B ∷ withdraws A ∷ []) (slice 109)
    ++ (heard (opens 2 ∷ teaches A ∷ []) (slice 51)
    ++ (heard (opens 3 ∷ teaches A ∷ teaches B ∷ judges C ∷ []) (slice 109)
    ++ (heard (opens 2 ∷ teaches A ∷ teaches B ∷ judges C ∷ []) (slice 87)
    ++ (heard (opens 2 ∷ teaches single ∷ judges pair ∷ []) (slice 19)
    ++ (heard (opens 2 ∷ teaches single ∷ []) (slice 18)
    ++ (heard (opens 2 ∷ teaches pair ∷ judges single ∷ judges three ∷ []) (slice 27)
    ++ (heard (opens 3 ∷ judges A ∷ []) (slice 7)
    ++ (read_as (read_of (48 ∷ 32 ∷ 48 ∷ 48 ∷ 49 ∷ 48 ∷ 10 ∷ []) (9 ∷ 9 ∷ []))
    ∷ read_as (read_of (48 ∷ 32 ∷ 48 ∷ 48 ∷ 65 ∷ 48 ∷ 10 ∷ []) (9 ∷ 9 ∷ []))
    ∷ []))))))))

-- What 01 says, and of case 11 02: "case 6 still answers line 1, case 9 too, case 11 now answers 21 at its first leaf".
unfoldable pub table : List (List ℕ)
table =
    -- 1. "Opened, k=3: 7 words used."
    (0 ∷ 0 ∷ 7 ∷ [])
    -- 2. "A taught, k=3: 59 words."
    ∷ (0 ∷ 0 ∷ 59 ∷ [])
    -- 3. "A, B taught, k=3: 109 words."
    ∷ (0 ∷ 0 ∷ 109 ∷ [])
    -- 4. "Then A withdrawn: 69 words."
    ∷ (0 ∷ 0 ∷ 69 ∷ [])
    -- 5. "A taught, k=2: 51 words."
    ∷ (0 ∷ 0 ∷ 7 ∷ [])
    ∷ (0 ∷ 0 ∷ 51 ∷ [])
    -- 6. "A, B taught, k=3; judge C: 22, line 1."
    ∷ (0 ∷ 0 ∷ 7 ∷ [])
    ∷ (0 ∷ 0 ∷ 59 ∷ [])
    ∷ (0 ∷ 0 ∷ 109 ∷ [])
    ∷ (22 ∷ 1 ∷ 109 ∷ [])
    -- 7. "A, B taught, k=2; judge C: 0."
    ∷ (0 ∷ 0 ∷ 7 ∷ [])
    ∷ (0 ∷ 0 ∷ 51 ∷ [])
    ∷ (0 ∷ 0 ∷ 87 ∷ [])
    ∷ (0 ∷ 0 ∷ 87 ∷ [])
    -- 8. "Single node 1000 taught, k=2, in 19 words: 0"
    ∷ (0 ∷ 0 ∷ 7 ∷ [])
    ∷ (0 ∷ 0 ∷ 19 ∷ [])
    -- 9. "That book judges 1000(1000): 22, line 1."
    ∷ (22 ∷ 1 ∷ 19 ∷ [])
    -- 8. "in 18: 6"
    ∷ (0 ∷ 0 ∷ 7 ∷ [])
    ∷ (6 ∷ 0 ∷ 7 ∷ [])
    -- 10. "1000(1000) taught, k=2: judges 1000 as 0, and 1000(1000(1000)) as 0."
    ∷ (0 ∷ 0 ∷ 7 ∷ [])
    ∷ (0 ∷ 0 ∷ 27 ∷ [])
    ∷ (0 ∷ 0 ∷ 27 ∷ [])
    ∷ (0 ∷ 0 ∷ 27 ∷ [])
    -- 11. "Empty book: any order within limits": 21 at its first leaf. Here A; below any.
    ∷ (0 ∷ 0 ∷ 7 ∷ [])
    ∷ (21 ∷ 3 ∷ 7 ∷ [])
    -- 12. "Text "0 0010" LF is code ten"
    ∷ (0 ∷ 0 ∷ 2 ∷ 10 ∷ 0 ∷ [])
    -- 12. ""0 00A0" LF is 10, line 1."
    ∷ (10 ∷ 1 ∷ 0 ∷ 9 ∷ 9 ∷ [])
    ∷ []

-- They say the same.
pub cases : outcomes ≡ table
unfolding outcomes table computes
cases = refl

-- Case 11 for every order, k and slice: "case 11 now answers 21 at its first leaf".
pub case_11 : (slice : List ℕ) (k : ℕ) → head_words ≤ length slice → length slice ≤ most_book_words → least_k ≤ k → k ≤ greatest_k
    → (os : List ℕ) (t : Tree) → IsOrder os t → judge_of (open_of slice k).words os ≡ record { number = low_unknown; line = first_leaf t }
unfolding book_of
case_11 slice k long short least greatest os t o =
    by_verdict _ os (book_of k []) (opened-book slice k long short least greatest) t (order-read os t o) ∙ leaf_verdict (book_of k []) refl refl t
