-- Each number and each figure of 01, and those of 02, by its own numeral. The theorems name the numbers and figures (figures/specs/), so that these rows
-- say what is promised of them: the names' values, one call for each number that is answered, and what is answered at each figure and past it. Assumes
-- nothing.
use Prim.Native.Nat.{ℕ, zero, suc}
use mathlib.Core.Path.{◌≡◌, refl}
use mathlib.Core.List.{List, [], ◌∷◌, ◌++◌, map}
use native.Mathlib.Omega.{arith}
use lib.ListN.{length, replicate, set}
use Rattle.book.specs.Decoding.{Refused}
use Rattle.figures.specs.Limits.{least_code, greatest_code, most_children, most_nodes, most_words, greatest_depth, least_k, greatest_k, head_words}
use Rattle.figures.specs.Limits.{k_word, used_word, live_word, taught_word, tops_word, lows_word, middles_word, most_book_words, least_count, greatest_count}
use Rattle.figures.specs.Limits.{most_input, desk_book_words, most_rules, least_image, greatest_image}
use Rattle.figures.specs.Numbers.{done, no_order, too_large, k_outside, book_size, not_in_form, no_room, too_many, not_taught, not_agreeing, no_form}
use Rattle.figures.specs.Numbers.{short_output, no_mark, other_version, no_stored_book, other_k, top_unknown, low_unknown, middle_unknown, no_image, two_images, no_rules}
use Rattle.figures.specs.Answers.{answered, refused_at}
use Rattle.order.specs.Trees.{Tree, node, bare, cons, words}
use Rattle.order.specs.Reading.{cause_of}
use Rattle.order.specs.Answers.{check_of, writing, refuse}
use Rattle.form.specs.Text.{digit_0, digit_9, space, line_feed, spell}
use Rattle.form.specs.Reading.{read_of}
use Rattle.form.specs.Faults.{greatest_level}
use Rattle.book.specs.Book.{Book, lay}
use Rattle.book.specs.Taught.{book_of}
use Rattle.book.specs.Sound.{IsBook, WhyForm, longer}
use Rattle.book.specs.Opening.{open_of, leave}
use Rattle.book.specs.Checking.{agree_of}
use Rattle.book_judging.specs.Judging.{judge_of}
use Rattle.book_judging.specs.Verdicts.{no_book}
use Rattle.book_judging.proofs.Answers.{judged-only}
use Rattle.book_choosing.specs.Choosing.{unchosen, choose_of}
use Rattle.book_choosing.specs.Choices.{by_judging}
use Rattle.book_choosing.proofs.Choices.{why-only as chosen-only}
use Rattle.book_teaching.specs.Calls.{teach_of, withdraw_of}
use Rattle.book_teaching.specs.Whys.{teach_no_book, withdraw_no_book}
use Rattle.book_teaching.proofs.Whys.{teach-only, withdraw-only}
use Rattle.book_joining.specs.Joining.{join_of}
use Rattle.octets.specs.Octets.{bytes_of, words_of}
use Rattle.book_filing.specs.Files.{mark, version, front_bytes, is_marked, stored_in, read_book_of, read_rest_of, write_file_of, read_file_of}
use Rattle.desk_input.specs.Sheets.{letter_K, letter_byte}
use Rattle.desk_input.specs.declared.Letter.TheVariants.{Teach, Withdraw, Judge}
use Rattle.promises.specs.Heard.{A, single, pair, slice}
use Rattle.promises.specs.Whys.{slice_long, check_no_book, join_no_first, join_no_second, file_no_book, restore_longer}
use Rattle.promises.proofs.Tables.Computed.{computes, choosing_computes, desk_computes}
use Rattle.promises.proofs.Tables.Rows.{times, taught_a, lacks_middle}
use Rattle.promises.proofs.Laws.Whys.{opened-only}
use Rattle.promises.proofs.Laws.Checks.{checked_only}
use Rattle.promises.proofs.Laws.Joining.{joined-only}
use Rattle.promises.proofs.Laws.FileWhys.{filed-only, restored_only}
use Rattle.promises.proofs.Demand3.{opening-done}

-- ---- the names

-- "Numbers the desk hears": 0 to 14, and 20 to 22; and 02's 15, 30, 31 and 32.
pub numbers : (done ∷ no_order ∷ too_large ∷ k_outside ∷ book_size ∷ not_in_form ∷ no_room ∷ too_many ∷ not_taught ∷ not_agreeing ∷ no_form ∷ short_output
    ∷ no_mark ∷ other_version ∷ no_stored_book ∷ other_k ∷ top_unknown ∷ low_unknown ∷ middle_unknown ∷ no_image ∷ two_images ∷ no_rules ∷ [])
    ≡ 0 ∷ 1 ∷ 2 ∷ 3 ∷ 4 ∷ 5 ∷ 6 ∷ 7 ∷ 8 ∷ 9 ∷ 10 ∷ 11 ∷ 12 ∷ 13 ∷ 14 ∷ 15 ∷ 20 ∷ 21 ∷ 22 ∷ 30 ∷ 31 ∷ 32 ∷ []
numbers = refl

-- "an option code 1 to 9999, then its number of children 0 to 8", "1 to 64 nodes", "over 128 words", "an order's depth is at most 12"
pub order-figures : (least_code ∷ greatest_code ∷ most_children ∷ most_nodes ∷ most_words ∷ greatest_depth ∷ []) ≡ 1 ∷ 9999 ∷ 8 ∷ 64 ∷ 128 ∷ 12 ∷ []
order-figures = refl

-- "k is 2 to 6", "A lent slice of 7 to 16,384 words", "count (1 to 65,535)"
pub book-figures : (least_k ∷ greatest_k ∷ head_words ∷ most_book_words ∷ least_count ∷ greatest_count ∷ []) ≡ 2 ∷ 6 ∷ 7 ∷ 16384 ∷ 1 ∷ 65535 ∷ []
book-figures = refl

-- "Word 0: k. Word 1: words used. Word 2: live teachings", "Words 3 to 6: numbers of entries in T, R, L, P."
pub head_figures : (k_word ∷ used_word ∷ live_word ∷ taught_word ∷ tops_word ∷ lows_word ∷ middles_word ∷ []) ≡ 0 ∷ 1 ∷ 2 ∷ 3 ∷ 4 ∷ 5 ∷ 6 ∷ []
head_figures = refl

-- "Bytes "OFB", version 1 as 16 bits", "under 5 bytes"
pub file_figures : (mark ≡ 79 ∷ 70 ∷ 66 ∷ []) × (version ≡ 1) × (front_bytes ≡ 5)
file_figures = (refl, refl, refl)

-- Digits, space and LF are those of ASCII, and so are the letters K, T, W and J. "Level is one digit, or two": at most 99.
pub text-figures : (digit_0 ∷ digit_9 ∷ space ∷ line_feed ∷ letter_K ∷ letter_byte Teach ∷ letter_byte Withdraw ∷ letter_byte Judge ∷ greatest_level ∷ [])
    ≡ 48 ∷ 57 ∷ 32 ∷ 10 ∷ 75 ∷ 84 ∷ 87 ∷ 74 ∷ 99 ∷ []
text-figures = refl

-- "standard input, at most 32,768 bytes, with a book of 8,192 words"
pub program_figures : (most_input ∷ desk_book_words ∷ []) ≡ 32768 ∷ 8192 ∷ []
program_figures = refl

-- "the number of rules, 0 to 64, then for each an image number 1 to 65,535"
pub rule-figures : (most_rules ∷ least_image ∷ greatest_image ∷ []) ≡ 64 ∷ 1 ∷ 65535 ∷ []
rule-figures = refl

-- ---- a call for each number

-- 3000 with the child 4000, below 1000.
abbrev low-and_middle : Tree
low-and_middle = node 1000 (cons (node 3000 (cons (node 4000 bare) bare)) bare)

-- 3000 with that child, below none.
abbrev below-the_top : Tree
below-the_top = node 3000 (cons (node 4000 bare) bare)

-- 3000 without children, below 1000.
abbrev low-cut_off : Tree
low-cut_off = node 1000 (cons (node 3000 bare) bare)

-- "0 0010" LF
abbrev ten : List ℕ
ten = 48 ∷ 32 ∷ 48 ∷ 48 ∷ 49 ∷ 48 ∷ 10 ∷ []

-- "0 00A0" LF
abbrev no_ten : List ℕ
no_ten = 48 ∷ 32 ∷ 48 ∷ 48 ∷ 65 ∷ 48 ∷ 10 ∷ []

-- The numbers of twenty-two calls.
unfoldable pub heard-numbers : List ℕ
heard-numbers =
    -- an order
    (check_of (words A)).number
    -- no words, and 130 of them
    ∷ (check_of []).number
    ∷ (check_of (replicate 130 1)).number
    -- k of 1, and six words for a book
    ∷ (open_of (slice 7) 1).answer.number
    ∷ (open_of (slice 6) 2).answer.number
    -- a book with 7 for its k
    ∷ (agree_of (set taught_a 0 7)).number
    -- a book of 18 words is taught a node, and one with 65,535 teachings
    ∷ (teach_of (open_of (slice 18) 2).words (words single)).answer.number
    ∷ (teach_of (lay 19 (book_of 2 (times 65535 single ∷ []))) (words single)).answer.number
    -- a node is withdrawn from an empty book, and a book without its middle part is checked
    ∷ (withdraw_of (open_of (slice 19) 2).words (words single)).answer.number
    ∷ (agree_of (lay 60 lacks_middle)).number
    -- a text with a letter in its code; a text that is read to no words at all
    ∷ (read_of no_ten []).answer.number
    ∷ (read_of ten []).answer.number
    -- files of no bytes, of version 2, and of no words
    ∷ (read_file_of [] (slice 7)).answer.number
    ∷ (read_file_of (79 ∷ 70 ∷ 66 ∷ 0 ∷ 2 ∷ []) (slice 7)).answer.number
    ∷ (read_file_of (79 ∷ 70 ∷ 66 ∷ 0 ∷ 1 ∷ []) (slice 7)).answer.number
    -- an empty book of k 3 is joined to one of k 2
    ∷ (join_of (open_of (slice 7) 2).words (open_of (slice 7) 3).words).answer.number
    -- an order whose lines the book has all below another top is judged by it; a leaf that the book has only with a child; and a node below one that the book
    -- has only alone
    ∷ (judge_of (lay 60 (book_of 2 (times 1 low-and_middle ∷ []))) (words below-the_top)).number
    ∷ (judge_of (lay 60 (book_of 2 (times 1 low-and_middle ∷ []))) (words low-cut_off)).number
    ∷ (judge_of (lay 19 (book_of 2 (times 1 single ∷ []))) (words pair)).number
    -- an image is chosen for a node that the book has: by no rules, by two that name 7 and 8 for it, and by no words
    ∷ (choose_of (lay 19 (book_of 2 (times 1 single ∷ []))) (words single) (0 ∷ [])).number
    ∷ (choose_of (lay 19 (book_of 2 (times 1 single ∷ []))) (words single) (2 ∷ 7 ∷ 1 ∷ 1000 ∷ 0 ∷ 8 ∷ 1 ∷ 1000 ∷ 0 ∷ [])).number
    ∷ (choose_of (lay 19 (book_of 2 (times 1 single ∷ []))) (words single) []).number
    ∷ []

-- Each number is answered by its call.
pub each_number : heard-numbers ≡ 0 ∷ 1 ∷ 2 ∷ 3 ∷ 4 ∷ 5 ∷ 6 ∷ 7 ∷ 8 ∷ 9 ∷ 10 ∷ 11 ∷ 12 ∷ 13 ∷ 14 ∷ 15 ∷ 20 ∷ 21 ∷ 22 ∷ 30 ∷ 31 ∷ 32 ∷ []
unfolding heard-numbers choosing_computes check_of cause_of bytes_of words_of is_marked stored_in read_book_of read_rest_of read_file_of
each_number = refl

-- ---- at each figure, and past it

-- So many leaves of code 1.
unfoldable pub leaves : ℕ → List ℕ
leaves zero = []
leaves (suc n) = 1 ∷ 0 ∷ leaves n

-- A chain of so many nodes and a leaf below them.
unfoldable pub chain : ℕ → List ℕ
chain zero = 1 ∷ 0 ∷ []
chain (suc n) = 1 ∷ 1 ∷ chain n

-- So many nodes, each with eight leaves.
unfoldable pub eights : ℕ → List ℕ
eights zero = []
eights (suc n) = (1 ∷ 8 ∷ leaves 8) ++ eights n

-- The numbers of orders.
abbrev checked : List (List ℕ) → List ℕ
checked orders = map (λ (os : List ℕ). (check_of os).number) orders

-- Codes 0, 1, 9999 and 10,000; 8 children and 9; a leaf 12 and 13 deep; 64 nodes, which are one with 7 children that have 8 each, and 65.
pub order-limits : checked (
    (0 ∷ 0 ∷ []) ∷ (1 ∷ 0 ∷ []) ∷ (9999 ∷ 0 ∷ []) ∷ (10000 ∷ 0 ∷ [])
    ∷ (1 ∷ 8 ∷ leaves 8) ∷ (1 ∷ 9 ∷ leaves 9)
    ∷ chain 12 ∷ chain 13
    ∷ (1 ∷ 7 ∷ eights 7) ∷ (1 ∷ 8 ∷ (eights 7 ++ leaves 1))
    ∷ [])
    ≡ 1 ∷ 0 ∷ 0 ∷ 1 ∷ 0 ∷ 1 ∷ 0 ∷ 2 ∷ 0 ∷ 2 ∷ []
unfolding computes check_of cause_of leaves chain eights
order-limits = refl

-- k of 1, 2, 6 and 7, and slices of 6 and 7 words.
pub opening-limits : ((open_of (slice 7) 1).answer.number ∷ (open_of (slice 7) 2).answer.number ∷ (open_of (slice 7) 6).answer.number ∷ (open_of (slice 7) 7).answer.number
    ∷ (open_of (slice 6) 2).answer.number ∷ [])
    ≡ 3 ∷ 0 ∷ 0 ∷ 3 ∷ 4 ∷ []
unfolding computes
opening-limits = refl

-- 16,384 words are opened,
pub longest_opened : (ws : List ℕ) → length ws ≡ 16384 → (open_of ws 2).answer ≡ answered 0
longest_opened ws e = opening-done ws 2 (omega arith) (omega arith) (omega arith) (omega arith)

-- and 16,385 are not.
pub longer-refused : (ws : List ℕ) → length ws ≡ 16385 → open_of ws 2 ≡ leave ws 4
longer-refused ws e = opened-only ws 2 (leave ws 4) (slice_long refl (omega arith))

-- 16,385 words are refused by 4 by every other call on a book, whatever they are, and as a book that is joined to one in form.
pub longer-refused_by_all : (ws : List ℕ) → length ws ≡ 16385 → (os out file rules : List ℕ)
    → (teach_of ws os ≡ leave ws 4) × (withdraw_of ws os ≡ leave ws 4) × (judge_of ws os ≡ answered 4) × (choose_of ws os rules ≡ unchosen 4) × (agree_of ws ≡ answered 4)
    × (write_file_of ws out ≡ refuse 4 out) × (read_file_of file ws ≡ leave ws 4) × ((vs : List ℕ) → join_of ws vs ≡ leave ws 4)
    × ((us : List ℕ) (b : Book) → IsBook us b → join_of us ws ≡ leave us 4)
longer-refused_by_all ws e os out file rules =
    let w : WhyForm ws (Refused 4) = longer refl (omega arith) in (
      teach-only ws os (leave ws 4) (teach_no_book 4 refl w),
      withdraw-only ws os (leave ws 4) (withdraw_no_book 4 refl w),
      judged-only ws os (answered 4) (no_book 4 refl w),
      chosen-only ws os rules (unchosen 4) (by_judging (answered 4) refl (no_book 4 refl w) (λ z. omega (arith, z))),
      checked_only ws (answered 4) (check_no_book 4 refl w),
      filed-only ws out (refuse 4 out) (file_no_book 4 refl w),
      restored_only file ws (leave ws 4) (restore_longer refl (omega arith)),
      λ vs. joined-only ws vs (leave ws 4) (join_no_first 4 refl w),
      λ us b i. joined-only us ws (leave us 4) (join_no_second b 4 refl i w),
    )

-- Lines of code 1 with these levels.
abbrev pub levelled : List ℕ → List ℕ
levelled levels = spell (map (λ (l : ℕ). record { level = l; code = 1 }) levels)

-- Levels 0 to 12, each straight behind the one before it.
abbrev pub down_to_12 : List ℕ
down_to_12 = 0 ∷ 1 ∷ 2 ∷ 3 ∷ 4 ∷ 5 ∷ 6 ∷ 7 ∷ 8 ∷ 9 ∷ 10 ∷ 11 ∷ 12 ∷ []

-- "its level over 12": level 13 straight behind 12, on line 14, is 2; on line 1 it is not allowed, and so is level 1 there, level 0 on line 2, and a
-- level two deeper than the line before it. A ninth child is refused at its own line.
pub level-limits : (read_of (levelled (down_to_12 ++ (13 ∷ []))) [] ≡ writing (refused_at 2 14) [])
    × (read_of (levelled (13 ∷ [])) [] ≡ writing (refused_at 10 1) [])
    × (read_of (levelled (1 ∷ [])) [] ≡ writing (refused_at 10 1) [])
    × (read_of (levelled (0 ∷ 0 ∷ [])) [] ≡ writing (refused_at 10 2) [])
    × (read_of (levelled (0 ∷ 1 ∷ 3 ∷ [])) [] ≡ writing (refused_at 10 3) [])
    × (read_of (levelled (0 ∷ replicate 9 1)) [] ≡ writing (refused_at 10 10) [])
unfolding desk_computes
level-limits = (refl, refl, refl, refl, refl, refl)
