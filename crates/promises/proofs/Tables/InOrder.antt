-- "Order of checks", computed: for each call, inputs to which two of its checks apply at once, for each two that stand next to each other, so that the row
-- says which comes first; and each cause of 1, 2 and 10 by itself. Those of reading a file are in proofs/Tables/FileRows.antt. Assumes nothing.
use Prim.Native.Nat.{ℕ}
use mathlib.Core.Path.{◌≡◌, refl}
use mathlib.Core.List.{List, [], ◌∷◌, ◌++◌, map}
use lib.ListN.{replicate, set}
use Rattle.figures.specs.Answers.{answered}
use Rattle.figures.specs.declared.Answer.{Answer}
use Rattle.section.specs.Entries.{counted}
use Rattle.order.specs.Trees.{Tree, node, bare, cons, words}
use Rattle.order.specs.Reading.{cause_of}
use Rattle.order.specs.Answers.{check_of, Writing}
use Rattle.form.specs.Reading.{read_of}
use Rattle.form.specs.Writing.{write_of}
use Rattle.book.specs.Book.{lay}
use Rattle.book.specs.Taught.{book_of}
use Rattle.book.specs.Opening.{Outcome, open_of}
use Rattle.book.specs.Checking.{agree_of}
use Rattle.book_judging.specs.Judging.{judge_of}
use Rattle.book_teaching.specs.Calls.{teach_of, withdraw_of}
use Rattle.book_joining.specs.Joining.{join_of}
use Rattle.octets.specs.Octets.{bytes_of}
use Rattle.book_filing.specs.Files.{file_of, write_file_of}
use Rattle.desk_input.specs.Sheets.{faulty, handed_in}
use Rattle.promises.specs.Heard.{A, single, pair, slice}
use Rattle.promises.proofs.Tables.Computed.{computes, desk_computes}
use Rattle.promises.proofs.Tables.Rows.{times, taught_a, with_l, lacks_middle}
use Rattle.promises.proofs.Tables.Numerals.{chain, levelled, down_to_12}

-- ---- orders

-- A chain that is 13 deep and lacks its last child.
abbrev too_deep-and_broken : List ℕ
too_deep-and_broken = replicate 28 1

-- "Within an order: empty or odd length, over 128 words, the other causes of 1, depth": no words; one word, and 129; 130 words of rubbish; two trees, a tree
-- that lacks a child, and a chain that is 13 deep and lacks its last child; a chain that is 13 deep.
pub order-checks : map (λ (os : List ℕ). (check_of os).number)
    ([] ∷ (1 ∷ []) ∷ replicate 129 0 ∷ replicate 130 0 ∷ (1 ∷ 0 ∷ 1 ∷ 0 ∷ []) ∷ (1 ∷ 1 ∷ []) ∷ too_deep-and_broken ∷ chain 13 ∷ [])
    ≡ 1 ∷ 1 ∷ 1 ∷ 2 ∷ 1 ∷ 1 ∷ 1 ∷ 2 ∷ []
unfolding computes check_of cause_of chain
order-checks = refl

-- ---- calls on a book

-- A book of seven words that is not in form.
abbrev formless : List ℕ
formless = slice 7

-- An empty book that looks 2 deep, without room for a word more.
abbrev opened : List ℕ
opened = 2 ∷ 7 ∷ 0 ∷ 0 ∷ 0 ∷ 0 ∷ 0 ∷ []

-- A book with 65,535 teachings of a node, without room for a word more.
abbrev full : List ℕ
full = lay 19 (book_of 2 (times 65535 single ∷ []))

-- Words of which there are too many for an order.
abbrev too_long : List ℕ
too_long = replicate 130 1

-- "Open: 4, 3."
pub open_checks : ((open_of (slice 6) 1).answer.number ∷ (open_of (slice 7) 1).answer.number ∷ []) ≡ 4 ∷ 3 ∷ []
unfolding computes
open_checks = refl

-- A book with one teaching of a node that counts 65,535 in L, without room for a word more.
abbrev full_low : List ℕ
full_low = lay 19 (with_l (book_of 2 (times 1 single ∷ [])) (counted (words single) 65535 ∷ []))

-- "Teach: 4, 5, 1, 2, 7, 6." Six words; words that are no book, with no order; a book with no order, and with an order that is too long; a full book with an
-- order that is too long, and with one for which there is no room; one with a full count that an order touches for which there is no room; an empty book with
-- an order for which there is no room.
pub teach-checks : map (λ (o : Outcome). o.answer.number)
    (teach_of (slice 6) [] ∷ teach_of formless [] ∷ teach_of opened [] ∷ teach_of opened too_long ∷ teach_of full too_long ∷ teach_of full (words A) ∷ teach_of full_low (words pair) ∷ teach_of opened (words A) ∷ [])
    ≡ 4 ∷ 5 ∷ 1 ∷ 2 ∷ 2 ∷ 7 ∷ 7 ∷ 6 ∷ []
unfolding computes
teach-checks = refl

-- "Withdraw: 4, 5, 1, 2, 8, 9." The same; an order that was never taught and whose parts are missing, and one that was taught and of which a part is missing.
pub withdraw-checks : map (λ (o : Outcome). o.answer.number)
    (withdraw_of (slice 6) [] ∷ withdraw_of formless [] ∷ withdraw_of opened [] ∷ withdraw_of opened too_long ∷ withdraw_of opened (words A)
    ∷ withdraw_of (lay 60 lacks_middle) (words A) ∷ [])
    ≡ 4 ∷ 5 ∷ 1 ∷ 2 ∷ 8 ∷ 9 ∷ []
unfolding computes
withdraw-checks = refl

-- "Judge: 4, 5, 1, 2, verdict."
pub judge_checks : map (λ (a : Answer). a.number)
    (judge_of (slice 6) [] ∷ judge_of formless [] ∷ judge_of opened [] ∷ judge_of opened too_long ∷ judge_of opened (words A) ∷ [])
    ≡ 4 ∷ 5 ∷ 1 ∷ 2 ∷ 21 ∷ []
unfolding computes
judge_checks = refl

-- 1000 with the children 2000, which has a child, and 3000, which has one too.
abbrev two_deep : Tree
two_deep = node 1000 (cons (node 2000 (cons (node 1 bare) bare)) (cons (node 3000 (cons (node 4000 bare) bare)) bare))

-- The verdict by the book of the order `two_deep`, k = 2.
abbrev by_two_deep : Tree → List ℕ
by_two_deep t = let a : Answer = judge_of (lay 100 (book_of 2 (times 1 two_deep ∷ []))) (words t) in a.number ∷ a.line ∷ []

-- "The line wanted is the least one whose part is unknown while nothing strictly below it is unknown":
-- 3000 without its child, which is line 4;
-- 2000 without its child, on line 2, before 3000 with another, on line 3, which is line 4;
-- 2000 with another child, which is line 3, before 3000 without its child on line 4;
-- 2000 and 3000 each with another child, on lines 3 and 5: the first branch, not the last line;
-- an unknown line 1 above a known line 2, which is above an unknown line 3 and, below that, an unknown line 4;
-- 3000 with the child of 2000: line 4, which is unknown where the line below it is known;
-- the two groups changed round: line 1, where all lines below it are known.
-- "Answer 20 is given only when no line is unknown": 2000 with its child, which no order begins with; 2000 alone, whose line is unknown too. The order itself
-- passes. And a book that lacks the middle part of its order judges it "as they stand, agreeing or not".
pub verdict-lines : (by_two_deep (node 1000 (cons (node 2000 (cons (node 1 bare) bare)) (cons (node 3000 bare) bare)))
    ∷ by_two_deep (node 1000 (cons (node 2000 bare) (cons (node 3000 (cons (node 9 bare) bare)) bare)))
    ∷ by_two_deep (node 1000 (cons (node 2000 (cons (node 9 bare) bare)) (cons (node 3000 bare) bare)))
    ∷ by_two_deep (node 1000 (cons (node 2000 (cons (node 9 bare) bare)) (cons (node 3000 (cons (node 9 bare) bare)) bare)))
    ∷ by_two_deep (node 9 (cons (node 2000 (cons (node 1 (cons (node 8 bare) bare)) bare)) bare))
    ∷ by_two_deep (node 1000 (cons (node 2000 (cons (node 1 bare) bare)) (cons (node 3000 (cons (node 1 bare) bare)) bare)))
    ∷ by_two_deep (node 1000 (cons (node 3000 (cons (node 4000 bare) bare)) (cons (node 2000 (cons (node 1 bare) bare)) bare)))
    ∷ by_two_deep (node 2000 (cons (node 1 bare) bare))
    ∷ by_two_deep (node 2000 bare)
    ∷ by_two_deep two_deep
    ∷ ((judge_of (lay 60 lacks_middle) (words A)).number ∷ (judge_of (lay 60 lacks_middle) (words A)).line ∷ [])
    ∷ [])
    ≡ (21 ∷ 4 ∷ []) ∷ (21 ∷ 2 ∷ []) ∷ (21 ∷ 3 ∷ []) ∷ (21 ∷ 3 ∷ []) ∷ (21 ∷ 4 ∷ []) ∷ (22 ∷ 4 ∷ []) ∷ (22 ∷ 1 ∷ [])
    ∷ (20 ∷ 1 ∷ []) ∷ (21 ∷ 1 ∷ []) ∷ (0 ∷ 0 ∷ []) ∷ (22 ∷ 1 ∷ []) ∷ []
unfolding computes
verdict-lines = refl

-- "Check: 4, 5, 9." Six words; a book that is not in form and would not agree; one that does not agree; one that does.
pub agree_checks : map (λ (a : Answer). a.number) (agree_of (slice 6) ∷ agree_of (set (lay 60 lacks_middle) 2 2) ∷ agree_of (lay 60 lacks_middle) ∷ agree_of taught_a ∷ [])
    ≡ 4 ∷ 5 ∷ 9 ∷ 0 ∷ []
unfolding computes
agree_checks = refl

-- ---- two books

-- A book of so many teachings of a node that lacks its low part, without room for a word more.
abbrev lacks_low : ℕ → List ℕ
lacks_low n = lay 15 (with_l (book_of 2 (times n single ∷ [])) [])

-- The book of another node, without room for a word more.
abbrev another : List ℕ
another = lay 19 (book_of 2 (times 1 (node 2000 bare) ∷ []))

-- "4 and 5 on the first book, 4 and 5 on the second, 15 where k differs, 9 on the first, 9 on the second, 7, 6": six words, and words that are no book; no book,
-- and six words; a book that does not agree, and six words, and no book; an empty book, and no book; one that does not agree, and one of another k, which comes
-- back the other way round too; one that does not agree and has 65,535 teachings, with as many; an empty one without room, with one that does not agree; 65,535
-- teachings and another order for which there is no room; an empty one with an order for which there is no room; two empty ones.
pub join-checks : map (λ (o : Outcome). o.answer.number)
    (join_of (slice 6) formless ∷ join_of formless (slice 6) ∷ join_of (lacks_low 1) (slice 6) ∷ join_of (lacks_low 1) formless ∷ join_of opened formless
    ∷ join_of (lay 60 lacks_middle) opened ∷ join_of opened (lay 60 lacks_middle) ∷ join_of (lacks_low 65535) full ∷ join_of opened (lacks_low 1)
    ∷ join_of full another ∷ join_of opened another ∷ join_of opened opened ∷ [])
    ≡ 4 ∷ 5 ∷ 4 ∷ 5 ∷ 5 ∷ 15 ∷ 15 ∷ 9 ∷ 9 ∷ 7 ∷ 6 ∷ 0 ∷ []
unfolding computes
join-checks = refl

-- ---- files and texts

-- "Write file: 4, 5, 9, 11." To an output of no bytes: six words, a book that is not in form, one that does not agree, one that does.
pub write-file_checks : map (λ (w : Writing). w.answer.number)
    (write_file_of (slice 6) [] ∷ write_file_of formless [] ∷ write_file_of (lay 60 lacks_middle) [] ∷ write_file_of taught_a [] ∷ [])
    ≡ 4 ∷ 5 ∷ 9 ∷ 11 ∷ []
unfolding computes bytes_of file_of write_file_of
write-file_checks = refl

-- "Write text: 1, 2, 11." To an output of no bytes: no words, too many words, an order.
pub write-checks : map (λ (w : Writing). w.answer.number) (write_of [] [] ∷ write_of too_long [] ∷ write_of (words A) [] ∷ []) ≡ 1 ∷ 2 ∷ 11 ∷ []
unfolding desk_computes write_of
write-checks = refl

-- What is heard of a text that is read to no words: number and line.
abbrev heard-of : List ℕ → List ℕ
heard-of text = (read_of text []).answer.number ∷ (read_of text []).answer.line ∷ []

-- "1 0000" LF
abbrev no_option : List ℕ
no_option = 49 ∷ 32 ∷ 48 ∷ 48 ∷ 48 ∷ 48 ∷ 10 ∷ []

-- "13 0000" LF
abbrev too_deep-no_option : List ℕ
too_deep-no_option = 49 ∷ 51 ∷ 32 ∷ 48 ∷ 48 ∷ 48 ∷ 48 ∷ 10 ∷ []

-- "13 0001" without LF
abbrev too_deep-unended : List ℕ
too_deep-unended = 49 ∷ 51 ∷ 32 ∷ 48 ∷ 48 ∷ 48 ∷ 49 ∷ []

-- The levels of 64 lines: a top, seven children, and eight below each.
abbrev levels_64 : List ℕ
levels_64 = 0 ∷ (group ++ (group ++ (group ++ (group ++ (group ++ (group ++ group))))))
  where
    -- A child with eight below it.
    group : List ℕ
    group = 1 ∷ replicate 8 2

-- "Text: the first line at fault; in it, past line 64, then spelling, 0000, level not allowed, level over 12, ninth child; 11 last. No bytes is line 1." No
-- bytes; 64 lines, and a byte behind them that is no line; behind level 12 a line of level 13, one without LF and one of code 0000; code 0000 on line 2, which is
-- allowed there; two faults, the first on line 2; a text without fault, for which there is no room.
pub text-checks : map heard-of
    ([] ∷ levelled levels_64 ∷ (levelled levels_64 ++ (0 ∷ [])) ∷ levelled (down_to_12 ++ (13 ∷ [])) ∷ (levelled down_to_12 ++ too_deep-unended)
    ∷ (levelled down_to_12 ++ too_deep-no_option) ∷ (levelled (0 ∷ []) ++ no_option) ∷ levelled (0 ∷ 3 ∷ 9 ∷ []) ∷ levelled (0 ∷ []) ∷ [])
    ≡ (10 ∷ 1 ∷ []) ∷ (11 ∷ 0 ∷ []) ∷ (2 ∷ 65 ∷ []) ∷ (2 ∷ 14 ∷ []) ∷ (10 ∷ 14 ∷ []) ∷ (10 ∷ 14 ∷ []) ∷ (10 ∷ 2 ∷ []) ∷ (10 ∷ 2 ∷ []) ∷ (11 ∷ 0 ∷ []) ∷ []
unfolding desk_computes
text-checks = refl

-- ---- the desk

-- "in this order": "K 7" LF "0" LF has a k out of range and bytes that begin with no letter line, and "K 3" LF "0" LF only these; "K-3" LF is otherwise spelt.
-- That a longer input comes first, whatever its bytes are, is `too_long` in proofs/Tables/DeskRows.antt.
pub desk_checks : (handed_in (75 ∷ 32 ∷ 55 ∷ 10 ∷ 48 ∷ 10 ∷ []) ≡ faulty (answered 3)) × (handed_in (75 ∷ 32 ∷ 51 ∷ 10 ∷ 48 ∷ 10 ∷ []) ≡ faulty (record { number = 10; line = 2 }))
    × (handed_in (75 ∷ 45 ∷ 51 ∷ 10 ∷ []) ≡ faulty (answered 3))
unfolding desk_computes
desk_checks = (refl, refl, refl)
