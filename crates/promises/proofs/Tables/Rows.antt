-- Rows that are computed beside the twelve cases: books in form and books that miss it by one damage, books that agree with themselves and books
-- that do not, refusals by 6, 7, 8 and 9, books that are joined, what a book lets in, and what it expected. Assumes nothing.
use Prim.Native.Nat.{ℕ, ◌+◌, ◌≤◌}
use mathlib.Core.Path.{◌≡◌, refl}
use mathlib.Core.Bool.{true, false}
use mathlib.Core.List.{List, [], ◌∷◌}
use native.Mathlib.Omega.{arith}
use lib.ListN.{set}
use Rattle.words.specs.Compare.{signed_from, signed_of}
use Rattle.section.specs.Entries.{Entry, counted, add}
use Rattle.section.specs.Near.{near, nowhere, entries_below, entries_above, last_place, first_place, near_of}
use Rattle.order.specs.Trees.{Tree, node, bare, cons, words}
use Rattle.order.specs.Reading.{order, order_of}
use Rattle.order.proofs.Fitting.{read-order}
use Rattle.book.specs.Book.{Book, used, lay, in_form}
use Rattle.book.specs.Decoding.{formed}
use Rattle.book.specs.Sound.{IsBook}
use Rattle.book.specs.Taught.{Teaching, book_of, agreeing}
use Rattle.book_judging.specs.Judging.{judge_of}
use Rattle.book_judging.specs.Expecting.{near_part, near_top, expected_on, expected, expected_of}
use Rattle.book_teaching.specs.Calls.{has_parts}
use Rattle.figures.specs.Limits.{most_book_words}
use Rattle.figures.specs.Answers.{answered}
use Rattle.book.specs.Checking.{agree_of}
use Rattle.book.specs.Opening.{outcome, leave}
use Rattle.book.proofs.Sound.{laid-book}
use Rattle.book_joining.specs.Joining.{join_of}
use Rattle.promises.specs.NoMore.{FormOf, TaughtIn, IncludeTaught, sets_of}
use Rattle.promises.specs.Heard.{A, B, C, single, opens, teaches, withdraws, slice, heard}
use Rattle.promises.proofs.Tables.Computed.{computes}
use Rattle.promises.proofs.Laws.Agreement.{sound-agreeing}
use Rattle.promises.proofs.NoMore.{own_sets}

-- An order taught so many times.
abbrev pub times : ℕ → Tree → Teaching
times n t = record { order = t; times = n }

-- A taught, k = 3: the words of the head, T, R, L and P, in a slice of 60 words.
abbrev pub taught_a : List ℕ
taught_a =
    3 ∷ 59 ∷ 1 ∷ 1 ∷ 1 ∷ 4 ∷ 1
    ∷ 5 ∷ 1 ∷ 1000 ∷ 2 ∷ 2000 ∷ 1 ∷ 10 ∷ 0 ∷ 3000 ∷ 1 ∷ 3001 ∷ 0
    ∷ 3 ∷ 1 ∷ 1000 ∷ 2 ∷ 2000 ∷ 0 ∷ 3000 ∷ 0
    ∷ 1 ∷ 1 ∷ 10 ∷ 0 ∷ 2 ∷ 1 ∷ 2000 ∷ 1 ∷ 10 ∷ 0 ∷ 2 ∷ 1 ∷ 3000 ∷ 1 ∷ 3001 ∷ 0 ∷ 1 ∷ 1 ∷ 3001 ∷ 0
    ∷ 5 ∷ 1 ∷ 1000 ∷ 2 ∷ 2000 ∷ 1 ∷ 10 ∷ 0 ∷ 3000 ∷ 1 ∷ 3001 ∷ 0
    ∷ 0 ∷ []

-- These are its words, and they are in form.
in_form_lem : (lay 60 (book_of 3 (times 1 A ∷ [])) ≡ taught_a) × (formed taught_a ≡ true) × (formed (lay 60 (book_of 3 (times 1 A ∷ []))) ≡ true)
unfolding computes
in_form_lem = (refl, refl, refl)

-- One damage each: a k of 7 and of 1, a word used less, a live teaching more, an entry more in R, a node less and a code of 0 in the entry of T, a count of 0 in
-- L, and a word past those used that is not zero. A count of 2 in L is none.
damaged : (formed (set taught_a 0 7) ≡ false)
    × (formed (set taught_a 0 1) ≡ false)
    × (formed (set taught_a 4 2) ≡ false)
    × (formed (set taught_a 7 4) ≡ false)
    × (formed (set taught_a 9 0) ≡ false)
    × (formed (set taught_a 1 58) ≡ false)
    × (formed (set taught_a 2 2) ≡ false)
    × (formed (set taught_a 28 0) ≡ false)
    × (formed (set taught_a 59 1) ≡ false)
    × (formed (set taught_a 28 2) ≡ true)
unfolding computes
damaged = (refl, refl, refl, refl, refl, refl, refl, refl, refl, refl)

-- The book of A and B, k = 3.
abbrev book_ab : Book
book_ab = book_of 3 (times 1 A ∷ times 1 B ∷ [])

-- The first two entries exchanged.
abbrev exchanged : List Entry → List Entry
exchanged [] = []
exchanged (e ∷ []) = e ∷ []
exchanged (e ∷ f ∷ es) = f ∷ e ∷ es

-- A book with another section T.
abbrev with_t : Book → List Entry → Book
with_t b es = record { k = b.k; T = es; R = b.R; L = b.L; P = b.P }

-- A book with another section R.
abbrev with_r : Book → List Entry → Book
with_r b es = record { k = b.k; T = b.T; R = es; L = b.L; P = b.P }

-- A book with another section L.
abbrev pub with_l : Book → List Entry → Book
with_l b es = record { k = b.k; T = b.T; R = b.R; L = es; P = b.P }

-- A book with another section P.
abbrev with_p : Book → List Entry → Book
with_p b es = record { k = b.k; T = b.T; R = b.R; L = b.L; P = es }

-- An entry twice, one behind the other.
abbrev twice : List Entry → List Entry
twice [] = []
twice (e ∷ es) = e ∷ e ∷ es

-- The book of A and B is in form; with two entries of T, L or P exchanged, one twice in R, a tree too deep in R, L or P, or one not deep enough in P, it is not.
sections : (formed (lay 110 book_ab) ≡ true)
    × (formed (lay 110 (with_t book_ab (exchanged book_ab.T))) ≡ false)
    × (formed (lay 110 (with_l book_ab (exchanged book_ab.L))) ≡ false)
    × (formed (lay 110 (with_p book_ab (exchanged book_ab.P))) ≡ false)
    × (formed (lay 140 (with_r book_ab (twice book_ab.R))) ≡ false)
    × (formed (lay 110 (with_p (book_of 2 (times 1 A ∷ [])) book_ab.T)) ≡ false)
    × (formed (lay 140 (with_r book_ab book_ab.T)) ≡ false)
    × (formed (lay 140 (with_l book_ab book_ab.T)) ≡ false)
    × (formed (lay 110 (with_p book_ab book_ab.R)) ≡ false)
unfolding computes
sections = (refl, refl, refl, refl, refl, refl, refl, refl, refl)

-- The book of A taught once and B taught twice, k = 3.
abbrev book_abb : Book
book_abb = book_of 3 (times 1 A ∷ times 2 B ∷ [])

-- The first entry counts one more.
abbrev raised : List Entry → List Entry
raised [] = []
raised (e ∷ es) = counted e.key (e.count + 1) ∷ es

-- The first entry is taken out.
abbrev lacking : List Entry → List Entry
lacking [] = []
lacking (e ∷ es) = es

-- It agrees with itself; with one count of L changed, or an entry of P taken out, it does not.
agreement : (agreeing book_abb ≡ true) × (agreeing (with_l book_abb (raised book_abb.L)) ≡ false) × (agreeing (with_p book_abb (lacking book_abb.P)) ≡ false)
unfolding computes
agreement = (refl, refl, refl)

-- With 65,535 live teachings in all a book is in form; with one more it is not, though each count is at most 65,535.
sums : (in_form (book_of 2 (times 65534 single ∷ times 1 (node 2000 bare) ∷ [])) ≡ true)
    × (in_form (book_of 2 (times 65534 single ∷ times 2 (node 2000 bare) ∷ [])) ≡ false)
unfolding computes
sums = (refl, refl)

-- A part that occurs twice in an order counts once: 1(2,2) at k = 2, taught 3 times.
once : (book_of 2 (times 3 (node 1 (cons (node 2 bare) (cons (node 2 bare) bare))) ∷ [])).L ≡ counted (2 ∷ 0 ∷ []) 3 ∷ []
unfolding computes
once = refl

-- ---- refusals

-- In one word less than case 3 needs, B is refused by 6, and A, withdrawn then, leaves the opened book; and case 5 in one word less.
one-word_short : (heard (opens 3 ∷ teaches A ∷ teaches B ∷ withdraws A ∷ []) (slice 108) ≡ (0 ∷ 0 ∷ 7 ∷ []) ∷ (0 ∷ 0 ∷ 59 ∷ []) ∷ (6 ∷ 0 ∷ 59 ∷ []) ∷ (0 ∷ 0 ∷ 7 ∷ []) ∷ [])
    × (heard (opens 2 ∷ teaches A ∷ []) (slice 50) ≡ (0 ∷ 0 ∷ 7 ∷ []) ∷ (6 ∷ 0 ∷ 7 ∷ []) ∷ [])
unfolding computes
one-word_short = (refl, refl)

-- "Withdrawing any order whose parts are all present: C in case 7 passes but was never taught, so 8."
never_taught : (has_parts C (book_of 2 (times 1 A ∷ times 1 B ∷ [])) ≡ true)
    × (heard (opens 2 ∷ teaches A ∷ teaches B ∷ withdraws C ∷ []) (slice 87) ≡ (0 ∷ 0 ∷ 7 ∷ []) ∷ (0 ∷ 0 ∷ 51 ∷ []) ∷ (0 ∷ 0 ∷ 87 ∷ []) ∷ (8 ∷ 0 ∷ 87 ∷ []) ∷ [])
unfolding computes
never_taught = (refl, refl)

-- With 65,534 live teachings one more is taught; with 65,535, in word 2, another order is refused by 7, though there is room.
word_2_full : heard (teaches single ∷ teaches A ∷ []) (lay 60 (book_of 2 (times 65534 single ∷ []))) ≡ (0 ∷ 0 ∷ 19 ∷ []) ∷ (7 ∷ 0 ∷ 19 ∷ []) ∷ []
unfolding computes
word_2_full = refl

-- A part that counts 65,535 in L is "a touched count": its order is refused by 7 with one live teaching.
count-full : heard (teaches single ∷ []) (lay 19 (with_l (book_of 2 (times 1 single ∷ [])) (counted (words single) 65535 ∷ []))) ≡ (7 ∷ 0 ∷ 19 ∷ []) ∷ []
unfolding computes
count-full = refl

-- The book of A, k = 3, without its middle part.
abbrev pub lacks_middle : Book
lacks_middle = with_p (book_of 3 (times 1 A ∷ [])) []

-- It is in form and does not agree with itself, so that checking it answers 9, and withdrawing A is refused by 9.
missing-part : (in_form lacks_middle ≡ true) × (agree_of (lay 60 lacks_middle) ≡ answered 9) × (heard (withdraws A ∷ []) (lay 60 lacks_middle) ≡ (9 ∷ 0 ∷ 47 ∷ []) ∷ [])
unfolding computes
missing-part = (refl, refl, refl)

-- ---- books joined

-- The book of A alone, k = 3.
abbrev book_a : Book
book_a = book_of 3 (times 1 A ∷ [])

-- The book of B alone.
abbrev book_b : Book
book_b = book_of 3 (times 1 B ∷ [])

-- A and B taught in two books and joined are the book of both, of 109 words, either way round; in 108 words 6. The other's slice may be as long as it needs.
joined-both : (join_of (lay 109 book_a) (lay 69 book_b) ≡ outcome (answered 0) (lay 109 book_ab))
    × (join_of (lay 109 book_b) (lay 59 book_a) ≡ outcome (answered 0) (lay 109 book_ab))
    × (join_of (lay 108 book_a) (lay 69 book_b) ≡ leave (lay 108 book_a) 6)
unfolding computes
joined-both = (refl, refl, refl)

-- A book joined with a copy of itself counts everything twice, in no more words.
joined-twice : join_of (lay 59 book_a) (lay 59 book_a) ≡ outcome (answered 0) (lay 59 (book_of 3 (times 2 A ∷ [])))
unfolding computes
joined-twice = refl

-- An empty book of the same k leaves a book with no free word as it is, and one of another k is 15.
joined-empty : (join_of (lay 59 book_a) (lay 7 (book_of 3 [])) ≡ outcome (answered 0) (lay 59 book_a)) × (join_of (lay 59 book_a) (lay 7 (book_of 2 [])) ≡ leave (lay 59 book_a) 15)
unfolding computes
joined-empty = (refl, refl)

-- 40,000 and 25,535 teachings are 65,535; with one more in the other it is 7.
joined-counts : (join_of (lay 19 (book_of 2 (times 40000 single ∷ []))) (lay 19 (book_of 2 (times 25535 single ∷ []))) ≡ outcome (answered 0) (lay 19 (book_of 2 (times 65535 single ∷ []))))
    × ((join_of (lay 19 (book_of 2 (times 40000 single ∷ []))) (lay 19 (book_of 2 (times 25536 single ∷ [])))).answer.number ≡ 7)
unfolding computes
joined-counts = (refl, refl)

-- ---- what a book lets in

-- The book of A and B, k = 2.
abbrev book_ab2 : Book
book_ab2 = book_of 2 (times 1 A ∷ times 1 B ∷ [])

-- The book of A and B, k = 6.
abbrev book_ab6 : Book
book_ab6 = book_of 6 (times 1 A ∷ times 1 B ∷ [])

-- By A and B at k = 2 passes C, which nobody built, and at k = 3 it does not; at k = 6, where k-2 is at least the depth of both, A and B pass and C does not.
deeper : (judge_of (lay 87 book_ab2) (words C) ≡ answered 0)
    × (judge_of (lay 109 book_ab) (words C) ≡ record { number = 22; line = 1 })
    × (judge_of (lay 127 book_ab6) (words C) ≡ record { number = 21; line = 1 })
    × (judge_of (lay 127 book_ab6) (words A) ≡ answered 0)
    × (judge_of (lay 127 book_ab6) (words B) ≡ answered 0)
unfolding computes
deeper = (refl, refl, refl, refl, refl)

-- What the book expected, by A and B: of C at k = 3, case 6, a middle part between those of A and B, which differ from it in the number of options below 3000 and
-- in 0010; of A with nothing below 3000, a low part between 2000(16) and 3000(3001); of 1001, a low part above ten and sixteen; of 3001, a low part that is in
-- the book, and so of the top, above 1000(2000,3000); and nothing of C at k = 2 and of A, which pass, of words that are no order, and of no book.
expects_rows : (expected_of (lay 109 book_ab) (words C) ≡ near 1 false 8 5)
    × (expected_of (lay 109 book_ab) (words (node 1000 (cons (node 2000 (cons (node 10 bare) bare)) (cons (node 3000 bare) bare)))) ≡ near 4 false 1 2)
    × (expected_of (lay 109 book_ab) (words (node 1001 bare)) ≡ near 2 false 1 1)
    × (expected_of (lay 109 book_ab) (words (node 3001 bare)) ≡ near 1 false 1 0)
    × (expected_of (lay 87 book_ab2) (words C) ≡ nowhere)
    × (expected_of (lay 109 book_ab) (words A) ≡ nowhere)
    × (expected_of (lay 109 book_ab) (1 ∷ []) ≡ nowhere)
    × (expected_of [] (words A) ≡ nowhere)
unfolding computes signed_from signed_of entries_below entries_above last_place first_place near_of near_part near_top expected_on expected expected_of
expects_rows = (refl, refl, refl, refl, refl, refl, refl, refl)

-- Of a book in form that agrees with itself, laid in a slice that it fits: its own sets include all that is taught to it, and an order that is not answered by 0 is none of
-- their forms.
own_forms : (n : ℕ) (b : Book) → in_form b ≡ true → agreeing b ≡ true → used b ≤ n → n ≤ most_book_words
    → (t : Tree) → order_of (words t) ≡ order t → (m : ℕ) → 1 ≤ m → (judge_of (lay n b) (words t)).number ≡ m
    → IncludeTaught b (sets_of b) × (FormOf b.k (sets_of b) t → ⊥)
own_forms n b form agreed fits short t limits m some e =
    let is : IsBook (lay n b) b = laid-book n b form fits short in
    let o = own_sets (lay n b) b is ((sound-agreeing b is.sound).0 agreed) in
    (o.0, λ f. omega (arith, e, (o.1 (words t) t (read-order (words t) t limits)).1 f))

-- The book of A, k = 2.
abbrev book_a2 : Book
book_a2 = book_of 2 (times 1 A ∷ [])

-- The same with 1000 in L, which is a low part of no taught order.
abbrev strange_l : Book
strange_l = with_l book_a2 (add 1 (words single) book_a2.L)

-- `no_more` is false of a book that does not agree with itself: that one is in form, and is checked with 9; the parts of A are three sets whose forms include all
-- that is taught to it; and it passes 1000, which is none of their forms.
lets_in_more : IsBook (lay 55 strange_l) strange_l × (agree_of (lay 55 strange_l) ≡ answered 9) × IncludeTaught strange_l (sets_of book_a2)
    × (judge_of (lay 55 strange_l) (words single) ≡ answered 0)
    × (FormOf strange_l.k (sets_of book_a2) single → ⊥)
unfolding computes
lets_in_more =
    let o = own_forms 51 book_a2 refl refl (omega arith) (omega arith) single refl 21 (omega arith) refl in
    (laid-book 55 strange_l refl (omega arith) (omega arith), refl, o.0, refl, o.1)

-- `no_more` is false of sets at a greater k than the book's: the parts of A and B at k = 3 are three sets whose forms at 3 include all that is taught to the book of A and
-- B at k = 2; and it passes C, which is none of their forms.
sets_too_deep : ((u : Tree) → TaughtIn book_ab2 u → FormOf 3 (sets_of book_ab) u) × (judge_of (lay 87 book_ab2) (words C) ≡ answered 0) × (FormOf 3 (sets_of book_ab) C → ⊥)
unfolding computes
sets_too_deep =
    let o = own_forms 109 book_ab refl refl (omega arith) (omega arith) C refl 22 (omega arith) refl in
    (o.0, refl, o.1)
