-- What the desk prints, by demands 2 and 3 (01, "Forms on the desk"): one line for the opening, which is done, and one for each form, which is its answer
-- on the book as the forms before it left it. That book holds exactly the orders that remain of those forms, the words used that are printed are its
-- own, an order passes exactly if it is made of parts of these orders, is taught exactly if there is room and withdrawn exactly if it remains, and no
-- form is answered by another number than 0, 2 and 10, below T 6, below W 8, and below J 20, 21 and 22. By a fault its line is all that is printed.
--
-- The orders that remain are those of demand 3, by the calls that the forms make (`made_by`, specs/AtTheDesk.antt). Assumes nothing.
use Rattle.std.specs.Prelude.{Err}
use Prim.Native.Nat.{ℕ, ◌+◌, ◌≤◌, ◌<◌}
use mathlib.Core.Path.{◌≡◌, refl, sym, ap, ap₂, subst, ◌∙◌}
use mathlib.Core.Bool.{Bool, true, false}
use mathlib.Core.List.{List, [], ◌∷◌, ◌++◌, append-nil}
use native.Mathlib.Decide.{dec_lt}
use native.Mathlib.Omega.{arith}
use lib.ListN.{length, length-append, length-replicate, get_or, replicate}
use Rattle.words.proofs.Tests.{never}
use Rattle.words.specs.Base.{when◌then◌else◌, ◌exactly_when◌}
use Rattle.figures.specs.Limits.{head_words, desk_book_words, least_k, greatest_k, greatest_count, used_word}
use Rattle.figures.specs.Numbers.{done, no_room, not_taught, top_unknown, low_unknown, middle_unknown}
use Rattle.figures.specs.Answers.{answered}
use Rattle.figures.specs.declared.Answer.{Answer}
use Rattle.section.specs.Entries.{has}
use Rattle.order.specs.Trees.{Tree, words, subtrees}
use Rattle.order.specs.Fits.{IsOrder}
use Rattle.order.specs.Parts.{top, is_low}
use Rattle.order.proofs.Fitting.{order-read, read-order}
use Rattle.form.specs.Text.{text_of}
use Rattle.form.specs.Reading.{Form, fault, form, by_form, form_of, words_of_lines}
use Rattle.form.proofs.Trips.{form-order}
use Rattle.book.specs.Book.{Book, used}
use Rattle.book.specs.Opening.{outcome, open_of}
use Rattle.book.specs.Taught.{book_of}
use Rattle.book.proofs.Sound.{head_says}
use Rattle.book.proofs.Openings.{opened-book, opened-used, number_is}
use Rattle.book_judging.specs.Judging.{Doubt, no_doubt, doubt, least_to_fix, verdict_on, verdict, judge_of}
use Rattle.book_judging.proofs.Judgements.{by_verdict}
use Rattle.book_teaching.specs.Calls.{teach_of, withdraw_of}
use Rattle.book_teaching.proofs.Conditions.{teach-refusal_leaves, withdraw-refusal_leaves}
use Rattle.desk_line.specs.Replies.{reply}
use Rattle.desk_input.specs.Sheets.{letter_K, letter_byte, FormCall, Handed, faulty, handed, handed_in, opening_by, opening_of, front_answer}
use Rattle.desk_input.specs.declared.Letter.{Letter}
use Rattle.desk_input.specs.declared.Letter.TheVariants.{Teach, Withdraw, Judge}
use Rattle.desk_call.specs.Asking.{ask_of, call_of}
use Rattle.desk_step.specs.Desk.{line_for, lines_for, printed_for, desk_of}
use Rattle.promises.specs.Remaining.{after, remaining, times_of, booked, ExactlyThese, MadeOf}
use Rattle.promises.specs.Starts.{opening}
use Rattle.promises.specs.AtTheDesk.{made_by, book_after, DeskNumber, is_done, is_no_room, is_not_taught, is_top, is-low, is-middle}
use Rattle.promises.proofs.Laws.Handing.{allowed-k, few-calls, forms-after, forms-make, forms-one, few-left, book-then, lines_split, asks-order, text-refused_by}
use Rattle.promises.proofs.Demand3.{opening-done, parts-and_counts, taught-exactly, refused-by_6, refused-by_8, withdrawn-exactly}
use Rattle.promises.proofs.Laws.Passing.{passes-made}
use Rattle.promises.proofs.Uniqueness.{booked-is}

-- ---- the book after forms

-- The book after forms is the book after the calls that they make.
pub book-after : (cs : List FormCall) (ws : List ℕ) → book_after cs ws ≡ after (made_by cs) ws
book-after = forms-after

-- ---- the desk's slice

-- "with a book of 8,192 words": the slice before it is opened.
unfoldable pub blank : List ℕ
blank = replicate desk_book_words 0

-- It has so many words.
pub blank_long : length blank ≡ desk_book_words
unfolding blank
blank_long = length-replicate {A = ℕ} desk_book_words 0

-- ---- verdicts

-- A verdict is 0, 20, 21 or 22.
verdict-number : (b : Book) (t : Tree) → DeskNumber Judge (verdict b t).number
unfolding verdict verdict_on when◌then◌else◌
verdict-number b t = go (least_to_fix b 1 (subtrees t))
  where
    -- By whether the top is known.
    tops : (x : Bool) → DeskNumber Judge (when x then answered done else record { number = top_unknown; line = 1 }).number
    tops true = is_done refl
    tops false = is_top refl refl

    -- By whether the part is low.
    parts : (x : Bool) → DeskNumber Judge (when x then low_unknown else middle_unknown)
    parts true = is-low refl refl
    parts false = is-middle refl refl

    -- By the line that is doubted.
    go : (d : Doubt) → DeskNumber Judge (verdict_on b t d).number
    go no_doubt = tops (has (words (top b.k t)) b.R)
    go (doubt line s) = parts (is_low b.k s)

-- ---- faults and refusals

-- By a fault: "That line is then the whole output."
pub fault-alone : (input : List ℕ) (a : Answer) → opening_of input ≡ Err a → desk_of input ≡ reply letter_K a 0
unfolding opening_of desk_of printed_for
fault-alone input a e = go (handed_in input) refl
  where
    -- By what is handed in.
    go : (h : Handed) → handed_in input ≡ h → desk_of input ≡ reply letter_K a 0
    go (faulty b) q = let same : b ≡ a = cc in rw (q, same)
    go (handed k cs) q = never cc

-- "a refusal changes nothing lent to the call": a form that is answered by another number than 0 leaves the book as it came.
pub desk_leaves : (c : FormCall) (book : List ℕ) → ((call_of c book).answer.number ≡ done → ⊥) → (call_of c book).words ≡ book
unfolding call_of by_form ask_of
desk_leaves c book r = go (form_of c.text) c.letter refl refl
  where
    -- By what the text is, and the letter.
    go : (f : Form) (x : Letter) → form_of c.text ≡ f → c.letter ≡ x → (call_of c book).words ≡ book
    go (fault n line) x e l = rw e
    go (form xs) Teach e l = rw (e, l) (teach-refusal_leaves book (words_of_lines xs) (λ z. r (rw (e, l) z)))
    go (form xs) Withdraw e l = rw (e, l) (withdraw-refusal_leaves book (words_of_lines xs) (λ z. r (rw (e, l) z)))
    go (form xs) Judge e l = rw (e, l)

-- A form below J leaves the book as it came.
pub judging_leaves : (text book : List ℕ) → (call_of (record { letter = Judge; text = text }) book).words ≡ book
unfolding call_of by_form ask_of
judging_leaves text book = go (form_of text)
  where
    -- By what the text is.
    go : (f : Form) → (by_form f (λ n line. outcome (record { number = n; line = line }) book) (λ xs. ask_of Judge book (words_of_lines xs))).words ≡ book
    go (fault n line) = refl
    go (form xs) = refl

-- ---- what the desk prints

-- An input without fault: k and forms are handed in.
module _ (input : List ℕ) (k : ℕ) (cs : List FormCall) (is : handed_in input ≡ handed k cs) where
  -- Its k is 2 to 6.
  pub handed-k : (least_k ≤ k) × (k ≤ greatest_k)
  handed-k = allowed-k input k cs is

  -- The opened book.
  abbrev pub opened : List ℕ
  opened = (open_of blank k).words

  -- Opening is done.
  pub opens-by_0 : (open_of blank k).answer ≡ answered done
  opens-by_0 = opening-done blank k (omega (arith, blank_long)) (omega (arith, blank_long)) handed-k.0 handed-k.1

  -- So a run of demand 3 starts with it.
  pub starts : (open_of blank k).answer.number ≡ done
  starts = ap (λ (a : Answer). a.number) opens-by_0

  -- All that is printed is the line of the opening and those of the forms on the opened book.
  prints : desk_of input ≡ line_for letter_K (open_of blank k) ++ lines_for cs opened
  unfolding desk_of printed_for blank
  prints = rw is

  -- "one line for the opening, with letter K": answer 0, line 0, and the words of the head.
  pub first-line_printed : desk_of input ≡ reply letter_K (answered done) head_words ++ lines_for cs opened
  unfolding line_for
  first-line_printed =
      let b = opened-book blank k (omega (arith, blank_long)) (omega (arith, blank_long)) handed-k.0 handed-k.1 in
      let u : get_or opened used_word 0 ≡ head_words = (head_says opened (book_of k []) b).1 ∙ opened-used k in
      prints ∙ ap₂ (λ (a : Answer) (n : ℕ). reply letter_K a n ++ lines_for cs opened) opens-by_0 u

  -- "and one for each form": its answer on the book as the forms before it left it, and the words used then.
  pub line-of_each : (front : List FormCall) (c : FormCall) (back : List FormCall) → cs ≡ front ++ (c ∷ back)
      → desk_of input
      ≡ line_for letter_K (open_of blank k)
      ++ (lines_for front opened
      ++ (line_for (letter_byte c.letter) (call_of c (book_after front opened)) ++ lines_for back (book_after (front ++ (c ∷ [])) opened)))
  line-of_each front c back e =
      prints
      ∙ ap (λ (l : List FormCall). line_for letter_K (open_of blank k) ++ lines_for l opened) e
      ∙ ap (λ (l : List ℕ). line_for letter_K (open_of blank k) ++ l) (lines_split front c back opened)

  -- After some of the forms, from the first on.
  module _ (front : List FormCall) where
    -- The desk's book.
    abbrev pub desk_book : List ℕ
    desk_book = book_after front opened

    -- The orders that remain, each as often as it remains.
    abbrev pub desk_orders : List (List ℕ)
    desk_orders = remaining (made_by front) opened []

    -- "Its parts and counts are exactly those of the orders that remain."
    pub desk_keeps : ExactlyThese k desk_orders desk_book
    desk_keeps = subst (ExactlyThese k desk_orders) (sym (book-after front opened)) (parts-and_counts (opening k) blank starts (made_by front))

    -- The "words used" that are printed are those of the book of these orders.
    pub desk_words-used : get_or desk_book used_word 0 ≡ used (booked k desk_orders)
    desk_words-used = (head_says desk_book desk_keeps.book desk_keeps.is_book).1 ∙ ap used (booked-is k desk_orders desk_book desk_keeps)

    -- "A new order made only of parts the book has seen passes" and no other does: a form J of an order's text is answered by 0 exactly if the order is
    -- made of parts of the orders that remain.
    pub desk_passes : (t : Tree) → IsOrder (words t) t
        → ((call_of (record { letter = Judge; text = text_of t }) desk_book).answer.number ≡ done) exactly_when MadeOf k desk_orders t
    unfolding ask_of
    desk_passes t o =
        let p = passes-made k desk_orders desk_book (words t) t desk_keeps o in
        let e : (call_of (record { letter = Judge; text = text_of t }) desk_book).answer.number ≡ (judge_of desk_book (words t)).number =
        number_is (asks-order Judge t o desk_book) in
        (λ z. p.0 (sym e ∙ z), λ m. e ∙ p.1 m)

    -- Teaching and withdrawing by a form: one with an order's text is answered as the call on the book after the calls that were made.
    module _ (t : Tree) (o : IsOrder (words t) t) where
      -- A form T.
      teaching_is : (call_of (record { letter = Teach; text = text_of t }) desk_book).answer.number
          ≡ (teach_of (after (made_by front) opened) (words t)).answer.number
      unfolding ask_of
      teaching_is =
          number_is (asks-order Teach t o desk_book)
          ∙ ap (λ (ws : List ℕ). (teach_of ws (words t)).answer.number) (book-after front opened)

      -- A form W.
      withdrawing_is : (call_of (record { letter = Withdraw; text = text_of t }) desk_book).answer.number
          ≡ (withdraw_of (after (made_by front) opened) (words t)).answer.number
      unfolding ask_of
      withdrawing_is =
          number_is (asks-order Withdraw t o desk_book)
          ∙ ap (λ (ws : List ℕ). (withdraw_of ws (words t)).answer.number) (book-after front opened)

    -- A form T of an order's text is answered by 0 exactly if fewer than 65,535 orders remain and the book of these with this one more has room in
    -- the slice: neither "live teachings or a touched count would pass 65,535" nor "the result needs more words than the book slice has".
    pub desk_taught : (t : Tree) → IsOrder (words t) t
        → ((call_of (record { letter = Teach; text = text_of t }) desk_book).answer.number ≡ done)
        exactly_when ((length desk_orders < greatest_count) × (used (booked k (words t ∷ desk_orders)) ≤ desk_book_words))
    desk_taught t o =
        let p = taught-exactly (opening k) blank starts (made_by front) (words t) t o in
        let e = teaching_is t o in
        (λ z. let q = p.0 (sym e ∙ z) in (q.0, omega (arith, q.1, blank_long)), λ q. e ∙ p.1 (q.0, omega (arith, q.1, blank_long)))

    -- It is answered by 6 exactly if fewer than 65,535 orders remain and "the result needs more words than the book slice has".
    pub desk_no_room : (t : Tree) → IsOrder (words t) t
        → ((call_of (record { letter = Teach; text = text_of t }) desk_book).answer.number ≡ no_room)
        exactly_when ((length desk_orders < greatest_count) × (desk_book_words < used (booked k (words t ∷ desk_orders))))
    desk_no_room t o =
        let p = refused-by_6 (opening k) blank starts (made_by front) (words t) t o in
        let e = teaching_is t o in
        (λ z. let q = p.0 (sym e ∙ z) in (q.0, omega (arith, q.1, blank_long)), λ q. e ∙ p.1 (q.0, omega (arith, q.1, blank_long)))

    -- A form W of an order's text is answered by 0 exactly if such an order remains, so that it is not so that "order has no entry in T",
    pub desk_withdrawn : (t : Tree) → IsOrder (words t) t
        → ((call_of (record { letter = Withdraw; text = text_of t }) desk_book).answer.number ≡ done) exactly_when (1 ≤ times_of (words t) desk_orders)
    desk_withdrawn t o =
        let p = withdrawn-exactly (opening k) blank starts (made_by front) (words t) t o in
        let e = withdrawing_is t o in
        (λ z. p.0 (sym e ∙ z), λ q. e ∙ p.1 q)

    -- and by 8, "order has no entry in T", exactly if none remains.
    pub desk_not_taught : (t : Tree) → IsOrder (words t) t
        → ((call_of (record { letter = Withdraw; text = text_of t }) desk_book).answer.number ≡ not_taught) exactly_when (times_of (words t) desk_orders ≡ 0)
    desk_not_taught t o =
        let p = refused-by_8 (opening k) blank starts (made_by front) (words t) t o in
        let e = withdrawing_is t o in
        (λ z. p.0 (sym e ∙ z), λ q. e ∙ p.1 q)

    -- Fewer than 65,535 orders remain of forms that have one behind them: each takes a byte of the input at least.
    fewer-remain : (c : FormCall) (back : List FormCall) → cs ≡ front ++ (c ∷ back) → length desk_orders < greatest_count
    fewer-remain c back e =
        let n : length cs ≡ length front + length (c ∷ back) = ap length e ∙ length-append front (c ∷ back) in
        omega (arith, few-left (made_by front) opened [] (forms-one front), forms-make front, few-calls input k cs is)

    -- Teaching an order is done or refused by 6.
    teaching_number : (c : FormCall) (back : List FormCall) → cs ≡ front ++ (c ∷ back) → (os : List ℕ) (t : Tree) → IsOrder os t
        → DeskNumber Teach (teach_of (after (made_by front) opened) os).answer.number
    teaching_number c back e os t o = go (dec_lt (length blank) (used (booked k (os ∷ desk_orders))))
      where
        -- By whether there is room.
        go : Dec (length blank < used (booked k (os ∷ desk_orders))) → DeskNumber Teach (teach_of (after (made_by front) opened) os).answer.number
        go (yes h) = is_no_room refl ((refused-by_6 (opening k) blank starts (made_by front) os t o).1 (fewer-remain c back e, h))
        go (no h) = is_done ((taught-exactly (opening k) blank starts (made_by front) os t o).1 (fewer-remain c back e, omega arith))

    -- Withdrawing one is done or refused by 8.
    withdrawing_number : (os : List ℕ) (t : Tree) → IsOrder os t → DeskNumber Withdraw (withdraw_of (after (made_by front) opened) os).answer.number
    withdrawing_number os t o = go (dec_lt 0 (times_of os desk_orders))
      where
        -- By whether it remains.
        go : Dec (0 < times_of os desk_orders) → DeskNumber Withdraw (withdraw_of (after (made_by front) opened) os).answer.number
        go (yes h) = is_done ((withdrawn-exactly (opening k) blank starts (made_by front) os t o).1 h)
        go (no h) = is_not_taught refl ((refused-by_8 (opening k) blank starts (made_by front) os t o).1 (omega arith))

    -- Judging one is answered by the verdict.
    judging_number : (os : List ℕ) (t : Tree) → IsOrder os t → DeskNumber Judge (judge_of desk_book os).number
    judging_number os t o =
        subst (λ (a : Answer). DeskNumber Judge a.number) (sym (by_verdict desk_book os desk_keeps.book desk_keeps.is_book t (order-read os t o)))
        (verdict-number desk_keeps.book t)

    -- The numbers that the desk prints for a form: 0, 2 and 10, below T 6, below W 8, below J 20, 21 and 22, and no others. 1 is not printed, since a text that is read is an order; 3
    -- and 4 are not, since a form opens no book and the desk's has a size for one; 5 and 9 are not, since it is in form and agrees with itself; 7 is not,
    -- since fewer orders remain than the input has bytes; 11 to 14 are not, since an order has room and no file is read.
    pub desk_numbers : (c : FormCall) (back : List FormCall) → cs ≡ front ++ (c ∷ back) → DeskNumber c.letter (call_of c desk_book).answer.number
    unfolding call_of by_form ask_of
    desk_numbers c back e = by_form_lem (form_of c.text) refl
      where
        -- Of a text that is an order, by the letter.
        by_letter : (x : Letter) (os : List ℕ) (t : Tree) → IsOrder os t → DeskNumber x (ask_of x desk_book os).answer.number
        by_letter Teach os t o =
            subst (λ (ws : List ℕ). DeskNumber Teach (teach_of ws os).answer.number) (sym (book-after front opened)) (teaching_number c back e os t o)
        by_letter Withdraw os t o =
            subst (λ (ws : List ℕ). DeskNumber Withdraw (withdraw_of ws os).answer.number) (sym (book-after front opened)) (withdrawing_number os t o)
        by_letter Judge os t o = judging_number os t o

        -- By what the text is.
        by_form_lem : (f : Form) → form_of c.text ≡ f
            → DeskNumber c.letter (by_form f (λ n line. outcome (record { number = n; line = line }) desk_book)
            (λ xs. ask_of c.letter desk_book (words_of_lines xs))).answer.number
        by_form_lem (fault n line) q = text-refused_by c.letter c.text q
        by_form_lem (form xs) q = let f = form-order c.text xs q in by_letter c.letter (words_of_lines xs) f.0 (read-order (words_of_lines xs) f.0 f.1)

  -- The line of each form: its letter, its answer on the book as the forms before it left it, and the words used of the book of the orders that remain
  -- after it.
  pub line-says : (front : List FormCall) (c : FormCall) → line_for (letter_byte c.letter) (call_of c (desk_book front))
      ≡ reply (letter_byte c.letter) (call_of c (desk_book front)).answer (used (booked k (desk_orders (front ++ (c ∷ [])))))
  unfolding line_for
  line-says front c =
      ap (reply (letter_byte c.letter) (call_of c (desk_book front)).answer)
      (ap (λ (ws : List ℕ). get_or ws used_word 0) (sym (book-then front c opened)) ∙ desk_words-used (front ++ (c ∷ [])))

-- The first line of any input is that of its opening or of its first fault, by the number and the line of `desk_input::opening`.
pub first-answer : (input : List ℕ) → (used : ℕ) × (rest : List ℕ) × (desk_of input ≡ reply letter_K (front_answer (opening_of input)) used ++ rest)
unfolding opening_of
first-answer input = go (handed_in input) refl
  where
    -- By what is handed in.
    go : (h : Handed) → handed_in input ≡ h → (used : ℕ) × (rest : List ℕ) × (desk_of input ≡ reply letter_K (front_answer (opening_by (handed_in input))) used ++ rest)
    go (faulty a) q =
        let f : opening_of input ≡ Err a = ap opening_by q in
        (0, [], fault-alone input a f ∙ sym (append-nil (reply letter_K a 0)) ∙ ap (λ (h : Handed). reply letter_K (front_answer (opening_by h)) 0 ++ []) (sym q))
    go (handed k cs) q =
        (head_words, lines_for cs (opened input k cs q), first-line_printed input k cs q ∙ ap (λ (h : Handed). reply letter_K (front_answer (opening_by h)) head_words ++ lines_for cs (opened input k cs q)) (sym q))
