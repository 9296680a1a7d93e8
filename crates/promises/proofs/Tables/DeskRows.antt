-- The run that 01 prints for the desk, byte by byte, the lines of its opening and of its faults for any input, and rows for these. What is small is
-- computed. The desk's slice of 8,192 words is not: a call on a slice goes by the book that is laid in it, and these books are small. Assumes nothing.
use Rattle.std.specs.Prelude.{Err}
use Prim.Native.Nat.{ℕ, suc, ◌≤◌, ◌<◌}
use mathlib.Core.Path.{◌≡◌, refl, sym, ap, ap₂, ◌∙◌}
use mathlib.Core.Bool.{true}
use mathlib.Core.List.{List, [], ◌∷◌, ◌++◌}
use native.Mathlib.Decide.{dec_lt}
use native.Mathlib.Omega.{arith}
use borrow.Author.Tests.{lt-ltb}
use lib.ListN.{length, take}
use lib.Seq.{take_all, length-take-le}
use Rattle.words.specs.Base.{when◌then◌else◌}
use Rattle.figures.specs.Limits.{head_words, most_book_words, desk_book_words, least_k, greatest_k, most_input}
use Rattle.figures.specs.Numbers.{done, too_large, k_outside, no_form}
use Rattle.figures.specs.Answers.{answered}
use Rattle.figures.specs.declared.Answer.{Answer}
use Rattle.order.specs.Trees.{Tree, node, bare, cons, words}
use Rattle.order.specs.Reading.{order_of, order}
use Rattle.order.proofs.Fitting.{read-order}
use Rattle.form.specs.Text.{text_of}
use Rattle.form.specs.Reading.{by_form, form_of}
use Rattle.book.specs.Book.{Book, used, encode, lay, in_form}
use Rattle.book.specs.Sound.{IsBook}
use Rattle.book.specs.Taught.{taught, book_of}
use Rattle.book.specs.Opening.{outcome, open_of}
use Rattle.book.proofs.Meaning.{read_back, lay-long}
use Rattle.book.proofs.Sound.{form-sound}
use Rattle.book.proofs.Heads.{is-sized}
use Rattle.book.proofs.Openings.{opened as opening-is, words_are}
use Rattle.book_judging.specs.Judging.{verdict}
use Rattle.book_judging.proofs.Judgements.{by_verdict}
use Rattle.book_change.specs.Counts.{within_counts}
use Rattle.book_teaching.specs.Calls.{withdrawn, has_parts}
use Rattle.section.specs.Entries.{has}
use Rattle.book_teaching.specs.Conditions.{BookAndOrder}
use Rattle.book_teaching.proofs.Calling.{teach-does, withdraw-does}
use Rattle.desk_line.specs.Replies.{reply}
use Rattle.desk_input.specs.Sheets.{letter_K, letter_byte, FormCall, faulty, handed, handed_in, opening_of}
use Rattle.desk_input.specs.declared.Letter.{Letter}
use Rattle.desk_input.specs.declared.Letter.TheVariants.{Teach, Withdraw, Judge}
use Rattle.desk_call.specs.Asking.{ask_of, call_of}
use Rattle.desk_step.specs.Desk.{line_for, lines_for, desk_of}
use Rattle.promises.specs.Heard.{A}
use Rattle.promises.proofs.Laws.Handing.{asks-order}
use Rattle.promises.proofs.AtTheDesk.{blank, blank_long, fault-alone, first-line_printed}
use Rattle.promises.proofs.Tables.Computed.{computes, desk_computes}

-- ---- books in a slice

-- A book in form, laid in a slice of a size for a book that has room for it,
module _ (n : ℕ) (long : head_words ≤ n) (short : n ≤ most_book_words) (b : Book) (f : in_form b ≡ true) (room : used b ≤ n) where
  -- fills the slice,
  laid-long : length (lay n b) ≡ n
  laid-long = lay-long n b room

  -- and the slice is that book.
  laid-book : IsBook (lay n b) b
  laid-book = record {
    long = omega (arith, laid-long);
    short = omega (arith, laid-long);
    sound = form-sound b f;
    laid = ap (λ (m : ℕ). lay m b) laid-long;
  }

  -- A form with the text of an order
  module _ (t : Tree) (o : order_of (words t) ≡ order t) where
    -- meets that book and that order.
    laid-met : BookAndOrder (lay n b) (words t) b t
    laid-met = record {
      size = is-sized (lay n b) laid-book.long laid-book.short;
      is_book = read_back n b f;
      is_order = o;
    }

    -- It asks for that order.
    asks-it : (x : Letter) → call_of (record { letter = x; text = text_of t }) (lay n b) ≡ ask_of x (lay n b) (words t)
    asks-it x = asks-order x t (read-order (words t) t o) (lay n b)

    -- Where the counts fit then and there is room, it is taught.
    taught-laid : within_counts (taught 1 t b) ≡ true → used (taught 1 t b) ≤ n
        → call_of (record { letter = Teach; text = text_of t }) (lay n b) ≡ outcome (answered done) (lay n (taught 1 t b))
    unfolding ask_of
    taught-laid w r =
        asks-it Teach ∙ teach-does (lay n b) (words t) b t laid-met w (omega (arith, laid-long))
        ∙ ap (λ (m : ℕ). outcome (answered done) (lay m (taught 1 t b))) laid-long

    -- Where it and its parts have entries, it is withdrawn.
    withdrawn-laid : has (words t) b.T ≡ true → has_parts t b ≡ true
        → call_of (record { letter = Withdraw; text = text_of t }) (lay n b) ≡ outcome (answered done) (lay n (withdrawn t b))
    unfolding ask_of
    withdrawn-laid h p =
        asks-it Withdraw ∙ withdraw-does (lay n b) (words t) b t laid-met h p ∙ ap (λ (m : ℕ). outcome (answered done) (lay m (withdrawn t b))) laid-long

    -- It is judged by the verdict.
    judged-laid : call_of (record { letter = Judge; text = text_of t }) (lay n b) ≡ outcome (verdict b t) (lay n b)
    unfolding ask_of
    judged-laid = asks-it Judge ∙ ap (λ (a : Answer). outcome a (lay n b)) (by_verdict (lay n b) (words t) b laid-book t o)

-- ---- lines of calls

-- The lines of calls, by the line of the first, the book that it leaves, and the lines of the others on that book.
line-then : (n : ℕ) (c : FormCall) (cs : List FormCall) (ws : List ℕ) (a : Answer) (b : Book) (says rest : List ℕ) → call_of c ws ≡ outcome a (lay n b)
    → reply (letter_byte c.letter) a (used b) ≡ says → lines_for cs (lay n b) ≡ rest → lines_for (c ∷ cs) ws ≡ says ++ rest
unfolding lines_for line_for lay encode
line-then n c cs ws a b says rest e f g = rw e (ap₂ (λ (x y : List ℕ). x ++ y) f g)

-- No calls have no lines.
no_lines : (ws : List ℕ) → lines_for [] ws ≡ []
unfolding lines_for
no_lines ws = refl

-- The opened book of the desk.
desk_opened : (k : ℕ) → least_k ≤ k → k ≤ greatest_k → (open_of blank k).words ≡ lay desk_book_words (book_of k [])
desk_opened k least greatest =
    words_are (opening-is blank k (omega (arith, blank_long)) (omega (arith, blank_long)) least greatest) ∙ ap (λ (m : ℕ). lay m (book_of k [])) blank_long

-- ---- the printed run

-- "0 1000" LF
abbrev top-1000 : List ℕ
top-1000 = 48 ∷ 32 ∷ 49 ∷ 48 ∷ 48 ∷ 48 ∷ 10 ∷ []

-- "1 2000" LF
abbrev child-2000 : List ℕ
child-2000 = 49 ∷ 32 ∷ 50 ∷ 48 ∷ 48 ∷ 48 ∷ 10 ∷ []

-- "2 0010" LF
abbrev leaf_0010 : List ℕ
leaf_0010 = 50 ∷ 32 ∷ 48 ∷ 48 ∷ 49 ∷ 48 ∷ 10 ∷ []

-- "2 0016" LF
abbrev leaf_0016 : List ℕ
leaf_0016 = 50 ∷ 32 ∷ 48 ∷ 48 ∷ 49 ∷ 54 ∷ 10 ∷ []

-- "1 3000" LF
abbrev child-3000 : List ℕ
child-3000 = 49 ∷ 32 ∷ 51 ∷ 48 ∷ 48 ∷ 48 ∷ 10 ∷ []

-- "2 3001" LF
abbrev leaf_3001 : List ℕ
leaf_3001 = 50 ∷ 32 ∷ 51 ∷ 48 ∷ 48 ∷ 49 ∷ 10 ∷ []

-- The form of 1000(2000(0010),3000(3001)), which is A.
abbrev form-A : List ℕ
form-A = top-1000 ++ (child-2000 ++ (leaf_0010 ++ (child-3000 ++ leaf_3001)))

-- The form of 1000(2000(0016),3000(3001)).
abbrev form-D : List ℕ
form-D = top-1000 ++ (child-2000 ++ (leaf_0016 ++ (child-3000 ++ leaf_3001)))

-- "K 3" LF
abbrev line-K : List ℕ
line-K = 75 ∷ 32 ∷ 51 ∷ 10 ∷ []

-- "T" LF
abbrev line-T : List ℕ
line-T = 84 ∷ 10 ∷ []

-- "W" LF
abbrev line-W : List ℕ
line-W = 87 ∷ 10 ∷ []

-- "J" LF
abbrev line-J : List ℕ
line-J = 74 ∷ 10 ∷ []

-- The input: K 3, and the forms T A, J D, W A and J A.
abbrev printed_input : List ℕ
printed_input = line-K ++ (line-T ++ (form-A ++ (line-J ++ (form-D ++ (line-W ++ (form-A ++ (line-J ++ form-A)))))))

-- Its orders are A, and A with 0016 for 0010.
abbrev D : Tree
D = node 1000 (cons (node 2000 (cons (node 16 bare) bare)) (cons (node 3000 (cons (node 3001 bare) bare)) bare))

-- What it hands in: k = 3, and four calls with the texts of these orders.
abbrev printed_calls : List FormCall
printed_calls =
    record { letter = Teach; text = text_of A } ∷ record { letter = Judge; text = text_of D } ∷ record { letter = Withdraw; text = text_of A }
    ∷ record { letter = Judge; text = text_of A } ∷ []

-- It hands in these.
hands_in_printed : handed_in printed_input ≡ handed 3 printed_calls
unfolding desk_computes
hands_in_printed = refl

-- "K 0 0 7" LF
abbrev says-K : List ℕ
says-K = 75 ∷ 32 ∷ 48 ∷ 32 ∷ 48 ∷ 32 ∷ 55 ∷ 10 ∷ []

-- "T 0 0 59" LF
abbrev says-T : List ℕ
says-T = 84 ∷ 32 ∷ 48 ∷ 32 ∷ 48 ∷ 32 ∷ 53 ∷ 57 ∷ 10 ∷ []

-- "J 21 3 59" LF
abbrev says-J_D : List ℕ
says-J_D = 74 ∷ 32 ∷ 50 ∷ 49 ∷ 32 ∷ 51 ∷ 32 ∷ 53 ∷ 57 ∷ 10 ∷ []

-- "W 0 0 7" LF
abbrev says-W : List ℕ
says-W = 87 ∷ 32 ∷ 48 ∷ 32 ∷ 48 ∷ 32 ∷ 55 ∷ 10 ∷ []

-- "J 21 3 7" LF
abbrev says-J_A : List ℕ
says-J_A = 74 ∷ 32 ∷ 50 ∷ 49 ∷ 32 ∷ 51 ∷ 32 ∷ 55 ∷ 10 ∷ []

-- "prints exactly": these five lines.
abbrev printed_output : List ℕ
printed_output = says-K ++ (says-T ++ (says-J_D ++ (says-W ++ says-J_A)))

-- The empty book, k = 3.
abbrev book_none : Book
book_none = book_of 3 []

-- The book of A, k = 3.
abbrev book_a : Book
book_a = taught 1 A book_none

-- A and D are orders, and both books are in form, of 7 and of 59 words.
books : (order_of (words A) ≡ order A) × (order_of (words D) ≡ order D) × (in_form book_none ≡ true) × (in_form book_a ≡ true)
    × (used book_none ≡ 7) × (used book_a ≡ 59)
unfolding computes
books = (refl, refl, refl, refl, refl, refl)

-- What the calls need and give: A is within the counts; it and its parts are in the book of A, and withdrawing it leaves the empty book; D has a low
-- part on line 3 that is not in the book of A, and so has A in the empty book.
steps : (within_counts book_a ≡ true) × (has (words A) book_a.T ≡ true) × (has_parts A book_a ≡ true) × (withdrawn A book_a ≡ book_none)
    × (verdict book_a D ≡ record { number = 21; line = 3 }) × (verdict book_none A ≡ record { number = 21; line = 3 })
unfolding computes
steps = (refl, refl, refl, refl, refl, refl)

-- The lines of the four calls, by letter, answer and words used.
said : (reply (letter_byte Teach) (answered done) (used book_a) ≡ says-T)
    × (reply (letter_byte Judge) (record { number = 21; line = 3 }) (used book_a) ≡ says-J_D)
    × (reply (letter_byte Withdraw) (answered done) (used book_none) ≡ says-W)
    × (reply (letter_byte Judge) (record { number = 21; line = 3 }) (used book_none) ≡ says-J_A)
    × (reply letter_K (answered done) head_words ≡ says-K)
unfolding desk_computes
said = (refl, refl, refl, refl, refl)

-- On an empty book in any slice of 59 words or more the four calls have these lines.
run-lines : (n : ℕ) → 59 ≤ n → n ≤ most_book_words → lines_for printed_calls (lay n book_none) ≡ says-T ++ (says-J_D ++ (says-W ++ says-J_A))
run-lines n enough short =
    let long : head_words ≤ n = omega arith in
    let small : used book_none ≤ n = omega (arith, books.4) in
    let large : used book_a ≤ n = omega (arith, books.5) in
    let teach-A = taught-laid n long short book_none books.2 small A books.0 steps.0 large in
    let judge-D = judged-laid n long short book_a books.3 large D books.1 ∙ ap (λ (a : Answer). outcome a (lay n book_a)) steps.4 in
    let withdraw-A =
    withdrawn-laid n long short book_a books.3 large A books.0 steps.1 steps.2 ∙ ap (λ (b : Book). outcome (answered done) (lay n b)) steps.3 in
    let judge-A = judged-laid n long short book_none books.2 small A books.0 ∙ ap (λ (a : Answer). outcome a (lay n book_none)) steps.5 in
    line-then n _ _ (lay n book_none) _ book_a _ _ teach-A said.0
    (line-then n _ _ (lay n book_a) _ book_a _ _ judge-D said.1
    (line-then n _ _ (lay n book_a) _ book_none _ _ withdraw-A said.2
    (line-then n _ _ (lay n book_none) _ book_none _ _ judge-A said.3 (no_lines (lay n book_none)))))

-- An input without fault prints "K 0 0 7" LF first, and then the lines of its forms on the opened book.
opening-printed : (input : List ℕ) (k : ℕ) (cs : List FormCall) → handed_in input ≡ handed k cs → desk_of input ≡ says-K ++ lines_for cs (open_of blank k).words
opening-printed input k cs is =
    first-line_printed input k cs is ∙ ap (λ (l : List ℕ). l ++ lines_for cs (open_of blank k).words) said.4

-- "the input K 3, T A, J (A with 0016 for 0010), W A, J A prints exactly" these lines.
pub printed-run : desk_of printed_input ≡ printed_output
printed-run =
    opening-printed printed_input 3 printed_calls hands_in_printed
    ∙ ap (λ (l : List ℕ). says-K ++ l)
    (ap (lines_for printed_calls) (desk_opened 3 (omega arith) (omega arith)) ∙ run-lines desk_book_words (omega arith) (omega arith))

-- ---- the first line alone, and a form of no bytes

-- "K 3" LF alone prints "K 0 0 7" LF.
pub opening-alone : desk_of line-K ≡ says-K
opening-alone =
    let is : handed_in line-K ≡ handed 3 [] = unfold desk_computes in refl in
    opening-printed line-K 3 [] is ∙ ap (λ (l : List ℕ). says-K ++ l) (no_lines (open_of blank 3).words)

-- A form of no bytes.
abbrev no_bytes : FormCall
no_bytes = record { letter = Teach; text = [] }

-- "T 10 1 7" LF
abbrev says-T_10 : List ℕ
says-T_10 = 84 ∷ 32 ∷ 49 ∷ 48 ∷ 32 ∷ 49 ∷ 32 ∷ 55 ∷ 10 ∷ []

-- It is refused by 10 at line 1, whatever the book, and leaves it.
no_bytes-refused : (ws : List ℕ) → call_of no_bytes ws ≡ outcome (record { number = no_form; line = 1 }) ws
unfolding call_of by_form form_of
no_bytes-refused ws = refl

-- "K 3" LF "T" LF prints "K 0 0 7" LF "T 10 1 7" LF.
pub no_bytes-printed : desk_of (line-K ++ line-T) ≡ says-K ++ says-T_10
no_bytes-printed =
    let is : handed_in (line-K ++ line-T) ≡ handed 3 (no_bytes ∷ []) = unfold desk_computes in refl in
    let says : reply (letter_byte Teach) (record { number = no_form; line = 1 }) (used book_none) ≡ says-T_10 = unfold desk_computes in refl in
    let n : ℕ = desk_book_words in
    opening-printed (line-K ++ line-T) 3 (no_bytes ∷ []) is
    ∙ ap (λ (l : List ℕ). says-K ++ l)
    (ap (lines_for (no_bytes ∷ [])) (desk_opened 3 (omega arith) (omega arith))
    ∙ line-then n no_bytes [] (lay n book_none) _ book_none _ _ (no_bytes-refused (lay n book_none)) says (no_lines (lay n book_none)))

-- ---- the three faults

-- What is handed in at fault is the fault of the opening.
front-fault : (input : List ℕ) (a : Answer) → handed_in input ≡ faulty a → opening_of input ≡ Err a
unfolding opening_of
front-fault input a e = rw e

-- "K 2 0 0" LF
abbrev says-2 : List ℕ
says-2 = 75 ∷ 32 ∷ 50 ∷ 32 ∷ 48 ∷ 32 ∷ 48 ∷ 10 ∷ []

-- "K 3 0 0" LF
abbrev says-3 : List ℕ
says-3 = 75 ∷ 32 ∷ 51 ∷ 32 ∷ 48 ∷ 32 ∷ 48 ∷ 10 ∷ []

-- "K 10 2 0" LF
abbrev says-10 : List ℕ
says-10 = 75 ∷ 32 ∷ 49 ∷ 48 ∷ 32 ∷ 50 ∷ 32 ∷ 48 ∷ 10 ∷ []

-- The lines of the three faults.
faults_said : (reply letter_K (answered too_large) 0 ≡ says-2)
    × (reply letter_K (answered k_outside) 0 ≡ says-3)
    × (reply letter_K (record { number = no_form; line = 2 }) 0 ≡ says-10)
unfolding desk_computes
faults_said = (refl, refl, refl)

-- An input of more than 32,768 bytes is too long, whatever they are.
long-faulty : (input : List ℕ) → most_input < length input → handed_in input ≡ faulty (answered too_large)
unfolding handed_in when◌then◌else◌
long-faulty input h = rw (lt-ltb most_input (length input) h)

-- "longer input prints "K 2 0 0""
pub too_long : (input : List ℕ) → most_input < length input → desk_of input ≡ says-2
too_long input h = let a : Answer = answered too_large in fault-alone input a (front-fault input a (long-faulty input h)) ∙ faults_said.0

-- "a first line otherwise spelt, no input, or k out of range, "K 3 0 0""
otherwise-printed : (input : List ℕ) → opening_of input ≡ Err (answered k_outside) → desk_of input ≡ says-3
otherwise-printed input e = fault-alone input (answered k_outside) e ∙ faults_said.1

-- "bytes between line 1 and the first letter, or bytes and no letter, "K 10 2 0""
stray_printed : (input : List ℕ) → opening_of input ≡ Err (record { number = no_form; line = 2 }) → desk_of input ≡ says-10
stray_printed input e = fault-alone input (record { number = no_form; line = 2 }) e ∙ faults_said.2

-- What stands behind the first 32,769 bytes does not matter.
pub longer-alike : (s : List ℕ) → desk_of (take (suc most_input) s) ≡ desk_of s
longer-alike s = go most_input refl
  where
    -- By whether there are more bytes than allowed.
    go : (n : ℕ) → n ≡ most_input → desk_of (take (suc n) s) ≡ desk_of s
    go n e = elim (dec_lt n (length s)) [
      | yes h ↦ too_long (take (suc n) s) (omega (arith, length-take-le (suc n) s (omega arith))) ∙ sym (too_long s (omega arith))
      | no h ↦ ap desk_of (take_all (suc n) s (omega arith))
    ]

-- "K 7" LF
abbrev line-K_7 : List ℕ
line-K_7 = 75 ∷ 32 ∷ 55 ∷ 10 ∷ []

-- What is at fault: no input, and k out of range; and bytes between line 1 and the first letter.
handed-faults : (handed_in [] ≡ faulty (answered k_outside))
    × (handed_in line-K_7 ≡ faulty (answered k_outside))
    × (handed_in (line-K ++ top-1000) ≡ faulty (record { number = no_form; line = 2 }))
unfolding desk_computes
handed-faults = (refl, refl, refl)

-- "no input, or k out of range, "K 3 0 0"; bytes between line 1 and the first letter, or bytes and no letter, "K 10 2 0"": of no bytes, of "K 7" LF, and of
-- "K 3" LF "0 1000" LF.
pub faults : (desk_of [] ≡ says-3) × (desk_of line-K_7 ≡ says-3) × (desk_of (line-K ++ top-1000) ≡ says-10)
faults = (
  otherwise-printed [] (front-fault [] _ handed-faults.0),
  otherwise-printed line-K_7 (front-fault line-K_7 _ handed-faults.1),
  stray_printed (line-K ++ top-1000) (front-fault (line-K ++ top-1000) _ handed-faults.2),
)
