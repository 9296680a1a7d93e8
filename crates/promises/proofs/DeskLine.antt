-- What the desk prints for each form: the letter, the number, the line and the words used of exactly that call, and for a form whose text is refused the
-- number and the line of its first fault (01, "Forms on the desk"). And a run of the library's steps prints just what the desk prints. Assumes nothing.
use Prim.Native.Nat.{ℕ, suc, ◌+◌, ◌^◌, ◌≤◌, ◌<◌}
use mathlib.Core.Path.{◌≡◌, refl, sym, ap, ap₂, subst, ◌∙◌}
use mathlib.Core.List.{List, [], ◌∷◌, ◌++◌, append_assoc}
use native.Mathlib.Omega.{arith}
use lib.ListN.{length, drop, get_or}
use Rattle.figures.specs.Limits.{used_word, desk_book_words}
use Rattle.figures.specs.Numbers.{done, no_form}
use Rattle.figures.specs.declared.Answer.{Answer}
use Rattle.order.specs.Trees.{Tree, words}
use Rattle.order.specs.Fits.{IsOrder}
use Rattle.order.proofs.Fitting.{read-order}
use Rattle.form.specs.Text.{Line, spell, text_of}
use Rattle.form.specs.Reading.{Form, fault, form, by_form, form_of, words_of_lines}
use Rattle.form.specs.Faults.{FirstFault}
use Rattle.form.proofs.FirstFault.{first-fault, fault-first}
use Rattle.form.proofs.Trips.{form-order}
use Rattle.book.specs.Book.{Book}
use Rattle.book.specs.Sound.{IsBook}
use Rattle.book.specs.Opening.{Outcome, outcome, open_of}
use Rattle.book_judging.specs.Judging.{judge_of}
use Rattle.book_judging.proofs.Answers.{judged-is, judged-only}
use Rattle.book_teaching.specs.Calls.{teach_of, withdraw_of}
use Rattle.book_teaching.proofs.Whys.{teach-why, teach-only, withdraw-why, withdraw-only}
use Rattle.desk_line.specs.Replies.{most_digits, decimal, field, reply, reply_room}
use Rattle.desk_line.proofs.Meaning.{decimal-value, decimal-digits, decimal-bare}
use Rattle.desk_input.specs.Sheets.{letter_K, letter_byte, FormCall, handed, handed_in}
use Rattle.desk_input.specs.declared.Letter.{Letter}
use Rattle.desk_input.specs.declared.Letter.TheVariants.{Teach, Withdraw, Judge}
use Rattle.desk_call.specs.Asking.{ask_of, call_of}
use Rattle.desk_step.specs.Desk.{line_for, lines_for, desk_of}
use Rattle.desk_step.specs.Lines.{feeds}
use Rattle.desk_step.specs.Steps.{Run, step_of}
use Rattle.desk_step.proofs.Lines.{feeds-append, line-feeds, calls-feeds, letter-no_feed}
use Rattle.desk_step.proofs.Runs.{Finished, run-goes_on, run-prints, run-from}
use Rattle.promises.specs.AtTheDesk.{WhyAnswered, no_text, text_at_fault, teaches, withdraws, judges, InDecimal, Says, PrintedFor}
use Rattle.promises.specs.Forms.{LineOfText, ComesBack, Told}
use Rattle.promises.proofs.Laws.FormLines.{spell-feeds}
use Rattle.promises.proofs.Laws.Handing.{asks-order, book-then}
use Rattle.promises.proofs.Demand1.{Exactly}
use Rattle.promises.proofs.Demand2.{comes_back, doubted-least}
use Rattle.promises.proofs.AtTheDesk.{blank, opened, desk_book, line-of_each}
use Rattle.promises.proofs.Laws.DeskFigures.{desk_figures_small}

-- ---- the answer of a form

-- "A form's text is read first and its refusal printed": a form whose first line at fault is refused by n is answered by n at that line, below every
-- letter, and leaves the book.
pub desk_refuses : (x : Letter) (text book : List ℕ) (n line : ℕ) → FirstFault text n line
    → call_of (record { letter = x; text = text }) book ≡ outcome (record { number = n; line = line }) book
unfolding call_of by_form
desk_refuses x text book n line f = rw (fault-first text n line f)

-- A form of an order's text is answered as that order is taught, withdrawn or judged, with the number and the line of that call, and leaves the words
-- that it leaves.
pub desk_answers : (t : Tree) → IsOrder (words t) t → (book : List ℕ)
    → (call_of (record { letter = Teach; text = text_of t }) book ≡ teach_of book (words t))
    × (call_of (record { letter = Withdraw; text = text_of t }) book ≡ withdraw_of book (words t))
    × (call_of (record { letter = Judge; text = text_of t }) book ≡ outcome (judge_of book (words t)) book)
unfolding ask_of
desk_answers t o book = (asks-order Teach t o book, asks-order Withdraw t o book, asks-order Judge t o book)

-- A form of no bytes is answered by 10 at line 1, below every letter, and leaves the book.
no_bytes-answer : (x : Letter) (book : List ℕ) → call_of (record { letter = x; text = [] }) book ≡ outcome (record { number = no_form; line = 1 }) book
unfolding call_of by_form form_of
no_bytes-answer x book = refl

module _ (x : Letter) (text book : List ℕ) where
  -- The form.
  abbrev this : FormCall
  this = record { letter = x; text = text }

  -- Its answer has its row, where its text is that of an order.
  order-answered : (t : Tree) → text ≡ text_of t → IsOrder (words t) t → WhyAnswered x text book (call_of this book)
  order-answered t e o = go x refl
    where
      -- What the form of the order's text answers is what this one does.
      same : (y : Letter) → call_of (record { letter = y; text = text_of t }) book ≡ call_of (record { letter = y; text = text }) book
      same y = ap (λ (s : List ℕ). call_of (record { letter = y; text = s }) book) (sym e)

      -- By the letter.
      go : (y : Letter) → x ≡ y → WhyAnswered x text book (call_of this book)
      go Teach l =
          let q : call_of this book ≡ teach_of book (words t) = ap (λ (y : Letter). call_of (record { letter = y; text = text }) book) l ∙ sym (same Teach) ∙ (desk_answers t o book).0 in
          teaches t l e o (rw q (teach-why book (words t)))
      go Withdraw l =
          let q : call_of this book ≡ withdraw_of book (words t) = ap (λ (y : Letter). call_of (record { letter = y; text = text }) book) l ∙ sym (same Withdraw) ∙ (desk_answers t o book).1 in
          withdraws t l e o (rw q (withdraw-why book (words t)))
      go Judge l =
          let q : call_of this book ≡ outcome (judge_of book (words t)) book = ap (λ (y : Letter). call_of (record { letter = y; text = text }) book) l ∙ sym (same Judge) ∙ (desk_answers t o book).2 in
          judges t l e o (rw q (judged-is book (words t))) (ap (λ (r : Outcome). r.words) q)

  -- Its answer has its row, whatever its text is.
  answered-why : WhyAnswered x text book (call_of this book)
  answered-why = go (form_of text) text refl refl
    where
      -- By what the text is read as.
      go : (f : Form) (s : List ℕ) → text ≡ s → form_of s ≡ f → WhyAnswered x text book (call_of this book)
      go (form xs) s e q =
          let f = form-order s xs q in
          let o = read-order (words_of_lines xs) f.0 f.1 in
          order-answered f.0 (e ∙ sym f.3) (subst (λ (ws : List ℕ). IsOrder ws f.0) o.spelt o)
      go (fault n line) [] e q = no_text e (ap (λ (s : List ℕ). call_of (record { letter = x; text = s }) book) e ∙ no_bytes-answer x book)
      go (fault n line) (b ∷ bs) e q =
          let f : FirstFault text n line = subst (λ (s : List ℕ). FirstFault s n line) (sym e) (first-fault (b ∷ bs) n line (omega arith) q) in
          text_at_fault n line f (desk_refuses x text book n line f)

  -- A row has no other answer.
  answered-only : (o : Outcome) → WhyAnswered x text book o → call_of this book ≡ o
  answered-only o (no_text e q) = ap (λ (s : List ℕ). call_of (record { letter = x; text = s }) book) e ∙ no_bytes-answer x book ∙ sym q
  answered-only o (text_at_fault n line f q) = desk_refuses x text book n line f ∙ sym q
  answered-only o (teaches t l e i w) =
      ap₂ (λ (y : Letter) (s : List ℕ). call_of (record { letter = y; text = s }) book) l e ∙ (desk_answers t i book).0 ∙ teach-only book (words t) o w
  answered-only o (withdraws t l e i w) =
      ap₂ (λ (y : Letter) (s : List ℕ). call_of (record { letter = y; text = s }) book) l e ∙ (desk_answers t i book).1 ∙ withdraw-only book (words t) o w
  answered-only o (judges t l e i w k) =
      ap₂ (λ (y : Letter) (s : List ℕ). call_of (record { letter = y; text = s }) book) l e ∙ (desk_answers t i book).2
      ∙ ap₂ outcome (judged-only book (words t) o.answer w) (sym k)

  -- So a form is answered exactly by its rows: those of its text, and then those of the call that its letter names.
  pub desk_rows : Exactly (WhyAnswered x text book) (call_of this book)
  desk_rows = (answered-why, answered-only)

-- ---- the line of a form

-- A number below 10 to the 20th is printed in decimal without leading zeros.
in_decimal : (n : ℕ) → n < 10 ^ most_digits → InDecimal n (decimal n)
in_decimal n h = record { digits = decimal-digits n; bare = decimal-bare n; stands_for = decimal-value n h }

-- The line of an answer says its letter, its number, its line and the words used.
reply-says : (letter : ℕ) (a : Answer) (used : ℕ) → a.number < 10 ^ most_digits → a.line < 10 ^ most_digits → used < 10 ^ most_digits
    → Says letter a.number a.line used (reply letter a used)
unfolding reply field
reply-says letter a used h k l = record {
  number_digits = decimal a.number;
  line_digits = decimal a.line;
  used_digits = decimal used;
  bytes_are = refl;
  number_is = in_decimal a.number h;
  line_is = in_decimal a.line k;
  used_is = in_decimal used l;
}

-- A form of an input without fault, behind some others.
module _ (input : List ℕ) (k : ℕ) (cs : List FormCall) (is : handed_in input ≡ handed k cs) (front : List FormCall) (c : FormCall) (back : List FormCall) (e : cs ≡ front ++ (c ∷ back)) where
  -- The desk's book before it.
  abbrev book : List ℕ
  book = desk_book input k cs is front

  -- Its line says its answer on that book.
  line-answers : Says (letter_byte c.letter) (call_of c book).answer.number (call_of c book).answer.line (get_or (call_of c book).words used_word 0)
      (line_for (letter_byte c.letter) (call_of c book))
  unfolding line_for
  line-answers =
      let f = desk_figures_small input k cs is front c back e in
      reply-says (letter_byte c.letter) (call_of c book).answer (get_or (call_of c book).words used_word 0) f.0 f.1 f.2

  -- "one line for the opening, with letter K, and one for each form: letter, answer, line, words used": the line of each form, behind that of the opening
  -- and those of the forms before it, says the letter, the number, the line and the words used of exactly that call on the book as they left it; for a
  -- form whose text is refused, the number and the line of its first fault.
  pub desk_line : PrintedFor (desk_of input) (suc (length front)) c.letter c.text book (desk_book input k cs is (front ++ (c ∷ [])))
  desk_line =
      let first : List ℕ = line_for letter_K (open_of blank k) in
      let others : List ℕ = lines_for front (opened input k cs is) in
      let own : List ℕ = line_for (letter_byte c.letter) (call_of c book) in
      let later : List ℕ = lines_for back (desk_book input k cs is (front ++ (c ∷ []))) in
      record {
        before = first ++ others;
        line = own;
        behind = later;
        all = line-of_each input k cs is front c back e ∙ sym (append_assoc first others (own ++ later));
        lines_before = omega (arith, feeds-append first others, line-feeds letter_K (open_of blank k) (λ z. omega arith), calls-feeds front (opened input k cs is));
        one_line = line-feeds (letter_byte c.letter) (call_of c book) (letter-no_feed c.letter);
        result = call_of c book;
        why = answered-why c.letter c.text book;
        says = line-answers;
        leaves = book-then front c (opened input k cs is);
      }

-- ---- the line that the clerk is told

-- The first line at fault of a form's text stands behind as many LF as its number says, less one.
pub fault-place : (text : List ℕ) (n line : ℕ) → FirstFault text n line
    → (front : List ℕ) × (rest : List ℕ) × (text ≡ front ++ rest) × (0 < length rest) × (line ≡ suc (feeds front))
fault-place text n line f = (spell f.before, f.rest, f.text, f.some, f.place ∙ ap suc (sym (spell-feeds f.before)))

-- The text of an order below J is judged.
desk_judges : (text : List ℕ) (t : Tree) → text ≡ text_of t → IsOrder (words t) t → (book : List ℕ)
    → (call_of (record { letter = Judge; text = text }) book).answer ≡ judge_of book (words t)
desk_judges text t e o book =
    ap (λ (r : Outcome). r.answer) (ap (λ (s : List ℕ). call_of (record { letter = Judge; text = s }) book) e ∙ (desk_answers t o book).2)

-- "any other comes back to the order clerk with a number and a line": a form below J with the text of an order that does not pass by a book in form is
-- answered by 20, 21 or 22 and the number of a line of the form as it was handed in.
pub desk_comes_back : (text : List ℕ) (t : Tree) → text ≡ text_of t → IsOrder (words t) t → (book : List ℕ) (b : Book) → IsBook book b
    → let a = (call_of (record { letter = Judge; text = text }) book).answer in (a.number ≡ done → ⊥) → ComesBack t a × ((x : Line) × LineOfText text a.line x)
desk_comes_back text t e o book b is not =
    let a = desk_judges text t e o book in
    let r : ComesBack t (call_of (record { letter = Judge; text = text }) book).answer =
    subst (ComesBack t) (sym a) (comes_back book (words t) b t is o (λ z. not (ap (λ (v : Answer). v.number) a ∙ z))) in
    (r, (r.read_aloud, subst (λ (s : List ℕ). LineOfText s (call_of (record { letter = Judge; text = text }) book).answer.line r.read_aloud) (sym e) r.stands))

-- "point at the line I can fix": of such a form, by a book in form, the desk tells the line wanted, or 20 where no line is unknown, and 0 to none that does not
-- pass.
pub desk_points : (text : List ℕ) (t : Tree) → text ≡ text_of t → IsOrder (words t) t → (book : List ℕ) (b : Book) → IsBook book b
    → Told b t (call_of (record { letter = Judge; text = text }) book).answer
desk_points text t e o book b is = subst (Told b t) (sym (desk_judges text t e o book)) (doubted-least book (words t) b t is o)

-- ---- the steps of the library

-- A run of `desk_step::begin` and `desk_step::step` on an input, from the opening on while bytes are left, has printed what the desk prints once none are left;
pub steps_print : {input : List ℕ} {n : ℕ} {book out printed : List ℕ} → Run input n book out printed → length input ≤ n → printed ≡ desk_of input
steps_print = run-prints

-- while some are left there is another step, and it takes some of them, but no more than there are;
pub steps_go_on : {input : List ℕ} {n : ℕ} {book out printed : List ℕ} → Run input n book out printed → n < length input
    → (0 < (step_of (drop n input) book out).step.taken) × (n + (step_of (drop n input) book out).step.taken ≤ length input)
steps_go_on = run-goes_on

-- and on every input, book of the desk's size and output with room for a line there is such a run to the end.
pub steps_finish : (input book out : List ℕ) → length book ≡ desk_book_words → reply_room ≤ length out → Finished input
steps_finish = run-from
