-- The figures that the desk prints for a form are small: its number is at most 22, its line at most 65, and the words used at most the 8,192 of the
-- desk's slice. So each is printed as it is, with all its digits. Assumes nothing.
use Prim.Native.Nat.{ℕ, suc, ◌^◌, ◌≤◌, ◌<◌}
use mathlib.Core.Path.{◌≡◌, refl, sym, ap, ◌∙◌}
use mathlib.Core.List.{List, [], ◌∷◌, ◌++◌}
use native.Mathlib.Omega.{arith}
use lib.ListN.{length, get_or}
use Rattle.figures.specs.Limits.{most_nodes, desk_book_words, used_word}
use Rattle.figures.specs.Numbers.{middle_unknown}
use Rattle.form.specs.Reading.{Form, fault, form, by_form, form_of, words_of_lines}
use Rattle.form.proofs.Figures.{text-line}
use Rattle.book.specs.Opening.{outcome}
use Rattle.book.proofs.Meaning.{used-fits}
use Rattle.book.proofs.Sound.{head_says}
use Rattle.book_teaching.proofs.Conditions.{teach-line, withdraw-line}
use Rattle.book_judging.proofs.Figures.{judge_line-most}
use Rattle.desk_line.specs.Replies.{most_digits, decimal}
use Rattle.desk_line.specs.Meaning.{value_of}
use Rattle.desk_line.proofs.Meaning.{decimal-value}
use Rattle.desk_input.specs.Sheets.{FormCall, handed, handed_in}
use Rattle.desk_input.specs.declared.Letter.{Letter}
use Rattle.desk_input.specs.declared.Letter.TheVariants.{Teach, Withdraw, Judge}
use Rattle.desk_call.specs.Asking.{ask_of, call_of}
use Rattle.promises.specs.Starts.{opening}
use Rattle.promises.specs.AtTheDesk.{made_by, DeskNumber, is_done, is_too_large, is_no_form, is_no_room, is_not_taught, is_top, is-low, is-middle}
use Rattle.promises.proofs.Laws.Handing.{book-then}
use Rattle.promises.proofs.Demand3.{same_length}
use Rattle.promises.proofs.AtTheDesk.{blank, blank_long, book-after, opened, starts, desk_book, desk_keeps, desk_numbers}

-- ---- the number

-- A number that the desk prints is at most 22.
number_most : {x : Letter} {n : ℕ} → DeskNumber x n → n ≤ middle_unknown
number_most (is_done e) = omega arith
number_most (is_too_large e) = omega arith
number_most (is_no_form e) = omega arith
number_most (is_no_room q e) = omega arith
number_most (is_not_taught q e) = omega arith
number_most (is_top q e) = omega arith
number_most (is-low q e) = omega arith
number_most (is-middle q e) = omega arith

-- ---- the figures of a form

-- No figure up to 8,192 has more than 20 digits.
few-digits : (n : ℕ) → n ≤ desk_book_words → n < 10 ^ most_digits
few-digits n h = omega arith

-- A form of an input without fault, behind some others.
module _ (input : List ℕ) (k : ℕ) (cs : List FormCall) (is : handed_in input ≡ handed k cs) (front : List FormCall) (c : FormCall) where
  -- The desk's book before it.
  abbrev book : List ℕ
  book = desk_book input k cs is front

  -- The number that is printed for it.
  abbrev pub number_printed : ℕ
  number_printed = (call_of c book).answer.number

  -- The line.
  abbrev pub line-printed : ℕ
  line-printed = (call_of c book).answer.line

  -- The words used of the book after it.
  abbrev pub used-printed : ℕ
  used-printed = get_or (call_of c book).words used_word 0

  -- The line is 65 at most.
  line-most : line-printed ≤ suc most_nodes
  unfolding call_of by_form ask_of
  line-most = by_form_lem (form_of c.text) refl
    where
      -- Of a text that is an order, by the letter.
      by_letter : (x : Letter) (os : List ℕ) → (ask_of x book os).answer.line ≤ suc most_nodes
      by_letter Teach os = omega (arith, teach-line book os)
      by_letter Withdraw os = omega (arith, withdraw-line book os)
      by_letter Judge os = omega (arith, judge_line-most book os)

      -- By what the text is.
      by_form_lem : (f : Form) → form_of c.text ≡ f
          → (by_form f (λ n line. outcome (record { number = n; line = line }) book) (λ xs. ask_of c.letter book (words_of_lines xs))).answer.line ≤ suc most_nodes
      by_form_lem (fault n line) q = text-line c.text q
      by_form_lem (form xs) q = by_letter c.letter (words_of_lines xs)

  -- The words used are no more than the slice has.
  used-most : used-printed ≤ desk_book_words
  used-most =
      let upto : List FormCall = front ++ (c ∷ []) in
      let keeps = desk_keeps input k cs is upto in
      let ws : List ℕ = desk_book input k cs is upto in
      let u = ap (λ (l : List ℕ). get_or l used_word 0) (sym (book-then front c (opened input k cs is))) ∙ (head_says ws keeps.book keeps.is_book).1 in
      let long = ap length (book-after upto (opened input k cs is)) ∙ same_length (opening k) blank (starts input k cs is) (made_by upto) ∙ blank_long in
      omega (arith, u, long, used-fits ws keeps.book keeps.is_book.laid)

  -- It is one of the forms.
  module _ (back : List FormCall) (e : cs ≡ front ++ (c ∷ back)) where
    -- The number is at most 22, the line at most 65, and the words used are at most the 8,192 of the slice.
    desk_figures : (number_printed ≤ middle_unknown) × (line-printed ≤ suc most_nodes) × (used-printed ≤ desk_book_words)
    desk_figures = (number_most (desk_numbers input k cs is front c back e), line-most, used-most)

    -- So each is below 10 to the 20th,
    pub desk_figures_small : (number_printed < 10 ^ most_digits) × (line-printed < 10 ^ most_digits) × (used-printed < 10 ^ most_digits)
    desk_figures_small =
        let f = desk_figures in
        (few-digits number_printed (omega (arith, f.0)), few-digits line-printed (omega (arith, f.1)), few-digits used-printed f.2)

    -- and the digits that are printed for each stand for it.
    pub printed-as_they_are : (value_of (decimal number_printed) ≡ number_printed) × (value_of (decimal line-printed) ≡ line-printed)
        × (value_of (decimal used-printed) ≡ used-printed)
    printed-as_they_are =
        let f = desk_figures_small in
        (decimal-value number_printed f.0, decimal-value line-printed f.1, decimal-value used-printed f.2)
