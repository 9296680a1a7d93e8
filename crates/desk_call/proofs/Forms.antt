-- What a letter does with the book and an order, and what a call does with the book once its form is read. Assumes nothing.
use Prim.Native.Nat.{ℕ, ◌+◌, ◌≤◌}
use mathlib.Core.Path.{◌≡◌, refl, ap, sym, ◌∙◌}
use mathlib.Core.List.{List, ◌++◌}
use native.Mathlib.Omega.{arith}
use borrow.Author.Tests.{le-leb}
use lib.ListN.{length, take, drop, length-append}
use lib.Seq.{take-append_seam}
use Rattle.words.specs.Base.{when◌then◌else◌, over}
use Rattle.figures.specs.Limits.{most_words}
use Rattle.figures.specs.Numbers.{done}
use Rattle.figures.specs.Answers.{wrote, refused_at}
use Rattle.figures.specs.declared.Written.{Written}
use Rattle.order.specs.Answers.{Writing, writing, write}
use Rattle.order.proofs.Causes.{order-passed}
use Rattle.order.proofs.Spots.{short-order}
use Rattle.form.specs.Text.{Line}
use Rattle.form.specs.Reading.{Form, fault, form, by_form, form_of, words_of_lines, read_of}
use Rattle.form.proofs.FirstFault.{text-refused}
use Rattle.form.proofs.Trips.{form-order, form-write, fault-write}
use Rattle.book.specs.Opening.{outcome}
use Rattle.book_judging.specs.Judging.{judge_of}
use Rattle.book_teaching.specs.Calls.{teach_of, withdraw_of}
use Rattle.desk_input.specs.declared.Letter.{Letter}
use Rattle.desk_input.specs.declared.Letter.TheVariants.{Teach, Withdraw, Judge}
use Rattle.desk_call.specs.Asking.{ask_of, call_of}

-- ---- a form that is read

-- A form has at most 128 words.
form-short : (text : List ℕ) (xs : List Line) → form_of text ≡ form xs → length (words_of_lines xs) ≤ most_words
form-short text xs e =
    let o = form-order text xs e in
    short-order (words_of_lines xs) o.0 (order-passed (words_of_lines xs) o.0 o.1)

-- Words that have room are written to the front.
room-write : (new out : List ℕ) → length new ≤ length out → write new out ≡ writing (wrote done (length new)) (over new out)
unfolding write when◌then◌else◌
room-write new out h = rw (le-leb (length new) (length out) h)

-- What reading a text into room for any order answers: it is refused as the text is, or its words stand at the front.
data Read (text : List ℕ) (w : Written) (now : List ℕ) : Type 0 where
  refused : (n line : ℕ) → form_of text ≡ fault n line → w ≡ refused_at n line → Read text w now
  made : (xs : List Line) → form_of text ≡ form xs → w ≡ wrote done (length (words_of_lines xs)) → take (length (words_of_lines xs)) now ≡ words_of_lines xs
      → length (words_of_lines xs) ≤ length now → Read text w now

-- One of the two holds.
read : (text out now : List ℕ) (w : Written) → length out ≡ most_words → writing w now ≡ read_of text out → Read text w now
read text out now w l e = go (form_of text) refl
  where
    -- By what the text is.
    go : (f : Form) → form_of text ≡ f → Read text w now
    go (fault n line) q = refused n line q (ap (λ (x : Writing). x.answer) (e ∙ fault-write text out q))
    go (form xs) q =
        let h : length (words_of_lines xs) ≤ length out = omega (arith, form-short text xs q) in
        let i = e ∙ form-write text xs out q ∙ room-write (words_of_lines xs) out h in
        let back : List ℕ = drop (length (words_of_lines xs)) out in
        let j : now ≡ words_of_lines xs ++ back = ap (λ (x : Writing). x.out) i in
        let k : length now ≡ length (words_of_lines xs) + length back = ap length j ∙ length-append (words_of_lines xs) back in
        made xs q (ap (λ (x : Writing). x.answer) i) (ap (take (length (words_of_lines xs))) j ∙ take-append_seam (words_of_lines xs) back) (omega arith)

-- A text that is read stands in the room for an order.
pub read-room : (text out now : List ℕ) (w : Written) → length out ≡ most_words → writing w now ≡ read_of text out → w.number ≡ done → w.count ≤ length now
read-room text out now w long is h = go (read text out now w long is)
  where
    -- By which of the two it is.
    go : Read text w now → w.count ≤ length now
    go (refused n line q e) = absurd (text-refused text q (sym (ap (λ (x : Written). x.number) e) ∙ h))
    go (made xs q e t l) = let z : w.count ≡ length (words_of_lines xs) = ap (λ (x : Written). x.count) e in omega arith

-- ---- a letter

module _ (letter : Letter) (book os : List ℕ) where
  -- T teaches.
  pub asks-teaching : letter ≡ Teach → ask_of letter book os ≡ teach_of book os
  unfolding ask_of
  asks-teaching e = rw e

  -- W withdraws.
  pub asks-withdrawing : letter ≡ Withdraw → ask_of letter book os ≡ withdraw_of book os
  unfolding ask_of
  asks-withdrawing e = rw e

  -- J judges.
  pub asks-judging : letter ≡ Judge → ask_of letter book os ≡ outcome (judge_of book os) book
  unfolding ask_of
  asks-judging e = rw e

-- ---- a call

module _ (letter : Letter) (text book : List ℕ) where
  -- A call with a form that is refused.
  fault-call : (n line : ℕ) → form_of text ≡ fault n line
      → outcome (record { number = n; line = line }) book ≡ call_of (record { letter = letter; text = text }) book
  unfolding call_of by_form
  fault-call n line e = rw e

  -- A call with a form that is read.
  form-call : (xs : List Line) → form_of text ≡ form xs → ask_of letter book (words_of_lines xs) ≡ call_of (record { letter = letter; text = text }) book
  unfolding call_of by_form
  form-call xs e = rw e

  module _ (out now : List ℕ) (w : Written) (long : length out ≡ most_words) (is : writing w now ≡ read_of text out) where
    -- Where the form is not read, the call is answered by its refusal.
    pub call_refused : (w.number ≡ done → ⊥)
        → outcome (record { number = w.number; line = w.line }) book ≡ call_of (record { letter = letter; text = text }) book
    call_refused h = go (read text out now w long is)
      where
        -- By which of the two it is.
        go : Read text w now → outcome (record { number = w.number; line = w.line }) book ≡ call_of (record { letter = letter; text = text }) book
        go (refused n line q e) = ap (λ (x : Written). outcome (record { number = x.number; line = x.line }) book) e ∙ fault-call n line q
        go (made xs q e t l) = absurd (h (ap (λ (x : Written). x.number) e))

    -- Where it is read, the letter is asked with its words.
    pub call_asked : w.number ≡ done → ask_of letter book (take w.count now) ≡ call_of (record { letter = letter; text = text }) book
    call_asked h = go (read text out now w long is)
      where
        -- By which of the two it is.
        go : Read text w now → ask_of letter book (take w.count now) ≡ call_of (record { letter = letter; text = text }) book
        go (refused n line q e) = absurd (text-refused text q (sym (ap (λ (x : Written). x.number) e) ∙ h))
        go (made xs q e t l) =
            let c : w.count ≡ length (words_of_lines xs) = ap (λ (x : Written). x.count) e in
            ap (ask_of letter book) (ap (λ (n : ℕ). take n now) c ∙ t) ∙ form-call xs q
