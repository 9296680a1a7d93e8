-- The desk prints one line for a fault, or one for the opening and one for each call, and LF is its last byte. Assumes nothing.
use Prim.Native.Nat.{ℕ, zero, suc, ◌+◌, ◌/◌, ◌≤◌}
use mathlib.Core.Path.{◌≡◌, refl, ap, sym, ◌∙◌}
use mathlib.Core.Bool.{Bool, true, false}
use mathlib.Core.List.{List, [], ◌∷◌, ◌++◌, append_assoc, append-nil}
use native.Mathlib.Omega.{arith}
use borrow.Author.Tests.{ne_eqb}
use lib.Dec.{eqb}
use lib.ListN.{length, replicate}
use Rattle.words.specs.Base.{when◌then◌else◌}
use Rattle.figures.specs.Limits.{desk_book_words}
use Rattle.figures.specs.declared.Answer.{Answer}
use Rattle.form.specs.Text.{digit_0, digit, space, line_feed}
use Rattle.book.specs.Opening.{Outcome, open_of}
use Rattle.desk_line.specs.Replies.{last_digits, without_zeros, most_digits, decimal, field, reply}
use Rattle.desk_input.specs.Sheets.{letter_K, letter_byte, FormCall, Handed, faulty, handed, handed_in}
use Rattle.desk_input.specs.declared.Letter.{Letter}
use Rattle.desk_input.specs.declared.Letter.TheVariants.{Teach, Withdraw, Judge}
use Rattle.desk_call.specs.Asking.{call_of}
use Rattle.desk_step.specs.Desk.{line_for, lines_for, printed_for, desk_of}
use Rattle.desk_step.specs.Lines.{feeds, EndsLine, lines_due}

-- ---- bytes

-- A byte that is no LF adds none.
pub no_feed : (b : ℕ) (bs : List ℕ) → (b ≡ line_feed → ⊥) → feeds (b ∷ bs) ≡ feeds bs
unfolding feeds when◌then◌else◌
no_feed b bs n = rw (ne_eqb b line_feed n)

-- Any byte adds one or none.
feeds-on : (b : ℕ) (bs : List ℕ) → feeds bs ≤ feeds (b ∷ bs)
unfolding feeds when◌then◌else◌
feeds-on b bs = go (eqb b line_feed)
  where
    -- By whether it is LF.
    go : (t : Bool) → feeds bs ≤ (when t then suc (feeds bs) else feeds bs)
    go true = omega arith
    go false = omega arith

-- Two texts have as many as both.
pub feeds-append : (xs ys : List ℕ) → feeds (xs ++ ys) ≡ feeds xs + feeds ys
unfolding feeds when◌then◌else◌
feeds-append [] ys = omega arith
feeds-append (x ∷ xs) ys = go (eqb x line_feed) (feeds-append xs ys)
  where
    -- By whether the first byte is LF.
    go : (t : Bool) → feeds (xs ++ ys) ≡ feeds xs + feeds ys
        → (when t then suc (feeds (xs ++ ys)) else feeds (xs ++ ys)) ≡ (when t then suc (feeds xs) else feeds xs) + feeds ys
    go true h = omega arith
    go false h = h

-- LF alone is one.
pub one-feed : feeds (line_feed ∷ []) ≡ 1
unfolding feeds when◌then◌else◌
one-feed = refl

-- No byte is none.
pub feeds-none : feeds [] ≡ 0
unfolding feeds
feeds-none = refl

-- ---- numbers

-- Digits have none.
digits-feeds : (many n : ℕ) → feeds (last_digits many n) ≡ 0
unfolding last_digits
digits-feeds zero n = feeds-none
digits-feeds (suc many) n =
    omega (arith, feeds-append (last_digits many (n / 10)) (digit n ∷ []), digits-feeds many (n / 10), no_feed (digit n) [] (λ e. omega arith), feeds-none)

-- Without leading zeros there are no more than with them.
without-feeds : (ds : List ℕ) → feeds (without_zeros ds) ≤ feeds ds
unfolding without_zeros when◌then◌else◌
without-feeds [] = omega arith
without-feeds (d ∷ []) = omega arith
without-feeds (d ∷ e ∷ ds) = go (eqb d digit_0) (without-feeds (e ∷ ds))
  where
    -- By whether the first is a zero.
    go : (t : Bool) → feeds (without_zeros (e ∷ ds)) ≤ feeds (e ∷ ds) → feeds (when t then without_zeros (e ∷ ds) else d ∷ e ∷ ds) ≤ feeds (d ∷ e ∷ ds)
    go true h = omega (arith, feeds-on d (e ∷ ds))
    go false h = omega arith

-- A number on its line has none.
field-feeds : (n : ℕ) → feeds (field n) ≡ 0
unfolding field decimal
field-feeds n = omega (arith, no_feed space (decimal n) (λ e. omega arith), without-feeds (last_digits most_digits n), digits-feeds most_digits n)

-- ---- lines

module _ (letter : ℕ) (a : Answer) (used : ℕ) where
  -- The numbers of the line, and LF, have the one.
  numbers_feeds : feeds (field a.number ++ (field a.line ++ (field used ++ (line_feed ∷ [])))) ≡ 1
  numbers_feeds =
      omega (
        arith,
        feeds-append (field a.number) (field a.line ++ (field used ++ (line_feed ∷ []))),
        feeds-append (field a.line) (field used ++ (line_feed ∷ [])),
        feeds-append (field used) (line_feed ∷ []),
        field-feeds a.number,
        field-feeds a.line,
        field-feeds used,
        one-feed,
      )

  -- The line of an answer has one.
  reply-feeds : (letter ≡ line_feed → ⊥) → feeds (reply letter a used) ≡ 1
  unfolding reply
  reply-feeds n = no_feed letter (field a.number ++ (field a.line ++ (field used ++ (line_feed ∷ [])))) n ∙ numbers_feeds

  -- It ends in LF.
  reply-ends : EndsLine (reply letter a used)
  unfolding reply
  reply-ends =
      let x : List ℕ = field a.number in
      let y : List ℕ = field a.line in
      let z : List ℕ = field used in
      record {
        front = letter ∷ (x ++ (y ++ z));
        is =
            ap (λ (r : List ℕ). letter ∷ (x ++ r)) (sym (append_assoc y z (line_feed ∷ [])))
            ∙ ap (λ (r : List ℕ). letter ∷ r) (sym (append_assoc x (y ++ z) (line_feed ∷ [])));
      }

-- No letter is LF.
pub letter-no_feed : (x : Letter) → letter_byte x ≡ line_feed → ⊥
letter-no_feed Teach e = omega arith
letter-no_feed Withdraw e = omega arith
letter-no_feed Judge e = omega arith

-- The line of an outcome has one.
pub line-feeds : (letter : ℕ) (o : Outcome) → (letter ≡ line_feed → ⊥) → feeds (line_for letter o) ≡ 1
unfolding line_for
line-feeds letter o n = reply-feeds letter o.answer _ n

-- It ends in LF.
line-ends : (letter : ℕ) (o : Outcome) → EndsLine (line_for letter o)
unfolding line_for
line-ends letter o = reply-ends letter o.answer _

-- Calls have a line each.
pub calls-feeds : (cs : List FormCall) (book : List ℕ) → feeds (lines_for cs book) ≡ length cs
unfolding lines_for
calls-feeds [] book = feeds-none
calls-feeds (c ∷ cs) book =
    let o : Outcome = call_of c book in
    feeds-append (line_for (letter_byte c.letter) o) (lines_for cs o.words)
    ∙ omega (arith, line-feeds (letter_byte c.letter) o (letter-no_feed c.letter), calls-feeds cs o.words)

-- A text behind another ends as it does.
ends-behind : (xs ys : List ℕ) → EndsLine ys → EndsLine (xs ++ ys)
ends-behind xs ys e = record { front = xs ++ e.front; is = ap (λ (r : List ℕ). xs ++ r) e.is ∙ sym (append_assoc xs e.front (line_feed ∷ [])) }

-- The lines of calls behind a line end in LF.
calls-end : (cs : List FormCall) (book line : List ℕ) → EndsLine line → EndsLine (line ++ lines_for cs book)
unfolding lines_for
calls-end [] book line e = record { front = e.front; is = append-nil line ∙ e.is }
calls-end (c ∷ cs) book line e =
    let o : Outcome = call_of c book in
    ends-behind line _ (calls-end cs o.words (line_for (letter_byte c.letter) o) (line-ends (letter_byte c.letter) o))

-- ---- all that is printed

-- What is printed for what is handed in has a line for a fault, or one for the opening and one for each call.
printed-feeds : (h : Handed) (slice : List ℕ) → feeds (printed_for h slice) ≡ lines_due h
unfolding printed_for
printed-feeds (faulty a) slice = reply-feeds letter_K a 0 (λ e. omega arith)
printed-feeds (handed k cs) slice =
    let o : Outcome = open_of slice k in
    feeds-append (line_for letter_K o) (lines_for cs o.words) ∙ omega (arith, line-feeds letter_K o (λ e. omega arith), calls-feeds cs o.words)

-- It ends in LF.
printed-ends : (h : Handed) (slice : List ℕ) → EndsLine (printed_for h slice)
unfolding printed_for
printed-ends (faulty a) slice = reply-ends letter_K a 0
printed-ends (handed k cs) slice = calls-end cs (open_of slice k).words (line_for letter_K (open_of slice k)) (line-ends letter_K (open_of slice k))

-- The desk prints one line for a fault, or one for the opening and one for each call.
pub one-line_each : (input : List ℕ) → feeds (desk_of input) ≡ lines_due (handed_in input)
unfolding desk_of
one-line_each input = printed-feeds (handed_in input) (replicate desk_book_words 0)

-- What it prints ends in LF.
pub desk_ends : (input : List ℕ) → EndsLine (desk_of input)
unfolding desk_of
desk_ends input = printed-ends (handed_in input) (replicate desk_book_words 0)
