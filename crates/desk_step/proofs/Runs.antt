-- The steps of a run print what the desk prints for its input, line by line, and every run ends. Assumes nothing.
use Rattle.std.specs.Prelude.{None, Option, Some}
use Prim.Native.Nat.{ℕ, zero, suc, ◌+◌, ◌≤◌, ◌<◌}
use mathlib.Core.Path.{◌≡◌, refl, ap, sym, subst, ◌∙◌}
use mathlib.Core.Bool.{Bool, true, false}
use mathlib.Core.List.{List, [], ◌∷◌, ◌++◌, append_assoc, append-nil}
use native.Mathlib.Decide.{dec_lt}
use native.Mathlib.Omega.{arith}
use borrow.Author.Tests.{le-ltb}
use lib.Dec.{ltb}
use lib.ListN.{length, take, drop, replicate, length-append, length-drop, length-replicate, drop_of_length-le}
use lib.Seq.{take-append_seam, drop-append_seam, drop-drop}
use Rattle.words.proofs.Tests.{never}
use Rattle.words.specs.Base.{when◌then◌else◌, over}
use Rattle.figures.specs.Limits.{head_words, least_k, greatest_k, most_book_words, desk_book_words}
use Rattle.figures.specs.Numbers.{done}
use Rattle.figures.specs.Answers.{answered}
use Rattle.book.specs.Book.{lay}
use Rattle.book.specs.Taught.{book_of}
use Rattle.book.specs.Opening.{Outcome, outcome, open_of}
use Rattle.book.proofs.Openings.{opened}
use Rattle.desk_line.specs.Replies.{reply, reply_room}
use Rattle.desk_input.specs.Sheets.{first_line_size, letter_line_size, letter_K, letter_byte, FormCall, sheet_of, Handed, faulty, handed, handed_in}
use Rattle.desk_input.specs.Places.{letter_at, size_to}
use Rattle.desk_input.specs.declared.Letter.{Letter}
use Rattle.desk_input.proofs.Handing.{HandsIn, at_fault, opens, hands_in}
use Rattle.desk_input.proofs.Splitting.{letter-sheet, other_before, form-size, size-within, rest-calls, rest-before, empty-sheet}
use Rattle.desk_call.specs.Asking.{call_of}
use Rattle.desk_step.specs.Desk.{line_for, lines_for, printed_for, desk_of}
use Rattle.desk_step.specs.Steps.{Stepping, idle, gives, begun_by, begin_of, stepped_by, step_of, line_in, Run, begun, stepped}

-- ---- lines

-- The line that a step gives is its whole line.
line-whole : (taken : ℕ) (line book out : List ℕ) → line_in (gives taken line book out) ≡ line
line-whole taken line book out = take-append_seam line (drop (length line) out)

-- The output is no shorter than it was.
out_stays : (line out : List ℕ) → length out ≤ length (over line out)
out_stays line out = omega (arith, length-append line (drop (length line) out), length-drop (length line) out)

-- A line that is written to the front of an output lies within it.
line-within : (taken : ℕ) (line book out : List ℕ) → (gives taken line book out).step.count ≤ length (gives taken line book out).out
line-within taken line book out = omega (arith, length-append line (drop (length line) out))

-- The line of the first step lies within the output.
pub begin_within : (input book out : List ℕ) → (begin_of input book out).step.count ≤ length (begin_of input book out).out
unfolding begin_of begun_by when◌then◌else◌
begin_within input book out = go (ltb (length out) reply_room) (handed_in input)
  where
    -- By the room for it and what is handed in.
    go : (t : Bool) (h : Handed) → let s = when t then idle book out else begun_by (length input) h book out in s.step.count ≤ length s.out
    go true h = omega arith
    go false (faulty a) = line-within (length input) (reply letter_K a 0) book out
    go false (handed k cs) = line-within first_line_size (line_for letter_K (open_of book k)) (open_of book k).words out

-- So does that of a later step.
pub step-within : (left book out : List ℕ) → (step_of left book out).step.count ≤ length (step_of left book out).out
unfolding step_of stepped_by when◌then◌else◌
step-within left book out = go (ltb (length out) reply_room) (sheet_of left).before (sheet_of left).calls
  where
    -- By the room for it and the calls that are left.
    go : (t : Bool) (bs : List ℕ) (cs : List FormCall) → let s = when t then idle book out else stepped_by bs cs book out in s.step.count ≤ length s.out
    go true bs cs = omega arith
    go false (b ∷ bs) cs = omega arith
    go false [] [] = omega arith
    go false [] (c ∷ cs) = line-within (letter_line_size + length c.text) (line_for (letter_byte c.letter) (call_of c book)) (call_of c book).words out

-- Behind a line that is written to the front of an output its bytes stay.
line-behind : (taken : ℕ) (line book out : List ℕ) → let s = gives taken line book out in drop s.step.count s.out ≡ drop s.step.count out
line-behind taken line book out = drop-append_seam line (drop (length line) out)

-- Behind the line of the first step the bytes of the output stay.
pub begin_behind : (input book out : List ℕ) → let s = begin_of input book out in drop s.step.count s.out ≡ drop s.step.count out
unfolding begin_of begun_by when◌then◌else◌
begin_behind input book out = go (ltb (length out) reply_room) (handed_in input)
  where
    -- By the room for it and what is handed in.
    go : (t : Bool) (h : Handed) → let s = when t then idle book out else begun_by (length input) h book out in drop s.step.count s.out ≡ drop s.step.count out
    go true h = refl
    go false (faulty a) = line-behind (length input) (reply letter_K a 0) book out
    go false (handed k cs) = line-behind first_line_size (line_for letter_K (open_of book k)) (open_of book k).words out

-- So they do behind that of a later step.
pub step-behind : (left book out : List ℕ) → let s = step_of left book out in drop s.step.count s.out ≡ drop s.step.count out
unfolding step_of stepped_by when◌then◌else◌
step-behind left book out = go (ltb (length out) reply_room) (sheet_of left).before (sheet_of left).calls
  where
    -- By the room for it and the calls that are left.
    go : (t : Bool) (bs : List ℕ) (cs : List FormCall) → let s = when t then idle book out else stepped_by bs cs book out in drop s.step.count s.out ≡ drop s.step.count out
    go true bs cs = refl
    go false (b ∷ bs) cs = refl
    go false [] [] = refl
    go false [] (c ∷ cs) = line-behind (letter_line_size + length c.text) (line_for (letter_byte c.letter) (call_of c book)) (call_of c book).words out

-- Where no calls are left, no lines are.
none_left : (input : List ℕ) (n : ℕ) (book : List ℕ) → length input ≤ n → lines_for (sheet_of (drop n input)).calls book ≡ []
unfolding lines_for
none_left input n book h = rw (drop_of_length-le input h, empty-sheet)

-- Where no bytes are left, none stand before a letter line.
none_before : (input : List ℕ) (n : ℕ) → length input ≤ n → (sheet_of (drop n input)).before ≡ []
none_before input n h = rw (drop_of_length-le input h, empty-sheet)

-- ---- what holds after each step

-- The lines so far and those of the calls that are left are what the desk prints; a letter line is next, or nothing; there is room for a line; and no
-- more was taken than there is.
pub record SoFar (input : List ℕ) (n : ℕ) (book out printed : List ℕ) : Type 0 where
  pub prints : desk_of input ≡ printed ++ lines_for (sheet_of (drop n input)).calls book
  pub clear : (sheet_of (drop n input)).before ≡ []
  pub room : reply_room ≤ length out
  pub inside : n ≤ length input

-- ---- the opening

-- What stood in a slice before a book is opened in it does not matter.
open_same : (ws vs : List ℕ) (k : ℕ) → length ws ≡ length vs → head_words ≤ length ws → length ws ≤ most_book_words → least_k ≤ k → k ≤ greatest_k
    → open_of ws k ≡ open_of vs k
open_same ws vs k e l s a z =
    opened ws k l s a z ∙ ap (λ (n : ℕ). outcome (answered done) (lay n (book_of k []))) e ∙ sym (opened vs k (omega arith) (omega arith) a z)

-- With room for a line the first step goes by what is handed in.
pub begin_is : (input book out : List ℕ) → reply_room ≤ length out → begin_of input book out ≡ begun_by (length input) (handed_in input) book out
unfolding begin_of when◌then◌else◌
begin_is input book out h = rw (le-ltb (length out) reply_room h)

module _ (input book out slice : List ℕ) (same : length book ≡ length slice) (long : head_words ≤ length book) (short : length book ≤ most_book_words)
    (room : reply_room ≤ length out) where
  -- So far, once the opening went by what is handed in.
  begun-by : (h : Handed) → HandsIn input h → desk_of input ≡ printed_for h slice
      → let s = begun_by (length input) h book out in SoFar input s.step.taken s.book s.out (line_in s)
  unfolding begun_by printed_for
  begun-by _ (at_fault a) d =
      let line : List ℕ = reply letter_K a 0 in
      record {
        prints =
            d ∙ sym (append-nil line) ∙ ap (λ (r : List ℕ). line ++ r) (sym (none_left input (length input) book (omega arith)))
            ∙ ap (λ (l : List ℕ). l ++ lines_for (sheet_of (drop (length input) input)).calls book) (sym (line-whole (length input) line book out));
        clear = none_before input (length input) (omega arith);
        room = omega (arith, out_stays line out);
        inside = omega arith;
      }
  begun-by _ (opens k m l g i c) d =
      let cs : List FormCall = (sheet_of (drop first_line_size input)).calls in
      let o : open_of book k ≡ open_of slice k = open_same book slice k same long short l g in
      let line : List ℕ = line_for letter_K (open_of book k) in
      record {
        prints =
            d ∙ ap (λ (o : Outcome). line_for letter_K o ++ lines_for cs o.words) (sym o)
            ∙ ap (λ (l : List ℕ). l ++ lines_for cs (open_of book k).words) (sym (line-whole first_line_size line (open_of book k).words out));
        clear = c;
        room = omega (arith, out_stays line out);
        inside = i;
      }

-- What the desk prints, by what is handed in and any slice of zeros of its size.
desk_is : (input : List ℕ) (n : ℕ) → n ≡ desk_book_words → desk_of input ≡ printed_for (handed_in input) (replicate n 0)
unfolding desk_of
desk_is input n e = ap (λ (m : ℕ). printed_for (handed_in input) (replicate m 0)) (sym e)

-- So far, after the first step.
begin_so_far : (input book out : List ℕ) (n : ℕ) → length book ≡ n → n ≡ desk_book_words → reply_room ≤ length out
    → let s = begin_of input book out in SoFar input s.step.taken s.book s.out (line_in s)
begin_so_far input book out n e z r =
    subst (λ (s : Stepping). SoFar input s.step.taken s.book s.out (line_in s)) (sym (begin_is input book out r))
    (begun-by input book out (replicate n 0) (e ∙ sym (length-replicate n 0)) (omega arith) (omega arith) r (handed_in input) (hands_in input) (desk_is input n z))

-- ---- a later step

-- A letter line has two bytes.
pub letter-long : (bs : List ℕ) (x : Letter) → letter_at bs ≡ Some x → letter_line_size ≤ length bs
unfolding letter_at
letter-long [] x e = never cc
letter-long (b ∷ []) x e = never cc
letter-long (b ∷ f ∷ bs) x e = omega arith

-- Bytes with none before the first letter line begin with one.
letter-next : (bs : List ℕ) → (sheet_of bs).before ≡ [] → 0 < length bs → (x : Letter) × (letter_at bs ≡ Some x)
letter-next bs e h = go (letter_at bs) refl
  where
    -- By what they begin with.
    go : (k : Option Letter) → letter_at bs ≡ k → (x : Letter) × (letter_at bs ≡ Some x)
    go (Some x) q = (x, q)
    go None q = let l : length (sheet_of bs).before ≡ 0 = ap length e in absurd (omega (arith, other_before bs h q))

module _ (left book : List ℕ) (x : Letter) (asked : letter_at left ≡ Some x) where
  -- What stands behind the letter line.
  abbrev behind : List ℕ
  behind = drop letter_line_size left

  -- The call that is next.
  abbrev next : FormCall
  next = record { letter = x; text = (sheet_of behind).before }

  -- How many bytes its letter line and its form take.
  abbrev size : ℕ
  size = letter_line_size + length next.text

  -- Its line.
  abbrev line : List ℕ
  line = line_for (letter_byte x) (call_of next book)

  -- With room for a line the step makes that call.
  pub step_is : (out : List ℕ) → reply_room ≤ length out → step_of left book out ≡ gives size line (call_of next book).words out
  unfolding step_of stepped_by when◌then◌else◌
  step_is out h = rw (le-ltb (length out) reply_room h, letter-sheet left x asked)

  -- The lines that are left are its line and those of the calls behind it.
  lines_next : lines_for (sheet_of left).calls book ≡ line ++ lines_for (sheet_of behind).calls (call_of next book).words
  unfolding lines_for
  lines_next = rw (letter-sheet left x asked)

  -- What is left behind the call.
  size-left : drop size left ≡ drop (size_to true behind) behind
  size-left = sym (drop-drop (length next.text) letter_line_size left) ∙ ap (λ (m : ℕ). drop m behind) (form-size behind)

  -- It asks for the calls behind it.
  calls-left : (sheet_of (drop size left)).calls ≡ (sheet_of behind).calls
  calls-left = ap (λ (l : List ℕ). (sheet_of l).calls) size-left ∙ rest-calls behind

  -- Nothing stands before them.
  before-left : (sheet_of (drop size left)).before ≡ []
  before-left = ap (λ (l : List ℕ). (sheet_of l).before) size-left ∙ rest-before behind

  -- No more is taken than is left.
  size-inside : size ≤ length left
  size-inside = omega (arith, form-size behind, size-within true behind, length-drop letter_line_size left, letter-long left x asked)

module _ (input : List ℕ) (n : ℕ) (book out printed : List ℕ) (so : SoFar input n book out printed) (more : n < length input) where
  -- A letter line is next.
  ahead : (x : Letter) × (letter_at (drop n input) ≡ Some x)
  ahead = letter-next (drop n input) so.clear (omega (arith, length-drop n input))

  -- A step takes at least a letter line.
  step-takes : 0 < (step_of (drop n input) book out).step.taken
  step-takes = rw (step_is (drop n input) book ahead.0 ahead.1 out so.room) (omega arith)

  -- What is left of the input.
  abbrev left : List ℕ
  left = drop n input

  -- The call that is made.
  abbrev made : FormCall
  made = next left book ahead.0 ahead.1

  -- How many bytes are taken.
  abbrev takes : ℕ
  takes = size left book ahead.0 ahead.1

  -- The line that is given.
  abbrev given : List ℕ
  given = line left book ahead.0 ahead.1

  -- What is left then.
  left_then : drop (n + takes) input ≡ drop takes left
  left_then = sym (drop-drop takes n input)

  -- The lines that are left then.
  lines_then : lines_for (sheet_of (drop (n + takes) input)).calls (call_of made book).words
      ≡ lines_for (sheet_of (drop letter_line_size left)).calls (call_of made book).words
  lines_then =
      ap (λ (cs : List FormCall). lines_for cs (call_of made book).words) (ap (λ (l : List ℕ). (sheet_of l).calls) left_then ∙ calls-left left book ahead.0 ahead.1)

  -- So far, once that call is made.
  made_so_far : SoFar input (n + takes) (call_of made book).words (over given out) (printed ++ take (length given) (over given out))
  made_so_far =
      let rest : List ℕ = lines_for (sheet_of (drop (n + takes) input)).calls (call_of made book).words in
      record {
        prints =
            so.prints
            ∙ ap (λ (r : List ℕ). printed ++ r) (lines_next left book ahead.0 ahead.1 ∙ ap (λ (r : List ℕ). given ++ r) (sym lines_then))
            ∙ sym (append_assoc printed given rest)
            ∙ ap (λ (l : List ℕ). (printed ++ l) ++ rest) (sym (line-whole takes given (call_of made book).words out));
        clear = ap (λ (l : List ℕ). (sheet_of l).before) left_then ∙ before-left left book ahead.0 ahead.1;
        room = omega (arith, so.room, out_stays given out);
        inside = omega (arith, size-inside left book ahead.0 ahead.1, length-drop n input);
      }

  -- So far, after one step more.
  step-so_far : let s = step_of (drop n input) book out in SoFar input (n + s.step.taken) s.book s.out (printed ++ line_in s)
  step-so_far =
      subst (λ (s : Stepping). SoFar input (n + s.step.taken) s.book s.out (printed ++ line_in s))
      (sym (step_is left book ahead.0 ahead.1 out so.room))
      made_so_far

-- ---- the laws on runs

-- After each step of a run the lines so far and those of the calls that are left are what the desk prints.
pub run-so_far : {input : List ℕ} {n : ℕ} {book out printed : List ℕ} → Run input n book out printed → SoFar input n book out printed
run-so_far {input} (begun book out l r) = begin_so_far input book out (length book) refl l r
run-so_far {input} (stepped n book out printed run more) = step-so_far input n book out printed (run-so_far run) more

-- While bytes are left a step takes some of them, and no more than there are.
pub run-goes_on : {input : List ℕ} {n : ℕ} {book out printed : List ℕ} → Run input n book out printed → n < length input
    → (0 < (step_of (drop n input) book out).step.taken) × (n + (step_of (drop n input) book out).step.taken ≤ length input)
run-goes_on {input} {n} {book} {out} {printed} run more =
    let so = run-so_far run in
    (step-takes input n book out printed so more, (step-so_far input n book out printed so more).inside)

-- A run that has come to the end has printed what the desk prints.
pub run-prints : {input : List ℕ} {n : ℕ} {book out printed : List ℕ} → Run input n book out printed → length input ≤ n → printed ≡ desk_of input
run-prints {input} {n} {book} {out} {printed} run end =
    sym ((run-so_far run).prints ∙ ap (λ (r : List ℕ). printed ++ r) (none_left input n book end) ∙ append-nil printed)

-- A run that has come to the end of the input, and printed what the desk prints.
pub record Finished (input : List ℕ) : Type 0 where
  pub place : ℕ
  pub book : List ℕ
  pub out : List ℕ
  pub printed : List ℕ
  pub run : Run input place book out printed
  pub end : length input ≤ place
  pub prints : printed ≡ desk_of input

-- A run that has come to the end of the input is so.
finished : {input : List ℕ} {n : ℕ} {book out printed : List ℕ} → Run input n book out printed → length input ≤ n → Finished input
finished {input} {n} {book} {out} {printed} run e =
    record { place = n; book = book; out = out; printed = printed; run = run; end = e; prints = run-prints run e }

-- A run goes on to the end, in no more steps than bytes are left.
run_ends : (most : ℕ) {input : List ℕ} {n : ℕ} {book out printed : List ℕ} → Run input n book out printed → length input ≤ n + most → Finished input
run_ends zero run h = finished run (omega arith)
run_ends (suc most) {input} {n} {book} {out} {printed} run h = elim (dec_lt n (length input)) [
  | yes l ↦ run_ends most (stepped n book out printed run l) (let t : 0 < (step_of (drop n input) book out).step.taken = (run-goes_on run l).0 in omega arith)
  | no l ↦ finished run (omega arith)
]

-- From any slices for the book and the line there is a run to the end.
pub run-from : (input book out : List ℕ) → length book ≡ desk_book_words → reply_room ≤ length out → Finished input
run-from input book out l r = run_ends (length input) (begun book out l r) (omega arith)

-- For every input there is a run to the end.
pub run-there : (input : List ℕ) → Finished input
run-there input = from desk_book_words refl reply_room refl
  where
    -- It is one with slices of zeros, of these sizes.
    from : (m : ℕ) → m ≡ desk_book_words → (n : ℕ) → n ≡ reply_room → Finished input
    from m e n q =
        let o : ℕ = 0 in
        run-from input (replicate m o) (replicate n o) (length-replicate m o ∙ e) (omega (arith, length-replicate n o))
