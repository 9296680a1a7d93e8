-- What a step answers, by what its inner calls answered: nothing done, a fault's line, the opening's line, and the line of a call. Assumes nothing.
use Rattle.std.specs.Prelude.{None, Some, Err, Ok}
use Prim.Native.Nat.{ℕ, ◌+◌, ◌-◌, ◌≤◌, ◌<◌}
use mathlib.Core.Path.{◌≡◌, refl, ap, sym, ◌∙◌}
use mathlib.Core.Bool.{true}
use mathlib.Core.List.{List, [], ◌∷◌}
use native.Mathlib.Omega.{arith}
use borrow.Author.Tests.{lt-ltb, le-ltb}
use lib.ListN.{length, get_or, take, drop, length-drop}
use Rattle.words.proofs.Tests.{never}
use Rattle.words.specs.Base.{when◌then◌else◌, over}
use Rattle.figures.specs.Limits.{used_word}
use Rattle.figures.specs.declared.Answer.{Answer}
use Rattle.book.specs.Opening.{Outcome, outcome, open_of}
use Rattle.desk_line.specs.Replies.{reply, reply_room}
use Rattle.desk_input.specs.Sheets.{first_line_size, letter_line_size, letter_K, letter_byte, FormCall, sheet_of, Handed, faulty, handed, handed_in, opening_by, opening_of}
use Rattle.desk_input.specs.Places.{letter_at, size_to}
use Rattle.desk_input.specs.declared.Letter.{Letter}
use Rattle.desk_input.proofs.Splitting.{other_before, empty-sheet, form-front, form-size, size-within}
use Rattle.desk_call.specs.Asking.{call_of}
use Rattle.desk_step.specs.Desk.{line_for}
use Rattle.desk_step.specs.Steps.{stepping, idle, gives, begun_by, begin_of, stepped_by, step_of}
use Rattle.desk_step.proofs.Runs.{begin_is, letter-long, step_is}

-- ---- no room for a line

-- The opening does nothing.
pub begin_short : (input book out : List ℕ) → length out < reply_room → idle book out ≡ begin_of input book out
unfolding begin_of when◌then◌else◌
begin_short input book out h = rw (lt-ltb (length out) reply_room h)

-- A later step does nothing.
pub step-short : (left book out : List ℕ) → length out < reply_room → idle book out ≡ step_of left book out
unfolding step_of when◌then◌else◌
step-short left book out h = rw (lt-ltb (length out) reply_room h)

-- ---- a line that is written

-- A step whose line is written by the words used of the book then gives the line of its outcome.
line-given : (taken letter : ℕ) (o : Outcome) (out written : List ℕ) (u count : ℕ) → u ≡ get_or o.words used_word 0 → count ≡ length (reply letter o.answer u)
    → written ≡ over (reply letter o.answer u) out → stepping (record { taken = taken; count = count }) o.words written ≡ gives taken (line_for letter o) o.words out
unfolding line_for
line-given taken letter o out written u count e n w = rw (w, n, e)

-- ---- the opening

module _ (input book out : List ℕ) (room : reply_room ≤ length out) where
  -- By a fault all of the input is taken, and the book stays.
  pub begin_fault : (a : Answer) (written : List ℕ) (count : ℕ) → Err a ≡ opening_of input → count ≡ length (reply letter_K a 0)
      → written ≡ over (reply letter_K a 0) out → stepping (record { taken = length input; count = count }) book written ≡ begin_of input book out
  unfolding opening_of begun_by
  begin_fault a written count f n w = go (handed_in input) f ∙ sym (begin_is input book out room)
    where
      -- By what is handed in.
      go : (h : Handed) → Err a ≡ opening_by h → stepping (record { taken = length input; count = count }) book written ≡ begun_by (length input) h book out
      go (faulty b) e = let same : a ≡ b = cc in rw (w, n, same)
      go (handed k cs) e = never cc

  -- Otherwise the book is opened, and line 1 is taken.
  pub begin_opens : (k : ℕ) (a : Answer) (ws written : List ℕ) (u count : ℕ) → Ok k ≡ opening_of input → outcome a ws ≡ open_of book k
      → u ≡ get_or ws used_word 0 → count ≡ length (reply letter_K a u) → written ≡ over (reply letter_K a u) out
      → stepping (record { taken = first_line_size; count = count }) ws written ≡ begin_of input book out
  unfolding opening_of begun_by
  begin_opens k a ws written u count f o e n w = go (handed_in input) f ∙ sym (begin_is input book out room)
    where
      -- By what is handed in.
      go : (h : Handed) → Ok k ≡ opening_by h → stepping (record { taken = first_line_size; count = count }) ws written ≡ begun_by (length input) h book out
      go (faulty b) q = never cc
      go (handed j cs) q =
          let same : k ≡ j = cc in
          line-given first_line_size letter_K (outcome a ws) out written u count e n w
          ∙ ap (λ (x : Outcome). gives first_line_size (line_for letter_K x) x.words out) (o ∙ ap (open_of book) same)

-- ---- a later step

-- Where bytes stand before the first letter line, nothing is done.
idle-before : (bs : List ℕ) (cs : List FormCall) (book out : List ℕ) → 0 < length bs → idle book out ≡ stepped_by bs cs book out
unfolding stepped_by
idle-before [] cs book out h = absurd (omega arith)
idle-before (b ∷ bs) cs book out h = refl

-- Where no letter line stands in front, nothing is done.
pub step_other : (left book out : List ℕ) → reply_room ≤ length out → letter_at left ≡ None → idle book out ≡ step_of left book out
unfolding step_of when◌then◌else◌ stepped_by
step_other [] book out room e = rw (le-ltb (length out) reply_room room, empty-sheet)
step_other (b ∷ bs) book out room e =
    rw (le-ltb (length out) reply_room room) (idle-before (sheet_of (b ∷ bs)).before (sheet_of (b ∷ bs)).calls book out (other_before (b ∷ bs) (omega arith) e))

module _ (left book out : List ℕ) (room : reply_room ≤ length out) where
  -- The call of the letter line in front is made, with the form up to the next one.
  pub step-made : (x : Letter) (a : Answer) (ws written text : List ℕ) (b u count end : ℕ) → letter_at left ≡ Some x
      → end ≡ letter_line_size + size_to true (drop letter_line_size left) → text ≡ take (end - letter_line_size) (drop letter_line_size left)
      → outcome a ws ≡ call_of (record { letter = x; text = text }) book → u ≡ get_or ws used_word 0 → b ≡ letter_byte x → count ≡ length (reply b a u)
      → written ≡ over (reply b a u) out → stepping (record { taken = end; count = count }) ws written ≡ step_of left book out
  step-made x a ws written text b u count end l s t o e m n w =
      let behind : List ℕ = drop letter_line_size left in
      let size : end - letter_line_size ≡ size_to true behind = omega arith in
      let same : text ≡ (sheet_of behind).before = t ∙ ap (λ (j : ℕ). take j behind) size ∙ sym (form-front behind) in
      let made : Outcome = call_of (record { letter = x; text = (sheet_of behind).before }) book in
      line-given end b (outcome a ws) out written u count e n w
      ∙ ap (λ (j : ℕ). gives end (line_for j (outcome a ws)) ws out) m
      ∙ ap (λ (p : Outcome). gives end (line_for (letter_byte x) p) p.words out) (o ∙ ap (λ (r : List ℕ). call_of (record { letter = x; text = r }) book) same)
      ∙ ap (λ (j : ℕ). gives j (line_for (letter_byte x) made) made.words out) (let z : end ≡ letter_line_size + length (sheet_of behind).before = omega (arith, form-size behind) in z)
      ∙ sym (step_is left book x l out room)

-- The form of a letter line ends within the bytes.
pub end-inside : (left : List ℕ) (x : Letter) (end : ℕ) → letter_at left ≡ Some x → end ≡ letter_line_size + size_to true (drop letter_line_size left) → end ≤ length left
end-inside left x end l e = omega (arith, letter-long left x l, size-within true (drop letter_line_size left), length-drop letter_line_size left)
