-- What an input hands in: its first fault, or an allowed k and the calls behind line 1, in no more bytes than are allowed. Assumes nothing.
use Rattle.std.specs.Prelude.{None, Option, Some}
use Prim.Native.Nat.{ℕ, suc, ◌≤◌}
use mathlib.Core.Path.{◌≡◌, refl}
use mathlib.Core.Bool.{Bool, true, false}
use mathlib.Core.List.{List, [], ◌∷◌}
use native.Mathlib.Omega.{arith}
use borrow.Author.Tests.{ltb-false}
use lib.Dec.{ltb, eqb}
use lib.ListN.{length, drop}
use Rattle.desk_input.specs.declared.Letter.{Letter}
use Rattle.words.specs.Base.{◌and◌, when◌then◌else◌, within}
use Rattle.words.proofs.Tests.{and_right}
use Rattle.figures.specs.Limits.{least_k, greatest_k, most_input}
use Rattle.figures.specs.Numbers.{too_large}
use Rattle.figures.specs.Answers.{answered}
use Rattle.figures.specs.declared.Answer.{Answer}
use Rattle.form.specs.Text.{space, line_feed}
use Rattle.form.specs.Reading.{is_digit, figure}
use Rattle.form.proofs.Faults.{within_both}
use Rattle.desk_input.specs.Sheets.{first_line_size, letter_K, with_byte, input_lines, kind_of, Sheet, with_line, calls_of, sheet_of}
use Rattle.desk_input.specs.Sheets.{asks, otherwise, first_line, Handed, faulty, handed, handed_by, by_first, handed_in}

-- ---- how many calls

-- A line asks for one call at most.
line-call : (x : Option Letter) (l : List ℕ) (s : Sheet) → length (with_line x l s).calls ≤ suc (length s.calls)
unfolding with_line
line-call (Some x) l s = omega arith
line-call None l s = omega arith

-- Lines ask for no more calls than they are.
lines-calls : (ls : List (List ℕ)) → length (calls_of ls).calls ≤ length ls
unfolding calls_of
lines-calls [] = omega arith
lines-calls (l ∷ ls) = omega (arith, line-call (kind_of l) l (calls_of ls), lines-calls ls)

-- A byte begins one line more at most.
byte_line : (x : Bool) (b : ℕ) (ls : List (List ℕ)) → length (with_byte x b ls) ≤ suc (length ls)
unfolding with_byte
byte_line true b ls = omega arith
byte_line false b [] = omega arith
byte_line false b (l ∷ ls) = omega arith

-- Bytes are no fewer than their lines.
bytes-lines : (bs : List ℕ) → length (input_lines bs) ≤ length bs
unfolding input_lines
bytes-lines [] = omega arith
bytes-lines (b ∷ bs) = omega (arith, byte_line (eqb b line_feed) b (input_lines bs), bytes-lines bs)

-- Bytes ask for no more calls than they are.
pub calls-within : (bs : List ℕ) → length (sheet_of bs).calls ≤ length bs
unfolding sheet_of
calls-within bs = omega (arith, lines-calls (input_lines bs), bytes-lines bs)

-- ---- what is handed in

-- An input hands in a fault; or it is no longer than allowed, begins with a first line that has an allowed k, and hands in the calls behind that line,
-- before which no bytes stand.
pub data HandsIn (input : List ℕ) : Handed → Type 0 where
  at_fault : (a : Answer) → HandsIn input (faulty a)
  opens : (k : ℕ) → length input ≤ most_input → least_k ≤ k → k ≤ greatest_k → first_line_size ≤ length input → (sheet_of (drop first_line_size input)).before ≡ []
      → HandsIn input (handed k (sheet_of (drop first_line_size input)).calls)

-- So it is, by the first line.
first-hands : (input : List ℕ) → length input ≤ most_input → HandsIn input (by_first (first_line input))
unfolding first_line by_first handed_by when◌then◌else◌
first-hands [] h = at_fault _
first-hands (a ∷ []) h = at_fault _
first-hands (a ∷ b ∷ []) h = at_fault _
first-hands (a ∷ b ∷ c ∷ []) h = at_fault _
first-hands (a ∷ b ∷ c ∷ d ∷ rest) h =
    go (eqb a letter_K and eqb b space and is_digit c and eqb d line_feed and within least_k greatest_k (figure c)) refl
  where
    -- The last of the five tests.
    in_range : (p q r s t : Bool) → (p and q and r and s and t) ≡ true → t ≡ true
    in_range p q r s t e = and_right s t (and_right r (s and t) (and_right q (r and s and t) (and_right p (q and r and s and t) e)))

    -- By the bytes before the first letter line.
    behind : (bs : List ℕ) → (sheet_of rest).before ≡ bs → (least_k ≤ figure c) × (figure c ≤ greatest_k)
        → HandsIn (a ∷ b ∷ c ∷ d ∷ rest) (handed_by (figure c) bs (sheet_of rest).calls)
    behind [] q r = opens (figure c) h r.0 r.1 (omega arith) q
    behind (x ∷ xs) q r = at_fault _

    -- By whether line 1 is as it should be.
    go : (t : Bool) → (eqb a letter_K and eqb b space and is_digit c and eqb d line_feed and within least_k greatest_k (figure c)) ≡ t
        → HandsIn (a ∷ b ∷ c ∷ d ∷ rest) (by_first (when t then asks (figure c) rest else otherwise))
    go true e =
        let w = in_range (eqb a letter_K) (eqb b space) (is_digit c) (eqb d line_feed) (within least_k greatest_k (figure c)) e in
        behind (sheet_of rest).before refl (within_both least_k greatest_k (figure c) w)
    go false e = at_fault _

-- So it is, by the length of the input and the first line.
pub hands_in : (input : List ℕ) → HandsIn input (handed_in input)
unfolding handed_in when◌then◌else◌
hands_in input = go (ltb most_input (length input)) refl
  where
    -- By whether the input is too long.
    go : (t : Bool) → ltb most_input (length input) ≡ t → HandsIn input (when t then faulty (answered too_large) else by_first (first_line input))
    go true e = at_fault _
    go false e = first-hands input (omega (arith, ltb-false most_input (length input) e))
