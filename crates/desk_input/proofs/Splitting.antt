-- Where a sheet's first letter line stands, and what stands before and behind it: by the bytes, as the code finds it. Assumes nothing.
use Rattle.std.specs.Prelude.{None, Option, Some}
use Prim.Native.Nat.{ℕ, suc, ◌≤◌, ◌<◌}
use mathlib.Core.Path.{◌≡◌, refl, ap, sym, ◌∙◌}
use mathlib.Core.Bool.{Bool, true, false}
use mathlib.Core.List.{List, [], ◌∷◌}
use native.Mathlib.Omega.{arith}
use lib.Dec.{eqb}
use lib.ListN.{length, take, drop}
use lib.Seq.{length-take-le}
use borrow.Author.Tests.{eqb-true}
use Rattle.words.proofs.Tests.{never}
use Rattle.words.specs.Base.{◌and◌, when◌then◌else◌}
use Rattle.form.specs.Text.{line_feed}
use Rattle.desk_input.specs.Sheets.{letter_of, with_byte, input_lines, kind_of, Sheet, with_line, calls_of, sheet_of}
use Rattle.desk_input.specs.Places.{letter_at, is_asking, size_to}
use Rattle.desk_input.specs.declared.Letter.{Letter}

-- ---- the first line

-- What the first of lines asks for.
abbrev pub first_kind : List (List ℕ) → Option Letter
first_kind [] = None
first_kind (l ∷ ls) = kind_of l

-- LF is no letter.
pub feed_asks-nothing : (b : ℕ) → eqb b line_feed ≡ true → letter_of b ≡ None
unfolding letter_of when◌then◌else◌
feed_asks-nothing b p = rw (eqb-true b line_feed p)

-- The first line of bytes asks for what the bytes at their front do.
first_kind_lem : (bs : List ℕ) → first_kind (input_lines bs) ≡ letter_at bs
unfolding input_lines with_byte kind_of letter_at when◌then◌else◌
first_kind_lem [] = refl
first_kind_lem (b ∷ []) = one (eqb b line_feed)
  where
    -- A line of one byte asks for nothing.
    one : (t : Bool) → first_kind (with_byte t b []) ≡ None
    one true = refl
    one false = refl
first_kind_lem (b ∷ e ∷ rest) = go (eqb b line_feed) refl (eqb e line_feed) refl (input_lines rest)
  where
    -- By whether the first byte is LF, whether the second is, and the lines behind them.
    go : (t : Bool) → eqb b line_feed ≡ t → (u : Bool) → eqb e line_feed ≡ u → (ls : List (List ℕ))
        → first_kind (with_byte t b (with_byte u e ls)) ≡ (when u then letter_of b else None)
    go true p true q ls = sym (feed_asks-nothing b p)
    go true p false q ls = refl
    go false p true q ls = rw q
    go false p false q [] = rw q
    go false p false q ([] ∷ ls) = rw q
    go false p false q ((c ∷ l) ∷ ls) = refl

-- ---- bytes behind others

-- What lines ask for, the first of which goes on from before and is no letter line.
abbrev pub going_on : List (List ℕ) → Sheet
going_on [] = record { before = []; calls = [] }
going_on (l ∷ ls) = with_line None l (calls_of ls)

-- What bytes ask for; whether a line starts at the first of them is told.
abbrev pub sheet_from : Bool → List ℕ → Sheet
sheet_from true bs = sheet_of bs
sheet_from false bs = going_on (input_lines bs)

-- A byte in front of what is before the first letter line.
abbrev pub with_front : ℕ → Sheet → Sheet
with_front b s = record { before = b ∷ s.before; calls = s.calls }

-- No bytes ask for nothing.
pub empty-sheet : sheet_of [] ≡ record { before = []; calls = [] }
unfolding sheet_of calls_of input_lines
empty-sheet = refl

-- Lines of which the first is no letter line ask for what they ask for behind a line's beginning.
calls-on : (ls : List (List ℕ)) → first_kind ls ≡ None → calls_of ls ≡ going_on ls
unfolding calls_of
calls-on [] e = refl
calls-on (l ∷ ls) e = rw e

-- A byte behind a line's beginning goes in front of what follows.
pub byte_on : (b : ℕ) (bs : List ℕ) → sheet_from false (b ∷ bs) ≡ with_front b (sheet_from (eqb b line_feed) bs)
unfolding sheet_of input_lines with_byte with_line calls_of
byte_on b bs = go (eqb b line_feed)
  where
    -- Any byte but LF goes in front of the line that follows it, if there is one.
    inside : (ls : List (List ℕ)) → going_on (with_byte false b ls) ≡ with_front b (going_on ls)
    inside [] = refl
    inside (l ∷ ls) = refl

    -- By whether the byte is LF.
    go : (t : Bool) → going_on (with_byte t b (input_lines bs)) ≡ with_front b (sheet_from t bs)
    go true = refl
    go false = inside (input_lines bs)

-- So does a byte at a line's beginning, if no letter line starts there.
pub byte_other : (b : ℕ) (bs : List ℕ) → letter_at (b ∷ bs) ≡ None → sheet_from true (b ∷ bs) ≡ with_front b (sheet_from (eqb b line_feed) bs)
unfolding sheet_of
byte_other b bs e = calls-on (input_lines (b ∷ bs)) (first_kind_lem (b ∷ bs) ∙ e) ∙ byte_on b bs

-- Bytes that begin with a letter line ask for a call, whose text is what stands before the next.
pub letter-sheet : (bs : List ℕ) (x : Letter) → letter_at bs ≡ Some x
    → sheet_of bs ≡ record { before = []; calls = record { letter = x; text = (sheet_of (drop 2 bs)).before } ∷ (sheet_of (drop 2 bs)).calls }
unfolding letter_at sheet_of input_lines calls_of with_byte with_line kind_of when◌then◌else◌
letter-sheet [] x e = never cc
letter-sheet (b ∷ []) x e = never cc
letter-sheet (b ∷ f ∷ rest) x e = go (eqb b line_feed) refl (eqb f line_feed) refl e
  where
    -- By whether the first byte is LF, and whether the second is.
    go : (t : Bool) → eqb b line_feed ≡ t → (u : Bool) → eqb f line_feed ≡ u → (when u then letter_of b else None) ≡ Some x
        → calls_of (with_byte t b (with_byte u f (input_lines rest)))
        ≡ record { before = []; calls = record { letter = x; text = (calls_of (input_lines rest)).before } ∷ (calls_of (input_lines rest)).calls }
    go true p true q g = absurd (let n = feed_asks-nothing b p in never cc)
    go true p false q g = never cc
    go false p true q g = rw (q, g)
    go false p false q g = never cc

-- ---- the laws

-- Bytes that do not begin with a letter line have bytes before the first.
pub other_before : (bs : List ℕ) → 0 < length bs → letter_at bs ≡ None → 0 < length (sheet_of bs).before
other_before [] h e = absurd (omega arith)
other_before (b ∷ bs) h e = rw (byte_other b bs e) (omega arith)

-- No more bytes stand before the next letter line than there are.
pub size-within : (starts : Bool) (bs : List ℕ) → size_to starts bs ≤ length bs
unfolding size_to when◌then◌else◌
size-within starts [] = omega arith
size-within starts (b ∷ bs) = go (starts and is_asking (letter_at (b ∷ bs))) (size-within (eqb b line_feed) bs)
  where
    -- By whether a letter line starts there.
    go : (t : Bool) → size_to (eqb b line_feed) bs ≤ length bs → (when t then 0 else suc (size_to (eqb b line_feed) bs)) ≤ suc (length bs)
    go true h = omega arith
    go false h = omega arith

-- No letter line starts inside a line.
pub size-on : (b : ℕ) (bs : List ℕ) → size_to false (b ∷ bs) ≡ suc (size_to (eqb b line_feed) bs)
unfolding size_to ◌and◌ when◌then◌else◌
size-on b bs = refl

-- A byte where no letter line starts is one byte more.
pub size-other : (b : ℕ) (bs : List ℕ) → letter_at (b ∷ bs) ≡ None → size_to true (b ∷ bs) ≡ suc (size_to (eqb b line_feed) bs)
unfolding size_to ◌and◌ when◌then◌else◌
size-other b bs e = rw e

-- A letter line ends what stands before it.
pub size-letter : (bs : List ℕ) (x : Letter) → letter_at bs ≡ Some x → size_to true bs ≡ 0
unfolding size_to ◌and◌ when◌then◌else◌
size-letter [] x e = refl
size-letter (b ∷ bs) x e = rw e

-- Of no bytes none stand before a letter line.
front-none : (starts : Bool) → (sheet_from starts []).before ≡ take (size_to starts []) []
unfolding size_to sheet_of calls_of input_lines
front-none true = refl
front-none false = refl

-- What stands before the next letter line are the first bytes, as many as there are to it.
pub front : (starts : Bool) (bs : List ℕ) → (sheet_from starts bs).before ≡ take (size_to starts bs) bs
front starts [] = front-none starts
front false (b ∷ bs) = rw (size-on b bs, byte_on b bs, front (eqb b line_feed) bs)
front true (b ∷ bs) = go (letter_at (b ∷ bs)) refl (front (eqb b line_feed) bs)
  where
    -- By what the bytes begin with.
    go : (k : Option Letter) → letter_at (b ∷ bs) ≡ k → (sheet_from (eqb b line_feed) bs).before ≡ take (size_to (eqb b line_feed) bs) bs
        → (sheet_from true (b ∷ bs)).before ≡ take (size_to true (b ∷ bs)) (b ∷ bs)
    go (Some x) p ih = rw (size-letter (b ∷ bs) x p, letter-sheet (b ∷ bs) x p)
    go None p ih = rw (size-other b bs p, byte_other b bs p, ih)

-- Behind no bytes there are no calls.
behind-none : (starts : Bool) → sheet_of (drop (size_to starts []) []) ≡ record { before = []; calls = (sheet_from starts []).calls }
unfolding size_to sheet_of calls_of input_lines
behind-none true = refl
behind-none false = refl

-- Behind them stands the first letter line, or nothing: the calls are the same, and nothing is before them.
behind : (starts : Bool) (bs : List ℕ) → sheet_of (drop (size_to starts bs) bs) ≡ record { before = []; calls = (sheet_from starts bs).calls }
behind starts [] = behind-none starts
behind false (b ∷ bs) = rw (size-on b bs, byte_on b bs) (behind (eqb b line_feed) bs)
behind true (b ∷ bs) = go (letter_at (b ∷ bs)) refl (behind (eqb b line_feed) bs)
  where
    -- By what the bytes begin with.
    go : (k : Option Letter) → letter_at (b ∷ bs) ≡ k
        → sheet_of (drop (size_to (eqb b line_feed) bs) bs) ≡ record { before = []; calls = (sheet_from (eqb b line_feed) bs).calls }
        → sheet_of (drop (size_to true (b ∷ bs)) (b ∷ bs)) ≡ record { before = []; calls = (sheet_from true (b ∷ bs)).calls }
    go (Some x) p ih = rw (size-letter (b ∷ bs) x p, letter-sheet (b ∷ bs) x p)
    go None p ih = rw (size-other b bs p, byte_other b bs p) ih

-- The bytes before the first letter line are the first bytes, as many as there are to it.
pub form-front : (bs : List ℕ) → (sheet_of bs).before ≡ take (size_to true bs) bs
form-front bs = front true bs

-- They are so many.
pub form-size : (bs : List ℕ) → length (sheet_of bs).before ≡ size_to true bs
form-size bs = ap length (form-front bs) ∙ length-take-le (size_to true bs) bs (size-within true bs)

-- Without them the calls are the same.
pub rest-calls : (bs : List ℕ) → (sheet_of (drop (size_to true bs) bs)).calls ≡ (sheet_of bs).calls
rest-calls bs = ap (λ (s : Sheet). s.calls) (behind true bs)

-- Without them nothing is before the calls.
pub rest-before : (bs : List ℕ) → (sheet_of (drop (size_to true bs) bs)).before ≡ []
rest-before bs = ap (λ (s : Sheet). s.before) (behind true bs)
