-- What makes a sheet that of some bytes (01, "Forms on the desk"), by what a letter line is: how letter lines are looked for, and how a sheet is
-- split from its bytes, is not said here. Assumes nothing: these are definitions.
use Rattle.std.specs.Prelude.{ℕ, ◌≡◌, List, [], ◌∷◌, ◌++◌}
use Rattle.form.specs.Text.{line_feed}
use Rattle.desk_input.specs.Sheets.{letter_byte, FormCall, Sheet}
use Rattle.desk_input.specs.declared.Letter.{Letter}

-- ---- calls as they are written

-- A call as it is written: "a line of the one letter T, W or J and LF", and its form.
abbrev pub call_text : FormCall → List ℕ
call_text c = letter_byte c.letter ∷ line_feed ∷ c.text

-- Calls one after the other.
unfoldable pub joined_calls : List FormCall → List ℕ
joined_calls [] = []
joined_calls (c ∷ cs) = call_text c ++ joined_calls cs

-- What a sheet is split into, one after the other.
unfoldable pub sheet_bytes : Sheet → List ℕ
sheet_bytes s = s.before ++ joined_calls s.calls

-- ---- letter lines

-- A line starts behind these bytes: there are none, or the last of them is LF.
pub data StartsLine (bs : List ℕ) : Type 0 where
  nothing_before : bs ≡ [] → StartsLine bs
  behind_feed : (front : List ℕ) → bs ≡ front ++ (line_feed ∷ []) → StartsLine bs

-- Among the bytes stands "a line of the one letter T, W or J and LF": where a line starts, the letter and LF follow.
pub record LetterLine (bytes : List ℕ) : Type 0 where
  pub front : List ℕ
  pub letter : Letter
  pub rest : List ℕ
  pub starts : StartsLine front
  pub is : bytes ≡ front ++ (letter_byte letter ∷ line_feed ∷ rest)

-- "the form runs to the next such line or the end": no letter line stands among the bytes.
abbrev pub Plain : List ℕ → Type 0
Plain bs = LetterLine bs → ⊥

-- ---- sheets

-- Bytes, and the calls behind them: no letter line stands among the bytes before the first call or among those of a form, and each call starts a
-- line.
pub data Parts : List ℕ → List FormCall → Type 0 where
  last_part : {bs : List ℕ} → Plain bs → Parts bs []
  part : {bs : List ℕ} {c : FormCall} {cs : List FormCall} → Plain bs → StartsLine bs → Parts c.text cs → Parts bs (c ∷ cs)

-- The sheet is that of the bytes.
pub record IsSheet (bytes : List ℕ) (s : Sheet) : Type 0 where
  pub joins : sheet_bytes s ≡ bytes
  pub parts : Parts s.before s.calls
