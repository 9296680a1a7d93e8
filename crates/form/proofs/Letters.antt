-- Codes are decimal, and a form has no other bytes than digits, spaces and LF (01, "Order form text"). Assumes nothing.
use Rattle.std.specs.Prelude.{Err, Ok}
use mathlib.Core.Path.{◌≡◌, refl, ap, sym, subst, ◌∙◌}
use mathlib.Core.Bool.{Bool, true, false}
use mathlib.Core.List.{List, [], ◌∷◌, ◌++◌}
use Prim.Native.Nat.{ℕ, suc, ◌+◌, ◌*◌, ◌-◌, ◌/◌, ◌≤◌, ◌<◌}
use native.Mathlib.Omega.{arith}
use lib.Dec.{ltb}
use lib.ListN.{length, length-append, length-reverse}
use Rattle.words.specs.Base.{◌and◌, when◌then◌else◌}
use Rattle.words.proofs.Tests.{no_test, fails_right}
use Rattle.figures.specs.Limits.{least_code, most_nodes}
use Rattle.figures.specs.Numbers.{done, no_form}
use Rattle.figures.specs.Answers.{refused_at}
use Rattle.order.specs.Answers.{writing, write}
use Rattle.form.specs.Text.{digit_0, space, line_feed, digit, code_size, Line, level_text, code_text, line_text, spell}
use Rattle.form.specs.Reading.{is_digit, value, is_code, code_behind, spelt_of, allowed, siblings, line_of, Form, fault, form, read_lines, form_of, children, words_of_lines, read_of}
use Rattle.form.specs.Faults.{greatest_level, misspelt, FirstFault}
use Rattle.form.specs.declared.reading.Fault.TheVariants.{Misspelt}
use Rattle.form.proofs.Tests.{Passes}
use Rattle.form.proofs.Faults.{fine_line, read_done, read-on, some_bytes}
use Rattle.form.proofs.Digits.{figure-digit, is_digit_lem, space-no_digit, is-code, level-read}
use Rattle.form.proofs.Unique.{read-text, form-text}
use Rattle.form.proofs.Rows.{pass_legal}
use Rattle.form.proofs.FirstFault.{no_text, text-refused, fault-first}
use Rattle.form.proofs.Trips.{form-write, fault-write}

-- ---- codes are decimal

-- Four digits have the value of their figures, in tens.
pub decimal : (a b c d : ℕ) → value (digit_0 + a) (digit_0 + b) (digit_0 + c) (digit_0 + d) ≡ a * 1000 + b * 100 + c * 10 + d
unfolding value
decimal a b c d = omega arith

-- A line of four digits is read as the node whose code they are, whatever follows.
pub code-decimal : (l : ℕ) (a b c d : ℕ) (rest : List ℕ) → l ≤ greatest_level → a < 10 → b < 10 → c < 10 → d < 10
    → spelt_of (level_text l ++ (space ∷ (digit_0 + a) ∷ (digit_0 + b) ∷ (digit_0 + c) ∷ (digit_0 + d) ∷ line_feed ∷ rest)) ≡ Ok (record { level = l; code = a * 1000 + b * 100 + c * 10 + d; size = length (level_text l) + code_size })
unfolding code_behind when◌then◌else◌
code-decimal l a b c d rest h p q r s =
    level-read l space _ h space-no_digit
    ∙ rw (is-code (digit_0 + a) (digit_0 + b) (digit_0 + c) (digit_0 + d) (figure-digit a p) (figure-digit b q) (figure-digit c r) (figure-digit d s), decimal a b c d)

-- Any option passes on line 1.
first-line : (n : ℕ) → least_code ≤ n → Passes [] 0 n
unfolding allowed siblings
first-line n h = record { option = h; follows = refl; shallow = omega arith; child = omega arith }

-- A form of one line of four digits, not all 0, is read as the node whose code is their decimal value.
pub decimal-read : (a b c d : ℕ) → a < 10 → b < 10 → c < 10 → d < 10 → least_code ≤ a * 1000 + b * 100 + c * 10 + d → (out : List ℕ)
    → read_of (digit_0 ∷ space ∷ (digit_0 + a) ∷ (digit_0 + b) ∷ (digit_0 + c) ∷ (digit_0 + d) ∷ line_feed ∷ []) out ≡ write ((a * 1000 + b * 100 + c * 10 + d) ∷ 0 ∷ []) out
unfolding level_text when◌then◌else◌ words_of_lines children
decimal-read a b c d p q r s h out =
    let n : ℕ = a * 1000 + b * 100 + c * 10 + d in
    let x : Line = record { level = 0; code = n } in
    let t : List ℕ = digit_0 ∷ space ∷ (digit_0 + a) ∷ (digit_0 + b) ∷ (digit_0 + c) ∷ (digit_0 + d) ∷ line_feed ∷ [] in
    let l : line_of [] t ≡ Ok (record { level = 0; code = n; size = 7 }) = fine_line [] t (code-decimal 0 a b c d [] (omega arith) p q r s) (first-line n h) in
    form-write t (x ∷ []) out (some_bytes t (omega arith) ∙ read-on (most_nodes - 1) [] t l ∙ read_done (most_nodes - 1) (x ∷ []))

-- ---- a code with another byte in it

-- One of the four bytes is no digit.
pub data NotFour (a b c d : ℕ) : Type 0 where
  first : is_digit a ≡ false → NotFour a b c d
  second : is_digit b ≡ false → NotFour a b c d
  third : is_digit c ≡ false → NotFour a b c d
  fourth : is_digit d ≡ false → NotFour a b c d

-- Such bytes are no code, whatever stands behind them.
no_code : (a b c d e : ℕ) → NotFour a b c d → is_code space a b c d e ≡ false
unfolding is_code ◌and◌
no_code a b c d e (first h) = rw h
no_code a b c d e (second h) = fails_right (is_digit a) _ (rw h)
no_code a b c d e (third h) = fails_right (is_digit a) _ (fails_right (is_digit b) _ (rw h))
no_code a b c d e (fourth h) = fails_right (is_digit a) _ (fails_right (is_digit b) _ (fails_right (is_digit c) _ (rw h)))

-- Nothing is read behind the level, even where the text ends.
none-behind : (l w a b c d : ℕ) (rest : List ℕ) → NotFour a b c d → code_behind l w (space ∷ a ∷ b ∷ c ∷ d ∷ rest) ≡ Err Misspelt
unfolding code_behind when◌then◌else◌
none-behind l w a b c d [] n = refl
none-behind l w a b c d (e ∷ rest) n = rw (no_code a b c d e n)

-- Such a line is the first at fault behind any lines that were read, if there is room for one more.
code-fault : (front : List ℕ) (xs : List Line) (l a b c d : ℕ) (rest : List ℕ) → read_lines most_nodes [] front ≡ form xs → length xs < most_nodes → l ≤ greatest_level → NotFour a b c d
    → FirstFault (front ++ (level_text l ++ (space ∷ a ∷ b ∷ c ∷ d ∷ rest))) no_form (suc (length xs))
code-fault front xs l a b c d rest e h k n =
    let s : List ℕ = level_text l ++ (space ∷ a ∷ b ∷ c ∷ d ∷ rest) in
    let t = read-text most_nodes front xs e in
    record {
      before = xs;
      rest = s;
      text = ap (λ (f : List ℕ). f ++ s) (sym t.0);
      legal = pass_legal xs [] tt t.1;
      some = omega (arith, length-append (level_text l) (space ∷ a ∷ b ∷ c ∷ d ∷ rest));
      place = refl;
      why = misspelt refl (omega (arith, length-reverse xs)) (no_text s (level-read l space _ k space-no_digit ∙ none-behind l (length (level_text l)) a b c d rest n));
    }

-- A code with a byte in it that is no digit is refused by 10 at its own line, wherever the byte stands, behind any lines that were read,
-- if there is room for one more, and whatever follows; nothing is written.
pub code-refused : (front : List ℕ) (xs : List Line) (l a b c d : ℕ) (rest : List ℕ) → read_lines most_nodes [] front ≡ form xs → length xs < most_nodes → l ≤ greatest_level → NotFour a b c d → (out : List ℕ)
    → read_of (front ++ (level_text l ++ (space ∷ a ∷ b ∷ c ∷ d ∷ rest))) out ≡ writing (refused_at no_form (suc (length xs))) out
code-refused front xs l a b c d rest e h k n out = fault-write _ out (fault-first _ no_form (suc (length xs)) (code-fault front xs l a b c d rest e h k n))

-- ---- bytes

-- A byte that a form may have.
data Byte (b : ℕ) : Type 0 where
  figure-byte : is_digit b ≡ true → Byte b
  space-byte : b ≡ space → Byte b
  feed_byte : b ≡ line_feed → Byte b

-- All bytes are such.
abbrev Bytes : List ℕ → Type 0
Bytes [] = Unit {0}
Bytes (b ∷ bs) = Byte b × Bytes bs

-- They are so in two texts one after the other.
bytes-append : (s t : List ℕ) → Bytes s → Bytes t → Bytes (s ++ t)
bytes-append [] t g h = h
bytes-append (b ∷ s) t g h = (g.0, bytes-append s t g.1 h)

-- Any one of them is such.
byte_in : (front : List ℕ) (b : ℕ) (rest : List ℕ) → Bytes (front ++ (b ∷ rest)) → Byte b
byte_in [] b rest g = g.0
byte_in (a ∷ front) b rest g = byte_in front b rest g.1

-- A level's text has digits only.
level-bytes : (l : ℕ) → Bytes (level_text l)
unfolding level_text when◌then◌else◌
level-bytes l = go (ltb l 10)
  where
    go : (t : Bool) → Bytes (when t then digit l ∷ [] else digit (l / 10) ∷ digit l ∷ [])
    go true = (figure-byte (is_digit_lem l), tt)
    go false = (figure-byte (is_digit_lem (l / 10)), (figure-byte (is_digit_lem l), tt))

-- A code's text has a space, digits and LF.
code-bytes : (c : ℕ) → Bytes (code_text c)
unfolding code_text
code-bytes c = (space-byte refl, (figure-byte (is_digit_lem (c / 1000)), (figure-byte (is_digit_lem (c / 100)), (figure-byte (is_digit_lem (c / 10)), (figure-byte (is_digit_lem c), (feed_byte refl, tt))))))

-- The text of lines has nothing but these.
spell-bytes : (xs : List Line) → Bytes (spell xs)
unfolding spell line_text
spell-bytes [] = tt
spell-bytes (x ∷ xs) = bytes-append (line_text x) (spell xs) (bytes-append (level_text x.level) (code_text x.code) (level-bytes x.level) (code-bytes x.code)) (spell-bytes xs)

-- A text is refused, by some number at some line, and nothing is written.
pub record NotRead (s : List ℕ) : Type 0 where
  pub number : ℕ
  pub line : ℕ
  pub refuses : number ≡ done → ⊥
  pub answers : (out : List ℕ) → read_of s out ≡ writing (refused_at number line) out

-- A text with a byte that is no digit, no space and no LF is refused, wherever the byte stands.
pub byte_refused : (front rest : List ℕ) (b : ℕ) → is_digit b ≡ false → (b ≡ space → ⊥) → (b ≡ line_feed → ⊥) → NotRead (front ++ (b ∷ rest))
byte_refused front rest b d s n = go (form_of (front ++ (b ∷ rest))) refl
  where
    other : Byte b → ⊥
    other (figure-byte h) = no_test (sym d ∙ h)
    other (space-byte h) = s h
    other (feed_byte h) = n h

    go : (f : Form) → form_of (front ++ (b ∷ rest)) ≡ f → NotRead (front ++ (b ∷ rest))
    go (form xs) q = absurd (other (byte_in front b rest (subst Bytes (form-text (front ++ (b ∷ rest)) xs q).0 (spell-bytes xs))))
    go (fault m line) q = record { number = m; line = line; refuses = text-refused _ q; answers = λ out. fault-write _ out q }
