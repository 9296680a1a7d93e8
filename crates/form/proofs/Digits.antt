-- A spelt line is read back, and so are spelt lines, each of which passes behind those before it. Assumes nothing.
use Rattle.std.specs.Prelude.{Ok}
use mathlib.Core.Path.{◌≡◌, refl, ap, sym, ◌∙◌}
use mathlib.Core.List.{List, [], ◌∷◌, ◌++◌, append_assoc, reverse_aux}
use mathlib.Core.Bool.{Bool, true, false}
use Prim.Native.Nat.{ℕ, zero, suc, ◌+◌, ◌*◌, ◌-◌, ◌/◌, ◌%◌, ◌≤◌, ◌<◌}
use native.Mathlib.Nat.{div-div-eq-div-mul, div-add-mod, mod-eq_of_lt}
use native.Mathlib.Omega.{arith}
use lib.Dec.{ltb}
use lib.ListN.{length}
use lib.Seq.{drop-append_seam}
use borrow.Author.Tests.{le-leb, ne_eqb, ltb-true, ltb-false}
use Rattle.words.specs.Base.{◌and◌, when◌then◌else◌}
use Rattle.figures.specs.Limits.{greatest_code}
use Rattle.form.specs.Text.{digit_0, digit_9, space, line_feed, digit, code_size, Line, level_text, code_text, line_text, spell}
use Rattle.form.specs.Reading.{is_digit, figure, value, is_code, code_behind, spelt_of, read_lines}
use Rattle.form.specs.Faults.{greatest_level}
use Rattle.form.proofs.Tests.{AllPass}
use Rattle.form.proofs.LineBytes.{one-digit, two_digits, line-size}
use Rattle.form.proofs.Faults.{fine_line, read-on}

-- ---- digits

-- The byte of a figure is a digit.
pub figure-digit : (n : ℕ) → n < 10 → is_digit (digit_0 + n) ≡ true
unfolding is_digit ◌and◌
figure-digit n h =
    let k : digit_0 ≤ digit_0 + n = omega arith in
    let l : digit_0 + n ≤ digit_9 = omega arith in
    rw (le-leb digit_0 (digit_0 + n) k, le-leb (digit_0 + n) digit_9 l)

-- The byte of a number's last figure is a digit.
pub is_digit_lem : (n : ℕ) → is_digit (digit n) ≡ true
is_digit_lem n = figure-digit (n % 10) (omega arith)

-- A space is no digit.
pub space-no_digit : is_digit space ≡ false
unfolding is_digit ◌and◌
space-no_digit = refl

-- ---- codes

-- Four figures are the number whose quotients by ten, from the last on, each are ten times the next and a figure.
figures : (c a b d m₀ m₁ m₂ m₃ : ℕ) → 10 * a + m₀ ≡ c → 10 * b + m₁ ≡ a → 10 * d + m₂ ≡ b → m₃ ≡ d
    → figure (digit_0 + m₃) * 1000 + figure (digit_0 + m₂) * 100 + figure (digit_0 + m₁) * 10 + figure (digit_0 + m₀) ≡ c
figures c a b d m₀ m₁ m₂ m₃ p q r s = omega arith

-- The first figure of a code is one figure.
first-figure : (c a b d m₀ m₁ m₂ : ℕ) → 10 * a + m₀ ≡ c → 10 * b + m₁ ≡ a → 10 * d + m₂ ≡ b → c ≤ greatest_code → d < 10
first-figure c a b d m₀ m₁ m₂ p q r h = omega arith

-- The four digits of a code have its value.
pub value-digits : (c : ℕ) → c ≤ greatest_code → value (digit (c / 1000)) (digit (c / 100)) (digit (c / 10)) (digit c) ≡ c
unfolding value
value-digits c h =
    let e : c / 10 / 10 ≡ c / 100 = div-div-eq-div-mul c 10 10 in
    let f : c / 100 / 10 ≡ c / 1000 = div-div-eq-div-mul c 100 10 in
    let p : 10 * (c / 10) + c % 10 ≡ c = div-add-mod c 10 in
    let q : 10 * (c / 100) + c / 10 % 10 ≡ c / 10 = ap (λ (n : ℕ). 10 * n + c / 10 % 10) (sym e) ∙ div-add-mod (c / 10) 10 in
    let r : 10 * (c / 1000) + c / 100 % 10 ≡ c / 100 = ap (λ (n : ℕ). 10 * n + c / 100 % 10) (sym f) ∙ div-add-mod (c / 100) 10 in
    figures c (c / 10) (c / 100) (c / 1000) (c % 10) (c / 10 % 10) (c / 100 % 10) (c / 1000 % 10) p q r (mod-eq_of_lt (first-figure c (c / 10) (c / 100) (c / 1000) (c % 10) (c / 10 % 10) (c / 100 % 10) p q r h))

-- A space, four digits and LF are a code.
pub is-code : (a b c d : ℕ) → is_digit a ≡ true → is_digit b ≡ true → is_digit c ≡ true → is_digit d ≡ true → is_code space a b c d line_feed ≡ true
unfolding is_code ◌and◌
is-code a b c d p q r s = rw (p, q, r, s)

-- Behind a level the text of a code is read as the code.
code_read : (l w c : ℕ) (r : List ℕ) → c ≤ greatest_code → code_behind l w (code_text c ++ r) ≡ Ok (record { level = l; code = c; size = w + code_size })
unfolding code_behind code_text when◌then◌else◌
code_read l w c r h =
    rw (is-code (digit (c / 1000)) (digit (c / 100)) (digit (c / 10)) (digit c) (is_digit_lem (c / 1000)) (is_digit_lem (c / 100)) (is_digit_lem (c / 10)) (is_digit_lem c), value-digits c h)

-- ---- levels

-- A level of one digit is read as itself.
short-level : (l b : ℕ) (r : List ℕ) → l < 10 → is_digit b ≡ false → spelt_of (level_text l ++ (b ∷ r)) ≡ code_behind l (length (level_text l)) (b ∷ r)
unfolding spelt_of when◌then◌else◌
short-level l b r h e =
    let z : figure (digit l) ≡ l = omega arith in
    rw (one-digit l h, is_digit_lem l, e) (ap (λ (m : ℕ). code_behind m 1 (b ∷ r)) z)

-- A level of two digits is read as itself.
long-level : (l b : ℕ) (r : List ℕ) → 10 ≤ l → l ≤ greatest_level → spelt_of (level_text l ++ (b ∷ r)) ≡ code_behind l (length (level_text l)) (b ∷ r)
unfolding spelt_of when◌then◌else◌
long-level l b r g h =
    let z : figure (digit (l / 10)) * 10 + figure (digit l) ≡ l = omega arith in
    let n : digit (l / 10) ≡ digit_0 → ⊥ = λ e. omega arith in
    rw (two_digits l g, is_digit_lem (l / 10), is_digit_lem l, ne_eqb (digit (l / 10)) digit_0 n) (ap (λ (m : ℕ). code_behind m 2 (b ∷ r)) z)

-- A level before a byte that is no digit is read as itself, and the code is looked for behind it.
pub level-read : (l b : ℕ) (r : List ℕ) → l ≤ greatest_level → is_digit b ≡ false → spelt_of (level_text l ++ (b ∷ r)) ≡ code_behind l (length (level_text l)) (b ∷ r)
level-read l b r h e = go (ltb l 10) refl
  where
    go : (t : Bool) → ltb l 10 ≡ t → spelt_of (level_text l ++ (b ∷ r)) ≡ code_behind l (length (level_text l)) (b ∷ r)
    go true q = short-level l b r (ltb-true _ _ q) e
    go false q = long-level l b r (ltb-false _ _ q) h

-- ---- lines

-- A spelt line is read as the line, and takes its own bytes.
pub line_read : (x : Line) (r : List ℕ) → x.level ≤ greatest_level → x.code ≤ greatest_code → spelt_of (line_text x ++ r) ≡ Ok (record { level = x.level; code = x.code; size = length (line_text x) })
unfolding line_text code_text
line_read x r h k =
    ap spelt_of (append_assoc (level_text x.level) (code_text x.code) r)
    ∙ level-read x.level space _ h space-no_digit
    ∙ code_read x.level (length (level_text x.level)) x.code r k
    ∙ ap (λ (n : ℕ). Ok (record { level = x.level; code = x.code; size = n })) (sym (line-size x))

-- Lines that pass are read, and then the rest decides.
pub read-spelt : (room : ℕ) (xs before : List Line) (rest : List ℕ) → AllPass before xs → length xs ≤ room → read_lines room before (spell xs ++ rest) ≡ read_lines (room - length xs) (reverse_aux xs before) rest
unfolding spell
read-spelt room [] before rest g h = let z : room ≡ room - 0 = omega arith in ap (λ (n : ℕ). read_lines n before rest) z
read-spelt zero (x ∷ xs) before rest g h = absurd (omega arith)
read-spelt (suc room) (x ∷ xs) before rest g h =
    let f = g.1 in
    let l : x.level ≤ greatest_level = omega (arith, f.shallow) in
    let z : room - length xs ≡ suc room - suc (length xs) = omega arith in
    ap (read_lines (suc room) before) (append_assoc (line_text x) (spell xs) rest)
    ∙ read-on room before (line_text x ++ (spell xs ++ rest)) (fine_line before (line_text x ++ (spell xs ++ rest)) (line_read x (spell xs ++ rest) l g.0) f)
    ∙ ap (read_lines room (x ∷ before)) (drop-append_seam (line_text x) (spell xs ++ rest))
    ∙ read-spelt room xs (x ∷ before) rest g.2 (omega arith)
    ∙ ap (λ (n : ℕ). read_lines n (reverse_aux xs (x ∷ before)) rest) z
