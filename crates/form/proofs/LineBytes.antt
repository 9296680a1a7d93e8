-- The bytes of a line as stores and lent parts leave them, and those of lines one after the other. Assumes nothing.
use Prim.Native.Nat.{ℕ, zero, suc, ◌+◌, ◌*◌, ◌-◌, ◌/◌, ◌%◌, ◌≤◌, ◌<◌}
use mathlib.Core.Path.{◌≡◌, refl, ap, sym, ◌∙◌}
use mathlib.Core.List.{List, [], ◌∷◌, ◌++◌, append_assoc, append-nil}
use native.Mathlib.Nat.{div-div-eq-div-mul}
use native.Mathlib.Decide.{dec_lt}
use native.Mathlib.Omega.{arith}
use borrow.Author.Tests.{lt-ltb, le-ltb}
use lib.ListN.{length, take, drop, set, length-append, length-drop}
use lib.Seq.{length-take-le, take_at, drop_at, drop-drop, sets-eq}
use Rattle.words.specs.Base.{when◌then◌else◌, over}
use Rattle.order.specs.Trees.{Tree, Forest, node, bare, cons}
use Rattle.order.specs.Levels.{tree_levels, row_levels}
use Rattle.order.proofs.Writing.{part-back}
use Rattle.form.specs.Text.{digit_0, space, line_feed, digit, code_size, level_text, code_text, Line, line_text, spell, lines_of, lines_f}
use Rattle.form.specs.Turns.{levels_of, ShortLines}

-- ---- a level

-- A level below 10 is one digit.
pub one-digit : (l : ℕ) → l < 10 → level_text l ≡ digit l ∷ []
unfolding level_text when◌then◌else◌
one-digit l h = rw (lt-ltb l 10 h) refl

-- A level from 10 on is two digits.
pub two_digits : (l : ℕ) → 10 ≤ l → level_text l ≡ digit (l / 10) ∷ digit l ∷ []
unfolding level_text when◌then◌else◌
two_digits l h = rw (le-ltb l 10 h) refl

-- A level below 10 takes one byte.
pub one_byte : (l : ℕ) → l < 10 → 1 ≡ length (level_text l)
one_byte l h = sym (ap length (one-digit l h))

-- A level from 10 on takes two bytes.
pub two_bytes : (l : ℕ) → 10 ≤ l → 2 ≡ length (level_text l)
two_bytes l h = sym (ap length (two_digits l h))

-- A level below 10 is written by one store.
pub one_store : (l : ℕ) (out : List ℕ) (d : ℕ) → l < 10 → length (level_text l) ≤ length out → d ≡ digit l → set out 0 d ≡ over (level_text l) out
one_store l out d h room e = rw (one-digit l h, e) (sets-eq (digit l ∷ []) out 0 (omega (arith, one_byte l h)))

-- A level from 10 on is written by two stores.
pub two_stores : (l : ℕ) (out : List ℕ) (a b : ℕ) → 10 ≤ l → length (level_text l) ≤ length out → a ≡ digit (l / 10) → b ≡ digit l → set (set out 0 a) 1 b ≡ over (level_text l) out
two_stores l out a b h room e f = rw (two_digits l h, e, f) (sets-eq (digit (l / 10) ∷ digit l ∷ []) out 0 (omega (arith, two_bytes l h)))

-- ---- a code

-- The first digit of a code is that of its hundreds' tens.
pub first-digit : (n a : ℕ) → a ≡ digit (n / 100 / 10) → a ≡ digit (n / 1000)
first-digit n a e = e ∙ ap digit (div-div-eq-div-mul n 100 10)

-- The third digit of a code is that of its last two digits' tens.
pub third_digit : (n c : ℕ) → c ≡ digit (n % 100 / 10) → c ≡ digit (n / 10)
third_digit n c e = let z : n % 100 / 10 % 10 ≡ n / 10 % 10 = omega arith in e ∙ ap (λ (k : ℕ). digit_0 + k) z

-- The last digit of a code is that of its last two digits.
pub last-digit : (n d : ℕ) → d ≡ digit (n % 100) → d ≡ digit n
last-digit n d e = let z : n % 100 % 10 ≡ n % 10 = omega arith in e ∙ ap (λ (k : ℕ). digit_0 + k) z

-- A code's bytes are written by six stores.
pub six_stores : (n : ℕ) (out : List ℕ) (a b c d : ℕ) → code_size ≤ length out → a ≡ digit (n / 1000) → b ≡ digit (n / 100) → c ≡ digit (n / 10) → d ≡ digit n
    → set (set (set (set (set (set out 0 space) 1 a) 2 b) 3 c) 4 d) 5 line_feed ≡ over (code_text n) out
unfolding code_text
six_stores n out a b c d h e f g i = rw (e, f, g, i) (sets-eq (space ∷ digit (n / 1000) ∷ digit (n / 100) ∷ digit (n / 10) ∷ digit n ∷ line_feed ∷ []) out 0 (omega arith))

-- ---- a line

-- A line has the bytes of its level and those of its code.
pub line-size : (x : Line) → length (line_text x) ≡ length (level_text x.level) + code_size
unfolding line_text code_text
line-size x = length-append (level_text x.level) (code_text x.code)

-- Bytes are written over the front of out behind those that are there, in the part that is lent on.
pub over-part : (a b out out₁ last : List ℕ) (n : ℕ) → length a + length b ≤ length out → n ≡ length a → out₁ ≡ over a out → last ≡ over b (take (length out₁ - n) (drop n out₁))
    → take n out₁ ++ (last ++ drop (length out₁ - n) (drop n out₁)) ≡ over (a ++ b) out
over-part a b out out₁ last n h e o l =
    let t : take n out₁ ≡ a = rw o (take_at a (drop (length a) out) n (sym e)) in
    let d : drop n out₁ ≡ drop n out = rw (o, e) (drop_at a (drop (length a) out) (length a) refl) in
    let z : length out₁ ≡ length out = ap length o ∙ omega (arith, length-append a (drop (length a) out), length-drop (length a) out) in
    let m : n + length b ≡ length (a ++ b) = omega (arith, length-append a b) in
    let r : drop (n + length b) out₁ ≡ drop (length (a ++ b)) out = sym (drop-drop (length b) n out₁) ∙ ap (drop (length b)) d ∙ drop-drop (length b) n out ∙ ap (λ (k : ℕ). drop k out) m in
    part-back n out₁ b last (omega arith) l ∙ rw (t, r)

-- A line is its level and, in the part that is lent on, its code.
pub line-over : (l c : ℕ) (out out₁ last : List ℕ) (n : ℕ) → length (line_text (record { level = l; code = c })) ≤ length out → n ≡ length (level_text l) → out₁ ≡ over (level_text l) out → last ≡ over (code_text c) (take (length out₁ - n) (drop n out₁))
    → take n out₁ ++ (last ++ drop (length out₁ - n) (drop n out₁)) ≡ over (line_text (record { level = l; code = c })) out
unfolding line_text
line-over l c out out₁ last n h = over-part (level_text l) (code_text c) out out₁ last n (omega (arith, length-append (level_text l) (code_text c)))

-- A line whose level has one digit takes seven bytes.
pub short-size : (x : Line) → x.level < 10 → 1 + code_size ≡ length (line_text x)
short-size x h = omega (arith, line-size x, one_byte x.level h)

-- Such a line is written by one store and, in the part that is lent on, its code.
pub short-line : (l c : ℕ) (out last : List ℕ) → l < 10 → 1 + code_size ≤ length out → last ≡ over (code_text c) (take (length (set out 0 (digit_0 + l)) - 1) (drop 1 (set out 0 (digit_0 + l))))
    → take 1 (set out 0 (digit_0 + l)) ++ (last ++ drop (length (set out 0 (digit_0 + l)) - 1) (drop 1 (set out 0 (digit_0 + l)))) ≡ over (line_text (record { level = l; code = c })) out
short-line l c out last h room =
    let d : l ≡ l % 10 = omega arith in
    let size = short-size (record { level = l; code = c }) h in
    line-over l c out (set out 0 (digit_0 + l)) last 1 (omega arith) (one_byte l h) (one_store l out (digit_0 + l) h (omega (arith, one_byte l h)) (ap (λ (k : ℕ). digit_0 + k) d))

-- The part that is lent on has what is left of the length.
pub part-size : (n : ℕ) (out : List ℕ) → length (take (length out - n) (drop n out)) ≡ length out - n
part-size n out = length-take-le (length out - n) (drop n out) (omega (arith, length-drop n out))

-- ---- lines one after the other

-- The bytes of lines behind others stand behind theirs.
pub spell-append : (xs ys : List Line) → spell (xs ++ ys) ≡ spell xs ++ spell ys
unfolding spell
spell-append [] ys = refl
spell-append (x ∷ xs) ys = rw (spell-append xs ys) (sym (append_assoc (line_text x) (spell xs) (spell ys)))

-- The bytes of one line more stand behind those of the lines before.
pub spell-more : (xs : List Line) (x : Line) → spell (xs ++ (x ∷ [])) ≡ spell xs ++ line_text x
unfolding spell
spell-more xs x = spell-append xs (x ∷ []) ∙ ap (λ (r : List ℕ). spell xs ++ r) (append-nil (line_text x))

-- The levels of lines behind others stand behind theirs.
pub levels_append : (xs ys : List Line) → levels_of (xs ++ ys) ≡ levels_of xs ++ levels_of ys
unfolding levels_of
levels_append [] ys = refl
levels_append (x ∷ xs) ys = ap (λ (r : List ℕ). x.level ∷ r) (levels_append xs ys)

-- Lines have one level each.
pub levels_size : (xs : List Line) → length (levels_of xs) ≡ length xs
unfolding levels_of
levels_size [] = refl
levels_size (x ∷ xs) = ap suc (levels_size xs)

-- The levels of a tree's lines are those that its nodes have, and so are those of a row.
mutual
  unfolding lines_of tree_levels levels_of

  pub tree-levels : (t : Tree) (l : ℕ) → tree_levels t l ≡ levels_of (lines_of t l)
  tree-levels (node c f) l = ap (λ (r : List ℕ). l ∷ r) (row-levels f (suc l))

  row-levels : (f : Forest) (l : ℕ) → row_levels f l ≡ levels_of (lines_f f l)
  row-levels bare l = refl
  row-levels (cons t f) l = rw (tree-levels t l, row-levels f l) (sym (levels_append (lines_of t l) (lines_f f l)))

-- A level takes at most two bytes.
pub level-most : (l : ℕ) → length (level_text l) ≤ 2
level-most l = elim (dec_lt l 10) [ yes h ↦ omega (arith, one_byte l h) | no h ↦ omega (arith, two_bytes l (omega arith)) ]

-- Lines take at most eight bytes each.
pub spell-most : (xs : List Line) → length (spell xs) ≤ 8 * length xs
unfolding spell
spell-most [] = omega arith
spell-most (x ∷ xs) = omega (arith, length-append (line_text x) (spell xs), line-size x, level-most x.level, spell-most xs)

-- Lines whose levels have one digit take seven bytes each.
pub spell-short : (xs : List Line) → ShortLines xs → length (spell xs) ≡ length xs * (1 + code_size)
unfolding spell levels_of
spell-short [] h = refl
spell-short (x ∷ xs) h = omega (arith, length-append (line_text x) (spell xs), line-size x, one_byte x.level (h zero (omega arith)), spell-short xs (λ i k. h (suc i) (omega arith)))
