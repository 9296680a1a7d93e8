-- The digits of the level decide.
use Rattle.std.proofs.Common.{◌≡◌, ℕ, ◌-◌, List, length, take, drop, ap, sym, ◌∙◌, arith, length-drop}
use lib.Seq.{take_all}
use Rattle.form.specs.Reading.{spelt_of}
use Rattle.form.proofs.Spelling.{line-short, line-bad, line-one, line-zero, line-two}
use Rattle.form_read_line.proofs.spelt_at.Goals as goal

-- All bytes from a place on are those behind it.
all : (n : ℕ) (s : List ℕ) → take (length s - n) (drop n s) ≡ drop n s
all n s = take_all (length s - n) (drop n s) (omega (arith, length-drop n s))

-- The bytes from `at` on.
abbrev from : List ℕ → ℕ → List ℕ
from text at = take (length text - at) (drop at text)

pub returns-in_default : goal.returns-in_default
returns-in_default c = let a = c.args in line-short 0 (from a.text.now a.at) (omega (arith, c.in_default.len_below)) ∙ ap spelt_of (all a.at a.text.now)

pub returns-then-not-is_digit : goal.returns-then-not-is_digit
returns-then-not-is_digit c =
    let a = c.args in
    line-bad 0 (from a.text.now a.at) c.in-len2-up.len_at_least (sym c.is_digit.ensures ∙ c.if-not-is_digit.true) ∙ ap spelt_of (all a.at a.text.now)

pub figure_of-first-requires : goal.figure_of-first-requires
figure_of-first-requires c = sym c.is_digit.ensures ∙ c.if-not-is_digit.false

pub returns-then-not-is_digit-2 : goal.returns-then-not-is_digit-2
returns-then-not-is_digit-2 c =
    let a = c.args in
    let x = c.figure_of-first.ensures in
    let b = from a.text.now a.at in
    let first = sym c.is_digit.ensures ∙ c.if-not-is_digit.false in
    c.code_behind.ensures ∙ rw (x.0, all 1 b) (line-one 0 b c.in-len2-up.len_at_least first (sym c.is_digit-2.ensures ∙ c.if-not-is_digit-2.true)) ∙ ap spelt_of (all a.at a.text.now)

pub returns-then-x-eq48 : goal.returns-then-x-eq48
returns-then-x-eq48 c =
    let a = c.args in
    let first = sym c.is_digit.ensures ∙ c.if-not-is_digit.false in
    line-zero 0 (from a.text.now a.at) c.in-len2-up.len_at_least first (sym c.is_digit-2.ensures ∙ c.if-not-is_digit-2.false) c.if-x-eq48.true ∙ ap spelt_of (all a.at a.text.now)

pub returns : goal.returns
returns c =
    let a = c.args in
    let x = c.figure_of-first.ensures in
    let y = c.figure_of.ensures in
    let b = from a.text.now a.at in
    let first = sym c.is_digit.ensures ∙ c.if-not-is_digit.false in
    let second = sym c.is_digit-2.ensures ∙ c.if-not-is_digit-2.false in
    c.code_behind-2.ensures ∙ rw (x.0, y.0, all 2 b) (line-two 0 b c.in-len2-up.len_at_least first second c.if-x-eq48.false) ∙ ap spelt_of (all a.at a.text.now)
