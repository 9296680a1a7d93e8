-- What the bytes at a place say of a line. Assumes nothing.
use Rattle.std.specs.Prelude.{Err, Ok}
use mathlib.Core.Path.{◌≡◌, refl, ap, ◌∙◌}
use mathlib.Core.List.{List, [], ◌∷◌}
use mathlib.Core.Bool.{true, false}
use Prim.Native.Nat.{ℕ, suc, ◌+◌, ◌*◌, ◌-◌, ◌≤◌, ◌<◌}
use native.Mathlib.Omega.{arith}
use lib.Dec.{eqb}
use lib.ListN.{length, drop, get_or, length-drop}
use lib.Seq.{drop-cons}
use borrow.Author.Tests.{ne_eqb, eq-eqb, eqb-true}
use Rattle.words.specs.Base.{when◌then◌else◌}
use Rattle.words.proofs.Tests.{and_left, and_right}
use Rattle.order.proofs.Writing.{two}
use Rattle.form.specs.Text.{digit_0, digit_9, space, line_feed, code_size}
use Rattle.form.specs.Reading.{is_digit, figure, is_code, value, code_behind, spelt_of}
use Rattle.form.specs.declared.reading.Fault.TheVariants.{Misspelt}
use Rattle.form.proofs.Faults.{within_both}

-- ---- digits

-- The byte of a digit is 0's and the digit's figure, which is less than ten.
pub of-digit : (b : ℕ) → is_digit b ≡ true → (digit_0 + figure b ≡ b) × (figure b < 10)
unfolding is_digit
of-digit b e =
    let w = within_both digit_0 digit_9 b e in
    (omega (arith, w.0), omega (arith, w.1))

-- What a code is made of.
pub record Code (s a b c d e : ℕ) : Type 0 where
  pub gap : s ≡ space
  pub first : is_digit a ≡ true
  pub second : is_digit b ≡ true
  pub third : is_digit c ≡ true
  pub fourth : is_digit d ≡ true
  pub end : e ≡ line_feed

-- Six bytes that are a code are a space, four digits and LF.
pub of_code : (s a b c d e : ℕ) → is_code s a b c d e ≡ true → Code s a b c d e
unfolding is_code
of_code s a b c d e q =
    let q₁ = and_right (eqb s space) _ q in
    let q₂ = and_right (is_digit a) _ q₁ in
    let q₃ = and_right (is_digit b) _ q₂ in
    let q₄ = and_right (is_digit c) _ q₃ in
    record {
      gap = eqb-true s space (and_left (eqb s space) _ q);
      first = and_left (is_digit a) _ q₁;
      second = and_left (is_digit b) _ q₂;
      third = and_left (is_digit c) _ q₃;
      fourth = and_left (is_digit d) _ q₄;
      end = eqb-true e line_feed (and_right (is_digit d) _ q₄);
    }

-- ---- bytes at a place

-- One byte stands at a place, and the others behind it.
more_at : (s : List ℕ) (p k : ℕ) → p + k < length s → drop (p + k) s ≡ get_or s (p + k) 0 ∷ drop (p + suc k) s
more_at s p k h = let z : p + suc k ≡ suc (p + k) = omega arith in rw z (drop-cons s (p + k) 0 h)

-- Six bytes stand at a place.
six_at : (s : List ℕ) (p : ℕ) → p + 6 ≤ length s →
    drop p s ≡ get_or s p 0 ∷ get_or s (p + 1) 0 ∷ get_or s (p + 2) 0 ∷ get_or s (p + 3) 0 ∷ get_or s (p + 4) 0 ∷ get_or s (p + 5) 0 ∷ drop (p + 6) s
six_at s p h =
    two s p (omega arith)
    ∙ ap (λ (l : List ℕ). get_or s p 0 ∷ get_or s (p + 1) 0 ∷ l) (more_at s p 2 (omega arith)
    ∙ ap (λ (l : List ℕ). get_or s (p + 2) 0 ∷ l) (more_at s p 3 (omega arith)
    ∙ ap (λ (l : List ℕ). get_or s (p + 3) 0 ∷ l) (more_at s p 4 (omega arith)
    ∙ ap (λ (l : List ℕ). get_or s (p + 4) 0 ∷ l) (more_at s p 5 (omega arith)))))

-- Fewer bytes are no code.
code-none : (l w : ℕ) (s : List ℕ) → length s < code_size → code_behind l w s ≡ Err Misspelt
unfolding code_behind
code-none l w [] h = refl
code-none l w (s ∷ []) h = refl
code-none l w (s ∷ a ∷ []) h = refl
code-none l w (s ∷ a ∷ b ∷ []) h = refl
code-none l w (s ∷ a ∷ b ∷ c ∷ []) h = refl
code-none l w (s ∷ a ∷ b ∷ c ∷ d ∷ []) h = refl
code-none l w (s ∷ a ∷ b ∷ c ∷ d ∷ e ∷ r) h = absurd (omega arith)

-- Fewer than two bytes are no line.
line-none : (s : List ℕ) → length s < 2 → spelt_of s ≡ Err Misspelt
unfolding spelt_of
line-none [] h = refl
line-none (x ∷ []) h = refl
line-none (x ∷ y ∷ r) h = absurd (omega arith)

-- ---- the bytes at p, behind a level l of w bytes

module _ (l w p : ℕ) (s : List ℕ) where
  -- There are too few.
  pub code-short : length s - p < code_size → Err Misspelt ≡ code_behind l w (drop p s)
  code-short h = rw (code-none l w (drop p s) (rw length-drop (omega arith)))

  -- They are no code.
  pub code-bad : p + code_size ≤ length s → is_code (get_or s p 0) (get_or s (p + 1) 0) (get_or s (p + 2) 0) (get_or s (p + 3) 0) (get_or s (p + 4) 0) (get_or s (p + 5) 0) ≡ false
      → Err Misspelt ≡ code_behind l w (drop p s)
  unfolding code_behind when◌then◌else◌
  code-bad h e = rw (six_at s p h) (rw e refl)

  -- They are a code.
  pub code-good : p + code_size ≤ length s → is_code (get_or s p 0) (get_or s (p + 1) 0) (get_or s (p + 2) 0) (get_or s (p + 3) 0) (get_or s (p + 4) 0) (get_or s (p + 5) 0) ≡ true
      → Ok (record { level = l; code = value (get_or s (p + 1) 0) (get_or s (p + 2) 0) (get_or s (p + 3) 0) (get_or s (p + 4) 0); size = w + code_size }) ≡ code_behind l w (drop p s)
  unfolding code_behind when◌then◌else◌
  code-good h e = rw (six_at s p h) (rw e refl)

-- ---- the bytes of a line at `at`

module _ (at : ℕ) (s : List ℕ) where
  -- There are too few.
  pub line-short : length s - at < 2 → Err Misspelt ≡ spelt_of (drop at s)
  line-short h = rw (line-none (drop at s) (rw length-drop (omega arith)))

  -- The first is no digit.
  pub line-bad : at + 2 ≤ length s → is_digit (get_or s at 0) ≡ false → Err Misspelt ≡ spelt_of (drop at s)
  unfolding spelt_of when◌then◌else◌
  line-bad h e = rw (two s at h) (rw e refl)

  -- The level has one digit.
  pub line-one : at + 2 ≤ length s → is_digit (get_or s at 0) ≡ true → is_digit (get_or s (at + 1) 0) ≡ false → code_behind (figure (get_or s at 0)) 1 (drop (at + 1) s) ≡ spelt_of (drop at s)
  unfolding spelt_of when◌then◌else◌
  line-one h e f = rw (two s at h, more_at s at 1 (omega arith)) (rw (e, f) refl)

  -- The level has two digits, the first of them 0.
  pub line-zero : at + 2 ≤ length s → is_digit (get_or s at 0) ≡ true → is_digit (get_or s (at + 1) 0) ≡ true → get_or s at 0 ≡ digit_0 → Err Misspelt ≡ spelt_of (drop at s)
  unfolding spelt_of when◌then◌else◌
  line-zero h e f g = rw (two s at h) (rw (e, f, eq-eqb _ _ g) refl)

  -- The level has two digits.
  pub line-two : at + 2 ≤ length s → is_digit (get_or s at 0) ≡ true → is_digit (get_or s (at + 1) 0) ≡ true → (get_or s at 0 ≡ digit_0 → ⊥)
      → code_behind (figure (get_or s at 0) * 10 + figure (get_or s (at + 1) 0)) 2 (drop (at + 2) s) ≡ spelt_of (drop at s)
  unfolding spelt_of when◌then◌else◌
  line-two h e f g = rw (two s at h) (rw (e, f, ne_eqb _ _ g) refl)
