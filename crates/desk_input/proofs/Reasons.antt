-- The front of an input is answered for one of the reasons of `Whys`, and for each of them in one way. Assumes nothing.
use Rattle.std.specs.Prelude.{None, Option, Some, Err, Ok, Result}
use Prim.Native.Nat.{ℕ, ◌+◌, ◌≤◌, ◌<◌}
use mathlib.Core.Path.{◌≡◌, refl, ap, sym, ◌∙◌}
use mathlib.Core.Bool.{Bool, true, false}
use mathlib.Core.List.{List, [], ◌∷◌}
use native.Mathlib.Decide.{dec_le}
use native.Mathlib.Omega.{arith}
use lib.Dec.{eqb}
use lib.ListN.{length, drop}
use borrow.Author.Tests.{eqb-true, leb-true, le-leb}
use Rattle.figures.specs.declared.Answer.{Answer}
use Rattle.desk_input.specs.declared.Letter.{Letter}
use Rattle.words.specs.Base.{◌and◌, when◌then◌else◌, within}
use Rattle.words.proofs.Tests.{and_left, and_right, and_both, never}
use Rattle.figures.specs.Limits.{least_k, greatest_k, most_input}
use Rattle.figures.specs.Numbers.{k_outside, no_form}
use Rattle.figures.specs.Answers.{answered}
use Rattle.form.specs.Text.{digit_0, digit_9, space, line_feed}
use Rattle.form.specs.Reading.{is_digit, figure}
use Rattle.desk_input.specs.Sheets.{letter_K, FirstLine, otherwise, asks, first_line, opening_of}
use Rattle.desk_input.specs.Places.{letter_at, depth_by, depth_on}
use Rattle.desk_input.specs.Whys.{OpensWith, LetterFirst, WhyFront, larger, no_opening, no_letter, alone, with_calls}
use Rattle.desk_input.proofs.Found.{is_first, front-large, front-outside, front-alone, front-letter, front-other}
use Rattle.desk_input.proofs.LetterLines.{letter-is, letter-only, not_letter, letter-none}

-- ---- line 1

-- Bytes that pass the tests of line 1 are spelt as it is.
first-spelt : (a b c d : ℕ) (rest : List ℕ) → is_first a b c d ≡ true → OpensWith (a ∷ b ∷ c ∷ d ∷ rest) (figure c) rest
unfolding is_digit
first-spelt a b c d rest e =
    let e₁ : (eqb b space and is_digit c and eqb d line_feed and within least_k greatest_k (figure c)) ≡ true = and_right _ _ e in
    let e₂ : (is_digit c and eqb d line_feed and within least_k greatest_k (figure c)) ≡ true = and_right _ _ e₁ in
    let e₃ : (eqb d line_feed and within least_k greatest_k (figure c)) ≡ true = and_right _ _ e₂ in
    let e₄ : within least_k greatest_k (figure c) ≡ true = and_right _ _ e₃ in
    let l : digit_0 ≤ c = leb-true digit_0 c (and_left _ _ (and_left _ _ e₂)) in
    let z : c ≡ digit_0 + figure c = omega arith in
    let p : a ≡ letter_K = eqb-true a letter_K (and_left _ _ e) in
    let q : b ≡ space = eqb-true b space (and_left _ _ e₁) in
    let r : d ≡ line_feed = eqb-true d line_feed (and_left _ _ e₃) in
    record { least = leb-true _ _ (and_left _ _ e₄); greatest = leb-true _ _ (and_right _ _ e₄); spelt = cc }

-- A first line with a k is spelt as line 1 is.
pub first-is : (input : List ℕ) (k : ℕ) (rest : List ℕ) → first_line input ≡ asks k rest → OpensWith input k rest
unfolding first_line when◌then◌else◌
first-is [] k rest e = never cc
first-is (a ∷ []) k rest e = never cc
first-is (a ∷ b ∷ []) k rest e = never cc
first-is (a ∷ b ∷ c ∷ []) k rest e = never cc
first-is (a ∷ b ∷ c ∷ d ∷ r) k rest e = go (is_first a b c d) refl e
  where
    -- By the tests of line 1.
    go : (t : Bool) → is_first a b c d ≡ t → (when t then asks (figure c) r else otherwise) ≡ asks k rest → OpensWith (a ∷ b ∷ c ∷ d ∷ r) k rest
    go true p q =
        let y : figure c ≡ k = cc in
        let z : r ≡ rest = cc in
        rw (← y, ← z) (first-spelt a b c d r p)
    go false p q = never cc

-- A digit from 2 to 6 passes the tests of line 1.
first-tested : (k : ℕ) → least_k ≤ k → k ≤ greatest_k → is_first letter_K space (digit_0 + k) line_feed ≡ true
unfolding is_digit
first-tested k l g =
    let n : ℕ = digit_0 + k in
    and_both refl (and_both refl (and_both (and_both (le-leb digit_0 n (omega arith)) (le-leb n digit_9 (omega arith)))
    (and_both refl (and_both (le-leb least_k (figure n) (omega arith)) (le-leb (figure n) greatest_k (omega arith))))))

-- Bytes that are spelt as line 1 is have its k.
pub first-only : (input : List ℕ) (k : ℕ) (rest : List ℕ) → OpensWith input k rest → first_line input ≡ asks k rest
unfolding first_line when◌then◌else◌
first-only input k rest o =
    let z : figure (digit_0 + k) ≡ k = omega arith in
    ap first_line o.spelt ∙ rw (first-tested k o.least o.greatest) (ap (λ (n : ℕ). asks n rest) z)

-- Bytes whose first line is otherwise are not spelt so.
not_first : (input : List ℕ) → first_line input ≡ otherwise → (k : ℕ) (rest : List ℕ) → OpensWith input k rest → ⊥
not_first input e k rest o = let y = first-only input k rest o in never cc

-- ---- the rows

module _ (input : List ℕ) (h : length input ≤ most_input) where
  module _ (k : ℕ) (rest : List ℕ) (o : OpensWith input k rest) where
    -- Line 1 asks for its k.
    asked : depth_on input ≡ Some (record { k = k })
    unfolding depth_on
    asked = ap depth_by (first-only input k rest o)

    -- The rest stands behind its four bytes.
    behind-four : drop 4 input ≡ rest
    behind-four = ap (drop 4) o.spelt

    -- It has the bytes that are more than four.
    sized : length input ≡ 4 + length rest
    sized = let z = ap length o.spelt in omega arith

    -- Nothing behind line 1 leaves a book to open.
    row-alone : rest ≡ [] → opening_of input ≡ Ok k
    row-alone e =
        let z = ap length e in
        front-alone input h (record { k = k }) asked (omega (arith, sized))

    -- So does a letter line behind it.
    row-calls : LetterFirst rest → opening_of input ≡ Ok k
    row-calls f = front-letter input h (record { k = k }) f.letter asked (ap letter_at behind-four ∙ letter-only rest f)

    -- Other bytes behind it are answered by 10 at line 2.
    row-bytes : 0 < length rest → (LetterFirst rest → ⊥) → opening_of input ≡ Err (record { number = no_form; line = 2 })
    row-bytes l n =
        front-other input h (record { k = k }) asked (λ e. omega (arith, sized)) (ap letter_at behind-four ∙ letter-none rest n)

  -- A first line otherwise is answered by 3.
  row-outside : ((k : ℕ) (rest : List ℕ) → OpensWith input k rest → ⊥) → opening_of input ≡ Err (answered k_outside)
  row-outside n = front-outside input h (unfold depth_on in go (first_line input) refl)
    where
      -- By what the first line is.
      go : (f : FirstLine) → first_line input ≡ f → depth_by f ≡ None
      go otherwise e = refl
      go (asks k rest) e = absurd (n k rest (first-is input k rest e))

-- Each reason leaves no other answer.
pub opening-only : (input : List ℕ) (f : Result ℕ Answer) → WhyFront input f → opening_of input ≡ f
opening-only input f (larger e l) = front-large input l ∙ sym e
opening-only input f (no_opening e h n) = row-outside input h n ∙ sym e
opening-only input f (no_letter k rest e h o l n) = row-bytes input h k rest o l n ∙ sym e
opening-only input f (alone k e h o) = row-alone input h k [] o refl ∙ sym e
opening-only input f (with_calls k rest e h o l) = row-calls input h k rest o l ∙ sym e

-- An input is answered for one of them.
pub opening-why : (input : List ℕ) → WhyFront input (opening_of input)
opening-why input = by_size (dec_le (length input) most_input)
  where
    -- By what stands behind line 1.
    by_rest : length input ≤ most_input → (k : ℕ) (rest : List ℕ) → OpensWith input k rest → WhyFront input (opening_of input)
    by_rest h k [] o = alone k (row-alone input h k [] o refl) h o
    by_rest h k (b ∷ bs) o = by_letter (letter_at (b ∷ bs)) refl
      where
        -- By what it begins with.
        by_letter : (l : Option Letter) → letter_at (b ∷ bs) ≡ l → WhyFront input (opening_of input)
        by_letter (Some x) e =
            let f = letter-is (b ∷ bs) x e in
            with_calls k (b ∷ bs) (row-calls input h k (b ∷ bs) o f) h o f
        by_letter None e =
            let n : LetterFirst (b ∷ bs) → ⊥ = not_letter (b ∷ bs) e in
            no_letter k (b ∷ bs) (row-bytes input h k (b ∷ bs) o (omega arith) n) h o (omega arith) n

    -- By what line 1 is.
    by_first_lem : length input ≤ most_input → (f : FirstLine) → first_line input ≡ f → WhyFront input (opening_of input)
    by_first_lem h otherwise e = no_opening (row-outside input h (not_first input e)) h (not_first input e)
    by_first_lem h (asks k rest) e = by_rest h k rest (first-is input k rest e)

    -- By the size.
    by_size : Dec (length input ≤ most_input) → WhyFront input (opening_of input)
    by_size (yes h) = by_first_lem h (first_line input) refl
    by_size (no n) = larger (front-large input (omega arith)) (omega arith)
