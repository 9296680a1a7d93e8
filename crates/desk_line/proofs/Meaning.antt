-- `decimal` says what is meant: of a number below 10 to the 20th its bytes are digits, without a leading zero, that stand for the number, and
-- no other bytes are. Assumes nothing.
use Prim.Native.Nat.{ℕ, zero, suc, ◌+◌, ◌*◌, ◌-◌, ◌/◌, ◌^◌, ◌≤◌, ◌<◌}
use mathlib.Core.Path.{◌≡◌, refl, ap, sym, subst, ◌∙◌}
use mathlib.Core.Bool.{Bool, true, false, not}
use mathlib.Core.List.{List, [], ◌∷◌, ◌++◌}
use native.Mathlib.Nat.{pow-suc, pow-le-pow_right}
use native.Mathlib.Omega.{arith}
use lib.Dec.{eqb}
use lib.ListN.{length, take, get_or}
use lib.Seq.{take-suc, take_all, length-take-le}
use borrow.Author.Tests.{eqb-true}
use Rattle.words.specs.Base.{when◌then◌else◌}
use Rattle.words.proofs.Tests.{no_test, and_left, and_right, and_both}
use Rattle.form.specs.Text.{digit_0, digit_9, digit}
use Rattle.form.specs.Reading.{is_digit, figure}
use Rattle.form.proofs.Digits.{is_digit_lem}
use Rattle.form.proofs.Faults.{within_both}
use Rattle.desk_line.specs.Replies.{last_digits, without_zeros, most_digits, decimal}
use Rattle.desk_line.specs.Meaning.{all_digits, number_behind, value_of, no_leading_zero}
use Rattle.desk_line.proofs.Decimals.{length_digits, digits-none, digits_more, tenth_below, no_more}

-- ---- the number

-- A digit behind others adds its figure to ten times their number.
behind-last : (b d : ℕ) (l : List ℕ) → number_behind b (l ++ (d ∷ [])) ≡ 10 * number_behind b l + figure d
unfolding number_behind
behind-last b d [] = refl
behind-last b d (e ∷ l) = behind-last (10 * b + figure e) d l

-- The last digits of a number that has no more stand for it.
number_last : (p n : ℕ) → n < 10 ^ p → value_of (last_digits p n) ≡ n
unfolding number_behind last_digits
number_last zero n h = omega arith
number_last (suc p) n h = behind-last 0 (digit n) (last_digits p (n / 10)) ∙ omega (arith, number_last p (n / 10) (tenth_below p n h))

-- Leading zeros do not count.
number_stays : (l : List ℕ) → value_of (without_zeros l) ≡ value_of l
unfolding without_zeros number_behind when◌then◌else◌
number_stays [] = refl
number_stays (d ∷ []) = refl
number_stays (d ∷ e ∷ l) = go (eqb d digit_0) refl (number_stays (e ∷ l))
  where
    -- So it is in both branches of the test.
    go : (t : Bool) → eqb d digit_0 ≡ t → value_of (without_zeros (e ∷ l)) ≡ value_of (e ∷ l)
        → value_of (when t then without_zeros (e ∷ l) else d ∷ e ∷ l) ≡ value_of (d ∷ e ∷ l)
    go true q h = let z : 0 ≡ 10 * 0 + figure d = omega (arith, eqb-true d digit_0 q) in h ∙ ap (λ (b : ℕ). number_behind b (e ∷ l)) z
    go false q h = refl

-- The digits of a number in decimal stand for it.
pub decimal-value : (n : ℕ) → n < 10 ^ most_digits → value_of (decimal n) ≡ n
unfolding decimal
decimal-value n h = number_stays (last_digits most_digits n) ∙ number_last most_digits n h

-- ---- the digits

-- Digits behind digits are digits.
all_append : (k l : List ℕ) → all_digits k ≡ true → all_digits l ≡ true → all_digits (k ++ l) ≡ true
unfolding all_digits
all_append [] l e f = f
all_append (d ∷ k) l e f = and_both (and_left (is_digit d) (all_digits k) e) (all_append k l (and_right (is_digit d) (all_digits k) e) f)

-- The last digits of a number are digits.
all-last : (p n : ℕ) → all_digits (last_digits p n) ≡ true
unfolding all_digits last_digits
all-last zero n = refl
all-last (suc p) n = all_append (last_digits p (n / 10)) (digit n ∷ []) (all-last p (n / 10)) (and_both (is_digit_lem n) refl)

-- What stays of digits are digits.
all-stays : (l : List ℕ) → all_digits l ≡ true → all_digits (without_zeros l) ≡ true
unfolding without_zeros all_digits when◌then◌else◌
all-stays [] h = h
all-stays (d ∷ []) h = h
all-stays (d ∷ e ∷ l) h = go (eqb d digit_0) (all-stays (e ∷ l) (and_right (is_digit d) (all_digits (e ∷ l)) h))
  where
    -- So it is in both branches of the test.
    go : (t : Bool) → all_digits (without_zeros (e ∷ l)) ≡ true → all_digits (when t then without_zeros (e ∷ l) else d ∷ e ∷ l) ≡ true
    go true k = k
    go false k = h

-- Every byte of a number in decimal is a digit.
pub decimal-digits : (n : ℕ) → all_digits (decimal n) ≡ true
unfolding decimal
decimal-digits n = all-stays (last_digits most_digits n) (all-last most_digits n)

-- ---- no leading zero

-- What stays of some bytes has no leading zero.
bare-stays : (d : ℕ) (l : List ℕ) → no_leading_zero (without_zeros (d ∷ l)) ≡ true
unfolding without_zeros no_leading_zero when◌then◌else◌
bare-stays d [] = refl
bare-stays d (e ∷ l) = go (eqb d digit_0) refl (bare-stays e l)
  where
    -- So it is in both branches of the test.
    go : (t : Bool) → eqb d digit_0 ≡ t → no_leading_zero (without_zeros (e ∷ l)) ≡ true
        → no_leading_zero (when t then without_zeros (e ∷ l) else d ∷ e ∷ l) ≡ true
    go true q h = h
    go false q h = ap not q

-- A number in decimal has a byte, and no leading zero.
pub decimal-bare : (n : ℕ) → no_leading_zero (decimal n) ≡ true
unfolding decimal
decimal-bare n = go (last_digits most_digits n) (length_digits most_digits n)
  where
    -- So it is for any digits that are 20.
    go : (l : List ℕ) → length l ≡ most_digits → no_leading_zero (without_zeros l) ≡ true
    go [] e = absurd (omega arith)
    go (d ∷ l) e = bare-stays d l

-- ---- no other bytes

-- What has no leading zero stays as it is.
bare-all : (l : List ℕ) → no_leading_zero l ≡ true → without_zeros l ≡ l
unfolding without_zeros no_leading_zero when◌then◌else◌
bare-all [] h = refl
bare-all (d ∷ []) h = refl
bare-all (d ∷ e ∷ l) h = go (eqb d digit_0) h
  where
    -- The test fails, since the first byte is not that of 0.
    go : (t : Bool) → not t ≡ true → (when t then without_zeros (e ∷ l) else d ∷ e ∷ l) ≡ d ∷ e ∷ l
    go true q = no_test q
    go false q = refl

-- Of digits the last is a digit, and those before it are.
all-before : (l : List ℕ) (d : ℕ) → all_digits (l ++ (d ∷ [])) ≡ true → (all_digits l ≡ true) × (is_digit d ≡ true)
unfolding all_digits
all-before [] d h = (refl, and_left (is_digit d) true h)
all-before (e ∷ l) d h =
    let r = all-before l d (and_right (is_digit e) (all_digits (l ++ (d ∷ []))) h) in
    (and_both (and_left (is_digit e) (all_digits (l ++ (d ∷ []))) h) r.0, r.1)

-- Digits are the last digits of the number that they stand for, which has no more.
record Stand (l : List ℕ) (p : ℕ) : Type 0 where
  pub last : last_digits p (value_of l) ≡ l
  pub below : value_of l < 10 ^ p

-- One digit more stands for ten times the number and its figure.
stand_more : (l : List ℕ) (d p m : ℕ) → value_of (l ++ (d ∷ [])) ≡ m → Stand l p → is_digit d ≡ true → Stand (l ++ (d ∷ [])) (suc p)
unfolding is_digit
stand_more l d p m e s h =
    let f = within_both digit_0 digit_9 d h in
    let n : m ≡ 10 * value_of l + figure d = sym e ∙ behind-last 0 d l in
    let q : m / 10 ≡ value_of l = omega (arith, f.0, f.1) in
    let r : digit m ≡ d = omega (arith, f.0, f.1) in
    record {
      last = ap (last_digits (suc p)) e ∙ digits_more p m ∙ rw (q, r) (ap (λ (k : List ℕ). k ++ (d ∷ [])) s.last);
      below = omega (arith, f.0, f.1, s.below, pow-suc 10 p);
    }

-- `Stand` holds of any digits.
stand : (p : ℕ) (l : List ℕ) → length l ≡ p → all_digits l ≡ true → Stand l p
unfolding number_behind
stand zero [] e h = record { last = digits-none 0; below = omega arith }
stand zero (d ∷ l) e h = absurd (omega arith)
stand (suc p) l e h =
    let s : take p l ++ (get_or l p 0 ∷ []) ≡ l = sym (take-suc l p 0 (omega arith)) ∙ take_all (suc p) l (omega arith) in
    let b = all-before (take p l) (get_or l p 0) (ap all_digits s ∙ h) in
    subst (λ (k : List ℕ). Stand k (suc p)) s
    (stand_more (take p l) (get_or l p 0) p _ refl (stand p (take p l) (length-take-le p l (omega arith)) b.0) b.1)

-- However many digits more than a number has do not count.
none_more : (k p n : ℕ) → n < 10 ^ suc p → without_zeros (last_digits (suc (k + p)) n) ≡ without_zeros (last_digits (suc p) n)
none_more zero p n h = let z : 0 + p ≡ p = omega arith in rw z refl
none_more (suc k) p n h =
    let z : suc k + p ≡ suc (k + p) = omega arith in
    let w : 10 ^ suc p ≤ 10 ^ suc (k + p) = pow-le-pow_right (omega arith) (omega arith) in
    rw z (no_more (k + p) n (omega arith) ∙ none_more k p n h)

-- Up to 20 digits without a leading zero are the decimal of the number that they stand for.
pub decimal-only : (l : List ℕ) (n : ℕ) → all_digits l ≡ true → no_leading_zero l ≡ true → length l ≤ most_digits → value_of l ≡ n → l ≡ decimal n
unfolding decimal no_leading_zero
decimal-only [] n a b h e = no_test b
decimal-only (d ∷ l) n a b h e =
    let s = stand (suc (length l)) (d ∷ l) refl a in
    let z : suc (19 - length l + length l) ≡ most_digits = omega arith in
    let k : n < 10 ^ suc (length l) = omega (arith, s.below) in
    let w : last_digits (suc (length l)) n ≡ d ∷ l = ap (last_digits (suc (length l))) (sym e) ∙ s.last in
    sym (bare-all (d ∷ l) b) ∙ ap without_zeros (sym w) ∙ sym (none_more (19 - length l) (length l) n k) ∙ ap (λ (m : ℕ). without_zeros (last_digits m n)) z
