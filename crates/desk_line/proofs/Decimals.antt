-- The digits of a number in decimal: how many there are, and that they are its last digits. Assumes nothing.
use Prim.Native.Nat.{ℕ, zero, suc, ◌+◌, ◌*◌, ◌/◌, ◌^◌, ◌≤◌, ◌<◌, max}
use mathlib.Core.Path.{◌≡◌, refl, ap, sym, ◌∙◌}
use mathlib.Core.Bool.{Bool, true, false}
use mathlib.Core.List.{List, [], ◌∷◌, ◌++◌}
use native.Mathlib.Nat.{pow-suc, one-le-pow}
use native.Mathlib.Decide.{dec_lt}
use native.Mathlib.Omega.{arith}
use lib.Dec.{eqb}
use lib.ListN.{length, length-append}
use borrow.Author.Tests.{ne_eqb}
use Rattle.words.specs.Base.{when◌then◌else◌}
use Rattle.form.specs.Text.{digit_0, digit}
use Rattle.desk_line.specs.Replies.{last_digits, without_zeros, most_digits, decimal}

-- ---- last digits

-- The last digits are as many as are asked for.
pub length_digits : (p n : ℕ) → length (last_digits p n) ≡ p
unfolding last_digits
length_digits zero n = refl
length_digits (suc p) n = length-append (last_digits p (n / 10)) (digit n ∷ []) ∙ omega (arith, length_digits p (n / 10))

-- One digit more is that of the number, behind those of its tenth.
pub digits_more : (p n : ℕ) → last_digits (suc p) n ≡ last_digits p (n / 10) ++ (digit n ∷ [])
unfolding last_digits
digits_more p n = refl

-- None are asked for.
pub digits-none : (n : ℕ) → last_digits 0 n ≡ []
unfolding last_digits
digits-none n = refl

-- The last digit alone.
digits-one : (n : ℕ) → last_digits 1 n ≡ digit n ∷ []
unfolding last_digits
digits-one n = refl

-- The tenth of a number below a power of ten is below the power before.
pub tenth_below : (p n : ℕ) → n < 10 ^ suc p → n / 10 < 10 ^ p
tenth_below p n h = omega (arith, pow-suc 10 p)

-- The tenth of a number from a power of ten on is not below the power before.
tenth_above : (p n : ℕ) → 10 ^ suc p ≤ n → 10 ^ p ≤ n / 10
tenth_above p n h = omega (arith, pow-suc 10 p)

-- One digit more than a number has is a zero in front.
zero_in_front : (p n : ℕ) → n < 10 ^ p → last_digits (suc p) n ≡ digit_0 ∷ last_digits p n
unfolding last_digits
zero_in_front zero n h = let z : digit n ≡ digit_0 = omega arith in ap (λ (d : ℕ). d ∷ []) z
zero_in_front (suc p) n h = ap (λ (l : List ℕ). l ++ (digit n ∷ [])) (zero_in_front p (n / 10) (tenth_below p n h))

-- A list whose first byte is not that of 0.
record Counts (l : List ℕ) : Type 0 where
  pub first : ℕ
  pub others : List ℕ
  pub is : l ≡ first ∷ others
  pub not_zero : first ≡ digit_0 → ⊥

-- The first of as many digits as a number has is not 0.
first-counts : (p n : ℕ) → 10 ^ p ≤ n → n < 10 ^ suc p → Counts (last_digits (suc p) n)
first-counts zero n a b = record { first = digit n; others = []; is = digits-one n; not_zero = λ e. omega (arith, pow-suc 10 0) }
first-counts (suc p) n a b =
    let f = first-counts p (n / 10) (tenth_above p n a) (tenth_below (suc p) n b) in
    record {
      first = f.first;
      others = f.others ++ (digit n ∷ []);
      is = digits_more (suc p) n ∙ ap (λ (l : List ℕ). l ++ (digit n ∷ [])) f.is;
      not_zero = f.not_zero;
    }

-- ---- without leading zeros

-- A zero in front of others goes.
zero_goes : (l : List ℕ) → 1 ≤ length l → without_zeros (digit_0 ∷ l) ≡ without_zeros l
unfolding without_zeros when◌then◌else◌
zero_goes [] h = absurd (omega arith)
zero_goes (d ∷ l) h = refl

-- What does not begin with a zero stays.
rest-stays : (d : ℕ) (l : List ℕ) → (d ≡ digit_0 → ⊥) → without_zeros (d ∷ l) ≡ d ∷ l
unfolding without_zeros when◌then◌else◌
rest-stays d [] h = refl
rest-stays d (e ∷ l) h = rw (ne_eqb d digit_0 h)

-- Digits more than a number has do not count.
pub no_more : (p n : ℕ) → n < 10 ^ suc p → without_zeros (last_digits (suc (suc p)) n) ≡ without_zeros (last_digits (suc p) n)
no_more p n h = ap without_zeros (zero_in_front (suc p) n h) ∙ zero_goes (last_digits (suc p) n) (omega (arith, length_digits (suc p) n))

-- As many digits as a number has all stay.
all_stay : (p n : ℕ) → 10 ^ p ≤ n → n < 10 ^ suc p → without_zeros (last_digits (suc p) n) ≡ last_digits (suc p) n
all_stay p n a b = let f = first-counts p n a b in ap without_zeros f.is ∙ rest-stays f.first f.others f.not_zero ∙ sym f.is

-- Of a number below ten one digit stays.
one-stays : (p n : ℕ) → n < 10 → without_zeros (last_digits (suc p) n) ≡ digit n ∷ []
unfolding without_zeros last_digits
one-stays zero n h = refl
one-stays (suc p) n h = no_more p n (omega (arith, pow-suc 10 p, one-le-pow p 10 (omega arith))) ∙ one-stays p n h

-- From ten on the digits that stay are those of the tenth, and the last.
tenth_stays : (p n : ℕ) → 10 ≤ n → n < 10 ^ suc (suc p)
    → without_zeros (last_digits (suc (suc p)) n) ≡ without_zeros (last_digits (suc p) (n / 10)) ++ (digit n ∷ [])
tenth_stays zero n h b =
    all_stay 1 n (omega (arith, pow-suc 10 0)) b ∙ digits_more 1 n
    ∙ ap (λ (l : List ℕ). l ++ (digit n ∷ [])) (sym (all_stay 0 (n / 10) (tenth_above 0 n (omega (arith, pow-suc 10 0))) (tenth_below 1 n b)))
tenth_stays (suc p) n h b =
    elim (dec_lt n (10 ^ suc (suc p))) [
      | yes k ↦ no_more (suc p) n k ∙ tenth_stays p n h k ∙ ap (λ (l : List ℕ). l ++ (digit n ∷ [])) (sym (no_more p (n / 10) (tenth_below (suc p) n k)))
      | no k ↦
          let a : 10 ^ suc (suc p) ≤ n = omega arith in
          all_stay (suc (suc p)) n a b ∙ digits_more (suc (suc p)) n
          ∙ ap (λ (l : List ℕ). l ++ (digit n ∷ [])) (sym (all_stay (suc p) (n / 10) (tenth_above (suc p) n a) (tenth_below (suc (suc p)) n b)))
    ]

-- The digits that stay are the last ones, so many of them.
last-stay : (p n : ℕ) → n < 10 ^ suc p → without_zeros (last_digits (suc p) n) ≡ last_digits (length (without_zeros (last_digits (suc p) n))) n
last-stay zero n h = let e : without_zeros (last_digits 1 n) ≡ digit n ∷ [] = one-stays 0 n (omega (arith, pow-suc 10 0)) in e ∙ rw e (sym (digits-one n))
last-stay (suc p) n h =
    elim (dec_lt n (10 ^ suc p)) [
      | yes k ↦ rw (no_more p n k) (last-stay p n k)
      | no k ↦ let e = all_stay (suc p) n (omega arith) h in e ∙ ap (λ (m : ℕ). last_digits m n) (sym (ap length e ∙ length_digits (suc (suc p)) n))
    ]

-- Some byte stays, and none comes to those that were there.
size-stays : (d : ℕ) (l : List ℕ) → (1 ≤ length (without_zeros (d ∷ l))) × (length (without_zeros (d ∷ l)) ≤ suc (length l))
unfolding without_zeros when◌then◌else◌
size-stays d [] = (omega arith, omega arith)
size-stays d (e ∷ l) = go (eqb d digit_0) (size-stays e l)
  where
    -- So it is in both branches of the test.
    go : (t : Bool) → (1 ≤ length (without_zeros (e ∷ l))) × (length (without_zeros (e ∷ l)) ≤ suc (length l))
        → (1 ≤ length (when t then without_zeros (e ∷ l) else d ∷ e ∷ l)) × (length (when t then without_zeros (e ∷ l) else d ∷ e ∷ l) ≤ suc (suc (length l)))
    go true h = (h.0, omega (arith, h.1))
    go false h = (omega arith, omega arith)

-- ---- decimal

-- A number below ten is its last digit.
decimal-one : (n : ℕ) → n < 10 → decimal n ≡ digit n ∷ []
unfolding decimal
decimal-one n h = one-stays 19 n h

-- A number from ten on has the digits of its tenth, and then its last one.
decimal-more : (n : ℕ) → 10 ≤ n → n < 10 ^ most_digits → decimal n ≡ decimal (n / 10) ++ (digit n ∷ [])
unfolding decimal
decimal-more n h b = tenth_stays 18 n h b ∙ ap (λ (l : List ℕ). l ++ (digit n ∷ [])) (sym (no_more 18 (n / 10) (tenth_below 19 n b)))

-- The digits of a number are its last ones, so many of them.
pub decimal-last : (n : ℕ) → n < 10 ^ most_digits → decimal n ≡ last_digits (length (decimal n)) n
unfolding decimal
decimal-last n b = last-stay 19 n b

-- A number has 1 to 20 digits.
pub decimal-size : (n : ℕ) → (1 ≤ length (decimal n)) × (length (decimal n) ≤ most_digits)
unfolding decimal
decimal-size n = go (last_digits most_digits n) (length_digits most_digits n)
  where
    -- So it is for any digits that are 20.
    go : (l : List ℕ) → length l ≡ most_digits → (1 ≤ length (without_zeros l)) × (length (without_zeros l) ≤ most_digits)
    go [] e = absurd (omega arith)
    go (d ∷ l) e = let s = size-stays d l in (s.0, omega (arith, s.1))

-- A number of 64 bits has at most 20 digits.
pub below-limit : (n : ℕ) → n < 2 ^ 64 → n < 10 ^ most_digits
below-limit n h = omega arith

-- A number below ten has one digit.
length-one : (n : ℕ) → n < 10 → length (decimal n) ≡ 1
length-one n h = ap length (decimal-one n h)

-- A number from ten on has one digit more than its tenth.
length_more : (n : ℕ) → 10 ≤ n → n < 10 ^ most_digits → length (decimal n) ≡ length (decimal (n / 10)) + 1
length_more n h b = ap length (decimal-more n h b) ∙ length-append (decimal (n / 10)) (digit n ∷ [])

-- A number from a power of ten on, and below the next, has one digit more than that power's exponent.
length-power : (p n : ℕ) → 10 ^ p ≤ n → n < 10 ^ suc p → n < 10 ^ most_digits → length (decimal n) ≡ p + 1
length-power zero n a b h = length-one n (omega (arith, pow-suc 10 0))
length-power (suc p) n a b h =
    let some : 10 ≤ n = omega (arith, pow-suc 10 p, one-le-pow p 10 (omega arith)) in
    omega (arith, length_more n some h, length-power p (n / 10) (tenth_above p n a) (tenth_below (suc p) n b) (omega arith))

-- So has 0, if 1 is taken for it.
pub length-log : (p n : ℕ) → 10 ^ p ≤ max n 1 → max n 1 < 10 * 10 ^ p → n < 10 ^ most_digits → p + 1 ≡ length (decimal n)
length-log zero n a b h = sym (length-one n (omega (arith, pow-suc 10 0)))
length-log (suc p) n a b h =
    let some : 10 ≤ 10 ^ suc p = omega (arith, pow-suc 10 p, one-le-pow p 10 (omega arith)) in
    sym (length-power (suc p) n (omega arith) (omega (arith, pow-suc 10 (suc p))) h)
