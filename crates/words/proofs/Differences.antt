-- The signed place that comparing gives is told by the first place at which the lists differ and by which has the lower word there, and by nothing else.
-- Assumes nothing.
use Rattle.std.specs.Prelude.{Option, Some}
use Rattle.std.specs.declared.cmp.Ordering.TheVariants.{Less}
use Prim.Native.Nat.{ℕ, zero, suc, ◌+◌, ◌≤◌, ◌<◌}
use mathlib.Core.Path.{◌≡◌, refl, ap, ap₂, sym, subst, ◌∙◌}
use mathlib.Core.List.{List, [], ◌∷◌}
use native.Mathlib.Decide.{dec_lt}
use native.Mathlib.Omega.{arith}
use lib.Dec.{ltb}
use lib.IntN.{ℤ, pos, negsuc, neg_ℤ}
use lib.ListN.{length}
use Rattle.words.proofs.Tests.{never}
use Rattle.words.specs.Compare.{◌≺◌, signed_words, signed_from, signed_of, side_of, size_of}
use Rattle.words.specs.Differences.{word_at, FirstDiffers, LowerWord, ended, less, LowerAt, IsLower, SignedPlace, told_equal, told_lower, told_higher}
use Rattle.words.proofs.Ordered.{Word, less as word-less, same as IsWord-same, more as word_more, word}
use Rattle.words.proofs.Signs.{side_is, size-most}

-- ---- the first place

module _ {x y : List ℕ} where
  -- The first difference is that of the lists exchanged.
  first-flip : {p : ℕ} → FirstDiffers x y p → FirstDiffers y x p
  first-flip d = record { counted = d.counted; alike = λ j h l. sym (d.alike j h l); differ = λ e. d.differ (sym e) }

  -- There is but one.
  pub first_one : (p q : ℕ) → FirstDiffers x y p → FirstDiffers x y q → p ≡ q
  first_one p q d e =
      elim (dec_lt p q) [
        | yes h ↦ absurd (d.differ (e.alike p d.counted h))
        | no h ↦
            elim (dec_lt q p) [
              | yes k ↦ absurd (e.differ (d.alike q e.counted k))
              | no k ↦ omega arith
            ]
      ]

  -- Lists of which one is lower are not the same.
  lower-other : {p : ℕ} → LowerAt x y p → x ≡ y → ⊥
  lower-other {p} l e = l.first.differ (ap (λ (z : List ℕ). word_at z p) e)

-- Of two words not each is lower than the other.
not_both : {a b : Option ℕ} → LowerWord a b → LowerWord b a → ⊥
not_both (ended {y = y}) x4 = elim x4 [ ]
not_both (less h) (less k) = omega arith

module _ (a b : ℕ) (x y : List ℕ) where
  -- Where the first words differ, that is the place.
  first-lower : a < b → LowerAt (a ∷ x) (b ∷ y) 1
  unfolding word_at
  first-lower h = record {
    first = record {
      counted = omega arith;
      alike = λ j k l. absurd (omega arith);
      differ = λ e. let z : a ≡ b = cc in omega arith;
    };
    lower = less h;
  }

  -- Behind the same first words it is one place later.
  next-lower : {p : ℕ} → a ≡ b → LowerAt x y (suc p) → LowerAt (a ∷ x) (b ∷ y) (suc (suc p))
  unfolding word_at
  next-lower {p} e d = record { first = record { counted = omega arith; alike = alike; differ = d.first.differ }; lower = d.lower }
    where
      -- The words before it are the same.
      alike : (j : ℕ) → 1 ≤ j → j < suc (suc p) → word_at (a ∷ x) j ≡ word_at (b ∷ y) j
      alike zero h l = absurd (omega arith)
      alike (suc zero) h l = ap Some e
      alike (suc (suc i)) h l = d.first.alike (suc i) (omega arith) (omega arith)

-- Where only one list has words the first place tells.
ended-lower : (b : ℕ) (y : List ℕ) → LowerAt [] (b ∷ y) 1
unfolding word_at
ended-lower b y = record {
  first = record {
    counted = omega arith;
    alike = λ j k l. absurd (omega arith);
    differ = λ e. never cc;
  };
  lower = ended;
}

-- ---- the signed place

-- What a signed number tells of two lists whose first words have place i + 1.
data SignedHere (i : ℕ) (x y : List ℕ) (z : ℤ) : Type 0 where
  here-equal : x ≡ y → z ≡ pos 0 → SignedHere i x y z
  here-lower : (p : ℕ) → LowerAt x y (suc p) → z ≡ negsuc (i + p) → SignedHere i x y z
  here-higher : (p : ℕ) → LowerAt y x (suc p) → z ≡ pos (suc (i + p)) → SignedHere i x y z

-- Comparing from there on tells it.
signed_here : (i : ℕ) (x y : List ℕ) → SignedHere i x y (signed_from i x y)
unfolding signed_from
signed_here i [] [] = here-equal refl refl
signed_here i [] (b ∷ y) = here-lower 0 (ended-lower b y) (ap negsuc (omega arith))
signed_here i (a ∷ x) [] = here-higher 0 (ended-lower a x) (ap (λ (n : ℕ). pos (suc n)) (omega arith))
signed_here i (a ∷ x) (b ∷ y) = go (word a b) (signed_here (suc i) x y)
  where
    -- By how the first words stand, and by what the rest tells.
    go : Word a b → SignedHere (suc i) x y (signed_from (suc i) x y) → SignedHere i (a ∷ x) (b ∷ y) (signed_words (ltb a b) (ltb b a) i (signed_from (suc i) x y))
    go (word-less h p q) r = here-lower 0 (first-lower a b x y h) (rw p (ap negsuc (omega arith)))
    go (word_more h p q) r = here-higher 0 (first-lower b a y x h) (rw (p, q) (ap (λ (n : ℕ). pos (suc n)) (omega arith)))
    go (IsWord-same h p q) (here-equal e z) = here-equal (ap₂ ◌∷◌ h e) (rw (p, q) z)
    go (IsWord-same h p q) (here-lower n l z) = here-lower (suc n) (next-lower a b x y h l) (rw (p, q) (z ∙ ap negsuc (omega arith)))
    go (IsWord-same h p q) (here-higher n l z) = here-higher (suc n) (next-lower b a y x (sym h) l) (rw (p, q) (z ∙ ap (λ (m : ℕ). pos (suc m)) (omega arith)))

module _ (x y : List ℕ) where
  -- Not each list is lower than the other.
  crossed : (p q : ℕ) → LowerAt x y p → LowerAt y x q → ⊥
  crossed p q l m =
      let e : q ≡ p = first_one _ _ (first-flip m.first) l.first in
      not_both l.lower (subst (λ (n : ℕ). LowerWord (word_at y n) (word_at x n)) e m.lower)

  -- Two signed numbers that are told by the same lists are the same.
  signed_one : {z w : ℤ} → SignedPlace x y z → SignedPlace x y w → z ≡ w
  signed_one (told_equal e) (told_equal f) = refl
  signed_one (told_equal e) (told_lower j m) = absurd (lower-other m e)
  signed_one (told_equal e) (told_higher j m) = absurd (lower-other m (sym e))
  signed_one (told_lower i l) (told_equal f) = absurd (lower-other l f)
  signed_one (told_lower i l) (told_lower j m) = ap negsuc (omega (arith, first_one (suc i) (suc j) l.first m.first))
  signed_one (told_lower i l) (told_higher j m) = absurd (crossed _ _ l m)
  signed_one (told_higher i l) (told_equal f) = absurd (lower-other l (sym f))
  signed_one (told_higher i l) (told_lower j m) = absurd (crossed _ _ m l)
  signed_one (told_higher i l) (told_higher j m) = ap (λ (n : ℕ). pos (suc n)) (omega (arith, first_one (suc i) (suc j) l.first m.first))

  -- Comparing gives a signed place of the lists.
  pub signed_is : SignedPlace x y (signed_of x y)
  unfolding signed_of
  signed_is = go (signed_here 0 x y)
    where
      -- By what the words tell.
      go : SignedHere 0 x y (signed_from 0 x y) → SignedPlace x y (signed_from 0 x y)
      go (here-equal e z) = subst (SignedPlace x y) (sym z) (told_equal e)
      go (here-lower p l z) = subst (SignedPlace x y) (sym (z ∙ ap negsuc (omega arith))) (told_lower p l)
      go (here-higher p l z) = subst (SignedPlace x y) (sym (z ∙ ap (λ (n : ℕ). pos (suc n)) (omega arith))) (told_higher p l)

  -- And no other is one.
  pub signed_only : (z : ℤ) → SignedPlace x y z → z ≡ signed_of x y
  signed_only z s = signed_one s signed_is

-- The lists exchanged, with the other sign.
flipped : {x y : List ℕ} {z : ℤ} → SignedPlace x y z → SignedPlace y x (neg_ℤ z)
flipped (told_equal e) = told_equal (sym e)
flipped (told_lower i l) = told_higher i l
flipped (told_higher i l) = told_lower i l

-- The size is the same without the sign.
size-neg : (z : ℤ) → size_of (neg_ℤ z) ≡ size_of z
size-neg (pos zero) = refl
size-neg (pos (suc n)) = refl
size-neg (negsuc n) = refl

module _ (x y : List ℕ) where
  -- Exchanging the lists changes the sign.
  pub signed_flip : signed_of y x ≡ neg_ℤ (signed_of x y)
  signed_flip = sym (signed_only y x (neg_ℤ (signed_of x y)) (flipped (signed_is x y)))

  -- "its size the place counted from 1": where it is not 0 the lists first differ there, and where it is 0 they are the same.
  pub size-place : (1 ≤ size_of (signed_of x y) → FirstDiffers x y (size_of (signed_of x y))) × (size_of (signed_of x y) ≡ 0 → x ≡ y)
  size-place = (differs (signed_is x y), none-differs (signed_is x y))
    where
      -- A size from 1 on.
      differs : {z : ℤ} → SignedPlace x y z → 1 ≤ size_of z → FirstDiffers x y (size_of z)
      differs (told_equal e) h = absurd (omega arith)
      differs (told_lower i l) h = l.first
      differs (told_higher i l) h = first-flip l.first

      -- The size 0.
      none-differs : {z : ℤ} → SignedPlace x y z → size_of z ≡ 0 → x ≡ y
      none-differs (told_equal e) h = e
      none-differs (told_lower i l) h = absurd (omega arith)
      none-differs (told_higher i l) h = absurd (omega arith)

  -- The place is one of the first list, or just past it.
  pub size-most_first : size_of (signed_of x y) ≤ suc (length x)
  size-most_first = omega (arith, ap size_of signed_flip, size-neg (signed_of x y), size-most y x)

  -- A list that is told lower is lower by its words,
  pub lower-is : x ≺ y → IsLower x y
  lower-is h = go (signed_is x y) (side_is x y ∙ h)
    where
      -- By the sign.
      go : {z : ℤ} → SignedPlace x y z → side_of z ≡ Less → IsLower x y
      go (told_equal e) f = never cc
      go (told_lower i l) f = record { place = suc i; at = l }
      go (told_higher i l) f = never cc

  -- and the other way round.
  pub is-lower : IsLower x y → x ≺ y
  is-lower l = go l.place l.at
    where
      -- By the place.
      go : (p : ℕ) → LowerAt x y p → x ≺ y
      go zero m = absurd (omega (arith, m.first.counted))
      go (suc i) m = sym (side_is x y) ∙ ap side_of (sym (signed_only x y (negsuc i) (told_lower i m)))

  -- Lists that are not the same differ first at the size.
  pub other_place : (x ≡ y → ⊥) → FirstDiffers x y (size_of (signed_of x y))
  other_place h = size-place.0 (go (size_of (signed_of x y)) refl)
    where
      -- The size is not 0.
      go : (n : ℕ) → size_of (signed_of x y) ≡ n → 1 ≤ size_of (signed_of x y)
      go zero e = absurd (h (size-place.1 e))
      go (suc n) e = omega arith
