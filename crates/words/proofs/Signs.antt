-- Signed places: the side that they tell is the order of the lists, and their size the place of the first difference. Assumes nothing.
use Prim.Native.Nat.{ℕ, suc, ◌+◌, ◌^◌, ◌<◌, ◌≤◌}
use mathlib.Core.Path.{◌≡◌, refl, ap, sym, ◌∙◌}
use mathlib.Core.Bool.{Bool, true, false}
use mathlib.Core.List.{List, [], ◌∷◌}
use native.Mathlib.Omega.{arith}
use lib.Dec.{ltb}
use lib.IntN.{ℤ}
use lib.Signed.{mag}
use mir.Syntax.{w64}
use mir.Val.{to_z, of_z}
use mir.ValLaws.{to_z-of_z}
use lib.ListN.{length, drop}
use Rattle.words.specs.Compare.{compare_of, first_words, signed_words, signed_from, signed_of, side_of, size_of}

-- The side that a signed place tells is how the lists stand.
side_from : (i : ℕ) (x y : List ℕ) → side_of (signed_from i x y) ≡ compare_of x y
unfolding signed_from compare_of
side_from i [] [] = refl
side_from i [] (b ∷ y) = refl
side_from i (a ∷ x) [] = refl
side_from i (a ∷ x) (b ∷ y) = go (ltb a b) (ltb b a) (side_from (suc i) x y)
  where
    go : (p q : Bool) → side_of (signed_from (suc i) x y) ≡ compare_of x y → side_of (signed_words p q i (signed_from (suc i) x y)) ≡ first_words p q (compare_of x y)
    go true q h = refl
    go false true h = refl
    go false false h = h

-- The same from the first word on.
pub side_is : (x y : List ℕ) → side_of (signed_of x y) ≡ compare_of x y
unfolding signed_of
side_is x y = side_from 0 x y

-- The side is told by what is left from a place on, where that decides.
pub side_told : (a b : List ℕ) (i : ℕ) (z : ℤ) → signed_of a b ≡ signed_from i (drop i a) (drop i b) → signed_from i (drop i a) (drop i b) ≡ z → side_of z ≡ compare_of a b
side_told a b i z d e = ap side_of (sym (d ∙ e)) ∙ side_is a b

-- The place is one of the shorter list, or just past it.
size-from : (i : ℕ) (x y : List ℕ) → size_of (signed_from i x y) ≤ suc (i + length y)
unfolding signed_from
size-from i [] [] = omega arith
size-from i [] (b ∷ y) = omega arith
size-from i (a ∷ x) [] = omega arith
size-from i (a ∷ x) (b ∷ y) = go (ltb a b) (ltb b a) (size-from (suc i) x y)
  where
    go : (p q : Bool) → size_of (signed_from (suc i) x y) ≤ suc (suc i + length y) → size_of (signed_words p q i (signed_from (suc i) x y)) ≤ suc (i + suc (length y))
    go true q h = omega arith
    go false true h = omega arith
    go false false h = omega arith

-- The same from the first word on.
pub size-most : (x y : List ℕ) → size_of (signed_of x y) ≤ suc (length y)
unfolding signed_of
size-most x y = omega (arith, size-from 0 x y)

-- ---- the machine's signed numbers

-- What a call gives is read back as it is.
pub read_back : (z : ℤ) → mag z < 2 ^ 63 → to_z w64 (of_z w64 z) ≡ z
read_back z h = to_z-of_z w64 z (record { sfits = h })
