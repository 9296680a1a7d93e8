-- How two lists of words differ, by relations that name no test (02, "Say what the book expected"). Assumes nothing: these are definitions.
use Rattle.std.specs.Prelude.{ℕ, zero, suc, ◌≤◌, ◌<◌, ◌≡◌, List, [], ◌∷◌, ℤ, pos, negsuc, Option, None, Some}

-- The word at a place, places counted from 1; none where the list has ended.
unfoldable pub word_at : List ℕ → ℕ → Option ℕ
word_at [] place = None
word_at (x ∷ xs) zero = None
word_at (x ∷ xs) (suc zero) = Some x
word_at (x ∷ xs) (suc (suc i)) = word_at xs (suc i)

-- "the place of the first differing word": there the lists have not the same word, and at each place before it they have.
pub record FirstDiffers (xs ys : List ℕ) (place : ℕ) : Type 0 where
  pub counted : 1 ≤ place
  pub alike : (j : ℕ) → 1 ≤ j → j < place → word_at xs j ≡ word_at ys j
  pub differ : word_at xs place ≡ word_at ys place → ⊥

-- A word is lower than another; where a list has ended it is lower than one that goes on.
pub data LowerWord : Option ℕ → Option ℕ → Type 0 where
  ended : {y : ℕ} → LowerWord None (Some y)
  less : {x y : ℕ} → x < y → LowerWord (Some x) (Some y)

-- "compared word by word from the first": the first list is lower, by the words at the first place at which they differ.
pub record LowerAt (xs ys : List ℕ) (place : ℕ) : Type 0 where
  pub first : FirstDiffers xs ys place
  pub lower : LowerWord (word_at xs place) (word_at ys place)

-- The first list is lower.
pub record IsLower (xs ys : List ℕ) : Type 0 where
  pub place : ℕ
  pub at : LowerAt xs ys place

-- "a signed place: negative if the first part is lower, 0 if equal, positive if higher, its size the place counted from 1"
pub data SignedPlace (xs ys : List ℕ) : ℤ → Type 0 where
  told_equal : xs ≡ ys → SignedPlace xs ys (pos 0)
  told_lower : (i : ℕ) → LowerAt xs ys (suc i) → SignedPlace xs ys (negsuc i)
  told_higher : (i : ℕ) → LowerAt ys xs (suc i) → SignedPlace xs ys (pos (suc i))
