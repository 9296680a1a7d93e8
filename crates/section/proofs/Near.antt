-- A search that ends at the first entry not below the key says of its neighbours what the whole section says, if the keys ascend; and how great these figures
-- are. Assumes nothing.
use Rattle.std.specs.declared.cmp.Ordering.{Ordering}
use Rattle.std.specs.declared.cmp.Ordering.TheVariants.{Less, Equal, Greater}
use Prim.Native.Nat.{ℕ, suc, ◌+◌, ◌<◌, ◌≤◌}
use mathlib.Core.Path.{◌≡◌, refl, sym, ap, subst, ◌∙◌}
use mathlib.Core.Bool.{Bool, true, false}
use mathlib.Core.List.{List, [], ◌∷◌}
use native.Mathlib.Omega.{arith}
use lib.ListN.{length}
use Rattle.words.specs.Base.{when◌then◌else◌, keep}
use Rattle.words.specs.Compare.{compare_of, before}
use Rattle.words.proofs.Differences.{size-most_first}
use Rattle.words.proofs.Ordered.{flip, compare_equal, compare_flip}
use Rattle.section.specs.Entries.{Entry, section_words, has, by_compared, place_in, look, Below, Sorted}
use Rattle.section.specs.Near.{near, nowhere, entries_below, entries_above, last_place, first_place, near_of, near_in, Small}
use Rattle.section.specs.declared.Found.{Found}
use Rattle.section.specs.declared.Found.TheVariants.{At, Absent}
use Rattle.section.specs.declared.Neighbours.{Neighbours}
use Rattle.section.proofs.Counts.{below-trans}
use Rattle.section.proofs.Sizes.{size-first}
use Rattle.section.proofs.Searches.{has-lower, has_equal, has-higher}

-- ---- which side the first entry stands on

module _ (key : List ℕ) (e : Entry) (es : List Entry) where
  -- A lower entry is one of those below.
  pub lower-is_below : compare_of e.key key ≡ Less → entries_below key (e ∷ es) ≡ e ∷ entries_below key es
  unfolding entries_below keep when◌then◌else◌ before
  lower-is_below c = rw c

  -- An equal one is not.
  pub equal_not_below : compare_of e.key key ≡ Equal → entries_below key (e ∷ es) ≡ entries_below key es
  unfolding entries_below keep when◌then◌else◌ before
  equal_not_below c = rw c

  -- Nor is a higher one.
  pub higher_not_below : compare_of e.key key ≡ Greater → entries_below key (e ∷ es) ≡ entries_below key es
  unfolding entries_below keep when◌then◌else◌ before
  higher_not_below c = rw c

  -- A higher entry is one of those above.
  pub higher_is-above : compare_of e.key key ≡ Greater → entries_above key (e ∷ es) ≡ e ∷ entries_above key es
  unfolding entries_above keep when◌then◌else◌ before
  higher_is-above c = rw (compare_flip e.key key, c)

  -- A lower one is not.
  pub lower-not_above : compare_of e.key key ≡ Less → entries_above key (e ∷ es) ≡ entries_above key es
  unfolding entries_above keep when◌then◌else◌ before
  lower-not_above c = rw (compare_flip e.key key, c)

  -- Nor is an equal one.
  pub equal_not_above : compare_of e.key key ≡ Equal → entries_above key (e ∷ es) ≡ entries_above key es
  unfolding entries_above keep when◌then◌else◌ before
  equal_not_above c = rw (compare_flip e.key key, c)

-- A key lower than the first of ascending entries has none below it.
pub none_below : (key : List ℕ) (es : List Entry) → Below key es → Sorted es → entries_below key es ≡ []
unfolding Below Sorted
none_below key [] h s = unfold entries_below keep in refl
none_below key (e ∷ es) h s = higher_not_below key e es (compare_flip key e.key ∙ ap flip h) ∙ none_below key es (below-trans key e.key es h s.1) s.2

-- ---- what the entries left say

-- The neighbours of a key where n entries below it stand before these, and p is the place for the last of those.
unfoldable near_from : ℕ → ℕ → List ℕ → List Entry → Neighbours
near_from n p key es =
    when has key es then near (n + length (entries_below key es)) true 0 0
    else near (n + length (entries_below key es)) false (last_place p key (entries_below key es)) (first_place key (entries_above key es))

-- Where no entry is left none has the key.
near_none : (n p : ℕ) (key : List ℕ) → near n false p 0 ≡ near_from n p key []
unfolding near_from has entries_below entries_above keep last_place first_place when◌then◌else◌
near_none n p key = ap (λ (m : ℕ). near m false p 0) (omega arith)

module _ (n p : ℕ) (key : List ℕ) (e : Entry) (es : List Entry) where
  -- A lower entry is one more below, and the last so far.
  near-lower : compare_of e.key key ≡ Less → near_from (suc n) (place_in key e) key es ≡ near_from n p key (e ∷ es)
  unfolding near_from last_place
  near-lower c =
      let one : suc n + length (entries_below key es) ≡ n + suc (length (entries_below key es)) = omega arith in
      rw (has-lower e es key c, lower-is_below key e es c, lower-not_above key e es c, one)

  -- An equal entry is the key's, and no later one stands below.
  near-equal : Sorted (e ∷ es) → compare_of e.key key ≡ Equal → near n true 0 0 ≡ near_from n p key (e ∷ es)
  unfolding near_from when◌then◌else◌ Sorted
  near-equal s c =
      let later : Below key es = subst (λ (k : List ℕ). Below k es) (compare_equal e.key key c) s.1 in
      rw (has_equal e es key c, equal_not_below key e es c, none_below key es later s.2) (ap (λ (m : ℕ). near m true 0 0) (omega arith))

  -- A higher entry is the first above, and none from it on stands below.
  near-higher : Sorted (e ∷ es) → compare_of e.key key ≡ Greater → near n false p (place_in key e) ≡ near_from n p key (e ∷ es)
  unfolding near_from when◌then◌else◌ last_place first_place Below
  near-higher s c =
      let none = none_below key (e ∷ es) (compare_flip e.key key ∙ ap flip c) s in
      rw (has-higher e es key s c, none, higher_is-above key e es c) (ap (λ (m : ℕ). near m false p (place_in key e)) (omega arith))

-- ---- the whole search

-- What a search over the entries left says is what they say.
near-from : (key : List ℕ) (at n p : ℕ) (es : List Entry) → Sorted es → near_in (look key at n p es) ≡ near_from n p key es
unfolding look Sorted
near-from key at n p [] s = near_none n p key
near-from key at n p (e ∷ es) s = go (compare_of e.key key) refl (near-from key (at + (2 + length e.key)) (suc n) (place_in key e) es s.2)
  where
    -- By how the first entry stands to the key.
    go : (o : Ordering) → compare_of e.key key ≡ o → near_in (look key (at + (2 + length e.key)) (suc n) (place_in key e) es) ≡ near_from (suc n) (place_in key e) key es
        → near_in (by_compared o (look key (at + (2 + length e.key)) (suc n) (place_in key e) es) (At at n) (Absent at n p (place_in key e))) ≡ near_from n p key (e ∷ es)
    go Less c later = later ∙ near-lower n p key e es c
    go Equal c later = near-equal n p key e es s c
    go Greater c later = near-higher n p key e es s c

-- What a section says of a key's neighbours says whether some entry has the key.
pub near-there : (key : List ℕ) (es : List Entry) → (near_of key es).there ≡ has key es
unfolding near_of when◌then◌else◌
near-there key es = go (has key es) _ _ _ _
  where
    -- By whether one has it.
    go : (b : Bool) (n m p q : ℕ) → (when b then near n true 0 0 else near m false p q).there ≡ b
    go true n m p q = refl
    go false n m p q = refl

module _ (key : List ℕ) (at : ℕ) (es : List Entry) (s : Sorted es) where
  -- A search over a section says what the section says.
  pub near-is : near_in (look key at 0 0 es) ≡ near_of key es
  unfolding near_from near_of
  near-is = let none : 0 + length (entries_below key es) ≡ length (entries_below key es) = omega arith in rw none at (near-from key at 0 0 es s)

  -- So what it tells says whether some entry has the key.
  pub there-told : (f : Found) → look key at 0 0 es ≡ f → has key es ≡ (near_in f).there
  there-told f e = sym (near-there key es) ∙ ap (λ (r : Neighbours). r.there) (sym near-is ∙ ap near_in e)

-- ---- how great the figures are

-- The place of an entry's tree is at most one past the tree's words.
place-most : (key : List ℕ) (e : Entry) → place_in key e ≤ suc (length e.key)
place-most key e = size-most_first e.key key

-- No more entries stand below a key than the section has words.
below-few : (key : List ℕ) (es : List Entry) → length (entries_below key es) ≤ length (section_words es)
below-few key [] = unfold entries_below keep in omega arith
below-few key (e ∷ es) = go (compare_of e.key key) refl (below-few key es)
  where
    -- By how the first entry stands.
    go : (o : Ordering) → compare_of e.key key ≡ o → length (entries_below key es) ≤ length (section_words es) → length (entries_below key (e ∷ es)) ≤ length (section_words (e ∷ es))
    go Less c ih = rw (lower-is_below key e es c, size-first e es) (omega arith)
    go Equal c ih = rw (equal_not_below key e es c, size-first e es) (omega arith)
    go Greater c ih = rw (higher_not_below key e es c, size-first e es) (omega arith)

-- The place for the last entry below is small if the one before the first is.
low-few : (m p : ℕ) (key : List ℕ) (es : List Entry) → p ≤ m → suc (length (section_words es)) ≤ m → last_place p key (entries_below key es) ≤ m
low-few m p key [] h k = unfold entries_below keep last_place in h
low-few m p key (e ∷ es) h k = go (compare_of e.key key) refl (low-few m (place_in key e) key es (omega (arith, place-most key e, size-first e es)) rest) (low-few m p key es h rest)
  where
    -- The entries left are fewer.
    rest : suc (length (section_words es)) ≤ m
    rest = omega (arith, size-first e es)

    -- By how the first entry stands.
    go : (o : Ordering) → compare_of e.key key ≡ o → last_place (place_in key e) key (entries_below key es) ≤ m → last_place p key (entries_below key es) ≤ m
        → last_place p key (entries_below key (e ∷ es)) ≤ m
    go Less c one two = rw (lower-is_below key e es c) (unfold last_place in one)
    go Equal c one two = rw (equal_not_below key e es c) two
    go Greater c one two = rw (higher_not_below key e es c) two

-- So is the place for the first above.
high-few : (key : List ℕ) (es : List Entry) → first_place key (entries_above key es) ≤ suc (length (section_words es))
high-few key [] = unfold entries_above keep first_place in omega arith
high-few key (e ∷ es) = go (compare_of e.key key) refl (high-few key es)
  where
    -- By how the first entry stands.
    go : (o : Ordering) → compare_of e.key key ≡ o → first_place key (entries_above key es) ≤ suc (length (section_words es))
        → first_place key (entries_above key (e ∷ es)) ≤ suc (length (section_words (e ∷ es)))
    go Less c ih = rw (lower-not_above key e es c, size-first e es) (omega arith)
    go Equal c ih = rw (equal_not_above key e es c, size-first e es) (omega arith)
    go Greater c ih = rw (higher_is-above key e es c, size-first e es) (unfold first_place in omega (arith, place-most key e))

-- Where there are none they are.
pub nowhere-small : (n : ℕ) → 0 < n → Small n nowhere
nowhere-small n h = record { below = h; low = h; high = h }

-- Those in a section are, if its words are fewer by two.
pub near-small : (n : ℕ) (key : List ℕ) (es : List Entry) → length (section_words es) + 1 < n → Small n (near_of key es)
unfolding near_of when◌then◌else◌
near-small n key es h = go (has key es)
  where
    -- By whether an entry has the key.
    go : (b : Bool)
        → Small n (when b then near (length (entries_below key es)) true 0 0 else near (length (entries_below key es)) false (last_place 0 key (entries_below key es)) (first_place key (entries_above key es)))
    go true = record { below = omega (arith, below-few key es); low = omega arith; high = omega arith }
    go false = record {
      below = omega (arith, below-few key es);
      low = omega (arith, low-few (suc (length (section_words es))) 0 key es (omega arith) (omega arith));
      high = omega (arith, high-few key es);
    }
