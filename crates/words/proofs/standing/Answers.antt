-- `words::standing` meets its contract: the first words that are left decide, or the rest. Assumes nothing.
use Rattle.std.proofs.Common.{rules, ◌≡◌, ℕ, ◌+◌, ◌⊎◌, inl, inr, List, [], ◌∷◌, length, ap, sym, ◌∙◌, arith}
use Rattle.std.proofs.lemmas.Bool.Decides.{nat_tests}
use Rattle.std.proofs.lemmas.Slice.Zip.{either_empty_from_Zip}
use Rattle.std.specs.Ordering.{nat_cmp}
use Rattle.words.specs.Compare.{compare_of}
use Rattle.words.proofs.standing.Goals as goal

module _ (xs ys us vs : List ℕ) (x y : ℕ) (is : (xs ≡ x ∷ us) × (ys ≡ y ∷ vs)) where
  -- The first words differ: they decide.
  differ : (x ≡ y → ⊥) → nat_cmp x y ≡ compare_of xs ys
  unfolding compare_of
  differ h = rw (is.0, is.1) (grind (arith, nat_tests))

  -- They are the same: the rest decides.
  same : x ≡ y → compare_of xs ys ≡ compare_of us vs
  unfolding compare_of
  same h = rw (is.0, is.1) (grind (arith, nat_tests))

  -- Each has one word less.
  shorter : (m n : ℕ) → m + length ys ≡ n + length xs → m + length vs ≡ n + length us
  shorter m n h = omega (arith, ap length is.0, ap length is.1)

-- Where one has ended the lengths decide.
ended : (xs ys : List ℕ) (m n : ℕ) → m + length ys ≡ n + length xs → (xs ≡ []) ⊎ (ys ≡ []) → nat_cmp m n ≡ compare_of xs ys
unfolding compare_of
ended [] [] m n e h = grind (arith, nat_tests)
ended [] (y ∷ ys) m n e h = grind (arith, nat_tests)
ended (x ∷ xs) [] m n e h = grind (arith, nat_tests)
ended (x ∷ xs) (y ∷ ys) m n e (inl h) = cc
ended (x ∷ xs) (y ∷ ys) m n e (inr h) = cc

pub loop-x-init : goal.loop-x-init
loop-x-init c = search rules

pub returns-then-x-y : goal.returns-then-x-y
returns-then-x-y c = c.cmp.ensures ∙ differ _ _ _ _ _ _ c.in-Some.ensures.steps c.if-x-y.true ∙ sym c.loop-x.invariant.decided

pub loop-x-preserved : goal.loop-x-preserved
loop-x-preserved c = record {
  decided = c.loop-x.invariant.decided ∙ same _ _ _ _ _ _ c.in-Some.ensures.steps c.if-x-y.false;
  as_long = shorter _ _ _ _ _ _ c.in-Some.ensures.steps _ _ c.loop-x.invariant.as_long;
}

pub returns : goal.returns
returns c = c.cmp-2.ensures ∙ ended _ _ _ _ c.loop-x.invariant.as_long (either_empty_from_Zip c.loop-x.x-iterator c.next.new.self _ c.in-None.is c.next.ensures.steps) ∙ sym c.loop-x.invariant.decided
