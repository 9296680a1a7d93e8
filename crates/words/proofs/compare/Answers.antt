-- `words::compare` meets its contract: the first words that are left decide the place, or the rest. Assumes nothing.
use Rattle.std.proofs.Common.{rules, ◌≡◌, ℕ, suc, ◌+◌, ◌<◌, ◌≤◌, ◌⊎◌, inl, inr, List, [], ◌∷◌, length, None, refl, pos, negsuc, ap, sym, ◌∙◌, add-one, arith}
use borrow.Author.Tests.{lt-ltb, le-ltb}
use Rattle.std.proofs.lemmas.Slice.Zip.{either_empty_from_Zip}
use Rattle.std.specs.Iterator.Adapters.{enumerate_source}
use Rattle.words.specs.Compare.{signed_from, signed_of}
use Rattle.words.proofs.Signs.{read_back}
use Rattle.words.proofs.compare.Goals as goal

module _ (i : ℕ) (xs ys us vs : List ℕ) (x y : ℕ) (is : (xs ≡ x ∷ us) × (ys ≡ y ∷ vs)) where
  -- The first words differ.
  lower : x < y → signed_from i xs ys ≡ negsuc i
  unfolding signed_from
  lower h = rw (is.0, is.1, lt-ltb x y h)

  higher : y ≤ x → (x ≡ y → ⊥) → signed_from i xs ys ≡ pos (suc i)
  unfolding signed_from
  higher h k = rw (is.0, is.1, le-ltb x y h, lt-ltb y x (omega arith))

  -- They are the same: the rest decides.
  same : (j : ℕ) → x ≡ y → j ≡ i + 1 → signed_from i xs ys ≡ signed_from j us vs
  unfolding signed_from
  same j h k = rw (is.0, is.1, le-ltb x y (omega arith), le-ltb y x (omega arith), k, add-one)

  -- Each has one word less.
  shorter : (length us + 1 ≡ length xs) × (length vs + 1 ≡ length ys)
  shorter = (omega (arith, ap length is.0), omega (arith, ap length is.1))

-- Where one has ended the lengths decide.
ended-lower : (i m n : ℕ) (xs ys : List ℕ) → i + length xs ≡ m → i + length ys ≡ n → (xs ≡ []) ⊎ (ys ≡ []) → m < n → signed_from i xs ys ≡ negsuc m
unfolding signed_from
ended-lower i m n [] [] p q h k = absurd (omega arith)
ended-lower i m n [] (y ∷ ys) p q h k = ap negsuc (omega arith)
ended-lower i m n (x ∷ xs) [] p q h k = absurd (omega arith)
ended-lower i m n (x ∷ xs) (y ∷ ys) p q (inl h) k = cc
ended-lower i m n (x ∷ xs) (y ∷ ys) p q (inr h) k = cc

ended-same : (i m n : ℕ) (xs ys : List ℕ) → i + length xs ≡ m → i + length ys ≡ n → (xs ≡ []) ⊎ (ys ≡ []) → m ≡ n → signed_from i xs ys ≡ pos 0
unfolding signed_from
ended-same i m n [] [] p q h k = cc
ended-same i m n [] (y ∷ ys) p q h k = absurd (omega arith)
ended-same i m n (x ∷ xs) [] p q h k = absurd (omega arith)
ended-same i m n (x ∷ xs) (y ∷ ys) p q (inl h) k = cc
ended-same i m n (x ∷ xs) (y ∷ ys) p q (inr h) k = cc

ended-higher : (i m n : ℕ) (xs ys : List ℕ) → i + length xs ≡ m → i + length ys ≡ n → (xs ≡ []) ⊎ (ys ≡ []) → n < m → signed_from i xs ys ≡ pos (suc n)
unfolding signed_from
ended-higher i m n [] [] p q h k = absurd (omega arith)
ended-higher i m n [] (y ∷ ys) p q h k = absurd (omega arith)
ended-higher i m n (x ∷ xs) [] p q h k = ap (λ (a : ℕ). pos (suc a)) (omega arith)
ended-higher i m n (x ∷ xs) (y ∷ ys) p q (inl h) k = cc
ended-higher i m n (x ∷ xs) (y ∷ ys) p q (inr h) k = cc

pub loop-i-init : goal.loop-i-init
unfolding signed_of
loop-i-init c = search rules

pub returns-then-x-y-2 : goal.returns-then-x-y-2
returns-then-x-y-2 c =
    let s = c.in-Some.ensures.steps in
    read_back c.below.result c.below.type_inv ∙ c.below.ensures ∙ ap negsuc s.1 ∙ sym (c.loop-i.invariant.decided ∙ lower _ _ _ _ _ _ _ s.0 c.if-x-y-2.true)

pub returns-else-x-y-2 : goal.returns-else-x-y-2
returns-else-x-y-2 c =
    let s = c.in-Some.ensures.steps in
    read_back c.above.result c.above.type_inv ∙ c.above.ensures ∙ ap (λ (i : ℕ). pos (suc i)) s.1
    ∙ sym (c.loop-i.invariant.decided ∙ higher _ _ _ _ _ _ _ s.0 c.if-x-y-2.false c.if-x-y.true)

pub loop-i-preserved : goal.loop-i-preserved
loop-i-preserved c =
    let s = c.in-Some.ensures.steps in
    let more = s.2 in
    let each = shorter 0 _ _ _ _ _ _ s.0 in record {
      decided = c.loop-i.invariant.decided ∙ same _ _ _ _ _ _ _ s.0 _ c.if-x-y.false more;
      first = omega (arith, c.loop-i.invariant.first, each.0, more);
      second = omega (arith, c.loop-i.invariant.second, each.1, more);
    }

pub returns-in-Less : goal.returns-in-Less
returns-in-Less c =
    let lengths : length c.args.a.now < length c.args.b.now = search rules in
    let empty = either_empty_from_Zip (enumerate_source c.loop-i.i-iterator) (enumerate_source c.next.new.self) None refl c.in-None.ensures.steps.0 in
    read_back c.below-in-Less.result c.below-in-Less.type_inv ∙ c.below-in-Less.ensures
    ∙ sym (c.loop-i.invariant.decided ∙ ended-lower _ _ _ _ _ c.loop-i.invariant.first c.loop-i.invariant.second empty lengths)

pub returns-in-Equal : goal.returns-in-Equal
returns-in-Equal c =
    let lengths : length c.args.a.now ≡ length c.args.b.now = search rules in
    let empty = either_empty_from_Zip (enumerate_source c.loop-i.i-iterator) (enumerate_source c.next.new.self) None refl c.in-None.ensures.steps.0 in
    sym (c.loop-i.invariant.decided ∙ ended-same _ _ _ _ _ c.loop-i.invariant.first c.loop-i.invariant.second empty lengths)

pub returns-in-Greater : goal.returns-in-Greater
returns-in-Greater c =
    let lengths : length c.args.b.now < length c.args.a.now = search rules in
    let empty = either_empty_from_Zip (enumerate_source c.loop-i.i-iterator) (enumerate_source c.next.new.self) None refl c.in-None.ensures.steps.0 in
    read_back c.above-in-Greater.result c.above-in-Greater.type_inv ∙ c.above-in-Greater.ensures
    ∙ sym (c.loop-i.invariant.decided ∙ ended-higher _ _ _ _ _ c.loop-i.invariant.first c.loop-i.invariant.second empty lengths)
