-- `section_tally::same_counts` meets its contract: the place and the count of a turn decide, or those that are left. Assumes nothing.
use Rattle.std.proofs.Common.{◌≡◌, ℕ, ◌+◌, List, ◌∷◌, length, get_or, false, ap, sym, ◌∙◌, arith}
use Rattle.std.proofs.lemmas.Iterator.{empty_from_Zip}
use Rattle.section_tally.specs.Tallying.{listed, same_counts}
use Rattle.section_tally.proofs.Tallies.{same-goes_on, same_ends, same-done}
use Rattle.section_tally.proofs.same_counts.Goals as goal

module _ (ws xs ys starts counts : List ℕ) (at c : ℕ) (is : (xs ≡ at ∷ starts) × (ys ≡ c ∷ counts)) where
  -- The first count is the one tallied, and the others decide,
  goes_on : get_or ws (at + 1) 0 ≡ c → same_counts (listed xs ws) ys ≡ same_counts (listed starts ws) counts
  goes_on e = rw (is.0, is.1) (same-goes_on at c starts ws counts e)

  -- or it is not.
  ends : (get_or ws (at + 1) 0 ≡ c → ⊥) → same_counts (listed xs ws) ys ≡ false
  ends e = rw (is.0, is.1) (same_ends at c starts ws counts e)

  -- One fewer is left of each.
  fewer : length ys ≡ length xs → length counts ≡ length starts
  fewer h = omega (arith, ap length is.0, ap length is.1)

pub returns-then-says-count : goal.returns-then-says-count
returns-then-says-count c = sym (c.loop-at.invariant.compared ∙ ends _ _ _ _ _ _ _ c.in-Some.ensures.steps c.if-says-count.true)

pub loop-at-preserved : goal.loop-at-preserved
loop-at-preserved c = record {
  compared = c.loop-at.invariant.compared ∙ goes_on _ _ _ _ _ _ _ c.in-Some.ensures.steps c.if-says-count.false;
  as_many = fewer c.args.book.now _ _ _ _ _ _ c.in-Some.ensures.steps c.loop-at.invariant.as_many;
}

pub returns : goal.returns
returns c = sym (c.loop-at.invariant.compared ∙ same-done _ _ _ (empty_from_Zip c.loop-at.at-iterator c.next.new.self _ c.in-None.is c.next.ensures.steps (sym c.loop-at.invariant.as_many)).0)
