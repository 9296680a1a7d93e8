-- `section_tally::against` meets its contract: where the first words differ they decide. Assumes nothing.
use Rattle.std.proofs.Common.{◌≡◌, ℕ, ◌≤◌, List, length, get_or, ap, sym, ◌∙◌, arith}
use native.Mathlib.Decide.{dec_lt}
use Rattle.std.proofs.lemmas.Bool.Decides.{nat_tests}
use Rattle.std.specs.Ordering.{nat_cmp}
use Rattle.std.specs.declared.cmp.Ordering.TheVariants.{Less, Greater}
use Rattle.words.specs.Compare.{compare_of}
use Rattle.words.proofs.Ordered.{first-lower, first-higher}
use Rattle.section_tally.proofs.Starts.{first-stands, key-words}
use Rattle.section_tally.proofs.against.Goals as goal

-- Two first words that differ decide how the lists stand.
first-decides : (x y : List ℕ) (a b : ℕ) → 1 ≤ length x → get_or x 0 0 ≡ a → get_or y 0 0 ≡ b → (a ≡ b → ⊥) → nat_cmp a b ≡ compare_of x y
first-decides x y a b h p q k =
    elim (dec_lt a b) [
      | yes l ↦ let e : nat_cmp a b ≡ Less = grind (arith, nat_tests) in e ∙ sym (first-lower x y h (omega arith))
      | no l ↦ let e : nat_cmp a b ≡ Greater = grind (arith, nat_tests) in e ∙ sym (first-higher x y h (omega arith))
    ]

pub returns-then-word-first : goal.returns-then-word-first
returns-then-word-first c =
    c.cmp.ensures
    ∙ first-decides _ c.args.key.now _ _ c.requires.in_bounds.0 (first-stands _ _ c.requires.book_in_bounds c.requires.in_bounds.0) (sym c.requires.in_bounds.1) c.if-word-first.true

pub returns : goal.returns
returns c = c.standing.ensures ∙ ap (λ (k : List ℕ). compare_of k c.args.key.now) (key-words _ _ c.requires.book_in_bounds c.requires.in_bounds.0 _ c.past-end.ensures)
