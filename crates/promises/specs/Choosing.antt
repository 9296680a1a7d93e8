-- What each number of choosing an image says (02, "Choose the firmware image"), by document 000's l and p and by the words of a list of rules. That
-- each is answered exactly then is shown in proofs/Choosing.antt. Assumes nothing: these are definitions.
use Rattle.std.specs.Prelude.{ℕ, ◌≡◌, List}
use Rattle.words.specs.Base.{◌∈◌}
use Rattle.book_judging.specs.Verdicts.{PassesBy}
use Rattle.book_choosing.specs.Rules.{ImageRule}
use Rattle.book_choosing.specs.Choices.{IsRules, FitsBy}

-- An order that passes by a book, and words that are a list of rules at the book's k.
pub record PassesWith (ws os rs : List ℕ) (rules : List ImageRule) : Type 0 where
  pub passes : PassesBy ws os
  pub are : IsRules passes.lent.book.k rs rules

-- "A rule fits an order": it is one of the list, and its tree one of the order's low or middle parts at the book's k.
pub record Fitting (ws os : List ℕ) (p : PassesBy ws os) (rules : List ImageRule) (r : ImageRule) : Type 0 where
  pub there : r ∈ rules
  pub fits : FitsBy p.lent.book.k p.lent.tree r

-- What 32 says: the order passes, and there is "a rule list not so laid out or a rule tree deeper than k-1".
pub record NoRuleList (ws os rs : List ℕ) : Type 0 where
  pub passes : PassesBy ws os
  pub none : (rules : List ImageRule) → IsRules passes.lent.book.k rs rules → ⊥

-- What 30 says: "no rule fits".
pub record NoRuleFits (ws os rs : List ℕ) : Type 0 where
  pub rules : List ImageRule
  pub with : PassesWith ws os rs rules
  pub none : (r : ImageRule) → Fitting ws os with.passes rules r → ⊥

-- What 31 says: "two that fit differ".
pub record TwoFitAndDiffer (ws os rs : List ℕ) : Type 0 where
  pub rules : List ImageRule
  pub with : PassesWith ws os rs rules
  pub first : ImageRule
  pub second : ImageRule
  pub first_fits : Fitting ws os with.passes rules first
  pub second_fits : Fitting ws os with.passes rules second
  pub differ : first.image ≡ second.image → ⊥

-- What 0 with an image says: "at least one rule fits and all that fit name the same one".
pub record AllNameImage (ws os rs : List ℕ) (image : ℕ) : Type 0 where
  pub rules : List ImageRule
  pub with : PassesWith ws os rs rules
  pub rule : ImageRule
  pub fits : Fitting ws os with.passes rules rule
  pub all : (r : ImageRule) → Fitting ws os with.passes rules r → r.image ≡ image
