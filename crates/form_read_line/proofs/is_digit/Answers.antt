-- `form_read_line::is_digit` meets its contract. Assumes nothing.
use Rattle.std.proofs.Common.{◌≡◌, ℕ, Bool, true, false, sym, arith}
use Rattle.std.specs.Bool.{MatchBool}
use Rattle.std.specs.Char.{IsAsciiDigit, IsNotAsciiDigit}
use borrow.Author.Tests.{le-leb}
use Rattle.words.proofs.Tests.{and_both, fails}
use Rattle.form.specs.Reading.{is_digit}
use Rattle.form.proofs.Spelling.{of-digit}
use Rattle.form_read_line.proofs.is_digit.Goals as goal

-- std's two cases are those of the definition.
told : (r : Bool) (b : ℕ) → MatchBool r (IsAsciiDigit b) (IsNotAsciiDigit b) → r ≡ is_digit b
unfolding is_digit
told true b h = sym (and_both (le-leb _ _ h.0) (le-leb _ _ h.1))
told false b h = sym (fails _ (λ e. let o = of-digit _ e in omega (arith, h)))

pub returns : goal.returns
returns c = told _ _ c.is_ascii_digit.ensures.cases
