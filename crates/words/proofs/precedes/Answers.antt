-- `words::precedes` meets its contract, by the answer of `standing`. Assumes nothing.
use Rattle.std.specs.declared.cmp.Ordering.{Ordering}
use Rattle.std.specs.declared.cmp.Ordering.TheVariants.{Less, Equal, Greater}
use Rattle.std.specs.Ordering.{is_lt}
use mathlib.Core.Path.{◌≡◌, refl, ap, ◌∙◌}
use Rattle.words.specs.Compare.{is_lower, before}
use Rattle.words.proofs.precedes.Goals as goal

-- The library's test is that of the definition.
lower : (o : Ordering) → is_lt o ≡ is_lower o
lower Less = refl
lower Equal = refl
lower Greater = refl

pub returns : goal.returns
unfolding before
returns c = c.is_lt.ensures ∙ lower c.standing.result ∙ ap is_lower c.standing.ensures
