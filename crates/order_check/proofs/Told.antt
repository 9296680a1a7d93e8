-- What is told of a call that was done or refused, and of an order by it. Assumes nothing.
use mathlib.Core.Path.{◌≡◌, ap, sym, ◌∙◌}
use mathlib.Core.List.{List}
use Prim.Native.Nat.{ℕ}
use Rattle.std.specs.Prelude.{Result, Ok, Err}
use Rattle.std.specs.Result.{IsErrAnd}
use Rattle.figures.specs.Numbers.{done}
use Rattle.figures.specs.Refusals.{refusal_number}
use Rattle.figures.specs.declared.refusals.Refusal.{Refusal}
use Rattle.figures.proofs.SameRefusal.{not_done}
use Rattle.order.specs.Reading.{refused, order_of, cause_of}
use Rattle.order.proofs.Causes.{refused-by}

module _ {A : Type 0} where
  -- What refuses so is this refusal.
  pub err-is : (r : Result A Refusal) (e : Refusal) → IsErrAnd r (λ x. x ≡ e) → r ≡ Err e
  err-is (Ok a) e h = absurd h
  err-is (Err x) e h = ap Err h

-- An order by whose cause a call was refused.
pub stopped_by : (s : List ℕ) (r : Refusal) → refusal_number r ≡ cause_of s → order_of s ≡ refused (refusal_number r)
stopped_by s r e = refused-by s (λ h. not_done r (e ∙ h)) ∙ ap refused (sym e)

-- Of words by whose cause a call was refused no spans are asked.
pub unlisted : {G : Type 0} (s : List ℕ) (r : Refusal) → refusal_number r ≡ cause_of s → cause_of s ≡ done → G
unlisted s r e h = absurd (not_done r (e ∙ h))
