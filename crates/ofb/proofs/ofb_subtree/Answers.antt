-- `ofb_subtree` meets its contract: the part that is handed out lies within an order of at most 128 words. Assumes nothing.
use Prim.Native.Nat.{ℕ}
use mathlib.Core.Path.{◌≡◌, sym, ap, ap₂, ◌∙◌}
use mathlib.Core.List.{List}
use native.Mathlib.Omega.{arith}
use lib.ListN.{length}
use Rattle.ofb.specs.declared.OfbPart.{OfbPart}
use Rattle.ofb.proofs.Parts.{Within, part_none, part-some}
use Rattle.ofb.proofs.ofb_subtree.Goals as goal
use Rattle.ofb.proofs.ofb_subtree.Goals.{Else-words-eq0}

-- A part in C.
abbrev part : ℕ → ℕ → OfbPart
part start n = record { start = start; words = n }

-- It has as many words as the subtree.
many : {p : (ℕ × ℕ) × List ℕ} {at : ℕ × ℕ} {ws : List ℕ} → ◌≡◌ {A = (ℕ × ℕ) × List ℕ} (at, ws) p → length ws ≡ length p.1
many e = ap (λ (x : (ℕ × ℕ) × List ℕ). length x.1) e

pub returns-then-words-eq0 : goal.returns-then-words-eq0
returns-then-words-eq0 c =
    let e = many c.subtree-words.ensures in
    ap₂ part (sym (part_none _ _ (sym e ∙ c.if-words-eq0.true))) (sym c.if-words-eq0.true ∙ e)

-- Where it has words it lies within 128.
within : (c : Else-words-eq0) → let a = c.args in Within a.order.now a.line
within c = part-some _ _ (λ z. c.if-words-eq0.false (many c.subtree-words.ensures ∙ z))

pub overflow_sub-start : goal.overflow_sub-start
overflow_sub-start c = (within c).some

pub overflow_mul-start : goal.overflow_mul-start
overflow_mul-start c = omega (arith, (within c).short)

pub overflow_cast-result : goal.overflow_cast-result
overflow_cast-result c = omega (arith, (within c).short)

pub overflow_cast-result-2 : goal.overflow_cast-result-2
overflow_cast-result-2 c = omega (arith, (within c).short, many c.subtree-words.ensures)

pub returns : goal.returns
returns c = ap₂ part (sym (within c).start) (many c.subtree-words.ensures)
