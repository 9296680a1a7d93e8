-- What a `Depth` that is allowed, or is not, says of its k. Assumes nothing.
use Rattle.std.specs.Prelude.{None, Option, Some}
use Prim.Native.Nat.{ℕ}
use mathlib.Core.Path.{◌≡◌, refl, sym, ◌∙◌}
use mathlib.Core.Bool.{Bool, true, false}
use Rattle.words.specs.Base.{when◌then◌else◌, within}
use Rattle.figures.specs.Limits.{least_k, greatest_k}
use Rattle.figures.specs.Answers.{depth_of}
use Rattle.figures.specs.declared.depths.Depth.{Depth}

-- What asking for a k tells of it.
abbrev Tells : ℕ → Option Depth → Type 0
Tells k (Some d) = (d.k ≡ k) × (within least_k greatest_k k ≡ true)
Tells k None = within least_k greatest_k k ≡ false

-- It tells what is so.
tells : (k : ℕ) → Tells k (depth_of k)
unfolding depth_of when◌then◌else◌
tells k = go (within least_k greatest_k k) refl
  where
    go : (b : Bool) → within least_k greatest_k k ≡ b → Tells k (when b then Some (record { k = k }) else None)
    go true e = (refl, e)
    go false e = e

module _ (k : ℕ) (w : Option Depth) (is : w ≡ depth_of k) where
  -- A k that is allowed is the depth's, and lies within.
  pub allowed : (d : Depth) → w ≡ Some d → (d.k ≡ k) × (within least_k greatest_k k ≡ true)
  allowed d e = rw (sym is ∙ e) at (tells k)

  -- A k that is not lies outside.
  pub outside : w ≡ None → within least_k greatest_k k ≡ false
  outside e = rw (sym is ∙ e) at (tells k)
