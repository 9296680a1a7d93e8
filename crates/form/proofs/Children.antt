-- The children of a line are the lines one level deeper that stand below it, before the next line of its level or above; and where a line's words stand.
-- Assumes nothing.
use mathlib.Core.Path.{◌≡◌, refl, ap, subst, ◌∙◌}
use mathlib.Core.Bool.{Bool, true, false}
use mathlib.Core.List.{List, [], ◌∷◌, ◌++◌}
use Prim.Native.Nat.{ℕ, suc, ◌+◌, ◌*◌, ◌<◌, ◌≤◌}
use native.Mathlib.Omega.{arith}
use borrow.Author.Tests.{leb-true, leb-false, lt-leb, eqb-true, eqb-false, eq-eqb, ne_eqb}
use lib.Dec.{leb, eqb}
use lib.ListN.{length, get_or}
use Rattle.words.specs.Base.{when◌then◌else◌}
use Rattle.form.specs.Text.{Line}
use Rattle.form.specs.Reading.{children, words_of_lines}
use Rattle.form.specs.Faults.{ChildrenOf, no_lines, child, deeper, NoDeeper, no_more, back_up, ChildrenBehind}
use Rattle.form.proofs.TreeLines.{no_child}

module _ (l : ℕ) where
  -- Lines behind a line of level l have some below it, so many of them its children as `children` counts.
  some_below : (ys : List Line) → ChildrenBehind l ys (children l ys)
  unfolding children when◌then◌else◌
  some_below [] = record { below = []; rest = []; split = refl; children = no_lines; ends = no_more }
  some_below (y ∷ ys) = go (leb y.level l) (eqb y.level (suc l)) refl refl (some_below ys)
    where
      -- By how deep the first of them is.
      go : (a b : Bool) → leb y.level l ≡ a → eqb y.level (suc l) ≡ b → ChildrenBehind l ys (children l ys)
          → ChildrenBehind l (y ∷ ys) (when a then 0 else when b then suc (children l ys) else children l ys)
      go true b p q r = let h : y.level ≤ l = leb-true _ _ p in record { below = []; rest = y ∷ ys; split = refl; children = no_lines; ends = back_up h }
      go false true p q r =
          let e : y.level ≡ l + 1 = omega (arith, eqb-true y.level (suc l) q) in
          record { below = y ∷ r.below; rest = r.rest; split = ap (λ (s : List Line). y ∷ s) r.split; children = child e r.children; ends = r.ends }
      go false false p q r =
          let n : y.level ≡ suc l → ⊥ = eqb-false _ _ q in
          let h : l < y.level = leb-false _ _ p in
          let e : l + 1 < y.level = omega arith in
          record { below = y ∷ r.below; rest = r.rest; split = ap (λ (s : List Line). y ∷ s) r.split; children = deeper e r.children; ends = r.ends }

  -- The children among those below it are counted.
  children-counted : (below rest : List Line) (n : ℕ) → ChildrenOf l below n → NoDeeper l rest → children l (below ++ rest) ≡ n
  unfolding children when◌then◌else◌
  children-counted _ rest _ no_lines e = no_child l rest e
  children-counted _ rest _ (child {x} {xs} {n} q c) e = rw (lt-leb x.level l (omega arith), eq-eqb x.level (suc l) (omega arith), children-counted xs rest n c e)
  children-counted _ rest _ (deeper {x} {xs} {n} q c) e =
      rw (lt-leb x.level l (omega arith), ne_eqb x.level (suc l) (λ z. omega arith), children-counted xs rest n c e)

  -- Where `children` counts so many, so many lines are its children,
  pub counted-below : (behind : List Line) (n : ℕ) → children l behind ≡ n → ChildrenBehind l behind n
  counted-below behind n e = subst (ChildrenBehind l behind) e (some_below behind)

  -- and where so many are, it counts so many.
  pub below-counted : (behind : List Line) (n : ℕ) → ChildrenBehind l behind n → children l behind ≡ n
  below-counted behind n r = ap (children l) r.split ∙ children-counted r.below r.rest n r.children r.ends

-- The first word of a line among the words of lines is its code.
pub line_code : (x : Line) (behind front : List Line) → get_or (words_of_lines (front ++ (x ∷ behind))) (2 * length front) 0 ≡ x.code
unfolding words_of_lines
line_code x behind [] = refl
line_code x behind (y ∷ front) = let z : 2 * suc (length front) ≡ suc (suc (2 * length front)) = omega arith in rw z (line_code x behind front)
