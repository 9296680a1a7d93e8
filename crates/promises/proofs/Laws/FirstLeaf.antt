-- A book without low and middle parts doubts every order at its first leaf. Assumes nothing.
use Prim.Native.Nat.{ℕ, suc, ◌+◌, ◌-◌}
use mathlib.Core.Path.{◌≡◌, refl, ap, sym, ◌∙◌}
use mathlib.Core.Bool.{Bool, true, false}
use mathlib.Core.List.{List, [], ◌∷◌, ◌++◌, append_assoc, append-nil}
use native.Mathlib.Omega.{arith}
use borrow.Author.Tests.{le-leb}
use lib.Dec.{leb}
use Rattle.words.specs.Base.{when◌then◌else◌, ◌and◌}
use Rattle.figures.specs.Numbers.{low_unknown}
use Rattle.section.specs.Entries.{has}
use Rattle.order.specs.Trees.{Tree, node, Forest, bare, cons, words, depth, subtrees, subtrees_f, below}
use Rattle.order.specs.Parts.{is_low, middle}
use Rattle.book.specs.Book.{Book}
use Rattle.book_judging.specs.Judging.{knows, knows_each, to_fix, doubt, least_to_fix, verdict_on, verdict}
use Rattle.promises.specs.Heard.{first_leaf, leaf_in}

-- A book without low and middle parts.
module _ (b : Book) (no-lows : b.L ≡ []) (no-middles : b.P ≡ []) where
  -- It knows no part.
  knows-none : (s : Tree) → knows b s ≡ false
  unfolding knows has when◌then◌else◌
  knows-none s = go (is_low b.k s)
    where
      -- By the kind of the part.
      go : (low : Bool) → (when low then has (words s) b.L else has (words (middle b.k s)) b.P) ≡ false
      go true = rw no-lows
      go false = rw no-middles

  -- A leaf is to be fixed.
  leaf_fix : (c line : ℕ) (rest : List Tree) → least_to_fix b line (node c bare ∷ rest) ≡ doubt line (node c bare)
  unfolding least_to_fix to_fix below subtrees knows_each when◌then◌else◌
  leaf_fix c line rest = rw (knows-none (node c bare))

  -- A node with children is not.
  inner_not : (c line : ℕ) (t : Tree) (f : Forest) (rest : List Tree) → least_to_fix b line (node c (cons t f) ∷ rest) ≡ least_to_fix b (suc line) rest
  unfolding least_to_fix to_fix below subtrees knows_each when◌then◌else◌ ◌and◌
  inner_not c line (node d g) f rest = rw (knows-none (node c (cons (node d g) f)), knows-none (node d g))

  -- So the first leaf is the line to fix, whatever follows.
  mutual
    unfolding subtrees first_leaf depth

    first_leaf_lem : (t : Tree) (line : ℕ) (rest : List Tree) → (s : Tree) × (least_to_fix b (suc line) (subtrees t ++ rest) ≡ doubt (line + first_leaf t) s) × (depth s ≡ 0)
    first_leaf_lem (node c f) line rest = row-leaf f c line rest

    row-leaf : (f : Forest) (c line : ℕ) (rest : List Tree) → (s : Tree) × (least_to_fix b (suc line) (node c f ∷ (subtrees_f f ++ rest)) ≡ doubt (line + suc (leaf_in f)) s) × (depth s ≡ 0)
    row-leaf bare c line rest =
        let one : suc line ≡ line + 1 = omega arith in
        (node c bare, leaf_fix c (suc line) rest ∙ ap (λ (n : ℕ). doubt n (node c bare)) one, refl)
    row-leaf (cons t f) c line rest =
        let r = first_leaf_lem t (suc line) (subtrees_f f ++ rest) in
        let next : suc line + first_leaf t ≡ line + suc (first_leaf t) = omega arith in
        (r.0, inner_not c (suc line) t f ((subtrees t ++ subtrees_f f) ++ rest) ∙ ap (least_to_fix b (suc (suc line))) (append_assoc (subtrees t) (subtrees_f f) rest) ∙ r.1 ∙ ap (λ (n : ℕ). doubt n r.0) next, r.2)

  -- The verdict on any order.
  pub leaf_verdict : (t : Tree) → verdict b t ≡ record { number = low_unknown; line = first_leaf t }
  unfolding verdict verdict_on is_low when◌then◌else◌
  leaf_verdict t =
      let r = first_leaf_lem t 0 [] in
      let none_more : 0 + first_leaf t ≡ first_leaf t = omega arith in
      let d : least_to_fix b 1 (subtrees t) ≡ doubt (first_leaf t) r.0 = ap (least_to_fix b 1) (sym (append-nil (subtrees t))) ∙ r.1 ∙ ap (λ (n : ℕ). doubt n r.0) none_more in
      let low : leb (depth r.0) (b.k - 2) ≡ true = le-leb (depth r.0) (b.k - 2) (omega (arith, r.2)) in
      rw (d, low)
