-- The forms of three sets of trees at k, and those that are learnt from a set of orders (document 000, sections III and IV). A set is a property of
-- trees; a finite one is that of the members of a list. Assumes nothing: these are definitions.
use Rattle.std.specs.Prelude.{ℕ, ◌-◌}
use Rattle.order.specs.Trees.{Tree}
use Rattle.order.specs.Paper.{IsR, IsL, IsP}

-- One of a set of orders has a property.
pub record OneOf (S : Tree → Type 0) (Q : Tree → Type 0) : Type 0 where
  pub order : Tree
  pub among : S order
  pub has : Q order

-- Three sets let a tree in at k, as one of their forms: "r_{k-1}(t) ∈ R, l_{k-1}(t) ⊆ L, p_k(t) ⊆ P".
pub record LetIn (k : ℕ) (R L P : Tree → Type 0) (t : Tree) : Type 0 where
  pub top : (u : Tree) → IsR (k - 1) t u → R u
  pub lows : (u : Tree) → IsL (k - 1) t u → L u
  pub middles : (u : Tree) → IsP k t u → P u

-- T_k(S): the sets are "r_{k-1}(S), l_{k-1}(S), p_k(S)", the tops, the low parts and the middle parts of the orders of S.
abbrev pub Learnt : ℕ → (Tree → Type 0) → Tree → Type 0
Learnt k S = LetIn k (λ u. OneOf S (λ s. IsR (k - 1) s u)) (λ u. OneOf S (λ s. IsL (k - 1) s u)) (λ u. OneOf S (λ s. IsP k s u))
