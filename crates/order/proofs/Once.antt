-- Membership, and each part once (01, "Parts": "once per teaching however often it occurs in it"). Assumes nothing.
use mathlib.Core.Path.{◌≡◌, refl, ap, sym, ◌∙◌}
use mathlib.Core.Bool.{Bool, true, false, not}
use mathlib.Core.List.Memᴰ
use mathlib.Core.List.Memᴰ.{head as here}
use mathlib.Core.List.Memᴰ.{tail as there}
use mathlib.Core.List.{List, [], ◌∷◌}
use Prim.Native.Nat.{ℕ}
use Rattle.words.specs.Base.{when◌then◌else◌, keep, ◌∈◌}
use Rattle.words.proofs.Tests.{no_test}
use Rattle.order.specs.Trees.{Tree}
use Rattle.order.specs.Parts.{same_tree, each_once, low_parts, middle_parts}
use Rattle.order.proofs.Unique.{same-tree, tree-same}

module _ {A : Type 0} where
  -- The kept members are the members that pass the test.
  pub kept_in : (p : A → Bool) {s : A} (ts : List A) → s ∈ keep p ts → (s ∈ ts) × (p s ≡ true)
  unfolding keep when◌then◌else◌
  kept_in p [] m = absurd (Memᴰ.not-nil m)
  kept_in p {s} (t ∷ ts) m = go (p t) refl m (λ n. let r = kept_in p ts n in (there r.0, r.1))
    where
      go : (b : Bool) → p t ≡ b → s ∈ (when b then t ∷ keep p ts else keep p ts) → (s ∈ keep p ts → (s ∈ t ∷ ts) × (p s ≡ true))
          → (s ∈ t ∷ ts) × (p s ≡ true)
      go true e (here q) later = (here q, ap p q ∙ e)
      go true e (there n) later = later n
      go false e n later = later n

  -- What passes the test is kept.
  pub in_kept : (p : A → Bool) {s : A} {ts : List A} → s ∈ ts → p s ≡ true → s ∈ keep p ts
  unfolding keep when◌then◌else◌
  in_kept p (here {x} e) h = let y : p x ≡ true = cc in rw y (here e)
  in_kept p {s} (there {x} {xs} m) h = go (p x) (in_kept p m h)
    where
      go : (b : Bool) → s ∈ keep p xs → s ∈ (when b then x ∷ keep p xs else keep p xs)
      go true n = there n
      go false n = n

-- Every member of the list with each tree once is one of the list.
pub once_from : {s : Tree} (ts : List Tree) → s ∈ each_once ts → s ∈ ts
unfolding each_once
once_from [] m = m
once_from (t ∷ ts) (here e) = here e
once_from (t ∷ ts) (there m) = there (once_from ts (kept_in _ _ m).0)

-- And every member of the list is one of it.
pub once_to : {s : Tree} {ts : List Tree} → s ∈ ts → s ∈ each_once ts
unfolding each_once
once_to (here e) = here e
once_to {s} (there {x} {xs} m) = go (same_tree x s) refl (once_to m)
  where
    go : (b : Bool) → same_tree x s ≡ b → s ∈ each_once xs → s ∈ each_once (x ∷ xs)
    go true e n = here (sym (tree-same x s e))
    go false e n = there (in_kept _ n (ap not e))

-- No tree stands twice in the list.
unfoldable pub NoRepeats : List Tree → Type 0
NoRepeats [] = Unit {0}
NoRepeats (t ∷ ts) = (t ∈ ts → ⊥) × NoRepeats ts

-- Keeping some of a list without repeats brings none.
kept_no_repeats : (p : Tree → Bool) (ts : List Tree) → NoRepeats ts → NoRepeats (keep p ts)
unfolding keep when◌then◌else◌ NoRepeats
kept_no_repeats p [] h = tt
kept_no_repeats p (t ∷ ts) h = go (p t) (kept_no_repeats p ts h.1)
  where
    go : (b : Bool) → NoRepeats (keep p ts) → NoRepeats (when b then t ∷ keep p ts else keep p ts)
    go true n = (λ m. h.0 (kept_in p ts m).0, n)
    go false n = n

-- Each part stands there once.
once_no_repeats : (ts : List Tree) → NoRepeats (each_once ts)
unfolding each_once NoRepeats
once_no_repeats [] = tt
once_no_repeats (t ∷ ts) = (λ m. no_test (sym (ap not (same-tree t)) ∙ (kept_in _ _ m).1), kept_no_repeats _ _ (once_no_repeats ts))

-- The low parts of an order have no repeats.
pub lows-once : (k : ℕ) (t : Tree) → NoRepeats (low_parts k t)
unfolding low_parts
lows-once k t = once_no_repeats _

-- The middle parts of an order have no repeats.
pub middles-once : (k : ℕ) (t : Tree) → NoRepeats (middle_parts k t)
unfolding middle_parts
middles-once k t = once_no_repeats _
