-- An entry that is entered once: what the section is then. Assumes nothing.
use Prim.Native.Nat.{ℕ, ◌+◌, ◌*◌, ◌/◌, ◌≤◌}
use mathlib.Core.Path.{◌≡◌, refl}
use mathlib.Core.Bool.{Bool, true, false}
use mathlib.Core.List.{List}
use native.Mathlib.Omega.{arith}
use lib.ListN.{length}
use Rattle.words.specs.Base.{when◌then◌else◌, same_words}
use Rattle.words.proofs.Tests.{words_same, by_test}
use Rattle.section.specs.Entries.{Entry, section_words, Even, has, Sorted, add, add_once}
use Rattle.section.proofs.Counts.{has-add}
use Rattle.section.proofs.Sizes.{size-add, even_add}
use Rattle.section.proofs.Sorting.{sorted-add}

module _ (e : Entry) (es : List Entry) where
  -- An entry whose key has one is not entered.
  pub once_has : has e.key es ≡ true → add_once e es ≡ es
  unfolding add_once when◌then◌else◌
  once_has h = rw h

  -- An entry whose key has none is entered.
  pub once_lacks : has e.key es ≡ false → add_once e es ≡ add e.count e.key es
  unfolding add_once when◌then◌else◌
  once_lacks h = rw h

  -- With an entry once more a section is still sorted.
  pub sorted-add_once : 1 ≤ e.count → Sorted es → Sorted (add_once e es)
  sorted-add_once p s = by_test (has e.key es) (λ h. rw (once_has h) s) (λ h. rw (once_lacks h) (sorted-add e.count e.key es p s))

  -- Two words a node are kept.
  pub even_once : 2 * (length e.key / 2) ≡ length e.key → Even es → Even (add_once e es)
  even_once k h = by_test (has e.key es) (λ t. rw (once_has t) h) (λ t. rw (once_lacks t) (even_add e.count e.key es k h))

  -- At most the entry's words are added.
  pub size-once : Sorted es → length (section_words (add_once e es)) ≤ length (section_words es) + (2 + length e.key)
  unfolding when◌then◌else◌
  size-once s =
      by_test (has e.key es)
      (λ t. rw (once_has t) (omega arith))
      (λ t. rw (once_lacks t) (omega (arith, rw t at (size-add e.count e.key es s))))

-- With an entry once more a section has its key, and those it had.
pub has-once : (e : Entry) (es : List Entry) (z : List ℕ) → has z (add_once e es) ≡ (when same_words e.key z then true else has z es)
unfolding when◌then◌else◌
has-once e es z = go (has e.key es) refl (same_words e.key z) refl
  where
    go : (b : Bool) → has e.key es ≡ b → (c : Bool) → same_words e.key z ≡ c → has z (add_once e es) ≡ (when same_words e.key z then true else has z es)
    go true h true t = rw (once_has e es h, t, ← words_same e.key z t) h
    go true h false t = rw (once_has e es h, t)
    go false h c t = rw (once_lacks e es h) (has-add e.count e.key z es)
