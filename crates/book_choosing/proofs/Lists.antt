-- Rule lists and their words: what is read from words is a list of sound rules that has these words, and every such list is read from its own.
-- Assumes nothing.
use Rattle.std.specs.Prelude.{Option, None, Some}
use Prim.Native.Nat.{ℕ, zero, suc, ◌*◌, ◌-◌, ◌/◌, ◌≤◌}
use mathlib.Core.Path.{◌≡◌, refl, ap, ap₂, sym, subst, ◌∙◌}
use mathlib.Core.Bool.{Bool, true, false}
use mathlib.Core.List.Memᴰ
use mathlib.Core.List.Memᴰ.{head as here}
use mathlib.Core.List.Memᴰ.{tail as there}
use mathlib.Core.List.{List, [], ◌∷◌, ◌++◌}
use native.Mathlib.Omega.{arith}
use borrow.Author.Tests.{leb-true, le-leb}
use lib.Dec.{leb}
use lib.ListN.{length, take, drop, length-append, take-append-drop}
use lib.Seq.{length-take-le, take-append_seam, drop-append_seam}
use Rattle.words.specs.Base.{when◌then◌else◌, ◌and◌, within, ◌∈◌}
use Rattle.words.proofs.Tests.{by_test, never, and_left, and_right, and_both}
use Rattle.figures.specs.Limits.{most_rules, least_image, greatest_image}
use Rattle.order.proofs.Fitting.{fits-tree, tree-fits, fits-even}
use Rattle.book_choosing.specs.Rules.{ImageRule, sound_rule, rule_before, rules_from, rules_of}
use Rattle.book_choosing.specs.Choices.{rules_words, IsRule, IsRules}

-- ---- one rule

-- A rule that passes the test is sound by trees,
sound-is : (k : ℕ) (r : ImageRule) → sound_rule k r ≡ true → IsRule k r
unfolding sound_rule
sound-is k r e =
    let i = and_left (within least_image greatest_image r.image) _ e in
    record {
      least = leb-true _ _ (and_left _ _ i);
      greatest = leb-true _ _ (and_right _ _ i);
      tree = fits-tree 0 (k - 1) r.tree (and_right _ _ e);
    }

-- and one that is sound by trees passes it.
is-sound : (k : ℕ) (r : ImageRule) → IsRule k r → sound_rule k r ≡ true
unfolding sound_rule
is-sound k r i =
    and_both (and_both (le-leb least_image r.image i.least) (le-leb r.image greatest_image i.greatest)) (tree-fits 0 (k - 1) r.tree i.tree)

-- ---- from words

-- No list is not some list.
no_list : {A : Type 0} {l : List ImageRule} → None ≡ Some l → A
no_list e = never cc

-- A list that begins with a rule: the rule's test has passed, and the others are there.
record Begins (test : Bool) (r : ImageRule) (o : Option (List ImageRule)) (l : List ImageRule) : Type 0 where
  passes : test ≡ true
  others : List ImageRule
  are : o ≡ Some others
  is : l ≡ r ∷ others

-- What is read with a rule first begins with it.
begins : (test : Bool) (r : ImageRule) (o : Option (List ImageRule)) (l : List ImageRule) → rule_before test r o ≡ Some l → Begins test r o l
unfolding rule_before
begins false r o l e = no_list e
begins true r None l e = no_list e
begins true r (Some m) l e = record { passes = refl; others = m; are = refl; is = cc }

-- The words are those of the rules, which are n and sound.
record AreRules (k n : ℕ) (ws : List ℕ) (l : List ImageRule) : Type 0 where
  many : n ≡ length l
  each : (r : ImageRule) → r ∈ l → IsRule k r
  spelt : ws ≡ rules_words l

-- Rules are sound where the first and the others are.
each_more : {k : ℕ} {r : ImageRule} {l : List ImageRule} → IsRule k r → ((s : ImageRule) → s ∈ l → IsRule k s) → (s : ImageRule) → s ∈ r ∷ l → IsRule k s
each_more {k} i f s (here e) = subst (IsRule k) (sym e) i
each_more i f s (there m) = f s m

-- What is read as n rules is n sound rules that have these words.
from_words : (k n : ℕ) (ws : List ℕ) (l : List ImageRule) → rules_from k n ws ≡ Some l → AreRules k n ws l
unfolding rules_from rules_words
from_words k zero [] l e = let z : l ≡ [] = cc in rw z (record { many = refl; each = λ r m. absurd (Memᴰ.not-nil m); spelt = refl })
from_words k zero (w ∷ ws) l e = no_list e
from_words k (suc n) [] l e = no_list e
from_words k (suc n) (image ∷ []) l e = no_list e
from_words k (suc n) (image ∷ nodes ∷ ws) l e =
    let r : ImageRule = record { image = image; tree = take (2 * nodes) ws } in
    let b = begins (leb (2 * nodes) (length ws) and sound_rule k r) r (rules_from k n (drop (2 * nodes) ws)) l e in
    let a = from_words k n (drop (2 * nodes) ws) b.others b.are in
    let room : 2 * nodes ≤ length ws = leb-true _ _ (and_left _ _ b.passes) in
    let half : length (take (2 * nodes) ws) / 2 ≡ nodes = omega (arith, length-take-le (2 * nodes) ws room) in
    rw b.is (record {
      many = ap suc a.many;
      each = each_more (sound-is k r (and_right _ _ b.passes)) a.each;
      spelt = rw (half, ← a.spelt, take-append-drop (2 * nodes) ws);
    })

-- ---- and back

-- Sound rules are read from their words.
to_words : (k : ℕ) (l : List ImageRule) → ((r : ImageRule) → r ∈ l → IsRule k r) → rules_from k (length l) (rules_words l) ≡ Some l
unfolding rules_from rules_words rule_before
to_words k [] each = refl
to_words k (r ∷ l) each =
    let i = each r (here refl) in
    let even : 2 * (length r.tree / 2) ≡ length r.tree = fits-even 0 (k - 1) r.tree (tree-fits 0 (k - 1) r.tree i.tree) in
    let sound : sound_rule k r ≡ true = is-sound k r i in
    let room : leb (length r.tree) (length (r.tree ++ rules_words l)) ≡ true = le-leb (length r.tree) (length (r.tree ++ rules_words l)) (omega (arith, length-append r.tree (rules_words l))) in
    let test : (leb (length r.tree) (length (r.tree ++ rules_words l)) and sound_rule k r) ≡ true = and_both room sound in
    rw (even, take-append_seam r.tree (rules_words l), drop-append_seam r.tree (rules_words l), test, to_words k l (λ s m. each s (there m)))

-- ---- the whole list

-- What is read as a list of rules is one,
pub rules-is : (k : ℕ) (rs : List ℕ) (l : List ImageRule) → rules_of k rs ≡ Some l → IsRules k rs l
unfolding rules_of when◌then◌else◌
rules-is k [] l e = no_list e
rules-is k (n ∷ ws) l e =
    by_test (leb n most_rules)
    (λ h.
    let a = from_words k n ws l (rw h at e) in
    record { few = omega (arith, leb-true n most_rules h, a.many); each = a.each; spelt = ap₂ ◌∷◌ a.many a.spelt })
    (λ h. no_list (rw h at e))

-- a list of rules is read as it,
pub rules-only : (k : ℕ) (rs : List ℕ) (l : List ImageRule) → IsRules k rs l → rules_of k rs ≡ Some l
unfolding rules_of when◌then◌else◌
rules-only k rs l i = ap (rules_of k) i.spelt ∙ rw (le-leb (length l) most_rules i.few) (to_words k l i.each)

-- and what is read as none is none.
pub no_rules-is : (k : ℕ) (rs : List ℕ) → rules_of k rs ≡ None → (l : List ImageRule) → IsRules k rs l → ⊥
no_rules-is k rs e l i = no_list (sym e ∙ rules-only k rs l i)
