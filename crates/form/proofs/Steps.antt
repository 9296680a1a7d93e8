-- The inner functions of reading, return by return: which level may follow, what the next line is read as, and what becomes of a
-- parent's number of children. Assumes nothing.
use Rattle.std.specs.Prelude.{Err, Ok, Result}
use mathlib.Core.Path.{◌≡◌, refl, ap, sym, subst, ◌∙◌}
use mathlib.Core.Bool.{Bool, true, false}
use mathlib.Core.List.{List}
use Prim.Native.Nat.{ℕ, ◌+◌, ◌≤◌, ◌<◌}
use native.Mathlib.Omega.{arith}
use lib.Dec.{leb, ltb, eqb}
use lib.ListN.{length, get_or, set, length-set}
use borrow.Author.Tests.{lt-leb, le-leb, lt-ltb, le-ltb, eq-eqb, ne_eqb, eqb-true, eqb-false, ltb-true, ltb-false}
use Rattle.form.specs.declared.reading.Node.{Node}
use Rattle.words.specs.Base.{◌and◌, when◌then◌else◌, within}
use Rattle.words.proofs.Tests.{no_test}
use Rattle.figures.specs.Limits.{most_nodes, most_children, greatest_depth}
use Rattle.form.specs.Reading.{spelt_of, by_line}
use Rattle.form.specs.Turns.{follows, next_of, count_place, Parent, may_adopt, adopted, Parents, under_parent, counted_in}
use Rattle.form.specs.declared.reading.Fault.{Fault}
use Rattle.form.specs.declared.reading.Fault.TheVariants.{PastLast, NoOption, LevelNotAllowed, TooDeep, NinthChild}
use Rattle.form.proofs.Faults.{no_node, the_node, within_both}

-- ---- which level may follow

-- On line 1 level 0.
pub follows-first : (greatest level : ℕ) → greatest ≡ 0 → eqb level 0 ≡ follows greatest level
unfolding follows when◌then◌else◌
follows-first greatest level e = rw (eq-eqb greatest 0 e)

-- Later no level below 1.
pub follows-none : (greatest level : ℕ) → (greatest ≡ 0 → ⊥) → level < 1 → false ≡ follows greatest level
unfolding follows when◌then◌else◌ ◌and◌
follows-none greatest level n h = rw (ne_eqb greatest 0 n, lt-leb 1 level h)

-- Otherwise any to the previous plus 1.
pub follows-later : (greatest level : ℕ) → (greatest ≡ 0 → ⊥) → 1 ≤ level → leb level greatest ≡ follows greatest level
unfolding follows when◌then◌else◌ ◌and◌
follows-later greatest level n h = rw (ne_eqb greatest 0 n, le-leb 1 level h)

-- A level that may follow is at most the previous plus 1, and 0 only on line 1.
pub follows-seen : (greatest level : ℕ) → follows greatest level ≡ true → (level ≤ greatest) × (level ≡ 0 → greatest ≡ 0)
unfolding follows when◌then◌else◌
follows-seen greatest level = go (eqb greatest 0) refl
  where
    go : (b : Bool) → eqb greatest 0 ≡ b → (when b then eqb level 0 else within 1 greatest level) ≡ true → (level ≤ greatest) × (level ≡ 0 → greatest ≡ 0)
    go true q e = let z : level ≡ 0 = eqb-true _ _ e in let y : greatest ≡ 0 = eqb-true _ _ q in (omega arith, λ x. y)
    go false q e = let w = within_both 1 greatest level e in (w.1, λ x. absurd (omega arith))

-- ---- the next line, behind n lines

module _ (n greatest : ℕ) (s : List ℕ) where
  -- It is past the last.
  pub next_past : most_nodes ≤ n → Err PastLast ≡ next_of n greatest s
  unfolding next_of when◌then◌else◌
  next_past h = rw (le-leb most_nodes n h)

  -- It is misspelt, as the call that read the spelling answered.
  pub next-misspelt : n < most_nodes → {r : Result Node Fault} {f : Fault} → r ≡ spelt_of s → r ≡ Err f → r ≡ next_of n greatest s
  unfolding next_of by_line when◌then◌else◌
  next-misspelt h {r} {f} e q = let x : spelt_of s ≡ Err f = sym e ∙ q in q ∙ rw (lt-leb most_nodes n h, x) refl

-- It is spelt.
module _ (n greatest : ℕ) (s : List ℕ) {r : Result Node Fault} {l c w : ℕ} (h : n < most_nodes) (e : r ≡ spelt_of s) (q : r ≡ Ok (record { level = l; code = c; size = w })) where
  -- As it is spelt.
  spelt : spelt_of s ≡ Ok (record { level = l; code = c; size = w })
  spelt = sym e ∙ q

  -- The code is 0000.
  pub next-zero : c ≡ 0 → Err NoOption ≡ next_of n greatest s
  unfolding next_of by_line when◌then◌else◌
  next-zero z = rw (lt-leb most_nodes n h, spelt, eq-eqb c 0 z) refl

  -- The level is not allowed.
  pub next_level : (c ≡ 0 → ⊥) → follows greatest l ≡ false → Err LevelNotAllowed ≡ next_of n greatest s
  unfolding next_of by_line when◌then◌else◌
  next_level z f = rw (lt-leb most_nodes n h, spelt, ne_eqb c 0 z, f) refl

  -- The level is over 12.
  pub next-deep : (c ≡ 0 → ⊥) → follows greatest l ≡ true → greatest_depth < l → Err TooDeep ≡ next_of n greatest s
  unfolding next_of by_line when◌then◌else◌
  next-deep z f d = rw (lt-leb most_nodes n h, spelt, ne_eqb c 0 z, f, lt-ltb greatest_depth l d) refl

  -- It has none of these faults.
  pub next-node : (c ≡ 0 → ⊥) → follows greatest l ≡ true → l ≤ greatest_depth → Ok (record { level = l; code = c; size = w }) ≡ next_of n greatest s
  unfolding next_of by_line when◌then◌else◌
  next-node z f d = rw (lt-leb most_nodes n h, spelt, ne_eqb c 0 z, f, le-ltb greatest_depth l d) refl

-- ---- a child more

module _ (words latest : List ℕ) (level : ℕ) where
  -- Line 1 has no parent.
  pub adopt_first : level ≡ 0 → (true ≡ may_adopt words latest level) × (words ≡ adopted words latest level)
  unfolding may_adopt adopted when◌then◌else◌
  adopt_first e = rw (eq-eqb level 0 e) (refl, refl)

  -- The parent has all the children that it may have.
  pub adopt_full : (level ≡ 0 → ⊥) → most_children ≤ get_or words (count_place latest level) 0 → (false ≡ may_adopt words latest level) × (words ≡ adopted words latest level)
  unfolding may_adopt adopted when◌then◌else◌
  adopt_full n h = rw (ne_eqb level 0 n, le-ltb (get_or words (count_place latest level) 0) most_children h) (refl, refl)

  -- The parent's number of children is raised.
  pub adopt_one : (level ≡ 0 → ⊥) → get_or words (count_place latest level) 0 < most_children
      → (true ≡ may_adopt words latest level) × (set words (count_place latest level) (get_or words (count_place latest level) 0 + 1) ≡ adopted words latest level)
  unfolding may_adopt adopted when◌then◌else◌
  adopt_one n h = rw (ne_eqb level 0 n, lt-ltb (get_or words (count_place latest level) 0) most_children h) (refl, refl)

  -- What it says of a parent that it may have no child more.
  pub full_seen : may_adopt words latest level ≡ false → (0 < level) × (most_children ≤ get_or words (count_place latest level) 0)
  unfolding may_adopt when◌then◌else◌
  full_seen = go (eqb level 0) refl
    where
      go : (b : Bool) → eqb level 0 ≡ b → (when b then true else ltb (get_or words (count_place latest level) 0) most_children) ≡ false → (0 < level) × (most_children ≤ get_or words (count_place latest level) 0)
      go true q e = no_test (sym e)
      go false q e = let n : level ≡ 0 → ⊥ = eqb-false _ _ q in (omega arith, ltb-false _ _ e)

  -- What it says of a parent that it may have a child more.
  pub one_seen : may_adopt words latest level ≡ true → 0 < level → get_or words (count_place latest level) 0 < most_children
  unfolding may_adopt when◌then◌else◌
  one_seen e h = ltb-true _ _ (sym (rw (ne_eqb level 0 (λ z. omega arith)) refl) ∙ e)

  -- There are as many words as before.
  pub adopted-length : length (adopted words latest level) ≡ length words
  unfolding adopted when◌then◌else◌
  adopted-length = go (eqb level 0) (ltb (get_or words (count_place latest level) 0) most_children)
    where
      go : (a b : Bool) → length (when a then words else when b then set words (count_place latest level) (get_or words (count_place latest level) 0 + 1) else words) ≡ length words
      go true b = refl
      go false true = simp length-set
      go false false = refl

-- ---- a line under its parent, as the calls that read and counted it answered

module _ (words latest : List ℕ) {x y : Result Node Fault} (e : x ≡ y) where
  -- A refusal is handed on, and nothing is counted.
  pub under-refused : {f : Fault} → x ≡ Err f → (x ≡ under_parent words latest y) × (words ≡ counted_in words latest y)
  unfolding under_parent counted_in
  under-refused {f} q = let z : y ≡ Err f = sym e ∙ q in (q ∙ rw z refl, rw z refl)

  module _ {l c w : ℕ} (q : x ≡ Ok (record { level = l; code = c; size = w })) where
    -- It is a node.
    is-node : y ≡ Ok (record { level = l; code = c; size = w })
    is-node = sym e ∙ q

    -- What counting it asks for.
    pub its_parent : Parents y words latest → Parent words latest l
    its_parent p = subst (λ (r : Result Node Fault). Parents r words latest) is-node p

    -- The parent may have no child more.
    pub under-full : (last : List ℕ) → may_adopt words latest l ≡ false → last ≡ adopted words latest l → (Err NinthChild ≡ under_parent words latest y) × (last ≡ counted_in words latest y)
    unfolding under_parent counted_in when◌then◌else◌
    under-full last m a = rw is-node (rw m refl, a)

    -- The parent may have a child more.
    pub under_one : (last : List ℕ) → may_adopt words latest l ≡ true → last ≡ adopted words latest l → (Ok (record { level = l; code = c; size = w }) ≡ under_parent words latest y) × (last ≡ counted_in words latest y)
    unfolding under_parent counted_in when◌then◌else◌
    under_one last m a = rw is-node (rw m refl, a)

-- ---- and what the answer says

-- Why a line is refused under its parent: it was refused before, or its parent may have no child more.
pub data Unadopted (words latest : List ℕ) (y : Result Node Fault) (f : Fault) : Type 0 where
  handed : y ≡ Err f → Unadopted words latest y f
  full : (l c w : ℕ) → y ≡ Ok (record { level = l; code = c; size = w }) → may_adopt words latest l ≡ false → f ≡ NinthChild → Unadopted words latest y f

-- `Unadopted` holds of a refusal.
pub unadopted_seen : (words latest : List ℕ) (y : Result Node Fault) {f : Fault} → under_parent words latest y ≡ Err f → Unadopted words latest y f
unfolding under_parent when◌then◌else◌
unadopted_seen words latest (Err g) e = handed e
unadopted_seen words latest (Ok node) {f} e = go (may_adopt words latest node.level) refl e
  where
    go : (b : Bool) → may_adopt words latest node.level ≡ b → when◌then◌else◌ {A = Result Node Fault} b (Ok node) (Err NinthChild) ≡ Err f → Unadopted words latest (Ok node) f
    go true q e = no_node (sym e)
    go false q e = full node.level node.code node.size refl q (let z : f ≡ NinthChild = cc in z)

-- A node under its parent was one before, and its parent had room for it.
pub adopted-seen : (words latest : List ℕ) (y : Result Node Fault) {l c w : ℕ} → under_parent words latest y ≡ Ok (record { level = l; code = c; size = w }) → (y ≡ Ok (record { level = l; code = c; size = w })) × (may_adopt words latest l ≡ true)
unfolding under_parent when◌then◌else◌
adopted-seen words latest (Err g) e = no_node e
adopted-seen words latest (Ok node) {l} {c} {w} e = go (may_adopt words latest node.level) refl e
  where
    go : (b : Bool) → may_adopt words latest node.level ≡ b → when◌then◌else◌ {A = Result Node Fault} b (Ok node) (Err NinthChild) ≡ Ok (record { level = l; code = c; size = w }) → ◌≡◌ {A = Result Node Fault} (Ok node) (Ok (record { level = l; code = c; size = w })) × (may_adopt words latest l ≡ true)
    go true q e = (e, ap (may_adopt words latest) (ap (λ (n : Node). n.level) (sym (the_node e))) ∙ q)
    go false q e = no_node e
