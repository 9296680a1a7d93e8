-- The number of an order is given exactly by the rows of 01's table, as specs/Causes.antt states them: each number has its cause, and
-- words with a cause have its number; so an order passes, or its number refuses it. Assumes nothing.
use Prim.Native.Nat.{ℕ, suc, ◌%◌, ◌≤◌}
use mathlib.Core.Path.{◌≡◌, refl, ap, sym, subst, ◌∙◌}
use mathlib.Core.Bool.{Bool, true, false}
use mathlib.Core.List.{List}
use native.Mathlib.Decide.{dec_lt}
use native.Mathlib.Omega.{arith}
use borrow.Author.Tests.{eqb-true, eqb-false, ltb-true, ltb-false, leb-true, leb-false}
use lib.Dec.{leb, ltb, eqb}
use lib.ListN.{length}
use Rattle.words.proofs.Tests.{by_test, never}
use Rattle.figures.specs.Limits.{most_nodes, most_words, greatest_depth}
use Rattle.figures.specs.Numbers.{done, no_order, too_large}
use Rattle.order.specs.Trees.{Tree, words, depth, Good, subtrees}
use Rattle.order.specs.Reading.{TreeFound, missing, found, tree_of, Order, refused, order, by_order, order_of, cause_of}
use Rattle.order.specs.Causes.{Cause, empty, odd, long, no_tree, deep, none}
use Rattle.order.proofs.Reading.{not_found}
use Rattle.order.proofs.Orders.{FoundDeep, size, words-read, read-words, cause_empty, cause_odd, cause_long, cause_missing, cause_deep, cause_none, tree-sized, tree-passes}

-- The words of a good tree are read as that tree.
tree-found : (s : List ℕ) (t : Tree) → Good t → s ≡ words t → FoundDeep (tree_of s) (depth t)
tree-found s t g e = record { tree = t; is = ap tree_of e ∙ words-read t g; deep = refl }

-- Words that are those of no good tree are read as none.
tree-missing : (s : List ℕ) → ((t : Tree) → Good t → s ≡ words t → ⊥) → tree_of s ≡ missing
tree-missing s h = go (tree_of s) refl
  where
    go : (x : TreeFound) → tree_of s ≡ x → tree_of s ≡ missing
    go missing e = e
    go (found t) e = let r = read-words s t e in absurd (h t r.1 r.0)

-- Words that are no tree: none at all, or some.
no_tree-cause : (s : List ℕ) → length s % 2 ≡ 0 → length s ≤ most_words → tree_of s ≡ missing → cause_of s ≡ no_order
no_tree-cause s v l m =
    by_test (eqb (length s) 0)
    (λ e. cause_empty s (eqb-true _ _ e))
    (λ e. cause_missing s (record { some = eqb-false _ _ e; even = λ h. omega arith; short = l }) m)

-- Words with a cause have its number.
pub cause_only : (s : List ℕ) (n : ℕ) → Cause s n → cause_of s ≡ n
cause_only s n (empty e h) = cause_empty s h ∙ sym e
cause_only s n (odd e h) = cause_odd s (λ z. omega arith) h ∙ sym e
cause_only s n (long e v h) = cause_long s (λ z. omega arith) (λ z. omega arith) h ∙ sym e
cause_only s n (no_tree e v l h) = no_tree-cause s v l (tree-missing s h) ∙ sym e
cause_only s n (deep e l t g w h) = cause_deep s (tree-sized s t w l) (depth t) (tree-found s t g w) h ∙ sym e
cause_only s n (none e l t g w h) = cause_none s (tree-sized s t w l) (depth t) (tree-found s t g w) h ∙ sym e

-- A cause is 0, 1 or 2.
pub cause_small : (s : List ℕ) (n : ℕ) → Cause s n → n ≤ too_large
cause_small s n (empty e h) = omega arith
cause_small s n (odd e h) = omega arith
cause_small s n (long e v h) = omega arith
cause_small s n (no_tree e v l h) = omega arith
cause_small s n (deep e l t g w h) = omega arith
cause_small s n (none e l t g w h) = omega arith

-- A good tree's words have one of the last two causes.
by_depth : (s : List ℕ) (t : Tree) → length s ≤ most_words → Good t → s ≡ words t → Cause s (cause_of s)
by_depth s t l g w =
    by_test (leb (depth t) greatest_depth)
    (λ e. let h = leb-true _ _ e in none (cause_only s done (none refl l t g w h)) l t g w h)
    (λ e. let h = leb-false _ _ e in deep (cause_only s too_large (deep refl l t g w h)) l t g w h)

-- An even number of words that are not too many are those of a good tree, or of none.
by_tree : (s : List ℕ) (x : TreeFound) → tree_of s ≡ x → length s % 2 ≡ 0 → length s ≤ most_words → Cause s (cause_of s)
by_tree s (found t) e v l = let r = read-words s t e in by_depth s t l r.1 r.0
by_tree s missing e v l = no_tree (no_tree-cause s v l e) v l (λ t g w. not_found (sym e ∙ ap tree_of w ∙ words-read t g))

-- A number that is not odd is even.
even : (n : ℕ) → (n % 2 ≡ 1 → ⊥) → n % 2 ≡ 0
even n h = elim (dec_lt (n % 2) 1) [ yes l ↦ omega arith | no l ↦ absurd (h (omega arith)) ]

-- Each number has its cause.
pub cause_is : (s : List ℕ) → Cause s (cause_of s)
cause_is s = by_odd (eqb (length s % 2) 1) refl
  where
    by_long : (b : Bool) → ltb most_words (length s) ≡ b → length s % 2 ≡ 0 → Cause s (cause_of s)
    by_long true e v = let h = ltb-true _ _ e in long (cause_only s too_large (long refl v h)) v h
    by_long false e v = by_tree s (tree_of s) refl v (ltb-false _ _ e)

    by_odd : (b : Bool) → eqb (length s % 2) 1 ≡ b → Cause s (cause_of s)
    by_odd true e = let h = eqb-true _ _ e in odd (cause_only s no_order (odd refl h)) h
    by_odd false e = by_long (ltb most_words (length s)) refl (even (length s) (eqb-false _ _ e))

-- ---- an order that passes, and one that does not

-- What is known of the tree of an order that passes.
pub record Passed (s : List ℕ) (t : Tree) : Type 0 where
  pub is : order_of s ≡ order t
  pub spelt : s ≡ words t
  pub good : Good t
  pub nodes : length (subtrees t) ≤ most_nodes
  pub deep : depth t ≤ greatest_depth

-- Either the number is not 0, and refuses the order, or the order is a tree within the limits.
pub data Seen (s : List ℕ) : Type 0 where
  stopped : (cause_of s ≡ done → ⊥) → order_of s ≡ refused (cause_of s) → Seen s
  passed : (t : Tree) → cause_of s ≡ done → Passed s t → Seen s

-- A number that is not 0 refuses the order.
pub refused-by : (s : List ℕ) → (cause_of s ≡ done → ⊥) → order_of s ≡ refused (cause_of s)
unfolding cause_of by_order
refused-by s h = go (order_of s) refl
  where
    go : (o : Order) → order_of s ≡ o → order_of s ≡ refused (by_order (order_of s) (λ n. n) (λ t. done))
    go (refused n) e = rw e refl
    go (order t) e = absurd (h (rw e refl))

-- What goes by an order refuses by the number of its cause, if that is not 0.
pub cause_refuses : {A : Type 0} (s : List ℕ) (n : ℕ) → Cause s n → (n ≡ done → ⊥) → (f : ℕ → A) (g : Tree → A) → by_order (order_of s) f g ≡ f n
unfolding by_order
cause_refuses s n c h f g = let q : cause_of s ≡ n = cause_only s n c in rw (refused-by s (λ z. h (sym q ∙ z))) (ap f q)

-- Any words are one or the other, by their cause.
pub seen : (s : List ℕ) → Seen s
seen s = go (cause_is s)
  where
    stop : (n : ℕ) → cause_of s ≡ suc n → Seen s
    stop n e = let h : cause_of s ≡ done → ⊥ = λ z. omega arith in stopped h (refused-by s h)

    go : Cause s (cause_of s) → Seen s
    go (empty e h) = stop 0 e
    go (odd e h) = stop 0 e
    go (long e v h) = stop 1 e
    go (no_tree e v l h) = stop 0 e
    go (deep e l t g w h) = stop 1 e
    go (none e l t g w h) =
        let n : length (subtrees t) ≤ most_nodes = omega (arith, size t, ap length w) in
        passed t e (record { is = ap order_of w ∙ tree-passes t g n h; spelt = w; good = g; nodes = n; deep = h })

-- Words that are the order of a tree pass as that tree.
pub order-passed : (ws : List ℕ) (t : Tree) → order_of ws ≡ order t → Passed ws t
order-passed ws t e = go (seen ws)
  where
    go : Seen ws → Passed ws t
    go (stopped h r) = never cc
    go (passed u h p) = let z : u ≡ t = cc p.is in subst (Passed ws) z p

-- The tree of an order whose cause is 0.
pub record HasTree (s : List ℕ) : Type 0 where
  pub tree : Tree
  pub passes : Passed s tree

-- An order whose cause is 0 has a tree.
pub has-tree : (s : List ℕ) → cause_of s ≡ done → HasTree s
has-tree s e = go (seen s)
  where
    go : Seen s → HasTree s
    go (stopped h r) = absurd (h e)
    go (passed t h p) = record { tree = t; passes = p }

-- What holds of every refusal and of what follows an order holds of what follows any words.
pub by_order_lem : {A : Type 0} (P : A → Type 0) (os : List ℕ) (r : ℕ → A) (f : Tree → A) → ((n : ℕ) → P (r n))
    → ((t : Tree) → Passed os t → P (f t)) → P (by_order (order_of os) r f)
unfolding by_order
by_order_lem P os r f p q = go (seen os)
  where
    -- By whether the words are an order.
    go : Seen os → P (by_order (order_of os) r f)
    go (stopped h e) = rw e (p _)
    go (passed t h o) = rw o.is (q t o)
