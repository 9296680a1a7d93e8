-- The line to fix among some subtrees: none where all are known, and some where one is not; and below an unknown line it is one strictly below it, or
-- that line itself. Assumes nothing.
use Prim.Native.Nat.{ℕ, zero, suc, ◌+◌, ◌≤◌, ◌<◌}
use mathlib.Core.Path.{◌≡◌, refl, ap, sym, subst, ◌∙◌}
use mathlib.Core.Bool.{Bool, true, false}
use mathlib.Core.List.{List, [], ◌∷◌, ◌++◌}
use native.Mathlib.Omega.{arith}
use lib.ListN.{length}
use Rattle.words.specs.Base.{when◌then◌else◌, ◌and◌}
use Rattle.words.proofs.Tests.{no_test, never}
use Rattle.order.specs.Trees.{Tree, node, Forest, bare, cons, subtrees, subtrees_f, below}
use Rattle.order.specs.Reading.{found}
use Rattle.order.specs.Answers.{tree_at}
use Rattle.order.proofs.Reading.{not_found}
use Rattle.order.proofs.Lines.{place-within}
use Rattle.book.specs.Book.{Book}
use Rattle.book_judging.specs.Judging.{knows, knows_each, to_fix, Doubt, no_doubt, doubt, least_to_fix}
use Rattle.book_judging.specs.Seeking.{doubt_line}

-- The first of two doubts, if there is one, and otherwise the second.
abbrev pub or_doubt : Doubt → Doubt → Doubt
or_doubt no_doubt d = d
or_doubt (doubt line s) d = doubt line s

-- There is a doubt.
pub data Some (d : Doubt) : Type 0 where
  some : (line : ℕ) (s : Tree) → d ≡ doubt line s → Some d

-- Where there is one, it is not none.
pub no_some : {d : Doubt} → Some d → d ≡ no_doubt → ⊥
no_some (some line s p) e = never cc

-- A doubt that there is stands for both.
or_some : {d : Doubt} (e : Doubt) → Some d → or_doubt d e ≡ d
or_some e (some line s p) = rw p

module _ (b : Book) where
  -- All of two runs are known exactly if all of each are.
  each_both : (us vs : List Tree) → knows_each b (us ++ vs) ≡ (knows_each b us and knows_each b vs)
  unfolding knows_each ◌and◌
  each_both [] vs = refl
  each_both (u ∷ us) vs = go (knows b u) (each_both us vs)
    where
      -- By whether the first is known.
      go : (x : Bool) → knows_each b (us ++ vs) ≡ (knows_each b us and knows_each b vs) → (x and knows_each b (us ++ vs)) ≡ ((x and knows_each b us) and knows_each b vs)
      go true h = h
      go false h = refl

  -- A known line is none to fix.
  pub known-not : (s : Tree) → knows b s ≡ true → to_fix b s ≡ false
  unfolding to_fix when◌then◌else◌
  known-not s e = rw e

  -- An unknown line is one to fix exactly if all below it are known.
  pub unknown-fix : (s : Tree) → knows b s ≡ false → to_fix b s ≡ knows_each b (below s)
  unfolding to_fix when◌then◌else◌
  unknown-fix s e = rw e

  -- Of two runs the first line to fix is that of the first, or else of the second.
  least-both : (line : ℕ) (us vs : List Tree) → least_to_fix b line (us ++ vs) ≡ or_doubt (least_to_fix b line us) (least_to_fix b (line + length us) vs)
  unfolding least_to_fix when◌then◌else◌
  least-both line [] vs = ap (λ (n : ℕ). least_to_fix b n vs) (omega arith)
  least-both line (u ∷ us) vs = go (to_fix b u) (least-both (suc line) us vs)
    where
      -- The line of the second run.
      next : suc line + length us ≡ line + suc (length us)
      next = omega arith

      -- By whether the first is to be fixed.
      go : (x : Bool) → least_to_fix b (suc line) (us ++ vs) ≡ or_doubt (least_to_fix b (suc line) us) (least_to_fix b (suc line + length us) vs)
          → (when x then doubt line u else least_to_fix b (suc line) (us ++ vs)) ≡ or_doubt (when x then doubt line u else least_to_fix b (suc line) us) (least_to_fix b (line + suc (length us)) vs)
      go true h = refl
      go false h = h ∙ ap (λ (n : ℕ). or_doubt (least_to_fix b (suc line) us) (least_to_fix b n vs)) next

  -- Among known lines there is none to fix.
  pub least_known : (line : ℕ) (ss : List Tree) → knows_each b ss ≡ true → least_to_fix b line ss ≡ no_doubt
  unfolding least_to_fix knows_each ◌and◌ when◌then◌else◌
  least_known line [] e = refl
  least_known line (s ∷ ss) e = go (knows b s) refl e (λ h. least_known (suc line) ss h)
    where
      -- By whether the first is known.
      go : (x : Bool) → knows b s ≡ x → (x and knows_each b ss) ≡ true → (knows_each b ss ≡ true → least_to_fix b (suc line) ss ≡ no_doubt) → least_to_fix b line (s ∷ ss) ≡ no_doubt
      go true k h later = rw (known-not s k) (later h)
      go false k h later = no_test h

  -- Where some line of a tree is unknown, there is one to fix.
  mutual
    unfolding subtrees least_to_fix knows_each below ◌and◌ when◌then◌else◌

    pub some-tree : (t : Tree) (line : ℕ) → knows_each b (subtrees t) ≡ false → Some (least_to_fix b line (subtrees t))
    some-tree (node c f) line e = go (knows b (node c f)) refl (knows_each b (subtrees_f f)) refl (λ l. some-row f (suc line) l)
      where
        -- By whether the line itself, and all below it, are known.
        go : (x : Bool) → knows b (node c f) ≡ x → (y : Bool) → knows_each b (subtrees_f f) ≡ y → (knows_each b (subtrees_f f) ≡ false → Some (least_to_fix b (suc line) (subtrees_f f))) → Some (least_to_fix b line (node c f ∷ subtrees_f f))
        go true k true l later = let z : true ≡ false = rw (k, l) at e in no_test (sym z)
        go true k false l later = rw (known-not (node c f) k) (later l)
        go false k true l later = rw (unknown-fix (node c f) k, l) (some line (node c f) refl)
        go false k false l later = rw (unknown-fix (node c f) k, l) (later l)

    some-row : (f : Forest) (line : ℕ) → knows_each b (subtrees_f f) ≡ false → Some (least_to_fix b line (subtrees_f f))
    some-row bare line e = no_test (sym e)
    some-row (cons t f) line e = go (knows_each b (subtrees t)) refl (λ k. some-tree t line k) (λ l. some-row f (line + length (subtrees t)) l)
      where
        -- By whether all of the first tree is known.
        go : (x : Bool) → knows_each b (subtrees t) ≡ x → (knows_each b (subtrees t) ≡ false → Some (least_to_fix b line (subtrees t)))
            → (knows_each b (subtrees_f f) ≡ false → Some (least_to_fix b (line + length (subtrees t)) (subtrees_f f))) → Some (least_to_fix b line (subtrees t ++ subtrees_f f))
        go true k first later =
            let l : knows_each b (subtrees_f f) ≡ false = rw k at (sym (each_both (subtrees t) (subtrees_f f)) ∙ e) in
            rw (least-both line (subtrees t) (subtrees_f f), least_known line (subtrees t) k) (later l)
        go false k first later =
            let s = first k in
            subst Some (sym (least-both line (subtrees t) (subtrees_f f) ∙ or_some _ s)) s

  -- Past known lines the others decide.
  pub least-past : (line : ℕ) (us vs : List Tree) → knows_each b us ≡ true → least_to_fix b line (us ++ vs) ≡ least_to_fix b (line + length us) vs
  least-past line us vs e = least-both line us vs ∙ rw (least_known line us e)

  -- From an unknown line on, the one to fix is one strictly below it, or else that line itself, whatever follows.
  pub least-below : (line c : ℕ) (f : Forest) (rest : List Tree) → knows b (node c f) ≡ false
      → least_to_fix b line (node c f ∷ (subtrees_f f ++ rest)) ≡ or_doubt (least_to_fix b (suc line) (subtrees_f f)) (doubt line (node c f))
  unfolding least_to_fix below when◌then◌else◌
  least-below line c f rest k = go (knows_each b (subtrees_f f)) refl
    where
      -- By whether all strictly below it are known.
      go : (y : Bool) → knows_each b (subtrees_f f) ≡ y
          → (when to_fix b (node c f) then doubt line (node c f) else least_to_fix b (suc line) (subtrees_f f ++ rest)) ≡ or_doubt (least_to_fix b (suc line) (subtrees_f f)) (doubt line (node c f))
      go true l = rw (unknown-fix (node c f) k, l, least_known (suc line) (subtrees_f f) l) refl
      go false l =
          let s = some-row f (suc line) l in
          rw (unknown-fix (node c f) k, l) (least-both (suc line) (subtrees_f f) rest ∙ or_some _ s ∙ sym (or_some _ s))

  -- What the least line to fix of some subtrees is, the first of them on line i + 1.
  pub data LeastIs (i : ℕ) (ss : List Tree) (d : Doubt) : Type 0 where
    -- None is to be fixed.
    none-least : d ≡ no_doubt → ((j : ℕ) (s : Tree) → tree_at ss j ≡ found s → to_fix b s ≡ false) → LeastIs i ss d
    -- That of the subtree at place j.
    is-least : (j : ℕ) (s : Tree) → d ≡ doubt (suc (i + j)) s → tree_at ss j ≡ found s → to_fix b s ≡ true
        → ((m : ℕ) (u : Tree) → m < j → tree_at ss m ≡ found u → to_fix b u ≡ false) → LeastIs i ss d

  -- `least_to_fix` is it.
  pub least-is : (i : ℕ) (ss : List Tree) → LeastIs i ss (least_to_fix b (suc i) ss)
  unfolding least_to_fix tree_at when◌then◌else◌
  least-is i [] = none-least refl (λ j s e. not_found e)
  least-is i (s ∷ ss) = go (to_fix b s) refl (least-is (suc i) ss)
    where
      -- The first is none to fix.
      here-not : to_fix b s ≡ false → (u : Tree) → found s ≡ found u → to_fix b u ≡ false
      here-not e u f = let z : s ≡ u = cc in subst (λ (x : Tree). to_fix b x ≡ false) z e

      -- By whether the first is to be fixed, and by the others.
      go : (x : Bool) → to_fix b s ≡ x → LeastIs (suc i) ss (least_to_fix b (suc (suc i)) ss)
          → LeastIs i (s ∷ ss) (when x then doubt (suc i) s else least_to_fix b (suc (suc i)) ss)
      go true e r = is-least zero s (ap (λ (n : ℕ). doubt n s) (omega arith)) refl e (λ m u l q. absurd (omega arith))
      go false e (none-least a f) = none-least a (each f)
        where
          -- So none is.
          each : ((j : ℕ) (u : Tree) → tree_at ss j ≡ found u → to_fix b u ≡ false) → (j : ℕ) (u : Tree) → tree_at (s ∷ ss) j ≡ found u → to_fix b u ≡ false
          each f zero u q = here-not e u q
          each f (suc j) u q = f j u q
      go false e (is-least j u a at n f) = is-least (suc j) u (a ∙ ap (λ (n : ℕ). doubt n u) (omega arith)) at n (each f)
        where
          -- So none before it is.
          each : ((m : ℕ) (x : Tree) → m < j → tree_at ss m ≡ found x → to_fix b x ≡ false) → (m : ℕ) (x : Tree) → m < suc j → tree_at (s ∷ ss) m ≡ found x → to_fix b x ≡ false
          each f zero x l q = here-not e x q
          each f (suc m) x l q = f m x (omega arith) q

  -- The line of a doubt about subtrees is one of theirs, or 0 where there is none.
  pub doubt-within : (i : ℕ) (ss : List Tree) → doubt_line (least_to_fix b (suc i) ss) ≤ i + length ss
  unfolding doubt_line
  doubt-within i ss = go (least-is i ss)
    where
      -- By where it is.
      go : LeastIs i ss (least_to_fix b (suc i) ss) → doubt_line (least_to_fix b (suc i) ss) ≤ i + length ss
      go (none-least e f) = omega (arith, ap doubt_line e)
      go (is-least j s e at n f) = omega (arith, ap doubt_line e, place-within ss j s at)
