-- Going down from the first unknown line to the one to fix: what is still to be gone over, and what each turn leaves of it. Assumes nothing.
use Prim.Native.Nat.{ℕ, suc, ◌+◌, ◌-◌, ◌*◌, ◌/◌, ◌≤◌, ◌<◌}
use mathlib.Core.Path.{◌≡◌, refl, ap, sym, subst, ◌∙◌}
use mathlib.Core.Bool.{Bool, true, false}
use mathlib.Core.List.{List, [], ◌∷◌, ◌++◌, append_assoc, append-nil}
use native.Mathlib.Omega.{arith}
use lib.ListN.{length, drop, get_or, length-append}
use lib.Seq.{take-append_seam, drop-append_seam, drop-drop}
use Rattle.words.specs.Base.{when◌then◌else◌, ◌and◌}
use Rattle.figures.specs.Numbers.{done}
use Rattle.order.specs.Trees.{Tree, node, Forest, bare, cons, subtrees, subtrees_f}
use Rattle.order.specs.Reading.{found, by_order, cause_of}
use Rattle.order.specs.Standing.{tree_from}
use Rattle.order.specs.Spans.{GoneOver}
use Rattle.order.proofs.Causes.{Passed, has-tree}
use Rattle.order.proofs.Lines.{next-tree, place-within, line-spot, from_spot}
use Rattle.order.proofs.Spots.{two_words-a_line}
use Rattle.order.proofs.Below.{Follows, follows-row}
use Rattle.order.proofs.LineSpans.{span-is}
use Rattle.book.specs.Book.{Book}
use Rattle.book_judging.specs.Judging.{knows, knows_each, Doubt, no_doubt, doubt, least_to_fix}
use Rattle.book_judging.specs.Seeking.{unknown_line, unknown_within, doubt_line, line_to_fix}
use Rattle.book_judging.proofs.Fixes.{or_doubt, least_known, least-past, least-below}

-- ---- the first unknown line

-- What the first unknown line of some subtrees is, the first of them on this line.
data FirstOf (b : Book) (line : ℕ) (ss : List Tree) (r : ℕ) : Type 0 where
  -- All are known, and it is 0.
  all_known_lem : r ≡ 0 → knows_each b ss ≡ true → FirstOf b line ss r
  -- Behind known ones an unknown one.
  unknown-at : (us : List Tree) (s : Tree) (vs : List Tree) → r ≡ line + length us → ss ≡ us ++ (s ∷ vs) → knows_each b us ≡ true → knows b s ≡ false → FirstOf b line ss r

-- `unknown_line` is it.
first_of : (b : Book) (line : ℕ) (ss : List Tree) → FirstOf b line ss (unknown_line b line ss)
unfolding unknown_line knows_each ◌and◌ when◌then◌else◌
first_of b line [] = all_known_lem refl refl
first_of b line (s ∷ ss) = go (knows b s) refl (first_of b (suc line) ss)
  where
    -- By whether the first is known, and by the others.
    go : (x : Bool) → knows b s ≡ x → FirstOf b (suc line) ss (unknown_line b (suc line) ss) → FirstOf b line (s ∷ ss) (when x then unknown_line b (suc line) ss else line)
    go true k (all_known_lem z e) = all_known_lem z (rw (k, e) refl)
    go true k (unknown-at us u vs z e f g) = unknown-at (s ∷ us) u vs (z ∙ omega arith) (rw e refl) (rw (k, f) refl) g
    go false k h = unknown-at [] s ss (omega arith) refl refl k

-- ---- the turns

-- The line of a doubt, or the line found before it.
unfoldable pub or_line : ℕ → Doubt → ℕ
or_line line no_doubt = line
or_line line (doubt l s) = l

-- A doubt behind another one.
or_line_lem : (line l : ℕ) (s : Tree) (d : Doubt) → or_line line (or_doubt d (doubt l s)) ≡ or_line l d
unfolding or_line
or_line_lem line l s no_doubt = refl
or_line_lem line l s (doubt m u) = refl

-- The lines from `from` up to `to` are those of a row of trees, and the line to fix is the one among them, or the one found before where there is none.
pub record Down (b : Book) (os : List ℕ) (line from to : ℕ) : Type 0 where
  pub tree : Tree
  pub passes : Passed os tree
  pub row : Forest
  pub rest : List Tree
  pub here : drop from (subtrees tree) ≡ subtrees_f row ++ rest
  pub long : to ≡ from + length (subtrees_f row)
  pub within : to ≤ length os / 2
  pub fix : line_to_fix b os ≡ or_line line (least_to_fix b (suc from) (subtrees_f row))

-- At first all lines are to be gone over.
pub down_first : (b : Book) (os : List ℕ) → cause_of os ≡ done → Down b os 0 0 (length os / 2)
unfolding line_to_fix by_order doubt_line or_line subtrees
down_first b os e =
    let x = has-tree os e in
    let t = x.tree in
    let p = x.passes in
    record {
      tree = t;
      passes = p;
      row = cons t bare;
      rest = [];
      here = sym (append-nil (subtrees t ++ []) ∙ append-nil (subtrees t));
      long = omega (arith, two_words-a_line os t p, length-append (subtrees t) []);
      within = omega arith;
      fix = rw p.is (rw (append-nil (subtrees t)) (go (least_to_fix b 1 (subtrees t))));
    }
  where
    -- 0 was found before.
    go : (d : Doubt) → doubt_line d ≡ or_line 0 d
    go no_doubt = refl
    go (doubt l s) = refl

module _ (b : Book) (os : List ℕ) (line from to r : ℕ) (D : Down b os line from to) (is : r ≡ unknown_within b os from to) where
  -- The first unknown line of the row.
  in_row : r ≡ unknown_line b (suc from) (subtrees_f D.row)
  unfolding unknown_within by_order
  in_row =
      let n : to - from ≡ length (subtrees_f D.row) = omega (arith, D.long) in
      is ∙ rw (D.passes.is, D.here, n, take-append_seam (subtrees_f D.row) D.rest) refl

  -- Where none is unknown the line found before is the one to fix.
  pub down_last : r ≡ 0 → line ≡ line_to_fix b os
  unfolding or_line
  down_last z = go (first_of b (suc from) (subtrees_f D.row))
    where
      -- By the first unknown line.
      go : FirstOf b (suc from) (subtrees_f D.row) (unknown_line b (suc from) (subtrees_f D.row)) → line ≡ line_to_fix b os
      go (all_known_lem q e) = sym (D.fix ∙ rw (least_known b (suc from) (subtrees_f D.row) e))
      go (unknown-at us s vs q e f g) = absurd (omega (arith, in_row, q))

  -- A line that is unknown lies among those that are gone over, and the lines below it are to be gone over next, up to the end of its subtree.
  pub record Next : Type 0 where
    pub after : from < r
    pub has : r ≤ to
    pub down : (ss : List ℕ) (end : ℕ) → GoneOver os ss → end ≡ get_or ss ((r - 1) * 2) 0 → Down b os r r end × (end ≤ to)

  -- The first unknown line of the row, with the lines before it, those strictly below it, and those behind these.
  module _ (us : List Tree) (s : Tree) (vs : List Tree) (at : r ≡ suc from + length us) (split : subtrees_f D.row ≡ us ++ (s ∷ vs))
      (F : Follows s vs) where
    -- How many lines these are.
    many : length (subtrees_f D.row) ≡ length us + suc (length (subtrees_f F.row) + length F.rest)
    many =
        let n = ap length split ∙ length-append us (s ∷ vs) in
        let m = ap length F.here ∙ length-append (subtrees_f F.row) F.rest in
        omega (arith, n, m)

    -- The order's lines from it on.
    from_it : drop (from + length us) (subtrees D.tree) ≡ s ∷ (vs ++ D.rest)
    from_it =
        let all : drop from (subtrees D.tree) ≡ us ++ (s ∷ (vs ++ D.rest)) = D.here ∙ ap (λ (l : List Tree). l ++ D.rest) split ∙ append_assoc us (s ∷ vs) D.rest in
        sym (drop-drop (length us) from (subtrees D.tree)) ∙ ap (drop (length us)) all ∙ drop-append_seam us (s ∷ (vs ++ D.rest))

    -- The order's lines behind it.
    behind-it : drop r (subtrees D.tree) ≡ subtrees_f F.row ++ (F.rest ++ D.rest)
    behind-it =
        let r-is : r ≡ from + length us + 1 = omega (arith, at) in
        ap (λ (j : ℕ). drop j (subtrees D.tree)) r-is ∙ sym (drop-drop 1 (from + length us) (subtrees D.tree)) ∙ ap (drop 1) from_it
        ∙ ap (λ (l : List Tree). l ++ D.rest) F.here ∙ append_assoc (subtrees_f F.row) F.rest D.rest

    -- Its subtree ends behind the lines strictly below it.
    ends : (ss : List ℕ) (end : ℕ) → GoneOver os ss → end ≡ get_or ss ((r - 1) * 2) 0 → end ≡ r + length (subtrees_f F.row)
    unfolding subtrees
    ends ss end G e =
        let i : r - 1 ≡ from + length us = omega (arith, at) in
        let t = D.tree in
        let it = next-tree (subtrees t) (from + length us) s (vs ++ D.rest) from_it in
        let few = place-within (subtrees t) (from + length us) s it in
        let q = line-spot os t (from + length us) D.passes few in
        let here : tree_from os ((from + length us) * 2) ≡ found s = from_spot os ((from + length us) * 2) _ q ∙ sym q.is ∙ it in
        let past = (span-is os ss G (from + length us) s (omega (arith, few, two_words-a_line os t D.passes)) here).0 in
        omega (arith, e ∙ ap (λ (j : ℕ). get_or ss (j * 2) 0) i ∙ past, ap (λ (u : Tree). length (subtrees u)) F.is, at)

    -- The one to fix is one strictly below it, or else it.
    fix-it : knows_each b us ≡ true → knows b s ≡ false → line_to_fix b os ≡ or_line r (least_to_fix b (suc r) (subtrees_f F.row))
    fix-it f g =
        D.fix ∙ ap (λ (l : List Tree). or_line line (least_to_fix b (suc from) l)) split ∙ ap (or_line line) (least-past b (suc from) us (s ∷ vs) f)
        ∙ ap (λ (j : ℕ). or_line line (least_to_fix b j (s ∷ vs))) (sym at)
        ∙ ap (or_line line) (below-it s F.is g)
        ∙ or_line_lem line r s (least_to_fix b (suc r) (subtrees_f F.row))
      where
        -- From it on.
        below-it : (u : Tree) → u ≡ node F.code F.row → knows b u ≡ false
            → least_to_fix b r (u ∷ vs) ≡ or_doubt (least_to_fix b (suc r) (subtrees_f F.row)) (doubt r u)
        below-it u e k = rw (F.here, e) (least-below b r F.code F.row F.rest (subst (λ (v : Tree). knows b v ≡ false) e k))

    -- So the lines strictly below it are to be gone over next.
    next : knows_each b us ≡ true → knows b s ≡ false → Next
    next f g = record {
      after = omega (arith, at);
      has = omega (arith, at, many, D.long);
      down = λ ss end G e. (
        record {
          tree = D.tree;
          passes = D.passes;
          row = F.row;
          rest = F.rest ++ D.rest;
          here = behind-it;
          long = ends ss end G e;
          within = omega (arith, ends ss end G e, at, many, D.long, D.within);
          fix = fix-it f g;
        },
        omega (arith, ends ss end G e, at, many, D.long),
      );
    }

  -- A line that is unknown is followed by those below it.
  pub down_next : (r ≡ 0 → ⊥) → Next
  down_next z = go (first_of b (suc from) (subtrees_f D.row))
    where
      -- By the first unknown line.
      go : FirstOf b (suc from) (subtrees_f D.row) (unknown_line b (suc from) (subtrees_f D.row)) → Next
      go (all_known_lem q a) = absurd (z (in_row ∙ q))
      go (unknown-at us s vs q a f g) = next us s vs (in_row ∙ q) a (follows-row D.row us s vs a) f g
