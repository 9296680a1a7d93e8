-- Whether the cut of a subtree has the words of a tree, compared line by line: what was gone over is the front of the tree. Assumes nothing.
use Prim.Native.Nat.{ℕ, ◌+◌, ◌-◌, ◌*◌, ◌≤◌, ◌<◌}
use mathlib.Core.Path.{◌≡◌, refl, ap, ap₂, sym, ◌∙◌}
use mathlib.Core.Bool.{true, false}
use mathlib.Core.List.{List, [], ◌∷◌, ◌++◌, append_assoc, append-nil}
use native.Mathlib.Omega.{arith}
use borrow.Author.Tests.{eqb-true, eq-eqb}
use lib.Dec.{leb, eqb}
use lib.ListN.{length, drop, get_or, length-append}
use lib.Seq.{drop_at}
use Rattle.words.specs.Base.{when◌then◌else◌, same_words}
use Rattle.words.proofs.Tests.{same-words, words_same, either, fails}
use Rattle.order.specs.Trees.{node, subtrees}
use Rattle.order.specs.Standing.{cut_of}
use Rattle.order.specs.Levels.{LinesLevelled}
use Rattle.order.specs.Spans.{GoneOver}
use Rattle.order.proofs.Writing.{two}
use Rattle.order.proofs.Walking.{Walking, Stepping, walk_start, walk_done, walk_left, stepping}
use Rattle.order.proofs.LineSpans.{LineOpen}

-- The cut is gone over up to a line, and its words so far are the first ones of the tree, behind which these others are left.
pub record Comparing (os : List ℕ) (line own d end at : ℕ) (tree rest : List ℕ) : Type 0 where
  got : List ℕ
  walking : Walking os line own d end at got
  split : tree ≡ got ++ rest

-- Words that are none.
no_length : (ws : List ℕ) → length ws ≡ 0 → ws ≡ []
no_length [] e = refl
no_length (w ∷ ws) e = absurd (omega arith)

module _ (os : List ℕ) (line own d end at : ℕ) (tree rest : List ℕ) (p : Comparing os line own d end at tree rest) where
  -- Past the last line the tree has the words of the cut just if it has no more.
  pub compared_all : end ≤ at → eqb (length rest) 0 ≡ same_words (cut_of os (line * 2) d) tree
  compared_all h =
      let c : cut_of os (line * 2) d ≡ p.got = walk_done _ _ _ _ _ _ _ p.walking h in
      either _ _
      (λ e. rw (c, p.split, no_length rest (eqb-true (length rest) 0 e), append-nil p.got) (same-words p.got))
      (λ e. eq-eqb (length rest) 0 (omega (arith, length-append p.got rest, ap length p.split, ap length (sym c ∙ words_same _ _ e))))

  -- While a line is left.
  module _ (ss ls : List ℕ) (G : GoneOver os ss) (L : LinesLevelled os ls) (h : at < end) where
    -- What is read there.
    pub step : Stepping os ss ls line own d end at p.got
    step = stepping os ss ls line own d end at p.got G L p.walking h

    -- What is written of its number of children.
    abbrev children : ℕ
    children = when leb d (get_or ls at 0 - own) then 0 else get_or os (at * 2 + 1) 0

    -- A tree with the words of the cut goes on with the line's two words.
    ahead : same_words (cut_of os (line * 2) d) tree ≡ true → (more : List ℕ) × (rest ≡ get_or os (at * 2) 0 ∷ children ∷ more)
    ahead e =
        let l = walk_left _ _ _ _ _ _ _ (step.next _ _ refl refl) in
        let c : p.got ++ rest ≡ p.got ++ (get_or os (at * 2) 0 ∷ children ∷ l.0) =
        sym p.split ∙ sym (words_same _ _ e) ∙ l.1 ∙ append_assoc p.got (get_or os (at * 2) 0 ∷ children ∷ []) l.0 in
        (l.0, sym (drop_at p.got rest (length p.got) refl) ∙ ap (drop (length p.got)) c ∙ drop_at p.got _ (length p.got) refl)

    -- A tree that has not two words more has other words.
    pub ends-early : length rest < 2 → false ≡ same_words (cut_of os (line * 2) d) tree
    ends-early s = sym (fails _ (λ e. omega (arith, ap length (ahead e).1)))

    -- So has one that goes on with another code.
    pub other_code : (get_or os (at * 2) 0 ≡ get_or rest 0 0 → ⊥) → false ≡ same_words (cut_of os (line * 2) d) tree
    other_code x = sym (fails _ (λ e. x (sym (ap (λ (ws : List ℕ). get_or ws 0 0) (ahead e).1))))

    -- And one that goes on with another number of children.
    pub other_children : (v : ℕ) → v ≡ children → (v ≡ get_or rest 1 0 → ⊥) → false ≡ same_words (cut_of os (line * 2) d) tree
    other_children v f x = sym (fails _ (λ e. x (f ∙ sym (ap (λ (ws : List ℕ). get_or ws 1 0) (ahead e).1))))

    -- Where both words are the tree's, two more of its words are gone over.
    pub both_alike : (v at' : ℕ) → 2 ≤ length rest → get_or os (at * 2) 0 ≡ get_or rest 0 0 → v ≡ children → v ≡ get_or rest 1 0
        → at' ≡ (when leb d (get_or ls at 0 - own) then get_or ss (at * 2) 0 else at + 1) → Comparing os line own d end at' tree (drop 2 rest)
    both_alike v at' long c f e g =
        let read : rest ≡ get_or os (at * 2) 0 ∷ v ∷ drop 2 rest = two rest 0 long ∙ ap₂ (λ (x y : ℕ). x ∷ y ∷ drop 2 rest) (sym c) (sym e) in
        record {
          got = p.got ++ (get_or os (at * 2) 0 ∷ v ∷ []);
          walking = step.next v at' f g;
          split = p.split ∙ ap (λ (ws : List ℕ). p.got ++ ws) read ∙ sym (append_assoc p.got (get_or os (at * 2) 0 ∷ v ∷ []) (drop 2 rest));
        }

-- Before the first line nothing is gone over.
pub compare_start : (os : List ℕ) (line d end : ℕ) (tree : List ℕ) (o : LineOpen os line) → end ≡ line + length (subtrees (node o.code o.row))
    → Comparing os line o.level d end line tree tree
compare_start os line d end tree o e = record { got = []; walking = walk_start os line d end o e; split = refl }
