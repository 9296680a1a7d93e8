-- Each turn takes the next tree of the row, whose depth stands before that of the last taken.
use Rattle.std.proofs.Common.{◌≡◌, ℕ, ◌+◌, ◌-◌, ◌<◌, ◌≤◌, List, suc, refl, ap, ◌∙◌, arith, length, take, drop, get_or, length-take, length-drop}
use Rattle.std.proofs.lemmas.Grind.{get_or_default_zero}
use Rattle.std.proofs.lemmas.Iterator.Adapters.{YieldsList-from_rev_slice}
use Rattle.std.proofs.lemmas.Iterator.Consumers.{YieldsList-turn, YieldsList-end}
use Rattle.std.proofs.lemmas.List.{get_or-reverse, length-reverse, length_push}
use Rattle.std.specs.Prelude.{reverse}
use lib.Seq.{get_or-take, get_or-drop}
use Rattle.order.specs.Trees.{depth_f}
use Rattle.order.specs.Reading.{first_trees}
use Rattle.order.proofs.Stacking.{leaves-popped, none-popped, first_popped, one-popped, all-popped}
use Rattle.order_fit.proofs.pop.Goals as goal

pub returns-in_err-many : goal.returns-in_err-many
returns-in_err-many c f b =
    c.from_residual.ensures ∙ none-popped _ _ _ _ _ b _ (omega (arith, c.in_err-many.ensures, c.from.ensures))

pub returns-then-children-run : goal.returns-then-children-run
returns-then-children-run c f b =
    let e : c.in_ok-many.field-0 + 1 ≡ c.args.row.many + 1 - c.args.children = omega (arith, c.in_ok-many.ensures, c.from.ensures) in
    rw e (leaves-popped _ _ _ _ _ b c.args.children _ refl c.if-children-run.true c.requires.2)

pub loop-h-init : goal.loop-h-init
loop-h-init c f b = first_popped _ _ _ _ _ b c.requires.0 (omega (arith, c.in_ok-many.ensures, c.from.ensures, c.requires.2))

-- The words of a stack from word `from` to before word `all`.
abbrev between : ℕ → ℕ → List ℕ → List ℕ
between from all ss = take (all - from) (drop from ss)

long : (ss : List ℕ) (from all : ℕ) → all ≤ length ss → length (reverse (between from all ss)) ≡ all - from
long ss from all low = omega (arith, length-reverse (between from all ss), length-take (all - from) (drop from ss), length-drop from ss)

-- From the last on, they are those before word `all`.
word_back : (ss : List ℕ) (from all i d : ℕ) → all ≤ length ss → i < all - from → get_or (reverse (between from all ss)) i d ≡ get_or ss (all - i - 1) 0
word_back ss from all i d low h =
    let n : length (between from all ss) ≡ all - from = omega (arith, length-take (all - from) (drop from ss), length-drop from ss) in
    let k : length (between from all ss) - 1 - i ≡ all - from - 1 - i = omega arith in
    let j : from + (all - from - 1 - i) ≡ all - i - 1 = omega arith in
    get_or-reverse (between from all ss) i d (omega arith)
    ∙ ap (λ (k : ℕ). get_or (between from all ss) k d) k
    ∙ get_or-take (all - from) (drop from ss) (all - from - 1 - i) d (omega arith)
    ∙ get_or-drop from ss (all - from - 1 - i) d
    ∙ ap (λ (k : ℕ). get_or ss k d) j
    ∙ get_or_default_zero ss (all - i - 1) d (omega arith)

pub loop-h-preserved : goal.loop-h-preserved
loop-h-preserved c f b =
    let l = c.loop-h in
    let ss = c.args.stack.now in
    let all = c.args.row.many in
    let low : all ≤ length ss = c.requires.0 in
    let t = YieldsList-turn (YieldsList-from_rev_slice (between (c.in_ok-many.field-0 + 1) all ss) cc) l.yielded _ l.yielded_by _ _ c.in-Some.h c.in-Some.is c.next.ensures.steps in
    let i : length l.yielded < all - (c.in_ok-many.field-0 + 1) = omega (arith, t.0, long ss (c.in_ok-many.field-0 + 1) all low) in
    let w : c.in-Some.h.now ≡ get_or ss (all - length l.yielded - 1) 0 = t.1 ∙ word_back ss (c.in_ok-many.field-0 + 1) all (length l.yielded) c.in-Some.h.now low i in
    let a : all - (all - length l.yielded) ≡ length l.yielded = omega arith in
    let z : all - (all - length l.yielded - 1) ≡ length l.yielded + 1 = omega arith in
    let d : l.depth ≡ depth_f (first_trees (suc (all - (all - length l.yielded))) f) = rw a (l.invariant f b) in
    c.deeper-depth.ensures ∙ rw (length_push l.yielded c.in-Some.h, w, ← z) (one-popped _ _ _ _ _ b low (all - length l.yielded) _ (omega arith) (omega arith) d)

pub returns : goal.returns
returns c f b =
    let l = c.loop-h in
    let ss = c.args.stack.now in
    let all = c.args.row.many in
    let t = YieldsList-end (YieldsList-from_rev_slice (between (c.in_ok-many.field-0 + 1) all ss) cc) l.yielded _ l.yielded_by _ _ c.in-None.is c.next.ensures.steps in
    let e : c.in_ok-many.field-0 + 1 ≡ all + 1 - c.args.children = omega (arith, c.in_ok-many.ensures, c.from.ensures) in
    let a : all - (all + 1 - c.args.children) ≡ length l.yielded = omega (arith, t.1, long ss (c.in_ok-many.field-0 + 1) all c.requires.0, c.requires.2) in
    rw e (all-popped _ _ _ _ _ b c.args.children _ (all + 1 - c.args.children) _ refl c.requires.2 (omega (arith, c.in_ok-many.ensures, c.from.ensures)) refl (rw a (l.invariant f b)))
