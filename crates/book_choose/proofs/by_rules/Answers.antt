-- `book_choose::by_rules`: at each rule the rules left and what is named so far decide. Assumes nothing.
use Rattle.std.proofs.Common.{ℕ, ◌≡◌, ◌+◌, ◌-◌, ◌<◌, ◌≤◌, Option, Some, None, Result, Err, List, [], ◌∷◌, length, get_or, take, drop, refl, ap, ap₂, sym, ◌∙◌, arith}
use Rattle.std.specs.List.{slice_get}
use Rattle.std.specs.Option.{ok_or}
use Rattle.std.specs.Result.{IsErrAnd}
use lib.ListN.{length-drop}
use lib.Seq.{length-take-le}
use Rattle.figures.specs.Numbers.{no_rules}
use Rattle.figures.specs.Refusals.{number_told}
use Rattle.figures.specs.declared.refusals.Refusal.{Refusal}
use Rattle.figures.specs.declared.refusals.Refusal.TheVariants.{NoRules}
use Rattle.order_check.proofs.Told.{err-is}
use Rattle.book_choosing.specs.Choosing.{unchosen}
use Rattle.book_choosing.specs.Walking.{rule_at_of, chosen_from, chosen_told}
use Rattle.book_choosing.proofs.Turns.{OneThere, rule_found, no_words, too_many-rules, all_left, words-behind, all-looked-at, no_rule, rule-looked_at}
use Rattle.book_choose.proofs.by_rules.Goals as goal

-- What is told where a value is not there.
lacking : {A : Type 0} (r : Result ℕ Refusal) (e : Refusal) (o : Option A) → IsErrAnd r (λ x. x ≡ e) → ◌≡◌ {A = Result A Refusal} (Err e) (ok_or o NoRules) → o ≡ None
    → chosen_told r ≡ unchosen no_rules
lacking {A} r e o is came none =
    let number : number_told {A = A} (Err e) ≡ no_rules = ap number_told came ∙ ap (λ (p : Option A). number_told (ok_or p NoRules)) none in
    ap chosen_told (err-is r e is) ∙ ap unchosen number

-- The first word of a list that has none, and of one that has one.
no-first : (ws : List ℕ) → None ≡ slice_get ws 0 → length ws ≡ 0
no-first [] e = refl
no-first (w ∷ ws) e = absurd cc

some-first : (ws : List ℕ) (n : ℕ) → Some n ≡ slice_get ws 0 → (0 < length ws) × (n ≡ get_or ws 0 0)
some-first [] n e = absurd cc
some-first (w ∷ ws) n e = (omega arith, cc)

-- A rule stands there.
stands : (k : ℕ) (rs : List ℕ) (at end : ℕ) (w : Option ℕ) → w ≡ rule_at_of k rs at → w ≡ Some end → OneThere k rs at end
stands k rs at end w = rule_found k rs at w (Some end)

pub returns-in_err-count : goal.returns-in_err-count
returns-in_err-count c =
    let none = rw c.in_err-count.ensures.ok_part at c.first.ensures.value in
    lacking _ _ _ c.from_residual.ensures.1 c.in_err-count.ensures.value c.in_err-count.ensures.ok_part
    ∙ sym (no_words _ _ _ c.args.lines.now.order.gone_over.sound (no-first _ none))

pub returns-then-count-gt-MOST_RULES : goal.returns-then-count-gt-MOST_RULES
returns-then-count-gt-MOST_RULES c =
    let first = some-first _ _ (rw c.in_ok-count.ensures.ok_part at c.first.ensures.value) in
    sym (too_many-rules _ _ _ c.args.lines.now.order.gone_over.sound (omega (arith, first.1, c.if-count-gt-MOST_RULES.true)))

pub loop-init : goal.loop-init
loop-init c =
    let first = some-first _ _ (rw c.in_ok-count.ensures.ok_part at c.first.ensures.value) in
    let all : get_or c.args.rules.now 0 0 ≡ c.in_ok-count.field-0.now - 0 = omega (arith, first.1) in
    record {
      within = omega (arith, first.0);
      kept = refl;
      left = rw (← all) (all_left _ _ _ c.args.lines.now.order.gone_over.sound first.0 (omega (arith, first.1, c.if-count-gt-MOST_RULES.false)));
    }

pub returns-in_err-end : goal.returns-in_err-end
returns-in_err-end c =
    let none = rule_found _ _ _ _ _ c.rule_at.ensures.came c.in_err-end.ensures.ok_part in
    lacking _ _ _ c.from_residual-in_err-end.ensures.1 c.in_err-end.ensures.value c.in_err-end.ensures.ok_part
    ∙ sym (c.loop.invariant.left ∙ no_rule _ _ _ c.args.lines.now.order.gone_over.sound _ _ _ (omega (arith, c.loop-test.true)) none)

pub bounds-rules-at : goal.bounds-rules-at
bounds-rules-at c = let s = stands _ _ _ _ _ c.rule_at.ensures.came c.in_ok-end.ensures.ok_part in omega (arith, s.some-nodes, s.lies)

pub slice_bounds-tree-count : goal.slice_bounds-tree-count
slice_bounds-tree-count c = let s = stands _ _ _ _ _ c.rule_at.ensures.came c.in_ok-end.ensures.ok_part in omega (arith, s.some-nodes)

pub slice_bounds-tree-start : goal.slice_bounds-tree-start
slice_bounds-tree-start c = let s = stands _ _ _ _ _ c.rule_at.ensures.came c.in_ok-end.ensures.ok_part in omega (arith, s.some-nodes, s.lies)

pub slice_bounds-tree-end : goal.slice_bounds-tree-end
slice_bounds-tree-end c = (stands _ _ _ _ _ c.rule_at.ensures.came c.in_ok-end.ensures.ok_part).lies

pub with_rule-named-requires : goal.with_rule-named-requires
with_rule-named-requires c =
    let s = stands _ _ _ _ _ c.rule_at.ensures.came c.in_ok-end.ensures.ok_part in
    let rest = drop (c.loop.at + 2) c.args.rules.now in
    let left = length-drop (c.loop.at + 2) c.args.rules.now in
    omega (arith, s.some-nodes, length-take-le (c.in_ok-end.end - (c.loop.at + 2)) rest (omega (arith, s.lies, left)))

pub loop-preserved : goal.loop-preserved
loop-preserved c =
    let s = stands _ _ _ _ _ c.rule_at.ensures.came c.in_ok-end.ensures.ok_part in
    let fewer : c.in_ok-count.field-0.now - c.loop.counter - 1 ≡ c.in_ok-count.field-0.now - (c.loop.counter + 1) = omega arith in
    record {
      within = s.lies;
      kept = c.rule_at.ensures.kept ∙ c.loop.invariant.kept;
      left =
          rw (← fewer)
          (c.loop.invariant.left ∙ rule-looked_at _ _ _ c.args.lines.now.order.gone_over.sound _ _ _ (omega (arith, c.loop-test.true)) _ c.requires.0 s _ _ c.of_middles-d.ensures c.with_rule-named.ensures);
    }

pub returns-then-at-rules : goal.returns-then-at-rules
returns-then-at-rules c =
    let a = c.args in
    let none : c.in_ok-count.field-0.now - c.loop.counter ≡ 0 = omega (arith, c.loop-test.false) in
    sym (c.loop.invariant.left
    ∙ ap (λ (n : ℕ). chosen_from a.k.k a.lines.now.order.words.now a.rules.now c.loop.named n c.loop.at) none
    ∙ words-behind _ _ _ a.lines.now.order.gone_over.sound _ _ (omega (arith, c.loop.invariant.within, c.if-at-rules.true)))

pub returns : goal.returns
returns c =
    let a = c.args in
    let none : c.in_ok-count.field-0.now - c.loop.counter ≡ 0 = omega (arith, c.loop-test.false) in
    c.told.ensures
    ∙ sym (c.loop.invariant.left
    ∙ ap₂ (λ (n at : ℕ). chosen_from a.k.k a.lines.now.order.words.now a.rules.now c.loop.named n at) none c.if-at-rules.false
    ∙ all-looked-at _ _ _ a.lines.now.order.gone_over.sound _)
