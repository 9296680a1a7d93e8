-- `book_rules::rule_at`: each return tells what stands at the word. Assumes nothing.
use Rattle.std.proofs.Common.{ℕ, ◌≡◌, ◌+◌, ◌*◌, ◌-◌, ◌/◌, ◌≤◌, ◌<◌, Some, List, take, drop, length, get_or, ap, sym, ◌∙◌, arith}
use Rattle.std.specs.List.{slice_range}
use Rattle.std.proofs.lemmas.List.{take_rest, length-drop, get_or-drop}
use native.Mathlib.Nat.{add-zero}
use lib.Seq.{drop-drop}
use Rattle.figures.specs.Limits.{least_image, greatest_image}
use Rattle.order.specs.Fits.{fits_of}
use Rattle.book_choosing.specs.Rules.{sound_rule}
use Rattle.book_choosing.specs.Walking.{rule_past, rule_within}
use Rattle.book_choosing.proofs.Turns.{told-short, told-cut_off, told-fault, told-rule, image-fault, image-sound}
use Rattle.book_rules.proofs.rule_at.Goals as goal

module _ (ws : List ℕ) (at : ℕ) where
  -- The words from a place on, and those behind the first two.
  abbrev rest : List ℕ
  rest = take (length ws - at) (drop at ws)

  abbrev behind : List ℕ
  behind = take (length rest - 2) (drop 2 rest)

  -- The first word there is the one at the place.
  first : get_or rest 0 0 ≡ get_or ws at 0
  first = rw (take_rest, get_or-drop, add-zero)

  -- The second is the next.
  second : get_or rest 1 0 ≡ get_or ws (at + 1) 0
  second = rw (take_rest, get_or-drop)

  -- As many words are there as are left.
  rest-size : length rest ≡ length ws - at
  rest-size = ap length (take_rest ws at) ∙ length-drop at ws

  -- Those behind two words are those two places on.
  behind-is : behind ≡ drop (at + 2) ws
  behind-is = take_rest rest 2 ∙ ap (drop 2) (take_rest ws at) ∙ drop-drop 2 at ws

  behind-size : length behind ≡ length ws - (at + 2)
  behind-size = ap length behind-is ∙ length-drop (at + 2) ws

  -- Where the rule's tree ends.
  past : (nodes : ℕ) → nodes ≡ get_or rest 1 0 → at + 2 + 2 * nodes ≡ rule_past ws at
  past nodes e = rw (e, second)

  -- The words behind, as many as the rule's nodes say, are its tree.
  tree : (nodes : ℕ) (t : List ℕ) → nodes ≡ get_or rest 1 0 → t ≡ slice_range behind 0 (2 * nodes) → t ≡ (rule_within ws at (rule_past ws at)).tree
  tree nodes t e is =
      let size : 2 * nodes - 0 ≡ rule_past ws at - (at + 2) = omega (arith, past nodes e) in
      is ∙ ap (λ (n : ℕ). take n behind) size ∙ ap (take (rule_past ws at - (at + 2))) behind-is

  module _ (nodes : ℕ) (counted : nodes ≡ get_or rest 1 0) (two : 2 ≤ length rest) where
    -- The two words are in the list.
    there : at + 2 ≤ length ws
    there = omega (arith, two, rest-size)

    -- Where the list ends before the tree.
    short : length behind < 2 * nodes → (length ws - (at + 2)) / 2 < get_or ws (at + 1) 0
    short h = omega (arith, counted, second, behind-size)

    module _ (t : List ℕ) (lies : 2 * nodes ≤ length behind) (is : t ≡ slice_range behind 0 (2 * nodes)) where
      -- The tree ends within the list.
      whole : rule_past ws at ≤ length ws
      whole = omega (arith, lies, there, past nodes counted, behind-size)

      -- It decides whether the rule is sound, if its image is one.
      sound : (k : ℕ) → least_image ≤ get_or rest 0 0 → get_or rest 0 0 ≤ greatest_image → sound_rule k (rule_within ws at (rule_past ws at)) ≡ fits_of 0 (k - 1) t
      sound k l g =
          image-sound k (rule_within ws at (rule_past ws at)) (omega (arith, first, l)) (omega (arith, first, g)) ∙ ap (fits_of 0 (k - 1)) (sym (tree nodes t counted is))

pub returns-in_default-clause-came : goal.returns-in_default-clause-came
returns-in_default-clause-came c = told-short _ _ _ (omega (arith, rest-size c.args.rules.now c.args.at, c.in_default.len_below))

pub returns-in_err-tree-clause-came : goal.returns-in_err-tree-clause-came
returns-in_err-tree-clause-came c =
    let a = c.args in
    let l = c.in_err-tree.ensures.lookup in
    let two = c.in-len2-up.len_at_least in
    c.from_residual.ensures
    ∙ told-cut_off _ _ _ (there a.rules.now a.at _ c.from-size.ensures two) (short a.rules.now a.at _ c.from-size.ensures two (omega arith))

pub returns-then-image-lt-LEAST_IMAGE-clause-came :
    goal.returns-then-image-lt-LEAST_IMAGE-clause-came
returns-then-image-lt-LEAST_IMAGE-clause-came c =
    let a = c.args in
    let l = c.in_ok-tree.ensures.lookup in
    let two = c.in-len2-up.len_at_least in
    let fault = image-fault a.k.k (rule_within a.rules.now a.at (rule_past a.rules.now a.at)) (omega (arith, first a.rules.now a.at, c.if-image-lt-LEAST_IMAGE.true)) in
    told-fault _ _ _ (there a.rules.now a.at _ c.from-size.ensures two) (whole a.rules.now a.at _ c.from-size.ensures two _ l.0.1 l.0.2) fault

pub returns-then-not-fits-clause-came : goal.returns-then-not-fits-clause-came
returns-then-not-fits-clause-came c =
    let a = c.args in
    let l = c.in_ok-tree.ensures.lookup in
    let two = c.in-len2-up.len_at_least in
    let image : get_or (rest a.rules.now a.at) 0 0 ≤ greatest_image = omega (arith, first a.rules.now a.at, c.type_inv.rules a.at) in
    let is = sound a.rules.now a.at _ c.from-size.ensures two _ l.0.1 l.0.2 a.k.k c.if-image-lt-LEAST_IMAGE.false image in
    let unfit = is ∙ ap (λ (d : ℕ). fits_of 0 d c.in_ok-tree.tree.now) (sym c.of_middles.ensures) ∙ sym c.if-not-fits.ensures.came in
    told-fault _ _ _ (there a.rules.now a.at _ c.from-size.ensures two) (whole a.rules.now a.at _ c.from-size.ensures two _ l.0.1 l.0.2) unfit

pub returns-clause-came : goal.returns-clause-came
returns-clause-came c =
    let a = c.args in
    let l = c.in_ok-tree.ensures.lookup in
    let two = c.in-len2-up.len_at_least in
    let image : get_or (rest a.rules.now a.at) 0 0 ≤ greatest_image = omega (arith, first a.rules.now a.at, c.type_inv.rules a.at) in
    let is = sound a.rules.now a.at _ c.from-size.ensures two _ l.0.1 l.0.2 a.k.k c.if-image-lt-LEAST_IMAGE.false image in
    let fit = is ∙ ap (λ (d : ℕ). fits_of 0 d c.in_ok-tree.tree.now) (sym c.of_middles.ensures) ∙ sym c.if-not-fits.ensures.came in
    ap Some (past a.rules.now a.at _ c.from-size.ensures)
    ∙ told-rule _ _ _ (there a.rules.now a.at _ c.from-size.ensures two) (whole a.rules.now a.at _ c.from-size.ensures two _ l.0.1 l.0.2) fit
