-- `section_tally::tally_once` meets its contract: the entry that is found is tallied and marked unless it has the turn's mark. Assumes nothing.
use Rattle.std.specs.Prelude.{None, Option, Some}
use Prim.Native.Nat.{ℕ, ◌+◌, ◌<◌, ◌≤◌}
use mathlib.Core.Path.{◌≡◌, sym, ap, ◌∙◌}
use mathlib.Core.List.{List}
use native.Mathlib.Omega.{arith}
use lib.ListN.{length, get_or, set}
use lib.Seq.{get_or-set_same}
use borrow.Author.Rules.{rules}
use borrow.Author.Tests.{eq-eqb, ne_eqb}
use Rattle.words.specs.Base.{when◌then◌else◌}
use Rattle.figures.specs.Limits.{greatest_count}
use Rattle.section_tally.specs.Tallying.{listed, sought_in, Few, on_one, tallied_once}
use Rattle.section_tally.proofs.Starts.{length-listed}
use Rattle.section_tally.proofs.Tallies.{sought_lacks, sought_has}
use Rattle.section_tally.proofs.tally_once.Goals as goal

-- ---- what is sought

module _ (f : ℕ → ℕ) (turn : ℕ) (r : Option ℕ) (ms cs : List ℕ) where
  -- Where nothing is found nothing is changed.
  one-missing : r ≡ None → cs ≡ on_one f turn r ms cs
  unfolding on_one
  one-missing e = rw e

  module _ (i : ℕ) (is : r ≡ Some i) where
    -- Without the turn's mark the number is changed.
    one-changed : (get_or ms i 0 ≡ turn → ⊥) → set cs i (f (get_or cs i 0)) ≡ on_one f turn r ms cs
    unfolding on_one when◌then◌else◌
    one-changed other = rw (is, ne_eqb (get_or ms i 0) turn other)

    -- With it all stays.
    one_kept : get_or ms i 0 ≡ turn → cs ≡ on_one f turn r ms cs
    unfolding on_one when◌then◌else◌
    one_kept same = rw (is, eq-eqb (get_or ms i 0) turn same)

-- A count that is stored fits where those do that are tallied then.
stored-fits : (n turn : ℕ) (r : Option ℕ) (ms cs : List ℕ) (i : ℕ) → r ≡ Some i → (get_or ms i 0 ≡ turn → ⊥) → i < length cs → Few (tallied_once n turn r ms cs) → get_or cs i 0 + n ≤ greatest_count
stored-fits n turn r ms cs i is other inside few =
    let v : ℕ = get_or cs i 0 + n in
    let e = ap (λ (l : List ℕ). get_or l i 0) (one-changed (λ (c : ℕ). c + n) turn r ms cs i is other) in
    omega (arith, few i, e, get_or-set_same cs i v 0 inside)

-- An entry that is sought is one of those listed.
inside : (key starts book : List ℕ) (i : ℕ) → sought_in key (listed starts book) ≡ Some i → i < length starts
inside key starts book i e = omega (arith, length-listed starts book, (sought_has _ _ i e).0)

-- ---- at each place

pub returns-in_default-clause-known : goal.returns-in_default-clause-known
returns-in_default-clause-known c = sym (sought_lacks _ _ (sym c.find_entry.ensures ∙ c.in_default.is))

pub returns-in_default-clause-counted : goal.returns-in_default-clause-counted
returns-in_default-clause-counted c = one-missing _ _ _ _ _ (sym c.find_entry.ensures ∙ c.in_default.is)

pub returns-in_default-clause-noted : goal.returns-in_default-clause-noted
returns-in_default-clause-noted c = one-missing _ _ _ _ _ (sym c.find_entry.ensures ∙ c.in_default.is)

pub offset_bounds-marks-i : goal.offset_bounds-marks-i
offset_bounds-marks-i c = let l = inside _ _ _ _ (sym c.in-Some.ensures) in search rules

pub bounds-marks-i : goal.bounds-marks-i
bounds-marks-i c = let l = inside _ _ _ _ (sym c.in-Some.ensures) in omega (arith, c.requires.counts_len.1)

pub offset_bounds-counts-i : goal.offset_bounds-counts-i
offset_bounds-counts-i c = let l = inside _ _ _ _ (sym c.in-Some.ensures) in search rules

pub bounds-counts-i : goal.bounds-counts-i
bounds-counts-i c = let l = inside _ _ _ _ (sym c.in-Some.ensures) in omega (arith, c.requires.counts_len.0)

pub overflow_add-counts : goal.overflow_add-counts
overflow_add-counts c =
    let found = sym c.in-Some.ensures in
    let l = inside _ _ _ _ found in
    omega (arith, stored-fits _ _ _ _ _ c.in-Some.i found c.if-marks-i.true (omega (arith, c.requires.counts_len.0)) c.requires.few)

pub bounds-counts-i-then-marks-i : goal.bounds-counts-i-then-marks-i
bounds-counts-i-then-marks-i c = let l = inside _ _ _ _ (sym c.in-Some.ensures) in omega (arith, c.requires.counts_len.0)

pub offset_bounds-marks-i-then-marks-i : goal.offset_bounds-marks-i-then-marks-i
offset_bounds-marks-i-then-marks-i c = let l = inside _ _ _ _ (sym c.in-Some.ensures) in search rules

pub bounds-marks-i-then-marks-i : goal.bounds-marks-i-then-marks-i
bounds-marks-i-then-marks-i c = let l = inside _ _ _ _ (sym c.in-Some.ensures) in omega (arith, c.requires.counts_len.1)

pub returns-then-marks-i-clause-known : goal.returns-then-marks-i-clause-known
returns-then-marks-i-clause-known c = sym (sought_has _ _ _ (sym c.in-Some.ensures)).1

pub returns-then-marks-i-clause-counted : goal.returns-then-marks-i-clause-counted
returns-then-marks-i-clause-counted c = one-changed _ _ _ _ _ _ (sym c.in-Some.ensures) c.if-marks-i.true

pub returns-then-marks-i-clause-noted : goal.returns-then-marks-i-clause-noted
returns-then-marks-i-clause-noted c = one-changed _ _ _ _ _ _ (sym c.in-Some.ensures) c.if-marks-i.true

pub returns-else-marks-i-clause-known : goal.returns-else-marks-i-clause-known
returns-else-marks-i-clause-known c = sym (sought_has _ _ _ (sym c.in-Some.ensures)).1

pub returns-else-marks-i-clause-counted : goal.returns-else-marks-i-clause-counted
returns-else-marks-i-clause-counted c = one_kept _ _ _ _ _ _ (sym c.in-Some.ensures) c.if-marks-i.false

pub returns-else-marks-i-clause-noted : goal.returns-else-marks-i-clause-noted
returns-else-marks-i-clause-noted c = one_kept _ _ _ _ _ _ (sym c.in-Some.ensures) c.if-marks-i.false
