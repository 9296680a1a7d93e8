-- `book_form::pass`: each turn leaves what is to be found to the entries left, past the entry that it passed. Assumes nothing.
use Rattle.std.proofs.Common.{ℕ, ◌≡◌, ◌+◌, ◌*◌, ◌-◌, ◌/◌, ◌≤◌, List, length, take, drop, refl, sym, ◌∙◌, arith}
use Rattle.std.proofs.lemmas.List.{length-take, length-drop}
use Rattle.figures.specs.Limits.{greatest_count}
use Rattle.book.specs.Passes.{stretch_of}
use Rattle.book.proofs.Runs.{Told, told, not_told, all-passed, runs_out, uncounted, misfit, unsorted, goes_on}
use Rattle.book_form.proofs.pass.Goals as goal

-- The words of an entry's key are even in number.
even : (ws : List ℕ) (at end count : ℕ) → Told ws at end count →
    let key = take (end - (at + 2)) (drop (at + 2) ws) in
    2 * (length key / 2) ≡ length key
even ws at end count i = simp (length-take, length-drop) (omega (arith, i.ends, i.fits))

pub loop-init : goal.loop-init
unfolding stretch_of
loop-init c = record { found = (let z : c.args.n - 0 ≡ c.args.n = omega arith in rw z refl); small = omega arith; kept = refl }

pub returns-in_err-end-clause-came : goal.returns-in_err-end-clause-came
returns-in_err-end-clause-came c =
    c.from_residual.ensures ∙ sym (c.loop.invariant.found ∙ runs_out _ _ _ _ _ _ _ (omega arith) (not_told _ _ c.whole_at.ensures c.in_err-end.was))

pub overflow_add-key : goal.overflow_add-key
overflow_add-key c = let i = told c.whole_at.ensures c.in_ok-end.was in omega (arith, i.ends, i.fits)

pub offset_bounds-book-at : goal.offset_bounds-book-at
offset_bounds-book-at c = let i = told c.whole_at.ensures c.in_ok-end.was in omega (arith, i.ends, i.fits)

pub slice_bounds-key-count : goal.slice_bounds-key-count
slice_bounds-key-count c = let i = told c.whole_at.ensures c.in_ok-end.was in omega (arith, i.ends, i.fits)

pub slice_bounds-key-start : goal.slice_bounds-key-start
slice_bounds-key-start c = let i = told c.whole_at.ensures c.in_ok-end.was in omega (arith, i.ends, i.fits)

pub slice_bounds-key-end : goal.slice_bounds-key-end
slice_bounds-key-end c = let i = told c.whole_at.ensures c.in_ok-end.was in omega (arith, i.ends, i.fits)

pub returns-then-count-lt-LEAST_COUNT-clause-came : goal.returns-then-count-lt-LEAST_COUNT-clause-came
returns-then-count-lt-LEAST_COUNT-clause-came c =
    let i = told c.whole_at.ensures c.in_ok-end.was in
    sym (c.loop.invariant.found ∙ uncounted _ _ _ _ _ _ _ (omega arith) i c.if-count-lt-LEAST_COUNT.true)

pub returns-then-not-precedes-clause-came : goal.returns-then-not-precedes-clause-came
returns-then-not-precedes-clause-came c =
    let i = told c.whole_at.ensures c.in_ok-end.was in
    sym (c.loop.invariant.found ∙ unsorted _ _ _ _ _ _ _ (omega arith) i (sym c.precedes.ensures ∙ c.if-not-precedes.true))

pub fits-requires : goal.fits-requires
fits-requires c =
    let i = told c.whole_at.ensures c.in_ok-end.was in
    (even _ _ _ _ i, omega arith, omega arith)

pub returns-then-not-fits-clause-came : goal.returns-then-not-fits-clause-came
returns-then-not-fits-clause-came c =
    let i = told c.whole_at.ensures c.in_ok-end.was in
    sym (c.loop.invariant.found ∙ misfit _ _ _ _ _ _ _ (omega arith) i c.if-count-lt-LEAST_COUNT.false (omega (arith, i.counts, c.type_inv.book (c.loop.at + 1))) (sym c.fits.ensures.came ∙ c.if-not-fits.true))

pub overflow_add-sum : goal.overflow_add-sum
overflow_add-sum c =
    let i = told c.whole_at.ensures c.in_ok-end.was in
    omega (arith, i.counts, c.type_inv.book (c.loop.at + 1))

pub loop-preserved : goal.loop-preserved
loop-preserved c =
    let i = told c.whole_at.ensures c.in_ok-end.was in
    let s : c.in_ok-end.field-0.count ≤ greatest_count = omega (arith, i.counts, c.type_inv.book (c.loop.at + 1)) in
    let z : c.args.n - (c.loop.counter + 1) ≡ c.args.n - c.loop.counter - 1 = omega arith in
    record {
      found = rw z (c.loop.invariant.found ∙ goes_on _ _ _ _ _ _ _ (omega arith) i c.if-count-lt-LEAST_COUNT.false s (sym c.fits.ensures.came ∙ c.if-not-fits.false) (sym c.precedes.ensures ∙ c.if-not-precedes.false));
      small = omega arith;
      kept = omega arith;
    }

pub returns-clause-came : goal.returns-clause-came
returns-clause-came c = sym (c.loop.invariant.found ∙ all-passed _ _ _ _ _ _ _ (omega arith))
