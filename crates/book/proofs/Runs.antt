-- Laws of a run of entries at a place that a loop has reached, of the entry there, of words that are all zero, and of the head. Assumes nothing.
use Rattle.std.specs.Prelude.{None, Option, Some}
use Prim.Native.Nat.{ℕ, zero, suc, ◌+◌, ◌*◌, ◌-◌, ◌<◌, ◌≤◌}
use mathlib.Core.Path.{◌≡◌, refl, sym, ◌∙◌}
use mathlib.Core.Bool.{Bool, true, false}
use mathlib.Core.List.{List}
use native.Mathlib.Nat.{add-zero, not-suc-le-zero}
use native.Mathlib.Numerals.{sub-one}
use native.Mathlib.Omega.{arith}
use lib.Dec.{leb}
use borrow.Author.Tests.{le-leb, lt-leb, leb-true, leb-false, eq-eqb, ne_eqb}
use lib.ListN.{length, get_or, take, drop, length-drop, drop_of_length-le}
use lib.Seq.{drop-drop, get_or-drop}
use Rattle.book.specs.declared.Whole.{Whole}
use Rattle.words.specs.Base.{◌and◌, when◌then◌else◌}
use Rattle.words.specs.Compare.{before}
use Rattle.words.proofs.Tests.{fails_left, fails_right}
use Rattle.figures.specs.Limits.{greatest_count}
use Rattle.order.specs.Fits.{fits_of}
use Rattle.section.specs.Entries.{first_entry, entries, width, span, total}
use Rattle.section.proofs.Words.{past-at, span-at, entries_at}
use Rattle.book.specs.Book.{entry_in_form}
use Rattle.book.specs.Passes.{whole_at, run, stretch, zeros, head_of}

-- ---- the entry at a word

module _ (ws : List ℕ) (at : ℕ) where
  -- Where the entry ends by its number of nodes.
  ends_at : at + width (drop at ws) ≡ at + 2 + 2 * get_or ws at 0
  ends_at = rw (get_or-drop, add-zero) (omega arith)

  -- Where its words are not all there, there is none.
  pub not_whole : length ws < at + 2 + 2 * get_or ws at 0 → whole_at ws at ≡ None
  unfolding whole_at when◌then◌else◌
  not_whole h = rw (ends_at, lt-leb (at + 2 + 2 * get_or ws at 0) (length ws) h)

  -- Where they are, it is told by its end and its count.
  pub whole : at + 2 + 2 * get_or ws at 0 ≤ length ws → whole_at ws at ≡ Some (record { end = at + 2 + 2 * get_or ws at 0; count = get_or ws (at + 1) 0 })
  unfolding whole_at when◌then◌else◌
  whole h = rw (ends_at, le-leb (at + 2 + 2 * get_or ws at 0) (length ws) h)

-- What an entry that is told has: its end, its count, and all its words.
pub record Told (ws : List ℕ) (at end count : ℕ) : Type 0 where
  pub ends : end ≡ at + 2 + 2 * get_or ws at 0
  pub counts : count ≡ get_or ws (at + 1) 0
  pub fits : end ≤ length ws

-- What `whole_at` tells of a place.
abbrev Tells : List ℕ → ℕ → Option Whole → Type 0
Tells ws at (Some entry) = Told ws at entry.end entry.count
Tells ws at None = length ws < at + 2 + 2 * get_or ws at 0

-- It tells what stands there.
tells : (ws : List ℕ) (at : ℕ) → Tells ws at (whole_at ws at)
unfolding whole_at when◌then◌else◌
tells ws at = rw (ends_at ws at) (go (leb (at + 2 + 2 * get_or ws at 0) (length ws)) refl)
  where
    go : (b : Bool) → leb (at + 2 + 2 * get_or ws at 0) (length ws) ≡ b → Tells ws at (when b then Some (record { end = at + 2 + 2 * get_or ws at 0; count = get_or ws (at + 1) 0 }) else None)
    go true e = record { ends = refl; counts = refl; fits = leb-true _ _ e }
    go false e = leb-false _ _ e

-- An entry that is told is there.
pub told : {ws : List ℕ} {at : ℕ} {w : Option Whole} {end count : ℕ} → w ≡ whole_at ws at → w ≡ Some (record { end = end; count = count }) → Told ws at end count
told {ws} {at} is e = rw (sym is ∙ e) at (tells ws at)

-- Where none is told the words end.
pub not_told : (ws : List ℕ) (at : ℕ) {w : Option Whole} → w ≡ whole_at ws at → w ≡ None → length ws < at + 2 + 2 * get_or ws at 0
not_told ws at is e = rw (sym is ∙ e) at (tells ws at)

-- ---- zeros

-- Past the last word all are zero.
pub zeros-end : (ws : List ℕ) (i : ℕ) → length ws ≤ i → zeros (drop i ws) ≡ true
unfolding zeros
zeros-end ws i h = rw (drop_of_length-le ws)

-- ---- the head

module _ (ws : List ℕ) (live used : ℕ) where
  -- The head says another number of live teachings.
  pub head_live : (live ≡ get_or ws 2 0 → ⊥) → head_of ws live used ≡ false
  unfolding head_of ◌and◌
  head_live n = rw (ne_eqb live (get_or ws 2 0) n)

  -- It says another number of words used.
  pub head_used : live ≡ get_or ws 2 0 → (used ≡ get_or ws 1 0 → ⊥) → head_of ws live used ≡ false
  unfolding head_of ◌and◌
  head_used e n = rw (eq-eqb live (get_or ws 2 0) e, ne_eqb used (get_or ws 1 0) n)

  -- It says both numbers: the words past those used decide.
  pub head_zeros : live ≡ get_or ws 2 0 → used ≡ get_or ws 1 0 → head_of ws live used ≡ zeros (drop used ws)
  unfolding head_of ◌and◌
  head_zeros e f = rw (eq-eqb live (get_or ws 2 0) e, eq-eqb used (get_or ws 1 0) f)

-- ---- runs

-- A run, the first entry apart.
run_step : (least greatest : ℕ) (last ws : List ℕ) (n : ℕ) → 0 < n → run least greatest last n ws ≡
    (leb (width ws) (length ws) and entry_in_form least greatest (first_entry ws) and before last (first_entry ws).key
    and run least greatest (first_entry ws).key (n - 1) (drop (width ws) ws))
unfolding run
run_step least greatest last ws zero h = absurd (not-suc-le-zero h)
run_step least greatest last ws (suc n) h = rw sub-one

-- A run that is none is told as broken.
broken : (least greatest : ℕ) (last : List ℕ) (at sum n : ℕ) (ws : List ℕ) → run least greatest last n ws ≡ false → stretch least greatest last at sum n ws ≡ None
unfolding stretch when◌then◌else◌
broken least greatest last at sum n ws e = rw e

-- With no entry left the run ends here.
pub all-passed : (least greatest : ℕ) (last : List ℕ) (at sum n : ℕ) (ws : List ℕ) → n ≤ 0 → stretch least greatest last at sum n ws ≡ Some (record { end = at; sum = sum })
unfolding stretch when◌then◌else◌ run span entries total
all-passed least greatest last at sum n ws h = let z : n ≡ 0 = omega arith in rw z (rw (add-zero at, add-zero sum) refl)

-- The entry at `at`, past entries of which the last has the key `last`.
module _ (book : List ℕ) (least greatest : ℕ) (last : List ℕ) (at sum left : ℕ) (more : 0 < left) where
  -- Its words are not all there.
  pub runs_out : length book < at + 2 + 2 * get_or book at 0 → stretch least greatest last at sum left (drop at book) ≡ None
  unfolding ◌and◌
  runs_out h =
      let l : length (drop at book) < width (drop at book) = rw (length-drop, get_or-drop, add-zero) (omega arith) in
      broken least greatest last at sum left (drop at book) (rw (run_step least greatest last (drop at book) left more, lt-leb (width (drop at book)) (length (drop at book)) l))

  module _ {end count : ℕ} (is : Told book at end count) where
    -- The run is by the entry's count, its key, and the others.
    run_at : run least greatest last left (drop at book) ≡
        (((leb 1 count and leb count greatest_count) and fits_of least greatest (take (end - (at + 2)) (drop (at + 2) book))) and before last (take (end - (at + 2)) (drop (at + 2) book))
        and run least greatest (take (end - (at + 2)) (drop (at + 2) book)) (left - 1) (drop end book))
    unfolding ◌and◌ entry_in_form
    run_at =
        let f = is.fits in
        let g = is.ends in
        let l : width (drop at book) ≤ length (drop at book) = rw (length-drop, get_or-drop, add-zero) (omega arith) in
        let k : 2 * get_or (drop at book) 0 0 ≡ end - (at + 2) = rw (get_or-drop, add-zero) (omega arith) in
        let n : get_or (drop at book) 1 0 ≡ count = rw get_or-drop (sym is.counts) in
        rw (run_step least greatest last (drop at book) left more, le-leb (width (drop at book)) (length (drop at book)) l, past-at book at left end more g, drop-drop, k, n)

    -- The sum of the counts is the entry's and that of the others.
    total-at : total (entries left (drop at book)) ≡ count + total (entries (left - 1) (drop end book))
    unfolding total
    total-at = rw (entries_at book at left end more is.ends, ← is.counts)

    -- It counts nothing.
    pub uncounted : count < 1 → stretch least greatest last at sum left (drop at book) ≡ None
    unfolding ◌and◌
    uncounted h = broken least greatest last at sum left (drop at book) (run_at ∙ rw (lt-leb 1 count h))

    -- Its key does not stand above the last, whatever else it is.
    pub unsorted : before last (take (end - (at + 2)) (drop (at + 2) book)) ≡ false → stretch least greatest last at sum left (drop at book) ≡ None
    unsorted e = broken least greatest last at sum left (drop at book) (run_at ∙ fails_right _ _ (fails_left _ _ e))

    module _ (some : 1 ≤ count) (few : count ≤ greatest_count) where
      -- Its key is no order of a depth between the two.
      pub misfit : fits_of least greatest (take (end - (at + 2)) (drop (at + 2) book)) ≡ false → stretch least greatest last at sum left (drop at book) ≡ None
      unfolding ◌and◌
      misfit e = broken least greatest last at sum left (drop at book) (run_at ∙ rw (le-leb 1 count some, le-leb count greatest_count few, e))

      module _ (fit : fits_of least greatest (take (end - (at + 2)) (drop (at + 2) book)) ≡ true) where
        -- It is in form and in order: what is found is found of the others.
        pub goes_on : before last (take (end - (at + 2)) (drop (at + 2) book)) ≡ true
            → stretch least greatest last at sum left (drop at book) ≡ stretch least greatest (take (end - (at + 2)) (drop (at + 2) book)) end (sum + count) (left - 1) (drop end book)
        unfolding ◌and◌ stretch
        goes_on e =
            let r : run least greatest last left (drop at book) ≡ run least greatest (take (end - (at + 2)) (drop (at + 2) book)) (left - 1) (drop end book) = run_at ∙ rw (le-leb 1 count some, le-leb count greatest_count few, fit, e) in
            let s : sum + total (entries left (drop at book)) ≡ sum + count + total (entries (left - 1) (drop end book)) = omega (arith, total-at) in
            rw (r, span-at book at left end more is.ends, s)
