-- The orders of a T tallied one after the other: what is left to tally before each, and what its turn does. Assumes nothing.
use Prim.Native.Nat.{ℕ, zero, suc, ◌+◌, ◌*◌, ◌-◌, ◌<◌, ◌≤◌}
use mathlib.Core.Path.{◌≡◌, refl, sym, ap, subst, ◌∙◌}
use mathlib.Core.Bool.{Bool, true, false}
use mathlib.Core.List.Memᴰ.{head as here}
use mathlib.Core.List.Memᴰ.{tail as there}
use mathlib.Core.List.{List, [], ◌∷◌}
use native.Mathlib.Omega.{arith}
use lib.ListN.{length, get_or, drop, replicate, length-replicate}
use Rattle.words.specs.Base.{◌and◌, ◌∈◌}
use Rattle.words.proofs.Tests.{fails_left}
use Rattle.figures.specs.Limits.{taught_word, head_words}
use Rattle.section.specs.Entries.{Entry, first_entry, entries, span}
use Rattle.section.proofs.Words.{length-entries, entries-step, past-at, span-at}
use Rattle.section_tally.specs.Tallying.{listed, has_all, tallied, marked, Unmarked, Few, TurnReady, Taken}
use Rattle.section_tally.proofs.Starts.{length-listed}
use Rattle.section_tally.proofs.Tallies.{tallied-least, marked_other}
use Rattle.book.specs.Decoding.{book_in}
use Rattle.book.specs.Holding.{Holds}
use Rattle.book.specs.declared.Section.{Section}
use Rattle.book.specs.declared.Section.TheVariants.{Taught}
use Rattle.book.specs.declared.Places.{Places}
use Rattle.book_recount.specs.Tallies.{parts_in, all_known, tallied_all, marked_all}

-- ---- counts only grow

-- No count becomes less by tallying all orders.
all-grow : (s : Section) (k : ℕ) (ts es : List Entry) (cs : List ℕ) (i : ℕ) → get_or cs i 0 ≤ get_or (tallied_all s k ts es cs) i 0
unfolding tallied_all
all-grow s k [] es cs i = omega arith
all-grow s k (t ∷ ts) es cs i = omega (arith, tallied-least t.count (parts_in s k t.key) es cs i, all-grow s k ts es (tallied t.count (parts_in s k t.key) es cs) i)

-- ---- the orders left

-- The entries left lie within the book and are of its T; what all orders count from the first counts on is what those left count from these.
-- No entry has the mark of a turn to come.
pub record Left (book starts : List ℕ) (s : Section) (counts₀ counts marks₀ marks : List ℕ) (at left : ℕ) : Type 0 where
  pub within : at + span left (drop at book) ≤ length book
  pub taught : (e : Entry) → e ∈ entries left (drop at book) → e ∈ (book_in book).T
  pub known : all_known s (book_in book).k (book_in book).T (listed starts book) ≡ all_known s (book_in book).k (entries left (drop at book)) (listed starts book)
  pub counted : tallied_all s (book_in book).k (book_in book).T (listed starts book) counts₀ ≡ tallied_all s (book_in book).k (entries left (drop at book)) (listed starts book) counts
  pub noted : marked_all s (book_in book).k (book_in book).T (listed starts book) marks₀ ≡ marked_all s (book_in book).k (entries left (drop at book)) (listed starts book) marks
  pub long : length counts ≡ length starts
  pub wide : length marks ≡ length starts
  pub fresh : (j : ℕ) → 1 ≤ j → j ≤ left → Unmarked j marks

-- Of zeros none is the mark of a turn.
zeros-fresh : (n j : ℕ) → 1 ≤ j → Unmarked j (replicate n 0)
zeros-fresh zero j p i e = omega arith
zeros-fresh (suc n) j p zero e = omega arith
zeros-fresh (suc n) j p (suc i) e = zeros-fresh n j p i e

-- At first all entries of T are left.
pub left-first : (book starts : List ℕ) (p : Places) (s : Section) (counts marks : List ℕ) → Holds book p → length counts ≡ length starts
    → marks ≡ replicate (length starts) 0 → Left book starts s counts counts marks marks head_words (get_or book taught_word 0)
unfolding book_in
left-first book starts p s counts marks h long zeros =
    record {
      within = (h.section Taught).within;
      taught = λ e m. m;
      known = refl;
      counted = refl;
      noted = refl;
      long = long;
      wide = let o : ℕ = 0 in ap length zeros ∙ length-replicate (length starts) o;
      fresh = λ j p q. subst (Unmarked j) (sym zeros) (zeros-fresh (length starts) j p);
    }

module _ (book starts : List ℕ) (s : Section) (counts₀ counts marks₀ marks : List ℕ) (at left : ℕ) (i : Left book starts s counts₀ counts marks₀ marks at left) where
  -- With none left all that the orders count has an entry.
  pub last-known : left < 1 → true ≡ all_known s (book_in book).k (book_in book).T (listed starts book)
  unfolding all_known entries
  last-known none = let z : left ≡ 0 = omega arith in sym (i.known ∙ ap (λ (n : ℕ). all_known s (book_in book).k (entries n (drop at book)) (listed starts book)) z)

  -- With none left all is tallied.
  pub last-counted : left < 1 → counts ≡ tallied_all s (book_in book).k (book_in book).T (listed starts book) counts₀
  unfolding tallied_all entries
  last-counted none = let z : left ≡ 0 = omega arith in sym (i.counted ∙ ap (λ (n : ℕ). tallied_all s (book_in book).k (entries n (drop at book)) (listed starts book) counts) z)

  -- With none left all is marked.
  pub last-noted : left < 1 → marks ≡ marked_all s (book_in book).k (book_in book).T (listed starts book) marks₀
  unfolding marked_all entries
  last-noted none = let z : left ≡ 0 = omega arith in sym (i.noted ∙ ap (λ (n : ℕ). marked_all s (book_in book).k (entries n (drop at book)) (listed starts book) marks) z)

-- The entry at `at` is the first of those left, and ends at `end`; k is the book's.
module _ (book starts : List ℕ) (s : Section) (k : ℕ) (deep : k ≡ (book_in book).k) (counts₀ counts marks₀ marks : List ℕ) (at left end : ℕ) (more : 0 < left)
    (ends : end ≡ at + 2 + 2 * get_or book at 0) (i : Left book starts s counts₀ counts marks₀ marks at left) where
  -- The others start at its end.
  first-apart : entries left (drop at book) ≡ first_entry (drop at book) ∷ entries (left - 1) (drop end book)
  first-apart = entries-step (drop at book) left more ∙ ap (λ (ws : List ℕ). first_entry (drop at book) ∷ entries (left - 1) ws) (past-at book at left end more ends)

  -- It is an entry of T.
  pub first-taught : first_entry (drop at book) ∈ (book_in book).T
  first-taught = i.taught _ (subst (λ (es : List Entry). first_entry (drop at book) ∈ es) (sym first-apart) (here refl))

  -- All is known if what it counts is, and what the others count.
  first-known : all_known s (book_in book).k (book_in book).T (listed starts book)
      ≡ (has_all (parts_in s k (first_entry (drop at book)).key) (listed starts book) and all_known s (book_in book).k (entries (left - 1) (drop end book)) (listed starts book))
  unfolding all_known
  first-known = rw deep (i.known ∙ ap (λ (es : List Entry). all_known s (book_in book).k es (listed starts book)) first-apart)

  -- All is tallied by tallying what it counts, and then what the others count.
  first_counted : tallied_all s (book_in book).k (book_in book).T (listed starts book) counts₀
      ≡ tallied_all s (book_in book).k (entries (left - 1) (drop end book)) (listed starts book)
      (tallied (first_entry (drop at book)).count (parts_in s k (first_entry (drop at book)).key) (listed starts book) counts)
  unfolding tallied_all
  first_counted = rw deep (i.counted ∙ ap (λ (es : List Entry). tallied_all s (book_in book).k es (listed starts book) counts) first-apart)

  -- It is the turn of as many orders as are left.
  first-turn : length (first_entry (drop at book) ∷ entries (left - 1) (drop end book)) ≡ left
  first-turn = omega (arith, length-entries (left - 1) (drop end book))

  -- All is marked by marking what it counts, and then what the others count.
  first-noted : marked_all s (book_in book).k (book_in book).T (listed starts book) marks₀
      ≡ marked_all s (book_in book).k (entries (left - 1) (drop end book)) (listed starts book) (marked left (parts_in s k (first_entry (drop at book)).key) (listed starts book) marks)
  unfolding marked_all
  first-noted =
      let es = listed starts book in
      let os = parts_in s (book_in book).k (first_entry (drop at book)).key in
      rw deep
      (i.noted ∙ ap (λ (ts : List Entry). marked_all s (book_in book).k ts es marks) first-apart
      ∙ ap (λ (n : ℕ). marked_all s (book_in book).k (entries (left - 1) (drop end book)) es (marked n os es marks)) first-turn)

  -- If no count passes 65,535 in the end, none does by it.
  first-few : Few (tallied_all s (book_in book).k (book_in book).T (listed starts book) counts₀)
      → Few (tallied (first_entry (drop at book)).count (parts_in s k (first_entry (drop at book)).key) (listed starts book) counts)
  first-few few j =
      let cs = tallied (first_entry (drop at book)).count (parts_in s k (first_entry (drop at book)).key) (listed starts book) counts in
      omega (arith, all-grow s (book_in book).k (entries (left - 1) (drop end book)) (listed starts book) cs j, subst Few first_counted few j)

  -- The turn is ready for it.
  pub first-ready : Few (tallied_all s (book_in book).k (book_in book).T (listed starts book) counts₀)
      → TurnReady left (first_entry (drop at book)).count (parts_in s k (first_entry (drop at book)).key) (listed starts book) counts marks
  first-ready few =
      let each = sym (length-listed starts book) in
      record { counts = i.long ∙ each; marks = i.wide ∙ each; fresh = i.fresh left (omega arith) (omega arith); few = first-few few }

  -- The turn is taken.
  module _ (counts' marks' : List ℕ) (r : Bool)
      (t : Taken left (first_entry (drop at book)).count (parts_in s k (first_entry (drop at book)).key) (listed starts book) counts marks counts' marks' r) where
    -- If what it counts lacks an entry, not all is known.
    pub first-unknown : r ≡ false → false ≡ all_known s (book_in book).k (book_in book).T (listed starts book)
    first-unknown lacks = sym (first-known ∙ fails_left _ _ (sym t.told ∙ lacks))

    -- If not, those behind it are left.
    pub left-next : r ≡ true → length counts' ≡ length counts → length marks' ≡ length marks → Left book starts s counts₀ counts' marks₀ marks' end (left - 1)
    unfolding ◌and◌
    left-next all same wide =
        record {
          within = omega (arith, i.within, span-at book at left end more ends);
          taught = λ e m. i.taught e (subst (λ (es : List Entry). e ∈ es) (sym first-apart) (there m));
          known = first-known ∙ ap (λ (b : Bool). b and all_known s (book_in book).k (entries (left - 1) (drop end book)) (listed starts book)) (sym t.told ∙ all);
          counted = first_counted ∙ ap (tallied_all s (book_in book).k (entries (left - 1) (drop end book)) (listed starts book)) (sym (t.counted all));
          noted = first-noted ∙ ap (marked_all s (book_in book).k (entries (left - 1) (drop end book)) (listed starts book)) (sym (t.noted all));
          long = same ∙ i.long;
          wide = wide ∙ i.wide;
          fresh = λ j p q.
              subst (Unmarked j) (sym (t.noted all)) (marked_other j left (parts_in s k (first_entry (drop at book)).key) (listed starts book) marks (λ e. omega arith) (i.fresh j p (omega arith)));
        }
