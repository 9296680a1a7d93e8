-- What is tallied for a section of a book in form is what it counts by the orders in its T. Assumes nothing.
use Prim.Native.Nat.{ℕ, ◌+◌, ◌*◌, ◌<◌, ◌≤◌}
use mathlib.Core.Path.{◌≡◌, refl, sym, ap, ◌∙◌}
use mathlib.Core.Bool.{Bool, true, false}
use mathlib.Core.List.Memᴰ.{head as here}
use mathlib.Core.List.Memᴰ.{tail as there}
use mathlib.Core.List.{List, [], ◌∷◌}
use native.Mathlib.Omega.{arith}
use lib.ListN.{length, replicate}
use lib.Dec.{ltb}
use borrow.Author.Tests.{ltb-true, ltb-false}
use Rattle.words.specs.Base.{◌and◌, ◌∈◌}
use Rattle.words.proofs.Tests.{no_test, and_left, and_right, and_both, either}
use Rattle.figures.specs.Limits.{greatest_count, head_words}
use Rattle.section.specs.Entries.{Entry, section_words, has, count_of}
use Rattle.section.proofs.Counts.{has-entry, entry-count, counts-has, lacks_counts}
use Rattle.section.proofs.Sorting.{same-counts}
use Rattle.section.proofs.Sizes.{size-first}
use Rattle.section_tally.specs.Tallying.{Few, same_counts}
use Rattle.order.proofs.Orders.{size, some-lines}
use Rattle.book.specs.Book.{Book, section_of, used, live, in_form}
use Rattle.book.specs.Decoding.{book_in}
use Rattle.book.specs.Holding.{Holds}
use Rattle.book.specs.declared.Section.{Section}
use Rattle.book.specs.declared.Places.{Places}
use Rattle.book.proofs.Meaning.{form-proper}
use Rattle.book.proofs.Sound.{form-sound, sound-section}
use Rattle.book.proofs.Sections.{form-sorted}
use Rattle.book.proofs.Taught.{same-section, section-same}
use Rattle.book.proofs.Around.{used-split}
use Rattle.book.proofs.Holding.{uses}
use Rattle.book.proofs.Agreeing.{form-orders, teachings-sorted}
use Rattle.book_recount.specs.Tallies.{all_known, tallied_all}
use Rattle.book_check.specs.Agreeing.{agreeing_in, Roomy}
use Rattle.book_check.proofs.Tallied.{counted_in, count_most, counts_by, counts-few, tallied-is, same_by, by_same, counted-known, known-counted}

-- ---- a section of a book in form

-- Entries whose keys have two words at least take four words each at least.
long-keys : (es : List Entry) → ((e : Entry) → e ∈ es → 2 ≤ length e.key) → 4 * length es ≤ length (section_words es)
unfolding section_words
long-keys [] h = omega arith
long-keys (e ∷ es) h = omega (arith, size-first e es, h e (here refl), long-keys es (λ i m. h i (there m)))

module _ (b : Book) (form : in_form b ≡ true) (s : Section) where
  -- What the orders of the book's T count in the section.
  abbrev counts : List Entry
  counts = counted_in s b.k b.T

  -- What is tallied is at most 65,535 for each entry.
  pub tallied-few : Few (tallied_all s b.k b.T (section_of s b) (replicate (length (section_of s b)) 0))
  unfolding live
  tallied-few i =
      rw (tallied-is s b.k b.T (section_of s b) (form-orders b form))
      (counts-few _ greatest_count (section_of s b) (λ z. omega (arith, count_most s b.k b.T (form-orders b form) z, (form-proper b form).few)) i)

  -- All that the orders of the T count has an entry, and each entry counts what they count for its key.
  abbrev known : Bool
  known = all_known s b.k b.T (section_of s b) and same_counts (section_of s b) (counts_by (λ z. count_of z counts) (section_of s b))

  -- This holds where the section is what they count.
  agreed_known : section_of s b ≡ counts → known ≡ true
  agreed_known q =
      let sorted = form-sorted b form s in
      and_both
      (counted-known s b.k b.T (section_of s b) (form-orders b form) (λ z p. counts-has z (section_of s b) sorted (omega (arith, ap (count_of z) q))))
      (same_by _ (section_of s b) (λ e m. sym (entry-count e.key sorted m refl) ∙ ap (count_of e.key) q))

  -- Where it holds the section counts for each key what they count.
  known-agreed : known ≡ true → (z : List ℕ) → count_of z (section_of s b) ≡ count_of z counts
  known-agreed h z = go (has z (section_of s b)) refl (ltb 0 (count_of z counts)) refl
    where
      go : (x : Bool) → has z (section_of s b) ≡ x → (y : Bool) → ltb 0 (count_of z counts) ≡ y → count_of z (section_of s b) ≡ count_of z counts
      go true p y q =
          let i = has-entry z (section_of s b) p in
          entry-count z (form-sorted b form s) i.1 i.2 ∙ by_same _ (section_of s b) (and_right _ _ h) i.0 i.1 ∙ ap (λ (x : List ℕ). count_of x counts) i.2
      go false p true q =
          no_test (sym p ∙ known-counted s b.k b.T (section_of s b) (form-orders b form) (and_left _ _ h) z (ltb-true 0 (count_of z counts) q))
      go false p false q =
          omega (arith, ltb-false 0 (count_of z counts) q, lacks_counts z (section_of s b) (form-sorted b form s) p)

  -- A section is the one of its T just if all that the orders of the T count there has an entry, and each entry counts what is tallied for it.
  pub agreeing-tallied : agreeing_in s b ≡ (all_known s b.k b.T (section_of s b) and same_counts (section_of s b) (tallied_all s b.k b.T (section_of s b) (replicate (length (section_of s b)) 0)))
  agreeing-tallied =
      rw (tallied-is s b.k b.T (section_of s b) (form-orders b form))
      (either _ _ (λ e. agreed_known (same-section _ _ e)) (λ h.
      section-same _ counts (same-counts _ counts (form-sorted b form s) (teachings-sorted b.k b.T (form-orders b form) s) (known-agreed h))))

  -- With the head, a section's entries use four words each at least.
  entries-use : head_words + 4 * length (section_of s b) ≤ used b
  entries-use =
      omega (
        arith,
        used-split s b,
        long-keys (section_of s b) (λ e m.
            let f = ((sound-section b (form-sound b form) s).entry e m).tree in
            omega (arith, ap length f.is_order.spelt, size f.tree, some-lines f.tree)),
      )

-- A scratch of n words has room for each section of a book that uses too few words for one entry more.
pub few-entries : (ws : List ℕ) (p : Places) → Holds ws p → (n : ℕ) → p.used < head_words + 4 * (n + 1) → Roomy ws n
few-entries ws p h n short s = omega (arith, entries-use (book_in ws) h.form s, uses ws p h)
