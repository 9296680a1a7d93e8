-- `book_check::section_agrees` meets its contract: the places listed are of the section's entries, and the counts and marks in use begin at 0. Assumes nothing.
use Prim.Native.Nat.{ℕ, ◌-◌, ◌≤◌}
use mathlib.Core.Path.{◌≡◌, sym, ap, ap₂, subst, ◌∙◌}
use mathlib.Core.Bool.{Bool, true, false}
use mathlib.Core.List.{List, ◌++◌}
use native.Mathlib.Omega.{arith}
use lib.ListN.{length, get_or, take, drop, replicate, length-take, length-replicate}
use lib.Seq.{take_at}
use Rattle.words.specs.Base.{◌and◌, over}
use Rattle.words.proofs.Tests.{fails_left}
use Rattle.section.specs.Entries.{entries, Sorted}
use Rattle.section.proofs.Words.{length-entries}
use Rattle.section_tally.specs.Tallying.{starts_of, listed, Indexed, Few, same_counts}
use Rattle.section_tally.proofs.Starts.{length-starts, listed-starts, starts-indexed}
use Rattle.book.specs.Book.{section_of}
use Rattle.book.specs.Decoding.{book_in, start_of, slot_of}
use Rattle.book.specs.Holding.{Holds}
use Rattle.book.specs.declared.Section.{Section}
use Rattle.book.specs.declared.Places.{Places}
use Rattle.book.proofs.Holding.{ends-within}
use Rattle.book.proofs.Sections.{keys_filled}
use Rattle.book_recount.specs.Tallies.{all_known, tallied_all}
use Rattle.book_check.specs.Agreeing.{agreeing_in}
use Rattle.book_check.proofs.Counting.{tallied-few, agreeing-tallied}
use Rattle.book_check.proofs.section_agrees.Goals as goal

-- The first n words are 0 once they are cleared.
zeros-front : (n : ℕ) (old zeros : List ℕ) → n ≤ length old → zeros ≡ replicate (length (take (n - 0) old)) 0
    → take (n - 0) (zeros ++ drop (n - 0) old) ≡ replicate n 0
zeros-front n old zeros fits none =
    let o : ℕ = 0 in
    let wide : length (take (n - 0) old) ≡ n = simp length-take (omega arith) in
    let are : zeros ≡ replicate n 0 = none ∙ ap (λ (j : ℕ). replicate j o) wide in
    take_at zeros (drop (n - 0) old) (n - 0) (ap length are ∙ length-replicate n o ∙ omega arith) ∙ are

-- The words are a book in form, the number of entries of one section of which is word `word` of the head.
module _ (ws : List ℕ) (p : Places) (h : Holds ws p) (s : Section) (word : ℕ) (slot : word ≡ slot_of s) where
  -- As many entries as the word says.
  abbrev many : ℕ
  many = get_or ws word 0

  -- There are as many as the section has.
  many-are : many ≡ length (section_of s (book_in ws))
  many-are = rw slot (sym (length-entries (get_or ws (slot_of s) 0) (drop (start_of s p) ws)) ∙ ap length (h.section s).are)

  -- A scratch with room for the section's entries has room for so many.
  room : (n : ℕ) → length (section_of s (book_in ws)) ≤ n → many ≤ n
  room n short = omega (arith, many-are, short)

  -- The section starts at `at`, and the places of its entries are written over the front of a scratch.
  module _ (at : ℕ) (begins : at ≡ start_of s p) (starts old : List ℕ) (wrote : starts ≡ over (starts_of at many (drop at ws)) old) where
    -- The entries there are the section's.
    are : entries many (drop at ws) ≡ section_of s (book_in ws)
    are = rw (begins, slot) (h.section s).are

    -- The front of the scratch has their places.
    front-is : take (many - 0) starts ≡ starts_of at many (drop at ws)
    front-is = ap (take (many - 0)) wrote ∙ take_at (starts_of at many (drop at ws)) (drop (length (starts_of at many (drop at ws))) old) (many - 0) (length-starts at many (drop at ws) ∙ omega arith)

    -- The entries listed are the section's.
    front_lists : listed (take (many - 0) starts) ws ≡ section_of s (book_in ws)
    front_lists = ap (λ (l : List ℕ). listed l ws) front-is ∙ listed-starts ws at many ∙ are

    -- They are indexed.
    front-indexed : Indexed (take (many - 0) starts) ws
    front-indexed = subst (λ (l : List ℕ). Indexed l ws) (sym front-is) (starts-indexed ws at many (ends-within ws p h s at word begins slot) (subst Sorted (sym are) (h.section s).sorted)
        (λ e m. keys_filled (book_in ws) h.form s e (rw are at m)))

    -- Where a part has no entry the section does not agree.
    unknown-disagrees : all_known s (book_in ws).k (book_in ws).T (listed (take (many - 0) starts) ws) ≡ false → false ≡ agreeing_in s (book_in ws)
    unknown-disagrees lacks = sym (agreeing-tallied (book_in ws) h.form s ∙ fails_left _ _ (rw front_lists at lacks))

    -- The counts begin at 0.
    module _ (zeros : List ℕ) (none : take (many - 0) zeros ≡ replicate many 0) where
      -- As many as the section has entries.
      counts-are : take (many - 0) zeros ≡ replicate (length (section_of s (book_in ws))) 0
      counts-are = let o : ℕ = 0 in none ∙ ap (λ (n : ℕ). replicate n o) many-are

      -- There is one for each place.
      counts-long : length (take (many - 0) zeros) ≡ length (take (many - 0) starts)
      counts-long = let o : ℕ = 0 in ap length none ∙ length-replicate many o ∙ sym (ap length front-is ∙ length-starts at many (drop at ws))

      -- What is tallied for the entries listed is what is tallied for the section.
      all-tallied : tallied_all s (book_in ws).k (book_in ws).T (listed (take (many - 0) starts) ws) (take (many - 0) zeros)
          ≡ tallied_all s (book_in ws).k (book_in ws).T (section_of s (book_in ws)) (replicate (length (section_of s (book_in ws))) 0)
      all-tallied = ap₂ (tallied_all s (book_in ws).k (book_in ws).T) front_lists counts-are

      -- It stays within the greatest count.
      all-few : Few (tallied_all s (book_in ws).k (book_in ws).T (listed (take (many - 0) starts) ws) (take (many - 0) zeros))
      all-few = subst Few (sym all-tallied) (tallied-few (book_in ws) h.form s)

      -- Where all parts have an entry the section agrees if it counts what was tallied, which is lent again from the front of its scratch.
      known-agrees : (r : Bool) (counts behind : List ℕ) → all_known s (book_in ws).k (book_in ws).T (listed (take (many - 0) starts) ws) ≡ true
          → length counts ≡ length (take (many - 0) zeros)
          → counts ≡ tallied_all s (book_in ws).k (book_in ws).T (listed (take (many - 0) starts) ws) (take (many - 0) zeros)
          → r ≡ same_counts (listed (take (many - 0) starts) ws) (take (many - 0) (counts ++ behind)) → r ≡ agreeing_in s (book_in ws)
      unfolding ◌and◌
      known-agrees r counts behind all long now same =
          let o : ℕ = 0 in
          let lent : take (many - 0) (counts ++ behind) ≡ counts = take_at counts behind (many - 0) (long ∙ ap length none ∙ length-replicate many o ∙ omega arith) in
          let known : all_known s (book_in ws).k (book_in ws).T (section_of s (book_in ws)) ≡ true = rw front_lists at all in
          same ∙ ap₂ same_counts front_lists (lent ∙ now ∙ all-tallied) ∙ sym (agreeing-tallied (book_in ws) h.form s ∙ rw known)

pub slice_bounds-clear-end : goal.slice_bounds-clear-end
slice_bounds-clear-end c = room _ _ c.requires.holds c.args.section _ c.slot.ensures _ c.requires.book_in_bounds_2

pub slice_bounds-clear-end-2 : goal.slice_bounds-clear-end-2
slice_bounds-clear-end-2 c = room _ _ c.requires.holds c.args.section _ c.slot.ensures _ c.requires.book_in_bounds_3

pub index-requires-clause-n_in_bounds : goal.index-requires-clause-n_in_bounds
index-requires-clause-n_in_bounds c = room _ _ c.requires.holds c.args.section _ c.slot.ensures _ c.requires.book_in_bounds

pub slice_bounds-tally_taught-end : goal.slice_bounds-tally_taught-end
slice_bounds-tally_taught-end c =
    omega (arith, c.index.auto.starts, room _ _ c.requires.holds c.args.section _ c.slot.ensures _ c.requires.book_in_bounds)

pub tally_taught-requires-clause-indexed : goal.tally_taught-requires-clause-indexed
tally_taught-requires-clause-indexed c =
    front-indexed _ _ c.requires.holds c.args.section _ c.slot.ensures _ c.start.ensures _ _ c.index.ensures

pub tally_taught-requires-clause-counts_len : goal.tally_taught-requires-clause-counts_len
tally_taught-requires-clause-counts_len c =
    let h = c.requires.holds in
    let s = c.args.section in
    let none = zeros-front _ _ _ (room _ _ h s _ c.slot.ensures _ c.requires.book_in_bounds_2) c.clear.ensures in (
      counts-long _ _ h s _ c.slot.ensures _ c.start.ensures _ _ c.index.ensures _ none,
      all-few _ _ h s _ c.slot.ensures _ c.start.ensures _ _ c.index.ensures _ none,
    )

pub returns-then-not-tally_taught : goal.returns-then-not-tally_taught
returns-then-not-tally_taught c =
    unknown-disagrees _ _ c.requires.holds c.args.section _ c.slot.ensures _ c.start.ensures _ _ c.index.ensures (sym c.tally_taught.ensures.known ∙ c.if-not-tally_taught.true)

pub same_counts-requires-clause-indexed : goal.same_counts-requires-clause-indexed
same_counts-requires-clause-indexed c =
    front-indexed _ _ c.requires.holds c.args.section _ c.slot.ensures _ c.start.ensures _ _ c.index.ensures

pub returns : goal.returns
returns c =
    let h = c.requires.holds in
    let s = c.args.section in
    let none = zeros-front _ _ _ (room _ _ h s _ c.slot.ensures _ c.requires.book_in_bounds_2) c.clear.ensures in
    let e = c.tally_taught.ensures in
    let known = c.if-not-tally_taught.false in
    known-agrees _ _ h s _ c.slot.ensures _ c.start.ensures _ _ c.index.ensures _ none _ _ _ (sym e.known ∙ known) c.tally_taught.auto.counts (e.counted known) c.same_counts.ensures
