-- What a search finds: by each of its turns, and the place that it gives where no entry has the key. Assumes nothing.
use Rattle.std.specs.declared.cmp.Ordering.{Ordering}
use Rattle.std.specs.declared.cmp.Ordering.TheVariants.{Less, Equal, Greater}
use Prim.Native.Nat.{ℕ, zero, suc, ◌+◌, ◌-◌, ◌*◌, ◌<◌, ◌≤◌}
use mathlib.Core.Path.{◌≡◌, refl, ap, ◌∙◌}
use mathlib.Core.Bool.{true, false}
use mathlib.Core.List.Memᴰ
use mathlib.Core.List.Memᴰ.{head as here}
use mathlib.Core.List.Memᴰ.{tail as there}
use mathlib.Core.List.{List, [], ◌∷◌, ◌++◌}
use native.Mathlib.Omega.{arith}
use lib.ListN.{length, get_or, take, drop, length-append}
use Rattle.words.specs.Base.{when◌then◌else◌, ◌∈◌}
use Rattle.words.specs.Compare.{compare_of, ◌≺◌, signed_of, size_of}
use Rattle.words.proofs.Ordered.{compare_equal, compare_flip}
use Rattle.words.proofs.Tests.{same-words, never}
use Rattle.section.specs.Entries.{Entry, section_words, entries, span, has, by_compared, place_in, look, Below, Sorted}
use Rattle.section.specs.Near.{place_at, Stopped, found_at, SearchedTo}
use Rattle.section.specs.declared.Found.TheVariants.{At, Absent}
use Rattle.section.specs.declared.Stop.{Stop}
use Rattle.section.proofs.Words.{span-at, entries_at, look_at, look_none}
use Rattle.section.proofs.Counts.{lower-differs, below-lacks}

-- ---- one turn of a search

-- Past a lower entry the key is still to be found.
pub has-lower : (e : Entry) (es : List Entry) (key : List ℕ) → compare_of e.key key ≡ Less → has key (e ∷ es) ≡ has key es
unfolding has when◌then◌else◌
has-lower e es key h = rw (lower-differs e.key key h)

-- An entry told equal has the key.
pub has_equal : (e : Entry) (es : List Entry) (key : List ℕ) → compare_of e.key key ≡ Equal → has key (e ∷ es) ≡ true
unfolding has when◌then◌else◌
has_equal e es key h = rw (compare_equal e.key key h, same-words key)

-- From a higher entry on no entry has the key.
pub has-higher : (e : Entry) (es : List Entry) (key : List ℕ) → Sorted (e ∷ es) → compare_of e.key key ≡ Greater → has key (e ∷ es) ≡ false
unfolding Below
has-higher e es key s h = below-lacks key (e ∷ es) (compare_flip e.key key ∙ rw h) s

-- ---- the place that a search gives

-- The key's entry would stand at p, between the entries with lower keys and the others, if the first entry stands at word `at`.
pub record Gap (key : List ℕ) (at p : ℕ) (es : List Entry) : Type 0 where
  pub front : List Entry
  pub back : List Entry
  pub is : es ≡ front ++ back
  pub place : p ≡ at + length (section_words front)
  pub below : (e : Entry) → e ∈ front → e.key ≺ key
  pub above : Below key back

-- A key not found would have its entry at the place.
pub look-gap : (key : List ℕ) (at n l p m r u : ℕ) (es : List Entry) → look key at n l es ≡ Absent p m r u → Gap key at p es
unfolding look section_words Below
look-gap key at n l p m r u [] h =
    record { front = []; back = []; is = refl; place = let z : at ≡ p = cc in omega arith; below = λ e m. absurd (Memᴰ.not-nil m); above = tt }
look-gap key at n l p m r u (e ∷ es) h = go (compare_of e.key key) refl h (look-gap key (at + (2 + length e.key)) (suc n) (place_in key e) p m r u es)
  where
    first : (r : List Entry) → compare_of e.key key ≡ Less → ((f : Entry) → f ∈ r → f.key ≺ key) → (f : Entry) → f ∈ e ∷ r → f.key ≺ key
    first r c later f (here q) = rw q c
    first r c later f (there m) = later f m

    go : (o : Ordering) → compare_of e.key key ≡ o → by_compared o (look key (at + (2 + length e.key)) (suc n) (place_in key e) es) (At at n) (Absent at n l (place_in key e)) ≡ Absent p m r u
        → (look key (at + (2 + length e.key)) (suc n) (place_in key e) es ≡ Absent p m r u → Gap key (at + (2 + length e.key)) p es) → Gap key at p (e ∷ es)
    go Less c q later =
        let i = later q in
        record {
          front = e ∷ i.front;
          back = i.back;
          is = ap (λ (l : List Entry). e ∷ l) i.is;
          place = simp length-append (omega (arith, i.place));
          below = first i.front c i.below;
          above = i.above;
        }
    go Equal c q later = never cc
    go Greater c q later = record {
      front = [];
      back = e ∷ es;
      is = refl;
      place = let z : at ≡ p = cc in omega arith;
      below = λ f m. absurd (Memᴰ.not-nil m);
      above = compare_flip e.key key ∙ rw c;
    }

-- ---- the turns of a search over words

-- The entry that stands at `at`, the first of those left, whose words end at `end`.
module _ (book : List ℕ) (at left end : ℕ) (more : 0 < left) (ends : end ≡ at + 2 + 2 * get_or book at 0) where
  -- The entries past it are sorted if those left are.
  pub sorted-past : Sorted (entries left (drop at book)) → Sorted (entries (left - 1) (drop end book))
  unfolding Sorted
  sorted-past h = (rw (entries_at book at left end more ends) at h).2

-- Where there is no entry there is no place.
pub place_none : (key book : List ℕ) (at some : ℕ) → some ≡ 0 → place_at key book at some ≡ 0
unfolding place_at
place_none key book at some e = rw e

-- Where there is one it is that of its tree, whose words end at `end`.
pub place-first : (key book : List ℕ) (at some end : ℕ) → 0 < some → end ≡ at + 2 + 2 * get_or book at 0 → place_at key book at some ≡ size_of (signed_of (take (end - (at + 2)) (drop (at + 2) book)) key)
unfolding place_at
place-first key book at zero end h e = absurd (omega arith)
place-first key book at (suc some) end h e = let z : 2 * get_or book at 0 ≡ end - (at + 2) = omega arith in rw z

-- How far a search for a key among the entries from word `from` on has come: those left from word `at` on decide, and the last one passed stands at `last`.
pub record Searched (book key : List ℕ) (from many last at left : ℕ) : Type 0 where
  pub within : at + span left (drop at book) ≤ length book
  pub fewer : left ≤ many
  pub passed : 0 < many - left → last + 2 + 2 * get_or book last 0 ≤ length book
  pub found : look key from 0 0 (entries many (drop from book)) ≡ look key at (many - left) (place_at key book last (many - left)) (entries left (drop at book))

-- Before the first turn all are left.
pub searched_none : (book key : List ℕ) (from many : ℕ) → from + span many (drop from book) ≤ length book → Searched book key from many from from many
unfolding place_at
searched_none book key from many h =
    let z : many - many ≡ 0 = omega arith in
    record { within = h; fewer = omega arith; passed = λ l. absurd (omega arith); found = rw z refl }

module _ (book key : List ℕ) (from many last at left : ℕ) (s : Searched book key from many last at left) where
  -- With no entry left the key has none.
  pub searched_end : left ≤ 0 → look key from 0 0 (entries many (drop from book)) ≡ Absent at (many - left) (place_at key book last (many - left)) (place_at key book at left)
  searched_end h = s.found ∙ look_none book key at _ _ left h ∙ rw (place_none key book at left (omega arith)) refl

  -- The entry at `at`, whose words end at `end`.
  module _ (end : ℕ) (more : 0 < left) (ends : end ≡ at + 2 + 2 * get_or book at 0) where
    -- It and those behind it lie within the book.
    pub searched_room : end + span (left - 1) (drop end book) ≤ length book
    searched_room = omega (arith, s.within, span-at book at left end more ends)

    -- What the search finds, by how it stands to the key.
    searched_turn : let tree : List ℕ = take (end - (at + 2)) (drop (at + 2) book) in
        look key from 0 0 (entries many (drop from book))
        ≡ by_compared (compare_of tree key) (look key end (suc (many - left)) (size_of (signed_of tree key)) (entries (left - 1) (drop end book))) (At at (many - left))
        (Absent at (many - left) (place_at key book last (many - left)) (size_of (signed_of tree key)))
    searched_turn = s.found ∙ look_at book at left end more ends key _ _ (omega (arith, searched_room))

    -- A lower one is passed.
    pub searched_past : compare_of (take (end - (at + 2)) (drop (at + 2) book)) key ≡ Less → Searched book key from many at end (left - 1)
    searched_past c =
        let one : many - (left - 1) ≡ suc (many - left) = omega (arith, s.fewer) in
        record {
          within = searched_room;
          fewer = omega (arith, s.fewer);
          passed = λ l. omega (arith, searched_room);
          found = rw (place-first key book at (many - (left - 1)) end (omega (arith, s.fewer)) ends, one) (rw c at searched_turn);
        }

    -- An equal one is the key's.
    pub searched_here : compare_of (take (end - (at + 2)) (drop (at + 2) book)) key ≡ Equal → look key from 0 0 (entries many (drop from book)) ≡ At at (many - left)
    searched_here c = rw c at searched_turn

    -- At a higher one the search ends.
    pub searched_above : compare_of (take (end - (at + 2)) (drop (at + 2) book)) key ≡ Greater
        → look key from 0 0 (entries many (drop from book)) ≡ Absent at (many - left) (place_at key book last (many - left)) (place_at key book at left)
    searched_above c = rw (place-first key book at left end more ends) (rw c at searched_turn)

  -- Where a search has stopped.
  pub searched_stopped : Stopped book many last at left
  searched_stopped = record { fewer = s.fewer; passed = s.passed; next = λ l. omega (arith, searched_room (at + 2 + 2 * get_or book at 0) l refl) }

  -- It stops where the key is found,
  pub stops_here : look key from 0 0 (entries many (drop from book)) ≡ At at (many - left) → SearchedTo book key from many (record { there = true; last = last; at = at; left = left })
  unfolding found_at when◌then◌else◌
  stops_here e = record { lies = searched_stopped; found = e }

  -- and where it is known not to be.
  pub stops_between : look key from 0 0 (entries many (drop from book)) ≡ Absent at (many - left) (place_at key book last (many - left)) (place_at key book at left)
      → SearchedTo book key from many (record { there = false; last = last; at = at; left = left })
  unfolding found_at when◌then◌else◌
  stops_between e = record { lies = searched_stopped; found = e }

-- What a search that has stopped tells.
module _ (book key : List ℕ) (from many : ℕ) (s : Stop) (t : SearchedTo book key from many s) where
  -- The key's entry, where it stopped there.
  pub told_here : s.there ≡ true → look key from 0 0 (entries many (drop from book)) ≡ At s.at (many - s.left)
  unfolding found_at when◌then◌else◌
  told_here e = t.found ∙ rw e

  -- Its place between its neighbours, where it did not.
  pub told-between : s.there ≡ false
      → look key from 0 0 (entries many (drop from book)) ≡ Absent s.at (many - s.left) (place_at key book s.last (many - s.left)) (place_at key book s.at s.left)
  unfolding found_at when◌then◌else◌
  told-between e = t.found ∙ rw e
