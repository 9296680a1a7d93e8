-- The places of entries, and the entries that they list. Assumes nothing.
use Prim.Native.Nat.{ℕ, zero, suc, ◌+◌, ◌*◌, ◌-◌, ◌≤◌, ◌<◌}
use mathlib.Core.Path.{◌≡◌, refl, sym, ap, subst, ◌∙◌}
use mathlib.Core.List.Memᴰ.{head as here}
use mathlib.Core.List.Memᴰ.{tail as there}
use mathlib.Core.List.{List, [], ◌∷◌}
use native.Mathlib.Nat.{add-zero, not-suc-le-zero}
use native.Mathlib.Numerals.{sub-one}
use native.Mathlib.Omega.{arith}
use lib.ListN.{length, get_or, take, drop}
use lib.Seq.{drop-drop, get_or-take, get_or-drop}
use Rattle.words.specs.Base.{◌∈◌}
use Rattle.section.specs.Entries.{Entry, counted, first_entry, entries, span, width, Sorted}
use Rattle.section.proofs.Words.{past-at}
use Rattle.section_tally.specs.Tallying.{starts_of, listed, Indexed}

-- ---- the places

-- There are n places.
pub length-starts : (at n : ℕ) (ws : List ℕ) → length (starts_of at n ws) ≡ n
unfolding starts_of
length-starts at zero ws = refl
length-starts at (suc n) ws = rw (length-starts (at + width ws) n (drop (width ws) ws)) refl

-- The places of n entries, the first apart.
starts-step : (at n : ℕ) (ws : List ℕ) → 0 < n → starts_of at n ws ≡ at ∷ starts_of (at + width ws) (n - 1) (drop (width ws) ws)
unfolding starts_of
starts-step at zero ws h = absurd (not-suc-le-zero h)
starts-step at (suc n) ws h = rw sub-one

-- The entry that stands at `at`, the first of those left, whose words end at `end`.
module _ (book : List ℕ) (at left end : ℕ) (more : 0 < left) (ends : end ≡ at + 2 + 2 * get_or book at 0) where
  -- The places of those left are its own, and those of the others.
  starts-at : starts_of at left (drop at book) ≡ at ∷ starts_of end (left - 1) (drop end book)
  starts-at =
      let past : at + width (drop at book) ≡ end = rw (get_or-drop, add-zero) (omega arith) in
      rw (starts-step at left (drop at book) more, past-at book at left end more ends, past)

  -- Where i places of a list are passed and those left are the others, the next is `at`.
  pub next_place : (places : List ℕ) (i : ℕ) → drop i places ≡ starts_of at left (drop at book) → get_or places i 0 ≡ at
  next_place places i h =
      let first : get_or (drop i places) 0 0 ≡ at = rw (h, starts-at) in
      rw (get_or-drop, add-zero) at first

  -- Past it the others are left.
  pub next-places : (places : List ℕ) (i : ℕ) → drop i places ≡ starts_of at left (drop at book) → drop (i + 1) places ≡ starts_of end (left - 1) (drop end book)
  next-places places i h = sym (drop-drop 1 i places) ∙ ap (drop 1) (h ∙ starts-at)

-- ---- the entries listed

-- As many entries are listed as there are places.
pub length-listed : (starts ws : List ℕ) → length (listed starts ws) ≡ length starts
unfolding listed
length-listed [] ws = refl
length-listed (at ∷ starts) ws = ap suc (length-listed starts ws)

-- The entry listed at each place is the first of the words from there on.
pub listed_at : (starts ws : List ℕ) (i : ℕ) (e : Entry) → i < length starts → get_or (listed starts ws) i e ≡ first_entry (drop (get_or starts i 0) ws)
unfolding listed
listed_at [] ws i e h = absurd (not-suc-le-zero h)
listed_at (at ∷ starts) ws zero e h = refl
listed_at (at ∷ starts) ws (suc i) e h = listed_at starts ws i e (omega arith)

-- The entries at the places of n entries are these entries.
pub listed-starts : (ws : List ℕ) (from n : ℕ) → listed (starts_of from n (drop from ws)) ws ≡ entries n (drop from ws)
unfolding starts_of listed entries
listed-starts ws from zero = refl
listed-starts ws from (suc n) = rw (drop-drop (width (drop from ws)) from ws, listed-starts ws (from + width (drop from ws)) n)

-- Each of n entries that lie within the words ends within them.
starts-within : (ws : List ℕ) (from n : ℕ) → from + span n (drop from ws) ≤ length ws
    → (i : ℕ) → i < n → let at = get_or (starts_of from n (drop from ws)) i 0 in at + width (drop at ws) ≤ length ws
unfolding starts_of span
starts-within ws from zero fits i h = absurd (not-suc-le-zero h)
starts-within ws from (suc n) fits zero h = omega arith
starts-within ws from (suc n) fits (suc i) h =
    let rest = rw (drop-drop (width (drop from ws)) from ws) at fits in
    rw (drop-drop (width (drop from ws)) from ws) (starts-within ws (from + width (drop from ws)) n (omega arith) i (omega arith))

-- The places of entries with ascending keys, none of them empty, that lie within the words are an index of them.
pub starts-indexed : (ws : List ℕ) (from n : ℕ) → from + span n (drop from ws) ≤ length ws → Sorted (entries n (drop from ws))
    → ((e : Entry) → e ∈ entries n (drop from ws) → 1 ≤ length e.key) → Indexed (starts_of from n (drop from ws)) ws
starts-indexed ws from n fits sorted filled = record {
  within = λ i h. starts-within ws from n fits i (omega (arith, length-starts from n (drop from ws)));
  sorted = rw (listed-starts ws from n) sorted;
  filled = rw (listed-starts ws from n) filled;
}

-- What stands at a place of a list is one of its members.
member : {A : Type 0} (l : List A) (i : ℕ) (d : A) → i < length l → get_or l i d ∈ l
member [] i d h = absurd (not-suc-le-zero h)
member (a ∷ l) zero d h = here refl
member (a ∷ l) (suc i) d h = there (member l i d (omega arith))

-- The entry at each place of an index has words.
pub place-filled : (starts ws : List ℕ) → Indexed starts ws → (i : ℕ) → i < length starts → 1 ≤ length (first_entry (drop (get_or starts i 0) ws)).key
place-filled starts ws x i h =
    let none : Entry = counted [] 0 in
    subst (λ (e : Entry). 1 ≤ length e.key) (listed_at starts ws i none h)
    (x.filled (get_or (listed starts ws) i none) (member (listed starts ws) i none (omega (arith, length-listed starts ws))))

-- The entry at each place of an index ends within the words.
pub place-room : (starts ws : List ℕ) → Indexed starts ws → (i : ℕ) → i < length starts → get_or starts i 0 + 2 + 2 * get_or ws (get_or starts i 0) 0 ≤ length ws
place-room starts ws x i h =
    let at = get_or starts i 0 in
    let first : get_or (drop at ws) 0 0 ≡ get_or ws at 0 = rw (get_or-drop, add-zero) in
    omega (arith, x.within i h)

-- ---- the first word of an entry

-- A part of twice so many words that has some is of some.
some_of : (n : ℕ) (l : List ℕ) → 1 ≤ length (take (2 * n) l) → 1 ≤ n
some_of zero l h = absurd (omega arith)
some_of (suc n) l h = omega arith

module _ (ws : List ℕ) (at : ℕ) (fits : at + width (drop at ws) ≤ length ws) (filled : 1 ≤ length (first_entry (drop at ws)).key) where
  -- It has a node.
  some-nodes : 1 ≤ get_or (drop at ws) 0 0
  some-nodes = some_of (get_or (drop at ws) 0 0) (drop 2 (drop at ws)) filled

  -- Its first word lies within the words.
  pub first-within : at + 2 < length ws
  first-within = omega (arith, some-nodes)

  -- It stands behind the number of nodes and the count.
  pub first-stands : get_or (first_entry (drop at ws)).key 0 0 ≡ get_or ws (at + 2) 0
  first-stands =
      let n : ℕ = get_or (drop at ws) 0 0 in
      get_or-take (2 * n) (drop 2 (drop at ws)) 0 0 (omega (arith, some-nodes)) ∙ get_or-drop 2 (drop at ws) 0 0 ∙ get_or-drop at ws 2 0

  -- Its words end past twice its nodes.
  pub words-room : at + 2 + 2 * get_or ws at 0 ≤ length ws
  words-room = let n : get_or (drop at ws) 0 0 ≡ get_or ws at 0 = rw (get_or-drop, add-zero) in omega arith

  -- Its key is the words up to their end.
  pub key-words : (end : ℕ) → end ≡ at + 2 + 2 * get_or ws at 0 → take (end - (at + 2)) (drop (at + 2) ws) ≡ (first_entry (drop at ws)).key
  key-words end ends = let long : 2 * get_or (drop at ws) 0 0 ≡ end - (at + 2) = rw (get_or-drop, add-zero) (omega arith) in sym (rw (long, drop-drop))
