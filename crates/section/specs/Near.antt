-- What a section says of a key's neighbours (02, "Say what the book expected"), over all of its entries, with no search; and what functions know
-- of a search that has stopped. Assumes nothing: these are definitions.
use Rattle.std.specs.Prelude.{ℕ, zero, suc, ◌+◌, ◌*◌, ◌-◌, ◌≤◌, ◌<◌, ◌≡◌, Bool, true, false, List, [], ◌∷◌, length, get_or, take, drop}
use Rattle.words.specs.Base.{when◌then◌else◌, keep}
use Rattle.words.specs.Compare.{before, signed_of, size_of}
use Rattle.section.specs.Entries.{Entry, entries, has, place_in, look}
use Rattle.section.specs.declared.Found.{Found}
use Rattle.section.specs.declared.Found.TheVariants.{At, Absent}
use Rattle.section.specs.declared.Neighbours.{Neighbours}
use Rattle.section.specs.declared.Stop.{Stop}

-- A key's neighbours by their figures: how many entries stand below it, whether it is there, and the places for the last below and the first above.
abbrev pub near : ℕ → Bool → ℕ → ℕ → Neighbours
near n there p q = record { below = n; there = there; low = p; high = q }

-- "all 0 and not there"
abbrev pub nowhere : Neighbours
nowhere = near 0 false 0 0

-- The entries that stand below a key.
unfoldable pub entries_below : List ℕ → List Entry → List Entry
entries_below key es = keep (λ e. before e.key key) es

-- The entries that stand above it.
unfoldable pub entries_above : List ℕ → List Entry → List Entry
entries_above key es = keep (λ e. before key e.key) es

-- The place of a key's first difference from the last of some entries; p where there is none.
unfoldable pub last_place : ℕ → List ℕ → List Entry → ℕ
last_place p key [] = p
last_place p key (e ∷ es) = last_place (place_in key e) key es

-- The place of its first difference from the first of them; "0 where there is no such entry".
unfoldable pub first_place : List ℕ → List Entry → ℕ
first_place key [] = 0
first_place key (e ∷ es) = place_in key e

-- "how many entries stand below it, whether it is there, and for the last entry below and the first above the place of the first differing word,
-- 0 where there is no such entry, and 0 for both when the part is there"
unfoldable pub near_of : List ℕ → List Entry → Neighbours
near_of key es =
    when has key es then near (length (entries_below key es)) true 0 0
    else near (length (entries_below key es)) false (last_place 0 key (entries_below key es)) (first_place key (entries_above key es))

-- The same by each case of a search's answer: a key that is found is there, and one that is not has its neighbours' places.
abbrev pub near_in : Found → Neighbours
near_in (At at n) = near n true 0 0
near_in (Absent at n p q) = near n false p q

-- ---- a search that has stopped

-- The place of the first word in which the entry at a word, the first of some, differs from a key; 0 where there is none.
unfoldable pub place_at : List ℕ → List ℕ → ℕ → ℕ → ℕ
place_at key ws at zero = 0
place_at key ws at (suc some) = size_of (signed_of (take (2 * get_or ws at 0) (drop (at + 2) ws)) key)

-- Of so many entries some are left from a word on. Where one was passed, the last such lies within the words; where one is left, the first such does.
pub record Stopped (ws : List ℕ) (many last at left : ℕ) : Type 0 where
  pub fewer : left ≤ many
  pub passed : 0 < many - left → last + 2 + 2 * get_or ws last 0 ≤ length ws
  pub next : 0 < left → at + 2 + 2 * get_or ws at 0 ≤ length ws

-- What a search finds that has stopped: the key's entry, or the place between its neighbours.
unfoldable pub found_at : List ℕ → List ℕ → ℕ → Stop → Found
found_at key ws many s =
    when s.there then At s.at (many - s.left)
    else Absent s.at (many - s.left) (place_at key ws s.last (many - s.left)) (place_at key ws s.at s.left)

-- A search for a key among so many entries from a word on has stopped there.
pub record SearchedTo (ws key : List ℕ) (from many : ℕ) (s : Stop) : Type 0 where
  pub lies : Stopped ws many s.last s.at s.left
  pub found : look key from 0 0 (entries many (drop from ws)) ≡ found_at key ws many s

-- The figures of some neighbours are less than a number.
pub record Small (n : ℕ) (r : Neighbours) : Type 0 where
  pub below : r.below < n
  pub low : r.low < n
  pub high : r.high < n
