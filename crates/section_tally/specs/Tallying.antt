-- Inner: no promise rests on these definitions.
-- Entries by the places where they start, and the counts and marks that a turn leaves for them. Assumes nothing: these are definitions.
use Rattle.std.specs.Prelude.{ℕ, zero, suc, ◌+◌, ◌≤◌, ◌<◌, ◌≡◌, Bool, true, false, List, [], ◌∷◌, eqb, length, get_or, set, drop, None, Option, Some}
use Rattle.words.specs.Base.{◌and◌, when◌then◌else◌, same_words, ◌∈◌}
use Rattle.figures.specs.Limits.{greatest_count}
use Rattle.section.specs.Entries.{Entry, width, first_entry, has, Sorted}

-- ---- entries by their places

-- Where n entries start that stand one behind the other, the first at word `at`, where these words begin.
unfoldable pub starts_of : ℕ → ℕ → List ℕ → List ℕ
starts_of at zero ws = []
starts_of at (suc n) ws = at ∷ starts_of (at + width ws) n (drop (width ws) ws)

-- The entries that start at these places.
unfoldable pub listed : List ℕ → List ℕ → List Entry
listed [] ws = []
listed (at ∷ starts) ws = first_entry (drop at ws) ∷ listed starts ws

-- The places are those of entries with ascending keys, each within the slice and with words of its own.
pub record Indexed (starts ws : List ℕ) : Type 0 where
  pub within : (i : ℕ) → i < length starts → get_or starts i 0 + width (drop (get_or starts i 0) ws) ≤ length ws
  pub sorted : Sorted (listed starts ws)
  pub filled : (e : Entry) → e ∈ listed starts ws → 1 ≤ length e.key

-- One further on.
abbrev pub next : Option ℕ → Option ℕ
next None = None
next (Some i) = Some (suc i)

-- Which entry has the key, counted from 0.
unfoldable pub sought_in : List ℕ → List Entry → Option ℕ
sought_in key [] = None
sought_in key (e ∷ es) = when same_words e.key key then Some 0 else next (sought_in key es)

-- ---- counts and marks

-- Each of the first keys has an entry among the second.
unfoldable pub has_all : List Entry → List Entry → Bool
has_all [] es = true
has_all (o ∷ os) es = has o.key es and has_all os es

-- The numbers, one for each entry of the second list, changed by f for each whose key the first list has.
unfoldable pub on_each : (ℕ → ℕ) → List Entry → List Entry → List ℕ → List ℕ
on_each f os [] cs = cs
on_each f os (e ∷ es) [] = []
on_each f os (e ∷ es) (c ∷ cs) = (when has e.key os then f c else c) ∷ on_each f os es cs

-- The counts, one for each entry of the second list, with n more for each whose key the first list has.
abbrev pub tallied : ℕ → List Entry → List Entry → List ℕ → List ℕ
tallied n os es cs = on_each (λ (c : ℕ). c + n) os es cs

-- The marks, one for each entry of the second list, with the turn's number for each whose key the first list has.
abbrev pub marked : ℕ → List Entry → List Entry → List ℕ → List ℕ
marked turn os es ms = on_each (λ (m : ℕ). turn) os es ms

-- No entry has the turn's mark.
abbrev pub Unmarked : ℕ → List ℕ → Type 0
Unmarked turn ms = (i : ℕ) → get_or ms i 0 ≡ turn → ⊥

-- The numbers, one for each entry, changed by f for the one that is sought, unless it has the turn's mark.
unfoldable pub on_one : (ℕ → ℕ) → ℕ → Option ℕ → List ℕ → List ℕ → List ℕ
on_one f turn None ms cs = cs
on_one f turn (Some i) ms cs = when eqb (get_or ms i 0) turn then cs else set cs i (f (get_or cs i 0))

-- The counts with n more for the entry that is sought, once a turn.
abbrev pub tallied_once : ℕ → ℕ → Option ℕ → List ℕ → List ℕ → List ℕ
tallied_once n turn r ms cs = on_one (λ (c : ℕ). c + n) turn r ms cs

-- The marks with the turn's number for the entry that is sought.
abbrev pub marked_once : ℕ → Option ℕ → List ℕ → List ℕ
marked_once turn r ms = on_one (λ (m : ℕ). turn) turn r ms ms

-- No count passes 65,535.
abbrev pub Few : List ℕ → Type 0
Few cs = (i : ℕ) → get_or cs i 0 ≤ greatest_count

-- What a turn needs that is to tally n for each key of the first list: a count and a mark for each entry of the second, none of them the
-- turn's, and no count that passes 65,535 then.
pub record TurnReady (turn n : ℕ) (os es : List Entry) (cs ms : List ℕ) : Type 0 where
  pub counts : length cs ≡ length es
  pub marks : length ms ≡ length es
  pub fresh : Unmarked turn ms
  pub few : Few (tallied n os es cs)

-- What the turn comes to: whether each key has an entry and, if so, the counts and the marks.
pub record Taken (turn n : ℕ) (os es : List Entry) (cs ms cs' ms' : List ℕ) (known : Bool) : Type 0 where
  pub told : known ≡ has_all os es
  pub counted : known ≡ true → cs' ≡ tallied n os es cs
  pub noted : known ≡ true → ms' ≡ marked turn os es ms

-- Each entry counts what was tallied for it.
unfoldable pub same_counts : List Entry → List ℕ → Bool
same_counts [] cs = true
same_counts (e ∷ es) [] = false
same_counts (e ∷ es) (c ∷ cs) = eqb e.count c and same_counts es cs
