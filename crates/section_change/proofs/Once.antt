-- An entry that is entered once: the words of a part once it stands where a search has its place. Assumes nothing.
use Prim.Native.Nat.{ℕ, ◌+◌, ◌-◌, ◌≤◌}
use mathlib.Core.Path.{◌≡◌, refl, sym, ap, ◌∙◌}
use mathlib.Core.List.Memᴰ.{head as here}
use mathlib.Core.List.Memᴰ.{tail as there}
use mathlib.Core.List.{List, [], ◌∷◌, ◌++◌, append_assoc}
use native.Mathlib.Omega.{arith}
use lib.ListN.{length, take, drop}
use lib.Seq.{take_all}
use Rattle.words.specs.Base.{◌∈◌}
use Rattle.words.specs.Compare.{◌≺◌}
use Rattle.section.specs.Entries.{Entry, counted, entry_words, section_words, width, first_entry, entries, look, Below, Sorted, add, add_once}
use Rattle.section_change.specs.Editing.{Laid, Edited}
use Rattle.section.specs.declared.Found.TheVariants.{At, Absent}
use Rattle.section.proofs.Searches.{look-gap}
use Rattle.section.proofs.Near.{there-told}
use Rattle.section.proofs.Sorting.{add-below}
use Rattle.section.proofs.Once.{once_has, once_lacks}
use Rattle.section_change.proofs.Relaying.{Reached, behind, first-words, reached-few, reached-none, reached-over, reached-enter, reached-edited}

-- ---- entries

-- n more of a key that has no entry are entered between the entries with lower keys and the others.
add-gap : (n : ℕ) (key : List ℕ) (front back : List Entry) → ((e : Entry) → e ∈ front → e.key ≺ key) → Below key back
    → add n key (front ++ back) ≡ front ++ (counted key n ∷ back)
unfolding add
add-gap n key [] back low high = add-below n key back high
add-gap n key (f ∷ front) back low high = rw (low f (here refl), add-gap n key front back (λ e m. low e (there m)) high)

-- ---- words

-- Words that one entry fills are its words.
pub spelt-entry : (ws : List ℕ) → width ws ≡ length ws → ws ≡ entry_words (first_entry ws)
spelt-entry ws h = sym (take_all (width ws) ws (omega arith)) ∙ first-words ws (omega arith)

module _ (ws : List ℕ) (n used : ℕ) (laid : Laid ws n used) where
  -- There are no more entries than words.
  pub laid-few : n ≤ length ws
  laid-few = reached-few _ _ _ _ _ _ _ _ (reached-none ws n used laid)

  -- The place between two runs of the entries.
  reached-between : (front back : List Entry) (at : ℕ) → entries n ws ≡ front ++ back → at ≡ 0 + length (section_words front)
      → Reached front back (behind n used ws) ws at (length back) used n
  reached-between front back at is place = rw place (reached-over [] front back (behind n used ws) ws 0 n used n (rw is at (reached-none ws n used laid)))

  module _ (key : List ℕ) (at m l h : ℕ) (gap : look key 0 0 0 (entries n ws) ≡ Absent at m l h) where
    -- The place of a key not found.
    reached-gap : let g = look-gap key 0 0 0 at m l h (entries n ws) gap in Reached g.front g.back (behind n used ws) ws at (length g.back) used n
    reached-gap = let g = look-gap key 0 0 0 at m l h (entries n ws) gap in reached-between g.front g.back at g.is g.place

    -- It lies within the words that are used.
    pub gap_within : at ≤ used
    gap_within = omega (arith, reached-gap.uses)

  module _ (e : Entry) (s : Sorted (entries n ws)) where
    -- Where the key is found nothing changes.
    pub once_found : (at m : ℕ) → look e.key 0 0 0 (entries n ws) ≡ At at m → Edited ws n used (add_once e (entries n ws)) ws (record { used = used; many = n })
    once_found at m found =
        reached-edited ws n used laid [] (entries n ws) _ ws 0 n used n (reached-none ws n used laid) (once_has e (entries n ws) (there-told e.key 0 (entries n ws) s (At at m) found)) refl

    -- Where it is not found its words are entered at the place.
    pub once_entered : (at m l h : ℕ) (entry book : List ℕ) → look e.key 0 0 0 (entries n ws) ≡ Absent at m l h → entry ≡ entry_words e → used + length entry ≤ length ws
        → book ≡ take at ws ++ (entry ++ (take (used - at) (drop at ws) ++ drop (used - at + length entry) (drop at ws))) → length book ≡ length ws
        → Edited ws n used (add_once e (entries n ws)) book (record { used = used + length entry; many = n + 1 })
    once_entered at m l h entry book gap is fits now long =
        let g = look-gap e.key 0 0 0 at m l h (entries n ws) gap in
        let r = reached-gap e.key at m l h gap in
        let all : add_once e (entries n ws) ≡ (g.front ++ (e ∷ [])) ++ g.back =
        once_lacks e (entries n ws) (there-told e.key 0 (entries n ws) s (Absent at m l h) gap) ∙ ap (add e.count e.key) g.is
        ∙ add-gap e.count e.key g.front g.back g.below g.above ∙ sym (append_assoc g.front (e ∷ []) g.back) in
        reached-edited ws n used laid (g.front ++ (e ∷ [])) g.back _ book _ _ _ _
        (reached-enter g.front g.back (behind n used ws) ws at (length g.back) used n r e entry book (length entry) is refl fits now)
        all long
