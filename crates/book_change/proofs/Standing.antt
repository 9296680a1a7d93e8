-- A section of a book that stands in words: what a call that changes it asks, and what the words are then. Assumes nothing.
use Prim.Native.Nat.{ℕ, ◌+◌, ◌-◌, ◌≤◌}
use mathlib.Core.Path.{◌≡◌, refl, sym, ap, ◌∙◌}
use mathlib.Core.Bool.{true}
use mathlib.Core.List.{List}
use native.Mathlib.Omega.{arith}
use lib.ListN.{length, get_or, set, drop, length-drop}
use borrow.Rule.Slice.PartMut.{put_mid}
use Rattle.words.proofs.Shifts.{tail_back}
use Rattle.section.specs.Entries.{Entry, section_words, entries, span, Even, Sorted}
use Rattle.section_change.specs.Editing.{fitting, Laid, Edited}
use Rattle.section_change.specs.declared.Size.{Size}
use Rattle.section_change.proofs.Relaying.{length-size}
use Rattle.book.specs.Book.{section_of, used, live, lay, with_section}
use Rattle.book.specs.Decoding.{book_in, slot_of}
use Rattle.book.specs.declared.Section.{Section}
use Rattle.book.proofs.Meaning.{form-proper, section-even, used-fits}
use Rattle.book.proofs.Sections.{form-sorted}
use Rattle.book.proofs.Around.{start_is, used-with, used-split, slot_read, live_laid, section-with}
use Rattle.book_change.specs.Changing.{changed, changed_in, lives_then, LivesReady, Lacks, SectionStands, Ready}
use Rattle.book_change.specs.declared.Change.{Change}
use Rattle.book_change.proofs.Sections.{form-fitting, start-used, part-entries, part-span, part-laid, used-then, then_laid}

-- A section that stands in words.
module _ (ws : List ℕ) (s : Section) (at uses : ℕ) (h : SectionStands ws s at uses) where
  -- The keys of the section have two words a node.
  stand_even : Even (section_of s (book_in ws))
  stand_even = section-even s (book_in ws) ((form-proper (book_in ws) h.form).section s)

  -- The used words are within the slice.
  pub stand_fits : used (book_in ws) ≤ length ws
  stand_fits = used-fits ws (book_in ws) h.laid

  -- The section starts within the used words.
  pub stand_start : at ≤ used (book_in ws)
  stand_start = start-used ws s (book_in ws) h.laid stand_even stand_fits at h.start

  -- The head's live teachings are the book's.
  stand_live : get_or ws 2 0 ≡ live (book_in ws)
  stand_live = live_laid ws (book_in ws) h.laid

  -- The number of entries that the head has.
  module _ (word : ℕ) (slot : word ≡ slot_of s) where
    -- It is that of the section.
    stand_many : get_or ws word 0 ≡ length (section_of s (book_in ws))
    stand_many = ap (get_or ws word) refl ∙ ap (λ (i : ℕ). get_or ws i 0) slot ∙ ap (λ (l : List ℕ). get_or l (slot_of s) 0) (sym h.laid) ∙ slot_read s (length ws) (book_in ws)

    -- So many entries are those of the section.
    stand_entries : entries (get_or ws word 0) (drop at ws) ≡ section_of s (book_in ws)
    stand_entries = part-entries ws s (book_in ws) h.laid stand_even stand_fits at h.start (get_or ws word 0) stand_many

    -- They take its words.
    stand_span : span (get_or ws word 0) (drop at ws) ≡ length (section_words (section_of s (book_in ws)))
    stand_span = part-span ws s (book_in ws) h.laid stand_even stand_fits at h.start (get_or ws word 0) stand_many

    -- They stand so that they can be changed.
    stand_laid : Laid (drop at ws) (get_or ws word 0) (uses - at)
    stand_laid = part-laid ws s (book_in ws) h.laid stand_even stand_fits at h.start (get_or ws word 0) uses stand_many h.end

    -- They are sorted.
    stand_sorted : Sorted (entries (get_or ws word 0) (drop at ws))
    stand_sorted = rw stand_entries (form-sorted (book_in ws) h.form s)

    -- Their words are all there.
    stand_whole : span (get_or ws word 0) (drop at ws) ≤ length (drop at ws)
    stand_whole = rw (stand_span, length-drop) (omega (arith, stand_fits, start_is s (book_in ws), used-split s (book_in ws), h.start))

-- ---- a section changed by the same section of another book

module _ (ws vs : List ℕ) (c : Change) (s : Section) (at uses from ends : ℕ) (h : SectionStands ws s at uses) (o : SectionStands vs s from ends) (r : Ready (length ws) c s (book_in vs) (book_in ws)) (word : ℕ) (slot : word ≡ slot_of s) where
  -- The section's entries then.
  entries-then : List Entry
  entries-then = changed c (section_of s (book_in vs)) (section_of s (book_in ws))

  -- The entries read and changed are these.
  changed-read : changed c (entries (get_or vs word 0) (drop from vs)) (entries (get_or ws word 0) (drop at ws)) ≡ entries-then
  unfolding entries-then
  changed-read = rw (stand_entries ws s at uses h word slot, stand_entries vs s from ends o word slot)

  -- The words used then.
  room-then : used (with_section s entries-then (book_in ws)) ≤ length ws
  unfolding entries-then changed_in
  room-then = r.room

  -- The live teachings then.
  live_then : live (with_section s entries-then (book_in ws)) ≡ lives_then c s (get_or ws 2 0) (get_or vs 2 0)
  unfolding entries-then changed_in
  live_then = r.lives ∙ rw (stand_live ws s at uses h, stand_live vs s from ends o)

  -- They can be changed so.
  pub lives-ready : LivesReady c s (get_or ws 2 0) (get_or vs 2 0)
  lives-ready = rw (stand_live ws s at uses h, stand_live vs s from ends o) r.counts

  -- What the change of the entries asks.
  pub entries-ready : (part other : List ℕ) → part ≡ drop at ws → other ≡ drop from vs
      → (Laid part (get_or ws word 0) (uses - at) × Sorted (entries (get_or ws word 0) part))
      × ((span (get_or vs word 0) other ≤ length other) × Sorted (entries (get_or vs word 0) other))
      × ((length (section_words (changed c (entries (get_or vs word 0) other) (entries (get_or ws word 0) part))) + (uses - at - span (get_or ws word 0) part) ≤ length part)
      × (fitting (changed c (entries (get_or vs word 0) other) (entries (get_or ws word 0) part)) ≡ true))
  unfolding entries-then changed_in
  entries-ready part other e f = rw (e, f, changed-read) (
    (stand_laid ws s at uses h word slot, stand_sorted ws s at uses h word slot),
    (stand_whole vs s from ends o word slot, stand_sorted vs s from ends o word slot),
    (
      rw (stand_span ws s at uses h word slot, length-drop) (omega (arith, h.end, h.start, start_is s (book_in ws), used-split s (book_in ws), used-with s entries-then (book_in ws), room-then)),
      ap fitting (sym (section-with s entries-then (book_in ws))) ∙ form-fitting (changed_in c s (book_in vs) (book_in ws)) r.form s,
    ),
  )

  -- What is lacking of the section is lacking of the entries that are read.
  pub lacks_ready : (part other : List ℕ) → part ≡ drop at ws → other ≡ drop from vs → (n : ℕ) → Lacks c n (section_of s (book_in vs)) (section_of s (book_in ws))
      → Lacks c n (entries (get_or vs word 0) other) (entries (get_or ws word 0) part)
  lacks_ready part other e f n l = rw (e, f, stand_entries ws s at uses h word slot, stand_entries vs s from ends o word slot) l

  -- The words once the entries are changed.
  module _ (part other last : List ℕ) (size : Size) (e : part ≡ drop at ws) (f : other ≡ drop from vs) (edit : Edited part (get_or ws word 0) (uses - at) (changed c (entries (get_or vs word 0) other) (entries (get_or ws word 0) part)) last size) where
    -- The change by the section's entries.
    edited : Edited (drop at ws) (get_or ws word 0) (uses - at) entries-then last size
    edited = rw (e, f, changed-read) at edit

    -- The words used are those of the changed book.
    pub end-then : at + size.used ≡ used (changed_in c s (book_in vs) (book_in ws))
    unfolding entries-then changed_in
    end-then =
        used-then ws s (book_in ws) h.laid (stand_even ws s at uses h) (stand_fits ws s at uses h) at h.start (get_or ws word 0) uses (stand_many ws s at uses h word slot) h.end entries-then last size edited room-then

    -- There are no more entries then than words used.
    pub many-then : size.many ≤ at + size.used
    many-then = omega (arith, edited.counts, edited.uses, length-size entries-then)

    -- With the head's words written the words are the changed book's.
    pub words-then : (live' : ℕ) → live' ≡ lives_then c s (get_or ws 2 0) (get_or vs 2 0)
        → set (set (set (put_mid at (length ws - at) ws last) 1 (at + size.used)) 2 live') word size.many ≡ lay (length ws) (changed_in c s (book_in vs) (book_in ws))
    unfolding entries-then changed_in
    words-then live' g =
        rw (tail_back at ws (omega (arith, stand_start ws s at uses h, stand_fits ws s at uses h)) last)
        (then_laid ws s (book_in ws) h.laid (stand_even ws s at uses h) (stand_fits ws s at uses h) at h.start (get_or ws word 0) uses (stand_many ws s at uses h word slot) h.end entries-then last size edited room-then live' word (g ∙ sym live_then) slot)
