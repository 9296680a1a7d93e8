-- The parts of an order, listed one after the other in a slice: what a turn of the loop over the lines does. Assumes nothing.
use Prim.Native.Nat.{ℕ, ◌+◌, ◌*◌, ◌-◌, ◌/◌, ◌≤◌, ◌<◌}
use mathlib.Core.Path.{◌≡◌, refl, ap, ap₂, subst, ◌∙◌}
use mathlib.Core.Bool.{Bool, true, false, beq}
use mathlib.Core.List.{List, [], append-nil}
use native.Mathlib.Omega.{arith}
use lib.ListN.{length, take, drop, replicate, length-append, length-drop, length-replicate}
use lib.Seq.{drop-append_seam, take_at, take-length}
use Rattle.words.specs.Base.{over}
use Rattle.figures.specs.Limits.{least_k}
use Rattle.figures.specs.Numbers.{done}
use Rattle.section.specs.Entries.{Entry, counted, entry_words, section_words, Even, width, first_entry, entries, span, Sorted, add_once}
use Rattle.section.proofs.Words.{words-entries, words-span}
use Rattle.section.proofs.Once.{even_once, size-once}
use Rattle.section_change.specs.Editing.{Laid, padded, relaid, Edited}
use Rattle.section_change.specs.declared.Size.{Size}
use Rattle.order.specs.Trees.{Tree, subtrees}
use Rattle.order.specs.Reading.{by_order, cause_of}
use Rattle.order.specs.Standing.{cut_of}
use Rattle.order.proofs.Causes.{has-tree}
use Rattle.book_listing.specs.Own.{entry-words, occurring, each_words, part_words, list_of}
use Rattle.book_listing.proofs.Parts.{parts_of_kind, parts_all, Gone, gone_none, gone_all, gone_passed, gone_entered, part_here, TellsLow, cut-few, cut-even, parts-past, words-here}

-- ---- the words of a list that grows

-- Behind the words of a slice stand zeros.
behind-zeros : (n : ℕ) (ws : List ℕ) → drop (length ws) (padded n ws) ≡ replicate (n - length ws) 0
unfolding padded
behind-zeros n ws = drop-append_seam ws (replicate (n - length ws) 0)

module _ (n : ℕ) (es : List Entry) (even : Even es) (fits : length (section_words es) ≤ n) where
  -- The list's words and the zeros fill the slice.
  padded-long : length (padded n (section_words es)) ≡ n
  unfolding padded
  padded-long = simp (length-append, length-replicate) (omega arith)

  -- The entries are read back from the slice.
  padded-entries : entries (length es) (padded n (section_words es)) ≡ es
  unfolding padded
  padded-entries = words-entries es _ even

  -- They take their words.
  padded-span : span (length es) (padded n (section_words es)) ≡ length (section_words es)
  unfolding padded
  padded-span = words-span es _ even

  -- They stand at the front, and zeros behind them.
  padded-laid : Laid (padded n (section_words es)) (length es) (length (section_words es))
  padded-laid = record {
    within = omega (arith, padded-span);
    room = omega (arith, padded-long);
    zeros = rw padded-long (behind-zeros n (section_words es));
  }

  -- With other entries for all of them, the slice has the words of these.
  padded-relaid : (new : List Entry) → relaid (length es) (length (section_words es)) new (padded n (section_words es)) ≡ padded n (section_words new)
  unfolding relaid
  padded-relaid new =
      let none : length (section_words es) - span (length es) (padded n (section_words es)) ≡ 0 = omega (arith, padded-span) in
      rw (none, padded-long, append-nil)

  -- The same of a slice that was edited.
  padded-edited : (new : List Entry) (out now : List ℕ) (many used : ℕ) (size : Size) → out ≡ padded n (section_words es) → many ≡ length es → used ≡ length (section_words es)
      → Edited out many used new now size → (now ≡ padded n (section_words new)) × (size.used ≡ length (section_words new)) × (size.many ≡ length new)
  padded-edited new out now many used size is counts uses ed =
      let spans : span many out ≡ length (section_words es) = rw (is, counts) padded-span in
      (ed.words ∙ rw (is, counts, uses) (padded-relaid new), omega (arith, ed.uses, spans, uses), ed.counts)

-- ---- an entry's words

module _ (e : Entry) (even : 2 * (length e.key / 2) ≡ length e.key) where
  -- Its words say how many they are.
  entry-width : width (entry_words e) ≡ length (entry_words e)
  entry-width = omega (arith, even)

  -- It is read back from them.
  entry_first : first_entry (entry_words e) ≡ e
  entry_first = rw (even, take-length)

-- ---- the loop that lists

-- The loop's place: so many entries are listed at the front of `out`, those of the lines gone over; `out` has room for an entry of each part
-- left, and `entry` for any one.
pub record Listing (low : Bool) (k n : ℕ) (os out₀ out entry : List ℕ) (line used many : ℕ) : Type 0 where
  pub tree : Tree
  pub listed : List Entry
  pub gone : Gone low k n os tree line listed
  pub even : Even listed
  pub words : out ≡ padded (length out₀) (section_words listed)
  pub long : length out ≡ length out₀
  pub uses : used ≡ length (section_words listed)
  pub counts : many ≡ length listed
  pub room : used + each_words (parts_of_kind low k (drop line (subtrees tree))) ≤ length out
  pub spare : length entry ≡ entry-words

-- A place by other names.
pub listing_named : (low : Bool) (k n : ℕ) (os out₀ out entry : List ℕ) (line : ℕ) (size : Size) (out' entry' : List ℕ) (size' : Size) → out' ≡ out → entry' ≡ entry → size' ≡ size
    → Listing low k n os out₀ out entry line size.used size.many → Listing low k n os out₀ out' entry' line size'.used size'.many
listing_named low k n os out₀ out entry line size out' entry' size' o e s st = rw (o, e, s) st

-- Before the first line nothing is listed.
pub list_start : (low : Bool) (k n : ℕ) (os out entry : List ℕ) → 1 ≤ n → cause_of os ≡ done → out ≡ replicate (length out) 0 → part_words low k os ≤ length out
    → length entry ≡ entry-words → Listing low k n os out out entry 0 0 0
unfolding part_words by_order Even padded section_words
list_start low k n os out entry some e zeros room spare =
    let x = has-tree os e in
    let t = x.tree in
    let p = x.passes in
    let none : length out - 0 ≡ length out = omega arith in
    let all : each_words (occurring low k t) ≤ length out = rw p.is at room in
    record {
      tree = t;
      listed = [];
      gone = gone_none low k n os t some p;
      even = tt;
      words = rw none zeros;
      long = refl;
      uses = refl;
      counts = refl;
      room = rw (parts_all low k t) (omega arith);
      spare = spare;
    }

-- The parts that are listed past the last line.
pub list_end : (low : Bool) (k n : ℕ) (os out₀ out entry : List ℕ) (line used many : ℕ) (st : Listing low k n os out₀ out entry line used many) → length os / 2 ≤ line
    → st.listed ≡ list_of low k n os
list_end low k n os out₀ out entry line used many st past = gone_all low k n os st.tree line st.listed st.gone past

module _ (low : Bool) (k n : ℕ) (os out₀ out entry : List ℕ) (line used many : ℕ) (st : Listing low k n os out₀ out entry line used many) (more : line < length os / 2)
    (b : Bool) (least : least_k ≤ k) (is : TellsLow b k os line) where
  -- A line of the other kind leaves the list as it is.
  pub line-passed : beq b low ≡ false → Listing low k n os out₀ out entry (line + 1) used many
  line-passed other =
      record {
        tree = st.tree;
        listed = st.listed;
        gone = gone_passed low k n os st.tree line st.listed st.gone more b least is other;
        even = st.even;
        words = st.words;
        long = st.long;
        uses = st.uses;
        counts = st.counts;
        room = rw (← parts-past low k n os st.tree line st.listed st.gone more b least is other) st.room;
        spare = st.spare;
      }

  module _ (same : beq b low ≡ true) where
    -- The entry of the line's part.
    abbrev this : Entry
    this = part_here k n os line

    -- It has two words a node.
    this-even : 2 * (length this.key / 2) ≡ length this.key
    this-even = cut-even low k n os st.tree line st.listed st.gone more (k - 1)

    -- There is room for it and for those behind it.
    part_room : used + (2 + length this.key) + each_words (parts_of_kind low k (drop (line + 1) (subtrees st.tree))) ≤ length out
    part_room = omega (arith, st.room, words-here low k n os st.tree line st.listed st.gone more b least is same)

    -- What is written of it: the cut at d = k-1, up to `end`.
    module _ (d end : ℕ) (entry' : List ℕ) (deep : d ≡ k - 1) (ends : end ≡ 2 + length (cut_of os (line * 2) d))
        (wrote : entry' ≡ over (entry_words (counted (cut_of os (line * 2) d) n)) entry) where
      -- The entry's words stand before the end.
      entry_here : take end entry' ≡ entry_words this
      entry_here =
          let is_cut : cut_of os (line * 2) d ≡ this.key = ap (cut_of os (line * 2)) deep in
          let long : length (entry_words this) ≡ end = omega (arith, ends, ap length is_cut) in
          ap (take end) (wrote ∙ ap (λ (w : List ℕ). over (entry_words (counted w n)) entry) is_cut) ∙ take_at (entry_words this) (drop (length (entry_words this)) entry) end long

      -- The words that are listed have room.
      listed-fits : length (section_words st.listed) ≤ length out₀
      listed-fits = omega (arith, part_room, st.uses, st.long)

      -- The entries are those listed.
      listed_here : entries many out ≡ st.listed
      listed_here = ap₂ entries st.counts st.words ∙ padded-entries (length out₀) st.listed st.even listed-fits

      -- It can be entered.
      pub enter_ready : (Laid out many used × Sorted (entries many out)) × ((width (take end entry') ≡ length (take end entry')) × (used + length (take end entry') ≤ length out))
      enter_ready =
          let laid : Laid out many used = rw (st.words, st.counts, st.uses) (padded-laid (length out₀) st.listed st.even listed-fits) in
          ((laid, rw listed_here st.gone.sorted), (rw entry_here (entry-width this this-even), rw entry_here (omega (arith, part_room))))

      -- Once it is entered the lines behind it are left.
      pub line-entered : (out' : List ℕ) (size : Size) → Edited out many used (add_once (first_entry (take end entry')) (entries many out)) out' size
          → Listing low k n os out₀ out' entry' (line + 1) size.used size.many
      line-entered out' size ed =
          let m = length out₀ in
          let new : List Entry = add_once this st.listed in
          let is-new : add_once (first_entry (take end entry')) (entries many out) ≡ new = ap₂ add_once (ap first_entry entry_here ∙ entry_first this this-even) listed_here in
          let after = padded-edited m st.listed st.even listed-fits new out out' many used size st.words st.counts st.uses (subst (λ (es : List Entry). Edited out many used es out' size) is-new ed) in
          let more-words : length (section_words new) ≤ length (section_words st.listed) + (2 + length this.key) = size-once this st.listed st.gone.sorted in
          let even = even_once this st.listed this-even st.even in
          let fits : length (section_words new) ≤ m = omega (arith, more-words, part_room, st.uses, st.long) in
          let long : length out' ≡ m = ap length after.0 ∙ padded-long m new even fits in
          record {
            tree = st.tree;
            listed = new;
            gone = gone_entered low k n os st.tree line st.listed st.gone more b least is same;
            even = even;
            words = after.0;
            long = long;
            uses = after.1;
            counts = after.2;
            room = omega (arith, after.1, more-words, part_room, st.uses, st.long, long);
            spare = ap length wrote ∙ simp (length-append, length-drop) (omega (arith, cut-few low k n os st.tree line st.listed st.gone more d, st.spare));
          }
