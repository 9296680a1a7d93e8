-- The slice that an order's own book is listed in, section by section, and its head. Assumes nothing.
use Prim.Native.Nat.{ℕ, ◌+◌, ◌-◌, ◌≤◌, ◌<◌}
use mathlib.Core.Path.{◌≡◌, refl, sym, ap, ◌∙◌}
use mathlib.Core.List.{List, [], ◌∷◌, ◌++◌, append_assoc}
use native.Mathlib.Omega.{arith}
use lib.ListN.{length, take, drop, set, replicate, length-append, length-replicate, replicate-append-replicate}
use lib.Seq.{take_at, drop_at}
use borrow.Rule.Slice.PartMut.{put_mid}
use Rattle.words.specs.Base.{over}
use Rattle.words.proofs.Shifts.{tail_all, tail_back}
use Rattle.figures.specs.Limits.{head_words, least_k, greatest_k}
use Rattle.figures.specs.Numbers.{done}
use Rattle.section.specs.Entries.{Entry, entry_words, section_words}
use Rattle.section_change.specs.Editing.{padded, extent_of}
use Rattle.section_change.specs.declared.Size.{Size}
use Rattle.section_change.proofs.Relaying.{drop-zeros, length-size}
use Rattle.order.specs.Reading.{cause_of}
use Rattle.book.specs.Book.{Book, section_of, body, used, live, encode, lay}
use Rattle.book.specs.declared.Section.{Section}
use Rattle.book.specs.declared.Section.TheVariants.{Taught, Tops, Lows, Middles}
use Rattle.book.specs.Decoding.{places_of}
use Rattle.book.specs.declared.Places.{Places}
use Rattle.book.proofs.Meaning.{used_is}
use Rattle.book_listing.specs.Own.{own_words, own_of, room_for}
use Rattle.book_listing.proofs.Owning.{few_words, one-words, section-short}

-- A list stands at the front of a slice, and zeros behind it; the size is that of the list.
abbrev pub Listed : List ℕ → List Entry → List ℕ → Size → Type 0
Listed was es now size = (size ≡ extent_of es) × (now ≡ padded (length was) (section_words es))

-- An entry that is written over zeros is a list.
pub one-listed : (e : Entry) (was now : List ℕ) (used : ℕ) → was ≡ replicate (length was) 0 → 2 + length e.key ≤ length was → used ≡ 2 + length e.key
    → now ≡ over (entry_words e) was → Listed was (e ∷ []) now (record { used = used; many = 1 })
unfolding padded
one-listed e was now used zeros fits uses wrote =
    let rest : over (entry_words e) was ≡ entry_words e ++ replicate (length was - length (entry_words e)) 0 =
    ap (over (entry_words e)) zeros ∙ ap (λ (l : List ℕ). entry_words e ++ l) (drop-zeros (length was) (length (entry_words e)) (omega arith)) in
    let wide : used ≡ length (entry_words e) = omega arith in
    rw (one-words e) (rw wide refl, wrote ∙ rest)

-- ---- section by section

-- In a slice of n words stand zeros for the head, then these words, up to `at`, and then zeros, which are at least `left`.
pub record Stage (n : ℕ) (ws now : List ℕ) (at left : ℕ) : Type 0 where
  pub words : now ≡ replicate head_words 0 ++ padded (n - head_words) ws
  pub place : at ≡ head_words + length ws
  pub room : at + left ≤ n

-- A slice of zeros has no words yet.
pub stage_start : (own : List ℕ) (left : ℕ) → head_words + left ≤ length own → own ≡ replicate (length own) 0 → Stage (length own) [] own head_words left
unfolding padded
stage_start own left long zeros =
    let n = length own in
    let o : ℕ = 0 in
    let whole : n ≡ head_words + (n - head_words - 0) = omega arith in
    record {
      words = zeros ∙ ap (λ (m : ℕ). replicate m o) whole ∙ sym (replicate-append-replicate head_words (n - head_words - 0) o);
      place = refl;
      room = long;
    }

module _ (n : ℕ) (ws now : List ℕ) (at left : ℕ) (s : Stage n ws now at left) where
  -- The slice has n words.
  pub stage_long : length now ≡ n
  unfolding padded
  stage_long = ap length s.words ∙ simp (length-append, length-replicate) (omega (arith, s.place, s.room))

  -- The place lies within it.
  pub stage_within : at ≤ length now
  stage_within = omega (arith, stage_long, s.room)

  -- So do the words of the head.
  pub stage_head : (i : ℕ) → i < head_words → i < length now
  stage_head i h = omega (arith, stage_within, s.place)

  -- The words up to the place, and the zeros behind it.
  stage_split : now ≡ (replicate head_words 0 ++ ws) ++ replicate (n - at) 0
  unfolding padded
  stage_split =
      let o : ℕ = 0 in
      let rest : n - head_words - length ws ≡ n - at = omega (arith, s.place) in
      s.words ∙ rw rest (sym (append_assoc (replicate head_words o) ws (replicate (n - at) o)))

  -- The place is past the words.
  stage_front-long : length (replicate {A = ℕ} head_words 0 ++ ws) ≡ at
  stage_front-long = omega (arith, s.place)

  -- Before the place stand the head and the words.
  stage_front : take at now ≡ replicate head_words 0 ++ ws
  stage_front = ap (take at) stage_split ∙ take_at (replicate head_words 0 ++ ws) (replicate (n - at) 0) at stage_front-long

  -- What is lent from the place on are zeros.
  stage_lent : take (length now - at) (drop at now) ≡ replicate (n - at) 0
  stage_lent =
      tail_all at now stage_within ∙ ap (drop at) stage_split ∙ drop_at (replicate head_words 0 ++ ws) (replicate (n - at) 0) at stage_front-long

  -- So many words are lent.
  stage_lent-long : length (take (length now - at) (drop at now)) ≡ n - at
  stage_lent-long = ap length stage_lent ∙ length-replicate (n - at) 0

  -- What is still to be listed has room in them.
  pub stage_fits : (m : ℕ) → m ≤ left → m ≤ length (take (length now - at) (drop at now))
  stage_fits m h = omega (arith, stage_lent-long, s.room)

  -- All that is lent is zero.
  pub stage_zeros : take (length now - at) (drop at now) ≡ replicate (length (take (length now - at) (drop at now))) 0
  stage_zeros = stage_lent ∙ let o : ℕ = 0 in ap (λ (m : ℕ). replicate m o) (sym stage_lent-long)

-- Once a section is listed there the next one is left.
pub stage_listed : (n : ℕ) (ws now : List ℕ) (at m left : ℕ) → Stage n ws now at (m + left) → (es : List Entry) (size : Size) (last : List ℕ)
    → length (section_words es) ≤ m → Listed (take (length now - at) (drop at now)) es last size
    → Stage n (ws ++ section_words es) (put_mid at (length now - at) now last) (at + size.used) left
unfolding padded
stage_listed n ws now at m left s es size last short is =
    let w = section_words es in
    let uses : size.used ≡ length w = ap (λ (z : Size). z.used) is.0 in
    let rest : n - at - length w ≡ n - head_words - length (ws ++ w) = rw length-append (omega (arith, s.place)) in
    record {
      words = tail_back at now (stage_within n ws now at (m + left) s) last
          ∙ rw (stage_front n ws now at (m + left) s, is.1, stage_lent-long n ws now at (m + left) s, rest) (simp append_assoc);
      place = rw length-append (omega (arith, s.place, uses));
      room = omega (arith, s.room, uses);
    }

-- ---- the four sections

-- The slice once a section is listed from a place on.
abbrev pub listed-from : ℕ → List ℕ → List ℕ → List ℕ
listed-from at own last = put_mid at (length own - at) own last

module _ (os : List ℕ) (k n : ℕ) where
  -- The words of a section of the order's own book.
  abbrev words : Section → List ℕ
  words s = section_words (section_of s (own_of k n os))

  -- The order is listed.
  abbrev pub Whole : ℕ → List ℕ → ℕ → Type 0
  Whole long now at = Stage long (words Taught) now at (room_for Tops k os + (room_for Lows k os + room_for Middles k os))

  -- Its top too.
  abbrev pub WithTop : ℕ → List ℕ → ℕ → Type 0
  WithTop long now at = Stage long (words Taught ++ words Tops) now at (room_for Lows k os + room_for Middles k os)

  -- Its low parts too.
  abbrev pub WithLows : ℕ → List ℕ → ℕ → Type 0
  WithLows long now at = Stage long ((words Taught ++ words Tops) ++ words Lows) now at (room_for Middles k os)

  -- Its middle parts too, so that all is listed.
  abbrev pub WithAll : ℕ → List ℕ → ℕ → Type 0
  WithAll long now at = Stage long (((words Taught ++ words Tops) ++ words Lows) ++ words Middles) now at 0

  -- What is listed in a section from a place on.
  abbrev pub ListedThere : Section → ℕ → List ℕ → List ℕ → Size → Type 0
  ListedThere s at own = Listed (take (length own - at) (drop at own)) (section_of s (own_of k n os))

  module _ (sound : cause_of os ≡ done) (deep : (least_k ≤ k) × (k ≤ greatest_k)) (some : 1 ≤ n) where
    -- A section has room.
    short : (s : Section) → length (words s) ≤ room_for s k os
    short s = section-short os sound k n some s

    -- All four have room.
    all_room : head_words + (room_for Taught k os + (room_for Tops k os + (room_for Lows k os + room_for Middles k os))) ≤ own_words
    all_room = omega (arith, few_words os sound k deep.0 deep.1)

    -- A section has no more entries than the slice has words.
    pub few : (s : Section) (size : Size) → size ≡ extent_of (section_of s (own_of k n os)) → size.many ≤ own_words
    few s size is = omega (arith, ap (λ (z : Size). z.many) is, length-size (section_of s (own_of k n os)), short s, most s)
      where
        most : (s : Section) → room_for s k os ≤ own_words
        most Taught = omega arith
        most Tops = omega (arith, all_room)
        most Lows = omega (arith, all_room)
        most Middles = omega (arith, all_room)

    -- Nothing is listed in a slice of zeros.
    pub none-listed : (own : List ℕ) → own ≡ replicate (length own) 0 → length own ≡ own_words
        → Stage (length own) [] own head_words (room_for Taught k os + (room_for Tops k os + (room_for Lows k os + room_for Middles k os)))
    none-listed own zeros long = stage_start own _ (omega (arith, all_room, long)) zeros

    -- Then the order is.
    pub whole-listed : (own : List ℕ) → own ≡ replicate (length own) 0 → length own ≡ own_words → (last : List ℕ) (size : Size) → ListedThere Taught head_words own last size
        → Whole (length own) (listed-from head_words own last) (head_words + size.used)
    whole-listed own zeros long last size is = stage_listed _ _ _ _ (room_for Taught k os) _ (none-listed own zeros long) _ _ _ (short Taught) is

    -- Then its top.
    pub top-listed : (long at : ℕ) (now : List ℕ) → Whole long now at → (last : List ℕ) (size : Size) → ListedThere Tops at now last size
        → WithTop long (listed-from at now last) (at + size.used)
    top-listed long at now st last size is = stage_listed _ _ _ _ (room_for Tops k os) _ st _ _ _ (short Tops) is

    -- Then its low parts.
    pub lows-listed : (long at : ℕ) (now : List ℕ) → WithTop long now at → (last : List ℕ) (size : Size) → ListedThere Lows at now last size
        → WithLows long (listed-from at now last) (at + size.used)
    lows-listed long at now st last size is = stage_listed _ _ _ _ (room_for Lows k os) _ st _ _ _ (short Lows) is

    -- Then its middle parts.
    pub all-listed : (long at : ℕ) (now : List ℕ) → WithLows long now at → (last : List ℕ) (size : Size) → ListedThere Middles at now last size
        → WithAll long (listed-from at now last) (at + size.used)
    all-listed long at now st last size is =
        stage_listed _ _ _ _ (room_for Middles k os) 0 (record { words = st.words; place = st.place; room = omega (arith, st.room) }) _ _ _ (short Middles) is

-- ---- the whole

module _ (b : Book) where
  -- The words of its four sections, as they are listed one behind the other.
  abbrev pub listed_words : List ℕ
  listed_words = ((section_words (section_of Taught b) ++ section_words (section_of Tops b)) ++ section_words (section_of Lows b)) ++ section_words (section_of Middles b)

  -- With the seven words of its head the slice is the book's.
  pub head_written : (n : ℕ) (now : List ℕ) (at left : ℕ) → Stage n listed_words now at left → (k times : ℕ) (whole top low middle : Size) → k ≡ b.k → live b ≡ times
      → whole ≡ extent_of (section_of Taught b) → top ≡ extent_of (section_of Tops b) → low ≡ extent_of (section_of Lows b) → middle ≡ extent_of (section_of Middles b)
      → set (set (set (set (set (set (set now 0 k) 1 at) 2 times) 3 whole.many) 4 top.many) 5 low.many) 6 middle.many ≡ lay n b
  unfolding lay encode used padded body section_of
  head_written n now at left s k times whole top low middle depth some t r l p =
      let is : listed_words ≡ body b = simp append_assoc refl in
      let past : n - head_words - length (body b) ≡ n - (head_words + length (body b)) = omega arith in
      rw (s.words, s.place, is, depth, ← some, t, r, l, p, past) refl

  -- Where its sections start.
  pub listed-places : (k : ℕ) (whole top low middle : Size) → k ≡ b.k
      → whole ≡ extent_of (section_of Taught b) → top ≡ extent_of (section_of Tops b) → low ≡ extent_of (section_of Lows b) → middle ≡ extent_of (section_of Middles b)
      → let tops : ℕ = head_words + whole.used in
      let lows : ℕ = tops + top.used in
      let middles : ℕ = lows + low.used in
      ◌≡◌ {A = Places} (record { k = record { k = k }; tops = tops; lows = lows; middles = middles; used = middles + middle.used }) (places_of b)
  unfolding places_of section_of
  listed-places k whole top low middle depth t r l p = rw (depth, t, r, l, p, used_is b) refl
