-- Entries at the front of a book that a loop passes one after the other, where it counts one anew, enters one or takes one out: the book's
-- words at each place that the loop reaches, and at its end. Assumes nothing.
use Prim.Native.Nat.{ℕ, zero, suc, ◌+◌, ◌*◌, ◌-◌, ◌/◌, ◌<◌, ◌≤◌}
use mathlib.Core.Path.{◌≡◌, refl, sym, ap, ap₂, ◌∙◌}
use mathlib.Core.List.{List, [], ◌∷◌, ◌++◌, append_assoc, append-nil}
use native.Mathlib.Nat.{add-zero, sub-zero}
use native.Mathlib.Omega.{arith}
use lib.ListN.{length, get_or, set, take, drop, replicate, length-append, length-take, length-drop, length-replicate, take-append-drop, replicate-append-replicate}
use lib.Seq.{length-take-le, drop-cons, get_or-drop, drop-drop, take_at, drop_at, get_or_at}
use Rattle.section.specs.Entries.{Entry, counted, entry_words, section_words, first_entry, width, entries, span, Even}
use Rattle.section_change.specs.Editing.{Laid, padded, relaid, Edited}
use Rattle.section.proofs.Sizes.{size-first}
use Rattle.section.proofs.Words.{length-entries, entries-words, entries-span, words-entries, words-span, entries-even, span-step}

-- ---- words of entries

-- The words of two runs of entries stand one after the other.
words_append : (es fs : List Entry) → section_words (es ++ fs) ≡ section_words es ++ section_words fs
unfolding section_words
words_append [] fs = refl
words_append (e ∷ es) fs = rw (words_append es fs) (sym (append_assoc (entry_words e) (section_words es) (section_words fs)))

-- The words of a last entry stand behind those of the others.
words_last : (es : List Entry) (e : Entry) → section_words (es ++ (e ∷ [])) ≡ section_words es ++ entry_words e
unfolding section_words
words_last es e = words_append es (e ∷ []) ∙ ap (λ (l : List ℕ). section_words es ++ l) (append-nil (entry_words e))

-- The first entry's words are those up to its width.
pub first-words : (ws : List ℕ) → width ws ≤ length ws → take (width ws) ws ≡ entry_words (first_entry ws)
unfolding entries span section_words
first-words ws fits =
    let first : ws ≡ (entry_words (first_entry ws) ++ []) ++ drop (width ws + 0) ws = entries-words (suc zero) ws (omega arith) in
    let one : ws ≡ entry_words (first_entry ws) ++ drop (width ws) ws = first ∙ ap₂ (λ (a : List ℕ) (n : ℕ). a ++ drop n ws) (append-nil (entry_words (first_entry ws))) (add-zero (width ws)) in
    ap (take (width ws)) one ∙ take_at (entry_words (first_entry ws)) (drop (width ws) ws) (width ws) (simp (length-take, length-drop) (omega arith))

-- The entry that stands at `at`, whose words end at `end`, has these words.
pub words-at : (book : List ℕ) (at end : ℕ) → end ≡ at + 2 + 2 * get_or book at 0 → end ≤ length book
    → take (end - at) (drop at book) ≡ entry_words (counted (take (end - (at + 2)) (drop (at + 2) book)) (get_or book (at + 1) 0))
words-at book at end ends fits =
    let wide : width (drop at book) ≡ end - at = rw (get_or-drop, add-zero) (omega arith) in
    let key : 2 * get_or (drop at book) 0 0 ≡ end - (at + 2) = rw (get_or-drop, add-zero) (omega arith) in
    let same : first_entry (drop at book) ≡ counted (take (end - (at + 2)) (drop (at + 2) book)) (get_or book (at + 1) 0) = rw (key, drop-drop, get_or-drop) in
    ap (λ (n : ℕ). take n (drop at book)) (sym wide) ∙ first-words (drop at book) (rw (wide, length-drop) (omega arith)) ∙ ap entry_words same

-- An entry with another count has as many nodes.
pub nodes-kept : (book : List ℕ) (at v : ℕ) → at < length book → get_or (take at book ++ set (drop at book) 1 v) at 0 ≡ get_or book at 0
nodes-kept book at v h = rw (drop-cons book at 0 h) (get_or_at (take at book) (get_or book at 0) (set (drop (suc at) book) 0 v) 0 at (length-take-le at book (omega arith)))

-- Each entry takes at least one word.
pub length-size : (es : List Entry) → length es ≤ length (section_words es)
length-size [] = omega arith
length-size (e ∷ es) = omega (arith, size-first e es, length-size es)

-- The last entries have two words a node if all have.
even_back : (fs es : List Entry) → Even (fs ++ es) → Even es
unfolding Even
even_back [] es h = h
even_back (f ∷ fs) es h = even_back fs es h.1

-- The words behind the first n entries, up to `used`.
abbrev pub behind : ℕ → ℕ → List ℕ → List ℕ
behind n used ws = take (used - span n ws) (drop (span n ws) ws)

-- Zeros, some of them dropped.
pub drop-zeros : (z w : ℕ) → w ≤ z → drop w (replicate {A = ℕ} z 0) ≡ replicate (z - w) 0
drop-zeros z w h =
    let o : ℕ = 0 in
    let whole : z ≡ w + (z - w) = omega arith in
    ap (λ (n : ℕ). drop w (replicate n o)) whole ∙ rw (← replicate-append-replicate w (z - w) o) (drop_at (replicate w o) (replicate (z - w) o) w (length-replicate w o))

-- ---- the place that a loop has reached

-- The place that a loop has reached in a book: the entries that are done stand before word `at`, those left behind it, then the words that
-- are kept, up to `used`, and then zeros; `count` entries stand there in all.
pub record Reached (done es : List Entry) (kept book : List ℕ) (at left used count : ℕ) : Type 0 where
  pub zeros : ℕ
  pub words : book ≡ section_words done ++ (section_words es ++ (kept ++ replicate zeros 0))
  pub place : at ≡ length (section_words done)
  pub many : left ≡ length es
  pub uses : used ≡ at + (length (section_words es) + length kept)
  pub counts : count ≡ length done + left
  pub even : Even es

module _ (done es : List Entry) (kept book : List ℕ) (at left used count : ℕ) (r : Reached done es kept book at left used count) where
  -- The words used and the zeros are the whole book.
  reached-length : length book ≡ used + r.zeros
  reached-length = omega (arith, r.uses, r.place, simp (length-append, length-replicate) at (ap length r.words))

  -- There are no more entries than words.
  pub reached-few : count ≤ length book
  reached-few = omega (arith, r.counts, r.many, r.place, r.uses, length-size done, length-size es, reached-length)

  -- Behind the place stand the entries left, the words kept and the zeros.
  reached-rest : drop at book ≡ section_words es ++ (kept ++ replicate r.zeros 0)
  reached-rest = ap (drop at) r.words ∙ drop_at (section_words done) _ at (sym r.place)

  -- Before the place stand the entries done.
  pub reached-front : take at book ≡ section_words done
  reached-front = ap (take at) r.words ∙ take_at (section_words done) _ at (sym r.place)

  -- The entries left are read from the place on.
  pub reached-entries : entries left (drop at book) ≡ es
  reached-entries = ap₂ entries r.many reached-rest ∙ words-entries es (kept ++ replicate r.zeros 0) r.even

  -- They take their words.
  reached-span : span left (drop at book) ≡ length (section_words es)
  reached-span = ap₂ span r.many reached-rest ∙ words-span es (kept ++ replicate r.zeros 0) r.even

  -- What is used from the place on are the entries left and the words kept.
  reached-used : take (used - at) (drop at book) ≡ section_words es ++ kept
  reached-used =
      ap (take (used - at)) (reached-rest ∙ sym (append_assoc (section_words es) kept (replicate r.zeros 0)))
      ∙ take_at (section_words es ++ kept) (replicate r.zeros 0) (used - at) (simp length-append (omega (arith, r.uses)))

  -- Past it stand the zeros.
  reached-zeros : drop (used - at) (drop at book) ≡ replicate r.zeros 0
  reached-zeros =
      ap (drop (used - at)) (reached-rest ∙ sym (append_assoc (section_words es) kept (replicate r.zeros 0)))
      ∙ drop_at (section_words es ++ kept) (replicate r.zeros 0) (used - at) (simp length-append (omega (arith, r.uses)))

  -- An entry more at the place, behind which the words that are used have moved.
  pub reached-enter : (o : Entry) (entry book' : List ℕ) (w : ℕ) → entry ≡ entry_words o → w ≡ length entry → used + w ≤ length book
      → book' ≡ take at book ++ (entry ++ (take (used - at) (drop at book) ++ drop (used - at + length entry) (drop at book)))
      → Reached (done ++ (o ∷ [])) es kept book' (at + w) left (used + w) (count + 1)
  reached-enter o entry book' w is wide fits now =
      let moved : drop (used - at + length entry) (drop at book) ≡ replicate (r.zeros - w) 0 =
      sym (drop-drop (length entry) (used - at) (drop at book)) ∙ rw (reached-zeros, ← wide) (drop-zeros r.zeros w (omega (arith, reached-length))) in
      record {
        zeros = r.zeros - w;
        words = now ∙ rw (reached-front, reached-used, moved, is, words_last) (simp append_assoc);
        place = rw (words_last, length-append) (omega (arith, r.place, wide, ap length is));
        many = r.many;
        uses = omega (arith, r.uses);
        counts = rw length-append (omega (arith, r.counts));
        even = r.even;
      }

  -- An entry more at the place, in a book that is longer by its words.
  pub reached-insert : (o : Entry) (entry book' : List ℕ) (w : ℕ) → entry ≡ entry_words o → w ≡ length entry → book' ≡ take at book ++ (entry ++ drop at book)
      → Reached (done ++ (o ∷ [])) es kept book' (at + w) left (used + w) (count + 1)
  reached-insert o entry book' w is wide now =
      record {
        zeros = r.zeros;
        words = now ∙ rw (reached-front, reached-rest, is, words_last) (simp append_assoc);
        place = rw (words_last, length-append) (omega (arith, r.place, wide, ap length is));
        many = r.many;
        uses = omega (arith, r.uses);
        counts = rw length-append (omega (arith, r.counts));
        even = r.even;
      }

  -- The entries left lie within the words used, and these within the book.
  pub reached-within : (at + span left (drop at book) ≤ used) × (used ≤ length book)
  reached-within = (omega (arith, reached-span, r.uses), omega (arith, reached-length))

  -- So does the first of them, which is among those counted.
  pub reached-first : 0 < left → (at + 2 + 2 * get_or book at 0 ≤ used) × (0 < count)
  reached-first h = (omega (arith, reached-within, rw (get_or-drop, add-zero) at (span-step (drop at book) left h)), omega (arith, r.counts))

  -- More zeros come behind the words that are used.
  pub reached-padded : (n : ℕ) (book' : List ℕ) → book' ≡ take used book ++ (replicate n 0 ++ drop used book) → Reached done es kept book' at left used count
  reached-padded n book' now =
      let front : List ℕ = section_words done ++ (section_words es ++ kept) in
      let long : length front ≡ used = simp length-append (omega (arith, r.place, r.uses)) in
      let whole : book ≡ front ++ replicate r.zeros 0 = r.words ∙ simp append_assoc in
      let first : take used book ≡ front = ap (take used) whole ∙ take_at front (replicate r.zeros 0) used long in
      let last : drop used book ≡ replicate r.zeros 0 = ap (drop used) whole ∙ drop_at front (replicate r.zeros 0) used long in
      record {
        zeros = n + r.zeros;
        words = now ∙ rw (first, last, replicate-append-replicate) (simp append_assoc);
        place = r.place;
        many = r.many;
        uses = r.uses;
        counts = r.counts;
        even = r.even;
      }

-- The same where an entry stands at the place.
module _ (done : List Entry) (e : Entry) (es : List Entry) (kept book : List ℕ) (at left used count : ℕ) (r : Reached done (e ∷ es) kept book at left used count) where
  -- Its first word says where it ends.
  pub reached-end : at + 2 + 2 * get_or book at 0 ≡ at + length (entry_words e)
  unfolding section_words Even
  reached-end =
      let nodes : get_or book at 0 ≡ length e.key / 2 = ap (λ (l : List ℕ). get_or l at 0) r.words ∙ get_or_at (section_words done) (length e.key / 2) _ 0 at (sym r.place) in
      omega (arith, nodes, r.even.0)

  -- Its second word is its count.
  pub reached-second : get_or (drop at book) 1 0 ≡ e.count
  unfolding section_words
  reached-second = ap (λ (l : List ℕ). get_or l 1 0) (reached-rest _ _ _ _ _ _ _ _ r)

  -- It is passed as it is.
  pub reached-past : (end : ℕ) → end ≡ at + 2 + 2 * get_or book at 0 → Reached (done ++ (e ∷ [])) es kept book end (left - 1) used count
  unfolding section_words Even
  reached-past end ends =
      record {
        zeros = r.zeros;
        words = r.words ∙ rw words_last (simp append_assoc);
        place = rw (words_last, length-append) (omega (arith, r.place, ends, reached-end));
        many = omega (arith, r.many);
        uses = omega (arith, r.uses, ends, reached-end, size-first e es);
        counts = rw length-append (omega (arith, r.counts, r.many));
        even = r.even.1;
      }

  -- It has another count.
  pub reached-count : (v : ℕ) (book' : List ℕ) → book' ≡ take at book ++ set (drop at book) 1 v → Reached done (counted e.key v ∷ es) kept book' at left used count
  unfolding section_words Even
  reached-count v book' now =
      record {
        zeros = r.zeros;
        words = now ∙ rw (reached-front _ _ _ _ _ _ _ _ r, reached-rest _ _ _ _ _ _ _ _ r);
        place = r.place;
        many = r.many;
        uses = r.uses;
        counts = r.counts;
        even = r.even;
      }

  -- It is taken out: the words behind it stand where it stood.
  pub reached-out : (w : ℕ) (book' : List ℕ) → w ≡ length (entry_words e) → book' ≡ take at book ++ drop w (drop at book)
      → Reached done es kept book' at (left - 1) (used - w) (count - 1)
  unfolding section_words Even
  reached-out w book' wide now =
      let rest : drop w (drop at book) ≡ section_words es ++ (kept ++ replicate r.zeros 0) =
      ap (drop w) (reached-rest _ _ _ _ _ _ _ _ r ∙ append_assoc (entry_words e) (section_words es) _) ∙ drop_at (entry_words e) _ w (sym wide) in
      record {
        zeros = r.zeros;
        words = now ∙ rw (reached-front _ _ _ _ _ _ _ _ r, rest);
        place = r.place;
        many = omega (arith, r.many);
        uses = omega (arith, r.uses, wide, size-first e es);
        counts = omega (arith, r.counts, r.many);
        even = r.even.1;
      }

-- Several entries are passed as they are, and the others are left.
pub reached-over : (done fs es : List Entry) (kept book : List ℕ) (at left used count : ℕ) → Reached done (fs ++ es) kept book at left used count
    → Reached (done ++ fs) es kept book (at + length (section_words fs)) (length es) used count
reached-over done fs es kept book at left used count r =
    record {
      zeros = r.zeros;
      words = r.words ∙ rw (words_append fs es, words_append done fs) (simp append_assoc);
      place = rw (words_append, length-append) (omega (arith, r.place));
      many = refl;
      uses = omega (arith, r.uses, ap length (words_append fs es) ∙ length-append (section_words fs) (section_words es));
      counts = rw length-append (omega (arith, r.counts, r.many, length-append fs es));
      even = even_back fs es r.even;
    }

-- ---- before the first turn and after the last

module _ (ws : List ℕ) (n used : ℕ) (laid : Laid ws n used) where
  -- Behind the entries stand the words that are used but for theirs.
  behind-length : length (behind n used ws) ≡ used - span n ws
  behind-length = simp (length-take, length-drop) (omega (arith, laid.within, laid.room))

  -- Before the first turn all entries are left.
  pub reached-none : Reached [] (entries n ws) (behind n used ws) ws 0 n used n
  unfolding section_words
  reached-none =
      let s = span n ws in
      let split : drop s ws ≡ take (used - s) (drop s ws) ++ drop (used - s) (drop s ws) = sym (take-append-drop (used - s) (drop s ws)) in
      let e : s + (used - s) ≡ used = omega (arith, laid.within) in
      let last : drop (used - s) (drop s ws) ≡ replicate (length ws - used) 0 = drop-drop (used - s) s ws ∙ ap (λ (m : ℕ). drop m ws) e ∙ laid.zeros in
      record {
        zeros = length ws - used;
        words = entries-words n ws (omega (arith, laid.within, laid.room)) ∙ ap (λ (l : List ℕ). section_words (entries n ws) ++ l) (split ∙ ap (λ (l : List ℕ). behind n used ws ++ l) last);
        place = refl;
        many = sym (length-entries n ws);
        uses = omega (arith, behind-length, entries-span n ws (omega (arith, laid.within, laid.room)), laid.within);
        counts = omega arith;
        even = entries-even n ws (omega (arith, laid.within, laid.room));
      }

  -- So too in a book with g zeros fewer behind the words used.
  pub reached-fewer : (g : ℕ) → g + used ≤ length ws → Reached [] (entries n ws) (behind n used ws) (take used ws ++ drop (g + used) ws) 0 n used n
  unfolding section_words
  reached-fewer g fits =
      let r = reached-none in
      let first : take used ws ≡ section_words (entries n ws) ++ behind n used ws = rw sub-zero at (reached-used _ _ _ _ _ _ _ _ r) in
      let order : g + used ≡ used + g = omega arith in
      let last : drop (g + used) ws ≡ replicate (length ws - used - g) 0 =
      ap (λ (m : ℕ). drop m ws) order ∙ sym (drop-drop g used ws) ∙ ap (drop g) laid.zeros ∙ drop-zeros (length ws - used) g (omega arith) in
      record {
        zeros = length ws - used - g;
        words = rw (first, last) (append_assoc (section_words (entries n ws)) (behind n used ws) (replicate (length ws - used - g) 0));
        place = r.place;
        many = r.many;
        uses = r.uses;
        counts = r.counts;
        even = r.even;
      }

  -- The words are those with other entries for the first n, namely those done and those left, in a book of the same length.
  pub reached-edited : (done es all : List Entry) (book : List ℕ) (at left used' count : ℕ) → Reached done es (behind n used ws) book at left used' count
      → all ≡ done ++ es → length book ≡ length ws → Edited ws n used all book (record { used = used'; many = count })
  unfolding relaid padded
  reached-edited done es all book at left used' count r is long =
      let total : length (section_words all) ≡ length (section_words done) + length (section_words es) = rw (is, words_append) (length-append (section_words done) (section_words es)) in
      let rest : length ws - length (section_words all ++ behind n used ws) ≡ r.zeros = rw length-append (omega (arith, r.uses, r.place, reached-length _ _ _ _ _ _ _ _ r, total)) in
      record {
        words = r.words ∙ rw (rest, is, words_append) (simp append_assoc);
        uses = omega (arith, r.uses, r.place, total, behind-length);
        counts = rw (is, length-append) (omega (arith, r.counts, r.many));
      }
