-- A book with a gap in it that a sweep leaves: the words but for the gap, and what each step of the sweep makes of them.
-- Assumes nothing.
use Prim.Native.Nat.{ℕ, ◌+◌, ◌*◌, ◌-◌, ◌<◌, ◌≤◌}
use mathlib.Core.Path.{◌≡◌, sym, ap, ap₂, ◌∙◌}
use mathlib.Core.List.{List, ◌++◌, append_assoc}
use native.Mathlib.Nat.{add-zero}
use native.Mathlib.Omega.{arith}
use lib.ListN.{length, get_or, set, take, drop, replicate, length-append, length-take, length-drop, take-append-drop}
use lib.Seq.{length-take-le, take-take, take-add, drop-drop, get_or-drop, take-set-le, drop-set-add, take-append-le, take-append-add, drop-append-add, take_at, drop_at}
use Rattle.section.specs.Entries.{Entry, span}
use Rattle.section_change.specs.Editing.{brought, entered}
use Rattle.section_change.proofs.Relaying.{Reached, reached-few, reached-within, reached-first}

-- The words but for the gap, which lies from `to` up to `kept`.
unfoldable pub shut : List ℕ → ℕ → ℕ → List ℕ
shut book to kept = take to book ++ drop kept book

-- Words whose first n are known, with the gap from n up to m.
shut_known : (book front rest : List ℕ) (n m : ℕ) → book ≡ front ++ rest → length front ≡ n → n ≤ m → shut book n m ≡ front ++ drop (m - n) rest
unfolding shut
shut_known book front rest n m is long h =
    let split : m ≡ length front + (m - n) = omega arith in
    let back : drop m (front ++ rest) ≡ drop (m - n) rest = ap (λ (i : ℕ). drop i (front ++ rest)) split ∙ drop-append-add front rest (m - n) in
    rw (is, take_at front rest n long, back)

-- Without a gap they are all the words.
pub shut_none : (book : List ℕ) (to kept : ℕ) → kept ≡ to → shut book to kept ≡ book
unfolding shut
shut_none book to kept h = rw h (take-append-drop to book)

-- The places of a sweep in a book: the gap lies from `to` up to `kept`, and the sweep has come to `at`.
pub record Gap (size : ℕ) (book : List ℕ) (to kept at : ℕ) : Type 0 where
  pub low : to ≤ kept
  pub mid : kept ≤ at
  pub high : at ≤ length book
  pub long : length book ≡ size

module _ (size : ℕ) (book : List ℕ) (to kept at : ℕ) (g : Gap size book to kept at) where
  -- Where the sweep has come to in the words but for the gap.
  abbrev here : ℕ
  here = to + (at - kept)

  -- The words in front of it.
  shut_front : take here (shut book to kept) ≡ take to book ++ take (at - kept) (drop kept book)
  unfolding shut
  shut_front =
      let long : length (take to book) ≡ to = length-take-le to book (omega (arith, g.low, g.mid, g.high)) in
      ap (λ (n : ℕ). take (n + (at - kept)) (take to book ++ drop kept book)) (sym long) ∙ take-append-add (take to book) (drop kept book) (at - kept)

  -- How many these are.
  front_length : length (take to book ++ take (at - kept) (drop kept book)) ≡ here
  front_length = simp (length-append, length-take, length-drop) (omega (arith, g.low, g.mid, g.high))

  -- The words behind it.
  pub shut_rest : drop here (shut book to kept) ≡ drop at book
  unfolding shut
  shut_rest =
      let long : length (take to book) ≡ to = length-take-le to book (omega (arith, g.low, g.mid, g.high)) in
      let whole : kept + (at - kept) ≡ at = omega (arith, g.mid) in
      ap (λ (n : ℕ). drop (n + (at - kept)) (take to book ++ drop kept book)) (sym long) ∙ drop-append-add (take to book) (drop kept book) (at - kept)
      ∙ drop-drop (at - kept) kept book ∙ ap (λ (n : ℕ). drop n book) whole

  -- The first word behind it.
  pub shut_nodes : get_or (shut book to kept) here 0 ≡ get_or book at 0
  shut_nodes =
      let word : get_or (shut book to kept) (here + 0) 0 ≡ get_or book (at + 0) 0 = sym (get_or-drop here (shut book to kept) 0 0) ∙ ap (λ (l : List ℕ). get_or l 0 0) shut_rest ∙ get_or-drop at book 0 0 in
      rw (add-zero, add-zero) at word

  -- How many words there are.
  shut_length : length (shut book to kept) + (kept - to) ≡ length book
  unfolding shut
  shut_length = simp (length-append, length-take, length-drop) (omega (arith, g.low, g.mid, g.high))

  -- Words written behind it.
  pub shut_write : (book' rest : List ℕ) → book' ≡ take at book ++ rest → shut book' to kept ≡ take here (shut book to kept) ++ rest
  unfolding shut
  shut_write book' rest now =
      let whole : kept + (at - kept) ≡ at = omega (arith, g.mid) in
      let low : kept ≤ length book = omega (arith, g.mid, g.high) in
      let split : take at book ≡ take kept book ++ take (at - kept) (drop kept book) = ap (λ (n : ℕ). take n book) (sym whole) ∙ take-add kept (at - kept) book in
      let is : book' ≡ take kept book ++ (take (at - kept) (drop kept book) ++ rest) = now ∙ rw split (append_assoc (take kept book) (take (at - kept) (drop kept book)) rest) in
      let first : take to book' ≡ take to book =
      ap (take to) is ∙ take-append-le to (take kept book) (take (at - kept) (drop kept book) ++ rest) (rw (length-take-le kept book low) g.low) ∙ take-take to kept book g.low in
      let back : drop kept book' ≡ take (at - kept) (drop kept book) ++ rest =
      ap (drop kept) is ∙ drop_at (take kept book) (take (at - kept) (drop kept book) ++ rest) kept (length-take-le kept book low) in
      ap₂ ◌++◌ first back ∙ sym (append_assoc (take to book) (take (at - kept) (drop kept book)) rest) ∙ ap (λ (l : List ℕ). l ++ rest) (sym shut_front)

  -- The second word behind it is another.
  pub shut_set : (v : ℕ) → shut (set book (at + 1) v) to kept ≡ take here (shut book to kept) ++ set (drop here (shut book to kept)) 1 v
  shut_set v =
      let now : set book (at + 1) v ≡ take at book ++ set (drop at book) 1 v =
      sym (take-append-drop at (set book (at + 1) v)) ∙ rw (take-set-le at book (at + 1) v (omega arith), drop-set-add at book 1 v) in
      shut_write (set book (at + 1) v) (set (drop at book) 1 v) now ∙ ap (λ (l : List ℕ). take here (shut book to kept) ++ set l 1 v) (sym shut_rest)

  -- The gap has moved up to `at`, behind an entry more.
  pub shut_enter : (entry book' : List ℕ) → to + length entry ≤ kept
      → book' ≡ entered to kept at entry book
      → shut book' (here + length entry) at ≡ take here (shut book to kept) ++ (entry ++ drop here (shut book to kept))
  shut_enter entry book' fits now =
      let front : List ℕ = (take to book ++ take (at - kept) (drop kept book)) ++ entry in
      let is : book' ≡ front ++ drop (here + length entry) book = now ∙ simp append_assoc in
      let long : length front ≡ here + length entry = length-append (take to book ++ take (at - kept) (drop kept book)) entry ∙ ap (λ (n : ℕ). n + length entry) front_length in
      let whole : here + length entry + (at - (here + length entry)) ≡ at = omega (arith, g.low, g.mid) in
      shut_known book' front (drop (here + length entry) book) (here + length entry) at is long (omega (arith, g.low, g.mid))
      ∙ rw (drop-drop, whole, shut_front, shut_rest) (simp append_assoc)

  -- The gap has moved up to `at`, and takes in n words from there on.
  pub shut_out : (book' : List ℕ) (n : ℕ) → book' ≡ brought to kept at book → shut book' here (at + n) ≡ take here (shut book to kept) ++ drop n (drop here (shut book to kept))
  shut_out book' n now =
      let front : List ℕ = take to book ++ take (at - kept) (drop kept book) in
      let is : book' ≡ front ++ drop here book = now ∙ simp append_assoc in
      let whole : here + (at + n - here) ≡ at + n = omega (arith, g.low, g.mid) in
      shut_known book' front (drop here book) here (at + n) is front_length (omega (arith, g.low, g.mid))
      ∙ rw (drop-drop, whole, shut_front, shut_rest, drop-drop)

-- The gap is closed: the words behind it, up to `used`, have moved down, and zeros come behind them.
pub shut_closed : (size : ℕ) (book : List ℕ) (to kept used uses : ℕ) (book' : List ℕ) → Gap size book to kept used → uses + (kept - to) ≡ used
    → book' ≡ take to book ++ (take (used - to - (kept - to)) (drop (kept - to) (drop to book)) ++ (replicate (kept - to) 0 ++ drop (used - to) (drop to book)))
    → book' ≡ take uses (shut book to kept) ++ (replicate (kept - to) 0 ++ drop uses (shut book to kept))
shut_closed size book to kept used uses book' g whole now =
    let reach : uses ≡ to + (used - kept) = omega (arith, g.low, g.mid) in
    let start : to + (kept - to) ≡ kept = omega (arith, g.low) in
    let few : used - to - (kept - to) ≡ used - kept = omega (arith, g.low) in
    let end : to + (used - to) ≡ used = omega (arith, g.low, g.mid) in
    now ∙ rw (drop-drop, drop-drop, start, few, end, reach, shut_front size book to kept used g, shut_rest size book to kept used g) (simp append_assoc)

-- The gap is opened in front of the words that are used, over zeros behind them.
pub shut_opened : (ws book : List ℕ) (used by : ℕ) → by + used ≤ length ws → book ≡ take by ws ++ (take used ws ++ drop (by + used) ws)
    → shut book 0 by ≡ take used ws ++ drop (by + used) ws
unfolding shut
shut_opened ws book used by fits now = ap (drop by) now ∙ drop_at (take by ws) (take used ws ++ drop (by + used) ws) by (length-take-le by ws (omega arith))

-- ---- a loop over entries that sweeps

-- A loop has reached the place in the words but for the gap, of which with the gap `full` are used.
module _ (size full : ℕ) (book : List ℕ) (to kept at : ℕ) (g : Gap size book to kept at) (done es : List Entry) (keeps : List ℕ) (left uses count : ℕ)
    (r : Reached done es keeps (shut book to kept) (to + (at - kept)) left uses count) (whole : uses + (kept - to) ≡ full) where
  -- The entries left lie within the words used, these within the book, and there are no more entries than words.
  pub swept_within : (at + span left (drop at book) ≤ full) × (full ≤ length book) × (count ≤ length book)
  swept_within =
      let w = reached-within _ _ _ _ _ _ _ _ r in
      let l = shut_length size book to kept at g in
      (omega (arith, rw (shut_rest size book to kept at g) at w.0, g.low, g.mid), omega (arith, w.1, l), omega (arith, reached-few _ _ _ _ _ _ _ _ r, l))

  -- So does the first of them, which is among those counted.
  pub swept_first : 0 < left → (at + 2 + 2 * get_or book at 0 ≤ full) × (0 < count)
  swept_first h =
      let f = reached-first _ _ _ _ _ _ _ _ r h in
      (omega (arith, rw (shut_nodes size book to kept at g) at f.0, g.low, g.mid), f.1)
