-- The turns of a pass that lowers a part's entries by those of another, by how the first entry left stands to the other's first key: in words
-- that get fewer with each entry taken out, and then in a book with a gap. Assumes nothing.
use Rattle.std.specs.declared.cmp.Ordering.{Ordering}
use Rattle.std.specs.declared.cmp.Ordering.TheVariants.{Less, Equal, Greater}
use Prim.Native.Nat.{ℕ, ◌+◌, ◌*◌, ◌-◌, ◌≤◌, ◌<◌}
use mathlib.Core.Path.{◌≡◌, refl, sym, ap, ◌∙◌}
use mathlib.Core.Bool.{Bool, true, false}
use mathlib.Core.List.{List, [], ◌∷◌, ◌++◌, append_assoc, append-nil}
use native.Mathlib.Nat.{sub-zero}
use native.Mathlib.Omega.{arith}
use lib.Dec.{leb}
use lib.ListN.{length, get_or, set, take, drop, replicate}
use lib.Seq.{get_or-drop}
use borrow.Author.Tests.{leb-true, leb-false, le-leb, lt-leb}
use borrow.Rule.Slice.PartMut.{put_mid}
use Rattle.words.proofs.Tests.{never}
use Rattle.words.proofs.Ordered.{compare_equal}
use Rattle.words.proofs.Shifts.{tail_all, tail_back}
use Rattle.section.specs.Entries.{Entry, counted, entries, span, Below, Sorted, lessened}
use Rattle.section_change.specs.Editing.{lower_all, first_against, Laid, Edited, lessened_words, lessened_by}
use Rattle.section_change.specs.declared.Lessened.{Lessened}
use Rattle.section.proofs.Words.{span-at, entries_at}
use Rattle.section.proofs.Searches.{sorted-past}
use Rattle.section_change.proofs.Lowering.{lower-all_above, lower-all_equal, lower-all_below, lessened-apart, lessened-words_out, lessened-words_left, lessened-by_out, lessened-by_left}
use Rattle.section.proofs.Counts.{lessened-out, lessened-left}
use Rattle.section_change.proofs.Adding.{against_below}
use Rattle.section_change.proofs.Relaying.{behind, Reached, reached-entries, reached-end, reached-second, reached-past, reached-count, reached-out, reached-padded, reached-none, reached-edited}
use Rattle.section_change.proofs.Sweeping.{Gap, shut, shut_none, shut_rest, shut_nodes, shut_set, shut_out, shut_closed, swept_within, swept_first}

-- ---- one less of the first entry

module _ (done : List Entry) (e : Entry) (es : List Entry) (kept book : List ℕ) (at left used count : ℕ) (here : Reached done (e ∷ es) kept book at left used count) where
  -- An entry that comes to 0 is taken out.
  reached-gone : (book' : List ℕ) (w : ℕ) → w ≡ 2 + 2 * get_or book at 0 → get_or (drop at book) 1 0 ≤ 1 → book' ≡ take at book ++ drop w (drop at book)
      → Reached (done ++ lessened e []) es kept book' at (left - 1) (used - w) (count - 1)
  reached-gone book' w wide few now =
      let out : leb e.count 1 ≡ true = le-leb e.count 1 (rw (reached-second done e es kept book at left used count here) at few) in
      rw (lessened-out e [] out, append-nil)
      (reached-out done e es kept book at left used count here w book' (omega (arith, wide, reached-end done e es kept book at left used count here)) now)

  -- Another has one less, and is passed.
  reached-less : (book' : List ℕ) (end : ℕ) → end ≡ at + 2 + 2 * get_or book at 0 → 1 < get_or (drop at book) 1 0
      → book' ≡ take at book ++ set (drop at book) 1 (get_or (drop at book) 1 0 - 1) → Reached (done ++ lessened e []) es kept book' end (left - 1) used count
  reached-less book' end ends many now =
      let tells : get_or (drop at book) 1 0 ≡ e.count = reached-second done e es kept book at left used count here in
      let stays : leb e.count 1 ≡ false = lt-leb e.count 1 (rw tells at many) in
      let f = counted e.key (e.count - 1) in
      let there : Reached done (f ∷ es) kept book' at left used count =
      reached-count done e es kept book at left used count here (e.count - 1) book' (now ∙ ap (λ (n : ℕ). take at book ++ set (drop at book) 1 (n - 1)) tells) in
      rw (lessened-left e [] stays)
      (reached-past done f es kept book' at left used count there end (omega (arith, ends, reached-end done e es kept book at left used count here, reached-end done f es kept book' at left used count there)))

-- ---- a pass

-- A pass over the n entries at the front of ws has come to `at` in what is now `book`, and to `from` in the other: the entries passed, with
-- those left lowered by the other's that are left, are those that all come to.
pub record Turn (ws : List ℕ) (n used : ℕ) (other : List ℕ) (more : ℕ) (book : List ℕ) (at left from rest kept count : ℕ) : Type 0 where
  pub passed : List Entry
  pub next : List Entry
  pub stands : Reached passed next (behind n used ws) book at left kept count
  pub sorted : Sorted next
  pub inside : from + span rest (drop from other) ≤ length other
  pub ascends : Sorted (entries rest (drop from other))
  pub goes : passed ++ lower_all (entries rest (drop from other)) next ≡ lower_all (entries more other) (entries n ws)

module _ (ws : List ℕ) (n used : ℕ) (other : List ℕ) (more : ℕ) where
  -- At the begin nothing is passed.
  turn_start : Laid ws n used → Sorted (entries n ws) → span more other ≤ length other → Sorted (entries more other) → Turn ws n used other more ws 0 n 0 more used n
  turn_start laid s h t =
      record { passed = []; next = entries n ws; stands = reached-none ws n used laid; sorted = s; inside = omega arith; ascends = t; goes = refl }

  module _ (book : List ℕ) (at left from rest kept count : ℕ) (t : Turn ws n used other more book at left from rest kept count) where
    -- At the end none of the other is left, and zeros come behind the words.
    turn_end : Laid ws n used → rest ≤ 0 → (m : ℕ) (book' : List ℕ) → book' ≡ take kept book ++ (replicate m 0 ++ drop kept book) → length book' ≡ length ws
        → Edited ws n used (lower_all (entries more other) (entries n ws)) book' (record { used = kept; many = count })
    unfolding lower_all entries
    turn_end laid h m book' now long =
        let z : rest ≡ 0 = omega arith in
        reached-edited ws n used laid t.passed t.next (lower_all (entries more other) (entries n ws)) book' at left kept count
        (reached-padded _ _ _ _ _ _ _ _ t.stands m book' now) (sym (rw z at t.goes)) long

    -- The other's first entry of those left ends at `end`.
    module _ (end : ℕ) (some : 0 < rest) (ends : end ≡ from + 2 + 2 * get_or other from 0) where
      -- Its key.
      abbrev key : List ℕ
      key = take (end - (from + 2)) (drop (from + 2) other)

      -- It stands before the others of those left.
      apart : entries rest (drop from other) ≡ record { key = key; count = get_or other (from + 1) 0 } ∷ entries (rest - 1) (drop end other)
      apart = entries_at other from rest end some ends

      -- The answer is that of the entries left.
      answer : {o : Ordering} → first_against key (entries left (drop at book)) ≡ o → first_against key t.next ≡ o
      answer c = rw (reached-entries t.passed t.next (behind n used ws) book at left kept count t.stands) at c

      -- The first entry left is lower: it stays.
      turn_lower : first_against key (entries left (drop at book)) ≡ Less → (past : ℕ) → past ≡ at + 2 + 2 * get_or book at 0
          → Turn ws n used other more book past (left - 1) from rest kept count
      unfolding Sorted Below
      turn_lower c past is = go t.next t.stands t.sorted t.goes (answer c)
        where
          go : (next : List Entry) → Reached t.passed next (behind n used ws) book at left kept count → Sorted next
              → t.passed ++ lower_all (entries rest (drop from other)) next ≡ lower_all (entries more other) (entries n ws) → first_against key next ≡ Less
              → Turn ws n used other more book past (left - 1) from rest kept count
          go [] b s g d = never cc
          go (e ∷ next) b s g d = record {
            passed = t.passed ++ (e ∷ []);
            next = next;
            stands = reached-past t.passed e next (behind n used ws) book at left kept count b past is;
            sorted = s.2;
            inside = t.inside;
            ascends = t.ascends;
            goes = append_assoc t.passed (e ∷ []) (lower_all (entries rest (drop from other)) next)
                ∙ ap (λ (l : List Entry). t.passed ++ l) (sym (lower-all_above (entries rest (drop from other)) e next t.ascends (rw apart d))) ∙ g;
          }

      -- It is equal: the pass goes on behind what one less leaves of it.
      turn_equal : first_against key (entries left (drop at book)) ≡ Equal → (book' : List ℕ) (at' kept' count' : ℕ)
          → ((e : Entry) (es : List Entry) → Reached t.passed (e ∷ es) (behind n used ws) book at left kept count → Reached (t.passed ++ lessened e []) es (behind n used ws) book' at' (left - 1) kept' count')
          → Turn ws n used other more book' at' (left - 1) end (rest - 1) kept' count'
      unfolding Sorted
      turn_equal c book' at' kept' count' goes_on = go t.next t.stands t.sorted t.goes (answer c)
        where
          o : Entry
          o = record { key = key; count = get_or other (from + 1) 0 }

          os : List Entry
          os = entries (rest - 1) (drop end other)

          go : (next : List Entry) → Reached t.passed next (behind n used ws) book at left kept count → Sorted next
              → t.passed ++ lower_all (entries rest (drop from other)) next ≡ lower_all (entries more other) (entries n ws) → first_against key next ≡ Equal
              → Turn ws n used other more book' at' (left - 1) end (rest - 1) kept' count'
          go [] b s g d = never cc
          go (e ∷ next) b s g d = record {
            passed = t.passed ++ lessened e [];
            next = next;
            stands = goes_on e next b;
            sorted = s.2;
            inside = omega (arith, t.inside, span-at other from rest end some ends);
            ascends = sorted-past other from rest end some ends t.ascends;
            goes = append_assoc t.passed (lessened e []) (lower_all os next)
                ∙ ap (λ (l : List Entry). t.passed ++ l) (sym (lessened-apart e (lower_all os next)) ∙ sym (lower-all_equal o os e next (rw apart at t.ascends) (sym (compare_equal e.key key d))))
                ∙ (rw apart at g);
          }

      -- It is higher, or none is left: the other's entry changes nothing.
      turn_higher : first_against key (entries left (drop at book)) ≡ Greater → Turn ws n used other more book at left end (rest - 1) kept count
      turn_higher c =
          let o : Entry = record { key = key; count = get_or other (from + 1) 0 } in
          let os : List Entry = entries (rest - 1) (drop end other) in
          record {
            passed = t.passed;
            next = t.next;
            stands = t.stands;
            sorted = t.sorted;
            inside = omega (arith, t.inside, span-at other from rest end some ends);
            ascends = sorted-past other from rest end some ends t.ascends;
            goes = ap (λ (l : List Entry). t.passed ++ l) (sym (lower-all_below o os t.next t.sorted (against_below key t.next (answer c)))) ∙ (rw apart at t.goes);
          }

-- ---- a sweep

-- The pass has come so far in the words but for the gap, with which as many are used as at the begin.
pub record Lowers (ws : List ℕ) (n used : ℕ) (other : List ℕ) (more : ℕ) (book : List ℕ) (to kept at left from rest count : ℕ) : Type 0 where
  pub gap : Gap (length ws) book to kept at
  pub uses : ℕ
  pub whole : uses + (kept - to) ≡ used
  pub turn : Turn ws n used other more (shut book to kept) (to + (at - kept)) left from rest uses count

module _ (ws : List ℕ) (n used : ℕ) (other : List ℕ) (more : ℕ) where
  -- At the begin there is no gap.
  pub lowers_start : Laid ws n used → Sorted (entries n ws) → span more other ≤ length other → Sorted (entries more other) → Lowers ws n used other more ws 0 0 0 n 0 more n
  lowers_start laid s h t =
      record {
        gap = record { low = omega arith; mid = omega arith; high = omega arith; long = refl };
        uses = used;
        whole = omega arith;
        turn = rw (shut_none ws 0 0 refl) (turn_start ws n used other more laid s h t);
      }

  module _ (book : List ℕ) (to kept at left from rest count : ℕ) (s : Lowers ws n used other more book to kept at left from rest count) where
    -- The words but for the gap.
    abbrev words : List ℕ
    words = shut book to kept

    -- The entries left lie within the words used, and these within the book.
    pub lowers_within : (at + span left (drop at book) ≤ used) × (used ≤ length book) × (count ≤ length book)
    lowers_within = swept_within (length ws) used book to kept at s.gap _ _ _ left s.uses count s.turn.stands s.whole

    -- So does the first of them, which is among those counted.
    pub lowers_first : 0 < left → (at + 2 + 2 * get_or book at 0 ≤ used) × (0 < count)
    lowers_first h = swept_first (length ws) used book to kept at s.gap _ _ _ left s.uses count s.turn.stands s.whole h

    -- At the end none of the other is left, and the gap is closed in the part that was lent.
    pub lowers_end : Laid ws n used → rest ≤ 0 → (last : List ℕ) → let part = take (length book - to) (drop to book) in
        last ≡ take (used - to - (kept - to)) (drop (kept - to) part) ++ (replicate (kept - to) 0 ++ drop (used - to) part)
        → length (put_mid to (length book - to) book last) ≡ length book
        → Edited ws n used (lower_all (entries more other) (entries n ws)) (put_mid to (length book - to) book last) (record { used = used - (kept - to); many = count })
    lowers_end laid h last now same =
        let g = s.gap in
        let w = lowers_within in
        let fits : to ≤ length book = omega (arith, g.low, g.mid, g.high) in
        let gap : Gap (length ws) book to kept used = record { low = g.low; mid = omega (arith, g.mid, w.0); high = w.1; long = g.long } in
        let back = tail_back to book fits last ∙ ap (λ (l : List ℕ). take to book ++ l) (rw (tail_all to book fits) at now) in
        let uses : s.uses ≡ used - (kept - to) = omega (arith, s.whole) in
        rw (← uses)
        (turn_end ws n used other more words _ _ _ _ _ _ s.turn laid h (kept - to) _ (shut_closed (length ws) book to kept used s.uses _ gap s.whole back) (same ∙ g.long))

    -- The other's first entry of those left ends at `end`.
    module _ (end : ℕ) (some : 0 < rest) (ends : end ≡ from + 2 + 2 * get_or other from 0) where
      -- An answer about the book is one about the words but for the gap.
      told : {o : Ordering} → first_against (take (end - (from + 2)) (drop (from + 2) other)) (entries left (drop at book)) ≡ o
          → first_against (take (end - (from + 2)) (drop (from + 2) other)) (entries left (drop (to + (at - kept)) words)) ≡ o
      told c = rw (shut_rest (length ws) book to kept at s.gap) c

      -- The first entry left is lower: it stays.
      pub lowers_lower : first_against (take (end - (from + 2)) (drop (from + 2) other)) (entries left (drop at book)) ≡ Less → 0 < left → (past : ℕ) → past ≡ at + 2 + 2 * get_or book at 0
          → Lowers ws n used other more book to kept past (left - 1) from rest count
      lowers_lower c h past is =
          let g = s.gap in
          record {
            gap = record { low = g.low; mid = omega (arith, g.mid); high = omega (arith, lowers_first h, lowers_within); long = g.long };
            uses = s.uses;
            whole = s.whole;
            turn = turn_lower ws n used other more words _ _ _ _ _ _ s.turn end some ends (told c) (to + (past - kept)) (omega (arith, is, shut_nodes (length ws) book to kept at g, g.mid));
          }

      -- It is equal: it has one less.
      pub lowers_equal : first_against (take (end - (from + 2)) (drop (from + 2) other)) (entries left (drop at book)) ≡ Equal → 0 < left → (book' : List ℕ) (r : Lessened)
          → book' ≡ lessened_words to kept at book → r ≡ lessened_by to kept at book → length book' ≡ length book
          → Lowers ws n used other more book' r.to r.kept r.next (left - 1) end (rest - 1) (count - r.out)
      lowers_equal c h book' r now by same = go (leb (get_or book (at + 1) 0) 1) refl
        where
          g : Gap (length ws) book to kept at
          g = s.gap

          nodes : get_or words (to + (at - kept)) 0 ≡ get_or book at 0
          nodes = shut_nodes (length ws) book to kept at g

          second : get_or (drop (to + (at - kept)) words) 1 0 ≡ get_or book (at + 1) 0
          second = ap (λ (l : List ℕ). get_or l 1 0) (shut_rest (length ws) book to kept at g) ∙ get_or-drop at book 1 0

          go : (b : Bool) → leb (get_or book (at + 1) 0) 1 ≡ b → Lowers ws n used other more book' r.to r.kept r.next (left - 1) end (rest - 1) (count - r.out)
          go true t =
              let few : get_or book (at + 1) 0 ≤ 1 = leb-true (get_or book (at + 1) 0) 1 t in
              let w : ℕ = 2 + 2 * get_or book at 0 in
              let stays : to + (at - kept) + (at + w - (at + w)) ≡ to + (at - kept) = omega arith in
              let after : at + 2 + 2 * get_or book at 0 ≡ at + w = omega arith in
              let is : r ≡ record { to = to + (at - kept); kept = at + w; next = at + w; out = 1 } =
              by ∙ lessened-by_out to kept at book few ∙ ap (λ (m : ℕ). record { to = to + (at - kept); kept = m; next = m; out = 1 }) after in
              let turn : Turn ws n used other more (shut book' (to + (at - kept)) (at + w)) (to + (at - kept)) (left - 1) end (rest - 1) (s.uses - w) (count - 1) =
              turn_equal ws n used other more words _ _ _ _ _ _ s.turn end some ends (told c) (shut book' (to + (at - kept)) (at + w)) (to + (at - kept)) (s.uses - w) (count - 1)
              (λ e es b. reached-gone _ e es _ words _ _ _ _ b (shut book' (to + (at - kept)) (at + w)) w (rw nodes) (rw second few) (shut_out (length ws) book to kept at g book' w (now ∙ lessened-words_out to kept at book few))) in
              rw is
              (record {
                gap = record { low = omega (arith, g.low, g.mid); mid = omega arith; high = omega (arith, same, lowers_first h, lowers_within); long = same ∙ g.long };
                uses = s.uses - w;
                whole = omega (arith, s.whole, lowers_first h, g.low, g.mid);
                turn = rw stays turn;
              })
          go false t =
              let many : 1 < get_or book (at + 1) 0 = leb-false (get_or book (at + 1) 0) 1 t in
              let next : ℕ = at + 2 + 2 * get_or book at 0 in
              let is : r ≡ record { to = to; kept = kept; next = next; out = 0 } = by ∙ lessened-by_left to kept at book many in
              let words' : shut book' to kept ≡ take (to + (at - kept)) words ++ set (drop (to + (at - kept)) words) 1 (get_or (drop (to + (at - kept)) words) 1 0 - 1) =
              ap (λ (l : List ℕ). shut l to kept) (now ∙ lessened-words_left to kept at book many) ∙ shut_set (length ws) book to kept at g (get_or book (at + 1) 0 - 1) ∙ rw second in
              rw (is, sub-zero)
              (record {
                gap = record { low = g.low; mid = omega (arith, g.mid); high = omega (arith, same, lowers_first h, lowers_within); long = same ∙ g.long };
                uses = s.uses;
                whole = s.whole;
                turn = turn_equal ws n used other more words _ _ _ _ _ _ s.turn end some ends (told c) (shut book' to kept) (to + (next - kept)) s.uses count
                    (λ e es b. reached-less _ e es _ words _ _ _ _ b (shut book' to kept) (to + (next - kept)) (omega (arith, nodes, g.mid)) (rw second many) words');
              })

      -- It is higher, or none is left: the other's entry changes nothing.
      pub lowers_higher : first_against (take (end - (from + 2)) (drop (from + 2) other)) (entries left (drop at book)) ≡ Greater
          → Lowers ws n used other more book to kept at left end (rest - 1) count
      lowers_higher c =
          record { gap = s.gap; uses = s.uses; whole = s.whole; turn = turn_higher ws n used other more words _ _ _ _ _ _ s.turn end some ends (told c) }
