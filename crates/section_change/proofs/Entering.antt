-- The turns of a pass that adds the entries of another section to a part's, by how the first entry left stands to the other's first key: in
-- words that get more with each entry, and then in a book with a gap for all that is lacking. Assumes nothing.
use Rattle.std.specs.declared.cmp.Ordering.{Ordering}
use Rattle.std.specs.declared.cmp.Ordering.TheVariants.{Less, Equal, Greater}
use Prim.Native.Nat.{ℕ, ◌+◌, ◌*◌, ◌-◌, ◌≤◌, ◌<◌}
use mathlib.Core.Path.{◌≡◌, refl, sym, ap, ◌∙◌}
use mathlib.Core.Bool.{true}
use mathlib.Core.List.Memᴰ
use mathlib.Core.List.Memᴰ.{head as here}
use mathlib.Core.List.{List, [], ◌∷◌, ◌++◌, append_assoc}
use native.Mathlib.Omega.{arith}
use lib.ListN.{length, get_or, set, take, drop, length-append, length-set, length-take, length-drop}
use borrow.Rule.Slice.PartMut.{put_mid}
use Rattle.words.proofs.Tests.{never}
use Rattle.words.proofs.Ordered.{compare_equal}
use Rattle.words.proofs.Shifts.{tail_all, tail_back}
use Rattle.figures.specs.Limits.{greatest_count}
use Rattle.section.specs.Entries.{Entry, counted, entry_words, section_words, entries, span, Below, Sorted}
use Rattle.section_change.specs.Editing.{add_all, fitting, lacking_words, first_against, Laid, Edited, entered}
use Rattle.section.proofs.Words.{span-at, entries_at, entries-span}
use Rattle.section_change.proofs.Adding.{against_below, add-all_past, add-all_same, add-all_enter, fitting-entry}
use Rattle.section_change.proofs.Weighing.{lacking_past, lacking_same, lacking_new, lacking_size}
use Rattle.section_change.proofs.Relaying.{behind, words-at, nodes-kept, Reached, reached-entries, reached-end, reached-second, reached-past, reached-count, reached-insert, reached-fewer, reached-edited}
use Rattle.section_change.proofs.Sweeping.{Gap, shut, shut_none, shut_rest, shut_nodes, shut_write, shut_enter, shut_opened, swept_within, swept_first}

-- An entry's count is raised, and it is passed.
reached-raised : (done : List Entry) (e : Entry) (es : List Entry) (kept book : List ℕ) (at left used count : ℕ) → Reached done (e ∷ es) kept book at left used count
    → (book' : List ℕ) (end m : ℕ) → end ≡ at + 2 + 2 * get_or book at 0 → book' ≡ take at book ++ set (drop at book) 1 (get_or (drop at book) 1 0 + m)
    → Reached (done ++ (counted e.key (e.count + m) ∷ [])) es kept book' end (left - 1) used count
reached-raised done e es kept book at left used count r book' end m ends now =
    let tells : get_or (drop at book) 1 0 ≡ e.count = reached-second done e es kept book at left used count r in
    let f = counted e.key (e.count + m) in
    let there : Reached done (f ∷ es) kept book' at left used count =
    reached-count done e es kept book at left used count r (e.count + m) book' (now ∙ ap (λ (n : ℕ). take at book ++ set (drop at book) 1 (n + m)) tells) in
    reached-past done f es kept book' at left used count there end (omega (arith, ends, reached-end done e es kept book at left used count r, reached-end done f es kept book' at left used count there))

-- ---- a pass

-- A pass over the n entries at the front of ws has come to `at` in what is now `book`, and to `from` in the other: the entries passed, with
-- the sum of those left and of the other's left, are the whole sum, whose counts fit; `lacking` words are still to be entered.
pub record Pass (ws : List ℕ) (n used : ℕ) (other : List ℕ) (more : ℕ) (book : List ℕ) (at left from rest uses count lacking : ℕ) : Type 0 where
  pub passed : List Entry
  pub next : List Entry
  pub stands : Reached passed next (behind n used ws) book at left uses count
  pub sorted : Sorted next
  pub inside : from + span rest (drop from other) ≤ length other
  pub ascends : Sorted (entries rest (drop from other))
  pub goes : add_all (entries more other) (entries n ws) ≡ passed ++ add_all (entries rest (drop from other)) next
  pub fits : fitting (add_all (entries more other) (entries n ws)) ≡ true
  pub lacks : lacking ≡ lacking_words (entries rest (drop from other)) next

-- What a pass asks of both at the begin.
pub record Ready (ws : List ℕ) (n used : ℕ) (other : List ℕ) (more lacking : ℕ) : Type 0 where
  pub laid : Laid ws n used
  pub sorted : Sorted (entries n ws)
  pub inside : span more other ≤ length other
  pub ascends : Sorted (entries more other)
  pub size : length (section_words (add_all (entries more other) (entries n ws))) + (used - span n ws) ≤ length ws
  pub fits : fitting (add_all (entries more other) (entries n ws)) ≡ true
  pub lacks : lacking ≡ lacking_words (entries more other) (entries n ws)

module _ (ws : List ℕ) (n used : ℕ) (other : List ℕ) (more : ℕ) where
  -- The words that are lacking have room behind those that are used.
  pub ready_room : (lacking : ℕ) → Ready ws n used other more lacking → lacking + used ≤ length ws
  ready_room lacking r =
      omega (arith, r.size, r.lacks, r.laid.within, lacking_size (entries more other) (entries n ws) r.ascends r.sorted, entries-span n ws (omega (arith, r.laid.within, r.laid.room)))

  -- At the begin nothing is passed.
  pass_start : (lacking : ℕ) → Ready ws n used other more lacking → Pass ws n used other more (take used ws ++ drop (lacking + used) ws) 0 n 0 more used n lacking
  pass_start lacking r =
      record {
        passed = [];
        next = entries n ws;
        stands = reached-fewer ws n used r.laid lacking (ready_room lacking r);
        sorted = r.sorted;
        inside = omega (arith, r.inside);
        ascends = r.ascends;
        goes = refl;
        fits = r.fits;
        lacks = r.lacks;
      }

  module _ (book : List ℕ) (at left from rest uses count lacking : ℕ) (p : Pass ws n used other more book at left from rest uses count lacking) where
    -- At the end none of the other is left: no more words are lacking.
    pass_none : rest ≤ 0 → lacking ≡ 0
    unfolding lacking_words entries
    pass_none h = let z : rest ≡ 0 = omega arith in rw z at p.lacks

    -- The words are then the sum's.
    pass_end : Laid ws n used → rest ≤ 0 → length book ≡ length ws → Edited ws n used (add_all (entries more other) (entries n ws)) book (record { used = uses; many = count })
    unfolding add_all entries
    pass_end laid h long =
        let z : rest ≡ 0 = omega arith in
        reached-edited ws n used laid p.passed p.next (add_all (entries more other) (entries n ws)) book at left uses count p.stands (rw z at p.goes) long

    -- The other's first entry of those left ends at `end`.
    module _ (end : ℕ) (some : 0 < rest) (ends : end ≡ from + 2 + 2 * get_or other from 0) where
      -- That entry.
      abbrev first : Entry
      first = counted (take (end - (from + 2)) (drop (from + 2) other)) (get_or other (from + 1) 0)

      -- Those behind it.
      abbrev others : List Entry
      others = entries (rest - 1) (drop end other)

      -- It stands before them.
      apart : entries rest (drop from other) ≡ first ∷ others
      apart = entries_at other from rest end some ends

      -- They ascend.
      order : Sorted (first ∷ others)
      order = rw apart at p.ascends

      -- They lie within the other's words.
      pass_inside : end + span (rest - 1) (drop end other) ≤ length other
      pass_inside = omega (arith, p.inside, span-at other from rest end some ends)

      -- The answer is that of the entries left.
      answer : {o : Ordering} → first_against first.key (entries left (drop at book)) ≡ o → first_against first.key p.next ≡ o
      answer c = rw (reached-entries p.passed p.next (behind n used ws) book at left uses count p.stands) at c

      -- The first entry left is lower: it stays.
      pass_lower : first_against first.key (entries left (drop at book)) ≡ Less → (past : ℕ) → past ≡ at + 2 + 2 * get_or book at 0
          → Pass ws n used other more book past (left - 1) from rest uses count lacking
      unfolding Sorted Below
      pass_lower c past is = go p.next p.stands p.sorted p.goes p.lacks (answer c)
        where
          go : (next : List Entry) → Reached p.passed next (behind n used ws) book at left uses count → Sorted next
              → add_all (entries more other) (entries n ws) ≡ p.passed ++ add_all (entries rest (drop from other)) next → lacking ≡ lacking_words (entries rest (drop from other)) next
              → first_against first.key next ≡ Less → Pass ws n used other more book past (left - 1) from rest uses count lacking
          go [] b s g l d = never cc
          go (e ∷ next) b s g l d = record {
            passed = p.passed ++ (e ∷ []);
            next = next;
            stands = reached-past p.passed e next (behind n used ws) book at left uses count b past is;
            sorted = s.2;
            inside = p.inside;
            ascends = p.ascends;
            goes = g ∙ ap (λ (l : List Entry). p.passed ++ l) (add-all_past (entries rest (drop from other)) e next p.ascends (rw apart d))
                ∙ sym (append_assoc p.passed (e ∷ []) (add_all (entries rest (drop from other)) next));
            fits = p.fits;
            lacks = l ∙ lacking_past (entries rest (drop from other)) e next (rw apart d) p.ascends;
          }

      -- It is equal: its count has room for the other's.
      pass_fits : first_against first.key (entries left (drop at book)) ≡ Equal → get_or (drop at book) 1 0 + get_or other (from + 1) 0 ≤ greatest_count
      pass_fits c = go p.next p.stands p.goes (answer c)
        where
          go : (next : List Entry) → Reached p.passed next (behind n used ws) book at left uses count
              → add_all (entries more other) (entries n ws) ≡ p.passed ++ add_all (entries rest (drop from other)) next → first_against first.key next ≡ Equal
              → get_or (drop at book) 1 0 + get_or other (from + 1) 0 ≤ greatest_count
          go [] b g d = never cc
          go (e ∷ next) b g d =
              let both : Entry = counted e.key (e.count + first.count) in
              let whole : add_all (entries more other) (entries n ws) ≡ p.passed ++ (both ∷ add_all others next) = g ∙ rw (apart, add-all_same first others e next order d) in
              rw (reached-second p.passed e next (behind n used ws) book at left uses count b)
              (fitting-entry _ (ap fitting (sym whole) ∙ p.fits) both (Memᴰ.append_right p.passed (here refl)))

      -- It is raised, and passed.
      pass_equal : first_against first.key (entries left (drop at book)) ≡ Equal → (book' : List ℕ) (past : ℕ) → past ≡ at + 2 + 2 * get_or book at 0
          → book' ≡ take at book ++ set (drop at book) 1 (get_or (drop at book) 1 0 + get_or other (from + 1) 0)
          → Pass ws n used other more book' past (left - 1) end (rest - 1) uses count lacking
      unfolding Sorted
      pass_equal c book' past is now = go p.next p.stands p.sorted p.goes p.lacks (answer c)
        where
          go : (next : List Entry) → Reached p.passed next (behind n used ws) book at left uses count → Sorted next
              → add_all (entries more other) (entries n ws) ≡ p.passed ++ add_all (entries rest (drop from other)) next → lacking ≡ lacking_words (entries rest (drop from other)) next
              → first_against first.key next ≡ Equal → Pass ws n used other more book' past (left - 1) end (rest - 1) uses count lacking
          go [] b s g l d = never cc
          go (e ∷ next) b s g l d =
              let both : Entry = counted e.key (e.count + first.count) in
              record {
                passed = p.passed ++ (both ∷ []);
                next = next;
                stands = reached-raised p.passed e next (behind n used ws) book at left uses count b book' past first.count is now;
                sorted = s.2;
                inside = pass_inside;
                ascends = order.2;
                goes = g ∙ rw (apart, add-all_same first others e next order d) (sym (append_assoc p.passed (both ∷ []) (add_all others next)));
                fits = p.fits;
                lacks = l ∙ rw apart (lacking_same first others e next (compare_equal e.key first.key d) order);
              }

      -- It is higher, or none is left.
      module _ (c : first_against first.key (entries left (drop at book)) ≡ Greater) where
        -- The other's entry stands below all.
        above : Below first.key p.next
        above = against_below first.key p.next (answer c)

        -- Its words, and those of the others that are lacking, are the words that are lacking.
        pass_lacks : lacking ≡ end - from + lacking_words others p.next
        pass_lacks =
            let long : 2 + length first.key ≡ end - from = simp (length-take, length-drop) (omega (arith, pass_inside)) in
            p.lacks ∙ rw (apart, lacking_new first others p.next above p.sorted, long)

        -- It is entered.
        pass_higher : (book' : List ℕ) → book' ≡ take at book ++ (take (end - from) (drop from other) ++ drop at book)
            → Pass ws n used other more book' (at + (end - from)) left end (rest - 1) (uses + (end - from)) (count + 1) (lacking - (end - from))
        unfolding Sorted
        pass_higher book' now =
            let entry : List ℕ = take (end - from) (drop from other) in
            let wide : end - from ≡ length entry = simp (length-take, length-drop) (omega (arith, pass_inside)) in
            let spelt : entry ≡ entry_words first = words-at other from end ends (omega (arith, pass_inside)) in
            record {
              passed = p.passed ++ (first ∷ []);
              next = p.next;
              stands = reached-insert _ _ _ _ _ _ _ _ p.stands first entry book' (end - from) spelt wide now;
              sorted = p.sorted;
              inside = pass_inside;
              ascends = order.2;
              goes = p.goes ∙ rw (apart, add-all_enter first others p.next order above) (sym (append_assoc p.passed (first ∷ []) (add_all others p.next)));
              fits = p.fits;
              lacks = omega (arith, pass_lacks);
            }

-- ---- a sweep

-- The pass has come so far in the words but for the gap, which has room for just the words that are still lacking.
pub record Adds (ws : List ℕ) (n used : ℕ) (other : List ℕ) (more lacking : ℕ) (book : List ℕ) (to kept at left from rest count : ℕ) : Type 0 where
  pub gap : Gap (length ws) book to kept at
  pub uses : ℕ
  pub whole : uses + (kept - to) ≡ used + lacking
  pub pass : Pass ws n used other more (shut book to kept) (to + (at - kept)) left from rest uses count (kept - to)

module _ (ws : List ℕ) (n used : ℕ) (other : List ℕ) (more lacking : ℕ) where
  -- At the begin the gap is opened in front of all entries.
  pub adds_start : Ready ws n used other more lacking → (book : List ℕ) → book ≡ take lacking ws ++ (take used ws ++ drop (lacking + used) ws)
      → Adds ws n used other more lacking book 0 lacking lacking n 0 more n
  adds_start r book now =
      let room : lacking + used ≤ length ws = ready_room ws n used other more lacking r in
      let long : length book ≡ length ws = rw now (simp (length-append, length-take, length-drop) (omega arith)) in
      let start : 0 + (lacking - lacking) ≡ 0 = omega arith in
      let gap : lacking - 0 ≡ lacking = omega arith in
      record {
        gap = record { low = omega arith; mid = omega arith; high = omega arith; long = long };
        uses = used;
        whole = omega arith;
        pass = rw (shut_opened ws book used lacking room now, start, gap) (pass_start ws n used other more lacking r);
      }

  module _ (book : List ℕ) (to kept at left from rest count : ℕ) (s : Adds ws n used other more lacking book to kept at left from rest count) where
    -- The words but for the gap.
    abbrev words : List ℕ
    words = shut book to kept

    -- The entries left lie within the words used, these within the book, and there are no more entries than words.
    pub adds_within : (at + span left (drop at book) ≤ used + lacking) × (used + lacking ≤ length book) × (count ≤ length book)
    adds_within = swept_within (length ws) (used + lacking) book to kept at s.gap _ _ _ left s.uses count s.pass.stands s.whole

    -- So does the first of the entries left.
    pub adds_first : 0 < left → at + 2 + 2 * get_or book at 0 ≤ length book
    adds_first h = omega (arith, swept_first (length ws) (used + lacking) book to kept at s.gap _ _ _ left s.uses count s.pass.stands s.whole h, adds_within)

    -- At the end none of the other is left, and the gap is used up.
    pub adds_end : Laid ws n used → rest ≤ 0 → Edited ws n used (add_all (entries more other) (entries n ws)) book (record { used = used + lacking; many = count })
    adds_end laid h =
        let none : kept - to ≡ 0 = pass_none ws n used other more words _ _ _ _ _ _ _ s.pass h in
        let all : shut book to kept ≡ book = shut_none book to kept (omega (arith, s.gap.low)) in
        let uses : s.uses ≡ used + lacking = omega (arith, s.whole) in
        rw (← all, ← uses) (pass_end ws n used other more words _ _ _ _ _ _ _ s.pass laid h (ap length all ∙ s.gap.long))

    -- The other's first entry of those left ends at `end`.
    module _ (end : ℕ) (some : 0 < rest) (ends : end ≡ from + 2 + 2 * get_or other from 0) where
      -- It lies within the other's words, with those behind it.
      pub adds_inside : end + span (rest - 1) (drop end other) ≤ length other
      adds_inside = pass_inside ws n used other more words _ _ _ _ _ _ _ s.pass end some ends

      -- Its key.
      abbrev key : List ℕ
      key = take (end - (from + 2)) (drop (from + 2) other)

      -- An answer about the book is one about the words but for the gap.
      told : {o : Ordering} → first_against key (entries left (drop at book)) ≡ o → first_against key (entries left (drop (to + (at - kept)) words)) ≡ o
      told c = rw (shut_rest (length ws) book to kept at s.gap) c

      -- The first entry left is lower: it stays.
      pub adds_lower : first_against key (entries left (drop at book)) ≡ Less → 0 < left → (past : ℕ) → past ≡ at + 2 + 2 * get_or book at 0
          → Adds ws n used other more lacking book to kept past (left - 1) from rest count
      adds_lower c h past is =
          let g = s.gap in
          record {
            gap = record { low = g.low; mid = omega (arith, g.mid); high = omega (arith, adds_first h); long = g.long };
            uses = s.uses;
            whole = s.whole;
            pass = pass_lower ws n used other more words _ _ _ _ _ _ _ s.pass end some ends (told c) (to + (past - kept)) (omega (arith, is, shut_nodes (length ws) book to kept at g, g.mid));
          }

      -- It is equal: in the part that was lent its count has room for the other's.
      pub adds_fits : first_against key (entries left (drop at book)) ≡ Equal → 0 < left → let part = take (length book - at) (drop at book) in
          (2 ≤ length part) × (get_or part 1 0 + get_or other (from + 1) 0 ≤ greatest_count)
      adds_fits c h =
          let f = pass_fits ws n used other more words _ _ _ _ _ _ _ s.pass end some ends (told c) in
          rw (tail_all at book s.gap.high) (rw length-drop (omega (arith, adds_first h)), rw (shut_rest (length ws) book to kept at s.gap) at f)

      -- The part comes back with the count raised.
      module _ (last : List ℕ) (now : last ≡ set (take (length book - at) (drop at book)) 1 (get_or (take (length book - at) (drop at book)) 1 0 + get_or other (from + 1) 0)) where
        -- The book then.
        back : put_mid at (length book - at) book last ≡ take at book ++ set (drop at book) 1 (get_or (drop at book) 1 0 + get_or other (from + 1) 0)
        back = tail_back at book s.gap.high last ∙ ap (λ (l : List ℕ). take at book ++ l) (rw (tail_all at book s.gap.high) at now)

        -- It has as many words, and the entry as many nodes.
        pub adds_raised : 0 < left → (length (put_mid at (length book - at) book last) ≡ length book) × (get_or (put_mid at (length book - at) book last) at 0 ≡ get_or book at 0)
        adds_raised h =
            (rw (back, length-append, length-set, length-take, length-drop) (omega (arith, s.gap.high)), rw back (nodes-kept book at (get_or (drop at book) 1 0 + get_or other (from + 1) 0) (omega (arith, adds_first h))))

        -- The entry is passed.
        pub adds_equal : first_against key (entries left (drop at book)) ≡ Equal → 0 < left → (past : ℕ) → past ≡ at + 2 + 2 * get_or (put_mid at (length book - at) book last) at 0
            → Adds ws n used other more lacking (put_mid at (length book - at) book last) to kept past (left - 1) end (rest - 1) count
        adds_equal c h past is =
            let g = s.gap in
            let r = adds_raised h in
            let nodes = shut_nodes (length ws) book to kept at g in
            let words' : shut (put_mid at (length book - at) book last) to kept ≡ take (to + (at - kept)) words ++ set (drop (to + (at - kept)) words) 1 (get_or (drop (to + (at - kept)) words) 1 0 + get_or other (from + 1) 0) =
            shut_write (length ws) book to kept at g (put_mid at (length book - at) book last) _ back
            ∙ ap (λ (l : List ℕ). take (to + (at - kept)) words ++ set l 1 (get_or l 1 0 + get_or other (from + 1) 0)) (sym (shut_rest (length ws) book to kept at g)) in
            record {
              gap = record { low = g.low; mid = omega (arith, g.mid); high = omega (arith, r, adds_first h); long = r.0 ∙ g.long };
              uses = s.uses;
              whole = s.whole;
              pass = pass_equal ws n used other more words _ _ _ _ _ _ _ s.pass end some ends (told c) (shut (put_mid at (length book - at) book last) to kept) (to + (past - kept))
                  (omega (arith, is, r.1, nodes, g.mid)) words';
            }

      -- It is higher, or none is left: the gap has room for the other's entry.
      pub adds_room : first_against key (entries left (drop at book)) ≡ Greater → to + (end - from) ≤ kept
      adds_room c = omega (arith, pass_lacks ws n used other more words _ _ _ _ _ _ _ s.pass end some ends (told c), s.gap.low)

      -- It is entered.
      pub adds_higher : first_against key (entries left (drop at book)) ≡ Greater → (book' : List ℕ) (to' : ℕ) → let entry = take (end - from) (drop from other) in
          book' ≡ entered to kept at entry book → to' ≡ to + (at - kept) + length entry → length book' ≡ length book
          → Adds ws n used other more lacking book' to' at at left end (rest - 1) (count + 1)
      adds_higher c book' to' now is same =
          let g = s.gap in
          let entry : List ℕ = take (end - from) (drop from other) in
          let wide : length entry ≡ end - from = simp (length-take, length-drop) (omega (arith, adds_inside)) in
          let room = adds_room c in
          let to_is : to' ≡ to + (at - kept) + (end - from) = omega (arith, is, wide) in
          let stays : to' + (at - at) ≡ to + (at - kept) + (end - from) = omega arith in
          let left_over : at - to' ≡ kept - to - (end - from) = omega (arith, g.low, g.mid) in
          let words' : shut book' to' at ≡ take (to + (at - kept)) words ++ (entry ++ drop (to + (at - kept)) words) =
          ap (λ (m : ℕ). shut book' m at) is ∙ shut_enter (length ws) book to kept at g entry book' (omega (arith, wide)) now in
          record {
            gap = record { low = omega (arith, g.mid); mid = omega arith; high = omega (arith, same, g.high); long = same ∙ g.long };
            uses = s.uses + (end - from);
            whole = omega (arith, s.whole, left_over);
            pass = rw (stays, left_over) (pass_higher ws n used other more words _ _ _ _ _ _ _ s.pass end some ends (told c) (shut book' to' at) words');
          }
