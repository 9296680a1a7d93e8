-- Numbering an order, and handing out and writing the parts of its lines, answer exactly by the rows of 01's table, as specs/Whys.antt
-- states them, for any words and any line: every answer has its row, and what has a row is the answer. Assumes nothing.
use Prim.Native.Nat.{ℕ, ◌-◌, ◌*◌, ◌/◌, ◌≤◌, ◌<◌}
use mathlib.Core.Path.{◌≡◌, refl, sym, ap, ◌∙◌}
use mathlib.Core.List.{List, []}
use native.Mathlib.Decide.{dec_lt}
use native.Mathlib.Omega.{arith}
use borrow.Author.Tests.{le-leb, lt-leb}
use lib.ListN.{length, take, drop}
use Rattle.words.specs.Base.{when◌then◌else◌}
use Rattle.figures.specs.Numbers.{done}
use Rattle.figures.specs.Answers.{answered, wrote}
use Rattle.figures.specs.declared.Answer.{Answer}
use Rattle.order.specs.Trees.{Tree, words, depth, cut, subtrees}
use Rattle.order.specs.Reading.{missing, found, by_found, refused, by_order, order_of, cause_of}
use Rattle.order.specs.Causes.{Cause}
use Rattle.order.specs.Fits.{IsOrder}
use Rattle.order.specs.Parts.{is_low, middle, part_of}
use Rattle.order.specs.Answers.{check_of, tree_of_line, Piece, piece, no_piece, subtree_of, Writing, writing, refuse, write, cut_into_of, PartWriting, part_writing, no_part, of_kind, part_into_of}
use Rattle.order.specs.Standing.{Lacking, At, place_of}
use Rattle.order.specs.declared.Kind.TheVariants.{Low, Middle}
use Rattle.order.proofs.Orders.{size}
use Rattle.order.proofs.Causes.{cause_is, cause_only, Seen, stopped, passed, seen, refused-by}
use Rattle.order.proofs.Fitting.{passed-order, order-read}
use Rattle.order.proofs.Spots.{spot_part}
use Rattle.order.proofs.Lines.{LacksLine, HasLine, placed, place_none, place-past, place_at_lem}
use Rattle.promises.specs.Whys.{WhyNumbered, numbered, NoSuchLine, line_0, past_last, WhySubtree, subtree_no_order, subtree_lacks, subtree}
use Rattle.promises.specs.Whys.{WhyCut, cut_no_order, cut_lacks, cut_short, cut_written}
use Rattle.promises.specs.Whys.{WhyPart, part_no_order, part_lacks, low_short, low_written, middle_short, middle_written}
use Rattle.promises.proofs.Laws.Refusals.{write-refuses, write-writes}

-- ---- the number of an order

module _ (os : List ℕ) where
  -- `check` answers by a row of 01's table.
  pub numbered-why : WhyNumbered os (check_of os)
  unfolding check_of
  numbered-why = numbered (cause_of os) refl (cause_is os)

  -- It answers by no other row: what has one is what it does.
  pub numbered-only : (a : Answer) → WhyNumbered os a → check_of os ≡ a
  unfolding check_of
  numbered-only a (numbered n e c) = ap answered (cause_only os n c) ∙ sym e

-- ---- the lines of an order

-- Words with a cause of 1 or 2 are refused by it.
refused-order : (os : List ℕ) (n : ℕ) → Cause os n → (n ≡ done → ⊥) → order_of os ≡ refused n
refused-order os n c x = let q : cause_of os ≡ n = cause_only os n c in refused-by os (λ z. x (sym q ∙ z)) ∙ ap refused q

module _ (os : List ℕ) (t : Tree) (o : IsOrder os t) where
  -- An order has no cause of 1 or 2.
  no_cause : cause_of os ≡ done
  unfolding cause_of by_order
  no_cause = rw (order-read os t o)

  -- It has half as many lines as words.
  half_lines : length os / 2 ≡ length (subtrees t)
  half_lines = omega (arith, size t, ap length o.spelt)

  module _ (line : ℕ) where
    -- A line that it lacks has no subtree.
    no_subtree : NoSuchLine t line → tree_of_line line (subtrees t) ≡ missing
    no_subtree l = go (placed os line (place_of os line) Lacking refl (place l))
      where
        -- The line has no place.
        place : NoSuchLine t line → place_of os line ≡ Lacking
        place (line_0 z) = place_none os line no_cause z
        place (past_last h) = place-past os line no_cause (omega (arith, half_lines))

        -- So it has no tree.
        go : LacksLine os line → tree_of_line line (subtrees t) ≡ missing
        go q = let e : q.tree ≡ t = cc (q.is, order-read os t o) in ap (λ (u : Tree). tree_of_line line (subtrees u)) (sym e) ∙ q.lacks

    -- A line that it has is that of a subtree, which is a contiguous part of its words.
    record OfLine : Type 0 where
      of : Tree
      is : tree_of_line line (subtrees t) ≡ found of
      part : take (length (words of)) (drop ((line - 1) * 2) os) ≡ words of

    -- Any line but those that it lacks is one of these.
    of-line : (line ≡ 0 → ⊥) → line ≤ length (subtrees t) → OfLine
    of-line z h = go (placed os line (place_of os line) (At ((line - 1) * 2)) refl (place_at_lem os line no_cause z (omega (arith, half_lines))))
      where
        -- By the line's place.
        go : HasLine os line ((line - 1) * 2) → OfLine
        go q =
            let e : q.tree ≡ t = cc (q.is, order-read os t o) in
            record {
              of = q.spot.tree;
              is = ap (λ (u : Tree). tree_of_line line (subtrees u)) (sym e) ∙ q.spot.is;
              part = spot_part os ((line - 1) * 2) _ q.spot;
            }

-- What a line of any words is: a refused order, a line that the order lacks, or one that it has.
data Asked (os : List ℕ) (line : ℕ) : Type 0 where
  no_order : (n : ℕ) → Cause os n → (n ≡ done → ⊥) → Asked os line
  lacking : (t : Tree) → IsOrder os t → NoSuchLine t line → Asked os line
  there : (t : Tree) (o : IsOrder os t) → OfLine os t o line → Asked os line

-- Every line of any words is one of these.
asked : (os : List ℕ) (line : ℕ) → Asked os line
asked os line = go (seen os)
  where
    -- Of an order, by whether it has the line.
    by_line_lem : (t : Tree) → IsOrder os t → Dec (line < 1) → Dec (length (subtrees t) < line) → Asked os line
    by_line_lem t o (yes h) d = lacking t o (line_0 (omega arith))
    by_line_lem t o (no h) (yes g) = lacking t o (past_last g)
    by_line_lem t o (no h) (no g) = there t o (of-line os t o line (λ z. omega arith) (omega arith))

    -- By whether the words are an order.
    go : Seen os → Asked os line
    go (stopped h r) = no_order (cause_of os) (cause_is os) h
    go (passed t h p) = by_line_lem t (passed-order os t p) (dec_lt line 1) (dec_lt (length (subtrees t)) line)

-- ---- the subtree of a line

module _ (os : List ℕ) (line : ℕ) where
  -- Of words with a cause of 1 or 2 an empty part is handed out.
  hands_none : (n : ℕ) → Cause os n → (n ≡ done → ⊥) → subtree_of os line ≡ no_piece
  unfolding subtree_of by_order
  hands_none n c x = rw (refused-order os n c x)

  module _ (t : Tree) (o : IsOrder os t) where
    -- So it is for a line that the order lacks.
    hands_empty : NoSuchLine t line → subtree_of os line ≡ no_piece
    unfolding subtree_of by_order by_found
    hands_empty l = rw (order-read os t o, no_subtree os t o line l)

    -- For any other line its subtree's words are, from the line's own on.
    hands_part : (s : Tree) → tree_of_line line (subtrees t) ≡ found s → subtree_of os line ≡ piece ((line - 1) * 2) (words s)
    unfolding subtree_of by_order by_found
    hands_part s e = rw (order-read os t o, e)

  -- `subtree` hands out by a row.
  pub subtree-why : WhySubtree os line (subtree_of os line)
  subtree-why = go (asked os line)
    where
      -- By what is asked.
      go : Asked os line → WhySubtree os line (subtree_of os line)
      go (no_order n c x) = subtree_no_order n (hands_none n c x) c x
      go (lacking t o l) = subtree_lacks t (hands_empty t o l) o l
      go (there t o p) = subtree t p.of (hands_part t o p.of p.is) o p.is p.part

  -- It hands out by no other row: what has one is what it hands out.
  pub subtree-only : (w : Piece) → WhySubtree os line w → subtree_of os line ≡ w
  subtree-only w (subtree_no_order n e c x) = hands_none n c x ∙ sym e
  subtree-only w (subtree_lacks t e o l) = hands_empty t o l ∙ sym e
  subtree-only w (subtree t s e o i p) = hands_part t o s i ∙ sym e

-- ---- the cut of a line's subtree

module _ (os out : List ℕ) (line d : ℕ) where
  -- Words with a cause of 1 or 2 are refused by it.
  cuts_none : (n : ℕ) → Cause os n → (n ≡ done → ⊥) → cut_into_of os line d out ≡ refuse n out
  unfolding cut_into_of by_order
  cuts_none n c x = rw (refused-order os n c x)

  module _ (t : Tree) (o : IsOrder os t) where
    -- Of a line that the order lacks nothing is written.
    cuts_empty : NoSuchLine t line → cut_into_of os line d out ≡ writing (wrote done 0) out
    unfolding cut_into_of by_order by_found
    cuts_empty l = rw (order-read os t o, no_subtree os t o line l) (write-writes [] out (omega arith))

    -- Of any other the cut of its subtree is written, if there is room.
    cuts_words : (s : Tree) → tree_of_line line (subtrees t) ≡ found s → cut_into_of os line d out ≡ write (words (cut s d)) out
    unfolding cut_into_of by_order by_found
    cuts_words s e = rw (order-read os t o, e)

  -- Writing a cut answers by a row of 01's table.
  pub cut-why : WhyCut os out line d (cut_into_of os line d out)
  cut-why = go (asked os line)
    where
      -- A line's cut, by whether the output has room.
      by_room : (t : Tree) → IsOrder os t → (s : Tree) → tree_of_line line (subtrees t) ≡ found s → Dec (length out < length (words (cut s d))) → WhyCut os out line d (cut_into_of os line d out)
      by_room t o s i (yes h) = cut_short t s (cuts_words t o s i ∙ write-refuses (words (cut s d)) out h) o i h
      by_room t o s i (no h) =
          let l : length (words (cut s d)) ≤ length out = omega arith in
          cut_written t s (cuts_words t o s i ∙ write-writes (words (cut s d)) out l) o i l

      -- By what is asked.
      go : Asked os line → WhyCut os out line d (cut_into_of os line d out)
      go (no_order n c x) = cut_no_order n (cuts_none n c x) c x
      go (lacking t o l) = cut_lacks t (cuts_empty t o l) o l
      go (there t o p) = by_room t o p.of p.is (dec_lt (length out) (length (words (cut p.of d))))

  -- It answers by no other row: what has one is what it does.
  pub cut-only : (w : Writing) → WhyCut os out line d w → cut_into_of os line d out ≡ w
  cut-only w (cut_no_order n e c x) = cuts_none n c x ∙ sym e
  cut-only w (cut_lacks t e o l) = cuts_empty t o l ∙ sym e
  cut-only w (cut_short t s e o i h) = cuts_words t o s i ∙ write-refuses (words (cut s d)) out h ∙ sym e
  cut-only w (cut_written t s e o i l) = cuts_words t o s i ∙ write-writes (words (cut s d)) out l ∙ sym e

-- ---- the part that a line stands for

module _ (os out : List ℕ) (line k : ℕ) where
  -- Words with a cause of 1 or 2 have no part, and are refused by it.
  parts_none : (n : ℕ) → Cause os n → (n ≡ done → ⊥) → part_into_of os line k out ≡ part_writing (no_part n) out
  unfolding part_into_of by_order
  parts_none n c x = rw (refused-order os n c x)

  module _ (t : Tree) (o : IsOrder os t) where
    -- A line that the order lacks has no part.
    parts-empty : NoSuchLine t line → part_into_of os line k out ≡ part_writing (no_part done) out
    unfolding part_into_of by_order by_found
    parts-empty l = rw (order-read os t o, no_subtree os t o line l)

    -- A subtree of depth at most k-2 is written as a low part, if there is room.
    parts_low : (s : Tree) → tree_of_line line (subtrees t) ≡ found s → depth s ≤ k - 2 → part_into_of os line k out ≡ of_kind Low (write (words s) out)
    unfolding part_into_of by_order by_found part_of is_low when◌then◌else◌
    parts_low s e h = rw (order-read os t o, e, le-leb (depth s) (k - 2) h)

    -- The cut of a deeper one is written as a middle part, if there is room.
    parts-middle : (s : Tree) → tree_of_line line (subtrees t) ≡ found s → k - 2 < depth s → part_into_of os line k out ≡ of_kind Middle (write (words (cut s (k - 1))) out)
    unfolding part_into_of by_order by_found part_of is_low middle when◌then◌else◌
    parts-middle s e h = rw (order-read os t o, e, lt-leb (depth s) (k - 2) h)

  -- Writing a part answers by a row of 01's table.
  pub part-why : WhyPart os out line k (part_into_of os line k out)
  part-why = go (asked os line)
    where
      -- A low part, by whether the output has room.
      low : (t : Tree) → IsOrder os t → (s : Tree) → tree_of_line line (subtrees t) ≡ found s → depth s ≤ k - 2 → Dec (length out < length (words s))
          → WhyPart os out line k (part_into_of os line k out)
      low t o s i b (yes h) = low_short t s (parts_low t o s i b ∙ ap (of_kind Low) (write-refuses (words s) out h)) o i b h
      low t o s i b (no h) =
          let l : length (words s) ≤ length out = omega arith in
          low_written t s (parts_low t o s i b ∙ ap (of_kind Low) (write-writes (words s) out l)) o i b l

      -- A middle part, by whether the output has room.
      deep : (t : Tree) → IsOrder os t → (s : Tree) → tree_of_line line (subtrees t) ≡ found s → k - 2 < depth s → Dec (length out < length (words (cut s (k - 1))))
          → WhyPart os out line k (part_into_of os line k out)
      deep t o s i b (yes h) = middle_short t s (parts-middle t o s i b ∙ ap (of_kind Middle) (write-refuses (words (cut s (k - 1))) out h)) o i b h
      deep t o s i b (no h) =
          let l : length (words (cut s (k - 1))) ≤ length out = omega arith in
          middle_written t s (parts-middle t o s i b ∙ ap (of_kind Middle) (write-writes (words (cut s (k - 1))) out l)) o i b l

      -- A line's part, by the depth of its subtree.
      by_depth : (t : Tree) → IsOrder os t → (s : Tree) → tree_of_line line (subtrees t) ≡ found s → Dec (k - 2 < depth s) → WhyPart os out line k (part_into_of os line k out)
      by_depth t o s i (yes b) = deep t o s i b (dec_lt (length out) (length (words (cut s (k - 1)))))
      by_depth t o s i (no b) = low t o s i (omega arith) (dec_lt (length out) (length (words s)))

      -- By what is asked.
      go : Asked os line → WhyPart os out line k (part_into_of os line k out)
      go (no_order n c x) = part_no_order n (parts_none n c x) c x
      go (lacking t o l) = part_lacks t (parts-empty t o l) o l
      go (there t o p) = by_depth t o p.of p.is (dec_lt (k - 2) (depth p.of))

  -- It answers by no other row: what has one is what it does.
  pub part-only : (w : PartWriting) → WhyPart os out line k w → part_into_of os line k out ≡ w
  part-only w (part_no_order n e c x) = parts_none n c x ∙ sym e
  part-only w (part_lacks t e o l) = parts-empty t o l ∙ sym e
  part-only w (low_short t s e o i b h) = parts_low t o s i b ∙ ap (of_kind Low) (write-refuses (words s) out h) ∙ sym e
  part-only w (low_written t s e o i b l) = parts_low t o s i b ∙ ap (of_kind Low) (write-writes (words s) out l) ∙ sym e
  part-only w (middle_short t s e o i b h) = parts-middle t o s i b ∙ ap (of_kind Middle) (write-refuses (words (cut s (k - 1))) out h) ∙ sym e
  part-only w (middle_written t s e o i b l) = parts-middle t o s i b ∙ ap (of_kind Middle) (write-writes (words (cut s (k - 1))) out l) ∙ sym e
