-- For all inputs: a refusal "leaves all lent words and bytes as they came" and counts 0, and what a call writes stands at the front of the
-- output, with the words behind it as they came. Assumes nothing.
use Prim.Native.Nat.{ℕ, ◌≤◌, ◌<◌}
use mathlib.Core.Path.{◌≡◌, refl, sym, ap, ◌∙◌}
use mathlib.Core.Bool.{Bool, true, false, not}
use mathlib.Core.List.{List, []}
use native.Mathlib.Decide.{dec_lt}
use native.Mathlib.Omega.{arith}
use lib.ListN.{length, drop, length-append, length-drop}
use lib.Seq.{drop-append_seam}
use Rattle.words.specs.Base.{when◌then◌else◌, within, over, ◌exactly_when◌}
use Rattle.figures.specs.Limits.{least_k, greatest_k}
use Rattle.figures.specs.Numbers.{done, k_outside, book_size, short_output}
use Rattle.figures.specs.Answers.{wrote, refused_at}
use Rattle.order.specs.Trees.{Tree, words, cut, subtrees}
use Rattle.order.specs.Reading.{TreeFound, missing, found, by_found, Order, refused, order, by_order, order_of}
use Rattle.order.specs.Parts.{part_of}
use Rattle.order.specs.Answers.{tree_of_line, Writing, writing, refuse, write, cut_into_of, PartWriting, part_writing, no_part, of_kind, part_into_of}
use Rattle.order.proofs.Writing.{no_output_room, has_room}
use Rattle.form.specs.Text.{text_of}
use Rattle.form.specs.Reading.{Form, fault, form, by_form, form_of, words_of_lines, read_of}
use Rattle.form.specs.Writing.{write_of}
use Rattle.book.specs.Decoding.{sized}
use Rattle.book.specs.Taught.{book_of}
use Rattle.book.specs.Opening.{Outcome, leave, write_book, open_of}

-- ---- words written to the front of a lent output

-- A writing that is known has its number.
pub writing-number : {v w : Writing} → v ≡ w → v.answer.number ≡ w.answer.number
writing-number e = ap (λ (w : Writing). w.answer.number) e

module _ (new out : List ℕ) where
  -- Words that the output is too short for are refused by 11.
  pub write-refuses : length out < length new → write new out ≡ refuse short_output out
  write-refuses h = sym (no_output_room new out (wrote short_output 0) refl h)

  -- Words that it has room for stand at its front, and are counted.
  pub write-writes : length new ≤ length out → write new out ≡ writing (wrote done (length new)) (over new out)
  write-writes h = sym (has_room new out (wrote done (length new)) (length new) (over new out) refl refl h refl)

  -- A refusal to write them leaves the output and counts 0.
  write-leaves : ((write new out).answer.number ≡ done → ⊥) → ((write new out).out ≡ out) × ((write new out).answer.count ≡ 0)
  write-leaves x = go (dec_lt (length out) (length new))
    where
      -- By whether there is room.
      go : Dec (length out < length new) → ((write new out).out ≡ out) × ((write new out).answer.count ≡ 0)
      go (yes h) = (ap (λ (w : Writing). w.out) (write-refuses h), ap (λ (w : Writing). w.answer.count) (write-refuses h))
      go (no h) = absurd (x (ap (λ (w : Writing). w.answer.number) (write-writes (omega arith))))

  -- 11, "lent output too short": exactly when it has fewer words than are to be written.
  pub write-short : ((write new out).answer.number ≡ short_output) exactly_when (length out < length new)
  write-short = (λ e. go e (dec_lt (length out) (length new)), λ h. ap (λ (w : Writing). w.answer.number) (write-refuses h))
    where
      -- By whether there is room.
      go : (write new out).answer.number ≡ short_output → Dec (length out < length new) → length out < length new
      go e (yes h) = h
      go e (no h) = absurd (omega (arith, ap (λ (w : Writing). w.answer.number) (write-writes (omega arith))))

  -- "later output words stay"
  pub later-words_stay : (drop (length new) (write new out).out ≡ drop (length new) out) × (length (write new out).out ≡ length out)
  later-words_stay = go (dec_lt (length out) (length new))
    where
      -- By whether there is room.
      go : Dec (length out < length new) → (drop (length new) (write new out).out ≡ drop (length new) out) × (length (write new out).out ≡ length out)
      go (yes h) = (ap (λ (w : Writing). drop (length new) w.out) (write-refuses h), ap (λ (w : Writing). length w.out) (write-refuses h))
      go (no h) =
          let l : length new ≤ length out = omega arith in
          let all : length (over new out) ≡ length out = omega (arith, length-append new (drop (length new) out), length-drop (length new) out) in
          (ap (λ (w : Writing). drop (length new) w.out) (write-writes l) ∙ drop-append_seam new (drop (length new) out), ap (λ (w : Writing). length w.out) (write-writes l) ∙ all)

-- ---- the calls that write

-- A call that writes words of an order leaves the output where it refuses, be it for the order or for want of room.
order-leaves : (o : Order) (out : List ℕ) (new : Tree → List ℕ) (w : Writing) → w ≡ by_order o (λ n. refuse n out) (λ t. write (new t) out)
    → (w.answer.number ≡ done → ⊥) → (w.out ≡ out) × (w.answer.count ≡ 0)
unfolding by_order
order-leaves (refused n) out new w e x = rw e (refl, refl)
order-leaves (order t) out new w e x = rw e (write-leaves (new t) out (rw e at x))

-- Writing a form leaves the output where it refuses.
pub print_refusal_leaves : (os out : List ℕ) → ((write_of os out).answer.number ≡ done → ⊥) → ((write_of os out).out ≡ out) × ((write_of os out).answer.count ≡ 0)
unfolding write_of
print_refusal_leaves os out x = order-leaves (order_of os) out text_of (write_of os out) refl x

-- Cutting into an output leaves it where it refuses.
pub cut-refusal_leaves : (os out : List ℕ) (line d : ℕ) → ((cut_into_of os line d out).answer.number ≡ done → ⊥)
    → ((cut_into_of os line d out).out ≡ out) × ((cut_into_of os line d out).answer.count ≡ 0)
unfolding cut_into_of
cut-refusal_leaves os out line d x =
    order-leaves (order_of os) out (λ t. by_found (tree_of_line line (subtrees t)) [] (λ s. words (cut s d))) (cut_into_of os line d out) refl x

-- Writing the part of a line leaves the output where it refuses.
pub part-refusal_leaves : (os out : List ℕ) (line k : ℕ) → ((part_into_of os line k out).answer.written.number ≡ done → ⊥)
    → ((part_into_of os line k out).out ≡ out) × ((part_into_of os line k out).answer.written.count ≡ 0)
unfolding part_into_of by_order by_found
part-refusal_leaves os out line k = by_order_lem (order_of os)
  where
    -- What the call does with the tree of the line, if there is one.
    part : TreeFound → PartWriting
    part s = by_found s (part_writing (no_part done) out) (λ s. of_kind (part_of k s).kind (write (words (part_of k s).tree) out))

    -- By whether the order has the line.
    by_line_lem : (s : TreeFound) → ((part s).answer.written.number ≡ done → ⊥) → ((part s).out ≡ out) × ((part s).answer.written.count ≡ 0)
    by_line_lem missing x = absurd (x refl)
    by_line_lem (found s) x = write-leaves (words (part_of k s).tree) out x

    -- What the call does with the order.
    whole : Order → PartWriting
    whole o = by_order o (λ n. part_writing (no_part n) out) (λ t. part (tree_of_line line (subtrees t)))

    -- By whether the words are an order.
    by_order_lem : (o : Order) → ((whole o).answer.written.number ≡ done → ⊥) → ((whole o).out ≡ out) × ((whole o).answer.written.count ≡ 0)
    by_order_lem (refused n) x = (refl, refl)
    by_order_lem (order t) x = by_line_lem (tree_of_line line (subtrees t)) x

-- Reading a form leaves the output where it refuses.
pub read-refusal_leaves : (text out : List ℕ) → ((read_of text out).answer.number ≡ done → ⊥) → ((read_of text out).out ≡ out) × ((read_of text out).answer.count ≡ 0)
unfolding read_of by_form
read-refusal_leaves text out = go (form_of text)
  where
    -- What the call does with the form.
    whole : Form → Writing
    whole f = by_form f (λ n line. writing (refused_at n line) out) (λ xs. write (words_of_lines xs) out)

    -- By whether the text is a form.
    go : (f : Form) → ((whole f).answer.number ≡ done → ⊥) → ((whole f).out ≡ out) × ((whole f).answer.count ≡ 0)
    go (fault n line) x = (refl, refl)
    go (form xs) x = write-leaves (words_of_lines xs) out x

-- ---- opening

-- Opening leaves the slice where it refuses.
pub open_refusal_leaves : (ws : List ℕ) (k : ℕ) → ((open_of ws k).answer.number ≡ done → ⊥) → (open_of ws k).words ≡ ws
unfolding open_of when◌then◌else◌
open_refusal_leaves ws k = go (sized ws) (within least_k greatest_k k)
  where
    -- What opening does, by the tests of the size and of k.
    whole : Bool → Bool → Outcome
    whole a b = when not a then leave ws book_size else when not b then leave ws k_outside else write_book ws (book_of k [])

    -- By the two tests.
    go : (a b : Bool) → ((whole a b).answer.number ≡ done → ⊥) → (whole a b).words ≡ ws
    go true true x = absurd (x refl)
    go true false x = refl
    go false b x = refl
