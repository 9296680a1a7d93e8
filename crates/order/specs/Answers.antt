-- What the public functions of `order_check`, `order_cuts` and `order_parts` answer, for all inputs. Assumes nothing: these are definitions.
use Rattle.std.specs.Prelude.{List, [], ◌∷◌, ℕ, zero, suc, ◌+◌, ◌-◌, ◌*◌, leb, length}
use Rattle.words.specs.Base.{when◌then◌else◌, over}
use Rattle.figures.specs.Numbers.{done, short_output}
use Rattle.figures.specs.Answers.{wrote}
use Rattle.order.specs.Trees.{Tree, words, cut, subtrees}
use Rattle.order.specs.Reading.{TreeFound, missing, found, by_found, by_order, order_of, cause_of}
use Rattle.order.specs.Parts.{part_of}
use Rattle.figures.specs.declared.Answer.{Answer}
use Rattle.figures.specs.declared.Written.{Written}
use Rattle.order.specs.declared.Kind.{Kind}
use Rattle.order.specs.declared.Kind.TheVariants.{Absent}
use Rattle.order.specs.declared.PartWritten.{PartWritten}

-- ---- check

-- The number of an order, and line 0: "for every other answer, 0 and 11 included, it is 0".
unfoldable pub check_of : List ℕ → Answer
check_of ws = record { number = cause_of ws; line = 0 }

-- ---- subtree

-- The tree at a place of a list, counted from 0; none past the last.
unfoldable pub tree_at : List Tree → ℕ → TreeFound
tree_at [] i = missing
tree_at (t ∷ ts) zero = found t
tree_at (t ∷ ts) (suc i) = tree_at ts i

-- The tree of a line, counted from 1; none for line 0 and for a line past the last.
unfoldable pub tree_of_line : ℕ → List Tree → TreeFound
tree_of_line zero ts = missing
tree_of_line (suc i) ts = tree_at ts i

-- A part of some words: the word at which it starts, and its own words.
pub record Piece : Type 0 where
  pub start : ℕ
  pub words : List ℕ

-- The part that starts at a word and has these words.
abbrev pub piece : ℕ → List ℕ → Piece
piece start ws = record { start = start; words = ws }

-- The empty part, at the front.
abbrev pub no_piece : Piece
no_piece = piece 0 []

-- "handed out as that part, asked for by its line; for an order with a cause of 1 or 2, or a line the order lacks, an empty part": the subtree's
-- words, behind the two words of each line before it.
unfoldable pub subtree_of : List ℕ → ℕ → Piece
subtree_of ws line = by_order (order_of ws) (λ n. no_piece) (λ t. by_found (tree_of_line line (subtrees t)) no_piece (λ s. piece ((line - 1) * 2) (words s)))

-- A part of lent words that begin at a place, a block and the bytes before it there, as it is handed out: the place where it begins, for a word
-- has two bytes, and its words.
abbrev pub piece_at : ℕ × ℕ → Piece → (ℕ × ℕ) × List ℕ
piece_at at p = ((at.0, p.start * 2 + at.1), p.words)

-- ---- writing words to the front of a lent output

-- What a call that writes answers, and the output's words then.
pub record Writing : Type 0 where
  pub answer : Written
  pub out : List ℕ

-- The answer and the output, as a call has them.
abbrev pub writing : Written → List ℕ → Writing
writing a out = record { answer = a; out = out }

-- A refusal by a number, with nothing written.
abbrev pub refuse : ℕ → List ℕ → Writing
refuse n out = writing (wrote n 0) out

-- "the stated output at its front; later output words stay"; 11 where the output is too short
unfoldable pub write : List ℕ → List ℕ → Writing
write new out =
    when leb (length new) (length out)
    then writing (wrote done (length new)) (over new out)
    else refuse short_output out

-- The cut at d of the subtree of a line; nothing for a line that the order lacks.
unfoldable pub cut_into_of : List ℕ → ℕ → ℕ → List ℕ → Writing
cut_into_of ws line d out =
    by_order (order_of ws) (λ n. refuse n out) (λ t. write (by_found (tree_of_line line (subtrees t)) [] (λ s. words (cut s d))) out)

-- ---- the part of a line

-- What a call that writes a part answers, and the output's words then.
pub record PartWriting : Type 0 where
  pub answer : PartWritten
  pub out : List ℕ

-- The answer and the output, as a call has them.
abbrev pub part_writing : PartWritten → List ℕ → PartWriting
part_writing a out = record { answer = a; out = out }

-- A number, and no part.
abbrev pub no_part : ℕ → PartWritten
no_part n = record { kind = Absent; written = wrote n 0 }

-- A writing, with the kind of part that was asked for.
abbrev pub of_kind : Kind → Writing → PartWriting
of_kind kind w = record { answer = record { kind = kind; written = w.answer }; out = w.out }

-- The part that a line stands for at k: its kind, and its words to the front of the output.
unfoldable pub part_into_of : List ℕ → ℕ → ℕ → List ℕ → PartWriting
part_into_of ws line k out =
    by_order (order_of ws) (λ n. part_writing (no_part n) out) (λ t.
    by_found (tree_of_line line (subtrees t)) (part_writing (no_part done) out) (λ s. of_kind (part_of k s).kind (write (words (part_of k s).tree) out)))
