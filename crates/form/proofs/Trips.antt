-- Orders and texts are two spellings of the same trees (01, "Order form text"): each goes to the other and back unchanged. Assumes
-- nothing.
use mathlib.Core.Path.{◌≡◌, refl, ap, sym, ◌∙◌}
use mathlib.Core.Bool.{Bool, true, false}
use mathlib.Core.List.{List}
use Prim.Native.Nat.{ℕ}
use native.Mathlib.Omega.{arith}
use lib.Dec.{leb}
use lib.ListN.{length, take, drop}
use lib.Seq.{take-append_seam}
use Rattle.words.specs.Base.{when◌then◌else◌, over}
use Rattle.figures.specs.Numbers.{done, short_output}
use Rattle.figures.specs.Answers.{wrote, refused_at}
use Rattle.order.specs.Trees.{Tree}
use Rattle.order.specs.Reading.{order, by_order, order_of, cause_of}
use Rattle.order.specs.Answers.{Writing, writing, refuse, write}
use Rattle.order.proofs.Orders.{tree-passes}
use Rattle.order.proofs.Causes.{Seen, stopped, passed, seen, order-passed}
use Rattle.order.proofs.Unique.{words-unique}
use Rattle.form.specs.Text.{Line, lines_of, text_of}
use Rattle.form.specs.Reading.{Form, fault, form, by_form, form_of, words_of_lines, read_of}
use Rattle.form.specs.Writing.{write_of}
use Rattle.form.proofs.TreeLines.{lines-words}
use Rattle.form.proofs.FirstFault.{text-refused}
use Rattle.form.proofs.RoundTrip.{form-of}
use Rattle.form.proofs.Grow.{formed}

-- ---- orders and forms

-- The text of an order is read as its lines, and they have the order's words.
pub order-text : (ws : List ℕ) (t : Tree) → order_of ws ≡ order t → (form_of (text_of t) ≡ form (lines_of t 0)) × (words_of_lines (lines_of t 0) ≡ ws)
order-text ws t e =
    let p = order-passed ws t e in
    (form-of t p.good p.deep p.nodes, lines-words t 0 ∙ sym p.spelt)

-- The words of a form are an order, whose lines and text the form's are.
pub form-order : (s : List ℕ) (xs : List Line) → form_of s ≡ form xs → (t : Tree) × (order_of (words_of_lines xs) ≡ order t) × (xs ≡ lines_of t 0) × (text_of t ≡ s)
form-order s xs e =
    let f = formed s xs e in
    (f.tree, ap order_of f.spelt ∙ tree-passes f.tree f.good-tree f.nodes f.deep, f.lines, f.text)

-- One text for each order: forms with the same words are one text.
pub one-text : (s u : List ℕ) (xs ys : List Line) → form_of s ≡ form xs → form_of u ≡ form ys → words_of_lines xs ≡ words_of_lines ys → s ≡ u
one-text s u xs ys e f w =
    let a = formed s xs e in
    let b = formed u ys f in
    sym a.text ∙ ap text_of (words-unique a.tree b.tree (sym a.spelt ∙ w ∙ b.spelt)) ∙ b.text

-- One order for each text: orders with the same text are the same words.
pub one-order : (ws vs : List ℕ) (t u : Tree) → order_of ws ≡ order t → order_of vs ≡ order u → text_of t ≡ text_of u → ws ≡ vs
one-order ws vs t u e f x =
    let a = order-text ws t e in
    let b = order-text vs u f in
    let z : form (lines_of t 0) ≡ form (lines_of u 0) = sym a.0 ∙ ap form_of x ∙ b.0 in
    let y : lines_of t 0 ≡ lines_of u 0 = cc in
    sym a.1 ∙ ap words_of_lines y ∙ b.1

-- ---- the calls

-- What a call wrote without fault stands at the front of the output.
written : (w : Writing) (new out : List ℕ) → w ≡ write new out → w.answer.number ≡ done → take w.answer.count w.out ≡ new
unfolding write when◌then◌else◌
written w new out = go (leb (length new) (length out))
  where
    go : (b : Bool) → w ≡ (when b then writing (wrote done (length new)) (over new out) else refuse short_output out) → w.answer.number ≡ done → take w.answer.count w.out ≡ new
    go true q e = ap (λ (w : Writing). take w.answer.count w.out) q ∙ take-append_seam new (drop (length new) out)
    go false q e = let z : short_output ≡ done = sym (ap (λ (w : Writing). w.answer.number) q) ∙ e in absurd (omega arith)

-- Of an order the text is written.
pub order-write : (ws : List ℕ) (t : Tree) (out : List ℕ) → order_of ws ≡ order t → write_of ws out ≡ write (text_of t) out
unfolding write_of by_order
order-write ws t out e = rw e

-- Of a form the words are written.
pub form-write : (s : List ℕ) (xs : List Line) (out : List ℕ) → form_of s ≡ form xs → read_of s out ≡ write (words_of_lines xs) out
unfolding read_of by_form
form-write s xs out e = rw e

-- Words of which a text is written without fault are an order.
writes_order : (ws out : List ℕ) → (write_of ws out).answer.number ≡ done → (t : Tree) × (order_of ws ≡ order t)
unfolding write_of by_order
writes_order ws out e = go (seen ws)
  where
    go : Seen ws → (t : Tree) × (order_of ws ≡ order t)
    go (passed t h p) = (t, p.is)
    go (stopped h r) = let q : write_of ws out ≡ refuse (cause_of ws) out = rw r in absurd (h (sym (ap (λ (w : Writing). w.answer.number) q) ∙ e))

-- A text that is refused at a line writes nothing.
pub fault-write : (s out : List ℕ) {n line : ℕ} → form_of s ≡ fault n line → read_of s out ≡ writing (refused_at n line) out
unfolding read_of by_form
fault-write s out e = rw e

-- A text that is read without fault is a form.
reads_form : (s out : List ℕ) → (read_of s out).answer.number ≡ done → (xs : List Line) × (form_of s ≡ form xs)
unfolding read_of by_form
reads_form s out e = go (form_of s) refl
  where
    go : (f : Form) → form_of s ≡ f → (xs : List Line) × (form_of s ≡ form xs)
    go (form xs) q = (xs, q)
    go (fault n line) q = absurd (text-refused s q (sym (ap (λ (w : Writing). w.answer.number) (fault-write s out q)) ∙ e))

-- What is written is read back to the same words.
pub written_read : (ws out : List ℕ) → (write_of ws out).answer.number ≡ done → (later : List ℕ) → read_of (take (write_of ws out).answer.count (write_of ws out).out) later ≡ write ws later
written_read ws out e later =
    let o = writes_order ws out e in
    let x = order-text ws o.0 o.1 in
    ap (λ (b : List ℕ). read_of b later) (written (write_of ws out) (text_of o.0) out (order-write ws o.0 out o.1) e)
    ∙ form-write (text_of o.0) (lines_of o.0 0) later x.0
    ∙ ap (λ (v : List ℕ). write v later) x.1

-- What is read without fault is written back to the same bytes.
pub read-written : (s out : List ℕ) → (read_of s out).answer.number ≡ done → (later : List ℕ) → write_of (take (read_of s out).answer.count (read_of s out).out) later ≡ write s later
read-written s out e later =
    let f = reads_form s out e in
    let x = form-order s f.0 f.1 in
    ap (λ (v : List ℕ). write_of v later) (written (read_of s out) (words_of_lines f.0) out (form-write s f.0 out f.1) e)
    ∙ order-write (words_of_lines f.0) x.0 later x.1
    ∙ ap (λ (b : List ℕ). write b later) x.3
