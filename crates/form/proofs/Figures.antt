-- The figures of what reading and writing a form answer are small: a line is 65 at most, words read are 128 at most, and bytes written are 512
-- at most. Assumes nothing.
use Prim.Native.Nat.{ℕ, suc, ◌*◌, ◌≤◌}
use mathlib.Core.Path.{◌≡◌, refl, ap}
use mathlib.Core.List.{List, [], ◌∷◌}
use native.Mathlib.Omega.{arith}
use lib.ListN.{length, length-reverse}
use Rattle.figures.specs.Limits.{most_nodes, most_words}
use Rattle.order.specs.Trees.{Tree, subtrees}
use Rattle.order.specs.Answers.{Writing, refuse}
use Rattle.order.proofs.Causes.{by_order_lem}
use Rattle.order.proofs.Writing.{write-line, write-count}
use Rattle.form.specs.Text.{Line, lines_of, text_of}
use Rattle.form.specs.Reading.{Form, fault, form, form_of, words_of_lines, read_of}
use Rattle.form.specs.Faults.{Why, past, misspelt, no_option, not_allowed, too_deep, ninth_child}
use Rattle.form.specs.Writing.{write_of}
use Rattle.form.proofs.Counts.{length-words}
use Rattle.form.proofs.FirstFault.{first-fault}
use Rattle.form.proofs.LineBytes.{spell-most}
use Rattle.form.proofs.TreeLines.{lines-count}
use Rattle.form.proofs.Trips.{form-write, fault-write}
use Rattle.form.proofs.Unique.{form-text}

-- Before a line at fault stand at most 64 lines.
lines_before : {before : List Line} {rest : List ℕ} {n : ℕ} → Why before rest n → length before ≤ most_nodes
lines_before (past q h) = omega arith
lines_before (misspelt q h m) = omega arith
lines_before (no_option q h x p o) = omega arith
lines_before (not_allowed q h x p o a) = omega arith
lines_before (too_deep q h x p o a d) = omega arith
lines_before (ninth_child q h x p o a d m) = omega arith

-- So the line at fault of a text is line 65 at most.
pub text-line : (s : List ℕ) {n line : ℕ} → form_of s ≡ fault n line → line ≤ suc most_nodes
unfolding form_of
text-line [] {n} {line} e = let y : line ≡ 1 = cc in omega arith
text-line (b ∷ bs) {n} {line} e =
    let f = first-fault (b ∷ bs) n line (omega arith) e in
    omega (arith, f.place, lines_before f.why, length-reverse f.before)

-- What is known of the answer to a text.
module _ (s out : List ℕ) where
  -- Its line is 65 at most, and it counts 128 words at most.
  abbrev Read : Type 0
  Read = ((read_of s out).answer.line ≤ suc most_nodes) × ((read_of s out).answer.count ≤ most_words)

  -- Both hold, by what the text is.
  read-most : Read
  read-most = go (form_of s) refl
    where
      -- The same of a call whose outcome is known.
      known : {w : Writing} → read_of s out ≡ w → w.answer.line ≤ suc most_nodes → w.answer.count ≤ most_words → Read
      known e l c = (omega (arith, ap (λ (w : Writing). w.answer.line) e), omega (arith, ap (λ (w : Writing). w.answer.count) e))

      -- By what it is.
      go : (f : Form) → form_of s ≡ f → Read
      go (fault n line) e = known (fault-write s out e) (text-line s e) (omega arith)
      go (form xs) e =
          known (form-write s xs out e) (omega (arith, write-line (words_of_lines xs) out))
          (omega (arith, write-count (words_of_lines xs) out, length-words xs, (form-text s xs e).2))

  -- Reading a form: line 65 at most.
  pub read-line_most : (read_of s out).answer.line ≤ suc most_nodes
  read-line_most = read-most.0

  -- Reading a form: 128 words at most.
  pub read-count_most : (read_of s out).answer.count ≤ most_words
  read-count_most = read-most.1

-- The text of an order has at most eight bytes for each of its lines.
text-most : (t : Tree) → length (text_of t) ≤ 8 * length (subtrees t)
unfolding text_of
text-most t = omega (arith, spell-most (lines_of t 0), lines-count t 0)

module _ (os out : List ℕ) where
  -- Writing a form: line 0.
  pub print_line : (write_of os out).answer.line ≡ 0
  unfolding write_of
  print_line = by_order_lem (λ (w : Writing). w.answer.line ≡ 0) os (λ n. refuse n out) _ (λ n. refl) (λ t p. write-line (text_of t) out)

  -- Writing a form: at most eight bytes for each of 64 lines.
  pub print_count : (write_of os out).answer.count ≤ 8 * most_nodes
  unfolding write_of
  print_count =
      by_order_lem (λ (w : Writing). w.answer.count ≤ 8 * most_nodes) os (λ n. refuse n out) _ (λ n. omega arith)
      (λ t p. omega (arith, write-count (text_of t) out, text-most t, p.nodes))
