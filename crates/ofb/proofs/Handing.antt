-- An answer as it is handed on to C: its figures fit C's numbers. Assumes nothing.
use Prim.Native.Nat.{ℕ, ◌^◌, ◌<◌}
use mathlib.Core.Path.{◌≡◌, ap}
use mathlib.Core.List.{List}
use native.Mathlib.Omega.{arith}
use Rattle.order.specs.Answers.{Writing}
use Rattle.form.specs.Reading.{read_of}
use Rattle.form.specs.Writing.{write_of}
use Rattle.form.proofs.Figures.{read-line_most, read-count_most, print_line, print_count}
use Rattle.book.specs.Opening.{Outcome}
use Rattle.book_filing.specs.Files.{write_file_of}
use Rattle.book_filing.proofs.Writing.{filed-line, filed-count}

-- ---- calls that may write a book

-- The line of an outcome that is known to be 0 fits.
pub outcome_fits : {o p : Outcome} → o ≡ p → p.answer.line ≡ 0 → o.answer.line < 2 ^ 16
outcome_fits e z = omega (arith, ap (λ (o : Outcome). o.answer.line) e)

-- ---- calls that write words or bytes

-- The figures of a writing fit.
abbrev pub Fits : Writing → Type 0
Fits w = (w.answer.line < 2 ^ 16) × (w.answer.count < 2 ^ 32)

-- Those of a file that is written fit.
pub filed-fits : (ws out : List ℕ) → Fits (write_file_of ws out)
filed-fits ws out = (omega (arith, filed-line ws out), omega (arith, filed-count ws out))

-- Those of a form that is read fit.
pub read_fits : (s out : List ℕ) → Fits (read_of s out)
read_fits s out = (omega (arith, read-line_most s out), omega (arith, read-count_most s out))

-- Those of a form that is written fit.
pub print_fits : (os out : List ℕ) → Fits (write_of os out)
print_fits os out = (omega (arith, print_line os out), omega (arith, print_count os out))
