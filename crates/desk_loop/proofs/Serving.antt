-- The program's loop is a run of the desk (`Run`, `desk_step/specs/Steps.antt`): in each turn the bytes that it hands on to be printed are the line of the last
-- step, and behind those of the steps before they are the front of what the desk prints, at the end all of it. Assumes nothing.
use Prim.Native.Nat.{ℕ, ◌+◌, ◌-◌, ◌≤◌, ◌<◌}
use mathlib.Core.Path.{◌≡◌, ap, sym, subst, ◌∙◌}
use mathlib.Core.List.{List, [], ◌++◌}
use native.Mathlib.Omega.{arith}
use lib.ListN.{length, take, drop}
use Rattle.words.proofs.Shifts.{tail_all}
use Rattle.figures.specs.Limits.{desk_book_words}
use Rattle.desk_line.specs.Replies.{reply_room}
use Rattle.desk_input.specs.Sheets.{sheet_of}
use Rattle.desk_step.specs.Desk.{lines_for, desk_of}
use Rattle.desk_step.specs.Steps.{Stepping, stepping, begin_of, step_of, Run, begun, stepped}
use Rattle.desk_step.specs.declared.Printed.{Printed}
use Rattle.desk_step.proofs.Runs.{begin_within, step-within, run-so_far, run-goes_on, run-prints}

-- ---- where the loop is

-- The loop has come to a place in the input, with a book, an output and the size of the line at the front of that: by the opening, or by one step more.
pub data Reached (input : List ℕ) : ℕ → List ℕ → List ℕ → ℕ → Type 0 where
  at_first : (book out : List ℕ) → length book ≡ desk_book_words → reply_room ≤ length out
      → Reached input (begin_of input book out).step.taken (begin_of input book out).book (begin_of input book out).out (begin_of input book out).step.count
  at_next : (n : ℕ) (book out : List ℕ) (count : ℕ) → Reached input n book out count → n < length input
      → Reached input (n + (step_of (drop n input) book out).step.taken) (step_of (drop n input) book out).book (step_of (drop n input) book out).out
      (step_of (drop n input) book out).step.count

-- The lines of the steps before the last.
unfoldable pub before : {input : List ℕ} {n : ℕ} {book out : List ℕ} {count : ℕ} → Reached input n book out count → List ℕ
before (at_first book out l r) = []
before (at_next n book out count here more) = before here ++ take count out

-- It is a run: its lines are those before and the one at the front of the output.
reached-run : {input : List ℕ} {n : ℕ} {book out : List ℕ} {count : ℕ} (here : Reached input n book out count)
    → Run input n book out (before here ++ take count out)
unfolding before
reached-run (at_first book out l r) = begun book out l r
reached-run (at_next n book out count here more) = stepped n book out (before here ++ take count out) (reached-run here) more

-- The line lies within the output.
pub reached-fits : {input : List ℕ} {n : ℕ} {book out : List ℕ} {count : ℕ} → Reached input n book out count → count ≤ length out
reached-fits {input} (at_first book out l r) = begin_within input book out
reached-fits {input} (at_next n book out count here more) = step-within (drop n input) book out

-- ---- what is printed

-- The lines so far are the front of what the desk prints.
pub reached-front : {input : List ℕ} {n : ℕ} {book out : List ℕ} {count : ℕ} (here : Reached input n book out count)
    → desk_of input ≡ (before here ++ take count out) ++ lines_for (sheet_of (drop n input)).calls book
reached-front here = (run-so_far (reached-run here)).prints

-- At the end they are all of it.
pub reached-end : {input : List ℕ} {n : ℕ} {book out : List ℕ} {count : ℕ} (here : Reached input n book out count) → length input ≤ n
    → before here ++ take count out ≡ desk_of input
reached-end here end = run-prints (reached-run here) end

-- ---- the turns of the loop

-- What a step answered and left, by its definition: anything that holds of the definition holds of these.
by_step : (P : ℕ → ℕ → List ℕ → List ℕ → Type 0) (p : Printed) (book out : List ℕ) (s : Stepping) → stepping p book out ≡ s
    → P s.step.taken s.step.count s.book s.out → P p.taken p.count book out
by_step P p book out s e h = subst (λ (x : Stepping). P x.step.taken x.step.count x.book x.out) (sym e) h

-- The first step is made: the loop is there.
pub reached-first : (input book out : List ℕ) (p : Printed) (book₁ out₁ : List ℕ) → length book ≡ desk_book_words → reply_room ≤ length out
    → stepping p book₁ out₁ ≡ begin_of input book out → Reached input p.taken book₁ out₁ p.count
reached-first input book out p book₁ out₁ l r e =
    by_step (λ (t c : ℕ) (b o : List ℕ). Reached input t b o c) p book₁ out₁ (begin_of input book out) e (at_first book out l r)

module _ (input : List ℕ) (n : ℕ) (book out : List ℕ) (count : ℕ) (here : Reached input n book out count) (p : Printed) (book₁ out₁ : List ℕ)
    (more : n < length input) (e : stepping p book₁ out₁ ≡ step_of (take (length input - n) (drop n input)) book out) where
  -- The step was made on what is left of the input.
  by_rest : stepping p book₁ out₁ ≡ step_of (drop n input) book out
  by_rest = e ∙ ap (λ (l : List ℕ). step_of l book out) (tail_all n input (omega arith))

  -- One step more is made: the loop is there.
  pub reached-next : Reached input (n + p.taken) book₁ out₁ p.count
  reached-next =
      by_step (λ (t c : ℕ) (b o : List ℕ). Reached input (n + t) b o c) p book₁ out₁ (step_of (drop n input) book out) by_rest
      (at_next n book out count here more)

  -- It took some of the input, and no more than there is.
  pub reached-on : (0 < p.taken) × (n + p.taken ≤ length input)
  reached-on =
      by_step (λ (t c : ℕ) (b o : List ℕ). (0 < t) × (n + t ≤ length input)) p book₁ out₁ (step_of (drop n input) book out) by_rest
      (run-goes_on (reached-run here) more)
