-- `order_cuts::cut_line` meets its contract, by whether the cut has room. Assumes nothing.
use Prim.Native.Nat.{ℕ}
use mathlib.Core.List.{List, ◌++◌}
use mathlib.Core.Path.{◌≡◌, refl, ap, ap₂, sym, ◌∙◌}
use native.Mathlib.Omega.{arith}
use lib.ListN.{length, take, drop}
use lib.Seq.{take_at}
use Rattle.words.specs.Base.{over}
use Rattle.order.proofs.LineCuts.{line-short}
use Rattle.order.proofs.Writing.{no_output_room, has_room}
use Rattle.order.proofs.Spots.{passed-short}
use Rattle.order_cuts.proofs.cut_line.Goals as goal

-- The words that were written to a scratch, and then copied to the front of the output.
copied : (cut old scratch out part : List ℕ) (n : ℕ) → n ≡ length cut → scratch ≡ over cut old → part ≡ take n scratch → part ++ drop n out ≡ over cut out
copied cut old scratch out part n came wrote copy =
    let is : part ≡ cut = copy ∙ ap (take n) wrote ∙ take_at cut (drop (length cut) old) n (sym came) in
    ap₂ (λ (l : List ℕ) (m : ℕ). l ++ drop m out) is came

pub level_lines-lines-requires : goal.level_lines-lines-requires
level_lines-lines-requires c = omega (arith, passed-short _ c.args.order.gone_over.sound)

pub put_cut-count-requires-clause-d_in_bounds : goal.put_cut-count-requires-clause-d_in_bounds
put_cut-count-requires-clause-d_in_bounds c = rw c.level_lines-lines.ensures.same (line-short _ _ c.args.d c.args.order.gone_over.sound c.requires)

pub returns-then-out-count : goal.returns-then-out-count
returns-then-out-count c =
    let came = rw c.level_lines-lines.ensures.same at c.put_cut-count.ensures.came in
    no_output_room _ _ _ refl (omega (arith, came, c.if-out-count.true))

pub returns : goal.returns
returns c =
    let came = rw c.level_lines-lines.ensures.same at c.put_cut-count.ensures.came in
    let written = rw c.level_lines-lines.ensures.same at c.put_cut-count.ensures.wrote in
    has_room _ _ _ _ _ refl (sym came) c.if-out-count.false (copied _ _ _ _ _ _ came written c.copy_from_slice.ensures.after)
