-- The cut of a line's subtree that is written to the front of a slice: how short it is, and its words there. Assumes nothing.
use Prim.Native.Nat.{ℕ, ◌*◌, ◌-◌, ◌/◌, ◌≤◌, ◌<◌}
use mathlib.Core.Path.{◌≡◌, ap, ◌∙◌}
use mathlib.Core.List.{List}
use native.Mathlib.Omega.{arith}
use lib.ListN.{length, take, drop}
use lib.Seq.{take_at}
use Rattle.words.specs.Base.{over}
use Rattle.figures.specs.Limits.{most_words}
use Rattle.figures.specs.Numbers.{done}
use Rattle.order.specs.Reading.{cause_of}
use Rattle.order.specs.Standing.{cut_of}
use Rattle.order.proofs.Spots.{line_at, short-order, cut_short}

-- It has at most 128 words.
pub line-short : (os : List ℕ) (line d : ℕ) → cause_of os ≡ done → line < length os / 2 → length (cut_of os (line * 2) d) ≤ most_words
line-short os line d e h = let l = line_at os line e h in cut_short os (line * 2) _ l.spot d (short-order os l.order l.passes)

-- So many words of the slice are the cut.
pub line-lent : (cut old out : List ℕ) (n : ℕ) → n ≡ length cut → out ≡ over cut old → take (n - 0) (drop 0 out) ≡ cut
line-lent cut old out n e wrote = ap (take (n - 0)) wrote ∙ take_at cut (drop (length cut) old) (n - 0) (omega arith)
