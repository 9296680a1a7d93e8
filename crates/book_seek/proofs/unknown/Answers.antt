-- `book_seek::unknown` meets its contract, by the kind of the part. Assumes nothing.
use mathlib.Core.Path.{refl}
use Rattle.words.specs.Base.{when◌then◌else◌}
use Rattle.book_seek.proofs.unknown.Goals as goal
use Rattle.book_seek.proofs.unknown.Goals.{then-part, else-part}

pub returns : goal.returns
unfolding when◌then◌else◌
returns c =
    elim c.if-part.branch [
      | then-part w ↦ rw (w.number-is, w.if-part.true, c.place_at.ensures, c.place_at-2.ensures) refl
      | else-part w ↦ rw (w.number-is, w.if-part.false, c.place_at.ensures, c.place_at-2.ensures) refl
    ]
