-- What a turn of `section_change::weigh` keeps: the entries left of both lie within their words, no more words are lacking than were passed, and the
-- weighing goes on. Each leaves one entry fewer of the one or of the other.
use Rattle.std.proofs.Common.{ℕ, ◌+◌, ◌≤◌, Bool, List, length, drop}
use Rattle.section.specs.Entries.{entries, span}
use Rattle.section_change.specs.Editing.{lacking_words, overfull}
use Rattle.section_change.proofs.Weighing.{Weighs}
use Rattle.section_change.proofs.weigh.Given as goal

-- What the turns keep: the entries left of both lie within their words, no more words are lacking than were passed, and the weighing goes on.
pub record State (book : List ℕ) (many : ℕ) (other : List ℕ) (more at left from rest lacking : ℕ) (full : Bool) : Type 0 where
  pub mine : at + span left (drop at book) ≤ length book
  pub theirs : from + span rest (drop from other) ≤ length other
  pub few : lacking ≤ from
  pub weighs :
      Weighs (lacking_words (entries more other) (entries many book)) (overfull (entries more other) (entries many book)) (entries rest (drop from other))
      (entries left (drop at book)) lacking full

abbrev pub invariant-loop-rest : goal.invariant-loop-rest
invariant-loop-rest l = State l.book l.many l.other l.more l.at l.left l.from l.rest l.lacking l.overfull

abbrev pub decreases-loop-rest : goal.decreases-loop-rest
decreases-loop-rest l = l.left + l.rest
