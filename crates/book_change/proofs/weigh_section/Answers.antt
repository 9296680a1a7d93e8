-- `book_change::weigh_section` meets its contract: the parts from the sections' starts on hold the entries that are weighed. Assumes nothing.
use Rattle.book_change.proofs.Weights.{lent-within, lent-sorted, lent-fitting}
use Rattle.book_change.proofs.weigh_section.Goals as goal

-- What is lent of the other book from the section's start on has the entries that are weighed, in their order.
pub weigh-requires-clause-other_in_bounds : goal.weigh-requires-clause-other_in_bounds
weigh-requires-clause-other_in_bounds c =
    let s = c.requires in
    let word = c.slot-word.ensures in
    (lent-within _ _ s.holds_2 c.args.section _ _ c.start-from.ensures word, (lent-sorted _ _ s.holds_2 c.args.section _ _ c.start-from.ensures word, lent-fitting _ _ s.holds_2 c.args.section _ _ c.start-from.ensures word))
