-- A line has the bytes of its level, and those of its code.
use Rattle.std.proofs.Common.{◌/◌, ◌≡◌, length, take, rules, tests, arith, sym}
use Rattle.std.proofs.lemmas.Iterator.{YieldsList-from_slice, YieldsList-from_map}
use Rattle.std.proofs.lemmas.Iterator.Consumers.{sum_by_from_yields_List, fits_by_from_yields_list}
use Rattle.std.specs.List.{sum_by}
use lib.Seq.{length-take-le}
use Rattle.order.proofs.LineSpans.{levels_room}
use Rattle.form_write.proofs.Written.{level_bytes, text-levels, text-most}
use Rattle.form_write.proofs.lines_size.Goals as goal

pub slice_bounds-iter-end : goal.slice_bounds-iter-end
slice_bounds-iter-end c = let lines = c.args.lines.now in sym (length-take-le _ _ (levels_room _ _ lines.order.gone_over.sound lines.levelled))

pub sum-requires-clause-fits : goal.sum-requires-clause-fits
sum-requires-clause-fits c =
    let lines = c.args.lines.now in
    let levels = take (length lines.order.words.now / 2) lines.levels.now in
    fits_by_from_yields_list level_bytes levels c.map-sizes.result _
    (YieldsList-from_map _ level_bytes (YieldsList-from_slice levels cc) c.map-sizes.ensures.closure (λ x r q k. search (rules, tests)))
    (omega (arith, text-levels _ _ lines.order.gone_over.sound lines.levelled, text-most _ lines.order.gone_over.sound))

-- What the levels take.
summed : (c : goal.After-sum) → let lines = c.args.lines.now in c.sum.result ≡ sum_by level_bytes (take (length lines.order.words.now / 2) lines.levels.now)
summed c =
    let lines = c.args.lines.now in
    let levels = take (length lines.order.words.now / 2) lines.levels.now in
    sum_by_from_yields_List level_bytes levels c.map-sizes.result _ c.sum.ensures.ran
    (YieldsList-from_map _ level_bytes (YieldsList-from_slice levels cc) c.map-sizes.ensures.closure (λ x r q k. search (rules, tests)))

pub overflow_add-result : goal.overflow_add-result
overflow_add-result c = let lines = c.args.lines.now in omega (arith, summed c, text-levels _ _ lines.order.gone_over.sound lines.levelled, text-most _ lines.order.gone_over.sound)

pub returns : goal.returns
returns c = let lines = c.args.lines.now in rw (summed c) (text-levels _ _ lines.order.gone_over.sound lines.levelled)
