-- `section::place_at` meets its contract: the words compared are those of the entry's tree. Assumes nothing.
use Rattle.std.proofs.Common.{◌+◌, ◌-◌, take, drop, ap, sym, ◌∙◌, arith}
use Rattle.words.specs.Compare.{size_of}
use Rattle.words.proofs.Signs.{size-most, read_back}
use Rattle.section.proofs.Searches.{place_none, place-first}
use Rattle.section.proofs.place_at.Goals as goal

pub returns-then-some-eq0 : goal.returns-then-some-eq0
returns-then-some-eq0 c = let x = c.args in sym (place_none x.key.now x.book.now x.at x.some c.if-some-eq0.true)

pub size-requires : goal.size-requires
size-requires c =
    let tree = take (c.past-end.result - (c.args.at + 2)) (drop (c.args.at + 2) c.args.book.now) in
    omega (arith, ap size_of (read_back c.compare.result c.compare.type_inv ∙ c.compare.ensures), size-most tree c.args.key.now, c.well_formed.1.1.1.0.1)

pub returns : goal.returns
returns c =
    let x = c.args in
    c.size.ensures ∙ ap size_of (read_back c.compare.result c.compare.type_inv ∙ c.compare.ensures)
    ∙ sym (place-first x.key.now x.book.now x.at x.some c.past-end.result (omega (arith, c.if-some-eq0.false)) c.past-end.ensures)
