-- `section::find` meets its contract: the search tells whether the key is there, and otherwise between which neighbours. Assumes nothing.
use Rattle.std.proofs.Common.{sym}
use Rattle.section.proofs.Searches.{told_here, told-between}
use Rattle.section.proofs.find.Goals as goal

pub returns-then-stop : goal.returns-then-stop
returns-then-stop c = sym (told_here _ _ _ _ _ c.search-stop.ensures c.if-stop.true)

pub returns : goal.returns
returns c = rw (c.place_at-low.ensures, c.place_at-high.ensures) (sym (told-between _ _ _ _ _ c.search-stop.ensures c.if-stop.false))
