-- `book_change::change_book` meets its contract. Assumes nothing.
use Prim.Native.Nat.{ℕ}
use mathlib.Core.Path.{◌≡◌, refl, sym, ◌∙◌}
use mathlib.Core.List.{List}
use lib.ListN.{length}
use Rattle.book.specs.Book.{Book, lay}
use Rattle.book.specs.Decoding.{book_in}
use Rattle.book.specs.Holding.{Holds}
use Rattle.book.specs.declared.Section.TheVariants.{Taught, Tops, Lows, Middles}
use Rattle.book.specs.declared.Places.{Places}
use Rattle.book.proofs.Holding.{uses}
use Rattle.book_change.specs.Changing.{changed_in, changed_book, ReadyAll}
use Rattle.book_change.specs.declared.Change.{Change}
use Rattle.book_change.proofs.Stages.{Stage, first-stage, starts, held_stands, stage_stands, stage_ready, stage_lacks, next-stage, next-used, lows-start, tops_start, middles-lack, lows-lack, tops-lack, taught-lacks}
use Rattle.book_change.proofs.change_book.Goals as goal

-- The words at each stage: ps once section P is changed, ls once section L is too, and rs once section R is too.
module _ {ws : List ℕ} {p : Places} (h : Holds ws p) {c : Change} {other : Book} (r : ReadyAll (length ws) c other (book_in ws)) where
  module _ {ps : List ℕ} (e : ps ≡ lay (length ws) (changed_in c Middles other (book_in ws))) where
    -- Section P is changed.
    second : Stage (length ws) (changed_in c Middles other (book_in ws)) ps
    second = next-stage _ _ _ (first-stage _ _ h) c Middles other r.middles _ e

    module _ {ls : List ℕ} (f : ls ≡ lay (length ps) (changed_in c Lows other (book_in ps))) where
      -- Section L is changed too.
      third : Stage (length ws) (changed_in c Lows other (changed_in c Middles other (book_in ws))) ls
      third = next-stage _ _ _ second c Lows other r.lows _ f

      module _ {rs : List ℕ} (g : rs ≡ lay (length ls) (changed_in c Tops other (book_in ls))) where
        -- Section R is changed too.
        fourth : Stage (length ws) (changed_in c Tops other (changed_in c Lows other (changed_in c Middles other (book_in ws)))) rs
        fourth = next-stage _ _ _ third c Tops other r.tops _ g

pub change_section-p-requires-clause-section_stands :
    goal.change_section-p-requires-clause-section_stands
change_section-p-requires-clause-section_stands c = let h = c.requires.holds in rw (uses _ _ h) (held_stands _ _ h Middles)

pub change_section-p-requires-clause-lacks : goal.change_section-p-requires-clause-lacks
change_section-p-requires-clause-lacks c = middles-lack c.args.change c.args.lacks _ _ c.requires.lacks_each

pub change_section-l-requires-clause-section_stands :
    goal.change_section-l-requires-clause-section_stands
change_section-l-requires-clause-section_stands c =
    let r = c.requires in
    let p = c.change_section-p.ensures in
    let g = second r.holds r.ready_all p.wrote in
    stage_stands _ _ _ g Lows _ _ (starts _ _ r.holds Lows ∙ sym (lows-start c.args.change _ _)) p.came

pub change_section-l-requires-clause-ready : goal.change_section-l-requires-clause-ready
change_section-l-requires-clause-ready c =
    let r = c.requires in
    let g = second r.holds r.ready_all c.change_section-p.ensures.wrote in
    stage_ready _ _ _ g _ Lows _ r.ready_all.lows

pub change_section-l-requires-clause-lacks : goal.change_section-l-requires-clause-lacks
change_section-l-requires-clause-lacks c =
    let r = c.requires in
    let g = second r.holds r.ready_all c.change_section-p.ensures.wrote in
    stage_lacks _ _ _ g c.args.change Lows _ _ (lows-lack c.args.change c.args.lacks _ _ r.lacks_each)

pub change_section-r-requires-clause-section_stands :
    goal.change_section-r-requires-clause-section_stands
change_section-r-requires-clause-section_stands c =
    let r = c.requires in
    let p = c.change_section-p.ensures.wrote in
    let l = c.change_section-l.ensures in
    let g = third r.holds r.ready_all p l.wrote in
    let u = next-used _ _ _ (second r.holds r.ready_all p) _ Lows _ r.ready_all.lows _ l.came in
    stage_stands _ _ _ g Tops _ _ (starts _ _ r.holds Tops ∙ sym (tops_start c.args.change _ _)) u

pub change_section-r-requires-clause-ready : goal.change_section-r-requires-clause-ready
change_section-r-requires-clause-ready c =
    let r = c.requires in
    let g = third r.holds r.ready_all c.change_section-p.ensures.wrote c.change_section-l.ensures.wrote in
    stage_ready _ _ _ g _ Tops _ r.ready_all.tops

pub change_section-r-requires-clause-lacks : goal.change_section-r-requires-clause-lacks
change_section-r-requires-clause-lacks c =
    let r = c.requires in
    let g = third r.holds r.ready_all c.change_section-p.ensures.wrote c.change_section-l.ensures.wrote in
    stage_lacks _ _ _ g c.args.change Tops _ _ (tops-lack c.args.change c.args.lacks _ _ r.lacks_each)

pub change_section-requires-clause-section_stands :
    goal.change_section-requires-clause-section_stands
change_section-requires-clause-section_stands c =
    let r = c.requires in
    let p = c.change_section-p.ensures.wrote in
    let l = c.change_section-l.ensures.wrote in
    let t = c.change_section-r.ensures in
    let g = fourth r.holds r.ready_all p l t.wrote in
    let u = next-used _ _ _ (third r.holds r.ready_all p l) _ Tops _ r.ready_all.tops _ t.came in
    stage_stands _ _ _ g Taught _ _ refl u

pub change_section-requires-clause-ready : goal.change_section-requires-clause-ready
change_section-requires-clause-ready c =
    let r = c.requires in
    let g = fourth r.holds r.ready_all c.change_section-p.ensures.wrote c.change_section-l.ensures.wrote c.change_section-r.ensures.wrote in
    stage_ready _ _ _ g _ Taught _ r.ready_all.taught

pub change_section-requires-clause-lacks : goal.change_section-requires-clause-lacks
change_section-requires-clause-lacks c =
    let r = c.requires in
    let g = fourth r.holds r.ready_all c.change_section-p.ensures.wrote c.change_section-l.ensures.wrote c.change_section-r.ensures.wrote in
    stage_lacks _ _ _ g c.args.change Taught _ _ (taught-lacks c.args.change c.args.lacks _ _ r.lacks_each)

pub returns : goal.returns
unfolding changed_book
returns c =
    let r = c.requires in
    let g = fourth r.holds r.ready_all c.change_section-p.ensures.wrote c.change_section-l.ensures.wrote c.change_section-r.ensures.wrote in
    (next-stage _ _ _ g _ Taught _ r.ready_all.taught _ c.change_section.ensures.wrote).is
