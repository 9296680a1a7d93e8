-- `section_change::enter_behind` meets its contract: the entry's words come behind those that were moved. Assumes nothing.
use Prim.Native.Nat.{ℕ, ◌+◌, ◌-◌, ◌≤◌}
use mathlib.Core.Path.{◌≡◌, ap, ◌∙◌}
use mathlib.Core.List.{List, ◌++◌, append_assoc}
use native.Mathlib.Omega.{arith}
use lib.ListN.{length, take, drop, length-append, length-take, length-drop}
use lib.Seq.{drop-drop, take_at, drop_at}
use borrow.Rule.Slice.PartMut.{put_mid}
use Rattle.words.specs.Base.{over}
use Rattle.words.proofs.Shifts.{tail_all, tail_back}
use Rattle.section_change.specs.Editing.{brought, entered}
use Rattle.section_change.proofs.enter_behind.Goals as goal

-- The book once the part with the entry has come back, behind the words that were moved.
came-back : (book down entry last : List ℕ) (to kept at end : ℕ) → to + length entry ≤ kept → kept ≤ at → at ≤ length book → down ≡ brought to kept at book → end ≡ to + (at - kept)
    → last ≡ over entry (take (length down - end) (drop end down)) → put_mid end (length down - end) down last ≡ entered to kept at entry book
came-back book down entry last to kept at end low mid high moved is now =
    let front : List ℕ = take to book ++ take (at - kept) (drop kept book) in
    let long : length front ≡ end = simp (length-append, length-take, length-drop) (omega arith) in
    let apart : down ≡ front ++ drop (to + (at - kept)) book = moved ∙ simp append_assoc in
    let fits : end ≤ length down = rw (apart, length-append, long) (omega arith) in
    let first : take end down ≡ front = ap (take end) apart ∙ take_at front _ end long in
    let rest : drop end down ≡ drop (to + (at - kept)) book = ap (drop end) apart ∙ drop_at front _ end long in
    tail_back end down fits last ∙ rw (now, tail_all end down fits, first, rest, drop-drop) (simp append_assoc)

pub returns : goal.returns
returns c =
    let x = c.args in
    (came-back x.book.now _ x.entry.now _ x.to x.kept x.at _ c.requires.0 c.requires.1 c.requires.2 c.bring_down-end.ensures.0 c.bring_down-end.ensures.1 c.copy.ensures, ap (λ (n : ℕ). n + length x.entry.now) c.bring_down-end.ensures.1)
