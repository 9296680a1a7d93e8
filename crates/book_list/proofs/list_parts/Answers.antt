-- `book_list::list_parts` meets its contract: a line of the kind enters its part, and with the parts of the lines left the list comes to all
-- parts. Assumes nothing.
use Prim.Native.Nat.{ℕ}
use mathlib.Core.Path.{◌≡◌, refl, ap, ap₂, ◌∙◌}
use mathlib.Core.List.{List}
use native.Mathlib.Omega.{arith}
use lib.ListN.{length}
use Rattle.section.specs.Entries.{Entry, section_words}
use Rattle.section_change.specs.Editing.{padded, extent_of}
use Rattle.section_change.specs.declared.Size.{Size}
use Rattle.order.proofs.LineSpans.{spans-room}
use Rattle.order.proofs.LineCuts.{line-short}
use Rattle.book_listing.proofs.Parts.{span-tells}
use Rattle.book_list.proofs.Listing.{list_start, list_end, listing_named, line-passed, enter_ready, line-entered}
use Rattle.book_list.proofs.list_parts.Goals as goal
use Rattle.book_list.proofs.list_parts.Goals.{then-is_low-low, else-is_low-low}

pub loop-line-init : goal.loop-line-init
loop-line-init c =
    list_start _ _ _ _ _ _ c.requires.le_times c.args.lines.now.order.gone_over.sound c.requires.out_value c.requires.order_in_bounds refl

pub is_low-requires : goal.is_low-requires
is_low-requires c = omega (arith, c.loop-line-test.true, spans-room _ _ c.args.lines.now.order.gone_over)

pub write_entry-end-requires-clause-d_in_bounds : goal.write_entry-end-requires-clause-d_in_bounds
write_entry-end-requires-clause-d_in_bounds c =
    omega (arith, c.loop-line.invariant.spare, line-short _ _ c.of_middles.result c.args.lines.now.order.gone_over.sound c.loop-line-test.true)

pub enter_once-size-requires : goal.enter_once-size-requires
enter_once-size-requires c =
    let tells = span-tells _ _ _ _ _ c.args.lines.now.order.gone_over c.loop-line-test.true c.is_low.ensures in
    let wrote = c.write_entry-end.ensures in
    let ready = enter_ready _ _ _ _ _ _ _ _ _ _ c.loop-line.invariant c.loop-line-test.true _ c.requires.least_k_le_k tells c.if-is_low-low.true _ _ _ c.of_middles.ensures wrote.came wrote.wrote in
    record { laid = ready.0; value = ready.1 }

pub loop-line-preserved : goal.loop-line-preserved
loop-line-preserved c =
    let st = c.loop-line.invariant in
    let more = c.loop-line-test.true in
    let tells = span-tells _ _ _ _ _ c.args.lines.now.order.gone_over more c.is_low.ensures in
    elim c.if-is_low-low.branch [
      | then-is_low-low w ↦
          listing_named _ _ _ _ _ _ _ _ _ _ _ _ w.out-is w.entry-is w.size-is
          (line-entered _ _ _ _ _ _ _ _ _ _ st more _ c.requires.least_k_le_k tells w.if-is_low-low.true _ _ _ w.of_middles.ensures w.write_entry-end.ensures.came w.write_entry-end.ensures.wrote
          _ _ w.enter_once-size.ensures)
      | else-is_low-low w ↦
          listing_named _ _ _ _ _ _ _ _ _ _ _ _ w.out-is w.entry-is w.size-is
          (line-passed _ _ _ _ _ _ _ _ _ _ st more _ c.requires.least_k_le_k tells w.if-is_low-low.false)
    ]

-- The size of a list by another name.
sized : (size : Size) (es fs : List Entry) → size.used ≡ length (section_words es) → size.many ≡ length es → es ≡ fs → size ≡ extent_of fs
sized size es fs u m e = rw (← e) (ap₂ (λ (used many : ℕ). record { used = used; many = many }) u m)

pub returns : goal.returns
returns c =
    let st = c.loop-line.invariant in
    let is = list_end _ _ _ _ _ _ _ _ _ _ st c.loop-line-test.false in
    record {
      came = sized _ _ _ st.uses st.counts is;
      wrote = st.words ∙ ap (λ (es : List Entry). padded (length c.args.out.now) (section_words es)) is;
    }
