-- `book_form::sections`: each return by ? is a section that is broken, and each pass says where the next section starts. Assumes nothing.
use Rattle.std.proofs.Common.{refl, sym, ap, ◌∙◌, arith}
use Rattle.book.specs.Decoding.{looked_at}
use Rattle.book.specs.declared.Section.TheVariants.{Taught, Tops, Lows, Middles}
use Rattle.book.proofs.Depths.{outside}
use Rattle.book.proofs.Heads.{is-sized, head, shallow, Sections, no_k, section-found, no_section, no_head, in_form-at}
use Rattle.book_form.proofs.sections.Goals as goal

pub returns-in_err-k : goal.returns-in_err-k
returns-in_err-k c =
    ap looked_at c.from_residual.ensures ∙ sym (no_k _ (is-sized _ c.requires.0 c.requires.1) (outside _ _ c.new.ensures c.in_err-k.was))

pub returns-in_err-taught : goal.returns-in_err-taught
returns-in_err-taught c =
    let h = head c.requires.0 c.requires.1 c.new.ensures c.in_ok-k.was (omega (arith, c.type_inv.book 2)) in
    ap looked_at c.from_residual-in_err-taught.ensures ∙ sym (no_section h Taught refl refl refl c.pass.ensures.came c.in_err-taught.was)

pub pass-requires-2 : goal.pass-requires-2
pass-requires-2 c =
    let h = head c.requires.0 c.requires.1 c.new.ensures c.in_ok-k.was (omega (arith, c.type_inv.book 2)) in
    (omega (arith, shallow h, c.of_tops-low.ensures), omega (arith, c.pass.ensures.kept))

pub returns-in_err-lows : goal.returns-in_err-lows
returns-in_err-lows c =
    let h = head c.requires.0 c.requires.1 c.new.ensures c.in_ok-k.was (omega (arith, c.type_inv.book 2)) in
    let t = section-found h Taught refl refl refl c.pass.ensures.came c.in_ok-taught.was in
    ap looked_at c.from_residual-in_err-lows.ensures ∙ sym (no_section h Tops t.next refl c.of_tops-low.ensures c.pass-2.ensures.came c.in_err-lows.was)

pub pass-requires-3 : goal.pass-requires-3
pass-requires-3 c =
    let h = head c.requires.0 c.requires.1 c.new.ensures c.in_ok-k.was (omega (arith, c.type_inv.book 2)) in
    (omega (arith, shallow h, c.of_tops-low.ensures), omega (arith, c.pass.ensures.kept, c.pass-2.ensures.kept))

pub returns-in_err-middles : goal.returns-in_err-middles
returns-in_err-middles c =
    let h = head c.requires.0 c.requires.1 c.new.ensures c.in_ok-k.was (omega (arith, c.type_inv.book 2)) in
    let t = section-found h Taught refl refl refl c.pass.ensures.came c.in_ok-taught.was in
    let r = section-found h Tops t.next refl c.of_tops-low.ensures c.pass-2.ensures.came c.in_ok-lows.was in
    ap looked_at c.from_residual-in_err-middles.ensures ∙ sym (no_section h Lows r.next refl c.of_tops-low.ensures c.pass-3.ensures.came c.in_err-middles.was)

pub pass-requires-4 : goal.pass-requires-4
pass-requires-4 c =
    let h = head c.requires.0 c.requires.1 c.new.ensures c.in_ok-k.was (omega (arith, c.type_inv.book 2)) in
    (omega (arith, shallow h, c.of_middles-middle.ensures), omega (arith, c.pass.ensures.kept, c.pass-2.ensures.kept, c.pass-3.ensures.kept))

pub returns-in_err-used : goal.returns-in_err-used
returns-in_err-used c =
    let h = head c.requires.0 c.requires.1 c.new.ensures c.in_ok-k.was (omega (arith, c.type_inv.book 2)) in
    let t = section-found h Taught refl refl refl c.pass.ensures.came c.in_ok-taught.was in
    let r = section-found h Tops t.next refl c.of_tops-low.ensures c.pass-2.ensures.came c.in_ok-lows.was in
    let l = section-found h Lows r.next refl c.of_tops-low.ensures c.pass-3.ensures.came c.in_ok-middles.was in
    ap looked_at c.from_residual-in_err-used.ensures ∙ sym (no_section h Middles l.next c.of_middles-middle.ensures c.of_middles-middle.ensures c.pass-4.ensures.came c.in_err-used.was)

pub returns-then-not-head_right : goal.returns-then-not-head_right
returns-then-not-head_right c =
    let h = head c.requires.0 c.requires.1 c.new.ensures c.in_ok-k.was (omega (arith, c.type_inv.book 2)) in
    let t = section-found h Taught refl refl refl c.pass.ensures.came c.in_ok-taught.was in
    let r = section-found h Tops t.next refl c.of_tops-low.ensures c.pass-2.ensures.came c.in_ok-lows.was in
    let l = section-found h Lows r.next refl c.of_tops-low.ensures c.pass-3.ensures.came c.in_ok-middles.was in
    let p = section-found h Middles l.next c.of_middles-middle.ensures c.of_middles-middle.ensures c.pass-4.ensures.came c.in_ok-used.was in
    let s : Sections c.args.book.now c.in_ok-taught.taught.sum c.in_ok-taught.taught.end c.in_ok-lows.field-0.end c.in_ok-middles.field-0.end c.in_ok-used.field-0.end = record { of-taught = t; sum_tops = _; of-tops = r; sum_lows = _; of-lows = l; sum_middles = _; of-middles = p } in
    sym (no_head h s (sym c.head_right.ensures ∙ c.if-not-head_right.true))

pub returns : goal.returns
returns c =
    let h = head c.requires.0 c.requires.1 c.new.ensures c.in_ok-k.was (omega (arith, c.type_inv.book 2)) in
    let t = section-found h Taught refl refl refl c.pass.ensures.came c.in_ok-taught.was in
    let r = section-found h Tops t.next refl c.of_tops-low.ensures c.pass-2.ensures.came c.in_ok-lows.was in
    let l = section-found h Lows r.next refl c.of_tops-low.ensures c.pass-3.ensures.came c.in_ok-middles.was in
    let p = section-found h Middles l.next c.of_middles-middle.ensures c.of_middles-middle.ensures c.pass-4.ensures.came c.in_ok-used.was in
    let s : Sections c.args.book.now c.in_ok-taught.taught.sum c.in_ok-taught.taught.end c.in_ok-lows.field-0.end c.in_ok-middles.field-0.end c.in_ok-used.field-0.end = record { of-taught = t; sum_tops = _; of-tops = r; sum_lows = _; of-lows = l; sum_middles = _; of-middles = p } in
    sym (in_form-at h s (sym c.head_right.ensures ∙ c.if-not-head_right.false))
