-- `book_list::list_own` meets its contract: the slice section by section, then its head. Assumes nothing.
use Prim.Native.Nat.{ℕ, ◌+◌}
use mathlib.Core.Path.{sym, ap, ◌∙◌}
use native.Mathlib.Omega.{arith}
use lib.ListN.{length}
use Rattle.figures.specs.Limits.{head_words}
use Rattle.book.specs.Book.{lay}
use Rattle.book.specs.declared.Section.TheVariants.{Taught, Tops, Lows, Middles}
use Rattle.book_listing.specs.Own.{own_of}
use Rattle.book_listing.proofs.Owning.{own_k, listed-live}
use Rattle.book_list.proofs.Owning.{stage_within, stage_fits, stage_zeros, listed-from, Whole, WithTop, WithLows, WithAll, few, none-listed, whole-listed, top-listed, lows-listed, all-listed, head_written, listed-places}
use Rattle.book_list.proofs.list_own.Goals as goal
use Rattle.book_list.proofs.list_own.Goals.{After-list_section-whole, After-list_section-top, After-list_section-low, After-list_section-middle}

-- The sections that are listed once the order is.
stage₁ : (c : After-list_section-whole) → let own = c.args.own.now in let w = c.list_section-whole in
    Whole c.args.lines.now.order.words.now c.args.k.k c.args.times (length own) (listed-from head_words own w.new.out) (head_words + w.result.used)
stage₁ c =
    let e = c.list_section-whole.ensures in
    whole-listed _ _ _ c.args.lines.now.order.gone_over.sound c.requires.least_k_le_k c.requires.le_times _ c.requires.own_value c.requires.own_len _ _ (e.came, e.wrote)

-- Those listed once its top is.
stage₂ : (c : After-list_section-top) → let own = c.args.own.now in let w = c.list_section-whole in let t = c.list_section-top in
    let at = head_words + w.result.used in
    WithTop c.args.lines.now.order.words.now c.args.k.k c.args.times (length own) (listed-from at (listed-from head_words own w.new.out) t.new.out) (at + t.result.used)
stage₂ c =
    let sound = c.args.lines.now.order.gone_over.sound in
    let r = c.requires in
    let e₁ = c.list_section-whole.ensures in
    let e₂ = c.list_section-top.ensures in
    top-listed _ _ _ sound r.least_k_le_k r.le_times _ _ _
    (whole-listed _ _ _ sound r.least_k_le_k r.le_times _ r.own_value r.own_len _ _ (e₁.came, e₁.wrote))
    _ _ (e₂.came, e₂.wrote)

-- Those listed once its low parts are.
stage₃ : (c : After-list_section-low) → let own = c.args.own.now in let w = c.list_section-whole in let t = c.list_section-top in let l = c.list_section-low in
    let at = head_words + w.result.used in
    WithLows c.args.lines.now.order.words.now c.args.k.k c.args.times (length own)
    (listed-from (at + t.result.used) (listed-from at (listed-from head_words own w.new.out) t.new.out) l.new.out) (at + t.result.used + l.result.used)
stage₃ c =
    let sound = c.args.lines.now.order.gone_over.sound in
    let r = c.requires in
    let e₁ = c.list_section-whole.ensures in
    let e₂ = c.list_section-top.ensures in
    let e₃ = c.list_section-low.ensures in
    lows-listed _ _ _ sound r.least_k_le_k r.le_times _ _ _
    (top-listed _ _ _ sound r.least_k_le_k r.le_times _ _ _
    (whole-listed _ _ _ sound r.least_k_le_k r.le_times _ r.own_value r.own_len _ _ (e₁.came, e₁.wrote))
    _ _ (e₂.came, e₂.wrote))
    _ _ (e₃.came, e₃.wrote)

-- Those listed once its middle parts are: all.
stage₄ : (c : After-list_section-middle) → let own = c.args.own.now in let w = c.list_section-whole in let t = c.list_section-top in let l = c.list_section-low in let m = c.list_section-middle in
    let at = head_words + w.result.used in
    WithAll c.args.lines.now.order.words.now c.args.k.k c.args.times (length own)
    (listed-from (at + t.result.used + l.result.used) (listed-from (at + t.result.used) (listed-from at (listed-from head_words own w.new.out) t.new.out) l.new.out) m.new.out)
    (at + t.result.used + l.result.used + m.result.used)
stage₄ c =
    let sound = c.args.lines.now.order.gone_over.sound in
    let r = c.requires in
    let e₁ = c.list_section-whole.ensures in
    let e₂ = c.list_section-top.ensures in
    let e₃ = c.list_section-low.ensures in
    let e₄ = c.list_section-middle.ensures in
    all-listed _ _ _ sound r.least_k_le_k r.le_times _ _ _
    (lows-listed _ _ _ sound r.least_k_le_k r.le_times _ _ _
    (top-listed _ _ _ sound r.least_k_le_k r.le_times _ _ _
    (whole-listed _ _ _ sound r.least_k_le_k r.le_times _ r.own_value r.own_len _ _ (e₁.came, e₁.wrote))
    _ _ (e₂.came, e₂.wrote))
    _ _ (e₃.came, e₃.wrote))
    _ _ (e₄.came, e₄.wrote)

pub list_section-whole-requires-clause-out_value : goal.list_section-whole-requires-clause-out_value
list_section-whole-requires-clause-out_value c =
    stage_zeros _ _ _ _ _ (none-listed _ _ _ c.args.lines.now.order.gone_over.sound c.requires.least_k_le_k c.requires.le_times _ c.requires.own_value c.requires.own_len)

pub overflow_add-tops : goal.overflow_add-tops
overflow_add-tops c = omega (arith, (stage₁ (goal.at.overflow_add-tops c).After-list_section-whole).room, c.requires.own_len)

pub offset_bounds-own-tops : goal.offset_bounds-own-tops
offset_bounds-own-tops c = omega (arith, (stage₁ (goal.at.offset_bounds-own-tops c).After-list_section-whole).room, c.requires.own_len)

pub slice_bounds-list_section-count-2 : goal.slice_bounds-list_section-count-2
slice_bounds-list_section-count-2 c = stage_within _ _ _ _ _ (stage₁ (goal.at.slice_bounds-list_section-count-2 c).After-list_section-whole)

pub slice_bounds-list_section-start-2 : goal.slice_bounds-list_section-start-2
slice_bounds-list_section-start-2 c = stage_within _ _ _ _ _ (stage₁ (goal.at.slice_bounds-list_section-start-2 c).After-list_section-whole)

pub list_section-top-requires : goal.list_section-top-requires
list_section-top-requires c =
    let st = stage₁ (goal.at.list_section-top-requires c).After-list_section-whole in
    record {
      least_k_le_k = c.requires.least_k_le_k.0;
      le_times = c.requires.le_times;
      out_value = stage_zeros _ _ _ _ _ st;
      order_in_bounds = stage_fits _ _ _ _ _ st _ (omega arith);
    }

pub overflow_add-lows : goal.overflow_add-lows
overflow_add-lows c = omega (arith, (stage₂ (goal.at.overflow_add-lows c).After-list_section-top).room, c.requires.own_len)

pub offset_bounds-own-lows : goal.offset_bounds-own-lows
offset_bounds-own-lows c = omega (arith, (stage₂ (goal.at.offset_bounds-own-lows c).After-list_section-top).room, c.requires.own_len)

pub slice_bounds-list_section-count-3 : goal.slice_bounds-list_section-count-3
slice_bounds-list_section-count-3 c = stage_within _ _ _ _ _ (stage₂ (goal.at.slice_bounds-list_section-count-3 c).After-list_section-top)

pub slice_bounds-list_section-start-3 : goal.slice_bounds-list_section-start-3
slice_bounds-list_section-start-3 c = stage_within _ _ _ _ _ (stage₂ (goal.at.slice_bounds-list_section-start-3 c).After-list_section-top)

pub list_section-low-requires : goal.list_section-low-requires
list_section-low-requires c =
    let st = stage₂ (goal.at.list_section-low-requires c).After-list_section-top in
    record {
      least_k_le_k = c.requires.least_k_le_k.0;
      le_times = c.requires.le_times;
      out_value = stage_zeros _ _ _ _ _ st;
      order_in_bounds = stage_fits _ _ _ _ _ st _ (omega arith);
    }

pub overflow_add-middles : goal.overflow_add-middles
overflow_add-middles c = omega (arith, (stage₃ (goal.at.overflow_add-middles c).After-list_section-low).room, c.requires.own_len)

pub offset_bounds-own-middles : goal.offset_bounds-own-middles
offset_bounds-own-middles c = omega (arith, (stage₃ (goal.at.offset_bounds-own-middles c).After-list_section-low).room, c.requires.own_len)

pub slice_bounds-list_section-count-4 : goal.slice_bounds-list_section-count-4
slice_bounds-list_section-count-4 c = stage_within _ _ _ _ _ (stage₃ (goal.at.slice_bounds-list_section-count-4 c).After-list_section-low)

pub slice_bounds-list_section-start-4 : goal.slice_bounds-list_section-start-4
slice_bounds-list_section-start-4 c = stage_within _ _ _ _ _ (stage₃ (goal.at.slice_bounds-list_section-start-4 c).After-list_section-low)

pub list_section-middle-requires : goal.list_section-middle-requires
list_section-middle-requires c =
    let st = stage₃ (goal.at.list_section-middle-requires c).After-list_section-low in
    record {
      least_k_le_k = c.requires.least_k_le_k.0;
      le_times = c.requires.le_times;
      out_value = stage_zeros _ _ _ _ _ st;
      order_in_bounds = stage_fits _ _ _ _ _ st _ (omega arith);
    }

pub overflow_add-used : goal.overflow_add-used
overflow_add-used c = omega (arith, (stage₄ (goal.at.overflow_add-used c).After-list_section-middle).room, c.requires.own_len)

pub overflow_cast-own : goal.overflow_cast-own
overflow_cast-own c = omega (arith, (stage₄ (goal.at.overflow_cast-own c).After-list_section-middle).room, c.requires.own_len)

pub overflow_cast-own-2 : goal.overflow_cast-own-2
overflow_cast-own-2 c = omega (arith, few _ _ _ c.args.lines.now.order.gone_over.sound c.requires.least_k_le_k c.requires.le_times Taught _ c.list_section-whole.ensures.came)

pub overflow_cast-own-3 : goal.overflow_cast-own-3
overflow_cast-own-3 c = omega (arith, few _ _ _ c.args.lines.now.order.gone_over.sound c.requires.least_k_le_k c.requires.le_times Tops _ c.list_section-top.ensures.came)

pub overflow_cast-own-4 : goal.overflow_cast-own-4
overflow_cast-own-4 c = omega (arith, few _ _ _ c.args.lines.now.order.gone_over.sound c.requires.least_k_le_k c.requires.le_times Lows _ c.list_section-low.ensures.came)

pub overflow_cast-own-5 : goal.overflow_cast-own-5
overflow_cast-own-5 c = omega (arith, few _ _ _ c.args.lines.now.order.gone_over.sound c.requires.least_k_le_k c.requires.le_times Middles _ c.list_section-middle.ensures.came)

pub returns : goal.returns
returns c =
    let os = c.args.lines.now.order.words.now in
    let sound = c.args.lines.now.order.gone_over.sound in
    let book = own_of c.args.k.k c.args.times os in
    let depth = sym (own_k os sound c.args.k.k c.args.times) in
    let whole = c.list_section-whole.ensures.came in
    let top = c.list_section-top.ensures.came in
    let low = c.list_section-low.ensures.came in
    let middle = c.list_section-middle.ensures.came in
    record {
      came = listed-places book c.args.k.k _ _ _ _ depth whole top low middle;
      wrote = head_written book _ _ _ 0 (stage₄ (goal.at.returns c).After-list_section-middle) _ c.args.times _ _ _ _ (c.value.ensures ∙ depth) (listed-live os sound c.args.k.k c.args.times) whole top low middle
          ∙ ap (λ (z : ℕ). lay z book) c.requires.own_len;
    }
