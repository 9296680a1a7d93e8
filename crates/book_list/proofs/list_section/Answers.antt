-- `book_list::list_section` meets its contract: the order and its top are one entry each, the parts of either kind a list. Assumes nothing.
use Prim.Native.Nat.{ℕ, ◌≤◌}
use mathlib.Core.Path.{◌≡◌, subst}
use mathlib.Core.List.{List}
use native.Mathlib.Omega.{arith}
use Rattle.figures.specs.Limits.{greatest_depth}
use Rattle.figures.specs.Numbers.{done}
use Rattle.section.specs.Entries.{Entry, counted}
use Rattle.section_change.specs.declared.Size.{Size}
use Rattle.order.specs.Reading.{cause_of}
use Rattle.order.specs.Standing.{cut_of}
use Rattle.book.specs.Book.{section_of}
use Rattle.book.specs.declared.Section.{Section}
use Rattle.book.specs.declared.Section.TheVariants.{Taught, Tops, Lows, Middles}
use Rattle.book_listing.specs.Own.{own_of, room_for}
use Rattle.book_listing.proofs.Owning.{first-line, whole-short, listed_in, section-is}
use Rattle.book_list.proofs.Owning.{Listed, one-listed}
use Rattle.book_list.proofs.list_section.Goals as goal

-- What was listed in a section is the section that is asked for.
asked : (os : List ℕ) → cause_of os ≡ done → (k n : ℕ) (s told : Section) → told ≡ s → (was now : List ℕ) (size : Size)
    → Listed was (listed_in s k n os) now size → Listed was (section_of told (own_of k n os)) now size
asked os sound k n s told is was now size = subst (λ (es : List Entry). Listed was es now size) (section-is os sound k n s told is)

-- There is room for the section that is asked for.
room : (os : List ℕ) (k n : ℕ) (s told : Section) → told ≡ s → room_for told k os ≤ n → room_for s k os ≤ n
room os k n s told is = subst (λ (z : Section). room_for z k os ≤ n) is

pub write_entry-used-requires : goal.write_entry-used-requires
write_entry-used-requires c =
    let sound = c.args.lines.now.order.gone_over.sound in
    let fits = room _ c.args.k.k _ _ _ c.in-Taught.is c.requires.order_in_bounds in
    record {
      line_in_bounds = first-line _ sound;
      d_in_bounds = omega (arith, whole-short _ sound greatest_depth, fits);
    }

pub write_entry-used-requires-in-Tops-clause-line_in_bounds : goal.write_entry-used-requires-in-Tops-clause-line_in_bounds
write_entry-used-requires-in-Tops-clause-line_in_bounds c = first-line _ c.args.lines.now.order.gone_over.sound

pub returns-in-Taught : goal.returns-in-Taught
returns-in-Taught c =
    let os = c.args.lines.now.order.words.now in
    let sound = c.args.lines.now.order.gone_over.sound in
    let fits = room _ c.args.k.k _ _ _ c.in-Taught.is c.requires.order_in_bounds in
    let w = c.write_entry-used.ensures in
    let one = one-listed (counted (cut_of os 0 greatest_depth) c.args.times) _ _ _ c.requires.out_value (omega (arith, whole-short _ sound greatest_depth, fits)) w.came w.wrote in
    let is = asked _ sound _ _ Taught _ c.in-Taught.is _ _ _ one in
    record { came = is.0; wrote = is.1 }

pub returns-in-Tops : goal.returns-in-Tops
returns-in-Tops c =
    let os = c.args.lines.now.order.words.now in
    let fits = room _ c.args.k.k _ _ _ c.in-Tops.is c.requires.order_in_bounds in
    let w = c.write_entry-used-in-Tops.ensures in
    let one = one-listed (counted (cut_of os 0 c.of_tops.result) c.args.times) _ _ _ c.requires.out_value (rw c.of_tops.ensures fits) w.came w.wrote in
    let is = asked _ c.args.lines.now.order.gone_over.sound _ _ Tops _ c.in-Tops.is _ _ _ (rw c.of_tops.ensures at one) in
    record { came = is.0; wrote = is.1 }

pub returns-in-Lows : goal.returns-in-Lows
returns-in-Lows c =
    let w = c.list_parts.ensures in
    let is = asked _ c.args.lines.now.order.gone_over.sound _ _ Lows _ c.in-Lows.is _ _ _ (w.came, w.wrote) in
    record { came = is.0; wrote = is.1 }

pub returns-in-Middles : goal.returns-in-Middles
returns-in-Middles c =
    let w = c.list_parts-in-Middles.ensures in
    let is = asked _ c.args.lines.now.order.gone_over.sound _ _ Middles _ c.in-Middles.is _ _ _ (w.came, w.wrote) in
    record { came = is.0; wrote = is.1 }
