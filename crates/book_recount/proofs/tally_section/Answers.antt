-- `book_recount::tally_section` meets its contract: what one teaching counts in a section is a cut of the order, or its parts of a kind. Assumes nothing.
use Prim.Native.Nat.{ℕ}
use mathlib.Core.Path.{◌≡◌, sym, subst, ◌∙◌}
use mathlib.Core.Bool.{Bool}
use mathlib.Core.List.{List}
use lib.ListN.{length}
use Rattle.figures.specs.Numbers.{done}
use Rattle.section.specs.Entries.{Entry}
use Rattle.section_tally.specs.Tallying.{listed, TurnReady, Taken}
use Rattle.section_tally.proofs.Starts.{length-listed}
use Rattle.order.specs.Reading.{cause_of}
use Rattle.book.specs.declared.Section.{Section}
use Rattle.book.specs.declared.Section.TheVariants.{Lows, Middles}
use Rattle.book_listing.proofs.Owning.{first-line, listed_in, section-is}
use Rattle.book_recount.specs.Tallies.{parts_in}
use Rattle.book_recount.proofs.Turns.{key-few, key-taken}
use Rattle.book_recount.proofs.tally_section.Goals as goal

-- There is a count and a mark for each place.
long : (turn n : ℕ) (os : List Entry) (starts book cs ms : List ℕ) → TurnReady turn n os (listed starts book) cs ms
    → (length cs ≡ length starts) × (length ms ≡ length starts)
long turn n os starts book cs ms ready = let each = length-listed starts book in (ready.counts ∙ each, ready.marks ∙ each)

-- What is counted in a section s, where s is the one that is asked for.
module _ (os : List ℕ) (sound : cause_of os ≡ done) (k : ℕ) (s told : Section) (is : told ≡ s) (turn n : ℕ) (es : List Entry) (cs ms : List ℕ) where
  -- The turn is ready for it.
  ready-in : TurnReady turn n (parts_in told k os) es cs ms → TurnReady turn n (listed_in s k 1 os) es cs ms
  ready-in = subst (λ (ps : List Entry). TurnReady turn n ps es cs ms) (sym (section-is os sound k 1 s told is))

  -- The turn was taken for it.
  taken-in : (cs' ms' : List ℕ) (r : Bool) → Taken turn n (listed_in s k 1 os) es cs ms cs' ms' r → Taken turn n (parts_in told k os) es cs ms cs' ms' r
  taken-in cs' ms' r = subst (λ (ps : List Entry). Taken turn n ps es cs ms cs' ms' r) (section-is os sound k 1 s told is)

pub tally_cut-requires : goal.tally_cut-requires
tally_cut-requires c =
    let sound = c.args.lines.now.order.gone_over.sound in
    let ready = ready-in _ sound c.args.k.k _ _ c.in-Taught.is _ _ _ _ _ c.requires.turn_ready in
    record {
      line_in_bounds = first-line _ sound;
      most_words_in_bounds = c.requires.most_words_in_bounds;
      counts_len = long _ _ _ _ _ _ _ ready;
      few = key-few _ _ _ _ _ _ c.args.entries.now.indexed.sorted ready;
    }

pub tally_cut-requires-in-Tops : goal.tally_cut-requires-in-Tops
tally_cut-requires-in-Tops c =
    let sound = c.args.lines.now.order.gone_over.sound in
    let ready = ready-in _ sound c.args.k.k _ _ c.in-Tops.is _ _ _ _ _ c.requires.turn_ready in
    record {
      line_in_bounds = first-line _ sound;
      most_words_in_bounds = c.requires.most_words_in_bounds;
      counts_len = long _ _ _ _ _ _ _ ready;
      few = rw c.of_tops.ensures (key-few _ _ _ _ _ _ c.args.entries.now.indexed.sorted ready);
    }

pub tally_parts-requires-clause-turn_ready : goal.tally_parts-requires-clause-turn_ready
tally_parts-requires-clause-turn_ready c =
    ready-in _ c.args.lines.now.order.gone_over.sound _ Lows _ c.in-Lows.is _ _ _ _ _ c.requires.turn_ready

pub tally_parts-requires-in-Middles-clause-turn_ready : goal.tally_parts-requires-in-Middles-clause-turn_ready
tally_parts-requires-in-Middles-clause-turn_ready c =
    ready-in _ c.args.lines.now.order.gone_over.sound _ Middles _ c.in-Middles.is _ _ _ _ _ c.requires.turn_ready

pub returns-in-Taught : goal.returns-in-Taught
returns-in-Taught c =
    let sound = c.args.lines.now.order.gone_over.sound in
    let ready = ready-in _ sound c.args.k.k _ _ c.in-Taught.is _ _ _ _ _ c.requires.turn_ready in
    let t = c.tally_cut.ensures in
    taken-in _ sound _ _ _ c.in-Taught.is _ _ _ _ _ _ _ _
    (key-taken _ _ _ _ _ _ c.args.entries.now.indexed.sorted ready _ _ _ t.known t.counted t.noted)

pub returns-in-Tops : goal.returns-in-Tops
returns-in-Tops c =
    let sound = c.args.lines.now.order.gone_over.sound in
    let ready = ready-in _ sound c.args.k.k _ _ c.in-Tops.is _ _ _ _ _ c.requires.turn_ready in
    let t = c.tally_cut-in-Tops.ensures in
    let is = c.of_tops.ensures in
    taken-in _ sound _ _ _ c.in-Tops.is _ _ _ _ _ _ _ _
    (key-taken _ _ _ _ _ _ c.args.entries.now.indexed.sorted ready _ _ _ (rw is at t.known) (rw is at t.counted) (rw is at t.noted))

pub returns-in-Lows : goal.returns-in-Lows
returns-in-Lows c = taken-in _ c.args.lines.now.order.gone_over.sound _ Lows _ c.in-Lows.is _ _ _ _ _ _ _ _ c.tally_parts.ensures

pub returns-in-Middles : goal.returns-in-Middles
returns-in-Middles c = taken-in _ c.args.lines.now.order.gone_over.sound _ Middles _ c.in-Middles.is _ _ _ _ _ _ _ _ c.tally_parts-in-Middles.ensures
