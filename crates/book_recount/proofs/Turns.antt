-- The parts of an order tallied one after the other, each once a turn: what one part does, and what a turn of the loop over the lines does. Assumes nothing.
use Prim.Native.Nat.{ℕ, ◌+◌, ◌*◌, ◌-◌, ◌/◌, ◌≤◌, ◌<◌}
use mathlib.Core.Path.{◌≡◌, refl, sym, ap, ap₂, ◌∙◌}
use mathlib.Core.Bool.{Bool, true, false, beq}
use mathlib.Core.List.{List, [], ◌∷◌}
use native.Mathlib.Omega.{arith}
use lib.ListN.{length, get_or}
use Rattle.words.specs.Base.{◌and◌, when◌then◌else◌, same_words}
use Rattle.words.proofs.Tests.{no_test, same-words, words_same}
use Rattle.figures.specs.Limits.{least_k}
use Rattle.figures.specs.Numbers.{done}
use Rattle.section.specs.Entries.{Entry, counted, has, Sorted, add_once}
use Rattle.section.proofs.Once.{has-once}
use Rattle.section_tally.specs.Tallying.{sought_in, has_all, on_each, tallied, marked, Few, on_one, tallied_once, marked_once, TurnReady, Taken}
use Rattle.section_tally.proofs.Tallies.{each_none, tallied-more, once_more, all_known_lem, one-unknown}
use Rattle.order.specs.Trees.{Tree}
use Rattle.order.specs.Reading.{cause_of}
use Rattle.order.specs.Standing.{cut_of}
use Rattle.order.proofs.Causes.{has-tree}
use Rattle.book_listing.specs.Own.{list_of}
use Rattle.book_listing.proofs.Parts.{Gone, gone_none, gone_all, gone_has, gone_passed, TellsLow, gone_entered, part_here}

-- ---- one key

-- A turn that is to tally one key.
module _ (turn n : ℕ) (key : List ℕ) (es : List Entry) (cs ms : List ℕ) (sorted : Sorted es) (ready : TurnReady turn n (counted key 1 ∷ []) es cs ms) where
  -- What is changed for the entry that is sought is changed for the key.
  one_key : (f : ℕ → ℕ) (xs : List ℕ) → length xs ≡ length es → on_one f turn (sought_in key es) ms xs ≡ on_each f (counted key 1 ∷ []) es xs
  unfolding has
  one_key f xs long =
      ap₂ (on_one f turn (sought_in key es)) (sym (each_none (λ (m : ℕ). turn) es ms)) (sym (each_none f es xs))
      ∙ once_more key [] (counted key 1 ∷ []) (λ z. refl) f turn es ms xs sorted ready.marks long ready.fresh

  -- No count passes 65,535.
  pub key-few : Few (tallied_once n turn (sought_in key es) ms cs)
  key-few i = omega (arith, ready.few i, ap (λ (l : List ℕ). get_or l i 0) (one_key (λ (c : ℕ). c + n) cs ready.counts))

  -- Once it is sought the turn is taken.
  pub key-taken : (cs' ms' : List ℕ) (r : Bool) → r ≡ has key es → cs' ≡ tallied_once n turn (sought_in key es) ms cs → ms' ≡ marked_once turn (sought_in key es) ms
      → Taken turn n (counted key 1 ∷ []) es cs ms cs' ms' r
  unfolding has_all ◌and◌
  key-taken cs' ms' r told counts marks = record {
    told = told ∙ go (has key es);
    counted = λ e. counts ∙ one_key (λ (c : ℕ). c + n) cs ready.counts;
    noted = λ e. marks ∙ one_key (λ (m : ℕ). turn) ms ready.marks;
  }
    where
      go : (b : Bool) → b ≡ (b and true)
      go true = refl
      go false = refl

-- A turn in which a key has no entry says so, and nothing else.
pub refused-taken : (turn n : ℕ) (os es : List Entry) (cs ms cs' ms' : List ℕ) → false ≡ has_all os es → Taken turn n os es cs ms cs' ms' false
refused-taken turn n os es cs ms cs' ms' unknown = record { told = unknown; counted = λ e. no_test e; noted = λ e. no_test e }

-- ---- the loop that tallies

-- The loop's place: the counts and the marks are those by the parts of the lines gone over, each of which has an entry.
pub record Turning (low : Bool) (k : ℕ) (os : List ℕ) (es : List Entry) (turn n : ℕ) (cs₀ ms₀ cs ms : List ℕ) (line : ℕ) : Type 0 where
  pub tree : Tree
  pub entered : List Entry
  pub gone : Gone low k 1 os tree line entered
  pub counts : cs ≡ tallied n entered es cs₀
  pub marks : ms ≡ marked turn entered es ms₀
  pub known : (z : List ℕ) → has z entered ≡ true → has z es ≡ true

-- A place by other names.
pub turning_named : (low : Bool) (k : ℕ) (os : List ℕ) (es : List Entry) (turn n : ℕ) (cs₀ ms₀ cs ms : List ℕ) (line : ℕ) (cs' ms' : List ℕ) → cs' ≡ cs → ms' ≡ ms
    → Turning low k os es turn n cs₀ ms₀ cs ms line → Turning low k os es turn n cs₀ ms₀ cs' ms' line
turning_named low k os es turn n cs₀ ms₀ cs ms line cs' ms' c m st = rw (c, m) st

module _ (low : Bool) (k : ℕ) (os : List ℕ) (es : List Entry) (turn n : ℕ) where
  -- Before the first line nothing is tallied.
  pub turn_start : (cs ms : List ℕ) → cause_of os ≡ done → Turning low k os es turn n cs ms cs ms 0
  unfolding has
  turn_start cs ms e = let x = has-tree os e in record {
    tree = x.tree;
    entered = [];
    gone = gone_none low k 1 os x.tree (omega arith) x.passes;
    counts = sym (each_none (λ (c : ℕ). c + n) es cs);
    marks = sym (each_none (λ (m : ℕ). turn) es ms);
    known = λ z h. no_test h;
  }

  module _ (cs₀ ms₀ cs ms : List ℕ) (line : ℕ) (st : Turning low k os es turn n cs₀ ms₀ cs ms line) where
    -- Past the last line the turn is taken.
    pub turn_end : length os / 2 ≤ line → Taken turn n (list_of low k 1 os) es cs₀ ms₀ cs ms true
    turn_end past =
        let all = gone_all low k 1 os st.tree line st.entered st.gone past in
        record {
          told = sym (ap (λ (ps : List Entry). has_all ps es) (sym all) ∙ all_known_lem st.entered es st.known);
          counted = λ e. st.counts ∙ ap (λ (ps : List Entry). tallied n ps es cs₀) all;
          noted = λ e. st.marks ∙ ap (λ (ps : List Entry). marked turn ps es ms₀) all;
        }

    module _ (more : line < length os / 2) (b : Bool) (least : least_k ≤ k) (is : TellsLow b k os line) where
      -- A line of the other kind tallies nothing.
      pub turn_passed : beq b low ≡ false → Turning low k os es turn n cs₀ ms₀ cs ms (line + 1)
      turn_passed other = record {
        tree = st.tree;
        entered = st.entered;
        gone = gone_passed low k 1 os st.tree line st.entered st.gone more b least is other;
        counts = st.counts;
        marks = st.marks;
        known = st.known;
      }

      module _ (same : beq b low ≡ true) (d : ℕ) (deep : d ≡ k - 1) where
        -- The line's part.
        abbrev this : Entry
        this = part_here k 1 os line

        -- The parts with it.
        abbrev with-this : List Entry
        with-this = add_once this st.entered

        -- Its words are those of the cut at d.
        key-is : cut_of os (line * 2) d ≡ this.key
        key-is = ap (cut_of os (line * 2)) deep

        -- The lines gone over with this one.
        gone_on : Gone low k 1 os st.tree (line + 1) with-this
        gone_on = gone_entered low k 1 os st.tree line st.entered st.gone more b least is same

        -- It is one of the parts.
        this-there : has this.key (list_of low k 1 os) ≡ true
        unfolding when◌then◌else◌
        this-there = gone_has low k 1 os st.tree (line + 1) with-this gone_on this.key (has-once this st.entered this.key ∙ rw (same-words this.key))

        -- If it has no entry not all parts have one.
        pub turn_unknown : false ≡ has (cut_of os (line * 2) d) es → false ≡ has_all (list_of low k 1 os) es
        turn_unknown lacks = sym (one-unknown this.key (list_of low k 1 os) es this-there (ap (λ (z : List ℕ). has z es) (sym key-is) ∙ sym lacks))

        module _ (sorted : Sorted es) (ready : TurnReady turn n (list_of low k 1 os) es cs₀ ms₀) where
          -- What is changed for its entry, once a turn, is changed for the parts with it.
          one_more : (f : ℕ → ℕ) (xs₀ xs : List ℕ) → length xs₀ ≡ length es → xs ≡ on_each f st.entered es xs₀
              → on_one f turn (sought_in (cut_of os (line * 2) d) es) ms xs ≡ on_each f with-this es xs₀
          one_more f xs₀ xs long was =
              ap (λ (z : List ℕ). on_one f turn (sought_in z es) ms xs) key-is
              ∙ ap₂ (on_one f turn (sought_in this.key es)) st.marks was
              ∙ once_more this.key st.entered with-this (has-once this st.entered) f turn es ms₀ xs₀ sorted ready.marks long ready.fresh

          -- No count passes 65,535 by it.
          pub turn_few : Few (tallied_once n turn (sought_in (cut_of os (line * 2) d) es) ms cs)
          turn_few i =
              omega (
                arith,
                ready.few i,
                tallied-more n with-this (list_of low k 1 os) es cs₀ (gone_has low k 1 os st.tree (line + 1) with-this gone_on) i,
                ap (λ (l : List ℕ). get_or l i 0) (one_more (λ (c : ℕ). c + n) cs₀ cs ready.counts st.counts),
              )

          -- Once it is tallied the lines behind it are left.
          pub turn_tallied : (cs' ms' : List ℕ) → true ≡ has (cut_of os (line * 2) d) es → cs' ≡ tallied_once n turn (sought_in (cut_of os (line * 2) d) es) ms cs
              → ms' ≡ marked_once turn (sought_in (cut_of os (line * 2) d) es) ms → Turning low k os es turn n cs₀ ms₀ cs' ms' (line + 1)
          unfolding when◌then◌else◌
          turn_tallied cs' ms' there counts marks = record {
            tree = st.tree;
            entered = with-this;
            gone = gone_on;
            counts = counts ∙ one_more (λ (c : ℕ). c + n) cs₀ cs ready.counts st.counts;
            marks = marks ∙ one_more (λ (m : ℕ). turn) ms₀ ms ready.marks st.marks;
            known = λ z h. go z (same_words this.key z) refl h;
          }
            where
              go : (z : List ℕ) (c : Bool) → same_words this.key z ≡ c → has z with-this ≡ true → has z es ≡ true
              go z true t h = ap (λ (y : List ℕ). has y es) (sym (key-is ∙ words_same this.key z t)) ∙ sym there
              go z false t h = st.known z (sym (has-once this st.entered z ∙ rw t) ∙ h)
