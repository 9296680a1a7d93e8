-- What the reading of the lines says of the whole call. Assumes nothing.
use mathlib.Core.Path.{◌≡◌, refl, ap, sym, ◌∙◌}
use mathlib.Core.List.{List}
use Prim.Native.Nat.{ℕ, ◌-◌, ◌≤◌, ◌<◌, min}
use native.Mathlib.Omega.{arith}
use lib.ListN.{length, take, drop, length-take}
use Rattle.words.specs.Base.{over}
use Rattle.figures.specs.Numbers.{done, short_output}
use Rattle.figures.specs.Answers.{wrote}
use Rattle.figures.specs.declared.Written.{Written}
use Rattle.order.specs.Answers.{writing, write}
use Rattle.order.proofs.Writing.{no_output_room, has_room}
use Rattle.form.specs.Reading.{Form, fault, form, form_of, words_of_lines, read_of}
use Rattle.form.specs.Turns.{Got}
use Rattle.form.proofs.Trips.{form-write, fault-write}

-- What the lines were read as, where the answer is 0: the words that the call is to write.
record Words (text w out : List ℕ) (r : Written) : Type 0 where
  these : List ℕ
  call : read_of text out ≡ write these out
  size : length these ≡ r.count
  stand : take r.count w ≡ these
  answer : r ≡ wrote done r.count
  there : r.count ≤ length w

-- `Words` holds where the answer is 0, by cases of what the text is.
words_of : (text w out : List ℕ) (r : Written) (f : Form) → form_of text ≡ f → Got f r w → r.number ≡ done → Words text w out r
words_of text w out r (fault n line) q g e = absurd (g.1 (sym (ap (λ (a : Written). a.number) g.0) ∙ e))
words_of text w out r (form xs) q g e =
    let c : r.count ≡ length (words_of_lines xs) = ap (λ (a : Written). a.count) g.0 in
    record {
      these = words_of_lines xs;
      call = form-write text xs out q;
      size = sym c;
      stand = ap (λ (n : ℕ). take n w) c ∙ g.1;
      answer = g.0 ∙ ap (wrote done) (sym c);
      there = let l : length (take (length (words_of_lines xs)) w) ≡ min (length (words_of_lines xs)) (length w) = length-take (length (words_of_lines xs)) w in omega (arith, c, ap length g.1);
    }

-- The answer of a text that is refused, by cases of what the text is.
refused-of : (text w out : List ℕ) (r : Written) (f : Form) → form_of text ≡ f → Got f r w → (r.number ≡ done → ⊥) → writing r out ≡ read_of text out
refused-of text w out r (fault n line) q g e = ap (λ (a : Written). writing a out) g.0 ∙ sym (fault-write text out q)
refused-of text w out r (form xs) q g e = absurd (e (ap (λ (a : Written). a.number) g.0))

module _ (text w out : List ℕ) (r : Written) (g : Got (form_of text) r w) where
  -- A text that is refused writes nothing.
  pub refused-text : (r.number ≡ done → ⊥) → writing r out ≡ read_of text out
  refused-text e = refused-of text w out r (form_of text) refl g e

  module _ (e : r.number ≡ done) where
    -- The words that were read.
    found : Words text w out r
    found = words_of text w out r (form_of text) refl g e

    -- They stand in the scratch words.
    pub words-there : r.count ≤ length w
    words-there = found.there

    -- The output is too short for them.
    pub short-out : (a : Written) → length out < r.count → a ≡ wrote short_output 0 → writing a out ≡ read_of text out
    short-out a h q = no_output_room found.these out a q (omega (arith, found.size)) ∙ sym found.call

    -- They stand at the front of the output.
    pub read_out : (last : List ℕ) → r.count ≤ length out → last ≡ over (take (r.count - 0) (drop 0 w)) out → writing r last ≡ read_of text out
    read_out last h q =
        let z : r.count - 0 ≡ r.count = omega arith in
        let t : take (r.count - 0) (drop 0 w) ≡ found.these = ap (λ (n : ℕ). take n w) z ∙ found.stand in
        has_room found.these out r r.count last found.answer found.size h (q ∙ ap (λ (u : List ℕ). over u out) t) ∙ sym found.call
