-- A refusal of a text names the first line at fault, exactly, by the rows of 01's table as specs/Faults.antt states them: a refused text
-- has such a line, and a text that has one is refused so (01, "Text" under "Order of checks"). Assumes nothing.
use Rattle.std.specs.Prelude.{Err, Ok, Result}
use mathlib.Core.Path.{◌≡◌, refl, ap, sym, subst, ◌∙◌}
use mathlib.Core.Bool.{Bool, true, false, not}
use mathlib.Core.List.{List, [], ◌∷◌, ◌++◌, append_assoc, reverse, reverse_aux}
use Prim.Native.Nat.{ℕ, zero, suc, ◌+◌, ◌*◌, ◌-◌, ◌≤◌, ◌<◌}
use native.Mathlib.Omega.{arith}
use lib.Dec.{eqb}
use lib.ListN.{length, drop, length-append, length-reverse}
use Rattle.form.specs.declared.reading.Node.{Node}
use Rattle.words.specs.Base.{when◌then◌else◌}
use Rattle.figures.specs.Limits.{most_nodes}
use Rattle.figures.specs.Numbers.{done, no_form}
use Rattle.figures.specs.Answers.{refused_at}
use Rattle.order.specs.Answers.{writing}
use Rattle.form.specs.Text.{digit_0, code_size, Line, line_text, spell}
use Rattle.form.specs.Reading.{fault_number, is_digit, figure, value, is_code, code_behind, spelt_of, by_line, line_of, fault, by_form, read_lines, form_of, read_of}
use Rattle.form.specs.Faults.{Legal, Spelt, Why, past, misspelt, no_option, not_allowed, too_deep, ninth_child, FirstFault}
use Rattle.form.specs.declared.reading.Fault.{Fault}
use Rattle.form.specs.declared.reading.Fault.TheVariants.{PastLast, Misspelt, NoOption, LevelNotAllowed, TooDeep, NinthChild}
use Rattle.form.proofs.Tests.{Passes, Passed}
use Rattle.form.proofs.Faults.{no_node, misspelt-line, zero_line, level-line, deep-line, ninth_line, Seen, unspelt, zero_code, bad_level, deep, ninth, seen, node_seen, read_past, read-fault, some_bytes}
use Rattle.form.proofs.Digits.{line_read, read-spelt}
use Rattle.form.proofs.Unique.{line-back, not_read}
use Rattle.form.proofs.Rows.{follow_test, test_follow, no_follow, follow_none, pass_fine, legal-pass, siblings-test, siblings-full}

-- ---- spelling

-- Bytes behind a level that are refused are misspelt.
code-only : (l w : ℕ) (s : List ℕ) {f : Fault} → code_behind l w s ≡ Err f → f ≡ Misspelt
unfolding code_behind when◌then◌else◌
code-only l w [] e = cc
code-only l w (s ∷ []) e = cc
code-only l w (s ∷ a ∷ []) e = cc
code-only l w (s ∷ a ∷ b ∷ []) e = cc
code-only l w (s ∷ a ∷ b ∷ c ∷ []) e = cc
code-only l w (s ∷ a ∷ b ∷ c ∷ d ∷ []) e = cc
code-only l w (s ∷ a ∷ b ∷ c ∷ d ∷ n ∷ r) {f} e = go (is_code s a b c d n) e
  where
    go : (t : Bool) → when◌then◌else◌ {A = Result Node Fault} t (Ok (record { level = l; code = value a b c d; size = w + code_size })) (Err Misspelt) ≡ Err f → f ≡ Misspelt
    go true e = no_node (sym e)
    go false e = cc

-- Bytes that are refused before a line's other tests are misspelt.
spelt-only : (s : List ℕ) {f : Fault} → spelt_of s ≡ Err f → f ≡ Misspelt
unfolding spelt_of when◌then◌else◌
spelt-only [] e = cc
spelt-only (x ∷ []) e = cc
spelt-only (x ∷ y ∷ r) {f} e = go (is_digit x) (is_digit y) (eqb x digit_0) e
  where
    go : (a b t : Bool) → (when not a then Err Misspelt else when not b then code_behind (figure x) 1 (y ∷ r) else when t then Err Misspelt else code_behind (figure x * 10 + figure y) 2 r) ≡ Err f → f ≡ Misspelt
    go false b t e = cc
    go true false t e = code-only (figure x) 1 (y ∷ r) e
    go true true true e = cc
    go true true false e = code-only (figure x * 10 + figure y) 2 r e

-- Bytes that begin with the text of a line are read as the line.
spelt-read : (s : List ℕ) (x : Line) → Spelt s x → spelt_of s ≡ Ok (record { level = x.level; code = x.code; size = length (line_text x) })
spelt-read s x p = ap spelt_of p.is ∙ line_read x p.behind p.short p.small

-- Bytes that are read as a line begin with its text.
read-spelling : (s : List ℕ) {l c w : ℕ} → spelt_of s ≡ Ok (record { level = l; code = c; size = w }) → Spelt s (record { level = l; code = c })
read-spelling s e = let k = line-back s e in record { behind = k.rest; is = k.is; short = k.short; small = k.small }

-- Bytes that are not read as a line begin with the text of none.
pub no_text : (s : List ℕ) {f : Fault} → spelt_of s ≡ Err f → (x : Line) → Spelt s x → ⊥
no_text s e x p = no_node (sym e ∙ spelt-read s x p)

-- Bytes that begin with the text of no line are misspelt.
no_spelling : (s : List ℕ) → ((x : Line) → Spelt s x → ⊥) → spelt_of s ≡ Err Misspelt
no_spelling s h = go (spelt_of s) refl
  where
    go : (r : Result Node Fault) → spelt_of s ≡ r → spelt_of s ≡ Err Misspelt
    go (Err f) q = q ∙ ap Err (spelt-only s q)
    go (Ok node) q = let record { level = l; code = c; size = w } = node in absurd (h (record { level = l; code = c }) (read-spelling s q))

-- ---- a refused text has a first line at fault

-- A line that is refused behind lines that pass, and for which there is room, is so by the row of its fault.
line-why : (before : List Line) (s : List ℕ) (f : Fault) → Passed before → length before < most_nodes → Seen before s (Err f) → Why before s (fault_number f)
line-why before s f w h (unspelt e) = misspelt (ap fault_number (spelt-only s e)) h (no_text s e)
line-why before s f w h (zero_code {l = l} {c = c} e o) = no_option refl h (record { level = l; code = c }) (read-spelling s e) o
line-why before s f w h (bad_level {l = l} {c = c} e o a) = not_allowed refl h (record { level = l; code = c }) (read-spelling s e) o (follow_none l before a)
line-why before s f w h (deep {l = l} {c = c} e o a d) = too_deep refl h (record { level = l; code = c }) (read-spelling s e) o (test_follow l before a) d
line-why before s f w h (ninth {l = l} {c = c} e o a d n) =
    let m = test_follow l before a in
    ninth_child refl h (record { level = l; code = c }) (read-spelling s e) o m d (siblings-full before w l m n)

-- What was read up to the fault: lines behind those before, whose text the bytes begin with, and the line refused behind them all.
record Stopped (before : List Line) (s : List ℕ) (n line : ℕ) : Type 0 where
  lines : List Line
  rest : List ℕ
  text : s ≡ spell lines ++ rest
  legal : Legal before lines
  some : 0 < length rest
  place : line ≡ suc (length (reverse_aux lines before))
  why : Why (reverse_aux lines before) rest n

-- `Stopped` holds of a line that is refused.
stopped_here : (before : List Line) (s : List ℕ) (m : ℕ) {n line : ℕ} → 0 < length s → Why before s m → fault m (suc (length before)) ≡ fault n line → Stopped before s n line
unfolding spell
stopped_here before s m {n} {line} o y e =
    let p : line ≡ suc (length before) = cc in
    let q : m ≡ n = cc in
    record { lines = []; rest = s; text = refl; legal = tt; some = o; place = p; why = subst (Why before s) q y }

-- It holds of a line that is read behind lines that pass, if it holds behind it.
stopped_line : (before : List Line) (s : List ℕ) {l c w n line : ℕ} → Passed before → line_of before s ≡ Ok (record { level = l; code = c; size = w }) → Stopped (record { level = l; code = c } ∷ before) (drop w s) n line → Stopped before s n line
unfolding spell
stopped_line before s {l} {c} {w} p e a =
    let m = node_seen before s e in
    let k = line-back s m.0 in
    let x : Line = record { level = l; code = c } in
    record {
      lines = x ∷ a.lines;
      rest = a.rest;
      text = k.is ∙ ap (λ (t : List ℕ). line_text x ++ t) (sym k.left ∙ a.text) ∙ sym (append_assoc (line_text x) (spell a.lines) a.rest);
      legal = (k.small, pass_fine before p m.1, a.legal);
      some = a.some;
      place = a.place;
      why = a.why;
    }

-- `Stopped` holds of whatever is refused behind lines that pass, if the room and these lines are the most lines together.
stopped : (room : ℕ) (before : List Line) (s : List ℕ) (n line : ℕ) → Passed before → room + length before ≡ most_nodes → read_lines room before s ≡ fault n line → Stopped before s n line
unfolding read_lines by_line
stopped zero before [] n line p h e = not_read (sym e)
stopped zero before (b ∷ bs) n line p h e = stopped_here before (b ∷ bs) (fault_number PastLast) (omega arith) (past refl (omega arith)) e
stopped (suc room) before [] n line p h e = not_read (sym e)
stopped (suc room) before (b ∷ bs) n line p h e = go (line_of before (b ∷ bs)) refl (λ x t o. stopped room (x ∷ before) t n line (o, p) (omega arith)) e
  where
    go : (r : Result Node Fault) → line_of before (b ∷ bs) ≡ r → ((x : Line) (t : List ℕ) → Passes before x.level x.code → read_lines room (x ∷ before) t ≡ fault n line → Stopped (x ∷ before) t n line)
        → by_line r (λ level code size. read_lines room (record { level = level; code = code } ∷ before) (drop size (b ∷ bs))) (λ f. fault (fault_number f) (suc (length before))) ≡ fault n line → Stopped before (b ∷ bs) n line
    go (Err f) q ih e = stopped_here before (b ∷ bs) (fault_number f) (omega arith) (line-why before (b ∷ bs) f p (omega arith) (seen before (b ∷ bs) q)) e
    go (Ok node) q ih e = let record { level = l; code = c; size = w } = node in stopped_line before (b ∷ bs) p q (ih (record { level = l; code = c }) (drop w (b ∷ bs)) (node_seen before (b ∷ bs) q).1 e)

-- A text of some bytes that is refused is refused at its first line at fault, by that line's number.
pub first-fault : (s : List ℕ) (n line : ℕ) → 0 < length s → form_of s ≡ fault n line → FirstFault s n line
first-fault s n line o e =
    let a = stopped most_nodes [] s n line tt (omega arith) (sym (some_bytes s o) ∙ e) in
    record {
      before = a.lines;
      rest = a.rest;
      text = a.text;
      legal = a.legal;
      some = a.some;
      place = a.place ∙ ap suc (length-reverse a.lines);
      why = a.why;
    }

-- No row has the number 0.
why-number : {before : List Line} {rest : List ℕ} {n : ℕ} → Why before rest n → n ≡ done → ⊥
why-number (past q h) z = omega arith
why-number (misspelt q h m) z = omega arith
why-number (no_option q h x p o) z = omega arith
why-number (not_allowed q h x p o a) z = omega arith
why-number (too_deep q h x p o a d) z = omega arith
why-number (ninth_child q h x p o a d m) z = omega arith

-- A text is never refused by 0.
pub text-refused : (s : List ℕ) {n line : ℕ} → form_of s ≡ fault n line → n ≡ done → ⊥
unfolding form_of
text-refused [] {n} {line} e z = let y : no_form ≡ n = cc in omega arith
text-refused (b ∷ bs) {n} {line} e z = why-number (first-fault (b ∷ bs) n line (omega arith) e).why z

-- ---- a text that has one is refused so

-- Behind the lines before, for which there was room, the rest is refused by n at its first line.
abbrev Refuses : List Line → List ℕ → ℕ → Type 0
Refuses before rest n = (length before ≤ most_nodes) × (read_lines (most_nodes - length before) before rest ≡ fault n (suc (length before)))

-- A line at fault for which there is room is refused so.
fault-refuses : (before : List Line) (rest : List ℕ) (n : ℕ) (f : Fault) → 0 < length rest → n ≡ fault_number f → length before < most_nodes → line_of before rest ≡ Err f → Refuses before rest n
fault-refuses before rest n f o q h e =
    let z : most_nodes - length before ≡ suc (most_nodes - suc (length before)) = omega arith in (
      omega arith,
      ap (λ (m : ℕ). read_lines m before rest) z
          ∙ read-fault (most_nodes - suc (length before)) before rest o e
          ∙ ap (λ (m : ℕ). fault m (suc (length before))) (sym q),
    )

-- By each row the rest is refused so.
why-refuses : (before : List Line) (rest : List ℕ) (n : ℕ) → 0 < length rest → Why before rest n → Refuses before rest n
why-refuses before rest n o (past q h) =
    let z : most_nodes - length before ≡ 0 = omega arith in (
      omega arith,
      ap (λ (m : ℕ). read_lines m before rest) z ∙ read_past before rest o ∙ ap (λ (m : ℕ). fault m (suc (length before))) (sym q),
    )
why-refuses before rest n o (misspelt q h m) = fault-refuses before rest n Misspelt o q h (misspelt-line before rest (no_spelling rest m))
why-refuses before rest n o (no_option q h x p z) = fault-refuses before rest n NoOption o q h (zero_line before rest (spelt-read rest x p) z)
why-refuses before rest n o (not_allowed q h x p c a) = fault-refuses before rest n LevelNotAllowed o q h (level-line before rest (spelt-read rest x p) c (no_follow x.level before a))
why-refuses before rest n o (too_deep q h x p c a d) = fault-refuses before rest n TooDeep o q h (deep-line before rest (spelt-read rest x p) c (follow_test x.level before a) d)
why-refuses before rest n o (ninth_child q h x p c a d m) =
    let e = siblings-test x.level before m in
    fault-refuses before rest n NinthChild o q h (ninth_line before rest (spelt-read rest x p) c (follow_test x.level before a) d (omega arith))

-- A text that has such a first line at fault is refused at that line, by that number.
pub fault-first : (s : List ℕ) (n line : ℕ) → FirstFault s n line → form_of s ≡ fault n line
fault-first s n line a =
    let w = why-refuses (reverse a.before) a.rest n a.some a.why in
    let k : length (reverse a.before) ≡ length a.before = length-reverse a.before in
    ap form_of a.text
    ∙ some_bytes (spell a.before ++ a.rest) (omega (arith, a.some, length-append (spell a.before) a.rest))
    ∙ read-spelt most_nodes a.before [] a.rest (legal-pass a.before [] a.legal) (omega (arith, w.0))
    ∙ ap (λ (m : ℕ). read_lines (most_nodes - m) (reverse a.before) a.rest) (sym k)
    ∙ w.1
    ∙ ap (fault n) (ap suc k ∙ sym a.place)

-- ---- no text at all

-- No bytes are refused by 10 at line 1, and nothing is written.
pub no_bytes : (out : List ℕ) → read_of [] out ≡ writing (refused_at no_form 1) out
unfolding form_of read_of by_form
no_bytes out = refl
