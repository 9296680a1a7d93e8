-- What a line is read as behind those before it, and what the whole text is then. Assumes nothing.
use Rattle.std.specs.Prelude.{Err, Ok, Result}
use mathlib.Core.Path.{ap, ◌≡◌, refl, subst}
use mathlib.Core.Bool.{Bool, true, false, not}
use mathlib.Core.List.{List, [], ◌∷◌, reverse}
use Prim.Native.Nat.{ℕ, zero, suc, ◌≤◌, ◌<◌}
use native.Mathlib.Omega.{arith}
use lib.Dec.{leb, ltb, eqb}
use lib.ListN.{length, drop}
use borrow.Author.Tests.{lt-leb, le-leb, lt-ltb, le-ltb, eq-eqb, ne_eqb, eqb-true, eqb-false, leb-true, leb-false, ltb-true, ltb-false}
use Rattle.form.specs.declared.reading.Node.{Node}
use Rattle.words.specs.Base.{when◌then◌else◌, within}
use Rattle.words.proofs.Tests.{and_left, and_right, never}
use Rattle.figures.specs.Limits.{least_code, most_nodes, most_children, greatest_depth}
use Rattle.figures.specs.Numbers.{done}
use Rattle.form.specs.Text.{Line}
use Rattle.form.specs.Reading.{fault_number, spelt_of, by_line, allowed, siblings, line_of, fault, form, read_lines, form_of}
use Rattle.form.specs.declared.reading.Fault.{Fault}
use Rattle.form.specs.declared.reading.Fault.TheVariants.{PastLast, Misspelt, NoOption, LevelNotAllowed, TooDeep, NinthChild}
use Rattle.form.proofs.Tests.{Passes}

-- ---- a node or a refusal

-- A refusal is no node.
pub no_node : {A : Type 0} {f : Fault} {l c w : ℕ} → ◌≡◌ {A = Result Node Fault} (Err f) (Ok (record { level = l; code = c; size = w })) → A
no_node e = never cc

-- The node that a line is read as, or another where it is refused.
abbrev node_or : Node → Result Node Fault → Node
node_or other (Ok node) = node
node_or other (Err f) = other

-- Lines that are read alike are the same node.
pub the_node : {m n : Node} → ◌≡◌ {A = Result Node Fault} (Ok m) (Ok n) → m ≡ n
the_node {m} e = ap (node_or m) e

-- No fault has the number 0.
pub fault-number : (f : Fault) → fault_number f ≡ done → ⊥
fault-number PastLast e = omega arith
fault-number Misspelt e = omega arith
fault-number NoOption e = omega arith
fault-number LevelNotAllowed e = omega arith
fault-number TooDeep e = omega arith
fault-number NinthChild e = omega arith

-- ---- a line without fault

-- Both sides of a range that a number lies in.
pub within_both : (least greatest n : ℕ) → within least greatest n ≡ true → (least ≤ n) × (n ≤ greatest)
within_both least greatest n e = (leb-true _ _ (and_left (leb least n) (leb n greatest) e), leb-true _ _ (and_right (leb least n) (leb n greatest) e))

-- A spelt line that passes is read.
pub fine_line : (before : List Line) (s : List ℕ) {l c w : ℕ} → spelt_of s ≡ Ok (record { level = l; code = c; size = w }) → Passes before l c → line_of before s ≡ Ok (record { level = l; code = c; size = w })
unfolding line_of by_line when◌then◌else◌
fine_line before s {l} {c} {w} e f =
    rw (e, ne_eqb c 0 (let h = f.option in λ z. omega arith), f.follows, le-ltb greatest_depth l f.shallow, lt-leb most_children (siblings l before) f.child) refl

-- ---- a line at fault

-- Bytes that are refused by their spelling are refused so behind any lines.
pub misspelt-line : (before : List Line) (s : List ℕ) {f : Fault} → spelt_of s ≡ Err f → line_of before s ≡ Err f
unfolding line_of by_line
misspelt-line before s e = rw e

-- A spelt line of code 0000 is refused for its code.
pub zero_line : (before : List Line) (s : List ℕ) {l c w : ℕ} → spelt_of s ≡ Ok (record { level = l; code = c; size = w }) → c ≡ 0 → line_of before s ≡ Err NoOption
unfolding line_of by_line when◌then◌else◌
zero_line before s {l} {c} e o = rw (e, eq-eqb c 0 o) refl

-- A spelt line with an option, of a level that is not allowed, is refused for its level.
pub level-line : (before : List Line) (s : List ℕ) {l c w : ℕ} → spelt_of s ≡ Ok (record { level = l; code = c; size = w }) → least_code ≤ c → allowed l before ≡ false → line_of before s ≡ Err LevelNotAllowed
unfolding line_of by_line when◌then◌else◌
level-line before s {l} {c} e o a = rw (e, ne_eqb c 0 (λ z. omega arith), a) refl

-- A spelt line with an option, of a level that is allowed but over 12, is too deep.
pub deep-line : (before : List Line) (s : List ℕ) {l c w : ℕ} → spelt_of s ≡ Ok (record { level = l; code = c; size = w }) → least_code ≤ c → allowed l before ≡ true → greatest_depth < l → line_of before s ≡ Err TooDeep
unfolding line_of by_line when◌then◌else◌
deep-line before s {l} {c} e o a d = rw (e, ne_eqb c 0 (λ z. omega arith), a, lt-ltb greatest_depth l d) refl

-- A spelt line that lacks nothing but room under its parent is a ninth child.
pub ninth_line : (before : List Line) (s : List ℕ) {l c w : ℕ} → spelt_of s ≡ Ok (record { level = l; code = c; size = w }) → least_code ≤ c → allowed l before ≡ true → l ≤ greatest_depth → most_children ≤ siblings l before → line_of before s ≡ Err NinthChild
unfolding line_of by_line when◌then◌else◌
ninth_line before s {l} {c} e o a d n =
    rw (e, ne_eqb c 0 (λ z. omega arith), a, le-ltb greatest_depth l d, le-leb most_children (siblings l before) n) refl

-- ---- what a line is read as, by its tests

-- Which tests the front of the bytes passed and failed, behind the lines before, by what it is read as.
pub data Seen (before : List Line) (s : List ℕ) : Result Node Fault → Type 0 where
  unspelt : {f : Fault} → spelt_of s ≡ Err f → Seen before s (Err f)
  zero_code : {l c w : ℕ} → spelt_of s ≡ Ok (record { level = l; code = c; size = w }) → c ≡ 0 → Seen before s (Err NoOption)
  bad_level : {l c w : ℕ} → spelt_of s ≡ Ok (record { level = l; code = c; size = w }) → least_code ≤ c → allowed l before ≡ false → Seen before s (Err LevelNotAllowed)
  deep : {l c w : ℕ} → spelt_of s ≡ Ok (record { level = l; code = c; size = w }) → least_code ≤ c → allowed l before ≡ true → greatest_depth < l → Seen before s (Err TooDeep)
  ninth : {l c w : ℕ} → spelt_of s ≡ Ok (record { level = l; code = c; size = w }) → least_code ≤ c → allowed l before ≡ true → l ≤ greatest_depth → most_children ≤ siblings l before → Seen before s (Err NinthChild)
  fine : {l c w : ℕ} → spelt_of s ≡ Ok (record { level = l; code = c; size = w }) → Passes before l c → Seen before s (Ok (record { level = l; code = c; size = w }))

-- `Seen` holds of whatever the tests give.
seen_of : (before : List Line) (s : List ℕ) (r : Result Node Fault) → spelt_of s ≡ r
    → Seen before s (by_line r (λ level code size.
    when eqb code 0 then Err NoOption else
    when not (allowed level before) then Err LevelNotAllowed else
    when ltb greatest_depth level then Err TooDeep else
    when leb most_children (siblings level before) then Err NinthChild else
    Ok (record { level = level; code = code; size = size })) Err)
unfolding by_line when◌then◌else◌
seen_of before s (Err f) q = unspelt q
seen_of before s (Ok node) q = go (eqb node.code 0) (allowed node.level before) (ltb greatest_depth node.level) (leb most_children (siblings node.level before)) refl refl refl refl
  where
    some : eqb node.code 0 ≡ false → least_code ≤ node.code
    some e = let o : node.code ≡ 0 → ⊥ = eqb-false _ _ e in omega arith

    go : (z a d n : Bool) → eqb node.code 0 ≡ z → allowed node.level before ≡ a → ltb greatest_depth node.level ≡ d → leb most_children (siblings node.level before) ≡ n
        → Seen before s (when z then Err NoOption else when not a then Err LevelNotAllowed else when d then Err TooDeep else when n then Err NinthChild else Ok node)
    go true a d n p₀ p₁ p₂ p₃ = zero_code q (eqb-true _ _ p₀)
    go false false d n p₀ p₁ p₂ p₃ = bad_level q (some p₀) p₁
    go false true true n p₀ p₁ p₂ p₃ = deep q (some p₀) p₁ (ltb-true _ _ p₂)
    go false true false true p₀ p₁ p₂ p₃ = ninth q (some p₀) p₁ (ltb-false _ _ p₂) (leb-true _ _ p₃)
    go false true false false p₀ p₁ p₂ p₃ = fine q (record { option = some p₀; follows = p₁; shallow = ltb-false _ _ p₂; child = leb-false _ _ p₃ })

-- `Seen` holds of whatever a line is read as.
pub seen : (before : List Line) (s : List ℕ) {r : Result Node Fault} → line_of before s ≡ r → Seen before s r
unfolding line_of
seen before s e = subst (Seen before s) e (seen_of before s (spelt_of s) refl)

-- A line that is read is spelt so, and passes behind those before it.
pub node_seen : (before : List Line) (s : List ℕ) {l c w : ℕ} → line_of before s ≡ Ok (record { level = l; code = c; size = w }) → (spelt_of s ≡ Ok (record { level = l; code = c; size = w })) × Passes before l c
node_seen before s {l} {c} {w} e = go (seen before s e)
  where
    go : Seen before s (Ok (record { level = l; code = c; size = w })) → (spelt_of s ≡ Ok (record { level = l; code = c; size = w })) × Passes before l c
    go (fine q f) = (q, f)

-- ---- the whole text, by its next line

-- Where no bytes are left, the lines are those before.
pub read_done : (room : ℕ) (before : List Line) → read_lines room before [] ≡ form (reverse before)
unfolding read_lines
read_done zero before = refl
read_done (suc room) before = refl

-- Bytes for which there is no room are past the last line.
pub read_past : (before : List Line) (s : List ℕ) → 0 < length s → read_lines 0 before s ≡ fault (fault_number PastLast) (suc (length before))
unfolding read_lines
read_past before [] h = absurd (omega arith)
read_past before (b ∷ bs) h = refl

-- A line at fault refuses the text.
pub read-fault : (room : ℕ) (before : List Line) (s : List ℕ) {f : Fault} → 0 < length s → line_of before s ≡ Err f → read_lines (suc room) before s ≡ fault (fault_number f) (suc (length before))
unfolding read_lines by_line
read-fault room before [] h e = absurd (omega arith)
read-fault room before (b ∷ bs) h e = rw e

-- No bytes are no line.
no_line : (before : List Line) {l c w : ℕ} → line_of before [] ≡ Ok (record { level = l; code = c; size = w }) → ⊥
unfolding line_of spelt_of by_line
no_line before e = no_node e

-- Behind a line that is read, the rest decides.
pub read-on : (room : ℕ) (before : List Line) (s : List ℕ) {l c w : ℕ} → line_of before s ≡ Ok (record { level = l; code = c; size = w }) → read_lines (suc room) before s ≡ read_lines room (record { level = l; code = c } ∷ before) (drop w s)
unfolding read_lines by_line
read-on room before [] e = absurd (no_line before e)
read-on room before (b ∷ bs) e = rw e

-- A text that has bytes is read from its first line on.
pub some_bytes : (s : List ℕ) → 0 < length s → form_of s ≡ read_lines most_nodes [] s
unfolding form_of
some_bytes [] h = absurd (omega arith)
some_bytes (b ∷ bs) h = refl
