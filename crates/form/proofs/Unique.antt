-- A line that is read has only one spelling, and so a text that is read without fault is the text of its lines. Assumes nothing.
use Rattle.std.specs.Prelude.{Err, Ok, Result}
use mathlib.Core.Path.{◌≡◌, refl, ap, ap₂, sym, subst, ◌∙◌}
use mathlib.Core.List.{List, [], ◌∷◌, ◌++◌, append_assoc, append-nil, reverse, reverse-cons}
use mathlib.Core.Bool.{Bool, true, false, not}
use Prim.Native.Nat.{ℕ, zero, suc, ◌+◌, ◌*◌, ◌/◌, ◌≤◌, ◌<◌}
use native.Mathlib.Nat.{div-eq_of_lt-le, mod-eq_of_lt, mul-add-mod_self_right}
use native.Mathlib.Omega.{arith}
use lib.Dec.{eqb}
use lib.ListN.{length, drop}
use lib.Seq.{drop_at}
use borrow.Author.Tests.{eqb-false}
use Rattle.form.specs.declared.reading.Fault.{Fault}
use Rattle.form.specs.declared.reading.Node.{Node}
use Rattle.words.proofs.Tests.{never}
use Rattle.words.specs.Base.{when◌then◌else◌}
use Rattle.figures.specs.Limits.{greatest_code, most_nodes}
use Rattle.form.specs.Text.{digit_0, digit, code_size, Line, level_text, code_text, line_text, spell}
use Rattle.form.specs.Reading.{fault_number, is_digit, figure, value, is_code, code_behind, spelt_of, by_line, line_of, fault, form, read_lines, form_of}
use Rattle.form.specs.Faults.{greatest_level}
use Rattle.form.specs.declared.reading.Fault.TheVariants.{Misspelt}
use Rattle.form.proofs.Tests.{AllPass}
use Rattle.form.proofs.Faults.{no_node, the_node, node_seen}
use Rattle.form.proofs.Spelling.{of-digit, of_code}
use Rattle.form.proofs.LineBytes.{one-digit, two_digits, line-size}

-- ---- digits

-- The last figure of a number.
last-figure : (n y : ℕ) → y < 10 → digit (n * 10 + y) ≡ digit_0 + y
last-figure n y h = ap (λ (m : ℕ). digit_0 + m) (mul-add-mod_self_right n 10 y ∙ mod-eq_of_lt h)

module _ (x y z u : ℕ) (hx : x < 10) (hy : y < 10) (hz : z < 10) (hu : u < 10) where
  -- The number of four figures.
  abbrev four : ℕ
  four = x * 1000 + y * 100 + z * 10 + u

  -- Its first digit.
  first-digit : digit (four / 1000) ≡ digit_0 + x
  first-digit =
      let e : four / 1000 ≡ x = div-eq_of_lt-le 1000 (omega arith) (omega arith) in
      ap digit e ∙ ap (λ (m : ℕ). digit_0 + m) (mod-eq_of_lt hx)

  -- Its second digit.
  second-digit : digit (four / 100) ≡ digit_0 + y
  second-digit =
      let e : four / 100 ≡ x * 10 + y = div-eq_of_lt-le 100 (omega arith) (omega arith) in
      ap digit e ∙ last-figure x y hy

  -- Its third digit.
  third_digit : digit (four / 10) ≡ digit_0 + z
  third_digit =
      let e : four / 10 ≡ (x * 10 + y) * 10 + z = div-eq_of_lt-le 10 (omega arith) (omega arith) in
      ap digit e ∙ last-figure (x * 10 + y) z hz

  -- Its fourth digit.
  fourth_digit : digit four ≡ digit_0 + u
  fourth_digit =
      let e : four ≡ ((x * 10 + y) * 10 + z) * 10 + u = omega arith in
      ap digit e ∙ last-figure ((x * 10 + y) * 10 + z) u hu

  -- It is no more than the greatest code.
  four_small : four ≤ greatest_code
  four_small = omega arith

-- ---- codes

-- Six bytes that are a code are the text of their value.
is-text : (s a b c d e : ℕ) (r : List ℕ) → is_code s a b c d e ≡ true → (s ∷ a ∷ b ∷ c ∷ d ∷ e ∷ r ≡ code_text (value a b c d) ++ r) × (value a b c d ≤ greatest_code)
unfolding code_text value
is-text s a b c d e r t =
    let q = of_code s a b c d e t in
    let e₁ = of-digit a q.first in
    let e₂ = of-digit b q.second in
    let e₃ = of-digit c q.third in
    let e₄ = of-digit d q.fourth in
    let p₁ = first-digit (figure a) (figure b) (figure c) (figure d) e₁.1 e₂.1 e₃.1 e₄.1 ∙ e₁.0 in
    let p₂ = second-digit (figure a) (figure b) (figure c) (figure d) e₁.1 e₂.1 e₃.1 e₄.1 ∙ e₂.0 in
    let p₃ = third_digit (figure a) (figure b) (figure c) (figure d) e₁.1 e₂.1 e₃.1 e₄.1 ∙ e₃.0 in
    let p₄ = fourth_digit (figure a) (figure b) (figure c) (figure d) e₁.1 e₂.1 e₃.1 e₄.1 ∙ e₄.0 in
    (same6 q.gap (sym p₁) (sym p₂) (sym p₃) (sym p₄) q.end, four_small (figure a) (figure b) (figure c) (figure d) e₁.1 e₂.1 e₃.1 e₄.1)
  where
    same6 : {s s' a a' b b' c c' d d' e e' : ℕ} → s ≡ s' → a ≡ a' → b ≡ b' → c ≡ c' → d ≡ d' → e ≡ e' → ◌≡◌ {A = List ℕ} (s ∷ a ∷ b ∷ c ∷ d ∷ e ∷ r) (s' ∷ a' ∷ b' ∷ c' ∷ d' ∷ e' ∷ r)
    same6 q₀ q₁ q₂ q₃ q₄ q₅ = cc

-- What was read behind a level of w bytes is the text of a code, and the node has the level and six bytes more.
record Coded (s : List ℕ) (l w level code size : ℕ) : Type 0 where
  rest : List ℕ
  is : s ≡ code_text code ++ rest
  small : code ≤ greatest_code
  same-level : l ≡ level
  same_size : w + code_size ≡ size

-- `Coded` holds of whatever is read as a node behind a level.
code-back : (l w : ℕ) (s : List ℕ) {level code size : ℕ} → code_behind l w s ≡ Ok (record { level = level; code = code; size = size }) → Coded s l w level code size
unfolding code_behind when◌then◌else◌
code-back l w [] e = no_node e
code-back l w (s ∷ []) e = no_node e
code-back l w (s ∷ a ∷ []) e = no_node e
code-back l w (s ∷ a ∷ b ∷ []) e = no_node e
code-back l w (s ∷ a ∷ b ∷ c ∷ []) e = no_node e
code-back l w (s ∷ a ∷ b ∷ c ∷ d ∷ []) e = no_node e
code-back l w (s ∷ a ∷ b ∷ c ∷ d ∷ n ∷ r) {level} {code} {size} e = go (is_code s a b c d n) refl e
  where
    go : (t : Bool) → is_code s a b c d n ≡ t → when◌then◌else◌ {A = Result Node Fault} t (Ok (record { level = l; code = value a b c d; size = w + code_size })) (Err Misspelt) ≡ Ok (record { level = level; code = code; size = size }) → Coded (s ∷ a ∷ b ∷ c ∷ d ∷ n ∷ r) l w level code size
    go false q e = no_node e
    go true q e =
        let k = is-text s a b c d n r q in
        let node = the_node e in
        let v : value a b c d ≡ code = ap (λ (m : Node). m.code) node in
        let x : l ≡ level = ap (λ (m : Node). m.level) node in
        let y : w + code_size ≡ size = ap (λ (m : Node). m.size) node in
        record { rest = r; is = k.0 ∙ ap (λ (m : ℕ). code_text m ++ r) v; small = omega (arith, k.1); same-level = x; same_size = y }

-- ---- lines

-- What was read of a line is the line's text, and what is left is what follows it.
pub record Lined (s : List ℕ) (level code size : ℕ) : Type 0 where
  pub rest : List ℕ
  pub is : s ≡ line_text (record { level = level; code = code }) ++ rest
  pub takes : size ≡ length (line_text (record { level = level; code = code }))
  pub left : drop size s ≡ rest
  pub short : level ≤ greatest_level
  pub small : code ≤ greatest_code

-- One digit is the text of the level that it stands for.
digit-level : (x : ℕ) → is_digit x ≡ true → level_text (figure x) ≡ x ∷ []
digit-level x e =
    let o = of-digit x e in
    one-digit (figure x) o.1 ∙ ap (λ (m : ℕ). m ∷ []) (ap (λ (m : ℕ). digit_0 + m) (mod-eq_of_lt o.1) ∙ o.0)

-- Two digits of which the first is not 0 are the text of the level that they stand for.
digits-level : (x y : ℕ) → is_digit x ≡ true → is_digit y ≡ true → (x ≡ digit_0 → ⊥) → level_text (figure x * 10 + figure y) ≡ x ∷ y ∷ []
digits-level x y e f n =
    let o = of-digit x e in
    let q = of-digit y f in
    let d : (figure x * 10 + figure y) / 10 ≡ figure x = div-eq_of_lt-le 10 (omega arith) (omega arith) in
    let z : digit ((figure x * 10 + figure y) / 10) ≡ x = ap digit d ∙ ap (λ (m : ℕ). digit_0 + m) (mod-eq_of_lt o.1) ∙ o.0 in
    let w : digit (figure x * 10 + figure y) ≡ y = last-figure (figure x) (figure y) q.1 ∙ q.0 in
    two_digits (figure x * 10 + figure y) (omega (arith, o.0, n)) ∙ ap₂ (λ (a b : ℕ). a ∷ b ∷ []) z w

-- The text of a level, and of a code behind it, is that of a line.
lined : (front s : List ℕ) (l : ℕ) {level code size : ℕ} → level_text l ≡ front → l ≤ greatest_level → Coded s l (length front) level code size → Lined (front ++ s) level code size
unfolding line_text
lined front s l {level} {code} {size} e h k =
    let f : level_text level ≡ front = ap level_text (sym k.same-level) ∙ e in
    let i : front ++ s ≡ line_text (record { level = level; code = code }) ++ k.rest = ap₂ ◌++◌ (sym f) k.is ∙ sym (append_assoc (level_text level) (code_text code) k.rest) in
    let n : length (line_text (record { level = level; code = code })) ≡ size = line-size (record { level = level; code = code }) ∙ ap (λ (m : List ℕ). length m + code_size) f ∙ k.same_size in
    record {
      rest = k.rest;
      is = i;
      takes = sym n;
      left = ap (drop size) i ∙ drop_at (line_text (record { level = level; code = code })) k.rest size n;
      short = omega (arith, k.same-level);
      small = k.small;
    }

-- `Lined` holds of whatever is read as a node.
pub line-back : (s : List ℕ) {level code size : ℕ} → spelt_of s ≡ Ok (record { level = level; code = code; size = size }) → Lined s level code size
unfolding spelt_of when◌then◌else◌
line-back [] e = no_node e
line-back (x ∷ []) e = no_node e
line-back (x ∷ y ∷ r) {level} {code} {size} e = go (is_digit x) (is_digit y) (eqb x digit_0) refl refl refl e
  where
    go : (a b t : Bool) → is_digit x ≡ a → is_digit y ≡ b → eqb x digit_0 ≡ t
        → (when not a then Err Misspelt else when not b then code_behind (figure x) 1 (y ∷ r) else when t then Err Misspelt else code_behind (figure x * 10 + figure y) 2 r) ≡ Ok (record { level = level; code = code; size = size }) → Lined (x ∷ y ∷ r) level code size
    go false b t q₀ q₁ q₂ e = no_node e
    go true false t q₀ q₁ q₂ e = let h = of-digit x q₀ in lined (x ∷ []) (y ∷ r) (figure x) (digit-level x q₀) (omega (arith, h.1)) (code-back (figure x) 1 (y ∷ r) e)
    go true true true q₀ q₁ q₂ e = no_node e
    go true true false q₀ q₁ q₂ e =
        let h = of-digit x q₀ in
        let i = of-digit y q₁ in
        lined (x ∷ y ∷ []) r (figure x * 10 + figure y) (digits-level x y q₀ q₁ (eqb-false _ _ q₂)) (omega (arith, h.1, i.1)) (code-back (figure x * 10 + figure y) 2 r e)

-- ---- texts

-- A text that is refused is no form.
pub not_read : {A : Type 0} {n line : ℕ} {xs : List Line} → fault n line ≡ form xs → A
not_read e = never cc

-- What was read without fault: lines behind those before, for which there was room, and whose text the bytes are.
record Again (room : ℕ) (before : List Line) (s : List ℕ) (xs : List Line) : Type 0 where
  ys : List Line
  joined : xs ≡ reverse before ++ ys
  text : spell ys ≡ s
  legal : AllPass before ys
  rooms : length ys ≤ room

-- `Again` holds where no bytes are left.
again_none : (room : ℕ) (before xs : List Line) → form (reverse before) ≡ form xs → Again room before [] xs
unfolding spell
again_none room before xs e =
    let q : xs ≡ reverse before = cc in
    record { ys = []; joined = q ∙ sym (append-nil (reverse before)); text = refl; legal = tt; rooms = omega arith }

-- It holds of a line that is read, if it holds behind it.
again_line : (room : ℕ) (before : List Line) (s : List ℕ) (xs : List Line) {l c w : ℕ} → line_of before s ≡ Ok (record { level = l; code = c; size = w }) → Again room (record { level = l; code = c } ∷ before) (drop w s) xs → Again (suc room) before s xs
unfolding spell
again_line room before s xs {l} {c} {w} e a =
    let n = node_seen before s e in
    let k = line-back s n.0 in
    let x : Line = record { level = l; code = c } in
    record {
      ys = x ∷ a.ys;
      joined = a.joined ∙ ap (λ (zs : List Line). zs ++ a.ys) (reverse-cons x before) ∙ append_assoc (reverse before) (x ∷ []) a.ys;
      text = ap (λ (t : List ℕ). line_text x ++ t) (a.text ∙ k.left) ∙ sym k.is;
      legal = (k.small, n.1, a.legal);
      rooms = omega (arith, a.rooms);
    }

-- `Again` holds of whatever is read without fault.
again : (room : ℕ) (before : List Line) (s : List ℕ) (xs : List Line) → read_lines room before s ≡ form xs → Again room before s xs
unfolding read_lines by_line
again zero before [] xs e = again_none zero before xs e
again zero before (b ∷ bs) xs e = not_read e
again (suc room) before [] xs e = again_none (suc room) before xs e
again (suc room) before (b ∷ bs) xs e = go (line_of before (b ∷ bs)) refl (λ x t. again room (x ∷ before) t xs) e
  where
    go : (r : Result Node Fault) → line_of before (b ∷ bs) ≡ r → ((x : Line) (s : List ℕ) → read_lines room (x ∷ before) s ≡ form xs → Again room (x ∷ before) s xs)
        → by_line r (λ level code size. read_lines room (record { level = level; code = code } ∷ before) (drop size (b ∷ bs))) (λ f. fault (fault_number f) (suc (length before))) ≡ form xs → Again (suc room) before (b ∷ bs) xs
    go (Err f) q ih e = not_read e
    go (Ok node) q ih e = let record { level = l; code = c; size = w } = node in again_line room before (b ∷ bs) xs q (ih (record { level = l; code = c }) (drop w (b ∷ bs)) e)

-- Bytes that are read without fault are the text of their lines, each of which passes, and for which there was room.
pub read-text : (room : ℕ) (s : List ℕ) (xs : List Line) → read_lines room [] s ≡ form xs → (spell xs ≡ s) × AllPass [] xs × (length xs ≤ room)
read-text room s xs e =
    let a = again room [] s xs e in
    (ap spell a.joined ∙ a.text, subst (AllPass []) (sym a.joined) a.legal, rw a.joined a.rooms)

-- A form is the text of its lines.
pub form-text : (s : List ℕ) (xs : List Line) → form_of s ≡ form xs → (spell xs ≡ s) × AllPass [] xs × (length xs ≤ most_nodes)
unfolding form_of
form-text [] xs e = not_read e
form-text (b ∷ bs) xs e = read-text most_nodes (b ∷ bs) xs e
