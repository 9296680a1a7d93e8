-- The lines without fault of specs/Faults.antt, which speaks of levels, parents and children, are those that pass the tests with which a text is
-- read; so a text is read without fault exactly if it is that of one to 64 such lines. Assumes nothing.
use mathlib.Core.Path.{◌≡◌, refl, ap, sym, subst, ◌∙◌}
use mathlib.Core.Bool.{Bool, true, false}
use mathlib.Core.List.Memᴰ.{head as here}
use mathlib.Core.List.Memᴰ.{tail as there}
use mathlib.Core.List.{List, [], ◌∷◌, ◌++◌}
use Prim.Native.Nat.{ℕ, suc, ◌+◌, ◌≤◌, ◌<◌}
use native.Mathlib.Omega.{arith}
use lib.Dec.{ltb, eqb}
use lib.ListN.{length}
use borrow.Author.Tests.{le-leb, lt-ltb, le-ltb, eq-eqb, ne_eqb, eqb-true, eqb-false}
use Rattle.words.specs.Base.{◌and◌, when◌then◌else◌, ◌∈◌}
use Rattle.words.proofs.Tests.{no_test, by_test, never}
use Rattle.figures.specs.Limits.{most_nodes, most_children, greatest_depth}
use Rattle.form.specs.Text.{Line, spell}
use Rattle.form.specs.Reading.{allowed, siblings, form, form_of}
use Rattle.form.specs.Faults.{MayFollow, first, later, ChildrenOf, no_lines, child, deeper, Siblings, no_parent, under, Fine, Legal}
use Rattle.form.proofs.Tests.{Passes, AllPass, Passed}
use Rattle.form.proofs.Faults.{within_both}
use Rattle.form.proofs.Unique.{not_read, form-text}
use Rattle.form.proofs.RoundTrip.{read-form}

-- ---- levels

-- A level that may follow passes the test.
pub follow_test : (l : ℕ) (before : List Line) → MayFollow l before → allowed l before ≡ true
unfolding allowed ◌and◌
follow_test l [] (first h) = eq-eqb l 0 h
follow_test l (x ∷ xs) (later p q) = rw (le-leb 1 l p, le-leb l (suc x.level) (omega arith))

-- A level that passes the test may follow.
pub test_follow : (l : ℕ) (before : List Line) → allowed l before ≡ true → MayFollow l before
unfolding allowed
test_follow l [] e = first (eqb-true _ _ e)
test_follow l (x ∷ xs) e =
    let w = within_both 1 (suc x.level) l e in
    let h : l ≤ x.level + 1 = omega (arith, w.1) in
    later w.0 h

-- A level that may not follow fails the test.
pub no_follow : (l : ℕ) (before : List Line) → (MayFollow l before → ⊥) → allowed l before ≡ false
no_follow l before h = by_test (allowed l before) (λ q. absurd (h (test_follow l before q))) (λ q. q)

-- A level that fails the test may not follow.
pub follow_none : (l : ℕ) (before : List Line) → allowed l before ≡ false → MayFollow l before → ⊥
follow_none l before e m = no_test (sym e ∙ follow_test l before m)

-- ---- siblings

-- Of lines below a parent, the test counts the children.
children-test : (p : Line) (front between : List Line) {n : ℕ} → ChildrenOf p.level between n → siblings (p.level + 1) (between ++ (p ∷ front)) ≡ n
unfolding siblings when◌then◌else◌
children-test p front [] no_lines = rw (lt-ltb p.level (p.level + 1) (omega arith))
children-test p front (x ∷ xs) (child e c) = rw (le-ltb x.level (p.level + 1) (omega arith), eq-eqb x.level (p.level + 1) e, children-test p front xs c)
children-test p front (x ∷ xs) (deeper h c) = rw (le-ltb x.level (p.level + 1) (omega arith), ne_eqb x.level (p.level + 1) (λ z. omega arith), children-test p front xs c)

-- The test counts the siblings.
pub siblings-test : (l : ℕ) (before : List Line) {n : ℕ} → Siblings l before n → siblings l before ≡ n
unfolding siblings
siblings-test l before (no_parent e z) = ap (siblings l) e ∙ sym z
siblings-test l before (under p between front e q c) =
    ap (siblings l) e ∙ ap (λ (m : ℕ). siblings m (between ++ (p ∷ front))) q ∙ children-test p front between c

-- With a line more, of that level or deeper, a level has some number of siblings still: the line is one more, or none.
sibling_on : (x y : Line) (ys : List Line) (l : ℕ) → l ≤ x.level → (n : ℕ) × Siblings l (y ∷ ys) n → (n : ℕ) × Siblings l (x ∷ y ∷ ys) n
sibling_on x y ys l h r = go r.1
  where
    -- By the parent.
    go : Siblings l (y ∷ ys) r.0 → (n : ℕ) × Siblings l (x ∷ y ∷ ys) n
    go (no_parent e z) = never cc
    go (under p between front e q c) = by (eqb x.level l) refl
      where
        -- By whether the line has the level.
        by : (b : Bool) → eqb x.level l ≡ b → (n : ℕ) × Siblings l (x ∷ y ∷ ys) n
        by true t =
            let d : x.level ≡ p.level + 1 = eqb-true _ _ t ∙ q in
            (suc r.0, under p (x ∷ between) front (ap (λ (s : List Line). x ∷ s) e) q (child d c))
        by false t =
            let z : x.level ≡ l → ⊥ = eqb-false _ _ t in
            let d : p.level + 1 < x.level = omega arith in
            (r.0, under p (x ∷ between) front (ap (λ (s : List Line). x ∷ s) e) q (deeper d c))

-- Line 1 has level 0.
first-level : (l : ℕ) → MayFollow l [] → l ≡ 0
first-level l (first h) = h

-- A later level is at most the previous plus 1.
later-level : (l : ℕ) {x : Line} {xs : List Line} → MayFollow l (x ∷ xs) → l ≤ x.level + 1
later-level l (later p q) = q

-- A line one level deeper than the last is its first child.
first-child : (x : Line) (xs : List Line) (l : ℕ) → l ≡ x.level + 1 → (n : ℕ) × Siblings l (x ∷ xs) n
first-child x xs l e = (0, under x [] xs refl e no_lines)

-- Behind lines that pass, a level that may follow has some number of siblings: each level from 1 to the last line's plus 1 has its parent among
-- them, since line 1 has level 0, and no level is over the previous plus 1.
siblings-some : (before : List Line) → Passed before → (l : ℕ) → MayFollow l before → (n : ℕ) × Siblings l before n
siblings-some [] w l m = (0, no_parent refl refl)
siblings-some (x ∷ []) w l (later p q) =
    let o = w.0 in
    let z : x.level ≡ 0 = first-level x.level (test_follow x.level [] o.follows) in
    first-child x [] l (omega arith)
siblings-some (x ∷ y ∷ ys) w l (later p q) =
    let o = w.0 in
    go (eqb l (x.level + 1)) refl (later-level x.level (test_follow x.level (y ∷ ys) o.follows)) (siblings-some (y ∷ ys) w.1 l)
  where
    -- By whether the level is one deeper than the last line's.
    go : (b : Bool) → eqb l (x.level + 1) ≡ b → x.level ≤ y.level + 1 → (MayFollow l (y ∷ ys) → (n : ℕ) × Siblings l (y ∷ ys) n) → (n : ℕ) × Siblings l (x ∷ y ∷ ys) n
    go true t h ih = first-child x (y ∷ ys) l (eqb-true _ _ t)
    go false t h ih =
        let z : l ≡ x.level + 1 → ⊥ = eqb-false _ _ t in
        let k : l ≤ y.level + 1 = omega arith in
        sibling_on x y ys l (omega arith) (ih (later p k))

-- So there are as many siblings as the test counts.
test_siblings : (before : List Line) → Passed before → (l : ℕ) → MayFollow l before → Siblings l before (siblings l before)
test_siblings before w l m =
    let r = siblings-some before w l m in
    subst (Siblings l before) (sym (siblings-test l before r.1)) r.1

-- Behind lines that pass there are eight siblings at most.
siblings-most : (before : List Line) → Passed before → (l : ℕ) → siblings l before ≤ most_children
unfolding siblings when◌then◌else◌
siblings-most [] w l = omega arith
siblings-most (x ∷ xs) w l = go (ltb x.level l) (eqb x.level l) refl (siblings-most xs w.1 l)
  where
    -- By whether the last line ends the count, or is counted.
    go : (a b : Bool) → eqb x.level l ≡ b → siblings l xs ≤ most_children → (when a then 0 else when b then suc (siblings l xs) else siblings l xs) ≤ most_children
    go true b q h = omega arith
    go false false q h = h
    go false true q h =
        let o = w.0 in
        let z : siblings x.level xs ≡ siblings l xs = ap (λ (m : ℕ). siblings m xs) (eqb-true _ _ q) in
        omega (arith, o.child)

-- So a line that has eight or more has just eight.
pub siblings-full : (before : List Line) → Passed before → (l : ℕ) → MayFollow l before → most_children ≤ siblings l before → Siblings l before most_children
siblings-full before w l m h =
    let z : siblings l before ≡ most_children = omega (arith, siblings-most before w l) in
    subst (Siblings l before) z (test_siblings before w l m)

-- ---- lines without fault

-- A line that may stand there passes.
fine_pass : (before : List Line) {l c : ℕ} → Fine before l c → Passes before l c
fine_pass before {l} f =
    let e = siblings-test l before f.siblings in
    record { option = f.option; follows = follow_test l before f.follows; shallow = f.shallow; child = omega (arith, f.few) }

-- A line that passes behind lines that pass may stand there.
pub pass_fine : (before : List Line) → Passed before → {l c : ℕ} → Passes before l c → Fine before l c
pass_fine before w {l} o =
    let m = test_follow l before o.follows in
    record { option = o.option; follows = m; shallow = o.shallow; many = siblings l before; siblings = test_siblings before w l m; few = o.child }

-- Lines each of which may stand there pass.
pub legal-pass : (xs before : List Line) → Legal before xs → AllPass before xs
legal-pass [] before g = tt
legal-pass (x ∷ xs) before g = (g.0, fine_pass before g.1, legal-pass xs (x ∷ before) g.2)

-- Lines that pass behind lines that pass may each stand there.
pub pass_legal : (xs before : List Line) → Passed before → AllPass before xs → Legal before xs
pass_legal [] before w g = tt
pass_legal (x ∷ xs) before w g = (g.0, pass_fine before w g.1, pass_legal xs (x ∷ before) (g.1, w) g.2)

-- A line that may stand in a form is at most 12 deep.
pub legal-shallow : (before xs : List Line) → Legal before xs → (x : Line) → x ∈ xs → x.level ≤ greatest_depth
legal-shallow before [] g x x4 = elim x4 [ ]
legal-shallow before (y ∷ ys) g x (here e) = rw e g.1.shallow
legal-shallow before (y ∷ ys) g x (there m) = legal-shallow (y ∷ before) ys g.2 x m

-- ---- texts without fault

-- A text that is read as a form is the text of the form's lines, of which there are one to 64, and each of which may stand there.
pub form-legal : (s : List ℕ) (xs : List Line) → form_of s ≡ form xs → (spell xs ≡ s) × Legal [] xs × (0 < length xs) × (length xs ≤ most_nodes)
unfolding form_of spell
form-legal [] xs e = not_read e
form-legal (b ∷ bs) [] e = let o = form-text (b ∷ bs) [] e in never (cc o.0)
form-legal (b ∷ bs) (x ∷ xs) e =
    let o = form-text (b ∷ bs) (x ∷ xs) e in
    (o.0, pass_legal (x ∷ xs) [] tt o.1, omega arith, o.2)

-- The text of one to 64 lines each of which may stand there is read as a form of them.
pub legal-form : (xs : List Line) → Legal [] xs → 0 < length xs → length xs ≤ most_nodes → form_of (spell xs) ≡ form xs
legal-form xs g o n = read-form xs (legal-pass xs [] g) o n
