-- One line more: a new node without children behind the others, and its parent's number of children raised by one. Assumes nothing.
use mathlib.Core.Path.{◌≡◌, refl, ap, sym, subst, ◌∙◌}
use mathlib.Core.List.{List, [], ◌∷◌, ◌++◌, append_assoc, reverse, reverse-cons, reverse-append}
use mathlib.Core.Bool.{Bool, true, false}
use Prim.Native.Nat.{ℕ, suc, ◌+◌, ◌*◌, ◌≤◌, ◌<◌}
use native.Mathlib.Omega.{arith}
use lib.Dec.{leb, eqb}
use lib.ListN.{length, get_or, set, length-append, length-reverse}
use lib.Seq.{get_or-set_same, get_or-set_other}
use borrow.Author.Tests.{lt-leb, le-leb, lt-ltb, le-ltb, eq-eqb, ne_eqb, eqb-true, eqb-false, leb-true, leb-false}
use Rattle.words.proofs.Tests.{by_test}
use Rattle.words.specs.Base.{when◌then◌else◌}
use Rattle.form.specs.Text.{Line}
use Rattle.form.specs.Reading.{siblings, children, words_of_lines}

-- Every line is deeper than l.
abbrev pub Above : ℕ → List Line → Type 0
Above l [] = Unit {0}
Above l (x ∷ xs) = (l < x.level) × Above l xs

-- It stays so with a deeper line behind.
above-snoc : (l : ℕ) (xs : List Line) (x : Line) → Above l xs → l < x.level → Above l (xs ++ (x ∷ []))
above-snoc l [] x a h = (h, tt)
above-snoc l (y ∷ ys) x a h = (a.0, above-snoc l ys x a.1 h)

-- It is so in the order of the text too.
above-reverse : (l : ℕ) (xs : List Line) → Above l xs → Above l (reverse xs)
above-reverse l [] a = tt
above-reverse l (x ∷ xs) a = subst (Above l) (sym (reverse-cons x xs)) (above-snoc l (reverse xs) x (above-reverse l xs a.1) a.0)

-- One more in both branches is one more.
if_suc : (b : Bool) (n : ℕ) → (when b then suc (suc n) else suc n) ≡ suc (when b then suc n else n)
unfolding when◌then◌else◌
if_suc true n = refl
if_suc false n = refl

-- A child behind the others of a line is one more.
child : (l : ℕ) (ys : List Line) (x : Line) → Above l ys → x.level ≡ suc l → children l (ys ++ (x ∷ [])) ≡ suc (children l ys)
unfolding children when◌then◌else◌
child l [] x a e = rw (lt-leb x.level l (omega arith), eq-eqb x.level (suc l) e)
child l (y ∷ ys) x a e =
    let h : l < y.level = a.0 in
    rw (lt-leb y.level l h, child l ys x a.1 e) (if_suc (eqb y.level (suc l)) (children l ys))

-- A line behind them that is no child leaves their number as it is.
other : (l : ℕ) (ys : List Line) (x : Line) → (x.level ≡ suc l → ⊥) → children l (ys ++ (x ∷ [])) ≡ children l ys
unfolding children when◌then◌else◌
other l [] x n = rw (ne_eqb x.level (suc l) n) (if_same (leb x.level l) 0)
  where
    if_same : (b : Bool) (m : ℕ) → (when b then m else m) ≡ m
    if_same true m = refl
    if_same false m = refl
other l (y ∷ ys) x n = rw (other l ys x n)

-- Behind a line of level l or less there is no further child of a line of level l before it.
shut : (l : ℕ) (f : List Line) (p : Line) (back : List Line) (x : Line) → p.level ≤ l → children l (f ++ (p ∷ back) ++ (x ∷ [])) ≡ children l (f ++ (p ∷ back))
unfolding children when◌then◌else◌
shut l [] p back x h = rw (le-leb p.level l h)
shut l (y ∷ f) p back x h = rw (shut l f p back x h)

-- Lines have two words each.
pub length-words : (xs : List Line) → length (words_of_lines xs) ≡ 2 * length xs
unfolding words_of_lines
length-words [] = refl
length-words (x ∷ xs) = omega (arith, length-words xs)

-- The words behind a parent, with a child more at the end.
words-past : (l : ℕ) (back : List Line) (x : Line) → Above l back → x.level ≡ suc l → words_of_lines (back ++ (x ∷ [])) ≡ words_of_lines back ++ (x.code ∷ 0 ∷ [])
unfolding words_of_lines children
words-past l [] x a e = refl
words-past l (y ∷ ys) x a e =
    let h : l < y.level = a.0 in
    rw (other y.level ys x (λ q. omega arith), words-past l ys x a.1 e)

-- The place of a number of children, one line on.
two_on : (n : ℕ) → 2 * suc n + 1 ≡ suc (suc (2 * n + 1))
two_on n = omega arith

-- A line before the parent p of x has as many children as before.
stays : (l : ℕ) (f : List Line) (p : Line) (back : List Line) (x : Line) → x.level ≡ suc p.level → children l (f ++ (p ∷ back) ++ (x ∷ [])) ≡ children l (f ++ (p ∷ back))
stays l f p back x e =
    by_test (leb p.level l)
    (λ q. shut l f p back x (leb-true _ _ q))
    (λ q. other l (f ++ (p ∷ back)) x (let h : l < p.level = leb-false _ _ q in λ z. omega arith))

-- The words with x behind, over a split of the lines at its parent p.
append : (p : Line) (back : List Line) (x : Line) (front : List Line) → Above p.level back → x.level ≡ suc p.level →
    words_of_lines (front ++ (p ∷ back) ++ (x ∷ [])) ≡ set (words_of_lines (front ++ (p ∷ back))) (2 * length front + 1) (suc (children p.level back)) ++ (x.code ∷ 0 ∷ [])
unfolding words_of_lines
append p back x [] a e = rw (child p.level back x a e, words-past p.level back x a e)
append p back x (y ∷ front) a e = rw (two_on (length front), stays y.level front p back x e, append p back x front a e)

-- Where the parent's number of children stands.
pub kids : (p : Line) (back front : List Line) → get_or (words_of_lines (front ++ (p ∷ back))) (2 * length front + 1) 0 ≡ children p.level back
unfolding words_of_lines
kids p back [] = refl
kids p back (y ∷ front) = rw (two_on (length front)) (kids p back front)

-- The siblings of a child of p are the children that p has so far.
sibs : (p : Line) (front after : List Line) → Above p.level after → siblings (suc p.level) (after ++ (p ∷ front)) ≡ children p.level (reverse after)
unfolding siblings children when◌then◌else◌
sibs p front [] a = rw (lt-ltb p.level (suc p.level) (omega arith))
sibs p front (x ∷ after) a = go (eqb x.level (suc p.level)) refl (sibs p front after a.1) ∙ ap (children p.level) (sym (reverse-cons x after))
  where
    go : (b : Bool) → eqb x.level (suc p.level) ≡ b → siblings (suc p.level) (after ++ (p ∷ front)) ≡ children p.level (reverse after)
        → siblings (suc p.level) (x ∷ after ++ (p ∷ front)) ≡ children p.level (reverse after ++ (x ∷ []))
    go true q ih =
        let h : p.level < x.level = a.0 in
        rw (le-ltb x.level (suc p.level) h, q, ih, child p.level (reverse after) x (above-reverse _ after a.1) (eqb-true _ _ q))
    go false q ih =
        let h : p.level < x.level = a.0 in
        rw (le-ltb x.level (suc p.level) h, q, ih, other p.level (reverse after) x (eqb-false _ _ q))

-- A split of the lines is one in the order of the text.
reverse-split : (after : List Line) (p : Line) (front : List Line) → reverse (after ++ (p ∷ front)) ≡ reverse front ++ (p ∷ reverse after)
reverse-split after p front =
    reverse-append after (p ∷ front) ∙ ap (λ (xs : List Line). xs ++ reverse after) (reverse-cons p front) ∙ append_assoc (reverse front) (p ∷ []) (reverse after)

-- Of lines that are listed the last first, the one at place p is the last of level l, and all behind it are deeper.
pub record Open (before : List Line) (l p : ℕ) : Type 0 where
  pub after : List Line
  pub this : Line
  pub front : List Line
  pub is : before ≡ after ++ (this ∷ front)
  pub place : length front ≡ p
  pub level : this.level ≡ l
  pub above : Above l after

-- What a line x says of its parent at place p, and of the words with x.
pub record Adopts (before : List Line) (p : ℕ) (x : Line) : Type 0 where
  pub inside : p < length before
  pub had : get_or (words_of_lines (reverse before)) (2 * p + 1) 0 ≡ siblings x.level before
  pub words : words_of_lines (reverse (x ∷ before)) ≡ set (words_of_lines (reverse before)) (2 * p + 1) (suc (siblings x.level before)) ++ (x.code ∷ 0 ∷ [])

-- `Adopts` holds of a split of the lines at the parent.
adopts_split : (after : List Line) (p : Line) (front : List Line) (x : Line) → Above p.level after → x.level ≡ suc p.level → Adopts (after ++ (p ∷ front)) (length front) x
adopts_split after p front x a e =
    let b = above-reverse p.level after a in
    let s : siblings x.level (after ++ (p ∷ front)) ≡ children p.level (reverse after) = ap (λ (l : ℕ). siblings l (after ++ (p ∷ front))) e ∙ sibs p front after a in
    record {
      inside = rw length-append (omega arith);
      had = rw (s, reverse-split after p front, ← length-reverse front) (kids p (reverse after) (reverse front));
      words = ap words_of_lines (reverse-cons x (after ++ (p ∷ front))) ∙ rw (s, reverse-split after p front, ← length-reverse front) (append p (reverse after) x (reverse front) b e);
    }

-- `Adopts` holds of a line one level below the last of its level.
pub adopts : {before : List Line} {l p : ℕ} → Open before l p → (x : Line) → x.level ≡ suc l → Adopts before p x
adopts {before} {l} {p} o x e =
    let a : Above o.this.level o.after = subst (λ (n : ℕ). Above n o.after) (sym o.level) o.above in
    let r = adopts_split o.after o.this o.front x a (e ∙ ap suc (sym o.level)) in
    subst (λ (n : ℕ). Adopts before n x) o.place (subst (λ (b : List Line). Adopts b (length o.front) x) (sym o.is) r)

-- A line that stands behind the others is the last of its level.
pub here : (x : Line) (before : List Line) → Open (x ∷ before) x.level (length before)
here x before = record { after = []; this = x; front = before; is = refl; place = refl; level = refl; above = tt }

-- The last of a higher level stays so.
pub there : (x : Line) {before : List Line} {l p : ℕ} → Open before l p → l < x.level → Open (x ∷ before) l p
there x o h = record { after = x ∷ o.after; this = o.this; front = o.front; is = ap (λ (s : List Line). x ∷ s) o.is; place = o.place; level = o.level; above = (h, o.above) }

-- The last line of each level below `top` is kept.
abbrev pub Kept : List Line → ℕ → List ℕ → Type 0
Kept before top latest = (l : ℕ) → l < top → Open before l (get_or latest l 0)

-- A line more: it is the last of its level, and deeper levels are closed.
pub kept_on : (x : Line) (before : List Line) (top : ℕ) (latest : List ℕ) (n : ℕ) → Kept before top latest → x.level ≤ top → x.level < length latest → n ≡ length before
    → Kept (x ∷ before) (x.level + 1) (set latest x.level n)
kept_on x before top latest n ps h k e l m = go (eqb l x.level) refl
  where
    go : (b : Bool) → eqb l x.level ≡ b → Open (x ∷ before) l (get_or (set latest x.level n) l 0)
    go true q =
        let z : l ≡ x.level = eqb-true _ _ q in
        rw (z, get_or-set_same latest x.level n 0 k, e) (here x before)
    go false q =
        let z : l ≡ x.level → ⊥ = eqb-false _ _ q in
        rw (get_or-set_other latest x.level l n 0 z) (there x (ps l (omega arith)) (omega arith))
