-- Which rules fit an order: the test of `rule_fits` is 02's sentence by document 000's l and p, and can be made line by line, on the cuts at k-1 of the
-- order's subtrees. Assumes nothing.
use Prim.Native.Nat.{ℕ, ◌-◌, ◌≤◌}
use mathlib.Core.Path.{◌≡◌, refl, ap, sym, ◌∙◌}
use mathlib.Core.Bool.{true}
use mathlib.Core.Logic.{inl, inr}
use mathlib.Core.List.Memᴰ
use mathlib.Core.List.Memᴰ.{head as here}
use mathlib.Core.List.Memᴰ.{tail as there}
use mathlib.Core.List.{List, [], ◌∷◌, ◌++◌, map}
use native.Mathlib.Decide.{dec_lt}
use native.Mathlib.Omega.{arith}
use Rattle.words.specs.Base.{when◌then◌else◌, same_words, ◌∈◌}
use Rattle.words.proofs.Tests.{no_test, by_test, either, same-words, words_same}
use Rattle.order.specs.Trees.{Tree, words, depth, cut, subtrees}
use Rattle.order.specs.Parts.{low_parts, middle_parts}
use Rattle.order.specs.Paper.{IsL, IsP}
use Rattle.order.proofs.Cutting.{cut-shallow}
use Rattle.order.proofs.Paper.{subtree-from, subtree-to, subtree-depth, cut-is_r, r_cut, low-is_l, l_is-low, middle-is_p, p_is-middle}
use Rattle.book_choosing.specs.Rules.{ImageRule}
use Rattle.book_choosing.specs.Choosing.{is_one_of, rule_fits}
use Rattle.book_choosing.specs.Choices.{FitsBy, as_low, as_middle}

-- ---- the words of one of some trees

-- A tree of the list whose words these are.
abbrev OneOf : List ℕ → List Tree → Type 0
OneOf ws ts = (u : Tree) × (u ∈ ts) × (words u ≡ ws)

-- Words that pass are those of a tree of the list,
one_of : (ws : List ℕ) (ts : List Tree) → is_one_of ws ts ≡ true → OneOf ws ts
unfolding is_one_of when◌then◌else◌
one_of ws [] e = no_test e
one_of ws (t ∷ ts) e =
    by_test (same_words (words t) ws)
    (λ h. (t, here refl, words_same (words t) ws h))
    (λ h. let r = one_of ws ts (rw h at e) in (r.0, there r.1, r.2))

-- and the words of a tree of the list pass.
of_one : {u : Tree} {ts : List Tree} (ws : List ℕ) → u ∈ ts → words u ≡ ws → is_one_of ws ts ≡ true
unfolding is_one_of when◌then◌else◌
of_one {u} {ts} ws (here {x} e) s = let h : same_words (words x) ws ≡ true = rw (sym s ∙ ap words e) (same-words (words x)) in rw h
of_one {u} {ts} ws (there {x} m) s = by_test (same_words (words x) ws) (λ h. rw h) (λ h. rw h (of_one ws m s))

-- ---- fitting

-- A rule that passes the test fits, by document 000,
pub fits-is : (k : ℕ) (t : Tree) (r : ImageRule) → 2 ≤ k → rule_fits k t r ≡ true → FitsBy k t r
unfolding rule_fits
fits-is k t r two e =
    let o = one_of r.tree (low_parts k t ++ middle_parts k t) e in
    elim (Memᴰ.append_cases (low_parts k t) o.1) [
      | inl m ↦ as_low o.0 (sym o.2) (low-is_l k two m)
      | inr m ↦ as_middle o.0 (sym o.2) (middle-is_p k two m)
    ]

-- and one that fits passes it.
pub is-fits : (k : ℕ) (t : Tree) (r : ImageRule) → 2 ≤ k → FitsBy k t r → rule_fits k t r ≡ true
unfolding rule_fits
is-fits k t r two (as_low u s l) = of_one r.tree (Memᴰ.append_left (middle_parts k t) (l_is-low k two l)) (sym s)
is-fits k t r two (as_middle u s p) = of_one r.tree (Memᴰ.append_right (low_parts k t) (p_is-middle k two p)) (sym s)

-- ---- line by line

module _ (k : ℕ) (t : Tree) (two : 2 ≤ k) where
  -- The cut at k-1 of a subtree is one of the order's low or middle parts, by its depth,
  cut-part : {s : Tree} → s ∈ subtrees t → cut s (k - 1) ∈ low_parts k t ++ middle_parts k t
  cut-part {s} m =
      let from = subtree-from t m in
      elim (dec_lt (k - 2) (depth s)) [
        | yes h ↦ Memᴰ.append_right (low_parts k t) (p_is-middle k two (record {
          some_middle = omega (arith, subtree-depth from);
          uncut = s;
          subtree = from;
          deep = omega arith;
          is = cut-is_r s k (omega arith);
        }))
        | no h ↦ Memᴰ.append_left (middle_parts k t)
            (Memᴰ.cast (cut-shallow s (k - 1) (omega arith)) (l_is-low k two (record { subtree = from; shallow = omega arith })))
      ]

  -- and each of these is one of those cuts: a low part is its own, being at most k-2 deep.
  part_cut : {u : Tree} → u ∈ low_parts k t ++ middle_parts k t → u ∈ map (λ s. cut s (k - 1)) (subtrees t)
  part_cut {u} m =
      elim (Memᴰ.append_cases (low_parts k t) m) [
        | inl n ↦ let l : IsL (k - 1) t u = low-is_l k two n in
            Memᴰ.cast (sym (cut-shallow u (k - 1) (omega arith))) (Memᴰ.map (λ s. cut s (k - 1)) (subtree-to l.subtree))
        | inr n ↦ let p : IsP k t u = middle-is_p k two n in
            Memᴰ.cast (r_cut k (omega arith) p.is) (Memᴰ.map (λ s. cut s (k - 1)) (subtree-to p.subtree))
      ]

-- Words are those of a low or middle part of an order exactly if they are those of the cut at k-1 of one of its subtrees.
pub cuts_fit : (k : ℕ) (t : Tree) (ws : List ℕ) → 2 ≤ k
    → is_one_of ws (map (λ s. cut s (k - 1)) (subtrees t)) ≡ is_one_of ws (low_parts k t ++ middle_parts k t)
cuts_fit k t ws two = either _ _ there-from here-from
  where
    cuts : List Tree
    cuts = map (λ s. cut s (k - 1)) (subtrees t)

    -- By the subtree that is cut.
    there-from : is_one_of ws cuts ≡ true → is_one_of ws (low_parts k t ++ middle_parts k t) ≡ true
    there-from e =
        let o = one_of ws cuts e in
        let q = Memᴰ.of_map (λ s. cut s (k - 1)) (subtrees t) o.1 in
        of_one ws (cut-part k t two q.1) (ap words q.2 ∙ o.2)

    -- By the part.
    here-from : is_one_of ws (low_parts k t ++ middle_parts k t) ≡ true → is_one_of ws cuts ≡ true
    here-from e = let o = one_of ws (low_parts k t ++ middle_parts k t) e in of_one ws (part_cut k t two o.1) o.2
