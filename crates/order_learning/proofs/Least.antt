-- Document 000's Theorem IV.1: what is learnt from a set of orders is the least that has them (a, b), grows with the set (c), shrinks as k grows (d), and is
-- the set itself where k-2 is at least the depth of every order (e). Of finite and other sets alike. Assumes nothing.
use Prim.Native.Nat.{ℕ, zero, suc, ◌-◌, ◌≤◌, ◌<◌}
use mathlib.Core.Path.{◌≡◌, refl, ap, sym, subst, ◌∙◌}
use mathlib.Core.List.{[]}
use native.Mathlib.Decide.{dec_lt}
use native.Mathlib.Omega.{arith}
use Rattle.order.specs.Trees.{Tree, depth, cut}
use Rattle.order.specs.Paper.{rooted_at, Subtree, IsR, IsP}
use Rattle.order.proofs.Cutting.{cut-shallow, cut-cut}
use Rattle.order.proofs.Paper.{subtree-depth, cut-is_r, r_cut}
use Rattle.order_learning.specs.Learning.{OneOf, LetIn, Learnt}

-- Three sets that have all that three others have let in all that these let in.
pub widened : (k : ℕ) {R L P R' L' P' : Tree → Type 0} → ((u : Tree) → R u → R' u) → ((u : Tree) → L u → L' u) → ((u : Tree) → P u → P' u) → (t : Tree) → LetIn k R L P t → LetIn k R' L' P' t
widened k tops lows middles t l = record {
  top = λ u r. tops u (l.top u r);
  lows = λ u x. lows u (l.lows u x);
  middles = λ u p. middles u (l.middles u p);
}

module _ (k : ℕ) (S : Tree → Type 0) where
  -- a) "S ⊆ T_k(S)": every order of the set is learnt from it.
  pub includes : (t : Tree) → S t → Learnt k S t
  includes t s = record {
    top = λ u r. record { order = t; among = s; has = r };
    lows = λ u l. record { order = t; among = s; has = l };
    middles = λ u p. record { order = t; among = s; has = p };
  }

  -- b) "T_k(S) is the smallest k-TS tree set containing S": any three sets whose forms include S include all that is learnt from it.
  pub least : (R L P : Tree → Type 0) → ((s : Tree) → S s → LetIn k R L P s) → (t : Tree) → Learnt k S t → LetIn k R L P t
  least R L P h = widened k (λ u x. (h x.order x.among).top u x.has) (λ u x. (h x.order x.among).lows u x.has) (λ u x. (h x.order x.among).middles u x.has)

-- c) "S' ⊂ S ⇒ T_k(S') ⊆ T_k(S)": what is learnt from fewer orders is learnt from more.
pub more : (k : ℕ) (S M : Tree → Type 0) → ((s : Tree) → S s → M s) → (t : Tree) → Learnt k S t → Learnt k M t
more k S M h = least k S _ _ _ (λ s x. includes k M s (h s x))

-- A tree is a subtree of itself.
itself : (t : Tree) → Subtree t t
unfolding rooted_at
itself t = record { position = []; is = refl }

module _ (k : ℕ) (S : Tree → Type 0) (two : 2 ≤ k) (t : Tree) where
  -- d) "T_{k+1}(S) ⊆ T_k(S)": what is learnt at k+1 is learnt at k.
  pub one_less : Learnt (suc k) S t → Learnt k S t
  one_less l = record {
    top = λ u r.
        let v : Tree = cut t (suc k - 1 - 1) in
        let x = l.top v (cut-is_r t (suc k - 1) (omega arith)) in
        let s : Tree = x.order in
        let e : v ≡ cut s (suc k - 1 - 1) = r_cut (suc k - 1) (omega arith) x.has in
        let is : u ≡ cut s (k - 1 - 1) =
        r_cut (k - 1) (omega arith) r ∙ sym (cut-cut t (suc k - 1 - 1) (k - 1 - 1) (omega arith))
        ∙ ap (λ (w : Tree). cut w (k - 1 - 1)) e ∙ cut-cut s (suc k - 1 - 1) (k - 1 - 1) (omega arith) in
        record { order = s; among = x.among; has = subst (IsR (k - 1) s) (sym is) (cut-is_r s (k - 1) (omega arith)) };
    lows = λ u r.
        let x = l.lows u (record { subtree = r.subtree; shallow = omega (arith, r.shallow) }) in
        record { order = x.order; among = x.among; has = record { subtree = x.has.subtree; shallow = r.shallow } };
    middles = λ u p.
        elim (dec_lt (k - 1) (depth p.uncut)) [
          | yes h ↦ deeper u p h
          | no h ↦ just u p (omega (arith, p.deep))
        ];
  }
    where
      -- A middle part of a subtree that is at least k deep is the cut of its middle part at k+1.
      deeper : (u : Tree) (p : IsP k t u) → k - 1 < depth p.uncut → OneOf S (λ s. IsP k s u)
      deeper u p h =
          let v : Tree = p.uncut in
          let d : ℕ = suc k - 1 in
          let q : IsP (suc k) t (cut v d) = record { some_middle = omega (arith, subtree-depth p.subtree); uncut = v; subtree = p.subtree; deep = omega arith; is = cut-is_r v (suc k) (omega arith) } in
          let x = l.middles (cut v d) q in
          let w : Tree = x.has.uncut in
          let e : cut v d ≡ cut w d = r_cut (suc k) (omega arith) x.has.is in
          let is : u ≡ cut w (k - 1) =
          r_cut k (omega arith) p.is ∙ sym (cut-cut v d (k - 1) (omega arith)) ∙ ap (λ (y : Tree). cut y (k - 1)) e ∙ cut-cut w d (k - 1) (omega arith) in
          record {
            order = x.order;
            among = x.among;
            has = record {
              some_middle = omega (arith, subtree-depth x.has.subtree, x.has.deep);
              uncut = w;
              subtree = x.has.subtree;
              deep = omega (arith, x.has.deep);
              is = subst (IsR k w) (sym is) (cut-is_r w k (omega arith));
            };
          }

      -- One that is just k-1 deep is a low part at k+1.
      just : (u : Tree) (p : IsP k t u) → depth p.uncut ≡ k - 1 → OneOf S (λ s. IsP k s u)
      just u p h =
          let x = l.lows p.uncut (record { subtree = p.subtree; shallow = omega arith }) in
          record {
            order = x.order;
            among = x.among;
            has = record { some_middle = omega (arith, subtree-depth x.has.subtree); uncut = p.uncut; subtree = x.has.subtree; deep = p.deep; is = p.is };
          }

  -- e) "if k > 1 + max_{t ∈ S} depth(t), then T_k(S) = S": where k-2 is at least the depth of every order, only these are learnt.
  pub only-these : ((s : Tree) → S s → depth s ≤ k - 2) → Learnt k S t → S t
  only-these h l =
      elim (dec_lt (k - 2) (depth t)) [
        | yes g ↦ absurd (none g)
        | no g ↦ same (omega arith)
      ]
    where
      -- No tree that is deeper has a middle part to be made of.
      none : k - 2 < depth t → ⊥
      none g =
          let p : IsP k t (cut t (k - 1)) = record { some_middle = omega arith; uncut = t; subtree = itself t; deep = omega arith; is = cut-is_r t k (omega arith) } in
          let x = l.middles (cut t (k - 1)) p in
          let y : depth x.order ≤ k - 2 = h x.order x.among in
          omega (arith, x.has.some_middle)

      -- Any other is its own top, and so is the order that has it.
      same : depth t ≤ k - 2 → S t
      same g =
          let x = l.top (cut t (k - 1 - 1)) (cut-is_r t (k - 1) (omega arith)) in
          let s : Tree = x.order in
          let y : depth s ≤ k - 2 = h s x.among in
          let e : t ≡ s =
          sym (cut-shallow t (k - 1 - 1) (omega arith)) ∙ r_cut (k - 1) (omega arith) x.has ∙ cut-shallow s (k - 1 - 1) (omega arith) in
          subst S (sym e) x.among

-- c) and d) together: what is learnt from fewer orders at a greater k is learnt from more at a lower one.
pub fewer-deeper : (j k : ℕ) (S M : Tree → Type 0) → 2 ≤ k → k ≤ j → ((s : Tree) → S s → M s) → (t : Tree) → Learnt j S t → Learnt k M t
fewer-deeper zero k S M two h all t l = absurd (omega arith)
fewer-deeper (suc j) k S M two h all t l =
    elim (dec_lt j k) [
      | yes g ↦ let e : suc j ≡ k = omega arith in more k S M all t (subst (λ (i : ℕ). Learnt i S t) e l)
      | no g ↦ fewer-deeper j k S M two (omega arith) all t (one_less j S (omega arith) t l)
    ]
