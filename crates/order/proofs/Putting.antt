-- The cut of a subtree written line by line over the front of a lent output. Assumes nothing.
use Prim.Native.Nat.{ℕ, ◌+◌, ◌-◌, ◌*◌, ◌≤◌, ◌<◌}
use mathlib.Core.Path.{◌≡◌, refl, ap, sym, ◌∙◌}
use mathlib.Core.List.{List, [], ◌∷◌, ◌++◌, append_assoc}
use native.Mathlib.Omega.{arith}
use lib.Dec.{leb}
use lib.ListN.{length, drop, get_or, set, length-append, length-drop}
use lib.Seq.{set_at}
use Rattle.words.specs.Base.{when◌then◌else◌, over}
use Rattle.order.specs.Trees.{node, subtrees}
use Rattle.order.specs.Standing.{cut_of}
use Rattle.order.specs.Levels.{LinesLevelled}
use Rattle.order.specs.Spans.{GoneOver}
use Rattle.order.proofs.Writing.{two}
use Rattle.order.proofs.LineSpans.{LineOpen}
use Rattle.order.proofs.Walking.{Walking, Stepping, walk_start, walk_done, walk_fits, stepping}

-- Two words written behind others.
write_two : (got out : List ℕ) (n c v : ℕ) → length got ≡ n → n + 2 ≤ length out → set (set (over got out) n c) (n + 1) v ≡ over (got ++ (c ∷ v ∷ [])) out
write_two got out n c v e h =
    let x : ℕ = get_or out n 0 in
    let y : ℕ = get_or out (n + 1) 0 in
    let r : List ℕ = drop (n + 2) out in
    let was : over got out ≡ got ++ (x ∷ y ∷ r) = ap (λ (m : ℕ). got ++ drop m out) e ∙ ap (λ (l : List ℕ). got ++ l) (two out n h) in
    let one : set (over got out) n c ≡ (got ++ (c ∷ [])) ++ (y ∷ r) =
    ap (λ (l : List ℕ). set l n c) was ∙ set_at got x (y ∷ r) c n e ∙ sym (append_assoc got (c ∷ []) (y ∷ r)) in
    let z : length (got ++ (c ∷ v ∷ [])) ≡ n + 2 = length-append got (c ∷ v ∷ []) ∙ ap (λ (m : ℕ). m + 2) e in
    ap (λ (l : List ℕ). set l (n + 1) v) one
    ∙ set_at (got ++ (c ∷ [])) y r v (n + 1) (length-append got (c ∷ []) ∙ ap (λ (m : ℕ). m + 1) e)
    ∙ append_assoc got (c ∷ []) (v ∷ r)
    ∙ sym (append_assoc got (c ∷ v ∷ []) r)
    ∙ ap (λ (m : ℕ). (got ++ (c ∷ v ∷ [])) ++ drop m out) (sym z)

-- The cut at d of the subtree of a line, whose level is `own`, is written up to line `at`, over the front of out₀, which has room for it.
pub record Putting (os : List ℕ) (line own d end : ℕ) (out₀ out : List ℕ) (at count : ℕ) : Type 0 where
  got : List ℕ
  walking : Walking os line own d end at got
  size : length got ≡ count
  is : out ≡ over got out₀
  room : length (cut_of os (line * 2) d) ≤ length out₀

-- Before the loop nothing is written.
pub put_start : (os : List ℕ) (line d end : ℕ) (out : List ℕ) (p : LineOpen os line) → end ≡ line + length (subtrees (node p.code p.row))
    → length (cut_of os (line * 2) d) ≤ length out → Putting os line p.level d end out out line 0
put_start os line d end out p e room = record { got = []; walking = walk_start os line d end p e; size = refl; is = refl; room = room }

module _ (os : List ℕ) (line own d end : ℕ) (out₀ out : List ℕ) (at many : ℕ) (p : Putting os line own d end out₀ out at many) where
  -- out has as many words as it had.
  pub put_length : length out ≡ length out₀
  put_length =
      ap length p.is
      ∙ length-append p.got (drop (length p.got) out₀)
      ∙ omega (arith, walk_fits _ _ _ _ _ _ _ p.walking, p.room, length-drop (length p.got) out₀)

  -- Past the last line the cut is written.
  pub put_done : end ≤ at → (many ≡ length (cut_of os (line * 2) d)) × (out ≡ over (cut_of os (line * 2) d) out₀)
  put_done h =
      let c : cut_of os (line * 2) d ≡ p.got = walk_done _ _ _ _ _ _ _ p.walking h in
      (sym p.size ∙ ap length (sym c), p.is ∙ ap (λ (l : List ℕ). over l out₀) (sym c))

-- ---- by what is read

-- What is read at a line that is left, and what is so once its two words are written.
pub record Turning (os ss ls : List ℕ) (line own d end : ℕ) (out₀ out : List ℕ) (at many : ℕ) : Type 0 where
  got : List ℕ
  pub step : Stepping os ss ls line own d end at got
  pub room : many + 2 ≤ length out₀
  pub same : length out ≡ length out₀
  pub next : (v at' : ℕ) → v ≡ (when leb d (get_or ls at 0 - own) then 0 else get_or os (at * 2 + 1) 0) → at' ≡ (when leb d (get_or ls at 0 - own) then get_or ss (at * 2) 0 else at + 1)
      → Putting os line own d end out₀ (set (set out many (get_or os (at * 2) 0)) (many + 1) v) at' (many + 2)

-- While a line is left.
pub turning : (os ss ls : List ℕ) (line own d end : ℕ) (out₀ out : List ℕ) (at many : ℕ) → GoneOver os ss → LinesLevelled os ls
    → Putting os line own d end out₀ out at many → at < end → Turning os ss ls line own d end out₀ out at many
turning os ss ls line own d end out₀ out at many over levelled p h =
    let s = stepping os ss ls line own d end at p.got over levelled p.walking h in
    let room : many + 2 ≤ length out₀ = fits s in
    record {
      got = p.got;
      step = s;
      room = room;
      same = put_length os line own d end out₀ out at many p;
      next = λ v at' e f.
          let two : List ℕ = get_or os (at * 2) 0 ∷ v ∷ [] in
          record {
            got = p.got ++ two;
            walking = s.next v at' e f;
            size = length-append p.got two ∙ ap (λ (n : ℕ). n + 2) p.size;
            is = ap (λ (ws : List ℕ). set (set ws many (get_or os (at * 2) 0)) (many + 1) v) p.is ∙ write_two p.got out₀ many (get_or os (at * 2) 0) v p.size room;
            room = p.room;
          };
    }
  where
    -- There is room for its two words.
    fits : Stepping os ss ls line own d end at p.got → many + 2 ≤ length out₀
    fits s =
        let w = s.next _ _ refl refl in
        omega (arith, p.room, p.size, walk_fits _ _ _ _ _ _ _ w, length-append p.got (get_or os (at * 2) 0 ∷ (when leb d (get_or ls at 0 - own) then 0 else get_or os (at * 2 + 1) 0) ∷ []))
