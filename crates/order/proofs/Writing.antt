-- Words written to the front of a lent output, or to a part of it: what the output is then, and what the call answers. Assumes nothing.
use mathlib.Core.Path.{◌≡◌, refl, ap, ◌∙◌}
use mathlib.Core.List.{List, [], ◌∷◌, ◌++◌, append_assoc, append-nil}
use mathlib.Core.Bool.{true}
use Prim.Native.Nat.{ℕ, suc, ◌+◌, ◌-◌, ◌≤◌, ◌<◌}
use native.Mathlib.Omega.{arith}
use borrow.Author.Tests.{le-leb, lt-leb}
use lib.Dec.{leb}
use lib.ListN.{length, take, drop, get_or, set, length-drop, drop_of_length-le}
use lib.Seq.{take_all as whole_take, drop-cons, drop-drop}
use native.Mathlib.Numerals.{add-one, add-two}
use Rattle.words.specs.Base.{when◌then◌else◌, over}
use Rattle.words.proofs.Tests.{either_way}
use Rattle.figures.specs.Numbers.{done, short_output}
use Rattle.figures.specs.Answers.{wrote}
use Rattle.figures.specs.declared.Written.{Written}
use Rattle.order.specs.Answers.{writing, write, Writing}

-- Two words stand at a place.
pub two : (s : List ℕ) (at : ℕ) → at + 2 ≤ length s → drop at s ≡ get_or s at 0 ∷ get_or s (at + 1) 0 ∷ drop (at + 2) s
two s at h =
    let a : at < length s = omega arith in
    let b : suc at < length s = omega arith in
    rw (add-one at, add-two at) (drop-cons s at 0 a ∙ ap (λ (l : List ℕ). get_or s at 0 ∷ l) (drop-cons s (suc at) 0 b))

-- The first two words are written.
pub set-two : (l : List ℕ) (a b : ℕ) → 2 ≤ length l → set (set l 0 a) 1 b ≡ a ∷ b ∷ drop 2 l
set-two [] a b h = absurd (omega arith)
set-two (x ∷ []) a b h = absurd (omega arith)
set-two (x ∷ y ∷ l) a b h = refl

-- The part of out behind len words comes back with w written over its front.
pub part-back : (len : ℕ) (out w last : List ℕ) → len + length w ≤ length out → last ≡ over w (take (length out - len) (drop len out)) → take len out ++ (last ++ drop (length out - len) (drop len out)) ≡ (take len out ++ w) ++ drop (len + length w) out
part-back len out w last h e =
    let n : length (drop len out) ≤ length out - len = omega (arith, length-drop len out) in
    let a : take (length out - len) (drop len out) ≡ drop len out = whole_take (length out - len) (drop len out) n in
    let b : drop (length out - len) (drop len out) ≡ [] = drop_of_length-le (drop len out) n in
    let c : last ≡ w ++ drop (len + length w) out = e ∙ rw a (ap (λ (l : List ℕ). w ++ l) (drop-drop (length w) len out)) in
    rw (b, c) (simp (append_assoc, append-nil))

-- ---- the answer r of a call that writes the words w to the front of l

module _ (w l : List ℕ) (r : Written) where
  -- There are none.
  pub no_words : r ≡ wrote done 0 → w ≡ [] → writing r l ≡ write w l
  unfolding write when◌then◌else◌
  no_words a e = let z : leb 0 (length l) ≡ true = le-leb 0 (length l) (omega arith) in rw (a, e, z) refl

  -- They have no room.
  pub no_output_room : r ≡ wrote short_output 0 → length l < length w → writing r l ≡ write w l
  unfolding write when◌then◌else◌
  no_output_room a h = rw (a, lt-leb (length w) (length l) h) refl

  -- They have room, and were written.
  pub has_room : (n : ℕ) (last : List ℕ) → r ≡ wrote done n → length w ≡ n → n ≤ length l → last ≡ over w l → writing r last ≡ write w l
  unfolding write when◌then◌else◌
  has_room n last a e h o = let z : leb (length w) (length l) ≡ true = le-leb (length w) (length l) (omega arith) in rw (a, o, z, e) refl

-- ---- the figures of what is answered

module _ (new out : List ℕ) where
  -- The line is 0.
  pub write-line : (write new out).answer.line ≡ 0
  unfolding write
  write-line = either_way (λ (w : Writing). w.answer.line ≡ 0) (leb (length new) (length out)) _ _ refl refl

  -- No more is counted than there is to write.
  pub write-count : (write new out).answer.count ≤ length new
  unfolding write
  write-count = either_way (λ (w : Writing). w.answer.count ≤ length new) (leb (length new) (length out)) _ _ (omega arith) (omega arith)
