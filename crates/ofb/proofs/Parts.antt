-- The part of an order that is handed out as the subtree of a line: it lies within an order of at most 128 words, and its words stand there. Assumes nothing.
use Prim.Native.Nat.{ℕ, ◌+◌, ◌-◌, ◌*◌, ◌≤◌}
use mathlib.Core.Path.{◌≡◌, refl, sym, ap, ◌∙◌}
use mathlib.Core.List.{List}
use native.Mathlib.Omega.{arith}
use lib.ListN.{length, take, drop}
use Rattle.figures.specs.Limits.{most_words}
use Rattle.order.specs.Standing.{Place, Refused, Lacking, At, place_of}
use Rattle.order.specs.Answers.{Piece, no_piece, subtree_of}
use Rattle.order.proofs.Lines.{HasLine, placed, StandsAt, stands_at}
use Rattle.order.proofs.Orders.{two_words}
use Rattle.order.proofs.Spots.{spot_within, spot_part}
use Rattle.order.proofs.Answers.{subtree-refused, subtree_lacks, subtree-is}

module _ (os : List ℕ) (line : ℕ) where
  -- Where the part lies: it is empty, at the front, or it stands where the line does.
  data Lies : Type 0 where
    nowhere : subtree_of os line ≡ no_piece → Lies
    there : (at : ℕ) → HasLine os line at → StandsAt os line at → Lies

  -- Of any words and any line it is one or the other.
  lies : Lies
  lies = go (place_of os line) refl
    where
      -- By the line's place.
      go : (p : Place) → place_of os line ≡ p → Lies
      go (Refused n) e = nowhere (subtree-refused os line n (placed os line _ _ refl e))
      go Lacking e = nowhere (subtree_lacks os line (placed os line _ _ refl e))
      go (At at) e = there at (placed os line _ _ refl e) (stands_at os line at e)

  -- A part that is not empty: there is such a line, and the part lies behind the two words of each line before it, within 128 words.
  pub record Within : Type 0 where
    pub some : 1 ≤ line
    pub start : (subtree_of os line).start ≡ (line - 1) * 2
    pub short : (line - 1) * 2 + length (subtree_of os line).words ≤ most_words

  -- An empty part lies at the front.
  pub part_none : length (subtree_of os line).words ≡ 0 → (subtree_of os line).start ≡ 0
  part_none z = go lies
    where
      -- By where it lies.
      go : Lies → (subtree_of os line).start ≡ 0
      go (nowhere e) = ap (λ (p : Piece). p.start) e
      go (there at h s) = absurd (omega (arith, two_words h.spot.tree, ap (λ (p : Piece). length p.words) (subtree-is os line at h s.word)))

  -- Any other is as said.
  pub part-some : (length (subtree_of os line).words ≡ 0 → ⊥) → Within
  part-some n = go lies
    where
      -- By where it lies.
      go : Lies → Within
      go (nowhere e) = absurd (n (ap (λ (p : Piece). length p.words) e))
      go (there at h s) =
          let e = subtree-is os line at h s.word in
          let l : at ≤ length os = omega (arith, s.word, s.has) in
          record {
            some = omega (arith, s.some);
            start = ap (λ (p : Piece). p.start) e ∙ s.word;
            short = omega (arith, s.word, h.short, spot_within os at _ h.spot l, ap (λ (p : Piece). length p.words) e);
          }

  -- The words that stand where a part lies.
  abbrev pub standing : Piece → List ℕ
  standing p = take (length p.words) (drop p.start os)

  -- The words of the part stand where it lies.
  pub part-stands : standing (subtree_of os line) ≡ (subtree_of os line).words
  part-stands = go lies
    where
      -- By where it lies.
      go : Lies → standing (subtree_of os line) ≡ (subtree_of os line).words
      go (nowhere e) = ap standing e ∙ ap (λ (p : Piece). p.words) (sym e)
      go (there at h s) =
          let e = subtree-is os line at h s.word in
          ap standing e ∙ spot_part os at _ h.spot ∙ ap (λ (p : Piece). p.words) (sym e)
