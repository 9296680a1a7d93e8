-- What the public functions of `order_check`, `order_cuts` and `order_parts` answer, by where the line stands. Assumes nothing.
use mathlib.Core.Path.{◌≡◌, refl, sym, ap, ◌∙◌}
use mathlib.Core.List.{List, []}
use Prim.Native.Nat.{ℕ, ◌+◌, ◌-◌, ◌*◌, ◌≤◌}
use native.Mathlib.Omega.{arith}
use borrow.Author.Tests.{leb-true}
use lib.ListN.{length, take, drop}
use Rattle.words.proofs.Tests.{by_test}
use Rattle.words.specs.Base.{when◌then◌else◌}
use Rattle.figures.specs.Numbers.{done}
use Rattle.figures.specs.Answers.{wrote}
use Rattle.order.specs.Trees.{Tree, words, depth, cut}
use Rattle.order.specs.Reading.{by_found, refused, by_order, order_of}
use Rattle.order.specs.Parts.{is_low, middle, part_of}
use Rattle.order.specs.Standing.{cut_of}
use Rattle.order.specs.Answers.{piece, no_piece, subtree_of, refuse, write, cut_into_of, part_writing, no_part, of_kind, part_into_of}
use Rattle.order.specs.declared.Kind.TheVariants.{Low, Middle}
use Rattle.order.proofs.Cutting.{cut-shallow}
use Rattle.order.proofs.Writing.{no_words}
use Rattle.order.proofs.Lines.{cut-spot, HasLine, LacksLine}
use Rattle.order.proofs.Spots.{spot_within, spot_words}

-- ---- an order that is refused

module _ (s : List ℕ) (line n : ℕ) (stop : order_of s ≡ refused n) where
  -- An empty part is handed out.
  pub subtree-refused : subtree_of s line ≡ no_piece
  unfolding subtree_of by_order
  subtree-refused = rw stop

  -- The number is handed on, and nothing is written.
  pub cut-refused : (d : ℕ) (out : List ℕ) → cut_into_of s line d out ≡ refuse n out
  unfolding cut_into_of by_order
  cut-refused d out = rw stop

  -- The number is handed on, and there is no part.
  pub part-refused : (k : ℕ) (out : List ℕ) → part_into_of s line k out ≡ part_writing (no_part n) out
  unfolding part_into_of by_order
  part-refused k out = rw stop

-- ---- a line that the order lacks

module _ (s : List ℕ) (line : ℕ) (lack : LacksLine s line) where
  -- An empty part is handed out.
  pub subtree_lacks : subtree_of s line ≡ no_piece
  unfolding subtree_of by_order by_found
  subtree_lacks = rw (lack.is, lack.lacks)

  -- Nothing is written.
  pub cut_lacks : (d : ℕ) (out : List ℕ) → cut_into_of s line d out ≡ refuse done out
  unfolding cut_into_of by_order by_found
  cut_lacks d out = rw (lack.is, lack.lacks) (sym (no_words [] out (wrote done 0) refl refl))

  -- There is no part.
  pub part_lacks : (k : ℕ) (out : List ℕ) → part_into_of s line k out ≡ part_writing (no_part done) out
  unfolding part_into_of by_order by_found
  part_lacks k out = rw (lack.is, lack.lacks)

-- ---- a line that stands at a word

-- The part's words are the cut at k-1 for either kind.
part-words : (k : ℕ) (t : Tree) → (part_of k t).tree ≡ cut t (k - 1)
unfolding part_of is_low middle when◌then◌else◌
part-words k t = by_test (is_low k t) (λ e. rw e (sym (cut-shallow t (k - 1) (omega (arith, leb-true (depth t) (k - 2) e))))) (λ e. rw e refl)

-- The kind of the part is told by whether the subtree is low.
part-kind : (k : ℕ) (t : Tree) → (part_of k t).kind ≡ (when is_low k t then Low else Middle)
unfolding part_of when◌then◌else◌
part-kind k t = by_test (is_low k t) (λ h. rw h refl) (λ h. rw h refl)

module _ (s : List ℕ) (line at : ℕ) (has : HasLine s line at) where
  -- The tree there ends within the order.
  pub subtree-within : (e : ℕ) → at ≤ length s → e ≡ at + length (words has.spot.tree) → (at ≤ e) × (e ≤ length s)
  subtree-within e h z = (omega arith, omega (arith, spot_within s at _ has.spot h))

  -- Its words are handed out, from there on.
  pub subtree-is : at ≡ (line - 1) * 2 → subtree_of s line ≡ piece at (words has.spot.tree)
  unfolding subtree_of by_order by_found
  subtree-is y = rw (has.is, has.spot.is, y) refl

  -- They are the order's words up to where it ends.
  pub subtree-has : at ≡ (line - 1) * 2 → (e : ℕ) → e ≡ at + length (words has.spot.tree) → subtree_of s line ≡ piece at (take (e - at) (drop at s))
  subtree-has y e z = subtree-is y ∙ ap (piece at) (sym (spot_words s at _ has.spot e z))

  -- The cut of the tree there is written.
  pub cut_has : (d : ℕ) (out : List ℕ) → cut_into_of s line d out ≡ write (cut_of s at d) out
  unfolding cut_into_of by_order by_found
  cut_has d out = rw (has.is, has.spot.is, cut-spot s at _ has.spot d) refl

  -- The kind and the words are those of the tree there.
  pub part-has : (k : ℕ) (out : List ℕ) → part_into_of s line k out ≡ of_kind (when is_low k has.spot.tree then Low else Middle) (write (cut_of s at (k - 1)) out)
  unfolding part_into_of by_order by_found
  part-has k out =
      let t : Tree = has.spot.tree in
      rw (has.is, has.spot.is, cut-spot s at _ has.spot (k - 1), part-kind k t, part-words k t) refl
