-- The lines one after the other: what is still to be judged from a line on, what each line adds to it, and what is told of its part. Assumes nothing.
use Prim.Native.Nat.{ℕ, suc, ◌+◌, ◌-◌, ◌*◌, ◌/◌, ◌<◌, ◌≤◌}
use mathlib.Core.Path.{◌≡◌, refl, ap, sym, ◌∙◌}
use mathlib.Core.Bool.{Bool, true, false}
use mathlib.Core.List.{List, ◌∷◌}
use native.Mathlib.Numerals.{add-one}
use native.Mathlib.Omega.{arith}
use lib.ListN.{length, take, drop}
use Rattle.words.specs.Base.{when◌then◌else◌}
use Rattle.figures.specs.Numbers.{done, low_unknown, middle_unknown}
use Rattle.section.specs.Entries.{Entry, entries, has, look}
use Rattle.section.specs.Near.{near_of, near_in, place_at}
use Rattle.section.specs.declared.Found.TheVariants.{Absent}
use Rattle.section.specs.declared.Neighbours.{Neighbours}
use Rattle.section.proofs.Near.{near-is}
use Rattle.order.specs.Trees.{Tree, words, subtrees}
use Rattle.order.specs.Reading.{found, by_found, by_order, cause_of}
use Rattle.order.specs.Parts.{is_low, middle, part_of}
use Rattle.order.proofs.Causes.{Passed, has-tree}
use Rattle.order.proofs.Lines.{from_spot, tree-next}
use Rattle.book.specs.Book.{Book}
use Rattle.book_judging.specs.Judging.{knows, verdict_on}
use Rattle.book_judging.specs.Expecting.{near_part, expected_on}
use Rattle.book_judging.specs.Seeking.{unknown_line, unknown_within, plainly_of, judged_line, JudgedAt, looked_up_in, key_of, Seeks, unknown_of}
use Rattle.book_judging.specs.declared.Judgement.{Judgement}
use Rattle.book_judging.specs.declared.Sought.{Sought}
use Rattle.order.proofs.Spots.{line_at}

-- Of an order's tree, the first unknown line of a range is that of its subtrees.
within-tree : (b : Book) (os : List ℕ) (t : Tree) (line to : ℕ) → Passed os t → unknown_within b os line to ≡ unknown_line b (suc line) (take (to - line) (drop line (subtrees t)))
unfolding unknown_within by_order
within-tree b os t line to p = rw p.is

-- Past the last line of the range none is unknown.
pub within-last : (b : Book) (os : List ℕ) (line to : ℕ) → cause_of os ≡ done → to ≤ line → unknown_within b os line to ≡ 0
unfolding unknown_line
within-last b os line to e h =
    let x = has-tree os e in
    let n : to - line ≡ 0 = omega arith in
    within-tree b os x.tree line to x.passes ∙ rw n

-- Whatever is asked of a subtree's part is asked of the section of its kind.
asked_part : {A : Type 0} (ask : List ℕ → List Entry → A) (b : Book) (s : Tree)
    → (when is_low b.k s then ask (words s) b.L else ask (words (middle b.k s)) b.P) ≡ ask (words (part_of b.k s).tree) (looked_up_in (is_low b.k s) b)
unfolding part_of when◌then◌else◌
asked_part ask b s = go (is_low b.k s) refl
  where
    -- By whether it is low.
    go : (low : Bool) → is_low b.k s ≡ low → (when is_low b.k s then ask (words s) b.L else ask (words (middle b.k s)) b.P) ≡ ask (words (part_of b.k s).tree) (looked_up_in (is_low b.k s) b)
    go true e = rw e
    go false e = rw e

-- The part that is sought, and what its section says of it.
module _ (b : Book) (ws os : List ℕ) (at : ℕ) (cut : List ℕ) (r : Sought) (S : Seeks b ws os at cut r) where
  -- It is known if its section has it.
  sought_known : knows b S.tree ≡ has (key_of r os cut) (entries r.many (drop r.at ws))
  unfolding knows
  sought_known = asked_part has b S.tree ∙ rw S.among (rw (← S.key, ← S.kind) refl)

  -- Its neighbours are those that a search in its section tells.
  sought_near : near_in (look (key_of r os cut) r.at 0 0 (entries r.many (drop r.at ws))) ≡ near_part b S.tree
  unfolding near_part
  sought_near =
      near-is (key_of r os cut) r.at (entries r.many (drop r.at ws)) S.sorted ∙ sym (asked_part near_of b S.tree ∙ rw S.among (rw (← S.key, ← S.kind) refl))

-- Where there is no line the judgement is 0 alone.
pub none-judged : (b : Book) (os : List ℕ) (line : ℕ) (w : Judgement) → line ≡ 0 → w ≡ plainly_of done → JudgedAt b os line w
unfolding judged_line
none-judged b os line w h e = record { at = ap (λ (j : Judgement). j.answer.line) e ∙ sym h; is = e ∙ rw h }

-- What is judged at a line is judged at the line that it tells.
pub own_line : (b : Book) (os : List ℕ) (line : ℕ) (w : Judgement) → JudgedAt b os line w → JudgedAt b os w.answer.line w
own_line b os line w j = record { at = refl; is = j.is ∙ ap (judged_line b os) (sym j.at) }

-- The judgement at a line, by what was sought for it and where the search has stopped.
pub unknown-judged : (b : Book) (ws os : List ℕ) (line last at left : ℕ) (cut : List ℕ) (r : Sought) (w : Judgement) → Seeks b ws os (line * 2) cut r
    → (let key : List ℕ = key_of r os cut in look key r.at 0 0 (entries r.many (drop r.at ws)) ≡ Absent at (r.many - left) (place_at key ws last (r.many - left)) (place_at key ws at left))
    → w ≡ unknown_of r (key_of r os cut) ws (line + 1) last at left → JudgedAt b os (line + 1) w
unfolding judged_line by_found verdict_on expected_on
unknown-judged b ws os line last at left cut r w S told e =
    let near : near_in (Absent at (r.many - left) (place_at (key_of r os cut) ws last (r.many - left)) (place_at (key_of r os cut) ws at left)) ≡ near_part b S.tree =
    ap near_in (sym told) ∙ sought_near b ws os (line * 2) cut r S in
    record { at = ap (λ (j : Judgement). j.answer.line) e; is = e ∙ rw (add-one, S.here, ← S.kind) (ap (λ (n : Neighbours). record { answer = record { number = when r.low then low_unknown else middle_unknown; line = suc line }; near = n }) near) }

-- What was sought for a line, and whether its section has it.
module _ (b : Book) (ws os : List ℕ) (line : ℕ) (cut : List ℕ) (r : Sought) (e : cause_of os ≡ done) (h : line < length os / 2) (S : Seeks b ws os (line * 2) cut r) where
  -- The lines from there on: this one first.
  within-line : (to : ℕ) → line < to → unknown_within b os line to ≡ (when has (key_of r os cut) (entries r.many (drop r.at ws)) then unknown_within b os (line + 1) to else line + 1)
  unfolding unknown_line
  within-line to f =
      let l = line_at os line e h in
      let t = l.order in
      let s = l.spot.tree in
      let same : found s ≡ found S.tree = sym (from_spot os (line * 2) _ l.spot) ∙ S.here in
      let next : drop line (subtrees t) ≡ s ∷ drop (line + 1) (subtrees t) = tree-next (subtrees t) line s l.spot.is in
      let more : to - line ≡ suc (to - (line + 1)) = omega arith in
      let is : s ≡ S.tree = cc in
      let known : knows b s ≡ has (key_of r os cut) (entries r.many (drop r.at ws)) = ap (knows b) is ∙ sought_known b ws os (line * 2) cut r S in
      within-tree b os t line to l.passes ∙ rw (next, more, known, within-tree b os t (line + 1) to l.passes, add-one)

  -- Past a known part the next lines decide.
  pub within-known : (to : ℕ) → line < to → has (key_of r os cut) (entries r.many (drop r.at ws)) ≡ true → unknown_within b os line to ≡ unknown_within b os (line + 1) to
  unfolding when◌then◌else◌
  within-known to f g = within-line to f ∙ rw g

  -- An unknown part is the first.
  pub within-unknown : (to : ℕ) → line < to → has (key_of r os cut) (entries r.many (drop r.at ws)) ≡ false → unknown_within b os line to ≡ line + 1
  unfolding when◌then◌else◌
  within-unknown to f g = within-line to f ∙ rw g
