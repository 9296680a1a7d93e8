-- The cut of a subtree gone over line by line: what waits from a line on decides what the whole comes to. Assumes nothing.
use Prim.Native.Nat.{ℕ, suc, ◌+◌, ◌-◌, ◌*◌, ◌/◌, ◌≤◌, ◌<◌}
use mathlib.Core.Path.{◌≡◌, refl, ap, sym, subst, ◌∙◌}
use mathlib.Core.Bool.{Bool, true, false}
use mathlib.Core.List.{List, [], ◌∷◌, ◌++◌, append_assoc, append-nil}
use native.Mathlib.Nat.{add-zero}
use native.Mathlib.Omega.{arith}
use borrow.Author.Tests.{leb-true, leb-false}
use lib.Dec.{leb}
use lib.ListN.{length, drop, get_or, length-append, length-drop}
use lib.Seq.{drop-drop, get_or-drop, drop-append_seam}
use Rattle.words.specs.Base.{when◌then◌else◌}
use Rattle.figures.specs.Limits.{greatest_depth}
use Rattle.order.specs.Trees.{Tree, node, Forest, bare, cons, count, words, words_f, cut, cut_f, subtrees}
use Rattle.order.specs.Standing.{cut_of}
use Rattle.order.specs.Levels.{tree_levels, levels_in, LinesLevelled}
use Rattle.order.specs.Spans.{spans_from, spans_in, GoneOver}
use Rattle.order.proofs.Orders.{size, some-lines}
use Rattle.order.proofs.Cutting.{count_cut}
use Rattle.order.proofs.Levels.{levels_count}
use Rattle.order.proofs.Spanning.{lines-subtrees}
use Rattle.order.proofs.Waiting.{Waiting, all_done, waits, opened, words_w, subtrees_w, levels_w, open_words, open_subtrees, open_levels}
use Rattle.order.proofs.LineSpans.{spans-behind, spans-room, span-read, levels_room, level-read, level-small, LineOpen}

-- ---- the cuts that wait

-- What is written of the trees that wait, in a cut at d of a tree whose top has the level `own`.
unfoldable cuts_w : ℕ → ℕ → Waiting → List ℕ
cuts_w own d all_done = []
cuts_w own d (waits t l w) = words (cut t (d - (l - own))) ++ cuts_w own d w

-- The tops of the trees that wait lie within d below it.
abbrev Within : ℕ → ℕ → Waiting → Type 0
Within own d all_done = Unit {0}
Within own d (waits t l w) = (own ≤ l) × (l - own ≤ d) × Within own d w

module _ (own d : ℕ) where
  -- Of an opened row the row's cut is written, and then the others'.
  opened-cuts : (f : Forest) (l : ℕ) (w : Waiting) → cuts_w own d (opened f l w) ≡ words_f (cut_f f (d - (l - own))) ++ cuts_w own d w
  unfolding opened cuts_w words_f cut_f
  opened-cuts bare l w = refl
  opened-cuts (cons t f) l w =
      ap (λ (r : List ℕ). words (cut t (d - (l - own))) ++ r) (opened-cuts f l w)
      ∙ sym (append_assoc (words (cut t (d - (l - own)))) (words_f (cut_f f (d - (l - own)))) (cuts_w own d w))

  -- Its tops lie within d where their level does.
  opened-within : (f : Forest) (l : ℕ) (w : Waiting) → own ≤ l → l - own ≤ d → Within own d w → Within own d (opened f l w)
  unfolding opened
  opened-within bare l w h k r = r
  opened-within (cons t f) l w h k r = (h, k, opened-within f l w h k r)

  -- Above d a node is written with its children, which wait then.
  open_cut : (c : ℕ) (f : Forest) (l : ℕ) (w : Waiting) → own ≤ l → l - own < d → cuts_w own d (waits (node c f) l w) ≡ c ∷ count f ∷ cuts_w own d (opened f (suc l) w)
  unfolding cuts_w words cut
  open_cut c f l w h k =
      let z : d - (l - own) ≡ suc (d - (suc l - own)) = omega arith in
      rw (z, count_cut f (d - (suc l - own))) (ap (λ (r : List ℕ). c ∷ count f ∷ r) (sym (opened-cuts f (suc l) w)))

  -- At d it is written with none, and nothing of what is below it.
  shut_cut : (c : ℕ) (f : Forest) (l : ℕ) (w : Waiting) → d ≤ l - own → cuts_w own d (waits (node c f) l w) ≡ c ∷ 0 ∷ cuts_w own d w
  unfolding cuts_w words cut count
  shut_cut c f l w h = let z : d - (l - own) ≡ 0 = omega arith in rw z refl

-- ---- the loop

-- The cut at d of the subtree of a line, whose level is `own`, is gone over up to line `at`: `got` are its words so far, and some trees wait, up to line `end`.
pub record Walking (os : List ℕ) (line own d end at : ℕ) (got : List ℕ) : Type 0 where
  todo : Waiting
  others : Waiting
  words_are : drop (at * 2) os ≡ words_w todo ++ words_w others
  spans-are : drop (at * 2) (spans_in os) ≡ spans_from at (subtrees_w todo ++ subtrees_w others)
  levels_are : drop at (levels_in os) ≡ levels_w todo ++ levels_w others
  ends : at + length (subtrees_w todo) ≡ end
  within : Within own d todo
  left : cut_of os (line * 2) d ≡ got ++ cuts_w own d todo

-- Before the loop the whole subtree waits.
pub walk_start : (os : List ℕ) (line d end : ℕ) (p : LineOpen os line) → end ≡ line + length (subtrees (node p.code p.row))
    → Walking os line p.level d end line []
unfolding words_w subtrees_w levels_w cuts_w
walk_start os line d end p e =
    let t : Tree = node p.code p.row in
    let z : d - (p.level - p.level) ≡ d = omega arith in
    record {
      todo = waits t p.level all_done;
      others = p.others;
      words_are = rw (append-nil (words t)) p.words_are;
      spans-are = rw (append-nil (subtrees t)) p.spans-are;
      levels_are = p.levels_are ∙ ap (λ (r : List ℕ). r ++ levels_w p.others) (sym (append-nil (tree_levels t p.level)));
      ends = rw (append-nil (subtrees t)) (sym e);
      within = (omega arith, omega arith, tt);
      left = p.cut-is d ∙ rw (z, append-nil (words (cut t d))) refl;
    }

module _ (os : List ℕ) (line own d end at : ℕ) (got : List ℕ) (p : Walking os line own d end at got) where
  -- Past the last line the whole cut is gone over.
  pub walk_done : end ≤ at → cut_of os (line * 2) d ≡ got
  unfolding subtrees_w cuts_w
  walk_done h = go p.todo refl
    where
      go : (w : Waiting) → p.todo ≡ w → cut_of os (line * 2) d ≡ got
      go all_done e = p.left ∙ ap (λ (w : Waiting). got ++ cuts_w own d w) e ∙ append-nil got
      go (waits (node c f) l w) e =
          absurd (omega (arith, p.ends, ap (λ (v : Waiting). length (subtrees_w v)) e, ap length (open_subtrees c f l w)))

  -- The cut is what was gone over, and more words.
  pub walk_left : (rest : List ℕ) × (cut_of os (line * 2) d ≡ got ++ rest)
  walk_left = (cuts_w own d p.todo, p.left)

  -- What is gone over is no more than the cut.
  pub walk_fits : length got ≤ length (cut_of os (line * 2) d)
  walk_fits = omega (arith, ap length p.left, length-append got (cuts_w own d p.todo))

  -- The first tree that waits, with its words, its end and its level as they are read.
  record Turn : Type 0 where
    code : ℕ
    row : Forest
    level : ℕ
    rest : Waiting
    waiting : p.todo ≡ waits (node code row) level rest
    lies : at * 2 + 2 ≤ length os
    code_is : get_or os (at * 2) 0 ≡ code
    children-are : get_or os (at * 2 + 1) 0 ≡ count row
    level-is : get_or (levels_in os) at 0 ≡ level
    end_is : get_or (spans_in os) (at * 2) 0 ≡ at + length (subtrees (node code row))
    above : own ≤ level
    near : level - own ≤ d

  -- While a line is left a tree waits.
  turn : at < end → Turn
  unfolding subtrees_w spans_from
  turn h = go p.todo refl
    where
      -- A word by what the words from there on are.
      word : (l ws : List ℕ) (n i : ℕ) → drop n l ≡ ws → get_or l (n + i) 0 ≡ get_or ws i 0
      word l ws n i e = sym (get_or-drop n l i 0) ∙ ap (λ (r : List ℕ). get_or r i 0) e

      go : (w : Waiting) → p.todo ≡ w → Turn
      go all_done e = absurd (omega (arith, p.ends, ap (λ (v : Waiting). length (subtrees_w v)) e))
      go (waits (node c f) l w) e =
          let ws : drop (at * 2) os ≡ c ∷ count f ∷ (words_w (opened f (suc l) w) ++ words_w p.others) =
          p.words_are ∙ ap (λ (v : Waiting). words_w v ++ words_w p.others) e ∙ ap (λ (r : List ℕ). r ++ words_w p.others) (open_words c f l w) in
          let ls : drop at (levels_in os) ≡ l ∷ (levels_w (opened f (suc l) w) ++ levels_w p.others) =
          p.levels_are ∙ ap (λ (v : Waiting). levels_w v ++ levels_w p.others) e ∙ ap (λ (r : List ℕ). r ++ levels_w p.others) (open_levels c f l w) in
          let ts : subtrees_w p.todo ++ subtrees_w p.others ≡ node c f ∷ (subtrees_w (opened f (suc l) w) ++ subtrees_w p.others) =
          ap (λ (v : Waiting). subtrees_w v ++ subtrees_w p.others) e ∙ ap (λ (r : List Tree). r ++ subtrees_w p.others) (open_subtrees c f l w) in
          let ss : drop (at * 2) (spans_in os) ≡ spans_from at (node c f ∷ (subtrees_w (opened f (suc l) w) ++ subtrees_w p.others)) = p.spans-are ∙ ap (spans_from at) ts in
          let within : Within own d (waits (node c f) l w) = subst (Within own d) e p.within in
          record {
            code = c;
            row = f;
            level = l;
            rest = w;
            waiting = e;
            lies = omega (arith, length-drop (at * 2) os, ap length ws);
            code_is = ap (λ (n : ℕ). get_or os n 0) (sym (add-zero (at * 2))) ∙ word os _ (at * 2) 0 ws;
            children-are = word os _ (at * 2) 1 ws;
            level-is = ap (λ (n : ℕ). get_or (levels_in os) n 0) (sym (add-zero at)) ∙ word (levels_in os) _ at 0 ls;
            end_is = ap (λ (n : ℕ). get_or (spans_in os) n 0) (sym (add-zero (at * 2))) ∙ word (spans_in os) _ (at * 2) 0 ss ∙ ap (λ (n : ℕ). at + n) (sym (lines-subtrees (node c f)));
            above = within.0;
            near = within.1;
          }

  -- What is so once the first tree that waits is gone over, with its children to follow or without them.
  module _ (t : Turn) where
    -- The cut that is left, by what its two words are and what waits then.
    with_two : (v : ℕ) (w : Waiting) → cuts_w own d (waits (node t.code t.row) t.level t.rest) ≡ t.code ∷ v ∷ cuts_w own d w
        → cut_of os (line * 2) d ≡ (got ++ (t.code ∷ v ∷ [])) ++ cuts_w own d w
    with_two v w e =
        p.left ∙ ap (λ (r : List ℕ). got ++ r) (ap (cuts_w own d) t.waiting ∙ e) ∙ sym (append_assoc got (t.code ∷ v ∷ []) (cuts_w own d w))

    -- What its two words come to, and the line to go on with.
    abbrev Gone : ℕ → ℕ → Type 0
    Gone v at' = Walking os line own d end at' (got ++ (t.code ∷ v ∷ []))

    -- The lines from the next one on, where so many are gone over.
    behind : {A : Type 0} (l xs zs : List A) (n m k : ℕ) → drop n l ≡ xs → xs ≡ zs → k ≡ n + m → drop k l ≡ drop m zs
    behind l xs zs n m k e f g = rw g (sym (drop-drop m n l) ∙ ap (drop m) (e ∙ f))

    -- Above d its children wait.
    keeping : t.level - own < d → Gone (count t.row) (at + 1)
    keeping h =
        let c = t.code in
        let f = t.row in
        let l = t.level in
        let w = t.rest in
        let todo : Waiting = opened f (suc l) w in
        let within : Within own d (waits (node c f) l w) = subst (Within own d) t.waiting p.within in
        let ts : subtrees_w p.todo ++ subtrees_w p.others ≡ node c f ∷ (subtrees_w todo ++ subtrees_w p.others) =
        ap (λ (v : Waiting). subtrees_w v ++ subtrees_w p.others) t.waiting ∙ ap (λ (r : List Tree). r ++ subtrees_w p.others) (open_subtrees c f l w) in
        let a : (at + 1) * 2 ≡ at * 2 + 1 * 2 = omega arith in
        record {
          todo = todo;
          others = p.others;
          words_are = behind os _ (c ∷ count f ∷ (words_w todo ++ words_w p.others)) (at * 2) 2 ((at + 1) * 2) p.words_are
              (ap (λ (v : Waiting). words_w v ++ words_w p.others) t.waiting ∙ ap (λ (r : List ℕ). r ++ words_w p.others) (open_words c f l w)) (omega arith);
          spans-are = ap (λ (n : ℕ). drop n (spans_in os)) a ∙ sym (drop-drop (1 * 2) (at * 2) (spans_in os)) ∙ ap (drop (1 * 2)) (p.spans-are ∙ ap (spans_from at) ts) ∙ spans-behind 1 at _;
          levels_are = behind (levels_in os) _ (l ∷ (levels_w todo ++ levels_w p.others)) at 1 (at + 1) p.levels_are
              (ap (λ (v : Waiting). levels_w v ++ levels_w p.others) t.waiting ∙ ap (λ (r : List ℕ). r ++ levels_w p.others) (open_levels c f l w)) (omega arith);
          ends = omega (arith, p.ends, ap (λ (v : Waiting). length (subtrees_w v)) t.waiting, ap length (open_subtrees c f l w));
          within = opened-within own d f (suc l) w (omega (arith, t.above)) (omega (arith, t.above)) within.2;
          left = with_two (count f) todo (open_cut own d c f l w t.above h);
        }

    -- At d the trees behind it wait.
    leaving : d ≤ t.level - own → Gone 0 (at + length (subtrees (node t.code t.row)))
    unfolding words_w subtrees_w levels_w
    leaving h =
        let u : Tree = node t.code t.row in
        let l = t.level in
        let w = t.rest in
        let n : ℕ = length (subtrees u) in
        let within : Within own d (waits u l w) = subst (Within own d) t.waiting p.within in
        let ts : subtrees_w p.todo ++ subtrees_w p.others ≡ subtrees u ++ (subtrees_w w ++ subtrees_w p.others) =
        ap (λ (v : Waiting). subtrees_w v ++ subtrees_w p.others) t.waiting ∙ append_assoc (subtrees u) (subtrees_w w) (subtrees_w p.others) in
        let a : (at + n) * 2 ≡ at * 2 + n * 2 = omega arith in
        let b : n * 2 ≡ length (words u) = sym (size u) in
        record {
          todo = w;
          others = p.others;
          words_are = behind os _ (words u ++ (words_w w ++ words_w p.others)) (at * 2) (length (words u)) ((at + n) * 2) p.words_are
              (ap (λ (v : Waiting). words_w v ++ words_w p.others) t.waiting ∙ append_assoc (words u) (words_w w) (words_w p.others)) (omega arith)
              ∙ drop-append_seam (words u) _;
          spans-are = ap (λ (m : ℕ). drop m (spans_in os)) a ∙ sym (drop-drop (n * 2) (at * 2) (spans_in os)) ∙ ap (drop (n * 2)) (p.spans-are ∙ ap (spans_from at) ts)
              ∙ spans-behind n at _ ∙ ap (spans_from (at + n)) (drop-append_seam (subtrees u) _);
          levels_are = behind (levels_in os) _ (tree_levels u l ++ (levels_w w ++ levels_w p.others)) at (length (tree_levels u l)) (at + n) p.levels_are
              (ap (λ (v : Waiting). levels_w v ++ levels_w p.others) t.waiting ∙ append_assoc (tree_levels u l) (levels_w w) (levels_w p.others)) (omega (arith, levels_count u l))
              ∙ drop-append_seam (tree_levels u l) _;
          ends = omega (arith, p.ends, ap (λ (v : Waiting). length (subtrees_w v)) t.waiting, length-append (subtrees u) (subtrees_w w));
          within = within.2;
          left = with_two 0 w (shut_cut own d t.code t.row l w h);
        }

    -- By how deep it lies.
    walk_on : Gone (when leb d (t.level - own) then 0 else count t.row) (when leb d (t.level - own) then at + length (subtrees (node t.code t.row)) else at + 1)
    unfolding when◌then◌else◌
    walk_on = go (leb d (t.level - own)) refl
      where
        go : (b : Bool) → leb d (t.level - own) ≡ b → Gone (when b then 0 else count t.row) (when b then at + length (subtrees (node t.code t.row)) else at + 1)
        go true e = leaving (leb-true d (t.level - own) e)
        go false e = keeping (leb-false d (t.level - own) e)

    -- By its two words and the next line.
    walk_next : (v at' : ℕ) → v ≡ (when leb d (t.level - own) then 0 else count t.row) → at' ≡ (when leb d (t.level - own) then at + length (subtrees (node t.code t.row)) else at + 1)
        → Gone v at'
    walk_next v at' e f = rw (e, f) walk_on

-- ---- by what is read

-- What is read at a line that is left, and what is so once it is gone over.
pub record Stepping (os ss ls : List ℕ) (line own d end at : ℕ) (got : List ℕ) : Type 0 where
  pub lies : at * 2 + 2 ≤ length os
  pub spanned : at * 2 + 2 ≤ length ss
  pub levelled : at < length ls
  pub small : get_or ls at 0 ≤ greatest_depth
  pub above : own ≤ get_or ls at 0
  pub next : (v at' : ℕ) → v ≡ (when leb d (get_or ls at 0 - own) then 0 else get_or os (at * 2 + 1) 0) → at' ≡ (when leb d (get_or ls at 0 - own) then get_or ss (at * 2) 0 else at + 1)
      → Walking os line own d end at' (got ++ (get_or os (at * 2) 0 ∷ v ∷ []))
  pub on : (at' : ℕ) → at' ≡ (when leb d (get_or ls at 0 - own) then get_or ss (at * 2) 0 else at + 1) → at < at'

-- The next line is further on.
later : (b : Bool) (at at' e : ℕ) → at' ≡ (when b then e else at + 1) → at < e → at < at'
unfolding when◌then◌else◌
later true at at' e f g = omega arith
later false at at' e f g = omega arith

-- While a line is left.
pub stepping : (os ss ls : List ℕ) (line own d end at : ℕ) (got : List ℕ) → GoneOver os ss → LinesLevelled os ls
    → Walking os line own d end at got → at < end → Stepping os ss ls line own d end at got
stepping os ss ls line own d end at got over levelled p h =
    let t = turn os line own d end at got p h in
    let u : Tree = node t.code t.row in
    let in_order : at < length os / 2 = omega (arith, t.lies) in
    let level : get_or ls at 0 ≡ t.level = level-read os ls over.sound levelled at in_order ∙ t.level-is in
    let past : get_or ss (at * 2) 0 ≡ at + length (subtrees u) = span-read os ss over (at * 2) (omega (arith, t.lies)) ∙ t.end_is in
    record {
      lies = t.lies;
      spanned = omega (arith, t.lies, spans-room os ss over);
      levelled = omega (arith, t.lies, levels_room os ls over.sound levelled);
      small = level-small os ls over.sound levelled at in_order;
      above = omega (arith, t.above, level);
      next = λ v at' e f. rw t.code_is (walk_next os line own d end at got p t v at' (rw (← level, ← t.children-are) e) (rw (← level, ← past) f));
      on = λ at' f. later (leb d (get_or ls at 0 - own)) at at' (get_or ss (at * 2) 0) f (omega (arith, past, some-lines u));
    }
