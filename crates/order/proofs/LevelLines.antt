-- The levels of an order's lines written by the spans of its lines: what a row of trees gets, and what is written once the lines before are gone over.
-- Assumes nothing.
use Prim.Native.Nat.{ℕ, zero, suc, ◌+◌, ◌*◌, ◌-◌, ◌/◌, ◌≤◌, ◌<◌}
use mathlib.Core.Path.{◌≡◌, refl, sym, ap, subst, ◌∙◌}
use mathlib.Core.List.{List, [], ◌∷◌, ◌++◌, append_assoc, append-nil}
use native.Mathlib.Omega.{arith}
use native.Mathlib.Nat.{add-zero}
use lib.ListN.{length, take, drop, get_or, set, length-set, length-append, length-drop, take-append-drop}
use lib.Seq.{drop-drop, drop_at, get_or_at, get_or-drop, get_or-take, get_or-set_same, get_or-set_other, take-set-le, take-suc, length-take-le}
use Rattle.figures.specs.Limits.{greatest_depth}
use Rattle.figures.specs.Numbers.{done}
use Rattle.order.specs.Trees.{Tree, node, Forest, bare, cons, count, words, subtrees, subtrees_f}
use Rattle.order.specs.Reading.{cause_of}
use Rattle.order.specs.Levels.{tree_levels, levels_in, LinesLevelled}
use Rattle.order.specs.Spans.{lines, lines_f, spans_from, GoneOver, RowAt, hopped}
use Rattle.order.proofs.Causes.{has-tree}
use Rattle.order.proofs.Spots.{two_words-a_line}
use Rattle.order.proofs.Spanning.{spans-long, spans-append, lines-subtrees, lines_f-subtrees, some-line, spans-of}
use Rattle.order.proofs.Levels.{level-within, levels_of_lem}
use Rattle.order.proofs.Waiting.{Waiting, all_done, waits, opened, words_w, subtrees_w, levels_w, open_words, open_subtrees, open_levels, opened-subtrees}

-- ---- from tree to tree of a row

-- What the scratch says of the first line of a row: where its first tree ends.
first-end : (i : ℕ) (t : Tree) (f : Forest) (after : List ℕ) → get_or (spans_from i (subtrees_f (cons t f)) ++ after) 0 0 ≡ i + lines t
unfolding subtrees_f subtrees spans_from
first-end i (node c g) f after = refl

module _ (ss after : List ℕ) (i : ℕ) (t : Tree) (f : Forest) (here : drop (2 * i) ss ≡ spans_from i (subtrees_f (cons t f)) ++ after) where
  -- The scratch tells where the first tree ends,
  hop_to : get_or ss (2 * i) 0 ≡ i + lines t
  hop_to =
      ap (λ (k : ℕ). get_or ss k 0) (sym (add-zero (2 * i)))
      ∙ sym (get_or-drop (2 * i) ss 0 0)
      ∙ ap (λ (ws : List ℕ). get_or ws 0 0) here
      ∙ first-end i t f after

  -- and the others stand behind it.
  hop_here : drop (2 * (i + lines t)) ss ≡ spans_from (i + lines t) (subtrees_f f) ++ after
  unfolding subtrees_f
  hop_here =
      let two : 2 * (i + lines t) ≡ 2 * i + 2 * lines t = omega arith in
      let long : length (spans_from i (subtrees t)) ≡ 2 * lines t = omega (arith, spans-long i (subtrees t), lines-subtrees t) in
      let parts : spans_from i (subtrees_f (cons t f)) ++ after ≡ spans_from i (subtrees t) ++ (spans_from (i + lines t) (subtrees_f f) ++ after) =
      ap
      (λ (ws : List ℕ). ws ++ after)
      (spans-append i (subtrees t) (subtrees_f f) ∙ ap (λ (k : ℕ). spans_from i (subtrees t) ++ spans_from (i + k) (subtrees_f f)) (lines-subtrees t))
      ∙ append_assoc (spans_from i (subtrees t)) (spans_from (i + lines t) (subtrees_f f)) after in
      ap (λ (k : ℕ). drop k ss) two
      ∙ sym (drop-drop (2 * lines t) (2 * i) ss)
      ∙ ap (drop (2 * lines t)) (here ∙ parts)
      ∙ drop_at (spans_from i (subtrees t)) (spans_from (i + lines t) (subtrees_f f) ++ after) (2 * lines t) long

-- What is known of the next tree of a row.
pub record NextTree (ss : List ℕ) (i n many : ℕ) : Type 0 where
  pub within : i < many
  pub told : 2 * i < length ss
  pub others : RowAt ss (get_or ss (2 * i) 0) (n - 1) many

-- Where a row has a tree, the others are the row that begins where it ends.
pub next-tree : (ss : List ℕ) (i n many : ℕ) → RowAt ss i n many → 0 < n → NextTree ss i n many
unfolding count lines_f
next-tree ss i n many r more = go r.row refl
  where
    go : (f : Forest) → r.row ≡ f → NextTree ss i n many
    go bare e = absurd (omega (arith, r.trees, ap count e))
    go (cons t f) e =
        let here : drop (2 * i) ss ≡ spans_from i (subtrees_f (cons t f)) ++ r.after = r.here ∙ ap (λ (g : Forest). spans_from i (subtrees_f g) ++ r.after) e in
        let to : get_or ss (2 * i) 0 ≡ i + lines t = hop_to ss r.after i t f here in
        let ends : i + (lines t + lines_f f) ≤ many = omega (arith, r.ends, ap lines_f e) in
        let long : length (drop (2 * i) ss) ≡ 2 * lines_f (cons t f) + length r.after =
        ap length here ∙ length-append (spans_from i (subtrees_f (cons t f))) r.after
        ∙ ap (λ (k : ℕ). k + length r.after) (spans-long i (subtrees_f (cons t f)) ∙ ap (λ (k : ℕ). 2 * k) (lines_f-subtrees (cons t f))) in
        record {
          within = omega (arith, some-line t);
          told = omega (arith, some-line t, length-drop (2 * i) ss);
          others =
              rw to (record {
                row = f;
                after = r.after;
                trees = omega (arith, r.trees, ap count e);
                here = hop_here ss r.after i t f here;
                ends = omega arith;
              });
        }

-- The levels once a tree of the row has its level.
pub hopped-next : (n i l : ℕ) (ss ls : List ℕ) → 0 < n → hopped (n - 1) (get_or ss (2 * i) 0) l ss (set ls i l) ≡ hopped n i l ss ls
unfolding hopped
hopped-next zero i l ss ls h = absurd (omega arith)
hopped-next (suc n) i l ss ls h = let e : suc n - 1 ≡ n = omega arith in rw e refl

-- With no tree left the levels stay.
pub hopped-none : (n i l : ℕ) (ss ls : List ℕ) → n ≡ 0 → hopped n i l ss ls ≡ ls
unfolding hopped
hopped-none n i l ss ls h = rw h refl

-- No tree stands in a bare row.
none-counted : count bare ≡ 0
unfolding count
none-counted = refl

-- A row keeps the number of levels.
hopped-long : (n i l : ℕ) (ss ls : List ℕ) → length (hopped n i l ss ls) ≡ length ls
unfolding hopped
hopped-long zero i l ss ls = refl
hopped-long (suc n) i l ss ls = hopped-long n (get_or ss (2 * i) 0) l ss (set ls i l) ∙ length-set ls i l

-- So do levels that are what a row comes to.
pub hopped-kept : (n i l : ℕ) (ss ls ls' : List ℕ) → ls' ≡ hopped n i l ss ls → length ls' ≡ length ls
hopped-kept n i l ss ls ls' e = ap length e ∙ hopped-long n i l ss ls

-- The first tree of a row gets its level, and then the others.
hopped-first : (t : Tree) (f : Forest) (i l : ℕ) (ss after ls : List ℕ) → drop (2 * i) ss ≡ spans_from i (subtrees_f (cons t f)) ++ after
    → hopped (count (cons t f)) i l ss ls ≡ hopped (count f) (i + lines t) l ss (set ls i l)
unfolding hopped count
hopped-first t f i l ss after ls here = ap (λ (k : ℕ). hopped (count f) k l ss (set ls i l)) (hop_to ss after i t f here)

-- A row of trees keeps the levels of the lines before it.
hopped-before : (f : Forest) (k i l : ℕ) (ss after ls : List ℕ) → drop (2 * i) ss ≡ spans_from i (subtrees_f f) ++ after → k ≤ i
    → take k (hopped (count f) i l ss ls) ≡ take k ls
hopped-before bare k i l ss after ls here h = ap (take k) (hopped-none (count bare) i l ss ls none-counted)
hopped-before (cons t f) k i l ss after ls here h =
    ap (take k) (hopped-first t f i l ss after ls here)
    ∙ hopped-before f k (i + lines t) l ss after (set ls i l) (hop_here ss after i t f here) (omega arith)
    ∙ take-set-le k ls i l h

-- ---- the trees that wait, and the levels of their first lines

-- Trees that wait have the levels of their first lines, where the first of them begins on line i.
unfoldable pub TopsSet : Waiting → ℕ → List ℕ → Type 0
TopsSet all_done i ls = Unit {0}
TopsSet (waits t l w) i ls = (get_or ls i 0 ≡ l) × TopsSet w (i + lines t) ls

-- They keep them where a line before them gets a level.
tops-kept : (w : Waiting) (i j a : ℕ) (ls : List ℕ) → j < i → TopsSet w i ls → TopsSet w i (set ls j a)
unfolding TopsSet
tops-kept all_done i j a ls h s = tt
tops-kept (waits t l w) i j a ls h s =
    (get_or-set_other ls j i a 0 (λ e. omega arith) ∙ s.0, tops-kept w (i + lines t) j a ls (omega arith) s.1)

-- A row that gets its levels waits with the others behind it.
tops-opened : (f : Forest) (l : ℕ) (w : Waiting) (i : ℕ) (ss after ls : List ℕ) → drop (2 * i) ss ≡ spans_from i (subtrees_f f) ++ after
    → i + lines_f f ≤ length ls → TopsSet w (i + lines_f f) ls → TopsSet (opened f l w) i (hopped (count f) i l ss ls)
unfolding TopsSet lines_f opened
tops-opened bare l w i ss after ls here room s = rw (hopped-none (count bare) i l ss ls none-counted) (subst (λ (k : ℕ). TopsSet w k ls) (add-zero i) s)
tops-opened (cons t f) l w i ss after ls here room s =
    let here' : drop (2 * (i + lines t)) ss ≡ spans_from (i + lines t) (subtrees_f f) ++ after = hop_here ss after i t f here in
    let e : i + (lines t + lines_f f) ≡ i + lines t + lines_f f = omega arith in
    let kept : TopsSet w (i + lines t + lines_f f) (set ls i l) = tops-kept w (i + lines t + lines_f f) i l ls (omega (arith, some-line t)) (rw e at s) in
    let before : take (suc i) (hopped (count f) (i + lines t) l ss (set ls i l)) ≡ take (suc i) (set ls i l) =
    hopped-before f (suc i) (i + lines t) l ss after (set ls i l) here' (omega (arith, some-line t)) in
    let own : get_or (hopped (count f) (i + lines t) l ss (set ls i l)) i 0 ≡ l =
    sym (get_or-take (suc i) (hopped (count f) (i + lines t) l ss (set ls i l)) i 0 (omega arith))
    ∙ ap (λ (r : List ℕ). get_or r i 0) before
    ∙ get_or-take (suc i) (set ls i l) i 0 (omega arith)
    ∙ get_or-set_same ls i l 0 (omega (arith, some-line t)) in
    rw (hopped-first t f i l ss after ls here)
    (own, tops-opened f l w (i + lines t) ss after (set ls i l) here' (omega (arith, length-set ls i l)) kept)

-- ---- the loop over the lines

-- Once the lines before `line` are gone over: the trees that wait are those of the lines from there on, and have the levels of their first lines.
pub record LevelledTo (os ss ls : List ℕ) (line : ℕ) : Type 0 where
  pub sound : cause_of os ≡ done
  pub trees : Waiting
  pub after : List ℕ
  pub spelt : drop (2 * line) os ≡ words_w trees
  pub spans : drop (2 * line) ss ≡ spans_from line (subtrees_w trees) ++ after
  pub listed : levels_in os ≡ take line ls ++ levels_w trees
  pub tops : TopsSet trees line ls
  pub ends : line + length (subtrees_w trees) ≡ length os / 2
  pub room : length os / 2 ≤ length ls

-- An order has a line.
pub has-line : (os : List ℕ) → cause_of os ≡ done → 1 ≤ length os / 2
has-line os e =
    let x = has-tree os e in
    omega (arith, two_words-a_line os x.tree x.passes, lines-subtrees x.tree, some-line x.tree)

-- Before the first line, once it has its level.
pub levelled_first : (os ss ls : List ℕ) → GoneOver os ss → length os / 2 ≤ length ls → LevelledTo os ss (set ls 0 0) 0
unfolding words_w subtrees_w levels_w TopsSet
levelled_first os ss ls g room =
    let x = has-tree os g.sound in
    let t = x.tree in
    let p = x.passes in
    record {
      sound = g.sound;
      trees = waits t 0 all_done;
      after = drop (length os) ss;
      spelt = p.spelt ∙ sym (append-nil (words t));
      spans =
          sym (take-append-drop (length os) ss)
          ∙ ap (λ (ws : List ℕ). ws ++ drop (length os) ss) (g.spans ∙ spans-of os t p.is ∙ ap (spans_from 0) (sym (append-nil (subtrees t))));
      listed = levels_of_lem os t p.is ∙ sym (append-nil (tree_levels t 0));
      tops = (get_or-set_same ls 0 0 0 (omega (arith, has-line os g.sound)), tt);
      ends = omega (arith, two_words-a_line os t p, length-append (subtrees t) []);
      room = omega (arith, length-set ls 0 0);
    }

-- The line's own tree, and what is known of it.
record Opens (os ss ls : List ℕ) (line : ℕ) : Type 0 where
  row : Forest
  level : ℕ
  rest : Waiting
  after : List ℕ
  children : get_or os (2 * line + 1) 0 ≡ count row
  own : get_or ls line 0 ≡ level
  spelt : drop (2 * (line + 1)) os ≡ words_w (opened row (suc level) rest)
  spans : drop (2 * (line + 1)) ss ≡ spans_from (line + 1) (subtrees_w (opened row (suc level) rest)) ++ after
  listed : levels_in os ≡ take line ls ++ (level ∷ levels_w (opened row (suc level) rest))
  tops : TopsSet rest (line + 1 + lines_f row) ls
  ends : line + 1 + length (subtrees_w (opened row (suc level) rest)) ≡ length os / 2
  last : line + 1 + lines_f row ≤ length os / 2

module _ (os ss ls : List ℕ) (line : ℕ) (v : LevelledTo os ss ls line) where
  -- The line that is opened.
  opens : line < length os / 2 → Opens os ss ls line
  unfolding TopsSet subtrees_w spans_from lines
  opens low = go v.trees refl v.tops
    where
      go : (w : Waiting) → v.trees ≡ w → TopsSet w line ls → Opens os ss ls line
      go all_done e s = absurd (omega (arith, v.ends, ap (λ (u : Waiting). length (subtrees_w u)) e))
      go (waits (node c f) l w) e s =
          let more : Waiting = opened f (suc l) w in
          let two : 2 * (line + 1) ≡ 2 * line + 2 = omega arith in
          let one : suc line ≡ line + 1 = omega arith in
          let spelt : drop (2 * line) os ≡ c ∷ count f ∷ words_w more = v.spelt ∙ ap words_w e ∙ open_words c f l w in
          let subs : subtrees_w v.trees ≡ node c f ∷ subtrees_w more = ap subtrees_w e ∙ open_subtrees c f l w in
          let spans : drop (2 * line) ss ≡ spans_from line (node c f ∷ subtrees_w more) ++ v.after =
          v.spans ∙ ap (λ (ts : List Tree). spans_from line ts ++ v.after) subs in
          let ends : line + 1 + length (subtrees_w more) ≡ length os / 2 = omega (arith, v.ends, ap length subs) in
          let far : line + suc (lines_f f) ≡ line + 1 + lines_f f = omega arith in
          record {
            row = f;
            level = l;
            rest = w;
            after = v.after;
            children = sym (get_or-drop (2 * line) os 1 0) ∙ ap (λ (ws : List ℕ). get_or ws 1 0) spelt;
            own = s.0;
            spelt = ap (λ (k : ℕ). drop k os) two ∙ sym (drop-drop 2 (2 * line) os) ∙ ap (drop 2) spelt;
            spans =
                ap (λ (k : ℕ). drop k ss) two ∙ sym (drop-drop 2 (2 * line) ss) ∙ ap (drop 2) spans
                ∙ ap (λ (k : ℕ). spans_from k (subtrees_w more) ++ v.after) one;
            listed = v.listed ∙ ap (λ (u : Waiting). take line ls ++ levels_w u) e ∙ ap (λ (r : List ℕ). take line ls ++ r) (open_levels c f l w);
            tops = rw far at s.1;
            ends = ends;
            last = omega (arith, ap length (opened-subtrees f (suc l) w), length-append (subtrees_f f) (subtrees_w w), lines_f-subtrees f);
          }

  module _ (o : Opens os ss ls line) where
    -- Its children are the row that begins on the next line.
    row_here : drop (2 * (line + 1)) ss
        ≡ spans_from (line + 1) (subtrees_f o.row) ++ (spans_from (line + 1 + length (subtrees_f o.row)) (subtrees_w o.rest) ++ o.after)
    row_here =
        o.spans
        ∙ ap (λ (ws : List ℕ). ws ++ o.after)
        (ap (spans_from (line + 1)) (opened-subtrees o.row (suc o.level) o.rest)
        ∙ spans-append (line + 1) (subtrees_f o.row) (subtrees_w o.rest))
        ∙ append_assoc (spans_from (line + 1) (subtrees_f o.row)) (spans_from (line + 1 + length (subtrees_f o.row)) (subtrees_w o.rest)) o.after

    -- Once they have their levels, the next line is to be gone over.
    turned : LevelledTo os ss (hopped (count o.row) (line + 1) (suc o.level) ss ls) (line + 1)
    turned =
        let one : suc line ≡ line + 1 = omega arith in
        let here = row_here in
        let long = hopped-long (count o.row) (line + 1) (suc o.level) ss ls in
        let now : take (line + 1) (hopped (count o.row) (line + 1) (suc o.level) ss ls) ≡ take line ls ++ (o.level ∷ []) =
        hopped-before o.row (line + 1) (line + 1) (suc o.level) ss _ ls here (omega arith)
        ∙ ap (λ (k : ℕ). take k ls) (sym one)
        ∙ take-suc ls line 0 (omega (arith, v.room, o.last))
        ∙ ap (λ (x : ℕ). take line ls ++ (x ∷ [])) o.own in
        record {
          sound = v.sound;
          trees = opened o.row (suc o.level) o.rest;
          after = o.after;
          spelt = o.spelt;
          spans = o.spans;
          listed =
              o.listed
              ∙ sym (append_assoc (take line ls) (o.level ∷ []) (levels_w (opened o.row (suc o.level) o.rest)))
              ∙ ap (λ (r : List ℕ). r ++ levels_w (opened o.row (suc o.level) o.rest)) (sym now);
          tops = tops-opened o.row (suc o.level) o.rest (line + 1) ss _ ls here (omega (arith, v.room, o.last)) o.tops;
          ends = o.ends;
          room = omega (arith, v.room);
        }

  -- The line has a level that an order's line can have.
  pub level-small : line < length os / 2 → get_or ls line 0 ≤ greatest_depth
  level-small low =
      let o = opens low in
      let x = has-tree os v.sound in
      let t = x.tree in
      let p = x.passes in
      let at : get_or (levels_in os) line 0 ≡ o.level =
      ap (λ (r : List ℕ). get_or r line 0) o.listed ∙ get_or_at (take line ls) o.level _ 0 line (length-take-le line ls (omega (arith, v.room))) in
      let all : get_or (levels_in os) line 0 ≡ get_or (tree_levels t 0) line 0 = ap (λ (r : List ℕ). get_or r line 0) (levels_of_lem os t p.is) in
      omega (arith, o.own, level-within t line (omega (arith, two_words-a_line os t p)), p.deep)

  -- Its children are a row of trees.
  pub row_below : line < length os / 2 → RowAt ss (line + 1) (get_or os (2 * line + 1) 0) (length ls)
  row_below low =
      let o = opens low in
      record { row = o.row; after = _; trees = sym o.children; here = row_here o; ends = omega (arith, o.last, v.room) }

  -- The same by what the words and the levels say of the line.
  pub levelled_next : line < length os / 2 → (ls' : List ℕ) → ls' ≡ hopped (get_or os (2 * line + 1) 0) (line + 1) (get_or ls line 0 + 1) ss ls
      → LevelledTo os ss ls' (line + 1)
  levelled_next low ls' e =
      let o = opens low in
      let l : get_or ls line 0 + 1 ≡ suc o.level = omega (arith, o.own) in
      subst
      (λ (r : List ℕ). LevelledTo os ss r (line + 1))
      (sym (e ∙ ap (λ (n : ℕ). hopped n (line + 1) (get_or ls line 0 + 1) ss ls) o.children ∙ ap (λ (x : ℕ). hopped (count o.row) (line + 1) x ss ls) l))
      (turned o)

  -- Past the last line all levels are written.
  pub levelled_all : length os / 2 ≤ line → LinesLevelled os ls
  unfolding subtrees_w levels_w
  levelled_all past = go v.trees refl
    where
      go : (w : Waiting) → v.trees ≡ w → take (length os / 2) ls ≡ levels_in os
      go all_done e =
          let n : length os / 2 ≡ line = omega (arith, v.ends) in
          sym (v.listed ∙ ap (λ (u : Waiting). take line ls ++ levels_w u) e ∙ append-nil (take line ls) ∙ ap (λ (k : ℕ). take k ls) (sym n))
      go (waits t l w) e =
          let n : length (subtrees_w v.trees) ≡ length (subtrees t ++ subtrees_w w) = ap (λ (u : Waiting). length (subtrees_w u)) e in
          absurd (omega (arith, v.ends, length-append (subtrees t) (subtrees_w w), lines-subtrees t, some-line t))
