-- What `near_of` says of a key in an ascending section is what the relations of specs/Expected.antt say, and they say but one thing; and which section's word on
-- which key judging hands on with each answer. Assumes nothing.
use Rattle.std.specs.declared.cmp.Ordering.{Ordering}
use Rattle.std.specs.declared.cmp.Ordering.TheVariants.{Less, Equal, Greater}
use Prim.Native.Nat.{ℕ, suc}
use mathlib.Core.Path.{◌≡◌, refl, ap, sym, subst, ◌∙◌}
use mathlib.Core.Bool.{Bool, true, false}
use mathlib.Core.List.Memᴰ
use mathlib.Core.List.Memᴰ.{head as here}
use mathlib.Core.List.Memᴰ.{tail as there}
use mathlib.Core.List.{List, [], ◌∷◌}
use native.Mathlib.Omega.{arith}
use borrow.Author.Tests.{eqb-true, eqb-false}
use lib.Dec.{eqb}
use lib.ListN.{length}
use Rattle.words.specs.Base.{when◌then◌else◌, keep, ◌∈◌}
use Rattle.words.specs.Compare.{compare_of, ◌≺◌}
use Rattle.words.specs.Differences.{FirstDiffers, IsLower}
use Rattle.words.proofs.Tests.{no_test, never}
use Rattle.words.proofs.Differences.{first_one, lower-is, is-lower, other_place}
use Rattle.words.proofs.Ordered.{compare_flip, flip, ≺-trans, ≺-irrefl, Stand, below as stands-below, equal as stands-equal, above as stands-above, stand}
use Rattle.figures.specs.Numbers.{done, top_unknown, low_unknown, middle_unknown}
use Rattle.figures.specs.Answers.{answered}
use Rattle.figures.specs.declared.Answer.{Answer}
use Rattle.section.specs.Entries.{Entry, has, place_in, Below, Sorted}
use Rattle.section.specs.Near.{near, nowhere, entries_below, entries_above, last_place, first_place, near_of}
use Rattle.section.specs.declared.Neighbours.{Neighbours}
use Rattle.section.proofs.Counts.{has-entry, entry_has}
use Rattle.section.proofs.Near.{lower-is_below, equal_not_below, higher_not_below, higher_is-above, lower-not_above, equal_not_above}
use Rattle.order.specs.Trees.{Tree, words, subtrees}
use Rattle.order.specs.Reading.{found}
use Rattle.order.specs.Parts.{top, is_low, middle}
use Rattle.order.specs.Answers.{tree_at, tree_of_line}
use Rattle.order.specs.Paper.{IsR}
use Rattle.order.proofs.Fitting.{order-read}
use Rattle.order.proofs.Paper.{cut-is_r}
use Rattle.book.specs.Book.{Book, section_of}
use Rattle.book.specs.Sound.{SoundBook}
use Rattle.book.specs.declared.Section.TheVariants.{Tops, Lows, Middles}
use Rattle.book.proofs.Sound.{sound-form}
use Rattle.book.proofs.Sections.{form-sorted}
use Rattle.book_judging.specs.Judging.{doubt, least_to_fix, verdict_on, verdict, judge_of}
use Rattle.book_judging.specs.Expecting.{near_part, near_top, expected_on, expected, expected_of}
use Rattle.book_judging.specs.Verdicts.{Lent}
use Rattle.book_judging.proofs.Fixes.{LeastIs, none-least, is-least, least-is}
use Rattle.book_judging.proofs.Judgements.{by_verdict, expects}
use Rattle.promises.specs.Remaining.{HowMany, none_left, one_more, not_this}
use Rattle.promises.specs.Expected.{PlaceBelow, none_below, last_below, PlaceAbove, none_above, first_above, PartStands, it_is_there, it_is_not, IsNear}
use Rattle.promises.proofs.Uniqueness.{how_many-once}

-- ---- how keys stand

-- Not each of two keys is lower than the other.
crossed : (x y : List ℕ) → x ≺ y → y ≺ x → ⊥
crossed x y h k = ≺-irrefl x (≺-trans x y x h k)

-- A key that is lower is told neither equal
lower-not_equal : (x y : List ℕ) → compare_of x y ≡ Equal → x ≺ y → ⊥
lower-not_equal x y c h = never cc

-- nor higher.
lower-not_higher : (x y : List ℕ) → compare_of x y ≡ Greater → x ≺ y → ⊥
lower-not_higher x y c h = never cc

-- An entry that is lower differs first at its place.
lower-place : (key : List ℕ) (e : Entry) → e.key ≺ key → FirstDiffers e.key key (place_in key e)
lower-place key e h = other_place e.key key (λ q. ≺-irrefl key (subst (λ (x : List ℕ). x ≺ key) q h))

-- So does one that is higher.
higher_place : (key : List ℕ) (e : Entry) → key ≺ e.key → FirstDiffers e.key key (place_in key e)
higher_place key e h = other_place e.key key (λ q. ≺-irrefl key (subst (λ (x : List ℕ). key ≺ x) q h))

-- The later entries of an ascending section are above the first.
later-above : (e : Entry) (es : List Entry) → Below e.key es → Sorted es → (f : Entry) → f ∈ es → e.key ≺ f.key
unfolding Below Sorted
later-above e [] b s f m = absurd (Memᴰ.not-nil m)
later-above e (g ∷ gs) b s f m = go m (later-above g gs s.1 s.2 f)
  where
    -- By where it is.
    go : f ∈ g ∷ gs → (f ∈ gs → g.key ≺ f.key) → e.key ≺ f.key
    go (here q) later = subst (λ (x : Entry). e.key ≺ x.key) (sym q) b
    go (there n) later = ≺-trans e.key g.key f.key b (later n)

-- Nothing of a property is among entries if neither the first nor a later one has it.
none_of : {Q : Entry → Type 0} {e : Entry} {es : List Entry} → (Q e → ⊥) → ((f : Entry) → f ∈ es → Q f → ⊥) → (f : Entry) → f ∈ e ∷ es → Q f → ⊥
none_of {Q} x later f (here q) h = x (subst Q q h)
none_of x later f (there m) h = later f m h

-- ---- how many stand below

-- As many as `entries_below` keeps are lower.
below-many : (key : List ℕ) (es : List Entry) → HowMany (λ e. IsLower e.key key) es (length (entries_below key es))
below-many key [] = unfold entries_below keep in none_left
below-many key (e ∷ es) = go (compare_of e.key key) refl (below-many key es)
  where
    -- By how the first entry stands.
    go : (o : Ordering) → compare_of e.key key ≡ o → HowMany (λ f. IsLower f.key key) es (length (entries_below key es))
        → HowMany (λ f. IsLower f.key key) (e ∷ es) (length (entries_below key (e ∷ es)))
    go Less c ih = rw (lower-is_below key e es c) (one_more (lower-is e.key key c) ih)
    go Equal c ih = rw (equal_not_below key e es c) (not_this (λ l. lower-not_equal _ _ c (is-lower _ _ l)) ih)
    go Greater c ih = rw (higher_not_below key e es c) (not_this (λ l. lower-not_higher _ _ c (is-lower _ _ l)) ih)

-- ---- the last below

-- What a number is of the last entry below a key: its place, or p where none is below.
data LastIs (p : ℕ) (key : List ℕ) (es : List Entry) (v : ℕ) : Type 0 where
  no_last : v ≡ p → ((e : Entry) → e ∈ es → e.key ≺ key → ⊥) → LastIs p key es v
  the_last : (e : Entry) → e ∈ es → e.key ≺ key → ((f : Entry) → f ∈ es → (f.key ≺ key) × (e.key ≺ f.key) → ⊥) → v ≡ place_in key e → LastIs p key es v

-- `last_place` is it.
last_of : (p : ℕ) (key : List ℕ) (es : List Entry) → Sorted es → LastIs p key es (last_place p key (entries_below key es))
unfolding Sorted
last_of p key [] s = unfold entries_below keep last_place in no_last refl (λ e m h. Memᴰ.not-nil m)
last_of p key (e ∷ es) s = go (compare_of e.key key) refl (λ q. last_of q key es s.2)
  where
    -- A first entry that is not lower changes nothing.
    past : {v : ℕ} → (e.key ≺ key → ⊥) → LastIs p key es v → LastIs p key (e ∷ es) v
    past x (no_last q n) = no_last q (none_of x n)
    past x (the_last f m l n q) = the_last f (there m) l (none_of (λ h. x h.0) n) q

    -- A first entry that is lower is the last where no later one is.
    first : {v : ℕ} → e.key ≺ key → LastIs (place_in key e) key es v → LastIs p key (e ∷ es) v
    first c (no_last q n) = the_last e (here refl) c (none_of (λ h. ≺-irrefl e.key h.1) (λ f m h. n f m h.0)) q
    first c (the_last f m l n q) =
        the_last f (there m) l
        (none_of (λ h. crossed e.key f.key (later-above e es s.1 s.2 f m) h.1) n)
        q

    -- By how the first entry stands.
    go : (o : Ordering) → compare_of e.key key ≡ o → ((q : ℕ) → LastIs q key es (last_place q key (entries_below key es)))
        → LastIs p key (e ∷ es) (last_place p key (entries_below key (e ∷ es)))
    go Less c ih = rw (lower-is_below key e es c) (unfold last_place in first c (ih (place_in key e)))
    go Equal c ih = rw (equal_not_below key e es c) (past (lower-not_equal _ _ c) (ih p))
    go Greater c ih = rw (higher_not_below key e es c) (past (lower-not_higher _ _ c) (ih p))

-- So it is the place that 02 wants.
place-below : (key : List ℕ) (es : List Entry) → Sorted es → PlaceBelow key es (last_place 0 key (entries_below key es))
place-below key es s = go (last_of 0 key es s)
  where
    -- By the last below.
    go : {v : ℕ} → LastIs 0 key es v → PlaceBelow key es v
    go (no_last q n) = none_below q (λ e m l. n e m (is-lower _ _ l))
    go (the_last e m l n q) =
        last_below e m (lower-is _ _ l) (λ f i g h. n f i (is-lower _ _ g, is-lower _ _ h)) (subst (FirstDiffers e.key key) (sym q) (lower-place key e l))

-- ---- the first above

-- What a number is of the first entry above a key.
data FirstIs (key : List ℕ) (es : List Entry) (v : ℕ) : Type 0 where
  no_first : v ≡ 0 → ((e : Entry) → e ∈ es → key ≺ e.key → ⊥) → FirstIs key es v
  the_first : (e : Entry) → e ∈ es → key ≺ e.key → ((f : Entry) → f ∈ es → (key ≺ f.key) × (f.key ≺ e.key) → ⊥) → v ≡ place_in key e → FirstIs key es v

-- `first_place` is it.
first_of : (key : List ℕ) (es : List Entry) → Sorted es → FirstIs key es (first_place key (entries_above key es))
unfolding Sorted
first_of key [] s = unfold entries_above keep first_place in no_first refl (λ e m h. Memᴰ.not-nil m)
first_of key (e ∷ es) s = go (compare_of e.key key) refl (first_of key es s.2)
  where
    -- A first entry that is not higher changes nothing.
    past : {v : ℕ} → (key ≺ e.key → ⊥) → FirstIs key es v → FirstIs key (e ∷ es) v
    past x (no_first q n) = no_first q (none_of x n)
    past x (the_first f m l n q) = the_first f (there m) l (none_of (λ h. x h.0) n) q

    -- A first entry that is higher is the first.
    first : key ≺ e.key → FirstIs key (e ∷ es) (place_in key e)
    first c =
        the_first e (here refl) c
        (none_of (λ h. ≺-irrefl e.key h.1) (λ f m h. crossed e.key f.key (later-above e es s.1 s.2 f m) h.1))
        refl

    -- By how the first entry stands.
    go : (o : Ordering) → compare_of e.key key ≡ o → FirstIs key es (first_place key (entries_above key es))
        → FirstIs key (e ∷ es) (first_place key (entries_above key (e ∷ es)))
    go Less c ih = rw (lower-not_above key e es c) (past (lower-not_higher _ _ (compare_flip e.key key ∙ ap flip c)) ih)
    go Equal c ih = rw (equal_not_above key e es c) (past (lower-not_equal _ _ (compare_flip e.key key ∙ ap flip c)) ih)
    go Greater c ih = rw (higher_is-above key e es c) (unfold first_place in first (compare_flip e.key key ∙ ap flip c))

-- So it is the place that 02 wants.
place-above : (key : List ℕ) (es : List Entry) → Sorted es → PlaceAbove key es (first_place key (entries_above key es))
place-above key es s = go (first_of key es s)
  where
    -- By the first above.
    go : {v : ℕ} → FirstIs key es v → PlaceAbove key es v
    go (no_first q n) = none_above q (λ e m l. n e m (is-lower _ _ l))
    go (the_first e m l n q) =
        first_above e m (lower-is _ _ l) (λ f i g h. n f i (is-lower _ _ g, is-lower _ _ h)) (subst (FirstDiffers e.key key) (sym q) (higher_place key e l))

-- ---- what a section says

-- An ascending section says of a key what `near_of` tells.
pub near_of_lem : (key : List ℕ) (es : List Entry) → Sorted es → IsNear key es (near_of key es)
unfolding near_of when◌then◌else◌
near_of_lem key es s = go (has key es) refl
  where
    -- By whether an entry has the key.
    go : (b : Bool) → has key es ≡ b → let lows = entries_below key es in
        IsNear key es (when b then near (length lows) true 0 0 else near (length lows) false (last_place 0 key lows) (first_place key (entries_above key es)))
    go true e =
        let x = has-entry key es e in
        record { below = below-many key es; stands = it_is_there (record { entry = x.0; there = x.1; same = x.2 }) refl refl refl }
    go false e = record {
      below = below-many key es;
      stands = it_is_not (λ h. no_test (sym e ∙ entry_has key h.there h.same)) refl (place-below key es s) (place-above key es s);
    }

-- ---- and nothing else

module _ (key : List ℕ) (es : List Entry) where
  -- Entries of one key differ from another key first at one place.
  one_place : (e f : Entry) (m n : ℕ) → e.key ≡ f.key → FirstDiffers e.key key m → FirstDiffers f.key key n → m ≡ n
  one_place e f m n q d g = first_one m n d (subst (λ (x : List ℕ). FirstDiffers x key n) (sym q) g)

  -- The place below is one number only.
  one_below : {m n : ℕ} → PlaceBelow key es m → PlaceBelow key es n → m ≡ n
  one_below (none_below p x) (none_below q y) = p ∙ sym q
  one_below (none_below p x) (last_below f i g h d) = absurd (x f i g)
  one_below (last_below e j l k c) (none_below q y) = absurd (y e j l)
  one_below {m} {n} (last_below e j l k c) (last_below f i g h d) = go (stand e.key f.key)
    where
      -- Neither of the two last ones is lower than the other.
      go : Stand e.key f.key → m ≡ n
      go (stands-below q r) = absurd (k f i g (lower-is _ _ q))
      go (stands-equal q r) = one_place e f m n q c d
      go (stands-above q r) = absurd (h e j l (lower-is _ _ q))

  -- So is the place above.
  one-above : {m n : ℕ} → PlaceAbove key es m → PlaceAbove key es n → m ≡ n
  one-above (none_above p x) (none_above q y) = p ∙ sym q
  one-above (none_above p x) (first_above f i g h d) = absurd (x f i g)
  one-above (first_above e j l k c) (none_above q y) = absurd (y e j l)
  one-above {m} {n} (first_above e j l k c) (first_above f i g h d) = go (stand e.key f.key)
    where
      -- Neither of the two first ones is lower than the other.
      go : Stand e.key f.key → m ≡ n
      go (stands-below q r) = absurd (h e j l (lower-is _ _ q))
      go (stands-equal q r) = one_place e f m n q c d
      go (stands-above q r) = absurd (k f i g (lower-is _ _ q))

  -- A section says but one thing of a key.
  pub near-once : (r s : Neighbours) → IsNear key es r → IsNear key es s → r ≡ s
  near-once r s x y = go x.stands y.stands
    where
      -- Neighbours of the same figures are the same.
      same : {a b p q v w : ℕ} {t u : Bool} → a ≡ b → t ≡ u → p ≡ q → v ≡ w → near a t p v ≡ near b u q w
      same e f g h = cc

      -- As many stand below.
      many : r.below ≡ s.below
      many = how_many-once _ es _ _ x.below y.below

      -- By whether an entry has the key.
      go : PartStands key es r → PartStands key es s → r ≡ s
      go (it_is_there h t l u) (it_is_there k v m w) = same many (t ∙ sym v) (l ∙ sym m) (u ∙ sym w)
      go (it_is_there h t l u) (it_is_not n v m w) = absurd (n h)
      go (it_is_not n t l u) (it_is_there k v m w) = absurd (n k)
      go (it_is_not n t l u) (it_is_not k v m w) = same many (t ∙ sym v) (one_below l m) (one-above u w)

-- ---- a book's sections, and a subtree's r

module _ (b : Book) (x : SoundBook b) where
  -- R ascends,
  pub tops-ascend : Sorted b.R
  unfolding section_of
  tops-ascend = form-sorted b (sound-form b x) Tops

  -- and L,
  pub lows-ascend : Sorted b.L
  unfolding section_of
  lows-ascend = form-sorted b (sound-form b x) Lows

  -- and P.
  pub middles-ascend : Sorted b.P
  unfolding section_of
  middles-ascend = form-sorted b (sound-form b x) Middles

  -- What stands for a deeper subtree is its r of index k.
  pub middle-is_r : (s : Tree) → IsR b.k s (middle b.k s)
  unfolding middle
  middle-is_r s = cut-is_r s b.k (omega (arith, x.least))

-- ---- what judging hands on

-- What a book hands on of an order with an answer.
data HandsOn (b : Book) (t : Tree) (a : Answer) (r : Neighbours) : Type 0 where
  hands_nothing : a.number ≡ done → r ≡ nowhere → HandsOn b t a r
  hands_top : a.number ≡ top_unknown → r ≡ near_of (words (top b.k t)) b.R → HandsOn b t a r
  hands_low : (s : Tree) → a.number ≡ low_unknown → tree_of_line a.line (subtrees t) ≡ found s → r ≡ near_of (words s) b.L → HandsOn b t a r
  hands_middle : (s : Tree) → a.number ≡ middle_unknown → tree_of_line a.line (subtrees t) ≡ found s → r ≡ near_of (words (middle b.k s)) b.P
      → HandsOn b t a r

-- The verdict and what is expected go together so.
hands_on : (b : Book) (t : Tree) → HandsOn b t (verdict b t) (expected b t)
unfolding verdict verdict_on expected expected_on near_top near_part when◌then◌else◌ tree_of_line
hands_on b t = go (least-is b 0 (subtrees t))
  where
    -- Where no line is doubted, by whether R has the top.
    tops : (x : Bool)
        → HandsOn b t (when x then answered done else record { number = top_unknown; line = 1 }) (when x then nowhere else near_of (words (top b.k t)) b.R)
    tops true = hands_nothing refl refl
    tops false = hands_top refl refl

    -- At the doubted line, by whether its subtree is low.
    lines : (j : ℕ) (s : Tree) → tree_at (subtrees t) j ≡ found s → (x : Bool)
        → HandsOn b t (record { number = when x then low_unknown else middle_unknown; line = suc j })
        (when x then near_of (words s) b.L else near_of (words (middle b.k s)) b.P)
    lines j s at true = hands_low s refl at refl
    lines j s at false = hands_middle s refl at refl

    -- By the least line to fix.
    go : LeastIs b 0 (subtrees t) (least_to_fix b 1 (subtrees t))
        → HandsOn b t (verdict_on b t (least_to_fix b 1 (subtrees t))) (expected_on b t (least_to_fix b 1 (subtrees t)))
    go (none-least e f) = rw e (tops (has (words (top b.k t)) b.R))
    go (is-least j s e at n f) =
        let d : least_to_fix b 1 (subtrees t) ≡ doubt (suc j) s = e ∙ ap (λ (m : ℕ). doubt m s) (omega arith) in
        rw d (lines j s at (is_low b.k s))

module _ (ws os : List ℕ) where
  -- So do judging's answer and what it hands on, by any book and order that the words are.
  judge_hands : (l : Lent ws os) → HandsOn l.book l.tree (judge_of ws os) (expected_of ws os)
  judge_hands l =
      let e = order-read os l.tree l.is_order in
      rw (by_verdict ws os l.book l.is_book l.tree e, expects ws os l.book l.is_book l.tree e) (hands_on l.book l.tree)

  -- A number that is not one of the three comes with nothing,
  pub none-handed : Lent ws os → ((judge_of ws os).number ≡ top_unknown → ⊥) → ((judge_of ws os).number ≡ low_unknown → ⊥)
      → ((judge_of ws os).number ≡ middle_unknown → ⊥) → expected_of ws os ≡ nowhere
  none-handed l x y z = go (judge_hands l)
    where
      -- By the answer.
      go : HandsOn l.book l.tree (judge_of ws os) (expected_of ws os) → expected_of ws os ≡ nowhere
      go (hands_nothing f q) = q
      go (hands_top f q) = absurd (x f)
      go (hands_low s f at q) = absurd (y f)
      go (hands_middle s f at q) = absurd (z f)

  -- 20 with what R says of the top,
  pub top-handed : (l : Lent ws os) → (judge_of ws os).number ≡ top_unknown → expected_of ws os ≡ near_of (words (top l.book.k l.tree)) l.book.R
  top-handed l e = go (judge_hands l)
    where
      -- By the answer.
      go : HandsOn l.book l.tree (judge_of ws os) (expected_of ws os) → expected_of ws os ≡ near_of (words (top l.book.k l.tree)) l.book.R
      go (hands_nothing f q) = absurd (omega arith)
      go (hands_top f q) = q
      go (hands_low s f at q) = absurd (omega arith)
      go (hands_middle s f at q) = absurd (omega arith)

  -- The subtrees of one line are one.
  one-subtree : (t s u : Tree) (line : ℕ) → tree_of_line line (subtrees t) ≡ found s → tree_of_line line (subtrees t) ≡ found u → s ≡ u
  one-subtree t s u line e f = let z : found s ≡ found u = sym e ∙ f in cc

  -- 21 with what L says of the reported line's subtree,
  pub low-handed : (l : Lent ws os) (s : Tree) → (judge_of ws os).number ≡ low_unknown → tree_of_line (judge_of ws os).line (subtrees l.tree) ≡ found s
      → expected_of ws os ≡ near_of (words s) l.book.L
  low-handed l s e on = go (judge_hands l)
    where
      -- By the answer.
      go : HandsOn l.book l.tree (judge_of ws os) (expected_of ws os) → expected_of ws os ≡ near_of (words s) l.book.L
      go (hands_nothing f q) = absurd (omega arith)
      go (hands_top f q) = absurd (omega arith)
      go (hands_low u f at q) = q ∙ ap (λ (c : Tree). near_of (words c) l.book.L) (one-subtree l.tree u s _ at on)
      go (hands_middle u f at q) = absurd (omega arith)

  -- and 22 with what P says of what stands for it.
  pub middle-handed : (l : Lent ws os) (s : Tree) → (judge_of ws os).number ≡ middle_unknown → tree_of_line (judge_of ws os).line (subtrees l.tree) ≡ found s
      → expected_of ws os ≡ near_of (words (middle l.book.k s)) l.book.P
  middle-handed l s e on = go (judge_hands l)
    where
      -- By the answer.
      go : HandsOn l.book l.tree (judge_of ws os) (expected_of ws os) → expected_of ws os ≡ near_of (words (middle l.book.k s)) l.book.P
      go (hands_nothing f q) = absurd (omega arith)
      go (hands_top f q) = absurd (omega arith)
      go (hands_low u f at q) = absurd (omega arith)
      go (hands_middle u f at q) = q ∙ ap (λ (c : Tree). near_of (words (middle l.book.k c)) l.book.P) (one-subtree l.tree u s _ at on)

-- ---- the numbers with which something is handed on

-- A number is one of these, or none.
pub data Reported (n : ℕ) : Type 0 where
  for_top : n ≡ top_unknown → Reported n
  for_low : n ≡ low_unknown → Reported n
  for_middle : n ≡ middle_unknown → Reported n
  for_none : (n ≡ top_unknown → ⊥) → (n ≡ low_unknown → ⊥) → (n ≡ middle_unknown → ⊥) → Reported n

-- Each number is.
pub reported : (n : ℕ) → Reported n
reported n = go (eqb n top_unknown) refl (eqb n low_unknown) refl (eqb n middle_unknown) refl
  where
    -- By the three tests.
    go : (x : Bool) → eqb n top_unknown ≡ x → (y : Bool) → eqb n low_unknown ≡ y → (z : Bool) → eqb n middle_unknown ≡ z → Reported n
    go true e y f z g = for_top (eqb-true _ _ e)
    go false e true f z g = for_low (eqb-true _ _ f)
    go false e false f true g = for_middle (eqb-true _ _ g)
    go false e false f false g = for_none (eqb-false _ _ e) (eqb-false _ _ f) (eqb-false _ _ g)
