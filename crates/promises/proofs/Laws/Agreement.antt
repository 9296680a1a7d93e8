-- A book in form passes the test `agreeing` exactly if its R, L and P count each tree by the live teachings whose order has it, as document 000
-- defines the parts. Assumes nothing.
use Prim.Native.Nat.{ℕ, ◌+◌, ◌-◌, ◌≤◌}
use mathlib.Core.Path.{◌≡◌, refl, sym, ap, subst, ◌∙◌}
use mathlib.Core.Bool.{Bool, true, false}
use mathlib.Core.List.Memᴰ
use mathlib.Core.List.Memᴰ.{head as here}
use mathlib.Core.List.{List, [], ◌∷◌}
use native.Mathlib.Omega.{arith}
use Rattle.words.specs.Base.{◌∈◌, ◌exactly_when◌}
use Rattle.words.proofs.Tests.{no_test, and_both}
use Rattle.figures.specs.Limits.{least_k}
use Rattle.section.specs.Entries.{Entry, has, count_of, Sorted}
use Rattle.section.proofs.Counts.{has-entry, lacks_counts}
use Rattle.section.proofs.Sorting.{same-counts}
use Rattle.order.specs.Trees.{Tree, words}
use Rattle.order.specs.Fits.{IsOrder}
use Rattle.order.specs.Paper.{IsR, IsL, IsP}
use Rattle.order.proofs.Fitting.{fits-order_of}
use Rattle.book.specs.Book.{Book, section_of, in_form}
use Rattle.book.specs.Sound.{SoundBook}
use Rattle.book.specs.Taught.{Teaching, book_of, teachings_in, any_tree, agreeing, trees_in, times_in}
use Rattle.book.specs.declared.Section.{Section}
use Rattle.book.specs.declared.Section.TheVariants.{Tops, Lows, Middles}
use Rattle.book.proofs.Sound.{form-sound, sound-form, sound-section}
use Rattle.book.proofs.Taught.{any_in, in_any, taught-k, each-keys, section-same, none_in}
use Rattle.book.proofs.Teachings.{taught-section, times-counted, times-other, count-after_taught}
use Rattle.book.proofs.Sections.{form-sorted}
use Rattle.book.proofs.Agreeing.{TaughtOrders, form-orders, later-taught, first, teachings-sorted, agreeing-is}
use Rattle.promises.specs.Remaining.{HasPart}
use Rattle.promises.specs.Agreement.{CountsOf, no_entry, counts, counts_not, Agrees}
use Rattle.promises.proofs.Laws.Orders.{top_part, part-top, low_part, part_low, middle-part, part-middle}

-- ---- the number that counts come to

-- The counts of the entries with a property come to one number only.
one-sum : {Q : List ℕ → Type 0} {es : List Entry} {m n : ℕ} → CountsOf Q es m → CountsOf Q es n → m ≡ n
one-sum no_entry no_entry = refl
one-sum (counts q c) (counts p d) = omega (arith, one-sum c d)
one-sum (counts q c) (counts_not x d) = absurd (x q)
one-sum (counts_not x c) (counts q d) = absurd (x q)
one-sum (counts_not x c) (counts_not y d) = one-sum c d

-- ---- the book of the teachings that a T counts

module _ (k : ℕ) (s : Section) where
  -- With one entry more in T the book of its teachings counts a tree more by the entry's count, where a teaching of its order counts the tree.
  entry_more : (u : Tree) (e : Entry) (es : List Entry) (t : Tree) → teachings_in (e ∷ es) ≡ record { order = t; times = e.count } ∷ teachings_in es
      → count_of (words u) (section_of s (book_of k (teachings_in (e ∷ es)))) ≡ times_in s k e.count t u + count_of (words u) (section_of s (book_of k (teachings_in es)))
  unfolding book_of
  entry_more u e es t reads =
      ap (λ (os : List Teaching). count_of (words u) (section_of s (book_of k os))) reads
      ∙ count-after_taught e.count t u (book_of k (teachings_in es)) s
      ∙ ap (λ (j : ℕ). times_in s j e.count t u + count_of (words u) (section_of s (book_of k (teachings_in es)))) (taught-k k (teachings_in es))

  -- It counts a tree in a section by the counts of T's entries with a property, if an order has the property exactly where its teaching
  -- counts the tree there.
  counts-in : (u : Tree) (Q : List ℕ → Type 0) → ((os : List ℕ) (t : Tree) → IsOrder os t → u ∈ trees_in s k t → Q os) → ((os : List ℕ) (t : Tree) → IsOrder os t → Q os → u ∈ trees_in s k t)
      → (es : List Entry) → TaughtOrders es → CountsOf Q es (count_of (words u) (section_of s (book_of k (teachings_in es))))
  counts-in u Q from to [] all = unfold teachings_in count_of in rw (none_in s k) no_entry
  counts-in u Q from to (e ∷ es) all =
      let f = first e es all in
      let o : IsOrder e.key f.tree = fits-order_of e.key f.tree f.spelt (all.limits e (here refl)) in
      go f.tree o (entry_more u e es f.tree f.reads) (any_tree u (trees_in s k f.tree)) refl (counts-in u Q from to es (later-taught e es all))
    where
      -- What the tree counts by all the entries.
      whole : ℕ
      whole = count_of (words u) (section_of s (book_of k (teachings_in (e ∷ es))))

      -- What it counts by those past the first.
      rest : ℕ
      rest = count_of (words u) (section_of s (book_of k (teachings_in es)))

      -- By whether a teaching of the first entry's order counts the tree.
      go : (t : Tree) → IsOrder e.key t → whole ≡ times_in s k e.count t u + rest → (b : Bool) → any_tree u (trees_in s k t) ≡ b → CountsOf Q es rest → CountsOf Q (e ∷ es) whole
      go t o more true a next =
          let m : u ∈ trees_in s k t = any_in u (trees_in s k t) a in
          let n : whole ≡ e.count + rest = omega (arith, more, times-counted s k e.count t u m) in
          rw n (counts (from e.key t o m) next)
      go t o more false a next =
          let lacks : u ∈ trees_in s k t → ⊥ = λ m. no_test (sym a ∙ in_any u m) in
          let n : whole ≡ rest = omega (arith, more, times-other s k e.count t u lacks) in
          rw n (counts_not (λ q. lacks (to e.key t o q)) next)

  -- Each key in the book of teachings is the words of a tree.
  keys_trees : (os : List Teaching) (e : Entry) → e ∈ section_of s (book_of k os) → (u : Tree) × (e.key ≡ words u)
  keys_trees [] e m = absurd (Memᴰ.not-nil (rw (none_in s k) at m))
  keys_trees (o ∷ os) e m =
      each-keys (λ (x : List ℕ). (u : Tree) × (x ≡ words u)) o.times (trees_in s (book_of k os).k o.order) (section_of s (book_of k os)) (λ t i. (t, refl)) (keys_trees os) e
      (unfold book_of in rw (taught-section o.times o.order (book_of k os) s) at m)

-- ---- sections with the same counts of every tree

-- Two sorted sections whose keys are words of trees, with equal counts of every tree, are equal.
pub same-trees : (a c : List Entry) → Sorted a → Sorted c → ((e : Entry) → e ∈ a → (u : Tree) × (e.key ≡ words u)) → ((e : Entry) → e ∈ c → (u : Tree) × (e.key ≡ words u))
    → ((u : Tree) → count_of (words u) a ≡ count_of (words u) c) → a ≡ c
same-trees a c sa sc ta tc same = same-counts a c sa sc (λ z. go z (has z a) refl (has z c) refl)
  where
    -- A key that has an entry is a tree's words, and so counts the same.
    by_tree : (z : List ℕ) (e : Entry) → e.key ≡ z → (u : Tree) × (e.key ≡ words u) → count_of z a ≡ count_of z c
    by_tree z e k t = subst (λ (x : List ℕ). count_of x a ≡ count_of x c) (sym t.1 ∙ k) (same t.0)

    -- By which of the two has an entry of the key.
    go : (z : List ℕ) (p : Bool) → has z a ≡ p → (q : Bool) → has z c ≡ q → count_of z a ≡ count_of z c
    go z true h q i = let x = has-entry z a h in by_tree z x.0 x.2 (ta x.0 x.1)
    go z false h true i = let x = has-entry z c i in by_tree z x.0 x.2 (tc x.0 x.1)
    go z false h false i = lacks_counts z a sa h ∙ sym (lacks_counts z c sc i)

-- Each key of a sound book is the words of a tree.
pub sound-trees : (b : Book) → SoundBook b → (s : Section) (e : Entry) → e ∈ section_of s b → (u : Tree) × (e.key ≡ words u)
sound-trees b x s e m = let f = ((sound-section b x s).entry e m).tree in (f.tree, f.is_order.spelt)

-- ---- agreeing

module _ (b : Book) (form : in_form b ≡ true) where
  -- The book of the teachings that its T counts.
  abbrev own : Book
  own = book_of b.k (teachings_in b.T)

  -- k is at least 2.
  two : least_k ≤ b.k
  two = (form-sound b form).least

  -- That book counts each tree in R by the live teachings whose order has it as r.
  own_tops : (u : Tree) → CountsOf (HasPart (IsR (b.k - 1)) u) b.T (count_of (words u) own.R)
  unfolding section_of
  own_tops u = counts-in b.k Tops u (HasPart (IsR (b.k - 1)) u) (top_part b.k u two) (part-top b.k u two) b.T (form-orders b form)

  -- It counts each tree in L by those whose order has it in l.
  own_lows : (u : Tree) → CountsOf (HasPart (IsL (b.k - 1)) u) b.T (count_of (words u) own.L)
  unfolding section_of
  own_lows u = counts-in b.k Lows u (HasPart (IsL (b.k - 1)) u) (low_part b.k u two) (part_low b.k u two) b.T (form-orders b form)

  -- It counts each tree in P by those whose order has it in p.
  own_middles : (u : Tree) → CountsOf (HasPart (IsP b.k) u) b.T (count_of (words u) own.P)
  unfolding section_of
  own_middles u = counts-in b.k Middles u (HasPart (IsP b.k) u) (middle-part b.k u two) (part-middle b.k u two) b.T (form-orders b form)

  -- A section that counts every tree as that book's does is the same.
  own_section : (s : Section) → ((u : Tree) → count_of (words u) (section_of s b) ≡ count_of (words u) (section_of s own)) → section_of s b ≡ section_of s own
  own_section s same =
      same-trees (section_of s b) (section_of s own) (form-sorted b form s) (teachings-sorted b.k b.T (form-orders b form) s)
      (sound-trees b (form-sound b form) s)
      (keys_trees b.k s (teachings_in b.T))
      same

  -- A book that passes the test counts as document 000's parts say.
  passed-agrees : agreeing b ≡ true → Agrees b
  passed-agrees a =
      let is : own ≡ b = sym (agreeing-is b form a) in
      record {
        tops = λ u. subst (λ (c : Book). CountsOf (HasPart (IsR (b.k - 1)) u) b.T (count_of (words u) c.R)) is (own_tops u);
        lows = λ u. subst (λ (c : Book). CountsOf (HasPart (IsL (b.k - 1)) u) b.T (count_of (words u) c.L)) is (own_lows u);
        middles = λ u. subst (λ (c : Book). CountsOf (HasPart (IsP b.k) u) b.T (count_of (words u) c.P)) is (own_middles u);
      }

  -- And one that counts as they say passes it.
  agrees-passed : Agrees b → agreeing b ≡ true
  unfolding agreeing section_of
  agrees-passed g =
      let r : b.R ≡ own.R = own_section Tops (λ u. one-sum (g.tops u) (own_tops u)) in
      let l : b.L ≡ own.L = own_section Lows (λ u. one-sum (g.lows u) (own_lows u)) in
      let p : b.P ≡ own.P = own_section Middles (λ u. one-sum (g.middles u) (own_middles u)) in
      and_both (section-same _ _ r) (and_both (section-same _ _ l) (section-same _ _ p))

-- A book in form passes the test exactly if it agrees with itself: each count in R, L and P is "the number of live teachings whose order has
-- that part".
agreeing-exactly : (b : Book) → in_form b ≡ true → (agreeing b ≡ true) exactly_when Agrees b
agreeing-exactly b form = (passed-agrees b form, agrees-passed b form)

-- So it is of a sound book.
pub sound-agreeing : (b : Book) → SoundBook b → (agreeing b ≡ true) exactly_when Agrees b
sound-agreeing b s = agreeing-exactly b (sound-form b s)
