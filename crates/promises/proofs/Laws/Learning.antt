-- What passes by a book that agrees with itself is what is learnt from the orders that its T has, and the forms of the trees of R, L and P are just that; what
-- passes by the book of the orders that remain is what is learnt from these. Assumes nothing.
use Prim.Native.Nat.{ℕ, ◌-◌, ◌≤◌}
use mathlib.Core.Path.{◌≡◌, refl, sym, ap, subst, ◌∙◌}
use mathlib.Core.List.Memᴰ
use mathlib.Core.List.Memᴰ.{head as here}
use mathlib.Core.List.Memᴰ.{tail as there}
use mathlib.Core.List.{List, [], ◌∷◌}
use native.Mathlib.Omega.{arith}
use Rattle.words.specs.Base.{◌∈◌, ◌exactly_when◌}
use Rattle.section.specs.Entries.{Entry, count_of, Sorted}
use Rattle.order.specs.Trees.{Tree, words, Good}
use Rattle.order.specs.Reading.{by_found, TreeFound, missing, found, tree_of}
use Rattle.order.specs.Fits.{IsOrder}
use Rattle.order.specs.Paper.{IsR, IsL, IsP}
use Rattle.order.proofs.Orders.{words-read, read-words}
use Rattle.order.proofs.Reading.{not_found}
use Rattle.order.proofs.Unique.{words-unique}
use Rattle.order_learning.specs.Learning.{OneOf, LetIn, Learnt}
use Rattle.order_learning.proofs.Least.{widened}
use Rattle.book.specs.Book.{Book, section_of}
use Rattle.book.specs.Sound.{SoundSection, SoundBook}
use Rattle.book.specs.declared.Section.{Section}
use Rattle.book.specs.declared.Section.TheVariants.{Tops, Lows, Middles}
use Rattle.book.proofs.Sound.{sound-form}
use Rattle.book.proofs.Sections.{form-sorted}
use Rattle.book_judging.specs.Verdicts.{In, Passes}
use Rattle.promises.specs.Remaining.{HasPart, SomeHas, MadeOf}
use Rattle.promises.specs.Agreement.{CountsOf, no_entry, counts, counts_not, Agrees}
use Rattle.promises.specs.NoMore.{FormOf, TaughtIn, trees_of, sets_of, Remains}
use Rattle.promises.proofs.Laws.Passing.{in_counts, counted-in}

-- Passing is being let in by the trees of R, L and P.
pub passes-let_in : (b : Book) (t : Tree) → Passes b t exactly_when LetIn b.k (In b.R) (In b.L) (In b.P) t
passes-let_in b t = (λ p. record { top = p.top; lows = p.lows; middles = p.middles }, λ l. record { top = l.top; lows = l.lows; middles = l.middles })

-- ---- counts that come to at least one

-- Where the counts of the entries with a property come to at least one, some entry has it.
counts_some : {Q : List ℕ → Type 0} {es : List Entry} {n : ℕ} → CountsOf Q es n → 1 ≤ n → (e : Entry) × (e ∈ es) × Q e.key
counts_some no_entry h = absurd (omega arith)
counts_some (counts {e} q c) h = (e, here refl, q)
counts_some (counts_not x c) h = let r = counts_some c h in (r.0, there r.1, r.2)

-- Where some entry that counts has it, they come to at least one.
some-counts : {Q : List ℕ → Type 0} {e : Entry} {es : List Entry} {n : ℕ} → e ∈ es → 1 ≤ e.count → Q e.key → CountsOf Q es n → 1 ≤ n
some-counts (here p) one q (counts y c) = omega (arith, ap (λ (f : Entry). f.count) p)
some-counts {Q} (here p) one q (counts_not x c) = absurd (x (subst (λ (f : Entry). Q f.key) p q))
some-counts (there m) one q (counts y c) = omega (arith, some-counts m one q c)
some-counts (there m) one q (counts_not x c) = some-counts m one q c

-- ---- by the taught orders

module _ (b : Book) (sound : SoundBook b) where
  -- The words of a taught order, in the entry that has them, are an order within limits.
  taught-order : (t : Tree) (i : TaughtIn b t) → IsOrder i.entry.key t
  taught-order t i =
      let f = (sound.taught.entry i.entry i.there).tree in
      subst (IsOrder i.entry.key) (words-unique f.tree t (sym f.is_order.spelt ∙ i.spelt)) f.is_order

  module _ (Part : Tree → Tree → Type 0) (es : List Entry) (sorted : Sorted es) (u : Tree) (counted : CountsOf (HasPart Part u) b.T (count_of (words u) es)) where
    -- Where a tree counts in a section by the taught orders that have it as a part, it is in the section exactly if one of them has it.
    in_taught : In es u exactly_when OneOf (TaughtIn b) (λ s. Part s u)
    in_taught = (from, to)
      where
        -- What has an entry counts at least one of them.
        from : In es u → OneOf (TaughtIn b) (λ s. Part s u)
        from i =
            let r = counts_some counted (in_counts es u sorted i) in
            record { order = r.2.tree; among = record { entry = r.0; there = r.1; spelt = r.2.is_order.spelt }; has = r.2.part }

        -- What one of them has counts.
        to : OneOf (TaughtIn b) (λ s. Part s u) → In es u
        to x =
            let i : TaughtIn b x.order = x.among in
            let h : HasPart Part u i.entry.key = record { tree = x.order; is_order = taught-order x.order i; part = x.has } in
            counted-in es u sorted (some-counts i.there (sound.taught.entry i.entry i.there).some h counted)

  module _ (agrees : Agrees b) where
    -- The sections are sorted.
    sorted-in : (s : Section) → Sorted (section_of s b)
    sorted-in = form-sorted b (sound-form b sound)

    -- R has just the tops of the taught orders.
    in_tops : (u : Tree) → In b.R u exactly_when OneOf (TaughtIn b) (λ s. IsR (b.k - 1) s u)
    unfolding section_of
    in_tops u = in_taught (IsR (b.k - 1)) b.R (sorted-in Tops) u (agrees.tops u)

    -- L has just their low parts.
    in_lows : (u : Tree) → In b.L u exactly_when OneOf (TaughtIn b) (λ s. IsL (b.k - 1) s u)
    unfolding section_of
    in_lows u = in_taught (IsL (b.k - 1)) b.L (sorted-in Lows) u (agrees.lows u)

    -- P has just their middle parts.
    in_middles : (u : Tree) → In b.P u exactly_when OneOf (TaughtIn b) (λ s. IsP b.k s u)
    unfolding section_of
    in_middles u = in_taught (IsP b.k) b.P (sorted-in Middles) u (agrees.middles u)

    -- A book that agrees with itself passes exactly what is learnt from its taught orders at its k.
    pub passes-learnt : (t : Tree) → Passes b t exactly_when Learnt b.k (TaughtIn b) t
    passes-learnt t = (
      λ p. widened b.k (λ u. (in_tops u).0) (λ u. (in_lows u).0) (λ u. (in_middles u).0) t ((passes-let_in b t).0 p),
      λ l. (passes-let_in b t).1 (widened b.k (λ u. (in_tops u).1) (λ u. (in_lows u).1) (λ u. (in_middles u).1) t l),
    )

-- ---- by the book's own three sets

-- A tree among those of a section is in the section,
listed_in_lem : (es : List Entry) (u : Tree) → u ∈ trees_of es → In es u
unfolding trees_of by_found
listed_in_lem [] u m = absurd (Memᴰ.not-nil m)
listed_in_lem (e ∷ es) u m = go (tree_of e.key) refl m (listed_in_lem es u)
  where
    -- By what the first entry's words are read as.
    go : (x : TreeFound) → tree_of e.key ≡ x → u ∈ by_found x (trees_of es) (λ t. t ∷ trees_of es) → (u ∈ trees_of es → In es u) → In (e ∷ es) u
    go missing q i later = let r = later i in record { entry = r.entry; there = there r.there; spelt = r.spelt }
    go (found t) q (here p) later = record { entry = e; there = here refl; spelt = (read-words e.key t q).0 ∙ ap words (sym p) }
    go (found t) q (there i) later = let r = later i in record { entry = r.entry; there = there r.there; spelt = r.spelt }

-- and a good tree that is in the section is among them.
in_listed : (es : List Entry) (u : Tree) → Good u → (e : Entry) → e ∈ es → e.key ≡ words u → u ∈ trees_of es
unfolding trees_of by_found
in_listed [] u g e m q = absurd (Memᴰ.not-nil m)
in_listed (f ∷ es) u g e m q = go (tree_of f.key) refl m (λ i. in_listed es u g e i q)
  where
    -- By what the first entry's words are read as, and whether it is the one.
    go : (x : TreeFound) → tree_of f.key ≡ x → e ∈ f ∷ es → (e ∈ es → u ∈ trees_of es) → u ∈ by_found x (trees_of es) (λ t. t ∷ trees_of es)
    go missing p (here i) later = not_found (sym p ∙ ap (λ (y : Entry). tree_of y.key) (sym i) ∙ ap tree_of q ∙ words-read u g)
    go (found t) p (here i) later = here (words-unique u t (sym q ∙ ap (λ (y : Entry). y.key) i ∙ (read-words f.key t p).0))
    go missing p (there i) later = later i
    go (found t) p (there i) later = there (later i)

-- So the trees of a sound section are just those that are in it.
listed-exactly : {least greatest : ℕ} (es : List Entry) → SoundSection least greatest es → (u : Tree) → In es u exactly_when (u ∈ trees_of es)
listed-exactly es sound u = (λ i. in_listed es u (good i) i.entry i.there i.spelt, listed_in_lem es u)
  where
    -- A tree in it is good.
    good : In es u → Good u
    good i =
        let f = (sound.entry i.entry i.there).tree in
        subst Good (words-unique f.tree u (sym f.is_order.spelt ∙ i.spelt)) f.is_order.good

-- The forms of a book's own three sets are just what passes, agreeing or not.
pub passes-own_form : (b : Book) → SoundBook b → (t : Tree) → Passes b t exactly_when FormOf b.k (sets_of b) t
passes-own_form b sound t =
    let tops = listed-exactly b.R sound.tops in
    let lows = listed-exactly b.L sound.lows in
    let middles = listed-exactly b.P sound.middles in (
      λ p. widened b.k (λ u. (tops u).0) (λ u. (lows u).0) (λ u. (middles u).0) t ((passes-let_in b t).0 p),
      λ f. (passes-let_in b t).1 (widened b.k (λ u. (tops u).1) (λ u. (lows u).1) (λ u. (middles u).1) t f),
    )

-- ---- by the orders that remain

module _ (orders : List (List ℕ)) where
  module _ (Part : Tree → Tree → Type 0) (u : Tree) where
    -- One of the orders has a part exactly if a tree that remains has it.
    some-remains : SomeHas Part u orders exactly_when OneOf (Remains orders) (λ s. Part s u)
    some-remains = (
      λ x. let h = x.has in
          record {
            order = h.tree;
            among = record {
              among = subst (λ (os : List ℕ). os ∈ orders) h.is_order.spelt x.among;
              is_order = subst (λ (os : List ℕ). IsOrder os h.tree) h.is_order.spelt h.is_order;
            };
            has = h.part;
          },
      λ x. record { one = words x.order; among = x.among.among; has = record { tree = x.order; is_order = x.among.is_order; part = x.has } },
    )

  -- An order is made only of parts of the orders that remain exactly if it is learnt from them.
  pub made_learnt : (k : ℕ) (t : Tree) → MadeOf k orders t exactly_when Learnt k (Remains orders) t
  made_learnt k t = (
    λ g. record {
      top = λ u r. (some-remains (IsR (k - 1)) u).0 (g.top u r);
      lows = λ u l. (some-remains (IsL (k - 1)) u).0 (g.lows u l);
      middles = λ u p. (some-remains (IsP k) u).0 (g.middles u p);
    },
    λ l. record {
      top = λ u r. (some-remains (IsR (k - 1)) u).1 (l.top u r);
      lows = λ u x. (some-remains (IsL (k - 1)) u).1 (l.lows u x);
      middles = λ u p. (some-remains (IsP k) u).1 (l.middles u p);
    },
  )
