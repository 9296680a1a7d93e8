-- By a book judging answers 0 for an order exactly if it passes, and by a book of exactly the orders that remain exactly if it is made only of parts of
-- these; so each of them passes. Assumes nothing.
use Prim.Native.Nat.{ℕ, ◌-◌, ◌≤◌}
use mathlib.Core.Path.{◌≡◌, refl, sym, ap, subst}
use mathlib.Core.List.Memᴰ.{head as here}
use mathlib.Core.List.Memᴰ.{tail as there}
use mathlib.Core.List.{List}
use native.Mathlib.Omega.{arith}
use Rattle.words.specs.Base.{◌∈◌, ◌exactly_when◌}
use Rattle.figures.specs.Numbers.{done}
use Rattle.figures.specs.declared.Answer.{Answer}
use Rattle.section.specs.Entries.{Entry, count_of, Sorted}
use Rattle.section.proofs.Counts.{has-entry, entry_has, has-counts, counts-has}
use Rattle.order.specs.Trees.{Tree, words}
use Rattle.order.specs.Fits.{IsOrder}
use Rattle.order.specs.Paper.{IsR, IsL, IsP}
use Rattle.book.specs.Book.{Book, section_of}
use Rattle.book.specs.Sound.{IsBook}
use Rattle.book.specs.declared.Section.{Section}
use Rattle.book.specs.declared.Section.TheVariants.{Tops, Lows, Middles}
use Rattle.book.proofs.Sound.{sound-form, book-only}
use Rattle.book.proofs.Sections.{form-sorted}
use Rattle.book_judging.specs.Judging.{judge_of}
use Rattle.book_judging.specs.Verdicts.{In, Passes, PassesBy}
use Rattle.book_judging.proofs.Answers.{answered-passes, passes-answered}
use Rattle.promises.specs.Remaining.{HowMany, none_left, one_more, not_this, HasPart, ExactlyThese, SomeHas, MadeOf}
use Rattle.promises.proofs.Laws.Orders.{one-tree}

-- ---- by one book

-- Words that are a book and an order: judging answers 0 exactly if the order passes by the book.
pub judged-exactly : (ws os : List ℕ) (b : Book) (t : Tree) → IsBook ws b → IsOrder os t → ((judge_of ws os).number ≡ done) exactly_when Passes b t
judged-exactly ws os b t i o = (from, to)
  where
    -- What is answered by 0 passes by a book and as a tree, and the words have no other.
    from : (judge_of ws os).number ≡ done → Passes b t
    from e =
        let p : PassesBy ws os = answered-passes ws os e in
        subst (λ (c : Book). Passes c t) (book-only ws p.lent.book b p.lent.is_book i)
        (subst (Passes p.lent.book) (one-tree p.lent.is_order o) p.passes)

    -- What passes is answered by 0.
    to : Passes b t → (judge_of ws os).number ≡ done
    to p = ap (λ (a : Answer). a.number) (passes-answered ws os (record { lent = record { book = b; tree = t; is_book = i; is_order = o }; passes = p }))

-- ---- how many, and whether some

-- Where at least one member has a property, some member has it.
many-some : {A : Type 0} {Q : A → Type 0} {l : List A} {n : ℕ} → HowMany Q l n → 1 ≤ n → (a : A) × (a ∈ l) × Q a
many-some none_left h = absurd (omega arith)
many-some (one_more {a} q m) h = (a, here refl, q)
many-some (not_this x m) h = let r = many-some m h in (r.0, there r.1, r.2)

-- Where some member has it, at least one does.
some-many : {A : Type 0} {Q : A → Type 0} {a : A} {l : List A} {n : ℕ} → a ∈ l → Q a → HowMany Q l n → 1 ≤ n
some-many {A = A} {Q = Q} {a = a} i q none_left = elim i [ ]
some-many i q (one_more p m) = omega arith
some-many {Q} (here e) q (not_this x m) = absurd (x (subst Q e q))
some-many (there i) q (not_this x m) = some-many i q m

-- ---- in a section

module _ (es : List Entry) (u : Tree) (sorted : Sorted es) where
  -- A tree in a sorted section counts there.
  pub in_counts : In es u → 1 ≤ count_of (words u) es
  in_counts i = has-counts (words u) es sorted (entry_has (words u) i.there i.spelt)

  -- A tree that counts there is in it.
  pub counted-in : 1 ≤ count_of (words u) es → In es u
  counted-in h =
      let x = has-entry (words u) es (counts-has (words u) es sorted h) in
      record { entry = x.0; there = x.1; spelt = x.2 }

  -- If it counts there by how many orders have it as a part, it is in the section exactly if one of the orders has it.
  in_some : (Part : Tree → Tree → Type 0) (orders : List (List ℕ)) → HowMany (HasPart Part u) orders (count_of (words u) es) → In es u exactly_when SomeHas Part u orders
  in_some Part orders m = (from, to)
    where
      -- An entry counts at least one of the orders.
      from : In es u → SomeHas Part u orders
      from i = let r = many-some m (in_counts i) in record { one = r.0; among = r.1; has = r.2 }

      -- One of the orders counts in the section.
      to : SomeHas Part u orders → In es u
      to x = counted-in (some-many x.among x.has m)

-- ---- by the book of the orders that remain

module _ (k : ℕ) (orders : List (List ℕ)) (ws : List ℕ) (x : ExactlyThese k orders ws) where
  -- The sections of the book are sorted.
  sorted-in : (s : Section) → Sorted (section_of s x.book)
  sorted-in = form-sorted x.book (sound-form x.book x.is_book.sound)

  -- R has just the tops of the orders.
  in_tops : (u : Tree) → In x.book.R u exactly_when SomeHas (IsR (k - 1)) u orders
  unfolding section_of
  in_tops u = in_some x.book.R u (sorted-in Tops) (IsR (k - 1)) orders (x.tops u)

  -- L has just their low parts.
  in_lows : (u : Tree) → In x.book.L u exactly_when SomeHas (IsL (k - 1)) u orders
  unfolding section_of
  in_lows u = in_some x.book.L u (sorted-in Lows) (IsL (k - 1)) orders (x.lows u)

  -- P has just their middle parts.
  in_middles : (u : Tree) → In x.book.P u exactly_when SomeHas (IsP k) u orders
  unfolding section_of
  in_middles u = in_some x.book.P u (sorted-in Middles) (IsP k) orders (x.middles u)

  module _ (t : Tree) where
    -- An order that passes by the book is made of parts of the orders.
    passing-made : Passes x.book t → MadeOf k orders t
    passing-made p = record {
      top = λ u r. (in_tops u).0 (p.top u (subst (λ (j : ℕ). IsR (j - 1) t u) (sym x.depth) r));
      lows = λ u l. (in_lows u).0 (p.lows u (subst (λ (j : ℕ). IsL (j - 1) t u) (sym x.depth) l));
      middles = λ u m. (in_middles u).0 (p.middles u (subst (λ (j : ℕ). IsP j t u) (sym x.depth) m));
    }

    -- An order that is made of such parts passes.
    made_passes : MadeOf k orders t → Passes x.book t
    made_passes g = record {
      top = λ u r. (in_tops u).1 (g.top u (subst (λ (j : ℕ). IsR (j - 1) t u) x.depth r));
      lows = λ u l. (in_lows u).1 (g.lows u (subst (λ (j : ℕ). IsL (j - 1) t u) x.depth l));
      middles = λ u m. (in_middles u).1 (g.middles u (subst (λ (j : ℕ). IsP j t u) x.depth m));
    }

-- Where the words are exactly the book of the orders that remain, judging an order answers 0 exactly if it is "made only of parts the book has
-- seen".
pub passes-made : (k : ℕ) (orders : List (List ℕ)) (ws os : List ℕ) (t : Tree) → ExactlyThese k orders ws → IsOrder os t → ((judge_of ws os).number ≡ done) exactly_when MadeOf k orders t
passes-made k orders ws os t x o =
    let j = judged-exactly ws os x.book t x.is_book o in
    (λ e. passing-made k orders ws x t (j.0 e), λ g. j.1 (made_passes k orders ws x t g))

-- An order is made of its own parts, so each of the orders passes by their book.
pub among-passes : (k : ℕ) (orders : List (List ℕ)) (ws os : List ℕ) (t : Tree) → ExactlyThese k orders ws → os ∈ orders → IsOrder os t → (judge_of ws os).number ≡ done
among-passes k orders ws os t x m o = (passes-made k orders ws os t x o).1 (record {
  top = λ u r. own (IsR (k - 1)) u r;
  lows = λ u l. own (IsL (k - 1)) u l;
  middles = λ u p. own (IsP k) u p;
})
  where
    -- The order itself is one that has its part.
    own : (Part : Tree → Tree → Type 0) (u : Tree) → Part t u → SomeHas Part u orders
    own Part u p = record { one = os; among = m; has = record { tree = t; is_order = o; part = p } }
