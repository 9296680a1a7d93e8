-- Two books that agree with themselves, joined: the sum of both, in form and agreeing again, the same either way round and however three are grouped.
-- Assumes nothing.
use Prim.Native.Nat.{ℕ, ◌+◌, ◌≤◌, ◌<◌}
use mathlib.Core.Path.{◌≡◌, sym, ap, ap₂, ◌∙◌}
use mathlib.Core.Bool.{true, false}
use mathlib.Core.List.{List, [], ◌++◌, append-nil}
use native.Mathlib.Omega.{arith}
use borrow.Author.Tests.{le-leb, lt-leb}
use Rattle.words.proofs.Tests.{and_both, fails_left}
use Rattle.figures.specs.Limits.{greatest_count}
use Rattle.section.specs.Entries.{count_of}
use Rattle.book.specs.Book.{Book, section_of, used, live, in_form}
use Rattle.book.specs.Taught.{Teaching, book_of, teachings_in, agreeing}
use Rattle.book.specs.declared.Section.{Section}
use Rattle.book.specs.declared.Section.TheVariants.{Taught, Tops, Lows, Middles}
use Rattle.book.proofs.Sound.{form-sound, sound-form}
use Rattle.book.proofs.Taught.{taught-formed}
use Rattle.book.proofs.Sections.{form-sorted, InOrder, by_counts}
use Rattle.book.proofs.Agreeing.{agreeing-is}
use Rattle.book_change.specs.Counts.{within_counts}
use Rattle.book_change.proofs.Sections.{form-fitting}
use Rattle.book_change.proofs.Changed.{live-changed}
use Rattle.book_change.proofs.Sums.{added, added_k, added_counts, added_turns, added_groups, added_uses}
use Rattle.book_joining.specs.Joining.{CountsAdded, joined}
use Rattle.book_joining.proofs.Teachings.{Taken, both_taken, form-taken, append-adds, taken_agrees}

-- A book in form that agrees with itself is the book of the teachings that its T counts; and these are live, of orders within limits.
pub record Grown (b : Book) : Type 0 where
  pub form : in_form b ≡ true
  pub agrees : agreeing b ≡ true
  pub taken : Taken (teachings_in b.T)
  pub is : b ≡ book_of b.k (teachings_in b.T)

-- It is one.
pub grown : (b : Book) → in_form b ≡ true → agreeing b ≡ true → Grown b
grown b f a = record { form = f; agrees = a; taken = form-taken b f; is = agreeing-is b f a }

-- Its sections are sorted.
in_order : (b : Book) → Grown b → InOrder b
in_order b g = form-sorted b g.form

module _ (b c : Book) (g : Grown b) (h : Grown c) (same : b.k ≡ c.k) where
  -- Joining adds the second to the first, section by section.
  pub joined-adds : joined b c ≡ added c b
  unfolding joined
  joined-adds =
      let second : book_of b.k (teachings_in c.T) ≡ c = ap (λ (j : ℕ). book_of j (teachings_in c.T)) same ∙ sym h.is in
      append-adds b.k (teachings_in b.T) (teachings_in c.T) g.taken h.taken ∙ ap₂ added second (sym g.is)

  -- Its k is that of both.
  pub joined-k : (joined b c).k ≡ b.k
  joined-k = ap (λ (x : Book). x.k) joined-adds ∙ added_k c b

  -- It counts what both count.
  joined-counts : (s : Section) (z : List ℕ) → count_of z (section_of s (joined b c)) ≡ count_of z (section_of s b) + count_of z (section_of s c)
  joined-counts s z = omega (arith, ap (λ (x : Book). count_of z (section_of s x)) joined-adds, added_counts c b s z)

  -- Its live teachings are those of both.
  pub joined-live : live (joined b c) ≡ live b + live c
  joined-live = ap live joined-adds ∙ live-changed c b

  -- Either way round it is the same.
  joined-turned : joined b c ≡ added b c
  joined-turned = joined-adds ∙ added_turns c b (in_order c h) (in_order b g) (sym same)

  -- It takes no fewer words than the second.
  pub second-uses : used c ≤ used (joined b c)
  second-uses = omega (arith, ap used joined-turned, added_uses b c (in_order b g) (in_order c h))

  -- Where more than 65,535 teachings would be live, 7 is given.
  pub joined-passes : greatest_count < live b + live c → within_counts (joined b c) ≡ false
  unfolding within_counts
  joined-passes h = fails_left _ _ (lt-leb (live (joined b c)) greatest_count (omega (arith, joined-live)))

  module _ (few : live b + live c ≤ greatest_count) where
    -- Otherwise it is in form, and agrees with itself.
    pub joined-grown : Grown (joined b c)
    unfolding joined
    joined-grown =
        let xs : List Teaching = teachings_in b.T ++ teachings_in c.T in
        let t : Taken xs = both_taken (teachings_in b.T) (teachings_in c.T) g.taken h.taken in
        let sound = form-sound b g.form in
        grown (book_of b.k xs) (taught-formed b.k xs t.live t.fits (omega (arith, joined-live)) sound.least sound.greatest) (taken_agrees b.k xs t)

    -- 7 goes by the live teachings alone: no count is greater than these.
    pub joined-within : within_counts (joined b c) ≡ true
    unfolding within_counts section_of
    joined-within =
        let f = joined-grown.form in
        and_both (le-leb (live (joined b c)) greatest_count (omega (arith, joined-live)))
        (and_both (form-fitting (joined b c) f Taught) (and_both (form-fitting (joined b c) f Tops) (and_both (form-fitting (joined b c) f Lows) (form-fitting (joined b c) f Middles))))

    -- It has the counts of both added.
    pub joined-sum : CountsAdded b c (joined b c)
    joined-sum = record { sound = form-sound (joined b c) joined-grown.form; depth = joined-k; counts = joined-counts }

    -- No other book has.
    pub only_sum : (sum : Book) → CountsAdded b c sum → sum ≡ joined b c
    only_sum sum added-up =
        by_counts sum (joined b c) (form-sorted sum (sound-form sum added-up.sound)) (in_order (joined b c) joined-grown) (added-up.depth ∙ sym joined-k) (λ s z.
        added-up.counts s z ∙ sym (joined-counts s z))

-- Either way round, joining gives the same.
pub joined-turns : (b c : Book) → Grown b → Grown c → b.k ≡ c.k → joined b c ≡ joined c b
joined-turns b c g h same = joined-turned b c g h same ∙ sym (joined-adds c b h g (sym same))

-- However three books are grouped, joining them gives the same.
pub joined-groups : (a b c : Book) → Grown a → Grown b → Grown c → a.k ≡ b.k → b.k ≡ c.k → live a + live b ≤ greatest_count → live b + live c ≤ greatest_count
    → joined (joined a b) c ≡ joined a (joined b c)
joined-groups a b c f g h ab bc few few' =
    let left : joined (joined a b) c ≡ added c (added b a) =
    joined-adds (joined a b) c (joined-grown a b f g ab few) h (joined-k a b f g ab ∙ ab ∙ bc) ∙ ap (added c) (joined-adds a b f g ab) in
    let right : joined a (joined b c) ≡ added (added c b) a =
    joined-adds a (joined b c) f (joined-grown b c g h bc few') (ab ∙ sym (joined-k b c g h bc)) ∙ ap (λ (x : Book). added x a) (joined-adds b c g h bc) in
    left ∙ added_groups c b a (in_order c h) (in_order b g) (in_order a f) ∙ sym right

-- Joining an empty book changes nothing.
pub joined-empty : (b : Book) → Grown b → joined b (book_of b.k []) ≡ b
unfolding joined book_of teachings_in
joined-empty b g = ap (book_of b.k) (append-nil (teachings_in b.T)) ∙ sym g.is
