-- A book in form by its words: its sections stand where a look at its form says, and their trees ascend word by word. And what a teaching and a withdrawal
-- that are done make of the counts of any book in form, agreeing or not, by document 000's r, l and p. Assumes nothing.
use Rattle.std.specs.declared.cmp.Ordering.TheVariants.{Less}
use Prim.Native.Nat.{ℕ, suc, ◌+◌, ◌-◌, ◌≤◌}
use mathlib.Core.Path.{◌≡◌, refl, sym, ap, ◌∙◌}
use mathlib.Core.Bool.{Bool, true, false}
use mathlib.Core.List.Memᴰ
use mathlib.Core.List.Memᴰ.{head as here}
use mathlib.Core.List.Memᴰ.{tail as there}
use mathlib.Core.List.{List, [], ◌∷◌, ◌++◌, append_assoc}
use native.Mathlib.Omega.{arith}
use borrow.Author.Tests.{ltb-true, ltb-false, lt-ltb, le-ltb}
use lib.Dec.{ltb}
use lib.ListN.{length, take, drop, replicate, length-append}
use lib.Seq.{take-append_seam, drop_at, drop-drop}
use Rattle.words.specs.Base.{◌∈◌, ◌exactly_when◌}
use Rattle.words.specs.Compare.{first_words, compare_of, ◌≺◌}
use Rattle.words.proofs.Tests.{is_true, never}
use Rattle.figures.specs.Limits.{head_words}
use Rattle.figures.specs.Numbers.{done}
use Rattle.section.specs.Entries.{Entry, counted, section_words, has, count_of, Sorted}
use Rattle.section.proofs.Counts.{has-counts}
use Rattle.section_change.specs.Editing.{lower_all}
use Rattle.section_change.proofs.Lowering.{size-lower_all}
use Rattle.order.specs.Trees.{Tree, words}
use Rattle.order.specs.Parts.{top, low_parts, middle_parts}
use Rattle.order.specs.Fits.{IsOrder}
use Rattle.order.specs.Paper.{IsR, IsL, IsP}
use Rattle.order.proofs.Fitting.{order-read}
use Rattle.order.proofs.Paper.{top-is_r, r_only, low-is_l, l_is-low, middle-is_p, p_is-middle}
use Rattle.book.specs.Book.{Book, section_of, body, used, live, encode, lay}
use Rattle.book.specs.Sound.{IsBook}
use Rattle.book.specs.Decoding.{places_of}
use Rattle.book.specs.Taught.{taught, trees_in}
use Rattle.book.specs.declared.Section.{Section}
use Rattle.book.specs.declared.Section.TheVariants.{Taught, Tops, Lows, Middles}
use Rattle.book.proofs.Sound.{sound-form, book-decode, decode-book}
use Rattle.book.proofs.Heads.{is-sized}
use Rattle.book.proofs.Meaning.{lay-long, used-fits}
use Rattle.book.proofs.Sections.{form-sorted}
use Rattle.book.proofs.Teachings.{live-taught, times-counted, times-other, count-after_taught}
use Rattle.book_teaching.specs.Calls.{teach_of, withdraw_of, lower_each, withdrawn}
use Rattle.book_teaching.specs.Conditions.{BookAndOrder, PartMissing, from_tops, from_lows, from_middles}
use Rattle.book_teaching.proofs.Adds.{live-withdrawn}
use Rattle.book_teaching.proofs.Conditions.{teach-0, teach-writes, withdraw-0, withdraw-writes}
use Rattle.book_teaching.proofs.Undoing.{count-after_withdrawn}
use Rattle.promises.specs.Books.{LowerThan, ends_first, less, same_word, StandsAt, OneTeachingMore}

-- ---- word by word

-- What is lower by comparing is lower word by word,
lower-so : (x y : List ℕ) → x ≺ y → LowerThan x y
unfolding compare_of
lower-so [] [] e = never cc
lower-so [] (y ∷ ys) e = ends_first
lower-so (x ∷ xs) [] e = never cc
lower-so (x ∷ xs) (y ∷ ys) e = go (ltb x y) (ltb y x) refl refl e (lower-so xs ys)
  where
    -- By how the first words stand to each other.
    go : (a b : Bool) → ltb x y ≡ a → ltb y x ≡ b → first_words a b (compare_of xs ys) ≡ Less → (xs ≺ ys → LowerThan xs ys) → LowerThan (x ∷ xs) (y ∷ ys)
    go true b p q r next = less (ltb-true x y p)
    go false true p q r next = never cc
    go false false p q r next =
        let h : y ≤ x = ltb-false x y p in
        let k : x ≤ y = ltb-false y x q in
        let same : x ≡ y = omega arith in
        same_word same (next r)

-- and the other way round.
so_lower : (x y : List ℕ) → LowerThan x y → x ≺ y
unfolding compare_of
so_lower _ _ ends_first = refl
so_lower _ _ (less {x} {y} h) = rw (lt-ltb x y h)
so_lower _ _ (same_word {x} {y} {xs} {ys} e l) = rw (le-ltb x y (omega arith), le-ltb y x (omega arith)) (so_lower xs ys l)

-- The order by which a book's trees ascend is that of comparing word by word from the first.
pub word_by_word : (x y : List ℕ) → (x ≺ y) exactly_when LowerThan x y
word_by_word x y = (lower-so x y, so_lower x y)

-- ---- where the sections stand

-- The words behind two parts of a list, at the length of both.
behind-both : (a b c : List ℕ) (n : ℕ) → n ≡ length a + length b → drop n (a ++ (b ++ c)) ≡ c
behind-both a b c n e = ap (drop n) (sym (append_assoc a b c)) ∙ drop_at (a ++ b) c n (length-append a b ∙ sym e)

-- The words of a book in form are its head, its four sections one after the other, and zeros.
module _ (ws : List ℕ) (b : Book) (is : IsBook ws b) where
  -- The head.
  abbrev head : List ℕ
  head = b.k ∷ used b ∷ live b ∷ length b.T ∷ length b.R ∷ length b.L ∷ length b.P ∷ []

  -- The zeros.
  abbrev zeros : List ℕ
  zeros = replicate (length ws - used b) 0

  -- What stands behind T.
  abbrev from_tops-on : List ℕ
  from_tops-on = section_words b.R ++ (section_words b.L ++ (section_words b.P ++ zeros))

  -- The words, part by part.
  in_parts : ws ≡ head ++ (section_words b.T ++ from_tops-on)
  unfolding lay encode body
  in_parts =
      let t : List ℕ = section_words b.T in
      let r : List ℕ = section_words b.R in
      let l : List ℕ = section_words b.L in
      let p : List ℕ = section_words b.P in
      sym is.laid ∙ ap (λ (s : List ℕ). head ++ s)
      (append_assoc t (r ++ (l ++ p)) zeros ∙ ap (λ (s : List ℕ). t ++ s) (append_assoc r (l ++ p) zeros ∙ ap (λ (s : List ℕ). r ++ s) (append_assoc l p zeros)))

  -- What stands at the place of R.
  at-tops : drop (places_of b).tops ws ≡ from_tops-on
  unfolding places_of
  at-tops = ap (drop (places_of b).tops) in_parts ∙ behind-both head (section_words b.T) from_tops-on (places_of b).tops (omega arith)

  -- What stands so many words behind a place.
  further : (n m : ℕ) (a c : List ℕ) → drop n ws ≡ a ++ c → m ≡ n + length a → drop m ws ≡ c
  further n m a c e q = ap (λ (i : ℕ). drop i ws) q ∙ sym (drop-drop (length a) n ws) ∙ ap (drop (length a)) e ∙ drop_at a c (length a) refl

  -- What stands at the place of L.
  at-lows : drop (places_of b).lows ws ≡ section_words b.L ++ (section_words b.P ++ zeros)
  unfolding places_of
  at-lows = further (places_of b).tops (places_of b).lows (section_words b.R) _ at-tops refl

  -- What stands at the place of P.
  at-middles : drop (places_of b).middles ws ≡ section_words b.P ++ zeros
  unfolding places_of
  at-middles = further (places_of b).lows (places_of b).middles (section_words b.L) _ at-lows refl

  -- A section at the front of what stands at a place stands there.
  stands : (at : ℕ) (es : List Entry) (rest : List ℕ) → drop at ws ≡ section_words es ++ rest → StandsAt ws at es
  stands at es rest e = ap (take (length (section_words es))) e ∙ take-append_seam (section_words es) rest

  -- The places that a look at a book's form gives are those of its sections: T behind the head, R, L and P where it says; k is the book's, and so many
  -- words are used.
  pub sections_stand : StandsAt ws head_words b.T × StandsAt ws (places_of b).tops b.R × StandsAt ws (places_of b).lows b.L
      × StandsAt ws (places_of b).middles b.P × ((places_of b).k.k ≡ b.k) × ((places_of b).used ≡ used b)
  unfolding places_of
  sections_stand = (
    stands head_words b.T from_tops-on (ap (drop head_words) in_parts ∙ drop_at head _ head_words refl),
    stands (places_of b).tops b.R _ at-tops,
    stands (places_of b).lows b.L _ at-lows,
    stands (places_of b).middles b.P _ at-middles,
    refl,
    refl,
  )

-- ---- one teaching more

module _ (b : Book) (two : 2 ≤ b.k) (t u : Tree) where
  -- What a teaching counts in a section, by document 000.
  abbrev Counts : Section → Type 0
  Counts Taught = u ≡ t
  Counts Tops = IsR (b.k - 1) t u
  Counts Lows = IsL (b.k - 1) t u
  Counts Middles = IsP b.k t u

  -- The trees that it counts there are of that kind,
  counts-these : (s : Section) → u ∈ trees_in s b.k t → Counts s
  counts-these Taught (here e) = e
  counts-these Taught (there m) = absurd (Memᴰ.not-nil m)
  counts-these Tops (here e) = rw e (top-is_r b.k t two)
  counts-these Tops (there m) = absurd (Memᴰ.not-nil m)
  counts-these Lows m = low-is_l b.k two m
  counts-these Middles m = middle-is_p b.k two m

  -- and those of the kind are counted there.
  these_counted : (s : Section) → Counts s → u ∈ trees_in s b.k t
  these_counted Taught e = here e
  these_counted Tops r = here (r_only (b.k - 1) (omega arith) r (top-is_r b.k t two))
  these_counted Lows l = l_is-low b.k two l
  these_counted Middles p = p_is-middle b.k two p

  -- With a teaching more, each of these counts one more, and every other tree as many as before.
  after-teaching : (s : Section) → (Counts s → count_of (words u) (section_of s (taught 1 t b)) ≡ suc (count_of (words u) (section_of s b)))
      × ((Counts s → ⊥) → count_of (words u) (section_of s (taught 1 t b)) ≡ count_of (words u) (section_of s b))
  after-teaching s =
      let e = count-after_taught 1 t u b s in (
        λ c. omega (arith, e, times-counted s b.k 1 t u (these_counted s c)),
        λ c. omega (arith, e, times-other s b.k 1 t u (λ m. c (counts-these s m))),
      )

  -- With a teaching less, each of these, if it counted there, counts one less, and every other tree as many as before.
  after-withdrawal : (s : Section) → Sorted (section_of s b) → (Counts s → 1 ≤ count_of (words u) (section_of s b))
      → (Counts s → count_of (words u) (section_of s b) ≡ suc (count_of (words u) (section_of s (withdrawn t b))))
      × ((Counts s → ⊥) → count_of (words u) (section_of s b) ≡ count_of (words u) (section_of s (withdrawn t b)))
  after-withdrawal s sorted some =
      let e = count-after_withdrawn t u b s sorted in (
        λ c. omega (arith, e, some c, times-counted s b.k 1 t u (these_counted s c)),
        λ c. omega (arith, e, times-other s b.k 1 t u (λ m. c (counts-these s m))),
      )

-- One less of each tree takes no more words.
each-shrinks : (ts : List Tree) (es : List Entry) → length (section_words (lower_each ts es)) ≤ length (section_words es)
unfolding lower_each lower_all
each-shrinks [] es = omega arith
each-shrinks (t ∷ ts) es = omega (arith, size-lower_all (counted (words t) 1 ∷ []) (lower_each ts es), each-shrinks ts es)

-- A book with one teaching less uses no more words.
withdrawn-uses : (t : Tree) (b : Book) → used (withdrawn t b) ≤ used b
unfolding used body withdrawn lower_each
withdrawn-uses t b =
    let one = each-shrinks (t ∷ []) b.T in
    let two = each-shrinks (top b.k t ∷ []) b.R in
    let three = each-shrinks (low_parts b.k t) b.L in
    let four = each-shrinks (middle_parts b.k t) b.P in
    simp length-append (omega (arith, one, two, three, four))

module _ (ws os : List ℕ) (b : Book) (t : Tree) (is : IsBook ws b) (o : IsOrder os t) where
  -- The words are met as that book and that order.
  pub its_met : BookAndOrder ws os b t
  its_met = record { size = is-sized ws is.long is.short; is_book = book-decode ws b is; is_order = order-read os t o }

  -- Its k is at least 2.
  its_two : 2 ≤ b.k
  its_two = is.sound.least

  -- "Teaching raises each count by one or enters the part with count 1", and word 2 by one: a teaching that is done leaves a book in form with one teaching
  -- of the order more, whatever book in form it was.
  pub teaching_raises : (teach_of ws os).answer.number ≡ done → (c : Book) × IsBook (teach_of ws os).words c × OneTeachingMore t b c
  unfolding section_of
  teaching_raises e =
      let w = teach-writes ws os b t its_met e in
      let long : length (teach_of ws os).words ≡ length ws = ap length w.0 ∙ lay-long (length ws) (taught 1 t b) ((teach-0 ws os b t its_met).0 e).1 in (
        taught 1 t b,
        decode-book (teach_of ws os).words (taught 1 t b) (omega (arith, long, is.long)) (omega (arith, long, is.short)) w.1,
        record {
          depth = unfold taught in refl;
          lives = omega (arith, live-taught 1 t b);
          taught = λ u. after-teaching b its_two t u Taught;
          tops = λ u. after-teaching b its_two t u Tops;
          lows = λ u. after-teaching b its_two t u Lows;
          middles = λ u. after-teaching b its_two t u Middles;
        },
      )

  -- Where an order is withdrawn, all that its teaching counts has an entry.
  has-these : (withdraw_of ws os).answer.number ≡ done → (s : Section) (u : Tree) → u ∈ trees_in s b.k t → has (words u) (section_of s b) ≡ true
  unfolding section_of
  has-these e s u m = go s m ((withdraw-0 ws os b t its_met).0 e)
    where
      -- By the section.
      go : (r : Section) → u ∈ trees_in r b.k t → (has (words t) b.T ≡ true) × (PartMissing t b → ⊥) → has (words u) (section_of r b) ≡ true
      go Taught (here q) w = ap (λ (v : Tree). has (words v) b.T) q ∙ w.0
      go Taught (there i) w = absurd (Memᴰ.not-nil i)
      go Tops (here q) w = is_true _ (λ n. w.1 (from_tops (ap (λ (v : Tree). has (words v) b.R) (sym q) ∙ n)))
      go Tops (there i) w = absurd (Memᴰ.not-nil i)
      go Lows i w = is_true _ (λ n. w.1 (from_lows u i n))
      go Middles i w = is_true _ (λ n. w.1 (from_middles u i n))

  -- "Withdrawing lowers each by one and takes out an entry that comes to 0", and word 2 by one: a withdrawal that is done leaves a book in form, and what it
  -- was before has one teaching of the order more than that, whatever book in form it was.
  pub withdrawing_lowers : (withdraw_of ws os).answer.number ≡ done → (c : Book) × IsBook (withdraw_of ws os).words c × OneTeachingMore t c b
  unfolding section_of withdrawn
  withdrawing_lowers e =
      let w = withdraw-writes ws os b t its_met e in
      let room : used (withdrawn t b) ≤ length ws = omega (arith, withdrawn-uses t b, used-fits ws b is.laid) in
      let long : length (withdraw_of ws os).words ≡ length ws = ap length w.0 ∙ lay-long (length ws) (withdrawn t b) room in (
        withdrawn t b,
        decode-book (withdraw_of ws os).words (withdrawn t b) (omega (arith, long, is.long)) (omega (arith, long, is.short)) w.1,
        record {
          depth = refl;
          lives = omega (arith, live-withdrawn t b (sorted Taught) ((withdraw-0 ws os b t its_met).0 e).0);
          taught = λ u. fewer u Taught;
          tops = λ u. fewer u Tops;
          lows = λ u. fewer u Lows;
          middles = λ u. fewer u Middles;
        },
      )
    where
      -- The sections are sorted.
      sorted : (s : Section) → Sorted (section_of s b)
      sorted = form-sorted b (sound-form b is.sound)

      -- A tree in a section before and after.
      fewer : (u : Tree) (s : Section) → (Counts b its_two t u s → count_of (words u) (section_of s b) ≡ suc (count_of (words u) (section_of s (withdrawn t b))))
          × ((Counts b its_two t u s → ⊥) → count_of (words u) (section_of s b) ≡ count_of (words u) (section_of s (withdrawn t b)))
      fewer u s = after-withdrawal b its_two t u s (sorted s)
          (λ c. has-counts (words u) (section_of s b) (sorted s) (has-these e s u (these_counted b its_two t u s c)))
