-- Joining in words: what two slices meet, the words then, either way round, however three are grouped, and with an empty book. Assumes nothing.
use Rattle.std.specs.Prelude.{Some}
use Prim.Native.Nat.{ℕ, ◌+◌, ◌≤◌, ◌<◌}
use mathlib.Core.Path.{◌≡◌, refl, sym, ap, ap₂, ◌∙◌}
use mathlib.Core.Bool.{Bool, true, false, not}
use mathlib.Core.List.{List, []}
use native.Mathlib.Omega.{arith}
use lib.Dec.{leb, eqb}
use lib.ListN.{length}
use borrow.Author.Tests.{le-leb, leb-true, leb-false, eq-eqb, eqb-true}
use Rattle.words.specs.Base.{when◌then◌else◌}
use Rattle.words.proofs.Tests.{no_test}
use Rattle.figures.specs.Limits.{head_words, most_book_words, greatest_count}
use Rattle.figures.specs.Numbers.{done, book_size, not_in_form, no_room, too_many, not_agreeing, other_k}
use Rattle.figures.specs.Answers.{answered}
use Rattle.book.specs.Book.{Book, used, live, lay}
use Rattle.book.specs.Decoding.{decode, book_form_of, on_book, Refused}
use Rattle.book.specs.Sound.{IsBook, WhyForm, shorter, longer, formless, book}
use Rattle.book.specs.Taught.{book_of, agreeing}
use Rattle.book.specs.Opening.{Outcome, outcome, leave, write_book, open_of}
use Rattle.book.proofs.Meaning.{lay-long, used-fits}
use Rattle.book.proofs.Holding.{refused-book}
use Rattle.book.proofs.Openings.{opened-book, number_is, words_are}
use Rattle.book.proofs.Sound.{form-sound, sound-form, on-any, why-is, why-only, book-only, book-decode}
use Rattle.book_change.specs.Counts.{within_counts}
use Rattle.book_joining.specs.Joining.{joined, join_books, join_of}
use Rattle.book_joining.proofs.Teachings.{none-taken, taken_agrees}
use Rattle.book_joining.proofs.Joined.{Grown, grown, joined-k, joined-live, joined-passes, joined-grown, joined-within, joined-turns, second-uses, joined-groups, joined-empty}

-- ---- what two slices meet

-- Of a slice: its refusal by 4 or 5, or a book in form.
data Slice (ws : List ℕ) : Type 0 where
  refused : (n : ℕ) → (n ≡ done → ⊥) → WhyForm ws (Refused n) → Slice ws
  held : (b : Book) → IsBook ws b → Slice ws

-- It meets one of them.
slice : (ws : List ℕ) → Slice ws
slice ws = go (why-is ws)
  where
    -- By its form.
    go : WhyForm ws (book_form_of ws) → Slice ws
    go (shorter r l) = refused book_size (λ e. omega arith) (shorter refl l)
    go (longer r l) = refused book_size (λ e. omega arith) (longer refl l)
    go (formless r l m n) = refused not_in_form (λ e. omega arith) (formless refl l m n)
    go (book b r i) = held b i

-- Two slices of books of one k that agree with themselves.
pub record Both (ws vs : List ℕ) (b c : Book) : Type 0 where
  pub is_first : IsBook ws b
  pub is_second : IsBook vs c
  pub same : b.k ≡ c.k
  pub grown_first : Grown b
  pub grown_second : Grown c

-- What joining meets, and comes to: the order of the cases is that of the checks.
pub data JoinCase (ws vs : List ℕ) : Type 0 where
  first-refused : (n : ℕ) → (n ≡ done → ⊥) → WhyForm ws (Refused n) → join_of ws vs ≡ leave ws n → JoinCase ws vs
  second-refused : (b : Book) (n : ℕ) → (n ≡ done → ⊥) → IsBook ws b → WhyForm vs (Refused n) → join_of ws vs ≡ leave ws n → JoinCase ws vs
  differing : (b c : Book) → IsBook ws b → IsBook vs c → (b.k ≡ c.k → ⊥) → join_of ws vs ≡ leave ws other_k → JoinCase ws vs
  first-against : (b c : Book) → IsBook ws b → IsBook vs c → b.k ≡ c.k → agreeing b ≡ false → join_of ws vs ≡ leave ws not_agreeing → JoinCase ws vs
  second-against : (b c : Book) → IsBook ws b → IsBook vs c → b.k ≡ c.k → agreeing b ≡ true → agreeing c ≡ false → join_of ws vs ≡ leave ws not_agreeing → JoinCase ws vs
  passing : (b c : Book) → Both ws vs b c → greatest_count < live b + live c → join_of ws vs ≡ leave ws too_many → JoinCase ws vs
  crowded : (b c : Book) → Both ws vs b c → live b + live c ≤ greatest_count → length ws < used (joined b c) → join_of ws vs ≡ leave ws no_room → JoinCase ws vs
  joins : (b c : Book) → Both ws vs b c → live b + live c ≤ greatest_count → used (joined b c) ≤ length ws → join_of ws vs ≡ write_book ws (joined b c) → JoinCase ws vs

module _ (ws vs : List ℕ) where
  -- 4 and 5 on the first
  pub first-unjoined : (n : ℕ) → book_form_of ws ≡ Refused n → join_of ws vs ≡ leave ws n
  unfolding join_of
  first-unjoined n e = refused-book ws n e (leave ws) (λ b. on_book (leave ws) vs (join_books ws b))

  -- 4 and 5 on the second
  pub second-unjoined : (b : Book) → IsBook ws b → (n : ℕ) → book_form_of vs ≡ Refused n → join_of ws vs ≡ leave ws n
  unfolding join_of
  second-unjoined b i n e = on-any ws b i (leave ws) (λ d. on_book (leave ws) vs (join_books ws d)) ∙ refused-book vs n e (leave ws) (join_books ws b)

  module _ (b c : Book) (i : IsBook ws b) (j : IsBook vs c) where
    -- Joining two books in form is by both.
    by_both : join_of ws vs ≡ join_books ws b c
    unfolding join_of
    by_both = on-any ws b i (leave ws) (λ d. on_book (leave ws) vs (join_books ws d)) ∙ on-any vs c j (leave ws) (join_books ws b)

    -- 15
    pub k-unjoined : (b.k ≡ c.k → ⊥) → join_of ws vs ≡ leave ws other_k
    k-unjoined x = by_both ∙ go (eqb b.k c.k) refl
      where
        -- By the test of k.
        go : (p : Bool) → eqb b.k c.k ≡ p → join_books ws b c ≡ leave ws other_k
        go true e = absurd (x (eqb-true b.k c.k e))
        go false e = unfold join_books when◌then◌else◌ in rw e

    module _ (same : b.k ≡ c.k) where
      -- 9 on the first
      pub first-unagreed : agreeing b ≡ false → join_of ws vs ≡ leave ws not_agreeing
      unfolding join_books when◌then◌else◌
      first-unagreed y = by_both ∙ rw (eq-eqb b.k c.k same, y)

      -- 9 on the second
      pub second-unagreed : agreeing b ≡ true → agreeing c ≡ false → join_of ws vs ≡ leave ws not_agreeing
      unfolding join_books when◌then◌else◌
      second-unagreed y z = by_both ∙ rw (eq-eqb b.k c.k same, y, z)

module _ (ws vs : List ℕ) (b c : Book) (both : Both ws vs b c) where
  -- What both ask is met.
  passed : join_of ws vs ≡ (when not (within_counts (joined b c)) then leave ws too_many else (when not (leb (used (joined b c)) (length ws)) then leave ws no_room else write_book ws (joined b c)))
  unfolding join_books when◌then◌else◌
  passed = by_both ws vs b c both.is_first both.is_second ∙ rw (eq-eqb b.k c.k both.same, both.grown_first.agrees, both.grown_second.agrees)

  -- 7
  pub join-passes : greatest_count < live b + live c → join_of ws vs ≡ leave ws too_many
  unfolding when◌then◌else◌
  join-passes h = passed ∙ rw (joined-passes b c both.grown_first both.grown_second both.same h)

  module _ (few : live b + live c ≤ greatest_count) where
    -- The counts fit.
    within : within_counts (joined b c) ≡ true
    within = joined-within b c both.grown_first both.grown_second both.same few

    -- 6
    pub join-crowded : leb (used (joined b c)) (length ws) ≡ false → join_of ws vs ≡ leave ws no_room
    unfolding when◌then◌else◌
    join-crowded l = passed ∙ rw (within, l)

    -- 0
    pub join-does : used (joined b c) ≤ length ws → join_of ws vs ≡ write_book ws (joined b c)
    unfolding when◌then◌else◌
    join-does room = passed ∙ rw (within, le-leb (used (joined b c)) (length ws) room)

-- Joining meets one of the cases.
pub join-case : (ws vs : List ℕ) → JoinCase ws vs
join-case ws vs = go (slice ws) (slice vs)
  where
    -- Two books that agree with themselves.
    sums : (b c : Book) → Both ws vs b c → (s : Bool) → leb (live b + live c) greatest_count ≡ s → (t : Bool) → leb (used (joined b c)) (length ws) ≡ t → JoinCase ws vs
    sums b c both false u t v = let h = leb-false (live b + live c) greatest_count u in passing b c both (omega arith) (join-passes ws vs b c both (omega arith))
    sums b c both true u false v =
        let few = leb-true (live b + live c) greatest_count u in
        let long = leb-false (used (joined b c)) (length ws) v in
        crowded b c both few (omega arith) (join-crowded ws vs b c both few v)
    sums b c both true u true v =
        let few = leb-true (live b + live c) greatest_count u in
        let room = leb-true (used (joined b c)) (length ws) v in
        joins b c both few room (join-does ws vs b c both few room)

    -- Two books in form.
    by : (b c : Book) → IsBook ws b → IsBook vs c → (p : Bool) → eqb b.k c.k ≡ p → (q : Bool) → agreeing b ≡ q → (r : Bool) → agreeing c ≡ r → JoinCase ws vs
    by b c i j false x q y r z = let h : b.k ≡ c.k → ⊥ = λ e. no_test (sym x ∙ eq-eqb b.k c.k e) in differing b c i j h (k-unjoined ws vs b c i j h)
    by b c i j true x false y r z = let s = eqb-true b.k c.k x in first-against b c i j s y (first-unagreed ws vs b c i j s y)
    by b c i j true x true y false z = let s = eqb-true b.k c.k x in second-against b c i j s y z (second-unagreed ws vs b c i j s y z)
    by b c i j true x true y true z =
        sums b c (record {
          is_first = i;
          is_second = j;
          same = eqb-true b.k c.k x;
          grown_first = grown b (sound-form b i.sound) y;
          grown_second = grown c (sound-form c j.sound) z;
        }) (leb (live b + live c) greatest_count) refl (leb (used (joined b c)) (length ws)) refl

    -- By the two slices.
    go : Slice ws → Slice vs → JoinCase ws vs
    go (refused n h w) s = first-refused n h w (first-unjoined ws vs n (why-only ws (Refused n) w))
    go (held b i) (refused n h w) = second-refused b n h i w (second-unjoined ws vs b i n (why-only vs (Refused n) w))
    go (held b i) (held c j) = by b c i j (eqb b.k c.k) refl (agreeing b) refl (agreeing c) refl

-- ---- done, or left

-- What is known of two slices that are joined with answer 0.
pub record Done (ws vs : List ℕ) : Type 0 where
  pub first : Book
  pub second : Book
  pub both : Both ws vs first second
  pub few : live first + live second ≤ greatest_count
  pub room : used (joined first second) ≤ length ws

-- By what is known of them they are joined.
pub done-joins : (ws vs : List ℕ) (d : Done ws vs) → join_of ws vs ≡ write_book ws (joined d.first d.second)
done-joins ws vs d = join-does ws vs d.first d.second d.both d.few d.room

-- A call that refuses is not done.
not_done : {o : Outcome} {ws : List ℕ} {n : ℕ} → o ≡ leave ws n → (n ≡ done → ⊥) → o.answer.number ≡ done → ⊥
not_done r h e = h (sym (number_is r) ∙ e)

-- Where the answer is 0 it is known.
pub was_joined : (ws vs : List ℕ) → (join_of ws vs).answer.number ≡ done → Done ws vs
was_joined ws vs e = go (join-case ws vs)
  where
    -- Every other case refuses.
    go : JoinCase ws vs → Done ws vs
    go (first-refused n h w r) = absurd (not_done r h e)
    go (second-refused b n h i w r) = absurd (not_done r h e)
    go (differing b c i j h r) = absurd (not_done r (λ z. omega arith) e)
    go (first-against b c i j s a r) = absurd (not_done r (λ z. omega arith) e)
    go (second-against b c i j s a d r) = absurd (not_done r (λ z. omega arith) e)
    go (passing b c both h r) = absurd (not_done r (λ z. omega arith) e)
    go (crowded b c both few h r) = absurd (not_done r (λ z. omega arith) e)
    go (joins b c both few room r) = record { first = b; second = c; both = both; few = few; room = room }

-- A join that is not done leaves the words as they came.
pub join-leaves : (ws vs : List ℕ) → ((join_of ws vs).answer.number ≡ done → ⊥) → (join_of ws vs).words ≡ ws
join-leaves ws vs not-0 = go (join-case ws vs)
  where
    -- By the case.
    go : JoinCase ws vs → (join_of ws vs).words ≡ ws
    go (first-refused n h w r) = words_are r
    go (second-refused b n h i w r) = words_are r
    go (differing b c i j h r) = words_are r
    go (first-against b c i j s a r) = words_are r
    go (second-against b c i j s a d r) = words_are r
    go (passing b c both h r) = words_are r
    go (crowded b c both few h r) = words_are r
    go (joins b c both few room r) = absurd (not-0 (number_is r))

-- The line is 0.
pub join-line : (ws vs : List ℕ) → (join_of ws vs).answer.line ≡ 0
join-line ws vs = go (join-case ws vs)
  where
    -- What is known has its line.
    line_is : {o : Outcome} → join_of ws vs ≡ o → (join_of ws vs).answer.line ≡ o.answer.line
    line_is e = ap (λ (o : Outcome). o.answer.line) e

    -- By the case.
    go : JoinCase ws vs → (join_of ws vs).answer.line ≡ 0
    go (first-refused n h w r) = line_is r
    go (second-refused b n h i w r) = line_is r
    go (differing b c i j h r) = line_is r
    go (first-against b c i j s a r) = line_is r
    go (second-against b c i j s a d r) = line_is r
    go (passing b c both h r) = line_is r
    go (crowded b c both few h r) = line_is r
    go (joins b c both few room r) = line_is r

-- What a join that is done leaves is the joined book.
pub joined-book : (ws vs : List ℕ) (d : Done ws vs) → IsBook (join_of ws vs).words (joined d.first d.second)
joined-book ws vs d =
    let j : Book = joined d.first d.second in
    let n : length (lay (length ws) j) ≡ length ws = lay-long (length ws) j d.room in
    rw (words_are (done-joins ws vs d)) (record {
      long = omega (arith, d.both.is_first.long);
      short = omega (arith, d.both.is_first.short);
      sound = form-sound j (joined-grown d.first d.second d.both.grown_first d.both.grown_second d.both.same d.few).form;
      laid = ap (λ (m : ℕ). lay m j) n;
    })

-- Its slice is as long as before.
joined-long : (ws vs : List ℕ) → Done ws vs → length (join_of ws vs).words ≡ length ws
joined-long ws vs d = ap length (words_are (done-joins ws vs d)) ∙ lay-long (length ws) (joined d.first d.second) d.room

-- A book in form that agrees with itself agrees with itself after a join, whatever the answer.
pub join-agrees : (ws vs : List ℕ) (b : Book) → decode ws ≡ Some b → agreeing b ≡ true → (c : Book) × (decode (join_of ws vs).words ≡ Some c) × (agreeing c ≡ true)
join-agrees ws vs b is a = go (eqb (join_of ws vs).answer.number done) refl
  where
    -- By whether the answer is 0.
    go : (x : Bool) → eqb (join_of ws vs).answer.number done ≡ x → (c : Book) × (decode (join_of ws vs).words ≡ Some c) × (agreeing c ≡ true)
    go true e =
        let d : Done ws vs = was_joined ws vs (eqb-true (join_of ws vs).answer.number done e) in
        let j : Book = joined d.first d.second in
        (j, book-decode (join_of ws vs).words j (joined-book ws vs d), (joined-grown d.first d.second d.both.grown_first d.both.grown_second d.both.same d.few).agrees)
    go false e = (b, ap decode (join-leaves ws vs (λ d. no_test (sym e ∙ eq-eqb (join_of ws vs).answer.number done d))) ∙ is, a)

-- ---- either way round

-- Two slices of equal length whose joining is done may be joined the other way round: it is done, and gives the same words.
pub either_way : (ws vs : List ℕ) → length ws ≡ length vs → (join_of ws vs).answer.number ≡ done → join_of vs ws ≡ join_of ws vs
either_way ws vs long e =
    let d : Done ws vs = was_joined ws vs e in
    let o : Both ws vs d.first d.second = d.both in
    let turn : joined d.first d.second ≡ joined d.second d.first = joined-turns d.first d.second o.grown_first o.grown_second o.same in
    let back : Done vs ws = record {
      first = d.second;
      second = d.first;
      both = record { is_first = o.is_second; is_second = o.is_first; same = sym o.same; grown_first = o.grown_second; grown_second = o.grown_first };
      few = omega (arith, d.few);
      room = omega (arith, d.room, ap used turn);
    } in
    done-joins vs ws back ∙ ap₂ (λ (n : ℕ) (b : Book). outcome (answered done) (lay n b)) (sym long) (sym turn) ∙ sym (done-joins ws vs d)

-- ---- an empty book

-- Joining an empty book of the same k changes nothing.
pub join-empty : (ws vs : List ℕ) (b : Book) → IsBook ws b → agreeing b ≡ true → head_words ≤ length vs → length vs ≤ most_book_words
    → join_of ws (open_of vs b.k).words ≡ outcome (answered done) ws
join-empty ws vs b i a long short =
    let g : Grown b = grown b (sound-form b i.sound) a in
    let c : Book = book_of b.k [] in
    let o : IsBook (open_of vs b.k).words c = opened-book vs b.k long short i.sound.least i.sound.greatest in
    let e : Grown c = grown c (sound-form c o.sound) (taken_agrees b.k [] none-taken) in
    let same : b.k ≡ c.k = unfold book_of in refl in
    let none : joined b c ≡ b = joined-empty b g in
    let d : Done ws (open_of vs b.k).words = record {
      first = b;
      second = c;
      both = record { is_first = i; is_second = o; same = same; grown_first = g; grown_second = e };
      few = omega (arith, joined-live b c g e same, ap live none, i.sound.few);
      room = omega (arith, ap used none, used-fits ws b i.laid);
    } in
    done-joins ws (open_of vs b.k).words d ∙ ap (outcome (answered done)) (ap (lay (length ws)) none ∙ i.laid)

-- ---- three books

-- Three slices of equal length: if the first and the second are joined, and then the third, with no refusal, so may be the second and the third,
-- and then the first; and the words are the same.
pub regrouped : (us bs cs : List ℕ) → length us ≡ length bs → length bs ≡ length cs → (join_of us bs).answer.number ≡ done → (join_of (join_of us bs).words cs).answer.number ≡ done
    → ((join_of bs cs).answer.number ≡ done) × (join_of us (join_of bs cs).words ≡ join_of (join_of us bs).words cs)
regrouped us bs cs x y e f = go (was_joined us bs e) (was_joined (join_of us bs).words cs f)
  where
    -- By what is known of both joinings.
    go : Done us bs → Done (join_of us bs).words cs → ((join_of bs cs).answer.number ≡ done) × (join_of us (join_of bs cs).words ≡ join_of (join_of us bs).words cs)
    go d t =
        let a : Book = d.first in
        let b : Book = d.second in
        let c : Book = t.second in
        let f : Grown a = d.both.grown_first in
        let g : Grown b = d.both.grown_second in
        let h : Grown c = t.both.grown_second in
        let is : t.first ≡ joined a b = book-only (join_of us bs).words t.first (joined a b) t.both.is_first (joined-book us bs d) in
        let ab : a.k ≡ b.k = d.both.same in
        let k : (joined a b).k ≡ c.k = ap (λ (w : Book). w.k) (sym is) ∙ t.both.same in
        let bc : b.k ≡ c.k = sym ab ∙ sym (joined-k a b f g ab) ∙ k in
        let n : length (join_of us bs).words ≡ length us = joined-long us bs d in
        let all : live a + live b + live c ≤ greatest_count = omega (arith, t.few, ap live is, joined-live a b f g ab) in
        let bc-few : live b + live c ≤ greatest_count = omega arith in
        let bc-grown : Grown (joined b c) = joined-grown b c g h bc bc-few in
        let abc : a.k ≡ (joined b c).k = ab ∙ sym (joined-k b c g h bc) in
        let grouped : joined (joined a b) c ≡ joined a (joined b c) = joined-groups a b c f g h ab bc d.few bc-few in
        let whole : joined t.first c ≡ joined a (joined b c) = ap (λ (w : Book). joined w c) is ∙ grouped in
        let room : used (joined a (joined b c)) ≤ length us = omega (arith, t.room, ap used whole, n) in
        let u : Done bs cs = record {
          first = b;
          second = c;
          both = record { is_first = d.both.is_second; is_second = t.both.is_second; same = bc; grown_first = g; grown_second = h };
          few = bc-few;
          room = omega (arith, second-uses a (joined b c) f bc-grown abc, room);
        } in
        let v : Done us (join_of bs cs).words = record {
          first = a;
          second = joined b c;
          both = record { is_first = d.both.is_first; is_second = joined-book bs cs u; same = abc; grown_first = f; grown_second = bc-grown };
          few = omega (arith, joined-live b c g h bc);
          room = room;
        } in (
          number_is (done-joins bs cs u),
          done-joins us (join_of bs cs).words v
              ∙ ap₂ (λ (m : ℕ) (w : Book). outcome (answered done) (lay m w)) (sym n) (sym whole)
              ∙ sym (done-joins (join_of us bs).words cs t),
        )

-- And back: if the second and the third are joined, and then they to the first, with no refusal, so may be the first and the second, and then the third.
pub regrouped_back : (us bs cs : List ℕ) → length us ≡ length bs → length bs ≡ length cs → (join_of bs cs).answer.number ≡ done → (join_of us (join_of bs cs).words).answer.number ≡ done
    → ((join_of us bs).answer.number ≡ done) × (join_of (join_of us bs).words cs ≡ join_of us (join_of bs cs).words)
regrouped_back us bs cs x y e f =
    let n : length (join_of bs cs).words ≡ length bs = joined-long bs cs (was_joined bs cs e) in
    let cb : join_of cs bs ≡ join_of bs cs = either_way bs cs y e in
    let turned : join_of (join_of cs bs).words us ≡ join_of us (join_of bs cs).words =
    ap (λ (o : Outcome). join_of o.words us) cb ∙ either_way us (join_of bs cs).words (x ∙ sym n) f in
    let r = regrouped cs bs us (sym y) (sym x) (number_is cb ∙ e) (number_is turned ∙ f) in
    let ub : join_of us bs ≡ join_of bs us = either_way bs us (sym x) r.0 in
    let m : length (join_of bs us).words ≡ length bs = joined-long bs us (was_joined bs us r.0) in
    let last : join_of (join_of bs us).words cs ≡ join_of cs (join_of bs us).words =
    either_way cs (join_of bs us).words (sym y ∙ sym m) (number_is (r.1 ∙ turned) ∙ f) in
    (number_is ub ∙ r.0, ap (λ (o : Outcome). join_of o.words cs) ub ∙ last ∙ r.1 ∙ turned)
