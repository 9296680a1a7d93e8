-- "Five impostors are tried against the promises." Each is shut out here by what the promises say, for any words:
-- refusing everything by `Accepts`, the exact conditions of 6 and 7, and of judging by `Judging`, demand 2;
-- passing everything, or one verdict for all, by `Judging`;
-- teaching that writes nothing, learning the first order and nodding at the rest, and word 2 or a count invented, by `Keeps`, demand 3;
-- and all of them by demand 1's rows, `Teaches` and `Judges`. A sixth, which teaches rightly and never forgets, is shut out by `Releases`, the exact
-- condition of withdrawing; a seventh, whose joining answers 0 and joins nothing, by `Keeps`; and an eighth, which refuses every joining, by `Merges`, the exact
-- condition of joining. Three that choose an image, one that refuses every order, one with the same image for all and one that takes some rule that fits without
-- looking at the others, are shut out by 02's rows, `Chooses`. Assumes nothing.
use Prim.Native.Nat.{ℕ, ◌+◌, ◌≤◌, ◌<◌}
use mathlib.Core.Path.{◌≡◌, refl, sym, ap, ap₂, subst, ◌∙◌}
use mathlib.Core.List.{List, [], ◌∷◌, ◌++◌}
use native.Mathlib.Omega.{arith}
use lib.ListN.{length, get_or, length-append}
use Rattle.words.specs.Base.{when◌then◌else◌, ◌exactly_when◌}
use Rattle.figures.specs.Limits.{greatest_count, live_word}
use Rattle.figures.specs.Numbers.{done, low_unknown, two_images}
use Rattle.figures.specs.Answers.{answered}
use Rattle.figures.specs.declared.Answer.{Answer}
use Rattle.order.specs.Trees.{Tree, words}
use Rattle.order.specs.Fits.{IsOrder}
use Rattle.order.proofs.Fitting.{read-order}
use Rattle.book.specs.Book.{Book, used, live, lay}
use Rattle.book.specs.Sound.{IsBook}
use Rattle.book.specs.Decoding.{book_in}
use Rattle.book.specs.Opening.{Outcome, outcome, open_of}
use Rattle.book.proofs.Sound.{decode-book, book-only, head_says}
use Rattle.book_judging.specs.Judging.{judge_of}
use Rattle.book_judging.specs.Verdicts.{PassesBy, Judged}
use Rattle.book_judging.proofs.Answers.{judged-only}
use Rattle.book_choosing.specs.Rules.{ImageRule}
use Rattle.book_choosing.specs.Choosing.{chosen, unchosen, choose_of}
use Rattle.book_choosing.specs.Choices.{WhyChosen}
use Rattle.book_choosing.specs.declared.Chosen.{Chosen}
use Rattle.book_choosing.proofs.Choices.{why-only, told}
use Rattle.book_teaching.specs.Calls.{teach_of}
use Rattle.book_teaching.specs.Whys.{WhyTaught}
use Rattle.book_teaching.proofs.Whys.{teach-only}
use Rattle.promises.specs.Heard.{single, pair}
use Rattle.promises.specs.Remaining.{Call, teach, withdraw, join, times_of, outcome_of, after_by, orders_in, remain_by, remaining_by, booked, ExactlyThese}
use Rattle.promises.specs.Starts.{Start, opening, started_by, taught_first, start_k}
use Rattle.promises.specs.Agreement.{Agrees}
use Rattle.promises.specs.Choosing.{PassesWith, Fitting}
use Rattle.promises.proofs.Laws.Counted.{counted-length}
use Rattle.promises.proofs.Laws.Remaining.{read-book}
use Rattle.promises.proofs.Laws.Agreement.{sound-agreeing}
use Rattle.promises.proofs.Tables.Computed.{computes, choosing_computes}
use Rattle.promises.proofs.Demand2.{passes-exactly}
use Rattle.promises.proofs.Demand3.{opening-done, parts-and_counts, same_length, taught-exactly, withdrawn-exactly, joined-exactly}
use Rattle.promises.proofs.Choosing.{two_images_exactly}
use Rattle.promises.proofs.Uniqueness.{booked-is}
use Rattle.promises.proofs.Wordings.{after_last, remaining-last}

-- ---- what meets the promises

-- A teaching that meets demand 1's rows.
abbrev pub Teaches : (List ℕ → List ℕ → Outcome) → Type 0
Teaches f = (ws os : List ℕ) → WhyTaught ws os (f ws os)

-- A judging that does.
abbrev pub Judges : (List ℕ → List ℕ → Answer) → Type 0
Judges g = (ws os : List ℕ) → Judged ws os (g ws os)

-- "Word 2 or a count invented: the definition of counts and demand 3." No answer and no word is left to such a teaching: it is `teach_of`. That
-- word 2 and the counts are then those of the orders that remain is demand 3, and that these leave no word open is proofs/Uniqueness.antt.
pub nothing_invented : (f : List ℕ → List ℕ → Outcome) → Teaches f → (ws os : List ℕ) → f ws os ≡ teach_of ws os
nothing_invented f meets ws os = sym (teach-only ws os (f ws os) (meets ws os))

-- Nor is an answer left to such a judging.
no_verdict-invented : (g : List ℕ → List ℕ → Answer) → Judges g → (ws os : List ℕ) → g ws os ≡ judge_of ws os
no_verdict-invented g meets ws os = sym (judged-only ws os (g ws os) (meets ws os))

-- ---- three books, k = 2, in slices of 31 words

-- The book of no orders.
abbrev blank : List ℕ
blank =
    2 ∷ 7 ∷ 0 ∷ 0 ∷ 0 ∷ 0 ∷ 0
    ∷ 0 ∷ 0 ∷ 0 ∷ 0 ∷ 0 ∷ 0 ∷ 0 ∷ 0 ∷ 0 ∷ 0 ∷ 0 ∷ 0 ∷ 0 ∷ 0 ∷ 0 ∷ 0 ∷ 0 ∷ 0 ∷ 0 ∷ 0 ∷ 0 ∷ 0 ∷ 0 ∷ 0 ∷ []

-- The book of the single node 1000: the head, and the node in T, R and L.
abbrev one-taught : List ℕ
one-taught =
    2 ∷ 19 ∷ 1 ∷ 1 ∷ 1 ∷ 1 ∷ 0
    ∷ 1 ∷ 1 ∷ 1000 ∷ 0
    ∷ 1 ∷ 1 ∷ 1000 ∷ 0
    ∷ 1 ∷ 1 ∷ 1000 ∷ 0
    ∷ 0 ∷ 0 ∷ 0 ∷ 0 ∷ 0 ∷ 0 ∷ 0 ∷ 0 ∷ 0 ∷ 0 ∷ 0 ∷ 0 ∷ []

-- The book of that node and of 1000(1000), whose own parts are the node in R and L, and itself in P.
abbrev two_taught : List ℕ
two_taught =
    2 ∷ 31 ∷ 2 ∷ 2 ∷ 1 ∷ 1 ∷ 1
    ∷ 1 ∷ 1 ∷ 1000 ∷ 0 ∷ 2 ∷ 1 ∷ 1000 ∷ 1 ∷ 1000 ∷ 0
    ∷ 1 ∷ 2 ∷ 1000 ∷ 0
    ∷ 1 ∷ 2 ∷ 1000 ∷ 0
    ∷ 2 ∷ 1 ∷ 1000 ∷ 1 ∷ 1000 ∷ 0
    ∷ []

-- "Word 2: live teachings".
abbrev live_in : List ℕ → ℕ
live_in ws = get_or ws live_word 0

-- The first teaching is done and writes the second book.
first-row : teach_of blank (words single) ≡ outcome (answered done) one-taught
unfolding computes
first-row = refl

-- The second is done and writes the third.
second-row : teach_of one-taught (words pair) ≡ outcome (answered done) two_taught
unfolding computes
second-row = refl

-- The book of no orders answers the node by 21 with line 1.
unknown-row : judge_of blank (words single) ≡ record { number = low_unknown; line = 1 }
unfolding computes
unknown-row = refl

-- It answers 1000(1000) by 21 with line 2.
unknown-below_row : judge_of blank (words pair) ≡ record { number = low_unknown; line = 2 }
unfolding computes
unknown-below_row = refl

-- The book of the node passes it.
passing-row : judge_of one-taught (words single) ≡ answered done
unfolding computes
passing-row = refl

-- The first words are a book in form.
blank_book : IsBook blank (book_in blank)
unfolding computes
blank_book = decode-book blank (book_in blank) (omega arith) (omega arith) refl

-- So are the second.
taught-book : IsBook one-taught (book_in one-taught)
unfolding computes
taught-book = decode-book one-taught (book_in one-taught) (omega arith) (omega arith) refl

-- The node is an order within limits.
single-order : IsOrder (words single) single
unfolding computes
single-order = read-order (words single) single refl

-- So is 1000(1000).
pair-order : IsOrder (words pair) pair
unfolding computes
pair-order = read-order (words pair) pair refl

-- ---- by demand 1's rows

module _ (f : List ℕ → List ℕ → Outcome) (meets : Teaches f) where
  -- Taught the node, the book of no orders becomes that of the node.
  teaches-first : f blank (words single) ≡ outcome (answered done) one-taught
  teaches-first = nothing_invented f meets blank (words single) ∙ first-row

  -- Taught 1000(1000), that one becomes the book of both.
  teaches-second : f one-taught (words pair) ≡ outcome (answered done) two_taught
  teaches-second = nothing_invented f meets one-taught (words pair) ∙ second-row

  -- "Refusing everything: shut out by demand 2 and the exact conditions of 6 and 7." Some teaching is done.
  pub refuses_all : ((ws os : List ℕ) → (f ws os).answer.number ≡ done → ⊥) → ⊥
  refuses_all none = none blank (words single) (ap (λ (o : Outcome). o.answer.number) teaches-first)

  -- "Teaching that writes nothing: demand 3's parts and counts, which are demand 2's definitions over the remaining orders." Some teaching that
  -- is done changes the words.
  pub writes_nothing : ((ws os : List ℕ) → (f ws os).answer.number ≡ done → (f ws os).words ≡ ws) → ⊥
  writes_nothing none =
      let same : one-taught ≡ blank = ap (λ (o : Outcome). o.words) (sym teaches-first) ∙ none blank (words single) (ap (λ (o : Outcome). o.answer.number) teaches-first) in
      let live : ◌≡◌ {A = ℕ} 1 0 = ap live_in same in
      omega arith

  -- "Learning the first order and nodding at the rest: demands 2 and 3 together." Some teaching changes the words of a book that has a live
  -- teaching.
  pub nods_at-the_rest : ((ws os : List ℕ) → 1 ≤ get_or ws live_word 0 → (f ws os).words ≡ ws) → ⊥
  nods_at-the_rest nods =
      let same : two_taught ≡ one-taught = ap (λ (o : Outcome). o.words) (sym teaches-second) ∙ nods one-taught (words pair) (omega arith) in
      let live : ◌≡◌ {A = ℕ} 2 1 = ap live_in same in
      omega arith

module _ (g : List ℕ → List ℕ → Answer) (meets : Judges g) where
  -- By the book of the node the node passes.
  judges-first : g one-taught (words single) ≡ answered done
  judges-first = no_verdict-invented g meets one-taught (words single) ∙ passing-row

  -- "Refusing everything", of judging: some order passes by some book.
  pub judges-none : ((ws os : List ℕ) → (g ws os).number ≡ done → ⊥) → ⊥
  judges-none none = none one-taught (words single) (ap (λ (a : Answer). a.number) judges-first)

  -- "Passing everything, or one verdict for all: demand 2." No one number is given to all orders within limits by all books in form.
  pub one-verdict : (n : ℕ) → ((ws os : List ℕ) (b : Book) (t : Tree) → IsBook ws b → IsOrder os t → (g ws os).number ≡ n) → ⊥
  one-verdict n all =
      let unknown : (g blank (words single)).number ≡ low_unknown = ap (λ (a : Answer). a.number) (no_verdict-invented g meets blank (words single) ∙ unknown-row) in
      let passes : (g one-taught (words single)).number ≡ done = ap (λ (a : Answer). a.number) judges-first in
      omega (
        arith,
        unknown,
        passes,
        all blank (words single) (book_in blank) single blank_book single-order,
        all one-taught (words single) (book_in one-taught) single taught-book single-order,
      )

  -- One line for all: what is doubted is not told at one and the same line of all orders by all books in form.
  pub one_line : (n : ℕ) → ((ws os : List ℕ) (b : Book) (t : Tree) → IsBook ws b → IsOrder os t → low_unknown ≤ (g ws os).number → (g ws os).line ≡ n) → ⊥
  one_line n all =
      let first : g blank (words single) ≡ record { number = low_unknown; line = 1 } = no_verdict-invented g meets blank (words single) ∙ unknown-row in
      let second : g blank (words pair) ≡ record { number = low_unknown; line = 2 } = no_verdict-invented g meets blank (words pair) ∙ unknown-below_row in
      omega (
        arith,
        ap (λ (a : Answer). a.line) first,
        ap (λ (a : Answer). a.line) second,
        all blank (words single) (book_in blank) single blank_book single-order (omega (arith, ap (λ (a : Answer). a.number) first)),
        all blank (words pair) (book_in blank) pair blank_book pair-order (omega (arith, ap (λ (a : Answer). a.number) second)),
      )

-- ---- by demand 2

-- A judging that passes an order exactly when demand 2 says so. It may answer anything else by any other number, and give any line.
abbrev pub Judging : (List ℕ → List ℕ → Answer) → Type 0
Judging g = (ws os : List ℕ) → ((g ws os).number ≡ done) exactly_when PassesBy ws os

-- The judging here is such.
pub judging_here : Judging judge_of
judging_here = passes-exactly

-- The node does not pass by the book of no orders.
blank_unpassed : PassesBy blank (words single) → ⊥
blank_unpassed p =
    let same : low_unknown ≡ done = ap (λ (a : Answer). a.number) (sym unknown-row) ∙ (passes-exactly blank (words single)).1 p in
    omega arith

-- It passes by its own book.
taught-passed : PassesBy one-taught (words single)
taught-passed = (passes-exactly one-taught (words single)).0 (ap (λ (a : Answer). a.number) passing-row)

module _ (g : List ℕ → List ℕ → Answer) (meets : Judging g) where
  -- "Refusing everything: shut out by demand 2", of judging: some order passes by some book.
  pub passing-none : ((ws os : List ℕ) → (g ws os).number ≡ done → ⊥) → ⊥
  passing-none none = none one-taught (words single) ((meets one-taught (words single)).1 taught-passed)

  -- "Passing everything": not every order within limits passes by every book in form.
  pub passing-all : ((ws os : List ℕ) (b : Book) (t : Tree) → IsBook ws b → IsOrder os t → (g ws os).number ≡ done) → ⊥
  passing-all all = blank_unpassed ((meets blank (words single)).0 (all blank (words single) (book_in blank) single blank_book single-order))

  -- "or one verdict for all: demand 2." No one number is given to all orders within limits by all books in form.
  pub answering_alike : (n : ℕ) → ((ws os : List ℕ) (b : Book) (t : Tree) → IsBook ws b → IsOrder os t → (g ws os).number ≡ n) → ⊥
  answering_alike n all =
      let passed : (g one-taught (words single)).number ≡ done = (meets one-taught (words single)).1 taught-passed in
      let is_done : n ≡ done = sym (all one-taught (words single) (book_in one-taught) single taught-book single-order) ∙ passed in
      passing-all (λ ws os b t i o. all ws os b t i o ∙ is_done)

-- ---- by demand 3's parts and counts

-- What answers calls so that, after any of them on a book that a run starts with, "Its parts and counts are exactly those of the orders that remain",
-- and the slice has its length. What refuses every call and changes no word meets this too: `Accepts` shuts it out.
abbrev pub Keeps : Start → (Call → List ℕ → Outcome) → Type 0
Keeps start answers =
    (slice : List ℕ) → (started_by start slice).answer.number ≡ done → (cs : List Call)
    → ExactlyThese (start_k start) (remaining_by answers cs (started_by start slice).words (taught_first start)) (after_by answers cs (started_by start slice).words)
    × (length (after_by answers cs (started_by start slice).words) ≡ length slice)

-- The teaching, withdrawing and joining here do.
pub keeping_here : (start : Start) → Keeps start outcome_of
keeping_here start slice started cs = (parts-and_counts start slice started cs, same_length start slice started cs)

-- No words hold exactly some orders and exactly these with one more: they have one book, and it has one number of live teachings.
one-more_differs : (k : ℕ) (orders : List (List ℕ)) (os ws : List ℕ) → ExactlyThese k orders ws → ExactlyThese k (os ∷ orders) ws → ⊥
one-more_differs k orders os ws x y = omega (arith, x.lives, y.lives, ap live (book-only ws x.book y.book x.is_book y.is_book))

-- After a teaching that is done one order more remains.
done-one_more : (os : List ℕ) (n : ℕ) (orders : List (List ℕ)) → n ≡ done → remain_by (teach os) n orders ≡ os ∷ orders
unfolding when◌then◌else◌
done-one_more os n orders e = rw e refl

-- After a joining that is done the orders of the book that is joined remain too.
done-joined : (vs : List ℕ) (c : Book) → IsBook vs c → (n : ℕ) (orders : List (List ℕ)) → n ≡ done → remain_by (join vs) n orders ≡ orders_in c.T ++ orders
unfolding when◌then◌else◌
done-joined vs c i n orders e = ap (λ (m : ℕ). remain_by (join vs) m orders) e ∙ ap (λ (b : Book). orders_in b.T ++ orders) (read-book vs c i)

-- They are as many more as teachings are live in that book.
joined-more : (c : Book) (orders : List (List ℕ)) → length (orders_in c.T ++ orders) ≡ live c + length orders
unfolding live
joined-more c orders = length-append (orders_in c.T) orders ∙ omega (arith, counted-length c.T)

module _ (answers : Call → List ℕ → Outcome) (start : Start) (keeps : Keeps start answers) (slice : List ℕ) (started : (started_by start slice).answer.number ≡ done) where
  -- The words of the slice once the run is started.
  abbrev begun : List ℕ
  begun = (started_by start slice).words

  -- The orders that count as taught first.
  abbrev early : List (List ℕ)
  early = taught_first start

  -- "Learning the first order and nodding at the rest: demands 2 and 3 together." After any calls a teaching that is done changes the words.
  pub done-writes_again : (cs : List Call) (os : List ℕ) → (answers (teach os) (after_by answers cs begun)).answer.number ≡ done
      → (answers (teach os) (after_by answers cs begun)).words ≡ after_by answers cs begun → ⊥
  done-writes_again cs os is_done same =
      let orders : List (List ℕ) = remaining_by answers cs begun early in
      let ws : List ℕ = after_by answers cs begun in
      let more : remaining_by answers (cs ++ (teach os ∷ [])) begun early ≡ os ∷ orders = remaining-last answers (teach os) cs begun early ∙ done-one_more os _ orders is_done in
      let unchanged : after_by answers (cs ++ (teach os ∷ [])) begun ≡ ws = after_last answers (teach os) cs begun ∙ same in
      let later : ExactlyThese (start_k start) (os ∷ orders) (after_by answers (cs ++ (teach os ∷ [])) begun) =
      subst (λ (ps : List (List ℕ)). ExactlyThese (start_k start) ps (after_by answers (cs ++ (teach os ∷ [])) begun)) more (keeps slice started (cs ++ (teach os ∷ []))).0 in
      one-more_differs (start_k start) orders os ws (keeps slice started cs).0 (subst (ExactlyThese (start_k start) (os ∷ orders)) unchanged later)

  -- "Teaching that writes nothing: demand 3's parts and counts, which are demand 2's definitions over the remaining orders." A teaching of the
  -- book that a run starts with, if it is done, changes the words.
  pub done-writes : (os : List ℕ) → (answers (teach os) begun).answer.number ≡ done → (answers (teach os) begun).words ≡ begun → ⊥
  unfolding after_by
  done-writes os = done-writes_again [] os

  -- A joining that is done and joins nothing: after any calls, joining a book that holds a teaching changes the words if it is done.
  pub joined-writes : (cs : List Call) (vs : List ℕ) (c : Book) → IsBook vs c → 1 ≤ live c → (answers (join vs) (after_by answers cs begun)).answer.number ≡ done
      → (answers (join vs) (after_by answers cs begun)).words ≡ after_by answers cs begun → ⊥
  joined-writes cs vs c i some is_done same =
      let orders : List (List ℕ) = remaining_by answers cs begun early in
      let last : List Call = cs ++ (join vs ∷ []) in
      let more : remaining_by answers last begun early ≡ orders_in c.T ++ orders = remaining-last answers (join vs) cs begun early ∙ done-joined vs c i _ orders is_done in
      let unchanged : after_by answers last begun ≡ after_by answers cs begun = after_last answers (join vs) cs begun ∙ same in
      let x = (keeps slice started cs).0 in
      let y = (keeps slice started last).0 in
      let one : x.book ≡ y.book = book-only (after_by answers cs begun) x.book y.book x.is_book (rw unchanged at y.is_book) in
      omega (arith, x.lives, y.lives, ap live one, ap length more, joined-more c orders, some)

  -- "Word 2 or a count invented: the definition of counts and demand 3." After any calls word 2 is the number of orders that remain.
  pub live-counted : (cs : List Call) → get_or (after_by answers cs begun) live_word 0 ≡ length (remaining_by answers cs begun early)
  unfolding live
  live-counted cs = let x = (keeps slice started cs).0 in (head_says (after_by answers cs begun) x.book x.is_book).2 ∙ x.lives

  -- "Word 2 or a count invented: the definition of counts and demand 3." No word is left to invent: after any calls the slice is that of the book
  -- of the orders that remain.
  pub counts-kept : (cs : List Call) → after_by answers cs begun ≡ lay (length slice) (booked (start_k start) (remaining_by answers cs begun early))
  counts-kept cs =
      let x = keeps slice started cs in
      sym x.0.is_book.laid ∙ ap₂ lay x.1 (booked-is (start_k start) (remaining_by answers cs begun early) (after_by answers cs begun) x.0)

-- ---- by the exact conditions of 6 and 7

-- What answers calls so that, after any of them on a book that a run starts with, an order within limits is taught exactly if fewer than 65,535 orders remain and the book of these with this one more has room.
abbrev pub Accepts : Start → (Call → List ℕ → Outcome) → Type 0
Accepts start answers =
    (slice : List ℕ) → (started_by start slice).answer.number ≡ done
    → (cs : List Call) (os : List ℕ) (t : Tree) → IsOrder os t
    → ((answers (teach os) (after_by answers cs (started_by start slice).words)).answer.number ≡ done) exactly_when
    ((length (remaining_by answers cs (started_by start slice).words (taught_first start)) < greatest_count)
    × (used (booked (start_k start) (os ∷ remaining_by answers cs (started_by start slice).words (taught_first start))) ≤ length slice))

-- The teaching and withdrawing here do.
pub accepting_here : (start : Start) → Accepts start outcome_of
accepting_here = taught-exactly

-- The book of the node needs 19 words.
node-needs : used (booked 2 (words single ∷ [])) ≡ 19
unfolding computes booked
node-needs = refl

-- "Refusing everything: shut out by demand 2 and the exact conditions of 6 and 7." Some teaching is done: that of the node, in a book just opened
-- at k = 2 in 31 words.
pub refusing_calls : (answers : Call → List ℕ → Outcome) → Accepts (opening 2) answers → ((os ws : List ℕ) → (answers (teach os) ws).answer.number ≡ done → ⊥) → ⊥
unfolding after_by remaining_by
refusing_calls answers accepts none =
    let opens : (open_of blank 2).answer.number ≡ done = ap (λ (a : Answer). a.number) (opening-done blank 2 (omega arith) (omega arith) (omega arith) (omega arith)) in
    let first = accepts blank opens [] (words single) single single-order in
    none (words single) (open_of blank 2).words (first.1 (omega arith, omega (arith, node-needs)))

-- ---- by the exact condition of withdrawing

-- What answers calls so that, after any of them on a book that a run starts with, a withdrawal of an order within limits is done exactly if such an order remains.
abbrev pub Releases : Start → (Call → List ℕ → Outcome) → Type 0
Releases start answers =
    (slice : List ℕ) → (started_by start slice).answer.number ≡ done
    → (cs : List Call) (os : List ℕ) (t : Tree) → IsOrder os t
    → ((answers (withdraw os) (after_by answers cs (started_by start slice).words)).answer.number ≡ done) exactly_when
    (1 ≤ times_of os (remaining_by answers cs (started_by start slice).words (taught_first start)))

-- The teaching and withdrawing here do.
pub releasing_here : (start : Start) → Releases start outcome_of
releasing_here = withdrawn-exactly

-- The node stands once among itself.
node-once : times_of (words single) (words single ∷ []) ≡ 1
unfolding computes times_of
node-once = refl

-- "When a taught order proves bad it is withdrawn, and the book must forget it": some withdrawal is done, that of the node, from a book just opened in
-- which it was taught. So a book that teaches rightly and refuses every withdrawal is shut out.
pub never_forgetting : (answers : Call → List ℕ → Outcome) → Accepts (opening 2) answers → Releases (opening 2) answers
    → ((os ws : List ℕ) → (answers (withdraw os) ws).answer.number ≡ done → ⊥) → ⊥
unfolding after_by remaining_by
never_forgetting answers accepts releases none =
    let opens : (open_of blank 2).answer.number ≡ done = ap (λ (a : Answer). a.number) (opening-done blank 2 (omega arith) (omega arith) (omega arith) (omega arith)) in
    let taught : (answers (teach (words single)) (open_of blank 2).words).answer.number ≡ done = (accepts blank opens [] (words single) single single-order).1 (omega arith, omega (arith, node-needs)) in
    let left : remain_by (teach (words single)) (answers (teach (words single)) (open_of blank 2).words).answer.number [] ≡ words single ∷ [] = done-one_more (words single) _ [] taught in
    let once : times_of (words single) (remain_by (teach (words single)) (answers (teach (words single)) (open_of blank 2).words).answer.number []) ≡ 1 = ap (times_of (words single)) left ∙ node-once in
    none (words single) _ ((releases blank opens (teach (words single) ∷ []) (words single) single single-order).1 (omega (arith, once)))

-- ---- by the exact condition of joining

-- What answers calls so that, after any of them on a book that a run starts with, a book of its k that agrees with itself is joined exactly if no more than
-- 65,535 orders remain with its own and their book has room.
abbrev pub Merges : Start → (Call → List ℕ → Outcome) → Type 0
Merges start answers =
    (slice : List ℕ) → (started_by start slice).answer.number ≡ done
    → (cs : List Call) (vs : List ℕ) (c : Book) → IsBook vs c → Agrees c → c.k ≡ start_k start
    → let orders = orders_in c.T ++ remaining_by answers cs (started_by start slice).words (taught_first start) in
    ((answers (join vs) (after_by answers cs (started_by start slice).words)).answer.number ≡ done) exactly_when
    ((length orders ≤ greatest_count) × (used (booked (start_k start) orders) ≤ length slice))

-- The joining here does.
pub merging_here : (start : Start) → Merges start outcome_of
merging_here = joined-exactly

-- The book of the node agrees with itself.
node-agrees : Agrees (book_in one-taught)
unfolding computes
node-agrees = (sound-agreeing (book_in one-taught) taught-book.sound).0 refl

-- Its one order is the node, whose book needs 19 words.
node-merged : (orders_in (book_in one-taught).T ++ [] ≡ words single ∷ []) × ((book_in one-taught).k ≡ 2)
unfolding computes orders_in
node-merged = (refl, refl)

-- Refusing every joining: some is done, that of the book of the node, to a book just opened at k = 2 in 31 words.
pub refusing_joins : (answers : Call → List ℕ → Outcome) → Merges (opening 2) answers → ((vs ws : List ℕ) → (answers (join vs) ws).answer.number ≡ done → ⊥) → ⊥
unfolding after_by remaining_by
refusing_joins answers merges none =
    let opens : (open_of blank 2).answer.number ≡ done = ap (λ (a : Answer). a.number) (opening-done blank 2 (omega arith) (omega arith) (omega arith) (omega arith)) in
    let first = merges blank opens [] one-taught (book_in one-taught) taught-book node-agrees node-merged.1 in
    none one-taught (open_of blank 2).words (first.1 (omega (arith, ap length node-merged.0), omega (arith, ap (λ (orders : List (List ℕ)). used (booked 2 orders)) node-merged.0, node-needs)))

-- ---- by the rows of choosing an image

-- A choosing that meets 02's rows.
abbrev pub Chooses : (List ℕ → List ℕ → List ℕ → Chosen) → Type 0
Chooses f = (ws os rs : List ℕ) → WhyChosen ws os rs (f ws os rs)

-- No number, line or image is left to it: it is `choose_of`.
pub no_image-invented : (f : List ℕ → List ℕ → List ℕ → Chosen) → Chooses f → (ws os rs : List ℕ) → f ws os rs ≡ choose_of ws os rs
no_image-invented f meets ws os rs = sym (why-only ws os rs (f ws os rs) (meets ws os rs))

-- The rule list that names one image for the node 1000.
abbrev one-rule : ℕ → List ℕ
one-rule i = 1 ∷ i ∷ 1 ∷ 1000 ∷ 0 ∷ []

-- The one that names 7 and then 8 for it.
abbrev two_rules : List ℕ
two_rules = 2 ∷ 7 ∷ 1 ∷ 1000 ∷ 0 ∷ 8 ∷ 1 ∷ 1000 ∷ 0 ∷ []

-- By the book of the node 7 is chosen for it, or 8, or neither, by the rules.
choice_rows : (choose_of one-taught (words single) (one-rule 7) ≡ chosen 7) × (choose_of one-taught (words single) (one-rule 8) ≡ chosen 8)
    × (choose_of one-taught (words single) two_rules ≡ unchosen two_images)
unfolding choosing_computes
choice_rows = (refl, refl, refl)

module _ (f : List ℕ → List ℕ → List ℕ → Chosen) (meets : Chooses f) where
  -- What it gives for the node, by a rule list.
  gives : {c : Chosen} (rs : List ℕ) → choose_of one-taught (words single) rs ≡ c → f one-taught (words single) rs ≡ c
  gives rs e = no_image-invented f meets one-taught (words single) rs ∙ e

  -- Refusing everything: some image is chosen.
  pub choosing_none : ((ws os rs : List ℕ) → (f ws os rs).number ≡ done → ⊥) → ⊥
  choosing_none none = none one-taught (words single) (one-rule 7) (told (gives (one-rule 7) choice_rows.0))

  -- One image for all: not every choice is the same image.
  pub one-image : (i : ℕ) → ((ws os rs : List ℕ) → (f ws os rs).number ≡ done → (f ws os rs).image ≡ i) → ⊥
  one-image i all = omega (arith, is 7 choice_rows.0, is 8 choice_rows.1)
    where
      -- The image that a list of one rule names is that one.
      is : (j : ℕ) → choose_of one-taught (words single) (one-rule j) ≡ chosen j → j ≡ i
      is j e =
          let g : f one-taught (words single) (one-rule j) ≡ chosen j = gives (one-rule j) e in
          sym (ap (λ (c : Chosen). c.image) g) ∙ all one-taught (words single) (one-rule j) (told g)

  -- Taking the first rule that fits, or the last, or any: some order passes and some rule fits it, and no image is chosen.
  pub taking_one-that_fits : ((ws os rs : List ℕ) (rules : List ImageRule) (w : PassesWith ws os rs rules) (r : ImageRule) → Fitting ws os w.passes rules r → (f ws os rs).number ≡ done) → ⊥
  taking_one-that_fits takes =
      let differ : (choose_of one-taught (words single) two_rules).number ≡ two_images = told choice_rows.2 in
      let x = (two_images_exactly one-taught (words single) two_rules).0 differ in
      omega (arith, takes one-taught (words single) two_rules x.rules x.with x.first x.first_fits, told (gives two_rules choice_rows.2))
