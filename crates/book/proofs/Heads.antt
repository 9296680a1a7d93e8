-- The tests of a book's form one after the other: what is known of the words after each, and what follows where one fails. Assumes nothing.
use Rattle.std.specs.Prelude.{None, Option, Some}
use Prim.Native.Nat.{ℕ, ◌+◌, ◌<◌, ◌≤◌}
use mathlib.Core.Path.{◌≡◌, refl, sym, ap, ◌∙◌}
use mathlib.Core.Bool.{Bool, true, false}
use mathlib.Core.List.{List}
use native.Mathlib.Nat.{zero-add}
use native.Mathlib.Omega.{arith}
use borrow.Author.Tests.{le-leb, lt-leb, leb-true}
use lib.Dec.{leb}
use lib.ListN.{length, get_or, drop}
use Rattle.book.specs.declared.Stretch.{Stretch}
use Rattle.words.specs.Base.{◌and◌, when◌then◌else◌, within}
use Rattle.words.proofs.Tests.{and_left, and_right, and_both, fails_left, fails_right}
use Rattle.figures.specs.Limits.{head_words, most_book_words, least_k, greatest_k, greatest_depth, greatest_count}
use Rattle.figures.specs.Numbers.{book_size, not_in_form}
use Rattle.figures.specs.Answers.{depth_of}
use Rattle.figures.specs.declared.depths.Depth.{Depth}
use Rattle.section.specs.Entries.{entries, span, total}
use Rattle.book.specs.Book.{Book, section_of, shallowest, deepest}
use Rattle.book.specs.Decoding.{tops_at, lows_at, middles_at, end_at, book_in, formed, decode, by_book, sized, on_book, places_of, start_of, slot_of, book_form_of, Refused, InForm}
use Rattle.book.specs.Passes.{stretch, stretch_of, head_of}
use Rattle.book.specs.declared.Section.{Section}
use Rattle.book.specs.declared.Section.TheVariants.{Taught, Tops, Lows, Middles}
use Rattle.book.specs.declared.Places.{Places}
use Rattle.book.proofs.Passing.{each_all, one-fails, places_in, run_of, passes, section-in}
use Rattle.book.proofs.Meaning.{formed-passes, formed-passed, is-places}
use Rattle.book.proofs.Depths.{allowed}

-- ---- the size

-- A slice that is too short has no size for a book.
pub too_short : (ws : List ℕ) → length ws < head_words → sized ws ≡ false
unfolding sized
too_short ws h = fails_left _ _ (lt-leb head_words (length ws) h)

-- A slice that is too long has none.
pub too_long : (ws : List ℕ) → most_book_words < length ws → sized ws ≡ false
unfolding sized
too_long ws h = fails_right _ _ (lt-leb (length ws) most_book_words h)

-- Any other has.
pub is-sized : (ws : List ℕ) → head_words ≤ length ws → length ws ≤ most_book_words → sized ws ≡ true
unfolding sized
is-sized ws h g = and_both (le-leb head_words (length ws) h) (le-leb (length ws) most_book_words g)

-- A number below 7 is no size of a book.
pub size-short : (n : ℕ) → n < head_words → within head_words most_book_words n ≡ false
size-short n h = fails_left _ _ (lt-leb head_words n h)

-- Of any other the greatest decides.
pub size-by_most : (n : ℕ) → head_words ≤ n → within head_words most_book_words n ≡ leb n most_book_words
unfolding ◌and◌
size-by_most n h = rw (le-leb head_words n h)

-- A size of a book is 7 to 16,384.
pub size-told : (n : ℕ) → within head_words most_book_words n ≡ true → (head_words ≤ n) × (n ≤ most_book_words)
size-told n e = (leb-true _ _ (and_left _ _ e), leb-true _ _ (and_right (leb head_words n) _ e))

-- A slice has the size of a book if its length is one.
pub sized-by : (ws : List ℕ) (b : Bool) → within head_words most_book_words (length ws) ≡ b → sized ws ≡ b
unfolding sized
sized-by ws b e = e

-- ---- what a call does

module _ {A : Type 0} (r : ℕ → A) (ws : List ℕ) (f : Book → A) where
  -- In a slice of no size for a book it refuses by 4.
  pub on-unsized : sized ws ≡ false → on_book r ws f ≡ r book_size
  unfolding on_book when◌then◌else◌
  on-unsized e = rw e

  -- Where the words are no book in form it refuses by 5.
  pub on-unformed : sized ws ≡ true → formed ws ≡ false → on_book r ws f ≡ r not_in_form
  unfolding on_book decode by_book when◌then◌else◌
  on-unformed e g = rw (e, g)

  -- Where they are one it goes by the book.
  on-formed : sized ws ≡ true → formed ws ≡ true → on_book r ws f ≡ f (book_in ws)
  unfolding on_book decode by_book when◌then◌else◌
  on-formed e g = rw (e, g)

-- What a look at the form gives, by the size and by whether the words are a book in form.
module _ (ws : List ℕ) where
  -- A slice of no size for a book is refused by 4.
  pub form-unsized : sized ws ≡ false → book_form_of ws ≡ Refused book_size
  unfolding book_form_of
  form-unsized z = on-unsized Refused ws (λ b. InForm (places_of b)) z

  -- Words that are no book in form are refused by 5.
  pub form-unformed : sized ws ≡ true → formed ws ≡ false → book_form_of ws ≡ Refused not_in_form
  unfolding book_form_of
  form-unformed z f = on-unformed Refused ws (λ b. InForm (places_of b)) z f

  -- Of any others the places are given.
  pub form-formed : sized ws ≡ true → formed ws ≡ true → book_form_of ws ≡ InForm (places_of (book_in ws))
  unfolding book_form_of
  form-formed z f = on-formed Refused ws (λ b. InForm (places_of b)) z f

-- ---- what is found of a section

-- Where a section ends.
abbrev pub section-end : Section → List ℕ → ℕ
section-end Taught ws = tops_at ws
section-end Tops ws = lows_at ws
section-end Lows ws = middles_at ws
section-end Middles ws = end_at ws

-- It ends past its entries.
pub end_of : (s : Section) (ws : List ℕ) → start_of s (places_in ws) + span (get_or ws (slot_of s) 0) (drop (start_of s (places_in ws)) ws) ≡ section-end s ws
unfolding tops_at lows_at middles_at end_at
end_of Taught ws = refl
end_of Tops ws = refl
end_of Lows ws = refl
end_of Middles ws = refl

-- A section in order, the word past it and the sum of its counts.
pub record Ran (ws : List ℕ) (s : Section) (end sum : ℕ) : Type 0 where
  pub runs : run_of ws s ≡ true
  pub next : end ≡ section-end s ws
  pub sums : sum ≡ total (section_of s (book_in ws))

module _ (ws : List ℕ) (s : Section) where
  -- What is found of a section.
  abbrev Tells : Option Stretch → Type 0
  Tells (Some ran) = Ran ws s ran.end ran.sum
  Tells None = run_of ws s ≡ false

  -- It is what stands there.
  tells : Tells (stretch_of ws (start_of s (places_in ws)) (get_or ws (slot_of s) 0) (shallowest s (get_or ws 0 0)) (deepest s (get_or ws 0 0)))
  unfolding stretch_of stretch when◌then◌else◌
  tells = go (run_of ws s) refl
    where
      go : (b : Bool) → run_of ws s ≡ b
          → Tells (when b
          then Some (record { end = start_of s (places_in ws) + span (get_or ws (slot_of s) 0) (drop (start_of s (places_in ws)) ws); sum = 0 + total (entries (get_or ws (slot_of s) 0) (drop (start_of s (places_in ws)) ws)) })
          else None)
      go true e = record { runs = e; next = end_of s ws; sums = zero-add _ ∙ ap total (sym (section-in s ws)) }
      go false e = e

-- ---- stage by stage

-- The slice has a size for a book and a k.
pub record Head (ws : List ℕ) (d : Depth) : Type 0 where
  pub long : head_words ≤ length ws
  pub short : length ws ≤ most_book_words
  pub is : d.k ≡ get_or ws 0 0
  pub allows : within least_k greatest_k (get_or ws 0 0) ≡ true
  pub few : get_or ws 2 0 ≤ greatest_count

-- They are so, where the depth is told.
pub head : {ws : List ℕ} {d : Depth} {w : Option Depth} → head_words ≤ length ws → length ws ≤ most_book_words → w ≡ depth_of (get_or ws 0 0) → w ≡ Some d
    → get_or ws 2 0 ≤ greatest_count → Head ws d
head {ws} {d} {w} l m e s f =
    let a = allowed (get_or ws 0 0) w e d s in
    record { long = l; short = m; is = a.0; allows = a.1; few = f }

-- The parts are no deeper than an order may be.
pub shallow : {ws : List ℕ} {d : Depth} → Head ws d → d.k ≤ greatest_depth
shallow {ws} h = omega (arith, h.is, leb-true (get_or ws 0 0) greatest_k (and_right _ _ h.allows))

-- Words that do not pass are refused by 5.
not_passed : (ws : List ℕ) → sized ws ≡ true → passes ws ≡ false → book_form_of ws ≡ Refused not_in_form
not_passed ws z e = form-unformed ws z (formed-passes ws ∙ e)

-- Words with no k are refused by 5.
pub no_k : (ws : List ℕ) → sized ws ≡ true → within least_k greatest_k (get_or ws 0 0) ≡ false → book_form_of ws ≡ Refused not_in_form
unfolding passes
no_k ws z e = not_passed ws z (fails_right _ _ (fails_left _ _ e))

-- The pass over a section.
module _ {ws : List ℕ} {d : Depth} (h : Head ws d) (s : Section) {from least greatest : ℕ} (starts : from ≡ start_of s (places_in ws))
    (low : least ≡ shallowest s d.k) (high : greatest ≡ deepest s d.k) {w : Option Stretch} (told : w ≡ stretch_of ws from (get_or ws (slot_of s) 0) least greatest) where
  -- What it tells is what stands there.
  pass_tells : Tells ws s w
  pass_tells =
      let a : least ≡ shallowest s (get_or ws 0 0) = low ∙ ap (shallowest s) h.is in
      let b : greatest ≡ deepest s (get_or ws 0 0) = high ∙ ap (deepest s) h.is in
      rw (told, starts, a, b) (tells ws s)

  -- A section in order is found.
  pub section-found : {end sum : ℕ} → w ≡ Some (record { end = end; sum = sum }) → Ran ws s end sum
  section-found e = rw e at pass_tells

  -- Words with a section that is broken are refused by 5.
  pub no_section : w ≡ None → book_form_of ws ≡ Refused not_in_form
  unfolding passes
  no_section e =
      let f : run_of ws s ≡ false = rw e at pass_tells in
      not_passed ws (is-sized ws h.long h.short) (fails_right _ _ (fails_right _ _ (fails_right _ _ (fails_left _ _ (one-fails (run_of ws) s f)))))

-- All four sections are found.
pub record Sections (ws : List ℕ) (live tops lows middles used : ℕ) : Type 0 where
  pub of-taught : Ran ws Taught tops live
  pub sum_tops : ℕ
  pub of-tops : Ran ws Tops lows sum_tops
  pub sum_lows : ℕ
  pub of-lows : Ran ws Lows middles sum_lows
  pub sum_middles : ℕ
  pub of-middles : Ran ws Middles used sum_middles

module _ {ws : List ℕ} {d : Depth} (h : Head ws d) {live tops lows middles used : ℕ} (f : Sections ws live tops lows middles used) where
  -- What the head says is asked of the book's own numbers.
  asked : head_of ws live used ≡ head_of ws (total (book_in ws).T) (end_at ws)
  unfolding section_of
  asked = rw (f.of-taught.sums, f.of-middles.next)

  -- Words whose head does not agree are refused by 5.
  pub no_head : head_of ws live used ≡ false → book_form_of ws ≡ Refused not_in_form
  unfolding passes
  no_head e =
      not_passed ws (is-sized ws h.long h.short) (fails_right _ _ (fails_right _ _ (fails_right _ _ (fails_right _ _ (sym asked ∙ e)))))

  -- Each section is a run.
  runs : (s : Section) → run_of ws s ≡ true
  runs Taught = f.of-taught.runs
  runs Tops = f.of-tops.runs
  runs Lows = f.of-lows.runs
  runs Middles = f.of-middles.runs

  -- Otherwise the words pass.
  all_pass : head_of ws live used ≡ true → passes ws ≡ true
  unfolding passes
  all_pass e =
      and_both (le-leb head_words (length ws) h.long)
      (and_both h.allows
      (and_both (le-leb (get_or ws 2 0) greatest_count h.few) (and_both (each_all (run_of ws) runs) (sym asked ∙ e))))

  -- The places are those that the words say.
  places : ◌≡◌ {A = Places} (places_in ws) (record { k = d; tops = tops; lows = lows; middles = middles; used = used })
  places = same (sym h.is) (sym f.of-taught.next) (sym f.of-tops.next) (sym f.of-lows.next) (sym f.of-middles.next)
    where
      same : {k k' a a' b b' c c' e e' : ℕ} → k ≡ k' → a ≡ a' → b ≡ b' → c ≡ c' → e ≡ e'
          → ◌≡◌ {A = Places} (record { k = record { k = k }; tops = a; lows = b; middles = c; used = e }) (record { k = record { k = k' }; tops = a'; lows = b'; middles = c'; used = e' })
      same p q r s t = cc

  -- They are a book in form with these places.
  pub in_form-at : head_of ws live used ≡ true → book_form_of ws ≡ InForm (record { k = d; tops = tops; lows = lows; middles = middles; used = used })
  in_form-at e =
      let t : formed ws ≡ true = formed-passes ws ∙ all_pass e in
      form-formed ws (is-sized ws h.long h.short) t ∙ ap InForm (is-places ws (formed-passed ws t) ∙ places)
