-- What a caller of `book_form::in_form` has where the words are a book in form, and what a call does where they are one and where they are not.
-- Assumes nothing.
use Prim.Native.Nat.{ℕ, ◌+◌, ◌<◌, ◌≤◌}
use mathlib.Core.Path.{◌≡◌, refl, sym, ap, ◌∙◌}
use mathlib.Core.Bool.{Bool, true, false}
use mathlib.Core.List.Memᴰ
use mathlib.Core.List.Memᴰ.{head as here}
use mathlib.Core.List.Memᴰ.{tail as there}
use mathlib.Core.List.{List, [], ◌∷◌}
use native.Mathlib.Omega.{arith}
use borrow.Author.Tests.{leb-true}
use lib.ListN.{length, get_or, drop}
use Rattle.words.specs.Base.{when◌then◌else◌, ◌∈◌}
use Rattle.words.proofs.Ordered.{before-lower, lower-before}
use Rattle.words.proofs.Tests.{and_left, and_right, and_both, never}
use Rattle.figures.specs.Limits.{head_words, least_k, greatest_k}
use Rattle.section.specs.Entries.{Entry, span, Below, Sorted}
use Rattle.book.specs.Book.{Book, section_of, used, shallowest, deepest, entry_in_form, ascending_from, section_in_form}
use Rattle.book.specs.Decoding.{lows_at, middles_at, end_at, book_in, formed, decode, sized, on_book, places_of, start_of, slot_of, book_form_of, Refused, InForm}
use Rattle.book.specs.Holding.{Holds}
use Rattle.book.specs.declared.Section.{Section}
use Rattle.book.specs.declared.Section.TheVariants.{Taught, Tops, Lows, Middles}
use Rattle.book.specs.declared.Places.{Places}
use Rattle.book.proofs.Passing.{places_in, section-in}
use Rattle.book.proofs.Meaning.{form-proper, formed-passed, is-places, is-used, is-laid, is-formed, used-fits}
use Rattle.book.proofs.Heads.{on-unsized, on-unformed, form-unsized, form-unformed, form-formed, section-end, end_of}

-- ---- ascending entries

-- An entry in form counts at least 1.
counts_some : (least greatest : ℕ) (e : Entry) → entry_in_form least greatest e ≡ true → 1 ≤ e.count
unfolding entry_in_form
counts_some least greatest e f = leb-true _ _ (and_left _ _ (and_left _ _ f))

-- Entries that ascend from a key on are sorted, and the key stands below them.
pub ascending_sorted : (last : List ℕ) (least greatest : ℕ) (es : List Entry) → ascending_from last least greatest es ≡ true → Below last es × Sorted es
unfolding ascending_from Below Sorted
ascending_sorted last least greatest [] e = (tt, tt)
ascending_sorted last least greatest (x ∷ es) e =
    let f = and_right (entry_in_form least greatest x) _ e in
    let ih = ascending_sorted x.key least greatest es (and_right _ _ f) in
    (before-lower last x.key (and_left _ _ f), (counts_some least greatest x (and_left _ _ e), ih.0, ih.1))

-- Each of them is in form.
pub ascending_entry : (last : List ℕ) (least greatest : ℕ) (es : List Entry) (e : Entry) → ascending_from last least greatest es ≡ true → e ∈ es → entry_in_form least greatest e ≡ true
unfolding ascending_from
ascending_entry last least greatest [] e f m = absurd (Memᴰ.not-nil m)
ascending_entry last least greatest (x ∷ es) e f (here q) = ap (entry_in_form least greatest) q ∙ and_left _ _ f
ascending_entry last least greatest (x ∷ es) e f (there m) = ascending_entry x.key least greatest es e (and_right _ _ (and_right (entry_in_form least greatest x) _ f)) m

-- Sorted entries above a key, each in form, ascend from it on.
pub sorted-ascending : (last : List ℕ) (least greatest : ℕ) (es : List Entry) → Below last es → Sorted es → ((e : Entry) → e ∈ es → entry_in_form least greatest e ≡ true)
    → ascending_from last least greatest es ≡ true
unfolding ascending_from Below Sorted
sorted-ascending last least greatest [] b s each = refl
sorted-ascending last least greatest (x ∷ es) b s each =
    and_both (each x (here refl)) (and_both (lower-before last x.key b) (sorted-ascending x.key least greatest es s.1 s.2 (λ e m. each e (there m))))

-- A section in form is sorted.
pub section-sorted : (s : Section) (b : Book) → section_in_form s b ≡ true → Sorted (section_of s b)
unfolding section_in_form
section-sorted s b e = (ascending_sorted [] (shallowest s b.k) (deepest s b.k) (section_of s b) e).1

-- ---- where the words are a book in form

-- No section ends past the words used.
ends_by : (s : Section) (ws : List ℕ) → section-end s ws ≤ end_at ws
unfolding end_at middles_at lows_at
ends_by Taught ws = omega arith
ends_by Tops ws = omega arith
ends_by Lows ws = omega arith
ends_by Middles ws = omega arith

-- Words that are a book in form hold it, and its sections start where they say.
holding : (ws : List ℕ) → sized ws ≡ true → formed ws ≡ true → Holds ws (places_in ws)
unfolding sized decode when◌then◌else◌ book_in
holding ws z f =
    let p = formed-passed ws f in
    let b = form-proper (book_in ws) (is-formed ws p) in
    record {
      long = leb-true _ _ (and_left _ _ z);
      short = leb-true _ _ (and_right _ _ z);
      form = is-formed ws p;
      laid = is-laid ws p;
      decoded = rw f;
      places = sym (is-places ws p);
      depth = refl;
      least = leb-true _ _ (and_left _ _ p.depth);
      greatest = leb-true _ _ (and_right _ _ p.depth);
      section = λ s. record {
        are = sym (section-in s ws);
        within = omega (arith, end_of s ws, ends_by s ws, is-used ws p, used-fits ws (book_in ws) (is-laid ws p));
        sorted = section-sorted s (book_in ws) (b.section s);
      };
    }

-- A form that is not refused has the places of its book.
told-places : {p q : Places} → InForm p ≡ InForm q → p ≡ q
told-places e = cc

-- No refusal is a form.
not_refused : {A : Type 0} {n : ℕ} {p : Places} → Refused n ≡ InForm p → A
not_refused e = never cc

module _ (ws : List ℕ) where
  -- Words that are told to be in form have the size and are.
  told-both : (p : Places) → book_form_of ws ≡ InForm p → (sized ws ≡ true) × (formed ws ≡ true)
  told-both p e = go (sized ws) refl (formed ws) refl
    where
      go : (a : Bool) → sized ws ≡ a → (b : Bool) → formed ws ≡ b → (sized ws ≡ true) × (formed ws ≡ true)
      go true z true f = (z, f)
      go true z false f = not_refused (sym (form-unformed ws z f) ∙ e)
      go false z b f = not_refused (sym (form-unsized ws z) ∙ e)

  -- What a caller of `book_form::in_form` has where the words are a book in form.
  pub holds : (p : Places) → book_form_of ws ≡ InForm p → Holds ws p
  holds p e =
      let t = told-both p e in
      let q : places_in ws ≡ p = sym (is-places ws (formed-passed ws t.1)) ∙ told-places (sym (form-formed ws t.0 t.1) ∙ e) in
      rw (← q) (holding ws t.0 t.1)

  -- Where the words are refused a call refuses by the same number.
  pub refused-book : (n : ℕ) → book_form_of ws ≡ Refused n → {A : Type 0} (r : ℕ → A) (f : Book → A) → on_book r ws f ≡ r n
  refused-book n e r f = go (sized ws) refl (formed ws) refl
    where
      number : {m : ℕ} → Refused m ≡ Refused n → m ≡ n
      number q = cc

      go : (a : Bool) → sized ws ≡ a → (b : Bool) → formed ws ≡ b → on_book r ws f ≡ r n
      go true z true g = not_refused (sym e ∙ form-formed ws z g)
      go true z false g = on-unformed r ws f z g ∙ ap r (number (sym (form-unformed ws z g) ∙ e))
      go false z b g = on-unsized r ws f z ∙ ap r (number (sym (form-unsized ws z) ∙ e))

-- ---- what a caller has then

-- The head has the number of entries of each section.
pub slot_small : (s : Section) → slot_of s < head_words
slot_small Taught = omega arith
slot_small Tops = omega arith
slot_small Lows = omega arith
slot_small Middles = omega arith

module _ (ws : List ℕ) (p : Places) (h : Holds ws p) where
  -- k is 2 to 6.
  pub allowed : (least_k ≤ p.k.k) × (p.k.k ≤ greatest_k)
  allowed = (omega (arith, h.depth, h.least), omega (arith, h.depth, h.greatest))

  -- The words used are those that the places say.
  pub uses : p.used ≡ used (book_in ws)
  unfolding places_of
  uses = ap (λ (q : Places). q.used) h.places

  -- They have room.
  pub used-room : p.used ≤ length ws
  used-room = omega (arith, uses, used-fits ws (book_in ws) h.laid)

  -- The number of a section's entries stands within the words.
  pub slot_within : (s : Section) (word : ℕ) → word ≡ slot_of s → word < length ws
  slot_within s word e = omega (arith, slot_small s, h.long)

  -- One section starts at `at`, and its number of entries is word `word` of the head.
  module _ (s : Section) (at word : ℕ) (starts : at ≡ start_of s p) (slot : word ≡ slot_of s) where
    -- The section ends within the words.
    pub ends-within : at + span (get_or ws word 0) (drop at ws) ≤ length ws
    ends-within = rw (starts, slot) (h.section s).within

    -- The section starts within the words.
    pub start-within : at ≤ length ws
    start-within = omega (arith, ends-within)
