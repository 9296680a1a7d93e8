-- The definitions of specs/Sound.antt say the same as the tests of `in_form`, `decode` and `book_form_of`; and what a book's words say, one by one.
-- Assumes nothing.
use Rattle.std.specs.Prelude.{None, Some, Result, Ok, Err}
use Prim.Native.Nat.{ℕ, ◌+◌, ◌-◌, ◌/◌, ◌≤◌, ◌<◌}
use mathlib.Core.Path.{◌≡◌, refl, sym, ap, ap₂, ◌∙◌, subst}
use mathlib.Core.Bool.{Bool, true, false}
use mathlib.Core.List.Memᴰ.{head as here}
use mathlib.Core.List.Memᴰ.{tail as there}
use mathlib.Core.List.{List, [], ◌∷◌, ◌++◌}
use native.Mathlib.Decide.{dec_lt}
use native.Mathlib.Omega.{arith}
use borrow.Author.Tests.{le-leb, leb-true}
use lib.ListN.{length, get_or, replicate, get_or-replicate}
use lib.Seq.{get_or-append-add}
use Rattle.words.specs.Base.{when◌then◌else◌, within, ◌∈◌}
use Rattle.words.specs.Compare.{◌≺◌}
use Rattle.words.proofs.Tests.{and_left, and_right, and_both, never}
use Rattle.figures.specs.Limits.{head_words, most_book_words, least_k, greatest_k, least_count, greatest_count}
use Rattle.figures.specs.Numbers.{book_size, not_in_form}
use Rattle.figures.specs.Refusals.{refusal_number}
use Rattle.figures.specs.declared.refusals.Refusal.{Refusal}
use Rattle.figures.proofs.SameRefusal.{same_refusal}
use Rattle.order.specs.Trees.{Tree, words, subtrees}
use Rattle.order.proofs.Orders.{size}
use Rattle.order.proofs.Fitting.{fits-tree, tree-fits, fits-some}
use Rattle.section.specs.Entries.{Entry, entry_words, total, Below, Sorted}
use Rattle.book.specs.Book.{Book, section_of, shallowest, deepest, used, live, encode, lay, entry_in_form, ascending_from, section_in_form, in_form}
use Rattle.book.specs.Decoding.{book_in, formed, decode, by_book, on_book, places_of, book_form_of, looked, BookForm, Refused, InForm}
use Rattle.book.specs.Sound.{SoundEntry, SoundSection, SoundBook, IsBook, WhyForm, shorter, longer, formless, book}
use Rattle.book.specs.Holding.{Holds}
use Rattle.book.specs.declared.Places.{Places}
use Rattle.book.specs.declared.Section.{Section}
use Rattle.book.specs.declared.Section.TheVariants.{Taught, Tops, Lows, Middles}
use Rattle.book.proofs.Meaning.{form-proper, proper_form, decoded, laid-decoded, one-book, no_book, used_is, lay-long}
use Rattle.book.proofs.Heads.{too_short, too_long, is-sized, form-unsized, form-unformed}
use Rattle.book.proofs.Holding.{holds, ascending_sorted, ascending_entry, sorted-ascending, refused-book}

-- ---- entries

module _ (least greatest : ℕ) (e : Entry) where
  -- An entry in form is sound.
  entry-sound : entry_in_form least greatest e ≡ true → SoundEntry least greatest e
  unfolding entry_in_form
  entry-sound f =
      let c = and_left (within least_count greatest_count e.count) _ f in
      record {
        some = leb-true _ _ (and_left _ _ c);
        few = leb-true _ _ (and_right _ _ c);
        tree = fits-tree least greatest e.key (and_right _ _ f);
      }

  -- A sound entry is in form.
  sound-entry : SoundEntry least greatest e → entry_in_form least greatest e ≡ true
  unfolding entry_in_form
  sound-entry s =
      and_both (and_both (le-leb least_count e.count s.some) (le-leb e.count greatest_count s.few)) (tree-fits least greatest e.key s.tree)

-- ---- sections

-- In a sorted section each key is lower than the next.
pub sorted-next : (xs ys : List Entry) (e f : Entry) → Sorted (xs ++ (e ∷ f ∷ ys)) → e.key ≺ f.key
unfolding Sorted Below
sorted-next [] ys e f s = s.1
sorted-next (x ∷ xs) ys e f s = sorted-next xs ys e f s.2

-- Entries that count, each with a key that is lower than the next, are sorted.
next-sorted : (es : List Entry) → ((e : Entry) → e ∈ es → 1 ≤ e.count)
    → ((xs ys : List Entry) (e f : Entry) → es ≡ xs ++ (e ∷ f ∷ ys) → e.key ≺ f.key) → Sorted es
unfolding Sorted Below
next-sorted [] c a = tt
next-sorted (x ∷ []) c a = (c x (here refl), tt, tt)
next-sorted (x ∷ y ∷ es) c a =
    (c x (here refl), a [] es x y refl, next-sorted (y ∷ es) (λ e m. c e (there m)) (λ xs ys e f q. a (x ∷ xs) ys e f (ap (λ (l : List Entry). x ∷ l) q)))

module _ (least greatest : ℕ) where
  -- The empty key stands below entries in form.
  empty-lowest : (es : List Entry) → ((e : Entry) → e ∈ es → entry_in_form least greatest e ≡ true) → Below [] es
  unfolding Below entry_in_form
  empty-lowest [] each = tt
  empty-lowest (x ∷ es) each = fits-some least greatest x.key (and_right _ _ (each x (here refl)))

  -- Entries in form that ascend are a sound section.
  ascending_sound : (es : List Entry) → ascending_from [] least greatest es ≡ true → SoundSection least greatest es
  ascending_sound es f =
      let s = (ascending_sorted [] least greatest es f).1 in
      record {
        entry = λ e m. entry-sound least greatest e (ascending_entry [] least greatest es e f m);
        ascends = λ xs ys e g q. sorted-next xs ys e g (rw q at s);
      }

  -- The entries of a sound section are in form and ascend.
  sound-ascending : (es : List Entry) → SoundSection least greatest es → ascending_from [] least greatest es ≡ true
  sound-ascending es s = sorted-ascending [] least greatest es (empty-lowest es each) (next-sorted es (λ e m. (s.entry e m).some) s.ascends) each
    where
      each : (e : Entry) → e ∈ es → entry_in_form least greatest e ≡ true
      each e m = sound-entry least greatest e (s.entry e m)

-- ---- books

-- Each section of a sound book is sound, of the depths that it may have.
pub sound-section : (b : Book) → SoundBook b → (s : Section) → SoundSection (shallowest s b.k) (deepest s b.k) (section_of s b)
unfolding section_of
sound-section b x Taught = x.taught
sound-section b x Tops = x.tops
sound-section b x Lows = x.lows
sound-section b x Middles = x.middles

module _ (b : Book) where
  -- A book in form is sound.
  pub form-sound : in_form b ≡ true → SoundBook b
  unfolding section_in_form section_of
  form-sound e =
      let p = form-proper b e in
      let sound : (s : Section) → SoundSection (shallowest s b.k) (deepest s b.k) (section_of s b) = λ s. ascending_sound (shallowest s b.k) (deepest s b.k) (section_of s b) (p.section s) in
      record {
        least = leb-true _ _ (and_left _ _ p.depth);
        greatest = leb-true _ _ (and_right _ _ p.depth);
        few = p.few;
        taught = sound Taught;
        tops = sound Tops;
        lows = sound Lows;
        middles = sound Middles;
      }

  -- A sound book is in form.
  pub sound-form : SoundBook b → in_form b ≡ true
  unfolding section_in_form
  sound-form s =
      proper_form b (record {
        depth = and_both (le-leb least_k b.k s.least) (le-leb b.k greatest_k s.greatest);
        few = s.few;
        section = λ t. sound-ascending (shallowest t b.k) (deepest t b.k) (section_of t b) (sound-section b s t);
      })

-- ---- the book of words

module _ (ws : List ℕ) where
  -- Words of a size for a book that are decoded to a book are its words.
  pub decode-book : (b : Book) → head_words ≤ length ws → length ws ≤ most_book_words → decode ws ≡ Some b → IsBook ws b
  decode-book b l s e = let d = decoded ws b e in record { long = l; short = s; sound = form-sound b d.1; laid = d.0 }

  -- The words of a book are decoded to it.
  pub book-decode : (b : Book) → IsBook ws b → decode ws ≡ Some b
  book-decode b i = laid-decoded ws b (sound-form b i.sound) i.laid

  -- A slice has one book at most.
  pub book-only : (b c : Book) → IsBook ws b → IsBook ws c → b ≡ c
  book-only b c i j = one-book ws b c (sound-form b i.sound) (sound-form c j.sound) i.laid j.laid

  -- Where the words are those of a book a call goes by it.
  pub on-any : (b : Book) → IsBook ws b → {A : Type 0} (r : ℕ → A) (f : Book → A) → on_book r ws f ≡ f b
  unfolding on_book by_book when◌then◌else◌
  on-any b i r f = rw (is-sized ws i.long i.short, book-decode b i)

-- ---- what a look at the form gives

-- Words that are not in form are decoded to none.
unformed_none : (ws : List ℕ) → formed ws ≡ false → decode ws ≡ None
unfolding decode when◌then◌else◌
unformed_none ws e = rw e

-- Words in form are decoded to the book that they hold.
formed-some : (ws : List ℕ) → formed ws ≡ true → decode ws ≡ Some (book_in ws)
unfolding decode when◌then◌else◌
formed-some ws e = rw e

module _ (ws : List ℕ) where
  -- A book's words give its places.
  form-of : (b : Book) → IsBook ws b → book_form_of ws ≡ InForm (places_of b)
  unfolding book_form_of
  form-of b i = on-any ws b i Refused (λ c. InForm (places_of c))

  -- Words that are not in form are those of no sound book.
  unformed_no_book : formed ws ≡ false → (b : Book) → IsBook ws b → ⊥
  unformed_no_book f b i = no_book ws (unformed_none ws f) b (sound-form b i.sound) i.laid

  -- Words that hold a book in form are those of the book that is read in them.
  pub held_book : (p : Places) → Holds ws p → IsBook ws (book_in ws)
  held_book p h = decode-book ws (book_in ws) h.long h.short h.decoded

  -- Words of a size for a book that are in form are those of a book.
  formed-book : head_words ≤ length ws → length ws ≤ most_book_words → formed ws ≡ true → IsBook ws (book_in ws)
  formed-book l s f = decode-book ws (book_in ws) l s (formed-some ws f)

  -- Words of no sound book are not in form.
  no_book-unformed : head_words ≤ length ws → length ws ≤ most_book_words → ((b : Book) → IsBook ws b → ⊥) → formed ws ≡ false
  no_book-unformed l s n = go (formed ws) refl
    where
      go : (t : Bool) → formed ws ≡ t → formed ws ≡ false
      go true e = absurd (n (book_in ws) (formed-book l s e))
      go false e = e

  -- A refusal is 4 or 5.
  pub refused-4_5 : (n : ℕ) → WhyForm ws (Refused n) → (book_size ≤ n) × (n ≤ not_in_form)
  refused-4_5 n (shorter r l) = let z : n ≡ book_size = cc in (omega arith, omega arith)
  refused-4_5 n (longer r l) = let z : n ≡ book_size = cc in (omega arith, omega arith)
  refused-4_5 n (formless r l m x) = let z : n ≡ not_in_form = cc in (omega arith, omega arith)
  refused-4_5 n (book b r i) = never cc

  -- What it gives has its reason.
  pub why-is : WhyForm ws (book_form_of ws)
  why-is = by_size (dec_lt (length ws) head_words) (dec_lt most_book_words (length ws))
    where
      by_form_lem : head_words ≤ length ws → length ws ≤ most_book_words → (t : Bool) → formed ws ≡ t → WhyForm ws (book_form_of ws)
      by_form_lem l s true e = book (book_in ws) (form-of (book_in ws) (formed-book l s e)) (formed-book l s e)
      by_form_lem l s false e = formless (form-unformed ws (is-sized ws l s) e) l s (unformed_no_book e)

      by_size : Dec (length ws < head_words) → Dec (most_book_words < length ws) → WhyForm ws (book_form_of ws)
      by_size (yes h) d = shorter (form-unsized ws (too_short ws h)) h
      by_size (no h) (yes g) = longer (form-unsized ws (too_long ws g)) g
      by_size (no h) (no g) = by_form_lem (omega arith) (omega arith) (formed ws) refl

  -- What has a reason is what it gives.
  pub why-only : (f : BookForm) → WhyForm ws f → book_form_of ws ≡ f
  why-only f (shorter e h) = form-unsized ws (too_short ws h) ∙ sym e
  why-only f (longer e h) = form-unsized ws (too_long ws h) ∙ sym e
  why-only f (formless e l s n) = form-unformed ws (is-sized ws l s) (no_book-unformed l s n) ∙ sym e
  why-only f (book b e i) = form-of b i ∙ sym e

-- ---- a book laid in a slice

module _ (n : ℕ) (b : Book) (form : in_form b ≡ true) (fits : used b ≤ n) (short : n ≤ most_book_words) where
  -- The words are the book's.
  pub laid-book : IsBook (lay n b) b
  laid-book =
      let e : length (lay n b) ≡ n = lay-long n b fits in
      record { long = omega (arith, used_is b); short = omega arith; sound = form-sound b form; laid = ap (λ (m : ℕ). lay m b) e }

  -- They hold it, and its sections start where it says.
  pub laid-holds : Holds (lay n b) (places_of b)
  laid-holds = holds (lay n b) (places_of b) (why-only (lay n b) (InForm (places_of b)) (book b refl laid-book))

-- What holds of every refusal and of what follows a book holds of what follows any words.
pub by_book_lem : {A : Type 0} (P : A → Type 0) (ws : List ℕ) (r : ℕ → A) (f : Book → A) → ((n : ℕ) → P (r n))
    → ((b : Book) → IsBook ws b → P (f b)) → P (on_book r ws f)
by_book_lem P ws r f p q = go (why-is ws)
  where
    -- Words that are refused.
    no_book : (n : ℕ) → book_form_of ws ≡ Refused n → P (on_book r ws f)
    no_book n e = subst P (sym (refused-book ws n e r f)) (p n)

    -- By what the words are.
    go : WhyForm ws (book_form_of ws) → P (on_book r ws f)
    go (shorter e l) = no_book _ e
    go (longer e l) = no_book _ e
    go (formless e l m n) = no_book _ e
    go (book b e i) = subst P (sym (on-any ws b i r f)) (q b i)

-- ---- what the words say

-- "Word 0: k. Word 1: words used. Word 2: live teachings", "the sum of the counts in section T. Words 3 to 6: numbers of entries in T, R, L, P."
pub head_says : (ws : List ℕ) (b : Book) → IsBook ws b
    → (get_or ws 0 0 ≡ b.k) × (get_or ws 1 0 ≡ used b) × (get_or ws 2 0 ≡ total b.T) × (get_or ws 3 0 ≡ length b.T) × (get_or ws 4 0 ≡ length b.R)
    × (get_or ws 5 0 ≡ length b.L) × (get_or ws 6 0 ≡ length b.P)
unfolding lay encode live
head_says ws b i = (word 0, word 1, word 2, word 3, word 4, word 5, word 6)
  where
    word : (n : ℕ) → get_or ws n 0 ≡ get_or (lay (length ws) b) n 0
    word n = ap (λ (l : List ℕ). get_or l n 0) (sym i.laid)

-- A book has as many words as it uses.
pub encode-length : (b : Book) → length (encode b) ≡ used b
unfolding encode used
encode-length b = omega arith

-- A word past those used of a book in a slice is zero.
laid-tail : (n : ℕ) (b : Book) (i : ℕ) → used b ≤ i → i < n → get_or (lay n b) i 0 ≡ 0
unfolding lay
laid-tail n b i l h =
    let e : length (encode b) + (i - used b) ≡ i = omega (arith, encode-length b) in
    ap (λ (j : ℕ). get_or (encode b ++ replicate (n - used b) 0) j 0) (sym e)
    ∙ get_or-append-add (encode b) (replicate (n - used b) 0) (i - used b) 0
    ∙ get_or-replicate (n - used b) (i - used b) 0 0 (omega arith)

-- "Words past those used are zero."
pub tail_says : (ws : List ℕ) (b : Book) → IsBook ws b → (i : ℕ) → used b ≤ i → i < length ws → get_or ws i 0 ≡ 0
tail_says ws b is i l h = ap (λ (x : List ℕ). get_or x i 0) (sym is.laid) ∙ laid-tail (length ws) b i l h

-- "An entry is: number of nodes, count (1 to 65,535), the tree's words."
pub entry-says : (e : Entry) (t : Tree) → e.key ≡ words t → entry_words e ≡ length (subtrees t) ∷ e.count ∷ words t
entry-says e t s =
    let n : length e.key / 2 ≡ length (subtrees t) = omega (arith, ap length s, size t) in
    ap₂ (λ (m : ℕ) (w : List ℕ). m ∷ e.count ∷ w) n s

-- ---- looks

-- Looks that are told alike are one.
pub same_looked : (r s : Result Places Refusal) → looked r ≡ looked s → r ≡ s
same_looked (Err r) (Err s) e = ap Err (same_refusal r s (let n : refusal_number r ≡ refusal_number s = cc in n))
same_looked (Ok p) (Ok q) e = let n : p ≡ q = cc in ap Ok n
same_looked (Err r) (Ok q) e = never cc
same_looked (Ok p) (Err s) e = never cc
