-- What stored bytes are: the used words of a book in form, of one book at most, and when there is none. Assumes nothing.
use Rattle.std.specs.Prelude.{None, Some}
use Prim.Native.Nat.{ℕ, ◌+◌, ◌-◌, ◌≤◌}
use mathlib.Core.Path.{◌≡◌, refl, sym, ap, ◌∙◌}
use mathlib.Core.Bool.{Bool, true, false}
use mathlib.Core.List.{List, ◌++◌, append-nil}
use native.Mathlib.Omega.{arith}
use lib.Dec.{leb}
use borrow.Author.Tests.{le-leb, leb-true}
use lib.ListN.{length, replicate}
use Rattle.words.specs.Base.{◌and◌, when◌then◌else◌, same_words}
use Rattle.words.proofs.Tests.{and_left, and_right, and_both, same-words, words_same, never}
use Rattle.figures.specs.Limits.{head_words, most_book_words}
use Rattle.book.specs.Book.{Book, used, encode, lay, in_form}
use Rattle.book.specs.Decoding.{book_in}
use Rattle.book.specs.Sound.{IsBook}
use Rattle.book.proofs.Meaning.{laid-read}
use Rattle.book.proofs.Sound.{encode-length, form-sound, sound-form}
use Rattle.octets.specs.Octets.{bytes_of, words_of}
use Rattle.book_filing.specs.Files.{stored_in}
use Rattle.octets.proofs.Bytes.{words-of_bytes, bytes_one}

-- ---- the used words of a book

-- A book in a slice of the words that it uses is its words alone.
laid-used : (b : Book) → lay (used b) b ≡ encode b
unfolding lay
laid-used b = let z : used b - used b ≡ 0 = omega arith in ap (λ (n : ℕ). encode b ++ replicate n 0) z ∙ append-nil (encode b)

-- A book uses the words of its head.
head_used : (b : Book) → head_words ≤ used b
unfolding used
head_used b = omega arith

-- ---- stored books

-- The bytes are "the used words of a book in form", high byte first.
pub record Stored (rest : List ℕ) (b : Book) : Type 0 where
  pub form : in_form b ≡ true
  pub short : used b ≤ most_book_words
  pub bytes : bytes_of (encode b) ≡ rest

module _ (rest : List ℕ) where
  -- The book that the words of the bytes hold.
  abbrev held : Book
  held = book_in (words_of rest)

  -- The test that the bytes are a book's.
  abbrev stores : Book → Bool
  stores b = in_form b and leb (used b) most_book_words and same_words (bytes_of (encode b)) rest

  -- A stored book passes the test.
  stored_passes : (b : Book) → Stored rest b → stores b ≡ true
  stored_passes b s =
      and_both s.form (and_both (le-leb (used b) most_book_words s.short) (ap (same_words (bytes_of (encode b))) (sym s.bytes) ∙ same-words _))

  -- A book that passes the test is stored.
  passes-stored : (b : Book) → stores b ≡ true → Stored rest b
  passes-stored b e =
      let f = and_right (in_form b) _ e in
      record { form = and_left _ _ e; short = leb-true _ _ (and_left _ _ f); bytes = words_same _ _ (and_right _ _ f) }

  -- A stored book is the one that the words of the bytes hold.
  stored_held : (b : Book) → Stored rest b → held ≡ b
  stored_held b s =
      ap (λ (bs : List ℕ). book_in (words_of bs)) (sym s.bytes)
      ∙ ap book_in (words-of_bytes (encode b) ∙ sym (laid-used b))
      ∙ laid-read (used b) b s.form

  -- Where the book that they hold passes the test, it is the one stored.
  passes-some : stores held ≡ true → stored_in rest ≡ Some held
  unfolding stored_in when◌then◌else◌
  passes-some e = rw e

  -- Where it fails there is none.
  fails_none : stores held ≡ false → stored_in rest ≡ None
  unfolding stored_in when◌then◌else◌
  fails_none e = rw e

  -- The book whose used words the bytes are is found in them.
  pub stored_some : (b : Book) → Stored rest b → stored_in rest ≡ Some b
  stored_some b s =
      let q = stored_held b s in
      passes-some (ap stores q ∙ stored_passes b s) ∙ ap (λ (c : Book). Some c) q

  -- The bytes are the used words of the book that is found in them.
  pub stored_is : (b : Book) → stored_in rest ≡ Some b → Stored rest b
  stored_is b e = go (stores held) refl
    where
      -- By the test.
      go : (t : Bool) → stores held ≡ t → Stored rest b
      go true p = let q : held ≡ b = cc (passes-some p) in passes-stored b (ap stores (sym q) ∙ p)
      go false p = never (cc (fails_none p))

  -- Bytes in which no book is found are the used words of none.
  pub stored_none : stored_in rest ≡ None → (b : Book) → Stored rest b → ⊥
  stored_none n b s = never (cc (stored_some b s))

  -- In bytes that are the used words of no book none is found.
  pub none-stored : ((b : Book) → Stored rest b → ⊥) → stored_in rest ≡ None
  none-stored n = go (stores held) refl
    where
      -- By the test.
      go : (t : Bool) → stores held ≡ t → stored_in rest ≡ None
      go true p = absurd (n held (passes-stored held p))
      go false p = fails_none p

  -- Bytes are the used words of one book at most.
  pub stored_one : (b c : Book) → Stored rest b → Stored rest c → b ≡ c
  stored_one b c s t = sym (stored_held b s) ∙ stored_held c t

-- ---- stored words

module _ (ws : List ℕ) (b : Book) where
  -- Words whose bytes are a book's used words are as many as it uses.
  pub stored_long : Stored (bytes_of ws) b → used b ≡ length ws
  stored_long s = sym (encode-length b) ∙ ap length (bytes_one (encode b) ws s.bytes)

  -- They are the book in a slice of their length.
  pub stored_book : Stored (bytes_of ws) b → IsBook ws b
  stored_book s =
      let n = stored_long s in
      record {
        long = omega (arith, n, head_used b);
        short = omega (arith, n, s.short);
        sound = form-sound b s.form;
        laid = ap (λ (m : ℕ). lay m b) (sym n) ∙ laid-used b ∙ bytes_one (encode b) ws s.bytes;
      }

  -- The bytes of a book in a slice of the words that it uses are stored.
  pub book-stored : IsBook ws b → used b ≡ length ws → Stored (bytes_of ws) b
  book-stored i n =
      record {
        form = sound-form b i.sound;
        short = omega (arith, n, i.short);
        bytes = ap bytes_of (sym (laid-used b) ∙ ap (λ (m : ℕ). lay m b) n ∙ i.laid);
      }
