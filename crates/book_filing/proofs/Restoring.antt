-- What reading stored words into a slice answers, by what the words are and by what the slice has room for. Assumes nothing.
use Rattle.std.specs.Prelude.{Option, None, Some}
use Prim.Native.Nat.{ℕ, ◌*◌, ◌-◌, ◌≤◌, ◌<◌}
use mathlib.Core.Path.{◌≡◌, refl, sym, ap, ap₂, ◌∙◌}
use mathlib.Core.Bool.{Bool, true, false, not}
use mathlib.Core.List.{List, ◌++◌}
use native.Mathlib.Omega.{arith}
use borrow.Author.Tests.{le-leb, lt-leb, eqb-true, eq-eqb}
use lib.Dec.{eqb}
use lib.ListN.{length, replicate, drop}
use Rattle.words.specs.Base.{when◌then◌else◌}
use Rattle.words.proofs.Tests.{no_test, either_way, never}
use Rattle.figures.specs.Limits.{most_book_words}
use Rattle.figures.specs.Numbers.{done, no_room, not_agreeing, no_stored_book}
use Rattle.figures.specs.Answers.{answered}
use Rattle.book.specs.Book.{Book, used, encode, lay}
use Rattle.book.specs.Decoding.{book_in, by_book, places_of, book_form_of, sized, Refused, InForm}
use Rattle.book.specs.Opening.{outcome, leave, write_book, Outcome}
use Rattle.book.specs.Sound.{book}
use Rattle.book.specs.Taught.{agreeing}
use Rattle.book.specs.declared.Places.{Places}
use Rattle.book.proofs.Holding.{holds}
use Rattle.book.proofs.Sound.{encode-length, held_book, why-only}
use Rattle.book.proofs.Openings.{no_line}
use Rattle.octets.specs.Octets.{bytes_of}
use Rattle.book_filing.specs.Files.{read_book_of, read_rest_of, stored_number, front_bytes, stored_in, is_marked, read_file_of}
use Rattle.octets.proofs.Bytes.{bytes-long, bytes_one}
use Rattle.book_filing.proofs.Stored.{Stored, stored_some, none-stored, stored_long, stored_book, book-stored}

-- ---- by the book that is found

module _ (rest v : List ℕ) where
  -- Bytes that are the used words of no book are refused by 14.
  pub restore_none : ((b : Book) → Stored rest b → ⊥) → read_rest_of rest v ≡ leave v no_stored_book
  unfolding read_rest_of by_book
  restore_none n = rw (none-stored rest n)

  -- A stored book is read, or refused by 9 or 6.
  pub restore_some : (b : Book) → Stored rest b → read_rest_of rest v ≡ read_book_of v b
  unfolding read_rest_of by_book
  restore_some b s = rw (stored_some rest b s)

-- Bytes that are not twice as many as the words of a book are refused by 14.
pub no_stored : (rest v : List ℕ) → ((n : ℕ) → n ≤ most_book_words → length rest ≡ 2 * n → ⊥) → read_rest_of rest v ≡ leave v no_stored_book
no_stored rest v other = restore_none rest v (λ b s. other (used b) s.short (omega (arith, ap length s.bytes, bytes-long (encode b), encode-length b)))

module _ (v : List ℕ) (b : Book) where
  -- A book that does not agree with itself is refused by 9.
  pub restored_disagreeing : agreeing b ≡ false → read_book_of v b ≡ leave v not_agreeing
  unfolding read_book_of when◌then◌else◌
  restored_disagreeing e = rw e

  -- A book that has no room in the slice is refused by 6.
  pub restored_short : agreeing b ≡ true → length v < used b → read_book_of v b ≡ leave v no_room
  unfolding read_book_of when◌then◌else◌
  restored_short e h = rw (e, lt-leb (used b) (length v) h)

  -- A book that agrees with itself and has room is written.
  pub restored_written : agreeing b ≡ true → used b ≤ length v → read_book_of v b ≡ write_book v b
  unfolding read_book_of when◌then◌else◌
  restored_written e h = rw (e, le-leb (used b) (length v) h)

-- ---- by the form of the words

-- The used words among a book's places are those that it uses.
places-used : (b : Book) → (places_of b).used ≡ used b
unfolding places_of
places-used b = refl

module _ (ws : List ℕ) where
  -- Words whose bytes are stored have the form of their book.
  stored_form : (b : Book) → Stored (bytes_of ws) b → book_form_of ws ≡ InForm (places_of b)
  stored_form b s = why-only ws (InForm (places_of b)) (book b refl (stored_book ws b s))

  -- The words of a book in form that uses them all are stored.
  form-stored : (p : Places) → book_form_of ws ≡ InForm p → p.used ≡ length ws → Stored (bytes_of ws) (book_in ws)
  form-stored p e u =
      let h = holds ws p e in
      book-stored ws (book_in ws) (held_book ws p h) (sym (places-used (book_in ws)) ∙ sym (ap (λ (r : Places). r.used) h.places) ∙ u)

  -- In a slice they are laid as they stand, and then zeros.
  stored_laid : (b : Book) → Stored (bytes_of ws) b → (n : ℕ) → lay n b ≡ ws ++ replicate (n - length ws) 0
  unfolding lay
  stored_laid b s n = ap₂ (λ (xs : List ℕ) (m : ℕ). xs ++ replicate (n - m) 0) (bytes_one (encode b) ws s.bytes) (stored_long ws b s)

  module _ (v : List ℕ) where
    -- Words that are no book in form are refused by 14.
    pub restore_refused : (n : ℕ) → book_form_of ws ≡ Refused n → read_rest_of (bytes_of ws) v ≡ leave v no_stored_book
    restore_refused n e = restore_none (bytes_of ws) v (λ b s. never (cc (e, stored_form b s)))

    -- Words of a book in form that does not use them all are refused by 14.
    restore_unused : (p : Places) → book_form_of ws ≡ InForm p → (p.used ≡ length ws → ⊥) → read_rest_of (bytes_of ws) v ≡ leave v no_stored_book
    restore_unused p e n =
        restore_none (bytes_of ws) v (λ b s. let f : p ≡ places_of b = cc (e, stored_form b s) in n (ap (λ (r : Places). r.used) f ∙ places-used b ∙ stored_long ws b s))

    module _ (p : Places) (e : book_form_of ws ≡ InForm p) where
      -- A number other than done refuses, and nothing is read.
      pub restore_numbered : (stored_number ws p.used ≡ done → ⊥) → read_rest_of (bytes_of ws) v ≡ leave v (stored_number ws p.used)
      unfolding stored_number when◌then◌else◌
      restore_numbered = go (eqb p.used (length ws)) (agreeing (book_in ws)) refl refl
        where
          -- By whether all the words are used, and whether their book agrees with itself.
          go : (t a : Bool) → eqb p.used (length ws) ≡ t → agreeing (book_in ws) ≡ a → ((when not t then no_stored_book else when a then done else not_agreeing) ≡ done → ⊥)
              → read_rest_of (bytes_of ws) v ≡ leave v (when not t then no_stored_book else when a then done else not_agreeing)
          go true true q r n = absurd (n refl)
          go true false q r n = restore_some (bytes_of ws) v (book_in ws) (form-stored p e (eqb-true p.used (length ws) q)) ∙ restored_disagreeing v (book_in ws) r
          go false a q r n = restore_unused p e (λ u. no_test (sym q ∙ eq-eqb p.used (length ws) u))

      module _ (d : stored_number ws p.used ≡ done) where
        -- Words that are answered by done are all used, by a book that agrees with itself.
        done-means : (p.used ≡ length ws) × (agreeing (book_in ws) ≡ true)
        unfolding stored_number when◌then◌else◌
        done-means = go (eqb p.used (length ws)) (agreeing (book_in ws)) refl refl d
          where
            -- By whether all the words are used, and whether their book agrees with itself.
            go : (t a : Bool) → eqb p.used (length ws) ≡ t → agreeing (book_in ws) ≡ a → (when not t then no_stored_book else when a then done else not_agreeing) ≡ done
                → (p.used ≡ length ws) × (agreeing (book_in ws) ≡ true)
            go true true q r c = (eqb-true p.used (length ws) q, r)
            go true false q r c = absurd (omega arith)
            go false a q r c = absurd (omega arith)

        -- The bytes of such words are stored.
        done-stored : Stored (bytes_of ws) (book_in ws)
        done-stored = form-stored p e done-means.0

        -- A slice shorter than the words is refused by 6.
        pub restore_short : length v < length ws → read_rest_of (bytes_of ws) v ≡ leave v no_room
        restore_short h =
            restore_some (bytes_of ws) v (book_in ws) done-stored
            ∙ restored_short v (book_in ws) done-means.1 (omega (arith, h, stored_long ws (book_in ws) done-stored))

        -- A slice with room for the words is written: they, and then zeros.
        pub restore_written : length ws ≤ length v → read_rest_of (bytes_of ws) v ≡ outcome (answered done) (ws ++ replicate (length v - length ws) 0)
        restore_written h =
            restore_some (bytes_of ws) v (book_in ws) done-stored
            ∙ restored_written v (book_in ws) done-means.1 (omega (arith, h, stored_long ws (book_in ws) done-stored))
            ∙ ap (outcome (answered done)) (stored_laid (book_in ws) done-stored (length v))

-- ---- the line that is answered

-- Reading the book that was found in a file: line 0.
book-line : (ws : List ℕ) (o : Option Book) (a : Outcome) → no_line a → no_line (by_book o a (read_book_of ws))
unfolding by_book read_book_of
book-line ws None a z = z
book-line ws (Some b) a z = either_way no_line (not (agreeing b)) _ _ refl (either_way no_line _ _ _ refl refl)

-- Reading a file: line 0.
pub restored_line : (file ws : List ℕ) → (read_file_of file ws).answer.line ≡ 0
unfolding read_file_of read_rest_of
restored_line file ws =
    either_way no_line (not (sized ws)) _ _ refl
    (either_way no_line (not (is_marked file)) _ _ refl (either_way no_line _ _ _ refl (book-line ws (stored_in (drop front_bytes file)) _ refl)))
