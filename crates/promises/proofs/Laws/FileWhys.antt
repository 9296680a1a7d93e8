-- Writing a book's file and reading one answer exactly by the rows of 01's table, as specs/Whys.antt states them, for any words and bytes. Assumes
-- nothing.
use Rattle.std.specs.Prelude.{Option, None, Some}
use Prim.Native.Nat.{ℕ, ◌+◌, ◌*◌, ◌≤◌, ◌<◌}
use mathlib.Core.Path.{◌≡◌, refl, sym, ap, ap₂, subst, ◌∙◌}
use mathlib.Core.Bool.{Bool, true, false}
use mathlib.Core.List.{List, [], ◌∷◌, ◌++◌}
use native.Mathlib.Decide.{dec_lt}
use native.Mathlib.Omega.{arith}
use borrow.Author.Tests.{le-leb, eqb-true, eq-eqb}
use lib.Dec.{leb, eqb}
use lib.ListN.{length, take, drop, length-drop, take-append-drop}
use Rattle.words.specs.Base.{◌and◌, when◌then◌else◌, same_words}
use Rattle.words.proofs.Tests.{no_test, and_right, and_both, fails_right, same-words, words_same}
use Rattle.figures.specs.Limits.{head_words, most_book_words}
use Rattle.figures.specs.Answers.{answered}
use Rattle.figures.specs.Numbers.{book_size, no_room, not_in_form, not_agreeing, no_mark, other_version, no_stored_book}
use Rattle.order.specs.Answers.{Writing, refuse, write}
use Rattle.book.specs.Book.{Book, used, encode}
use Rattle.book.specs.Decoding.{book_form_of, sized, Refused}
use Rattle.book.specs.Sound.{IsBook, WhyForm, shorter, longer, formless, book}
use Rattle.book.specs.Taught.{agreeing}
use Rattle.book.specs.Opening.{Outcome, leave, write_book}
use Rattle.book.proofs.Heads.{too_short, too_long, is-sized}
use Rattle.book.proofs.Sound.{form-sound, sound-form, why-is, why-only}
use Rattle.octets.specs.Octets.{bytes_of}
use Rattle.book_filing.specs.Files.{mark, mark_bytes, version, front_bytes, file_of, write_file_of, is_marked, stored_in, read_book_of, read_rest_of, read_file_of}
use Rattle.book_filing.proofs.Stored.{Stored, stored_some, stored_is, stored_none}
use Rattle.book_filing.proofs.Writing.{file_unheld, file_by}
use Rattle.book_filing.proofs.Reading.{mark-short, marked-long, read-unsized, read-unmarked, read-other, read-rest}
use Rattle.book_filing.proofs.Restoring.{restore_none, restore_some, restored_disagreeing, restored_short, restored_written}
use Rattle.promises.specs.Agreement.{Agrees}
use Rattle.promises.specs.Whys.{UsedWords, IsFile, BookSized, WhyFiled, file_no_book, file_disagrees, file_short, filed}
use Rattle.promises.specs.Whys.{WhyRestored, restore_shorter, restore_longer, few_bytes, wrong_mark, wrong_version, no_used_words, restore_disagrees, restore_no_room, restores}
use Rattle.promises.proofs.Laws.Agreement.{sound-agreeing}
use Rattle.promises.proofs.Laws.Refusals.{write-refuses, write-writes}

-- ---- writing a file

module _ (ws out : List ℕ) where
  -- Words that are no book in form are refused by 4 or 5.
  unfiled : (n : ℕ) → WhyForm ws (Refused n) → write_file_of ws out ≡ refuse n out
  unfiled n w = file_unheld ws out n (why-only ws (Refused n) w)

  module _ (b : Book) (i : IsBook ws b) where
    -- A book that does not pass the test of agreeing is refused by 9.
    not_filed : agreeing b ≡ false → write_file_of ws out ≡ refuse not_agreeing out
    unfolding when◌then◌else◌
    not_filed e = file_by ws out b i false e

    -- A book that agrees with itself is written.
    pub agrees-filed : Agrees b → write_file_of ws out ≡ write (file_of b) out
    unfolding when◌then◌else◌
    agrees-filed g = file_by ws out b i true ((sound-agreeing b i.sound).1 g)

    -- One that does not is refused by 9.
    disagrees-filed : (Agrees b → ⊥) → write_file_of ws out ≡ refuse not_agreeing out
    disagrees-filed x = go (agreeing b) refl
      where
        -- By the test.
        go : (t : Bool) → agreeing b ≡ t → write_file_of ws out ≡ refuse not_agreeing out
        go true e = absurd (x ((sound-agreeing b i.sound).0 e))
        go false e = not_filed e

  -- What writing a file gives has a row of 01's table.
  pub filed-why : WhyFiled ws out (write_file_of ws out)
  filed-why = go (why-is ws)
    where
      -- A book that agrees with itself, by whether the output has room.
      by_room : (b : Book) → IsBook ws b → Agrees b → Dec (length out < length (file_of b)) → WhyFiled ws out (write_file_of ws out)
      by_room b i g (yes h) = file_short b (agrees-filed b i g ∙ write-refuses (file_of b) out h) i g h
      by_room b i g (no h) = filed b (agrees-filed b i g ∙ write-writes (file_of b) out (omega arith)) i g (omega arith)

      -- A book, by the test of agreeing.
      by_book_lem : (b : Book) → IsBook ws b → (t : Bool) → agreeing b ≡ t → WhyFiled ws out (write_file_of ws out)
      by_book_lem b i true e = by_room b i ((sound-agreeing b i.sound).0 e) (dec_lt (length out) (length (file_of b)))
      by_book_lem b i false e = file_disagrees b (not_filed b i e) i (λ g. no_test (sym e ∙ (sound-agreeing b i.sound).1 g))

      -- A reason of the words' form.
      no_book : (n : ℕ) → WhyForm ws (Refused n) → WhyFiled ws out (write_file_of ws out)
      no_book n w = file_no_book n (unfiled n w) w

      -- By what the words are.
      go : WhyForm ws (book_form_of ws) → WhyFiled ws out (write_file_of ws out)
      go (shorter r l) = no_book book_size (shorter refl l)
      go (longer r l) = no_book book_size (longer refl l)
      go (formless r l m n) = no_book not_in_form (formless refl l m n)
      go (book b r i) = by_book_lem b i (agreeing b) refl

  -- What has a row is what writing a file gives.
  pub filed-only : (w : Writing) → WhyFiled ws out w → write_file_of ws out ≡ w
  filed-only w (file_no_book n e f) = unfiled n f ∙ sym e
  filed-only w (file_disagrees b e i x) = disagrees-filed b i x ∙ sym e
  filed-only w (file_short b e i g h) = agrees-filed b i g ∙ write-refuses (file_of b) out h ∙ sym e
  filed-only w (filed b e i g h) = agrees-filed b i g ∙ write-writes (file_of b) out h ∙ sym e

-- ---- the used words of a book

-- Bytes that are a book's used words are stored,
used-stored : (rest : List ℕ) (b : Book) → UsedWords rest b → Stored rest b
used-stored rest b u = record { form = sound-form b u.sound; short = u.short; bytes = sym u.bytes }

-- and stored bytes are a book's used words.
stored_used : (rest : List ℕ) (b : Book) → Stored rest b → UsedWords rest b
stored_used rest b s = record { sound = form-sound b s.form; short = s.short; bytes = sym s.bytes }

-- Behind the front of a book's file stand its used words.
file_used : (file : List ℕ) (b : Book) → IsFile file b → UsedWords (bytes_of (encode b)) b
file_used file b f = record { sound = f.sound; short = f.short; bytes = refl }

-- ---- the front of a file

-- The file of a book is the mark, version 1 and its used words.
file_front : (b : Book) → file_of b ≡ mark ++ (0 ∷ 1 ∷ bytes_of (encode b))
unfolding file_of bytes_of
file_front b = refl

-- Two bytes or more are two and the others.
two_first : (l : List ℕ) → 2 ≤ length l → (high : ℕ) × (low : ℕ) × (rest : List ℕ) × (l ≡ high ∷ low ∷ rest)
two_first [] h = absurd (omega arith)
two_first (a ∷ []) h = absurd (omega arith)
two_first (a ∷ b ∷ l) h = (a, b, l, refl)

module _ (file : List ℕ) where
  -- Bytes with another mark in front are not marked.
  other_unmarked : (take mark_bytes file ≡ mark → ⊥) → is_marked file ≡ false
  unfolding is_marked
  other_unmarked x = go (same_words (take mark_bytes file) mark) refl
    where
      -- By the test of the mark.
      go : (t : Bool) → same_words (take mark_bytes file) mark ≡ t → (leb front_bytes (length file) and same_words (take mark_bytes file) mark) ≡ false
      go true e = absurd (x (words_same _ _ e))
      go false e = fails_right _ _ e

  -- Five bytes or more with the mark in front are.
  mark-marked : front_bytes ≤ length file → take mark_bytes file ≡ mark → is_marked file ≡ true
  unfolding is_marked
  mark-marked l e = and_both (le-leb front_bytes (length file) l) (rw e (same-words mark))

  -- Marked bytes are the mark, two bytes of a version, and the rest.
  marked-front : is_marked file ≡ true → (high : ℕ) × (low : ℕ) × (rest : List ℕ) × (file ≡ mark ++ (high ∷ low ∷ rest))
  unfolding is_marked
  marked-front e =
      let l : front_bytes ≤ length file = marked-long file e in
      let m : take mark_bytes file ≡ mark = words_same _ _ (and_right (leb front_bytes (length file)) _ e) in
      let t = two_first (drop mark_bytes file) (rw length-drop (omega arith)) in
      (t.0, t.1, t.2, sym (take-append-drop mark_bytes file) ∙ ap₂ ◌++◌ m t.3)

module _ (high low : ℕ) (rest : List ℕ) where
  -- The mark with two bytes or more behind it is marked.
  front-marked : is_marked (mark ++ (high ∷ low ∷ rest)) ≡ true
  unfolding is_marked same_words ◌and◌
  front-marked = and_both (le-leb front_bytes (length (mark ++ (high ∷ low ∷ rest))) (omega arith)) refl

  -- With version 1 the whole is the file of a book whose used words the rest are.
  stored_file : (b : Book) → high * 256 + low ≡ version → Stored rest b → IsFile (mark ++ (high ∷ low ∷ rest)) b
  stored_file b v s =
      let h : high ≡ 0 = omega arith in
      let l : low ≡ 1 = omega arith in
      record {
        sound = form-sound b s.form;
        short = s.short;
        bytes = ap₂ (λ (x y : ℕ). mark ++ (x ∷ y ∷ rest)) h l ∙ ap (λ (r : List ℕ). mark ++ (0 ∷ 1 ∷ r)) (sym s.bytes) ∙ sym (file_front b);
      }

-- ---- reading a file

module _ (file ws : List ℕ) where
  -- A slice of no size for a book is refused by 4.
  unsized_4 : sized ws ≡ false → read_file_of file ws ≡ leave ws book_size
  unsized_4 z = read-unsized file ws (answered book_size) refl z

  -- Bytes that are not marked are refused by 12.
  unmarked_12 : sized ws ≡ true → is_marked file ≡ false → read_file_of file ws ≡ leave ws no_mark
  unmarked_12 z m = read-unmarked file ws (answered no_mark) refl z m

-- A slice of a size for a book has that size by the test.
size-test : (ws : List ℕ) → BookSized ws → sized ws ≡ true
size-test ws z = is-sized ws z.0 z.1

module _ (ws : List ℕ) (z : BookSized ws) (high low : ℕ) (rest : List ℕ) where
  -- The bytes.
  abbrev whole : List ℕ
  whole = mark ++ (high ∷ low ∷ rest)

  -- Another version is refused by 13.
  version-13 : (high * 256 + low ≡ version → ⊥) → read_file_of whole ws ≡ leave ws other_version
  version-13 x = read-other whole ws (answered other_version) refl (size-test ws z) (front-marked high low rest) (go (eqb (high * 256 + low) version) refl)
    where
      -- By the test of the version.
      go : (t : Bool) → eqb (high * 256 + low) version ≡ t → eqb (high * 256 + low) version ≡ false
      go true e = absurd (x (eqb-true (high * 256 + low) version e))
      go false e = e

  module _ (v : high * 256 + low ≡ version) where
    -- With version 1 the rest decides.
    by_rest : read_file_of whole ws ≡ read_rest_of rest ws
    by_rest = read-rest whole ws (size-test ws z) (front-marked high low rest) (eq-eqb (high * 256 + low) version v)

    -- A rest that is the used words of no book is refused by 14.
    rest-14 : ((b : Book) → Stored rest b → ⊥) → read_file_of whole ws ≡ leave ws no_stored_book
    rest-14 x = by_rest ∙ restore_none rest ws x

    -- A book is looked at further.
    rest-book : (b : Book) → Stored rest b → read_file_of whole ws ≡ read_book_of ws b
    rest-book b s = by_rest ∙ restore_some rest ws b s

-- Behind the front of a book's file the book is found.
pub file_rest : (file : List ℕ) (b : Book) → IsFile file b → stored_in (drop front_bytes file) ≡ Some b
file_rest file b f =
    ap (λ (l : List ℕ). stored_in (drop front_bytes l)) (f.bytes ∙ file_front b)
    ∙ stored_some (bytes_of (encode b)) b (used-stored _ b (file_used file b f))

module _ (file ws : List ℕ) (z : BookSized ws) (b : Book) (f : IsFile file b) where
  -- A book's file in a slice of a size for a book is looked at further.
  file_book : read_file_of file ws ≡ read_book_of ws b
  file_book =
      let e : file ≡ mark ++ (0 ∷ 1 ∷ bytes_of (encode b)) = f.bytes ∙ file_front b in
      ap (λ (l : List ℕ). read_file_of l ws) e
      ∙ rest-book ws z 0 1 (bytes_of (encode b)) refl b (used-stored _ b (file_used file b f))

  -- A book that agrees with itself passes the test.
  agrees-test : Agrees b → agreeing b ≡ true
  agrees-test = (sound-agreeing b f.sound).1

  -- The file of a book that agrees with itself is read into any slice of a size for a book that has room.
  pub file_read : Agrees b → used b ≤ length ws → read_file_of file ws ≡ write_book ws b
  file_read g h = file_book ∙ restored_written ws b (agrees-test g) h

  -- One that has no room is refused by 6.
  file_6 : Agrees b → length ws < used b → read_file_of file ws ≡ leave ws no_room
  file_6 g h = file_book ∙ restored_short ws b (agrees-test g) h

  -- The file of a book that does not agree is refused by 9.
  file_9 : (Agrees b → ⊥) → read_file_of file ws ≡ leave ws not_agreeing
  file_9 x = go (agreeing b) refl
    where
      -- By the test.
      go : (t : Bool) → agreeing b ≡ t → read_file_of file ws ≡ leave ws not_agreeing
      go true e = absurd (x ((sound-agreeing b f.sound).0 e))
      go false e = file_book ∙ restored_disagreeing ws b e

  -- By whether it agrees and has room, reading it has a row.
  file_why : WhyRestored file ws (read_file_of file ws)
  file_why = by_test (agreeing b) refl
    where
      -- A book that agrees with itself, by whether the slice has room.
      by_room : Agrees b → Dec (length ws < used b) → WhyRestored file ws (read_file_of file ws)
      by_room g (yes h) = restore_no_room b (file_6 g h) z f g h
      by_room g (no h) = restores b (file_read g (omega arith)) z f g (omega arith)

      -- By the test of agreeing.
      by_test : (t : Bool) → agreeing b ≡ t → WhyRestored file ws (read_file_of file ws)
      by_test true e = by_room ((sound-agreeing b f.sound).0 e) (dec_lt (length ws) (used b))
      by_test false e = restore_disagrees b (file_book ∙ restored_disagreeing ws b e) z f (λ g. no_test (sym e ∙ agrees-test g))

module _ (file ws : List ℕ) where
  -- What reading a file gives has a row of 01's table.
  pub restored_why : WhyRestored file ws (read_file_of file ws)
  restored_why = by_size (dec_lt (length ws) head_words) (dec_lt most_book_words (length ws))
    where
      -- With version 1, by the book that the rest is, if it is one.
      by_stored : BookSized ws → (high low : ℕ) (rest : List ℕ) → file ≡ mark ++ (high ∷ low ∷ rest) → high * 256 + low ≡ version → (o : Option Book) → stored_in rest ≡ o → WhyRestored file ws (read_file_of file ws)
      by_stored z high low rest e v None n =
          no_used_words high low rest (ap (λ (l : List ℕ). read_file_of l ws) e ∙ rest-14 ws z high low rest v (stored_none rest n)) z e v
          (λ b u. stored_none rest n b (used-stored rest b u))
      by_stored z high low rest e v (Some b) n = file_why file ws z b (subst (λ (l : List ℕ). IsFile l b) (sym e) (stored_file high low rest b v (stored_is rest b n)))

      -- Marked bytes, by the version.
      by_version : BookSized ws → (high low : ℕ) (rest : List ℕ) → file ≡ mark ++ (high ∷ low ∷ rest) → (t : Bool) → eqb (high * 256 + low) version ≡ t → WhyRestored file ws (read_file_of file ws)
      by_version z high low rest e true v = by_stored z high low rest e (eqb-true (high * 256 + low) version v) (stored_in rest) refl
      by_version z high low rest e false v =
          let x : high * 256 + low ≡ version → ⊥ = λ q. no_test (sym v ∙ eq-eqb (high * 256 + low) version q) in
          wrong_version high low rest (ap (λ (l : List ℕ). read_file_of l ws) e ∙ version-13 ws z high low rest x) z e x

      -- Five bytes or more, by the mark.
      by_mark : BookSized ws → front_bytes ≤ length file → (t : Bool) → is_marked file ≡ t → WhyRestored file ws (read_file_of file ws)
      by_mark z l true m = let f = marked-front file m in by_version z f.0 f.1 f.2 f.3 (eqb (f.0 * 256 + f.1) version) refl
      by_mark z l false m = wrong_mark (unmarked_12 file ws (size-test ws z) m) z l (λ e. no_test (sym m ∙ mark-marked file l e))

      -- By how many bytes there are.
      by_bytes : BookSized ws → Dec (length file < front_bytes) → WhyRestored file ws (read_file_of file ws)
      by_bytes z (yes h) = few_bytes (unmarked_12 file ws (size-test ws z) (mark-short file h)) z h
      by_bytes z (no h) = by_mark z (omega arith) (is_marked file) refl

      -- By the size of the slice.
      by_size : Dec (length ws < head_words) → Dec (most_book_words < length ws) → WhyRestored file ws (read_file_of file ws)
      by_size (yes h) d = restore_shorter (unsized_4 file ws (too_short ws h)) h
      by_size (no h) (yes g) = restore_longer (unsized_4 file ws (too_long ws g)) g
      by_size (no h) (no g) = by_bytes (omega arith, omega arith) (dec_lt (length file) front_bytes)

  -- What has a row is what reading a file gives.
  pub restored_only : (o : Outcome) → WhyRestored file ws o → read_file_of file ws ≡ o
  restored_only o (restore_shorter e h) = unsized_4 file ws (too_short ws h) ∙ sym e
  restored_only o (restore_longer e h) = unsized_4 file ws (too_long ws h) ∙ sym e
  restored_only o (few_bytes e z h) = unmarked_12 file ws (size-test ws z) (mark-short file h) ∙ sym e
  restored_only o (wrong_mark e z l x) = unmarked_12 file ws (size-test ws z) (other_unmarked file x) ∙ sym e
  restored_only o (wrong_version high low rest e z f x) = ap (λ (l : List ℕ). read_file_of l ws) f ∙ version-13 ws z high low rest x ∙ sym e
  restored_only o (no_used_words high low rest e z f v x) =
      ap (λ (l : List ℕ). read_file_of l ws) f
      ∙ rest-14 ws z high low rest v (λ b s. x b (stored_used rest b s))
      ∙ sym e
  restored_only o (restore_disagrees b e z f x) = file_9 file ws z b f x ∙ sym e
  restored_only o (restore_no_room b e z f g h) = file_6 file ws z b f g h ∙ sym e
  restored_only o (restores b e z f g h) = file_read file ws z b f g h ∙ sym e
