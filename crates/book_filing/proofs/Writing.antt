-- What `write` writes: the bytes of words, the front of a file, and what writing the file of checked words answers. Assumes nothing.
use Prim.Native.Nat.{ℕ, ◌+◌, ◌-◌, ◌*◌, ◌/◌, ◌%◌, ◌<◌, ◌≤◌}
use mathlib.Core.Path.{◌≡◌, refl, sym, ap, ◌∙◌}
use mathlib.Core.Bool.{Bool, true, false, not}
use mathlib.Core.List.{List, [], ◌∷◌, ◌++◌}
use native.Mathlib.Omega.{arith}
use lib.ListN.{length, get_or, set, take, drop, replicate, drop_of_length-le}
use lib.Seq.{sets-eq, take_at, drop_at, drop-drop}
use borrow.Rule.Slice.PartMut.{put_mid}
use Rattle.words.specs.Base.{when◌then◌else◌, over}
use Rattle.words.proofs.Tests.{either_way}
use Rattle.figures.specs.Numbers.{done, book_size, not_in_form, not_agreeing}
use Rattle.figures.specs.Answers.{answered, wrote}
use Rattle.figures.specs.declared.Answer.{Answer}
use Rattle.figures.specs.declared.Written.{Written}
use Rattle.figures.specs.Limits.{most_book_words}
use Rattle.octets.specs.Octets.{bytes_of}
use Rattle.octets.proofs.Bytes.{bytes-long}
use Rattle.order.specs.Answers.{writing, refuse, write, Writing}
use Rattle.order.proofs.Writing.{write-line, write-count}
use Rattle.book.specs.Book.{Book, used, encode, lay}
use Rattle.book.specs.Decoding.{book_form_of, Refused}
use Rattle.book.specs.Sound.{IsBook, WhyForm, shorter, longer, formless, book}
use Rattle.book.specs.Taught.{agreeing}
use Rattle.book.proofs.Meaning.{used-fits}
use Rattle.book.proofs.Holding.{refused-book}
use Rattle.book.proofs.Sound.{on-any, why-is, head_says, encode-length, by_book_lem}
use Rattle.book.specs.Checking.{agree_of}
use Rattle.book.proofs.Checking.{check_unheld, check_held}
use Rattle.book_filing.specs.Files.{mark, mark_bytes, version, front_bytes, file_of, write_file_of}

-- ---- the front of a file

-- Behind the mark the stores of the version's word make five bytes the front of a file.
pub front-stores : (l : List ℕ) → length l ≡ front_bytes → set (set (mark ++ drop mark_bytes l) 3 (version / 256)) (3 + 1) (version % 256) ≡ mark ++ bytes_of (version ∷ [])
unfolding bytes_of
front-stores [] h = absurd (omega (arith, h))
front-stores (a ∷ []) h = absurd (omega (arith, h))
front-stores (a ∷ b ∷ []) h = absurd (omega (arith, h))
front-stores (a ∷ b ∷ c ∷ []) h = absurd (omega (arith, h))
front-stores (a ∷ b ∷ c ∷ d ∷ []) h = absurd (omega (arith, h))
front-stores (a ∷ b ∷ c ∷ d ∷ e ∷ []) h = refl
front-stores (a ∷ b ∷ c ∷ d ∷ e ∷ f ∷ l) h = absurd (omega (arith, h))

-- A file has the bytes of its front and two for each used word.
pub file_long : (b : Book) → length (file_of b) ≡ front_bytes + 2 * used b
unfolding file_of bytes_of
file_long b = omega (arith, bytes-long (encode b), encode-length b)

-- ---- the file of checked words

-- The words are those of a book that agrees with itself.
pub record Agreed (ws : List ℕ) : Type 0 where
  pub held : Book
  pub is_book : IsBook ws held
  pub agrees : agreeing held ≡ true

module _ (ws : List ℕ) where
  -- A book's words are checked by whether it passes the test of agreeing.
  check_by : (b : Book) → IsBook ws b → (x : Bool) → agreeing b ≡ x → agree_of ws ≡ answered (when x then done else not_agreeing)
  check_by b i x e = check_held ws b i ∙ ap (λ (y : Bool). answered (when y then done else not_agreeing)) e

  -- Words that are checked with 0 are those of a book that agrees with itself.
  pub checked_agreed : (agree_of ws).number ≡ done → Agreed ws
  unfolding when◌then◌else◌
  checked_agreed e = go (why-is ws)
    where
      -- A check with another number is none with 0.
      other : (n : ℕ) → agree_of ws ≡ answered n → 0 < n → Agreed ws
      other n q h = absurd (omega (arith, ap (λ (a : Answer). a.number) q))

      -- By whether the book passes the test of agreeing.
      by_test : (b : Book) → IsBook ws b → (x : Bool) → agreeing b ≡ x → Agreed ws
      by_test b i true a = record { held = b; is_book = i; agrees = a }
      by_test b i false a = other not_agreeing (check_by b i false a) (omega arith)

      -- By what the words are.
      go : WhyForm ws (book_form_of ws) → Agreed ws
      go (shorter r l) = other book_size (check_unheld ws book_size r) (omega arith)
      go (longer r l) = other book_size (check_unheld ws book_size r) (omega arith)
      go (formless r l m n) = other not_in_form (check_unheld ws not_in_form r) (omega arith)
      go (book b r i) = by_test b i (agreeing b) refl

  module _ (out : List ℕ) where
    -- Where the words are no book in form nothing is written.
    pub file_unheld : (n : ℕ) → book_form_of ws ≡ Refused n → write_file_of ws out ≡ refuse n out
    unfolding write_file_of
    file_unheld n e = refused-book ws n e (λ m. refuse m out) (λ b. when not (agreeing b) then refuse not_agreeing out else write (file_of b) out)

    -- A book's file is written by whether it passes the test of agreeing.
    pub file_by : (b : Book) → IsBook ws b → (x : Bool) → agreeing b ≡ x → write_file_of ws out ≡ (when not x then refuse not_agreeing out else write (file_of b) out)
    unfolding write_file_of
    file_by b i x e =
        on-any ws b i (λ m. refuse m out) (λ c. when not (agreeing c) then refuse not_agreeing out else write (file_of c) out)
        ∙ ap (λ (y : Bool). when not y then refuse not_agreeing out else write (file_of b) out) e

    -- The file of a book that agrees with itself is written.
    pub agreed_file : (g : Agreed ws) → write_file_of ws out ≡ write (file_of g.held) out
    unfolding when◌then◌else◌
    agreed_file g = file_by g.held g.is_book true g.agrees

    -- A check with another number than 0 refuses by it, and nothing is written.
    pub refused-file : (n : ℕ) (r : Written) → n ≡ (agree_of ws).number → (n ≡ done → ⊥) → r ≡ wrote n 0 → writing r out ≡ write_file_of ws out
    unfolding when◌then◌else◌
    refused-file n r e h a = ap (λ (w : Written). writing w out) a ∙ go (why-is ws)
      where
        -- The check's number is the one that refuses.
        by_number : (m : ℕ) → agree_of ws ≡ answered m → write_file_of ws out ≡ refuse m out → refuse n out ≡ write_file_of ws out
        by_number m q w = ap (λ (x : ℕ). refuse x out) (e ∙ ap (λ (x : Answer). x.number) q) ∙ sym w

        -- By whether the book passes the test of agreeing.
        by_test : (b : Book) → IsBook ws b → (x : Bool) → agreeing b ≡ x → refuse n out ≡ write_file_of ws out
        by_test b i true p = absurd (h (e ∙ ap (λ (x : Answer). x.number) (check_by b i true p)))
        by_test b i false p = by_number not_agreeing (check_by b i false p) (file_by b i false p)

        -- By what the words are.
        go : WhyForm ws (book_form_of ws) → refuse n out ≡ write_file_of ws out
        go (shorter r l) = by_number book_size (check_unheld ws book_size r) (file_unheld book_size r)
        go (longer r l) = by_number book_size (check_unheld ws book_size r) (file_unheld book_size r)
        go (formless r l m n) = by_number not_in_form (check_unheld ws not_in_form r) (file_unheld not_in_form r)
        go (book b r i) = by_test b i (agreeing b) refl

-- ---- the bytes of a book's words

-- What a book's words say of its file: word 1 lies among them, it tells how many the used words are, and they are there.
pub record Telling (ws : List ℕ) (b : Book) : Type 0 where
  pub long : 1 < length ws
  pub fits : get_or ws 1 0 ≤ length ws
  pub size : length (file_of b) ≡ front_bytes + 2 * get_or ws 1 0
  pub words : take (get_or ws 1 0) ws ≡ encode b

-- The words of a book say so.
pub telling : (ws : List ℕ) (b : Book) → IsBook ws b → Telling ws b
unfolding lay
telling ws b i =
    let u : get_or ws 1 0 ≡ used b = (head_says ws b i).1 in
    record {
      long = omega (arith, i.long);
      fits = omega (arith, u, used-fits ws b i.laid);
      size = omega (arith, u, file_long b);
      words = ap (take (get_or ws 1 0)) (sym i.laid) ∙ take_at (encode b) (replicate (length ws - used b) 0) (get_or ws 1 0) (encode-length b ∙ sym u);
    }

-- The front and then the bytes of the used words, each put in its part of out, are the file over out.
pub file_over : (ws out front last : List ℕ) (b : Book) → Telling ws b → front ≡ mark ++ bytes_of (version ∷ []) → last ≡ bytes_of (take (get_or ws 1 0 - 0) ws)
    → put_mid front_bytes (front_bytes + 2 * get_or ws 1 0 - front_bytes) (front ++ drop front_bytes out) last ≡ over (file_of b) out
unfolding file_of bytes_of
file_over ws out front last b t e f =
    let n : ℕ = get_or ws 1 0 in
    let five : length front ≡ front_bytes = ap length e in
    let start : take front_bytes (front ++ drop front_bytes out) ≡ front = take_at front (drop front_bytes out) front_bytes five in
    let rest : drop front_bytes (front ++ drop front_bytes out) ≡ drop front_bytes out = drop_at front (drop front_bytes out) front_bytes five in
    let whole : n - 0 ≡ n = omega arith in
    let bytes : last ≡ bytes_of (encode b) = f ∙ ap bytes_of (ap (λ (m : ℕ). take m ws) whole ∙ t.words) in
    let end : front_bytes + (front_bytes + 2 * n - front_bytes) ≡ length (file_of b) = omega (arith, t.size) in
    rw (start, rest, drop-drop, end, bytes, e) refl

-- ---- the figures of what is answered

module _ (ws out : List ℕ) where
  -- Writing a file: line 0.
  pub filed-line : (write_file_of ws out).answer.line ≡ 0
  unfolding write_file_of
  filed-line =
      let P : Writing → Type 0 = λ w. w.answer.line ≡ 0 in
      by_book_lem P ws (λ n. refuse n out) _ (λ n. refl) (λ b i. either_way P (not (agreeing b)) _ _ refl (write-line (file_of b) out))

  -- Writing a file: at most the bytes of its front and two for each word of the longest slice.
  pub filed-count : (write_file_of ws out).answer.count ≤ front_bytes + 2 * most_book_words
  unfolding write_file_of
  filed-count =
      let P : Writing → Type 0 = λ w. w.answer.count ≤ front_bytes + 2 * most_book_words in
      by_book_lem P ws (λ n. refuse n out) _ (λ n. omega arith)
      (λ b i. either_way P (not (agreeing b)) _ _ (omega arith) (omega (arith, write-count (file_of b) out, file_long b, used-fits ws b i.laid, i.short)))
