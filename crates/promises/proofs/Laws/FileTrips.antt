-- A book that agrees with itself goes to its file and back into a slice of its own length in every word, and what reads without refusal is written back
-- to the same bytes; how many bytes are written, that reading does not hang on what stood in the slice, and that a refusal leaves what was lent as it came. Assumes nothing.
use Prim.Native.Nat.{ℕ, ◌+◌, ◌*◌}
use mathlib.Core.Path.{◌≡◌, refl, sym, ap, ◌∙◌}
use mathlib.Core.List.{List}
use native.Mathlib.Omega.{arith}
use lib.ListN.{length, get_or, take}
use lib.Seq.{take-append_seam}
use Rattle.figures.specs.Limits.{used_word}
use Rattle.figures.specs.Numbers.{done}
use Rattle.figures.specs.Answers.{answered}
use Rattle.order.specs.Answers.{Writing, refuse, write}
use Rattle.book.specs.Book.{Book, lay}
use Rattle.book.specs.Sound.{IsBook}
use Rattle.book.specs.Opening.{Outcome, outcome, leave}
use Rattle.book.proofs.Meaning.{lay-long, used-fits}
use Rattle.book.proofs.Sound.{head_says, refused-4_5}
use Rattle.book.proofs.Openings.{number_is, words_are}
use Rattle.book_filing.specs.Files.{front_bytes, file_of, write_file_of, read_file_of}
use Rattle.book_filing.proofs.Writing.{file_long}
use Rattle.promises.specs.Agreement.{Agrees}
use Rattle.promises.specs.Whys.{IsFile, WhyFiled, file_no_book, file_disagrees, file_short, filed}
use Rattle.promises.specs.Whys.{BookSized, WhyRestored, restore_shorter, restore_longer, few_bytes, wrong_mark, wrong_version, no_used_words, restore_disagrees, restore_no_room, restores}
use Rattle.promises.proofs.Laws.Refusals.{writing-number}
use Rattle.promises.proofs.Laws.FileWhys.{agrees-filed, filed-why, file_read, restored_why, restored_only}

-- ---- a book that agrees with itself

-- The file of a book in form is a file of it.
pub own_file : (ws : List ℕ) (b : Book) → IsBook ws b → IsFile (file_of b) b
own_file ws b i = record { sound = i.sound; short = omega (arith, used-fits ws b i.laid, i.short); bytes = refl }

module _ (ws : List ℕ) (b : Book) (i : IsBook ws b) (g : Agrees b) where
  -- Its file is read back into a slice of its own length to the same words.
  pub file_back : (slice : List ℕ) → length slice ≡ length ws → read_file_of (file_of b) slice ≡ outcome (answered done) ws
  file_back slice e =
      let z : BookSized slice = (omega (arith, i.long), omega (arith, i.short)) in
      file_read (file_of b) slice z b (own_file ws b i) g (omega (arith, used-fits ws b i.laid))
      ∙ ap (outcome (answered done)) (ap (λ (n : ℕ). lay n b) e ∙ i.laid)

-- ---- any words

-- The bytes that were written without refusal are read back into a slice of the book's length to the same words.
pub filed-back : (ws out : List ℕ) → (write_file_of ws out).answer.number ≡ done → (slice : List ℕ) → length slice ≡ length ws
    → read_file_of (take (write_file_of ws out).answer.count (write_file_of ws out).out) slice ≡ outcome (answered done) ws
filed-back ws out d slice same = go (filed-why ws out)
  where
    -- What was written.
    sent : Writing → List ℕ
    sent w = take w.answer.count w.out

    -- By the row of writing.
    go : WhyFiled ws out (write_file_of ws out) → read_file_of (sent (write_file_of ws out)) slice ≡ outcome (answered done) ws
    go (file_no_book n e w) = absurd (omega (arith, writing-number e, (refused-4_5 ws n w).0))
    go (file_disagrees b e i x) = absurd (omega (arith, d, writing-number e))
    go (file_short b e i g h) = absurd (omega (arith, d, writing-number e))
    go (filed b e i g h) =
        ap (λ (w : Writing). read_file_of (sent w) slice) e
        ∙ ap (λ (l : List ℕ). read_file_of l slice) (take-append_seam (file_of b) _)
        ∙ file_back ws b i g slice same

-- A file that was written has five bytes and two for each word that the book's word 1 says is used.
pub filed-bytes : (ws out : List ℕ) → (write_file_of ws out).answer.number ≡ done → (write_file_of ws out).answer.count ≡ front_bytes + 2 * get_or ws used_word 0
filed-bytes ws out d = go (filed-why ws out)
  where
    -- By the row of writing.
    go : WhyFiled ws out (write_file_of ws out) → (write_file_of ws out).answer.count ≡ front_bytes + 2 * get_or ws used_word 0
    go (file_no_book n e w) = absurd (omega (arith, writing-number e, (refused-4_5 ws n w).0))
    go (file_disagrees b e i x) = absurd (omega (arith, d, writing-number e))
    go (file_short b e i g h) = absurd (omega (arith, d, writing-number e))
    go (filed b e i g h) = omega (arith, ap (λ (w : Writing). w.answer.count) e, file_long b, (head_says ws b i).1)

-- The words that a file was read to without refusal are written back to the same bytes, or answered by 11 where the output is too short.
pub read-back_filed : (file slice : List ℕ) → (read_file_of file slice).answer.number ≡ done → (out : List ℕ) → write_file_of (read_file_of file slice).words out ≡ write file out
read-back_filed file slice d out = go (restored_why file slice)
  where
    -- By the row of reading.
    go : WhyRestored file slice (read_file_of file slice) → write_file_of (read_file_of file slice).words out ≡ write file out
    go (restore_shorter e h) = absurd (omega (arith, d, number_is e))
    go (restore_longer e h) = absurd (omega (arith, d, number_is e))
    go (few_bytes e z h) = absurd (omega (arith, d, number_is e))
    go (wrong_mark e z l x) = absurd (omega (arith, d, number_is e))
    go (wrong_version high low rest e z f x) = absurd (omega (arith, d, number_is e))
    go (no_used_words high low rest e z f v x) = absurd (omega (arith, d, number_is e))
    go (restore_disagrees b e z f x) = absurd (omega (arith, d, number_is e))
    go (restore_no_room b e z f g h) = absurd (omega (arith, d, number_is e))
    go (restores b e z f g h) =
        let n : length (lay (length slice) b) ≡ length slice = lay-long (length slice) b h in
        let i : IsBook (lay (length slice) b) b = record {
          long = omega (arith, z.0);
          short = omega (arith, z.1);
          sound = f.sound;
          laid = ap (λ (m : ℕ). lay m b) n;
        } in
        ap (λ (o : Outcome). write_file_of o.words out) e ∙ agrees-filed (lay (length slice) b) out b i g ∙ ap (λ (l : List ℕ). write l out) (sym f.bytes)

-- ---- whatever stood in the slice

module _ (file v w : List ℕ) (same : length v ≡ length w) where
  -- What reading into the one slice and into the other have in common: the answer, and the words where it is done.
  abbrev Alike : Type 0
  Alike = ((read_file_of file v).answer ≡ (read_file_of file w).answer) × ((read_file_of file v).answer.number ≡ done → (read_file_of file v).words ≡ (read_file_of file w).words)

  -- Two refusals by one number.
  both_refused : (n : ℕ) → (n ≡ done → ⊥) → read_file_of file v ≡ leave v n → read_file_of file w ≡ leave w n → Alike
  both_refused n x e f = (ap (λ (o : Outcome). o.answer) e ∙ sym (ap (λ (o : Outcome). o.answer) f), λ d. absurd (x (sym (number_is e) ∙ d)))

  -- The other slice has the size of a book if the one has.
  other_sized : BookSized v → BookSized w
  other_sized z = (omega (arith, z.0), omega (arith, z.1))

  -- Reading hangs on how many words a slice has, and not on what they were.
  pub read_alike : Alike
  read_alike = go (restored_why file v)
    where
      -- What a row says of the other slice.
      there : (o : Outcome) → WhyRestored file w o → read_file_of file w ≡ o
      there o r = restored_only file w o r

      -- By the row of reading into the one.
      go : WhyRestored file v (read_file_of file v) → Alike
      go (restore_shorter e h) = both_refused _ (λ d. omega arith) e (there _ (restore_shorter refl (omega arith)))
      go (restore_longer e h) = both_refused _ (λ d. omega arith) e (there _ (restore_longer refl (omega arith)))
      go (few_bytes e z h) = both_refused _ (λ d. omega arith) e (there _ (few_bytes refl (other_sized z) h))
      go (wrong_mark e z l x) = both_refused _ (λ d. omega arith) e (there _ (wrong_mark refl (other_sized z) l x))
      go (wrong_version high low rest e z f x) = both_refused _ (λ d. omega arith) e (there _ (wrong_version high low rest refl (other_sized z) f x))
      go (no_used_words high low rest e z f r x) = both_refused _ (λ d. omega arith) e (there _ (no_used_words high low rest refl (other_sized z) f r x))
      go (restore_disagrees b e z f x) = both_refused _ (λ d. omega arith) e (there _ (restore_disagrees b refl (other_sized z) f x))
      go (restore_no_room b e z f g h) = both_refused _ (λ d. omega arith) e (there _ (restore_no_room b refl (other_sized z) f g (omega arith)))
      go (restores b e z f g h) =
          let i = there _ (restores b refl (other_sized z) f g (omega arith)) in (
            ap (λ (o : Outcome). o.answer) e ∙ sym (ap (λ (o : Outcome). o.answer) i),
            λ d. words_are e ∙ ap (λ (n : ℕ). lay n b) same ∙ sym (ap (λ (o : Outcome). o.words) i),
          )

-- ---- refusals

-- Writing a file leaves the output where it refuses, and counts 0.
pub file_refusal_leaves : (ws out : List ℕ) → ((write_file_of ws out).answer.number ≡ done → ⊥) → ((write_file_of ws out).out ≡ out) × ((write_file_of ws out).answer.count ≡ 0)
file_refusal_leaves ws out x = go (filed-why ws out)
  where
    -- A refusal that is known.
    left : (n : ℕ) → write_file_of ws out ≡ refuse n out → ((write_file_of ws out).out ≡ out) × ((write_file_of ws out).answer.count ≡ 0)
    left n e = (ap (λ (w : Writing). w.out) e, ap (λ (w : Writing). w.answer.count) e)

    -- By the row of writing.
    go : WhyFiled ws out (write_file_of ws out) → ((write_file_of ws out).out ≡ out) × ((write_file_of ws out).answer.count ≡ 0)
    go (file_no_book n e w) = left n e
    go (file_disagrees b e i y) = left _ e
    go (file_short b e i g h) = left _ e
    go (filed b e i g h) = absurd (x (writing-number e))

-- Reading a file leaves the slice where it refuses.
pub restore_refusal_leaves : (file ws : List ℕ) → ((read_file_of file ws).answer.number ≡ done → ⊥) → (read_file_of file ws).words ≡ ws
restore_refusal_leaves file ws x = go (restored_why file ws)
  where
    -- By the row of reading.
    go : WhyRestored file ws (read_file_of file ws) → (read_file_of file ws).words ≡ ws
    go (restore_shorter e h) = words_are e
    go (restore_longer e h) = words_are e
    go (few_bytes e z h) = words_are e
    go (wrong_mark e z l y) = words_are e
    go (wrong_version high low rest e z f y) = words_are e
    go (no_used_words high low rest e z f v y) = words_are e
    go (restore_disagrees b e z f y) = words_are e
    go (restore_no_room b e z f g h) = words_are e
    go (restores b e z f g h) = absurd (x (number_is e))
