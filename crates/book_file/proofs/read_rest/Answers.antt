-- `book_file::read_rest`: bytes that are no book's number of words are refused, and of any others the words decide. Assumes nothing.
use Rattle.std.proofs.Common.{ℕ, List, ◌≡◌, ◌-◌, ◌/◌, ◌%◌, ◌<◌, ◌≤◌, length, take, drop, replicate, sym, ap, arith, ◌∙◌}
use lib.ListN.{length-append}
use lib.Seq.{take_at}
use borrow.Rule.Slice.PartMut.{put_mid}
use Rattle.figures.specs.Limits.{most_book_words}
use Rattle.octets.specs.Octets.{bytes_of, words_of}
use Rattle.book_filing.specs.Files.{read_rest_of}
use Rattle.octets.proofs.Bytes.{words_long, bytes-of_words}
use Rattle.book_filing.proofs.Restoring.{no_stored}
use Rattle.book_file.proofs.read_rest.Goals as goal

-- A list that was lent as its first n words, and has come back with others there.
module _ (n : ℕ) (xs ys : List ℕ) (long : length ys ≡ n) where
  -- It has at least n words.
  fits : n ≤ length (put_mid 0 (n - 0) xs ys)
  fits = simp length-append (omega arith)

  -- Its first n are the others.
  front : take (n - 0) (drop 0 (put_mid 0 (n - 0) xs ys)) ≡ ys
  front = take_at ys (drop (n - 0) xs) (n - 0) (omega arith)

-- There are half as many words as bytes, where these are even in number.
half : (rest out : List ℕ) → out ≡ words_of rest → length rest % 2 ≡ 0 → length out ≡ length rest / 2
half rest out taken even = ap length taken ∙ words_long rest (length rest / 2) (omega arith)

pub returns-then-rest-ne0 : goal.returns-then-rest-ne0
returns-then-rest-ne0 c =
    let x = c.args in
    let odd : length x.rest.now % 2 ≡ 0 → ⊥ = c.if-rest-ne0.true in
    sym (no_stored x.rest.now x.book.now (λ n few twice. odd (omega arith)))

pub returns-then-many-gt-MOST_BOOK_WORDS : goal.returns-then-many-gt-MOST_BOOK_WORDS
returns-then-many-gt-MOST_BOOK_WORDS c =
    let x = c.args in
    let many : most_book_words < length x.rest.now / 2 = c.if-many-gt-MOST_BOOK_WORDS.true in
    sym (no_stored x.rest.now x.book.now (λ n few twice. omega arith))

pub slice_bounds-read_words-end : goal.slice_bounds-read_words-end
slice_bounds-read_words-end c =
    let rest = c.args.rest.now in
    fits (length rest / 2) (replicate most_book_words 0) c.take_words.new.out (half rest _ c.take_words.ensures c.if-rest-ne0.false)

pub returns : goal.returns
returns c =
    let x = c.args in
    let rest = x.rest.now in
    let words = front (length rest / 2) (replicate most_book_words 0) c.take_words.new.out (half rest _ c.take_words.ensures c.if-rest-ne0.false) ∙ c.take_words.ensures in
    let bytes : bytes_of (words_of rest) ≡ rest = bytes-of_words rest (λ i. omega (arith, c.type_inv.rest i)) c.if-rest-ne0.false in
    c.read_words.ensures ∙ ap (λ (l : List ℕ). read_rest_of l x.book.now) (ap bytes_of words ∙ bytes)
