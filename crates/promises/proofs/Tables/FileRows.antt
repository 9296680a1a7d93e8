-- Rows that are computed of files: the bytes of a stored book, what one damage each is answered by, and in which order. Assumes nothing.
use Prim.Native.Nat.{ℕ}
use mathlib.Core.Path.{◌≡◌, refl}
use mathlib.Core.List.{List, [], ◌∷◌, ◌++◌}
use lib.ListN.{set, take}
use Rattle.figures.specs.Answers.{answered, wrote}
use Rattle.order.specs.Answers.{writing, refuse}
use Rattle.book.specs.Opening.{outcome, leave}
use Rattle.octets.specs.Octets.{bytes_of, words_of}
use Rattle.book_filing.specs.Files.{file_of, write_file_of, is_marked, stored_in, read_book_of, read_rest_of, read_file_of}
use Rattle.promises.specs.Heard.{slice}
use Rattle.promises.proofs.Tables.Computed.{computes}

-- The book of the single node 1000, k = 2: the head, and the node in T, R and L.
abbrev book : List ℕ
book = 2 ∷ 19 ∷ 1 ∷ 1 ∷ 1 ∷ 1 ∷ 0 ∷ 1 ∷ 1 ∷ 1000 ∷ 0 ∷ 1 ∷ 1 ∷ 1000 ∷ 0 ∷ 1 ∷ 1 ∷ 1000 ∷ 0 ∷ []

-- Its file: "OFB", version 1, and its used words, high byte first; 1000 is 3 times 256 and 232.
abbrev file : List ℕ
file =
    79 ∷ 70 ∷ 66 ∷ 0 ∷ 1
    ∷ 0 ∷ 2 ∷ 0 ∷ 19 ∷ 0 ∷ 1 ∷ 0 ∷ 1 ∷ 0 ∷ 1 ∷ 0 ∷ 1 ∷ 0 ∷ 0
    ∷ 0 ∷ 1 ∷ 0 ∷ 1 ∷ 3 ∷ 232 ∷ 0 ∷ 0
    ∷ 0 ∷ 1 ∷ 0 ∷ 1 ∷ 3 ∷ 232 ∷ 0 ∷ 0
    ∷ 0 ∷ 1 ∷ 0 ∷ 1 ∷ 3 ∷ 232 ∷ 0 ∷ 0
    ∷ []

-- It is written to 43 bytes, and of 44 the last stays; 42 are too few.
written : (write_file_of book (slice 43) ≡ writing (wrote 0 43) file) × (write_file_of book (slice 44) ≡ writing (wrote 0 43) (file ++ (9 ∷ []))) × (write_file_of book (slice 42) ≡ refuse 11 (slice 42))
unfolding computes bytes_of file_of write_file_of
written = (refl, refl, refl)

-- It is read into 19 words, and into 20, of which the last is then zero; 18 are too few, 6 are no book's.
read : (read_file_of file (slice 19) ≡ outcome (answered 0) book)
    × (read_file_of file (slice 20) ≡ outcome (answered 0) (book ++ (0 ∷ [])))
    × (read_file_of file (slice 18) ≡ leave (slice 18) 6)
    × (read_file_of file (slice 6) ≡ leave (slice 6) 4)
unfolding computes bytes_of words_of is_marked stored_in read_book_of read_rest_of read_file_of
read = (refl, refl, refl, refl)

-- One damage each: four bytes, though with the mark; another mark; version 0 and 0x0100; an odd rest; a word more; a word used more; a k of 7; a
-- count of 2 in R, which is in form and does not agree, so that it is 9 where there is no room as well.
damaged : (read_file_of (take 4 file) (slice 19) ≡ leave (slice 19) 12)
    × (read_file_of (set file 2 98) (slice 19) ≡ leave (slice 19) 12)
    × (read_file_of (set file 4 0) (slice 19) ≡ leave (slice 19) 13)
    × (read_file_of (set (set file 3 1) 4 0) (slice 19) ≡ leave (slice 19) 13)
    × (read_file_of (take 42 file) (slice 19) ≡ leave (slice 19) 14)
    × (read_file_of (file ++ (0 ∷ 0 ∷ [])) (slice 20) ≡ leave (slice 20) 14)
    × (read_file_of (set file 8 20) (slice 20) ≡ leave (slice 20) 14)
    × (read_file_of (set file 6 7) (slice 19) ≡ leave (slice 19) 14)
    × (read_file_of (set file 30 2) (slice 19) ≡ leave (slice 19) 9)
    × (read_file_of (set file 30 2) (slice 18) ≡ leave (slice 18) 9)
unfolding computes bytes_of words_of is_marked stored_in read_book_of read_rest_of read_file_of
damaged = (refl, refl, refl, refl, refl, refl, refl, refl, refl, refl)

-- Two faults at once, the one that comes first decides: 4 before 12, 12 before 13, 13 before 14, 14 before 9.
in_order : (read_file_of (set file 0 0) (slice 6) ≡ leave (slice 6) 4)
    × (read_file_of (set (set file 0 0) 4 0) (slice 19) ≡ leave (slice 19) 12)
    × (read_file_of (set (set file 4 0) 6 7) (slice 19) ≡ leave (slice 19) 13)
    × (read_file_of (set file 30 2 ++ (0 ∷ 0 ∷ [])) (slice 20) ≡ leave (slice 20) 14)
unfolding computes bytes_of words_of is_marked stored_in read_book_of read_rest_of read_file_of
in_order = (refl, refl, refl, refl)

-- A book that does not agree with itself is not written, be there room or not.
disagrees : (write_file_of (set book 12 2) (slice 43) ≡ refuse 9 (slice 43)) × (write_file_of (set book 12 2) [] ≡ refuse 9 [])
unfolding computes bytes_of file_of write_file_of
disagrees = (refl, refl)
