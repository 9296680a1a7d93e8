-- The rows of 01's table that numbering an order, handing out and writing its parts, asking for a k, opening, checking, joining, and reading and
-- writing a form or a file can answer, by trees, lines and sizes, apart from the tests of their definitions ("Numbers the desk hears"). Those of a
-- book's form are in book/specs/Sound.antt, of judging in book_judging/specs/Verdicts.antt, of teaching and withdrawing in
-- book_teaching/specs/Whys.antt. Assumes nothing: these are definitions.
use Rattle.std.specs.Prelude.{ℕ, ◌+◌, ◌-◌, ◌*◌, ◌≤◌, ◌<◌, ◌≡◌, List, [], ◌∷◌, ◌++◌, length, take, drop, Option, None, Some}
use Rattle.words.specs.Base.{over}
use Rattle.figures.specs.Limits.{head_words, most_book_words, least_k, greatest_k, greatest_count}
use Rattle.figures.specs.Numbers.{done, k_outside, book_size, no_room, too_many, not_agreeing, no_form, short_output, no_mark, other_version}
use Rattle.figures.specs.Numbers.{no_stored_book, other_k}
use Rattle.figures.specs.Answers.{answered, wrote, refused_at}
use Rattle.figures.specs.declared.Answer.{Answer}
use Rattle.order.specs.Trees.{Tree, words, depth, cut, subtrees}
use Rattle.order.specs.Reading.{found}
use Rattle.order.specs.Causes.{Cause}
use Rattle.order.specs.Fits.{IsOrder}
use Rattle.order.specs.Answers.{tree_of_line, Piece, piece, Writing, writing, refuse, PartWriting, part_writing, no_part, of_kind}
use Rattle.order.specs.declared.Kind.TheVariants.{Low, Middle}
use Rattle.form.specs.Text.{text_of}
use Rattle.form.specs.Faults.{FirstFault}
use Rattle.book.specs.Book.{Book, used, live, encode}
use Rattle.book.specs.Decoding.{places_of, Refused}
use Rattle.book.specs.Sound.{SoundBook, IsBook, WhyForm}
use Rattle.book.specs.Taught.{empty_book}
use Rattle.book.specs.Opening.{Outcome, leave, write_book}
use Rattle.book.specs.declared.Places.{Places}
use Rattle.book_joining.specs.Joining.{CountsAdded}
use Rattle.octets.specs.Octets.{bytes_of}
use Rattle.book_filing.specs.Files.{mark, mark_bytes, version, front_bytes, file_of}
use Rattle.promises.specs.Agreement.{Agrees}

-- ---- orders and their parts

-- Why `order_check::check` answers a: "Within an order: empty or odd length, over 128 words, the other causes of 1, depth."
pub data WhyNumbered (os : List ℕ) (a : Answer) : Type 0 where
  -- 0, 1 and 2: the cause's number, with line 0
  numbered : (n : ℕ) → a ≡ answered n → Cause os n → WhyNumbered os a

-- "a line the order lacks": its lines are those of its nodes, counted from 1.
pub data NoSuchLine (t : Tree) (line : ℕ) : Type 0 where
  -- No order has a line 0.
  line_0 : line ≡ 0 → NoSuchLine t line
  -- It has no line past the one of its last node.
  past_last : length (subtrees t) < line → NoSuchLine t line

-- Why `order_cuts::subtree` hands out p: "A subtree is a contiguous part of the order's words, and is handed out as that part, asked for by its
-- line; for an order with a cause of 1 or 2, or a line the order lacks, an empty part is handed out". Lines count from 1, in preorder.
pub data WhySubtree (os : List ℕ) (line : ℕ) (p : Piece) : Type 0 where
  -- "for an order with a cause of 1 or 2": an empty part, at the front
  subtree_no_order : (n : ℕ) → p ≡ piece 0 [] → Cause os n → (n ≡ done → ⊥) → WhySubtree os line p
  -- "or a line the order lacks": an empty part, at the front
  subtree_lacks : (t : Tree) → p ≡ piece 0 [] → IsOrder os t → NoSuchLine t line → WhySubtree os line p
  -- "is handed out as that part": from the two words of the line on, the subtree's words, which stand there
  subtree : (t s : Tree) → p ≡ piece ((line - 1) * 2) (words s) → IsOrder os t → tree_of_line line (subtrees t) ≡ found s
      → take (length (words s)) (drop ((line - 1) * 2) os) ≡ words s → WhySubtree os line p

-- Why writing the cut at d of a line's subtree gives w: 1, 2, 11. "Cut(t, d) keeps the nodes of depth at most d".
pub data WhyCut (os out : List ℕ) (line d : ℕ) (w : Writing) : Type 0 where
  -- 1 and 2, by the order
  cut_no_order : (n : ℕ) → w ≡ refuse n out → Cause os n → (n ≡ done → ⊥) → WhyCut os out line d w
  -- 0 for "a line the order lacks": nothing is cut, so nothing is written
  cut_lacks : (t : Tree) → w ≡ writing (wrote done 0) out → IsOrder os t → NoSuchLine t line → WhyCut os out line d w
  -- 11: "lent output too short"
  cut_short : (t s : Tree) → w ≡ refuse short_output out → IsOrder os t → tree_of_line line (subtrees t) ≡ found s
      → length out < length (words (cut s d)) → WhyCut os out line d w
  -- 0: the words of the cut at the front of the output
  cut_written : (t s : Tree) → w ≡ writing (wrote done (length (words (cut s d)))) (over (words (cut s d)) out) → IsOrder os t
      → tree_of_line line (subtrees t) ≡ found s
      → length (words (cut s d)) ≤ length out → WhyCut os out line d w

-- Why writing the part that a line stands for at k gives w: 1, 2, 11, with the kind of part, which is told with 11 as well. "The depth of the
-- uncut subtree decides between L and P": it is low at k-2 or less, and middle if deeper; k-2 is 0 for a k below 2.
pub data WhyPart (os out : List ℕ) (line k : ℕ) (w : PartWriting) : Type 0 where
  -- 1 and 2, by the order: no part
  part_no_order : (n : ℕ) → w ≡ part_writing (no_part n) out → Cause os n → (n ≡ done → ⊥) → WhyPart os out line k w
  -- 0 for "a line the order lacks": no part
  part_lacks : (t : Tree) → w ≡ part_writing (no_part done) out → IsOrder os t → NoSuchLine t line → WhyPart os out line k w
  -- 11, "lent output too short", for a low part: a "subtree of depth at most k-2"
  low_short : (t s : Tree) → w ≡ of_kind Low (refuse short_output out) → IsOrder os t → tree_of_line line (subtrees t) ≡ found s → depth s ≤ k - 2
      → length out < length (words s) → WhyPart os out line k w
  -- 0: the words of the low part at the front of the output
  low_written : (t s : Tree) → w ≡ of_kind Low (writing (wrote done (length (words s))) (over (words s) out)) → IsOrder os t
      → tree_of_line line (subtrees t) ≡ found s → depth s ≤ k - 2
      → length (words s) ≤ length out → WhyPart os out line k w
  -- 11, "lent output too short", for a middle part: "cut(s, k-1) for every subtree s of depth at least k-1", which is deeper than k-2
  middle_short : (t s : Tree) → w ≡ of_kind Middle (refuse short_output out) → IsOrder os t → tree_of_line line (subtrees t) ≡ found s → k - 2 < depth s
      → length out < length (words (cut s (k - 1))) → WhyPart os out line k w
  -- 0: the words of the middle part at the front of the output
  middle_written : (t s : Tree) → w ≡ of_kind Middle (writing (wrote done (length (words (cut s (k - 1))))) (over (words (cut s (k - 1))) out))
      → IsOrder os t
      → tree_of_line line (subtrees t) ≡ found s → k - 2 < depth s → length (words (cut s (k - 1))) ≤ length out → WhyPart os out line k w

-- ---- books

-- Why asking for a k tells x: "3: k outside 2 to 6".
pub data WhyDepth (k : ℕ) (x : Answer × Option ℕ) : Type 0 where
  -- 3: "k outside 2 to 6": below
  depth_below : x ≡ (answered k_outside, None) → k < least_k → WhyDepth k x
  -- 3: or above
  depth_above : x ≡ (answered k_outside, None) → greatest_k < k → WhyDepth k x
  -- 0: "k is 2 to 6", and it is that k
  depth_allowed : x ≡ (answered done, Some k) → least_k ≤ k → k ≤ greatest_k → WhyDepth k x

-- Why a look at a book's form tells x: 4 and 5.
pub data WhyLooked (ws : List ℕ) (x : Answer × Option Places) : Type 0 where
  -- 4 and 5, by the form: no places
  look_no_book : (n : ℕ) → x ≡ (answered n, None) → WhyForm ws (Refused n) → WhyLooked ws x
  -- 0: a book, and where its sections start
  look_book : (b : Book) → x ≡ (answered done, Some (places_of b)) → IsBook ws b → WhyLooked ws x

-- Why opening at k answers and leaves the words as o has them: "Open: 4, 3."
pub data WhyOpened (ws : List ℕ) (k : ℕ) (o : Outcome) : Type 0 where
  -- 4: "book slice shorter than 7"
  slice_short : o ≡ leave ws book_size → length ws < head_words → WhyOpened ws k o
  -- 4: "or longer than 16,384 words"
  slice_long : o ≡ leave ws book_size → most_book_words < length ws → WhyOpened ws k o
  -- 3: "k outside 2 to 6": below
  k_below : o ≡ leave ws k_outside → head_words ≤ length ws → length ws ≤ most_book_words → k < least_k → WhyOpened ws k o
  -- 3: or above
  k_above : o ≡ leave ws k_outside → head_words ≤ length ws → length ws ≤ most_book_words → greatest_k < k → WhyOpened ws k o
  -- 0: the book of no orders
  opened : o ≡ write_book ws (empty_book k) → head_words ≤ length ws → length ws ≤ most_book_words → least_k ≤ k → k ≤ greatest_k → WhyOpened ws k o

-- Why checking a book answers a: "Check: 4, 5, 9."
pub data WhyChecked (ws : List ℕ) (a : Answer) : Type 0 where
  -- 4 and 5
  check_no_book : (n : ℕ) → a ≡ answered n → WhyForm ws (Refused n) → WhyChecked ws a
  -- 9: "book does not agree with itself"
  disagrees : (b : Book) → a ≡ answered not_agreeing → IsBook ws b → (Agrees b → ⊥) → WhyChecked ws a
  -- 0: it does
  agrees : (b : Book) → a ≡ answered done → IsBook ws b → Agrees b → WhyChecked ws a

-- ---- two books

-- The words of two slices are two books of one k, each of which "agrees with itself".
pub record TwoBooks (ws vs : List ℕ) (b c : Book) : Type 0 where
  pub is_first : IsBook ws b
  pub is_second : IsBook vs c
  pub same : b.k ≡ c.k
  pub first_agrees : Agrees b
  pub second_agrees : Agrees c

-- Why joining answers and leaves the first book's words as o has them: "Refusals: 4 and 5 on the first book, 4 and 5 on the second, 15 where k
-- differs, 9 on the first, 9 on the second, 7, 6."
pub data WhyJoined (ws vs : List ℕ) (o : Outcome) : Type 0 where
  -- "4 and 5 on the first book", by it alone
  join_no_first : (n : ℕ) → o ≡ leave ws n → WhyForm ws (Refused n) → WhyJoined ws vs o
  -- "4 and 5 on the second"
  join_no_second : (b : Book) (n : ℕ) → o ≡ leave ws n → IsBook ws b → WhyForm vs (Refused n) → WhyJoined ws vs o
  -- "15 where k differs"
  k_differs : (b c : Book) → o ≡ leave ws other_k → IsBook ws b → IsBook vs c → (b.k ≡ c.k → ⊥) → WhyJoined ws vs o
  -- "9 on the first": it does not agree with itself
  first_disagrees : (b c : Book) → o ≡ leave ws not_agreeing → IsBook ws b → IsBook vs c → b.k ≡ c.k → (Agrees b → ⊥) → WhyJoined ws vs o
  -- "9 on the second"
  second_disagrees : (b c : Book) → o ≡ leave ws not_agreeing → IsBook ws b → IsBook vs c → b.k ≡ c.k → Agrees b → (Agrees c → ⊥)
      → WhyJoined ws vs o
  -- 7: the live teachings of both together would pass 65,535
  lives_pass : (b c : Book) → o ≡ leave ws too_many → TwoBooks ws vs b c → greatest_count < live b + live c → WhyJoined ws vs o
  -- 6: "the result needs more words than the book slice has", the result being the book with the "counts added"
  sum_no_room : (b c sum : Book) → o ≡ leave ws no_room → TwoBooks ws vs b c → live b + live c ≤ greatest_count → CountsAdded b c sum
      → length ws < used sum → WhyJoined ws vs o
  -- 0: "the second stays unchanged and the first becomes the book taught the live orders of both, counts added", in the whole slice
  joins : (b c sum : Book) → o ≡ write_book ws sum → TwoBooks ws vs b c → live b + live c ≤ greatest_count → CountsAdded b c sum → used sum ≤ length ws
      → WhyJoined ws vs o

-- ---- forms

-- Why writing an order's form gives w: "Write text: 1, 2, 11."
pub data WhyPrinted (os out : List ℕ) (w : Writing) : Type 0 where
  -- 1 and 2, by the order
  print_no_order : (n : ℕ) → w ≡ refuse n out → Cause os n → (n ≡ done → ⊥) → WhyPrinted os out w
  -- 11: "lent output too short"
  print_short : (t : Tree) → w ≡ refuse short_output out → IsOrder os t → length out < length (text_of t) → WhyPrinted os out w
  -- 0: "the only text of an order" at the front of the output
  printed : (t : Tree) → w ≡ writing (wrote done (length (text_of t))) (over (text_of t) out) → IsOrder os t → length (text_of t) ≤ length out
      → WhyPrinted os out w

-- Why reading a text gives w: the first line at fault, or 11, or the order whose text it is.
pub data WhyRead (text out : List ℕ) (w : Writing) : Type 0 where
  -- 10: "or no bytes at all": "No bytes is line 1."
  no_bytes : w ≡ writing (refused_at no_form 1) out → text ≡ [] → WhyRead text out w
  -- 2 and 10: "the first line at fault"
  at_fault : (n line : ℕ) → w ≡ writing (refused_at n line) out → 0 < length text → FirstFault text n line → WhyRead text out w
  -- 11: "11 last"
  read_short : (t : Tree) → w ≡ refuse short_output out → text ≡ text_of t → IsOrder (words t) t → length out < length (words t) → WhyRead text out w
  -- 0: the order's words at the front of the output
  read : (t : Tree) → w ≡ writing (wrote done (length (words t))) (over (words t) out) → text ≡ text_of t → IsOrder (words t) t
      → length (words t) ≤ length out → WhyRead text out w

-- ---- files

-- The bytes are "the used words of a book in form", high byte first. A book stands in "a lent slice of 7 to 16,384 words", so that it uses no more.
pub record UsedWords (rest : List ℕ) (b : Book) : Type 0 where
  pub sound : SoundBook b
  pub short : used b ≤ most_book_words
  pub bytes : rest ≡ bytes_of (encode b)

-- The bytes are the file of a book in form: "Bytes "OFB", version 1 as 16 bits, then the used words".
pub record IsFile (file : List ℕ) (b : Book) : Type 0 where
  pub sound : SoundBook b
  pub short : used b ≤ most_book_words
  pub bytes : file ≡ file_of b

-- "A lent slice of 7 to 16,384 words."
abbrev pub BookSized : List ℕ → Type 0
BookSized ws = (head_words ≤ length ws) × (length ws ≤ most_book_words)

-- Why writing a book's file gives w: "Write file: 4, 5, 9, 11."
pub data WhyFiled (ws out : List ℕ) (w : Writing) : Type 0 where
  -- 4 and 5
  file_no_book : (n : ℕ) → w ≡ refuse n out → WhyForm ws (Refused n) → WhyFiled ws out w
  -- 9: "Only a book that agrees with itself is written."
  file_disagrees : (b : Book) → w ≡ refuse not_agreeing out → IsBook ws b → (Agrees b → ⊥) → WhyFiled ws out w
  -- 11: "lent output too short"
  file_short : (b : Book) → w ≡ refuse short_output out → IsBook ws b → Agrees b → length out < length (file_of b) → WhyFiled ws out w
  -- 0: the file at the front of the output
  filed : (b : Book) → w ≡ writing (wrote done (length (file_of b))) (over (file_of b) out) → IsBook ws b → Agrees b → length (file_of b) ≤ length out
      → WhyFiled ws out w

-- Why reading a file into a slice gives o: "Read file: 4, 12, 13, 14, 9, 6."
pub data WhyRestored (file ws : List ℕ) (o : Outcome) : Type 0 where
  -- 4: "book slice shorter than 7"
  restore_shorter : o ≡ leave ws book_size → length ws < head_words → WhyRestored file ws o
  -- 4: "or longer than 16,384 words"
  restore_longer : o ≡ leave ws book_size → most_book_words < length ws → WhyRestored file ws o
  -- 12: "under 5 bytes"
  few_bytes : o ≡ leave ws no_mark → BookSized ws → length file < front_bytes → WhyRestored file ws o
  -- 12: "or wrong mark"
  wrong_mark : o ≡ leave ws no_mark → BookSized ws → front_bytes ≤ length file → (take mark_bytes file ≡ mark → ⊥) → WhyRestored file ws o
  -- 13: "version not 1"
  wrong_version : (high low : ℕ) (rest : List ℕ) → o ≡ leave ws other_version → BookSized ws → file ≡ mark ++ (high ∷ low ∷ rest)
      → (high * 256 + low ≡ version → ⊥) → WhyRestored file ws o
  -- 14: "the rest is not the used words of a book in form"
  no_used_words : (high low : ℕ) (rest : List ℕ) → o ≡ leave ws no_stored_book → BookSized ws → file ≡ mark ++ (high ∷ low ∷ rest) → high * 256 + low
      ≡ version
      → ((b : Book) → UsedWords rest b → ⊥) → WhyRestored file ws o
  -- 9: "book does not agree with itself"
  restore_disagrees : (b : Book) → o ≡ leave ws not_agreeing → BookSized ws → IsFile file b → (Agrees b → ⊥) → WhyRestored file ws o
  -- 6: "the result needs more words than the book slice has"
  restore_no_room : (b : Book) → o ≡ leave ws no_room → BookSized ws → IsFile file b → Agrees b → length ws < used b → WhyRestored file ws o
  -- 0: the book, in the whole slice
  restores : (b : Book) → o ≡ write_book ws b → BookSized ws → IsFile file b → Agrees b → used b ≤ length ws → WhyRestored file ws o
