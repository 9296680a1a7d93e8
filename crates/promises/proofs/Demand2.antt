-- Demand 2: "An order passes exactly when its top, its low parts and its middle parts are all in the book, as García's paper on k-testable tree sets
-- defines them. Codes are read as decimal. A sound form goes to text and back unchanged; so does a book that agrees with itself, to file and back into
-- a slice of its own length."
--
-- García's paper is document 000. Its r, l and p are `IsR`, `IsL` and `IsP` (order/specs/Paper.antt), said by positions and labels. A tree is in a section if one of its
-- entries has the tree's words (`In`, book_judging/specs/Verdicts.antt). Assumes nothing.
use Rattle.std.specs.Prelude.{Ok}
use Prim.Native.Nat.{ℕ, suc, ◌+◌, ◌*◌, ◌-◌, ◌/◌, ◌%◌, ◌≤◌, ◌<◌}
use mathlib.Core.Path.{◌≡◌, refl, sym, ap, subst, ◌∙◌}
use mathlib.Core.Bool.{false}
use mathlib.Core.List.Memᴰ
use mathlib.Core.List.Memᴰ.{head as here}
use mathlib.Core.List.Memᴰ.{tail as there}
use mathlib.Core.List.{List, [], ◌∷◌, ◌++◌, append_assoc, map}
use native.Mathlib.Omega.{arith}
use lib.ListN.{length, get_or, take}
use Rattle.words.specs.Base.{over, ◌∈◌, ◌exactly_when◌}
use Rattle.figures.specs.Limits.{least_code, greatest_code, most_nodes, used_word}
use Rattle.figures.specs.Numbers.{done, no_form, top_unknown, low_unknown}
use Rattle.figures.specs.Answers.{answered, wrote, refused_at}
use Rattle.figures.specs.declared.Answer.{Answer}
use Rattle.order.specs.Trees.{Tree, node, Good, subtrees, below}
use Rattle.order.specs.Fits.{IsOrder}
use Rattle.order.specs.Paper.{StrictlyBelow, IsR}
use Rattle.order.specs.Reading.{found}
use Rattle.order.specs.Answers.{tree_of_line, writing, write}
use Rattle.order.proofs.Cutting.{subtree-good}
use Rattle.order.proofs.Fitting.{order-read}
use Rattle.form.specs.Text.{Line, digit_0, space, line_feed, code_size, lines_of, level_text, code_text, line_text, spell, text_of}
use Rattle.form.specs.Reading.{is_digit, spelt_of, form, read_lines, children, words_of_lines, read_of}
use Rattle.form.specs.Faults.{ChildrenBehind, greatest_level}
use Rattle.form.specs.Writing.{write_of}
use Rattle.form.proofs.Digits.{value-digits, line_read}
use Rattle.form.proofs.LineBytes.{line-size}
use Rattle.form.proofs.Letters.{NotFour, NotRead, decimal, code-decimal, decimal-read, code-refused, byte_refused}
use Rattle.form.proofs.Counts.{kids}
use Rattle.form.proofs.Children.{counted-below, below-counted, line_code}
use Rattle.form.proofs.TreeLines.{top_code, lines-words, lines-subtrees}
use Rattle.form.proofs.Rows.{legal-shallow, form-legal}
use Rattle.form.proofs.Trips.{order-text, order-write, form-write, written_read, read-written}
use Rattle.book.specs.Book.{Book}
use Rattle.book.specs.Sound.{IsBook}
use Rattle.book.specs.Opening.{outcome}
use Rattle.book_judging.specs.Judging.{judge_of}
use Rattle.book_judging.specs.Verdicts.{In, PassesBy}
use Rattle.book_judging.proofs.Answers.{answered-passes, passes-answered}
use Rattle.book_filing.specs.Files.{front_bytes, file_of, write_file_of, read_file_of}
use Rattle.promises.specs.Agreement.{Agrees}
use Rattle.promises.specs.Forms.{LevelInTens, InTens, LineStands, ComesBack, LinesBelow, PartKnown, NoLineUnknown, LineWanted, Told}
use Rattle.promises.proofs.Laws.FormLines.{level-tens, tens_level, tens_most, lines-below, below-by_lines}
use Rattle.promises.proofs.Laws.LineNumbers.{unpassed, told, wanted-told, unknown-told, unknown-top}
use Rattle.promises.proofs.Laws.FileWhys.{agrees-filed}
use Rattle.promises.proofs.Laws.FileTrips.{file_back, filed-back, filed-bytes, read-back_filed, read_alike}
use Rattle.promises.proofs.Laws.Refusals.{write-writes}

-- ---- passing

-- "An order passes exactly when its top, its low parts and its middle parts are all in the book": `judge` answers 0 exactly if the words are a book
-- in form and an order within limits, its r of index k-1 is in R, each of its l of index k-1 is in L and each of its p of index k is in P. For all
-- words; so no number but 0 is given to an order that passes, and 0 to no other.
pub passes-exactly : (ws os : List ℕ) → ((judge_of ws os).number ≡ done) exactly_when PassesBy ws os
passes-exactly ws os = (answered-passes ws os, λ p. ap (λ (a : Answer). a.number) (passes-answered ws os p))

-- An order that passes is answered with line 0.
pub passing-line : (ws os : List ℕ) → (judge_of ws os).number ≡ done → judge_of ws os ≡ answered done
passing-line ws os e = passes-answered ws os (answered-passes ws os e)

-- "any other comes back to the order clerk with a number and a line": an order within limits that does not pass by a book in form is answered by 20, 21
-- or 22, and the line is one of the order's form, with the code at the top of that line's subtree.
pub comes_back : (ws os : List ℕ) (b : Book) (t : Tree) → IsBook ws b → IsOrder os t → ((judge_of ws os).number ≡ done → ⊥) → ComesBack t (judge_of ws os)
comes_back ws os b t = unpassed ws os b t

-- "The line wanted is the least one whose part is unknown while nothing strictly below it is unknown. Answer 20 is given only when no line is unknown." A
-- line that is told with 21 or 22 is unknown, nothing strictly below it is, and no smaller line is like that; with 20 every line is known; and an order
-- that does not pass is never answered by 0.
pub doubted-least : (ws os : List ℕ) (b : Book) (t : Tree) → IsBook ws b → IsOrder os t → Told b t (judge_of ws os)
doubted-least = told

-- And the line wanted is told, with its number and no other,
pub wanted-only : (ws os : List ℕ) (b : Book) (t : Tree) → IsBook ws b → IsOrder os t → (a : Answer) → LineWanted b t a → judge_of ws os ≡ a
wanted-only = wanted-told

-- so that an order with an unknown line, wherever it stands, is told one by 21 or 22.
pub unknown-line_told : (ws os : List ℕ) (b : Book) (t : Tree) → IsBook ws b → IsOrder os t
    → (line : ℕ) (s : Tree) → tree_of_line line (subtrees t) ≡ found s → (PartKnown b s → ⊥) → low_unknown ≤ (judge_of ws os).number
unknown-line_told = unknown-told

-- "Answer 20 is given only when no line is unknown", and then exactly if the top is unknown; "whose line stays 1".
pub top-line : (ws os : List ℕ) (b : Book) (t : Tree) → IsBook ws b → IsOrder os t
    → (judge_of ws os ≡ record { number = top_unknown; line = 1 }) exactly_when (NoLineUnknown b t × ((u : Tree) → IsR (b.k - 1) t u → In b.R u → ⊥))
top-line = unknown-top

-- "strictly below": the trees strictly below a line's subtree are those of the lines of the form that stand below the line, and these are the lines that follow
-- it with higher levels, up to the next line of its level or above; no other line, however late it stands.
pub below-in_the_form : (t s : Tree) (line : ℕ) → tree_of_line line (subtrees t) ≡ found s
    → LinesBelow (lines_of t 0) line (length (below s))
    × ((u : Tree) → StrictlyBelow s u exactly_when (j : ℕ) × (line < j) × (j ≤ line + length (below s)) × (tree_of_line j (subtrees t) ≡ found u))
below-in_the_form t s line q = (lines-below t s line q, λ u. below-by_lines t s u line q)

-- ---- "Codes are read as decimal.", and so are levels

-- What is written behind a level is the code in tens, for every code up to 9999.
pub written_in_tens : (code : ℕ) → code ≤ greatest_code → InTens code (code_text code)
unfolding code_text
written_in_tens code most = record {
  a = code / 1000 % 10;
  b = code / 100 % 10;
  c = code / 10 % 10;
  d = code % 10;
  digits = (omega arith, omega arith, omega arith, omega arith);
  text_is = refl;
  code_is = sym (value-digits code most) ∙ decimal (code / 1000 % 10) (code / 100 % 10) (code / 10 % 10) (code % 10);
}

-- The code at the top of a good tree is at most 9999.
top-code : (s : Tree) → Good s → top_code s ≤ greatest_code
unfolding top_code Good
top-code (node c f) g = g.0.1

-- Each of some lines stands in their text.
spelt-stands : (xs : List Line) (x : Line) → x ∈ xs → LineStands (spell xs) x
unfolding spell line_text
spelt-stands [] x x3 = elim x3 [ ]
spelt-stands (y ∷ ys) x (here e) = record { front = []; rest = spell ys; is = rw e (append_assoc (level_text y.level) (code_text y.code) (spell ys)) }
spelt-stands (y ∷ ys) x (there m) =
    let s = spelt-stands ys x m in
    let later : List ℕ = level_text x.level ++ (code_text x.code ++ s.rest) in
    record { front = line_text y ++ s.front; rest = s.rest; is = ap (λ (r : List ℕ). line_text y ++ r) s.is ∙ sym (append_assoc (line_text y) s.front later) }

-- "Level is one digit, or two of which the first is not 0": what is written for a level is the level in tens, for every level up to 99, and no other
-- bytes are,
pub levels_in_tens : (l : ℕ) → l ≤ greatest_level → LevelInTens l (level_text l) × ((text : List ℕ) → LevelInTens l text → text ≡ level_text l)
levels_in_tens l most = (level-tens l most, tens_level l)

-- and a level in tens is read as that level, before any code.
pub levels_read-in_tens : (l : ℕ) (text : List ℕ) → LevelInTens l text → (c : ℕ) → c ≤ greatest_code → (rest : List ℕ)
    → spelt_of (text ++ (code_text c ++ rest)) ≡ Ok (record { level = l; code = c; size = length text + code_size })
unfolding line_text
levels_read-in_tens l text tens c most rest =
    let x : Line = record { level = l; code = c } in
    let is : text ++ (code_text c ++ rest) ≡ line_text x ++ rest =
    ap (λ (s : List ℕ). s ++ (code_text c ++ rest)) (tens_level l text tens) ∙ sym (append_assoc (level_text l) (code_text c) rest) in
    ap spelt_of is ∙ line_read x rest (tens_most l text tens) most
    ∙ ap (λ (n : ℕ). Ok (record { level = l; code = c; size = n })) (line-size x ∙ ap (λ (s : List ℕ). length s + code_size) (sym (tens_level l text tens)))

-- So it is on every line of the text that is written of an order, and, since a text is read exactly if it is the text of an order (`read-rows`), on
-- every line that is read: each line stands in the order's text, with its level and its code in tens. The text is that of its lines (`text_of`), line i
-- having the code of the top of the subtree of line i (`lines-subtrees`, form/proofs/TreeLines.antt).
pub every_line-in_tens : (os : List ℕ) (t : Tree) → IsOrder os t → (x : Line) → x ∈ lines_of t 0
    → LineStands (text_of t) x × LevelInTens x.level (level_text x.level) × InTens x.code (code_text x.code)
unfolding text_of
every_line-in_tens os t o x m =
    let n : x.code ∈ map top_code (subtrees t) = subst (λ (cs : List ℕ). x.code ∈ cs) (lines-subtrees t 0) (Memᴰ.map (λ (y : Line). y.code) m) in
    let q = Memᴰ.of_map top_code (subtrees t) n in
    let most : x.code ≤ greatest_code = subst (λ (c : ℕ). c ≤ greatest_code) q.2 (top-code q.0 (subtree-good t q.1 o.good)) in
    let f = form-legal (text_of t) (lines_of t 0) (order-text os t (order-read os t o)).0 in
    let shallow : x.level ≤ greatest_level = omega (arith, legal-shallow [] (lines_of t 0) f.1 x m) in
    (spelt-stands (lines_of t 0) x m, level-tens x.level shallow, written_in_tens x.code most)

-- On a line of any level four digits are read as the number that they are in tens.
pub read-in_tens : (l a b c d : ℕ) (rest : List ℕ) → l ≤ greatest_level → a < 10 → b < 10 → c < 10 → d < 10
    → spelt_of (level_text l ++ (space ∷ (digit_0 + a) ∷ (digit_0 + b) ∷ (digit_0 + c) ∷ (digit_0 + d) ∷ line_feed ∷ rest)) ≡ Ok (record { level = l; code = a * 1000 + b * 100 + c * 10 + d; size = length (level_text l) + code_size })
read-in_tens = code-decimal

-- "0 0010" is ten: a form of one line is the node whose code is its digits in tens.
pub one-line_in_tens : (a b c d : ℕ) → a < 10 → b < 10 → c < 10 → d < 10 → least_code ≤ a * 1000 + b * 100 + c * 10 + d → (out : List ℕ)
    → read_of (digit_0 ∷ space ∷ (digit_0 + a) ∷ (digit_0 + b) ∷ (digit_0 + c) ∷ (digit_0 + d) ∷ line_feed ∷ []) out ≡ write ((a * 1000 + b * 100 + c * 10 + d) ∷ 0 ∷ []) out
one-line_in_tens = decimal-read

-- A code with any byte that is no decimal digit is refused by 10 at its own line, whatever follows, if the lines before it are read without
-- fault and are fewer than 64.
pub no_other_base : (front : List ℕ) (xs : List Line) (l a b c d : ℕ) (rest : List ℕ)
    → read_lines most_nodes [] front ≡ form xs → length xs < most_nodes → l ≤ greatest_level → NotFour a b c d → (out : List ℕ)
    → read_of (front ++ (level_text l ++ (space ∷ a ∷ b ∷ c ∷ d ∷ rest))) out ≡ writing (refused_at no_form (suc (length xs))) out
no_other_base = code-refused

-- No text with a byte that is no digit, space or LF is read, wherever the byte stands.
pub no_letter : (front rest : List ℕ) (b : ℕ) → is_digit b ≡ false → (b ≡ space → ⊥) → (b ≡ line_feed → ⊥) → NotRead (front ++ (b ∷ rest))
no_letter = byte_refused

-- ---- levels say the tree

-- "One line per node in preorder: level": in the form of an order each line has the code of its node, and as many children among the lines as its node
-- has: these are the lines one level deeper that stand below it, before the next line of its level or above.
pub levels_say_the_tree : (os : List ℕ) (t : Tree) → IsOrder os t → (before : List Line) (x : Line) (behind : List Line) → lines_of t 0 ≡ before ++ (x ∷ behind)
    → (get_or os (2 * length before) 0 ≡ x.code) × ((n : ℕ) → (get_or os (2 * length before + 1) 0 ≡ n) exactly_when ChildrenBehind x.level behind n)
levels_say_the_tree os t o before x behind e =
    let is : os ≡ words_of_lines (before ++ (x ∷ behind)) = o.spelt ∙ sym (lines-words t 0) ∙ ap words_of_lines e in
    let count : get_or os (2 * length before + 1) 0 ≡ children x.level behind = ap (λ (ws : List ℕ). get_or ws (2 * length before + 1) 0) is ∙ kids x behind before in (
      ap (λ (ws : List ℕ). get_or ws (2 * length before) 0) is ∙ line_code x behind before,
      λ n. (λ q. counted-below x.level behind n (sym count ∙ q), λ r. count ∙ below-counted x.level behind n r),
    )

-- ---- "A sound form goes to text and back unchanged"

-- An order within limits is written as its text at the front of any output with room, and that text is read back to the order's words. A
-- text that is read is the text of an order (`read-rows`), so that every such text goes to words and back as well.
pub to_text-and_back : (os : List ℕ) (t : Tree) → IsOrder os t → (out later : List ℕ) → length (text_of t) ≤ length out → length os ≤ length later
    → (write_of os out ≡ writing (wrote done (length (text_of t))) (over (text_of t) out)) × (read_of (text_of t) later ≡ writing (wrote done (length os)) (over os later))
to_text-and_back os t o out later room enough =
    let e = order-read os t o in
    let f = order-text os t e in
    (order-write os t out e ∙ write-writes (text_of t) out room, form-write (text_of t) (lines_of t 0) later f.0 ∙ ap (λ (ws : List ℕ). write ws later) f.1 ∙ write-writes os later enough)

-- The bytes that were written without fault are read back to the order's words, or answered by 11 where the later output is too short.
pub written_then_read : (os out : List ℕ) → (write_of os out).answer.number ≡ done → (later : List ℕ)
    → read_of (take (write_of os out).answer.count (write_of os out).out) later ≡ write os later
written_then_read = written_read

-- The words that were read without fault are written back to the same bytes, or answered by 11 where the later output is too short.
pub read-then_written : (text out : List ℕ) → (read_of text out).answer.number ≡ done → (later : List ℕ)
    → write_of (take (read_of text out).answer.count (read_of text out).out) later ≡ write text later
read-then_written = read-written

-- ---- "so does a book that agrees with itself, to file and back into a slice of its own length"

-- A book that agrees with itself is written as its file at the front of any output with room, and that file is read back into any slice of the
-- book's length, whatever stood there, to the same words, every one. A file that is read is the file of such a book (`read-file_rows`).
pub to_file_and_back : (ws : List ℕ) (b : Book) → IsBook ws b → Agrees b → (out slice : List ℕ) → length (file_of b) ≤ length out → length slice ≡ length ws
    → (write_file_of ws out ≡ writing (wrote done (length (file_of b))) (over (file_of b) out)) × (read_file_of (file_of b) slice ≡ outcome (answered done) ws)
to_file_and_back ws b i g out slice room same = (agrees-filed ws out b i g ∙ write-writes (file_of b) out room, file_back ws b i g slice same)

-- The bytes that were written without refusal are read back into any slice of the book's length to the same words.
pub filed-then_read : (ws out : List ℕ) → (write_file_of ws out).answer.number ≡ done → (slice : List ℕ) → length slice ≡ length ws
    → read_file_of (take (write_file_of ws out).answer.count (write_file_of ws out).out) slice ≡ outcome (answered done) ws
filed-then_read = filed-back

-- What reads without refusal is written back to the same bytes, or answered by 11 where the output is too short.
pub read-then_filed : (file slice : List ℕ) → (read_file_of file slice).answer.number ≡ done → (out : List ℕ) → write_file_of (read_file_of file slice).words out ≡ write file out
read-then_filed = read-back_filed

-- "also reports how many it wrote": the five bytes of mark and version, and two for each used word.
pub bytes-written : (ws out : List ℕ) → (write_file_of ws out).answer.number ≡ done → (write_file_of ws out).answer.count ≡ front_bytes + 2 * get_or ws used_word 0
bytes-written = filed-bytes

-- What stood in a slice before a file was read into it does not matter: of two slices of one length both get the same answer, and where that is 0
-- the same words.
pub whatever_stood_there : (file v w : List ℕ) → length v ≡ length w
    → ((read_file_of file v).answer ≡ (read_file_of file w).answer) × ((read_file_of file v).answer.number ≡ done → (read_file_of file v).words ≡ (read_file_of file w).words)
whatever_stood_there = read_alike
