-- Asking for a k, looking at a book's form, opening, and reading and writing a form, answer exactly by the rows of 01's table, as specs/Whys.antt states them, for any
-- words: every answer has its row, and what has a row is the answer. Assumes nothing.
use Rattle.std.specs.Prelude.{None, Some, Option}
use Prim.Native.Nat.{ℕ, ◌≤◌, ◌<◌}
use mathlib.Core.Path.{◌≡◌, refl, sym, ap, subst, ◌∙◌}
use mathlib.Core.Bool.{true, false}
use mathlib.Core.List.{List, [], ◌∷◌}
use native.Mathlib.Decide.{dec_lt}
use native.Mathlib.Omega.{arith}
use borrow.Author.Tests.{le-leb, lt-leb}
use lib.ListN.{length}
use Rattle.words.specs.Base.{when◌then◌else◌, within}
use Rattle.words.proofs.Tests.{and_both, fails_left, fails_right}
use Rattle.figures.specs.Limits.{head_words, most_book_words, least_k, greatest_k}
use Rattle.figures.specs.Numbers.{done, k_outside, book_size, not_in_form}
use Rattle.figures.specs.Answers.{depth_of, answered, asked_told}
use Rattle.figures.specs.declared.Answer.{Answer}
use Rattle.order.specs.Trees.{Tree, words}
use Rattle.order.specs.Reading.{cause_of}
use Rattle.order.specs.Causes.{Cause}
use Rattle.order.specs.Fits.{IsOrder}
use Rattle.order.specs.Answers.{Writing, refuse, write}
use Rattle.order.proofs.Causes.{cause_is, cause_refuses, Seen, stopped, passed, seen}
use Rattle.order.proofs.Fitting.{passed-order, order-read, read-order}
use Rattle.form.specs.Text.{Line, lines_of, text_of}
use Rattle.form.specs.Reading.{Form, fault, form, form_of, words_of_lines, read_of}
use Rattle.form.specs.Writing.{write_of}
use Rattle.form.proofs.FirstFault.{first-fault, fault-first, no_bytes as none_read}
use Rattle.form.proofs.Trips.{order-text, form-order, order-write, form-write, fault-write}
use Rattle.book.specs.Sound.{WhyForm, shorter, longer, formless, book}
use Rattle.book.specs.Decoding.{places_of, book_form_of, form_told, BookForm, Refused, InForm}
use Rattle.book.specs.declared.Places.{Places}
use Rattle.book.proofs.Sound.{why-is, why-only}
use Rattle.book.specs.Taught.{empty_book, book_of}
use Rattle.book.specs.Opening.{Outcome, leave, write_book, open_of}
use Rattle.book.proofs.Heads.{too_short, too_long, is-sized}
use Rattle.book.proofs.Openings.{open_unsized, no_depth, opened as opening}
use Rattle.promises.specs.Whys.{WhyDepth, depth_below, depth_above, depth_allowed, WhyLooked, look_no_book, look_book, WhyOpened, slice_short, slice_long, k_below, k_above, opened, WhyPrinted, print_no_order, print_short, printed, WhyRead, no_bytes, at_fault, read_short, read}
use Rattle.promises.proofs.Laws.Refusals.{write-refuses, write-writes}

-- ---- asking for a k

module _ (k : ℕ) where
  -- A k that the test fails is outside.
  depth-fails : within least_k greatest_k k ≡ false → depth_of k ≡ None
  unfolding depth_of when◌then◌else◌
  depth-fails e = rw e refl

  -- A k that is too low is outside.
  below-outside : k < least_k → depth_of k ≡ None
  below-outside h = depth-fails (fails_left _ _ (lt-leb least_k k h))

  -- So is one that is too high.
  above-outside : greatest_k < k → depth_of k ≡ None
  above-outside h = depth-fails (fails_right _ _ (lt-leb k greatest_k h))

  -- Any other k is allowed.
  between_allowed : least_k ≤ k → k ≤ greatest_k → depth_of k ≡ Some (record { k = k })
  unfolding depth_of when◌then◌else◌
  between_allowed a z = let e : within least_k greatest_k k ≡ true = and_both (le-leb least_k k a) (le-leb k greatest_k z) in rw e refl

  -- Asking for a k tells what a row of 01's table says.
  pub depth-why : WhyDepth k (asked_told (depth_of k))
  depth-why = go (dec_lt k least_k) (dec_lt greatest_k k)
    where
      -- By whether k is too low or too high.
      go : Dec (k < least_k) → Dec (greatest_k < k) → WhyDepth k (asked_told (depth_of k))
      go (yes h) d = depth_below (ap asked_told (below-outside h)) h
      go (no h) (yes g) = depth_above (ap asked_told (above-outside g)) g
      go (no h) (no g) = depth_allowed (ap asked_told (between_allowed (omega arith) (omega arith))) (omega arith) (omega arith)

  -- It tells by no other row: what has one is what it tells.
  pub depth-only : (x : Answer × Option ℕ) → WhyDepth k x → asked_told (depth_of k) ≡ x
  depth-only x (depth_below e h) = ap asked_told (below-outside h) ∙ sym e
  depth-only x (depth_above e h) = ap asked_told (above-outside h) ∙ sym e
  depth-only x (depth_allowed e l g) = ap asked_told (between_allowed l g) ∙ sym e

-- ---- a book's form

module _ (ws : List ℕ) where
  -- A look at the form tells what a row of 01's table says.
  pub looked_why : WhyLooked ws (form_told (book_form_of ws))
  looked_why = go (why-is ws)
    where
      -- By what the words are.
      go : {f : BookForm} → WhyForm ws f → WhyLooked ws (form_told f)
      go (shorter r l) = look_no_book book_size (ap form_told r) (shorter refl l)
      go (longer r l) = look_no_book book_size (ap form_told r) (longer refl l)
      go (formless r l m n) = look_no_book not_in_form (ap form_told r) (formless refl l m n)
      go (book b r i) = look_book b (ap form_told r) i

  -- It tells by no other row: what has one is what it tells.
  pub looked_only : (x : Answer × Option Places) → WhyLooked ws x → form_told (book_form_of ws) ≡ x
  looked_only x (look_no_book n e w) = ap form_told (why-only ws (Refused n) w) ∙ sym e
  looked_only x (look_book b e i) = ap form_told (why-only ws (InForm (places_of b)) (book b refl i)) ∙ sym e

-- ---- opening

module _ (ws : List ℕ) (k : ℕ) where
  -- A slice that is too short is refused by 4.
  opens-short : length ws < head_words → open_of ws k ≡ leave ws book_size
  opens-short h = open_unsized ws k (answered book_size) refl (too_short ws h)

  -- So is one that is too long.
  opens-long : most_book_words < length ws → open_of ws k ≡ leave ws book_size
  opens-long h = open_unsized ws k (answered book_size) refl (too_long ws h)

  module _ (l : head_words ≤ length ws) (s : length ws ≤ most_book_words) where
    -- In any other a k that is too low is refused by 3.
    opens-below : k < least_k → open_of ws k ≡ leave ws k_outside
    opens-below h = no_depth ws k (answered k_outside) refl (is-sized ws l s) (fails_left _ _ (lt-leb least_k k h))

    -- So is one that is too high.
    opens-above : greatest_k < k → open_of ws k ≡ leave ws k_outside
    opens-above h = no_depth ws k (answered k_outside) refl (is-sized ws l s) (fails_right _ _ (lt-leb k greatest_k h))

    -- At any other k the book of no orders is written.
    opens-empty : least_k ≤ k → k ≤ greatest_k → open_of ws k ≡ write_book ws (empty_book k)
    unfolding book_of
    opens-empty a z = opening ws k l s a z

  -- Opening answers by a row of 01's table.
  pub opened-why : WhyOpened ws k (open_of ws k)
  opened-why = by_size (dec_lt (length ws) head_words) (dec_lt most_book_words (length ws))
    where
      -- In a slice of a size for a book, by whether k is too low or too high.
      by_depth : head_words ≤ length ws → length ws ≤ most_book_words → Dec (k < least_k) → Dec (greatest_k < k) → WhyOpened ws k (open_of ws k)
      by_depth l s (yes h) d = k_below (opens-below l s h) l s h
      by_depth l s (no h) (yes g) = k_above (opens-above l s g) l s g
      by_depth l s (no h) (no g) = opened (opens-empty l s (omega arith) (omega arith)) l s (omega arith) (omega arith)

      -- By the size of the slice.
      by_size : Dec (length ws < head_words) → Dec (most_book_words < length ws) → WhyOpened ws k (open_of ws k)
      by_size (yes h) d = slice_short (opens-short h) h
      by_size (no h) (yes g) = slice_long (opens-long g) g
      by_size (no h) (no g) = by_depth (omega arith) (omega arith) (dec_lt k least_k) (dec_lt greatest_k k)

  -- Opening answers by no other row: what has one is what it does.
  pub opened-only : (o : Outcome) → WhyOpened ws k o → open_of ws k ≡ o
  opened-only o (slice_short e h) = opens-short h ∙ sym e
  opened-only o (slice_long e h) = opens-long h ∙ sym e
  opened-only o (k_below e l s h) = opens-below l s h ∙ sym e
  opened-only o (k_above e l s h) = opens-above l s h ∙ sym e
  opened-only o (opened e l s a z) = opens-empty l s a z ∙ sym e

-- ---- writing a form

module _ (os out : List ℕ) where
  -- Words with a cause of 1 or 2 are refused by it.
  prints_none : (n : ℕ) → Cause os n → (n ≡ done → ⊥) → write_of os out ≡ refuse n out
  unfolding write_of
  prints_none n c x = cause_refuses os n c x (λ m. refuse m out) _

  -- Of an order the text is written, if there is room.
  prints_text : (t : Tree) → IsOrder os t → write_of os out ≡ write (text_of t) out
  prints_text t q = order-write os t out (order-read os t q)

  -- Writing a form answers by a row of 01's table.
  pub printed-why : WhyPrinted os out (write_of os out)
  printed-why = go (seen os)
    where
      -- Of an order, by whether the output has room.
      by_room : (t : Tree) → IsOrder os t → Dec (length out < length (text_of t)) → WhyPrinted os out (write_of os out)
      by_room t q (yes h) = print_short t (prints_text t q ∙ write-refuses (text_of t) out h) q h
      by_room t q (no h) = let l : length (text_of t) ≤ length out = omega arith in printed t (prints_text t q ∙ write-writes (text_of t) out l) q l

      -- By whether the words are an order.
      go : Seen os → WhyPrinted os out (write_of os out)
      go (stopped h r) = print_no_order (cause_of os) (prints_none (cause_of os) (cause_is os) h) (cause_is os) h
      go (passed t h p) = by_room t (passed-order os t p) (dec_lt (length out) (length (text_of t)))

  -- It answers by no other row: what has one is what it does.
  pub printed-only : (w : Writing) → WhyPrinted os out w → write_of os out ≡ w
  printed-only w (print_no_order n e c x) = prints_none n c x ∙ sym e
  printed-only w (print_short t e q h) = prints_text t q ∙ write-refuses (text_of t) out h ∙ sym e
  printed-only w (printed t e q l) = prints_text t q ∙ write-writes (text_of t) out l ∙ sym e

-- ---- reading a form

-- Of the text of an order the order's words are written, if there is room.
reads_words : (text out : List ℕ) (t : Tree) → text ≡ text_of t → IsOrder (words t) t → read_of text out ≡ write (words t) out
reads_words text out t x q =
    let f = order-text (words t) t (order-read (words t) t q) in
    form-write text (lines_of t 0) out (ap form_of x ∙ f.0) ∙ ap (λ (v : List ℕ). write v out) f.1

-- The order whose text a text is.
record TextOf (text : List ℕ) : Type 0 where
  tree : Tree
  spelt : text ≡ text_of tree
  is_order : IsOrder (words tree) tree

-- A text that is a form is the text of an order.
form_is : (text : List ℕ) (xs : List Line) → form_of text ≡ form xs → TextOf text
form_is text xs e =
    let f = form-order text xs e in
    let q : IsOrder (words_of_lines xs) f.0 = read-order (words_of_lines xs) f.0 f.1 in
    record { tree = f.0; spelt = sym f.3; is_order = subst (λ (v : List ℕ). IsOrder v f.0) q.spelt q }

-- Reading a form answers by a row of 01's table.
pub read-why : (text out : List ℕ) → WhyRead text out (read_of text out)
read-why [] out = no_bytes (none_read out) refl
read-why (b ∷ bs) out = go (form_of (b ∷ bs)) refl
  where
    -- Of the text of an order, by whether the output has room.
    by_room : (f : TextOf (b ∷ bs)) → Dec (length out < length (words f.tree)) → WhyRead (b ∷ bs) out (read_of (b ∷ bs) out)
    by_room f (yes h) =
        read_short f.tree (reads_words (b ∷ bs) out f.tree f.spelt f.is_order ∙ write-refuses (words f.tree) out h) f.spelt f.is_order h
    by_room f (no h) =
        let l : length (words f.tree) ≤ length out = omega arith in
        read f.tree (reads_words (b ∷ bs) out f.tree f.spelt f.is_order ∙ write-writes (words f.tree) out l) f.spelt f.is_order l

    -- By what the text is.
    go : (f : Form) → form_of (b ∷ bs) ≡ f → WhyRead (b ∷ bs) out (read_of (b ∷ bs) out)
    go (fault n line) e = let o : 0 < length (b ∷ bs) = omega arith in at_fault n line (fault-write (b ∷ bs) out e) o (first-fault (b ∷ bs) n line o e)
    go (form xs) e = let f = form_is (b ∷ bs) xs e in by_room f (dec_lt (length out) (length (words f.tree)))

-- It answers by no other row: what has one is what it does.
pub read_only : (text out : List ℕ) (w : Writing) → WhyRead text out w → read_of text out ≡ w
read_only text out w (no_bytes e z) = ap (λ (s : List ℕ). read_of s out) z ∙ none_read out ∙ sym e
read_only text out w (at_fault n line e o f) = fault-write text out (fault-first text n line f) ∙ sym e
read_only text out w (read_short t e x q h) = reads_words text out t x q ∙ write-refuses (words t) out h ∙ sym e
read_only text out w (read t e x q l) = reads_words text out t x q ∙ write-writes (words t) out l ∙ sym e
