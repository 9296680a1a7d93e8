-- What stands at a place of the input, by the tests that the code makes of its bytes. Assumes nothing.
use Rattle.std.specs.Prelude.{Option, None, Some, Err, Ok}
use Rattle.std.specs.Option.{is_some}
use Rattle.std.specs.Char.{IsNotAsciiDigit}
use mathlib.Core.Logic.{⊎_elim}
use Prim.Native.Nat.{ℕ, suc, ◌+◌, ◌≤◌, ◌<◌}
use mathlib.Core.Path.{◌≡◌, refl, ap, sym, ◌∙◌}
use mathlib.Core.Bool.{Bool, true, false}
use mathlib.Core.List.{List, [], ◌∷◌}
use native.Mathlib.Numerals.{add-one}
use native.Mathlib.Omega.{arith}
use lib.Dec.{eqb}
use native.Mathlib.Decide.{dec_le}
use lib.ListN.{length, get_or, drop, length-drop, drop_of_length-le}
use lib.Seq.{drop-cons}
use borrow.Author.Tests.{eq-eqb, ne_eqb, lt-ltb, le-ltb, le-leb, lt-leb}
use Rattle.words.specs.Base.{◌and◌, when◌then◌else◌, within}
use Rattle.words.proofs.Tests.{fails_left, fails_right, never}
use Rattle.figures.specs.Limits.{least_k, greatest_k, most_input}
use Rattle.figures.specs.Numbers.{too_large, k_outside, no_form}
use Rattle.figures.specs.Answers.{answered, depth_of}
use Rattle.figures.specs.declared.depths.Depth.{Depth}
use Rattle.form.specs.Text.{digit_0, digit_9, space, line_feed}
use Rattle.form.specs.Reading.{is_digit, figure}
use Rattle.desk_input.specs.Sheets.{letter_K, letter_byte, letter_of, FirstLine, otherwise, asks, first_line, FormCall, handed_by, by_first, handed_in, opening_by, opening_of, sheet_of}
use Rattle.desk_input.specs.Places.{letter_at, size_to, depth_by, depth_on}
use Rattle.desk_input.specs.declared.Letter.{Letter}
use Rattle.desk_input.specs.declared.Letter.TheVariants.{Teach, Withdraw, Judge}
use Rattle.desk_input.proofs.Splitting.{letter-sheet, other_before, empty-sheet, size-on, size-other, size-letter}

-- ---- letters

-- The byte of a letter asks for what the letter does.
pub letter-asks : (x : Letter) (b : ℕ) → b ≡ letter_byte x → letter_of b ≡ Some x
unfolding letter_of when◌then◌else◌
letter-asks Teach b e = rw e
letter-asks Withdraw b e = rw e
letter-asks Judge b e = rw e

-- Any other byte asks for nothing.
pub other_asks : (b : ℕ) → (b ≡ letter_byte Teach → ⊥) → (b ≡ letter_byte Withdraw → ⊥) → (b ≡ letter_byte Judge → ⊥) → letter_of b ≡ None
unfolding letter_of when◌then◌else◌
other_asks b t w j = rw (ne_eqb b 84 t, ne_eqb b 87 w, ne_eqb b 74 j)

-- Fewer than two bytes are no letter line.
pub too_short : (bs : List ℕ) → length bs < 2 → letter_at bs ≡ None
unfolding letter_at
too_short [] h = refl
too_short (b ∷ []) h = refl
too_short (b ∷ e ∷ bs) h = absurd (omega arith)

-- Two bytes decide, and LF has to be the second.
pub second-other : (bs : List ℕ) → 2 ≤ length bs → (get_or bs 1 0 ≡ line_feed → ⊥) → letter_at bs ≡ None
unfolding letter_at when◌then◌else◌
second-other [] h n = refl
second-other (b ∷ []) h n = refl
second-other (b ∷ e ∷ bs) h n = rw (ne_eqb e line_feed n)

-- Before LF the first decides.
pub second-feed : (bs : List ℕ) → 2 ≤ length bs → get_or bs 1 0 ≡ line_feed → letter_at bs ≡ letter_of (get_or bs 0 0)
unfolding letter_at when◌then◌else◌
second-feed [] h e = absurd (omega arith)
second-feed (b ∷ []) h e = absurd (omega arith)
second-feed (b ∷ f ∷ bs) h e = rw (eq-eqb f line_feed e)

-- A letter line that is there has a letter.
pub there : (o : Option Letter) → is_some o ≡ true → (x : Letter) × (o ≡ Some x)
there (Some x) e = (x, refl)
there None e = never cc

-- One that is not there has none.
pub not-there : (o : Option Letter) → is_some o ≡ false → o ≡ None
not-there (Some x) e = never cc
not-there None e = refl

module _ (text : List ℕ) (p : ℕ) where
  -- ---- forms

  -- No bytes are left to count at the end.
  pub size-end : (starts : Bool) → length text ≤ p → size_to starts (drop p text) ≡ 0
  unfolding size_to
  size-end starts h = rw (drop_of_length-le text h)

  -- Inside a line one byte is passed.
  pub pass_inside : (starts : Bool) → starts ≡ false → p < length text
      → p + size_to starts (drop p text) ≡ p + 1 + size_to (eqb (get_or text p 0) line_feed) (drop (p + 1) text)
  pass_inside starts s h = rw (s, drop-cons text p 0 h, add-one, size-on (get_or text p 0) (drop (suc p) text)) (omega arith)

  -- So it is at the start of a line that is no letter line.
  pub pass_other : (starts : Bool) → starts ≡ true → p < length text → is_some (letter_at (drop p text)) ≡ false
      → p + size_to starts (drop p text) ≡ p + 1 + size_to (eqb (get_or text p 0) line_feed) (drop (p + 1) text)
  pass_other starts s h e =
      let f : letter_at (get_or text p 0 ∷ drop (suc p) text) ≡ None = ap letter_at (sym (drop-cons text p 0 h)) ∙ not-there _ e in
      rw (s, drop-cons text p 0 h, add-one, size-other (get_or text p 0) (drop (suc p) text) f) (omega arith)

  -- At a letter line the count ends.
  pub stops : (starts : Bool) → starts ≡ true → is_some (letter_at (drop p text)) ≡ true → p + size_to starts (drop p text) ≡ p
  stops starts s e = let x = there (letter_at (drop p text)) e in rw (s, size-letter (drop p text) x.0 x.1) (omega arith)

-- ---- line 1

-- The tests of line 1, of its four bytes.
abbrev pub is_first : ℕ → ℕ → ℕ → ℕ → Bool
is_first a b c d = eqb a letter_K and eqb b space and is_digit c and eqb d line_feed and within least_k greatest_k (figure c)

-- Fewer bytes than line 1 takes have no k.
pub short-first : (input : List ℕ) → length input < 4 → depth_on input ≡ None
unfolding depth_on first_line
short-first [] h = refl
short-first (a ∷ []) h = refl
short-first (a ∷ b ∷ []) h = refl
short-first (a ∷ b ∷ c ∷ []) h = refl
short-first (a ∷ b ∷ c ∷ d ∷ rest) h = absurd (omega arith)

-- The first line of four bytes or more is told by them.
first-tests : (input : List ℕ) → 4 ≤ length input
    → first_line input
    ≡ (when is_first (get_or input 0 0) (get_or input 1 0) (get_or input 2 0) (get_or input 3 0) then asks (figure (get_or input 2 0)) (drop 4 input) else otherwise)
unfolding first_line
first-tests [] h = absurd (omega arith)
first-tests (a ∷ []) h = absurd (omega arith)
first-tests (a ∷ b ∷ []) h = absurd (omega arith)
first-tests (a ∷ b ∷ c ∷ []) h = absurd (omega arith)
first-tests (a ∷ b ∷ c ∷ d ∷ rest) h = refl

-- The k of a line whose last test is left is picked by it.
k-picked : (t : Bool) (k : ℕ) (rest : List ℕ) → depth_by (when t then asks k rest else otherwise) ≡ (when t then Some (record { k = k }) else None)
unfolding when◌then◌else◌
k-picked true k rest = refl
k-picked false k rest = refl

module _ (input : List ℕ) (h : 4 ≤ length input) where
  -- A test that fails leaves no k.
  no_first : is_first (get_or input 0 0) (get_or input 1 0) (get_or input 2 0) (get_or input 3 0) ≡ false → depth_on input ≡ None
  unfolding depth_on when◌then◌else◌
  no_first e = rw (first-tests input h, e)

  -- Another first byte than K leaves no k.
  pub no_K : (get_or input 0 0 ≡ letter_K → ⊥) → depth_on input ≡ None
  no_K n = no_first (fails_left _ _ (ne_eqb _ _ n))

  -- Another second byte than a space leaves no k.
  pub no_space : (get_or input 1 0 ≡ space → ⊥) → depth_on input ≡ None
  no_space n = no_first (fails_right _ _ (fails_left _ _ (ne_eqb _ _ n)))

  -- A third byte that is no digit leaves no k.
  pub no_digit : IsNotAsciiDigit (get_or input 2 0) → depth_on input ≡ None
  unfolding is_digit
  no_digit o = no_first (fails_right _ _ (fails_right _ _ (fails_left _ _ (outside o))))
    where
      -- Below 0 the first test of a digit fails, and above 9 the second.
      outside : IsNotAsciiDigit (get_or input 2 0) → is_digit (get_or input 2 0) ≡ false
      outside o = ⊎_elim (λ l. fails_left _ _ (lt-leb _ _ l)) (λ l. fails_right _ _ (lt-leb _ _ l)) o

  -- Another fourth byte than LF leaves no k.
  pub no_feed : (get_or input 3 0 ≡ line_feed → ⊥) → depth_on input ≡ None
  no_feed n = no_first (fails_right _ _ (fails_right _ _ (fails_right _ _ (fails_left _ _ (ne_eqb _ _ n)))))

  -- A first line that is spelt so has the k of its digit, if that is 2 to 6.
  pub a-digit : get_or input 0 0 ≡ letter_K → get_or input 1 0 ≡ space → digit_0 ≤ get_or input 2 0 → get_or input 2 0 ≤ digit_9 → get_or input 3 0 ≡ line_feed
      → depth_on input ≡ depth_of (figure (get_or input 2 0))
  unfolding depth_on depth_of is_digit ◌and◌ when◌then◌else◌
  a-digit k s l m f =
      rw (first-tests input h, eq-eqb _ _ k, eq-eqb _ _ s, le-leb digit_0 (get_or input 2 0) l, le-leb (get_or input 2 0) digit_9 m, eq-eqb _ _ f)
      (k-picked (within least_k greatest_k (figure (get_or input 2 0))) (figure (get_or input 2 0)) (drop 4 input))

-- ---- the front

-- A first line with a k has four bytes, and what follows stands behind them.
pub record Begins (input : List ℕ) (k : ℕ) : Type 0 where
  pub enough : 4 ≤ length input
  pub first : first_line input ≡ asks k (drop 4 input)

-- A k that is allowed is the one that was asked for.
allowed-k : (k : ℕ) (d : Depth) → Some (record { k = k }) ≡ Some d → k ≡ d.k
allowed-k k d e = let z : record { k = k } ≡ d = cc in ap (λ (x : Depth). x.k) z

-- An input whose line 1 has a k begins so.
pub begins : (input : List ℕ) (d : Depth) → depth_on input ≡ Some d → Begins input d.k
unfolding depth_on when◌then◌else◌
begins input d e = go (dec_le 4 (length input))
  where
    -- By the tests of four bytes.
    tested : 4 ≤ length input → (t : Bool)
        → first_line input ≡ (when t then asks (figure (get_or input 2 0)) (drop 4 input) else otherwise) → Begins input d.k
    tested h true q = record { enough = h; first = q ∙ ap (λ (k : ℕ). asks k (drop 4 input)) (allowed-k _ d (ap depth_by (sym q) ∙ e)) }
    tested h false q = absurd (let o : depth_by otherwise ≡ Some d = ap depth_by (sym q) ∙ e in never cc)

    -- By whether there are four.
    go : Dec (4 ≤ length input) → Begins input d.k
    go (yes h) = tested h (is_first (get_or input 0 0) (get_or input 1 0) (get_or input 2 0) (get_or input 3 0)) (first-tests input h)
    go (no n) = let o = short-first input (omega arith) in never cc

-- A first line with no k is otherwise.
no_k : (f : FirstLine) → depth_by f ≡ None → f ≡ otherwise
no_k otherwise e = refl
no_k (asks k rest) e = never cc

-- Bytes before the first letter are a fault.
some-before : (k : ℕ) (bs : List ℕ) (calls : List FormCall) → 0 < length bs → opening_by (handed_by k bs calls) ≡ Err (record { number = no_form; line = 2 })
unfolding handed_by
some-before k [] calls h = absurd (omega arith)
some-before k (b ∷ bs) calls h = refl

module _ (input : List ℕ) where
  -- More bytes than are allowed are the first fault.
  pub front-large : most_input < length input → opening_of input ≡ Err (answered too_large)
  unfolding opening_of handed_in when◌then◌else◌
  front-large h = rw (lt-ltb most_input (length input) h)

  module _ (h : length input ≤ most_input) where
    -- Otherwise line 1 decides.
    by_first_lem : opening_of input ≡ opening_by (by_first (first_line input))
    unfolding opening_of handed_in when◌then◌else◌
    by_first_lem = rw (le-ltb most_input (length input) h)

    -- A first line with no k is the second fault.
    pub front-outside : depth_on input ≡ None → opening_of input ≡ Err (answered k_outside)
    unfolding depth_on by_first
    front-outside e = by_first_lem ∙ ap (λ (f : FirstLine). opening_by (by_first f)) (no_k (first_line input) e)

    -- Behind it the bytes before the first letter decide.
    behind-first : (d : Depth) → depth_on input ≡ Some d
        → opening_of input ≡ opening_by (handed_by d.k (sheet_of (drop 4 input)).before (sheet_of (drop 4 input)).calls)
    unfolding by_first
    behind-first d e = by_first_lem ∙ rw (begins input d e).first

    -- Nothing behind line 1 opens a book.
    pub front-alone : (d : Depth) → depth_on input ≡ Some d → length input ≡ 4 → opening_of input ≡ Ok d.k
    unfolding handed_by
    front-alone d e l =
        let z : length input ≤ 4 = omega arith in
        behind-first d e ∙ rw (drop_of_length-le input z, empty-sheet)

    -- So does a letter line behind it.
    pub front-letter : (d : Depth) (x : Letter) → depth_on input ≡ Some d → letter_at (drop 4 input) ≡ Some x → opening_of input ≡ Ok d.k
    unfolding handed_by
    front-letter d x e a = behind-first d e ∙ rw (letter-sheet (drop 4 input) x a)

    -- Other bytes behind it are the third fault.
    pub front-other : (d : Depth) → depth_on input ≡ Some d → (length input ≡ 4 → ⊥) → letter_at (drop 4 input) ≡ None
        → opening_of input ≡ Err (record { number = no_form; line = 2 })
    front-other d e n a =
        behind-first d e
        ∙ some-before d.k _ _ (other_before (drop 4 input) (omega (arith, length-drop 4 input, (begins input d e).enough)) a)
