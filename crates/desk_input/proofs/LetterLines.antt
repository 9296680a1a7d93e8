-- Letter lines among bytes, byte by byte: at the front, and behind other bytes, where whether a line starts at the first of them is told by a test. The
-- tests are inner, and no promise rests on them: they are shown to say what `StartsLine` and `Plain` say. Assumes nothing.
use Rattle.std.specs.Prelude.{None, Option, Some}
use Prim.Native.Nat.{ℕ}
use mathlib.Core.Path.{◌≡◌, refl, ap, sym, subst, ◌∙◌}
use mathlib.Core.Bool.{Bool, true, false}
use mathlib.Core.List.{List, [], ◌∷◌, ◌++◌}
use lib.Dec.{eqb}
use borrow.Author.Tests.{eqb-true}
use Rattle.words.specs.Base.{when◌then◌else◌}
use Rattle.words.proofs.Tests.{no_test, never}
use Rattle.form.specs.Text.{line_feed}
use Rattle.desk_input.specs.Sheets.{letter_byte, letter_of}
use Rattle.desk_input.specs.Places.{letter_at}
use Rattle.desk_input.specs.Joined.{StartsLine, nothing_before, behind_feed, Plain}
use Rattle.desk_input.specs.Whys.{LetterFirst}
use Rattle.desk_input.specs.declared.Letter.{Letter}
use Rattle.desk_input.specs.declared.Letter.TheVariants.{Teach, Withdraw, Judge}

-- ---- letters

-- A byte that asks for something is that letter's.
asks-letter : (b : ℕ) (x : Letter) → letter_of b ≡ Some x → b ≡ letter_byte x
unfolding letter_of when◌then◌else◌
asks-letter b x e = go (eqb b (letter_byte Teach)) refl (eqb b (letter_byte Withdraw)) refl (eqb b (letter_byte Judge)) refl e
  where
    -- By which of the three it is.
    go : (t : Bool) → eqb b (letter_byte Teach) ≡ t → (w : Bool) → eqb b (letter_byte Withdraw) ≡ w → (j : Bool) → eqb b (letter_byte Judge) ≡ j
        → (when t then Some Teach else when w then Some Withdraw else when j then Some Judge else None) ≡ Some x → b ≡ letter_byte x
    go true p w q j r f = let z : Teach ≡ x = cc in eqb-true b _ p ∙ ap letter_byte z
    go false p true q j r f = let z : Withdraw ≡ x = cc in eqb-true b _ q ∙ ap letter_byte z
    go false p false q true r f = let z : Judge ≡ x = cc in eqb-true b _ r ∙ ap letter_byte z
    go false p false q false r f = never cc

-- Bytes that begin with a letter line begin with that letter and LF.
pub letter-front : (b e : ℕ) (rest : List ℕ) (x : Letter) → letter_at (b ∷ e ∷ rest) ≡ Some x → b ∷ e ∷ rest ≡ letter_byte x ∷ line_feed ∷ rest
unfolding letter_at when◌then◌else◌
letter-front b e rest x a = go (eqb e line_feed) refl a
  where
    -- By whether the second byte is LF.
    go : (t : Bool) → eqb e line_feed ≡ t → (when t then letter_of b else None) ≡ Some x → b ∷ e ∷ rest ≡ letter_byte x ∷ line_feed ∷ rest
    go true p f = rw (asks-letter b x f, eqb-true e line_feed p)
    go false p f = never cc

-- A letter and LF are a letter line, whatever follows.
pub letter-there : (x : Letter) (rest : List ℕ) → letter_at (letter_byte x ∷ line_feed ∷ rest) ≡ Some x
unfolding letter_at letter_of when◌then◌else◌
letter-there Teach rest = refl
letter-there Withdraw rest = refl
letter-there Judge rest = refl

-- ---- letter lines at the front

-- Bytes that begin with a letter line are spelt so.
pub letter-is : (bs : List ℕ) (x : Letter) → letter_at bs ≡ Some x → LetterFirst bs
letter-is [] x e = unfold letter_at in never cc
letter-is (b ∷ []) x e = unfold letter_at in never cc
letter-is (b ∷ f ∷ rest) x e = record { letter = x; behind = rest; spelt = letter-front b f rest x e }

-- Bytes that are spelt as a letter line at their front begin with one.
pub letter-only : (bs : List ℕ) (f : LetterFirst bs) → letter_at bs ≡ Some f.letter
letter-only bs f = ap letter_at f.spelt ∙ letter-there f.letter f.behind

-- Bytes that begin with another line are not spelt so.
pub not_letter : (bs : List ℕ) → letter_at bs ≡ None → LetterFirst bs → ⊥
not_letter bs e f = let y = letter-only bs f in never cc

-- Bytes that begin with none ask for nothing there.
pub letter-none : (bs : List ℕ) → (LetterFirst bs → ⊥) → letter_at bs ≡ None
letter-none bs n = go (letter_at bs) refl
  where
    -- By what the bytes begin with.
    go : (k : Option Letter) → letter_at bs ≡ k → k ≡ None
    go (Some x) e = absurd (n (letter-is bs x e))
    go None e = refl

-- ---- where a line starts

-- Whether a line starts behind the bytes; whether one starts at the first of them is told.
unfoldable pub line_behind : Bool → List ℕ → Bool
line_behind starts [] = starts
line_behind starts (b ∷ bs) = line_behind (eqb b line_feed) bs

-- Behind LF a line starts.
feed_behind : (starts : Bool) (front : List ℕ) → line_behind starts (front ++ (line_feed ∷ [])) ≡ true
unfolding line_behind
feed_behind starts [] = refl
feed_behind starts (b ∷ front) = feed_behind (eqb b line_feed) front

-- The test tells each start of a line.
pub start-told : (bs : List ℕ) → StartsLine bs → line_behind true bs ≡ true
unfolding line_behind
start-told bs (nothing_before e) = ap (line_behind true) e
start-told bs (behind_feed front e) = ap (line_behind true) e ∙ feed_behind true front

-- Bytes behind which the test tells a start end in LF.
told-feed : (b : ℕ) (bs : List ℕ) → line_behind (eqb b line_feed) bs ≡ true → StartsLine (b ∷ bs)
unfolding line_behind
told-feed b [] e = behind_feed [] (ap (λ (x : ℕ). x ∷ []) (eqb-true b line_feed e))
told-feed b (c ∷ bs) e = go (told-feed c bs e)
  where
    -- By how the later bytes end.
    go : StartsLine (c ∷ bs) → StartsLine (b ∷ c ∷ bs)
    go (nothing_before z) = never cc
    go (behind_feed front z) = behind_feed (b ∷ front) (ap (λ (r : List ℕ). b ∷ r) z)

-- The test tells nothing else.
pub told-start : (bs : List ℕ) → line_behind true bs ≡ true → StartsLine bs
unfolding line_behind
told-start [] e = nothing_before refl
told-start (b ∷ bs) e = told-feed b bs e

-- Behind LF the later bytes tell.
told-behind : (starts : Bool) (front : List ℕ) (b : ℕ) (bs : List ℕ) → line_behind starts (front ++ (b ∷ line_feed ∷ bs)) ≡ line_behind true bs
unfolding line_behind
told-behind starts [] b bs = refl
told-behind starts (c ∷ front) b bs = told-behind (eqb c line_feed) front b bs

-- A line that starts behind LF and later bytes starts behind these;
pub start-later : (front : List ℕ) (b : ℕ) (bs : List ℕ) → StartsLine (front ++ (b ∷ line_feed ∷ bs)) → StartsLine bs
start-later front b bs s = told-start bs (sym (told-behind true front b bs) ∙ start-told (front ++ (b ∷ line_feed ∷ bs)) s)

-- and one that starts behind bytes starts behind LF and these.
pub start-earlier : (front : List ℕ) (b : ℕ) (bs : List ℕ) → StartsLine bs → StartsLine (front ++ (b ∷ line_feed ∷ bs))
start-earlier front b bs s = told-start (front ++ (b ∷ line_feed ∷ bs)) (told-behind true front b bs ∙ start-told bs s)

-- ---- letter lines behind other bytes

-- A letter line stands among the bytes; whether a line starts at the first of them is told.
pub record LetterFrom (starts : Bool) (bytes : List ℕ) : Type 0 where
  pub front : List ℕ
  pub letter : Letter
  pub rest : List ℕ
  pub told : line_behind starts front ≡ true
  pub is : bytes ≡ front ++ (letter_byte letter ∷ line_feed ∷ rest)

-- None stands among them.
abbrev pub PlainFrom : Bool → List ℕ → Type 0
PlainFrom starts bs = LetterFrom starts bs → ⊥

-- Where a line starts at the first byte, bytes with no letter line have none by the tests;
pub plain_told : (bs : List ℕ) → Plain bs → PlainFrom true bs
plain_told bs p l = p (record { front = l.front; letter = l.letter; rest = l.rest; starts = told-start l.front l.told; is = l.is })

-- and bytes with none by the tests have none.
pub told-plain : (bs : List ℕ) → PlainFrom true bs → Plain bs
told-plain bs p l = p (record { front = l.front; letter = l.letter; rest = l.rest; told = start-told l.front l.starts; is = l.is })

-- Among no bytes there is none.
pub plain_none : (starts : Bool) → PlainFrom starts []
plain_none starts l = go l.front l.is
  where
    -- By the bytes before the letter line.
    go : (front : List ℕ) → [] ≡ front ++ (letter_byte l.letter ∷ line_feed ∷ l.rest) → ⊥
    go [] e = never cc
    go (b ∷ front) e = never cc

-- A letter line behind a byte is one from that byte on.
letter-later : (starts : Bool) (b : ℕ) (bs : List ℕ) → LetterFrom (eqb b line_feed) bs → LetterFrom starts (b ∷ bs)
unfolding line_behind
letter-later starts b bs l =
    record { front = b ∷ l.front; letter = l.letter; rest = l.rest; told = l.told; is = ap (λ (r : List ℕ). b ∷ r) l.is }

-- A letter line from a byte on is behind that byte, if none is at it where a line starts.
letter-split : (starts : Bool) (b : ℕ) (bs : List ℕ) → (starts ≡ true → LetterFirst (b ∷ bs) → ⊥) → LetterFrom starts (b ∷ bs) → LetterFrom (eqb b line_feed) bs
unfolding line_behind
letter-split starts b bs n l = go l.front l.told l.is
  where
    -- By the bytes before the letter line.
    go : (front : List ℕ) → line_behind starts front ≡ true → b ∷ bs ≡ front ++ (letter_byte l.letter ∷ line_feed ∷ l.rest) → LetterFrom (eqb b line_feed) bs
    go [] t e = absurd (n t (record { letter = l.letter; behind = l.rest; spelt = e }))
    go (c ∷ front) t e =
        let p : c ≡ b = cc in
        let q : bs ≡ front ++ (letter_byte l.letter ∷ line_feed ∷ l.rest) = cc in
        record { front = front; letter = l.letter; rest = l.rest; told = subst (λ (x : ℕ). line_behind (eqb x line_feed) front ≡ true) p t; is = q }

-- Behind a byte there is none if there is none from it on.
pub plain_on : (starts : Bool) (b : ℕ) (bs : List ℕ) → PlainFrom starts (b ∷ bs) → PlainFrom (eqb b line_feed) bs
plain_on starts b bs p l = p (letter-later starts b bs l)

-- Within a line a byte more starts none.
pub plain_inside : (b : ℕ) (bs : List ℕ) → PlainFrom (eqb b line_feed) bs → PlainFrom false (b ∷ bs)
plain_inside b bs p l = p (letter-split false b bs (λ t f. no_test t) l)

-- At a line's start it starts none, if the bytes begin with none.
pub plain_start : (b : ℕ) (bs : List ℕ) → letter_at (b ∷ bs) ≡ None → PlainFrom (eqb b line_feed) bs → PlainFrom true (b ∷ bs)
plain_start b bs e p l = p (letter-split true b bs (λ t f. not_letter (b ∷ bs) e f) l)

-- Bytes with none, from a line's start on, begin with none.
pub plain_first : (bs : List ℕ) → PlainFrom true bs → letter_at bs ≡ None
unfolding line_behind
plain_first bs p = letter-none bs (λ f. p (record { front = []; letter = f.letter; rest = f.behind; told = refl; is = f.spelt }))
