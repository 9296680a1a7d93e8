-- Bytes have one sheet: what they are split into gives them again, no letter line is inside a form, and nothing else is so; and where its calls begin.
-- Assumes nothing.
use Rattle.std.specs.Prelude.{None, Option, Some}
use Prim.Native.Nat.{ℕ, zero, suc}
use mathlib.Core.Path.{◌≡◌, refl, ap, sym, subst, ◌∙◌}
use mathlib.Core.Bool.{Bool, true, false}
use mathlib.Core.List.Memᴰ
use mathlib.Core.List.Memᴰ.{head as here}
use mathlib.Core.List.Memᴰ.{tail as there}
use mathlib.Core.List.{List, [], ◌∷◌, ◌++◌, append-nil, append_assoc}
use lib.Dec.{eqb}
use lib.ListN.{take}
use Rattle.words.specs.Base.{◌∈◌, when◌then◌else◌}
use Rattle.words.proofs.Tests.{no_test}
use Rattle.form.specs.Text.{line_feed}
use Rattle.desk_input.specs.Sheets.{letter_byte, letter_of, input_lines, FormCall, Sheet, sheet_of}
use Rattle.desk_input.specs.Places.{letter_at, size_to}
use Rattle.desk_input.specs.Joined.{joined_calls, sheet_bytes, StartsLine, Plain, Parts, last_part, part, IsSheet}
use Rattle.desk_input.specs.declared.Letter.{Letter}
use Rattle.desk_input.proofs.Splitting.{feed_asks-nothing, sheet_from, with_front, empty-sheet, byte_on, byte_other, letter-sheet, front}
use Rattle.desk_input.proofs.LetterLines.{letter-front, letter-there, line_behind, start-told, told-start, start-later, start-earlier, PlainFrom, plain_told, told-plain, plain_none, plain_on, plain_inside, plain_start, plain_first}

-- ---- joined

-- One byte in front of a sheet stands in front of what it is split into.
joined-front : (b : ℕ) (s : Sheet) → sheet_bytes (with_front b s) ≡ b ∷ sheet_bytes s
unfolding sheet_bytes
joined-front b s = refl

-- A letter line in front of a sheet stands in front of what it is split into.
joined-letter : (x : Letter) (s : Sheet)
    → sheet_bytes (record { before = []; calls = record { letter = x; text = s.before } ∷ s.calls }) ≡ letter_byte x ∷ line_feed ∷ sheet_bytes s
unfolding sheet_bytes joined_calls
joined-letter x s = refl

-- What no bytes are split into gives none, within a line or at its start.
joined-none : (starts : Bool) → sheet_bytes (sheet_from starts []) ≡ []
unfolding sheet_bytes joined_calls input_lines
joined-none true = rw empty-sheet
joined-none false = refl

-- What bytes are split into gives them, within a line or at its start.
joined-from : (starts : Bool) (bs : List ℕ) → sheet_bytes (sheet_from starts bs) ≡ bs
joined-from starts [] = joined-none starts
joined-from false (b ∷ bs) = ap sheet_bytes (byte_on b bs) ∙ joined-front b _ ∙ ap (λ (r : List ℕ). b ∷ r) (joined-from (eqb b line_feed) bs)
joined-from true (b ∷ []) =
    let e : letter_at (b ∷ []) ≡ None = unfold letter_at in refl in
    ap sheet_bytes (byte_other b [] e) ∙ joined-front b _ ∙ ap (λ (r : List ℕ). b ∷ r) (joined-from (eqb b line_feed) [])
joined-from true (b ∷ e ∷ rest) = go (letter_at (b ∷ e ∷ rest)) refl (joined-from (eqb b line_feed) (e ∷ rest)) (joined-from true rest)
  where
    -- By whether a letter line starts there.
    go : (k : Option Letter) → letter_at (b ∷ e ∷ rest) ≡ k → sheet_bytes (sheet_from (eqb b line_feed) (e ∷ rest)) ≡ e ∷ rest → sheet_bytes (sheet_of rest) ≡ rest
        → sheet_bytes (sheet_of (b ∷ e ∷ rest)) ≡ b ∷ e ∷ rest
    go (Some x) p q r =
        ap sheet_bytes (letter-sheet (b ∷ e ∷ rest) x p) ∙ joined-letter x (sheet_of rest)
        ∙ ap (λ (s : List ℕ). letter_byte x ∷ line_feed ∷ s) r ∙ sym (letter-front b e rest x p)
    go None p q r = ap sheet_bytes (byte_other b (e ∷ rest) p) ∙ joined-front b _ ∙ ap (λ (s : List ℕ). b ∷ s) q

-- What bytes are split into gives them again.
sheet_joined : (bs : List ℕ) → sheet_bytes (sheet_of bs) ≡ bs
sheet_joined bs = joined-from true bs

-- ---- the parts of a sheet

-- Of bytes before calls: a line starts behind them if a call does, and the calls' texts are parts.
abbrev Follow : Bool → List ℕ → List FormCall → Type 0
Follow starts bs [] = Unit {0}
Follow starts bs (c ∷ cs) = (line_behind starts bs ≡ true) × Parts c.text cs

-- Such bytes, with no letter line in them, and the calls are parts.
follow_parts : (bs : List ℕ) (cs : List FormCall) → PlainFrom true bs → Follow true bs cs → Parts bs cs
follow_parts bs [] p f = last_part (told-plain bs p)
follow_parts bs (c ∷ cs) p f = part (told-plain bs p) (told-start bs f.0) f.1

-- A byte more in front changes nothing.
follow_on : (starts : Bool) (b : ℕ) (bs : List ℕ) (cs : List FormCall) → Follow (eqb b line_feed) bs cs → Follow starts (b ∷ bs) cs
unfolding line_behind
follow_on starts b bs [] f = f
follow_on starts b bs (c ∷ cs) f = f

-- What bytes are split into, within a line or at its start: no letter line is inside, and each call starts a line.
record Split (starts : Bool) (s : Sheet) : Type 0 where
  plain : PlainFrom starts s.before
  follow : Follow starts s.before s.calls

-- No bytes are split so.
split-none : (starts : Bool) → Split starts (sheet_from starts [])
unfolding input_lines
split-none true = rw empty-sheet (record { plain = plain_none true; follow = tt })
split-none false = record { plain = plain_none false; follow = tt }

-- A byte more within a line leaves it so.
split-inside : (b : ℕ) (s : Sheet) → Split (eqb b line_feed) s → Split false (with_front b s)
split-inside b s h = record { plain = plain_inside b s.before h.plain; follow = follow_on false b s.before s.calls h.follow }

-- So does a byte more at a line's start, if no letter line starts there.
split-start : (b : ℕ) (s : Sheet) → letter_at (b ∷ s.before) ≡ None → Split (eqb b line_feed) s → Split true (with_front b s)
split-start b s e h = record { plain = plain_start b s.before e h.plain; follow = follow_on true b s.before s.calls h.follow }

-- So does a letter line in front of a sheet.
split-letter : (x : Letter) (s : Sheet) → Split true s → Split true (record { before = []; calls = record { letter = x; text = s.before } ∷ s.calls })
unfolding line_behind
split-letter x s h = record { plain = plain_none true; follow = (refl, follow_parts s.before s.calls h.plain h.follow) }

-- Bytes that begin with no letter line begin with none if they are cut.
cut-other : (n b : ℕ) (bs : List ℕ) → letter_at (b ∷ bs) ≡ None → letter_at (b ∷ take n bs) ≡ None
unfolding letter_at
cut-other zero b bs e = refl
cut-other (suc n) b [] e = refl
cut-other (suc n) b (f ∷ bs) e = e

-- Bytes that begin with no letter line begin with none where the next ends them.
before-other : (b : ℕ) (bs : List ℕ) → letter_at (b ∷ bs) ≡ None → letter_at (b ∷ (sheet_from (eqb b line_feed) bs).before) ≡ None
before-other b bs e = ap (λ (r : List ℕ). letter_at (b ∷ r)) (front (eqb b line_feed) bs) ∙ cut-other (size_to (eqb b line_feed) bs) b bs e

-- All bytes are split so.
split_from : (starts : Bool) (bs : List ℕ) → Split starts (sheet_from starts bs)
split_from starts [] = split-none starts
split_from false (b ∷ bs) = rw (byte_on b bs) (split-inside b _ (split_from (eqb b line_feed) bs))
split_from true (b ∷ []) =
    let e : letter_at (b ∷ []) ≡ None = unfold letter_at in refl in
    rw (byte_other b [] e) (split-start b _ (before-other b [] e) (split_from (eqb b line_feed) []))
split_from true (b ∷ e ∷ rest) = go (letter_at (b ∷ e ∷ rest)) refl (split_from (eqb b line_feed) (e ∷ rest)) (split_from true rest)
  where
    -- By whether a letter line starts there.
    go : (k : Option Letter) → letter_at (b ∷ e ∷ rest) ≡ k → Split (eqb b line_feed) (sheet_from (eqb b line_feed) (e ∷ rest)) → Split true (sheet_of rest)
        → Split true (sheet_of (b ∷ e ∷ rest))
    go (Some x) p q r = rw (letter-sheet (b ∷ e ∷ rest) x p) (split-letter x (sheet_of rest) r)
    go None p q r = rw (byte_other b (e ∷ rest) p) (split-start b _ (before-other b (e ∷ rest) p) q)

-- What bytes are split into is their sheet.
pub sheet_is : (bs : List ℕ) → IsSheet bs (sheet_of bs)
sheet_is bs =
    let h = split_from true bs in
    record { joins = sheet_joined bs; parts = follow_parts (sheet_of bs).before (sheet_of bs).calls h.plain h.follow }

-- No letter line stands among the bytes before the first call.
pub no_letter-before : (bs : List ℕ) → Plain (sheet_of bs).before
no_letter-before bs = told-plain (sheet_of bs).before (split_from true bs).plain

-- No letter line stands among the first of parts.
pub parts_first : (bs : List ℕ) (cs : List FormCall) → Parts bs cs → Plain bs
parts_first bs [] (last_part p) = p
parts_first bs (c ∷ cs) (part p e r) = p

-- No letter line stands among the text of a call.
pub parts-plain : (bs : List ℕ) (cs : List FormCall) → Parts bs cs → (c : FormCall) → c ∈ cs → Plain c.text
parts-plain bs [] p c m = absurd (Memᴰ.not-nil m)
parts-plain bs (d ∷ cs) (part _ _ r) c (here e) = subst (λ (y : FormCall). Plain y.text) (sym e) (parts_first d.text cs r)
parts-plain bs (d ∷ cs) (part _ _ r) c (there m) = parts-plain d.text cs r c m

-- No letter line stands among the text of a call that bytes ask for.
pub no_letter-inside : (bs : List ℕ) (c : FormCall) → c ∈ (sheet_of bs).calls → Plain c.text
no_letter-inside bs = parts-plain (sheet_of bs).before (sheet_of bs).calls (sheet_is bs).parts

-- ---- there is no other

-- A byte that asks for nothing begins no letter line, whatever follows.
asks_nothing : (b : ℕ) (bs : List ℕ) → letter_of b ≡ None → letter_at (b ∷ bs) ≡ None
unfolding letter_at when◌then◌else◌
asks_nothing b [] e = refl
asks_nothing b (f ∷ bs) e = go (eqb f line_feed)
  where
    -- By whether LF follows.
    go : (t : Bool) → (when t then letter_of b else None) ≡ None
    go true = e
    go false = refl

-- Bytes that begin with no letter line, and behind which a line starts, begin with none whatever follows.
other_more : (b : ℕ) (a bs : List ℕ) → letter_at (b ∷ a) ≡ None → line_behind true (b ∷ a) ≡ true → letter_at (b ∷ (a ++ bs)) ≡ None
unfolding line_behind
other_more b [] bs e h = asks_nothing b bs (feed_asks-nothing b h)
other_more b (f ∷ a) bs e h = unfold letter_at in e

-- Nothing stands before what follows a line's end.
none-on : (starts : Bool) (bs : List ℕ) → starts ≡ true → sheet_from starts bs ≡ record { before = (sheet_of bs).before; calls = (sheet_of bs).calls }
none-on true bs e = refl
none-on false bs e = no_test e

-- Bytes with no letter line in them, behind which a line starts, stand before what follows them.
sheet_on : (starts : Bool) (a bs : List ℕ) → PlainFrom starts a → line_behind starts a ≡ true
    → sheet_from starts (a ++ bs) ≡ record { before = a ++ (sheet_of bs).before; calls = (sheet_of bs).calls }
unfolding line_behind
sheet_on starts [] bs p e = none-on starts bs e
sheet_on false (b ∷ a) bs p e = byte_on b (a ++ bs) ∙ ap (with_front b) (sheet_on (eqb b line_feed) a bs (plain_on false b a p) e)
sheet_on true (b ∷ a) bs p e =
    let o : letter_at (b ∷ a) ≡ None = plain_first (b ∷ a) p in
    byte_other b (a ++ bs) (other_more b a bs o e) ∙ ap (with_front b) (sheet_on (eqb b line_feed) a bs (plain_on true b a p) e)

-- No bytes have none before, within a line or at its start.
end_none : (starts : Bool) → sheet_from starts [] ≡ record { before = []; calls = [] }
unfolding input_lines
end_none true = empty-sheet
end_none false = refl

-- Bytes with no letter line in them are all before.
sheet_end : (starts : Bool) (a : List ℕ) → PlainFrom starts a → sheet_from starts a ≡ record { before = a; calls = [] }
sheet_end starts [] p = end_none starts
sheet_end false (b ∷ a) p = rw (byte_on b a, sheet_end (eqb b line_feed) a (plain_on false b a p))
sheet_end true (b ∷ a) p =
    let e : letter_at (b ∷ a) ≡ None = plain_first (b ∷ a) p in
    rw (byte_other b a e, sheet_end (eqb b line_feed) a (plain_on true b a p))

-- Parts are split where they were joined.
parts-split : (a : List ℕ) (cs : List FormCall) → Parts a cs → sheet_of (a ++ joined_calls cs) ≡ record { before = a; calls = cs }
unfolding joined_calls
parts-split a [] (last_part p) = ap sheet_of (append-nil a) ∙ sheet_end true a (plain_told a p)
parts-split a (c ∷ cs) (part p e r) =
    let bs : List ℕ = letter_byte c.letter ∷ line_feed ∷ (c.text ++ joined_calls cs) in
    let l : sheet_of bs ≡ record { before = []; calls = c ∷ cs } = letter-sheet bs c.letter (letter-there c.letter _) ∙ rw (parts-split c.text cs r) in
    sheet_on true a bs (plain_told a p) (start-told a e) ∙ rw (l, append-nil a)

-- A sheet of bytes is what they are split into.
pub sheet_only : (bs : List ℕ) (s : Sheet) → IsSheet bs s → sheet_of bs ≡ s
unfolding sheet_bytes
sheet_only bs s h = ap sheet_of (sym h.joins) ∙ parts-split s.before s.calls h.parts

-- ---- where calls begin

-- Calls and others behind them are one after the other.
pub joined-both : (ds bs : List FormCall) → joined_calls (ds ++ bs) ≡ joined_calls ds ++ joined_calls bs
unfolding joined_calls
joined-both [] bs = refl
joined-both (a ∷ ds) bs =
    ap (λ (r : List ℕ). letter_byte a.letter ∷ line_feed ∷ (a.text ++ r)) (joined-both ds bs)
    ∙ ap (λ (r : List ℕ). letter_byte a.letter ∷ line_feed ∷ r) (sym (append_assoc a.text (joined_calls ds) (joined_calls bs)))

-- A sheet with calls behind its own is the sheet and these calls, one after the other.
pub joined-more : (s : Sheet) (cs : List FormCall) → sheet_bytes (record { before = s.before; calls = s.calls ++ cs }) ≡ sheet_bytes s ++ joined_calls cs
unfolding sheet_bytes
joined-more s cs =
    ap (λ (bs : List ℕ). s.before ++ bs) (joined-both s.calls cs) ∙ sym (append_assoc s.before (joined_calls s.calls) (joined_calls cs))

-- Parts behind which a line starts, and calls behind them, are parts.
pub parts-both : (bs : List ℕ) (ds cs : List FormCall) → Parts bs ds → StartsLine (bs ++ joined_calls ds) → Parts [] cs → Parts bs (ds ++ cs)
unfolding joined_calls
parts-both bs [] [] p s q = p
parts-both bs [] (c ∷ cs) (last_part p) s (part _ _ r) = part p (subst StartsLine (append-nil bs) s) r
parts-both bs (a ∷ ds) cs (part p e r) s q =
    part p e (parts-both a.text ds cs r (start-later bs (letter_byte a.letter) (a.text ++ joined_calls ds) s) q)

-- Where a call of parts begins, a line starts.
pub parts-start : (bs : List ℕ) (ds : List FormCall) (c : FormCall) (cs : List FormCall) → Parts bs (ds ++ (c ∷ cs)) → StartsLine (bs ++ joined_calls ds)
unfolding joined_calls
parts-start bs [] c cs (part p e r) = subst StartsLine (sym (append-nil bs)) e
parts-start bs (a ∷ ds) c cs (part p e r) = start-earlier bs (letter_byte a.letter) (a.text ++ joined_calls ds) (parts-start a.text ds c cs r)
