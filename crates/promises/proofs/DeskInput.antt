-- What is handed in at the desk is split at every letter line and nowhere else, and in no other way (01, "Forms on the desk"). Assumes nothing.
use Prim.Native.Nat.{ℕ, ◌≤◌}
use mathlib.Core.Path.{◌≡◌, refl, sym, ap, ap₂, subst, ◌∙◌}
use mathlib.Core.Bool.{Bool, true, false}
use mathlib.Core.List.{List, [], ◌∷◌, ◌++◌}
use native.Mathlib.Omega.{arith}
use borrow.Author.Tests.{ltb-false, le-ltb}
use lib.Dec.{ltb}
use lib.ListN.{length}
use Rattle.words.proofs.Tests.{never}
use Rattle.words.specs.Base.{◌∈◌, when◌then◌else◌, ◌exactly_when◌}
use Rattle.figures.specs.Limits.{most_input}
use Rattle.figures.specs.Numbers.{too_large}
use Rattle.figures.specs.Answers.{answered}
use Rattle.form.specs.Text.{line_feed}
use Rattle.desk_input.specs.Sheets.{letter_byte, FormCall, Sheet, sheet_of, FirstLine, otherwise, asks, first_line, faulty, handed, handed_by, by_first, handed_in}
use Rattle.desk_input.specs.Joined.{joined_calls, sheet_bytes, StartsLine, nothing_before, LetterLine, Plain, Parts, part}
use Rattle.desk_input.specs.declared.Letter.{Letter}
use Rattle.desk_input.proofs.Meaning.{sheet_is, sheet_only, parts_first, parts-plain, joined-both, joined-more, parts-both, parts-start}
use Rattle.desk_input.proofs.Reasons.{first-is, first-only}
use Rattle.promises.specs.DeskInput.{InputIs, LetterBehind, BeginsForm}

-- ---- what is handed in

-- If a sheet is handed in, no bytes stand before its calls, and k and the calls are handed in as they are.
handed-as : (j : ℕ) (bs : List ℕ) (ds : List FormCall) (k : ℕ) (cs : List FormCall) → handed_by j bs ds ≡ handed k cs → (j ≡ k) × (bs ≡ []) × (ds ≡ cs)
unfolding handed_by
handed-as j [] ds k cs e = (cc, refl, cc)
handed-as j (b ∷ bs) ds k cs e = never cc

-- Bytes with nothing before their calls are the calls, one after the other;
rest-joined : (rest : List ℕ) (cs : List FormCall) → (sheet_of rest).before ≡ [] → (sheet_of rest).calls ≡ cs → rest ≡ joined_calls cs
unfolding sheet_bytes
rest-joined rest cs b c = sym (sheet_is rest).joins ∙ ap₂ (λ (bs : List ℕ) (ds : List FormCall). bs ++ joined_calls ds) b c

-- and no letter line is inside one of these.
rest-parts : (rest : List ℕ) (cs : List FormCall) → (sheet_of rest).before ≡ [] → (sheet_of rest).calls ≡ cs → Parts [] cs
rest-parts rest cs b c =
    subst (λ (bs : List ℕ). Parts bs cs) b (subst (λ (ds : List FormCall). Parts (sheet_of rest).before ds) c (sheet_is rest).parts)

-- Calls, one after the other, are split into themselves.
calls-split : (cs : List FormCall) → Parts [] cs → sheet_of (joined_calls cs) ≡ record { before = []; calls = cs }
unfolding sheet_bytes
calls-split cs p = sheet_only (joined_calls cs) (record { before = []; calls = cs }) (record { joins = refl; parts = p })

-- An input, and what it may hand in.
module _ (input : List ℕ) (k : ℕ) (cs : List FormCall) where
  -- What an allowed input hands in by its first line is what its bytes are.
  first-bytes : length input ≤ most_input → (f : FirstLine) → first_line input ≡ f → by_first f ≡ handed k cs → InputIs input k cs
  unfolding by_first
  first-bytes h otherwise p e = never cc
  first-bytes h (asks j rest) p e =
      let w = handed-as j (sheet_of rest).before (sheet_of rest).calls k cs e in
      let q : rest ≡ joined_calls cs = rest-joined rest cs w.1 w.2 in
      let o = first-is input k (joined_calls cs) (p ∙ ap₂ asks w.0 q) in
      record { size = h; least = o.least; greatest = o.greatest; spelt = o.spelt; parts = rest-parts rest cs w.1 w.2 }

  -- What an input hands in is what its bytes are.
  handed-bytes : handed_in input ≡ handed k cs → InputIs input k cs
  unfolding handed_in when◌then◌else◌
  handed-bytes = go (ltb most_input (length input)) refl
    where
      -- By whether the input is too long.
      go : (t : Bool) → ltb most_input (length input) ≡ t → (when t then faulty (answered too_large) else by_first (first_line input)) ≡ handed k cs
          → InputIs input k cs
      go true p e = never cc
      go false p e = first-bytes (omega (arith, ltb-false most_input (length input) p)) (first_line input) refl e

  -- What the bytes are is handed in.
  bytes-handed : InputIs input k cs → handed_in input ≡ handed k cs
  unfolding handed_in by_first handed_by when◌then◌else◌
  bytes-handed h =
      let f : first_line input ≡ asks k (joined_calls cs) = first-only input k (joined_calls cs) (record { least = h.least; greatest = h.greatest; spelt = h.spelt }) in
      rw (le-ltb most_input (length input) h.size, f, calls-split cs h.parts)

-- ---- where forms begin

-- Calls as they are written, one after the other, with no letter line inside.
module _ (cs : List FormCall) (p : Parts [] cs) where
  -- Behind the bytes before a letter line its form begins.
  letter-begins : (l : LetterLine (joined_calls cs)) → BeginsForm cs l.front l.letter
  unfolding sheet_bytes joined_calls
  letter-begins l =
      let s : Sheet = sheet_of l.front in
      let r : Sheet = sheet_of l.rest in
      let i = sheet_is l.front in
      let j = sheet_is l.rest in
      let ds : List FormCall = record { letter = l.letter; text = r.before } ∷ r.calls in
      let q : Parts [] ds = part (parts_first [] cs p) (nothing_before refl) j.parts in
      let all : Parts s.before (s.calls ++ ds) = parts-both s.before s.calls ds i.parts (subst StartsLine (sym i.joins) l.starts) q in
      let whole : Sheet = record { before = []; calls = cs } in
      let found : Sheet = record { before = s.before; calls = s.calls ++ ds } in
      let t : joined_calls ds ≡ letter_byte l.letter ∷ line_feed ∷ l.rest = ap (λ (bs : List ℕ). letter_byte l.letter ∷ line_feed ∷ bs) j.joins in
      let e : sheet_bytes found ≡ joined_calls cs = joined-more s ds ∙ ap₂ (λ (fs bs : List ℕ). fs ++ bs) i.joins t ∙ sym l.is in
      let same : whole ≡ found = sym (calls-split cs p) ∙ sheet_only (joined_calls cs) found (record { joins = e; parts = all }) in
      record {
        before = s.calls;
        text = r.before;
        later = r.calls;
        forms = ap (λ (z : Sheet). z.calls) same;
        behind = ap (λ (z : Sheet). z.before ++ joined_calls s.calls) same ∙ i.joins;
      }

  -- At a letter line its form begins;
  line-begins : (front : List ℕ) (x : Letter) → LetterBehind (joined_calls cs) front x → BeginsForm cs front x
  line-begins front x l =
      subst (λ (y : Letter). BeginsForm cs front y) l.of (subst (λ (bs : List ℕ). BeginsForm cs bs l.line.letter) l.behind (letter-begins l.line))

  -- and where a form begins there is its letter line.
  begins_line : (front : List ℕ) (x : Letter) → BeginsForm cs front x → LetterBehind (joined_calls cs) front x
  unfolding joined_calls
  begins_line front x b = record {
    line = record {
      front = front;
      letter = x;
      rest = b.text ++ joined_calls b.later;
      starts = subst StartsLine b.behind (parts-start [] b.before (record { letter = x; text = b.text }) b.later (subst (Parts []) b.forms p));
      is =
          ap joined_calls b.forms ∙ joined-both b.before (record { letter = x; text = b.text } ∷ b.later)
          ∙ ap (λ (fs : List ℕ). fs ++ (letter_byte x ∷ line_feed ∷ (b.text ++ joined_calls b.later))) b.behind;
    };
    behind = refl;
    of = refl;
  }

-- ---- the laws

-- "Line 1 is K, space, one digit, LF. Then a line of the one letter T, W or J and LF (teach, withdraw, judge) before each form; the form runs to the next
-- such line or the end": what is handed in is split at every such line and nowhere else,
pub desk_splits : (input : List ℕ) (k : ℕ) (cs : List FormCall) → (handed_in input ≡ handed k cs) exactly_when InputIs input k cs
desk_splits input k cs = (handed-bytes input k cs, bytes-handed input k cs)

-- and in no other way: an input hands in one k and the same forms.
pub desk_one-way : (input : List ℕ) (j k : ℕ) (bs cs : List FormCall) → InputIs input j bs → InputIs input k cs → (j ≡ k) × (bs ≡ cs)
desk_one-way input j k bs cs g h =
    let e : handed j bs ≡ handed k cs = sym (bytes-handed input j bs g) ∙ bytes-handed input k cs h in
    (cc, cc)

-- No letter line stands among the bytes of a form that is handed in.
pub desk_forms : (input : List ℕ) (k : ℕ) (cs : List FormCall) → handed_in input ≡ handed k cs → (c : FormCall) → c ∈ cs → Plain c.text
desk_forms input k cs e c m = parts-plain [] cs (handed-bytes input k cs e).parts c m

-- Behind line 1 a form begins at every letter line, below its letter, and nowhere else.
pub desk_letters : (input : List ℕ) (k : ℕ) (cs : List FormCall) → handed_in input ≡ handed k cs → (front : List ℕ) (x : Letter)
    → LetterBehind (joined_calls cs) front x exactly_when BeginsForm cs front x
desk_letters input k cs e front x =
    let p : Parts [] cs = (handed-bytes input k cs e).parts in
    (line-begins cs p front x, begins_line cs p front x)
