-- A turn of the reader: what is still to be read decides what the whole text is. Assumes nothing.
use Rattle.std.specs.Prelude.{Err, Ok, Result}
use mathlib.Core.Path.{◌≡◌, refl, ap, sym, subst, ◌∙◌}
use mathlib.Core.List.{List, [], ◌∷◌, ◌++◌, append_assoc, reverse}
use mathlib.Core.Bool.{Bool, true, false, not}
use Prim.Native.Nat.{ℕ, suc, ◌+◌, ◌*◌, ◌-◌, ◌≤◌, ◌<◌}
use native.Mathlib.Numerals.{add-one, add-two}
use native.Mathlib.Omega.{arith}
use native.Mathlib.Decide.{dec_lt}
use lib.Dec.{leb, ltb, eqb}
use lib.ListN.{length, take, drop, get_or, set, replicate, length-append, length-reverse, length-set, length-drop, drop_of_length-le}
use lib.Seq.{take-suc-set, take-set-lt, get_or-take, drop-drop}
use borrow.Author.Tests.{ne_eqb, eqb-false, leb-true, leb-false, ltb-false}
use Rattle.form.specs.declared.reading.Node.{Node}
use Rattle.words.specs.Base.{◌and◌, when◌then◌else◌}
use Rattle.words.proofs.Tests.{no_test}
use Rattle.figures.specs.Limits.{least_code, most_nodes, most_words, most_children, greatest_depth}
use Rattle.figures.specs.Numbers.{done, no_form}
use Rattle.figures.specs.Answers.{refused_at, wrote}
use Rattle.figures.specs.declared.Written.{Written}
use Rattle.form.specs.Text.{code_size, Line, level_text, line_text}
use Rattle.form.specs.Reading.{fault_number, spelt_of, by_line, allowed, siblings, line_of, Form, fault, form, read_lines, form_of, children, words_of_lines}
use Rattle.form.specs.Turns.{follows, next_of, count_place, Parent, may_adopt, adopted, Parents, under_parent, counted_in, Got}
use Rattle.form.specs.declared.reading.Fault.{Fault}
use Rattle.form.specs.declared.reading.Fault.TheVariants.{PastLast, NoOption, LevelNotAllowed, TooDeep, NinthChild}
use Rattle.form.proofs.Faults.{fault-number, fine_line, ninth_line, read_done, read_past, read-fault, read-on, some_bytes}
use Rattle.form.proofs.LineBytes.{line-size}
use Rattle.form.proofs.Unique.{line-back}
use Rattle.form.proofs.Steps.{follows-seen, adopt_first, adopt_one, adopted-length, full_seen, one_seen, Unadopted, handed, full, unadopted_seen, adopted-seen}
use Rattle.form.proofs.Counts.{length-words, Adopts, adopts, Kept, kept_on}

-- ---- the next line, as the code reads it

-- A node without a fault that can be told without its siblings.
pub record NextIs (n greatest : ℕ) (s : List ℕ) (l c w : ℕ) : Type 0 where
  pub room : n < most_nodes
  pub spelt : spelt_of s ≡ Ok (record { level = l; code = c; size = w })
  pub option : least_code ≤ c
  pub may : follows greatest l ≡ true
  pub shallow : l ≤ greatest_depth

-- What a refusal of the next line says: there is no room for it, or it is refused behind any lines before it that allow the same levels.
pub data NextNot (n greatest : ℕ) (s : List ℕ) (f : Fault) : Type 0 where
  past : most_nodes ≤ n → f ≡ PastLast → NextNot n greatest s f
  faulty : n < most_nodes → ((before : List Line) → ((l : ℕ) → allowed l before ≡ follows greatest l) → line_of before s ≡ Err f) → NextNot n greatest s f

-- The next line is one or the other.
abbrev Next : ℕ → ℕ → List ℕ → Result Node Fault → Type 0
Next n greatest s (Ok node) = NextIs n greatest s node.level node.code node.size
Next n greatest s (Err f) = NextNot n greatest s f

-- `Next` holds of a spelt line within the limit, by cases.
next-of : (n greatest : ℕ) (s : List ℕ) (r : Result Node Fault) → n < most_nodes → spelt_of s ≡ r → Next n greatest s (by_line r (λ level code size.
    when eqb code 0 then Err NoOption else
    when not (follows greatest level) then Err LevelNotAllowed else
    when ltb greatest_depth level then Err TooDeep else
    Ok (record { level = level; code = code; size = size })) Err)
unfolding by_line line_of when◌then◌else◌
next-of n greatest s (Err f) h q = faulty h (λ before m. rw q refl)
next-of n greatest s (Ok node) h q = go (eqb node.code 0) (follows greatest node.level) (ltb greatest_depth node.level) refl refl refl
  where
    go : (z a d : Bool) → eqb node.code 0 ≡ z → follows greatest node.level ≡ a → ltb greatest_depth node.level ≡ d
        → Next n greatest s (when z then Err NoOption else when not a then Err LevelNotAllowed else when d then Err TooDeep else Ok node)
    go true a d p₀ p₁ p₂ = faulty h (λ before m. rw (q, p₀) refl)
    go false false d p₀ p₁ p₂ = faulty h (λ before m. rw (q, p₀, m node.level, p₁) refl)
    go false true true p₀ p₁ p₂ = faulty h (λ before m. rw (q, p₀, m node.level, p₁, p₂) refl)
    go false true false p₀ p₁ p₂ =
        let o : node.code ≡ 0 → ⊥ = eqb-false _ _ p₀ in
        record { room = h; spelt = q; option = omega arith; may = p₁; shallow = ltb-false _ _ p₂ }

-- `Next` holds of any bytes.
next-is : (n greatest : ℕ) (s : List ℕ) → Next n greatest s (next_of n greatest s)
unfolding next_of when◌then◌else◌
next-is n greatest s = go (leb most_nodes n) refl
  where
    go : (b : Bool) → leb most_nodes n ≡ b → Next n greatest s (when b then Err PastLast else by_line (spelt_of s) (λ level code size.
        when eqb code 0 then Err NoOption else
        when not (follows greatest level) then Err LevelNotAllowed else
        when ltb greatest_depth level then Err TooDeep else
        Ok (record { level = level; code = code; size = size })) Err)
    go true e = past (leb-true _ _ e) refl
    go false e = next-of n greatest s (spelt_of s) (leb-false _ _ e) refl

-- ---- where a turn begins

-- Two words behind the first m.
put_two : (w : List ℕ) (m a b : ℕ) → m + 2 ≤ length w → take (m + 2) (set (set w m a) (m + 1) b) ≡ take m w ++ (a ∷ b ∷ [])
put_two w m a b k =
    let l : suc m < length (set w m a) = simp length-set (omega arith) in
    let i : m < length w = omega arith in
    rw (add-two m, add-one m, take-suc-set (set w m a) (suc m) b l, take-suc-set w m a i) (append_assoc (take m w) (a ∷ []) (b ∷ []))

-- The words of the first line alone.
first-words : (w : List ℕ) (n : ℕ) (x : Line) (before : List Line) → n ≡ 0 → before ≡ [] → take (2 * n) w ++ (x.code ∷ 0 ∷ []) ≡ words_of_lines (reverse (x ∷ before))
unfolding words_of_lines children
first-words w n x before e b = rw (e, b) refl

-- No lines before are no siblings.
no_siblings : (l : ℕ) (before : List Line) → before ≡ [] → siblings l before ≡ 0
unfolding siblings
no_siblings l before e = rw e refl

-- Behind a line the levels up to its own plus 1 are open.
after_line : (l : ℕ) (x : Line) (before : List Line) → allowed l (x ∷ before) ≡ follows (x.level + 1) l
unfolding allowed follows when◌then◌else◌
after_line l x before = rw (ne_eqb (x.level + 1) 0 (λ z. omega arith), add-one) refl

-- Level 0 is allowed on line 1 alone.
none_before : (before : List Line) → allowed 0 before ≡ true → before ≡ []
unfolding allowed ◌and◌
none_before [] e = refl
none_before (x ∷ before) e = no_test e

-- The lines read and the room for more, and what the words and the latest lines say of them.
pub record State (text words latest : List ℕ) (at n greatest : ℕ) : Type 0 where
  pub room : ℕ
  pub before : List Line
  pub reads : form_of text ≡ read_lines room before (drop at text)
  pub rooms : room + n ≡ most_nodes
  pub lines : length before ≡ n
  pub inside : at ≤ length text
  pub long : length words ≡ most_words
  pub deep : length latest ≡ suc greatest_depth
  pub may : (l : ℕ) → allowed l before ≡ follows greatest l
  pub wrote-words : take (2 * n) words ≡ words_of_lines (reverse before)
  pub kept : Kept before greatest latest

-- Before line 1 nothing is read.
pub start : (text words : List ℕ) → (length text ≡ 0 → ⊥) → length words ≡ most_words → State text words (replicate (suc greatest_depth) 0) 0 0 0
unfolding allowed follows words_of_lines when◌then◌else◌
start text words h k = record {
  room = most_nodes;
  before = [];
  reads = some_bytes text (omega arith);
  rooms = refl;
  lines = refl;
  inside = omega arith;
  long = k;
  deep = refl;
  may = λ l. refl;
  wrote-words = refl;
  kept = λ l m. absurd (omega arith);
}

-- A text that is refused at a line is answered so.
got_fault : (f : Form) (w : List ℕ) {k l : ℕ} (m : ℕ) (r : Written) → f ≡ fault k l → l ≡ m → (k ≡ done → ⊥) → r ≡ refused_at k m → Got f r w
got_fault f w {k} {l} m r q e z a = subst (λ (f : Form). Got f r w) (sym q) (a ∙ ap (refused_at k) (sym e), z)

-- No bytes are refused at line 1.
pub empty-text : (text w : List ℕ) (r : Written) → length text ≡ 0 → r ≡ refused_at no_form 1 → Got (form_of text) r w
unfolding form_of
empty-text [] w r h a = (a, λ z. omega arith)
empty-text (b ∷ bs) w r h a = absurd (omega arith)

module _ {text words latest : List ℕ} {at n greatest : ℕ} (s : State text words latest at n greatest) where
  -- Where all bytes are read, the words are those of the lines.
  pub all_read : (r : Written) → length text ≤ at → r ≡ wrote done (2 * n) → Got (form_of text) r words
  all_read r h a =
      let q : form_of text ≡ form (reverse s.before) = s.reads ∙ ap (read_lines s.room s.before) (drop_of_length-le text h) ∙ read_done s.room s.before in
      let z : 2 * n ≡ length (words_of_lines (reverse s.before)) = omega (arith, length-words (reverse s.before), length-reverse s.before, s.lines) in
      subst (λ (f : Form). Got f r words) (sym q) (a ∙ ap (wrote done) z, ap (λ (m : ℕ). take m words) (sym z) ∙ s.wrote-words)

  -- Bytes are left.
  left : at < length text → 0 < length (drop at text)
  left h = rw length-drop (omega arith)

  -- There is room for one line more.
  one_more : n < most_nodes → form_of text ≡ read_lines (suc (most_nodes - suc n)) s.before (drop at text)
  one_more h =
      let z : s.room ≡ suc (most_nodes - suc n) = omega (arith, s.rooms) in
      s.reads ∙ ap (λ (r : ℕ). read_lines r s.before (drop at text)) z

  -- A line that is refused behind those before it refuses the text.
  refuses : (r : Written) (w : List ℕ) {f : Fault} → at < length text → n < most_nodes → line_of s.before (drop at text) ≡ Err f → r ≡ refused_at (fault_number f) (n + 1) → Got (form_of text) r w
  refuses r w {f} h k e a =
      got_fault (form_of text) w (n + 1) r (one_more k ∙ read-fault (most_nodes - suc n) s.before (drop at text) (left h) e) (omega (arith, s.lines)) (fault-number f) a

  -- A refusal of the next line refuses the text.
  next-refused : (r : Written) (w : List ℕ) (f : Fault) → NextNot n greatest (drop at text) f → at < length text → r ≡ refused_at (fault_number f) (n + 1) → Got (form_of text) r w
  next-refused r w f (past k e) h a =
      let z : s.room ≡ 0 = omega (arith, s.rooms) in
      got_fault (form_of text) w (n + 1) r (s.reads ∙ ap (λ (m : ℕ). read_lines m s.before (drop at text)) z ∙ read_past s.before (drop at text) (left h)) (omega (arith, s.lines)) (fault-number PastLast)
      (a ∙ ap (λ (g : Fault). refused_at (fault_number g) (n + 1)) e)
  next-refused r w f (faulty k g) h a = refuses r w h k (g s.before s.may) a

  -- The next line is a node.
  module _ {level code size : ℕ} (e : next_of n greatest (drop at text) ≡ Ok (record { level = level; code = code; size = size })) where
    -- The line that says it.
    abbrev line : Line
    line = record { level = level; code = code }

    -- What is known of it.
    node : NextIs n greatest (drop at text) level code size
    node = subst (Next n greatest (drop at text)) e (next-is n greatest (drop at text))

    -- It takes some bytes, and no more than there are.
    takes : (0 < size) × (at + size ≤ length text)
    takes =
        let l = line-back (drop at text) node.spelt in
        let w : size ≡ length (level_text level) + code_size = l.takes ∙ line-size line in
        let k : length (drop at text) ≡ size + length l.rest = ap length l.is ∙ length-append (line_text line) l.rest ∙ ap (λ (m : ℕ). m + length l.rest) (sym l.takes) in
        let d : length (drop at text) ≡ length text - at = length-drop at text in
        (omega arith, omega (arith, s.inside))

    -- Its level is allowed behind the lines before.
    fits : allowed level s.before ≡ true
    fits = s.may level ∙ node.may

    -- It stands below a line that is open.
    below : (level ≤ greatest) × (level ≡ 0 → greatest ≡ 0)
    below = follows-seen greatest level node.may

    -- Its parent, if it has one, is the latest line of the level above.
    parent : 0 < level → Adopts s.before (get_or latest (level - 1) 0) line
    parent h = adopts (s.kept (level - 1) (omega (arith, below.0))) line (omega arith)

    -- The parent has a place among the words.
    has-parent : Parent words latest level
    has-parent = (s.long, s.deep, node.shallow, λ h. omega (arith, (parent h).inside, s.lines, node.room))

    -- There stands the number of its children so far.
    had : 0 < level → get_or words (count_place latest level) 0 ≡ siblings level s.before
    had h =
        let p = parent h in
        let k : count_place latest level < 2 * n = omega (arith, p.inside, s.lines) in
        sym (get_or-take (2 * n) words (count_place latest level) 0 k) ∙ ap (λ (w : List ℕ). get_or w (count_place latest level) 0) s.wrote-words ∙ p.had

    -- A ninth child refuses the text.
    bad_child : (r : Written) (w : List ℕ) → at < length text → may_adopt words latest level ≡ false → r ≡ refused_at (fault_number NinthChild) (n + 1) → Got (form_of text) r w
    bad_child r w h m a =
        let f = full_seen words latest level m in
        refuses r w h node.room (ninth_line s.before (drop at text) node.spelt node.option fits node.shallow (omega (arith, f.1, had f.0))) a

    -- Line 1 has no lines before it.
    first : level ≡ 0 → s.before ≡ []
    first z = none_before s.before (ap (λ (l : ℕ). allowed l s.before) (sym z) ∙ fits)

    -- Its parent has room for it.
    few : may_adopt words latest level ≡ true → siblings level s.before < most_children
    few m =
        elim (dec_lt 0 level) [
          | yes h ↦ omega (arith, one_seen words latest level m h, had h)
          | no h ↦ omega (arith, no_siblings level s.before (first (omega arith)))
        ]

    -- It may stand behind those before it.
    read-so : may_adopt words latest level ≡ true → line_of s.before (drop at text) ≡ Ok (record { level = level; code = code; size = size })
    read-so m = fine_line s.before (drop at text) node.spelt (record { option = node.option; follows = fits; shallow = node.shallow; child = few m })

    -- Behind the words so far, with the child counted, its own two are those of a line more.
    front : may_adopt words latest level ≡ true → take (2 * n) (adopted words latest level) ++ (code ∷ 0 ∷ []) ≡ words_of_lines (reverse (line ∷ s.before))
    front m =
        elim (dec_lt 0 level) [
          | yes h ↦ counted h
          | no h ↦
              let z : level ≡ 0 = omega arith in
              let b : s.before ≡ [] = first z in
              let k : n ≡ 0 = omega (arith, s.lines, ap length b) in
              ap (λ (w : List ℕ). take (2 * n) w ++ (code ∷ 0 ∷ [])) (sym (adopt_first words latest level z).1) ∙ first-words words n line s.before k b
        ]
      where
        counted : 0 < level → take (2 * n) (adopted words latest level) ++ (code ∷ 0 ∷ []) ≡ words_of_lines (reverse (line ∷ s.before))
        counted h =
            let p = parent h in
            let j = count_place latest level in
            let v : get_or words j 0 + 1 ≡ suc (siblings level s.before) = omega (arith, had h) in
            let k : j < 2 * n = omega (arith, p.inside, s.lines) in
            ap (λ (w : List ℕ). take (2 * n) w ++ (code ∷ 0 ∷ [])) (sym (adopt_one words latest level (λ z. omega arith) (one_seen words latest level m h)).1)
            ∙ ap (λ (w : List ℕ). w ++ (code ∷ 0 ∷ [])) (take-set-lt (2 * n) words j (get_or words j 0 + 1) k)
            ∙ ap (λ (w : List ℕ). set w j (get_or words j 0 + 1) ++ (code ∷ 0 ∷ [])) s.wrote-words
            ∙ ap (λ (m : ℕ). set (words_of_lines (reverse s.before)) j m ++ (code ∷ 0 ∷ [])) v
            ∙ sym p.words

    -- The next turn begins behind it.
    on : may_adopt words latest level ≡ true → State text (set (set (adopted words latest level) (2 * n) code) (2 * n + 1) 0) (set latest level n) (at + size) (n + 1) (level + 1)
    on m =
        let a : length (adopted words latest level) ≡ most_words = adopted-length words latest level ∙ s.long in
        let z : 2 * (n + 1) ≡ 2 * n + 2 = omega arith in
        let y : drop size (drop at text) ≡ drop (at + size) text = drop-drop size at text in
        record {
          room = most_nodes - suc n;
          before = line ∷ s.before;
          reads = one_more node.room ∙ read-on (most_nodes - suc n) s.before (drop at text) (read-so m) ∙ ap (read_lines (most_nodes - suc n) (line ∷ s.before)) y;
          rooms = omega (arith, node.room);
          lines = omega (arith, s.lines);
          inside = takes.1;
          long = simp length-set a;
          deep = simp length-set s.deep;
          may = λ l. after_line l line s.before;
          wrote-words = ap (λ (k : ℕ). take k (set (set (adopted words latest level) (2 * n) code) (2 * n + 1) 0)) z
              ∙ put_two (adopted words latest level) (2 * n) code 0 (omega (arith, node.room))
              ∙ front m;
          kept = kept_on line s.before greatest latest n s.kept below.0 (omega (arith, s.deep, node.shallow)) (sym s.lines);
        }

  -- What counting the next line asks for.
  pub parents : Parents (next_of n greatest (drop at text)) words latest
  parents = go (next_of n greatest (drop at text)) refl
    where
      go : (y : Result Node Fault) → next_of n greatest (drop at text) ≡ y → Parents y words latest
      go (Ok node) e = let record { level = level; code = code; size = size } = node in has-parent e
      go (Err f) e = tt

  -- A line that is refused refuses the text, as the calls answered.
  pub bad_line : (r : Written) (w : List ℕ) {x : Result Node Fault} {f : Fault} (k : ℕ) → at < length text → x ≡ under_parent words latest (next_of n greatest (drop at text)) → x ≡ Err f → r ≡ refused_at k (n + 1) → k ≡ fault_number f → Got (form_of text) r w
  bad_line r w {x} {f} k h e q a b = go (unadopted_seen words latest (next_of n greatest (drop at text)) (sym e ∙ q))
    where
      answer : r ≡ refused_at (fault_number f) (n + 1)
      answer = a ∙ ap (λ (m : ℕ). refused_at m (n + 1)) b

      go : Unadopted words latest (next_of n greatest (drop at text)) f → Got (form_of text) r w
      go (handed u) = next-refused r w f (subst (Next n greatest (drop at text)) u (next-is n greatest (drop at text))) h answer
      go (full l c z u m g) = bad_child u r w h m (answer ∙ ap (λ (g : Fault). refused_at (fault_number g) (n + 1)) g)

  -- A line that is read, as the calls answered: its node, its bytes, and the next turn.
  module _ {x : Result Node Fault} {level code size : ℕ} (e : x ≡ under_parent words latest (next_of n greatest (drop at text))) (q : x ≡ Ok (record { level = level; code = code; size = size })) where
    -- It is a node whose parent had room for it.
    counted : (next_of n greatest (drop at text) ≡ Ok (record { level = level; code = code; size = size })) × (may_adopt words latest level ≡ true)
    counted = adopted-seen words latest (next_of n greatest (drop at text)) (sym e ∙ q)

    -- There is room for it and for its level.
    pub room_for : (n < most_nodes) × (level ≤ greatest_depth)
    room_for = let m = node counted.0 in (m.room, m.shallow)

    -- It takes some bytes, and no more than there are.
    pub bytes_of : (0 < size) × (at + size ≤ length text)
    bytes_of = takes counted.0

    -- The next turn begins behind it, with the words as the call that counted it left them.
    pub turn : (w : List ℕ) → w ≡ counted_in words latest (next_of n greatest (drop at text)) → State text (set (set w (2 * n) code) (2 * n + 1) 0) (set latest level n) (at + size) (n + 1) (level + 1)
    unfolding counted_in
    turn w a =
        let z : w ≡ adopted words latest level = a ∙ ap (counted_in words latest) counted.0 in
        subst (λ (u : List ℕ). State text (set (set u (2 * n) code) (2 * n + 1) 0) (set latest level n) (at + size) (n + 1) (level + 1)) (sym z) (on counted.0 counted.1)
