-- What an input hands in at the desk: an allowed k, and no more calls than it has bytes; what the forms do to the book, by the calls that they make;
-- and their lines, one by one. Assumes nothing.
use Prim.Native.Nat.{ℕ, suc, ◌+◌, ◌≤◌}
use mathlib.Core.Path.{◌≡◌, refl, sym, ap, ◌∙◌}
use mathlib.Core.Bool.{Bool, true, false}
use mathlib.Core.List.{List, [], ◌∷◌, ◌++◌, append_assoc}
use native.Mathlib.Omega.{arith}
use lib.Dec.{eqb}
use lib.ListN.{length, drop, length-append, length-drop}
use Rattle.words.proofs.Tests.{never}
use Rattle.words.specs.Base.{◌and◌, when◌then◌else◌, same_words}
use Rattle.figures.specs.Limits.{least_k, greatest_k, most_input}
use Rattle.figures.specs.Numbers.{done, no_form}
use Rattle.order.specs.Trees.{Tree, words}
use Rattle.order.specs.Fits.{IsOrder}
use Rattle.order.proofs.Fitting.{order-read}
use Rattle.form.specs.Text.{Line, text_of}
use Rattle.form.specs.Reading.{Form, fault, form, by_form, form_of, words_of_lines}
use Rattle.form.specs.Faults.{Why, past, misspelt, no_option, not_allowed, too_deep, ninth_child}
use Rattle.form.proofs.FirstFault.{first-fault}
use Rattle.form.proofs.Trips.{order-text}
use Rattle.book.specs.Opening.{outcome}
use Rattle.desk_input.specs.Sheets.{first_line_size, letter_byte, FormCall, sheet_of, Handed, handed, handed_in}
use Rattle.desk_input.proofs.Handing.{calls-within, HandsIn, at_fault, opens, hands_in}
use Rattle.desk_input.specs.declared.Letter.{Letter}
use Rattle.desk_input.specs.declared.Letter.TheVariants.{Teach, Withdraw, Judge}
use Rattle.desk_call.specs.Asking.{ask_of, call_of}
use Rattle.desk_step.specs.Desk.{line_for, lines_for}
use Rattle.promises.specs.Remaining.{Call, teach, withdraw, join, outcome_of, after_by, after, without, remain_by, remaining_by, remaining}
use Rattle.promises.specs.AtTheDesk.{call_for, made_of, made_by, book_after, DeskNumber, is_too_large, is_no_form}

-- ---- what is handed in

-- An input that hands in k and calls is no longer than allowed, k is allowed, and the calls are those behind line 1.
handed-in : (input : List ℕ) (k : ℕ) (cs : List FormCall) → handed_in input ≡ handed k cs
    → (length input ≤ most_input) × (least_k ≤ k) × (k ≤ greatest_k) × (cs ≡ (sheet_of (drop first_line_size input)).calls)
handed-in input k cs = go (handed_in input) (hands_in input)
  where
    -- By what it hands in.
    go : (h : Handed) → HandsIn input h → h ≡ handed k cs → (length input ≤ most_input) × (least_k ≤ k) × (k ≤ greatest_k) × (cs ≡ (sheet_of (drop first_line_size input)).calls)
    go _ (at_fault a) e = never cc
    go _ (opens j m l g i c) e =
        let same : j ≡ k = cc in
        let calls : cs ≡ (sheet_of (drop first_line_size input)).calls = cc in
        (m, omega arith, omega arith, calls)

-- The k that is handed in is allowed.
pub allowed-k : (input : List ℕ) (k : ℕ) (cs : List FormCall) → handed_in input ≡ handed k cs → (least_k ≤ k) × (k ≤ greatest_k)
allowed-k input k cs e = let h = handed-in input k cs e in (h.1, h.2)

-- No more calls are handed in than an input may have bytes.
pub few-calls : (input : List ℕ) (k : ℕ) (cs : List FormCall) → handed_in input ≡ handed k cs → length cs ≤ most_input
few-calls input k cs e =
    let h = handed-in input k cs e in
    omega (arith, h.0, calls-within (drop first_line_size input), length-drop first_line_size input, ap length h.3)

-- ---- the calls that forms make

-- Calls one after the other: what the later ones leave of what the earlier ones leave.
after_both : (cs ds : List Call) (ws : List ℕ) → after (cs ++ ds) ws ≡ after ds (after cs ws)
unfolding after_by
after_both [] ds ws = refl
after_both (c ∷ cs) ds ws = after_both cs ds (outcome_of c ws).words

-- What a letter does with the book is what its call does; judging leaves the book.
asked_after : (x : Letter) (os ws : List ℕ) → (ask_of x ws os).words ≡ after (call_for x os) ws
unfolding ask_of after_by
asked_after Teach os ws = refl
asked_after Withdraw os ws = refl
asked_after Judge os ws = refl

-- What a form leaves is what the call that it makes leaves.
form-after : (c : FormCall) (ws : List ℕ) → (call_of c ws).words ≡ after (made_of c) ws
unfolding call_of made_of by_form after_by
form-after c ws = go (form_of c.text)
  where
    -- By what its text is.
    go : (f : Form) → (by_form f (λ n line. outcome (record { number = n; line = line }) ws) (λ xs. ask_of c.letter ws (words_of_lines xs))).words
        ≡ after (by_form f (λ n line. []) (λ xs. call_for c.letter (words_of_lines xs))) ws
    go (fault n line) = refl
    go (form xs) = asked_after c.letter (words_of_lines xs) ws

-- What forms leave is what the calls that they make leave.
pub forms-after : (cs : List FormCall) (ws : List ℕ) → book_after cs ws ≡ after (made_by cs) ws
unfolding book_after made_by after_by
forms-after [] ws = refl
forms-after (c ∷ cs) ws =
    forms-after cs (call_of c ws).words ∙ ap (after (made_by cs)) (form-after c ws) ∙ sym (after_both (made_of c) (made_by cs) ws)

-- ---- how many orders remain

-- A letter makes one call at most.
letter-makes : (x : Letter) (os : List ℕ) → length (call_for x os) ≤ 1
letter-makes Teach os = omega arith
letter-makes Withdraw os = omega arith
letter-makes Judge os = omega arith

-- So does a form.
form-makes : (c : FormCall) → length (made_of c) ≤ 1
unfolding made_of by_form
form-makes c = go (form_of c.text)
  where
    -- By what its text is.
    go : (f : Form) → length (by_form f (λ n line. []) (λ xs. call_for c.letter (words_of_lines xs))) ≤ 1
    go (fault n line) = omega arith
    go (form xs) = letter-makes c.letter (words_of_lines xs)

-- Forms make no more calls than they are.
pub forms-make : (cs : List FormCall) → length (made_by cs) ≤ length cs
unfolding made_by
forms-make [] = omega arith
forms-make (c ∷ cs) = simp length-append (omega (arith, form-makes c, forms-make cs))

-- Orders with one such less are no more than they were.
fewer : (os : List ℕ) (orders : List (List ℕ)) → length (without os orders) ≤ length orders
unfolding without when◌then◌else◌
fewer os [] = omega arith
fewer os (p ∷ ps) = go (same_words p os) (fewer os ps)
  where
    -- By whether the first is such.
    go : (b : Bool) → length (without os ps) ≤ length ps → length (when b then ps else p ∷ without os ps) ≤ length (p ∷ ps)
    go true h = omega arith
    go false h = omega arith

-- A call with one order: no join.
abbrev OneOrder : Call → Type 0
OneOrder (teach os) = Unit {0}
OneOrder (withdraw os) = Unit {0}
OneOrder (join vs) = ⊥

-- Calls with one order each.
unfoldable pub OneOrders : List Call → Type 0
OneOrders [] = Unit {0}
OneOrders (c ∷ cs) = OneOrder c × OneOrders cs

-- Such calls and then such calls are such.
one-both : (cs ds : List Call) → OneOrders cs → OneOrders ds → OneOrders (cs ++ ds)
unfolding OneOrders
one-both [] ds p q = q
one-both (c ∷ cs) ds p q = (p.0, one-both cs ds p.1 q)

-- The calls of a letter are such.
letter-one : (x : Letter) (os : List ℕ) → OneOrders (call_for x os)
unfolding OneOrders
letter-one Teach os = (tt, tt)
letter-one Withdraw os = (tt, tt)
letter-one Judge os = tt

-- So are those of a form.
form-one : (c : FormCall) → OneOrders (made_of c)
unfolding made_of by_form OneOrders
form-one c = go (form_of c.text)
  where
    -- By what its text is.
    go : (f : Form) → OneOrders (by_form f (λ n line. []) (λ xs. call_for c.letter (words_of_lines xs)))
    go (fault n line) = tt
    go (form xs) = letter-one c.letter (words_of_lines xs)

-- So are those of forms.
pub forms-one : (cs : List FormCall) → OneOrders (made_by cs)
unfolding made_by OneOrders
forms-one [] = tt
forms-one (c ∷ cs) = one-both (made_of c) (made_by cs) (form-one c) (forms-one cs)

-- After a call with one order one order more remains at most.
one-more_left : (c : Call) (n : ℕ) (orders : List (List ℕ)) → OneOrder c → length (remain_by c n orders) ≤ suc (length orders)
unfolding when◌then◌else◌
one-more_left (teach os) n orders p = go (eqb n done)
  where
    -- By whether it is done.
    go : (b : Bool) → length (when b then os ∷ orders else orders) ≤ suc (length orders)
    go true = omega arith
    go false = omega arith
one-more_left (withdraw os) n orders p = go (eqb n done)
  where
    -- By whether it is done.
    go : (b : Bool) → length (when b then without os orders else orders) ≤ suc (length orders)
    go true = omega (arith, fewer os orders)
    go false = omega arith
one-more_left (join vs) n orders p = absurd p

-- After calls with one order each no more orders remain than were there and there are calls.
pub few-left : (cs : List Call) (ws : List ℕ) (orders : List (List ℕ)) → OneOrders cs → length (remaining cs ws orders) ≤ length cs + length orders
unfolding remaining_by OneOrders
few-left [] ws orders p = omega arith
few-left (c ∷ cs) ws orders p =
    let n : ℕ = (outcome_of c ws).answer.number in
    omega (arith, one-more_left c n orders p.0, few-left cs (outcome_of c ws).words (remain_by c n orders) p.1)

-- ---- the lines of forms

-- What forms leave, and one more.
pub book-then : (front : List FormCall) (c : FormCall) (ws : List ℕ) → book_after (front ++ (c ∷ [])) ws ≡ (call_of c (book_after front ws)).words
unfolding book_after
book-then [] c ws = refl
book-then (d ∷ front) c ws = book-then front c (call_of d ws).words

-- The lines of forms, of which one is c: those of the forms before it, its own by the book that they leave, and those of the forms behind it.
pub lines_split : (front : List FormCall) (c : FormCall) (back : List FormCall) (ws : List ℕ)
    → lines_for (front ++ (c ∷ back)) ws
    ≡ lines_for front ws ++ (line_for (letter_byte c.letter) (call_of c (book_after front ws)) ++ lines_for back (book_after (front ++ (c ∷ [])) ws))
unfolding lines_for book_after
lines_split [] c back ws = refl
lines_split (d ∷ front) c back ws =
    ap (λ (l : List ℕ). line_for (letter_byte d.letter) (call_of d ws) ++ l) (lines_split front c back (call_of d ws).words)
    ∙ sym (append_assoc (line_for (letter_byte d.letter) (call_of d ws)) (lines_for front (call_of d ws).words) _)

-- ---- forms with an order

-- A form of the text of an order asks for that order.
pub asks-order : (x : Letter) (t : Tree) → IsOrder (words t) t → (ws : List ℕ) → call_of (record { letter = x; text = text_of t }) ws ≡ ask_of x ws (words t)
unfolding call_of by_form
asks-order x t o ws = let f = order-text (words t) t (order-read (words t) t o) in rw (f.0, f.1)

-- ---- texts that are refused

-- A line at fault is refused by 2 or by 10, which the desk prints.
line_refused : {x : Letter} {before : List Line} {rest : List ℕ} {n : ℕ} → Why before rest n → DeskNumber x n
line_refused (past q h) = is_too_large q
line_refused (misspelt q h m) = is_no_form q
line_refused (no_option q h x p o) = is_no_form q
line_refused (not_allowed q h x p o a) = is_no_form q
line_refused (too_deep q h x p o a d) = is_too_large q
line_refused (ninth_child q h x p o a d m) = is_no_form q

-- So is a text.
pub text-refused_by : (x : Letter) (s : List ℕ) {n line : ℕ} → form_of s ≡ fault n line → DeskNumber x n
unfolding form_of
text-refused_by x [] {n} {line} e = let y : n ≡ no_form = cc in is_no_form y
text-refused_by x (b ∷ bs) {n} {line} e = line_refused (first-fault (b ∷ bs) n line (omega arith) e).why
