-- Demand 1: "Every call ends and touches only what it was lent, for any order, text or book given to it. Bad input gets the refusal number listed for
-- it, and a refusal changes nothing lent to the call."
--
-- That a call ends, reads and writes only within what it was lent and wraps no sum is the theorem of each function, which the prover checks before it
-- passes a crate: promises_code/proofs/Contracts.antt cites those of the public functions (`teach-meets` and the like), and shows that their
-- contracts ask nothing and say just the equations that stand here (`teach-says` and the like). What is lent by `&` comes back as it was, by the
-- same theorem: so `order_check::check`, `order_cuts::subtree`, `book_form::in_form`, `book_judge::judge`, `book_choose::choose`, `book_check::check`
-- and `desk_input::opening`, which are lent nothing to write (promises_code/proofs/Lent.antt), change nothing. Of what the others leave this file
-- speaks. Assumes nothing.
use Rattle.std.specs.Prelude.{None, Option, Err, Result}
use Prim.Native.Nat.{ℕ, suc, ◌-◌, ◌≤◌, ◌<◌}
use mathlib.Core.Path.{◌≡◌, refl, sym, ap, subst, ◌∙◌}
use mathlib.Core.Bool.{Bool, true, false}
use mathlib.Core.List.{List}
use native.Mathlib.Omega.{arith}
use lib.Dec.{ltb}
use lib.ListN.{length, drop}
use Rattle.figures.specs.declared.depths.Depth.{Depth}
use Rattle.words.proofs.Tests.{never}
use Rattle.words.specs.Base.{when◌then◌else◌}
use Rattle.figures.specs.Numbers.{done, too_large, no_form, top_unknown}
use Rattle.figures.specs.Answers.{depth_of, asked_told}
use Rattle.figures.specs.declared.Answer.{Answer}
use Rattle.figures.specs.declared.refusals.Refusal.{Refusal}
use Rattle.figures.specs.declared.Written.{Written}
use Rattle.order.specs.Trees.{Tree, cut}
use Rattle.order.specs.Paper.{IsR}
use Rattle.order.proofs.Paper.{cut-is_r}
use Rattle.order.specs.Answers.{check_of, subtree_of, piece_at, Writing, writing, cut_into_of, PartWriting, part_writing, part_into_of}
use Rattle.order.specs.declared.PartWritten.{PartWritten}
use Rattle.form.specs.Reading.{read_of}
use Rattle.form.specs.Writing.{write_of}
use Rattle.form.proofs.Figures.{print_line}
use Rattle.book.specs.Decoding.{book_form_of, looked, form_told}
use Rattle.book.specs.declared.Places.{Places}
use Rattle.book.proofs.Sound.{same_looked}
use Rattle.book.specs.Opening.{Outcome, outcome, open_of}
use Rattle.book_judging.specs.Judging.{judge_of}
use Rattle.book_judging.specs.Verdicts.{Judged}
use Rattle.book_judging.proofs.Answers.{judged-is, judged-only}
use Rattle.book_teaching.specs.Calls.{teach_of, withdraw_of}
use Rattle.book_teaching.specs.Whys.{WhyTaught, WhyWithdrawn}
use Rattle.book_teaching.proofs.Whys.{teach-why, teach-only, withdraw-why, withdraw-only}
use Rattle.book_teaching.proofs.Conditions.{teach-refusal_leaves, withdraw-refusal_leaves, teach-line, withdraw-line}
use Rattle.book_joining.specs.Joining.{join_of}
use Rattle.book_joining.proofs.Joins.{join-line, join-leaves as join-refusal-leaves}
use Rattle.book.specs.Checking.{agree_of}
use Rattle.book.proofs.Openings.{open_line}
use Rattle.book.proofs.Checking.{check_line as agrees-line}
use Rattle.book_filing.specs.Files.{write_file_of, read_file_of}
use Rattle.book_filing.proofs.Writing.{filed-line}
use Rattle.book_filing.proofs.Restoring.{restored_line}
use Rattle.desk_line.specs.Replies.{reply_room}
use Rattle.desk_input.specs.Sheets.{Handed, faulty, handed, handed_in, opening_by, opening_of}
use Rattle.desk_input.specs.Places.{letter_at}
use Rattle.desk_input.specs.Whys.{WhyFront}
use Rattle.desk_input.proofs.Reasons.{opening-why, opening-only}
use Rattle.desk_step.specs.Steps.{Stepping, stepping, idle, begun_by, begin_of, step_of}
use Rattle.desk_step.specs.declared.Printed.{Printed}
use Rattle.desk_step.proofs.Runs.{begin_behind, step-behind}
use Rattle.desk_step.proofs.Steps.{begin_short, step-short, step_other}
use Rattle.promises.specs.Whys.{WhyNumbered, WhySubtree, WhyCut, WhyPart, WhyDepth, WhyLooked, WhyOpened, WhyChecked, WhyJoined, WhyPrinted, WhyRead, WhyFiled, WhyRestored}
use Rattle.promises.proofs.Laws.Whys.{depth-why, depth-only, looked_why, looked_only, opened-why, opened-only, printed-why, printed-only, read-why, read_only}
use Rattle.promises.proofs.Laws.PartWhys.{numbered-why, numbered-only, subtree-why, subtree-only, cut-why, cut-only, part-why, part-only}
use Rattle.promises.proofs.Laws.Checks.{checked_why, checked_only}
use Rattle.promises.proofs.Laws.Joining.{joined-why, joined-only}
use Rattle.promises.proofs.Laws.FileWhys.{filed-why, filed-only, restored_why, restored_only}
use Rattle.promises.proofs.Laws.LineNumbers.{check_line, cut_line, part-line, judge_line, read-line}
use Rattle.promises.proofs.Laws.Refusals.{read-refusal_leaves, print_refusal_leaves, cut-refusal_leaves, part-refusal_leaves, open_refusal_leaves}
use Rattle.promises.proofs.Laws.FileTrips.{file_refusal_leaves, restore_refusal_leaves}

-- ---- "the refusal number listed for it"

-- The answer is one that the rows allow, and the rows allow no other.
abbrev pub Exactly : {A : Type 0} → (A → Type 0) → A → Type 0
Exactly {A} Row a = Row a × ((b : A) → Row b → a ≡ b)

-- The rows of 01's table for each call, in their order of checks: every answer, with its line, its count and all that was lent, has its row, and a
-- row has no other answer. So two calls on the same input answer the same.
module _ (ws os text file out : List ℕ) (k line d : ℕ) where
  -- "Within an order: empty or odd length, over 128 words, the other causes of 1, depth."
  pub order-rows : Exactly (WhyNumbered os) (check_of os)
  order-rows = (numbered-why os, numbered-only os)

  -- "A subtree is a contiguous part of the order's words, and is handed out as that part, asked for by its line"
  pub subtree-rows : Exactly (WhySubtree os line) (subtree_of os line)
  subtree-rows = (subtree-why os line, subtree-only os line)

  -- "Cut(t, d) keeps the nodes of depth at most d": 1, 2, and 11, "lent output too short"
  pub cut-rows : Exactly (WhyCut os out line d) (cut_into_of os line d out)
  cut-rows = (cut-why os out line d, cut-only os out line d)

  -- "The depth of the uncut subtree decides between L and P": 1, 2, 11
  pub part-rows : Exactly (WhyPart os out line k) (part_into_of os line k out)
  part-rows = (part-why os out line k, part-only os out line k)

  -- 4 and 5: `book_form::in_form`, by the number, line and places that `form_told` gives each case
  pub form-rows : Exactly (WhyLooked ws) (form_told (book_form_of ws))
  form-rows = (looked_why ws, looked_only ws)

  -- "3: k outside 2 to 6": `figures::Depth::new`, by the number, line and k that `asked_told` gives each case
  pub depth-rows : Exactly (WhyDepth k) (asked_told (depth_of k))
  depth-rows = (depth-why k, depth-only k)

  -- "Open: 4, 3."
  pub open_rows : Exactly (WhyOpened ws k) (open_of ws k)
  open_rows = (opened-why ws k, opened-only ws k)

  -- "Teach: 4, 5, 1, 2, 7, 6."
  pub teach-rows : Exactly (WhyTaught ws os) (teach_of ws os)
  teach-rows = (teach-why ws os, teach-only ws os)

  -- "Withdraw: 4, 5, 1, 2, 8, 9."
  pub withdraw-rows : Exactly (WhyWithdrawn ws os) (withdraw_of ws os)
  withdraw-rows = (withdraw-why ws os, withdraw-only ws os)

  -- "Judge: 4, 5, 1, 2, verdict."
  pub judge_rows : Exactly (Judged ws os) (judge_of ws os)
  judge_rows = (judged-is ws os, judged-only ws os)

  -- "Check: 4, 5, 9."
  pub check_rows : Exactly (WhyChecked ws) (agree_of ws)
  check_rows = (checked_why ws, checked_only ws)

  -- "Write text: 1, 2, 11."
  pub write-rows : Exactly (WhyPrinted os out) (write_of os out)
  write-rows = (printed-why os out, printed-only os out)

  -- "Text: the first line at fault", "11 last. No bytes is line 1."
  pub read-rows : Exactly (WhyRead text out) (read_of text out)
  read-rows = (read-why text out, read_only text out)

  -- "Write file: 4, 5, 9, 11."
  pub write-file_rows : Exactly (WhyFiled ws out) (write_file_of ws out)
  write-file_rows = (filed-why ws out, filed-only ws out)

  -- "Read file: 4, 12, 13, 14, 9, 6."
  pub read-file_rows : Exactly (WhyRestored file ws) (read_file_of file ws)
  read-file_rows = (restored_why file ws, restored_only file ws)

  -- "Three faults are looked for before anything is printed, in this order": those of what is handed in at the desk, `text`.
  pub opening-rows : Exactly (WhyFront text) (opening_of text)
  opening-rows = (opening-why text, opening-only text)

-- The rows of 02 for joining.
module _ (ws vs : List ℕ) where
  -- "Refusals: 4 and 5 on the first book, 4 and 5 on the second, 15 where k differs, 9 on the first, 9 on the second, 7, 6."
  pub join-rows : Exactly (WhyJoined ws vs) (join_of ws vs)
  join-rows = (joined-why ws vs, joined-only ws vs)

  -- `book_join::join`: the line is 0.
  pub join-no_line : (join_of ws vs).answer.line ≡ 0
  join-no_line = join-line ws vs

-- "Cut(t, d) keeps the nodes of depth at most d", at every d: it is document 000's r of index d+1.
pub cut_keeps : (t : Tree) (d : ℕ) → IsR (suc d) t (cut t d)
cut_keeps t d = let e : suc d - 1 ≡ d = omega arith in subst (λ (n : ℕ). IsR (suc d) t (cut t n)) e (cut-is_r t (suc d) (omega arith))

-- ---- the line

-- "for every other answer, 0 and 11 included, it is 0": only a verdict of 20, 21 or 22, and 2 or 10 for a text, have another line.
module _ (ws os text file out : List ℕ) (k line d : ℕ) where
  -- `order_check::check`
  pub order-no_line : (check_of os).line ≡ 0
  order-no_line = check_line os

  -- `order_cuts::cut_into`
  pub cut-no_line : (cut_into_of os line d out).answer.line ≡ 0
  cut-no_line = cut_line os out line d

  -- `order_parts::part_into`
  pub part-no_line : (part_into_of os line k out).answer.written.line ≡ 0
  part-no_line = part-line os out line k

  -- `book::open`
  pub open_no_line : (open_of ws k).answer.line ≡ 0
  open_no_line = open_line ws k

  -- `book_teach::teach`
  pub teach-no_line : (teach_of ws os).answer.line ≡ 0
  teach-no_line = teach-line ws os

  -- `book_teach::withdraw`
  pub withdraw-no_line : (withdraw_of ws os).answer.line ≡ 0
  withdraw-no_line = withdraw-line ws os

  -- `book_check::check`
  pub check_no_line : (agree_of ws).line ≡ 0
  check_no_line = agrees-line ws

  -- `form_write::write`
  pub write-no_line : (write_of os out).answer.line ≡ 0
  write-no_line = print_line os out

  -- `book_file::write`
  pub write-file_no_line : (write_file_of ws out).answer.line ≡ 0
  write-file_no_line = filed-line ws out

  -- `book_file::read`
  pub read-file_no_line : (read_file_of file ws).answer.line ≡ 0
  read-file_no_line = restored_line file ws

  -- `form_read::read`, where it answers neither 2 nor 10
  pub read-no_line : ((read_of text out).answer.number ≡ too_large → ⊥) → ((read_of text out).answer.number ≡ no_form → ⊥) → (read_of text out).answer.line ≡ 0
  read-no_line = read-line text out

  -- `book_judge::judge`, where it gives no verdict but 0
  pub judge_no_line : (judge_of ws os).number < top_unknown → (judge_of ws os).line ≡ 0
  judge_no_line = judge_line ws os

-- ---- one outcome for each input

-- Two values that are both equal to a third are equal.
same : {A : Type 0} {a b c : A} → a ≡ c → b ≡ c → a ≡ b
same e f = e ∙ sym f

-- Two outcomes of a call on a book have the same answer and the same words.
two_outcomes : {r s : Answer} {ws vs : List ℕ} {o : Outcome} → outcome r ws ≡ o → outcome s vs ≡ o → (r ≡ s) × (ws ≡ vs)
two_outcomes e f = (ap (λ (o : Outcome). o.answer) (same e f), ap (λ (o : Outcome). o.words) (same e f))

-- Two outcomes of a call that writes have the same answer and the same output.
two_writings : {r s : Written} {ws vs : List ℕ} {o : Writing} → writing r ws ≡ o → writing s vs ≡ o → (r ≡ s) × (ws ≡ vs)
two_writings e f = (ap (λ (o : Writing). o.answer) (same e f), ap (λ (o : Writing). o.out) (same e f))

-- Two steps at the desk answer the same, and leave the same words in the book and the same bytes in the output.
two_steps : {r s : Printed} {ws vs out₁ out₂ : List ℕ} {o : Stepping} → stepping r ws out₁ ≡ o → stepping s vs out₂ ≡ o → (r ≡ s) × (ws ≡ vs) × (out₁ ≡ out₂)
two_steps e f = (ap (λ (o : Stepping). o.step) (same e f), ap (λ (o : Stepping). o.book) (same e f), ap (λ (o : Stepping). o.out) (same e f))

-- "Two outcomes allowed by one promise are shown equal": r and s are two answers that the contract allows, and what stands beside them what was lent
-- to be written, right after each call.
module _ (ws os text file out : List ℕ) (k line d : ℕ) where
  -- `order_check::check`
  pub one-check : {r s : Answer} → r ≡ check_of os → s ≡ check_of os → r ≡ s
  one-check = same

  -- `order_cuts::subtree`: the place of the part that is handed out, behind that of the order, and its words
  pub one-subtree : (at : ℕ × ℕ) {p q : ℕ × ℕ} {u v : List ℕ} → (p, u) ≡ piece_at at (subtree_of os line) → (q, v) ≡ piece_at at (subtree_of os line) → (p ≡ q) × (u ≡ v)
  one-subtree at e f = (ap (λ (x : (ℕ × ℕ) × List ℕ). x.0) (same e f), ap (λ (x : (ℕ × ℕ) × List ℕ). x.1) (same e f))

  -- `order_cuts::cut_into`
  pub one-cut : {r s : Written} {u v : List ℕ} → writing r u ≡ cut_into_of os line d out → writing s v ≡ cut_into_of os line d out → (r ≡ s) × (u ≡ v)
  one-cut = two_writings

  -- `order_parts::part_into`
  pub one-part : {r s : PartWritten} {u v : List ℕ} → part_writing r u ≡ part_into_of os line k out → part_writing s v ≡ part_into_of os line k out → (r ≡ s) × (u ≡ v)
  one-part e f = (ap (λ (o : PartWriting). o.answer) (same e f), ap (λ (o : PartWriting). o.out) (same e f))

  -- `form_read::read`
  pub one-read : {r s : Written} {u v : List ℕ} → writing r u ≡ read_of text out → writing s v ≡ read_of text out → (r ≡ s) × (u ≡ v)
  one-read = two_writings

  -- `form_write::write`
  pub one-write : {r s : Written} {u v : List ℕ} → writing r u ≡ write_of os out → writing s v ≡ write_of os out → (r ≡ s) × (u ≡ v)
  one-write = two_writings

  -- `book_form::in_form`
  pub one_form : {r s : Result Places Refusal} → looked r ≡ book_form_of ws → looked s ≡ book_form_of ws → r ≡ s
  one_form e f = same_looked _ _ (same e f)

  -- `book::open`
  pub one-open : {r s : Answer} {u v : List ℕ} → outcome r u ≡ open_of ws k → outcome s v ≡ open_of ws k → (r ≡ s) × (u ≡ v)
  one-open = two_outcomes

  -- `book_judge::judge`
  pub one-judgement : {r s : Answer} → r ≡ judge_of ws os → s ≡ judge_of ws os → r ≡ s
  one-judgement = same

  -- `book_teach::teach`
  pub one-teaching : {r s : Answer} {u v : List ℕ} → outcome r u ≡ teach_of ws os → outcome s v ≡ teach_of ws os → (r ≡ s) × (u ≡ v)
  one-teaching = two_outcomes

  -- `book_teach::withdraw`
  pub one-withdrawal : {r s : Answer} {u v : List ℕ} → outcome r u ≡ withdraw_of ws os → outcome s v ≡ withdraw_of ws os → (r ≡ s) × (u ≡ v)
  one-withdrawal = two_outcomes

  -- `book_join::join`
  pub one-joining : (vs : List ℕ) {r s : Answer} {u v : List ℕ} → outcome r u ≡ join_of ws vs → outcome s v ≡ join_of ws vs → (r ≡ s) × (u ≡ v)
  one-joining vs = two_outcomes

  -- `book_check::check`
  pub one-agreement : {r s : Answer} → r ≡ agree_of ws → s ≡ agree_of ws → r ≡ s
  one-agreement = same

  -- `book_file::write`
  pub one-write_file : {r s : Written} {u v : List ℕ} → writing r u ≡ write_file_of ws out → writing s v ≡ write_file_of ws out → (r ≡ s) × (u ≡ v)
  one-write_file = two_writings

  -- `book_file::read`
  pub one-read_file : {r s : Answer} {u v : List ℕ} → outcome r u ≡ read_file_of file ws → outcome s v ≡ read_file_of file ws → (r ≡ s) × (u ≡ v)
  one-read_file = two_outcomes

  -- `desk_input::opening`
  pub one-opening : {r s : Result ℕ Answer} → r ≡ opening_of text → s ≡ opening_of text → r ≡ s
  one-opening = same

  -- `desk_step::begin`
  pub one-begin : {r s : Printed} {u v p q : List ℕ} → stepping r u p ≡ begin_of text ws out → stepping s v q ≡ begin_of text ws out → (r ≡ s) × (u ≡ v) × (p ≡ q)
  one-begin = two_steps

  -- `desk_step::step`
  pub one-step : {r s : Printed} {u v p q : List ℕ} → stepping r u p ≡ step_of text ws out → stepping s v q ≡ step_of text ws out → (r ≡ s) × (u ≡ v) × (p ≡ q)
  one-step = two_steps

  -- `figures::Depth::new`
  pub one-depth : {r s : Option Depth} → r ≡ depth_of k → s ≡ depth_of k → r ≡ s
  one-depth = same

  -- `figures::asked_number`, `Depth::value`, `Depth::of_tops`, `Depth::of_middles` and `desk_input::Letter::byte`: n is the number that their contracts name.
  pub one_number : {r s n : ℕ} → r ≡ n → s ≡ n → r ≡ s
  one_number = same

-- ---- "a refusal changes nothing lent to the call"

-- A refusal leaves all words and bytes that were lent to be written as they came, and counts none as written.
module _ (ws os text file out : List ℕ) (k line d : ℕ) where
  -- `book::open`
  pub open_leaves : ((open_of ws k).answer.number ≡ done → ⊥) → (open_of ws k).words ≡ ws
  open_leaves = open_refusal_leaves ws k

  -- `book_teach::teach`
  pub teach-leaves : ((teach_of ws os).answer.number ≡ done → ⊥) → (teach_of ws os).words ≡ ws
  teach-leaves = teach-refusal_leaves ws os

  -- `book_teach::withdraw`
  pub withdraw-leaves : ((withdraw_of ws os).answer.number ≡ done → ⊥) → (withdraw_of ws os).words ≡ ws
  withdraw-leaves = withdraw-refusal_leaves ws os

  -- `book_join::join`
  pub join-leaves : (vs : List ℕ) → ((join_of ws vs).answer.number ≡ done → ⊥) → (join_of ws vs).words ≡ ws
  join-leaves vs = join-refusal-leaves ws vs

  -- `form_read::read`
  pub read-leaves : ((read_of text out).answer.number ≡ done → ⊥) → ((read_of text out).out ≡ out) × ((read_of text out).answer.count ≡ 0)
  read-leaves = read-refusal_leaves text out

  -- `form_write::write`
  pub write-leaves : ((write_of os out).answer.number ≡ done → ⊥) → ((write_of os out).out ≡ out) × ((write_of os out).answer.count ≡ 0)
  write-leaves = print_refusal_leaves os out

  -- `book_file::write`
  pub write-file_leaves : ((write_file_of ws out).answer.number ≡ done → ⊥) → ((write_file_of ws out).out ≡ out) × ((write_file_of ws out).answer.count ≡ 0)
  write-file_leaves = file_refusal_leaves ws out

  -- `book_file::read`
  pub read-file_leaves : ((read_file_of file ws).answer.number ≡ done → ⊥) → (read_file_of file ws).words ≡ ws
  read-file_leaves = restore_refusal_leaves file ws

  -- `order_cuts::cut_into`
  pub cut-leaves : ((cut_into_of os line d out).answer.number ≡ done → ⊥) → ((cut_into_of os line d out).out ≡ out) × ((cut_into_of os line d out).answer.count ≡ 0)
  cut-leaves = cut-refusal_leaves os out line d

  -- `order_parts::part_into`
  pub part-leaves : ((part_into_of os line k out).answer.written.number ≡ done → ⊥)
      → ((part_into_of os line k out).out ≡ out) × ((part_into_of os line k out).answer.written.count ≡ 0)
  part-leaves = part-refusal_leaves os out line k

-- A step at the desk prints a refusal's line to the front of the output: the words of the book's slice stay by a fault, as they do by a form that is
-- refused (`desk_leaves`, proofs/AtTheDesk.antt); a step that prints no line leaves all, and one that does the bytes behind its line.
module _ (ws text out : List ℕ) where
  -- `desk_step::begin`: by a fault the words of the book's slice stay.
  pub begin_leaves : (a : Answer) → opening_of text ≡ Err a → (begin_of text ws out).book ≡ ws
  unfolding opening_of begin_of begun_by when◌then◌else◌
  begin_leaves a = go (ltb (length out) reply_room) (handed_in text)
    where
      -- By the room for a line and what is handed in.
      go : (t : Bool) (h : Handed) → opening_by h ≡ Err a → (when t then idle ws out else begun_by (length text) h ws out).book ≡ ws
      go true h e = refl
      go false (faulty b) e = refl
      go false (handed j cs) e = never cc

  -- Where the output has no room for a line, nothing is done: nothing is taken of the input, and the book's slice and the output stay.
  pub begin_idle : length out < reply_room → begin_of text ws out ≡ idle ws out
  begin_idle h = sym (begin_short text ws out h)

  -- `desk_step::step`: so it is then too,
  pub step-idle : length out < reply_room → step_of text ws out ≡ idle ws out
  step-idle h = sym (step-short text ws out h)

  -- and where no letter line stands in front.
  pub step-other_idle : reply_room ≤ length out → letter_at text ≡ None → step_of text ws out ≡ idle ws out
  step-other_idle h e = sym (step_other text ws out h e)

  -- The bytes of the output behind the line that `desk_step::begin` gives stay,
  pub begin_tail : drop (begin_of text ws out).step.count (begin_of text ws out).out ≡ drop (begin_of text ws out).step.count out
  begin_tail = begin_behind text ws out

  -- and those behind the line that `desk_step::step` gives.
  pub step-tail : drop (step_of text ws out).step.count (step_of text ws out).out ≡ drop (step_of text ws out).step.count out
  step-tail = step-behind text ws out
