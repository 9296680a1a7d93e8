-- What a program in C gets of the twelve functions of include/ofb.h: the theorems that the prover holds them to, what their contracts say, word for word (as
-- proofs/Contracts.antt does it for the functions below them), and that C gets number, line, count, what judging hands on, the image and all that was lent as they are
-- below. So each demand holds of the C functions as it does of those below. Assumes nothing.
use Prim.Native.Nat.{ℕ, ◌-◌, ◌*◌}
use mathlib.Core.Path.{◌≡◌, refl, ap}
use mathlib.Core.Bool.{Bool, true, false}
use mathlib.Core.List.{List, [], ◌∷◌}
use base.Logic
use contract.Monad
use contract.Notation
use types.Logic.{Logic}
use denote.Triple.Spec.{exits}
use denote.Struct.Field
use seplogic.Ra.Ura
use native.Mathlib.Omega.{arith}
use lib.ListN.{length, take, drop}
use prog.Memory
use prog.Routine
use Rattle.words.specs.Base.{when◌then◌else◌}
use Rattle.figures.specs.declared.Answer.{Answer}
use Rattle.figures.specs.declared.Written.{Written}
use Rattle.section.specs.Near.{near}
use Rattle.order.specs.Answers.{Writing, subtree_of}
use Rattle.form.specs.Reading.{read_of}
use Rattle.form.specs.Writing.{write_of}
use Rattle.book.specs.Opening.{Outcome, open_of}
use Rattle.book_judging.specs.Expecting.{judgement_of}
use Rattle.book_judging.specs.declared.Judgement.{Judgement}
use Rattle.book_choosing.specs.Choosing.{choose_of}
use Rattle.book_choosing.specs.declared.Chosen.{Chosen}
use Rattle.book_teaching.specs.Calls.{teach_of, withdraw_of}
use Rattle.book_joining.specs.Joining.{join_of}
use Rattle.book.specs.Checking.{agree_of}
use Rattle.book_filing.specs.Files.{write_file_of, read_file_of}
use Rattle.ofb.specs.Interface.{told_of, told_written_of, told_judged_of, told_image_of, handed, outcome_in_c, writing_in_c, part_in_c}
use Rattle.ofb.specs.declared.OfbAnswer.{OfbAnswer}
use Rattle.ofb.specs.declared.OfbJudged.{OfbJudged}
use Rattle.ofb.specs.declared.OfbImage.{OfbImage}
use Rattle.ofb.specs.declared.OfbPart.{OfbPart}
use Rattle.ofb.proofs.Parts.{part_none, part-some, part-stands}
use Rattle.ofb.specs.contracts.OfbAnswer as ofb-answer
use Rattle.ofb.specs.contracts.OfbJudged as ofb-judged
use Rattle.ofb.specs.contracts.OfbImage as ofb-image
use Rattle.ofb.specs.contracts.OfbPart as ofb-part
use Rattle.ofb.specs.contracts.ofb_open as ofb-open
use Rattle.ofb.specs.contracts.ofb_teach as ofb-teach
use Rattle.ofb.specs.contracts.ofb_withdraw as ofb-withdraw
use Rattle.ofb.specs.contracts.ofb_join as ofb-join
use Rattle.ofb.specs.contracts.ofb_judge as ofb-judge
use Rattle.ofb.specs.contracts.ofb_choose as ofb-choose
use Rattle.ofb.specs.contracts.ofb_check as ofb-check
use Rattle.ofb.specs.contracts.ofb_write_file as ofb-write-file
use Rattle.ofb.specs.contracts.ofb_read_file as ofb-read-file
use Rattle.ofb.specs.contracts.ofb_read_text as ofb-read-text
use Rattle.ofb.specs.contracts.ofb_write_text as ofb-write-text
use Rattle.ofb.specs.contracts.ofb_subtree as ofb-subtree
use Rattle.ofb.proofs.ofb_open.Statement as ofb-open-statement
use Rattle.ofb.proofs.ofb_open.Met as ofb-open-met
use Rattle.ofb.proofs.ofb_teach.Statement as ofb-teach-statement
use Rattle.ofb.proofs.ofb_teach.Met as ofb-teach-met
use Rattle.ofb.proofs.ofb_withdraw.Statement as ofb-withdraw-statement
use Rattle.ofb.proofs.ofb_withdraw.Met as ofb-withdraw-met
use Rattle.ofb.proofs.ofb_join.Statement as ofb-join-statement
use Rattle.ofb.proofs.ofb_join.Met as ofb-join-met
use Rattle.ofb.proofs.ofb_judge.Statement as ofb-judge-statement
use Rattle.ofb.proofs.ofb_judge.Met as ofb-judge-met
use Rattle.ofb.proofs.ofb_choose.Statement as ofb-choose-statement
use Rattle.ofb.proofs.ofb_choose.Met as ofb-choose-met
use Rattle.ofb.proofs.ofb_check.Statement as ofb-check-statement
use Rattle.ofb.proofs.ofb_check.Met as ofb-check-met
use Rattle.ofb.proofs.ofb_write_file.Statement as ofb-write-file-statement
use Rattle.ofb.proofs.ofb_write_file.Met as ofb-write-file-met
use Rattle.ofb.proofs.ofb_read_file.Statement as ofb-read-file-statement
use Rattle.ofb.proofs.ofb_read_file.Met as ofb-read-file-met
use Rattle.ofb.proofs.ofb_read_text.Statement as ofb-read-text-statement
use Rattle.ofb.proofs.ofb_read_text.Met as ofb-read-text-met
use Rattle.ofb.proofs.ofb_write_text.Statement as ofb-write-text-statement
use Rattle.ofb.proofs.ofb_write_text.Met as ofb-write-text-met
use Rattle.ofb.proofs.ofb_subtree.Statement as ofb-subtree-statement
use Rattle.ofb.proofs.ofb_subtree.Met as ofb-subtree-met

-- ---- "Every call ends and touches only what it was lent"

module _ {M : Type 1} where
  -- `ofb_open`
  pub ofb_open_meets : ofb-open-statement.statement M
  ofb_open_meets = ofb-open-met.met

  -- `ofb_teach`
  pub ofb_teach-meets : ofb-teach-statement.statement M
  ofb_teach-meets = ofb-teach-met.met

  -- `ofb_withdraw`
  pub ofb_withdraw-meets : ofb-withdraw-statement.statement M
  ofb_withdraw-meets = ofb-withdraw-met.met

  -- `ofb_join`
  pub ofb_join-meets : ofb-join-statement.statement M
  ofb_join-meets = ofb-join-met.met

  -- `ofb_judge`
  pub ofb_judge_meets : ofb-judge-statement.statement M
  ofb_judge_meets = ofb-judge-met.met

  -- `ofb_choose`
  pub ofb_choose_meets : ofb-choose-statement.statement M
  ofb_choose_meets = ofb-choose-met.met

  -- `ofb_check`
  pub ofb_check_meets : ofb-check-statement.statement M
  ofb_check_meets = ofb-check-met.met

  -- `ofb_write_file`
  pub ofb_write-file_meets : ofb-write-file-statement.statement M
  ofb_write-file_meets = ofb-write-file-met.met

  -- `ofb_read_file`
  pub ofb_read-file_meets : ofb-read-file-statement.statement M
  ofb_read-file_meets = ofb-read-file-met.met

  -- `ofb_read_text`
  pub ofb_read-text_meets : ofb-read-text-statement.statement M
  ofb_read-text_meets = ofb-read-text-met.met

  -- `ofb_write_text`
  pub ofb_write-text_meets : ofb-write-text-statement.statement M
  ofb_write-text_meets = ofb-write-text-met.met

  -- `ofb_subtree`
  pub ofb_subtree-meets : ofb-subtree-statement.statement M
  ofb_subtree-meets = ofb-subtree-met.met

-- ---- what the contracts say

module _ {M : Type 1} {𝓤 : Ura.Ura M} (𝓛 : Logic 𝓤) (mem : Memory.Memory → Logic.SProp 𝓤) (run : Routine.Routine → Monad.Fun 𝓤) where
  open Notation.connectives 𝓤 use {⌜◌⌝, ⊤ₛ}

  -- `ofb_open`
  pub ofb_open_says : (κs args g r : _) → let c = ofb-open.spec 𝓛 mem run κs args in
      (c.ghost ≡ Unit {0}) × (c.requires g ≡ ⊤ₛ) × (c.ensures g r ≡ exits 𝓛 ofb-open.signature (ofb-open.ended).kept κs args (λ end. ⌜ handed r end.0.now ≡ outcome_in_c (open_of args.0.now args.1.0) ⌝))
  ofb_open_says κs args g r = (refl, refl, refl)

  -- `ofb_teach`
  pub ofb_teach-says : (κs args g r : _) → let c = ofb-teach.spec 𝓛 mem run κs args in
      (c.ghost ≡ Unit {0}) × (c.requires g ≡ ⊤ₛ) × (c.ensures g r ≡ exits 𝓛 ofb-teach.signature (ofb-teach.ended).kept κs args (λ end. ⌜ handed r end.0.now ≡ outcome_in_c (teach_of args.0.now args.1.0.now) ⌝))
  ofb_teach-says κs args g r = (refl, refl, refl)

  -- `ofb_withdraw`
  pub ofb_withdraw-says : (κs args g r : _) → let c = ofb-withdraw.spec 𝓛 mem run κs args in
      (c.ghost ≡ Unit {0}) × (c.requires g ≡ ⊤ₛ) × (c.ensures g r ≡ exits 𝓛 ofb-withdraw.signature (ofb-withdraw.ended).kept κs args (λ end. ⌜ handed r end.0.now ≡ outcome_in_c (withdraw_of args.0.now args.1.0.now) ⌝))
  ofb_withdraw-says κs args g r = (refl, refl, refl)

  -- `ofb_join`
  pub ofb_join-says : (κs args g r : _) → let c = ofb-join.spec 𝓛 mem run κs args in
      (c.ghost ≡ Unit {0}) × (c.requires g ≡ ⊤ₛ) × (c.ensures g r ≡ exits 𝓛 ofb-join.signature (ofb-join.ended).kept κs args (λ end. ⌜ handed r end.0.now ≡ outcome_in_c (join_of args.0.now args.1.0.now) ⌝))
  ofb_join-says κs args g r = (refl, refl, refl)

  -- `ofb_judge`
  pub ofb_judge_says : (κs args g r : _) → let c = ofb-judge.spec 𝓛 mem run κs args in
      (c.ghost ≡ Unit {0}) × (c.requires g ≡ ⊤ₛ) × (c.ensures g r ≡ exits 𝓛 ofb-judge.signature (ofb-judge.ended).kept κs args (λ end. ⌜ r ≡ told_judged_of (judgement_of args.0.now args.1.0.now) ⌝))
  ofb_judge_says κs args g r = (refl, refl, refl)

  -- `ofb_choose`
  pub ofb_choose_says : (κs args g r : _) → let c = ofb-choose.spec 𝓛 mem run κs args in
      (c.ghost ≡ Unit {0}) × (c.requires g ≡ ⊤ₛ) × (c.ensures g r ≡ exits 𝓛 ofb-choose.signature (ofb-choose.ended).kept κs args (λ end. ⌜ r ≡ told_image_of (choose_of args.0.now args.1.0.now args.1.1.0.now) ⌝))
  ofb_choose_says κs args g r = (refl, refl, refl)

  -- `ofb_check`
  pub ofb_check_says : (κs args g r : _) → let c = ofb-check.spec 𝓛 mem run κs args in
      (c.ghost ≡ Unit {0}) × (c.requires g ≡ ⊤ₛ) × (c.ensures g r ≡ exits 𝓛 ofb-check.signature (ofb-check.ended).kept κs args (λ end. ⌜ r ≡ told_of (agree_of args.0.now) ⌝))
  ofb_check_says κs args g r = (refl, refl, refl)

  -- `ofb_write_file`
  pub ofb_write-file_says : (κs args g r : _) → let c = ofb-write-file.spec 𝓛 mem run κs args in
      (c.ghost ≡ Unit {0}) × (c.requires g ≡ ⊤ₛ) × (c.ensures g r ≡ exits 𝓛 ofb-write-file.signature (ofb-write-file.ended).kept κs args (λ end. ⌜ handed r end.1.0.now ≡ writing_in_c (write_file_of args.0.now args.1.0.now) ⌝))
  ofb_write-file_says κs args g r = (refl, refl, refl)

  -- `ofb_read_file`
  pub ofb_read-file_says : (κs args g r : _) → let c = ofb-read-file.spec 𝓛 mem run κs args in
      (c.ghost ≡ Unit {0}) × (c.requires g ≡ ⊤ₛ) × (c.ensures g r ≡ exits 𝓛 ofb-read-file.signature (ofb-read-file.ended).kept κs args (λ end. ⌜ handed r end.1.0.now ≡ outcome_in_c (read_file_of args.0.now args.1.0.now) ⌝))
  ofb_read-file_says κs args g r = (refl, refl, refl)

  -- `ofb_read_text`
  pub ofb_read-text_says : (κs args g r : _) → let c = ofb-read-text.spec 𝓛 mem run κs args in
      (c.ghost ≡ Unit {0}) × (c.requires g ≡ ⊤ₛ) × (c.ensures g r ≡ exits 𝓛 ofb-read-text.signature (ofb-read-text.ended).kept κs args (λ end. ⌜ handed r end.1.0.now ≡ writing_in_c (read_of args.0.now args.1.0.now) ⌝))
  ofb_read-text_says κs args g r = (refl, refl, refl)

  -- `ofb_write_text`
  pub ofb_write-text_says : (κs args g r : _) → let c = ofb-write-text.spec 𝓛 mem run κs args in
      (c.ghost ≡ Unit {0}) × (c.requires g ≡ ⊤ₛ) × (c.ensures g r ≡ exits 𝓛 ofb-write-text.signature (ofb-write-text.ended).kept κs args (λ end. ⌜ handed r end.1.0.now ≡ writing_in_c (write_of args.0.now args.1.0.now) ⌝))
  ofb_write-text_says κs args g r = (refl, refl, refl)

  -- `ofb_subtree`
  pub ofb_subtree-says : (κs args g r : _) → let c = ofb-subtree.spec 𝓛 mem run κs args in
      (c.ghost ≡ Unit {0}) × (c.requires g ≡ ⊤ₛ) × (c.ensures g r ≡ exits 𝓛 ofb-subtree.signature (ofb-subtree.ended).kept κs args (λ end. ⌜ r ≡ part_in_c (subtree_of args.0.now args.1.0) ⌝))
  ofb_subtree-says κs args g r = (refl, refl, refl)

-- ---- as it is

-- C gets the number and the line of an answer as they are, and 0 as written: by 01 only a call that writes "words that are not a book" reports how many.
pub told-as_it_is : (a : Answer) → ((told_of a).number ≡ a.number) × ((told_of a).line ≡ a.line) × ((told_of a).written ≡ 0)
told-as_it_is a = (refl, refl, refl)

-- Of a call that writes text, file bytes, or words that are not a book C gets the number, the line and the count as they are.
pub told-written_as_it_is : (a : Written) → ((told_written_of a).number ≡ a.number) × ((told_written_of a).line ≡ a.line) × ((told_written_of a).written ≡ a.count)
told-written_as_it_is a = (refl, refl, refl)

-- Of a judgement C gets the number, the line, how many stand below and both places as they are, and whether the part is there as 1 or 0.
pub told-judged_as_it_is : (j : Judgement) → ((told_judged_of j).number ≡ j.answer.number) × ((told_judged_of j).line ≡ j.answer.line)
    × ((told_judged_of j).below ≡ j.near.below) × (j.near.there ≡ true → (told_judged_of j).there ≡ 1)
    × (j.near.there ≡ false → (told_judged_of j).there ≡ 0) × ((told_judged_of j).place_below ≡ j.near.low) × ((told_judged_of j).place_above ≡ j.near.high)
unfolding when◌then◌else◌
told-judged_as_it_is j = (refl, refl, refl, λ e. rw e, λ e. rw e, refl, refl)

-- So nothing of a judgement is lost: two that C gets as the same are the same.
pub told-judged_back : (j i : Judgement) → told_judged_of j ≡ told_judged_of i → j ≡ i
unfolding when◌then◌else◌
told-judged_back j i e =
    same
    (ap (λ (o : OfbJudged). o.number) e)
    (ap (λ (o : OfbJudged). o.line) e)
    (ap (λ (o : OfbJudged). o.below) e)
    (one-test j.near.there i.near.there (ap (λ (o : OfbJudged). o.there) e))
    (ap (λ (o : OfbJudged). o.place_below) e)
    (ap (λ (o : OfbJudged). o.place_above) e)
  where
    -- Two tests that are told by the same number are the same.
    one-test : (a b : Bool) → ◌≡◌ {A = ℕ} (when a then 1 else 0) (when b then 1 else 0) → a ≡ b
    one-test true true f = refl
    one-test true false f = absurd (omega arith)
    one-test false true f = absurd (omega arith)
    one-test false false f = refl

    -- Judgements of the same figures are the same.
    same : {n m l k a b p q v w : ℕ} {x y : Bool} → n ≡ m → l ≡ k → a ≡ b → x ≡ y → p ≡ q → v ≡ w
        → ◌≡◌ {A = Judgement} (record { answer = record { number = n; line = l }; near = near a x p v })
        (record { answer = record { number = m; line = k }; near = near b y q w })
    same f g h t c d = cc

-- Of what choosing answers C gets the number, the line and the image as they are.
pub told-image_as_it_is : (c : Chosen) → ((told_image_of c).number ≡ c.number) × ((told_image_of c).line ≡ c.line) × ((told_image_of c).image ≡ c.image)
told-image_as_it_is c = (refl, refl, refl)

-- So nothing of it is lost: two that C gets as the same are the same.
pub told-image_back : (c d : Chosen) → told_image_of c ≡ told_image_of d → c ≡ d
told-image_back c d e = same (ap (λ (i : OfbImage). i.number) e) (ap (λ (i : OfbImage). i.line) e) (ap (λ (i : OfbImage). i.image) e)
  where
    -- Those of the same figures are the same.
    same : {n m l k a b : ℕ} → n ≡ m → l ≡ k → a ≡ b
        → ◌≡◌ {A = Chosen} (record { number = n; line = l; image = a }) (record { number = m; line = k; image = b })
    same f g h = cc

-- A call that may write a book tells C its answer so, and leaves the words that the function below leaves.
pub outcome-as_it_is : (o : Outcome) → ((outcome_in_c o).answer ≡ told_of o.answer) × ((outcome_in_c o).lent ≡ o.words)
outcome-as_it_is o = (refl, refl)

-- A call that writes an output tells C its answer so, and leaves the output that the function below leaves.
pub writing-as_it_is : (w : Writing) → ((writing_in_c w).answer ≡ told_written_of w.answer) × ((writing_in_c w).lent ≡ w.out)
writing-as_it_is w = (refl, refl)

-- ---- place by place

-- An answer lies in C as a number of 16 bits, a line of 16 bits and a count of 32, in this order.
pub answer-laid : ((ofb-answer.struct).parts ≡ Field.u16-field ∷ Field.u16-field ∷ Field.u32-field ∷ [])
    × ((a : OfbAnswer) → (ofb-answer.struct).as_values a ≡ (a.number, (a.line, (a.written, tt))))
answer-laid = (refl, λ a. refl)

-- A judgement lies there as six numbers of 16 bits: number, line, how many stand below, whether it is there, and the places below and above, in this order.
pub judged-laid : ((ofb-judged.struct).parts ≡ Field.u16-field ∷ Field.u16-field ∷ Field.u16-field ∷ Field.u16-field ∷ Field.u16-field ∷ Field.u16-field ∷ [])
    × ((j : OfbJudged) → (ofb-judged.struct).as_values j ≡ (j.number, (j.line, (j.below, (j.there, (j.place_below, (j.place_above, tt)))))))
judged-laid = (refl, λ j. refl)

-- What choosing answers lies there as a number of 16 bits, a line of 16 bits and an image of 32, in this order.
pub image-laid : ((ofb-image.struct).parts ≡ Field.u16-field ∷ Field.u16-field ∷ Field.u32-field ∷ [])
    × ((i : OfbImage) → (ofb-image.struct).as_values i ≡ (i.number, (i.line, (i.image, tt))))
image-laid = (refl, λ i. refl)

-- A part lies there as its start and how many words it has, of 32 bits each, in this order.
pub part-laid : ((ofb-part.struct).parts ≡ Field.u32-field ∷ Field.u32-field ∷ []) × ((p : OfbPart) → (ofb-part.struct).as_values p ≡ (p.start, (p.words, tt)))
part-laid = (refl, λ p. refl)

-- ---- the part in C

-- The part that C gets is the subtree of the line: "handed out as that part, asked for by its line".
pub part-in_c : (os : List ℕ) (line : ℕ) → let p = part_in_c (subtree_of os line) in take p.words (drop p.start os) ≡ (subtree_of os line).words
part-in_c os line = part-stands os line

-- It has as many words as the subtree, and lies behind the two words of each line before it; an empty part lies at the front.
pub part-place : (os : List ℕ) (line : ℕ) → let p = part_in_c (subtree_of os line) in
    (p.words ≡ length (subtree_of os line).words) × ((p.words ≡ 0 → ⊥) → p.start ≡ (line - 1) * 2) × (p.words ≡ 0 → p.start ≡ 0)
part-place os line = (refl, λ n. (part-some os line n).start, part_none os line)
