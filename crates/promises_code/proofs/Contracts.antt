-- The theorems that the prover holds the public functions to, and what their contracts say, word for word.
--
-- `statement` of a function's module says that its code meets its contract: run from any memory in which the caller owns what it lends, a call
-- returns (this is total correctness: see the kit's Denote/Triple/Adequate.antt), touches nothing that it does not own, and leaves what the contract
-- says. Each contract asks nothing of its caller (`⊤ₛ`, and no ghost value) and promises one equation with one definition, for whatever was lent.
-- `args` are the values passed, `r` the result, and `end` what was lent, right after the call; `now` reads the words or bytes of a slice, and `ptr` is where it
-- begins, a block and the bytes before it there. Assumes nothing.
use Prim.Native.Nat.{◌-◌}
use mathlib.Core.Path.{◌≡◌, refl}
use base.Logic
use contract.Monad
use contract.Notation
use types.Logic.{Logic}
use denote.Triple.Spec.{exits}
use seplogic.Ra.Ura
use prog.Memory
use prog.Routine
use Rattle.figures.specs.Answers.{depth_of, number_of}
use Rattle.order.specs.Answers.{check_of, subtree_of, piece_at, writing, cut_into_of, part_writing, part_into_of}
use Rattle.form.specs.Reading.{read_of}
use Rattle.form.specs.Writing.{write_of}
use Rattle.book.specs.Decoding.{looked, book_form_of}
use Rattle.book.specs.Opening.{outcome, open_of}
use Rattle.book_judging.specs.Expecting.{judgement_of}
use Rattle.book_choosing.specs.Choosing.{choose_of}
use Rattle.book_teaching.specs.Calls.{teach_of, withdraw_of}
use Rattle.book_joining.specs.Joining.{join_of}
use Rattle.book.specs.Checking.{agree_of}
use Rattle.book_filing.specs.Files.{write_file_of, read_file_of}
use Rattle.desk_input.specs.Sheets.{letter_byte, opening_of}
use Rattle.desk_step.specs.Steps.{stepping, begin_of, step_of}
use Rattle.order_check.specs.contracts.check as order-check
use Rattle.order_cuts.specs.contracts.subtree
use Rattle.order_cuts.specs.contracts.cut_into as cut-into
use Rattle.order_parts.specs.contracts.part_into as part-into
use Rattle.form_read.specs.contracts.read
use Rattle.form_write.specs.contracts.write
use Rattle.book_form.specs.contracts.in_form
use Rattle.book.specs.contracts.open as book-open
use Rattle.book_judge.specs.contracts.judge
use Rattle.book_choose.specs.contracts.choose
use Rattle.book_teach.specs.contracts.teach
use Rattle.book_teach.specs.contracts.withdraw
use Rattle.book_join.specs.contracts.join
use Rattle.book_check.specs.contracts.check as book-check
use Rattle.book_file.specs.contracts.write as file-write
use Rattle.book_file.specs.contracts.read as file_read
use Rattle.desk_input.specs.contracts.opening
use Rattle.desk_input.specs.contracts.Letter.byte as letter-byte
use Rattle.desk_step.specs.contracts.begin as desk-begin
use Rattle.desk_step.specs.contracts.step as desk-step
use Rattle.order_check.proofs.check.Statement as order-check-statement
use Rattle.order_check.proofs.check.Met as order-check-met
use Rattle.order_cuts.proofs.subtree.Statement as subtree-statement
use Rattle.order_cuts.proofs.subtree.Met as subtree-met
use Rattle.order_cuts.proofs.cut_into.Statement as cut-into-statement
use Rattle.order_cuts.proofs.cut_into.Met as cut-into-met
use Rattle.order_parts.proofs.part_into.Statement as part-into-statement
use Rattle.order_parts.proofs.part_into.Met as part-into-met
use Rattle.form_read.proofs.read.Statement as read-statement
use Rattle.form_read.proofs.read.Met as read-met
use Rattle.form_write.proofs.write.Statement as write-statement
use Rattle.form_write.proofs.write.Met as write-met
use Rattle.book_form.proofs.in_form.Statement as in-form-statement
use Rattle.book_form.proofs.in_form.Met as in-form-met
use Rattle.book.proofs.open.Statement as book-open-statement
use Rattle.book.proofs.open.Met as book-open-met
use Rattle.book_judge.proofs.judge.Statement as judge-statement
use Rattle.book_judge.proofs.judge.Met as judge-met
use Rattle.book_choose.proofs.choose.Statement as choose-statement
use Rattle.book_choose.proofs.choose.Met as choose-met
use Rattle.book_teach.proofs.teach.Statement as teach-statement
use Rattle.book_teach.proofs.teach.Met as teach-met
use Rattle.book_teach.proofs.withdraw.Statement as withdraw-statement
use Rattle.book_teach.proofs.withdraw.Met as withdraw-met
use Rattle.book_join.proofs.join.Statement as join-statement
use Rattle.book_join.proofs.join.Met as join-met
use Rattle.book_check.proofs.check.Statement as book-check-statement
use Rattle.book_check.proofs.check.Met as book-check-met
use Rattle.book_file.proofs.write.Statement as file-write-statement
use Rattle.book_file.proofs.write.Met as file-write-met
use Rattle.book_file.proofs.read.Statement as file-read-statement
use Rattle.book_file.proofs.read.Met as file-read-met
use Rattle.desk_input.proofs.opening.Statement as opening-statement
use Rattle.desk_input.proofs.opening.Met as opening-met
use Rattle.desk_input.proofs.Letter.byte.Statement as letter-byte-statement
use Rattle.desk_input.proofs.Letter.byte.Met as letter-byte-met
use Rattle.desk_step.proofs.begin.Statement as desk-begin-statement
use Rattle.desk_step.proofs.begin.Met as desk-begin-met
use Rattle.desk_step.proofs.step.Statement as desk-step-statement
use Rattle.desk_step.proofs.step.Met as desk-step-met
use Rattle.figures.specs.contracts.depths.Depth.new as depth-new
use Rattle.figures.proofs.depths.Depth.new.Statement as depth-new-statement
use Rattle.figures.proofs.depths.Depth.new.Met as depth-new-met
use Rattle.figures.specs.contracts.asked_number as asked-number
use Rattle.figures.proofs.asked_number.Statement as asked-number-statement
use Rattle.figures.proofs.asked_number.Met as asked-number-met
use Rattle.figures.specs.contracts.depths.Depth.value as depth-value
use Rattle.figures.proofs.depths.Depth.value.Statement as depth-value-statement
use Rattle.figures.proofs.depths.Depth.value.Met as depth-value-met
use Rattle.figures.specs.contracts.depths.Depth.of_tops as depth-of-tops
use Rattle.figures.proofs.depths.Depth.of_tops.Statement as depth-of-tops-statement
use Rattle.figures.proofs.depths.Depth.of_tops.Met as depth-of-tops-met
use Rattle.figures.specs.contracts.depths.Depth.of_middles as depth-of-middles
use Rattle.figures.proofs.depths.Depth.of_middles.Statement as depth-of-middles-statement
use Rattle.figures.proofs.depths.Depth.of_middles.Met as depth-of-middles-met

-- ---- "Every call ends and touches only what it was lent"

module _ {M : Type 1} where
  -- `order_check::check`
  pub order-check_meets : order-check-statement.statement M
  order-check_meets = order-check-met.met

  -- `order_cuts::subtree`
  pub subtree-meets : subtree-statement.statement M
  subtree-meets = subtree-met.met

  -- `order_cuts::cut_into`
  pub cut-into_meets : cut-into-statement.statement M
  cut-into_meets = cut-into-met.met

  -- `order_parts::part_into`
  pub part-into_meets : part-into-statement.statement M
  part-into_meets = part-into-met.met

  -- `form_read::read`
  pub read_meets : read-statement.statement M
  read_meets = read-met.met

  -- `form_write::write`
  pub write_meets : write-statement.statement M
  write_meets = write-met.met

  -- `book_form::in_form`
  pub in_form-meets : in-form-statement.statement M
  in_form-meets = in-form-met.met

  -- `book::open`
  pub open_meets : book-open-statement.statement M
  open_meets = book-open-met.met

  -- `book_judge::judge`
  pub judge_meets : judge-statement.statement M
  judge_meets = judge-met.met

  -- `book_choose::choose`
  pub choose_meets : choose-statement.statement M
  choose_meets = choose-met.met

  -- `book_teach::teach`
  pub teach-meets : teach-statement.statement M
  teach-meets = teach-met.met

  -- `book_teach::withdraw`
  pub withdraw-meets : withdraw-statement.statement M
  withdraw-meets = withdraw-met.met

  -- `book_join::join`
  pub join-meets : join-statement.statement M
  join-meets = join-met.met

  -- `book_check::check`
  pub check_meets : book-check-statement.statement M
  check_meets = book-check-met.met

  -- `book_file::write`
  pub write-file_meets : file-write-statement.statement M
  write-file_meets = file-write-met.met

  -- `book_file::read`
  pub read-file_meets : file-read-statement.statement M
  read-file_meets = file-read-met.met

  -- `desk_input::opening`
  pub opening-meets : opening-statement.statement M
  opening-meets = opening-met.met

  -- `desk_input::Letter::byte`
  pub letter-byte_meets : letter-byte-statement.statement M
  letter-byte_meets = letter-byte-met.met

  -- `desk_step::begin`
  pub begin_meets : desk-begin-statement.statement M
  begin_meets = desk-begin-met.met

  -- `desk_step::step`
  pub step-meets : desk-step-statement.statement M
  step-meets = desk-step-met.met

  -- `figures::Depth::new`
  pub depth-new_meets : depth-new-statement.statement M
  depth-new_meets = depth-new-met.met

  -- `figures::asked_number`
  pub asked_number_meets : asked-number-statement.statement M
  asked_number_meets = asked-number-met.met

  -- `figures::Depth::value`
  pub depth-value_meets : depth-value-statement.statement M
  depth-value_meets = depth-value-met.met

  -- `figures::Depth::of_tops`
  pub depth-of_tops-meets : depth-of-tops-statement.statement M
  depth-of_tops-meets = depth-of-tops-met.met

  -- `figures::Depth::of_middles`
  pub depth-of_middles-meets : depth-of-middles-statement.statement M
  depth-of_middles-meets = depth-of-middles-met.met

-- ---- what the contracts say

module _ {M : Type 1} {𝓤 : Ura.Ura M} (𝓛 : Logic 𝓤) (mem : Memory.Memory → Logic.SProp 𝓤) (run : Routine.Routine → Monad.Fun 𝓤) where
  open Notation.connectives 𝓤 use {⌜◌⌝, ⊤ₛ}

  -- `order_check::check`
  pub order-check_says : (κs args g r : _) → let c = order-check.spec 𝓛 mem run κs args in
      (c.ghost ≡ Unit {0}) × (c.requires g ≡ ⊤ₛ) × (c.ensures g r ≡ exits 𝓛 order-check.signature (order-check.ended).kept κs args (λ end. ⌜ r ≡ check_of args.0.now ⌝))
  order-check_says κs args g r = (refl, refl, refl)

  -- `order_cuts::subtree`
  pub subtree-says : (κs args g r : _) → let c = subtree.spec 𝓛 mem run κs args in
      (c.ghost ≡ Unit {0}) × (c.requires g ≡ ⊤ₛ) × (c.ensures g r ≡ exits 𝓛 subtree.signature (subtree.ended).kept κs args (λ end. ⌜ (r.ref_ptr, r.now) ≡ piece_at args.0.ref_ptr (subtree_of args.0.now args.1.0) ⌝))
  subtree-says κs args g r = (refl, refl, refl)

  -- `order_cuts::cut_into`
  pub cut-into_says : (κs args g r : _) → let c = cut-into.spec 𝓛 mem run κs args in
      (c.ghost ≡ Unit {0}) × (c.requires g ≡ ⊤ₛ)
      × (c.ensures g r ≡ exits 𝓛 cut-into.signature (cut-into.ended).kept κs args (λ end. ⌜ writing r end.1.1.1.0.now ≡ cut_into_of args.0.now args.1.0 args.1.1.0 args.1.1.1.0.now ⌝))
  cut-into_says κs args g r = (refl, refl, refl)

  -- `order_parts::part_into`
  pub part-into_says : (κs args g r : _) → let c = part-into.spec 𝓛 mem run κs args in
      (c.ghost ≡ Unit {0}) × (c.requires g ≡ ⊤ₛ)
      × (c.ensures g r ≡ exits 𝓛 part-into.signature (part-into.ended).kept κs args (λ end. ⌜ part_writing r end.1.1.1.0.now ≡ part_into_of args.0.now args.1.0 args.1.1.0.k args.1.1.1.0.now ⌝))
  part-into_says κs args g r = (refl, refl, refl)

  -- `form_read::read`
  pub read-says : (κs args g r : _) → let c = read.spec 𝓛 mem run κs args in
      (c.ghost ≡ Unit {0}) × (c.requires g ≡ ⊤ₛ) × (c.ensures g r ≡ exits 𝓛 read.signature (read.ended).kept κs args (λ end. ⌜ writing r end.1.0.now ≡ read_of args.0.now args.1.0.now ⌝))
  read-says κs args g r = (refl, refl, refl)

  -- `form_write::write`
  pub write-says : (κs args g r : _) → let c = write.spec 𝓛 mem run κs args in
      (c.ghost ≡ Unit {0}) × (c.requires g ≡ ⊤ₛ) × (c.ensures g r ≡ exits 𝓛 write.signature (write.ended).kept κs args (λ end. ⌜ writing r end.1.0.now ≡ write_of args.0.now args.1.0.now ⌝))
  write-says κs args g r = (refl, refl, refl)

  -- `book_form::in_form`
  pub in_form-says : (κs args g r : _) → let c = in_form.spec 𝓛 mem run κs args in
      (c.ghost ≡ Unit {0}) × (c.requires g ≡ ⊤ₛ) × (c.ensures g r ≡ exits 𝓛 in_form.signature (in_form.ended).kept κs args (λ end. ⌜ looked r ≡ book_form_of args.0.now ⌝))
  in_form-says κs args g r = (refl, refl, refl)

  -- `book::open`
  pub open_says : (κs args g r : _) → let c = book-open.spec 𝓛 mem run κs args in
      (c.ghost ≡ Unit {0}) × (c.requires g ≡ ⊤ₛ) × (c.ensures g r ≡ exits 𝓛 book-open.signature (book-open.ended).kept κs args (λ end. ⌜ outcome r end.0.now ≡ open_of args.0.now args.1.0 ⌝))
  open_says κs args g r = (refl, refl, refl)

  -- `book_judge::judge`
  pub judge_says : (κs args g r : _) → let c = judge.spec 𝓛 mem run κs args in
      (c.ghost ≡ Unit {0}) × (c.requires g ≡ ⊤ₛ) × (c.ensures g r ≡ exits 𝓛 judge.signature (judge.ended).kept κs args (λ end. ⌜ r ≡ judgement_of args.0.now args.1.0.now ⌝))
  judge_says κs args g r = (refl, refl, refl)

  -- `book_choose::choose`
  pub choose_says : (κs args g r : _) → let c = choose.spec 𝓛 mem run κs args in
      (c.ghost ≡ Unit {0}) × (c.requires g ≡ ⊤ₛ) × (c.ensures g r ≡ exits 𝓛 choose.signature (choose.ended).kept κs args (λ end. ⌜ r ≡ choose_of args.0.now args.1.0.now args.1.1.0.now ⌝))
  choose_says κs args g r = (refl, refl, refl)

  -- `book_teach::teach`
  pub teach-says : (κs args g r : _) → let c = teach.spec 𝓛 mem run κs args in
      (c.ghost ≡ Unit {0}) × (c.requires g ≡ ⊤ₛ) × (c.ensures g r ≡ exits 𝓛 teach.signature (teach.ended).kept κs args (λ end. ⌜ outcome r end.0.now ≡ teach_of args.0.now args.1.0.now ⌝))
  teach-says κs args g r = (refl, refl, refl)

  -- `book_teach::withdraw`
  pub withdraw-says : (κs args g r : _) → let c = withdraw.spec 𝓛 mem run κs args in
      (c.ghost ≡ Unit {0}) × (c.requires g ≡ ⊤ₛ) × (c.ensures g r ≡ exits 𝓛 withdraw.signature (withdraw.ended).kept κs args (λ end. ⌜ outcome r end.0.now ≡ withdraw_of args.0.now args.1.0.now ⌝))
  withdraw-says κs args g r = (refl, refl, refl)

  -- `book_join::join`
  pub join-says : (κs args g r : _) → let c = join.spec 𝓛 mem run κs args in
      (c.ghost ≡ Unit {0}) × (c.requires g ≡ ⊤ₛ) × (c.ensures g r ≡ exits 𝓛 join.signature (join.ended).kept κs args (λ end. ⌜ outcome r end.0.now ≡ join_of args.0.now args.1.0.now ⌝))
  join-says κs args g r = (refl, refl, refl)

  -- `book_check::check`
  pub check_says : (κs args g r : _) → let c = book-check.spec 𝓛 mem run κs args in
      (c.ghost ≡ Unit {0}) × (c.requires g ≡ ⊤ₛ) × (c.ensures g r ≡ exits 𝓛 book-check.signature (book-check.ended).kept κs args (λ end. ⌜ r ≡ agree_of args.0.now ⌝))
  check_says κs args g r = (refl, refl, refl)

  -- `book_file::write`
  pub write-file_says : (κs args g r : _) → let c = file-write.spec 𝓛 mem run κs args in
      (c.ghost ≡ Unit {0}) × (c.requires g ≡ ⊤ₛ) × (c.ensures g r ≡ exits 𝓛 file-write.signature (file-write.ended).kept κs args (λ end. ⌜ writing r end.1.0.now ≡ write_file_of args.0.now args.1.0.now ⌝))
  write-file_says κs args g r = (refl, refl, refl)

  -- `book_file::read`
  pub read-file_says : (κs args g r : _) → let c = file_read.spec 𝓛 mem run κs args in
      (c.ghost ≡ Unit {0}) × (c.requires g ≡ ⊤ₛ) × (c.ensures g r ≡ exits 𝓛 file_read.signature (file_read.ended).kept κs args (λ end. ⌜ outcome r end.1.0.now ≡ read_file_of args.0.now args.1.0.now ⌝))
  read-file_says κs args g r = (refl, refl, refl)

  -- `desk_input::opening`
  pub opening-says : (κs args g r : _) → let c = opening.spec 𝓛 mem run κs args in
      (c.ghost ≡ Unit {0}) × (c.requires g ≡ ⊤ₛ) × (c.ensures g r ≡ exits 𝓛 opening.signature (opening.ended).kept κs args (λ end. ⌜ r ≡ opening_of args.0.now ⌝))
  opening-says κs args g r = (refl, refl, refl)

  -- `desk_input::Letter::byte`
  pub letter-byte_says : (κs args g r : _) → let c = letter-byte.spec 𝓛 mem run κs args in
      (c.ghost ≡ Unit {0}) × (c.requires g ≡ ⊤ₛ) × (c.ensures g r ≡ exits 𝓛 letter-byte.signature (letter-byte.ended).kept κs args (λ end. ⌜ r ≡ letter_byte args.0 ⌝))
  letter-byte_says κs args g r = (refl, refl, refl)

  -- `desk_step::begin`
  pub begin_says : (κs args g r : _) → let c = desk-begin.spec 𝓛 mem run κs args in
      (c.ghost ≡ Unit {0}) × (c.requires g ≡ ⊤ₛ)
      × (c.ensures g r ≡ exits 𝓛 desk-begin.signature (desk-begin.ended).kept κs args (λ end. ⌜ stepping r end.1.0.now end.1.1.0.now ≡ begin_of args.0.now args.1.0.now args.1.1.0.now ⌝))
  begin_says κs args g r = (refl, refl, refl)

  -- `desk_step::step`
  pub step-says : (κs args g r : _) → let c = desk-step.spec 𝓛 mem run κs args in
      (c.ghost ≡ Unit {0}) × (c.requires g ≡ ⊤ₛ)
      × (c.ensures g r ≡ exits 𝓛 desk-step.signature (desk-step.ended).kept κs args (λ end. ⌜ stepping r end.1.0.now end.1.1.0.now ≡ step_of args.0.now args.1.0.now args.1.1.0.now ⌝))
  step-says κs args g r = (refl, refl, refl)

  -- `figures::Depth::new`
  pub depth-new_says : (κs args g r : _) → let c = depth-new.spec 𝓛 mem run κs args in
      (c.ghost ≡ Unit {0}) × (c.requires g ≡ ⊤ₛ) × (c.ensures g r ≡ exits 𝓛 depth-new.signature (depth-new.ended).kept κs args (λ end. ⌜ r ≡ depth_of args.0 ⌝))
  depth-new_says κs args g r = (refl, refl, refl)

  -- `figures::asked_number`
  pub asked_number_says : (κs args g r : _) → let c = asked-number.spec 𝓛 mem run κs args in
      (c.ghost ≡ Unit {0}) × (c.requires g ≡ ⊤ₛ) × (c.ensures g r ≡ exits 𝓛 asked-number.signature (asked-number.ended).kept κs args (λ end. ⌜ r ≡ number_of args.0 ⌝))
  asked_number_says κs args g r = (refl, refl, refl)

  -- `figures::Depth::value`
  pub depth-value_says : (κs args g r : _) → let c = depth-value.spec 𝓛 mem run κs args in
      (c.ghost ≡ Unit {0}) × (c.requires g ≡ ⊤ₛ) × (c.ensures g r ≡ exits 𝓛 depth-value.signature (depth-value.ended).kept κs args (λ end. ⌜ r ≡ args.0.k ⌝))
  depth-value_says κs args g r = (refl, refl, refl)

  -- `figures::Depth::of_tops`
  pub depth-of_tops-says : (κs args g r : _) → let c = depth-of-tops.spec 𝓛 mem run κs args in
      (c.ghost ≡ Unit {0}) × (c.requires g ≡ ⊤ₛ) × (c.ensures g r ≡ exits 𝓛 depth-of-tops.signature (depth-of-tops.ended).kept κs args (λ end. ⌜ r ≡ args.0.k - 2 ⌝))
  depth-of_tops-says κs args g r = (refl, refl, refl)

  -- `figures::Depth::of_middles`
  pub depth-of_middles-says : (κs args g r : _) → let c = depth-of-middles.spec 𝓛 mem run κs args in
      (c.ghost ≡ Unit {0}) × (c.requires g ≡ ⊤ₛ) × (c.ensures g r ≡ exits 𝓛 depth-of-middles.signature (depth-of-middles.ended).kept κs args (λ end. ⌜ r ≡ args.0.k - 1 ⌝))
  depth-of_middles-says κs args g r = (refl, refl, refl)
