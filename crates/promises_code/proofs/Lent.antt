-- What each public function is lent, in the order of its parameters: slices to be read alone, slices to be written, and values. What is lent to be read alone
-- comes back as it was, by the function's own theorem (proofs/Contracts.antt); and of each slice that is lent to be written the contract speaks at exit. So no
-- function changes more than its contract says. Assumes nothing.
use Prim.Native.Nat.{ℕ}
use mathlib.Core.Path.{◌≡◌, refl}
use mathlib.Core.List.{[], ◌∷◌}
use contract.Lifetimes.{Within}
use denote.Builtin
use denote.Signature.{Slot, plain}
use Rattle.figures.specs.contracts.depths.Depth as depth
use Rattle.order_check.specs.contracts.check as order-check
use Rattle.order_cuts.specs.contracts.subtree
use Rattle.order_cuts.specs.contracts.cut_into as cut-into
use Rattle.order_parts.specs.contracts.part_into as part-into
use Rattle.form_read.specs.contracts.read
use Rattle.form_write.specs.contracts.write
use Rattle.book_form.specs.contracts.in_form
use Rattle.book.specs.contracts.open as book-open
use Rattle.book_judge.specs.contracts.judge
use Rattle.book_choose.specs.contracts.choose
use Rattle.book_teach.specs.contracts.teach
use Rattle.book_teach.specs.contracts.withdraw
use Rattle.book_join.specs.contracts.join
use Rattle.book_check.specs.contracts.check as book-check
use Rattle.book_file.specs.contracts.write as file-write
use Rattle.book_file.specs.contracts.read as file_read
use Rattle.desk_input.specs.contracts.opening
use Rattle.desk_step.specs.contracts.begin as desk-begin
use Rattle.desk_step.specs.contracts.step as desk-step
use Rattle.ofb.specs.contracts.ofb_open as ofb-open
use Rattle.ofb.specs.contracts.ofb_teach as ofb-teach
use Rattle.ofb.specs.contracts.ofb_withdraw as ofb-withdraw
use Rattle.ofb.specs.contracts.ofb_join as ofb-join
use Rattle.ofb.specs.contracts.ofb_judge as ofb-judge
use Rattle.ofb.specs.contracts.ofb_choose as ofb-choose
use Rattle.ofb.specs.contracts.ofb_check as ofb-check
use Rattle.ofb.specs.contracts.ofb_write_file as ofb-write-file
use Rattle.ofb.specs.contracts.ofb_read_file as ofb-read-file
use Rattle.ofb.specs.contracts.ofb_read_text as ofb-read-text
use Rattle.ofb.specs.contracts.ofb_write_text as ofb-write-text
use Rattle.ofb.specs.contracts.ofb_subtree as ofb-subtree

-- `&[u16]`: words to be read alone, at the lifetime with that number.
abbrev words-read : {n : ℕ} (j : ℕ) → Within n j → Slot n
words-read j ok = Builtin.SliceRef j ok Builtin.u16 tt

-- `&mut [u16]`: words to be written.
abbrev words-written : {n : ℕ} (j : ℕ) → Within n j → Slot n
words-written j ok = Builtin.SliceRefMut j ok Builtin.u16 tt

-- `&[u8]`: bytes to be read alone.
abbrev bytes_read : {n : ℕ} (j : ℕ) → Within n j → Slot n
bytes_read j ok = Builtin.SliceRef j ok Builtin.u8 tt

-- `&mut [u8]`: bytes to be written.
abbrev bytes-written : {n : ℕ} (j : ℕ) → Within n j → Slot n
bytes-written j ok = Builtin.SliceRefMut j ok Builtin.u8 tt

-- `u16`: a word by value.
abbrev word : {n : ℕ} → Slot n
word = plain (λ κs. Builtin.u16)

-- `usize`: a number by value.
abbrev number : {n : ℕ} → Slot n
number = plain (λ κs. Builtin.usize)

-- ---- functions for callers outside the repository

-- `order_check::check`
pub order-check_lent : (order-check.signature).params ≡ words-read 0 tt ∷ []
order-check_lent = refl

-- `order_cuts::subtree`
pub subtree-lent : (subtree.signature).params ≡ words-read 0 tt ∷ number ∷ []
subtree-lent = refl

-- `order_cuts::cut_into`
pub cut-into_lent : (cut-into.signature).params ≡ words-read 0 tt ∷ number ∷ number ∷ words-written 1 tt ∷ []
cut-into_lent = refl

-- `order_parts::part_into`
pub part-into_lent : (part-into.signature).params ≡ words-read 0 tt ∷ number ∷ plain (λ κs. depth.the_row) ∷ words-written 1 tt ∷ []
part-into_lent = refl

-- `form_read::read`
pub read-lent : (read.signature).params ≡ bytes_read 0 tt ∷ words-written 1 tt ∷ []
read-lent = refl

-- `form_write::write`
pub write-lent : (write.signature).params ≡ words-read 0 tt ∷ bytes-written 1 tt ∷ []
write-lent = refl

-- `book_form::in_form`
pub in_form-lent : (in_form.signature).params ≡ words-read 0 tt ∷ []
in_form-lent = refl

-- `book::open`
pub book-open_lent : (book-open.signature).params ≡ words-written 0 tt ∷ word ∷ []
book-open_lent = refl

-- `book_judge::judge`
pub judge_lent : (judge.signature).params ≡ words-read 0 tt ∷ words-read 1 tt ∷ []
judge_lent = refl

-- `book_choose::choose`
pub choose_lent : (choose.signature).params ≡ words-read 0 tt ∷ words-read 1 tt ∷ words-read 2 tt ∷ []
choose_lent = refl

-- `book_teach::teach`
pub teach-lent : (teach.signature).params ≡ words-written 0 tt ∷ words-read 1 tt ∷ []
teach-lent = refl

-- `book_teach::withdraw`
pub withdraw-lent : (withdraw.signature).params ≡ words-written 0 tt ∷ words-read 1 tt ∷ []
withdraw-lent = refl

-- `book_join::join`: the second slice is only read, so that it stays as it came in every word
pub join-lent : (join.signature).params ≡ words-written 0 tt ∷ words-read 1 tt ∷ []
join-lent = refl

-- `book_check::check`
pub book-check_lent : (book-check.signature).params ≡ words-read 0 tt ∷ []
book-check_lent = refl

-- `book_file::write`
pub file_write-lent : (file-write.signature).params ≡ words-read 0 tt ∷ bytes-written 1 tt ∷ []
file_write-lent = refl

-- `book_file::read`
pub file_read-lent : (file_read.signature).params ≡ bytes_read 0 tt ∷ words-written 1 tt ∷ []
file_read-lent = refl

-- `desk_input::opening`
pub opening-lent : (opening.signature).params ≡ bytes_read 0 tt ∷ []
opening-lent = refl

-- `desk_step::begin`
pub desk_begin_lent : (desk-begin.signature).params ≡ bytes_read 0 tt ∷ words-written 1 tt ∷ bytes-written 2 tt ∷ []
desk_begin_lent = refl

-- `desk_step::step`
pub desk_step-lent : (desk-step.signature).params ≡ bytes_read 0 tt ∷ words-written 1 tt ∷ bytes-written 2 tt ∷ []
desk_step-lent = refl

-- ---- functions for C

-- `ofb_open`
pub ofb_open_lent : (ofb-open.signature).params ≡ words-written 0 tt ∷ word ∷ []
ofb_open_lent = refl

-- `ofb_teach`
pub ofb_teach-lent : (ofb-teach.signature).params ≡ words-written 0 tt ∷ words-read 1 tt ∷ []
ofb_teach-lent = refl

-- `ofb_withdraw`
pub ofb_withdraw-lent : (ofb-withdraw.signature).params ≡ words-written 0 tt ∷ words-read 1 tt ∷ []
ofb_withdraw-lent = refl

-- `ofb_join`
pub ofb_join-lent : (ofb-join.signature).params ≡ words-written 0 tt ∷ words-read 1 tt ∷ []
ofb_join-lent = refl

-- `ofb_judge`
pub ofb_judge_lent : (ofb-judge.signature).params ≡ words-read 0 tt ∷ words-read 1 tt ∷ []
ofb_judge_lent = refl

-- `ofb_choose`
pub ofb_choose_lent : (ofb-choose.signature).params ≡ words-read 0 tt ∷ words-read 1 tt ∷ words-read 2 tt ∷ []
ofb_choose_lent = refl

-- `ofb_check`
pub ofb_check_lent : (ofb-check.signature).params ≡ words-read 0 tt ∷ []
ofb_check_lent = refl

-- `ofb_write_file`
pub ofb_write-file_lent : (ofb-write-file.signature).params ≡ words-read 0 tt ∷ bytes-written 1 tt ∷ []
ofb_write-file_lent = refl

-- `ofb_read_file`
pub ofb_read-file_lent : (ofb-read-file.signature).params ≡ bytes_read 0 tt ∷ words-written 1 tt ∷ []
ofb_read-file_lent = refl

-- `ofb_read_text`
pub ofb_read-text_lent : (ofb-read-text.signature).params ≡ bytes_read 0 tt ∷ words-written 1 tt ∷ []
ofb_read-text_lent = refl

-- `ofb_write_text`
pub ofb_write-text_lent : (ofb-write-text.signature).params ≡ words-read 0 tt ∷ bytes-written 1 tt ∷ []
ofb_write-text_lent = refl

-- `ofb_subtree`
pub ofb_subtree-lent : (ofb-subtree.signature).params ≡ words-read 0 tt ∷ number ∷ []
ofb_subtree-lent = refl
