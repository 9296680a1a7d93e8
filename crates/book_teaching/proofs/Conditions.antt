-- The exact conditions of 7, 6 and 0 in teaching and of 8, 9 and 0 in withdrawing, and what is written; a refusal leaves the words as they
-- came (01, "Numbers the desk hears"). Assumes nothing.
use Rattle.std.specs.Prelude.{Some}
use Prim.Native.Nat.{ℕ, ◌≤◌, ◌<◌}
use mathlib.Core.Path.{◌≡◌, sym, ap, ◌∙◌}
use mathlib.Core.Bool.{true, false}
use mathlib.Core.List.{List}
use native.Mathlib.Omega.{arith}
use lib.ListN.{length}
use Rattle.words.specs.Base.{◌exactly_when◌}
use Rattle.words.proofs.Tests.{no_test}
use Rattle.figures.specs.Numbers.{done, no_room, too_many, not_taught, not_agreeing}
use Rattle.section.specs.Entries.{has}
use Rattle.order.specs.Trees.{Tree, words}
use Rattle.book.specs.Book.{Book, used, lay, in_form}
use Rattle.book.specs.Decoding.{decode}
use Rattle.book.specs.Taught.{taught}
use Rattle.book.specs.Opening.{Outcome, leave, write_book}
use Rattle.book.proofs.Meaning.{read_back}
use Rattle.book.proofs.Openings.{number_is, one_number, words_are}
use Rattle.book_teaching.specs.Calls.{teach_of, withdrawn, withdraw_of}
use Rattle.book_teaching.proofs.Formed.{taught-keeps_form, withdrawn-keeps_form}
use Rattle.book_teaching.specs.Conditions.{BookAndOrder, WouldPass, PartMissing}
use Rattle.book_teaching.proofs.Calling.{Met, met, refuses, goes, its_form, its_limits, TeachCase, passing, crowded, teaches, teach-case, WithdrawCase, untaught, lacks, withdraws, withdraw-case}
use Rattle.book_teaching.proofs.Reasons.{within_none, not_within, fails_missing, passes_none}

-- ---- teaching

module _ (ws os : List ℕ) (b : Book) (t : Tree) (g : BookAndOrder ws os b t) where
  -- "7: live teachings or a touched count would pass 65,535"
  pub teach-7 : ((teach_of ws os).answer.number ≡ too_many) exactly_when WouldPass t b
  teach-7 = (λ e. there e (teach-case ws os b t g), λ p. back p (teach-case ws os b t g))
    where
      there : (teach_of ws os).answer.number ≡ too_many → TeachCase ws os (taught 1 t b) → WouldPass t b
      there e (passing w r) = not_within t b (its_form ws os b t g) w
      there e (crowded w h r) = absurd (omega (arith, one_number r e))
      there e (teaches w h r) = absurd (omega (arith, one_number r e))

      back : WouldPass t b → TeachCase ws os (taught 1 t b) → (teach_of ws os).answer.number ≡ too_many
      back p (passing w r) = number_is r
      back p (crowded w h r) = absurd (within_none t b (its_form ws os b t g) w p)
      back p (teaches w h r) = absurd (within_none t b (its_form ws os b t g) w p)

  -- "6: the result needs more words than the book slice has", where 7 is not given: "7, 6".
  pub teach-6 : ((teach_of ws os).answer.number ≡ no_room) exactly_when ((WouldPass t b → ⊥) × (length ws < used (taught 1 t b)))
  teach-6 = (λ e. there e (teach-case ws os b t g), λ p. back p (teach-case ws os b t g))
    where
      there : (teach_of ws os).answer.number ≡ no_room → TeachCase ws os (taught 1 t b) → (WouldPass t b → ⊥) × (length ws < used (taught 1 t b))
      there e (passing w r) = absurd (omega (arith, one_number r e))
      there e (crowded w h r) = (within_none t b (its_form ws os b t g) w, h)
      there e (teaches w h r) = absurd (omega (arith, one_number r e))

      back : (WouldPass t b → ⊥) × (length ws < used (taught 1 t b)) → TeachCase ws os (taught 1 t b) → (teach_of ws os).answer.number ≡ no_room
      back p (passing w r) = absurd (p.0 (not_within t b (its_form ws os b t g) w))
      back p (crowded w h r) = number_is r
      back p (teaches w h r) = absurd (omega (arith, p.1))

  -- "0: done", where neither is given.
  pub teach-0 : ((teach_of ws os).answer.number ≡ done) exactly_when ((WouldPass t b → ⊥) × (used (taught 1 t b) ≤ length ws))
  teach-0 = (λ e. there e (teach-case ws os b t g), λ p. back p (teach-case ws os b t g))
    where
      there : (teach_of ws os).answer.number ≡ done → TeachCase ws os (taught 1 t b) → (WouldPass t b → ⊥) × (used (taught 1 t b) ≤ length ws)
      there e (passing w r) = absurd (omega (arith, one_number r e))
      there e (crowded w h r) = absurd (omega (arith, one_number r e))
      there e (teaches w h r) = (within_none t b (its_form ws os b t g) w, h)

      back : (WouldPass t b → ⊥) × (used (taught 1 t b) ≤ length ws) → TeachCase ws os (taught 1 t b) → (teach_of ws os).answer.number ≡ done
      back p (passing w r) = absurd (p.0 (not_within t b (its_form ws os b t g) w))
      back p (crowded w h r) = absurd (omega (arith, p.1))
      back p (teaches w h r) = number_is r

  -- "Success writes the book": the words are those of the book with one teaching more, and are decoded to it.
  pub teach-writes : (teach_of ws os).answer.number ≡ done
      → ((teach_of ws os).words ≡ lay (length ws) (taught 1 t b)) × (decode (teach_of ws os).words ≡ Some (taught 1 t b))
  teach-writes e = go (teach-case ws os b t g)
    where
      go : TeachCase ws os (taught 1 t b) → ((teach_of ws os).words ≡ lay (length ws) (taught 1 t b)) × (decode (teach_of ws os).words ≡ Some (taught 1 t b))
      go (passing w r) = absurd (omega (arith, one_number r e))
      go (crowded w h r) = absurd (omega (arith, one_number r e))
      go (teaches w h r) =
          let form : in_form (taught 1 t b) ≡ true = taught-keeps_form t b (its_form ws os b t g) (its_limits ws os b t g) w in
          (words_are r, ap decode (words_are r) ∙ read_back (length ws) (taught 1 t b) form)

-- ---- withdrawing

module _ (ws os : List ℕ) (b : Book) (t : Tree) (g : BookAndOrder ws os b t) where
  -- "8: order has no entry in T"
  pub withdraw-8 : ((withdraw_of ws os).answer.number ≡ not_taught) exactly_when (has (words t) b.T ≡ false)
  withdraw-8 = (λ e. there e (withdraw-case ws os b t g), λ p. back p (withdraw-case ws os b t g))
    where
      there : (withdraw_of ws os).answer.number ≡ not_taught → WithdrawCase ws os b t → has (words t) b.T ≡ false
      there e (untaught h r) = h
      there e (lacks h p r) = absurd (omega (arith, one_number r e))
      there e (withdraws h p r) = absurd (omega (arith, one_number r e))

      back : has (words t) b.T ≡ false → WithdrawCase ws os b t → (withdraw_of ws os).answer.number ≡ not_taught
      back n (untaught h r) = number_is r
      back n (lacks h p r) = no_test (sym n ∙ h)
      back n (withdraws h p r) = no_test (sym n ∙ h)

  -- "9: withdraw: a part of the order is missing from R, L or P", where 8 is not given: "8, 9".
  pub withdraw-9 : ((withdraw_of ws os).answer.number ≡ not_agreeing) exactly_when ((has (words t) b.T ≡ true) × PartMissing t b)
  withdraw-9 = (λ e. there e (withdraw-case ws os b t g), λ p. back p (withdraw-case ws os b t g))
    where
      there : (withdraw_of ws os).answer.number ≡ not_agreeing → WithdrawCase ws os b t → (has (words t) b.T ≡ true) × PartMissing t b
      there e (untaught h r) = absurd (omega (arith, one_number r e))
      there e (lacks h p r) = (h, fails_missing t b p)
      there e (withdraws h p r) = absurd (omega (arith, one_number r e))

      back : (has (words t) b.T ≡ true) × PartMissing t b → WithdrawCase ws os b t → (withdraw_of ws os).answer.number ≡ not_agreeing
      back n (untaught h r) = no_test (sym h ∙ n.0)
      back n (lacks h p r) = number_is r
      back n (withdraws h p r) = absurd (passes_none t b p n.1)

  -- "0: done", where neither is given.
  pub withdraw-0 : ((withdraw_of ws os).answer.number ≡ done) exactly_when ((has (words t) b.T ≡ true) × (PartMissing t b → ⊥))
  withdraw-0 = (λ e. there e (withdraw-case ws os b t g), λ p. back p (withdraw-case ws os b t g))
    where
      there : (withdraw_of ws os).answer.number ≡ done → WithdrawCase ws os b t → (has (words t) b.T ≡ true) × (PartMissing t b → ⊥)
      there e (untaught h r) = absurd (omega (arith, one_number r e))
      there e (lacks h p r) = absurd (omega (arith, one_number r e))
      there e (withdraws h p r) = (h, passes_none t b p)

      back : (has (words t) b.T ≡ true) × (PartMissing t b → ⊥) → WithdrawCase ws os b t → (withdraw_of ws os).answer.number ≡ done
      back n (untaught h r) = no_test (sym h ∙ n.0)
      back n (lacks h p r) = absurd (n.1 (fails_missing t b p))
      back n (withdraws h p r) = number_is r

  -- "Success writes the book": the words are those of the book with one teaching less, and are decoded to it.
  pub withdraw-writes : (withdraw_of ws os).answer.number ≡ done
      → ((withdraw_of ws os).words ≡ lay (length ws) (withdrawn t b)) × (decode (withdraw_of ws os).words ≡ Some (withdrawn t b))
  withdraw-writes e = go (withdraw-case ws os b t g)
    where
      go : WithdrawCase ws os b t → ((withdraw_of ws os).words ≡ lay (length ws) (withdrawn t b)) × (decode (withdraw_of ws os).words ≡ Some (withdrawn t b))
      go (untaught h r) = absurd (omega (arith, one_number r e))
      go (lacks h p r) = absurd (omega (arith, one_number r e))
      go (withdraws h p r) =
          (words_are r, ap decode (words_are r) ∙ read_back (length ws) (withdrawn t b) (withdrawn-keeps_form t b (its_form ws os b t g)))

-- ---- refusals and lines, for all words

-- What every outcome has: line 0, and the words as they came unless the answer is 0.
record Plain (ws : List ℕ) (o : Outcome) : Type 0 where
  line : o.answer.line ≡ 0
  kept : (o.answer.number ≡ done → ⊥) → o.words ≡ ws

-- A refusal has both.
leave-plain : (ws : List ℕ) (n : ℕ) (o : Outcome) → o ≡ leave ws n → Plain ws o
leave-plain ws n o e = record { line = ap (λ (o : Outcome). o.answer.line) e; kept = λ h. words_are e }

-- A book that is written has both.
write-plain : (ws : List ℕ) (b : Book) (o : Outcome) → o ≡ write_book ws b → Plain ws o
write-plain ws b o e = record { line = ap (λ (o : Outcome). o.answer.line) e; kept = λ h. absurd (h (number_is e)) }

module _ (ws os : List ℕ) where
  -- Teaching has both, whatever the words.
  teach-plain : Plain ws (teach_of ws os)
  unfolding teach_of
  teach-plain = go (met ws os)
    where
      case : {b : Book} → TeachCase ws os b → Plain ws (teach_of ws os)
      case (passing w r) = leave-plain ws _ _ r
      case (crowded w h r) = leave-plain ws _ _ r
      case (teaches w h r) = write-plain ws _ _ r

      go : Met ws os → Plain ws (teach_of ws os)
      go (refuses n h r) = leave-plain ws n _ (r _)
      go (goes b t g) = case (teach-case ws os b t g)

  -- Withdrawing has both, whatever the words.
  withdraw-plain : Plain ws (withdraw_of ws os)
  unfolding withdraw_of
  withdraw-plain = go (met ws os)
    where
      case : {b : Book} {t : Tree} → WithdrawCase ws os b t → Plain ws (withdraw_of ws os)
      case (untaught h r) = leave-plain ws _ _ r
      case (lacks h p r) = leave-plain ws _ _ r
      case (withdraws h p r) = write-plain ws _ _ r

      go : Met ws os → Plain ws (withdraw_of ws os)
      go (refuses n h r) = leave-plain ws n _ (r _)
      go (goes b t g) = case (withdraw-case ws os b t g)

  -- Teaching: "A refusal" "leaves all lent words and bytes as they came".
  pub teach-refusal_leaves : ((teach_of ws os).answer.number ≡ done → ⊥) → (teach_of ws os).words ≡ ws
  teach-refusal_leaves = teach-plain.kept

  -- Withdrawing: the same.
  pub withdraw-refusal_leaves : ((withdraw_of ws os).answer.number ≡ done → ⊥) → (withdraw_of ws os).words ≡ ws
  withdraw-refusal_leaves = withdraw-plain.kept

  -- Teaching: the line, "for every other answer, 0 and 11 included, it is 0".
  pub teach-line : (teach_of ws os).answer.line ≡ 0
  teach-line = teach-plain.line

  -- Withdrawing: the same.
  pub withdraw-line : (withdraw_of ws os).answer.line ≡ 0
  withdraw-line = withdraw-plain.line
