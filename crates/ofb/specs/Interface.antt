-- What a program in C gets of each call: the answer in C's numbers, and what was lent, as they are below the interface. Assumes nothing: these are
-- definitions.
use Rattle.std.specs.Prelude.{ℕ, List, length}
use Rattle.words.specs.Base.{when◌then◌else◌}
use Rattle.figures.specs.declared.Answer.{Answer}
use Rattle.figures.specs.declared.Written.{Written}
use Rattle.order.specs.Answers.{Writing, Piece}
use Rattle.book.specs.Opening.{Outcome}
use Rattle.book_judging.specs.declared.Judgement.{Judgement}
use Rattle.book_choosing.specs.declared.Chosen.{Chosen}
use Rattle.ofb.specs.declared.OfbAnswer.{OfbAnswer}
use Rattle.ofb.specs.declared.OfbJudged.{OfbJudged}
use Rattle.ofb.specs.declared.OfbImage.{OfbImage}
use Rattle.ofb.specs.declared.OfbPart.{OfbPart}

-- An answer, with nothing written to an output that is not a book.
abbrev pub told_of : Answer → OfbAnswer
told_of a = record { number = a.number; line = a.line; written = 0 }

-- An answer of a call that writes words or bytes.
abbrev pub told_written_of : Written → OfbAnswer
told_written_of a = record { number = a.number; line = a.line; written = a.count }

-- A judgement: `there` is 1 for a part that is there, and 0 for one that is not.
abbrev pub told_judged_of : Judgement → OfbJudged
told_judged_of j =
    record {
      number = j.answer.number;
      line = j.answer.line;
      below = j.near.below;
      there = when j.near.there then 1 else 0;
      place_below = j.near.low;
      place_above = j.near.high;
    }

-- What choosing answers.
abbrev pub told_image_of : Chosen → OfbImage
told_image_of c = record { number = c.number; line = c.line; image = c.image }

-- What a call answers in C, and the words or bytes of the slice that it may write, after it.
pub record HandedToC : Type 0 where
  pub answer : OfbAnswer
  pub lent : List ℕ

-- The answer and the slice, as a call has them.
abbrev pub handed : OfbAnswer → List ℕ → HandedToC
handed a ws = record { answer = a; lent = ws }

-- A call that may write a book, as C gets it.
abbrev pub outcome_in_c : Outcome → HandedToC
outcome_in_c o = handed (told_of o.answer) o.words

-- A call that writes an output, as C gets it.
abbrev pub writing_in_c : Writing → HandedToC
writing_in_c w = handed (told_written_of w.answer) w.out

-- A part of an order, as C gets it: the word at which it starts, and how many words it has.
abbrev pub part_in_c : Piece → OfbPart
part_in_c p = record { start = p.start; words = length p.words }
