-- What asking for a k gives, and answers as calls make them. Assumes nothing: these are definitions.
use Rattle.std.specs.Prelude.{ℕ, None, Option, Some}
use Rattle.figures.specs.declared.depths.Depth.{Depth}
use Rattle.words.specs.Base.{when◌then◌else◌, within}
use Rattle.figures.specs.Limits.{least_k, greatest_k}
use Rattle.figures.specs.Numbers.{done, k_outside}
use Rattle.figures.specs.declared.Answer.{Answer}
use Rattle.figures.specs.declared.Written.{Written}

-- "k is 2 to 6."
unfoldable pub depth_of : ℕ → Option Depth
depth_of k = when within least_k greatest_k k then Some (record { k = k }) else None

-- 01's number for each case: "3: k outside 2 to 6".
abbrev pub number_of : Option Depth → ℕ
number_of (Some k) = done
number_of None = k_outside

-- A number with line 0: "for every other answer, 0 and 11 included, it is 0".
abbrev pub answered : ℕ → Answer
answered n = record { number = n; line = 0 }

-- 01's number and line for each case, and the k that is allowed.
abbrev pub asked_told : Option Depth → Answer × Option ℕ
asked_told (Some d) = (answered (number_of (Some d)), Some d.k)
asked_told None = (answered (number_of None), None)

-- A number with line 0, and how many words or bytes were written.
abbrev pub wrote : ℕ → ℕ → Written
wrote n count = record { number = n; line = 0; count = count }

-- A refusal by a number at a line: "how many it wrote, 0 when it refuses".
abbrev pub refused_at : ℕ → ℕ → Written
refused_at n line = record { number = n; line = line; count = 0 }
