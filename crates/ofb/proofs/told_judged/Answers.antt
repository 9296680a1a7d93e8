-- `told_judged` meets its contract: the machine's byte of a test is C's 0 or 1. Assumes nothing.
use mathlib.Core.Path.{◌≡◌, refl}
use mathlib.Core.Bool.{Bool, true, false}
use mir.Val.{bool_byte}
use Rattle.words.specs.Base.{when◌then◌else◌}
use Rattle.ofb.proofs.told_judged.Goals as goal

-- A test that passes is 1, and one that fails 0.
byte-is : (b : Bool) → bool_byte b ≡ (when b then 1 else 0)
unfolding when◌then◌else◌
byte-is true = refl
byte-is false = refl

pub returns : goal.returns
returns c = rw (byte-is c.args.judged.near.there) refl
