use Rattle.std.proofs.Common.{rules, tests}
use Rattle.words.specs.Base.{◌and◌, when◌then◌else◌}
use Rattle.figures.specs.Answers.{depth_of}
use Rattle.figures.proofs.depths.Depth.new.Goals as goal

pub returns : goal.returns
unfolding depth_of ◌and◌ when◌then◌else◌
returns c = search (rules, tests)
