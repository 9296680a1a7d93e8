use Rattle.std.proofs.Common.{rules, tests}
use Rattle.words.specs.Base.{◌and◌}
use Rattle.figures.specs.Nodes.{sound_node}
use Rattle.figures.proofs.nodes.node_ok.Goals as goal

pub returns-then-contains : goal.returns-then-contains
unfolding sound_node ◌and◌
returns-then-contains c = search (rules, tests)

pub returns-else-contains : goal.returns-else-contains
unfolding sound_node ◌and◌
returns-else-contains c = search (rules, tests)
