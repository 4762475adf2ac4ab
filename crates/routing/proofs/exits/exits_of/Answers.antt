-- Answers for `routing::exits::exits_of`.
use Rattle.std.proofs.Common.{arith}
use Rattle.std.proofs.lemmas.Grind.{common_steps}
use Rattle.routing.specs.Stages.Views.{line_in, line_for, line_between, exit_at}
use Rattle.routing.specs.Stages.Exits.{exits_in, exits_of, line_exits, exit_from}
use Rattle.routing.proofs.exits.exits_of.Goals as goal

pub returns-in-Line : goal.returns-in-Line
unfolding exits_in exits_of line_exits exit_from line_in line_for line_between exit_at
returns-in-Line c = grind (arith, common_steps)

pub returns-in_default : goal.returns-in_default
unfolding exits_in exits_of line_exits exit_from line_in line_for line_between exit_at
returns-in_default c = grind (arith, common_steps)
