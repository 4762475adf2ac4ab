-- Answers for `runs::run::run`.
use Rattle.std.proofs.Common.{arith}
use Rattle.std.proofs.lemmas.Grind.{common_steps}
use Rattle.numbers.specs.Table.{table_from}
use Rattle.network.specs.Views.{points_in}
use Rattle.runs.specs.Stages.Views.{other_run}
use Rattle.runs.proofs.run.run.Goals as goal

pub returns-in-Undrawn : goal.returns-in-Undrawn
unfolding other_run points_in table_from
returns-in-Undrawn c = grind (arith, common_steps)

pub returns-in-Open : goal.returns-in-Open
unfolding other_run
returns-in-Open c = grind (arith, common_steps)

pub returns-in-Internal : goal.returns-in-Internal
unfolding other_run
returns-in-Internal c = grind (arith, common_steps)
