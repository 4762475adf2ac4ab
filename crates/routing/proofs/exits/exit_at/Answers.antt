-- Answers for `routing::exits::exit_at`.
use Rattle.std.proofs.Common.{arith}
use Rattle.std.proofs.lemmas.Grind.{common_steps}
use Rattle.runs.specs.Stages.Views.{block_of}
use Rattle.routing.specs.Stages.Exits.{exit_from}
use Rattle.routing.proofs.exits.exit_at.Goals as goal

pub returns : goal.returns
unfolding exit_from block_of
returns c = grind (arith, common_steps)
