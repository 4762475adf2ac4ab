-- Answers for `routing::crossings::half_edge_channels::channel_for`.
use Rattle.std.proofs.Common.{arith}
use Rattle.std.proofs.lemmas.Grind.{common_steps}
use Rattle.routing.specs.Stages.Store.{number_for, marks_for}
use Rattle.routing.proofs.crossings.half_edge_channels.channel_for.Goals as goal

pub returns-then-mark-eq0-clause-is_number : goal.returns-then-mark-eq0-clause-is_number
unfolding number_for
returns-then-mark-eq0-clause-is_number c = grind (arith, common_steps)

pub returns-then-mark-eq0-clause-ends_after : goal.returns-then-mark-eq0-clause-ends_after
unfolding marks_for
returns-then-mark-eq0-clause-ends_after c = grind (arith, common_steps)

pub returns-clause-is_number : goal.returns-clause-is_number
unfolding number_for
returns-clause-is_number c = grind (arith, common_steps)

pub returns-clause-ends_after : goal.returns-clause-ends_after
unfolding marks_for
returns-clause-ends_after c = grind (arith, common_steps)
