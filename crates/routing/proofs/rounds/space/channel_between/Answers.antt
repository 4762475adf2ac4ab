-- Answers for `routing::rounds::space::channel_between`.
use Rattle.std.proofs.Common.{arith}
use Rattle.routing.proofs.rounds.Ranges.{part_at}
use Rattle.routing.specs.Stages.RoundLists.{channel_between, low_in, high_in}
use Rattle.routing.proofs.rounds.space.channel_between.Goals as goal

pub returns : goal.returns
unfolding channel_between low_in high_in
returns c = grind (arith, part_at)
