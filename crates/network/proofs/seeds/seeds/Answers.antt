-- Answers for `network::seeds::seeds`.
use Rattle.network.proofs.seeds.Seeding.{seeds_are}
use Rattle.network.proofs.seeds.seeds.Goals as goal

pub returns : goal.returns
returns c = seeds_are _ _ _ _ _ _ c.requires.counted c.requires.bus_counts c.add_points.ensures c.take_means.ensures
