-- Answers for `network::seeds::take_means`.
use mathlib.Core.Path.{◌≡◌, refl}
use native.Mathlib.Omega.{arith}
use Rattle.network.proofs.seeds.Seeding.{divided_none, divided_more, divided_all}
use Rattle.network.proofs.seeds.take_means.Goals as goal

pub returns : goal.returns
returns c = let e : c.loop-s.s ≡ c.args.stations.now.k = omega arith in divided_all _ _ _ _ (rw e at c.loop-s.invariant.2)
