-- Answers for `network::seeds::clear_points`.
use native.Mathlib.Omega.{arith}
use lib.ListN.{length-take}
use Rattle.network.proofs.seeds.Seeding.{zeroed}
use Rattle.network.proofs.seeds.clear_points.Goals as goal

pub returns : goal.returns
returns c = zeroed _ _ _ _ (c.fill.ensures.after (λ y h. cc)) (simp length-take (omega (arith, c.requires)))
