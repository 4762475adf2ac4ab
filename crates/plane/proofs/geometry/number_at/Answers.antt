-- Answers for `plane::geometry::number_at`.
use Rattle.std.proofs.Common.{arith}
use Rattle.std.proofs.lemmas.Grind.{common_steps}
use lib.Ieee.{of_bits, of_fields, odd}
use Rattle.plane.proofs.geometry.number_at.Goals as goal

pub returns : goal.returns
unfolding of_bits of_fields odd
returns c = grind (arith, common_steps)
