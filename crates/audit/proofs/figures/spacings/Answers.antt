-- Answers for `audit::figures::spacings`.
use native.Mathlib.Omega.{arith}
use Rattle.audit.proofs.figures.Stationwise.{occupied_few, spaced_over}
use Rattle.audit.proofs.figures.spacings.Goals as goal

pub nearest_neighbour_distances-requires : goal.nearest_neighbour_distances-requires
nearest_neighbour_distances-requires c = let few = occupied_few c.args.few.now.placed.k c.args.few.now.placed.stations.now in record { fits_u32 = omega (arith, few, c.requires, c.args.few.now.few); out_room = omega (arith, few, c.requires, c.args.few.now.few); keys_room = omega (arith, few, c.requires, c.args.few.now.few); order_room = omega (arith, few, c.requires, c.args.few.now.few); spare_room = omega (arith, few, c.requires, c.args.few.now.few) }

pub returns : goal.returns
returns c = spaced_over _ _ _ _ _ c.nearest_neighbour_distances.ensures _ _ c.requires.counted c.by_sides.ensures
