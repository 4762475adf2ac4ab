-- Answers for `stations::measures::sizes_and_scales`.
use Rattle.stations.proofs.measures.Stage.{sp_is, side_left, scales_left}
use Rattle.stations.proofs.measures.sizes_and_scales.Goals as goal

pub returns-clause-spacing_is : goal.returns-clause-spacing_is
returns-clause-spacing_is c = sp_is c.args.stations.now.k c.coordinates-n.result c.args.stations.now.counts.now c.args.places.now c.coordinates-n.new.path c.coordinates-n.ensures.occupied_count c.coordinates-n.ensures.coordinates_written c.spacing-spacing.result c.spacing-spacing.ensures

pub returns-clause-side_is : goal.returns-clause-side_is
returns-clause-side_is c = side_left c.args.stations.now.k c.coordinates-n.result c.args.stations.now.counts.now c.args.places.now c.coordinates-n.new.path c.coordinates-n.ensures.occupied_count c.coordinates-n.ensures.coordinates_written c.spacing-spacing.result c.spacing-spacing.ensures c.args.options c.sizes.new.blocks c.typical-side.result c.sizes.ensures c.typical-side.ensures

pub returns-clause-scales_written : goal.returns-clause-scales_written
returns-clause-scales_written c = scales_left c.args.stations.now.k c.coordinates-n.result c.args.stations.now.counts.now c.args.places.now c.coordinates-n.new.path c.coordinates-n.ensures.occupied_count c.coordinates-n.ensures.coordinates_written c.spacing-spacing.result c.spacing-spacing.ensures c.args.options c.scales.new.blocks c.scales.ensures.scales_written
