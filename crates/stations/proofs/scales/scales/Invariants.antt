-- What the loops of `stations::scales::scales` keep.
use mathlib.Core.Path.{◌≡◌}
use Prim.Native.Nat.{◌≤◌, ◌-◌}
use lib.ListN.{length, take}
use Rattle.numbers.specs.Ops.{◌⊗◌}
use Rattle.numbers.specs.Table.{table}
use Rattle.plane.specs.Near.{neighbours}
use Rattle.stations.specs.Stages.Views.{sizes_in, scales_in}
use Rattle.network.proofs.Occupied.{passed_count}
use Rattle.stations.proofs.scales.Scaled.{scaled}
use Rattle.stations.proofs.scales.scales.Given as goal

abbrev pub invariant-loop-s : goal.invariant-loop-s
invariant-loop-s l = (l.s ≤ l.stations.k) × (length l.blocks ≡ length l.initial.blocks) × (l.j ≤ l.s) × (l.j ≡ passed_count l.stations.k l.stations.counts.now l.s) × (scales_in l.s l.blocks ≡ scaled l.options l.points.xy.now l.points.n (l.options.tier_radius ⊗ l.spacing) l.stations.k l.stations.counts.now l.s) × (sizes_in l.stations.k l.blocks ≡ sizes_in l.stations.k l.initial.blocks) × (l.points.n ≤ length l.spare) × (take l.points.n l.spare ≡ table (neighbours l.points.xy.now l.points.n (l.options.tier_radius ⊗ l.spacing)) l.points.n)
