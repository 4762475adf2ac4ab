-- Answers for `results::lists::write_stations`.
use mathlib.Core.Path.{◌≡◌, ap}
use native.Mathlib.Omega.{arith}
use lib.Ieee.{nan}
use Rattle.numbers.specs.Table.{strided}
use Rattle.network.specs.Views.{boxes_in}
use Rattle.runs.specs.Lists.{flat, box_numbers}
use Rattle.results.proofs.Writes.{all_written}
use Rattle.results.proofs.Turns.{framed_none, framed_more}
use Rattle.results.proofs.lists.write_stations.Goals as goal

pub loop-s-init : goal.loop-s-init
loop-s-init c = framed_none _ _ _ _

pub loop-s-preserved : goal.loop-s-preserved
loop-s-preserved c = framed_more _ _ _ _ _ _ _ _ _ (omega arith) (omega arith) c.box_at.ensures c.put_box.ensures c.loop-s.invariant

pub returns-clause-boxes_after : goal.returns-clause-boxes_after
returns-clause-boxes_after c = let e : c.loop-s.s ≡ c.args.station_count = omega arith in all_written _ _ _ _ _ (ap (λ n. flat box_numbers (boxes_in n c.args.frames.now)) e) c.loop-s.invariant.boxes

pub returns-clause-scales_after : goal.returns-clause-scales_after
returns-clause-scales_after c = let e : c.loop-s.s ≡ c.args.station_count = omega arith in all_written _ _ _ _ _ (ap (λ n. strided 3 2 nan n c.args.blocks.now) e) c.loop-s.invariant.scales
