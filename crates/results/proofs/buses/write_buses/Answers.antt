-- Answers for `results::buses::write_buses`.
use mathlib.Core.Path.{◌≡◌, refl, ap}
use native.Mathlib.Omega.{arith}
use lib.ListN.{length}
use Rattle.numbers.specs.Table.{table}
use Rattle.stations.specs.Bar.{position}
use Rattle.runs.specs.Lists.{flat, point_numbers, bar_numbers}
use Rattle.results.specs.Stages.Bars.{bars_in}
use Rattle.results.proofs.Writes.{all_written}
use Rattle.results.proofs.Turns.{bus_bar, drawn_none, drawn_more}
use Rattle.results.proofs.buses.write_buses.Goals as goal

pub loop-i-init : goal.loop-i-init
loop-i-init c = drawn_none _ _ _ _ _ _ _

pub loop-i-preserved : goal.loop-i-preserved
loop-i-preserved c = drawn_more _ _ _ _ _ _ _ _ _ _ _ _ _ _ _ (omega arith) (omega arith) refl c.bar_of-bar.ensures c.position.ensures c.put_point.ensures c.put_box.ensures c.loop-i.invariant

pub returns-clause-positions_after : goal.returns-clause-positions_after
unfolding bars_in
returns-clause-positions_after c = let e : c.loop-i.i ≡ length c.args.sub.now = omega arith in all_written _ _ _ _ _ (ap (λ n. flat (λ b. point_numbers (position b)) (table (bus_bar c.args.sub.now c.args.measures c.args.buses.now c.args.blocks.now c.args.frames.now) n)) e) c.loop-i.invariant.points

pub returns-clause-bars_after : goal.returns-clause-bars_after
unfolding bars_in
returns-clause-bars_after c = let e : c.loop-i.i ≡ length c.args.sub.now = omega arith in all_written _ _ _ _ _ (ap (λ n. flat bar_numbers (table (bus_bar c.args.sub.now c.args.measures c.args.buses.now c.args.blocks.now c.args.frames.now) n)) e) c.loop-i.invariant.bars
