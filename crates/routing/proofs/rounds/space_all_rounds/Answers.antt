-- Answers for `routing::rounds::space_all_rounds`.
use native.Mathlib.Omega.{arith}
use lib.Seq.{length-take-le}
use Rattle.routing.proofs.rounds.Ends.{cornered_all, points_are}
use Rattle.routing.proofs.rounds.space_all_rounds.Goals as goal

pub write_channels-requires-clause-half_edges_cornered : goal.write_channels-requires-clause-half_edges_cornered
write_channels-requires-clause-half_edges_cornered c = let z = length-take-le c.args.counts.crossings c.args.keys.now (omega (arith, c.requires.keys_fit)) in cornered_all _ _ _ _ _ _ _ _ _ _ _ _ _ _ _ _ _ _ _ c.requires.entered _ _ c.args.centres.now (rw z at c.group.ensures)

pub returns-clause-ways_after : goal.returns-clause-ways_after
returns-clause-ways_after c = let z = length-take-le c.args.counts.crossings c.args.keys.now (omega (arith, c.requires.keys_fit)) in points_are _ _ _ _ _ _ _ _ _ _ _ _ _ _ _ _ _ _ _ c.requires.entered _ _ _ (rw z at c.group.ensures) c.write_channels.ensures _ _ c.rounds.ensures _ c.put_points.ensures
