-- Answers for `finish::write`.
use native.Mathlib.Omega.{arith}
use Rattle.finish.proofs.Drafts.{room_if, drew}
use Rattle.finish.proofs.write.Goals as goal

pub write_pieces-requires-clause-has_room : goal.write_pieces-requires-clause-has_room
write_pieces-requires-clause-has_room c =
    let r =
    room_if _ _ _ _ _ _ _ _ _ _ _ _ _ c.requires.measured c.requires.charted _ c.requires.guided _
    c.in_ok-plot.ensures
    in
    (omega (arith, r.0, c.requires.result_room.5), omega (arith, r.1, c.requires.result_room.6))

pub returns-clause-drew : goal.returns-clause-drew
returns-clause-drew c =
    drew _ _ _ _ _ _ _ _ _ _ _ _ _ c.requires.measured c.requires.charted _ c.requires.guided _
    c.in_ok-plot.ensures _ _ _ _ _ _ _ _ c.write_buses.ensures.positions_after c.write_buses.ensures.bars_after
    c.write_stations.ensures.boxes_after c.write_stations.ensures.scales_after c.write_roles.ensures
    c.write_pieces.ensures.numbers_after c.write_pieces.ensures.branches_after
