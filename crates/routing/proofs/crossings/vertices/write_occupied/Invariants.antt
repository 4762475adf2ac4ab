-- What the loops of `crossings::vertices::write_occupied` keep.
use Prim.Native.Nat.{◌≤◌}
use Rattle.routing.proofs.crossings.Occupied.{Noted}
use Rattle.routing.proofs.crossings.vertices.write_occupied.Given as goal

abbrev pub invariant-loop-s : goal.invariant-loop-s
invariant-loop-s l = (l.r ≤ l.s) × Noted l.station_count l.initial.stations l.s l.stations l.r
