-- What the loops of `routing::rounds::space::write_channels` keep.
use Rattle.routing.proofs.rounds.Ranges.{RangedTo}
use Rattle.routing.proofs.rounds.space.write_channels.Given as goal

abbrev pub invariant-loop-d : goal.invariant-loop-d
invariant-loop-d l = RangedTo l.unit l.blocks l.frames l.stations l.corners l.branch_count l.ends l.vertex_count l.d l.initial.centres l.centres
