-- What the loop of `routing::rounds::space::put_places` keeps.
use Prim.Native.Nat.{◌+◌}
use Rattle.channels.specs.Stages.Grouped.{member_in}
use Rattle.routing.proofs.rounds.Putting.{Putting}
use Rattle.routing.proofs.rounds.space.put_places.Given as goal

abbrev pub invariant-loop-i : goal.invariant-loop-i
invariant-loop-i l = Putting (λ k. member_in l.numbers (l.start + k)) l.order l.places l.initial.along l.along l.i
