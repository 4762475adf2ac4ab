-- What the loop of `routing::rounds::space::rounds` keeps.
use mathlib.Core.Path.{◌≡◌}
use Rattle.routing.specs.Stages.RoundLists.{rounds_in}
use Rattle.routing.specs.Stages.Lent.{fixed_lists}
use Rattle.routing.proofs.rounds.space.rounds.Given as goal

abbrev pub invariant-loop : goal.invariant-loop
invariant-loop l = l.along ≡ rounds_in l.input.occupied (fixed_lists l.input.fixed) l.input.channels l.counter l.initial.along
