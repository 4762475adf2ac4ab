-- What the loop of `routing::rounds::space::round` keeps.
use mathlib.Core.Path.{◌≡◌}
use Rattle.routing.specs.Stages.RoundLists.{spaced_in}
use Rattle.routing.specs.Stages.Lent.{fixed_lists}
use Rattle.routing.proofs.rounds.space.round.Given as goal

abbrev pub invariant-loop-c : goal.invariant-loop-c
invariant-loop-c l = l.along ≡ spaced_in l.input.occupied (fixed_lists l.input.fixed) l.c l.initial.along
