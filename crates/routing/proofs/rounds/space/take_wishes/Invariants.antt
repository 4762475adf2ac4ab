-- What the loop of `routing::rounds::space::take_wishes` keeps.
use Prim.Native.Nat.{◌+◌}
use Rattle.routing.specs.Stages.RoundLists.{wish_in}
use Rattle.routing.specs.Stages.Lent.{fixed_lists}
use Rattle.channels.specs.Stages.Grouped.{member_in}
use Rattle.routing.proofs.rounds.Pointing.{TabledTo}
use Rattle.routing.proofs.rounds.space.take_wishes.Given as goal

abbrev pub invariant-loop-i : goal.invariant-loop-i
invariant-loop-i l = TabledTo (λ k. wish_in (fixed_lists l.fixed) l.along (member_in l.fixed.crossed.numbers.now (l.start + k))) l.initial.ways l.ways l.i
