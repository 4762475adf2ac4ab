-- What the loops of `routing::exits::write_exits` keep.
use Rattle.routing.proofs.exits.Keeping.{ExitedTo}
use Rattle.routing.proofs.exits.write_exits.Given as goal

abbrev pub invariant-loop-e : goal.invariant-loop-e
invariant-loop-e l = ExitedTo l.network.lists.sub.now l.network.lists.from.now l.network.lists.to.now l.network.lists.service.now l.measures l.ends l.blocks l.frames l.initial.places l.places l.e
