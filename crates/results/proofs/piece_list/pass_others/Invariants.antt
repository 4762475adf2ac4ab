-- What the loops of `results::piece_list::pass_others` keep.
use Rattle.results.proofs.piece_list.Passes.{Others}
use Rattle.results.proofs.piece_list.pass_others.Given as goal

abbrev pub invariant-loop-e : goal.invariant-loop-e
invariant-loop-e l = Others l.network.lists.sub.now l.laid.measures l.laid.buses.now l.laid.ends.now l.laid.blocks.now l.frames l.network.lists.from.now l.network.lists.to.now l.network.lists.service.now l.write l.initial.next l.initial.path l.initial.numbers l.initial.branches l.e l.next l.path l.numbers l.branches
