-- What the loops of `results::piece_list::lines::lead_lines` keep.
use Rattle.runs.specs.Stages.Lent.{run_lists}
use Rattle.results.proofs.piece_list.Passes.{Batches}
use Rattle.results.proofs.piece_list.lines.lead_lines.Given as goal

abbrev pub invariant-loop-start : goal.invariant-loop-start
invariant-loop-start l = Batches (run_lists l.network.lists l.laid l.obstacles) l.network.lists.from.now l.network.lists.to.now l.network.lists.service.now l.write l.initial.next l.initial.path l.initial.numbers l.initial.branches l.start l.next l.path l.numbers l.branches
